-- What a call has promised, by the way that it went.
use Rattle.std.proofs.Common.{◌≡◌, ◌⊎◌, inl, inr, ℕ, List, refl, sym, ap, subst, ◌∙◌}
use Rattle.std.specs.Prelude.{Option, None, Some, IfSome, unwrap_or, []}
use Rattle.edge_io.specs.Contents.{Told}
use Rattle.edge_io.specs.Count.{Rose}
use Rattle.edge_io.specs.Written.{Gains}
use Rattle.big_programs.specs.Generated.{generated}
use Rattle.c_language.specs.Words.{Bytes}
use Rattle.c_tree.specs.declared.program.Program.{Program}
use Rattle.call_words.specs.Grammar.{IsInGrammar}
use Rattle.call_words.specs.Requests.{Asked, asked, asked_of}
use Rattle.c_lex.specs.declared.fault.LexFault.TheVariants as lex
use Rattle.c_parse.specs.declared.parse_fault.ParseFault.TheVariants as parse
use Rattle.c_types.specs.declared.rule_fault.RuleFault.TheVariants as rule
use Rattle.slicer_top.specs.declared.refusal.Refusal.{Refusal}
use Rattle.slicer_top.specs.declared.refusal.Refusal.TheVariants as refusal
use Rattle.slicer_top.specs.declared.status.Status.{Status}
use Rattle.slicer_top.specs.declared.status.Status.TheVariants as status
use Rattle.slicer_top.specs.Due.{IsDue}
use Rattle.slicer_top.specs.Files.{AreFetches, AreShort, NamesText, OfFiles}
use Rattle.slicer_top.specs.Lines as lines
use Rattle.slicer_top.specs.Promises.{CallPromises, Outcome, Promises}
use Rattle.slicer_top.specs.Reports.{IsCause, IsMissing, IsReason, IsReported, PutsLine, status_of, words_of}
use Rattle.slicer_top.specs.Runs.{RunEnds}
use Rattle.slicer_top.specs.Seen.{ShelfSeen, SinkSeen, shelf_seen, sink_seen}
use Rattle.slicer_top.specs.Slices.{AreWritten, HasStarts}
use Rattle.slicer_top.specs.Statuses.{IsOrYields}
use Rattle.slicer_top.specs.Writing.{Wrote}
use Rattle.slicer_top.proofs.Big.{big_named, big_starts}
use Rattle.slicer_top.proofs.Due.{Cause, line_tells, report_tells, tells_long, written_tells}
use Rattle.slicer_top.proofs.Files.{fault_or_reason, lacking_input_is, lacking_is, longer_input_is, longer_is, of_files, of_files_lacks, of_files_lacks_input, of_files_longer, of_files_longer_input, of_files_map}
use Rattle.slicer_top.proofs.ReaderLaws.{above_lacks, one_program}
use Rattle.slicer_top.proofs.Reasons.{ended_more, ended_undefined, made_ends, more_status, refused_for_memory, refused_without_fault, run_reason, undefined_status}
use Rattle.slicer_top.proofs.Told.{ends, ends_with, is_above, is_refused, names_it}

-- ---- kinds of statuses

-- before a file is fetched
abbrev IsEarly : Status → Type 0
IsEarly status.Done = ⊥
IsEarly status.Refused = ⊥
IsEarly status.Usage = Unit {0}
IsEarly status.ReadFault = ⊥
IsEarly status.WriteFault = Unit {0}
IsEarly status.NoMemory = Unit {0}
IsEarly status.Undefined = ⊥
IsEarly status.Steps = ⊥
IsEarly status.Limit = ⊥
IsEarly status.TooLong = ⊥

-- once what is asked for is made
abbrev IsLate : Status → Type 0
IsLate status.Done = Unit {0}
IsLate status.Refused = ⊥
IsLate status.Usage = ⊥
IsLate status.ReadFault = ⊥
IsLate status.WriteFault = Unit {0}
IsLate status.NoMemory = ⊥
IsLate status.Undefined = ⊥
IsLate status.Steps = ⊥
IsLate status.Limit = ⊥
IsLate status.TooLong = ⊥

-- of a refusal
abbrev IsOwn : Status → Type 0
IsOwn status.Done = ⊥
IsOwn status.Refused = Unit {0}
IsOwn status.Usage = ⊥
IsOwn status.ReadFault = Unit {0}
IsOwn status.WriteFault = ⊥
IsOwn status.NoMemory = Unit {0}
IsOwn status.Undefined = Unit {0}
IsOwn status.Steps = Unit {0}
IsOwn status.Limit = Unit {0}
IsOwn status.TooLong = Unit {0}

module _ (words : List Bytes) (shelf : ShelfSeen) (out err : SinkSeen) (answer : Status) where
  abbrev Yields : Status → Type 0
  Yields wanted = IsOrYields err.faults err.faults' answer wanted

  -- ---- nothing was done

  pub record IsUndone : Type 0 where
    pub shelf_stays : shelf.stays
    pub shelf_faults : shelf.faults' ≡ shelf.faults
    pub shelf_fetches : shelf.fetches' ≡ shelf.fetches
    pub contents : shelf.contents' ≡ shelf.contents
    pub out_stays : out.stays
    pub out_faults : out.faults' ≡ out.faults

  early : IsUndone → IsEarly answer → (answer ≡ status.Usage → IsInGrammar words → ⊥) → ((IsInGrammar words → ⊥) → Yields status.Usage) → ((wanted : Status) → IsInGrammar words → Yields wanted)
      → (IsInGrammar words → (Rose err.faults err.faults' → ⊥) → answer ≡ status.NoMemory) → (IsInGrammar words → err.takes 14 → (answer ≡ status.NoMemory) × (err.faults' ≡ err.faults))
      → (answer ≡ status.WriteFault → Rose err.faults err.faults') → Outcome words shelf out err answer
  early undone is_early usage others yields calm taken failed = record {
    usage = usage;
    other_words = others;
    unasked = λ nf. undone.shelf_stays;
    lacking = λ name g named lacks. yields status.ReadFault g;
    lacking_input = λ name g there is lacks. yields status.ReadFault g;
    too_long = λ e. absurd (subst IsEarly e is_early);
    longer_file = λ name g named more. inl (yields status.TooLong g);
    longer_input = λ name g there is more. inl (yields status.TooLong g);
    no_slice = λ text input named below none. inl (inl (yields status.Refused named.in_grammar));
    above = λ text input name named above. inl (yields status.Limit named.in_grammar);
    names_limit = λ text input name named above e. absurd (subst IsEarly e is_early);
    undefined_act = λ text input p statement named starts act. inl (yields status.Undefined named.in_grammar);
    more_steps = λ text input p named starts more. inl (yields status.Steps named.in_grammar);
    done = λ e. absurd (subst IsEarly e is_early);
    complete = λ text input named starts shelf_calm out_calm err_calm. inr (calm named.in_grammar err_calm);
    complete_big = λ seed size workers g is small shelf_calm out_calm err_calm. inr (calm g err_calm);
    faultless = λ text input named starts never room takes.
        let free = taken named.in_grammar takes in
        record { ends = inr free.0; shelf_stays = undone.shelf_faults; out_stays = undone.out_faults; err_stays = free.1 };
    write_fault = λ e. inr (failed e);
    unwritten = λ not_done not_failed. undone.out_stays;
    cut = λ e. inl (undone.out_stays, failed e);
    silent = λ e. absurd (subst IsEarly e is_early);
    contents = undone.contents;
    fetched = inl undone.shelf_fetches;
  }

  pub usage_promised : IsUndone → (IsInGrammar words → ⊥) → PutsLine err.faults err.faults' err.written err.written' status.Usage lines.usage answer → Promises words shelf out err answer
  usage_promised undone nf (inl put) = record {
    outcome = early undone (subst IsEarly (sym put.0) tt) (λ e. nf) (λ n. inl put.0) (λ wanted g. absurd (nf g)) (λ g. absurd (nf g)) (λ g. absurd (nf g))
        (λ e. absurd (let d : status.Usage ≡ status.WriteFault = sym put.0 ∙ e in cc));
    tells = line_tells words shelf out err answer status.Usage lines.usage (IsDue.usage nf) (inl put);
  }
  usage_promised undone nf (inr cut) = record {
    outcome = early undone (subst IsEarly (sym cut.0) tt) (λ e. nf) (λ n. inr (inr (cut.0, cut.1.0))) (λ wanted g. absurd (nf g)) (λ g. absurd (nf g)) (λ g. absurd (nf g)) (λ e. cut.1.0);
    tells = line_tells words shelf out err answer status.Usage lines.usage (IsDue.usage nf) (inr cut);
  }

  pub memory_promised : IsUndone → PutsLine err.faults err.faults' err.written err.written' status.NoMemory lines.out_of_memory answer
      → (err.takes 14 → (answer ≡ status.NoMemory) × (err.faults' ≡ err.faults)) → Promises words shelf out err answer
  memory_promised undone (inl put) taken = record {
    outcome = early undone (subst IsEarly (sym put.0) tt) (λ e. absurd (let d : status.NoMemory ≡ status.Usage = sym put.0 ∙ e in cc)) (λ n. inr (inl put.0)) (λ wanted g. inr (inl put.0))
        (λ g calm. put.0) (λ g. taken) (λ e. absurd (let d : status.NoMemory ≡ status.WriteFault = sym put.0 ∙ e in cc));
    tells = line_tells words shelf out err answer status.NoMemory lines.out_of_memory IsDue.no_memory (inl put);
  }
  memory_promised undone (inr cut) taken = record {
    outcome = early undone (subst IsEarly (sym cut.0) tt) (λ e. absurd (let d : status.WriteFault ≡ status.Usage = sym cut.0 ∙ e in cc)) (λ n. inr (inr (cut.0, cut.1.0))) (λ wanted g. inr (inr (cut.0, cut.1.0)))
        (λ g calm. absurd (calm cut.1.0)) (λ g. taken) (λ e. cut.1.0);
    tells = line_tells words shelf out err answer status.NoMemory lines.out_of_memory IsDue.no_memory (inr cut);
  }

  -- ---- what is asked for was made

  late : (texts : List Bytes) → Wrote texts out err answer → IsLate answer
  late texts wrote = elim wrote.ends [
    | inl all ↦ subst IsLate (sym all.is) tt
    | inr front ↦ subst IsLate (sym front.is) tt
  ]

  -- the texts that were made of the files, as the words ask
  abbrev AreMade : List Bytes → Type 0
  AreMade texts = OfFiles shelf.contents (asked_of words) (λ text input. AreShort text input × AreWritten text (asked_of words) input texts)

  written : (texts : List Bytes) (text input : Bytes) → AreMade texts → NamesText words shelf.contents text input → AreWritten text (asked_of words) input texts
  written texts text input made named = (of_files shelf.contents (asked_of words) text input _ named.holds named.holds_input made).1

  ended : (texts : List Bytes) (text input : Bytes) (p : Program) → AreMade texts → NamesText words shelf.contents text input → HasStarts text (asked_of words) p → RunEnds (asked_of words) p input
  ended texts text input p made named starts =
      let are = written texts text input made named in
      subst (λ q. RunEnds (asked_of words) q input) (one_program text are.program p are.built.reads starts.built.reads) (made_ends (asked_of words) are.program input texts are.are)

  written_outcome : (texts : List Bytes) → IsInGrammar words → AreMade texts → shelf.contents' ≡ shelf.contents → AreFetches (asked_of words) shelf.fetches shelf.fetches' → (shelf.never_fails → shelf.faults' ≡ shelf.faults) → Wrote texts out err answer
      → Outcome words shelf out err answer
  written_outcome texts g made contents once no_fault wrote =
      let is_late : IsLate answer = late texts wrote in
      record {
        usage = λ e. absurd (subst IsLate e is_late);
        other_words = λ nf. absurd (nf g);
        unasked = λ nf. absurd (nf g);
        lacking = λ name _ named lacks. absurd (of_files_lacks shelf.contents (asked_of words) name _ named made lacks);
        lacking_input = λ name _ there is lacks. absurd (of_files_lacks_input shelf.contents (asked_of words) name _ is made lacks);
        too_long = λ e. absurd (subst IsLate e is_late);
        longer_file = λ name _ named more. absurd (of_files_longer shelf.contents (asked_of words) name _ named made more);
        longer_input = λ name _ there is more. absurd (of_files_longer_input shelf.contents (asked_of words) name _ is made more);
        no_slice = λ text input named below none. let are = written texts text input made named in absurd (none are.program are.built are.starts);
        above = λ text input name named above.
            let are = written texts text input made named in absurd (above_lacks text (asked_of words) name above are.program are.built are.few);
        names_limit = λ text input name named above e. absurd (subst IsLate e is_late);
        undefined_act = λ text input p statement named starts act. absurd (ended_undefined (asked_of words) p input statement (ended texts text input p made named starts) act);
        more_steps = λ text input p named starts more. absurd (ended_more (asked_of words) p input (ended texts text input p made named starts) more);
        done = λ e. elim wrote.ends [
          | inl all ↦ of_files_map shelf.contents (asked_of words) _ _ (λ text input found. (texts, found.1, all.gained)) made
          | inr front ↦ absurd (let d : status.WriteFault ≡ status.Done = sym front.is ∙ e in cc)
        ];
        complete = λ text input named starts shelf_calm out_calm err_calm. elim wrote.ends [
          | inl all ↦ inl all.is
          | inr front ↦ absurd (out_calm front.rose)
        ];
        complete_big = λ seed size workers _ is small shelf_calm out_calm err_calm. elim wrote.ends [
          | inl all ↦ inl all.is
          | inr front ↦ absurd (out_calm front.rose)
        ];
        faultless = λ text input named starts never room takes.
            let calm = wrote.taken (room texts (written texts text input made named)) in
            record { ends = inl calm.is; shelf_stays = no_fault never; out_stays = calm.out_stays; err_stays = calm.err_stays };
        write_fault = λ e. elim wrote.ends [
          | inl all ↦ absurd (let d : status.Done ≡ status.WriteFault = sym all.is ∙ e in cc)
          | inr front ↦ inl front.rose
        ];
        unwritten = λ not_done not_failed. elim wrote.ends [
          | inl all ↦ absurd (not_done all.is)
          | inr front ↦ absurd (not_failed front.is)
        ];
        cut = λ e. elim wrote.ends [
          | inl all ↦ absurd (let d : status.Done ≡ status.WriteFault = sym all.is ∙ e in cc)
          | inr front ↦ inr (front.rose, of_files_map shelf.contents (asked_of words) _ _ (λ text input found. (texts, found.1, front.front)) made, front.told)
        ];
        silent = λ e. elim wrote.ends [
          | inl all ↦ all.silent
          | inr front ↦ absurd (let d : status.WriteFault ≡ status.Done = sym front.is ∙ e in cc)
        ];
        contents = contents;
        fetched = inr once;
      }

  pub written_promised : (texts : List Bytes) → IsInGrammar words → AreMade texts → shelf.contents' ≡ shelf.contents → AreFetches (asked_of words) shelf.fetches shelf.fetches' → (shelf.never_fails → shelf.faults' ≡ shelf.faults) → Wrote texts out err answer
      → Promises words shelf out err answer
  written_promised texts g made contents once no_fault wrote = record {
    outcome = written_outcome texts g made contents once no_fault wrote;
    tells = written_tells words shelf out err answer g texts wrote;
  }

  -- ---- the file gives nothing of what is asked

  own : (r : Refusal) → IsOwn (status_of r)
  own refusal.Unreadable = tt
  own refusal.TooLong = tt
  own refusal.NoInput = tt
  own refusal.LongInput = tt
  own (refusal.Lex (lex.BadByte n)) = tt
  own (refusal.Lex (lex.BadNumber n)) = tt
  own (refusal.Lex (lex.OpenComment n)) = tt
  own (refusal.Lex lex.NoMemory) = tt
  own (refusal.Parse (parse.LeftOut t n)) = tt
  own (refusal.Parse (parse.Syntax n)) = tt
  own (refusal.Parse (parse.Nesting n)) = tt
  own (refusal.Parse parse.NoMemory) = tt
  own (refusal.Check (rule.Rule m n)) = tt
  own (refusal.Check (rule.Limit n)) = tt
  own (refusal.Check rule.NoMemory) = tt
  own (refusal.Graph n) = tt
  own refusal.TooMany = tt
  own (refusal.NoStart n) = tt
  own (refusal.UndefinedAct n m) = tt
  own refusal.MoreSteps = tt
  own refusal.NoMemory = tt

  -- the status is the refusal's, or one to which each answer yields
  abbrev EndsAs : Refusal → Type 0
  EndsAs r = ((answer ≡ status_of r) × Gains err.written err.written' (words_of (asked_of words) r)) ⊎ (answer ≡ status.NoMemory) ⊎ ((answer ≡ status.WriteFault) × Rose err.faults err.faults')

  -- an answer that no refusal has, but for want of memory and a failed put
  not_own : (r : Refusal) → EndsAs r → IsOwn answer ⊎ ((answer ≡ status.WriteFault) × Rose err.faults err.faults')
  not_own r (inl put) = inl (subst IsOwn (sym put.0) (own r))
  not_own r (inr (inl memory)) = inl (subst IsOwn (sym memory) tt)
  not_own r (inr (inr cut)) = inr cut

  yields_for : (r : Refusal) (wanted : Status) → EndsAs r → (status_of r ≡ wanted) ⊎ (status_of r ≡ status.NoMemory) → Yields wanted
  yields_for r wanted (inl put) (inl is) = inl (put.0 ∙ is)
  yields_for r wanted (inl put) (inr memory) = inr (inl (put.0 ∙ memory))
  yields_for r wanted (inr (inl memory)) is = inr (inl memory)
  yields_for r wanted (inr (inr cut)) is = inr (inr cut)

  no_own : {A : Type 0} (r : Refusal) (wanted : Status) → EndsAs r → (IsOwn wanted → ⊥) → (wanted ≡ status.WriteFault → ⊥) → answer ≡ wanted → A
  no_own r wanted ending none no_fault e = elim (not_own r ending) [
    | inl is_own ↦ absurd (none (subst IsOwn e is_own))
    | inr cut ↦ absurd (no_fault (sym e ∙ cut.0))
  ]

  rose_of : (r : Refusal) → EndsAs r → answer ≡ status.WriteFault → Rose err.faults err.faults'
  rose_of r ending e = elim (not_own r ending) [
    | inl is_own ↦ absurd (subst IsOwn e is_own)
    | inr cut ↦ cut.1
  ]

  abbrev Reported : Refusal → Type 0
  Reported r = IsReported err.faults err.faults' err.written err.written' (asked_of words) r answer

  -- a fault of the shelf, or a reason in the text
  abbrev FaultOr : Refusal → Type 0 → Type 0
  FaultOr r A = ((status_of r ≡ status.ReadFault) × Rose shelf.faults shelf.faults') ⊎ A

  shows : (text input : Bytes) (r : Refusal) → Cause words shelf out r → NamesText words shelf.contents text input → FaultOr r (IsReason text (asked_of words) input r)
  shows text input r cause named = fault_or_reason shelf.contents (asked_of words) _ _ _ _ text input named.holds named.holds_input r cause

  with_reason : {A B : Type 0} (r : Refusal) → (A → B) → FaultOr r A → FaultOr r B
  with_reason r f (inl fault) = inl fault
  with_reason r f (inr reason) = inr (f reason)

  refused_outcome : (r : Refusal) → IsInGrammar words → Cause words shelf out r → Reported r → shelf.contents' ≡ shelf.contents → AreFetches (asked_of words) shelf.fetches shelf.fetches' → out.stays → out.faults' ≡ out.faults
      → (shelf.never_fails → shelf.faults' ≡ shelf.faults) → (shelf.never_fails → IsMissing shelf.contents (asked_of words) r)
      → (r ≡ refusal.NoMemory → err.takes 14 → (answer ≡ status.NoMemory) × (err.faults' ≡ err.faults)) → Outcome words shelf out err answer
  refused_outcome r g cause reported contents once out_stays out_faults no_fault missing taken =
      let a = asked_of words in
      let ending : EndsAs r = ends (asked_of words) err.faults err.faults' shelf.faults shelf.faults' err.written err.written' r answer reported in
      record {
        usage = no_own r status.Usage ending (λ is. is) (λ d. absurd cc);
        other_words = λ nf. absurd (nf g);
        unasked = λ nf. absurd (nf g);
        lacking = λ name _ named lacks. yields_for r status.ReadFault ending (lacking_is shelf.contents a _ _ _ _ name named r cause lacks);
        lacking_input = λ name _ there is lacks. yields_for r status.ReadFault ending (lacking_input_is shelf.contents a _ _ _ _ name is there r cause lacks);
        too_long = λ e. tells_long words shelf out err answer (report_tells words shelf out err answer g r cause reported) e;
        longer_file = λ name _ named more. longer r ending (longer_is shelf.contents a _ _ _ _ name named r cause more);
        longer_input = λ name _ there is more. longer r ending (longer_input_is shelf.contents a _ _ _ _ name is there r cause more);
        no_slice = λ text input named below none. is_refused a _ _ _ _ _ _ text input r answer below none (shows text input r cause named) reported;
        above = λ text input name named above. is_above a _ _ _ _ _ _ text input name r answer above (shows text input r cause named) reported;
        names_limit = λ text input name named above e. names_it a _ _ shelf.faults shelf.faults' _ _ text input name r answer above (shows text input r cause named) reported e;
        undefined_act = λ text input p statement named starts act.
            ends_with a _ _ _ _ _ _ status.Undefined answer r
            (with_reason r (λ reason. undefined_status a p input statement act r (run_reason text input a p r starts reason)) (shows text input r cause named)) reported;
        more_steps = λ text input p named starts more.
            ends_with a _ _ _ _ _ _ status.Steps answer r
            (with_reason r (λ reason. more_status a p input more r (run_reason text input a p r starts reason)) (shows text input r cause named)) reported;
        done = no_own r status.Done ending (λ is. is) (λ d. absurd cc);
        complete = λ text input named starts shelf_calm out_calm err_calm.
            inr (refused_for_memory shelf.contents a text input _ _ _ _ r named.holds named.holds_input starts cause _ _ _ _ answer shelf_calm err_calm reported);
        complete_big = λ seed size workers _ is small shelf_calm out_calm err_calm.
            let named = big_named words shelf.contents seed size workers g is in
            inr (refused_for_memory shelf.contents a (generated seed size) [] _ _ _ _ r named.holds named.holds_input (big_starts words seed size workers g is small) cause _ _ _ _ answer shelf_calm err_calm reported);
        faultless = λ text input named starts never room takes.
            let memory = refused_without_fault shelf.contents a text input _ _ _ _ r named.holds named.holds_input starts cause (missing never) in
            let told = taken memory takes in
            record { ends = inr told.0; shelf_stays = no_fault never; out_stays = out_faults; err_stays = told.1 };
        write_fault = λ e. inr (rose_of r ending e);
        unwritten = λ not_done not_failed. out_stays;
        cut = λ e. inl (out_stays, rose_of r ending e);
        silent = no_own r status.Done ending (λ is. is) (λ d. absurd cc);
        contents = contents;
        fetched = inr once;
      }
    where
      longer : (r : Refusal) → EndsAs r → (status_of r ≡ status.TooLong) ⊎ (status_of r ≡ status.NoMemory) ⊎ ((status_of r ≡ status.ReadFault) × Rose shelf.faults shelf.faults')
          → Yields status.TooLong ⊎ ((answer ≡ status.ReadFault) × Rose shelf.faults shelf.faults')
      longer r ending (inl is) = inl (yields_for r status.TooLong ending (inl is))
      longer r ending (inr (inl memory)) = inl (yields_for r status.TooLong ending (inr memory))
      longer r (inl put) (inr (inr fault)) = inr (put.0 ∙ fault.0, fault.1)
      longer r (inr (inl memory)) (inr (inr fault)) = inl (inr (inl memory))
      longer r (inr (inr cut)) (inr (inr fault)) = inl (inr (inr cut))

  pub refused_promised : (r : Refusal) → IsInGrammar words → Cause words shelf out r → Reported r → shelf.contents' ≡ shelf.contents → AreFetches (asked_of words) shelf.fetches shelf.fetches' → out.stays → out.faults' ≡ out.faults
      → (shelf.never_fails → shelf.faults' ≡ shelf.faults) → (shelf.never_fails → IsMissing shelf.contents (asked_of words) r)
      → (r ≡ refusal.NoMemory → err.takes 14 → (answer ≡ status.NoMemory) × (err.faults' ≡ err.faults)) → Promises words shelf out err answer
  refused_promised r g cause reported contents once out_stays out_faults no_fault missing taken = record {
    outcome = refused_outcome r g cause reported contents once out_stays out_faults no_fault missing taken;
    tells = report_tells words shelf out err answer g r cause reported;
  }

-- ---- a call of the program

pub calls_keep : {F O E : Type 0} (faults long_files fetches : F → ℕ) (contents : F → Told) (never_fails : F → Type 0) (out_faults : O → ℕ) (written : O → Option Bytes) (out_takes : O → ℕ → Type 0)
    (err_faults : E → ℕ) (told : E → Option Bytes) (err_takes : E → ℕ → Type 0)
    (words : List Bytes) (shelf shelf' : F) (out out' : O) (err err' : E) (ended : Option Status)
    → IfSome ended (Promises words (shelf_seen faults long_files fetches contents never_fails shelf shelf') (sink_seen out_faults written out_takes out out') (sink_seen err_faults told err_takes err err'))
    → (ended ≡ None → (shelf' ≡ shelf) × (out' ≡ out) × (err' ≡ err))
    → CallPromises words (shelf_seen faults long_files fetches contents never_fails shelf shelf') (sink_seen out_faults written out_takes out out') (sink_seen err_faults told err_takes err err') (unwrap_or ended status.NoMemory)
calls_keep faults long_files fetches contents never_fails out_faults written out_takes err_faults told err_takes words shelf shelf' out out' err err' (Some answer) promised untouched =
    record { outcome = promised.outcome; tells = inl promised.tells }
calls_keep faults long_files fetches contents never_fails out_faults written out_takes err_faults told err_takes words shelf shelf' out out' err err' None promised untouched =
    let same = untouched refl in
    record {
      outcome = early words _ _ _ status.NoMemory
          (record { shelf_stays = same.0; shelf_faults = ap faults same.0; shelf_fetches = ap fetches same.0; contents = ap contents same.0; out_stays = same.1; out_faults = ap out_faults same.1 })
          tt (λ e. absurd (let d : status.NoMemory ≡ status.Usage = e in cc)) (λ nf. inr (inl refl)) (λ wanted g. inr (inl refl)) (λ g calm. refl) (λ g takes. (refl, ap err_faults same.2))
          (λ e. absurd (let d : status.NoMemory ≡ status.WriteFault = e in cc));
      tells = inr (refl, same.2);
    }

-- ---- what the words ask for

pub asked_is : (words : List Bytes) (a : Asked) → asked words ≡ Some a → a ≡ asked_of words
asked_is words a e = sym (ap (λ o. unwrap_or o (Asked.slice [] [] 0)) e)

module _ (words : List Bytes) (shelf : ShelfSeen) (out err : SinkSeen) (answer : Status) (a : Asked) (g : IsInGrammar words) (is : a ≡ asked_of words) where
  pub written_for : (made put : List Bytes) → put ≡ made → OfFiles shelf.contents a (λ text input. AreShort text input × AreWritten text a input made)
      → shelf.contents' ≡ shelf.contents → AreFetches a shelf.fetches shelf.fetches' → (shelf.never_fails → shelf.faults' ≡ shelf.faults) → Wrote put out err answer → Promises words shelf out err answer
  written_for made put same of contents once no_fault wrote =
      written_promised words shelf out err answer made g
      (subst (λ b. OfFiles shelf.contents b (λ text input. AreShort text input × AreWritten text b input made)) is of)
      contents (subst (λ b. AreFetches b shelf.fetches shelf.fetches') is once) no_fault (subst (λ ts. Wrote ts out err answer) same wrote)

  pub refused_for : (r : Refusal) → IsCause shelf.contents a shelf.faults shelf.faults' shelf.long_files shelf.long_files' r
      → IsReported err.faults err.faults' err.written err.written' a r answer → shelf.contents' ≡ shelf.contents → AreFetches a shelf.fetches shelf.fetches' → out.stays → out.faults' ≡ out.faults
      → (shelf.never_fails → shelf.faults' ≡ shelf.faults) → (shelf.never_fails → IsMissing shelf.contents a r)
      → (r ≡ refusal.NoMemory → err.takes 14 → (answer ≡ status.NoMemory) × (err.faults' ≡ err.faults)) → Promises words shelf out err answer
  refused_for r cause reported contents once out_stays out_faults no_fault missing taken =
      refused_promised words shelf out err answer r g
      (subst (λ b. IsCause shelf.contents b shelf.faults shelf.faults' shelf.long_files shelf.long_files' r) is cause)
      (subst (λ b. IsReported err.faults err.faults' err.written err.written' b r answer) is reported)
      contents (subst (λ b. AreFetches b shelf.fetches shelf.fetches') is once) out_stays out_faults no_fault (λ never. subst (λ b. IsMissing shelf.contents b r) is (missing never)) taken
