-- What a call has promised, by the way that it went.
use Rattle.std.proofs.Common.{◌≡◌, ◌⊎◌, inl, inr, ℕ, List, sym, subst, ◌∙◌}
use Rattle.std.specs.Prelude.{Some}
use Rattle.edge_io.specs.Count.{Rose, one_more}
use Rattle.edge_io.specs.Written.{Gains, GainsFront}
use Rattle.c_language.specs.Words.{Bytes}
use Rattle.c_lex.specs.declared.fault.LexFault.TheVariants as lex
use Rattle.c_parse.specs.declared.parse_fault.ParseFault.TheVariants as parse
use Rattle.c_types.specs.declared.rule_fault.RuleFault.TheVariants as rule
use Rattle.call_words.specs.Requests.{Asked, asked, asked_of, file_in, lines_in}
use Rattle.slicer_top.specs.declared.refusal.Refusal.{Refusal}
use Rattle.slicer_top.specs.declared.refusal.Refusal.TheVariants as refusal
use Rattle.slicer_top.specs.declared.status.Status.{Status}
use Rattle.slicer_top.specs.declared.status.Status.TheVariants as status
use Rattle.slicer_top.specs.Lines as lines
use Rattle.slicer_top.specs.Reports.{IsReported, PutsLine, status_of, words_of}
use Rattle.slicer_top.specs.Seen.{ShelfSeen, SinkSeen}
use Rattle.slicer_top.proofs.Promised.{asked_is}
use Rattle.lines_top.specs.Promises.{CutsDue, IsDue, LinesPromises, PutsDue, WritesAsked}
use Rattle.lines_top.specs.Puts.{IsPut}
use Rattle.lines_top.specs.Texts.{IsCause, IsWritten, OfFile}
use Rattle.lines_top.specs.Words.{AskForLines, as_slice, file_of, lines_of}

-- a status of which a line is told, where nothing is written
abbrev pub IsTold : Status → Type 0
IsTold status.Done = ⊥
IsTold status.Refused = Unit {0}
IsTold status.Usage = Unit {0}
IsTold status.ReadFault = Unit {0}
IsTold status.WriteFault = ⊥
IsTold status.NoMemory = Unit {0}
IsTold status.Undefined = Unit {0}
IsTold status.Steps = Unit {0}
IsTold status.Limit = Unit {0}
IsTold status.TooLong = Unit {0}

refusals_told : (r : Refusal) → IsTold (status_of r)
refusals_told refusal.Unreadable = tt
refusals_told refusal.TooLong = tt
refusals_told refusal.NoInput = tt
refusals_told refusal.LongInput = tt
refusals_told (refusal.Lex (lex.BadByte n)) = tt
refusals_told (refusal.Lex (lex.BadNumber n)) = tt
refusals_told (refusal.Lex (lex.OpenComment n)) = tt
refusals_told (refusal.Lex lex.NoMemory) = tt
refusals_told (refusal.Parse (parse.LeftOut token n)) = tt
refusals_told (refusal.Parse (parse.Syntax n)) = tt
refusals_told (refusal.Parse (parse.Nesting n)) = tt
refusals_told (refusal.Parse parse.NoMemory) = tt
refusals_told (refusal.Check (rule.Rule m n)) = tt
refusals_told (refusal.Check (rule.Limit name)) = tt
refusals_told (refusal.Check rule.NoMemory) = tt
refusals_told (refusal.NoStart line) = tt
refusals_told (refusal.Graph name) = tt
refusals_told refusal.TooMany = tt
refusals_told (refusal.UndefinedAct line statement) = tt
refusals_told refusal.MoreSteps = tt
refusals_told refusal.NoMemory = tt

module _ (words : List Bytes) (shelf : ShelfSeen) (out err : SinkSeen) (answer : Status) where
  abbrev Puts : Status → Bytes → Type 0
  Puts due line = PutsLine err.faults err.faults' err.written err.written' due line answer

  abbrev Tells : Type 0
  Tells = PutsDue words shelf out err answer ⊎ ((answer ≡ status.WriteFault) × CutsDue words shelf out err)

  line_tells : (due : Status) (line : Bytes) → IsDue words shelf out due line → Puts due line → Tells
  line_tells due line is (inl put) = inl (line, subst (λ s. IsDue words shelf out s line) (sym put.0) is, put.1)
  line_tells due line is (inr cut) = inr (cut.0, (due, line, is, cut.1))

  -- ---- nothing was written

  not_done : (due : Status) (line : Bytes) → IsTold due → Puts due line → answer ≡ status.Done → ⊥
  not_done due line told (inl put) e = subst IsTold (sym put.0 ∙ e) told
  not_done due line told (inr cut) e = let d : status.WriteFault ≡ status.Done = sym cut.0 ∙ e in cc

  rose : (due : Status) (line : Bytes) → IsTold due → Puts due line → answer ≡ status.WriteFault → Rose err.faults err.faults'
  rose due line told (inl put) e = absurd (subst IsTold (sym put.0 ∙ e) told)
  rose due line told (inr cut) e = cut.1.0

  -- the sinks and the shelf where nothing was written
  pub record IsQuiet : Type 0 where
    pub out_stays : out.stays
    pub contents : shelf.contents' ≡ shelf.contents
    pub fetched : (shelf.fetches' ≡ shelf.fetches) ⊎ (shelf.fetches' ≡ one_more shelf.fetches)
    pub unasked : (AskForLines words → ⊥) → shelf.stays

  pub line_promised : (due : Status) (line : Bytes) → IsTold due → IsDue words shelf out due line → IsQuiet → Puts due line → LinesPromises words shelf out err answer
  line_promised due line told is quiet put = record {
    grammar = λ e. absurd (not_done due line told put e);
    done = λ e. absurd (not_done due line told put e);
    tells = λ other. line_tells due line is put;
    silent = λ e. absurd (not_done due line told put e);
    unwritten = λ other failed. quiet.out_stays;
    cut = λ e. inl (quiet.out_stays, rose due line told put e);
    contents = quiet.contents;
    fetched = quiet.fetched;
    unasked = quiet.unasked;
  }

  -- a refusal was told, or that memory was wanting for its line; of what the words ask for
  pub refused_promised : (a : Asked) (r : Refusal) → asked (as_slice words) ≡ Some a → AskForLines words
      → IsCause shelf.contents shelf.faults shelf.faults' shelf.long_files shelf.long_files' (file_in a) (lines_in a) r
      → IsQuiet → IsReported err.faults err.faults' err.written err.written' a r answer → LinesPromises words shelf out err answer
  refused_promised a r is asks cause quiet reported = told r (subst (λ b. IsCause shelf.contents shelf.faults shelf.faults' shelf.long_files shelf.long_files' (file_in b) (lines_in b) r) same cause) (subst (λ b. IsReported err.faults err.faults' err.written err.written' b r answer) same reported)
    where
      same : a ≡ asked_of (as_slice words)
      same = asked_is (as_slice words) a is

      told : (r : Refusal) → IsCause shelf.contents shelf.faults shelf.faults' shelf.long_files shelf.long_files' (file_of words) (lines_of words) r
          → IsReported err.faults err.faults' err.written err.written' (asked_of (as_slice words)) r answer → LinesPromises words shelf out err answer
      told r cause (inl put) = line_promised (status_of r) (words_of (asked_of (as_slice words)) r) (refusals_told r) (IsDue.refused r asks cause) quiet put
      told r cause (inr put) = line_promised status.NoMemory lines.out_of_memory tt IsDue.no_memory quiet put

  -- ---- what is asked for was made

  of_file : (P Q : Bytes → Type 0) → ((text : Bytes) → P text → Q text) → OfFile shelf.contents (file_of words) P → OfFile shelf.contents (file_of words) Q
  of_file P Q f (text, given, (short, holds)) = (text, given, (short, f text holds))

  -- it was put, or the put failed
  pub put_promised : (a : Asked) (written : Bytes) → asked (as_slice words) ≡ Some a → AskForLines words → OfFile shelf.contents (file_in a) (λ text. IsWritten text (lines_in a) written)
      → shelf.contents' ≡ shelf.contents → shelf.fetches' ≡ one_more shelf.fetches → IsPut written out err answer → LinesPromises words shelf out err answer
  put_promised a written is asks made contents fetched put = promised put
    where
      there : OfFile shelf.contents (file_of words) (λ text. IsWritten text (lines_of words) written)
      there = subst (λ b. OfFile shelf.contents (file_in b) (λ text. IsWritten text (lines_in b) written)) (asked_is (as_slice words) a is) made

      whole : (P : Bytes → Type 0) → P written → WritesAsked words shelf P
      whole P gained = of_file (λ text. IsWritten text (lines_of words) written) (λ text. (w : Bytes) × IsWritten text (lines_of words) w × P w) (λ text holds. (written, holds, gained)) there

      promised : IsPut written out err answer → LinesPromises words shelf out err answer
      promised (inl all) = record {
        grammar = λ e. asks;
        done = λ e. whole (Gains out.written out.written') all.gained;
        tells = λ other. absurd (other all.is);
        silent = λ e. all.silent;
        unwritten = λ other failed. absurd (other all.is);
        cut = λ e. absurd (let d : status.Done ≡ status.WriteFault = sym all.is ∙ e in cc);
        contents = contents;
        fetched = inr fetched;
        unasked = λ others. absurd (others asks);
      }
      promised (inr front) = record {
        grammar = λ e. asks;
        done = λ e. absurd (let d : status.WriteFault ≡ status.Done = sym front.is ∙ e in cc);
        tells = λ other. line_tells status.WriteFault lines.cannot_write (IsDue.unwritten asks front.rose) (elim front.told [
          | inl gained ↦ inl (front.is, gained)
          | inr cut ↦ inr (front.is, cut)
        ]);
        silent = λ e. absurd (let d : status.WriteFault ≡ status.Done = sym front.is ∙ e in cc);
        unwritten = λ other failed. absurd (failed front.is);
        cut = λ e. inr (front.rose, whole (GainsFront out.written out.written') front.front);
        contents = contents;
        fetched = inr fetched;
        unasked = λ others. absurd (others asks);
      }
