-- The lines that are due for what a call has met, and what err gains of them.
use Rattle.std.proofs.Common.{◌≡◌, inl, inr, List, refl, sym, ◌∙◌, subst}
use Rattle.edge_io.specs.Count.{Rose}
use Rattle.c_language.specs.Words.{Bytes}
use Rattle.call_words.specs.Grammar.{IsInGrammar}
use Rattle.call_words.specs.Requests.{Asked, asked_of, file_in, input_of}
use Rattle.c_lex.specs.declared.fault.LexFault.TheVariants as lex
use Rattle.c_parse.specs.declared.parse_fault.ParseFault.TheVariants as parse
use Rattle.c_types.specs.declared.rule_fault.RuleFault.TheVariants as rule
use Rattle.slicer_top.specs.declared.refusal.Refusal.{Refusal}
use Rattle.slicer_top.specs.declared.refusal.Refusal.TheVariants.{Unreadable, TooLong, NoInput, LongInput, Lex, Parse, Check, NoStart, Graph, TooMany, UndefinedAct, MoreSteps, NoMemory}
use Rattle.slicer_top.specs.declared.status.Status.{Status}
use Rattle.slicer_top.specs.declared.status.Status.TheVariants as status
use Rattle.slicer_top.specs.Due.{IsDue, TellsDue}
use Rattle.slicer_top.specs.Lines as lines
use Rattle.slicer_top.specs.Lines.{PutOrCutOff}
use Rattle.slicer_top.specs.Reports.{IsCause, IsReported, PutsLine, status_of, words_of}
use Rattle.slicer_top.specs.Seen.{ShelfSeen, SinkSeen}
use Rattle.slicer_top.specs.Truths.{IsTrueOf}
use Rattle.slicer_top.specs.Writing.{Wrote}
use Rattle.slicer_top.proofs.Files.{NamesLong, NamesUnread, named_long, named_unread, of_files_map, text_long, text_unread}
use Rattle.slicer_top.proofs.Told.{IsOfText, is_true, shown}

-- a line of a text isn't one of TooLong
no_text_long : (text : Bytes) (at : Asked) (input told : Bytes) → IsTrueOf text at input status.TooLong told → ⊥
no_text_long text at input told holds = elim holds [ ]

-- where TooLong has a due line, the shelf found a file too long
long_rose : (words : List Bytes) (shelf : ShelfSeen) (out : SinkSeen) (told : Bytes) → IsDue words shelf out status.TooLong told → Rose shelf.long_files shelf.long_files'
long_rose words shelf out told (IsDue.too_long name g named rose more) = rose
long_rose words shelf out told (IsDue.of_files g (text, text_is, (input, input_is, (short, holds)))) = absurd (no_text_long text (asked_of words) input told holds)

module _ (words : List Bytes) (shelf : ShelfSeen) (out : SinkSeen) where
  abbrev asked : Asked
  asked = asked_of words

  abbrev pub Cause : Refusal → Type 0
  Cause r = IsCause shelf.contents asked shelf.faults shelf.faults' shelf.long_files shelf.long_files' r

  abbrev Due : Refusal → Type 0
  Due r = IsDue words shelf out (status_of r) (words_of asked r)

  due_of_text : IsInGrammar words → (r : Refusal) → IsOfText (status_of r) → Cause r → Due r
  due_of_text g r of cause = IsDue.of_files g (of_files_map shelf.contents asked _ _ (λ text input found. (found.0, is_true text input asked r of found.1)) (shown shelf.contents asked _ _ _ _ r of cause))

  due_unread : IsInGrammar words → (r : Refusal) → NamesUnread shelf.contents asked shelf.faults shelf.faults' shelf.long_files shelf.long_files' r → IsDue words shelf out status.ReadFault (words_of asked r)
  due_unread g r (name, named, fault, is) = subst (IsDue words shelf out status.ReadFault) (sym is) (IsDue.unreadable name g named fault)

  due_long : IsInGrammar words → (r : Refusal) → NamesLong shelf.contents asked shelf.faults shelf.faults' shelf.long_files shelf.long_files' r → IsDue words shelf out status.TooLong (words_of asked r)
  due_long g r (name, named, rose, more, is) = subst (IsDue words shelf out status.TooLong) (sym is) (IsDue.too_long name g named rose more)

  -- the line of a refusal that has its cause is due
  pub due_for : IsInGrammar words → (r : Refusal) → Cause r → Due r
  due_for g Unreadable cause = due_unread g Unreadable (text_unread shelf.contents asked shelf.faults shelf.faults' shelf.long_files shelf.long_files' (file_in asked) refl cause)
  due_for g TooLong cause = due_long g TooLong (text_long shelf.contents asked shelf.faults shelf.faults' shelf.long_files shelf.long_files' (file_in asked) refl cause)
  due_for g NoInput cause = due_unread g NoInput (named_unread shelf.contents asked shelf.faults shelf.faults' shelf.long_files shelf.long_files' (input_of asked) refl cause.0 cause.1)
  due_for g LongInput cause = due_long g LongInput (named_long shelf.contents asked shelf.faults shelf.faults' shelf.long_files shelf.long_files' (input_of asked) refl cause.0 cause.1)
  due_for g (Lex (lex.BadByte n)) cause = due_of_text g (Lex (lex.BadByte n)) tt cause
  due_for g (Lex (lex.BadNumber n)) cause = due_of_text g (Lex (lex.BadNumber n)) tt cause
  due_for g (Lex (lex.OpenComment n)) cause = due_of_text g (Lex (lex.OpenComment n)) tt cause
  due_for g (Lex lex.NoMemory) cause = IsDue.no_memory
  due_for g (Parse (parse.LeftOut t n)) cause = due_of_text g (Parse (parse.LeftOut t n)) tt cause
  due_for g (Parse (parse.Syntax n)) cause = due_of_text g (Parse (parse.Syntax n)) tt cause
  due_for g (Parse (parse.Nesting n)) cause = due_of_text g (Parse (parse.Nesting n)) tt cause
  due_for g (Parse parse.NoMemory) cause = IsDue.no_memory
  due_for g (Check (rule.Rule m n)) cause = due_of_text g (Check (rule.Rule m n)) tt cause
  due_for g (Check (rule.Limit name)) cause = due_of_text g (Check (rule.Limit name)) tt cause
  due_for g (Check rule.NoMemory) cause = IsDue.no_memory
  due_for g (NoStart n) cause = due_of_text g (NoStart n) tt cause
  due_for g (Graph name) cause = due_of_text g (Graph name) tt cause
  due_for g TooMany cause = due_of_text g TooMany tt cause
  due_for g (UndefinedAct n m) cause = due_of_text g (UndefinedAct n m) tt cause
  due_for g MoreSteps cause = due_of_text g MoreSteps tt cause
  due_for g NoMemory cause = IsDue.no_memory

module _ (words : List Bytes) (shelf : ShelfSeen) (out err : SinkSeen) (answer : Status) where
  abbrev Tells : Type 0
  Tells = TellsDue words shelf out err answer

  -- a due line was put, or its put failed
  pub line_tells : (due : Status) (told : Bytes) → IsDue words shelf out due told → PutsLine err.faults err.faults' err.written err.written' due told answer → Tells
  line_tells due told is (inl put) = λ other. inl (told, subst (λ s. IsDue words shelf out s told) (sym put.0) is, put.1)
  line_tells due told is (inr cut) = λ other. inr (cut.0, (due, told, is, cut.1))

  pub tells_long : Tells → answer ≡ status.TooLong → Rose shelf.long_files shelf.long_files'
  tells_long tells is = elim (tells (λ done. absurd (let e : status.TooLong ≡ status.Done = sym is ∙ done in cc))) [
    | inl put ↦ long_rose words shelf out put.0 (subst (λ s. IsDue words shelf out s put.0) is put.1)
    | inr cut ↦ absurd (let e : status.TooLong ≡ status.WriteFault = sym is ∙ cut.0 in cc)
  ]

  -- a refusal was told, or that memory was wanting for its line
  pub report_tells : IsInGrammar words → (r : Refusal) → Cause words shelf out r → IsReported err.faults err.faults' err.written err.written' (asked_of words) r answer → Tells
  report_tells g r cause (inl told) = line_tells (status_of r) (words_of (asked_of words) r) (due_for words shelf out g r cause) told
  report_tells g r cause (inr told) = line_tells status.NoMemory lines.out_of_memory IsDue.no_memory told

  -- the texts were put whole, or a put of one failed and that was told
  fault_tells : answer ≡ status.WriteFault → IsDue words shelf out status.WriteFault lines.cannot_write → PutOrCutOff err.faults err.faults' err.written err.written' lines.cannot_write → Tells
  fault_tells is due (inl gained) = line_tells status.WriteFault lines.cannot_write due (inl (is, gained))
  fault_tells is due (inr cut) = line_tells status.WriteFault lines.cannot_write due (inr (is, cut))

  pub written_tells : IsInGrammar words → (texts : List Bytes) → Wrote texts out err answer → Tells
  written_tells g texts wrote = elim wrote.ends [
    | inl all ↦ λ other. absurd (other all.is)
    | inr front ↦ fault_tells front.is (IsDue.unwritten g front.rose) front.told
  ]
