-- What a text with a program, a statement on each line and a run shows of a refusal.
use Rattle.std.proofs.Common.{◌≡◌, ◌⊎◌, inl, inr, ℕ, ◌≤◌, ◌<◌, List, [], ◌∷◌, length, refl, sym, ap, subst, ◌∙◌, arith}
use Rattle.std.specs.Prelude.{Option, Some, IfSome, Result, Ok, Err, IfErr, IsErrAnd}
use Rattle.edge_io.specs.Contents.{Told}
use Rattle.edge_io.specs.Count.{Rose}
use Rattle.c_language.specs.Words.{Bytes}
use Rattle.call_words.specs.Requests.{Asked, file_in, input_of, lines_in}
use Rattle.c_tree.specs.declared.limits.LimitName.{LimitName}
use Rattle.c_tree.specs.declared.program.Program.{Program}
use Rattle.c_meaning.specs.Meaning.{Answer, Ended, Undefined, More, Trace}
use Rattle.dep_model.specs.declared.graph_fault.GraphFault.{GraphFault}
use Rattle.dep_model.specs.declared.graph_fault.GraphFault.TheVariants as graph
use Rattle.c_reader.specs.Reading.{ReadsProgram}
use Rattle.c_reader.specs.Refusals.{IsRight}
use Rattle.c_reader.specs.declared.refusal.ReadRefusal.{ReadRefusal}
use Rattle.c_reader.specs.declared.refusal.ReadRefusal.TheVariants as read
use Rattle.run_text.specs.Answers.{EndsWith, HasEnded}
use Rattle.slice_engine.specs.Slice.{HasStart}
use Rattle.slicer_top.specs.declared.refusal.Refusal.{Refusal}
use Rattle.slicer_top.specs.declared.refusal.Refusal.TheVariants.{Unreadable, TooLong, NoInput, LongInput, Lex, Parse, Check, NoStart, Graph, TooMany, UndefinedAct, MoreSteps, NoMemory}
use Rattle.slicer_top.specs.declared.status.Status.{Status}
use Rattle.slicer_top.specs.declared.status.Status.TheVariants as status
use Rattle.slicer_top.specs.Files.{HoldsGiven, text_made}
use Rattle.slicer_top.specs.Runs.{IsRunFault, IsUndefined, IsUndefinedAt, NeedsMore, RunEnds, run_of}
use Rattle.slicer_top.specs.Slices.{AreTextsFor, HasStarts, IsAboveFor, IsOneText, StartsSome, line_at}
use Rattle.slicer_top.specs.Statuses.{NoFault}
use Rattle.slicer_top.specs.Refusals.{of_reading, of_graph}
use Rattle.slicer_top.specs.Reports.{IsReason, IsCause, IsMissing, IsReported, status_of}
use Rattle.slicer_top.proofs.Files.{fault_or_reason, reason_alone}
use Rattle.slicer_top.proofs.ReaderLaws.{one_program, only_memory}

-- ---- runs

module _ (asked : Asked) (p : Program) (input : Bytes) where
  -- the refusals of a run, with what it comes to
  abbrev pub IsRunReason : Refusal → Type 0
  IsRunReason (UndefinedAct at statement) = IsUndefinedAt asked p input at statement
  IsRunReason MoreSteps = NeedsMore asked p input
  IsRunReason NoMemory = Unit {0}
  IsRunReason Unreadable = ⊥
  IsRunReason TooLong = ⊥
  IsRunReason NoInput = ⊥
  IsRunReason LongInput = ⊥
  IsRunReason (Lex fault) = ⊥
  IsRunReason (Parse fault) = ⊥
  IsRunReason (Check fault) = ⊥
  IsRunReason (NoStart line) = ⊥
  IsRunReason (Graph name) = ⊥
  IsRunReason TooMany = ⊥

  -- a run comes to one answer
  pub ended_undefined : (statement : ℕ) → RunEnds asked p input → IsUndefined asked p input statement → ⊥
  ended_undefined statement ends undefined =
      let ended : HasEnded (Undefined statement undefined.trace) = subst (λ o. IfSome o HasEnded) undefined.comes ends in
      let e : Undefined statement undefined.trace ≡ Ended ended.0 = ended.1 in
      absurd cc

  pub ended_more : RunEnds asked p input → NeedsMore asked p input → ⊥
  ended_more ends more =
      let ended : HasEnded (More more.trace) = subst (λ o. IfSome o HasEnded) more.comes ends in
      let e : More more.trace ≡ Ended ended.0 = ended.1 in
      absurd cc

  undefined_more : (statement : ℕ) → IsUndefined asked p input statement → NeedsMore asked p input → ⊥
  undefined_more statement undefined more =
      let e : ◌≡◌ {A = Option Answer} (Some (Undefined statement undefined.trace)) (Some (More more.trace)) = sym undefined.comes ∙ more.comes in
      absurd cc

  -- so that what is told of it is fixed
  pub ended_memory : RunEnds asked p input → (r : Refusal) → IsRunReason r → r ≡ NoMemory
  ended_memory ends (UndefinedAct at statement) reason = absurd (ended_undefined statement ends reason.act)
  ended_memory ends MoreSteps reason = absurd (ended_more ends reason)
  ended_memory ends NoMemory reason = refl
  ended_memory ends Unreadable reason = absurd reason
  ended_memory ends TooLong reason = absurd reason
  ended_memory ends NoInput reason = absurd reason
  ended_memory ends LongInput reason = absurd reason
  ended_memory ends (Lex fault) reason = absurd reason
  ended_memory ends (Parse fault) reason = absurd reason
  ended_memory ends (Check fault) reason = absurd reason
  ended_memory ends (NoStart line) reason = absurd reason
  ended_memory ends (Graph name) reason = absurd reason
  ended_memory ends TooMany reason = absurd reason

  pub undefined_status : (statement : ℕ) → IsUndefined asked p input statement → (r : Refusal) → IsRunReason r → (status_of r ≡ status.Undefined) ⊎ (status_of r ≡ status.NoMemory)
  undefined_status statement undefined (UndefinedAct at other) reason = inl refl
  undefined_status statement undefined MoreSteps reason = absurd (undefined_more statement undefined reason)
  undefined_status statement undefined NoMemory reason = inr refl
  undefined_status statement undefined Unreadable reason = absurd reason
  undefined_status statement undefined TooLong reason = absurd reason
  undefined_status statement undefined NoInput reason = absurd reason
  undefined_status statement undefined LongInput reason = absurd reason
  undefined_status statement undefined (Lex fault) reason = absurd reason
  undefined_status statement undefined (Parse fault) reason = absurd reason
  undefined_status statement undefined (Check fault) reason = absurd reason
  undefined_status statement undefined (NoStart line) reason = absurd reason
  undefined_status statement undefined (Graph name) reason = absurd reason
  undefined_status statement undefined TooMany reason = absurd reason

  pub more_status : NeedsMore asked p input → (r : Refusal) → IsRunReason r → (status_of r ≡ status.Steps) ⊎ (status_of r ≡ status.NoMemory)
  more_status more (UndefinedAct at statement) reason = absurd (undefined_more statement reason.act more)
  more_status more MoreSteps reason = inl refl
  more_status more NoMemory reason = inr refl
  more_status more Unreadable reason = absurd reason
  more_status more TooLong reason = absurd reason
  more_status more NoInput reason = absurd reason
  more_status more LongInput reason = absurd reason
  more_status more (Lex fault) reason = absurd reason
  more_status more (Parse fault) reason = absurd reason
  more_status more (Check fault) reason = absurd reason
  more_status more (NoStart line) reason = absurd reason
  more_status more (Graph name) reason = absurd reason
  more_status more TooMany reason = absurd reason

-- a run whose text was made has ended
one_ended : (a : Answer) (text : Trace → Bytes) (texts : List Bytes) → IsOneText (EndsWith text a) texts → HasEnded a
one_ended a text [] is = absurd is
one_ended a text (t ∷ []) is = (is.trace, is.ended)
one_ended a text (t ∷ u ∷ us) is = absurd is

pub made_ends : (asked : Asked) (p : Program) (input : Bytes) (texts : List Bytes) → AreTextsFor p asked input texts → RunEnds asked p input
made_ends (Asked.slice file lines workers) p input texts are = tt
made_ends (Asked.trace file lines name steps) p input texts are = one_ended _ _ texts are
made_ends (Asked.run file name steps) p input texts are = one_ended _ _ texts are
made_ends (Asked.graph file workers) p input texts are = tt
made_ends (Asked.members file line workers) p input texts are = tt
made_ends (Asked.big seed size workers) p input texts are = tt
made_ends (Asked.forward file line workers) p input texts are = tt
made_ends (Asked.chop file from to workers) p input texts are = tt

-- ---- texts with a program

module _ (text input : Bytes) (asked : Asked) where
  -- where a statement starts on each line, only the run refuses
  pub run_reason : (p : Program) (r : Refusal) → HasStarts text asked p → IsReason text asked input r → IsRunReason asked p input r
  run_reason p Unreadable starts reason = reason
  run_reason p TooLong starts reason = reason
  run_reason p NoInput starts reason = reason
  run_reason p LongInput starts reason = reason
  run_reason p (Lex fault) starts reason = absurd (only_memory text (read.Lex fault) reason p starts.built.reads)
  run_reason p (Parse fault) starts reason = absurd (only_memory text (read.Parse fault) reason p starts.built.reads)
  run_reason p (Check fault) starts reason = absurd (only_memory text (read.Check fault) reason p starts.built.reads)
  run_reason p (NoStart line) starts (q, built, first) =
      let here = starts.starts first.place first.within in
      absurd (first.none (subst (HasStart q) (sym first.is_line)
      (subst (λ s. HasStart s (line_at (lines_in asked) first.place)) (sym (one_program text q p built.reads starts.built.reads)) here)))
  run_reason p (Graph name) starts (q, built, above) =
      absurd (starts.built.within name (subst (λ s. IsAboveFor asked s name) (one_program text q p built starts.built.reads) above))
  run_reason p TooMany starts (q, built, many) = let few = starts.few in absurd (omega (arith, many, few))
  run_reason p (UndefinedAct at statement) starts (q, other, undefined) =
      subst (λ s. IsUndefinedAt asked s input at statement) (one_program text q p other.built.reads starts.built.reads) undefined
  run_reason p MoreSteps starts (q, other, more) = subst (λ s. NeedsMore asked s input) (one_program text q p other.built.reads starts.built.reads) more
  run_reason p NoMemory starts reason = tt

  -- where its run ends too, memory was wanting
  no_reason : (r : Refusal) → StartsSome text asked input → IsReason text asked input r → r ≡ NoMemory
  no_reason r starts reason =
      let here : HasStarts text asked starts.program = record { built = starts.built; few = starts.few; starts = starts.starts } in
      ended_memory asked starts.program input starts.ends r (run_reason starts.program r here reason)

  -- a fault of a run is one of the text
  pub run_shows : (p : Program) (a : Answer) (r : Refusal) → HasStarts text asked p → run_of asked p input ≡ Some a → IsRunFault p a r → IsReason text asked input r
  run_shows p a (UndefinedAct at statement) starts is fault =
      (p, starts, record { act = record { trace = fault.0.0; comes = is ∙ ap Some fault.0.1 }; starts = fault.1 })
  run_shows p a MoreSteps starts is fault = (p, starts, record { trace = fault.0; comes = is ∙ ap Some fault.1 })
  run_shows p a NoMemory starts is fault = tt
  run_shows p a Unreadable starts is fault = absurd fault
  run_shows p a TooLong starts is fault = absurd fault
  run_shows p a NoInput starts is fault = absurd fault
  run_shows p a LongInput starts is fault = absurd fault
  run_shows p a (Lex f) starts is fault = absurd fault
  run_shows p a (Parse f) starts is fault = absurd fault
  run_shows p a (Check f) starts is fault = absurd fault
  run_shows p a (NoStart line) starts is fault = absurd fault
  run_shows p a (Graph name) starts is fault = absurd fault
  run_shows p a TooMany starts is fault = absurd fault

  -- a refusal of the reader that the text shows is one of the text
  pub reading_shows : (r : ReadRefusal) → IsRight text (Err r) → IsReason text asked input (of_reading r)
  reading_shows (read.Lex fault) is = is
  reading_shows (read.Parse fault) is = is
  reading_shows (read.Check fault) is = is
  reading_shows read.NoMemory is = is

  -- a fault of the graph of the text's program is one of the text
  pub graph_shows : (p : Program) (fault : GraphFault) → ReadsProgram text p → ((name : LimitName) → fault ≡ graph.Limit name → IsAboveFor asked p name) → IsReason text asked input (of_graph fault)
  graph_shows p (graph.Limit name) built above = (p, built, above name refl)
  graph_shows p graph.NoMemory built above = tt

-- a refusal that is passed on
pub passes_on : {A : Type 0} (P : Refusal → Type 0) (refusal : Refusal) (passed : Result A Refusal) → IsErrAnd passed (λ y. y ≡ refusal) → P refusal → IfErr passed P
passes_on P refusal (Ok x) is holds = absurd is
passes_on P refusal (Err y) is holds = subst P (sym is) holds

-- ---- where memory alone is wanting

-- want of memory is told, or a fault of err comes
memory_told : (faults faults' : ℕ) (before after : Option Bytes) (asked : Asked) (result : Status) → NoFault faults faults' → IsReported faults faults' before after asked NoMemory result → result ≡ status.NoMemory
memory_told faults faults' before after asked result calm (inl (inl put)) = put.0
memory_told faults faults' before after asked result calm (inl (inr cut)) = absurd (calm cut.1.0)
memory_told faults faults' before after asked result calm (inr (inl put)) = put.0
memory_told faults faults' before after asked result calm (inr (inr cut)) = absurd (calm cut.1.0)

module _ (told : Told) (asked : Asked) (text input : Bytes) (f f' l l' : ℕ) (r : Refusal)
    (holds : HoldsGiven told (text_made asked) (file_in asked) text) (holds_input : HoldsGiven told [] (input_of asked) input) (starts : StartsSome text asked input) (cause : IsCause told asked f f' l l' r) where
  -- where a statement starts on each line, the run ends and no fault came, memory was wanting
  memory_alone : NoFault f f' → r ≡ NoMemory
  memory_alone calm = elim (fault_or_reason told asked f f' l l' text input holds holds_input r cause) [
    | inl fault ↦ absurd (calm fault.1)
    | inr reason ↦ no_reason text input asked r starts reason
  ]

  pub refused_for_memory : (e e' : ℕ) (before after : Option Bytes) (result : Status) → NoFault f f' → NoFault e e' → IsReported e e' before after asked r result → result ≡ status.NoMemory
  refused_for_memory e e' before after result calm quiet reported =
      memory_told e e' before after asked result quiet (subst (λ s. IsReported e e' before after asked s result) (memory_alone calm) reported)

  -- likewise of a shelf that says `Failed` only of a name that it lacks
  pub refused_without_fault : IsMissing told asked r → r ≡ NoMemory
  refused_without_fault missing = no_reason text input asked r starts (reason_alone told asked f f' l l' text input holds holds_input r missing cause)
