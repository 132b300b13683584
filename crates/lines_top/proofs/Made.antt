-- What is made of a file's text, and why nothing is.
use Rattle.std.proofs.Common.{◌≡◌, ◌⊎◌, inl, inr, ℕ, ◌≤◌, List, [], length, refl, sym, subst}
use Rattle.std.specs.Prelude.{Option, Result, Ok, Err, IfOk, IfErr, IsErrAnd, MatchResult}
use Rattle.edge_io.specs.Contents.{Told}
use Rattle.c_tree.specs.declared.limits.LimitName.{LimitName}
use Rattle.c_tree.specs.declared.program.Program.{Program}
use Rattle.c_language.specs.Words.{Bytes}
use Rattle.c_reader.specs.Reading.{ReadsProgram}
use Rattle.c_reader.specs.Refusals.{IsRight}
use Rattle.c_reader.specs.declared.refusal.ReadRefusal.{ReadRefusal}
use Rattle.c_reader.specs.declared.refusal.ReadRefusal.TheVariants as read
use Rattle.dep_model.specs.declared.graph_fault.GraphFault.{GraphFault}
use Rattle.dep_model.specs.declared.graph_fault.GraphFault.TheVariants as graph
use Rattle.kept_lines.specs.Lines.{IsLinesText}
use Rattle.slice_engine.specs.GraphLimits.{IsAboveGraphLimit}
use Rattle.slicer_top.specs.Files.{IsGiven}
use Rattle.slicer_top.specs.Refusals.{of_graph, of_reading}
use Rattle.slicer_top.specs.Reports.{IsTextFault}
use Rattle.slicer_top.specs.declared.refusal.Refusal.{Refusal}
use Rattle.slicer_top.specs.declared.refusal.Refusal.TheVariants.{Unreadable, TooLong, NoInput, LongInput, Lex, Parse, Check, NoStart, Graph, TooMany, UndefinedAct, MoreSteps, NoMemory}
use Rattle.slicer_top.proofs.Making.{map_result}
use Rattle.lines_top.specs.Texts.{CanBeAsked, HasGraph, IsCause, IsLinesFault, IsReason, IsWritten, OfFile}

module _ (text : Bytes) (lines : List ℕ) where
  -- a refusal of the reader that the text shows is one of the text
  pub reading_shows : (r : ReadRefusal) → IsRight text (Err r) → IsReason text lines (of_reading r)
  reading_shows (read.Lex fault) is = is
  reading_shows (read.Parse fault) is = is
  reading_shows (read.Check fault) is = is
  reading_shows read.NoMemory is = tt

  module _ (p : Program) (reads : ReadsProgram text p) where
    -- a fault of the graph of the text's program is one of the text
    pub graph_shows : (fault : GraphFault) → ((name : LimitName) → fault ≡ graph.Limit name → IsAboveGraphLimit p name) → IsReason text lines (of_graph fault)
    graph_shows (graph.Limit name) above = (p, reads, above name refl)
    graph_shows graph.NoMemory above = tt

    -- and so is why the lines of the program have nothing
    fault_shows : HasGraph text p → (r : Refusal) → IsLinesFault p lines r → IsReason text lines r
    fault_shows built (NoStart line) fault = (p, built, fault)
    fault_shows built TooMany fault = (p, built, fault)
    fault_shows built NoMemory fault = tt
    fault_shows built Unreadable fault = absurd fault
    fault_shows built TooLong fault = absurd fault
    fault_shows built NoInput fault = absurd fault
    fault_shows built LongInput fault = absurd fault
    fault_shows built (Lex f) fault = absurd fault
    fault_shows built (Parse f) fault = absurd fault
    fault_shows built (Check f) fault = absurd fault
    fault_shows built (Graph name) fault = absurd fault
    fault_shows built (UndefinedAct at statement) fault = absurd fault
    fault_shows built MoreSteps fault = absurd fault

    -- what an engine of the program gives is what is asked of the text
    pub engine_made : (e : Program) → e ≡ p → ((name : LimitName) → IsAboveGraphLimit p name → ⊥) → (r : Result Bytes Refusal)
        → MatchResult r (λ written. CanBeAsked e lines × IsLinesText e lines written) (IsLinesFault e lines) → MatchResult r (IsWritten text lines) (IsReason text lines)
    engine_made e same within r made =
        let built : HasGraph text p = record { reads = reads; within = within } in
        map_result (λ written. CanBeAsked p lines × IsLinesText p lines written) (IsWritten text lines) (IsLinesFault p lines) (IsReason text lines)
        (λ written is. record { program = p; built = built; asked = is.0; is = is.1 }) (fault_shows built) r
        (subst (λ q. MatchResult r (λ written. CanBeAsked q lines × IsLinesText q lines written) (IsLinesFault q lines)) same made)

-- of an equal text and equal lines
pub same_made : (text t : Bytes) (lines ls : List ℕ) (r : Result Bytes Refusal) → t ≡ text → ls ≡ lines → MatchResult r (IsWritten t ls) (IsReason t ls) → MatchResult r (IsWritten text lines) (IsReason text lines)
same_made text t lines ls r is_text is_lines made =
    subst (λ ks. MatchResult r (IsWritten text ks) (IsReason text ks)) is_lines (subst (λ u. MatchResult r (IsWritten u ls) (IsReason u ls)) is_text made)

-- ---- of a file

module _ (told : Told) (file : Option Bytes) (lines : List ℕ) (text : Bytes) (given : IsGiven told [] file text) (short : length text ≤ 1048576) where
  pub written_of : (r : Result Bytes Refusal) → MatchResult r (IsWritten text lines) (IsReason text lines) → IfOk r (λ written. OfFile told file (λ t. IsWritten t lines written))
  written_of (Ok written) made = (text, given, (short, made))
  written_of (Err refusal) made = tt

  pub caused_of : (f f' l l' : ℕ) (r : Result Bytes Refusal) → MatchResult r (IsWritten text lines) (IsReason text lines) → IfErr r (IsCause told f f' l l' file lines)
  caused_of f f' l l' (Ok written) made = tt
  caused_of f f' l l' (Err refusal) made = inr (text, given, (short, made))

pub caused_by_file : {A : Type 0} (told : Told) (f f' l l' : ℕ) (file : Option Bytes) (lines : List ℕ) (refusal : Refusal) (r : Result A Refusal) → IsErrAnd r (λ y. y ≡ refusal) → IsTextFault told f f' l l' file refusal
    → IfErr r (IsCause told f f' l l' file lines)
caused_by_file told f f' l l' file lines refusal (Ok x) is fault = absurd is
caused_by_file told f f' l l' file lines refusal (Err y) is fault = inl (subst (IsTextFault told f f' l l' file) (sym is) fault)
