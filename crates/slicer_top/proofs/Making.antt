-- What is made of a program for each command, and why nothing is.
use Rattle.std.proofs.Common.{◌≡◌, ℕ, List, [], ◌∷◌, refl, sym, ap, subst, ◌∙◌, length, ◌<◌, arith}
use Rattle.std.specs.Prelude.{Result, Ok, Err, IfOk, IfErr, IsErrAnd, MatchResult}
use Rattle.c_tree.specs.declared.limits.LimitName.{LimitName}
use Rattle.c_tree.specs.declared.program.Program.{Program}
use Rattle.c_language.specs.Words.{Bytes}
use Rattle.c_reader.specs.Reading.{ReadsProgram}
use Rattle.c_meaning.specs.Meaning.{Trace, meaning}
use Rattle.call_words.specs.Requests.{Asked}
use Rattle.dep_model.specs.declared.graph_fault.GraphFault.{GraphFault}
use Rattle.dep_model.specs.declared.graph_fault.GraphFault.TheVariants as graph
use Rattle.run_text.specs.Answers.{EndsWith}
use Rattle.run_text.specs.Lines.{trace_words}
use Rattle.slice_engine.specs.GraphLimits.{IsAboveGraphLimit}
use Rattle.slicer_top.specs.Criteria.{AreFound, IsCriteriaFault, StartAt}
use Rattle.slicer_top.specs.Chops.{IsForwardText, IsChopText}
use Rattle.slicer_top.specs.Graphs.{IsGraphText, IsMembersText}
use Rattle.slicer_top.specs.SliceNumbers.{IsNumbersText}
use Rattle.slicer_top.specs.Refusals.{of_graph}
use Rattle.slicer_top.specs.Reports.{IsReason, IsReasonOf}
use Rattle.slicer_top.specs.Runs.{IsRunFault}
use Rattle.slicer_top.specs.Slices.{AreSlices, AreWritten, AreWrittenOf, HasGraph, IsAboveFor, IsOneText}
use Rattle.slicer_top.specs.declared.refusal.Refusal.{Refusal}
use Rattle.slicer_top.specs.declared.refusal.Refusal.TheVariants.{NoMemory}
use Rattle.slicer_top.proofs.CriteriaLaws.{fault_shows, has_graph, has_starts, made_written}
use Rattle.slicer_top.proofs.Reasons.{graph_shows, run_shows}

-- what follows from a result in both cases
pub map_result : {A E : Type 0} (P P' : A → Type 0) (Q Q' : E → Type 0) → ((x : A) → P x → P' x) → ((e : E) → Q e → Q' e) → (r : Result A E) → MatchResult r P Q → MatchResult r P' Q'
map_result P P' Q Q' f g (Ok x) is = f x is
map_result P P' Q Q' f g (Err e) is = g e is

-- a refusal that is passed on
pub passed : {A : Type 0} (P : A → Type 0) (Q : Refusal → Type 0) (refusal : Refusal) (r : Result A Refusal) → IsErrAnd r (λ y. y ≡ refusal) → Q refusal → MatchResult r P Q
passed P Q refusal (Ok x) is holds = absurd is
passed P Q refusal (Err y) is holds = subst Q (sym is) holds

module _ (p : Program) (input : Bytes) where
  -- a result is what is asked, or why there is none
  abbrev pub IsMade : {A : Type 0} → (A → List Bytes) → Asked → Result A Refusal → Type 0
  IsMade items asked r = MatchResult r (λ t. AreWrittenOf p asked input (items t)) (IsReasonOf p asked input)

  -- for a text with this program
  pub made_ok : {A : Type 0} (items : A → List Bytes) (asked : Asked) (text : Bytes) (r : Result A Refusal) → ReadsProgram text p → IsMade items asked r → IfOk r (λ t. AreWritten text asked input (items t))
  made_ok items asked text (Ok t) reads made = made text reads
  made_ok items asked text (Err e) reads made = tt

  pub made_err : {A : Type 0} (items : A → List Bytes) (asked : Asked) (text : Bytes) (r : Result A Refusal) → ReadsProgram text p → IsMade items asked r → IfErr r (IsReason text asked input)
  made_err items asked text (Ok t) reads made = tt
  made_err items asked text (Err e) reads made = made text reads

  -- want of memory is a reason always
  pub memory_made : {A : Type 0} (items : A → List Bytes) (asked : Asked) (refusal : Refusal) (r : Result A Refusal) → refusal ≡ NoMemory → IsErrAnd r (λ y. y ≡ refusal) → IsMade items asked r
  memory_made items asked refusal r is passes = passed (λ t. AreWrittenOf p asked input (items t)) (IsReasonOf p asked input) refusal r passes (subst (IsReasonOf p asked input) (sym is) (λ text reads. tt))

  -- ---- graphs

  -- a graph is made for it
  abbrev pub IsOfGraph : Asked → Type 0
  IsOfGraph (Asked.slice file lines workers) = Unit {0}
  IsOfGraph (Asked.trace file lines name steps) = ⊥
  IsOfGraph (Asked.run file name steps) = ⊥
  IsOfGraph (Asked.graph file workers) = Unit {0}
  IsOfGraph (Asked.members file line workers) = Unit {0}
  IsOfGraph (Asked.big seed size workers) = Unit {0}
  IsOfGraph (Asked.forward file line workers) = Unit {0}
  IsOfGraph (Asked.chop file from to workers) = Unit {0}

  graph_above : (asked : Asked) → IsOfGraph asked → (name : LimitName) → IsAboveGraphLimit p name → IsAboveFor asked p name
  graph_above (Asked.slice file lines workers) of name above = above
  graph_above (Asked.trace file lines other steps) of name above = absurd of
  graph_above (Asked.run file other steps) of name above = absurd of
  graph_above (Asked.graph file workers) of name above = above
  graph_above (Asked.members file line workers) of name above = above
  graph_above (Asked.big seed size workers) of name above = above
  graph_above (Asked.forward file line workers) of name above = above
  graph_above (Asked.chop file from to workers) of name above = above

  pub graph_refused : {A : Type 0} (items : A → List Bytes) (asked a : Asked) (fault : GraphFault) (r : Result A Refusal) → asked ≡ a → IsOfGraph a → ((name : LimitName) → fault ≡ graph.Limit name → IsAboveGraphLimit p name)
      → IsErrAnd r (λ y. y ≡ of_graph fault) → IsMade items asked r
  graph_refused items asked a fault r is of above passes =
      passed (λ t. AreWrittenOf p asked input (items t)) (IsReasonOf p asked input) (of_graph fault) r passes
      (λ text reads. graph_shows text input asked p fault reads (λ name e. graph_above asked (subst IsOfGraph (sym is) of) name (above name e)))

  -- of an engine, which is of this program
  module _ (e : Program) (same : e ≡ p) (within : (name : LimitName) → IsAboveGraphLimit p name → ⊥) where
    made_for : {A : Type 0} (items : A → List Bytes) (asked : Asked) (r : Result A Refusal) (lines : List ℕ) (P : Program → List Bytes → Type 0)
        → ((text : Bytes) (texts : List Bytes) → HasGraph text asked p → StartAt p lines → P p texts → AreWrittenOf p asked input texts)
        → ((text : Bytes) (refusal : Refusal) → HasGraph text asked p → IsCriteriaFault p lines refusal → IsReasonOf p asked input refusal)
        → MatchResult r (λ t. StartAt e lines × P e (items t)) (IsCriteriaFault e lines) → IsMade items asked r
    made_for items asked r lines P writes refuses made =
        map_result (λ t. StartAt p lines × P p (items t)) (λ t. AreWrittenOf p asked input (items t)) (IsCriteriaFault p lines) (IsReasonOf p asked input)
        (λ t is text reads. writes text (items t) (has_graph text asked p reads within) is.0 is.1 text reads)
        (λ refusal fault text reads. refuses text refusal (has_graph text asked p reads within) fault text reads) r
        (subst (λ q. MatchResult r (λ t. StartAt q lines × P q (items t)) (IsCriteriaFault q lines)) same made)

    slices_for : {A : Type 0} (items : A → List Bytes) (file : Bytes) (lines : List ℕ) (workers : ℕ) (r : Result A Refusal)
        → MatchResult r (λ t. StartAt e lines × AreSlices e lines (items t)) (IsCriteriaFault e lines) → IsMade items (Asked.slice file lines workers) r
    slices_for items file lines workers r made =
        let asked = Asked.slice file lines workers in
        made_for items asked r lines (λ q texts. AreSlices q lines texts) (λ _ texts _ start are text reads. made_written text input asked p (has_graph text asked p reads within) texts start are)
        (λ _ refusal _ fault text reads. fault_shows text input asked p (has_graph text asked p reads within) refusal fault) made

    pub slices_made : {A : Type 0} (items : A → List Bytes) (asked : Asked) (file : Bytes) (lines : List ℕ) (workers : ℕ) (r : Result A Refusal) → asked ≡ Asked.slice file lines workers
        → MatchResult r (λ t. StartAt e lines × AreSlices e lines (items t)) (IsCriteriaFault e lines) → IsMade items asked r
    slices_made items asked file lines workers r is made = subst (λ a. IsMade items a r) (sym is) (slices_for items file lines workers r made)

    members_for : {A : Type 0} (items : A → List Bytes) (file : Bytes) (line workers : ℕ) (r : Result A Refusal)
        → MatchResult r (λ t. StartAt e (line ∷ []) × IsOneText (IsMembersText e line) (items t)) (IsCriteriaFault e (line ∷ [])) → IsMade items (Asked.members file line workers) r
    members_for items file line workers r made =
        let asked = Asked.members file line workers in
        made_for items asked r (line ∷ []) (λ q texts. IsOneText (IsMembersText q line) texts) (λ _ texts _ start are text reads. made_written text input asked p (has_graph text asked p reads within) texts start are)
        (λ _ refusal _ fault text reads. fault_shows text input asked p (has_graph text asked p reads within) refusal fault) made

    pub members_made : {A : Type 0} (items : A → List Bytes) (asked : Asked) (file : Bytes) (line workers : ℕ) (r : Result A Refusal) → asked ≡ Asked.members file line workers
        → MatchResult r (λ t. StartAt e (line ∷ []) × IsOneText (IsMembersText e line) (items t)) (IsCriteriaFault e (line ∷ [])) → IsMade items asked r
    members_made items asked file line workers r is made = subst (λ a. IsMade items a r) (sym is) (members_for items file line workers r made)

    pub forward_made : {A : Type 0} (items : A → List Bytes) (file : Bytes) (line workers : ℕ) (r : Result A Refusal)
        → MatchResult r (λ t. StartAt e (line ∷ []) × IsOneText (IsForwardText e line) (items t)) (IsCriteriaFault e (line ∷ [])) → IsMade items (Asked.forward file line workers) r
    forward_made items file line workers r made =
        let asked = Asked.forward file line workers in
        made_for items asked r (line ∷ []) (λ q texts. IsOneText (IsForwardText q line) texts) (λ _ texts _ start are text reads. made_written text input asked p (has_graph text asked p reads within) texts start are)
        (λ _ refusal _ fault text reads. fault_shows text input asked p (has_graph text asked p reads within) refusal fault) made

    pub chop_made : {A : Type 0} (items : A → List Bytes) (file : Bytes) (from to workers : ℕ) (r : Result A Refusal)
        → MatchResult r (λ t. StartAt e (from ∷ to ∷ []) × IsOneText (IsChopText e from to) (items t)) (IsCriteriaFault e (from ∷ to ∷ [])) → IsMade items (Asked.chop file from to workers) r
    chop_made items file from to workers r made =
        let asked = Asked.chop file from to workers in
        made_for items asked r (from ∷ to ∷ []) (λ q texts. IsOneText (IsChopText q from to) texts) (λ _ texts _ start are text reads. made_written text input asked p (has_graph text asked p reads within) texts start are)
        (λ _ refusal _ fault text reads. fault_shows text input asked p (has_graph text asked p reads within) refusal fault) made

    no_lines : StartAt p []
    no_lines = record { few = omega arith; starts = λ i lt. absurd (omega (arith, lt)) }

    pub graph_made : (asked : Asked) (file : Bytes) (workers : ℕ) (texts : List Bytes) → asked ≡ Asked.graph file workers → IsOneText (IsGraphText e) texts → AreWrittenOf p asked input texts
    graph_made asked file workers texts is made =
        subst (λ b. AreWrittenOf p b input texts) (sym is)
        (λ text reads. made_written text input (Asked.graph file workers) p (has_graph text (Asked.graph file workers) p reads within) texts no_lines (subst (λ q. IsOneText (IsGraphText q) texts) same made))

    pub big_made : (seed size workers : ℕ) (texts : List Bytes) → IsOneText (IsNumbersText e) texts → AreWrittenOf p (Asked.big seed size workers) input texts
    big_made seed size workers texts made =
        let asked = Asked.big seed size workers in
        λ text reads. made_written text input asked p (has_graph text asked p reads within) texts no_lines (subst (λ q. IsOneText (IsNumbersText q) texts) same made)

  -- ---- runs

  no_line : StartAt p []
  no_line = record { few = omega arith; starts = λ i lt. absurd (omega (arith, lt)) }

  run_for : {A : Type 0} (items : A → List Bytes) (file name : Bytes) (steps : ℕ) (r : Result A Refusal)
      → MatchResult r (λ t. IsOneText (EndsWith (λ (x : Trace). x.output) (meaning steps p input)) (items t)) (IsRunFault p (meaning steps p input)) → IsMade items (Asked.run file name steps) r
  run_for items file name steps r made =
      map_result (λ t. IsOneText (EndsWith (λ (x : Trace). x.output) (meaning steps p input)) (items t)) (λ t. AreWrittenOf p (Asked.run file name steps) input (items t))
      (IsRunFault p (meaning steps p input)) (IsReasonOf p (Asked.run file name steps) input)
      (λ t are text reads. made_written text input (Asked.run file name steps) p (record { reads = reads; within = λ limit above. above }) (items t) no_line are)
      (λ refusal fault text reads.
      run_shows text input (Asked.run file name steps) p (meaning steps p input) refusal
      (has_starts text input (Asked.run file name steps) p (record { reads = reads; within = λ limit above. above }) no_line) refl fault) r made

  pub run_made : {A : Type 0} (items : A → List Bytes) (asked : Asked) (file name : Bytes) (steps : ℕ) (r : Result A Refusal) → asked ≡ Asked.run file name steps
      → MatchResult r (λ t. IsOneText (EndsWith (λ (x : Trace). x.output) (meaning steps p input)) (items t)) (IsRunFault p (meaning steps p input)) → IsMade items asked r
  run_made items asked file name steps r is made = subst (λ a. IsMade items a r) (sym is) (run_for items file name steps r made)

  trace_for : {A : Type 0} (items : A → List Bytes) (file : Bytes) (lines : List ℕ) (name : Bytes) (steps : ℕ) (r : Result A Refusal) → StartAt p lines
      → MatchResult r (λ t. IsOneText (EndsWith (trace_words p lines) (meaning steps p input)) (items t)) (IsRunFault p (meaning steps p input)) → IsMade items (Asked.trace file lines name steps) r
  trace_for items file lines name steps r start made =
      map_result (λ t. IsOneText (EndsWith (trace_words p lines) (meaning steps p input)) (items t)) (λ t. AreWrittenOf p (Asked.trace file lines name steps) input (items t))
      (IsRunFault p (meaning steps p input)) (IsReasonOf p (Asked.trace file lines name steps) input)
      (λ t are text reads. made_written text input (Asked.trace file lines name steps) p (record { reads = reads; within = λ limit above. above }) (items t) start are)
      (λ refusal fault text reads.
      run_shows text input (Asked.trace file lines name steps) p (meaning steps p input) refusal
      (has_starts text input (Asked.trace file lines name steps) p (record { reads = reads; within = λ limit above. above }) start) refl fault) r made

  -- of the lines as they were found
  pub trace_made : {A : Type 0} (items : A → List Bytes) (asked : Asked) (file : Bytes) (lines found : List ℕ) (name : Bytes) (steps : ℕ) (r : Result A Refusal) → asked ≡ Asked.trace file lines name steps → AreFound p lines found
      → MatchResult r (λ t. IsOneText (EndsWith (trace_words p found) (meaning steps p input)) (items t)) (IsRunFault p (meaning steps p input)) → IsMade items asked r
  trace_made items asked file lines found name steps r is are made =
      subst (λ a. IsMade items a r) (sym is)
      (trace_for items file lines name steps r are.start
      (subst (λ ls. MatchResult r (λ t. IsOneText (EndsWith (trace_words p ls) (meaning steps p input)) (items t)) (IsRunFault p (meaning steps p input))) are.same made))

  pub trace_refused : {A : Type 0} (items : A → List Bytes) (asked : Asked) (file : Bytes) (lines : List ℕ) (name : Bytes) (steps : ℕ) (refusal : Refusal) (r : Result A Refusal) → asked ≡ Asked.trace file lines name steps
      → IsCriteriaFault p lines refusal → IsErrAnd r (λ y. y ≡ refusal) → IsMade items asked r
  trace_refused items asked file lines name steps refusal r is fault passes =
      passed (λ t. AreWrittenOf p asked input (items t)) (IsReasonOf p asked input) refusal r passes
      (subst (λ a. IsReasonOf p a input refusal) (sym is)
      (λ text reads. fault_shows text input (Asked.trace file lines name steps) p (record { reads = reads; within = λ limit above. above }) refusal fault))
