-- The criteria of lines, one after another, and what their texts are.
use Rattle.std.proofs.Common.{◌≡◌, inl, inr, ℕ, ◌+◌, ◌<◌, ◌≤◌, List, [], ◌∷◌, ◌++◌, length, take, refl, sym, ap, ap₂, ◌∙◌, subst, arith, add-one, slice_index_or}
use Rattle.std.proofs.lemmas.Bool.{cases_lt}
use Rattle.std.proofs.lemmas.List.{get_or_append_left, get_or_at, length_push, take_all}
use Rattle.std.proofs.Math.Seq.{take-suc}
use Rattle.std.specs.Prelude.{All}
use Rattle.c_tree.specs.declared.limits.LimitName.{LimitName}
use Rattle.c_tree.specs.declared.program.Program.{Program}
use Rattle.c_language.specs.Words.{Bytes}
use Rattle.c_reader.specs.Reading.{ReadsProgram}
use Rattle.edge_io.specs.Contents.{Told}
use Rattle.call_words.specs.Requests.{Asked, lines_in}
use Rattle.slice_engine.specs.GraphLimits.{IsAboveGraphLimit}
use Rattle.slice_engine.specs.Slice.{HasStart, IsSlice, IsFaithful}
use Rattle.slice_engine.specs.declared.engine.Criterion.{Criterion}
use Rattle.slice_batch.specs.Batch.{AreTexts}
use Rattle.slicer_top.specs.Criteria.{AreCriteria, AreFound, IsCriteriaFault, StartAt}
use Rattle.slicer_top.specs.Files.{AreShort, OfFiles}
use Rattle.slicer_top.specs.Slices.{AreSlices, AreTextsFor, AreWritten, HasGraph, HasStarts, IsFirstWithout, line_at}
use Rattle.slicer_top.specs.Reports.{IsCause, IsMissing, IsReason}
use Rattle.slicer_top.specs.declared.refusal.Refusal.{Refusal}
use Rattle.slicer_top.specs.declared.refusal.Refusal.TheVariants.{Unreadable, TooLong, NoInput, LongInput, Lex, Parse, Check, NoStart, Graph, TooMany, UndefinedAct, MoreSteps, NoMemory}
use Rattle.slicer_top.proofs.Files.{Came, as_files}
use Rattle.slicer_top.proofs.ReaderLaws.{above_graph}

-- the graph of the program is within the limits
pub has_graph : (text : Bytes) (asked : Asked) (p : Program) → ReadsProgram text p → ((name : LimitName) → IsAboveGraphLimit p name → ⊥) → HasGraph text asked p
has_graph text asked p reads within = record { reads = reads; within = λ name above. within name (above_graph asked p name above) }

-- the criteria of the first lines
pub record AreFirst (p : Program) (lines : List ℕ) (many : ℕ) (found : List Criterion) : Type 0 where
  pub as_many : length found ≡ many
  pub each : (i : ℕ) (c : Criterion) → i < many → (slice_index_or found i c).line ≡ line_at lines i
  pub starts : (i : ℕ) → i < many → HasStart p (line_at lines i)

module _ (p : Program) (lines : List ℕ) where
  pub none_first : AreFirst p lines 0 []
  none_first = record { as_many = refl; each = λ i c lt. absurd (omega (arith, lt)); starts = λ i lt. absurd (omega (arith, lt)) }

  pub one_more_first : (many : ℕ) (found after : List Criterion) (x : Criterion) → AreFirst p lines many found → after ≡ found ++ x ∷ [] → x.line ≡ line_at lines many → HasStart p (line_at lines many)
      → AreFirst p lines (many + 1) after
  one_more_first many found after x first is line here = subst (AreFirst p lines (many + 1)) (sym is) (record {
    as_many = length_push found x ∙ ap (λ n. n + 1) first.as_many;
    each = λ i c lt. elim (cases_lt i many) [
      | inl less ↦
          let long = first.as_many in
          ap (λ (d : Criterion). d.line) (get_or_append_left found (x ∷ []) c i (omega (arith, less, long))) ∙ first.each i c less
      | inr not_less ↦
          let same : i ≡ many = omega (arith, lt, not_less) in
          ap (λ (d : Criterion). d.line) (ap (λ n. slice_index_or (found ++ x ∷ []) n c) same ∙ get_or_at found x [] c many first.as_many) ∙ line ∙ ap (line_at lines) (sym same)
    ];
    starts = λ i lt. elim (cases_lt i many) [
      | inl less ↦ first.starts i less
      | inr not_less ↦ let same : many ≡ i = omega (arith, lt, not_less) in subst (λ n. HasStart p (line_at lines n)) same here
    ];
  })

  pub all_found : (many : ℕ) (found : List Criterion) → AreFirst p lines many found → length lines ≤ 64 → many ≡ length lines → AreCriteria p lines found
  all_found many found first few whole = record {
    few = few;
    as_many = first.as_many ∙ whole;
    each = λ i c lt. first.each i c (omega (arith, lt, whole));
    starts = λ i lt. first.starts i (omega (arith, lt, whole));
  }

  pub first_without : (many : ℕ) (found : List Criterion) (line : ℕ) → AreFirst p lines many found → length lines ≤ 64 → many < length lines → line ≡ line_at lines many → (HasStart p line → ⊥)
      → IsFirstWithout p lines line
  first_without many found line first few lt is none =
      record { few = few; place = many; within = lt; is_line = is; before = first.starts; none = none }

  pub all_start : (found : List Criterion) → AreCriteria p lines found → All (λ (c : Criterion). HasStart p c.line) found
  all_start found are = λ i c lt.
      let many = are.as_many in
      let within : i < length lines = omega (arith, lt, many) in
      subst (HasStart p) (sym (are.each i c within)) (are.starts i within)

  -- the texts of their criteria are the slices at the lines
  pub are_slices : (found : List Criterion) (texts : List Bytes) → AreCriteria p lines found → AreTexts p found texts → StartAt p lines × AreSlices p lines texts
  are_slices found texts are made = (
    record { few = are.few; starts = are.starts },
    record {
      as_many = made.as_many ∙ are.as_many;
      each = λ i lt.
          let many = are.as_many in
          let c : Criterion = record { line = 0 } in
          let text_of = made.each i c (omega (arith, lt, many)) in
          record {
            starts = are.starts i lt;
            slice = subst (λ l. IsSlice p l (slice_index_or texts i [])) (are.each i c lt) text_of.slice;
            faithful = subst (λ l. IsFaithful p l (slice_index_or texts i [])) (are.each i c lt) text_of.faithful;
          };
    },
  )

-- the first lines themselves, on each of which a statement starts
pub record ArePassed (p : Program) (lines : List ℕ) (many : ℕ) (found : List ℕ) : Type 0 where
  pub same : found ≡ take many lines
  pub starts : (i : ℕ) → i < many → HasStart p (line_at lines i)

module _ (p : Program) (lines : List ℕ) where
  pub none_passed : ArePassed p lines 0 []
  none_passed = record { same = refl; starts = λ i lt. absurd (omega (arith, lt)) }

  pub one_more_passed : (many : ℕ) (found after : List ℕ) (x : ℕ) → ArePassed p lines many found → many < length lines → after ≡ found ++ x ∷ [] → x ≡ line_at lines many → HasStart p (line_at lines many)
      → ArePassed p lines (many + 1) after
  one_more_passed many found after x first lt is line here = record {
    same = is ∙ ap₂ (λ (xs : List ℕ) (y : ℕ). xs ++ y ∷ []) first.same line ∙ sym (ap (λ n. take n lines) (add-one many) ∙ take-suc lines many 0 lt);
    starts = λ i low. elim (cases_lt i many) [
      | inl less ↦ first.starts i less
      | inr not_less ↦ let same : many ≡ i = omega (arith, low, not_less) in subst (λ n. HasStart p (line_at lines n)) same here
    ];
  }

  pub all_passed : (many : ℕ) (found : List ℕ) → ArePassed p lines many found → length lines ≤ 64 → length lines ≤ many → AreFound p lines found
  all_passed many found first few end =
      record { same = first.same ∙ take_all many lines end; start = record { few = few; starts = λ i lt. first.starts i (omega (arith, lt, end)) } }

  pub passed_without : (many : ℕ) (found : List ℕ) (line : ℕ) → ArePassed p lines many found → length lines ≤ 64 → many < length lines → line ≡ line_at lines many → (HasStart p line → ⊥) → IsFirstWithout p lines line
  passed_without many found line first few lt is none = record { few = few; place = many; within = lt; is_line = is; before = first.starts; none = none }

-- one line, on which a statement starts or none does
pub one_starts : (p : Program) (line : ℕ) → HasStart p line → StartAt p (line ∷ [])
one_starts p line here = record {
  few = omega arith;
  starts = λ i lt. let first : 0 ≡ i = omega (arith, lt) in subst (λ n. HasStart p (line_at (line ∷ []) n)) first here;
}

pub one_without : (p : Program) (line : ℕ) → (HasStart p line → ⊥) → IsFirstWithout p (line ∷ []) line
one_without p line none = record {
  few = omega arith;
  place = 0;
  within = omega arith;
  is_line = refl;
  before = λ i lt. absurd (omega (arith, lt));
  none = none;
}

-- two lines likewise, of which the first is tested first
pub two_start : (p : Program) (first second : ℕ) → HasStart p first → HasStart p second → StartAt p (first ∷ second ∷ [])
two_start p first second here there = record {
  few = omega arith;
  starts = λ i lt. elim (cases_lt i 1) [
    | inl none ↦ let at : 0 ≡ i = omega (arith, none) in subst (λ n. HasStart p (line_at (first ∷ second ∷ []) n)) at here
    | inr some ↦ let at : 1 ≡ i = omega (arith, lt, some) in subst (λ n. HasStart p (line_at (first ∷ second ∷ []) n)) at there
  ];
}

pub first_of_two_without : (p : Program) (first second : ℕ) → (HasStart p first → ⊥) → IsFirstWithout p (first ∷ second ∷ []) first
first_of_two_without p first second none = record {
  few = omega arith;
  place = 0;
  within = omega arith;
  is_line = refl;
  before = λ i lt. absurd (omega (arith, lt));
  none = none;
}

pub second_of_two_without : (p : Program) (first second : ℕ) → HasStart p first → (HasStart p second → ⊥) → IsFirstWithout p (first ∷ second ∷ []) second
second_of_two_without p first second here none = record {
  few = omega arith;
  place = 1;
  within = omega arith;
  is_line = refl;
  before = λ i lt. let at : 0 ≡ i = omega (arith, lt) in subst (λ n. HasStart p (line_at (first ∷ second ∷ []) n)) at here;
  none = none;
}

module _ (text input : Bytes) (asked : Asked) (p : Program) (built : HasGraph text asked p) where
  -- why lines have no criteria, of a text's program
  pub fault_shows : (refusal : Refusal) → IsCriteriaFault p (lines_in asked) refusal → IsReason text asked input refusal
  fault_shows (NoStart line) fault = (p, built, fault)
  fault_shows TooMany fault = (p, built, fault)
  fault_shows NoMemory fault = tt
  fault_shows Unreadable fault = absurd fault
  fault_shows TooLong fault = absurd fault
  fault_shows NoInput fault = absurd fault
  fault_shows LongInput fault = absurd fault
  fault_shows (Lex f) fault = absurd fault
  fault_shows (Parse f) fault = absurd fault
  fault_shows (Check f) fault = absurd fault
  fault_shows (Graph name) fault = absurd fault
  fault_shows (UndefinedAct at statement) fault = absurd fault
  fault_shows MoreSteps fault = absurd fault

  -- a statement starts on each of the lines
  pub has_starts : StartAt p (lines_in asked) → HasStarts text asked p
  has_starts start = record { built = built; few = start.few; starts = start.starts }

  -- what is made of it is what is asked of the text
  pub made_written : (texts : List Bytes) → StartAt p (lines_in asked) → AreTextsFor p asked input texts → AreWritten text asked input texts
  made_written texts start are = record { program = p; built = built; few = start.few; starts = start.starts; are = are }

-- what the text shows isn't about a file that couldn't be read
pub reason_missing : (told : Told) (text input : Bytes) (asked : Asked) (refusal : Refusal) → IsReason text asked input refusal → IsMissing told asked refusal
reason_missing told text input asked Unreadable reason = absurd reason
reason_missing told text input asked TooLong reason = tt
reason_missing told text input asked NoInput reason = absurd reason
reason_missing told text input asked LongInput reason = tt
reason_missing told text input asked (Lex fault) reason = tt
reason_missing told text input asked (Parse fault) reason = tt
reason_missing told text input asked (Check fault) reason = tt
reason_missing told text input asked (NoStart line) reason = tt
reason_missing told text input asked (Graph name) reason = tt
reason_missing told text input asked TooMany reason = tt
reason_missing told text input asked (UndefinedAct at statement) reason = tt
reason_missing told text input asked MoreSteps reason = tt
reason_missing told text input asked NoMemory reason = tt

-- a reason in files that aren't too long is a cause
module _ (told : Told) (asked : Asked) (f f' l l' : ℕ) (text input : Bytes) (came : Came told asked text input) where
  in_files : (P : Bytes → Bytes → Type 0) → P text input → OfFiles told asked (λ t i. AreShort t i × P t i)
  in_files P h = as_files told asked text input (λ t i. AreShort t i × P t i) came.text_is came.input_is (came.short, h)

  pub reason_cause : (refusal : Refusal) → IsReason text asked input refusal → IsCause told asked f f' l l' refusal
  reason_cause Unreadable reason = absurd reason
  reason_cause TooLong reason = absurd reason
  reason_cause NoInput reason = absurd reason
  reason_cause LongInput reason = absurd reason
  reason_cause (Lex fault) reason = in_files (λ t i. IsReason t asked i (Lex fault)) reason
  reason_cause (Parse fault) reason = in_files (λ t i. IsReason t asked i (Parse fault)) reason
  reason_cause (Check fault) reason = in_files (λ t i. IsReason t asked i (Check fault)) reason
  reason_cause (NoStart line) reason = in_files (λ t i. IsReason t asked i (NoStart line)) reason
  reason_cause (Graph name) reason = in_files (λ t i. IsReason t asked i (Graph name)) reason
  reason_cause TooMany reason = in_files (λ t i. IsReason t asked i TooMany) reason
  reason_cause (UndefinedAct at statement) reason = in_files (λ t i. IsReason t asked i (UndefinedAct at statement)) reason
  reason_cause MoreSteps reason = in_files (λ t i. IsReason t asked i MoreSteps) reason
  reason_cause NoMemory reason = tt

  pub written_in_files : (texts : List Bytes) → AreWritten text asked input texts → OfFiles told asked (λ t i. AreShort t i × AreWritten t asked i texts)
  written_in_files texts are = in_files (λ t i. AreWritten t asked i texts) are
