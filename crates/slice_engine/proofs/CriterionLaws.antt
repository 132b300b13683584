-- The set that was marked is the criterion, and the lines that were found are those of its statements.
use Rattle.std.proofs.Common.{◌≡◌, ℕ, zero, suc, ◌+◌, ◌<◌, ◌≤◌, ◌==◌, List, [], ◌∷◌, length, replicate, Bool, true, false, ◌&&◌, ◌||◌, inl, inr, refl, sym, ap, ◌∙◌, subst, arith, eq-eqb}
use Rattle.std.specs.List.{list_any}
use Rattle.std.proofs.lemmas.Bool.{cases_lt, cases_eq, or_left, or_right, and_from, and_parts, or_cases}
use Rattle.std.proofs.lemmas.List.{get_or-set_other, get_or-set_same, length-map, length-replicate, ext_get_or}
use Rattle.std.proofs.Common.{get_or}
use Rattle.std.proofs.Math.ListN.{length-set}
use Rattle.bit_rows.specs.Sets.{has}
use Rattle.bit_rows.proofs.SetLemmas.{has-empty}
use Rattle.c_language.proofs.Tests.{or_assoc}
use Rattle.c_tree.specs.declared.numbered.Start.{Start}
use Rattle.c_tree.specs.Numbered.{Starts}
use Rattle.dep_model.specs.declared.vertex.Vertex.{Vertex}
use Rattle.dep_model.specs.Criteria.{is_wanted, criterion_of}
use Rattle.slice_engine.specs.Criterion.{marked_if, starts_among}

-- ---- statements that start on a line

-- marks of what was passed, and of what is left
pub marked_turn : (line i : ℕ) (s : Start) (ss : Starts) (old new whole : Bool) → new ≡ (old || ((s.id == i) && (s.line == line)))
    → (old || starts_among line (s ∷ ss) i) ≡ whole → (new || starts_among line ss i) ≡ whole
marked_turn line i s ss old new whole adds inv = ap (λ t. t || starts_among line ss i) adds ∙ or_assoc old ((s.id == i) && (s.line == line)) (starts_among line ss i) ∙ inv

-- ---- the criterion

-- the first n numbers of a set are as they are wanted, and no other is in it
pub record IsBegun (wanted : List Bool) (n : ℕ) (set : List Bool) : Type 0 where
  pub long : length set ≡ length wanted
  pub first : (v : ℕ) → v < n → has set v ≡ has wanted v
  pub later : (v : ℕ) → n ≤ v → has set v ≡ false

pub begun_empty : (wanted : List Bool) (m : ℕ) (set : List Bool) → m ≡ length wanted → set ≡ replicate m false → IsBegun wanted 0 set
begun_empty wanted m set long is = record {
  long = ap length is ∙ length-replicate m false ∙ long;
  first = λ v lt. absurd (omega (arith, lt));
  later = λ v le. ap (λ x. has x v) is ∙ has-empty m v;
}

length-marked_if : (b : Bool) (v : ℕ) (x : List Bool) → length (marked_if b v x) ≡ length x
length-marked_if true v x = length-set x v true
length-marked_if false v x = refl

has-marked_other : (b : Bool) (u v : ℕ) (x : List Bool) → (v ≡ u → ⊥) → has (marked_if b u x) v ≡ has x v
has-marked_other true u v x apart = get_or-set_other x u v true false apart
has-marked_other false u v x apart = refl

has-marked_same : (b : Bool) (u : ℕ) (x : List Bool) → u < length x → has x u ≡ false → has (marked_if b u x) u ≡ b
has-marked_same true u x lt none = get_or-set_same x u true false lt
has-marked_same false u x lt none = none

pub begun_next : (wanted : List Bool) (n : ℕ) (set new : List Bool) (b : Bool) → n < length wanted → b ≡ has wanted n → new ≡ marked_if b n set → IsBegun wanted n set → IsBegun wanted (n + 1) new
begun_next wanted n set new b lt is added begun = record {
  long = ap length added ∙ length-marked_if b n set ∙ begun.long;
  first = λ v low. elim (cases_eq v n) [
    | inl same ↦ subst (λ k. has new k ≡ has wanted k) (sym same) (ap (λ x. has x n) added ∙ has-marked_same b n set (let long = begun.long in omega (arith, long, lt)) (begun.later n (omega arith)) ∙ is)
    | inr apart ↦ ap (λ x. has x v) added ∙ has-marked_other b n v set apart ∙ begun.first v (less v apart low)
  ];
  later = λ v le. ap (λ x. has x v) added ∙ has-marked_other b n v set (λ e. omega (arith, e, le)) ∙ begun.later v (omega (arith, le));
}
  where
    less : (v : ℕ) → (v ≡ n → ⊥) → v < n + 1 → v < n
    less v apart low = elim (cases_lt v n) [
      | inl lt ↦ lt
      | inr ge ↦ absurd (apart (omega (arith, low, ge)))
    ]

pub begun_all : (wanted : List Bool) (n : ℕ) (set : List Bool) → length wanted ≤ n → IsBegun wanted n set → set ≡ wanted
begun_all wanted n set all begun = ext_get_or false set wanted begun.long (λ v lt. begun.first v (let long = begun.long in omega (arith, long, lt, all)))

-- whether a vertex is wanted
pub wanted_at : (set : ℕ → Bool) (vs : List Vertex) (n : ℕ) (x : Vertex) → n < length vs → is_wanted set (get_or vs n x).kind ≡ has (criterion_of set vs) n
wanted_at set [] n x lt = absurd (omega (arith, lt))
wanted_at set (v ∷ vs) zero x lt = refl
wanted_at set (v ∷ vs) (suc n) x lt = wanted_at set vs n x (omega (arith, lt))

pub length-criterion : (set : ℕ → Bool) (vs : List Vertex) → length (criterion_of set vs) ≡ length vs
length-criterion set vs = length-map vs (λ (v : Vertex). is_wanted set v.kind)

-- ---- whether some statement starts on a line

pub some_start : (line : ℕ) (ss : Starts) → list_any (λ (s : Start). s.line == line) ss ≡ true → (i : ℕ) × (starts_among line ss i ≡ true)
some_start line [] h = cc
some_start line (s ∷ ss) h = elim (or_cases (s.line == line) (list_any (λ (s : Start). s.line == line) ss) h) [
  | inl here ↦ (s.id, or_left _ _ (and_from (s.id == s.id) (s.line == line) (eq-eqb s.id s.id refl) here))
  | inr later ↦ let w = some_start line ss later in (w.0, or_right _ _ w.1)
]

pub start_some : (line : ℕ) (ss : Starts) (i : ℕ) → starts_among line ss i ≡ true → list_any (λ (s : Start). s.line == line) ss ≡ true
start_some line [] i h = cc
start_some line (s ∷ ss) i h = elim (or_cases ((s.id == i) && (s.line == line)) (starts_among line ss i) h) [
  | inl here ↦ or_left _ _ (and_parts (s.id == i) (s.line == line) here).1
  | inr later ↦ or_right (s.line == line) _ (start_some line ss i later)
]
