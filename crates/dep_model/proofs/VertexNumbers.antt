-- Which vertices of a list are numbered.
use Rattle.std.proofs.Common.{◌≡◌, ℕ, zero, suc, ◌+◌, List, [], ◌∷◌, slice_get, Bool, true, false, inl, inr, Some, refl, sym, subst, arith}
use Rattle.std.specs.Prelude.{Contains, if◌then◌else◌}
use Rattle.std.proofs.lemmas.Option.{same_Some}
use Rattle.std.proofs.lemmas.Bool.{cases_Bool}
use Rattle.dep_model.specs.declared.vertex.Vertex.{Vertex}
use Rattle.dep_model.specs.declared.vertex.VertexKind.{VertexKind}
use Rattle.dep_model.specs.FunctionVertices.{passes, numbers_from, numbers}
use Rattle.rule_closure.proofs.ListLemmas.{contains_none, contains_head, contains_cons, contains_cases}

-- number k of a list passes a test
pub record Passes (test : Vertex → Bool) (vs : List Vertex) (k : ℕ) : Type 0 where
  pub one : Vertex
  pub at : slice_get vs k ≡ Some one
  pub passing : test one ≡ true

-- a number, counted from n, of one that passes
pub record PassesFrom (test : Vertex → Bool) (n : ℕ) (vs : List Vertex) (k : ℕ) : Type 0 where
  pub place : ℕ
  pub number : k ≡ n + place
  pub found : Passes test vs place

after_one : (test : Vertex → Bool) (n : ℕ) (v : Vertex) (vs : List Vertex) (k : ℕ) → PassesFrom test (suc n) vs k → PassesFrom test n (v ∷ vs) k
after_one test n v vs k w = record {
  place = suc w.place;
  number = omega (arith, w.number);
  found = record { one = w.found.one; at = w.found.at; passing = w.found.passing };
}

pub found_from : (test : Vertex → Bool) (n : ℕ) (vs : List Vertex) (k : ℕ) → Contains (numbers_from test n vs) k → PassesFrom test n vs k
found_from test n [] k c = absurd (contains_none k c)
found_from test n (v ∷ vs) k c = elim (cases_Bool (test v)) [
  | inl t ↦
      let d : Contains (n ∷ numbers_from test (suc n) vs) k = subst (λ b. Contains (if b then n ∷ numbers_from test (suc n) vs else numbers_from test (suc n) vs) k) t c in
      elim (contains_cases n (numbers_from test (suc n) vs) k d) [
        | inl same ↦ record { place = 0; number = omega (arith, same); found = record { one = v; at = refl; passing = t } }
        | inr more ↦ after_one test n v vs k (found_from test (suc n) vs k more)
      ]
  | inr f ↦
      let d : Contains (numbers_from test (suc n) vs) k = subst (λ b. Contains (if b then n ∷ numbers_from test (suc n) vs else numbers_from test (suc n) vs) k) f c in
      after_one test n v vs k (found_from test (suc n) vs k d)
]

pub numbered_from : (test : Vertex → Bool) (n : ℕ) (vs : List Vertex) (k : ℕ) → Passes test vs k → Contains (numbers_from test n vs) (n + k)
numbered_from test n [] k w = none_there w.at
  where
    none_there : {x : Vertex} {A : Type 0} → slice_get {X = Vertex} [] k ≡ Some x → A
    none_there h = cc
numbered_from test n (v ∷ vs) zero w =
    let t : test v ≡ true = subst (λ (x : Vertex). test x ≡ true) (sym (same_Some _ _ w.at)) w.passing in
    let same : n ≡ n + 0 = omega arith in
    subst (λ b. Contains (if b then n ∷ numbers_from test (suc n) vs else numbers_from test (suc n) vs) (n + 0)) (sym t) (subst (λ j. Contains (n ∷ numbers_from test (suc n) vs) j) same (contains_head n (numbers_from test (suc n) vs)))
numbered_from test n (v ∷ vs) (suc k) w =
    let next : suc n + k ≡ n + suc k = omega arith in
    let inside : Contains (numbers_from test (suc n) vs) (n + suc k) = subst (λ j. Contains (numbers_from test (suc n) vs) j) next (numbered_from test (suc n) vs k (record { one = w.one; at = w.at; passing = w.passing })) in
    by_test (test v) inside
  where
    by_test : (b : Bool) → Contains (numbers_from test (suc n) vs) (n + suc k) → Contains (if b then n ∷ numbers_from test (suc n) vs else numbers_from test (suc n) vs) (n + suc k)
    by_test true h = contains_cons n (numbers_from test (suc n) vs) (n + suc k) h
    by_test false h = h

pub numbers_pass : (test : VertexKind → Bool) (f : ℕ) (vs : List Vertex) (k : ℕ) → Contains (numbers test f vs) k → Passes (passes test f) vs k
numbers_pass test f vs k c =
    let w = found_from (passes test f) 0 vs k c in
    let same : w.place ≡ k = omega (arith, w.number) in
    subst (Passes (passes test f) vs) same w.found

pub passes_numbers : (test : VertexKind → Bool) (f : ℕ) (vs : List Vertex) (k : ℕ) → Passes (passes test f) vs k → Contains (numbers test f vs) k
passes_numbers test f vs k w =
    let same : 0 + k ≡ k = omega arith in
    subst (Contains (numbers test f vs)) same (numbered_from (passes test f) 0 vs k w)
