-- What a set holds of vertices: one of them that passes a test.
use Rattle.std.proofs.Common.{◌≡◌, ℕ, zero, suc, ◌+◌, List, [], ◌∷◌, slice_get, Bool, true, ◌&&◌, Some, refl, ap, ◌∙◌, subst, arith}
use Rattle.std.proofs.lemmas.Bool.{or_left, or_right, and_from, and_parts}
use Rattle.std.proofs.lemmas.Option.{same_Some}
use Rattle.bit_rows.specs.Sets.{has}
use Rattle.c_language.proofs.Tests.{false_true, by_or}
use Rattle.dep_model.specs.declared.vertex.Vertex.{Vertex}
use Rattle.projection.specs.KeptVertices.{holds}

module _ (set : List Bool) (test : Vertex → Bool) where
  -- a vertex of the set passes the test
  pub holds_there : (n v : ℕ) (vs : List Vertex) (x : Vertex) → has set (n + v) ≡ true → slice_get vs v ≡ Some x → test x ≡ true → holds set test n vs ≡ true
  holds_there n v [] x member at passes = cc
  holds_there n zero (y ∷ vs) x member at passes =
      let e : n + 0 ≡ n = omega arith in
      or_left _ (holds set test (suc n) vs) (and_from (has set n) (test y) (subst (λ k. has set k ≡ true) e member) (ap test (same_Some _ _ at) ∙ passes))
  holds_there n (suc v) (y ∷ vs) x member at passes =
      let e : n + suc v ≡ suc n + v = omega arith in
      or_right (has set n && test y) _ (holds_there (suc n) v vs x (subst (λ k. has set k ≡ true) e member) at passes)

  -- one that does
  pub record Held (n : ℕ) (vs : List Vertex) : Type 0 where
    pub place : ℕ
    pub vertex : Vertex
    pub at : slice_get vs place ≡ Some vertex
    pub member : has set (n + place) ≡ true
    pub passing : test vertex ≡ true

  pub held_of : (n : ℕ) (vs : List Vertex) → holds set test n vs ≡ true → Held n vs
  held_of n [] h = false_true h
  held_of n (v ∷ vs) h =
      by_or (has set n && test v) (holds set test (suc n) vs) h
      (λ here.
      let e : n ≡ n + 0 = omega arith in
      let b = and_parts (has set n) (test v) here in
      record { place = zero; vertex = v; at = refl; member = subst (λ k. has set k ≡ true) e b.0; passing = b.1 })
      (λ more.
      let w = held_of (suc n) vs more in
      let e : suc n + w.place ≡ n + suc w.place = omega arith in
      record { place = suc w.place; vertex = w.vertex; at = w.at; member = subst (λ k. has set k ≡ true) e w.member; passing = w.passing })
