-- The kept statements among the first vertices, where they stand in the order of their numbers.
use Rattle.std.proofs.Common.{◌≡◌, ℕ, zero, suc, ◌+◌, ◌<◌, ◌≤◌, List, [], ◌∷◌, length, take, Bool, true, false, ◌&&◌, ◌||◌, Option, Some, None, slice_get, refl, sym, ap, ◌∙◌, arith}
use Rattle.std.specs.Prelude.{◌==◌}
use Rattle.std.specs.Option.{option_map_or}
use Rattle.std.proofs.lemmas.Bool.Decides.{nat_tests}
use Rattle.bit_rows.specs.Sets.{has}
use Rattle.c_language.proofs.Tests.{by_answer, by_or, or_none, false_true}
use Rattle.dep_model.specs.declared.vertex.Vertex.{Vertex}
use Rattle.dep_model.specs.FunctionVertices.{is_own}
use Rattle.kept_numbers.specs.Ranks.{rank}
use Rattle.projection.specs.KeptVertices.{holds}
use Rattle.projection.proofs.HeldLemmas.{holds_more}
use Rattle.kept_numbers.proofs.RankLemmas.{rank_same, rank_above, rank_below}

-- a statement is this one
abbrev pub is_this : Option ℕ → ℕ → Bool
is_this o i = option_map_or (λ (j : ℕ). j == i) o false

-- where nothing passes, nothing is counted
rank_nothing : (t : ℕ → Bool) → ((i : ℕ) → t i ≡ false) → (n : ℕ) → rank t n ≡ 0
rank_nothing t none zero = refl
rank_nothing t none (suc n) = rw (none n) (rank_nothing t none n)

nothing_first : (set : List Bool) (vs : List Vertex) (i : ℕ) → holds set (λ (v : Vertex). is_own i v.kind) 0 (take 0 vs) ≡ false
nothing_first set [] i = refl
nothing_first set (v ∷ vs) i = refl

module _ (set : List Bool) (vs : List Vertex) where
  -- a statement's own vertex is held among the first n
  abbrev pub held : ℕ → ℕ → Bool
  held n i = holds set (λ (v : Vertex). is_own i v.kind) 0 (take n vs)

  pub rank_first : (id : ℕ) → 0 ≡ rank (held 0) id
  rank_first id = sym (rank_nothing (held 0) (nothing_first set vs) id)

  pub order_first : (i : ℕ) → held 0 i ≡ true → i < 0
  order_first i h = false_true (sym (nothing_first set vs i) ∙ h)

  -- the vertex with a number is held, and is the own one of a statement
  abbrev pub holds_own : ℕ → ℕ → Bool
  holds_own n i = has set n && option_map_or (λ (v : Vertex). is_own i v.kind) (slice_get vs n) false

  module _ (n : ℕ) (o : Option ℕ) (lt : n < length vs) (is : (i : ℕ) → holds_own n i ≡ is_this o i) where
    held_more : (i : ℕ) → held (n + 1) i ≡ (held n i || is_this o i)
    held_more i = holds_more set (λ (v : Vertex). is_own i v.kind) n vs lt ∙ ap (λ t. held n i || t) (is i)

    -- the next vertex is no statement's
    none_more : o ≡ None → (i : ℕ) → held (n + 1) i ≡ held n i
    none_more none i = held_more i ∙ ap (λ p. held n i || is_this p i) none ∙ or_none (held n i)

    pub rank_none : o ≡ None → (id : ℕ) → rank (held (n + 1)) id ≡ rank (held n) id
    rank_none none id = rank_same (held n) (held (n + 1)) id (none_more none)

    pub order_none : o ≡ None → (next : ℕ) → ((i : ℕ) → held n i ≡ true → i < next) → (i : ℕ) → held (n + 1) i ≡ true → i < next
    order_none none next inv i h = inv i (sym (none_more none i) ∙ h)

    module _ (own next : ℕ) (some : o ≡ Some own) (ge : next ≤ own) (inv : (i : ℕ) → held n i ≡ true → i < next) where
      -- it is that of a statement behind all that were held
      own_more : (i : ℕ) → held (n + 1) i ≡ (held n i || (own == i))
      own_more i = held_more i ∙ ap (λ p. held n i || is_this p i) some

      own_new : held n own ≡ false
      own_new = by_answer (held n own) (λ h. absurd (omega (arith, inv own h, ge))) (λ h. h)

      pub rank_own_above : (id : ℕ) → id ≤ own → rank (held (n + 1)) id ≡ rank (held n) id
      rank_own_above id le = rank_above (held n) (held (n + 1)) own own_more own_new id le

      pub rank_own_below : (id : ℕ) → own < id → rank (held (n + 1)) id ≡ rank (held n) id + 1
      rank_own_below id lt = let h = rank_below (held n) (held (n + 1)) own own_more own_new id lt in omega (arith, h)

      pub order_own : (i : ℕ) → held (n + 1) i ≡ true → i < own + 1
      order_own i h =
          by_or (held n i) (own == i) (sym (own_more i) ∙ h)
          (λ k. omega (arith, inv i k, ge))
          (λ k. let e : own ≡ i = grind (arith, nat_tests, k) in omega (arith, e))
