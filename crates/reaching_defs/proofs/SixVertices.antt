-- Six vertices of two functions, and pairs of those of the second.
use Rattle.std.proofs.Common.{◌≡◌, ℕ, ◌-◌, ◌<◌, ◌≤◌, inl, inr, List, ◌++◌, length, replicate, get_or, Some, refl, ap, ◌∙◌, arith}
use Rattle.std.specs.Prelude.{All}
use Rattle.std.proofs.lemmas.Bool.{cases_lt}
use Rattle.std.proofs.lemmas.List.{get_or-replicate, get_or-append_right, get_or_append_left, length-replicate, length-append}
use Rattle.std.proofs.lemmas.Option.{slice_get-get_or}
use Rattle.dep_model.specs.declared.skeleton.Pair.{Pair}
use Rattle.dep_model.specs.declared.vertex.Vertex.{Vertex}
use Rattle.dep_model.specs.declared.vertex.VertexKind.TheVariants.{Entry}
use Rattle.dep_model.specs.Facts.{IsIn}
use Rattle.dep_model.specs.Pairs.{IsPairIn}
use Rattle.dep_model.specs.Stretches.{AreByFunction}
use Rattle.dep_model.specs.VertexOrder.{in_function}
use Rattle.reaching_defs.specs.Stretches.{IsPairAmong}

abbrev pub six : ℕ → List Vertex
six first = replicate first (in_function 0 Entry) ++ replicate (6 - first) (in_function 1 Entry)

module _ (first : ℕ) (low : first ≤ 6) where
  long : length (six first) ≡ 6
  long =
      let a : length (replicate first (in_function 0 Entry)) ≡ first = length-replicate first (in_function 0 Entry) in
      let b : length (replicate (6 - first) (in_function 1 Entry)) ≡ 6 - first = length-replicate (6 - first) (in_function 1 Entry) in
      let both = length-append (replicate first (in_function 0 Entry)) (replicate (6 - first) (in_function 1 Entry)) in
      omega (arith, a, b, both, low)

  before : (i : ℕ) (d : Vertex) → i < first → get_or (six first) i d ≡ in_function 0 Entry
  before i d lt =
      let a : length (replicate first (in_function 0 Entry)) ≡ first = length-replicate first (in_function 0 Entry) in
      get_or_append_left (replicate first (in_function 0 Entry)) (replicate (6 - first) (in_function 1 Entry)) d i (omega (arith, lt, a)) ∙ get_or-replicate first i (in_function 0 Entry) d lt

  behind : (i : ℕ) (d : Vertex) → first ≤ i → i < 6 → get_or (six first) i d ≡ in_function 1 Entry
  behind i d le lt =
      get_or-append_right (replicate first (in_function 0 Entry)) (replicate (6 - first) (in_function 1 Entry)) first i d (length-replicate first (in_function 0 Entry)) le
      ∙ get_or-replicate (6 - first) (i - first) (in_function 1 Entry) d (omega (arith, le, lt))

  pub six_by_function : AreByFunction (six first)
  six_by_function i j d le lt = elim (cases_lt i first) [
    | inl h ↦ let e : (get_or (six first) i d).function ≡ 0 = ap (λ (x : Vertex). x.function) (before i d h) in omega (arith, e)
    | inr h ↦
        let count = long in
        let a : (get_or (six first) i d).function ≡ 1 = ap (λ (x : Vertex). x.function) (behind i d h (omega (arith, le, lt, count))) in
        let b : (get_or (six first) j d).function ≡ 1 = ap (λ (x : Vertex). x.function) (behind j d (omega (arith, h, le)) (omega (arith, lt, count))) in
        omega (arith, a, b)
  ]

  second : (v : ℕ) → first ≤ v → v < 6 → IsIn (six first) 1 v
  second v le lt =
      let count = long in
      let d = in_function 1 Entry in
      record { vertex = in_function 1 Entry; at = slice_get-get_or (six first) v d (omega (arith, lt, count)) ∙ ap Some (behind v d le lt); in_function = refl }

  pub pairs_in_second : (pairs : List Pair) → All (IsPairAmong first (6 - first)) pairs → All (IsPairIn (six first) 1) pairs
  pairs_in_second pairs all i d lt =
      let pair = all i d lt in
      let from = pair.from_high in
      let to = pair.to_high in
      record { from_in = second _ pair.from_low (omega (arith, from, low)); to_in = second _ pair.to_low (omega (arith, to, low)) }
