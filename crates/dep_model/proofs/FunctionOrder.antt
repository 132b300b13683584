-- The vertices of a program stand function by function.
use Rattle.std.proofs.Common.{◌≡◌, ℕ, suc, ◌+◌, ◌<◌, ◌≤◌, inl, inr, List, [], ◌∷◌, length, map, get_or, slice_get, Some, sym, ap, arith}
use Rattle.std.proofs.lemmas.Option.{slice_get_within, slice_get-get_or}
use Rattle.c_tree.specs.declared.program.Function.{Function}
use Rattle.c_tree.specs.declared.program.Program.{Program}
use Rattle.dep_model.specs.declared.vertex.Vertex.{Vertex}
use Rattle.dep_model.specs.ModRef.{FunctionEffects}
use Rattle.dep_model.specs.Stretches.{AreByFunction}
use Rattle.dep_model.specs.SystemGraph.{Analysis, vertices_of}
use Rattle.dep_model.specs.VertexOrder.{in_function, function_kinds, vertices_from}
use Rattle.dep_model.proofs.EntryLaws.{at_joined, at_mapped}

nowhere : {A : Type 0} (v : ℕ) (x : Vertex) → slice_get {X = Vertex} [] v ≡ Some x → A
nowhere v x h = cc

module _ (p : Program) (effects : FunctionEffects) where
  -- the functions of vertices are those of the program
  pub from_functions : (n : ℕ) (gs : List Function) (v : ℕ) (x : Vertex) → slice_get (vertices_from p effects n gs) v ≡ Some x → (n ≤ x.function) × (x.function < n + length gs)
  from_functions n [] v x h = nowhere v x h
  from_functions n (g ∷ gs) v x h = elim (at_joined (map (in_function n) (function_kinds p effects n)) (vertices_from p effects (suc n) gs) v x h) [
    | inl a ↦
        let of = at_mapped (in_function n) (function_kinds p effects n) v x a in
        let same : n ≡ x.function = ap (λ (y : Vertex). y.function) of.1 in
        (omega (arith, same), omega (arith, same))
    | inr b ↦
        let up = (from_functions (suc n) gs b.0 x b.2).0 in
        let down = (from_functions (suc n) gs b.0 x b.2).1 in
        (omega (arith, up), omega (arith, down))
  ]

  pub own_function : (n v : ℕ) (x : Vertex) → slice_get (map (in_function n) (function_kinds p effects n)) v ≡ Some x → x.function ≡ n
  own_function n v x h = let of = at_mapped (in_function n) (function_kinds p effects n) v x h in sym (ap (λ (y : Vertex). y.function) of.1)

  pub in_order : (n : ℕ) (gs : List Function) (u v : ℕ) (x y : Vertex) → u ≤ v → slice_get (vertices_from p effects n gs) u ≡ Some x → slice_get (vertices_from p effects n gs) v ≡ Some y → x.function ≤ y.function
  in_order n [] u v x y le a b = nowhere u x a
  in_order n (g ∷ gs) u v x y le a b =
      let own = map (in_function n) (function_kinds p effects n) in
      let more = vertices_from p effects (suc n) gs in
      elim (at_joined own more u x a) [
        | inl h ↦
            let here = own_function n u x h in
            let up = (from_functions n (g ∷ gs) v y b).0 in
            omega (arith, here, up)
        | inr h ↦ elim (at_joined own more v y b) [
          | inl k ↦
              let past = h.1 in
              let low = slice_get_within own v y k in
              absurd (omega (arith, past, low, le))
          | inr k ↦
              let one = h.1 in
              let other = k.1 in
              in_order (suc n) gs h.0 k.0 x y (omega (arith, one, other, le)) h.2 k.2
        ]
      ]

pub are_by_function : (p : Program) (a : Analysis) → AreByFunction (vertices_of p a)
are_by_function p a i j d le low =
    let vs = vertices_of p a in
    in_order p a.effects 0 p.functions i j (get_or vs i d) (get_or vs j d) le (slice_get-get_or vs i d (omega (arith, le, low))) (slice_get-get_or vs j d low)
