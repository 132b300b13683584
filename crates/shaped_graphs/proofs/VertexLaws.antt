-- Which vertices a program has: function by function, and in each one of a kind.
use Rattle.std.proofs.Common.{◌≡◌, ℕ, zero, suc, ◌+◌, ◌<◌, ◌≤◌, inl, inr, List, [], ◌∷◌, ◌++◌, length, map, slice_get, Some, sym, ap, subst, arith}
use Rattle.std.proofs.lemmas.Option.{same_Some, slice_get_within}
use Rattle.c_tree.specs.declared.program.Function.{Function}
use Rattle.c_tree.specs.declared.program.Program.{Program}
use Rattle.dep_model.specs.declared.vertex.Vertex.{Vertex}
use Rattle.dep_model.specs.declared.vertex.VertexKind.{VertexKind}
use Rattle.dep_model.specs.ModRef.{FunctionEffects}
use Rattle.dep_model.specs.Shapes.{AreConsecutive}
use Rattle.dep_model.specs.SystemGraph.{Analysis, vertices_of, IsVertex}
use Rattle.dep_model.specs.VertexOrder.{in_function, function_kinds, vertices_from}
use Rattle.dep_model.proofs.EntryLaws.{at_joined, at_mapped}
use Rattle.dep_model.proofs.Membership.{IsIn}
use Rattle.dep_model.proofs.FunctionOrder.{from_functions, own_function, in_order}

-- ---- places in lists

pub nowhere : {A : Type 0} {B : Type 0} (v : ℕ) (x : A) → slice_get {X = A} [] v ≡ Some x → B
nowhere v x h = cc

pub at_of_in : {A : Type 0} (xs : List A) (x : A) → IsIn xs x → (v : ℕ) × (slice_get xs v ≡ Some x)
at_of_in [] x h = absurd h
at_of_in (y ∷ ys) x (inl e) = (zero, ap Some e)
at_of_in (y ∷ ys) x (inr h) = let w = at_of_in ys x h in (suc w.0, w.1)

pub in_of_at : {A : Type 0} (xs : List A) (v : ℕ) (x : A) → slice_get xs v ≡ Some x → IsIn xs x
in_of_at [] v x h = nowhere v x h
in_of_at (y ∷ ys) zero x h = inl (same_Some _ _ h)
in_of_at (y ∷ ys) (suc v) x h = inr (in_of_at ys v x h)

pub at_first : {A : Type 0} (xs ys : List A) (v : ℕ) (x : A) → slice_get xs v ≡ Some x → slice_get (xs ++ ys) v ≡ Some x
at_first [] ys v x h = nowhere v x h
at_first (y ∷ xs) ys zero x h = h
at_first (y ∷ xs) ys (suc v) x h = at_first xs ys v x h

pub at_second : {A : Type 0} (xs ys : List A) (v : ℕ) (x : A) → slice_get ys v ≡ Some x → slice_get (xs ++ ys) (length xs + v) ≡ Some x
at_second [] ys v x h = let e : 0 + v ≡ v = omega arith in subst (λ k. slice_get ys k ≡ Some x) (sym e) h
at_second (y ∷ xs) ys v x h =
    let e : suc (length xs + v) ≡ length (y ∷ xs) + v = omega arith in
    subst (λ k. slice_get (y ∷ (xs ++ ys)) k ≡ Some x) e (at_second xs ys v x h)

-- an element stands at one place at most
abbrev pub IsOnce : {A : Type 0} → List A → A → Type 0
IsOnce xs x = (v w : ℕ) → slice_get xs v ≡ Some x → slice_get xs w ≡ Some x → v ≡ w

pub once_first : {A : Type 0} (xs ys : List A) (x : A) → IsOnce xs x → (IsIn ys x → ⊥) → IsOnce (xs ++ ys) x
once_first xs ys x once lacks v w a b = elim (at_joined xs ys v x a) [
  | inl h ↦ elim (at_joined xs ys w x b) [ inl k ↦ once v w h k | inr k ↦ absurd (lacks (in_of_at ys k.0 x k.2)) ]
  | inr h ↦ absurd (lacks (in_of_at ys h.0 x h.2))
]

pub once_second : {A : Type 0} (xs ys : List A) (x : A) → (IsIn xs x → ⊥) → IsOnce ys x → IsOnce (xs ++ ys) x
once_second xs ys x lacks once v w a b = elim (at_joined xs ys v x a) [
  | inl h ↦ absurd (lacks (in_of_at xs v x h))
  | inr h ↦ elim (at_joined xs ys w x b) [
    | inl k ↦ absurd (lacks (in_of_at xs w x k))
    | inr k ↦
        let same = once h.0 k.0 h.2 k.2 in
        let one = h.1 in
        let other = k.1 in
        omega (arith, same, one, other)
  ]
]

at_unmapped : {A B : Type 0} (f : A → B) (x : A) → ((y : A) → f y ≡ f x → y ≡ x) → (ys : List A) (k : ℕ) → slice_get (map f ys) k ≡ Some (f x) → slice_get ys k ≡ Some x
at_unmapped f x back [] k h = nowhere k (f x) h
at_unmapped f x back (y ∷ ys) zero h = ap Some (back y (same_Some _ _ h))
at_unmapped f x back (y ∷ ys) (suc k) h = at_unmapped f x back ys k h

pub once_mapped : {A B : Type 0} (f : A → B) (xs : List A) (x : A) → ((y : A) → f y ≡ f x → y ≡ x) → IsOnce xs x → IsOnce (map f xs) (f x)
once_mapped f xs x back once v w a b = once v w (at_unmapped f x back xs v a) (at_unmapped f x back xs w b)

-- ---- function by function

module _ (p : Program) (effects : FunctionEffects) where
  abbrev own : ℕ → List Vertex
  own n = map (in_function n) (function_kinds p effects n)

  kind_in : (n : ℕ) (gs : List Function) (f : ℕ) (k : VertexKind) (v : ℕ) → slice_get (vertices_from p effects n gs) v ≡ Some (in_function f k) → IsIn (function_kinds p effects f) k
  kind_in n [] f k v h = nowhere v (in_function f k) h
  kind_in n (g ∷ gs) f k v h = elim (at_joined (own n) (vertices_from p effects (suc n) gs) v (in_function f k) h) [
    | inl a ↦
        let same : n ≡ f = sym (own_function p effects n v (in_function f k) a) in
        subst (λ m. IsIn (function_kinds p effects m) k) same (kind_back n f k (function_kinds p effects n) v a)
    | inr b ↦ kind_in (suc n) gs f k b.0 b.2
  ]
    where
      kind_back : (n f : ℕ) (k : VertexKind) (ks : List VertexKind) (v : ℕ) → slice_get (map (in_function n) ks) v ≡ Some (in_function f k) → IsIn ks k
      kind_back n f k [] v h = nowhere v (in_function f k) h
      kind_back n f k (l ∷ ks) zero h = inl (ap (λ (y : Vertex). y.kind) (same_Some _ _ h))
      kind_back n f k (l ∷ ks) (suc v) h = inr (kind_back n f k ks v h)

  vertex_there : (n : ℕ) (gs : List Function) (f d : ℕ) (k : VertexKind) → f ≡ n + d → d < length gs → IsIn (function_kinds p effects f) k → (v : ℕ) × IsVertex (vertices_from p effects n gs) f k v
  vertex_there n [] f d k same low h = absurd (omega (arith, low))
  vertex_there n (g ∷ gs) f zero k same low h =
      let here : n ≡ f = omega (arith, same) in
      let w = at_of_in (function_kinds p effects f) k h in
      let at : slice_get (own n) w.0 ≡ Some (in_function f k) = subst (λ m. slice_get (own m) w.0 ≡ Some (in_function f k)) (sym here) (at_own f (function_kinds p effects f) w.0 k w.1) in
      (w.0, at_first (own n) (vertices_from p effects (suc n) gs) w.0 (in_function f k) at)
    where
      at_own : (f : ℕ) (ks : List VertexKind) (v : ℕ) (k : VertexKind) → slice_get ks v ≡ Some k → slice_get (map (in_function f) ks) v ≡ Some (in_function f k)
      at_own f [] v k h = nowhere v k h
      at_own f (l ∷ ks) zero k h = ap (λ j. Some (in_function f j)) (same_Some _ _ h)
      at_own f (l ∷ ks) (suc v) k h = at_own f ks v k h
  vertex_there n (g ∷ gs) f (suc d) k same low h =
      let w = vertex_there (suc n) gs f d k (omega (arith, same)) (omega (arith, low)) h in
      (length (own n) + w.0, at_second (own n) (vertices_from p effects (suc n) gs) w.0 (in_function f k) w.1)

  vertex_once : (n : ℕ) (gs : List Function) (f : ℕ) (k : VertexKind) → IsOnce (function_kinds p effects f) k → IsOnce (vertices_from p effects n gs) (in_function f k)
  vertex_once n [] f k once v w a b = nowhere v (in_function f k) a
  vertex_once n (g ∷ gs) f k once v w a b =
      let more = vertices_from p effects (suc n) gs in
      elim (at_joined (own n) more v (in_function f k) a) [
        | inl h ↦ elim (at_joined (own n) more w (in_function f k) b) [
          | inl j ↦
              let here : f ≡ n = own_function p effects n v (in_function f k) h in
              let all : IsOnce (own f) (in_function f k) = once_mapped (in_function f) (function_kinds p effects f) k (λ l e. ap (λ (y : Vertex). y.kind) e) once in
              all v w (subst (λ m. slice_get (own m) v ≡ Some (in_function f k)) (sym here) h) (subst (λ m. slice_get (own m) w ≡ Some (in_function f k)) (sym here) j)
          | inr j ↦
              let here = own_function p effects n v (in_function f k) h in
              let up = (from_functions p effects (suc n) gs j.0 (in_function f k) j.2).0 in
              absurd (omega (arith, here, up))
        ]
        | inr h ↦ elim (at_joined (own n) more w (in_function f k) b) [
          | inl j ↦
              let here = own_function p effects n w (in_function f k) j in
              let up = (from_functions p effects (suc n) gs h.0 (in_function f k) h.2).0 in
              absurd (omega (arith, here, up))
          | inr j ↦
              let same = vertex_once (suc n) gs f k once h.0 j.0 h.2 j.2 in
              let one = h.1 in
              let other = j.1 in
              omega (arith, same, one, other)
        ]
      ]

-- ---- of a program

module _ (p : Program) (a : Analysis) where
  pub consecutive : AreConsecutive (vertices_of p a)
  consecutive u v w x y z le le' at at' at'' same =
      let one = in_order p a.effects 0 p.functions u v x y le at at' in
      let other = in_order p a.effects 0 p.functions v w y z le' at' at'' in
      omega (arith, one, other, same)

  pub kind_of : (f : ℕ) (k : VertexKind) (v : ℕ) → IsVertex (vertices_of p a) f k v → IsIn (function_kinds p a.effects f) k
  kind_of f k v h = kind_in p a.effects 0 p.functions f k v h

  pub vertex_of : (f : ℕ) (k : VertexKind) → f < length p.functions → IsIn (function_kinds p a.effects f) k → (v : ℕ) × IsVertex (vertices_of p a) f k v
  vertex_of f k low h = vertex_there p a.effects 0 p.functions f f k (omega arith) low h

  pub one_vertex : (f : ℕ) (k : VertexKind) (v w : ℕ) → IsOnce (function_kinds p a.effects f) k → IsVertex (vertices_of p a) f k v → IsVertex (vertices_of p a) f k w → v ≡ w
  one_vertex f k v w once h j = vertex_once p a.effects 0 p.functions f k once v w h j
