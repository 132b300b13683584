-- Each argument of a function has one formal-in among the vertices of a program.
use Rattle.std.proofs.Common.{◌≡◌, ℕ, zero, suc, ◌+◌, ◌≤◌, List, [], ◌∷◌, ◌++◌, length, map, slice_get, ◌⊎◌, inl, inr, Some, refl, sym, ap, ◌∙◌, subst, arith}
use Rattle.std.specs.Prelude.{if◌then◌else◌}
use Rattle.std.proofs.lemmas.Option.{same_Some}
use Rattle.std.proofs.lemmas.Bool.{cases_Bool}
use Rattle.c_tree.specs.declared.program.Function.{Function}
use Rattle.c_tree.specs.declared.program.Program.{Program}
use Rattle.dep_model.specs.declared.vertex.Slot.{Slot}
use Rattle.dep_model.specs.declared.vertex.Slot.TheVariants.{Argument, At}
use Rattle.dep_model.specs.declared.vertex.Vertex.{Vertex}
use Rattle.dep_model.specs.declared.vertex.VertexKind.{VertexKind}
use Rattle.dep_model.specs.declared.vertex.VertexKind.TheVariants.{Entry, FormalIn, FormalOut, Statement, Call, ActualIn, ActualOut}
use Rattle.dep_model.specs.Denoted.{Places}
use Rattle.dep_model.specs.Doings.{Doing, Does, Calls, doings_of}
use Rattle.dep_model.specs.Locations.{TypedLocation, locations}
use Rattle.dep_model.specs.MayPoint.{parameters}
use Rattle.dep_model.specs.ModRef.{FunctionEffects}
use Rattle.dep_model.specs.SystemGraph.{Analysis, vertices_of, IsVertex}
use Rattle.dep_model.specs.VertexOrder.{in_function, arguments_from, slots_from, slots_of, touched, target_slots, formal_ins, formal_outs, all_vertices, doing_vertices, function_kinds, vertices_from}

-- a place of a list that was joined is one of the first part, or one of the second
at_joined : {A : Type 0} (xs ys : List A) (v : ℕ) (x : A) → slice_get (xs ++ ys) v ≡ Some x → (slice_get xs v ≡ Some x) ⊎ ((w : ℕ) × (v ≡ length xs + w) × (slice_get ys w ≡ Some x))
at_joined [] ys v x h = inr (v, omega arith, h)
at_joined (y ∷ xs) ys zero x h = inl h
at_joined (y ∷ xs) ys (suc v) x h = elim (at_joined xs ys v x h) [
  | inl a ↦ inl a
  | inr b ↦ let e = b.1 in inr (b.0, omega (arith, e), b.2)
]

at_mapped : {A B : Type 0} (f : A → B) (xs : List A) (v : ℕ) (y : B) → slice_get (map f xs) v ≡ Some y → (x : A) × (slice_get xs v ≡ Some x) × (f x ≡ y)
at_mapped f [] v y h = cc
at_mapped f (x ∷ xs) zero y h = (x, refl, same_Some _ _ h)
at_mapped f (x ∷ xs) (suc v) y h = at_mapped f xs v y h

-- ---- the slots of formal-ins: the argument n has the place n
argument_at : {A : Type 0} (k : ℕ) (xs : List A) (v n : ℕ) → slice_get (arguments_from k xs) v ≡ Some (Argument n) → n ≡ k + v
argument_at k [] v n h = cc
argument_at k (x ∷ xs) zero n h = let e : Argument k ≡ Argument n = same_Some _ _ h in let same : k ≡ n = cc in omega (arith, same)
argument_at k (x ∷ xs) (suc v) n h = let e = argument_at (suc k) xs v n h in omega (arith, e)

at_first : (k n : ℕ) (ss : List Slot) → ((v : ℕ) → slice_get ss v ≡ Some (Argument n) → ⊥) → (v : ℕ) → slice_get (At k ∷ ss) v ≡ Some (Argument n) → ⊥
at_first k n ss none zero h = let e : At k ≡ Argument n = same_Some _ _ h in absurd cc
at_first k n ss none (suc v) h = none v h

no_argument : (test : Places) (k : ℕ) (os : List TypedLocation) (v n : ℕ) → slice_get (slots_from test k os) v ≡ Some (Argument n) → ⊥
no_argument test k [] v n h = cc
no_argument test k (o ∷ os) v n h = elim (cases_Bool (test o.location)) [
  | inl t ↦ at_first k n (slots_from test (suc k) os) (λ w. no_argument test (suc k) os w n) v (subst (λ b. slice_get (if b then At k ∷ slots_from test (suc k) os else slots_from test (suc k) os) v ≡ Some (Argument n)) t h)
  | inr f ↦ no_argument test (suc k) os v n (subst (λ b. slice_get (if b then At k ∷ slots_from test (suc k) os else slots_from test (suc k) os) v ≡ Some (Argument n)) f h)
]

-- ---- vertices that are no formal-in
abbrev LackFormals : List VertexKind → Type 0
LackFormals ks = (v n : ℕ) → slice_get ks v ≡ Some (FormalIn (Argument n)) → ⊥

lack_joined : (xs ys : List VertexKind) → LackFormals xs → LackFormals ys → LackFormals (xs ++ ys)
lack_joined xs ys a b v n h = elim (at_joined xs ys v (FormalIn (Argument n)) h) [ inl x ↦ a v n x | inr y ↦ b y.0 n y.2 ]

lack_out : (ss : List Slot) → LackFormals (map FormalOut ss)
lack_out ss v n h = let r = at_mapped FormalOut ss v (FormalIn (Argument n)) h in let e : FormalOut r.0 ≡ FormalIn (Argument n) = r.2 in absurd cc

lack_actual_in : (i : ℕ) (ss : List Slot) → LackFormals (map (ActualIn i) ss)
lack_actual_in i ss v n h = let r = at_mapped (ActualIn i) ss v (FormalIn (Argument n)) h in let e : ActualIn i r.0 ≡ FormalIn (Argument n) = r.2 in absurd cc

lack_actual_out : (i : ℕ) (ss : List Slot) → LackFormals (map (ActualOut i) ss)
lack_actual_out i ss v n h = let r = at_mapped (ActualOut i) ss v (FormalIn (Argument n)) h in let e : ActualOut i r.0 ≡ FormalIn (Argument n) = r.2 in absurd cc

module _ (p : Program) (effects : FunctionEffects) where
  lack_doing : (d : Doing) → LackFormals (doing_vertices p effects d)
  lack_doing (Does i a) zero n h = let e : Statement i ≡ FormalIn (Argument n) = same_Some _ _ h in absurd cc
  lack_doing (Does i a) (suc v) n h = cc
  lack_doing (Calls i to g args) zero n h = let e : Call i ≡ FormalIn (Argument n) = same_Some _ _ h in absurd cc
  lack_doing (Calls i to g args) (suc v) n h =
      lack_joined (map (ActualIn i) (arguments_from 0 args ++ slots_of p effects (touched p effects g))) (map (ActualOut i) (slots_of p effects (effects.modified g) ++ target_slots p effects to)) (lack_actual_in i _) (lack_actual_out i _) v n h

  lack_all : (ds : List Doing) → LackFormals (all_vertices p effects ds)
  lack_all [] v n h = cc
  lack_all (d ∷ ds) v n h = lack_joined (doing_vertices p effects d) (all_vertices p effects ds) (lack_doing d) (lack_all ds) v n h

  lack_rest : (f : ℕ) → LackFormals (all_vertices p effects (doings_of p f) ++ formal_outs p effects f)
  lack_rest f = lack_joined (all_vertices p effects (doings_of p f)) (formal_outs p effects f) (lack_all (doings_of p f)) (lack_out _)

  formal_place : (f v n : ℕ) → slice_get (formal_ins p effects f) v ≡ Some (FormalIn (Argument n)) → v ≡ n
  formal_place f v n h =
      let slots = slots_of p effects (touched p effects f) in
      let r = at_mapped FormalIn (arguments_from 0 (parameters p f) ++ slots) v (FormalIn (Argument n)) h in
      let same : r.0 ≡ Argument n = (let e : FormalIn r.0 ≡ FormalIn (Argument n) = r.2 in cc) in
      elim (at_joined (arguments_from 0 (parameters p f)) slots v (Argument n) (r.1 ∙ ap (λ (s : Slot). Some s) same)) [
        | inl a ↦ let e = argument_at 0 (parameters p f) v n a in omega (arith, e)
        | inr b ↦ absurd (no_argument (touched p effects f) 0 (locations p) b.0 n b.2)
      ]

  -- the formal-in of argument n stands right after the entry and n others
  kind_place : (f v n : ℕ) → slice_get (function_kinds p effects f) v ≡ Some (FormalIn (Argument n)) → v ≡ suc n
  kind_place f zero n h = let e : Entry ≡ FormalIn (Argument n) = same_Some _ _ h in absurd cc
  kind_place f (suc v) n h = elim (at_joined (formal_ins p effects f) (all_vertices p effects (doings_of p f) ++ formal_outs p effects f) v (FormalIn (Argument n)) h) [
    | inl a ↦ ap suc (formal_place f v n a)
    | inr b ↦ absurd (lack_rest f b.0 n b.2)
  ]

  abbrev own : ℕ → List Vertex
  own k = map (in_function k) (function_kinds p effects k)

  own_formal : (k f v n : ℕ) → IsVertex (own k) f (FormalIn (Argument n)) v → (f ≡ k) × (v ≡ suc n)
  own_formal k f v n h =
      let r = at_mapped (in_function k) (function_kinds p effects k) v (in_function f (FormalIn (Argument n))) h in
      (sym (ap (λ (x : Vertex). x.function) r.2), kind_place k v n (r.1 ∙ ap (λ (x : Vertex). Some x.kind) r.2))

  later_function : (k : ℕ) (gs : List Function) (f v n : ℕ) → IsVertex (vertices_from p effects k gs) f (FormalIn (Argument n)) v → k ≤ f
  later_function k [] f v n h = cc
  later_function k (g ∷ gs) f v n h = elim (at_joined (own k) (vertices_from p effects (suc k) gs) v (in_function f (FormalIn (Argument n))) h) [
    | inl a ↦ let e = (own_formal k f v n a).0 in omega (arith, e)
    | inr b ↦ let lt = later_function (suc k) gs f b.0 n b.2 in omega (arith, lt)
  ]

  formals_one : (k : ℕ) (gs : List Function) (f v w n : ℕ) → IsVertex (vertices_from p effects k gs) f (FormalIn (Argument n)) v → IsVertex (vertices_from p effects k gs) f (FormalIn (Argument n)) w → v ≡ w
  formals_one k [] f v w n a b = cc
  formals_one k (g ∷ gs) f v w n a b =
      let more = vertices_from p effects (suc k) gs in
      elim (at_joined (own k) more v (in_function f (FormalIn (Argument n))) a) [
        | inl x ↦ elim (at_joined (own k) more w (in_function f (FormalIn (Argument n))) b) [
          | inl y ↦ (own_formal k f v n x).1 ∙ sym (own_formal k f w n y).1
          | inr y ↦ let lt = later_function (suc k) gs f y.0 n y.2 in let e = (own_formal k f v n x).0 in absurd (omega (arith, lt, e))
        ]
        | inr x ↦ elim (at_joined (own k) more w (in_function f (FormalIn (Argument n))) b) [
          | inl y ↦ let lt = later_function (suc k) gs f x.0 n x.2 in let e = (own_formal k f w n y).0 in absurd (omega (arith, lt, e))
          | inr y ↦ x.1 ∙ ap (λ m. length (own k) + m) (formals_one (suc k) gs f x.0 y.0 n x.2 y.2) ∙ sym y.1
        ]
      ]

pub formal_one : (p : Program) (a : Analysis) (f v w n : ℕ) → IsVertex (vertices_of p a) f (FormalIn (Argument n)) v → IsVertex (vertices_of p a) f (FormalIn (Argument n)) w → v ≡ w
formal_one p a f v w n h j = formals_one p a.effects 0 p.functions f v w n h j
