-- Each function has one entry among the vertices of a program.
use Rattle.std.proofs.Common.{◌≡◌, ℕ, zero, suc, ◌+◌, ◌≤◌, List, [], ◌∷◌, ◌++◌, length, map, slice_get, ◌⊎◌, inl, inr, Some, refl, sym, ap, ◌∙◌, subst, arith}
use Rattle.std.proofs.lemmas.Option.{same_Some}
use Rattle.c_tree.specs.declared.program.Function.{Function}
use Rattle.c_tree.specs.declared.program.Program.{Program}
use Rattle.dep_model.specs.declared.vertex.Slot.{Slot}
use Rattle.dep_model.specs.declared.vertex.Vertex.{Vertex}
use Rattle.dep_model.specs.declared.vertex.VertexKind.{VertexKind}
use Rattle.dep_model.specs.declared.vertex.VertexKind.TheVariants.{Entry, FormalIn, FormalOut, Statement, Call, ActualIn, ActualOut}
use Rattle.dep_model.specs.ClosedSets.{IsMainEntry}
use Rattle.dep_model.specs.Doings.{Doing, Does, Calls, doings_of}
use Rattle.dep_model.specs.ModRef.{FunctionEffects}
use Rattle.dep_model.specs.SystemGraph.{Analysis, vertices_of, IsVertex}
use Rattle.dep_model.specs.VertexOrder.{in_function, arguments_from, slots_of, touched, target_slots, formal_ins, formal_outs, all_vertices, doing_vertices, function_kinds, vertices_from}

-- a place of a list that was joined is one of the first part, or one of the second
pub at_joined : {A : Type 0} (xs ys : List A) (v : ℕ) (x : A) → slice_get (xs ++ ys) v ≡ Some x → (slice_get xs v ≡ Some x) ⊎ ((w : ℕ) × (v ≡ length xs + w) × (slice_get ys w ≡ Some x))
at_joined [] ys v x h = inr (v, omega arith, h)
at_joined (y ∷ xs) ys zero x h = inl h
at_joined (y ∷ xs) ys (suc v) x h = elim (at_joined xs ys v x h) [
  | inl a ↦ inl a
  | inr b ↦ let e = b.1 in inr (b.0, omega (arith, e), b.2)
]

pub at_mapped : {A B : Type 0} (f : A → B) (xs : List A) (v : ℕ) (y : B) → slice_get (map f xs) v ≡ Some y → (x : A) × (f x ≡ y)
at_mapped f [] v y h = cc
at_mapped f (x ∷ xs) zero y h = (x, same_Some _ _ h)
at_mapped f (x ∷ xs) (suc v) y h = at_mapped f xs v y h

-- none of the kinds is an entry
abbrev LackEntries : List VertexKind → Type 0
LackEntries ks = (v : ℕ) → slice_get ks v ≡ Some Entry → ⊥

lack_joined : (xs ys : List VertexKind) → LackEntries xs → LackEntries ys → LackEntries (xs ++ ys)
lack_joined xs ys a b v h = elim (at_joined xs ys v Entry h) [ inl x ↦ a v x | inr y ↦ b y.0 y.2 ]

lack_in : (ss : List Slot) → LackEntries (map FormalIn ss)
lack_in ss v h = let e : FormalIn (at_mapped FormalIn ss v Entry h).0 ≡ Entry = (at_mapped FormalIn ss v Entry h).1 in absurd cc

lack_out : (ss : List Slot) → LackEntries (map FormalOut ss)
lack_out ss v h = let e : FormalOut (at_mapped FormalOut ss v Entry h).0 ≡ Entry = (at_mapped FormalOut ss v Entry h).1 in absurd cc

lack_actual_in : (i : ℕ) (ss : List Slot) → LackEntries (map (ActualIn i) ss)
lack_actual_in i ss v h = let e : ActualIn i (at_mapped (ActualIn i) ss v Entry h).0 ≡ Entry = (at_mapped (ActualIn i) ss v Entry h).1 in absurd cc

lack_actual_out : (i : ℕ) (ss : List Slot) → LackEntries (map (ActualOut i) ss)
lack_actual_out i ss v h = let e : ActualOut i (at_mapped (ActualOut i) ss v Entry h).0 ≡ Entry = (at_mapped (ActualOut i) ss v Entry h).1 in absurd cc

module _ (p : Program) (effects : FunctionEffects) where
  lack_doing : (d : Doing) → LackEntries (doing_vertices p effects d)
  lack_doing (Does i a) zero h = let e : Statement i ≡ Entry = same_Some _ _ h in absurd cc
  lack_doing (Does i a) (suc v) h = cc
  lack_doing (Calls i to g args) zero h = let e : Call i ≡ Entry = same_Some _ _ h in absurd cc
  lack_doing (Calls i to g args) (suc v) h =
      lack_joined (map (ActualIn i) (arguments_from 0 args ++ slots_of p effects (touched p effects g))) (map (ActualOut i) (slots_of p effects (effects.modified g) ++ target_slots p effects to)) (lack_actual_in i _) (lack_actual_out i _) v h

  lack_all : (ds : List Doing) → LackEntries (all_vertices p effects ds)
  lack_all [] v h = cc
  lack_all (d ∷ ds) v h = lack_joined (doing_vertices p effects d) (all_vertices p effects ds) (lack_doing d) (lack_all ds) v h

  lack_rest : (f : ℕ) → LackEntries (formal_ins p effects f ++ (all_vertices p effects (doings_of p f) ++ formal_outs p effects f))
  lack_rest f =
      lack_joined (formal_ins p effects f) (all_vertices p effects (doings_of p f) ++ formal_outs p effects f) (lack_in _) (lack_joined (all_vertices p effects (doings_of p f)) (formal_outs p effects f) (lack_all (doings_of p f)) (lack_out _))

  abbrev own : ℕ → List Vertex
  own k = map (in_function k) (function_kinds p effects k)

  -- an entry among the vertices of function k is the first of them
  own_entry : (k f v : ℕ) → IsVertex (own k) f Entry v → (f ≡ k) × (v ≡ 0)
  own_entry k f zero h = let e : in_function k Entry ≡ in_function f Entry = same_Some _ _ h in (sym (ap (λ (x : Vertex). x.function) e), refl)
  own_entry k f (suc v) h = absurd (lack_rest k v (at_kind (formal_ins p effects k ++ (all_vertices p effects (doings_of p k) ++ formal_outs p effects k)) v h))
    where
      at_kind : (ks : List VertexKind) (v : ℕ) → slice_get (map (in_function k) ks) v ≡ Some (in_function f Entry) → slice_get ks v ≡ Some Entry
      at_kind [] v h = cc
      at_kind (x ∷ ks) zero h = let e : in_function k x ≡ in_function f Entry = same_Some _ _ h in ap (λ (y : Vertex). Some y.kind) e
      at_kind (x ∷ ks) (suc v) h = at_kind ks v h

  later_function : (k : ℕ) (gs : List Function) (f v : ℕ) → IsVertex (vertices_from p effects k gs) f Entry v → k ≤ f
  later_function k [] f v h = cc
  later_function k (g ∷ gs) f v h = elim (at_joined (own k) (vertices_from p effects (suc k) gs) v (in_function f Entry) h) [
    | inl a ↦ let e = (own_entry k f v a).0 in omega (arith, e)
    | inr b ↦ let lt = later_function (suc k) gs f b.0 b.2 in omega (arith, lt)
  ]

  entries_one : (k : ℕ) (gs : List Function) (f v w : ℕ) → IsVertex (vertices_from p effects k gs) f Entry v → IsVertex (vertices_from p effects k gs) f Entry w → v ≡ w
  entries_one k [] f v w a b = cc
  entries_one k (g ∷ gs) f v w a b =
      let more = vertices_from p effects (suc k) gs in
      elim (at_joined (own k) more v (in_function f Entry) a) [
        | inl x ↦ elim (at_joined (own k) more w (in_function f Entry) b) [
          | inl y ↦ (own_entry k f v x).1 ∙ sym (own_entry k f w y).1
          | inr y ↦ let lt = later_function (suc k) gs f y.0 y.2 in let e = (own_entry k f v x).0 in absurd (omega (arith, lt, e))
        ]
        | inr x ↦ elim (at_joined (own k) more w (in_function f Entry) b) [
          | inl y ↦ let lt = later_function (suc k) gs f x.0 x.2 in let e = (own_entry k f w y).0 in absurd (omega (arith, lt, e))
          | inr y ↦ x.1 ∙ ap (λ n. length (own k) + n) (entries_one (suc k) gs f x.0 y.0 x.2 y.2) ∙ sym y.1
        ]
      ]

pub entry_one : (p : Program) (a : Analysis) (f v w : ℕ) → IsVertex (vertices_of p a) f Entry v → IsVertex (vertices_of p a) f Entry w → v ≡ w
entry_one p a f v w = entries_one p a.effects 0 p.functions f v w

-- the entry of main is one
pub main_entry_one : (p : Program) (a : Analysis) (v w : ℕ) → IsMainEntry p (vertices_of p a) v → IsMainEntry p (vertices_of p a) w → v ≡ w
main_entry_one p a v w h j =
    let same : h.function ≡ j.function = same_Some _ _ (sym h.is_main ∙ j.is_main) in
    entry_one p a j.function v w (subst (λ f. IsVertex (vertices_of p a) f Entry v) same h.entry) j.entry
