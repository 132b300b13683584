-- The entry of main is found.
use Rattle.std.proofs.Common.{◌≡◌, ℕ, zero, suc, List, [], ◌∷◌, slice_get, Bool, true, cond, Some, option_map, position, inl, inr, refl, ap, ◌∙◌, subst, arith}
use Rattle.std.specs.Prelude.{◌==◌}
use Rattle.std.proofs.lemmas.Bool.{cases_Bool, and_parts}
use Rattle.std.proofs.lemmas.Bool.Decides.{nat_tests}
use Rattle.std.proofs.lemmas.Option.{same_Some}
use Rattle.c_tree.specs.declared.program.Program.{Program}
use Rattle.c_language.proofs.Lists.{position-cons}
use Rattle.dep_model.specs.declared.graph.Graph.{Graph}
use Rattle.dep_model.specs.declared.vertex.Vertex.{Vertex}
use Rattle.dep_model.specs.declared.vertex.VertexKind.{VertexKind}
use Rattle.dep_model.specs.declared.vertex.VertexKind.TheVariants.{Entry, FormalIn, FormalOut, Statement, Call, ActualIn, ActualOut}
use Rattle.dep_model.specs.ClosedSets.{IsMainEntry}
use Rattle.dep_model.specs.FunctionVertices.{is_entry, passes}
use Rattle.dep_model.specs.Graphs.{IsGraphOf}
use Rattle.dep_model.specs.SystemGraph.{IsVertex}
use Rattle.dep_model.specs.VertexOrder.{in_function}
use Rattle.dep_model.proofs.EntryLaws.{entry_one}
use Rattle.completion.specs.Closing.{entry_of, main_entry}

none_first : {m : ℕ} → zero ≡ suc m → ⊥
none_first e = cc

-- the one element that passes is the first
position_one : {X : Type 0} (test : X → Bool) (xs : List X) (m : ℕ) (x : X) → slice_get xs m ≡ Some x → test x ≡ true → ((k : ℕ) (y : X) → slice_get xs k ≡ Some y → test y ≡ true → k ≡ m) → position test xs ≡ Some m
position_one test [] m x at h one = cc
position_one test (y ∷ xs) zero x at h one =
    position-cons test y xs ∙ ap (λ b. cond b (Some 0) (option_map suc (position test xs))) (ap test (same_Some _ _ at) ∙ h)
position_one test (y ∷ xs) (suc m) x at h one = elim (cases_Bool (test y)) [
  | inl t ↦ absurd (none_first (one zero y refl t))
  | inr f ↦ position-cons test y xs ∙ ap (λ b. cond b (Some 0) (option_map suc (position test xs))) f ∙ ap (option_map suc) (position_one test xs m x at h (λ k z e u. before (one (suc k) z e u)))
]
  where
    before : {k : ℕ} → suc k ≡ suc m → k ≡ m
    before e = cc

is_entry_of : (k : VertexKind) → is_entry k ≡ true → k ≡ Entry
is_entry_of Entry h = refl
is_entry_of (FormalIn slot) h = cc
is_entry_of (FormalOut slot) h = cc
is_entry_of (Statement i) h = cc
is_entry_of (Call i) h = cc
is_entry_of (ActualIn i slot) h = cc
is_entry_of (ActualOut i slot) h = cc

same_number : (a b : ℕ) → (a == b) ≡ true → a ≡ b
same_number a b h = grind (arith, nat_tests)

number_same : (a : ℕ) → (a == a) ≡ true
number_same a = grind (arith, nat_tests)

passes_entry : (f : ℕ) (x : Vertex) → passes is_entry f x ≡ true → x ≡ in_function f Entry
passes_entry f x h =
    let both = and_parts (x.function == f) (is_entry x.kind) h in
    ap (λ g. in_function g x.kind) (same_number x.function f both.0) ∙ ap (λ k. in_function f k) (is_entry_of x.kind both.1)

entry_passes : (f : ℕ) → passes is_entry f (in_function f Entry) ≡ true
entry_passes f = rw (number_same f) refl

pub main_entry_is : (p : Program) (g : Graph) → IsGraphOf p g → (m : ℕ) → IsMainEntry p g.vertices m → main_entry p g.vertices ≡ Some m
main_entry_is p g graph m h =
    let f = h.function in
    let here : (v : ℕ) → IsVertex g.vertices f Entry v → v ≡ m = λ v at.
    entry_one p graph.analysis f v m (subst (λ vs. IsVertex vs f Entry v) graph.is_graph.vertices_are at) (subst (λ vs. IsVertex vs f Entry m) graph.is_graph.vertices_are h.entry) in
    ap (λ o. entry_of g.vertices o) h.is_main ∙ position_one (passes is_entry f) g.vertices m (in_function f Entry) h.entry (entry_passes f)
    (λ k y at t. here k (at ∙ ap (λ (x : Vertex). Some x) (passes_entry f y t)))
