-- The graphs of a program's functions, and the graph that they make.
use Rattle.std.proofs.Common.{◌≡◌, ◌↔◌, ◌+◌, ◌≤◌, ℕ, zero, suc, List, [], ◌∷◌, ◌++◌, length, get_or, Some, refl, sym, ap, ◌∙◌, subst, arith, inl, inr}
use Rattle.std.specs.Prelude.{Contains, All, slice_get}
use Rattle.std.proofs.lemmas.List.{length-map, length-append}
use Rattle.std.proofs.lemmas.List.Elements.{Contains-get_or}
use Rattle.std.proofs.lemmas.Option.{same_Some}
use Rattle.c_tree.specs.declared.program.Program.{Program}
use Rattle.dep_model.specs.declared.edge.Edge.{Edge}
use Rattle.dep_model.specs.declared.graph.FunctionGraph.{FunctionGraph}
use Rattle.dep_model.specs.declared.skeleton.FlowGraph.{FlowGraph}
use Rattle.dep_model.specs.declared.skeleton.Pair.{Pair}
use Rattle.dep_model.specs.declared.skeleton.Skeleton.{Skeleton}
use Rattle.dep_model.specs.declared.vertex.Vertex.{Vertex}
use Rattle.dep_model.specs.FunctionVertices.{FollowsIn, IsControlIn}
use Rattle.dep_model.specs.Graphs.{IsFunctionGraph}
use Rattle.dep_model.specs.EdgeOrder.{AreAscendingEdges}
use Rattle.dep_model.specs.LocationLists.{location_list}
use Rattle.dep_model.specs.Locations.{TypedLocation, locations}
use Rattle.dep_model.specs.Facts.{IsIn}
use Rattle.dep_model.specs.Pairs.{IsPairIn}
use Rattle.dep_model.specs.Stretches.{AreByFunction}
use Rattle.dep_model.specs.VertexOrder.{in_function}
use Rattle.dep_model.proofs.FunctionOrder.{are_by_function}
use Rattle.dep_model.specs.Skeletons.{IsSkeleton}
use Rattle.dep_model.specs.SystemGraph.{Analysis, vertices_of}
use Rattle.dep_model.proofs.EntryLaws.{at_joined}
use Rattle.numbered_texts.proofs.Listed.{used_are_listed}
use Rattle.numbered_texts.proofs.NumbersButLines.{named_exist}
use Rattle.reaching_defs.specs.RowFlow.{IsRowFlow, AreEvenRows}
use Rattle.reaching_defs.proofs.RowLaws.{row_flow_is_flow}
use Rattle.pdg.specs.Laws.{IsUnion}
use Rattle.pdg.proofs.UnionLaws.{union_is_function_graph}
use Rattle.sdg.proofs.InFunction.{IsIn as HasVertex, functions_few, order_in}
use Rattle.sdg.specs.Parts.{AreFunctionGraphs}
use Rattle.program_graph.specs.Given.{HasSkeleton}

-- a fact of each member holds of all
all_members : {A : Type 0} (P : A → Type 0) (xs : List A) → ((x : A) → Contains xs x → P x) → All P xs
all_members P xs h = λ i d lt. h (get_or xs i d) (Contains-get_or xs i d lt)

-- ---- what a skeleton gives

pub even_rows : (p : Program) (a : Analysis) (s : Skeleton) → IsSkeleton p a s → AreEvenRows s
even_rows p a s is =
    let same = sym is.vertices_are in
    record {
      defined_long = is.defined_are.sized.rows_are ∙ ap length same;
      used_long = is.used_are.sized.rows_are ∙ ap length same;
      killed_long = is.killed_are.sized.rows_are ∙ ap length same;
      used_wide = is.used_are.sized.bits_are ∙ sym is.defined_are.sized.bits_are;
      killed_wide = is.killed_are.sized.bits_are ∙ sym is.defined_are.sized.bits_are;
    }

pub by_function : (p : Program) (s : Skeleton) → HasSkeleton p s → AreByFunction s.vertices
by_function p s h = subst AreByFunction (sym h.is_skeleton.vertices_are) (are_by_function p h.analysis)

pub pairs_in : (p : Program) (s : Skeleton) (f : ℕ) (pairs : List Pair) → ((x : Pair) → Contains pairs x ↔ FollowsIn p s.vertices f x.from (Some x.to)) → All (IsPairIn s.vertices f) pairs
pairs_in p s f pairs follows = all_members (IsPairIn s.vertices f) pairs (λ x c.
    let both = order_in p s.vertices f x.from x.to ((follows x).0 c) in
    record { from_in = in_function_of s.vertices f x.from both.0; to_in = in_function_of s.vertices f x.to both.1 })
  where
    in_function_of : (vs : List Vertex) (g v : ℕ) → HasVertex vs g v → IsIn vs g v
    in_function_of vs g v w = record { vertex = in_function g w.kind; at = w.at; in_function = refl }

-- ---- the graph of a function

module _ (p : Program) (s : Skeleton) (h : HasSkeleton p s) (a : Analysis) (is : IsSkeleton p a s) (f : ℕ) where
  pub function_graph : (order : FlowGraph) (control flow : List Edge) (g : FunctionGraph)
      → ((x : Pair) → Contains order.pairs x ↔ FollowsIn p s.vertices f x.from (Some x.to))
      → ((e : Edge) → Contains control e ↔ IsControlIn p s.vertices f e)
      → ((e : Edge) → Contains flow e ↔ IsRowFlow s order e)
      → AreAscendingEdges g.edges → IsUnion control flow g → IsFunctionGraph p a f g
  function_graph order control flow g follows controls flows ascending union =
      let same : s.vertices ≡ vertices_of p a = is.vertices_are in
      let listed = used_are_listed p (named_exist p h.well_formed) a in
      let at_order = subst (λ (vs : List Vertex). (x : Pair) → Contains order.pairs x ↔ FollowsIn p vs f x.from (Some x.to)) same follows in
      let flow_same = row_flow_is_flow p a s order f is at_order listed in
      union_is_function_graph p a f control flow g
      (subst (λ (vs : List Vertex). (e : Edge) → Contains control e ↔ IsControlIn p vs f e) same controls)
      (λ e. (λ m. (flow_same e).0 ((flows e).0 m), λ k. (flows e).1 ((flow_same e).1 k)))
      ascending union

-- ---- those of all functions

-- the first functions have their graphs
pub record FirstGraphs (p : Program) (s : Skeleton) (n : ℕ) (parts : List FunctionGraph) : Type 0 where
  pub for_each : length parts ≡ n
  pub graph_is : (a : Analysis) → IsSkeleton p a s → (f : ℕ) (g : FunctionGraph) → slice_get parts f ≡ Some g → IsFunctionGraph p a f g

pub one_more_graph : (p : Program) (s : Skeleton) (n : ℕ) (parts more : List FunctionGraph) (part : FunctionGraph) → FirstGraphs p s n parts → more ≡ parts ++ part ∷ []
    → ((a : Analysis) → IsSkeleton p a s → IsFunctionGraph p a n part) → FirstGraphs p s (n + 1) more
one_more_graph p s n parts more part first is_more own = record {
  for_each = let long : length more ≡ length parts + 1 = ap length is_more ∙ length-append parts (part ∷ []) in let so_far = first.for_each in omega (arith, long, so_far);
  graph_is = λ a is f g h. elim (at_joined parts (part ∷ []) f g (subst (λ gs. slice_get gs f ≡ Some g) is_more h)) [
    | inl before ↦ first.graph_is a is f g before
    | inr last ↦ last_one a is f g last.0 last.1 last.2
  ];
}
  where
    last_one : (a : Analysis) → IsSkeleton p a s → (f : ℕ) (g : FunctionGraph) (w : ℕ) → f ≡ length parts + w → slice_get (part ∷ []) w ≡ Some g → IsFunctionGraph p a f g
    last_one a is f g zero place h =
        let count = first.for_each in
        let here : n ≡ f = omega (arith, place, count) in
        subst (λ k. IsFunctionGraph p a k g) here (subst (IsFunctionGraph p a n) (same_Some _ _ h) (own a is))
    last_one a is f g (suc w) place h = cc

pub all_graphs : (p : Program) (s : Skeleton) (n end : ℕ) (parts : List FunctionGraph) → FirstGraphs p s n parts → n ≡ end → end ≡ length p.functions → (a : Analysis) → IsSkeleton p a s → AreFunctionGraphs p a parts
all_graphs p s n end parts first done all a is = record { for_each = first.for_each ∙ done ∙ all; graph_is = first.graph_is a is }

-- ---- counts

pub few_functions : (p : Program) (s : Skeleton) → HasSkeleton p s → length p.functions ≤ 65536
few_functions p s h =
    let few = functions_few p h.analysis in
    let same : length s.vertices ≡ length (vertices_of p h.analysis) = ap length h.is_skeleton.vertices_are in
    let limit = h.few_vertices in
    omega (arith, few, same, limit)

pub few_locations : (p : Program) (s : Skeleton) → HasSkeleton p s → s.defined.bits ≤ 4096
few_locations p s h =
    let bits = h.is_skeleton.defined_are.sized.bits_are in
    let long : length (location_list p) ≡ length (locations p) = length-map (locations p) (λ (o : TypedLocation). o.location) in
    let limit = h.few_locations in
    omega (arith, bits, long, limit)
