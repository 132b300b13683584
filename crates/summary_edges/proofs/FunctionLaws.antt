-- The functions of a graph by their numbers: which there are, and how many.
use Rattle.std.proofs.Common.{◌≡◌, ◌≢◌, ◌↔◌, ℕ, zero, suc, ◌<◌, ◌≤◌, ◌==◌, true, List, [], ◌∷◌, map, length, get_or, All, Contains, Some, None, slice_get, sym, ap, ◌∙◌, subst, arith}
use Rattle.std.specs.Prelude.{nat_eq}
use Rattle.std.specs.List.{AllPairs}
use Rattle.std.proofs.lemmas.Bool.{or_left, or_right}
use Rattle.std.proofs.lemmas.Bool.Decides.{Decides-eqb, nat_tests}
use Rattle.std.proofs.lemmas.Cmp.{nat_eq_equiv}
use Rattle.std.proofs.lemmas.List.{length-map}
use Rattle.std.proofs.lemmas.List.Elements.{All-contains}
use Rattle.std.proofs.lemmas.Map.Made.{IsDistinct-from_AllPairs, is_member-Decides, length-le_from_is_member}
use Rattle.std.proofs.lemmas.Option.{same_Some, slice_get_within, slice_get-get_or}
use Rattle.rule_closure.proofs.ListLemmas.{contains_map, map_contains}
use Rattle.dep_model.specs.declared.graph.Graph.{Graph}
use Rattle.dep_model.specs.declared.vertex.Vertex.{Vertex}
use Rattle.dep_model.specs.declared.vertex.VertexKind.TheVariants as kind
use Rattle.dep_model.specs.Facts.{IsIn}
use Rattle.dep_model.specs.Shapes.{IsShaped}
use Rattle.matched_paths.proofs.CallShapes.{is_in}
use Rattle.summary_edges.specs.declared.function_parts.FunctionPart.{FunctionPart}
use Rattle.summary_edges.specs.declared.function_parts.FunctionParts.{FunctionParts}
use Rattle.summary_edges.specs.Agendas.{IsDue, number_at}
use Rattle.summary_edges.specs.FactMachine.{IsFunction, has_function}
use Rattle.summary_edges.specs.FunctionParts.{AreParts}
use Rattle.summary_edges.proofs.AgendaLaws.{number_is}
use Rattle.summary_edges.proofs.PartLaws.{at_contains, first_inside}
use Rattle.summary_edges.proofs.WorkLaws.{numbered, vertex_of}

-- a function has a vertex, and one that has a vertex is a function
has_vertex : (vs : List Vertex) (v f : ℕ) (x : Vertex) → slice_get vs v ≡ Some x → x.function ≡ f → has_function vs f ≡ true
has_vertex [] v f x at is = let e : None ≡ Some x = at in absurd cc
has_vertex (y ∷ ys) zero f x at is =
    let same : y ≡ x = same_Some y x at in
    let here : (y.function == f) ≡ true = (let e : y.function ≡ f = ap (λ (z : Vertex). z.function) same ∙ is in grind (arith, nat_tests, e)) in
    or_left (y.function == f) (has_function ys f) here
has_vertex (y ∷ ys) (suc v) f x at is = or_right (y.function == f) (has_function ys f) (has_vertex ys v f x at is)

pub function_in : (g : Graph) (f v : ℕ) → IsIn g.vertices f v → IsFunction g f
function_in g f v i = has_vertex g.vertices v f i.vertex i.at i.in_function

-- a function that is due is one of the graph
pub due_function : (g : Graph) (before after : List ℕ) (f : ℕ) → IsDue g before after f → IsFunction g f
due_function g before after f d = function_in g f d.calls.call (is_in g.vertices f d.calls.call (kind.Call d.calls.statement) d.calls.calls.at)

-- functions, each once, are at most as many as there are vertices
pub few_functions : (g : Graph) (agenda : List ℕ) → All (IsFunction g) agenda → AllPairs (λ f h. f ≢ h) agenda → length agenda ≤ length g.vertices
few_functions g agenda functions once =
    let all = map (λ (x : Vertex). x.function) g.vertices in
    let long = length-map g.vertices (λ (x : Vertex). x.function) in
    let le = length-le_from_is_member {eq = nat_eq} nat_eq_equiv agenda all (IsDistinct-from_AllPairs Decides-eqb agenda once)
    (λ f m. (is_member-Decides Decides-eqb all f).1 (among f (All-contains (IsFunction g) agenda f functions ((is_member-Decides Decides-eqb agenda f).0 m)))) in
    omega (arith, long, le)
  where
    among : (f : ℕ) → IsFunction g f → Contains (map (λ (x : Vertex). x.function) g.vertices) f
    among f has =
        let q = vertex_of g.vertices f has in
        subst (Contains (map (λ (x : Vertex). x.function) g.vertices)) q.3 (map_contains (λ (x : Vertex). x.function) g.vertices q.1 (at_contains g.vertices q.0 q.1 q.2))

abbrev none : FunctionPart
none = record { range = record { first = 0; last = 0 }; first_row = 0; last_row = 0; first_word = 0; last_word = 0 }

-- the numbers at all places are those of all functions
module _ (g : Graph) (shaped : IsShaped g) (parts : FunctionParts) (are : AreParts g parts) (places : List ℕ) (inside : All (λ p. p < length parts.list.items) places) (all : (p : ℕ) → p < length parts.list.items → Contains places p) where
  pub numbers_all : (f : ℕ) → Contains (map (number_at g parts) places) f ↔ IsFunction g f
  numbers_all f = (
    λ c.
        let q = contains_map (number_at g parts) places f c in
        let p = q.0 in
        let low : p < length parts.list.items = All-contains (λ k. k < length parts.list.items) places p inside q.1 in
        let part = get_or parts.list.items p none in
        let at : slice_get parts.list.items p ≡ Some part = slice_get-get_or parts.list.items p none low in
        let is = are.each p part at in
        let own = (is.whole.all part.range.first).1 (first_inside g part is) in
        subst (IsFunction g) (sym (number_is g shaped parts are p part is at) ∙ q.2) (function_in g is.whole.function part.range.first own),
    λ has.
        let n = numbered g parts are f has in
        let low = slice_get_within parts.list.items n.place n.part n.at in
        subst (Contains (map (number_at g parts) places)) (number_is g shaped parts are n.place n.part n.is.part n.at ∙ n.is.function_is) (map_contains (number_at g parts) places n.place (all n.place low)),
  )
