-- What a slice keeps: the criterion's statements, and a set that can be projected.
use Rattle.std.proofs.Common.{◌≡◌, ℕ, zero, suc, ◌==◌, ◌&&◌, List, [], ◌∷◌, map, slice_get, Bool, true, Some, inl, inr, refl, sym, ap, ◌∙◌, subst}
use Rattle.std.specs.Prelude.{IsTrue}
use Rattle.std.specs.Option.{option_map_or}
use Rattle.std.proofs.lemmas.Bool.{eqb-true, or_cases, and_parts}
use Rattle.std.proofs.lemmas.List.{length-map}
use Rattle.std.proofs.lemmas.Option.{same_Some}
use Rattle.bit_rows.specs.Sets.{has}
use Rattle.c_tree.specs.declared.program.Function.{Function}
use Rattle.c_tree.specs.declared.program.Program.{Program}
use Rattle.c_tree.specs.Numbered.{Starts, program_starts}
use Rattle.c_language.specs.Programs.{IsWellFormed}
use Rattle.c_language.proofs.Tests.{false_true}
use Rattle.control_nesting.proofs.WellFormedSets.{completed_is_projectable}
use Rattle.dep_model.specs.declared.vertex.Vertex.{Vertex}
use Rattle.dep_model.specs.declared.vertex.VertexKind.TheVariants.{Statement, Call}
use Rattle.dep_model.specs.ClosedSets.{IsProjectable}
use Rattle.dep_model.specs.Criteria.{is_wanted}
use Rattle.dep_model.specs.Doings.{Doing, Does, Calls, doing_number, body_doings, functions_doings, doings_of}
use Rattle.dep_model.specs.SystemGraph.{Analysis, IsVertex, vertices_of}
use Rattle.dep_model.specs.VertexOrder.{in_function}
use Rattle.dep_model.specs.Words.{ReachesAny}
use Rattle.dep_model.proofs.Membership.{IsIn, of_map}
use Rattle.dep_model.proofs.StartDoings.{ids}
use Rattle.dep_model.proofs.WordLemmas.{reaches_itself}
use Rattle.shaped_graphs.proofs.KindLaws.{statement_there}
use Rattle.shaped_graphs.proofs.ShapedGraphs.{fit_of}
use Rattle.shaped_graphs.proofs.VertexLaws.{nowhere, vertex_of}
use Rattle.hanging_sets.proofs.HeldVertices.{IsKept, statement_kept, call_kept}
use Rattle.hanging_sets.proofs.KeptDoings.{own_kind}
use Rattle.kept_texts.proofs.ClearPrograms.{of_function}
use Rattle.slice_engine.specs.Criterion.{starts_among}
use Rattle.slice_engine.specs.Laws.{CanBeProjected}
use Rattle.slice_engine.specs.Slice.{starts_on, criterion, IsKeptSet, keeps}
use Rattle.slice_engine.proofs.StartNumbers.{functions_agree}

-- what is kept can be projected
pub kept_able : (p : Program) (a : Analysis) (line : ℕ) (kept : List Bool) → IsWellFormed p → (k : IsKeptSet p a line kept) → IsProjectable p (vertices_of p a) k.edges kept
kept_able p a line kept well k =
    let wanted = length-map (vertices_of p a) (λ (v : Vertex). is_wanted (starts_on p line) v.kind) in
    completed_is_projectable p a k.edges (starts_on p line) k.reached kept well k.are_edges (k.is_reached.size ∙ wanted) k.is_reached.members k.completes

pub kept_projectable : (p : Program) (a : Analysis) (line : ℕ) (kept : List Bool) → IsWellFormed p → IsKeptSet p a line kept → CanBeProjected p a kept
kept_projectable p a line kept well k =
    let wanted = length-map (vertices_of p a) (λ (v : Vertex). is_wanted (starts_on p line) v.kind) in
    record {
      is_analysis = k.is_analysis;
      edges = k.edges;
      are_edges = k.are_edges;
      long = k.completes.completes.size ∙ k.is_reached.size ∙ wanted;
      projectable = kept_able p a line kept well k;
    }

-- and has all that reaches the criterion
pub reaching_kept : (p : Program) (a : Analysis) (line : ℕ) (kept : List Bool) (k : IsKeptSet p a line kept) (v : ℕ) → ReachesAny k.edges (criterion p a line) v → IsTrue (has kept v)
reaching_kept p a line kept k v reaches = k.completes.completes.holds v ((k.is_reached.members v).1 reaches)

-- ---- the criterion

-- whether a vertex passes a test, by the tests of all
tested_at : (test : Vertex → Bool) (vs : List Vertex) (v : ℕ) (x : Vertex) → slice_get vs v ≡ Some x → has (map test vs) v ≡ test x
tested_at test [] v x at = nowhere v x at
tested_at test (y ∷ vs) zero x at = ap test (same_Some _ _ at)
tested_at test (y ∷ vs) (suc v) x at = tested_at test vs v x at

-- a statement that starts on a line is numbered
started : (line i : ℕ) (ss : Starts) → starts_among line ss i ≡ true → IsIn (ids ss) i
started line i [] h = false_true h
started line i (x ∷ ss) h = elim (or_cases ((x.id == i) && (x.line == line)) (starts_among line ss i) h) [
  | inl here ↦ inl (eqb-true x.id i (and_parts (x.id == i) (x.line == line) here).0)
  | inr later ↦ inr (started line i ss later)
]

wanted_is : (set : ℕ → Bool) (d : Doing) → is_wanted set (own_kind d) ≡ set (doing_number d)
wanted_is set (Does i act) = refl
wanted_is set (Calls i to g args) = refl

module _ (p : Program) (a : Analysis) (line : ℕ) (kept : List Bool) (well : IsWellFormed p) (k : IsKeptSet p a line kept) where
  -- the vertex of a statement
  own_vertex : (f : ℕ) (d : Doing) → IsIn (doings_of p f) d → (v : ℕ) × IsVertex (vertices_of p a) f (own_kind d) v
  own_vertex f (Does i act) m = vertex_of p a f (Statement i) ((fit_of p well).inside f (Does i act) m) (statement_there p a.effects f (Does i act) (Statement i) m (inl refl))
  own_vertex f (Calls i to g args) m = vertex_of p a f (Call i) ((fit_of p well).inside f (Calls i to g args) m) (statement_there p a.effects f (Calls i to g args) (Call i) m (inl refl))

  own_kept : (f : ℕ) (d : Doing) → IsKept kept (vertices_of p a) f (own_kind d) → keeps p a kept (doing_number d) ≡ true
  own_kept f (Does i act) w = statement_kept kept (vertices_of p a) f i w
  own_kept f (Calls i to g args) w = call_kept kept (vertices_of p a) f i w

  done_kept : (f : ℕ) (d : Doing) → IsIn (doings_of p f) d → starts_on p line (doing_number d) ≡ true → keeps p a kept (doing_number d) ≡ true
  done_kept f d m on =
      let w = own_vertex f d m in
      let wanted : has (criterion p a line) w.0 ≡ true = tested_at (λ (v : Vertex). is_wanted (starts_on p line) v.kind) (vertices_of p a) w.0 (in_function f (own_kind d)) w.1 ∙ wanted_is (starts_on p line) d ∙ on in
      let member : has kept w.0 ≡ true = k.completes.completes.holds w.0 ((k.is_reached.members w.0).1 (reaches_itself k.edges (criterion p a line) w.0 wanted)) in
      own_kept f d (record { number = w.0; at = w.1; member = member })

  -- each statement of the criterion is kept
  pub criterion_kept : (i : ℕ) → starts_on p line i ≡ true → keeps p a kept i ≡ true
  criterion_kept i on =
      let w = of_map doing_number (functions_doings p.functions) i (subst (λ (ns : List ℕ). IsIn ns i) (functions_agree p.functions) (started line i (program_starts p) on)) in
      let o = of_function p.functions w.0 w.1 in
      let there : IsIn (doings_of p o.number) w.0 = subst (λ x. IsIn (option_map_or (λ (g : Function). body_doings g.body) x []) w.0) (sym o.at) o.member in
      subst (λ (j : ℕ). keeps p a kept j ≡ true) w.2 (done_kept o.number w.0 there (subst (λ (j : ℕ). starts_on p line j ≡ true) (sym w.2) on))
