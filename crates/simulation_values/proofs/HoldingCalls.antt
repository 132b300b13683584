-- Paths that go down through calls, from calls of functions that hold a criterion to the criterion.
use Rattle.std.proofs.Common.{◌≡◌, ℕ, zero, suc, ◌<◌, List, [], ◌∷◌, length, map, get_or, Bool, true, false, Some, inl, refl, ap, ◌∙◌, subst, arith}
use Rattle.std.specs.Prelude.{Contains, IsTrue, slice_get}
use Rattle.std.specs.Option.{option_map_or}
use Rattle.bit_rows.specs.Sets.{has}
use Rattle.c_language.proofs.Options.{none_there, some_same}
use Rattle.c_tree.specs.declared.expr.Expr.{Expr}
use Rattle.c_tree.specs.declared.program.Function.{Function}
use Rattle.c_tree.specs.declared.program.Program.{Program}
use Rattle.c_tree.specs.declared.statement.Target.{Target}
use Rattle.c_language.specs.Programs.{IsWellFormed}
use Rattle.dep_model.specs.declared.edge.Edge.{Edge}
use Rattle.dep_model.specs.declared.edge.Label.TheVariants as label
use Rattle.dep_model.specs.declared.vertex.Vertex.{Vertex}
use Rattle.dep_model.specs.declared.vertex.VertexKind.{VertexKind}
use Rattle.dep_model.specs.declared.vertex.VertexKind.TheVariants as kind
use Rattle.dep_model.specs.Criteria.{is_wanted, criterion_of}
use Rattle.dep_model.specs.Doings.{Doing, Does, Calls, doing_number, body_doings, doings_of}
use Rattle.dep_model.specs.FunctionVertices.{IsControlIn}
use Rattle.dep_model.specs.Graphs.{edge}
use Rattle.dep_model.specs.SystemGraph as graph
use Rattle.dep_model.specs.SystemGraph.{Analysis, vertices_of, AreSystemEdges, IsVertex}
use Rattle.dep_model.specs.VertexOrder.{in_function, doing_vertices}
use Rattle.dep_model.specs.Words as words
use Rattle.dep_model.specs.Words.{word, IsPath, Falls, ReachesAny}
use Rattle.dep_model.proofs.EntryLaws.{entry_one}
use Rattle.dep_model.proofs.Membership.{IsIn, in_of_contains}
use Rattle.shaped_graphs.proofs.KindLaws.{entry_there, statement_there}
use Rattle.shaped_graphs.proofs.VertexLaws.{vertex_of}
use Rattle.control_nesting.specs.ControlledVertices.{IsControlChain, begins, goes_on}
use Rattle.control_nesting.specs.Laws.{EntriesReachAll}
use Rattle.control_nesting.proofs.WellFormedSets.{entries_reach}
use Rattle.simulation_values.specs.Holding.{Holds, own, by_call}

-- the vertices of a criterion reach it
abbrev pub CriteriaAreReached : Type 0
CriteriaAreReached =
    (p : Program) (a : Analysis) (edges : List Edge) (set : ℕ → Bool) (f v : ℕ) (k : VertexKind) → IsVertex (vertices_of p a) f k v
    → is_wanted set k ≡ true → ReachesAny edges (criterion_of set (vertices_of p a)) v

-- and so does each call of a function that holds it
abbrev pub HoldingCallsAreReached : Type 0
HoldingCallsAreReached =
    (p : Program) (a : Analysis) (edges : List Edge) (set : ℕ → Bool) (f i g v : ℕ) (to : Target) (args : List Expr) → IsWellFormed p
    → AreSystemEdges p a edges → Contains (doings_of p f) (Calls i to g args) → Holds p set g → IsVertex (vertices_of p a) f (kind.Call i) v
    → ReachesAny edges (criterion_of set (vertices_of p a)) v

marked : (test : Vertex → Bool) (vs : List Vertex) (v : ℕ) (x : Vertex) → slice_get vs v ≡ Some x → get_or (map test vs) v false ≡ test x
marked test [] v x e = none_there e
marked test (y ∷ vs) zero x e = ap test (some_same e)
marked test (y ∷ vs) (suc v) x e = marked test vs v x e

-- a function with a statement is one of the program
function_there : (p : Program) (f : ℕ) (d : Doing) → IsIn (doings_of p f) d → f < length p.functions
function_there p f d m = in_functions p.functions f m
  where
    in_functions : (gs : List Function) (f : ℕ) → IsIn (option_map_or (λ (g : Function). body_doings g.body) (slice_get gs f) []) d → f < length gs
    in_functions [] f m = absurd m
    in_functions (g ∷ gs) zero m = omega arith
    in_functions (g ∷ gs) (suc f) m = let lt = in_functions gs f m in omega (arith, lt)

-- the vertex of a statement itself
abbrev own_kind : Doing → VertexKind
own_kind (Does i x) = kind.Statement i
own_kind (Calls i to g args) = kind.Call i

module _ (p : Program) (a : Analysis) (edges : List Edge) (set : ℕ → Bool) where
  abbrev vs : List Vertex
  vs = vertices_of p a

  in_criterion : (f v : ℕ) (k : VertexKind) → IsVertex vs f k v → is_wanted set k ≡ true → IsTrue (has (criterion_of set vs) v)
  in_criterion f v k is w = marked (λ (x : Vertex). is_wanted set x.kind) vs v (in_function f k) is ∙ w

  own_wanted : (d : Doing) → set (doing_number d) ≡ true → is_wanted set (own_kind d) ≡ true
  own_wanted (Does i x) e = e
  own_wanted (Calls i to g args) e = e

  own_there : (d : Doing) → IsIn (doing_vertices p a.effects d) (own_kind d)
  own_there (Does i x) = inl refl
  own_there (Calls i to g args) = inl refl

  -- a path leads down from a vertex to the criterion
  record FallsTo (v : ℕ) : Type 0 where
    pub path : List Edge
    pub goal : ℕ
    pub joins : IsPath edges v path goal
    pub falls : Falls (word path)
    pub wanted : IsTrue (has (criterion_of set vs) goal)

  falls_here : (f v : ℕ) (k : VertexKind) → IsVertex vs f k v → is_wanted set k ≡ true → FallsTo v
  falls_here f v k is w = record { path = []; goal = v; joins = refl; falls = words.flat; wanted = in_criterion f v k is w }

  reaches_by : (v : ℕ) → FallsTo v → ReachesAny edges (criterion_of set vs) v
  reaches_by v h = record {
    goal = h.goal;
    wanted = h.wanted;
    reaches = record { path = h.path; joins = h.joins; up = []; down = word h.path; rises = words.flat; falls = h.falls; spells = refl };
  }

  pub criterion_reached : (f v : ℕ) (k : VertexKind) → IsVertex vs f k v → is_wanted set k ≡ true → ReachesAny edges (criterion_of set vs) v
  criterion_reached f v k is w = reaches_by v (falls_here f v k is w)

  module _ (entries : EntriesReachAll) (are : AreSystemEdges p a edges) (sound : IsWellFormed p) where
    control_on : (f u v : ℕ) → IsControlIn p vs f (edge u v label.Control) → FallsTo v → FallsTo u
    control_on f u v led h = record {
      path = edge u v label.Control ∷ h.path;
      goal = h.goal;
      joins = ((are (edge u v label.Control)).1 (graph.control f led), refl, h.joins);
      falls = h.falls;
      wanted = h.wanted;
    }

    chain_on : (f u v : ℕ) → IsControlChain p vs f u v → FallsTo v → FallsTo u
    chain_on f u v begins h = h
    chain_on f u v (goes_on {v = w} chain led) h = chain_on f u w chain (control_on f w v led h)

    -- from the entry of a function to its vertices
    from_entry : (f e v : ℕ) (k : VertexKind) → IsVertex vs f kind.Entry e → IsVertex vs f k v → FallsTo v → FallsTo e
    from_entry f e v k entry is h =
        let w = entries p a f v sound (record { vertex = in_function f k; at = is; in_function = refl }) in
        subst FallsTo (entry_one p a f w.entry e w.is_entry entry) (chain_on f w.entry v w.chain h)

    call_on : (f i g c e : ℕ) (to : Target) (args : List Expr) → Contains (doings_of p f) (Calls i to g args) → IsVertex vs f (kind.Call i) c → IsVertex vs g kind.Entry e → FallsTo e → FallsTo c
    call_on f i g c e to args m call entry h = record {
      path = edge c e (label.Call c) ∷ h.path;
      goal = h.goal;
      joins = ((are (edge c e (label.Call c))).1 (graph.between (graph.call f i g (record { target = to; args = args; member = m; at = call }) refl entry)), refl, h.joins);
      falls = words.open_ c h.falls;
      wanted = h.wanted;
    }

    low : (f : ℕ) (d : Doing) → Contains (doings_of p f) d → f < length p.functions
    low f d m = function_there p f d (in_of_contains (doings_of p f) d m)

    holder_low : (g : ℕ) → Holds p set g → g < length p.functions
    holder_low g (own {d = d} m e) = low g d m
    holder_low g (by_call {i = i} {g = h} {to = to} {args = args} m more) = low g (Calls i to h args) m

    -- a path leads down from the entry of a function that holds the criterion
    entry_falls : (g : ℕ) → Holds p set g → (e : ℕ) → IsVertex vs g kind.Entry e → FallsTo e
    entry_falls g (own {d = d} m w) e entry =
        let v = vertex_of p a g (own_kind d) (low g d m) (statement_there p a.effects g d (own_kind d) (in_of_contains (doings_of p g) d m) (own_there d)) in
        from_entry g e v.0 (own_kind d) entry v.1 (falls_here g v.0 (own_kind d) v.1 (own_wanted d w))
    entry_falls g (by_call {i = i} {g = h} {to = to} {args = args} m more) e entry =
        let d : Doing = Calls i to h args in
        let c = vertex_of p a g (kind.Call i) (low g d m) (statement_there p a.effects g d (kind.Call i) (in_of_contains (doings_of p g) d m) (inl refl)) in
        let inner = vertex_of p a h kind.Entry (holder_low h more) (entry_there p a.effects h) in
        from_entry g e c.0 (kind.Call i) entry c.1 (call_on g i h c.0 inner.0 to args m c.1 inner.1 (entry_falls h more inner.0 inner.1))

    pub call_reached : (f i g v : ℕ) (to : Target) (args : List Expr) → Contains (doings_of p f) (Calls i to g args) → Holds p set g → IsVertex vs f (kind.Call i) v → ReachesAny edges (criterion_of set vs) v
    call_reached f i g v to args m h is =
        let inner = vertex_of p a g kind.Entry (holder_low g h) (entry_there p a.effects g) in
        reaches_by v (call_on f i g v inner.0 to args m is inner.1 (entry_falls g h inner.0 inner.1))

pub criteria_reached : CriteriaAreReached
criteria_reached p a edges set f v k is w = criterion_reached p a edges set f v k is w

pub calls_reached : HoldingCallsAreReached
calls_reached p a edges set f i g v to args sound are m h is = call_reached p a edges set entries_reach are sound f i g v to args m h is
