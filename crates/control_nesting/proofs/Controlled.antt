-- A statement has a control edge from the one in which it stands, and the entry of a function reaches each of its vertices.
use Rattle.std.proofs.Common.{◌≡◌, ℕ, zero, suc, ◌+◌, ◌<◌, List, [], ◌∷◌, ◌++◌, map, length, slice_get, true, ◌||◌, Some, refl, sym, ap, ◌∙◌, subst, arith, eq-eqb}
use Rattle.std.specs.Prelude.{Contains}
use Rattle.std.specs.List.{list_all, list_any, range_with_len}
use Rattle.std.proofs.lemmas.Bool.{and_parts}
use Rattle.std.proofs.lemmas.Option.{same_Some}
use Rattle.c_tree.specs.declared.program.Function.{Function}
use Rattle.c_tree.specs.declared.program.Program.{Program}
use Rattle.c_language.proofs.Tests.{false_true, by_or}
use Rattle.dep_model.specs.declared.edge.Label.TheVariants.{Control}
use Rattle.dep_model.specs.declared.skeleton.Pair.{Pair}
use Rattle.dep_model.specs.declared.vertex.Vertex.{Vertex}
use Rattle.dep_model.specs.declared.vertex.VertexKind.{VertexKind}
use Rattle.dep_model.specs.declared.vertex.VertexKind.TheVariants.{Entry, FormalIn, FormalOut, Statement, Call, ActualIn, ActualOut}
use Rattle.dep_model.specs.Doings.{body_doings, doing_number, program_doings, doings_of}
use Rattle.dep_model.specs.Facts.{IsIn}
use Rattle.dep_model.specs.FunctionVertices.{IsControlIn, formal, actual, is_own, is_actual, is_entry, is_formal_in, is_formal_out, numbers}
use Rattle.dep_model.specs.Graphs.{edge}
use Rattle.dep_model.specs.Pairs.{pair}
use Rattle.dep_model.specs.SystemGraph.{Analysis, vertices_of, IsVertex}
use Rattle.dep_model.specs.VertexOrder.{in_function}
use Rattle.dep_model.proofs.FunctionCode.{code_at}
use Rattle.dep_model.proofs.FunctionOrder.{from_functions}
use Rattle.dep_model.proofs.Membership as lists
use Rattle.dep_model.proofs.Membership.{in_first, in_of_contains, contains_of_in}
use Rattle.control_deps.specs.Attached.{controllers, attached_from}
use Rattle.control_deps.specs.Walk.{walks}
use Rattle.control_deps.proofs.ControlLaws.{found_exactly}
use Rattle.projection_laws.specs.Nested.{any_own, any_inside, stands, stands_in}
use Rattle.shaped_graphs.proofs.KindLaws.{entry_there}
use Rattle.shaped_graphs.proofs.NumberLaws.{of_some}
use Rattle.shaped_graphs.proofs.VertexLaws.{nowhere, vertex_of}
use Rattle.control_nesting.specs.ControlledVertices.{IsOwn, IsControlledBy, begins, goes_on, IsFromEntry}
use Rattle.control_nesting.specs.TakenArms.{TakesAll, takes_all}
use Rattle.control_nesting.proofs.StandsInWalk.{IsDone, Nests, body_nests}
use Rattle.control_nesting.proofs.OwnVertices.{HasNumber, in_body, in_numbers, statement_vertex, of_statement, has_vertex}

-- each function takes all arms
taken_at : (fs : List Function) (f : ℕ) (g : Function) → list_all (λ (h : Function). list_all takes_all h.body) fs ≡ true → slice_get fs f ≡ Some g → list_all takes_all g.body ≡ true
taken_at [] f g all at = nowhere f g at
taken_at (h ∷ fs) zero g all at =
    subst (λ (k : Function). list_all takes_all k.body ≡ true) (same_Some _ _ at) (and_parts (list_all takes_all h.body) (list_all (λ (k : Function). list_all takes_all k.body) fs) all).0
taken_at (h ∷ fs) (suc f) g all at = taken_at fs f g (and_parts (list_all takes_all h.body) (list_all (λ (k : Function). list_all takes_all k.body) fs) all).1 at

-- the function in which a statement stands in another
record StandsAt (fs : List Function) (outer inner : ℕ) : Type 0 where
  pub number : ℕ
  pub function : Function
  pub at : slice_get fs number ≡ Some function
  pub inside : any_inside (map stands function.body) outer inner ≡ true

stands_at : (fs : List Function) (outer inner : ℕ) → list_any (λ (f : Function). any_inside (map stands f.body) outer inner) fs ≡ true → StandsAt fs outer inner
stands_at [] outer inner h = false_true h
stands_at (f ∷ fs) outer inner h =
    by_or (any_inside (map stands f.body) outer inner) (list_any (λ (g : Function). any_inside (map stands g.body) outer inner) fs) h
    (λ here. record { number = zero; function = f; at = refl; inside = here })
    (λ more. let w = stands_at fs outer inner more in record { number = suc w.number; function = w.function; at = w.at; inside = w.inside })

module _ (p : Program) (a : Analysis) where
  abbrev vs : List Vertex
  vs = vertices_of p a

  abbrev own : ℕ → ℕ → List ℕ
  own f i = numbers (is_own i) f vs

  abbrev entries : ℕ → List ℕ
  entries f = numbers is_entry f vs

  abbrev Reached : ℕ → ℕ → Type 0
  Reached f v = IsFromEntry p vs f v

  -- a control edge leads on from what the entry reaches
  leads_on : (f u v : ℕ) → Reached f u → IsControlIn p vs f (edge u v Control) → Reached f v
  leads_on f u v r e = record { entry = r.entry; is_entry = r.is_entry; chain = goes_on r.chain e }

  -- a function that is there
  module _ (f : ℕ) (g : Function) (at : slice_get p.functions f ≡ Some g) where
    -- the pairs of the walk are the ends of control edges
    walked : (x : Pair) → lists.IsIn (walks (own f) g.body (entries f)) x → IsControlIn p vs f (edge x.from x.to Control)
    walked x m =
        let attached = attached_from (controllers (entries f) (own f) f) 0 vs in
        let found = walks (own f) g.body (entries f) ++ attached in
        (found_exactly p vs f (own f) (λ i. refl) g.body (code_at p f g at) found refl x).0 (contains_of_in found x (in_first (walks (own f) g.body (entries f)) attached x m))

    abbrev Known : ℕ → ℕ → Type 0
    Known outer inner = Nests (own f) (Reached f) outer inner (list_all takes_all g.body) (any_own (map stands g.body) inner) (any_inside (map stands g.body) outer inner) (walks (own f) g.body) (body_doings g.body)

    known : (outer inner : ℕ) → Known outer inner
    known outer inner = body_nests (own f) (Reached f) outer inner g.body

    of_body : (i : ℕ) → IsDone (body_doings g.body) i → IsDone (doings_of p f) i
    of_body i d = subst (λ ds. IsDone ds i) (sym (of_some p f g at)) d

    have_vertices : (i : ℕ) → IsDone (body_doings g.body) i → (v : ℕ) × lists.IsIn (own f i) v
    have_vertices i d = let v = statement_vertex p a f i (of_body i d) in (v.0, in_of_contains (own f i) v.0 v.1)

    -- each statement is reached
    body_reached : TakesAll p → (e : ℕ) → IsVertex vs f Entry e → (i : ℕ) → IsDone (body_doings g.body) i → (v : ℕ) → IsOwn vs f i v → Reached f v
    body_reached takes e is_first i d v c =
        let first : Reached f e = record { entry = e; is_entry = is_first; chain = begins } in
        let member = in_of_contains (entries f) e (in_numbers p a is_entry f e Entry is_first refl) in
        (known i i).reached (taken_at p.functions f g takes at) (entries f) (e, member, first) (λ x m r. leads_on f x.from x.to r (walked x m)) have_vertices i d v (in_of_contains (own f i) v c)

    controlled : map doing_number (program_doings p) ≡ range_with_len 0 p.statements → TakesAll p → (outer inner : ℕ) → any_inside (map stands g.body) outer inner ≡ true → IsControlledBy p vs outer inner
    controlled numbered takes outer inner inside =
        let there = (known outer inner).inside_done inside in
        record {
          function = f;
          from = has_vertex p a numbered f outer (of_body outer there.0);
          to = has_vertex p a numbered f inner (of_body inner there.1);
          leads = λ u v c d. walked (pair u v) ((known outer inner).inside_walked (taken_at p.functions f g takes at) inside (entries f) u v (in_of_contains (own f outer) u c) (in_of_contains (own f inner) v d));
        }

  -- where statements have the numbers from 0 on, and each arm of each switch is taken
  pub standing_controlled : map doing_number (program_doings p) ≡ range_with_len 0 p.statements → TakesAll p → (outer inner : ℕ) → stands_in p outer inner ≡ true → IsControlledBy p vs outer inner
  standing_controlled numbered takes outer inner h =
      let w = stands_at p.functions outer inner h in controlled w.number w.function w.at numbered takes outer inner w.inside

  -- ---- what the entry of a function reaches

  module _ (takes : TakesAll p) (f e : ℕ) (is_first : IsVertex vs f Entry e) where
    entry_in : Contains (entries f) e
    entry_in = in_numbers p a is_entry f e Entry is_first refl

    statement_reached : (i : ℕ) → IsDone (doings_of p f) i → (v : ℕ) → IsOwn vs f i v → Reached f v
    statement_reached i d v c =
        let b = in_body p f d.0 d.1 in body_reached f b.function b.at takes e is_first i (d.0, b.member, d.2) v c

    formal_reached : (k : VertexKind) (v : ℕ) → IsVertex vs f k v → (is_formal_in k || is_formal_out k) ≡ true → Reached f v
    formal_reached k v at is =
        leads_on f e v (record { entry = e; is_entry = is_first; chain = begins }) (formal refl entry_in (in_numbers p a (λ j. is_formal_in j || is_formal_out j) f v k at is))

    actual_reached : (i : ℕ) (k : VertexKind) (v : ℕ) → IsVertex vs f k v → HasNumber i k → is_actual i k ≡ true → Reached f v
    actual_reached i k v at number is =
        let d = of_statement p a f i v k at number in
        let c = statement_vertex p a f i d in
        leads_on f c.0 v (statement_reached i d c.0 c.1) (actual i refl c.1 (in_numbers p a (is_actual i) f v k at is))

    -- each vertex by its kind
    kind_reached : (k : VertexKind) (v : ℕ) → IsVertex vs f k v → Reached f v
    kind_reached Entry v at = record { entry = v; is_entry = at; chain = begins }
    kind_reached (FormalIn slot) v at = formal_reached (FormalIn slot) v at refl
    kind_reached (FormalOut slot) v at = formal_reached (FormalOut slot) v at refl
    kind_reached (Statement i) v at =
        statement_reached i (of_statement p a f i v (Statement i) at (λ n. refl)) v (in_numbers p a (is_own i) f v (Statement i) at (eq-eqb i i refl))
    kind_reached (Call i) v at = statement_reached i (of_statement p a f i v (Call i) at (λ n. refl)) v (in_numbers p a (is_own i) f v (Call i) at (eq-eqb i i refl))
    kind_reached (ActualIn i slot) v at = actual_reached i (ActualIn i slot) v at (λ n. refl) (eq-eqb i i refl)
    kind_reached (ActualOut i slot) v at = actual_reached i (ActualOut i slot) v at (λ n. refl) (eq-eqb i i refl)

  pub vertex_reached : TakesAll p → (f v : ℕ) → IsIn vs f v → IsFromEntry p vs f v
  vertex_reached takes f v h =
      let high : h.vertex.function < 0 + length p.functions = (from_functions p a.effects 0 p.functions v h.vertex h.at).1 in
      let same : h.vertex.function ≡ f = h.in_function in
      let e = vertex_of p a f Entry (omega (arith, high, same)) (entry_there p a.effects f) in
      kind_reached takes f e.0 e.1 h.vertex.kind v (h.at ∙ ap (λ g. Some (in_function g h.vertex.kind)) same)
