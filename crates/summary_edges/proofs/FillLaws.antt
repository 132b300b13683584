-- The rows of a function while they are filled: which rows gain along an edge and over a call, and what holds when none is to be taken again.
use Rattle.std.proofs.Common.{◌≡◌, ◌≢◌, ℕ, ◌+◌, ◌-◌, ◌<◌, ◌≤◌, ◌⊎◌, ◌||◌, inl, inr, Bool, true, false, List, [], ◌∷◌, ◌++◌, length, get_or, set, Contains, refl, sym, ap, ◌∙◌, subst, arith}
use Rattle.std.specs.Option.{option_map_or}
use Rattle.std.proofs.lemmas.Bool.{cases_eq, false≢true}
use Rattle.std.proofs.lemmas.List.{get_or-set_same, get_or-set_other}
use Rattle.std.proofs.lemmas.Option.{slice_get-get_or}
use Rattle.std.proofs.lemmas.List.Elements.{Contains-append_cases}
use Rattle.rule_closure.proofs.ListLemmas.{contains_none, contains_cases}
use Rattle.bit_rows.specs.Sets.{has}
use Rattle.bit_rows.proofs.TableLemmas.{the_set-with_set, other-with_set}
use Rattle.bit_rows.specs.Tables.{Table, the_set, with_set, Holds, IsSized, IsGrown}
use Rattle.dep_model.specs.declared.edge.Edge.{Edge}
use Rattle.dep_model.specs.declared.edge.Label.{Label}
use Rattle.dep_model.specs.declared.edge.Label.TheVariants.{Control, Flow, Call, In, Out}
use Rattle.dep_model.specs.declared.graph.Graph.{Graph}
use Rattle.dep_model.specs.declared.graph.OutRow.{OutRow}
use Rattle.dep_model.specs.Facts.{FactSet, IsIn, HoldsFact, IsInnerEdge, IsSummary, IsInnerChain}
use Rattle.dep_model.specs.Facts as facts
use Rattle.dep_model.specs.Graphs.{edge, HasRows}
use Rattle.matched_paths.specs.EdgeGroups.{group_at}
use Rattle.matched_paths.specs.Places.{holds_fact}
use Rattle.matched_paths.specs.VertexRanges.{IsInRange}
use Rattle.matched_paths.specs.declared.vertex_range.VertexRange.{VertexRange}
use Rattle.matched_paths.proofs.CallShapes.{formals_of_call}
use Rattle.matched_paths.proofs.ChainLaws.{chain_begins}
use Rattle.matched_paths.proofs.GroupLaws.{ending_is, ending_has, entering_is, entering_has}
use Rattle.summary_edges.specs.declared.exit_rows.ExitRows.{ExitRows}
use Rattle.summary_edges.specs.declared.fact_index.FactIndex.{FactIndex}
use Rattle.summary_edges.specs.declared.function_parts.FunctionPart.{FunctionPart}
use Rattle.summary_edges.specs.ExitRows.{IsTable, HasRoom, HaveOneShape, HasSpread, IsAbove, IsFilling, AreExits, gives, exit_at}
use Rattle.summary_edges.specs.FactIndexes.{IsIndex}
use Rattle.summary_edges.specs.FunctionParts.{IsPart}
use Rattle.summary_edges.proofs.PartLaws.{own_row, row_there}
use Rattle.summary_edges.proofs.SpreadLaws.{spread_none, spread_weaker, spread_both, above_stays, one_shape, shapes_follow, grown_none, grown_both, neither}

-- an element of a list that has one more at its end
pub one_more : {X : Type 0} (xs : List X) (x y : X) → Contains (xs ++ x ∷ []) y → Contains xs y ⊎ (x ≡ y)
one_more xs x y c = elim (Contains-append_cases xs (x ∷ []) y c) [
  | inl a ↦ inl a
  | inr b ↦ elim (contains_cases x [] y b) [
    | inl same ↦ inr same
    | inr n ↦ absurd (contains_none y n)
  ]
]

-- the number of a vertex of a range, counted from the first
pub number_back : (s : VertexRange) (v : ℕ) → IsInRange s v → s.first + (v - s.first) ≡ v
number_back s v i = let low = i.0 in omega (arith, low)

-- it is below as many as the range has
pub number_below : (s : VertexRange) (v n : ℕ) → IsInRange s v → s.last - s.first ≤ n → v - s.first < n
number_below s v n i room = let low = i.0 in let high = i.1 in omega (arith, low, high, room)

-- ---- what is gone back so far
-- the row of a vertex may gain what that of v has
abbrev pub GainsAt : Graph → List ℕ → VertexRange → ℕ → ℕ → Type 0
GainsAt g known s v j = IsInnerEdge g.edges (HoldsFact g known) (s.first + j) v

-- some of the edges that enter a call are gone back, from an actual-out of the call
pub record IsCrossing (g : Graph) (x : FactIndex) (known : List ℕ) (s : VertexRange) (leave : Edge) (start : ExitRows) (seen : List Edge) (now : ExitRows) (grows : Bool) : Type 0 where
  pub spread : HasSpread (GainsAt g known s leave.to) (leave.to - s.first) start now grows
  pub above : (e : Edge) → Contains seen e → holds_fact x.places known e.to leave.from ≡ true → IsInRange s e.from → IsAbove now (e.from - s.first) (leave.to - s.first)

-- some of the edges that lead to a vertex are gone back
pub record IsSpreading (g : Graph) (known : List ℕ) (s : VertexRange) (v : ℕ) (start : ExitRows) (seen : List Edge) (now : ExitRows) (grows : Bool) : Type 0 where
  pub spread : HasSpread (GainsAt g known s v) (v - s.first) start now grows
  pub above : (e : Edge) → Contains seen e → (u : ℕ) → IsInRange s u → gives e.label g.edges (HoldsFact g known) e u → IsAbove now (u - s.first) (v - s.first)

-- the first formal-outs reach themselves alone
pub record IsBegun (g : Graph) (p : FunctionPart) (start : ExitRows) (e : ℕ) (x : ExitRows) : Type 0 where
  pub shape : HaveOneShape start x
  pub only : (j k : ℕ) → j < p.range.last - p.range.first → Holds x.rows j k → (k < e) × (j ≡ exit_at g p k - p.range.first)
  pub seeded : (k : ℕ) → k < e → Holds x.rows (exit_at g p k - p.range.first) k
  pub flags : (j k : ℕ) → j < p.range.last - p.range.first → Holds x.rows j k → has x.fresh.items j ≡ true

-- the vertices from one on to the last are taken
pub record IsSweeping (g : Graph) (K : FactSet) (p : FunctionPart) (start : ExitRows) (at : ℕ) (now : ExitRows) (grows : Bool) : Type 0 where
  pub filling : IsFilling g K p now
  pub shape : HaveOneShape start now
  pub grown : IsGrown start.rows now.rows grows
  pub down : grows ≡ false → (v : ℕ) → at ≤ v → v < p.range.last → has now.fresh.items (v - p.range.first) ≡ false
  pub from : p.range.first ≤ at
  pub to : at ≤ p.range.last

-- ---- over a call
module _ (g : Graph) (x : FactIndex) (index : IsIndex g x) (known : List ℕ) (s : VertexRange) (c : ℕ) (leave : Edge) (member : Contains g.edges leave) (label : leave.label ≡ Out c) where
  abbrev K : FactSet
  K = HoldsFact g known

  abbrev i : ℕ
  i = leave.to - s.first

  abbrev Gains : ℕ → Type 0
  Gains j = GainsAt g known s leave.to j

  abbrev Crossing : ExitRows → List Edge → ExitRows → Bool → Type 0
  Crossing start seen now grows = IsCrossing g x known s leave start seen now grows

  leaves : Contains g.edges (edge leave.from leave.to (Out c))
  leaves = subst (λ l. Contains g.edges (edge leave.from leave.to l)) label member

  enters : (e : Edge) → Contains (group_at x.entries c) e → Contains g.edges (edge e.from e.to (In c))
  enters e m =
      let is = entering_is g.edges c e (subst (λ es. Contains es e) (index.entries c) m) in
      subst (λ l. Contains g.edges (edge e.from e.to l)) is.1 is.0

  crossed : (e : Edge) → Contains (group_at x.entries c) e → holds_fact x.places known e.to leave.from ≡ true → IsInnerEdge g.edges K e.from leave.to
  crossed e m held =
      let formals = formals_of_call g index.shaped c e.from e.to leave.from leave.to (enters e m) leaves in
      let summary : IsSummary g.edges K e.from leave.to = record {
        call = c;
        formal_in = e.to;
        formal_out = leave.from;
        enters = enters e m;
        leaves = leaves;
        fact = (index.places.exact formals.0 e.to leave.from known formals.1).1 held;
      } in
      inr (inr summary)

  pub cross_begins : (start : ExitRows) → IsTable start → Crossing start [] start false
  cross_begins start table = record { spread = spread_none Gains i start table; above = λ e m held inside. absurd (contains_none e m) }

  pub cross_goes : (start : ExitRows) (seen : List Edge) (e : Edge) (now new : ExitRows) (grows more : Bool) → Contains (group_at x.entries c) e → holds_fact x.places known e.to leave.from ≡ true
      → Crossing start seen now grows → HasSpread (λ j. IsInRange s e.from × (j ≡ e.from - s.first)) i now new more → (IsInRange s e.from → IsAbove new (e.from - s.first) i) → Crossing start (seen ++ e ∷ []) new (grows || more)
  cross_goes start seen e now new grows more m held h spread above =
      let wider : HasSpread Gains i now new more = spread_weaker (λ j. IsInRange s e.from × (j ≡ e.from - s.first)) Gains i now new more
      (λ j q. subst (λ u. IsInnerEdge g.edges K u leave.to) (sym (number_back s e.from q.0) ∙ ap (λ k. s.first + k) (sym q.1)) (crossed e m held)) spread in
      record {
        spread = spread_both Gains i start now new grows more h.spread wider;
        above = λ f n is inside. elim (one_more seen e f n) [
          | inl before ↦ above_stays Gains i (f.from - s.first) now new more wider (h.above f before is inside)
          | inr same ↦ subst (λ (q : Edge). IsAbove new (q.from - s.first) i) same (above (subst (λ (q : Edge). IsInRange s q.from) (sym same) inside))
        ];
      }

  pub cross_skips : (start : ExitRows) (seen : List Edge) (e : Edge) (now : ExitRows) (grows : Bool) → holds_fact x.places known e.to leave.from ≡ false → Crossing start seen now grows → Crossing start (seen ++ e ∷ []) now grows
  cross_skips start seen e now grows none h = record {
    spread = h.spread;
    above = λ f n is inside. elim (one_more seen e f n) [
      | inl before ↦ h.above f before is inside
      | inr same ↦ absurd (false≢true (sym none ∙ ap (λ (q : Edge). holds_fact x.places known q.to leave.from) same ∙ is))
    ];
  }

  pub cross_ends : (start now : ExitRows) (grows : Bool) → Crossing start (group_at x.entries c) now grows → (u f : ℕ) → IsInRange s u → Contains g.edges (edge u f (In c)) → HoldsFact g known f leave.from → IsAbove now (u - s.first) i
  cross_ends start now grows h u f inside m fact =
      let formals = formals_of_call g index.shaped c u f leave.from leave.to m leaves in
      h.above (edge u f (In c)) (subst (λ es. Contains es (edge u f (In c))) (sym (index.entries c)) (entering_has g.edges c u f m))
      ((index.places.exact formals.0 f leave.from known formals.1).0 fact) inside

-- ---- along the edges that lead to a vertex
module _ (g : Graph) (x : FactIndex) (index : IsIndex g x) (known : List ℕ) (s : VertexRange) where
  abbrev KG : FactSet
  KG = HoldsFact g known

  -- along a control or flow edge
  pub inner_follows : (e : Edge) (old new : ExitRows) (grows : Bool) → Contains g.edges e → (e.label ≡ Control) ⊎ (e.label ≡ Flow)
      → HasSpread (λ j. IsInRange s e.from × (j ≡ e.from - s.first)) (e.to - s.first) old new grows → HasSpread (GainsAt g known s e.to) (e.to - s.first) old new grows
  inner_follows e old new grows m label spread =
      let along : IsInnerEdge g.edges KG e.from e.to = elim label [
        | inl is ↦ inl (subst (λ l. Contains g.edges (edge e.from e.to l)) is m)
        | inr is ↦ inr (inl (subst (λ l. Contains g.edges (edge e.from e.to l)) is m))
      ] in
      spread_weaker (λ j. IsInRange s e.from × (j ≡ e.from - s.first)) (GainsAt g known s e.to) (e.to - s.first) old new grows
      (λ j q. subst (λ u. IsInnerEdge g.edges KG u e.to) (sym (number_back s e.from q.0) ∙ ap (λ k. s.first + k) (sym q.1)) along) spread

  gives_same : (l m : Label) (e : Edge) (u : ℕ) → l ≡ m → gives l g.edges KG e u → gives m g.edges KG e u
  gives_same l m e u same h = subst (λ k. gives k g.edges KG e u) same h

  pub inner_above : (e : Edge) (new : ExitRows) → (e.label ≡ Control) ⊎ (e.label ≡ Flow) → (IsInRange s e.from → IsAbove new (e.from - s.first) (e.to - s.first))
      → (u : ℕ) → IsInRange s u → gives e.label g.edges KG e u → IsAbove new (u - s.first) (e.to - s.first)
  inner_above e new label above u inside h =
      let same : u ≡ e.from = elim label [
        | inl is ↦ gives_same e.label Control e u is h
        | inr is ↦ gives_same e.label Flow e u is h
      ] in
      subst (λ v. IsAbove new (v - s.first) (e.to - s.first)) (sym same) (above (subst (IsInRange s) same inside))

  pub out_above : (e : Edge) (c : ℕ) (new : ExitRows) → e.label ≡ Out c → ((u f : ℕ) → IsInRange s u → Contains g.edges (edge u f (In c)) → HoldsFact g known f e.from → IsAbove new (u - s.first) (e.to - s.first))
      → (u : ℕ) → IsInRange s u → gives e.label g.edges KG e u → IsAbove new (u - s.first) (e.to - s.first)
  out_above e c new label above u inside h =
      let q : (f : ℕ) × Contains g.edges (edge u f (In c)) × HoldsFact g known f e.from = gives_same e.label (Out c) e u label h in
      above u q.0 inside q.1 q.2

  pub none_above : (e : Edge) (c : ℕ) (new : ExitRows) → (e.label ≡ Call c) ⊎ (e.label ≡ In c) → (u : ℕ) → gives e.label g.edges KG e u → ⊥
  none_above e c new label u h = elim label [
    | inl is ↦ gives_same e.label (Call c) e u is h
    | inr is ↦ gives_same e.label (In c) e u is h
  ]

  module _ (v : ℕ) where
    abbrev Spreading : ExitRows → List Edge → ExitRows → Bool → Type 0
    Spreading start seen now grows = IsSpreading g known s v start seen now grows

    pub spread_begins : (start : ExitRows) → IsTable start → Spreading start [] start false
    spread_begins start table = record { spread = spread_none (GainsAt g known s v) (v - s.first) start table; above = λ e m u inside h. absurd (contains_none e m) }

    pub ends_here : (e : Edge) → Contains (group_at x.ends v) e → Contains g.edges e × (e.to ≡ v)
    ends_here e m = ending_is g.edges v e (subst (λ es. Contains es e) (index.ends v) m)

    pub spread_goes : (start : ExitRows) (seen : List Edge) (e : Edge) (now new : ExitRows) (grows more : Bool) → Contains (group_at x.ends v) e
        → Spreading start seen now grows → HasSpread (GainsAt g known s e.to) (e.to - s.first) now new more
        → ((u : ℕ) → IsInRange s u → gives e.label g.edges KG e u → IsAbove new (u - s.first) (e.to - s.first)) → Spreading start (seen ++ e ∷ []) new (grows || more)
    spread_goes start seen e now new grows more m h spread above =
        let at = (ends_here e m).1 in
        let here : HasSpread (GainsAt g known s v) (v - s.first) now new more = subst (λ w. HasSpread (GainsAt g known s w) (w - s.first) now new more) at spread in
        record {
          spread = spread_both (GainsAt g known s v) (v - s.first) start now new grows more h.spread here;
          above = λ f n u inside is. elim (one_more seen e f n) [
            | inl before ↦ above_stays (GainsAt g known s v) (v - s.first) (u - s.first) now new more here (h.above f before u inside is)
            | inr same ↦ subst (λ w. IsAbove new (u - s.first) (w - s.first)) at (above u inside (subst (λ (q : Edge). gives q.label g.edges KG q u) (sym same) is))
          ];
        }

    pub spread_ends : (start now : ExitRows) (grows : Bool) → Spreading start (group_at x.ends v) now grows → (u : ℕ) → IsInRange s u → IsInnerEdge g.edges KG u v → IsAbove now (u - s.first) (v - s.first)
    spread_ends start now grows h u inside (inl m) = h.above (edge u v Control) (subst (λ es. Contains es (edge u v Control)) (sym (index.ends v)) (ending_has g.edges (edge u v Control) m)) u inside refl
    spread_ends start now grows h u inside (inr (inl m)) = h.above (edge u v Flow) (subst (λ es. Contains es (edge u v Flow)) (sym (index.ends v)) (ending_has g.edges (edge u v Flow) m)) u inside refl
    spread_ends start now grows h u inside (inr (inr q)) =
        let e = edge q.formal_out v (Out q.call) in
        h.above e (subst (λ es. Contains es e) (sym (index.ends v)) (ending_has g.edges e q.leaves)) u inside (q.formal_in, q.enters, q.fact)

-- ---- a vertex is taken
module _ (g : Graph) (K : FactSet) (p : FunctionPart) where
  abbrev first : ℕ
  first = p.range.first

  pub room_stays : (old new : ExitRows) → HasRoom p old → HaveOneShape old new → HasRoom p new
  room_stays old new room shape =
      let a = room.vertices in let b = room.exits in let rows = shape.rows_are in let bits = shape.bits_are in
      record { table = shape.table; vertices = omega (arith, a, rows); exits = omega (arith, b, bits) }

  one_number : (u v : ℕ) → IsInRange p.range u → IsInRange p.range v → u - first ≡ v - first → u ≡ v
  one_number u v i j e = let a = i.0 in let b = j.0 in omega (arith, e, a, b)

  module _ (v : ℕ) (inside : IsInRange p.range v) (old mid new : ExitRows) (grows : Bool) (h : IsFilling g K p old) (rows : mid.rows ≡ old.rows) (flags : mid.fresh.items ≡ set old.fresh.items (v - first) false)
      (spread : HasSpread (λ j. IsInnerEdge g.edges K (first + j) v) (v - first) mid new grows) (above : (u : ℕ) → IsInRange p.range u → IsInnerEdge g.edges K u v → IsAbove new (u - first) (v - first)) where
    was : (j k : ℕ) → Holds mid.rows j k → Holds old.rows j k
    was j k held = ap (λ t. has (the_set t j) k) (sym rows) ∙ held

    is_still : (j k : ℕ) → Holds old.rows j k → Holds mid.rows j k
    is_still j k held = ap (λ t. has (the_set t j) k) rows ∙ held

    inside_of : (u : ℕ) → IsInRange p.range u → IsIn g.vertices h.part.whole.function u
    inside_of u i = (h.part.whole.all u).1 i

    sound_still : (u k : ℕ) → IsInRange p.range u → Holds new.rows (u - first) k → (k < p.last_row - p.first_row) × IsInnerChain g K h.part.whole.function u (exit_at g p k)
    sound_still u k i held = elim (spread.from (u - first) k held) [
      | inl before ↦ h.sound u k i (was (u - first) k before)
      | inr q ↦
          let along : IsInnerEdge g.edges K u v = subst (λ w. IsInnerEdge g.edges K w v) (number_back p.range u i) q.0 in
          let c = h.sound v k inside (was (v - first) k q.1) in
          (c.0, facts.goes_on (inside_of u i) along c.1)
    ]

    -- the flag of another vertex that isn't to be taken was down before
    was_down : (w : ℕ) → IsInRange p.range w → w ≢ v → has new.fresh.items (w - first) ≡ false → has old.fresh.items (w - first) ≡ false
    was_down w i other down = by_flag (has old.fresh.items (w - first)) refl
      where
        by_flag : (f : Bool) → has old.fresh.items (w - first) ≡ f → has old.fresh.items (w - first) ≡ false
        by_flag false e = e
        by_flag true e =
            let mid_up : has mid.fresh.items (w - first) ≡ true =
            ap (λ fs. has fs (w - first)) flags ∙ get_or-set_other old.fresh.items (v - first) (w - first) false false (λ same. other (one_number w v i inside same)) ∙ e in
            absurd (false≢true (sym down ∙ spread.flags (w - first) mid_up))

    closed_still : (u w : ℕ) → IsInRange p.range u → IsInRange p.range w → IsInnerEdge g.edges K u w → has new.fresh.items (w - first) ≡ false → IsAbove new (u - first) (w - first)
    closed_still u w i j along down = elim (cases_eq w v) [
      | inl same ↦ subst (λ z. IsAbove new (u - first) (z - first)) (sym same) (above u i (subst (IsInnerEdge g.edges K u) same along))
      | inr other ↦ λ k held.
          let before : Holds old.rows (w - first) k = was (w - first) k (ap (λ t. has t k) (sym (spread.others (w - first) down)) ∙ held) in
          spread.grown.kept (u - first) k (is_still (u - first) k (h.closed u w i j along (was_down w j other down) k before))
    ]

    mid_shape : IsTable mid → HaveOneShape old mid
    mid_shape table = record { table = table; rows_are = ap (λ (t : Table). length t.sets) rows; bits_are = ap (λ (t : Table). t.bits) rows }

    pub taken_fills : IsTable mid → IsFilling g K p new
    taken_fills table = record {
      part = h.part;
      room = room_stays old new h.room (shapes_follow old mid new (mid_shape table) spread.shape);
      sound = sound_still;
      seeded = λ k low. spread.grown.kept (exit_at g p k - first) k (is_still (exit_at g p k - first) k (h.seeded k low));
      closed = closed_still;
    }

    pub taken_shape : IsTable mid → HaveOneShape old new
    taken_shape table = shapes_follow old mid new (mid_shape table) spread.shape

    pub taken_grown : IsGrown old.rows new.rows grows
    taken_grown = subst (λ t. IsGrown t new.rows grows) rows spread.grown

    pub taken_flags : grows ≡ false → new.fresh.items ≡ set old.fresh.items (v - first) false
    taken_flags e = spread.none e ∙ flags

  -- ---- from the last vertex on
  pub sweep_begins : (start : ExitRows) → IsFilling g K p start → IsSweeping g K p start p.range.last start false
  sweep_begins start h = record {
    filling = h;
    shape = one_shape start h.room.table;
    grown = grown_none start.rows;
    down = λ none v from to. absurd (omega (arith, from, to));
    from = (let order = h.part.order in omega (arith, order));
    to = omega arith;
  }

  pub sweep_skips : (start now : ExitRows) (at v : ℕ) (grows : Bool) → IsSweeping g K p start at now grows → v + 1 ≡ at → p.range.first ≤ v → has now.fresh.items (v - first) ≡ false → IsSweeping g K p start v now grows
  sweep_skips start now at v grows h next low down = record {
    filling = h.filling;
    shape = h.shape;
    grown = h.grown;
    down = λ none w from to. elim (cases_eq w v) [
      | inl same ↦ ap (λ u. has now.fresh.items (u - first)) same ∙ down
      | inr other ↦ h.down none w (omega (arith, from, other, next)) to
    ];
    from = low;
    to = (let high = h.to in omega (arith, high, next));
  }

  pub sweep_takes : (start now new : ExitRows) (at v : ℕ) (grows more : Bool) → IsSweeping g K p start at now grows → v + 1 ≡ at → p.range.first ≤ v
      → IsFilling g K p new → HaveOneShape now new → IsGrown now.rows new.rows more → (more ≡ false → new.fresh.items ≡ set now.fresh.items (v - first) false) → IsSweeping g K p start v new (grows || more)
  sweep_takes start now new at v grows more h next low filling shape grown taken = record {
    filling = filling;
    shape = shapes_follow start now new h.shape shape;
    grown = grown_both start.rows now.rows new.rows grows more h.grown grown;
    down = λ none w from to.
        let n = neither grows more none in
        let flags = taken n.1 in
        elim (cases_eq w v) [
          | inl same ↦ ap (λ u. has new.fresh.items (u - first)) same ∙ ap (λ fs. has fs (v - first)) flags ∙ get_or-set_same now.fresh.items (v - first) false false inside
          | inr other ↦
              ap (λ fs. has fs (w - first)) flags ∙ get_or-set_other now.fresh.items (v - first) (w - first) false false (λ e. other (let f : w - first ≡ v - first = e in omega (arith, f, low, from)))
              ∙ h.down n.0 w (omega (arith, from, other, next)) to
        ];
    from = low;
    to = (let high = h.to in omega (arith, high, next));
  }
    where
      inside : v - first < length now.fresh.items
      inside = let high = h.to in let room = h.filling.room.vertices in let flags = h.filling.room.table.flags in omega (arith, low, high, next, room, flags)

  -- ---- at the beginning
  pub exit_of : (rows : HasRows g) (is : IsPart g p) (k : ℕ) → k < p.last_row - p.first_row → IsInRange p.range (exit_at g p k)
  exit_of rows is k low =
      let within = is.rows_inside in
      let t = row_there g rows (p.first_row + k) (omega (arith, low, within)) in
      subst (IsInRange p.range) (sym (ap (λ o. option_map_or (λ (q : OutRow). q.vertex) o 0) t.at)) (own_row g rows p is (p.first_row + k) t.row t.at (omega arith) (omega (arith, low)))

  -- a formal-out as it is read
  pub exit_read : (outs : List OutRow) → outs ≡ g.outs → IsPart g p → (k : ℕ) (d : OutRow) → k < p.last_row - p.first_row → exit_at g p k ≡ (get_or outs (p.first_row + k) d).vertex
  exit_read outs same is k d low =
      let inside = is.rows_inside in
      ap (λ o. option_map_or (λ (q : OutRow). q.vertex) o 0) (slice_get-get_or g.outs (p.first_row + k) d (omega (arith, low, inside)))
      ∙ ap (λ (os : List OutRow). (get_or os (p.first_row + k) d).vertex) (sym same)

  pub begun_none : (start x : ExitRows) → HaveOneShape start x → ((j k : ℕ) → j < p.range.last - first → Holds x.rows j k → ⊥) → IsBegun g p start 0 x
  begun_none start x shape empty = record {
    shape = shape;
    only = λ j k low held. absurd (empty j k low held);
    seeded = λ k low. absurd (omega (arith, low));
    flags = λ j k low held. absurd (empty j k low held);
  }

  pub begun_goes : (start now new : ExitRows) (e v : ℕ) → HasRoom p start → IsInRange p.range (exit_at g p e) → e < p.last_row - p.first_row → v ≡ exit_at g p e - first → IsBegun g p start e now
      → new.rows ≡ with_set now.rows v (set (the_set now.rows v) e true) → IsSized (length now.rows.sets) now.rows.bits new.rows → new.fresh.items ≡ set now.fresh.items v true → length new.fresh.items ≡ length now.fresh.items → IsBegun g p start (e + 1) new
  begun_goes start now new e v room inside low is h rows sized flags many = record {
    shape = shapes_follow start now new h.shape (record {
      table = record {
        sized = subst (λ n. IsSized n new.rows.bits new.rows) (sym sized.rows_are) (subst (λ b. IsSized (length now.rows.sets) b new.rows) (sym sized.bits_are) sized);
        flags = many ∙ h.shape.table.flags ∙ sym sized.rows_are;
      };
      rows_are = sized.rows_are;
      bits_are = sized.bits_are;
    });
    only = λ j k j_low held. elim (cases_eq j v) [
      | inl same ↦ elim (cases_eq k e) [
        | inl one ↦ ((let r = one in omega (arith, r)), same ∙ is ∙ ap (λ m. exit_at g p m - first) (sym one))
        | inr other ↦
            let q = h.only j k j_low (ap (λ m. has (the_set now.rows m) k) same ∙ sym (get_or-set_other (the_set now.rows v) e k true false other) ∙ sym (ap (λ s. has s k) (here v refl)) ∙ ap (λ m. has (the_set new.rows m) k) (sym same) ∙ held) in
            ((let r = q.0 in omega (arith, r)), q.1)
      ]
      | inr other ↦ (let q = h.only j k j_low (ap (λ s. has s k) (sym (there j other)) ∙ held) in ((let r = q.0 in omega (arith, r)), q.1))
    ];
    seeded = λ k k_low. elim (cases_eq k e) [
      | inl one ↦ ap (λ m. has (the_set new.rows (exit_at g p m - first)) k) one ∙ ap (λ m. has (the_set new.rows m) k) (sym is) ∙ ap (has (the_set new.rows v)) one ∙ ap (λ s. has s e) (here v refl) ∙ get_or-set_same (the_set now.rows v) e true false bit_in
      | inr other ↦ kept (exit_at g p k - first) k (h.seeded k (omega (arith, k_low, other)))
    ];
    flags = λ j k j_low held. elim (cases_eq j v) [
      | inl same ↦ ap (λ fs. has fs j) flags ∙ ap (has (set now.fresh.items v true)) same ∙ get_or-set_same now.fresh.items v true false flag_in
      | inr other ↦ ap (λ fs. has fs j) flags ∙ get_or-set_other now.fresh.items v j true false other ∙ h.flags j k j_low (ap (λ s. has s k) (sym (there j other)) ∙ held)
    ];
  }
    where
      row_in : v < length now.rows.sets
      row_in = let a = inside.0 in let b = inside.1 in let r = room.vertices in let m = h.shape.rows_are in omega (arith, is, a, b, r, m)

      bit_in : e < length (the_set now.rows v)
      bit_in = let n = h.shape.table.sized.full v row_in in let r = room.exits in let m = h.shape.bits_are in omega (arith, low, n, r, m)

      flag_in : v < length now.fresh.items
      flag_in = let n = h.shape.table.flags in let r = row_in in omega (arith, n, r)

      here : (j : ℕ) → j ≡ v → the_set new.rows v ≡ set (the_set now.rows v) e true
      here j same = ap (λ t. the_set t v) rows ∙ the_set-with_set now.rows v (set (the_set now.rows v) e true) row_in

      there : (j : ℕ) → j ≢ v → the_set new.rows j ≡ the_set now.rows j
      there j other = ap (λ t. the_set t j) rows ∙ other-with_set now.rows v j (set (the_set now.rows v) e true) other

      kept : (j k : ℕ) → Holds now.rows j k → Holds new.rows j k
      kept j k held = elim (cases_eq j v) [
        | inl same ↦ elim (cases_eq k e) [
          | inl one ↦ ap (λ m. has (the_set new.rows m) k) same ∙ ap (has (the_set new.rows v)) one ∙ ap (λ s. has s e) (here v refl) ∙ get_or-set_same (the_set now.rows v) e true false bit_in
          | inr other ↦ ap (λ m. has (the_set new.rows m) k) same ∙ ap (λ s. has s k) (here v refl) ∙ get_or-set_other (the_set now.rows v) e k true false other ∙ ap (λ m. has (the_set now.rows m) k) (sym same) ∙ held
        ]
        | inr other ↦ ap (λ s. has s k) (there j other) ∙ held
      ]

  pub begun_fills : (rows : HasRows g) (is : IsPart g p) (start x : ExitRows) → HasRoom p start → IsBegun g p start (p.last_row - p.first_row) x → IsFilling g K p x
  begun_fills rows is start x room h = record {
    part = is;
    room = room_stays start x room h.shape;
    sound = λ v k i held.
        let q = h.only (v - first) k (let a = i.0 in let b = i.1 in omega (arith, a, b)) held in
        let e = exit_of rows is k q.0 in
        let same : v ≡ exit_at g p k = one_number v (exit_at g p k) i e q.1 in
        (q.0, subst (IsInnerChain g K is.whole.function v) same (facts.ends ((is.whole.all v).1 i)));
    seeded = h.seeded;
    closed = λ u v i j along down k held. absurd (false≢true (sym down ∙ h.flags (v - first) k (let a = j.0 in let b = j.1 in omega (arith, a, b)) held));
  }

  -- ---- at the end
  module _ (x : ExitRows) (h : IsFilling g K p x) (none : (v : ℕ) → IsInRange p.range v → has x.fresh.items (v - first) ≡ false) where
    holds_chain : {v b : ℕ} → IsInnerChain g K h.part.whole.function v b → (k : ℕ) → k < p.last_row - p.first_row → b ≡ exit_at g p k → Holds x.rows (v - first) k
    holds_chain (facts.ends i) k low same = subst (λ w. Holds x.rows (w - first) k) (sym same) (h.seeded k low)
    holds_chain (facts.goes_on {a = a} {b = m} i along rest) k low same =
        let j = (h.part.whole.all m).0 (chain_begins rest) in
        h.closed a m ((h.part.whole.all a).0 i) j along (none m j) k (holds_chain rest k low same)

    pub filled_exits : AreExits g K p x
    filled_exits = record {
      part = h.part;
      room = h.room;
      exact = λ v k i. (h.sound v k i, λ q. holds_chain q.1 k q.0 refl);
    }
