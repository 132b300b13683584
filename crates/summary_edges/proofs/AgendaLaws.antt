-- The functions that a round takes: places that are marked, the callers of a function, and rows that differ.
use Rattle.std.proofs.Common.{◌≡◌, ◌≢◌, ◌↔◌, ℕ, suc, ◌+◌, ◌-◌, ◌<◌, ◌≤◌, ◌⊎◌, inl, inr, Bool, true, false, Decides, not, List, [], ◌∷◌, ◌++◌, map, flat_map, length, get_or, set, take, All, Contains, Some, slice_get, refl, sym, ap, ◌∙◌, subst, arith}
use Rattle.std.specs.Option.{option_map_or}
use Rattle.std.proofs.lemmas.Bool.{cases_eq, cases_lt, false≢true}
use Rattle.std.specs.List.{between}
use Rattle.std.proofs.lemmas.List.{get_or-set_same, get_or-set_other, map-append, take_more}
use Rattle.std.proofs.lemmas.List.Edits.{length-between, get_or-between}
use Rattle.std.proofs.lemmas.List.Elements.{All-contains_itself, All-weaker, Contains-append_left, Contains-append_right}
use Rattle.std.proofs.lemmas.Option.{same_Some, slice_get_within, get_or_from_slice_get, slice_get-get_or}
use Rattle.rule_closure.proofs.ListLemmas.{contains_head, contains_map, map_contains}
use Rattle.bit_rows.specs.Sets.{has}
use Rattle.bit_rows.proofs.SetLemmas.{has_past}
use Rattle.dep_model.specs.declared.edge.Edge.{Edge}
use Rattle.dep_model.specs.declared.edge.Label.TheVariants.{Call}
use Rattle.dep_model.specs.declared.graph.Graph.{Graph}
use Rattle.dep_model.specs.declared.vertex.Vertex.{Vertex}
use Rattle.dep_model.specs.declared.vertex.VertexKind.TheVariants as kind
use Rattle.dep_model.specs.Facts.{IsIn}
use Rattle.dep_model.specs.Graphs.{edge, row_width}
use Rattle.dep_model.specs.Shapes.{IsShaped, IsFitting, IsCallOf}
use Rattle.dep_model.specs.Shapes as shapes
use Rattle.dep_model.specs.SystemGraph.{IsVertex}
use Rattle.matched_paths.specs.EdgeGroups.{calling}
use Rattle.matched_paths.specs.VertexRanges.{IsInRange}
use Rattle.matched_paths.proofs.CallShapes.{in_other, is_in}
use Rattle.matched_paths.proofs.GroupLaws.{calling_is, calling_has}
use Rattle.matched_paths.proofs.ReachLaws.{edge_below}
use Rattle.summary_edges.specs.declared.agenda.Agenda.{Agenda}
use Rattle.summary_edges.specs.declared.function_parts.FunctionPart.{FunctionPart}
use Rattle.summary_edges.specs.declared.function_parts.FunctionParts.{FunctionParts}
use Rattle.summary_edges.specs.Agendas.{HoldsCall, HasRowChanged, IsDue, IsAgenda, IsCaller, HaveWordsChanged, IsCallerOfChanged, number_at}
use Rattle.summary_edges.specs.FunctionParts.{IsPart, AreParts, IsFound}
use Rattle.summary_edges.proofs.FillLaws.{one_more}
use Rattle.summary_edges.proofs.PartLaws.{contains_at, at_contains, row_own, words_inside, covered, one_function, first_inside}

-- ---- one place is added
module _ (n place : ℕ) (old : Agenda) (h : IsAgenda n old) (low : place < n) where
  pub set_mark : (p : ℕ) → (has (set old.marks.items place true) p ≡ true) ↔ ((has old.marks.items p ≡ true) ⊎ (p ≡ place))
  set_mark p = (
    λ up. elim (cases_eq p place) [
      | inl same ↦ inr same
      | inr other ↦ inl (sym (get_or-set_other old.marks.items place p true false other) ∙ up)
    ],
    λ q. elim (cases_eq p place) [
      | inl same ↦ (let long = h.long in ap (has (set old.marks.items place true)) same ∙ get_or-set_same old.marks.items place true false (omega (arith, low, long)))
      | inr other ↦ elim q [
        | inl up ↦ get_or-set_other old.marks.items place p true false other ∙ up
        | inr same ↦ absurd (other same)
      ]
    ],
  )

  pub place_added : (new : Agenda) → new.places.items ≡ old.places.items ++ place ∷ [] → new.marks.items ≡ set old.marks.items place true → length new.marks.items ≡ length old.marks.items
      → IsAgenda n new × ((p : ℕ) → (has new.marks.items p ≡ true) ↔ ((has old.marks.items p ≡ true) ⊎ (p ≡ place)))
  place_added new places marks long = (
    record { long = long ∙ h.long; listed = λ p. (λ c. (marked p).1 (in_old p c), λ up. in_new p ((marked p).0 up)) },
    marked,
  )
    where
      marked : (p : ℕ) → (has new.marks.items p ≡ true) ↔ ((has old.marks.items p ≡ true) ⊎ (p ≡ place))
      marked p = (λ up. (set_mark p).0 (ap (λ ms. has ms p) (sym marks) ∙ up), λ q. ap (λ ms. has ms p) marks ∙ (set_mark p).1 q)

      in_old : (p : ℕ) → Contains new.places.items p → (has old.marks.items p ≡ true) ⊎ (p ≡ place)
      in_old p c = elim (one_more old.places.items place p (subst (λ ps. Contains ps p) places c)) [
        | inl before ↦ inl ((h.listed p).0 before)
        | inr same ↦ inr (sym same)
      ]

      in_new : (p : ℕ) → (has old.marks.items p ≡ true) ⊎ (p ≡ place) → Contains new.places.items p
      in_new p (inl up) = subst (λ ps. Contains ps p) (sym places) (Contains-append_left old.places.items (place ∷ []) p ((h.listed p).1 up))
      in_new p (inr same) = subst (λ ps. Contains ps p) (sym places) (Contains-append_right old.places.items (place ∷ []) p (subst (Contains (place ∷ [])) (sym same) (contains_head place [])))

-- the places of an agenda are among its marks
pub marked_inside : (n : ℕ) (a : Agenda) → IsAgenda n a → (place : ℕ) → Contains a.places.items place → place < n
marked_inside n a h place c = elim (cases_lt place (length a.marks.items)) [
  | inl low ↦ (let long = h.long in omega (arith, low, long))
  | inr past ↦ absurd (false≢true (sym (has_past a.marks.items place past) ∙ (h.listed place).0 c))
]

pub places_inside : (n : ℕ) (a : Agenda) → IsAgenda n a → All (λ p. p < n) a.places.items
places_inside n a h = All-weaker (Contains a.places.items) (λ p. p < n) (marked_inside n a h) a.places.items (All-contains_itself a.places.items)

-- ---- what is found so far
-- the callers at some calls are added
pub record AreCallersAdded (parts : FunctionParts) (start : Agenda) (seen : List Edge) (now : Agenda) : Type 0 where
  pub agenda : IsAgenda (length parts.list.items) now
  pub added : (p : ℕ) → (has now.marks.items p ≡ true) ↔ ((has start.marks.items p ≡ true) ⊎ ((e : Edge) × Contains seen e × (get_or parts.of_vertex.items e.from 0 ≡ p)))

-- ---- the callers, call after call
pub callers_begin : (parts : FunctionParts) (start : Agenda) → IsAgenda (length parts.list.items) start → AreCallersAdded parts start [] start
callers_begin parts start h = record { agenda = h; added = λ p. (λ up. inl up, λ q. elim q [ inl up ↦ up | inr n ↦ absurd (nothing n.0 n.1) ]) }
  where
    nothing : (e : Edge) → Contains [] e → ⊥
    nothing e c = let low = c.1 in omega (arith, low)

pub callers_go : (parts : FunctionParts) (start now new : Agenda) (seen : List Edge) (e : Edge) → AreCallersAdded parts start seen now → IsAgenda (length parts.list.items) new
    → ((p : ℕ) → (has new.marks.items p ≡ true) ↔ ((has now.marks.items p ≡ true) ⊎ (p ≡ get_or parts.of_vertex.items e.from 0))) → AreCallersAdded parts start (seen ++ e ∷ []) new
callers_go parts start now new seen e h agenda added = record {
  agenda = agenda;
  added = λ p. (
    λ up. elim ((added p).0 up) [
      | inl was ↦ elim ((h.added p).0 was) [
        | inl first ↦ inl first
        | inr q ↦ inr (q.0, Contains-append_left seen (e ∷ []) q.0 q.1, q.2)
      ]
      | inr same ↦ inr (e, Contains-append_right seen (e ∷ []) e (contains_head e []), sym same)
    ],
    λ q. (added p).1 (elim q [
      | inl first ↦ inl ((h.added p).1 (inl first))
      | inr r ↦ elim (one_more seen e r.0 r.1) [
        | inl before ↦ inl ((h.added p).1 (inr (r.0, before, r.2)))
        | inr same ↦ inr (sym r.2 ∙ ap (λ (d : Edge). get_or parts.of_vertex.items d.from 0) (sym same))
      ]
    ]),
  );
}

-- the function at a place calls one of the first whose words differ
abbrev pub ChangedBelow : Graph → FunctionParts → List ℕ → List ℕ → ℕ → ℕ → Type 0
ChangedBelow g parts before after n p = (k : ℕ) × (q : FunctionPart) × (k < n) × (slice_get parts.list.items k ≡ Some q) × HaveWordsChanged q before after × IsCaller g parts q p

-- ---- the callers of a function

pub call_at : (g : Graph) (a b c : ℕ) → IsFitting g (edge a b (Call c)) → (f : ℕ) × (i : ℕ) × (h : ℕ) × IsVertex g.vertices f (kind.Call i) a × IsVertex g.vertices h kind.Entry b × (c ≡ a)
call_at g a b c (shapes.inside f j k s p q) = elim s [ inl e ↦ cc | inr e ↦ cc ]
call_at g a b c (shapes.call f i to s p q) = let e : c ≡ a = cc in (f, i, to, p, q, e)
call_at g a b c (shapes.in_ f i to d slot o s p q) = cc
call_at g a b c (shapes.out f i to d slot o s p q) = cc

module _ (g : Graph) (shaped : IsShaped g) (parts : FunctionParts) (are : AreParts g parts) where
  -- the part of a vertex, at its place
  pub part_at : (v : ℕ) → v < length g.vertices → IsFound parts v
  part_at v low = are.found v low

  first_same : (q r : FunctionPart) (is : IsPart g q) (other : IsPart g r) → is.whole.function ≡ other.whole.function → q.range.first ≡ r.range.first
  first_same q r is other same =
      let a = (other.whole.all q.range.first).0 (subst (λ f. IsIn g.vertices f q.range.first) same ((is.whole.all q.range.first).1 (first_inside g q is))) in
      let b = (is.whole.all r.range.first).0 (subst (λ f. IsIn g.vertices f r.range.first) (sym same) ((other.whole.all r.range.first).1 (first_inside g r other))) in
      let x = a.0 in let y = b.0 in
      omega (arith, x, y)

  -- a part that has a vertex stands at the place of the vertex
  pub place_is : (p v : ℕ) (q : FunctionPart) → slice_get parts.list.items p ≡ Some q → (is : IsPart g q) → IsInRange q.range v → v < length g.vertices → get_or parts.of_vertex.items v 0 ≡ p
  place_is p v q at is inside low =
      let found = part_at v low in
      let k = get_or parts.of_vertex.items v 0 in
      let other = are.each k found.part found.at in
      let f = one_function g q found.part is other v inside (found.from, found.to) in
      let first = first_same q found.part is other f in
      sym (are.own k found.part found.at).1 ∙ ap (λ u. get_or parts.of_vertex.items u 0) (sym first) ∙ (are.own p q at).1

  module _ (called : FunctionPart) (is_called : IsPart g called) (calls : List Edge) (calls_are : calls ≡ flat_map (calling g.vertices is_called.whole.function) g.edges) where
    -- the place of a call is that of a caller
    pub caller_of : (e : Edge) → Contains calls e → IsCaller g parts called (get_or parts.of_vertex.items e.from 0)
    caller_of e m =
        let is = calling_is g.vertices g.edges is_called.whole.function e (subst (λ es. Contains es e) calls_are m) in
        let there : Contains g.edges (edge e.from e.to (Call is.1.0)) = subst (λ l. Contains g.edges (edge e.from e.to l)) is.1.1 is.0 in
        let c = call_at g e.from e.to is.1.0 (shaped.fitting (edge e.from e.to (Call is.1.0)) there) in
        let callee : is_called.whole.function ≡ c.2 = in_other g.vertices is_called.whole.function c.2 e.to kind.Entry is.1.2 c.4 in
        let found = part_at e.from (edge_below g shaped e is.0).0 in
        let part = are.each (get_or parts.of_vertex.items e.from 0) found.part found.at in
        let own : part.whole.function ≡ c.0 = in_other g.vertices part.whole.function c.0 e.from (kind.Call c.1) ((part.whole.all e.from).1 (found.from, found.to)) c.3 in
        let call : IsCallOf g c.0 c.1 c.2 e.from = record { entry = e.to; at = c.3; is_entry = c.4; calls = subst (λ k. Contains g.edges (edge e.from e.to (Call k))) c.5 there } in
        record {
          part = found.part;
          at = found.at;
          is_part = part;
          is_called = is_called;
          calls = record { statement = c.1; call = e.from; calls = subst (λ f. IsCallOf g f c.1 is_called.whole.function e.from) (sym own) (subst (λ h. IsCallOf g c.0 c.1 h e.from) (sym callee) call) };
        }

    pub caller_has : (p : ℕ) → IsCaller g parts called p → (e : Edge) × Contains calls e × (get_or parts.of_vertex.items e.from 0 ≡ p)
    caller_has p h =
        let c = h.calls.calls in
        let f = h.is_part.whole.function in
        let callee : h.is_called.whole.function ≡ is_called.whole.function = one_function g called called h.is_called is_called called.range.first (first_inside g called is_called) (first_inside g called is_called) in
        let e = edge h.calls.call c.entry (Call h.calls.call) in
        let entry : IsIn g.vertices is_called.whole.function c.entry = subst (λ k. IsIn g.vertices k c.entry) callee (is_in g.vertices h.is_called.whole.function c.entry kind.Entry c.is_entry) in
        let inside = (h.is_part.whole.all h.calls.call).0 (is_in g.vertices f h.calls.call (kind.Call h.calls.statement) c.at) in (
          e,
          subst (λ es. Contains es e) (sym calls_are) (calling_has g.vertices g.edges is_called.whole.function h.calls.call c.entry h.calls.call c.calls entry),
          place_is p h.calls.call h.part h.at h.is_part inside (slice_get_within g.vertices h.calls.call _ c.at),
        )

    pub callers_end : (start now : Agenda) → AreCallersAdded parts start calls now → (p : ℕ) → (has now.marks.items p ≡ true) ↔ ((has start.marks.items p ≡ true) ⊎ IsCaller g parts called p)
    callers_end start now h p = (
      λ up. elim ((h.added p).0 up) [
        | inl first ↦ inl first
        | inr q ↦ inr (subst (IsCaller g parts called) q.2 (caller_of q.0 q.1))
      ],
      λ q. (h.added p).1 (elim q [
        | inl first ↦ inl first
        | inr c ↦ inr (caller_has p c)
      ]),
    )

  -- ---- the functions that are due
  -- a function whose words differ has a row that differs, and the other way round
  pub row_changed : (called : FunctionPart) (is : IsPart g called) (before after : List ℕ) → HaveWordsChanged called before after → HasRowChanged g before after is.whole.function
  row_changed called is before after h =
      let c = covered g shaped.rows_are called is h.word h.from h.to in
      let own = (is.whole.all c.there.row.vertex).1 c.own in
      let same : c.there.vertex.function ≡ is.whole.function = ap (λ (x : Vertex). x.function) (same_Some _ _ (sym c.there.has ∙ own.at)) ∙ own.in_function in
      record {
        row = c.there.row;
        is_row = at_contains g.outs c.place c.there.row c.there.at;
        own = own;
        word = h.word;
        from = c.from;
        to = subst (λ f. h.word < c.there.row.word + row_width g.vertices f) same c.to;
        differs = h.differs;
      }

  pub words_changed : (called : FunctionPart) (is : IsPart g called) (before after : List ℕ) → HasRowChanged g before after is.whole.function → HaveWordsChanged called before after
  words_changed called is before after h =
      let c = contains_at g.outs h.row h.is_row in
      let own = row_own g shaped.rows_are called is c.0 h.row c.1 ((is.whole.all h.row.vertex).0 h.own) in
      let words = words_inside g shaped.rows_are called is c.0 h.row h.own.vertex c.1 h.own.at own.0 own.1 in
      let width : row_width g.vertices h.own.vertex.function ≡ row_width g.vertices is.whole.function = ap (row_width g.vertices) h.own.in_function in
      let low = words.0 in let high = words.1 in let from = h.from in let to = h.to in
      record { word = h.word; from = omega (arith, low, from); to = omega (arith, high, to, width); differs = h.differs }

  pub number_is : (p : ℕ) (q : FunctionPart) (is : IsPart g q) → slice_get parts.list.items p ≡ Some q → number_at g parts p ≡ is.whole.function
  number_is p q is at =
      let i = (is.whole.all q.range.first).1 (first_inside g q is) in
      ap (λ o. option_map_or (λ (r : FunctionPart). option_map_or (λ (x : Vertex). x.function) (slice_get g.vertices r.range.first) 0) o 0) at
      ∙ ap (λ o. option_map_or (λ (x : Vertex). x.function) o 0) i.at ∙ i.in_function

  module _ (before after : List ℕ) where
    pub caller_due : (p : ℕ) → IsCallerOfChanged g parts before after p → IsDue g before after (number_at g parts p)
    caller_due p h =
        let c = h.caller in
        subst (IsDue g before after) (sym (number_is p c.part c.is_part c.at)) (record {
          callee = c.is_called.whole.function;
          calls = c.calls;
          changed = row_changed h.called c.is_called before after h.changed;
        })

    pub due_caller : (f : ℕ) → IsDue g before after f → (p : ℕ) × IsCallerOfChanged g parts before after p × (number_at g parts p ≡ f)
    due_caller f h =
        let c = h.calls.calls in
        let low = slice_get_within g.vertices h.calls.call _ c.at in
        let found = part_at h.calls.call low in
        let p = get_or parts.of_vertex.items h.calls.call 0 in
        let part = are.each p found.part found.at in
        let own : part.whole.function ≡ f = in_other g.vertices part.whole.function f h.calls.call (kind.Call h.calls.statement) ((part.whole.all h.calls.call).1 (found.from, found.to)) c.at in
        let r = h.changed in
        let low_row = slice_get_within g.vertices r.row.vertex _ r.own.at in
        let called = part_at r.row.vertex low_row in
        let k = get_or parts.of_vertex.items r.row.vertex 0 in
        let is = are.each k called.part called.at in
        let i = (is.whole.all r.row.vertex).1 (called.from, called.to) in
        let callee : is.whole.function ≡ h.callee = sym i.in_function ∙ ap (λ (x : Vertex). x.function) (same_Some _ _ (sym i.at ∙ r.own.at)) ∙ r.own.in_function in (
          p,
          record {
            place = k;
            called = called.part;
            at = called.at;
            changed = words_changed called.part is before after (subst (HasRowChanged g before after) (sym callee) r);
            caller = record {
              part = found.part;
              at = found.at;
              is_part = part;
              is_called = is;
              calls = subst (λ m. HoldsCall g m is.whole.function) (sym own) (subst (HoldsCall g f) (sym callee) h.calls);
            };
          },
          number_is p found.part part found.at ∙ own,
        )

    -- ---- the changed functions, one after another
    pub changed_none : (p : ℕ) → ChangedBelow g parts before after 0 p → ⊥
    changed_none p h = let low = h.2 in omega (arith, low)

    pub changed_goes : (n : ℕ) (q : FunctionPart) (old new : Agenda) → slice_get parts.list.items n ≡ Some q → HaveWordsChanged q before after → ((p : ℕ) → (has old.marks.items p ≡ true) ↔ ChangedBelow g parts before after n p)
        → ((p : ℕ) → (has new.marks.items p ≡ true) ↔ ((has old.marks.items p ≡ true) ⊎ IsCaller g parts q p)) → (p : ℕ) → (has new.marks.items p ≡ true) ↔ ChangedBelow g parts before after (n + 1) p
    changed_goes n q old new at differs h added p = (
      λ up. elim ((added p).0 up) [
        | inl was ↦ (let k = (h p).0 was in (k.0, k.1, (let low = k.2 in omega (arith, low)), k.3, k.4, k.5))
        | inr c ↦ (n, q, omega arith, at, differs, c)
      ],
      λ k. (added p).1 (elim (cases_eq k.0 n) [
        | inl same ↦ (let one : k.1 ≡ q = same_Some _ _ (sym k.3 ∙ ap (slice_get parts.list.items) same ∙ at) in inr (subst (λ (r : FunctionPart). IsCaller g parts r p) one k.5))
        | inr other ↦ inl ((h p).1 (k.0, k.1, (let low = k.2 in omega (arith, low, other)), k.3, k.4, k.5))
      ]),
    )

    pub changed_skips : (n : ℕ) (q : FunctionPart) (old : Agenda) → slice_get parts.list.items n ≡ Some q → (HaveWordsChanged q before after → ⊥) → ((p : ℕ) → (has old.marks.items p ≡ true) ↔ ChangedBelow g parts before after n p)
        → (p : ℕ) → (has old.marks.items p ≡ true) ↔ ChangedBelow g parts before after (n + 1) p
    changed_skips n q old at same_words h p = (
      λ up. let k = (h p).0 up in (k.0, k.1, (let low = k.2 in omega (arith, low)), k.3, k.4, k.5),
      λ k. elim (cases_eq k.0 n) [
        | inl same ↦ (let one : k.1 ≡ q = same_Some _ _ (sym k.3 ∙ ap (slice_get parts.list.items) same ∙ at) in absurd (same_words (subst (λ (r : FunctionPart). HaveWordsChanged r before after) one k.4)))
        | inr other ↦ (h p).1 (k.0, k.1, (let low = k.2 in omega (arith, low, other)), k.3, k.4, k.5)
      ],
    )

    pub changed_ends : (n : ℕ) → length parts.list.items ≤ n → (p : ℕ) → ChangedBelow g parts before after n p ↔ IsCallerOfChanged g parts before after p
    changed_ends n all p = (
      λ k. record { place = k.0; called = k.1; at = k.3; changed = k.4; caller = k.5 },
      λ c. (c.place, c.called, (let low = slice_get_within parts.list.items c.place _ c.at in omega (arith, low, all)), c.at, c.changed, c.caller),
    )

    -- the numbers of the marked places are those of the functions that are due
    pub numbers_due : (a : Agenda) → IsAgenda (length parts.list.items) a → ((p : ℕ) → (has a.marks.items p ≡ true) ↔ IsCallerOfChanged g parts before after p) → (f : ℕ) → Contains (map (number_at g parts) a.places.items) f ↔ IsDue g before after f
    numbers_due a h exact f = (
      λ c.
          let q = contains_map (number_at g parts) a.places.items f c in
          subst (IsDue g before after) q.2 (caller_due q.0 ((exact q.0).0 ((h.listed q.0).0 q.1))),
      λ due.
          let q = due_caller f due in
          subst (Contains (map (number_at g parts) a.places.items)) q.2 (map_contains (number_at g parts) a.places.items q.0 ((h.listed q.0).1 ((exact q.0).1 q.1))),
    )

-- ---- lists that differ
pub differ_at : (xs ys : List ℕ) → length xs ≡ length ys → (xs ≡ ys → ⊥) → (k : ℕ) × (k < length xs) × (get_or xs k 0 ≢ get_or ys k 0)
differ_at [] [] long differ = absurd (differ refl)
differ_at [] (y ∷ ys) long differ = absurd (omega (arith, long))
differ_at (x ∷ xs) [] long differ = absurd (omega (arith, long))
differ_at (x ∷ xs) (y ∷ ys) long differ = elim (cases_eq x y) [
  | inl same ↦
      let q = differ_at xs ys (omega (arith, long)) (λ e. differ (ap (λ z. z ∷ xs) same ∙ ap (λ zs. y ∷ zs) e)) in
      (suc q.0, (let low = q.1 in omega (arith, low)), q.2)
  | inr other ↦ (0, omega arith, other)
]

-- what is found in the words of a part, where they are compared
module _ (p : FunctionPart) (before after : List ℕ) (in_before : p.last_word ≤ length before) (in_after : p.last_word ≤ length after) (order : p.first_word ≤ p.last_word) where
  differing : (between p.first_word p.last_word before ≡ between p.first_word p.last_word after → ⊥) → HaveWordsChanged p before after
  differing differ =
      let long = length-between before p.first_word p.last_word in_before in
      let other = length-between after p.first_word p.last_word in_after in
      let q = differ_at (between p.first_word p.last_word before) (between p.first_word p.last_word after) (long ∙ sym other) differ in
      let low = q.1 in
      let inside : p.first_word + q.0 < p.last_word = omega (arith, low, long, order) in
      record {
        word = p.first_word + q.0;
        from = omega arith;
        to = inside;
        differs = λ e. q.2 (get_or-between before p.first_word p.last_word q.0 0 inside ∙ e ∙ sym (get_or-between after p.first_word p.last_word q.0 0 inside));
      }

  alike : between p.first_word p.last_word before ≡ between p.first_word p.last_word after → HaveWordsChanged p before after → ⊥
  alike same h =
      let low = h.from in let high = h.to in
      let k = h.word - p.first_word in
      let at : p.first_word + k ≡ h.word = omega (arith, low) in
      let inside : p.first_word + k < p.last_word = omega (arith, low, high) in
      h.differs (ap (λ w. get_or before w 0) (sym at) ∙ sym (get_or-between before p.first_word p.last_word k 0 inside) ∙ ap (λ ws. get_or ws k 0) same
      ∙ get_or-between after p.first_word p.last_word k 0 inside ∙ ap (λ w. get_or after w 0) at)

  pub compared : (same r : Bool) → Decides same (between p.first_word p.last_word before ≡ between p.first_word p.last_word after) → r ≡ not same → (r ≡ true) ↔ HaveWordsChanged p before after
  compared true r d is = (λ up. absurd (false≢true (sym is ∙ up)), λ h. absurd (alike (d.0 refl) h))
  compared false r d is = (λ up. differing (λ same. false≢true (d.1 same)), λ h. is)

-- the function of a vertex that is read
pub function_read : (read vs : List Vertex) (v : ℕ) (d : Vertex) (f : ℕ) → read ≡ vs → IsIn vs f v → (get_or read v d).function ≡ f
function_read read vs v d f same i =
    ap (λ (xs : List Vertex). (get_or xs v d).function) same ∙ ap (λ (x : Vertex). x.function) (get_or_from_slice_get vs v i.vertex d i.at) ∙ i.in_function

-- the number that is read at the first vertex of a part
pub number_read : (g : Graph) (parts : FunctionParts) (p : ℕ) (q : FunctionPart) (read : List Vertex) (d : Vertex) → slice_get parts.list.items p ≡ Some q → read ≡ g.vertices → q.range.first < length g.vertices
    → (get_or read q.range.first d).function ≡ number_at g parts p
number_read g parts p q read d at same low =
    let there = slice_get-get_or g.vertices q.range.first d low in
    ap (λ (vs : List Vertex). (get_or vs q.range.first d).function) same
    ∙ sym (ap (λ o. option_map_or (λ (r : FunctionPart). option_map_or (λ (x : Vertex). x.function) (slice_get g.vertices r.range.first) 0) o 0) at
    ∙ ap (λ o. option_map_or (λ (x : Vertex). x.function) o 0) there)

pub numbers_more : (f : ℕ → ℕ) (places numbers : List ℕ) (n x : ℕ) → n < length places → numbers ≡ map f (take n places) → x ≡ f (get_or places n 0) → numbers ++ x ∷ [] ≡ map f (take (n + 1) places)
numbers_more f places numbers n x low so_far is =
    ap (λ ns. ns ++ x ∷ []) so_far ∙ ap (λ y. map f (take n places) ++ y ∷ []) is ∙ sym (map-append f (take n places) (get_or places n 0 ∷ [])) ∙ ap (map f) (sym (take_more places n 0 low))
