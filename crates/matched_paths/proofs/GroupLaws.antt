-- The edges of a group are those of the list that are of it.
use Rattle.std.proofs.Common.{◌≡◌, ℕ, true, List, [], ◌∷◌, flat_map, inl, inr, Option, Some, None, slice_get, Contains, All, refl, sym, ap, ◌∙◌, subst, arith}
use Rattle.std.specs.Prelude.{◌==◌}
use Rattle.std.proofs.lemmas.List.Elements.{All-contains}
use Rattle.std.proofs.lemmas.Bool.Decides.{nat_tests}
use Rattle.rule_closure.proofs.ListLemmas.{contains_none, contains_head, contains_cases}
use Rattle.dep_model.specs.declared.edge.Edge.{Edge}
use Rattle.dep_model.specs.declared.edge.Label.{Label}
use Rattle.dep_model.specs.declared.edge.Label.TheVariants.{Control, Flow, Call, In, Out}
use Rattle.dep_model.specs.declared.vertex.Vertex.{Vertex}
use Rattle.dep_model.specs.Facts.{IsIn}
use Rattle.dep_model.specs.Graphs.{edge}
use Rattle.matched_paths.specs.EdgeGroups.{if_group, leaves_by, leaving, starts_at, starting, ending, enters_by, entering, calls_by, calling}
use Rattle.matched_paths.proofs.Members.{contains_flat, flat_contains, if_contains, contains_if, all_of}

same_number : (c d : ℕ) → (c == d) ≡ true → c ≡ d
same_number c d h = grind (arith, nat_tests)

number_same : (c : ℕ) → (c == c) ≡ true
number_same c = grind (arith, nat_tests)

leaves_is : (l : Label) (c : ℕ) (e x : Edge) → Contains (leaves_by l c e) x → (e ≡ x) × (l ≡ Out c)
leaves_is Control c e x h = absurd (contains_none x h)
leaves_is Flow c e x h = absurd (contains_none x h)
leaves_is (Call d) c e x h = absurd (contains_none x h)
leaves_is (In d) c e x h = absurd (contains_none x h)
leaves_is (Out d) c e x h =
    let r = if_contains (d == c) (e ∷ []) x h in
    (elim (contains_cases e [] x r.1) [ inl s ↦ s | inr n ↦ absurd (contains_none x n) ], ap Out (same_number d c r.0))

pub leaving_is : (edges : List Edge) (c : ℕ) (e : Edge) → Contains (flat_map (leaving c) edges) e → Contains edges e × (e.label ≡ Out c)
leaving_is edges c e h =
    let w = contains_flat (leaving c) edges e h in
    let r = leaves_is w.0.label c w.0 e w.2 in
    (subst (Contains edges) r.0 w.1, sym (ap (λ (x : Edge). x.label) r.0) ∙ r.1)

pub leaving_has : (edges : List Edge) (c a b : ℕ) → Contains edges (edge a b (Out c)) → Contains (flat_map (leaving c) edges) (edge a b (Out c))
leaving_has edges c a b m =
    flat_contains (leaving c) edges (edge a b (Out c)) (edge a b (Out c)) m
    (contains_if (c == c) (edge a b (Out c) ∷ []) (edge a b (Out c)) (number_same c) (contains_head (edge a b (Out c)) []))

pub leaving_all : (P : Edge → Type 0) (edges : List Edge) (c : ℕ) → All P edges → All P (flat_map (leaving c) edges)
leaving_all P edges c all = all_of P (flat_map (leaving c) edges) (λ e m. All-contains P edges e all (leaving_is edges c e m).0)

-- ---- the edges that lead from a function
starts_is : (o : Option Vertex) (f : ℕ) (e x : Edge) → Contains (starts_at o f e) x → e ≡ x
starts_is None f e x h = absurd (contains_none x h)
starts_is (Some y) f e x h =
    let r = if_contains (y.function == f) (e ∷ []) x h in
    elim (contains_cases e [] x r.1) [ inl s ↦ s | inr n ↦ absurd (contains_none x n) ]

pub starting_is : (vs : List Vertex) (edges : List Edge) (f : ℕ) (e : Edge) → Contains (flat_map (starting vs f) edges) e → Contains edges e
starting_is vs edges f e h =
    let w = contains_flat (starting vs f) edges e h in
    subst (Contains edges) (starts_is (slice_get vs w.0.from) f w.0 e w.2) w.1

pub starting_has : (vs : List Vertex) (edges : List Edge) (f : ℕ) (e : Edge) → Contains edges e → IsIn vs f e.from → Contains (flat_map (starting vs f) edges) e
starting_has vs edges f e m inside =
    let here : Contains (if_group inside.vertex.function f e) e =
    contains_if (inside.vertex.function == f) (e ∷ []) e (ap (λ n. n == f) inside.in_function ∙ number_same f) (contains_head e []) in
    flat_contains (starting vs f) edges e e m (subst (λ o. Contains (starts_at o f e) e) (sym inside.at) here)

pub starting_all : (P : Edge → Type 0) (vs : List Vertex) (edges : List Edge) (f : ℕ) → All P edges → All P (flat_map (starting vs f) edges)
starting_all P vs edges f all = all_of P (flat_map (starting vs f) edges) (λ e m. All-contains P edges e all (starting_is vs edges f e m))

-- ---- the edges that lead to a vertex
pub ending_is : (edges : List Edge) (v : ℕ) (e : Edge) → Contains (flat_map (ending v) edges) e → Contains edges e × (e.to ≡ v)
ending_is edges v e h =
    let w = contains_flat (ending v) edges e h in
    let r = if_contains (w.0.to == v) (w.0 ∷ []) e w.2 in
    let same : w.0 ≡ e = elim (contains_cases w.0 [] e r.1) [ inl s ↦ s | inr n ↦ absurd (contains_none e n) ] in
    (subst (Contains edges) same w.1, sym (ap (λ (x : Edge). x.to) same) ∙ same_number w.0.to v r.0)

pub ending_has : (edges : List Edge) (e : Edge) → Contains edges e → Contains (flat_map (ending e.to) edges) e
ending_has edges e m = flat_contains (ending e.to) edges e e m (contains_if (e.to == e.to) (e ∷ []) e (number_same e.to) (contains_head e []))

-- ---- the edges that lead from the actual-ins of a call
enters_is : (l : Label) (c : ℕ) (e x : Edge) → Contains (enters_by l c e) x → (e ≡ x) × (l ≡ In c)
enters_is Control c e x h = absurd (contains_none x h)
enters_is Flow c e x h = absurd (contains_none x h)
enters_is (Call d) c e x h = absurd (contains_none x h)
enters_is (Out d) c e x h = absurd (contains_none x h)
enters_is (In d) c e x h =
    let r = if_contains (d == c) (e ∷ []) x h in
    (elim (contains_cases e [] x r.1) [ inl s ↦ s | inr n ↦ absurd (contains_none x n) ], ap In (same_number d c r.0))

pub entering_is : (edges : List Edge) (c : ℕ) (e : Edge) → Contains (flat_map (entering c) edges) e → Contains edges e × (e.label ≡ In c)
entering_is edges c e h =
    let w = contains_flat (entering c) edges e h in
    let r = enters_is w.0.label c w.0 e w.2 in
    (subst (Contains edges) r.0 w.1, sym (ap (λ (x : Edge). x.label) r.0) ∙ r.1)

pub entering_has : (edges : List Edge) (c a b : ℕ) → Contains edges (edge a b (In c)) → Contains (flat_map (entering c) edges) (edge a b (In c))
entering_has edges c a b m =
    flat_contains (entering c) edges (edge a b (In c)) (edge a b (In c)) m
    (contains_if (c == c) (edge a b (In c) ∷ []) (edge a b (In c)) (number_same c) (contains_head (edge a b (In c)) []))

-- ---- the edges from call vertices to the entry of a function
pub calling_has : (vs : List Vertex) (edges : List Edge) (h c v d : ℕ) → Contains edges (edge c v (Call d)) → IsIn vs h v → Contains (flat_map (calling vs h) edges) (edge c v (Call d))
calling_has vs edges h c v d m inside =
    let e = edge c v (Call d) in
    let here : Contains (if_group inside.vertex.function h e) e =
    contains_if (inside.vertex.function == h) (e ∷ []) e (ap (λ n. n == h) inside.in_function ∙ number_same h) (contains_head e []) in
    flat_contains (calling vs h) edges e e m (subst (λ o. Contains (starts_at o h e) e) (sym inside.at) here)

calls_is : (l : Label) (vs : List Vertex) (h : ℕ) (e x : Edge) → Contains (calls_by l vs h e) x → (e ≡ x) × ((c : ℕ) × (l ≡ Call c) × IsIn vs h e.to)
calls_is Control vs h e x m = absurd (contains_none x m)
calls_is Flow vs h e x m = absurd (contains_none x m)
calls_is (In d) vs h e x m = absurd (contains_none x m)
calls_is (Out d) vs h e x m = absurd (contains_none x m)
calls_is (Call c) vs h e x m = by_vertex (slice_get vs e.to) refl m
  where
    by_vertex : (o : Option Vertex) → slice_get vs e.to ≡ o → Contains (starts_at o h e) x → (e ≡ x) × ((d : ℕ) × (Call c ≡ Call d) × IsIn vs h e.to)
    by_vertex None at m = absurd (contains_none x m)
    by_vertex (Some y) at m =
        let r = if_contains (y.function == h) (e ∷ []) x m in
        (elim (contains_cases e [] x r.1) [ inl s ↦ s | inr n ↦ absurd (contains_none x n) ], (c, refl, record { vertex = y; at = at; in_function = same_number y.function h r.0 }))

pub calling_is : (vs : List Vertex) (edges : List Edge) (h : ℕ) (e : Edge) → Contains (flat_map (calling vs h) edges) e → Contains edges e × ((c : ℕ) × (e.label ≡ Call c) × IsIn vs h e.to)
calling_is vs edges h e m =
    let w = contains_flat (calling vs h) edges e m in
    let r = calls_is w.0.label vs h w.0 e w.2 in
    (subst (Contains edges) r.0 w.1, subst (λ (x : Edge). (c : ℕ) × (x.label ≡ Call c) × IsIn vs h x.to) r.0 r.1)
