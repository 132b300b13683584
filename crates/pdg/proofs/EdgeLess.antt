-- The order of edges, as comparing has it.
use Rattle.std.proofs.Common.{◌≡◌, ℕ, ◌<◌, List, [], ◌∷◌, inl, inr, refl, sym, ap, ◌∙◌, subst, arith}
use Rattle.std.specs.declared.cmp.Ordering.{Ordering}
use Rattle.std.specs.declared.cmp.Ordering.TheVariants.{Less, Equal, Greater}
use Rattle.std.specs.Ordering.{MatchOrdering, nat_cmp, ordering_then}
use Rattle.std.proofs.lemmas.Cmp.{ranked}
use Rattle.dep_model.specs.contracts.edge.EdgeOrd as edges
use Rattle.dep_model.specs.contracts.edge.LabelOrd as labels
use Rattle.dep_model.specs.declared.edge.Edge.{Edge}
use Rattle.dep_model.specs.declared.edge.Label.{Label}
use Rattle.dep_model.specs.declared.edge.Label.TheVariants.{Control, Flow, Call, In, Out}
use Rattle.dep_model.specs.EdgeOrder.{IsLess, IsBefore, edge_keys, label_keys}

-- ---- one after the other

less_less : (xs ys zs : List ℕ) → IsLess xs ys → IsLess ys zs → IsLess xs zs
less_less [] ys zs h k = absurd h
less_less (x ∷ xs) [] zs h k = absurd h
less_less (x ∷ xs) (y ∷ ys) [] h k = absurd k
less_less (x ∷ xs) (y ∷ ys) (z ∷ zs) (inl h) (inl k) = inl (omega (arith, h, k))
less_less (x ∷ xs) (y ∷ ys) (z ∷ zs) (inl h) (inr k) = inl (omega (arith, h, k.0))
less_less (x ∷ xs) (y ∷ ys) (z ∷ zs) (inr h) (inl k) = inl (omega (arith, h.0, k))
less_less (x ∷ xs) (y ∷ ys) (z ∷ zs) (inr h) (inr k) = inr (h.0 ∙ k.0, less_less xs ys zs h.1 k.1)

pub before_before : (e f g : Edge) → IsBefore e f → IsBefore f g → IsBefore e g
before_before e f g h k = less_less (edge_keys e) (edge_keys f) (edge_keys g) h k

-- ---- what comparing answers

abbrev pub label_cmp : Label → Label → Ordering
label_cmp = labels.TheImpl.cmp-value.it

abbrev pub edge_cmp : Edge → Edge → Ordering
edge_cmp = edges.TheImpl.cmp-value.it

-- a comparison of two numbers, and then of the rest of two lists
then_ranked : (x y : ℕ) (xs ys : List ℕ) (Q : Type 0) (o p : Ordering) → MatchOrdering o (x < y) (x ≡ y) (y < x)
    → MatchOrdering p (IsLess xs ys) Q (IsLess ys xs)
    → MatchOrdering (ordering_then o p) (IsLess (x ∷ xs) (y ∷ ys)) ((x ≡ y) × Q) (IsLess (y ∷ ys) (x ∷ xs))
then_ranked x y xs ys Q Less p lt r = inl lt
then_ranked x y xs ys Q Equal Less eq r = inr (eq, r)
then_ranked x y xs ys Q Equal Equal eq r = (eq, r)
then_ranked x y xs ys Q Equal Greater eq r = inr (sym eq, r)
then_ranked x y xs ys Q Greater p gt r = inl gt

abbrev LabelRank : Label → Label → Ordering → Type 0
LabelRank a b o = MatchOrdering o (IsLess (label_keys a) (label_keys b)) (a ≡ b) (IsLess (label_keys b) (label_keys a))

-- two labels of one kind, by the vertices of their calls
call_ranked : (k c d : ℕ) (label : ℕ → Label) (o : Ordering) → MatchOrdering o (c < d) (c ≡ d) (d < c)
    → MatchOrdering o (IsLess (k ∷ c ∷ []) (k ∷ d ∷ [])) (label c ≡ label d) (IsLess (k ∷ d ∷ []) (k ∷ c ∷ []))
call_ranked k c d label Less lt = inr (refl, inl lt)
call_ranked k c d label Equal eq = ap label eq
call_ranked k c d label Greater gt = inr (refl, inl gt)

label_ranked : (a b : Label) → LabelRank a b (label_cmp a b)
label_ranked Control Control = refl
label_ranked Control Flow = inl (omega arith)
label_ranked Control (Call d) = inl (omega arith)
label_ranked Control (In d) = inl (omega arith)
label_ranked Control (Out d) = inl (omega arith)
label_ranked Flow Control = inl (omega arith)
label_ranked Flow Flow = refl
label_ranked Flow (Call d) = inl (omega arith)
label_ranked Flow (In d) = inl (omega arith)
label_ranked Flow (Out d) = inl (omega arith)
label_ranked (Call c) Control = inl (omega arith)
label_ranked (Call c) Flow = inl (omega arith)
label_ranked (Call c) (Call d) = call_ranked 2 c d (λ n. Call n) (nat_cmp c d) (ranked c d (nat_cmp c d) refl)
label_ranked (Call c) (In d) = inl (omega arith)
label_ranked (Call c) (Out d) = inl (omega arith)
label_ranked (In c) Control = inl (omega arith)
label_ranked (In c) Flow = inl (omega arith)
label_ranked (In c) (Call d) = inl (omega arith)
label_ranked (In c) (In d) = call_ranked 3 c d (λ n. In n) (nat_cmp c d) (ranked c d (nat_cmp c d) refl)
label_ranked (In c) (Out d) = inl (omega arith)
label_ranked (Out c) Control = inl (omega arith)
label_ranked (Out c) Flow = inl (omega arith)
label_ranked (Out c) (Call d) = inl (omega arith)
label_ranked (Out c) (In d) = inl (omega arith)
label_ranked (Out c) (Out d) = call_ranked 4 c d (λ n. Out n) (nat_cmp c d) (ranked c d (nat_cmp c d) refl)

-- what an ordering says of two edges
abbrev EdgeRank : Edge → Edge → Ordering → Type 0
EdgeRank e f o = MatchOrdering o (IsBefore e f) (e ≡ f) (IsBefore f e)

abbrev HaveSameFields : Edge → Edge → Type 0
HaveSameFields e f = (e.from ≡ f.from) × ((e.to ≡ f.to) × (e.label ≡ f.label))

same_edge : (e f : Edge) → HaveSameFields e f → e ≡ f
same_edge e f h =
    ap (λ n. record { from = n; to = e.to; label = e.label }) h.0
    ∙ ap (λ n. record { from = f.from; to = n; label = e.label }) h.1.0
    ∙ ap (λ l. record { from = f.from; to = f.to; label = l }) h.1.1

by_fields : (e f : Edge) (o : Ordering) → MatchOrdering o (IsBefore e f) (HaveSameFields e f) (IsBefore f e) → EdgeRank e f o
by_fields e f Less lt = lt
by_fields e f Equal h = same_edge e f h
by_fields e f Greater gt = gt

edge_ranked : (e f : Edge) → EdgeRank e f (edge_cmp e f)
edge_ranked e f =
    let ks = label_keys e.label in
    let ls = label_keys f.label in
    let by_from = nat_cmp e.from f.from in
    let by_to = nat_cmp e.to f.to in
    let by_label = label_cmp e.label f.label in
    let rest = then_ranked e.to f.to ks ls _ by_to by_label (ranked e.to f.to by_to refl) (label_ranked e.label f.label) in
    let from_is = ranked e.from f.from by_from refl in
    by_fields e f (edge_cmp e f) (then_ranked e.from f.from (e.to ∷ ks) (f.to ∷ ls) _ by_from (ordering_then by_to by_label) from_is rest)

-- what is told of two edges by how they compare
pub told_less : (e f : Edge) (o : Ordering) → o ≡ edge_cmp e f → o ≡ Less → IsBefore e f
told_less e f o is less = subst (EdgeRank e f) (sym is ∙ less) (edge_ranked e f)

pub told_equal : (e f : Edge) (o : Ordering) → o ≡ edge_cmp e f → o ≡ Equal → e ≡ f
told_equal e f o is equal = subst (EdgeRank e f) (sym is ∙ equal) (edge_ranked e f)

pub told_greater : (e f : Edge) (o : Ordering) → o ≡ edge_cmp e f → o ≡ Greater → IsBefore f e
told_greater e f o is greater = subst (EdgeRank e f) (sym is ∙ greater) (edge_ranked e f)
