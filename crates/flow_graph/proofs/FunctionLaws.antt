-- What the walk comes to is the order of a function.
use Rattle.std.proofs.Common.{◌≡◌, ℕ, List, [], ◌++◌, ◌⊎◌, inl, inr, Option, Some, None, append_assoc, sym, ap, ◌∙◌, subst}
use Rattle.std.specs.Prelude.{Contains, ◌↔◌, ◌||◌}
use mathlib.Core.Path.{fun_ext}
use Rattle.c_tree.specs.declared.program.Program.{Program}
use Rattle.c_tree.specs.declared.statement.Statement.{Statement}
use Rattle.c_language.specs.Code.{Act, Code, code}
use Rattle.dep_model.specs.declared.skeleton.Pair.{Pair}
use Rattle.dep_model.specs.declared.vertex.Vertex.{Vertex}
use Rattle.dep_model.specs.Follows.{enters, InTurn, VerticesAt, start, Follows}
use Rattle.dep_model.specs.FunctionVertices.{is_own, is_actual, numbers, code_in, heads, tails, vertices_at, FollowsIn}
use Rattle.flow_graph.specs.Walk.{linked, flows}
use Rattle.dep_model.proofs.Membership.{IsIn, in_of_contains, contains_of_in, in_first, in_second, in_either}
use Rattle.flow_graph.proofs.OrderLaws.{Turns, in_linked, of_linked, at, code_is}

-- the pairs of a list between its heads and tails, where `own` has the vertices of each statement
abbrev pub found : (ℕ → List ℕ) → List Statement → List ℕ → List ℕ → List Pair
found own body hs ts =
    linked ts None ++ ((flows own body).pairs (enters ts None) ++ linked hs ((flows own body).start (enters ts None)))

abbrev pub Order : VerticesAt ℕ → Code → List ℕ → List ℕ → Pair → Type 0
Order vertices c hs ts x =
    InTurn hs (start vertices c (enters ts None)) x.from (Some x.to) ⊎ (Follows vertices c (enters ts None) x.from (Some x.to) ⊎ InTurn ts None x.from (Some x.to))

order_of : (own : ℕ → List ℕ) (body : List Statement) (hs ts : List ℕ) (x : Pair) → IsIn (found own body hs ts) x → Order (at own) (code body) hs ts x
order_of own body hs ts x h =
    let k = enters ts None in
    let is = code_is own body in
    elim (in_either (linked ts None) ((flows own body).pairs k ++ linked hs ((flows own body).start k)) x h) [
      | inl t ↦ inr (inr (of_linked ts None x t))
      | inr t ↦ elim (in_either ((flows own body).pairs k) (linked hs ((flows own body).start k)) x t) [
        | inl u ↦ inr (inl (is.into k x u))
        | inr u ↦ inl (subst (λ y. Turns hs y x) (sym (is.starts k)) (of_linked hs ((flows own body).start k) x u))
      ]
    ]

of_order : (own : ℕ → List ℕ) (body : List Statement) (hs ts : List ℕ) (x : Pair) → Order (at own) (code body) hs ts x → IsIn (found own body hs ts) x
of_order own body hs ts x h =
    let k = enters ts None in
    let is = code_is own body in
    let pairs = (flows own body).pairs k in
    let last = linked hs ((flows own body).start k) in
    elim h [
      | inl t ↦ in_second (linked ts None) (pairs ++ last) x (in_second pairs last x (in_linked hs ((flows own body).start k) x (subst (λ y. Turns hs y x) (is.starts k) t)))
      | inr (inl t) ↦ in_second (linked ts None) (pairs ++ last) x (in_first pairs last x (is.from k x t))
      | inr (inr t) ↦ in_first (linked ts None) (pairs ++ last) x (in_linked ts None x t)
    ]

-- exactly these are the pairs of the function
pub found_exactly : (p : Program) (vs : List Vertex) (f : ℕ) (own : ℕ → List ℕ) → ((i : ℕ) → own i ≡ numbers (λ k. is_own i k || is_actual i k) f vs) → (body : List Statement) → code_in p f ≡ code body → (xs : List Pair) → xs ≡ found own body (heads vs f) (tails vs f) → (x : Pair) → Contains xs x ↔ FollowsIn p vs f x.from (Some x.to)
found_exactly p vs f own owns body is xs all x =
    let same : at own ≡ vertices_at vs f = ap (λ (o : ℕ → List ℕ). λ (i : ℕ) (a : Option Act). o i) (fun_ext owns) in
    let hs = heads vs f in
    let ts = tails vs f in
    let there = λ (h : Order (at own) (code body) hs ts x). subst (λ c. Order (vertices_at vs f) c hs ts x) (sym is) (subst (λ v. Order v (code body) hs ts x) same h) in
    let back = λ (h : Order (vertices_at vs f) (code_in p f) hs ts x). subst (λ v. Order v (code body) hs ts x) (sym same) (subst (λ c. Order (vertices_at vs f) c hs ts x) is h) in (
      (λ h. there (order_of own body hs ts x (in_of_contains (found own body hs ts) x (subst (λ ys. Contains ys x) all h)))),
      (λ h. subst (λ ys. Contains ys x) (sym all) (contains_of_in (found own body hs ts) x (of_order own body hs ts x (back h)))),
    )

-- what the steps of the walk leave
pub walked : (own : ℕ → List ℕ) (none first second all : List Pair) (body body_ : List Statement) (hs hs_ ts ts_ : List ℕ) (end next : Option ℕ) → none ≡ [] → body_ ≡ body → hs_ ≡ hs → ts_ ≡ ts → first ≡ none ++ linked ts_ None → end ≡ enters ts_ None → second ≡ first ++ (flows own body_).pairs end → next ≡ (flows own body_).start end → all ≡ second ++ linked hs_ next → all ≡ found own body hs ts
walked own none first second all body body_ hs hs_ ts ts_ end next n b h t p q r s u =
    let e : end ≡ enters ts None = q ∙ ap (λ y. enters y None) t in
    let one : first ≡ linked ts None = p ∙ ap (λ y. y ++ linked ts_ None) n ∙ ap (λ y. linked y None) t in
    let pairs : (flows own body_).pairs end ≡ (flows own body).pairs (enters ts None) = ap (λ y. (flows own y).pairs end) b ∙ ap (flows own body).pairs e in
    let starts : next ≡ (flows own body).start (enters ts None) = s ∙ ap (λ y. (flows own y).start end) b ∙ ap (flows own body).start e in
    u ∙ ap (λ y. y ++ linked hs_ next) (r ∙ ap (λ y. y ++ (flows own body_).pairs end) one ∙ ap (λ y. linked ts None ++ y) pairs) ∙ ap (λ y. (linked ts None ++ (flows own body).pairs (enters ts None)) ++ linked y next) h ∙ ap (λ y. (linked ts None ++ (flows own body).pairs (enters ts None)) ++ linked hs y) starts ∙ append_assoc (linked ts None) ((flows own body).pairs (enters ts None)) (linked hs ((flows own body).start (enters ts None)))
