-- What the walk and the attached edges come to is control in a function.
use Rattle.std.proofs.Common.{◌≡◌, ℕ, List, [], ◌∷◌, ◌++◌, inl, inr, Some, None, map, refl, sym, ap, ◌∙◌, subst}
use Rattle.std.specs.Prelude.{Contains, ◌↔◌}
use Rattle.c_tree.specs.declared.program.Program.{Program}
use Rattle.c_tree.specs.declared.statement.Statement.{Statement}
use Rattle.c_language.specs.Code.{code}
use Rattle.dep_model.specs.declared.edge.Edge.{Edge}
use Rattle.dep_model.specs.declared.skeleton.Pair.{Pair}
use Rattle.dep_model.specs.declared.vertex.Vertex.{Vertex}
use Rattle.dep_model.specs.Controls.{Controller, Controls}
use Rattle.dep_model.specs.FunctionVertices.{is_own, is_actual, is_entry, numbers, code_in, controller_vertices, IsControlIn, nested, formal, actual}
use Rattle.dep_model.specs.PairOrder.{AreAscending}
use Rattle.control_deps.specs.Walk.{walks}
use Rattle.control_deps.specs.Attached.{controllers, attached_from}
use Rattle.control_deps.specs.ControlEdges.{control_edge}
use Rattle.dep_model.proofs.Membership.{IsIn, in_of_contains, contains_of_in, in_first, in_second, in_either, in_map, of_map}
use Rattle.control_deps.proofs.CodeLaws.{vertices_of, controlled_of, of_controlled}
use Rattle.control_deps.proofs.StatementLaws.{walks_into, walks_from}
use Rattle.control_deps.proofs.AttachedLaws.{is_formal, attached_of, formal_attached, actual_attached}
use Rattle.dep_model.specs.EdgeOrder.{AreAscendingEdges}
use Rattle.dep_model.proofs.EdgeOrderLemmas.{ends, ascending_by_ends}

module _ (p : Program) (vs : List Vertex) (f : ℕ) (own : ℕ → List ℕ) (owns : (i : ℕ) → own i ≡ numbers (is_own i) f vs) where
  abbrev entry : List ℕ
  entry = numbers is_entry f vs

  own_in : (i k : ℕ) → IsIn (own i) k → Contains (numbers (is_own i) f vs) k
  own_in i k h = contains_of_in (numbers (is_own i) f vs) k (subst (λ ks. IsIn ks k) (owns i) h)

  in_own : (i k : ℕ) → Contains (numbers (is_own i) f vs) k → IsIn (own i) k
  in_own i k h = subst (λ ks. IsIn ks k) (sym (owns i)) (in_of_contains (numbers (is_own i) f vs) k h)

  controller_in : (v : Controller) (k : ℕ) → IsIn (vertices_of own entry v) k → Contains (controller_vertices vs f v) k
  controller_in None k h = contains_of_in entry k h
  controller_in (Some i) k h = own_in i k h

  in_controller : (v : Controller) (k : ℕ) → Contains (controller_vertices vs f v) k → IsIn (vertices_of own entry v) k
  in_controller None k h = in_of_contains entry k h
  in_controller (Some i) k h = in_own i k h

  -- the pairs that are found
  abbrev pub found : List Statement → List Pair
  found body = walks own body entry ++ attached_from (controllers entry own f) 0 vs

  is_control : (body : List Statement) → code_in p f ≡ code body → (x : Pair) → IsIn (found body) x → IsControlIn p vs f (control_edge x)
  is_control body is x h = elim (in_either (walks own body entry) (attached_from (controllers entry own f) 0 vs) x h) [
    | inl t ↦ let c = controlled_of own entry (code body) None x (walks_into own body entry x t) in
        nested c.0 c.1 refl (subst (λ y. Controls y None c.0 c.1) (sym is) c.2) (controller_in c.0 x.from c.3.0) (own_in c.1 x.to c.3.1)
    | inr t ↦ elim (attached_of entry own f 0 vs x t) [
      | inl u ↦ formal refl (contains_of_in entry x.from u.0) (contains_of_in (numbers is_formal f vs) x.to u.1)
      | inr u ↦ actual u.0 refl (own_in u.0 x.from u.1.0) (contains_of_in (numbers (is_actual u.0) f vs) x.to u.1.1)
    ]
  ]

  control_is : (body : List Statement) → code_in p f ≡ code body → (x : Pair) (e : Edge) → ends e ≡ x → IsControlIn p vs f e → IsIn (found body) x
  control_is body is x e q (nested v i l c a b) =
      subst (IsIn (found body)) q (in_first (walks own body entry) (attached_from (controllers entry own f) 0 vs) (ends e) (walks_from own body entry (ends e) (of_controlled own entry (code body) None v i (ends e) (subst (λ y. Controls y None v i) is c) (in_controller v e.from a, in_own i e.to b))))
  control_is body is x e q (formal l a b) =
      subst (IsIn (found body)) q (in_second (walks own body entry) (attached_from (controllers entry own f) 0 vs) (ends e) (formal_attached entry own f 0 vs (ends e) (in_of_contains entry e.from a, in_of_contains (numbers is_formal f vs) e.to b)))
  control_is body is x e q (actual i l a b) =
      subst (IsIn (found body)) q (in_second (walks own body entry) (attached_from (controllers entry own f) 0 vs) (ends e) (actual_attached entry own f i 0 vs (ends e) (in_own i e.from a, in_of_contains (numbers (is_actual i) f vs) e.to b)))

  -- exactly these are the ends of control edges
  pub found_exactly : (body : List Statement) → code_in p f ≡ code body → (xs : List Pair) → xs ≡ found body → (x : Pair) → Contains xs x ↔ IsControlIn p vs f (control_edge x)
  found_exactly body is xs all x = (
    (λ h. is_control body is x (in_of_contains (found body) x (subst (λ ys. Contains ys x) all h))),
    (λ h. subst (λ ys. Contains ys x) (sym all) (contains_of_in (found body) x (control_is body is x (control_edge x) refl h))),
  )

label_is : (p : Program) (vs : List Vertex) (f : ℕ) (e : Edge) → IsControlIn p vs f e → control_edge (ends e) ≡ e
label_is p vs f e (nested v i l c a b) = ap (λ k. record { from = e.from; to = e.to; label = k }) (sym l)
label_is p vs f e (formal l a b) = ap (λ k. record { from = e.from; to = e.to; label = k }) (sym l)
label_is p vs f e (actual i l a b) = ap (λ k. record { from = e.from; to = e.to; label = k }) (sym l)

-- and these the control edges
pub edges_exactly : (p : Program) (vs : List Vertex) (f : ℕ) (xs : List Pair) (es : List Edge) → ((x : Pair) → Contains xs x ↔ IsControlIn p vs f (control_edge x)) → es ≡ map control_edge xs → (e : Edge) → Contains es e ↔ IsControlIn p vs f e
edges_exactly p vs f xs es all is e = (
  (λ h. let t = of_map control_edge xs e (in_of_contains (map control_edge xs) e (subst (λ ys. Contains ys e) is h)) in
      subst (IsControlIn p vs f) t.2 ((all t.0).0 (contains_of_in xs t.0 t.1))),
  (λ h. let l = label_is p vs f e h in
      let there = (all (ends e)).1 (subst (IsControlIn p vs f) (sym l) h) in
      subst (λ ys. Contains ys e) (sym is) (contains_of_in (map control_edge xs) e (subst (IsIn (map control_edge xs)) l (in_map control_edge xs (ends e) (in_of_contains xs (ends e) there))))),
)

ends_back : (xs : List Pair) → map ends (map control_edge xs) ≡ xs
ends_back [] = refl
ends_back (x ∷ xs) = ap (λ ys. x ∷ ys) (ends_back xs)

pub edges_ascending : (xs : List Pair) (es : List Edge) → AreAscending xs → es ≡ map control_edge xs → AreAscendingEdges es
edges_ascending xs es h is = ascending_by_ends es (subst AreAscending (sym (ends_back xs) ∙ ap (map ends) (sym is)) h)

-- what the two walks leave
pub walked : (own : ℕ → List ℕ) (f : ℕ) (vs : List Vertex) (none first all : List Pair) (body body_ : List Statement) (e e1 e2 : List ℕ) → none ≡ [] → body_ ≡ body → e1 ≡ e → e2 ≡ e → first ≡ none ++ walks own body_ e1 → all ≡ first ++ attached_from (controllers e2 own f) 0 vs → all ≡ walks own body e ++ attached_from (controllers e own f) 0 vs
walked own f vs none first all body body_ e e1 e2 n b p q s t =
    t ∙ ap (λ xs. xs ++ attached_from (controllers e2 own f) 0 vs) (s ∙ ap (λ xs. xs ++ walks own body_ e1) n ∙ ap (λ y. walks own y e1) b ∙ ap (walks own body) p) ∙ ap (λ y. walks own body e ++ attached_from (controllers y own f) 0 vs) q
