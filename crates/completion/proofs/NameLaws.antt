-- The rules of names say exactly which vertex names which parameter.
use Rattle.std.proofs.Common.{◌≡◌, ℕ, zero, suc, ◌+◌, inl, inr, Bool, true, false, List, [], ◌∷◌, slice_get, Option, Some, None, Contains, refl, sym, ap, ◌∙◌, subst, arith}
use Rattle.std.specs.Prelude.{◌==◌}
use Rattle.std.specs.Option.{option_map_or}
use Rattle.std.proofs.lemmas.Bool.Decides.{nat_tests}
use Rattle.std.proofs.lemmas.Option.{same_Some}
use Rattle.std.proofs.lemmas.List.Elements.{Contains-append_left, Contains-append_right, Contains-append_cases}
use Rattle.rule_closure.specs.declared.closure.Rule.{Rule}
use Rattle.rule_closure.proofs.ListLemmas.{contains_none, contains_head}
use Rattle.c_tree.specs.declared.program.Program.{Program}
use Rattle.dep_model.specs.declared.vertex.Slot.TheVariants.{Argument, Result, At}
use Rattle.dep_model.specs.declared.vertex.Vertex.{Vertex}
use Rattle.dep_model.specs.declared.vertex.VertexKind.{VertexKind}
use Rattle.dep_model.specs.declared.vertex.VertexKind.TheVariants.{Entry, FormalIn, FormalOut, Statement, Call, ActualIn, ActualOut}
use Rattle.dep_model.specs.MayPoint.{parameters}
use Rattle.dep_model.specs.NamedParameters.{NamesParameter, kind_names}
use Rattle.dep_model.specs.SystemGraph.{IsVertex}
use Rattle.dep_model.specs.VertexOrder.{in_function}
use Rattle.completion.specs.declared.formals.Formal.{Formal}
use Rattle.completion.specs.NameRules.{one_premise, AreNameRules, formal_at, formal_of, formals_from, named_rule, vertex_rules, rules_from, name_rules}
use Rattle.completion.proofs.Members.{contains_flat, flat_contains, if_contains, contains_if, contains_one}

same_number : (a b : ℕ) → (a == b) ≡ true → a ≡ b
same_number a b h = grind (arith, nat_tests)

number_same : (a : ℕ) → (a == a) ≡ true
number_same a = grind (arith, nat_tests)

-- ---- the formal-ins of a function
pub record IsFormal (vs : List Vertex) (f : ℕ) (u : Formal) : Type 0 where
  pub at : IsVertex vs f (FormalIn (Argument u.place)) u.vertex

-- a formal-in among vertices of which the first has the number n
record FormalFrom (f n : ℕ) (vs : List Vertex) (u : Formal) : Type 0 where
  at : ℕ
  number : u.vertex ≡ n + at
  vertex : IsVertex vs f (FormalIn (Argument u.place)) at

kind_formal : (n : ℕ) (k : VertexKind) (u : Formal) → Contains (formal_at n k) u → (k ≡ FormalIn (Argument u.place)) × (u.vertex ≡ n)
kind_formal n (FormalIn (Argument k)) u c =
    let e = contains_one (let r : Formal = record { place = k; vertex = n } in r) u c in
    (ap (λ (r : Formal). FormalIn (Argument r.place)) e, sym (ap (λ (r : Formal). r.vertex) e))
kind_formal n (FormalIn Result) u c = absurd (contains_none u c)
kind_formal n (FormalIn (At k)) u c = absurd (contains_none u c)
kind_formal n Entry u c = absurd (contains_none u c)
kind_formal n (FormalOut slot) u c = absurd (contains_none u c)
kind_formal n (Statement i) u c = absurd (contains_none u c)
kind_formal n (Call i) u c = absurd (contains_none u c)
kind_formal n (ActualIn i slot) u c = absurd (contains_none u c)
kind_formal n (ActualOut i slot) u c = absurd (contains_none u c)

of_formal : (f n : ℕ) (x : Vertex) (u : Formal) → Contains (formal_of f n x) u → (x ≡ in_function f (FormalIn (Argument u.place))) × (u.vertex ≡ n)
of_formal f n x u c =
    let both = if_contains (x.function == f) (formal_at n x.kind) u c in
    let same = same_number x.function f both.0 in
    let is = kind_formal n x.kind u both.1 in
    (ap (λ h. in_function h x.kind) same ∙ ap (λ k. in_function f k) is.0, is.1)

formal_from : (f n : ℕ) (vs : List Vertex) (u : Formal) → Contains (formals_from f n vs) u → FormalFrom f n vs u
formal_from f n [] u c = absurd (contains_none u c)
formal_from f n (x ∷ vs) u c = elim (Contains-append_cases (formal_of f n x) (formals_from f (suc n) vs) u c) [
  | inl h ↦ let r = of_formal f n x u h in let e = r.1 in record { at = 0; number = omega (arith, e); vertex = ap (λ (y : Vertex). Some y) r.0 }
  | inr t ↦ let r = formal_from f (suc n) vs u t in let e = r.number in record { at = suc r.at; number = omega (arith, e); vertex = r.vertex }
]

from_formal : (f n : ℕ) (vs : List Vertex) (k v : ℕ) → IsVertex vs f (FormalIn (Argument k)) v → Contains (formals_from f n vs) (record { place = k; vertex = n + v })
from_formal f n [] k v h = cc
from_formal f n (x ∷ vs) k zero h =
    let is : x ≡ in_function f (FormalIn (Argument k)) = same_Some _ _ h in
    let u : Formal = record { place = k; vertex = n + 0 } in
    let one : Contains (formal_of f n (in_function f (FormalIn (Argument k)))) u = contains_if (f == f) _ u (number_same f) (let same : n + 0 ≡ n = omega arith in subst (λ m. let w : Formal = record { place = k; vertex = n } in let z : Formal = record { place = k; vertex = m } in Contains (w ∷ []) z) (sym same) (contains_head _ [])) in
    Contains-append_left (formal_of f n x) (formals_from f (suc n) vs) u (subst (λ y. Contains (formal_of f n y) u) (sym is) one)
from_formal f n (x ∷ vs) k (suc v) h =
    let next : suc n + v ≡ n + suc v = omega arith in
    Contains-append_right (formal_of f n x) (formals_from f (suc n) vs) _ (subst (λ m. let z : Formal = record { place = k; vertex = m } in Contains (formals_from f (suc n) vs) z) next (from_formal f (suc n) vs k v h))

-- ---- the rules of a vertex
named_is : (params : List ℕ) (named : ℕ → Bool) (n : ℕ) (u : Formal) → option_map_or named (slice_get params u.place) false ≡ true → (x : ℕ) × (slice_get params u.place ≡ Some x) × (named x ≡ true)
named_is params named n u h = by_place (slice_get params u.place) refl h
  where
    by_place : (o : Option ℕ) → slice_get params u.place ≡ o → option_map_or named o false ≡ true → (x : ℕ) × (slice_get params u.place ≡ Some x) × (named x ≡ true)
    by_place None e h = cc
    by_place (Some x) e h = (x, e, h)

is_named : (params : List ℕ) (named : ℕ → Bool) (k x : ℕ) → slice_get params k ≡ Some x → named x ≡ true → option_map_or named (slice_get params k) false ≡ true
is_named params named k x e h = ap (λ (o : Option ℕ). option_map_or named o false) e ∙ h

module _ (p : Program) (vs : List Vertex) where
  -- a rule of vertex n
  record IsRuleOf (n : ℕ) (x : Vertex) (r : Rule) : Type 0 where
    first : r.first ≡ n
    one : r.second ≡ r.first
    variable : ℕ
    number : ℕ
    parameter : slice_get (parameters p x.function) number ≡ Some variable
    named : kind_names p x.function x.kind variable ≡ true
    formal : IsVertex vs x.function (FormalIn (Argument number)) r.gives

  rule_is : (n : ℕ) (x : Vertex) (r : Rule) → Contains (vertex_rules p vs n x) r → IsRuleOf n x r
  rule_is n x r c =
      let w = contains_flat (named_rule (parameters p x.function) (kind_names p x.function x.kind) n) (formals_from x.function 0 vs) r c in
      let u = w.0 in
      let both = if_contains (option_map_or (kind_names p x.function x.kind) (slice_get (parameters p x.function) u.place) false) (one_premise n u.vertex ∷ []) r w.2 in
      let e = contains_one (one_premise n u.vertex) r both.1 in
      let named = named_is (parameters p x.function) (kind_names p x.function x.kind) n u both.0 in
      let place = formal_from x.function 0 vs u w.1 in
      let at : place.at ≡ u.vertex = (let q = place.number in omega (arith, q)) in
      record {
        first = sym (ap (λ (q : Rule). q.first) e);
        one = subst (λ (q : Rule). q.second ≡ q.first) e refl;
        variable = named.0;
        number = u.place;
        parameter = named.1;
        named = named.2;
        formal = subst (IsVertex vs x.function (FormalIn (Argument u.place))) (at ∙ ap (λ (q : Rule). q.gives) e) place.vertex;
      }

  -- a rule of some vertices, of which the first has the number n
  record RuleFrom (n : ℕ) (ws : List Vertex) (r : Rule) : Type 0 where
    at : ℕ
    vertex : Vertex
    stands : slice_get ws at ≡ Some vertex
    is_rule : IsRuleOf (n + at) vertex r

  rule_from : (n : ℕ) (ws : List Vertex) (r : Rule) → Contains (rules_from p vs n ws) r → RuleFrom n ws r
  rule_from n [] r c = absurd (contains_none r c)
  rule_from n (x ∷ ws) r c = elim (Contains-append_cases (vertex_rules p vs n x) (rules_from p vs (suc n) ws) r c) [
    | inl h ↦ let same : n ≡ n + 0 = omega arith in record { at = 0; vertex = x; stands = refl; is_rule = subst (λ m. IsRuleOf m x r) same (rule_is n x r h) }
    | inr t ↦ let w = rule_from (suc n) ws r t in let next : suc n + w.at ≡ n + suc w.at = omega arith in record { at = suc w.at; vertex = w.vertex; stands = w.stands; is_rule = subst (λ m. IsRuleOf m w.vertex r) next w.is_rule }
  ]

  only : (r : Rule) → Contains (name_rules p vs) r → NamesParameter p vs r.first r.gives
  only r c =
      let w = rule_from 0 vs r c in
      let i = w.is_rule in
      let first : w.at ≡ r.first = (let e = i.first in omega (arith, e)) in
      record {
        vertex = w.vertex;
        number = i.number;
        variable = i.variable;
        at = subst (λ n. slice_get vs n ≡ Some w.vertex) first w.stands;
        parameter = i.parameter;
        named = i.named;
        formal = i.formal;
      }

  from_rule : (n : ℕ) (ws : List Vertex) (v u : ℕ) (x : Vertex) → slice_get ws v ≡ Some x → Contains (vertex_rules p vs (n + v) x) (one_premise (n + v) u) → Contains (rules_from p vs n ws) (one_premise (n + v) u)
  from_rule n [] v u x e c = cc
  from_rule n (y ∷ ws) zero u x e c =
      let is : y ≡ x = same_Some _ _ e in
      let same : n + 0 ≡ n = omega arith in
      Contains-append_left (vertex_rules p vs n y) (rules_from p vs (suc n) ws) (one_premise (n + 0) u) (subst (λ m. Contains (vertex_rules p vs m y) (one_premise (n + 0) u)) same (subst (λ z. Contains (vertex_rules p vs (n + 0) z) (one_premise (n + 0) u)) (sym is) c))
  from_rule n (y ∷ ws) (suc v) u x e c =
      let next : suc n + v ≡ n + suc v = omega arith in
      Contains-append_right (vertex_rules p vs n y) (rules_from p vs (suc n) ws) (one_premise (n + suc v) u)
      (subst (λ m. Contains (rules_from p vs (suc n) ws) (one_premise m u)) next (from_rule (suc n) ws v u x e (subst (λ m. Contains (vertex_rules p vs m x) (one_premise m u)) (sym next) c)))

  all : (v u : ℕ) → NamesParameter p vs v u → Contains (name_rules p vs) (one_premise v u)
  all v u n =
      let f = n.vertex.function in
      let named = kind_names p f n.vertex.kind in
      let first : 0 + v ≡ v = omega arith in
      let last : 0 + u ≡ u = omega arith in
      let w : Formal = record { place = n.number; vertex = 0 + u } in
      let formal : Contains (formals_from f 0 vs) w = from_formal f 0 vs n.number u n.formal in
      let rule : Contains (vertex_rules p vs (0 + v) n.vertex) (one_premise (0 + v) (0 + u)) =
      flat_contains (named_rule (parameters p f) named (0 + v)) (formals_from f 0 vs) w (one_premise (0 + v) (0 + u)) formal
      (contains_if (option_map_or named (slice_get (parameters p f) n.number) false) (one_premise (0 + v) (0 + u) ∷ []) (one_premise (0 + v) (0 + u)) (is_named (parameters p f) named n.number n.variable n.parameter n.named) (contains_head (one_premise (0 + v) (0 + u)) [])) in
      subst (λ x. Contains (name_rules p vs) (one_premise v x)) last (subst (λ x. Contains (name_rules p vs) (one_premise x (0 + u))) first (from_rule 0 vs v (0 + u) n.vertex n.at rule))

  -- each has one premise
  pub name_rules_one : (r : Rule) → Contains (name_rules p vs) r → r.second ≡ r.first
  name_rules_one r c = (rule_from 0 vs r c).is_rule.one

  pub name_rules_are : AreNameRules p vs (name_rules p vs)
  name_rules_are = record { all = all; only = only }
