-- Which vertex names which parameter can be listed, as rules of a closure.
use Rattle.std.proofs.Common.{◌≡◌, ℕ, ◌<◌, ◌⊎◌, inl, inr, List, length, Bool, true, refl, sym, ◌∙◌, subst}
use Rattle.std.specs.Prelude.{Contains}
use Rattle.std.proofs.lemmas.Bool.{cases_Bool, false≢true}
use Rattle.std.proofs.lemmas.Option.{slice_get_within}
use Rattle.c_tree.specs.declared.program.Program.{Program}
use Rattle.rule_closure.specs.declared.closure.Rule.{Rule}
use Rattle.rule_closure.specs.Rules.{IsRuleWithin}
use Rattle.dep_model.specs.declared.vertex.Slot.TheVariants.{Argument}
use Rattle.dep_model.specs.declared.vertex.Vertex.{Vertex}
use Rattle.dep_model.specs.declared.vertex.VertexKind.TheVariants.{FormalIn}
use Rattle.dep_model.specs.MayPoint.{parameters}
use Rattle.dep_model.specs.NamedParameters.{NamesParameter, kind_names}
use Rattle.dep_model.specs.SystemGraph.{IsVertex}
use Rattle.dep_model.specs.VertexOrder.{in_function}
use Rattle.dep_model.proofs.CompletionLemmas.{AreNames}
use Rattle.dep_model.proofs.Membership.{in_of_contains, contains_of_in}
use Rattle.sdg.proofs.KindTests.{same_kind, is_formal_in_of}
use Rattle.listed_graphs.proofs.CallEdges.{is_or_not}
use Rattle.listed_graphs.proofs.Listings.{Listing, At, at_place, below, where_so, only}

-- where v is in a set, u belongs there
abbrev one_premise : ℕ → ℕ → Rule
one_premise v u = record { first = v; second = v; gives = u }

true_or_not : (b : Bool) → (b ≡ true) ⊎ (b ≡ true → ⊥)
true_or_not b = elim (cases_Bool b) [ inl yes_ ↦ inl yes_ | inr off ↦ inr (λ h. false≢true (sym off ∙ h)) ]

module _ (p : Program) (vs : List Vertex) where
  abbrev n : ℕ
  n = length vs

  -- the rule from v to a formal-in of parameter k of the function
  abbrev ToFormal : ℕ → Vertex → ℕ → ℕ → Rule → Type 0
  ToFormal v x k u r = IsVertex vs x.function (FormalIn (Argument k)) u × (r ≡ one_premise v u)

  -- where its words name the variable
  abbrev OfVariable : ℕ → Vertex → ℕ → ℕ → Rule → Type 0
  OfVariable v x k y r = (kind_names p x.function x.kind y ≡ true) × ((u : ℕ) × (u < n) × ToFormal v x k u r)

  abbrev OfParameter : ℕ → Vertex → ℕ → Rule → Type 0
  OfParameter v x k r = At (OfVariable v x k) (parameters p x.function) k r

  abbrev OfVertex : ℕ → Vertex → Rule → Type 0
  OfVertex v x r = (k : ℕ) × (k < length (parameters p x.function)) × OfParameter v x k r

  abbrev OfNumber : ℕ → Rule → Type 0
  OfNumber v r = At (OfVertex v) vs v r

  abbrev IsName : Rule → Type 0
  IsName r = (v : ℕ) × (v < n) × OfNumber v r

  found : Listing IsName
  found =
      below OfNumber n (λ v lt. at_place (OfVertex v) vs v lt (λ x.
      below (OfParameter v x) (length (parameters p x.function)) (λ k low. at_place (OfVariable v x k) (parameters p x.function) k low (λ y.
      where_so (kind_names p x.function x.kind y ≡ true) (λ r. (u : ℕ) × (u < n) × ToFormal v x k u r) (true_or_not (kind_names p x.function x.kind y)) (λ named.
      below (ToFormal v x k) n (λ u high. where_so (IsVertex vs x.function (FormalIn (Argument k)) u) (λ r. r ≡ one_premise v u)
      (is_or_not vs x.function (FormalIn (Argument k)) (λ q. same_kind q (FormalIn (Argument k))) (λ q. is_formal_in_of q (Argument k)) u) (λ h. only (one_premise v u))))))))

  pub names : List Rule
  names = found.items

  -- a rule of the list, by what it says
  is_name : (r : Rule) → Contains names r → IsName r
  unfolding names
  is_name r c = (found.exact r).0 (in_of_contains found.items r c)

  name_is : (r : Rule) → IsName r → Contains names r
  unfolding names
  name_is r h = contains_of_in found.items r ((found.exact r).1 h)

  all : (v u : ℕ) → NamesParameter p vs v u → Contains names (one_premise v u)
  all v u w =
      let x = w.vertex in
      let formal = FormalIn (Argument w.number) in
      name_is (one_premise v u) (v, slice_get_within vs v x w.at, (x, w.at, (w.number, slice_get_within (parameters p x.function) w.number w.variable w.parameter, (w.variable, w.parameter, (w.named, (u, slice_get_within vs u (in_function x.function formal) w.formal, (w.formal, refl)))))))

  said : (r : Rule) (h : IsName r) → NamesParameter p vs r.first r.gives × (r.second ≡ r.first)
  said r (v, lt, (x, at, (k, low, (y, parameter, (named, (u, high, (formal, is))))))) =
      subst (λ (q : Rule). NamesParameter p vs q.first q.gives × (q.second ≡ q.first)) (sym is)
      (record { vertex = x; number = k; variable = y; at = at; parameter = parameter; named = named; formal = formal }, refl)

  pub names_are : AreNames (NamesParameter p vs) names
  names_are = record { all = all; only = λ r c. (said r (is_name r c)).0 }

  pub name_within : (r : Rule) → Contains names r → IsRuleWithin n r
  name_within r c =
      let h = said r (is_name r c) in
      let w = h.0 in
      let first : r.first < n = slice_get_within vs r.first w.vertex w.at in
      record {
        first_in = first;
        second_in = subst (λ k. k < n) (sym h.1) first;
        gives_in = slice_get_within vs r.gives (in_function w.vertex.function (FormalIn (Argument w.number))) w.formal;
      }
