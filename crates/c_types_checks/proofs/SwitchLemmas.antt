-- The tests of the labels of a switch.
use Rattle.std.proofs.Common.{◌≡◌, ◌<◌, ◌≤◌, ℤ, List, [], ◌∷◌, true, false, Option, Some, None, refl, sym, ap, subst, ◌∙◌, arith, inl, inr}
use Rattle.std.specs.Prelude.{not, Contains, option_map}
use Rattle.std.specs.List.{list_any, cons_option}
use Rattle.std.specs.Ordering.{int_eq}
use Rattle.std.proofs.lemmas.Bool.Decides.{Decides-int_eq}
use Rattle.std.proofs.lemmas.Bool.{not-true, not-false, and_cases, and_parts}
use Rattle.c_arith.specs.declared.int_type.IntType.{IntType}
use Rattle.c_arith.specs.IntType.{convert}
use Rattle.c_tree.specs.declared.raw.expr.RawExpr.{RawExpr}
use Rattle.c_tree.specs.declared.raw.statement.RawLabel.{RawLabel}
use Rattle.c_tree.specs.declared.raw.statement.RawLabel.TheVariants as label
use Rattle.c_language.specs.ConstantEvaluation.{value_of_constant}
use Rattle.c_language.specs.SwitchRules.{HasTwo, SameCase, BothDefault, same, both}
use Rattle.c_language.specs.Uses.{cases}
use Rattle.c_language.proofs.Lists.{contains_nil, contains_cons, contains_first, contains_later}
use Rattle.c_types_checks.specs.SwitchChecks.{case_values, are_distinct, default_count}
use Rattle.c_types_base.proofs.PhraseLemmas.{clash}
use Rattle.c_types_checks.proofs.TestLemmas.{any_passes, none_passes}

-- ---- cases

in_later : (l : RawLabel) (rest : List RawLabel) (e : RawExpr) → (Contains (cases rest) e → Contains rest (label.Case e))
    → Contains (cases (l ∷ rest)) e → Contains (l ∷ rest) (label.Case e)
in_later label.Default rest e ih c = contains_later label.Default (label.Case e) rest (ih c)
in_later (label.Case f) rest e ih c = elim (contains_cons f e (cases rest) c) [
  | inl is ↦ subst (λ (g : RawExpr). Contains (label.Case f ∷ rest) (label.Case g)) is (contains_first (label.Case f) rest)
  | inr c ↦ contains_later (label.Case f) (label.Case e) rest (ih c)
]

pub case_in : (labels : List RawLabel) (e : RawExpr) → Contains (cases labels) e → Contains labels (label.Case e)
case_in [] e c = absurd (contains_nil e c)
case_in (l ∷ rest) e c = in_later l rest e (case_in rest e) c

-- ---- defaults

some_default : (labels : List RawLabel) → 0 < default_count labels → Contains labels label.Default
some_default [] h = absurd (omega (arith, h))
some_default (label.Default ∷ rest) h = contains_first label.Default rest
some_default (label.Case e ∷ rest) h = contains_later (label.Case e) label.Default rest (some_default rest h)

pub two_defaults : (labels : List RawLabel) → 2 ≤ default_count labels → HasTwo BothDefault labels
two_defaults [] h = absurd (omega (arith, h))
two_defaults (label.Default ∷ rest) h = HasTwo.first (some_default rest (omega (arith, h))) both
two_defaults (label.Case e ∷ rest) h = HasTwo.later (two_defaults rest h)

no_less : (l : RawLabel) (rest : List RawLabel) → default_count rest ≤ default_count (l ∷ rest)
no_less label.Default rest = omega arith
no_less (label.Case e) rest = omega arith

first_default : (l : RawLabel) (rest : List RawLabel) → l ≡ label.Default → 0 < default_count (l ∷ rest)
first_default l rest is = subst (λ (k : RawLabel). 0 < default_count (k ∷ rest)) (sym is) (omega arith)

default_counted : (labels : List RawLabel) → Contains labels label.Default → 0 < default_count labels
default_counted [] c = absurd (contains_nil label.Default c)
default_counted (l ∷ rest) c = elim (contains_cons l label.Default rest c) [
  | inl is ↦ first_default l rest is
  | inr c ↦ let h = default_counted rest c in let k = no_less l rest in omega (arith, h, k)
]

pub defaults_counted : (labels : List RawLabel) → HasTwo BothDefault labels → 2 ≤ default_count labels
defaults_counted [] h = elim h [ ]
defaults_counted (l ∷ rest) (HasTwo.first c both) = let h = default_counted rest c in omega (arith, h)
defaults_counted (l ∷ rest) (HasTwo.later w) = let h = defaults_counted rest w in let k = no_less l rest in omega (arith, h, k)

-- ---- equal cases

abbrev with_case : IntType → Option ℤ → List ℤ → List ℤ
with_case t o values = cons_option (option_map (λ (v : ℤ). convert v t) o) values

-- a label has the value, once it is converted
abbrev HasCase : IntType → List RawLabel → ℤ → Type 0
HasCase t labels y = (f : RawExpr) × (w : ℤ) × Contains labels (label.Case f) × (value_of_constant f ≡ Some w) × (convert w t ≡ y)

has_later : (t : IntType) (l : RawLabel) (rest : List RawLabel) (y : ℤ) → HasCase t rest y → HasCase t (l ∷ rest) y
has_later t l rest y h = (h.0, h.1, contains_later l (label.Case h.0) rest h.2, h.3, h.4)

value_first : (t : IntType) (e : RawExpr) (rest : List RawLabel) (y : ℤ) (o : Option ℤ) → value_of_constant e ≡ o
    → (Contains (case_values t rest) y → HasCase t rest y) → Contains (with_case t o (case_values t rest)) y → HasCase t (label.Case e ∷ rest) y
value_first t e rest y None is ih c = has_later t (label.Case e) rest y (ih c)
value_first t e rest y (Some v) is ih c = elim (contains_cons (convert v t) y (case_values t rest) c) [
  | inl equals ↦ (e, v, contains_first (label.Case e) rest, is, equals)
  | inr c ↦ has_later t (label.Case e) rest y (ih c)
]

value_in : (t : IntType) (labels : List RawLabel) (y : ℤ) → Contains (case_values t labels) y → HasCase t labels y
value_in t [] y c = absurd (contains_nil y c)
value_in t (label.Default ∷ rest) y c = has_later t label.Default rest y (value_in t rest y c)
value_in t (label.Case e ∷ rest) y c = value_first t e rest y (value_of_constant e) refl (value_in t rest y) c

pair_first : (t : IntType) (e : RawExpr) (rest : List RawLabel) (o : Option ℤ) → value_of_constant e ≡ o
    → (are_distinct (case_values t rest) ≡ false → HasTwo (SameCase t) rest)
    → are_distinct (with_case t o (case_values t rest)) ≡ false → HasTwo (SameCase t) (label.Case e ∷ rest)
pair_first t e rest None is ih h = HasTwo.later (ih h)
pair_first t e rest (Some v) is ih h = elim (and_cases (not (list_any (int_eq (convert v t)) (case_values t rest))) _ h) [
  | inl found ↦
      let other = any_passes (int_eq (convert v t)) (case_values t rest) (not-false _ found) in
      let at_case = value_in t rest other.0 other.1 in
      HasTwo.first at_case.2 (same is at_case.3 ((Decides-int_eq (convert v t) other.0).0 other.2 ∙ sym at_case.4))
  | inr k ↦ HasTwo.later (ih k)
]

pub two_cases : (t : IntType) (labels : List RawLabel) → are_distinct (case_values t labels) ≡ false → HasTwo (SameCase t) labels
two_cases t [] h = clash h refl
two_cases t (label.Default ∷ rest) h = HasTwo.later (two_cases t rest h)
two_cases t (label.Case e ∷ rest) h = pair_first t e rest (value_of_constant e) refl (two_cases t rest) h

value_of_first : (t : IntType) (e : RawExpr) (rest : List RawLabel) (w : ℤ) → value_of_constant e ≡ Some w
    → case_values t (label.Case e ∷ rest) ≡ convert w t ∷ case_values t rest
value_of_first t e rest w is = ap (λ (o : Option ℤ). with_case t o (case_values t rest)) is

value_later : (t : IntType) (y : ℤ) (o : Option ℤ) (values : List ℤ) → Contains values y → Contains (with_case t o values) y
value_later t y None values c = c
value_later t y (Some v) values c = contains_later (convert v t) y values c

later_value : (t : IntType) (l : RawLabel) (rest : List RawLabel) (y : ℤ) → Contains (case_values t rest) y → Contains (case_values t (l ∷ rest)) y
later_value t label.Default rest y c = c
later_value t (label.Case e) rest y c = value_later t y (value_of_constant e) (case_values t rest) c

first_value : (t : IntType) (l : RawLabel) (rest : List RawLabel) (f : RawExpr) (w : ℤ) → value_of_constant f ≡ Some w → l ≡ label.Case f
    → Contains (case_values t (l ∷ rest)) (convert w t)
first_value t l rest f w is equals =
    subst (λ (k : RawLabel). Contains (case_values t (k ∷ rest)) (convert w t)) (sym equals)
    (subst (λ (vs : List ℤ). Contains vs (convert w t)) (sym (value_of_first t f rest w is)) (contains_first (convert w t) (case_values t rest)))

value_there : (t : IntType) (labels : List RawLabel) (f : RawExpr) (w : ℤ) → value_of_constant f ≡ Some w → Contains labels (label.Case f)
    → Contains (case_values t labels) (convert w t)
value_there t [] f w is c = absurd (contains_nil (label.Case f) c)
value_there t (l ∷ rest) f w is c = elim (contains_cons l (label.Case f) rest c) [
  | inl equals ↦ first_value t l rest f w is equals
  | inr c ↦ later_value t l rest (convert w t) (value_there t rest f w is c)
]

distinct_later_value : (t : IntType) (o : Option ℤ) (values : List ℤ) → are_distinct (with_case t o values) ≡ true → are_distinct values ≡ true
distinct_later_value t None values h = h
distinct_later_value t (Some v) values h = (and_parts _ _ h).1

distinct_later : (t : IntType) (l : RawLabel) (rest : List RawLabel) → are_distinct (case_values t (l ∷ rest)) ≡ true → are_distinct (case_values t rest) ≡ true
distinct_later t label.Default rest h = h
distinct_later t (label.Case e) rest h = distinct_later_value t (value_of_constant e) (case_values t rest) h

pub no_two_cases : (t : IntType) (labels : List RawLabel) → are_distinct (case_values t labels) ≡ true → HasTwo (SameCase t) labels → ⊥
no_two_cases t [] h w = elim w [ ]
no_two_cases t (l ∷ rest) h (HasTwo.first c (same {a} {b} {v} {w} is also equal)) =
    let distinct : are_distinct (convert v t ∷ case_values t rest) ≡ true = subst (λ (vs : List ℤ). are_distinct vs ≡ true) (value_of_first t a rest v is) h in
    clash
    (none_passes (int_eq (convert v t)) (case_values t rest) (not-true _ (and_parts _ _ distinct).0) (convert w t) (value_there t rest b w also c))
    ((Decides-int_eq (convert v t) (convert w t)).1 equal)
no_two_cases t (l ∷ rest) h (HasTwo.later w) = no_two_cases t rest (distinct_later t l rest h) w
