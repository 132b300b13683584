-- The labels of a switch, one by one.
use Rattle.std.proofs.Common.{◌≡◌, ℤ, List, [], ◌∷◌, Bool, true, false, cond, Option, Some, refl, sym, ap, ◌∙◌}
use Rattle.std.specs.Prelude.{not, ◌&&◌, ◌||◌}
use Rattle.std.specs.List.{list_any, cons_option}
use Rattle.std.specs.Ordering.{int_eq}
use Rattle.c_arith.specs.declared.int_type.IntType.{IntType}
use Rattle.c_tree.specs.declared.raw.statement.RawLabel.{RawLabel}
use Rattle.c_types_checks.specs.SwitchChecks.{case_values, are_distinct, value_of_case, none_passes, are_apart}

sooner : (e b a m : Bool) → (not (cond e true b) && (not a && m)) ≡ (not (e || a) && (not b && m))
sooner true true a m = refl
sooner true false a m = refl
sooner false true true m = refl
sooner false true false m = refl
sooner false false a m = refl

passed : (b m a d : Bool) → ((not b && m) && (not a && d)) ≡ (not b && ((not a && m) && d))
passed true m a d = refl
passed false true true d = refl
passed false true false d = refl
passed false false true d = refl
passed false false false d = refl

module _ (test new : ℤ → Bool) (z : ℤ) (more : (y : ℤ) → new y ≡ cond (int_eq z y) true (test y)) where
  none_more : (zs : List ℤ) → none_passes new zs ≡ (not (list_any (int_eq z) zs) && none_passes test zs)
  none_more [] = refl
  none_more (y ∷ ys) =
      ap (λ (b : Bool). not b && none_passes new ys) (more y) ∙ ap (λ (b : Bool). not (cond (int_eq z y) true (test y)) && b) (none_more ys)
      ∙ sooner (int_eq z y) (test y) (list_any (int_eq z) ys) (none_passes test ys)

  pub apart_more : (zs : List ℤ) → are_apart test (z ∷ zs) ≡ (not (test z) && are_apart new zs)
  apart_more zs =
      passed (test z) (none_passes test zs) (list_any (int_eq z) zs) (are_distinct zs)
      ∙ ap (λ (b : Bool). not (test z) && (b && are_distinct zs)) (sym (none_more zs))

-- a label with a value
pub apart_added : (test new : ℤ → Bool) (t : IntType) (l : RawLabel) (rest : List RawLabel) (z : ℤ) (is_new : Bool) → Some z ≡ value_of_case t l
    → is_new ≡ not (test z) → ((y : ℤ) → new y ≡ cond (int_eq z y) true (test y))
    → are_apart test (case_values t (l ∷ rest)) ≡ (is_new && are_apart new (case_values t rest))
apart_added test new t l rest z is_new some is more =
    ap (λ (o : Option ℤ). are_apart test (cons_option o (case_values t rest))) (sym some)
    ∙ apart_more test new z more (case_values t rest) ∙ ap (λ (b : Bool). b && are_apart new (case_values t rest)) (sym is)

none_there : (test : ℤ → Bool) → ((y : ℤ) → test y ≡ false) → (zs : List ℤ) → none_passes test zs ≡ true
none_there test none [] = refl
none_there test none (z ∷ zs) = ap (λ (b : Bool). not b && none_passes test zs) (none z) ∙ none_there test none zs

-- before the first value
pub apart_at_first : (test : ℤ → Bool) → ((y : ℤ) → test y ≡ false) → (zs : List ℤ) → are_distinct zs ≡ are_apart test zs
apart_at_first test none zs = ap (λ (b : Bool). b && are_distinct zs) (sym (none_there test none zs))
