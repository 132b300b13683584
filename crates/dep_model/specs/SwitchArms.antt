-- Which arms of a switch some value of its test takes (ISO C99 6.8.4.2).
use Rattle.std.specs.Prelude.{◌≡◌, ℤ, Bool, false, ◌||◌, not, List, [], ◌∷◌}
use Rattle.std.specs.Ordering.{int_cmp}
use Rattle.std.specs.BTreeSet as set
use Rattle.c_tree.specs.declared.statement.Arm.{Arm}
use Rattle.c_tree.specs.declared.statement.Label.{Label}
use Rattle.c_tree.specs.declared.statement.Label.TheVariants as label
use Rattle.c_language.specs.Code.{has_case, has_default}
use Rattle.dep_model.specs.declared.switch_arms.Labels.{Labels}

-- none of the labels before it has its value, or is a default as it is
abbrev pub is_first : List Label → Label → Bool
is_first before (label.Case e n) = not (has_case n before)
is_first before label.Default = not (has_default before)

-- one of an arm's labels is the first of its kind
abbrev pub has_first : List Label → List Label → Bool
has_first before [] = false
has_first before (l ∷ ls) = is_first before l || has_first (l ∷ before) ls

-- labels before, and those of an arm
abbrev pub with_labels : List Label → List Label → List Label
with_labels before [] = before
with_labels before (l ∷ ls) = with_labels (l ∷ before) ls

-- for each arm, whether it is taken
abbrev pub taken_from : List Label → List Arm → List Bool
taken_from before [] = []
taken_from before (a ∷ as_) = has_first before a.labels ∷ taken_from (with_labels before a.labels) as_

abbrev pub taken : List Arm → List Bool
taken = taken_from []

-- these labels were seen
pub record AreSeen (before : List Label) (seen : Labels) : Type 0 where
  pub cases : (n : ℤ) → set.contains int_cmp seen.cases n ≡ has_case n before
  pub default_ : seen.has_default ≡ has_default before
