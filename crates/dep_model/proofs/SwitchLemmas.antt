-- Labels and arms of a switch, one after another.
use Rattle.std.proofs.Common.{◌≡◌, ℕ, zero, suc, ◌+◌, ◌<◌, ◌≤◌, List, [], ◌∷◌, ◌++◌, length, take, drop, get_or, Bool, append-nil, arith, refl, sym, ap, ◌∙◌}
use Rattle.std.specs.Prelude.{◌||◌}
use Rattle.std.proofs.lemmas.List.{drop_all}
use Rattle.c_tree.specs.declared.statement.Arm.{Arm}
use Rattle.c_tree.specs.declared.statement.Label.{Label}
use Rattle.dep_model.specs.declared.switch_arms.Labels.{Labels}
use Rattle.dep_model.specs.SwitchArms.{is_first, has_first, with_labels, taken_from, AreSeen}
use Rattle.c_language.proofs.Tests.{or_none, or_assoc}

-- one label more
pub with_more : (before ls : List Label) (i : ℕ) (l : Label) → i < length ls → get_or ls i l ≡ l → with_labels before (take (i + 1) ls) ≡ l ∷ with_labels before (take i ls)
with_more before [] i l lt is = absurd (omega (arith, lt))
with_more before (x ∷ ls) zero l lt is = ap (λ y. y ∷ before) is
with_more before (x ∷ ls) (suc i) l lt is =
    let k : suc i + 1 ≡ suc (i + 1) = omega arith in
    ap (λ (k : ℕ). with_labels before (take k (x ∷ ls))) k ∙ with_more (x ∷ before) ls i l (omega (arith, lt)) is

pub first_more : (before ls : List Label) (i : ℕ) (l : Label) → i < length ls → get_or ls i l ≡ l → has_first before (take (i + 1) ls) ≡ (has_first before (take i ls) || is_first (with_labels before (take i ls)) l)
first_more before [] i l lt is = absurd (omega (arith, lt))
first_more before (x ∷ ls) zero l lt is = or_none (is_first before x) ∙ ap (is_first before) is
first_more before (x ∷ ls) (suc i) l lt is =
    let k : suc i + 1 ≡ suc (i + 1) = omega arith in
    ap (λ (k : ℕ). has_first before (take k (x ∷ ls))) k ∙ ap (λ y. is_first before x || y) (first_more (x ∷ before) ls i l (omega (arith, lt)) is)
    ∙ sym (or_assoc (is_first before x) (has_first (x ∷ before) (take i ls)) (is_first (with_labels (x ∷ before) (take i ls)) l))

-- the arms up to one of them were looked at
pub record AreTakenSoFar (arms : List Arm) (i : ℕ) (seen : Labels) (taken : List Bool) : Type 0 where
  pub before : List Label
  pub are_seen : AreSeen before seen
  pub rest : taken ++ taken_from before (drop i arms) ≡ taken_from [] arms

pub taken_all : {arms : List Arm} {i : ℕ} {seen : Labels} {taken : List Bool} → length arms ≤ i → AreTakenSoFar arms i seen taken → taken ≡ taken_from [] arms
taken_all {arms} {i} {seen} {taken} le h = sym (append-nil taken) ∙ ap (λ xs. taken ++ taken_from h.before xs) (sym (drop_all i arms le)) ∙ h.rest

pub length-taken : (before : List Label) (arms : List Arm) → length (taken_from before arms) ≡ length arms
length-taken before [] = refl
length-taken before (a ∷ arms) = ap suc (length-taken (with_labels before a.labels) arms)
