-- An arm of a switch is taken at some value exactly where one of its labels is the first of its kind.
use Rattle.std.proofs.Common.{◌≡◌, ℕ, suc, ◌+◌, ◌<◌, ◌≤◌, ℤ, pos, negsuc, List, [], ◌∷◌, ◌⊎◌, inl, inr, Bool, true, false, arith, refl, sym, ap, ◌∙◌, subst}
use Rattle.std.specs.Prelude.{◌||◌, if◌then◌else◌}
use Rattle.std.specs.Ordering.{int_eq}
use Rattle.std.proofs.lemmas.Bool.Decides.{nat_tests}
use Rattle.std.proofs.lemmas.Bool.{or_parts, or_cases, not-true, or_from, or_left, or_right, not_from_false}
use Rattle.std.specs.List.{list_any}
use Rattle.c_tree.specs.declared.statement.Label.{Label}
use Rattle.c_tree.specs.declared.statement.Label.TheVariants as label
use Rattle.c_language.specs.Code.{Code, End, ArmPart, is_case, has_case, is_default, has_default, default_arm, case_arm, taken_arm}
use Rattle.dep_model.specs.SwitchArms.{is_first, has_first, with_labels}
use Rattle.c_language.proofs.Tests.{by_answer}

-- ---- tests

pub true_not_false : {b : Bool} {A : Type 0} → b ≡ true → b ≡ false → A
true_not_false {b} {A} t f = let e : true ≡ false = sym t ∙ f in absurd cc

-- ---- a test on labels, as whether one is a case of a value or a default

module _ (test : Label → Bool) where
  abbrev pub some : List Label → Bool
  some [] = false
  some (l ∷ ls) = test l || some ls

  pub none_with : (before ls : List Label) → some before ≡ false → some ls ≡ false → some (with_labels before ls) ≡ false
  none_with before [] b h = b
  none_with before (l ∷ ls) b h =
      let p = or_parts (test l) (some ls) h in
      none_with (l ∷ before) ls (or_from (test l) (some before) p.0 b) p.1

  pub none_before : (before ls : List Label) → some (with_labels before ls) ≡ false → (some before ≡ false) × (some ls ≡ false)
  none_before before [] h = (h, refl)
  none_before before (l ∷ ls) h =
      let p = none_before (l ∷ before) ls h in
      let q = or_parts (test l) (some before) p.0 in
      (q.1, or_from (test l) (some ls) q.0 p.1)

  -- the first label that passes is the first of its kind, if it is where none before passes
  pub first_of : ((before : List Label) (l : Label) → test l ≡ true → some before ≡ false → is_first before l ≡ true) → (before ls : List Label) → some before ≡ false → some ls ≡ true → has_first before ls ≡ true
  first_of is before [] b h = let f : false ≡ true = h in absurd cc
  first_of is before (l ∷ ls) b h =
      by_answer (test l) (λ t. or_left (is_first before l) (has_first (l ∷ before) ls) (is before l t b))
      (λ t. or_right (is_first before l) (has_first (l ∷ before) ls) (first_of is (l ∷ before) ls (or_from (test l) (some before) t b) (sym (ap (λ x. x || some ls) t) ∙ h)))

cases_are : (v : ℤ) (ls : List Label) → has_case v ls ≡ some (is_case v) ls
cases_are v [] = refl
cases_are v (l ∷ ls) = ap (λ x. is_case v l || x) (cases_are v ls)

defaults_are : (ls : List Label) → has_default ls ≡ some is_default ls
defaults_are [] = refl
defaults_are (l ∷ ls) = ap (λ x. is_default l || x) (defaults_are ls)

same_case : (n v : ℤ) → int_eq n v ≡ true → n ≡ v
same_case n v h = grind (arith, nat_tests)

case_is_first : (v : ℤ) (before : List Label) (l : Label) → is_case v l ≡ true → some (is_case v) before ≡ false → is_first before l ≡ true
case_is_first v before (label.Case e n) t b =
    not_from_false (has_case n before) (ap (λ x. has_case x before) (same_case n v t) ∙ (cases_are v before ∙ b))
case_is_first v before label.Default t b = let f : false ≡ true = t in absurd cc

default_is_first : (before : List Label) (l : Label) → is_default l ≡ true → some is_default before ≡ false → is_first before l ≡ true
default_is_first before (label.Case e n) t b = let f : false ≡ true = t in absurd cc
default_is_first before label.Default t b = not_from_false (has_default before) (defaults_are before ∙ b)

itself : (n : ℤ) → int_eq n n ≡ true
itself n = grind (arith, nat_tests)

-- what makes an arm's label the first of its kind
abbrev Kind : List Label → List Label → Type 0
Kind before ls = ((n : ℤ) × (some (is_case n) before ≡ false) × (some (is_case n) ls ≡ true)) ⊎ ((some is_default before ≡ false) × (some is_default ls ≡ true))

kind_more : (before : List Label) (l : Label) (ls : List Label) → Kind (l ∷ before) ls → Kind before (l ∷ ls)
kind_more before l ls (inl h) = inl (h.0, (or_parts (is_case h.0 l) (some (is_case h.0) before) h.1).1, or_right (is_case h.0 l) (some (is_case h.0) ls) h.2)
kind_more before l ls (inr h) = inr ((or_parts (is_default l) (some is_default before) h.0).1, or_right (is_default l) (some is_default ls) h.1)

kind_first : (before : List Label) (l : Label) (ls : List Label) → is_first before l ≡ true → Kind before (l ∷ ls)
kind_first before (label.Case e n) ls h =
    inl (n, sym (cases_are n before) ∙ not-true (has_case n before) h, or_left (int_eq n n) (some (is_case n) ls) (itself n))
kind_first before label.Default ls h = inr (sym (defaults_are before) ∙ not-true (has_default before) h, refl)

kind_of : (before ls : List Label) → has_first before ls ≡ true → Kind before ls
kind_of before [] h = let f : false ≡ true = h in absurd cc
kind_of before (l ∷ ls) h =
    elim (or_cases (is_first before l) (has_first (l ∷ before) ls) h) [ inl t ↦ kind_first before l ls t | inr t ↦ kind_more before l ls (kind_of (l ∷ before) ls t) ]

-- ---- the arms

abbrev pub some_arm_default : List ArmPart → Bool
some_arm_default = list_any (λ (a : ArmPart). has_default a.labels)

no_default : (as_ : List ArmPart) → some_arm_default as_ ≡ false → default_arm as_ ≡ End
no_default [] h = refl
no_default (a ∷ as_) h =
    let p = or_parts (has_default a.labels) (some_arm_default as_) h in
    ap (λ t. if t then a.does else default_arm as_) p.0 ∙ no_default as_ p.1

module _ (P : Code → Type 0) where
  -- P holds of an arm that is taken, where these labels stand before
  abbrev pub HoldsOfTaken : List Label → List ArmPart → Type 0
  HoldsOfTaken before [] = ⊥
  HoldsOfTaken before (a ∷ as_) = ((has_first before a.labels ≡ true) × P a.does) ⊎ HoldsOfTaken (with_labels before a.labels) as_

  if_case : (b : Bool) (x y : Code) → P (if b then x else y) → ((b ≡ true) × P x) ⊎ ((b ≡ false) × P y)
  if_case true x y h = inl (refl, h)
  if_case false x y h = inr (refl, h)

  then_case : (b : Bool) (x y : Code) → b ≡ true → P x → P (if b then x else y)
  then_case b x y e h = subst (λ t. P (if t then x else y)) (sym e) h

  else_case : (b : Bool) (x y : Code) → b ≡ false → P y → P (if b then x else y)
  else_case b x y e h = subst (λ t. P (if t then x else y)) (sym e) h

  at_case : (v : ℤ) (before : List Label) (as_ : List ArmPart) (other : Code) → some (is_case v) before ≡ false → P (case_arm as_ v other) → HoldsOfTaken before as_ ⊎ P other
  at_case v before [] other b h = inr h
  at_case v before (a ∷ as_) other b h = elim (if_case (has_case v a.labels) a.does (case_arm as_ v other) h) [
    | inl t ↦ inl (inl (first_of (is_case v) (case_is_first v) before a.labels b (sym (cases_are v a.labels) ∙ t.0), t.1))
    | inr t ↦ elim (at_case v (with_labels before a.labels) as_ other (none_with (is_case v) before a.labels b (sym (cases_are v a.labels) ∙ t.0)) t.1) [ inl u ↦ inl (inr u) | inr u ↦ inr u ]
  ]

  at_default : (before : List Label) (as_ : List ArmPart) → some is_default before ≡ false → P (default_arm as_) → HoldsOfTaken before as_ ⊎ ((some_arm_default as_ ≡ false) × P End)
  at_default before [] b h = inr (refl, h)
  at_default before (a ∷ as_) b h = elim (if_case (has_default a.labels) a.does (default_arm as_) h) [
    | inl t ↦ inl (inl (first_of is_default default_is_first before a.labels b (sym (defaults_are a.labels) ∙ t.0), t.1))
    | inr t ↦ elim (at_default (with_labels before a.labels) as_ (none_with is_default before a.labels b (sym (defaults_are a.labels) ∙ t.0)) t.1) [
      | inl u ↦ inl (inr u)
      | inr u ↦ inr (or_from (has_default a.labels) (some_arm_default as_) t.0 u.0, u.1)
    ]
  ]

  -- what holds at a value holds of an arm that is taken, or past the arms where there is no default
  pub taken_or_past : (as_ : List ArmPart) (v : ℤ) → P (taken_arm as_ v) → HoldsOfTaken [] as_ ⊎ ((some_arm_default as_ ≡ false) × P End)
  taken_or_past as_ v h = elim (at_case v [] as_ (default_arm as_) refl h) [ inl t ↦ inl t | inr t ↦ at_default [] as_ refl t ]

  pub taken_at : (as_ : List ArmPart) (v : ℤ) → P (taken_arm as_ v) → HoldsOfTaken [] as_ ⊎ P End
  taken_at as_ v h = elim (taken_or_past as_ v h) [ inl t ↦ inl t | inr t ↦ inr t.1 ]

  -- how an arm that is taken is come to
  abbrev Ways : List Label → List ArmPart → Type 0
  Ways before as_ = ((v : ℤ) × (some (is_case v) before ≡ false) × ((other : Code) → P (case_arm as_ v other))) ⊎ ((some is_default before ≡ false) × P (default_arm as_))

  ways_here : (before : List Label) (a : ArmPart) (as_ : List ArmPart) → P a.does → Kind before a.labels → Ways before (a ∷ as_)
  ways_here before a as_ h (inl k) =
      inl (k.0, k.1, λ other. then_case (has_case k.0 a.labels) a.does (case_arm as_ k.0 other) (cases_are k.0 a.labels ∙ k.2) h)
  ways_here before a as_ h (inr k) = inr (k.0, then_case (has_default a.labels) a.does (default_arm as_) (defaults_are a.labels ∙ k.1) h)

  ways_later : (before : List Label) (a : ArmPart) (as_ : List ArmPart) → Ways (with_labels before a.labels) as_ → Ways before (a ∷ as_)
  ways_later before a as_ (inl w) =
      let n = none_before (is_case w.0) before a.labels w.1 in
      inl (w.0, n.0, λ other. else_case (has_case w.0 a.labels) a.does (case_arm as_ w.0 other) (cases_are w.0 a.labels ∙ n.1) (w.2 other))
  ways_later before a as_ (inr w) =
      let n = none_before is_default before a.labels w.0 in
      inr (n.0, else_case (has_default a.labels) a.does (default_arm as_) (defaults_are a.labels ∙ n.1) w.1)

  ways_of : (before : List Label) (as_ : List ArmPart) → HoldsOfTaken before as_ → Ways before as_
  ways_of before [] h = absurd h
  ways_of before (a ∷ as_) (inl h) = ways_here before a as_ h.1 (kind_of before a.labels h.0)
  ways_of before (a ∷ as_) (inr h) = ways_later before a as_ (ways_of (with_labels before a.labels) as_ h)

-- ---- a value that no case has

abbrev above : Label → ℕ
above (label.Case e (pos k)) = suc k
above (label.Case e (negsuc k)) = 0
above label.Default = 0

abbrev bound : List Label → ℕ
bound [] = 0
bound (l ∷ ls) = above l + bound ls

abbrev bound_of : List ArmPart → ℕ
bound_of [] = 0
bound_of (a ∷ as_) = bound a.labels + bound_of as_

other_value : (k m : ℕ) → k < m → int_eq (pos k) (pos m) ≡ false
other_value k m h = grind (arith, nat_tests)

other_sign : (k m : ℕ) → int_eq (negsuc k) (pos m) ≡ false
other_sign k m = grind (arith, nat_tests)

no_case : (m : ℕ) (l : Label) → above l ≤ m → is_case (pos m) l ≡ false
no_case m (label.Case e (pos k)) h = let g : suc k ≤ m = h in other_value k m (omega (arith, g))
no_case m (label.Case e (negsuc k)) h = other_sign k m
no_case m label.Default h = refl

no_cases : (m : ℕ) (ls : List Label) → bound ls ≤ m → has_case (pos m) ls ≡ false
no_cases m [] h = refl
no_cases m (l ∷ ls) h =
    let g : above l + bound ls ≤ m = h in
    or_from (is_case (pos m) l) (has_case (pos m) ls) (no_case m l (omega (arith, g))) (no_cases m ls (omega (arith, g)))

beyond : (m : ℕ) (as_ : List ArmPart) (other : Code) → bound_of as_ ≤ m → case_arm as_ (pos m) other ≡ other
beyond m [] other h = refl
beyond m (a ∷ as_) other h =
    let g : bound a.labels + bound_of as_ ≤ m = h in
    ap (λ t. if t then a.does else case_arm as_ (pos m) other) (no_cases m a.labels (omega (arith, g))) ∙ beyond m as_ other (omega (arith, g))

-- some value leads to the default, or past the arms where there is none
pub default_value : (as_ : List ArmPart) → (v : ℤ) × (taken_arm as_ v ≡ default_arm as_)
default_value as_ = (pos (bound_of as_), beyond (bound_of as_) as_ (default_arm as_) (omega arith))

pub past_value : (as_ : List ArmPart) → some_arm_default as_ ≡ false → (v : ℤ) × (taken_arm as_ v ≡ End)
past_value as_ h = ((default_value as_).0, (default_value as_).1 ∙ no_default as_ h)

-- what holds of an arm that is taken holds at some value
pub value_taken : (P : Code → Type 0) (as_ : List ArmPart) → HoldsOfTaken P [] as_ → (v : ℤ) × P (taken_arm as_ v)
value_taken P as_ h = elim (ways_of P [] as_ h) [
  | inl w ↦ (w.0, w.2 (default_arm as_))
  | inr w ↦ ((default_value as_).0, subst P (sym (default_value as_).1) w.1)
]
