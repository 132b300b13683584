-- Parameters among the functions of a program: which variable is one, and which is one still.
use Rattle.std.proofs.Common.{◌≡◌, ℕ, zero, suc, ◌+◌, ◌==◌, inl, inr, List, [], ◌∷◌, slice_get, Bool, true, false, ◌&&◌, ◌||◌, Option, Some, None, refl, sym, ap, ◌∙◌, subst, arith}
use Rattle.std.specs.Prelude.{if◌then◌else◌}
use Rattle.std.specs.Option.{option_map_or}
use Rattle.std.proofs.lemmas.Bool.{and_parts, and_from, or_cases, or_left, or_right}
use Rattle.std.proofs.lemmas.Bool.Decides.{Decides-eqb}
use Rattle.std.proofs.lemmas.Option.{same_Some}
use Rattle.c_language.proofs.Tests.{false_true}
use Rattle.c_tree.specs.declared.program.Function.{Function}
use Rattle.c_tree.specs.declared.program.Program.{Program}
use Rattle.dep_model.specs.MayPoint.{parameters}
use Rattle.projection.specs.Kept.{chosen}
use Rattle.projection.specs.KeptVertices.{is_among, is_taken, is_taken_still}
use Rattle.shaped_graphs.proofs.VertexLaws.{nowhere}

-- ---- numbers among numbers

pub among_at : (xs : List ℕ) (n x : ℕ) → slice_get xs n ≡ Some x → is_among xs x ≡ true
among_at [] n x h = nowhere n x h
among_at (y ∷ ys) zero x h = or_left (y == x) (is_among ys x) ((Decides-eqb y x).1 (same_Some _ _ h))
among_at (y ∷ ys) (suc n) x h = or_right (y == x) (is_among ys x) (among_at ys n x h)

pub at_among : (xs : List ℕ) (x : ℕ) → is_among xs x ≡ true → (n : ℕ) × (slice_get xs n ≡ Some x)
at_among [] x h = false_true h
at_among (y ∷ ys) x h = elim (or_cases (y == x) (is_among ys x) h) [
  | inl a ↦ (zero, ap Some ((Decides-eqb y x).0 a))
  | inr b ↦ let w = at_among ys x b in (suc w.0, w.1)
]

-- a number among those that are chosen
pub record IsChosen (test : ℕ → Bool) (k : ℕ) (xs : List ℕ) (x : ℕ) : Type 0 where
  pub place : ℕ
  pub at : slice_get xs place ≡ Some x
  pub passing : test (k + place) ≡ true

pub chosen_at : (test : ℕ → Bool) (k : ℕ) (xs : List ℕ) (n x : ℕ) → slice_get xs n ≡ Some x → test (k + n) ≡ true → is_among (chosen test k xs) x ≡ true
chosen_at test k [] n x h t = nowhere n x h
chosen_at test k (y ∷ ys) zero x h t =
    let e : k + 0 ≡ k = omega arith in
    let here : test k ≡ true = subst (λ (m : ℕ). test m ≡ true) e t in
    ap (λ (b : Bool). is_among (if b then y ∷ chosen test (suc k) ys else chosen test (suc k) ys) x) here ∙ or_left (y == x) _ ((Decides-eqb y x).1 (same_Some _ _ h))
chosen_at test k (y ∷ ys) (suc n) x h t =
    let e : k + suc n ≡ suc k + n = omega arith in
    by_test (test k) (chosen_at test (suc k) ys n x h (subst (λ (m : ℕ). test m ≡ true) e t))
  where
    by_test : (b : Bool) → is_among (chosen test (suc k) ys) x ≡ true → is_among (if b then y ∷ chosen test (suc k) ys else chosen test (suc k) ys) x ≡ true
    by_test true r = or_right (y == x) _ r
    by_test false r = r

pub at_chosen : (test : ℕ → Bool) (k : ℕ) (xs : List ℕ) (x : ℕ) → is_among (chosen test k xs) x ≡ true → IsChosen test k xs x
at_chosen test k [] x h = false_true h
at_chosen test k (y ∷ ys) x h = by_test (test k) refl (λ r. at_chosen test (suc k) ys x r) h
  where
    later : IsChosen test (suc k) ys x → IsChosen test k (y ∷ ys) x
    later w = let e : suc k + w.place ≡ k + suc w.place = omega arith in record { place = suc w.place; at = w.at; passing = subst (λ (m : ℕ). test m ≡ true) e w.passing }

    by_test : (b : Bool) → test k ≡ b → (is_among (chosen test (suc k) ys) x ≡ true → IsChosen test (suc k) ys x) → is_among (if b then y ∷ chosen test (suc k) ys else chosen test (suc k) ys) x ≡ true → IsChosen test k (y ∷ ys) x
    by_test true q more r = elim (or_cases (y == x) (is_among (chosen test (suc k) ys) x) r) [
      | inl a ↦ let e : k ≡ k + 0 = omega arith in record { place = 0; at = ap Some ((Decides-eqb y x).0 a); passing = subst (λ (m : ℕ). test m ≡ true) e q }
      | inr b ↦ later (more b)
    ]
    by_test false q more r = later (more r)

-- ---- parameters among functions

-- a variable is this parameter of this function
pub record IsParameter (cs : List Function) (f n x : ℕ) : Type 0 where
  pub function : Function
  pub at : slice_get cs f ≡ Some function
  pub parameter : slice_get function.params n ≡ Some x

pub record IsTakenBy (cs : List Function) (x : ℕ) : Type 0 where
  pub function : ℕ
  pub place : ℕ
  pub is : IsParameter cs function place x

pub taken_by : (cs : List Function) (x : ℕ) → is_taken cs x ≡ true → IsTakenBy cs x
taken_by [] x h = false_true h
taken_by (c ∷ cs) x h = elim (or_cases (is_among c.params x) (is_taken cs x) h) [
  | inl a ↦ let w = at_among c.params x a in record { function = 0; place = w.0; is = record { function = c; at = refl; parameter = w.1 } }
  | inr b ↦ let w = taken_by cs x b in record { function = suc w.function; place = w.place; is = record { function = w.is.function; at = w.is.at; parameter = w.is.parameter } }
]

pub taken_there : (cs : List Function) (f n x : ℕ) → IsParameter cs f n x → is_taken cs x ≡ true
taken_there [] f n x w = nowhere f w.function w.at
taken_there (c ∷ cs) zero n x w = or_left (is_among c.params x) _ (among_at c.params n x (ap (λ (g : Function). slice_get g.params n) (same_Some _ _ w.at) ∙ w.parameter))
taken_there (c ∷ cs) (suc f) n x w = or_right (is_among c.params x) _ (taken_there cs f n x (record { function = w.function; at = w.at; parameter = w.parameter }))

module _ (function : ℕ → Bool) (parameter : ℕ → ℕ → Bool) where
  -- by a function that stays, which keeps the parameter; the first of the functions has this number
  pub record IsTakenStill (k : ℕ) (cs : List Function) (x : ℕ) : Type 0 where
    pub number : ℕ
    pub place : ℕ
    pub is : IsParameter cs number place x
    pub function_stays : function (k + number) ≡ true
    pub parameter_stays : parameter (k + number) place ≡ true

  pub still_there : (k : ℕ) (cs : List Function) (f n x : ℕ) → IsParameter cs f n x → function (k + f) ≡ true → parameter (k + f) n ≡ true → is_taken_still function parameter k cs x ≡ true
  still_there k [] f n x w g q = nowhere f w.function w.at
  still_there k (c ∷ cs) zero n x w g q =
      let e : k + 0 ≡ k = omega arith in
      let z : 0 + n ≡ n = omega arith in
      let here : slice_get c.params n ≡ Some x = ap (λ (h : Function). slice_get h.params n) (same_Some _ _ w.at) ∙ w.parameter in
      or_left (function k && is_among (chosen (parameter k) 0 c.params) x) _
      (and_from (function k) _ (subst (λ (m : ℕ). function m ≡ true) e g) (chosen_at (parameter k) 0 c.params n x here (ap (parameter k) z ∙ subst (λ (m : ℕ). parameter m n ≡ true) e q)))
  still_there k (c ∷ cs) (suc f) n x w g q =
      let e : k + suc f ≡ suc k + f = omega arith in
      or_right (function k && is_among (chosen (parameter k) 0 c.params) x) _
      (still_there (suc k) cs f n x (record { function = w.function; at = w.at; parameter = w.parameter }) (subst (λ (m : ℕ). function m ≡ true) e g) (subst (λ (m : ℕ). parameter m n ≡ true) e q))

  pub there_still : (k : ℕ) (cs : List Function) (x : ℕ) → is_taken_still function parameter k cs x ≡ true → IsTakenStill k cs x
  there_still k [] x h = false_true h
  there_still k (c ∷ cs) x h = elim (or_cases (function k && is_among (chosen (parameter k) 0 c.params) x) (is_taken_still function parameter (suc k) cs x) h) [
    | inl a ↦
        let b = and_parts (function k) (is_among (chosen (parameter k) 0 c.params) x) a in
        let w = at_chosen (parameter k) 0 c.params x b.1 in
        let e : k ≡ k + 0 = omega arith in
        let z : 0 + w.place ≡ w.place = omega arith in
        record {
          number = 0;
          place = w.place;
          is = record { function = c; at = refl; parameter = w.at };
          function_stays = subst (λ (m : ℕ). function m ≡ true) e b.0;
          parameter_stays = subst (λ (m : ℕ). parameter m w.place ≡ true) e (ap (parameter k) (sym z) ∙ w.passing);
        }
    | inr b ↦
        let w = there_still (suc k) cs x b in
        let e : suc k + w.number ≡ k + suc w.number = omega arith in
        record {
          number = suc w.number;
          place = w.place;
          is = record { function = w.is.function; at = w.is.at; parameter = w.is.parameter };
          function_stays = subst (λ (m : ℕ). function m ≡ true) e w.function_stays;
          parameter_stays = subst (λ (m : ℕ). parameter m w.place ≡ true) e w.parameter_stays;
        }
  ]

-- ---- of a program

module _ (p : Program) (f n x : ℕ) where
  pub parameter_is : slice_get (parameters p f) n ≡ Some x → IsParameter p.functions f n x
  parameter_is h = by_function (slice_get p.functions f) refl h
    where
      by_function : (o : Option Function) → slice_get p.functions f ≡ o → slice_get (parameters p f) n ≡ Some x → IsParameter p.functions f n x
      by_function None at h = nowhere n x (sym (ap (λ (o : Option Function). slice_get (option_map_or (λ (g : Function). g.params) o []) n) at) ∙ h)
      by_function (Some c) at h = record { function = c; at = at; parameter = sym (ap (λ (o : Option Function). slice_get (option_map_or (λ (g : Function). g.params) o []) n) at) ∙ h }

  pub is_parameter_of : IsParameter p.functions f n x → slice_get (parameters p f) n ≡ Some x
  is_parameter_of w = ap (λ (o : Option Function). slice_get (option_map_or (λ (g : Function). g.params) o []) n) w.at ∙ w.parameter
