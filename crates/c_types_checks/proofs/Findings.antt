-- What a check finds, step by step: a rule that is broken, or that facts hold.
use Rattle.std.proofs.Common.{◌≡◌, ℕ, List, [], ◌∷◌, Bool, true, false, Option, Some, None, Result, Ok, Err, refl, subst, inl, inr}
use Rattle.std.specs.Prelude.{Contains, if◌then◌else◌}
use Rattle.c_tree.specs.declared.raw.expr.RawExpr.{RawExpr}
use Rattle.c_tree.specs.declared.raw.program.RawProgram.{RawProgram}
use Rattle.c_language.specs.Scopes.{Scope}
use Rattle.c_language.specs.ExprTypes.{operand}
use Rattle.c_language.specs.Uses.{expressions}
use Rattle.c_language.specs.Phrases.{Part}
use Rattle.c_language.specs.Rules.{Breaks}
use Rattle.c_language.specs.declared.expr_type.Operand.{Operand}
use Rattle.c_language.proofs.Lists.{contains_nil, contains_cons, contains_first, contains_later}
use Rattle.c_types_base.specs.Judging.{then_judge, judged}
use Rattle.c_types_checks.specs.Checking.{Verdict, unless_broken, given_or, when_given, then_kept, all_kept, judging}
use Rattle.c_types_base.proofs.JudgingLaws.{Keeps, Told, judged_truly}
use Rattle.c_types_base.proofs.PhraseLemmas.{broken_by}
use Rattle.c_types_base.proofs.TypedLaws.{IsTyped, NamesRule, judged_names}

-- a rule that is named is broken, and else the fact holds
abbrev pub Finds : (ℕ → Type 0) → Type 0 → Verdict → Type 0
Finds B K (Ok x) = K
Finds B K (Err n) = B n

module _ (B : ℕ → Type 0) where
  pub by_test : (K : Type 0) (b : Bool) (n : ℕ) (rest : Verdict) → (b ≡ false → B n) → (b ≡ true → Finds B K rest)
      → Finds B K (unless_broken b n rest)
  by_test K true n rest isnt is = is refl
  by_test K false n rest isnt is = isnt refl

  pub by_given : {A : Type 0} (K : Type 0) (n : ℕ) (f : A → Verdict) (o : Option A) → (o ≡ None → B n) → ((x : A) → o ≡ Some x → Finds B K (f x))
      → Finds B K (given_or n f o)
  by_given K n f None isnt is = isnt refl
  by_given K n f (Some x) isnt is = is x refl

  pub by_option : {A : Type 0} (K : Type 0) (f : A → Verdict) (o : Option A) → (o ≡ None → K) → ((x : A) → o ≡ Some x → Finds B K (f x))
      → Finds B K (when_given f o)
  by_option K f None isnt is = isnt refl
  by_option K f (Some x) isnt is = is x refl

  pub by_both : (J K : Type 0) (v w : Verdict) → Finds B J v → (J → Finds B K w) → Finds B K (then_kept v w)
  by_both J K (Ok x) w first second = second first
  by_both J K (Err n) w first second = first

  pub by_if : (K : Type 0) (b : Bool) (v w : Verdict) → (b ≡ true → Finds B K v) → (b ≡ false → Finds B K w) → Finds B K (if b then v else w)
  by_if K true v w is isnt = is refl
  by_if K false v w is isnt = isnt refl

  -- what is found in another way
  pub by_facts : (J K : Type 0) (v : Verdict) → (J → K) → Finds B J v → Finds B K v
  by_facts J K (Ok x) f h = f h
  by_facts J K (Err n) f h = h

  all_of : {A : Type 0} (K : A → Type 0) (x : A) (xs : List A) → K x → ((y : A) → Contains xs y → K y) → (y : A) → Contains (x ∷ xs) y → K y
  all_of K x xs first rest y c = elim (contains_cons x y xs c) [ inl is ↦ subst K is first | inr c ↦ rest y c ]

  pub by_all : {A : Type 0} (K : A → Type 0) (f : A → Verdict) (xs : List A) → ((x : A) → Contains xs x → Finds B (K x) (f x))
      → Finds B ((x : A) → Contains xs x → K x) (all_kept f xs)
  by_all K f [] each = λ x c. absurd (contains_nil x c)
  by_all {A} K f (x ∷ xs) each =
      by_both (K x) ((y : A) → Contains (x ∷ xs) y → K y) (f x) (all_kept f xs) (each x (contains_first x xs)) (λ first.
      by_facts ((y : A) → Contains xs y → K y) ((y : A) → Contains (x ∷ xs) y → K y) (all_kept f xs) (all_of K x xs first)
      (by_all K f xs (λ y c. each y (contains_later x y xs c))))

-- a phrase of the text, where all that is in scope has a type
module _ (raw : RawProgram) (scope : Scope) (part : Part) (typed : IsTyped raw scope) where
  judged_as : (K : Type 0) (e : RawExpr) (f : Operand → Verdict) (r : Result Operand ℕ) → Told raw scope e r → NamesRule r → Contains (expressions part) e
      → ((x : Operand) → operand raw scope e ≡ Some x → Keeps raw scope e → Finds (Breaks raw scope part) K (f x))
      → Finds (Breaks raw scope part) K (then_judge f r)
  judged_as K e f (Ok x) (is, keeps) some c go = go x is keeps
  judged_as K e f (Err n) b some c go = broken_by raw scope part e n c b some

  pub by_judged : (K : Type 0) (e : RawExpr) (f : Operand → Verdict) → Contains (expressions part) e
      → ((x : Operand) → operand raw scope e ≡ Some x → Keeps raw scope e → Finds (Breaks raw scope part) K (f x))
      → Finds (Breaks raw scope part) K (judging raw scope e f)
  by_judged K e f = judged_as K e f (judged raw scope e) (judged_truly raw scope e) (judged_names raw scope typed e)

-- what the check of a phrase finds: a rule that the phrase breaks, or that it breaks none
abbrev pub IsTrue : RawProgram → Scope → Part → Verdict → Type 0
IsTrue raw scope part = Finds (Breaks raw scope part) ((n : ℕ) → Breaks raw scope part n → ⊥)
