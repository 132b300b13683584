-- A statement's number tells its function, and what it does.
use Rattle.std.proofs.Common.{◌≡◌, ℕ, zero, suc, ◌+◌, ◌<◌, ◌≤◌, inl, inr, List, [], ◌∷◌, ◌++◌, length, slice_get, Bool, true, false, Option, Some, None, refl, sym, ap, ◌∙◌, subst, arith}
use Rattle.std.proofs.lemmas.Option.{same_Some, slice_get_within}
use Rattle.std.specs.Prelude.{if◌then◌else◌}
use Rattle.std.specs.List.{find}
use Rattle.std.proofs.lemmas.Bool.Decides.{Decides-eqb}
use Rattle.c_language.proofs.Tests.{false_true}
use Rattle.c_tree.specs.declared.program.Function.{Function}
use Rattle.c_tree.specs.declared.program.Program.{Program}
use Rattle.dep_model.specs.Doings.{Doing, doing_number, body_doings, functions_doings, program_doings, doings_of}
use Rattle.dep_model.specs.VertexOrder.{has_number, doing_at}
use Rattle.dep_model.proofs.Membership.{IsIn, in_first, in_second}
use Rattle.shaped_graphs.proofs.KindLaws.{AreApart}
use Rattle.shaped_graphs.proofs.NumberLaws.{of_some, of_none}
use Rattle.shaped_graphs.proofs.VertexLaws.{nowhere, at_of_in, at_first, at_second}

-- what stands in the first of two lists, and in the second, has two numbers
never_both : {A : Type 0} (ds es : List Doing) (d e : Doing) → AreApart (ds ++ es) → IsIn ds d → IsIn es e → doing_number d ≡ doing_number e → A
never_both ds es d e apart m n same =
    let v = at_of_in ds d m in
    let w = at_of_in es e n in
    let low = slice_get_within ds v.0 d v.1 in
    let place = apart v.0 (length ds + w.0) d e (at_first ds es v.0 d v.1) (at_second ds es w.0 e w.1) same in
    absurd (omega (arith, low, place))

later_apart : (ds es : List Doing) → AreApart (ds ++ es) → AreApart es
later_apart ds es apart v w d e at at' equal =
    let same = apart (length ds + v) (length ds + w) d e (at_second ds es v d at) (at_second ds es w e at') equal in
    omega (arith, same)

among : (gs : List Function) (f : ℕ) (g : Function) (d : Doing) → slice_get gs f ≡ Some g → IsIn (body_doings g.body) d → IsIn (functions_doings gs) d
among [] f g d at m = nowhere f g at
among (k ∷ gs) zero g d at m = in_first (body_doings k.body) (functions_doings gs) d (subst (λ (x : Function). IsIn (body_doings x.body) d) (sym (same_Some _ _ at)) m)
among (k ∷ gs) (suc f) g d at m = in_second (body_doings k.body) (functions_doings gs) d (among gs f g d at m)

one_owner : (gs : List Function) (f h : ℕ) (g k : Function) (d e : Doing) → AreApart (functions_doings gs) → slice_get gs f ≡ Some g → slice_get gs h ≡ Some k → IsIn (body_doings g.body) d → IsIn (body_doings k.body) e → doing_number d ≡ doing_number e → f ≡ h
one_owner [] f h g k d e apart at at' m n same = nowhere f g at
one_owner (x ∷ gs) zero zero g k d e apart at at' m n same = refl
one_owner (x ∷ gs) zero (suc h) g k d e apart at at' m n same =
    never_both (body_doings x.body) (functions_doings gs) d e apart (subst (λ (y : Function). IsIn (body_doings y.body) d) (sym (same_Some _ _ at)) m) (among gs h k e at' n) same
one_owner (x ∷ gs) (suc f) zero g k d e apart at at' m n same =
    never_both (body_doings x.body) (functions_doings gs) e d apart (subst (λ (y : Function). IsIn (body_doings y.body) e) (sym (same_Some _ _ at')) n) (among gs f g d at m) (sym same)
one_owner (x ∷ gs) (suc f) (suc h) g k d e apart at at' m n same =
    ap suc (one_owner gs f h g k d e (later_apart (body_doings x.body) (functions_doings gs) apart) at at' m n same)

-- ---- statements by their numbers

pub record IsFound {A : Type 0} (test : A → Bool) (xs : List A) : Type 0 where
  pub value : A
  pub found : find test xs ≡ Some value
  pub member : IsIn xs value
  pub passing : test value ≡ true

pub find_in : {A : Type 0} (test : A → Bool) (xs : List A) (x : A) → IsIn xs x → test x ≡ true → IsFound test xs
find_in test [] x m h = absurd m
find_in test (y ∷ ys) x m h = by_test (test y) refl (λ n. find_in test ys x n h) m
  where
    by_test : (b : Bool) → test y ≡ b → (IsIn ys x → IsFound test ys) → IsIn (y ∷ ys) x → IsFound test (y ∷ ys)
    by_test true q later n = record { value = y; found = ap (λ (c : Bool). if c then Some y else find test ys) q; member = inl refl; passing = q }
    by_test false q later (inl same) = false_true (sym q ∙ ap test same ∙ h)
    by_test false q later (inr n) =
        let w = later n in
        record { value = w.value; found = ap (λ (c : Bool). if c then Some y else find test ys) q ∙ w.found; member = inr w.member; passing = w.passing }

module _ (p : Program) where
  -- the function of a statement
  pub record HasFunction (f : ℕ) (d : Doing) : Type 0 where
    pub function : Function
    pub at : slice_get p.functions f ≡ Some function
    pub member : IsIn (body_doings function.body) d

  pub function_of : (f : ℕ) (d : Doing) → IsIn (doings_of p f) d → HasFunction f d
  function_of f d m = by_function (slice_get p.functions f) refl
    where
      by_function : (o : Option Function) → slice_get p.functions f ≡ o → HasFunction f d
      by_function None h = absurd (subst (λ (ds : List Doing). IsIn ds d) (of_none p f h) m)
      by_function (Some g) h = record { function = g; at = h; member = subst (λ (ds : List Doing). IsIn ds d) (of_some p f g h) m }

  -- statements of one number are one statement of one function
  pub same_doing : AreApart (program_doings p) → (f h : ℕ) (d e : Doing) → IsIn (doings_of p f) d → IsIn (doings_of p h) e → doing_number d ≡ doing_number e → (f ≡ h) × (d ≡ e)
  same_doing apart f h d e m n same =
      let x = function_of f d m in
      let y = function_of h e n in
      let v = at_of_in (program_doings p) d (among p.functions f x.function d x.at x.member) in
      let w = at_of_in (program_doings p) e (among p.functions h y.function e y.at y.member) in
      let place : v.0 ≡ w.0 = apart v.0 w.0 d e v.1 w.1 same in
      (one_owner p.functions f h x.function y.function d e apart x.at y.at x.member y.member same, same_Some _ _ (sym v.1 ∙ ap (slice_get (program_doings p)) place ∙ w.1))

  -- the statement of a function with its number
  pub doing_found : AreApart (program_doings p) → (f : ℕ) (d : Doing) → IsIn (doings_of p f) d → doing_at p f (doing_number d) ≡ Some d
  doing_found apart f d m =
      let w = find_in (has_number (doing_number d)) (doings_of p f) d m ((Decides-eqb (doing_number d) (doing_number d)).1 refl) in
      w.found ∙ ap Some (same_doing apart f f w.value d w.member m ((Decides-eqb (doing_number w.value) (doing_number d)).0 w.passing)).1

  -- a statement of a function is one of the program
  pub in_program : (f : ℕ) (d : Doing) → IsIn (doings_of p f) d → IsIn (program_doings p) d
  in_program f d m = let x = function_of f d m in among p.functions f x.function d x.at x.member
