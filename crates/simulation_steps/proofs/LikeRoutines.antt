-- The variables of a kept function of a slice are among those of the original that stay.
use Rattle.std.proofs.Common.{◌≡◌, ℕ, suc, ◌+◌, List, [], ◌∷◌, ◌++◌, Option, Some, Bool, true, false, ◌&&◌, if◌then◌else◌, inl, inr, refl, sym, ap, ◌∙◌, subst, arith}
use Rattle.std.specs.Prelude.{slice_get}
use Rattle.std.specs.Option.{option_map_or}
use Rattle.c_tree.specs.declared.program.Program.{Program}
use Rattle.c_meaning.specs.Activations.{Routine, executable, variables_at}
use Rattle.dep_model.specs.SystemGraph.{Analysis}
use Rattle.dep_model.proofs.Membership.{IsIn, in_of_get, in_first, in_second, in_either, of_map}
use Rattle.projection.specs.Kept.{Kept, chosen}
use Rattle.projection.specs.Projection.{if_so}
use Rattle.run_facts.specs.Effects.{parameters_at}
use Rattle.simulation_places.specs.ProjectedCode.{Numbering, renamed_all}
use Rattle.simulation_places.specs.Counterparts.{names_of}
use Rattle.simulation_steps.specs.LikeCalls.{AreLikeRoutines, none, routine, HasLikeCalls}
use Rattle.simulation_steps.proofs.Closing.{AreAmong}

-- a member that is chosen stands in the list at a place that passes the test
pub record IsChosen {A : Type 0} (test : ℕ → Bool) (n : ℕ) (xs : List A) (x : A) : Type 0 where
  pub place : ℕ
  pub stands : slice_get xs place ≡ Some x
  pub passes : test (n + place) ≡ true

pub chosen_member : {A : Type 0} (test : ℕ → Bool) (n : ℕ) (xs : List A) (x : A) → IsIn (chosen test n xs) x → IsChosen test n xs x
chosen_member test n [] x i = absurd i
chosen_member test n (y ∷ xs) x i = by_test (test n) refl i (λ j. later (chosen_member test (suc n) xs x j))
  where
    later : IsChosen test (suc n) xs x → IsChosen test n (y ∷ xs) x
    later h = let same : suc n + h.place ≡ n + suc h.place = omega arith in record { place = suc h.place; stands = h.stands; passes = ap test (sym same) ∙ h.passes }

    by_test : (b : Bool) → test n ≡ b → IsIn (if b then y ∷ chosen test (suc n) xs else chosen test (suc n) xs) x → (IsIn (chosen test (suc n) xs) x → IsChosen test n (y ∷ xs) x) → IsChosen test n (y ∷ xs) x
    by_test true e (inl is) more = let same : n + 0 ≡ n = omega arith in record { place = 0; stands = ap Some is; passes = ap test same ∙ e }
    by_test true e (inr j) more = more j
    by_test false e j more = more j

module _ (k : Kept ℕ) (new : Numbering) where
  -- a variable of a list that stays
  pub renamed_member : (xs : List ℕ) (y : ℕ) → IsIn (renamed_all k new xs) y → (x : ℕ) × (k.variable x ≡ true) × (new.variable x ≡ y) × IsIn xs x
  renamed_member [] y i = absurd i
  renamed_member (x ∷ xs) y i = by_test (k.variable x) refl i (λ j. let h = renamed_member xs y j in (h.0, h.1, h.2, inr h.3))
    where
      by_test : (b : Bool) → k.variable x ≡ b → IsIn (if_so b (new.variable x ∷ renamed_all k new xs) (renamed_all k new xs)) y → (IsIn (renamed_all k new xs) y → (z : ℕ) × (k.variable z ≡ true) × (new.variable z ≡ y) × IsIn (x ∷ xs) z) → (z : ℕ) × (k.variable z ≡ true) × (new.variable z ≡ y) × IsIn (x ∷ xs) z
      by_test true e (inl is) more = (x, e, is, inl refl)
      by_test true e (inr j) more = more j
      by_test false e j more = more j

  pub are_among : (xs : List ℕ) → AreAmong (names_of k new) xs (renamed_all k new xs)
  are_among xs y i = renamed_member xs y i

  pub member_renamed : (xs : List ℕ) (x : ℕ) → IsIn xs x → k.variable x ≡ true → IsIn (renamed_all k new xs) (new.variable x)
  member_renamed [] x i e = absurd i
  member_renamed (y ∷ xs) x (inl same) e =
      subst (λ b. IsIn (if_so b (new.variable y ∷ renamed_all k new xs) (renamed_all k new xs)) (new.variable x)) (sym (ap k.variable same ∙ e)) (inl (ap new.variable same))
  member_renamed (y ∷ xs) x (inr i) e = by_test (k.variable y) (member_renamed xs x i e)
    where
      by_test : (b : Bool) → IsIn (renamed_all k new xs) (new.variable x) → IsIn (if_so b (new.variable y ∷ renamed_all k new xs) (renamed_all k new xs)) (new.variable x)
      by_test true j = inr j
      by_test false j = j

module _ (p q : Program) (a : Analysis) (k : Kept ℕ) (new : Numbering) (kept : List Bool) (like : HasLikeCalls p q a k new kept) where
  abbrev variables_in : Option Routine → List ℕ
  variables_in o = option_map_or (λ (r : Routine). r.params ++ r.locals) o []

  -- a parameter that a kept function keeps stays
  pub parameter_stays : (g n x : ℕ) → k.function g ≡ true → slice_get (parameters_at (executable p) g) n ≡ Some x → k.variable x ≡ k.parameter g n
  parameter_stays g n x e is = like.parameters g n x is ∙ ap (λ b. b && k.parameter g n) e

  abbrev Found : Routine → ℕ → Type 0
  Found here y = (x : ℕ) × (k.variable x ≡ true) × (new.variable x ≡ y) × IsIn (here.params ++ here.locals) x

  among_routines : (g : ℕ) → k.function g ≡ true → (o u : Option Routine) → slice_get (executable p).functions g ≡ o → AreLikeRoutines k new g o u → AreAmong (names_of k new) (variables_in o) (variables_in u)
  among_routines g e o u is none y i = absurd i
  among_routines g e o u is (routine {here = here} {there = there} h) y i =
      elim (in_either there.params there.locals y i) [
        | inl j ↦ of_params (of_map new.variable (chosen (k.parameter g) 0 here.params) y (subst (λ xs. IsIn xs y) h.params_are j))
        | inr j ↦ of_locals (renamed_member k new here.locals y (subst (λ xs. IsIn xs y) h.locals_are j))
      ]
    where
      of_params : (x : ℕ) × IsIn (chosen (k.parameter g) 0 here.params) x × (new.variable x ≡ y) → Found here y
      of_params t =
          let c = chosen_member (k.parameter g) 0 here.params t.0 t.1 in
          let at : slice_get (parameters_at (executable p) g) c.place ≡ Some t.0 = ap (λ r. slice_get (option_map_or (λ (z : Routine). z.params) r []) c.place) is ∙ c.stands in
          let same : 0 + c.place ≡ c.place = omega arith in
          (t.0, parameter_stays g c.place t.0 e at ∙ (ap (k.parameter g) (sym same) ∙ c.passes), t.2, in_first here.params here.locals t.0 (in_of_get here.params c.place t.0 c.stands))

      of_locals : (x : ℕ) × (k.variable x ≡ true) × (new.variable x ≡ y) × IsIn here.locals x → Found here y
      of_locals t = (t.0, t.1, t.2, in_second here.params here.locals t.0 t.3)

  pub among_variables : (g : ℕ) → k.function g ≡ true → AreAmong (names_of k new) (variables_at (executable p) g) (variables_at (executable q) (new.function g))
  among_variables g e =
      among_routines g e (slice_get (executable p).functions g) (slice_get (executable q).functions (new.function g)) refl (like.routines g e)
