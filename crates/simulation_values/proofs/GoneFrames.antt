-- The variables that activations can name, where some begin or are gone in a program, and those of them that stay in its slice.
use Rattle.std.proofs.Common.{◌≡◌, ℕ, ◌==◌, List, [], ◌∷◌, Option, None, Bool, true, false, ◌||◌, if◌then◌else◌, refl, sym, ap, ◌∙◌, subst, eqb-true, eq-eqb}
use Rattle.std.specs.List.{list_any}
use Rattle.c_language.proofs.Tests.{by_answer, false_true}
use Rattle.c_meaning.specs.Values.{State, bound, variable_closed, all_closed}
use Rattle.projection.specs.Kept.{Kept}
use Rattle.projection.specs.Projection.{if_so}
use Rattle.simulation.specs.Renaming.{World, BothStand, neither, FramesStand, Names}
use Rattle.simulation_places.specs.ProjectedCode.{Numbering, renamed_all}
use Rattle.simulation_places.specs.Counterparts.{AreApart, names_of}

-- a variable that doesn't stay begins or is gone in the original alone
pub frames_alone : (names : Names) (w : World) (x : ℕ) (b : Option ℕ) (here there : ℕ → Option ℕ) → names.stays x ≡ false → FramesStand names w here there → FramesStand names w (bound here x b) there
frames_alone names w x b here there e h y stays = by_name (x == y) refl
  where
    by_name : (same : Bool) → (x == y) ≡ same → BothStand names w (if same then b else here y) (there (names.variable y))
    by_name true same = false_true (sym e ∙ (ap names.stays (eqb-true x y same) ∙ stays))
    by_name false same = h y stays

module _ (k : Kept ℕ) (new : Numbering) (apart : AreApart (names_of k new)) where
  all_kept : (x : ℕ) (xs : List ℕ) → k.variable x ≡ true → renamed_all k new (x ∷ xs) ≡ new.variable x ∷ renamed_all k new xs
  all_kept x xs e = ap (λ b. if_so b (new.variable x ∷ renamed_all k new xs) (renamed_all k new xs)) e

  all_dropped : (x : ℕ) (xs : List ℕ) → k.variable x ≡ false → renamed_all k new (x ∷ xs) ≡ renamed_all k new xs
  all_dropped x xs e = ap (λ b. if_so b (new.variable x ∷ renamed_all k new xs) (renamed_all k new xs)) e

  module _ (w : World) where
    -- one that stays is gone in both
    frames_gone : (x : ℕ) (here there : ℕ → Option ℕ) → k.variable x ≡ true → FramesStand (names_of k new) w here there → FramesStand (names_of k new) w (bound here x None) (bound there (new.variable x) None)
    frames_gone x here there e h y stays = by_name (x == y) refl (new.variable x == new.variable y) refl
      where
        by_name : (b : Bool) → (x == y) ≡ b → (c : Bool) → (new.variable x == new.variable y) ≡ c → BothStand (names_of k new) w (if b then None else here y) (if c then None else there (new.variable y))
        by_name true same true same_there = neither
        by_name true same false same_there = false_true (sym same_there ∙ eq-eqb (new.variable x) (new.variable y) (ap new.variable (eqb-true x y same)))
        by_name false same true same_there = false_true (sym same ∙ eq-eqb x y (apart x y e stays (eqb-true (new.variable x) (new.variable y) same_there)))
        by_name false same false same_there = h y stays

    pub frames_close : (xs : List ℕ) (m n : State) → FramesStand (names_of k new) w m.frame n.frame → FramesStand (names_of k new) w (all_closed xs m).frame (all_closed (renamed_all k new xs) n).frame
    frames_close [] m n h = h
    frames_close (x ∷ xs) m n h =
        by_answer (k.variable x)
        (λ s. subst (λ ys. FramesStand (names_of k new) w (all_closed (x ∷ xs) m).frame (all_closed ys n).frame) (sym (all_kept x xs s)) (frames_close xs (variable_closed x m) (variable_closed (new.variable x) n) (frames_gone x m.frame n.frame s h)))
        (λ s. subst (λ ys. FramesStand (names_of k new) w (all_closed (x ∷ xs) m).frame (all_closed ys n).frame) (sym (all_dropped x xs s)) (frames_close xs (variable_closed x m) n (frames_alone (names_of k new) w x None m.frame n.frame s h)))

    -- where none of them stays
    pub frames_close_alone : (xs : List ℕ) (m n : State) → list_any k.variable xs ≡ false → FramesStand (names_of k new) w m.frame n.frame → FramesStand (names_of k new) w (all_closed xs m).frame n.frame
    frames_close_alone [] m n e h = h
    frames_close_alone (x ∷ xs) m n e h =
        by_answer (k.variable x) (λ s. false_true (sym e ∙ ap (λ b. b || list_any k.variable xs) s)) (λ s. frames_close_alone xs (variable_closed x m) n (sym (ap (λ b. b || list_any k.variable xs) s) ∙ e) (frames_alone (names_of k new) w x None m.frame n.frame s h))
