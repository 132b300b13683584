-- A draw keeps the rule of the board.
use Rattle.std.proofs.Common.{sym, add-one, ◌≡◌, ℕ, suc, ◌+◌, ◌%◌, ◌^◌, ◌<◌, ◌≤◌, min, Bool, true, false, cond, eqb, List, [], ◌∷◌, get_or, set, refl, ap, ◌∙◌, arith, ⊎_elim, mod-eq_of_lt}
use Rattle.std.specs.Prelude.{slice_index}
use Rattle.std.proofs.lemmas.Bool.{cases_lt}
use mathlib.Core.Option.{some, none}
use lib.ListN.{get_elem?}
use Rattle.atomic_table.specs.Table.{State, Me, step, keeps, Allows}
use Rattle.crew.specs.declared.view.View.{View}
use Rattle.crew.specs.Counts.{Has, times, once_below, one_if, total}
use Rattle.crew.specs.Views.{Fits, drawn_view, done_view, weight, open_weight}
use Rattle.crew.specs.Machine.{Event, Putting}
use Rattle.crew.specs.Shows.{shown}
use Rattle.crew.specs.Steps.{Drew}
use Rattle.crew.specs.Rule.{IsBoard}
use Rattle.crew.proofs.CountLemmas.{total_set, total_has, total_le, times_append, once_past}
use Rattle.crew.proofs.Changes.{Fit, changed}
use Rattle.crew.proofs.Shown.{is_worker, shows_draw, shows_end, reached_more}

open_le : (a b : Bool) (n : ℕ) → cond a (cond b 0 n) 0 ≤ cond a n 0
open_le true true n = omega arith
open_le true false n = omega arith
open_le false b n = omega arith

module _ {S T : Type 0} (True? : T → ℕ → Type 0) (May : T → Putting) (t : T) (start : List ℕ) (end_ : ℕ) where
  abbrev Kept : State S (View T) → Type 0
  Kept s = IsBoard True? May t start end_ s

  -- the draw word is below the end: the number is drawn
  drawn_fits : (s : State S (View T)) (k : Kept s) (id : ℕ) (v : View T) → get_elem? s.views id ≡ some v → v.live ≡ true → v.done ≡ false → k.draws < end_
      → Fit True? May t start end_ s k id v (drawn_view v k.draws) (suc k.draws) k.facts
  drawn_fits s k id v at live going low =
      let d = k.draws in
      let v' = drawn_view v d in
      let fits = k.each id v at in
      let named = fits.named live in
      record {
        long = k.long;
        only_true = k.only_true;
        more = λ w i. omega arith;
        gained = λ w i. refl;
        later = omega arith;
        drew = λ x.
            let a = times_append x v.drawn (d ∷ []) in
            let m : min d end_ ≡ d = omega arith in
            let m' : min (suc d) end_ ≡ suc d = omega arith in
            let e : once_below x (min d end_) ≡ once_below x d = ap (λ y. once_below x y) m in
            let e' : once_below x (min (suc d) end_) ≡ once_below x d + one_if (eqb x d) = ap (λ y. once_below x y) m' in
            omega arith;
        fits = record {
          named = λ l. record { truth = named.truth; opening = named.opening; end_is = named.end_is; seen_long = named.seen_long; set_long = named.set_long };
          spent = λ l. absurd (cc);
          seen = fits.seen;
          done = λ e. absurd (cc);
        };
        weight_is = refl;
        room =
            let p = total_set weight s.views id v v' at in
            let h = k.spare in
            let l = total_le open_weight weight (set s.views id v') (λ (u : View T). open_le u.live u.done (u.spare + 1)) in
            omega arith;
        reached = reached_more (May t) end_ start _ _ (Event.draws id) k.reached (is_worker s.views id v at live)
            (shows_draw end_ d k.facts s.views id v at low ∙ ap (λ x. shown x k.facts (set s.views id v')) (add-one d));
      }

  -- the draw word is at or past the end: the seat is done
  done_fits : (s : State S (View T)) (k : Kept s) (id : ℕ) (v : View T) → get_elem? s.views id ≡ some v → v.live ≡ true → v.done ≡ false → end_ ≤ k.draws
      → Fit True? May t start end_ s k id v (done_view v) (suc k.draws) k.facts
  done_fits s k id v at live going high =
      let d = k.draws in
      let v' = done_view v in
      let fits = k.each id v at in
      let named = fits.named live in
      record {
        long = k.long;
        only_true = k.only_true;
        more = λ w i. omega arith;
        gained = λ w i. refl;
        later = omega arith;
        drew = λ x.
            let m : min d end_ ≡ min (suc d) end_ = omega arith in
            let e : once_below x (min d end_) ≡ once_below x (min (suc d) end_) = ap (λ y. once_below x y) m in
            omega arith;
        fits = record {
          named = λ l. record { truth = named.truth; opening = named.opening; end_is = named.end_is; seen_long = named.seen_long; set_long = named.set_long };
          spent = λ l. absurd (cc);
          seen = fits.seen;
          done = λ e. omega arith;
        };
        weight_is = refl;
        room =
            let open_is : open_weight v ≡ v.spare + 1 = rw (live, going) refl in
            let none_is : open_weight v' ≡ 0 = rw live refl in
            let p = total_set open_weight s.views id v v' at in
            let h = k.room in
            omega arith;
        reached = reached_more (May t) end_ start _ _ (Event.draws id) k.reached (is_worker s.views id v at live)
            (shows_end end_ d k.facts s.views id v at high ∙ ap (λ x. shown x k.facts (set s.views id v')) (add-one d));
      }

  pub draws_one : (slots id : ℕ) (v : View T) (c : List (ℕ × S)) → v.live ≡ true → v.done ≡ false
      → Allows Kept slots id (v, c) 0 (λ n. (n + 1) % 2 ^ 64) (Drew (step slots 0 1 0 none) (v, c))
  draws_one slots id v c live going s k homes at small =
      let n = slice_index s.words 0 in
      let d = k.draws in
      let n_is : n ≡ d = ap (λ (ws : List ℕ). get_or ws 0 0) k.words_are in
      let end_is : v.end ≡ end_ = ((k.each id v at).named live).end_is in
      let open_is : open_weight v ≡ v.spare + 1 = rw (live, going) refl in
      let room = k.room in
      let has = total_has open_weight s.views id v at in
      let short = k.short in
      let d_is : (n + 1) % 2 ^ 64 ≡ suc d = mod-eq_of_lt (omega arith) ∙ omega arith in
      let words_are : set s.words 0 ((n + 1) % 2 ^ 64) ≡ suc d ∷ k.facts = ap (λ (ws : List ℕ). set ws 0 ((n + 1) % 2 ^ 64)) k.words_are ∙ ap (λ x. x ∷ k.facts) d_is in
      let above : (x : ℕ) → Has v.drawn x → x < n = λ x h.
      ⊎_elim (λ low. low) (λ (past : n ≤ x).
      let a = total_has (λ (u : View T). times x u.drawn) s.views id v at in
      let b = k.drawn x in
      let z = once_past x (min d end_) (omega arith) in
      absurd (omega arith)) (cases_lt x n) in
      ⊎_elim
      (λ (low : d < end_).
      let v' = drawn_view v d in (
        v',
        keeps,
        tt,
        changed True? May t start end_ s k id v v' _ (suc d) k.facts at words_are (drawn_fits s k id v at live going low),
        record { drawn = λ h. ap (λ (x : ℕ). (drawn_view v x, c)) (sym n_is); done = λ h. absurd (omega arith); above = above },
      ))
      (λ (high : end_ ≤ d).
      let v' = done_view v in (
        v',
        keeps,
        tt,
        changed True? May t start end_ s k id v v' _ (suc d) k.facts at words_are (done_fits s k id v at live going high),
        record { drawn = λ h. absurd (omega arith); done = λ h. refl; above = above },
      ))
      (cases_lt d end_)
