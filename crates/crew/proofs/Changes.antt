-- The rule of a board stays true where one view changes, if what changes fits together.
use Rattle.std.proofs.Common.{◌≡◌, ℕ, ◌+◌, ◌<◌, ◌≤◌, min, List, ◌∷◌, length, set, subst, arith, ⊎_elim}
use mathlib.Core.Option.{some}
use lib.ListN.{get_elem?}
use Rattle.atomic_table.specs.Table.{State}
use Rattle.atomic_table.proofs.Lists.{at_set}
use Rattle.crew.specs.declared.view.View.{View}
use Rattle.crew.specs.Counts.{total, times, once_below}
use Rattle.crew.specs.SharedWords.{Holds, bit}
use Rattle.crew.specs.Views.{Fits, weight, open_weight}
use Rattle.crew.specs.Machine.{Putting, IsReached}
use Rattle.crew.specs.Shows.{shown}
use Rattle.crew.specs.Rule.{IsBoard}
use Rattle.crew.proofs.CountLemmas.{total_set}

module _ {T : Type 0} (t : T) (start : List ℕ) (end_ : ℕ) where
  fits_more : (d d' : ℕ) (f f' : List ℕ) (v : View T) → Fits t start end_ d f v → d ≤ d' → ((w i : ℕ) → bit f w i ≤ bit f' w i) → Fits t start end_ d' f' v
  fits_more d d' f f' v h later more = record {
    named = h.named;
    spent = h.spent;
    seen = λ w i. let a = h.seen w i in let b = more w i in omega arith;
    done = λ e. let a = h.done e in omega arith;
  }

  -- each view fits where the words gained bits and one view was changed to one that fits
  pub each_after : (d d' : ℕ) (f f' : List ℕ) (views : List (View T)) (id : ℕ) (v' : View T)
      → ((j : ℕ) (u : View T) → get_elem? views j ≡ some u → Fits t start end_ d f u)
      → d ≤ d' → ((w i : ℕ) → bit f w i ≤ bit f' w i) → Fits t start end_ d' f' v'
      → (j : ℕ) (u : View T) → get_elem? (set views id v') j ≡ some u → Fits t start end_ d' f' u
  each_after d d' f f' views id v' old later more new j u at = ⊎_elim
      (λ p. subst (λ (x : View T). Fits t start end_ d' f' x) p.1 new)
      (λ q. fits_more d d' f f' u (old j u q.1) later more)
      (at_set views id j v' u at)

module _ {S T : Type 0} (True? : T → ℕ → Type 0) (May : T → Putting) (t : T) (start : List ℕ) (end_ : ℕ) where
  -- the draw word, the fact words and one view change together
  pub record Fit (s : State S (View T)) (k : IsBoard True? May t start end_ s) (id : ℕ) (v v' : View T) (draws : ℕ) (facts : List ℕ) : Type 0 where
    pub long : length facts ≡ length start
    pub only_true : (n : ℕ) → Holds facts n → True? t n
    pub more : (w i : ℕ) → bit k.facts w i ≤ bit facts w i
    pub gained : (w i : ℕ) → bit facts w i + bit v.set w i ≡ bit k.facts w i + bit v'.set w i
    pub later : k.draws ≤ draws
    pub drew : (x : ℕ) → once_below x (min draws end_) + times x v.drawn ≡ once_below x (min k.draws end_) + times x v'.drawn
    pub fits : Fits t start end_ draws facts v'
    pub weight_is : weight v' ≡ weight v
    pub room : draws + total open_weight (set s.views id v') ≤ end_ + 16
    pub reached : IsReached (May t) end_ start (shown draws facts (set s.views id v'))

  pub changed : (s : State S (View T)) (k : IsBoard True? May t start end_ s) (id : ℕ) (v v' : View T) (ws : List ℕ) (draws : ℕ) (facts : List ℕ)
      → get_elem? s.views id ≡ some v → ws ≡ draws ∷ facts → Fit s k id v v' draws facts
      → IsBoard True? May t start end_ (record { words = ws; homes = s.homes; views = set s.views id v' })
  changed s k id v v' ws draws facts at words_are f = record {
    short = k.short;
    draws = draws;
    facts = facts;
    words_are = words_are;
    long = f.long;
    only_true = f.only_true;
    counted = λ w i.
        let p = total_set (λ (u : View T). bit u.set w i) s.views id v v' at in
        let h = k.counted w i in
        let g = f.gained w i in
        omega arith;
    each = each_after t start end_ k.draws draws k.facts facts s.views id v' k.each f.later f.more f.fits;
    drawn = λ x.
        let p = total_set (λ (u : View T). times x u.drawn) s.views id v v' at in
        let h = k.drawn x in
        let g = f.drew x in
        omega arith;
    spare = let p = total_set weight s.views id v v' at in let h = k.spare in let w = f.weight_is in omega arith;
    room = f.room;
    reached = f.reached;
  }

  -- the room stays where as many may still draw as before
  pub same_room : (s : State S (View T)) (k : IsBoard True? May t start end_ s) (id : ℕ) (v v' : View T)
      → get_elem? s.views id ≡ some v → open_weight v' ≡ open_weight v → k.draws + total open_weight (set s.views id v') ≤ end_ + 16
  same_room s k id v v' at same = let p = total_set open_weight s.views id v v' at in let h = k.room in omega arith
