-- A look and a put keep the rule of the board.
use Rattle.std.proofs.Common.{◌≡◌, ℕ, suc, ◌+◌, ◌*◌, ◌^◌, ◌<◌, ◌≤◌, true, List, length, get_or, set, sym, refl, ap, ◌∙◌, subst, arith, ⊎_elim, Some}
use Rattle.std.specs.Prelude.{bit_or, slice_index}
use Rattle.std.specs.Int.{bit_at}
use Rattle.std.proofs.lemmas.List.{length-set}
use Rattle.std.proofs.lemmas.Nat.Bits.{bit_at_or, bit_at-lt}
use Rattle.std.proofs.lemmas.Bool.{cases_eq}
use mathlib.Core.Option.{some, none}
use lib.ListN.{get_elem?}
use Rattle.atomic_table.specs.Table.{State, Me, step, keeps, Allows}
use Rattle.crew.specs.declared.view.View.{View}
use Rattle.crew.specs.Counts.{total, times}
use Rattle.crew.specs.SharedWords.{Holds, bit, new_bits}
use Rattle.crew.specs.Views.{Fits, looked_view, put_view}
use Rattle.crew.specs.Machine.{Event, Worker, Putting, MayPutBits}
use Rattle.crew.specs.Shows.{shown}
use Rattle.crew.specs.Steps.{IsFound, Looked, Put}
use Rattle.crew.specs.Rule.{IsBoard}
use Rattle.crew.proofs.CountLemmas.{total_has}
use Rattle.crew.proofs.BitLemmas.{bit_here, bit_else, bit_set_le, set_get, new_bit, bit_put_le, put_facts, bit_is_fact, low_place, within_bit, within_bits}
use Rattle.crew.proofs.Changes.{Fit, changed, same_room}
use Rattle.crew.proofs.Shown.{read_worker, is_worker, shows_look, shows_put, reached_more}

-- a step on a word of the table, told of its fact word
module _ {S T : Type 0} (True? : T → ℕ → Type 0) where
  pub looked_word : (slots i w : ℕ) → i ≡ suc w → (me after : Me S (View T)) (n : ℕ) → Looked True? (step slots i 0 0 none) me n after → IsFound True? me.0 w n
  looked_word slots i w e me after n h = (subst (λ (j : ℕ). Looked True? (step slots j 0 0 none) me n after) e h).word

  pub put_word : (slots i w bits : ℕ) → i ≡ suc w → (me after : Me S (View T)) (n : ℕ) → Put True? (step slots i bits 0 none) me n after → IsFound True? me.0 w n
  put_word slots i w bits e me after n h = (subst (λ (j : ℕ). Put True? (step slots j bits 0 none) me n after) e h).word

  pub put_seen : (slots i w bits : ℕ) → i ≡ suc w → (me after : Me S (View T)) (n : ℕ) → Put True? (step slots i bits 0 none) me n after
      → after.0.seen ≡ set me.0.seen w (bit_or (slice_index me.0.seen w) bits)
  put_seen slots i w bits e me after n h = ap (λ (x : Me S (View T)). x.0.seen) (subst (λ (j : ℕ). Put True? (step slots j bits 0 none) me n after) e h).view

-- what the truth says of putting
module _ {T : Type 0} (True? : T → ℕ → Type 0) (May : T → Putting) (t : T) where
  abbrev pub IsSound : Type 0
  IsSound = (drawn known : List ℕ) (n : ℕ) → ((m : ℕ) → Holds known m → True? t m) → May t drawn known n → True? t n

  abbrev pub MayAll : View T → ℕ → ℕ → Type 0
  MayAll v w bits = (i : ℕ) → bit_at bits i ≡ 1 → v.truth ≡ Some t → May t v.drawn v.seen (64 * w + i)

module _ {S T : Type 0} (True? : T → ℕ → Type 0) (May : T → Putting) (t : T) (start : List ℕ) (end_ : ℕ) where
  abbrev Kept : State S (View T) → Type 0
  Kept s = IsBoard True? May t start end_ s

  found_word : (s : State S (View T)) → Kept s → (id : ℕ) (v : View T) → get_elem? s.views id ≡ some v → v.live ≡ true → (w : ℕ)
      → slice_index s.words (suc w) < 2 ^ 64 → IsFound True? v w (slice_index s.words (suc w))
  found_word s k id v at live w small =
      let fits = k.each id v at in
      let named = fits.named live in
      let x = slice_index s.words (suc w) in
      let x_is : x ≡ slice_index k.facts w = ap (λ (ws : List ℕ). get_or ws (suc w) 0) k.words_are in
      let x_bit = λ (i : ℕ). ap (λ y. bit_at y i) x_is in
      let set_le : (i : ℕ) → bit v.set w i + bit v.opening w i ≤ bit_at x i = λ i.
      let c = k.counted w i in
      let h = total_has (λ (u : View T). bit u.set w i) s.views id v at in
      let o : bit v.opening w i ≡ bit start w i = ap (λ (l : List ℕ). bit l w i) named.opening in
      let b = x_bit i in
      omega arith in
      record {
        only_true = λ t' i e b.
            let same : t ≡ t' = cc in
            subst (λ y. True? y (64 * w + i)) same (k.only_true (64 * w + i) (bit_is_fact k.facts w i (low_place x i small b) (sym (x_bit i) ∙ b)));
        has_seen = within_bit (slice_index v.seen w) x (λ i. let a = fits.seen w i in let b = x_bit i in omega arith);
        has_set = within_bit (slice_index v.set w) x (λ i. let a = set_le i in omega arith);
        has_opening = within_bit (slice_index v.opening w) x (λ i. let a = set_le i in omega arith);
      }

  look_at : (slots id : ℕ) (v : View T) (c : List (ℕ × S)) (w : ℕ) → v.live ≡ true
      → Allows Kept slots id (v, c) (suc w) (λ n. n) (Looked True? (step slots (suc w) 0 0 none) (v, c))
  look_at slots id v c w live s k homes at small =
      let n = slice_index s.words (suc w) in
      let fits = k.each id v at in
      let named = fits.named live in
      let v' = looked_view v w n in
      let n_is : n ≡ get_or k.facts w 0 = ap (λ (ws : List ℕ). get_or ws (suc w) 0) k.words_are in
      let seen_is : (q i : ℕ) → q ≡ w → bit_at n i ≤ bit k.facts q i = λ q i e.
      let p : bit_at n i ≡ bit k.facts w i = ap (λ x. bit_at x i) n_is in
      let r : bit k.facts q i ≡ bit k.facts w i = ap (λ x. bit k.facts x i) e in
      omega arith in
      let fits' : Fits t start end_ k.draws k.facts v' = record {
        named = λ l. record { truth = named.truth; opening = named.opening; end_is = named.end_is; seen_long = length-set v.seen w n ∙ named.seen_long; set_long = named.set_long };
        spent = λ l. absurd (cc);
        seen = λ q i. bit_set_le v.seen w n q i (bit k.facts q i) (fits.seen q i) (seen_is q i);
        done = fits.done;
      } in
      let shows = shows_look end_ k.draws k.facts s.views id w v at ∙ ap (λ x. shown k.draws k.facts (set s.views id (looked_view v w x))) (sym n_is) in
      let fit : Fit True? May t start end_ s k id v v' k.draws k.facts = record {
        long = k.long;
        only_true = k.only_true;
        more = λ q i. omega arith;
        gained = λ q i. refl;
        later = omega arith;
        drew = λ x. refl;
        fits = fits';
        weight_is = refl;
        room = same_room True? May t start end_ s k id v v' at refl;
        reached = reached_more (May t) end_ start _ _ (Event.looks id w) k.reached (is_worker s.views id v at live) shows;
      } in (
        v',
        keeps,
        tt,
        changed True? May t start end_ s k id v v' _ k.draws k.facts at (set_get s.words (suc w) ∙ k.words_are) fit,
        record { view = refl; word = found_word s k id v at live w small },
      )

  pub looks : (slots id : ℕ) (v : View T) (c : List (ℕ × S)) (i w : ℕ) → i ≡ suc w → v.live ≡ true
      → Allows Kept slots id (v, c) i (λ n. n) (Looked True? (step slots i 0 0 none) (v, c))
  looks slots id v c i w e live = subst (λ (j : ℕ). Allows Kept slots id (v, c) j (λ n. n) (Looked True? (step slots j 0 0 none) (v, c))) (sym e) (look_at slots id v c w live)

  put_at : (slots id : ℕ) (v : View T) (c : List (ℕ × S)) (w bits : ℕ) → v.live ≡ true → w < length start → bits < 2 ^ 64 → MayAll True? May t v w bits → IsSound True? May t
      → Allows Kept slots id (v, c) (suc w) (λ n. bit_or n bits) (Put True? (step slots (suc w) bits 0 none) (v, c))
  put_at slots id v c w bits live inside small_bits may sound s k homes at small =
      let n = slice_index s.words (suc w) in
      let fits = k.each id v at in
      let named = fits.named live in
      let v' = put_view v w bits n in
      let n_is : n ≡ get_or k.facts w 0 = ap (λ (ws : List ℕ). get_or ws (suc w) 0) k.words_are in
      let facts' = set k.facts w (bit_or n bits) in
      let in_facts : w < length k.facts = let l = k.long in omega arith in
      let in_set : w < length v.set = let l = named.set_long in omega arith in
      let n_bit = λ (i : ℕ). ap (λ x. bit_at x i) n_is in
      let here = λ (i : ℕ). bit_here k.facts w (bit_or n bits) i in_facts in
      let more : (q i : ℕ) → bit k.facts q i ≤ bit facts' q i = λ q i. bit_put_le k.facts w n bits q i n_is in
      let knows : (m : ℕ) → Holds v.seen m → True? t m = λ m h. k.only_true m (within_bits v.seen k.facts fits.seen m h) in
      let may_be : (i : ℕ) → bit_at bits i ≡ 1 → True? t (64 * w + i) = λ i new. sound v.drawn v.seen (64 * w + i) knows (may i new named.truth) in
      let seen_after : (i : ℕ) → bit_at (bit_or (slice_index v.seen w) bits) i ≤ bit facts' w i = λ i.
      let a = fits.seen w i in
      let h = here i in
      let o = bit_at_or n bits i in
      let p = bit_at_or (slice_index v.seen w) bits i in
      let b = n_bit i in
      omega arith in
      let fits' : Fits t start end_ k.draws facts' v' = record {
        named = λ l. record { truth = named.truth; opening = named.opening; end_is = named.end_is; seen_long = length-set v.seen w _ ∙ named.seen_long; set_long = length-set v.set w _ ∙ named.set_long };
        spent = λ l. absurd (cc);
        seen = λ q i. bit_set_le v.seen w _ q i (bit facts' q i)
            (let a = fits.seen q i in let b = more q i in omega arith)
            (λ e. subst (λ (x : ℕ). bit_at (bit_or (slice_index v.seen w) bits) i ≤ bit facts' x i) (sym e) (seen_after i));
        done = fits.done;
      } in
      let gained_here : (i : ℕ) → bit facts' w i + bit v.set w i ≡ bit k.facts w i + bit v'.set w i = λ i.
      let h = here i in
      let r = bit_here v.set w (bit_or (slice_index v.set w) (new_bits bits n)) i in_set in
      let o = bit_at_or n bits i in
      let o2 = bit_at_or (slice_index v.set w) (new_bits bits n) i in
      let f = new_bit bits n i small_bits small in
      let old = k.counted w i in
      let has = total_has (λ (u : View T). bit u.set w i) s.views id v at in
      let l1 = bit_at-lt n i in
      let l2 = bit_at-lt bits i in
      let l3 = bit_at-lt (slice_index v.set w) i in
      let b = n_bit i in
      omega arith in
      let gained : (q i : ℕ) → bit facts' q i + bit v.set q i ≡ bit k.facts q i + bit v'.set q i = λ q i. ⊎_elim
      (λ e. subst (λ (x : ℕ). bit facts' x i + bit v.set x i ≡ bit k.facts x i + bit v'.set x i) (sym e) (gained_here i))
      (λ ne.
      let h = bit_else k.facts w (bit_or n bits) q i ne in
      let r = bit_else v.set w (bit_or (slice_index v.set w) (new_bits bits n)) q i ne in
      omega arith)
      (cases_eq q w) in
      let lawful : MayPutBits (May t) (shown k.draws k.facts s.views) id w bits = record {
        worker_is = is_worker s.views id v at live;
        inside = in_facts;
        fits = small_bits;
        may = λ j new. subst (λ (q : Worker). May t q.drawn q.known (64 * w + j)) (sym (read_worker s.views id v at)) (may j new named.truth);
      } in
      let shows = shows_put end_ k.draws k.facts s.views id w bits n v at
      ∙ ap (λ x. shown k.draws (set k.facts w (bit_or x bits)) (set s.views id (put_view v w bits n))) (sym n_is) in
      let fit : Fit True? May t start end_ s k id v v' k.draws facts' = record {
        long = length-set k.facts w _ ∙ k.long;
        only_true = put_facts (True? t) k.facts w n bits in_facts n_is k.only_true may_be;
        more = more;
        gained = gained;
        later = omega arith;
        drew = λ x. refl;
        fits = fits';
        weight_is = refl;
        room = same_room True? May t start end_ s k id v v' at refl;
        reached = reached_more (May t) end_ start _ _ (Event.puts id w bits) k.reached lawful shows;
      } in (
        v',
        keeps,
        tt,
        changed True? May t start end_ s k id v v' _ k.draws facts' at (ap (λ (ws : List ℕ). set ws (suc w) (bit_or n bits)) k.words_are) fit,
        record { view = refl; word = found_word s k id v at live w small },
      )

  pub puts : (slots id : ℕ) (v : View T) (c : List (ℕ × S)) (i w bits : ℕ) → i ≡ suc w → v.live ≡ true → w < length start → bits < 2 ^ 64 → MayAll True? May t v w bits → IsSound True? May t
      → Allows Kept slots id (v, c) i (λ n. bit_or n bits) (Put True? (step slots i bits 0 none) (v, c))
  puts slots id v c i w bits e live inside small may sound = subst (λ (j : ℕ). Allows Kept slots id (v, c) j (λ n. bit_or n bits) (Put True? (step slots j bits 0 none) (v, c))) (sym e) (put_at slots id v c w bits live inside small may sound)
