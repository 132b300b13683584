-- A split and a join keep the rule of the board, and so does its opening; what the rule says where the only seat is given back.
use Rattle.std.proofs.Common.{◌≡◌, ℕ, zero, suc, ◌+◌, ◌-◌, ◌<◌, ◌≤◌, min, Bool, true, false, ◌||◌, cond, List, [], ◌∷◌, length, get_or, set, sym, refl, ap, ◌∙◌, subst, arith, ⊎_elim, Some, add-one}
use Rattle.std.specs.Prelude.{slice_index}
use Rattle.std.proofs.lemmas.List.{ext_get_or, get_or-set_same, get_or-set_other}
use Rattle.std.proofs.lemmas.Bool.{cases_eq, or_cases}
use Rattle.std.proofs.lemmas.Nat.Bits.{bit_at-lt, bit_at-zero}
use mathlib.Core.Option.{some, some-injective, some-ne-none}
use lib.ListN.{get_elem?}
use Rattle.atomic_table.specs.Table.{State, Splits, Joins, opening, Final, Seen}
use Rattle.atomic_table.proofs.Lists.{at_snoc, set_else}
use Rattle.crew.specs.declared.view.View.{View}
use Rattle.crew.specs.Counts.{total, times, once_below, AreAllBelow}
use Rattle.crew.specs.SharedWords.{Holds, AreWithin, bit, union}
use Rattle.crew.specs.Views.{Fits, giver_view, split_view, joined_view, spent_view, first_view, weight, open_weight}
use Rattle.crew.specs.Machine.{Event, Putting}
use Rattle.crew.specs.Shows.{worker_of, IsHistory, shown}
use Rattle.crew.specs.Rule.{IsBoard}
use Rattle.crew.proofs.CountLemmas.{total_set, total_snoc, total_has_two, total_alone, times_append}
use Rattle.crew.proofs.BitLemmas.{bit_union, length_union, bit_cleared, length_cleared, same_words, within_bits}
use Rattle.crew.proofs.Changes.{each_after}
use Rattle.crew.proofs.Shown.{read_worker, is_worker, shows_split, shows_join, reached_more}

open_split : (b d : Bool) (n : ℕ) → 1 ≤ n → cond b (cond d 0 (n - 1 + 1)) 0 + cond b (cond d 0 (0 + 1)) 0 ≤ cond b (cond d 0 (n + 1)) 0
open_split true true n h = omega arith
open_split true false n h = omega arith
open_split false d n h = omega arith

open_join : (a b : Bool) (m n : ℕ) → cond (a || b) 0 (m + n + 1 + 1) ≤ cond a 0 (m + 1) + cond b 0 (n + 1)
open_join true b m n = omega arith
open_join false true m n = omega arith
open_join false false m n = omega arith

one_view : {V : Type 0} (v u : V) (id : ℕ) → get_elem? (v ∷ []) id ≡ some u → v ≡ u
one_view v u zero e = some-injective v u e
one_view v u (suc i) e = absurd (some-ne-none u (sym e))

no_weight : (b : Bool) (n : ℕ) → cond b (n + 1) 0 ≡ 0 → b ≡ false
no_weight true n h = absurd (omega arith)
no_weight false n h = refl

-- the words and the only seat at the end
pub record Ends {T : Type 0} (True? : T → ℕ → Type 0) (May : T → Putting) (t : T) (count : ℕ) (v : View T) (ws : List ℕ) : Type 0 where
  pub draws : ℕ
  pub words_are : ws ≡ draws ∷ union v.opening v.set
  pub long : length (union v.opening v.set) ≡ count
  pub truth : v.truth ≡ Some t
  pub only_true : (n : ℕ) → Holds (union v.opening v.set) n → True? t n
  pub has_seen : AreWithin v.seen (union v.opening v.set)
  pub drawn : v.done ≡ true → AreAllBelow v.end v.drawn
  pub history : IsHistory (May t) v.end v.opening (union v.opening v.set) (worker_of v)

-- ---- copying words
elem_index : (l : List ℕ) (i a : ℕ) → get_elem? l i ≡ some a → get_or l i 0 ≡ a
elem_index [] i a e = absurd (some-ne-none a (sym e))
elem_index (x ∷ xs) zero a e = some-injective x a e
elem_index (x ∷ xs) (suc i) a e = elem_index xs i a e

pub copied_more : (out ws : List ℕ) (i x : ℕ) → i < length out → get_elem? ws (i + 1) ≡ some x → ((k : ℕ) → k < i → slice_index out k ≡ slice_index ws (k + 1))
    → (k : ℕ) → k < i + 1 → slice_index (set out i x) k ≡ slice_index ws (k + 1)
copied_more out ws i x inside at old k h = ⊎_elim
    (λ e. subst (λ (j : ℕ). slice_index (set out i x) j ≡ slice_index ws (j + 1)) (sym e) (get_or-set_same out i x 0 inside ∙ sym (elem_index ws (i + 1) x at)))
    (λ ne. get_or-set_other out i k x 0 ne ∙ old k (omega arith))
    (cases_eq k i)

pub copied_all : (out ws u : List ℕ) (d : ℕ) → ws ≡ d ∷ u → length out ≡ length u → ((k : ℕ) → k < length u → slice_index out k ≡ slice_index ws (k + 1)) → out ≡ u
copied_all out ws u d e l each = ext_get_or 0 out u l (λ k h. each k (omega arith) ∙ ap (λ (xs : List ℕ). slice_index xs (k + 1)) e ∙ ap (λ (j : ℕ). slice_index (d ∷ u) j) (add-one k))

module _ {S T : Type 0} (True? : T → ℕ → Type 0) (May : T → Putting) (t : T) (start : List ℕ) (end_ : ℕ) where
  abbrev Kept : State S (View T) → Type 0
  Kept s = IsBoard True? May t start end_ s

  pub splits : (id : ℕ) (v : View T) → v.live ≡ true → 1 ≤ v.spare → Splits Kept id v (giver_view v) (split_view v)
  splits id v live enough s k at =
      let fits = k.each id v at in
      let named = fits.named live in
      let left = giver_view v in
      let right = split_view v in
      let fits_left : Fits t start end_ k.draws k.facts left = record {
        named = λ l. record { truth = named.truth; opening = named.opening; end_is = named.end_is; seen_long = named.seen_long; set_long = named.set_long };
        spent = λ l. absurd (cc);
        seen = fits.seen;
        done = fits.done;
      } in
      let fits_right : Fits t start end_ k.draws k.facts right = record {
        named = λ l. record { truth = named.truth; opening = named.opening; end_is = named.end_is; seen_long = named.seen_long; set_long = length_cleared v.set ∙ named.set_long };
        spent = λ l. absurd (cc);
        seen = fits.seen;
        done = fits.done;
      } in
      let w0 : weight v ≡ v.spare + 1 = rw live refl in
      let w1 : weight left ≡ v.spare - 1 + 1 = rw live refl in
      let w2 : weight right ≡ 0 + 1 = rw live refl in
      record {
        short = k.short;
        draws = k.draws;
        facts = k.facts;
        words_are = k.words_are;
        long = k.long;
        only_true = k.only_true;
        counted = λ q i.
            let p = total_set (λ (u : View T). bit u.set q i) s.views id v left at in
            let r = total_snoc (λ (u : View T). bit u.set q i) (set s.views id left) right in
            let z = bit_cleared v.set q i in
            let h = k.counted q i in
            omega arith;
        each = λ j u at'. ⊎_elim
            (λ h. each_after t start end_ k.draws k.draws k.facts k.facts s.views id left k.each (omega arith) (λ q i. omega arith) fits_left j u h)
            (λ e. subst (λ (x : View T). Fits t start end_ k.draws k.facts x) e fits_right)
            (at_snoc (set s.views id left) right u j at');
        drawn = λ x.
            let p = total_set (λ (u : View T). times x u.drawn) s.views id v left at in
            let r = total_snoc (λ (u : View T). times x u.drawn) (set s.views id left) right in
            let h = k.drawn x in
            omega arith;
        spare =
            let p = total_set weight s.views id v left at in
            let r = total_snoc weight (set s.views id left) right in
            let h = k.spare in
            omega arith;
        room =
            let p = total_set open_weight s.views id v left at in
            let r = total_snoc open_weight (set s.views id left) right in
            let o = open_split v.live v.done v.spare enough in
            let h = k.room in
            omega arith;
        reached = reached_more (May t) end_ start _ _ (Event.splits id) k.reached (is_worker s.views id v at live) (shows_split end_ k.draws k.facts s.views id v at);
      }

  pub joins : (id : ℕ) (v : View T) (other : ℕ) (u : View T) → v.live ≡ true → u.live ≡ true → Joins Kept id v other u (joined_view v u) spent_view
  joins id v other u live live' s k at ne at' =
      let both = joined_view v u in
      let fits = k.each id v at in
      let named = fits.named live in
      let there = sym (set_else s.views id other both ne) ∙ at' in
      let fits_u = k.each other u there in
      let named_u = fits_u.named live' in
      let seen_same : length v.seen ≡ length u.seen = let a = named.seen_long in let b = named_u.seen_long in omega arith in
      let set_same : length v.set ≡ length u.set = let a = named.set_long in let b = named_u.set_long in omega arith in
      let fits_both : Fits t start end_ k.draws k.facts both = record {
        named = λ l. record { truth = named.truth; opening = named.opening; end_is = named.end_is; seen_long = length_union v.seen u.seen ∙ named.seen_long; set_long = length_union v.set u.set ∙ named.set_long };
        spent = λ l. absurd (cc);
        seen = λ q i. let a = fits.seen q i in let b = fits_u.seen q i in let m = bit_union v.seen u.seen q i seen_same in omega arith;
        done = λ e. ⊎_elim (λ a. fits.done a) (λ b. fits_u.done b) (or_cases v.done u.done e);
      } in
      let fits_spent : Fits t start end_ k.draws k.facts spent_view = record {
        named = λ l. absurd (cc);
        spent = λ l. record { set = refl; drawn = refl; seen = refl };
        seen = λ q i. let z = bit_at-zero i in omega arith;
        done = λ e. absurd (cc);
      } in
      let w0 : weight v ≡ v.spare + 1 = rw live refl in
      let w1 : weight u ≡ u.spare + 1 = rw live' refl in
      let w2 : weight both ≡ v.spare + u.spare + 1 + 1 = rw live refl in
      let o0 : open_weight v ≡ cond v.done 0 (v.spare + 1) = rw live refl in
      let o1 : open_weight u ≡ cond u.done 0 (u.spare + 1) = rw live' refl in
      let o2 : open_weight both ≡ cond (v.done || u.done) 0 (v.spare + u.spare + 1 + 1) = rw live refl in
      record {
        short = k.short;
        draws = k.draws;
        facts = k.facts;
        words_are = k.words_are;
        long = k.long;
        only_true = k.only_true;
        counted = λ q i.
            let p = total_set (λ (x : View T). bit x.set q i) s.views id v both at in
            let r = total_set (λ (x : View T). bit x.set q i) (set s.views id both) other u spent_view at' in
            let two = total_has_two (λ (x : View T). bit x.set q i) s.views id v both other u at at' ne in
            let m = bit_union v.set u.set q i set_same in
            let z = bit_at-zero i in
            let h = k.counted q i in
            let l = bit_at-lt (get_or k.facts q 0) i in
            omega arith;
        each = each_after t start end_ k.draws k.draws k.facts k.facts (set s.views id both) other spent_view
            (each_after t start end_ k.draws k.draws k.facts k.facts s.views id both k.each (omega arith) (λ q i. omega arith) fits_both)
            (omega arith) (λ q i. omega arith) fits_spent;
        drawn = λ x.
            let p = total_set (λ (y : View T). times x y.drawn) s.views id v both at in
            let r = total_set (λ (y : View T). times x y.drawn) (set s.views id both) other u spent_view at' in
            let a = times_append x v.drawn u.drawn in
            let h = k.drawn x in
            omega arith;
        spare =
            let p = total_set weight s.views id v both at in
            let r = total_set weight (set s.views id both) other u spent_view at' in
            let h = k.spare in
            omega arith;
        room =
            let p = total_set open_weight s.views id v both at in
            let r = total_set open_weight (set s.views id both) other u spent_view at' in
            let o = open_join v.done u.done v.spare u.spare in
            let h = k.room in
            omega arith;
        reached = reached_more (May t) end_ start _ _ (Event.joins id other) k.reached
            (is_worker s.views id v at live, is_worker s.views other u there live', ne) (shows_join end_ k.draws k.facts s.views id other v u at there);
      }

  pub opens : end_ + 16 < 4294967296 → ((n : ℕ) → Holds start n → True? t n) → Kept (opening (0 ∷ start) [] (first_view t start end_))
  opens short all_true =
      let v = first_view t start end_ in
      let fits : Fits t start end_ 0 start v = record {
        named = λ l. record { truth = refl; opening = refl; end_is = refl; seen_long = refl; set_long = length_cleared start };
        spent = λ l. absurd (cc);
        seen = λ q i. omega arith;
        done = λ e. absurd (cc);
      } in
      record {
        short = short;
        draws = 0;
        facts = start;
        words_are = refl;
        long = refl;
        only_true = all_true;
        counted = λ q i. let z = bit_cleared start q i in omega arith;
        each = λ j u at. subst (λ (x : View T). Fits t start end_ 0 start x) (one_view v u j at) fits;
        drawn = λ x. let m : min 0 end_ ≡ 0 = omega arith in sym (ap (λ y. once_below x y) m);
        spare = omega arith;
        room = omega arith;
        reached = record { events = []; lawful = tt; moment = refl };
      }

  -- whoever has all sixteen parts is the only seat
  pub closes : (id : ℕ) (v : View T) (ws : List ℕ) (xs : List S) → v.live ≡ true → v.spare ≡ 15 → Final (Seen Kept id v) ws xs → Ends True? May t (length start) v ws
  closes id v ws xs live full (s, (k, at), words_is, long, homes) =
      let fits = k.each id v at in
      let named = fits.named live in
      let w0 : weight v ≡ v.spare + 1 = rw live refl in
      let all : total weight s.views ≤ weight v = let h = k.spare in omega arith in
      let idle : (u : View T) → weight u ≡ 0 → u.live ≡ false = λ u. no_weight u.live u.spare in
      let sets = λ (q i : ℕ). total_alone weight (λ (u : View T). bit u.set q i) s.views id v at
      (λ j u here z. let e = (k.each j u here).spent (idle u z) in ap (λ (l : List ℕ). bit l q i) e.set ∙ bit_at-zero i) all in
      let draws = λ (x : ℕ). total_alone weight (λ (u : View T). times x u.drawn) s.views id v at
      (λ j u here z. let e = (k.each j u here).spent (idle u z) in ap (λ (l : List ℕ). times x l) e.drawn) all in
      let opening_long : length v.opening ≡ length start = ap (λ (l : List ℕ). length l) named.opening in
      let lens : length v.opening ≡ length v.set = let b = named.set_long in omega arith in
      let facts_are : k.facts ≡ union v.opening v.set = same_words k.facts (union v.opening v.set)
      (let b = length_union v.opening v.set in let c = k.long in omega arith)
      (λ q i.
      let u = bit_union v.opening v.set q i lens in
      let o : bit v.opening q i ≡ bit start q i = ap (λ (l : List ℕ). bit l q i) named.opening in
      let c = k.counted q i in
      let a = sets q i in
      let l = bit_at-lt (get_or k.facts q 0) i in
      omega arith) in
      let end_is : v.end ≡ end_ = named.end_is in
      let history : IsHistory (May t) end_ start k.facts (worker_of v) = record {
        moment = shown k.draws k.facts s.views;
        reached = k.reached;
        words_are = refl;
        place = id;
        worker_is = read_worker s.views id v at;
      } in
      record {
        draws = k.draws;
        words_are = sym words_is ∙ k.words_are ∙ ap (λ (l : List ℕ). k.draws ∷ l) facts_are;
        long = ap (λ (l : List ℕ). length l) (sym facts_are) ∙ k.long;
        truth = named.truth;
        only_true = subst (λ (l : List ℕ). (n : ℕ) → Holds l n → True? t n) facts_are k.only_true;
        has_seen = subst (λ (l : List ℕ). AreWithin v.seen l) facts_are (within_bits v.seen k.facts fits.seen);
        drawn = λ e x.
            let past = fits.done e in
            let m : min k.draws end_ ≡ v.end = omega arith in
            sym (draws x) ∙ k.drawn x ∙ ap (λ y. once_below x y) m;
        history = subst (λ (e : ℕ). IsHistory (May t) e v.opening (union v.opening v.set) (worker_of v)) (sym end_is)
            (subst (λ (l : List ℕ). IsHistory (May t) end_ l (union v.opening v.set) (worker_of v)) (sym named.opening)
            (subst (λ (l : List ℕ). IsHistory (May t) end_ start l (worker_of v)) facts_are history));
      }
