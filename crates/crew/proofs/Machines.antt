-- What holds at each moment of the machine.
use Rattle.std.proofs.Common.{◌≡◌, ℕ, zero, suc, ◌+◌, ◌*◌, ◌<◌, ◌≤◌, min, Bool, true, false, List, [], ◌∷◌, ◌++◌, length, get_or, set, sym, refl, ap, ◌∙◌, subst, arith, ⊎_elim}
use Rattle.std.specs.Prelude.{bit_or, slice_index}
use Rattle.std.specs.Int.{bit_at}
use Rattle.std.proofs.lemmas.Nat.Bits.{bit_at_or, bit_at-zero}
use Rattle.std.proofs.lemmas.List.{length-set}
use Rattle.std.proofs.lemmas.Bool.{cases_lt, lt-ltb, le-ltb}
use mathlib.Core.Option.{some}
use lib.ListN.{get_elem?}
use lib.Dec.{ltb}
use Rattle.atomic_table.proofs.Lists.{set_else}
use Rattle.crew.specs.Counts.{total, times, once_below}
use Rattle.crew.specs.SharedWords.{Holds, AreWithin, bit, union}
use Rattle.crew.specs.Machine.{Worker, Moment, Event, Putting, nobody, worker, drew, looked, put, told, both, after, after_all, IsLawful, AreLawful, opening}
use Rattle.crew.proofs.CountLemmas.{total_set, total_snoc, times_append}
use Rattle.crew.proofs.BitLemmas.{bit_here, bit_set_le, within_bits, bit_put_le, put_facts}

each_set : (P : Worker → Type 0) (ws : List Worker) (w : ℕ) (x : Worker) → ((id : ℕ) → P (get_or ws id nobody)) → P x → (id : ℕ) → P (get_or (set ws w x) id nobody)
each_set P [] w x old new id = old id
each_set P (y ∷ ys) zero x old new zero = new
each_set P (y ∷ ys) zero x old new (suc id) = old (suc id)
each_set P (y ∷ ys) (suc w) x old new zero = old 0
each_set P (y ∷ ys) (suc w) x old new (suc id) = each_set P ys w x (λ k. old (suc k)) new id

each_snoc : (P : Worker → Type 0) (ws : List Worker) (x : Worker) → ((id : ℕ) → P (get_or ws id nobody)) → P x → (id : ℕ) → P (get_or (ws ++ x ∷ []) id nobody)
each_snoc P [] x old new zero = new
each_snoc P [] x old new (suc id) = old (suc id)
each_snoc P (y ∷ ys) x old new zero = old 0
each_snoc P (y ∷ ys) x old new (suc id) = each_snoc P ys x (λ k. old (suc k)) new id

at_get : (ws : List Worker) (w : ℕ) (d : Worker) → w < length ws → get_elem? ws w ≡ some (get_or ws w d)
at_get [] w d h = absurd (omega arith)
at_get (x ∷ xs) zero d h = refl
at_get (x ∷ xs) (suc w) d h = at_get xs w d (omega arith)

union_le : (xs ys : List ℕ) (k i m : ℕ) → bit xs k i ≤ m → bit ys k i ≤ m → bit (union xs ys) k i ≤ m
union_le [] ys k i m a b = a
union_le (x ∷ xs) [] k i m a b = a
union_le (x ∷ xs) (y ∷ ys) zero i m a b = let o = bit_at_or x y i in omega arith
union_le (x ∷ xs) (y ∷ ys) (suc k) i m a b = union_le xs ys k i m a b

-- a worker knows what is set
abbrev Within : List ℕ → Worker → Type 0
Within facts x = (w i : ℕ) → bit x.known w i ≤ bit facts w i

drew_known : (facts : List ℕ) (b : Bool) (d : ℕ) (x : Worker) → Within facts x → Within facts (drew b d x)
drew_known facts true d x h = h
drew_known facts false d x h = h

-- ---- the words
-- bits are set by each event, and none is lost
pub more_after : (end_ : ℕ) (m : Moment) (e : Event) (w i : ℕ) → bit m.facts w i ≤ bit (after end_ m e).facts w i
more_after end_ m (Event.draws x) w i = omega arith
more_after end_ m (Event.looks x j) w i = omega arith
more_after end_ m (Event.puts x j bits) w i = bit_put_le m.facts j (slice_index m.facts j) bits w i refl
more_after end_ m (Event.splits x) w i = omega arith
more_after end_ m (Event.joins x y) w i = omega arith

pub within_after : (end_ : ℕ) (m : Moment) (e : Event) → AreWithin m.facts (after end_ m e).facts
within_after end_ m e = within_bits m.facts (after end_ m e).facts (more_after end_ m e)

pub within_after_all : (end_ : ℕ) (m : Moment) (es : List Event) → AreWithin m.facts (after_all end_ m es).facts
within_after_all end_ m [] n h = h
within_after_all end_ m (e ∷ es) n h = within_after_all end_ (after end_ m e) es n (within_after end_ m e n h)

pub after_front : (end_ : ℕ) (m : Moment) (front back : List Event) → after_all end_ m (front ++ back) ≡ after_all end_ (after_all end_ m front) back
after_front end_ m [] back = refl
after_front end_ m (e ∷ es) back = after_front end_ (after end_ m e) es back

-- ---- all that holds
pub record Safe (True? : ℕ → Type 0) (start : List ℕ) (end_ : ℕ) (m : Moment) : Type 0 where
  pub long : length m.facts ≡ length start
  pub only_true : (n : ℕ) → Holds m.facts n → True? n
  pub has_opening : (w i : ℕ) → bit start w i ≤ bit m.facts w i
  pub known : (id w i : ℕ) → bit (worker m id).known w i ≤ bit m.facts w i
  pub drawn : (x : ℕ) → total (λ v. times x v.drawn) m.workers ≡ once_below x (min m.draws end_)

-- what a worker knows is true, where what is set is
knows_true : (True? : ℕ → Type 0) (facts : List ℕ) (x : Worker) → ((n : ℕ) → Holds facts n → True? n) → Within facts x → (n : ℕ) → Holds x.known n → True? n
knows_true True? facts x all within n h = all n (within_bits x.known facts within n h)

module _ (May : Putting) (True? : ℕ → Type 0) (start : List ℕ) (end_ : ℕ) (sound : (drawn known : List ℕ) (n : ℕ) → ((m : ℕ) → Holds known m → True? m) → May drawn known n → True? n) where
  pub safe_after : (m : Moment) (e : Event) → IsLawful May m e → Safe True? start end_ m → Safe True? start end_ (after end_ m e)
  safe_after m (Event.draws w) l h =
      let x = worker m w in
      let b = ltb m.draws end_ in
      record {
        long = h.long;
        only_true = h.only_true;
        has_opening = h.has_opening;
        known = each_set (Within m.facts) m.workers w (drew b m.draws x) h.known (drew_known m.facts b m.draws x (h.known w));
        drawn = λ k.
            let t = total_set (λ (v : Worker). times k v.drawn) m.workers w x (drew b m.draws x) (at_get m.workers w nobody l.0) in
            let old = h.drawn k in
            ⊎_elim
            (λ (low : m.draws < end_).
            let a : times k (drew b m.draws x).drawn ≡ times k (x.drawn ++ m.draws ∷ []) = ap (λ c. times k (drew c m.draws x).drawn) (lt-ltb m.draws end_ low) in
            let p = times_append k x.drawn (m.draws ∷ []) in
            let q : min m.draws end_ ≡ m.draws = omega arith in
            let q' : min (m.draws + 1) end_ ≡ suc m.draws = omega arith in
            let e : once_below k (min m.draws end_) ≡ once_below k m.draws = ap (λ y. once_below k y) q in
            let e' : once_below k (min (m.draws + 1) end_) ≡ once_below k (suc m.draws) = ap (λ y. once_below k y) q' in
            omega arith)
            (λ (high : end_ ≤ m.draws).
            let a : times k (drew b m.draws x).drawn ≡ times k x.drawn = ap (λ c. times k (drew c m.draws x).drawn) (le-ltb m.draws end_ high) in
            let q : min m.draws end_ ≡ min (m.draws + 1) end_ = omega arith in
            let e : once_below k (min m.draws end_) ≡ once_below k (min (m.draws + 1) end_) = ap (λ y. once_below k y) q in
            omega arith)
            (cases_lt m.draws end_);
      }
  safe_after m (Event.looks w j) l h =
      let x = worker m w in
      let word_le : (q i : ℕ) → q ≡ j → bit_at (slice_index m.facts j) i ≤ bit m.facts q i = λ q i e.
      let r : bit m.facts q i ≡ bit m.facts j i = ap (λ y. bit m.facts y i) e in omega arith in
      record {
        long = h.long;
        only_true = h.only_true;
        has_opening = h.has_opening;
        known = each_set (Within m.facts) m.workers w (looked m.facts j x) h.known
            (λ q i. bit_set_le x.known j (slice_index m.facts j) q i (bit m.facts q i) (h.known w q i) (word_le q i));
        drawn = λ k. let t = total_set (λ (v : Worker). times k v.drawn) m.workers w x (looked m.facts j x) (at_get m.workers w nobody l.0) in let old = h.drawn k in omega arith;
      }
  safe_after m (Event.puts w j bits) l h =
      let x = worker m w in
      let facts' = (after end_ m (Event.puts w j bits)).facts in
      let more : (q i : ℕ) → bit m.facts q i ≤ bit facts' q i = more_after end_ m (Event.puts w j bits) in
      let known_le : (q i : ℕ) → q ≡ j → bit_at (bit_or (slice_index x.known j) bits) i ≤ bit facts' q i = λ q i e.
      subst (λ (y : ℕ). bit_at (bit_or (slice_index x.known j) bits) i ≤ bit facts' y i) (sym e)
      (let a = h.known w j i in let b = bit_here m.facts j (bit_or (slice_index m.facts j) bits) i l.inside in
      let o = bit_at_or (slice_index m.facts j) bits i in let p = bit_at_or (slice_index x.known j) bits i in omega arith) in
      record {
        long = length-set m.facts j _ ∙ h.long;
        only_true = put_facts True? m.facts j (slice_index m.facts j) bits l.inside refl h.only_true
            (λ i new. sound x.drawn x.known (64 * j + i) (knows_true True? m.facts x h.only_true (h.known w)) (l.may i new));
        has_opening = λ q i. let a = h.has_opening q i in let b = more q i in omega arith;
        known = each_set (Within facts') m.workers w (put j bits x)
            (λ id q i. let a = h.known id q i in let b = more q i in omega arith)
            (λ q i. bit_set_le x.known j _ q i (bit facts' q i) (let a = h.known w q i in let b = more q i in omega arith) (known_le q i));
        drawn = λ k. let t = total_set (λ (v : Worker). times k v.drawn) m.workers w x (put j bits x) (at_get m.workers w nobody l.worker_is.0) in let old = h.drawn k in omega arith;
      }
  safe_after m (Event.splits w) l h =
      let x = worker m w in
      record {
        long = h.long;
        only_true = h.only_true;
        has_opening = h.has_opening;
        known = each_snoc (Within m.facts) m.workers (told x) h.known (h.known w);
        drawn = λ k. let t = total_snoc (λ (v : Worker). times k v.drawn) m.workers (told x) in let old = h.drawn k in omega arith;
      }
  safe_after m (Event.joins w v) l h =
      let x = worker m w in
      let y = worker m v in
      let nothing : Within m.facts nobody = λ q i. let z = bit_at-zero i in omega arith in
      let still : get_elem? (set m.workers w (both x y)) v ≡ some y = set_else m.workers w v (both x y) l.2 ∙ at_get m.workers v nobody l.1.0 in
      record {
        long = h.long;
        only_true = h.only_true;
        has_opening = h.has_opening;
        known = each_set (Within m.facts) (set m.workers w (both x y)) v nobody
            (each_set (Within m.facts) m.workers w (both x y) h.known (λ q i. union_le x.known y.known q i (bit m.facts q i) (h.known w q i) (h.known v q i)))
            nothing;
        drawn = λ k.
            let t = total_set (λ (u : Worker). times k u.drawn) m.workers w x (both x y) (at_get m.workers w nobody l.0.0) in
            let r = total_set (λ (u : Worker). times k u.drawn) (set m.workers w (both x y)) v y nobody still in
            let a = times_append k x.drawn y.drawn in
            let old = h.drawn k in
            omega arith;
      }

  safe_all : (m : Moment) (es : List Event) → AreLawful May end_ m es → Safe True? start end_ m → Safe True? start end_ (after_all end_ m es)
  safe_all m [] l h = h
  safe_all m (e ∷ es) l h = safe_all (after end_ m e) es l.1 (safe_after m e l.0 h)

  safe_first : ((n : ℕ) → Holds start n → True? n) → Safe True? start end_ (opening start)
  safe_first all_true = record {
    long = refl;
    only_true = all_true;
    has_opening = λ w i. omega arith;
    known = first_known;
    drawn = λ x. let q : min 0 end_ ≡ 0 = omega arith in sym (ap (λ y. once_below x y) q);
  }
    where
      first_known : (id w i : ℕ) → bit (get_or (record { live = true; drawn = []; known = start } ∷ []) id nobody).known w i ≤ bit start w i
      first_known zero w i = omega arith
      first_known (suc id) w i = let z = bit_at-zero i in omega arith

  -- after each lawful list of events from true opening words
  pub safe_always : ((n : ℕ) → Holds start n → True? n) → (es : List Event) → AreLawful May end_ (opening start) es → Safe True? start end_ (after_all end_ (opening start) es)
  safe_always all_true es l = safe_all (opening start) es l (safe_first all_true)
