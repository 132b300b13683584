-- A board shows a moment of the machine: each step on it is an event.
use Rattle.std.proofs.Common.{true, ◌≡◌, ℕ, zero, suc, ◌+◌, ◌<◌, ◌≤◌, List, [], ◌∷◌, ◌++◌, map, length, get_or, set, sym, refl, ap, ◌∙◌, subst, arith}
use Rattle.std.specs.Prelude.{bit_or, slice_index}
use Rattle.std.proofs.lemmas.Bool.{lt-ltb, le-ltb}
use mathlib.Core.Option.{some, some-injective, some-ne-none}
use lib.ListN.{get_elem?}
use lib.Dec.{ltb}
use Rattle.crew.specs.declared.view.View.{View}
use Rattle.crew.specs.Views.{looked_view, put_view, drawn_view, done_view, giver_view, split_view, joined_view, spent_view}
use Rattle.crew.specs.Machine.{Worker, Moment, Event, nobody, drew, looked, put, told, both, after, after_all, Putting, IsLawful, AreLawful, IsReached, opening}
use Rattle.crew.specs.Shows.{worker_of, shown}

module _ {T : Type 0} where
  pub read_worker : (vs : List (View T)) (id : ℕ) (v : View T) → get_elem? vs id ≡ some v → get_or (map worker_of vs) id nobody ≡ worker_of v
  read_worker [] id v e = absurd (some-ne-none v (sym e))
  read_worker (x ∷ xs) zero v e = ap (λ (y : View T). worker_of y) (some-injective x v e)
  read_worker (x ∷ xs) (suc id) v e = read_worker xs id v e

  pub set_worker : (vs : List (View T)) (id : ℕ) (v : View T) → map worker_of (set vs id v) ≡ set (map worker_of vs) id (worker_of v)
  set_worker [] id v = refl
  set_worker (x ∷ xs) zero v = refl
  set_worker (x ∷ xs) (suc id) v = ap (λ ys. worker_of x ∷ ys) (set_worker xs id v)

  pub same_worker : (vs : List (View T)) (id : ℕ) (v u : View T) → get_elem? vs id ≡ some v → worker_of u ≡ worker_of v → map worker_of (set vs id u) ≡ map worker_of vs
  same_worker [] id v u e s = refl
  same_worker (x ∷ xs) zero v u e s = ap (λ y. y ∷ map worker_of xs) (s ∙ ap (λ (y : View T). worker_of y) (sym (some-injective x v e)))
  same_worker (x ∷ xs) (suc id) v u e s = ap (λ ys. worker_of x ∷ ys) (same_worker xs id v u e s)

  pub snoc_worker : (vs : List (View T)) (v : View T) → map worker_of (vs ++ v ∷ []) ≡ map worker_of vs ++ worker_of v ∷ []
  snoc_worker [] v = refl
  snoc_worker (x ∷ xs) v = ap (λ ys. worker_of x ∷ ys) (snoc_worker xs v)

  pub in_workers : (vs : List (View T)) (id : ℕ) (v : View T) → get_elem? vs id ≡ some v → id < length (map worker_of vs)
  in_workers [] id v e = absurd (some-ne-none v (sym e))
  in_workers (x ∷ xs) zero v e = omega arith
  in_workers (x ∷ xs) (suc id) v e = let h = in_workers xs id v e in omega arith

  pub is_worker : (vs : List (View T)) (id : ℕ) (v : View T) → get_elem? vs id ≡ some v → v.live ≡ true → (id < length (map worker_of vs)) × ((get_or (map worker_of vs) id nobody).live ≡ true)
  is_worker vs id v e live = (in_workers vs id v e, ap (λ (x : Worker). x.live) (read_worker vs id v e) ∙ live)

  -- one worker changes
  changes : (vs : List (View T)) (id : ℕ) (v u : View T) (f : Worker → Worker) → get_elem? vs id ≡ some v → worker_of u ≡ f (worker_of v) → set (map worker_of vs) id (f (get_or (map worker_of vs) id nobody)) ≡ map worker_of (set vs id u)
  changes vs id v u f e s = ap (λ x. set (map worker_of vs) id (f x)) (read_worker vs id v e) ∙ ap (λ x. set (map worker_of vs) id x) (sym s) ∙ sym (set_worker vs id u)

  pub shows_look : (end_ draws : ℕ) (facts : List ℕ) (vs : List (View T)) (id w : ℕ) (v : View T) → get_elem? vs id ≡ some v
      → after end_ (shown draws facts vs) (Event.looks id w) ≡ shown draws facts (set vs id (looked_view v w (slice_index facts w)))
  shows_look end_ draws facts vs id w v e = ap (λ (ws : List Worker). record { facts = facts; draws = draws; workers = ws }) (changes vs id v (looked_view v w (slice_index facts w)) (looked facts w) e refl)

  pub shows_put : (end_ draws : ℕ) (facts : List ℕ) (vs : List (View T)) (id w bits found : ℕ) (v : View T) → get_elem? vs id ≡ some v
      → after end_ (shown draws facts vs) (Event.puts id w bits) ≡ shown draws (set facts w (bit_or (slice_index facts w) bits)) (set vs id (put_view v w bits found))
  shows_put end_ draws facts vs id w bits found v e = ap (λ (ws : List Worker). record { facts = set facts w (bit_or (slice_index facts w) bits); draws = draws; workers = ws }) (changes vs id v (put_view v w bits found) (put w bits) e refl)

  pub shows_draw : (end_ draws : ℕ) (facts : List ℕ) (vs : List (View T)) (id : ℕ) (v : View T) → get_elem? vs id ≡ some v → draws < end_
      → after end_ (shown draws facts vs) (Event.draws id) ≡ shown (draws + 1) facts (set vs id (drawn_view v draws))
  shows_draw end_ draws facts vs id v e low = ap (λ (ws : List Worker). record { facts = facts; draws = draws + 1; workers = ws })
      (changes vs id v (drawn_view v draws) (drew (ltb draws end_) draws) e (sym (ap (λ b. drew b draws (worker_of v)) (lt-ltb draws end_ low))))

  pub shows_end : (end_ draws : ℕ) (facts : List ℕ) (vs : List (View T)) (id : ℕ) (v : View T) → get_elem? vs id ≡ some v → end_ ≤ draws
      → after end_ (shown draws facts vs) (Event.draws id) ≡ shown (draws + 1) facts (set vs id (done_view v))
  shows_end end_ draws facts vs id v e high = ap (λ (ws : List Worker). record { facts = facts; draws = draws + 1; workers = ws })
      (changes vs id v (done_view v) (drew (ltb draws end_) draws) e (sym (ap (λ b. drew b draws (worker_of v)) (le-ltb draws end_ high))))

  pub shows_split : (end_ draws : ℕ) (facts : List ℕ) (vs : List (View T)) (id : ℕ) (v : View T) → get_elem? vs id ≡ some v
      → after end_ (shown draws facts vs) (Event.splits id) ≡ shown draws facts (set vs id (giver_view v) ++ split_view v ∷ [])
  shows_split end_ draws facts vs id v e = ap (λ (ws : List Worker). record { facts = facts; draws = draws; workers = ws })
      (ap (λ x. map worker_of vs ++ told x ∷ []) (read_worker vs id v e)
      ∙ ap (λ ws. ws ++ worker_of (split_view v) ∷ []) (sym (same_worker vs id v (giver_view v) e refl))
      ∙ sym (snoc_worker (set vs id (giver_view v)) (split_view v)))

  pub shows_join : (end_ draws : ℕ) (facts : List ℕ) (vs : List (View T)) (id other : ℕ) (v u : View T) → get_elem? vs id ≡ some v → get_elem? vs other ≡ some u
      → after end_ (shown draws facts vs) (Event.joins id other) ≡ shown draws facts (set (set vs id (joined_view v u)) other spent_view)
  shows_join end_ draws facts vs id other v u e f = ap (λ (ws : List Worker). record { facts = facts; draws = draws; workers = ws })
      (ap (λ x. set (set (map worker_of vs) id (both x (get_or (map worker_of vs) other nobody))) other nobody) (read_worker vs id v e)
      ∙ ap (λ x. set (set (map worker_of vs) id (both (worker_of v) x)) other nobody) (read_worker vs other u f)
      ∙ ap (λ ws. set ws other nobody) (sym (set_worker vs id (joined_view v u)))
      ∙ sym (set_worker (set vs id (joined_view v u)) other spent_view))

module _ (May : Putting) (end_ : ℕ) where
  all_snoc : (m : Moment) (es : List Event) (e : Event) → after_all end_ m (es ++ e ∷ []) ≡ after end_ (after_all end_ m es) e
  all_snoc m [] e = refl
  all_snoc m (x ∷ xs) e = all_snoc (after end_ m x) xs e

  lawful_snoc : (m : Moment) (es : List Event) (e : Event) → AreLawful May end_ m es → IsLawful May (after_all end_ m es) e → AreLawful May end_ m (es ++ e ∷ [])
  lawful_snoc m [] e l h = (h, tt)
  lawful_snoc m (x ∷ xs) e l h = (l.0, lawful_snoc (after end_ m x) xs e l.1 h)

  -- one more event
  pub reached_more : (start : List ℕ) (m n : Moment) (e : Event) → IsReached May end_ start m → IsLawful May m e → after end_ m e ≡ n → IsReached May end_ start n
  reached_more start m n e r l is = record {
    events = r.events ++ e ∷ [];
    lawful = lawful_snoc (opening start) r.events e r.lawful (subst (λ (q : Moment). IsLawful May q e) (sym r.moment) l);
    moment = all_snoc (opening start) r.events e ∙ ap (λ (q : Moment). after end_ q e) r.moment ∙ is;
  }
