-- Runs of any machine of small steps: a state comes to one answer, more acts change no end, and when the runs of one machine follow those of another.
use Rattle.std.proofs.Common.{◌≡◌, ℕ, zero, suc, ◌≤◌, [], ◌++◌, append-nil, append_assoc, Bool, true, false, ◌⊎◌, inl, inr, refl, sym, ap, ◌∙◌, arith}
use Rattle.c_meaning.specs.Meaning.{Trace, Answer, Ended, Undefined, More}
use Rattle.c_meaning.specs.Steps.{Step, Stops, Fails, Acts, Moves, Breaks, Machine, Runs, stop, fail, fail_none, act_none, act, move, broken}
use Rattle.c_meaning.specs.Laws.{trace_of, IsFront}

-- ---- a state comes to one answer

module _ (g : Machine) where
  -- what a run's first step tells of its answer
  abbrev pub ByStep : Step g.State → ℕ → g.State → Answer → Type 0
  ByStep Stops n s a = a ≡ Ended (g.trace s)
  ByStep (Fails i) zero s a = a ≡ More (g.trace s)
  ByStep (Fails i) (suc n) s a = a ≡ Undefined i (g.trace s)
  ByStep (Acts t) zero s a = a ≡ More (g.trace s)
  ByStep (Acts t) (suc n) s a = Runs g n t a
  ByStep (Moves t) n s a = Runs g n t a
  ByStep (Breaks i) n s a = a ≡ Undefined i (g.trace s)

  pub by_step : (n : ℕ) (s : g.State) (a : Answer) → Runs g n s a → ByStep (g.step s) n s a
  by_step n s a (stop e) = rw e refl
  by_step n s a (fail e) = rw e refl
  by_step n s a (fail_none e) = rw e refl
  by_step n s a (act_none e) = rw e refl
  by_step n s a (act e r) = rw e r
  by_step n s a (move e r) = rw e r
  by_step n s a (broken e) = rw e refl

  pub unique : (n : ℕ) (s : g.State) (a b : Answer) → Runs g n s a → Runs g n s b → a ≡ b
  unique n s a b (stop e) r = sym (rw e at (by_step _ s b r))
  unique n s a b (fail e) r = sym (rw e at (by_step _ s b r))
  unique n s a b (fail_none e) r = sym (rw e at (by_step _ s b r))
  unique n s a b (act_none e) r = sym (rw e at (by_step _ s b r))
  unique n s a b (act {n = k} {t = t} e q) r = unique k t a b q (rw e at (by_step _ s b r))
  unique n s a b (move {t = t} e q) r = unique n t a b q (rw e at (by_step _ s b r))
  unique n s a b (broken e) r = sym (rw e at (by_step _ s b r))

  -- ---- more acts

  -- no further act is needed
  abbrev pub is_over : Answer → Bool
  is_over (Ended t) = true
  is_over (Undefined i t) = true
  is_over (More t) = false

  pub over_stays : (m : ℕ) (s : g.State) (a : Answer) → Runs g m s a → is_over a ≡ true → (n : ℕ) → m ≤ n → Runs g n s a
  over_stays m s a (stop e) h n le = stop e
  over_stays m s a (fail e) h zero le = absurd (omega arith)
  over_stays m s a (fail e) h (suc n) le = fail e
  over_stays m s a (fail_none e) h n le = cc
  over_stays m s a (act_none e) h n le = cc
  over_stays m s a (act {n = k} {t = t} e q) h zero le = absurd (omega arith)
  over_stays m s a (act {n = k} {t = t} e q) h (suc n) le = act e (over_stays k t a q h n (omega arith))
  over_stays m s a (move {t = t} e q) h n le = move e (over_stays m t a q h n le)
  over_stays m s a (broken e) h n le = broken e

-- ---- what is told

pub front_same : (t : Trace) → IsFront t t
front_same t = record {
  more_events = [];
  more_output = [];
  events_are = sym (append-nil t.events);
  output_is = sym (append-nil t.output);
}

pub front_then : (t u v : Trace) → IsFront t u → IsFront u v → IsFront t v
front_then t u v p q = record {
  more_events = p.more_events ++ q.more_events;
  more_output = p.more_output ++ q.more_output;
  events_are = q.events_are ∙ (ap (λ es. es ++ q.more_events) p.events_are ∙ append_assoc t.events p.more_events q.more_events);
  output_is = q.output_is ∙ (ap (λ bs. bs ++ q.more_output) p.output_is ∙ append_assoc t.output p.more_output q.more_output);
}

-- a step's state has the front of the trace behind it
abbrev pub Grows : (g : Machine) → g.State → Step g.State → Type 0
Grows g s Stops = Unit {0}
Grows g s (Fails i) = Unit {0}
Grows g s (Acts t) = IsFront (g.trace s) (g.trace t)
Grows g s (Moves t) = IsFront (g.trace s) (g.trace t)
Grows g s (Breaks i) = Unit {0}

module _ (g : Machine) (grows : (s : g.State) → Grows g s (g.step s)) where
  pub from_here : (n : ℕ) (s : g.State) (a : Answer) → Runs g n s a → IsFront (g.trace s) (trace_of a)
  from_here n s a (stop e) = front_same (g.trace s)
  from_here n s a (fail e) = front_same (g.trace s)
  from_here n s a (fail_none e) = front_same (g.trace s)
  from_here n s a (act_none e) = front_same (g.trace s)
  from_here n s a (act {n = k} {t = t} e q) =
      front_then (g.trace s) (g.trace t) (trace_of a) (rw e at (grows s)) (from_here k t a q)
  from_here n s a (move {t = t} e q) =
      front_then (g.trace s) (g.trace t) (trace_of a) (rw e at (grows s)) (from_here n t a q)
  from_here n s a (broken e) = front_same (g.trace s)

  -- with more acts more is told
  pub told_more : (m n : ℕ) (s : g.State) (a b : Answer) → Runs g m s a → Runs g n s b → m ≤ n → IsFront (trace_of a) (trace_of b)
  told_more m n s a b (stop e) r le = from_here n s b r
  told_more m n s a b (fail e) r le = from_here n s b r
  told_more m n s a b (fail_none e) r le = from_here n s b r
  told_more m n s a b (act_none e) r le = from_here n s b r
  told_more m zero s a b (act {n = k} {t = t} e q) r le = absurd (omega arith)
  told_more m (suc n) s a b (act {n = k} {t = t} e q) r le = told_more k n t a b q (rw e at (by_step g _ s b r)) (omega arith)
  told_more m n s a b (move {t = t} e q) r le = told_more m n t a b q (rw e at (by_step g _ s b r)) le
  told_more m n s a b (broken e) r le = from_here n s b r

-- ---- two machines

-- what the second machine does where the first does this: the same, or nothing
abbrev pub Replies : (g h : Machine) (Rel : g.State → h.State → Type 0) → Step g.State → h.State → Type 0
Replies g h Rel Stops t = h.step t ≡ Stops
Replies g h Rel (Fails i) t = Unit {0}
Replies g h Rel (Acts s1) t = ((t1 : h.State) × (h.step t ≡ Acts t1) × Rel s1 t1) ⊎ Rel s1 t
Replies g h Rel (Moves s1) t = ((t1 : h.State) × (h.step t ≡ Moves t1) × Rel s1 t1) ⊎ Rel s1 t
Replies g h Rel (Breaks i) t = Unit {0}

-- related ends: of the first machine with this trace, and of the second within m acts from t
pub record EndsToo (g h : Machine) (Rel : g.State → h.State → Type 0) (m : ℕ) (t : h.State) (trace : Trace) : Type 0 where
  pub first : g.State
  pub second : h.State
  pub first_trace : g.trace first ≡ trace
  pub runs : Runs h m t (Ended (h.trace second))
  pub related : Rel first second

module _ (g h : Machine) (Rel : g.State → h.State → Type 0) where
  after_act : (m : ℕ) (t t1 : h.State) (trace : Trace) → h.step t ≡ Acts t1 → EndsToo g h Rel m t1 trace → EndsToo g h Rel (suc m) t trace
  after_act m t t1 trace e r =
      record { first = r.first; second = r.second; first_trace = r.first_trace; runs = act e r.runs; related = r.related }

  after_move : (m : ℕ) (t t1 : h.State) (trace : Trace) → h.step t ≡ Moves t1 → EndsToo g h Rel m t1 trace → EndsToo g h Rel m t trace
  after_move m t t1 trace e r =
      record { first = r.first; second = r.second; first_trace = r.first_trace; runs = move e r.runs; related = r.related }

  -- an end of the first machine is an end of the second, in no more acts
  pub follows : ((s : g.State) (t : h.State) → Rel s t → Replies g h Rel (g.step s) t) → (n : ℕ) (s : g.State) (a : Answer) → Runs g n s a → (m : ℕ) (t : h.State) (trace : Trace) → n ≤ m → Rel s t → a ≡ Ended trace → EndsToo g h Rel m t trace
  follows law n s a (stop e) m t trace le r q =
      record { first = s; second = t; first_trace = cc; runs = stop (rw e at (law s t r)); related = r }
  follows law n s a (fail e) m t trace le r q = cc
  follows law n s a (fail_none e) m t trace le r q = cc
  follows law n s a (act_none e) m t trace le r q = cc
  follows law n s a (act {n = k} {t = s1} e run) zero t trace le r q = absurd (omega arith)
  follows law n s a (act {n = k} {t = s1} e run) (suc m) t trace le r q =
      elim (rw e at (law s t r)) [
        | inl w ↦ after_act m t w.0 trace w.1 (follows law k s1 a run m w.0 trace (omega arith) w.2 q)
        | inr w ↦ follows law k s1 a run (suc m) t trace (omega arith) w q
      ]
  follows law n s a (move {t = s1} e run) m t trace le r q =
      elim (rw e at (law s t r)) [
        | inl w ↦ after_move m t w.0 trace w.1 (follows law n s1 a run m w.0 trace le w.2 q)
        | inr w ↦ follows law n s1 a run m t trace le w q
      ]
  follows law n s a (broken e) m t trace le r q = cc
