-- The meaning, a recursion over whole lists, is what the small steps come to, for every number of acts.
use Rattle.std.proofs.Common.{◌≡◌, ℕ, zero, suc, ◌<◌, ◌≤◌, List, [], ◌∷◌, Option, Some, None, Bool, true, false, refl, ap, subst, arith}
use Rattle.c_tree.specs.declared.expr.Expr.{Expr}
use Rattle.c_tree.specs.declared.statement.Target.{Target}
use Rattle.c_tree.specs.declared.statement.Target.TheVariants as target
use Rattle.c_language.specs.Code.{Act, Tests, Code, End, Opens, Plain, Fork, Loop, Leaves, Call, ◌⨟◌, is_true, either}
use Rattle.c_meaning.specs.declared.value.Value.{Value}
use Rattle.c_meaning.specs.Values.{State, variable_opened, all_closed}
use Rattle.c_meaning.specs.Acts.{Made, shows, made, after, picked}
use Rattle.c_meaning.specs.Activations.{Executable, executable, code_at, types_in, opening, called, resumed, received}
use Rattle.c_meaning.specs.Meaning.{Trace, Answer, Ended, Undefined, More, Outcome, Done, Over, Go, then_do, told, after_made, take_act, announced, after_called, take_call, come_back, exec, deep, answer, nothing, code_meaning, main_meaning, meaning}
use Rattle.c_meaning.specs.Steps.{Step, Stops, Fails, Acts, Moves, Breaks, Runs, stop, fail, fail_none, act_none, act, move, broken, Waiting, Point, point, waiting, acted, entered, stored_back, went_back, returned_to, step_at, step, machine, beginning}
use Rattle.c_meaning.specs.Laws.{MeaningIsSteps, EndsStay, IsFront, TracesGrow}
use Rattle.c_meaning.proofs.Runs.{unique, over_stays, front_same, Grows, told_more}

pub then_end : (a : Code) → a ⨟ End ≡ a
then_end End = refl
then_end (Opens x r) = ap (Opens x) (then_end r)
then_end (Plain i a r) = ap (Plain i a) (then_end r)
then_end (Fork i e c r) = ap (Fork i e c) (then_end r)
then_end (Loop i e b r) = ap (Loop i e b) (then_end r)
then_end (Leaves xs r) = ap (Leaves xs) (then_end r)
then_end (Call i to f args r) = ap (Call i to f args) (then_end r)

module _ (p : Executable) where
  abbrev ComesTo : ℕ → Point → Answer → Type 0
  ComesTo = Runs (machine p)

  -- an outcome tells what a point comes to, where k follows in f
  abbrev Tells : ℕ → Code → List Waiting → ℕ → Point → Outcome → Type 0
  Tells f k ws n x (Done left s t) = (left ≤ n) × ((a : Answer) → ComesTo left (point f k s ws t) a → ComesTo n x a)
  Tells f k ws n x (Over a) = ComesTo n x a

  after_act : (f : ℕ) (k : Code) (ws : List Waiting) (n : ℕ) (x y : Point) (o : Outcome) → step p x ≡ Acts y → Tells f k ws n y o → Tells f k ws (suc n) x o
  after_act f k ws n x y (Done left s t) e h = (omega (arith, h.0), λ a r. act e (h.1 a r))
  after_act f k ws n x y (Over a) e h = act e h

  after_move : (f : ℕ) (k : Code) (ws : List Waiting) (n : ℕ) (x y : Point) (o : Outcome) → step p x ≡ Moves y → Tells f k ws n y o → Tells f k ws n x o
  after_move f k ws n x y (Done left s t) e h = (h.0, λ a r. move e (h.1 a r))
  after_move f k ws n x y (Over a) e h = move e h

  -- what a point tells is told by each point that comes to it
  through : (f : ℕ) (k : Code) (ws : List Waiting) (n left : ℕ) (x y : Point) (o : Outcome) → left ≤ n → ((a : Answer) → ComesTo left y a → ComesTo n x a) → Tells f k ws left y o → Tells f k ws n x o
  through f k ws n left x y (Done l s t) le h g = (let g0 = g.0 in omega (arith, le, g0), λ a r. h a (g.1 a r))
  through f k ws n left x y (Over a) le h g = h a g

  -- a list does at fewer than d acts what its steps come to, whatever follows, and whoever waits
  abbrev Good : ℕ → ℕ → Code → Go → Type 0
  Good d f c go = (k : Code) (ws : List Waiting) (n : ℕ) (s : State) (t : Trace) → n < d → Tells f k ws n (point f (c ⨟ k) s ws t) (go n s t)

  -- one stretch, and then another
  joined : (f : ℕ) (k : Code) (ws : List Waiting) (g : ℕ) (q : Code) (vs : List Waiting) (n : ℕ) (x : Point) (o : Outcome) (go : Go) → Tells g q vs n x o → ((left : ℕ) (s : State) (t : Trace) → left ≤ n → Tells f k ws left (point g q s vs t) (go left s t)) → Tells f k ws n x (then_do o go)
  joined f k ws g q vs n x (Over a) go h rest = h
  joined f k ws g q vs n x (Done left s t) go h rest =
      through f k ws n left x (point g q s vs t) (go left s t) h.0 h.1 (rest left s t h.0)

  -- one list, and then another
  then_tells : (f : ℕ) (r k : Code) (ws : List Waiting) (n d : ℕ) (x : Point) (o : Outcome) (go : Go) → n < d → Tells f (r ⨟ k) ws n x o → Good d f r go → Tells f k ws n x (then_do o go)
  then_tells f r k ws n d x o go lt h good =
      joined f k ws f (r ⨟ k) ws n x o go h (λ left s t le. good k ws left s t (omega (arith, le, lt)))

  -- an act, and what follows it
  module _ (f i : ℕ) (a : Act) (c k : Code) (ws : List Waiting) (next : Made → Code) (go : Made → Go) (d : ℕ) (same : (s : State) (t : Trace) → step_at p f c s ws t ≡ acted f i next s ws t (made (types_in p f) a s)) (rest : (x : Made) (n : ℕ) (s : State) (t : Trace) → n < d → Tells f k ws n (point f (next x) s ws t) (go x n s t)) where
    takes : (n : ℕ) (s : State) (t : Trace) → n < suc d → Tells f k ws n (point f c s ws t) (take_act (types_in p f) i a go n s t)
    takes zero s t lt = none (made (types_in p f) a s) (same s t)
      where
        none : (o : Option Made) → step p (point f c s ws t) ≡ acted f i next s ws t o → ComesTo 0 (point f c s ws t) (More t)
        none None e = fail_none e
        none (Some x) e = act_none e
    takes (suc n) s t lt = some (made (types_in p f) a s) (same s t)
      where
        some : (o : Option Made) → step p (point f c s ws t) ≡ acted f i next s ws t o → Tells f k ws (suc n) (point f c s ws t) (after_made i o go n s t)
        some None e = fail e
        some (Some x) e = after_act f k ws n (point f c s ws t) _ (go x n (after i x s) (told i x t)) e (rest x n _ _ (omega arith))

  -- a turn of a loop, or what comes after it
  turn : (f : ℕ) (k : Code) (ws : List Waiting) (n : ℕ) (s : State) (t : Trace) (b r : Code) (o q : Outcome) (goes : Bool) → Tells f k ws n (point f b s ws t) o → Tells f k ws n (point f r s ws t) q → Tells f k ws n (point f (either goes b r) s ws t) (either goes o q)
  turn f k ws n s t b r o q true x y = x
  turn f k ws n s t b r o q false x y = y

  module _ (d : ℕ) (again : ℕ → Code → Go) (good : (f : ℕ) (c : Code) → Good d f c (again f c)) where
    -- ---- the end of a call

    -- the end of function g, which a call in f waits for, and the store of the result
    module _ (f g i : ℕ) (to : Target) (r k : Code) (ws : List Waiting) (s : State) (go : Go) (rest : Good (suc d) f r go) where
      abbrev caller : Waiting
      caller = waiting i to f (r ⨟ k) s

      stores : (n : ℕ) (c : State) (t : Trace) (o : Option Made) → n < suc d → step p (point g End c (caller ∷ ws) t) ≡ stored_back caller (resumed p g s.frame s.returned c) ws t o → Tells f k ws n (point g End c (caller ∷ ws) t) (after_made i o (λ x. go) n (resumed p g s.frame s.returned c) t)
      stores n c t None lt e = broken e
      stores n c t (Some x) lt e =
          let back = resumed p g s.frame s.returned c in
          after_move f k ws n (point g End c (caller ∷ ws) t) _ (go n (after i x back) (told i x t)) e (rest k ws n (after i x back) (told i x t) lt)

    returns : (f g i : ℕ) (to : Target) (r k : Code) (ws : List Waiting) (s : State) (go : Go) → Good (suc d) f r go → (n : ℕ) (c : State) (t : Trace) → n < suc d → Tells f k ws n (point g End c (waiting i to f (r ⨟ k) s ∷ ws) t) (come_back p f g i to s go n c t)
    returns f g i target.None r k ws s go rest n c t lt =
        let back = resumed p g s.frame s.returned c in
        after_move f k ws n (point g End c (waiting i target.None f (r ⨟ k) s ∷ ws) t) _ (go n back t) refl (rest k ws n back t lt)
    returns f g i (target.Place e) r k ws s go rest n c t lt =
        stores f g i (target.Place e) r k ws s go rest n c t (received (types_in p f) (target.Place e) c.returned (resumed p g s.frame s.returned c)) lt refl
    returns f g i (target.Declared y) r k ws s go rest n c t lt =
        stores f g i (target.Declared y) r k ws s go rest n c t (received (types_in p f) (target.Declared y) c.returned (resumed p g s.frame s.returned c)) lt refl

    -- ---- a call

    calls : (f i : ℕ) (to : Target) (g : ℕ) (args : List Expr) (r k : Code) (ws : List Waiting) (go : Go) → Good (suc d) f r go → (n : ℕ) (s : State) (t : Trace) → n < suc d → Tells f k ws n (point f (Call i to g args (r ⨟ k)) s ws t) (take_call i to (called p f g args s) (λ n c t. then_do (again g (code_at p g) n c t) (come_back p f g i to s go)) n s t)
    calls f i to g args r k ws go rest zero s t lt = none (called p f g args s) refl
      where
        none : (o : Option State) → step p (point f (Call i to g args (r ⨟ k)) s ws t) ≡ entered i to g (code_at p g) (waiting i to f (r ⨟ k) s) ws t o → ComesTo 0 (point f (Call i to g args (r ⨟ k)) s ws t) (More t)
        none None e = fail_none e
        none (Some c) e = act_none e
    calls f i to g args r k ws go rest (suc n) s t lt = some (called p f g args s) refl
      where
        some : (o : Option State) → step p (point f (Call i to g args (r ⨟ k)) s ws t) ≡ entered i to g (code_at p g) (waiting i to f (r ⨟ k) s) ws t o → Tells f k ws (suc n) (point f (Call i to g args (r ⨟ k)) s ws t) (after_called i to o (λ n c t. then_do (again g (code_at p g) n c t) (come_back p f g i to s go)) n s t)
        some None e = fail e
        some (Some c) e =
            let w = waiting i to f (r ⨟ k) s in
            let u = announced i to t in
            let inside = subst (λ z. Tells g End (w ∷ ws) n (point g z c (w ∷ ws) u) (again g (code_at p g) n c u)) (then_end (code_at p g)) (good g (code_at p g) End (w ∷ ws) n c u (omega arith)) in
            after_act f k ws n _ (point g (code_at p g) c (w ∷ ws) u) _ e (joined f k ws g End (w ∷ ws) n _ (again g (code_at p g) n c u) _ inside (λ left c1 t1 le. returns f g i to r k ws s go rest left c1 t1 (omega (arith, le, lt))))

    -- ---- lists

    exec_good : (f : ℕ) (c : Code) → Good (suc d) f c (exec p again f c)
    exec_good f End k ws n s t lt = (omega arith, λ a r. r)
    exec_good f (Opens x r) k ws n s t lt =
        after_move f k ws n _ _ (exec p again f r n (variable_opened (types_in p f) x s) t) refl (exec_good f r k ws n (variable_opened (types_in p f) x s) t lt)
    exec_good f (Plain i a r) k ws n s t lt =
        takes f i a (Plain i a (r ⨟ k)) k ws (λ x. r ⨟ k) (λ x. exec p again f r) d (λ s t. refl) (λ x n s t lt. exec_good f r k ws n s t (omega arith)) n s t lt
    exec_good f (Fork i e c r) k ws n s t lt =
        takes f i (Tests e) (Fork i e c (r ⨟ k)) k ws (λ x. c (picked x) ⨟ (r ⨟ k)) (λ x n s t. then_do (exec p again f (c (picked x)) n s t) (exec p again f r)) d (λ s t. refl) (λ x n s t lt. then_tells f r k ws n (suc d) (point f (c (picked x) ⨟ (r ⨟ k)) s ws t) (exec p again f (c (picked x)) n s t) (exec p again f r) (omega arith) (exec_good f (c (picked x)) (r ⨟ k) ws n s t (omega arith)) (exec_good f r)) n s t lt
    exec_good f (Loop i e b r) k ws n s t lt =
        takes f i (Tests e) (Loop i e b (r ⨟ k)) k ws (λ x. either (is_true (picked x)) (b ⨟ Loop i e b (r ⨟ k)) (r ⨟ k)) (λ x n s t. either (is_true (picked x)) (then_do (exec p again f b n s t) (again f (Loop i e b r))) (exec p again f r n s t)) d (λ s t. refl) (λ x n s t lt. turn f k ws n s t (b ⨟ Loop i e b (r ⨟ k)) (r ⨟ k) (then_do (exec p again f b n s t) (again f (Loop i e b r))) (exec p again f r n s t) (is_true (picked x)) (then_tells f (Loop i e b r) k ws n d (point f (b ⨟ Loop i e b (r ⨟ k)) s ws t) (exec p again f b n s t) (again f (Loop i e b r)) lt (exec_good f b (Loop i e b r ⨟ k) ws n s t (omega arith)) (good f (Loop i e b r))) (exec_good f r k ws n s t (omega arith))) n s t lt
    exec_good f (Leaves xs r) k ws n s t lt =
        after_move f k ws n _ _ (exec p again f r n (all_closed xs s) t) refl (exec_good f r k ws n (all_closed xs s) t lt)
    exec_good f (Call i to g args r) k ws n s t lt = calls f i to g args r k ws (exec p again f r) (exec_good f r) n s t lt

  deep_good : (d f : ℕ) (c : Code) → Good d f c (deep p d f c)
  deep_good zero f c k ws n s t lt = absurd (omega arith)
  deep_good (suc d) f c k ws n s t lt = exec_good d (deep p d) (deep_good d) f c k ws n s t lt

  ended : (f n : ℕ) (x : Point) (o : Outcome) → Tells f End [] n x o → ComesTo n x (answer o)
  ended f n x (Done left s t) h = h.1 (Ended t) (stop refl)
  ended f n x (Over a) h = h

  -- a list of function f comes to its meaning
  pub list_runs : (f n : ℕ) (c : Code) (input : List ℕ) → Runs (machine p) n (point f c (opening p input) [] nothing) (code_meaning p f n c input)
  list_runs f n c input =
      let h = subst (λ z. Tells f End [] n (point f z (opening p input) [] nothing) (deep p (suc n) f c n (opening p input) nothing)) (then_end c) (deep_good (suc n) f c End [] n (opening p input) nothing (omega arith)) in
      ended f n (point f c (opening p input) [] nothing) (deep p (suc n) f c n (opening p input) nothing) h

  pub meaning_runs : (n : ℕ) (input : List ℕ) → Runs (machine p) n (beginning p input) (main_meaning p n input)
  meaning_runs n input = list_runs p.main n (code_at p p.main) input

  -- ---- traces grow

  told_front : (i : ℕ) (x : Made) (t : Trace) → IsFront t (told i x t)
  told_front i x t =
      record { more_events = _; more_output = x.output; events_are = refl; output_is = refl }

  announced_front : (i : ℕ) (to : Target) (t : Trace) → IsFront t (announced i to t)
  announced_front i target.None t = told_front i (shows [] []) t
  announced_front i (target.Place e) t = front_same t
  announced_front i (target.Declared y) t = front_same t

  abbrev GrowsFrom : Trace → Step Point → Type 0
  GrowsFrom t Stops = Unit {0}
  GrowsFrom t (Fails i) = Unit {0}
  GrowsFrom t (Acts y) = IsFront t y.trace
  GrowsFrom t (Moves y) = IsFront t y.trace
  GrowsFrom t (Breaks i) = Unit {0}

  acted_grows : (f i : ℕ) (next : Made → Code) (s : State) (ws : List Waiting) (t : Trace) (o : Option Made) → GrowsFrom t (acted f i next s ws t o)
  acted_grows f i next s ws t None = tt
  acted_grows f i next s ws t (Some x) = told_front i x t

  entered_grows : (i : ℕ) (to : Target) (g : ℕ) (c : Code) (w : Waiting) (ws : List Waiting) (t : Trace) (o : Option State) → GrowsFrom t (entered i to g c w ws t o)
  entered_grows i to g c w ws t None = tt
  entered_grows i to g c w ws t (Some s) = announced_front i to t

  stored_grows : (w : Waiting) (s : State) (ws : List Waiting) (t : Trace) (o : Option Made) → GrowsFrom t (stored_back w s ws t o)
  stored_grows w s ws t None = tt
  stored_grows w s ws t (Some x) = told_front w.call x t

  back_grows : (to : Target) (w : Waiting) (v : Option Value) (s : State) (ws : List Waiting) (t : Trace) → GrowsFrom t (went_back p to w v s ws t)
  back_grows target.None w v s ws t = front_same t
  back_grows (target.Place e) w v s ws t = stored_grows w s ws t (received (types_in p w.function) (target.Place e) v s)
  back_grows (target.Declared y) w v s ws t = stored_grows w s ws t (received (types_in p w.function) (target.Declared y) v s)

  returned_grows : (g : ℕ) (s : State) (ws : List Waiting) (t : Trace) → GrowsFrom t (returned_to p g s ws t)
  returned_grows g s [] t = tt
  returned_grows g s (w ∷ ws) t = back_grows w.target w s.returned (resumed p g w.frame w.returned s) ws t

  step_grows : (f : ℕ) (c : Code) (s : State) (ws : List Waiting) (t : Trace) → GrowsFrom t (step_at p f c s ws t)
  step_grows f End s ws t = returned_grows f s ws t
  step_grows f (Opens x r) s ws t = front_same t
  step_grows f (Plain i a r) s ws t = acted_grows f i (λ x. r) s ws t (made (types_in p f) a s)
  step_grows f (Fork i e c r) s ws t = acted_grows f i (λ x. c (picked x) ⨟ r) s ws t (made (types_in p f) (Tests e) s)
  step_grows f (Loop i e b r) s ws t =
      acted_grows f i (λ x. either (is_true (picked x)) (b ⨟ Loop i e b r) r) s ws t (made (types_in p f) (Tests e) s)
  step_grows f (Leaves xs r) s ws t = front_same t
  step_grows f (Call i to g args r) s ws t = entered_grows i to g (code_at p g) (waiting i to f r s) ws t (called p f g args s)

  grows_as : (x : Point) (y : Step Point) → GrowsFrom x.trace y → Grows (machine p) x y
  grows_as x Stops h = tt
  grows_as x (Fails i) h = tt
  grows_as x (Acts y) h = h
  grows_as x (Moves y) h = h
  grows_as x (Breaks i) h = tt

  pub grows : (x : Point) → Grows (machine p) x (step p x)
  grows x = grows_as x (step p x) (step_grows x.function x.rest x.state x.callers x.trace)

-- ---- the laws

pub meaning_is_steps : MeaningIsSteps
meaning_is_steps p n input a =
    let e = executable p in
    let runs = meaning_runs e n input in
    (λ same. subst (Runs (machine e) n (beginning e input)) same runs, λ r. unique (machine e) n (beginning e input) (meaning n p input) a runs r)

pub ends_stay : EndsStay
ends_stay p m n input t le =
    let e = executable p in
    let here = meaning_runs e m input in
    let there = meaning_runs e n input in (
      λ same. unique (machine e) n (beginning e input) (meaning n p input) (Ended t) there (over_stays (machine e) m (beginning e input) (Ended t) (subst (Runs (machine e) m (beginning e input)) same here) refl n le),
      λ i same. unique (machine e) n (beginning e input) (meaning n p input) (Undefined i t) there (over_stays (machine e) m (beginning e input) (Undefined i t) (subst (Runs (machine e) m (beginning e input)) same here) refl n le),
    )

pub traces_grow : TracesGrow
traces_grow p m n input le =
    let e = executable p in
    told_more (machine e) (grows e) m n (beginning e input) (meaning m p input) (meaning n p input) (meaning_runs e m input) (meaning_runs e n input) le
