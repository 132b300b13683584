-- What is left to do comes to the meaning: along steps, and where a run stands.
use Rattle.std.proofs.Common.{◌≡◌, ℕ, suc, ◌+◌, List, Option, Some, None, ◌⊎◌, inl, inr, refl, subst, arith}
use Rattle.c_tree.specs.declared.program.Program.{Program}
use Rattle.c_tree.specs.declared.statement.Target.{Target}
use Rattle.c_language.specs.Code.{Tests, Code, End, Opens, Plain, Fork, Loop, Leaves, Call, ◌⨟◌, is_true, either}
use Rattle.c_meaning.specs.Acts.{Made, made, picked}
use Rattle.c_meaning.specs.Activations.{Executable, executable, code_at, types_in, called}
use Rattle.c_meaning.specs.Meaning.{Trace, Answer, Ended, Undefined, More, meaning}
use Rattle.c_meaning.specs.Steps.{Step, Stops, Fails, Acts, Moves, Breaks, Runs, Waiting, Point, waiting, acted, entered, machine, step_at, step, beginning}
use Rattle.c_meaning.specs.Values.{State}
use Rattle.c_meaning.proofs.Runs.{by_step}
use Rattle.c_meaning.proofs.MeaningSteps.{meaning_runs}
use Rattle.c_machine.specs.Rests.{IsAct}
use Rattle.c_machine.specs.Runs.{Leads, IsAhead}

-- ---- acts come next

-- a step that an act takes: it is done, or undefined
abbrev IsActed : Step Point → Type 0
IsActed s = ((i : ℕ) × (s ≡ Fails i)) ⊎ ((y : Point) × (s ≡ Acts y))

acted_acts : (f i : ℕ) (go : Made → Code) (s : State) (ws : List Waiting) (t : Trace) (o : Option Made) → IsActed (acted f i go s ws t o)
acted_acts f i go s ws t None = inl (i, refl)
acted_acts f i go s ws t (Some m) = inr (_, refl)

entered_acts : (i : ℕ) (to : Target) (g : ℕ) (c : Code) (w : Waiting) (ws : List Waiting) (t : Trace) (o : Option State) → IsActed (entered i to g c w ws t o)
entered_acts i to g c w ws t None = inl (i, refl)
entered_acts i to g c w ws t (Some s) = inr (_, refl)

module _ (e : Executable) where
  acts_at : (f : ℕ) (c : Code) (s : State) (ws : List Waiting) (t : Trace) → IsAct c → IsActed (step_at e f c s ws t)
  acts_at f End s ws t is = absurd is
  acts_at f (Opens x k) s ws t is = absurd is
  acts_at f (Plain i a k) s ws t is = acted_acts f i (λ m. k) s ws t (made (types_in e f) a s)
  acts_at f (Fork i a c k) s ws t is = acted_acts f i (λ m. c (picked m) ⨟ k) s ws t (made (types_in e f) (Tests a) s)
  acts_at f (Loop i a b k) s ws t is =
      acted_acts f i (λ m. either (is_true (picked m)) (b ⨟ Loop i a b k) k) s ws t (made (types_in e f) (Tests a) s)
  acts_at f (Leaves xs k) s ws t is = absurd is
  acts_at f (Call i to g args k) s ws t is = entered_acts i to g (code_at e g) (waiting i to f k s) ws t (called e f g args s)

-- ---- along steps

module _ (p : Program) where
  pub leads_same : (x : Point) → Leads p x x
  leads_same x n a r = r

  pub leads_then : (x y z : Point) → Leads p x y → Leads p y z → Leads p x z
  leads_then x y z f g n a r = g n a (f n a r)

  pub leads_move : (x y : Point) → step (executable p) x ≡ Moves y → Leads p x y
  leads_move x y e n a r = rw e at (by_step (machine (executable p)) n x a r)

  module _ (input : List ℕ) where
    pub ahead_start : IsAhead p input 0 (beginning (executable p) input)
    ahead_start n =
        let e : n ≡ 0 + n = omega arith in
        subst (λ m. Runs (machine (executable p)) n (beginning (executable p) input) (meaning m p input)) e (meaning_runs (executable p) n input)

    pub ahead_led : (k : ℕ) (x y : Point) → Leads p x y → IsAhead p input k x → IsAhead p input k y
    ahead_led k x y l h n = l n _ (h n)

    pub ahead_act : (k : ℕ) (x y : Point) → step (executable p) x ≡ Acts y → IsAhead p input k x → IsAhead p input (k + 1) y
    ahead_act k x y e h n =
        let q : k + suc n ≡ k + 1 + n = omega arith in
        subst (λ m. Runs (machine (executable p)) n y (meaning m p input)) q (rw e at (by_step (machine (executable p)) (suc n) x _ (h (suc n))))

    at_none : (k : ℕ) (a : Answer) → meaning (k + 0) p input ≡ a → meaning k p input ≡ a
    at_none k a h =
        let e : k + 0 ≡ k = omega arith in
        subst (λ m. meaning m p input ≡ a) e h

    pub ahead_ends : (k : ℕ) (x : Point) → step (executable p) x ≡ Stops → IsAhead p input k x → meaning k p input ≡ Ended x.trace
    ahead_ends k x e h = at_none k (Ended x.trace) (rw e at (by_step (machine (executable p)) 0 x _ (h 0)))

    pub ahead_breaks : (k i : ℕ) (x : Point) → step (executable p) x ≡ Breaks i → IsAhead p input k x → meaning k p input ≡ Undefined i x.trace
    ahead_breaks k i x e h = at_none k (Undefined i x.trace) (rw e at (by_step (machine (executable p)) 0 x _ (h 0)))

    pub ahead_fails : (k i : ℕ) (x : Point) → step (executable p) x ≡ Fails i → IsAhead p input k x → meaning (k + 1) p input ≡ Undefined i x.trace
    ahead_fails k i x e h = rw e at (by_step (machine (executable p)) 1 x _ (h 1))

    pub ahead_goes : (k : ℕ) (x : Point) → IsAct x.rest → IsAhead p input k x → meaning k p input ≡ More x.trace
    ahead_goes k x is h = at_none k (More x.trace) (by (acts_at (executable p) x.function x.rest x.state x.callers x.trace is))
      where
        by : IsActed (step (executable p) x) → meaning (k + 0) p input ≡ More x.trace
        by (inl u) = rw (u.1) at (by_step (machine (executable p)) 0 x _ (h 0))
        by (inr u) = rw (u.1) at (by_step (machine (executable p)) 0 x _ (h 0))
