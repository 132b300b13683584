-- Each caller that waits has made its call at a point of the run.
use Rattle.std.proofs.Common.{◌≡◌, ℕ, List, [], ◌∷◌, ◌++◌, Option, Some, None, ◌⊎◌, inl, inr, refl, sym, ap, ◌∙◌, subst}
use Rattle.c_language.proofs.Lists.{no_list, head_is, tail_is}
use Rattle.c_tree.specs.declared.expr.Expr.{Expr}
use Rattle.c_tree.specs.declared.statement.Target.{Target}
use Rattle.c_tree.specs.declared.statement.Target.TheVariants as target
use Rattle.c_language.specs.Code.{Tests, Code, End, Opens, Plain, Fork, Loop, Leaves, Call, ◌⨟◌, is_true, either}
use Rattle.c_meaning.specs.declared.value.Value.{Value}
use Rattle.c_meaning.specs.Values.{State}
use Rattle.c_meaning.specs.Acts.{Made, made, picked}
use Rattle.c_meaning.specs.Activations.{Executable, code_at, types_in, called, resumed}
use Rattle.c_meaning.specs.Meaning.{Trace}
use Rattle.c_meaning.specs.Steps.{Step, Stops, Fails, Acts, Moves, Breaks, Reaches, here, by_act, by_move, Waiting, Point, waiting, acted, entered, stored_back, went_back, step_at, step, machine, beginning}
use Rattle.run_facts.specs.CallTouching.{WaitAt, Enters, Within, stays, goes_on, called_below, HasCalled}
use Rattle.run_facts.specs.KeptCells.{Leads}
use Rattle.run_facts.specs.Laws.{CallersHaveCalled}
use Rattle.run_facts.proofs.NextSteps.{reach_act, reach_move}

-- ---- what a step does to the callers that wait

-- the function that runs does what comes next
record Stays (f : ℕ) (cs : List Waiting) (u : Point) : Type 0 where
  callers_are : u.callers ≡ cs
  function_is : u.function ≡ f

-- a call begins, and its caller waits
record Calls (f : ℕ) (c : Code) (cs : List Waiting) (u : Point) : Type 0 where
  call : ℕ
  target : Target
  args : List Expr
  rest : Code
  rest_is : c ≡ Call call target u.function args rest
  caller : Waiting
  caller_is : caller.function ≡ f
  callers_are : u.callers ≡ caller ∷ cs

-- a call is done, and its caller goes on
record Returns (cs : List Waiting) (u : Point) : Type 0 where
  caller : Waiting
  caller_is : u.function ≡ caller.function
  callers_are : cs ≡ caller ∷ u.callers

abbrev Changes : ℕ → Code → List Waiting → Step Point → Type 0
Changes f c cs Stops = Unit {0}
Changes f c cs (Fails i) = Unit {0}
Changes f c cs (Acts u) = Stays f cs u ⊎ Calls f c cs u
Changes f c cs (Moves u) = Stays f cs u ⊎ Returns cs u
Changes f c cs (Breaks i) = Unit {0}

module _ (p : Executable) where
  act_changes : (f : ℕ) (c : Code) (s : State) (cs : List Waiting) (t : Trace) (i : ℕ) (next : Made → Code) (o : Option Made) → Changes f c cs (acted f i next s cs t o)
  act_changes f c s cs t i next None = tt
  act_changes f c s cs t i next (Some m) = inl (record { callers_are = refl; function_is = refl })

  call_changes : (f : ℕ) (s : State) (cs : List Waiting) (t : Trace) (i : ℕ) (to : Target) (g : ℕ) (args : List Expr) (r : Code) (o : Option State) → Changes f (Call i to g args r) cs (entered i to g (code_at p g) (waiting i to f r s) cs t o)
  call_changes f s cs t i to g args r None = tt
  call_changes f s cs t i to g args r (Some c) =
      inr (record { call = i; target = to; args = args; rest = r; rest_is = refl; caller = waiting i to f r s; caller_is = refl; callers_are = refl })

  store_changes : (f : ℕ) (w : Waiting) (s : State) (cs : List Waiting) (t : Trace) (o : Option Made) → Changes f End (w ∷ cs) (stored_back w s cs t o)
  store_changes f w s cs t None = tt
  store_changes f w s cs t (Some m) = inr (record { caller = w; caller_is = refl; callers_are = refl })

  back_changes : (f : ℕ) (to : Target) (w : Waiting) (v : Option Value) (s : State) (cs : List Waiting) (t : Trace) → Changes f End (w ∷ cs) (went_back p to w v s cs t)
  back_changes f target.None w v s cs t = inr (record { caller = w; caller_is = refl; callers_are = refl })
  back_changes f (target.Place e) w v s cs t = store_changes f w s cs t _
  back_changes f (target.Declared x) w v s cs t = store_changes f w s cs t _

  changes_at : (f : ℕ) (c : Code) (s : State) (cs : List Waiting) (t : Trace) → Changes f c cs (step_at p f c s cs t)
  changes_at f End s [] t = tt
  changes_at f End s (w ∷ cs) t = back_changes f w.target w s.returned (resumed p f w.frame w.returned s) cs t
  changes_at f (Opens x r) s cs t = inl (record { callers_are = refl; function_is = refl })
  changes_at f (Plain i a r) s cs t = act_changes f (Plain i a r) s cs t i (λ m. r) (made (types_in p f) a s)
  changes_at f (Fork i e c r) s cs t = act_changes f (Fork i e c r) s cs t i (λ m. c (picked m) ⨟ r) (made (types_in p f) (Tests e) s)
  changes_at f (Loop i e b r) s cs t =
      act_changes f (Loop i e b r) s cs t i (λ m. either (is_true (picked m)) (b ⨟ Loop i e b r) r) (made (types_in p f) (Tests e) s)
  changes_at f (Leaves xs r) s cs t = inl (record { callers_are = refl; function_is = refl })
  changes_at f (Call i to g args r) s cs t = call_changes f s cs t i to g args r (called p f g args s)

  -- ---- the calls of those that wait

  still_within : (ws : List Waiting) (y z u : Point) → Within p ws y z → Leads p z u → WaitAt ws u → Within p ws y u
  still_within ws y z u (stays w) leads wait = goes_on w leads (stays wait)
  still_within ws y z u (goes_on {y = v} w first rest) leads wait = goes_on w first (still_within ws v z u rest leads wait)

  module _ (start : Point) where
    abbrev AllCalled : Point → Type 0
    AllCalled z = (above ws : List Waiting) (w : Waiting) → z.callers ≡ above ++ (w ∷ ws) → HasCalled p start above ws w z

    -- a caller waits at the next point too
    waits_on : (z u : Point) (above more ws : List Waiting) (w : Waiting) → HasCalled p start above ws w z → Leads p z u → u.callers ≡ more ++ (w ∷ ws) → called_below above z.function ≡ called_below more u.function → HasCalled p start more ws w u
    waits_on z u above more ws w h leads callers same = record {
      from = h.from;
      begun = h.begun;
      reached = h.reached;
      enters = subst (Enters p h.from h.begun) same h.enters;
      callers_are = h.callers_are;
      within = still_within h.begun.callers h.begun z u h.within leads (record { above = more; callers_are = callers ∙ ap (λ cs. more ++ cs) (sym h.callers_are) });
    }

    stay : (z u : Point) → AllCalled z → Leads p z u → Stays z.function z.callers u → AllCalled u
    stay z u k leads h above ws w e =
        waits_on z u above above ws w (k above ws w (sym h.callers_are ∙ e)) leads e (ap (called_below above) (sym h.function_is))

    return_ : (z u : Point) → AllCalled z → Leads p z u → Returns z.callers u → AllCalled u
    return_ z u k leads h above ws w e =
        waits_on z u (h.caller ∷ above) above ws w (k (h.caller ∷ above) ws w (h.callers_are ∙ ap (λ cs. h.caller ∷ cs) e)) leads e (ap (called_below above) (sym h.caller_is))

    call : (z u : Point) → Reaches (machine p) start z → AllCalled z → step p z ≡ Acts u → Calls z.function z.rest z.callers u → AllCalled u
    call z u reached k is h [] ws w e = record {
      from = z;
      begun = u;
      reached = reached;
      enters = record { call = h.call; target = h.target; args = h.args; rest = h.rest; rest_is = h.rest_is; begins = is };
      callers_are = e;
      within = stays (record { above = []; callers_are = refl });
    }
    call z u reached k is h (b ∷ above) ws w e =
        let both : h.caller ∷ z.callers ≡ b ∷ (above ++ (w ∷ ws)) = sym h.callers_are ∙ e in
        let function : b.function ≡ z.function = ap (λ (c : Waiting). c.function) (sym (head_is both)) ∙ h.caller_is in
        waits_on z u above (b ∷ above) ws w (k above ws w (tail_is both)) (inl is) e (ap (called_below above) (sym function))

    acts_called : (z u : Point) → Reaches (machine p) start z → AllCalled z → step p z ≡ Acts u → AllCalled u
    acts_called z u reached k is =
        elim (subst (Changes z.function z.rest z.callers) is (changes_at z.function z.rest z.state z.callers z.trace)) [
          | inl h ↦ stay z u k (inl is) h
          | inr h ↦ call z u reached k is h
        ]

    moves_called : (z u : Point) → AllCalled z → step p z ≡ Moves u → AllCalled u
    moves_called z u k is =
        elim (subst (Changes z.function z.rest z.callers) is (changes_at z.function z.rest z.state z.callers z.trace)) [
          | inl h ↦ stay z u k (inr is) h
          | inr h ↦ return_ z u k (inr is) h
        ]

    all_called : (s z : Point) → Reaches (machine p) s z → Reaches (machine p) start s → AllCalled s → AllCalled z
    all_called s z here reached k = k
    all_called s z (by_act {t = v} is r) reached k = all_called v z r (reach_act (machine p) start s v reached is) (acts_called s v reached k is)
    all_called s z (by_move {t = v} is r) reached k = all_called v z r (reach_move (machine p) start s v reached is) (moves_called s v k is)

none_wait : {A : Type 0} (above ws : List Waiting) (w : Waiting) → ◌≡◌ {A = List Waiting} [] (above ++ (w ∷ ws)) → A
none_wait [] ws w e = no_list (sym e)
none_wait (b ∷ above) ws w e = no_list (sym e)

pub callers_have_called : CallersHaveCalled
callers_have_called p input z r =
    all_called p (beginning p input) (beginning p input) z r here (λ above ws w e. none_wait above ws w e)
