-- A step that leads to a point is of one of the kinds; so what each kind keeps holds wherever a run comes.
use Rattle.std.proofs.Common.{◌≡◌, ℕ, List, [], ◌∷◌, true, Option, Some, None, inl, inr, refl, sym, subst}
use Rattle.c_tree.specs.declared.expr.Expr.{Expr}
use Rattle.c_tree.specs.declared.statement.Target.{Target}
use Rattle.c_tree.specs.declared.statement.Target.TheVariants as target
use Rattle.c_language.specs.Code.{Act, Code, End, Opens, Plain, Fork, Loop, Leaves, Call}
use Rattle.c_meaning.specs.Values.{State}
use Rattle.c_meaning.specs.Acts.{Made, made}
use Rattle.c_meaning.specs.Activations.{Executable, code_at, types_in, called, received}
use Rattle.c_meaning.specs.Steps.{Step, Stops, Fails, Acts, Moves, Breaks, Reaches, here, by_act, by_move, Waiting, Point, waiting, acted, entered, stored_back, went_back, returned_to, step, machine}
use Rattle.run_facts.specs.Effects.{back_in}
use Rattle.run_facts.specs.KeptCells.{Leads}
use Rattle.run_facts.specs.Laws.{StepsHaveKinds}
use Rattle.run_facts.specs.NextSteps.{Ends, Does, Calls, next_of, step_by, stores}
use Rattle.run_facts.specs.StepKinds as kinds
use Rattle.run_facts.specs.StepKinds.{Change, Opened, Closed, changed, change_first, MovesOn, DoesAct, BeginsCall, ReturnsOnly, ReturnsStoring, moved_to, acted_to, called_to, returned_only, returned_storing, StepKind}
use Rattle.run_facts.proofs.NextSteps.{steps_are_next, reach_act, reach_move}

module _ (p : Executable) where
  -- ---- the kind of a step

  abbrev IsOfKind : Point → Step Point → Type 0
  IsOfKind x Stops = Unit {0}
  IsOfKind x (Fails i) = Unit {0}
  IsOfKind x (Acts y) = StepKind p x y
  IsOfKind x (Moves y) = StepKind p x y
  IsOfKind x (Breaks i) = Unit {0}

  act_kind : (x : Point) (i : ℕ) (a : Act) (go : Made → Code) (o : Option Made) → next_of x.rest ≡ Does i a go → made (types_in p x.function) a x.state ≡ o → IsOfKind x (acted x.function i go x.state x.callers x.trace o)
  act_kind x i a go None e m = tt
  act_kind x i a go (Some v) e m = kinds.acts (record { statement = i; act = a; go = go; value = v; next_is = e; made_is = m }) refl

  call_kind : (x : Point) (i : ℕ) (to : Target) (g : ℕ) (args : List Expr) (r : Code) (o : Option State) → next_of x.rest ≡ Calls i to g args r → called p x.function g args x.state ≡ o → IsOfKind x (entered i to g (code_at p g) (waiting i to x.function r x.state) x.callers x.trace o)
  call_kind x i to g args r None e c = tt
  call_kind x i to g args r (Some s) e c =
      kinds.begins (record { statement = i; target = to; function = g; args = args; rest = r; begun = s; next_is = e; called_is = c }) refl

  store_kind : (x : Point) (w : Waiting) (ws : List Waiting) (o : Option Made) → next_of x.rest ≡ Ends → x.callers ≡ w ∷ ws → stores w.target ≡ true → received (types_in p w.function) w.target x.state.returned (back_in p x.function w x.state) ≡ o → IsOfKind x (stored_back w (back_in p x.function w x.state) ws x.trace o)
  store_kind x w ws None e c s m = tt
  store_kind x w ws (Some v) e c s m =
      kinds.stores_result (record { caller = w; others = ws; value = v; next_is = e; callers_are = c; target_is = s; received_is = m }) refl

  -- a caller with this target
  back_kind : (x : Point) (to : Target) (w : Waiting) (ws : List Waiting) → next_of x.rest ≡ Ends → x.callers ≡ w ∷ ws → w.target ≡ to → IsOfKind x (went_back p to w x.state.returned (back_in p x.function w x.state) ws x.trace)
  back_kind x target.None w ws e c t =
      kinds.returns (record { caller = w; others = ws; next_is = e; callers_are = c; target_is = rw t refl }) refl
  back_kind x (target.Place l) w ws e c t =
      subst (λ to. IsOfKind x (stored_back w (back_in p x.function w x.state) ws x.trace (received (types_in p w.function) to x.state.returned (back_in p x.function w x.state)))) t (store_kind x w ws _ e c (rw t refl) refl)
  back_kind x (target.Declared y) w ws e c t =
      subst (λ to. IsOfKind x (stored_back w (back_in p x.function w x.state) ws x.trace (received (types_in p w.function) to x.state.returned (back_in p x.function w x.state)))) t (store_kind x w ws _ e c (rw t refl) refl)

  return_kind : (x : Point) (ws : List Waiting) → next_of x.rest ≡ Ends → x.callers ≡ ws → IsOfKind x (returned_to p x.function x.state ws x.trace)
  return_kind x [] e c = tt
  return_kind x (w ∷ ws) e c = back_kind x w.target w ws e c refl

  -- what the point's list is, and what it does next by that
  kind_at : (x : Point) (c : Code) → x.rest ≡ c → next_of x.rest ≡ next_of c → IsOfKind x (step_by p x.function (next_of c) x.state x.callers x.trace)
  kind_at x End is e = return_kind x x.callers e refl
  kind_at x (Opens y r) is e = kinds.moves (record { change = Opened y; rest = r; rest_is = is; next_is = e }) refl
  kind_at x (Plain i a r) is e = act_kind x i a _ _ e refl
  kind_at x (Fork i b c r) is e = act_kind x i _ _ _ e refl
  kind_at x (Loop i b c r) is e = act_kind x i _ _ _ e refl
  kind_at x (Leaves ys r) is e = kinds.moves (record { change = Closed ys; rest = r; rest_is = is; next_is = e }) refl
  kind_at x (Call i to g args r) is e = call_kind x i to g args r _ e refl

  kind_of : (x : Point) → IsOfKind x (step p x)
  kind_of x = subst (IsOfKind x) (sym (steps_are_next p x)) (kind_at x x.rest refl refl)

  pub step_kind : (x y : Point) → Leads p x y → StepKind p x y
  step_kind x y (inl acts) = subst (IsOfKind x) acts (kind_of x)
  step_kind x y (inr moves) = subst (IsOfKind x) moves (kind_of x)

  -- ---- invariants

  -- each kind of step keeps it, where this is known besides of the point before the step
  pub record IsKept (Known Holds : Point → Type 0) : Type 0 where
    pub moves : (x : Point) (k : MovesOn p x) → Known x → Holds x → Holds (moved_to p x k)
    pub acts : (x : Point) (k : DoesAct p x) → Known x → Holds x → Holds (acted_to p x k)
    pub begins : (x : Point) (k : BeginsCall p x) → Known x → Holds x → Holds (called_to p x k)
    pub returns : (x : Point) (k : ReturnsOnly p x) → Known x → Holds x → Holds (returned_only p x k)
    pub stores_result : (x : Point) (k : ReturnsStoring p x) → Known x → Holds x → Holds (returned_storing p x k)

  module _ (Known Holds : Point → Type 0) (kept : IsKept Known Holds) where
    by_kind : (x y : Point) → StepKind p x y → Known x → Holds x → Holds y
    by_kind x y (kinds.moves k is) known h = subst Holds (sym is) (kept.moves x k known h)
    by_kind x y (kinds.acts k is) known h = subst Holds (sym is) (kept.acts x k known h)
    by_kind x y (kinds.begins k is) known h = subst Holds (sym is) (kept.begins x k known h)
    by_kind x y (kinds.returns k is) known h = subst Holds (sym is) (kept.returns x k known h)
    by_kind x y (kinds.stores_result k is) known h = subst Holds (sym is) (kept.stores_result x k known h)

    -- after a step
    pub kept_step : (x y : Point) → Leads p x y → Known x → Holds x → Holds y
    kept_step x y leads known h = by_kind x y (step_kind x y leads) known h

    module _ (start : Point) (known : (x : Point) → Reaches (machine p) start x → Known x) where
      kept_on : (x y : Point) → Reaches (machine p) start x → Reaches (machine p) x y → Holds x → Holds y
      kept_on x y before here h = h
      kept_on x y before (by_act {t = z} is r) h =
          kept_on z y (reach_act (machine p) start x z before is) r (kept_step x z (inl is) (known x before) h)
      kept_on x y before (by_move {t = z} is r) h =
          kept_on z y (reach_move (machine p) start x z before is) r (kept_step x z (inr is) (known x before) h)

      -- wherever steps lead
      pub kept_run : (x : Point) → Reaches (machine p) start x → Holds start → Holds x
      kept_run x r h = kept_on start x here r h

pub steps_have_kinds : StepsHaveKinds
steps_have_kinds p x y leads = step_kind p x y leads
