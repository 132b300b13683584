-- A call touches what its function uses and modifies, and leaves the rest as it was.
use Rattle.std.proofs.Common.{◌≡◌, ℕ, ◌<◌, ◌≤◌, List, [], ◌∷◌, length, Option, Some, None, Bool, true, false, inl, inr, refl, sym, ap, ◌∙◌, subst, arith}
use Rattle.std.specs.Prelude.{Contains, option_and_then, is_some}
use Rattle.c_language.proofs.Options.{some_same}
use Rattle.c_tree.specs.declared.expr.Expr.{Expr}
use Rattle.c_tree.specs.declared.program.Program.{Program}
use Rattle.c_tree.specs.declared.statement.Target.{Target}
use Rattle.c_language.specs.Code.{Code}
use Rattle.c_meaning.specs.declared.value.Place.{Place}
use Rattle.c_meaning.specs.Memory.{held, read, is_cell}
use Rattle.c_meaning.specs.Values.{Origin, State}
use Rattle.c_meaning.specs.Activations.{Executable, executable, code_at, called}
use Rattle.c_meaning.specs.Meaning.{announced}
use Rattle.c_meaning.specs.Steps.{Acts, Reaches, Waiting, Point, point, waiting, entered, step_at, machine, beginning}
use Rattle.dep_model.specs.declared.location.Location.{Location}
use Rattle.dep_model.specs.Doings.{Doing, doings_of}
use Rattle.dep_model.specs.DoingEffects.{the_input, is_global}
use Rattle.dep_model.specs.LocationLists.{AreStructsInOrder}
use Rattle.dep_model.specs.ModRef.{IsCalledFrom, itself, Modifies, MayUse}
use Rattle.dep_model.specs.SystemGraph.{Analysis}
use Rattle.dep_model.proofs.Membership.{IsIn, in_of_contains}
use Rattle.dep_model.proofs.StructOrder.{well_formed_in_order}
use Rattle.typed_programs.specs.TypedStatements.{IsTyped}
use Rattle.typed_programs.proofs.TreeTypes.{type_is}
use Rattle.typed_programs.proofs.TypedPrograms.{programs_typed}
use Rattle.run_facts.specs.CallTouching.{WaitAt, Within, stays, goes_on, IsOldAt, TouchesInCall, InCall}
use Rattle.run_facts.specs.CellLocations.{location_of}
use Rattle.run_facts.specs.Effects.{Touch, Effect}
use Rattle.run_facts.specs.KeptCells.{IsSameCell, KeepsRest, Leads}
use Rattle.run_facts.specs.Laws.{CallsTouchWhatFunctionsSay}
use Rattle.run_facts.specs.TypedStates.{IsTypedState}
use Rattle.run_facts.proofs.CellPlaces.{same_back, one_place}
use Rattle.run_facts.proofs.ExprsDenoted.{AreShapes}
use Rattle.run_facts.proofs.GlobalVariables.{variables_of, globals_global}
use Rattle.run_facts.proofs.InCalls.{grown_length, IsSaid, IsInCall, in_step}
use Rattle.run_facts.proofs.KeptStates.{called_keeps, steps_keep_the_rest}
use Rattle.run_facts.proofs.Members.{all_from}
use Rattle.run_facts.proofs.NextSteps.{reach_act, reach_move}
use Rattle.run_facts.proofs.Points.{IsSound, called_passed, sound_step, sound_run}
use Rattle.run_facts.proofs.OldBlocks.{old_called, opening_names}
use Rattle.run_facts.proofs.Statements.{bodies}
use Rattle.run_facts.proofs.TypedRuns.{typed_run}

abbrev Mine : Program → ℕ → Doing → Type 0
Mine p f d = IsIn (doings_of p f) d

sound_next : (p : Program) (x y : Point) → IsSound (executable p) (Mine p) x → Leads (executable p) x y → IsSound (executable p) (Mine p) y
sound_next p x y h leads = sound_step (executable p) (Mine p) (bodies p) x y leads h

-- the states of a run are typed
abbrev AreTyped : Program → Analysis → Point → Type 0
AreTyped p a start = (z : Point) → Reaches (machine (executable p)) start z → IsTypedState p a.points z.state

reach_next : (p : Executable) (start x y : Point) → Reaches (machine p) start x → Leads p x y → Reaches (machine p) start y
reach_next p start x y r (inl acts) = reach_act (machine p) start x y r acts
reach_next p start x y r (inr moves) = reach_move (machine p) start x y r moves

module _ (p : Program) (a : Analysis) (order : AreStructsInOrder p) (shapes : AreShapes p) (fit : IsTyped p) (start : Point) (typed : AreTyped p a start) (global : (x : ℕ) → IsIn (variables_of (executable p).globals) x → is_global p x ≡ true) (g : ℕ) (os : List Origin) (w0 : Waiting) (ws : List Waiting) where
  abbrev IsHere : Point → Type 0
  IsHere x = IsInCall p a order shapes fit global g os w0 ws x

  abbrev FromStart : Point → Type 0
  FromStart x = Reaches (machine (executable p)) start x

  -- ---- a step

  first_waits : (x z : Point) → Within (executable p) (w0 ∷ ws) x z → WaitAt (w0 ∷ ws) x
  first_waits x z (stays w) = w
  first_waits x z (goes_on w leads rest) = w

  -- what is stored in the call is stored apart from what the function doesn't modify
  apart : (x : Point) (ef : Effect) → IsTypedState p a.points x.state → IsSaid p a order shapes fit global g os w0 ws x.state.origins ef → (q : Place) (l : Location) → q.block < length os → is_cell x.state.memory q ≡ true → location_of os q ≡ Some l → (Modifies p a.points g l → ⊥) → (w : Touch) → Contains ef.stores w → IsSameCell x.state.memory w.cell q → ⊥
  apart x ef holds said q l lt live at none w c same =
      let lower : w.cell.block < length os = subst (λ n. n < length os) (sym same.block_is) lt in
      let stored = said.stores w (in_of_contains ef.stores w c) lower in
      let here : q ≡ w.cell = one_place p order x.state.memory q w.cell holds.structs_are live (same_back x.state.memory w.cell q same) in
      let its : stored.location ≡ l = some_same (sym stored.location_is ∙ (ap (location_of os) (sym here) ∙ at)) in
      none (subst (Modifies p a.points g) its stored.among)

  untaken : (s t : State) (ef : Effect) → KeepsRest s t ef → (ef.takes ≡ true → Modifies p a.points g the_input) → (Modifies p a.points g the_input → ⊥) → (b : Bool) → ef.takes ≡ b → t.unread ≡ s.unread
  untaken s t ef keeps takes none true is = absurd (none (takes is))
  untaken s t ef keeps takes none false is = keeps.input is

  -- ---- from a point of the call to a later one

  pub record Comes (x z : Point) : Type 0 where
    pub reached : FromStart z
    pub sound : IsSound (executable p) (Mine p) z
    pub in_call : IsHere z
    pub live : (q : Place) → q.block < length os → is_cell z.state.memory q ≡ true → is_cell x.state.memory q ≡ true
    pub cells : (q : Place) (l : Location) → q.block < length os → is_cell z.state.memory q ≡ true → location_of os q ≡ Some l → (Modifies p a.points g l → ⊥) → read z.state.memory q ≡ read x.state.memory q
    pub input : (Modifies p a.points g the_input → ⊥) → z.state.unread ≡ x.state.unread

  pub comes : (x z : Point) → Within (executable p) (w0 ∷ ws) x z → FromStart x → IsSound (executable p) (Mine p) x → IsHere x → Comes x z
  comes x z (stays w) reached sound k =
      record { reached = reached; sound = sound; in_call = k; live = λ q lt live. live; cells = λ q l lt live at none. refl; input = λ none. refl }
  comes x z (goes_on {y = y} w leads rest) reached sound k =
      let holds = typed x reached in
      let next = in_step p a order shapes fit global g os w0 ws x y sound holds k leads (first_waits y z rest) in
      let said = next.1.1.1 in
      let keeps = steps_keep_the_rest (executable p) x y next.1.0 leads next.1.1.0 in
      let more = comes y z rest (reach_next (executable p) start x y reached leads) (sound_next p x y sound leads) next.0 in
      let long = grown_length os x.state.origins k.grows in
      let tracked = sound.placed.tracked in
      record {
        reached = more.reached;
        sound = more.sound;
        in_call = more.in_call;
        live = λ q lt live. keeps.live q (omega (arith, lt, long, tracked)) (more.live q lt live);
        cells = λ q l lt live at none.
            let there = more.live q lt live in
            let old : q.block < length x.state.memory.blocks = omega (arith, lt, long, tracked) in
            more.cells q l lt live at none ∙ keeps.cells q old there (apart x next.1.0 holds said q l lt (keeps.live q old there) at none);
        input = λ none. more.input none ∙ untaken x.state y.state next.1.0 keeps (λ h. (said.input h).1) none next.1.0.takes refl;
      }

-- ---- where a call begins

record HasEntered (p : Executable) (x y : Point) (i : ℕ) (to : Target) (g : ℕ) (args : List Expr) (r : Code) : Type 0 where
  called_is : called p x.function g args x.state ≡ Some y.state
  function_is : g ≡ y.function
  callers_are : y.callers ≡ waiting i to x.function r x.state ∷ x.callers

entered_at : (p : Executable) (x y : Point) (i : ℕ) (to : Target) (g : ℕ) (args : List Expr) (r : Code) (o : Option State) → called p x.function g args x.state ≡ o → entered i to g (code_at p g) (waiting i to x.function r x.state) x.callers x.trace o ≡ Acts y → HasEntered p x y i to g args r
entered_at p x y i to g args r None is e = cc
entered_at p x y i to g args r (Some s) is e =
    let same : point g (code_at p g) s (waiting i to x.function r x.state ∷ x.callers) (announced i to x.trace) ≡ y = cc in
    record { called_is = is ∙ ap (λ (z : Point). Some z.state) same; function_is = ap (λ (z : Point). z.function) same; callers_are = ap (λ (z : Point). z.callers) (sym same) }

module _ (p : Program) (a : Analysis) (order : AreStructsInOrder p) (shapes : AreShapes p) (fit : IsTyped p) (start : Point) (typed : AreTyped p a start) (global : (x : ℕ) → IsIn (variables_of (executable p).globals) x → is_global p x ≡ true) (x y : Point) (i : ℕ) (to : Target) (g : ℕ) (args : List Expr) (r : Code) (at : HasEntered (executable p) x y i to g args r) (sound : IsSound (executable p) (Mine p) x) where
  abbrev os : List Origin
  os = x.state.origins

  abbrev w0 : Waiting
  w0 = waiting i to x.function r x.state

  entered_in : IsInCall p a order shapes fit global g os w0 x.callers y
  entered_in =
      let tracked = sound.placed.tracked in
      let most : length os ≤ length x.state.memory.blocks = omega (arith, tracked) in
      record {
        above = [];
        callers_are = at.callers_are;
        called_from = subst (IsCalledFrom p g) at.function_is itself;
        names = old_called (λ v. is_global p v ≡ true) (length os) (executable p) x.function g args x.state y.state most (λ v b q lt. global v (opening_names (executable p) v b q)) at.called_is;
        grows = (called_passed (executable p) x.function x.state sound.placed sound.globals g args y.state at.called_is).grows;
        waiting_ = tt;
      }

  lower : (n : ℕ) → n < length x.state.memory.blocks → n < length os
  lower n lt = let tracked = sound.placed.tracked in omega (arith, tracked, lt)

  said_touches : (here : List Origin) (ef : Effect) → IsSaid p a order shapes fit global g os w0 x.callers here ef → TouchesInCall p a g (length x.state.memory.blocks) os ef
  said_touches here ef said = record {
    reads_are = all_from (IsOldAt (length x.state.memory.blocks) os (MayUse p a.points g)) ef.reads (λ w j lt. said.reads w j (lower w.cell.block lt));
    stores_are = all_from (IsOldAt (length x.state.memory.blocks) os (Modifies p a.points g)) ef.stores (λ w j lt. said.stores w j (lower w.cell.block lt));
    input_is = said.input;
  }

  in_call : (z : Point) → Within (executable p) (w0 ∷ x.callers) y z → Reaches (machine (executable p)) start y → IsSound (executable p) (Mine p) y → InCall p a g x y z
  in_call z within reached sound_y =
      let more = comes p a order shapes fit start typed global g os w0 x.callers y z within reached sound_y entered_in in
      let old = called_keeps (executable p) x.function g args x.state y.state at.called_is in
      record {
        runs = more.in_call.called_from;
        steps_touch = λ u leads wait.
            let next = in_step p a order shapes fit global g os w0 x.callers z u more.sound (typed z more.reached) more.in_call leads (subst (λ cs. WaitAt cs u) at.callers_are wait) in
            record {
              effect = next.1.0;
              effect_is = next.1.1.0;
              touches = said_touches z.state.origins next.1.0 next.1.1.1;
              outside = λ w c l at out. next.1.1.1.outside w (in_of_contains next.1.0.stores w c) l at out;
            };
        keeps = record {
          live = λ q lt live. sym (ap is_some (old.cells q lt)) ∙ more.live q (lower q.block lt) live;
          cells = λ q l lt live located none. more.cells q l (lower q.block lt) live located none ∙ ap (option_and_then held) (old.cells q lt);
          input = λ none. more.input none ∙ old.input;
        };
      }

pub calls_touch : CallsTouchWhatFunctionsSay
calls_touch p a well analysed input x y z g reach enters within =
    let start = beginning (executable p) input in
    let typed : AreTyped p a start = λ u r. (typed_run p a.points well analysed.points_are input u r).state in
    let sound = sound_run (executable p) (Mine p) (bodies p) input x reach in
    let begins = sym (ap (λ c. step_at (executable p) x.function c x.state x.callers x.trace) enters.rest_is) ∙ enters.begins in
    let at = entered_at (executable p) x y enters.call enters.target g enters.args enters.rest (called (executable p) x.function g enters.args x.state) refl begins in
    in_call p a (well_formed_in_order p well) (type_is p) (programs_typed p well) start typed (globals_global p well) x y enters.call enters.target g enters.args enters.rest at sound z (subst (λ cs. Within (executable p) cs y z) at.callers_are within) (reach_next (executable p) start x y reach (inl enters.begins)) (sound_next p x y sound (inl enters.begins))
