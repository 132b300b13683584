-- A step of the original alone leaves to each caller that waits what its callee doesn't modify: where a location is seen outside in blocks
-- of any age, and else in those that the caller names.
use Rattle.std.proofs.Common.{◌≡◌, ℕ, ◌<◌, List, [], ◌∷◌, ◌++◌, length, Option, Some, None, true, false, inl, inr, sym, ap, ◌∙◌, subst, arith, append_assoc, append-nil}
use Rattle.std.specs.Prelude.{Contains, option_map, slice_get}
use Rattle.std.proofs.lemmas.Bool.{false≢true}
use Rattle.std.proofs.lemmas.Option.{slice_get_within}
use Rattle.c_language.proofs.Options.{some_same}
use Rattle.c_tree.specs.declared.expr.Expr.{Expr}
use Rattle.c_tree.specs.declared.program.Program.{Program}
use Rattle.c_tree.specs.declared.statement.Target.{Target}
use Rattle.c_language.specs.Code.{Code}
use Rattle.c_language.specs.Programs.{IsWellFormed}
use Rattle.c_meaning.specs.declared.value.Hop.{Hop}
use Rattle.c_meaning.specs.declared.value.Place.{Place}
use Rattle.c_meaning.specs.Memory.{is_cell, read}
use Rattle.c_meaning.specs.Values.{Origin, OfVariable, State}
use Rattle.c_meaning.specs.Activations.{Executable, executable, code_at, called}
use Rattle.c_meaning.specs.Meaning.{announced}
use Rattle.c_meaning.specs.Steps.{Acts, Waiting, Point, point, waiting, entered, step_at, Reaches, machine, beginning}
use Rattle.dep_model.specs.declared.location.Location.{Location}
use Rattle.dep_model.specs.Doings.{doings_of}
use Rattle.dep_model.specs.DoingEffects.{the_input}
use Rattle.dep_model.specs.ModRef.{is_outside, Modifies}
use Rattle.dep_model.specs.SystemGraph.{Analysis, IsAnalysis}
use Rattle.dep_model.proofs.Membership.{IsIn}
use Rattle.dep_model.proofs.StructOrder.{well_formed_in_order}
use Rattle.run_facts.specs.CallTouching.{WaitAt, Enters, Within, stays, goes_on, called_below, HasCalled, StepInCall, InCall}
use Rattle.run_facts.specs.CellLocations.{location_in, location_of}
use Rattle.run_facts.specs.Counting.{Counts}
use Rattle.run_facts.specs.Effects.{Touch}
use Rattle.run_facts.specs.KeptCells.{IsSameCell, KeepsRest, Leads}
use Rattle.run_facts.proofs.Blocks.{get_more}
use Rattle.run_facts.proofs.CallersCalled.{callers_have_called}
use Rattle.run_facts.proofs.CallTouched.{calls_touch}
use Rattle.run_facts.proofs.CellPlaces.{same_back, one_place}
use Rattle.run_facts.proofs.InCalls.{get_less}
use Rattle.run_facts.proofs.KeptStates.{steps_keep_the_rest}
use Rattle.run_facts.proofs.Points.{sound_run}
use Rattle.run_facts.proofs.Statements.{bodies}
use Rattle.run_facts.proofs.TypedRuns.{typed_run}
use Rattle.simulation.specs.Renaming.{World, Stands, AlikeCell, cell_at, Names, BlocksStand, AlikeAt}
use Rattle.simulation.specs.Settings.{seen}
use Rattle.simulation_steps.proofs.AlikeOn.{old_block}
use Rattle.simulation_steps.proofs.KeptOutlines.{steps_keep_outlines}

within_more : (p : Executable) (ws : List Waiting) (x y z : Point) → Within p ws x y → Leads p y z → WaitAt ws z → Within p ws x z
within_more p ws x y z (stays w) leads wait = goes_on w leads (stays wait)
within_more p ws x y z (goes_on {y = u} w first rest) leads wait = goes_on w first (within_more p ws u y z rest leads wait)

within_grows : (p : Executable) (ws : List Waiting) (x y : Point) → Within p ws x y → (new : List Origin) × (y.state.origins ≡ x.state.origins ++ new)
within_grows p ws x y (stays w) = ([], sym (append-nil x.state.origins))
within_grows p ws x y (goes_on {y = u} w leads rest) =
    let first = steps_keep_outlines p x u leads in
    let more = within_grows p ws u y rest in
    (first.new ++ more.0, more.1 ∙ (ap (λ os. os ++ more.0) first.origins_are ∙ append_assoc x.state.origins first.new more.0))

-- who has called waits with the frame in which it made the call
entered_frame : (p : Executable) (x y : Point) (i : ℕ) (to : Target) (g : ℕ) (args : List Expr) (r : Code) (o : Option State) (b : Waiting) (bs : List Waiting) → entered i to g (code_at p g) (waiting i to x.function r x.state) x.callers x.trace o ≡ Acts y → y.callers ≡ b ∷ bs → b.frame ≡ x.state.frame
entered_frame p x y i to g args r None b bs e is = cc
entered_frame p x y i to g args r (Some s) b bs e is =
    let same : point g (code_at p g) s (waiting i to x.function r x.state ∷ x.callers) (announced i to x.trace) ≡ y = cc in
    let callers : waiting i to x.function r x.state ∷ x.callers ≡ b ∷ bs = ap (λ (z : Point). z.callers) same ∙ is in
    let first : waiting i to x.function r x.state ≡ b = cc in
    ap (λ (z : Waiting). z.frame) (sym first)

called_frame : (p : Executable) (x y : Point) (g : ℕ) (b : Waiting) (bs : List Waiting) → Enters p x y g → y.callers ≡ b ∷ bs → b.frame ≡ x.state.frame
called_frame p x y g b bs h is =
    entered_frame p x y h.call h.target g h.args h.rest (called p x.function g h.args x.state) b bs (sym (ap (λ c. step_at p x.function c x.state x.callers x.trace) h.rest_is) ∙ h.begins) is

module _ (p : Program) (a : Analysis) (well : IsWellFormed p) (analysed : IsAnalysis p a) (input : List ℕ) (names : Names) (w : World) where
  abbrev e : Executable
  e = executable p

  abbrev Reached : Point → Type 0
  Reached x = Reaches (machine e) (beginning e input) x

  module _ (x x1 : Point) (m : State) (above after_ : List Waiting) (b0 : Waiting) (below : List Waiting) (l : Location) (reached : Reached x) (leads : Leads e x x1) (callers : x.callers ≡ above ++ (b0 ∷ below)) (callers1 : x1.callers ≡ after_ ++ (b0 ∷ below)) (blocks : BlocksStand names w x.state m) (unmodified : a.effects.modified (called_below above x.function) l ≡ false) where
    abbrev g : ℕ
    g = called_below above x.function

    has_called : HasCalled e (beginning e input) above below b0 x
    has_called = callers_have_called e input x reached above below b0 callers

    abbrev from : Point
    from = has_called.from

    abbrev begun : Point
    begun = has_called.begun

    at_x : InCall p a g from begun x
    at_x = calls_touch p a well analysed input from begun x g has_called.reached has_called.enters has_called.within

    wait : WaitAt begun.callers x1
    wait = record { above = after_; callers_are = callers1 ∙ ap (λ ws. after_ ++ ws) (sym has_called.callers_are) }

    at_x1 : InCall p a g from begun x1
    at_x1 =
        calls_touch p a well analysed input from begun x1 g has_called.reached has_called.enters (within_more e begun.callers begun x x1 has_called.within leads wait)

    not_modified : Modifies p a.points g l → ⊥
    not_modified h = false≢true (sym unmodified ∙ (analysed.effects_are.modified_are g l).1 h)

    grown_from : (new : List Origin) × (x.state.origins ≡ from.state.origins ++ new)
    grown_from =
        let first = steps_keep_outlines e from begun (inl has_called.enters.begins) in
        let rest = within_grows e begun.callers begun x has_called.within in
        (first.new ++ rest.0, rest.1 ∙ (ap (λ os. os ++ rest.0) first.origins_are ∙ append_assoc from.state.origins first.new rest.0))

    step : StepInCall p a g from.state x
    step = at_x.steps_touch x1 leads wait

    keeps : KeepsRest x.state x1.state step.effect
    keeps = steps_keep_the_rest e x x1 step.effect leads step.effect_is

    live_before : (q : Place) → q.block < length x.state.memory.blocks → is_cell x1.state.memory q ≡ true → is_cell x.state.memory q ≡ true
    live_before q low live = keeps.live q low live

    -- ---- blocks that were there before the call

    abbrev Made : ℕ → Origin → Type 0
    Made b o = slice_get x.state.origins b ≡ Some o

    low_in : (b : ℕ) (o : Origin) → slice_get from.state.origins b ≡ Some o → b < length from.state.memory.blocks
    low_in b o is =
        let low = slice_get_within from.state.origins b o is in
        let tracked = (sound_run e (λ f d. IsIn (doings_of p f) d) (bodies p) input from has_called.reached).placed.tracked in
        omega (arith, low, tracked)

    -- that of a variable of the caller
    low_named : (z b : ℕ) → b0.frame z ≡ Some b → b < length from.state.memory.blocks
    low_named z b is =
        let frame = called_frame e from begun g b0 below has_called.enters has_called.callers_are in
        low_in b (OfVariable z) ((sound_run e (λ f d. IsIn (doings_of p f) d) (bodies p) input from has_called.reached).placed.named z b (sym (ap (λ (fr : ℕ → Option ℕ). fr z) frame) ∙ is))

    -- ---- cells that are alike

    origins_more : (b : ℕ) (o : Origin) → Made b o → slice_get x1.state.origins b ≡ Some o
    origins_more b o is =
        let k = steps_keep_outlines e x x1 leads in
        subst (λ os. slice_get os b ≡ Some o) (sym k.origins_are) (get_more x.state.origins k.new b o is)

    -- and so does the input
    pub unread_stays : l ≡ the_input → x1.state.unread ≡ x.state.unread
    unread_stays is =
        at_x1.keeps.input (λ h. not_modified (subst (Modifies p a.points g) (sym is) h))
        ∙ sym (at_x.keeps.input (λ h. not_modified (subst (Modifies p a.points g) (sym is) h)))

    -- what made a block before the call makes it now
    from_origin : (b : ℕ) (o : Origin) → b < length from.state.memory.blocks → slice_get x.state.origins b ≡ Some o → slice_get from.state.origins b ≡ Some o
    from_origin b o low is =
        let more = grown_from in
        let tracked = (sound_run e (λ f d. IsIn (doings_of p f) d) (bodies p) input from has_called.reached).placed.tracked in
        sym (get_less from.state.origins more.0 b (omega (arith, low, tracked))) ∙ (ap (λ os. slice_get os b) (sym more.1) ∙ is)

    -- where the location is seen outside, the step stores into no cell at it, since the callee doesn't modify it
    stored_apart : (q : Place) → is_cell x.state.memory q ≡ true → location_of x.state.origins q ≡ Some l → is_outside p l ≡ true → (v : Touch) → Contains step.effect.stores v → IsSameCell x.state.memory v.cell q → ⊥
    stored_apart q live at out v stores same =
        let typed = (typed_run p a.points well analysed.points_are input x reached).state in
        let place : q ≡ v.cell = one_place p (well_formed_in_order p well) x.state.memory q v.cell typed.structs_are live (same_back x.state.memory v.cell q same) in
        not_modified (step.outside v stores l (ap (location_of x.state.origins) (sym place) ∙ at) out)

    -- so a cell of a block that was there before the step holds what it held
    seen_stays : (q : Place) → q.block < length x.state.memory.blocks → is_cell x1.state.memory q ≡ true → location_of x.state.origins q ≡ Some l → is_outside p l ≡ true → read x1.state.memory q ≡ read x.state.memory q
    seen_stays q low live at out = keeps.cells q low live (stored_apart q (live_before q low live) at out)

    -- and so does one that was there before the call
    old_stays : (q : Place) → q.block < length from.state.memory.blocks → q.block < length x.state.memory.blocks → is_cell x1.state.memory q ≡ true → location_of from.state.origins q ≡ Some l → read x1.state.memory q ≡ read x.state.memory q
    old_stays q low here live at =
        at_x1.keeps.cells q l low live at not_modified ∙ sym (at_x.keeps.cells q l low (live_before q here live) at not_modified)

    -- a cell that the caller sees at the location holds what it held
    pub cell_stays : (b c : ℕ) (path : List Hop) → Stands w b c → Counts (is_outside p) l (seen b0 x1.state) b → is_cell x1.state.memory (cell_at b path) ≡ true → location_of x1.state.origins (cell_at b path) ≡ Some l → read x1.state.memory (cell_at b path) ≡ read x.state.memory (cell_at b path)
    cell_stays b c path stands counts live at =
        let old = old_block names (is_outside p) w x.state m b c blocks stands in
        let its : location_in old.origin path ≡ l = some_same (sym (ap (option_map (λ (z : Origin). location_in z path)) (origins_more b old.origin old.origin_is)) ∙ at) in
        let at_x_now : location_of x.state.origins (cell_at b path) ≡ Some l = ap (option_map (λ (z : Origin). location_in z path)) old.origin_is ∙ ap Some its in
        elim counts [
          | inl out ↦ seen_stays (cell_at b path) old.low live at_x_now out
          | inr k ↦
              let low = low_named k.0 b k.2 in
              let before = from_origin b old.origin low old.origin_is in
              old_stays (cell_at b path) low old.low live (ap (option_map (λ (z : Origin). location_in z path)) before ∙ ap Some its)
        ]

    module _ (n : State) (same : AlikeAt (is_outside p) w l (seen b0 x.state) n) where
      cells_stay : (b c : ℕ) (path : List Hop) → Stands w b c → Counts (is_outside p) l (seen b0 x1.state) b → is_cell x1.state.memory (cell_at b path) ≡ true → location_of x1.state.origins (cell_at b path) ≡ Some l → AlikeCell w (read x1.state.memory (cell_at b path)) (read n.memory (cell_at c path))
      cells_stay b c path stands counts live at =
          let old = old_block names (is_outside p) w x.state m b c blocks stands in
          let its : location_in old.origin path ≡ l = some_same (sym (ap (option_map (λ (z : Origin). location_in z path)) (origins_more b old.origin old.origin_is)) ∙ at) in
          let at_before : location_of x.state.origins (cell_at b path) ≡ Some l = ap (option_map (λ (z : Origin). location_in z path)) old.origin_is ∙ ap Some its in
          subst (λ z. AlikeCell w z (read n.memory (cell_at c path))) (sym (cell_stays b c path stands counts live at)) (same.cells b c path stands (counts_before b counts) (live_before (cell_at b path) old.low live) at_before)
        where
          counts_before : (b : ℕ) → Counts (is_outside p) l (seen b0 x1.state) b → Counts (is_outside p) l (seen b0 x.state) b
          counts_before b (inl out) = inl out
          counts_before b (inr k) = inr k

      pub caller_stays : AlikeAt (is_outside p) w l (seen b0 x1.state) n
      caller_stays = record {
        cells = λ b c path stands counts live at. cells_stay b c path stands counts live at;
        input = λ is. unread_stays is ∙ same.input is;
        result = same.result;
      }
