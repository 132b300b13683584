-- The statement of an undefined act is one of the program's, and starts on a line.
use Rattle.std.proofs.Common.{◌≡◌, ℕ, zero, suc, ◌==◌, ◌&&◌, List, [], ◌∷◌, map, Option, Some, None, true, inl, inr, refl, sym, ap, ap₂, ◌∙◌, subst}
use Rattle.std.specs.Prelude.{slice_get}
use Rattle.std.specs.List.{list_any}
use Rattle.std.specs.Option.{option_map_or}
use Rattle.std.proofs.lemmas.Bool.{eq-eqb, or_left, or_right}
use Rattle.c_tree.specs.declared.numbered.Start.{Start}
use Rattle.c_tree.specs.declared.program.Function.{Function}
use Rattle.c_tree.specs.declared.program.Program.{Program}
use Rattle.c_tree.specs.declared.statement.Target.{Target}
use Rattle.c_tree.specs.declared.statement.Target.TheVariants as target
use Rattle.c_tree.specs.Numbered.{Starts, program_starts}
use Rattle.c_language.specs.Code.{Tests, Code, End, Opens, Plain, Fork, Loop, Leaves, Call}
use Rattle.c_meaning.specs.declared.value.Value.{Value}
use Rattle.c_meaning.specs.Values.{State}
use Rattle.c_meaning.specs.Acts.{Made, made}
use Rattle.c_meaning.specs.Activations.{Executable, executable, code_at, types_in, called, resumed, received}
use Rattle.c_meaning.specs.Meaning.{Answer, Ended, Undefined, More, Trace, meaning}
use Rattle.c_meaning.specs.Steps.{Step, Stops, Fails, Acts, Moves, Breaks, Runs, stop, fail, fail_none, act_none, act, move, broken, here, Waiting, Point, waiting, acted, entered, stored_back, went_back, returned_to, step_at, step, machine, beginning}
use Rattle.c_meaning.proofs.MeaningSteps.{meaning_is_steps}
use Rattle.dep_model.specs.Doings.{Doing, Does, Calls, body_doings, functions_doings, doings_of, doing_number}
use Rattle.dep_model.proofs.Membership.{IsIn, in_first, in_second}
use Rattle.dep_model.proofs.StartDoings.{ids}
use Rattle.run_facts.proofs.CodeDoings.{Each}
use Rattle.run_facts.proofs.Points.{AreWaiting, IsSound, sound_run, sound_step}
use Rattle.run_facts.proofs.Statements.{bodies}
use Rattle.slice_engine.proofs.StartNumbers.{functions_agree}
use Rattle.slice_engine.specs.Slice.{starts_on}

module _ (p : Program) where
  abbrev e : Executable
  e = executable p

  -- what a function does
  abbrev Done : ℕ → Doing → Type 0
  Done f d = IsIn (doings_of p f) d

  -- a statement of the program has this number
  pub record IsNumber (i : ℕ) : Type 0 where
    pub function : ℕ
    pub doing : Doing
    pub done : Done function doing
    pub number : doing_number doing ≡ i

  -- ---- steps

  -- where a step fails, or breaks, the statement is one of the program's
  abbrev FailsWell : Step Point → Type 0
  FailsWell Stops = Unit {0}
  FailsWell (Fails i) = IsNumber i
  FailsWell (Acts x) = Unit {0}
  FailsWell (Moves x) = Unit {0}
  FailsWell (Breaks i) = IsNumber i

  after_act : (f i : ℕ) (next : Made → Code) (s : State) (ws : List Waiting) (t : Trace) (o : Option Made) → IsNumber i → FailsWell (acted f i next s ws t o)
  after_act f i next s ws t None found = found
  after_act f i next s ws t (Some m) found = tt

  after_entry : (i : ℕ) (to : Target) (g : ℕ) (c : Code) (w : Waiting) (ws : List Waiting) (t : Trace) (o : Option State) → IsNumber i → FailsWell (entered i to g c w ws t o)
  after_entry i to g c w ws t None found = found
  after_entry i to g c w ws t (Some s) found = tt

  after_store : (w : Waiting) (s : State) (ws : List Waiting) (t : Trace) (o : Option Made) → IsNumber w.call → FailsWell (stored_back w s ws t o)
  after_store w s ws t None found = found
  after_store w s ws t (Some m) found = tt

  after_back : (to : Target) (w : Waiting) (v : Option Value) (s : State) (ws : List Waiting) (t : Trace) → IsNumber w.call → FailsWell (went_back e to w v s ws t)
  after_back target.None w v s ws t found = tt
  after_back (target.Place x) w v s ws t found = after_store w s ws t (received (types_in e w.function) (target.Place x) v s) found
  after_back (target.Declared x) w v s ws t found = after_store w s ws t (received (types_in e w.function) (target.Declared x) v s) found

  after_return : (g : ℕ) (s : State) (ws : List Waiting) (t : Trace) → AreWaiting e Done s.origins g ws → FailsWell (returned_to e g s ws t)
  after_return g s [] t waits = tt
  after_return g s (w ∷ ws) t waits =
      after_back w.target w s.returned (resumed e g w.frame w.returned s) ws t (record { function = w.function; doing = Calls w.call w.target g waits.0.args; done = waits.0.calls; number = refl })

  fails_well : (f : ℕ) (c : Code) (s : State) (ws : List Waiting) (t : Trace) → Each (Done f) c → AreWaiting e Done s.origins f ws → FailsWell (step_at e f c s ws t)
  fails_well f End s ws t inside waits = after_return f s ws t waits
  fails_well f (Opens x r) s ws t inside waits = tt
  fails_well f (Plain i a r) s ws t inside waits =
      after_act f i _ s ws t (made (types_in e f) a s) (record { function = f; doing = Does i a; done = inside.0; number = refl })
  fails_well f (Fork i x c r) s ws t inside waits =
      after_act f i _ s ws t (made (types_in e f) (Tests x) s) (record { function = f; doing = Does i (Tests x); done = inside.0; number = refl })
  fails_well f (Loop i x b r) s ws t inside waits =
      after_act f i _ s ws t (made (types_in e f) (Tests x) s) (record { function = f; doing = Does i (Tests x); done = inside.0; number = refl })
  fails_well f (Leaves xs r) s ws t inside waits = tt
  fails_well f (Call i to g args r) s ws t inside waits =
      after_entry i to g (code_at e g) (waiting i to f r s) ws t (called e f g args s) (record { function = f; doing = Calls i to g args; done = inside.0; number = refl })

  step_well : (x : Point) → IsSound e Done x → FailsWell (step e x)
  step_well x sound = fails_well x.function x.rest x.state x.callers x.trace sound.inside sound.callers

  -- ---- runs

  abbrev EndsWell : Answer → Type 0
  EndsWell (Ended t) = Unit {0}
  EndsWell (Undefined i t) = IsNumber i
  EndsWell (More t) = Unit {0}

  ends_well : (n : ℕ) (x : Point) (a : Answer) → Runs (machine e) n x a → IsSound e Done x → EndsWell a
  ends_well n x a (stop is) sound = tt
  ends_well n x a (fail is) sound = rw is at (step_well x sound)
  ends_well n x a (fail_none is) sound = tt
  ends_well n x a (act_none is) sound = tt
  ends_well n x a (act {n = m} {t = y} is r) sound = ends_well m y a r (sound_step e Done (bodies p) x y (inl is) sound)
  ends_well n x a (move {t = y} is r) sound = ends_well n y a r (sound_step e Done (bodies p) x y (inr is) sound)
  ends_well n x a (broken is) sound = rw is at (step_well x sound)

  undefined_number : (n : ℕ) (input : List ℕ) (i : ℕ) (t : Trace) → meaning n p input ≡ Undefined i t → IsNumber i
  undefined_number n input i t is =
      ends_well n (beginning e input) (Undefined i t) ((meaning_is_steps p n input (Undefined i t)).0 is) (sound_run e Done (bodies p) input (beginning e input) here)

  -- ---- starts

  in_program : (fs : List Function) (f : ℕ) (d : Doing) → IsIn (option_map_or (λ (g : Function). body_doings g.body) (slice_get fs f) []) d → IsIn (functions_doings fs) d
  in_program [] f d is = absurd is
  in_program (g ∷ fs) zero d is = in_first (body_doings g.body) (functions_doings fs) d is
  in_program (g ∷ fs) (suc f) d is = in_second (body_doings g.body) (functions_doings fs) d (in_program fs f d is)

  numbered : (ds : List Doing) (d : Doing) → IsIn ds d → IsIn (map doing_number ds) (doing_number d)
  numbered [] d is = absurd is
  numbered (x ∷ xs) d (inl same) = inl (ap doing_number same)
  numbered (x ∷ xs) d (inr later) = inr (numbered xs d later)

  started : (ss : Starts) (i : ℕ) → IsIn (ids ss) i → (line : ℕ) × (list_any (λ (s : Start). (s.id == i) && (s.line == line)) ss ≡ true)
  started [] i is = absurd is
  started (s ∷ ss) i (inl same) =
      (s.line, or_left ((s.id == i) && (s.line == s.line)) (list_any (λ (r : Start). (r.id == i) && (r.line == s.line)) ss) (ap₂ (λ a b. a && b) (eq-eqb s.id i same) (eq-eqb s.line s.line refl)))
  started (s ∷ ss) i (inr later) =
      let rest = started ss i later in
      (rest.0, or_right ((s.id == i) && (s.line == rest.0)) (list_any (λ (r : Start). (r.id == i) && (r.line == rest.0)) ss) rest.1)

  -- with any number of acts, on any input
  pub undefined_starts : (n : ℕ) (input : List ℕ) (i : ℕ) (t : Trace) → meaning n p input ≡ Undefined i t → (line : ℕ) × (starts_on p line i ≡ true)
  undefined_starts n input i t is =
      let found = undefined_number n input i t is in
      let listed : IsIn (map doing_number (functions_doings p.functions)) i =
      subst (IsIn (map doing_number (functions_doings p.functions))) found.number (numbered (functions_doings p.functions) found.doing (in_program p.functions found.function found.doing found.done)) in
      started (program_starts p) i (subst (λ ns. IsIn ns i) (sym (functions_agree p.functions)) listed)
