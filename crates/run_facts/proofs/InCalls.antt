-- At each point of a call its function has called what runs, old blocks are named by globals alone, and the next step touches what the function says.
use Rattle.std.proofs.Common.{◌≡◌, ℕ, zero, suc, ◌<◌, ◌≤◌, List, [], ◌∷◌, ◌++◌, map, length, Option, Some, None, true, inl, inr, refl, sym, ap, ◌∙◌, subst, arith, length-append}
use Rattle.std.specs.Prelude.{All, option_map, slice_get}
use Rattle.std.specs.Option.{option_map_or}
use Rattle.std.proofs.lemmas.Bool.{false≢true, or_left, or_right}
use Rattle.c_language.proofs.Options.{some_same, none_there, map_there, then_there}
use Rattle.c_tree.specs.declared.expr.Expr.{Expr}
use Rattle.c_tree.specs.declared.program.Program.{Program}
use Rattle.c_tree.specs.declared.statement.Target.{Target}
use Rattle.c_tree.specs.declared.statement.Target.TheVariants as target
use Rattle.c_language.specs.Code.{Act, Tests, Code, End, Opens, Plain, Fork, Loop, Leaves, Call, ◌⨟◌, is_true, either}
use Rattle.c_language.specs.TreeTypes.{Typing}
use Rattle.c_language.specs.declared.expr_type.ExprType.{ExprType}
use Rattle.c_meaning.specs.declared.value.Place.{Place}
use Rattle.c_meaning.specs.declared.value.Value.{Value}
use Rattle.c_meaning.specs.Values.{Origin, OfVariable, State, eval_all}
use Rattle.c_meaning.specs.Acts.{Store, Made, given, made, after, picked}
use Rattle.c_meaning.specs.Activations.{Executable, executable, code_at, variables_at, types_in, result_at, opening, passed_to, called, resumed, received}
use Rattle.c_meaning.specs.Meaning.{Trace}
use Rattle.c_meaning.specs.Steps.{Step, Stops, Fails, Acts, Moves, Breaks, Waiting, Point, point, waiting, acted, entered, stored_back, went_back, step_at}
use Rattle.dep_model.specs.declared.location.Location.{Location}
use Rattle.dep_model.specs.Denoted.{Places}
use Rattle.dep_model.specs.Doings.{Doing, Does, Calls, doings_of}
use Rattle.dep_model.specs.DoingEffects.{the_input, is_global, is_taken, any_takes, target_takes, any_reads, target_reads, act_uses, doing_uses, doing_defines}
use Rattle.dep_model.specs.LocationLists.{AreStructsInOrder}
use Rattle.dep_model.specs.ModRef.{IsCalledFrom, call, is_outside, Modifies, MayUse}
use Rattle.dep_model.specs.SystemGraph.{Analysis}
use Rattle.dep_model.proofs.Membership.{IsIn, contains_of_in, of_map}
use Rattle.typed_programs.specs.TypedStatements.{IsTyped}
use Rattle.run_facts.specs.CallTouching.{WaitAt}
use Rattle.run_facts.specs.CellLocations.{location_in, location_of}
use Rattle.run_facts.specs.DenotedCells.{IsReadOf}
use Rattle.run_facts.specs.Effects.{Touch, Effect, holding, storing, act_effect, passed_into, store_effect, no_effect, parameters_at, arguments_read, call_effect, store_received, back_in}
use Rattle.run_facts.specs.KeptCells.{effect_at, step_effect, Leads}
use Rattle.run_facts.specs.ReadCells.{value_read, all_read, target_read, act_read}
use Rattle.run_facts.specs.Touching.{IsAt}
use Rattle.run_facts.specs.TypedStates.{is_seen, IsTypedState}
use Rattle.run_facts.proofs.ActCells.{passed_operands, all_cells_read, target_touches, given_target, reading_touches, act_touches}
use Rattle.run_facts.proofs.BackStates.{closed_origins, back_typed}
use Rattle.run_facts.proofs.Blocks.{Grows, grows_on, grows_by, grows_after, grows_closed, AreNamed, IsPlaced}
use Rattle.run_facts.proofs.CodeDoings.{Each}
use Rattle.run_facts.proofs.ExprsDenoted.{AreShapes}
use Rattle.run_facts.proofs.GlobalVariables.{variables_of}
use Rattle.run_facts.proofs.OldBlocks.{NamesOld, old_opened, old_closed, old_called, opening_names}
use Rattle.run_facts.proofs.Points.{AreWaiting, IsSound, called_passed}
use Rattle.run_facts.proofs.SeenCells.{seen_outside}
use Rattle.run_facts.proofs.TypedParts.{stands_in, doing_taken, doing_fit}
use Rattle.run_facts.proofs.TypedRuns.{called_function}

-- ---- lists

-- what stands in the longer list at a place of the shorter one stands there in that
pub get_less : {A : Type 0} (xs ys : List A) (n : ℕ) → n < length xs → slice_get (xs ++ ys) n ≡ slice_get xs n
get_less [] ys n lt = absurd (omega (arith, lt))
get_less (x ∷ xs) ys zero lt = refl
get_less (x ∷ xs) ys (suc n) lt = get_less xs ys n (omega (arith, lt))

pub grown_length : (os ps : List Origin) → Grows os ps → length os ≤ length ps
grown_length os ps g =
    let long = ap length g.are ∙ length-append os g.new in omega (arith, long)

get_low : {A : Type 0} (xs : List A) (n : ℕ) (x : A) → slice_get xs n ≡ Some x → n < length xs
get_low [] n x e = none_there e
get_low (y ∷ xs) zero x e = omega arith
get_low (y ∷ xs) (suc n) x e = let k = get_low xs n x e in omega (arith, k)

-- what is said of all is said of each
all_in : {A : Type 0} (P : A → Type 0) (xs : List A) (x : A) → All P xs → IsIn xs x → P x
all_in P [] x h i = absurd i
all_in P (y ∷ xs) x h (inl e) = subst P e (h 0 y (omega arith))
all_in P (y ∷ xs) x h (inr i) = all_in P xs x (λ k d low. h (suc k) d (omega (arith, low))) i

map_joined : {A B : Type 0} (f : A → B) (xs ys : List A) → map f xs ++ map f ys ≡ map f (xs ++ ys)
map_joined f [] ys = refl
map_joined f (x ∷ xs) ys = ap (λ zs. f x ∷ zs) (map_joined f xs ys)

-- what is read for all arguments, one after another, is what all of them read
arguments_all : (p : Executable) (f : ℕ) (es : List Expr) (s : State) → arguments_read p f es s ≡ map (holding s.memory) (all_read (types_in p f) es s)
arguments_all p f [] s = refl
arguments_all p f (e ∷ es) s =
    ap (λ ws. map (holding s.memory) (value_read (types_in p f) e s) ++ ws) (arguments_all p f es s) ∙ map_joined (holding s.memory) (value_read (types_in p f) e s) (all_read (types_in p f) es s)

too_few : {A : Type 0} (above ws : List A) (w : A) → ws ≡ above ++ (w ∷ ws) → ⊥
too_few above ws w e = let long = ap length e ∙ length-append above (w ∷ ws) in absurd (omega (arith, long))

module _ (p : Program) (a : Analysis) (order : AreStructsInOrder p) (shapes : AreShapes p) (fit : IsTyped p) (global : (x : ℕ) → IsIn (variables_of (executable p).globals) x → is_global p x ≡ true) (g : ℕ) (os : List Origin) (w0 : Waiting) (ws : List Waiting) where
  abbrev Mine : ℕ → Doing → Type 0
  Mine f d = IsIn (doings_of p f) d

  abbrev e : Executable
  e = executable p

  abbrev IsGlobal : ℕ → Type 0
  IsGlobal x = is_global p x ≡ true

  abbrev NamesGlobals : (ℕ → Option ℕ) → Type 0
  NamesGlobals frame = NamesOld IsGlobal (length os) frame

  -- ---- points of the call

  -- a caller that waits in the call
  pub record RunsIn (w : Waiting) : Type 0 where
    pub called_from : IsCalledFrom p g w.function
    pub names : NamesGlobals w.frame

  abbrev pub AllRun : List Waiting → Type 0
  AllRun [] = Unit {0}
  AllRun (w ∷ above) = RunsIn w × AllRun above

  pub record IsInCall (x : Point) : Type 0 where
    pub above : List Waiting
    pub callers_are : x.callers ≡ above ++ (w0 ∷ ws)
    pub called_from : IsCalledFrom p g x.function
    pub names : NamesGlobals x.state.frame
    pub grows : Grows os x.state.origins
    pub waiting_ : AllRun above

  -- ---- effects

  -- an effect touches old cells only where g says so; and where a location is seen outside, it stores into no block that was there before
  -- unless g modifies it
  pub record IsSaid (here : List Origin) (ef : Effect) : Type 0 where
    pub reads : (w : Touch) → IsIn ef.reads w → w.cell.block < length os → IsAt os (MayUse p a.points g) w
    pub stores : (w : Touch) → IsIn ef.stores w → w.cell.block < length os → IsAt os (Modifies p a.points g) w
    pub outside : (w : Touch) → IsIn ef.stores w → (l : Location) → location_of here w.cell ≡ Some l → is_outside p l ≡ true → Modifies p a.points g l
    pub input : ef.takes ≡ true → MayUse p a.points g the_input × Modifies p a.points g the_input

  abbrev pub HasSaid : List Origin → Option Effect → Type 0
  HasSaid here o = (ef : Effect) × ((o ≡ Some ef) × IsSaid here ef)

  nothing_said : (here : List Origin) → IsSaid here no_effect
  nothing_said here = record { reads = λ w i lt. absurd i; stores = λ w i lt. absurd i; outside = λ w i l at out. absurd i; input = λ h. absurd (false≢true h) }

  -- what is known of the state of an activation in the call
  record Inside (f : ℕ) (s : State) : Type 0 where
    called_from : IsCalledFrom p g f
    typed : IsTypedState p a.points s
    names : NamesGlobals s.frame
    grows : Grows os s.origins

  module _ (f : ℕ) (s : State) (k : Inside f s) where
    abbrev result : Option ExprType
    result = result_at e f

    -- an old block that counts is seen outside
    old_seen : (w : Touch) (set : Places) → (r : IsReadOf p s set w.cell) → w.cell.block < length os → is_seen p r.origin ≡ true
    old_seen w set r lt = elim r.counts [
      | inl seen ↦ seen
      | inr h ↦
          let made : OfVariable h.0 ≡ r.origin = some_same (sym (k.typed.named h.0 w.cell.block h.1) ∙ r.origin_is) in
          subst (λ (o : Origin). is_seen p o ≡ true) made (or_left (is_global p h.0) (is_taken p h.0) (k.names h.0 w.cell.block h.1 lt))
    ]

    old_at : (these : Location → Type 0) (set : Places) (w : Touch) → IsReadOf p s set w.cell → w.cell.block < length os → ((l : Location) → set l ≡ true → is_outside p l ≡ true → these l) → IsAt os these w
    old_at these set w r lt fits =
        let made : slice_get os w.cell.block ≡ Some r.origin = sym (get_less os k.grows.new w.cell.block lt) ∙ (ap (λ ps. slice_get ps w.cell.block) (sym k.grows.are) ∙ r.origin_is) in
        let l = location_in r.origin w.cell.path in
        record {
          location = l;
          location_is = ap (option_map (λ (o : Origin). location_in o w.cell.path)) made;
          among = fits l r.among (seen_outside p r.origin w.cell.path ∙ old_seen w set r lt);
        }

    uses_it : (d : Doing) (l : Location) → Mine f d → doing_uses p a.points d l ≡ true → is_outside p l ≡ true → MayUse p a.points g l
    uses_it d l mine u out = record { function = f; doing = d; called = k.called_from; member = contains_of_in (doings_of p f) d mine; used = u; outside = out }

    modifies_it : (d : Doing) (l : Location) → Mine f d → doing_defines p a.points f d l ≡ true → is_outside p l ≡ true → Modifies p a.points g l
    modifies_it d l mine u out = record { function = f; doing = d; called = k.called_from; member = contains_of_in (doings_of p f) d mine; defined = u; outside = out }

    -- what is read
    read_old : (d : Doing) (set : Places) (qs : List Place) → Mine f d → ((l : Location) → set l ≡ true → doing_uses p a.points d l ≡ true) → All (IsReadOf p s set) qs → (w : Touch) → IsIn (map (holding s.memory) qs) w → w.cell.block < length os → IsAt os (MayUse p a.points g) w
    read_old d set qs mine fits all w i lt =
        let q = of_map (holding s.memory) qs w i in
        let r = subst (λ (u : Touch). IsReadOf p s set u.cell) q.2 (all_in (IsReadOf p s set) qs q.0 all q.1) in
        old_at (MayUse p a.points g) set w r lt (λ l u out. uses_it d l mine (fits l u) out)

    -- what is stored into
    stored_at : (set : Places) (ws : List Store) → ((w : Store) → IsIn ws w → IsReadOf p s set w.place) → (w : Touch) → IsIn (map storing ws) w → IsReadOf p s set w.cell
    stored_at set ws all w i = let u = of_map storing ws w i in subst (λ (z : Touch). IsReadOf p s set z.cell) u.2 (all u.0 u.1)

    stored_old : (d : Doing) (ws : List Store) → Mine f d → ((w : Store) → IsIn ws w → IsReadOf p s (doing_defines p a.points f d) w.place) → (w : Touch) → IsIn (map storing ws) w → w.cell.block < length os → IsAt os (Modifies p a.points g) w
    stored_old d ws mine all w i lt =
        old_at (Modifies p a.points g) (doing_defines p a.points f d) w (stored_at (doing_defines p a.points f d) ws all w i) lt (λ l u out. modifies_it d l mine u out)

    stored_outside : (d : Doing) (ws : List Store) → Mine f d → ((w : Store) → IsIn ws w → IsReadOf p s (doing_defines p a.points f d) w.place) → (w : Touch) → IsIn (map storing ws) w → (l : Location) → location_of s.origins w.cell ≡ Some l → is_outside p l ≡ true → Modifies p a.points g l
    stored_outside d ws mine all w i l at out =
        let r = stored_at (doing_defines p a.points f d) ws all w i in
        let same : location_in r.origin w.cell.path ≡ l = some_same (sym (ap (option_map (λ (o : Origin). location_in o w.cell.path)) r.origin_is) ∙ at) in
        modifies_it d l mine (subst (λ (z : Location). doing_defines p a.points f d z ≡ true) same r.among) out

    -- ---- what is done next

    act_said : (i : ℕ) (act : Act) (m : Made) → Mine f (Does i act) → made (types_in e f) act s ≡ Some m → IsSaid s.origins (act_effect (types_in e f) act s m)
    act_said i act m mine is =
        let d : Doing = Does i act in
        let h = stands_in p f d mine in
        let t = act_touches p order shapes a.points s k.typed result f h.function.result act m (doing_fit p fit f d h) (λ z r. doing_taken p f d h z r) is in
        record {
          reads = λ w j lt. read_old d (act_uses p a.points act) (act_read (types_in e f) act s) mine (λ l u. u) t.reads_are w j lt;
          stores = λ w j lt. stored_old d m.stores mine t.stores_are w j lt;
          outside = λ w j l at out. stored_outside d m.stores mine t.stores_are w j l at out;
          input = λ r. let u = reading_touches p a.points f act r in (uses_it d the_input mine u.0 refl, modifies_it d the_input mine u.1 refl);
        }

    -- arguments go into new blocks
    passed_new : (typing : Typing) (b : ℕ) (xs : List ℕ) (vs : List Value) (w : Touch) → IsIn (passed_into typing b xs vs) w → b ≤ w.cell.block
    passed_new typing b [] vs w j = absurd j
    passed_new typing b (x ∷ xs) [] w j = absurd j
    passed_new typing b (x ∷ xs) (v ∷ vs) w (inl is) = let block : b ≡ w.cell.block = ap (λ (u : Touch). u.cell.block) is in omega (arith, block)
    passed_new typing b (x ∷ xs) (v ∷ vs) w (inr j) = let k1 = passed_new typing (suc b) xs vs w j in omega (arith, k1)

    maybe_new : (typing : Typing) (b : ℕ) (xs : List ℕ) (o : Option (List Value)) (w : Touch) → IsIn (option_map_or (passed_into typing b xs) o []) w → b ≤ w.cell.block
    maybe_new typing b xs None w j = absurd j
    maybe_new typing b xs (Some vs) w j = passed_new typing b xs vs w j

    call_said : (i : ℕ) (to : Target) (h : ℕ) (args : List Expr) (c : State) → Mine f (Calls i to h args) → called e f h args s ≡ Some c → length os ≤ length s.memory.blocks → IsSaid s.origins (call_effect e f h args s)
    call_said i to h args c mine is most =
        let d : Doing = Calls i to h args in
        let b = stands_in p f d mine in
        let n = called_function p a.points to h args (doing_fit p fit f d b) in
        let r = then_there (passed_to e f args s) (slice_get e.functions h) c is in
        let vs = then_there (λ (us : List Value). _) (eval_all (types_in e f) args s) c r.same in
        let operands = passed_operands p order shapes a.points s k.typed result n.function.params args n.passes in
        let all = all_cells_read p order shapes a.points s k.typed result args vs.value operands (λ z u. doing_taken p f d b z (or_right (target_takes p to z) (any_takes p args z) u)) vs.there in
        record {
          reads = λ w j lt. read_old d (any_reads p a.points args) (all_read (types_in e f) args s) mine (λ l u. or_left (any_reads p a.points args l) (target_reads p a.points to l) u) all w (subst (λ us. IsIn us w) (arguments_all e f args s) j) lt;
          stores = λ w j lt. let new = maybe_new e.typing (length s.memory.blocks) (parameters_at e h) (eval_all (types_in e f) args s) w j in absurd (omega (arith, new, most, lt));
          outside = λ w j l at out.
              let new = maybe_new e.typing (length s.memory.blocks) (parameters_at e h) (eval_all (types_in e f) args s) w j in
              let o = map_there (λ (z : Origin). location_in z w.cell.path) (slice_get s.origins w.cell.block) l at in
              let low = get_low s.origins w.cell.block o.value o.there in
              let long = k.typed.tracked in
              absurd (omega (arith, new, low, long));
          input = λ u. absurd (false≢true u);
        }

    -- the store after a call of h
    receipt_said : (i : ℕ) (to : Target) (h : ℕ) (args : List Expr) (v : Option Value) (m : Made) → Mine f (Calls i to h args) → received (types_in e f) to v s ≡ Some m → IsSaid s.origins (store_effect s.memory (target_read (types_in e f) to s) m)
    receipt_said i to h args v m mine is =
        let d : Doing = Calls i to h args in
        let b = stands_in p f d mine in
        let n = called_function p a.points to h args (doing_fit p fit f d b) in
        let u = then_there (λ (x : Value). given (types_in e f) to x s) v m is in
        let t = target_touches p order shapes a.points s k.typed result to u.value m (given_target p order shapes a.points s k.typed result to n.function.result n.gives) (λ z r. doing_taken p f d b z (or_left (target_takes p to z) (any_takes p args z) r)) u.same in
        record {
          reads = λ w j lt. read_old d (target_reads p a.points to) (target_read (types_in e f) to s) mine (λ l r. or_right (any_reads p a.points args l) (target_reads p a.points to l) r) t.reads_are w j lt;
          stores = λ w j lt. stored_old d m.stores mine t.stores_are w j lt;
          outside = λ w j l at out. stored_outside d m.stores mine t.stores_are w j l at out;
          input = λ r. absurd (false≢true r);
        }

  -- ---- steps

  -- a step that stays in the call leads to a point of it, and its effect is as said
  abbrev Goes : List Origin → Option Effect → Step Point → Type 0
  Goes here o Stops = Unit {0}
  Goes here o (Fails i) = Unit {0}
  Goes here o (Acts y) = WaitAt (w0 ∷ ws) y → IsInCall y × HasSaid here o
  Goes here o (Moves y) = WaitAt (w0 ∷ ws) y → IsInCall y × HasSaid here o
  Goes here o (Breaks i) = Unit {0}

  abbrev below : List Waiting → List Waiting
  below above = above ++ (w0 ∷ ws)

  point_in : (f : ℕ) (c : Code) (s : State) (above : List Waiting) (t : Trace) → IsCalledFrom p g f → NamesGlobals s.frame → Grows os s.origins → AllRun above → IsInCall (point f c s (below above) t)
  point_in f c s above t called_ names grows run = record { above = above; callers_are = refl; called_from = called_; names = names; grows = grows; waiting_ = run }

  module _ (f : ℕ) (s : State) (above : List Waiting) (t : Trace) (k : Inside f s) (placed : IsPlaced s) (globals : AreNamed (opening e []).frame s.origins) (run : AllRun above) where
    most : length os ≤ length s.memory.blocks
    most = let n = grown_length os s.origins k.grows in let long = placed.tracked in omega (arith, n, long)

    goes_act : (i : ℕ) (next : Made → Code) (act : Act) (o : Option Made) → Mine f (Does i act) → made (types_in e f) act s ≡ o → Goes s.origins (option_map (act_effect (types_in e f) act s) o) (acted f i next s (below above) t o)
    goes_act i next act None mine is = tt
    goes_act i next act (Some m) mine is =
        λ wait. (point_in f (next m) (after i m s) above _ k.called_from k.names (grows_on os s.origins (after i m s).origins k.grows (grows_after i m.begun s.origins)) run, (act_effect (types_in e f) act s m, (refl, act_said f s k i act m mine is)))

    goes_call : (i : ℕ) (to : Target) (h : ℕ) (args : List Expr) (r : Code) (o : Option State) → Mine f (Calls i to h args) → called e f h args s ≡ o → Goes s.origins (option_map (λ (c : State). call_effect e f h args s) o) (entered i to h (code_at e h) (waiting i to f r s) (below above) t o)
    goes_call i to h args r None mine is = tt
    goes_call i to h args r (Some c) mine is =
        let into : IsCalledFrom p g h = call k.called_from (contains_of_in (doings_of p f) (Calls i to h args) mine) in
        let names : NamesGlobals c.frame = old_called IsGlobal (length os) e f h args s c most (λ x b q lt. global x (opening_names e x b q)) is in
        let more = (called_passed e f s placed globals h args c is).grows in
        λ wait. (point_in h (code_at e h) c (waiting i to f r s ∷ above) _ into names (grows_on os s.origins c.origins k.grows more) (record { called_from = k.called_from; names = k.names }, run), (call_effect e f h args s, (refl, call_said f s k i to h args c mine is most)))

  -- the end of h, which b called and where it goes on in state s
  module _ (h : ℕ) (b : Waiting) (args : List Expr) (s : State) (above : List Waiting) (t : Trace) (v : Option Value) (k : Inside b.function s) (run : AllRun above) where
    goes_store : (to : Target) (o : Option Made) → Mine b.function (Calls b.call to h args) → received (types_in e b.function) to v s ≡ o → Goes s.origins (option_map (store_effect s.memory (target_read (types_in e b.function) to s)) o) (stored_back b s (below above) t o)
    goes_store to None mine is = tt
    goes_store to (Some m) mine is =
        λ wait. (point_in b.function b.rest (after b.call m s) above _ k.called_from k.names (grows_on os s.origins (after b.call m s).origins k.grows (grows_after b.call m.begun s.origins)) run, (store_effect s.memory (target_read (types_in e b.function) to s) m, (refl, receipt_said b.function s k b.call to h args v m mine is)))

    goes_back : (to : Target) → Mine b.function (Calls b.call to h args) → Goes s.origins (store_received e (types_in e b.function) to v s) (went_back e to b v s (below above) t)
    goes_back target.None mine = λ wait. (point_in b.function b.rest s above t k.called_from k.names k.grows run, (no_effect, (refl, nothing_said s.origins)))
    goes_back (target.Place x) mine = goes_store (target.Place x) (received (types_in e b.function) (target.Place x) v s) mine refl
    goes_back (target.Declared x) mine = goes_store (target.Declared x) (received (types_in e b.function) (target.Declared x) v s) mine refl

  -- the call's own return isn't in it
  left_store : (b : Waiting) (s : State) (t : Trace) (o : Option Made) (here : List Origin) (ef : Option Effect) → Goes here ef (stored_back b s ws t o)
  left_store b s t None here ef = tt
  left_store b s t (Some m) here ef = λ wait. absurd (too_few wait.above ws w0 wait.callers_are)

  left_call : (to : Target) (b : Waiting) (v : Option Value) (s : State) (t : Trace) (here : List Origin) (ef : Option Effect) → Goes here ef (went_back e to b v s ws t)
  left_call target.None b v s t here ef = λ wait. absurd (too_few wait.above ws w0 wait.callers_are)
  left_call (target.Place x) b v s t here ef = left_store b s t _ here ef
  left_call (target.Declared x) b v s t here ef = left_store b s t _ here ef

  goes_end : (f : ℕ) (s : State) (above : List Waiting) (t : Trace) → Inside f s → IsPlaced s → AreWaiting e Mine s.origins f (below above) → AllRun above → Goes s.origins (effect_at e f End s (below above)) (step_at e f End s (below above) t)
  goes_end f s [] t k placed waits run = left_call w0.target w0 s.returned (resumed e f w0.frame w0.returned s) t _ _
  goes_end f s (b ∷ above) t k placed waits run =
      let back = back_in e f b s in
      let inside : Inside b.function back = record {
        called_from = run.0.called_from;
        typed = back_typed p a.points e f b s k.typed placed waits.0.named;
        names = run.0.names;
        grows = grows_on os s.origins back.origins k.grows (grows_closed (variables_at e f) s);
      } in
      subst (λ (here : List Origin). Goes here (effect_at e f End s (below (b ∷ above))) (step_at e f End s (below (b ∷ above)) t)) (closed_origins (variables_at e f) s) (goes_back f b waits.0.args back above t s.returned inside run.1 b.target waits.0.calls)

  goes_at : (f : ℕ) (c : Code) (s : State) (above : List Waiting) (t : Trace) → Each (Mine f) c → Inside f s → IsPlaced s → AreNamed (opening e []).frame s.origins → AreWaiting e Mine s.origins f (below above) → AllRun above → Goes s.origins (effect_at e f c s (below above)) (step_at e f c s (below above) t)
  goes_at f End s above t inside k placed globals waits run = goes_end f s above t k placed waits run
  goes_at f (Opens x r) s above t inside k placed globals waits run =
      λ wait. (point_in f r _ above t k.called_from (old_opened IsGlobal (length os) (types_in e f) x s (most f s above t k placed globals run) k.names) (grows_on os s.origins _ k.grows (grows_by s.origins (OfVariable x ∷ []))) run, (no_effect, (refl, nothing_said s.origins)))
  goes_at f (Plain i act r) s above t inside k placed globals waits run =
      goes_act f s above t k placed globals run i (λ m. r) act (made (types_in e f) act s) inside.0 refl
  goes_at f (Fork i b c r) s above t inside k placed globals waits run =
      goes_act f s above t k placed globals run i (λ m. c (picked m) ⨟ r) (Tests b) (made (types_in e f) (Tests b) s) inside.0 refl
  goes_at f (Loop i b c r) s above t inside k placed globals waits run =
      goes_act f s above t k placed globals run i (λ m. either (is_true (picked m)) (c ⨟ Loop i b c r) r) (Tests b) (made (types_in e f) (Tests b) s) inside.0 refl
  goes_at f (Leaves xs r) s above t inside k placed globals waits run =
      λ wait. (point_in f r _ above t k.called_from (old_closed IsGlobal (length os) xs s k.names) (grows_on os s.origins _ k.grows (grows_closed xs s)) run, (no_effect, (refl, nothing_said s.origins)))
  goes_at f (Call i to h args r) s above t inside k placed globals waits run =
      goes_call f s above t k placed globals run i to h args r (called e f h args s) inside.0 refl

  pub in_step : (x u : Point) → IsSound e Mine x → IsTypedState p a.points x.state → IsInCall x → Leads e x u → WaitAt (w0 ∷ ws) u → IsInCall u × HasSaid x.state.origins (step_effect e x)
  in_step x u sound typed k leads wait =
      let inside : Inside x.function x.state = record { called_from = k.called_from; typed = typed; names = k.names; grows = k.grows } in
      let waits = subst (AreWaiting e Mine x.state.origins x.function) k.callers_are sound.callers in
      let goes = subst (λ cs. Goes x.state.origins (effect_at e x.function x.rest x.state cs) (step_at e x.function x.rest x.state cs x.trace)) (sym k.callers_are) (goes_at x.function x.rest x.state k.above x.trace sound.inside inside sound.placed sound.globals waits k.waiting_) in
      elim leads [ inl h ↦ subst (Goes x.state.origins (step_effect e x)) h goes wait | inr h ↦ subst (Goes x.state.origins (step_effect e x)) h goes wait ]
