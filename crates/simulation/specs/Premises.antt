-- The premises of the law, in records by what they say. They speak of points of runs and never of the forms of statements.
use Rattle.std.specs.Prelude.{◌≡◌, ℕ, List, ◌∷◌, ◌++◌, true, false, Option, Some}
use Rattle.c_tree.specs.declared.expr.Expr.{Expr}
use Rattle.c_tree.specs.declared.statement.Target.{Target}
use Rattle.c_language.specs.Code.{Act, Code}
use Rattle.c_meaning.specs.Values.{Types, State}
use Rattle.c_meaning.specs.Acts.{Made, made, after}
use Rattle.c_meaning.specs.Activations.{code_at, types_in, opening, called, resumed, received}
use Rattle.c_meaning.specs.Steps.{Waiting, Point}
use Rattle.run_facts.specs.KeptCells.{Leads}
use Rattle.run_facts.specs.CallTouching.{called_below}
use Rattle.run_facts.specs.NextSteps.{Ends, Passes, Does, Calls, next_of, stores}
use Rattle.simulation.specs.Places.{kept_target, At, Behind, Storing}
use Rattle.simulation.specs.Settings.{Statement, FormalIn, FormalOut, Calling, ActualIn, ActualOut, ResultOut, Setting, Reached, ReachedThere, seen, seen_from, ShowSame}
use Rattle.simulation.specs.Agreeing.{Agree, CallersAgree, Together}

-- ---- the slice's places are the projections

-- what the slice does next, where a kept act comes next in the original
pub record ActThere (s : Setting) (f i : ℕ) (c : Code) (go : Made → Code) : Type 0 where
  pub act : Act
  pub onward : Made → Code
  pub next_is : next_of (s.project f c) ≡ Does (s.statement i) act onward
  pub goes_on : (v u : Made) → ShowSame v u → onward u ≡ s.project f (go v)

-- likewise where a kept move does
pub record MoveThere (s : Setting) (f : ℕ) (c r : Code) : Type 0 where
  pub change : Types → State → State
  pub next_is : next_of (s.project f c) ≡ Passes change (s.project f r)

-- likewise where a kept call does: it has its kept arguments, and its target where the actual-out of the result is kept
pub record CallThere (s : Setting) (f i : ℕ) (to : Target) (g : ℕ) (c r : Code) : Type 0 where
  pub args : List Expr
  pub next_is : next_of (s.project f c) ≡ Calls (s.statement i) (kept_target (s.kept (ResultOut f i g)) (s.target to)) (s.function g) args (s.project f r)
  pub body_is : code_at s.slice (s.function g) ≡ s.project g (code_at s.original g)

pub record Projected (s : Setting) : Type 0 where
  pub main_is : s.slice.main ≡ s.function s.original.main
  pub main_code : code_at s.slice s.slice.main ≡ s.project s.original.main (code_at s.original s.original.main)
  pub targets : (to : Target) → stores (s.target to) ≡ stores to
  pub ends : (x : Point) → Reached s x → next_of x.rest ≡ Ends → next_of (s.project x.function x.rest) ≡ Ends
  pub moves :
      (x : Point) (change : Types → State → State) (r : Code) → Reached s x → next_of x.rest ≡ Passes change r
      → s.keeps_move x.function x.rest ≡ true → MoveThere s x.function x.rest r
  pub skips_move :
      (x : Point) (change : Types → State → State) (r : Code) → Reached s x → next_of x.rest ≡ Passes change r
      → s.keeps_move x.function x.rest ≡ false → s.project x.function r ≡ s.project x.function x.rest
  pub acts :
      (x : Point) (i : ℕ) (a : Act) (go : Made → Code) → Reached s x → next_of x.rest ≡ Does i a go
      → s.kept (Statement x.function i) ≡ true → ActThere s x.function i x.rest go
  pub skips_act :
      (x : Point) (i : ℕ) (a : Act) (go : Made → Code) (v : Made) → Reached s x → next_of x.rest ≡ Does i a go
      → s.kept (Statement x.function i) ≡ false → made (types_in s.original x.function) a x.state ≡ Some v
      → s.project x.function (go v) ≡ s.project x.function x.rest
  pub calls :
      (x : Point) (i : ℕ) (to : Target) (g : ℕ) (args : List Expr) (r : Code) → Reached s x → next_of x.rest ≡ Calls i to g args r
      → s.kept (Calling x.function i g) ≡ true → CallThere s x.function i to g x.rest r
  pub skips_call :
      (x : Point) (i : ℕ) (to : Target) (g : ℕ) (args : List Expr) (r : Code) → Reached s x → next_of x.rest ≡ Calls i to g args r
      → s.kept (Calling x.function i g) ≡ false → s.project x.function r ≡ s.project x.function x.rest

-- ---- what is wanted

-- the rules by which a location is wanted: a kept vertex may use it, or it is wanted behind a vertex that doesn't kill it
pub record Wanting (s : Setting) : Type 0 where
  pub used :
      (x : Point) (i : ℕ) (a : Act) (go : Made → Code) (l : s.L) → Reached s x → next_of x.rest ≡ Does i a go
      → s.kept (Statement x.function i) ≡ true → s.uses (Statement x.function i) l ≡ true → s.wanted l (At x.function x.rest)
  pub before_act :
      (x : Point) (i : ℕ) (a : Act) (go : Made → Code) (v : Made) (l : s.L) → Reached s x → next_of x.rest ≡ Does i a go
      → made (types_in s.original x.function) a x.state ≡ Some v → s.kills (Statement x.function i) l ≡ false
      → s.wanted l (At x.function (go v)) → s.wanted l (At x.function x.rest)
  pub before_move :
      (x : Point) (change : Types → State → State) (r : Code) (l : s.L) → Reached s x → next_of x.rest ≡ Passes change r
      → s.wanted l (At x.function r) → s.wanted l (At x.function x.rest)
  -- a call's vertex, its actual-ins, and what is behind them
  pub argument_used :
      (x : Point) (i : ℕ) (to : Target) (g : ℕ) (args : List Expr) (r : Code) (l : s.L) → Reached s x
      → next_of x.rest ≡ Calls i to g args r → s.kept (Calling x.function i g) ≡ true → s.argument_uses x.function i g l ≡ true
      → s.wanted l (At x.function x.rest)
  pub passed_in :
      (x : Point) (i : ℕ) (to : Target) (g : ℕ) (args : List Expr) (r : Code) (l : s.L) → Reached s x
      → next_of x.rest ≡ Calls i to g args r → s.kept (ActualIn x.function i g l) ≡ true → s.wanted l (At x.function x.rest)
  pub before_call :
      (x : Point) (i : ℕ) (to : Target) (g : ℕ) (args : List Expr) (r : Code) (l : s.L) → Reached s x
      → next_of x.rest ≡ Calls i to g args r → s.wanted l (Behind x.function i g to r) → s.wanted l (At x.function x.rest)
  -- where a call returns, its actual-outs
  pub before_outs :
      (x : Point) (a : Waiting) (ws : List Waiting) (l : s.L) → Reached s x → next_of x.rest ≡ Ends → x.callers ≡ a ∷ ws
      → s.modifies x.function l ≡ false → s.wanted l (Storing a.function a.call x.function a.target a.rest)
      → s.wanted l (Behind a.function a.call x.function a.target a.rest)
  pub result_used :
      (x : Point) (a : Waiting) (ws : List Waiting) (l : s.L) → Reached s x → next_of x.rest ≡ Ends → x.callers ≡ a ∷ ws
      → stores a.target ≡ true → s.kept (ResultOut a.function a.call x.function) ≡ true
      → s.uses (ResultOut a.function a.call x.function) l ≡ true → s.wanted l (Storing a.function a.call x.function a.target a.rest)
  pub before_store :
      (x : Point) (a : Waiting) (ws : List Waiting) (l : s.L) → Reached s x → next_of x.rest ≡ Ends → x.callers ≡ a ∷ ws
      → stores a.target ≡ true → s.kills (ResultOut a.function a.call x.function) l ≡ false → s.wanted l (At a.function a.rest)
      → s.wanted l (Storing a.function a.call x.function a.target a.rest)
  pub without_store :
      (x : Point) (a : Waiting) (ws : List Waiting) (l : s.L) → Reached s x → next_of x.rest ≡ Ends → x.callers ≡ a ∷ ws
      → stores a.target ≡ false → s.wanted l (At a.function a.rest) → s.wanted l (Storing a.function a.call x.function a.target a.rest)
  -- a function's end, its formal-outs
  pub passed_out :
      (x : Point) (l : s.L) → Reached s x → next_of x.rest ≡ Ends → s.kept (FormalOut x.function l) ≡ true
      → s.wanted l (At x.function x.rest)
  -- a caller that waits wants nothing that its callee modifies: the actual-outs of all of that come first, and kill it
  pub unmodified :
      (x : Point) (above : List Waiting) (a : Waiting) (below : List Waiting) (l : s.L) → Reached s x → x.callers ≡ above ++ (a ∷ below)
      → s.wanted l (Behind a.function a.call (called_below above x.function) a.target a.rest)
      → s.modifies (called_below above x.function) l ≡ false

-- ---- what may define a wanted location is kept, across calls too

pub record Closing (s : Setting) : Type 0 where
  pub statement_kills : (f i : ℕ) (l : s.L) → s.kills (Statement f i) l ≡ true → s.defines (Statement f i) l ≡ true
  pub result_kills : (f i g : ℕ) (l : s.L) → s.kills (ResultOut f i g) l ≡ true → s.defines (ResultOut f i g) l ≡ true
  pub modified_outside : (g : ℕ) (l : s.L) → s.modifies g l ≡ true → s.outside l ≡ true
  -- an act
  pub act :
      (x : Point) (i : ℕ) (a : Act) (go : Made → Code) (v : Made) (l : s.L) → Reached s x → next_of x.rest ≡ Does i a go
      → made (types_in s.original x.function) a x.state ≡ Some v → s.wanted l (At x.function (go v))
      → s.defines (Statement x.function i) l ≡ true → s.kept (Statement x.function i) ≡ true
  -- a formal-in, of what is wanted where a function begins; what it wants from outside has one
  pub taken : (g : ℕ) (l : s.L) → s.wanted l (At g (code_at s.original g)) → s.outside l ≡ true → s.takes g l ≡ true
  pub formal_in : (g : ℕ) (l : s.L) → s.wanted l (At g (code_at s.original g)) → s.takes g l ≡ true → s.kept (FormalIn g l) ≡ true
  -- the actual-in of a kept formal-in, at each kept call
  pub actual_in :
      (x : Point) (i : ℕ) (to : Target) (g : ℕ) (args : List Expr) (r : Code) (l : s.L) → Reached s x
      → next_of x.rest ≡ Calls i to g args r → s.kept (Calling x.function i g) ≡ true → s.outside l ≡ true
      → s.kept (FormalIn g l) ≡ true → s.kept (ActualIn x.function i g l) ≡ true
  -- the actual-out of what the callee modifies, and its formal-out
  pub actual_out :
      (x : Point) (a : Waiting) (ws : List Waiting) (l : s.L) → Reached s x → next_of x.rest ≡ Ends → x.callers ≡ a ∷ ws
      → s.wanted l (Storing a.function a.call x.function a.target a.rest) → s.modifies x.function l ≡ true
      → s.kept (ActualOut a.function a.call x.function l) ≡ true
  pub formal_out :
      (x : Point) (a : Waiting) (ws : List Waiting) (l : s.L) → Reached s x → next_of x.rest ≡ Ends → x.callers ≡ a ∷ ws
      → s.kept (ActualOut a.function a.call x.function l) ≡ true → s.kept (FormalOut x.function l) ≡ true
  -- the actual-out of the result, and its formal-out
  pub result :
      (x : Point) (a : Waiting) (ws : List Waiting) (l : s.L) → Reached s x → next_of x.rest ≡ Ends → x.callers ≡ a ∷ ws
      → stores a.target ≡ true → s.wanted l (At a.function a.rest) → s.defines (ResultOut a.function a.call x.function) l ≡ true
      → s.kept (ResultOut a.function a.call x.function) ≡ true
  pub formal_result :
      (x : Point) (a : Waiting) (ws : List Waiting) → Reached s x → next_of x.rest ≡ Ends → x.callers ≡ a ∷ ws
      → s.kept (ResultOut a.function a.call x.function) ≡ true → s.kept (FormalOut x.function (s.result x.function)) ≡ true
  -- the call of a kept actual-out
  pub call_of_out : (f i g : ℕ) (l : s.L) → s.kept (ActualOut f i g l) ≡ true → s.kept (Calling f i g) ≡ true
  pub call_of_result : (f i g : ℕ) → s.kept (ResultOut f i g) ≡ true → s.kept (Calling f i g) ≡ true

-- ---- what the original alone does, and what a callee doesn't modify

pub record Staying (s : Setting) : Type 0 where
  -- whatever the original does alone, blocks stand for the blocks for which they stood
  pub blocks : (w : s.W) (x x1 : Point) (n : State) → Reached s x → Leads s.original x x1 → s.Blocks w x.state n → s.Blocks w x1.state n
  -- a step of the original alone, of whatever activation, leaves to a caller that waits what the callee doesn't modify
  pub unmodified :
      (w : s.W) (x x1 : Point) (m n : State) (above after_ : List Waiting) (a : Waiting) (below : List Waiting) (l : s.L) → Reached s x
      → Leads s.original x x1 → x.callers ≡ above ++ (a ∷ below) → x1.callers ≡ after_ ++ (a ∷ below) → s.Blocks w x.state m
      → s.modifies (called_below above x.function) l ≡ false → s.Same w l (seen a x.state) n → s.Same w l (seen a x1.state) n

-- a world that grows keeps what frames stand for
pub record Growing (s : Setting) : Type 0 where
  pub frames : (w u : s.W) (here there : ℕ → Option ℕ) → s.Grows w u → s.Frames w here there → s.Frames u here there

-- ---- acts

-- what the slice's act does, where the original's made v
pub record Performed (s : Setting) (w : s.W) (x y : Point) (i : ℕ) (b : Act) (v : Made) : Type 0 where
  pub values : Made
  pub made_is : made (types_in s.slice y.function) b y.state ≡ Some values
  pub shown : ShowSame v values
  pub together :
      Together s w x.function x.callers (s.kills (Statement x.function i)) x.state y.state (after i v x.state)
      (after (s.statement i) values y.state)

pub record Acting (s : Setting) : Type 0 where
  -- a kept act comes to the same where what it may use agrees
  pub both :
      (w : s.W) (x y : Point) (i : ℕ) (a : Act) (go : Made → Code) (v : Made) (b : Act) (onward : Made → Code) → Agree s w x y
      → next_of x.rest ≡ Does i a go → s.kept (Statement x.function i) ≡ true → next_of y.rest ≡ Does (s.statement i) b onward
      → ((l : s.L) → s.uses (Statement x.function i) l ≡ true → s.Same w l x.state y.state)
      → made (types_in s.original x.function) a x.state ≡ Some v → Performed s w x y i b v
  -- another leaves what is wanted after it and it doesn't define
  pub alone :
      (w : s.W) (x y : Point) (i : ℕ) (a : Act) (go : Made → Code) (v : Made) (l : s.L) → Agree s w x y → next_of x.rest ≡ Does i a go
      → s.kept (Statement x.function i) ≡ false → made (types_in s.original x.function) a x.state ≡ Some v
      → s.wanted l (At x.function (go v)) → s.defines (Statement x.function i) l ≡ false → s.Same w l x.state y.state
      → s.Same w l (after i v x.state) y.state

-- ---- moves without an act

pub record Moving (s : Setting) : Type 0 where
  pub both :
      (w : s.W) (x y : Point) (change there : Types → State → State) (r q : Code) → Agree s w x y → next_of x.rest ≡ Passes change r
      → s.keeps_move x.function x.rest ≡ true → next_of y.rest ≡ Passes there q
      → Together s w x.function x.callers (λ l. false) x.state y.state (change (types_in s.original x.function) x.state)
      (there (types_in s.slice y.function) y.state)
  pub alone_frames :
      (w : s.W) (x y : Point) (change : Types → State → State) (r : Code) → Agree s w x y → next_of x.rest ≡ Passes change r
      → s.keeps_move x.function x.rest ≡ false → s.Frames w (change (types_in s.original x.function) x.state).frame y.state.frame
  pub alone :
      (w : s.W) (x y : Point) (change : Types → State → State) (r : Code) (l : s.L) → Agree s w x y → next_of x.rest ≡ Passes change r
      → s.keeps_move x.function x.rest ≡ false → s.wanted l (At x.function r) → s.Same w l x.state y.state
      → s.Same w l (change (types_in s.original x.function) x.state) y.state

-- ---- entering a callee

-- the slice's callee begins where the original's begins in c: each kept argument's value has reached its parameter
pub record Entered (s : Setting) (w : s.W) (x y : Point) (g : ℕ) (args : List Expr) (c : State) : Type 0 where
  pub world : s.W
  pub state : State
  pub called_is : called s.slice y.function (s.function g) args y.state ≡ Some state
  pub grows : s.Grows w world
  pub blocks : s.Blocks world c state
  pub frames : s.Frames world c.frame state.frame
  -- what is seen outside agrees as it did; of the rest what no formal-in defines, where nothing is written, and what a kept one does
  pub outside : (l : s.L) → s.outside l ≡ true → s.Same w l x.state y.state → s.Same world l c state
  pub inside : (l : s.L) → s.outside l ≡ false → (s.takes g l ≡ true → s.kept (FormalIn g l) ≡ true) → s.Same world l c state
  pub caller : (l : s.L) → s.Same w l x.state y.state → s.Same world l (seen_from x.state c) (seen_from y.state state)
  pub waiting : CallersAgree s w world x.function x.callers x.state y.state c state

pub record Entering (s : Setting) : Type 0 where
  pub both :
      (w : s.W) (x y : Point) (i : ℕ) (to : Target) (g : ℕ) (args : List Expr) (r : Code) (to_there : Target) (there : List Expr) (q : Code) (c : State)
      → Agree s w x y → next_of x.rest ≡ Calls i to g args r → s.kept (Calling x.function i g) ≡ true
      → next_of y.rest ≡ Calls (s.statement i) to_there (s.function g) there q
      → ((l : s.L) → s.argument_uses x.function i g l ≡ true → s.Same w l x.state y.state)
      → called s.original x.function g args x.state ≡ Some c → Entered s w x y g there c
  -- a call that the slice hasn't changes nothing that the caller sees
  pub alone :
      (w : s.W) (x y : Point) (i : ℕ) (to : Target) (g : ℕ) (args : List Expr) (r : Code) (c : State) (l : s.L) → Agree s w x y
      → next_of x.rest ≡ Calls i to g args r → s.kept (Calling x.function i g) ≡ false
      → called s.original x.function g args x.state ≡ Some c → s.Same w l x.state y.state → s.Same w l (seen_from x.state c) y.state

-- ---- returning

-- the caller's state where the call is done, before its result is stored
abbrev pub back : Setting → Point → Waiting → State
back s x a = resumed s.original x.function a.frame a.returned x.state

abbrev pub back_there : Setting → Point → Waiting → State
back_there s y b = resumed s.slice y.function b.frame b.returned y.state

-- the callees' blocks are gone
pub record Resumed (s : Setting) (w : s.W) (x y : Point) (a b : Waiting) (ws : List Waiting) : Type 0 where
  pub blocks : s.Blocks w (back s x a) (back_there s y b)
  pub outside : (l : s.L) → s.outside l ≡ true → s.Same w l x.state y.state → s.Same w l (back s x a) (back_there s y b)
  pub caller : (l : s.L) → s.Same w l (seen a x.state) (seen b y.state) → s.Same w l (back s x a) (back_there s y b)
  pub waiting : CallersAgree s w w a.function ws x.state y.state (back s x a) (back_there s y b)

-- the slice's store of a result, where the original's made v
pub record Stored (s : Setting) (w : s.W) (x y : Point) (a b : Waiting) (ws : List Waiting) (v : Made) : Type 0 where
  pub values : Made
  pub received_is : received (types_in s.slice b.function) b.target y.state.returned (back_there s y b) ≡ Some values
  pub shown : ShowSame v values
  pub together :
      Together s w a.function ws (s.kills (ResultOut a.function a.call x.function)) (back s x a) (back_there s y b)
      (after a.call v (back s x a)) (after b.call values (back_there s y b))

-- the store by the original alone, where the slice drops the result
pub record Dropped (s : Setting) (w : s.W) (x y : Point) (a b : Waiting) (ws : List Waiting) (v : Made) : Type 0 where
  pub blocks : s.Blocks w (after a.call v (back s x a)) (back_there s y b)
  pub same :
      (l : s.L) → s.defines (ResultOut a.function a.call x.function) l ≡ false → s.Same w l (back s x a) (back_there s y b)
      → s.Same w l (after a.call v (back s x a)) (back_there s y b)
  pub waiting : CallersAgree s w w a.function ws (back s x a) (back_there s y b) (after a.call v (back s x a)) (back_there s y b)

pub record Returning (s : Setting) : Type 0 where
  pub plain :
      (w : s.W) (x y : Point) (a b : Waiting) (ws us : List Waiting) → Agree s w x y → next_of x.rest ≡ Ends → x.callers ≡ a ∷ ws
      → y.callers ≡ b ∷ us → Resumed s w x y a b ws
  pub stored :
      (w : s.W) (x y : Point) (a b : Waiting) (ws us : List Waiting) (v : Made) → Agree s w x y → next_of x.rest ≡ Ends
      → x.callers ≡ a ∷ ws → y.callers ≡ b ∷ us → stores a.target ≡ true → s.kept (ResultOut a.function a.call x.function) ≡ true
      → s.Same w (s.result x.function) x.state y.state
      → ((l : s.L) → s.uses (ResultOut a.function a.call x.function) l ≡ true → s.Same w l (back s x a) (back_there s y b))
      → received (types_in s.original a.function) a.target x.state.returned (back s x a) ≡ Some v → Stored s w x y a b ws v
  pub dropped :
      (w : s.W) (x y : Point) (a b : Waiting) (ws us : List Waiting) (v : Made) → Agree s w x y → next_of x.rest ≡ Ends
      → x.callers ≡ a ∷ ws → y.callers ≡ b ∷ us → stores a.target ≡ true → s.kept (ResultOut a.function a.call x.function) ≡ false
      → received (types_in s.original a.function) a.target x.state.returned (back s x a) ≡ Some v → Dropped s w x y a b ws v
  -- from a call that the slice hasn't: what the caller sees stays, and what the store of the result doesn't define
  pub left :
      (w : s.W) (x y : Point) (a : Waiting) (ws : List Waiting) (l : s.L) → Reached s x → ReachedThere s y → next_of x.rest ≡ Ends
      → x.callers ≡ a ∷ ws → s.Blocks w x.state y.state → s.Frames w a.frame y.state.frame → s.Same w l (seen a x.state) y.state
      → s.Same w l (back s x a) y.state
  pub left_stored :
      (w : s.W) (x y : Point) (a : Waiting) (ws : List Waiting) (v : Made) (l : s.L) → Reached s x → ReachedThere s y
      → next_of x.rest ≡ Ends → x.callers ≡ a ∷ ws → s.Blocks w x.state y.state → s.Frames w a.frame y.state.frame
      → stores a.target ≡ true → received (types_in s.original a.function) a.target x.state.returned (back s x a) ≡ Some v
      → s.defines (ResultOut a.function a.call x.function) l ≡ false → s.Same w l (back s x a) y.state
      → s.Same w l (after a.call v (back s x a)) y.state

-- ---- telling

-- the criterion's acts are kept and told under their ranks, and each call of a function that holds some of it is kept
pub record Telling (s : Setting) : Type 0 where
  pub act_ranks :
      (x : Point) (i : ℕ) (a : Act) (go : Made → Code) → Reached s x → next_of x.rest ≡ Does i a go
      → s.kept (Statement x.function i) ≡ true → s.ranks (s.statement i) ≡ s.criterion i
  pub act_kept :
      (x : Point) (i : ℕ) (a : Act) (go : Made → Code) → Reached s x → next_of x.rest ≡ Does i a go → s.criterion i ≡ true
      → (s.kept (Statement x.function i) ≡ true) × s.holds x.function
  pub call_ranks :
      (x : Point) (i : ℕ) (to : Target) (g : ℕ) (args : List Expr) (r : Code) → Reached s x → next_of x.rest ≡ Calls i to g args r
      → s.kept (Calling x.function i g) ≡ true → s.ranks (s.statement i) ≡ s.criterion i
  pub call_kept :
      (x : Point) (i : ℕ) (to : Target) (g : ℕ) (args : List Expr) (r : Code) → Reached s x → next_of x.rest ≡ Calls i to g args r
      → s.criterion i ≡ true → (s.kept (Calling x.function i g) ≡ true) × s.holds x.function
  pub call_stores :
      (x : Point) (i : ℕ) (to : Target) (g : ℕ) (args : List Expr) (r : Code) → Reached s x → next_of x.rest ≡ Calls i to g args r
      → s.criterion i ≡ true → stores to ≡ true → s.kept (ResultOut x.function i g) ≡ true
  pub call_of_holder :
      (x : Point) (i : ℕ) (to : Target) (g : ℕ) (args : List Expr) (r : Code) → Reached s x → next_of x.rest ≡ Calls i to g args r
      → s.holds g → (s.kept (Calling x.function i g) ≡ true) × s.holds x.function
  -- the same of the store of a result
  pub store_ranks :
      (x : Point) (a : Waiting) (ws : List Waiting) → Reached s x → next_of x.rest ≡ Ends → x.callers ≡ a ∷ ws
      → s.kept (Calling a.function a.call x.function) ≡ true → s.ranks (s.statement a.call) ≡ s.criterion a.call
  pub store_kept :
      (x : Point) (a : Waiting) (ws : List Waiting) → Reached s x → next_of x.rest ≡ Ends → x.callers ≡ a ∷ ws → stores a.target ≡ true
      → s.criterion a.call ≡ true → (s.kept (ResultOut a.function a.call x.function) ≡ true) × s.holds a.function

-- ---- the beginning

-- where the globals have begun, what main wants agrees
pub record Beginning (s : Setting) : Type 0 where
  pub world : s.W
  pub blocks : s.Blocks world (opening s.original s.input) (opening s.slice s.input)
  pub frames : s.Frames world (opening s.original s.input).frame (opening s.slice s.input).frame
  pub same :
      (l : s.L) → s.wanted l (At s.original.main (code_at s.original s.original.main))
      → s.Same world l (opening s.original s.input) (opening s.slice s.input)

-- ---- all of them

pub record Premises (s : Setting) : Type 0 where
  pub projected : Projected s
  pub wanting : Wanting s
  pub closing : Closing s
  pub staying : Staying s
  pub growing : Growing s
  pub acting : Acting s
  pub moving : Moving s
  pub entering : Entering s
  pub returning : Returning s
  pub telling : Telling s
  pub beginning : Beginning s
