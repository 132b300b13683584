-- What the vertices of statements say of the cells that a run touches.
use Rattle.std.specs.Prelude.{◌≡◌, ◌↔◌, ℕ, ◌<◌, List, length, map, true, Some, All, Contains, is_some, slice_get}
use Rattle.c_tree.specs.declared.expr.Expr.{Expr}
use Rattle.c_tree.specs.declared.program.Program.{Program}
use Rattle.c_tree.specs.declared.statement.Target.{Target}
use Rattle.c_language.specs.Code.{Act}
use Rattle.c_meaning.specs.declared.value.Place.{Place}
use Rattle.c_meaning.specs.declared.value.Value.{Value}
use Rattle.c_meaning.specs.Memory.{is_cell}
use Rattle.c_meaning.specs.Values.{Origin, State}
use Rattle.c_meaning.specs.Activations.{executable}
use Rattle.c_meaning.specs.Steps.{Waiting, Point}
use Rattle.dep_model.specs.declared.location.Location.{Location}
use Rattle.dep_model.specs.declared.location.Root.TheVariants.{Variable}
use Rattle.dep_model.specs.declared.vertex.Slot.TheVariants.{Argument, Result}
use Rattle.dep_model.specs.declared.vertex.VertexKind.{VertexKind}
use Rattle.dep_model.specs.declared.vertex.VertexKind.TheVariants.{FormalIn, Statement, ActualIn, ActualOut}
use Rattle.dep_model.specs.Doings.{Doing, Does, Calls, doings_of}
use Rattle.dep_model.specs.DoingEffects.{the_input, result_of, is_global}
use Rattle.dep_model.specs.ModRef.{is_outside}
use Rattle.dep_model.specs.SystemGraph.{Analysis}
use Rattle.dep_model.specs.VertexOrder.{formal_ins, doing_vertices, kind_uses, kind_defines, kind_kills}
use Rattle.run_facts.specs.CellLocations.{location_of}
use Rattle.run_facts.specs.Counting.{Counts}
use Rattle.run_facts.specs.Effects.{Touch, Effect, argument_reads, doing_effect, back_in, receipt_effect}

-- a cell has a location, which is one of these
pub record IsAt (origins : List Origin) (these : Location → Type 0) (w : Touch) : Type 0 where
  pub location : Location
  pub location_is : location_of origins w.cell ≡ Some location
  pub among : these location

-- something is stored in a cell
abbrev pub StoresInto : Effect → Place → Type 0
StoresInto e q = Contains (map (λ (w : Touch). w.cell) e.stores) q

-- an activation can name the cells of the blocks of its variables; x is one of them
pub record CanName (s : State) (x : ℕ) (l : Location) (q : Place) : Type 0 where
  pub named : s.frame x ≡ Some q.block
  pub is_live : is_cell s.memory q ≡ true
  pub location_is : location_of s.origins q ≡ Some l

module _ (p : Program) (a : Analysis) where
  -- ---- what vertices of a statement in function f may use and define

  -- this vertex is one of the statement's, and may use a location
  pub record IsUsedBy (f : ℕ) (d : Doing) (vertex : VertexKind) (l : Location) : Type 0 where
    pub of_statement : Contains (doing_vertices p a.effects d) vertex
    pub used : kind_uses p a.points f vertex l ≡ true

  -- it is one of the statement's, and may define a location
  pub record IsDefinedBy (f : ℕ) (d : Doing) (vertex : VertexKind) (l : Location) : Type 0 where
    pub of_statement : Contains (doing_vertices p a.effects d) vertex
    pub defined : kind_defines p a.points f vertex l ≡ true

  pub record MayUse (f : ℕ) (d : Doing) (l : Location) : Type 0 where
    pub vertex : VertexKind
    pub use_is : IsUsedBy f d vertex l

  pub record MayDefine (f : ℕ) (d : Doing) (l : Location) : Type 0 where
    pub vertex : VertexKind
    pub definition_is : IsDefinedBy f d vertex l

  -- the formal-in of the parameter of function g at a place may define a location
  pub record IsPassedBy (g parameter : ℕ) (l : Location) : Type 0 where
    pub of_function : Contains (formal_ins p a.effects g) (FormalIn (Argument parameter))
    pub defined : kind_defines p a.points g (FormalIn (Argument parameter)) l ≡ true

  pub record MayPass (g : ℕ) (l : Location) : Type 0 where
    pub parameter : ℕ
    pub pass_is : IsPassedBy g parameter l

  -- an act stores where the statement's vertices may define, and a call that passes its arguments into the callee's parameters
  abbrev pub MayStore : ℕ → Doing → Location → Type 0
  MayStore f (Does i act) l = MayDefine f (Does i act) l
  MayStore f (Calls i to g args) l = MayPass g l

  -- ---- what an effect touches

  -- a cell that is touched in a state has a location, which is one of these; and it counts, where its block was there before
  pub record IsTouched (s : State) (origins : List Origin) (these : Location → Type 0) (w : Touch) : Type 0 where
    pub location : Location
    pub location_is : location_of origins w.cell ≡ Some location
    pub among : these location
    pub counts : w.cell.block < length s.memory.blocks → Counts (is_outside p) location s w.cell.block

  -- an effect in function f reads and stores only where this is allowed; who takes from the input uses and defines it
  pub record Touches (f : ℕ) (s : State) (origins : List Origin) (use_ define : Location → Type 0) (e : Effect) : Type 0 where
    pub reads_are : All (IsTouched s origins use_) e.reads
    pub stores_are : All (IsTouched s origins define) e.stores
    pub input_is : e.takes ≡ true → use_ the_input × define the_input
    pub result_is : (v : Value) → e.returned ≡ Some v → define (result_of f)

  -- a vertex kills no more than an effect in function f overwrites, in a state: where the location is that of a variable, the cells
  -- stored into are all live cells of it that the activation can name
  pub record Overwrites (f : ℕ) (vertex : VertexKind) (s : State) (e : Effect) : Type 0 where
    pub cells_are :
        (l : Location) (x : ℕ) → l.root ≡ Variable x → kind_kills p a.points f vertex l ≡ true
        → (q : Place) → CanName s x l q ↔ (StoresInto e q × (location_of s.origins q ≡ Some l))
    -- no other activation sees such a cell, but for a global's, which has one block
    pub alone :
        (l : Location) (x : ℕ) → l.root ≡ Variable x → kind_kills p a.points f vertex l ≡ true → is_outside p l ≡ true → is_global p x ≡ true
    pub input_is : kind_kills p a.points f vertex the_input ≡ true → e.takes ≡ true
    pub result_is : kind_kills p a.points f vertex (result_of f) ≡ true → is_some e.returned ≡ true

  -- ---- what a step of a run touches, from one point to the next

  -- a call of g, argument by argument: the one at a place reads only where the actual-in of its slot may use, and what is stored for the
  -- parameter at a place goes where the formal-in of that slot may define
  pub record ArgumentsTouch (x y : Point) (i : ℕ) (to : Target) (g : ℕ) (args : List Expr) (e : Effect) : Type 0 where
    pub reads_are :
        (k : ℕ) (arg : Expr) → slice_get args k ≡ Some arg
        → All (IsTouched x.state y.state.origins (IsUsedBy x.function (Calls i to g args) (ActualIn i (Argument k))))
        (argument_reads (executable p) x.function arg x.state)
    pub stores_are : (k : ℕ) (w : Touch) → slice_get e.stores k ≡ Some w → IsTouched x.state y.state.origins (IsPassedBy g k) w

  -- the act or the call of a statement
  pub record DoingTouches (x y : Point) (d : Doing) : Type 0 where
    pub effect : Effect
    pub effect_is : doing_effect (executable p) x.function d x.state ≡ Some effect
    pub of_function : Contains (doings_of p x.function) d
    pub touches : Touches x.function x.state y.state.origins (MayUse x.function d) (MayStore x.function d) effect
    pub arguments : (i : ℕ) (to : Target) (g : ℕ) (args : List Expr) → d ≡ Calls i to g args → ArgumentsTouch x y i to g args effect
    pub overwrites : (i : ℕ) (act : Act) → d ≡ Does i act → Overwrites x.function (Statement i) x.state effect

  -- the store after a call of the function that ran, which is that of the result's actual-out at the call's statement in the caller
  pub record ReceiptTouches (x : Point) (w : Waiting) : Type 0 where
    pub args : List Expr
    pub effect : Effect
    pub effect_is : receipt_effect (executable p) x.function w x.state ≡ Some effect
    pub of_function : Contains (doings_of p w.function) (Calls w.call w.target x.function args)
    pub touches :
        Touches w.function (back_in (executable p) x.function w x.state) x.state.origins
        (IsUsedBy w.function (Calls w.call w.target x.function args) (ActualOut w.call Result))
        (IsDefinedBy w.function (Calls w.call w.target x.function args) (ActualOut w.call Result)) effect
    pub overwrites : Overwrites w.function (ActualOut w.call Result) (back_in (executable p) x.function w x.state) effect
