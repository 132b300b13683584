-- The effect of an act as data: the cells that it reads, and those into which it stores.
use Rattle.std.specs.Prelude.{ℕ, suc, List, [], ◌∷◌, ◌++◌, length, map, Bool, false, Option, Some, None, option_map, slice_get}
use Rattle.std.specs.Option.{option_map_or}
use Rattle.c_tree.specs.declared.expr.Expr.{Expr}
use Rattle.c_tree.specs.declared.statement.Target.{Target}
use Rattle.c_tree.specs.declared.statement.Target.TheVariants as target
use Rattle.c_language.specs.Code.{Act, Tests, Code, End, Opens, Plain, Fork, Loop, Leaves, Call}
use Rattle.c_language.specs.TreeTypes.{Typing}
use Rattle.c_meaning.specs.declared.value.Place.{Place}
use Rattle.c_meaning.specs.declared.value.Value.{Value}
use Rattle.c_meaning.specs.Memory.{Memory, read}
use Rattle.c_meaning.specs.Values.{Types, State, whole, as_type, eval_all}
use Rattle.c_meaning.specs.Acts.{Store, Made, made}
use Rattle.c_meaning.specs.Activations.{Routine, Executable, types_in, called, resumed, received}
use Rattle.c_meaning.specs.Steps.{Waiting}
use Rattle.dep_model.specs.Doings.{Doing, Does, Calls}
use Rattle.run_facts.specs.ReadCells.{value_read, target_read, act_read, reads_input}

-- a cell, with what it holds where it is read, or what is stored in it: a value, or nothing
pub record Touch : Type 0 where
  pub cell : Place
  pub value : Option Value

-- the cells that are read, and those into which something is stored, in order; whether the input is read and taken from; and what is
-- given as the result of the function that runs
pub record Effect : Type 0 where
  pub reads : List Touch
  pub stores : List Touch
  pub takes : Bool
  pub returned : Option Value

abbrev pub holding : Memory → Place → Touch
holding m q = record { cell = q; value = read m q }

abbrev pub storing : Store → Touch
storing w = record { cell = w.place; value = Some w.value }

-- the effect of an act that made this
abbrev pub act_effect : Types → Act → State → Made → Effect
act_effect types a s x = record {
  reads = map (holding s.memory) (act_read types a s);
  stores = map storing x.stores;
  takes = reads_input a;
  returned = x.returned;
}

-- arguments go into the blocks of the parameters, of which the first has this number, each converted to its parameter's type
abbrev pub passed_into : Typing → ℕ → List ℕ → List Value → List Touch
passed_into typing b [] vs = []
passed_into typing b (x ∷ xs) [] = []
passed_into typing b (x ∷ xs) (v ∷ vs) = (record { cell = whole b; value = as_type (typing.variable x) v }) ∷ passed_into typing (suc b) xs vs

-- the effect of a store that made this, and whose place was found by reading these
abbrev pub store_effect : Memory → List Place → Made → Effect
store_effect m reads x = record {
  reads = map (holding m) reads;
  stores = map storing x.stores;
  takes = false;
  returned = None;
}

abbrev pub no_effect : Effect
no_effect = record { reads = []; stores = []; takes = false; returned = None }

module _ (p : Executable) where
  abbrev pub parameters_at : ℕ → List ℕ
  parameters_at g = option_map_or (λ (r : Routine). r.params) (slice_get p.functions g) []

  -- what function f reads for an argument of a call, and for several, one after another
  abbrev pub argument_reads : ℕ → Expr → State → List Touch
  argument_reads f e s = map (holding s.memory) (value_read (types_in p f) e s)

  abbrev pub arguments_read : ℕ → List Expr → State → List Touch
  arguments_read f [] s = []
  arguments_read f (e ∷ es) s = argument_reads f e s ++ arguments_read f es s

  -- the effect of a call of g from f, up to where the callee begins
  abbrev pub call_effect : (f g : ℕ) → List Expr → State → Effect
  call_effect f g args s = record {
    reads = arguments_read f args s;
    stores = option_map_or (passed_into p.typing (length s.memory.blocks) (parameters_at g)) (eval_all (types_in p f) args s) [];
    takes = false;
    returned = None;
  }

  -- the effect of what a statement of f does next in a state; None where that is undefined
  abbrev pub doing_effect : ℕ → Doing → State → Option Effect
  doing_effect f (Does i a) s = option_map (act_effect (types_in p f) a s) (made (types_in p f) a s)
  doing_effect f (Calls i to g args) s = option_map (λ (c : State). call_effect f g args s) (called p f g args s)

  abbrev pub store_received : Types → Target → Option Value → State → Option Effect
  store_received types target.None v s = Some no_effect
  store_received types (target.Place e) v s =
      option_map (store_effect s.memory (target_read types (target.Place e) s)) (received types (target.Place e) v s)
  store_received types (target.Declared x) v s =
      option_map (store_effect s.memory (target_read types (target.Declared x) s)) (received types (target.Declared x) v s)

  -- the state of a waiting caller where its call of g is done
  abbrev pub back_in : ℕ → Waiting → State → State
  back_in g w s = resumed p g w.frame w.returned s

  -- the effect of the store after a call of g; None where that is undefined
  abbrev pub receipt_effect : ℕ → Waiting → State → Option Effect
  receipt_effect g w s = store_received (types_in p w.function) w.target s.returned (back_in g w s)

-- what a list does next, where that is an act or a call
abbrev pub next_doing : Code → Option Doing
next_doing End = None
next_doing (Opens x r) = None
next_doing (Plain i a r) = Some (Does i a)
next_doing (Fork i e c r) = Some (Does i (Tests e))
next_doing (Loop i e b r) = Some (Does i (Tests e))
next_doing (Leaves xs r) = None
next_doing (Call i to g args r) = Some (Calls i to g args)
