-- Functions as their activations need them, globals, and the states before main and at the ends of a call (ISO C99 5.1.2, 6.2.4, 6.5.2.2).
use Rattle.std.specs.Prelude.{ℕ, List, [], ◌∷◌, ◌++◌, length, map, Option, Some, None, option_map, option_and_then, unwrap_or, slice_get}
use Rattle.std.specs.Option.{option_map_or}
use Rattle.c_tree.specs.declared.expr.Expr.{Expr}
use Rattle.c_tree.specs.declared.program.Function.{Function}
use Rattle.c_tree.specs.declared.program.Init.{Init}
use Rattle.c_tree.specs.declared.program.Item.{Item}
use Rattle.c_tree.specs.declared.program.Item.TheVariants as item
use Rattle.c_tree.specs.declared.program.Program.{Program}
use Rattle.c_tree.specs.declared.statement.Target.{Target}
use Rattle.c_language.specs.declared.expr_type.ExprType.{ExprType}
use Rattle.c_language.specs.TreeTypes.{Typing, shape_of, typing_of}
use Rattle.c_language.specs.Code.{Code, End, declared_in, part, code}
use Rattle.c_meaning.specs.declared.value.Value.{Value}
use Rattle.c_meaning.specs.Cells.{Structs, structs_of, cells}
use Rattle.c_meaning.specs.Memory.{Entered, Block, write, unwritten, with_new}
use Rattle.c_meaning.specs.Values.{Types, OfVariable, State, whole, bound, variable_opened, all_closed, as_type, eval_all}
use Rattle.c_meaning.specs.Acts.{Store, Made, zero_of, begun_with, given, stored}
use Rattle.c_language.specs.Mains.{main_of}

-- a function: its parameters, the variables of its outermost block, the type of its result, and what it does
pub record Routine : Type 0 where
  pub params : List ℕ
  pub locals : List ℕ
  pub result : Option ExprType
  pub code : Code

-- a global variable, and what it begins with
pub record Global : Type 0 where
  pub variable : ℕ
  pub init : Init

-- a program in the form that its runs need
pub record Executable : Type 0 where
  pub typing : Typing
  pub structs : Structs
  pub globals : List Global
  pub functions : List Routine
  pub main : ℕ

abbrev pub routine_of : Function → Routine
routine_of f = record {
  params = f.params;
  locals = declared_in (map part f.body);
  result = option_map shape_of f.result;
  code = code f.body;
}

abbrev pub globals_in : List Item → List Global
globals_in [] = []
globals_in (item.Include is_stdlib ∷ rest) = globals_in rest
globals_in (item.Tag s ∷ rest) = globals_in rest
globals_in (item.Struct s ∷ rest) = globals_in rest
globals_in (item.Global x i ∷ rest) = record { variable = x; init = i } ∷ globals_in rest
globals_in (item.Prototype f names is_static ∷ rest) = globals_in rest
globals_in (item.Define f ∷ rest) = globals_in rest

-- a program without main, which no text has, has the number of no function
abbrev pub executable : Program → Executable
executable p = record {
  typing = typing_of p;
  structs = structs_of p;
  globals = globals_in p.items;
  functions = map routine_of p.functions;
  main = unwrap_or (main_of p) (length p.functions);
}

-- a block of zeros and null pointers
abbrev pub zeros : Structs → ExprType → Block
zeros structs shape = record (unwritten structs shape Entered) { cells = map (λ (t : ExprType). Some (zero_of t)) (cells structs shape) }

-- what an initialiser of a global stores; it is a constant expression, so that it is defined
abbrev pub stores_of : Option Made → List Store
stores_of None = []
stores_of (Some x) = x.stores

abbrev pub initialised : Option Made → State → State
initialised o s = record s { memory = stored (stores_of o) s.memory }

module _ (p : Executable) where
  -- what function f does; another number does nothing
  abbrev pub code_at : ℕ → Code
  code_at f = option_map_or (λ (r : Routine). r.code) (slice_get p.functions f) End

  abbrev pub result_at : ℕ → Option ExprType
  result_at f = option_map_or (λ (r : Routine). r.result) (slice_get p.functions f) None

  -- the variables whose blocks are gone when a call of f is done: its parameters, and what its outermost block declares
  abbrev pub variables_at : ℕ → List ℕ
  variables_at f = option_map_or (λ (r : Routine). r.params ++ r.locals) (slice_get p.functions f) []

  -- the types where no function runs
  abbrev pub outside : Types
  outside = record { typing = p.typing; result = None }

  -- the types in function f
  abbrev pub types_in : ℕ → Types
  types_in f = record { typing = p.typing; result = result_at f }

  -- ---- before main

  -- no variable has begun, and nothing is written
  abbrev pub blank : State
  blank = record {
    frame = λ x. None;
    returned = None;
    memory = record { structs = p.structs; blocks = [] };
    origins = [];
    unread = [];
  }

  abbrev pub global_opened : ℕ → State → State
  global_opened x s = record s {
    frame = bound s.frame x (Some (length s.memory.blocks));
    memory = with_new (zeros s.memory.structs (p.typing.variable x)) s.memory;
    origins = s.origins ++ OfVariable x ∷ [];
  }

  abbrev pub global_begun : Global → State → State
  global_begun g s =
      let opened = global_opened g.variable s in
      initialised (begun_with outside g.variable g.init opened) opened

  abbrev pub all_begun : List Global → State → State
  all_begun [] s = s
  all_begun (g ∷ gs) s = all_begun gs (global_begun g s)

  -- the globals have begun, in text order, each with its initialiser, or with 0 and null (6.7.8, paragraph 10)
  abbrev pub opening : List ℕ → State
  opening input = record (all_begun p.globals blank) { unread = input }

  -- ---- calls

  -- parameters begin as blocks of their own, with the values converted to their types (6.5.2.2, paragraph 7)
  abbrev pub parameter_begun : ℕ → State → Value → State
  parameter_begun x s v =
      let opened = variable_opened outside x s in
      record opened { memory = write (whole (length s.memory.blocks)) v opened.memory }

  abbrev pub passed : List ℕ → List Value → State → Option State
  passed [] [] s = Some s
  passed [] (v ∷ vs) s = None
  passed (x ∷ xs) [] s = None
  passed (x ∷ xs) (v ∷ vs) s = option_and_then (λ (w : Value). passed xs vs (parameter_begun x s w)) (as_type (p.typing.variable x) v)

  -- a function can name the globals and its own variables
  abbrev pub fresh : State → State
  fresh s = record s { frame = (opening []).frame; returned = None }

  abbrev pub passed_to : ℕ → List Expr → State → Routine → Option State
  passed_to f args s r = option_and_then (λ (vs : List Value). passed r.params vs (fresh s)) (eval_all (types_in f) args s)

  -- the state in which a call of g from f begins: the arguments are evaluated from left to right, and then passed
  abbrev pub called : (f g : ℕ) → List Expr → State → Option State
  called f g args s =
      option_and_then (passed_to f args s) (slice_get p.functions g)

  -- the caller's state once a call of g is done: the callee's blocks are gone, and the caller's variables are named again
  abbrev pub resumed : ℕ → (ℕ → Option ℕ) → Option Value → State → State
  resumed g frame returned s = record (all_closed (variables_at g) s) { frame = frame; returned = returned }

-- what a call's target gets of the callee's result: an undefined act where there is none
abbrev pub received : Types → Target → Option Value → State → Option Made
received types to o s = option_and_then (λ (v : Value). given types to v s) o
