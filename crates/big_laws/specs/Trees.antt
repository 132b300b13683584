-- The tree of a generated program.
use Rattle.std.specs.Prelude.{ℕ, zero, suc, Bool, true, false, List, [], ◌∷◌, ◌++◌, Option, Some, None, codes, decimal}
use Rattle.c_arith.specs.declared.int_type.IntType.TheVariants.{Int}
use Rattle.c_arith.specs.declared.operators.BinaryOp.TheVariants.{Add}
use Rattle.c_tree.specs.declared.raw.expr.RawExpr.{RawExpr}
use Rattle.c_tree.specs.declared.raw.expr.RawExpr.TheVariants as e
use Rattle.c_tree.specs.declared.raw.expr.RawType.{RawType}
use Rattle.c_tree.specs.declared.raw.expr.RawType.TheVariants as type
use Rattle.c_tree.specs.declared.raw.expr.RawVar.{RawVar}
use Rattle.c_tree.specs.declared.raw.program.RawInit.TheVariants as init
use Rattle.c_tree.specs.declared.raw.program.RawParam.{RawParam}
use Rattle.c_tree.specs.declared.raw.program.RawHead.{RawHead}
use Rattle.c_tree.specs.declared.raw.program.RawItem.{RawItem}
use Rattle.c_tree.specs.declared.raw.program.RawItem.TheVariants as item
use Rattle.c_tree.specs.declared.raw.program.RawProgram.{RawProgram}
use Rattle.c_tree.specs.declared.raw.statement.RawTarget.TheVariants as target
use Rattle.c_tree.specs.declared.raw.statement.RawArg.{RawArg}
use Rattle.c_tree.specs.declared.raw.statement.RawArg.TheVariants as arg
use Rattle.c_tree.specs.declared.raw.statement.RawStatement.{RawStatement}
use Rattle.c_tree.specs.declared.raw.statement.RawStatement.TheVariants as s
use Rattle.big_programs.specs.declared.choices.Call.{Call}
use Rattle.big_programs.specs.declared.choices.Choices.{Choices}
use Rattle.big_programs.specs.Draws.{choices_drawn, state_before}
use Rattle.big_programs.specs.Generated.{Bytes}

-- ---- names and types

abbrev pub global_name : ℕ → Bytes
global_name q = codes "g" ++ decimal q

abbrev pub function_name : ℕ → Bytes
function_name number = codes "f" ++ decimal number

abbrev pub int : RawType
int = type.Integer Int

abbrev pub variable : Bytes → RawVar
variable name = record { name = name; shape = int }

abbrev pub named : Bytes → RawExpr
named name = e.Variable name

abbrev pub passed : Bytes → RawArg
passed name = arg.Value (e.Variable name)

-- ---- a function

abbrev pub local_statement : ℕ → RawStatement
local_statement added = s.Declare 0 (variable (codes "t")) (init.One (e.Binary Add (named (codes "a")) (e.Constant (decimal added))))

abbrev pub store_statement : ℕ → RawStatement
store_statement stored = s.Assign 0 (named (global_name stored)) None (named (codes "t"))

abbrev pub made_call : Call → RawStatement
made_call c = s.Call 0 (target.Place (named (codes "t"))) (function_name c.function) (passed (codes "t") ∷ (passed (global_name c.global) ∷ []))

abbrev pub call_statements : Option Call → List RawStatement
call_statements None = []
call_statements (Some c) = made_call c ∷ []

abbrev pub sum_statement : ℕ → RawStatement
sum_statement summed = s.Assign 0 (named (codes "b")) None (e.Binary Add (named (codes "b")) (named (global_name summed)))

-- the local, or the second parameter
abbrev pub returned : Bool → Bytes
returned true = codes "t"
returned false = codes "b"

abbrev pub return_statement : Bool → RawStatement
return_statement local = s.Return 0 (Some (named (returned local)))

abbrev pub function_body : Choices → List RawStatement
function_body c =
    local_statement c.added ∷ (store_statement c.stored ∷ (call_statements c.call ++ (sum_statement c.summed ∷ (return_statement c.returns_local ∷ []))))

abbrev pub parameter : Bytes → RawParam
parameter name = record { line = 0; name = Some name; shape = int; length = None }

abbrev pub function_head : ℕ → RawHead
function_head number = record { name = function_name number; result = Some int; params = parameter (codes "a") ∷ (parameter (codes "b") ∷ []); is_static = false }

-- the function with this number
abbrev pub function_item : ℕ → Choices → RawItem
function_item number c = item.Define 0 (function_head number) (function_body c)

-- the first n functions, where the seed is x
abbrev pub function_items : ℕ → ℕ → List RawItem
function_items x zero = []
function_items x (suc n) = function_items x n ++ (function_item (suc n) (choices_drawn n (state_before x n)) ∷ [])

-- ---- the whole

abbrev pub global_item : ℕ → RawItem
global_item q = item.Global 0 (variable (global_name q)) init.None false

abbrev pub opening_items : List RawItem
opening_items = item.Include false ∷ (global_item 0 ∷ (global_item 1 ∷ (global_item 2 ∷ (global_item 3 ∷ []))))

abbrev pub result_statement : ℕ → RawStatement
result_statement size =
    s.Call 0 (target.Declared (variable (codes "r"))) (function_name size) (arg.Value (e.Constant (codes "1")) ∷ (arg.Value (e.Constant (codes "2")) ∷ []))

abbrev pub print_statement : RawStatement
print_statement = s.Call 0 target.None (codes "printf") (arg.Literal (codes "\"%d\\n\"") ∷ (passed (codes "r") ∷ []))

abbrev pub main_head : RawHead
main_head = record { name = codes "main"; result = Some int; params = []; is_static = false }

abbrev pub main_item : ℕ → RawItem
main_item size = item.Define 0 main_head (result_statement size ∷ (print_statement ∷ []))

-- the tree of the program that a seed gives, with so many functions beside main
abbrev pub generated_tree : ℕ → ℕ → RawProgram
generated_tree seed size = record { items = opening_items ++ (function_items seed size ++ (main_item size ∷ [])) }
