-- Scopes of names (ISO C99 6.2.1): what is in scope at each place of a text, and the numbers that are given there.
use Rattle.std.specs.Prelude.{ℕ, ◌+◌, if◌then◌else◌, List, [], ◌∷◌, ◌++◌, length, drop, Option, Some, None, option_map, is_some, bytes_eq}
use Rattle.std.specs.List.{find}
use Rattle.c_tree.specs.declared.raw.expr.RawVar.{RawVar}
use Rattle.c_tree.specs.declared.raw.program.RawInit.{RawInit}
use Rattle.c_tree.specs.declared.raw.program.RawInit.TheVariants as init
use Rattle.c_tree.specs.declared.raw.program.RawParam.{RawParam}
use Rattle.c_tree.specs.declared.raw.program.RawHead.{RawHead}
use Rattle.c_tree.specs.declared.raw.program.RawProgram.{RawProgram}
use Rattle.c_tree.specs.declared.raw.statement.RawTarget.{RawTarget}
use Rattle.c_tree.specs.declared.raw.statement.RawTarget.TheVariants as target
use Rattle.c_tree.specs.declared.raw.statement.RawStatement.TheOpen.{RawStatement-F, RawArm-F}
use Rattle.c_language.specs.Words.{Bytes}
use Rattle.c_language.specs.DeclaredTypes.{variable_type}
use Rattle.c_language.specs.declared.expr_type.ExprType.{ExprType}

-- what an ordinary name stands for
pub data Meaning : Type 0 where
  -- a variable with its number, and its type where the declaration has one
  Variable : (id : ℕ) → (type : Option ExprType) → Meaning
  Function : Meaning

-- a declared name
pub record Entry : Type 0 where
  pub name : Bytes
  pub meaning : Meaning

-- what stands before a place of the text
pub record Scope : Type 0 where
  -- the names that are in scope, in the order of their declarations, and how many of them are declared outside the innermost block
  pub names : List Entry
  pub outer : ℕ
  -- the number of the function in which the place stands
  pub owner : Option ℕ
  -- how many struct types are complete, and how many functions have been defined
  pub structs : ℕ
  pub functions : ℕ
  -- how many variables and statements have been numbered
  pub variables : ℕ
  pub statements : ℕ

-- the beginning of a text
abbrev pub outset : Scope
outset = record { names = []; outer = 0; owner = None; structs = 0; functions = 0; variables = 0; statements = 0 }

-- what the name stands for in a list of declared names
abbrev pub found_in : Bytes → List Entry → Option Meaning
found_in name entries = option_map (λ (e : Entry). e.meaning) (find (λ (e : Entry). bytes_eq name e.name) entries)

-- what the name stands for: no name that is in scope is declared once more but by breaking a rule, so there is one at most
abbrev pub meaning_in : Scope → Bytes → Option Meaning
meaning_in scope name = found_in name scope.names

-- what the name stands for by a declaration of the innermost block
abbrev pub meaning_here : Scope → Bytes → Option Meaning
meaning_here scope name = found_in name (drop scope.outer scope.names)

abbrev pub with_entry : Bytes → Meaning → Scope → Scope
with_entry name meaning scope = record scope { names = scope.names ++ record { name = name; meaning = meaning } ∷ [] }

-- the scope once a variable is declared, which has the next number
abbrev pub with_variable : RawProgram → RawVar → RawInit → Scope → Scope
with_variable raw var i scope =
    with_entry var.name (Variable scope.variables (variable_type raw var i)) (record scope { variables = scope.variables + 1 })

-- the scope once a function is declared, which may have been declared before
abbrev pub with_function : Bytes → Scope → Scope
with_function name scope = if is_some (meaning_here scope name) then scope else with_entry name Function scope

-- a block is opened
abbrev pub opened : Scope → Scope
opened scope = record scope { outer = length scope.names }

-- a block is closed: the names are those before it, and numbers go on
abbrev pub closed : Scope → Scope → Scope
closed before inside = record inside { names = before.names; outer = before.outer; owner = before.owner }

-- a statement is numbered
abbrev pub numbered : Scope → Scope
numbered scope = record scope { statements = scope.statements + 1 }

abbrev pub parameter_of : RawParam → Bytes → RawVar
parameter_of p name = record { name = name; shape = p.shape }

abbrev pub with_named : RawProgram → RawParam → Option Bytes → Scope → Scope
with_named raw p None scope = scope
with_named raw p (Some name) scope = with_variable raw (parameter_of p name) init.None scope

abbrev pub with_parameter : RawProgram → RawParam → Scope → Scope
with_parameter raw p scope = with_named raw p p.name scope

abbrev pub with_parameters : RawProgram → List RawParam → Scope → Scope
with_parameters raw [] scope = scope
with_parameters raw (p ∷ ps) scope = with_parameters raw ps (with_parameter raw p scope)

-- where the parameters of a function's definition begin
abbrev pub scope_of_parameters : RawHead → Scope → Scope
scope_of_parameters head scope = record (opened (with_function head.name scope)) { owner = Some scope.functions; functions = scope.functions + 1 }

-- the beginning of a function's body: its parameters are in one block with what the body declares (6.2.1, paragraph 4)
abbrev pub entered : RawProgram → RawHead → Scope → Scope
entered raw head scope = with_parameters raw head.params (scope_of_parameters head scope)

-- the names after a target: that of the variable that it declares
abbrev pub with_target : RawProgram → RawTarget → Scope → Scope
with_target raw target.None scope = scope
with_target raw (target.Place e) scope = scope
with_target raw (target.Declared var) scope = with_variable raw var init.None scope

-- a declaration without an initialiser has no number
abbrev pub begun : RawInit → Scope → Scope
begun init.None scope = scope
begun (init.One e) scope = numbered scope
begun (init.Items es) scope = numbered scope

-- a part of the text where it stands: what it gives at a scope, and the scope after it
pub record Scoped (R : Type 0) : Type 0 where
  pub gives : Scope → R
  pub after : Scope → Scope

-- parts one after another
abbrev pub in_order : {R : Type 0} → List (Scoped R) → Scope → List R
in_order [] scope = []
in_order (s ∷ ss) scope = s.gives scope ∷ in_order ss (s.after scope)

abbrev pub after_all : {R : Type 0} → List (Scoped R) → Scope → Scope
after_all [] scope = scope
after_all (s ∷ ss) scope = after_all ss (s.after scope)

-- a list of statements is a block of its own (6.8.2, 6.8.4, 6.8.5)
abbrev pub after_block : {R : Type 0} → List (Scoped R) → Scope → Scope
after_block ss scope = closed scope (after_all ss (opened scope))

abbrev pub after_part : {R : Type 0} → Option (Scoped R) → Scope → Scope
after_part None scope = scope
after_part (Some s) scope = s.after scope

abbrev pub part_gives : {R : Type 0} → Option (Scoped R) → Scope → Option R
part_gives None scope = None
part_gives (Some s) scope = Some (s.gives scope)

-- the test of a for: it is numbered before the init, in whose scope it stands (6.8.5, paragraph 5)
abbrev pub scope_of_test : {R : Type 0} → Option (Scoped R) → Scope → Scope
scope_of_test i scope = after_part i (opened (numbered scope))

-- the body of a for
abbrev pub scope_of_body : {R : Type 0} → Option (Scoped R) → Option (Scoped R) → Scope → Scope
scope_of_body i step scope = after_part step (scope_of_test i scope)

-- the scope after a statement: numbers follow first tokens, and a for has the order test, init, step, body
abbrev pub after_step : {R Q : Type 0} → RawProgram → RawStatement-F (Scoped R) (Scoped Q) → Scope → Scope
after_step raw (RawStatement-F.Declare l var i) scope = begun i (with_variable raw var i scope)
after_step raw (RawStatement-F.Assign l left op right) scope = numbered scope
after_step raw (RawStatement-F.Bump l left up before) scope = numbered scope
after_step raw (RawStatement-F.Call l to f args) scope = numbered (with_target raw to scope)
after_step raw (RawStatement-F.Heap l to cast n) scope = numbered (with_target raw to scope)
after_step raw (RawStatement-F.If l e a b) scope = after_block b (after_block a (numbered scope))
after_step raw (RawStatement-F.While l e b) scope = after_block b (numbered scope)
after_step raw (RawStatement-F.Do l e b) scope = after_block b (numbered scope)
after_step raw (RawStatement-F.For l i e step b) scope = closed scope (after_block b (scope_of_body i step scope))
after_step raw (RawStatement-F.Switch l e arms) scope = after_block arms (numbered scope)
after_step raw (RawStatement-F.Block l b) scope = after_block b scope
after_step raw (RawStatement-F.Return l e) scope = numbered scope

-- the scope after an arm of a switch
abbrev pub after_arm : {R Q : Type 0} → RawArm-F (Scoped R) (Scoped Q) → Scope → Scope
after_arm a scope = after_all a.body scope
