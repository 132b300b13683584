-- What the program of a text is made of, and a function of it.
use Rattle.std.proofs.Common.{◌≡◌, ℕ, List, Bool, Option, Some, refl, sym, subst}
use Rattle.std.specs.Prelude.{option_and_then}
use Rattle.c_tree.specs.declared.types.CType.{CType}
use Rattle.c_tree.specs.declared.program.Function.{Function}
use Rattle.c_tree.specs.declared.program.Item.{Item}
use Rattle.c_tree.specs.declared.program.Program.{Program}
use Rattle.c_tree.specs.declared.program.Var.{Var}
use Rattle.c_tree.specs.declared.statement.Statement.{Statement}
use Rattle.c_tree.specs.declared.raw.program.RawHead.{RawHead}
use Rattle.c_tree.specs.declared.raw.program.RawProgram.{RawProgram}
use Rattle.c_tree.specs.declared.raw.statement.RawStatement.{RawStatement}
use Rattle.c_language.specs.Words.{Bytes}
use Rattle.c_language.specs.ConstantEvaluation.{both}
use Rattle.c_language.specs.Scopes.{Scope, entered}
use Rattle.c_language.specs.Phrases.{scope_at_end}
use Rattle.c_language.specs.ProgramOf.{ctype_if, parameter_ids, body_of, function_tree, items_of, variables_of, structs_of, functions_of, program_with, program_of}
use Rattle.c_language.proofs.Options.{then_there, both_there}

pub record IsMadeOf (raw : RawProgram) (p : Program) : Type 0 where
  pub items : items_of raw ≡ Some p.items
  pub vars : variables_of raw ≡ Some p.vars
  pub structs : structs_of raw ≡ Some p.structs
  pub functions : functions_of raw ≡ Some p.functions
  pub statements : (scope_at_end raw).statements ≡ p.statements

pub made_of : (raw : RawProgram) (p : Program) → program_of raw ≡ Some p → IsMadeOf raw p
made_of raw p h =
    let a = then_there (λ (items : List Item). option_and_then (λ (vars : List Var). both (program_with (scope_at_end raw).statements items vars) (structs_of raw) (functions_of raw)) (variables_of raw)) (items_of raw) p h in
    let b = then_there (λ (vars : List Var). both (program_with (scope_at_end raw).statements a.value vars) (structs_of raw) (functions_of raw)) (variables_of raw) p a.same in
    let c = both_there (program_with (scope_at_end raw).statements a.value b.value) (structs_of raw) (functions_of raw) p b.same in
    subst (IsMadeOf raw) c.same (record { items = a.there; vars = b.there; structs = c.left_there; functions = c.right_there; statements = refl })

-- what a function is, but for its result and its body
abbrev function_with : Bytes → List ℕ → Bool → ℕ → Option CType → List Statement → Function
function_with name params is_static line result body = record { name = name; result = result; params = params; body = body; is_static = is_static; line = line }

-- the tree of a definition is the function
pub record IsFunctionOf (raw : RawProgram) (line : ℕ) (head : RawHead) (body : List RawStatement) (scope : Scope) (f : Function) : Type 0 where
  pub result : Option CType
  pub statements : List Statement
  pub result_there : ctype_if raw head.result ≡ Some result
  pub statements_there : body_of raw body (entered raw head scope) ≡ Some statements
  pub is : f ≡ function_with head.name (parameter_ids head.params scope.variables) head.is_static line result statements

pub function_made : (raw : RawProgram) (line : ℕ) (head : RawHead) (body : List RawStatement) (scope : Scope) (f : Function) → function_tree raw line head body scope ≡ Some f → IsFunctionOf raw line head body scope f
function_made raw line head body scope f h =
    let m = both_there (function_with head.name (parameter_ids head.params scope.variables) head.is_static line) (ctype_if raw head.result) (body_of raw body (entered raw head scope)) f h in
    record { result = m.left; statements = m.right; result_there = m.left_there; statements_there = m.right_there; is = sym m.same }
