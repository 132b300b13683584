-- Line numbers change nothing of what runs need.
use Rattle.std.proofs.Common.{◌≡◌, ℕ, List, [], ◌∷◌, ◌++◌, map, cond, suc, Option, Some, None, refl, sym, ap, ◌∙◌, ap₂}
use Rattle.std.specs.List.{position}
use Rattle.std.specs.Option.{option_map_or}
use Rattle.std.specs.Prelude.{slice_get, option_map, unwrap_or}
use Rattle.std.proofs.lemmas.List.{length-map}
use Rattle.std.proofs.lemmas.Option.{slice_get-map}
use mathlib.Core.Path.{fun_ext}
use Rattle.c_arith.specs.declared.int_type.IntType.TheVariants.{Int}
use Rattle.c_tree.specs.declared.program.Program.{Program}
use Rattle.c_tree.specs.declared.program.Function.{Function}
use Rattle.c_tree.specs.declared.program.Var.{Var}
use Rattle.c_tree.specs.declared.statement.Statement.{Statement}
use Rattle.c_tree.specs.declared.statement.Statement.TheOpen.{Statement-F}
use Rattle.c_tree.specs.Unlined.{unlined, unlined_var, unlined_function, unlined_program, SameButLines}
use Rattle.c_tree.proofs.Unlining.{zeroed, fold_unlined}
use Rattle.c_language.specs.Code.{Code, StatementPart, ArmPart, declared_in, part_step, arm_step, part, code_of, code}
use Rattle.c_language.specs.DeclaredTypes.{integer}
use Rattle.c_language.specs.NameRules.{is_main}
use Rattle.c_language.specs.TreeTypes.{Typing, shape_of, type_of_variable, type_of_member, typing_of}
use Rattle.c_language.proofs.Lists.{position-cons}
use Rattle.c_meaning.specs.Cells.{structs_of}
use Rattle.c_meaning.specs.Activations.{Routine, routine_of, globals_in, executable}
use Rattle.own_words.proofs.Lists.{three}

part_free : (y : Statement-F StatementPart ArmPart) → part_step (zeroed y) ≡ part_step y
part_free (Statement-F.Declare id l x i) = refl
part_free _ = refl

statement_same : (x : Statement) → part (unlined x) ≡ part x
statement_same = fold_unlined part_step arm_step part_free

code-unlined : (xs : List Statement) → code (map unlined xs) ≡ code xs
code-unlined [] = refl
code-unlined (x ∷ xs) = ap (λ (q : StatementPart). q.before (code (map unlined xs))) (statement_same x) ∙ ap (code_of x) (code-unlined xs)

declared-unlined : (xs : List Statement) → declared_in (map part (map unlined xs)) ≡ declared_in (map part xs)
declared-unlined [] = refl
declared-unlined (x ∷ xs) = ap₂ (λ (q : StatementPart) ys. q.declares ++ ys) (statement_same x) (declared-unlined xs)

routine-unlined : (f : Function) → routine_of (unlined_function f) ≡ routine_of f
routine-unlined f =
    ap₂ (λ (l : List ℕ) (c : Code). record { params = f.params; locals = l; result = option_map shape_of f.result; code = c }) (declared-unlined f.body) (code-unlined f.body)

routines-unlined : (fs : List Function) → map routine_of (map unlined_function fs) ≡ map routine_of fs
routines-unlined [] = refl
routines-unlined (f ∷ fs) = ap₂ (λ (r : Routine) rs. r ∷ rs) (routine-unlined f) (routines-unlined fs)

-- main has its number
main-unlined : (fs : List Function) → position (λ (f : Function). is_main f.name) (map unlined_function fs) ≡ position (λ (f : Function). is_main f.name) fs
main-unlined [] = refl
main-unlined (f ∷ fs) =
    let test = λ (g : Function). is_main g.name in
    position-cons test (unlined_function f) (map unlined_function fs) ∙ (ap (λ o. cond (is_main f.name) (Some 0) (option_map suc o)) (main-unlined fs) ∙ sym (position-cons test f fs))

shape_unlined : (o : Option Var) → option_map_or (λ (v : Var). shape_of v.shape) (option_map unlined_var o) (integer Int) ≡ option_map_or (λ (v : Var). shape_of v.shape) o (integer Int)
shape_unlined None = refl
shape_unlined (Some v) = refl

variable_unlined : (p : Program) (x : ℕ) → type_of_variable (unlined_program p) x ≡ type_of_variable p x
variable_unlined p x =
    ap (λ o. option_map_or (λ (v : Var). shape_of v.shape) o (integer Int)) (slice_get-map unlined_var p.vars x) ∙ shape_unlined (slice_get p.vars x)

typing_unlined : (p : Program) → typing_of (unlined_program p) ≡ typing_of p
typing_unlined p = ap (λ v. record { variable = v; member = type_of_member p }) (fun_ext (variable_unlined p))

main_unlined : (p : Program) → (executable (unlined_program p)).main ≡ (executable p).main
main_unlined p = ap₂ unwrap_or (main-unlined p.functions) (length-map p.functions unlined_function)

executable_unlined : (p : Program) → executable (unlined_program p) ≡ executable p
executable_unlined p =
    three (λ (t : Typing) (rs : List Routine) m. record { typing = t; structs = structs_of p; globals = globals_in p.items; functions = rs; main = m }) (typing_unlined p) (routines-unlined p.functions) (main_unlined p)

-- programs that are the same but for lines need the same
pub same_executable : (p q : Program) → SameButLines p q → executable p ≡ executable q
same_executable p q e = sym (executable_unlined p) ∙ (ap executable e ∙ executable_unlined q)
