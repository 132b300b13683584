-- What breaks a rule on names: their scopes, their declarations, main, and the library's names.
use Rattle.std.specs.Prelude.{◌≡◌, ◌≢◌, ℕ, ◌&&◌, Bool, true, false, List, [], ◌∷◌, Option, Some, None, Contains, bytes_eq, codes, take}
use Rattle.c_arith.specs.declared.int_type.IntType.TheVariants.{Int}
use Rattle.c_tree.specs.declared.raw.expr.RawExpr.{RawExpr}
use Rattle.c_tree.specs.declared.raw.expr.RawType.TheVariants as type
use Rattle.c_tree.specs.declared.raw.expr.RawVar.{RawVar}
use Rattle.c_tree.specs.declared.raw.program.RawInit.{RawInit}
use Rattle.c_tree.specs.declared.raw.program.RawMember.{RawMember}
use Rattle.c_tree.specs.declared.raw.program.RawParam.{RawParam}
use Rattle.c_tree.specs.declared.raw.program.RawHead.{RawHead}
use Rattle.c_tree.specs.declared.raw.program.RawProgram.{RawProgram}
use Rattle.c_tree.specs.declared.raw.statement.RawTarget.{RawTarget}
use Rattle.c_tree.specs.declared.raw.statement.RawArg.{RawArg}
use Rattle.c_tree.specs.declared.raw.statement.RawTypeName.{RawTypeName}
use Rattle.c_tree.specs.declared.raw.statement.RawSize.TheVariants as size
use Rattle.c_tree.specs.declared.raw.statement.RawAmount.{RawAmount}
use Rattle.c_language.specs.Words.{Bytes}
use Rattle.c_language.specs.DeclaredTypes.{defined_functions, definition_of, parameter_types, result_type, has_stdio, has_stdlib}
use Rattle.c_language.specs.Scopes.{Scope, Meaning, meaning_in, meaning_here}
use Rattle.c_language.specs.ExprTypes.{same_type}
use Rattle.c_language.specs.ExprRules.{seen, is_undeclared, lacks_header}
use Rattle.c_language.specs.Phrases.{Stand, Part, DefinesStruct, HasMember, DeclaresFunction, Takes, Declares, Calls, Allocates}
use Rattle.c_language.specs.Uses.{Holds, sizes, is_library_function, is_library_name, is_library_macro}
use Rattle.c_language.specs.declared.expr_type.ExprType.{ExprType}

abbrev pub main_name : Bytes
main_name = codes "main"

abbrev pub is_main : Bytes → Bool
is_main name = bytes_eq name main_name

-- one of the functions that are defined before the place has the name
abbrev pub IsDefinedBefore : RawProgram → Scope → Bytes → Type 0
IsDefinedBefore raw scope name = (f : RawHead) × Contains (take scope.functions (defined_functions raw)) f × (f.name ≡ name)

-- a name is used that isn't in scope (6.5.1, paragraph 2)
pub data UsesUndeclared (raw : RawProgram) (scope : Scope) : Part → Type 0 where
  in_expression : {part : Part} {inner : RawExpr} → Holds part inner → is_undeclared scope (seen raw scope inner) ≡ true → UsesUndeclared raw scope part
  -- what is called is a function in scope
  called : {stand : Stand} {to : RawTarget} {f : Bytes} {args : List RawArg}
      → is_library_function f ≡ false → meaning_in scope f ≢ Some Meaning.Function → UsesUndeclared raw scope (Calls stand to f args)
  -- `sizeof *p`
  measured : {to : RawTarget} {cast : Option RawTypeName} {n : RawAmount} {name : Bytes} {closed : Bool}
      → Contains (sizes n) (size.Pointee name closed) → meaning_in scope name ≡ None → UsesUndeclared raw scope (Allocates to cast n)

-- a name is declared twice in one scope (6.7, paragraph 3); prototypes may repeat, and be followed by the one definition (6.9, paragraph 5)
pub data DeclaresAgain (raw : RawProgram) (scope : Scope) : Part → Type 0 where
  variable : {stand : Stand} {var : RawVar} {i : RawInit} → meaning_here scope var.name ≢ None → DeclaresAgain raw scope (Declares stand var i)
  function : {head : RawHead} {is_definition : Bool} {id : ℕ} {t : Option ExprType}
      → meaning_here scope head.name ≡ Some (Meaning.Variable id t) → DeclaresAgain raw scope (DeclaresFunction head is_definition)
  definition : {head : RawHead} → IsDefinedBefore raw scope head.name → DeclaresAgain raw scope (DeclaresFunction head true)
  parameter : {before : List RawParam} {p q : RawParam} {name : Bytes}
      → Contains before q → q.name ≡ Some name → p.name ≡ Some name → DeclaresAgain raw scope (Takes before p)

-- a variable is declared while a variable or a function of its name is in scope
pub data Shadows (raw : RawProgram) (scope : Scope) : Part → Type 0 where
  variable : {stand : Stand} {var : RawVar} {i : RawInit} → meaning_in scope var.name ≢ None → Shadows raw scope (Declares stand var i)

-- a name of the library is declared (7.1.3)
pub data DeclaresLibraryName (raw : RawProgram) (scope : Scope) : Part → Type 0 where
  variable : {stand : Stand} {var : RawVar} {i : RawInit} → is_library_name var.name ≡ true → DeclaresLibraryName raw scope (Declares stand var i)
  function : {head : RawHead} {is_definition : Bool} → is_library_name head.name ≡ true → DeclaresLibraryName raw scope (DeclaresFunction head is_definition)
  parameter : {before : List RawParam} {p : RawParam} {name : Bytes}
      → p.name ≡ Some name → is_library_name name ≡ true → DeclaresLibraryName raw scope (Takes before p)
  -- tags and members may have the names of functions, and not those of macros (7.1.2)
  tag : {name : Bytes} → is_library_macro name ≡ true → DeclaresLibraryName raw scope (DefinesStruct name)
  member : {before : List RawMember} {m : RawMember} → is_library_macro m.name ≡ true → DeclaresLibraryName raw scope (HasMember before m)

-- main has a prototype, a second definition, another type than int main(void), or is called (5.1.2.2.1)
pub data MisusesMain (raw : RawProgram) (scope : Scope) : Part → Type 0 where
  prototype : {head : RawHead} → head.name ≡ main_name → MisusesMain raw scope (DeclaresFunction head false)
  again : {head : RawHead} → head.name ≡ main_name → IsDefinedBefore raw scope main_name → MisusesMain raw scope (DeclaresFunction head true)
  no_int : {head : RawHead} → head.name ≡ main_name → head.result ≢ Some (type.Integer Int) → MisusesMain raw scope (DeclaresFunction head true)
  parameters : {head : RawHead} → head.name ≡ main_name → head.params ≢ [] → MisusesMain raw scope (DeclaresFunction head true)
  called : {stand : Stand} {to : RawTarget} {args : List RawArg} → MisusesMain raw scope (Calls stand to main_name args)

abbrev pub agree : Option ExprType → Option ExprType → Bool
agree None t = true
agree (Some s) None = true
agree (Some s) (Some t) = same_type s t

abbrev pub all_agree : List (Option ExprType) → List (Option ExprType) → Bool
all_agree [] [] = true
all_agree [] (t ∷ ts) = false
all_agree (s ∷ ss) [] = false
all_agree (s ∷ ss) (t ∷ ts) = agree s t && all_agree ss ts

-- the results and the parameters of two heads have the same types (6.7.5.3, paragraph 15)
abbrev pub same_signature : RawProgram → RawHead → RawHead → Bool
same_signature raw f g = agree (result_type raw f) (result_type raw g) && all_agree (parameter_types raw f) (parameter_types raw g)

-- a function that is called or has a prototype isn't defined, or has another type there (6.9, paragraph 5)
pub data LacksDefinition (raw : RawProgram) (scope : Scope) : Part → Type 0 where
  called : {stand : Stand} {to : RawTarget} {f : Bytes} {args : List RawArg}
      → meaning_in scope f ≡ Some Meaning.Function → definition_of raw f ≡ None → LacksDefinition raw scope (Calls stand to f args)
  prototype : {head : RawHead} → definition_of raw head.name ≡ None → LacksDefinition raw scope (DeclaresFunction head false)
  differs : {head f : RawHead} → definition_of raw head.name ≡ Some f → same_signature raw head f ≡ false
      → LacksDefinition raw scope (DeclaresFunction head false)

-- a name of the library is used without its header (7.1.2)
pub data LacksHeader (raw : RawProgram) (scope : Scope) : Part → Type 0 where
  in_expression : {part : Part} {inner : RawExpr} → Holds part inner → lacks_header raw (seen raw scope inner) ≡ true → LacksHeader raw scope part
  allocation : {to : RawTarget} {cast : Option RawTypeName} {n : RawAmount} → has_stdlib raw ≡ false → LacksHeader raw scope (Allocates to cast n)
  release : {stand : Stand} {to : RawTarget} {args : List RawArg} → has_stdlib raw ≡ false → LacksHeader raw scope (Calls stand to (codes "free") args)
  input : {stand : Stand} {to : RawTarget} {args : List RawArg} → has_stdio raw ≡ false → LacksHeader raw scope (Calls stand to (codes "getchar") args)
  output : {stand : Stand} {to : RawTarget} {args : List RawArg} → has_stdio raw ≡ false → LacksHeader raw scope (Calls stand to (codes "putchar") args)
  format : {stand : Stand} {to : RawTarget} {args : List RawArg} → has_stdio raw ≡ false → LacksHeader raw scope (Calls stand to (codes "printf") args)
