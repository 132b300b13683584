-- Places of two texts that agree: of the other text declarations, statements and functions are missing, so that its variables, statements and functions have other numbers; what occurs at its place stands for the same in both.
use Rattle.std.specs.Prelude.{◌≡◌, ◌≢◌, ℕ, ◌<◌, pos, Bool, true, false, if◌then◌else◌, List, Option, Some, None, option_map, Contains, decimal}
use Rattle.c_arith.specs.declared.int_type.IntType.{IntType}
use Rattle.c_tree.specs.declared.raw.expr.RawExpr.{RawExpr}
use Rattle.c_tree.specs.declared.raw.expr.RawExpr.TheVariants as e
use Rattle.c_tree.specs.declared.raw.expr.RawLength.TheVariants.{Written, Listed}
use Rattle.c_tree.specs.declared.raw.expr.RawType.{RawType}
use Rattle.c_tree.specs.declared.raw.expr.RawType.TheVariants as type
use Rattle.c_tree.specs.declared.raw.expr.RawVar.{RawVar}
use Rattle.c_tree.specs.declared.raw.program.RawInit.{RawInit}
use Rattle.c_tree.specs.declared.raw.program.RawHead.{RawHead}
use Rattle.c_tree.specs.declared.raw.program.RawParam.{RawParam}
use Rattle.c_tree.specs.declared.raw.program.RawProgram.{RawProgram}
use Rattle.c_tree.specs.declared.raw.statement.RawTarget.{RawTarget}
use Rattle.c_tree.specs.declared.raw.statement.RawTarget.TheVariants as target
use Rattle.c_tree.specs.declared.raw.statement.RawArg.{RawArg}
use Rattle.c_tree.specs.declared.raw.statement.RawTypeName.{RawTypeName}
use Rattle.c_tree.specs.declared.raw.statement.RawSize.TheVariants as size
use Rattle.c_tree.specs.declared.raw.statement.RawAmount.{RawAmount}
use Rattle.c_tree.specs.declared.raw.statement.RawStatement.{RawStatement}
use Rattle.c_tree.specs.declared.raw.statement.RawStatement.TheOpen.{RawStatement-F}
use Rattle.c_language.specs.Words.{Bytes}
use Rattle.c_language.specs.ConstantEvaluation.{value_of_constant}
use Rattle.c_language.specs.CountConstants.{LengthsAmong}
use Rattle.c_language.specs.DeclaredTypes.{defined_structs, has_stdio, has_stdlib, definition_of, function_id, item_count, variable_type}
use Rattle.c_language.specs.Scopes.{Scope, Meaning, meaning_in, meaning_here, with_variable, with_target}
use Rattle.c_language.specs.Phrases.{Stand, InBlock, InFor, Part, DeclaresFunction, Takes, EndsFunction, Declares, Begins, Assigns, Bumps, Calls, Allocates, Returns}
use Rattle.c_language.specs.Uses.{IsWithin, Holds, lengths_in, tags_in, sizes, is_library_function}
use Rattle.c_language.specs.NameRules.{main_name, IsDefinedBefore}
use Rattle.c_language.specs.CallRules.{head_around, EndsWithValue}
use Rattle.c_language.specs.ProgramOf.{ctype_with}
use Rattle.projection.specs.Kept.{chosen}
use Rattle.projection.specs.Renumbering.{Numbers}

-- ---- names that occur

-- an expression names a variable
abbrev pub NamedIn : RawExpr → Bytes → Type 0
NamedIn a x = IsWithin (e.Variable x) a

-- one of the expressions names a variable
abbrev pub NamedAmong : List RawExpr → Bytes → Type 0
NamedAmong all x = (a : RawExpr) × Contains all a × NamedIn a x

-- a phrase names a variable or a function
pub data Names : Part → Bytes → Type 0 where
  in_expression : {part : Part} {x : Bytes} → Holds part (e.Variable x) → Names part x
  called : {stand : Stand} {to : RawTarget} {f : Bytes} {args : List RawArg} → Names (Calls stand to f args) f
  -- `sizeof *p`
  measured : {to : RawTarget} {cast : Option RawTypeName} {n : RawAmount} {x : Bytes} {closed : Bool}
      → Contains (sizes n) (size.Pointee x closed) → Names (Allocates to cast n) x

-- a phrase calls or declares a function
pub data NamesFunction : Part → Bytes → Type 0 where
  called : {stand : Stand} {to : RawTarget} {f : Bytes} {args : List RawArg} → NamesFunction (Calls stand to f args) f
  declared : {head : RawHead} {is_definition : Bool} → NamesFunction (DeclaresFunction head is_definition) head.name

-- a phrase declares a variable
pub data DeclaresName : Part → Bytes → Type 0 where
  variable : {stand : Stand} {var : RawVar} {i : RawInit} → DeclaresName (Declares stand var i) var.name

-- a phrase declares a function
pub data DeclaresHead : Part → Bytes → Type 0 where
  head : {head : RawHead} {is_definition : Bool} → DeclaresHead (DeclaresFunction head is_definition) head.name

-- ---- texts

-- the texts define the same struct types and include the same headers
pub record SameOutside (raw other : RawProgram) : Type 0 where
  pub structs : defined_structs other ≡ defined_structs raw
  pub stdio : has_stdio other ≡ has_stdio raw
  pub stdlib : has_stdlib other ≡ has_stdlib raw

-- ---- scopes

-- what a name stands for, with another number for a variable
abbrev pub moved_meaning : (ℕ → ℕ) → Meaning → Meaning
moved_meaning f (Meaning.Variable id t) = Meaning.Variable (f id) t
moved_meaning f Meaning.Function = Meaning.Function

-- the scopes agree on the names: each stands for the same in both, but for the numbers of variables
pub record Agree (f : ℕ → ℕ) (named : Bytes → Type 0) (scope next : Scope) : Type 0 where
  pub names : (x : Bytes) → named x → meaning_in next x ≡ option_map (moved_meaning f) (meaning_in scope x)
  -- the same struct types are complete
  pub structs : next.structs ≡ scope.structs

-- a name stands for a variable
abbrev pub IsVariable : Option Meaning → Type 0
IsVariable m = (id : ℕ) × (t : _) × (m ≡ Some (Meaning.Variable id t))

-- of these names and functions, what isn't declared in the scope isn't declared in the other one
pub record DeclaresLess (declared heads : Bytes → Type 0) (scope next : Scope) : Type 0 where
  pub everywhere : (x : Bytes) → declared x → meaning_in scope x ≡ None → meaning_in next x ≡ None
  pub here : (x : Bytes) → declared x → meaning_here scope x ≡ None → meaning_here next x ≡ None
  -- what the innermost block declares as a variable
  pub variables : (x : Bytes) → heads x → IsVariable (meaning_here next x) → IsVariable (meaning_here scope x)

-- ---- functions

-- which parameters of functions stay, counted from 0, and which functions that give a result do so still
pub record Heads : Type 0 where
  pub parameter : Bytes → ℕ → Bool
  pub gives : Bytes → Bool

-- what stays of the head of a function: its parameters that stay, and its result or none
abbrev pub head_left : Heads → RawHead → RawHead
head_left heads h = record h { result = if heads.gives h.name then h.result else None; params = chosen (heads.parameter h.name) 0 h.params }

-- a function that is there, in which the other place stands, has what stays of the head of the function in which the place stands
abbrev pub StandsInLeft : Heads → Option RawHead → RawHead → Type 0
StandsInLeft heads around h = (g : RawHead) × (around ≡ Some g) × (h ≡ head_left heads g)

-- the functions that are named have what stays of their heads, those that are defined before the other place are defined before the place, and where the other place stands in a function, the place stands in the same
pub record FunctionsAgree (heads : Heads) (named : Bytes → Type 0) (raw other : RawProgram) (scope next : Scope) : Type 0 where
  pub definitions : (x : Bytes) → named x → definition_of other x ≡ option_map (head_left heads) (definition_of raw x)
  pub before : (x : Bytes) → IsDefinedBefore other next x → IsDefinedBefore raw scope x
  pub around : (h : RawHead) → head_around other next ≡ Some h → StandsInLeft heads (head_around raw scope) h

-- ---- places

-- what the rules ask of the place of a phrase that names these, calls or declares these functions, and declares these variables and these functions
pub record PlacesAgree (heads : Heads) (f : ℕ → ℕ) (named called declared headed : Bytes → Type 0) (raw other : RawProgram) (scope next : Scope) : Type 0 where
  pub outside : SameOutside raw other
  pub scopes : Agree f named scope next
  pub less : DeclaresLess declared headed scope next
  pub functions : FunctionsAgree heads called raw other scope next

-- what trees ask of the place of a phrase that calls these functions: the next numbers there are those that what comes next gets
pub record TreesAgree (ns : Numbers) (functions : Bytes → Type 0) (raw other : RawProgram) (scope next : Scope) : Type 0 where
  pub outside : SameOutside raw other
  pub variables : next.variables ≡ ns.variable scope.variables
  pub statements : next.statements ≡ ns.statement scope.statements
  pub heads : (x : Bytes) → functions x → function_id other x ≡ option_map ns.function (function_id raw x)

-- a statement without parts, as a phrase
abbrev pub simple_part : {R Q : Type 0} → RawStatement-F R Q → Option Part
simple_part (RawStatement-F.Declare l var i) = Some (Begins InBlock var i)
simple_part (RawStatement-F.Assign l left op right) = Some (Assigns left op right)
simple_part (RawStatement-F.Bump l left up before) = Some (Bumps left)
simple_part (RawStatement-F.Call l to f args) = Some (Calls InBlock to f args)
simple_part (RawStatement-F.Heap l to cast n) = Some (Allocates to cast n)
simple_part (RawStatement-F.Return l value) = Some (Returns value)
simple_part _ = None

-- the scope in which its expressions stand: what it declares is in scope
abbrev pub simple_scope : {R Q : Type 0} → RawProgram → RawStatement-F R Q → Scope → Scope
simple_scope raw (RawStatement-F.Declare l var i) scope = with_variable raw var i scope
simple_scope raw (RawStatement-F.Call l to f args) scope = with_target raw to scope
simple_scope raw (RawStatement-F.Heap l to cast n) scope = with_target raw to scope
simple_scope raw _ scope = scope

-- ---- a declaration whose initialiser is dropped

-- the variables have one name and one type, though one has another initialiser, and a length that a list gave is written as a constant
pub record SameVariable (raw other : RawProgram) (v : RawVar) (i : RawInit) (w : RawVar) (j : RawInit) : Type 0 where
  pub name : w.name ≡ v.name
  pub type : variable_type other w j ≡ variable_type raw v i
  pub tree : ctype_with other (item_count j) w.shape ≡ ctype_with raw (item_count i) v.shape
  pub tags : tags_in w.shape ≡ tags_in v.shape
  pub lengths : LengthsAmong (lengths_in w.shape) (lengths_in v.shape)

-- a decimal constant for the number of items of a list, which are at least one
pub record IsCount (items : ℕ) (a : RawExpr) : Type 0 where
  pub is : a ≡ e.Constant (decimal items)
  pub value : value_of_constant a ≡ Some (pos items)
  pub some : 0 < items

-- the second type is the first, with a constant for each length that a list of so many items gives
pub data CountWritten (items : ℕ) : RawType → RawType → Type 0 where
  integer : {t : IntType} → CountWritten items (type.Integer t) (type.Integer t)
  pointer : {a b : RawType} → CountWritten items a b → CountWritten items (type.PointerTo a) (type.PointerTo b)
  written : {a b : RawType} {n : RawExpr} → CountWritten items a b → CountWritten items (type.Array a (Written n)) (type.Array b (Written n))
  counted : {a b : RawType} {n : RawExpr} → CountWritten items a b → IsCount items n → CountWritten items (type.Array a Listed) (type.Array b (Written n))
  structure : {tag : Bytes} → CountWritten items (type.Struct tag) (type.Struct tag)

-- where a declaration stands for one: there too, or in a block for one that begins a for
pub data StandsFor : Stand → Stand → Type 0 where
  there : {stand : Stand} → StandsFor stand stand
  out_of_for : StandsFor InFor InBlock

abbrev pub begins_for : Stand → Bool
begins_for InFor = true
begins_for _ = false

-- where a call stands for one: there too, or anywhere but at the beginning of a for
pub data CallStandsFor : Stand → Stand → Type 0 where
  as_it_is : {stand : Stand} → CallStandsFor stand stand
  elsewhere : {stand place : Stand} → begins_for place ≡ false → CallStandsFor stand place

-- a function whose result is stored gives one still, where it isn't one of the library
abbrev pub GivesStill : Heads → Bytes → RawTarget → Type 0
GivesStill heads f target.None = Unit {0}
GivesStill heads f (target.Place a) = is_library_function f ≡ false → heads.gives f ≡ true
GivesStill heads f (target.Declared v) = is_library_function f ≡ false → heads.gives f ≡ true

-- a call keeps what its result is stored in, or loses it
pub data StoresLess (heads : Heads) (f : Bytes) : RawTarget → RawTarget → Type 0 where
  kept : {to : RawTarget} → GivesStill heads f to → StoresLess heads f to to
  lost : {to : RawTarget} → StoresLess heads f to target.None

-- what stays of the arguments of a call: those of the parameters that stay, and all of a function of the library
abbrev pub args_left : Heads → Bytes → List RawArg → List RawArg
args_left heads f args = if is_library_function f then args else chosen (heads.parameter f) 0 args

-- a function other than main that ends with a value, and gives a result still, ends with a value still
abbrev pub EndsToo : Heads → RawHead → List RawStatement → List RawStatement → Type 0
EndsToo heads f body less = heads.gives f.name ≡ true → f.name ≢ main_name → EndsWithValue body → EndsWithValue less

-- the function around gives a result still
abbrev pub GivesAround : Heads → Option RawHead → Type 0
GivesAround heads None = Unit {0}
GivesAround heads (Some h) = heads.gives h.name ≡ true

-- a return of a value stands in a function that gives a result still
abbrev pub ReturnFits : Heads → Option RawHead → Option RawExpr → Type 0
ReturnFits heads around None = Unit {0}
ReturnFits heads around (Some e) = GivesAround heads around

-- a phrase that isn't about the head of a function
abbrev pub has_no_head : Part → Bool
has_no_head (DeclaresFunction h is_definition) = false
has_no_head (Takes before p) = false
has_no_head (EndsFunction h body) = false
has_no_head (Calls stand to f args) = false
has_no_head (Returns value) = false
has_no_head _ = true

-- what stands at the other place for a phrase in a scope
pub data PartsAgree (heads : Heads) (raw other : RawProgram) (scope : Scope) : Part → Part → Type 0 where
  same : {part : Part} → has_no_head part ≡ true → PartsAgree heads raw other scope part part
  declares_function : {head less : RawHead} {is_definition : Bool} → less ≡ head_left heads head → (head.name ≡ main_name → heads.gives head.name ≡ true)
      → PartsAgree heads raw other scope (DeclaresFunction head is_definition) (DeclaresFunction less is_definition)
  takes : {before less : List RawParam} {p : RawParam} → ((q : RawParam) → Contains less q → Contains before q) → PartsAgree heads raw other scope (Takes before p) (Takes less p)
  returns : {value : Option RawExpr} → ReturnFits heads (head_around raw scope) value → PartsAgree heads raw other scope (Returns value) (Returns value)
  declares : {stand place : Stand} {v w : RawVar} {i j : RawInit}
      → StandsFor stand place → SameVariable raw other v i w j → PartsAgree heads raw other scope (Declares stand v i) (Declares place w j)
  begins : {stand place : Stand} {v : RawVar} {i : RawInit} → StandsFor stand place → PartsAgree heads raw other scope (Begins stand v i) (Begins place v i)
  ends : {head final : RawHead} {body less : List RawStatement} → final ≡ head_left heads head → EndsToo heads head body less → PartsAgree heads raw other scope (EndsFunction head body) (EndsFunction final less)
  calls : {stand place : Stand} {to less : RawTarget} {f : Bytes} {args some : List RawArg}
      → CallStandsFor stand place → StoresLess heads f to less → some ≡ args_left heads f args → PartsAgree heads raw other scope (Calls stand to f args) (Calls place less f some)
