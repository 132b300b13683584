-- What breaks a rule on calls, returns and the functions of the library (ISO C99 6.5.2.2, 6.8.6.4, 7.19, 7.20).
use Rattle.std.specs.Prelude.{◌≡◌, ◌≢◌, ℕ, ◌==◌, Bool, true, false, List, [], ◌∷◌, length, Option, Some, None, option_and_then, Contains, codes, slice_get}
use Rattle.c_arith.specs.declared.int_type.IntType.{IntType}
use Rattle.c_arith.specs.declared.int_type.IntType.TheVariants.{Int, Char, UChar}
use Rattle.c_arith.specs.IntType.{width, promote}
use Rattle.c_tree.specs.declared.raw.expr.RawExpr.{RawExpr}
use Rattle.c_tree.specs.declared.raw.program.RawInit.TheVariants as init
use Rattle.c_tree.specs.declared.raw.program.RawHead.{RawHead}
use Rattle.c_tree.specs.declared.raw.program.RawProgram.{RawProgram}
use Rattle.c_tree.specs.declared.raw.statement.RawTarget.{RawTarget}
use Rattle.c_tree.specs.declared.raw.statement.RawTarget.TheVariants as target
use Rattle.c_tree.specs.declared.raw.statement.RawArg.{RawArg}
use Rattle.c_tree.specs.declared.raw.statement.RawArg.TheVariants as arg
use Rattle.c_tree.specs.declared.raw.statement.RawTypeName.{RawTypeName}
use Rattle.c_tree.specs.declared.raw.statement.RawSize.{RawSize}
use Rattle.c_tree.specs.declared.raw.statement.RawSize.TheVariants as size
use Rattle.c_tree.specs.declared.raw.statement.RawAmount.{RawAmount}
use Rattle.c_tree.specs.declared.raw.statement.RawAmount.TheVariants as amount
use Rattle.c_tree.specs.declared.raw.statement.RawStatement.{RawStatement}
use Rattle.c_tree.specs.declared.raw.statement.RawStatement.TheVariants as s
use Rattle.c_language.specs.Words.{Bytes}
use Rattle.c_language.specs.Constants.{literal_bytes}
use Rattle.c_language.specs.DeclaredTypes.{defined_functions, definition_of, parameter_types, result_type, written_type, variable_type, integer}
use Rattle.c_language.specs.Scopes.{Scope, Meaning, meaning_in}
use Rattle.c_language.specs.ExprTypes.{operand, type_of, a_value, value_type, integer_of, target_of, is_integer, is_pointer, same_type, is_assignable}
use Rattle.c_language.specs.Formats.{Conversion, Piece, format_pieces, conversions, conversion_width}
use Rattle.c_language.specs.NameRules.{main_name}
use Rattle.c_language.specs.Phrases.{Stand, Part, EndsFunction, Calls, Allocates, Returns}
use Rattle.c_language.specs.Uses.{is_library_function, is_among, counts, sizes}
use Rattle.c_language.specs.TypeGrammar.{named_type}
use Rattle.c_language.specs.declared.expr_type.ExprType.{ExprType}
use Rattle.c_language.specs.declared.expr_type.Operand.{Operand}

-- an argument isn't assignable to its parameter
pub data HasUnfitArgument (raw : RawProgram) (scope : Scope) : List (Option ExprType) → List RawArg → Type 0 where
  value : {t : ExprType} {ts : List (Option ExprType)} {e : RawExpr} {args : List RawArg} {x : Operand}
      → operand raw scope e ≡ Some x → is_assignable t x ≡ false → HasUnfitArgument raw scope (Some t ∷ ts) (arg.Value e ∷ args)
  literal : {t : Option ExprType} {ts : List (Option ExprType)} {text : Bytes} {args : List RawArg}
      → HasUnfitArgument raw scope (t ∷ ts) (arg.Literal text ∷ args)
  later : {t : Option ExprType} {ts : List (Option ExprType)} {a : RawArg} {args : List RawArg}
      → HasUnfitArgument raw scope ts args → HasUnfitArgument raw scope (t ∷ ts) (a ∷ args)

-- a call hasn't one assignable argument for each parameter
pub data MisusesArguments (raw : RawProgram) (scope : Scope) : Part → Type 0 where
  count : {stand : Stand} {to : RawTarget} {f : Bytes} {args : List RawArg} {head : RawHead}
      → is_library_function f ≡ false → definition_of raw f ≡ Some head → length args ≢ length head.params
      → MisusesArguments raw scope (Calls stand to f args)
  unfit : {stand : Stand} {to : RawTarget} {f : Bytes} {args : List RawArg} {head : RawHead}
      → is_library_function f ≡ false → definition_of raw f ≡ Some head → HasUnfitArgument raw scope (parameter_types raw head) args
      → MisusesArguments raw scope (Calls stand to f args)

-- the type of what a call's result is stored in
abbrev pub target_type : RawProgram → Scope → RawTarget → Option ExprType
target_type raw scope target.None = None
target_type raw scope (target.Place e) = type_of raw scope e
target_type raw scope (target.Declared var) = variable_type raw var init.None

-- the result is stored
abbrev pub IsStored : RawTarget → Type 0
IsStored target.None = ⊥
IsStored (target.Place a) = Unit {0}
IsStored (target.Declared var) = Unit {0}

-- the functions of the library whose result a program doesn't use
abbrev pub without_result : List Bytes
without_result = codes "putchar" ∷ (codes "printf" ∷ (codes "free" ∷ []))

-- a result is used that there isn't, or that isn't assignable to what it is stored in
pub data MisusesResult (raw : RawProgram) (scope : Scope) : Part → Type 0 where
  library : {stand : Stand} {to : RawTarget} {f : Bytes} {args : List RawArg}
      → to ≢ target.None → is_among without_result f ≡ true → MisusesResult raw scope (Calls stand to f args)
  input : {stand : Stand} {to : RawTarget} {args : List RawArg} {t : ExprType}
      → target_type raw scope to ≡ Some t → is_assignable t (a_value (integer Int)) ≡ false
      → MisusesResult raw scope (Calls stand to (codes "getchar") args)
  no_result : {stand : Stand} {to : RawTarget} {f : Bytes} {args : List RawArg} {head : RawHead}
      → is_library_function f ≡ false → to ≢ target.None → definition_of raw f ≡ Some head → head.result ≡ None
      → MisusesResult raw scope (Calls stand to f args)
  unfit : {stand : Stand} {to : RawTarget} {f : Bytes} {args : List RawArg} {head : RawHead} {t result : ExprType}
      → is_library_function f ≡ false → definition_of raw f ≡ Some head → result_type raw head ≡ Some result
      → target_type raw scope to ≡ Some t → is_assignable t (a_value result) ≡ false
      → MisusesResult raw scope (Calls stand to f args)

-- the head of the function in which a place stands
abbrev pub head_around : RawProgram → Scope → Option RawHead
head_around raw scope = option_and_then (slice_get (defined_functions raw)) scope.owner

-- the last statement of a list returns a value
pub data EndsWithValue : List RawStatement → Type 0 where
  last : {line : ℕ} (e : RawExpr) → EndsWithValue (s.Return line (Some e) ∷ [])
  later : {first : RawStatement} {rest : List RawStatement} → EndsWithValue rest → EndsWithValue (first ∷ rest)

-- a return doesn't fit its function, or a function that gives a result doesn't end with one; main may (5.1.2.2.3)
pub data MisusesReturn (raw : RawProgram) (scope : Scope) : Part → Type 0 where
  value_of_void : {e : RawExpr} {head : RawHead} → head_around raw scope ≡ Some head → head.result ≡ None → MisusesReturn raw scope (Returns (Some e))
  unfit : {e : RawExpr} {head : RawHead} {t : ExprType} {x : Operand}
      → head_around raw scope ≡ Some head → result_type raw head ≡ Some t → operand raw scope e ≡ Some x → is_assignable t x ≡ false
      → MisusesReturn raw scope (Returns (Some e))
  no_value : {head : RawHead} → head_around raw scope ≡ Some head → head.result ≢ None → MisusesReturn raw scope (Returns None)
  lacking : {head : RawHead} {body : List RawStatement}
      → head.name ≢ main_name → head.result ≢ None → (EndsWithValue body → ⊥) → MisusesReturn raw scope (EndsFunction head body)

-- the first argument, where it is a string literal
abbrev pub format_in : List RawArg → Option Bytes
format_in [] = None
format_in (arg.Value e ∷ rest) = None
format_in (arg.Literal text ∷ rest) = Some text

abbrev pub later_args : List RawArg → List RawArg
later_args [] = []
later_args (a ∷ rest) = rest

-- the pieces of the format
abbrev pub pieces_in : List RawArg → Option (List Piece)
pieces_in args = option_and_then (λ (text : Bytes). format_pieces (literal_bytes text)) (format_in args)

-- an integer of so many bits once it is promoted
abbrev pub has_width : ℕ → Option IntType → Bool
has_width n None = false
has_width n (Some t) = width (promote t) == n

-- an argument hasn't the width of its conversion
pub data HasUnfitWidth (raw : RawProgram) (scope : Scope) : List Conversion → List RawArg → Type 0 where
  value : {c : Conversion} {cs : List Conversion} {e : RawExpr} {args : List RawArg} {x : Operand}
      → operand raw scope e ≡ Some x → has_width (conversion_width c) (integer_of x.shape) ≡ false
      → HasUnfitWidth raw scope (c ∷ cs) (arg.Value e ∷ args)
  literal : {c : Conversion} {cs : List Conversion} {text : Bytes} {args : List RawArg} → HasUnfitWidth raw scope (c ∷ cs) (arg.Literal text ∷ args)
  later : {c : Conversion} {cs : List Conversion} {a : RawArg} {args : List RawArg}
      → HasUnfitWidth raw scope cs args → HasUnfitWidth raw scope (c ∷ cs) (a ∷ args)

-- printf has no format, or one with a null byte or another conversion, or hasn't one argument of its width for each conversion (7.19.6.1)
pub data MisusesFormat (raw : RawProgram) (scope : Scope) : Part → Type 0 where
  no_format : {stand : Stand} {to : RawTarget} {args : List RawArg} → format_in args ≡ None → MisusesFormat raw scope (Calls stand to (codes "printf") args)
  null_byte : {stand : Stand} {to : RawTarget} {args : List RawArg} {text : Bytes}
      → format_in args ≡ Some text → Contains (literal_bytes text) 0 → MisusesFormat raw scope (Calls stand to (codes "printf") args)
  conversion : {stand : Stand} {to : RawTarget} {args : List RawArg} → pieces_in args ≡ None → MisusesFormat raw scope (Calls stand to (codes "printf") args)
  count : {stand : Stand} {to : RawTarget} {args : List RawArg} {ps : List Piece}
      → pieces_in args ≡ Some ps → length (later_args args) ≢ length (conversions ps) → MisusesFormat raw scope (Calls stand to (codes "printf") args)
  unfit : {stand : Stand} {to : RawTarget} {args : List RawArg} {ps : List Piece}
      → pieces_in args ≡ Some ps → HasUnfitWidth raw scope (conversions ps) (later_args args)
      → MisusesFormat raw scope (Calls stand to (codes "printf") args)

-- char or unsigned char, whose size is 1 (6.5.3.4)
abbrev pub is_char : Option IntType → Bool
is_char None = false
is_char (Some Char) = true
is_char (Some UChar) = true
is_char _ = false

-- a size isn't that of the objects that are allocated
pub data HasOtherSize (raw : RawProgram) (scope : Scope) (object : ExprType) : RawSize → Type 0 where
  of_type : {t : RawTypeName} {u : ExprType} → written_type raw (named_type t) ≡ Some u → same_type u object ≡ false → HasOtherSize raw scope object (size.Type t)
  of_target : {name : Bytes} {closed : Bool} {id : ℕ} {t u : ExprType}
      → meaning_in scope name ≡ Some (Meaning.Variable id (Some t)) → target_of (value_type t) ≡ Some u → same_type u object ≡ false
      → HasOtherSize raw scope object (size.Pointee name closed)
  of_no_pointer : {name : Bytes} {closed : Bool} {id : ℕ} {t : ExprType}
      → meaning_in scope name ≡ Some (Meaning.Variable id (Some t)) → target_of (value_type t) ≡ None
      → HasOtherSize raw scope object (size.Pointee name closed)
  of_function : {name : Bytes} {closed : Bool}
      → meaning_in scope name ≡ Some Meaning.Function → HasOtherSize raw scope object (size.Pointee name closed)

-- malloc's result goes to no pointer, is cast to another type, or has a size or a count that doesn't fit (7.20.3.3)
pub data MisusesAllocation (raw : RawProgram) (scope : Scope) : Part → Type 0 where
  no_pointer : {to : RawTarget} {cast : Option RawTypeName} {n : RawAmount} {t : ExprType}
      → target_type raw scope to ≡ Some t → is_pointer t ≡ false → MisusesAllocation raw scope (Allocates to cast n)
  cast : {to : RawTarget} {c : RawTypeName} {n : RawAmount} {t u : ExprType}
      → target_type raw scope to ≡ Some t → written_type raw (named_type c) ≡ Some u → same_type t u ≡ false
      → MisusesAllocation raw scope (Allocates to (Some c) n)
  other_size : {to : RawTarget} {cast : Option RawTypeName} {n : RawAmount} {t object : ExprType} {measured : RawSize}
      → target_type raw scope to ≡ Some t → target_of t ≡ Some object → Contains (sizes n) measured → HasOtherSize raw scope object measured
      → MisusesAllocation raw scope (Allocates to cast n)
  no_size : {to : RawTarget} {cast : Option RawTypeName} {e : RawExpr} {t object : ExprType}
      → target_type raw scope to ≡ Some t → target_of t ≡ Some object → is_char (integer_of object) ≡ false
      → MisusesAllocation raw scope (Allocates to cast (amount.Count e))
  no_count : {to : RawTarget} {cast : Option RawTypeName} {n : RawAmount} {e : RawExpr} {x : Operand}
      → Contains (counts n) e → operand raw scope e ≡ Some x → is_integer x.shape ≡ false → MisusesAllocation raw scope (Allocates to cast n)

-- the one argument of a call, where there is one
abbrev pub only_arg : List RawArg → Option RawExpr
only_arg [] = None
only_arg (arg.Value e ∷ []) = Some e
only_arg (arg.Literal text ∷ []) = None
only_arg (a ∷ (b ∷ rest)) = None

-- free hasn't one pointer, putchar one integer, or getchar has an argument (7.20.3.2, 7.19.7.9, 7.19.7.6)
pub data MisusesLibrary (raw : RawProgram) (scope : Scope) : Part → Type 0 where
  free_count : {stand : Stand} {to : RawTarget} {args : List RawArg} → only_arg args ≡ None → MisusesLibrary raw scope (Calls stand to (codes "free") args)
  free_type : {stand : Stand} {to : RawTarget} {args : List RawArg} {e : RawExpr} {x : Operand}
      → only_arg args ≡ Some e → operand raw scope e ≡ Some x → is_pointer (value_type x.shape) ≡ false
      → MisusesLibrary raw scope (Calls stand to (codes "free") args)
  putchar_count : {stand : Stand} {to : RawTarget} {args : List RawArg} → only_arg args ≡ None → MisusesLibrary raw scope (Calls stand to (codes "putchar") args)
  putchar_type : {stand : Stand} {to : RawTarget} {args : List RawArg} {e : RawExpr} {x : Operand}
      → only_arg args ≡ Some e → operand raw scope e ≡ Some x → is_integer x.shape ≡ false
      → MisusesLibrary raw scope (Calls stand to (codes "putchar") args)
  getchar_count : {stand : Stand} {to : RawTarget} {args : List RawArg} → args ≢ [] → MisusesLibrary raw scope (Calls stand to (codes "getchar") args)
