-- What a phrase of a text holds: its expressions with their parts, the lengths of its arrays, and the tags that it names.
use Rattle.std.specs.Prelude.{Bool, true, false, List, [], ◌∷◌, ◌++◌, Option, Some, None, option_map, Contains, codes, bytes_eq}
use Rattle.std.specs.List.{list_any}
use Rattle.c_tree.specs.declared.raw.expr.RawExpr.{RawExpr, out-RawExpr, fold-RawExpr}
use Rattle.c_tree.specs.declared.raw.expr.RawExpr.TheOpen.{RawExpr-F}
use Rattle.c_tree.specs.declared.raw.expr.RawLength.{RawLength}
use Rattle.c_tree.specs.declared.raw.expr.RawLength.TheVariants as length_of
use Rattle.c_tree.specs.declared.raw.expr.RawType.{RawType, fold-RawType}
use Rattle.c_tree.specs.declared.raw.expr.RawType.TheOpen.{RawType-F}
use Rattle.c_tree.specs.declared.raw.program.RawInit.{RawInit}
use Rattle.c_tree.specs.declared.raw.program.RawInit.TheVariants as init
use Rattle.c_tree.specs.declared.raw.statement.RawTarget.{RawTarget}
use Rattle.c_tree.specs.declared.raw.statement.RawTarget.TheVariants as target
use Rattle.c_tree.specs.declared.raw.statement.RawArg.{RawArg}
use Rattle.c_tree.specs.declared.raw.statement.RawArg.TheVariants as arg
use Rattle.c_tree.specs.declared.raw.statement.RawTypeName.{RawTypeName}
use Rattle.c_tree.specs.declared.raw.statement.RawSize.{RawSize}
use Rattle.c_tree.specs.declared.raw.statement.RawSize.TheVariants as size
use Rattle.c_tree.specs.declared.raw.statement.RawAmount.{RawAmount}
use Rattle.c_tree.specs.declared.raw.statement.RawAmount.TheVariants as amount
use Rattle.c_tree.specs.declared.raw.statement.RawLabel.{RawLabel}
use Rattle.c_tree.specs.declared.raw.statement.RawLabel.TheVariants as label
use Rattle.c_language.specs.Words.{Bytes}
use Rattle.c_language.specs.Phrases.{Part, NamesStruct, HasMember, DeclaresFunction, Takes, Declares, Begins, Assigns, Bumps, Calls, Allocates, Tests, Switches, Returns}

abbrev pub operands_of : RawExpr-F RawExpr → List RawExpr
operands_of (RawExpr-F.Constant text) = []
operands_of RawExpr-F.Null = []
operands_of RawExpr-F.Eof = []
operands_of (RawExpr-F.Variable name) = []
operands_of (RawExpr-F.Unary op a) = a ∷ []
operands_of (RawExpr-F.Deref a) = a ∷ []
operands_of (RawExpr-F.AddressOf a) = a ∷ []
operands_of (RawExpr-F.Binary op a b) = a ∷ (b ∷ [])
operands_of (RawExpr-F.AndAlso a b) = a ∷ (b ∷ [])
operands_of (RawExpr-F.OrElse a b) = a ∷ (b ∷ [])
operands_of (RawExpr-F.Choose c a b) = c ∷ (a ∷ (b ∷ []))
operands_of (RawExpr-F.Cast t a) = a ∷ []
operands_of (RawExpr-F.Index a i) = a ∷ (i ∷ [])
operands_of (RawExpr-F.Member a m) = a ∷ []
operands_of (RawExpr-F.Arrow a m) = a ∷ []
operands_of (RawExpr-F.Paren a) = a ∷ []

-- the operands of the outermost operator
abbrev pub operands : RawExpr → List RawExpr
operands e = operands_of (out-RawExpr e)

-- an expression is a part of another: it is the whole, or a part of an operand
pub data IsWithin : RawExpr → RawExpr → Type 0 where
  whole : {e : RawExpr} → IsWithin e e
  deeper : {part middle e : RawExpr} → Contains (operands e) middle → IsWithin part middle → IsWithin part e

abbrev pub null_step : RawExpr-F Bool → Bool
null_step RawExpr-F.Null = true
null_step (RawExpr-F.Paren a) = a
null_step _ = false

-- NULL, within parentheses or not
abbrev pub is_null_name : RawExpr → Bool
is_null_name = fold-RawExpr Bool null_step

abbrev pub written_lengths : RawLength → List RawExpr
written_lengths (length_of.Written e) = e ∷ []
written_lengths length_of.Listed = []

abbrev pub lengths_step : RawType-F (List RawExpr) → List RawExpr
lengths_step (RawType-F.Integer t) = []
lengths_step (RawType-F.PointerTo a) = a
lengths_step (RawType-F.Array a n) = written_lengths n ++ a
lengths_step (RawType-F.Struct tag) = []

-- the lengths that a type is written with
abbrev pub lengths_in : RawType → List RawExpr
lengths_in = fold-RawType (List RawExpr) lengths_step

-- the lengths of a phrase's arrays
abbrev pub lengths_of : Part → List RawExpr
lengths_of (HasMember before m) = lengths_in m.shape
lengths_of (Declares stand var i) = lengths_in var.shape
lengths_of _ = []

abbrev pub init_exprs : RawInit → List RawExpr
init_exprs init.None = []
init_exprs (init.One e) = e ∷ []
init_exprs (init.Items es) = es

abbrev pub target_exprs : RawTarget → List RawExpr
target_exprs target.None = []
target_exprs (target.Place e) = e ∷ []
target_exprs (target.Declared var) = []

abbrev pub arg_exprs : List RawArg → List RawExpr
arg_exprs [] = []
arg_exprs (arg.Value e ∷ rest) = e ∷ arg_exprs rest
arg_exprs (arg.Literal text ∷ rest) = arg_exprs rest

-- the count in an amount
abbrev pub counts : RawAmount → List RawExpr
counts (amount.Size s) = []
counts (amount.CountSize e s) = e ∷ []
counts (amount.SizeCount s e) = e ∷ []
counts (amount.Count e) = e ∷ []

-- the size in an amount
abbrev pub sizes : RawAmount → List RawSize
sizes (amount.Size s) = s ∷ []
sizes (amount.CountSize e s) = s ∷ []
sizes (amount.SizeCount s e) = s ∷ []
sizes (amount.Count e) = []

abbrev pub cases : List RawLabel → List RawExpr
cases [] = []
cases (label.Case e ∷ rest) = e ∷ cases rest
cases (label.Default ∷ rest) = cases rest

abbrev pub if_given : Option RawExpr → List RawExpr
if_given None = []
if_given (Some e) = e ∷ []

-- the expressions of a phrase
abbrev pub expressions : Part → List RawExpr
expressions (HasMember before m) = lengths_in m.shape
expressions (Declares stand var i) = lengths_in var.shape
expressions (Begins stand var i) = init_exprs i
expressions (Assigns left op right) = left ∷ (right ∷ [])
expressions (Bumps left) = left ∷ []
expressions (Calls stand to f args) = target_exprs to ++ arg_exprs args
expressions (Allocates to cast n) = target_exprs to ++ counts n
expressions (Tests e) = e ∷ []
expressions (Switches e labels) = e ∷ cases labels
expressions (Returns e) = if_given e
expressions _ = []

-- an expression stands in a phrase, by itself or as a part of another
pub data Holds : Part → RawExpr → Type 0 where
  holds : {part : Part} {e inner : RawExpr} → Contains (expressions part) e → IsWithin inner e → Holds part inner

abbrev pub tags_step : RawType-F (List Bytes) → List Bytes
tags_step (RawType-F.Integer t) = []
tags_step (RawType-F.PointerTo a) = a
tags_step (RawType-F.Array a n) = a
tags_step (RawType-F.Struct tag) = tag ∷ []

-- the tag that a type names
abbrev pub tags_in : RawType → List Bytes
tags_in = fold-RawType (List Bytes) tags_step

abbrev pub tags_if : Option RawType → List Bytes
tags_if None = []
tags_if (Some t) = tags_in t

abbrev pub tags_of_size : List RawSize → List Bytes
tags_of_size [] = []
tags_of_size (size.Type t ∷ rest) = tags_in t.base ++ tags_of_size rest
tags_of_size (size.Pointee name closed ∷ rest) = tags_of_size rest

-- the tags that a phrase names
abbrev pub tags : Part → List Bytes
tags (NamesStruct tag) = tag ∷ []
tags (HasMember before m) = tags_in m.shape
tags (DeclaresFunction head is_definition) = tags_if head.result
tags (Takes before p) = tags_in p.shape
tags (Declares stand var i) = tags_in var.shape
tags (Allocates to cast n) = tags_if (option_map (λ (t : RawTypeName). t.base) cast) ++ tags_of_size (sizes n)
tags _ = []

-- the functions of the library that a program calls, but malloc (7.19, 7.20)
abbrev pub called_library : List Bytes
called_library = codes "getchar" ∷ (codes "putchar" ∷ (codes "printf" ∷ (codes "free" ∷ [])))

-- the names of the library that a program can use
abbrev pub library_names : List Bytes
library_names = codes "malloc" ∷ (codes "NULL" ∷ (codes "EOF" ∷ called_library))

-- the macros among them, which are replaced wherever their names stand (6.10.3)
abbrev pub library_macros : List Bytes
library_macros = codes "NULL" ∷ (codes "EOF" ∷ [])

abbrev pub is_among : List Bytes → Bytes → Bool
is_among names name = list_any (bytes_eq name) names

abbrev pub is_library_function : Bytes → Bool
is_library_function = is_among called_library

abbrev pub is_library_name : Bytes → Bool
is_library_name = is_among library_names

abbrev pub is_library_macro : Bytes → Bool
is_library_macro = is_among library_macros
