-- The names of a table, as those of a scope.
use Rattle.std.specs.Prelude.{ℕ, List, map, Option, Some, bytes_eq}
use Rattle.std.specs.Borrow.{Bor}
use Rattle.c_language.specs.Scopes as scopes
use Rattle.c_language.specs.Scopes.{Entry}
use Rattle.c_types_base.specs.declared.names.Meaning.{Meaning}
use Rattle.c_types_base.specs.declared.names.Meaning.TheVariants.{Variable, Function}
use Rattle.c_types_base.specs.declared.names.Names.{Names}
use Rattle.c_types_base.specs.declared.names.StructMembers.{StructMembers}
use Rattle.c_language.specs.Words.{Bytes}
use Rattle.c_language.specs.declared.expr_type.ExprType.{ExprType}
use Rattle.std.specs.Map.{lookup}

abbrev pub meaning_of : Meaning → scopes.Meaning
meaning_of (Variable id t) = scopes.Meaning.Variable id (Some t)
meaning_of Function = scopes.Meaning.Function

abbrev pub entry_of : Bor (List ℕ) × Meaning → Entry
entry_of e = record { name = e.0.now; meaning = meaning_of e.1 }

-- the entries of the names, in their order
abbrev pub names_of : Names → List Entry
names_of n = map entry_of n.entries.entries

-- the type of a member, in the table of its struct type
abbrev pub listed_type : Bytes → StructMembers → Option ExprType
listed_type name s = lookup (λ (k : Bor (List ℕ)). bytes_eq name k.now) s.entries.entries
