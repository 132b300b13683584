-- The tables of the checker, as a scope.
use Rattle.std.specs.Prelude.{◌≡◌, ℕ, ◌<◌, List, Option, is_some, option_and_then, slice_get, vec_len}
use Rattle.c_tree.specs.declared.raw.program.RawMember.{RawMember}
use Rattle.c_language.specs.Words.{Bytes}
use Rattle.c_language.specs.DeclaredTypes.{has_stdio, has_stdlib, written_type}
use Rattle.c_language.specs.Scopes.{Scope}
use Rattle.c_language.specs.ExprTypes.{member_of}
use Rattle.c_language.specs.declared.expr_type.ExprType.{ExprType}
use Rattle.c_types_base.specs.Names.{names_of, listed_type}
use Rattle.c_types_base.specs.Definitions.{IsOfText}
use Rattle.c_types_base.specs.declared.names.StructMembers.{StructMembers}
use Rattle.c_types_base.specs.declared.tables.Tables.{Tables}

-- the scope that the tables hold
abbrev pub scope_of : Tables → Scope
scope_of t = record {
  names = names_of t.names;
  outer = t.outer;
  owner = t.owner;
  structs = vec_len t.structs;
  functions = t.functions;
  variables = t.variables;
  statements = t.statements;
}

abbrev pub listed_in : List StructMembers → Bytes → ℕ → Option ExprType
listed_in structs name s = option_and_then (listed_type name) (slice_get structs s)

-- the tables tell what the text defines, and what it says of its headers and of the members of its complete struct types
pub record AreRight (t : Tables) : Type 0 where
  pub text : t.defined.raw.now ≡ t.raw.now
  pub defined : IsOfText t.defined
  pub stdio : t.has_stdio ≡ has_stdio t.raw.now
  pub stdlib : t.has_stdlib ≡ has_stdlib t.raw.now
  pub listed : (s : ℕ) (name : Bytes) → s < vec_len t.structs → is_some (listed_in t.structs.items name s) ≡ is_some (member_of t.raw.now s name)
  pub typed : (s : ℕ) (name : Bytes) → s < vec_len t.structs
      → listed_in t.structs.items name s ≡ option_and_then (λ (m : RawMember). written_type t.raw.now m.shape) (member_of t.raw.now s name)

-- the tables have come to a scope of the same text
pub record IsAt (old new : Tables) (scope : Scope) : Type 0 where
  pub scope_is : scope_of new ≡ scope
  pub text : new.raw.now ≡ old.raw.now
  pub right : AreRight old → AreRight new

-- the types of the members of the struct type that is complete next
pub record Lists (t : Tables) (listed : StructMembers) : Type 0 where
  pub there : (name : Bytes) → is_some (listed_type name listed) ≡ is_some (member_of t.raw.now (vec_len t.structs) name)
  pub types : (name : Bytes) → listed_type name listed ≡ option_and_then (λ (m : RawMember). written_type t.raw.now m.shape) (member_of t.raw.now (vec_len t.structs) name)
