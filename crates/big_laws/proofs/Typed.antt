-- All names in a generated program that stand for variables have types.
use Rattle.std.proofs.Common.{◌≡◌, ℕ, zero, suc, Bool, true, false, cond, List, [], ◌∷◌, Option, Some, None, refl, subst, arith}
use Rattle.std.specs.Prelude.{bytes_eq, option_map}
use Rattle.std.specs.List.{list_all, find}
use Rattle.std.proofs.lemmas.Bool.{and_parts}
use Rattle.c_tree.specs.declared.raw.program.RawProgram.{RawProgram}
use Rattle.c_language.specs.Words.{Bytes}
use Rattle.c_language.specs.Scopes.{Scope, Entry, Meaning, found_in}
use Rattle.c_language.proofs.Lists.{all_append}
use Rattle.c_types_base.proofs.TypedLaws.{IsTyped}
use Rattle.big_laws.proofs.Counted.{counted}
use Rattle.big_laws.proofs.Names.{function_entry, names_behind}

abbrev pub has_type : Meaning → Bool
has_type (Meaning.Variable id None) = false
has_type (Meaning.Variable id (Some t)) = true
has_type Meaning.Function = true

abbrev pub is_typed : Entry → Bool
is_typed e = has_type e.meaning

untyped_entry : (m : Meaning) (id : ℕ) → has_type m ≡ true → Some m ≡ Some (Meaning.Variable id None) → ⊥
untyped_entry m id h is =
    let same : m ≡ Meaning.Variable id None = cc in
    let none : has_type (Meaning.Variable id None) ≡ true = subst (λ (x : Meaning). has_type x ≡ true) same h in
    cc

typed_first : (e : Entry) (found : Option Entry) (id : ℕ) (b : Bool) → is_typed e ≡ true → (option_map (λ (x : Entry). x.meaning) found ≡ Some (Meaning.Variable id None) → ⊥)
    → option_map (λ (x : Entry). x.meaning) (cond b (Some e) found) ≡ Some (Meaning.Variable id None) → ⊥
typed_first e found id true h later is = untyped_entry e.meaning id h is
typed_first e found id false h later is = later is

all_typed : (es : List Entry) → list_all is_typed es ≡ true → (name : Bytes) (id : ℕ) → found_in name es ≡ Some (Meaning.Variable id None) → ⊥
all_typed [] h name id is = cc
all_typed (e ∷ es) h name id is =
    let parts = and_parts (is_typed e) (list_all is_typed es) h in
    typed_first e (find (λ (x : Entry). bytes_eq name x.name) es) id (bytes_eq name e.name) parts.0 (λ found. all_typed es parts.1 name id found) is

-- a place where all names are typed, and no struct type is complete
pub typed_at : (raw : RawProgram) (scope : Scope) → list_all is_typed scope.names ≡ true → scope.structs ≡ 0 → IsTyped raw scope
typed_at raw scope h none = record {
  variables = all_typed scope.names h;
  members = λ s name m below is untyped. omega (arith, below, none);
}

functions_typed : (n : ℕ) → list_all is_typed (counted function_entry n) ≡ true
functions_typed zero = refl
functions_typed (suc n) = all_append is_typed (counted function_entry n) (function_entry (suc n) ∷ []) (functions_typed n) refl

pub names_typed : (n : ℕ) → list_all is_typed (names_behind n) ≡ true
names_typed n = functions_typed n
