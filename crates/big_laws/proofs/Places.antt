-- What is in scope at the places of a generated program.
use Rattle.std.proofs.Common.{◌≡◌, ℕ, ◌+◌, true, List, [], ◌∷◌, ◌++◌, append_assoc, append-nil, length, Option, Some, None, refl, sym, ap, ◌∙◌}
use Rattle.std.specs.List.{list_all}
use Rattle.c_arith.specs.declared.int_type.IntType.TheVariants.{Int}
use Rattle.c_tree.specs.declared.raw.program.RawHead.{RawHead}
use Rattle.c_tree.specs.declared.raw.program.RawInit.{RawInit}
use Rattle.c_tree.specs.declared.raw.program.RawProgram.{RawProgram}
use Rattle.c_language.specs.Words.{Bytes}
use Rattle.c_language.specs.DeclaredTypes.{item_count}
use Rattle.c_language.specs.Scopes.{Scope, Entry, Meaning, found_in, with_entry, with_variable, with_function, opened, scope_of_parameters}
use Rattle.c_language.specs.declared.expr_type.ExprType.{ExprType}
use Rattle.c_language.proofs.Lists.{all_append}
use Rattle.c_types_base.proofs.TypedLaws.{IsTyped}
use Rattle.c_types_base.proofs.TypeLemmas.{type_with-Integer}
use Rattle.big_laws.specs.Trees.{variable}
use Rattle.big_laws.proofs.Names.{variable_entry, names_behind}
use Rattle.big_laws.proofs.Typed.{is_typed, typed_at, names_typed}

-- behind the first n functions, where so many variables and statements have been numbered
abbrev pub outside : (n v s : ℕ) → Scope
outside n v s = record { names = names_behind n; outer = 0; owner = None; structs = 0; functions = n; variables = v; statements = s }

-- in the function behind n others, where some names are declared before it, and others in it
abbrev pub inside : List Entry → (n v s : ℕ) → List Entry → Scope
inside before n v s own = record { names = before ++ own; outer = length before; owner = Some n; structs = 0; functions = n + 1; variables = v; statements = s }

pub outside_typed : (raw : RawProgram) (n v s : ℕ) → IsTyped raw (outside n v s)
outside_typed raw n v s = typed_at raw (outside n v s) (names_typed n) refl

pub inside_typed : (raw : RawProgram) (before : List Entry) (n v s : ℕ) (own : List Entry) → list_all is_typed before ≡ true → list_all is_typed own ≡ true
    → IsTyped raw (inside before n v s own)
inside_typed raw before n v s own h k = typed_at raw (inside before n v s own) (all_append is_typed before own h k) refl

-- a variable is declared in the function
pub one_more : (raw : RawProgram) (before : List Entry) (n v s : ℕ) (own : List Entry) (w : Bytes) (i : RawInit)
    → with_variable raw (variable w) i (inside before n v s own) ≡ inside before n (v + 1) s (own ++ (variable_entry v w ∷ []))
one_more raw before n v s own w i =
    ap (λ (t : Option ExprType). with_entry w (Meaning.Variable v t) (inside before n (v + 1) s own)) (type_with-Integer raw (item_count i) Int)
    ∙ ap (λ (es : List Entry). record (inside before n (v + 1) s own) { names = es }) (append_assoc before own (variable_entry v w ∷ []))

-- ---- a function is entered

-- the names, with that of the function
abbrev pub with_name : List Entry → Bytes → List Entry
with_name names w = names ++ (record { name = w; meaning = Meaning.Function } ∷ [])

pub function_named : (w : Bytes) (n v s : ℕ) → found_in w (names_behind n) ≡ None
    → with_function w (outside n v s) ≡ record (outside n v s) { names = with_name (names_behind n) w }
function_named w n v s fresh = rw fresh refl

pub function_begins : (head : RawHead) (n v s : ℕ) → found_in head.name (names_behind n) ≡ None
    → scope_of_parameters head (outside n v s) ≡ inside (with_name (names_behind n) head.name) n v s []
function_begins head n v s fresh =
    let before = with_name (names_behind n) head.name in
    ap (λ (place : Scope). record (opened place) { owner = Some n; functions = n + 1 }) (function_named head.name n v s fresh)
    ∙ ap (λ (es : List Entry). record (inside before n v s []) { names = es }) (sym (append-nil before))
