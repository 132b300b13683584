-- Where the declarations keep their rules, each name that is in scope has a type, and so has each member of a struct type.
use Rattle.std.proofs.Common.{ℕ, zero, suc, List, [], ◌∷◌, ◌++◌, Bool, true, false, Option, Some, None}
use Rattle.std.specs.Prelude.{option_map, option_and_then, bytes_eq, slice_get, cond}
use Rattle.std.specs.List.{find}
use Rattle.c_types_base.proofs.TypeTrees.{IsMade}
use Rattle.c_tree.specs.declared.raw.expr.RawVar.{RawVar}
use Rattle.c_tree.specs.declared.raw.program.RawInit.{RawInit}
use Rattle.c_tree.specs.declared.raw.program.RawMember.{RawMember}
use Rattle.c_tree.specs.declared.raw.program.RawProgram.{RawProgram}
use Rattle.c_language.specs.Words.{Bytes}
use Rattle.c_language.specs.DeclaredTypes.{StructText, defined_structs, variable_type}
use Rattle.c_language.specs.ExprTypes.{member_named, member_of}
use Rattle.c_language.specs.Scopes.{Scope, Entry, Meaning, found_in, meaning_in, with_variable, with_function}
use Rattle.c_language.proofs.ScopeNumbers.{function_declared}
use Rattle.c_language.proofs.Operands.{HasTypeIf, HasType}
use Rattle.c_language.specs.Options.{IsThere}

-- ---- names

abbrev pub AreTyped : List Entry → Type 0
AreTyped [] = Unit {0}
AreTyped (x ∷ xs) = HasType x.meaning × AreTyped xs

-- each variable that is in scope has a type
abbrev pub IsTyped : Scope → Type 0
IsTyped scope = AreTyped scope.names

abbrev meaning_of : Option Entry → Option Meaning
meaning_of = option_map (λ (x : Entry). x.meaning)

found_step : (b : Bool) (x : Entry) (r : Option Entry) → HasType x.meaning → HasTypeIf (meaning_of r) → HasTypeIf (meaning_of (cond b (Some x) r))
found_step true x r h k = h
found_step false x r h k = k

typed_found : (name : Bytes) (xs : List Entry) → AreTyped xs → HasTypeIf (found_in name xs)
typed_found name [] h = tt
typed_found name (x ∷ xs) h = found_step (bytes_eq name x.name) x (find (λ (e : Entry). bytes_eq name e.name) xs) h.0 (typed_found name xs h.1)

pub typed_meaning : (scope : Scope) (name : Bytes) → IsTyped scope → HasTypeIf (meaning_in scope name)
typed_meaning scope name h = typed_found name scope.names h

typed_more : (xs : List Entry) (x : Entry) → AreTyped xs → HasType x.meaning → AreTyped (xs ++ x ∷ [])
typed_more [] x h k = (k, tt)
typed_more (y ∷ ys) x h k = (h.0, typed_more ys x h.1 k)

pub typed_variable : (raw : RawProgram) (var : RawVar) (i : RawInit) (scope : Scope) → IsTyped scope → IsThere (variable_type raw var i)
    → IsTyped (with_variable raw var i scope)
typed_variable raw var i scope h k = typed_more scope.names (record { name = var.name; meaning = Meaning.Variable scope.variables (variable_type raw var i) }) h k

pub typed_function : (name : Bytes) (scope : Scope) → IsTyped scope → IsTyped (with_function name scope)
typed_function name scope h =
    function_declared IsTyped name scope h (typed_more scope.names (record { name = name; meaning = Meaning.Function }) h tt)

-- ---- members

abbrev pub AreMade : RawProgram → List RawMember → Type 0
AreMade raw [] = Unit {0}
AreMade raw (m ∷ ms) = IsMade raw 0 m.shape × AreMade raw ms

-- each member of these struct types has a type
abbrev pub AreComplete : RawProgram → List StructText → Type 0
AreComplete raw [] = Unit {0}
AreComplete raw (d ∷ ds) = AreMade raw d.members × AreComplete raw ds

abbrev pub IsMadeIf : RawProgram → Option RawMember → Type 0
IsMadeIf raw None = Unit {0}
IsMadeIf raw (Some m) = IsMade raw 0 m.shape

made_step : (raw : RawProgram) (b : Bool) (m : RawMember) (r : Option RawMember) → IsMade raw 0 m.shape → IsMadeIf raw r → IsMadeIf raw (cond b (Some m) r)
made_step raw true m r h k = h
made_step raw false m r h k = k

made_named : (raw : RawProgram) (ms : List RawMember) (name : Bytes) → AreMade raw ms → IsMadeIf raw (member_named ms name)
made_named raw [] name h = tt
made_named raw (m ∷ ms) name h = made_step raw (bytes_eq m.name name) m (member_named ms name) h.0 (made_named raw ms name h.1)

made_in : (raw : RawProgram) (ds : List StructText) (s : ℕ) (name : Bytes) → AreComplete raw ds
    → IsMadeIf raw (option_and_then (λ (d : StructText). member_named d.members name) (slice_get ds s))
made_in raw [] s name h = tt
made_in raw (d ∷ ds) zero name h = made_named raw d.members name h.0
made_in raw (d ∷ ds) (suc s) name h = made_in raw ds s name h.1

pub made_member : (raw : RawProgram) (s : ℕ) (name : Bytes) → AreComplete raw (defined_structs raw) → IsMadeIf raw (member_of raw s name)
made_member raw s name h = made_in raw (defined_structs raw) s name h
