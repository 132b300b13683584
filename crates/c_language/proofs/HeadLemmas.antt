-- The tests of a function's head and of its last statement.
use Rattle.std.proofs.Common.{◌≡◌, ℕ, List, [], ◌∷◌, Bool, true, Option, Some, None, refl, sym, ap, subst, ◌∙◌}
use Rattle.c_arith.specs.declared.int_type.IntType.{IntType}
use Rattle.c_arith.specs.declared.int_type.IntType.TheVariants.{Int, Char, UChar, Short, UShort, UInt, Long, ULong}
use Rattle.c_tree.specs.declared.raw.expr.RawExpr.{RawExpr}
use Rattle.c_tree.specs.declared.raw.expr.RawType.{RawType, out-RawType, fold-roll-RawType, roll-RawType}
use Rattle.c_tree.specs.declared.raw.expr.RawType.TheOpen.{RawType-F}
use Rattle.c_tree.specs.declared.raw.expr.RawType.TheViews.{roll-out-RawType}
use Rattle.c_tree.specs.declared.raw.expr.RawType.TheVariants as type
use Rattle.c_tree.specs.declared.raw.statement.RawStatement.{RawStatement, out-RawStatement, roll-RawStatement}
use Rattle.c_tree.specs.declared.raw.statement.RawStatement.TheOpen.{RawStatement-F}
use Rattle.c_tree.specs.declared.raw.statement.RawStatement.TheViews.{out-roll-RawStatement, roll-out-RawStatement}
use Rattle.c_tree.specs.declared.raw.statement.RawStatement.TheVariants as s
use Rattle.c_tree.specs.declared.raw.statement.RawArm.{RawArm}
use Rattle.c_language.specs.CallRules.{EndsWithValue}
use Rattle.c_language.specs.HeadTests.{is_int, int_step, is_int_type, gives_int, value_layer, returns_value, ends_with_value}
use Rattle.c_language.proofs.Tests.{false_true}

-- ---- int

int_alone : (t : IntType) → is_int t ≡ true → t ≡ Int
int_alone Int h = refl
int_alone Char h = false_true h
int_alone UChar h = false_true h
int_alone Short h = false_true h
int_alone UShort h = false_true h
int_alone UInt h = false_true h
int_alone Long h = false_true h
int_alone ULong h = false_true h

is_int-roll : (y : RawType-F RawType) → is_int_type (roll-RawType y) ≡ int_step y
is_int-roll (RawType-F.Integer t) = fold-roll-RawType Bool int_step (RawType-F.Integer t)
is_int-roll (RawType-F.PointerTo a) = fold-roll-RawType Bool int_step (RawType-F.PointerTo a)
is_int-roll (RawType-F.Array a n) = fold-roll-RawType Bool int_step (RawType-F.Array a n)
is_int-roll (RawType-F.Struct tag) = fold-roll-RawType Bool int_step (RawType-F.Struct tag)

int_only_layer : (y : RawType-F RawType) → int_step y ≡ true → roll-RawType y ≡ type.Integer Int
int_only_layer (RawType-F.Integer t) h = type.rolls-Integer t ∙ ap (λ (i : IntType). type.Integer i) (int_alone t h)
int_only_layer (RawType-F.PointerTo a) h = false_true h
int_only_layer (RawType-F.Array a n) h = false_true h
int_only_layer (RawType-F.Struct tag) h = false_true h

int_only : (t : RawType) → is_int_type t ≡ true → t ≡ type.Integer Int
int_only t h =
    sym (roll-out-RawType t)
    ∙ int_only_layer (out-RawType t) (sym (is_int-roll (out-RawType t)) ∙ (ap is_int_type (roll-out-RawType t) ∙ h))

pub gives_int_only : (o : Option RawType) → gives_int o ≡ true → o ≡ Some (type.Integer Int)
gives_int_only None h = false_true h
gives_int_only (Some t) h = ap (λ (u : RawType). Some u) (int_only t h)

pub gives_int_own : gives_int (Some (type.Integer Int)) ≡ true
gives_int_own = ap is_int_type (sym (type.rolls-Integer Int)) ∙ fold-roll-RawType Bool int_step (RawType-F.Integer Int)

-- ---- the last statement

abbrev GivesValue : RawStatement → Type 0
GivesValue one = (l : ℕ) × (e : RawExpr) × (one ≡ s.Return l (Some e))

value_of_layer : (y : RawStatement-F RawStatement RawArm) → value_layer y ≡ true → GivesValue (roll-RawStatement y)
value_of_layer (RawStatement-F.Return l (Some e)) h = (l, e, s.rolls-Return l (Some e))
value_of_layer (RawStatement-F.Return l None) h = false_true h
value_of_layer (RawStatement-F.Declare l var i) h = false_true h
value_of_layer (RawStatement-F.Assign l left op right) h = false_true h
value_of_layer (RawStatement-F.Bump l left up before) h = false_true h
value_of_layer (RawStatement-F.Call l to f args) h = false_true h
value_of_layer (RawStatement-F.Heap l to cast n) h = false_true h
value_of_layer (RawStatement-F.If l e a b) h = false_true h
value_of_layer (RawStatement-F.While l e b) h = false_true h
value_of_layer (RawStatement-F.Do l e b) h = false_true h
value_of_layer (RawStatement-F.For l i e step b) h = false_true h
value_of_layer (RawStatement-F.Switch l e arms) h = false_true h
value_of_layer (RawStatement-F.Block l b) h = false_true h

returns_value_is : (one : RawStatement) → returns_value one ≡ true → GivesValue one
returns_value_is one h = subst GivesValue (roll-out-RawStatement one) (value_of_layer (out-RawStatement one) h)

returns_value_own : (l : ℕ) (e : RawExpr) → returns_value (s.Return l (Some e)) ≡ true
returns_value_own l e =
    ap (λ (one : RawStatement). value_layer (out-RawStatement one)) (sym (s.rolls-Return l (Some e)))
    ∙ ap value_layer (out-roll-RawStatement (RawStatement-F.Return l (Some e)))

pub ends_from : (body : List RawStatement) → ends_with_value body ≡ true → EndsWithValue body
ends_from [] h = false_true h
ends_from (one ∷ []) h =
    let is = returns_value_is one h in
    subst (λ (z : RawStatement). EndsWithValue (z ∷ [])) (sym is.2) (EndsWithValue.last is.1)
ends_from (one ∷ (two ∷ rest)) h = EndsWithValue.later (ends_from (two ∷ rest) h)

ends_later : (one : RawStatement) (rest : List RawStatement) → ends_with_value rest ≡ true → ends_with_value (one ∷ rest) ≡ true
ends_later one [] h = false_true h
ends_later one (two ∷ rest) h = h

pub ends_told : {body : List RawStatement} → EndsWithValue body → ends_with_value body ≡ true
ends_told (EndsWithValue.last {line} e) = returns_value_own line e
ends_told (EndsWithValue.later {first} {rest} h) = ends_later first rest (ends_told h)
