-- Which statements return a value.
use Rattle.std.proofs.Common.{◌≡◌, ℕ, suc, List, [], ◌∷◌, length, Bool, false, Option, Some, None, refl, sym, ap, ◌∙◌, arith}
use Rattle.std.specs.Prelude.{◌-◌, slice_get}
use Rattle.c_language.specs.HeadTests.{is_given, value_layer, returns_value, ends_with_value}
use Rattle.c_arith.specs.declared.operators.BinaryOp.{BinaryOp}
use Rattle.c_tree.specs.declared.raw.expr.RawExpr.{RawExpr}
use Rattle.c_tree.specs.declared.raw.expr.RawVar.{RawVar}
use Rattle.c_tree.specs.declared.raw.program.RawInit.{RawInit}
use Rattle.c_tree.specs.declared.raw.statement.RawTarget.{RawTarget}
use Rattle.c_tree.specs.declared.raw.statement.RawArg.{RawArg}
use Rattle.c_tree.specs.declared.raw.statement.RawTypeName.{RawTypeName}
use Rattle.c_tree.specs.declared.raw.statement.RawAmount.{RawAmount}
use Rattle.c_tree.specs.declared.raw.statement.RawArm.{RawArm}
use Rattle.c_tree.specs.declared.raw.statement.RawStatement.{RawStatement, out-RawStatement, roll-RawStatement}
use Rattle.c_tree.specs.declared.raw.statement.RawStatement.TheOpen.{RawStatement-F}
use Rattle.c_tree.specs.declared.raw.statement.RawStatement.TheViews.{out-roll-RawStatement}
use Rattle.c_tree.specs.declared.raw.statement.RawStatement.TheVariants as s
use Rattle.c_language.specs.Words.{Bytes}

of_layer : (y : RawStatement-F RawStatement RawArm) (x : RawStatement) → roll-RawStatement y ≡ x → returns_value x ≡ value_layer y
of_layer y x is = ap (λ (z : RawStatement). value_layer (out-RawStatement z)) (sym is) ∙ ap value_layer (out-roll-RawStatement y)

pub returns-Declare : (l : ℕ) (var : RawVar) (i : RawInit) → returns_value (s.Declare l var i) ≡ false
returns-Declare l var i = of_layer (RawStatement-F.Declare l var i) _ (s.rolls-Declare l var i)

pub returns-Assign : (l : ℕ) (left : RawExpr) (op : Option BinaryOp) (right : RawExpr) → returns_value (s.Assign l left op right) ≡ false
returns-Assign l left op right = of_layer (RawStatement-F.Assign l left op right) _ (s.rolls-Assign l left op right)

pub returns-Bump : (l : ℕ) (left : RawExpr) (up : Bool) (before : Bool) → returns_value (s.Bump l left up before) ≡ false
returns-Bump l left up before = of_layer (RawStatement-F.Bump l left up before) _ (s.rolls-Bump l left up before)

pub returns-Call : (l : ℕ) (to : RawTarget) (f : Bytes) (args : List RawArg) → returns_value (s.Call l to f args) ≡ false
returns-Call l to f args = of_layer (RawStatement-F.Call l to f args) _ (s.rolls-Call l to f args)

pub returns-Heap : (l : ℕ) (to : RawTarget) (cast : Option RawTypeName) (n : RawAmount) → returns_value (s.Heap l to cast n) ≡ false
returns-Heap l to cast n = of_layer (RawStatement-F.Heap l to cast n) _ (s.rolls-Heap l to cast n)

pub returns-If : (l : ℕ) (c : RawExpr) (a : List RawStatement) (b : List RawStatement) → returns_value (s.If l c a b) ≡ false
returns-If l c a b = of_layer (RawStatement-F.If l c a b) _ (s.rolls-If l c a b)

pub returns-While : (l : ℕ) (c : RawExpr) (b : List RawStatement) → returns_value (s.While l c b) ≡ false
returns-While l c b = of_layer (RawStatement-F.While l c b) _ (s.rolls-While l c b)

pub returns-Do : (l : ℕ) (c : RawExpr) (b : List RawStatement) → returns_value (s.Do l c b) ≡ false
returns-Do l c b = of_layer (RawStatement-F.Do l c b) _ (s.rolls-Do l c b)

pub returns-For : (l : ℕ) (i : Option RawStatement) (c : RawExpr) (step : Option RawStatement) (b : List RawStatement) → returns_value (s.For l i c step b) ≡ false
returns-For l i c step b = of_layer (RawStatement-F.For l i c step b) _ (s.rolls-For l i c step b)

pub returns-Switch : (l : ℕ) (c : RawExpr) (arms : List RawArm) → returns_value (s.Switch l c arms) ≡ false
returns-Switch l c arms = of_layer (RawStatement-F.Switch l c arms) _ (s.rolls-Switch l c arms)

pub returns-Block : (l : ℕ) (b : List RawStatement) → returns_value (s.Block l b) ≡ false
returns-Block l b = of_layer (RawStatement-F.Block l b) _ (s.rolls-Block l b)

pub returns-Return : (l : ℕ) (value : Option RawExpr) → returns_value (s.Return l value) ≡ is_given value
returns-Return l value = of_layer (RawStatement-F.Return l value) _ (s.rolls-Return l value)

pub ruleset returned_values = (returns-Declare, returns-Assign, returns-Bump, returns-Call, returns-Heap, returns-If, returns-While, returns-Do, returns-For, returns-Switch, returns-Block, returns-Return)

-- a last statement that returns a value
abbrev pub value_in : Option RawStatement → Bool
value_in None = false
value_in (Some x) = returns_value x

less_one : (n : ℕ) → suc (suc n) - 1 ≡ suc (suc n - 1)
less_one n = omega arith

last_later : (x y : RawStatement) (rest : List RawStatement) → slice_get (y ∷ rest) (suc (length rest) - 1) ≡ slice_get (x ∷ (y ∷ rest)) (suc (suc (length rest)) - 1)
last_later x y rest = ap (slice_get (x ∷ (y ∷ rest))) (sym (less_one (length rest)))

pub ends_by_last : (body : List RawStatement) → ends_with_value body ≡ value_in (slice_get body (length body - 1))
ends_by_last [] = refl
ends_by_last (x ∷ []) = refl
ends_by_last (x ∷ (y ∷ rest)) = ends_by_last (y ∷ rest) ∙ ap value_in (last_later x y rest)
