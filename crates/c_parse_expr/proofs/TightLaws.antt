-- How tightly a tree binds tells at which levels its tokens are an expression.
use Rattle.std.proofs.Common.{ℕ, ◌≤◌, arith}
use Rattle.c_tree.specs.declared.raw.expr.RawExpr.{RawExpr}
use Rattle.c_language.specs.TokenForms.{Tokens}
use Rattle.c_language.specs.ExprGrammar.{IsExpr, number_constant, character_constant, null, eof, variable, paren, index, member, unary, cast, binary, choose, tightness}
use Rattle.c_language.proofs.FormLemmas.{tightness-Constant, tightness-Null, tightness-Eof, tightness-Variable, tightness-Paren, tightness-Index, tightness-Cast, tightness-Choose, tightness-selected, tightness-applied, tightness-joint}

-- an expression of a level binds as tightly as that
pub tight : {n : ℕ} {ts rest : Tokens} {a : RawExpr} → IsExpr n ts a rest → n ≤ 15 → n ≤ tightness a
tight (number_constant {text}) low = let e = tightness-Constant text in omega (arith, e)
tight (character_constant {text}) low = let e = tightness-Constant text in omega (arith, e)
tight null low = let e = tightness-Null in omega (arith, e)
tight eof low = let e = tightness-Eof in omega (arith, e)
tight (variable {text} h) low = let e = tightness-Variable text in omega (arith, e)
tight (paren {a} h) low = let e = tightness-Paren a in omega (arith, e)
tight (index {a} {i} p h k) low = let e = tightness-Index a i in omega (arith, e)
tight (member {a} {text} by p h free) low = let e = tightness-selected by a text in omega (arith, e)
tight (unary {a} op p h) low = let e = tightness-applied op a in omega (arith, e)
tight (cast {t} {a} p h k) low = let e = tightness-Cast t a in omega (arith, e)
tight (binary {a} {b} op p h k) low = let e = tightness-joint op a b in omega (arith, e)
tight (choose {c} {a} {b} p h k j) low = let e = tightness-Choose c a b in omega (arith, e)

-- an expression whose tree binds so tightly is one of that level
pub tighten : {m : ℕ} {ts rest : Tokens} {a : RawExpr} → IsExpr m ts a rest → (n : ℕ) → n ≤ tightness a → IsExpr n ts a rest
tighten number_constant n p = number_constant
tighten character_constant n p = character_constant
tighten null n p = null
tighten eof n p = eof
tighten (variable h) n p = variable h
tighten (paren h) n p = paren h
tighten (index {a} {i} q h k) n p = let e = tightness-Index a i in index (omega (arith, e)) h k
tighten (member {a} {text} by q h free) n p = let e = tightness-selected by a text in member by (omega (arith, e)) h free
tighten (unary {a} op q h) n p = let e = tightness-applied op a in unary op (omega (arith, e)) h
tighten (cast {t} {a} q h k) n p = let e = tightness-Cast t a in cast (omega (arith, e)) h k
tighten (binary {a} {b} op q h k) n p = let e = tightness-joint op a b in binary op (omega (arith, e)) h k
tighten (choose {c} {a} {b} q h k j) n p = let e = tightness-Choose c a b in choose (omega (arith, e)) h k j
