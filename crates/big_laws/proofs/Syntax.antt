-- The tree of a generated program is syntax.
use Rattle.std.proofs.Common.{◌≡◌, ℕ, zero, suc, ◌<◌, ◌^◌, Bool, true, false, [], ◌∷◌, ◌++◌, Option, Some, None, refl, arith}
use Rattle.std.specs.Prelude.{codes}
use Rattle.std.specs.List.{list_all}
use Rattle.std.proofs.lemmas.Bool.{and_from}
use Rattle.c_tree.specs.declared.raw.expr.RawExpr.TheVariants as e
use Rattle.c_language.specs.Constants.{constant_type, constant_value}
use Rattle.c_language.specs.ExprGrammar.{is_plain_name}
use Rattle.c_language.specs.Sees.{is_keyword}
use Rattle.c_language.specs.StatementGrammar.{is_callee}
use Rattle.c_language.specs.Syntax.{inner, final, binds, stands, is_body, is_head, is_item, IsSyntax}
use Rattle.c_language.proofs.Lists.{all_append}
use Rattle.text_syntax.proofs.Equations.{binds-Constant, binds-Variable, binds-Binary, reaches-Integer, stands-Declare, stands-Assign, stands-Call, stands-Return, place-Variable, struct-Integer}
use Rattle.big_programs.specs.declared.choices.Call.{Call}
use Rattle.big_programs.specs.declared.choices.Choices.{Choices}
use Rattle.big_programs.specs.Draws.{choices_drawn, state_before}
use Rattle.big_laws.specs.Trees.{local_statement, store_statement, made_call, call_statements, sum_statement, return_statement, function_body, function_head, function_item, function_items, global_item, opening_items, result_statement, print_statement, main_item, generated_tree}
use Rattle.big_laws.proofs.Bounds.{IsCallWithin, IsWithin, choices_within}
use Rattle.big_laws.proofs.Spelled.{function_is_name, function_is_own, function_is_callee, global_is_own, global_is_used, constant_is}

local_stands : (added : ℕ) → added < 10 → stands (local_statement added) inner ≡ true
unfolding is_keyword is_plain_name
local_stands added lt = rw (stands-Declare, reaches-Integer, binds-Binary, binds-Variable, binds-Constant, constant_is added lt) refl

store_stands : (stored : ℕ) → stored < 4 → stands (store_statement stored) inner ≡ true
unfolding is_keyword is_plain_name
store_stands stored lt = rw (stands-Assign, place-Variable, binds-Variable, global_is_used stored lt, binds-Variable) refl

call_stands : (c : Call) → c.function < 2 ^ 64 → c.global < 4 → stands (made_call c) inner ≡ true
unfolding is_keyword is_plain_name
call_stands c small lt =
    rw (stands-Call, place-Variable, binds-Variable, function_is_name c.function small, function_is_callee c.function small, binds-Variable, global_is_used c.global lt) refl

sum_stands : (summed : ℕ) → summed < 4 → stands (sum_statement summed) inner ≡ true
unfolding is_keyword is_plain_name
sum_stands summed lt = rw (stands-Assign, place-Variable, binds-Variable, binds-Binary, binds-Variable, binds-Variable, global_is_used summed lt) refl

return_stands : (local : Bool) → stands (return_statement local) final ≡ true
unfolding is_keyword is_plain_name
return_stands true = rw (stands-Return, binds-Variable) refl
return_stands false = rw (stands-Return, binds-Variable) refl

pub body_is : (n : ℕ) (c : Choices) → n < 2 ^ 64 → IsWithin n c → is_body (function_body c) ≡ true
body_is n c small w = with_call c.call w.call where
  with_call : (made : Option Call) → IsCallWithin n made
      → is_body (local_statement c.added ∷ (store_statement c.stored ∷ (call_statements made ++ (sum_statement c.summed ∷ (return_statement c.returns_local ∷ []))))) ≡ true
  with_call None within =
      rw (local_stands c.added w.added, store_stands c.stored w.stored, sum_stands c.summed w.summed, return_stands c.returns_local) refl
  with_call (Some made) within =
      rw (local_stands c.added w.added, store_stands c.stored w.stored, call_stands made (omega (arith, small, within.1)) within.2, sum_stands c.summed w.summed, return_stands c.returns_local) refl

pub head_is : (number : ℕ) → number < 2 ^ 64 → is_head (function_head number) ≡ true
unfolding is_keyword
head_is number small = rw (function_is_own number small, reaches-Integer, struct-Integer) refl

pub function_is : (n : ℕ) (c : Choices) → suc n < 2 ^ 64 → IsWithin n c → is_item (function_item (suc n) c) ≡ true
function_is n c small w = rw (head_is (suc n) small, body_is n c (omega (arith, small)) w) refl

pub functions_are : (x n : ℕ) → n < 2 ^ 64 → list_all is_item (function_items x n) ≡ true
functions_are x zero small = refl
functions_are x (suc n) small =
    all_append is_item (function_items x n) (function_item (suc n) (choices_drawn n (state_before x n)) ∷ []) (functions_are x n (omega (arith, small)))
    (and_from (is_item (function_item (suc n) (choices_drawn n (state_before x n)))) true (function_is n (choices_drawn n (state_before x n)) small (choices_within n (state_before x n))) refl)

-- ---- main and the globals

global_is : (q : ℕ) → q < 4 → is_item (global_item q) ≡ true
global_is q lt = rw (global_is_own q lt, reaches-Integer) refl

opening_is : list_all is_item opening_items ≡ true
opening_is = rw (global_is 0 (omega arith), global_is 1 (omega arith), global_is 2 (omega arith), global_is 3 (omega arith)) refl

one_binds : (n : ℕ) → binds (e.Constant (codes "1")) n ≡ true
unfolding constant_type constant_value
one_binds n = binds-Constant (codes "1") n

two_binds : (n : ℕ) → binds (e.Constant (codes "2")) n ≡ true
unfolding constant_type constant_value
two_binds n = binds-Constant (codes "2") n

result_stands : (size : ℕ) → size < 2 ^ 64 → stands (result_statement size) inner ≡ true
unfolding is_keyword
result_stands size small =
    rw (stands-Call, reaches-Integer, function_is_name size small, function_is_callee size small, one_binds, two_binds) refl

print_stands : stands print_statement final ≡ true
unfolding is_keyword is_plain_name is_callee
print_stands = rw (stands-Call, binds-Variable) refl

main_is : (size : ℕ) → size < 2 ^ 64 → is_item (main_item size) ≡ true
unfolding is_keyword
main_is size small = rw (reaches-Integer, struct-Integer, result_stands size small, print_stands) refl

pub tree_is_syntax : (seed size : ℕ) → size < 2 ^ 64 → IsSyntax (generated_tree seed size)
tree_is_syntax seed size small =
    all_append is_item opening_items (function_items seed size ++ (main_item size ∷ [])) opening_is
    (all_append is_item (function_items seed size) (main_item size ∷ []) (functions_are seed size small)
    (and_from (is_item (main_item size)) true (main_is size small) refl))
