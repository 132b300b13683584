-- The tree of a generated program nests two deep at most.
use Rattle.std.proofs.Common.{◌≡◌, ℕ, zero, suc, ◌≤◌, Bool, true, false, List, [], ◌∷◌, ◌++◌, Option, Some, None, refl, sym, subst, append_assoc, arith}
use Rattle.c_tree.specs.declared.raw.program.RawItem.{RawItem}
use Rattle.c_language.specs.StatementNesting.{statement_nesting, body_nesting, item_nesting, items_nesting, program_nesting}
use Rattle.c_language.proofs.NestingLemmas.{nesting-Constant, nesting-Variable, nesting-Binary, type_nesting-Integer}
use Rattle.c_language.proofs.StatementNestingLemmas.{nesting-Declare, nesting-Assign, nesting-Call, nesting-Return}
use Rattle.big_programs.specs.declared.choices.Call.{Call}
use Rattle.big_programs.specs.declared.choices.Choices.{Choices}
use Rattle.big_programs.specs.Draws.{choices_drawn, state_before}
use Rattle.big_laws.specs.Trees.{local_statement, store_statement, made_call, sum_statement, return_statement, function_body, function_item, function_items, opening_items, main_item, generated_tree}

local_nests : (added : ℕ) → statement_nesting (local_statement added) ≡ 1
local_nests added = rw (nesting-Declare, type_nesting-Integer, nesting-Binary, nesting-Variable, nesting-Constant) refl

store_nests : (stored : ℕ) → statement_nesting (store_statement stored) ≡ 1
store_nests stored = rw (nesting-Assign, nesting-Variable, nesting-Variable) refl

call_nests : (c : Call) → statement_nesting (made_call c) ≡ 2
call_nests c = rw (nesting-Call, nesting-Variable, nesting-Variable) refl

sum_nests : (summed : ℕ) → statement_nesting (sum_statement summed) ≡ 2
sum_nests summed = rw (nesting-Assign, nesting-Variable, nesting-Binary, nesting-Variable, nesting-Variable) refl

return_nests : (local : Bool) → statement_nesting (return_statement local) ≡ 0
return_nests true = rw (nesting-Return, nesting-Variable) refl
return_nests false = rw (nesting-Return, nesting-Variable) refl

body_nests : (c : Choices) (made : Option Call) → c.call ≡ made → body_nesting (function_body c) ≡ 2
body_nests c None is = rw (is, local_nests c.added, store_nests c.stored, sum_nests c.summed, return_nests c.returns_local) refl
body_nests c (Some call) is = rw (is, local_nests c.added, store_nests c.stored, call_nests call, sum_nests c.summed, return_nests c.returns_local) refl

function_nests : (number : ℕ) (c : Choices) → item_nesting (function_item number c) ≡ 2
function_nests number c = rw (body_nests c c.call refl, type_nesting-Integer) refl

main_nests : (size : ℕ) → item_nesting (main_item size) ≤ 2
main_nests size = rw (type_nesting-Integer, nesting-Call, nesting-Call, type_nesting-Integer, nesting-Constant, nesting-Constant, nesting-Variable) (omega arith)

functions_nest : (x n : ℕ) (rest : List RawItem) → items_nesting rest ≤ 2 → items_nesting (function_items x n ++ rest) ≤ 2
functions_nest x zero rest h = h
functions_nest x (suc n) rest h =
    let one = function_item (suc n) (choices_drawn n (state_before x n)) in
    subst (λ (all : List RawItem). items_nesting all ≤ 2) (sym (append_assoc (function_items x n) (one ∷ []) rest))
    (functions_nest x n (one ∷ rest) (rw (function_nests (suc n) (choices_drawn n (state_before x n))) (omega (arith, h))))

opening_nests : (rest : List RawItem) → items_nesting rest ≤ 2 → items_nesting (opening_items ++ rest) ≤ 2
opening_nests rest h = rw type_nesting-Integer (omega (arith, h))

pub tree_nests : (seed size : ℕ) → program_nesting (generated_tree seed size) ≤ 2
tree_nests seed size =
    opening_nests (function_items seed size ++ (main_item size ∷ [])) (functions_nest seed size (main_item size ∷ []) (omega (arith, main_nests size)))
