-- The text of a generated program with at most 1,000 functions beside main has at most 1,048,576 bytes.
use Rattle.std.proofs.Common.{ℕ, zero, suc, ◌+◌, ◌*◌, ◌<◌, ◌≤◌, ◌^◌, Bool, true, false, ◌++◌, length, Option, Some, None, decimal, arith}
use Rattle.std.specs.Prelude.{codes}
use Rattle.std.proofs.lemmas.List.{length-append}
use Rattle.std.proofs.lemmas.Fmt.{length-decimal-le}
use Rattle.big_programs.specs.declared.choices.Call.{Call}
use Rattle.big_programs.specs.declared.choices.Choices.{Choices}
use Rattle.big_programs.specs.Draws.{choices_drawn, state_before}
use Rattle.big_programs.specs.Generated.{Bytes, opening_lines, head_line, local_line, store_line, made_call_line, call_line, sum_line, return_line, end_line, function_lines, first_functions, main_line, result_line, print_line, main_lines, generated}
use Rattle.big_laws.proofs.Bounds.{IsCallWithin, IsWithin, choices_within}

-- a number between two texts
around : (n most : ℕ) (behind : Bytes) → n < 2 ^ 64 → length behind ≤ most → length (decimal n ++ behind) ≤ 20 + most
around n most behind small le =
    let both = length-append (decimal n) behind in
    let few = length-decimal-le 20 n (omega arith) (omega (arith, small)) small in
    omega (arith, both, few, le)

-- two texts, one behind the other
behind : (xs ys : Bytes) (a b : ℕ) → length xs ≤ a → length ys ≤ b → length (xs ++ ys) ≤ a + b
behind xs ys a b le le' = let both = length-append xs ys in omega (arith, both, le, le')

-- ---- the lines of a function

head_short : (n : ℕ) → n < 2 ^ 64 → length (head_line n) ≤ 60
head_short n small = let le = around n 20 (codes "(int a, int b) {\n") small (omega arith) in omega (arith, le)

local_short : (n : ℕ) → n < 2 ^ 64 → length (local_line n) ≤ 60
local_short n small = let le = around n 2 (codes ";\n") small (omega arith) in omega (arith, le)

store_short : (n : ℕ) → n < 2 ^ 64 → length (store_line n) ≤ 60
store_short n small = let le = around n 6 (codes " = t;\n") small (omega arith) in omega (arith, le)

made_call_short : (c : Call) → c.function < 2 ^ 64 → c.global < 2 ^ 64 → length (made_call_line c) ≤ 100
made_call_short c small small' =
    let last = around c.global 10 (codes ");\n") small' (omega arith) in
    let le = around c.function 40 (codes "(t, g" ++ (decimal c.global ++ codes ");\n")) small (omega (arith, last)) in
    omega (arith, le)

call_short : (n : ℕ) (c : Option Call) → n < 2 ^ 64 → IsCallWithin n c → length (call_line c) ≤ 100
call_short n None small within = omega arith
call_short n (Some c) small within =
    let function = within.1 in
    let global = within.2 in
    made_call_short c (omega (arith, function, small)) (omega (arith, global))

sum_short : (n : ℕ) → n < 2 ^ 64 → length (sum_line n) ≤ 60
sum_short n small = let le = around n 2 (codes ";\n") small (omega arith) in omega (arith, le)

return_short : (b : Bool) → length (return_line b) ≤ 20
return_short true = omega arith
return_short false = omega arith

function_short : (n : ℕ) (c : Choices) → suc n < 2 ^ 64 → IsWithin n c → length (function_lines (suc n) c) ≤ 400
function_short n c small within =
    let added = within.added in
    let stored = within.stored in
    let summed = within.summed in
    let end = return_line c.returns_local ++ end_line in
    let summing = sum_line c.summed ++ end in
    let calling = call_line c.call ++ summing in
    let storing = store_line c.stored ++ calling in
    let last = behind (return_line c.returns_local) end_line 20 2 (return_short c.returns_local) (omega arith) in
    let sum = behind (sum_line c.summed) end 60 22 (sum_short c.summed (omega (arith, summed))) last in
    let call = behind (call_line c.call) summing 100 82 (call_short n c.call (omega (arith, small)) within.call) sum in
    let store = behind (store_line c.stored) calling 60 182 (store_short c.stored (omega (arith, stored))) call in
    let local = behind (local_line c.added) storing 60 242 (local_short c.added (omega (arith, added))) store in
    let le = behind (head_line (suc n)) (local_line c.added ++ storing) 60 302 (head_short (suc n) small) local in
    omega (arith, le)

-- ---- the whole

functions_short : (x n : ℕ) → n < 2 ^ 64 → length (first_functions x n) ≤ n * 400
functions_short x zero small = omega arith
functions_short x (suc n) small =
    let before = functions_short x n (omega (arith, small)) in
    let last = function_short n (choices_drawn n (state_before x n)) small (choices_within n (state_before x n)) in
    let both = length-append (first_functions x n) (function_lines (suc n) (choices_drawn n (state_before x n))) in
    omega (arith, before, last, both)

main_short : (n : ℕ) → n < 2 ^ 64 → length (main_lines n) ≤ 200
main_short n small =
    let number = around n 10 (codes "(1, 2);\n") small (omega arith) in
    let result : length (result_line n) ≤ 60 = omega (arith, number) in
    let last = behind (result_line n) (print_line ++ end_line) 60 40 result (omega arith) in
    let le = behind main_line (result_line n ++ (print_line ++ end_line)) 30 100 (omega arith) last in
    omega (arith, le)

pub generated_short : (seed size : ℕ) → size ≤ 1000 → length (generated seed size) ≤ 1048576
generated_short seed size few =
    let small : size < 2 ^ 64 = omega (arith, few) in
    let functions = functions_short seed size small in
    let main = main_short size small in
    let rest = length-append (first_functions seed size) (main_lines size) in
    let le = behind opening_lines (first_functions seed size ++ main_lines size) 60 (size * 400 + 200) (omega arith) (omega (arith, rest, functions, main)) in
    omega (arith, le, few)
