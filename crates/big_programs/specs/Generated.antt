-- The text of a generated program, line by line.
use Rattle.std.specs.Prelude.{ℕ, zero, suc, List, [], ◌++◌, Bool, true, false, Option, Some, None, codes, decimal}
use Rattle.big_programs.specs.declared.choices.Call.{Call}
use Rattle.big_programs.specs.declared.choices.Choices.{Choices}
use Rattle.big_programs.specs.Draws.{choices_drawn, state_before}

abbrev pub Bytes : Type 0
Bytes = List ℕ

-- the include and the globals
abbrev pub opening_lines : Bytes
opening_lines = codes "#include <stdio.h>\nint g0;\nint g1;\nint g2;\nint g3;\n"

-- ---- a function

abbrev pub head_line : ℕ → Bytes
head_line number = codes "int f" ++ (decimal number ++ codes "(int a, int b) {\n")

abbrev pub local_line : ℕ → Bytes
local_line added = codes "    int t = a + " ++ (decimal added ++ codes ";\n")

abbrev pub store_line : ℕ → Bytes
store_line stored = codes "    g" ++ (decimal stored ++ codes " = t;\n")

abbrev pub made_call_line : Call → Bytes
made_call_line c = codes "    t = f" ++ (decimal c.function ++ (codes "(t, g" ++ (decimal c.global ++ codes ");\n")))

abbrev pub call_line : Option Call → Bytes
call_line None = []
call_line (Some c) = made_call_line c

abbrev pub sum_line : ℕ → Bytes
sum_line summed = codes "    b = b + g" ++ (decimal summed ++ codes ";\n")

-- the local is returned, or the second parameter
abbrev pub return_line : Bool → Bytes
return_line true = codes "    return t;\n"
return_line false = codes "    return b;\n"

abbrev pub end_line : Bytes
end_line = codes "}\n"

-- the function with this number
abbrev pub function_lines : ℕ → Choices → Bytes
function_lines number c =
    head_line number
    ++ (local_line c.added ++ (store_line c.stored ++ (call_line c.call ++ (sum_line c.summed ++ (return_line c.returns_local ++ end_line)))))

-- the first n functions, where the seed is x
abbrev pub first_functions : ℕ → ℕ → Bytes
first_functions x zero = []
first_functions x (suc n) = first_functions x n ++ function_lines (suc n) (choices_drawn n (state_before x n))

-- ---- main, which calls the last function

abbrev pub main_line : Bytes
main_line = codes "int main(void) {\n"

abbrev pub result_line : ℕ → Bytes
result_line size = codes "    int r = f" ++ (decimal size ++ codes "(1, 2);\n")

abbrev pub print_line : Bytes
print_line = codes "    printf(\"%d\\n\", r);\n"

abbrev pub main_lines : ℕ → Bytes
main_lines size = main_line ++ (result_line size ++ (print_line ++ end_line))

-- the text that a seed gives, with so many functions beside main
abbrev pub generated : ℕ → ℕ → Bytes
generated seed size = opening_lines ++ (first_functions seed size ++ main_lines size)
