-- Which function of a program is main, where a run begins (ISO C99 5.1.2.2.1).
use Rattle.std.specs.Prelude.{ℕ, ◌==◌, Bool, false, Option}
use Rattle.std.specs.List.{position}
use Rattle.std.specs.Option.{option_map_or}
use Rattle.c_tree.specs.declared.program.Function.{Function}
use Rattle.c_tree.specs.declared.program.Program.{Program}
use Rattle.c_language.specs.NameRules.{is_main}

-- the number of the function named main
abbrev pub main_of : Program → Option ℕ
main_of p = position (λ (f : Function). is_main f.name) p.functions

-- whether function f is main
abbrev pub is_main_of : Program → ℕ → Bool
is_main_of p f = option_map_or (λ m. m == f) (main_of p) false
