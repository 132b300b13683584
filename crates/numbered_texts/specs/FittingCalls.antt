-- Calls that have an argument for each parameter of the function that they call, and take a result that it gives.
use Rattle.std.specs.Prelude.{ℕ, ◌==◌, ◌&&◌, ◌||◌, not, List, length, map, Bool, true, false, slice_get, is_some}
use Rattle.std.specs.Option.{option_map_or}
use Rattle.c_tree.specs.declared.program.Function.{Function}
use Rattle.c_tree.specs.declared.program.Program.{Program}
use Rattle.c_tree.specs.declared.statement.Target.{Target}
use Rattle.c_tree.specs.declared.statement.Target.TheVariants as target
use Rattle.c_language.specs.NameRules.{is_main}
use Rattle.c_language.specs.Mains.{is_main_of}
use Rattle.dep_model.specs.Doings.{Doing, Does, Calls}
use Rattle.dep_model.specs.VertexOrder.{has_result}

-- where functions have so many parameters, a call is of one of them, and has as many arguments
abbrev pub fits : List ℕ → Doing → Bool
fits counts (Does i a) = true
fits counts (Calls i to f args) = option_map_or (λ (n : ℕ). n == length args) (slice_get counts f) false

abbrev pub stores : Target → Bool
stores target.None = false
stores (target.Place e) = true
stores (target.Declared x) = true

-- where it is told of each function whether it gives a result, a call whose result is stored is of one that does
abbrev pub gives : List Bool → Doing → Bool
gives results (Does i a) = true
gives results (Calls i to f args) = not (stores to) || option_map_or (λ (b : Bool). b) (slice_get results f) false

-- how many parameters each function of a program has
abbrev pub parameter_counts : Program → List ℕ
parameter_counts p = map (λ (f : Function). length f.params) p.functions

-- whether each function of a program gives a result to its calls: it isn't void, and it isn't main
abbrev pub results_given : Program → List Bool
results_given p = map (λ (f : Function). is_some f.result && not (is_main f.name)) p.functions

-- a call whose result is stored is of a function that has a formal-out of its result
abbrev pub takes_result : Program → Doing → Bool
takes_result p (Does i a) = true
takes_result p (Calls i to f args) = not (stores to) || (has_result p f && not (is_main_of p f))
