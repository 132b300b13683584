-- Values as tests see them.
use Rattle.std.specs.Prelude.{ℤ, Bool, not, false, Option, option_map}
use Rattle.std.specs.Option.{option_map_or}
use Rattle.c_arith.specs.Operators.{truth}
use Rattle.c_language.specs.ConstantEvaluation.{is_zero}
use Rattle.c_meaning.specs.declared.value.Value.{Value}
use Rattle.c_meaning.specs.declared.value.Value.TheVariants.{Number}
use Rattle.c_meaning.specs.Values.{tested}

-- there is a value, and it isn't 0 or null
abbrev pub is_met : Option Value → Bool
is_met o = option_map_or (λ (v : Value). not (is_zero (tested v))) o false

-- there is a value, and it is 0 or null
abbrev pub is_unmet : Option Value → Bool
is_unmet o = option_map_or (λ (v : Value). is_zero (tested v)) o false

abbrev pub truth_of : Option Value → Option Value
truth_of o = option_map (λ (v : Value). Number (truth (not (is_zero (tested v))))) o

abbrev pub number_if : ℤ → Option Value → Option Value
number_if z o = option_map (λ (v : Value). Number z) o
