-- The variables that the words of a statement name, all of them.
use Rattle.std.specs.Prelude.{ℕ, Bool, ◌||◌}
use Rattle.c_language.specs.Names.{any_names, target_names, act_names}
use Rattle.dep_model.specs.Doings.{Doing, Does, Calls}

abbrev pub doing_names : Doing → ℕ → Bool
doing_names (Does i a) x = act_names a x
doing_names (Calls i to f args) x = target_names to x || any_names args x
