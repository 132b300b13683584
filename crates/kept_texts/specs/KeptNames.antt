-- What is kept of a text, where functions are told by their names.
use Rattle.std.specs.Prelude.{ℕ, true, false}
use Rattle.std.specs.Option.{option_map_or}
use Rattle.c_tree.specs.declared.raw.program.RawProgram.{RawProgram}
use Rattle.c_language.specs.Words.{Bytes}
use Rattle.c_language.specs.DeclaredTypes.{function_id}
use Rattle.projection.specs.Kept.{Kept}

-- a function that the text doesn't define, as one of the library, is kept
abbrev pub by_names : Kept ℕ → RawProgram → Kept Bytes
by_names k raw = record {
  variable = k.variable;
  statement = k.statement;
  result = k.result;
  argument = k.argument;
  function = λ x. option_map_or k.function (function_id raw x) true;
  parameter = λ x n. option_map_or (λ (f : ℕ). k.parameter f n) (function_id raw x) false;
  gives = λ x. option_map_or k.gives (function_id raw x) false;
}
