-- The code of a function that is there.
use Rattle.std.proofs.Common.{◌≡◌, ℕ, Some, slice_get, ap}
use Rattle.std.specs.Option.{option_map_or}
use Rattle.c_tree.specs.declared.program.Program.{Program}
use Rattle.c_tree.specs.declared.program.Function.{Function}
use Rattle.c_language.specs.Code.{End, code}
use Rattle.dep_model.specs.FunctionVertices.{code_in}

pub code_at : (p : Program) (f : ℕ) (g : Function) → slice_get p.functions f ≡ Some g → code_in p f ≡ code g.body
code_at p f g is = ap (λ o. option_map_or (λ (h : Function). code h.body) o End) is
