use Rattle.std.proofs.Common.{ℕ, false, sym, ap, ◌∙◌}
use Rattle.std.specs.Prelude.{◌==◌}
use Rattle.std.specs.Option.{option_map_or}
use Rattle.projection.proofs.numbering.is_own_kept.Goals as goal

pub returns-in-None : goal.returns-in-None
returns-in-None c = sym (c.kept_number.ensures c.args.id ∙ ap (λ o. option_map_or (λ (j : ℕ). j == c.args.id) o false) c.in-None.is)
