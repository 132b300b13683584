use Rattle.std.proofs.Common.{◌∷◌, refl, sym, ◌∙◌}
use Rattle.c_parse_left_out.proofs.PlaceLemmas.{semicolon_later}
use Rattle.c_parse_left_out.proofs.telling.after_next.Goals as goal

pub returns-else-is_token : goal.returns-else-is_token
returns-else-is_token c = c.requires ∙ semicolon_later 0 (c.args.token.now ∷ c.args.behind.now) c.args.token.now c.args.behind.now refl (sym c.is_token.ensures ∙ c.if-is_token.false)
