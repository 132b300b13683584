use Rattle.std.proofs.Common.{◌-◌, sym, ◌∙◌, arith, rules}
use Rattle.std.proofs.lemmas.Grind.{common_steps}
use Rattle.c_parse_expr.proofs.ExprSound.{nested_sound}
use Rattle.c_parse_expr.proofs.TypeLaws.{no_length, some_length}
use Rattle.c_parse_expr.proofs.TypeSound.{lengths_sound}
use Rattle.c_parse_expr.proofs.types.+lengths.Goals as goal

pub returns-then-not-sees : goal.returns-then-not-sees
returns-then-not-sees t c = rw (no_length c.args.depth c.args.element c.args.tokens.now (sym c.sees.ensures ∙ c.if-not-sees.true)) c.fitting.ensures

pub returns-in_err-expect : goal.returns-in_err-expect
returns-in_err-expect t c = rw (some_length c.args.depth c.args.element c.args.tokens.now (sym c.sees.ensures ∙ c.if-not-sees.false) (omega arith)) (first_of (search rules, grind (arith, common_steps)))

pub returns-in_err-inner : goal.returns-in_err-inner
returns-in_err-inner t c = rw (some_length c.args.depth c.args.element c.args.tokens.now (sym c.sees.ensures ∙ c.if-not-sees.false) (omega arith)) (first_of (search rules, grind (arith, common_steps)))

pub array-requires : goal.array-requires
array-requires t c = omega (
  arith,
  (nested_sound c.args.depth 1 _ c.in_ok-length.length _ (omega arith) (omega arith) c.in_ok-length.ensures).low,
  (lengths_sound (c.args.depth - 1) _ _ _ _ c.in_ok-inner.ensures).low,
)
