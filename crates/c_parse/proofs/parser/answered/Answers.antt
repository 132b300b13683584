use Rattle.std.proofs.Common.{◌≡◌, length, arith, rules}
use Rattle.std.proofs.lemmas.Grind.{common_steps}
use Rattle.c_parse.proofs.NamedLaws.{nothing_answers}
use Rattle.c_parse.proofs.parser.answered.Goals as goal

pub returns-then-is_empty-clause-exact : goal.returns-then-is_empty-clause-exact
returns-then-is_empty-clause-exact c =
    let e = c.is_empty.ensures in
    let t = c.if-is_empty.true in
    let none : length c.args.tokens.now ≡ 0 = first_of (search rules, omega (arith, e, t), grind (arith, common_steps)) in
    nothing_answers 100 c.args.tokens.now c.new.result c.new.ensures none
