use Rattle.std.proofs.Common.{◌/◌, get_or, refl, arith}
use Rattle.std.proofs.lemmas.List.{get_or-set_other}
use Rattle.matched_paths.proofs.BitLemmas.{bit_set}
use Rattle.matched_paths.proofs.fact_places.set_bit.Goals as goal

pub returns-clause-exact : goal.returns-clause-exact
returns-clause-exact c =
    let low = c.requires in
    bit_set c.args.words.now c.args.bit (get_or c.args.words.now (c.args.bit / 64) 0) (omega (arith, low)) refl

pub returns-clause-others : goal.returns-clause-others
returns-clause-others c = λ w other. get_or-set_other c.args.words.now (c.args.bit / 64) w _ 0 other
