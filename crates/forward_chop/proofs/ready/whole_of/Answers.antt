use Rattle.dep_model.specs.Facts.{HoldsFact}
use Rattle.two_pass.proofs.RuleLaws.{rules_within}
use Rattle.forward_chop.proofs.PartLaws.{whole_is}
use Rattle.forward_chop.proofs.ready.whole_of.Goals as goal

pub field_of-requires : goal.field_of-requires
field_of-requires c =
    let g = c.args.g.now in
    record { within = rw (c.len-size.ensures) (rules_within g (HoldsFact g c.args.f.now.words) c.in_ok-rules.rules.items c.requires.shaped c.in_ok-rules.ensures) }

pub returns : goal.returns
returns c =
    whole_is c.args.g.now c.args.f.now.words c.in_ok-rules.rules.items c.len-size.result c.in_ok-field.field c.requires.shaped c.requires.facts c.in_ok-rules.ensures c.len-size.ensures c.in_ok-field.ensures
