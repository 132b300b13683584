use Rattle.std.proofs.Common.{◌∙◌, All, map, sym, ap, subst}
use Rattle.rule_closure.specs.Rules.{IsRuleWithin}
use Rattle.forward_chop.specs.Turned.{turn}
use Rattle.forward_chop.proofs.PartLaws.{turn_within}
use Rattle.forward_chop.proofs.parts.field_of.Goals as goal

pub prepare-requires : goal.prepare-requires
prepare-requires c =
    subst (All (IsRuleWithin c.args.size)) (sym (c.in_ok-turned.ensures ∙ ap (map turn) c.as_slice.ensures.value)) (turn_within c.args.size c.args.rules.items c.requires.within)
