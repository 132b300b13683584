use Rattle.std.proofs.Common.{◌+◌, ◌∙◌, All, false, length, map, sym, ap, subst}
use Rattle.std.proofs.lemmas.List.{length-replicate}
use Rattle.rule_closure.specs.Rules.{IsRuleWithin}
use Rattle.dep_model.specs.Facts.{HoldsFact}
use Rattle.two_pass.proofs.RuleLaws.{rules_within}
use Rattle.forward_chop.specs.Turned.{turn}
use Rattle.forward_chop.proofs.PartLaws.{turn_within}
use Rattle.forward_chop.proofs.TurnedLaws.{passes_are}
use Rattle.forward_chop.proofs.passes.ForwardPasses.prepare.Goals as goal

pub prepare-requires : goal.prepare-requires
prepare-requires c =
    let g = c.args.g.now in
    let rules = c.in_ok-rules.rules.items in
    let size = c.len-size.result in
    let within : All (IsRuleWithin (size + size)) rules = rw (c.len-size.ensures) (rules_within g (HoldsFact g c.args.f.now.words) rules c.requires.shaped c.in_ok-rules.ensures) in
    subst (All (IsRuleWithin (size + size))) (sym (c.in_ok-turned.ensures ∙ ap (map turn) c.as_slice.ensures.value)) (turn_within (size + size) rules within)

pub invariant_of-result : goal.invariant_of-result
invariant_of-result c =
    let size = c.len-size.result in
    passes_are c.args.g.now c.args.f.now.words c.in_ok-rules.rules.items c.in_ok-turned.turned.items size c.in_ok-edges.edges.items c.in_ok-closure.closure c.in_ok-marks.marks
    c.requires.shaped c.requires.facts c.in_ok-rules.ensures (c.in_ok-turned.ensures ∙ ap (map turn) c.as_slice.ensures.value) c.len-size.ensures
    (c.in_ok-edges.ensures.items ∙ c.as_slice-2.ensures) c.in_ok-closure.ensures (ap length c.in_ok-marks.ensures ∙ length-replicate (size + size) false)
