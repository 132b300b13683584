use Rattle.std.proofs.Common.{rules, ap, ◌∙◌}
use Rattle.c_language.specs.Layout.{indent}
use Rattle.c_print.proofs.Indentation.{shortened}
use Rattle.c_print.proofs.margin.Margin.shorten.Goals as goal

pub invariant_of-self : goal.invariant_of-self
invariant_of-self c =
    (shortened c.args.self.now c.self.inside.spaces.items c.truncate.new.self.items c.len-kept.result c.requires (c.self.invariant ∙ ap indent c.self.view_is) (search rules) c.truncate.ensures.items).1

pub returns : goal.returns
returns c =
    (shortened c.args.self.now c.self.inside.spaces.items c.truncate.new.self.items c.len-kept.result c.requires (c.self.invariant ∙ ap indent c.self.view_is) (search rules) c.truncate.ensures.items).0
