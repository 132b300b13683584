use Rattle.std.proofs.Common.{◌∙◌, refl, ap}
use Rattle.rule_closure.specs.Rules.{RuleSystem}
use Rattle.completion.specs.NameRules.{name_rules}
use Rattle.completion.proofs.Closures.{rules_within}
use Rattle.completion.proofs.EntryLaws.{main_entry_is}
use Rattle.completion.proofs.NameLaws.{name_rules_are}
use Rattle.completion.proofs.closer.Closer.prepare.Goals as goal

pub prepare-requires : goal.prepare-requires
prepare-requires c =
    rw (c.len-size.ensures, c.in_ok-add_names.ensures, c.in_ok-rules.ensures, c.as_slice.ensures, c.as_slice-2.ensures)
    (rules_within c.args.p.now c.args.g.now c.requires.graph)

pub returns : goal.returns
returns c =
    let p = c.args.p.now in
    let g = c.args.g.now in
    record {
      names = name_rules p g.vertices;
      size = ap (λ (r : RuleSystem). r.size) c.in_ok-closure.ensures ∙ c.len-size.ensures;
      entry = λ m e. rw (c.main_entry-main.ensures, c.as_slice-3.ensures) (main_entry_is p g c.requires.graph m e);
      names_are = name_rules_are p g.vertices;
      rules_are = rw (c.in_ok-closure.ensures, c.in_ok-add_names.ensures, c.in_ok-rules.ensures, c.as_slice.ensures, c.as_slice-2.ensures) refl;
    }
