use Rattle.std.proofs.Common.{◌<◌, ◌∙◌, All, sym, subst}
use Rattle.dep_model.specs.declared.edge.Edge.{Edge}
use Rattle.matched_paths.proofs.GroupLaws.{leaving_all}
use Rattle.two_pass.proofs.calls.over_calls.Goals as goal

pub over_call-requires-clause-leaves : goal.over_call-requires-clause-leaves
over_call-requires-clause-leaves c =
    let P : Edge → Type 0 = λ (e : Edge). (e.from < c.args.size) × (e.to < c.args.size) in
    subst (All P) (sym (c.of.ensures ∙ c.in_ok-exits.ensures c.in-In.call)) (leaving_all P c.args.edges.now c.in-In.call c.requires.ends)
