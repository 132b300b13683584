use Rattle.std.proofs.Common.{◌<◌, ◌∙◌, All, List, sym, subst}
use Rattle.dep_model.specs.declared.edge.Edge.{Edge}
use Rattle.forward_chop.specs.Outs.{PairsFrom}
use Rattle.forward_chop.proofs.PartLaws.{covers_pairs, edges_to, exits_few}
use Rattle.forward_chop.proofs.ready.wanted_of.Goals as goal

pub outs_of-requires-clause-inside : goal.outs_of-requires-clause-inside
outs_of-requires-clause-inside c =
    let n = c.len-size.result in
    subst (All (λ (e : Edge). e.to < n)) (sym c.as_slice.ensures) (edges_to c.args.g.now c.requires.shaped n c.len-size.ensures)

pub outs_of-requires-clause-few : goal.outs_of-requires-clause-few
outs_of-requires-clause-few c = λ k. exits_few c.args.g.now c.args.index.now.starts c.args.index.now.exits c.requires k

pub returns-clause-covered : goal.returns-clause-covered
returns-clause-covered c =
    let g = c.args.g.now in
    let outs = c.in_ok-outs.outs.items in
    covers_pairs g c.args.index.now.starts c.args.index.now.exits c.in_ok-wanted.wanted outs c.requires c.in_ok-wanted.ensures.same (c.in_ok-outs.ensures.long ∙ c.len-size.ensures)
    (λ x o p. c.in_ok-outs.ensures.all x o (subst (λ (es : List Edge). PairsFrom es c.args.index.now.exits x o) (sym c.as_slice.ensures) p))
