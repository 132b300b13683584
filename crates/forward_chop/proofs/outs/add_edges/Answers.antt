use Rattle.std.proofs.Common.{[], ◌∷◌, ◌++◌, get_or, take, sym, subst, List, arith}
use Rattle.std.proofs.lemmas.List.{take_more, take_all}
use Rattle.dep_model.specs.declared.edge.Edge.{Edge}
use Rattle.forward_chop.specs.Outs.{HaveWidened, PairsFrom}
use Rattle.forward_chop.proofs.FieldLaws.{no_edge}
use Rattle.forward_chop.proofs.OutLaws.{widened_none, widened_both, from_none, from_more}
use Rattle.forward_chop.proofs.outs.add_edges.Goals as goal

pub loop-edge-init : goal.loop-edge-init
loop-edge-init c = widened_none (PairsFrom [] c.args.exits.now) c.args.outs.now c.requires.order (from_none c.args.exits.now)

pub loop-edge-preserved : goal.loop-edge-preserved
loop-edge-preserved c =
    let x = c.args.exits.now in
    let es = c.args.edges.now in
    let n = c.loop-edge.edge-index in
    let e = get_or es n no_edge in
    let start = c.args.outs.now in
    let more = widened_both (PairsFrom (take n es) x) (PairsFrom (e ∷ []) x) (PairsFrom (take n es ++ e ∷ []) x) start c.loop-edge.outs c.add_edge.new.outs (from_more (take n es) (e ∷ []) x) c.loop-edge.invariant c.add_edge.ensures in
    subst (λ (k : List Edge). HaveWidened (PairsFrom k x) start c.add_edge.new.outs) (sym (take_more es n no_edge c.loop-edge-test.true)) more

pub returns : goal.returns
returns c =
    let es = c.args.edges.now in
    let n = c.loop-edge.edge-index in
    let ended = c.loop-edge-test.false in
    subst (λ (k : List Edge). HaveWidened (PairsFrom k c.args.exits.now) c.args.outs.now c.loop-edge.outs) (take_all n es (omega (arith, ended))) c.loop-edge.invariant
