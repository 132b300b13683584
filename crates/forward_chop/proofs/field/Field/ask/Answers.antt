use Rattle.std.proofs.Common.{◌⊎◌, ◌||◌, [], ◌∷◌, ◌++◌, get_or, take, sym, subst, List, arith}
use Rattle.std.proofs.lemmas.List.{take_more, take_all}
use Rattle.dep_model.specs.declared.edge.Edge.{Edge}
use Rattle.forward_chop.specs.Fields.{AsksFrom}
use Rattle.forward_chop.specs.Pairs.{HasAsked}
use Rattle.forward_chop.proofs.FieldLaws.{no_edge, asks_nothing, asks_more}
use Rattle.forward_chop.proofs.PairLaws.{asked_none, asked_as, asked_both}
use Rattle.forward_chop.proofs.field.Field.ask.Goals as goal

pub loop-edge-init : goal.loop-edge-init
loop-edge-init c =
    asked_none (AsksFrom c.args.self.now c.args.base [] c.args.exits.now) c.args.wanted.now c.requires.laid (λ x o h. absurd (asks_nothing c.args.self.now c.args.base c.args.exits.now x o h))

pub ask_edge-more-requires-clause-laid : goal.ask_edge-more-requires-clause-laid
ask_edge-more-requires-clause-laid c = c.loop-edge.invariant.laid

pub loop-edge-preserved : goal.loop-edge-preserved
loop-edge-preserved c =
    let f = c.args.self.now in
    let x = c.args.exits.now in
    let es = c.args.edges.now in
    let n = c.loop-edge.edge-index in
    let e = get_or es n no_edge in
    let start = c.args.wanted.now in
    let new = c.ask_edge-more.new.wanted in
    let grows = c.loop-edge.grows || c.ask_edge-more.result in
    let P = AsksFrom f c.args.base (take n es) x in
    let Q = AsksFrom f c.args.base (e ∷ []) x in
    let both = asked_both P Q start c.loop-edge.wanted new c.loop-edge.grows c.ask_edge-more.result c.loop-edge.invariant c.ask_edge-more.ensures in
    let more = asked_as (λ y o. P y o ⊎ Q y o) (AsksFrom f c.args.base (take n es ++ e ∷ []) x) start new grows (asks_more f c.args.base (take n es) (e ∷ []) x) both in
    subst (λ (k : List Edge). HasAsked (AsksFrom f c.args.base k x) start new grows) (sym (take_more es n no_edge c.loop-edge-test.true)) more

pub returns : goal.returns
returns c =
    let es = c.args.edges.now in
    let n = c.loop-edge.edge-index in
    let ended = c.loop-edge-test.false in
    subst (λ (k : List Edge). HasAsked (AsksFrom c.args.self.now c.args.base k c.args.exits.now) c.args.wanted.now c.loop-edge.wanted c.loop-edge.grows) (take_all n es (omega (arith, ended))) c.loop-edge.invariant
