use Rattle.std.proofs.Common.{◌∙◌, Bool, false, List, length, sym, ap, subst}
use Rattle.std.proofs.lemmas.Bool.{false≢true}
use Rattle.std.proofs.lemmas.List.{length-replicate}
use Rattle.bit_rows.specs.Sets.{has}
use Rattle.bit_rows.proofs.SetLemmas.{has-empty}
use Rattle.dep_model.specs.declared.edge.Edge.{Edge}
use Rattle.forward_chop.specs.Fields.{AsksFrom}
use Rattle.forward_chop.specs.Pairs.{HasAsked}
use Rattle.forward_chop.proofs.BegunLaws.{begun_is}
use Rattle.forward_chop.proofs.begin.begin_chop.Goals as goal

pub returns : goal.returns
returns c =
    let g = c.args.g.now in
    let exits = c.args.index.now.exits in
    let f = c.args.whole.now in
    let n = length c.args.into.now in
    let cleared = c.clear-2.new.self in
    let one = subst (λ (es : List Edge). HasAsked (AsksFrom f 0 es exits) cleared c.ask.new.wanted c.ask.result) c.as_slice.ensures c.ask.ensures in
    let two = subst (λ (es : List Edge). HasAsked (AsksFrom f c.args.size es exits) c.ask.new.wanted c.ask-2.new.wanted c.ask-2.result) c.as_slice-2.ensures c.ask-2.ensures in
    begun_is g c.args.index.now.starts exits c.requires.index f c.args.wanted.now cleared c.ask.new.wanted c.ask-2.new.wanted c.args.into.now c.clear.new.self c.collect.new.into c.collect-2.new.into c.ask.result c.ask-2.result c.args.size c.requires.size_is
    c.requires.all c.requires.covered c.clear-2.ensures one two (λ v h. false≢true (sym (has-empty n v) ∙ ap (λ (s : List Bool). has s v) (sym c.clear.ensures) ∙ h)) c.collect.ensures.exact c.collect-2.ensures.exact
    (c.collect-2.ensures.size ∙ c.collect.ensures.size ∙ ap length c.clear.ensures ∙ length-replicate n false ∙ c.requires.size)
