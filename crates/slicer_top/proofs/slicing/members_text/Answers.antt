use Rattle.std.proofs.Common.{List, sym, ap, subst, ◌∙◌}
use Rattle.std.proofs.lemmas.Result.{IfOk-weaker}
use Rattle.dep_model.specs.declared.location.Location.{Location}
use Rattle.graph_text.specs.Lines.{members_words}
use Rattle.slicer_top.specs.Graphs.{IsMembersText}
use Rattle.slicer_top.specs.Slices.{IsOneText}
use Rattle.slicer_top.proofs.slicing.members_text.Goals as goal

pub returns : goal.returns
returns c =
    let p = c.args.engine.now in
    let line = c.args.criterion.line in
    let set = c.in_ok-set.set in
    let is = c.in_ok-text.ensures ∙ ap (λ q. members_words q c.locations.result.now c.graph.result.now set) c.program.ensures
    ∙ ap (λ (ls : List Location). members_words p ls c.graph.result.now set) c.locations.ensures in
    let whole : IsMembersText p line c.in_ok-text.text = record { graph = c.graph.result.now; is_graph = c.graph.ensures.graph; reached = set; are_members = c.in_ok-set.ensures.members; is = is } in
    IfOk-weaker c.alone.result _ _ (λ texts alone. subst (IsOneText (IsMembersText p line)) (sym alone) whole) c.alone.ensures
