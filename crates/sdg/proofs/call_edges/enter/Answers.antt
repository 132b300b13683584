use Rattle.std.proofs.Common.{◌≡◌, get_or, slice_get, Some, sym, ap, ◌∙◌, arith}
use Rattle.std.specs.declared.alloc.Global.{Global}
use Rattle.std.specs.declared.vec.Vec.{Vec}
use Rattle.std.proofs.lemmas.Bool.Decides.{not_from_Decides}
use Rattle.std.proofs.lemmas.Option.{slice_get-get_or}
use Rattle.dep_model.specs.declared.edge.Edge.{Edge}
use Rattle.dep_model.specs.declared.vertex.Vertex.{Vertex}
use Rattle.dep_model.specs.declared.vertex.VertexKind.TheVariants.{Entry, FormalIn}
use Rattle.sdg.specs.SiteEdges.{Adds}
use Rattle.sdg.proofs.ActualLaws.{EntersAt, enters_one, enters_none, enters_all}
use Rattle.sdg.proofs.AddLemmas.{turns_more, turns_end}
use Rattle.sdg.proofs.KindTests.{same_kind, is_formal_in_of}
use Rattle.sdg.proofs.call_edges.enter.Goals as goal
use Rattle.sdg.proofs.call_edges.enter.Goals.{then-eq+in_ok-push, else-eq}

abbrev none : Vertex
none = record { function = 0; kind = Entry }

pub loop-formal-preserved : goal.loop-formal-preserved
loop-formal-preserved c =
    let l = c.loop-formal in
    let vs = c.args.vertices.now in
    let n = get_or c.args.formals.now l.formal-index 0 in
    let x = get_or vs n none in
    let at : slice_get vs n ≡ Some x = slice_get-get_or vs n none (c.requires.within l.formal-index 0 c.loop-formal-test.true) in
    let told : c.eq.result ≡ same_kind x.kind (FormalIn c.args.slot) = c.eq.ensures in
    let turn : Adds l.edges.items c.if-eq.edges.items (EntersAt vs c.args.slot c.args.actual c.args.call n) = elim c.if-eq.branch [
      | then-eq+in_ok-push w ↦
          enters_one vs c.args.slot c.args.actual c.args.call n x at l.edges.items c.if-eq.edges.items ((is_formal_in_of x.kind c.args.slot).0 (sym told ∙ w.if-eq.true))
          (ap (λ (v : Vec Edge Global). v.items) w.edges-is ∙ w.in_ok-push.ensures.items)
      | else-eq w ↦
          enters_none vs c.args.slot c.args.actual c.args.call n x at l.edges.items c.if-eq.edges.items (not_from_Decides (same_kind x.kind (FormalIn c.args.slot)) (is_formal_in_of x.kind c.args.slot) (sym told ∙ w.if-eq.false))
          (ap (λ (v : Vec Edge Global). v.items) w.edges-is)
    ] in
    turns_more (EntersAt vs c.args.slot c.args.actual c.args.call) c.args.formals.now c.args.edges.now.items l.formal-index 0 l.edges.items c.if-eq.edges.items c.loop-formal-test.true l.invariant turn

pub returns : goal.returns
returns c =
    let l = c.loop-formal in
    enters_all c.args.vertices.now c.args.formals.now c.args.slot c.args.actual c.args.call c.args.edges.now.items l.edges.items
    (turns_end (EntersAt c.args.vertices.now c.args.slot c.args.actual c.args.call) c.args.formals.now c.args.edges.now.items l.formal-index l.edges.items (omega (arith, c.loop-formal-test.false)) l.invariant)
