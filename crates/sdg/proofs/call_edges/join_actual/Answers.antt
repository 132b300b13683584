use Rattle.std.proofs.Common.{◌≡◌, ◌<◌, List, ℕ, All, length, get_or, slice_get, Some, refl, sym, ap, ◌∙◌, subst, arith}
use Rattle.std.proofs.lemmas.Bool.Decides.{nat_tests}
use Rattle.std.proofs.lemmas.Option.{slice_get-get_or}
use Rattle.dep_model.specs.declared.vertex.Vertex.{Vertex}
use Rattle.dep_model.specs.declared.vertex.VertexKind.TheVariants.{Entry, ActualIn, ActualOut}
use Rattle.sdg.specs.declared.vertex_lists.Grouping.TheVariants.{FormalIns, FormalOuts}
use Rattle.sdg.specs.SiteEdges.{Adds, Enters, Leaves}
use Rattle.sdg.proofs.ActualLaws.{no_actual, actual_in, actual_out}
use Rattle.sdg.proofs.PlaceLaws.{listed_within, listed_actual_in, listed_actual_out}
use Rattle.sdg.proofs.call_edges.join_actual.Goals as goal

abbrev none : Vertex
none = record { function = 0; kind = Entry }

pub enter-requires : goal.enter-requires
enter-requires c = record {
  within = subst (λ (xs : List ℕ). All (λ v. v < length c.args.vertices.now) xs) (sym c.at.ensures)
      (listed_within FormalIns c.args.vertices.now c.args.places.now.formal_ins c.args.site.callee c.requires.places.formal_ins_are);
}

pub leave-requires : goal.leave-requires
leave-requires c = record {
  within = subst (λ (xs : List ℕ). All (λ v. v < length c.args.vertices.now) xs) (sym c.at-in-ActualOut.ensures)
      (listed_within FormalOuts c.args.vertices.now c.args.places.now.formal_outs c.args.site.callee c.requires.places.formal_outs_are);
}

pub returns-in_ok-enter-in-ActualIn : goal.returns-in_ok-enter-in-ActualIn
returns-in_ok-enter-in-ActualIn c =
    let vs = c.args.vertices.now in
    let t = c.args.places.now in
    let site = c.args.site in
    let u = c.args.actual in
    let x = get_or vs u none in
    let at : slice_get vs u ≡ Some x = slice_get-get_or vs u none c.requires.within in
    let test = c.if-vertex-site.false in
    let inside : x.function ≡ site.function = grind (arith, nat_tests, test) in
    let slot = c.in-ActualIn.slot in
    let kind : x.kind ≡ ActualIn c.in-ActualIn.field-0 slot = c.in-ActualIn.is in
    let statement = listed_actual_in vs t.calls site.statement u c.in-ActualIn.field-0 x slot c.requires.places.calls_are c.requires.of_statement at kind in
    let adds = subst (λ (xs : List ℕ). Adds c.args.edges.now.items c.enter.new.edges.items (Enters vs xs slot u c.args.call)) c.at.ensures c.in_ok-enter-in-ActualIn.ensures in
    actual_in vs t site c.args.call u x c.requires.places at c.args.edges.now.items c.enter.new.edges.items slot inside (kind ∙ ap (λ i. ActualIn i slot) statement) adds

pub returns-in_ok-leave-in-ActualOut : goal.returns-in_ok-leave-in-ActualOut
returns-in_ok-leave-in-ActualOut c =
    let vs = c.args.vertices.now in
    let t = c.args.places.now in
    let site = c.args.site in
    let u = c.args.actual in
    let x = get_or vs u none in
    let at : slice_get vs u ≡ Some x = slice_get-get_or vs u none c.requires.within in
    let test = c.if-vertex-site.false in
    let inside : x.function ≡ site.function = grind (arith, nat_tests, test) in
    let slot = c.in-ActualOut.slot in
    let kind : x.kind ≡ ActualOut c.in-ActualOut.field-0 slot = c.in-ActualOut.is in
    let statement = listed_actual_out vs t.calls site.statement u c.in-ActualOut.field-0 x slot c.requires.places.calls_are c.requires.of_statement at kind in
    let adds = subst (λ (xs : List ℕ). Adds c.args.edges.now.items c.leave.new.edges.items (Leaves vs xs slot u c.args.call)) c.at-in-ActualOut.ensures c.in_ok-leave-in-ActualOut.ensures in
    actual_out vs t site c.args.call u x c.requires.places at c.args.edges.now.items c.leave.new.edges.items slot inside (kind ∙ ap (λ i. ActualOut i slot) statement) adds

pub returns-in_default : goal.returns-in_default
returns-in_default c =
    let vs = c.args.vertices.now in
    let u = c.args.actual in
    let x = get_or vs u none in
    let at : slice_get vs u ≡ Some x = slice_get-get_or vs u none c.requires.within in
    no_actual vs c.args.places.now c.args.site c.args.call u x c.requires.places at c.args.edges.now.items c.args.edges.now.items c.in_default.not-ActualIn c.in_default.not-ActualOut refl
