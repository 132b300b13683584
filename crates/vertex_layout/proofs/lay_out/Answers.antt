-- The vertices find their statements, since these are numbered.
use Rattle.std.proofs.Common.{sym, ◌∙◌, subst}
use Rattle.dep_model.specs.Doings.{program_doings}
use Rattle.dep_model.specs.LocationRows.{effects_of}
use Rattle.vertex_layout.specs.OwnStatements.{done}
use Rattle.vertex_layout.specs.RowWork.{AreFound}
use Rattle.vertex_layout.proofs.FoundVertices.{vertices_found}
use Rattle.vertex_layout.proofs.lay_out.Goals as goal

pub find-requires-clause-found : goal.find-requires-clause-found
find-requires-clause-found c =
    let p = c.args.p.now in
    let e = effects_of p c.args.effects.now in
    subst (AreFound p (done (program_doings p))) (sym (c.as_slice.ensures.value ∙ c.in_ok-vertices.ensures.vertices)) (vertices_found p e p.statements c.requires.numbered)
