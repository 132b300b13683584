-- What a set keeps of a well-formed program hangs together, since its statements are numbered and its calls fit.
use Rattle.std.proofs.Common.{List, Bool}
use Rattle.c_tree.specs.declared.program.Program.{Program}
use Rattle.c_language.specs.Programs.{IsWellFormed}
use Rattle.dep_model.specs.Doings.{program_doings}
use Rattle.dep_model.specs.SystemGraph.{Analysis, vertices_of}
use Rattle.numbered_texts.proofs.NumbersButLines.{statements_numbered}
use Rattle.projection.specs.KeptVertices.{kept_of}
use Rattle.shaped_graphs.proofs.NumberLaws.{numbered_apart}
use Rattle.shaped_graphs.proofs.ShapedGraphs.{fit_of}
use Rattle.hanging_sets.specs.Hanging.{HangsTogether}
use Rattle.hanging_sets.specs.Laws.{CanProject}
use Rattle.hanging_sets.specs.OwnParts.{HasOwnParts}
use Rattle.hanging_sets.proofs.Hanging.{hangs}

pub well_formed_hang : (p : Program) (a : Analysis) (set : List Bool) → IsWellFormed p → HasOwnParts p → CanProject p a set → HangsTogether p (kept_of set (vertices_of p a) p)
well_formed_hang p a set well own can = hangs p a set (numbered_apart (program_doings p) p.statements (statements_numbered p well)) (fit_of p well) own can
