-- Projections to sets that can be projected: they are well formed, with the own words of each kept statement, and follow the program. With
-- all that reaches a criterion they give the same values there.
use Rattle.std.specs.Prelude.{ℕ, List, Bool, IsTrue}
use Rattle.bit_rows.specs.Sets.{has}
use Rattle.c_tree.specs.declared.program.Program.{Program}
use Rattle.c_tree.specs.Unlined.{SameButLines}
use Rattle.c_language.specs.Programs.{IsWellFormed}
use Rattle.control_nesting.proofs.WellFormedSets.{closed_has_controllers, closed_is_nested}
use Rattle.dep_model.specs.Criteria.{criterion_of}
use Rattle.dep_model.specs.SystemGraph.{Analysis, vertices_of}
use Rattle.dep_model.specs.Words.{ReachesAny}
use Rattle.kept_texts.proofs.WellFormedProjections.{projection_well_formed, projection_words}
use Rattle.simulation_values.proofs.TextGlobals.{globals_are_own}
use Rattle.own_words.specs.OwnWords.{KeepsWords}
use Rattle.simulation_values.proofs.Values.{projections_same_values, projection_follows}
use Rattle.projection.specs.KeptVertices.{kept_of}
use Rattle.projection_laws.specs.Nested.{IsNested}
use Rattle.simulation_values.specs.SameValues.{StandFor, HasSameValues}
use Rattle.slice_engine.specs.Laws.{CanBeProjected, SlicesFollowOriginals}
use Rattle.slice_engine.specs.Slice.{keeps, sliced}

-- ---- programs of every form

module _ (p : Program) (a : Analysis) (s : List Bool) (well : IsWellFormed p) (k : CanBeProjected p a s) where
  pub projected_nested : IsNested (keeps p a s) p
  projected_nested = closed_is_nested p a s well (closed_has_controllers p a k.edges s k.are_edges k.projectable.closed)

  pub projected_well_formed : IsWellFormed (sliced p a s)
  projected_well_formed = projection_well_formed p a k.edges s well k.are_edges k.projectable

  pub projected_words : KeepsWords p (kept_of s (vertices_of p a) p)
  projected_words = projection_words p a k.edges s well k.are_edges k.projectable

-- ---- values

pub projected_values :
    (p q : Program) (a : Analysis) (s : List Bool) (set ranks : ℕ → Bool) → IsWellFormed p → (k : CanBeProjected p a s)
    → ((v : ℕ) → ReachesAny k.edges (criterion_of set (vertices_of p a)) v → IsTrue (has s v)) → StandFor (keeps p a s) set ranks → SameButLines q (sliced p a s)
    → HasSameValues (keeps p a s) set ranks p q
projected_values p q a s set ranks well k reach stand same =
    projections_same_values p q a k.edges s set ranks well (globals_are_own p well) k.is_analysis k.are_edges k.projectable same reach stand

-- ---- what both do

pub projected_follows : SlicesFollowOriginals
projected_follows p q a s input well k same =
    projection_follows p q a k.edges s well (globals_are_own p well) k.is_analysis k.are_edges k.projectable same input
