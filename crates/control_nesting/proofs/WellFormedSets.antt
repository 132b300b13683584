-- The laws of control and of completions in well-formed programs: there statements have the numbers from 0 on, and each arm of each switch is taken.
use Rattle.control_nesting.specs.Laws.{StandingIsControlled, EntriesReachAll, ClosedIsNested, ClosedHoldsEntries, ClosedHasControllers, ClosedKeepsMain, CompletedIsProjectable}
use Rattle.control_nesting.proofs.ClosedSets.{closed_nested, closed_holds, has_controllers}
use Rattle.control_nesting.proofs.Completions.{completed_projectable, main_kept}
use Rattle.control_nesting.proofs.Controlled.{standing_controlled, vertex_reached}
use Rattle.control_nesting.proofs.TakenLines.{well_formed_taken}
use Rattle.numbered_texts.proofs.NumbersButLines.{statements_numbered}

pub standing_is_controlled : StandingIsControlled
standing_is_controlled p a outer inner well h = standing_controlled p a (statements_numbered p well) (well_formed_taken p well) outer inner h

pub entries_reach : EntriesReachAll
entries_reach p a f v well h = vertex_reached p a (well_formed_taken p well) f v h

pub closed_is_nested : ClosedIsNested
closed_is_nested p a s well closed = closed_nested p a s (well_formed_taken p well) closed (statements_numbered p well)

pub closed_has_entry : ClosedHoldsEntries
closed_has_entry p a s f v well closed member held = closed_holds p a s (well_formed_taken p well) closed f v member held

pub closed_has_controllers : ClosedHasControllers
closed_has_controllers p a edges s are closed = has_controllers p a s edges are closed

pub closed_keeps_main : ClosedKeepsMain
closed_keeps_main p vs edges s closed = main_kept p vs edges s closed

pub completed_is_projectable : CompletedIsProjectable
completed_is_projectable p a edges set reached kept well are long reach c = completed_projectable p a edges set reached kept (statements_numbered p well) are long reach c
