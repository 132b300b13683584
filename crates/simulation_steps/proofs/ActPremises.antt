-- The premises of the law on slices about acts and about what callers keep.
use Rattle.std.proofs.Common.{◌≡◌, ℕ, List, Bool, true, sym, ap, ◌∙◌, subst}
use Rattle.std.specs.Prelude.{Option}
use Rattle.c_tree.specs.declared.program.Program.{Program}
use Rattle.c_language.specs.Programs.{IsWellFormed}
use Rattle.c_meaning.specs.Activations.{executable}
use Rattle.dep_model.specs.Doings.{Doing}
use Rattle.dep_model.specs.SystemGraph.{Analysis, IsAnalysis}
use Rattle.dep_model.specs.VertexOrder.{statement_defines}
use Rattle.dep_model.specs.declared.location.Location.{Location}
use Rattle.simulation.specs.Places.{At}
use Rattle.simulation.specs.Premises.{Acting, Staying}
use Rattle.simulation_locations.specs.Chained.{Counterpart, chained}
use Rattle.simulation_locations.specs.Wanted.{IsWanted}
use Rattle.simulation_steps.specs.Laws.{ActsAreAlike, CallersAreLeft}
use Rattle.simulation_steps.proofs.KeptOutlines.{blocks_go_on}
use Rattle.simulation_steps.proofs.CallersStay.{caller_stays}
use Rattle.simulation_steps.proofs.KeptActs.{performed}
use Rattle.simulation_steps.proofs.TouchedActs.{here}
use Rattle.simulation_steps.proofs.UnkeptActs.{act_left}
use Rattle.simulation_steps.proofs.WantedResults.{result_wanted}
use Rattle.simulation_steps.specs.SlicePairs.{SlicePair, setting_over}

-- for any functions that hold the criterion
pub acting : (pair : SlicePair) (holds : ℕ → Type 0) → Acting (setting_over pair holds)
acting pair holds = record {
  both = λ w x y i act go v b onward agree next keeps there uses is. performed pair holds x agree.reached i act go next w y b onward v agree keeps there uses is;
  alone = λ w x y i act go v l agree next keeps is wanted undefined_ same.
      act_left pair holds x agree.reached i act go next v is l (sym (ap (λ (o : Option Doing). statement_defines pair.original pair.analysis.points x.function o l) (here pair holds x agree.reached i act go next)) ∙ undefined_) (λ g e. result_wanted pair.original pair.analysis pair.numbered pair.analysed pair.well x.function g pair.vertices (go v) (subst (λ (o : Location). IsWanted pair.original pair.analysis pair.vertices o (At x.function (go v))) e wanted)) w y.state agree.blocks same;
}

pub staying : (p : Program) (a : Analysis) (kept : List Bool) (c : Counterpart) (holds : ℕ → Type 0) → IsWellFormed p → IsAnalysis p a → Staying (chained p a kept c holds)
staying p a kept c holds well analysed = record {
  blocks = λ w x x1 n reached leads h. blocks_go_on c.names w (executable p) x x1 n leads h;
  unmodified = λ w x x1 m n above after_ b below l reached leads callers callers1 blocks unmodified same.
      caller_stays p a well analysed c.input c.names w x x1 m above after_ b below l reached leads callers callers1 blocks unmodified n same;
}

pub acts_are_alike : ActsAreAlike
acts_are_alike pair holds = acting pair (λ f. holds f ≡ true)

pub callers_are_left : CallersAreLeft
callers_are_left p a kept c holds well analysed = staying p a kept c (λ f. holds f ≡ true) well analysed
