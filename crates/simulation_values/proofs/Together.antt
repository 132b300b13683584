-- What a program and its slice do together, step by step, on an input.
use Rattle.std.specs.Prelude.{ℕ}
use Rattle.simulation.specs.Premises.{Staying, Acting, Moving, Entering, Returning, Beginning}
use Rattle.simulation_steps.specs.SlicePairs.{SlicePair, setting_over}

-- acts, moves, and the beginnings and ends of calls leave alike what is wanted, and so does the beginning of both runs, whatever functions
-- are said to hold the criterion
pub record GoTogether (pair : SlicePair) (holds : ℕ → Type 0) : Type 0 where
  pub staying : Staying (setting_over pair holds)
  pub acting : Acting (setting_over pair holds)
  pub moving : Moving (setting_over pair holds)
  pub entering : Entering (setting_over pair holds)
  pub returning : Returning (setting_over pair holds)
  pub beginning : Beginning (setting_over pair holds)
