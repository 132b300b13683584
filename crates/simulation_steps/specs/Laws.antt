-- What the law on slices asks of acts and of calls, of a program and of its slice.
use Rattle.std.specs.Prelude.{◌≡◌, ℕ, List, Bool, true}
use Rattle.c_tree.specs.declared.program.Program.{Program}
use Rattle.c_language.specs.Programs.{IsWellFormed}
use Rattle.dep_model.specs.SystemGraph.{Analysis, IsAnalysis}
use Rattle.simulation.specs.Premises.{Acting, Staying, Entering, Returning}
use Rattle.simulation_locations.specs.Chained.{Counterpart, chained}
use Rattle.simulation_steps.specs.SlicePairs.{SlicePair, setting_over}

-- kept acts come to the same, and others leave what is wanted
abbrev pub ActsAreAlike : Type 0
ActsAreAlike = (pair : SlicePair) (holds : ℕ → Bool) → Acting (setting_over pair (λ f. holds f ≡ true))

-- what the original does alone leaves blocks that stand for blocks, and to callers that wait what their callees don't modify, whatever
-- the slice is
abbrev pub CallersAreLeft : Type 0
CallersAreLeft =
    (p : Program) (a : Analysis) (kept : List Bool) (c : Counterpart) (holds : ℕ → Bool) → IsWellFormed p → IsAnalysis p a
    → Staying (chained p a kept c (λ f. holds f ≡ true))

-- a kept call and its callee begin together, and one that isn't kept leaves what its caller sees
abbrev pub CallsBeginTogether : Type 0
CallsBeginTogether = (pair : SlicePair) (holds : ℕ → Bool) → Entering (setting_over pair (λ f. holds f ≡ true))

-- they end together: the callee's blocks go, the caller's variables are named again, and the result is stored in both, or dropped by the
-- slice; what returns from a call that the slice hasn't leaves what the caller sees
abbrev pub CallsEndTogether : Type 0
CallsEndTogether = (pair : SlicePair) (holds : ℕ → Bool) → Returning (setting_over pair (λ f. holds f ≡ true))
