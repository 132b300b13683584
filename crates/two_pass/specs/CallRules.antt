-- The rules that go back over a call as a whole, where the function called has the matching fact.
use Rattle.std.specs.Prelude.{ℕ, ◌+◌, if◌then◌else◌, List, [], ◌∷◌, flat_map}
use Rattle.rule_closure.specs.declared.closure.Rule.{Rule}
use Rattle.dep_model.specs.declared.edge.Edge.{Edge}
use Rattle.dep_model.specs.declared.edge.Label.{Label}
use Rattle.dep_model.specs.declared.edge.Label.TheVariants.{Control, Flow, Call, In, Out}
use Rattle.matched_paths.specs.Places.{Places, holds_fact}
use Rattle.matched_paths.specs.Backward.{one_premise}
use Rattle.matched_paths.specs.EdgeGroups.{leaving}

-- the rules of the call that `enter` enters and `leave` leaves: in both passes, where the words hold the fact between them
abbrev pub crossing_rules : ℕ → List ℕ → Places → Edge → Edge → List Rule
crossing_rules n ws t enter leave =
    if holds_fact t ws enter.to leave.from then one_premise leave.to enter.from ∷ one_premise (n + leave.to) (n + enter.from) ∷ [] else []

abbrev pub rules_by : Label → ℕ → List Edge → List ℕ → Places → Edge → List Rule
rules_by Control n edges ws t enter = []
rules_by Flow n edges ws t enter = []
rules_by (Call c) n edges ws t enter = []
rules_by (In c) n edges ws t enter = flat_map (crossing_rules n ws t enter) (flat_map (leaving c) edges)
rules_by (Out c) n edges ws t enter = []

-- the rules of the calls that an edge enters as an argument
abbrev pub call_rules : ℕ → List Edge → List ℕ → Places → Edge → List Rule
call_rules n edges ws t enter = rules_by enter.label n edges ws t enter
