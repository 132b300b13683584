-- Rules that go back along edges.
use Rattle.std.specs.Prelude.{ℕ}
use Rattle.rule_closure.specs.declared.closure.Rule.{Rule}

-- a rule with one premise
abbrev pub one_premise : ℕ → ℕ → Rule
one_premise j k = record { first = j; second = j; gives = k }
