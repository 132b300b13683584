use Rattle.std.proofs.Common.{◌≡◌, ◌++◌, drop}
use Rattle.completion.specs.NameRules.{rules_from, name_rules}
use Rattle.completion.proofs.rules.add_names.Given as goal

abbrev pub invariant-loop-vertex : goal.invariant-loop-vertex
invariant-loop-vertex l = record {
  rules_are : l.rules.items ++ rules_from l.p l.vertices l.number (drop l.vertex-index l.vertices) ≡ l.fn.rules.items ++ name_rules l.p l.vertices;
  number_is : l.number ≡ l.vertex-index;
}
