use Rattle.std.proofs.Common.{◌≡◌, List, take}
use Rattle.c_tree.specs.declared.statement.Label.{Label}
use Rattle.dep_model.specs.SwitchArms.{has_first, with_labels, AreSeen}
use Rattle.dep_model.proofs.switch_arms.add_all.Given as goal

abbrev pub invariant-loop-label : goal.invariant-loop-label
invariant-loop-label l = record {
  are_seen : (before : List Label) → AreSeen before l.initial.seen → AreSeen (with_labels before (take l.label-index l.labels)) l.seen;
  is_first : (before : List Label) → AreSeen before l.initial.seen → l.first ≡ has_first before (take l.label-index l.labels);
}
