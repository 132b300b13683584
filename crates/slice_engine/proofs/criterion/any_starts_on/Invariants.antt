use Rattle.std.proofs.Common.{◌≡◌, ◌==◌, drop}
use Rattle.std.specs.List.{list_any}
use Rattle.c_tree.specs.declared.numbered.Start.{Start}
use Rattle.slice_engine.proofs.criterion.any_starts_on.Given as goal

abbrev pub invariant-loop-start : goal.invariant-loop-start
invariant-loop-start l =
    list_any (λ (s : Start). s.line == l.line) (drop l.start-index l.starts) ≡ list_any (λ (s : Start). s.line == l.line) l.starts
