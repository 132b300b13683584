use Rattle.std.proofs.Common.{◌≡◌, drop}
use Rattle.std.specs.List.{list_any}
use Rattle.bit_rows.specs.Sets.{has}
use Rattle.c_tree.specs.declared.statement.Statement.{Statement}
use Rattle.projection.specs.KeptVertices.{returns}
use Rattle.projection.proofs.results.returns_among.Given as goal

abbrev pub invariant-loop-statement : goal.invariant-loop-statement
invariant-loop-statement l =
    list_any (λ (s : Statement). returns (has l.parts.statements.items) s) (drop l.statement-index l.list) ≡ list_any (λ (s : Statement). returns (has l.parts.statements.items) s) l.list
