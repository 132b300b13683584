use Rattle.std.proofs.Common.{◌≡◌, ◌++◌, drop}
use Rattle.graph_text.specs.Lines.{member_lines}
use Rattle.graph_text.proofs.vertices.append_members.Given as goal

abbrev pub invariant-loop-number : goal.invariant-loop-number
invariant-loop-number l =
    l.text ++ member_lines l.p l.rows l.l l.number (drop l.number l.set) (drop l.number l.vertices) ≡ l.initial.text ++ member_lines l.p l.rows l.l 0 l.set l.vertices
