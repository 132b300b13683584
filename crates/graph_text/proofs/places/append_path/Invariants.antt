use Rattle.std.proofs.Common.{◌≡◌, ◌++◌, drop}
use Rattle.graph_text.specs.Places.{path_words}
use Rattle.graph_text.proofs.places.append_path.Given as goal

abbrev pub invariant-loop-part : goal.invariant-loop-part
invariant-loop-part l = l.text ++ path_words l.p l.reached (drop l.part-index l.path) ≡ l.initial.text ++ path_words l.p l.fn.shape l.path
