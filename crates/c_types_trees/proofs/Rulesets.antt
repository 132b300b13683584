-- The sets of equations that the functions of this crate are proved by.
use Rattle.std.proofs.lemmas.List.{append_assoc}
use Rattle.c_types_base.proofs.TreeLemmas.{trees_of}
use Rattle.c_language.proofs.RawWordLemmas.{words_of}
use Rattle.c_types_trees.proofs.ShapeLemmas.{shapes_of}

pub ruleset words = (words_of, append_assoc)

pub ruleset trees = (trees_of)

pub ruleset shapes = (shapes_of)
