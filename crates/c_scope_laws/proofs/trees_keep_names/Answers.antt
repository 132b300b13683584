use Rattle.c_scope_laws.proofs.NamedTrees.{kept_by_tree}
use Rattle.c_scope_laws.proofs.trees_keep_names.Goals as goal

pub returns : goal.returns
returns c = λ k raw scope a w at stay x n. kept_by_tree k raw scope a w at stay x n
