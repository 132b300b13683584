use Rattle.std.proofs.Common.{◌≡◌, ℕ, ◌+◌, ◌<◌, length, get_or}
use Rattle.dep_model.specs.declared.skeleton.Pair.{Pair}
use Rattle.reaching_defs.specs.Stretches.{IsLastFrom}
use Rattle.reaching_defs.proofs.successors.index.Given as goal

abbrev pub invariant-loop-e : goal.invariant-loop-e
invariant-loop-e l = record {
  heads_are : (u : ℕ) → u < length l.heads → IsLastFrom l.pairs (l.base + u) l.e (get_or l.heads u 0);
  nexts_are : (e : ℕ) (x : Pair) → e < l.e → get_or l.pairs e x ≡ x → IsLastFrom l.pairs x.from e (get_or l.nexts e 0);
}
