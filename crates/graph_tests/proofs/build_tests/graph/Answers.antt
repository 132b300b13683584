use Rattle.std.proofs.Common.{rules, ◌≤◌, length}
use Rattle.graph_tests.proofs.FewWords.{few_fact_words}
use Rattle.graph_tests.proofs.build_tests.graph.Goals as goal

pub build-requires-clause-few_words : goal.build-requires-clause-few_words
build-requires-clause-few_words g c =
    let short : length c.skeleton-made.result.vertices ≤ 500 = search rules in
    few_fact_words c.skeleton-made.result.vertices short
