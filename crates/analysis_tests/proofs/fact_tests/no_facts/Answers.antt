use Rattle.std.proofs.Common.{ℕ, ◌*◌, ◌+◌, List, replicate, sym, ◌∙◌, subst}
use Rattle.std.proofs.lemmas.List.{length-replicate}
use Rattle.dep_model.specs.Facts.{AreFactWords}
use Rattle.summary_edges.proofs.Bits.{no_bits}
use Rattle.analysis_tests.proofs.fact_tests.no_facts.Goals as goal

pub returns : goal.returns
returns c =
    let n = c.args.g.now.fact_words in
    subst (AreFactWords c.args.g.now) (sym (c.from_vec.ensures ∙ c.in_ok-words.ensures.items_if_clones_equal (λ y h. h))) (record {
      long = length-replicate {A = ℕ} n 0;
      clean = λ r x i has at past inside. no_bits n (64 * r.word + i);
    })
