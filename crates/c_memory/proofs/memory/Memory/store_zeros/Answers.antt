use Rattle.std.proofs.Common.{ℕ, length, ap, ◌∙◌}
use Rattle.c_meaning.specs.declared.value.Place.{Place}
use Rattle.c_memory.specs.Lists.{element_of}
use Rattle.c_memory.proofs.ListLemmas.{zero_turn}
use Rattle.c_memory.proofs.memory.Memory.store_zeros.Goals as goal

pub loop-index-preserved : goal.loop-index-preserved
loop-index-preserved c =
    let is = c.go_to.ensures ∙ ap (λ (b : ℕ). element_of b c.loop-index.index) c.loop-index.invariant.block in
    record {
      stored = zero_turn c.args.at.now.block c.args.element.now c.args.to c.loop-index.index c.zero.result c.go_to.new.element c.loop-index.self c.write.new.self _ c.loop-index-test.true is
          c.zero.ensures c.write.ensures.written c.loop-index.invariant.stored;
      block = ap (λ (p : Place). p.block) is;
      single = ap (λ (p : Place). length p.path) is;
    }
