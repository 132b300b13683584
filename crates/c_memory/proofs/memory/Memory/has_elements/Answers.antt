use Rattle.std.proofs.Common.{ℕ, length, ap, ◌∙◌}
use Rattle.c_meaning.specs.declared.value.Place.{Place}
use Rattle.c_memory.specs.Lists.{element_of}
use Rattle.c_memory.proofs.ListLemmas.{element_turn}
use Rattle.c_memory.proofs.memory.Memory.has_elements.Goals as goal

pub loop-index-preserved : goal.loop-index-preserved
loop-index-preserved c =
    let is = c.go_to.ensures ∙ ap (λ (b : ℕ). element_of b c.loop-index.index) c.loop-index.invariant.block in
    record {
      cells = element_turn c.args.self.now c.args.at.now.block c.args.count c.loop-index.index c.go_to.new.element c.has_cell.result _ c.loop-index-test.true is c.has_cell.ensures
          c.if-not-has_cell.false c.loop-index.invariant.cells;
      block = ap (λ (p : Place). p.block) is;
      single = ap (λ (p : Place). length p.path) is;
    }
