use Rattle.std.proofs.Common.{◌≡◌, ℕ, ◌-◌, [], length, ap, ◌∙◌, arith}
use Rattle.c_meaning.specs.declared.value.Place.{Place}
use Rattle.c_meaning.specs.Acts.{stored, list_stores}
use Rattle.c_meaning.specs.Values.{whole}
use Rattle.c_memory.specs.Lists.{item_stores}
use Rattle.c_memory.proofs.ListLemmas.{too_long, no_cells, all_fit, all_stored}
use Rattle.c_memory.proofs.memory.Memory.store_list.Goals as goal

pub returns-then-count-length-clause-answer : goal.returns-then-count-length-clause-answer
returns-then-count-length-clause-answer c =
    let size : c.len-count.result ≡ length c.args.items.items = omega (arith, c.len-count.ensures, c.args.items.ok.0) in
    too_long c.args.self.now c.args.block c.args.element.now c.args.length c.len-count.result c.args.items.items size c.if-count-length.true

pub returns-then-not-has_elements-clause-answer : goal.returns-then-not-has_elements-clause-answer
returns-then-not-has_elements-clause-answer c =
    no_cells c.args.self.now c.args.block c.args.element.now c.args.length c.args.items.items c.in_ok-at.at c.has_elements.result c.in_ok-at.ensures c.has_elements.ensures.answer
    c.if-not-has_elements.true

pub returns-clause-answer : goal.returns-clause-answer
returns-clause-answer c =
    let size : c.len-count.result ≡ length c.args.items.items = omega (arith, c.len-count.ensures, c.args.items.ok.0) in
    all_fit c.args.self.now c.args.block c.args.element.now c.args.length c.len-count.result c.args.items.items c.in_ok-at.at c.has_elements.result size c.if-count-length.false
    c.in_ok-at.ensures c.has_elements.ensures.answer c.if-not-has_elements.false

pub returns-clause-stored : goal.returns-clause-stored
returns-clause-stored c =
    let size : c.len-count.result ≡ length c.args.items.items = omega (arith, c.len-count.ensures, c.args.items.ok.0) in
    let few = c.if-count-length.false in
    let here = c.has_elements.ensures.block ∙ ap (λ (p : Place). p.block) c.in_ok-at.ensures in
    let t = c.args.element.now in
    all_stored c.args.block t c.args.length c.len-count.result c.args.items.items c.args.self.now c.store_items.new.self c.store_zeros.new.self (omega (arith, size, few)) size
    (c.store_items.ensures.stored ∙ ap (λ (b : ℕ). stored (item_stores b 0 c.args.items.items) c.args.self.now) here)
    (c.store_zeros.ensures
    ∙ ap (λ (b : ℕ). stored (list_stores (whole b) t c.len-count.result (c.args.length - c.len-count.result) []) c.store_items.new.self) (c.store_items.ensures.block ∙ here))
