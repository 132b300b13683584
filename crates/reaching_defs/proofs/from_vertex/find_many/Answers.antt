use Rattle.std.proofs.Common.{◌≡◌, ◌+◌, ◌↔◌, ℕ, Contains, sym, ◌∙◌, subst}
use Rattle.bit_rows.specs.Tables.{the_set}
use Rattle.reaching_defs.specs.declared.definition.Definition.{Definition}
use Rattle.reaching_defs.specs.Stretches.{FlowsAmong}
use Rattle.reaching_defs.proofs.MetLemmas.{of_row}
use Rattle.reaching_defs.proofs.TargetLemmas.{AreWordsOf, words_of}
use Rattle.reaching_defs.proofs.from_vertex.find_many.Goals as goal

pub find_by_rows-requires-clause-row : goal.find_by_rows-requires-clause-row
find_by_rows-requires-clause-row c =
    let t = c.args.s.now.defined in
    let d : Definition = c.take.new.self in
    let e = c.words.ensures in
    let row = c.words.result.now in
    let vertex : d.vertex ≡ c.args.v = c.in_ok-take.ensures.vertex in
    let words : AreWordsOf t.bits row (the_set t d.vertex) = subst (λ v. AreWordsOf t.bits row (the_set t v)) (sym vertex) (words_of e.len e.holds e.clean) in
    of_row t d row words c.in_ok-take.ensures.held

pub returns-then-count-x-clause-rest : goal.returns-then-count-x-clause-rest
returns-then-count-x-clause-rest c =
    let e = c.find_by_rows.ensures in
    let rest = c.requires.rest in
    record {
      reached = rest.reached;
      targets = e.size;
      roomy = e.roomy;
      wide = e.wide;
      bits = e.bits ∙ rest.bits;
      few = rest.few;
      bare = e.bare;
      turn = e.turn;
    }

pub returns-then-count-x-clause-exact : goal.returns-then-count-x-clause-exact
returns-then-count-x-clause-exact c =
    let next = c.args.next.now in
    let s = c.args.s.now in
    let d : Definition = c.take.new.self in
    let new = c.find_by_rows.new.targets.members in
    let vertex : d.vertex ≡ c.args.v = c.in_ok-take.ensures.vertex in
    subst (λ v. (w : ℕ) → Contains new w ↔ FlowsAmong 0 s.defined.bits s next.pairs.items v (next.stretch.first + w)) vertex c.find_by_rows.ensures.exact
