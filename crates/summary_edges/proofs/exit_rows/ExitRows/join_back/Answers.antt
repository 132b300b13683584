use Rattle.std.proofs.Common.{◌≡◌, ◌-◌, sym, ◌∙◌}
use Rattle.std.proofs.lemmas.Bool.{false≢true}
use Rattle.matched_paths.specs.VertexRanges.{IsInRange}
use Rattle.matched_paths.proofs.StepRuleLaws.{within_is, is_within}
use Rattle.summary_edges.proofs.SpreadLaws.{join_spreads, join_above, spread_none, spread_weaker}
use Rattle.summary_edges.proofs.FillLaws.{number_below}
use Rattle.summary_edges.proofs.exit_rows.ExitRows.join_back.Goals as goal

pub join-requires-clause-to_in : goal.join-requires-clause-to_in
join-requires-clause-to_in c = number_below c.args.range c.args.to _ (within_is c.args.range c.args.to (sym c.has.ensures ∙ c.if-has.true)) c.requires.room

pub join-requires-clause-from_in : goal.join-requires-clause-from_in
join-requires-clause-from_in c = number_below c.args.range c.args.from _ c.requires.from_in c.requires.room

pub returns-then-has-clause-spread : goal.returns-then-has-clause-spread
returns-then-has-clause-spread c =
    let s = c.args.range in
    let inside = within_is s c.args.to (sym c.has.ensures ∙ c.if-has.true) in
    let i = c.args.to - s.first in
    let j = c.args.from - s.first in
    let old = c.args.self.now in
    spread_weaker (λ m. m ≡ i) (λ m. IsInRange s c.args.to × (m ≡ i)) j old c.join.new.self c.join.result (λ m e. (inside, e))
    (join_spreads i j old c.join.new.self c.join.result c.requires.table (number_below s c.args.to _ inside c.requires.room) (number_below s c.args.from _ c.requires.from_in c.requires.room) c.join.ensures)

pub returns-then-has-clause-above : goal.returns-then-has-clause-above
returns-then-has-clause-above c = λ _.
    let s = c.args.range in
    let inside = within_is s c.args.to (sym c.has.ensures ∙ c.if-has.true) in
    join_above (c.args.to - s.first) (c.args.from - s.first) c.args.self.now c.join.new.self c.join.result c.requires.table (number_below s c.args.to _ inside c.requires.room) (number_below s c.args.from _ c.requires.from_in c.requires.room) c.join.ensures

pub returns-else-has-clause-spread : goal.returns-else-has-clause-spread
returns-else-has-clause-spread c =
    spread_none (λ m. IsInRange c.args.range c.args.to × (m ≡ c.args.to - c.args.range.first)) (c.args.from - c.args.range.first) c.args.self.now c.requires.table

pub returns-else-has-clause-above : goal.returns-else-has-clause-above
returns-else-has-clause-above c = λ inside.
    absurd (false≢true (sym (sym c.has.ensures ∙ c.if-has.false) ∙ is_within c.args.range c.args.to inside.0 inside.1))
