use Rattle.std.proofs.Common.{◌<◌, ◌≤◌, List, length, sym, subst, arith}
use Rattle.dep_model.specs.declared.vertex.Vertex.{Vertex}
use Rattle.dep_model.specs.Facts.{HoldsFact}
use Rattle.matched_paths.specs.declared.vertex_range.VertexRange.{VertexRange}
use Rattle.matched_paths.specs.VertexRanges.{AreApartAt, IsWholeFunction}
use Rattle.matched_paths.proofs.StepRuleLaws.{rules_within}
use Rattle.forward_chop.proofs.PartLaws.{part_is}
use Rattle.forward_chop.proofs.parts.part_at.Goals as goal

pub field_of-requires : goal.field_of-requires
field_of-requires c =
    let g = c.args.g.now in
    let range = c.range_at-range.result in
    let whole = subst (λ (vs : List Vertex). IsWholeFunction vs range) c.as_slice.ensures c.range_at-range.ensures.whole in
    let first = c.range_at-range.ensures.first in
    let more = c.range_at-range.ensures.more in
    let order : range.first < range.last = omega (arith, first, more) in
    record { within = rules_within g (HoldsFact g c.args.f.now.words) range whole c.in_ok-rules.rules.items (c.in_ok-rules.ensures whole order) }

pub returns-clause-part : goal.returns-clause-part
returns-clause-part c =
    let g = c.args.g.now in
    let range = c.range_at-range.result in
    let whole = subst (λ (vs : List Vertex). IsWholeFunction vs range) c.as_slice.ensures c.range_at-range.ensures.whole in
    let first = c.range_at-range.ensures.first in
    let more = c.range_at-range.ensures.more in
    let order : range.first < range.last = omega (arith, first, more) in
    let inside = subst (λ (vs : List Vertex). range.last ≤ length vs) c.as_slice.ensures c.range_at-range.ensures.inside in
    part_is g c.args.f.now.words c.requires.index.shaped c.requires.facts range whole c.in_ok-rules.rules.items (c.in_ok-rules.ensures whole order) c.in_ok-field.field (omega (arith, order)) inside c.in_ok-field.ensures

pub returns-clause-apart : goal.returns-clause-apart
returns-clause-apart c =
    let range = c.range_at-range.result in
    subst (λ (r : VertexRange). AreApartAt c.args.g.now.vertices r.last) (sym c.in_ok-field.ensures.range_is) (subst (λ (vs : List Vertex). AreApartAt vs range.last) c.as_slice.ensures c.range_at-range.ensures.apart)
