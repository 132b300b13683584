-- Each location that is meant has one vertex.
use Rattle.std.proofs.Common.{◌≡◌, ◌+◌, ◌<◌, [], ◌∷◌, ◌++◌, map, length, true, false, sym, ap, ◌∙◌, arith}
use Rattle.dep_model.specs.declared.vertex.Slot.TheVariants.{At}
use Rattle.dep_model.specs.VertexOrder.{in_function}
use Rattle.dep_model.specs.Locations.{locations}
use Rattle.effect_rows.proofs.StepRows.{listed_at}
use Rattle.vertex_layout.specs.Listing.{through, vertices_in, touched_slots}
use Rattle.vertex_layout.specs.Seen.{effects_in, touches}
use Rattle.vertex_layout.proofs.Left.{left_turn, left_skip, left_above, told_on}
use Rattle.vertex_layout.proofs.ListingTurns.{locations_left, location_in, location_out}
use Rattle.vertex_layout.proofs.listing.add_locations.Goals as goal
use Rattle.vertex_layout.proofs.listing.add_locations.Goals.{then-touches+in_ok-add, else-touches}

pub returns-in_err-add-clause-above : goal.returns-in_err-add-clause-above
returns-in_err-add-clause-above c =
    let l = c.loop-k in
    let f = c.args.f in
    let way = c.args.port in
    let s = c.args.seen.now in
    let xs = locations s.program in
    let test = touches (effects_in s) c.args.touch c.args.g in
    let all = vertices_in f (map (through way) (touched_slots s c.args.touch c.args.g)) in
    let low : l.k < length xs = let below = c.loop-k-test.true in let end = l.invariant.end in omega (arith, below, end) in
    let found = listed_at xs l.k low in
    let is : test found.0.location ≡ true = sym (c.touches.ensures found.0 found.1) ∙ c.if-touches.true in
    told_on (length c.args.list.now + length all) c.in_err-add.field-0.0 c.from_residual.result c.from_residual.ensures.1
    (left_above c.args.list.now all (vertices_in f (through way (At l.k) ∷ [])) (locations_left f way test xs (l.k + 1)) (locations_left f way test xs l.k) l.list c.in_err-add.field-0.0
    (location_in f way test xs l.k found.0 found.1 is) l.invariant.left c.in_err-add.ensures.above)

pub loop-k-preserved : goal.loop-k-preserved
loop-k-preserved c =
    let l = c.loop-k in
    let f = c.args.f in
    let way = c.args.port in
    let s = c.args.seen.now in
    let xs = locations s.program in
    let test = touches (effects_in s) c.args.touch c.args.g in
    let all = vertices_in f (map (through way) (touched_slots s c.args.touch c.args.g)) in
    let low : l.k < length xs = let below = c.loop-k-test.true in let end = l.invariant.end in omega (arith, below, end) in
    let found = listed_at xs l.k low in
    let here = locations_left f way test xs l.k in
    let next = locations_left f way test xs (l.k + 1) in
    record {
      end = l.invariant.end;
      left = elim c.if-touches.branch [
        | then-touches+in_ok-add w ↦
            let is : test found.0.location ≡ true = sym (c.touches.ensures found.0 found.1) ∙ w.if-touches.true in
            left_turn c.args.list.now all (vertices_in f (through way (At l.k) ∷ [])) next here l.list c.if-touches.list (location_in f way test xs l.k found.0 found.1 is)
            (w.list-is ∙ w.in_ok-add.ensures.added ∙ ap (λ k. l.list ++ in_function f k ∷ []) w.kind_of.ensures) l.invariant.left
        | else-touches w ↦
            let is : test found.0.location ≡ false = sym (c.touches.ensures found.0 found.1) ∙ w.if-touches.false in
            left_skip c.args.list.now all next here l.list c.if-touches.list (location_out f way test xs l.k found.0 found.1 is) w.list-is l.invariant.left
      ];
    }
