use Rattle.std.proofs.Common.{◌≡◌, ◌+◌, ◌<◌, ◌||◌, Bool, List, length, get_or, take, Contains, sym, ◌∙◌, subst, arith}
use Rattle.std.proofs.lemmas.List.{get_or_default, take_more, take_all}
use Rattle.dep_model.specs.declared.edge.Edge.{Edge}
use Rattle.dep_model.specs.declared.edge.Label.TheVariants.{Control}
use Rattle.matched_paths.specs.EdgeGroups.{group_at}
use Rattle.matched_paths.proofs.GroupLaws.{entering_is}
use Rattle.matched_paths.proofs.ReachLaws.{edge_below}
use Rattle.summary_edges.specs.declared.exit_rows.ExitRows.{ExitRows}
use Rattle.summary_edges.proofs.FillLaws.{IsCrossing, cross_begins, cross_goes, cross_skips, cross_ends}
use Rattle.summary_edges.proofs.exit_rows.ExitRows.cross.Goals as goal
use Rattle.summary_edges.proofs.exit_rows.ExitRows.cross.Goals.{In-loop-enter, then-holds, else-holds}

abbrev none : Edge
none = record { from = 0; to = 0; label = Control }

-- the edge that is read is one that enters the call
read : (c : In-loop-enter) → c.loop-enter.enter-index < length c.of-enters.result.now → Contains (group_at c.args.index.now.entries c.args.call) (get_or c.of-enters.result.now c.loop-enter.enter-index none)
read c low = subst (λ es. Contains es (get_or c.of-enters.result.now c.loop-enter.enter-index none)) c.of-enters.ensures
    (c.loop-enter.enter-index, low, get_or_default c.of-enters.result.now c.loop-enter.enter-index (get_or c.of-enters.result.now c.loop-enter.enter-index none) none low)

pub loop-enter-init : goal.loop-enter-init
loop-enter-init c =
    cross_begins c.args.g.now c.args.index.now c.requires.index c.args.known.now c.args.range c.args.call c.args.leave c.requires.leave c.requires.label c.args.self.now c.requires.table

pub holds-requires-clause-in_range : goal.holds-requires-clause-in_range
holds-requires-clause-in_range c =
    let g = c.args.g.now in
    let e = get_or c.of-enters.result.now c.loop-enter.enter-index none in
    let is = entering_is g.edges c.args.call e (subst (λ es. Contains es e) (c.requires.index.entries c.args.call) (read (goal.at.holds-requires-clause-in_range c).In-loop-enter c.loop-enter-test.true)) in
    let low = (edge_below g c.requires.index.shaped e is.0).1 in
    let long = c.requires.index.places.numbers_long in
    omega (arith, low, long)

pub holds-requires-clause-out_range : goal.holds-requires-clause-out_range
holds-requires-clause-out_range c =
    let low = (edge_below c.args.g.now c.requires.index.shaped c.args.leave c.requires.leave).0 in
    let long = c.requires.index.places.rows_long in
    omega (arith, low, long)

pub join_back-more-requires-clause-table : goal.join_back-more-requires-clause-table
join_back-more-requires-clause-table c = c.loop-enter.invariant.spread.shape.table

pub join_back-more-requires-clause-room : goal.join_back-more-requires-clause-room
join_back-more-requires-clause-room c =
    let room = c.requires.room in
    let rows = c.loop-enter.invariant.spread.shape.rows_are in
    omega (arith, room, rows)

pub loop-enter-preserved : goal.loop-enter-preserved
loop-enter-preserved c =
    let g = c.args.g.now in
    let x = c.args.index.now in
    let s = c.args.range in
    let leave = c.args.leave in
    let start = c.args.self.now in
    let es = c.of-enters.result.now in
    let n = c.loop-enter.enter-index in
    let low = c.loop-enter-test.true in
    let e = get_or es n none in
    let now = c.loop-enter.self in
    let grows = c.loop-enter.grows in
    let seen = take_more es n none low in
    let member = read (goal.at.loop-enter-preserved c).In-loop-enter low in
    elim c.if-holds.branch [
      | then-holds w ↦
          let goes = cross_goes g x c.requires.index c.args.known.now s c.args.call leave c.requires.leave c.requires.label start (take n es) e now w.join_back-more.new.self grows w.join_back-more.result member
          (sym c.holds.ensures ∙ w.if-holds.true) c.loop-enter.invariant w.join_back-more.ensures.spread w.join_back-more.ensures.above in
          subst (λ (b : Bool). IsCrossing g x c.args.known.now s leave start (take (n + 1) es) c.if-holds.self b) (sym w.grows-is)
          (subst (λ (t : ExitRows). IsCrossing g x c.args.known.now s leave start (take (n + 1) es) t (grows || w.join_back-more.result)) (sym w.self-is)
          (subst (λ (k : List Edge). IsCrossing g x c.args.known.now s leave start k w.join_back-more.new.self (grows || w.join_back-more.result)) (sym seen) goes))
      | else-holds w ↦
          let goes = cross_skips g x c.requires.index c.args.known.now s c.args.call leave c.requires.leave c.requires.label start (take n es) e now grows (sym c.holds.ensures ∙ w.if-holds.false) c.loop-enter.invariant in
          subst (λ (b : Bool). IsCrossing g x c.args.known.now s leave start (take (n + 1) es) c.if-holds.self b) (sym w.grows-is)
          (subst (λ (t : ExitRows). IsCrossing g x c.args.known.now s leave start (take (n + 1) es) t grows) (sym w.self-is)
          (subst (λ (k : List Edge). IsCrossing g x c.args.known.now s leave start k now grows) (sym seen) goes))
    ]

pub returns-clause-spread : goal.returns-clause-spread
returns-clause-spread c = c.loop-enter.invariant.spread

pub returns-clause-above : goal.returns-clause-above
returns-clause-above c = λ u f inside m fact.
    let es = c.of-enters.result.now in
    let n = c.loop-enter.enter-index in
    let ended = c.loop-enter-test.false in
    let all : take n es ≡ group_at c.args.index.now.entries c.args.call = take_all n es (omega (arith, ended)) ∙ c.of-enters.ensures in
    cross_ends c.args.g.now c.args.index.now c.requires.index c.args.known.now c.args.range c.args.call c.args.leave c.requires.leave c.requires.label c.args.self.now c.loop-enter.self c.loop-enter.grows
    (subst (λ (k : List Edge). IsCrossing c.args.g.now c.args.index.now c.args.known.now c.args.range c.args.leave c.args.self.now k c.loop-enter.self c.loop-enter.grows) all c.loop-enter.invariant) u f inside m fact
