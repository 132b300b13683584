use Rattle.std.proofs.Common.{rules, ◌≡◌, ◌+◌, ◌<◌, ℕ, length, ap, ◌∙◌, subst, arith, slice_index_or}
use Rattle.crew.proofs.Teams.{numbered_read, length_numbered}
use Rattle.crew.proofs.team.team_map.Goals as goal

pub map_vec-requires-after_bounds : goal.map_vec-requires-after_bounds
map_vec-requires-after_bounds g c κs within = λ i x h e.
    let same = c.in_ok-pairs.ensures.each in
    let seats = c.args.seats.items in
    let inside : i < length seats = omega (arith, ap length same, length_numbered 1 seats) in
    let read = numbered_read 1 seats i x inside (e ∙ ap (λ l. slice_index_or l i x) same) in
    let n_is : i + 1 ≡ x.0 = omega (arith, read.0) in
    subst (λ (k : ℕ). g.F.Fn.pre c.args.f.now (k, (x.1, tt))) n_is (c.requires.accepts i x.1 inside read.1)

pub returns-clause-each : goal.returns-clause-each
returns-clause-each g c = λ i d inside.
    let same = c.in_ok-pairs.ensures.each in
    let seats = c.args.seats.items in
    let paired : i < length c.in_ok-pairs.pairs.items = omega (arith, ap length same, length_numbered 1 seats) in
    let job = (c.in_ok-results.ensures.each i d paired).1 in
    let read = numbered_read 1 seats i job.job inside (job.job_read ∙ ap (λ l. slice_index_or l i job.job) same) in
    let n_is : job.job.0 ≡ i + 1 = omega (arith, read.0) in
    (job.job.1, read.1, subst (λ (k : ℕ). g.F.Fn.post c.args.f.now (k, (job.job.1, tt)) (slice_index_or c.in_ok-results.results.items i d)) n_is (search rules))

pub returns-clause-len : goal.returns-clause-len
returns-clause-len g c = omega (arith, c.in_ok-results.ensures.len, ap length c.in_ok-pairs.ensures.each, length_numbered 1 c.args.seats.items, c.in_ok-results.results.ok, c.in_ok-pairs.pairs.ok)
