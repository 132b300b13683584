use Rattle.std.proofs.Common.{◌≡◌, ◌+◌, ◌-◌, ◌<◌, ℕ, List, length, get_or, ap, ◌∙◌, arith}
use Rattle.std.specs.List.{between}
use Rattle.std.proofs.lemmas.List.Edits.{length-between, get_or-between}
use Rattle.crew.specs.Seats.{view}
use Rattle.summary_edges.specs.Workers.{HasLearned, IsCopy, IsPartOf, KnowsStep}
use Rattle.summary_edges.proofs.GoingOnLaws.{behind_again}
use Rattle.summary_edges.proofs.PartLaws.{words_in_turn, words_below}
use Rattle.summary_edges.proofs.SpreadLaws.{shapes_follow}
use Rattle.summary_edges.proofs.WorkLaws.{knows_still}
use Rattle.summary_edges.proofs.WorkerLaws.{opened_still, learned_both, may_gain, copy_again, knows_step}
use Rattle.summary_edges.proofs.worker.take.Goals as goal
use Rattle.summary_edges.proofs.worker.take.Goals.{In_ok-before, After-publish_gain}

-- where a list is the copy of the function's words, each of its words is one of them
words_of : (first last k : ℕ) (own known : List ℕ) → own ≡ between first last known → first + k < last → get_or own k 0 ≡ get_or known (first + k) 0
words_of first last k own known same low = ap (λ ws. get_or ws k 0) same ∙ get_or-between known first last k 0 low

-- and it is as long as they
copied_long : (c : In_ok-before) (own : List ℕ) → own ≡ between c.args.part.first_word c.args.part.last_word c.look_for.new.known → length own ≡ c.args.part.last_word - c.args.part.first_word
copied_long c own same =
    let p = c.args.part in
    let below = words_below c.args.t.now.graph.now c.requires.index.shaped.rows_are p c.requires.drawn.3.part in
    let long = c.look_for.ensures.long in
    let words = c.requires.copy.long in
    ap length same ∙ length-between c.look_for.new.known p.first_word p.last_word (omega (arith, below, long, words))

-- what the seat has learned when the step was published
learned : (c : After-publish_gain) → HasLearned (view c.args.seat.now) (view c.publish_gain.new.seat)
learned c = learned_both (view c.args.seat.now) (view c.look_for.new.seat) (view c.publish_gain.new.seat) c.look_for.ensures.looked.learned c.publish_gain.ensures.learned

-- the words are a copy again
copied : (c : After-publish_gain) → IsCopy c.args.t.now.graph.now c.step-grows.new.words (view c.publish_gain.new.seat)
copied c =
    let p = c.args.part in
    let known = c.look_for.new.known in
    copy_again c.args.t.now.graph.now c.requires.index.shaped p known c.step-grows.new.words c.as_slice.result.now c.step-grows.result c.step-grows.ensures.exact (view c.look_for.new.seat) (c.look_for.ensures.looked.copy c.requires.copy)
    (λ k low. words_of p.first_word p.last_word k c.as_slice.result.now known (c.as_slice.ensures.value ∙ c.in_ok-before.ensures) low)
    (view c.publish_gain.new.seat) c.publish_gain.ensures.learned c.publish_gain.ensures.knows (c.step-grows.ensures.exact.added.grown.long ∙ c.look_for.ensures.long ∙ c.requires.copy.long)

-- the seat knows what the step gives
known_step : (c : After-publish_gain) (f : ℕ) → IsPartOf c.args.t.now.graph.now f c.args.part → KnowsStep c.args.t.now.graph.now f (view c.publish_gain.new.seat)
known_step c f is =
    knows_step c.args.t.now.graph.now c.requires.index.shaped c.args.part f is c.args.known.now c.look_for.new.known c.step-grows.new.words c.step-grows.result (view c.args.seat.now) (view c.look_for.new.seat) (view c.publish_gain.new.seat)
    c.look_for.ensures.looked c.step-grows.ensures.exact (copied c).seen (c.publish_gain.ensures.learned.kept.opening_is ∙ c.look_for.ensures.looked.learned.kept.opening_is)

pub look_for-requires-clause-long : goal.look_for-requires-clause-long
look_for-requires-clause-long c = c.requires.copy.long

pub own_words-requires-clause-order : goal.own_words-requires-clause-order
own_words-requires-clause-order c = words_in_turn c.args.t.now.graph.now c.requires.index.shaped.rows_are c.args.part c.requires.drawn.3.part

pub own_words-requires-clause-inside : goal.own_words-requires-clause-inside
own_words-requires-clause-inside c =
    let below = words_below c.args.t.now.graph.now c.requires.index.shaped.rows_are c.args.part c.requires.drawn.3.part in
    let long = c.look_for.ensures.long in
    let words = c.requires.copy.long in
    omega (arith, below, long, words)

pub step-grows-requires-clause-part : goal.step-grows-requires-clause-part
step-grows-requires-clause-part c = c.requires.drawn.3.part

pub step-grows-requires-clause-long : goal.step-grows-requires-clause-long
step-grows-requires-clause-long c = c.look_for.ensures.long ∙ c.requires.copy.long

pub publish_gain-requires-clause-board : goal.publish_gain-requires-clause-board
publish_gain-requires-clause-board c = c.look_for.ensures.board ∙ c.requires.board

pub publish_gain-requires-clause-opened : goal.publish_gain-requires-clause-opened
publish_gain-requires-clause-opened c = opened_still c.args.t.now (view c.args.seat.now) (view c.look_for.new.seat) c.look_for.ensures.looked.learned.kept c.requires.opened

pub publish_gain-requires-clause-inside : goal.publish_gain-requires-clause-inside
publish_gain-requires-clause-inside c = words_below c.args.t.now.graph.now c.requires.index.shaped.rows_are c.args.part c.requires.drawn.3.part

pub publish_gain-requires-clause-long : goal.publish_gain-requires-clause-long
publish_gain-requires-clause-long c = c.step-grows.ensures.exact.added.grown.long ∙ c.look_for.ensures.long ∙ c.requires.copy.long

pub publish_gain-requires-clause-order : goal.publish_gain-requires-clause-order
publish_gain-requires-clause-order c = words_in_turn c.args.t.now.graph.now c.requires.index.shaped.rows_are c.args.part c.requires.drawn.3.part

pub publish_gain-requires-clause-before : goal.publish_gain-requires-clause-before
publish_gain-requires-clause-before c = copied_long (goal.at.publish_gain-requires-clause-before c).In_ok-before c.as_slice.result.now (c.as_slice.ensures.value ∙ c.in_ok-before.ensures)

pub publish_gain-requires-clause-may : goal.publish_gain-requires-clause-may
publish_gain-requires-clause-may c =
    let p = c.args.part in
    let known = c.look_for.new.known in
    let d = c.requires.drawn in
    let looked = c.look_for.ensures.looked in
    may_gain c.args.t.now.graph.now c.requires.index.shaped p known c.step-grows.new.words c.as_slice.result.now c.step-grows.result c.step-grows.ensures.exact (view c.look_for.new.seat) (looked.copy c.requires.copy)
    (λ k low. words_of p.first_word p.last_word k c.as_slice.result.now known (c.as_slice.ensures.value ∙ c.in_ok-before.ensures) low)
    c.args.t.now.agenda.now d.0 d.1 (looked.learned.kept.drawn d.0 d.2) d.3

pub returns-then-not-grows-clause-board : goal.returns-then-not-grows-clause-board
returns-then-not-grows-clause-board c = c.publish_gain.ensures.board ∙ c.look_for.ensures.board

pub returns-then-not-grows-clause-learned : goal.returns-then-not-grows-clause-learned
returns-then-not-grows-clause-learned c = learned (goal.at.returns-then-not-grows-clause-learned c).After-publish_gain

pub returns-then-not-grows-clause-room : goal.returns-then-not-grows-clause-room
returns-then-not-grows-clause-room c = c.step-grows.ensures.room

pub returns-then-not-grows-clause-copy : goal.returns-then-not-grows-clause-copy
returns-then-not-grows-clause-copy c = copied (goal.at.returns-then-not-grows-clause-copy c).After-publish_gain

pub returns-then-not-grows-clause-knows : goal.returns-then-not-grows-clause-knows
returns-then-not-grows-clause-knows c = known_step (goal.at.returns-then-not-grows-clause-knows c).After-publish_gain

pub go_on-requires-clause-board : goal.go_on-requires-clause-board
go_on-requires-clause-board c = c.publish_gain.ensures.board ∙ c.look_for.ensures.board ∙ c.requires.board

pub go_on-requires-clause-opened : goal.go_on-requires-clause-opened
go_on-requires-clause-opened c =
    opened_still c.args.t.now (view c.args.seat.now) (view c.publish_gain.new.seat) (learned (goal.at.go_on-requires-clause-opened c).After-publish_gain).kept c.requires.opened

pub go_on-requires-clause-drawn : goal.go_on-requires-clause-drawn
go_on-requires-clause-drawn c =
    let d = c.requires.drawn in
    (d.0, d.1, (learned (goal.at.go_on-requires-clause-drawn c).After-publish_gain).kept.drawn d.0 d.2, d.3)

pub go_on-requires-clause-copy : goal.go_on-requires-clause-copy
go_on-requires-clause-copy c = copied (goal.at.go_on-requires-clause-copy c).After-publish_gain

pub go_on-requires-clause-behind : goal.go_on-requires-clause-behind
go_on-requires-clause-behind c =
    let p = c.args.part in
    let known = c.look_for.new.known in
    behind_again c.args.t.now.graph.now p c.step-grows.new.table known c.step-grows.new.words c.as_mut_slice.result.now c.step-grows.result c.step-grows.ensures.exact c.step-grows.ensures.filled
    (λ k low. words_of p.first_word p.last_word k c.as_mut_slice.result.now known (c.as_mut_slice.ensures.value ∙ c.in_ok-before.ensures) low)

pub go_on-requires-clause-own : goal.go_on-requires-clause-own
go_on-requires-clause-own c = copied_long (goal.at.go_on-requires-clause-own c).In_ok-before c.as_mut_slice.result.now (c.as_mut_slice.ensures.value ∙ c.in_ok-before.ensures)

pub returns-in_err-go_on-clause-board : goal.returns-in_err-go_on-clause-board
returns-in_err-go_on-clause-board c = c.go_on.ensures.board ∙ c.publish_gain.ensures.board ∙ c.look_for.ensures.board

pub returns-in_err-go_on-clause-learned : goal.returns-in_err-go_on-clause-learned
returns-in_err-go_on-clause-learned c =
    learned_both (view c.args.seat.now) (view c.publish_gain.new.seat) (view c.go_on.new.seat) (learned (goal.at.returns-in_err-go_on-clause-learned c).After-publish_gain) c.go_on.ensures.learned

pub returns-in_err-go_on-clause-room : goal.returns-in_err-go_on-clause-room
returns-in_err-go_on-clause-room c = shapes_follow c.args.table.now c.step-grows.new.table c.go_on.new.table c.step-grows.ensures.room c.go_on.ensures.room

pub returns-clause-board : goal.returns-clause-board
returns-clause-board c = c.go_on.ensures.board ∙ c.publish_gain.ensures.board ∙ c.look_for.ensures.board

pub returns-clause-learned : goal.returns-clause-learned
returns-clause-learned c =
    learned_both (view c.args.seat.now) (view c.publish_gain.new.seat) (view c.go_on.new.seat) (learned (goal.at.returns-clause-learned c).After-publish_gain) c.go_on.ensures.learned

pub returns-clause-room : goal.returns-clause-room
returns-clause-room c = shapes_follow c.args.table.now c.step-grows.new.table c.go_on.new.table c.step-grows.ensures.room c.go_on.ensures.room

pub returns-clause-copy : goal.returns-clause-copy
returns-clause-copy c = c.go_on.ensures.copy

pub returns-clause-knows : goal.returns-clause-knows
returns-clause-knows c = λ f is.
    knows_still c.args.t.now.graph.now f (view c.publish_gain.new.seat) (view c.go_on.new.seat) c.go_on.ensures.learned.kept (known_step (goal.at.returns-clause-knows c).After-publish_gain f is)
