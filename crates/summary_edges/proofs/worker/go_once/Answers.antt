use Rattle.std.proofs.Common.{◌≡◌, ◌<◌, ◌+◌, ◌-◌, ℕ, length, get_or, ap, ◌∙◌, arith}
use Rattle.std.proofs.lemmas.List.Edits.{length-between, get_or-between}
use Rattle.crew.specs.Seats.{view}
use Rattle.summary_edges.proofs.GoingOnLaws.{lacks_noted, behind_again}
use Rattle.summary_edges.proofs.PartLaws.{words_in_turn, words_below}
use Rattle.summary_edges.proofs.WorkerLaws.{may_gain, copy_again}
use Rattle.summary_edges.proofs.worker.go_once.Goals as goal
use Rattle.summary_edges.proofs.worker.go_once.Goals.{After-copy_own}

-- the copy has the function's own words
copied : (c : After-copy_own) → (k : ℕ) → c.args.part.first_word + k < c.args.part.last_word → get_or c.copy_own.new.own k 0 ≡ get_or c.args.known.now (c.args.part.first_word + k) 0
copied c k low =
    let p = c.args.part in
    ap (λ ws. get_or ws k 0) c.copy_own.ensures ∙ get_or-between c.args.known.now p.first_word p.last_word k 0 low

-- it is as long as they
copied_long : (c : After-copy_own) → length c.copy_own.new.own ≡ c.args.part.last_word - c.args.part.first_word
copied_long c =
    let p = c.args.part in
    let below = words_below c.args.t.now.graph.now c.requires.index.shaped.rows_are p c.requires.drawn.3.part in
    let words = c.requires.going.copy.long in
    ap length c.copy_own.ensures ∙ length-between c.args.known.now p.first_word p.last_word (omega (arith, below, words))

pub note_news-requires-clause-order : goal.note_news-requires-clause-order
note_news-requires-clause-order c = words_in_turn c.args.t.now.graph.now c.requires.index.shaped.rows_are c.args.part c.requires.drawn.3.part

pub note_news-requires-clause-own : goal.note_news-requires-clause-own
note_news-requires-clause-own c = c.requires.going.own_long

pub note_news-requires-clause-known : goal.note_news-requires-clause-known
note_news-requires-clause-known c =
    let below = words_below c.args.t.now.graph.now c.requires.index.shaped.rows_are c.args.part c.requires.drawn.3.part in
    let words = c.requires.going.copy.long in
    omega (arith, below, words)

pub note_news-requires-clause-news : goal.note_news-requires-clause-news
note_news-requires-clause-news c = c.requires.going.news_long

pub copy_own-requires-clause-order : goal.copy_own-requires-clause-order
copy_own-requires-clause-order c = words_in_turn c.args.t.now.graph.now c.requires.index.shaped.rows_are c.args.part c.requires.drawn.3.part

pub copy_own-requires-clause-own : goal.copy_own-requires-clause-own
copy_own-requires-clause-own c = c.requires.going.own_long

pub copy_own-requires-clause-known : goal.copy_own-requires-clause-known
copy_own-requires-clause-known c =
    let below = words_below c.args.t.now.graph.now c.requires.index.shaped.rows_are c.args.part c.requires.drawn.3.part in
    let words = c.requires.going.copy.long in
    omega (arith, below, words)

pub step_again-grows-requires-clause-lacks : goal.step_again-grows-requires-clause-lacks
step_again-grows-requires-clause-lacks c =
    let going = c.requires.going in
    lacks_noted c.args.t.now.graph.now c.args.part c.args.table.now c.args.own.now c.args.known.now c.args.news.now c.note_news.new.news going.behind c.note_news.ensures
    (c.note_news.ensures.long ∙ going.news_long) going.no_others

pub step_again-grows-requires-clause-long : goal.step_again-grows-requires-clause-long
step_again-grows-requires-clause-long c = c.requires.going.copy.long

pub publish_gain-requires-clause-inside : goal.publish_gain-requires-clause-inside
publish_gain-requires-clause-inside c = words_below c.args.t.now.graph.now c.requires.index.shaped.rows_are c.args.part c.requires.drawn.3.part

pub publish_gain-requires-clause-long : goal.publish_gain-requires-clause-long
publish_gain-requires-clause-long c = c.step_again-grows.ensures.exact.added.grown.long ∙ c.requires.going.copy.long

pub publish_gain-requires-clause-order : goal.publish_gain-requires-clause-order
publish_gain-requires-clause-order c = words_in_turn c.args.t.now.graph.now c.requires.index.shaped.rows_are c.args.part c.requires.drawn.3.part

pub publish_gain-requires-clause-before : goal.publish_gain-requires-clause-before
publish_gain-requires-clause-before c = copied_long (goal.at.publish_gain-requires-clause-before c).After-copy_own

pub publish_gain-requires-clause-may : goal.publish_gain-requires-clause-may
publish_gain-requires-clause-may c =
    let g = c.args.t.now.graph.now in
    let d = c.requires.drawn in
    may_gain g c.requires.index.shaped c.args.part c.args.known.now c.step_again-grows.new.words c.copy_own.new.own c.step_again-grows.result c.step_again-grows.ensures.exact (view c.args.seat.now) c.requires.going.copy
    (copied (goal.at.publish_gain-requires-clause-may c).After-copy_own) c.args.t.now.agenda.now d.0 d.1 d.2 d.3

pub returns-clause-board : goal.returns-clause-board
returns-clause-board c = c.publish_gain.ensures.board

pub returns-clause-learned : goal.returns-clause-learned
returns-clause-learned c = c.publish_gain.ensures.learned

pub returns-clause-room : goal.returns-clause-room
returns-clause-room c = c.step_again-grows.ensures.room

pub returns-clause-going : goal.returns-clause-going
returns-clause-going c =
    let g = c.args.t.now.graph.now in
    let p = c.args.part in
    let at = (goal.at.returns-clause-going c).After-copy_own in
    let e = c.step_again-grows.ensures in
    let going = c.requires.going in
    record {
      copy = copy_again g c.requires.index.shaped p c.args.known.now c.step_again-grows.new.words c.copy_own.new.own c.step_again-grows.result e.exact (view c.args.seat.now) going.copy (copied at)
          (view c.publish_gain.new.seat) c.publish_gain.ensures.learned c.publish_gain.ensures.knows (e.exact.added.grown.long ∙ going.copy.long);
      behind = behind_again g p c.step_again-grows.new.table c.args.known.now c.step_again-grows.new.words c.copy_own.new.own c.step_again-grows.result e.exact e.filled (copied at);
      own_long = copied_long at;
      news_long = c.note_news.ensures.long ∙ going.news_long;
      no_others = λ w before. c.note_news.ensures.others w before ∙ going.no_others w before;
    }

pub returns-clause-grown : goal.returns-clause-grown
returns-clause-grown c = c.step_again-grows.ensures.exact.added.grown
