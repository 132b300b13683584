use Rattle.std.proofs.Common.{◌≡◌, ℕ, List, length, get_or, replicate, ap, ◌∙◌, arith}
use Rattle.std.proofs.lemmas.List.{get_or-replicate, length-replicate}
use Rattle.crew.specs.Seats.{view}
use Rattle.summary_edges.proofs.PartLaws.{words_in_turn}
use Rattle.summary_edges.proofs.SpreadLaws.{one_shape}
use Rattle.summary_edges.proofs.WorkerLaws.{learned_none}
use Rattle.summary_edges.proofs.worker.go_on.Goals as goal

pub calls_itself-requires-clause-part : goal.calls_itself-requires-clause-part
calls_itself-requires-clause-part c = c.requires.drawn.3.part

pub returns-then-not-calls_itself-clause-learned : goal.returns-then-not-calls_itself-clause-learned
returns-then-not-calls_itself-clause-learned c = learned_none (view c.args.seat.now)

pub returns-then-not-calls_itself-clause-room : goal.returns-then-not-calls_itself-clause-room
returns-then-not-calls_itself-clause-room c = one_shape c.args.table.now c.requires.behind.filled.filling.room.table

pub returns-in_err-news-clause-learned : goal.returns-in_err-news-clause-learned
returns-in_err-news-clause-learned c = learned_none (view c.args.seat.now)

pub returns-in_err-news-clause-room : goal.returns-in_err-news-clause-room
returns-in_err-news-clause-room c = one_shape c.args.table.now c.requires.behind.filled.filling.room.table

pub go_to_end-requires-clause-going : goal.go_to_end-requires-clause-going
go_to_end-requires-clause-going c =
    let p = c.args.part in
    let turn = words_in_turn c.args.t.now.graph.now c.requires.index.shaped.rows_are p c.requires.drawn.3.part in
    let is : c.as_mut_slice.result.now ≡ replicate p.last_word 0 = c.as_mut_slice.ensures.value ∙ c.in_ok-news.ensures.items_if_clones_equal (λ y h. h) in
    record {
      copy = c.requires.copy;
      behind = c.requires.behind;
      own_long = c.requires.own;
      news_long = ap length is ∙ length-replicate {A = ℕ} p.last_word 0;
      no_others = λ w low. ap (λ (ws : List ℕ). get_or ws w 0) is ∙ get_or-replicate {A = ℕ} p.last_word w 0 0 (omega (arith, low, turn));
    }
