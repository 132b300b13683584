-- Seats of one board, and what a team hands back with them.
use Rattle.std.proofs.Common.{◌≡◌, ℕ, zero, suc, ◌+◌, ◌<◌, ◌≤◌, ◌⊎◌, inl, inr, Bool, true, false, ◌||◌, List, [], ◌∷◌, ◌++◌, All, Some, length, get_or, refl, sym, ap, ◌∙◌, subst, arith}
use Rattle.std.specs.Prelude.{◌&&◌, slice_index}
use Rattle.std.specs.Option.{option_to_list}
use Rattle.std.proofs.lemmas.Bool.{false≢true}
use Rattle.std.proofs.lemmas.List.Elements.{All-pop}
use Rattle.crew.specs.declared.view.View.{View}
use Rattle.crew.specs.Counts.{Has, times}
use Rattle.crew.specs.Seats.{view, board_of}
use Rattle.crew.specs.SharedWords.{AreWithin}
use Rattle.crew.specs.Views.{giver_view, split_view, joined_view}
use Rattle.crew.proofs.CountLemmas.{times_append, total_snoc}
use Rattle.summary_edges.specs.declared.fact_truth.FactTruth.{FactTruth}
use Rattle.summary_edges.specs.FactMachine.{IsStepBit}
use Rattle.summary_edges.specs.Teams.{Seat, SeatBack, IsLike, IsFresh, HasWorked, HasFinished, IsHandedBack, part, parts, parts_back}
use Rattle.summary_edges.specs.Workers.{KnowsStep}

-- ---- seats of one board
pub like_itself : (s : Seat) → IsLike s s
like_itself s = record { board = refl; truth_is = refl; opening_is = refl; end_is = refl }

like_by : (first s n : Seat) → IsLike first s → board_of n ≡ board_of s → (view n).truth ≡ (view s).truth → (view n).opening ≡ (view s).opening → (view n).end ≡ (view s).end → IsLike first n
like_by first s n a board truth opening end_ = record {
  board = board ∙ a.board;
  truth_is = truth ∙ a.truth_is;
  opening_is = opening ∙ a.opening_is;
  end_is = end_ ∙ a.end_is;
}

-- a seat that gives another one away, and that one
module _ (first s n : Seat) (a : IsFresh first s) (board : board_of n ≡ board_of s) where
  pub fresh_giver : view n ≡ giver_view (view s) → IsFresh first n
  fresh_giver v = record {
    like = like_by first s n a.like board (ap (λ (x : View FactTruth). x.truth) v) (ap (λ (x : View FactTruth). x.opening) v) (ap (λ (x : View FactTruth). x.end) v);
    none = ap (λ (x : View FactTruth). x.drawn) v ∙ a.none;
  }

  pub fresh_split : view n ≡ split_view (view s) → IsFresh first n
  fresh_split v = record {
    like = like_by first s n a.like board (ap (λ (x : View FactTruth). x.truth) v) (ap (λ (x : View FactTruth). x.opening) v) (ap (λ (x : View FactTruth). x.end) v);
    none = ap (λ (x : View FactTruth). x.drawn) v;
  }

-- ---- the parts of a board
pub parts_more : (seats all : List Seat) (s : Seat) → all ≡ seats ++ s ∷ [] → parts all ≡ parts seats + part s
parts_more seats all s is = ap parts is ∙ total_snoc part seats s

pub back_more : (ws all : List SeatBack) (w : SeatBack) → all ≡ ws ++ w ∷ [] → parts_back all ≡ parts_back ws + part w.0
back_more ws all w is = ap parts_back is ∙ total_snoc (λ (x : SeatBack). part x.0) ws w

-- seat by seat, what comes back from a team
abbrev pub AreWorked : FactTruth → List Seat → List SeatBack → Type 0
AreWorked t seats all = (i : ℕ) (d : SeatBack) → i < length seats → (s : Seat) × (s ≡ get_or seats i s) × HasWorked t s (get_or all i d).0 (get_or all i d).1

pub parts_same : (t : FactTruth) (seats : List Seat) (all : List SeatBack) → length all ≡ length seats → AreWorked t seats all → parts_back all ≡ parts seats
parts_same t [] [] long each = refl
parts_same t [] (w ∷ ws) long each = absurd (omega (arith, long))
parts_same t (s ∷ ss) [] long each = absurd (omega (arith, long))
parts_same t (s ∷ ss) (w ∷ ws) long each =
    let here = each 0 w (omega arith) in
    let same : (view w.0).spare ≡ (view s).spare = here.2.kept.spare_is ∙ ap (λ (x : Seat). (view x).spare) here.1 in
    let more = parts_same t ss ws (omega (arith, long)) (λ i d low. each (suc i) d (omega (arith, low))) in
    omega (arith, same, more)

-- ---- what workers hand back
worked_back : (t : FactTruth) (first s : Seat) (w : SeatBack) → IsFresh first s → HasWorked t s w.0 w.1 → IsHandedBack t first w
worked_back t first s w f h = record {
  like = like;
  finished = λ e. record {
    like = like;
    done = h.done e;
    knows = λ k has. h.knows e k has (λ before. let none : times k (view s).drawn ≡ 0 = ap (times k) f.none in absurd (omega (arith, none, before)));
  };
}
  where
    like : IsLike first w.0
    like = like_by first s w.0 f.like h.board h.kept.truth_is h.kept.opening_is h.kept.end_is

pub handed_back : (t : FactTruth) (first : Seat) (seats : List Seat) (all : List SeatBack) → length all ≡ length seats → AreWorked t seats all → All (IsFresh first) seats → All (IsHandedBack t first) all
handed_back t first seats all long each fresh = λ i d low.
    let inside : i < length seats = omega (arith, low, long) in
    let q = each i d inside in
    worked_back t first q.0 (get_or all i d) (subst (IsFresh first) (sym q.1) (fresh i q.0 inside)) q.2

-- ---- two seats are joined
has_either : (x : ℕ) (a b : List ℕ) → Has (a ++ b) x → Has a x ⊎ Has b x
has_either x a b h = by_sum (times x a) (times x b) (times x (a ++ b)) (times_append x a b) h
  where
    by_sum : (m n s : ℕ) → s ≡ m + n → 1 ≤ s → (1 ≤ m) ⊎ (1 ≤ n)
    by_sum zero n s e h = inr (omega (arith, e, h))
    by_sum (suc m) n s e h = inl (omega arith)

both_true : (a b : Bool) → (a && b) ≡ true → (a ≡ true) × (b ≡ true)
both_true true true e = (refl, refl)
both_true true false e = absurd (false≢true e)
both_true false b e = absurd (false≢true e)

module _ (t : FactTruth) (first s o n : Seat) (board : board_of n ≡ board_of s) (v : view n ≡ joined_view (view s) (view o)) (mine : AreWithin (view s).seen (view n).seen) (theirs : AreWithin (view o).seen (view n).seen) where
  like_joined : IsLike first s → IsLike first n
  like_joined a = like_by first s n a board (ap (λ (x : View FactTruth). x.truth) v) (ap (λ (x : View FactTruth). x.opening) v) (ap (λ (x : View FactTruth). x.end) v)

  knows_still : (u : Seat) → (view n).opening ≡ (view u).opening → AreWithin (view u).seen (view n).seen → (f : ℕ) → KnowsStep t.graph.now f (view u) → KnowsStep t.graph.now f (view n)
  knows_still u same within f knows m st = within m (knows m (subst (λ ws. IsStepBit t.graph.now f ws m) same st))

  finished_both : HasFinished t first s → HasFinished t first o → HasFinished t first n
  finished_both a b = record {
    like = like_joined a.like;
    done = ap (λ (x : View FactTruth). x.done) v ∙ ap (λ d. d || (view o).done) a.done;
    knows = λ k has.
        let same : (view n).opening ≡ (view s).opening = ap (λ (x : View FactTruth). x.opening) v in
        let f = slice_index t.agenda.now k in
        elim (has_either k (view s).drawn (view o).drawn (subst (λ ds. Has ds k) (ap (λ (x : View FactTruth). x.drawn) v) has)) [
          | inl one ↦ knows_still s same mine f (a.knows k one)
          | inr other ↦ knows_still o (same ∙ a.like.opening_is ∙ sym b.like.opening_is) theirs f (b.knows k other)
        ];
  }

  back_joined : (x y : Bool) → IsHandedBack t first (s, x) → IsHandedBack t first (o, y) → IsHandedBack t first (n, x && y)
  back_joined x y a b = record {
    like = like_joined a.like;
    finished = λ e. let q = both_true x y e in finished_both (a.finished q.0) (b.finished q.1);
  }

-- ---- one seat after another
-- of what a team handed back some is left, and the rest was joined to one seat
abbrev pub IsGathered : List SeatBack → List SeatBack → Seat → Bool → Type 0
IsGathered given left s finished = (t : FactTruth) (first : Seat) → All (IsHandedBack t first) given → All (IsHandedBack t first) left × IsHandedBack t first (s, finished)

pub gather_begins : (given left : List SeatBack) (w : SeatBack) → given ≡ left ++ option_to_list (Some w) → IsGathered given left w.0 w.1
gather_begins given left w is t first all =
    let q = All-pop (IsHandedBack t first) given left (Some w) is all in
    (q.0, record { like = q.1.like; finished = q.1.finished })

pub gather_goes : (given now left : List SeatBack) (s n : Seat) (finished : Bool) (w : SeatBack) → IsGathered given now s finished → now ≡ left ++ option_to_list (Some w)
    → board_of n ≡ board_of s → view n ≡ joined_view (view s) (view w.0) → AreWithin (view s).seen (view n).seen × AreWithin (view w.0).seen (view n).seen → IsGathered given left n (finished && w.1)
gather_goes given now left s n finished w h is board v keeps t first all =
    let before = h t first all in
    let q = All-pop (IsHandedBack t first) now left (Some w) is before.0 in
    (q.0, back_joined t first s w.0 n board v keeps.0 keeps.1 finished w.1 before.1 (record { like = q.1.like; finished = q.1.finished }))
