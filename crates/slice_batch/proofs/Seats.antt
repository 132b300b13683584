-- Seats of a board from which numbers are drawn, and what workers hand back with them.
use Rattle.std.proofs.Common.{◌≡◌, ℕ, zero, suc, ◌+◌, ◌<◌, ◌≤◌, ◌⊎◌, ◌++◌, List, [], ◌∷◌, length, get_or, eqb, inl, inr, refl, ap, ◌∙◌, arith}
use Rattle.std.proofs.lemmas.Bool.{cases_eq, eq-eqb, ne_eqb}
use Rattle.atomic_table.specs.Seated.{TableId}
use Rattle.crew.specs.declared.board.BoardSeat.{BoardSeat}
use Rattle.crew.specs.declared.truth.Numbers.{Numbers}
use Rattle.crew.specs.declared.view.View.{View}
use Rattle.crew.specs.Counts.{Has, times, once_below, one_if}
use Rattle.crew.specs.Seats.{view, board_of}
use Rattle.crew.specs.Views.{giver_view, split_view}
use Rattle.crew.proofs.CountLemmas.{once_past, times_append, total_snoc}
use Rattle.slice_batch.specs.declared.worker.Worked.{Worked}
use Rattle.slice_batch.specs.Team.{IsFresh, IsSeatOf, part, parts, worked_parts}

module _ (board : TableId) (count : ℕ) where
  pub seat_kept : (s n : BoardSeat Numbers) → IsSeatOf board count s → board_of n ≡ board_of s → (view n).end ≡ (view s).end → IsSeatOf board count n
  seat_kept s n a is e = record { of_board = is ∙ a.of_board; end_is = e ∙ a.end_is }

  -- a seat that gives another one away, and that one
  pub fresh_giver : (s n : BoardSeat Numbers) → IsFresh board count s → board_of n ≡ board_of s → view n ≡ giver_view (view s) → IsFresh board count n
  fresh_giver s n a is v = record {
    is_seat = seat_kept s n a.is_seat is (ap (λ (x : View Numbers). x.end) v);
    none = ap (λ (x : View Numbers). x.drawn) v ∙ a.none;
  }

  pub fresh_split : (s n : BoardSeat Numbers) → IsFresh board count s → board_of n ≡ board_of s → view n ≡ split_view (view s) → IsFresh board count n
  fresh_split s n a is v = record {
    is_seat = seat_kept s n a.is_seat is (ap (λ (x : View Numbers). x.end) v);
    none = ap (λ (x : View Numbers). x.drawn) v;
  }

-- ---- the parts of a board

pub parts_more : (seats all : List (BoardSeat Numbers)) (s : BoardSeat Numbers) → all ≡ seats ++ s ∷ [] → parts all ≡ parts seats + part s
parts_more seats all s is = ap parts is ∙ total_snoc part seats s

pub worked_more : (ws all : List Worked) (w : Worked) → all ≡ ws ++ w ∷ [] → worked_parts all ≡ worked_parts ws + part w.seat
worked_more ws all w is = ap worked_parts is ∙ total_snoc (λ (x : Worked). part x.seat) ws w

-- workers hand back seats with as many parts as they were given
pub parts_same : (seats : List (BoardSeat Numbers)) (all : List Worked) → length all ≡ length seats
    → ((i : ℕ) (d : Worked) → i < length seats → (s : BoardSeat Numbers) × (s ≡ get_or seats i s) × ((view (get_or all i d).seat).spare ≡ (view s).spare))
    → worked_parts all ≡ parts seats
parts_same [] [] long each = refl
parts_same [] (w ∷ ws) long each = absurd (omega arith)
parts_same (s ∷ ss) [] long each = absurd (omega arith)
parts_same (s ∷ ss) (w ∷ ws) long each =
    let here = each 0 w (omega arith) in
    let same = here.2 ∙ ap (λ (x : BoardSeat Numbers). (view x).spare) here.1 in
    let more = parts_same ss ws (omega arith) (λ i d low. each (suc i) d (omega (arith, low))) in
    omega arith

-- ---- numbers

pub has_either : (x : ℕ) (a b : List ℕ) → Has (a ++ b) x → Has a x ⊎ Has b x
has_either x a b h = by_sum (times x a) (times x b) (times x (a ++ b)) (times_append x a b) h
  where
    by_sum : (m n s : ℕ) → s ≡ m + n → 1 ≤ s → (1 ≤ m) ⊎ (1 ≤ n)
    by_sum zero n s e h = inr (omega arith)
    by_sum (suc m) n s e h = inl (omega arith)

pub is_only : (x y : ℕ) → Has (y ∷ []) x → x ≡ y
is_only x y h = elim (cases_eq x y) [
  | inl e ↦ e
  | inr ne ↦ let z : one_if (eqb x y) ≡ 0 = ap one_if (ne_eqb x y ne) in absurd (omega arith)
]

pub once_inside : (x n : ℕ) → x < n → once_below x n ≡ 1
once_inside x zero low = absurd (omega (arith, low))
once_inside x (suc n) low = elim (cases_eq x n) [
  | inl e ↦ let none = once_past x n (omega arith) in let one : one_if (eqb x n) ≡ 1 = ap one_if (eq-eqb x n e) in omega arith
  | inr ne ↦ let once = once_inside x n (omega arith) in let zero : one_if (eqb x n) ≡ 0 = ap one_if (ne_eqb x n ne) in omega arith
]
