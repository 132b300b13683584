-- What holds of a board between any two steps, whatever the threads do.
use Rattle.std.specs.Prelude.{◌≡◌, ℕ, ◌+◌, ◌<◌, ◌≤◌, min, List, ◌∷◌, length}
use mathlib.Core.Option.{some}
use lib.ListN.{get_elem?}
use Rattle.atomic_table.specs.Table.{State}
use Rattle.crew.specs.declared.view.View.{View}
use Rattle.crew.specs.Counts.{total, times, once_below}
use Rattle.crew.specs.SharedWords.{Holds, bit}
use Rattle.crew.specs.Machine.{Putting, IsReached}
use Rattle.crew.specs.Shows.{shown}
use Rattle.crew.specs.Views.{Fits, weight, open_weight}

-- word 0 is the draw word, the others are the fact words
pub record IsBoard {S T : Type 0} (True? : T → ℕ → Type 0) (May : T → Putting) (t : T) (start : List ℕ) (end_ : ℕ) (s : State S (View T)) : Type 0 where
  pub short : end_ + 16 < 4294967296
  pub draws : ℕ
  pub facts : List ℕ
  pub words_are : s.words ≡ draws ∷ facts
  pub long : length facts ≡ length start
  -- only true facts
  pub only_true : (n : ℕ) → Holds facts n → True? t n
  -- a bit that is set was set at the opening, or newly by exactly one seat
  pub counted : (w i : ℕ) → bit facts w i ≡ bit start w i + total (λ v. bit v.set w i) s.views
  pub each : (id : ℕ) (v : View T) → get_elem? s.views id ≡ some v → Fits t start end_ draws facts v
  -- the numbers below the draw word and the end were drawn, each once
  pub drawn : (x : ℕ) → total (λ v. times x v.drawn) s.views ≡ once_below x (min draws end_)
  -- at most sixteen seats
  pub spare : total weight s.views ≤ 16
  -- the draw word passes the end by no more than there are seats that found no number
  pub room : draws + total open_weight s.views ≤ end_ + 16
  pub reached : IsReached (May t) end_ start (shown draws facts s.views)
