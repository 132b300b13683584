-- What each step tells.
use Rattle.std.specs.Prelude.{◌≡◌, ℕ, zero, suc, ◌+◌, ◌*◌, ◌<◌, ◌≤◌, slice_index, Some}
use Rattle.std.specs.Int.{bit_at}
use Rattle.atomic_table.specs.Table.{Me, Step}
use Rattle.crew.specs.declared.view.View.{View}
use Rattle.crew.specs.Counts.{Has}
use Rattle.crew.specs.SharedWords.{IsWithin}
use Rattle.crew.specs.Views.{looked_view, put_view, drawn_view, done_view}

-- a word that was found holds true facts alone, and all that the seat saw, set and began with
pub record IsFound {T : Type 0} (True? : T → ℕ → Type 0) (v : View T) (w found : ℕ) : Type 0 where
  pub only_true : (t : T) (i : ℕ) → v.truth ≡ Some t → bit_at found i ≡ 1 → True? t (64 * w + i)
  pub has_seen : IsWithin (slice_index v.seen w) found
  pub has_set : IsWithin (slice_index v.set w) found
  pub has_opening : IsWithin (slice_index v.opening w) found

-- the number of the fact word that a word of the table is: the draw word stands in front of them
abbrev pub fact_word : ℕ → ℕ
fact_word zero = 0
fact_word (suc n) = n

pub record Looked {S T : Type 0} (True? : T → ℕ → Type 0) (st : Step S) (me : Me S (View T)) (found : ℕ) (after : Me S (View T)) : Type 0 where
  pub view : after ≡ (looked_view me.0 (fact_word st.word) found, me.1)
  pub word : IsFound True? me.0 (fact_word st.word) found

pub record Put {S T : Type 0} (True? : T → ℕ → Type 0) (st : Step S) (me : Me S (View T)) (found : ℕ) (after : Me S (View T)) : Type 0 where
  pub view : after ≡ (put_view me.0 (fact_word st.word) st.first found, me.1)
  pub word : IsFound True? me.0 (fact_word st.word) found

-- a number below the end is drawn, and stands above all that the seat drew before
pub record Drew {S T : Type 0} (st : Step S) (me : Me S (View T)) (found : ℕ) (after : Me S (View T)) : Type 0 where
  pub drawn : found < me.0.end → after ≡ (drawn_view me.0 found, me.1)
  pub done : me.0.end ≤ found → after ≡ (done_view me.0, me.1)
  pub above : (x : ℕ) → Has me.0.drawn x → x < found
