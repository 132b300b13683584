-- What a seat knows, and how each call changes it.
use Rattle.std.specs.Prelude.{◌≡◌, ℕ, ◌+◌, ◌-◌, ◌≤◌, true, false, ◌||◌, cond, List, [], ◌∷◌, ◌++◌, map, length, slice_index, slice_set, bit_or, Some, None}
use Rattle.crew.specs.declared.view.View.{View}
use Rattle.crew.specs.SharedWords.{bit, union, new_bits}

module _ {T : Type 0} where
  -- the first seat of a board has seen the opening words, and has drawn and set nothing
  abbrev pub first_view : T → List ℕ → ℕ → View T
  first_view t start end_ = record { live = true; truth = Some t; opening = start; end = end_; seen = start; set = map (λ _. 0) start; drawn = []; done = false; spare = 15 }

  -- a seat that was joined to another keeps nothing
  abbrev pub spent_view : View T
  spent_view = record { live = false; truth = None; opening = []; end = 0; seen = []; set = []; drawn = []; done = false; spare = 0 }

  -- a word was seen, and is as it was found
  abbrev pub looked_view : View T → ℕ → ℕ → View T
  looked_view v w found = record v { seen = slice_set v.seen w found }

  -- bits were put into a word: all of them are seen, and those are newly set that it lacked as it was found
  abbrev pub put_view : View T → ℕ → ℕ → ℕ → View T
  put_view v w bits found = record v { seen = slice_set v.seen w (bit_or (slice_index v.seen w) bits); set = slice_set v.set w (bit_or (slice_index v.set w) (new_bits bits found)) }

  abbrev pub drawn_view : View T → ℕ → View T
  drawn_view v n = record v { drawn = v.drawn ++ n ∷ [] }

  abbrev pub done_view : View T → View T
  done_view v = record v { done = true }

  -- who gives a seat away has one fewer to give
  abbrev pub giver_view : View T → View T
  giver_view v = record v { spare = v.spare - 1 }

  -- a seat that was split off has seen as much, and has drawn and set nothing
  abbrev pub split_view : View T → View T
  split_view v = record v { set = map (λ _. 0) v.set; drawn = []; spare = 0 }

  -- all that both saw, set and drew
  abbrev pub joined_view : View T → View T → View T
  joined_view v u = record v { seen = union v.seen u.seen; set = union v.set u.set; drawn = v.drawn ++ u.drawn; done = v.done || u.done; spare = v.spare + u.spare + 1 }

  -- the seats that a seat stands for: itself, and those that may still be split off
  abbrev pub weight : View T → ℕ
  weight v = cond v.live (v.spare + 1) 0

  -- those of them that may still draw
  abbrev pub open_weight : View T → ℕ
  open_weight v = cond v.live (cond v.done 0 (v.spare + 1)) 0

  -- a seat names the truth, the opening words and the end of its board
  pub record IsNamed (t : T) (start : List ℕ) (end_ : ℕ) (v : View T) : Type 0 where
    pub truth : v.truth ≡ Some t
    pub opening : v.opening ≡ start
    pub end_is : v.end ≡ end_
    pub seen_long : length v.seen ≡ length start
    pub set_long : length v.set ≡ length start

  pub record IsEmpty (v : View T) : Type 0 where
    pub set : v.set ≡ []
    pub drawn : v.drawn ≡ []
    pub seen : v.seen ≡ []

  -- a view fits the draw word and the fact words: what was seen is set, and who is done found no number left
  pub record Fits (t : T) (start : List ℕ) (end_ : ℕ) (draws : ℕ) (facts : List ℕ) (v : View T) : Type 0 where
    pub named : v.live ≡ true → IsNamed t start end_ v
    pub spent : v.live ≡ false → IsEmpty v
    pub seen : (w i : ℕ) → bit v.seen w i ≤ bit facts w i
    pub done : v.done ≡ true → end_ ≤ draws
