-- Pairs of a way into a function and a result of it: a bit for each.
use Rattle.std.specs.Prelude.{◌≡◌, ◌≢◌, ℕ, ◌+◌, ◌-◌, ◌<◌, ◌≤◌, ◌^◌, ◌⊎◌, ◌&&◌, nat_lt, Bool, true, false, List, length, get_or, slice_set, IsTrue}
use Rattle.bit_rows.specs.Sets.{has, count_of}
use Rattle.matched_paths.specs.declared.vertex_range.VertexRange.{VertexRange}
use Rattle.matched_paths.specs.VertexRanges.{within}
use Rattle.forward_chop.specs.declared.wanted.Wanted.{Wanted}

abbrev pub no_range : VertexRange
no_range = record { first = 0; last = 0 }

-- the results with which a way in may be paired
abbrev pub outs_of : Wanted → ℕ → VertexRange
outs_of w x = get_or w.outs.items x no_range

-- whether there is a bit for a pair
abbrev pub covers : Wanted → ℕ → ℕ → Bool
covers w x o = nat_lt x (length w.outs.items) && within (outs_of w x) o

-- the number of its bit
abbrev pub place_of : Wanted → ℕ → ℕ → ℕ
place_of w x o = get_or w.places.items x 0 + (o - (outs_of w x).first)

-- whether a pair is asked for
abbrev pub asks : Wanted → ℕ → ℕ → Bool
asks w x o = covers w x o && has w.pairs (place_of w x o)

-- the bits of a way in stand one after another, and those of two ways in apart
pub record IsLaid (w : Wanted) : Type 0 where
  pub places_long : length w.places.items ≡ length w.outs.items
  pub due_long : length w.due.items ≡ length w.outs.items
  pub few : length w.pairs < 2 ^ 32
  pub room : (x : ℕ) → x < length w.outs.items → get_or w.places.items x 0 + ((outs_of w x).last - (outs_of w x).first) ≤ length w.pairs
  pub apart : (x y : ℕ) → x < y → y < length w.outs.items → get_or w.places.items x 0 + ((outs_of w x).last - (outs_of w x).first) ≤ get_or w.places.items y 0

-- pairs of P are asked for besides, where there is a bit for them, and a way in that gained one is due
pub record HasAsked (P : ℕ → ℕ → Type 0) (old new : Wanted) (grows : Bool) : Type 0 where
  pub laid : IsLaid new
  pub long : length new.pairs ≡ length old.pairs
  pub outs_same : new.outs.items ≡ old.outs.items
  pub kept : (x o : ℕ) → IsTrue (asks old x o) → IsTrue (asks new x o)
  pub sound : (x o : ℕ) → IsTrue (asks new x o) → IsTrue (asks old x o) ⊎ P x o
  pub held : (x o : ℕ) → P x o → IsTrue (covers old x o) → IsTrue (asks new x o)
  pub due_kept : (x : ℕ) → IsTrue (has old.due.items x) → IsTrue (has new.due.items x)
  pub due_new : (x o : ℕ) → IsTrue (asks new x o) → IsTrue (asks old x o) ⊎ IsTrue (has new.due.items x)
  pub none : grows ≡ false → (new.pairs ≡ old.pairs) × (new.due.items ≡ old.due.items)
  pub more : grows ≡ true → count_of old.pairs < count_of new.pairs

-- a way in isn't due any more, and nothing else has changed
pub record IsTaken (x : ℕ) (old new : Wanted) : Type 0 where
  pub laid : IsLaid new
  pub outs_same : new.outs.items ≡ old.outs.items
  pub same : (y o : ℕ) → asks new y o ≡ asks old y o
  pub pairs_same : new.pairs ≡ old.pairs
  pub down : has new.due.items x ≡ false
  pub others : (y : ℕ) → y ≢ x → has new.due.items y ≡ has old.due.items y

-- a bit is set, and its way in is due
pub record IsPairSet (x place : ℕ) (old new : Wanted) : Type 0 where
  pub outs_same : new.outs ≡ old.outs
  pub places_same : new.places ≡ old.places
  pub pairs_are : new.pairs ≡ slice_set old.pairs place true
  pub due_is : new.due.items ≡ slice_set old.due.items x true

-- no pair is asked for, and no way in is due
pub record IsCleared (old new : Wanted) : Type 0 where
  pub laid : IsLaid new
  pub outs_same : new.outs.items ≡ old.outs.items
  pub none : (x o : ℕ) → IsTrue (asks new x o) → ⊥
  pub none_due : (x : ℕ) → has new.due.items x ≡ false

-- the bits of ways in one behind the other, and the number behind the last
pub record AreSpaces (outs : List VertexRange) (places : List ℕ) (end : ℕ) : Type 0 where
  pub long : length places ≡ length outs
  pub few : end < 2 ^ 32
  pub room : (x : ℕ) → x < length outs → get_or places x 0 + ((get_or outs x no_range).last - (get_or outs x no_range).first) ≤ end
  pub apart : (x y : ℕ) → x < y → y < length outs → get_or places x 0 + ((get_or outs x no_range).last - (get_or outs x no_range).first) ≤ get_or places y 0
