-- What comes from a definition to the vertices of a stretch, by rows of its held words, and what a search for it keeps.
use Rattle.std.specs.Prelude.{◌≡◌, ℕ, ◌+◌, ◌*◌, ◌/◌, ◌<◌, ◌≤◌, ◌⊎◌, true, false, List, [], length, get_or, Contains}
use Rattle.bit_rows.specs.Tables.{Table, Holds, IsSized, IsSubtable, count_all}
use Rattle.bit_rows.specs.Words.{word_bit}
use Rattle.dep_model.specs.declared.skeleton.Pair.{Pair}
use Rattle.dep_model.specs.Follows.{Chain}
use Rattle.reaching_defs.specs.declared.arrivals.Arrivals.{Arrivals}
use Rattle.reaching_defs.specs.declared.definition.Definition.{Definition}
use Rattle.reaching_defs.specs.declared.scratch.Scratch.{Scratch}
use Rattle.reaching_defs.specs.declared.successors.Successors.{Successors}
use Rattle.reaching_defs.specs.HeldWords.{location_at}
use Rattle.reaching_defs.specs.RowFlow.{row_has, Leads}

-- what a bit of a row means: the definition has the location of held bit t, and a chain leads from it to w without a kill
pub record Arrives (pairs : List Pair) (killed : Table) (d : Definition) (w t : ℕ) : Type 0 where
  pub started : word_bit d.words.items t ≡ true
  pub chain : Chain (Leads pairs) (row_has killed) (location_at d.held.items t) d.vertex w

-- held bit t has come to u, which is counted from `base` on and lets its location pass
pub record Passes (base : ℕ) (killed rows : Table) (held : List ℕ) (u t : ℕ) : Type 0 where
  pub come : Holds rows u t
  pub open_ : row_has killed (base + u) (location_at held t) ≡ false

-- as many rows as the sets have numbers
pub record IsRoomy (a : Arrivals) : Type 0 where
  pub sized : IsSized a.reached.bound a.rows.bits a.rows
  pub same : a.grown.bound ≡ a.reached.bound

-- nothing has come anywhere
pub record IsBare (a : Arrivals) : Type 0 where
  pub none : (w t : ℕ) → Holds a.rows w t → ⊥
  pub still : (w : ℕ) → Contains a.grown.members w → ⊥

-- rows lose nothing and gain nothing without a reason; each that has gained is listed, and more is held in all
pub record HasGained (because : ℕ → ℕ → Type 0) (old new : Arrivals) : Type 0 where
  pub roomy : IsRoomy new
  pub bound_stays : new.reached.bound ≡ old.reached.bound
  pub bits_stay : new.rows.bits ≡ old.rows.bits
  pub kept : IsSubtable old.rows new.rows
  pub sound : (w t : ℕ) → Holds new.rows w t → Holds old.rows w t ⊎ because w t
  pub noted : (w t : ℕ) → Holds new.rows w t → Holds old.rows w t ⊎ (Contains new.grown.members w × Contains new.reached.members w)
  pub grown_stay : (w : ℕ) → Contains old.grown.members w → Contains new.grown.members w
  pub reached_stay : (w : ℕ) → Contains old.reached.members w → Contains new.reached.members w
  pub counted : count_all old.rows ≤ count_all new.rows
  pub more : (w : ℕ) → Contains new.grown.members w → Contains old.grown.members w ⊎ (count_all old.rows < count_all new.rows)

-- what a search keeps: what has come is true and is listed; what follows the definition has all of it; and behind each vertex that isn't
-- to be visited again, what passes it has come on
pub record IsSearching (next : Successors) (killed : Table) (d : Definition) (a : Arrivals) : Type 0 where
  pub roomy : IsRoomy a
  pub wide : a.reached.bound ≡ next.stretch.size
  pub fits : 64 * length d.held.items ≤ a.rows.bits
  pub sound : (w t : ℕ) → Holds a.rows w t → Arrives next.pairs.items killed d (next.stretch.first + w) t
  pub seeds : (w t : ℕ) → word_bit d.words.items t ≡ true → Leads next.pairs.items d.vertex (next.stretch.first + w) → Holds a.rows w t
  pub listed : (w t : ℕ) → Holds a.rows w t → Contains a.reached.members w
  pub settled : (u w t : ℕ) → Passes next.stretch.first killed a.rows d.held.items u t → Leads next.pairs.items (next.stretch.first + u) (next.stretch.first + w) → Contains a.grown.members u ⊎ Holds a.rows w t

-- the held bits are those of the locations that the vertex has in a table
pub record IsOfRow (t : Table) (d : Definition) : Type 0 where
  pub long : length d.words.items ≡ length d.held.items
  pub inside : (j : ℕ) → j < length d.held.items → get_or d.held.items j 0 < (t.bits + 63) / 64
  pub sound : (b : ℕ) → word_bit d.words.items b ≡ true → row_has t d.vertex (location_at d.held.items b) ≡ true
  pub whole : (k : ℕ) → row_has t d.vertex k ≡ true → (b : ℕ) × (word_bit d.words.items b ≡ true) × (location_at d.held.items b ≡ k)
  pub few : (k : ℕ) → row_has t d.vertex k ≡ true → k < t.bits

-- a location that has come to w may be used there; w is counted from `base` on
pub record IsMet (base : ℕ) (d : Definition) (rows used : Table) (w : ℕ) : Type 0 where
  pub bit : ℕ
  pub early : bit < 64 * length d.held.items
  pub here : Holds rows w bit
  pub there : row_has used (base + w) (location_at d.held.items bit) ≡ true

-- what searches work on, for a stretch of n vertices, while none is under way
pub record IsAtRest (n : ℕ) (x : Scratch) : Type 0 where
  pub reached : x.reached.bound ≡ n
  pub targets : x.targets.bound ≡ n
  pub roomy : IsRoomy x.arrivals
  pub wide : x.arrivals.reached.bound ≡ n
  pub bits : x.arrivals.rows.bits ≡ 64 * x.width
  pub few : x.width ≤ 64
  pub bare : IsBare x.arrivals
  pub turn : x.turn ≡ record { bound = n; members = [] }
