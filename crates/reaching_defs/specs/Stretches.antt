-- Vertices by their places in a stretch of numbers, and what flows between them.
use Rattle.std.specs.Prelude.{◌≡◌, ◌≢◌, ℕ, ◌+◌, ◌-◌, ◌<◌, ◌≤◌, true, List, length, get_or, All}
use Rattle.reaching_defs.specs.declared.successors.Successors.{Successors}
use Rattle.dep_model.specs.declared.skeleton.Pair.{Pair}
use Rattle.dep_model.specs.declared.skeleton.Skeleton.{Skeleton}
use Rattle.dep_model.specs.Follows.{Chain}
use Rattle.reaching_defs.specs.RowFlow.{row_has, Leads}

-- both ends of a pair are among the n numbers from `base` on
pub record IsPairAmong (base n : ℕ) (x : Pair) : Type 0 where
  pub from_low : base ≤ x.from
  pub from_high : x.from < base + n
  pub to_low : base ≤ x.to
  pub to_high : x.to < base + n

-- h - 1 is the last place below `at` of a pair from v, or h is 0 where there is none
pub record IsLastFrom (pairs : List Pair) (v at h : ℕ) : Type 0 where
  pub below : h ≤ at
  pub here : 0 < h → (x : Pair) → get_or pairs (h - 1) x ≡ x → x.from ≡ v
  pub above : (e : ℕ) (x : Pair) → h ≤ e → e < at → get_or pairs e x ≡ x → x.from ≢ v

-- from each of the n vertices from `base` on, and from each pair, the last pair before from the same vertex
pub record IsIndexed (base n : ℕ) (pairs : List Pair) (heads nexts : List ℕ) : Type 0 where
  pub wide : length heads ≡ n
  pub long : length nexts ≡ length pairs
  pub heads_are : (u : ℕ) → u < n → IsLastFrom pairs (base + u) (length pairs) (get_or heads u 0)
  pub nexts_are : (e : ℕ) (x : Pair) → e < length pairs → get_or pairs e x ≡ x → IsLastFrom pairs x.from e (get_or nexts e 0)

-- the pairs stay among the vertices of the stretch and are found from the vertex that they begin at
pub record AreSuccessors (s : Successors) : Type 0 where
  pub inside : All (IsPairAmong s.stretch.first s.stretch.size) s.pairs.items
  pub indexed : IsIndexed s.stretch.first s.stretch.size s.pairs.items s.heads.items s.nexts.items

-- v may define location k, w may use it, and a chain leads from v to w without a kill
pub record FlowsBy (s : Skeleton) (pairs : List Pair) (k v w : ℕ) : Type 0 where
  pub defined : row_has s.defined v k ≡ true
  pub used : row_has s.used w k ≡ true
  pub chain : Chain (Leads pairs) (row_has s.killed) k v w

-- one of the locations from `low` on and below `high` flows from v to w
pub record FlowsAmong (low high : ℕ) (s : Skeleton) (pairs : List Pair) (v w : ℕ) : Type 0 where
  pub location : ℕ
  pub above : low ≤ location
  pub below : location < high
  pub flows : FlowsBy s pairs location v w
