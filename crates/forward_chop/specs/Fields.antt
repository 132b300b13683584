-- Two searches over the same vertices, and the pairs for which what they mark asks.
use Rattle.std.specs.Prelude.{◌≡◌, ◌↔◌, ℕ, ◌+◌, ◌-◌, ◌<◌, ◌≤◌, ◌^◌, ◌&&◌, Bool, List, length, Option, None, Some, Contains, IsTrue}
use Rattle.bit_rows.specs.Sets.{has}
use Rattle.rule_closure.specs.declared.closure.Rule.{Rule}
use Rattle.dep_model.specs.declared.edge.Edge.{Edge}
use Rattle.dep_model.specs.declared.edge.Label.{Label}
use Rattle.dep_model.specs.declared.edge.Label.TheVariants.{Control, Flow, Call, In, Out}
use Rattle.matched_paths.specs.EdgeGroups.{group_at}
use Rattle.matched_paths.specs.StepRules.{IsBack}
use Rattle.matched_paths.specs.declared.vertex_range.VertexRange.{VertexRange}
use Rattle.matched_paths.specs.VertexRanges.{within, IsInRange}
use Rattle.forward_chop.specs.declared.field.Field.{Field}
use Rattle.forward_chop.specs.declared.wanted.Wanted.{Wanted}
use Rattle.forward_chop.specs.Pairs.{asks}

-- the call that an edge opens
abbrev pub opened : Label → Option ℕ
opened Control = None
opened Flow = None
opened (Call c) = Some c
opened (In c) = Some c
opened (Out c) = None

-- whether a vertex of the range is marked, where `base` is the number of the first
abbrev pub is_marked : List Bool → VertexRange → ℕ → ℕ → Bool
is_marked marks range base v = within range v && has marks (base + (v - range.first))

-- there are marks for the numbers from `base` on
pub record HasRoom (f : Field) (base : ℕ) : Type 0 where
  pub reached_room : base + (f.range.last - f.range.first) ≤ length f.reached
  pub reaching_room : base + (f.range.last - f.range.first) ≤ length f.reaching
  pub reached_few : length f.reached < 2 ^ 32
  pub reaching_few : length f.reaching < 2 ^ 32

abbrev pub IsAhead : Field → ℕ → ℕ → Type 0
IsAhead f base v = IsTrue (is_marked f.reached f.range base v)

abbrev pub IsBehind : Field → ℕ → ℕ → Type 0
IsBehind f base v = IsTrue (is_marked f.reaching f.range base v)

-- a pair for which a call asks: entered at x, and left from o to what is behind
pub record LeavesFrom (f : Field) (base enter : ℕ) (leaves : List Edge) (x o : ℕ) : Type 0 where
  pub leave : Edge
  pub listed : Contains leaves leave
  pub behind : IsBehind f base leave.to
  pub x_is : x ≡ enter
  pub o_is : o ≡ leave.from

-- a pair for which an edge asks that opens a call and leads from what is ahead
pub record AsksBy (f : Field) (base : ℕ) (exits : List (List Edge)) (e : Edge) (x o : ℕ) : Type 0 where
  pub call : ℕ
  pub opens : opened e.label ≡ Some call
  pub ahead : IsAhead f base e.from
  pub leaves : LeavesFrom f base e.to (group_at exits call) x o

-- one for which some edge asks
pub record AsksFrom (f : Field) (base : ℕ) (edges : List Edge) (exits : List (List Edge)) (x o : ℕ) : Type 0 where
  pub edge : Edge
  pub listed : Contains edges edge
  pub asks : AsksBy f base exits edge x o

-- only the marks have changed, and there is still room for them
pub record HaveMarksChanged (old new : Field) : Type 0 where
  pub range_same : new.range ≡ old.range
  pub ahead_same : new.ahead ≡ old.ahead
  pub behind_same : new.behind ≡ old.behind
  pub reached_long : length new.reached ≡ length old.reached
  pub reaching_long : length new.reaching ≡ length old.reaching

-- each rule has one premise
abbrev pub HaveOnePremise : List Rule → Type 0
HaveOnePremise rules = (r : Rule) → Contains rules r → r.second ≡ r.first

-- the marks are as long as the range, and for its numbers
pub record IsFitted (f : Field) : Type 0 where
  pub order : f.range.first ≤ f.range.last
  pub few : f.range.last < 2 ^ 32
  pub ahead_size : f.ahead.size ≡ f.range.last - f.range.first
  pub behind_size : f.behind.size ≡ f.range.last - f.range.first
  pub reached_long : length f.reached ≡ f.range.last - f.range.first
  pub reaching_long : length f.reaching ≡ f.range.last - f.range.first
  pub behind_one : HaveOnePremise f.behind.rules

-- k is the number of a result that is asked for with x
pub record IsOutOf (range : VertexRange) (w : Wanted) (x k : ℕ) : Type 0 where
  pub out : ℕ
  pub asked : IsTrue (asks w x out)
  pub inside : IsInRange range out
  pub number : k ≡ out - range.first

-- some marked number leads back to k
pub record IsBackFrom (rules : List Rule) (marked : ℕ → Type 0) (k : ℕ) : Type 0 where
  pub start : ℕ
  pub here : marked start
  pub goes : IsBack rules start k

-- marked is what is ahead of x, and what is behind the results that are asked for with it
pub record IsSearched (w : Wanted) (x : ℕ) (f : Field) : Type 0 where
  pub fitted : IsFitted f
  pub reached_is : (k : ℕ) → IsTrue (has f.reached k) ↔ IsBack f.ahead.rules (x - f.range.first) k
  pub reaching_is : (k : ℕ) → IsTrue (has f.reaching k) ↔ IsBackFrom f.behind.rules (IsOutOf f.range w x) k
