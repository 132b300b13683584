-- The order in which the vertices of a function may be done, and flow edges between them.
use Rattle.std.specs.Prelude.{◌≡◌, ℕ, ℤ, List, [], ◌∷◌, Bool, true, false, Option, Some, None, ◌⊎◌}
use Rattle.c_language.specs.Code.{Act, Tests, Code, End, Opens, Plain, Fork, Loop, Leaves, Call}

-- the first of some vertices, or k where there is none
abbrev pub enters : {V : Type 0} → List V → Option V → Option V
enters [] k = k
enters (v ∷ vs) k = Some v

-- each of some vertices is followed by the next, and the last one by k
abbrev pub InTurn : {V : Type 0} → List V → Option V → V → Option V → Type 0
InTurn [] k v w = ⊥
InTurn (x ∷ xs) k v w = ((v ≡ x) × (w ≡ enters xs k)) ⊎ InTurn xs k v w

-- the vertices of each statement in their order, by its number and its act; a call has no act of its own
abbrev pub VerticesAt : Type 0 → Type 0
VerticesAt V = ℕ → Option Act → List V

module _ {V : Type 0} (at : VerticesAt V) where
  -- the vertex at which a list is entered, or k where it has none
  abbrev pub start : Code → Option V → Option V
  start End k = k
  start (Opens x r) k = start r k
  start (Plain i a r) k = enters (at i (Some a)) (start r k)
  start (Fork i e c r) k = enters (at i (Some (Tests e))) (start r k)
  start (Loop i e b r) k = enters (at i (Some (Tests e))) (start r k)
  start (Leaves xs r) k = start r k
  start (Call i to f args r) k = enters (at i None) (start r k)

  -- w may be done directly after v, in a list that k follows: a test is followed by the lists of its values,
  -- a loop's test by its body and by what comes after the loop, and the body by the test
  abbrev pub Follows : Code → Option V → V → Option V → Type 0
  Follows End k v w = ⊥
  Follows (Opens x r) k v w = Follows r k v w
  Follows (Plain i a r) k v w = InTurn (at i (Some a)) (start r k) v w ⊎ Follows r k v w
  Follows (Fork i e c r) k v w =
      ((x : ℤ) × InTurn (at i (Some (Tests e))) (start (c x) (start r k)) v w) ⊎ (((x : ℤ) × Follows (c x) (start r k) v w) ⊎ Follows r k v w)
  Follows (Loop i e b r) k v w =
      InTurn (at i (Some (Tests e))) (start b (enters (at i (Some (Tests e))) (start r k))) v w ⊎ (InTurn (at i (Some (Tests e))) (start r k) v w ⊎ (Follows b (enters (at i (Some (Tests e))) (start r k)) v w ⊎ Follows r k v w))
  Follows (Leaves xs r) k v w = Follows r k v w
  Follows (Call i to f args r) k v w = InTurn (at i None) (start r k) v w ⊎ Follows r k v w

-- one pair or more of an order from v to w, with no kill of l strictly between
pub data Chain {V L : Type 0} (order : V → V → Type 0) (kills : V → L → Bool) (l : L) : V → V → Type 0 where
  last : {v w : V} → order v w → Chain order kills l v w
  more : {v u w : V} → order v u → kills u l ≡ false → Chain order kills l u w → Chain order kills l v w

-- what the vertices may define, may use and kill
pub record EffectsOf (V L : Type 0) : Type 0 where
  pub defines : V → L → Bool
  pub uses : V → L → Bool
  pub kills : V → L → Bool

-- v may define a location that w may use, and a chain without a kill leads from v to w
pub record Flows {V L : Type 0} (order : V → V → Type 0) (effects : EffectsOf V L) (v w : V) : Type 0 where
  pub location : L
  pub defined : effects.defines v location ≡ true
  pub used : effects.uses w location ≡ true
  pub chain : Chain order effects.kills location v w
