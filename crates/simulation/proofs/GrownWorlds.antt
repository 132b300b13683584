-- What holds at a world holds at a world that has grown from it.
use Rattle.std.proofs.Common.{ℕ, [], ◌∷◌, ◌++◌, append_assoc, append-nil, Option, refl, sym, ap, ◌∙◌, subst}
use Rattle.c_meaning.specs.declared.value.Value.{Value}
use Rattle.run_facts.proofs.Blocks.{get_more}
use Rattle.simulation.specs.Renaming.{World, Stands, Grows, AlikeValue, number, null, pointer, AlikeCell, empty, held, Names, BothStand, neither, both}

pub world_same : (w : World) → Grows w w
world_same w = record { more = []; world_is = sym (append-nil w) }

pub world_on : (w u v : World) → Grows w u → Grows u v → Grows w v
world_on w u v g h = record { more = g.more ++ h.more; world_is = h.world_is ∙ (ap (λ z. z ++ h.more) g.world_is ∙ append_assoc w g.more h.more) }

-- a block more stands for another
pub world_more : (w : World) (b : ℕ) → Grows w (w ++ b ∷ [])
world_more w b = record { more = b ∷ []; world_is = refl }

module _ (w u : World) (g : Grows w u) where
  pub grown_stands : (b c : ℕ) → Stands w b c → Stands u b c
  grown_stands b c e = subst (λ v. Stands v b c) (sym g.world_is) (get_more w g.more c b e)

  pub grown_value : (v z : Value) → AlikeValue w v z → AlikeValue u v z
  grown_value v z number = number
  grown_value v z null = null
  grown_value v z (pointer {b = b} {c = c} e) = pointer (grown_stands b c e)

  pub grown_cell : (v z : Option Value) → AlikeCell w v z → AlikeCell u v z
  grown_cell v z empty = empty
  grown_cell v z (held {u = a} {v = b} h) = held (grown_value a b h)

  pub grown_both : (names : Names) (o q : Option ℕ) → BothStand names w o q → BothStand names u o q
  grown_both names o q neither = neither
  grown_both names o q (both {b = b} {c = c} e) = both (grown_stands b c e)
