-- Variables that are gone: what the others hold once a block has ended.
use Rattle.std.proofs.Common.{◌≡◌, ◌≢◌, ℕ, [], Option, Some, None, true, inl, inr, refl, sym, ap, ◌∙◌}
use Rattle.std.specs.Prelude.{is_some, option_map, option_and_then}
use Rattle.std.proofs.lemmas.Bool.Decides.{eqb_tells}
use Rattle.c_meaning.specs.Memory.{Memory, cell_in, is_cell, held, read, gone}
use Rattle.c_meaning.specs.Values.{State, whole, leave_block, variable_closed}
use Rattle.c_meaning.proofs.Frames.{variable_value, IsFramed, get_other, bound_here, bound_other}

-- ---- a block that is gone

-- another block has the cell that it had
live_beside : (m : Memory) (o : Option ℕ) (c : ℕ) → (o ≡ Some c → ⊥) → is_cell (leave_block o m) (whole c) ≡ is_cell m (whole c)
live_beside m None c other = refl
live_beside m (Some b) c other =
    ap (λ k. is_some (option_and_then (cell_in m.structs []) k)) (get_other gone b c m.blocks (λ e. other (ap Some e)))

-- and holds what it held
held_beside : (m : Memory) (o p : Option ℕ) → ((c : ℕ) → o ≡ Some c → p ≡ Some c → ⊥) → option_and_then (read (leave_block o m)) (option_map whole p) ≡ option_and_then (read m) (option_map whole p)
held_beside m None p other = refl
held_beside m (Some b) None other = refl
held_beside m (Some b) (Some c) other =
    ap (λ k. option_and_then held (option_and_then (cell_in m.structs []) k)) (get_other gone b c m.blocks (λ e. other c (ap Some e) refl))

-- ---- a variable that is gone

module _ (s : State) (x : ℕ) (framed : IsFramed s) where
  pub closed_here : (variable_closed x s).frame x ≡ None
  closed_here = bound_here s.frame x None

  pub closed_other : (y : ℕ) → x ≢ y → (variable_closed x s).frame y ≡ s.frame y
  closed_other y ne = bound_other s.frame x y None ne

  -- it holds nothing
  pub gone_here : variable_value x (variable_closed x s) ≡ None
  gone_here = ap (λ o. option_and_then (read (variable_closed x s).memory) (option_map whole o)) closed_here

  -- another holds what it held
  pub closed_elsewhere : (y : ℕ) → x ≢ y → variable_value y (variable_closed x s) ≡ variable_value y s
  closed_elsewhere y ne =
      ap (λ o. option_and_then (read (variable_closed x s).memory) (option_map whole o)) (closed_other y ne) ∙ held_beside s.memory (s.frame x) (s.frame y) (λ c e k. ne (framed.apart x y c e k))

  -- what has begun now is another variable, and had begun before
  pub before_closing : (y b : ℕ) → (variable_closed x s).frame y ≡ Some b → (x ≢ y) × (s.frame y ≡ Some b)
  before_closing y b e =
      elim (eqb_tells x y) [
        | inl w ↦ let none : None ≡ Some b = sym closed_here ∙ (ap (λ z. (variable_closed x s).frame z) w.1 ∙ e) in cc
        | inr w ↦ (w.1, sym (closed_other y w.1) ∙ e)
      ]

  alive_closed : (y b : ℕ) → (variable_closed x s).frame y ≡ Some b → is_cell (variable_closed x s).memory (whole b) ≡ true
  alive_closed y b e =
      let h = before_closing y b e in
      live_beside s.memory (s.frame x) b (λ k. h.0 (framed.apart x y b k h.1)) ∙ framed.alive y b h.1

  pub closed_framed : IsFramed (variable_closed x s)
  closed_framed = record {
    alive = alive_closed;
    apart = λ y z b e k. framed.apart y z b (before_closing y b e).1 (before_closing z b k).1;
  }
