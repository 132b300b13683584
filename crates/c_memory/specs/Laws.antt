-- The laws of the evaluator.
use Rattle.std.specs.Prelude.{◌≡◌}
use Rattle.c_tree.specs.declared.expr.Expr.{Expr}
use Rattle.c_meaning.specs.Values.{Types, State, meant}

-- an expression gives the same in two states
pub record GivesSame (types : Types) (e : Expr) (s t : State) : Type 0 where
  pub place : (meant types e).place s ≡ (meant types e).place t
  pub value : (meant types e).value s ≡ (meant types e).value t
  pub address : (meant types e).address s ≡ (meant types e).address t

-- expressions look at the blocks of the variables and at the memory, and at nothing else of a state
abbrev pub FrameAndMemoryDecide : Type 0
FrameAndMemoryDecide = (types : Types) (e : Expr) (s t : State) → s.frame ≡ t.frame → s.memory ≡ t.memory → GivesSame types e s t
