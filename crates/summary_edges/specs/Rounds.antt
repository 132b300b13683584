-- What is known of a graph's facts while they are found, and what a round gives.
use Rattle.std.specs.Prelude.{◌≡◌, ℕ, List, [], ◌∷◌, length, Contains}
use Rattle.crew.specs.SharedWords.{AreWithin}
use Rattle.dep_model.specs.declared.graph.Graph.{Graph}
use Rattle.dep_model.specs.Facts.{HoldsFact, IsStep}
use Rattle.summary_edges.specs.FactMachine.{HoldTrueBits}

-- words for a graph's facts, which hold true ones alone
pub record AreSound (g : Graph) (ws : List ℕ) : Type 0 where
  pub long : length ws ≡ g.fact_words
  pub only_true : HoldTrueBits g ws

-- a round over an agenda: its words hold true facts alone, what was held before, and at least what one step of each function of the
-- agenda gives from that
pub record IsRoundTaken (g : Graph) (agenda before after : List ℕ) : Type 0 where
  pub sound : AreSound g after
  pub kept : AreWithin before after
  pub taken : (f : ℕ) → Contains agenda f → (a b : ℕ) → IsStep g f (HoldsFact g before) a b → HoldsFact g after a b

-- 1 where the list has something
abbrev pub one_if_any : List ℕ → ℕ
one_if_any [] = 0
one_if_any (x ∷ xs) = 1
