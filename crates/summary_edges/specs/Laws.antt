-- Laws of rounds and agendas, over shaped graphs alone.
use Rattle.std.specs.Prelude.{ℕ, ◌+◌, ◌*◌, ◌≤◌, List, [], ◌∷◌, length, Contains}
use Rattle.dep_model.specs.declared.graph.Graph.{Graph}
use Rattle.dep_model.specs.Facts.{HoldsFact, AreFactWords, AreTrueFacts, IsStep}
use Rattle.dep_model.specs.Shapes.{IsShaped}
use Rattle.matched_paths.specs.Laws.{AreTrue, IsSettled}
use Rattle.matched_paths.specs.Places.{bits_below}
use Rattle.summary_edges.specs.Agendas.{IsDue}

-- the first words' facts are among the second's
abbrev pub AreKept : Graph → List ℕ → List ℕ → Type 0
AreKept g before after = (a b : ℕ) → HoldsFact g before a b → HoldsFact g after a b

-- a round over an agenda, outside which each function is settled: it loses no fact, and gains at least what one step of each
-- function of the agenda gives from the facts at its beginning
pub record IsRound (g : Graph) (agenda before after : List ℕ) : Type 0 where
  pub kept : AreKept g before after
  pub taken : (f : ℕ) → Contains agenda f → (a b : ℕ) → IsStep g f (HoldsFact g before) a b → HoldsFact g after a b
  pub others : (f : ℕ) → (Contains agenda f → ⊥) → IsSettled g (HoldsFact g before) f

-- after a round a function that isn't due is settled
abbrev pub OthersAreSettled : Type 0
OthersAreSettled = (g : Graph) (agenda before after : List ℕ) → IsShaped g → IsRound g agenda before after
    → (f : ℕ) → (IsDue g before after f → ⊥) → IsSettled g (HoldsFact g after) f

-- where none is due after a round whose facts are true, they are exactly the true facts
abbrev pub OnlyTrueWhereNoneIsDue : Type 0
OnlyTrueWhereNoneIsDue = (g : Graph) (agenda before after : List ℕ) → IsShaped g → IsRound g agenda before after → AreFactWords g after → AreTrue g (HoldsFact g after)
    → ((f : ℕ) → IsDue g before after f → ⊥) → AreTrueFacts g after

-- one words' facts have one that the other's lack
pub record HasNewFact (g : Graph) (before after : List ℕ) : Type 0 where
  pub from : ℕ
  pub to : ℕ
  pub now : HoldsFact g after from to
  pub not_before : HoldsFact g before from to → ⊥

-- a series of rounds, by the words after each: each loses no fact, each but the last has a new one, and all facts are true
pub data IsSeries (g : Graph) : List ℕ → List (List ℕ) → Type 0 where
  none : {before : List ℕ} → IsSeries g before []
  last : {before after : List ℕ} → AreTrue g (HoldsFact g after) → AreKept g before after → IsSeries g before (after ∷ [])
  more : {before after : List ℕ} {rest : List (List ℕ)} → AreTrue g (HoldsFact g after) → AreKept g before after → HasNewFact g before after → IsSeries g after rest → IsSeries g before (after ∷ rest)

-- such a series has at most one more round than there are true facts: one for each bit that is set where words hold exactly these
abbrev pub RoundsAreFew : Type 0
RoundsAreFew = (g : Graph) (before truth : List ℕ) (rounds : List (List ℕ)) → IsShaped g → AreTrueFacts g truth → IsSeries g before rounds
    → length rounds ≤ bits_below (64 * length truth) truth + 1
