-- Laws of facts, over shaped graphs alone: what one step of the facts keeps, and which facts are all of them.
use Rattle.std.specs.Prelude.{ℕ, Bool, IsTrue}
use Rattle.dep_model.specs.declared.graph.Graph.{Graph}
use Rattle.dep_model.specs.Facts.{FactSet, IsStep, IsTrueFact}
use Rattle.dep_model.specs.Shapes.{IsShaped}

-- only true facts
abbrev pub AreTrue : Graph → FactSet → Type 0
AreTrue g K = (a b : ℕ) → K a b → IsTrueFact g a b

-- every true fact
abbrev pub HasEachTrueFact : Graph → FactSet → Type 0
HasEachTrueFact g K = (a b : ℕ) → IsTrueFact g a b → K a b

-- a function is settled: its step gives no fact that isn't there
abbrev pub IsSettled : Graph → FactSet → ℕ → Type 0
IsSettled g K f = (a b : ℕ) → IsStep g f K a b → K a b

-- the facts that pass a test
abbrev pub Passing : (ℕ → ℕ → Bool) → FactSet
Passing test a b = IsTrue (test a b)

-- a step from true facts gives only true facts
abbrev pub StepsKeepTruth : Type 0
StepsKeepTruth = (g : Graph) (f : ℕ) (test : ℕ → ℕ → Bool) → AreTrue g (Passing test) → AreTrue g (IsStep g f (Passing test))

-- facts in which every function is settled are all that are true
abbrev pub SettledHasAll : Type 0
SettledHasAll = (g : Graph) (test : ℕ → ℕ → Bool) → IsShaped g → ((f : ℕ) → IsSettled g (Passing test) f) → HasEachTrueFact g (Passing test)
