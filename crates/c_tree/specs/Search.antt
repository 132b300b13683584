-- What a search of statements answers.
use Rattle.std.specs.Prelude.{◌≡◌, ℕ, List, Option, Some, MatchOption}
use Rattle.std.specs.Borrow.{Bor}
use Rattle.c_tree.specs.declared.statement.Statement.{Statement}
use Rattle.c_tree.specs.Numbered.{own_id, body_starts, StandsIn, Lacks}

-- the statement stands in the list and has the number
pub record IsFound (id : ℕ) (all : List Statement) (one : Statement) : Type 0 where
  pub number : own_id one ≡ Some id
  pub stands : StandsIn all one

-- no statement of the list, or inside one of it, has the number
abbrev pub IsFree : ℕ → List Statement → Type 0
IsFree id all = Lacks id (body_starts all)

-- the answer is the statement of the list that has the number, or there is none
abbrev pub Finds : ℕ → List Statement → Option (Bor Statement) → Type 0
Finds id all answer = MatchOption answer (IsFree id all) (λ s. IsFound id all s.now)
