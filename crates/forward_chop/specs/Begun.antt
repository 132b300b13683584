-- What is marked of a whole graph, and with which contexts a chop begins.
use Rattle.std.specs.Prelude.{◌↔◌, ◌⊎◌, ℕ, Bool, List, length, IsTrue}
use Rattle.bit_rows.specs.Sets.{has}
use Rattle.rule_closure.specs.Rules.{Derived}
use Rattle.dep_model.specs.declared.edge.Edge.{Edge}
use Rattle.dep_model.specs.declared.graph.Graph.{Graph}
use Rattle.forward_chop.specs.declared.field.Field.{Field}
use Rattle.forward_chop.specs.declared.wanted.Wanted.{Wanted}
use Rattle.forward_chop.specs.Fields.{AsksFrom, IsAhead, IsBehind}
use Rattle.forward_chop.specs.Pairs.{asks}
use Rattle.forward_chop.specs.Rounds.{IsOpen}
use Rattle.forward_chop.specs.Turned.{IsSecond}

-- marked ahead is what the rules derive from the numbers of a list
pub record IsMarkedAhead (base : ℕ) (from : List ℕ) (f : Field) : Type 0 where
  pub seeds : List Bool
  pub seeds_are : (k : ℕ) → IsTrue (has seeds k) ↔ IsSecond base from k
  pub marks_are : (k : ℕ) → IsTrue (has f.reached k) ↔ Derived f.ahead.rules seeds k

-- and behind
pub record IsMarkedBehind (to : List ℕ) (f : Field) : Type 0 where
  pub seeds : List Bool
  pub seeds_are : (k : ℕ) → IsTrue (has seeds k) ↔ IsSecond 0 to k
  pub marks_are : (k : ℕ) → IsTrue (has f.reaching k) ↔ Derived f.behind.rules seeds k

-- a chop has begun: with what is ahead and behind by first numbers or by second ones, and with the pairs for which that asks
pub record IsBegun (g : Graph) (exits : List (List Edge)) (f : Field) (w : Wanted) (s : List Bool) : Type 0 where
  pub open_ : IsOpen g w s
  pub pairs_are : (x o : ℕ) → IsTrue (asks w x o) ↔ (AsksFrom f 0 g.edges exits x o ⊎ AsksFrom f (length g.vertices) g.edges exits x o)
  pub into_is : (v : ℕ) → IsTrue (has s v) ↔ ((IsAhead f 0 v × IsBehind f 0 v) ⊎ (IsAhead f (length g.vertices) v × IsBehind f (length g.vertices) v))
