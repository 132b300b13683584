-- The control edges of statement lists, as pairs, as one walk finds them, from the vertices of the controllers down.
use Rattle.std.specs.Prelude.{ℕ, Bool, if◌then◌else◌, List, [], ◌∷◌, ◌++◌, Option, Some, None}
use Rattle.c_tree.specs.declared.statement.Label.{Label}
use Rattle.c_tree.specs.declared.statement.Statement.{Statement, fold-Statement}
use Rattle.c_tree.specs.declared.statement.Statement.TheOpen.{Statement-F, Arm-F}
use Rattle.c_tree.specs.declared.statement.Arm.{Arm, fold-Arm}
use Rattle.dep_model.specs.Pairs.{pair}
use Rattle.dep_model.specs.SwitchArms.{has_first, with_labels}
use Rattle.dep_model.specs.declared.skeleton.Pair.{Pair}

-- the edges from each of some vertices to one
abbrev pub from_all : List ℕ → ℕ → List Pair
from_all [] to = []
from_all (k ∷ ks) to = pair k to ∷ from_all ks to

-- and to each of some
abbrev pub joined : List ℕ → List ℕ → List Pair
joined ks [] = []
joined ks (t ∷ ts) = from_all ks t ++ joined ks ts

-- the edges of a part, under the vertices of its controllers
abbrev pub Walk : Type 0
Walk = List ℕ → List Pair

abbrev pub all : List Walk → Walk
all [] ks = []
all (w ∷ ws) ks = w ks ++ all ws ks

abbrev pub if_some : Option Walk → Walk
if_some None ks = []
if_some (Some w) ks = w ks

-- an arm of a switch
pub record ArmWalk : Type 0 where
  pub labels : List Label
  pub walk : Walk

-- the arms that are taken, with the labels that stand before them
abbrev pub all_taken : List Label → List ArmWalk → Walk
all_taken before [] ks = []
all_taken before (a ∷ as_) ks = (if has_first before a.labels then a.walk ks else []) ++ all_taken (with_labels before a.labels) as_ ks

module _ (own : ℕ → List ℕ) where
  abbrev pub declared : Option ℕ → Walk
  declared None ks = []
  declared (Some id) ks = joined ks (own id)

  -- where `own` has the vertices of each statement
  abbrev pub walk_step : Statement-F Walk ArmWalk → Walk
  walk_step (Statement-F.Declare id l x i) ks = declared id ks
  walk_step (Statement-F.Assign id l left op right) ks = joined ks (own id)
  walk_step (Statement-F.Bump id l a up before) ks = joined ks (own id)
  walk_step (Statement-F.Invoke id l to f args) ks = joined ks (own id)
  walk_step (Statement-F.Fetch id l to) ks = joined ks (own id)
  walk_step (Statement-F.Write id l e) ks = joined ks (own id)
  walk_step (Statement-F.Print id l format args) ks = joined ks (own id)
  walk_step (Statement-F.Heap id l to cast n) ks = joined ks (own id)
  walk_step (Statement-F.Release id l e) ks = joined ks (own id)
  walk_step (Statement-F.If id l e a b) ks = joined ks (own id) ++ (all a (own id) ++ all b (own id))
  walk_step (Statement-F.While id l e b) ks = joined (ks ++ own id) (own id) ++ all b (own id)
  walk_step (Statement-F.Do id l e b) ks = joined (ks ++ own id) (own id) ++ all b (ks ++ own id)
  walk_step (Statement-F.For id l i e s b) ks = joined (ks ++ own id) (own id) ++ (if_some i ks ++ (if_some s (own id) ++ all b (own id)))
  walk_step (Statement-F.Switch id l e arms) ks = joined ks (own id) ++ all_taken [] arms (own id)
  walk_step (Statement-F.Block l b) ks = all b ks
  walk_step (Statement-F.Return id l e) ks = joined ks (own id)

  abbrev pub arm_step : Arm-F Walk ArmWalk → ArmWalk
  arm_step a = record { labels = a.labels; walk = all a.body }

  abbrev pub walk : Statement → Walk
  walk = fold-Statement Walk ArmWalk walk_step arm_step

  abbrev pub arm_walk : Arm → ArmWalk
  arm_walk = fold-Arm Walk ArmWalk walk_step arm_step

  abbrev pub walks : List Statement → Walk
  walks [] ks = []
  walks (s ∷ ss) ks = walk s ks ++ walks ss ks

  abbrev pub if_taken : Bool → List Statement → Walk
  if_taken is_taken body ks = if is_taken then walks body ks else []

  -- the arms that are taken
  abbrev pub arm_walks : List Bool → List Arm → Walk
  arm_walks [] as_ ks = []
  arm_walks (b ∷ bs) [] ks = []
  arm_walks (b ∷ bs) (a ∷ as_) ks = if_taken b a.body ks ++ arm_walks bs as_ ks

  abbrev pub walked_part : Option Statement → Walk
  walked_part None ks = []
  walked_part (Some s) ks = walk s ks
