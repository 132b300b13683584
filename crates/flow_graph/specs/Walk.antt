-- The order of statement lists as one walk from their ends finds it.
use Rattle.std.specs.Prelude.{ℕ, Bool, if◌then◌else◌, List, [], ◌∷◌, ◌++◌, Option, Some, None}
use Rattle.std.specs.List.{list_any}
use Rattle.c_tree.specs.declared.statement.Label.{Label}
use Rattle.c_tree.specs.declared.statement.Statement.{Statement, fold-Statement}
use Rattle.c_tree.specs.declared.statement.Statement.TheOpen.{Statement-F, Arm-F}
use Rattle.c_tree.specs.declared.statement.Arm.{Arm, fold-Arm}
use Rattle.c_language.specs.Code.{has_default}
use Rattle.dep_model.specs.Follows.{enters}
use Rattle.dep_model.specs.Pairs.{pair}
use Rattle.dep_model.specs.SwitchArms.{has_first, with_labels}
use Rattle.dep_model.specs.declared.skeleton.Pair.{Pair}

-- a vertex and what follows it, where something does
abbrev pub to_next : ℕ → Option ℕ → List Pair
to_next v None = []
to_next v (Some w) = pair v w ∷ []

-- each of some vertices and the next, and the last one and k
abbrev pub linked : List ℕ → Option ℕ → List Pair
linked [] k = []
linked (v ∷ vs) k = to_next v (enters vs k) ++ linked vs k

-- where a part is entered, and its pairs, for what follows it
pub record Flow : Type 0 where
  pub start : Option ℕ → Option ℕ
  pub pairs : Option ℕ → List Pair

abbrev pub nothing : Flow
nothing = record { start = λ k. k; pairs = λ k. [] }

abbrev pub simple : List ℕ → Flow
simple own = record { start = enters own; pairs = linked own }

abbrev pub in_order : List Flow → Flow
in_order [] = nothing
in_order (f ∷ fs) = record {
  start = λ k. f.start ((in_order fs).start k);
  pairs = λ k. (in_order fs).pairs k ++ f.pairs ((in_order fs).start k);
}

abbrev pub if_some : Option Flow → Flow
if_some None = nothing
if_some (Some f) = f

-- an arm of a switch
pub record ArmFlow : Type 0 where
  pub labels : List Label
  pub flow : Flow

-- a test and a list that it leads to
abbrev pub led_to : List ℕ → Flow → Option ℕ → List Pair
led_to own f k = f.pairs k ++ linked own (f.start k)

-- the arms that are taken, with the labels that stand before them
abbrev pub all_taken : List ℕ → List Label → List ArmFlow → Option ℕ → List Pair
all_taken own before [] k = []
all_taken own before (a ∷ as_) k = (if has_first before a.labels then led_to own a.flow k else []) ++ all_taken own (with_labels before a.labels) as_ k

abbrev pub any_default : List ArmFlow → Bool
any_default = list_any (λ (a : ArmFlow). has_default a.labels)

abbrev pub past : List ℕ → Bool → Option ℕ → List Pair
past own has k = if has then [] else linked own k

abbrev pub forked : List ℕ → Flow → Flow → Flow
forked own a b = record { start = enters own; pairs = λ k. led_to own a k ++ led_to own b k }

-- a loop whose body is followed by a step
abbrev pub looped : List ℕ → Flow → Flow → Option ℕ → List Pair
looped own body step k =
    step.pairs (enters own k) ++ (led_to own body (step.start (enters own k)) ++ linked own k)

module _ (own : ℕ → List ℕ) where
  abbrev pub declared : Option ℕ → Flow
  declared None = nothing
  declared (Some id) = simple (own id)

  -- where `own` has the vertices of each statement
  abbrev pub flow_step : Statement-F Flow ArmFlow → Flow
  flow_step (Statement-F.Declare id l x i) = declared id
  flow_step (Statement-F.Assign id l left op right) = simple (own id)
  flow_step (Statement-F.Bump id l a up before) = simple (own id)
  flow_step (Statement-F.Invoke id l to f args) = simple (own id)
  flow_step (Statement-F.Fetch id l to) = simple (own id)
  flow_step (Statement-F.Write id l e) = simple (own id)
  flow_step (Statement-F.Print id l format args) = simple (own id)
  flow_step (Statement-F.Heap id l to cast n) = simple (own id)
  flow_step (Statement-F.Release id l e) = simple (own id)
  flow_step (Statement-F.If id l e a b) = forked (own id) (in_order a) (in_order b)
  flow_step (Statement-F.While id l e b) = record { start = enters (own id); pairs = looped (own id) (in_order b) nothing }
  flow_step (Statement-F.Do id l e b) = record { start = λ k. (in_order b).start (enters (own id) k); pairs = looped (own id) (in_order b) nothing }
  flow_step (Statement-F.For id l i e s b) = record {
    start = λ k. (if_some i).start (enters (own id) k);
    pairs = λ k. looped (own id) (in_order b) (if_some s) k ++ (if_some i).pairs (enters (own id) k);
  }
  flow_step (Statement-F.Switch id l e arms) = record {
    start = enters (own id);
    pairs = λ k. all_taken (own id) [] arms k ++ past (own id) (any_default arms) k;
  }
  flow_step (Statement-F.Block l b) = in_order b
  flow_step (Statement-F.Return id l e) = simple (own id)

  abbrev pub arm_step : Arm-F Flow ArmFlow → ArmFlow
  arm_step a = record { labels = a.labels; flow = in_order a.body }

  abbrev pub flow : Statement → Flow
  flow = fold-Statement Flow ArmFlow flow_step arm_step

  abbrev pub arm_flow : Arm → ArmFlow
  arm_flow = fold-Arm Flow ArmFlow flow_step arm_step

  abbrev pub flows : List Statement → Flow
  flows [] = nothing
  flows (s ∷ ss) = record {
    start = λ k. (flow s).start ((flows ss).start k);
    pairs = λ k. (flows ss).pairs k ++ (flow s).pairs ((flows ss).start k);
  }

  abbrev pub flow_part : Option Statement → Flow
  flow_part None = nothing
  flow_part (Some s) = flow s

  abbrev pub if_taken : List ℕ → Bool → List Statement → Option ℕ → List Pair
  if_taken test is_taken body k = if is_taken then led_to test (flows body) k else []

  -- the arms that are taken
  abbrev pub arm_flows : List ℕ → List Bool → List Arm → Option ℕ → List Pair
  arm_flows test [] as_ k = []
  arm_flows test (b ∷ bs) [] k = []
  arm_flows test (b ∷ bs) (a ∷ as_) k = if_taken test b a.body k ++ arm_flows test bs as_ k

abbrev pub some_default : List Arm → Bool
some_default = list_any (λ (a : Arm). has_default a.labels)
