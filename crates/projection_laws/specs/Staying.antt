-- Something of a statement stays where it is kept, or where it declares what kept text refers to.
use Rattle.std.specs.Prelude.{◌≡◌, ℕ, Bool, true, false, ◌&&◌, ◌||◌, List, [], ◌∷◌, Option, Some, None}
use Rattle.std.specs.List.{list_all}
use Rattle.c_tree.specs.declared.program.Function.{Function}
use Rattle.c_tree.specs.declared.program.Program.{Program}
use Rattle.c_tree.specs.declared.statement.Target.{Target}
use Rattle.c_tree.specs.declared.statement.Target.TheVariants as target
use Rattle.c_tree.specs.declared.statement.Arm.{Arm, fold-Arm}
use Rattle.c_tree.specs.declared.statement.Statement.{Statement, fold-Statement}
use Rattle.c_tree.specs.declared.statement.Statement.TheOpen.{Statement-F, Arm-F}
use Rattle.projection_laws.specs.Nested.{governs, begun_kept}

-- whether something of a statement stays, and whether nothing stays in each if, loop and switch in it that isn't kept
pub record Rest : Type 0 where
  pub stays : Bool
  pub clear : Bool

abbrev pub rest_alone : Bool → Rest
rest_alone stays = record { stays = stays; clear = true }

abbrev pub any_stays : List Rest → Bool
any_stays [] = false
any_stays (r ∷ rs) = r.stays || any_stays rs

abbrev pub all_clear : List Rest → Bool
all_clear [] = true
all_clear (r ∷ rs) = r.clear && all_clear rs

abbrev pub part_stays : Option Rest → Bool
part_stays None = false
part_stays (Some r) = r.stays

abbrev pub part_clear : Option Rest → Bool
part_clear None = true
part_clear (Some r) = r.clear

module _ (keeps vars : ℕ → Bool) where
  abbrev pub target_stays : Target → Bool
  target_stays target.None = false
  target_stays (target.Place e) = false
  target_stays (target.Declared x) = vars x

  abbrev pub rest_step : Statement-F Rest Rest → Rest
  rest_step (Statement-F.Declare id l x i) = rest_alone (begun_kept keeps id || vars x)
  rest_step (Statement-F.Assign id l left op right) = rest_alone (keeps id)
  rest_step (Statement-F.Bump id l a up before) = rest_alone (keeps id)
  rest_step (Statement-F.Invoke id l to f args) = rest_alone (keeps id || target_stays to)
  rest_step (Statement-F.Fetch id l to) = rest_alone (keeps id || target_stays to)
  rest_step (Statement-F.Write id l a) = rest_alone (keeps id)
  rest_step (Statement-F.Print id l format args) = rest_alone (keeps id)
  rest_step (Statement-F.Heap id l to cast n) = rest_alone (keeps id || target_stays to)
  rest_step (Statement-F.Release id l a) = rest_alone (keeps id)
  rest_step (Statement-F.If id l e a b) = record { stays = keeps id; clear = governs (keeps id) (any_stays a || any_stays b) && (all_clear a && all_clear b) }
  rest_step (Statement-F.While id l e b) = record { stays = keeps id; clear = governs (keeps id) (any_stays b) && all_clear b }
  rest_step (Statement-F.Do id l e b) = record { stays = keeps id; clear = governs (keeps id) (any_stays b) && all_clear b }
  rest_step (Statement-F.For id l i e step b) = record {
    stays = keeps id || part_stays i;
    clear = governs (keeps id) (part_stays step || any_stays b) && (part_clear i && (part_clear step && all_clear b));
  }
  rest_step (Statement-F.Switch id l e arms) = record { stays = keeps id; clear = governs (keeps id) (any_stays arms) && all_clear arms }
  rest_step (Statement-F.Block l b) = record { stays = any_stays b; clear = all_clear b }
  rest_step (Statement-F.Return id l e) = rest_alone (keeps id)

  abbrev pub rest_arm : Arm-F Rest Rest → Rest
  rest_arm a = record { stays = any_stays a.body; clear = all_clear a.body }

  abbrev pub rest : Statement → Rest
  rest = fold-Statement Rest Rest rest_step rest_arm

  abbrev pub arm_rest : Arm → Rest
  arm_rest = fold-Arm Rest Rest rest_step rest_arm

  abbrev pub is_clear : Statement → Bool
  is_clear x = (rest x).clear

  -- nothing stays in an if, while, do, for or switch that isn't kept, but for what a for begins with
  abbrev pub IsClear : Program → Type 0
  IsClear p = list_all (λ (f : Function). list_all is_clear f.body) p.functions ≡ true
