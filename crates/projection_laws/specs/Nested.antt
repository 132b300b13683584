-- What is kept of a program stands in what is kept.
use Rattle.std.specs.Prelude.{◌≡◌, ℕ, ◌==◌, Bool, true, false, not, ◌&&◌, ◌||◌, List, [], ◌∷◌, map, Option, Some, None}
use Rattle.std.specs.List.{list_all, list_any}
use Rattle.c_tree.specs.declared.program.Function.{Function}
use Rattle.c_tree.specs.declared.program.Program.{Program}
use Rattle.c_tree.specs.declared.statement.Arm.{Arm, fold-Arm}
use Rattle.c_tree.specs.declared.statement.Statement.{Statement, fold-Statement}
use Rattle.c_tree.specs.declared.statement.Statement.TheOpen.{Statement-F, Arm-F}

-- whether something of a statement is kept, and whether each if, loop and switch in it is kept where something inside it is
pub record Nest : Type 0 where
  pub keeps : Bool
  pub fits : Bool

abbrev pub nest_alone : Bool → Nest
nest_alone keeps = record { keeps = keeps; fits = true }

abbrev pub any_kept : List Nest → Bool
any_kept [] = false
any_kept (n ∷ ns) = n.keeps || any_kept ns

abbrev pub all_fit : List Nest → Bool
all_fit [] = true
all_fit (n ∷ ns) = n.fits && all_fit ns

abbrev pub part_kept : Option Nest → Bool
part_kept None = false
part_kept (Some n) = n.keeps

abbrev pub part_fits : Option Nest → Bool
part_fits None = true
part_fits (Some n) = n.fits

-- what is kept, or has nothing inside it that is kept
abbrev pub governs : Bool → Bool → Bool
governs true inside = true
governs false inside = not inside

module _ (keeps : ℕ → Bool) where
  abbrev pub begun_kept : Option ℕ → Bool
  begun_kept None = false
  begun_kept (Some id) = keeps id

  -- what a for begins with, and what stands in a bare block, stands in nothing else
  abbrev pub nest_step : Statement-F Nest Nest → Nest
  nest_step (Statement-F.Declare id l x i) = nest_alone (begun_kept id)
  nest_step (Statement-F.Assign id l left op right) = nest_alone (keeps id)
  nest_step (Statement-F.Bump id l a up before) = nest_alone (keeps id)
  nest_step (Statement-F.Invoke id l to f args) = nest_alone (keeps id)
  nest_step (Statement-F.Fetch id l to) = nest_alone (keeps id)
  nest_step (Statement-F.Write id l a) = nest_alone (keeps id)
  nest_step (Statement-F.Print id l format args) = nest_alone (keeps id)
  nest_step (Statement-F.Heap id l to cast n) = nest_alone (keeps id)
  nest_step (Statement-F.Release id l a) = nest_alone (keeps id)
  nest_step (Statement-F.If id l e a b) = record { keeps = keeps id || (any_kept a || any_kept b); fits = governs (keeps id) (any_kept a || any_kept b) && (all_fit a && all_fit b) }
  nest_step (Statement-F.While id l e b) = record { keeps = keeps id || any_kept b; fits = governs (keeps id) (any_kept b) && all_fit b }
  nest_step (Statement-F.Do id l e b) = record { keeps = keeps id || any_kept b; fits = governs (keeps id) (any_kept b) && all_fit b }
  nest_step (Statement-F.For id l i e step b) = record {
    keeps = keeps id || (part_kept i || (part_kept step || any_kept b));
    fits = governs (keeps id) (part_kept step || any_kept b) && (part_fits i && (part_fits step && all_fit b));
  }
  nest_step (Statement-F.Switch id l e arms) = record { keeps = keeps id || any_kept arms; fits = governs (keeps id) (any_kept arms) && all_fit arms }
  nest_step (Statement-F.Block l b) = record { keeps = any_kept b; fits = all_fit b }
  nest_step (Statement-F.Return id l e) = nest_alone (keeps id)

  abbrev pub nest_arm : Arm-F Nest Nest → Nest
  nest_arm a = record { keeps = any_kept a.body; fits = all_fit a.body }

  abbrev pub nest : Statement → Nest
  nest = fold-Statement Nest Nest nest_step nest_arm

  abbrev pub arm_nest : Arm → Nest
  arm_nest = fold-Arm Nest Nest nest_step nest_arm

  abbrev pub is_nested : Statement → Bool
  is_nested x = (nest x).fits

  -- each if, while, do, for and switch is kept where something inside it is, but for what a for begins with
  abbrev pub IsNested : Program → Type 0
  IsNested p = list_all (λ (f : Function). list_all is_nested f.body) p.functions ≡ true

-- ---- what stands in what

-- the numbers of the statements of a list, and which statement stands in which, with no third between
pub record Stands : Type 0 where
  pub own : ℕ → Bool
  pub inside : ℕ → ℕ → Bool

abbrev pub any_own : List Stands → ℕ → Bool
any_own [] i = false
any_own (x ∷ xs) i = x.own i || any_own xs i

abbrev pub any_inside : List Stands → ℕ → ℕ → Bool
any_inside [] o i = false
any_inside (x ∷ xs) o i = x.inside o i || any_inside xs o i

abbrev pub part_own : Option Stands → ℕ → Bool
part_own None i = false
part_own (Some x) i = x.own i

abbrev pub part_inside : Option Stands → ℕ → ℕ → Bool
part_inside None o i = false
part_inside (Some x) o i = x.inside o i

abbrev pub own_alone : (ℕ → Bool) → Stands
own_alone own = record { own = own; inside = λ o i. false }

abbrev pub is_begun : Option ℕ → ℕ → Bool
is_begun None i = false
is_begun (Some id) i = id == i

-- what stands in a bare block stands where the block does, and what a for begins with stands where the for does
abbrev pub stands_step : Statement-F Stands Stands → Stands
stands_step (Statement-F.Declare id l x i) = own_alone (is_begun id)
stands_step (Statement-F.Assign id l left op right) = own_alone (λ n. id == n)
stands_step (Statement-F.Bump id l a up before) = own_alone (λ n. id == n)
stands_step (Statement-F.Invoke id l to f args) = own_alone (λ n. id == n)
stands_step (Statement-F.Fetch id l to) = own_alone (λ n. id == n)
stands_step (Statement-F.Write id l a) = own_alone (λ n. id == n)
stands_step (Statement-F.Print id l format args) = own_alone (λ n. id == n)
stands_step (Statement-F.Heap id l to cast m) = own_alone (λ n. id == n)
stands_step (Statement-F.Release id l a) = own_alone (λ n. id == n)
stands_step (Statement-F.If id l e a b) = record { own = λ n. id == n; inside = λ o i. (id == o && (any_own a i || any_own b i)) || (any_inside a o i || any_inside b o i) }
stands_step (Statement-F.While id l e b) = record { own = λ n. id == n; inside = λ o i. (id == o && any_own b i) || any_inside b o i }
stands_step (Statement-F.Do id l e b) = record { own = λ n. id == n; inside = λ o i. (id == o && any_own b i) || any_inside b o i }
stands_step (Statement-F.For id l first e step b) = record {
  own = λ n. id == n || part_own first n;
  inside = λ o i. (id == o && (part_own step i || any_own b i)) || (part_inside first o i || (part_inside step o i || any_inside b o i));
}
stands_step (Statement-F.Switch id l e arms) = record { own = λ n. id == n; inside = λ o i. (id == o && any_own arms i) || any_inside arms o i }
stands_step (Statement-F.Block l b) = record { own = any_own b; inside = any_inside b }
stands_step (Statement-F.Return id l e) = own_alone (λ n. id == n)

abbrev pub stands_arm : Arm-F Stands Stands → Stands
stands_arm a = record { own = any_own a.body; inside = any_inside a.body }

abbrev pub stands : Statement → Stands
stands = fold-Statement Stands Stands stands_step stands_arm

abbrev pub arm_stands : Arm → Stands
arm_stands = fold-Arm Stands Stands stands_step stands_arm

-- the statement with the second number stands in the one with the first, with none between
abbrev pub stands_in : Program → ℕ → ℕ → Bool
stands_in p outer inner = list_any (λ (f : Function). any_inside (map stands f.body) outer inner) p.functions
