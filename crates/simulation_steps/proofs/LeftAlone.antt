-- What a step of a program leaves to a slice that doesn't take it.
use Rattle.std.specs.Prelude.{◌≡◌, ℕ, List, Bool, Some}
use Rattle.c_tree.specs.declared.expr.Expr.{Expr}
use Rattle.c_meaning.specs.Values.{Types, State, variable_opened, all_closed}
use Rattle.c_meaning.specs.Activations.{Executable, called, resumed}
use Rattle.c_meaning.specs.Steps.{Waiting, Point}
use Rattle.dep_model.specs.declared.location.Location.{Location}
use Rattle.run_facts.specs.KeptCells.{Leads}
use Rattle.simulation.specs.Renaming.{World, Names, BlocksStand, AlikeAt}
use Rattle.simulation.specs.Settings.{seen, seen_from}
use Rattle.simulation_steps.proofs.Outlines.{KeepsOutlines}

-- each step keeps what blocks are
abbrev pub StepsKeepOutlines : Type 0
StepsKeepOutlines = (p : Executable) (x y : Point) → Leads p x y → KeepsOutlines x.state y.state

-- so blocks go on standing for the blocks of a program that takes a step alone
abbrev pub BlocksGoOnStanding : Type 0
BlocksGoOnStanding =
    (names : Names) (w : World) (p : Executable) (x y : Point) (n : State) → Leads p x y → BlocksStand names w x.state n
    → BlocksStand names w y.state n

-- what a caller sees at a location goes on being alike where it alone calls a function, up to where that begins
abbrev pub CallsLeaveCallers : Type 0
CallsLeaveCallers =
    (names : Names) (outside : Location → Bool) (w : World) (p : Executable) (f g : ℕ) (args : List Expr) (s c n : State) (l : Location)
    → called p f g args s ≡ Some c → BlocksStand names w s n → AlikeAt outside w l s n → AlikeAt outside w l (seen_from s c) n

-- and where the callee's blocks are gone
abbrev pub ReturnsLeaveCallers : Type 0
ReturnsLeaveCallers =
    (names : Names) (outside : Location → Bool) (w : World) (p : Executable) (g : ℕ) (a : Waiting) (s n : State) (l : Location)
    → BlocksStand names w s n → AlikeAt outside w l (seen a s) n → AlikeAt outside w l (resumed p g a.frame a.returned s) n

-- and where it alone begins a variable, or leaves a block
abbrev pub MovesLeaveAlike : Type 0
MovesLeaveAlike =
    (names : Names) (outside : Location → Bool) (w : World) (types : Types) (s n : State) (l : Location) → BlocksStand names w s n
    → AlikeAt outside w l s n
    → ((x : ℕ) → AlikeAt outside w l (variable_opened types x s) n) × ((xs : List ℕ) → AlikeAt outside w l (all_closed xs s) n)
