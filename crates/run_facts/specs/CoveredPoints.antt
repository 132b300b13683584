-- What pointers of a run lead to is among what points-to says.
use Rattle.std.specs.Prelude.{◌≡◌, ℕ, List, ◌∷◌, true, Some, Contains}
use Rattle.c_tree.specs.declared.expr.Expr.{Expr}
use Rattle.c_tree.specs.declared.program.Program.{Program}
use Rattle.c_meaning.specs.declared.value.Place.{Place}
use Rattle.c_meaning.specs.declared.value.Pointer.{Pointer}
use Rattle.c_meaning.specs.declared.value.Value.TheVariants.{To}
use Rattle.c_meaning.specs.Memory.{read}
use Rattle.c_meaning.specs.Values.{State, place, eval}
use Rattle.c_meaning.specs.Activations.{executable, types_in}
use Rattle.c_meaning.specs.Steps.{Waiting, Point}
use Rattle.dep_model.specs.declared.location.Location.{Location}
use Rattle.dep_model.specs.Denoted.{Places, TargetsOf, expr_points, expr_places}
use Rattle.dep_model.specs.Doings.{Doing}
use Rattle.run_facts.specs.CellLocations.{location_of}
use Rattle.run_facts.specs.Effects.{back_in, next_doing}
use Rattle.run_facts.specs.NextExprs.{target_exprs, doing_values, doing_places}
use Rattle.run_facts.specs.PointerLocations.{pointer_location}

-- a pointer has a location, which is one of these
pub record LeadsAmong (s : State) (targets : Places) (r : Pointer) : Type 0 where
  pub location : Location
  pub location_is : pointer_location s r ≡ Some location
  pub among : targets location ≡ true

module _ (p : Program) (points : TargetsOf) where
  -- a cell that holds a pointer has a location, which may point to the pointer's
  pub record HoldsCovered (s : State) (q : Place) (r : Pointer) : Type 0 where
    pub location : Location
    pub location_is : location_of s.origins q ≡ Some location
    pub leads : LeadsAmong s (points location) r

  -- an object that an expression designates in a function lies where the expression may
  abbrev pub PlacesCovered : ℕ → State → Expr → Type 0
  PlacesCovered f s e =
      (q : Place) → place (types_in (executable p) f) e s ≡ Some q → (l : Location) × ((location_of s.origins q ≡ Some l) × (expr_places p points e l ≡ true))

  -- where a run stands: each pointer that a cell holds, and each that an expression of what is done next gives, leads where points-to
  -- says; and each object that is stored to, also where the caller that waits gets a result, lies where the left side may
  pub record IsCovered (x : Point) : Type 0 where
    pub cells : (q : Place) (r : Pointer) → read x.state.memory q ≡ Some (To r) → HoldsCovered x.state q r
    pub values :
        (d : Doing) (e : Expr) (r : Pointer) → next_doing x.rest ≡ Some d → Contains (doing_values d) e
        → eval (types_in (executable p) x.function) e x.state ≡ Some (To r) → LeadsAmong x.state (expr_points p points e) r
    pub places : (d : Doing) (e : Expr) → next_doing x.rest ≡ Some d → Contains (doing_places d) e → PlacesCovered x.function x.state e
    pub receipts :
        (w : Waiting) (ws : List Waiting) (e : Expr) → x.callers ≡ w ∷ ws → Contains (target_exprs w.target) e
        → PlacesCovered w.function (back_in (executable p) x.function w x.state) e
