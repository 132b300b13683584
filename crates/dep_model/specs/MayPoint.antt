-- What each location may point to, whatever the order of the statements (after Andersen 1994).
use Rattle.std.specs.Prelude.{◌≡◌, ◌↔◌, ℕ, List, [], ◌∷◌, true, Option, Some, None, Contains, slice_get}
use Rattle.std.specs.Option.{option_map_or}
use Rattle.c_tree.specs.declared.expr.Expr.{Expr}
use Rattle.c_tree.specs.declared.program.Function.{Function}
use Rattle.c_tree.specs.declared.program.Init.{Init}
use Rattle.c_tree.specs.declared.program.Init.TheVariants as init
use Rattle.c_tree.specs.declared.program.Item.{Item}
use Rattle.c_tree.specs.declared.program.Item.TheVariants.{Include, Tag, Struct, Global, Prototype, Define}
use Rattle.c_tree.specs.declared.program.Program.{Program}
use Rattle.c_language.specs.Code.{Act, Begins, Sets, Bumps, Fetches, Writes, Prints, Allocates, Frees, Returns, Tests}
use Rattle.dep_model.specs.declared.location.Location.{Location}
use Rattle.dep_model.specs.declared.location.Root.TheVariants.{Site}
use Rattle.dep_model.specs.declared.location.Part.TheVariants as part
use Rattle.dep_model.specs.Locations.{same_location}
use Rattle.dep_model.specs.Denoted.{Places, TargetsOf, whole, part_of, expr_points, expr_places}
use Rattle.dep_model.specs.Doings.{Doing, Does, Calls, doings_of}
use Rattle.dep_model.specs.DoingEffects.{result_of, target_places}

-- each of some locations may point to each of some others
pub record Pointing : Type 0 where
  pub into : Places
  pub from : Places

abbrev pub pointing : Places → Places → Pointing
pointing into from = record { into = into; from = from }

abbrev pub site : ℕ → Location
site i = record { root = Site i; path = [] }

abbrev pub parameters : Program → ℕ → List ℕ
parameters p f = option_map_or (λ (g : Function). g.params) (slice_get p.functions f) []

module _ (p : Program) (points : TargetsOf) where
  -- the items of a list go into the elements
  abbrev pub listed : ℕ → List Expr → List Pointing
  listed x [] = []
  listed x (e ∷ es) = pointing (part_of p part.Element (whole x)) (expr_points p points e) ∷ listed x es

  abbrev pub init_pointings : ℕ → Init → List Pointing
  init_pointings x init.None = []
  init_pointings x (init.One e) = pointing (whole x) (expr_points p points e) ∷ []
  init_pointings x (init.Items es) = listed x es

  abbrev pub returned : ℕ → Option Expr → List Pointing
  returned f None = []
  returned f (Some e) = pointing (same_location (result_of f)) (expr_points p points e) ∷ []

  abbrev pub act_pointings : ℕ → ℕ → Act → List Pointing
  act_pointings f i (Begins x n) = init_pointings x n
  act_pointings f i (Sets left op right) = pointing (expr_places p points left) (expr_points p points right) ∷ []
  act_pointings f i (Bumps left up) = []
  act_pointings f i (Fetches to) = []
  act_pointings f i (Writes e) = []
  act_pointings f i (Prints format args) = []
  act_pointings f i (Allocates to n) = pointing (target_places p points to) (same_location (site i)) ∷ []
  act_pointings f i (Frees e) = []
  act_pointings f i (Returns e) = returned f e
  act_pointings f i (Tests e) = []

  abbrev pub passed : List ℕ → List Expr → List Pointing
  passed [] es = []
  passed (x ∷ xs) [] = []
  passed (x ∷ xs) (e ∷ es) = pointing (whole x) (expr_points p points e) ∷ passed xs es

  -- a call passes its arguments, and its target takes what the result may point to
  abbrev pub doing_pointings : ℕ → Doing → List Pointing
  doing_pointings f (Does i a) = act_pointings f i a
  doing_pointings f (Calls i to g args) =
      pointing (target_places p points to) (points (result_of g)) ∷ passed (parameters p g) args

  abbrev pub item_pointings : Item → List Pointing
  item_pointings (Include is_stdlib) = []
  item_pointings (Tag s) = []
  item_pointings (Struct s) = []
  item_pointings (Global x i) = init_pointings x i
  item_pointings (Prototype f names is_static) = []
  item_pointings (Define f) = []

  -- a pointing of a statement of the function
  pub record IsPointingIn (f : ℕ) (a : Pointing) : Type 0 where
    pub doing : Doing
    pub member : Contains (doings_of p f) doing
    pub given : Contains (doing_pointings f doing) a

  -- a pointing of a statement, or of a global's initialiser
  pub data IsPointing (a : Pointing) : Type 0 where
    of_statement : (f : ℕ) → IsPointingIn f a → IsPointing a
    of_global : (i : Item) → Contains p.items i → Contains (item_pointings i) a → IsPointing a

-- the first location may point to the second: a derivation ends in the pair, by a pointing that uses pairs which are derived themselves
pub data MayPoint (p : Program) : Location → Location → Type 0 where
  by : {l m : Location} (points : TargetsOf) (a : Pointing) → ((k n : Location) → points k n ≡ true → MayPoint p k n) → IsPointing p points a → a.into l ≡ true → a.from m ≡ true → MayPoint p l m

-- exactly the pairs that are derived
abbrev pub IsPointsTo : Program → TargetsOf → Type 0
IsPointsTo p points = (l m : Location) → (points l m ≡ true) ↔ MayPoint p l m
