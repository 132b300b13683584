-- The pointings of a program give more where more pairs are known.
use Rattle.std.proofs.Common.{ℕ, List, [], ◌∷◌, inl, inr, Option, Some, None, subst}
use Rattle.std.specs.Prelude.{Contains}
use Rattle.rule_closure.proofs.ListLemmas.{contains_none, contains_head, contains_cons, contains_cases}
use Rattle.c_tree.specs.declared.expr.Expr.{Expr}
use Rattle.c_tree.specs.declared.program.Init.{Init}
use Rattle.c_tree.specs.declared.program.Init.TheVariants as init
use Rattle.c_tree.specs.declared.program.Item.{Item}
use Rattle.c_tree.specs.declared.program.Item.TheVariants as item
use Rattle.c_tree.specs.declared.program.Program.{Program}
use Rattle.c_tree.specs.declared.statement.Target.{Target}
use Rattle.c_tree.specs.declared.statement.Target.TheVariants as target
use Rattle.c_language.specs.Code.{Act, Begins, Sets, Bumps, Fetches, Writes, Prints, Allocates, Frees, Returns, Tests}
use Rattle.dep_model.specs.declared.location.Part.TheVariants as part
use Rattle.dep_model.specs.Denoted.{TargetsOf, whole, part_of, expr_points}
use Rattle.dep_model.specs.Doings.{Doing, Does, Calls}
use Rattle.dep_model.specs.DoingEffects.{result_of, target_places}
use Rattle.dep_model.specs.Locations.{same_location}
use Rattle.dep_model.specs.MayPoint.{Pointing, pointing, site, parameters, listed, init_pointings, returned, act_pointings, passed, doing_pointings, item_pointings, IsPointing, of_statement, of_global}
use Rattle.points_laws.specs.Relations.{AreAmong, LiesIn}
use Rattle.points_laws.proofs.Monotone.{expression_monotone}

-- one of some pointings gives all that another does
pub record IsGivenBy (bs : List Pointing) (a : Pointing) : Type 0 where
  pub wider : Pointing
  pub member : Contains bs wider
  pub into : AreAmong a.into wider.into
  pub from : AreAmong a.from wider.from

-- each of the first list is given by the second
abbrev pub AreGivenBy : List Pointing → List Pointing → Type 0
AreGivenBy as_ bs = (a : Pointing) → Contains as_ a → IsGivenBy bs a

pub none_given : (bs : List Pointing) → AreGivenBy [] bs
none_given bs a c = absurd (contains_none a c)

pub more_given : (x y : Pointing) (as_ bs : List Pointing) → AreAmong x.into y.into → AreAmong x.from y.from → AreGivenBy as_ bs → AreGivenBy (x ∷ as_) (y ∷ bs)
more_given x y as_ bs into from rest a c = elim (contains_cases x as_ a c) [
  | inl same ↦ subst (IsGivenBy (y ∷ bs)) same (record { wider = y; member = contains_head y bs; into = into; from = from })
  | inr later ↦ let w = rest a later in record { wider = w.wider; member = contains_cons y bs w.wider w.member; into = w.into; from = w.from }
]

pub one_given : (x y : Pointing) → AreAmong x.into y.into → AreAmong x.from y.from → AreGivenBy (x ∷ []) (y ∷ [])
one_given x y into from = more_given x y [] [] into from (none_given [])

-- a pointing of the program at a relation gives all that another does
pub record IsWider (p : Program) (points : TargetsOf) (a : Pointing) : Type 0 where
  pub wider : Pointing
  pub is : IsPointing p points wider
  pub into : AreAmong a.into wider.into
  pub from : AreAmong a.from wider.from

module _ (p : Program) (first second : TargetsOf) (lies : LiesIn first second) where
  pub value_wider : (e : Expr) → AreAmong (expr_points p first e) (expr_points p second e)
  value_wider e = (expression_monotone p first second lies e).points

  target_wider : (to : Target) → AreAmong (target_places p first to) (target_places p second to)
  target_wider target.None l h = h
  target_wider (target.Place e) l h = (expression_monotone p first second lies e).places l h
  target_wider (target.Declared x) l h = h

  listed_wider : (x : ℕ) (es : List Expr) → AreGivenBy (listed p first x es) (listed p second x es)
  listed_wider x [] = none_given []
  listed_wider x (e ∷ es) =
      more_given (pointing (part_of p part.Element (whole x)) (expr_points p first e)) (pointing (part_of p part.Element (whole x)) (expr_points p second e)) (listed p first x es) (listed p second x es) (λ l h. h) (value_wider e) (listed_wider x es)

  init_wider : (x : ℕ) (i : Init) → AreGivenBy (init_pointings p first x i) (init_pointings p second x i)
  init_wider x init.None = none_given []
  init_wider x (init.One e) = one_given (pointing (whole x) (expr_points p first e)) (pointing (whole x) (expr_points p second e)) (λ l h. h) (value_wider e)
  init_wider x (init.Items es) = listed_wider x es

  returned_wider : (f : ℕ) (e : Option Expr) → AreGivenBy (returned p first f e) (returned p second f e)
  returned_wider f None = none_given []
  returned_wider f (Some e) = one_given (pointing (same_location (result_of f)) (expr_points p first e)) (pointing (same_location (result_of f)) (expr_points p second e)) (λ l h. h) (value_wider e)

  act_wider : (f i : ℕ) (a : Act) → AreGivenBy (act_pointings p first f i a) (act_pointings p second f i a)
  act_wider f i (Begins x n) = init_wider x n
  act_wider f i (Sets left op right) =
      one_given (record { into = _; from = _ }) (record { into = _; from = _ }) (expression_monotone p first second lies left).places (value_wider right)
  act_wider f i (Bumps left up) = none_given []
  act_wider f i (Fetches to) = none_given []
  act_wider f i (Writes e) = none_given []
  act_wider f i (Prints format args) = none_given []
  act_wider f i (Allocates to n) = one_given (pointing (target_places p first to) (same_location (site i))) (pointing (target_places p second to) (same_location (site i))) (target_wider to) (λ l h. h)
  act_wider f i (Frees e) = none_given []
  act_wider f i (Returns e) = returned_wider f e
  act_wider f i (Tests e) = none_given []

  pub passed_wider : (xs : List ℕ) (es : List Expr) → AreGivenBy (passed p first xs es) (passed p second xs es)
  passed_wider [] es = none_given []
  passed_wider (x ∷ xs) [] = none_given []
  passed_wider (x ∷ xs) (e ∷ es) =
      more_given (pointing (whole x) (expr_points p first e)) (pointing (whole x) (expr_points p second e)) (passed p first xs es) (passed p second xs es) (λ l h. h) (value_wider e) (passed_wider xs es)

  pub doing_wider : (f : ℕ) (d : Doing) → AreGivenBy (doing_pointings p first f d) (doing_pointings p second f d)
  doing_wider f (Does i a) = act_wider f i a
  doing_wider f (Calls i to g args) =
      more_given (pointing (target_places p first to) (first (result_of g))) (pointing (target_places p second to) (second (result_of g))) (passed p first (parameters p g) args) (passed p second (parameters p g) args) (target_wider to) (lies (result_of g)) (passed_wider (parameters p g) args)

  item_wider : (i : Item) → AreGivenBy (item_pointings p first i) (item_pointings p second i)
  item_wider (item.Include b) = none_given []
  item_wider (item.Tag s) = none_given []
  item_wider (item.Struct s) = none_given []
  item_wider (item.Global x i) = init_wider x i
  item_wider (item.Prototype f names is_static) = none_given []
  item_wider (item.Define f) = none_given []

  pub pointing_wider : (a : Pointing) → IsPointing p first a → IsWider p second a
  pointing_wider a (of_statement f k) =
      let w = doing_wider f k.doing a k.given in
      record { wider = w.wider; is = of_statement f (record { doing = k.doing; member = k.member; given = w.member }); into = w.into; from = w.from }
  pointing_wider a (of_global i k given) = let w = item_wider i a given in record { wider = w.wider; is = of_global i k w.member; into = w.into; from = w.from }
