-- What expressions and acts name, read and point to lies in variables and in sites: no expression designates the unread input, or what a
-- function returns.
use Rattle.std.proofs.Common.{◌≡◌, ℕ, List, [], ◌∷◌, Option, Some, None, Bool, true, false, ◌&&◌, ◌||◌, ◌⊎◌, inl, inr, refl, sym, subst}
use Rattle.std.specs.Prelude.{if◌then◌else◌}
use Rattle.std.specs.List.{list_any}
use Rattle.std.proofs.lemmas.Bool.{false≢true, and_parts, or_cases}
use Rattle.c_arith.specs.declared.operators.BinaryOp.{BinaryOp}
use Rattle.c_tree.proofs.Trees.{ExprParts, expr_layer, of_every_expr}
use Rattle.c_tree.specs.declared.expr.Expr.{Expr, map-Expr, roll-Expr, fold-roll-Expr}
use Rattle.c_tree.specs.declared.expr.Expr.TheOpen.{Expr-F}
use Rattle.c_tree.specs.declared.program.Init.{Init}
use Rattle.c_tree.specs.declared.program.Init.TheVariants as init
use Rattle.c_tree.specs.declared.program.Program.{Program}
use Rattle.c_tree.specs.declared.statement.Amount.{Amount}
use Rattle.c_tree.specs.declared.statement.Amount.TheVariants as amount
use Rattle.c_tree.specs.declared.statement.Target.{Target}
use Rattle.c_tree.specs.declared.statement.Target.TheVariants as target
use Rattle.c_language.specs.Code.{Act, Begins, Sets, Bumps, Fetches, Writes, Prints, Allocates, Frees, Returns, Tests}
use Rattle.c_language.specs.ExprTypes.{is_scalar, is_pointer}
use Rattle.dep_model.specs.declared.location.Location.{Location}
use Rattle.dep_model.specs.declared.location.Part.{Part}
use Rattle.dep_model.specs.declared.location.Part.TheVariants as part
use Rattle.dep_model.specs.declared.location.Root.{Root}
use Rattle.dep_model.specs.declared.location.Root.TheVariants.{Input, Variable, Site, Result}
use Rattle.dep_model.specs.Designated.{Designated, is_array_place, designated_step}
use Rattle.dep_model.specs.Denoted.{Places, TargetsOf, Denoted, no_places, variable, whole, inside, is_location, part_of, targets, value_reads, value_points, denoted, denoted_step, expr_reads}
use Rattle.dep_model.specs.DoingEffects.{the_input, any_reads, maybe_reads, target_reads, amount_reads, init_reads, compound_reads, act_uses}
use Rattle.dep_model.specs.Locations.{TypedLocation, locations, same_location}
use Rattle.run_facts.proofs.SelectedPlaces.{any_there}
use Rattle.simulation_locations.proofs.SameLocations.{location_is}

abbrev pub is_object : Root → Bool
is_object Input = false
is_object (Variable x) = true
is_object (Site i) = true
is_object (Result f) = false

abbrev pub AreObjects : Places → Type 0
AreObjects places = (l : Location) → places l ≡ true → is_object l.root ≡ true

none_objects : AreObjects no_places
none_objects l h = absurd (false≢true h)

either_objects : (a b : Places) → AreObjects a → AreObjects b → AreObjects (λ l. a l || b l)
either_objects a b h k l e = elim (or_cases (a l) (b l) e) [ inl x ↦ h l x | inr x ↦ k l x ]

both_objects : (t : Bool) (a : Places) → AreObjects a → AreObjects (λ l. t && a l)
both_objects t a h l e = h l (and_parts t (a l) e).1

if_objects : (t : Bool) (a b : Places) → AreObjects a → AreObjects b → AreObjects (λ l. if t then a l else b l)
if_objects true a b h k = h
if_objects false a b h k = k

pub whole_objects : (x : ℕ) → AreObjects (whole x)
whole_objects x l e = subst (λ (m : Location). is_object m.root ≡ true) (location_is (variable x) l e) refl

module _ (p : Program) (points : TargetsOf) (pairs : (k m : Location) → points k m ≡ true → is_object m.root ≡ true) where
  -- a part lies where its whole does
  part_objects : (h : Part) (places : Places) → AreObjects places → AreObjects (part_of p h places)
  part_objects h places are l e =
      let test : TypedLocation → Bool = λ o. places o.location && same_location (inside o.location h) l in
      let o = any_there test (locations p) (and_parts (is_location p l) (list_any test (locations p)) e).1 in
      let both = and_parts (places o.0.location) (same_location (inside o.0.location h) l) o.1 in
      subst (λ (m : Location). is_object m.root ≡ true) (location_is (inside o.0.location h) l both.1) (are o.0.location both.0)

  target_objects : (places : Places) → AreObjects (targets p points places)
  target_objects places l e =
      let test : TypedLocation → Bool = λ o. places o.location && points o.location l in
      let o = any_there test (locations p) (and_parts (is_location p l) (list_any test (locations p)) e).1 in
      pairs o.0.location l (and_parts (places o.0.location) (points o.0.location l) o.1).1

  -- ---- expressions

  record HasObjects (d : Denoted) : Type 0 where
    places : AreObjects d.places
    pointed : AreObjects d.points
    reads : AreObjects d.reads

  reads_objects : (d : Denoted) → HasObjects d → AreObjects (value_reads p points d)
  reads_objects d h =
      either_objects d.reads (λ l. (d.form.is_place && is_scalar d.form.type) && d.places l) h.reads (both_objects (d.form.is_place && is_scalar d.form.type) d.places h.places)

  points_objects : (d : Denoted) → HasObjects d → AreObjects (value_points p points d)
  points_objects d h =
      if_objects (is_array_place d.form) (part_of p part.Element d.places) (λ l. if d.form.is_place then (is_pointer d.form.type && targets p points d.places l) else d.points l) (part_objects part.Element d.places h.places)
      (if_objects d.form.is_place (λ l. is_pointer d.form.type && targets p points d.places l) d.points (both_objects (is_pointer d.form.type) (targets p points d.places) (target_objects d.places)) h.pointed)

  abbrev Objects : Expr → Type 0
  Objects e = HasObjects (denoted p points e)

  abbrev Part_ : Type 0
  Part_ = (e : Expr) × Objects e

  read_of : (e : Part_) → AreObjects (value_reads p points (denoted p points e.0))
  read_of e = reads_objects (denoted p points e.0) e.1

  point_of : (e : Part_) → AreObjects (value_points p points (denoted p points e.0))
  point_of e = points_objects (denoted p points e.0) e.1

  two_reads : (a b : Part_) → AreObjects (λ l. value_reads p points (denoted p points a.0) l || value_reads p points (denoted p points b.0) l)
  two_reads a b = either_objects _ _ (read_of a) (read_of b)

  two_points : (t : Bool) (a b : Part_) → AreObjects (λ l. t && (value_points p points (denoted p points a.0) l || value_points p points (denoted p points b.0) l))
  two_points t a b = both_objects t _ (either_objects _ _ (point_of a) (point_of b))

  element_objects : (t : Bool) (f : Designated) (a i : Part_) → HasObjects (if t then (record { form = f; places = part_of p part.Element (denoted p points a.0).places; points = no_places; reads = λ l. (denoted p points a.0).reads l || value_reads p points (denoted p points i.0) l }) else (record { form = f; places = value_points p points (denoted p points a.0); points = no_places; reads = λ l. value_reads p points (denoted p points a.0) l || value_reads p points (denoted p points i.0) l }))
  element_objects true f a i =
      record { places = part_objects part.Element _ a.1.places; pointed = none_objects; reads = either_objects _ _ a.1.reads (read_of i) }
  element_objects false f a i = record { places = point_of a; pointed = none_objects; reads = two_reads a i }

  layer : (y : ExprParts Objects) → HasObjects (denoted_step p points (map-Expr Expr Denoted (denoted p points) (expr_layer Objects y)))
  layer (Expr-F.Constant t k v) = record { places = none_objects; pointed = none_objects; reads = none_objects }
  layer Expr-F.Null = record { places = none_objects; pointed = none_objects; reads = none_objects }
  layer Expr-F.Eof = record { places = none_objects; pointed = none_objects; reads = none_objects }
  layer (Expr-F.Variable x) = record { places = whole_objects x; pointed = none_objects; reads = none_objects }
  layer (Expr-F.Unary op a) = record { places = none_objects; pointed = none_objects; reads = read_of a }
  layer (Expr-F.Deref a) = record { places = point_of a; pointed = none_objects; reads = read_of a }
  layer (Expr-F.AddressOf a) = record { places = none_objects; pointed = a.1.places; reads = a.1.reads }
  layer (Expr-F.Binary op a b) = record { places = none_objects; pointed = two_points _ a b; reads = two_reads a b }
  layer (Expr-F.AndAlso a b) = record { places = none_objects; pointed = none_objects; reads = two_reads a b }
  layer (Expr-F.OrElse a b) = record { places = none_objects; pointed = none_objects; reads = two_reads a b }
  layer (Expr-F.Choose c a b) = record { places = none_objects; pointed = two_points _ a b; reads = either_objects _ _ (read_of c) (two_reads a b) }
  layer (Expr-F.Cast k a) = record { places = none_objects; pointed = none_objects; reads = read_of a }
  layer (Expr-F.Index a i) =
      element_objects (is_array_place (denoted p points a.0).form) (designated_step p (map-Expr Denoted Designated (λ (d : Denoted). d.form) (map-Expr Expr Denoted (denoted p points) (Expr-F.Index a.0 i.0)))) a i
  layer (Expr-F.Member a m) = record { places = part_objects (part.Member m.index) _ a.1.places; pointed = none_objects; reads = a.1.reads }
  layer (Expr-F.Arrow a m) = record { places = part_objects (part.Member m.index) _ (point_of a); pointed = none_objects; reads = read_of a }
  layer (Expr-F.Paren a) = record { places = a.1.places; pointed = a.1.pointed; reads = a.1.reads }

  rolled : (y : Expr-F Expr) → HasObjects (denoted_step p points (map-Expr Expr Denoted (denoted p points) y)) → Objects (roll-Expr y)
  rolled y h = subst HasObjects (sym (fold-roll-Expr Denoted (denoted_step p points) y)) h

  objects_of : (e : Expr) → Objects e
  objects_of e = of_every_expr Objects (λ y. rolled (expr_layer Objects y) (layer y)) e

  expr_objects : (e : Expr) → AreObjects (expr_reads p points e)
  expr_objects e = reads_objects (denoted p points e) (objects_of e)

  -- ---- acts

  any_objects : (es : List Expr) → AreObjects (any_reads p points es)
  any_objects [] = none_objects
  any_objects (e ∷ es) = either_objects _ _ (expr_objects e) (any_objects es)

  pub maybe_objects : (o : Option Expr) → AreObjects (maybe_reads p points o)
  maybe_objects None = none_objects
  maybe_objects (Some e) = expr_objects e

  pub found_objects : (to : Target) → AreObjects (target_reads p points to)
  found_objects target.None = none_objects
  found_objects (target.Place e) = (objects_of e).reads
  found_objects (target.Declared x) = none_objects

  amount_objects : (n : Amount) → AreObjects (amount_reads p points n)
  amount_objects (amount.Size t) = none_objects
  amount_objects (amount.CountSize e t) = expr_objects e
  amount_objects (amount.SizeCount t e) = expr_objects e
  amount_objects (amount.Count e) = expr_objects e

  init_objects : (i : Init) → AreObjects (init_reads p points i)
  init_objects init.None = none_objects
  init_objects (init.One e) = expr_objects e
  init_objects (init.Items es) = any_objects es

  compound_objects : (op : Option BinaryOp) (left : Expr) → AreObjects (compound_reads p points op left)
  compound_objects None left = none_objects
  compound_objects (Some op) left = (objects_of left).places

  -- what an act uses but for the input
  pub act_objects : (a : Act) (l : Location) → act_uses p points a l ≡ true → (same_location the_input l ≡ true) ⊎ (is_object l.root ≡ true)
  act_objects (Begins x i) l h = inr (init_objects i l h)
  act_objects (Sets left op right) l h = inr (either_objects _ _ (objects_of left).reads (either_objects _ _ (compound_objects op left) (expr_objects right)) l h)
  act_objects (Bumps left up) l h = inr (either_objects _ _ (objects_of left).reads (objects_of left).places l h)
  act_objects (Fetches to) l h = elim (or_cases (same_location the_input l) (target_reads p points to l) h) [ inl e ↦ inl e | inr e ↦ inr (found_objects to l e) ]
  act_objects (Writes e) l h = inr (expr_objects e l h)
  act_objects (Prints format args) l h = inr (any_objects args l h)
  act_objects (Allocates to n) l h = inr (either_objects _ _ (found_objects to) (amount_objects n) l h)
  act_objects (Frees e) l h = inr (expr_objects e l h)
  act_objects (Returns e) l h = inr (maybe_objects e l h)
  act_objects (Tests e) l h = inr (expr_objects e l h)
