-- Wherever a run of a well-formed program stands, its pointers lead where points-to says.
use Rattle.std.proofs.Common.{◌≡◌, ℕ, List, ◌∷◌, Option, Some, true, sym, ap, ◌∙◌, subst}
use Rattle.std.specs.Prelude.{Contains, option_map, option_and_then, slice_get}
use Rattle.std.proofs.lemmas.Bool.{or_left, or_right}
use Rattle.c_language.proofs.Options.{then_there}
use Rattle.c_tree.specs.declared.expr.Expr.{Expr}
use Rattle.c_tree.specs.declared.program.Program.{Program}
use Rattle.c_tree.specs.declared.statement.Target.{Target}
use Rattle.c_tree.specs.declared.statement.Target.TheVariants as target
use Rattle.c_tree.specs.declared.types.CType.{CType}
use Rattle.c_language.specs.ExprTypes.{a_value}
use Rattle.c_language.specs.TreeTypes.{shape_of}
use Rattle.c_language.specs.declared.expr_type.ExprType.{ExprType}
use Rattle.c_meaning.specs.declared.value.Place.{Place}
use Rattle.c_meaning.specs.declared.value.Pointer.{Pointer}
use Rattle.c_meaning.specs.declared.value.Value.{Value}
use Rattle.c_meaning.specs.declared.value.Value.TheVariants.{To}
use Rattle.c_meaning.specs.Cells.{Subobject, subobject, cell_number}
use Rattle.c_meaning.specs.Memory.{Block, Memory, held, cell_in, cell, read}
use Rattle.c_meaning.specs.Pointers.{type_at, whole_of}
use Rattle.c_meaning.specs.Values.{Origin, State, eval}
use Rattle.c_meaning.specs.Activations.{executable, types_in, result_at}
use Rattle.c_meaning.specs.Steps.{Waiting, Point}
use Rattle.dep_model.specs.Denoted.{Places, TargetsOf, expr_points}
use Rattle.dep_model.specs.Doings.{Doing, Does, Calls}
use Rattle.dep_model.specs.DoingEffects.{doing_takes, target_takes, any_takes}
use Rattle.dep_model.specs.LocationLists.{AreStructsInOrder}
use Rattle.dep_model.specs.MayPoint.{IsPointsTo}
use Rattle.dep_model.proofs.Membership.{IsIn, in_of_contains}
use Rattle.dep_model.proofs.StructOrder.{well_formed_in_order}
use Rattle.run_facts.specs.CellLocations.{location_in, location_of}
use Rattle.run_facts.specs.CoveredPoints.{LeadsAmong, HoldsCovered, PlacesCovered, IsCovered}
use Rattle.run_facts.specs.Effects.{next_doing, back_in}
use Rattle.run_facts.specs.Laws.{PointsToCoversRuns}
use Rattle.run_facts.specs.NextExprs.{target_exprs, doing_values, doing_places}
use Rattle.run_facts.specs.PointerLocations.{item_of}
use Rattle.run_facts.specs.TypedStates.{Leads, IsTypedState}
use Rattle.run_facts.proofs.CellPaths.{cell_at}
use Rattle.run_facts.proofs.ExprsDenoted.{AreShapes}
use Rattle.run_facts.proofs.ObjectForms.{block_there}
use Rattle.run_facts.proofs.PointedObjects.{item_block}
use Rattle.run_facts.proofs.Points.{AreWaiting}
use Rattle.run_facts.proofs.Statements.{next_member}
use Rattle.run_facts.proofs.TypedActs.{value_at, left_object}
use Rattle.run_facts.proofs.TypedParts.{StandsIn, stands_in, doing_taken, doing_fit}
use Rattle.run_facts.proofs.TypedRuns.{Own, IsKnown, IsTypedPoint, called_function, back_typed, typed_run, known_run}
use Rattle.run_facts.proofs.UsedExprs.{IsValueOf, IsPlaceOf, as_place, argument_values, stored_place, value_used, place_used}
use Rattle.typed_programs.specs.TypedStatements.{IsTyped}
use Rattle.typed_programs.specs.TypedStatements as fits
use Rattle.typed_programs.specs.TreeOperands.{declarations}
use Rattle.typed_programs.proofs.TreeTypes.{type_is}
use Rattle.typed_programs.proofs.TypedPrograms.{programs_typed}
use Rattle.typed_programs.proofs.TypedUses.{holds_there}

-- ---- pointers and cells

located : (p : Program) (s : State) (t : ExprType) (targets : Places) (r : Pointer) → Leads p s t targets r → LeadsAmong s targets r
located p s t targets r h =
    let q = item_of r h.whole in
    record {
      location = location_in h.origin q.path;
      location_is =
          ap (option_and_then (λ (u : ExprType). location_of s.origins (item_of r u))) h.whole_is
          ∙ ap (option_map (λ (o : Origin). location_in o q.path)) (ap (slice_get s.origins) (item_block h.whole.layers r.index (whole_of r)) ∙ h.origin_is);
      among = h.among;
    }

-- a cell that holds a value has a type
pub record IsHeld (m : Memory) (q : Place) : Type 0 where
  pub block : Block
  pub block_is : slice_get m.blocks q.block ≡ Some block
  pub type : ExprType
  pub type_is : type_at m q ≡ Some type

held_there : (m : Memory) (q : Place) (v : Value) → read m q ≡ Some v → IsHeld m q
held_there m q v e =
    let c = then_there held (cell m q) v e in
    let b = then_there (cell_in m.structs q.path) (slice_get m.blocks q.block) c.value c.there in
    let n = then_there (slice_get b.value.cells) (cell_number m.structs q.path b.value.shape) c.value b.same in
    let o = cell_at m.structs q.path b.value.shape n.value n.there in
    record {
      block = b.value;
      block_is = b.there;
      type = o.object.type;
      type_is =
          ap (option_and_then (λ (k : Block). option_map (λ (u : Subobject). u.type) (subobject m.structs q.path k.shape))) b.there
          ∙ ap (option_map (λ (u : Subobject). u.type)) o.object_is;
    }

module _ (p : Program) (points : TargetsOf) where
  cell_covered : (s : State) → IsTypedState p points s → (q : Place) (r : Pointer) → read s.memory q ≡ Some (To r) → HoldsCovered p points s q r
  cell_covered s typed q r e =
      let h = held_there s.memory q (To r) e in
      let o = block_there s.memory.blocks s.origins q.block h.block (sym typed.tracked) h.block_is in
      let l = location_in o.0 q.path in
      record {
        location = l;
        location_is = ap (option_map (λ (k : Origin). location_in k q.path)) o.1;
        leads = located p s h.type (points l) r (typed.cells q (To r) h.type o.0 e h.type_is o.1);
      }

  module _ (order : AreStructsInOrder p) (shapes : AreShapes p) (typed : IsTyped p) where
    -- ---- expressions

    value_covered : (f : ℕ) (s : State) → IsTypedState p points s → (d : Doing) → StandsIn p f d → (e : Expr) (r : Pointer) → IsValueOf p points shapes (doing_takes p d) e → eval (types_in (executable p) f) e s ≡ Some (To r) → LeadsAmong s (expr_points p points e) r
    value_covered f s so d stands e r used is =
        located p s _ (expr_points p points e) r
        (value_at p order shapes points s so (result_at (executable p) f) (λ v. ⊥) e used.operand (To r) used.operand_is (λ x t. doing_taken p f d stands x (used.taken x t)) is)

    place_covered : (f : ℕ) (s : State) → IsTypedState p points s → (d : Doing) → StandsIn p f d → (e : Expr) → IsPlaceOf p points shapes (doing_takes p d) e → PlacesCovered p points f s e
    place_covered f s so d stands e used q is =
        let o = left_object p order shapes points s so (result_at (executable p) f) (λ v. ⊥) e used.operand q used.operand_is (λ x t. doing_taken p f d stands x (used.taken x t)) is in
        (location_in o.origin q.path, (ap (option_map (λ (k : Origin). location_in k q.path)) o.origin_is, o.among))

    -- those of a statement
    pub doing_value : (f : ℕ) (d : Doing) → (k : StandsIn p f d) → (e : Expr) → IsIn (doing_values d) e → IsValueOf p points shapes (doing_takes p d) e
    doing_value f (Does i a) k e c = value_used p points shapes k.function.result a (doing_fit p typed f (Does i a) k) e c
    doing_value f (Calls i to g args) k e c =
        let h = called_function p points to g args (doing_fit p typed f (Calls i to g args) k) in
        let u = argument_values p points shapes h.function.params args h.passes e c in
        record { operand = u.operand; operand_is = u.operand_is; taken = λ x t. or_right (target_takes p to x) (any_takes p args x) (u.taken x t) }

    pub doing_place : (f : ℕ) (d : Doing) → (k : StandsIn p f d) → (e : Expr) → IsIn (doing_places d) e → IsValueOf p points shapes (doing_takes p d) e
    doing_place f (Does i a) k e c = place_used p points shapes k.function.result a (doing_fit p typed f (Does i a) k) e c
    doing_place f (Calls i to g args) k e c = absurd c

    -- that to which a caller stores
    pub given_operand : (to : Target) (o : Option CType) (e : Expr) → fits.gives (declarations p) to o ≡ true → IsIn (target_exprs to) e → IsValueOf p points shapes (target_takes p to) e
    given_operand target.None o e h c = absurd c
    given_operand (target.Place l) o e h c =
        let t = holds_there (λ (k : CType). fits.stores (declarations p) (target.Place l) (a_value (shape_of k))) o h in
        stored_place p points shapes (target.Place l) (a_value (shape_of t.0)) t.2 e c
    given_operand (target.Declared x) o e h c = absurd c

    -- ---- a point

    module _ (exact : IsPointsTo p points) (x : Point) (known : IsKnown p points x) (so : IsTypedPoint p points x) where
      pub stands_next : (d : Doing) → next_doing x.rest ≡ Some d → StandsIn p x.function d
      stands_next d is = stands_in p x.function d (next_member (Own p points x.function) x.rest d known.sound.inside is)

      -- that to which a waiting caller stores, in the caller's call
      pub record IsReceipt (w : Waiting) (e : Expr) : Type 0 where
        pub args : List Expr
        pub stands : StandsIn p w.function (Calls w.call w.target x.function args)
        pub used : IsValueOf p points shapes (doing_takes p (Calls w.call w.target x.function args)) e

      pub receipt_used : (w : Waiting) (ws : List Waiting) (e : Expr) → x.callers ≡ w ∷ ws → Contains (target_exprs w.target) e → IsReceipt w e
      receipt_used w ws e are c =
          let waits = subst (AreWaiting (executable p) (Own p points) x.state.origins x.function) are known.sound.callers in
          let d = Calls w.call w.target x.function waits.0.args in
          let k = stands_in p w.function d waits.0.calls in
          let h = called_function p points w.target x.function waits.0.args (doing_fit p typed w.function d k) in
          let u = given_operand w.target h.function.result e h.gives (in_of_contains (target_exprs w.target) e c) in
          record {
            args = waits.0.args;
            stands = k;
            used = record { operand = u.operand; operand_is = u.operand_is; taken = λ y t. or_left (target_takes p w.target y) (any_takes p waits.0.args y) (u.taken y t) };
          }

      receipt_covered : (w : Waiting) (ws : List Waiting) (e : Expr) → x.callers ≡ w ∷ ws → Contains (target_exprs w.target) e → PlacesCovered p points w.function (back_in (executable p) x.function w x.state) e
      receipt_covered w ws e are c =
          let u = receipt_used w ws e are c in
          let d = Calls w.call w.target x.function u.args in
          place_covered w.function (back_in (executable p) x.function w x.state) (back_typed p points order shapes typed exact x w ws are known so) d u.stands e (as_place p points shapes (doing_takes p d) e u.used)

      pub point_covered : IsCovered p points x
      point_covered = record {
        cells = cell_covered x.state so.state;
        values = λ d e r is c. let k = stands_next d is in value_covered x.function x.state so.state d k e r (doing_value x.function d k e (in_of_contains (doing_values d) e c));
        places = λ d e is c. let k = stands_next d is in place_covered x.function x.state so.state d k e (as_place p points shapes (doing_takes p d) e (doing_place x.function d k e (in_of_contains (doing_places d) e c)));
        receipts = receipt_covered;
      }

pub points_cover_runs : PointsToCoversRuns
points_cover_runs p a ok is input x r =
    point_covered p a.points (well_formed_in_order p ok) (type_is p) (programs_typed p ok) is.points_are x (known_run p a.points (programs_typed p ok) input x r) (typed_run p a.points ok is.points_are input x r)
