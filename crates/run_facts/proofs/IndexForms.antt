-- An element: of an array it lies where the array does, and behind a pointer it is what that points to.
use Rattle.std.proofs.Common.{◌≡◌, ℕ, ℤ, List, [], ◌∷◌, ◌++◌, Option, Some, None, Bool, true, false, ◌&&◌, ◌||◌, inl, inr, refl, sym, ap, ◌∙◌, subst}
use Rattle.std.specs.Prelude.{slice_get, if◌then◌else◌, All}
use Rattle.std.proofs.lemmas.Bool.{and_parts, or_cases, or_left, or_right}
use Rattle.std.proofs.lemmas.List.Elements.{All-append}
use Rattle.c_arith.specs.declared.operators.BinaryOp.TheVariants.{Add}
use Rattle.c_language.proofs.Options.{map_there, then_there}
use Rattle.c_tree.specs.declared.expr.Expr.TheOpen.{Expr-F}
use Rattle.c_tree.specs.declared.program.Program.{Program}
use Rattle.c_language.specs.ConstantEvaluation.{operand_type}
use Rattle.c_language.specs.declared.expr_type.ExprType.{ExprType}
use Rattle.c_language.specs.ExprTypes.{is_pointer, is_array, value_type}
use Rattle.c_language.specs.TreeTypes.{int_type, pointee}
use Rattle.c_meaning.specs.declared.value.Hop.TheVariants as hop
use Rattle.c_meaning.specs.declared.value.Place.{Place}
use Rattle.c_meaning.specs.declared.value.Pointer.{Pointer}
use Rattle.c_meaning.specs.declared.value.Value.{Value}
use Rattle.c_meaning.specs.declared.value.Value.TheVariants.{Number}
use Rattle.c_meaning.specs.Pointers.{pointed, if_typed, designated, moved, start}
use Rattle.c_meaning.specs.Values.{Types, State, at_operands, indexed, an_object}
use Rattle.dep_model.specs.declared.location.Location.{Location}
use Rattle.dep_model.specs.declared.location.Part.TheVariants as part
use Rattle.dep_model.specs.Denoted.{Places, TargetsOf, Denoted, inside, part_of, either_of, value_points, value_reads, reads_either, denoted_step}
use Rattle.dep_model.specs.Denoted as denote
use Rattle.dep_model.specs.Designated.{Designated, is_root, is_array_place, value_takes, takes_either, a_place}
use Rattle.dep_model.specs.LocationLists.{AreStructsInOrder}
use Rattle.run_facts.specs.CellLocations.{location_in}
use Rattle.run_facts.specs.DenotedCells.{LiesBy, IsObject, IsReadOf, AreTaken, IsDenoted}
use Rattle.run_facts.specs.PointerLocations.{item_type, is_object}
use Rattle.run_facts.specs.ReadCells.{Watched, both_read, watched_step, an_object as an_object_read}
use Rattle.run_facts.specs.TypedStates.{IsTypedState}
use Rattle.run_facts.proofs.ListedObjects.{location_more, part_among, object_listed}
use Rattle.run_facts.proofs.PointedObjects.{item_block, pointed_item, typed_same, item_listed, pointer_moved, moved_value, value_else}
use Rattle.run_facts.proofs.ObjectValues.{array_target, array_item, points_of_array, ObjectParts, object_denoted}
use Rattle.run_facts.proofs.ObjectForms.{pointee_is, both_there, by_number, item_place, reached_object, as_address}

module _ (p : Program) (order : AreStructsInOrder p) (points : TargetsOf) (s : State) (typed : IsTypedState p points s) (da di : Denoted) (wa wi : Watched) (na ni : Bool) (h : IsDenoted p s points na da wa) (k : IsDenoted p s points ni di wi) where
  abbrev Taken : (ℕ → Bool) → Type 0
  Taken = AreTaken p s

  abbrev ta : ExprType
  ta = da.form.type

  abbrev t : ExprType
  t = pointee ta

  -- ---- `a[i]` points where `a + i` does

  pub record IsSum (v : Value) : Type 0 where
    pub pointer : Value
    pub pointer_is : wa.meant.value s ≡ Some pointer
    pub number : ℤ
    pub number_is : wi.meant.value s ≡ Some (Number number)
    pub moved_is : moved s.memory number pointer ≡ Some v

  -- the left operand is a pointer, or an array that turns into one, and the index is an integer
  pub record IsIndexed : Type 0 where
    pub left : is_pointer (value_type ta) ≡ true
    pub right : is_pointer (value_type di.form.type) ≡ false

  pub sum_there : IsIndexed → (v : Value) → indexed wa.meant wi.meant s ≡ Some v → IsSum v
  sum_there is v e =
      let left : is_pointer (value_type wa.meant.type) ≡ true = ap (λ (u : ExprType). is_pointer (value_type u)) h.type_is ∙ is.left in
      let right : is_pointer (value_type wi.meant.type) ≡ false = ap (λ (u : ExprType). is_pointer (value_type u)) k.type_is ∙ is.right in
      let kind = operand_type Add (int_type wa.meant.type) (int_type wi.meant.type) in
      let b = both_there (at_operands (is_pointer (value_type wa.meant.type)) (is_pointer (value_type wi.meant.type)) Add kind s.memory) (wa.meant.value s) (wi.meant.value s) v e in
      let first = subst (λ (c : Bool). at_operands c (is_pointer (value_type wi.meant.type)) Add kind s.memory b.0 b.1.0 ≡ Some v) left b.1.1.1.1 in
      let both = subst (λ (c : Bool). at_operands true c Add kind s.memory b.0 b.1.0 ≡ Some v) right first in
      let n = by_number s.memory b.0 b.1.0 v both in
      record { pointer = b.0; pointer_is = b.1.1.0; number = n.0; number_is = b.1.1.1.0 ∙ ap Some n.1.0; moved_is = n.1.1 }

  -- ---- by whether the left operand is an array

  abbrev element_form : Bool → Designated
  element_form b =
      if b then a_place t da.form.root None (λ x. da.form.takes x || value_takes di.form x) else a_place t None None (takes_either da.form di.form)

  abbrev element : Bool → Denoted
  element b =
      if b then denote.an_object p points (element_form b) (part_of p part.Element da.places) (either_of da.reads (value_reads p points di)) else denote.an_object p points (element_form b) (value_points p points da) (reads_either p points da di)

  abbrev pointer_at : State → Option Value
  pointer_at = indexed wa.meant wi.meant

  abbrev Parts : Bool → Type 0
  Parts b = ObjectParts p order points s typed (element b) (item_place t pointer_at) pointer_at (both_read wa.read wi.read)

  read_else : (a b : Places) (q : Place) → ((l : Location) → a l ≡ true → b l ≡ true) → IsReadOf p s a q → IsReadOf p s b q
  read_else a b q le r = record { origin = r.origin; origin_is = r.origin_is; among = le (location_in r.origin q.path) r.among; counts = r.counts }

  both_are : (a b : Places) → All (IsReadOf p s a) (wa.read s) → All (IsReadOf p s b) (wi.read s) → All (IsReadOf p s (either_of a b)) (wa.read s ++ wi.read s)
  both_are a b first second =
      All-append (IsReadOf p s (either_of a b)) (wa.read s) (wi.read s)
      (λ j q low. read_else a (either_of a b) _ (λ l e. or_left (a l) (b l) e) (first j q low))
      (λ j q low. read_else b (either_of a b) _ (λ l e. or_right (a l) (b l) e) (second j q low))

  addressed_at : (q : Place) → item_place t pointer_at s ≡ Some q → (v : Value) × (pointer_at s ≡ Some v)
  addressed_at q e = let m = then_there (designated s.memory t) (pointer_at s) q e in (m.value, m.there)

  -- behind a pointer
  behind_parts : IsIndexed → Parts false
  behind_parts is = record {
    object = λ taken q e.
        let m = then_there (designated s.memory t) (pointer_at s) q e in
        let sum = sum_there is m.value m.there in
        let value = h.value (λ x u. taken x (or_left (value_takes da.form x) (value_takes di.form x) u)) sum.pointer sum.pointer_is in
        reached_object p order points s typed da wa na h (element false) refl refl refl refl t m.value q (moved_value p s (value_type ta) (value_points p points da) sum.pointer sum.number m.value value sum.moved_is) m.same;
    address_is = λ taken array v e.
        let sum = sum_there is v e in
        let value = h.value (λ x u. taken x (or_left (takes_either da.form di.form x) false (or_left (value_takes da.form x) (value_takes di.form x) u))) sum.pointer sum.pointer_is in
        as_address p order points s typed da wa na h is.left (value_points p points da) v (moved_value p s (value_type ta) (value_points p points da) sum.pointer sum.number v value sum.moved_is);
    addressed = addressed_at;
    found_are = λ taken v e.
        let sum = sum_there is v e in
        both_are (value_reads p points da) (value_reads p points di) (h.read (λ x u. taken x (or_left (value_takes da.form x) (value_takes di.form x) u)) sum.pointer sum.pointer_is) (k.read (λ x u. taken x (or_right (value_takes da.form x) (value_takes di.form x) u)) (Number sum.number) sum.number_is);
  }

  -- ---- of an array

  module _ (array : is_array_place da.form ≡ true) where
    is_one : is_array ta ≡ true
    is_one = (and_parts da.form.is_place (is_array ta) array).1

    -- a sum starts from the array's first element
    from_array : (v : Value) → IsSum v → (r : Place) × ((wa.meant.place s ≡ Some r) × ((z : ℤ) × (moved s.memory z (start r) ≡ Some v)))
    from_array v sum =
        let m = map_there start (wa.meant.place s) sum.pointer (sym (h.starts array) ∙ sum.pointer_is) in
        (m.value, (m.there, (sum.number, subst (λ (x : Value). moved s.memory sum.number x ≡ Some v) (sym m.same) sum.moved_is)))

    -- the element at an index
    element_object : (r : Place) → IsObject p s da r → (v : Value) (z : ℤ) (q : Place) → moved s.memory z (start r) ≡ Some v → designated s.memory t v ≡ Some q → IsObject p s (element true) q
    element_object r o v z q m e =
        let pointer : Pointer = record { block = r.block; path = r.path; index = 0 } in
        let j = pointer_moved s.memory pointer z v m in
        let there : Pointer = record { block = r.block; path = r.path; index = j.index } in
        let d = then_there (if_typed s.memory t) (pointed s.memory there) q (subst (λ (x : Value). designated s.memory t x ≡ Some q) j.value_is e) in
        let item = pointed_item s.memory there ta q o.type_is (d.there ∙ ap Some (typed_same s.memory t d.value q d.same)) in
        let block : q.block ≡ r.block = ap (λ (x : Place). x.block) item.place_is ∙ item_block ta.layers j.index r in
        let path : q.path ≡ r.path ++ hop.Element j.index ∷ [] = ap (λ (x : Place). x.path) item.place_is ∙ array_item ta.layers j.index r is_one in
        let made : slice_get s.origins q.block ≡ Some o.origin = ap (slice_get s.origins) block ∙ o.origin_is in
        let listed = item_listed p order points s typed there ta o.origin o.origin_is o.type_is in
        let object = ap (λ (x : Place). is_object o.origin x.path) item.place_is ∙ listed.object_is in
        let l = location_in o.origin r.path in
        let inner : location_in o.origin q.path ≡ inside l part.Element = ap (location_in o.origin) path ∙ location_more o.origin r.path (hop.Element j.index) o.object_is in
        record {
          is_place = refl;
          type_is = item.type_is ∙ ap Some (sym (pointee_is ta (item_type ta) (array_target ta.layers ta.base is_one)));
          origin = o.origin;
          origin_is = made;
          object_is = object;
          among = part_among p part.Element da.places l (location_in o.origin q.path) ta (item_type ta) (object_listed p order points s typed r o.origin ta o.origin_is o.object_is o.type_is) (object_listed p order points s typed q o.origin (item_type ta) made object item.type_is) inner o.among;
          lies = subst (λ (b : ℕ). LiesBy p s da.form.root b o.origin) (sym block) o.lies;
        }

    array_parts : IsIndexed → Parts true
    array_parts is = record {
      object = λ taken q e.
          let m = then_there (designated s.memory t) (pointer_at s) q e in
          let f = from_array m.value (sum_there is m.value m.there) in
          element_object f.0 (h.object (λ x u. taken x (or_left (da.form.takes x) (value_takes di.form x) u)) f.0 f.1.0) m.value f.1.1.0 q f.1.1.1 m.same;
      address_is = λ taken arr v e.
          let sum = sum_there is v e in
          let all : Taken (value_takes da.form) = λ x u. taken x (elim (or_cases (da.form.takes x) (is_array_place da.form && is_root da.form.root x) u) [
            | inl y ↦ or_left (da.form.takes x || value_takes di.form x) (is_root da.form.root x) (or_left (da.form.takes x) (value_takes di.form x) y)
            | inr y ↦ or_right (da.form.takes x || value_takes di.form x) (is_root da.form.root x) (and_parts (is_array_place da.form) (is_root da.form.root x) y).1
          ]) in
          let value = moved_value p s (value_type ta) (value_points p points da) sum.pointer sum.number v (h.value all sum.pointer sum.pointer_is) sum.moved_is in
          as_address p order points s typed da wa na h is.left (part_of p part.Element da.places) v
          (value_else p s (value_type ta) (value_points p points da) (part_of p part.Element da.places) v (λ l u. sym (points_of_array p points da l array) ∙ u) value);
      addressed = addressed_at;
      found_are = λ taken v e.
          let sum = sum_there is v e in
          let f = from_array v sum in
          let a = h.addressed f.0 f.1.0 in
          both_are da.reads (value_reads p points di)
          (subst (λ (qs : List Place). All (IsReadOf p s da.reads) qs) (sym (h.array_read array)) (h.found (λ x u. taken x (or_left (da.form.takes x) (value_takes di.form x) u)) a.0 a.1)) (k.read (λ x u. taken x (or_right (da.form.takes x) (value_takes di.form x) u)) (Number sum.number) sum.number_is);
    }

  parts_by : (b : Bool) → is_array_place da.form ≡ b → IsIndexed → Parts b
  parts_by true array is = array_parts array is
  parts_by false array is = behind_parts is

  form_by : (b : Bool) → ((element b).form.type) ≡ t
  form_by true = refl
  form_by false = refl

  abbrev an_element : Denoted
  an_element = denoted_step p points (Expr-F.Index da di)

  -- `a[i]`
  pub element_denoted : (types : Types) → IsIndexed → IsDenoted p s points false an_element (watched_step types (Expr-F.Index wa wi))
  element_denoted types is =
      let b = is_array_place da.form in
      let first = object_denoted p order points s typed (element b) (item_place t pointer_at) pointer_at (both_read wa.read wi.read) (parts_by b refl is) in
      let second = subst (λ (u : ExprType). IsDenoted p s points false (element b) (an_object_read (an_object u (item_place t pointer_at) pointer_at) (both_read wa.read wi.read))) (form_by b) first in
      subst (λ (u : ExprType). IsDenoted p s points false an_element (an_object_read (an_object u (item_place u pointer_at) pointer_at) (both_read wa.read wi.read))) (sym (ap pointee h.type_is)) second
