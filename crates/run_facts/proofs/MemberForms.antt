-- A member of an object that isn't behind a pointer, and an expression in parentheses.
use Rattle.std.proofs.Common.{◌≡◌, ℕ, Option, Some, Bool, false, refl, ap, ◌∙◌, subst}
use Rattle.std.specs.Prelude.{option_map, option_and_then, slice_get}
use Rattle.std.proofs.lemmas.Bool.{or_left, or_right}
use Rattle.c_language.proofs.Options.{map_there, then_there}
use Rattle.c_tree.specs.declared.expr.Expr.TheOpen.{Expr-F}
use Rattle.c_tree.specs.declared.expr.MemberId.{MemberId}
use Rattle.c_tree.specs.declared.program.Member.{Member}
use Rattle.c_tree.specs.declared.program.Program.{Program}
use Rattle.c_language.specs.declared.expr_type.ExprType.{ExprType}
use Rattle.c_language.specs.TreeTypes.{members_of, typing_of}
use Rattle.c_meaning.specs.declared.value.Place.{Place}
use Rattle.c_meaning.specs.Pointers.{if_typed, start}
use Rattle.c_meaning.specs.Values.{Types, State, owner_of, member_of}
use Rattle.dep_model.specs.Denoted.{TargetsOf, Denoted, denoted_step}
use Rattle.dep_model.specs.Designated.{is_root}
use Rattle.dep_model.specs.LocationLists.{AreStructsInOrder}
use Rattle.run_facts.specs.DenotedCells.{IsObject, AreTaken, IsDenoted}
use Rattle.run_facts.specs.ReadCells.{Watched, watched_step}
use Rattle.run_facts.specs.TypedStates.{IsTypedState}
use Rattle.run_facts.proofs.PointedObjects.{typed_same}
use Rattle.run_facts.proofs.ObjectValues.{ObjectParts, object_denoted}
use Rattle.run_facts.proofs.ObjectForms.{part_address, member_place, member_object}

module _ (p : Program) (order : AreStructsInOrder p) (points : TargetsOf) (s : State) (typed : IsTypedState p points s) (da : Denoted) (wa : Watched) (na : Bool) (h : IsDenoted p s points na da wa) where
  abbrev Taken : (ℕ → Bool) → Type 0
  Taken = AreTaken p s

  module _ (m : MemberId) (k : Member) (there : slice_get (members_of p m.owner) m.index ≡ Some k) (struct : da.form.type ≡ owner_of m) where
    abbrev a_member : Denoted
    a_member = denoted_step p points (Expr-F.Member da m)

    abbrev inner : Place → Place
    inner = member_place p order points s typed da wa na h m k there

    -- the struct in which the member is
    record IsMemberOf (q : Place) : Type 0 where
      struct_at : Place
      found : wa.meant.place s ≡ Some struct_at
      place_is : inner struct_at ≡ q

    member_found : (q : Place) → member_of m s (wa.meant.place s) ≡ Some q → IsMemberOf q
    member_found q e =
        let o = map_there inner (option_and_then (if_typed s.memory (owner_of m)) (wa.meant.place s)) q e in
        let r = then_there (if_typed s.memory (owner_of m)) (wa.meant.place s) o.value o.there in
        record { struct_at = r.value; found = r.there; place_is = ap inner (typed_same s.memory (owner_of m) r.value o.value r.same) ∙ o.same }

    dot_object : Taken da.form.takes → (q : Place) → member_of m s (wa.meant.place s) ≡ Some q → IsObject p s a_member q
    dot_object taken q e =
        let f = member_found q e in
        let o = h.object taken f.struct_at f.found in
        subst (IsObject p s a_member) f.place_is
        (member_object p order points s typed da wa na h m k there a_member da.places f.struct_at o.origin o.is_place refl refl (o.type_is ∙ ap Some struct) o.origin_is o.object_is o.among o.lies)

    dot_parts : ObjectParts p order points s typed a_member (λ u. member_of m u (wa.meant.place u)) (λ u. option_map start (member_of m u (wa.meant.place u))) wa.found
    dot_parts = record {
      object = dot_object;
      address_is = λ taken array v e. part_address p order points s typed a_member (member_of m s (wa.meant.place s)) (dot_object (λ x t. taken x (or_left (da.form.takes x) (is_root da.form.root x) t))) (λ x t. taken x (or_right (da.form.takes x) (is_root da.form.root x) t)) array v e;
      addressed = λ q e. (start q, ap (option_map start) e);
      found_are = λ taken v e. let q = map_there start (member_of m s (wa.meant.place s)) v e in let f = member_found q.value q.there in let a = h.addressed f.struct_at f.found in h.found taken a.0 a.1;
    }

    -- `e.m`
    pub member_denoted : (result : Option ExprType) → IsDenoted p s points false a_member (watched_step (record { typing = typing_of p; result = result }) (Expr-F.Member wa m))
    member_denoted result = object_denoted p order points s typed a_member (λ u. member_of m u (wa.meant.place u)) (λ u. option_map start (member_of m u (wa.meant.place u))) wa.found dot_parts

  -- ---- parentheses

  abbrev in_parentheses : Denoted
  in_parentheses = denoted_step p points (Expr-F.Paren da)

  same_object : (q : Place) → IsObject p s da q → IsObject p s in_parentheses q
  same_object q o = record { is_place = o.is_place; type_is = o.type_is; origin = o.origin; origin_is = o.origin_is; object_is = o.object_is; among = o.among; lies = o.lies }

  -- `(e)`
  pub parentheses_denoted : (types : Types) → IsDenoted p s points na in_parentheses (watched_step types (Expr-F.Paren wa))
  parentheses_denoted types = record {
    type_is = h.type_is;
    null = h.null;
    object = λ taken q e. same_object q (h.object taken q e);
    starts = h.starts;
    array_read = h.array_read;
    cell_is = h.cell_is;
    value = h.value;
    address = h.address;
    addressed = h.addressed;
    found = h.found;
    read = h.read;
  }
