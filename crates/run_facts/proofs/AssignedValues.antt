-- What is assigned is of its type and leads where the assigned expression does, whatever is converted on the way.
use Rattle.std.proofs.Common.{◌≡◌, ℤ, List, [], ◌∷◌, Option, Some, None, Bool, true, false, ◌&&◌, ◌||◌, ◌⊎◌, inl, inr, refl, sym, ap, ◌∙◌, subst}
use Rattle.std.specs.Prelude.{option_map, option_and_then, is_some}
use Rattle.std.proofs.lemmas.Bool.{false≢true, and_parts, or_cases}
use Rattle.c_arith.specs.declared.int_type.IntType.{IntType}
use Rattle.c_language.proofs.Options.{none_there, some_same, map_there, then_there}
use Rattle.c_language.proofs.Tests.{by_test}
use Rattle.c_tree.specs.declared.program.Program.{Program}
use Rattle.c_language.specs.declared.expr_type.Base.{Base}
use Rattle.c_language.specs.declared.expr_type.Layer.{Layer}
use Rattle.c_language.specs.declared.expr_type.ExprType.{ExprType}
use Rattle.c_language.specs.declared.expr_type.Operand.{Operand}
use Rattle.c_language.specs.ExprTypes.{integer_in, integer_of, target_in, is_integer, is_pointer, same_type, value_type, is_assignable}
use Rattle.c_meaning.specs.declared.value.Place.{Place}
use Rattle.c_meaning.specs.declared.value.Pointer.{Pointer}
use Rattle.c_meaning.specs.declared.value.Value.{Value}
use Rattle.c_meaning.specs.declared.value.Value.TheVariants.{Number, Null, To}
use Rattle.c_meaning.specs.Memory.{is_cell}
use Rattle.c_meaning.specs.Values.{State, number_as, pointer_as, as_type}
use Rattle.c_meaning.specs.Acts.{Made, storing, writable, if_cell, assigned}
use Rattle.dep_model.specs.declared.location.Location.{Location}
use Rattle.dep_model.specs.Denoted.{Places}
use Rattle.run_facts.specs.TypedStates.{IsValue}
use Rattle.run_facts.proofs.PointedObjects.{value_else}
use Rattle.run_facts.proofs.TypeTests.{type_is}

-- ---- what an assignment is made of

-- a value goes to a place, converted to a type
pub record IsAssigned (t : ExprType) (o : Option Place) (v : Option Value) (m : Made) : Type 0 where
  pub place : Place
  pub place_is : o ≡ Some place
  pub value : Value
  pub value_is : v ≡ Some value
  pub stored : Value
  pub stored_is : as_type t value ≡ Some stored
  pub same : storing place stored ≡ m

pub assigned_there : (t : ExprType) (o : Option Place) (v : Option Value) (m : Made) → assigned t o v ≡ Some m → IsAssigned t o v m
assigned_there t o v m e =
    let q = then_there (λ (x : Place). option_map (storing x) (option_and_then (as_type t) v)) o m e in
    let w = map_there (storing q.value) (option_and_then (as_type t) v) m q.same in
    let u = then_there (as_type t) v w.value w.there in
    record { place = q.value; place_is = q.there; value = u.value; value_is = u.there; stored = w.value; stored_is = u.same; same = w.same }

pub writable_there : (s : State) (o : Option Place) (q : Place) → writable s o ≡ Some q → o ≡ Some q
writable_there s o q e =
    let k = then_there (if_cell s.memory) o q e in
    k.there ∙ by_test (is_cell s.memory k.value) k.same (λ is same. same) (λ is none. none_there none)

-- ---- types

-- no type is an integer's and a pointer's
integer_no_pointer : {A : Type 0} (ls : List Layer) (b : Base) → is_some (integer_in ls b) ≡ true → is_some (target_in ls b) ≡ true → A
integer_no_pointer [] b i q = absurd (false≢true q)
integer_no_pointer (l ∷ ls) b i q = absurd (false≢true i)

pub not_both : {A : Type 0} (t : ExprType) → is_integer t ≡ true → is_pointer t ≡ true → A
not_both t = integer_no_pointer t.layers t.base

pub assignable_scalar : (t : ExprType) (y : Operand) → is_assignable t y ≡ true → (is_integer t ≡ true) ⊎ (is_pointer t ≡ true)
assignable_scalar t y h = elim (or_cases (is_integer t && is_integer y.shape) (is_pointer t && (same_type t (value_type y.shape) || y.is_null)) h) [
  | inl i ↦ inl (and_parts (is_integer t) (is_integer y.shape) i).0
  | inr q ↦ inr (and_parts (is_pointer t) (same_type t (value_type y.shape) || y.is_null) q).0
]

-- ---- conversions

module _ (p : Program) (s : State) (t : ExprType) (into : Places) where
  number_typed : (o : Option IntType) (z : ℤ) → integer_of t ≡ o → (is_integer t ≡ true) ⊎ (is_pointer t ≡ true) → IsValue p s t into (number_as o z)
  number_typed None z is (inl i) = absurd (false≢true (sym (ap is_some is) ∙ i))
  number_typed None z is (inr q) = q
  number_typed (Some k) z is h = ap is_some is

  null_typed : (b : Bool) (w : Value) → is_pointer t ≡ b → pointer_as b Null ≡ Some w → IsValue p s t into w
  null_typed true w is e = subst (IsValue p s t into) (some_same e) is
  null_typed false w is e = none_there e

  pointer_kept : (b : Bool) (q : Pointer) (w : Value) → pointer_as b (To q) ≡ Some w → (b ≡ true) × (To q ≡ w)
  pointer_kept true q w e = (refl, some_same e)
  pointer_kept false q w e = none_there e

  -- a value that is none but for a number, null, or a pointer of this very type
  pub converted_value : (u w : Value) → (is_integer t ≡ true) ⊎ (is_pointer t ≡ true) → ((q : Pointer) → u ≡ To q → is_pointer t ≡ true → IsValue p s t into (To q)) → as_type t u ≡ Some w → IsValue p s t into w
  converted_value (Number z) w scalar leads e = subst (IsValue p s t into) (some_same e) (number_typed (integer_of t) z refl scalar)
  converted_value Null w scalar leads e = null_typed (is_pointer t) w refl e
  converted_value (To q) w scalar leads e =
      let k = pointer_kept (is_pointer t) q w e in subst (IsValue p s t into) k.1 (leads q refl k.0)

  module _ (y : Operand) (from : Places) (le : (l : Location) → from l ≡ true → into l ≡ true) where
    -- a value that an object of this type takes
    pub assigned_value : is_assignable t y ≡ true → (u w : Value) → IsValue p s (value_type y.shape) from u → (y.is_null ≡ true → (q : Pointer) → u ≡ To q → ⊥) → as_type t u ≡ Some w → IsValue p s t into w
    assigned_value h u w typed null e = converted_value u w (assignable_scalar t y h) leads e
      where
        leads : (q : Pointer) → u ≡ To q → is_pointer t ≡ true → IsValue p s t into (To q)
        leads q is pointer = elim (or_cases (is_integer t && is_integer y.shape) (is_pointer t && (same_type t (value_type y.shape) || y.is_null)) h) [
          | inl i ↦ not_both t (and_parts (is_integer t) (is_integer y.shape) i).0 pointer
          | inr k ↦ elim (or_cases (same_type t (value_type y.shape)) y.is_null (and_parts (is_pointer t) (same_type t (value_type y.shape) || y.is_null) k).1) [
            | inl same ↦ subst (λ (z : ExprType). IsValue p s z into (To q)) (sym (type_is t (value_type y.shape) same)) (value_else p s (value_type y.shape) from into (To q) le (subst (IsValue p s (value_type y.shape) from) is typed))
            | inr none ↦ absurd (null none q is)
          ]
        ]
