-- The forms of expressions that designate objects: a name, what a pointer points to, an element, and a member.
use Rattle.std.proofs.Common.{◌≡◌, ℕ, zero, suc, ℤ, List, [], ◌∷◌, length, map, Option, Some, None, Bool, true, false, refl, sym, ap, ◌∙◌, subst, arith}
use Rattle.std.specs.Prelude.{option_map, option_and_then, slice_get, unwrap_or}
use Rattle.std.specs.Option.{option_map_or}
use Rattle.std.proofs.lemmas.Bool.{false≢true, or_left}
use Rattle.std.proofs.lemmas.List.Elements.{All-nil}
use Rattle.c_arith.specs.declared.int_type.IntType.TheVariants.{Int}
use Rattle.c_language.proofs.Options.{none_there, some_same, map_there, then_there}
use Rattle.c_tree.specs.declared.expr.Expr.TheOpen.{Expr-F}
use Rattle.c_tree.specs.declared.expr.MemberId.{MemberId}
use Rattle.c_tree.specs.declared.program.Member.{Member}
use Rattle.c_tree.specs.declared.program.Program.{Program}
use Rattle.c_language.specs.DeclaredTypes.{integer, pointer_to, void}
use Rattle.c_language.specs.declared.expr_type.Base.{Base}
use Rattle.c_language.specs.declared.expr_type.Layer.{Layer}
use Rattle.c_language.specs.declared.expr_type.Layer.TheVariants.{Pointer as AnAddress, Array}
use Rattle.c_language.specs.declared.expr_type.ExprType.{ExprType}
use Rattle.c_language.specs.ExprTypes.{target_of, is_pointer, is_array, value_type}
use Rattle.c_language.specs.TreeTypes.{shape_of, members_of, type_of_member, typing_of, pointee}
use Rattle.c_meaning.specs.declared.value.Hop.{Hop}
use Rattle.c_meaning.specs.declared.value.Hop.TheVariants as hop
use Rattle.c_meaning.specs.declared.value.Place.{Place}
use Rattle.c_meaning.specs.declared.value.Value.{Value}
use Rattle.c_meaning.specs.declared.value.Value.TheVariants.{Number, Null, To}
use Rattle.c_meaning.specs.Cells.{Structs, Subobject, structs_of, cell_count, behind, member_in}
use Rattle.c_meaning.specs.Memory.{Block, Memory}
use Rattle.c_meaning.specs.Pointers.{type_at, whole_of, pointed, if_typed, designated, moved, moved_by, start}
use Rattle.c_meaning.specs.Pointers as pointing
use Rattle.c_meaning.specs.Values.{Types, Origin, OfVariable, State, whole, variable_place, both_values, owner_of, pointed_member, an_object}
use Rattle.dep_model.specs.declared.location.Part.TheVariants as part
use Rattle.dep_model.specs.Denoted.{Places, TargetsOf, Denoted, part_of, variable, value_points, denoted_step}
use Rattle.dep_model.specs.Designated.{is_root, value_takes}
use Rattle.dep_model.specs.LocationLists.{AreStructsInOrder}
use Rattle.run_facts.specs.CellLocations.{location_in}
use Rattle.run_facts.specs.DenotedCells.{LiesBy, IsObject, IsReadOf, AreTaken, IsDenoted}
use Rattle.run_facts.specs.PointerLocations.{is_object}
use Rattle.run_facts.specs.ReadCells.{Reads, Watched, nothing_read, watched_step, an_object as an_object_read}
use Rattle.run_facts.specs.TypedStates.{IsValue, IsTypedState}
use Rattle.run_facts.proofs.Subobjects.{part_type, part_at, member_types}
use Rattle.run_facts.proofs.ListedObjects.{location_itself, location_more, object_more, part_among, object_listed}
use Rattle.run_facts.proofs.PointedObjects.{designated_reached}
use Rattle.run_facts.proofs.ObjectValues.{object_address, ObjectParts, object_denoted}

-- ---- pointers and members

pointer_in : (ls : List Layer) (b : Base) → is_pointer (record { layers = ls; base = b }) ≡ true → ◌≡◌ {A = ExprType} (record { layers = ls; base = b }) (pointer_to (unwrap_or (target_of (record { layers = ls; base = b })) void))
pointer_in [] b h = absurd (false≢true h)
pointer_in (AnAddress ∷ ls) b h = refl
pointer_in (Array n ∷ ls) b h = absurd (false≢true h)

-- a pointer's type is by what it points to
pub pointer_is : (t : ExprType) → is_pointer t ≡ true → t ≡ pointer_to (unwrap_or (target_of t) void)
pointer_is t h = pointer_in t.layers t.base h

pub pointee_is : (t u : ExprType) → target_of (value_type t) ≡ Some u → pointee t ≡ u
pointee_is t u h = ap (λ (o : Option ExprType). unwrap_or o void) h

abbrev types_of : List Member → List ExprType
types_of ms = map (λ (m : Member). shape_of m.shape) ms

behind_type : (n : ℕ) (o : Option Subobject) → option_map (λ (u : Subobject). u.type) (option_map (behind n) o) ≡ option_map (λ (u : Subobject). u.type) o
behind_type n None = refl
behind_type n (Some o) = refl

member_there : (structs : Structs) (ms : List Member) (i : ℕ) (k : Member) → slice_get ms i ≡ Some k → option_map (λ (u : Subobject). u.type) (member_in structs i (types_of ms)) ≡ Some (shape_of k.shape)
member_there structs [] i k e = none_there e
member_there structs (m ∷ ms) zero k e = ap (λ (x : Member). Some (shape_of x.shape)) (some_same e)
member_there structs (m ∷ ms) (suc i) k e = behind_type (cell_count structs (shape_of m.shape)) (member_in structs i (types_of ms)) ∙ member_there structs ms i k e

pub block_there : {A B : Type 0} (xs : List A) (ys : List B) (n : ℕ) (x : A) → length xs ≡ length ys → slice_get xs n ≡ Some x → (y : B) × (slice_get ys n ≡ Some y)
block_there [] ys n x same e = none_there e
block_there (a ∷ xs) [] n x same e = absurd (omega (arith, same))
block_there (a ∷ xs) (y ∷ ys) zero x same e = (y, refl)
block_there (a ∷ xs) (y ∷ ys) (suc n) x same e = let less : length xs ≡ length ys = omega (arith, same) in block_there xs ys n x less e

pub both_there : (g : Value → Value → Option Value) (a b : Option Value) (v : Value) → both_values g a b ≡ Some v → (x : Value) × ((y : Value) × ((a ≡ Some x) × ((b ≡ Some y) × (g x y ≡ Some v))))
both_there g None b v e = none_there e
both_there g (Some x) None v e = none_there e
both_there g (Some x) (Some y) v e = (x, (y, (refl, (refl, e))))

pub by_number : (m : Memory) (x y v : Value) → moved_by m x y ≡ Some v → (z : ℤ) × ((y ≡ Number z) × (moved m z x ≡ Some v))
by_number m x (Number z) v e = (z, (refl, e))
by_number m x Null v e = none_there e
by_number m x (To q) v e = none_there e

-- what an object that pointers lead to is found by
abbrev pub item_place : ExprType → (State → Option Value) → State → Option Place
item_place t pointer u = option_and_then (designated u.memory t) (pointer u)

module _ (p : Program) (order : AreStructsInOrder p) (points : TargetsOf) (s : State) (typed : IsTypedState p points s) where
  abbrev Taken : (ℕ → Bool) → Type 0
  Taken = AreTaken p s

  abbrev Parts : Denoted → (State → Option Place) → (State → Option Value) → Reads → Type 0
  Parts = ObjectParts p order points s typed

  no_roots : Taken (is_root None)
  no_roots x e = absurd (false≢true e)

  -- ---- a name

  abbrev a_name : ℕ → Denoted
  a_name x = denoted_step p points (Expr-F.Variable x)

  named_object : (x b : ℕ) → s.frame x ≡ Some b → IsObject p s (a_name x) (whole b)
  named_object x b e =
      let made = typed.named x b e in
      let k = block_there s.origins s.memory.blocks b (OfVariable x) typed.tracked made in
      let shape = (typed.blocks b (OfVariable x) k.0 made k.1).shape_is in
      record {
        is_place = refl;
        type_is = ap (option_and_then (λ (c : Block). option_map (λ (u : Subobject). u.type) (Some (record { type = c.shape; before = 0 })))) k.1 ∙ ap Some shape;
        origin = OfVariable x;
        origin_is = made;
        object_is = refl;
        among = location_itself (variable x);
        lies = e;
      }

  pub name_object : (x : ℕ) (q : Place) → variable_place x s ≡ Some q → IsObject p s (a_name x) q
  name_object x q e = let k = map_there whole (s.frame x) q e in subst (IsObject p s (a_name x)) k.same (named_object x k.value k.there)

  -- the address of an object that is no element, and lies where it is found
  pub part_address : (d : Denoted) (o : Option Place) → ((q : Place) → o ≡ Some q → IsObject p s d q) → Taken (is_root d.form.root) → is_array d.form.type ≡ false → (v : Value) → option_map start o ≡ Some v → IsValue p s (pointer_to d.form.type) d.places v
  part_address d o object roots array v e =
      let k = map_there start o v e in
      subst (IsValue p s (pointer_to d.form.type) d.places) k.same (object_address p order points s typed d k.value (object k.value k.there) roots array)

  name_parts : (x : ℕ) → Parts (a_name x) (variable_place x) (λ u. option_map start (variable_place x u)) nothing_read
  name_parts x = record {
    object = λ taken q e. name_object x q e;
    address_is = λ taken array v e. part_address (a_name x) (variable_place x s) (name_object x) (λ y r. taken y r) array v e;
    addressed = λ q e. (start q, ap (option_map start) e);
    found_are = λ taken v e. All-nil (IsReadOf p s (a_name x).reads);
  }

  pub name_denoted : (result : Option ExprType) (x : ℕ) → IsDenoted p s points false (a_name x) (watched_step (record { typing = typing_of p; result = result }) (Expr-F.Variable x))
  name_denoted result x = object_denoted p order points s typed (a_name x) (variable_place x) (λ u. option_map start (variable_place x u)) nothing_read (name_parts x)

  -- ---- what a pointer points to

  module _ (da : Denoted) (wa : Watched) (na : Bool) (h : IsDenoted p s points na da wa) where
    abbrev ta : ExprType
    ta = da.form.type

    -- an object that a value of the pointer's designates
    pub reached_object : (d : Denoted) → d.form.is_place ≡ true → d.form.type ≡ pointee ta → d.form.root ≡ None → (d.places ≡ value_points p points da) → (k : ExprType) (v : Value) (q : Place) → IsValue p s (value_type ta) (value_points p points da) v → designated s.memory k v ≡ Some q → IsObject p s d q
    reached_object d is type root places k v q value e =
        let r = designated_reached p order points s typed (value_type ta) k (value_points p points da) v q value e in
        record {
          is_place = is;
          type_is = r.type_is ∙ ap Some (sym (pointee_is ta r.type r.target_is) ∙ sym type);
          origin = r.origin;
          origin_is = r.origin_is;
          object_is = r.object_is;
          among = ap (λ (x : Places). x (location_in r.origin q.path)) places ∙ r.among;
          lies = subst (λ (x : Option ℕ). LiesBy p s x q.block r.origin) (sym root) r.seen;
        }

    -- a value of the pointer's is one of a pointer to the object's type
    pub as_address : is_pointer (value_type ta) ≡ true → (places : Places) (v : Value) → IsValue p s (value_type ta) places v → IsValue p s (pointer_to (pointee ta)) places v
    as_address pointer places v value = subst (λ (t : ExprType). IsValue p s t places v) (pointer_is (value_type ta) pointer) value

    abbrev a_target : Denoted
    a_target = denoted_step p points (Expr-F.Deref da)

    target_parts : is_pointer (value_type ta) ≡ true → Parts a_target (item_place (pointee ta) wa.meant.value) wa.meant.value wa.read
    target_parts pointer = record {
      object = λ taken q e. let k = then_there (designated s.memory (pointee ta)) (wa.meant.value s) q e in reached_object a_target refl refl refl refl (pointee ta) k.value q (h.value taken k.value k.there) k.same;
      address_is = λ taken array v e. as_address pointer (value_points p points da) v (h.value (λ x t. taken x (or_left (value_takes da.form x) false t)) v e);
      addressed = λ q e. let k = then_there (designated s.memory (pointee ta)) (wa.meant.value s) q e in (k.value, k.there);
      found_are = λ taken v e. h.read taken v e;
    }

    pub target_denoted : (types : Types) → is_pointer (value_type ta) ≡ true → IsDenoted p s points false a_target (watched_step types (Expr-F.Deref wa))
    target_denoted types pointer =
        subst (λ (t : ExprType). IsDenoted p s points false a_target (an_object_read (an_object t (item_place t wa.meant.value) wa.meant.value) wa.read)) (sym (ap pointee h.type_is))
        (object_denoted p order points s typed a_target (item_place (pointee ta) wa.meant.value) wa.meant.value wa.read (target_parts pointer))

    -- ---- members

    module _ (m : MemberId) (k : Member) (there : slice_get (members_of p m.owner) m.index ≡ Some k) where
      abbrev member_hop : Hop
      member_hop = hop.Member m.index

      member_typed : part_type s.memory.structs member_hop (owner_of m) ≡ Some (type_of_member p m)
      member_typed =
          subst (λ (z : Structs). part_type z member_hop (owner_of m) ≡ Some (type_of_member p m)) (sym typed.structs_are)
          (ap (λ (ts : List ExprType). option_map (λ (u : Subobject). u.type) (member_in (structs_of p) m.index ts)) (member_types p order m.owner)
          ∙ (member_there (structs_of p) (members_of p m.owner) m.index k there ∙ ap Some (sym (ap (λ (o : Option Member). option_map_or (λ (x : Member). shape_of x.shape) o (integer Int)) there))))

      abbrev pub member_place : Place → Place
      member_place r = pointing.inside member_hop r

      -- a member of a struct whose place has a location among these
      pub member_object : (d : Denoted) (places : Places) (r : Place) (o : Origin) → d.form.is_place ≡ true → d.form.type ≡ type_of_member p m → d.places ≡ part_of p (part.Member m.index) places → type_at s.memory r ≡ Some (owner_of m) → slice_get s.origins r.block ≡ Some o → is_object o r.path ≡ true → places (location_in o r.path) ≡ true → LiesBy p s d.form.root r.block o → IsObject p s d (member_place r)
      member_object d places r o is type same at_ made object among lies =
          let t = type_of_member p m in
          let inner = part_at s.memory r member_hop (owner_of m) t at_ member_typed in
          let more = object_more o r.path member_hop in
          record {
            is_place = is;
            type_is = inner ∙ ap Some (sym type);
            origin = o;
            origin_is = made;
            object_is = more;
            among = ap (λ (x : Places). x (location_in o (member_place r).path)) same ∙ part_among p (part.Member m.index) places (location_in o r.path) (location_in o (member_place r).path) (owner_of m) t (object_listed p order points s typed r o (owner_of m) made object at_) (object_listed p order points s typed (member_place r) o t made more inner) (location_more o r.path member_hop object) among;
            lies = lies;
          }

      abbrev a_member : Denoted
      a_member = denoted_step p points (Expr-F.Arrow da m)

      record IsPointedMember (q : Place) : Type 0 where
        value : Value
        value_is : wa.meant.value s ≡ Some value
        struct : Place
        struct_is : designated s.memory (owner_of m) value ≡ Some struct
        place_is : member_place struct ≡ q

      pointed_there : (q : Place) → pointed_member m s (wa.meant.value s) ≡ Some q → IsPointedMember q
      pointed_there q e =
          let o = map_there member_place (option_and_then (designated s.memory (owner_of m)) (wa.meant.value s)) q e in
          let v = then_there (designated s.memory (owner_of m)) (wa.meant.value s) o.value o.there in
          record { value = v.value; value_is = v.there; struct = o.value; struct_is = v.same; place_is = o.same }

      arrow_object : target_of (value_type ta) ≡ Some (owner_of m) → Taken (value_takes da.form) → (q : Place) → pointed_member m s (wa.meant.value s) ≡ Some q → IsObject p s a_member q
      arrow_object struct taken q e =
          let k = pointed_there q e in
          let r = designated_reached p order points s typed (value_type ta) (owner_of m) (value_points p points da) k.value k.struct (h.value taken k.value k.value_is) k.struct_is in
          let same : r.type ≡ owner_of m = some_same (sym r.target_is ∙ struct) in
          subst (IsObject p s a_member) k.place_is
          (member_object a_member (value_points p points da) k.struct r.origin refl refl refl (r.type_is ∙ ap Some same) r.origin_is r.object_is r.among r.seen)

      arrow_parts : target_of (value_type ta) ≡ Some (owner_of m) → Parts a_member (λ u. pointed_member m u (wa.meant.value u)) (λ u. option_map start (pointed_member m u (wa.meant.value u))) wa.read
      arrow_parts struct = record {
        object = λ taken q e. arrow_object struct taken q e;
        address_is = λ taken array v e. part_address a_member (pointed_member m s (wa.meant.value s)) (arrow_object struct (λ x t. taken x (or_left (value_takes da.form x) false t))) no_roots array v e;
        addressed = λ q e. (start q, ap (option_map start) e);
        found_are = λ taken v e. let q = map_there start (pointed_member m s (wa.meant.value s)) v e in let k = pointed_there q.value q.there in h.read taken k.value k.value_is;
      }

      -- `e->m`
      pub arrow_denoted : (result : Option ExprType) → target_of (value_type ta) ≡ Some (owner_of m) → IsDenoted p s points false a_member (watched_step (record { typing = typing_of p; result = result }) (Expr-F.Arrow wa m))
      arrow_denoted result struct =
          object_denoted p order points s typed a_member (λ u. pointed_member m u (wa.meant.value u)) (λ u. option_map start (pointed_member m u (wa.meant.value u))) wa.read (arrow_parts struct)
