-- What an object that an expression designates gives: its value, its address, and what is read for it.
use Rattle.std.proofs.Common.{◌≡◌, ℕ, zero, suc, List, [], ◌∷◌, ◌++◌, Option, Some, None, Bool, true, false, ◌&&◌, ◌||◌, ◌⊎◌, inl, inr, refl, sym, ap, ◌∙◌, subst, arith, eq-eqb, append-nil}
use Rattle.std.specs.Prelude.{option_map, option_and_then, slice_get, is_some, if◌then◌else◌, All}
use Rattle.std.proofs.lemmas.Bool.{false≢true, and_parts, and_from, or_left, or_right}
use Rattle.std.proofs.lemmas.List.Elements.{All-append, All-nil}
use Rattle.c_language.proofs.Options.{none_there, some_same, then_there}
use Rattle.c_language.proofs.Tests.{by_test}
use Rattle.c_tree.specs.declared.program.Program.{Program}
use Rattle.c_language.specs.DeclaredTypes.{pointer_to}
use Rattle.c_language.specs.declared.expr_type.Base.{Base}
use Rattle.c_language.specs.declared.expr_type.Layer.{Layer}
use Rattle.c_language.specs.declared.expr_type.Layer.TheVariants.{Pointer as AnAddress, Array}
use Rattle.c_language.specs.declared.expr_type.ExprType.{ExprType}
use Rattle.c_language.specs.ExprTypes.{target_of, is_pointer, is_scalar, is_array_in, is_array, value_layers, value_type}
use Rattle.c_meaning.specs.declared.value.Hop.{Hop}
use Rattle.c_meaning.specs.declared.value.Hop.TheVariants as hop
use Rattle.c_meaning.specs.declared.value.Place.{Place}
use Rattle.c_meaning.specs.declared.value.Value.{Value}
use Rattle.c_meaning.specs.declared.value.Value.TheVariants.{Number, Null, To}
use Rattle.c_meaning.specs.Cells.{Subobject, subobject, scalar_number, cell_number}
use Rattle.c_meaning.specs.Memory.{Block, Memory, held, cell_in, cell, read}
use Rattle.c_meaning.specs.Pointers.{type_at, item_in, start}
use Rattle.c_meaning.specs.Values.{Origin, OfVariable, State, object_value, an_object}
use Rattle.dep_model.specs.declared.location.Location.{Location}
use Rattle.dep_model.specs.declared.location.Part.TheVariants as part
use Rattle.dep_model.specs.Denoted.{Places, TargetsOf, Denoted, inside, part_of, targets, object_points, value_points, value_reads}
use Rattle.dep_model.specs.Designated.{is_root, is_array_place, value_takes}
use Rattle.dep_model.specs.DoingEffects.{is_taken, is_global}
use Rattle.dep_model.specs.LocationLists.{AreStructsInOrder}
use Rattle.run_facts.specs.CellLocations.{location_in}
use Rattle.run_facts.specs.DenotedCells.{LiesBy, IsObject, IsReadOf, AreTaken, IsDenoted}
use Rattle.run_facts.specs.PointerLocations.{item_layers, item_type, item_of}
use Rattle.run_facts.specs.ReadCells.{Reads, Watched, object_read, an_object as an_object_read}
use Rattle.run_facts.specs.TypedStates.{is_seen, IsValue, IsTypedState}
use Rattle.run_facts.proofs.ListedObjects.{location_more, part_among, target_among, object_listed, elements_listed}
use Rattle.run_facts.proofs.PointedObjects.{item_listed, leads_else}

abbrev of_layers : List Layer → Base → ExprType
of_layers ls b = record { layers = ls; base = b }

true_false : {A : Type 0} → ◌≡◌ {A = Bool} true false → A
true_false e = absurd (false≢true (sym e))

-- ---- types of values

pub array_target : (ls : List Layer) (b : Base) → is_array_in ls ≡ true → target_of (of_layers (value_layers ls) b) ≡ Some (of_layers (item_layers ls) b)
array_target [] b h = absurd (false≢true h)
array_target (AnAddress ∷ ls) b h = absurd (false≢true h)
array_target (Array n ∷ ls) b h = refl

pub array_item : (ls : List Layer) (j : ℕ) (w : Place) → is_array_in ls ≡ true → (item_in ls j w).path ≡ w.path ++ hop.Element j ∷ []
array_item [] j w h = absurd (false≢true h)
array_item (AnAddress ∷ ls) j w h = absurd (false≢true h)
array_item (Array n ∷ ls) j w h = refl

value_layers_same : (ls : List Layer) → is_array_in ls ≡ false → value_layers ls ≡ ls
value_layers_same [] h = refl
value_layers_same (AnAddress ∷ ls) h = refl
value_layers_same (Array n ∷ ls) h = true_false h

-- a type that is no array is that of its values, and of the single object
pub value_type_same : (t : ExprType) → is_array t ≡ false → value_type t ≡ t
value_type_same t h = ap (λ (ls : List Layer). of_layers ls t.base) (value_layers_same t.layers h)

item_layers_same : (ls : List Layer) → is_array_in ls ≡ false → item_layers ls ≡ ls
item_layers_same [] h = refl
item_layers_same (AnAddress ∷ ls) h = refl
item_layers_same (Array n ∷ ls) h = true_false h

single_type : (t : ExprType) → is_array t ≡ false → item_type t ≡ t
single_type t h = ap (λ (ls : List Layer). of_layers ls t.base) (item_layers_same t.layers h)

single_item : (ls : List Layer) (j : ℕ) (w : Place) → is_array_in ls ≡ false → (item_in ls j w).path ≡ w.path
single_item [] j w h = refl
single_item (AnAddress ∷ ls) j w h = refl
single_item (Array n ∷ ls) j w h = true_false h

-- ---- cells

-- what is read is an integer or a pointer
pub read_scalar : (m : Memory) (q : Place) (v : Value) (t : ExprType) → read m q ≡ Some v → type_at m q ≡ Some t → is_scalar t ≡ true
read_scalar m q v t r e =
    let c = then_there held (cell m q) v r in
    let b = then_there (cell_in m.structs q.path) (slice_get m.blocks q.block) c.value c.there in
    let n = then_there (slice_get b.value.cells) (cell_number m.structs q.path b.value.shape) c.value b.same in
    let o = then_there scalar_number (subobject m.structs q.path b.value.shape) n.value n.there in
    let at_ : type_at m q ≡ Some o.value.type =
    ap (option_and_then (λ (k : Block). option_map (λ (u : Subobject). u.type) (subobject m.structs q.path k.shape))) b.there ∙ ap (option_map (λ (u : Subobject). u.type)) o.there in
    subst (λ (u : ExprType). is_scalar u ≡ true) (some_same (sym at_ ∙ e)) (by_test (is_scalar o.value.type) o.same (λ is same. is) (λ is none. none_there none))

one_read : (P : Place → Type 0) (q : Place) → P q → All P (q ∷ [])
one_read P q h zero d low = h
one_read P q h (suc k) d low = absurd (omega (arith, low))

-- ---- tests of what is denoted

module _ (p : Program) (points : TargetsOf) (d : Denoted) where
  pub points_of_array : (l : Location) → is_array_place d.form ≡ true → value_points p points d l ≡ part_of p part.Element d.places l
  points_of_array l h = ap (λ (b : Bool). if b then part_of p part.Element d.places l else (if d.form.is_place then object_points p points d l else d.points l)) h

  pub points_of_object : (l : Location) → is_array_place d.form ≡ false → d.form.is_place ≡ true → value_points p points d l ≡ object_points p points d l
  points_of_object l h k =
      ap (λ (b : Bool). if b then part_of p part.Element d.places l else (if d.form.is_place then object_points p points d l else d.points l)) h
      ∙ ap (λ (b : Bool). if b then object_points p points d l else d.points l) k

  pub points_of_value : (l : Location) → d.form.is_place ≡ false → value_points p points d l ≡ d.points l
  points_of_value l h =
      ap (λ (b : Bool). if b && is_array d.form.type then part_of p part.Element d.places l else (if b then object_points p points d l else d.points l)) h

module _ (p : Program) (order : AreStructsInOrder p) (points : TargetsOf) (s : State) (typed : IsTypedState p points s) where
  abbrev Taken : (ℕ → Bool) → Type 0
  Taken = AreTaken p s

  -- a block in which an expression finds an object is seen outside where the address of its variable is taken
  pub seen_by : (root : Option ℕ) (b : ℕ) (o : Origin) → LiesBy p s root b o → slice_get s.origins b ≡ Some o → Taken (is_root root) → is_seen p o ≡ true
  seen_by None b o lies made taken = lies
  seen_by (Some x) b o lies made taken =
      let same : OfVariable x ≡ o = some_same (sym (typed.named x b lies) ∙ made) in
      subst (λ (y : Origin). is_seen p y ≡ true) same (or_right (is_global p x) (is_taken p x) (taken x (eq-eqb x x refl)))

  -- the pointer to the first object in what an expression designates
  start_leads : (d : Denoted) (q : Place) (t : ExprType) (targets : Places) → (h : IsObject p s d q) → is_seen p h.origin ≡ true → target_of t ≡ Some (item_type d.form.type) → targets (location_in h.origin (item_in d.form.type.layers 0 q).path) ≡ true → IsValue p s t targets (start q)
  start_leads d q t targets h seen target among =
      record { whole = d.form.type; whole_is = h.type_is; target_is = target; origin = h.origin; origin_is = h.origin_is; among = among; seen = seen }

  module _ (d : Denoted) (q : Place) (h : IsObject p s d q) where
    abbrev t : ExprType
    t = d.form.type

    -- an array
    array_value : Taken (value_takes d.form) → is_array t ≡ true → IsValue p s (value_type t) (value_points p points d) (start q)
    array_value taken array =
        let is = and_from d.form.is_place (is_array t) h.is_place array in
        let roots : Taken (is_root d.form.root) = λ x e. taken x (or_right (d.form.takes x) (is_array_place d.form && is_root d.form.root x) (and_from (is_array_place d.form) (is_root d.form.root x) is e)) in
        let l = location_in h.origin q.path in
        let there : location_in h.origin (item_in t.layers 0 q).path ≡ inside l part.Element =
        ap (location_in h.origin) (array_item t.layers 0 q array) ∙ location_more h.origin q.path (hop.Element 0) h.object_is in
        let among = part_among p part.Element d.places l (inside l part.Element) t (item_type t) (object_listed p order points s typed q h.origin t h.origin_is h.object_is h.type_is) (elements_listed p order points s typed q h.origin t h.origin_is h.object_is h.type_is array) refl h.among in
        start_leads d q (value_type t) (value_points p points d) h (seen_by d.form.root q.block h.origin h.lies h.origin_is roots) (array_target t.layers t.base array)
        (points_of_array p points d _ is ∙ subst (λ (m : Location). part_of p part.Element d.places m ≡ true) (sym there) among)

    -- a cell
    held_value : (v : Value) → is_array_place d.form ≡ false → IsValue p s t (points (location_in h.origin q.path)) v → IsValue p s t (value_points p points d) v
    held_value (Number z) array k = k
    held_value Null array k = k
    held_value (To r) array k =
        let l = location_in h.origin q.path in
        let m = location_in k.origin (item_of r k.whole).path in
        let item = item_listed p order points s typed r k.whole k.origin k.origin_is k.whole_is in
        let there = target_among p points d.places l m t (item_type k.whole) (object_listed p order points s typed q h.origin t h.origin_is h.object_is h.type_is) item.listed h.among k.among in
        leads_else p s t (points l) (value_points p points d) r k
        (points_of_object p points d m array h.is_place ∙ and_from (is_pointer t) (targets p points d.places m) (ap is_some k.target_is) there)

    no_array_place : is_array t ≡ false → is_array_place d.form ≡ false
    no_array_place e = ap (λ (b : Bool). b && is_array t) h.is_place ∙ e

    cell_value : (v : Value) → is_array t ≡ false → read s.memory q ≡ Some v → IsValue p s (value_type t) (value_points p points d) v
    cell_value v array r =
        subst (λ (u : ExprType). IsValue p s u (value_points p points d) v) (sym (value_type_same t array))
        (held_value v (no_array_place array) (typed.cells q v t h.origin r h.type_is h.origin_is))

    pub object_gives : (v : Value) → Taken (value_takes d.form) → object_value t s.memory q ≡ Some v → IsValue p s (value_type t) (value_points p points d) v
    object_gives v taken e =
        by_test (is_array t) e (λ array same. subst (IsValue p s (value_type t) (value_points p points d)) (some_same same) (array_value taken array)) (λ array r. cell_value v array r)

    -- the address of what is no array
    pub object_address : Taken (is_root d.form.root) → is_array t ≡ false → IsValue p s (pointer_to t) d.places (start q)
    object_address roots array =
        start_leads d q (pointer_to t) d.places h (seen_by d.form.root q.block h.origin h.lies h.origin_is roots) (ap Some (sym (single_type t array)))
        (ap (λ (hops : List Hop). d.places (location_in h.origin hops)) (single_item t.layers 0 q array) ∙ h.among)

    counted : (root : Option ℕ) → LiesBy p s root q.block h.origin → (is_seen p h.origin ≡ true) ⊎ ((x : ℕ) × (s.frame x ≡ Some q.block))
    counted None lies = inl lies
    counted (Some x) lies = inr (x, lies)

    cell_read : (v : Value) → read s.memory q ≡ Some v → IsReadOf p s (value_reads p points d) q
    cell_read v r =
        let l = location_in h.origin q.path in
        record {
          origin = h.origin;
          origin_is = h.origin_is;
          among = or_right (d.reads l) ((d.form.is_place && is_scalar t) && d.places l) (and_from (d.form.is_place && is_scalar t) (d.places l) (and_from d.form.is_place (is_scalar t) h.is_place (read_scalar s.memory q v t r h.type_is)) h.among);
          counts = counted d.form.root h.lies;
        }

    pub object_reads : (v : Value) → object_value t s.memory q ≡ Some v → All (IsReadOf p s (value_reads p points d)) (object_read t (Some q))
    object_reads v e = by_array (is_array t) e
      where
        by_array : (array : Bool) → (if array then Some (start q) else read s.memory q) ≡ Some v → All (IsReadOf p s (value_reads p points d)) (if array then [] else q ∷ [])
        by_array true e = All-nil (IsReadOf p s (value_reads p points d))
        by_array false e = one_read (IsReadOf p s (value_reads p points d)) q (cell_read v e)

  -- ---- all that is said of what designates an object

  started : (array : Bool) (o : Option Place) → array ≡ true → option_and_then (λ (q : Place). if array then Some (start q) else read s.memory q) o ≡ option_map start o
  started true None h = refl
  started true (Some q) h = refl
  started false o h = absurd (false≢true h)

  celled : (array : Bool) (o : Option Place) → array ≡ false → option_and_then (λ (q : Place). if array then Some (start q) else read s.memory q) o ≡ option_and_then (read s.memory) o
  celled true o h = true_false h
  celled false None h = refl
  celled false (Some q) h = refl

  unread : (t : ExprType) (o : Option Place) → is_array t ≡ true → object_read t o ≡ []
  unread t None h = refl
  unread t (Some q) h = ap (λ (b : Bool). if b then [] else q ∷ []) h

  array_of_place : (d : Denoted) → is_array_place d.form ≡ true → is_array d.form.type ≡ true
  array_of_place d e = (and_parts d.form.is_place (is_array d.form.type) e).1

  module _ (d : Denoted) (place : State → Option Place) (address : State → Option Value) (found : Reads) where
    abbrev watched_object : Watched
    watched_object = an_object_read (an_object d.form.type place address) found

    pub record ObjectParts : Type 0 where
      pub object : Taken d.form.takes → (q : Place) → place s ≡ Some q → IsObject p s d q
      pub address_is :
          Taken (λ (x : ℕ). d.form.takes x || is_root d.form.root x) → is_array d.form.type ≡ false → (v : Value) → address s ≡ Some v
          → IsValue p s (pointer_to d.form.type) d.places v
      pub addressed : (q : Place) → place s ≡ Some q → (v : Value) × (address s ≡ Some v)
      pub found_are : Taken d.form.takes → (v : Value) → address s ≡ Some v → All (IsReadOf p s d.reads) (found s)

    module _ (h : ObjectParts) where
      less : Taken (value_takes d.form) → Taken d.form.takes
      less taken x e = taken x (or_left (d.form.takes x) (is_array_place d.form && is_root d.form.root x) e)

      wider_read : (q : Place) → IsReadOf p s d.reads q → IsReadOf p s (value_reads p points d) q
      wider_read q k = record { origin = k.origin; origin_is = k.origin_is; among = or_left (d.reads _) _ k.among; counts = k.counts }

      reads_are : Taken (value_takes d.form) → (v : Value) → (o : Option Place) → place s ≡ o → option_and_then (object_value d.form.type s.memory) o ≡ Some v → All (IsReadOf p s (value_reads p points d)) (found s ++ object_read d.form.type o)
      reads_are taken v None is e = none_there e
      reads_are taken v (Some q) is e =
          let a = h.addressed q is in
          All-append (IsReadOf p s (value_reads p points d)) (found s) (object_read d.form.type (Some q))
          (λ k y low. wider_read _ (h.found_are (less taken) a.0 a.1 k y low))
          (object_reads d q (h.object (less taken) q is) v e)

      pub object_denoted : IsDenoted p s points false d watched_object
      object_denoted = record {
        type_is = refl;
        null = λ e. absurd (false≢true e);
        object = h.object;
        starts = λ e. started (is_array d.form.type) (place s) (array_of_place d e);
        array_read = λ e. ap (λ (qs : List Place). found s ++ qs) (unread d.form.type (place s) (array_of_place d e)) ∙ append-nil (found s);
        cell_is = λ is array. celled (is_array d.form.type) (place s) array;
        value = λ taken v e. let k = then_there (object_value d.form.type s.memory) (place s) v e in object_gives d k.value (h.object (less taken) k.value k.there) v taken k.same;
        address = h.address_is;
        addressed = h.addressed;
        found = h.found_are;
        read = λ taken v e. reads_are taken v (place s) refl e;
      }
