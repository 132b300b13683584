-- What a pointer designates: an object of what its type points to, at the pointer's location; and a pointer that is moved leads where it led.
use Rattle.std.proofs.Common.{◌≡◌, ℕ, ℤ, pos, negsuc, ◌*◌, List, [], ◌∷◌, ◌++◌, Some, None, Bool, true, false, refl, sym, ap, ◌∙◌, subst}
use Rattle.std.specs.Prelude.{option_map, option_and_then, slice_get, nat_lt, nat_le, ◌+ℤ◌, if◌then◌else◌}
use Rattle.std.proofs.lemmas.Bool.{false≢true}
use Rattle.c_language.proofs.Options.{none_there, some_same, then_there}
use Rattle.c_language.proofs.Tests.{by_test}
use Rattle.c_tree.specs.declared.program.Program.{Program}
use Rattle.c_language.specs.declared.expr_type.Base.{Base}
use Rattle.c_language.specs.declared.expr_type.Layer.{Layer}
use Rattle.c_language.specs.declared.expr_type.Layer.TheVariants.{Pointer as AnAddress, Array}
use Rattle.c_language.specs.declared.expr_type.ExprType.{ExprType}
use Rattle.c_language.specs.ExprTypes.{target_of}
use Rattle.c_meaning.specs.declared.value.Hop.{Hop}
use Rattle.c_meaning.specs.declared.value.Hop.TheVariants as hop
use Rattle.c_meaning.specs.declared.value.Place.{Place}
use Rattle.c_meaning.specs.declared.value.Pointer.{Pointer}
use Rattle.c_meaning.specs.declared.value.Value.{Value}
use Rattle.c_meaning.specs.declared.value.Value.TheVariants.{Number, Null, To}
use Rattle.c_meaning.specs.Cells.{Subobject, cell_count}
use Rattle.c_meaning.specs.Memory.{Memory}
use Rattle.c_meaning.specs.Pointers.{type_at, has_type, whole_of, length_in, length_at, item_in, item_at, pointed, if_typed, designated, at_index, moved}
use Rattle.c_meaning.specs.Values.{Origin, OfVariable, OfStatement, State}
use Rattle.dep_model.specs.declared.location.Location.{Location}
use Rattle.dep_model.specs.Denoted.{Places, TargetsOf}
use Rattle.dep_model.specs.LocationLists.{AreStructsInOrder}
use Rattle.dep_model.specs.Locations.{function_heaps, locations}
use Rattle.dep_model.specs.MayPoint.{site}
use Rattle.dep_model.proofs.Membership.{IsIn, in_of_contains}
use Rattle.run_facts.specs.CellLocations.{location_in}
use Rattle.run_facts.specs.PointerLocations.{item_layers, item_type, item_of, is_object}
use Rattle.run_facts.specs.TypedStates.{is_seen, IsSiteBlock, Leads, IsValue, IsTypedState}
use Rattle.run_facts.proofs.Subobjects.{part_type, path_type, at_place, part_at, itself_in}
use Rattle.run_facts.proofs.ListedObjects.{same_item, location_more, object_more, typed_location, site_listed, object_listed, elements_listed}

abbrev of_layers : List Layer → Base → ExprType
of_layers ls b = record { layers = ls; base = b }

-- ---- the object at an index

pub item_block : (ls : List Layer) (j : ℕ) (w : Place) → (item_in ls j w).block ≡ w.block
item_block [] j w = refl
item_block (AnAddress ∷ ls) j w = refl
item_block (Array n ∷ ls) j w = refl

element_typed : (m : Memory) (j n : ℕ) (ls : List Layer) (b : Base) → nat_lt j n ≡ true → part_type m.structs (hop.Element j) (of_layers (Array n ∷ ls) b) ≡ Some (of_layers ls b)
element_typed m j n ls b low =
    ap (λ (c : Bool). option_map (λ (o : Subobject). o.type) (if c then Some (record { type = of_layers ls b; before = j * cell_count m.structs (of_layers ls b) }) else None)) low

item_typed : (m : Memory) (j : ℕ) (w : Place) (ls : List Layer) (b : Base) → type_at m w ≡ Some (of_layers ls b) → nat_lt j (length_in ls) ≡ true → type_at m (item_in ls j w) ≡ Some (of_layers (item_layers ls) b)
item_typed m j w [] b e low = e
item_typed m j w (AnAddress ∷ ls) b e low = e
item_typed m j w (Array n ∷ ls) b e low = part_at m w (hop.Element j) (of_layers (Array n ∷ ls) b) (of_layers ls b) e (element_typed m j n ls b low)

-- what a pointer designates is the object at its index, and is of the type that objects there have
pub record IsItem (m : Memory) (q : Pointer) (whole : ExprType) (r : Place) : Type 0 where
  pub place_is : r ≡ item_of q whole
  pub type_is : type_at m r ≡ Some (item_type whole)

pub pointed_item : (m : Memory) (q : Pointer) (whole : ExprType) (r : Place) → type_at m (whole_of q) ≡ Some whole → pointed m q ≡ Some r → IsItem m q whole r
pointed_item m q whole r e h =
    by_test (nat_lt q.index (length_in whole.layers)) (sym (ap (option_and_then (item_at q)) e) ∙ h)
    (λ low same. let at_ : item_of q whole ≡ r = some_same same in record { place_is = sym at_; type_is = subst (λ (x : Place). type_at m x ≡ Some (item_type whole)) at_ (item_typed m q.index (whole_of q) whole.layers whole.base e low) })
    (λ high none. none_there none)

-- the test of a type lets the object through as it is
pub typed_same : (m : Memory) (t : ExprType) (r q : Place) → if_typed m t r ≡ Some q → r ≡ q
typed_same m t r q h = by_test (has_type m t r) h (λ is same. some_same same) (λ is none. none_there none)

-- ---- where the items of pointers lie

object_item : (o : Origin) (ls : List Layer) (j : ℕ) (w : Place) → is_object o w.path ≡ true → is_object o (item_in ls j w).path ≡ true
object_item o [] j w h = h
object_item o (AnAddress ∷ ls) j w h = h
object_item o (Array n ∷ ls) j w h = object_more o w.path (hop.Element j)

true_false : {A : Type 0} → ◌≡◌ {A = Bool} true false → A
true_false e = absurd (false≢true (sym e))

site_whole : (o : Origin) (hops : List Hop) → is_object o hops ≡ false → (i : ℕ) × ((o ≡ OfStatement i) × (hops ≡ []))
site_whole (OfVariable x) hops e = true_false e
site_whole (OfStatement i) [] e = (i, (refl, refl))
site_whole (OfStatement i) (h ∷ hops) e = true_false e

by_bool : (b : Bool) (A : Type 0) → (b ≡ true → A) → (b ≡ false → A) → A
by_bool true A x y = x refl
by_bool false A x y = y refl

module _ (p : Program) (order : AreStructsInOrder p) (points : TargetsOf) (s : State) (typed : IsTypedState p points s) where
  -- a pointer into a block of malloc's is in an array of what the statement's target points to
  site_type : (q : Place) (i : ℕ) (u : ExprType) → slice_get s.origins q.block ≡ Some (OfStatement i) → q.path ≡ [] → type_at s.memory q ≡ Some u → IsSiteBlock p i u
  site_type q i u made none e =
      let a = at_place s.memory q u e in
      let same : a.block.shape ≡ u = some_same (subst (λ (hops : List Hop). path_type s.memory.structs hops a.block.shape ≡ Some u) none a.type_is) in
      subst (IsSiteBlock p i) same (typed.blocks q.block (OfStatement i) a.block made a.block_is)

  -- the object at a pointer's index is no whole block of malloc's, and its location is listed
  pub record IsListedItem (q : Pointer) (whole : ExprType) (o : Origin) : Type 0 where
    pub object_is : is_object o (item_of q whole).path ≡ true
    pub listed : IsIn (locations p) (typed_location p (location_in o (item_of q whole).path) (item_type whole))

  of_object : (q : Pointer) (ls : List Layer) (b : Base) (o : Origin) → slice_get s.origins q.block ≡ Some o → is_object o q.path ≡ true → type_at s.memory (whole_of q) ≡ Some (of_layers ls b) → IsIn (locations p) (typed_location p (location_in o (item_in ls q.index (whole_of q)).path) (of_layers (item_layers ls) b))
  of_object q [] b o made is e = object_listed p order points s typed (whole_of q) o (of_layers [] b) made is e
  of_object q (AnAddress ∷ ls) b o made is e = object_listed p order points s typed (whole_of q) o (of_layers (AnAddress ∷ ls) b) made is e
  of_object q (Array n ∷ ls) b o made is e =
      subst (λ (l : Location). IsIn (locations p) (typed_location p l (of_layers ls b))) (sym (location_more o q.path (hop.Element q.index) is)) (elements_listed p order points s typed (whole_of q) o (of_layers (Array n ∷ ls) b) made is e refl)

  of_site : (q : Pointer) (whole : ExprType) (i : ℕ) → slice_get s.origins q.block ≡ Some (OfStatement i) → q.path ≡ [] → type_at s.memory (whole_of q) ≡ Some whole → IsListedItem q whole (OfStatement i)
  of_site q whole i made none e =
      let k = site_type (whole_of q) i whole made none e in
      subst (λ (u : ExprType). IsListedItem q u (OfStatement i)) (sym k.shape_is)
      (record {
        object_is = object_more (OfStatement i) q.path (hop.Element q.index);
        listed = subst (λ (hops : List Hop). IsIn (locations p) (typed_location p (location_in (OfStatement i) (hops ++ hop.Element q.index ∷ [])) k.heap.elements)) (sym none) (subst (λ (n : ℕ). IsIn (locations p) (typed_location p (site n) k.heap.elements)) k.id_is (site_listed p k.heap (record { path = []; type = k.heap.elements }) (in_of_contains (function_heaps p p.functions) k.heap k.member) (itself_in p order k.heap.elements)));
      })

  pub item_listed : (q : Pointer) (whole : ExprType) (o : Origin) → slice_get s.origins q.block ≡ Some o → type_at s.memory (whole_of q) ≡ Some whole → IsListedItem q whole o
  item_listed q whole o made e =
      by_bool (is_object o q.path) (IsListedItem q whole o) (λ is. record { object_is = object_item o whole.layers q.index (whole_of q) is; listed = of_object q whole.layers whole.base o made is e }) (λ isnt.
      let k = site_whole o q.path isnt in
      subst (IsListedItem q whole) (sym k.1.0) (of_site q whole k.0 (subst (λ (x : Origin). slice_get s.origins q.block ≡ Some x) k.1.0 made) k.1.1 e))

  -- ---- what is designated

  pub record IsReached (t : ExprType) (targets : Places) (r : Place) : Type 0 where
    pub type : ExprType
    pub target_is : target_of t ≡ Some type
    pub type_is : type_at s.memory r ≡ Some type
    pub origin : Origin
    pub origin_is : slice_get s.origins r.block ≡ Some origin
    pub object_is : is_object origin r.path ≡ true
    pub among : targets (location_in origin r.path) ≡ true
    pub seen : is_seen p origin ≡ true

  pointed_reached : (t : ExprType) (targets : Places) (q : Pointer) (r : Place) → Leads p s t targets q → pointed s.memory q ≡ Some r → IsReached t targets r
  pointed_reached t targets q r h e =
      let k = pointed_item s.memory q h.whole r h.whole_is e in
      let l = item_listed q h.whole h.origin h.origin_is h.whole_is in
      let block : r.block ≡ q.block = ap (λ (x : Place). x.block) k.place_is ∙ item_block h.whole.layers q.index (whole_of q) in
      record {
        type = item_type h.whole;
        target_is = h.target_is;
        type_is = k.type_is;
        origin = h.origin;
        origin_is = ap (slice_get s.origins) block ∙ h.origin_is;
        object_is = ap (λ (x : Place). is_object h.origin x.path) k.place_is ∙ l.object_is;
        among = ap (λ (x : Place). targets (location_in h.origin x.path)) k.place_is ∙ h.among;
        seen = h.seen;
      }

  -- an object that a value designates, whatever type it is tested for
  pub designated_reached : (t k : ExprType) (targets : Places) (v : Value) (r : Place) → IsValue p s t targets v → designated s.memory k v ≡ Some r → IsReached t targets r
  designated_reached t k targets (Number z) r h e = none_there e
  designated_reached t k targets Null r h e = none_there e
  designated_reached t k targets (To q) r h e =
      let m = then_there (if_typed s.memory k) (pointed s.memory q) r e in
      pointed_reached t targets q r h (m.there ∙ ap Some (typed_same s.memory k m.value r m.same))

-- ---- moves

-- a pointer that is moved stays in its array
pub record IsMoved (q : Pointer) (v : Value) : Type 0 where
  pub index : ℕ
  pub value_is : v ≡ To (record { block = q.block; path = q.path; index = index })

index_moved : (q : Pointer) (n : ℕ) (z : ℤ) (v : Value) → at_index q n z ≡ Some v → IsMoved q v
index_moved q n (negsuc i) v e = none_there e
index_moved q n (pos i) v e = by_test (nat_le i n) e (λ low same. record { index = i; value_is = sym (some_same same) }) (λ high none. none_there none)

pub pointer_moved : (m : Memory) (q : Pointer) (z : ℤ) (v : Value) → moved m z (To q) ≡ Some v → IsMoved q v
pointer_moved m q z v e =
    let k = then_there (λ (n : ℕ). at_index q n (pos q.index +ℤ z)) (length_at m q) v e in index_moved q k.value (pos q.index +ℤ z) v k.same

module _ (p : Program) (s : State) where
  pub moved_leads : (t : ExprType) (targets : Places) (q : Pointer) (i : ℕ) → Leads p s t targets q → Leads p s t targets (record { block = q.block; path = q.path; index = i })
  moved_leads t targets q i h =
      record {
        whole = h.whole;
        whole_is = h.whole_is;
        target_is = h.target_is;
        origin = h.origin;
        origin_is = h.origin_is;
        among = ap targets (same_item h.origin h.whole.layers i q.index (whole_of q)) ∙ h.among;
        seen = h.seen;
      }

  pub moved_value : (t : ExprType) (targets : Places) (v : Value) (z : ℤ) (w : Value) → IsValue p s t targets v → moved s.memory z v ≡ Some w → IsValue p s t targets w
  moved_value t targets (Number x) z w h e = none_there e
  moved_value t targets Null z w h e = none_there e
  moved_value t targets (To q) z w h e =
      let k = pointer_moved s.memory q z w e in subst (IsValue p s t targets) (sym k.value_is) (moved_leads t targets q k.index h)

  -- a pointer leads to other locations, where its own is one of these
  pub leads_else : (t : ExprType) (a b : Places) (q : Pointer) → (h : Leads p s t a q) → b (location_in h.origin (item_of q h.whole).path) ≡ true → Leads p s t b q
  leads_else t a b q h among =
      record { whole = h.whole; whole_is = h.whole_is; target_is = h.target_is; origin = h.origin; origin_is = h.origin_is; among = among; seen = h.seen }

  pub value_else : (t : ExprType) (a b : Places) (v : Value) → ((l : Location) → a l ≡ true → b l ≡ true) → IsValue p s t a v → IsValue p s t b v
  value_else t a b (Number z) le h = h
  value_else t a b Null le h = h
  value_else t a b (To q) le h = leads_else t a b q h (le _ h.among)
