-- The objects of a state's blocks are locations of the program, and so is what pointers lead to.
use Rattle.std.proofs.Common.{◌≡◌, ℕ, zero, suc, ◌+◌, ◌*◌, ◌<◌, List, [], ◌∷◌, ◌++◌, length, map, Option, Some, None, Bool, true, false, ◌&&◌, inl, inr, refl, sym, ap, ◌∙◌, subst, arith, eq-eqb, append-nil}
use Rattle.std.specs.Prelude.{option_map, slice_get, nat_lt, if◌then◌else◌}
use Rattle.std.specs.List.{list_any}
use Rattle.std.specs.Option.{option_map_or}
use Rattle.std.proofs.lemmas.Bool.{false≢true, and_from, or_left, or_right}
use Rattle.std.proofs.lemmas.List.{map-append}
use Rattle.c_language.proofs.Lists.{no_list, tail_is}
use Rattle.c_language.proofs.Options.{none_there, some_same, then_there}
use Rattle.c_tree.specs.declared.program.Program.{Program}
use Rattle.c_tree.specs.declared.program.Var.{Var}
use Rattle.c_arith.specs.declared.int_type.IntType.TheVariants.{Int}
use Rattle.c_language.specs.DeclaredTypes.{integer}
use Rattle.c_language.specs.Lists.{same_all}
use Rattle.c_language.specs.declared.expr_type.Layer.{Layer}
use Rattle.c_language.specs.declared.expr_type.Layer.TheVariants.{Pointer, Array}
use Rattle.c_language.specs.declared.expr_type.ExprType.{ExprType}
use Rattle.c_language.specs.ExprTypes.{is_array}
use Rattle.c_language.specs.TreeTypes.{shape_of, type_of_variable}
use Rattle.c_meaning.specs.declared.value.Hop.{Hop}
use Rattle.c_meaning.specs.declared.value.Hop.TheVariants as hop
use Rattle.c_meaning.specs.declared.value.Place.{Place}
use Rattle.c_meaning.specs.Cells.{Structs, Subobject, structs_of, cell_count}
use Rattle.c_meaning.specs.Pointers.{type_at, item_in}
use Rattle.c_meaning.specs.Values.{Origin, OfVariable, OfStatement, State}
use Rattle.dep_model.specs.declared.location.Location.{Location}
use Rattle.dep_model.specs.declared.location.Part.{Part}
use Rattle.dep_model.specs.declared.location.Part.TheVariants as part
use Rattle.dep_model.specs.declared.location.Root.{Root}
use Rattle.dep_model.specs.declared.location.Root.TheVariants.{Input, Variable, Site, Result}
use Rattle.dep_model.specs.Denoted.{Places, TargetsOf, inside, is_location, part_of, targets}
use Rattle.dep_model.specs.LocationLists.{AreStructsInOrder}
use Rattle.dep_model.specs.Locations.{Located, TypedLocation, Heap, placed, parts, rooted, variable_locations, site_locations, result_locations, function_heaps, locations, same_root, same_part, same_location}
use Rattle.dep_model.proofs.Membership.{IsIn, in_of_contains, in_first, in_second, in_map}
use Rattle.run_facts.specs.CellLocations.{merged, location_in}
use Rattle.run_facts.specs.PointerLocations.{item_type, is_object}
use Rattle.run_facts.specs.TypedStates.{IsBlockOf, IsTypedState}
use Rattle.run_facts.proofs.Subobjects.{path_type, part_type, at_place, path_listed, itself_in, elements_in}

-- ---- one location

root_itself : (r : Root) → same_root r r ≡ true
root_itself Input = refl
root_itself (Variable x) = eq-eqb x x refl
root_itself (Site i) = eq-eqb i i refl
root_itself (Result f) = eq-eqb f f refl

part_itself : (h : Part) → same_part h h ≡ true
part_itself (part.Member i) = eq-eqb i i refl
part_itself part.Element = refl

path_itself : (hs : List Part) → same_all same_part hs hs ≡ true
path_itself [] = refl
path_itself (h ∷ hs) = and_from (same_part h h) (same_all same_part hs hs) (part_itself h) (path_itself hs)

pub location_itself : (l : Location) → same_location l l ≡ true
location_itself l = and_from (same_root l.root l.root) (same_all same_part l.path l.path) (root_itself l.root) (path_itself l.path)

pub any_in : {A : Type 0} (test : A → Bool) (xs : List A) (x : A) → IsIn xs x → test x ≡ true → list_any test xs ≡ true
any_in test [] x h e = absurd h
any_in test (y ∷ ys) x (inl is) e = or_left (test y) (list_any test ys) (subst (λ z. test z ≡ true) (sym is) e)
any_in test (y ∷ ys) x (inr h) e = or_right (test y) (list_any test ys) (any_in test ys x h e)

-- ---- steps and locations

-- two paths with the same steps, all elements of an array taken as one, lead to one location
pub same_merged : (o : Origin) (xs ys : List Hop) → map merged xs ≡ map merged ys → location_in o xs ≡ location_in o ys
same_merged (OfVariable x) xs ys e = ap (λ (hs : List Part). record { root = Variable x; path = hs }) e
same_merged (OfStatement i) [] [] e = refl
same_merged (OfStatement i) [] (y ∷ ys) e = no_list (sym e)
same_merged (OfStatement i) (x ∷ xs) [] e = no_list e
same_merged (OfStatement i) (x ∷ xs) (y ∷ ys) e = ap (λ (hs : List Part). record { root = Site i; path = hs }) (tail_is e)

-- a part of an object has a part of its location
pub location_more : (o : Origin) (path : List Hop) (h : Hop) → is_object o path ≡ true → location_in o (path ++ h ∷ []) ≡ inside (location_in o path) (merged h)
location_more (OfVariable x) path h is = ap (λ (hs : List Part). record { root = Variable x; path = hs }) (map-append merged path (h ∷ []))
location_more (OfStatement i) [] h is = absurd (false≢true is)
location_more (OfStatement i) (g ∷ path) h is = ap (λ (hs : List Part). record { root = Site i; path = hs }) (map-append merged path (h ∷ []))

pub object_more : (o : Origin) (path : List Hop) (h : Hop) → is_object o (path ++ h ∷ []) ≡ true
object_more (OfVariable x) path h = refl
object_more (OfStatement i) [] h = refl
object_more (OfStatement i) (g ∷ path) h = refl

-- the index doesn't matter for the location
pub same_item : (o : Origin) (ls : List Layer) (i j : ℕ) (w : Place) → location_in o (item_in ls i w).path ≡ location_in o (item_in ls j w).path
same_item o [] i j w = refl
same_item o (Pointer ∷ ls) i j w = refl
same_item o (Array n ∷ ls) i j w =
    same_merged o (w.path ++ hop.Element i ∷ []) (w.path ++ hop.Element j ∷ []) (map-append merged w.path (hop.Element i ∷ []) ∙ sym (map-append merged w.path (hop.Element j ∷ [])))

module _ (p : Program) where
  abbrev pub typed_location : Location → ExprType → TypedLocation
  typed_location l t = record { location = l; type = t }

  -- ---- parts of locations, and targets

  pub is_listed : (l : Location) (t : ExprType) → IsIn (locations p) (typed_location l t) → is_location p l ≡ true
  is_listed l t h = any_in (λ (o : TypedLocation). same_location o.location l) (locations p) (typed_location l t) h (location_itself l)

  -- a listed part of a listed location
  pub part_among : (h : Part) (places : Places) (l m : Location) (t u : ExprType) → IsIn (locations p) (typed_location l t) → IsIn (locations p) (typed_location m u) → m ≡ inside l h → places l ≡ true → part_of p h places m ≡ true
  part_among h places l m t u first second is e =
      and_from (is_location p m) (list_any (λ (o : TypedLocation). places o.location && same_location (inside o.location h) m) (locations p)) (is_listed m u second)
      (any_in (λ (o : TypedLocation). places o.location && same_location (inside o.location h) m) (locations p) (typed_location l t) first (and_from (places l) (same_location (inside l h) m) e (subst (λ (n : Location). same_location (inside l h) n ≡ true) (sym is) (location_itself (inside l h)))))

  pub target_among : (points : TargetsOf) (places : Places) (l m : Location) (t u : ExprType) → IsIn (locations p) (typed_location l t) → IsIn (locations p) (typed_location m u) → places l ≡ true → points l m ≡ true → targets p points places m ≡ true
  target_among points places l m t u first second e k =
      and_from (is_location p m) (list_any (λ (o : TypedLocation). places o.location && points o.location m) (locations p)) (is_listed m u second)
      (any_in (λ (o : TypedLocation). places o.location && points o.location m) (locations p) (typed_location l t) first (and_from (places l) (points l m) e k))

  -- ---- what is listed

  in_variables : (vs : List Var) (x n : ℕ) (v : Var) (k : TypedLocation) → slice_get vs x ≡ Some v → IsIn (rooted p (Variable (n + x)) (shape_of v.shape)) k → IsIn (variable_locations p n vs) k
  in_variables [] x n v k e h = none_there e
  in_variables (u ∷ vs) zero n v k e h =
      let same : n + zero ≡ n = omega arith in
      in_first (rooted p (Variable n) (shape_of u.shape)) (variable_locations p (suc n) vs) k
      (subst (λ j. IsIn (rooted p (Variable j) (shape_of u.shape)) k) same (subst (λ (w : Var). IsIn (rooted p (Variable (n + zero)) (shape_of w.shape)) k) (sym (some_same e)) h))
  in_variables (u ∷ vs) (suc x) n v k e h =
      let same : n + suc x ≡ suc n + x = omega arith in
      in_second (rooted p (Variable n) (shape_of u.shape)) (variable_locations p (suc n) vs) k
      (in_variables vs x (suc n) v k e (subst (λ j. IsIn (rooted p (Variable j) (shape_of v.shape)) k) same h))

  in_sites : (hs : List Heap) (o : Heap) (k : TypedLocation) → IsIn hs o → IsIn (rooted p (Site o.id) o.elements) k → IsIn (site_locations p hs) k
  in_sites [] o k h i = absurd h
  in_sites (g ∷ hs) o k (inl is) i =
      in_first (rooted p (Site g.id) g.elements) (site_locations p hs) k (subst (λ (z : Heap). IsIn (rooted p (Site z.id) z.elements) k) (sym is) i)
  in_sites (g ∷ hs) o k (inr h) i = in_second (rooted p (Site g.id) g.elements) (site_locations p hs) k (in_sites hs o k h i)

  there_below : (vs : List Var) (x : ℕ) → x < length vs → (v : Var) × (slice_get vs x ≡ Some v)
  there_below [] x low = absurd (omega (arith, low))
  there_below (v ∷ vs) zero low = (v, refl)
  there_below (v ∷ vs) (suc x) low = there_below vs x (omega (arith, low))

  pub variable_listed : (x : ℕ) (k : Located) → x < length p.vars → IsIn (parts p (type_of_variable p x)) k → IsIn (locations p) (placed (Variable x) k)
  variable_listed x k low h =
      let v = there_below p.vars x low in
      let t = ap (λ (o : Option Var). option_map_or (λ (u : Var). shape_of u.shape) o (integer Int)) v.1 in
      let none : 0 + x ≡ x = omega arith in
      inr (in_first (variable_locations p 0 p.vars) (site_locations p (function_heaps p p.functions) ++ result_locations p 0 p.functions) (placed (Variable x) k)
      (in_variables p.vars x 0 v.0 (placed (Variable x) k) v.1 (subst (λ j. IsIn (rooted p (Variable j) (shape_of v.0.shape)) (placed (Variable x) k)) (sym none) (in_map (placed (Variable x)) (parts p (shape_of v.0.shape)) k (subst (λ u. IsIn (parts p u) k) t h)))))

  pub site_listed : (o : Heap) (k : Located) → IsIn (function_heaps p p.functions) o → IsIn (parts p o.elements) k → IsIn (locations p) (placed (Site o.id) k)
  site_listed o k i h =
      inr (in_second (variable_locations p 0 p.vars) (site_locations p (function_heaps p p.functions) ++ result_locations p 0 p.functions) (placed (Site o.id) k)
      (in_first (site_locations p (function_heaps p p.functions)) (result_locations p 0 p.functions) (placed (Site o.id) k) (in_sites (function_heaps p p.functions) o (placed (Site o.id) k) i (in_map (placed (Site o.id)) (parts p o.elements) k h))))

  abbrev under : Location → Located → TypedLocation
  under l k = record { location = record { root = l.root; path = l.path ++ k.path }; type = k.type }

  module _ (order : AreStructsInOrder p) where
    abbrev structs : Structs
    structs = structs_of p

    -- the step from a block of malloc's leads to an object of what the statement's target points to
    first_element : (h : Hop) (n : ℕ) (t u : ExprType) → part_type structs h (record { layers = Array n ∷ t.layers; base = t.base }) ≡ Some u → u ≡ t
    first_element (hop.Member i) n t u e = none_there e
    first_element (hop.Element i) n t u e = by_low (nat_lt i n) (record { type = t; before = i * cell_count structs t }) e
      where
        by_low : (low : Bool) (o : Subobject) → option_map (λ (k : Subobject). k.type) (if low then Some o else None) ≡ Some u → u ≡ o.type
        by_low true o k = sym (some_same k)
        by_low false o k = none_there k

    abbrev behind : List Hop → Located → Located
    behind path k = record { path = map merged path ++ k.path; type = k.type }

    block_parts : (o : Origin) (path : List Hop) (shape u : ExprType) (k : Located) → IsBlockOf p o shape → is_object o path ≡ true → path_type structs path shape ≡ Some u → IsIn (parts p u) k → IsIn (locations p) (under (location_in o path) k)
    block_parts (OfVariable x) path shape u k h is e i =
        variable_listed x (behind path k) h.below (subst (λ t. IsIn (parts p t) (behind path k)) h.shape_is (path_listed p order path shape u k e i))
    block_parts (OfStatement j) [] shape u k h is e i = absurd (false≢true is)
    block_parts (OfStatement j) (g ∷ path) shape u k h is e i =
        let m = then_there (path_type structs path) (part_type structs g shape) u e in
        let same = first_element g h.count h.heap.elements m.value (subst (λ t. part_type structs g t ≡ Some m.value) h.shape_is m.there) in
        let here = path_listed p order path h.heap.elements u k (subst (λ t. path_type structs path t ≡ Some u) same m.same) i in
        subst (λ n. IsIn (locations p) (under (location_in (OfStatement n) (g ∷ path)) k)) h.id_is (site_listed h.heap (behind path k) (in_of_contains (function_heaps p p.functions) h.heap h.member) here)

    module _ (points : TargetsOf) (s : State) (typed : IsTypedState p points s) where
      -- the parts of an object in a state are listed
      pub object_parts : (q : Place) (o : Origin) (u : ExprType) (k : Located) → slice_get s.origins q.block ≡ Some o → is_object o q.path ≡ true → type_at s.memory q ≡ Some u → IsIn (parts p u) k → IsIn (locations p) (under (location_in o q.path) k)
      object_parts q o u k made is e i =
          let a = at_place s.memory q u e in
          block_parts o q.path a.block.shape u k (typed.blocks q.block o a.block made a.block_is) is (subst (λ z. path_type z q.path a.block.shape ≡ Some u) typed.structs_are a.type_is) i

      pub object_listed : (q : Place) (o : Origin) (u : ExprType) → slice_get s.origins q.block ≡ Some o → is_object o q.path ≡ true → type_at s.memory q ≡ Some u → IsIn (locations p) (typed_location (location_in o q.path) u)
      object_listed q o u made is e =
          let l = location_in o q.path in
          subst (λ (hs : List Part). IsIn (locations p) (typed_location (record { root = l.root; path = hs }) u)) (append-nil l.path) (object_parts q o u (record { path = []; type = u }) made is e (itself_in p order u))

      -- and the elements of an array are
      pub elements_listed : (q : Place) (o : Origin) (u : ExprType) → slice_get s.origins q.block ≡ Some o → is_object o q.path ≡ true → type_at s.memory q ≡ Some u → is_array u ≡ true → IsIn (locations p) (typed_location (inside (location_in o q.path) part.Element) (item_type u))
      elements_listed q o u made is e array = object_parts q o u (record { path = part.Element ∷ []; type = item_type u }) made is e (elements_in p order u array)
