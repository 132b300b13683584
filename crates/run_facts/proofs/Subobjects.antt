-- The types of objects in an object, one step after another, and the locations of these.
use Rattle.std.proofs.Common.{◌≡◌, ℕ, zero, suc, ◌+◌, List, [], ◌∷◌, ◌++◌, map, Option, Some, None, true, inl, inr, refl, sym, ap, ◌∙◌, subst, arith}
use Rattle.std.proofs.lemmas.Bool.{false≢true}
use Rattle.std.specs.Prelude.{option_map, option_and_then, slice_get, slice_index_or, nat_lt}
use Rattle.std.specs.Option.{option_map_or}
use Rattle.c_language.proofs.Options.{none_there, some_same, map_there, then_there}
use Rattle.c_language.proofs.Tests.{by_test}
use Rattle.c_tree.specs.declared.program.Member.{Member}
use Rattle.c_tree.specs.declared.program.Program.{Program}
use Rattle.c_tree.specs.declared.program.StructDef.{StructDef}
use Rattle.c_language.specs.declared.expr_type.Base.{Base}
use Rattle.c_language.specs.declared.expr_type.Base.TheVariants as base
use Rattle.c_language.specs.declared.expr_type.Layer.{Layer}
use Rattle.c_language.specs.declared.expr_type.Layer.TheVariants.{Pointer, Array}
use Rattle.c_language.specs.declared.expr_type.ExprType.{ExprType}
use Rattle.c_language.specs.ExprTypes.{struct_in, is_array_in, is_array}
use Rattle.c_language.specs.TreeTypes.{shape_of, members_of}
use Rattle.c_meaning.specs.declared.value.Hop.{Hop}
use Rattle.c_meaning.specs.declared.value.Hop.TheVariants as hop
use Rattle.c_meaning.specs.declared.value.Place.{Place}
use Rattle.c_meaning.specs.Cells.{Structs, Subobject, structs_of, behind, element_in, member_in, part, subobject}
use Rattle.c_meaning.specs.Memory.{Block, Memory}
use Rattle.c_meaning.specs.Pointers.{type_at}
use Rattle.dep_model.specs.declared.location.Part.{Part}
use Rattle.dep_model.specs.declared.location.Part.TheVariants as part
use Rattle.dep_model.specs.LocationLists.{AreStructsInOrder}
use Rattle.dep_model.specs.LocationObjects.{all_structs}
use Rattle.dep_model.specs.Locations.{Located, below, type_with, parts_with, member_parts, parts}
use Rattle.dep_model.proofs.LocationParts.{struct_unrolled}
use Rattle.dep_model.proofs.Membership.{IsIn, in_first, in_second, in_map}
use Rattle.run_facts.specs.CellLocations.{merged}
use Rattle.run_facts.specs.PointerLocations.{item_layers, item_type}

abbrev type_in_ : Option Subobject → Option ExprType
type_in_ o = option_map (λ (u : Subobject). u.type) o

-- ---- types of parts

-- the type of the part to which one step leads, and of what stands at the end of a path
abbrev pub part_type : Structs → Hop → ExprType → Option ExprType
part_type structs h t = type_in_ (part structs h t)

abbrev pub path_type : Structs → List Hop → ExprType → Option ExprType
path_type structs [] t = Some t
path_type structs (h ∷ hs) t = option_and_then (path_type structs hs) (part_type structs h t)

behind_type : (n : ℕ) (o : Option Subobject) → type_in_ (option_map (behind n) o) ≡ type_in_ o
behind_type n None = refl
behind_type n (Some o) = refl

pub path_typed : (structs : Structs) (path : List Hop) (t : ExprType) → type_in_ (subobject structs path t) ≡ path_type structs path t
path_typed structs [] t = refl
path_typed structs (h ∷ hs) t = by_part (part structs h t) (λ u. path_typed structs hs u)
  where
    by_part : (o : Option Subobject) → ((u : ExprType) → type_in_ (subobject structs hs u) ≡ path_type structs hs u)
        → type_in_ (option_and_then (λ (u : Subobject). option_map (behind u.before) (subobject structs hs u.type)) o) ≡ option_and_then (path_type structs hs) (type_in_ o)
    by_part None same = refl
    by_part (Some u) same = behind_type u.before (subobject structs hs u.type) ∙ same u.type

pub path_more : (structs : Structs) (path : List Hop) (h : Hop) (t u v : ExprType) → path_type structs path t ≡ Some u → part_type structs h u ≡ Some v → path_type structs (path ++ h ∷ []) t ≡ Some v
path_more structs [] h t u v e k =
    let at_ : part_type structs h t ≡ Some v = subst (λ x. part_type structs h x ≡ Some v) (sym (some_same e)) k in
    ap (option_and_then (path_type structs [])) at_
path_more structs (g ∷ path) h t u v e k =
    let m = then_there (path_type structs path) (part_type structs g t) u e in
    ap (option_and_then (path_type structs (path ++ h ∷ []))) m.there ∙ path_more structs path h m.value u v m.same k

-- ---- what is at a place

abbrev block_type : Structs → List Hop → Option Block → Option ExprType
block_type structs path o = option_and_then (λ (b : Block). path_type structs path b.shape) o

block_typed : (structs : Structs) (path : List Hop) (o : Option Block) → option_and_then (λ (b : Block). type_in_ (subobject structs path b.shape)) o ≡ block_type structs path o
block_typed structs path None = refl
block_typed structs path (Some b) = path_typed structs path b.shape

pub type_at_is : (m : Memory) (q : Place) → type_at m q ≡ option_and_then (λ (b : Block). path_type m.structs q.path b.shape) (slice_get m.blocks q.block)
type_at_is m q = block_typed m.structs q.path (slice_get m.blocks q.block)

-- an object at a place: its block, and its type by the block's
pub record IsAtPlace (m : Memory) (q : Place) (t : ExprType) : Type 0 where
  pub block : Block
  pub block_is : slice_get m.blocks q.block ≡ Some block
  pub type_is : path_type m.structs q.path block.shape ≡ Some t

pub at_place : (m : Memory) (q : Place) (t : ExprType) → type_at m q ≡ Some t → IsAtPlace m q t
at_place m q t e =
    let k = then_there (λ (b : Block). path_type m.structs q.path b.shape) (slice_get m.blocks q.block) t (sym (type_at_is m q) ∙ e) in
    record { block = k.value; block_is = k.there; type_is = k.same }

abbrev placed : ℕ → List Hop → Place
placed b path = record { block = b; path = path }

-- a part of an object has the part's type
pub part_at : (m : Memory) (q : Place) (h : Hop) (t u : ExprType) → type_at m q ≡ Some t → part_type m.structs h t ≡ Some u → type_at m (placed q.block (q.path ++ h ∷ [])) ≡ Some u
part_at m q h t u e k =
    let a = at_place m q t e in
    type_at_is m (placed q.block (q.path ++ h ∷ []))
    ∙ (ap (option_and_then (λ (b : Block). path_type m.structs (q.path ++ h ∷ []) b.shape)) a.block_is ∙ path_more m.structs q.path h a.block.shape t u a.type_is k)

-- ---- parts of objects are listed

module _ (p : Program) (order : AreStructsInOrder p) where
  abbrev structs : Structs
  structs = structs_of p

  abbrev located : List Part → ExprType → Located
  located path t = record { path = path; type = t }

  itself_listed : (ls : List Layer) (b : Base) → IsIn (parts_with (all_structs p) ls b) (located [] (type_with ls b))
  itself_listed [] b = inl refl
  itself_listed (Pointer ∷ ls) b = inl refl
  itself_listed (Array n ∷ ls) b = inl refl

  element_listed : (i : ℕ) (ls : List Layer) (b : Base) (o : Subobject) (k : Located) → element_in structs i ls b ≡ Some o → IsIn (parts p o.type) k → IsIn (parts_with (all_structs p) ls b) (below part.Element k)
  element_listed i [] b o k e h = none_there e
  element_listed i (Pointer ∷ ls) b o k e h = none_there e
  element_listed i (Array n ∷ ls) b o k e h =
      by_test (nat_lt i n) e
      (λ low same. inr (in_map (below part.Element) (parts_with (all_structs p) ls b) k (subst (λ (u : Subobject). IsIn (parts p u.type) k) (sym (some_same same)) h)))
      (λ high none. none_there none)

  abbrev types_of : List Member → List ExprType
  types_of ms = map (λ (m : Member). shape_of m.shape) ms

  member_listed : (ms : List Member) (i n : ℕ) (o : Subobject) (k : Located) → member_in structs i (types_of ms) ≡ Some o → IsIn (parts p o.type) k → IsIn (member_parts (all_structs p) n ms) (below (part.Member (n + i)) k)
  member_listed [] i n o k e h = none_there e
  member_listed (m ∷ ms) zero n o k e h =
      let t = shape_of m.shape in
      let same : n + zero ≡ n = omega arith in
      in_first (map (below (part.Member n)) (parts_with (all_structs p) t.layers t.base)) (member_parts (all_structs p) (suc n) ms) (below (part.Member (n + zero)) k)
      (subst (λ j. IsIn (map (below (part.Member n)) (parts_with (all_structs p) t.layers t.base)) (below (part.Member j) k)) (sym same) (in_map (below (part.Member n)) (parts_with (all_structs p) t.layers t.base) k (subst (λ (u : Subobject). IsIn (parts p u.type) k) (sym (some_same e)) h)))
  member_listed (m ∷ ms) (suc i) n o k e h =
      let t = shape_of m.shape in
      let g = map_there (behind _) (member_in structs i (types_of ms)) o e in
      let same : suc n + i ≡ n + suc i = omega arith in
      in_second (map (below (part.Member n)) (parts_with (all_structs p) t.layers t.base)) (member_parts (all_structs p) (suc n) ms) (below (part.Member (n + suc i)) k)
      (subst (λ j. IsIn (member_parts (all_structs p) (suc n) ms) (below (part.Member j) k)) same (member_listed ms i (suc n) g.value k g.there (subst (λ (u : Subobject). IsIn (parts p u.type) k) (sym g.same) h)))

  members_at : (ds : List StructDef) (s : ℕ) → slice_index_or (map (λ (d : StructDef). types_of d.members) ds) s [] ≡ types_of (option_map_or (λ (d : StructDef). d.members) (slice_get ds s) [])
  members_at [] zero = refl
  members_at [] (suc s) = refl
  members_at (d ∷ ds) zero = refl
  members_at (d ∷ ds) (suc s) = members_at ds s

  -- the types of the members of a struct type are those that its members have in the tree
  pub member_types : (s : ℕ) → slice_index_or (structs_of p) s [] ≡ types_of (members_of p s)
  member_types s = members_at p.structs s

  selected_listed : (i : ℕ) (ls : List Layer) (b : Base) (o : Subobject) (k : Located) → option_and_then (λ (s : ℕ). member_in structs i (slice_index_or structs s [])) (struct_in ls b) ≡ Some o → IsIn (parts p o.type) k → IsIn (parts_with (all_structs p) ls b) (below (part.Member i) k)
  selected_listed i [] (base.Integer t) o k e h = none_there e
  selected_listed i [] base.Void o k e h = none_there e
  selected_listed i (l ∷ ls) b o k e h = none_there e
  selected_listed i [] (base.Struct s) o k e h =
      let none : 0 + i ≡ i = omega arith in
      let here = member_listed (members_of p s) i 0 o k (ap (member_in structs i) (sym (member_types s)) ∙ e) h in
      inr (subst (λ (os : List Located). IsIn os (below (part.Member i) k)) (sym (struct_unrolled p order s)) (subst (λ j. IsIn (member_parts (all_structs p) 0 (members_of p s)) (below (part.Member j) k)) none here))

  part_listed : (h : Hop) (t : ExprType) (o : Subobject) (k : Located) → part structs h t ≡ Some o → IsIn (parts p o.type) k → IsIn (parts p t) (below (merged h) k)
  part_listed (hop.Member i) t o k e h = selected_listed i t.layers t.base o k e h
  part_listed (hop.Element i) t o k e h = element_listed i t.layers t.base o k e h

  abbrev under : List Part → Located → Located
  under path k = record { path = path ++ k.path; type = k.type }

  -- the parts of an object in an object are parts of that
  pub path_listed : (path : List Hop) (t u : ExprType) (k : Located) → path_type structs path t ≡ Some u → IsIn (parts p u) k → IsIn (parts p t) (under (map merged path) k)
  path_listed [] t u k e h = subst (λ x. IsIn (parts p x) k) (sym (some_same e)) h
  path_listed (h ∷ path) t u k e i =
      let m = then_there (path_type structs path) (part_type structs h t) u e in
      let o = map_there (λ (v : Subobject). v.type) (part structs h t) m.value m.there in
      part_listed h t o.value (under (map merged path) k) o.there (subst (λ v. IsIn (parts p v) (under (map merged path) k)) (sym o.same) (path_listed path m.value u k m.same i))

  pub itself_in : (t : ExprType) → IsIn (parts p t) (located [] t)
  itself_in t = itself_listed t.layers t.base

  element_in_parts : (ls : List Layer) (b : Base) → is_array_in ls ≡ true → IsIn (parts_with (all_structs p) ls b) (located (part.Element ∷ []) (type_with (item_layers ls) b))
  element_in_parts [] b h = absurd (false≢true h)
  element_in_parts (Pointer ∷ ls) b h = absurd (false≢true h)
  element_in_parts (Array n ∷ ls) b h = inr (in_map (below part.Element) (parts_with (all_structs p) ls b) (located [] (type_with ls b)) (itself_listed ls b))

  -- the elements of an array are a part of it, however many there are
  pub elements_in : (t : ExprType) → is_array t ≡ true → IsIn (parts p t) (located (part.Element ∷ []) (item_type t))
  elements_in t h = element_in_parts t.layers t.base h
