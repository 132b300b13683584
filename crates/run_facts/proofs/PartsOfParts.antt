-- The parts of a location's parts are parts of it: elements and members of listed locations are listed, with their types.
use Rattle.std.proofs.Common.{◌≡◌, ℕ, zero, suc, ◌+◌, List, [], ◌∷◌, ◌++◌, length, map, Option, Some, None, true, ◌⊎◌, inl, inr, refl, sym, ap, ◌∙◌, subst, arith}
use Rattle.std.specs.Prelude.{slice_get}
use Rattle.std.proofs.lemmas.Bool.{false≢true}
use Rattle.c_language.proofs.Options.{none_there, some_same}
use Rattle.c_tree.specs.declared.program.Function.{Function}
use Rattle.c_tree.specs.declared.program.Member.{Member}
use Rattle.c_tree.specs.declared.program.Program.{Program}
use Rattle.c_tree.specs.declared.program.Var.{Var}
use Rattle.c_tree.specs.declared.types.CType.{CType}
use Rattle.c_language.specs.DeclaredTypes.{of_base}
use Rattle.c_language.specs.declared.expr_type.Base.{Base}
use Rattle.c_language.specs.declared.expr_type.Base.TheVariants as base
use Rattle.c_language.specs.declared.expr_type.Layer.{Layer}
use Rattle.c_language.specs.declared.expr_type.Layer.TheVariants.{Pointer, Array}
use Rattle.c_language.specs.declared.expr_type.ExprType.{ExprType}
use Rattle.c_language.specs.ExprTypes.{is_array_in, is_array}
use Rattle.c_language.specs.TreeTypes.{shape_of, members_of}
use Rattle.dep_model.specs.declared.location.Part.{Part}
use Rattle.dep_model.specs.declared.location.Part.TheVariants as part
use Rattle.dep_model.specs.declared.location.Location.{Location}
use Rattle.dep_model.specs.declared.location.Root.{Root}
use Rattle.dep_model.specs.declared.location.Root.TheVariants.{Variable, Site, Result}
use Rattle.dep_model.specs.Denoted.{inside}
use Rattle.dep_model.specs.LocationLists.{AreStructsInOrder}
use Rattle.dep_model.specs.LocationObjects.{all_structs}
use Rattle.dep_model.specs.Locations.{Located, TypedLocation, Heap, below, base_parts, parts_with, member_parts, struct_parts, parts, placed, rooted, variable_locations, site_locations, result_parts, result_locations, function_heaps, input, locations}
use Rattle.dep_model.proofs.LocationParts.{struct_unrolled}
use Rattle.dep_model.proofs.Membership.{IsIn, in_first, in_second, in_either, in_map, of_map}
use Rattle.run_facts.specs.PointerLocations.{item_layers, item_type}
use Rattle.run_facts.proofs.ListedObjects.{typed_location}
use Rattle.run_facts.proofs.Subobjects.{itself_in}

abbrev of_layers : List Layer → Base → ExprType
of_layers ls b = record { layers = ls; base = b }

abbrev located : List Part → ExprType → Located
located path t = record { path = path; type = t }

module _ (p : Program) where
  -- a part of an object of a type
  data PartOf : ExprType → List Part → ExprType → Type 0 where
    itself : (t : ExprType) → PartOf t [] t
    element : (n : ℕ) (ls : List Layer) (b : Base) (path : List Part) (u : ExprType) → PartOf (of_layers ls b) path u → PartOf (of_layers (Array n ∷ ls) b) (part.Element ∷ path) u
    member : (s i : ℕ) (m : Member) (path : List Part) (u : ExprType) → slice_get (members_of p s) i ≡ Some m → PartOf (shape_of m.shape) path u → PartOf (of_base (base.Struct s)) (part.Member i ∷ path) u

  abbrev IsPart : ExprType → Located → Type 0
  IsPart t k = PartOf t k.path k.type

  -- ---- what is listed is a part

  module _ (inner : ℕ → List Located) (of : (s : ℕ) (k : Located) → IsIn (inner s) k → IsPart (of_base (base.Struct s)) k) where
    base_of : (b : Base) (k : Located) → IsIn (base_parts inner b) k → IsPart (of_layers [] b) k
    base_of (base.Struct s) k h = of s k h
    base_of (base.Integer t) k h = absurd h
    base_of base.Void k h = absurd h

    parts_of : (ls : List Layer) (b : Base) (k : Located) → IsIn (parts_with inner ls b) k → IsPart (of_layers ls b) k
    parts_of [] b k (inl is) = subst (IsPart (of_layers [] b)) is (itself (of_layers [] b))
    parts_of [] b k (inr h) = base_of b k h
    parts_of (Pointer ∷ ls) b k (inl is) = subst (IsPart (of_layers (Pointer ∷ ls) b)) is (itself (of_layers (Pointer ∷ ls) b))
    parts_of (Pointer ∷ ls) b k (inr h) = absurd h
    parts_of (Array n ∷ ls) b k (inl is) = subst (IsPart (of_layers (Array n ∷ ls) b)) is (itself (of_layers (Array n ∷ ls) b))
    parts_of (Array n ∷ ls) b k (inr h) =
        let m = of_map (below part.Element) (parts_with inner ls b) k h in
        subst (IsPart (of_layers (Array n ∷ ls) b)) m.2 (element n ls b m.0.path m.0.type (parts_of ls b m.0 m.1))

    members_in : (s : ℕ) (ms : List Member) (j : ℕ) (k : Located) → ((i : ℕ) (m : Member) → slice_get ms i ≡ Some m → slice_get (members_of p s) (j + i) ≡ Some m) → IsIn (member_parts inner j ms) k → IsPart (of_base (base.Struct s)) k
    members_in s [] j k at h = absurd h
    members_in s (m ∷ ms) j k at h =
        let t = shape_of m.shape in
        elim (in_either (map (below (part.Member j)) (parts_with inner t.layers t.base)) (member_parts inner (suc j) ms) k h) [
          | inl here ↦
              let o = of_map (below (part.Member j)) (parts_with inner t.layers t.base) k here in
              let first : j + 0 ≡ j = omega arith in
              subst (IsPart (of_base (base.Struct s))) o.2 (member s j m o.0.path o.0.type (subst (λ n. slice_get (members_of p s) n ≡ Some m) first (at 0 m refl)) (parts_of t.layers t.base o.0 o.1))
          | inr later ↦
              members_in s ms (suc j) k (λ i n e. let same : j + suc i ≡ suc j + i = omega arith in subst (λ z. slice_get (members_of p s) z ≡ Some n) same (at (suc i) n e)) later
        ]

  struct_of : (n s : ℕ) (k : Located) → IsIn (struct_parts p n s) k → IsPart (of_base (base.Struct s)) k
  struct_of zero s k h = absurd h
  struct_of (suc n) s k h =
      members_in (struct_parts p n) (struct_of n) s (members_of p s) 0 k (λ i m e. let same : i ≡ 0 + i = omega arith in subst (λ z. slice_get (members_of p s) z ≡ Some m) same e) h

  is_part : (t : ExprType) (k : Located) → IsIn (parts p t) k → IsPart t k
  is_part t k h = parts_of (struct_parts p (length p.structs)) (struct_of (length p.structs)) t.layers t.base k h

  -- ---- and a part is listed

  module _ (order : AreStructsInOrder p) where
    abbrev under : List Part → Located → Located
    under path k = record { path = path ++ k.path; type = k.type }

    member_listed : (ms : List Member) (i n : ℕ) (m : Member) (k : Located) → slice_get ms i ≡ Some m → IsIn (parts p (shape_of m.shape)) k → IsIn (member_parts (all_structs p) n ms) (below (part.Member (n + i)) k)
    member_listed [] i n m k e h = none_there e
    member_listed (a ∷ ms) zero n m k e h =
        let t = shape_of a.shape in
        let same : n + zero ≡ n = omega arith in
        in_first (map (below (part.Member n)) (parts_with (all_structs p) t.layers t.base)) (member_parts (all_structs p) (suc n) ms) (below (part.Member (n + zero)) k)
        (subst (λ j. IsIn (map (below (part.Member n)) (parts_with (all_structs p) t.layers t.base)) (below (part.Member j) k)) (sym same) (in_map (below (part.Member n)) (parts_with (all_structs p) t.layers t.base) k (subst (λ (z : Member). IsIn (parts p (shape_of z.shape)) k) (sym (some_same e)) h)))
    member_listed (a ∷ ms) (suc i) n m k e h =
        let t = shape_of a.shape in
        let same : suc n + i ≡ n + suc i = omega arith in
        in_second (map (below (part.Member n)) (parts_with (all_structs p) t.layers t.base)) (member_parts (all_structs p) (suc n) ms) (below (part.Member (n + suc i)) k)
        (subst (λ j. IsIn (member_parts (all_structs p) (suc n) ms) (below (part.Member j) k)) same (member_listed ms i (suc n) m k e h))

    part_in : (t : ExprType) (path : List Part) (u : ExprType) → PartOf t path u → (k : Located) → IsIn (parts p u) k → IsIn (parts p t) (under path k)
    part_in _ _ _ (itself t) k h = h
    part_in _ _ _ (element n ls b path u h) k i = inr (in_map (below part.Element) (parts_with (all_structs p) ls b) (under path k) (part_in (of_layers ls b) path u h k i))
    part_in _ _ _ (member s j m path u e h) k i =
        let none : 0 + j ≡ j = omega arith in
        let here = member_listed (members_of p s) j 0 m (under path k) e (part_in (shape_of m.shape) path u h k i) in
        inr (subst (λ (os : List Located). IsIn os (below (part.Member j) (under path k))) (sym (struct_unrolled p order s)) (subst (λ z. IsIn (member_parts (all_structs p) 0 (members_of p s)) (below (part.Member z) (under path k))) none here))

    -- ---- listed locations

    -- a location lies in an object all of whose parts are listed
    record IsRooted (o : TypedLocation) : Type 0 where
      root : Root
      type : ExprType
      within : IsIn (rooted p root type) o
      all : (k : TypedLocation) → IsIn (rooted p root type) k → IsIn (locations p) k

    abbrev sites : List TypedLocation
    sites = site_locations p (function_heaps p p.functions)

    abbrev results : List TypedLocation
    results = result_locations p 0 p.functions

    in_variables : (vs : List Var) (n : ℕ) (o : TypedLocation) → ((k : TypedLocation) → IsIn (variable_locations p n vs) k → IsIn (locations p) k) → IsIn (variable_locations p n vs) o → IsRooted o
    in_variables [] n o all h = absurd h
    in_variables (v ∷ vs) n o all h =
        let t = shape_of v.shape in
        elim (in_either (rooted p (Variable n) t) (variable_locations p (suc n) vs) o h) [
          | inl here ↦ record { root = Variable n; type = t; within = here; all = λ k i. all k (in_first (rooted p (Variable n) t) (variable_locations p (suc n) vs) k i) }
          | inr later ↦ in_variables vs (suc n) o (λ k i. all k (in_second (rooted p (Variable n) t) (variable_locations p (suc n) vs) k i)) later
        ]

    in_sites : (hs : List Heap) (o : TypedLocation) → ((k : TypedLocation) → IsIn (site_locations p hs) k → IsIn (locations p) k) → IsIn (site_locations p hs) o → IsRooted o
    in_sites [] o all h = absurd h
    in_sites (g ∷ hs) o all h =
        elim (in_either (rooted p (Site g.id) g.elements) (site_locations p hs) o h) [
          | inl here ↦ record { root = Site g.id; type = g.elements; within = here; all = λ k i. all k (in_first (rooted p (Site g.id) g.elements) (site_locations p hs) k i) }
          | inr later ↦ in_sites hs o (λ k i. all k (in_second (rooted p (Site g.id) g.elements) (site_locations p hs) k i)) later
        ]

    in_result : (f : ℕ) (c : Option CType) (o : TypedLocation) → ((k : TypedLocation) → IsIn (result_parts p f c) k → IsIn (locations p) k) → IsIn (result_parts p f c) o → IsRooted o
    in_result f None o all h = absurd h
    in_result f (Some t) o all h = record { root = Result f; type = shape_of t; within = h; all = all }

    in_results : (fs : List Function) (n : ℕ) (o : TypedLocation) → ((k : TypedLocation) → IsIn (result_locations p n fs) k → IsIn (locations p) k) → IsIn (result_locations p n fs) o → IsRooted o
    in_results [] n o all h = absurd h
    in_results (f ∷ fs) n o all h =
        elim (in_either (result_parts p n f.result) (result_locations p (suc n) fs) o h) [
          | inl here ↦ in_result n f.result o (λ k i. all k (in_first (result_parts p n f.result) (result_locations p (suc n) fs) k i)) here
          | inr later ↦ in_results fs (suc n) o (λ k i. all k (in_second (result_parts p n f.result) (result_locations p (suc n) fs) k i)) later
        ]

    is_rooted : (o : TypedLocation) → IsIn (locations p) o → (input ≡ o) ⊎ IsRooted o
    is_rooted o (inl is) = inl is
    is_rooted o (inr h) =
        let vs = variable_locations p 0 p.vars in
        elim (in_either vs (sites ++ results) o h) [
          | inl i ↦ inr (in_variables p.vars 0 o (λ k j. inr (in_first vs (sites ++ results) k j)) i)
          | inr i ↦ elim (in_either sites results o i) [
            | inl j ↦ inr (in_sites (function_heaps p p.functions) o (λ k n. inr (in_second vs (sites ++ results) k (in_first sites results k n))) j)
            | inr j ↦ inr (in_results p.functions 0 o (λ k n. inr (in_second vs (sites ++ results) k (in_second sites results k n))) j)
          ]
        ]

    -- one step from a listed location, to a part of its type
    step_listed : (l : Location) (t : ExprType) (h : Part) (u : ExprType) → IsRooted (typed_location p l t) → PartOf t (h ∷ []) u → IsIn (locations p) (typed_location p (inside l h) u)
    step_listed l t h u r step =
        let k = of_map (placed r.root) (parts p r.type) (typed_location p l t) r.within in
        let type : k.0.type ≡ t = ap (λ (o : TypedLocation). o.type) k.2 in
        let first : IsIn (parts p t) (located (h ∷ []) u) = part_in t (h ∷ []) u step (located [] u) (itself_in p order u) in
        let whole = part_in r.type k.0.path k.0.type (is_part r.type k.0 k.1) (located (h ∷ []) u) (subst (λ z. IsIn (parts p z) (located (h ∷ []) u)) (sym type) first) in
        subst (λ (z : Location). IsIn (locations p) (typed_location p (inside z h) u)) (ap (λ (o : TypedLocation). o.location) k.2) (r.all (placed r.root (under k.0.path (located (h ∷ []) u))) (in_map (placed r.root) (parts p r.type) (under k.0.path (located (h ∷ []) u)) whole))

    array_step : (ls : List Layer) (b : Base) → is_array_in ls ≡ true → PartOf (of_layers ls b) (part.Element ∷ []) (of_layers (item_layers ls) b)
    array_step [] b h = absurd (false≢true h)
    array_step (Pointer ∷ ls) b h = absurd (false≢true h)
    array_step (Array n ∷ ls) b h = element n ls b [] (of_layers ls b) (itself (of_layers ls b))

    -- the input has no type of an object
    void_no_array : {A : Type 0} (l : Location) (t : ExprType) → input ≡ typed_location p l t → is_array t ≡ true → A
    void_no_array l t is h = absurd (false≢true (ap (λ (o : TypedLocation). is_array o.type) is ∙ h))

    pub element_listed : (l : Location) (t : ExprType) → IsIn (locations p) (typed_location p l t) → is_array t ≡ true → IsIn (locations p) (typed_location p (inside l part.Element) (item_type t))
    element_listed l t h array = elim (is_rooted (typed_location p l t) h) [
      | inl is ↦ void_no_array l t is array
      | inr r ↦ step_listed l t part.Element (item_type t) r (array_step t.layers t.base array)
    ]

    void_no_struct : {A : Type 0} (l : Location) (s : ℕ) → input ≡ typed_location p l (of_base (base.Struct s)) → A
    void_no_struct l s is = absurd (no_struct (ap (λ (o : TypedLocation). o.type.base) is))
      where
        is_void : Base → Type 0
        is_void base.Void = Unit {0}
        is_void (base.Struct n) = ⊥
        is_void (base.Integer t) = ⊥

        no_struct : base.Void ≡ base.Struct s → ⊥
        no_struct e = subst is_void e tt

    pub member_there : (l : Location) (s i : ℕ) (m : Member) → slice_get (members_of p s) i ≡ Some m → IsIn (locations p) (typed_location p l (of_base (base.Struct s))) → IsIn (locations p) (typed_location p (inside l (part.Member i)) (shape_of m.shape))
    member_there l s i m e h = elim (is_rooted (typed_location p l (of_base (base.Struct s))) h) [
      | inl is ↦ void_no_struct l s is
      | inr r ↦ step_listed l (of_base (base.Struct s)) (part.Member i) (shape_of m.shape) r (member s i m [] (shape_of m.shape) e (itself (shape_of m.shape)))
    ]
