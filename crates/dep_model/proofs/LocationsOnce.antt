-- A program whose statements have numbers of their own lists no location twice.
use Rattle.std.proofs.Common.{◌≡◌, ℕ, zero, suc, ◌+◌, ◌<◌, ◌≤◌, List, [], ◌∷◌, ◌++◌, length, map, slice_get, Option, Some, None, inl, inr, refl, sym, ap, subst, ◌∙◌, arith}
use Rattle.std.specs.List.{range_with_len}
use Rattle.std.proofs.lemmas.List.{map-append}
use Rattle.c_tree.specs.declared.program.Function.{Function}
use Rattle.c_tree.specs.declared.program.Member.{Member}
use Rattle.c_tree.specs.declared.program.Program.{Program}
use Rattle.c_tree.specs.declared.program.Var.{Var}
use Rattle.c_tree.specs.declared.types.CType.{CType}
use Rattle.c_language.specs.Code.{Begins, Sets, Bumps, Fetches, Writes, Prints, Allocates, Frees, Returns, Tests}
use Rattle.c_language.specs.TreeTypes.{shape_of, members_of}
use Rattle.c_language.specs.declared.expr_type.Base.{Base}
use Rattle.c_language.specs.declared.expr_type.Base.TheVariants as base
use Rattle.c_language.specs.declared.expr_type.Layer.{Layer}
use Rattle.c_language.specs.declared.expr_type.Layer.TheVariants.{Pointer, Array}
use Rattle.c_language.proofs.Options.{some_same, none_there}
use Rattle.dep_model.specs.Doings.{Doing, Does, Calls, body_doings, doing_number, functions_doings, program_doings}
use Rattle.dep_model.specs.Laws.{LocationsAreListedOnce}
use Rattle.dep_model.specs.LocationLists.{location_list}
use Rattle.dep_model.specs.LocationObjects.{placed_under, variable_objects, site_objects, result_object, result_objects, objects, object_locations, locations_of}
use Rattle.dep_model.specs.Locations.{Located, Heap, below, parts_with, member_parts, struct_parts, parts, heaps, function_heaps}
use Rattle.dep_model.specs.DoingEffects.{the_input}
use Rattle.dep_model.specs.declared.location.Location.{Location}
use Rattle.dep_model.specs.declared.location.Part.{Part}
use Rattle.dep_model.specs.declared.location.Part.TheVariants as part
use Rattle.dep_model.specs.declared.location.Root.{Root}
use Rattle.dep_model.specs.declared.location.Root.TheVariants.{Input, Variable, Site, Result}
use Rattle.dep_model.specs.declared.locations.objects.Object.{Object}
use Rattle.dep_model.proofs.LocationLaws.{listed_objects}
use Rattle.dep_model.proofs.LocationSites.{heaps-append}
use Rattle.dep_model.proofs.Membership.{IsIn, in_of_get, in_either, of_map}

-- ---- lists without repetitions

abbrev IsOnce : {A : Type 0} → List A → Type 0
IsOnce [] = Unit {0}
IsOnce (x ∷ xs) = (IsIn xs x → ⊥) × IsOnce xs

once_append : {A : Type 0} (xs ys : List A) → IsOnce xs → IsOnce ys → ((x : A) → IsIn xs x → IsIn ys x → ⊥) → IsOnce (xs ++ ys)
once_append [] ys a b apart = b
once_append (x ∷ xs) ys a b apart =
    (λ h. elim (in_either xs ys x h) [ inl i ↦ a.0 i | inr i ↦ apart x (inl refl) i ], once_append xs ys a.1 b (λ y i j. apart y (inr i) j))

once_map : {A B : Type 0} (f : A → B) (xs : List A) → ((x y : A) → f x ≡ f y → x ≡ y) → IsOnce xs → IsOnce (map f xs)
once_map f [] same a = tt
once_map f (x ∷ xs) same a =
    (λ h. let t = of_map f xs (f x) h in a.0 (subst (IsIn xs) (same t.0 x t.2) t.1), once_map f xs same a.1)

one_place : {A : Type 0} (xs : List A) → IsOnce xs → (j k : ℕ) (x : A) → slice_get xs j ≡ Some x → slice_get xs k ≡ Some x → j ≡ k
one_place [] a j k x e f = none_there e
one_place (y ∷ xs) a zero zero x e f = refl
one_place (y ∷ xs) a zero (suc k) x e f = absurd (a.0 (subst (IsIn xs) (sym (some_same e)) (in_of_get xs k x f)))
one_place (y ∷ xs) a (suc j) zero x e f = absurd (a.0 (subst (IsIn xs) (sym (some_same f)) (in_of_get xs j x e)))
one_place (y ∷ xs) a (suc j) (suc k) x e f = ap suc (one_place xs a.1 j k x e f)

from_in : (n a k : ℕ) → IsIn (range_with_len a n) k → a ≤ k
from_in zero a k h = absurd h
from_in (suc n) a k (inl e) = omega (arith, e)
from_in (suc n) a k (inr h) = let l = from_in n (a + 1) k h in omega (arith, l)

once_range : (n a : ℕ) → IsOnce (range_with_len a n)
once_range zero a = tt
once_range (suc n) a = (λ h. let l = from_in n (a + 1) a h in omega (arith, l), once_range n (a + 1))

-- ---- the parts of an object

abbrev paths : List Located → List (List Part)
paths os = map (λ (o : Located). o.path) os

-- parts below an object, each with a path of its own
record AreInner (os : List Located) : Type 0 where
  once : IsOnce (paths os)
  some : IsIn (paths os) [] → ⊥

paths_below : (h : Part) (os : List Located) → paths (map (below h) os) ≡ map (λ (w : List Part). h ∷ w) (paths os)
paths_below h [] = refl
paths_below h (o ∷ os) = ap (λ (ws : List (List Part)). (h ∷ o.path) ∷ ws) (paths_below h os)

abbrev first_of : List Part → Option Part
first_of [] = None
first_of (h ∷ w) = Some h

abbrev rest_of : List Part → List Part
rest_of [] = []
rest_of (h ∷ w) = w

once_below : (h : Part) (os : List Located) → IsOnce (paths os) → IsOnce (paths (map (below h) os))
once_below h os a = subst IsOnce (sym (paths_below h os)) (once_map (λ (w : List Part). h ∷ w) (paths os) (λ v w e. ap rest_of e) a)

-- a path below a part begins with it
below_first : (h : Part) (os : List Located) (w : List Part) → IsIn (paths (map (below h) os)) w → first_of w ≡ Some h
below_first h os w i =
    let t = of_map (λ (v : List Part). h ∷ v) (paths os) w (subst (λ ws. IsIn ws w) (paths_below h os) i) in
    sym (ap first_of t.2)

none_first : (h : Part) → first_of [] ≡ Some h → ⊥
none_first h e = none_there e

module _ (inside : ℕ → List Located) (inner : (s : ℕ) → AreInner (inside s)) where
  once_parts : (ls : List Layer) (b : Base) → IsOnce (paths (parts_with inside ls b))
  once_parts [] (base.Struct s) = ((inner s).some, (inner s).once)
  once_parts [] (base.Integer t) = (λ h. h, tt)
  once_parts [] base.Void = (λ h. h, tt)
  once_parts (Pointer ∷ ls) b = (λ h. h, tt)
  once_parts (Array n ∷ ls) b =
      (λ h. none_first part.Element (below_first part.Element (parts_with inside ls b) [] h), once_below part.Element (parts_with inside ls b) (once_parts ls b))

  -- the paths of members from the k-th on
  members_first : (ms : List Member) (k : ℕ) (w : List Part) → IsIn (paths (member_parts inside k ms)) w → (j : ℕ) × (k ≤ j) × (first_of w ≡ Some (part.Member j))
  members_first [] k w h = absurd h
  members_first (m ∷ ms) k w h =
      let here = map (below (part.Member k)) (parts_with inside (shape_of m.shape).layers (shape_of m.shape).base) in
      let split : IsIn (paths here ++ paths (member_parts inside (suc k) ms)) w =
      subst (λ ws. IsIn ws w) (map-append (λ (o : Located). o.path) here (member_parts inside (suc k) ms)) h in
      elim (in_either (paths here) (paths (member_parts inside (suc k) ms)) w split) [
        | inl i ↦ (k, omega arith, below_first (part.Member k) (parts_with inside (shape_of m.shape).layers (shape_of m.shape).base) w i)
        | inr i ↦ let t = members_first ms (suc k) w i in (t.0, omega (arith, t.1), t.2)
      ]

  once_members : (ms : List Member) (k : ℕ) → IsOnce (paths (member_parts inside k ms))
  once_members [] k = tt
  once_members (m ∷ ms) k =
      let own = parts_with inside (shape_of m.shape).layers (shape_of m.shape).base in
      let here = map (below (part.Member k)) own in
      let more = member_parts inside (suc k) ms in
      subst IsOnce (sym (map-append (λ (o : Located). o.path) here more))
      (once_append (paths here) (paths more) (once_below (part.Member k) own (once_parts (shape_of m.shape).layers (shape_of m.shape).base)) (once_members ms (suc k))
      (λ w i j. let t = members_first ms (suc k) w j in not_later k t.0 t.1 (some_same (sym (below_first (part.Member k) own w i) ∙ t.2))))
    where
      number : Part → ℕ
      number (part.Member j) = j
      number part.Element = 0

      not_later : (k j : ℕ) → suc k ≤ j → part.Member k ≡ part.Member j → ⊥
      not_later k j l e = let n : k ≡ j = ap number e in omega (arith, l, n)

  inner_members : (ms : List Member) → AreInner (member_parts inside 0 ms)
  inner_members ms = record {
    once = once_members ms 0;
    some = λ h. let t = members_first ms 0 [] h in none_first (part.Member t.0) t.2;
  }

inner_structs : (p : Program) (n s : ℕ) → AreInner (struct_parts p n s)
inner_structs p zero s = record { once = tt; some = λ h. h }
inner_structs p (suc n) s = inner_members (struct_parts p n) (inner_structs p n) (members_of p s)

-- ---- objects

abbrev roots : List Object → List Root
roots os = map (λ (o : Object). o.root) os

module _ (p : Program) where
  object_root : (o : Object) (l : Location) → IsIn (object_locations p o) l → o.root ≡ l.root
  object_root o l h = let t = of_map (placed_under o.root []) (parts p o.shape) l h in ap (λ (m : Location). m.root) t.2

  list_root : (os : List Object) (l : Location) → IsIn (locations_of p os) l → IsIn (roots os) l.root
  list_root [] l h = absurd h
  list_root (o ∷ os) l h = elim (in_either (object_locations p o) (locations_of p os) l h) [
    | inl i ↦ inl (object_root o l i)
    | inr i ↦ inr (list_root os l i)
  ]

  by_path : (r : Root) (os : List Located) → map (placed_under r []) os ≡ map (λ (w : List Part). let l : Location = record { root = r; path = w } in l) (paths os)
  by_path r [] = refl
  by_path r (o ∷ os) = ap (λ (ls : List Location). placed_under r [] o ∷ ls) (by_path r os)

  once_object : (o : Object) → IsOnce (object_locations p o)
  once_object o =
      let own = parts p o.shape in
      subst IsOnce (sym (by_path o.root own))
      (once_map (λ (w : List Part). let l : Location = record { root = o.root; path = w } in l) (paths own) (λ v w e. ap (λ (l : Location). l.path) e)
      (once_parts (struct_parts p (length p.structs)) (inner_structs p (length p.structs)) o.shape.layers o.shape.base))

  once_objects : (os : List Object) → IsOnce (roots os) → IsOnce (locations_of p os)
  once_objects [] a = tt
  once_objects (o ∷ os) a =
      once_append (object_locations p o) (locations_of p os) (once_object o) (once_objects os a.1)
      (λ l i j. a.0 (subst (IsIn (roots os)) (sym (object_root o l i)) (list_root os l j)))

-- ---- roots

-- what is declared at a root, and where
abbrev kind : Root → ℕ
kind Input = 0
kind (Variable x) = 1
kind (Site i) = 2
kind (Result f) = 3

abbrev number : Root → ℕ
number Input = 0
number (Variable x) = x
number (Site i) = i
number (Result f) = f

variable_roots : (vs : List Var) (x : ℕ) (r : Root) → IsIn (roots (variable_objects x vs)) r → (kind r ≡ 1) × (x ≤ number r)
variable_roots [] x r h = absurd h
variable_roots (v ∷ vs) x r (inl e) = (sym (ap kind e), let n : x ≡ number r = ap number e in omega (arith, n))
variable_roots (v ∷ vs) x r (inr h) = let t = variable_roots vs (suc x) r h in (t.0, omega (arith, t.1))

once_variables : (vs : List Var) (x : ℕ) → IsOnce (roots (variable_objects x vs))
once_variables [] x = tt
once_variables (v ∷ vs) x = (λ h. let t = variable_roots vs (suc x) (Variable x) h in omega (arith, t.1), once_variables vs (suc x))

first_result : (k : ℕ) (t : Option CType) (more : List Object) (r : Root) → (IsIn (roots more) r → (kind r ≡ 3) × (suc k ≤ number r)) → IsIn (roots (result_object k t ++ more)) r → (kind r ≡ 3) × (k ≤ number r)
first_result k None more r later i = let w = later i in (w.0, omega (arith, w.1))
first_result k (Some t) more r later (inl e) = (sym (ap kind e), let n : k ≡ number r = ap number e in omega (arith, n))
first_result k (Some t) more r later (inr i) = let w = later i in (w.0, omega (arith, w.1))

result_roots : (fs : List Function) (k : ℕ) (r : Root) → IsIn (roots (result_objects k fs)) r → (kind r ≡ 3) × (k ≤ number r)
result_roots [] k r h = absurd h
result_roots (f ∷ fs) k r h = first_result k f.result (result_objects (suc k) fs) r (result_roots fs (suc k) r) h

once_first : (k : ℕ) (t : Option CType) (more : List Object) → ((r : Root) → IsIn (roots more) r → (kind r ≡ 3) × (suc k ≤ number r)) → IsOnce (roots more) → IsOnce (roots (result_object k t ++ more))
once_first k None more later a = a
once_first k (Some t) more later a = (λ h. let w = later (Result k) h in omega (arith, w.1), a)

once_results : (fs : List Function) (k : ℕ) → IsOnce (roots (result_objects k fs))
once_results [] k = tt
once_results (f ∷ fs) k = once_first k f.result (result_objects (suc k) fs) (result_roots fs (suc k)) (once_results fs (suc k))

site_roots : (hs : List Heap) (r : Root) → IsIn (roots (site_objects hs)) r → (kind r ≡ 2) × IsIn (map (λ (h : Heap). h.id) hs) (number r)
site_roots [] r i = absurd i
site_roots (h ∷ hs) r (inl e) = (sym (ap kind e), inl (ap number e))
site_roots (h ∷ hs) r (inr i) = let t = site_roots hs r i in (t.0, inr t.1)

once_sites : (hs : List Heap) → IsOnce (map (λ (h : Heap). h.id) hs) → IsOnce (roots (site_objects hs))
once_sites [] a = tt
once_sites (h ∷ hs) a = (λ i. a.0 (site_roots hs (Site h.id) i).1, once_sites hs a.1)

-- ---- what is allocated

module _ (p : Program) where
  abbrev ids : List Doing → List ℕ
  ids ds = map (λ (h : Heap). h.id) (heaps p ds)

  in_ids : (ds : List Doing) (i : ℕ) → IsIn (ids ds) i → IsIn (map doing_number ds) i
  in_ids [] i h = absurd h
  in_ids (Does j (Allocates to n) ∷ ds) i (inl e) = inl e
  in_ids (Does j (Allocates to n) ∷ ds) i (inr h) = inr (in_ids ds i h)
  in_ids (Does j (Begins x n) ∷ ds) i h = inr (in_ids ds i h)
  in_ids (Does j (Sets left op right) ∷ ds) i h = inr (in_ids ds i h)
  in_ids (Does j (Bumps left up) ∷ ds) i h = inr (in_ids ds i h)
  in_ids (Does j (Fetches to) ∷ ds) i h = inr (in_ids ds i h)
  in_ids (Does j (Writes e) ∷ ds) i h = inr (in_ids ds i h)
  in_ids (Does j (Prints format args) ∷ ds) i h = inr (in_ids ds i h)
  in_ids (Does j (Frees e) ∷ ds) i h = inr (in_ids ds i h)
  in_ids (Does j (Returns e) ∷ ds) i h = inr (in_ids ds i h)
  in_ids (Does j (Tests e) ∷ ds) i h = inr (in_ids ds i h)
  in_ids (Calls j to f args ∷ ds) i h = inr (in_ids ds i h)

  once_ids : (ds : List Doing) → IsOnce (map doing_number ds) → IsOnce (ids ds)
  once_ids [] a = tt
  once_ids (Does j (Allocates to n) ∷ ds) a = (λ h. a.0 (in_ids ds j h), once_ids ds a.1)
  once_ids (Does j (Begins x n) ∷ ds) a = once_ids ds a.1
  once_ids (Does j (Sets left op right) ∷ ds) a = once_ids ds a.1
  once_ids (Does j (Bumps left up) ∷ ds) a = once_ids ds a.1
  once_ids (Does j (Fetches to) ∷ ds) a = once_ids ds a.1
  once_ids (Does j (Writes e) ∷ ds) a = once_ids ds a.1
  once_ids (Does j (Prints format args) ∷ ds) a = once_ids ds a.1
  once_ids (Does j (Frees e) ∷ ds) a = once_ids ds a.1
  once_ids (Does j (Returns e) ∷ ds) a = once_ids ds a.1
  once_ids (Does j (Tests e) ∷ ds) a = once_ids ds a.1
  once_ids (Calls j to f args ∷ ds) a = once_ids ds a.1

  function_by_function : (fs : List Function) → function_heaps p fs ≡ heaps p (functions_doings fs)
  function_by_function [] = refl
  function_by_function (f ∷ fs) =
      ap (λ (hs : List Heap). heaps p (body_doings f.body) ++ hs) (function_by_function fs) ∙ sym (heaps-append p (body_doings f.body) (functions_doings fs))

  once_allocated : IsOnce (map doing_number (program_doings p)) → IsOnce (roots (site_objects (function_heaps p p.functions)))
  once_allocated a =
      once_sites (function_heaps p p.functions)
      (subst (λ (hs : List Heap). IsOnce (map (λ (h : Heap). h.id) hs)) (sym (function_by_function p.functions)) (once_ids (program_doings p) a))

-- ---- all together

roots_append : (os more : List Object) → roots (os ++ more) ≡ roots os ++ roots more
roots_append os more = map-append (λ (o : Object). o.root) os more

once_roots : (p : Program) → IsOnce (map doing_number (program_doings p)) → IsOnce (roots (objects p))
once_roots p a =
    let vs = variable_objects 0 p.vars in
    let ss = site_objects (function_heaps p p.functions) in
    let rs = result_objects 0 p.functions in
    let later : IsOnce (roots (ss ++ rs)) = subst IsOnce (sym (roots_append ss rs))
    (once_append (roots ss) (roots rs) (once_allocated p a) (once_results p.functions 0)
    (λ r i j. kinds_differ r 2 3 (site_roots (function_heaps p p.functions) r i).0 (result_roots p.functions 0 r j).0 (omega arith))) in
    subst IsOnce (sym (roots_append vs (ss ++ rs)))
    (once_append (roots vs) (roots (ss ++ rs)) (once_variables p.vars 0) later
    (λ r i j. elim (in_either (roots ss) (roots rs) r (subst (λ os. IsIn os r) (roots_append ss rs) j)) [
      | inl k ↦ kinds_differ r 1 2 (variable_roots p.vars 0 r i).0 (site_roots (function_heaps p p.functions) r k).0 (omega arith)
      | inr k ↦ kinds_differ r 1 3 (variable_roots p.vars 0 r i).0 (result_roots p.functions 0 r k).0 (omega arith)
    ]))
  where
    kinds_differ : (r : Root) (a b : ℕ) → kind r ≡ a → kind r ≡ b → a < b → ⊥
    kinds_differ r a b e f l = let n : a ≡ b = sym e ∙ f in omega (arith, n, l)

-- what is declared, allocated or returned isn't the input
no_input : (p : Program) → IsIn (roots (objects p)) Input → ⊥
no_input p h =
    let ss = site_objects (function_heaps p p.functions) in
    let rs = result_objects 0 p.functions in
    elim (in_either (roots (variable_objects 0 p.vars)) (roots (ss ++ rs)) Input (subst (λ os. IsIn os Input) (roots_append (variable_objects 0 p.vars) (ss ++ rs)) h)) [
      | inl i ↦ let t = (variable_roots p.vars 0 Input i).0 in omega (arith, t)
      | inr i ↦ elim (in_either (roots ss) (roots rs) Input (subst (λ os. IsIn os Input) (roots_append ss rs) i)) [
        | inl j ↦ let t = (site_roots (function_heaps p p.functions) Input j).0 in omega (arith, t)
        | inr j ↦ let t = (result_roots p.functions 0 Input j).0 in omega (arith, t)
      ]
    ]

pub listed_once : LocationsAreListedOnce
listed_once p numbers =
    let a : IsOnce (map doing_number (program_doings p)) = subst IsOnce (sym numbers) (once_range p.statements 0) in
    let all : IsOnce (the_input ∷ locations_of p (objects p)) = (λ h. no_input p (list_root p (objects p) the_input h), once_objects p (objects p) (once_roots p a)) in
    record { once = one_place (location_list p) (subst IsOnce (sym (listed_objects p)) all) }
