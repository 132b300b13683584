-- The parts of objects, where no struct type has a later one in it: they come to an end, and can be listed from a stack.
use Rattle.std.proofs.Common.{◌≡◌, ℕ, zero, suc, ◌+◌, ◌<◌, ◌≤◌, List, [], ◌∷◌, ◌++◌, length, map, drop, get_or, true, Option, None, inl, inr, refl, sym, ap, ap₂, ◌∙◌, arith, append_assoc, append-nil, length-append, ltb-true}
use Rattle.std.proofs.lemmas.Bool.{cases_lt, false≢true}
use Rattle.std.proofs.lemmas.List.{length-map, map-append}
use Rattle.std.proofs.lemmas.Option.{slice_get_past}
use Rattle.std.proofs.Math.Seq.{drop-cons}
use Rattle.std.specs.Prelude.{slice_get, remove}
use Rattle.std.specs.Option.{option_map_or}
use Rattle.c_tree.specs.declared.program.Member.{Member}
use Rattle.c_tree.specs.declared.program.Program.{Program}
use Rattle.c_tree.specs.declared.program.StructDef.{StructDef}
use Rattle.c_language.specs.ExprTypes.{is_array_in}
use Rattle.c_language.specs.TreeTypes.{shape_of, members_of}
use Rattle.c_language.specs.declared.expr_type.Base.{Base}
use Rattle.c_language.specs.declared.expr_type.Base.TheVariants as base
use Rattle.c_language.specs.declared.expr_type.ExprType.{ExprType}
use Rattle.c_language.specs.declared.expr_type.Layer.{Layer}
use Rattle.c_language.specs.declared.expr_type.Layer.TheVariants.{Pointer, Array}
use Rattle.dep_model.specs.Locations.{Located, below, type_with, parts_with, member_parts, struct_parts}
use Rattle.dep_model.specs.LocationLists.{are_layers_before, is_before, AreStructsInOrder}
use Rattle.dep_model.specs.LocationObjects.{all_structs, placed_under, inner_parts, waiting_locations, waiting}
use Rattle.dep_model.specs.declared.location.Location.{Location}
use Rattle.dep_model.specs.declared.location.Part.{Part}
use Rattle.dep_model.specs.declared.location.Part.TheVariants as part
use Rattle.dep_model.specs.declared.location.Root.{Root}
use Rattle.dep_model.specs.declared.locations.parts.Waiting.{Waiting}
use Rattle.dep_model.proofs.Membership.{IsIn, contains_of_in}

-- ---- struct types

module _ (f g : ℕ → List Located) (n : ℕ) (same : (s : ℕ) → s < n → f s ≡ g s) where
  pub parts_agree : (ls : List Layer) (b : Base) → are_layers_before n ls b ≡ true → parts_with f ls b ≡ parts_with g ls b
  parts_agree [] (base.Struct s) h = ap (λ (os : List Located). record { path = []; type = type_with [] (base.Struct s) } ∷ os) (same s (ltb-true s n h))
  parts_agree [] (base.Integer t) h = refl
  parts_agree [] base.Void h = refl
  parts_agree (Pointer ∷ ls) b h = refl
  parts_agree (Array k ∷ ls) b h =
      ap (λ (os : List Located). record { path = []; type = type_with (Array k ∷ ls) b } ∷ map (below part.Element) os) (parts_agree ls b h)

  pub members_agree : (k : ℕ) (ms : List Member) → ((m : Member) → IsIn ms m → is_before n (shape_of m.shape) ≡ true) → member_parts f k ms ≡ member_parts g k ms
  members_agree k [] all = refl
  members_agree k (m ∷ ms) all =
      let first = parts_agree (shape_of m.shape).layers (shape_of m.shape).base (all m (inl refl)) in
      ap₂ (λ (os more : List Located). map (below (part.Member k)) os ++ more) first (members_agree (suc k) ms (λ x i. all x (inr i)))

pub struct_stable : (p : Program) → AreStructsInOrder p → (k n m s : ℕ) → s < k → k ≤ n → k ≤ m → struct_parts p n s ≡ struct_parts p m s
struct_stable p h zero n m s a b c = absurd (omega (arith, a))
struct_stable p h (suc k) zero m s a b c = absurd (omega (arith, b))
struct_stable p h (suc k) (suc n) zero s a b c = absurd (omega (arith, c))
struct_stable p h (suc k) (suc n) (suc m) s a b c =
    members_agree (struct_parts p n) (struct_parts p m) s
    (λ t low. struct_stable p h k n m t (omega (arith, a, low)) (omega (arith, b)) (omega (arith, c)))
    0 (members_of p s) (λ x i. h s x (contains_of_in (members_of p s) x i))

pub members_past : (p : Program) (s : ℕ) → length p.structs ≤ s → members_of p s ≡ []
members_past p s h = ap (λ (d : Option StructDef). option_map_or (λ (d : StructDef). d.members) d []) (slice_get_past p.structs s h)

unrolled_at : (p : Program) → AreStructsInOrder p → (n s : ℕ) → length p.structs ≡ n → struct_parts p n s ≡ member_parts (struct_parts p n) 0 (members_of p s)
unrolled_at p h zero s e = sym (ap (member_parts (struct_parts p zero) 0) (members_past p s (omega (arith, e))))
unrolled_at p h (suc n) s e =
    elim (cases_lt s (suc n)) [
      | inl low ↦
          members_agree (struct_parts p n) (struct_parts p (suc n)) s
          (λ t under. struct_stable p h s n (suc n) t under (omega (arith, low)) (omega (arith, low)))
          0 (members_of p s) (λ x i. h s x (contains_of_in (members_of p s) x i))
      | inr high ↦
          let none = members_past p s (omega (arith, e, high)) in
          ap (member_parts (struct_parts p n) 0) none ∙ sym (ap (member_parts (struct_parts p (suc n)) 0) none)
    ]

-- the parts of a struct type are those of its members
pub struct_unrolled : (p : Program) → AreStructsInOrder p → (s : ℕ) → all_structs p s ≡ member_parts (all_structs p) 0 (members_of p s)
struct_unrolled p h s = unrolled_at p h (length p.structs) s refl

-- ---- an object is listed before its parts

abbrev pub at_path : Root → List Part → Location
at_path r path = record { root = r; path = path }

pub parts_unrolled : (p : Program) (ls : List Layer) (b : Base) → parts_with (all_structs p) ls b ≡ record { path = []; type = type_with ls b } ∷ inner_parts p ls b
parts_unrolled p [] b = refl
parts_unrolled p (Pointer ∷ ls) b = refl
parts_unrolled p (Array n ∷ ls) b = refl

pub under_nothing : (r : Root) (path : List Part) (p : Program) (ls : List Layer) (b : Base)
    → map (placed_under r path) (parts_with (all_structs p) ls b) ≡ at_path r path ∷ map (placed_under r path) (inner_parts p ls b)
under_nothing r path p ls b =
    ap (map (placed_under r path)) (parts_unrolled p ls b)
    ∙ ap (λ (h : List Part). at_path r h ∷ map (placed_under r path) (inner_parts p ls b)) (append-nil path)

pub placed_below : (r : Root) (path : List Part) (h : Part) (os : List Located) → map (placed_under r (path ++ h ∷ [])) os ≡ map (placed_under r path) (map (below h) os)
placed_below r path h [] = refl
placed_below r path h (o ∷ os) =
    ap₂ (λ (way : List Part) (more : List Location). at_path r way ∷ more) (append_assoc path (h ∷ []) o.path) (placed_below r path h os)

pub waiting_push : (p : Program) (r : Root) (ws : List Waiting) (w : Waiting) → waiting p r (ws ++ w ∷ []) ≡ waiting_locations p r w ++ waiting p r ws
waiting_push p r [] w = sym (append-nil (waiting_locations p r w))
waiting_push p r (v ∷ ws) w =
    ap (λ (ls : List Location). ls ++ waiting_locations p r v) (waiting_push p r ws w) ∙ append_assoc (waiting_locations p r w) (waiting p r ws) (waiting_locations p r v)

-- the elements of an array, behind what waits already
pub element_waits : (p : Program) (r : Root) (path : List Part) (ls : List Layer) (b : Base) (ws : List Waiting) → is_array_in ls ≡ true
    → waiting p r (ws ++ record { path = path ++ part.Element ∷ []; shape = type_with (remove ls 0) b } ∷ []) ≡ map (placed_under r path) (inner_parts p ls b) ++ waiting p r ws
element_waits p r path [] b ws h = absurd (false≢true h)
element_waits p r path (Pointer ∷ ls) b ws h = absurd (false≢true h)
element_waits p r path (Array n ∷ ls) b ws h =
    waiting_push p r ws (record { path = path ++ part.Element ∷ []; shape = type_with ls b })
    ∙ ap (λ (l : List Location). l ++ waiting p r ws) (placed_below r path part.Element (parts_with (all_structs p) ls b))

-- one member more waits, before those behind it
pub member_waits : (p : Program) (r : Root) (path : List Part) (ms : List Member) (k n : ℕ) (m : Member) (ws old : List Waiting)
    → k + 1 ≡ n → n ≤ length ms → m ≡ get_or ms k m
    → waiting p r ws ≡ map (placed_under r path) (member_parts (all_structs p) n (drop n ms)) ++ waiting p r old
    → waiting p r (ws ++ record { path = path ++ part.Member k ∷ []; shape = shape_of m.shape } ∷ []) ≡ map (placed_under r path) (member_parts (all_structs p) k (drop k ms)) ++ waiting p r old
member_waits p r path ms k n m ws old e within is h =
    let here : drop k ms ≡ m ∷ drop (suc k) ms = drop-cons ms k m (omega (arith, e, within)) ∙ ap (λ (x : Member). x ∷ drop (suc k) ms) (sym is) in
    let t = shape_of m.shape in
    let rest = member_parts (all_structs p) (suc k) (drop (suc k) ms) in
    let next : n ≡ suc k = omega (arith, e) in
    waiting_push p r ws (record { path = path ++ part.Member k ∷ []; shape = t })
    ∙ ap₂ (λ (l more : List Location). l ++ more) (placed_below r path (part.Member k) (parts_with (all_structs p) t.layers t.base))
    (h ∙ ap (λ (i : ℕ). map (placed_under r path) (member_parts (all_structs p) i (drop i ms)) ++ waiting p r old) next)
    ∙ sym (append_assoc (map (placed_under r path) (map (below (part.Member k)) (parts_with (all_structs p) t.layers t.base))) (map (placed_under r path) rest) (waiting p r old))
    ∙ ap (λ (l : List Location). l ++ waiting p r old)
    (sym (map-append (placed_under r path) (map (below (part.Member k)) (parts_with (all_structs p) t.layers t.base)) rest)
    ∙ ap (λ (xs : List Member). map (placed_under r path) (member_parts (all_structs p) k xs)) (sym here))

-- ---- there are at least as many parts as members, and as many locations as parts of one object

pub at_least_one : (f : ℕ → List Located) (ls : List Layer) (b : Base) → 1 ≤ length (parts_with f ls b)
at_least_one f [] b = omega arith
at_least_one f (Pointer ∷ ls) b = omega arith
at_least_one f (Array n ∷ ls) b = omega arith

pub members_fewer : (f : ℕ → List Located) (k : ℕ) (ms : List Member) → length ms ≤ length (member_parts f k ms)
members_fewer f k [] = omega arith
members_fewer f k (m ∷ ms) =
    let some = at_least_one f (shape_of m.shape).layers (shape_of m.shape).base in
    let l = length-append (map (below (part.Member k)) (parts_with f (shape_of m.shape).layers (shape_of m.shape).base)) (member_parts f (suc k) ms) in
    let n = length-map (parts_with f (shape_of m.shape).layers (shape_of m.shape).base) (below (part.Member k)) in
    let more = members_fewer f (suc k) ms in
    omega (arith, some, l, n, more)

-- ---- steps of the code

pub element_step : (p : Program) (r : Root) (of : Waiting) (path : List Part) (ls : List Layer) (ws new : List Waiting) → is_array_in of.shape.layers ≡ true
    → path ≡ of.path ++ part.Element ∷ [] → ls ≡ remove of.shape.layers 0 → new ≡ ws ++ record { path = path; shape = type_with ls of.shape.base } ∷ []
    → waiting p r new ≡ map (placed_under r of.path) (inner_parts p of.shape.layers of.shape.base) ++ waiting p r ws
element_step p r of path ls ws new h way rest q =
    ap (waiting p r) (q ∙ ap₂ (λ (k : List Part) (l : List Layer). ws ++ record { path = k; shape = type_with l of.shape.base } ∷ []) way rest)
    ∙ element_waits p r of.path of.shape.layers of.shape.base ws h

pub member_step : (p : Program) (r : Root) (path inner way : List Part) (ms : List Member) (k n : ℕ) (m : Member) (t : ExprType) (ws new old : List Waiting)
    → k + 1 ≡ n → n ≤ length ms → m ≡ get_or ms k m → inner ≡ path → way ≡ inner ++ part.Member k ∷ [] → t ≡ shape_of m.shape
    → waiting p r ws ≡ map (placed_under r path) (member_parts (all_structs p) n (drop n ms)) ++ waiting p r old → new ≡ ws ++ record { path = way; shape = t } ∷ []
    → waiting p r new ≡ map (placed_under r path) (member_parts (all_structs p) k (drop k ms)) ++ waiting p r old
member_step p r path inner way ms k n m t ws new old e within is own step type h q =
    ap (waiting p r) (q ∙ ap₂ (λ (w : List Part) (x : ExprType). ws ++ record { path = w; shape = x } ∷ []) (step ∙ ap (λ (w : List Part). w ++ part.Member k ∷ []) own) type)
    ∙ member_waits p r path ms k n m ws old e within is h

none_first : (ls : List Layer) → slice_get ls 0 ≡ None → ls ≡ []
none_first [] e = refl
none_first (l ∷ ls) e = cc

-- the parts of a struct are those of its members
pub struct_inner : (p : Program) → AreStructsInOrder p → (t : ExprType) (s : ℕ) (ms : List Member) → slice_get t.layers 0 ≡ None → t.base ≡ base.Struct s → ms ≡ members_of p s
    → inner_parts p t.layers t.base ≡ member_parts (all_structs p) 0 ms
struct_inner p ordered t s ms none is own =
    ap₂ (inner_parts p) (none_first t.layers none) is ∙ struct_unrolled p ordered s ∙ ap (member_parts (all_structs p) 0) (sym own)

pub members_few : (p : Program) → AreStructsInOrder p → (t : ExprType) (s n : ℕ) (ms : List Member) → slice_get t.layers 0 ≡ None → t.base ≡ base.Struct s → ms ≡ members_of p s
    → length (inner_parts p t.layers t.base) ≤ n → length ms ≤ n
members_few p ordered t s n ms none is own h =
    let same = ap (λ (os : List Located). length os) (struct_inner p ordered t s ms none is own) in
    omega (arith, same, h, members_fewer (all_structs p) 0 ms)

-- what waits on top is the next location, and then its parts
pub next_waits : (p : Program) (r : Root) (all rest : List Waiting) (next : Waiting) → all ≡ rest ++ next ∷ []
    → waiting p r all ≡ at_path r next.path ∷ (map (placed_under r next.path) (inner_parts p next.shape.layers next.shape.base) ++ waiting p r rest)
next_waits p r all rest next e =
    ap (waiting p r) e ∙ waiting_push p r rest next ∙ ap (λ (ls : List Location). ls ++ waiting p r rest) (under_nothing r next.path p next.shape.layers next.shape.base)

-- one turn of the list: what is left, and how much it is
pub record IsTurn (p : Program) (r : Root) (all : List Waiting) (next : Waiting) (new : List Waiting) (old list total : List Location) : Type 0 where
  pub is : list ++ waiting p r new ≡ total
  pub fewer : length (waiting p r new) < length (waiting p r all)

pub list_turn : (p : Program) (r : Root) (all rest new : List Waiting) (next : Waiting) (old list total : List Location) (path way : List Part) → all ≡ rest ++ next ∷ []
    → path ≡ way → way ≡ next.path → list ≡ old ++ at_path r path ∷ []
    → waiting p r new ≡ map (placed_under r next.path) (inner_parts p next.shape.layers next.shape.base) ++ waiting p r rest
    → old ++ waiting p r all ≡ total → IsTurn p r all next new old list total
list_turn p r all rest new next old list total path way e same own q parts h =
    let front = next_waits p r all rest next e ∙ ap (λ (ls : List Location). at_path r next.path ∷ ls) (sym parts) in
    record {
      is = ap (λ (ls : List Location). ls ++ waiting p r new) (q ∙ ap (λ (w : List Part). old ++ at_path r w ∷ []) (same ∙ own))
          ∙ append_assoc old (at_path r next.path ∷ []) (waiting p r new) ∙ ap (λ (ls : List Location). old ++ ls) (sym front) ∙ h;
      fewer = let l = ap (λ (ls : List Location). length ls) front in omega (arith, l);
    }

pub inner_few : (p : Program) (r : Root) (all rest : List Waiting) (next : Waiting) (n : ℕ) → all ≡ rest ++ next ∷ [] → length (waiting p r all) ≤ n
    → length (inner_parts p next.shape.layers next.shape.base) ≤ n
inner_few p r all rest next n e h =
    let own = inner_parts p next.shape.layers next.shape.base in
    let front = ap (λ (ls : List Location). length ls) (next_waits p r all rest next e) in
    let l = length-append (map (placed_under r next.path) own) (waiting p r rest) in
    let m = length-map own (placed_under r next.path) in
    omega (arith, h, front, l, m)
