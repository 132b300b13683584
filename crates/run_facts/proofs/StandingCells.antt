-- The cells of a part of an object stand among those of the whole, one after another.
use Rattle.std.proofs.Common.{◌≡◌, ℕ, zero, suc, ◌+◌, ◌*◌, ◌<◌, ◌≤◌, List, [], ◌∷◌, ◌++◌, length, Some, true, inl, inr, refl, sym, ap, ap₂, ◌∙◌, subst, arith, length-append, append_assoc, append-nil}
use Rattle.std.proofs.Math.Nat.{suc-mul}
use Rattle.std.proofs.lemmas.Bool.Decides.{nat_tests}
use Rattle.std.specs.List.{repeat}
use Rattle.std.specs.Prelude.{option_map, option_and_then, slice_get, slice_index_or, nat_lt}
use Rattle.c_language.proofs.Options.{none_there, some_same, map_there, then_there}
use Rattle.c_language.proofs.Tests.{by_test}
use Rattle.c_language.specs.declared.expr_type.Base.{Base}
use Rattle.c_language.specs.declared.expr_type.Base.TheVariants as base
use Rattle.c_language.specs.declared.expr_type.Layer.{Layer}
use Rattle.c_language.specs.declared.expr_type.Layer.TheVariants.{Pointer, Array}
use Rattle.c_language.specs.declared.expr_type.ExprType.{ExprType}
use Rattle.c_language.specs.ExprTypes.{struct_in}
use Rattle.c_meaning.specs.declared.value.Hop.{Hop}
use Rattle.c_meaning.specs.declared.value.Hop.TheVariants as hop
use Rattle.c_meaning.specs.Cells.{Structs, layered_cells, member_cells, cells_behind, cells, cell_count, Subobject, behind, element_in, member_in, part, subobject}
use Rattle.dep_model.specs.LocationLists.{are_layers_before, is_before}
use Rattle.dep_model.proofs.Membership.{IsIn}

-- ---- a list in a list

-- behind so many items of a list stand those of another
pub record Stands {A : Type 0} (whole inner : List A) (n : ℕ) : Type 0 where
  pub front : List A
  pub back : List A
  pub whole_is : whole ≡ front ++ (inner ++ back)
  pub before : length front ≡ n

pub stands_itself : {A : Type 0} (xs : List A) → Stands xs xs 0
stands_itself xs = record { front = []; back = []; whole_is = sym (append-nil xs); before = refl }

stands_first : {A : Type 0} (xs more : List A) → Stands (xs ++ more) xs 0
stands_first xs more = record { front = []; back = more; whole_is = refl; before = refl }

stands_later : {A : Type 0} (more xs ys : List A) (n : ℕ) → Stands xs ys n → Stands (more ++ xs) ys (length more + n)
stands_later more xs ys n h = record {
  front = more ++ h.front;
  back = h.back;
  whole_is = ap (λ zs. more ++ zs) h.whole_is ∙ sym (append_assoc more h.front (ys ++ h.back));
  before = length-append more h.front ∙ ap (λ k. length more + k) h.before;
}

pub stands_on : {A : Type 0} (xs ys zs : List A) (m n : ℕ) → Stands xs ys m → Stands ys zs n → Stands xs zs (m + n)
stands_on xs ys zs m n h k = record {
  front = h.front ++ k.front;
  back = k.back ++ h.back;
  whole_is =
      h.whole_is
      ∙ (ap (λ us. h.front ++ (us ++ h.back)) k.whole_is
      ∙ (ap (λ us. h.front ++ us) (append_assoc k.front (zs ++ k.back) h.back ∙ ap (λ us. k.front ++ us) (append_assoc zs k.back h.back))
      ∙ sym (append_assoc h.front k.front (zs ++ (k.back ++ h.back)))));
  before = length-append h.front k.front ∙ ap₂ (λ i j. i + j) h.before k.before;
}

get_first : {A : Type 0} (xs more : List A) (k : ℕ) (x : A) → slice_get xs k ≡ Some x → slice_get (xs ++ more) k ≡ Some x
get_first [] more k x e = none_there e
get_first (y ∷ xs) more zero x e = e
get_first (y ∷ xs) more (suc k) x e = get_first xs more k x e

get_later : {A : Type 0} (front xs : List A) (k : ℕ) → slice_get (front ++ xs) (length front + k) ≡ slice_get xs k
get_later [] xs k = let none : 0 + k ≡ k = omega arith in ap (slice_get xs) none
get_later (y ∷ front) xs k =
    let one : suc (length front) + k ≡ suc (length front + k) = omega arith in
    ap (slice_get (y ∷ (front ++ xs))) one ∙ get_later front xs k

-- the items of the inner list are items of the whole
pub stands_get : {A : Type 0} (xs ys : List A) (n k : ℕ) (y : A) → Stands xs ys n → slice_get ys k ≡ Some y → slice_get xs (n + k) ≡ Some y
stands_get xs ys n k y h e =
    ap (λ us. slice_get us (n + k)) h.whole_is
    ∙ (ap (λ i. slice_get (h.front ++ (ys ++ h.back)) (i + k)) (sym h.before) ∙ (get_later h.front (ys ++ h.back) k ∙ get_first ys h.back k y e))

pub stands_within : {A : Type 0} (xs ys : List A) (n : ℕ) → Stands xs ys n → n + length ys ≤ length xs
stands_within xs ys n h =
    let whole = ap length h.whole_is in
    let outer = length-append h.front (ys ++ h.back) in
    let inner = length-append ys h.back in
    omega (arith, whole, outer, inner, h.before)

stands_repeated : {A : Type 0} (xs : List A) (i n : ℕ) → i < n → Stands (repeat n xs) xs (i * length xs)
stands_repeated xs i zero low = absurd (omega (arith, low))
stands_repeated xs zero (suc n) low = let none : 0 ≡ 0 * length xs = omega arith in subst (Stands (xs ++ repeat n xs) xs) none (stands_first xs (repeat n xs))
stands_repeated xs (suc i) (suc n) low =
    let e = suc-mul i (length xs) in
    let same : length xs + i * length xs ≡ suc i * length xs = omega (arith, e) in
    subst (Stands (xs ++ repeat n xs) xs) same (stands_later xs (repeat n xs) xs (i * length xs) (stands_repeated xs i n (omega (arith, low))))

-- ---- two numbers

pub data Order (i j : ℕ) : Type 0 where
  lower : i < j → Order i j
  equal : i ≡ j → Order i j
  higher : j < i → Order i j

pub order_of : (i j : ℕ) → Order i j
order_of zero zero = equal refl
order_of zero (suc j) = lower (omega arith)
order_of (suc i) zero = higher (omega arith)
order_of (suc i) (suc j) =
    elim (order_of i j) [ lower h ↦ lower (omega (arith, h)) | equal h ↦ equal (ap suc h) | higher h ↦ higher (omega (arith, h)) ]

-- ---- struct types

-- the first so many struct types have the same cells by both
abbrev AgreeBelow : ℕ → List (List ExprType) → List (List ExprType) → Type 0
AgreeBelow n a b = (s : ℕ) → s < n → slice_index_or a s [] ≡ slice_index_or b s []

low_of : (i n : ℕ) → nat_lt i n ≡ true → i < n
low_of i n h = grind (arith, nat_tests, h)

layered_same : (n : ℕ) (a b : List (List ExprType)) → AgreeBelow n a b → (ls : List Layer) (k : Base) → are_layers_before n ls k ≡ true → layered_cells a ls k ≡ layered_cells b ls k
layered_same n a b same [] (base.Integer t) h = refl
layered_same n a b same [] (base.Struct s) h = same s (low_of s n h)
layered_same n a b same [] base.Void h = refl
layered_same n a b same (Pointer ∷ ls) k h = refl
layered_same n a b same (Array i ∷ ls) k h = ap (repeat i) (layered_same n a b same ls k h)

-- each member has a struct type of the first so many in it, or none
abbrev pub AreBefore : ℕ → List ExprType → Type 0
AreBefore n ts = (t : ExprType) → IsIn ts t → is_before n t ≡ true

members_same : (n : ℕ) (a b : List (List ExprType)) → AgreeBelow n a b → (ts : List ExprType) → AreBefore n ts → member_cells a ts ≡ member_cells b ts
members_same n a b same [] h = refl
members_same n a b same (t ∷ ts) h =
    ap₂ (λ xs ys. xs ++ ys) (layered_same n a b same t.layers t.base (h t (inl refl))) (members_same n a b same ts (λ u i. h u (inr i)))

front_same : (a : List (List ExprType)) (x : List ExprType) (s : ℕ) → s < length a → slice_index_or (a ++ x ∷ []) s [] ≡ slice_index_or a s []
front_same [] x s low = absurd (omega (arith, low))
front_same (y ∷ a) x zero low = refl
front_same (y ∷ a) x (suc s) low = front_same a x s (omega (arith, low))

last_is : (a : List (List ExprType)) (x : List ExprType) → slice_index_or (a ++ x ∷ []) (length a) [] ≡ x
last_is [] x = refl
last_is (y ∷ a) x = last_is a x

none_past : (a : List (List ExprType)) (s : ℕ) → slice_index_or a (length a + s) [] ≡ []
none_past [] s = refl
none_past (y ∷ a) s =
    let one : suc (length a) + s ≡ suc (length a + s) = omega arith in ap (λ k. slice_index_or (y ∷ a) k []) one ∙ none_past a s

longer : (a : List (List ExprType)) (x : List ExprType) → length (a ++ x ∷ []) ≡ suc (length a)
longer a x = length-append a (x ∷ []) ∙ omega arith

-- the struct types before stay as they are
known_stay : (rest : Structs) (a : List (List ExprType)) (s : ℕ) → s < length a → slice_index_or (cells_behind a rest) s [] ≡ slice_index_or a s []
known_stay [] a s low = refl
known_stay (ts ∷ rest) a s low =
    let x = member_cells a ts in
    known_stay rest (a ++ x ∷ []) s (let e = longer a x in omega (arith, e, low)) ∙ front_same a x s low

abbrev pub AreOrdered : ℕ → Structs → Type 0
AreOrdered n rest = (k : ℕ) → AreBefore (n + k) (slice_index_or rest k [])

known_is : (rest : Structs) (a : List (List ExprType)) → AreOrdered (length a) rest → (k : ℕ) → slice_index_or (cells_behind a rest) (length a + k) [] ≡ member_cells (cells_behind a rest) (slice_index_or rest k [])
known_is [] a order k = none_past a k
known_is (ts ∷ rest) a order zero =
    let x = member_cells a ts in
    let none : length a + 0 ≡ length a = omega arith in
    ap (λ n. slice_index_or (cells_behind (a ++ x ∷ []) rest) n []) none
    ∙ (known_stay rest (a ++ x ∷ []) (length a) (let e = longer a x in omega (arith, e))
    ∙ (last_is a x
    ∙ members_same (length a) a (cells_behind a (ts ∷ rest)) (λ s low. sym (known_stay (ts ∷ rest) a s low)) ts (subst (λ n. AreBefore n ts) none (order zero))))
known_is (ts ∷ rest) a order (suc k) =
    let x = member_cells a ts in
    let e = longer a x in
    let next : length a + suc k ≡ length (a ++ x ∷ []) + k = omega (arith, e) in
    ap (λ n. slice_index_or (cells_behind (a ++ x ∷ []) rest) n []) next ∙ known_is rest (a ++ x ∷ []) later k
  where
    later : AreOrdered (length (a ++ member_cells a ts ∷ [])) rest
    later j =
        let e = longer a (member_cells a ts) in
        let next : length a + suc j ≡ length (a ++ member_cells a ts ∷ []) + j = omega (arith, e) in
        subst (λ n. AreBefore n (slice_index_or rest j [])) next (order (suc j))

-- ---- parts

module _ (structs : Structs) (order : AreOrdered 0 structs) where
  abbrev known : List (List ExprType)
  known = cells_behind [] structs

  -- a struct has the cells of its members
  struct_is : (s : ℕ) → slice_index_or known s [] ≡ member_cells known (slice_index_or structs s [])
  struct_is s = let none : 0 + s ≡ s = omega arith in ap (λ n. slice_index_or known n []) (sym none) ∙ known_is structs [] order s

  member_stands : (ts : List ExprType) (i : ℕ) (o : Subobject) → member_in structs i ts ≡ Some o → Stands (member_cells known ts) (cells structs o.type) o.before
  member_stands [] i o e = none_there e
  member_stands (t ∷ ts) zero o e =
      subst (λ (u : Subobject). Stands (member_cells known (t ∷ ts)) (cells structs u.type) u.before) (some_same e) (stands_first (cells structs t) (member_cells known ts))
  member_stands (t ∷ ts) (suc i) o e =
      let m = map_there (behind (cell_count structs t)) (member_in structs i ts) o e in
      subst (λ (u : Subobject). Stands (member_cells known (t ∷ ts)) (cells structs u.type) u.before) m.same
      (stands_later (cells structs t) (member_cells known ts) (cells structs m.value.type) m.value.before (member_stands ts i m.value m.there))

  selected_stands : (i : ℕ) (ls : List Layer) (b : Base) (o : Subobject) → option_and_then (λ (s : ℕ). member_in structs i (slice_index_or structs s [])) (struct_in ls b) ≡ Some o → Stands (layered_cells known ls b) (cells structs o.type) o.before
  selected_stands i [] (base.Integer t) o e = none_there e
  selected_stands i [] base.Void o e = none_there e
  selected_stands i (l ∷ ls) b o e = none_there e
  selected_stands i [] (base.Struct s) o e =
      subst (λ xs. Stands xs (cells structs o.type) o.before) (sym (struct_is s)) (member_stands (slice_index_or structs s []) i o e)

  element_stands : (i : ℕ) (ls : List Layer) (b : Base) (o : Subobject) → element_in structs i ls b ≡ Some o → Stands (layered_cells known ls b) (cells structs o.type) o.before
  element_stands i [] b o e = none_there e
  element_stands i (Pointer ∷ ls) b o e = none_there e
  element_stands i (Array n ∷ ls) b o e =
      by_test (nat_lt i n) e
      (λ low is. subst (λ (u : Subobject). Stands (repeat n (layered_cells known ls b)) (cells structs u.type) u.before) (some_same is) (stands_repeated (layered_cells known ls b) i n (low_of i n low)))
      (λ high none. none_there none)

  -- the cells of a part stand in those of the whole
  part_stands : (h : Hop) (t : ExprType) (o : Subobject) → part structs h t ≡ Some o → Stands (cells structs t) (cells structs o.type) o.before
  part_stands (hop.Member i) t o e = selected_stands i t.layers t.base o e
  part_stands (hop.Element i) t o e = element_stands i t.layers t.base o e

  pub path_stands : (path : List Hop) (t : ExprType) (o : Subobject) → subobject structs path t ≡ Some o → Stands (cells structs t) (cells structs o.type) o.before
  path_stands [] t o e =
      subst (λ (u : Subobject). Stands (cells structs t) (cells structs u.type) u.before) (some_same e) (stands_itself (cells structs t))
  path_stands (h ∷ path) t o e =
      let m = then_there (λ (u : Subobject). option_map (behind u.before) (subobject structs path u.type)) (part structs h t) o e in
      let k = map_there (behind m.value.before) (subobject structs path m.value.type) o m.same in
      subst (λ (u : Subobject). Stands (cells structs t) (cells structs u.type) u.before) k.same
      (stands_on (cells structs t) (cells structs m.value.type) (cells structs k.value.type) m.value.before k.value.before (part_stands h t m.value m.there) (path_stands path m.value.type k.value k.there))
