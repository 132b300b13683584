-- Each cell has one path: different parts of an object have no cell in common.
use Rattle.std.proofs.Common.{◌≡◌, ℕ, zero, suc, ◌+◌, ◌*◌, ◌<◌, ◌≤◌, List, [], ◌∷◌, length, Some, None, Bool, true, false, ◌⊎◌, inl, inr, refl, sym, ap, ap₂, ◌∙◌, subst, arith}
use Rattle.std.proofs.Math.Nat.{suc-mul, mul-le-mul}
use Rattle.std.proofs.lemmas.Bool.{false≢true}
use Rattle.std.specs.Prelude.{option_map, option_and_then, slice_get, slice_index_or, nat_lt, if◌then◌else◌}
use Rattle.c_language.proofs.Options.{none_there, some_same, map_there, then_there}
use Rattle.c_language.proofs.Tests.{by_test}
use Rattle.c_language.specs.declared.expr_type.Base.{Base}
use Rattle.c_language.specs.declared.expr_type.Base.TheVariants as base
use Rattle.c_language.specs.declared.expr_type.Layer.{Layer}
use Rattle.c_language.specs.declared.expr_type.Layer.TheVariants.{Pointer, Array}
use Rattle.c_language.specs.declared.expr_type.ExprType.{ExprType}
use Rattle.c_language.specs.ExprTypes.{is_scalar}
use Rattle.c_meaning.specs.declared.value.Hop.{Hop}
use Rattle.c_meaning.specs.declared.value.Hop.TheVariants as hop
use Rattle.c_meaning.specs.Cells.{Structs, layered_cells, cells_behind, cells, cell_count, Subobject, behind, member_in, part, subobject, scalar_number, cell_number}
use Rattle.run_facts.proofs.StandingCells.{stands_get, stands_within, lower, equal, higher, order_of, AreOrdered, path_stands}

-- ---- integers and pointers

abbrev of_layers : List Layer → Base → ExprType
of_layers ls b = record { layers = ls; base = b }

scalar_in : (known : List (List ExprType)) (ls : List Layer) (b : Base) → is_scalar (of_layers ls b) ≡ true → layered_cells known ls b ≡ of_layers ls b ∷ []
scalar_in known [] (base.Integer t) h = refl
scalar_in known [] (base.Struct s) h = absurd (false≢true h)
scalar_in known [] base.Void h = absurd (false≢true h)
scalar_in known (Pointer ∷ ls) b h = refl
scalar_in known (Array n ∷ ls) b h = absurd (false≢true h)

no_part_in : {A : Type 0} (structs : Structs) (h : Hop) (ls : List Layer) (b : Base) (o : Subobject) → is_scalar (of_layers ls b) ≡ true → part structs h (of_layers ls b) ≡ Some o → A
no_part_in structs (hop.Member i) [] (base.Integer t) o is e = none_there e
no_part_in structs (hop.Member i) [] (base.Struct s) o is e = absurd (false≢true is)
no_part_in structs (hop.Member i) [] base.Void o is e = absurd (false≢true is)
no_part_in structs (hop.Member i) (l ∷ ls) b o is e = none_there e
no_part_in structs (hop.Element i) [] b o is e = none_there e
no_part_in structs (hop.Element i) (Pointer ∷ ls) b o is e = none_there e
no_part_in structs (hop.Element i) (Array n ∷ ls) b o is e = absurd (false≢true is)

-- the object at the end of a path to a cell, with the cell's number
pub record IsCellAt (structs : Structs) (path : List Hop) (t : ExprType) (n : ℕ) : Type 0 where
  pub object : Subobject
  pub object_is : subobject structs path t ≡ Some object
  pub scalar : is_scalar object.type ≡ true
  pub number_is : object.before ≡ n

pub cell_at : (structs : Structs) (path : List Hop) (t : ExprType) (n : ℕ) → cell_number structs path t ≡ Some n → IsCellAt structs path t n
cell_at structs path t n e =
    let m = then_there scalar_number (subobject structs path t) n e in
    by_test (is_scalar m.value.type) m.same
    (λ is k. record { object = m.value; object_is = m.there; scalar = is; number_is = some_same k })
    (λ isnt k. none_there k)

-- a path to a cell that begins with a step: the part to which it leads, and the cell's number in that
pub record IsStep (structs : Structs) (h : Hop) (path : List Hop) (t : ExprType) (n : ℕ) : Type 0 where
  pub object : Subobject
  pub object_is : part structs h t ≡ Some object
  pub number : ℕ
  pub number_is : cell_number structs path object.type ≡ Some number
  pub sum_is : object.before + number ≡ n

pub step_at : (structs : Structs) (h : Hop) (path : List Hop) (t : ExprType) (n : ℕ) → cell_number structs (h ∷ path) t ≡ Some n → IsStep structs h path t n
step_at structs h path t n e =
    let c = cell_at structs (h ∷ path) t n e in
    let m = then_there (λ (u : Subobject). option_map (behind u.before) (subobject structs path u.type)) (part structs h t) c.object c.object_is in
    let k = map_there (behind m.value.before) (subobject structs path m.value.type) c.object m.same in
    let scalar : is_scalar k.value.type ≡ true = ap (λ (u : Subobject). is_scalar u.type) k.same ∙ c.scalar in
    record {
      object = m.value;
      object_is = m.there;
      number = k.value.before;
      number_is = ap (option_and_then scalar_number) k.there ∙ ap (λ (b : Bool). if b then Some k.value.before else None) scalar;
      sum_is = ap (λ (u : Subobject). u.before) k.same ∙ c.number_is;
    }

module _ (structs : Structs) (order : AreOrdered 0 structs) where
  -- the cell at the end of a path is of the type of what is there
  pub cell_typed : (path : List Hop) (t : ExprType) (n : ℕ) → (c : IsCellAt structs path t n) → slice_get (cells structs t) n ≡ Some c.object.type
  cell_typed path t n c =
      let one = scalar_in (cells_behind [] structs) c.object.type.layers c.object.type.base c.scalar in
      let there : slice_get (cells structs c.object.type) 0 ≡ Some c.object.type = ap (λ ts. slice_get ts 0) one in
      let none : c.object.before + 0 ≡ n = let e = c.number_is in omega (arith, e) in
      subst (λ k. slice_get (cells structs t) k ≡ Some c.object.type) none
      (stands_get (cells structs t) (cells structs c.object.type) c.object.before 0 c.object.type (path_stands structs order path t c.object c.object_is) there)

  number_below : (path : List Hop) (t : ExprType) (n : ℕ) → cell_number structs path t ≡ Some n → n < cell_count structs t
  number_below path t n e =
      let c = cell_at structs path t n e in
      let one = scalar_in (cells_behind [] structs) c.object.type.layers c.object.type.base c.scalar in
      let long : cell_count structs c.object.type ≡ 1 = ap length one in
      let inside = stands_within (cells structs t) (cells structs c.object.type) c.object.before (path_stands structs order path t c.object c.object_is) in
      let is = c.number_is in
      omega (arith, long, inside, is)

  -- ---- two parts

  -- one part has all its cells before the other
  abbrev AreApart : Subobject → Subobject → Type 0
  AreApart o u = (o.before + cell_count structs o.type ≤ u.before) ⊎ (u.before + cell_count structs u.type ≤ o.before)

  member_first : (ts : List ExprType) (o u : Subobject) (j : ℕ) (t : ExprType) → u.before ≡ cell_count structs t + j → o ≡ record { type = t; before = 0 } → o.before + cell_count structs o.type ≤ u.before
  member_first ts o u j t e is =
      let a = ap (λ (k : Subobject). k.before) is in
      let b = ap (λ (k : Subobject). cell_count structs k.type) is in
      omega (arith, e, a, b)

  members_apart : (ts : List ExprType) (i j : ℕ) (o u : Subobject) → i < j → member_in structs i ts ≡ Some o → member_in structs j ts ≡ Some u → o.before + cell_count structs o.type ≤ u.before
  members_apart [] i j o u low e k = none_there e
  members_apart (t ∷ ts) i zero o u low e k = absurd (omega (arith, low))
  members_apart (t ∷ ts) zero (suc j) o u low e k =
      let m = map_there (behind (cell_count structs t)) (member_in structs j ts) u k in
      member_first ts o u m.value.before t (sym (ap (λ (x : Subobject). x.before) m.same)) (sym (some_same e))
  members_apart (t ∷ ts) (suc i) (suc j) o u low e k =
      let a = map_there (behind (cell_count structs t)) (member_in structs i ts) o e in
      let b = map_there (behind (cell_count structs t)) (member_in structs j ts) u k in
      let apart = members_apart ts i j a.value b.value (omega (arith, low)) a.there b.there in
      let first = ap (λ (x : Subobject). x.before) a.same in
      let count = ap (λ (x : Subobject). cell_count structs x.type) a.same in
      let second = ap (λ (x : Subobject). x.before) b.same in
      omega (arith, apart, first, count, second)

  -- the element with an index
  element_is : (t : ExprType) (i : ℕ) (low : Bool) (o : Subobject) → (if low then Some (record { type = t; before = i * cell_count structs t }) else None) ≡ Some o → o ≡ record { type = t; before = i * cell_count structs t }
  element_is t i true o e = sym (some_same e)
  element_is t i false o e = none_there e

  elements_apart : (t : ExprType) (i j : ℕ) (o u : Subobject) → i < j → o ≡ record { type = t; before = i * cell_count structs t } → u ≡ record { type = t; before = j * cell_count structs t } → o.before + cell_count structs o.type ≤ u.before
  elements_apart t i j o u low e k =
      let c = cell_count structs t in
      let first = ap (λ (x : Subobject). x.before) e in
      let count = ap (λ (x : Subobject). cell_count structs x.type) e in
      let second = ap (λ (x : Subobject). x.before) k in
      let next = suc-mul i c in
      let least : suc i * c ≤ j * c = mul-le-mul (omega (arith, low)) (omega arith) in
      omega (arith, first, count, second, next, least)

  -- two steps lead to one part, or to two that are apart
  abbrev IsOneOrApart : Hop → Hop → Subobject → Subobject → Type 0
  IsOneOrApart h g o u = (h ≡ g) ⊎ AreApart o u

  two_members : (ts : List ExprType) (i j : ℕ) (o u : Subobject) → member_in structs i ts ≡ Some o → member_in structs j ts ≡ Some u → IsOneOrApart (hop.Member i) (hop.Member j) o u
  two_members ts i j o u e k =
      elim (order_of i j) [
        | lower low ↦ inr (inl (members_apart ts i j o u low e k))
        | equal is ↦ inl (ap hop.Member is)
        | higher high ↦ inr (inr (members_apart ts j i u o high k e))
      ]

  two_elements : (t : ExprType) (i j n : ℕ) (o u : Subobject) → (if nat_lt i n then Some (record { type = t; before = i * cell_count structs t }) else None) ≡ Some o → (if nat_lt j n then Some (record { type = t; before = j * cell_count structs t }) else None) ≡ Some u → IsOneOrApart (hop.Element i) (hop.Element j) o u
  two_elements t i j n o u e k =
      let a = element_is t i (nat_lt i n) o e in
      let b = element_is t j (nat_lt j n) u k in
      elim (order_of i j) [
        | lower low ↦ inr (inl (elements_apart t i j o u low a b))
        | equal is ↦ inl (ap hop.Element is)
        | higher high ↦ inr (inr (elements_apart t j i u o high b a))
      ]

  two_parts : (h g : Hop) (ls : List Layer) (b : Base) (o u : Subobject) → part structs h (of_layers ls b) ≡ Some o → part structs g (of_layers ls b) ≡ Some u → IsOneOrApart h g o u
  two_parts (hop.Member i) (hop.Member j) [] (base.Integer t) o u e k = none_there e
  two_parts (hop.Member i) (hop.Member j) [] (base.Struct s) o u e k = two_members (slice_index_or structs s []) i j o u e k
  two_parts (hop.Member i) (hop.Member j) [] base.Void o u e k = none_there e
  two_parts (hop.Member i) (hop.Member j) (l ∷ ls) b o u e k = none_there e
  two_parts (hop.Element i) (hop.Element j) [] b o u e k = none_there e
  two_parts (hop.Element i) (hop.Element j) (Pointer ∷ ls) b o u e k = none_there e
  two_parts (hop.Element i) (hop.Element j) (Array n ∷ ls) b o u e k = two_elements (of_layers ls b) i j n o u e k
  two_parts (hop.Member i) (hop.Element j) [] b o u e k = none_there k
  two_parts (hop.Member i) (hop.Element j) (l ∷ ls) b o u e k = none_there e
  two_parts (hop.Element i) (hop.Member j) [] b o u e k = none_there e
  two_parts (hop.Element i) (hop.Member j) (l ∷ ls) b o u e k = none_there k

  -- ---- two paths

  none_apart : {A : Type 0} (o u : Subobject) (i j n : ℕ) → AreApart o u → i < cell_count structs o.type → j < cell_count structs u.type → o.before + i ≡ n → u.before + j ≡ n → A
  none_apart o u i j n (inl h) a b e k = absurd (omega (arith, h, a, b, e, k))
  none_apart o u i j n (inr h) a b e k = absurd (omega (arith, h, a, b, e, k))

  -- two paths to cells of one type with the same number are one path
  pub one_path : (a b : List Hop) (t : ExprType) (n : ℕ) → cell_number structs a t ≡ Some n → cell_number structs b t ≡ Some n → a ≡ b
  one_path [] [] t n e k = refl
  one_path [] (g ∷ b) t n e k =
      let c = cell_at structs [] t n e in
      let s = step_at structs g b t n k in
      no_part_in structs g t.layers t.base s.object (ap (λ (o : Subobject). is_scalar o.type) (some_same c.object_is) ∙ c.scalar) s.object_is
  one_path (h ∷ a) [] t n e k =
      let c = cell_at structs [] t n k in
      let s = step_at structs h a t n e in
      no_part_in structs h t.layers t.base s.object (ap (λ (o : Subobject). is_scalar o.type) (some_same c.object_is) ∙ c.scalar) s.object_is
  one_path (h ∷ a) (g ∷ b) t n e k =
      let x = step_at structs h a t n e in
      let y = step_at structs g b t n k in
      elim (two_parts h g t.layers t.base x.object y.object x.object_is y.object_is) [
        | inl is ↦
            let object : x.object ≡ y.object = some_same (sym x.object_is ∙ (ap (λ z. part structs z t) is ∙ y.object_is)) in
            let before = ap (λ (o : Subobject). o.before) object in
            let sums = x.sum_is ∙ sym y.sum_is in
            let number : x.number ≡ y.number = omega (arith, before, sums) in
            let first : cell_number structs a y.object.type ≡ Some y.number = subst (λ i. cell_number structs a y.object.type ≡ Some i) number (subst (λ (o : Subobject). cell_number structs a o.type ≡ Some x.number) object x.number_is) in
            ap₂ (λ (z : Hop) (zs : List Hop). z ∷ zs) is (one_path a b y.object.type y.number first y.number_is)
        | inr apart ↦ none_apart x.object y.object x.number y.number n apart (number_below a x.object.type x.number x.number_is) (number_below b y.object.type y.number y.number_is) x.sum_is y.sum_is
      ]
