-- The quantities of a program, form by form and element by element.
use Rattle.std.proofs.Common.{◌≡◌, ℕ, zero, suc, ◌+◌, ◌*◌, ◌<◌, ◌≤◌, max, List, [], ◌∷◌, ◌++◌, length, take, get_or, Bool, true, false, arith, refl, sym, ap, ◌∙◌, ltb-true}
use Rattle.std.proofs.lemmas.Bool.Decides.{nat_tests}
use Rattle.std.specs.Prelude.{nat_lt, slice_index_or}
use Rattle.c_arith.specs.declared.int_type.IntType.{IntType}
use Rattle.c_tree.specs.declared.types.CType.{CType, fold-roll-CType}
use Rattle.c_tree.specs.declared.types.CType.TheOpen.{CType-F}
use Rattle.c_tree.specs.declared.types.CType.TheVariants as type
use Rattle.c_tree.specs.declared.program.Var.{Var}
use Rattle.c_tree.specs.declared.program.Member.{Member}
use Rattle.c_tree.specs.declared.program.StructDef.{StructDef}
use Rattle.c_language.specs.Words.{Bytes}
use Rattle.c_language.specs.Limits.{longest, longest_member, longest_in_structs, longest_in_variables, cells_step, cells, member_cells, cells_behind, greatest_variable}
use Rattle.c_types_trees.proofs.ShapeLemmas.{longest-Integer, longest-PointerTo, longest-Array, longest-Struct}
use Rattle.c_types.specs.Limits.{capped_if, capped, all_capped}
use Rattle.c_language.specs.Lists.{greatest}

-- ---- types

pub ruleset longest_of = (longest-Integer, longest-PointerTo, longest-Array, longest-Struct)

module _ (counts : List ℕ) where
  pub cells-Integer : (t : IntType) → cells counts (type.Integer t) ≡ 1
  cells-Integer t = ap (cells counts) (sym (type.rolls-Integer t)) ∙ fold-roll-CType ℕ (cells_step counts) (CType-F.Integer t)

  pub cells-PointerTo : (a : CType) → cells counts (type.PointerTo a) ≡ 1
  cells-PointerTo a = ap (cells counts) (sym (type.rolls-PointerTo a)) ∙ fold-roll-CType ℕ (cells_step counts) (CType-F.PointerTo a)

  pub cells-Array : (a : CType) (n : ℕ) (words : Bytes) → cells counts (type.Array a n words) ≡ n * cells counts a
  cells-Array a n words = ap (cells counts) (sym (type.rolls-Array a n words)) ∙ fold-roll-CType ℕ (cells_step counts) (CType-F.Array a n words)

  pub cells-Struct : (s : ℕ) → cells counts (type.Struct s) ≡ slice_index_or counts s 0
  cells-Struct s = ap (cells counts) (sym (type.rolls-Struct s)) ∙ fold-roll-CType ℕ (cells_step counts) (CType-F.Struct s)

pub ruleset cells_of = (cells-Integer, cells-PointerTo, cells-Array, cells-Struct)

-- ---- the greatest of a list, element by element

-- all is the greatest of what one is for each element
pub record IsGreatest {X : Type 0} (one : X → ℕ) (all : List X → ℕ) : Type 0 where
  pub at_nothing : all [] ≡ 0
  pub at_more : (x : X) (xs : List X) → all (x ∷ xs) ≡ max (one x) (all xs)

-- one element more
pub greatest_more : {X : Type 0} {one : X → ℕ} {all : List X → ℕ} → IsGreatest one all → (xs : List X) (i : ℕ) (d : X) → i < length xs
    → all (take (i + 1) xs) ≡ max (all (take i xs)) (one (get_or xs i d))
greatest_more e [] i d h = absurd (omega arith)
greatest_more {one} {all} e (x ∷ xs) zero d h = omega (arith, e.at_more x [], e.at_nothing)
greatest_more {one} {all} e (x ∷ xs) (suc i) d h =
    let k : suc i + 1 ≡ suc (i + 1) = omega arith in
    let later = greatest_more e xs i d (omega arith) in
    ap (λ (k : ℕ). all (take k (x ∷ xs))) k ∙ omega (arith, e.at_more x (take (i + 1) xs), e.at_more x (take i xs), later)

pub members_greatest : IsGreatest (λ (m : Member). longest m.shape) longest_member
members_greatest = record { at_nothing = refl; at_more = λ x xs. refl }

pub structs_greatest : IsGreatest (λ (d : StructDef). longest_member d.members) longest_in_structs
structs_greatest = record { at_nothing = refl; at_more = λ x xs. refl }

pub variables_greatest : IsGreatest (λ (v : Var). longest v.shape) longest_in_variables
variables_greatest = record { at_nothing = refl; at_more = λ x xs. refl }

pub numbers_greatest : IsGreatest (λ (n : ℕ). n) greatest
numbers_greatest = record { at_nothing = refl; at_more = λ x xs. refl }

pub cells_greatest : (counts : List ℕ) → IsGreatest (λ (v : Var). cells counts v.shape) (greatest_variable counts)
cells_greatest counts = record { at_nothing = refl; at_more = λ x xs. refl }

-- ---- numbers of cells, up to one more than the greatest

pub capped_small : (n : ℕ) → capped n ≤ 1048577
capped_small n = grind (arith, nat_tests)

pub capped_sum : (a b : ℕ) → capped (capped a + capped b) ≡ capped (a + b)
capped_sum a b = grind (arith, nat_tests)

pub capped_max : (a b : ℕ) → max (capped a) (capped b) ≡ capped (max a b)
capped_max a b = grind (arith, nat_tests)

pub capped_again : (a : ℕ) → capped (capped a) ≡ capped a
capped_again a = grind (arith, nat_tests)

-- ---- turns of loops

-- a turn of the loop for the greatest, where the element is known by a name
pub greatest_turn : {X : Type 0} {one : X → ℕ} {all : List X → ℕ} → IsGreatest one all → (xs : List X) (i : ℕ) (x : X) (best new : ℕ)
    → i < length xs → x ≡ get_or xs i x → best ≡ all (take i xs) → new ≡ max best (one x) → new ≡ all (take (i + 1) xs)
greatest_turn {one} {all} e xs i x best new h is p q =
    let more = greatest_more e xs i x h in
    let same = ap one is in
    omega (arith, more, same, p, q)

-- the same, where the element is known by its place
pub greatest_turn_at : {X : Type 0} {one : X → ℕ} {all : List X → ℕ} → IsGreatest one all → (xs : List X) (i : ℕ) (d : X) (best new : ℕ)
    → i < length xs → best ≡ all (take i xs) → new ≡ max best (one (get_or xs i d)) → new ≡ all (take (i + 1) xs)
greatest_turn_at {one} {all} e xs i d best new h p q =
    let more = greatest_more e xs i d h in
    omega (arith, more, p, q)

-- what is counted of each element is added
pub record IsSum {X : Type 0} (one : X → ℕ) (all : List X → ℕ) : Type 0 where
  pub at_nothing : all [] ≡ 0
  pub at_more : (x : X) (xs : List X) → all (x ∷ xs) ≡ one x + all xs

pub sum_more : {X : Type 0} {one : X → ℕ} {all : List X → ℕ} → IsSum one all → (xs : List X) (i : ℕ) (d : X) → i < length xs
    → all (take (i + 1) xs) ≡ all (take i xs) + one (get_or xs i d)
sum_more e [] i d h = absurd (omega arith)
sum_more {one} {all} e (x ∷ xs) zero d h = omega (arith, e.at_more x [], e.at_nothing)
sum_more {one} {all} e (x ∷ xs) (suc i) d h =
    let k : suc i + 1 ≡ suc (i + 1) = omega arith in
    let later = sum_more e xs i d (omega arith) in
    ap (λ (k : ℕ). all (take k (x ∷ xs))) k ∙ omega (arith, e.at_more x (take (i + 1) xs), e.at_more x (take i xs), later)

pub members_sum : (counts : List ℕ) → IsSum (λ (m : Member). cells counts m.shape) (member_cells counts)
members_sum counts = record { at_nothing = refl; at_more = λ x xs. refl }

pub sum_turn : {X : Type 0} {one : X → ℕ} {all : List X → ℕ} → IsSum one all → (xs : List X) (i : ℕ) (x : X) (sum new count : ℕ)
    → i < length xs → x ≡ get_or xs i x → sum ≡ capped (all (take i xs)) → count ≡ capped (one x) → new ≡ capped (sum + count) → new ≡ capped (all (take (i + 1) xs))
sum_turn {one} {all} e xs i x sum new count h is p q r =
    r ∙ ap capped (ap (λ y. y + count) p ∙ ap (λ y. capped (all (take i xs)) + y) q) ∙ capped_sum (all (take i xs)) (one x)
    ∙ ap (λ y. capped (all (take i xs) + y)) (ap one is) ∙ ap capped (sym (sum_more e xs i x h))

pub capped_turn : {X : Type 0} {one : X → ℕ} {all : List X → ℕ} → IsGreatest one all → (xs : List X) (i : ℕ) (x : X) (best new count : ℕ)
    → i < length xs → x ≡ get_or xs i x → best ≡ capped (all (take i xs)) → count ≡ capped (one x) → new ≡ max best count → new ≡ capped (all (take (i + 1) xs))
capped_turn {one} {all} e xs i x best new count h is p q r =
    r ∙ ap (λ y. max y count) p ∙ ap (λ y. max (capped (all (take i xs))) y) q ∙ capped_max (all (take i xs)) (one x)
    ∙ ap (λ y. capped (max (all (take i xs)) y)) (ap one is) ∙ ap capped (sym (greatest_more e xs i x h))

-- ---- the cells of struct types, one after another

pub behind_more : (before : List ℕ) (ds : List StructDef) (i : ℕ) (d : StructDef) → i < length ds
    → cells_behind before (take (i + 1) ds) ≡ cells_behind before (take i ds) ++ member_cells (cells_behind before (take i ds)) (get_or ds i d).members ∷ []
behind_more before [] i d h = absurd (omega arith)
behind_more before (x ∷ ds) zero d h = refl
behind_more before (x ∷ ds) (suc i) d h =
    let k : suc i + 1 ≡ suc (i + 1) = omega arith in
    ap (λ (k : ℕ). cells_behind before (take k (x ∷ ds))) k ∙ behind_more (before ++ member_cells before x.members ∷ []) ds i d (omega arith)

capped-append : (xs : List ℕ) (y : ℕ) → all_capped (xs ++ y ∷ []) ≡ all_capped xs ++ capped y ∷ []
capped-append [] y = refl
capped-append (x ∷ xs) y = ap (λ r. capped x ∷ r) (capped-append xs y)

pub struct_turn : (ds : List StructDef) (i : ℕ) (d : StructDef) (found new : List ℕ) (sum : ℕ)
    → i < length ds → d ≡ get_or ds i d → found ≡ all_capped (cells_behind [] (take i ds))
    → sum ≡ capped (member_cells (cells_behind [] (take i ds)) d.members) → new ≡ found ++ sum ∷ [] → new ≡ all_capped (cells_behind [] (take (i + 1) ds))
struct_turn ds i d found new sum h is p q r =
    let counts = cells_behind [] (take i ds) in
    r ∙ ap (λ y. y ++ sum ∷ []) p ∙ ap (λ y. all_capped counts ++ y ∷ []) (q ∙ ap (λ (x : StructDef). capped (member_cells counts x.members)) is)
    ∙ sym (capped-append counts (member_cells counts (get_or ds i d).members)) ∙ ap all_capped (sym (behind_more [] ds i d h))

-- ---- types

capped_large : (n : ℕ) → 1048576 < n → capped n ≡ 1048577
capped_large n h = grind (arith, nat_tests)

-- more than the greatest, that many times, is more than the greatest
times_large : (m a : ℕ) → 1048576 < a → 1048576 < suc m * a
times_large m a h = omega arith

array_at : (b : Bool) (n a : ℕ) → nat_lt 1048576 a ≡ b → capped (n * capped_if b a) ≡ capped (n * a)
array_at false n a e = refl
array_at true zero a e = let z : 0 * 1048577 ≡ 0 * a = omega arith in ap capped z
array_at true (suc m) a e = capped_large (suc m * 1048577) (times_large m 1048577 (omega arith)) ∙ sym (capped_large (suc m * a) (times_large m a (ltb-true 1048576 a e)))

pub array_capped : (n a count : ℕ) → count ≡ capped a → capped (n * count) ≡ capped (n * a)
array_capped n a count e = ap (λ y. capped (n * y)) e ∙ array_at (nat_lt 1048576 a) n a refl

pub struct_capped : (counts : List ℕ) (s : ℕ) → slice_index_or (all_capped counts) s 0 ≡ capped (slice_index_or counts s 0)
struct_capped [] s = refl
struct_capped (x ∷ xs) zero = refl
struct_capped (x ∷ xs) (suc s) = struct_capped xs s

pub greatest_capped : (ns : List ℕ) → greatest (all_capped ns) ≡ capped (greatest ns)
greatest_capped [] = refl
greatest_capped (n ∷ ns) = ap (λ y. max (capped n) y) (greatest_capped ns) ∙ capped_max n (greatest ns)
