-- Counts of cells as 64 bits hold them: sums and products that stay at the greatest number.
use Rattle.std.proofs.Common.{◌≡◌, ℕ, zero, suc, ◌+◌, ◌*◌, ◌<◌, ◌≤◌, List, [], ◌∷◌, ◌++◌, length, map, drop, get_or, Bool, true, Some, None, option_map, inl, inr, refl, sym, ap, ap₂, ◌∙◌, arith, length-append}
use Rattle.std.proofs.Math.Nat.{suc-mul, mul-le-mul}
use Rattle.std.proofs.lemmas.Bool.{cases_lt}
use Rattle.std.proofs.lemmas.Bool.Decides.{nat_tests}
use Rattle.std.proofs.lemmas.List.{map-append, at_drop_all}
use Rattle.std.specs.List.{repeat}
use Rattle.std.specs.Prelude.{slice_index_or, nat_lt, if◌then◌else◌}
use Rattle.c_language.specs.declared.expr_type.Base.{Base}
use Rattle.c_language.specs.declared.expr_type.Layer.{Layer}
use Rattle.c_language.specs.declared.expr_type.Layer.TheVariants.{Array}
use Rattle.c_language.specs.declared.expr_type.ExprType.{ExprType}
use Rattle.c_meaning.specs.Cells.{Structs, layered_cells, member_cells, cells_behind}
use Rattle.c_language.proofs.Turns.{drop_turn}
use Rattle.c_memory.specs.Counts.{saturated, counted, AreCounts, element_offset}

-- ---- numbers

pub sum_saturated : (a b : ℕ) → saturated (a + saturated b) ≡ saturated (a + b)
sum_saturated a b = omega arith

pub product_saturated : (i c : ℕ) → saturated (i * saturated c) ≡ saturated (i * c)
product_saturated zero c = let z : 0 * saturated c ≡ 0 = omega arith in let w : 0 * c ≡ 0 = omega arith in ap saturated (z ∙ sym w)
product_saturated (suc i) c =
    elim (cases_lt c 18446744073709551615) [
      | inl low ↦ let same : saturated c ≡ c = omega (arith, low) in ap (λ (k : ℕ). saturated (suc i * k)) same
      | inr high ↦
          let some : 1 ≤ suc i = omega arith in
          let one : 1 * saturated c ≤ suc i * saturated c = mul-le-mul some (omega arith) in
          let two : 1 * c ≤ suc i * c = mul-le-mul some (omega arith) in
          let full : saturated c ≡ 18446744073709551615 = omega (arith, high) in
          omega (arith, one, two, full, high)
    ]

pub length-repeat : {A : Type 0} (n : ℕ) (xs : List A) → length (repeat n xs) ≡ n * length xs
length-repeat zero xs = let z : 0 * length xs ≡ 0 = omega arith in sym z
length-repeat (suc n) xs =
    let e = suc-mul n (length xs) in
    length-append xs (repeat n xs) ∙ ap (λ (k : ℕ). length xs + k) (length-repeat n xs) ∙ omega (arith, e)

-- ---- objects

pub array_counted : (known : List (List ExprType)) (n : ℕ) (ls : List Layer) (b : Base) (c : ℕ) → c ≡ saturated (length (layered_cells known ls b))
    → saturated (n * c) ≡ saturated (length (layered_cells known (Array n ∷ ls) b))
array_counted known n ls b c e =
    let one = layered_cells known ls b in
    ap (λ (k : ℕ). saturated (n * k)) e ∙ product_saturated n (length one) ∙ ap saturated (sym (length-repeat n one))

pub index_mapped : (f : List ExprType → ℕ) → f [] ≡ 0 → (known : List (List ExprType)) (s : ℕ) → slice_index_or (map f known) s 0 ≡ f (slice_index_or known s [])
index_mapped f none [] s = sym none
index_mapped f none (ts ∷ known) zero = refl
index_mapped f none (ts ∷ known) (suc s) = index_mapped f none known s

pub struct_counted : (counts : List ℕ) (known : List (List ExprType)) (s : ℕ) → AreCounts counts known → slice_index_or counts s 0 ≡ saturated (length (slice_index_or known s []))
struct_counted counts known s a = ap (λ (xs : List ℕ). slice_index_or xs s 0) a ∙ index_mapped counted (omega arith) known s

-- ---- members

-- the count of a member is added to a sum
pub member_counted : (known : List (List ExprType)) (t : ExprType) (rest : List ExprType) (sum count : ℕ) → count ≡ saturated (length (layered_cells known t.layers t.base))
    → saturated (saturated (sum + count) + length (member_cells known rest)) ≡ saturated (sum + length (member_cells known (t ∷ rest)))
member_counted known t rest sum count e =
    let one = layered_cells known t.layers t.base in
    let both = length-append one (member_cells known rest) in
    ap (λ (k : ℕ). saturated (saturated (sum + k) + length (member_cells known rest))) e
    ∙ the_sum sum (length one) (length (member_cells known rest))
    ∙ ap (λ (k : ℕ). saturated (sum + k)) (sym both)
  where
    the_sum : (a b c : ℕ) → saturated (saturated (a + saturated b) + c) ≡ saturated (a + (b + c))
    the_sum a b c = omega arith

-- ---- struct types

pub behind_more : (known : List (List ExprType)) (ss : Structs) (s : List ExprType)
    → cells_behind known (ss ++ s ∷ []) ≡ cells_behind known ss ++ member_cells (cells_behind known ss) s ∷ []
behind_more known [] s = refl
behind_more known (t ∷ ss) s = behind_more (known ++ member_cells known t ∷ []) ss s

pub counts_more : (counts : List ℕ) (count : ℕ) (ss : Structs) (s : List ExprType) → AreCounts counts (cells_behind [] ss)
    → count ≡ saturated (length (member_cells (cells_behind [] ss) s)) → AreCounts (counts ++ count ∷ []) (cells_behind [] (ss ++ s ∷ []))
counts_more counts count ss s a e =
    let known = cells_behind [] ss in
    ap₂ (λ (xs : List ℕ) (x : ℕ). xs ++ x ∷ []) a e ∙ sym (map-append counted known (member_cells known s ∷ []))
    ∙ ap (map counted) (sym (behind_more [] ss s))

-- ---- turns of the code

pub array_turn : (known : List (List ExprType)) (layers inner : List Layer) (n : ℕ) (b : Base) (c r : ℕ) → layers ≡ Array n ∷ inner → r ≡ saturated (n * c)
    → c ≡ saturated (length (layered_cells known inner b)) → r ≡ saturated (length (layered_cells known layers b))
array_turn known layers inner n b c r is e counted =
    e ∙ array_counted known n inner b c counted ∙ ap (λ (ls : List Layer). saturated (length (layered_cells known ls b))) (sym is)

pub offset_turn : (known : List (List ExprType)) (layers inner : List Layer) (i n : ℕ) (b : Base) (c r : ℕ) → layers ≡ Array n ∷ inner → i < n → r ≡ saturated (i * c)
    → c ≡ saturated (length (layered_cells known inner b)) → Some r ≡ option_map saturated (element_offset known i layers b)
offset_turn known layers inner i n b c r is within e counted =
    let below : nat_lt i n ≡ true = grind (arith, nat_tests) in
    let size = length (layered_cells known inner b) in
    let same : r ≡ saturated (i * size) = e ∙ ap (λ (k : ℕ). saturated (i * k)) counted ∙ product_saturated i size in
    ap Some same ∙ ap (λ (test : Bool). option_map saturated (if test then Some (i * size) else None)) (sym below)
    ∙ ap (λ (ls : List Layer). option_map saturated (element_offset known i ls b)) (sym is)

pub member_turn : (known : List (List ExprType)) (ts : List ExprType) (i : ℕ) (t : ExprType) (sum count new total : ℕ) → i < length ts → t ≡ get_or ts i t
    → saturated (sum + length (member_cells known (drop i ts))) ≡ total → count ≡ saturated (length (layered_cells known t.layers t.base)) → new ≡ saturated (sum + count)
    → saturated (new + length (member_cells known (drop (i + 1) ts))) ≡ total
member_turn known ts i t sum count new total within is before counted e =
    ap (λ (k : ℕ). saturated (k + length (member_cells known (drop (i + 1) ts)))) e
    ∙ member_counted known t (drop (i + 1) ts) sum count counted
    ∙ ap (λ (us : List ExprType). saturated (sum + length (member_cells known us))) (sym (drop_turn ts i t within is)) ∙ before

pub members_end : (known : List (List ExprType)) (ts : List ExprType) (i sum total : ℕ) → length ts ≤ i → sum ≤ 18446744073709551615
    → saturated (sum + length (member_cells known (drop i ts))) ≡ total → sum ≡ total
members_end known ts i sum total past small before =
    let none = at_drop_all (λ (us : List ExprType). saturated (sum + length (member_cells known us))) ts i past in
    let same : sum ≡ saturated (sum + 0) = omega (arith, small) in
    same ∙ sym none ∙ before

-- one struct type more is counted
pub counts_turn : (ss : Structs) (counts seen : List ℕ) (ts us : List ExprType) (count : ℕ) (new_counts : List ℕ) (new_ss : Structs) → AreCounts counts (cells_behind [] ss)
    → seen ≡ counts → us ≡ ts → ((known : List (List ExprType)) → AreCounts seen known → count ≡ saturated (length (member_cells known us)))
    → new_counts ≡ counts ++ count ∷ [] → new_ss ≡ ss ++ ts ∷ [] → AreCounts new_counts (cells_behind [] new_ss)
counts_turn ss counts seen ts us count new_counts new_ss a same both gives pushed more =
    let known = cells_behind [] ss in
    let counts_it = gives known (same ∙ a) ∙ ap (λ (xs : List ExprType). saturated (length (member_cells known xs))) both in
    pushed ∙ counts_more counts count ss ts a counts_it ∙ ap (λ (xs : Structs). map counted (cells_behind [] xs)) (sym more)
