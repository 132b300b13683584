-- Blocks that begin and go, and the cells that are found by saturated numbers.
use Rattle.std.proofs.Common.{◌≡◌, ℕ, ◌<◌, ◌≤◌, List, length, map, set, get_or, replicate, inl, inr, Bool, false, Option, Some, None, option_map, sym, ap, ◌∙◌, subst, arith}
use Rattle.std.proofs.lemmas.Bool.{cases_lt}
use Rattle.std.proofs.lemmas.List.{length-map, set-get_or, get_or_read}
use Rattle.std.proofs.lemmas.Option.{slice_get_past, slice_get-get_or}
use Rattle.std.specs.Prelude.{slice_get, is_some, option_and_then}
use Rattle.c_language.proofs.Options.{MadeFrom, map_there, unmapped}
use Rattle.c_language.specs.declared.expr_type.ExprType.{ExprType}
use Rattle.c_meaning.specs.declared.value.Value.{Value}
use Rattle.c_meaning.specs.declared.value.Hop.{Hop}
use Rattle.c_meaning.specs.declared.value.Place.{Place}
use Rattle.c_meaning.specs.Cells.{Structs, cells, cell_count, cell_number}
use Rattle.c_meaning.specs.Activations.{zeros}
use Rattle.c_meaning.specs.Memory.{Block, Memory, Kind, changed, filled, with_cell, cell_in, is_cell, write, unwritten, gone, leave}
use Rattle.c_memory.specs.Counts.{saturated}
use Rattle.c_memory.specs.Whole.{IsWhole, AreWhole}
use Rattle.c_memory.proofs.CellLemmas.{changed_past, changed_at, changed_absent, length-changed, all_unwritten}

-- ---- blocks that begin

pub exact : (n count : ℕ) → count ≡ saturated n → count < 18446744073709551615 → count ≡ n
exact n count e h = omega (arith, e, h)

pub unwritten_cells : (structs : Structs) (t : ExprType) (count : ℕ) (os : List (Option Value)) → os ≡ replicate count None → count < 18446744073709551615
    → count ≡ saturated (cell_count structs t) → os ≡ map (λ (u : ExprType). None) (cells structs t)
unwritten_cells structs t count os all small e =
    all ∙ ap (λ (n : ℕ). replicate n None) (exact (cell_count structs t) count e small) ∙ all_unwritten (cells structs t) None

pub unwritten_whole : (structs : Structs) (t : ExprType) (kind : Kind) (count : ℕ) → count < 18446744073709551615 → count ≡ saturated (cell_count structs t)
    → IsWhole structs (unwritten structs t kind)
unwritten_whole structs t kind count small e =
    let same = exact (cell_count structs t) count e small in
    let size : length (unwritten structs t kind).cells ≡ cell_count structs t = length-map (cells structs t) _ in
    record { cells_are = size; countable = omega (arith, same, size, small) }

pub zeros_whole : (structs : Structs) (t : ExprType) → cell_count structs t < 18446744073709551615 → IsWhole structs (zeros structs t)
zeros_whole structs t small =
    let size : length (zeros structs t).cells ≡ cell_count structs t = length-map (cells structs t) _ in
    record { cells_are = size; countable = omega (arith, size, small) }

-- ---- blocks that go

pub left_at : (structs : Structs) (bs : List Block) (n : ℕ) (old new : Block) → n < length bs → old ≡ get_or bs n old → new ≡ gone old
    → ◌≡◌ {A = Memory} (record { structs = structs; blocks = set bs n new }) (leave n (record { structs = structs; blocks = bs }))
left_at structs bs n old new within is e =
    ap (λ (xs : List Block). record { structs = structs; blocks = xs }) (ap (set bs n) e ∙ changed_at gone n bs old within is)

pub left_past : (structs : Structs) (bs : List Block) (n : ℕ) → length bs ≤ n
    → ◌≡◌ {A = Memory} (record { structs = structs; blocks = bs }) (leave n (record { structs = structs; blocks = bs }))
left_past structs bs n past = ap (λ (xs : List Block). record { structs = structs; blocks = xs }) (sym (changed_past gone n bs past))

-- ---- cells by saturated numbers

pub get_saturated : {A : Type 0} (xs : List A) (n : ℕ) → length xs < 18446744073709551615 → slice_get xs (saturated n) ≡ slice_get xs n
get_saturated xs n small =
    elim (cases_lt n 18446744073709551615) [
      | inl low ↦ let same : saturated n ≡ n = omega (arith, low) in ap (slice_get xs) same
      | inr high ↦ slice_get_past xs (saturated n) (omega (arith, small, high)) ∙ sym (slice_get_past xs n (omega (arith, small, high)))
    ]

pub changed_saturated : {A : Type 0} (f : A → A) (n : ℕ) (xs : List A) → length xs < 18446744073709551615 → changed f (saturated n) xs ≡ changed f n xs
changed_saturated f n xs small =
    elim (cases_lt n 18446744073709551615) [
      | inl low ↦ let same : saturated n ≡ n = omega (arith, low) in ap (λ (k : ℕ). changed f k xs) same
      | inr high ↦ changed_past f (saturated n) xs (omega (arith, small, high)) ∙ sym (changed_past f n xs (omega (arith, small, high)))
    ]

-- ---- writes

-- how a saturated number was found
number_of : (x : Option ℕ) (number : ℕ) → Some number ≡ option_map saturated x → MadeFrom x saturated number
number_of x number e = map_there saturated x number (sym e)

-- the block after a write is that of the meaning
written_block : (structs : Structs) (path : List Hop) (v : Value) (old : Block) (number : ℕ) → IsWhole structs old
    → Some number ≡ option_map saturated (cell_number structs path old.shape)
    → ◌≡◌ {A = Block} (record old { cells = changed (λ (o : Option Value). Some v) number old.cells }) (with_cell structs path v old)
written_block structs path v old number whole e =
    let found = number_of (cell_number structs path old.shape) number e in
    ap (λ (os : List (Option Value)). record old { cells = os })
    (ap (λ (k : ℕ). changed (λ (o : Option Value). Some v) k old.cells) (sym found.same)
    ∙ changed_saturated (λ (o : Option Value). Some v) found.value old.cells whole.countable
    ∙ ap (λ (x : Option ℕ). filled v x old.cells) (sym found.there))

pub written_at : (structs : Structs) (bs : List Block) (p : Place) (v : Value) (old new : Block) (number : ℕ) → p.block < length bs → old ≡ get_or bs p.block old
    → IsWhole structs old → Some number ≡ option_map saturated (cell_number structs p.path old.shape)
    → new ≡ record old { cells = changed (λ (o : Option Value). Some v) number old.cells }
    → ◌≡◌ {A = Memory} (record { structs = structs; blocks = set bs p.block new }) (write p v (record { structs = structs; blocks = bs }))
written_at structs bs p v old new number within is whole e new_is =
    ap (λ (xs : List Block). record { structs = structs; blocks = xs })
    (ap (set bs p.block) (new_is ∙ written_block structs p.path v old number whole e) ∙ changed_at (with_cell structs p.path v) p.block bs old within is)

pub written_past : (structs : Structs) (bs : List Block) (p : Place) (v : Value) → length bs ≤ p.block
    → ◌≡◌ {A = Memory} (record { structs = structs; blocks = bs }) (write p v (record { structs = structs; blocks = bs }))
written_past structs bs p v past = ap (λ (xs : List Block). record { structs = structs; blocks = xs }) (sym (changed_past (with_cell structs p.path v) p.block bs past))

no_number : (x : Option ℕ) → ◌≡◌ {A = Option ℕ} None (option_map saturated x) → x ≡ None
no_number x e = unmapped saturated x (sym e)

pub written_nowhere : (structs : Structs) (bs : List Block) (p : Place) (v : Value) (old : Block) → p.block < length bs → old ≡ get_or bs p.block old
    → ◌≡◌ {A = Option ℕ} None (option_map saturated (cell_number structs p.path old.shape))
    → ◌≡◌ {A = Memory} (record { structs = structs; blocks = bs }) (write p v (record { structs = structs; blocks = bs }))
written_nowhere structs bs p v old within is e =
    let same : with_cell structs p.path v old ≡ old = ap (λ (x : Option ℕ). record old { cells = filled v x old.cells }) (no_number _ e) in
    ap (λ (xs : List Block). record { structs = structs; blocks = xs })
    (sym (set-get_or bs p.block old) ∙ ap (set bs p.block) (sym is ∙ sym same) ∙ changed_at (with_cell structs p.path v) p.block bs old within is)

-- ---- whether a place is a cell

block_at : (structs : Structs) (bs : List Block) (p : Place) (old : Block) → p.block < length bs → old ≡ get_or bs p.block old
    → is_cell (record { structs = structs; blocks = bs }) p ≡ is_some (cell_in structs p.path old)
block_at structs bs p old within is =
    ap (λ (x : Option Block). is_some (option_and_then (cell_in structs p.path) x)) (slice_get-get_or bs p.block old within ∙ ap Some (sym is))

pub cell_at : (structs : Structs) (bs : List Block) (p : Place) (old : Block) (number : ℕ) (answer : Bool) → p.block < length bs → old ≡ get_or bs p.block old
    → IsWhole structs old → Some number ≡ option_map saturated (cell_number structs p.path old.shape) → answer ≡ is_some (slice_get old.cells number)
    → answer ≡ is_cell (record { structs = structs; blocks = bs }) p
cell_at structs bs p old number answer within is whole e given =
    let found = number_of (cell_number structs p.path old.shape) number e in
    given ∙ ap (λ (k : ℕ). is_some (slice_get old.cells k)) (sym found.same) ∙ ap is_some (get_saturated old.cells found.value whole.countable)
    ∙ ap (λ (x : Option ℕ). is_some (option_and_then (slice_get old.cells) x)) (sym found.there) ∙ sym (block_at structs bs p old within is)

pub no_cell_at : (structs : Structs) (bs : List Block) (p : Place) (old : Block) → p.block < length bs → old ≡ get_or bs p.block old
    → ◌≡◌ {A = Option ℕ} None (option_map saturated (cell_number structs p.path old.shape)) → false ≡ is_cell (record { structs = structs; blocks = bs }) p
no_cell_at structs bs p old within is e =
    ap (λ (x : Option ℕ). is_some (option_and_then (slice_get old.cells) x)) (sym (no_number _ e)) ∙ sym (block_at structs bs p old within is)

-- ---- what stays

pub changed_whole : (structs : Structs) (old new : Block) (f : Option Value → Option Value) (n : ℕ) → IsWhole structs old → new ≡ record old { cells = changed f n old.cells }
    → IsWhole structs new
changed_whole structs old new f n whole e =
    let size = length-changed f n old.cells in
    subst (IsWhole structs) (sym e) (record { cells_are = size ∙ whole.cells_are; countable = let h = whole.countable in omega (arith, size, h) })

pub kept_at : (bs : List Block) (n number : ℕ) (old new : Block) (f : Option Value → Option Value) (answer : Bool) → old ≡ get_or bs n old
    → answer ≡ is_some (slice_get old.cells number) → new ≡ record old { cells = changed f number old.cells } → answer ≡ false → set bs n new ≡ bs
kept_at bs n number old new f answer is given e refused =
    ap (set bs n) (e ∙ ap (λ (os : List (Option Value)). record old { cells = os }) (changed_absent f number old.cells (sym given ∙ refused)) ∙ is) ∙ set-get_or bs n old

-- ---- turns of the code

pub whole_at : (structs : Structs) (bs : List Block) (n : ℕ) (b : Block) → AreWhole structs bs → n < length bs → b ≡ get_or bs n b → IsWhole structs b
whole_at structs bs n b all within is = subst (IsWhole structs) (sym is) (all n b within)

same_read : (bs : List Block) (n : ℕ) (seen old : Block) → n < length bs → seen ≡ get_or bs n seen → old ≡ get_or bs n old → seen ≡ old
same_read bs n seen old within is same = get_or_read bs n seen within is old ∙ sym same

pub numbered : (structs : Structs) (bs : List Block) (p : Place) (seen old : Block) (path : List Hop) (shape : ExprType) (r : Option ℕ) (number : ℕ) → p.block < length bs
    → seen ≡ get_or bs p.block seen → old ≡ get_or bs p.block old → path ≡ p.path → shape ≡ seen.shape → r ≡ option_map saturated (cell_number structs path shape) → r ≡ Some number
    → Some number ≡ option_map saturated (cell_number structs p.path old.shape)
numbered structs bs p seen old path shape r number within is same here of gives found =
    sym found ∙ gives ∙ ap (λ (hs : List Hop). option_map saturated (cell_number structs hs shape)) here
    ∙ ap (λ (t : ExprType). option_map saturated (cell_number structs p.path t)) (of ∙ ap (λ (b : Block). b.shape) (same_read bs p.block seen old within is same))

pub not_numbered : (structs : Structs) (p : Place) (seen : Block) (path : List Hop) (shape : ExprType) (r : Option ℕ) → path ≡ p.path → shape ≡ seen.shape
    → r ≡ option_map saturated (cell_number structs path shape) → r ≡ None → ◌≡◌ {A = Option ℕ} None (option_map saturated (cell_number structs p.path seen.shape))
not_numbered structs p seen path shape r here of gives none =
    sym none ∙ gives ∙ ap (λ (hs : List Hop). option_map saturated (cell_number structs hs shape)) here
    ∙ ap (λ (t : ExprType). option_map saturated (cell_number structs p.path t)) of
