-- Cells of 0 and of null pointers, made of objects that wait, the last one first.
use Rattle.std.proofs.Common.{◌≡◌, ℕ, zero, suc, ◌+◌, ◌-◌, ◌*◌, ◌<◌, ◌≤◌, List, [], ◌∷◌, ◌++◌, length, map, drop, get_or, Option, Some, None, refl, sym, ap, ap₂, ◌∙◌, arith, append_assoc, append-nil}
use Rattle.std.proofs.Math.Nat.{suc-mul}
use Rattle.std.proofs.Math.Seq.{drop-cons}
use Rattle.std.proofs.lemmas.List.{map-append, take_all}
use Rattle.std.specs.List.{repeat}
use Rattle.std.proofs.lemmas.Option.{get_or_from_slice_get, unwrap_or-slice_get}
use Rattle.std.specs.Prelude.{slice_get, unwrap_or}
use Rattle.c_language.specs.declared.expr_type.Base.{Base}
use Rattle.c_language.specs.declared.expr_type.Base.TheVariants as base
use Rattle.c_language.specs.declared.expr_type.Layer.{Layer}
use Rattle.c_language.specs.declared.expr_type.Layer.TheVariants.{Array}
use Rattle.c_language.specs.declared.expr_type.ExprType.{ExprType}
use Rattle.c_meaning.specs.declared.value.Value.{Value}
use Rattle.c_meaning.specs.Cells.{Structs, layered_cells, member_cells, cells_behind, cells}
use Rattle.c_memory.specs.Zeros.{zero_cell, cells_below, struct_zeros, member_zeros, object_zeros, waiting_zeros, all_zeros, layered_turns, turns_of_members, turns_behind, turns_below, struct_turns, member_turns, object_turns, waiting_turns, all_turns}
use Rattle.c_memory.specs.declared.layouts.zeros.Waiting.{Waiting}
use Rattle.c_memory.proofs.BehindLemmas.{Grows, length-all, found_below, none_past}

-- ---- struct types

cells_grow : Grows member_cells cells_behind []
cells_grow = record { ends = λ known. refl; goes = λ known ts ss. refl; empty = λ known. refl }

turns_grow : Grows turns_of_members turns_behind 0
turns_grow = record { ends = λ known. refl; goes = λ known ts ss. refl; empty = λ known. refl }

-- a struct type below the limit has the cells of its members, by the struct types before it
pub struct_zeros_are : (structs : Structs) (limit s : ℕ) → s < limit → struct_zeros structs limit s ≡ member_zeros structs s (get_or structs s [])
struct_zeros_are structs limit s low = ap (map zero_cell) (found_below member_cells cells_behind [] cells_grow structs limit s low)

pub struct_turns_are : (structs : Structs) (limit s : ℕ) → s < limit → struct_turns structs limit s ≡ member_turns structs s (get_or structs s [])
struct_turns_are structs limit s low = found_below turns_of_members turns_behind 0 turns_grow structs limit s low

pub no_struct_zeros : (structs : Structs) (limit s : ℕ) → limit ≤ s → struct_zeros structs limit s ≡ []
no_struct_zeros structs limit s past = ap (map zero_cell) (none_past member_cells cells_behind [] cells_grow structs limit s past)

pub no_struct_turns : (structs : Structs) (limit s : ℕ) → limit ≤ s → struct_turns structs limit s ≡ 0
no_struct_turns structs limit s past = none_past turns_of_members turns_behind 0 turns_grow structs limit s past

-- the members of a struct type, by a look-up
pub record IsStruct (structs : Structs) (limit s : ℕ) (ms : List ExprType) : Type 0 where
  pub zeros : member_zeros structs s ms ≡ struct_zeros structs limit s
  pub turns : member_turns structs s ms ≡ struct_turns structs limit s

pub struct_found : (structs inside : Structs) (limit s : ℕ) (ms us : List ExprType) → s < limit → inside ≡ structs → slice_get inside s ≡ Some ms → us ≡ ms → IsStruct structs limit s us
struct_found structs inside limit s ms us low same there own =
    let here : get_or structs s [] ≡ us = get_or_from_slice_get structs s ms [] (ap (λ (xs : Structs). slice_get xs s) (sym same) ∙ there) ∙ sym own in
    record {
      zeros = sym (struct_zeros_are structs limit s low ∙ ap (member_zeros structs s) here);
      turns = sym (struct_turns_are structs limit s low ∙ ap (member_turns structs s) here);
    }

pub struct_missing : (structs inside : Structs) (limit s : ℕ) → s < limit → inside ≡ structs → slice_get inside s ≡ None → IsStruct structs limit s []
struct_missing structs inside limit s low same none =
    let here : get_or structs s [] ≡ [] = sym (unwrap_or-slice_get structs s []) ∙ ap (λ (o : Option (List ExprType)). unwrap_or o []) (ap (λ (xs : Structs). slice_get xs s) (sym same) ∙ none) in
    record {
      zeros = sym (struct_zeros_are structs limit s low ∙ ap (member_zeros structs s) here);
      turns = sym (struct_turns_are structs limit s low ∙ ap (member_turns structs s) here);
    }

-- where all struct types count, an object has its cells
pub whole_zeros : (structs : Structs) (w : Waiting) → w.limit ≡ length structs
    → object_zeros structs w ≡ map zero_cell (cells structs (record { layers = w.layers.now; base = w.base }))
whole_zeros structs w e =
    let size = length-all member_cells cells_behind [] cells_grow [] structs in
    ap (λ (known : List (List ExprType)). map zero_cell (layered_cells known w.layers.now w.base))
    (take_all w.limit (cells_behind [] structs) (omega (arith, e, size)))

-- ---- what waits

pub zeros_push : (structs : Structs) (ws : List Waiting) (w : Waiting) → all_zeros structs (ws ++ w ∷ []) ≡ waiting_zeros structs w ++ all_zeros structs ws
zeros_push structs [] w = sym (append-nil (waiting_zeros structs w))
zeros_push structs (v ∷ ws) w =
    ap (λ (os : List (Option Value)). os ++ waiting_zeros structs v) (zeros_push structs ws w)
    ∙ append_assoc (waiting_zeros structs w) (all_zeros structs ws) (waiting_zeros structs v)

pub turns_push : (structs : Structs) (ws : List Waiting) (w : Waiting) → all_turns structs (ws ++ w ∷ []) ≡ waiting_turns structs w + all_turns structs ws
turns_push structs [] w = omega arith
turns_push structs (v ∷ ws) w = let more = turns_push structs ws w in omega (arith, more)

-- ---- members

-- one member more waits, before those behind it
pub member_zeros_wait : (structs : Structs) (ms : List ExprType) (k n : ℕ) (m : ExprType) (w : Waiting) (ws new old : List Waiting)
    → k + 1 ≡ n → n ≤ length ms → m ≡ get_or ms k m → w.times ≡ 1 → w.layers.now ≡ m.layers → w.base ≡ m.base
    → all_zeros structs ws ≡ member_zeros structs w.limit (drop n ms) ++ all_zeros structs old → new ≡ ws ++ w ∷ []
    → all_zeros structs new ≡ member_zeros structs w.limit (drop k ms) ++ all_zeros structs old
member_zeros_wait structs ms k n m w ws new old e within is once ls b h q =
    let known = cells_below structs w.limit in
    let next : n ≡ suc k = omega (arith, e) in
    let here : drop k ms ≡ m ∷ drop (suc k) ms = drop-cons ms k m (omega (arith, e, within)) ∙ ap (λ (x : ExprType). x ∷ drop (suc k) ms) (sym is) in
    let own : waiting_zeros structs w ≡ map zero_cell (layered_cells known m.layers m.base) =
    ap (λ (t : ℕ). repeat t (object_zeros structs w)) once ∙ append-nil (object_zeros structs w)
    ∙ ap₂ (λ (l : List Layer) (x : Base). map zero_cell (layered_cells known l x)) ls b in
    ap (all_zeros structs) q ∙ zeros_push structs ws w
    ∙ ap₂ (λ (os more : List (Option Value)). os ++ more) own (h ∙ ap (λ (i : ℕ). member_zeros structs w.limit (drop i ms) ++ all_zeros structs old) next)
    ∙ sym (append_assoc (map zero_cell (layered_cells known m.layers m.base)) (member_zeros structs w.limit (drop (suc k) ms)) (all_zeros structs old))
    ∙ ap (λ (os : List (Option Value)). os ++ all_zeros structs old)
    (sym (map-append zero_cell (layered_cells known m.layers m.base) (member_cells known (drop (suc k) ms)))
    ∙ ap (member_zeros structs w.limit) (sym here))

pub member_turns_wait : (structs : Structs) (ms : List ExprType) (k n : ℕ) (m : ExprType) (w : Waiting) (ws new old : List Waiting)
    → k + 1 ≡ n → n ≤ length ms → m ≡ get_or ms k m → w.times ≡ 1 → w.layers.now ≡ m.layers → w.base ≡ m.base
    → all_turns structs ws ≡ member_turns structs w.limit (drop n ms) + all_turns structs old → new ≡ ws ++ w ∷ []
    → all_turns structs new ≡ member_turns structs w.limit (drop k ms) + all_turns structs old
member_turns_wait structs ms k n m w ws new old e within is once ls b h q =
    let known = turns_below structs w.limit in
    let next : n ≡ suc k = omega (arith, e) in
    let here : drop k ms ≡ m ∷ drop (suc k) ms = drop-cons ms k m (omega (arith, e, within)) ∙ ap (λ (x : ExprType). x ∷ drop (suc k) ms) (sym is) in
    let own : waiting_turns structs w ≡ 1 + 1 * (1 + layered_turns known m.layers m.base) =
    ap (λ (t : ℕ). 1 + t * (1 + object_turns structs w)) once
    ∙ ap₂ (λ (l : List Layer) (x : Base). 1 + 1 * (1 + layered_turns known l x)) ls b in
    let pushed = ap (all_turns structs) q ∙ turns_push structs ws w in
    let rest = h ∙ ap (λ (i : ℕ). member_turns structs w.limit (drop i ms) + all_turns structs old) next in
    let front : member_turns structs w.limit (drop k ms) ≡ 1 + 1 * (1 + layered_turns known m.layers m.base) + turns_of_members known (drop (suc k) ms) =
    ap (member_turns structs w.limit) here in
    omega (arith, pushed, own, rest, front)

-- ---- one object

map-repeat : {A B : Type 0} (f : A → B) (n : ℕ) (xs : List A) → map f (repeat n xs) ≡ repeat n (map f xs)
map-repeat f zero xs = refl
map-repeat f (suc n) xs = map-append f xs (repeat n xs) ∙ ap (λ (ys : List _). map f xs ++ ys) (map-repeat f n xs)

-- the elements of an array wait
pub array_waits : (structs : Structs) (next w : Waiting) (n : ℕ) (ws new : List Waiting) → next.layers.now ≡ Array n ∷ w.layers.now → w.times ≡ n → w.base ≡ next.base
    → w.limit ≡ next.limit → new ≡ ws ++ w ∷ [] → all_zeros structs new ≡ object_zeros structs next ++ all_zeros structs ws
array_waits structs next w n ws new is times b limit q =
    let one = layered_cells (cells_below structs w.limit) w.layers.now w.base in
    let own : object_zeros structs next ≡ waiting_zeros structs w =
    ap (λ (ls : List Layer). map zero_cell (layered_cells (cells_below structs next.limit) ls next.base)) is
    ∙ ap₂ (λ (l : ℕ) (x : Base). map zero_cell (repeat n (layered_cells (cells_below structs l) w.layers.now x))) (sym limit) (sym b)
    ∙ ap (λ (t : ℕ). map zero_cell (repeat t one)) (sym times)
    ∙ map-repeat zero_cell w.times one in
    ap (all_zeros structs) q ∙ zeros_push structs ws w ∙ ap (λ (os : List (Option Value)). os ++ all_zeros structs ws) (sym own)

pub array_turns : (structs : Structs) (next w : Waiting) (n : ℕ) (ws new : List Waiting) → next.layers.now ≡ Array n ∷ w.layers.now → w.times ≡ n → w.base ≡ next.base
    → w.limit ≡ next.limit → new ≡ ws ++ w ∷ [] → all_turns structs new ≡ object_turns structs next + all_turns structs ws
array_turns structs next w n ws new is times b limit q =
    let own : object_turns structs next ≡ waiting_turns structs w =
    ap (λ (ls : List Layer). layered_turns (turns_below structs next.limit) ls next.base) is
    ∙ ap₂ (λ (l : ℕ) (x : Base). 1 + n * (1 + layered_turns (turns_below structs l) w.layers.now x)) (sym limit) (sym b)
    ∙ ap (λ (t : ℕ). 1 + t * (1 + object_turns structs w)) (sym times) in
    let pushed = ap (all_turns structs) q ∙ turns_push structs ws w in
    omega (arith, own, pushed)

-- ---- a turn

-- the first one of objects is made, and the others wait
pub next_made : (structs : Structs) (rest left new : List Waiting) (next again : Waiting) (old made : List (Option Value)) → 0 < next.times
    → left ≡ rest ++ again ∷ [] → again.times ≡ next.times - 1 → again.layers.now ≡ next.layers.now → again.base ≡ next.base → again.limit ≡ next.limit
    → made ++ all_zeros structs new ≡ old ++ (object_zeros structs next ++ all_zeros structs left)
    → made ++ all_zeros structs new ≡ old ++ (waiting_zeros structs next ++ all_zeros structs rest)
next_made structs rest left new next again old made some l times layers b limit cells =
    let one = object_zeros structs next in
    let k = next.times - 1 in
    let count : next.times ≡ suc k = omega (arith, some) in
    let first : waiting_zeros structs next ≡ one ++ repeat k one = ap (λ (n : ℕ). repeat n one) count in
    let same : object_zeros structs again ≡ one =
    ap₂ (λ (n : ℕ) (ls : List Layer). map zero_cell (layered_cells (cells_below structs n) ls again.base)) limit layers
    ∙ ap (λ (x : Base). map zero_cell (layered_cells (cells_below structs next.limit) next.layers.now x)) b in
    let others : waiting_zeros structs again ≡ repeat k one = ap₂ (λ (n : ℕ) (os : List (Option Value)). repeat n os) times same in
    let front : waiting_zeros structs next ++ all_zeros structs rest ≡ one ++ all_zeros structs left =
    ap (λ (os : List (Option Value)). os ++ all_zeros structs rest) first
    ∙ append_assoc one (repeat k one) (all_zeros structs rest)
    ∙ ap (λ (os : List (Option Value)). one ++ (os ++ all_zeros structs rest)) (sym others)
    ∙ ap (λ (os : List (Option Value)). one ++ os) (sym (ap (all_zeros structs) l ∙ zeros_push structs rest again)) in
    cells ∙ ap (λ (os : List (Option Value)). old ++ os) (sym front)

pub next_fewer : (structs : Structs) (rest left new : List Waiting) (next again : Waiting) → 0 < next.times
    → left ≡ rest ++ again ∷ [] → again.times ≡ next.times - 1 → again.layers.now ≡ next.layers.now → again.base ≡ next.base → again.limit ≡ next.limit
    → all_turns structs new ≡ object_turns structs next + all_turns structs left
    → all_turns structs new < waiting_turns structs next + all_turns structs rest
next_fewer structs rest left new next again some l times layers b limit turns =
    let k = next.times - 1 in
    let own = object_turns structs next in
    let count : next.times ≡ suc k = omega (arith, some) in
    let same : object_turns structs again ≡ own =
    ap₂ (λ (n : ℕ) (ls : List Layer). layered_turns (turns_below structs n) ls again.base) limit layers
    ∙ ap (λ (x : Base). layered_turns (turns_below structs next.limit) next.layers.now x) b in
    let waits : waiting_turns structs next ≡ 1 + suc k * (1 + own) = ap (λ (n : ℕ). 1 + n * (1 + own)) count in
    let waits_again : waiting_turns structs again ≡ 1 + k * (1 + own) = ap₂ (λ (n t : ℕ). 1 + n * (1 + t)) times same in
    let behind = ap (all_turns structs) l ∙ turns_push structs rest again in
    let product = suc-mul k (1 + own) in
    omega (arith, turns, waits, waits_again, behind, product)

-- none is left of objects
pub none_made : (structs : Structs) (rest : List Waiting) (next : Waiting) (old : List (Option Value)) → next.times ≡ 0
    → old ++ all_zeros structs rest ≡ old ++ (waiting_zeros structs next ++ all_zeros structs rest)
none_made structs rest next old none =
    ap (λ (n : ℕ). old ++ (repeat n (object_zeros structs next) ++ all_zeros structs rest)) (sym none)

pub none_fewer : (structs : Structs) (rest : List Waiting) (next : Waiting) → next.times ≡ 0 → all_turns structs rest < waiting_turns structs next + all_turns structs rest
none_fewer structs rest next none =
    let waits : waiting_turns structs next ≡ 1 + 0 * (1 + object_turns structs next) = ap (λ (n : ℕ). 1 + n * (1 + object_turns structs next)) none in
    omega (arith, waits)

-- what is made and what waits stay the same together
pub made_turn : (structs : Structs) (all rest new : List Waiting) (next : Waiting) (old made total : List (Option Value)) → all ≡ rest ++ next ∷ []
    → made ++ all_zeros structs new ≡ old ++ (waiting_zeros structs next ++ all_zeros structs rest) → old ++ all_zeros structs all ≡ total
    → made ++ all_zeros structs new ≡ total
made_turn structs all rest new next old made total e cells h =
    cells ∙ ap (λ (os : List (Option Value)). old ++ os) (sym (ap (all_zeros structs) e ∙ zeros_push structs rest next)) ∙ h

pub fewer_turn : (structs : Structs) (all rest new : List Waiting) (next : Waiting) → all ≡ rest ++ next ∷ []
    → all_turns structs new < waiting_turns structs next + all_turns structs rest → all_turns structs new < all_turns structs all
fewer_turn structs all rest new next e fewer = let before = ap (all_turns structs) e ∙ turns_push structs rest next in omega (arith, before, fewer)

-- at first the whole object waits
pub first_waits : (structs inside : Structs) (w : Waiting) (ws : List Waiting) (t : ExprType) (limit : ℕ) → inside ≡ structs → limit ≡ length inside → w.limit ≡ limit → w.times ≡ 1
    → w.layers.now ≡ t.layers → w.base ≡ t.base → ws ≡ w ∷ [] → all_zeros structs ws ≡ map zero_cell (cells structs t)
first_waits structs inside w ws t limit same size at once ls b e =
    let count = ap (λ (xs : Structs). length xs) same in
    ap (all_zeros structs) e ∙ ap (λ (n : ℕ). repeat n (object_zeros structs w)) once ∙ append-nil (object_zeros structs w)
    ∙ whole_zeros structs w (at ∙ size ∙ count) ∙ ap₂ (λ (l : List Layer) (x : Base). map zero_cell (cells structs (record { layers = l; base = x }))) ls b

pub all_made : (structs : Structs) (ws rest : List Waiting) (made total : List (Option Value)) → length ws ≡ 0 → made ++ all_zeros structs ws ≡ total → made ≡ total
all_made structs [] rest made total e h = sym (append-nil made) ∙ h
all_made structs (w ∷ ws) rest made total e h = let no : ⊥ = omega (arith, e) in absurd no
