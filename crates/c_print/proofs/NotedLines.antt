-- Lines that are written down by their numbers.
use Rattle.std.proofs.Common.{◌≡◌, ◌≢◌, ℕ, zero, suc, ◌+◌, ◌-◌, ◌<◌, ◌≤◌, ◌==◌, List, [], ◌∷◌, ◌++◌, length, map, take, get_or, append_assoc, append-nil, replicate, set, slice_get, Some, arith, refl, sym, ap, ◌∙◌}
use Rattle.std.proofs.lemmas.Bool.{eq-eqb, ne_eqb}
use Rattle.std.proofs.lemmas.List.{set_past}
use Rattle.c_tree.specs.Numbered.{Starts, start}
use Rattle.c_print.specs.Lines.{Placed, heights, starts_from, block_starts, line_if, line_among, noted}

-- the number itself, and another one
met : (id l before : ℕ) → line_if (id == id) l before ≡ l
met id l before = rw (eq-eqb id id refl) refl

missed : (a id l before : ℕ) → a ≢ id → line_if (a == id) l before ≡ before
missed a id l before h = rw (ne_eqb a id h) refl

pub cons_both : {A : Type 0} {a b : A} {xs ys : List A} → a ≡ b → xs ≡ ys → (a ∷ xs) ≡ (b ∷ ys)
cons_both {A} {a} {b} {xs} {ys} e es = ap (λ (x : A). x ∷ xs) e ∙ ap (λ (x : List A). b ∷ x) es

-- nothing is written down
pub noted_nothing : (first : ℕ) (ls : List ℕ) → noted first [] ls ≡ ls
noted_nothing first [] = refl
noted_nothing first (l ∷ ls) = ap (λ (x : List ℕ). l ∷ x) (noted_nothing (suc first) ls)

among-append : (id : ℕ) (ss ts : Starts) (before : ℕ) → line_among id (ss ++ ts) before ≡ line_among id ts (line_among id ss before)
among-append id [] ts before = refl
among-append id (s ∷ ss) ts before = among-append id ss ts (line_if (s.id == id) s.line before)

-- some, and then others
pub noted_both : (first : ℕ) (ss ts : Starts) (ls : List ℕ) → noted first (ss ++ ts) ls ≡ noted first ts (noted first ss ls)
noted_both first ss ts [] = refl
noted_both first ss ts (l ∷ ls) = cons_both (among-append first ss ts l) (noted_both (suc first) ss ts ls)

-- a number below the first
pub noted_below : (first id l : ℕ) (ls : List ℕ) → id < first → noted first (start id l ∷ []) ls ≡ ls
noted_below first id l [] h = refl
noted_below first id l (x ∷ ls) h =
    cons_both (missed id first l x (λ e. omega (arith, h, e))) (noted_below (suc first) id l ls (omega (arith, h)))

noted_one_at : (ls : List ℕ) (k first id l : ℕ) → id ≡ first + k → set ls k l ≡ noted first (start id l ∷ []) ls
noted_one_at [] k first id l h = refl
noted_one_at (x ∷ ls) zero first id l h =
    let e : id ≡ first = omega (arith, h) in
    sym (cons_both (ap (λ (n : ℕ). line_if (n == first) l x) e ∙ met first l x) (noted_below (suc first) id l ls (omega (arith, h))))
noted_one_at (x ∷ ls) (suc k) first id l h =
    cons_both (sym (missed id first l x (λ e. omega (arith, h, e)))) (noted_one_at ls k (suc first) id l (omega (arith, h)))

-- a number from the first on
pub noted_one : (ls : List ℕ) (first id l : ℕ) → first ≤ id → set ls (id - first) l ≡ noted first (start id l ∷ []) ls
noted_one ls first id l h = noted_one_at ls (id - first) first id l (omega (arith, h))

-- a number past the last
pub noted_past : (ls : List ℕ) (first id l : ℕ) → first ≤ id → length ls ≤ id - first → ls ≡ noted first (start id l ∷ []) ls
noted_past ls first id l h past = sym (set_past ls (id - first) l past) ∙ noted_one ls first id l h

pub noted_length : (first : ℕ) (ss : Starts) (ls : List ℕ) → length (noted first ss ls) ≡ length ls
noted_length first ss [] = refl
noted_length first ss (l ∷ ls) = ap suc (noted_length (suc first) ss ls)

-- what stands at each number
noted_at : (first : ℕ) (ss : Starts) (n k id : ℕ) → k < n → id ≡ first + k → slice_get (noted first ss (replicate n 0)) k ≡ Some (line_among id ss 0)
noted_at first ss zero k id h e = absurd (omega (arith, h))
noted_at first ss (suc n) zero id h e = let f : first ≡ id = omega (arith, e) in ap (λ (x : ℕ). Some (line_among x ss 0)) f
noted_at first ss (suc n) (suc k) id h e = noted_at (suc first) ss n k id (omega (arith, h)) (omega (arith, e))

pub all_noted : (ss : Starts) (n id : ℕ) → id < n → slice_get (noted 0 ss (replicate n 0)) id ≡ Some (line_among id ss 0)
all_noted ss n id h = noted_at 0 ss n id id h (omega arith)

-- ---- one statement after another

-- one more is as many lines more
pub heights_more : {X : Type 0} (f : X → Placed) (xs : List X) (i : ℕ) (d : X) → i < length xs → heights (map f (take (i + 1) xs)) ≡ heights (map f (take i xs)) + (f (get_or xs i d)).height
heights_more f [] i d h = absurd (omega (arith, h))
heights_more f (x ∷ xs) zero d h = omega arith
heights_more {X} f (x ∷ xs) (suc i) d h =
    let k : suc i + 1 ≡ suc (i + 1) = omega arith in
    ap (λ (k : ℕ). heights (map f (take k (x ∷ xs)))) k ∙ (let e = heights_more f xs i d (omega (arith, h)) in omega (arith, e))

-- some of them are at most as many lines as all
pub heights_within : {X : Type 0} (f : X → Placed) (xs : List X) (i : ℕ) → heights (map f (take i xs)) ≤ heights (map f xs)
heights_within f [] zero = omega arith
heights_within f [] (suc i) = omega arith
heights_within f (x ∷ xs) zero = omega arith
heights_within f (x ∷ xs) (suc i) = let h = heights_within f xs i in omega (arith, h)

pub starts_more : {X : Type 0} (f : X → Placed) (xs : List X) (i : ℕ) (d : X) (n : ℕ) → i < length xs
    → block_starts (map f (take (i + 1) xs)) n ≡ block_starts (map f (take i xs)) n ++ starts_from (f (get_or xs i d)) (n + heights (map f (take i xs)))
starts_more f [] i d n h = absurd (omega (arith, h))
starts_more f (x ∷ xs) zero d n h =
    let k : n ≡ n + 0 = omega arith in
    append-nil (starts_from (f x) n) ∙ ap (starts_from (f x)) k
starts_more f (x ∷ xs) (suc i) d n h =
    let k : suc i + 1 ≡ suc (i + 1) = omega arith in
    let m : (n + (f x).height) + heights (map f (take i xs)) ≡ n + ((f x).height + heights (map f (take i xs))) = omega arith in
    ap (λ (k : ℕ). block_starts (map f (take k (x ∷ xs))) n) k
    ∙ ap (λ (y : Starts). starts_from (f x) n ++ y) (starts_more f xs i d (n + (f x).height) (omega (arith, h)))
    ∙ sym (append_assoc (starts_from (f x) n) (block_starts (map f (take i xs)) (n + (f x).height)) (starts_from (f (get_or xs i d)) ((n + (f x).height) + heights (map f (take i xs)))))
    ∙ ap (λ (k : ℕ). (starts_from (f x) n ++ block_starts (map f (take i xs)) (n + (f x).height)) ++ starts_from (f (get_or xs i d)) k) m

-- a turn of the loop: the line behind one more
pub turn_next : {X : Type 0} (f : X → Placed) (xs : List X) (i : ℕ) (x : X) (line next behind : ℕ) → i < length xs → x ≡ get_or xs i x
    → next ≡ line + heights (map f (take i xs)) → behind ≡ next + (f x).height → behind ≡ line + heights (map f (take (i + 1) xs))
turn_next f xs i x line next behind h is n b =
    let e = heights_more f xs i x h in
    let g : (f x).height ≡ (f (get_or xs i x)).height = ap (λ y. (f y).height) is in
    omega (arith, n, b, e, g)

-- one of them is at most as many lines as all
pub turn_within : {X : Type 0} (f : X → Placed) (xs : List X) (i : ℕ) (x : X) → i < length xs → x ≡ get_or xs i x → (f x).height ≤ heights (map f xs)
turn_within f xs i x h is =
    let e = heights_more f xs i x h in
    let g : (f x).height ≡ (f (get_or xs i x)).height = ap (λ y. (f y).height) is in
    let w = heights_within f xs (i + 1) in
    omega (arith, e, g, w)

-- the next one fits where all do
pub turn_fits : {X : Type 0} (f : X → Placed) (xs : List X) (i : ℕ) (x : X) (line next most : ℕ) → i < length xs → x ≡ get_or xs i x
    → next ≡ line + heights (map f (take i xs)) → line + heights (map f xs) < most → next + (f x).height < most
turn_fits f xs i x line next most h is n m =
    let e = turn_next f xs i x line next (next + (f x).height) h is n refl in
    let w = heights_within f xs (i + 1) in
    omega (arith, e, w, m)

-- what is written down for one more
pub turn_noted : {X : Type 0} (f : X → Placed) (xs : List X) (i : ℕ) (x : X) (first line next : ℕ) (old out new : List ℕ) → i < length xs → x ≡ get_or xs i x
    → next ≡ line + heights (map f (take i xs)) → out ≡ noted first (block_starts (map f (take i xs)) line) old → new ≡ noted first (starts_from (f x) next) out
    → new ≡ noted first (block_starts (map f (take (i + 1) xs)) line) old
turn_noted f xs i x first line next old out new h is n p q =
    q ∙ ap (noted first (starts_from (f x) next)) p
    ∙ sym (noted_both first (block_starts (map f (take i xs)) line) (starts_from (f x) next) old)
    ∙ ap (λ (y : Starts). noted first (block_starts (map f (take i xs)) line ++ y) old) (ap (λ y. starts_from (f y) next) is ∙ ap (starts_from (f (get_or xs i x))) n)
    ∙ ap (λ (y : Starts). noted first y old) (sym (starts_more f xs i x line h))

-- ---- one part after another

pub then_noted : (first : ℕ) (ss ts : Starts) (old between new : List ℕ) → between ≡ noted first ss old → new ≡ noted first ts between → new ≡ noted first (ss ++ ts) old
then_noted first ss ts old between new p q = q ∙ ap (noted first ts) p ∙ sym (noted_both first ss ts old)
