-- A loop turn by turn: a recursion on a count of turns beside one that counts up, and what is left of a list.
use Rattle.std.proofs.Common.{◌≡◌, ℕ, zero, suc, ◌+◌, ◌-◌, ◌<◌, ◌≤◌, List, [], ◌∷◌, ◌++◌, map, length, get_or, drop, take, append_assoc, append-nil, sym, ap, ap₂, ◌∙◌, arith}
use Rattle.std.proofs.lemmas.List.{drop_more, take_more, map-append}

pub one_more : {X : Type 0} {x : X} (f : ℕ → X) (n at : ℕ) → at < n → x ≡ f (n - at) → x ≡ f (suc (n - (at + 1)))
one_more f n at below e = let turn : n - at ≡ suc (n - (at + 1)) = omega arith in e ∙ ap f turn

pub no_more : {X : Type 0} {x : X} (f : ℕ → X) (n at : ℕ) → n ≤ at → x ≡ f (n - at) → x ≡ f 0
no_more f n at done e = let none : n - at ≡ 0 = omega arith in e ∙ ap f none

-- a depth at which one may go deeper
pub deeper : {X : Type 0} (f : ℕ → X) (n : ℕ) → 0 < n → f n ≡ f (suc (n - 1))
deeper f n some = let e : n ≡ suc (n - 1) = omega arith in ap f e

-- the element of a turn, and what is still to come
pub drop_turn : {A : Type 0} (xs : List A) (i : ℕ) (x : A) → i < length xs → x ≡ get_or xs i x → drop i xs ≡ x ∷ drop (i + 1) xs
drop_turn xs i x within is = drop_more xs i x within ∙ ap (λ y. y ∷ drop (i + 1) xs) (sym is)

-- a turn of a loop that collects what a function gives for each element
pub map_turn : {X Y : Type 0} (f : X → Y) (xs : List X) (i : ℕ) (x : X) (old : List Y) (y : Y) (new : List Y) → i < length xs → x ≡ get_or xs i x
    → old ≡ map f (take i xs) → y ≡ f x → new ≡ old ++ y ∷ [] → new ≡ map f (take (i + 1) xs)
map_turn f xs i x old y new within is before gives pushed =
    pushed ∙ ap₂ (λ (ys : List _) (z : _). ys ++ z ∷ []) before gives ∙ sym (map-append f (take i xs) (x ∷ []))
    ∙ ap (map f) (sym (take_more xs i x within ∙ ap (λ z. take i xs ++ z ∷ []) (sym is)))

-- ---- a loop that appends a list for each element

-- all is what one gives for each element, one after another
pub record IsEach {X Y : Type 0} (one : X → List Y) (all : List X → List Y) : Type 0 where
  pub at_nothing : all [] ≡ []
  pub at_more : (x : X) (xs : List X) → all (x ∷ xs) ≡ one x ++ all xs

-- one element more
each_more : {X Y : Type 0} {one : X → List Y} {all : List X → List Y} → IsEach one all → (xs : List X) (i : ℕ) (d : X) → i < length xs → all (take (i + 1) xs) ≡ all (take i xs) ++ one (get_or xs i d)
each_more e [] i d h = absurd (omega arith)
each_more {one} {all} e (x ∷ xs) zero d h =
    e.at_more x [] ∙ ap (λ y. one x ++ y) e.at_nothing ∙ append-nil (one x) ∙ sym (ap (λ y. y ++ one x) e.at_nothing)
each_more {one} {all} e (x ∷ xs) (suc i) d h =
    let k : suc i + 1 ≡ suc (i + 1) = omega arith in
    ap (λ (k : ℕ). all (take k (x ∷ xs))) k ∙ e.at_more x (take (i + 1) xs) ∙ ap (λ y. one x ++ y) (each_more e xs i d (omega arith)) ∙ sym (append_assoc (one x) (all (take i xs)) (one (get_or xs i d))) ∙ sym (ap (λ y. y ++ one (get_or xs i d)) (e.at_more x (take i xs)))

-- a turn of the loop that appends them
pub each_turn_at : {X Y : Type 0} {one : X → List Y} {all : List X → List Y} → IsEach one all → (xs : List X) (i : ℕ) (d : X) (start out new : List Y) → i < length xs → out ≡ start ++ all (take i xs) → new ≡ out ++ one (get_or xs i d) → new ≡ start ++ all (take (i + 1) xs)
each_turn_at {one} {all} e xs i d start out new h p q =
    q ∙ ap (λ y. y ++ one (get_or xs i d)) p ∙ append_assoc start (all (take i xs)) (one (get_or xs i d)) ∙ ap (λ y. start ++ y) (sym (each_more e xs i d h))

-- the same, where the element is known by a name
pub each_turn : {X Y : Type 0} {one : X → List Y} {all : List X → List Y} → IsEach one all → (xs : List X) (i : ℕ) (x : X) (start out new : List Y) → i < length xs → x ≡ get_or xs i x → out ≡ start ++ all (take i xs) → new ≡ out ++ one x → new ≡ start ++ all (take (i + 1) xs)
each_turn {one} e xs i x start out new h is p q = each_turn_at e xs i x start out new h p (q ∙ ap (λ y. out ++ one y) is)
