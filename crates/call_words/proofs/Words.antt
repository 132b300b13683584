-- What words are to the lexer of `clap`, and lists of words in order.
use Rattle.std.proofs.Common.{◌≡◌, ◌≢◌, ◌==◌, Bool, true, false, cond, suc, List, [], ◌∷◌, ◌++◌, refl, sym, ap, ◌∙◌, arith, Option, Some, None}
use Rattle.std.specs.List.{find, list_any, All, AllPairs}
use Rattle.std.specs.Option.{option_map}
use Rattle.std.specs.Str.{bytes_eq}
use Rattle.std.proofs.lemmas.Slice.Eq.{bytes_eq-Decides}
use Rattle.clap.specs.Lexer.{long_of, short_of}
use Rattle.call_words.specs.Sorting.{Bytes}
use Rattle.call_words.specs.Requests.{value_given}

-- ---- words that begin with no hyphen

abbrev pub dashes : Bytes → Bool
dashes [] = false
dashes (b ∷ bs) = b == 45

pub plain_long : (w : Bytes) → dashes w ≡ false → long_of w ≡ None
plain_long [] e = refl
plain_long (b ∷ bs) e = rw e refl

pub plain_short : (w : Bytes) → dashes w ≡ false → short_of w ≡ None
plain_short [] e = refl
plain_short (b ∷ bs) e = rw e refl

pub plain_escape : (w : Bytes) → dashes w ≡ false → bytes_eq w (45 ∷ 45 ∷ []) ≡ false
plain_escape [] e = refl
plain_escape (b ∷ bs) e = rw e refl

-- an option's word is no `--`
pub long_escape : (w name : Bytes) (v : Option Bytes) → long_of w ≡ Some (name, v) → bytes_eq w (45 ∷ 45 ∷ []) ≡ false
long_escape w name v e = go (bytes_eq w (45 ∷ 45 ∷ [])) refl
  where
    go : (t : Bool) → bytes_eq w (45 ∷ 45 ∷ []) ≡ t → t ≡ false
    go false same = refl
    go true same =
        let is : w ≡ 45 ∷ 45 ∷ [] = (bytes_eq-Decides w (45 ∷ 45 ∷ [])).0 same in
        let none : long_of (45 ∷ 45 ∷ []) ≡ None = refl in
        let bad : ◌≡◌ {A = Option (Bytes × Option Bytes)} None (Some (name, v)) = sym none ∙ ap long_of (sym is) ∙ e in
        absurd cc

-- ---- names

pub same_name : (n : Bytes) → bytes_eq n n ≡ true
same_name n = (bytes_eq-Decides n n).1 refl

pub is_name : (m n : Bytes) → bytes_eq m n ≡ true → m ≡ n
is_name m n = (bytes_eq-Decides m n).0

-- two names that differ
pub other_name : (m n : Bytes) → (m ≡ n → ⊥) → bytes_eq m n ≡ false
other_name m n ne = go (bytes_eq m n) refl
  where
    go : (t : Bool) → bytes_eq m n ≡ t → t ≡ false
    go false e = refl
    go true e = absurd (ne (is_name m n e))

abbrev pub knows : List Bytes → Bytes → Bool
knows names n = list_any (λ m. bytes_eq m n) names

-- ---- lists of words, one after another

abbrev pub Each : {A : Type 0} → (A → Type 0) → List A → Type 0
Each P [] = Unit {0}
Each P (x ∷ xs) = P x × Each P xs

pub each_of : {A : Type 0} (P : A → Type 0) (xs : List A) → All P xs → Each P xs
each_of P [] all = tt
each_of P (x ∷ xs) all = (all 0 x (omega arith), each_of P xs (λ k d lt. all (suc k) d (omega arith)))

pub each_map : {A : Type 0} (P Q : A → Type 0) (xs : List A) → ((x : A) → P x → Q x) → Each P xs → Each Q xs
each_map P Q [] f all = tt
each_map P Q (x ∷ xs) f all = (f x all.0, each_map P Q xs f all.1)

pub each_split : {A : Type 0} (P : A → Type 0) (xs : List A) (y : A) → Each P (xs ++ y ∷ []) → Each P xs × P y
each_split P [] y all = (tt, all.0)
each_split P (x ∷ xs) y all = let rest = each_split P xs y all.1 in ((all.0, rest.0), rest.1)

abbrev pub Given : Type 0
Given = List (Bytes × Bytes)

abbrev pub Others : Bytes × Bytes → Bytes × Bytes → Type 0
Others o p = o.0 ≡ p.0 → ⊥

-- no two of the options have one name
abbrev pub Once : Given → Type 0
Once [] = Unit {0}
Once (o ∷ os) = Each (Others o) os × Once os

pub once_of : (os : Given) → AllPairs (λ (o p : Bytes × Bytes). o.0 ≢ p.0) os → Once os
once_of [] all = tt
once_of (o ∷ os) all = (
  each_of (Others o) os (λ k d lt. all 0 (suc k) d (omega arith) (omega arith)),
  once_of os (λ i j d lt below. all (suc i) (suc j) d (omega arith) (omega arith)),
)

pub once_split : (os : Given) (p : Bytes × Bytes) → Once (os ++ p ∷ []) → Once os × Each (λ o. Others o p) os
once_split [] p once = (tt, tt)
once_split (o ∷ os) p once =
    let first = each_split (Others o) os p once.0 in
    let rest = once_split os p once.1 in
    ((first.0, rest.0), (first.1, rest.1))

-- the value of an option among those that were given, and one more
pub none_given : (os : Given) (n v : Bytes) → Each (λ o. Others o (n, v)) os → value_given os n ≡ None
none_given [] n v all = refl
none_given (o ∷ os) n v all = let miss : bytes_eq o.0 n ≡ false = other_name o.0 n all.0 in rw miss (none_given os n v all.1)

pub given_last : (os : Given) (n v : Bytes) → Each (λ o. Others o (n, v)) os → value_given (os ++ (n, v) ∷ []) n ≡ Some v
given_last [] n v all = rw (same_name n) refl
given_last (o ∷ os) n v all = let miss : bytes_eq o.0 n ≡ false = other_name o.0 n all.0 in rw miss (given_last os n v all.1)

pub given_other : (os : Given) (n v m : Bytes) → bytes_eq n m ≡ false → value_given (os ++ (n, v) ∷ []) m ≡ value_given os m
given_other [] n v m ne = rw ne refl
given_other (o ∷ os) n v m ne = go (bytes_eq o.0 m) (given_other os n v m ne)
  where
    go : (t : Bool) → value_given (os ++ (n, v) ∷ []) m ≡ value_given os m
        → option_map (λ (p : Bytes × Bytes). p.1) (cond t (Some o) (find (λ (p : Bytes × Bytes). bytes_eq p.0 m) (os ++ (n, v) ∷ [])))
        ≡ option_map (λ (p : Bytes × Bytes). p.1) (cond t (Some o) (find (λ (p : Bytes × Bytes). bytes_eq p.0 m) os))
    go true e = refl
    go false e = e
