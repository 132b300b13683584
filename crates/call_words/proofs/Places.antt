-- Lists of options and words, place by place.
use Rattle.std.proofs.lemmas.Bool.{cases_lt}
use Rattle.std.proofs.lemmas.List.{map-append, take_all}
use Rattle.std.proofs.Math.Seq.{take-suc}
use Rattle.std.proofs.Common.{◌≡◌, ◌≢◌, inl, inr, ℕ, ◌+◌, ◌-◌, ◌<◌, ◌≤◌, List, [], ◌∷◌, ◌++◌, length, map, take, drop, ap₂, add-one, zero, suc, refl, sym, ap, ◌∙◌, subst, arith, slice_index_or, Bool, true, false, cond, Option, Some}
use Rattle.std.specs.Prelude.{Contains, IsSomeAnd}
use Rattle.std.specs.List.{All, find}
use Rattle.std.specs.Option.{option_map}
use Rattle.std.specs.Str.{IsUtf8, bytes_eq}
use Rattle.std.specs.Borrow.{Bor}
use Rattle.clap.proofs.WalkLemmas.{find_here}
use Rattle.call_words.specs.Sorting.{Bytes}
use Rattle.call_words.specs.Grammar.{Row, AreWanted, EachKnown, EachOnce, EachThere, IsNumber, IsOf, kind_at, kind_of}
use Rattle.call_words.specs.Forms.{texts, pairs, option_view}
use Rattle.call_words.specs.Requests.{CanAsk}
use Rattle.call_words.specs.declared.grammar.Command.TheVariants.{Slice}
use Rattle.call_words.specs.declared.grammar.Kind.{Kind}
use Rattle.call_words.specs.declared.grammar.OptionForm.{OptionForm}

abbrev Options : Type 0
Options = List (Bor Bytes × Bor Bytes)

abbrev names_in : Options → List Bytes
names_in given = map (λ o. o.0) (pairs given)

texts_length : (xs : List (Bor Bytes)) → length (texts xs) ≡ length xs
texts_length [] = refl
texts_length (x ∷ xs) = let rest = texts_length xs in omega (arith, rest)

pairs_length : (given : Options) → length (pairs given) ≡ length given
pairs_length [] = refl
pairs_length (o ∷ os) = let rest = pairs_length os in omega (arith, rest)

names_length : (given : Options) → length (names_in given) ≡ length given
names_length [] = refl
names_length (o ∷ os) = let rest = names_length os in omega (arith, rest)

text_at : (xs : List (Bor Bytes)) (k : ℕ) (e : Bytes) (d : Bor Bytes) → k < length xs → slice_index_or (texts xs) k e ≡ (slice_index_or xs k d).now
text_at [] k e d lt = absurd (omega arith)
text_at (x ∷ xs) zero e d lt = refl
text_at (x ∷ xs) (suc k) e d lt = text_at xs k e d (omega arith)

pair_at : (given : Options) (k : ℕ) (e : Bytes × Bytes) (d : Bor Bytes × Bor Bytes) → k < length given
    → slice_index_or (pairs given) k e ≡ ((slice_index_or given k d).0.now, (slice_index_or given k d).1.now)
pair_at [] k e d lt = absurd (omega arith)
pair_at (o ∷ os) zero e d lt = refl
pair_at (o ∷ os) (suc k) e d lt = pair_at os k e d (omega arith)

name_at : (given : Options) (k : ℕ) (e : Bytes) (d : Bor Bytes × Bor Bytes) → k < length given → slice_index_or (names_in given) k e ≡ (slice_index_or given k d).0.now
name_at [] k e d lt = absurd (omega arith)
name_at (o ∷ os) zero e d lt = refl
name_at (o ∷ os) (suc k) e d lt = name_at os k e d (omega arith)

-- ---- one option

pub given_here : (given : Options) (name : Bytes) (i : ℕ) (d : Bor Bytes × Bor Bytes) → i < length given → (slice_index_or given i d).0.now ≡ name → Contains (names_in given) name
given_here given name i d lt is = let long = names_length given in (i, omega (arith, lt, long), name_at given i name d lt ∙ is)

pub given_nowhere : (given : Options) (name : Bytes) → ((k : ℕ) (d : Bor Bytes × Bor Bytes) → k < length given → (slice_index_or given k d).0.now ≢ name) → Contains (names_in given) name → ⊥
given_nowhere [] name none (k, lt, is) = absurd (omega (arith, lt))
given_nowhere (o ∷ os) name none (k, lt, is) =
    let long = names_length (o ∷ os) in
    let below : k < length (o ∷ os) = omega (arith, lt, long) in
    none k o below (sym (name_at (o ∷ os) k name o below) ∙ is)

pub kind_found : (options : List OptionForm) (name : Bytes)
    → option_map (λ (o : OptionForm). o.kind) (find (λ (o : OptionForm). bytes_eq o.name.now name) options) ≡ option_map (λ (o : Bytes × Kind). o.1) (find (λ (o : Bytes × Kind). bytes_eq o.0 name) (map option_view options))
kind_found [] name = refl
kind_found (o ∷ os) name = go (bytes_eq o.name.now name) (kind_found os name)
  where
    go : (t : Bool) → option_map (λ (o : OptionForm). o.kind) (find (λ (o : OptionForm). bytes_eq o.name.now name) os) ≡ option_map (λ (o : Bytes × Kind). o.1) (find (λ (o : Bytes × Kind). bytes_eq o.0 name) (map option_view os))
        → option_map (λ (o : OptionForm). o.kind) (cond t (Some o) (find (λ (o : OptionForm). bytes_eq o.name.now name) os))
        ≡ option_map (λ (o : Bytes × Kind). o.1) (cond t (Some (option_view o)) (find (λ (o : Bytes × Kind). bytes_eq o.0 name) (map option_view os)))
    go true e = refl
    go false e = e

-- ---- all of them

pub all_once : (given : Options) → ((k j : ℕ) (d : Bor Bytes × Bor Bytes) → k < j → j < length given → (slice_index_or given k d).0.now ≢ (slice_index_or given j d).0.now) → EachOnce (pairs given)
all_once [] differ = λ i j d lt below. absurd (omega (arith, below))
all_once (o ∷ os) differ = λ i j d lt below same.
    let long = pairs_length (o ∷ os) in
    let last : j < length (o ∷ os) = omega (arith, below, long) in
    let first : i < length (o ∷ os) = omega (arith, lt, last) in
    differ i j o lt last (sym (ap (λ (p : Bytes × Bytes). p.0) (pair_at (o ∷ os) i d o first)) ∙ same ∙ ap (λ (p : Bytes × Bytes). p.0) (pair_at (o ∷ os) j d o last))

pub not_once : (given : Options) (i : ℕ) (d : Bor Bytes × Bor Bytes) → i < length given → Contains (names_in (take i given)) (slice_index_or given i d).0.now → EachOnce (pairs given) → ⊥
not_once given i d lt (k, below, is) once =
    let long = names_length (take i given) in
    let short : length (take i given) ≤ i = length-take_le i given in
    let before : k < i = omega (arith, below, long, short) in
    let inside : k < length (take i given) = omega (arith, below, long) in
    let same = sym (name_at (take i given) k (slice_index_or given i d).0.now d inside) ∙ is in
    let here : (slice_index_or given k d).0.now ≡ (slice_index_or given i d).0.now = ap (λ (p : Bor Bytes × Bor Bytes). p.0.now) (sym (take_index given i k d before)) ∙ same in
    let e : Bytes × Bytes = ([], []) in
    let all = pairs_length given in
    once k i e before (omega (arith, lt, all))
    (ap (λ (p : Bytes × Bytes). p.0) (pair_at given k e d (omega (arith, before, lt))) ∙ here ∙ sym (ap (λ (p : Bytes × Bytes). p.0) (pair_at given i e d lt)))
  where
    length-take_le : (i : ℕ) (xs : Options) → length (take i xs) ≤ i
    length-take_le zero xs = omega arith
    length-take_le (suc i) [] = omega arith
    length-take_le (suc i) (x ∷ xs) = let rest = length-take_le i xs in omega (arith, rest)

    take_index : (xs : Options) (i k : ℕ) (d : Bor Bytes × Bor Bytes) → k < i → slice_index_or (take i xs) k d ≡ slice_index_or xs k d
    take_index xs zero k d lt = absurd (omega arith)
    take_index [] (suc i) k d lt = refl
    take_index (x ∷ xs) (suc i) zero d lt = refl
    take_index (x ∷ xs) (suc i) (suc k) d lt = take_index xs i k d (omega arith)

pub all_known : (r : Row) (given : Options) → ((k : ℕ) (d : Bor Bytes × Bor Bytes) → k < length given → IsSomeAnd (kind_of r (slice_index_or given k d).0.now) (λ kind. IsOf kind (slice_index_or given k d).1.now)) → EachKnown r (pairs given)
all_known r [] known = λ k d lt. absurd (omega (arith, lt))
all_known r (o ∷ os) known = λ k d lt.
    let long = pairs_length (o ∷ os) in
    let below : k < length (o ∷ os) = omega (arith, lt, long) in
    subst (λ (p : Bytes × Bytes). IsSomeAnd (kind_of r p.0) (λ kind. IsOf kind p.1)) (sym (pair_at (o ∷ os) k d o below)) (known k o below)

pub not_known : (r : Row) (given : Options) (i : ℕ) (d : Bor Bytes × Bor Bytes) → i < length given
    → (IsSomeAnd (kind_of r (slice_index_or given i d).0.now) (λ kind. IsOf kind (slice_index_or given i d).1.now) → ⊥) → EachKnown r (pairs given) → ⊥
not_known r given i d lt none known =
    let e : Bytes × Bytes = ([], []) in
    let long = pairs_length given in
    none (subst (λ (p : Bytes × Bytes). IsSomeAnd (kind_of r p.0) (λ kind. IsOf kind p.1)) (pair_at given i e d lt) (known i e (omega (arith, lt, long))))

pub all_there : (names : List (Bor Bytes)) (given : List (Bytes × Bytes)) → ((k : ℕ) (d : Bor Bytes) → k < length names → Contains (map (λ o. o.0) given) (slice_index_or names k d).now) → EachThere (texts names) given
all_there [] given there = λ k d lt. absurd (omega (arith, lt))
all_there (n ∷ ns) given there = λ k d lt.
    let long = texts_length (n ∷ ns) in
    let below : k < length (n ∷ ns) = omega (arith, lt, long) in
    subst (λ m. Contains (map (λ (o : Bytes × Bytes). o.0) given) m) (sym (text_at (n ∷ ns) k d n below)) (there k n below)

pub not_there : (names : List (Bor Bytes)) (given : List (Bytes × Bytes)) (i : ℕ) (d : Bor Bytes) → i < length names
    → (Contains (map (λ o. o.0) given) (slice_index_or names i d).now → ⊥) → EachThere (texts names) given → ⊥
not_there names given i d lt none there =
    let long = texts_length names in
    none (subst (λ m. Contains (map (λ (o : Bytes × Bytes). o.0) given) m) (text_at names i [] d lt) (there i [] (omega (arith, lt, long))))

-- ---- the other words

pub all_wanted : (r : Row) (others : List (Bor Bytes)) → length r.wanted ≤ length others
    → ((k : ℕ) (d : Bor Bytes) → k < length others → IsSomeAnd (kind_at r k) (λ kind. IsOf kind (slice_index_or others k d).now)) → AreWanted r (texts others)
all_wanted r [] enough wanted = record { enough = enough; each = λ i lt. absurd (omega (arith, lt)) }
all_wanted r (x ∷ xs) enough wanted =
    let long = texts_length (x ∷ xs) in
    record {
      enough = omega (arith, enough, long);
      each = λ i lt.
          let below : i < length (x ∷ xs) = omega (arith, lt, long) in
          subst (λ w. IsSomeAnd (kind_at r i) (λ kind. IsOf kind w)) (sym (text_at (x ∷ xs) i [] x below)) (wanted i x below);
    }

pub not_wanted : (r : Row) (others : List (Bor Bytes)) (i : ℕ) (d : Bor Bytes) → i < length others
    → (IsSomeAnd (kind_at r i) (λ kind. IsOf kind (slice_index_or others i d).now) → ⊥) → AreWanted r (texts others) → ⊥
not_wanted r others i d lt none wanted =
    let long = texts_length others in
    none (subst (λ w. IsSomeAnd (kind_at r i) (λ kind. IsOf kind w)) (text_at others i [] d lt) (wanted.each i (omega (arith, lt, long))))

pub too_few : (r : Row) (others : List (Bor Bytes)) → length others < length r.wanted → AreWanted r (texts others) → ⊥
too_few r others few wanted =
    let long = texts_length others in
    let enough = wanted.enough in
    omega (arith, few, long, enough)

-- ---- one more turn

pub any_default : {A : Type 0} (xs : List A) (k : ℕ) (d e : A) → k < length xs → slice_index_or xs k d ≡ slice_index_or xs k e
any_default [] k d e lt = absurd (omega arith)
any_default (x ∷ xs) zero d e lt = refl
any_default (x ∷ xs) (suc k) d e lt = any_default xs k d e (omega arith)

pub more_there : (names : List (Bor Bytes)) (P : Bytes → Type 0) (i : ℕ) (d : Bor Bytes) → i < length names → P (slice_index_or names i d).now
    → ((k : ℕ) (e : Bor Bytes) → k < i → P (slice_index_or names k e).now) → (k : ℕ) (e : Bor Bytes) → k < i + 1 → P (slice_index_or names k e).now
more_there names P i d lt here before k e below = elim (cases_lt k i) [
  | inl less ↦ before k e less
  | inr not_less ↦
      let same : i ≡ k = omega (arith, below, not_less) in
      subst (λ n. P (slice_index_or names n e).now) same (subst (λ (s : Bor Bytes). P s.now) (any_default names i d e lt) here)
]

take_place : (xs : Options) (i k : ℕ) (d : Bor Bytes × Bor Bytes) → k < i → slice_index_or (take i xs) k d ≡ slice_index_or xs k d
take_place xs zero k d lt = absurd (omega arith)
take_place [] (suc i) k d lt = refl
take_place (x ∷ xs) (suc i) zero d lt = refl
take_place (x ∷ xs) (suc i) (suc k) d lt = take_place xs i k d (omega arith)

take_long : (xs : Options) (i k : ℕ) → k < i → i ≤ length xs → k < length (take i xs)
take_long xs zero k lt le = absurd (omega arith)
take_long [] (suc i) k lt le = absurd (omega arith)
take_long (x ∷ xs) (suc i) zero lt le = omega arith
take_long (x ∷ xs) (suc i) (suc k) lt le = let rest = take_long xs i k (omega arith) (omega arith) in omega (arith, rest)

pub more_once : (given : Options) (i : ℕ) (d : Bor Bytes × Bor Bytes) → i < length given → (Contains (names_in (take i given)) (slice_index_or given i d).0.now → ⊥)
    → ((k j : ℕ) (e : Bor Bytes × Bor Bytes) → k < j → j < i → (slice_index_or given k e).0.now ≢ (slice_index_or given j e).0.now)
    → (k j : ℕ) (e : Bor Bytes × Bor Bytes) → k < j → j < i + 1 → (slice_index_or given k e).0.now ≢ (slice_index_or given j e).0.now
more_once given i d lt none before k j e less below same = elim (cases_lt j i) [
  | inl earlier ↦ before k j e less earlier same
  | inr not_less ↦
      let is : j ≡ i = omega (arith, below, not_less) in
      let first : k < i = omega (arith, less, is) in
      none (given_here (take i given) _ k e (take_long given i k first (omega (arith, lt)))
      (ap (λ (p : Bor Bytes × Bor Bytes). p.0.now) (take_place given i k e first) ∙ same
      ∙ ap (λ n. (slice_index_or given n e).0.now) is ∙ ap (λ (p : Bor Bytes × Bor Bytes). p.0.now) (any_default given i e d lt)))
]

-- a search along a list stops at the first element that passes
pub first_here : {A : Type 0} (p : A → Bool) (xs : List A) (i : ℕ) (d : A) → i < length xs → p (slice_index_or xs i d) ≡ true → find p (drop i xs) ≡ find p xs
    → Some (slice_index_or xs i d) ≡ find p xs
first_here p xs i d lt passes same = find_here p xs i (slice_index_or xs i d) lt (any_default xs i d (slice_index_or xs i d) lt) passes same

-- ---- words as texts and as numbers

pub number_at : (words : List (Bor Bytes)) (i : ℕ) (d : Bor Bytes) → i < length words → All IsNumber (texts words) → IsNumber (slice_index_or words i d).now
number_at words i d lt all = let long = texts_length words in subst IsNumber (text_at words i [] d lt) (all i [] (omega (arith, lt, long)))

pub not_all_utf8 : (words : List Bytes) (i : ℕ) (d : Bytes) → i < length words → (IsUtf8 (slice_index_or words i d) → ⊥) → All IsUtf8 words → ⊥
not_all_utf8 words i d lt none all = none (all i d lt)

pub text_pushed : (xs ys : List (Bor Bytes)) (x : Bor Bytes) (words : List Bytes) (i : ℕ) (d : Bytes) → i < length words → ys ≡ xs ++ x ∷ [] → x.now ≡ slice_index_or words i d
    → texts xs ≡ take i words → texts ys ≡ take (i + 1) words
text_pushed xs ys x words i d lt pushed is before =
    ap texts pushed ∙ map-append (λ (s : Bor Bytes). s.now) xs (x ∷ []) ∙ ap₂ (λ a b. a ++ b ∷ []) before is
    ∙ sym (take-suc words i d lt) ∙ ap (λ n. take n words) (sym (add-one i))

pub utf8_pushed : (words : List Bytes) (i : ℕ) (d : Bytes) → i < length words → IsUtf8 (slice_index_or words i d) → ((k : ℕ) (e : Bytes) → k < i → IsUtf8 (slice_index_or words k e))
    → (k : ℕ) (e : Bytes) → k < i + 1 → IsUtf8 (slice_index_or words k e)
utf8_pushed words i d lt here before k e below = elim (cases_lt k i) [
  | inl less ↦ before k e less
  | inr not_less ↦
      let same : i ≡ k = omega (arith, below, not_less) in
      subst (λ n. IsUtf8 (slice_index_or words n e)) same (subst IsUtf8 (any_default words i d e lt) here)
]

pub rest_numbers : (others : List (Bor Bytes)) → All IsNumber (drop 1 (texts others)) → All IsNumber (texts (take (length others - 1) (drop 1 others)))
rest_numbers [] all = λ k d lt. absurd (omega (arith, lt))
rest_numbers (o ∷ os) all =
    let whole : take (length (o ∷ os) - 1) os ≡ os = take_all (length (o ∷ os) - 1) os (omega arith) in
    subst (λ rest. All IsNumber (texts rest)) (sym whole) all

-- behind the file stand numbers of lines
pub line_numbers : (others : List (Bor Bytes)) (value : Bytes → Option Bytes) → CanAsk Slice (texts others) value → All IsNumber (texts (take (length others - 1) (drop 1 others)))
line_numbers others value can = rest_numbers others can.1
