-- A look-up in a table of names is that of a scope.
use Rattle.std.proofs.Common.{◌≡◌, ℕ, zero, suc, ◌<◌, ◌≤◌, List, [], ◌∷◌, drop, Bool, true, false, cond, refl, sym, ap, ◌∙◌, arith, lt-ltb, le-ltb}
use Rattle.std.specs.Prelude.{map, option_map, bytes_eq, nat_lt, if◌then◌else◌, Option, Some, None, position}
use Rattle.std.specs.List.{AllByRecursion, IsDistinct}
use Rattle.std.specs.Map.{lookup, keys_of}
use Rattle.std.proofs.lemmas.Bool.Decides.{nat_tests}
use Rattle.std.proofs.lemmas.List.{drop-map}
use Rattle.std.proofs.lemmas.Map.Keys.{IsDistinct-head, IsDistinct-tail}
use Rattle.std.proofs.lemmas.Slice.Eq.{bytes_eq-Decides}
use Rattle.std.specs.Borrow.{Bor}
use Rattle.c_language.specs.Scopes.{Entry, found_in}
use Rattle.c_language.proofs.Lists.{position-cons}
use Rattle.c_types_base.specs.declared.names.Meaning.{Meaning}
use Rattle.c_types_base.specs.Names.{meaning_of, entry_of}

by_test : (b : Bool) (e : Bor (List ℕ) × Meaning) (rest : Option Meaning) (found : Option Entry)
    → option_map meaning_of rest ≡ option_map (λ (x : Entry). x.meaning) found
    → option_map meaning_of (if b then Some e.1 else rest) ≡ option_map (λ (x : Entry). x.meaning) (if b then Some (entry_of e) else found)
by_test true e rest found h = refl
by_test false e rest found h = h

pub found_lookup : (q : List ℕ) (es : List (Bor (List ℕ) × Meaning)) → option_map meaning_of (lookup (λ (k : Bor (List ℕ)). bytes_eq q k.now) es) ≡ found_in q (map entry_of es)
found_lookup q [] = refl
found_lookup q (e ∷ es) = by_test (bytes_eq q e.0.now) e _ _ (found_lookup q es)

-- ---- behind the first entries

-- a value that is found at a place, if that is behind the first ones
abbrev pub if_behind : {A : Type 0} → ℕ → Option ℕ → Option A → Option A
if_behind n None o = None
if_behind n (Some i) o = if nat_lt i n then None else o

before_nothing : (i : ℕ) → nat_lt i 0 ≡ false
before_nothing i = grind (arith, nat_tests)

pub first_within : (n : ℕ) → nat_lt 0 (suc n) ≡ true
first_within n = grind (arith, nat_tests)

one_later : (i n : ℕ) → nat_lt (suc i) (suc n) ≡ nat_lt i n
one_later i n = grind (arith, nat_tests)

module _ {K X : Type 0} (same : K → K → Bool) (p : K → Bool) (told : (k j : K) → p k ≡ true → same k j ≡ false → p j ≡ false) where
  unfound : (n : ℕ) (es : List (K × X)) (k : K) → p k ≡ true → AllByRecursion (λ y. same k y ≡ false) (keys_of es) → lookup p (drop n es) ≡ None
  unfound zero [] k is h = refl
  unfound (suc n) [] k is h = refl
  unfound zero (e ∷ es) k is h = rw (told k e.0 is h.0) (unfound zero es k is h.1)
  unfound (suc n) (e ∷ es) k is h = unfound n es k is h.1

  all_behind : (es : List (K × X)) → if_behind 0 (position p (keys_of es)) (lookup p es) ≡ lookup p es
  all_behind [] = refl
  all_behind (e ∷ es) = by_place (p e.0) (position p (keys_of es)) (position-cons p e.0 (keys_of es)) (all_behind es)
    where
      by_place : (b : Bool) (o : Option ℕ) → position p (keys_of (e ∷ es)) ≡ cond b (Some 0) (option_map suc o) → if_behind 0 o (lookup p es) ≡ lookup p es
          → if_behind 0 (position p (keys_of (e ∷ es))) (cond b (Some e.1) (lookup p es)) ≡ cond b (Some e.1) (lookup p es)
      by_place true o is h = rw is refl
      by_place false None is h = rw is h
      by_place false (Some i) is h = rw is (rw (before_nothing (suc i)) refl)

  pub found_behind : (n : ℕ) (es : List (K × X)) → IsDistinct same (keys_of es) → lookup p (drop n es) ≡ if_behind n (position p (keys_of es)) (lookup p es)
  found_behind zero es h = sym (all_behind es)
  found_behind (suc n) [] h = refl
  found_behind (suc n) (e ∷ es) h = by_place (p e.0) refl (position p (keys_of es)) (position-cons p e.0 (keys_of es)) (found_behind n es (IsDistinct-tail same e.0 (keys_of es) h))
    where
      by_place : (b : Bool) → p e.0 ≡ b → (o : Option ℕ) → position p (keys_of (e ∷ es)) ≡ cond b (Some 0) (option_map suc o) → lookup p (drop n es) ≡ if_behind n o (lookup p es)
          → lookup p (drop n es) ≡ if_behind (suc n) (position p (keys_of (e ∷ es))) (cond b (Some e.1) (lookup p es))
      by_place true seen o is ih = rw is (rw (first_within n) (unfound n es e.0 seen (IsDistinct-head same e.0 (keys_of es) h)))
      by_place false seen None is ih = rw is ih
      by_place false seen (Some i) is ih = rw is (rw (one_later i n) ih)

abbrev same_bytes : Bor (List ℕ) → Bor (List ℕ) → Bool
same_bytes a b = bytes_eq a.now b.now

-- another name than one that is looked for isn't looked for
other_name : (q : List ℕ) (k j : Bor (List ℕ)) → bytes_eq q k.now ≡ true → same_bytes k j ≡ false → bytes_eq q j.now ≡ false
other_name q k j is other = ap (λ (w : List ℕ). bytes_eq w j.now) ((bytes_eq-Decides q k.now).0 is) ∙ other

-- what a name stands for behind the first entries
pub names_behind : (q : List ℕ) (n : ℕ) (es : List (Bor (List ℕ) × Meaning)) (o : Option ℕ) → o ≡ position (λ (k : Bor (List ℕ)). bytes_eq q k.now) (keys_of es) → IsDistinct same_bytes (keys_of es)
    → option_map meaning_of (if_behind n o (lookup (λ (k : Bor (List ℕ)). bytes_eq q k.now) es)) ≡ found_in q (drop n (map entry_of es))
names_behind q n es o found h =
    ap (λ (p : Option ℕ). option_map meaning_of (if_behind n p (lookup (λ (k : Bor (List ℕ)). bytes_eq q k.now) es))) found
    ∙ ap (option_map meaning_of) (sym (found_behind same_bytes (λ (k : Bor (List ℕ)). bytes_eq q k.now) (other_name q) n es h))
    ∙ found_lookup q (drop n es) ∙ ap (found_in q) (sym (drop-map entry_of n es))

module _ (q : List ℕ) (n i : ℕ) (es : List (Bor (List ℕ) × Meaning)) (found : Some i ≡ position (λ (k : Bor (List ℕ)). bytes_eq q k.now) (keys_of es)) (distinct : IsDistinct same_bytes (keys_of es)) where
  pub none_behind : i < n → None ≡ found_in q (drop n (map entry_of es))
  none_behind h =
      ap (λ (b : Bool). option_map meaning_of (if b then None else lookup (λ (k : Bor (List ℕ)). bytes_eq q k.now) es)) (sym (lt-ltb i n h))
      ∙ names_behind q n es (Some i) found distinct

  pub same_behind : n ≤ i → option_map meaning_of (lookup (λ (k : Bor (List ℕ)). bytes_eq q k.now) es) ≡ found_in q (drop n (map entry_of es))
  same_behind h =
      ap (λ (b : Bool). option_map meaning_of (if b then None else lookup (λ (k : Bor (List ℕ)). bytes_eq q k.now) es)) (sym (le-ltb i n h))
      ∙ names_behind q n es (Some i) found distinct
