-- A table of names has the first place of each name.
use Rattle.std.proofs.Common.{◌≡◌, ℕ, suc, ◌+◌, List, [], ◌∷◌, ◌++◌, length, Bool, true, false, cond, Option, Some, None, option_map, position, find, slice_get, option_and_then, bytes_eq, is_some, true≢false, refl, sym, ap, ◌∙◌, arith}
use Rattle.std.proofs.lemmas.Slice.Eq.{bytes_eq-Decides as bytes_decides}
use Rattle.std.proofs.lemmas.List.{length-append}
use Rattle.std.specs.Map.{update}
use Rattle.c_language.specs.Words.{Bytes}
use Rattle.c_language.proofs.Lists.{position-cons}
use Rattle.c_types_base.specs.declared.numbering.Numbering.{Numbering}
use Rattle.c_types_base.specs.Numbering.{Numbers, number_among, number_in}

-- the first of two that is there
abbrev pub or_else : {A : Type 0} → Option A → Option A → Option A
or_else (Some x) b = Some x
or_else None b = b

shifted : (b d : Bool) (o : Option ℕ) (n : ℕ)
    → cond b (Some 0) (option_map suc (or_else o (cond d (Some n) None))) ≡ or_else (cond b (Some 0) (option_map suc o)) (cond d (Some (suc n)) None)
shifted true d o n = refl
shifted false d (Some k) n = refl
shifted false true None n = refl
shifted false false None n = refl

pub position-push : {X : Type 0} (p : X → Bool) (x : X) (xs : List X) → position p (xs ++ x ∷ []) ≡ or_else (position p xs) (cond (p x) (Some (length xs)) None)
position-push p x [] = position-cons p x []
position-push p x (y ∷ ys) =
    position-cons p y (ys ++ x ∷ []) ∙ ap (λ o. cond (p y) (Some 0) (option_map suc o)) (position-push p x ys)
    ∙ shifted (p y) (p x) (position p ys) (length ys) ∙ sym (ap (λ o. or_else o (cond (p x) (Some (suc (length ys))) None)) (position-cons p y ys))

-- one more name at the end of a list
among-push : (names : List Bytes) (name q : Bytes) → number_among (names ++ name ∷ []) q ≡ or_else (number_among names q) (cond (bytes_eq name q) (Some (length names)) None)
among-push names name q = position-push (λ (x : Bytes). bytes_eq x q) name names

pub or_else-None : {A : Type 0} (o : Option A) → or_else o None ≡ o
or_else-None None = refl
or_else-None (Some x) = refl

or_else-there : {A : Type 0} (o b : Option A) → is_some o ≡ true → or_else o b ≡ o
or_else-there None b h = absurd (true≢false (sym h))
or_else-there (Some x) b h = refl

absent : {A : Type 0} (o b : Option A) → o ≡ None → or_else o b ≡ b
absent {A = A} o b h = ap (λ (x : Option A). or_else x b) h

module _ (names : List Bytes) (name : Bytes) (old new : Numbering) (is : Numbers names old) (next : new.count ≡ old.count + 1) where
  new_at : (b : Bool) (q : Bytes) → bytes_eq name q ≡ b → number_in old name ≡ None → number_in new q ≡ cond b (Some old.count) (number_in old q)
      → number_in new q ≡ or_else (number_among names q) (cond b (Some (length names)) None)
  new_at true q e none gives =
      gives ∙ ap Some is.count ∙ sym (absent (number_among names q) (Some (length names)) (ap (number_among names) (sym ((bytes_decides name q).0 e)) ∙ sym (is.numbered name) ∙ none))
  new_at false q e none gives = gives ∙ is.numbered q ∙ sym (or_else-None (number_among names q))

  counted : new.count ≡ length (names ++ name ∷ [])
  counted = omega (arith, next, is.count, length-append names (name ∷ []))

  -- a name that is new takes the next number
  pub added_new : number_in old name ≡ None → ((q : Bytes) → number_in new q ≡ update bytes_eq (number_in old) name (Some old.count) q) → Numbers (names ++ name ∷ []) new
  added_new none gives = record {
    count = counted;
    numbered = λ q. new_at (bytes_eq name q) q refl none (gives q) ∙ sym (among-push names name q);
  }

  again_at : (b : Bool) (q : Bytes) → bytes_eq name q ≡ b → is_some (number_in old name) ≡ true → number_in old q ≡ or_else (number_among names q) (cond b (Some (length names)) None)
  again_at true q e some =
      is.numbered q ∙ sym (or_else-there (number_among names q) (Some (length names)) (ap is_some (ap (number_among names) (sym ((bytes_decides name q).0 e)) ∙ sym (is.numbered name)) ∙ some))
  again_at false q e some = is.numbered q ∙ sym (or_else-None (number_among names q))

  -- a name that was given before keeps its number
  pub added_again : is_some (number_in old name) ≡ true → ((q : Bytes) → number_in new q ≡ number_in old q) → Numbers (names ++ name ∷ []) new
  added_again some gives = record {
    count = counted;
    numbered = λ q. gives q ∙ again_at (bytes_eq name q) q refl some ∙ sym (among-push names name q);
  }

found_at : {X : Type 0} (b : Bool) (x : X) (xs : List X) (found : Option X) (o : Option ℕ)
    → found ≡ option_and_then (slice_get xs) o → cond b (Some x) found ≡ option_and_then (slice_get (x ∷ xs)) (cond b (Some 0) (option_map suc o))
found_at true x xs found o h = refl
found_at false x xs found None h = h
found_at false x xs found (Some n) h = h

-- what is found stands at its place
pub find_position : {X : Type 0} (p : X → Bool) (xs : List X) → find p xs ≡ option_and_then (slice_get xs) (position p xs)
find_position p [] = refl
find_position p (x ∷ xs) =
    found_at (p x) x xs (find p xs) (position p xs) (find_position p xs) ∙ ap (option_and_then (slice_get (x ∷ xs))) (sym (position-cons p x xs))
