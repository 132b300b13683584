-- Values that are given, and those that are collected one after another.
use Rattle.std.proofs.Common.{◌≡◌, ℕ, ◌+◌, ◌<◌, List, [], ◌∷◌, ◌++◌, length, take, get_or, map, Option, Some, None, option_map, refl, sym, ap, subst, ◌∙◌}
use Rattle.std.specs.Prelude.{Contains}
use Rattle.std.proofs.lemmas.List.{take_more, map-append}
use Rattle.std.proofs.lemmas.List.Elements.{Contains-get_or}
use Rattle.c_language.specs.ProgramOf.{collected}
use Rattle.c_language.proofs.Options.{some_same, none_there}
use Rattle.c_language.specs.Options.{IsThere}

-- what is given isn't none
pub given_some : {A : Type 0} (o : Option A) → IsThere o → o ≡ None → ⊥
given_some None h is = h
given_some (Some x) h is = none_there (sym is)

push_map : {A : Type 0} (a : A) (o p : Option (List A)) (ys : List A) (y : A) → ((zs : List A) → o ≡ Some zs → p ≡ Some (zs ++ y ∷ []))
    → option_map (λ zs. a ∷ zs) o ≡ Some ys → option_map (λ zs. a ∷ zs) p ≡ Some (ys ++ y ∷ [])
push_map a None p ys y h is = none_there is
push_map a (Some zs) p ys y h is = ap (option_map (λ zs. a ∷ zs)) (h zs refl) ∙ ap (λ ws. Some (ws ++ y ∷ [])) (some_same is)

-- one value more
pub collected_push : {A : Type 0} (xs : List (Option A)) (ys : List A) (x : Option A) (y : A) → collected xs ≡ Some ys → x ≡ Some y
    → collected (xs ++ x ∷ []) ≡ Some (ys ++ y ∷ [])
collected_push [] ys x y h is = rw is (ap (λ ws. Some (ws ++ y ∷ [])) (some_same h))
collected_push (None ∷ xs) ys x y h is = none_there h
collected_push (Some a ∷ xs) ys x y h is = push_map a (collected xs) (collected (xs ++ x ∷ [])) ys y (λ zs k. collected_push xs zs x y k is) h

-- a turn of a loop that collects the values of a list's elements
pub collected_turn : {X A : Type 0} (f : X → Option A) (xs : List X) (i : ℕ) (x : X) (ys : List A) (y : A) → i < length xs → x ≡ get_or xs i x
    → collected (map f (take i xs)) ≡ Some ys → f x ≡ Some y → collected (map f (take (i + 1) xs)) ≡ Some (ys ++ y ∷ [])
collected_turn f xs i x ys y h is before gives =
    ap (λ zs. collected (map f zs)) (take_more xs i x h ∙ ap (λ z. take i xs ++ z ∷ []) (sym is))
    ∙ (ap collected (map-append f (take i xs) (x ∷ [])) ∙ collected_push (map f (take i xs)) ys (f x) y before gives)

-- the element of a turn is one of the list
pub contains_turn : {X : Type 0} (xs : List X) (i : ℕ) (x : X) → i < length xs → x ≡ get_or xs i x → Contains xs x
contains_turn xs i x h is = subst (λ z. Contains xs z) (sym is) (Contains-get_or xs i x h)
