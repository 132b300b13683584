-- Where a list that is made of options is there, the options are.
use Rattle.std.proofs.Common.{◌≡◌, ℕ, zero, suc, List, [], ◌∷◌, Option, Some, None, refl, sym, ap, ◌∙◌, map, slice_get}
use Rattle.c_language.specs.ProgramOf.{collected}
use Rattle.c_language.proofs.Options.{none_there, some_same, MadeFrom, map_there}
use Rattle.c_language.proofs.Lists.{no_list, head_is, tail_is}

pub collected_are : {A : Type 0} (xs : List (Option A)) (ys : List A) → collected xs ≡ Some ys → xs ≡ map Some ys
collected_are [] ys h = ap (map Some) (some_same h)
collected_are (None ∷ xs) ys h = none_there h
collected_are (Some x ∷ xs) ys h =
    let g = map_there (λ (zs : List _). x ∷ zs) (collected xs) ys h in
    ap (λ (zs : List (Option _)). Some x ∷ zs) (collected_are xs g.value g.there) ∙ ap (map Some) g.same

-- what stands at a place of one list stands there in the other
pub place_of : {A B : Type 0} (f : A → Option B) (xs : List A) (ys : List B) (i : ℕ) (x : A) → map f xs ≡ map Some ys → slice_get xs i ≡ Some x → MadeFrom (f x) Some (slice_get ys i)
place_of f [] ys i x h g = none_there g
place_of f (a ∷ xs) [] i x h g = no_list h
place_of f (a ∷ xs) (y ∷ ys) zero x h g = record { value = y; there = ap f (sym (some_same g)) ∙ head_is h; same = refl }
place_of f (a ∷ xs) (y ∷ ys) (suc i) x h g = place_of f xs ys i x (tail_is h) g
