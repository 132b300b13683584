-- Where a value is there, and the value of one that is.
use Rattle.std.proofs.Common.{◌≡◌, List, ◌∷◌, Option, Some, None, option_map, refl, sym, ap, subst}
use Rattle.std.specs.Option.{unwrap_or, option_and_then}
use Rattle.c_language.specs.ProgramOf.{collected, optional}
use Rattle.c_language.specs.ConstantEvaluation.{both}
use Rattle.c_language.specs.Options.{IsThere}

-- the value that is there
pub value_there : {A : Type 0} (o : Option A) → IsThere o → (x : A) × (o ≡ Some x)
value_there None h = absurd h
value_there (Some x) h = (x, refl)

pub there_map : {A B : Type 0} (f : A → B) (o : Option A) → IsThere o → IsThere (option_map f o)
there_map f None h = h
there_map f (Some x) h = tt

-- what a value that is there was made of is there
pub there_of_map : {A B : Type 0} (f : A → B) (o : Option A) → IsThere (option_map f o) → IsThere o
there_of_map f None h = h
there_of_map f (Some x) h = tt

pub there_of_both : {A B C : Type 0} (f : A → B → C) (a : Option A) (b : Option B) → IsThere (both f a b) → IsThere a × IsThere b
there_of_both f None b h = absurd h
there_of_both f (Some x) b h = (tt, there_of_map (f x) b h)

pub there_of_three : {A B C D : Type 0} (f : A → B → C → D) (c : Option A) (a : Option B) (b : Option C) → IsThere (option_and_then (λ x. both (f x) a b) c)
    → IsThere c × IsThere a × IsThere b
there_of_three f None a b h = absurd h
there_of_three f (Some x) a b h = let k = there_of_both (f x) a b h in (tt, k.0, k.1)

pub none_there : {A B : Type 0} {x : A} → ◌≡◌ {A = Option A} None (Some x) → B
none_there h = absurd (subst IsThere (sym h) tt)

pub some_same : {A : Type 0} {x y : A} → ◌≡◌ {A = Option A} (Some x) (Some y) → x ≡ y
some_same {x} h = ap (λ (o : Option _). unwrap_or o x) h

pub unmapped : {A B : Type 0} (f : A → B) (o : Option A) → option_map f o ≡ None → o ≡ None
unmapped f None h = refl
unmapped f (Some x) h = none_there (sym h)

-- a part that is there is so with its value
pub optional_there : {A : Type 0} (o : Option A) (z : Option A) → optional (Some o) ≡ Some z → (y : A) × ((o ≡ Some y) × (Some y ≡ z))
optional_there None z h = none_there h
optional_there (Some y) z h = (y, (refl, some_same h))

-- ---- what a value that is there was made of

-- one value, with what it gives
pub record MadeFrom {A B : Type 0} (x : Option A) (f : A → B) (y : B) : Type 0 where
  pub value : A
  pub there : x ≡ Some value
  pub same : f value ≡ y

pub map_there : {A B : Type 0} (f : A → B) (x : Option A) (y : B) → option_map f x ≡ Some y → MadeFrom x f y
map_there f None y h = none_there h
map_there f (Some a) y h = record { value = a; there = refl; same = some_same h }

pub then_there : {A B : Type 0} (f : A → Option B) (x : Option A) (y : B) → option_and_then f x ≡ Some y → MadeFrom x f (Some y)
then_there f None y h = none_there h
then_there f (Some a) y h = record { value = a; there = refl; same = h }

-- two values, with what they give
pub record MadeFromBoth {A B C : Type 0} (x : Option A) (y : Option B) (f : A → B → C) (z : C) : Type 0 where
  pub left : A
  pub right : B
  pub left_there : x ≡ Some left
  pub right_there : y ≡ Some right
  pub same : f left right ≡ z

pub both_there : {A B C : Type 0} (f : A → B → C) (x : Option A) (y : Option B) (z : C) → both f x y ≡ Some z → MadeFromBoth x y f z
both_there f None y z h = none_there h
both_there f (Some a) None z h = none_there h
both_there f (Some a) (Some b) z h = record { left = a; right = b; left_there = refl; right_there = refl; same = some_same h }

-- the first of a list, and the rest
pub record MadeFromMore {A : Type 0} (x : Option A) (xs : Option (List A)) (ys : List A) : Type 0 where
  pub first : A
  pub rest : List A
  pub first_there : x ≡ Some first
  pub rest_there : xs ≡ Some rest
  pub same : first ∷ rest ≡ ys

pub added_there : {A : Type 0} (x : Option A) (xs : Option (List A)) (ys : List A) → option_and_then (λ z. option_map (λ zs. z ∷ zs) xs) x ≡ Some ys → MadeFromMore x xs ys
added_there None xs ys h = none_there h
added_there (Some a) None ys h = none_there h
added_there (Some a) (Some as_) ys h = record { first = a; rest = as_; first_there = refl; rest_there = refl; same = some_same h }

pub more_there : {A : Type 0} (x : Option A) (xs : List (Option A)) (ys : List A) → collected (x ∷ xs) ≡ Some ys → MadeFromMore x (collected xs) ys
more_there x xs ys h = added_there x (collected xs) ys h
