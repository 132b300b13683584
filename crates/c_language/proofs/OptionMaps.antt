-- What functions of options make of options that are mapped.
use Rattle.std.proofs.Common.{◌≡◌, List, [], ◌∷◌, map, Option, Some, None, refl, ap, ◌∙◌}
use Rattle.std.specs.Prelude.{option_map, option_and_then}
use Rattle.c_language.specs.ConstantEvaluation.{both}
use Rattle.c_language.specs.ProgramOf.{collected}

pub map_twice : {A B C : Type 0} (f : B → C) (g : A → B) (h : A → C) → ((a : A) → f (g a) ≡ h a) → (o : Option A) → option_map f (option_map g o) ≡ option_map h o
map_twice f g h same None = refl
map_twice f g h same (Some a) = ap Some (same a)

pub map_both : {A B C D : Type 0} (f : C → D) (g : A → B → C) (h : A → B → D) → ((a : A) (b : B) → f (g a b) ≡ h a b) → (x : Option A) (y : Option B) → option_map f (both g x y) ≡ both h x y
map_both f g h same None y = refl
map_both f g h same (Some a) None = refl
map_both f g h same (Some a) (Some b) = ap Some (same a b)

pub map_then : {A B C : Type 0} (f : B → C) (g : A → Option B) (h : A → Option C) → ((a : A) → option_map f (g a) ≡ h a) → (o : Option A) → option_map f (option_and_then g o) ≡ option_and_then h o
map_then f g h same None = refl
map_then f g h same (Some a) = same a

pub then_pointwise : {A B : Type 0} (g h : A → Option B) → ((a : A) → g a ≡ h a) → (o : Option A) → option_and_then g o ≡ option_and_then h o
then_pointwise g h same None = refl
then_pointwise g h same (Some a) = same a

pub both_mapped : {A B C D E : Type 0} (g : D → E → C) (f : A → D) (k : B → E) (x : Option A) (y : Option B) → both (λ a b. g (f a) (k b)) x y ≡ both g (option_map f x) (option_map k y)
both_mapped g f k None y = refl
both_mapped g f k (Some a) None = refl
both_mapped g f k (Some a) (Some b) = refl

pub map_mapped : {A B C : Type 0} (g : B → C) (f : A → B) (x : Option A) → option_map (λ a. g (f a)) x ≡ option_map g (option_map f x)
map_mapped g f None = refl
map_mapped g f (Some a) = refl

pub then_mapped : {A B C : Type 0} (h : B → Option C) (f : A → B) (o : Option A) → option_and_then (λ x. h (f x)) o ≡ option_and_then h (option_map f o)
then_mapped h f None = refl
then_mapped h f (Some a) = refl

-- ---- two functions and a change of what they give

pub map_turns : {A B C D : Type 0} (f : A → C) (h : B → D) (one : A → B) (two : C → D) → ((a : A) → two (f a) ≡ h (one a)) → (x : Option A) → option_map two (option_map f x) ≡ option_map h (option_map one x)
map_turns f h one two same None = refl
map_turns f h one two same (Some a) = ap Some (same a)

pub both_turns : {A B C D E F : Type 0} (f : A → D) (g : B → E) (h : C → F) (one : A → B → C) (two : D → E → F) → ((a : A) (b : B) → two (f a) (g b) ≡ h (one a b))
    → (x : Option A) (y : Option B) → both two (option_map f x) (option_map g y) ≡ option_map h (both one x y)
both_turns f g h one two same None y = refl
both_turns f g h one two same (Some a) None = refl
both_turns f g h one two same (Some a) (Some b) = ap Some (same a b)

pub then_turns : {A B C D : Type 0} (f : A → B) (g : C → D) (one : A → Option C) (two : B → Option D) → ((a : A) → two (f a) ≡ option_map g (one a))
    → (x : Option A) → option_and_then two (option_map f x) ≡ option_map g (option_and_then one x)
then_turns f g one two same None = refl
then_turns f g one two same (Some a) = same a

-- ---- lists

pub collected_map : {A B : Type 0} (f : A → B) (os : List (Option A)) → option_map (map f) (collected os) ≡ collected (map (option_map f) os)
collected_map f [] = refl
collected_map f (None ∷ os) = refl
collected_map f (Some x ∷ os) = cons_map (collected os) ∙ ap (option_map (λ ys. f x ∷ ys)) (collected_map f os)
  where
    cons_map : (o : Option (List _)) → option_map (map f) (option_map (λ ys. x ∷ ys) o) ≡ option_map (λ ys. f x ∷ ys) (option_map (map f) o)
    cons_map None = refl
    cons_map (Some ys) = refl
