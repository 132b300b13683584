-- Where one value is there, so is another, and it is the same.
use Rattle.std.proofs.Common.{◌≡◌, Option, Some, None, option_map, refl, sym, ap, subst}
use Rattle.std.specs.Prelude.{option_and_then}

-- the second is what the first is, where that is there
abbrev pub ComesToo : {A : Type 0} → Option A → Option A → Type 0
ComesToo None q = Unit {0}
ComesToo (Some x) q = q ≡ Some x

pub same_comes : {A : Type 0} (o : Option A) → ComesToo o o
same_comes None = tt
same_comes (Some x) = refl

pub map_comes : {A B : Type 0} (f : A → B) (o q : Option A) → ComesToo o q → ComesToo (option_map f o) (option_map f q)
map_comes f None q h = tt
map_comes f (Some x) q h = ap (option_map f) h

pub then_comes : {A B : Type 0} (f g : A → Option B) (o q : Option A) → ComesToo o q → ((x : A) → ComesToo (f x) (g x)) → ComesToo (option_and_then f o) (option_and_then g q)
then_comes f g None q h k = tt
then_comes f g (Some x) q h k = subst (λ z. ComesToo (f x) (option_and_then g z)) (sym h) (k x)

-- a value that is there comes too
pub comes_there : {A : Type 0} (o q : Option A) (x : A) → ComesToo o q → o ≡ Some x → q ≡ Some x
comes_there o q x h is = subst (λ z. ComesToo z q) is h

-- ---- functions of one value, of two and of three

module _ {A B C : Type 0} (f : B → C) where
  pub one_comes : (g : A → Option B) (o q : Option A) → ComesToo o q → ComesToo (option_map f (option_and_then g o)) (option_map f (option_and_then g q))
  one_comes g o q h = map_comes f (option_and_then g o) (option_and_then g q) (then_comes g g o q h (λ x. same_comes (g x)))

  abbrev pub of_two : (A → A → Option B) → Option A → Option A → Option C
  of_two g a b = option_map f (option_and_then (λ x. option_and_then (g x) b) a)

  pub two_come : (g : A → A → Option B) (a b c d : Option A) → ComesToo a c → ComesToo b d → ComesToo (of_two g a b) (of_two g c d)
  two_come g a b c d h k =
      map_comes f _ _ (then_comes (λ x. option_and_then (g x) b) (λ x. option_and_then (g x) d) a c h (λ x. then_comes (g x) (g x) b d k (λ y. same_comes (g x y))))

  abbrev pub of_three : (A → A → A → Option B) → Option A → Option A → Option A → Option C
  of_three g s a b = option_map f (option_and_then (λ z. option_and_then (λ x. option_and_then (g z x) b) a) s)

  pub three_come : (g : A → A → A → Option B) (s a b t c d : Option A) → ComesToo s t → ComesToo a c → ComesToo b d → ComesToo (of_three g s a b) (of_three g t c d)
  three_come g s a b t c d j h k =
      map_comes f _ _ (then_comes (λ z. option_and_then (λ x. option_and_then (g z x) b) a) (λ z. option_and_then (λ x. option_and_then (g z x) d) c) s t j
      (λ z. then_comes (λ x. option_and_then (g z x) b) (λ x. option_and_then (g z x) d) a c h (λ x. then_comes (g z x) (g z x) b d k (λ y. same_comes (g z x y)))))
