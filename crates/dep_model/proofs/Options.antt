-- Options that are made of others.
use Rattle.std.proofs.Common.{◌≡◌, Bool, true, false, Option, Some, None, option_map, option_and_then, subst}
use Rattle.std.specs.Prelude.{if◌then◌else◌}
use Rattle.c_language.specs.ConstantEvaluation.{both}

-- a value that is there has a property
abbrev pub Always : {A : Type 0} → (A → Type 0) → Option A → Type 0
Always P None = Unit {0}
Always P (Some x) = P x

pub always_map : {A B : Type 0} (P : B → Type 0) (f : A → B) (o : Option A) → ((x : A) → P (f x)) → Always P (option_map f o)
always_map P f None h = tt
always_map P f (Some x) h = h x

pub always_then : {A B : Type 0} (P : B → Type 0) (f : A → Option B) (o : Option A) → ((x : A) → Always P (f x)) → Always P (option_and_then f o)
always_then P f None h = tt
always_then P f (Some x) h = h x

pub always_both : {A B C : Type 0} (P : C → Type 0) (f : A → B → C) (a : Option A) (b : Option B) → ((x : A) (y : B) → P (f x y)) → Always P (both f a b)
always_both P f None b h = tt
always_both P f (Some x) None h = tt
always_both P f (Some x) (Some y) h = h x y

pub always_if : {A : Type 0} (P : A → Type 0) (b : Bool) (o q : Option A) → Always P o → Always P q → Always P (if b then o else q)
always_if P true o q h k = h
always_if P false o q h k = k

pub always_is : {A : Type 0} (P : A → Type 0) (o : Option A) (x : A) → Always P o → o ≡ Some x → P x
always_is P o x h e = subst (Always P) e h
