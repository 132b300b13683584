-- The order of numbers, as sorting has it.
use Rattle.std.proofs.Common.{◌≡◌, ℕ, ◌<◌, Bool, true, refl, arith}
use Rattle.std.specs.Prelude.{nat_eq}
use Rattle.std.specs.declared.cmp.Ordering.{Ordering}
use Rattle.std.specs.declared.cmp.Ordering.TheVariants.{Less, Equal, Greater}
use Rattle.std.specs.Ordering.{MatchOrdering, nat_cmp, eq_by_cmp}
use Rattle.std.proofs.lemmas.Bool.Decides.{nat_tests}
use Rattle.std.proofs.lemmas.Cmp.{ranked}

abbrev pub number_cmp : ℕ → ℕ → Ordering
number_cmp = nat_cmp

abbrev pub number_eq : ℕ → ℕ → Bool
number_eq = nat_eq

pub number_ties : (x y : ℕ) → nat_eq x y ≡ eq_by_cmp nat_cmp x y
number_ties x y = grind (arith, nat_tests)

pub number_same : (x y : ℕ) → nat_eq x y ≡ true → x ≡ y
number_same x y h = grind (arith, nat_tests)

less_is : (x y : ℕ) (o : Ordering) → MatchOrdering o (x < y) (x ≡ y) (y < x) → o ≡ Less → x < y
less_is x y Less lt e = lt
less_is x y Equal eq e = let f : Equal ≡ Less = e in absurd cc
less_is x y Greater gt e = let f : Greater ≡ Less = e in absurd cc

pub less_by_cmp : (x y : ℕ) → nat_cmp x y ≡ Less → x < y
less_by_cmp x y e = less_is x y (nat_cmp x y) (ranked x y (nat_cmp x y) refl) e
