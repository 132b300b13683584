-- Rows that gain locations, one after another.
use Rattle.std.proofs.Common.{◌≡◌, ℕ, ◌<◌, zero, suc, Bool, true, false, ◌||◌, List, [], ◌∷◌, length, map, set, refl, sym, ap, ◌∙◌, subst}
use Rattle.bit_rows.specs.Sets.{union}
use Rattle.bit_rows.specs.Tables.{Table, the_set, with_set, IsSized}
use Rattle.bit_rows.proofs.SetLemmas.{length-union}
use Rattle.bit_rows.proofs.TableLemmas.{the_set-with_set, with_set_same, sized_with_set}
use Rattle.c_tree.specs.declared.program.Program.{Program}
use Rattle.dep_model.specs.Denoted.{Places, no_places, either_of}
use Rattle.dep_model.specs.Locations.{TypedLocation, locations}
use Rattle.effect_rows.specs.Gains.{row_of, with_places, HasLocationRow}

or_in_turn : (x y z : Bool) → ((x || y) || z) ≡ (x || (y || z))
or_in_turn true y z = refl
or_in_turn false y z = refl

or_none : (x : Bool) → (x || false) ≡ x
or_none true = refl
or_none false = refl

union_twice_mapped : (s : List Bool) (f g : TypedLocation → Bool) (xs : List TypedLocation) → union (union s (map f xs)) (map g xs) ≡ union s (map (λ o. f o || g o) xs)
union_twice_mapped [] f g xs = refl
union_twice_mapped (x ∷ s) f g [] = refl
union_twice_mapped (x ∷ s) f g (o ∷ xs) = ap (λ b. b ∷ union (union s (map f xs)) (map g xs)) (or_in_turn x (f o) (g o)) ∙ ap (λ bs. (x || (f o || g o)) ∷ bs) (union_twice_mapped s f g xs)

pub union_none : (s : List Bool) (xs : List TypedLocation) → union s (map (λ o. false) xs) ≡ s
union_none [] xs = refl
union_none (x ∷ s) [] = refl
union_none (x ∷ s) (o ∷ xs) = ap (λ b. b ∷ union s (map (λ q. false) xs)) (or_none x) ∙ ap (λ bs. x ∷ bs) (union_none s xs)

set_twice : (ts : List (List Bool)) (r : ℕ) (s u : List Bool) → set (set ts r s) r u ≡ set ts r u
set_twice [] r s u = refl
set_twice (t ∷ ts) zero s u = refl
set_twice (t ∷ ts) (suc r) s u = ap (λ more. t ∷ more) (set_twice ts r s u)

with_set_twice : (t : Table) (r : ℕ) (s u : List Bool) → with_set (with_set t r s) r u ≡ with_set t r u
with_set_twice t r s u = ap {B = Table} (λ ss. record { bits = t.bits; sets = ss }) (set_twice t.sets r s u)

module _ (p : Program) (r : ℕ) where
  pub gains_twice : (a b : Places) (t : Table) → HasLocationRow p r t → with_places p r b (with_places p r a t) ≡ with_places p r (either_of a b) t
  gains_twice a b t has =
      let first = union (the_set t r) (row_of p a) in
      ap (λ s. with_set (with_set t r first) r (union s (row_of p b))) (the_set-with_set t r first has.row_in)
      ∙ with_set_twice t r first (union first (row_of p b))
      ∙ ap (with_set t r) (union_twice_mapped (the_set t r) (λ o. a o.location) (λ o. b o.location) (locations p))

  pub gains_nothing : (t : Table) → with_places p r no_places t ≡ t
  gains_nothing t = ap (with_set t r) (union_none (the_set t r) (locations p)) ∙ with_set_same t r

  pub sized_gained : (a : Places) (t : Table) → HasLocationRow p r t → IsSized (length t.sets) (length (locations p)) (with_places p r a t)
  sized_gained a t has = sized_with_set (length t.sets) (length (locations p)) t r (union (the_set t r) (row_of p a)) has.sized (length-union (the_set t r) (row_of p a) ∙ has.sized.full r has.row_in)

  -- a table of as many rows as before has the row too
  pub row_again : (t u : Table) → HasLocationRow p r t → IsSized (length t.sets) (length (locations p)) u → HasLocationRow p r u
  row_again t u has sized = record {
    sized = subst (λ n. IsSized n (length (locations p)) u) (sym sized.rows_are) sized;
    row_in = subst (λ n. r < n) (sym sized.rows_are) has.row_in;
  }
