-- Statements that are numbered from 0 on are apart in each function.
use Rattle.std.proofs.Common.{◌≡◌, ℕ, zero, suc, ◌+◌, ◌<◌, List, [], ◌∷◌, ◌++◌, length, map, slice_get, Option, Some, None, refl, sym, ap, subst, arith}
use Rattle.std.specs.List.{range_with_len}
use Rattle.std.specs.Option.{option_map_or}
use Rattle.std.proofs.lemmas.Option.{same_Some, slice_get_within}
use Rattle.c_tree.specs.declared.program.Function.{Function}
use Rattle.c_tree.specs.declared.program.Program.{Program}
use Rattle.dep_model.specs.Doings.{Doing, doing_number, body_doings, functions_doings, program_doings, doings_of}
use Rattle.dep_model.proofs.Membership.{IsIn, in_first, in_second}
use Rattle.shaped_graphs.proofs.KindLaws.{AreApart}
use Rattle.shaped_graphs.proofs.VertexLaws.{nowhere, at_first, at_second}

in_range : (a n v m : ℕ) → slice_get (range_with_len a n) v ≡ Some m → m ≡ a + v
in_range a zero v m h = nowhere v m h
in_range a (suc n) zero m h = let e : a ≡ m = same_Some _ _ h in omega (arith, e)
in_range a (suc n) (suc v) m h = let e = in_range (a + 1) n v m h in omega (arith, e)

number_at : (ds : List Doing) (v : ℕ) (d : Doing) → slice_get ds v ≡ Some d → slice_get (map doing_number ds) v ≡ Some (doing_number d)
number_at [] v d h = nowhere v d h
number_at (e ∷ ds) zero d h = ap (λ x. Some (doing_number x)) (same_Some _ _ h)
number_at (e ∷ ds) (suc v) d h = number_at ds v d h

pub numbered_apart : (ds : List Doing) (n : ℕ) → map doing_number ds ≡ range_with_len 0 n → AreApart ds
numbered_apart ds n same v w d e at at' equal =
    let one = in_range 0 n v (doing_number d) (subst (λ ks. slice_get ks v ≡ Some (doing_number d)) same (number_at ds v d at)) in
    let other = in_range 0 n w (doing_number e) (subst (λ ks. slice_get ks w ≡ Some (doing_number e)) same (number_at ds w e at')) in
    omega (arith, one, other, equal)

first_apart : (ds es : List Doing) → AreApart (ds ++ es) → AreApart ds
first_apart ds es apart v w d e at at' equal = apart v w d e (at_first ds es v d at) (at_first ds es w e at') equal

pub second_apart : (ds es : List Doing) → AreApart (ds ++ es) → AreApart es
second_apart ds es apart v w d e at at' equal =
    let same = apart (length ds + v) (length ds + w) d e (at_second ds es v d at) (at_second ds es w e at') equal in
    omega (arith, same)

function_apart : (gs : List Function) (f : ℕ) (g : Function) → AreApart (functions_doings gs) → slice_get gs f ≡ Some g → AreApart (body_doings g.body)
function_apart [] f g apart h = nowhere f g h
function_apart (k ∷ gs) zero g apart h =
    subst (λ (x : Function). AreApart (body_doings x.body)) (same_Some _ _ h) (first_apart (body_doings k.body) (functions_doings gs) apart)
function_apart (k ∷ gs) (suc f) g apart h = function_apart gs f g (second_apart (body_doings k.body) (functions_doings gs) apart) h

pub function_among : (gs : List Function) (f : ℕ) (g : Function) (d : Doing) → slice_get gs f ≡ Some g → IsIn (body_doings g.body) d → IsIn (functions_doings gs) d
function_among [] f g d h m = nowhere f g h
function_among (k ∷ gs) zero g d h m =
    in_first (body_doings k.body) (functions_doings gs) d (subst (λ (x : Function). IsIn (body_doings x.body) d) (sym (same_Some _ _ h)) m)
function_among (k ∷ gs) (suc f) g d h m = in_second (body_doings k.body) (functions_doings gs) d (function_among gs f g d h m)

-- what a function has, by its number
module _ (p : Program) (f : ℕ) where
  pub of_some : (g : Function) → slice_get p.functions f ≡ Some g → doings_of p f ≡ body_doings g.body
  of_some g h = ap (λ o. option_map_or (λ (x : Function). body_doings x.body) o []) h

  pub of_none : slice_get p.functions f ≡ None → doings_of p f ≡ []
  of_none h = ap (λ o. option_map_or (λ (x : Function). body_doings x.body) o []) h

  -- a statement of a function has that function, and is one of the program
  pub record HasStatement (d : Doing) : Type 0 where
    pub low : f < length p.functions
    pub among : IsIn (program_doings p) d

  pub has_statement : (d : Doing) → IsIn (doings_of p f) d → HasStatement d
  has_statement d m = by_function (slice_get p.functions f) refl
    where
      by_function : (o : Option Function) → slice_get p.functions f ≡ o → HasStatement d
      by_function None h = absurd (subst (λ ds. IsIn ds d) (of_none h) m)
      by_function (Some g) h = record {
        low = slice_get_within p.functions f g h;
        among = function_among p.functions f g d h (subst (λ ds. IsIn ds d) (of_some g h) m);
      }

  pub apart_in : (n : ℕ) → map doing_number (program_doings p) ≡ range_with_len 0 n → AreApart (doings_of p f)
  apart_in n same = by_function (slice_get p.functions f) refl
    where
      by_function : (o : Option Function) → slice_get p.functions f ≡ o → AreApart (doings_of p f)
      by_function None h = subst (λ ds. AreApart ds) (sym (of_none h)) (λ v w d e at at' equal. nowhere v d at)
      by_function (Some g) h = subst (λ ds. AreApart ds) (sym (of_some g h)) (function_apart p.functions f g (numbered_apart (program_doings p) n same) h)
