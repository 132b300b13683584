-- What is known of the statements of a program, function by function.
use Rattle.std.proofs.Common.{◌≡◌, ◌≢◌, ℕ, zero, suc, ◌<◌, ◌==◌, inl, inr, List, [], ◌∷◌, length, map, slice_get, Bool, true, false, ◌&&◌, not, Some, refl, sym, ap, ◌∙◌, subst}
use Rattle.std.specs.List.{range_with_len, list_all}
use Rattle.std.specs.Option.{option_map_or}
use Rattle.std.proofs.lemmas.Bool.{false≢true, and_parts}
use Rattle.std.proofs.lemmas.Bool.Decides.{Decides-eqb}
use Rattle.std.proofs.lemmas.Option.{slice_get_within}
use Rattle.c_tree.specs.declared.expr.Expr.{Expr}
use Rattle.c_tree.specs.declared.program.Function.{Function}
use Rattle.c_tree.specs.declared.program.Program.{Program}
use Rattle.c_tree.specs.declared.statement.Target.{Target}
use Rattle.c_tree.specs.declared.statement.Target.TheVariants as target
use Rattle.c_language.specs.Mains.{is_main_of}
use Rattle.dep_model.specs.Doings.{Calls, doing_number, program_doings}
use Rattle.dep_model.specs.MayPoint.{parameters}
use Rattle.dep_model.specs.VertexOrder.{has_result}
use Rattle.dep_model.proofs.Membership.{IsIn}
use Rattle.shaped_graphs.proofs.NumberLaws.{apart_in, has_statement}
use Rattle.shaped_graphs.proofs.ShapeLaws.{CallsFit}

-- what all pass, each passes
pub each_passes : {A : Type 0} (test : A → Bool) (xs : List A) (x : A) → list_all test xs ≡ true → IsIn xs x → test x ≡ true
each_passes test [] x all m = absurd m
each_passes test (y ∷ ys) x all (inl e) = subst (λ z. test z ≡ true) e (and_parts (test y) (list_all test ys) all).0
each_passes test (y ∷ ys) x all (inr m) = each_passes test ys x (and_parts (test y) (list_all test ys) all).1 m

-- how many parameters a function has, where that is told to be a number
module _ (p : Program) (g n : ℕ) where
  -- function g is one of the program, with n parameters
  pub record HasParameters : Type 0 where
    pub low : g < length p.functions
    pub count : n ≡ length (parameters p g)

  count_in : (fs : List Function) (k : ℕ) → option_map_or (λ (m : ℕ). m == n) (slice_get (map (λ (f : Function). length f.params) fs) k) false ≡ true → (f : Function) × (slice_get fs k ≡ Some f) × (n ≡ length f.params)
  count_in [] k h = absurd (false≢true h)
  count_in (f ∷ fs) zero h = (f, refl, sym ((Decides-eqb (length f.params) n).0 h))
  count_in (f ∷ fs) (suc k) h = count_in fs k h

  pub parameters_counted : option_map_or (λ (m : ℕ). m == n) (slice_get (map (λ (f : Function). length f.params) p.functions) g) false ≡ true → HasParameters
  parameters_counted h =
      let w = count_in p.functions g h in
      let same : parameters p g ≡ w.0.params = ap (λ o. option_map_or (λ (f : Function). f.params) o []) w.1 in
      record { low = slice_get_within p.functions g w.0 w.1; count = w.2 ∙ ap (λ (xs : List ℕ). length xs) (sym same) }

-- in a program whose statements have the numbers from 0 on, calls fit in each function where they do in all
pub calls_fit : (p : Program) (n : ℕ) → map doing_number (program_doings p) ≡ range_with_len 0 n
    → ((i : ℕ) (to : Target) (g : ℕ) (args : List Expr) → IsIn (program_doings p) (Calls i to g args) → HasParameters p g (length args))
    → ((i : ℕ) (to : Target) (g : ℕ) (args : List Expr) → IsIn (program_doings p) (Calls i to g args) → to ≢ target.None → (has_result p g && not (is_main_of p g)) ≡ true)
    → CallsFit p
calls_fit p n numbered counted given = record {
  apart = λ f. apart_in p f n numbered;
  there = λ f i to g args m. (counted i to g args (has_statement p f (Calls i to g args) m).among).low;
  inside = λ f d m. (has_statement p f d m).low;
  counted = λ f i to g args m. (counted i to g args (has_statement p f (Calls i to g args) m).among).count;
  gives = λ f i to g args m. given i to g args (has_statement p f (Calls i to g args) m).among;
}
