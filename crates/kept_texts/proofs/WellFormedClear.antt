-- Nothing stays in an if, loop or switch of a well-formed program that isn't kept; and the parameters of its functions are their own.
use Rattle.std.proofs.Common.{◌≡◌, ℕ, List, Bool, true, Some, refl, ap, ◌∙◌, subst, Contains}
use Rattle.std.specs.Prelude.{slice_get}
use Rattle.c_tree.specs.Unlined.{unlined}
use Rattle.c_tree.specs.declared.program.Program.{Program}
use Rattle.c_tree.specs.declared.statement.Statement.{Statement}
use Rattle.c_tree.specs.declared.statement.Statement.TheOpen.{Statement-F}
use Rattle.c_tree.proofs.Unlining.{zeroed, fold_unlined}
use Rattle.c_language.specs.Programs.{IsWellFormed}
use Rattle.c_language.specs.Scopes.{outset}
use Rattle.c_language.proofs.PhraseLists.{phrases_kept}
use Rattle.c_language.proofs.ProgramParts.{made_of}
use Rattle.dep_model.specs.Doings.{Doing, doings_of}
use Rattle.dep_model.specs.MayPoint.{parameters}
use Rattle.dep_model.proofs.Membership.{in_of_contains}
use Rattle.projection.specs.Kept.{Kept}
use Rattle.projection_laws.specs.Staying.{Rest, rest_step, rest_arm, is_clear, IsClear}
use Rattle.projection_laws.proofs.SamePrograms.{tests_same}
use Rattle.hanging_sets.specs.Hanging.{HangsTogether}
use Rattle.hanging_sets.specs.NamedBy.{doing_names}
use Rattle.hanging_sets.proofs.Owners.{function_of}
use Rattle.hanging_sets.proofs.Taken.{parameter_is}
use Rattle.kept_texts.proofs.ButLines.{doings_same, parameters_same, hangs_too}
use Rattle.kept_texts.proofs.ClearPrograms.{program_clear}
use Rattle.kept_texts.proofs.OwnVariables.{own, once}

module _ (keeps vars : ℕ → Bool) where
  rest_free : (x : Statement-F Rest Rest) → rest_step keeps vars (zeroed x) ≡ rest_step keeps vars x
  rest_free (Statement-F.Declare id l x i) = refl
  rest_free (Statement-F.Assign id l a op b) = refl
  rest_free (Statement-F.Bump id l a up before) = refl
  rest_free (Statement-F.Invoke id l to f args) = refl
  rest_free (Statement-F.Fetch id l to) = refl
  rest_free (Statement-F.Write id l a) = refl
  rest_free (Statement-F.Print id l format args) = refl
  rest_free (Statement-F.Heap id l to cast n) = refl
  rest_free (Statement-F.Release id l a) = refl
  rest_free (Statement-F.If id l e a b) = refl
  rest_free (Statement-F.While id l e b) = refl
  rest_free (Statement-F.Do id l e b) = refl
  rest_free (Statement-F.For id l i e step b) = refl
  rest_free (Statement-F.Switch id l e arms) = refl
  rest_free (Statement-F.Block l b) = refl
  rest_free (Statement-F.Return id l e) = refl

  clear_unlined : (x : Statement) → is_clear keeps vars (unlined x) ≡ is_clear keeps vars x
  clear_unlined x = ap (λ (r : Rest). r.clear) (fold_unlined (rest_step keeps vars) (rest_arm keeps vars) rest_free x)

pub hanging_clear : (p : Program) (k : Kept ℕ) → IsWellFormed p → HangsTogether p k → IsClear k.statement k.variable p
hanging_clear p k ok h =
    let made = made_of ok.raw ok.same ok.has.program in
    tests_same (is_clear k.statement k.variable) (clear_unlined k.statement k.variable) p ok.same ok.but_lines
    ∙ program_clear ok.raw ok.same k (hangs_too p ok.same ok.but_lines k h) ok.raw.items outset (tt, λ id q. tt) (phrases_kept ok.raw ok.has.rules) made.functions

module _ (p : Program) (ok : IsWellFormed p) where
  here : (f : ℕ) (d : Doing) → Contains (doings_of p f) d → Contains (doings_of ok.same f) d
  here f d m = subst (λ (ds : List Doing). Contains ds d) (doings_same p ok.same ok.but_lines f) m

  there : (f n x : ℕ) → slice_get (parameters p f) n ≡ Some x → slice_get (parameters ok.same f) n ≡ Some x
  there f n x at = subst (λ (xs : List ℕ). slice_get xs n ≡ Some x) (parameters_same p ok.same ok.but_lines f) at

  -- each statement of a well-formed program names only parameters of its own function
  pub parameters_own : (f g n x : ℕ) (d : Doing) → Contains (doings_of p f) d → doing_names d x ≡ true → slice_get (parameters p g) n ≡ Some x → g ≡ f
  parameters_own f g n x d m names at =
      let made = made_of ok.raw ok.same ok.has.program in
      let w = function_of ok.same f d (in_of_contains (doings_of ok.same f) d (here f d m)) in
      let q = parameter_is ok.same g n x (there g n x at) in
      own ok.raw ok.same.functions ok.raw.items outset (tt, λ id r. tt) made.functions f g n x w.function q.function d w.at w.member names q.at q.parameter

  -- and no variable is a parameter twice
  pub parameters_once : (f g n m x : ℕ) → slice_get (parameters p f) n ≡ Some x → slice_get (parameters p g) m ≡ Some x → (f ≡ g) × (n ≡ m)
  parameters_once f g n m x at at' =
      let made = made_of ok.raw ok.same ok.has.program in
      let q = parameter_is ok.same f n x (there f n x at) in
      let r = parameter_is ok.same g m x (there g m x at') in
      once ok.raw ok.same.functions ok.raw.items outset made.functions f g n m x q.function r.function q.at q.parameter r.at r.parameter
