-- What a statement of a function is known by: its types fit, its pairs hold of points-to, and the addresses that it takes are taken.
use Rattle.std.proofs.Common.{◌≡◌, ℕ, zero, suc, ◌<◌, List, [], ◌∷◌, length, map, Option, Some, None, true, inl, inr, refl, sym, ap, ◌∙◌, subst, arith}
use Rattle.std.specs.Prelude.{option_map, slice_get}
use Rattle.std.specs.List.{list_any}
use Rattle.std.specs.Option.{option_map_or}
use Rattle.std.proofs.lemmas.Bool.{or_left, or_right}
use Rattle.std.proofs.lemmas.Option.{slice_get-map}
use Rattle.c_language.proofs.Options.{none_there, some_same}
use Rattle.c_tree.specs.declared.program.Function.{Function}
use Rattle.c_tree.specs.declared.program.Program.{Program}
use Rattle.c_tree.specs.declared.program.Var.{Var}
use Rattle.c_language.specs.TreeTypes.{shape_of}
use Rattle.c_language.specs.declared.expr_type.ExprType.{ExprType}
use Rattle.c_meaning.specs.Activations.{Routine, routine_of, executable, result_at}
use Rattle.dep_model.specs.declared.location.Location.{Location}
use Rattle.dep_model.specs.Denoted.{TargetsOf}
use Rattle.dep_model.specs.Doings.{Doing, body_doings, doings_of}
use Rattle.dep_model.specs.DoingEffects.{doing_takes, function_takes, is_taken}
use Rattle.dep_model.specs.Locations.{Heap, doing_heaps, heaps, function_heaps}
use Rattle.dep_model.specs.MayPoint.{Pointing, doing_pointings, of_statement, by, IsPointsTo}
use Rattle.dep_model.proofs.Membership.{IsIn, in_first, in_second, contains_of_in}
use Rattle.typed_programs.specs.TreeOperands.{declarations, variable_shape}
use Rattle.typed_programs.specs.TypedStatements.{doing_fits, IsTyped}
use Rattle.typed_programs.proofs.TypedUses.{doing_typed}
use Rattle.run_facts.proofs.ListedObjects.{any_in}

-- a variable with a type is one of the program's
in_vars : (vs : List Var) (x : ℕ) (t : ExprType) → slice_get (map (λ (v : Var). shape_of v.shape) vs) x ≡ Some t → x < length vs
in_vars [] x t e = none_there e
in_vars (v ∷ vs) zero t e = omega arith
in_vars (v ∷ vs) (suc x) t e = let k = in_vars vs x t e in omega (arith, k)

pub variable_below : (p : Program) (x : ℕ) (t : ExprType) → variable_shape (declarations p) x ≡ Some t → x < length p.vars
variable_below p x t e = in_vars p.vars x t e

-- the function in which a statement stands
pub record StandsIn (p : Program) (f : ℕ) (a : Doing) : Type 0 where
  pub function : Function
  pub function_is : slice_get p.functions f ≡ Some function
  pub member : IsIn (body_doings function.body) a

pub stands_in : (p : Program) (f : ℕ) (a : Doing) → IsIn (doings_of p f) a → StandsIn p f a
stands_in p f a h = by_function (slice_get p.functions f) refl h
  where
    by_function : (o : Option Function) → slice_get p.functions f ≡ o → IsIn (option_map_or (λ (g : Function). body_doings g.body) o []) a → StandsIn p f a
    by_function None is i = absurd i
    by_function (Some g) is i = record { function = g; function_is = is; member = i }

abbrev result_in : Option Routine → Option ExprType
result_in o = option_map_or (λ (r : Routine). r.result) o None

-- the type of a function's result in its runs is that in the tree
pub result_is : (p : Program) (f : ℕ) (g : Function) → slice_get p.functions f ≡ Some g → result_at (executable p) f ≡ option_map shape_of g.result
result_is p f g e = ap result_in (slice_get-map routine_of p.functions f ∙ ap (option_map routine_of) e)

module _ (p : Program) where
  taken_by : (fs : List Function) (f : ℕ) (g : Function) (a : Doing) (x : ℕ) → slice_get fs f ≡ Some g → IsIn (body_doings g.body) a → doing_takes p a x ≡ true → list_any (λ (k : Function). function_takes p k x) fs ≡ true
  taken_by [] f g a x e i h = none_there e
  taken_by (k ∷ fs) zero g a x e i h =
      or_left (function_takes p k x) (list_any (λ (z : Function). function_takes p z x) fs)
      (any_in (λ (z : Doing). doing_takes p z x) (body_doings k.body) a (subst (λ (z : Function). IsIn (body_doings z.body) a) (sym (some_same e)) i) h)
  taken_by (k ∷ fs) (suc f) g a x e i h = or_right (function_takes p k x) (list_any (λ (z : Function). function_takes p z x) fs) (taken_by fs f g a x e i h)

  -- what a statement takes is taken
  pub doing_taken : (f : ℕ) (a : Doing) → StandsIn p f a → (x : ℕ) → doing_takes p a x ≡ true → is_taken p x ≡ true
  doing_taken f a k x h = taken_by p.functions f k.function a x k.function_is k.member h

  heap_in : (ds : List Doing) (a : Doing) (h : Heap) → IsIn ds a → IsIn (doing_heaps p a) h → IsIn (heaps p ds) h
  heap_in [] a h i j = absurd i
  heap_in (b ∷ ds) a h (inl same) j = in_first (doing_heaps p b) (heaps p ds) h (subst (λ (z : Doing). IsIn (doing_heaps p z) h) (sym same) j)
  heap_in (b ∷ ds) a h (inr i) j = in_second (doing_heaps p b) (heaps p ds) h (heap_in ds a h i j)

  heap_of : (fs : List Function) (f : ℕ) (g : Function) (h : Heap) → slice_get fs f ≡ Some g → IsIn (heaps p (body_doings g.body)) h → IsIn (function_heaps p fs) h
  heap_of [] f g h e i = none_there e
  heap_of (k ∷ fs) zero g h e i =
      in_first (heaps p (body_doings k.body)) (function_heaps p fs) h (subst (λ (z : Function). IsIn (heaps p (body_doings z.body)) h) (sym (some_same e)) i)
  heap_of (k ∷ fs) (suc f) g h e i = in_second (heaps p (body_doings k.body)) (function_heaps p fs) h (heap_of fs f g h e i)

  -- the blocks that a statement makes are among those of the program
  pub doing_heap : (f : ℕ) (a : Doing) → StandsIn p f a → (h : Heap) → IsIn (doing_heaps p a) h → IsIn (function_heaps p p.functions) h
  doing_heap f a k h i = heap_of p.functions f k.function h k.function_is (heap_in (body_doings k.function.body) a h k.member i)

  -- types fit in it
  pub doing_fit : IsTyped p → (f : ℕ) (a : Doing) → (k : StandsIn p f a) → doing_fits (declarations p) k.function.result a ≡ true
  doing_fit fits f a k = doing_typed p fits f k.function k.function_is a (contains_of_in (body_doings k.function.body) a k.member)

  -- its pairs hold of points-to
  pub doing_pairs : (points : TargetsOf) → IsPointsTo p points → (f : ℕ) (a : Doing) → IsIn (doings_of p f) a → (z : Pointing) → IsIn (doing_pointings p points f a) z → (l m : Location) → z.into l ≡ true → z.from m ≡ true → points l m ≡ true
  doing_pairs points exact f a i z j l m into from =
      (exact l m).1
      (by points z (λ k n h. (exact k n).0 h)
      (of_statement f (record { doing = a; member = contains_of_in (doings_of p f) a i; given = contains_of_in (doing_pointings p points f a) z j })) into from)
