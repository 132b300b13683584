-- What is read for an expression is added part by part.
use mathlib.Core.Path.{fun_ext}
use Rattle.std.proofs.Common.{◌≡◌, ℕ, Bool, true, false, ◌||◌, ◌&&◌, if◌then◌else◌, length, refl, sym, ap, ◌∙◌}
use Rattle.c_tree.specs.declared.expr.Expr.{Expr}
use Rattle.c_tree.specs.declared.program.Program.{Program}
use Rattle.c_tree.specs.declared.expr.Expr.TheVariants as e
use Rattle.c_language.specs.ExprTypes.{is_array, is_scalar}
use Rattle.c_language.specs.TreeTypes.{tree_type}
use Rattle.bit_rows.specs.Tables.{Table, IsSized}
use Rattle.dep_model.specs.declared.location.Part.TheVariants as part
use Rattle.dep_model.specs.Designated.{Designated, is_array_place}
use Rattle.dep_model.specs.Denoted.{Places, TargetsOf, Denoted, denoted, no_places, either_of, an_object, part_of, value_points, value_reads, expr_reads, left_reads}
use Rattle.dep_model.specs.Locations.{locations}
use Rattle.effect_rows.specs.declared.steps.Steps.TheVariants as steps
use Rattle.effect_rows.specs.Gains.{with_places, HasLocationRow}
use Rattle.effect_rows.specs.Named.{named}
use Rattle.effect_rows.specs.Steps.{taken}
use Rattle.effect_rows.proofs.GainLemmas.{gains_twice, gains_nothing, row_again}
use Rattle.effect_rows.proofs.DenotedForms.{denotes-Index}
use Rattle.effect_rows.proofs.NamedForms.{element_form}
use Rattle.effect_rows.proofs.PlaceLemmas.{taken-Done}
use Rattle.effect_rows.proofs.TypeLemmas.{denoted_type}

module _ (p : Program) (r : ℕ) where
  pub none_read : (t : Table) (all : Places) → all ≡ no_places → t ≡ with_places p r all t
  none_read t all none = sym (ap (λ (a : Places). with_places p r a t) none ∙ gains_nothing p r t)

  pub two_read : (t u v : Table) (a b all : Places) → HasLocationRow p r t → u ≡ with_places p r a t → v ≡ with_places p r b u → all ≡ either_of a b → v ≡ with_places p r all t
  two_read t u v a b all has to_u to_v is = to_v ∙ ap (with_places p r b) to_u ∙ gains_twice p r a b t has ∙ ap (λ (c : Places). with_places p r c t) (sym is)

  pub three_read : (t u v w : Table) (a b c all : Places) → HasLocationRow p r t → IsSized (length t.sets) (length (locations p)) u → u ≡ with_places p r a t → v ≡ with_places p r b u → w ≡ with_places p r c v → all ≡ either_of a (either_of b c) → w ≡ with_places p r all t
  three_read t u v w a b c all has sized to_u to_v to_w is =
      two_read t u w a (either_of b c) all has to_u (two_read u v w b c (either_of b c) (row_again p r t u has sized) to_v to_w refl) is

module _ (p : Program) (points : TargetsOf) where
  abbrev den : Expr → Denoted
  den = denoted p points

  object_reads : (d : Denoted) (b : Bool) → (d.form.is_place && is_scalar d.form.type) ≡ b → ◌≡◌ {A = Places} (value_reads p points d) (λ l. d.reads l || (b && d.places l))
  object_reads d b is = fun_ext (λ l. ap (λ t. d.reads l || (t && d.places l)) is)

  typed : (a : Expr) (b : Bool) → ((den a).form.is_place && is_scalar (tree_type p a)) ≡ b → ((den a).form.is_place && is_scalar (den a).form.type) ≡ b
  typed a b is = ap (λ t. (den a).form.is_place && is_scalar t) (denoted_type p points a) ∙ is

  or_nothing : (x : Bool) → (x || false) ≡ x
  or_nothing true = refl
  or_nothing false = refl

  -- the object isn't read
  pub reads_found : (a : Expr) → ((den a).form.is_place && is_scalar (tree_type p a)) ≡ false → expr_reads p points a ≡ left_reads p points a
  reads_found a is = object_reads (den a) false (typed a false is) ∙ fun_ext (λ l. or_nothing ((den a).reads l))

  place_of_both : (x y : Bool) → (x && y) ≡ true → x ≡ true
  place_of_both true y is = refl
  place_of_both false y is = is

  -- the object is read too
  pub reads_both : (a : Expr) → ((den a).form.is_place && is_scalar (tree_type p a)) ≡ true → expr_reads p points a ≡ either_of (left_reads p points a) (taken p points steps.Done (named p points a))
  reads_both a is =
      object_reads (den a) true (typed a true is)
      ∙ ap (either_of (den a).reads) (sym (ap (λ f. f (named p points a)) (taken-Done p points) ∙ ap (λ t. if t then (den a).places else (den a).points) (place_of_both (den a).form.is_place (is_scalar (tree_type p a)) is)))

  pub element_reads : (b : Bool) (f : Designated) (x y d v i : Places) → (if b then an_object p points f x (either_of d i) else an_object p points f y (either_of v i)).reads ≡ either_of (if b then d else v) i
  element_reads true f x y d v i = refl
  element_reads false f x y d v i = refl

  reads_of_element : (a i : Expr) (b : Bool) → ((den a).form.is_place && is_array (tree_type p a)) ≡ b → left_reads p points (e.Index a i) ≡ either_of (if b then left_reads p points a else expr_reads p points a) (expr_reads p points i)
  reads_of_element a i b is =
      ap (λ (d : Denoted). d.reads) (denotes-Index p points a i)
      ∙ element_reads (is_array_place (den a).form) (element_form p points a i) (part_of p part.Element (den a).places) (value_points p points (den a)) (den a).reads (value_reads p points (den a)) (value_reads p points (den i))
      ∙ ap (λ t. either_of (if t then left_reads p points a else expr_reads p points a) (expr_reads p points i)) (ap (λ t. (den a).form.is_place && is_array t) (denoted_type p points a) ∙ is)

  -- an element of an array: the array isn't read
  pub reads_in_array : (x a i : Expr) → x ≡ e.Index a i → ((den a).form.is_place && is_array (tree_type p a)) ≡ true → left_reads p points x ≡ either_of (left_reads p points a) (expr_reads p points i)
  reads_in_array x a i same is = ap (left_reads p points) same ∙ reads_of_element a i true is

  -- an element behind a pointer: that is read
  pub reads_behind : (x a i : Expr) → x ≡ e.Index a i → ((den a).form.is_place && is_array (tree_type p a)) ≡ false → left_reads p points x ≡ either_of (expr_reads p points a) (expr_reads p points i)
  reads_behind x a i same is = ap (left_reads p points) same ∙ reads_of_element a i false is
