-- What forms of expression name in a step.
use mathlib.Core.Path.{fun_ext}
use Rattle.std.proofs.Common.{◌≡◌, ℕ, Bool, true, false, ◌||◌, ◌&&◌, if◌then◌else◌, None, refl, sym, ap, ap₂, ◌∙◌}
use Rattle.c_arith.specs.declared.operators.BinaryOp.{BinaryOp}
use Rattle.c_tree.specs.declared.expr.MemberId.{MemberId}
use Rattle.c_tree.specs.declared.expr.Expr.{Expr, map-Expr}
use Rattle.c_tree.specs.declared.expr.Expr.TheOpen.{Expr-F}
use Rattle.c_tree.specs.declared.expr.Expr.TheVariants as e
use Rattle.c_tree.specs.declared.program.Program.{Program}
use Rattle.c_language.specs.declared.expr_type.ExprType.{ExprType}
use Rattle.c_language.specs.ExprTypes.{is_pointer}
use Rattle.c_language.specs.TreeTypes.{tree_type}
use Rattle.bit_rows.specs.Tables.{Table}
use Rattle.dep_model.specs.declared.location.Part.TheVariants as part
use Rattle.dep_model.specs.Designated.{Designated, is_array_place, a_place, value_takes, takes_either, designated_step}
use Rattle.dep_model.specs.Denoted.{Places, TargetsOf, Denoted, no_places, either_of, part_of, targets, value_points, value_reads, reads_either, points_either, denoted, denoted_step, an_object}
use Rattle.effect_rows.specs.declared.steps.Steps.{Steps}
use Rattle.effect_rows.specs.Gains.{with_places, HasLocationRow}
use Rattle.effect_rows.specs.Named.{named_by, named}
use Rattle.effect_rows.specs.Steps.{taken}
use Rattle.effect_rows.proofs.DenotedForms.{denotes-Index, denotes-Member, denotes-Binary, denotes-Choose}
use Rattle.effect_rows.proofs.GainLemmas.{gains_twice, gains_nothing}
use Rattle.effect_rows.proofs.PlaceLemmas.{taken-either, taken-none}
use Rattle.effect_rows.proofs.TypeLemmas.{denoted_type}

module _ (p : Program) (points : TargetsOf) where
  abbrev den : Expr → Denoted
  den = denoted p points

  abbrev to_value : Expr → Places
  to_value a = value_points p points (den a)

  -- ---- rows

  pub nothing_gained : (r : ℕ) (s : Steps) (t : Table) (a : Places) → a ≡ no_places → t ≡ with_places p r (taken p points s a) t
  nothing_gained r s t a none =
      sym (ap (λ (b : Places). with_places p r (taken p points s b) t) none ∙ ap (λ (b : Places). with_places p r b t) (taken-none p points s) ∙ gains_nothing p r t)

  pub both_gained : (r : ℕ) (s : Steps) (t u v : Table) (first second a b all : Places) → HasLocationRow p r t → u ≡ with_places p r first t → first ≡ taken p points s a → v ≡ with_places p r second u → second ≡ taken p points s b → all ≡ either_of a b → v ≡ with_places p r (taken p points s all) t
  both_gained r s t u v first second a b all has to_u is_first to_v is_second is_all =
      to_v
      ∙ ap (with_places p r second) to_u
      ∙ gains_twice p r first second t has
      ∙ ap (λ (c : Places). with_places p r c t) (ap₂ either_of is_first is_second ∙ sym (taken-either p points s a b) ∙ ap (taken p points s) (sym is_all))

  -- ---- members and elements

  pub no_member : (a : Expr) (m : MemberId) → (den a).form.is_place ≡ false → named p points (e.Member a m) ≡ no_places
  no_member a m none = ap named_by (denotes-Member p points a m) ∙ ap (λ t. if t then part_of p (part.Member m.index) (den a).places else no_places) none

  element_names : (b : Bool) (f : Designated) (x y r s : Places) → f.is_place ≡ true → named_by (if b then an_object p points f x r else an_object p points f y s) ≡ (if b then x else y)
  element_names true f x y r s is = ap (λ t. if t then x else no_places) is
  element_names false f x y r s is = ap (λ t. if t then y else no_places) is

  element_value : (d : Denoted) (b : Bool) → is_array_place d.form ≡ b → (if b then part_of p part.Element d.places else value_points p points d) ≡ value_points p points d
  element_value d true is =
      fun_ext (λ l. sym (ap (λ t. if t then part_of p part.Element d.places l else (if d.form.is_place then is_pointer d.form.type && targets p points d.places l else d.points l)) is))
  element_value d false is = refl

  abbrev pub element_form : Expr → Expr → Designated
  element_form a i = designated_step p (map-Expr Denoted Designated (λ (d : Denoted). d.form) (Expr-F.Index (den a) (den i)))

  index_place : (b : Bool) (t : ExprType) (fa fi : Designated) → (if b then a_place t fa.root None (λ x. fa.takes x || value_takes fi x) else a_place t None None (takes_either fa fi)).is_place ≡ true
  index_place true t fa fi = refl
  index_place false t fa fi = refl

  pub named-Index : (a i : Expr) → named p points (e.Index a i) ≡ to_value a
  named-Index a i =
      ap named_by (denotes-Index p points a i)
      ∙ element_names (is_array_place (den a).form) (element_form a i) (part_of p part.Element (den a).places) (to_value a) (either_of (den a).reads (value_reads p points (den i))) (reads_either p points (den a) (den i)) (index_place (is_array_place (den a).form) _ (den a).form (den i).form)
      ∙ element_value (den a) (is_array_place (den a).form) refl

  -- ---- sums, differences and choices

  pair_points : (f : Designated) (a b : Denoted) (t : Bool) → is_pointer f.type ≡ t → points_either p points f a b ≡ (λ l. t && (value_points p points a l || value_points p points b l))
  pair_points f a b t is = fun_ext (λ l. ap (λ c. c && (value_points p points a l || value_points p points b l)) is)

  abbrev binary_form : BinaryOp → Expr → Expr → Denoted
  binary_form op a b = denoted_step p points (Expr-F.Binary op (den a) (den b))

  abbrev choice_form : Expr → Expr → Expr → Denoted
  choice_form c a b = denoted_step p points (Expr-F.Choose (den c) (den a) (den b))

  binary_type : (op : BinaryOp) (a b : Expr) (t : Bool) → is_pointer (tree_type p (e.Binary op a b)) ≡ t → is_pointer (binary_form op a b).form.type ≡ t
  binary_type op a b t is = ap is_pointer (sym (ap (λ (d : Denoted). d.form.type) (denotes-Binary p points op a b)) ∙ denoted_type p points (e.Binary op a b)) ∙ is

  choice_type : (c a b : Expr) (t : Bool) → is_pointer (tree_type p (e.Choose c a b)) ≡ t → is_pointer (choice_form c a b).form.type ≡ t
  choice_type c a b t is = ap is_pointer (sym (ap (λ (d : Denoted). d.form.type) (denotes-Choose p points c a b)) ∙ denoted_type p points (e.Choose c a b)) ∙ is

  pub binary_points : (x : Expr) (op : BinaryOp) (a b : Expr) (t : Bool) → x ≡ e.Binary op a b → is_pointer (tree_type p x) ≡ t → named p points x ≡ (λ l. t && (to_value a l || to_value b l))
  binary_points x op a b t same is =
      ap (named p points) same
      ∙ ap named_by (denotes-Binary p points op a b)
      ∙ pair_points (binary_form op a b).form (den a) (den b) t (binary_type op a b t (sym (ap (λ y. is_pointer (tree_type p y)) same) ∙ is))

  pub choice_points : (x c a b : Expr) (t : Bool) → x ≡ e.Choose c a b → is_pointer (tree_type p x) ≡ t → named p points x ≡ (λ l. t && (to_value a l || to_value b l))
  choice_points x c a b t same is =
      ap (named p points) same
      ∙ ap named_by (denotes-Choose p points c a b)
      ∙ pair_points (choice_form c a b).form (den a) (den b) t (choice_type c a b t (sym (ap (λ y. is_pointer (tree_type p y)) same) ∙ is))
