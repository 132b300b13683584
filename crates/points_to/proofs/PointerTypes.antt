-- A value points nowhere but where it is a pointer by its type, or an array, which turns into one.
use Rattle.std.proofs.Common.{◌≡◌, Bool, true, false, ◌&&◌, ◌||◌, refl, sym, subst}
use Rattle.std.specs.Prelude.{if◌then◌else◌}
use Rattle.std.proofs.lemmas.Bool.{false≢true, and_parts, or_left, or_right}
use Rattle.c_tree.specs.declared.expr.Expr.{Expr, map-Expr, ind-Expr, roll-Expr, fold-roll-Expr}
use Rattle.c_tree.specs.declared.expr.Expr.TheOpen.{Expr-F}
use Rattle.c_tree.specs.declared.program.Program.{Program}
use Rattle.c_language.specs.declared.expr_type.ExprType.{ExprType}
use Rattle.c_language.specs.ExprTypes.{is_pointer, is_array}
use Rattle.c_language.specs.TreeTypes.{tree_type}
use Rattle.dep_model.specs.declared.location.Location.{Location}
use Rattle.dep_model.specs.declared.location.Part.TheVariants as part
use Rattle.dep_model.specs.Denoted.{Places, TargetsOf, Denoted, part_of, targets, an_object, denoted, denoted_step, expr_points}
use Rattle.dep_model.specs.Designated.{Designated, is_array_place}
use Rattle.effect_rows.proofs.TypeLemmas.{denoted_type}

module _ (p : Program) (points : TargetsOf) where
  abbrev den : Expr → Denoted
  den = denoted p points

  -- what has no object points only where it is a pointer
  abbrev PointsByType : Denoted → Type 0
  PointsByType d = (l : Location) → d.points l ≡ true → is_pointer d.form.type ≡ true

  abbrev Known : Type 0
  Known = (a : Expr) × PointsByType (den a)

  abbrev layer : Expr-F Known → Expr-F Expr
  layer = map-Expr Known Expr (λ a. a.0)

  nowhere : {A : Type 0} → false ≡ true → A
  nowhere h = absurd (false≢true h)

  element : (b : Bool) (f : Designated) (x y r s : Places) → PointsByType (if b then an_object p points f x r else an_object p points f y s)
  element true f x y r s l h = nowhere h
  element false f x y r s l h = nowhere h

  layer_points : (y : Expr-F Known) → PointsByType (denoted_step p points (map-Expr Expr Denoted den (layer y)))
  layer_points (Expr-F.Constant t k v) l h = nowhere h
  layer_points Expr-F.Null l h = nowhere h
  layer_points Expr-F.Eof l h = nowhere h
  layer_points (Expr-F.Variable x) l h = nowhere h
  layer_points (Expr-F.Unary op a) l h = nowhere h
  layer_points (Expr-F.Deref a) l h = nowhere h
  layer_points (Expr-F.AddressOf a) l h = refl
  layer_points (Expr-F.Binary op a b) l h = (and_parts _ _ h).0
  layer_points (Expr-F.AndAlso a b) l h = nowhere h
  layer_points (Expr-F.OrElse a b) l h = nowhere h
  layer_points (Expr-F.Choose c a b) l h = (and_parts _ _ h).0
  layer_points (Expr-F.Cast k a) l h = nowhere h
  layer_points (Expr-F.Index a i) l h = element _ _ _ _ _ _ l h
  layer_points (Expr-F.Member a m) l h = nowhere h
  layer_points (Expr-F.Arrow a m) l h = nowhere h
  layer_points (Expr-F.Paren a) l h = a.1 l h

  known_layer : (y : Expr-F Known) → PointsByType (den (roll-Expr (layer y)))
  known_layer y = subst PointsByType (sym (fold-roll-Expr Denoted (denoted_step p points) (layer y))) (layer_points y)

  points_by_type : (a : Expr) → PointsByType (den a)
  points_by_type = ind-Expr (λ a. PointsByType (den a)) (λ x y is. subst (λ z. PointsByType (den (roll-Expr z))) is (known_layer y))

  value_at : (array place : Bool) (t : ExprType) (parts to own : Bool) → (array ≡ true → is_array t ≡ true) → (own ≡ true → is_pointer t ≡ true)
      → (if array then parts else (if place then is_pointer t && to else own)) ≡ true → (is_pointer t || is_array t) ≡ true
  value_at true place t parts to own array value h = or_right (is_pointer t) (is_array t) (array refl)
  value_at false true t parts to own array value h = or_left (is_pointer t) (is_array t) (and_parts (is_pointer t) to h).0
  value_at false false t parts to own array value h = or_left (is_pointer t) (is_array t) (value h)

  pub pointers_alone_point : (e : Expr) (l : Location) → expr_points p points e l ≡ true → (is_pointer (tree_type p e) || is_array (tree_type p e)) ≡ true
  pointers_alone_point e l h =
      subst (λ (t : ExprType). (is_pointer t || is_array t) ≡ true) (denoted_type p points e)
      (value_at (is_array_place (den e).form) (den e).form.is_place (den e).form.type (part_of p part.Element (den e).places l) (targets p points (den e).places l) ((den e).points l)
      (λ is. (and_parts (den e).form.is_place (is_array (den e).form.type) is).1) (points_by_type e l) h)
