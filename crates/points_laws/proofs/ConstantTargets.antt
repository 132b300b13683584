-- A constant expression, and NULL, point nowhere.
use Rattle.std.proofs.Common.{◌≡◌, Bool, true, false, inl, inr, Option, Some, None, refl, sym, ap, ◌∙◌, subst}
use Rattle.std.specs.Prelude.{◌&&◌, ◌||◌, ◌⊎◌, if◌then◌else◌, option_and_then}
use Rattle.std.proofs.lemmas.Bool.{false≢true}
use Rattle.c_arith.specs.declared.int_type.IntType.{IntType}
use Rattle.c_tree.specs.declared.expr.Expr.{Expr, fold-roll-Expr}
use Rattle.c_tree.specs.declared.expr.Expr.TheOpen.{Expr-F}
use Rattle.c_tree.specs.declared.expr.Expr.TheVariants as e
use Rattle.c_tree.specs.declared.program.Program.{Program}
use Rattle.c_tree.specs.declared.raw.expr.RawExpr.{RawExpr, map-RawExpr, roll-RawExpr, fold-roll-RawExpr}
use Rattle.c_tree.specs.declared.raw.expr.RawExpr.TheOpen.{RawExpr-F}
use Rattle.c_tree.specs.declared.raw.program.RawProgram.{RawProgram}
use Rattle.c_tree.proofs.RawTrees.{ExprParts, expr_layer, of_every_expr}
use Rattle.c_language.specs.ConstantEvaluation.{literal_type, literal_value, both, constant, constant_step, value_of_constant, binary_constant, chosen_constant}
use Rattle.c_language.specs.Options.{IsThere}
use Rattle.c_language.specs.ProgramOf.{Told, told_step, told_of, expr_of}
use Rattle.c_language.specs.Scopes.{Scope}
use Rattle.c_language.specs.Uses.{null_step, is_null_name}
use Rattle.c_language.specs.declared.constant.Constant.{Constant}
use Rattle.c_language.proofs.Options.{some_same, map_there, then_there, both_there, there_of_both, there_of_three}
use Rattle.dep_model.specs.declared.location.Location.{Location}
use Rattle.dep_model.specs.declared.location.Part.TheVariants as part
use Rattle.dep_model.specs.Denoted.{TargetsOf, Denoted, part_of, object_points, value_points, denoted, denoted_step, expr_points}
use Rattle.dep_model.specs.Designated.{is_array_place}

both_nowhere : (c a b : Bool) → a ≡ false → b ≡ false → (c && (a || b)) ≡ false
both_nowhere true a b ha hb = ap (λ z. z || b) ha ∙ hb
both_nowhere false a b ha hb = refl

no_object : (is_place is_array x y z : Bool) → is_place ≡ false → z ≡ false → (if is_place && is_array then x else (if is_place then y else z)) ≡ false
no_object true is_array x y z h k = absurd (false≢true (sym h))
no_object false is_array x y z h k = k

module _ (p : Program) (points : TargetsOf) where
  abbrev den : Expr → Denoted
  den = denoted p points

  abbrev step : Expr-F Denoted → Denoted
  step = denoted_step p points

  -- a value that points nowhere
  pub record IsNowhere (d : Denoted) : Type 0 where
    pub no_place : d.form.is_place ≡ false
    pub nowhere : (l : Location) → d.points l ≡ false

  pub value_nowhere : (d : Denoted) → IsNowhere d → (l : Location) → value_points p points d l ≡ false
  value_nowhere d h l = no_object d.form.is_place _ (part_of p part.Element d.places l) (object_points p points d l) (d.points l) h.no_place (h.nowhere l)

  abbrev Nowhere : Expr → Type 0
  Nowhere a = IsNowhere (den a)

  rolled : (a : Expr) (d : Denoted) → den a ≡ d → IsNowhere d → Nowhere a
  rolled a d is h = subst IsNowhere (sym is) h

  of_constant : (text : _) (k : IntType) (v : _) → Nowhere (e.Constant text k v)
  of_constant text k v = rolled (e.Constant text k v) (step (Expr-F.Constant text k v)) (ap den (sym (e.rolls-Constant text k v)) ∙ fold-roll-Expr Denoted step (Expr-F.Constant text k v)) (record { no_place = refl; nowhere = λ l. refl })

  of_null : Nowhere e.Null
  of_null = rolled e.Null (step Expr-F.Null) (ap den (sym e.rolls-Null) ∙ fold-roll-Expr Denoted step Expr-F.Null) (record { no_place = refl; nowhere = λ l. refl })

  of_eof : Nowhere e.Eof
  of_eof = rolled e.Eof (step Expr-F.Eof) (ap den (sym e.rolls-Eof) ∙ fold-roll-Expr Denoted step Expr-F.Eof) (record { no_place = refl; nowhere = λ l. refl })

  of_unary : (op : _) (a : Expr) → Nowhere (e.Unary op a)
  of_unary op a = rolled (e.Unary op a) (step (Expr-F.Unary op (den a))) (ap den (sym (e.rolls-Unary op a)) ∙ fold-roll-Expr Denoted step (Expr-F.Unary op a)) (record { no_place = refl; nowhere = λ l. refl })

  of_binary : (op : _) (a b : Expr) → Nowhere a → Nowhere b → Nowhere (e.Binary op a b)
  of_binary op a b h k =
      rolled (e.Binary op a b) (step (Expr-F.Binary op (den a) (den b))) (ap den (sym (e.rolls-Binary op a b)) ∙ fold-roll-Expr Denoted step (Expr-F.Binary op a b))
      (record { no_place = refl; nowhere = λ l. both_nowhere _ (value_points p points (den a) l) (value_points p points (den b) l) (value_nowhere (den a) h l) (value_nowhere (den b) k l) })

  of_and : (a b : Expr) → Nowhere (e.AndAlso a b)
  of_and a b = rolled (e.AndAlso a b) (step (Expr-F.AndAlso (den a) (den b))) (ap den (sym (e.rolls-AndAlso a b)) ∙ fold-roll-Expr Denoted step (Expr-F.AndAlso a b)) (record { no_place = refl; nowhere = λ l. refl })

  of_or : (a b : Expr) → Nowhere (e.OrElse a b)
  of_or a b = rolled (e.OrElse a b) (step (Expr-F.OrElse (den a) (den b))) (ap den (sym (e.rolls-OrElse a b)) ∙ fold-roll-Expr Denoted step (Expr-F.OrElse a b)) (record { no_place = refl; nowhere = λ l. refl })

  of_choice : (c a b : Expr) → Nowhere a → Nowhere b → Nowhere (e.Choose c a b)
  of_choice c a b h k =
      rolled (e.Choose c a b) (step (Expr-F.Choose (den c) (den a) (den b))) (ap den (sym (e.rolls-Choose c a b)) ∙ fold-roll-Expr Denoted step (Expr-F.Choose c a b))
      (record { no_place = refl; nowhere = λ l. both_nowhere _ (value_points p points (den a) l) (value_points p points (den b) l) (value_nowhere (den a) h l) (value_nowhere (den b) k l) })

  of_cast : (t : IntType) (a : Expr) → Nowhere (e.Cast t a)
  of_cast t a = rolled (e.Cast t a) (step (Expr-F.Cast t (den a))) (ap den (sym (e.rolls-Cast t a)) ∙ fold-roll-Expr Denoted step (Expr-F.Cast t a)) (record { no_place = refl; nowhere = λ l. refl })

  of_paren : (a : Expr) → Nowhere a → Nowhere (e.Paren a)
  of_paren a h =
      rolled (e.Paren a) (step (Expr-F.Paren (den a))) (ap den (sym (e.rolls-Paren a)) ∙ fold-roll-Expr Denoted step (Expr-F.Paren a)) (record { no_place = h.no_place; nowhere = h.nowhere })

  -- ---- texts

  module _ (raw : RawProgram) (scope : Scope) where
    -- constant expressions, and NULL within parentheses or not
    abbrev IsFixed : Option Constant → Bool → Type 0
    IsFixed o b = IsThere o ⊎ (b ≡ true)

    abbrev IsSound : RawExpr → Type 0
    IsSound a = IsFixed (constant a) (is_null_name a) → (x : Expr) → (told_of raw scope a).tree ≡ Some x → Nowhere x

    abbrev Layer : Type 0
    Layer = ExprParts IsSound

    abbrev layer_of : Layer → RawExpr-F RawExpr
    layer_of = expr_layer IsSound

    -- no operator but parentheses makes NULL
    only_constant : {A : Type 0} → A ⊎ (false ≡ true) → A
    only_constant (inl h) = h
    only_constant (inr h) = absurd (false≢true h)

    none_fixed : {A : Type 0} → ⊥ ⊎ (false ≡ true) → A
    none_fixed (inl h) = absurd h
    none_fixed (inr h) = absurd (false≢true h)

    layer_sound : (y : Layer) → IsFixed (constant_step (map-RawExpr RawExpr (Option Constant) constant (layer_of y))) (null_step (map-RawExpr RawExpr Bool is_null_name (layer_of y)))
        → (x : Expr) → (told_step raw scope (map-RawExpr RawExpr Told (told_of raw scope) (layer_of y))).tree ≡ Some x → Nowhere x
    layer_sound (RawExpr-F.Constant text) h x is = subst Nowhere (some_same is) (of_constant text (literal_type text) (literal_value text))
    layer_sound RawExpr-F.Null h x is = subst Nowhere (some_same is) of_null
    layer_sound RawExpr-F.Eof h x is = subst Nowhere (some_same is) of_eof
    layer_sound (RawExpr-F.Variable name) h x is = none_fixed h
    layer_sound (RawExpr-F.Unary op a) h x is = let m = map_there (e.Unary op) (told_of raw scope a.0).tree x is in subst Nowhere m.same (of_unary op m.value)
    layer_sound (RawExpr-F.Deref a) h x is = none_fixed h
    layer_sound (RawExpr-F.AddressOf a) h x is = none_fixed h
    layer_sound (RawExpr-F.Binary op a b) h x is =
        let k = there_of_both (binary_constant op) (constant a.0) (constant b.0) (only_constant h) in
        let m = both_there (e.Binary op) (told_of raw scope a.0).tree (told_of raw scope b.0).tree x is in
        subst Nowhere m.same (of_binary op m.left m.right (a.1 (inl k.0) m.left m.left_there) (b.1 (inl k.1) m.right m.right_there))
    layer_sound (RawExpr-F.AndAlso a b) h x is = let m = both_there e.AndAlso (told_of raw scope a.0).tree (told_of raw scope b.0).tree x is in subst Nowhere m.same (of_and m.left m.right)
    layer_sound (RawExpr-F.OrElse a b) h x is = let m = both_there e.OrElse (told_of raw scope a.0).tree (told_of raw scope b.0).tree x is in subst Nowhere m.same (of_or m.left m.right)
    layer_sound (RawExpr-F.Choose c a b) h x is =
        let k = there_of_three chosen_constant (constant c.0) (constant a.0) (constant b.0) (only_constant h) in
        let t = then_there (λ (z : Expr). both (e.Choose z) (told_of raw scope a.0).tree (told_of raw scope b.0).tree) (told_of raw scope c.0).tree x is in
        let m = both_there (e.Choose t.value) (told_of raw scope a.0).tree (told_of raw scope b.0).tree x t.same in
        subst Nowhere m.same (of_choice t.value m.left m.right (a.1 (inl k.1) m.left m.left_there) (b.1 (inl k.2) m.right m.right_there))
    layer_sound (RawExpr-F.Cast t a) h x is = let m = map_there (e.Cast t) (told_of raw scope a.0).tree x is in subst Nowhere m.same (of_cast t m.value)
    layer_sound (RawExpr-F.Index a i) h x is = none_fixed h
    layer_sound (RawExpr-F.Member a m) h x is = none_fixed h
    layer_sound (RawExpr-F.Arrow a m) h x is = none_fixed h
    layer_sound (RawExpr-F.Paren a) h x is = let m = map_there e.Paren (told_of raw scope a.0).tree x is in subst Nowhere m.same (of_paren m.value (a.1 h m.value m.there))

    rolled_sound : (y : Layer) → IsSound (roll-RawExpr (layer_of y))
    rolled_sound y h x is =
        let fixed = subst (λ o. IsFixed o (is_null_name (roll-RawExpr (layer_of y)))) (fold-roll-RawExpr (Option Constant) constant_step (layer_of y)) h in
        layer_sound y (subst (λ b. IsFixed (constant_step (map-RawExpr RawExpr (Option Constant) constant (layer_of y))) b) (fold-roll-RawExpr Bool null_step (layer_of y)) fixed) x
        (ap (λ (t : Told). t.tree) (sym (fold-roll-RawExpr Told (told_step raw scope) (layer_of y))) ∙ is)

    sound : (a : RawExpr) → IsSound a
    sound = of_every_expr IsSound rolled_sound

    value_then : (o : Option Constant) → IsThere (option_and_then (λ (x : Constant). x.value) o) → IsThere o
    value_then None h = h
    value_then (Some x) h = tt

    -- where a constant expression, or NULL, has a tree, that points nowhere
    pub fixed_nowhere : (a : RawExpr) → IsThere (value_of_constant a) ⊎ (is_null_name a ≡ true) → (x : Expr) → expr_of raw scope a ≡ Some x → (l : Location) → expr_points p points x l ≡ false
    fixed_nowhere a (inl h) x is l = value_nowhere (den x) (sound a (inl (value_then (constant a) h)) x is) l
    fixed_nowhere a (inr h) x is l = value_nowhere (den x) (sound a (inr h) x is) l
