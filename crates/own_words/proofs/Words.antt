-- What is written with names that stay is written the same in the projection.
use Rattle.std.proofs.Common.{◌≡◌, ℕ, List, [], ◌∷◌, ◌++◌, map, Option, Some, None, Bool, true, false, codes, refl, sym, ap, ◌∙◌, subst, eq-eqb, ap₂}
use Rattle.std.specs.Prelude.{◌||◌, slice_get, option_map}
use Rattle.std.specs.Option.{option_map_or}
use Rattle.c_tree.specs.declared.types.CType.{CType}
use Rattle.c_tree.specs.declared.expr.Expr.{Expr, fold-roll-Expr, roll-Expr, map-Expr}
use Rattle.c_tree.specs.declared.expr.Expr.TheOpen.{Expr-F}
use Rattle.c_tree.specs.declared.program.Program.{Program}
use Rattle.c_tree.specs.declared.program.Var.{Var}
use Rattle.c_tree.specs.declared.program.Init.{Init}
use Rattle.c_tree.specs.declared.program.Init.TheVariants as init
use Rattle.c_tree.specs.declared.statement.Target.{Target}
use Rattle.c_tree.specs.declared.statement.Target.TheVariants as target
use Rattle.c_tree.specs.declared.statement.Size.{Size}
use Rattle.c_tree.specs.declared.statement.Size.TheVariants as size
use Rattle.c_tree.specs.declared.statement.Amount.{Amount}
use Rattle.c_tree.specs.declared.statement.Amount.TheVariants as amount
use Rattle.c_tree.proofs.Trees.{ExprParts, expr_layer, of_every_expr}
use Rattle.c_language.specs.Words.{Bytes, joined, binary_sign, int_words, signed, name_of_var, name_of_function, name_of_member, declared, type_words, expr_step, expr_words}
use Rattle.c_language.specs.Layout.{init_words, var_words, target_words, pointee_words, size_words, amount_words, cast_words, return_words}
use Rattle.kept_numbers.specs.Ranks.{rank}
use Rattle.projection.specs.Kept.{Kept}
use Rattle.c_language.specs.Names.{names_step, names, any_names, init_names, target_names, size_names, amount_names, value_names}
use Rattle.projection.specs.Renumbering.{renamed, renamed_init, renamed_target, renamed_size, renamed_amount}
use Rattle.projection.specs.Projection.{projected_var, projected_program}
use Rattle.own_words.proofs.Lists.{three}
use Rattle.own_words.proofs.Exprs.{renamed_layer, fold_renamed}
use Rattle.own_words.proofs.Names.{get-projected, named-projected}
use Rattle.projection.proofs.NamesPass.{NamesPass, left_pass, right_pass}

module _ (p : Program) (kept : Kept ℕ) where
  abbrev pub staying : ℕ → Bool
  staying = kept.variable

  abbrev pub ranked : ℕ → ℕ
  ranked = rank staying

  -- the new numbers of functions
  abbrev pub numbers : ℕ → ℕ
  numbers = rank kept.function

  abbrev pub smaller : Program
  smaller = projected_program kept p

  -- ---- names

  of_var : {A : Type 0} (f : Var → A) (none : A) → ((v : Var) → f (projected_var kept numbers v) ≡ f v) → (o : Option Var) → option_map_or f (option_map (projected_var kept numbers) o) none ≡ option_map_or f o none
  of_var f none same None = refl
  of_var f none same (Some v) = same v

  name_same : (x : ℕ) → staying x ≡ true → name_of_var smaller (ranked x) ≡ name_of_var p x
  name_same x t =
      ap (λ o. option_map_or (λ (v : Var). v.name) o []) (get-projected kept numbers p.vars x t) ∙ of_var (λ (v : Var). v.name) [] (λ v. refl) (slice_get p.vars x)

  pub var_words_same : (x : ℕ) → staying x ≡ true → var_words smaller (ranked x) ≡ var_words p x
  var_words_same x t =
      ap (λ o. option_map_or (λ (v : Var). declared p v.shape v.name) o []) (get-projected kept numbers p.vars x t) ∙ of_var (λ (v : Var). declared p v.shape v.name) [] (λ v. refl) (slice_get p.vars x)

  -- ---- expressions

  abbrev SameWords : Expr → Type 0
  SameWords a = expr_words smaller (renamed ranked a) ≡ expr_words p a

  abbrev Says : Expr → Type 0
  Says a = NamesPass (names a) staying → SameWords a

  abbrev layer_names : Expr-F Expr → ℕ → Bool
  layer_names z = names_step (map-Expr Expr (ℕ → Bool) names z)

  abbrev words_here : Expr-F Expr → Bytes
  words_here z = expr_step p (map-Expr Expr Bytes (expr_words p) z)

  abbrev words_there : Expr-F Expr → Bytes
  words_there z = expr_step smaller (map-Expr Expr Bytes (expr_words smaller) (renamed_layer ranked (map-Expr Expr Expr (renamed ranked) z)))

  says_roll : (z : Expr-F Expr) → (NamesPass (layer_names z) staying → words_there z ≡ words_here z) → Says (roll-Expr z)
  says_roll z h named =
      fold_renamed Bytes (expr_step smaller) ranked z ∙ h (subst (λ (n : ℕ → Bool). NamesPass n staying) (fold-roll-Expr (ℕ → Bool) names_step z) named) ∙ sym (fold-roll-Expr Bytes (expr_step p) z)

  says_layer : (y : ExprParts Says) → NamesPass (layer_names (expr_layer Says y)) staying → words_there (expr_layer Says y) ≡ words_here (expr_layer Says y)
  says_layer (Expr-F.Constant text t v) h = refl
  says_layer Expr-F.Null h = refl
  says_layer Expr-F.Eof h = refl
  says_layer (Expr-F.Variable x) h = name_same x (h x (eq-eqb x x refl))
  says_layer (Expr-F.Unary op a) h = ap (signed op) (a.1 h)
  says_layer (Expr-F.Deref a) h = ap (λ w. codes "*" ++ w) (a.1 h)
  says_layer (Expr-F.AddressOf a) h = ap (λ w. codes "&" ++ w) (a.1 h)
  says_layer (Expr-F.Binary op a b) h = ap₂ (λ v w. v ++ (codes " " ++ (binary_sign op ++ (codes " " ++ w)))) (a.1 (left_pass (names a.0) (names b.0) h)) (b.1 (right_pass (names a.0) (names b.0) h))
  says_layer (Expr-F.AndAlso a b) h = ap₂ (λ v w. v ++ (codes " && " ++ w)) (a.1 (left_pass (names a.0) (names b.0) h)) (b.1 (right_pass (names a.0) (names b.0) h))
  says_layer (Expr-F.OrElse a b) h = ap₂ (λ v w. v ++ (codes " || " ++ w)) (a.1 (left_pass (names a.0) (names b.0) h)) (b.1 (right_pass (names a.0) (names b.0) h))
  says_layer (Expr-F.Choose c a b) h =
      let behind = right_pass (names c.0) (λ x. names a.0 x || names b.0 x) h in
      three (λ u v w. u ++ (codes " ? " ++ (v ++ (codes " : " ++ w)))) (c.1 (left_pass (names c.0) (λ x. names a.0 x || names b.0 x) h)) (a.1 (left_pass (names a.0) (names b.0) behind)) (b.1 (right_pass (names a.0) (names b.0) behind))
  says_layer (Expr-F.Cast t a) h = ap (λ w. codes "(" ++ (int_words t ++ (codes ")" ++ w))) (a.1 h)
  says_layer (Expr-F.Index a i) h = ap₂ (λ v w. v ++ (codes "[" ++ (w ++ codes "]"))) (a.1 (left_pass (names a.0) (names i.0) h)) (i.1 (right_pass (names a.0) (names i.0) h))
  says_layer (Expr-F.Member a m) h = ap (λ w. w ++ (codes "." ++ name_of_member p m)) (a.1 h)
  says_layer (Expr-F.Arrow a m) h = ap (λ w. w ++ (codes "->" ++ name_of_member p m)) (a.1 h)
  says_layer (Expr-F.Paren a) h = ap (λ w. codes "(" ++ (w ++ codes ")")) (a.1 h)

  -- an expression whose names stay is written as it was
  pub expr_says : (a : Expr) → Says a
  expr_says = of_every_expr Says (λ y. says_roll (expr_layer Says y) (says_layer y))

  pub all_say : (as_ : List Expr) → NamesPass (any_names as_) staying → map (expr_words smaller) (map (renamed ranked) as_) ≡ map (expr_words p) as_
  all_say [] h = refl
  all_say (a ∷ as_) h =
      ap₂ (λ w ws. w ∷ ws) (expr_says a (left_pass (names a) (any_names as_) h)) (all_say as_ (right_pass (names a) (any_names as_) h))

  -- ---- functions and types

  -- a function that stays has its name
  pub function_same : (n : ℕ) → kept.function n ≡ true → name_of_function smaller (numbers n) ≡ name_of_function p n
  function_same n t = named-projected kept p.functions n t

  type_same : (t : CType) → type_words smaller t ≡ type_words p t
  type_same t = refl

  pub cast_same : (o : Option CType) → cast_words smaller o ≡ cast_words p o
  cast_same None = refl
  cast_same (Some t) = ap (λ w. codes "(" ++ (w ++ codes ")")) (type_same t)

  -- ---- what stands in statements

  pub init_says : (i : Init) → NamesPass (init_names i) staying → init_words smaller (renamed_init ranked i) ≡ init_words p i
  init_says init.None h = refl
  init_says (init.One a) h = ap (λ w. codes " = " ++ w) (expr_says a h)
  init_says (init.Items as_) h = ap (λ ws. codes " = {" ++ (joined (codes ", ") ws ++ codes "}")) (all_say as_ h)

  pub target_says : (t : Target) → NamesPass (target_names t) staying → target_words smaller (renamed_target ranked t) ≡ target_words p t
  target_says target.None h = refl
  target_says (target.Place a) h = ap (λ w. w ++ codes " = ") (expr_says a h)
  target_says (target.Declared x) h = ap (λ w. w ++ codes " = ") (var_words_same x (h x (eq-eqb x x refl)))

  pointee_says : (x : ℕ) (closed : Bool) → staying x ≡ true → pointee_words smaller (ranked x) closed ≡ pointee_words p x closed
  pointee_says x true h = ap (λ w. codes "sizeof(*" ++ (w ++ codes ")")) (name_same x h)
  pointee_says x false h = ap (λ w. codes "sizeof *" ++ w) (name_same x h)

  size_says : (m : Size) → NamesPass (size_names m) staying → size_words smaller (renamed_size ranked m) ≡ size_words p m
  size_says (size.Type t) h = ap (λ w. codes "sizeof(" ++ (w ++ codes ")")) (type_same t)
  size_says (size.Pointee x closed) h = pointee_says x closed (h x (eq-eqb x x refl))

  pub amount_says : (n : Amount) → NamesPass (amount_names n) staying → amount_words smaller (renamed_amount ranked n) ≡ amount_words p n
  amount_says (amount.Size m) h = size_says m h
  amount_says (amount.CountSize a m) h =
      ap₂ (λ v w. v ++ (codes " * " ++ w)) (expr_says a (left_pass (names a) (size_names m) h)) (size_says m (right_pass (names a) (size_names m) h))
  amount_says (amount.SizeCount m a) h =
      ap₂ (λ v w. v ++ (codes " * " ++ w)) (size_says m (left_pass (size_names m) (names a) h)) (expr_says a (right_pass (size_names m) (names a) h))
  amount_says (amount.Count a) h = expr_says a h

  pub return_says : (o : Option Expr) → NamesPass (value_names o) staying → return_words smaller (option_map (renamed ranked) o) ≡ return_words p o
  return_says None h = refl
  return_says (Some a) h = ap (λ w. codes "return " ++ w) (expr_says a h)
