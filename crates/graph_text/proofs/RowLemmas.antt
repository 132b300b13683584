-- The rows of statements, list by list.
use Rattle.std.proofs.Common.{◌≡◌, ℕ, List, [], ◌∷◌, ◌++◌, map, Option, Some, None, append_assoc, append-nil, refl, sym, ap, ap₂, ◌∙◌}
use Rattle.std.specs.Option.{option_to_list}
use Rattle.c_tree.specs.declared.expr.Expr.{Expr}
use Rattle.c_tree.specs.declared.program.Function.{Function}
use Rattle.c_tree.specs.declared.program.Program.{Program}
use Rattle.c_tree.specs.declared.statement.Arm.{Arm, out-Arm, fold-Arm, fold_out-Arm}
use Rattle.c_tree.specs.declared.statement.Statement.{Statement, out-Statement, map-Statement, fold-roll-Statement}
use Rattle.c_tree.specs.declared.statement.Statement.TheOpen.{Statement-F}
use Rattle.c_tree.specs.declared.statement.Statement.TheViews.{roll-out-Statement}
use Rattle.c_tree.specs.declared.statement.Statement.TheVariants as s
use Rattle.c_tree.specs.Numbered.{inner, layer_inner, arms_inner}
use Rattle.c_tree.proofs.LayerLemmas.{inner-If, inner-For, layers as layer_forms}
use Rattle.c_language.proofs.Turns.{IsEach}
use Rattle.dep_model.proofs.Grown.{grown_two, grown_three}
use Rattle.graph_text.specs.declared.rows.Row.{Row}
use Rattle.graph_text.specs.RowWalk.{own_row, all, if_some, row_step, arm_rows, statement_rows, body_rows, function_rows}
use Rattle.graph_text.specs.Rows.{plain}

pub ruleset layers = layer_forms

module _ (p : Program) where
  pub rows_append : (a b : List Statement) → body_rows p (a ++ b) ≡ body_rows p a ++ body_rows p b
  rows_append [] b = refl
  rows_append (x ∷ a) b = ap (λ found. statement_rows p x ++ found) (rows_append a b) ∙ sym (append_assoc (statement_rows p x) (body_rows p a) (body_rows p b))

  pub each_statement : IsEach (statement_rows p) (body_rows p)
  each_statement = record { at_nothing = refl; at_more = λ x xs. refl }

  pub each_arm : IsEach (λ (a : Arm). body_rows p (out-Arm a).body) (λ (as_ : List Arm). body_rows p (arms_inner as_))
  each_arm = record { at_nothing = refl; at_more = λ a as_. rows_append (out-Arm a).body (arms_inner as_) }

  pub each_function : IsEach (λ (f : Function). body_rows p f.body) (function_rows p)
  each_function = record { at_nothing = refl; at_more = λ f fs. refl }

  abbrev rows_of_arm : Arm → List Row
  rows_of_arm = fold-Arm (List Row) (List Row) (row_step p) arm_rows

  all_rows : (b : List Statement) → all (map (statement_rows p) b) ≡ body_rows p b
  all_rows [] = refl
  all_rows (x ∷ b) = ap (λ found. statement_rows p x ++ found) (all_rows b)

  all_arms : (as_ : List Arm) → all (map rows_of_arm as_) ≡ body_rows p (arms_inner as_)
  all_arms [] = refl
  all_arms (a ∷ as_) =
      ap₂ (λ (x y : List Row). x ++ y) (fold_out-Arm (List Row) (List Row) (row_step p) arm_rows a ∙ all_rows (out-Arm a).body) (all_arms as_)
      ∙ sym (rows_append (out-Arm a).body (arms_inner as_))

  abbrev some_rows : Option Statement → Option (List Row)
  some_rows None = None
  some_rows (Some x) = Some (statement_rows p x)

  part_rows : (x : Option Statement) → if_some (some_rows x) ≡ body_rows p (option_to_list x)
  part_rows None = refl
  part_rows (Some x) = sym (append-nil (statement_rows p x))

  for_rows : (i st : Option Statement) (b : List Statement)
      → if_some (some_rows i) ++ (if_some (some_rows st) ++ all (map (statement_rows p) b)) ≡ body_rows p (option_to_list i ++ (option_to_list st ++ b))
  for_rows i st b =
      ap₂ (λ (x y : List Row). x ++ y) (part_rows i) (ap₂ (λ (x y : List Row). x ++ y) (part_rows st) (all_rows b) ∙ sym (rows_append (option_to_list st) b))
      ∙ sym (rows_append (option_to_list i) (option_to_list st ++ b))

  abbrev layered : Statement-F Statement Arm → List Row
  layered y = row_step p (map-Statement Statement Arm (List Row) (List Row) (statement_rows p) rows_of_arm y)

  abbrev split : Statement-F Statement Arm → List Row
  split y = option_to_list (own_row p y) ++ body_rows p (layer_inner y)

  behind : (own : List Row) (x y : List Row) → x ≡ y → own ++ x ≡ own ++ y
  behind own x y is = ap (λ found. own ++ found) is

  by_layer : (y : Statement-F Statement Arm) → layered y ≡ split y
  by_layer (Statement-F.Declare None l x i) = refl
  by_layer (Statement-F.Declare (Some id) l x i) = refl
  by_layer (Statement-F.Assign id l a op b) = refl
  by_layer (Statement-F.Bump id l a up before) = refl
  by_layer (Statement-F.Invoke id l to f args) = refl
  by_layer (Statement-F.Fetch id l to) = refl
  by_layer (Statement-F.Write id l e) = refl
  by_layer (Statement-F.Print id l format args) = refl
  by_layer (Statement-F.Heap id l to cast n) = refl
  by_layer (Statement-F.Release id l e) = refl
  by_layer (Statement-F.If id l e a b) =
      behind (plain l ∷ []) _ _ (ap₂ (λ (x y : List Row). x ++ y) (all_rows a) (all_rows b) ∙ sym (rows_append a b))
  by_layer (Statement-F.While id l e b) = behind (plain l ∷ []) _ _ (all_rows b)
  by_layer (Statement-F.Do id l e b) = behind (plain l ∷ []) _ _ (all_rows b)
  by_layer (Statement-F.For id l None e None b) = behind (plain l ∷ []) _ _ (for_rows None None b)
  by_layer (Statement-F.For id l None e (Some k) b) = behind (plain l ∷ []) _ _ (for_rows None (Some k) b)
  by_layer (Statement-F.For id l (Some i) e None b) = behind (plain l ∷ []) _ _ (for_rows (Some i) None b)
  by_layer (Statement-F.For id l (Some i) e (Some k) b) = behind (plain l ∷ []) _ _ (for_rows (Some i) (Some k) b)
  by_layer (Statement-F.Switch id l e as_) = behind (plain l ∷ []) _ _ (all_arms as_)
  by_layer (Statement-F.Block l b) = all_rows b
  by_layer (Statement-F.Return id l e) = refl

  -- a statement's own row, and those of what stands right inside it
  pub rows_inner : (one : Statement) → statement_rows p one ≡ option_to_list (own_row p (out-Statement one)) ++ body_rows p (inner one)
  rows_inner one =
      ap (statement_rows p) (sym (roll-out-Statement one)) ∙ fold-roll-Statement (List Row) (List Row) (row_step p) arm_rows (out-Statement one) ∙ by_layer (out-Statement one)

  pub within_grown : (one : Statement) (o x y : List Row) → x ≡ o ++ option_to_list (own_row p (out-Statement one)) → y ≡ x ++ body_rows p (inner one) → y ≡ o ++ statement_rows p one
  within_grown one o x y e f =
      grown_two o x y (option_to_list (own_row p (out-Statement one))) (body_rows p (inner one)) (statement_rows p one) e f (rows_inner one)

  pub if_grown : (id l : ℕ) (e : Expr) (a b : List Statement) (one : Statement) (o x y : List Row) → one ≡ s.If id l e a b → x ≡ o ++ body_rows p a → y ≡ x ++ body_rows p b → y ≡ o ++ body_rows p (inner one)
  if_grown id l e a b one o x y is f g =
      grown_two o x y (body_rows p a) (body_rows p b) (body_rows p (inner one)) f g (ap (λ z. body_rows p (inner z)) is ∙ ap (body_rows p) (inner-If id l e a b) ∙ rows_append a b)

  pub for_grown : (id l : ℕ) (i : Option Statement) (e : Expr) (st : Option Statement) (b : List Statement) (one : Statement) (o x y z : List Row) → one ≡ s.For id l i e st b → x ≡ o ++ body_rows p (option_to_list i) → y ≡ x ++ body_rows p (option_to_list st) → z ≡ y ++ body_rows p b → z ≡ o ++ body_rows p (inner one)
  for_grown id l i e st b one o x y z is f g h =
      grown_three o x y z _ _ _ _ f g h
      (ap (λ w. body_rows p (inner w)) is ∙ ap (body_rows p) (inner-For id l i e st b) ∙ (rows_append (option_to_list i) (option_to_list st ++ b) ∙ ap (λ found. body_rows p (option_to_list i) ++ found) (rows_append (option_to_list st) b)))
