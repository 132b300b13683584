-- The layout doesn't show the line numbers of a program.
use Rattle.std.proofs.Common.{◌≡◌, ℕ, List, [], ◌∷◌, ◌++◌, map, Bool, true, false, Option, Some, None, codes, refl, sym, ap, ap₂, subst, ◌∙◌, slice_get}
use Rattle.std.specs.Prelude.{option_map}
use Rattle.std.specs.Option.{option_map_or}
use Rattle.std.proofs.lemmas.Option.{slice_get-map}
use Rattle.c_tree.specs.declared.expr.Expr.{Expr, ind-Expr, roll-Expr, map-Expr, fold-Expr, fold-roll-Expr}
use Rattle.c_tree.specs.declared.expr.Expr.TheOpen.{Expr-F}
use Rattle.c_tree.specs.declared.program.Program.{Program}
use Rattle.c_tree.specs.declared.program.Var.{Var}
use Rattle.c_tree.specs.declared.program.Function.{Function}
use Rattle.c_tree.specs.declared.program.Init.{Init}
use Rattle.c_tree.specs.declared.program.Init.TheVariants as init
use Rattle.c_tree.specs.declared.program.Item.{Item}
use Rattle.c_tree.specs.declared.program.Item.TheVariants.{Include, Tag, Struct, Global, Prototype, Define}
use Rattle.c_tree.specs.declared.statement.Target.{Target}
use Rattle.c_tree.specs.declared.statement.Target.TheVariants as target
use Rattle.c_tree.specs.declared.statement.Size.{Size}
use Rattle.c_tree.specs.declared.statement.Size.TheVariants as size
use Rattle.c_tree.specs.declared.statement.Amount.{Amount}
use Rattle.c_tree.specs.declared.statement.Amount.TheVariants as amount
use Rattle.c_tree.specs.declared.statement.Label.{Label}
use Rattle.c_tree.specs.declared.statement.Label.TheVariants as label
use Rattle.c_tree.specs.declared.statement.Statement.{Statement, ind-Statement, roll-Statement, map-Statement, fold-roll-Statement}
use Rattle.c_tree.specs.declared.statement.Statement.TheOpen.{Statement-F}
use Rattle.c_tree.specs.declared.statement.Arm.{Arm, roll-Arm, map-Arm, fold-roll-Arm}
use Rattle.c_tree.specs.Unlined.{unlined, unlined_var, unlined_function, unlined_program, SameButLines}
use Rattle.c_tree.proofs.UnlinedLemmas.{unlined_of_arm}
use Rattle.c_tree.proofs.Unlining.{zeroed, unlined_roll, unlined_roll_of_arm}
use Rattle.c_language.specs.Words.{Bytes, joined, assign_sign, name_of_var, name_of_function, declared, type_words, expr_step, expr_words}
use Rattle.c_language.specs.Layout.{line, init_words, var_words, target_words, pointee_words, size_words, amount_words, cast_words, call_words, bump_words, return_words, Laid, plain, label_words, label_lines, laid_if, laid_while, laid_do, laid_for, laid_switch, laid_block, laid_case, statement_step, arm_step, laid, body_lines, static_words, param_words, named_params, head_words, function_lines, item_lines, items_lines, layout, arm_laid}
use Rattle.c_language.proofs.Lists.{maps_same}
use Rattle.c_print_laws.proofs.StatementLayout.{laid_labels}

mapped_or : {A B : Type 0} (g : A → A) (f h : A → B) (d : B) → ((a : A) → f (g a) ≡ h a) → (o : Option A) → option_map_or f (option_map g o) d ≡ option_map_or h o d
mapped_or g f h d same None = refl
mapped_or g f h d same (Some a) = same a

pub got_or : {A B : Type 0} (g : A → A) (f h : A → B) (d : B) → ((a : A) → f (g a) ≡ h a) → (xs : List A) (k : ℕ) → option_map_or f (slice_get (map g xs) k) d ≡ option_map_or h (slice_get xs k) d
got_or g f h d same xs k = ap (λ (o : Option _). option_map_or f o d) (slice_get-map g xs k) ∙ mapped_or g f h d same (slice_get xs k)

-- ---- expressions, by steps that agree

module _ {A : Type 0} (f g : Expr-F A → A) (same : (y : Expr-F A) → f y ≡ g y) where
  abbrev ExprSame : Expr → Type 0
  ExprSame a = fold-Expr A f a ≡ fold-Expr A g a

  abbrev expr_layer : Expr-F ((a : Expr) × ExprSame a) → Expr-F Expr
  expr_layer = map-Expr ((a : Expr) × ExprSame a) Expr (λ a. a.0)

  parts_same : (y : Expr-F ((a : Expr) × ExprSame a)) → map-Expr Expr A (fold-Expr A f) (expr_layer y) ≡ map-Expr Expr A (fold-Expr A g) (expr_layer y)
  parts_same (Expr-F.Constant text t v) = refl
  parts_same Expr-F.Null = refl
  parts_same Expr-F.Eof = refl
  parts_same (Expr-F.Variable x) = refl
  parts_same (Expr-F.Unary op a) = ap (Expr-F.Unary op) a.1
  parts_same (Expr-F.Deref a) = ap Expr-F.Deref a.1
  parts_same (Expr-F.AddressOf a) = ap Expr-F.AddressOf a.1
  parts_same (Expr-F.Binary op a b) = ap₂ (Expr-F.Binary op) a.1 b.1
  parts_same (Expr-F.AndAlso a b) = ap₂ Expr-F.AndAlso a.1 b.1
  parts_same (Expr-F.OrElse a b) = ap₂ Expr-F.OrElse a.1 b.1
  parts_same (Expr-F.Choose c a b) = ap₂ (λ (x y : A). Expr-F.Choose x y (fold-Expr A f b.0)) c.1 a.1 ∙ ap (Expr-F.Choose (fold-Expr A g c.0) (fold-Expr A g a.0)) b.1
  parts_same (Expr-F.Cast t a) = ap (Expr-F.Cast t) a.1
  parts_same (Expr-F.Index a b) = ap₂ Expr-F.Index a.1 b.1
  parts_same (Expr-F.Member a m) = ap (λ (x : A). Expr-F.Member x m) a.1
  parts_same (Expr-F.Arrow a m) = ap (λ (x : A). Expr-F.Arrow x m) a.1
  parts_same (Expr-F.Paren a) = ap Expr-F.Paren a.1

  folds_same : (a : Expr) → fold-Expr A f a ≡ fold-Expr A g a
  folds_same = ind-Expr ExprSame (λ x y is. subst (λ z. ExprSame (roll-Expr z)) is
      (fold-roll-Expr A f (expr_layer y) ∙ ap f (parts_same y) ∙ same (map-Expr Expr A (fold-Expr A g) (expr_layer y)) ∙ sym (fold-roll-Expr A g (expr_layer y))))

module _ (p : Program) where
  abbrev q : Program
  q = unlined_program p

  -- ---- names and words

  var_name : (x : ℕ) → name_of_var q x ≡ name_of_var p x
  var_name x = got_or unlined_var (λ (v : Var). v.name) (λ (v : Var). v.name) [] (λ v. refl) p.vars x

  function_name : (f : ℕ) → name_of_function q f ≡ name_of_function p f
  function_name f = got_or unlined_function (λ (g : Function). g.name) (λ (g : Function). g.name) [] (λ g. refl) p.functions f

  steps_same : (y : Expr-F Bytes) → expr_step q y ≡ expr_step p y
  steps_same (Expr-F.Constant text t v) = refl
  steps_same Expr-F.Null = refl
  steps_same Expr-F.Eof = refl
  steps_same (Expr-F.Variable x) = var_name x
  steps_same (Expr-F.Unary op a) = refl
  steps_same (Expr-F.Deref a) = refl
  steps_same (Expr-F.AddressOf a) = refl
  steps_same (Expr-F.Binary op a b) = refl
  steps_same (Expr-F.AndAlso a b) = refl
  steps_same (Expr-F.OrElse a b) = refl
  steps_same (Expr-F.Choose c a b) = refl
  steps_same (Expr-F.Cast t a) = refl
  steps_same (Expr-F.Index a b) = refl
  steps_same (Expr-F.Member a m) = refl
  steps_same (Expr-F.Arrow a m) = refl
  steps_same (Expr-F.Paren a) = refl

  word : (a : Expr) → expr_words q a ≡ expr_words p a
  word = folds_same (expr_step q) (expr_step p) steps_same

  list_words : (all : List Expr) → map (expr_words q) all ≡ map (expr_words p) all
  list_words all = maps_same (expr_words q) (expr_words p) word all

  variable : (x : ℕ) → var_words q x ≡ var_words p x
  variable x = got_or unlined_var (λ (v : Var). declared q v.shape v.name) (λ (v : Var). declared p v.shape v.name) [] (λ v. refl) p.vars x

  init_same : (i : Init) → init_words q i ≡ init_words p i
  init_same init.None = refl
  init_same (init.One a) = ap (λ (w : Bytes). codes " = " ++ w) (word a)
  init_same (init.Items all) = ap (λ (ws : List Bytes). codes " = {" ++ (joined (codes ", ") ws ++ codes "}")) (list_words all)

  target_same : (to : Target) → target_words q to ≡ target_words p to
  target_same target.None = refl
  target_same (target.Place a) = ap (λ (w : Bytes). w ++ codes " = ") (word a)
  target_same (target.Declared x) = ap (λ (w : Bytes). w ++ codes " = ") (variable x)

  pointee_same : (x : ℕ) (closed : Bool) → pointee_words q x closed ≡ pointee_words p x closed
  pointee_same x true = ap (λ (w : Bytes). codes "sizeof(*" ++ (w ++ codes ")")) (var_name x)
  pointee_same x false = ap (λ (w : Bytes). codes "sizeof *" ++ w) (var_name x)

  size_same : (m : Size) → size_words q m ≡ size_words p m
  size_same (size.Type t) = refl
  size_same (size.Pointee x closed) = pointee_same x closed

  amount_same : (n : Amount) → amount_words q n ≡ amount_words p n
  amount_same (amount.Size m) = size_same m
  amount_same (amount.CountSize a m) = ap₂ (λ (v w : Bytes). v ++ (codes " * " ++ w)) (word a) (size_same m)
  amount_same (amount.SizeCount m a) = ap₂ (λ (v w : Bytes). v ++ (codes " * " ++ w)) (size_same m) (word a)
  amount_same (amount.Count a) = word a

  cast_same : (c : Option _) → cast_words q c ≡ cast_words p c
  cast_same None = refl
  cast_same (Some t) = refl

  return_same : (a : Option Expr) → return_words q a ≡ return_words p a
  return_same None = refl
  return_same (Some a) = ap (λ (w : Bytes). codes "return " ++ w) (word a)

  label_same : (a : Label) → label_words q a ≡ label_words p a
  label_same (label.Case a v) = ap (λ (w : Bytes). codes "case " ++ (w ++ codes ":")) (word a)
  label_same label.Default = refl

  labels_same : (as_ : List Label) → label_lines q as_ ≡ label_lines p as_
  labels_same [] = refl
  labels_same (a ∷ as_) = ap₂ laid_labels (label_same a) (labels_same as_)

  -- ---- statements

  abbrev LineLess : Statement → Type 0
  LineLess x = laid q (unlined x) ≡ laid p x

  abbrev ArmLineLess : Arm → Type 0
  ArmLineLess x = arm_laid q (unlined_of_arm x) ≡ arm_laid p x

  abbrev bare : List ((x : Statement) × LineLess x) → List Statement
  bare = map (λ (x : (y : Statement) × LineLess y). x.0)

  abbrev bare_arms : List ((x : Arm) × ArmLineLess x) → List Arm
  bare_arms = map (λ (x : (y : Arm) × ArmLineLess y). x.0)

  all_same : (xs : List ((x : Statement) × LineLess x)) → map (laid q) (map unlined (bare xs)) ≡ map (laid p) (bare xs)
  all_same [] = refl
  all_same (x ∷ xs) = ap₂ (λ (y : Laid) (ys : List Laid). y ∷ ys) x.1 (all_same xs)

  arms_same : (xs : List ((x : Arm) × ArmLineLess x)) → map (arm_laid q) (map unlined_of_arm (bare_arms xs)) ≡ map (arm_laid p) (bare_arms xs)
  arms_same [] = refl
  arms_same (x ∷ xs) = ap₂ (λ (y : ℕ → Bytes) (ys : List (ℕ → Bytes)). y ∷ ys) x.1 (arms_same xs)

  abbrev shape : Statement-F ((x : Statement) × LineLess x) ((x : Arm) × ArmLineLess x) → Statement-F Statement Arm
  shape = map-Statement ((x : Statement) × LineLess x) ((x : Arm) × ArmLineLess x) Statement Arm (λ x. x.0) (λ x. x.0)

  abbrev kept : Statement-F Statement Arm → Statement-F Statement Arm
  kept y = zeroed (map-Statement Statement Arm Statement Arm unlined unlined_of_arm y)

  abbrev step_at : Program → Statement-F Statement Arm → Laid
  step_at r y = statement_step r (map-Statement Statement Arm Laid (ℕ → Bytes) (laid r) (arm_laid r) y)

  layer_same : (y : Statement-F ((x : Statement) × LineLess x) ((x : Arm) × ArmLineLess x)) → step_at q (kept (shape y)) ≡ step_at p (shape y)
  layer_same (Statement-F.Declare id l x i) = ap₂ (λ (v w : Bytes). plain (v ++ w)) (variable x) (init_same i)
  layer_same (Statement-F.Assign id l a op b) = ap₂ (λ (v w : Bytes). plain (v ++ (codes " " ++ (assign_sign op ++ (codes " " ++ w))))) (word a) (word b)
  layer_same (Statement-F.Bump id l a up before) = ap (λ (w : Bytes). plain (bump_words w up before)) (word a)
  layer_same (Statement-F.Invoke id l to f args) = ap₂ (λ (v w : Bytes). plain (v ++ w)) (target_same to) (ap₂ call_words (function_name f) (list_words args))
  layer_same (Statement-F.Fetch id l to) = ap (λ (w : Bytes). plain (w ++ codes "getchar()")) (target_same to)
  layer_same (Statement-F.Write id l e) = ap (λ (w : Bytes). plain (call_words (codes "putchar") (w ∷ []))) (word e)
  layer_same (Statement-F.Print id l format args) = ap (λ (ws : List Bytes). plain (call_words (codes "printf") (format ∷ ws))) (list_words args)
  layer_same (Statement-F.Heap id l to cast n) =
      ap₂ (λ (v w : Bytes). plain (v ++ w)) (target_same to) (ap₂ (λ (v w : Bytes). v ++ call_words (codes "malloc") (w ∷ [])) (cast_same cast) (amount_same n))
  layer_same (Statement-F.Release id l e) = ap (λ (w : Bytes). plain (call_words (codes "free") (w ∷ []))) (word e)
  layer_same (Statement-F.If id l e a b) = ap₂ (λ (w : Bytes) (x : List Laid). laid_if w x (map (laid q) (map unlined (bare b)))) (word e) (all_same a) ∙ ap (laid_if (expr_words p e) (map (laid p) (bare a))) (all_same b)
  layer_same (Statement-F.While id l e b) = ap₂ laid_while (word e) (all_same b)
  layer_same (Statement-F.Do id l e b) = ap₂ laid_do (word e) (all_same b)
  layer_same (Statement-F.For id l None e None b) = ap₂ (λ (w : Bytes) (y : List Laid). laid_for None w None y) (word e) (all_same b)
  layer_same (Statement-F.For id l None e (Some k) b) = ap₂ (λ (w : Bytes) (y : List Laid). laid_for None w (Some (laid q (unlined k.0))) y) (word e) (all_same b) ∙ ap (λ (z : Laid). laid_for None (expr_words p e) (Some z) (map (laid p) (bare b))) k.1
  layer_same (Statement-F.For id l (Some i) e None b) = ap₂ (λ (w : Bytes) (y : List Laid). laid_for (Some (laid q (unlined i.0))) w None y) (word e) (all_same b) ∙ ap (λ (z : Laid). laid_for (Some z) (expr_words p e) None (map (laid p) (bare b))) i.1
  layer_same (Statement-F.For id l (Some i) e (Some k) b) =
      ap₂ (λ (w : Bytes) (y : List Laid). laid_for (Some (laid q (unlined i.0))) w (Some (laid q (unlined k.0))) y) (word e) (all_same b)
      ∙ ap₂ (λ (x z : Laid). laid_for (Some x) (expr_words p e) (Some z) (map (laid p) (bare b))) i.1 k.1
  layer_same (Statement-F.Switch id l e arms) = ap₂ laid_switch (word e) (arms_same arms)
  layer_same (Statement-F.Block l b) = ap laid_block (all_same b)
  layer_same (Statement-F.Return id l e) = ap plain (return_same e)

  statement_same : (x : Statement) → LineLess x
  statement_same = ind-Statement LineLess ArmLineLess
      (λ x y is. subst (λ z. LineLess (roll-Statement z)) is
      (ap (laid q) (unlined_roll (shape y))
      ∙ fold-roll-Statement Laid (ℕ → Bytes) (statement_step q) (arm_step q) (kept (shape y)) ∙ layer_same y
      ∙ sym (fold-roll-Statement Laid (ℕ → Bytes) (statement_step p) (arm_step p) (shape y))))
      (λ x y is. subst (λ z. ArmLineLess (roll-Arm z)) is
      (let l = map-Arm ((x : Statement) × LineLess x) ((x : Arm) × ArmLineLess x) Statement Arm (λ x. x.0) (λ x. x.0) y in
      ap (arm_laid q) (unlined_roll_of_arm l)
      ∙ fold-roll-Arm Laid (ℕ → Bytes) (statement_step q) (arm_step q) (map-Arm Statement Arm Statement Arm unlined unlined_of_arm l)
      ∙ ap₂ laid_case (labels_same y.labels) (all_same y.body)
      ∙ sym (fold-roll-Arm Laid (ℕ → Bytes) (statement_step p) (arm_step p) l)))

  bodies_same : (body : List Statement) → body_lines q 1 (map unlined body) ≡ body_lines p 1 body
  bodies_same [] = refl
  bodies_same (x ∷ xs) = ap₂ (λ (a : Laid) (rest : Bytes). a.lines 1 ++ rest) (statement_same x) (bodies_same xs)

  -- ---- items

  function_same : (f : Function) → function_lines q (unlined_function f) ≡ function_lines p f
  function_same f =
      ap₂ (λ (ws : List Bytes) (b : Bytes). line 0 (head_words p f.is_static f ws ++ codes " {") ++ (b ++ line 0 (codes "}"))) (maps_same (var_words q) (var_words p) variable f.params) (bodies_same f.body)

  param_same : (name : Option Bytes) (x : ℕ) → param_words q name x ≡ param_words p name x
  param_same None x = got_or unlined_var (λ (v : Var). type_words q v.shape) (λ (v : Var). type_words p v.shape) [] (λ v. refl) p.vars x
  param_same (Some name) x = got_or unlined_var (λ (v : Var). declared q v.shape name) (λ (v : Var). declared p v.shape name) [] (λ v. refl) p.vars x

  params_same : (ns : List (Option Bytes)) (xs : List ℕ) → named_params q ns xs ≡ named_params p ns xs
  params_same [] xs = refl
  params_same (n ∷ ns) [] = refl
  params_same (n ∷ ns) (x ∷ xs) = ap₂ (λ (w : Bytes) (ws : List Bytes). w ∷ ws) (param_same n x) (params_same ns xs)

  item_same : (i : Item) → item_lines q i ≡ item_lines p i
  item_same (Include b) = refl
  item_same (Tag k) = refl
  item_same (Struct k) = refl
  item_same (Global x i) =
      ap₂ (λ (v w : Bytes). line 0 (v ++ (w ++ codes ";"))) (got_or unlined_var (λ (v : Var). static_words v.is_static ++ declared q v.shape v.name) (λ (v : Var). static_words v.is_static ++ declared p v.shape v.name) [] (λ v. refl) p.vars x) (init_same i)
  item_same (Prototype f names is_static) =
      got_or unlined_function (λ (g : Function). line 0 (head_words q is_static g (named_params q names g.params) ++ codes ";")) (λ (g : Function). line 0 (head_words p is_static g (named_params p names g.params) ++ codes ";")) []
      (λ g. ap (λ (ws : List Bytes). line 0 (head_words p is_static g ws ++ codes ";")) (params_same names g.params)) p.functions f
  item_same (Define f) = got_or unlined_function (function_lines q) (function_lines p) [] function_same p.functions f

  items_same : (is : List Item) → items_lines q is ≡ items_lines p is
  items_same [] = refl
  items_same (i ∷ is) = ap₂ (λ (a b : Bytes). a ++ b) (item_same i) (items_same is)

  layout_unlined : layout (unlined_program p) ≡ layout p
  layout_unlined = items_same p.items

-- Programs that are the same but for lines have one layout.
pub layouts_same : (p q : Program) → SameButLines p q → layout p ≡ layout q
layouts_same p q same = sym (layout_unlined p) ∙ ap layout same ∙ layout_unlined q
