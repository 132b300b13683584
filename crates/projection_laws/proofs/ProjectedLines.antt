-- What stays of a program without lines is what stays of it, without lines.
use Rattle.std.proofs.Common.{◌≡◌, ℕ, List, [], ◌∷◌, ◌++◌, map, Bool, true, false, Option, Some, None, refl, sym, ap, ap₂, subst, ◌∙◌}
use Rattle.std.specs.Prelude.{option_map}
use Rattle.std.proofs.lemmas.List.{map-append}
use Rattle.c_tree.specs.Unlined.{unlined}
use Rattle.c_tree.proofs.UnlinedLemmas.{unlined-Declare, unlined-Assign, unlined-Bump, unlined-Invoke, unlined-Fetch, unlined-Write, unlined-Print, unlined-Heap, unlined-Release, unlined-If, unlined-While, unlined-Do, unlined-For, unlined-Switch, unlined-Block, unlined-Return, unlined_of_arm-roll, unlined_of_arm}
use Rattle.c_tree.specs.declared.expr.Expr.{Expr}
use Rattle.c_tree.specs.declared.program.Init.{Init}
use Rattle.c_tree.specs.declared.program.Init.TheVariants as init
use Rattle.c_tree.specs.declared.statement.Target.{Target}
use Rattle.c_tree.specs.declared.statement.Target.TheVariants as target
use Rattle.c_tree.specs.declared.statement.Statement.{Statement, ind-Statement, roll-Statement, map-Statement, fold-roll-Statement}
use Rattle.c_tree.specs.declared.statement.Statement.TheOpen.{Statement-F, Arm-F}
use Rattle.c_tree.specs.declared.statement.Statement.TheVariants as s
use Rattle.c_tree.specs.declared.statement.Arm.{Arm, roll-Arm, map-Arm, fold-roll-Arm}
use Rattle.projection.specs.Renumbering.{renamed, renamed_label, renamed_init}
use Rattle.kept_numbers.specs.Ranks.{rank}
use Rattle.projection.specs.Kept.{Kept}
use Rattle.projection.specs.Projection.{if_so, flat, declaring_step, declaring_arm, is_declaring, first_statement, part_of, bare, bare_target, projected_declaration, projected_call, alone, block_of, projected_step, projected_arm_step, projected, projected_arm, projected_all}
use Rattle.c_tree.proofs.Unlining.{zeroed, unlined_roll, unlined_roll_of_arm, fold_unlined}
use Rattle.c_tree.proofs.Trees.{statement_layer, arm_layer, StatementParts, ArmParts}
use Rattle.c_language.proofs.Lists.{head_is, no_list}

-- ---- lists that are the same but for lines

abbrev pub Alike : List Statement → List Statement → Type 0
Alike xs ys = map unlined xs ≡ map unlined ys

appended : (xs ys xs' ys' : List Statement) → Alike xs xs' → Alike ys ys' → Alike (xs ++ ys) (xs' ++ ys')
appended xs ys xs' ys' p q = map-append unlined xs ys ∙ ap₂ (λ (as_ bs : List Statement). as_ ++ bs) p q ∙ sym (map-append unlined xs' ys')

choice : (b : Bool) (xs ys xs' ys' : List Statement) → Alike xs xs' → Alike ys ys' → Alike (if_so b xs ys) (if_so b xs' ys')
choice true xs ys xs' ys' p q = p
choice false xs ys xs' ys' p q = q

one : (x y : Statement) → unlined x ≡ unlined y → Alike (x ∷ []) (y ∷ [])
one x y h = ap (λ (z : Statement). z ∷ []) h

firsts : (xs ys : List Statement) → Alike xs ys → option_map unlined (first_statement xs) ≡ option_map unlined (first_statement ys)
firsts [] [] h = refl
firsts [] (y ∷ ys) h = no_list (sym h)
firsts (x ∷ xs) [] h = no_list h
firsts (x ∷ xs) (y ∷ ys) h = ap Some (head_is h)

-- whether a statement declares
declaring_unlined : (x : Statement) → is_declaring (unlined x) ≡ is_declaring x
declaring_unlined = fold_unlined declaring_step declaring_arm free
  where
    free : (x : Statement-F Bool Bool) → declaring_step (zeroed x) ≡ declaring_step x
    free (Statement-F.Declare id l x i) = refl
    free (Statement-F.Assign id l left op right) = refl
    free (Statement-F.Bump id l a up before) = refl
    free (Statement-F.Invoke id l to f args) = refl
    free (Statement-F.Fetch id l to) = refl
    free (Statement-F.Write id l a) = refl
    free (Statement-F.Print id l format args) = refl
    free (Statement-F.Heap id l to cast n) = refl
    free (Statement-F.Release id l a) = refl
    free (Statement-F.If id l t a b) = refl
    free (Statement-F.While id l t b) = refl
    free (Statement-F.Do id l t b) = refl
    free (Statement-F.For id l i t step b) = refl
    free (Statement-F.Switch id l t arms) = refl
    free (Statement-F.Block l b) = refl
    free (Statement-F.Return id l value) = refl

declaring_same : (x y : Statement) → unlined x ≡ unlined y → is_declaring x ≡ is_declaring y
declaring_same x y h = sym (declaring_unlined x) ∙ ap is_declaring h ∙ declaring_unlined y

module _ {F : Type 0} (k : Kept F) (g : ℕ → ℕ) where
  abbrev Same : Statement → Type 0
  Same x = Alike (projected k g (unlined x)) (projected k g x)

  abbrev ArmSame : Arm → Type 0
  ArmSame x = unlined_of_arm (projected_arm k g (unlined_of_arm x)) ≡ unlined_of_arm (projected_arm k g x)

  abbrev Layer : Type 0
  Layer = StatementParts Same ArmSame

  abbrev ArmLayer : Type 0
  ArmLayer = ArmParts Same ArmSame

  abbrev shape : Layer → Statement-F Statement Arm
  shape = statement_layer Same ArmSame

  abbrev arm_shape : ArmLayer → Arm-F Statement Arm
  arm_shape = arm_layer Same ArmSame

  abbrev bodies : List ((x : Statement) × Same x) → List Statement
  bodies = map (λ (x : (y : Statement) × Same y). x.0)

  abbrev bodies_of_arms : List ((x : Arm) × ArmSame x) → List Arm
  bodies_of_arms = map (λ (x : (y : Arm) × ArmSame y). x.0)

  lists_same : (xs : List ((x : Statement) × Same x)) → Alike (flat (map (projected k g) (map unlined (bodies xs)))) (flat (map (projected k g) (bodies xs)))
  lists_same [] = refl
  lists_same (x ∷ xs) = appended (projected k g (unlined x.0)) _ (projected k g x.0) _ x.1 (lists_same xs)

  arms_same : (xs : List ((x : Arm) × ArmSame x)) → map unlined_of_arm (map (projected_arm k g) (map unlined_of_arm (bodies_of_arms xs))) ≡ map unlined_of_arm (map (projected_arm k g) (bodies_of_arms xs))
  arms_same [] = refl
  arms_same (x ∷ xs) = ap₂ (λ (a : Arm) (as_ : List Arm). a ∷ as_) x.1 (arms_same xs)

  bare_same : (l m x : ℕ) → Alike (bare k g l x) (bare k g m x)
  bare_same l m x = choice (k.variable x) _ _ _ _ (one _ _ (unlined-Declare None l (rank k.variable x) init.None ∙ sym (unlined-Declare None m (rank k.variable x) init.None))) refl

  targets_same : (l m : ℕ) (to : Target) → Alike (bare_target k g l to) (bare_target k g m to)
  targets_same l m target.None = refl
  targets_same l m (target.Place a) = refl
  targets_same l m (target.Declared x) = bare_same l m x

  declarations_same : (id : Option ℕ) (l m x : ℕ) (i : Init) → Alike (projected_declaration k g id l x i) (projected_declaration k g id m x i)
  declarations_same None l m x i = bare_same l m x
  declarations_same (Some id) l m x i = choice (k.statement id) _ _ _ _ (one _ _ (unlined-Declare (Some (rank k.statement id)) l (rank k.variable x) (renamed_init (rank k.variable) i) ∙ sym (unlined-Declare (Some (rank k.statement id)) m (rank k.variable x) (renamed_init (rank k.variable) i)))) (bare_same l m x)

  invoke_same : (id l m : ℕ) (to : Target) (f : ℕ) (args : List Expr) → Alike (s.Invoke id l to f args ∷ []) (s.Invoke id m to f args ∷ [])
  invoke_same id l m to f args = one _ _ (unlined-Invoke id l to f args ∙ sym (unlined-Invoke id m to f args))

  calls_same : (id l m : ℕ) (to : Target) (f : ℕ) (args : List Expr) → Alike (projected_call k g id l to f args) (projected_call k g id m to f args)
  calls_same id l m to f args =
      choice (k.result id) _ _ _ _ (invoke_same _ l m _ _ _) (appended (bare_target k g l to) _ (bare_target k g m to) _ (targets_same l m to) (invoke_same _ l m _ _ _))

  alone_same : (l m : ℕ) (x y : Option Statement) → option_map unlined x ≡ option_map unlined y → Alike (alone l x) (alone m y)
  alone_same l m None None h = refl
  alone_same l m None (Some y) h = no_list (sym (ap listed h))
    where
      listed : Option Statement → List Statement
      listed None = []
      listed (Some x) = x ∷ []
  alone_same l m (Some x) None h = no_list (ap listed h)
    where
      listed : Option Statement → List Statement
      listed None = []
      listed (Some x) = x ∷ []
  alone_same l m (Some x) (Some y) h = by_test (is_declaring x) (is_declaring y) (declaring_same x y (head_is (ap listed h)))
    where
      listed : Option Statement → List Statement
      listed None = []
      listed (Some x) = x ∷ []

      same : unlined x ≡ unlined y
      same = head_is (ap listed h)

      by_test : (b c : Bool) → b ≡ c → Alike (if_so b (s.Block l (x ∷ []) ∷ []) (x ∷ [])) (if_so c (s.Block m (y ∷ []) ∷ []) (y ∷ []))
      by_test b c q =
          subst (λ (c : Bool). Alike (if_so b (s.Block l (x ∷ []) ∷ []) (x ∷ [])) (if_so c (s.Block m (y ∷ []) ∷ []) (y ∷ []))) q
          (choice b _ _ _ _ (one _ _ (unlined-Block l (x ∷ []) ∙ ap (λ (z : Statement). s.Block 0 (z ∷ [])) same ∙ sym (unlined-Block m (y ∷ [])))) (one _ _ same))

  blocks_same : (l m : ℕ) (xs ys : List Statement) → Alike xs ys → Alike (block_of l xs) (block_of m ys)
  blocks_same l m [] [] h = refl
  blocks_same l m [] (y ∷ ys) h = no_list (sym h)
  blocks_same l m (x ∷ xs) [] h = no_list h
  blocks_same l m (x ∷ xs) (y ∷ ys) h = one _ _ (unlined-Block l (x ∷ xs) ∙ ap (s.Block 0) h ∙ sym (unlined-Block m (y ∷ ys)))

  abbrev step_at : Statement-F Statement Arm → List Statement
  step_at y = projected_step k g (map-Statement Statement Arm (List Statement) Arm (projected k g) (projected_arm k g) y)

  abbrev bared : Statement-F Statement Arm → Statement-F Statement Arm
  bared y = zeroed (map-Statement Statement Arm Statement Arm unlined unlined_of_arm y)

  for_same : (id l : ℕ) (e : Expr) (i i' step step' : Option (List Statement)) (b b' : List Statement) → option_map unlined (part_of i) ≡ option_map unlined (part_of i') → option_map unlined (part_of step) ≡ option_map unlined (part_of step')
      → Alike b b' → Alike (if_so (k.statement id) (s.For (rank k.statement id) 0 (part_of i) e (part_of step) b ∷ []) (alone 0 (part_of i))) (if_so (k.statement id) (s.For (rank k.statement id) l (part_of i') e (part_of step') b' ∷ []) (alone l (part_of i')))
  for_same id l e i i' step step' b b' p q r =
      choice (k.statement id) _ _ _ _
      (one _ _ (unlined-For (rank k.statement id) 0 (part_of i) e (part_of step) b
      ∙ ap₂ (λ (x y : Option Statement). s.For (rank k.statement id) 0 x e y (map unlined b)) p q ∙ ap (s.For (rank k.statement id) 0 (option_map unlined (part_of i')) e (option_map unlined (part_of step'))) r
      ∙ sym (unlined-For (rank k.statement id) l (part_of i') e (part_of step') b')))
      (alone_same 0 l (part_of i) (part_of i') p)

  -- a statement that stays or goes
  stays : (id : ℕ) (x y : Statement) → unlined x ≡ unlined y → Alike (if_so (k.statement id) (x ∷ []) []) (if_so (k.statement id) (y ∷ []) [])
  stays id x y h = choice (k.statement id) _ _ _ _ (one _ _ h) refl

  layer_same : (y : Layer) → Alike (step_at (bared (shape y))) (step_at (shape y))
  layer_same (Statement-F.Declare id l x i) = declarations_same id 0 l x i
  layer_same (Statement-F.Assign id l a op b) = stays id _ _ (unlined-Assign _ 0 _ op _ ∙ sym (unlined-Assign _ l _ op _))
  layer_same (Statement-F.Bump id l a up before) = stays id _ _ (unlined-Bump _ 0 _ up before ∙ sym (unlined-Bump _ l _ up before))
  layer_same (Statement-F.Invoke id l to f args) = choice (k.statement id) _ _ _ _ (calls_same id 0 l to f args) (targets_same 0 l to)
  layer_same (Statement-F.Fetch id l to) = choice (k.statement id) _ _ _ _ (one _ _ (unlined-Fetch _ 0 _ ∙ sym (unlined-Fetch _ l _))) (targets_same 0 l to)
  layer_same (Statement-F.Write id l e) = stays id _ _ (unlined-Write _ 0 _ ∙ sym (unlined-Write _ l _))
  layer_same (Statement-F.Print id l format args) = stays id _ _ (unlined-Print _ 0 format _ ∙ sym (unlined-Print _ l format _))
  layer_same (Statement-F.Heap id l to cast n) = choice (k.statement id) _ _ _ _ (one _ _ (unlined-Heap _ 0 _ cast _ ∙ sym (unlined-Heap _ l _ cast _))) (targets_same 0 l to)
  layer_same (Statement-F.Release id l e) = stays id _ _ (unlined-Release _ 0 _ ∙ sym (unlined-Release _ l _))
  layer_same (Statement-F.Return id l e) = stays id _ _ (unlined-Return _ 0 _ ∙ sym (unlined-Return _ l _))
  layer_same (Statement-F.If id l e a b) =
      stays id _ _ (unlined-If _ 0 _ _ _ ∙ ap₂ (s.If (rank k.statement id) 0 (renamed (rank k.variable) e)) (lists_same a) (lists_same b) ∙ sym (unlined-If _ l _ _ _))
  layer_same (Statement-F.While id l e b) = stays id _ _ (unlined-While _ 0 _ _ ∙ ap (s.While (rank k.statement id) 0 (renamed (rank k.variable) e)) (lists_same b) ∙ sym (unlined-While _ l _ _))
  layer_same (Statement-F.Do id l e b) = stays id _ _ (unlined-Do _ 0 _ _ ∙ ap (s.Do (rank k.statement id) 0 (renamed (rank k.variable) e)) (lists_same b) ∙ sym (unlined-Do _ l _ _))
  layer_same (Statement-F.For id l None e None b) = for_same id l (renamed (rank k.variable) e) None None None None _ _ refl refl (lists_same b)
  layer_same (Statement-F.For id l None e (Some n) b) = for_same id l (renamed (rank k.variable) e) None None (Some _) (Some _) _ _ refl (firsts _ _ n.1) (lists_same b)
  layer_same (Statement-F.For id l (Some i) e None b) = for_same id l (renamed (rank k.variable) e) (Some _) (Some _) None None _ _ (firsts _ _ i.1) refl (lists_same b)
  layer_same (Statement-F.For id l (Some i) e (Some n) b) = for_same id l (renamed (rank k.variable) e) (Some _) (Some _) (Some _) (Some _) _ _ (firsts _ _ i.1) (firsts _ _ n.1) (lists_same b)
  layer_same (Statement-F.Switch id l e arms) = stays id _ _ (unlined-Switch _ 0 _ _ ∙ ap (s.Switch (rank k.statement id) 0 (renamed (rank k.variable) e)) (arms_same arms) ∙ sym (unlined-Switch _ l _ _))
  layer_same (Statement-F.Block l b) = blocks_same 0 l _ _ (lists_same b)

  projected_unlined : (x : Statement) → Same x
  projected_unlined = ind-Statement Same ArmSame
      (λ x y is. subst (λ z. Same (roll-Statement z)) is
      (ap (λ (z : Statement). map unlined (projected k g z)) (unlined_roll (shape y)) ∙ ap (map unlined) (fold-roll-Statement (List Statement) Arm (projected_step k g) (projected_arm_step k g) (bared (shape y))) ∙ layer_same y
      ∙ sym (ap (map unlined) (fold-roll-Statement (List Statement) Arm (projected_step k g) (projected_arm_step k g) (shape y)))))
      (λ x y is. subst (λ z. ArmSame (roll-Arm z)) is
      (ap (λ (z : Arm). unlined_of_arm (projected_arm k g z)) (unlined_roll_of_arm (arm_shape y))
      ∙ ap unlined_of_arm (fold-roll-Arm (List Statement) Arm (projected_step k g) (projected_arm_step k g) (map-Arm Statement Arm Statement Arm unlined unlined_of_arm (arm_shape y)))
      ∙ unlined_of_arm-roll (map (renamed_label (rank k.variable)) y.labels) _ ∙ ap (λ (x : List Statement). roll-Arm (record { labels = map (renamed_label (rank k.variable)) y.labels; body = x })) (lists_same y.body)
      ∙ sym (unlined_of_arm-roll (map (renamed_label (rank k.variable)) y.labels) _)
      ∙ sym (ap unlined_of_arm (fold-roll-Arm (List Statement) Arm (projected_step k g) (projected_arm_step k g) (arm_shape y)))))

  -- what stays of a list without lines
  pub all_projected_unlined : (xs : List Statement) → Alike (projected_all k g (map unlined xs)) (projected_all k g xs)
  all_projected_unlined [] = refl
  all_projected_unlined (x ∷ xs) = appended (projected k g (unlined x)) _ (projected k g x) _ (projected_unlined x) (all_projected_unlined xs)
