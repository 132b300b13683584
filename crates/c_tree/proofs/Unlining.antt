-- Folds of statements whose steps read no line are the same where lines are taken out.
use Rattle.std.proofs.Common.{◌≡◌, List, [], ◌∷◌, map, Some, None, refl, sym, ap, ap₂, subst, ◌∙◌}
use Rattle.c_tree.specs.Unlined.{unlined_step, unlined_arm, unlined}
use Rattle.c_tree.specs.declared.statement.Statement.{Statement, ind-Statement, roll-Statement, map-Statement, fold-Statement, fold-roll-Statement}
use Rattle.c_tree.specs.declared.statement.Statement.TheOpen.{Statement-F, Arm-F}
use Rattle.c_tree.specs.declared.statement.Statement.TheVariants as s
use Rattle.c_tree.specs.declared.statement.Arm.{Arm, roll-Arm, map-Arm, fold-Arm, fold-roll-Arm}
use Rattle.c_tree.proofs.UnlinedLemmas.{unlined_of_arm}
use Rattle.c_tree.proofs.Trees.{statement_layer, arm_layer, StatementParts, ArmParts}

-- a layer with line 0
abbrev pub zeroed : {A Q : Type 0} → Statement-F A Q → Statement-F A Q
zeroed (Statement-F.Declare id l x i) = Statement-F.Declare id 0 x i
zeroed (Statement-F.Assign id l left op right) = Statement-F.Assign id 0 left op right
zeroed (Statement-F.Bump id l a up before) = Statement-F.Bump id 0 a up before
zeroed (Statement-F.Invoke id l to f args) = Statement-F.Invoke id 0 to f args
zeroed (Statement-F.Fetch id l to) = Statement-F.Fetch id 0 to
zeroed (Statement-F.Write id l a) = Statement-F.Write id 0 a
zeroed (Statement-F.Print id l format args) = Statement-F.Print id 0 format args
zeroed (Statement-F.Heap id l to cast n) = Statement-F.Heap id 0 to cast n
zeroed (Statement-F.Release id l a) = Statement-F.Release id 0 a
zeroed (Statement-F.If id l t a b) = Statement-F.If id 0 t a b
zeroed (Statement-F.While id l t b) = Statement-F.While id 0 t b
zeroed (Statement-F.Do id l t b) = Statement-F.Do id 0 t b
zeroed (Statement-F.For id l i t step b) = Statement-F.For id 0 i t step b
zeroed (Statement-F.Switch id l t arms) = Statement-F.Switch id 0 t arms
zeroed (Statement-F.Block l b) = Statement-F.Block 0 b
zeroed (Statement-F.Return id l value) = Statement-F.Return id 0 value

unlined_rolls : (z : Statement-F Statement Arm) → unlined_step z ≡ roll-Statement (zeroed z)
unlined_rolls (Statement-F.Declare id l x i) = sym (s.rolls-Declare id 0 x i)
unlined_rolls (Statement-F.Assign id l left op right) = sym (s.rolls-Assign id 0 left op right)
unlined_rolls (Statement-F.Bump id l a up before) = sym (s.rolls-Bump id 0 a up before)
unlined_rolls (Statement-F.Invoke id l to f args) = sym (s.rolls-Invoke id 0 to f args)
unlined_rolls (Statement-F.Fetch id l to) = sym (s.rolls-Fetch id 0 to)
unlined_rolls (Statement-F.Write id l a) = sym (s.rolls-Write id 0 a)
unlined_rolls (Statement-F.Print id l format args) = sym (s.rolls-Print id 0 format args)
unlined_rolls (Statement-F.Heap id l to cast n) = sym (s.rolls-Heap id 0 to cast n)
unlined_rolls (Statement-F.Release id l a) = sym (s.rolls-Release id 0 a)
unlined_rolls (Statement-F.If id l t a b) = sym (s.rolls-If id 0 t a b)
unlined_rolls (Statement-F.While id l t b) = sym (s.rolls-While id 0 t b)
unlined_rolls (Statement-F.Do id l t b) = sym (s.rolls-Do id 0 t b)
unlined_rolls (Statement-F.For id l i t step b) = sym (s.rolls-For id 0 i t step b)
unlined_rolls (Statement-F.Switch id l t arms) = sym (s.rolls-Switch id 0 t arms)
unlined_rolls (Statement-F.Block l b) = sym (s.rolls-Block 0 b)
unlined_rolls (Statement-F.Return id l value) = sym (s.rolls-Return id 0 value)

-- a statement of a layer without lines, and an arm
pub unlined_roll : (z : Statement-F Statement Arm) → unlined (roll-Statement z) ≡ roll-Statement (zeroed (map-Statement Statement Arm Statement Arm unlined unlined_of_arm z))
unlined_roll z = fold-roll-Statement Statement Arm unlined_step unlined_arm z ∙ unlined_rolls (map-Statement Statement Arm Statement Arm unlined unlined_of_arm z)

pub unlined_roll_of_arm : (z : Arm-F Statement Arm) → unlined_of_arm (roll-Arm z) ≡ roll-Arm (map-Arm Statement Arm Statement Arm unlined unlined_of_arm z)
unlined_roll_of_arm z = fold-roll-Arm Statement Arm unlined_step unlined_arm z

module _ {A Q : Type 0} (step : Statement-F A Q → A) (arm : Arm-F A Q → Q) (free : (x : Statement-F A Q) → step (zeroed x) ≡ step x) where
  abbrev value : Statement → A
  value = fold-Statement A Q step arm

  abbrev arm_value : Arm → Q
  arm_value = fold-Arm A Q step arm

  abbrev Same : Statement → Type 0
  Same x = value (unlined x) ≡ value x

  abbrev ArmSame : Arm → Type 0
  ArmSame x = arm_value (unlined_of_arm x) ≡ arm_value x

  abbrev Layer : Type 0
  Layer = StatementParts Same ArmSame

  abbrev ArmLayer : Type 0
  ArmLayer = ArmParts Same ArmSame

  abbrev shape : Layer → Statement-F Statement Arm
  shape = statement_layer Same ArmSame

  abbrev arm_shape : ArmLayer → Arm-F Statement Arm
  arm_shape = arm_layer Same ArmSame

  abbrev bodies : List ((x : Statement) × Same x) → List Statement
  bodies = map (λ (x : (y : Statement) × Same y). x.0)

  abbrev bodies_of_arms : List ((x : Arm) × ArmSame x) → List Arm
  bodies_of_arms = map (λ (x : (y : Arm) × ArmSame y). x.0)

  all_same : (xs : List ((x : Statement) × Same x)) → map value (map unlined (bodies xs)) ≡ map value (bodies xs)
  all_same [] = refl
  all_same (x ∷ xs) = ap₂ (λ (a : A) (as_ : List A). a ∷ as_) x.1 (all_same xs)

  arms_same : (xs : List ((x : Arm) × ArmSame x)) → map arm_value (map unlined_of_arm (bodies_of_arms xs)) ≡ map arm_value (bodies_of_arms xs)
  arms_same [] = refl
  arms_same (x ∷ xs) = ap₂ (λ (a : Q) (as_ : List Q). a ∷ as_) x.1 (arms_same xs)

  abbrev step_at : Statement-F Statement Arm → A
  step_at y = step (map-Statement Statement Arm A Q value arm_value y)

  abbrev bared : Statement-F Statement Arm → Statement-F Statement Arm
  bared y = zeroed (map-Statement Statement Arm Statement Arm unlined unlined_of_arm y)

  layer_same : (y : Layer) → step_at (bared (shape y)) ≡ step_at (shape y)
  layer_same (Statement-F.Declare id l x i) = free (Statement-F.Declare id l x i)
  layer_same (Statement-F.Assign id l a op b) = free (Statement-F.Assign id l a op b)
  layer_same (Statement-F.Bump id l a up before) = free (Statement-F.Bump id l a up before)
  layer_same (Statement-F.Invoke id l to f args) = free (Statement-F.Invoke id l to f args)
  layer_same (Statement-F.Fetch id l to) = free (Statement-F.Fetch id l to)
  layer_same (Statement-F.Write id l e) = free (Statement-F.Write id l e)
  layer_same (Statement-F.Print id l format args) = free (Statement-F.Print id l format args)
  layer_same (Statement-F.Heap id l to cast n) = free (Statement-F.Heap id l to cast n)
  layer_same (Statement-F.Release id l e) = free (Statement-F.Release id l e)
  layer_same (Statement-F.Return id l e) = free (Statement-F.Return id l e)
  layer_same (Statement-F.If id l e a b) = free (Statement-F.If id l e _ _) ∙ ap₂ (λ (x y : List A). step (Statement-F.If id l e x y)) (all_same a) (all_same b)
  layer_same (Statement-F.While id l e b) = free (Statement-F.While id l e _) ∙ ap (λ (x : List A). step (Statement-F.While id l e x)) (all_same b)
  layer_same (Statement-F.Do id l e b) = free (Statement-F.Do id l e _) ∙ ap (λ (x : List A). step (Statement-F.Do id l e x)) (all_same b)
  layer_same (Statement-F.For id l None e None b) = free (Statement-F.For id l None e None _) ∙ ap (λ (x : List A). step (Statement-F.For id l None e None x)) (all_same b)
  layer_same (Statement-F.For id l None e (Some k) b) = free (Statement-F.For id l None e (Some _) _) ∙ ap₂ (λ (x : A) (y : List A). step (Statement-F.For id l None e (Some x) y)) k.1 (all_same b)
  layer_same (Statement-F.For id l (Some i) e None b) = free (Statement-F.For id l (Some _) e None _) ∙ ap₂ (λ (x : A) (y : List A). step (Statement-F.For id l (Some x) e None y)) i.1 (all_same b)
  layer_same (Statement-F.For id l (Some i) e (Some k) b) =
      free (Statement-F.For id l (Some _) e (Some _) _)
      ∙ ap₂ (λ (x y : A). step (Statement-F.For id l (Some x) e (Some y) (map value (map unlined (bodies b))))) i.1 k.1
      ∙ ap (λ (x : List A). step (Statement-F.For id l (Some (value i.0)) e (Some (value k.0)) x)) (all_same b)
  layer_same (Statement-F.Switch id l e arms) = free (Statement-F.Switch id l e _) ∙ ap (λ (x : List Q). step (Statement-F.Switch id l e x)) (arms_same arms)
  layer_same (Statement-F.Block l b) = free (Statement-F.Block l _) ∙ ap (λ (x : List A). step (Statement-F.Block l x)) (all_same b)

  pub fold_unlined : (x : Statement) → Same x
  fold_unlined = ind-Statement Same ArmSame
      (λ x y is. subst (λ z. Same (roll-Statement z)) is
      (ap value (unlined_roll (shape y)) ∙ fold-roll-Statement A Q step arm (bared (shape y)) ∙ layer_same y ∙ sym (fold-roll-Statement A Q step arm (shape y))))
      (λ x y is. subst (λ z. ArmSame (roll-Arm z)) is
      (ap arm_value (unlined_roll_of_arm (arm_shape y)) ∙ fold-roll-Arm A Q step arm (map-Arm Statement Arm Statement Arm unlined unlined_of_arm (arm_shape y))
      ∙ ap (λ (x : List A). arm (record { labels = y.labels; body = x })) (all_same y.body)
      ∙ sym (fold-roll-Arm A Q step arm (arm_shape y))))
