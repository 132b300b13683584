-- What the walk is at each form of statement.
use Rattle.std.specs.Prelude.{if◌then◌else◌}
use Rattle.std.proofs.Common.{◌≡◌, ℕ, List, [], ◌∷◌, ◌++◌, map, Option, Some, None, Bool, refl, sym, ap, ◌∙◌}
use Rattle.c_arith.specs.declared.operators.BinaryOp.{BinaryOp}
use Rattle.c_tree.specs.declared.types.CType.{CType}
use Rattle.c_tree.specs.declared.expr.Expr.{Expr}
use Rattle.c_tree.specs.declared.program.Init.{Init}
use Rattle.c_tree.specs.declared.statement.Amount.{Amount}
use Rattle.c_tree.specs.declared.statement.Target.{Target}
use Rattle.c_tree.specs.declared.statement.Statement.{Statement, fold-roll-Statement}
use Rattle.c_tree.specs.declared.statement.Statement.TheOpen.{Statement-F}
use Rattle.c_tree.specs.declared.statement.Statement.TheVariants as s
use Rattle.c_tree.specs.declared.statement.Arm.{Arm, fold-roll-Arm}
use Rattle.dep_model.specs.declared.skeleton.Pair.{Pair}
use Rattle.c_tree.specs.declared.statement.Label.{Label}
use Rattle.dep_model.specs.SwitchArms.{has_first, with_labels, taken, taken_from}
use Rattle.c_language.proofs.Turns.{IsEach}
use Rattle.dep_model.proofs.Grown.{AreBoth}
use Rattle.dep_model.specs.Pairs.{pair}
use Rattle.control_deps.specs.Walk.{Walk, ArmWalk, from_all, joined, all, if_some, all_taken, declared, walk_step, arm_step, walk, arm_walk, walks, if_taken, arm_walks, walked_part}

module _ (own : ℕ → List ℕ) where
  pub all-walks : (b : List Statement) (ks : List ℕ) → all (map (walk own) b) ks ≡ walks own b ks
  all-walks [] ks = refl
  all-walks (x ∷ b) ks = ap (λ es. walk own x ks ++ es) (all-walks b ks)

  pub arm_is : (a : Arm) → arm_walk own a ≡ record { labels = a.labels; walk = all (map (walk own) a.body) }
  arm_is a = fold-roll-Arm Walk ArmWalk (walk_step own) (arm_step own) (record { labels = a.labels; body = a.body })

  pub all-arms : (before : List Label) (as_ : List Arm) (ks : List ℕ) → all_taken before (map (arm_walk own) as_) ks ≡ arm_walks own (taken_from before as_) as_ ks
  all-arms before [] ks = refl
  all-arms before (a ∷ as_) ks =
      ap (λ (w : ArmWalk). (if has_first before w.labels then w.walk ks else []) ++ all_taken (with_labels before w.labels) (map (arm_walk own) as_) ks) (arm_is a) ∙ (ap (λ es. (if has_first before a.labels then es else []) ++ all_taken (with_labels before a.labels) (map (arm_walk own) as_) ks) (all-walks a.body ks) ∙ ap (λ es. if_taken own (has_first before a.labels) a.body ks ++ es) (all-arms (with_labels before a.labels) as_ ks))

  pub walk-Declare : (id : Option ℕ) (l x : ℕ) (i : Init) (ks : List ℕ) → walk own (s.Declare id l x i) ks ≡ declared own id ks
  walk-Declare id l x i ks =
      ap (λ t. walk own t ks) (sym (s.rolls-Declare id l x i)) ∙ ap (λ (w : Walk). w ks) (fold-roll-Statement Walk ArmWalk (walk_step own) (arm_step own) (Statement-F.Declare id l x i))

  pub walk-Assign : (id l : ℕ) (left : Expr) (op : Option BinaryOp) (right : Expr) (ks : List ℕ) → walk own (s.Assign id l left op right) ks ≡ joined ks (own id)
  walk-Assign id l left op right ks =
      ap (λ t. walk own t ks) (sym (s.rolls-Assign id l left op right)) ∙ ap (λ (w : Walk). w ks) (fold-roll-Statement Walk ArmWalk (walk_step own) (arm_step own) (Statement-F.Assign id l left op right))

  pub walk-Bump : (id l : ℕ) (a : Expr) (up before : Bool) (ks : List ℕ) → walk own (s.Bump id l a up before) ks ≡ joined ks (own id)
  walk-Bump id l a up before ks =
      ap (λ t. walk own t ks) (sym (s.rolls-Bump id l a up before)) ∙ ap (λ (w : Walk). w ks) (fold-roll-Statement Walk ArmWalk (walk_step own) (arm_step own) (Statement-F.Bump id l a up before))

  pub walk-Invoke : (id l : ℕ) (to : Target) (f : ℕ) (args : List Expr) (ks : List ℕ) → walk own (s.Invoke id l to f args) ks ≡ joined ks (own id)
  walk-Invoke id l to f args ks =
      ap (λ t. walk own t ks) (sym (s.rolls-Invoke id l to f args)) ∙ ap (λ (w : Walk). w ks) (fold-roll-Statement Walk ArmWalk (walk_step own) (arm_step own) (Statement-F.Invoke id l to f args))

  pub walk-Fetch : (id l : ℕ) (to : Target) (ks : List ℕ) → walk own (s.Fetch id l to) ks ≡ joined ks (own id)
  walk-Fetch id l to ks =
      ap (λ t. walk own t ks) (sym (s.rolls-Fetch id l to)) ∙ ap (λ (w : Walk). w ks) (fold-roll-Statement Walk ArmWalk (walk_step own) (arm_step own) (Statement-F.Fetch id l to))

  pub walk-Write : (id l : ℕ) (e : Expr) (ks : List ℕ) → walk own (s.Write id l e) ks ≡ joined ks (own id)
  walk-Write id l e ks =
      ap (λ t. walk own t ks) (sym (s.rolls-Write id l e)) ∙ ap (λ (w : Walk). w ks) (fold-roll-Statement Walk ArmWalk (walk_step own) (arm_step own) (Statement-F.Write id l e))

  pub walk-Print : (id l : ℕ) (format : List ℕ) (args : List Expr) (ks : List ℕ) → walk own (s.Print id l format args) ks ≡ joined ks (own id)
  walk-Print id l format args ks =
      ap (λ t. walk own t ks) (sym (s.rolls-Print id l format args)) ∙ ap (λ (w : Walk). w ks) (fold-roll-Statement Walk ArmWalk (walk_step own) (arm_step own) (Statement-F.Print id l format args))

  pub walk-Heap : (id l : ℕ) (to : Target) (cast : Option CType) (n : Amount) (ks : List ℕ) → walk own (s.Heap id l to cast n) ks ≡ joined ks (own id)
  walk-Heap id l to cast n ks =
      ap (λ t. walk own t ks) (sym (s.rolls-Heap id l to cast n)) ∙ ap (λ (w : Walk). w ks) (fold-roll-Statement Walk ArmWalk (walk_step own) (arm_step own) (Statement-F.Heap id l to cast n))

  pub walk-Release : (id l : ℕ) (e : Expr) (ks : List ℕ) → walk own (s.Release id l e) ks ≡ joined ks (own id)
  walk-Release id l e ks =
      ap (λ t. walk own t ks) (sym (s.rolls-Release id l e)) ∙ ap (λ (w : Walk). w ks) (fold-roll-Statement Walk ArmWalk (walk_step own) (arm_step own) (Statement-F.Release id l e))

  pub walk-Return : (id l : ℕ) (e : Option Expr) (ks : List ℕ) → walk own (s.Return id l e) ks ≡ joined ks (own id)
  walk-Return id l e ks =
      ap (λ t. walk own t ks) (sym (s.rolls-Return id l e)) ∙ ap (λ (w : Walk). w ks) (fold-roll-Statement Walk ArmWalk (walk_step own) (arm_step own) (Statement-F.Return id l e))

  pub walk-If : (id l : ℕ) (e : Expr) (a b : List Statement) (ks : List ℕ) → walk own (s.If id l e a b) ks ≡ joined ks (own id) ++ (walks own a (own id) ++ walks own b (own id))
  walk-If id l e a b ks =
      ap (λ t. walk own t ks) (sym (s.rolls-If id l e a b)) ∙ ap (λ (w : Walk). w ks) (fold-roll-Statement Walk ArmWalk (walk_step own) (arm_step own) (Statement-F.If id l e a b)) ∙ (ap (λ es. joined ks (own id) ++ (es ++ all (map (walk own) b) (own id))) (all-walks a (own id)) ∙ ap (λ es. joined ks (own id) ++ (walks own a (own id) ++ es)) (all-walks b (own id)))

  pub walk-While : (id l : ℕ) (e : Expr) (b : List Statement) (ks : List ℕ) → walk own (s.While id l e b) ks ≡ joined (ks ++ own id) (own id) ++ walks own b (own id)
  walk-While id l e b ks =
      ap (λ t. walk own t ks) (sym (s.rolls-While id l e b)) ∙ ap (λ (w : Walk). w ks) (fold-roll-Statement Walk ArmWalk (walk_step own) (arm_step own) (Statement-F.While id l e b)) ∙ ap (λ es. joined (ks ++ own id) (own id) ++ es) (all-walks b (own id))

  pub walk-Do : (id l : ℕ) (e : Expr) (b : List Statement) (ks : List ℕ) → walk own (s.Do id l e b) ks ≡ joined (ks ++ own id) (own id) ++ walks own b (ks ++ own id)
  walk-Do id l e b ks =
      ap (λ t. walk own t ks) (sym (s.rolls-Do id l e b)) ∙ ap (λ (w : Walk). w ks) (fold-roll-Statement Walk ArmWalk (walk_step own) (arm_step own) (Statement-F.Do id l e b)) ∙ ap (λ es. joined (ks ++ own id) (own id) ++ es) (all-walks b (ks ++ own id))

  pub walk-Switch : (id l : ℕ) (e : Expr) (list : List Arm) (ks : List ℕ) → walk own (s.Switch id l e list) ks ≡ joined ks (own id) ++ arm_walks own (taken list) list (own id)
  walk-Switch id l e list ks =
      ap (λ t. walk own t ks) (sym (s.rolls-Switch id l e list)) ∙ ap (λ (w : Walk). w ks) (fold-roll-Statement Walk ArmWalk (walk_step own) (arm_step own) (Statement-F.Switch id l e list)) ∙ ap (λ es. joined ks (own id) ++ es) (all-arms [] list (own id))

  pub walk-Block : (l : ℕ) (b : List Statement) (ks : List ℕ) → walk own (s.Block l b) ks ≡ walks own b ks
  walk-Block l b ks =
      ap (λ t. walk own t ks) (sym (s.rolls-Block l b)) ∙ ap (λ (w : Walk). w ks) (fold-roll-Statement Walk ArmWalk (walk_step own) (arm_step own) (Statement-F.Block l b)) ∙ all-walks b ks

  for_is : (id : ℕ) (i step : Option Walk) (b : List Statement) (ks : List ℕ) (init tail : List Pair) → if_some i ks ≡ init → if_some step (own id) ≡ tail → joined (ks ++ own id) (own id) ++ (if_some i ks ++ (if_some step (own id) ++ all (map (walk own) b) (own id))) ≡ joined (ks ++ own id) (own id) ++ (init ++ (tail ++ walks own b (own id)))
  for_is id i step b ks init tail p q =
      ap (λ es. joined (ks ++ own id) (own id) ++ (es ++ (if_some step (own id) ++ all (map (walk own) b) (own id)))) p ∙ (ap (λ es. joined (ks ++ own id) (own id) ++ (init ++ (es ++ all (map (walk own) b) (own id)))) q ∙ ap (λ es. joined (ks ++ own id) (own id) ++ (init ++ (tail ++ es))) (all-walks b (own id)))

  pub walk-For : (id l : ℕ) (i : Option Statement) (e : Expr) (step : Option Statement) (b : List Statement) (ks : List ℕ) → walk own (s.For id l i e step b) ks ≡ joined (ks ++ own id) (own id) ++ (walked_part own i ks ++ (walked_part own step (own id) ++ walks own b (own id)))
  walk-For id l None e None b ks =
      ap (λ t. walk own t ks) (sym (s.rolls-For id l None e None b)) ∙ (ap (λ (w : Walk). w ks) (fold-roll-Statement Walk ArmWalk (walk_step own) (arm_step own) (Statement-F.For id l None e None b)) ∙ for_is id None None b ks _ _ refl refl)
  walk-For id l None e (Some x) b ks =
      ap (λ t. walk own t ks) (sym (s.rolls-For id l None e (Some x) b)) ∙ (ap (λ (w : Walk). w ks) (fold-roll-Statement Walk ArmWalk (walk_step own) (arm_step own) (Statement-F.For id l None e (Some x) b)) ∙ for_is id None (Some (walk own x)) b ks _ _ refl refl)
  walk-For id l (Some y) e None b ks =
      ap (λ t. walk own t ks) (sym (s.rolls-For id l (Some y) e None b)) ∙ (ap (λ (w : Walk). w ks) (fold-roll-Statement Walk ArmWalk (walk_step own) (arm_step own) (Statement-F.For id l (Some y) e None b)) ∙ for_is id (Some (walk own y)) None b ks _ _ refl refl)
  walk-For id l (Some y) e (Some x) b ks =
      ap (λ t. walk own t ks) (sym (s.rolls-For id l (Some y) e (Some x) b)) ∙ (ap (λ (w : Walk). w ks) (fold-roll-Statement Walk ArmWalk (walk_step own) (arm_step own) (Statement-F.For id l (Some y) e (Some x) b)) ∙ for_is id (Some (walk own y)) (Some (walk own x)) b ks _ _ refl refl)

  pub each_statement : (ks : List ℕ) → IsEach (λ x. walk own x ks) (λ xs. walks own xs ks)
  each_statement ks = record { at_nothing = refl; at_more = λ x xs. refl }

  pub each_arm : (ks : List ℕ) → AreBoth (λ b (a : Arm). if_taken own b a.body ks) (λ bs as_. arm_walks own bs as_ ks)
  each_arm ks = record { at_nothing = refl; at_more = λ b bs a as_. refl }

pub each_controller : (to : ℕ) → IsEach (λ k. pair k to ∷ []) (λ ks. from_all ks to)
each_controller to = record { at_nothing = refl; at_more = λ k ks. refl }

pub each_controlled : (ks : List ℕ) → IsEach (from_all ks) (joined ks)
each_controlled ks = record { at_nothing = refl; at_more = λ t ts. refl }
