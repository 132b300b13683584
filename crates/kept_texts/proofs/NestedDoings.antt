-- Something of a statement is kept exactly where one of the things that it does is.
use Rattle.std.proofs.Common.{◌≡◌, ℕ, List, [], ◌∷◌, ◌++◌, map, Some, None, Bool, true, false, ◌||◌, refl, sym, ap, ap₂, ◌∙◌, subst}
use Rattle.c_tree.specs.declared.statement.Arm.{Arm, roll-Arm, map-Arm, fold-roll-Arm}
use Rattle.c_tree.specs.declared.statement.Statement.{Statement, ind-Statement, roll-Statement, map-Statement, fold-roll-Statement}
use Rattle.c_tree.specs.declared.statement.Statement.TheOpen.{Statement-F, Arm-F}
use Rattle.dep_model.specs.Doings.{Doing, doing_number, joined, doing_step, doing_arm, doings}
use Rattle.dep_model.proofs.DoingForms.{arm_doings}
use Rattle.projection_laws.specs.Nested.{Nest, any_kept, nest_step, nest_arm, nest, arm_nest}

or_none : (b : Bool) → b ≡ (b || false)
or_none true = refl
or_none false = refl

or_joined : (a b c : Bool) → (a || (b || c)) ≡ ((a || b) || c)
or_joined true b c = refl
or_joined false b c = refl

module _ (keeps : ℕ → Bool) where
  -- one of them is kept
  abbrev pub any_done : List Doing → Bool
  any_done [] = false
  any_done (d ∷ ds) = keeps (doing_number d) || any_done ds

  pub done-append : (ds es : List Doing) → any_done (ds ++ es) ≡ (any_done ds || any_done es)
  done-append [] es = refl
  done-append (d ∷ ds) es = ap (λ b. keeps (doing_number d) || b) (done-append ds es) ∙ or_joined (keeps (doing_number d)) (any_done ds) (any_done es)

  abbrev Same : Statement → Type 0
  Same y = (nest keeps y).keeps ≡ any_done (doings y)

  abbrev ArmSame : Arm → Type 0
  ArmSame a = (arm_nest keeps a).keeps ≡ any_done (arm_doings a)

  abbrev Layer : Type 0
  Layer = Statement-F ((y : Statement) × Same y) ((a : Arm) × ArmSame a)

  abbrev bodies : List ((y : Statement) × Same y) → List Statement
  bodies ys = map (λ (y : (z : Statement) × Same z). y.0) ys

  abbrev bodies_of_arms : List ((a : Arm) × ArmSame a) → List Arm
  bodies_of_arms ys = map (λ (y : (a : Arm) × ArmSame a). y.0) ys

  abbrev shape : Layer → Statement-F Statement Arm
  shape = map-Statement ((y : Statement) × Same y) ((a : Arm) × ArmSame a) Statement Arm (λ y. y.0) (λ y. y.0)

  abbrev keeps_at : Statement-F Statement Arm → Bool
  keeps_at y = (nest_step keeps (map-Statement Statement Arm Nest Nest (nest keeps) (arm_nest keeps) y)).keeps

  abbrev does_at : Statement-F Statement Arm → List Doing
  does_at y = doing_step (map-Statement Statement Arm (List Doing) (List Doing) doings arm_doings y)

  all_same : (ys : List ((y : Statement) × Same y)) → any_kept (map (nest keeps) (bodies ys)) ≡ any_done (joined (map doings (bodies ys)))
  all_same [] = refl
  all_same (y ∷ ys) = ap₂ (λ a b. a || b) y.1 (all_same ys) ∙ sym (done-append (doings y.0) (joined (map doings (bodies ys))))

  arms_same : (ys : List ((a : Arm) × ArmSame a)) → any_kept (map (arm_nest keeps) (bodies_of_arms ys)) ≡ any_done (joined (map arm_doings (bodies_of_arms ys)))
  arms_same [] = refl
  arms_same (y ∷ ys) = ap₂ (λ a b. a || b) y.1 (arms_same ys) ∙ sym (done-append (arm_doings y.0) (joined (map arm_doings (bodies_of_arms ys))))

  two_same : (a b : Bool) (ds es : List Doing) → a ≡ any_done ds → b ≡ any_done es → (a || b) ≡ any_done (ds ++ es)
  two_same a b ds es p q = ap₂ (λ c d. c || d) p q ∙ sym (done-append ds es)

  layer_same : (y : Layer) → keeps_at (shape y) ≡ any_done (does_at (shape y))
  layer_same (Statement-F.Declare None l v i) = refl
  layer_same (Statement-F.Declare (Some id) l v i) = or_none _
  layer_same (Statement-F.Assign id l a op b) = or_none _
  layer_same (Statement-F.Bump id l a up before) = or_none _
  layer_same (Statement-F.Invoke id l to f args) = or_none _
  layer_same (Statement-F.Fetch id l to) = or_none _
  layer_same (Statement-F.Write id l e) = or_none _
  layer_same (Statement-F.Print id l format args) = or_none _
  layer_same (Statement-F.Heap id l to cast n) = or_none _
  layer_same (Statement-F.Release id l e) = or_none _
  layer_same (Statement-F.Return id l e) = or_none _
  layer_same (Statement-F.If id l e a b) = ap (λ r. keeps id || r) (two_same _ _ (joined (map doings (bodies a))) (joined (map doings (bodies b))) (all_same a) (all_same b))
  layer_same (Statement-F.While id l e b) = ap (λ r. keeps id || r) (all_same b)
  layer_same (Statement-F.Do id l e b) = ap (λ r. keeps id || r) (all_same b)
  layer_same (Statement-F.For id l None e None b) = ap (λ r. keeps id || r) (all_same b)
  layer_same (Statement-F.For id l None e (Some n) b) = ap (λ r. keeps id || r) (two_same _ _ (doings n.0) (joined (map doings (bodies b))) n.1 (all_same b))
  layer_same (Statement-F.For id l (Some i) e None b) = ap (λ r. keeps id || r) (two_same _ _ (doings i.0) (joined (map doings (bodies b))) i.1 (all_same b))
  layer_same (Statement-F.For id l (Some i) e (Some n) b) =
      ap (λ r. keeps id || r)
      (two_same _ _ (doings i.0) (doings n.0 ++ joined (map doings (bodies b))) i.1 (two_same _ _ (doings n.0) (joined (map doings (bodies b))) n.1 (all_same b)))
  layer_same (Statement-F.Switch id l e arms) = ap (λ r. keeps id || r) (arms_same arms)
  layer_same (Statement-F.Block l b) = all_same b

  abbrev ArmLayer : Type 0
  ArmLayer = Arm-F ((y : Statement) × Same y) ((a : Arm) × ArmSame a)

  abbrev arm_shape : ArmLayer → Arm-F Statement Arm
  arm_shape = map-Arm ((y : Statement) × Same y) ((a : Arm) × ArmSame a) Statement Arm (λ y. y.0) (λ y. y.0)

  pub nest_doings : (y : Statement) → Same y
  nest_doings = ind-Statement Same ArmSame
      (λ z y is. subst (λ w. Same (roll-Statement w)) is
      (ap (λ (n : Nest). n.keeps) (fold-roll-Statement Nest Nest (nest_step keeps) (nest_arm keeps) (shape y)) ∙ layer_same y
      ∙ ap any_done (sym (fold-roll-Statement (List Doing) (List Doing) doing_step doing_arm (shape y)))))
      (λ z y is. subst (λ w. ArmSame (roll-Arm w)) is
      (ap (λ (n : Nest). n.keeps) (fold-roll-Arm Nest Nest (nest_step keeps) (nest_arm keeps) (arm_shape y)) ∙ all_same y.body
      ∙ ap any_done (sym (fold-roll-Arm (List Doing) (List Doing) doing_step doing_arm (arm_shape y)))))
