-- Inductions over the trees of texts, layer by layer.
use Rattle.std.proofs.Common.{◌≡◌, refl, sym, ap, subst, ◌∙◌}
use Rattle.c_tree.specs.declared.raw.expr.RawExpr.{RawExpr, ind-RawExpr, roll-RawExpr, map-RawExpr}
use Rattle.c_tree.specs.declared.raw.expr.RawExpr.TheOpen.{RawExpr-F}
use Rattle.c_tree.specs.declared.raw.expr.RawType.{RawType, ind-RawType, roll-RawType, map-RawType, fold-RawType, fold-roll-RawType}
use Rattle.c_tree.specs.declared.raw.expr.RawType.TheOpen.{RawType-F}
use Rattle.c_tree.specs.declared.raw.statement.RawStatement.{RawStatement, ind-RawStatement, roll-RawStatement, map-RawStatement}
use Rattle.c_tree.specs.declared.raw.statement.RawStatement.TheOpen.{RawStatement-F, RawArm-F}
use Rattle.c_tree.specs.declared.raw.statement.RawArm.{RawArm, ind-RawArm, roll-RawArm, map-RawArm}

-- a layer of an expression, with a fact about each part
abbrev pub ExprParts : (RawExpr → Type 0) → Type 0
ExprParts Q = RawExpr-F ((a : RawExpr) × Q a)

-- the layer alone
abbrev pub expr_layer : (Q : RawExpr → Type 0) → ExprParts Q → RawExpr-F RawExpr
expr_layer Q = map-RawExpr ((a : RawExpr) × Q a) RawExpr (λ a. a.0)

-- a fact about expressions holds where each layer has it from its parts
pub of_every_expr : (Q : RawExpr → Type 0) → ((y : ExprParts Q) → Q (roll-RawExpr (expr_layer Q y))) → (a : RawExpr) → Q a
of_every_expr Q layer = ind-RawExpr Q (λ x y is. subst (λ z. Q (roll-RawExpr z)) is (layer y))

-- a layer of a type, with a fact about each part
abbrev pub TypeParts : (RawType → Type 0) → Type 0
TypeParts Q = RawType-F ((a : RawType) × Q a)

abbrev pub type_layer : (Q : RawType → Type 0) → TypeParts Q → RawType-F RawType
type_layer Q = map-RawType ((a : RawType) × Q a) RawType (λ a. a.0)

-- the same for types
pub of_every_type : (Q : RawType → Type 0) → ((y : TypeParts Q) → Q (roll-RawType (type_layer Q y))) → (a : RawType) → Q a
of_every_type Q layer = ind-RawType Q (λ x y is. subst (λ z. Q (roll-RawType z)) is (layer y))

module _ {A : Type 0} (f g : RawType-F A → A) (same : (y : RawType-F A) → f y ≡ g y) where
  abbrev TypeSame : RawType → Type 0
  TypeSame a = fold-RawType A f a ≡ fold-RawType A g a

  layers_same : (y : TypeParts TypeSame) → map-RawType RawType A (fold-RawType A f) (type_layer TypeSame y) ≡ map-RawType RawType A (fold-RawType A g) (type_layer TypeSame y)
  layers_same (RawType-F.Integer i) = refl
  layers_same (RawType-F.PointerTo a) = ap RawType-F.PointerTo a.1
  layers_same (RawType-F.Array a n) = ap (λ (x : A). RawType-F.Array x n) a.1
  layers_same (RawType-F.Struct tag) = refl

  -- folds of types by steps that agree
  pub type_folds_same : (a : RawType) → fold-RawType A f a ≡ fold-RawType A g a
  type_folds_same = of_every_type TypeSame (λ y.
      fold-roll-RawType A f (type_layer TypeSame y) ∙ ap f (layers_same y) ∙ same (map-RawType RawType A (fold-RawType A g) (type_layer TypeSame y))
      ∙ sym (fold-roll-RawType A g (type_layer TypeSame y)))

-- a layer of a statement, with a fact about each statement in it, and one about each arm
abbrev pub StatementParts : (RawStatement → Type 0) → (RawArm → Type 0) → Type 0
StatementParts Q R = RawStatement-F ((x : RawStatement) × Q x) ((a : RawArm) × R a)

abbrev pub statement_layer : (Q : RawStatement → Type 0) (R : RawArm → Type 0) → StatementParts Q R → RawStatement-F RawStatement RawArm
statement_layer Q R = map-RawStatement ((x : RawStatement) × Q x) ((a : RawArm) × R a) RawStatement RawArm (λ x. x.0) (λ a. a.0)

abbrev pub ArmParts : (RawStatement → Type 0) → (RawArm → Type 0) → Type 0
ArmParts Q R = RawArm-F ((x : RawStatement) × Q x) ((a : RawArm) × R a)

abbrev pub arm_layer : (Q : RawStatement → Type 0) (R : RawArm → Type 0) → ArmParts Q R → RawArm-F RawStatement RawArm
arm_layer Q R = map-RawArm ((x : RawStatement) × Q x) ((a : RawArm) × R a) RawStatement RawArm (λ x. x.0) (λ a. a.0)

-- the same for statements and the arms of switches
pub of_every_statement : (Q : RawStatement → Type 0) (R : RawArm → Type 0)
    → ((y : StatementParts Q R) → Q (roll-RawStatement (statement_layer Q R y))) → ((y : ArmParts Q R) → R (roll-RawArm (arm_layer Q R y)))
    → (x : RawStatement) → Q x
of_every_statement Q R layer arm =
    ind-RawStatement Q R (λ x y is. subst (λ z. Q (roll-RawStatement z)) is (layer y)) (λ x y is. subst (λ z. R (roll-RawArm z)) is (arm y))

pub of_every_arm : (Q : RawStatement → Type 0) (R : RawArm → Type 0)
    → ((y : StatementParts Q R) → Q (roll-RawStatement (statement_layer Q R y))) → ((y : ArmParts Q R) → R (roll-RawArm (arm_layer Q R y)))
    → (x : RawArm) → R x
of_every_arm Q R layer arm =
    ind-RawArm Q R (λ x y is. subst (λ z. Q (roll-RawStatement z)) is (layer y)) (λ x y is. subst (λ z. R (roll-RawArm z)) is (arm y))
