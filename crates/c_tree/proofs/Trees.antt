-- Inductions over trees, layer by layer.
use Rattle.std.proofs.Common.{subst}
use Rattle.c_tree.specs.declared.expr.Expr.{Expr, ind-Expr, roll-Expr, map-Expr}
use Rattle.c_tree.specs.declared.expr.Expr.TheOpen.{Expr-F}
use Rattle.c_tree.specs.declared.statement.Statement.{Statement, ind-Statement, roll-Statement, map-Statement}
use Rattle.c_tree.specs.declared.statement.Statement.TheOpen.{Statement-F, Arm-F}
use Rattle.c_tree.specs.declared.statement.Arm.{Arm, roll-Arm, map-Arm}

-- a layer of an expression, with a fact about each part
abbrev pub ExprParts : (Expr → Type 0) → Type 0
ExprParts Q = Expr-F ((a : Expr) × Q a)

-- the layer alone
abbrev pub expr_layer : (Q : Expr → Type 0) → ExprParts Q → Expr-F Expr
expr_layer Q = map-Expr ((a : Expr) × Q a) Expr (λ a. a.0)

-- a fact about expressions holds where each layer has it from its parts
pub of_every_expr : (Q : Expr → Type 0) → ((y : ExprParts Q) → Q (roll-Expr (expr_layer Q y))) → (a : Expr) → Q a
of_every_expr Q layer = ind-Expr Q (λ x y is. subst (λ z. Q (roll-Expr z)) is (layer y))

-- a layer of a statement, with a fact about each statement in it, and one about each arm
abbrev pub StatementParts : (Statement → Type 0) → (Arm → Type 0) → Type 0
StatementParts Q R = Statement-F ((x : Statement) × Q x) ((a : Arm) × R a)

abbrev pub statement_layer : (Q : Statement → Type 0) (R : Arm → Type 0) → StatementParts Q R → Statement-F Statement Arm
statement_layer Q R = map-Statement ((x : Statement) × Q x) ((a : Arm) × R a) Statement Arm (λ x. x.0) (λ a. a.0)

abbrev pub ArmParts : (Statement → Type 0) → (Arm → Type 0) → Type 0
ArmParts Q R = Arm-F ((x : Statement) × Q x) ((a : Arm) × R a)

abbrev pub arm_layer : (Q : Statement → Type 0) (R : Arm → Type 0) → ArmParts Q R → Arm-F Statement Arm
arm_layer Q R = map-Arm ((x : Statement) × Q x) ((a : Arm) × R a) Statement Arm (λ x. x.0) (λ a. a.0)

-- the same for statements and the arms of switches
pub of_every_statement : (Q : Statement → Type 0) (R : Arm → Type 0) → ((y : StatementParts Q R) → Q (roll-Statement (statement_layer Q R y))) → ((y : ArmParts Q R) → R (roll-Arm (arm_layer Q R y))) → (x : Statement) → Q x
of_every_statement Q R layer arm =
    ind-Statement Q R (λ x y is. subst (λ z. Q (roll-Statement z)) is (layer y)) (λ x y is. subst (λ z. R (roll-Arm z)) is (arm y))
