-- A written type and its tree by its layer, and the tree of a name, as equations.
use Rattle.std.proofs.Common.{◌≡◌, ℕ, Option, option_map, sym, ap, ◌∙◌}
use Rattle.c_tree.specs.declared.types.CType.{CType}
use Rattle.c_tree.specs.declared.expr.Expr.TheVariants as tree
use Rattle.c_tree.specs.declared.raw.expr.RawExpr.{fold-roll-RawExpr}
use Rattle.c_tree.specs.declared.raw.expr.RawExpr.TheOpen.{RawExpr-F}
use Rattle.c_tree.specs.declared.raw.expr.RawExpr.TheVariants as e
use Rattle.c_tree.specs.declared.raw.expr.RawType.{RawType, roll-RawType, map-RawType, fold-roll-RawType}
use Rattle.c_tree.specs.declared.raw.expr.RawType.TheOpen.{RawType-F}
use Rattle.c_tree.specs.declared.raw.program.RawProgram.{RawProgram}
use Rattle.c_language.specs.Words.{Bytes}
use Rattle.c_language.specs.Scopes.{Scope, meaning_in}
use Rattle.c_language.specs.DeclaredTypes.{type_step, type_with}
use Rattle.c_language.specs.ProgramOf.{Told, told_step, expr_of, variable_number, ctype_step, ctype_with}
use Rattle.c_language.specs.declared.expr_type.ExprType.{ExprType}

module _ (raw : RawProgram) where
  pub type-roll : (items : ℕ) (layer : RawType-F RawType) → type_with raw items (roll-RawType layer) ≡ type_step raw items (map-RawType RawType (Option ExprType) (type_with raw items) layer)
  type-roll items layer = fold-roll-RawType (Option ExprType) (type_step raw items) layer

  pub ctype-roll : (items : ℕ) (layer : RawType-F RawType) → ctype_with raw items (roll-RawType layer) ≡ ctype_step raw items (map-RawType RawType (Option CType) (ctype_with raw items) layer)
  ctype-roll items layer = fold-roll-RawType (Option CType) (ctype_step raw items) layer

  pub expr_of-Variable : (scope : Scope) (name : Bytes) → expr_of raw scope (e.Variable name) ≡ option_map tree.Variable (variable_number (meaning_in scope name))
  expr_of-Variable scope name = ap (expr_of raw scope) (sym (e.rolls-Variable name)) ∙ ap (λ (t : Told). t.tree) (fold-roll-RawExpr Told (told_step raw scope) (RawExpr-F.Variable name))
