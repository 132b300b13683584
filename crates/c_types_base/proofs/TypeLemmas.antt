-- What each form of written type is, as equations.
use Rattle.std.proofs.Common.{◌≡◌, ℕ, Option, sym, ap, ◌∙◌}
use Rattle.c_arith.specs.declared.int_type.IntType.{IntType}
use Rattle.c_tree.specs.declared.raw.expr.RawLength.{RawLength}
use Rattle.c_tree.specs.declared.raw.expr.RawType.{RawType, fold-roll-RawType}
use Rattle.c_tree.specs.declared.raw.expr.RawType.TheOpen.{RawType-F}
use Rattle.c_tree.specs.declared.raw.expr.RawType.TheVariants as type
use Rattle.c_tree.specs.declared.raw.program.RawProgram.{RawProgram}
use Rattle.c_language.specs.Words.{Bytes}
use Rattle.c_language.specs.DeclaredTypes.{type_step, type_with}
use Rattle.c_language.specs.declared.expr_type.ExprType.{ExprType}

module _ (raw : RawProgram) (items : ℕ) where
  pub type_with-Integer : (t : IntType) → type_with raw items (type.Integer t) ≡ type_step raw items (RawType-F.Integer t)
  type_with-Integer t = ap (type_with raw items) (sym (type.rolls-Integer t)) ∙ fold-roll-RawType (Option ExprType) (type_step raw items) (RawType-F.Integer t)

  pub type_with-PointerTo : (a : RawType) → type_with raw items (type.PointerTo a) ≡ type_step raw items (RawType-F.PointerTo (type_with raw items a))
  type_with-PointerTo a = ap (type_with raw items) (sym (type.rolls-PointerTo a)) ∙ fold-roll-RawType (Option ExprType) (type_step raw items) (RawType-F.PointerTo a)

  pub type_with-Array : (a : RawType) (n : RawLength) → type_with raw items (type.Array a n) ≡ type_step raw items (RawType-F.Array (type_with raw items a) n)
  type_with-Array a n = ap (type_with raw items) (sym (type.rolls-Array a n)) ∙ fold-roll-RawType (Option ExprType) (type_step raw items) (RawType-F.Array a n)

  pub type_with-Struct : (tag : Bytes) → type_with raw items (type.Struct tag) ≡ type_step raw items (RawType-F.Struct tag)
  type_with-Struct tag = ap (type_with raw items) (sym (type.rolls-Struct tag)) ∙ fold-roll-RawType (Option ExprType) (type_step raw items) (RawType-F.Struct tag)

pub ruleset types_of = (type_with-Integer, type_with-PointerTo, type_with-Array, type_with-Struct)
