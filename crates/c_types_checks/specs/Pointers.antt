-- Pointers upon a type.
use Rattle.std.specs.Prelude.{ℕ, zero, suc}
use Rattle.c_language.specs.DeclaredTypes.{pointer_to}
use Rattle.c_language.specs.declared.expr_type.ExprType.{ExprType}

-- so many pointers upon a type
abbrev pub pointers_to : ℕ → ExprType → ExprType
pointers_to zero t = t
pointers_to (suc n) t = pointer_to (pointers_to n t)
