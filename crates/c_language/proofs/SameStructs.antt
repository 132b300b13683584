-- Two texts with the same struct types: the types of one are those of the other, and so is what their expressions select.
use Rattle.std.proofs.Common.{◌≡◌, ℕ, Option, Some, None, refl, ap}
use Rattle.std.specs.Prelude.{option_map, option_and_then}
use Rattle.c_tree.specs.declared.types.CType.{CType}
use Rattle.c_tree.specs.declared.types.CType.TheVariants as t
use Rattle.c_tree.specs.declared.raw.expr.RawType.{RawType}
use Rattle.c_tree.specs.declared.raw.expr.RawType.TheOpen.{RawType-F}
use Rattle.c_tree.specs.declared.raw.program.RawProgram.{RawProgram}
use Rattle.c_tree.proofs.RawTrees.{type_folds_same}
use Rattle.c_language.specs.Words.{Bytes}
use Rattle.c_language.specs.DeclaredTypes.{struct_id, of_base, type_step, type_with}
use Rattle.c_language.specs.Scopes.{Scope}
use Rattle.c_language.specs.ExprTypes.{struct_of, pointed, member_type, selected_type}
use Rattle.c_language.specs.ProgramOf.{member_id, of_operand, of_pointed, ctype_step, ctype_with}
use Rattle.c_language.specs.declared.expr_type.Base.TheVariants as base
use Rattle.c_language.specs.declared.expr_type.ExprType.{ExprType}
use Rattle.c_language.specs.declared.expr_type.Operand.{Operand}

-- tags stand for the same struct types
module _ (raw other : RawProgram) (ids : (tag : Bytes) → struct_id raw tag ≡ struct_id other tag) where
  type_steps : (items : ℕ) (y : RawType-F (Option ExprType)) → type_step raw items y ≡ type_step other items y
  type_steps items (RawType-F.Integer i) = refl
  type_steps items (RawType-F.PointerTo a) = refl
  type_steps items (RawType-F.Array a n) = refl
  type_steps items (RawType-F.Struct tag) = ap (option_map (λ (s : ℕ). of_base (base.Struct s))) (ids tag)

  pub types_same : (items : ℕ) (a : RawType) → type_with raw items a ≡ type_with other items a
  types_same items = type_folds_same (type_step raw items) (type_step other items) (type_steps items)

  ctype_steps : (items : ℕ) (y : RawType-F (Option CType)) → ctype_step raw items y ≡ ctype_step other items y
  ctype_steps items (RawType-F.Integer i) = refl
  ctype_steps items (RawType-F.PointerTo a) = refl
  ctype_steps items (RawType-F.Array a n) = refl
  ctype_steps items (RawType-F.Struct tag) = ap (option_map t.Struct) (ids tag)

  pub ctypes_same : (items : ℕ) (a : RawType) → ctype_with raw items a ≡ ctype_with other items a
  ctypes_same items = type_folds_same (ctype_step raw items) (ctype_step other items) (ctype_steps items)

-- members have the same types, each text in its scope
module _ (raw other : RawProgram) (scope next : Scope) (types : (m : Bytes) (s : Option ℕ) → option_and_then (member_type raw scope m) s ≡ option_and_then (member_type other next m) s) where
  pub select_member : (m : Bytes) (a : Option Operand) → option_and_then (λ (x : Operand). selected_type raw scope m x.shape) a ≡ option_and_then (λ (x : Operand). selected_type other next m x.shape) a
  select_member m None = refl
  select_member m (Some x) = types m (struct_of x.shape)

  select_in : (m : Bytes) (t : Option ExprType) → option_and_then (selected_type raw scope m) t ≡ option_and_then (selected_type other next m) t
  select_in m None = refl
  select_in m (Some t) = types m (struct_of t)

  pub select_pointed : (m : Bytes) (a : Option Operand)
      → option_and_then (λ (x : Operand). option_and_then (selected_type raw scope m) (pointed x)) a ≡ option_and_then (λ (x : Operand). option_and_then (selected_type other next m) (pointed x)) a
  select_pointed m None = refl
  select_pointed m (Some x) = select_in m (pointed x)

-- members have the same numbers
module _ (raw other : RawProgram) (ids : (m : Bytes) (k : ℕ) → member_id raw m k ≡ member_id other m k) where
  id_in : (m : Bytes) (s : Option ℕ) → option_and_then (member_id raw m) s ≡ option_and_then (member_id other m) s
  id_in m None = refl
  id_in m (Some k) = ids m k

  pub of_operands : (m : Bytes) (a : Option Operand) → of_operand raw m a ≡ of_operand other m a
  of_operands m None = refl
  of_operands m (Some x) = id_in m (struct_of x.shape)

  of_pointed_in : (m : Bytes) (t : Option ExprType) → option_and_then (λ t. option_and_then (member_id raw m) (struct_of t)) t ≡ option_and_then (λ t. option_and_then (member_id other m) (struct_of t)) t
  of_pointed_in m None = refl
  of_pointed_in m (Some t) = id_in m (struct_of t)

  pub of_pointeds : (m : Bytes) (a : Option Operand) → of_pointed raw m a ≡ of_pointed other m a
  of_pointeds m None = refl
  of_pointeds m (Some x) = of_pointed_in m (pointed x)
