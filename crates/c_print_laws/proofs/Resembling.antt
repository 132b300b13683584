-- Two texts whose struct types, functions and headers are the same but for lines and lengths of parameters: types and expressions are the same in both.
use Rattle.std.proofs.Common.{◌≡◌, ℕ, Option, Some, None, refl, sym, ap, ap₂, ◌∙◌, slice_get}
use Rattle.std.specs.Prelude.{option_map, option_and_then, is_none, nat_lt, if◌then◌else◌, bytes_eq}
use Rattle.std.specs.List.{position, AllZip}
use Rattle.c_tree.specs.declared.expr.Expr.{Expr}
use Rattle.c_tree.specs.declared.expr.Expr.TheVariants as e
use Rattle.c_tree.specs.declared.expr.MemberId.{MemberId}
use Rattle.c_tree.specs.declared.raw.expr.RawExpr.{RawExpr, out-RawExpr, map-RawExpr, fold-RawExpr, fold-roll-RawExpr}
use Rattle.c_tree.specs.declared.raw.expr.RawExpr.TheOpen.{RawExpr-F}
use Rattle.c_tree.specs.declared.raw.expr.RawType.{RawType}
use Rattle.c_tree.specs.declared.raw.program.RawMember.{RawMember}
use Rattle.c_tree.specs.declared.raw.program.RawParam.{RawParam}
use Rattle.c_tree.specs.declared.raw.program.RawHead.{RawHead}
use Rattle.c_tree.specs.declared.raw.program.RawProgram.{RawProgram}
use Rattle.c_tree.proofs.RawTrees.{ExprParts, expr_layer, of_every_expr}
use Rattle.c_language.specs.Words.{Bytes}
use Rattle.c_language.specs.DeclaredTypes.{StructText, defined_structs, defined_functions, struct_id, function_id, definition_of, type_with, written_type, has_stdio, has_stdlib}
use Rattle.c_language.specs.Scopes.{Scope}
use Rattle.c_language.specs.ExprTypes.{a_place, member_named, member_of, member_type, operand_step, operand}
use Rattle.c_language.specs.ExprRules.{seen}
use Rattle.c_language.specs.ProgramOf.{Told, told_step, expr_of, member_id, ctype_with}
use Rattle.c_language.specs.declared.expr_type.ExprType.{ExprType}
use Rattle.c_language.specs.declared.expr_type.Operand.{Operand}
use Rattle.c_language.proofs.SameStructs as texts
use Rattle.c_language.proofs.SameStructs.{select_member, select_pointed, of_operands, of_pointeds}
use Rattle.c_print_laws.proofs.Alike.{BothThere, place_there, found_there, position_same, pairwise_back}

-- ---- folds by steps that agree

module _ {A : Type 0} (f g : RawExpr-F A → A) (same : (y : RawExpr-F A) → f y ≡ g y) where
  abbrev ExprSame : RawExpr → Type 0
  ExprSame a = fold-RawExpr A f a ≡ fold-RawExpr A g a

  parts_same : (y : ExprParts ExprSame) → map-RawExpr RawExpr A (fold-RawExpr A f) (expr_layer ExprSame y) ≡ map-RawExpr RawExpr A (fold-RawExpr A g) (expr_layer ExprSame y)
  parts_same (RawExpr-F.Constant text) = refl
  parts_same RawExpr-F.Null = refl
  parts_same RawExpr-F.Eof = refl
  parts_same (RawExpr-F.Variable name) = refl
  parts_same (RawExpr-F.Unary op a) = ap (RawExpr-F.Unary op) a.1
  parts_same (RawExpr-F.Deref a) = ap RawExpr-F.Deref a.1
  parts_same (RawExpr-F.AddressOf a) = ap RawExpr-F.AddressOf a.1
  parts_same (RawExpr-F.Binary op a b) = ap₂ (RawExpr-F.Binary op) a.1 b.1
  parts_same (RawExpr-F.AndAlso a b) = ap₂ RawExpr-F.AndAlso a.1 b.1
  parts_same (RawExpr-F.OrElse a b) = ap₂ RawExpr-F.OrElse a.1 b.1
  parts_same (RawExpr-F.Choose c a b) = ap₂ (λ (x y : A). RawExpr-F.Choose x y (fold-RawExpr A f b.0)) c.1 a.1 ∙ ap (RawExpr-F.Choose (fold-RawExpr A g c.0) (fold-RawExpr A g a.0)) b.1
  parts_same (RawExpr-F.Cast i a) = ap (RawExpr-F.Cast i) a.1
  parts_same (RawExpr-F.Index a b) = ap₂ RawExpr-F.Index a.1 b.1
  parts_same (RawExpr-F.Member a m) = ap (λ (x : A). RawExpr-F.Member x m) a.1
  parts_same (RawExpr-F.Arrow a m) = ap (λ (x : A). RawExpr-F.Arrow x m) a.1
  parts_same (RawExpr-F.Paren a) = ap RawExpr-F.Paren a.1

  pub expr_folds_same : (a : RawExpr) → fold-RawExpr A f a ≡ fold-RawExpr A g a
  expr_folds_same = of_every_expr ExprSame (λ y.
      fold-roll-RawExpr A f (expr_layer ExprSame y) ∙ ap f (parts_same y) ∙ same (map-RawExpr RawExpr A (fold-RawExpr A g) (expr_layer ExprSame y))
      ∙ sym (fold-roll-RawExpr A g (expr_layer ExprSame y)))

-- ---- texts that resemble one another

pub record MembersAgree (a b : RawMember) : Type 0 where
  pub name : a.name ≡ b.name
  pub shape : a.shape ≡ b.shape

pub record StructsAgree (a b : StructText) : Type 0 where
  pub tag : a.tag ≡ b.tag
  pub members : AllZip MembersAgree a.members b.members

pub record ParamsAgree (a b : RawParam) : Type 0 where
  pub name : a.name ≡ b.name
  pub shape : a.shape ≡ b.shape

pub record HeadsAgree (a b : RawHead) : Type 0 where
  pub name : a.name ≡ b.name
  pub result : a.result ≡ b.result
  pub params : AllZip ParamsAgree a.params b.params

-- the texts have the same struct types, functions and headers, but for lines and lengths of parameters
pub record Resembles (raw other : RawProgram) : Type 0 where
  pub structs : AllZip StructsAgree (defined_structs raw) (defined_structs other)
  pub functions : AllZip HeadsAgree (defined_functions raw) (defined_functions other)
  pub stdio : has_stdio raw ≡ has_stdio other
  pub stdlib : has_stdlib raw ≡ has_stdlib other

pub heads_back : (a b : RawHead) → HeadsAgree a b → HeadsAgree b a
heads_back a b h = record { name = sym h.name; result = sym h.result; params = pairwise_back ParamsAgree ParamsAgree (λ x y k. record { name = sym k.name; shape = sym k.shape }) a.params b.params h.params }

pub members_back : (a b : RawMember) → MembersAgree a b → MembersAgree b a
members_back a b h = record { name = sym h.name; shape = sym h.shape }

pub resembles_back : (raw other : RawProgram) → Resembles raw other → Resembles other raw
resembles_back raw other h = record {
  structs = pairwise_back StructsAgree StructsAgree (λ a b k. record { tag = sym k.tag; members = pairwise_back MembersAgree MembersAgree members_back a.members b.members k.members }) (defined_structs raw) (defined_structs other) h.structs;
  functions = pairwise_back HeadsAgree HeadsAgree heads_back (defined_functions raw) (defined_functions other) h.functions;
  stdio = sym h.stdio;
  stdlib = sym h.stdlib;
}

module _ (raw other : RawProgram) (like : Resembles raw other) where
  pub struct_ids : (tag : Bytes) → struct_id raw tag ≡ struct_id other tag
  struct_ids tag = position_same StructsAgree (λ (s : StructText). bytes_eq s.tag tag) (λ (s : StructText). bytes_eq s.tag tag) (λ a b k. ap (λ (w : Bytes). bytes_eq w tag) k.tag) (defined_structs raw) (defined_structs other) like.structs

  pub function_ids : (name : Bytes) → function_id raw name ≡ function_id other name
  function_ids name = position_same HeadsAgree (λ (s : RawHead). bytes_eq s.name name) (λ (s : RawHead). bytes_eq s.name name) (λ a b k. ap (λ (w : Bytes). bytes_eq w name) k.name) (defined_functions raw) (defined_functions other) like.functions

  pub definitions_agree : (name : Bytes) → BothThere HeadsAgree (definition_of raw name) (definition_of other name)
  definitions_agree name = found_there HeadsAgree (λ (s : RawHead). bytes_eq s.name name) (λ (s : RawHead). bytes_eq s.name name) (λ a b k. ap (λ (w : Bytes). bytes_eq w name) k.name) (defined_functions raw) (defined_functions other) like.functions

  -- ---- types

  pub types_same : (items : ℕ) (a : RawType) → type_with raw items a ≡ type_with other items a
  types_same = texts.types_same raw other struct_ids

  pub ctypes_same : (items : ℕ) (a : RawType) → ctype_with raw items a ≡ ctype_with other items a
  ctypes_same = texts.ctypes_same raw other struct_ids

  -- ---- members

  members_found : (a b : Option StructText) (name : Bytes) → BothThere StructsAgree a b
      → BothThere MembersAgree (option_and_then (λ (d : StructText). member_named d.members name) a) (option_and_then (λ (d : StructText). member_named d.members name) b)
  members_found None None name h = tt
  members_found None (Some b) name h = absurd h
  members_found (Some a) None name h = absurd h
  members_found (Some a) (Some b) name h =
      found_there MembersAgree (λ (m : RawMember). bytes_eq m.name name) (λ (m : RawMember). bytes_eq m.name name) (λ x y k. ap (λ (w : Bytes). bytes_eq w name) k.name) a.members b.members h.members

  members_agree : (k : ℕ) (name : Bytes) → BothThere MembersAgree (member_of raw k name) (member_of other k name)
  members_agree k name = members_found (slice_get (defined_structs raw) k) (slice_get (defined_structs other) k) name (place_there StructsAgree (defined_structs raw) (defined_structs other) k like.structs)

  of_member : (a b : Option RawMember) → BothThere MembersAgree a b
      → option_and_then (λ (m : RawMember). written_type raw m.shape) a ≡ option_and_then (λ (m : RawMember). written_type other m.shape) b
  of_member None None h = refl
  of_member None (Some b) h = absurd h
  of_member (Some a) None h = absurd h
  of_member (Some a) (Some b) h = ap (written_type raw) h.shape ∙ types_same 0 b.shape

  none_of_member : (a b : Option RawMember) → BothThere MembersAgree a b → is_none a ≡ is_none b
  none_of_member None None h = refl
  none_of_member None (Some b) h = absurd h
  none_of_member (Some a) None h = absurd h
  none_of_member (Some a) (Some b) h = refl

  pub lacks_same : (k : ℕ) (name : Bytes) → is_none (member_of raw k name) ≡ is_none (member_of other k name)
  lacks_same k name = none_of_member (member_of raw k name) (member_of other k name) (members_agree k name)

  member_types : (scope : Scope) (name : Bytes) (k : ℕ) → member_type raw scope name k ≡ member_type other scope name k
  member_types scope name k = ap (λ (x : Option ExprType). if nat_lt k scope.structs then x else None) (of_member (member_of raw k name) (member_of other k name) (members_agree k name))

  selected_same : (scope : Scope) (name : Bytes) (s : Option ℕ) → option_and_then (member_type raw scope name) s ≡ option_and_then (member_type other scope name) s
  selected_same scope name None = refl
  selected_same scope name (Some k) = member_types scope name k

  index_in : (a b : Option StructText) (name : Bytes) → BothThere StructsAgree a b
      → option_and_then (λ (d : StructText). position (λ (m : RawMember). bytes_eq m.name name) d.members) a ≡ option_and_then (λ (d : StructText). position (λ (m : RawMember). bytes_eq m.name name) d.members) b
  index_in None None name h = refl
  index_in None (Some b) name h = absurd h
  index_in (Some a) None name h = absurd h
  index_in (Some a) (Some b) name h =
      position_same MembersAgree (λ (m : RawMember). bytes_eq m.name name) (λ (m : RawMember). bytes_eq m.name name) (λ x y k. ap (λ (w : Bytes). bytes_eq w name) k.name) a.members b.members h.members

  ids_same : (name : Bytes) (k : ℕ) → member_id raw name k ≡ member_id other name k
  ids_same name k = ap (option_map (λ (i : ℕ). record { owner = k; index = i })) (index_in (slice_get (defined_structs raw) k) (slice_get (defined_structs other) k) name (place_there StructsAgree (defined_structs raw) (defined_structs other) k like.structs))

  -- ---- expressions

  module _ (scope : Scope) where
    operand_steps : (y : RawExpr-F (Option Operand)) → operand_step raw scope y ≡ operand_step other scope y
    operand_steps (RawExpr-F.Constant text) = refl
    operand_steps RawExpr-F.Null = refl
    operand_steps RawExpr-F.Eof = refl
    operand_steps (RawExpr-F.Variable name) = refl
    operand_steps (RawExpr-F.Unary op a) = refl
    operand_steps (RawExpr-F.Deref a) = refl
    operand_steps (RawExpr-F.AddressOf a) = refl
    operand_steps (RawExpr-F.Binary op a b) = refl
    operand_steps (RawExpr-F.AndAlso a b) = refl
    operand_steps (RawExpr-F.OrElse a b) = refl
    operand_steps (RawExpr-F.Choose c a b) = refl
    operand_steps (RawExpr-F.Cast i a) = refl
    operand_steps (RawExpr-F.Index a b) = refl
    operand_steps (RawExpr-F.Member a m) = ap (option_map a_place) (select_member raw other scope scope (selected_same scope) m a)
    operand_steps (RawExpr-F.Arrow a m) = ap (option_map a_place) (select_pointed raw other scope scope (selected_same scope) m a)
    operand_steps (RawExpr-F.Paren a) = refl

    pub operands_same : (a : RawExpr) → operand raw scope a ≡ operand other scope a
    operands_same = expr_folds_same (operand_step raw scope) (operand_step other scope) operand_steps

    told_as : (a b : Option Operand) (x y : Option Expr) → a ≡ b → x ≡ y → ◌≡◌ {A = Told} (record { operand = a; tree = x }) (record { operand = b; tree = y })
    told_as a b x y h k = ap₂ (λ (p : Option Operand) (q : Option Expr). record { operand = p; tree = q }) h k

    told_steps : (y : RawExpr-F Told) → told_step raw scope y ≡ told_step other scope y
    told_steps (RawExpr-F.Constant text) = refl
    told_steps RawExpr-F.Null = refl
    told_steps RawExpr-F.Eof = refl
    told_steps (RawExpr-F.Variable name) = refl
    told_steps (RawExpr-F.Unary op a) = refl
    told_steps (RawExpr-F.Deref a) = refl
    told_steps (RawExpr-F.AddressOf a) = refl
    told_steps (RawExpr-F.Binary op a b) = refl
    told_steps (RawExpr-F.AndAlso a b) = refl
    told_steps (RawExpr-F.OrElse a b) = refl
    told_steps (RawExpr-F.Choose c a b) = refl
    told_steps (RawExpr-F.Cast i a) = refl
    told_steps (RawExpr-F.Index a b) = refl
    told_steps (RawExpr-F.Member a m) =
        told_as _ _ _ _ (operand_steps (RawExpr-F.Member a.operand m)) (ap (λ (k : Option MemberId). option_and_then (λ (x : Expr). option_map (e.Member x) k) a.tree) (of_operands raw other ids_same m a.operand))
    told_steps (RawExpr-F.Arrow a m) =
        told_as _ _ _ _ (operand_steps (RawExpr-F.Arrow a.operand m)) (ap (λ (k : Option MemberId). option_and_then (λ (x : Expr). option_map (e.Arrow x) k) a.tree) (of_pointeds raw other ids_same m a.operand))
    told_steps (RawExpr-F.Paren a) = refl

    pub exprs_same : (a : RawExpr) → expr_of raw scope a ≡ expr_of other scope a
    exprs_same a = ap (λ (x : Told). x.tree) (expr_folds_same (told_step raw scope) (told_step other scope) told_steps a)

    seen_in : (y : RawExpr-F RawExpr) → map-RawExpr RawExpr (Option Operand) (operand raw scope) y ≡ map-RawExpr RawExpr (Option Operand) (operand other scope) y
    seen_in (RawExpr-F.Constant text) = refl
    seen_in RawExpr-F.Null = refl
    seen_in RawExpr-F.Eof = refl
    seen_in (RawExpr-F.Variable name) = refl
    seen_in (RawExpr-F.Unary op a) = ap (RawExpr-F.Unary op) (operands_same a)
    seen_in (RawExpr-F.Deref a) = ap RawExpr-F.Deref (operands_same a)
    seen_in (RawExpr-F.AddressOf a) = ap RawExpr-F.AddressOf (operands_same a)
    seen_in (RawExpr-F.Binary op a b) = ap₂ (RawExpr-F.Binary op) (operands_same a) (operands_same b)
    seen_in (RawExpr-F.AndAlso a b) = ap₂ RawExpr-F.AndAlso (operands_same a) (operands_same b)
    seen_in (RawExpr-F.OrElse a b) = ap₂ RawExpr-F.OrElse (operands_same a) (operands_same b)
    seen_in (RawExpr-F.Choose c a b) = ap₂ (λ (x y : Option Operand). RawExpr-F.Choose x y (operand raw scope b)) (operands_same c) (operands_same a) ∙ ap (RawExpr-F.Choose (operand other scope c) (operand other scope a)) (operands_same b)
    seen_in (RawExpr-F.Cast i a) = ap (RawExpr-F.Cast i) (operands_same a)
    seen_in (RawExpr-F.Index a b) = ap₂ RawExpr-F.Index (operands_same a) (operands_same b)
    seen_in (RawExpr-F.Member a m) = ap (λ (x : Option Operand). RawExpr-F.Member x m) (operands_same a)
    seen_in (RawExpr-F.Arrow a m) = ap (λ (x : Option Operand). RawExpr-F.Arrow x m) (operands_same a)
    seen_in (RawExpr-F.Paren a) = ap RawExpr-F.Paren (operands_same a)

    pub seen_same : (a : RawExpr) → seen raw scope a ≡ seen other scope a
    seen_same a = seen_in (out-RawExpr a)
