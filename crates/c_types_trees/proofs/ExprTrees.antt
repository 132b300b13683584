-- An expression in which no rule is broken is an operand, and has its tree.
use Rattle.std.proofs.Common.{◌≡◌, ℕ, false, Option, Some, None, sym, subst, true≢false}
use Rattle.std.specs.Prelude.{is_none, option_and_then, slice_get, bytes_eq}
use Rattle.std.specs.List.{position}
use Rattle.c_tree.specs.declared.expr.Expr.TheVariants as e
use Rattle.c_tree.specs.declared.raw.expr.RawExpr.{RawExpr, map-RawExpr, roll-RawExpr, fold-roll-RawExpr}
use Rattle.c_tree.specs.declared.raw.expr.RawExpr.TheOpen.{RawExpr-F}
use Rattle.c_tree.specs.declared.raw.program.RawMember.{RawMember}
use Rattle.c_tree.specs.declared.raw.program.RawProgram.{RawProgram}
use Rattle.c_tree.proofs.RawTrees.{expr_layer, of_every_expr}
use Rattle.c_language.specs.Words.{Bytes}
use Rattle.c_language.specs.DeclaredTypes.{StructText, defined_structs}
use Rattle.c_language.specs.Scopes.{Scope, Meaning, meaning_in}
use Rattle.c_language.specs.ExprTypes.{operand, pointed, struct_of, member_named, member_of}
use Rattle.c_language.specs.ExprRules.{Seen, holds_of, is_function, lacks_member}
use Rattle.c_language.specs.ProgramOf.{Told, told_step, told_of, variable_number, index_of_member, member_id, of_operand, of_pointed, expr_of}
use Rattle.c_language.specs.declared.expr_type.ExprType.{ExprType}
use Rattle.c_language.specs.declared.expr_type.Operand.{Operand}
use Rattle.c_language.proofs.Options.{there_map}
use Rattle.c_language.proofs.UseLemmas.{OfParts}
use Rattle.c_types_base.proofs.TreeLemmas.{told-operand}
use Rattle.c_types_base.proofs.OptionLemmas.{there_none, there_then, there_both, there_position}
use Rattle.c_types_trees.proofs.ScopeLemmas.{IsTyped, typed_meaning, IsMadeIf, AreComplete, made_member}
use Rattle.c_language.proofs.CleanOperands as laws
use Rattle.c_language.proofs.CleanOperands.{IsTypedIf, parts_of, operands_keep, layer_clean}
use Rattle.c_language.proofs.Operands.{not_fails, IsClean, AreClean}
use Rattle.c_language.specs.Options.{IsThere}

-- a variable that is in scope has a number
number_there : (m : Option Meaning) → is_none m ≡ false → is_function m ≡ false → IsThere (variable_number m)
number_there None none other = true≢false none
number_there (Some (Meaning.Variable id t)) none other = tt
number_there (Some Meaning.Function) none other = true≢false other

typed_if : (raw : RawProgram) (m : Option RawMember) → IsMadeIf raw m → IsTypedIf raw m
typed_if raw None h = tt
typed_if raw (Some m) h = h.typed

module _ (raw : RawProgram) (scope : Scope) (complete : AreComplete raw (defined_structs raw)) (typed : IsTyped scope) where
  pub operand_there : (a : RawExpr) → AreClean raw scope a → IsThere (operand raw scope a)
  operand_there =
      laws.operand_there raw scope (λ s name. typed_if raw (member_of raw s name) (made_member raw s name complete)) (λ name. typed_meaning scope name typed)

  listed : (name : Bytes) (d : Option StructText) → is_none (option_and_then (λ (d : StructText). member_named d.members name) d) ≡ false
      → IsThere (option_and_then (λ (d : StructText). position (λ (m : RawMember). bytes_eq m.name name) d.members) d)
  listed name None none = absurd (true≢false none)
  listed name (Some d) none = there_position (λ (m : RawMember). bytes_eq m.name name) d.members (there_none (member_named d.members name) none)

  -- the member that is selected has a number
  id_there : (name : Bytes) (s : Option ℕ) → IsThere s → holds_of (λ (k : ℕ). is_none (member_of raw k name)) s ≡ false → IsThere (option_and_then (member_id raw name) s)
  id_there name None h has = absurd h
  id_there name (Some s) h has = there_map (λ (i : ℕ). record { owner = s; index = i }) (index_of_member raw name s) (listed name (slice_get (defined_structs raw) s) has)

  at_target : (name : Bytes) (t : Option ExprType) → IsThere (option_and_then struct_of t) → holds_of (lacks_member raw name) t ≡ false
      → IsThere (option_and_then (λ (t : ExprType). option_and_then (member_id raw name) (struct_of t)) t)
  at_target name None h has = absurd h
  at_target name (Some t) h has = id_there name (struct_of t) h has

  of_operand_there : (m : Bytes) (x : Option Operand) → IsThere x → IsClean raw scope (RawExpr-F.Member x m) → IsThere (of_operand raw m x)
  of_operand_there m None h clean = absurd h
  of_operand_there m (Some x) h clean = id_there m (struct_of x.shape) (not_fails _ clean.operands) clean.member

  of_pointed_there : (m : Bytes) (x : Option Operand) → IsThere x → IsClean raw scope (RawExpr-F.Arrow x m) → IsThere (of_pointed raw m x)
  of_pointed_there m None h clean = absurd h
  of_pointed_there m (Some x) h clean = at_target m (pointed x) (not_fails _ clean.operands) clean.member

  abbrev IsWhole : Told → Type 0
  IsWhole t = IsThere t.operand × IsThere t.tree

  abbrev told_layer : RawExpr-F RawExpr → RawExpr-F Told
  told_layer = map-RawExpr RawExpr Told (told_of raw scope)

  abbrev seen_layer : RawExpr-F RawExpr → Seen
  seen_layer = map-RawExpr RawExpr (Option Operand) (operand raw scope)

  as_told : (form : Option Operand → Seen) (a : RawExpr) → IsClean raw scope (form (operand raw scope a)) → IsClean raw scope (form (told_of raw scope a).operand)
  as_told form a clean = subst (λ o. IsClean raw scope (form o)) (sym (told-operand raw scope a)) clean

  -- a layer that breaks no rule has its tree, where its operands have theirs
  tree_there : (l : RawExpr-F RawExpr) → OfParts IsWhole (told_layer l) → IsClean raw scope (seen_layer l) → IsThere (told_step raw scope (told_layer l)).tree
  tree_there (RawExpr-F.Constant text) parts clean = tt
  tree_there RawExpr-F.Null parts clean = tt
  tree_there RawExpr-F.Eof parts clean = tt
  tree_there (RawExpr-F.Variable name) parts clean =
      there_map e.Variable (variable_number (meaning_in scope name)) (number_there (meaning_in scope name) clean.declared clean.operands)
  tree_there (RawExpr-F.Unary op a) parts clean = there_map (e.Unary op) (expr_of raw scope a) parts.1
  tree_there (RawExpr-F.Deref a) parts clean = there_map e.Deref (expr_of raw scope a) parts.1
  tree_there (RawExpr-F.AddressOf a) parts clean = there_map e.AddressOf (expr_of raw scope a) parts.1
  tree_there (RawExpr-F.Binary op a b) parts clean = there_both (e.Binary op) (expr_of raw scope a) (expr_of raw scope b) parts.0.1 parts.1.1
  tree_there (RawExpr-F.AndAlso a b) parts clean = there_both e.AndAlso (expr_of raw scope a) (expr_of raw scope b) parts.0.1 parts.1.1
  tree_there (RawExpr-F.OrElse a b) parts clean = there_both e.OrElse (expr_of raw scope a) (expr_of raw scope b) parts.0.1 parts.1.1
  tree_there (RawExpr-F.Choose c a b) parts clean = there_then _ (expr_of raw scope c) parts.0.1 (λ x is. there_both (e.Choose x) (expr_of raw scope a) (expr_of raw scope b) parts.1.1 parts.2.1)
  tree_there (RawExpr-F.Cast t a) parts clean = there_map (e.Cast t) (expr_of raw scope a) parts.1
  tree_there (RawExpr-F.Index a i) parts clean = there_both e.Index (expr_of raw scope a) (expr_of raw scope i) parts.0.1 parts.1.1
  tree_there (RawExpr-F.Member a m) parts clean =
      there_then _ (expr_of raw scope a) parts.1 (λ x is. there_map (e.Member x) (of_operand raw m (told_of raw scope a).operand)
      (of_operand_there m (told_of raw scope a).operand parts.0 (as_told (λ o. RawExpr-F.Member o m) a clean)))
  tree_there (RawExpr-F.Arrow a m) parts clean =
      there_then _ (expr_of raw scope a) parts.1 (λ x is. there_map (e.Arrow x) (of_pointed raw m (told_of raw scope a).operand)
      (of_pointed_there m (told_of raw scope a).operand parts.0 (as_told (λ o. RawExpr-F.Arrow o m) a clean)))
  tree_there (RawExpr-F.Paren a) parts clean = there_map e.Paren (expr_of raw scope a) parts.1

  -- ---- all of an expression

  abbrev IsSound : RawExpr → Type 0
  IsSound a = AreClean raw scope a → IsWhole (told_of raw scope a)

  sound : (a : RawExpr) → IsSound a
  sound = of_every_expr IsSound (λ y keeps.
      let l = expr_layer IsSound y in (
        subst IsThere (sym (told-operand raw scope (roll-RawExpr l))) (operand_there (roll-RawExpr l) keeps),
        subst (λ (t : Told). IsThere t.tree) (sym (fold-roll-RawExpr Told (told_step raw scope) l))
            (tree_there l (parts_of (told_of raw scope) IsWhole (AreClean raw scope) y (operands_keep raw scope l keeps)) (layer_clean raw scope l keeps)),
      ))

  pub expr_there : (a : RawExpr) → AreClean raw scope a → IsThere (expr_of raw scope a)
  expr_there a keeps = (sound a keeps).1
