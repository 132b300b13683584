-- An expression in which no rule is broken is an operand, where each name in scope has a type.
use Rattle.std.proofs.Common.{◌≡◌, ℕ, [], ◌∷◌, Bool, true, false, Option, Some, None, sym, ap, subst, true≢false}
use Rattle.std.specs.Prelude.{Contains, not, nat_lt, is_none, option_and_then, if◌then◌else◌}
use Rattle.c_tree.specs.declared.raw.expr.RawExpr.{RawExpr, map-RawExpr, roll-RawExpr, fold-roll-RawExpr}
use Rattle.c_tree.specs.declared.raw.expr.RawExpr.TheOpen.{RawExpr-F}
use Rattle.c_tree.specs.declared.raw.expr.RawExpr.TheViews.{out-roll-RawExpr}
use Rattle.c_tree.specs.declared.raw.program.RawMember.{RawMember}
use Rattle.c_tree.specs.declared.raw.program.RawProgram.{RawProgram}
use Rattle.c_tree.proofs.RawTrees.{ExprParts, expr_layer, of_every_expr}
use Rattle.c_language.specs.Words.{Bytes}
use Rattle.c_language.specs.DeclaredTypes.{written_type}
use Rattle.c_language.specs.Scopes.{Scope, Meaning, meaning_in}
use Rattle.c_language.specs.ExprTypes.{operand, operand_step, a_place, variable_in, member_of, member_type}
use Rattle.c_language.specs.ExprRules.{Seen, holds_of, is_function}
use Rattle.c_language.specs.Uses.{operands_of, whole, deeper}
use Rattle.c_language.specs.declared.expr_type.Operand.{Operand}
use Rattle.c_language.proofs.Options.{there_map}
use Rattle.c_language.proofs.Lists.{contains_first, contains_later}
use Rattle.c_language.proofs.UseLemmas.{OfParts}
use Rattle.c_language.proofs.Operands.{IsClean, form_there, HasTypeIf, AreClean}
use Rattle.c_language.specs.Options.{IsThere}

-- a layer has a fact about what each of its operands comes to, where what the fact asks of an expression is true of the operands
pub parts_of : {B : Type 0} (f : RawExpr → B) (P : B → Type 0) (Q : RawExpr → Type 0) (y : ExprParts (λ a. Q a → P (f a)))
    → ((m : RawExpr) → Contains (operands_of (expr_layer (λ a. Q a → P (f a)) y)) m → Q m) → OfParts P (map-RawExpr RawExpr B f (expr_layer (λ a. Q a → P (f a)) y))
parts_of f P Q (RawExpr-F.Constant text) keeps = tt
parts_of f P Q RawExpr-F.Null keeps = tt
parts_of f P Q RawExpr-F.Eof keeps = tt
parts_of f P Q (RawExpr-F.Variable name) keeps = tt
parts_of f P Q (RawExpr-F.Unary op a) keeps = a.1 (keeps a.0 (contains_first a.0 []))
parts_of f P Q (RawExpr-F.Deref a) keeps = a.1 (keeps a.0 (contains_first a.0 []))
parts_of f P Q (RawExpr-F.AddressOf a) keeps = a.1 (keeps a.0 (contains_first a.0 []))
parts_of f P Q (RawExpr-F.Binary op a b) keeps = (a.1 (keeps a.0 (contains_first a.0 (b.0 ∷ []))), b.1 (keeps b.0 (contains_later a.0 b.0 (b.0 ∷ []) (contains_first b.0 []))))
parts_of f P Q (RawExpr-F.AndAlso a b) keeps = (a.1 (keeps a.0 (contains_first a.0 (b.0 ∷ []))), b.1 (keeps b.0 (contains_later a.0 b.0 (b.0 ∷ []) (contains_first b.0 []))))
parts_of f P Q (RawExpr-F.OrElse a b) keeps = (a.1 (keeps a.0 (contains_first a.0 (b.0 ∷ []))), b.1 (keeps b.0 (contains_later a.0 b.0 (b.0 ∷ []) (contains_first b.0 []))))
parts_of f P Q (RawExpr-F.Choose c a b) keeps = (
  c.1 (keeps c.0 (contains_first c.0 (a.0 ∷ b.0 ∷ []))),
  a.1 (keeps a.0 (contains_later c.0 a.0 (a.0 ∷ b.0 ∷ []) (contains_first a.0 (b.0 ∷ [])))),
  b.1 (keeps b.0 (contains_later c.0 b.0 (a.0 ∷ b.0 ∷ []) (contains_later a.0 b.0 (b.0 ∷ []) (contains_first b.0 [])))),
)
parts_of f P Q (RawExpr-F.Cast t a) keeps = a.1 (keeps a.0 (contains_first a.0 []))
parts_of f P Q (RawExpr-F.Index a b) keeps = (a.1 (keeps a.0 (contains_first a.0 (b.0 ∷ []))), b.1 (keeps b.0 (contains_later a.0 b.0 (b.0 ∷ []) (contains_first b.0 []))))
parts_of f P Q (RawExpr-F.Member a m) keeps = a.1 (keeps a.0 (contains_first a.0 []))
parts_of f P Q (RawExpr-F.Arrow a m) keeps = a.1 (keeps a.0 (contains_first a.0 []))
parts_of f P Q (RawExpr-F.Paren a) keeps = a.1 (keeps a.0 (contains_first a.0 []))

module _ (raw : RawProgram) (scope : Scope) where
  abbrev seen_layer : RawExpr-F RawExpr → Seen
  seen_layer = map-RawExpr RawExpr (Option Operand) (operand raw scope)

  -- the operands of a layer break no rule either
  pub operands_keep : (layer : RawExpr-F RawExpr) → AreClean raw scope (roll-RawExpr layer) → (m : RawExpr) → Contains (operands_of layer) m → AreClean raw scope m
  operands_keep layer keeps m c i w = keeps i (deeper (subst (λ z. Contains (operands_of z) m) (sym (out-roll-RawExpr layer)) c) w)

  -- and the layer is clean
  pub layer_clean : (layer : RawExpr-F RawExpr) → AreClean raw scope (roll-RawExpr layer) → IsClean raw scope (seen_layer layer)
  layer_clean layer keeps = subst (IsClean raw scope) (ap seen_layer (out-roll-RawExpr layer)) (keeps (roll-RawExpr layer) whole)

abbrev pub IsTypedIf : RawProgram → Option RawMember → Type 0
IsTypedIf raw None = Unit {0}
IsTypedIf raw (Some m) = IsThere (written_type raw m.shape)

variable_there : (m : Option Meaning) → HasTypeIf m → is_none m ≡ false → is_function m ≡ false → IsThere (variable_in m)
variable_there None h none other = true≢false none
variable_there (Some (Meaning.Variable id t)) h none other = there_map a_place t h
variable_there (Some Meaning.Function) h none other = true≢false other

module _ (raw : RawProgram) (scope : Scope) (complete : (s : ℕ) (name : Bytes) → IsTypedIf raw (member_of raw s name)) (typed : (name : Bytes) → HasTypeIf (meaning_in scope name)) where
  found_member : (m : Option RawMember) → IsTypedIf raw m → is_none m ≡ false → IsThere (option_and_then (λ (m : RawMember). written_type raw m.shape) m)
  found_member None h none = true≢false none
  found_member (Some m) h none = h

  known_type : (b : Bool) (m : Option RawMember) → IsTypedIf raw m → not b ≡ false → is_none m ≡ false
      → IsThere (if b then option_and_then (λ (m : RawMember). written_type raw m.shape) m else None)
  known_type true m h isnt none = found_member m h none
  known_type false m h isnt none = true≢false isnt

  -- a member that a complete struct type has
  in_struct : (name : Bytes) (s : Option ℕ) → IsThere s → holds_of (λ (k : ℕ). not (nat_lt k scope.structs)) s ≡ false
      → holds_of (λ (k : ℕ). is_none (member_of raw k name)) s ≡ false → IsThere (option_and_then (member_type raw scope name) s)
  in_struct name None h before has = absurd h
  in_struct name (Some s) h before has = known_type (nat_lt s scope.structs) (member_of raw s name) (complete s name) before has

  abbrev IsOperand : RawExpr → Type 0
  IsOperand a = AreClean raw scope a → IsThere (operand raw scope a)

  pub operand_there : (a : RawExpr) → IsOperand a
  operand_there = of_every_expr IsOperand (λ y keeps.
      let l = expr_layer IsOperand y in
      subst IsThere (sym (fold-roll-RawExpr (Option Operand) (operand_step raw scope) l))
      (form_there raw scope (λ name. variable_there (meaning_in scope name) (typed name)) in_struct (seen_layer raw scope l)
      (parts_of (operand raw scope) IsThere (AreClean raw scope) y (operands_keep raw scope l keeps)) (layer_clean raw scope l keeps)))
