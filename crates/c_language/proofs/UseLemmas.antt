-- What stands in a type, a constant, arguments and labels: tags, lengths, expressions.
use Rattle.std.proofs.Common.{◌≡◌, List, [], ◌∷◌, ◌++◌, Some, inl, inr, sym, ap, subst, ◌∙◌, arith}
use Rattle.std.specs.Prelude.{Contains}
use Rattle.c_arith.specs.declared.int_type.IntType.{IntType}
use Rattle.c_tree.specs.declared.raw.expr.RawExpr.{RawExpr, out-RawExpr}
use Rattle.c_tree.specs.declared.raw.expr.RawExpr.TheOpen.{RawExpr-F}
use Rattle.c_tree.specs.declared.raw.expr.RawExpr.TheViews.{out-roll-RawExpr}
use Rattle.c_tree.specs.declared.raw.expr.RawExpr.TheVariants as e
use Rattle.c_tree.specs.declared.raw.expr.RawLength.{RawLength}
use Rattle.c_tree.specs.declared.raw.expr.RawType.{RawType, roll-RawType, map-RawType, fold-roll-RawType}
use Rattle.c_tree.specs.declared.raw.expr.RawType.TheOpen.{RawType-F}
use Rattle.c_tree.specs.declared.raw.expr.RawType.TheVariants as type
use Rattle.c_tree.specs.declared.raw.statement.RawArg.{RawArg}
use Rattle.c_tree.specs.declared.raw.statement.RawArg.TheVariants as arg
use Rattle.c_tree.specs.declared.raw.statement.RawLabel.{RawLabel}
use Rattle.c_tree.specs.declared.raw.statement.RawLabel.TheVariants as label
use Rattle.c_language.specs.Words.{Bytes}
use Rattle.c_language.specs.Uses.{operands_of, operands, IsWithin, whole, deeper, written_lengths, lengths_step, lengths_in, tags_step, tags_in, arg_exprs, cases}
use Rattle.c_language.specs.CallRules.{only_arg, later_args}
use Rattle.c_language.proofs.Lists.{contains_nil, contains_cons, contains_first, contains_later}
use Rattle.c_language.proofs.Options.{none_there, some_same}

-- ---- types

pub lengths-Integer : (t : IntType) → lengths_in (type.Integer t) ≡ []
lengths-Integer t = ap lengths_in (sym (type.rolls-Integer t)) ∙ fold-roll-RawType (List RawExpr) lengths_step (RawType-F.Integer t)

pub lengths-PointerTo : (a : RawType) → lengths_in (type.PointerTo a) ≡ lengths_in a
lengths-PointerTo a = ap lengths_in (sym (type.rolls-PointerTo a)) ∙ fold-roll-RawType (List RawExpr) lengths_step (RawType-F.PointerTo a)

pub lengths-Array : (a : RawType) (n : RawLength) → lengths_in (type.Array a n) ≡ written_lengths n ++ lengths_in a
lengths-Array a n = ap lengths_in (sym (type.rolls-Array a n)) ∙ fold-roll-RawType (List RawExpr) lengths_step (RawType-F.Array a n)

pub lengths-Struct : (tag : Bytes) → lengths_in (type.Struct tag) ≡ []
lengths-Struct tag = ap lengths_in (sym (type.rolls-Struct tag)) ∙ fold-roll-RawType (List RawExpr) lengths_step (RawType-F.Struct tag)

pub lengths-roll : (layer : RawType-F RawType) → lengths_in (roll-RawType layer) ≡ lengths_step (map-RawType RawType (List RawExpr) lengths_in layer)
lengths-roll layer = fold-roll-RawType (List RawExpr) lengths_step layer

pub tags-Integer : (t : IntType) → tags_in (type.Integer t) ≡ []
tags-Integer t = ap tags_in (sym (type.rolls-Integer t)) ∙ fold-roll-RawType (List Bytes) tags_step (RawType-F.Integer t)

pub tags-PointerTo : (a : RawType) → tags_in (type.PointerTo a) ≡ tags_in a
tags-PointerTo a = ap tags_in (sym (type.rolls-PointerTo a)) ∙ fold-roll-RawType (List Bytes) tags_step (RawType-F.PointerTo a)

pub tags-Array : (a : RawType) (n : RawLength) → tags_in (type.Array a n) ≡ tags_in a
tags-Array a n = ap tags_in (sym (type.rolls-Array a n)) ∙ fold-roll-RawType (List Bytes) tags_step (RawType-F.Array a n)

pub tags-Struct : (tag : Bytes) → tags_in (type.Struct tag) ≡ tag ∷ []
tags-Struct tag = ap tags_in (sym (type.rolls-Struct tag)) ∙ fold-roll-RawType (List Bytes) tags_step (RawType-F.Struct tag)

pub tags-roll : (layer : RawType-F RawType) → tags_in (roll-RawType layer) ≡ tags_step (map-RawType RawType (List Bytes) tags_in layer)
tags-roll layer = fold-roll-RawType (List Bytes) tags_step layer

-- ---- expressions

-- a fact about each operand of a form
abbrev pub OfParts : {A : Type 0} → (A → Type 0) → RawExpr-F A → Type 0
OfParts P (RawExpr-F.Constant text) = Unit {0}
OfParts P RawExpr-F.Null = Unit {0}
OfParts P RawExpr-F.Eof = Unit {0}
OfParts P (RawExpr-F.Variable name) = Unit {0}
OfParts P (RawExpr-F.Unary op a) = P a
OfParts P (RawExpr-F.Deref a) = P a
OfParts P (RawExpr-F.AddressOf a) = P a
OfParts P (RawExpr-F.Binary op a b) = P a × P b
OfParts P (RawExpr-F.AndAlso a b) = P a × P b
OfParts P (RawExpr-F.OrElse a b) = P a × P b
OfParts P (RawExpr-F.Choose c a b) = P c × P a × P b
OfParts P (RawExpr-F.Cast t a) = P a
OfParts P (RawExpr-F.Index a i) = P a × P i
OfParts P (RawExpr-F.Member a m) = P a
OfParts P (RawExpr-F.Arrow a m) = P a
OfParts P (RawExpr-F.Paren a) = P a

pub out-Constant : (text : Bytes) → out-RawExpr (e.Constant text) ≡ RawExpr-F.Constant text
out-Constant text = ap out-RawExpr (sym (e.rolls-Constant text)) ∙ out-roll-RawExpr (RawExpr-F.Constant text)

-- a constant is its only part
pub only_part : (a inner : RawExpr) (text : Bytes) → a ≡ e.Constant text → IsWithin inner a → inner ≡ e.Constant text
only_part a inner text is whole = is
only_part a inner text is (deeper {middle = m} c w) = absurd (no_part (subst (λ (x : RawExpr). Contains (operands x) m) is c))
  where
    no_part : Contains (operands (e.Constant text)) m → ⊥
    no_part c = let k = subst (λ (y : RawExpr-F RawExpr). Contains (operands_of y) m) (out-Constant text) c in omega (arith, k.1)

-- ---- arguments and labels

-- the only argument is one of them
pub only_in : (args : List RawArg) (a : RawExpr) → only_arg args ≡ Some a → Contains (arg_exprs args) a
only_in [] a h = none_there h
only_in (arg.Value x ∷ []) a h = subst (λ (y : RawExpr). Contains (x ∷ []) y) (some_same h) (contains_first x [])
only_in (arg.Literal text ∷ []) a h = none_there h
only_in (x ∷ (y ∷ rest)) a h = none_there h

-- an argument behind the first is one of them
pub later_in : (args : List RawArg) (m : RawExpr) → Contains (arg_exprs (later_args args)) m → Contains (arg_exprs args) m
later_in [] m c = c
later_in (arg.Value e ∷ rest) m c = contains_later e m (arg_exprs rest) c
later_in (arg.Literal text ∷ rest) m c = c

-- the expression of a case is one of those of the labels
pub case_among : (ls : List RawLabel) (a : RawExpr) → Contains ls (label.Case a) → Contains (cases ls) a
case_among [] a c = absurd (contains_nil (label.Case a) c)
case_among (label.Case b ∷ ls) a c = elim (contains_cons (label.Case b) (label.Case a) ls c) [
  | inl is ↦ subst (λ z. Contains (cases (z ∷ ls)) a) (sym is) (contains_first a (cases ls))
  | inr d ↦ contains_later b a (cases ls) (case_among ls a d)
]
case_among (label.Default ∷ ls) a c = elim (contains_cons label.Default (label.Case a) ls c) [
  | inl is ↦ absurd (cc is)
  | inr d ↦ case_among ls a d
]
