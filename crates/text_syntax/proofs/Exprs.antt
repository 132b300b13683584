-- Expressions, types and declarators of tokens are syntax.
use Rattle.std.proofs.Common.{◌≡◌, ℕ, ◌+◌, ◌≤◌, List, Bool, true, false, not, refl, sym, ap, ◌∙◌}
use Rattle.std.specs.List.{list_all}
use Rattle.std.proofs.lemmas.Bool.{and_from, or_left, or_right}
use Rattle.c_tree.specs.declared.raw.expr.RawExpr.{RawExpr}
use Rattle.c_tree.specs.declared.raw.expr.RawExpr.TheOpen.{RawExpr-F}
use Rattle.c_tree.specs.declared.raw.expr.RawExpr.TheVariants as e
use Rattle.c_tree.specs.declared.raw.expr.RawLength.TheVariants.{Written, Listed}
use Rattle.c_tree.specs.declared.raw.expr.RawType.{RawType, fold-roll-RawType}
use Rattle.c_tree.specs.declared.raw.expr.RawType.TheOpen.{RawType-F}
use Rattle.c_tree.specs.declared.raw.expr.RawType.TheVariants as type
use Rattle.c_tree.specs.declared.raw.expr.RawVar.{RawVar}
use Rattle.c_tree.specs.declared.raw.statement.RawTypeName.{RawTypeName}
use Rattle.c_language.specs.Words.{Bytes}
use Rattle.c_language.specs.TokenForms.{Tokens}
use Rattle.c_language.specs.Spellings.{is_number, is_character, is_used_name, is_own_name, is_name}
use Rattle.c_language.specs.Sees.{is_keyword}
use Rattle.c_language.specs.ExprGrammar.{IsExpr, level, unary_level, cast_level, postfix_level, joint, applied, selected}
use Rattle.c_language.specs.TypeGrammar.{IsBase, IsStars, IsTypeName, NamesType, IsLengths, IsOuterLengths, IsDeclarator, listed_step, is_listed}
use Rattle.c_language.specs.StatementGrammar.{IsList}
use Rattle.c_language.specs.Syntax.{is_there, binds, is_expr, Extent, bare, starred, sized, listed, takes_stars, takes_lengths, reaches, is_declared, is_type_name}
use Rattle.c_language.specs.declared.operators.Infix.{Infix}
use Rattle.c_language.specs.declared.operators.Infix.TheVariants.{Strict, AndAlso, OrElse}
use Rattle.c_language.specs.declared.operators.Prefix.{Prefix}
use Rattle.c_language.specs.declared.operators.Prefix.TheVariants.{Sign, Deref, AddressOf}
use Rattle.c_language.specs.declared.operators.Selector.{Selector}
use Rattle.c_language.specs.declared.operators.Selector.TheVariants.{Dot, Arrow}
use Rattle.c_language.proofs.Tests.{false_true}
use Rattle.text_syntax.proofs.CalmTokens.{AreCalm, done, more, calm_then, expr_calm, int_calm}
use Rattle.text_syntax.proofs.Spelled.{AreSpelled, calm_rest}
use Rattle.text_syntax.proofs.Forms.{at_most, expr_by, type_by}

-- ---- expressions

applied_is : (op : Prefix) (n : ℕ) (a : RawExpr) → n ≤ unary_level → binds a cast_level ≡ true → binds (applied op a) n ≡ true
applied_is (Sign op) n a p h = expr_by n (RawExpr-F.Unary op a) (e.rolls-Unary op a) (and_from _ _ (at_most p) h)
applied_is Deref n a p h = expr_by n (RawExpr-F.Deref a) (e.rolls-Deref a) (and_from _ _ (at_most p) h)
applied_is AddressOf n a p h = expr_by n (RawExpr-F.AddressOf a) (e.rolls-AddressOf a) (and_from _ _ (at_most p) h)

joint_is : (op : Infix) (n : ℕ) (a b : RawExpr) → n ≤ level op → binds a (level op) ≡ true → binds b (level op + 1) ≡ true → binds (joint op a b) n ≡ true
joint_is (Strict op) n a b p h k = expr_by n (RawExpr-F.Binary op a b) (e.rolls-Binary op a b) (and_from _ _ (at_most p) (and_from _ _ h k))
joint_is AndAlso n a b p h k = expr_by n (RawExpr-F.AndAlso a b) (e.rolls-AndAlso a b) (and_from _ _ (at_most p) (and_from _ _ h k))
joint_is OrElse n a b p h k = expr_by n (RawExpr-F.OrElse a b) (e.rolls-OrElse a b) (and_from _ _ (at_most p) (and_from _ _ h k))

selected_is : (by : Selector) (n : ℕ) (a : RawExpr) (m : Bytes) → n ≤ postfix_level → binds a postfix_level ≡ true → is_used_name m ≡ true → binds (selected by a m) n ≡ true
selected_is Dot n a m p h k = expr_by n (RawExpr-F.Member a m) (e.rolls-Member a m) (and_from _ _ (at_most p) (and_from _ _ h k))
selected_is Arrow n a m p h k = expr_by n (RawExpr-F.Arrow a m) (e.rolls-Arrow a m) (and_from _ _ (at_most p) (and_from _ _ h k))

pub expr_is : {n : ℕ} {ts rest : Tokens} {a : RawExpr} → IsExpr n ts a rest → AreSpelled ts → binds a n ≡ true
expr_is (IsExpr.number_constant {n} {text}) w = expr_by n (RawExpr-F.Constant text) (e.rolls-Constant text) (or_left (is_number text) (is_character text) w.0)
expr_is (IsExpr.character_constant {n} {text}) w = expr_by n (RawExpr-F.Constant text) (e.rolls-Constant text) (or_right (is_number text) (is_character text) w.0)
expr_is (IsExpr.null {n}) w = expr_by n RawExpr-F.Null e.rolls-Null refl
expr_is (IsExpr.eof {n}) w = expr_by n RawExpr-F.Eof e.rolls-Eof refl
expr_is (IsExpr.variable {n} {text} h) w = expr_by n (RawExpr-F.Variable text) (e.rolls-Variable text) (and_from _ _ w.0 h)
expr_is (IsExpr.paren {n} {a} h) w = expr_by n (RawExpr-F.Paren a) (e.rolls-Paren a) (expr_is h w.1)
expr_is (IsExpr.index {n} {a} {i} p h k) w = expr_by n (RawExpr-F.Index a i) (e.rolls-Index a i) (and_from _ _ (at_most p) (and_from _ _ (expr_is h w) (expr_is k (calm_rest (expr_calm h) w).1)))
expr_is (IsExpr.member {n} {a} {text} by p h k) w = selected_is by n a text p (expr_is h w) (and_from _ _ (calm_rest (expr_calm h) w).1.0 k)
expr_is (IsExpr.unary {n} {a} op p h) w = applied_is op n a p (expr_is h w.1)
expr_is (IsExpr.cast {n} {t} {a} p h k) w = expr_by n (RawExpr-F.Cast t a) (e.rolls-Cast t a) (and_from _ _ (at_most p) (expr_is k (calm_rest (int_calm h) w.1).1))
expr_is (IsExpr.binary {n} {a} {b} op p h k) w = joint_is op n a b p (expr_is h w) (expr_is k (calm_rest (expr_calm h) w).1)
expr_is (IsExpr.choose {n} {c} {a} {b} p h k j) w =
    let x = calm_rest (expr_calm h) w in
    expr_by n (RawExpr-F.Choose c a b) (e.rolls-Choose c a b) (and_from _ _ (at_most p) (and_from _ _ (expr_is h w) (and_from _ _ (expr_is k x.1) (expr_is j (calm_rest (expr_calm k) x.1).1))))

-- a list of initialisers with at least one
pub list_is : {ts rest : Tokens} {all : List RawExpr} → IsList ts all rest → AreSpelled ts → (is_there all ≡ true) × (list_all is_expr all ≡ true)
list_is (IsList.last h) w = (refl, and_from _ _ (expr_is h w) refl)
list_is (IsList.trailing h) w = (refl, and_from _ _ (expr_is h w) refl)
list_is (IsList.more h k) w = (refl, and_from _ _ (expr_is h w) (list_is k (calm_rest (expr_calm h) w).1).1)

-- ---- types and declarators

pub own_name : (w : Bytes) → is_name w ≡ true → is_keyword w ≡ false → is_own_name w ≡ true
own_name w h k = and_from _ _ h (ap not k)

pub base_is : {ts rest : Tokens} {a : RawType} → IsBase ts a rest → AreSpelled ts → (x : Extent) → reaches a x ≡ true
base_is (IsBase.structure {tag} key) w x = type_by x (RawType-F.Struct tag) (type.rolls-Struct tag) (own_name tag w.1.0 key)
base_is (IsBase.integer {t} h) w x = type_by x (RawType-F.Integer t) (type.rolls-Integer t) refl

abbrev pub HasStars : RawType → Type 0
HasStars a = (x : Extent) → takes_stars x ≡ true → reaches a x ≡ true

abbrev pub HasLengths : RawType → Type 0
HasLengths a = (x : Extent) → takes_lengths x ≡ true → reaches a x ≡ true

pub stars_calm : {ts rest : Tokens} {a b : RawType} → IsStars ts a b rest → AreCalm ts rest
stars_calm (IsStars.done h) = done
stars_calm (IsStars.star h) = more refl (stars_calm h)

pub stars_is : {ts rest : Tokens} {a b : RawType} → IsStars ts a b rest → HasStars a → HasStars b
stars_is (IsStars.done h) k = k
stars_is (IsStars.star {a} h) k = stars_is h (λ x t. type_by x (RawType-F.PointerTo a) (type.rolls-PointerTo a) (and_from _ _ t (k starred refl)))

pub type_is : {ts rest : Tokens} {a : RawType} → IsTypeName ts a rest → AreSpelled ts → HasStars a
type_is (IsTypeName.pointed h k) w = stars_is k (λ x t. base_is h w x)

pub named_is : {ts rest : Tokens} {t : RawTypeName} → NamesType ts t rest → AreSpelled ts → is_type_name t ≡ true
named_is (NamesType.starred h k) w = base_is h w bare

pub lengths_calm : {ts rest : Tokens} {a b : RawType} → IsLengths ts a b rest → AreCalm ts rest
lengths_calm (IsLengths.done h) = done
lengths_calm (IsLengths.length h k) = more refl (calm_then (expr_calm h) (more refl (lengths_calm k)))

pub outer_calm : {ts rest : Tokens} {a b : RawType} → IsOuterLengths ts a b rest → AreCalm ts rest
outer_calm (IsOuterLengths.written h) = lengths_calm h
outer_calm (IsOuterLengths.empty h) = more refl (more refl (lengths_calm h))

lengths_is : {ts rest : Tokens} {a b : RawType} → IsLengths ts a b rest → AreSpelled ts → HasLengths a → HasLengths b
lengths_is (IsLengths.done h) w k = k
lengths_is (IsLengths.length {n} {b} h j) w k =
    λ x t. type_by x (RawType-F.Array b (Written n)) (type.rolls-Array b (Written n)) (and_from _ _ t (and_from _ _ (lengths_is j (calm_rest (expr_calm h) w.1).1 k sized refl) (expr_is h w.1)))

-- a type that a list may give its first length, and which one that has none such is
pub record MayList (a : RawType) : Type 0 where
  pub may : reaches a listed ≡ true
  pub not_listed : is_listed a ≡ false → reaches a sized ≡ true

listed-empty : (a : RawType) → is_listed (type.Array a Listed) ≡ true
listed-empty a = ap is_listed (sym (type.rolls-Array a Listed)) ∙ fold-roll-RawType Bool listed_step (RawType-F.Array a Listed)

outer_is : {ts rest : Tokens} {a b : RawType} → IsOuterLengths ts a b rest → AreSpelled ts → HasLengths a → MayList b
outer_is (IsOuterLengths.written h) w k = record { may = lengths_is h w k listed refl; not_listed = λ n. lengths_is h w k sized refl }
outer_is (IsOuterLengths.empty {b} h) w k = record {
  may = type_by listed (RawType-F.Array b Listed) (type.rolls-Array b Listed) (lengths_is h w.1.1 k sized refl);
  not_listed = λ n. false_true (sym n ∙ listed-empty b);
}

longer_stars : (x : Extent) → takes_lengths x ≡ true → takes_stars x ≡ true
longer_stars bare h = absurd cc
longer_stars starred h = refl
longer_stars sized h = refl
longer_stars listed h = refl

-- a variable, whose first length may be left to a list
pub record MayDeclare (v : RawVar) : Type 0 where
  pub may : is_declared v listed ≡ true
  pub not_listed : is_listed v.shape ≡ false → is_declared v sized ≡ true

pub declarator_is : {ts rest : Tokens} {base : RawType} {v : RawVar} → IsDeclarator ts base v rest → AreSpelled ts → ((x : Extent) → reaches base x ≡ true) → MayDeclare v
declarator_is (IsDeclarator.named {text} h key j) w k =
    let r = calm_rest (stars_calm h) w in
    let s = stars_is h (λ x t. k x) in
    let o = outer_is j r.1 (λ x t. s x (longer_stars x t)) in
    let n = own_name text r.0 key in
    record { may = and_from _ _ n o.may; not_listed = λ f. and_from _ _ n (o.not_listed f) }
