-- Tokens of trees that are syntax: those of expressions and types, all on one line, in front of any others.
use Rattle.std.proofs.Common.{◌≡◌, ℕ, ◌+◌, ◌≤◌, List, [], ◌∷◌, Bool, true, false, codes, refl, sym, ap, subst, ◌∙◌, arith}
use Rattle.std.specs.Prelude.{nat_le, Contains}
use Rattle.std.proofs.lemmas.Bool.{and_parts}
use Rattle.std.proofs.lemmas.Bool.Decides.{nat_tests}
use Rattle.c_arith.specs.declared.int_type.IntType.{IntType}
use Rattle.c_arith.specs.declared.int_type.IntType.TheVariants.{Char, UChar, Short, UShort, Int, UInt, Long, ULong}
use Rattle.c_tree.specs.declared.raw.expr.RawExpr.{RawExpr, roll-RawExpr, map-RawExpr, fold-roll-RawExpr}
use Rattle.c_tree.specs.declared.raw.expr.RawExpr.TheOpen.{RawExpr-F}
use Rattle.c_tree.specs.declared.raw.expr.RawExpr.TheVariants as e
use Rattle.c_tree.proofs.RawTrees.{ExprParts, expr_layer, of_every_expr}
use Rattle.c_language.specs.Words.{Bytes, unary_sign, binary_sign}
use Rattle.c_language.specs.TokenForms.{Tokens, name, number, character, mark, line_of}
use Rattle.c_language.specs.Tokens.{is_mark}
use Rattle.c_language.specs.IntWords.{spellings, IsIntWords, sees_int_word, AreWords, IsIntType}
use Rattle.c_language.specs.ExprGrammar.{IsExpr, binary_level, conditional_level, level, cast_level, unary_level, postfix_level, is_plain_name}
use Rattle.c_language.specs.Spellings.{is_name, is_number, is_character, is_used_name}
use Rattle.c_language.specs.Syntax.{binds_step, binds}
use Rattle.c_language.specs.declared.operators.Infix.TheVariants.{Strict, AndAlso, OrElse}
use Rattle.c_language.specs.declared.operators.Prefix.TheVariants.{Sign, Deref, AddressOf}
use Rattle.c_language.specs.declared.operators.Selector.TheVariants.{Dot, Arrow}
use Rattle.c_language.proofs.Tests.{by_or}
use Rattle.text_syntax.proofs.Spelled.{AreSpelled}
use Rattle.text_syntax.proofs.Marks.{unary_mark, binary_mark}

-- tokens in front of any others, the first of them on this line
pub record Tokened (P : Tokens → Tokens → Type 0) (l : ℕ) : Type 0 where
  pub front : Tokens → Tokens
  pub spelled : (r : Tokens) → AreSpelled r → AreSpelled (front r)
  pub line : (r : Tokens) → line_of (front r) ≡ l
  pub is : (r : Tokens) → P (front r) r

le_from : (n m : ℕ) → nat_le n m ≡ true → n ≤ m
le_from n m h = grind (arith, nat_tests)

-- ---- words of integer types

abbrev canonical : IntType → List Bytes
canonical Char = codes "char" ∷ []
canonical UChar = codes "unsigned" ∷ codes "char" ∷ []
canonical Short = codes "short" ∷ []
canonical UShort = codes "unsigned" ∷ codes "short" ∷ []
canonical Int = codes "int" ∷ []
canonical UInt = codes "unsigned" ∷ []
canonical Long = codes "long" ∷ []
canonical ULong = codes "unsigned" ∷ codes "long" ∷ []

canonical_first : (t : IntType) → Contains (spellings t) (canonical t)
canonical_first Char = (0, omega arith, refl)
canonical_first UChar = (0, omega arith, refl)
canonical_first Short = (0, omega arith, refl)
canonical_first UShort = (0, omega arith, refl)
canonical_first Int = (0, omega arith, refl)
canonical_first UInt = (0, omega arith, refl)
canonical_first Long = (0, omega arith, refl)
canonical_first ULong = (0, omega arith, refl)

abbrev word_tokens : List Bytes → ℕ → Tokens → Tokens
word_tokens [] l r = r
word_tokens (w ∷ ws) l r = name w l ∷ word_tokens ws l r

are_words : (ws : List Bytes) (l : ℕ) (r : Tokens) → AreWords (word_tokens ws l r) ws r
are_words [] l r = AreWords.none
are_words (w ∷ ws) l r = AreWords.some (are_words ws l r)

abbrev pub int_tokens : IntType → ℕ → Tokens → Tokens
int_tokens t l r = word_tokens (canonical t) l r

pub int_is : (t : IntType) (l : ℕ) (r : Tokens) → sees_int_word r ≡ false → IsIntType (int_tokens t l r) t r
int_is t l r n = IsIntType.words (are_words (canonical t) l r) (IsIntWords.spelled (canonical_first t) (λ w. refl)) n

pub int_spelled : (t : IntType) (l : ℕ) (r : Tokens) → AreSpelled r → AreSpelled (int_tokens t l r)
int_spelled Char l r w = (refl, w)
int_spelled UChar l r w = (refl, (refl, w))
int_spelled Short l r w = (refl, w)
int_spelled UShort l r w = (refl, (refl, w))
int_spelled Int l r w = (refl, w)
int_spelled UInt l r w = (refl, w)
int_spelled Long l r w = (refl, w)
int_spelled ULong l r w = (refl, (refl, w))

no_int_word : (l : ℕ) (ts : Tokens) → sees_int_word (mark (codes ")") l ∷ ts) ≡ false
unfolding sees_int_word
no_int_word l ts = refl

-- ---- expressions

abbrev Expr : ℕ → ℕ → RawExpr → Type 0
Expr n l a = Tokened (λ ts r. IsExpr n ts a r) l

abbrev Given : RawExpr → Type 0
Given a = (n l : ℕ) → binds a n ≡ true → Expr n l a

as_expr : {n l : ℕ} {a b : RawExpr} → a ≡ b → Expr n l b → Expr n l a
as_expr {n} {l} is x = subst (Expr n l) (sym is) x

used : (n l : ℕ) (w : Bytes) → is_used_name w ≡ true → Expr n l (e.Variable w)
used n l w h =
    let p = and_parts (is_name w) (is_plain_name w) h in
    record { front = λ r. name w l ∷ r; spelled = λ r k. (p.0, k); line = λ r. refl; is = λ r. IsExpr.variable p.1 }

constant : (n l : ℕ) (w : Bytes) → (is_number w ≡ true) → Expr n l (e.Constant w)
constant n l w h = record { front = λ r. number w l ∷ r; spelled = λ r k. (h, k); line = λ r. refl; is = λ r. IsExpr.number_constant }

character_of : (n l : ℕ) (w : Bytes) → (is_character w ≡ true) → Expr n l (e.Constant w)
character_of n l w h = record { front = λ r. character w l ∷ r; spelled = λ r k. (h, k); line = λ r. refl; is = λ r. IsExpr.character_constant }

-- two operands around a mark
infix_of : {n l i j : ℕ} {a b c : RawExpr} (sign : Bytes) → is_mark sign ≡ true → Expr i l a → Expr j l b
    → ((r ts mid : Tokens) → IsExpr i ts a (mark sign l ∷ mid) → IsExpr j mid b r → IsExpr n ts c r) → Expr n l c
infix_of {l = l} sign m x y join = record {
  front = λ r. x.front (mark sign l ∷ y.front r);
  spelled = λ r k. x.spelled (mark sign l ∷ y.front r) (m, y.spelled r k);
  line = λ r. x.line (mark sign l ∷ y.front r);
  is = λ r. join r (x.front (mark sign l ∷ y.front r)) (y.front r) (x.is (mark sign l ∷ y.front r)) (y.is r);
}

prefix_of : {n l : ℕ} {a c : RawExpr} (sign : Bytes) → is_mark sign ≡ true → Expr cast_level l a → ((r ts : Tokens) → IsExpr cast_level ts a r → IsExpr n (mark sign l ∷ ts) c r) → Expr n l c
prefix_of {l = l} sign m x join = record {
  front = λ r. mark sign l ∷ x.front r;
  spelled = λ r k. (m, x.spelled r k);
  line = λ r. refl;
  is = λ r. join r (x.front r) (x.is r);
}

selection_of : {n l : ℕ} {a c : RawExpr} (sign m : Bytes) → is_mark sign ≡ true → Expr postfix_level l a → is_name m ≡ true → ((r ts : Tokens) → IsExpr postfix_level ts a (mark sign l ∷ name m l ∷ r) → IsExpr n ts c r) → Expr n l c
selection_of {l = l} sign m s x h join = record {
  front = λ r. x.front (mark sign l ∷ name m l ∷ r);
  spelled = λ r k. x.spelled (mark sign l ∷ name m l ∷ r) (s, (h, k));
  line = λ r. x.line (mark sign l ∷ name m l ∷ r);
  is = λ r. join r (x.front (mark sign l ∷ name m l ∷ r)) (x.is (mark sign l ∷ name m l ∷ r));
}

abbrev layer : ExprParts Given → RawExpr-F RawExpr
layer = expr_layer Given

of_layer : (y : ExprParts Given) (n l : ℕ) → binds_step (map-RawExpr RawExpr (ℕ → Bool) binds (layer y)) n ≡ true → Expr n l (roll-RawExpr (layer y))
of_layer (RawExpr-F.Constant text) n l h = as_expr (e.rolls-Constant text) (by_or (is_number text) (is_character text) h (constant n l text) (character_of n l text))
of_layer RawExpr-F.Null n l h = as_expr e.rolls-Null (record { front = λ r. name (codes "NULL") l ∷ r; spelled = λ r k. (refl, k); line = λ r. refl; is = λ r. IsExpr.null })
of_layer RawExpr-F.Eof n l h = as_expr e.rolls-Eof (record { front = λ r. name (codes "EOF") l ∷ r; spelled = λ r k. (refl, k); line = λ r. refl; is = λ r. IsExpr.eof })
of_layer (RawExpr-F.Variable w) n l h = as_expr (e.rolls-Variable w) (used n l w h)
of_layer (RawExpr-F.Unary op a) n l h =
    let p = and_parts (nat_le n unary_level) (binds a.0 cast_level) h in
    as_expr (e.rolls-Unary op a.0) (prefix_of (unary_sign op) (unary_mark op) (a.1 cast_level l p.1) (λ r ts k. IsExpr.unary (Sign op) (le_from n unary_level p.0) k))
of_layer (RawExpr-F.Deref a) n l h =
    let p = and_parts (nat_le n unary_level) (binds a.0 cast_level) h in
    as_expr (e.rolls-Deref a.0) (prefix_of (codes "*") refl (a.1 cast_level l p.1) (λ r ts k. IsExpr.unary Deref (le_from n unary_level p.0) k))
of_layer (RawExpr-F.AddressOf a) n l h =
    let p = and_parts (nat_le n unary_level) (binds a.0 cast_level) h in
    as_expr (e.rolls-AddressOf a.0) (prefix_of (codes "&") refl (a.1 cast_level l p.1) (λ r ts k. IsExpr.unary AddressOf (le_from n unary_level p.0) k))
of_layer (RawExpr-F.Binary op a b) n l h =
    let p = and_parts (nat_le n (binary_level op)) _ h in
    let q = and_parts (binds a.0 (binary_level op)) (binds b.0 (binary_level op + 1)) p.1 in
    as_expr (e.rolls-Binary op a.0 b.0) (infix_of (binary_sign op) (binary_mark op) (a.1 (binary_level op) l q.0) (b.1 (binary_level op + 1) l q.1) (λ r ts mid k j. IsExpr.binary (Strict op) (le_from n (binary_level op) p.0) k j))
of_layer (RawExpr-F.AndAlso a b) n l h =
    let p = and_parts (nat_le n (level AndAlso)) _ h in
    let q = and_parts (binds a.0 (level AndAlso)) (binds b.0 (level AndAlso + 1)) p.1 in
    as_expr (e.rolls-AndAlso a.0 b.0) (infix_of (codes "&&") refl (a.1 (level AndAlso) l q.0) (b.1 (level AndAlso + 1) l q.1) (λ r ts mid k j. IsExpr.binary AndAlso (le_from n (level AndAlso) p.0) k j))
of_layer (RawExpr-F.OrElse a b) n l h =
    let p = and_parts (nat_le n (level OrElse)) _ h in
    let q = and_parts (binds a.0 (level OrElse)) (binds b.0 (level OrElse + 1)) p.1 in
    as_expr (e.rolls-OrElse a.0 b.0) (infix_of (codes "||") refl (a.1 (level OrElse) l q.0) (b.1 (level OrElse + 1) l q.1) (λ r ts mid k j. IsExpr.binary OrElse (le_from n (level OrElse) p.0) k j))
of_layer (RawExpr-F.Choose c a b) n l h =
    let p = and_parts (nat_le n conditional_level) _ h in
    let q = and_parts (binds c.0 (conditional_level + 1)) _ p.1 in
    let s = and_parts (binds a.0 conditional_level) (binds b.0 conditional_level) q.1 in
    let x = c.1 (conditional_level + 1) l q.0 in
    let y = a.1 conditional_level l s.0 in
    let z = b.1 conditional_level l s.1 in
    as_expr (e.rolls-Choose c.0 a.0 b.0) (record {
      front = λ r. x.front (mark (codes "?") l ∷ y.front (mark (codes ":") l ∷ z.front r));
      spelled = λ r k. x.spelled (mark (codes "?") l ∷ y.front (mark (codes ":") l ∷ z.front r)) (refl, y.spelled (mark (codes ":") l ∷ z.front r) (refl, z.spelled r k));
      line = λ r. x.line (mark (codes "?") l ∷ y.front (mark (codes ":") l ∷ z.front r));
      is = λ r. IsExpr.choose (le_from n conditional_level p.0) (x.is (mark (codes "?") l ∷ y.front (mark (codes ":") l ∷ z.front r))) (y.is (mark (codes ":") l ∷ z.front r)) (z.is r);
    })
of_layer (RawExpr-F.Cast t a) n l h =
    let p = and_parts (nat_le n cast_level) (binds a.0 cast_level) h in
    let x = a.1 cast_level l p.1 in
    as_expr (e.rolls-Cast t a.0) (record {
      front = λ r. mark (codes "(") l ∷ int_tokens t l (mark (codes ")") l ∷ x.front r);
      spelled = λ r k. (refl, int_spelled t l (mark (codes ")") l ∷ x.front r) (refl, x.spelled r k));
      line = λ r. refl;
      is = λ r. IsExpr.cast (le_from n cast_level p.0) (int_is t l (mark (codes ")") l ∷ x.front r) (no_int_word l (x.front r))) (x.is r);
    })
of_layer (RawExpr-F.Index a i) n l h =
    let p = and_parts (nat_le n postfix_level) _ h in
    let q = and_parts (binds a.0 postfix_level) (binds i.0 conditional_level) p.1 in
    let x = a.1 postfix_level l q.0 in
    let y = i.1 conditional_level l q.1 in
    as_expr (e.rolls-Index a.0 i.0) (record {
      front = λ r. x.front (mark (codes "[") l ∷ y.front (mark (codes "]") l ∷ r));
      spelled = λ r k. x.spelled (mark (codes "[") l ∷ y.front (mark (codes "]") l ∷ r)) (refl, y.spelled (mark (codes "]") l ∷ r) (refl, k));
      line = λ r. x.line (mark (codes "[") l ∷ y.front (mark (codes "]") l ∷ r));
      is = λ r. IsExpr.index (le_from n postfix_level p.0) (x.is (mark (codes "[") l ∷ y.front (mark (codes "]") l ∷ r))) (y.is (mark (codes "]") l ∷ r));
    })
of_layer (RawExpr-F.Member a m) n l h =
    let p = and_parts (nat_le n postfix_level) _ h in
    let q = and_parts (binds a.0 postfix_level) (is_used_name m) p.1 in
    let u = and_parts (is_name m) (is_plain_name m) q.1 in
    as_expr (e.rolls-Member a.0 m) (selection_of (codes ".") m refl (a.1 postfix_level l q.0) u.0 (λ r ts k. IsExpr.member Dot (le_from n postfix_level p.0) k u.1))
of_layer (RawExpr-F.Arrow a m) n l h =
    let p = and_parts (nat_le n postfix_level) _ h in
    let q = and_parts (binds a.0 postfix_level) (is_used_name m) p.1 in
    let u = and_parts (is_name m) (is_plain_name m) q.1 in
    as_expr (e.rolls-Arrow a.0 m) (selection_of (codes "->") m refl (a.1 postfix_level l q.0) u.0 (λ r ts k. IsExpr.member Arrow (le_from n postfix_level p.0) k u.1))
of_layer (RawExpr-F.Paren a) n l h =
    let x = a.1 conditional_level l h in
    as_expr (e.rolls-Paren a.0) (record {
      front = λ r. mark (codes "(") l ∷ x.front (mark (codes ")") l ∷ r);
      spelled = λ r k. (refl, x.spelled (mark (codes ")") l ∷ r) (refl, k));
      line = λ r. refl;
      is = λ r. IsExpr.paren (x.is (mark (codes ")") l ∷ r));
    })

-- an expression that is syntax has tokens, in front of any others, on any line
pub expr_tokens : (a : RawExpr) → Given a
expr_tokens = of_every_expr Given (λ y n l h. of_layer y n l (ap (λ (f : ℕ → Bool). f n) (sym (fold-roll-RawExpr (ℕ → Bool) binds_step (layer y))) ∙ h))
