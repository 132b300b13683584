-- Where reading an expression stops since it nests too deep, that many tokens can nest.
use Rattle.std.proofs.Common.{◌≡◌, ℕ, zero, suc, ◌+◌, ◌≤◌, ◌<◌, List, [], ◌∷◌, length, drop, refl, ap, ◌∙◌, arith, not, ◌&&◌, ◌||◌, Some, Ok, Err, codes, nat_lt}
use Rattle.std.proofs.lemmas.Bool.{ltb-false}
use Rattle.c_arith.specs.declared.operators.BinaryOp.TheVariants.{Mul, Div, Rem, Add, Sub, Shl, Shr, Less, Greater, AtMost, AtLeast, Equal, Unequal, And, Xor, Or}
use Rattle.c_arith.specs.declared.int_type.IntType.{IntType}
use Rattle.c_arith.specs.declared.operators.UnaryOp.TheVariants.{Plus, Minus, Flip, Not}
use Rattle.c_tree.specs.declared.raw.expr.RawExpr.{RawExpr}
use Rattle.c_language.specs.Words.{Bytes}
use Rattle.c_language.specs.TokenForms.{Tokens, mark}
use Rattle.c_language.specs.Sees.{sees, is_kind, is_keyword}
use Rattle.c_language.specs.IntWords.{AreWords, none, some, IsIntType, words, sees_int_word}
use Rattle.c_language.specs.ExprGrammar.{level, sign, prefix_sign, selector_sign, IsExpr, number_constant, character_constant, null, eof, variable, paren, index, member, unary, cast, binary, choose}
use Rattle.c_language.specs.Nesting.{nesting, nesting_tokens}
use Rattle.c_language.specs.declared.token.TokenKind.TheVariants.{Name, Number, Character, Mark}
use Rattle.c_language.specs.declared.operators.Infix.{Infix}
use Rattle.c_language.specs.declared.operators.Infix.TheVariants.{Strict, AndAlso, OrElse}
use Rattle.c_language.specs.declared.operators.Prefix.{Prefix}
use Rattle.c_language.specs.declared.operators.Prefix.TheVariants.{Sign, Deref, AddressOf}
use Rattle.c_language.specs.declared.operators.Selector.{Selector}
use Rattle.c_language.specs.declared.operators.Selector.TheVariants.{Dot, Arrow}
use Rattle.c_language.proofs.NestingLemmas.{nesting-Constant, nesting-Null, nesting-Eof, nesting-Variable, nesting-Paren, nesting-Cast, nesting-Index, nesting-Choose, nesting-joint, nesting-applied, nesting-selected}
use Rattle.c_parse_expr.specs.declared.extension.Extension.{Extension}
use Rattle.c_parse_expr.specs.declared.extension.Extension.TheVariants.{Operator, Question, Bracket, Select}
use Rattle.c_parse_expr.specs.Outcome.{Parser, Deep, expect}
use Rattle.c_parse_expr.specs.IntReading.{int_type_name}
use Rattle.c_parse_expr.specs.ExprReading.{extension, prefix_at, atom, read_member, parenthesized, converted, signed, prefix, with_operand, with_choice, with_index, extended_by, extended, climb, expression_with, nested, expression}
use Rattle.c_parse_words.proofs.SeenTokens.{by_seen}
use Rattle.c_parse_expr.proofs.Tests.{by_choice, by_fault, by_expect, expect_fault, member_fault}
use Rattle.c_parse_expr.proofs.IntLaws.{int_type_fault, int_type_sound}
use Rattle.c_parse_expr.proofs.ExprLaws.{level_low}
use Rattle.c_parse_expr.proofs.ExprSound.{IsSound, Front, extension_is, extension_sign, prefix_op_is, by_extension, prefix_is, extended_is, nested_sound}
use Rattle.c_language.proofs.Tests.{by_test}

-- ---- each node has a token of its own

sign_nests : (op : Infix) (l : ℕ) (ts : Tokens) → nesting_tokens (mark (sign op) l ∷ ts) ≡ 1 + nesting_tokens ts
sign_nests OrElse l ts = refl
sign_nests AndAlso l ts = refl
sign_nests (Strict Mul) l ts = refl
sign_nests (Strict Div) l ts = refl
sign_nests (Strict Rem) l ts = refl
sign_nests (Strict Add) l ts = refl
sign_nests (Strict Sub) l ts = refl
sign_nests (Strict Shl) l ts = refl
sign_nests (Strict Shr) l ts = refl
sign_nests (Strict Less) l ts = refl
sign_nests (Strict Greater) l ts = refl
sign_nests (Strict AtMost) l ts = refl
sign_nests (Strict AtLeast) l ts = refl
sign_nests (Strict Equal) l ts = refl
sign_nests (Strict Unequal) l ts = refl
sign_nests (Strict And) l ts = refl
sign_nests (Strict Xor) l ts = refl
sign_nests (Strict Or) l ts = refl

prefix_nests : (op : Prefix) (l : ℕ) (ts : Tokens) → nesting_tokens (mark (prefix_sign op) l ∷ ts) ≡ 1 + nesting_tokens ts
prefix_nests (Sign Plus) l ts = refl
prefix_nests (Sign Minus) l ts = refl
prefix_nests (Sign Flip) l ts = refl
prefix_nests (Sign Not) l ts = refl
prefix_nests Deref l ts = refl
prefix_nests AddressOf l ts = refl

selector_nests : (by : Selector) (l : ℕ) (ts : Tokens) → nesting_tokens (mark (selector_sign by) l ∷ ts) ≡ 1 + nesting_tokens ts
selector_nests Dot l ts = refl
selector_nests Arrow l ts = refl

extension_nests : (x : Extension) (l : ℕ) (ts : Tokens) → nesting_tokens (mark (extension_sign x) l ∷ ts) ≡ 1 + nesting_tokens ts
extension_nests (Operator op) l ts = sign_nests op l ts
extension_nests Question l ts = refl
extension_nests Bracket l ts = refl
extension_nests (Select by) l ts = selector_nests by l ts

words_tokens : {ts rest : Tokens} {ws : List Bytes} → AreWords ts ws rest → nesting_tokens rest ≤ nesting_tokens ts
words_tokens none = omega arith
words_tokens (some h) = omega (arith, words_tokens h)

pub int_type_tokens : {ts rest : Tokens} {t : IntType} → IsIntType ts t rest → nesting_tokens rest ≤ nesting_tokens ts
int_type_tokens (words h k ends) = words_tokens h

pub expr_tokens : {n : ℕ} {ts rest : Tokens} {a : RawExpr} → IsExpr n ts a rest → nesting a + nesting_tokens rest ≤ nesting_tokens ts
expr_tokens (number_constant {text}) = omega (arith, nesting-Constant text)
expr_tokens (character_constant {text}) = omega (arith, nesting-Constant text)
expr_tokens null = omega (arith, nesting-Null)
expr_tokens eof = omega (arith, nesting-Eof)
expr_tokens (variable {text} h) = omega (arith, nesting-Variable text)
expr_tokens (paren {a} h) = omega (arith, nesting-Paren a, expr_tokens h)
expr_tokens (index {a} {i} p h k) = omega (arith, nesting-Index a i, expr_tokens h, expr_tokens k)
expr_tokens (member {l} {m} {rest} {a} {text} by p h free) = omega (arith, nesting-selected by a text, expr_tokens h, selector_nests by l (record { kind = Name; text = text; line = m } ∷ rest))
expr_tokens (unary {l} {ts} {a} op p h) = omega (arith, nesting-applied op a, expr_tokens h, prefix_nests op l ts)
expr_tokens (cast {t} {a} p h k) = let e = int_type_tokens h in omega (arith, nesting-Cast t a, expr_tokens k, e)
expr_tokens (binary {l} {mid} {a} {b} op p h k) = omega (arith, nesting-joint op a b, expr_tokens h, expr_tokens k, sign_nests op l mid)
expr_tokens (choose {c} {a} {b} p h k j) = omega (arith, nesting-Choose c a b, expr_tokens h, expr_tokens k, expr_tokens j)

-- ---- reading that stops too deep

-- where a parser stops too deep, so many tokens can nest
abbrev pub IsDeep : ℕ → {A : Type 0} → Parser A → Type 0
IsDeep d parser = (ts : Tokens) → parser ts ≡ Err Deep → d ≤ nesting_tokens ts

-- behind the first token nothing more can nest
pub drop_tokens : (ts : Tokens) → nesting_tokens (drop 1 ts) ≤ nesting_tokens ts
drop_tokens [] = omega arith
drop_tokens (t ∷ ts) = omega arith

atom_fault : {G : Type 0} (ts : Tokens) → atom ts ≡ Err Deep → G
unfolding atom
atom_fault [] h = absurd cc
atom_fault (t ∷ ts) h =
    by_test (is_kind Number t || is_kind Character t) h (λ _ h. absurd cc) (λ _ h.
    by_test (is_kind Name t && not (is_keyword t.text)) h (λ _ h. absurd cc) (λ _ h. absurd cc))

module _ (deeper : ℕ → Parser RawExpr) (d : ℕ) (sound : IsSound d deeper) (deep : (n : ℕ) → 1 ≤ n → n ≤ 12 → IsDeep d (deeper n)) where
  parenthesized_deep : IsDeep d (parenthesized deeper)
  unfolding parenthesized
  parenthesized_deep ts h = by_fault (deeper 1 ts) _ h (deep 1 (omega arith) (omega arith) ts) (λ a mid _ h. by_fault (expect (codes ")") mid) _ h (expect_fault (codes ")") mid) (λ _ _ _ h. absurd cc))

  converted_deep : IsDeep d (converted deeper)
  unfolding converted
  converted_deep ts h =
      by_fault (int_type_name ts) _ h (int_type_fault ts) (λ t mid went h.
      by_fault (expect (codes ")") mid) _ h (expect_fault (codes ")") mid) (λ u after closed h.
      by_fault (deeper 12 after) _ h (λ h.
      by_expect (codes ")") mid after u closed (λ k at.
      let a = deep 12 (omega arith) (omega arith) after h in
      let b = int_type_tokens (int_type_sound ts mid t went) in
      let c : nesting_tokens mid ≡ nesting_tokens (mark (codes ")") k ∷ after) = ap nesting_tokens at in
      omega (arith, a, b, c)))
      (λ _ _ _ h. absurd cc)))

  signed_deep : (op : Prefix) → IsDeep d (signed deeper op)
  unfolding signed
  signed_deep op ts h = by_fault (deeper 12 ts) _ h (deep 12 (omega arith) (omega arith) ts) (λ a mid _ h. absurd cc)

  prefix_deep : IsDeep (suc d) (prefix deeper)
  unfolding prefix
  prefix_deep ts h = by_test (sees Mark (codes "(") ts) h
      (λ is h. by_seen Mark (codes "(") ts is (λ l mid at.
      let e : drop 1 ts ≡ mid = ap (drop 1) at in
      let c : nesting_tokens ts ≡ 1 + nesting_tokens mid = ap nesting_tokens at in
      by_test (sees_int_word (drop 1 ts)) h
      (λ _ h. let x = converted_deep mid (rw e at h) in omega (arith, x, c))
      (λ _ h. let x = parenthesized_deep mid (rw e at h) in omega (arith, x, c))))
      (λ _ h. by_choice (prefix_at ts) (atom ts) _ h
      (λ _ h. atom_fault ts h)
      (λ op at h.
      let w = prefix_op_is op ts at in
      let e : drop 1 ts ≡ w.1 = ap (drop 1) w.2 in
      let c : nesting_tokens ts ≡ 1 + nesting_tokens w.1 = ap nesting_tokens w.2 ∙ prefix_nests op w.0 w.1 in
      let x = signed_deep op w.1 (rw e at h) in omega (arith, x, c)))

  extended_by_deep : (x : Extension) (a : RawExpr) → IsDeep d (extended_by deeper x a)
  unfolding extended_by with_operand with_choice with_index
  extended_by_deep (Operator op) a ts h =
      let low = level_low op in
      by_fault (deeper (level op + 1) ts) _ h (deep (level op + 1) (omega arith) (omega (arith, low)) ts) (λ _ _ _ h. absurd cc)
  extended_by_deep Question a ts h =
      by_fault (deeper 1 ts) _ h (deep 1 (omega arith) (omega arith) ts) (λ b mid went h.
      by_fault (expect (codes ":") mid) _ h (expect_fault (codes ":") mid) (λ u next parted h.
      by_fault (deeper 1 next) _ h (λ h.
      by_expect (codes ":") mid next u parted (λ k at.
      let x = deep 1 (omega arith) (omega arith) next h in
      let y = expr_tokens (sound 1 ts b mid (omega arith) (omega arith) went).is in
      let c : nesting_tokens mid ≡ nesting_tokens (mark (codes ":") k ∷ next) = ap nesting_tokens at in
      omega (arith, x, y, c)))
      (λ _ _ _ h. absurd cc)))
  extended_by_deep Bracket a ts h = by_fault (deeper 1 ts) _ h (deep 1 (omega arith) (omega arith) ts) (λ i mid _ h. by_fault (expect (codes "]") mid) _ h (expect_fault (codes "]") mid) (λ _ _ _ h. absurd cc))
  extended_by_deep (Select by) a ts h = by_fault (read_member ts) _ h (member_fault ts) (λ _ _ _ h. absurd cc)

  -- the extension at the front has a token, and so does each node of a
  extended_deep : (x : Extension) (a : RawExpr) (start ts : Tokens) → extension ts ≡ Some x → nesting a + nesting_tokens ts ≤ nesting_tokens start → extended deeper d x a ts ≡ Err Deep → d < nesting_tokens start
  unfolding extended
  extended_deep x a start ts at enough h =
      let w = extension_is x ts at in
      let e : nesting_tokens ts ≡ 1 + nesting_tokens w.1 = ap nesting_tokens w.2 ∙ extension_nests x w.0 w.1 in
      let f : drop 1 ts ≡ w.1 = ap (drop 1) w.2 in
      by_test (nat_lt (nesting a) d) h
      (λ _ h. let x = extended_by_deep x a (drop 1 ts) h in let y : nesting_tokens (drop 1 ts) ≡ nesting_tokens w.1 = ap nesting_tokens f in omega (arith, x, y, e, enough))
      (λ isnt _. let low = ltb-false (nesting a) d isnt in omega (arith, low, e, enough))

  climb_deep : (n : ℕ) (start : Tokens) (turns : ℕ) (a : RawExpr) (ts : Tokens) → 1 ≤ n → n ≤ 12 → Front d n start a ts → climb deeper d n turns a ts ≡ Err Deep → d < nesting_tokens start
  unfolding climb
  climb_deep n start zero a ts one_up below p h = absurd cc
  climb_deep n start (suc turns) a ts one_up below p h =
      by_extension n ts (Ok (a, ts)) _ one_up h
      (λ _ h. absurd cc)
      (λ x at above h. by_fault (extended deeper d x a ts) _ h
      (λ h. extended_deep x a start ts at (expr_tokens p.is) h)
      (λ c after went h. let q = extended_is deeper d sound n start x a c ts after above at p went in climb_deep n start turns c after one_up below q.0 h))

  expression_deep : (n : ℕ) → 1 ≤ n → n ≤ 12 → IsDeep (suc d) (expression_with deeper d n)
  unfolding expression_with
  expression_deep n one_up below ts h = by_fault (prefix deeper ts) _ h (prefix_deep ts)
      (λ a mid went h. climb_deep n ts (length mid) a mid one_up below (prefix_is deeper d sound ts a mid n below went) h)

-- More nested nodes than allowed were met: there are as many nesting tokens.
pub nested_expr_deep : (d n : ℕ) → 1 ≤ n → n ≤ 12 → IsDeep d (nested d n)
unfolding nested
nested_expr_deep zero n one_up below ts h = omega arith
nested_expr_deep (suc d) n one_up below ts h = expression_deep (nested d) d (nested_sound d) (nested_expr_deep d) n one_up below ts h

pub whole_expr_deep : (d n : ℕ) → 1 ≤ n → n ≤ 12 → IsDeep (suc d) (expression d n)
whole_expr_deep d n one_up below ts h = expression_deep (nested d) d (nested_sound d) (nested_expr_deep d) n one_up below ts h
