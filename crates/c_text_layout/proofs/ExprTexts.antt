-- What is printed of an expression that is syntax has tokens of that expression.
use Rattle.std.proofs.Common.{◌≡◌, ℕ, ◌+◌, ◌≤◌, ◌∷◌, ◌++◌, Bool, true, false, codes, refl, sym, ap, subst, ◌∙◌, arith, ◌⊎◌, inl, inr}
use Rattle.std.specs.Prelude.{nat_le, bytes_eq}
use Rattle.std.proofs.lemmas.Bool.{and_parts, not-true, false_from_ne_true, both_ways}
use Rattle.std.proofs.lemmas.Slice.Eq.{bytes_eq-Decides}
use Rattle.std.proofs.lemmas.Bool.Decides.{nat_tests}
use Rattle.c_arith.specs.declared.int_type.IntType.{IntType}
use Rattle.c_tree.specs.declared.raw.expr.RawExpr.{RawExpr, roll-RawExpr, map-RawExpr, fold-roll-RawExpr}
use Rattle.c_tree.specs.declared.raw.expr.RawExpr.TheOpen.{RawExpr-F}
use Rattle.c_tree.specs.declared.raw.expr.RawExpr.TheVariants as e
use Rattle.c_tree.proofs.RawTrees.{ExprParts, expr_layer, of_every_expr}
use Rattle.c_language.specs.Words.{Bytes, int_words, begins_with}
use Rattle.c_language.specs.TokenForms.{Tokens, name, number, character, mark}
use Rattle.c_language.specs.Tokens.{name_goes_on, number_goes_on, IsTokens}
use Rattle.c_language.specs.Sees.{sees, is_keyword}
use Rattle.c_language.specs.ExprGrammar.{IsExpr, binary_level, conditional_level, level, cast_level, unary_level, postfix_level, sign, joint, prefix_sign, applied, selector_sign, selected, is_place, place_step, is_plain_name}
use Rattle.c_language.specs.Spellings.{is_name, is_number, is_character, is_used_name}
use Rattle.c_language.specs.Syntax.{binds_step, binds}
use Rattle.c_language.specs.declared.token.TokenKind.TheVariants.{Name}
use Rattle.c_language.specs.declared.token.Before.{Before}
use Rattle.c_language.specs.declared.token.Before.TheVariants.{Token}
use Rattle.c_language.specs.declared.operators.Infix.{Infix}
use Rattle.c_language.specs.declared.operators.Infix.TheVariants.{Strict, AndAlso, OrElse}
use Rattle.c_language.specs.declared.operators.Prefix.{Prefix}
use Rattle.c_language.specs.declared.operators.Prefix.TheVariants.{Sign, Deref, AddressOf}
use Rattle.c_language.specs.declared.operators.Selector.{Selector}
use Rattle.c_language.specs.declared.operators.Selector.TheVariants.{Dot, Arrow}
use Rattle.c_language.proofs.Tests.{by_or, false_true}
use Rattle.c_text_layout.specs.SpacedWords.{Spaced, blank_if, spaced_step, spaced, spaced_words}
use Rattle.c_text_layout.proofs.Written.{HasForm}
use Rattle.c_text_layout.proofs.SpelledForms.{name_form, number_form, character_form}
use Rattle.c_text_layout.proofs.RawWordLemmas.{spaced-Constant, spaced-Null, spaced-Eof, spaced-Variable, spaced-Index, spaced-Member, spaced-Arrow, spaced-Paren, spaced_words-Constant, spaced_words-Null, spaced_words-Eof, spaced_words-Variable, spaced_words-Choose, spaced_words-Cast, spaced_words-Index, spaced_words-Paren}
use Rattle.c_text_layout.proofs.TokenPrint.{print_blank, print_mark, Stops, stops_name, print_name, print_number, print_character, word_form}
use Rattle.c_text_layout.proofs.ExprPrint.{words_joint, words_selected, gap, words_applied, First, first_name, first_number, first_character, first_as, first_more, first_prefix, gap_stops, level_low, print_int, print_infix, print_selector, print_gap, number_no_and, name_no_and, character_no_and, more_no_and, prefix_no_and, print_unary, unary_join, binary_join, member_join, index_join, paren_join, cast_join, choose_join, no_int_word}

-- ---- what is printed of an expression

-- tokens of the bytes, from whatever stands before them in their line, that are those of the expression and then these; none of them is an else
pub record ExprText (n line : ℕ) (bytes : Bytes) (a : RawExpr) (after : Tokens) : Type 0 where
  pub tokens : Tokens
  pub lexed : (before : Before) → IsTokens before line bytes tokens
  pub is : IsExpr n tokens a after
  pub no_else : sees Name (codes "else") tokens ≡ false

text_as : {n line : ℕ} {a : RawExpr} {after : Tokens} {x y : Bytes} → x ≡ y → ExprText n line y a after → ExprText n line x a after
text_as {n} {line} {a} {after} e p = subst (λ (b : Bytes). ExprText n line b a after) (sym e) p

-- what goes on with the last token of an expression, a constant or another
abbrev pub behind : Bool → ℕ → ℕ → Bool
behind true = number_goes_on
behind false = name_goes_on

-- where a number ends, each expression ends
pub stops_behind : (b : Bool) (more : Bytes) → Stops number_goes_on more → Stops (behind b) more
stops_behind true more s = s
stops_behind false more s = stops_name more s

-- the words of an expression that binds at least as tightly as this, and how they are read
pub record Worded (n : ℕ) (a : RawExpr) : Type 0 where
  -- its last token is a constant
  pub in_constant : Bool
  pub first : First (spaced_words a)
  -- no operand of a prefix operator begins with `&`, but an address
  pub apart : cast_level ≤ n → ((spaced a).is_address ≡ false) ⊎ (postfix_level ≤ n) → begins_with 38 (spaced_words a) ≡ false
  pub selects : postfix_level ≤ n → in_constant ≡ (spaced a).is_constant
  pub printed : (line : ℕ) (more : Bytes) (after : Tokens) → Stops (behind in_constant) more → IsTokens Token line more after → ExprText n line (spaced_words a ++ more) a after

le_from : (n m : ℕ) → nat_le n m ≡ true → n ≤ m
le_from n m h = grind (arith, nat_tests)

-- ---- tokens that are no else

number_no_else : (w : Bytes) (l : ℕ) (ts : Tokens) → sees Name (codes "else") (number w l ∷ ts) ≡ false
unfolding sees
number_no_else w l ts = refl

character_no_else : (w : Bytes) (l : ℕ) (ts : Tokens) → sees Name (codes "else") (character w l ∷ ts) ≡ false
unfolding sees
character_no_else w l ts = refl

pub name_no_else : (w : Bytes) (l : ℕ) (ts : Tokens) → bytes_eq w (codes "else") ≡ false → sees Name (codes "else") (name w l ∷ ts) ≡ false
unfolding sees
name_no_else w l ts h = h

pub mark_no_else : (w : Bytes) (l : ℕ) (ts : Tokens) → sees Name (codes "else") (mark w l ∷ ts) ≡ false
unfolding sees
mark_no_else w l ts = refl

-- no word but a keyword is an else
pub no_else_word : (w : Bytes) → is_keyword w ≡ false → bytes_eq w (codes "else") ≡ false
unfolding is_keyword
no_else_word w h = false_from_ne_true (bytes_eq w (codes "else")) (λ t. let e : is_keyword w ≡ true = ap is_keyword ((bytes_eq-Decides w (codes "else")).0 t) in both_ways (is_keyword w) h e)

plain_no_else : (w : Bytes) → is_plain_name w ≡ true → bytes_eq w (codes "else") ≡ false
unfolding is_plain_name
plain_no_else w h = no_else_word w (not-true (is_keyword w) (and_parts _ _ h).0)

-- ---- constants and names

worded_number : (n : ℕ) (w : Bytes) → is_number w ≡ true → Worded n (e.Constant w)
worded_number n w h =
    let f = number_form w h in
    record {
      in_constant = true;
      first = first_as (spaced_words-Constant w) (first_number w f);
      apart = λ low k. ap (begins_with 38) (spaced_words-Constant w) ∙ number_no_and w f;
      selects = λ p. ap (λ (x : Spaced). x.is_constant) (sym (spaced-Constant w));
      printed = λ line more after s k. text_as (ap (λ (y : Bytes). y ++ more) (spaced_words-Constant w))
          (record { tokens = number w line ∷ after; lexed = λ before. print_number w f s k; is = IsExpr.number_constant; no_else = number_no_else w line after });
    }

worded_character : (n : ℕ) (w : Bytes) → is_character w ≡ true → Worded n (e.Constant w)
worded_character n w h =
    let f = HasForm.character (character_form w h) in
    record {
      in_constant = true;
      first = first_as (spaced_words-Constant w) (first_character w f);
      apart = λ low k. ap (begins_with 38) (spaced_words-Constant w) ∙ character_no_and w f;
      selects = λ p. ap (λ (x : Spaced). x.is_constant) (sym (spaced-Constant w));
      printed = λ line more after s k. text_as (ap (λ (y : Bytes). y ++ more) (spaced_words-Constant w))
          (record { tokens = character w line ∷ after; lexed = λ before. print_character w f k; is = IsExpr.character_constant; no_else = character_no_else w line after });
    }

-- an expression that is one word
worded_word : (n : ℕ) (a : RawExpr) (w : Bytes) → HasForm Name w → bytes_eq w (codes "else") ≡ false → spaced_words a ≡ w → (spaced a).is_constant ≡ false → ((l : ℕ) (r : Tokens) → IsExpr n (name w l ∷ r) a r) → Worded n a
worded_word n a w f other words no_constant is = record {
  in_constant = false;
  first = first_as words (first_name w f);
  apart = λ low k. ap (begins_with 38) words ∙ name_no_and w f;
  selects = λ p. sym no_constant;
  printed = λ line more after s k. text_as (ap (λ (y : Bytes). y ++ more) words)
      (record { tokens = name w line ∷ after; lexed = λ before. print_name w f s k; is = is line after; no_else = name_no_else w line after other });
}

worded_variable : (n : ℕ) (w : Bytes) → is_used_name w ≡ true → Worded n (e.Variable w)
worded_variable n w h =
    let p = and_parts (is_name w) (is_plain_name w) h in
    worded_word n (e.Variable w) w (name_form w p.0) (plain_no_else w p.1) (spaced_words-Variable w) (ap (λ (x : Spaced). x.is_constant) (spaced-Variable w)) (λ l r. IsExpr.variable p.1)

-- ---- operands

-- what may stand behind an operand before a selector: a blank stands behind a constant
gap_ends : (c b : Bool) (by : Selector) (m : Bytes) → c ≡ b → Stops (behind c) (blank_if b ++ (selector_sign by ++ m))
gap_ends true true by m h = λ d. refl
gap_ends true false by m h = false_true (sym h)
gap_ends false b by m h = gap_stops by m b

no_constant : (by : Selector) (a : RawExpr) (m : Bytes) → (spaced (selected by a m)).is_constant ≡ false
no_constant Dot a m = ap (λ (x : Spaced). x.is_constant) (spaced-Member a m)
no_constant Arrow a m = ap (λ (x : Spaced). x.is_constant) (spaced-Arrow a m)

worded_member : {n : ℕ} {a : RawExpr} (by : Selector) (m : Bytes) → n ≤ postfix_level → Worded postfix_level a → is_used_name m ≡ true → Worded n (selected by a m)
worded_member {n} {a} by m p x h =
    let q = and_parts (is_name m) (is_plain_name m) h in
    let f = name_form m q.0 in
    let b = (spaced a).is_constant in
    record {
      in_constant = false;
      first = first_as (words_selected by a m) (first_more _ x.first);
      apart = λ low k. ap (begins_with 38) (words_selected by a m) ∙ more_no_and _ x.first (x.apart (omega arith) (inr (omega arith)));
      selects = λ r. sym (no_constant by a m);
      printed = λ line more after s k.
          let y = x.printed line (blank_if b ++ (selector_sign by ++ (m ++ more))) (mark (selector_sign by) line ∷ name m line ∷ after) (gap_ends x.in_constant b by (m ++ more) (x.selects (omega arith)))
          (print_gap b (print_selector by m more f (print_name m f s k))) in
          text_as (ap (λ (z : Bytes). z ++ more) (words_selected by a m) ∙ member_join by (spaced_words a) (blank_if b) m more)
          (record { tokens = y.tokens; lexed = y.lexed; is = IsExpr.member by p y.is q.1; no_else = y.no_else });
    }

worded_index : {n : ℕ} {a i : RawExpr} → n ≤ postfix_level → Worded postfix_level a → Worded conditional_level i → Worded n (e.Index a i)
worded_index {n} {a} {i} p x z = record {
  in_constant = false;
  first = first_as (spaced_words-Index a i) (first_more _ x.first);
  apart = λ low k. ap (begins_with 38) (spaced_words-Index a i) ∙ more_no_and _ x.first (x.apart (omega arith) (inr (omega arith)));
  selects = λ r. sym (ap (λ (y : Spaced). y.is_constant) (spaced-Index a i));
  printed = λ line more after s k.
      let y = z.printed line (93 ∷ more) (mark (codes "]") line ∷ after) (stops_behind z.in_constant (93 ∷ more) (λ b. refl)) (print_mark (codes "]") refl refl k) in
      let w = x.printed line (91 ∷ (spaced_words i ++ (93 ∷ more))) (mark (codes "[") line ∷ y.tokens) (stops_behind x.in_constant (91 ∷ (spaced_words i ++ (93 ∷ more))) (λ b. refl)) (print_mark (codes "[") refl refl (y.lexed Token)) in
      text_as (ap (λ (u : Bytes). u ++ more) (spaced_words-Index a i) ∙ index_join (spaced_words a) (spaced_words i) more)
      (record { tokens = w.tokens; lexed = w.lexed; is = IsExpr.index p w.is y.is; no_else = w.no_else });
}

worded_paren : (n : ℕ) {a : RawExpr} → Worded conditional_level a → Worded n (e.Paren a)
worded_paren n {a} x = record {
  in_constant = false;
  first = first_as (spaced_words-Paren a) (record { byte = 40; more = _; at = refl; fits = refl });
  apart = λ low k. ap (begins_with 38) (spaced_words-Paren a);
  selects = λ r. sym (ap (λ (y : Spaced). y.is_constant) (spaced-Paren a));
  printed = λ line more after s k.
      let y = x.printed line (41 ∷ more) (mark (codes ")") line ∷ after) (stops_behind x.in_constant (41 ∷ more) (λ b. refl)) (print_mark (codes ")") refl refl k) in
      text_as (ap (λ (z : Bytes). z ++ more) (spaced_words-Paren a) ∙ paren_join (spaced_words a) more)
      (record { tokens = mark (codes "(") line ∷ y.tokens; lexed = λ before. print_mark (codes "(") refl refl (y.lexed Token); is = IsExpr.paren y.is; no_else = mark_no_else (codes "(") line y.tokens });
}

-- ---- operators

worded_prefix : {n : ℕ} {a : RawExpr} (op : Prefix) → n ≤ unary_level → Worded cast_level a → Worded n (applied op a)
worded_prefix {n} {a} op p x = record {
  in_constant = x.in_constant;
  first = first_as (words_applied op a) (first_prefix op _);
  apart = λ low k. ap (begins_with 38) (words_applied op a) ∙ address_alone n op a p k;
  selects = λ r. absurd (omega (arith, p, r));
  printed = λ line more after s k.
      let y = x.printed line more after s k in
      text_as (ap (λ (z : Bytes). z ++ more) (words_applied op a) ∙ unary_join op (gap op (spaced a).is_address (spaced_words a)) (spaced_words a) more)
      (record {
        tokens = mark (prefix_sign op) line ∷ y.tokens;
        lexed = λ before. print_unary more op (spaced a).is_address x.first (λ b. x.apart (omega arith) (inl b)) before y.lexed;
        is = IsExpr.unary op p y.is;
        no_else = mark_no_else (prefix_sign op) line y.tokens;
      });
}
  where
    address_alone : (n : ℕ) (op : Prefix) (a : RawExpr) → n ≤ unary_level → ((spaced (applied op a)).is_address ≡ false) ⊎ (postfix_level ≤ n) → begins_with 38 (prefix_sign op ++ (gap op (spaced a).is_address (spaced_words a) ++ spaced_words a)) ≡ false
    address_alone n op a p (inl h) = prefix_no_and op a _ h
    address_alone n op a p (inr h) = absurd (omega (arith, p, h))

worded_cast : {n : ℕ} {a : RawExpr} (t : IntType) → n ≤ cast_level → Worded cast_level a → Worded n (e.Cast t a)
worded_cast {n} {a} t p x = record {
  in_constant = x.in_constant;
  first = first_as (spaced_words-Cast t a) (record { byte = 40; more = _; at = refl; fits = refl });
  apart = λ low k. ap (begins_with 38) (spaced_words-Cast t a);
  selects = λ r. absurd (omega (arith, p, r));
  printed = λ line more after s k.
      let y = x.printed line more after s k in
      let z = print_int t line (41 ∷ (spaced_words a ++ more)) (mark (codes ")") line ∷ y.tokens) (λ b. refl) (no_int_word line y.tokens) (print_mark (codes ")") refl refl (y.lexed Token)) in
      text_as (ap (λ (u : Bytes). u ++ more) (spaced_words-Cast t a) ∙ cast_join (int_words t) (spaced_words a) more)
      (record { tokens = mark (codes "(") line ∷ z.tokens; lexed = λ before. print_mark (codes "(") refl refl (z.lexed Token); is = IsExpr.cast p z.is y.is; no_else = mark_no_else (codes "(") line z.tokens });
}

worded_infix : {n : ℕ} {a b : RawExpr} (op : Infix) → n ≤ level op → Worded (level op) a → Worded (level op + 1) b → Worded n (joint op a b)
worded_infix {n} {a} {b} op p x z = record {
  in_constant = z.in_constant;
  first = first_as (words_joint op a b) (first_more _ x.first);
  apart = λ low k. absurd (omega (arith, p, low, level_low op));
  selects = λ r. absurd (omega (arith, p, r, level_low op));
  printed = λ line more after s k.
      let y = z.printed line more after s k in
      let next : Bytes = 32 ∷ (sign op ++ (32 ∷ (spaced_words b ++ more))) in
      let w = x.printed line next (mark (sign op) line ∷ y.tokens) (stops_behind x.in_constant next (λ d. refl)) (print_infix op (y.lexed Token)) in
      text_as (ap (λ (u : Bytes). u ++ more) (words_joint op a b) ∙ binary_join op (spaced_words a) (spaced_words b) more)
      (record { tokens = w.tokens; lexed = w.lexed; is = IsExpr.binary op p w.is y.is; no_else = w.no_else });
}

worded_choice : {n : ℕ} {c a b : RawExpr} → n ≤ conditional_level → Worded (conditional_level + 1) c → Worded conditional_level a → Worded conditional_level b → Worded n (e.Choose c a b)
worded_choice {n} {c} {a} {b} p x y z = record {
  in_constant = z.in_constant;
  first = first_as (spaced_words-Choose c a b) (first_more _ x.first);
  apart = λ low k. absurd (omega (arith, p, low));
  selects = λ r. absurd (omega (arith, p, r));
  printed = λ line more after s k.
      let third = z.printed line more after s k in
      let next : Bytes = 32 ∷ 58 ∷ 32 ∷ (spaced_words b ++ more) in
      let second = y.printed line next (mark (codes ":") line ∷ third.tokens) (stops_behind y.in_constant next (λ d. refl)) (print_blank (print_mark (codes ":") refl refl (print_blank (third.lexed Token)))) in
      let mid : Bytes = 32 ∷ 63 ∷ 32 ∷ (spaced_words a ++ next) in
      let w = x.printed line mid (mark (codes "?") line ∷ second.tokens) (stops_behind x.in_constant mid (λ d. refl)) (print_blank (print_mark (codes "?") refl refl (print_blank (second.lexed Token)))) in
      text_as (ap (λ (u : Bytes). u ++ more) (spaced_words-Choose c a b) ∙ choose_join (spaced_words c) (spaced_words a) (spaced_words b) more)
      (record { tokens = w.tokens; lexed = w.lexed; is = IsExpr.choose p w.is second.is third.is; no_else = w.no_else });
}

-- ---- the law

abbrev Given : RawExpr → Type 0
Given a = (n : ℕ) → binds a n ≡ true → Worded n a

as_worded : {n : ℕ} {a b : RawExpr} → a ≡ b → Worded n b → Worded n a
as_worded {n} is x = subst (Worded n) (sym is) x

of_layer : (y : ExprParts Given) (n : ℕ) → binds_step (map-RawExpr RawExpr (ℕ → Bool) binds (expr_layer Given y)) n ≡ true → Worded n (roll-RawExpr (expr_layer Given y))
of_layer (RawExpr-F.Constant w) n h = as_worded (e.rolls-Constant w) (by_or (is_number w) (is_character w) h (worded_number n w) (worded_character n w))
of_layer RawExpr-F.Null n h =
    as_worded e.rolls-Null (worded_word n e.Null (codes "NULL") (word_form (codes "NULL") refl) refl spaced_words-Null (ap (λ (x : Spaced). x.is_constant) spaced-Null) (λ l r. IsExpr.null))
of_layer RawExpr-F.Eof n h =
    as_worded e.rolls-Eof (worded_word n e.Eof (codes "EOF") (word_form (codes "EOF") refl) refl spaced_words-Eof (ap (λ (x : Spaced). x.is_constant) spaced-Eof) (λ l r. IsExpr.eof))
of_layer (RawExpr-F.Variable w) n h = as_worded (e.rolls-Variable w) (worded_variable n w h)
of_layer (RawExpr-F.Unary op a) n h =
    let p = and_parts (nat_le n unary_level) (binds a.0 cast_level) h in
    as_worded (e.rolls-Unary op a.0) (worded_prefix (Sign op) (le_from n unary_level p.0) (a.1 cast_level p.1))
of_layer (RawExpr-F.Deref a) n h =
    let p = and_parts (nat_le n unary_level) (binds a.0 cast_level) h in
    as_worded (e.rolls-Deref a.0) (worded_prefix Deref (le_from n unary_level p.0) (a.1 cast_level p.1))
of_layer (RawExpr-F.AddressOf a) n h =
    let p = and_parts (nat_le n unary_level) (binds a.0 cast_level) h in
    as_worded (e.rolls-AddressOf a.0) (worded_prefix AddressOf (le_from n unary_level p.0) (a.1 cast_level p.1))
of_layer (RawExpr-F.Binary op a b) n h =
    let p = and_parts (nat_le n (binary_level op)) _ h in
    let q = and_parts (binds a.0 (binary_level op)) (binds b.0 (binary_level op + 1)) p.1 in
    as_worded (e.rolls-Binary op a.0 b.0) (worded_infix (Strict op) (le_from n (binary_level op) p.0) (a.1 (binary_level op) q.0) (b.1 (binary_level op + 1) q.1))
of_layer (RawExpr-F.AndAlso a b) n h =
    let p = and_parts (nat_le n (level AndAlso)) _ h in
    let q = and_parts (binds a.0 (level AndAlso)) (binds b.0 (level AndAlso + 1)) p.1 in
    as_worded (e.rolls-AndAlso a.0 b.0) (worded_infix AndAlso (le_from n (level AndAlso) p.0) (a.1 (level AndAlso) q.0) (b.1 (level AndAlso + 1) q.1))
of_layer (RawExpr-F.OrElse a b) n h =
    let p = and_parts (nat_le n (level OrElse)) _ h in
    let q = and_parts (binds a.0 (level OrElse)) (binds b.0 (level OrElse + 1)) p.1 in
    as_worded (e.rolls-OrElse a.0 b.0) (worded_infix OrElse (le_from n (level OrElse) p.0) (a.1 (level OrElse) q.0) (b.1 (level OrElse + 1) q.1))
of_layer (RawExpr-F.Choose c a b) n h =
    let p = and_parts (nat_le n conditional_level) _ h in
    let q = and_parts (binds c.0 (conditional_level + 1)) _ p.1 in
    let s = and_parts (binds a.0 conditional_level) (binds b.0 conditional_level) q.1 in
    as_worded (e.rolls-Choose c.0 a.0 b.0) (worded_choice (le_from n conditional_level p.0) (c.1 (conditional_level + 1) q.0) (a.1 conditional_level s.0) (b.1 conditional_level s.1))
of_layer (RawExpr-F.Cast t a) n h =
    let p = and_parts (nat_le n cast_level) (binds a.0 cast_level) h in
    as_worded (e.rolls-Cast t a.0) (worded_cast t (le_from n cast_level p.0) (a.1 cast_level p.1))
of_layer (RawExpr-F.Index a i) n h =
    let p = and_parts (nat_le n postfix_level) _ h in
    let q = and_parts (binds a.0 postfix_level) (binds i.0 conditional_level) p.1 in
    as_worded (e.rolls-Index a.0 i.0) (worded_index (le_from n postfix_level p.0) (a.1 postfix_level q.0) (i.1 conditional_level q.1))
of_layer (RawExpr-F.Member a m) n h =
    let p = and_parts (nat_le n postfix_level) _ h in
    let q = and_parts (binds a.0 postfix_level) (is_used_name m) p.1 in
    as_worded (e.rolls-Member a.0 m) (worded_member Dot m (le_from n postfix_level p.0) (a.1 postfix_level q.0) q.1)
of_layer (RawExpr-F.Arrow a m) n h =
    let p = and_parts (nat_le n postfix_level) _ h in
    let q = and_parts (binds a.0 postfix_level) (is_used_name m) p.1 in
    as_worded (e.rolls-Arrow a.0 m) (worded_member Arrow m (le_from n postfix_level p.0) (a.1 postfix_level q.0) q.1)
of_layer (RawExpr-F.Paren a) n h = as_worded (e.rolls-Paren a.0) (worded_paren n (a.1 conditional_level h))

-- an expression that is syntax has words that are read
pub worded : (a : RawExpr) → Given a
worded = of_every_expr Given (λ y n h. of_layer y n (ap (λ (f : ℕ → Bool). f n) (sym (fold-roll-RawExpr (ℕ → Bool) binds_step (expr_layer Given y))) ∙ h))

-- before bytes that end a number, what is printed of the expression has its tokens
pub expr_text : (a : RawExpr) (n : ℕ) → binds a n ≡ true → (line : ℕ) (more : Bytes) (after : Tokens) → Stops number_goes_on more → IsTokens Token line more after → ExprText n line (spaced_words a ++ more) a after
expr_text a n h line more after s k = let x = worded a n h in x.printed line more after (stops_behind x.in_constant more s) k

-- ---- places

abbrev NoConstant : RawExpr → Type 0
NoConstant a = is_place a ≡ true → (spaced a).is_constant ≡ false

place_constant : (y : ExprParts NoConstant) → place_step (map-RawExpr RawExpr Bool is_place (expr_layer NoConstant y)) ≡ true → (spaced_step (map-RawExpr RawExpr Spaced spaced (expr_layer NoConstant y))).is_constant ≡ false
place_constant (RawExpr-F.Constant w) h = false_true h
place_constant RawExpr-F.Null h = refl
place_constant RawExpr-F.Eof h = refl
place_constant (RawExpr-F.Variable w) h = refl
place_constant (RawExpr-F.Unary op a) h = refl
place_constant (RawExpr-F.Deref a) h = refl
place_constant (RawExpr-F.AddressOf a) h = refl
place_constant (RawExpr-F.Binary op a b) h = refl
place_constant (RawExpr-F.AndAlso a b) h = refl
place_constant (RawExpr-F.OrElse a b) h = refl
place_constant (RawExpr-F.Choose c a b) h = refl
place_constant (RawExpr-F.Cast t a) h = refl
place_constant (RawExpr-F.Index a i) h = refl
place_constant (RawExpr-F.Member a m) h = refl
place_constant (RawExpr-F.Arrow a m) h = refl
place_constant (RawExpr-F.Paren a) h = refl

no_place : (a : RawExpr) → NoConstant a
no_place = of_every_expr NoConstant (λ y h.
    ap (λ (x : Spaced). x.is_constant) (fold-roll-RawExpr Spaced spaced_step (expr_layer NoConstant y)) ∙ place_constant y (sym (fold-roll-RawExpr Bool place_step (expr_layer NoConstant y)) ∙ h))

-- a place that binds as a postfix expression ends where a name does, since it is no number
pub place_text : (a : RawExpr) → is_place a ≡ true → binds a postfix_level ≡ true → (line : ℕ) (more : Bytes) (after : Tokens) → Stops name_goes_on more → IsTokens Token line more after → ExprText postfix_level line (spaced_words a ++ more) a after
place_text a is h line more after s k =
    let x = worded a postfix_level h in
    let e : x.in_constant ≡ false = x.selects (omega arith) ∙ no_place a is in
    x.printed line more after (subst (λ (b : Bool). Stops (behind b) more) (sym e) s) k
