-- What the tests of a parser say where an expression begins.
use Rattle.std.proofs.Common.{◌≡◌, ℕ, [], ◌∷◌, refl, ◌∙◌, true, false, None, codes, inl, inr}
use Rattle.std.specs.Str.{bytes_eq}
use Rattle.std.proofs.lemmas.Bool.{cases_Bool, or_parts}
use Rattle.c_arith.specs.declared.int_type.IntType.{IntType}
use Rattle.c_tree.specs.declared.raw.expr.RawExpr.{RawExpr}
use Rattle.c_language.specs.Words.{Bytes}
use Rattle.c_language.specs.TokenForms.{Tokens, name, number, character, mark}
use Rattle.c_language.specs.Sees.{sees, sees_second, sees_name, is_keyword, is_kind}
use Rattle.c_language.specs.IntWords.{sees_int_word, is_int_word, IsIntType}
use Rattle.c_language.specs.ExprGrammar.{prefix_sign, sign, selector_sign, is_plain_name, IsExpr, number_constant, character_constant, null, eof, variable, paren, index, member, unary, cast, binary, choose}
use Rattle.c_language.specs.declared.token.Token.{Token}
use Rattle.c_language.specs.declared.token.TokenKind.TheVariants.{Name, Mark}
use Rattle.c_language.specs.declared.operators.Infix.{Infix}
use Rattle.c_language.specs.declared.operators.Infix.TheVariants.{Strict, AndAlso, OrElse}
use Rattle.c_language.specs.declared.operators.Prefix.{Prefix}
use Rattle.c_language.specs.declared.operators.Prefix.TheVariants.{Sign, Deref, AddressOf}
use Rattle.c_language.specs.declared.operators.Selector.{Selector}
use Rattle.c_language.specs.declared.operators.Selector.TheVariants.{Dot, Arrow}
use Rattle.c_arith.specs.declared.operators.UnaryOp.TheVariants.{Plus, Minus, Flip, Not}
use Rattle.c_arith.specs.declared.operators.BinaryOp.TheVariants.{Mul, Div, Rem, Add, Sub, Shl, Shr, Less, Greater, AtMost, AtLeast, Equal, Unequal, And, Xor, Or}
use Rattle.c_parse_expr.specs.Outcome.{refused}
use Rattle.c_parse_expr.specs.IntReading.{word_by, next_word, words_from, type_of_words, int_type_name}
use Rattle.c_parse_expr.specs.TypeReading.{begins_type, base}
use Rattle.c_parse_simple.specs.SimpleReading.{string_at, sees_call, sees_cast, ends_in_star}
use Rattle.c_parse_words.proofs.SeenTokens.{apart_by}
use Rattle.c_parse_expr.proofs.IntLaws.{int_type_read, int_type_begins}
use Rattle.c_parse_expr.proofs.ExprLaws.{may_begin, prefix_may}
use Rattle.c_parse_expr.proofs.TypeLaws.{no_struct}
use Rattle.c_language.proofs.Keywords.{no_keyword, no_int_word, null_free, eof_free}

-- the first token of an expression
pub data IsStart : Token → Type 0 where
  digits : {text : Bytes} {l : ℕ} → IsStart (number text l)
  letter : {text : Bytes} {l : ℕ} → IsStart (character text l)
  word : {text : Bytes} {l : ℕ} → is_keyword text ≡ false → IsStart (name text l)
  parenthesis : {l : ℕ} → IsStart (mark (codes "(") l)
  operator : {l : ℕ} (op : Prefix) → IsStart (mark (prefix_sign op) l)

pub data Starts : Tokens → Type 0 where
  with_token : {t : Token} {ts : Tokens} → IsStart t → Starts (t ∷ ts)

variable_free : (w : Bytes) → is_plain_name w ≡ true → is_keyword w ≡ false
unfolding is_plain_name
variable_free w h = elim (cases_Bool (is_keyword w)) [ inl is ↦ absurd (let f : is_plain_name w ≡ false = rw is refl in cc) | inr isnt ↦ isnt ]

pub starts : {n : ℕ} {ts rest : Tokens} {a : RawExpr} → IsExpr n ts a rest → Starts ts
starts number_constant = with_token digits
starts character_constant = with_token letter
starts null = with_token (word null_free)
starts eof = with_token (word eof_free)
starts (variable {text} h) = with_token (word (variable_free text h))
starts (paren h) = with_token parenthesis
starts (index p h k) = starts h
starts (member by p h k) = starts h
starts (unary op p h) = with_token (operator op)
starts (cast p h k) = with_token parenthesis
starts (binary op p h k) = starts h
starts (choose p h k j) = starts h

-- no keyword begins an expression
pub starts_no_word : {ts : Tokens} → Starts ts → (text : Bytes) → is_keyword text ≡ true → sees Name text ts ≡ false
unfolding sees
starts_no_word (with_token digits) text k = refl
starts_no_word (with_token letter) text k = refl
starts_no_word (with_token (word {text = w} h)) text k = no_keyword w text h k
starts_no_word (with_token parenthesis) text k = refl
starts_no_word (with_token (operator op)) text k = refl

-- no mark but those that may begin an expression begins one
pub starts_no_mark : {ts : Tokens} → Starts ts → (text : Bytes) → may_begin text ≡ false → sees Mark text ts ≡ false
unfolding sees
starts_no_mark (with_token digits) text k = refl
starts_no_mark (with_token letter) text k = refl
starts_no_mark (with_token (word h)) text k = refl
starts_no_mark (with_token parenthesis) text k = apart_by may_begin (codes "(") text refl k
starts_no_mark (with_token (operator op)) text k = apart_by may_begin (prefix_sign op) text (prefix_may op) k

pub starts_no_string : {ts : Tokens} → Starts ts → string_at ts ≡ None
unfolding string_at
starts_no_string (with_token digits) = refl
starts_no_string (with_token letter) = refl
starts_no_string (with_token (word h)) = refl
starts_no_string (with_token parenthesis) = refl
starts_no_string (with_token (operator op)) = refl

pub starts_no_int : {ts : Tokens} → Starts ts → sees_int_word ts ≡ false
unfolding sees_int_word
starts_no_int (with_token digits) = refl
starts_no_int (with_token letter) = refl
starts_no_int (with_token (word {text} h)) = no_int_word text h
starts_no_int (with_token parenthesis) = refl
starts_no_int (with_token (operator op)) = refl

pub starts_no_type : {ts : Tokens} → Starts ts → begins_type ts ≡ false
unfolding begins_type is_keyword
starts_no_type s = rw (starts_no_word s (codes "struct") refl, starts_no_int s) refl

-- an expression behind which no parenthesis opens doesn't begin with a call
infix_no_open : (op : Infix) (l : ℕ) (ts : Tokens) → sees Mark (codes "(") (mark (sign op) l ∷ ts) ≡ false
unfolding sees
infix_no_open OrElse l ts = refl
infix_no_open AndAlso l ts = refl
infix_no_open (Strict Mul) l ts = refl
infix_no_open (Strict Div) l ts = refl
infix_no_open (Strict Rem) l ts = refl
infix_no_open (Strict Add) l ts = refl
infix_no_open (Strict Sub) l ts = refl
infix_no_open (Strict Shl) l ts = refl
infix_no_open (Strict Shr) l ts = refl
infix_no_open (Strict Less) l ts = refl
infix_no_open (Strict Greater) l ts = refl
infix_no_open (Strict AtMost) l ts = refl
infix_no_open (Strict AtLeast) l ts = refl
infix_no_open (Strict Equal) l ts = refl
infix_no_open (Strict Unequal) l ts = refl
infix_no_open (Strict And) l ts = refl
infix_no_open (Strict Xor) l ts = refl
infix_no_open (Strict Or) l ts = refl

selector_no_open : (by : Selector) (l : ℕ) (ts : Tokens) → sees Mark (codes "(") (mark (selector_sign by) l ∷ ts) ≡ false
unfolding sees
selector_no_open Dot l ts = refl
selector_no_open Arrow l ts = refl

second_of : (t : Token) (ts : Tokens) → sees_second Mark (codes "(") (t ∷ ts) ≡ sees Mark (codes "(") ts
unfolding sees sees_second
second_of t [] = refl
second_of t (u ∷ ts) = refl

no_call_at : (w : Bytes) (l : ℕ) (ts : Tokens) → sees Mark (codes "(") ts ≡ false → is_keyword w ≡ false → sees_call (name w l ∷ ts) ≡ false
unfolding sees_call sees_name
no_call_at w l ts h k = rw (k, second_of (name w l) ts ∙ h) refl

no_call_by : (t : Token) (ts : Tokens) → is_kind Name t ≡ false → sees_call (t ∷ ts) ≡ false
unfolding sees_call sees_name
no_call_by t ts h = rw h refl

pub no_call : {n : ℕ} {ts rest : Tokens} {a : RawExpr} → IsExpr n ts a rest → sees Mark (codes "(") rest ≡ false → sees_call ts ≡ false
unfolding sees
no_call (number_constant {l} {text} {rest}) h = no_call_by (number text l) rest refl
no_call (character_constant {l} {text} {rest}) h = no_call_by (character text l) rest refl
no_call (null {l} {rest}) h = no_call_at (codes "NULL") l rest h null_free
no_call (eof {l} {rest}) h = no_call_at (codes "EOF") l rest h eof_free
no_call (variable {l} {text} {rest} v) h = no_call_at text l rest h (variable_free text v)
no_call (paren {l} {ts} k) h = no_call_by (mark (codes "(") l) ts refl
no_call (index {l} {mid} p k j) h = no_call k refl
no_call (member {l} {m} {rest} {text} by p k j) h = no_call k (selector_no_open by l (name text m ∷ rest))
no_call (unary {l} {ts} op p k) h = no_call_by (mark (prefix_sign op) l) ts refl
no_call (cast {l} {ts} p k j) h = no_call_by (mark (codes "(") l) ts refl
no_call (binary {l} {mid} op p k j) h = no_call k (infix_no_open op l mid)
no_call (choose {l} {mid} p k j i) h = no_call k refl

no_next : (w : Bytes) → is_int_word w ≡ false → word_by w ≡ None
unfolding word_by
no_next w h =
    let one = or_parts (bytes_eq w (codes "char")) _ h in
    let two = or_parts (bytes_eq w (codes "short")) _ one.1 in
    let three = or_parts (bytes_eq w (codes "int")) _ two.1 in
    let four = or_parts (bytes_eq w (codes "long")) _ three.1 in
    let five = or_parts (bytes_eq w (codes "signed")) (bytes_eq w (codes "unsigned")) four.1 in
    rw (one.0, two.0, three.0, four.0, five.0, five.1) refl

next_none : (t : Token) (ts : Tokens) → sees_int_word (t ∷ ts) ≡ false → next_word (t ∷ ts) ≡ None
unfolding next_word sees_int_word
next_none t ts h = elim (cases_Bool (is_kind Name t)) [
  | inl is ↦ let e : is_int_word t.text ≡ false = rw is at h in rw (is, no_next t.text e) refl
  | inr isnt ↦ rw isnt refl
]

pub no_int_type : (ts : Tokens) → sees_int_word ts ≡ false → int_type_name ts ≡ refused ts
unfolding int_type_name words_from type_of_words
no_int_type [] h = refl
no_int_type (t ∷ ts) h = rw (next_none t ts h) refl

pub no_base : {ts : Tokens} → Starts ts → base ts ≡ refused ts
unfolding base is_keyword
no_base {ts} s = rw (starts_no_word s (codes "struct") refl, no_int_type ts (starts_no_int s)) refl

-- no expression begins with a cast to a pointer
no_cast_by : (w : Bytes) (l : ℕ) (ts : Tokens) → bytes_eq w (codes "(") ≡ false → sees_cast (mark w l ∷ ts) ≡ false
unfolding sees_cast sees
no_cast_by w l ts h = rw h refl

no_cast_at : (l : ℕ) (ts : Tokens) → ends_in_star (base ts) ≡ false → sees_cast (mark (codes "(") l ∷ ts) ≡ false
unfolding sees_cast sees
no_cast_at l ts h = h

cast_base : {t : IntType} {mid : Tokens} {m : ℕ} (l : ℕ) (ts : Tokens) → IsIntType ts t (mark (codes ")") m ∷ mid) → ends_in_star (base ts) ≡ false
unfolding base sees
cast_base l ts h = rw (no_struct ts (int_type_begins h), int_type_read h) refl

pub no_cast : {n : ℕ} {ts rest : Tokens} {a : RawExpr} → IsExpr n ts a rest → sees_cast ts ≡ false
unfolding sees_cast sees
no_cast number_constant = refl
no_cast character_constant = refl
no_cast null = refl
no_cast eof = refl
no_cast (variable v) = refl
no_cast (paren {l} {ts} k) = no_cast_at l ts (rw (no_base (starts k)) refl)
no_cast (index p k j) = no_cast k
no_cast (member by p k j) = no_cast k
no_cast (unary (Sign Plus) p k) = refl
no_cast (unary (Sign Minus) p k) = refl
no_cast (unary (Sign Flip) p k) = refl
no_cast (unary (Sign Not) p k) = refl
no_cast (unary Deref p k) = refl
no_cast (unary AddressOf p k) = refl
no_cast (cast {l} {ts} p k j) = no_cast_at l ts (cast_base l ts k)
no_cast (binary op p k j) = no_cast k
no_cast (choose p k j i) = no_cast k
