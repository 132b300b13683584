-- Each expression of the grammar is read, and those that nest too deep are refused for that.
use Rattle.std.proofs.Common.{◌≡◌, ℕ, zero, suc, ◌+◌, ◌≤◌, ◌<◌, ◌∷◌, length, drop, refl, sym, ap, ◌∙◌, arith, Bool, true, false, not, ◌||◌, Option, Some, None, is_some, Ok, Err, codes, inl, inr}
use Rattle.std.specs.Str.{bytes_eq}
use Rattle.std.proofs.lemmas.Bool.{cases_lt, and_parts, not-true}
use Rattle.std.proofs.lemmas.Bool.Decides.{nat_tests}
use Rattle.c_arith.specs.declared.int_type.IntType.{IntType}
use Rattle.c_arith.specs.declared.operators.BinaryOp.{BinaryOp}
use Rattle.c_arith.specs.declared.operators.BinaryOp.TheVariants.{Mul, Div, Rem, Add, Sub, Shl, Shr, Less, Greater, AtMost, AtLeast, Equal, Unequal, And, Xor, Or}
use Rattle.c_arith.specs.declared.operators.UnaryOp.TheVariants.{Plus, Minus, Flip, Not}
use Rattle.c_tree.specs.declared.raw.expr.RawExpr.{RawExpr}
use Rattle.c_tree.specs.declared.raw.expr.RawExpr.TheVariants as e
use Rattle.c_language.specs.Words.{Bytes}
use Rattle.c_language.specs.TokenForms.{Tokens, name, number, character, mark}
use Rattle.c_language.specs.Sees.{sees, sees_second, is_keyword}
use Rattle.c_language.specs.IntWords.{sees_int_word}
use Rattle.c_language.specs.ExprGrammar.{binary_level, level, sign, joint, prefix_sign, applied, selector_sign, selected, is_plain_name, IsExpr, number_constant, character_constant, null, eof, variable, paren, index, member, unary, cast, binary, choose}
use Rattle.c_language.specs.Nesting.{nesting}
use Rattle.c_language.specs.declared.token.Token.{Token}
use Rattle.c_language.specs.declared.token.TokenKind.TheVariants.{Name, Mark}
use Rattle.c_language.specs.declared.operators.Infix.{Infix}
use Rattle.c_language.specs.declared.operators.Infix.TheVariants.{Strict, AndAlso, OrElse}
use Rattle.c_language.specs.declared.operators.Prefix.{Prefix}
use Rattle.c_language.specs.declared.operators.Prefix.TheVariants.{Sign, Deref, AddressOf}
use Rattle.c_language.specs.declared.operators.Selector.{Selector}
use Rattle.c_language.specs.declared.operators.Selector.TheVariants.{Dot, Arrow}
use Rattle.c_language.proofs.NestingLemmas.{nesting-Constant, nesting-Null, nesting-Eof, nesting-Variable, nesting-Paren, nesting-Cast, nesting-Index, nesting-Choose, nesting-joint, nesting-applied, nesting-selected}
use Rattle.c_parse_expr.specs.declared.extension.Extension.{Extension}
use Rattle.c_parse_expr.specs.declared.extension.Extension.TheVariants.{Operator, Question, Bracket, Select}
use Rattle.c_parse_expr.specs.Outcome.{Outcome, Parser, and_then, by_option, Deep, expect}
use Rattle.c_parse_expr.specs.IntReading.{int_type_name}
use Rattle.c_parse_expr.specs.ExprReading.{logical, comparison, arithmetic, infix_by, extension_by, multiplies_size, extension, goes_on, extension_level, at_least, extension_from, prefix_by, prefix_at, named, atom, parenthesized, converted, signed, prefix, with_operand, with_choice, with_index, extended_by, extended, climb, expression_with, nested, expression}
use Rattle.c_parse_words.proofs.SeenTokens.{apart_by}
use Rattle.c_parse_expr.proofs.Tests.{ok_parts, read_member_at}
use Rattle.c_parse_expr.proofs.IntLaws.{int_type_read, int_type_shorter, int_type_begins}
use Rattle.c_language.proofs.Keywords.{no_keyword, no_int_word, null_free, eof_free}

-- a tree has at least one token
pub shorter : {n : ℕ} {ts rest : Tokens} {a : RawExpr} → IsExpr n ts a rest → length rest < length ts
shorter number_constant = omega arith
shorter character_constant = omega arith
shorter null = omega arith
shorter eof = omega arith
shorter (variable h) = omega arith
shorter (paren h) = omega (arith, shorter h)
shorter (index p h k) = omega (arith, shorter h, shorter k)
shorter (member by p h k) = omega (arith, shorter h)
shorter (unary op p h) = omega (arith, shorter h)
shorter (cast p h k) = let a = int_type_shorter h in omega (arith, a, shorter k)
shorter (binary op p h k) = omega (arith, shorter h, shorter k)
shorter (choose p h k j) = omega (arith, shorter h, shorter k, shorter j)

-- ---- the tests that a parser makes where an expression begins

-- a name that an expression holds
record IsPlainName (w : Bytes) : Type 0 where
  free : is_keyword w ≡ false
  named_is : named w ≡ e.Variable w

plain_name : (w : Bytes) → is_plain_name w ≡ true → IsPlainName w
unfolding is_plain_name
plain_name w h =
    let one = and_parts (not (is_keyword w)) _ h in
    let two = and_parts (not (bytes_eq w (codes "NULL"))) _ one.1 in
    let isnt_null : bytes_eq w (codes "NULL") ≡ false = not-true _ two.0 in
    let isnt_eof : bytes_eq w (codes "EOF") ≡ false = not-true _ two.1 in
    record { free = not-true _ one.0; named_is = rw (isnt_null, isnt_eof) refl }

-- the marks that begin an expression
abbrev pub may_begin : Bytes → Bool
may_begin w = bytes_eq w (codes "(") || (bytes_eq w (codes "+") || (bytes_eq w (codes "-") || (bytes_eq w (codes "~") || (bytes_eq w (codes "!") || (bytes_eq w (codes "*") || bytes_eq w (codes "&"))))))

-- no keyword begins an expression, no word of a type, and no mark but these
pub record BeginsExpr (ts : Tokens) : Type 0 where
  pub no_word : (text : Bytes) → is_keyword text ≡ true → sees Name text ts ≡ false
  pub no_type : sees_int_word ts ≡ false
  pub no_mark : (text : Bytes) → may_begin text ≡ false → sees Mark text ts ≡ false

pub name_begins : (w : Bytes) (l : ℕ) (ts : Tokens) → is_keyword w ≡ false → BeginsExpr (name w l ∷ ts)
unfolding sees sees_int_word
name_begins w l ts h = record { no_word = λ text k. no_keyword w text h k; no_type = no_int_word w h; no_mark = λ text k. refl }

mark_begins : (w : Bytes) (l : ℕ) (ts : Tokens) → may_begin w ≡ true → BeginsExpr (mark w l ∷ ts)
unfolding sees sees_int_word
mark_begins w l ts h = record { no_word = λ text k. refl; no_type = refl; no_mark = λ text k. apart_by may_begin w text h k }

number_begins : (w : Bytes) (l : ℕ) (ts : Tokens) → BeginsExpr (number w l ∷ ts)
unfolding sees sees_int_word
number_begins w l ts = record { no_word = λ text k. refl; no_type = refl; no_mark = λ text k. refl }

character_begins : (w : Bytes) (l : ℕ) (ts : Tokens) → BeginsExpr (character w l ∷ ts)
unfolding sees sees_int_word
character_begins w l ts = record { no_word = λ text k. refl; no_type = refl; no_mark = λ text k. refl }

pub prefix_may : (op : Prefix) → may_begin (prefix_sign op) ≡ true
prefix_may (Sign Plus) = refl
prefix_may (Sign Minus) = refl
prefix_may (Sign Flip) = refl
prefix_may (Sign Not) = refl
prefix_may Deref = refl
prefix_may AddressOf = refl

size_word : is_keyword (codes "sizeof") ≡ true
unfolding is_keyword
size_word = refl

pub begins_expr : {n : ℕ} {ts rest : Tokens} {a : RawExpr} → IsExpr n ts a rest → BeginsExpr ts
begins_expr (number_constant {l} {text} {rest}) = number_begins text l rest
begins_expr (character_constant {l} {text} {rest}) = character_begins text l rest
begins_expr (null {l} {rest}) = name_begins (codes "NULL") l rest null_free
begins_expr (eof {l} {rest}) = name_begins (codes "EOF") l rest eof_free
begins_expr (variable {l} {text} {rest} h) = name_begins text l rest (plain_name text h).free
begins_expr (paren {l} {ts} h) = mark_begins (codes "(") l ts refl
begins_expr (index p h k) = begins_expr h
begins_expr (member by p h k) = begins_expr h
begins_expr (unary {l} {ts} op p h) = mark_begins (prefix_sign op) l ts (prefix_may op)
begins_expr (cast {l} {ts} p h k) = mark_begins (codes "(") l ts refl
begins_expr (binary op p h k) = begins_expr h
begins_expr (choose p h k j) = begins_expr h

no_size : {ts : Tokens} → BeginsExpr ts → sees Name (codes "sizeof") ts ≡ false
no_size b = b.no_word (codes "sizeof") size_word

-- ---- extensions

-- how tightly the extension at the front binds, or 0
abbrev pub level_by : Option Extension → ℕ
level_by None = 0
level_by (Some x) = extension_level x

abbrev pub head_level : Tokens → ℕ
head_level ts = level_by (extension ts)

pub infix_at : (op : Infix) (l : ℕ) (ts : Tokens) → sees Name (codes "sizeof") ts ≡ false → extension (mark (sign op) l ∷ ts) ≡ Some (Operator op)
unfolding extension extension_by infix_by logical comparison arithmetic multiplies_size sees sees_second
infix_at OrElse l ts h = refl
infix_at AndAlso l ts h = refl
infix_at (Strict Mul) l ts h = rw h refl
infix_at (Strict Div) l ts h = refl
infix_at (Strict Rem) l ts h = refl
infix_at (Strict Add) l ts h = refl
infix_at (Strict Sub) l ts h = refl
infix_at (Strict Shl) l ts h = refl
infix_at (Strict Shr) l ts h = refl
infix_at (Strict Less) l ts h = refl
infix_at (Strict Greater) l ts h = refl
infix_at (Strict AtMost) l ts h = refl
infix_at (Strict AtLeast) l ts h = refl
infix_at (Strict Equal) l ts h = refl
infix_at (Strict Unequal) l ts h = refl
infix_at (Strict And) l ts h = refl
infix_at (Strict Xor) l ts h = refl
infix_at (Strict Or) l ts h = refl

pub bracket_at : (l : ℕ) (ts : Tokens) → extension (mark (codes "[") l ∷ ts) ≡ Some Bracket
unfolding extension extension_by multiplies_size sees
bracket_at l ts = refl

pub question_at : (l : ℕ) (ts : Tokens) → extension (mark (codes "?") l ∷ ts) ≡ Some Question
unfolding extension extension_by multiplies_size sees
question_at l ts = refl

pub selector_at : (by : Selector) (l : ℕ) (ts : Tokens) → extension (mark (selector_sign by) l ∷ ts) ≡ Some (Select by)
unfolding extension extension_by multiplies_size sees
selector_at Dot l ts = refl
selector_at Arrow l ts = refl

-- what ends an expression within another form
pub close_at : (l : ℕ) (ts : Tokens) → extension (mark (codes ")") l ∷ ts) ≡ None
unfolding extension extension_by infix_by logical comparison arithmetic multiplies_size sees
close_at l ts = refl

pub end_at : (l : ℕ) (ts : Tokens) → extension (mark (codes "]") l ∷ ts) ≡ None
unfolding extension extension_by infix_by logical comparison arithmetic multiplies_size sees
end_at l ts = refl

pub colon_at : (l : ℕ) (ts : Tokens) → extension (mark (codes ":") l ∷ ts) ≡ None
unfolding extension extension_by infix_by logical comparison arithmetic multiplies_size sees
colon_at l ts = refl

ends_at : (o : Option Extension) → is_some o ≡ false → level_by o ≡ 0
ends_at None h = refl
ends_at (Some x) h = absurd cc

pub no_level : (ts : Tokens) → goes_on ts ≡ false → head_level ts ≡ 0
unfolding goes_on
no_level ts h = ends_at (extension ts) h

at_least_taken : (n : ℕ) (x : Extension) → n ≤ extension_level x → at_least n (Some x) ≡ Some x
at_least_taken n x p = grind (arith, nat_tests)

at_least_left : (n : ℕ) (o : Option Extension) → level_by o < n → at_least n o ≡ None
at_least_left n None p = refl
at_least_left n (Some x) p = grind (arith, nat_tests)

from_taken : (n : ℕ) (x : Extension) (ts : Tokens) → extension ts ≡ Some x → n ≤ extension_level x → extension_from n ts ≡ Some x
unfolding extension_from
from_taken n x ts h p = ap (at_least n) h ∙ at_least_taken n x p

from_left : (n : ℕ) (ts : Tokens) → head_level ts < n → extension_from n ts ≡ None
unfolding extension_from
from_left n ts p = at_least_left n (extension ts) p

module _ (deeper : ℕ → Parser RawExpr) (depth : ℕ) where
  climb_stops : (n turns : ℕ) (a : RawExpr) (ts : Tokens) → head_level ts < n → climb deeper depth n turns a ts ≡ Ok (a, ts)
  unfolding climb
  climb_stops n zero a ts p = refl
  climb_stops n (suc turns) a ts p = ap (λ o. by_option o (Ok (a, ts)) (λ x. and_then (extended deeper depth x a ts) (climb deeper depth n turns))) (from_left n ts p)

  climb_goes : (n turns : ℕ) (a : RawExpr) (ts : Tokens) (x : Extension) → extension ts ≡ Some x → n ≤ extension_level x
      → climb deeper depth n (suc turns) a ts ≡ and_then (extended deeper depth x a ts) (climb deeper depth n turns)
  unfolding climb
  climb_goes n turns a ts x h p = ap (λ o. by_option o (Ok (a, ts)) (λ x. and_then (extended deeper depth x a ts) (climb deeper depth n turns))) (from_taken n x ts h p)

  extended_fits : (x : Extension) (a : RawExpr) (ts : Tokens) → nesting a < depth → extended deeper depth x a ts ≡ extended_by deeper x a (drop 1 ts)
  unfolding extended
  extended_fits x a ts p = grind (arith, nat_tests)

  extended_deep : (x : Extension) (a : RawExpr) (ts : Tokens) → depth ≤ nesting a → extended deeper depth x a ts ≡ Err Deep
  unfolding extended
  extended_deep x a ts p = grind (arith, nat_tests)

  -- one turn of the loop, with what the extension gives
  turn_read : (n turns : ℕ) (a b : RawExpr) (t : Token) (mid rest : Tokens) (x : Extension) → extension (t ∷ mid) ≡ Some x → n ≤ extension_level x → nesting a < depth
      → extended_by deeper x a mid ≡ Ok (b, rest) → climb deeper depth n (suc turns) a (t ∷ mid) ≡ climb deeper depth n turns b rest
  turn_read n turns a b t mid rest x at below fits h =
      climb_goes n turns a (t ∷ mid) x at below
      ∙ ap (λ o. and_then o (climb deeper depth n turns)) (extended_fits x a (t ∷ mid) fits ∙ h)

  -- one turn that stops too deep: in the extension, or since no more may stand above a
  turn_deep : (n turns : ℕ) (a : RawExpr) (t : Token) (mid : Tokens) (x : Extension) → extension (t ∷ mid) ≡ Some x → n ≤ extension_level x → nesting a < depth
      → extended_by deeper x a mid ≡ Err Deep → climb deeper depth n (suc turns) a (t ∷ mid) ≡ Err Deep
  turn_deep n turns a t mid x at below fits h =
      climb_goes n turns a (t ∷ mid) x at below
      ∙ ap (λ o. and_then o (climb deeper depth n turns)) (extended_fits x a (t ∷ mid) fits ∙ h)

  turn_full : (n turns : ℕ) (a : RawExpr) (t : Token) (mid : Tokens) (x : Extension) → extension (t ∷ mid) ≡ Some x → n ≤ extension_level x → depth ≤ nesting a
      → climb deeper depth n (suc turns) a (t ∷ mid) ≡ Err Deep
  turn_full n turns a t mid x at below full =
      climb_goes n turns a (t ∷ mid) x at below ∙ ap (λ o. and_then o (climb deeper depth n turns)) (extended_deep x a (t ∷ mid) full)

-- what each extension gives, by what its parts give
module _ (deeper : ℕ → Parser RawExpr) where
  operand_read : (op : Infix) (a b : RawExpr) (mid rest : Tokens) → deeper (level op + 1) mid ≡ Ok (b, rest) → extended_by deeper (Operator op) a mid ≡ Ok (joint op a b, rest)
  unfolding extended_by with_operand
  operand_read op a b mid rest h = rw h refl

  operand_deep : (op : Infix) (a : RawExpr) (mid : Tokens) → deeper (level op + 1) mid ≡ Err Deep → extended_by deeper (Operator op) a mid ≡ Err Deep
  unfolding extended_by with_operand
  operand_deep op a mid h = rw h refl

  index_read : (a i : RawExpr) (k : ℕ) (mid rest : Tokens) → deeper 1 mid ≡ Ok (i, mark (codes "]") k ∷ rest) → extended_by deeper Bracket a mid ≡ Ok (e.Index a i, rest)
  unfolding extended_by with_index expect sees
  index_read a i k mid rest h = rw h refl

  index_deep : (a : RawExpr) (mid : Tokens) → deeper 1 mid ≡ Err Deep → extended_by deeper Bracket a mid ≡ Err Deep
  unfolding extended_by with_index
  index_deep a mid h = rw h refl

  member_read : (by : Selector) (a : RawExpr) (text : Bytes) (k : ℕ) (rest : Tokens) → is_plain_name text ≡ true → extended_by deeper (Select by) a (name text k ∷ rest) ≡ Ok (selected by a text, rest)
  unfolding extended_by
  member_read by a text k rest h = rw (read_member_at text k rest h) refl

  choice_read : (c a b : RawExpr) (k : ℕ) (mid next rest : Tokens) → deeper 1 mid ≡ Ok (a, mark (codes ":") k ∷ next) → deeper 1 next ≡ Ok (b, rest) → extended_by deeper Question c mid ≡ Ok (e.Choose c a b, rest)
  unfolding extended_by with_choice expect sees
  choice_read c a b k mid next rest h j = rw (h, j) refl

  choice_deep : (c : RawExpr) (mid : Tokens) → deeper 1 mid ≡ Err Deep → extended_by deeper Question c mid ≡ Err Deep
  unfolding extended_by with_choice
  choice_deep c mid h = rw h refl

  choice_deep_after : (c a : RawExpr) (k : ℕ) (mid next : Tokens) → deeper 1 mid ≡ Ok (a, mark (codes ":") k ∷ next) → deeper 1 next ≡ Err Deep → extended_by deeper Question c mid ≡ Err Deep
  unfolding extended_by with_choice expect sees
  choice_deep_after c a k mid next h j = rw (h, j) refl

  -- ---- what an expression begins with

  number_read : (text : Bytes) (l : ℕ) (rest : Tokens) → prefix deeper (number text l ∷ rest) ≡ Ok (e.Constant text, rest)
  unfolding prefix prefix_at atom sees
  number_read text l rest = refl

  character_read : (text : Bytes) (l : ℕ) (rest : Tokens) → prefix deeper (character text l ∷ rest) ≡ Ok (e.Constant text, rest)
  unfolding prefix prefix_at atom sees
  character_read text l rest = refl

  null_read : (l : ℕ) (rest : Tokens) → prefix deeper (name (codes "NULL") l ∷ rest) ≡ Ok (e.Null, rest)
  unfolding prefix prefix_at atom sees is_keyword
  null_read l rest = refl

  eof_read : (l : ℕ) (rest : Tokens) → prefix deeper (name (codes "EOF") l ∷ rest) ≡ Ok (e.Eof, rest)
  unfolding prefix prefix_at atom sees is_keyword
  eof_read l rest = refl

  variable_read : (text : Bytes) (l : ℕ) (rest : Tokens) → is_plain_name text ≡ true → prefix deeper (name text l ∷ rest) ≡ Ok (e.Variable text, rest)
  unfolding prefix prefix_at atom sees
  variable_read text l rest h = let p = plain_name text h in rw (p.free, p.named_is) refl

  paren_read : (l k : ℕ) (ts rest : Tokens) (a : RawExpr) → sees_int_word ts ≡ false → deeper 1 ts ≡ Ok (a, mark (codes ")") k ∷ rest) → prefix deeper (mark (codes "(") l ∷ ts) ≡ Ok (e.Paren a, rest)
  unfolding prefix parenthesized sees expect
  paren_read l k ts rest a isnt h = rw (isnt, h) refl

  paren_deep : (l : ℕ) (ts : Tokens) → sees_int_word ts ≡ false → deeper 1 ts ≡ Err Deep → prefix deeper (mark (codes "(") l ∷ ts) ≡ Err Deep
  unfolding prefix parenthesized sees
  paren_deep l ts isnt h = rw (isnt, h) refl

  cast_read : (l k : ℕ) (ts mid rest : Tokens) (t : IntType) (a : RawExpr) → sees_int_word ts ≡ true → int_type_name ts ≡ Ok (t, mark (codes ")") k ∷ mid) → deeper 12 mid ≡ Ok (a, rest)
      → prefix deeper (mark (codes "(") l ∷ ts) ≡ Ok (e.Cast t a, rest)
  unfolding prefix converted sees expect
  cast_read l k ts mid rest t a is h j = rw (is, h, j) refl

  cast_deep : (l k : ℕ) (ts mid : Tokens) (t : IntType) → sees_int_word ts ≡ true → int_type_name ts ≡ Ok (t, mark (codes ")") k ∷ mid) → deeper 12 mid ≡ Err Deep
      → prefix deeper (mark (codes "(") l ∷ ts) ≡ Err Deep
  unfolding prefix converted sees expect
  cast_deep l k ts mid t is h j = rw (is, h, j) refl

  unary_read : (op : Prefix) (l : ℕ) (ts rest : Tokens) (a : RawExpr) → deeper 12 ts ≡ Ok (a, rest) → prefix deeper (mark (prefix_sign op) l ∷ ts) ≡ Ok (applied op a, rest)
  unfolding prefix prefix_at prefix_by signed sees
  unary_read (Sign Plus) l ts rest a h = rw h refl
  unary_read (Sign Minus) l ts rest a h = rw h refl
  unary_read (Sign Flip) l ts rest a h = rw h refl
  unary_read (Sign Not) l ts rest a h = rw h refl
  unary_read Deref l ts rest a h = rw h refl
  unary_read AddressOf l ts rest a h = rw h refl

  unary_deep : (op : Prefix) (l : ℕ) (ts : Tokens) → deeper 12 ts ≡ Err Deep → prefix deeper (mark (prefix_sign op) l ∷ ts) ≡ Err Deep
  unfolding prefix prefix_at prefix_by signed sees
  unary_deep (Sign Plus) l ts h = rw h refl
  unary_deep (Sign Minus) l ts h = rw h refl
  unary_deep (Sign Flip) l ts h = rw h refl
  unary_deep (Sign Not) l ts h = rw h refl
  unary_deep Deref l ts h = rw h refl
  unary_deep AddressOf l ts h = rw h refl

prefixed : (d n : ℕ) (ts rest : Tokens) (a : RawExpr) → prefix (nested d) ts ≡ Ok (a, rest) → expression d n ts ≡ climb (nested d) d n (length rest) a rest
unfolding expression_with
prefixed d n ts rest a h = rw h refl

prefix_fails : (d n : ℕ) (ts : Tokens) → prefix (nested d) ts ≡ Err Deep → expression d n ts ≡ Err Deep
unfolding expression_with
prefix_fails d n ts h = rw h refl

-- one level deeper
level_down : (d n : ℕ) (ts : Tokens) (o : Outcome RawExpr) → expression d n ts ≡ o → nested (suc d) n ts ≡ o
unfolding nested
level_down d n ts o h = h

-- what is read from ts so far is a, and enough turns are left for the rest
pub record Reached (depth n : ℕ) (ts : Tokens) (a : RawExpr) (rest : Tokens) : Type 0 where
  pub turns : ℕ
  pub enough : length rest ≤ turns
  pub same : expression depth n ts ≡ climb (nested depth) depth n turns a rest

begun : (d n : ℕ) (ts rest : Tokens) (a : RawExpr) → prefix (nested d) ts ≡ Ok (a, rest) → Reached d n ts a rest
begun d n ts rest a h = record { turns = length rest; enough = omega arith; same = prefixed d n ts rest a h }

closes : {d n : ℕ} {ts rest : Tokens} {a : RawExpr} → Reached d n ts a rest → head_level rest < n → expression d n ts ≡ Ok (a, rest)
closes {d} {n} {ts} {rest} {a} r p = r.same ∙ climb_stops (nested d) d n r.turns a rest p

turn_at : (d n : ℕ) (ts : Tokens) (a : RawExpr) (t : Token) (mid : Tokens) (turns : ℕ) → length (t ∷ mid) ≤ turns → expression d n ts ≡ climb (nested d) d n turns a (t ∷ mid)
    → (turns : ℕ) × (length mid ≤ turns) × (expression d n ts ≡ climb (nested d) d n (suc turns) a (t ∷ mid))
turn_at d n ts a t mid zero enough same = absurd (omega arith)
turn_at d n ts a t mid (suc turns) enough same = (turns, omega arith, same)

-- a list with a token in front has a turn left for it
turn_left : {d n : ℕ} {ts : Tokens} {a : RawExpr} {t : Token} {mid : Tokens} → Reached d n ts a (t ∷ mid)
    → (turns : ℕ) × (length mid ≤ turns) × (expression d n ts ≡ climb (nested d) d n (suc turns) a (t ∷ mid))
turn_left {d} {n} {ts} {a} {t} {mid} r = turn_at d n ts a t mid r.turns r.enough r.same

-- one more extension
goes : {d n : ℕ} {ts : Tokens} {a : RawExpr} {t : Token} {mid : Tokens} (b : RawExpr) (rest : Tokens) (x : Extension) → Reached d n ts a (t ∷ mid)
    → extension (t ∷ mid) ≡ Some x → n ≤ extension_level x → nesting a < d → extended_by (nested d) x a mid ≡ Ok (b, rest) → length rest ≤ length mid → Reached d n ts b rest
goes {d} {n} {ts} {a} {t} {mid} b rest x r at below fits h fewer =
    let left = turn_left r in
    record { turns = left.0; enough = omega (arith, left.1); same = left.2 ∙ turn_read (nested d) d n left.0 a b t mid rest x at below fits h }

binary_low : (op : BinaryOp) → binary_level op ≤ 11
binary_low Mul = omega arith
binary_low Div = omega arith
binary_low Rem = omega arith
binary_low Add = omega arith
binary_low Sub = omega arith
binary_low Shl = omega arith
binary_low Shr = omega arith
binary_low Less = omega arith
binary_low Greater = omega arith
binary_low AtMost = omega arith
binary_low AtLeast = omega arith
binary_low Equal = omega arith
binary_low Unequal = omega arith
binary_low And = omega arith
binary_low Xor = omega arith
binary_low Or = omega arith

binary_high : (op : BinaryOp) → 2 ≤ binary_level op
binary_high Mul = omega arith
binary_high Div = omega arith
binary_high Rem = omega arith
binary_high Add = omega arith
binary_high Sub = omega arith
binary_high Shl = omega arith
binary_high Shr = omega arith
binary_high Less = omega arith
binary_high Greater = omega arith
binary_high AtMost = omega arith
binary_high AtLeast = omega arith
binary_high Equal = omega arith
binary_high Unequal = omega arith
binary_high And = omega arith
binary_high Xor = omega arith
binary_high Or = omega arith

pub level_low : (op : Infix) → level op ≤ 11
level_low OrElse = omega arith
level_low AndAlso = omega arith
level_low (Strict op) = binary_low op

pub level_high : (op : Infix) → 2 ≤ level op
level_high OrElse = omega arith
level_high AndAlso = omega arith
level_high (Strict op) = binary_high op

-- no extension binds as a sign or a cast does
level_gap : (o : Option Extension) → level_by o ≤ 13 → level_by o < 12
level_gap None p = omega arith
level_gap (Some (Operator OrElse)) p = omega arith
level_gap (Some (Operator AndAlso)) p = omega arith
level_gap (Some (Operator (Strict op))) p = let q = binary_low op in omega (arith, q)
level_gap (Some Question) p = omega arith
level_gap (Some Bracket) p = absurd (omega arith)
level_gap (Some (Select by)) p = absurd (omega arith)

pub infix_loose : (op : Infix) (l : ℕ) (ts : Tokens) → sees Name (codes "sizeof") ts ≡ false → head_level (mark (sign op) l ∷ ts) ≡ level op
infix_loose op l ts h = ap level_by (infix_at op l ts h)

pub bracket_loose : (l : ℕ) (ts : Tokens) → head_level (mark (codes "[") l ∷ ts) ≡ 14
bracket_loose l ts = ap level_by (bracket_at l ts)

pub selector_loose : (by : Selector) (l : ℕ) (ts : Tokens) → head_level (mark (selector_sign by) l ∷ ts) ≡ 14
selector_loose by l ts = ap level_by (selector_at by l ts)

pub question_loose : (l : ℕ) (ts : Tokens) → head_level (mark (codes "?") l ∷ ts) ≡ 1
question_loose l ts = ap level_by (question_at l ts)

close_loose : (l : ℕ) (ts : Tokens) → head_level (mark (codes ")") l ∷ ts) ≡ 0
close_loose l ts = ap level_by (close_at l ts)

end_loose : (l : ℕ) (ts : Tokens) → head_level (mark (codes "]") l ∷ ts) ≡ 0
end_loose l ts = ap level_by (end_at l ts)

colon_loose : (l : ℕ) (ts : Tokens) → head_level (mark (codes ":") l ∷ ts) ≡ 0
colon_loose l ts = ap level_by (colon_at l ts)

-- ---- each expression is read

pub reached : {m : ℕ} {ts rest : Tokens} {a : RawExpr} → IsExpr m ts a rest → (d n : ℕ) → n ≤ m → 1 ≤ n → head_level rest ≤ m → (m ≤ 1 → head_level rest ≡ 0) → nesting a ≤ d → Reached d n ts a rest
reached (number_constant {l} {text} {rest}) d n below some loose ends fits = begun d n _ rest _ (number_read (nested d) text l rest)
reached (character_constant {l} {text} {rest}) d n below some loose ends fits = begun d n _ rest _ (character_read (nested d) text l rest)
reached (null {l} {rest}) d n below some loose ends fits = begun d n _ rest _ (null_read (nested d) l rest)
reached (eof {l} {rest}) d n below some loose ends fits = begun d n _ rest _ (eof_read (nested d) l rest)
reached (variable {l} {text} {rest} h) d n below some loose ends fits = begun d n _ rest _ (variable_read (nested d) text l rest h)
reached (paren {a} h) zero n below some loose ends fits = absurd (omega (arith, nesting-Paren a))
reached (paren {l} {m = k} {ts} {rest} {a} h) (suc d) n below some loose ends fits =
    let none = close_loose k rest in
    let inner : expression d 1 ts ≡ Ok (a, mark (codes ")") k ∷ rest) = closes (reached h d 1 (omega arith) (omega arith) (omega (arith, none)) (λ q. none) (omega (arith, nesting-Paren a))) (omega (arith, none)) in
    begun (suc d) n _ rest _ (paren_read (nested (suc d)) l k ts rest a (begins_expr h).no_type (level_down d 1 ts _ inner))
reached (unary {a} op p h) zero n below some loose ends fits = absurd (omega (arith, nesting-applied op a))
reached (unary {l} {ts} {rest} {a} op p h) (suc d) n below some loose ends fits =
    let close : head_level rest < 12 = level_gap (extension rest) (omega arith) in
    let inner : expression d 12 ts ≡ Ok (a, rest) = closes (reached h d 12 (omega arith) (omega arith) (omega (arith, close)) (λ q. omega arith) (omega (arith, nesting-applied op a))) close in
    begun (suc d) n _ rest _ (unary_read (nested (suc d)) op l ts rest a (level_down d 12 ts _ inner))
reached (cast {t} {a} p h k) zero n below some loose ends fits = absurd (omega (arith, nesting-Cast t a))
reached (cast {l} {m = j} {ts} {mid} {rest} {t} {a} p h k) (suc d) n below some loose ends fits =
    let close : head_level rest < 12 = level_gap (extension rest) (omega arith) in
    let inner : expression d 12 mid ≡ Ok (a, rest) = closes (reached k d 12 (omega arith) (omega arith) (omega (arith, close)) (λ q. omega arith) (omega (arith, nesting-Cast t a))) close in
    begun (suc d) n _ rest _ (cast_read (nested (suc d)) l j ts mid rest t a (int_type_begins h) (int_type_read h) (level_down d 12 mid _ inner))
reached (index {a} {i} p h k) zero n below some loose ends fits = absurd (omega (arith, nesting-Index a i))
reached (index {l} {m = j} {ts} {mid} {rest} {a} {i} p h k) (suc d) n below some loose ends fits =
    let none = end_loose j rest in
    let left = reached h (suc d) n (omega arith) some (omega (arith, bracket_loose l mid)) (λ q. omega arith) (omega (arith, nesting-Index a i)) in
    let inner : expression d 1 mid ≡ Ok (i, mark (codes "]") j ∷ rest) = closes (reached k d 1 (omega arith) (omega arith) (omega (arith, none)) (λ q. none) (omega (arith, nesting-Index a i))) (omega (arith, none)) in
    goes (e.Index a i) rest Bracket left (bracket_at l mid) (omega arith) (omega (arith, nesting-Index a i)) (index_read (nested (suc d)) a i j mid rest (level_down d 1 mid _ inner)) (omega (arith, shorter k))
reached (member {a} {text} by p h free) zero n below some loose ends fits = absurd (omega (arith, nesting-selected by a text))
reached (member {l} {m = j} {ts} {rest} {a} {text} by p h free) (suc d) n below some loose ends fits =
    let left = reached h (suc d) n (omega arith) some (omega (arith, selector_loose by l (name text j ∷ rest))) (λ q. omega arith) (omega (arith, nesting-selected by a text)) in
    goes (selected by a text) rest (Select by) left (selector_at by l (name text j ∷ rest)) (omega arith) (omega (arith, nesting-selected by a text)) (member_read (nested (suc d)) by a text j rest free) (omega arith)
reached (binary {a} {b} op p h k) zero n below some loose ends fits = absurd (omega (arith, nesting-joint op a b))
reached (binary {l} {ts} {mid} {rest} {a} {b} op p h k) (suc d) n below some loose ends fits =
    let size = no_size (begins_expr k) in
    let high = level_high op in
    let left = reached h (suc d) n (omega arith) some (omega (arith, infix_loose op l mid size)) (λ q. omega (arith, high)) (omega (arith, nesting-joint op a b)) in
    let inner : expression d (level op + 1) mid ≡ Ok (b, rest) = closes (reached k d (level op + 1) (omega arith) (omega arith) (omega arith) (λ q. omega (arith, high)) (omega (arith, nesting-joint op a b))) (omega arith) in
    goes (joint op a b) rest (Operator op) left (infix_at op l mid size) (omega arith) (omega (arith, nesting-joint op a b)) (operand_read (nested (suc d)) op a b mid rest (level_down d (level op + 1) mid _ inner)) (omega (arith, shorter k))
reached (choose {c} {a} {b} p h k j) zero n below some loose ends fits = absurd (omega (arith, nesting-Choose c a b))
reached (choose {l} {m = i} {ts} {mid} {next} {rest} {c} {a} {b} p h k j) (suc d) n below some loose ends fits =
    let left = reached h (suc d) n (omega arith) some (omega (arith, question_loose l mid)) (λ q. omega arith) (omega (arith, nesting-Choose c a b)) in
    let none = colon_loose i next in
    let free : head_level rest ≡ 0 = ends (omega arith) in
    let first : expression d 1 mid ≡ Ok (a, mark (codes ":") i ∷ next) = closes (reached k d 1 (omega arith) (omega arith) (omega (arith, none)) (λ q. none) (omega (arith, nesting-Choose c a b))) (omega (arith, none)) in
    let second : expression d 1 next ≡ Ok (b, rest) = closes (reached j d 1 (omega arith) (omega arith) (omega (arith, free)) (λ q. free) (omega (arith, nesting-Choose c a b))) (omega (arith, free)) in
    goes (e.Choose c a b) rest Question left (question_at l mid) (omega arith) (omega (arith, nesting-Choose c a b)) (choice_read (nested (suc d)) c a b i mid next rest (level_down d 1 mid _ first) (level_down d 1 next _ second)) (omega (arith, shorter k, shorter j))

-- ---- trees that nest too deep

pub nested_deep : (d n : ℕ) (ts : Tokens) → ((k : ℕ) → d ≡ suc k → expression k n ts ≡ Err Deep) → nested d n ts ≡ Err Deep
unfolding nested
nested_deep zero n ts f = refl
nested_deep (suc d) n ts f = f d refl

-- one more extension would nest too deep
full : {d n : ℕ} {ts : Tokens} {a : RawExpr} {t : Token} {mid : Tokens} (x : Extension) → Reached d n ts a (t ∷ mid) → extension (t ∷ mid) ≡ Some x → n ≤ extension_level x
    → (nesting a < d → extended_by (nested d) x a mid ≡ Err Deep) → expression d n ts ≡ Err Deep
full {d} {n} {ts} {a} {t} {mid} x r at below inner =
    let left = turn_left r in
    left.2 ∙ elim (cases_lt (nesting a) d) [
      | inl q ↦ turn_deep (nested d) d n left.0 a t mid x at below q (inner q)
      | inr q ↦ turn_full (nested d) d n left.0 a t mid x at below q
    ]

-- what is read one level deeper, or not
below_level : (d n : ℕ) (ts : Tokens) (o : Outcome RawExpr) → 0 < d → ((k : ℕ) → d ≡ suc k → expression k n ts ≡ o) → nested d n ts ≡ o
unfolding nested
below_level zero n ts o some f = absurd (omega arith)
below_level (suc d) n ts o some f = f d refl

pub too_deep : {m : ℕ} {ts rest : Tokens} {a : RawExpr} → IsExpr m ts a rest → (d n : ℕ) → n ≤ m → 1 ≤ n → head_level rest ≤ m → (m ≤ 1 → head_level rest ≡ 0) → d < nesting a → expression d n ts ≡ Err Deep
too_deep (number_constant {text}) d n below some loose ends deep = absurd (omega (arith, nesting-Constant text))
too_deep (character_constant {text}) d n below some loose ends deep = absurd (omega (arith, nesting-Constant text))
too_deep null d n below some loose ends deep = absurd (omega (arith, nesting-Null))
too_deep eof d n below some loose ends deep = absurd (omega (arith, nesting-Eof))
too_deep (variable {text} h) d n below some loose ends deep = absurd (omega (arith, nesting-Variable text))
too_deep (paren {l} {m = k} {ts} {rest} {a} h) d n below some loose ends deep =
    let none = close_loose k rest in
    prefix_fails d n _ (paren_deep (nested d) l ts (begins_expr h).no_type
    (nested_deep d 1 ts (λ b is. too_deep h b 1 (omega arith) (omega arith) (omega (arith, none)) (λ q. none) (omega (arith, nesting-Paren a)))))
too_deep (unary {l} {ts} {rest} {a} op p h) d n below some loose ends deep =
    let close : head_level rest < 12 = level_gap (extension rest) (omega arith) in
    prefix_fails d n _ (unary_deep (nested d) op l ts
    (nested_deep d 12 ts (λ b is. too_deep h b 12 (omega arith) (omega arith) (omega (arith, close)) (λ q. omega arith) (omega (arith, nesting-applied op a)))))
too_deep (cast {l} {m = j} {ts} {mid} {rest} {t} {a} p h k) d n below some loose ends deep =
    let close : head_level rest < 12 = level_gap (extension rest) (omega arith) in
    prefix_fails d n _ (cast_deep (nested d) l j ts mid t (int_type_begins h) (int_type_read h)
    (nested_deep d 12 mid (λ b is. too_deep k b 12 (omega arith) (omega arith) (omega (arith, close)) (λ q. omega arith) (omega (arith, nesting-Cast t a)))))
too_deep (index {l} {m = j} {ts} {mid} {rest} {a} {i} p h k) d n below some loose ends deep =
    let none = end_loose j rest in
    elim (cases_lt d (nesting a)) [
      | inl q ↦ too_deep h d n (omega arith) some (omega (arith, bracket_loose l mid)) (λ q. omega arith) q
      | inr q ↦ full Bracket (reached h d n (omega arith) some (omega (arith, bracket_loose l mid)) (λ q. omega arith) q) (bracket_at l mid) (omega arith)
          (λ r. index_deep (nested d) a mid (nested_deep d 1 mid (λ b is. too_deep k b 1 (omega arith) (omega arith) (omega (arith, none)) (λ q. none) (omega (arith, nesting-Index a i)))))
    ]
too_deep (member {l} {m = j} {ts} {rest} {a} {text} by p h free) d n below some loose ends deep =
    let low = selector_loose by l (name text j ∷ rest) in
    elim (cases_lt d (nesting a)) [
      | inl q ↦ too_deep h d n (omega arith) some (omega (arith, low)) (λ q. omega arith) q
      | inr q ↦ full (Select by) (reached h d n (omega arith) some (omega (arith, low)) (λ q. omega arith) q) (selector_at by l (name text j ∷ rest)) (omega arith)
          (λ r. absurd (omega (arith, nesting-selected by a text)))
    ]
too_deep (binary {l} {ts} {mid} {rest} {a} {b} op p h k) d n below some loose ends deep =
    let size = no_size (begins_expr k) in
    let high = level_high op in
    let low = infix_loose op l mid size in
    elim (cases_lt d (nesting a)) [
      | inl q ↦ too_deep h d n (omega arith) some (omega (arith, low)) (λ q. omega (arith, high)) q
      | inr q ↦ full (Operator op) (reached h d n (omega arith) some (omega (arith, low)) (λ q. omega (arith, high)) q) (infix_at op l mid size) (omega arith)
          (λ r. operand_deep (nested d) op a mid (nested_deep d (level op + 1) mid (λ c is. too_deep k c (level op + 1) (omega arith) (omega arith) (omega arith) (λ q. omega (arith, high)) (omega (arith, nesting-joint op a b)))))
    ]
too_deep (choose {l} {m = i} {ts} {mid} {next} {rest} {c} {a} {b} p h k j) d n below some loose ends deep =
    let none = colon_loose i next in
    let free : head_level rest ≡ 0 = ends (omega arith) in
    let low = question_loose l mid in
    elim (cases_lt d (nesting c)) [
      | inl q ↦ too_deep h d n (omega arith) some (omega (arith, low)) (λ q. omega arith) q
      | inr q ↦ full Question (reached h d n (omega arith) some (omega (arith, low)) (λ q. omega arith) q) (question_at l mid) (omega arith)
          (λ r. elim (cases_lt (nesting a) d) [
            | inl fits ↦ choice_deep_after (nested d) c a i mid next
                (below_level d 1 mid _ (omega arith) (λ b is. closes (reached k b 1 (omega arith) (omega arith) (omega (arith, none)) (λ q. none) (omega arith)) (omega (arith, none))))
                (nested_deep d 1 next (λ u is. too_deep j u 1 (omega arith) (omega arith) (omega (arith, free)) (λ q. free) (omega (arith, nesting-Choose c a b))))
            | inr high ↦ choice_deep (nested d) c mid (nested_deep d 1 mid (λ u is. too_deep k u 1 (omega arith) (omega arith) (omega (arith, none)) (λ q. none) (omega arith)))
          ])
    ]

-- ---- what is read of an expression of the grammar

-- a parser with a limit answers for a tree of some nesting: it reads the tree where it fits, and else says that it is too deep
pub record Exact (limit m : ℕ) {A : Type 0} (read : Outcome A) (a : A) (rest : Tokens) : Type 0 where
  pub fits : m ≤ limit → read ≡ Ok (a, rest)
  pub deep : limit < m → read ≡ Err Deep

pub level_exact : {n : ℕ} {ts rest : Tokens} {a : RawExpr} → IsExpr n ts a rest → 2 ≤ n → head_level rest < n → (d : ℕ) → Exact d (nesting a) (expression d n ts) a rest
level_exact {n} h some loose d = record {
  fits = λ q. closes (reached h d n (omega arith) (omega arith) (omega arith) (λ r. omega arith) q) loose;
  deep = λ q. too_deep h d n (omega arith) (omega arith) (omega arith) (λ r. omega arith) q;
}

pub expression_exact : {ts rest : Tokens} {a : RawExpr} → IsExpr 1 ts a rest → goes_on rest ≡ false → (d : ℕ) → Exact d (nesting a) (expression d 1 ts) a rest
expression_exact {ts} {rest} h free d =
    let none = no_level rest free in
    record {
      fits = λ q. closes (reached h d 1 (omega arith) (omega arith) (omega (arith, none)) (λ r. none) q) (omega (arith, none));
      deep = λ q. too_deep h d 1 (omega arith) (omega arith) (omega (arith, none)) (λ r. none) q;
    }

-- the same for an expression that stands under a node of its own
pub nested_exact : {ts rest : Tokens} {a : RawExpr} → IsExpr 1 ts a rest → goes_on rest ≡ false → (d : ℕ) → Exact d (1 + nesting a) (nested d 1 ts) a rest
nested_exact {ts} {rest} {a} h free d = record {
  fits = λ q. below_level d 1 ts _ (omega arith) (λ k is. (expression_exact h free k).fits (omega arith));
  deep = λ q. nested_deep d 1 ts (λ k is. (expression_exact h free k).deep (omega arith));
}

-- The tree of an expression, and where it ends, are determined by the tokens.
pub one_expr : {ts rest other : Tokens} {a b : RawExpr} → IsExpr 1 ts a rest → goes_on rest ≡ false → IsExpr 1 ts b other → goes_on other ≡ false → (a ≡ b) × (rest ≡ other)
one_expr {ts} {rest} {other} {a} {b} h loose k free =
    let one : expression (nesting a + nesting b) 1 ts ≡ Ok (a, rest) = (expression_exact h loose (nesting a + nesting b)).fits (omega arith) in
    let two : expression (nesting a + nesting b) 1 ts ≡ Ok (b, other) = (expression_exact k free (nesting a + nesting b)).fits (omega arith) in
    ok_parts (sym one ∙ two)
