-- Reading expressions from left to right, as the parser does it.
use Rattle.std.specs.Prelude.{ℕ, zero, suc, ◌+◌, Bool, not, ◌&&◌, ◌||◌, [], ◌∷◌, length, drop, codes, slice_get, Option, Some, None, is_some, Ok, Err, if◌then◌else◌, nat_le, nat_lt}
use Rattle.std.specs.Str.{bytes_eq}
use Rattle.std.specs.Option.{option_map, option_or}
use Rattle.c_arith.specs.declared.operators.UnaryOp.TheVariants.{Plus, Minus, Flip, Not}
use Rattle.c_arith.specs.declared.operators.BinaryOp.TheVariants.{Mul, Div, Rem, Add, Sub, Shl, Shr, Less, Greater, AtMost, AtLeast, Equal, Unequal, And, Xor, Or}
use Rattle.c_tree.specs.declared.raw.expr.RawExpr.{RawExpr}
use Rattle.c_tree.specs.declared.raw.expr.RawExpr.TheVariants as e
use Rattle.c_language.specs.Words.{Bytes}
use Rattle.c_language.specs.TokenForms.{Tokens}
use Rattle.c_language.specs.Sees.{sees, sees_second, is_kind, is_keyword}
use Rattle.c_language.specs.IntWords.{sees_int_word}
use Rattle.c_language.specs.ExprGrammar.{level, cast_level, postfix_level, conditional_level, joint, applied, selected, is_plain_name}
use Rattle.c_language.specs.Nesting.{nesting}
use Rattle.c_language.specs.declared.token.TokenKind.TheVariants.{Name, Number, Character, Mark}
use Rattle.c_language.specs.declared.operators.Infix.{Infix}
use Rattle.c_language.specs.declared.operators.Infix.TheVariants.{Strict, AndAlso, OrElse}
use Rattle.c_language.specs.declared.operators.Prefix.{Prefix}
use Rattle.c_language.specs.declared.operators.Prefix.TheVariants.{Sign, Deref, AddressOf}
use Rattle.c_language.specs.declared.operators.Selector.TheVariants.{Dot, Arrow}
use Rattle.c_parse_expr.specs.declared.extension.Extension.{Extension}
use Rattle.c_parse_expr.specs.declared.extension.Extension.TheVariants.{Operator, Question, Bracket, Select}
use Rattle.c_parse_expr.specs.Outcome.{Parser, and_then, by_option, text_by, refused, Deep, expect}
use Rattle.c_parse_expr.specs.IntReading.{int_type_name}

-- ---- operators

unfoldable pub logical : Bytes → Option Infix
logical w =
    if bytes_eq w (codes "||") then Some OrElse
    else if bytes_eq w (codes "&&") then Some AndAlso
    else if bytes_eq w (codes "|") then Some (Strict Or)
    else if bytes_eq w (codes "^") then Some (Strict Xor)
    else if bytes_eq w (codes "&") then Some (Strict And)
    else None

unfoldable pub comparison : Bytes → Option Infix
comparison w =
    if bytes_eq w (codes "==") then Some (Strict Equal)
    else if bytes_eq w (codes "!=") then Some (Strict Unequal)
    else if bytes_eq w (codes "<") then Some (Strict Less)
    else if bytes_eq w (codes ">") then Some (Strict Greater)
    else if bytes_eq w (codes "<=") then Some (Strict AtMost)
    else if bytes_eq w (codes ">=") then Some (Strict AtLeast)
    else None

unfoldable pub arithmetic : Bytes → Option Infix
arithmetic w =
    if bytes_eq w (codes "<<") then Some (Strict Shl)
    else if bytes_eq w (codes ">>") then Some (Strict Shr)
    else if bytes_eq w (codes "+") then Some (Strict Add)
    else if bytes_eq w (codes "-") then Some (Strict Sub)
    else if bytes_eq w (codes "*") then Some (Strict Mul)
    else if bytes_eq w (codes "/") then Some (Strict Div)
    else if bytes_eq w (codes "%") then Some (Strict Rem)
    else None

unfoldable pub infix_by : Bytes → Option Infix
infix_by w = option_or (logical w) (option_or (comparison w) (arithmetic w))

unfoldable pub extension_by : Bytes → Option Extension
extension_by w =
    if bytes_eq w (codes "[") then Some Bracket
    else if bytes_eq w (codes ".") then Some (Select Dot)
    else if bytes_eq w (codes "->") then Some (Select Arrow)
    else if bytes_eq w (codes "?") then Some Question
    else option_map Operator (infix_by w)

-- a `*` before a size, which no expression goes on with
unfoldable pub multiplies_size : Tokens → Bool
multiplies_size ts = sees Mark (codes "*") ts && sees_second Name (codes "sizeof") ts

-- what goes on with an expression in front of these tokens
unfoldable pub extension : Tokens → Option Extension
extension ts = if multiplies_size ts then None else text_by Mark extension_by (slice_get ts 0)

-- an expression in front of these tokens goes on with them
unfoldable pub goes_on : Tokens → Bool
goes_on ts = is_some (extension ts)

abbrev pub extension_level : Extension → ℕ
extension_level (Operator op) = level op
extension_level Question = conditional_level
extension_level Bracket = postfix_level
extension_level (Select by) = postfix_level

abbrev pub at_least : ℕ → Option Extension → Option Extension
at_least n None = None
at_least n (Some x) = if nat_le n (extension_level x) then Some x else None

-- the extension at the front that binds at least as tightly as n
unfoldable pub extension_from : ℕ → Tokens → Option Extension
extension_from n ts = at_least n (extension ts)

unfoldable pub prefix_by : Bytes → Option Prefix
prefix_by w =
    if bytes_eq w (codes "+") then Some (Sign Plus)
    else if bytes_eq w (codes "-") then Some (Sign Minus)
    else if bytes_eq w (codes "~") then Some (Sign Flip)
    else if bytes_eq w (codes "!") then Some (Sign Not)
    else if bytes_eq w (codes "*") then Some Deref
    else if bytes_eq w (codes "&") then Some AddressOf
    else None

-- the operator at the front that stands before its operand
unfoldable pub prefix_at : Tokens → Option Prefix
prefix_at ts = text_by Mark prefix_by (slice_get ts 0)

-- ---- expressions

abbrev pub named : Bytes → RawExpr
named w = if bytes_eq w (codes "NULL") then e.Null else if bytes_eq w (codes "EOF") then e.Eof else e.Variable w

-- a token that is an expression by itself
unfoldable pub atom : Parser RawExpr
atom [] = refused []
atom (t ∷ ts) =
    if is_kind Number t || is_kind Character t then Ok (e.Constant t.text, ts)
    else if is_kind Name t && not (is_keyword t.text) then Ok (named t.text, ts)
    else refused (t ∷ ts)

-- the name of a member
unfoldable pub read_member : Parser Bytes
read_member [] = refused []
read_member (t ∷ ts) = if is_kind Name t && is_plain_name t.text then Ok (t.text, ts) else refused (t ∷ ts)

-- The parameter reads an expression that is nested one deeper, and binds at least as tightly as a number.
module _ (deeper : ℕ → Parser RawExpr) where
  unfoldable pub parenthesized : Parser RawExpr
  parenthesized ts = and_then (deeper conditional_level ts) (λ a ts. and_then (expect (codes ")") ts) (λ _ ts. Ok (e.Paren a, ts)))

  unfoldable pub converted : Parser RawExpr
  converted ts = and_then (int_type_name ts) (λ t ts. and_then (expect (codes ")") ts) (λ _ ts. and_then (deeper cast_level ts) (λ a ts. Ok (e.Cast t a, ts))))

  unfoldable pub signed : Prefix → Parser RawExpr
  signed op ts = and_then (deeper cast_level ts) (λ a ts. Ok (applied op a, ts))

  -- an expression without an extension; a word of a type behind a parenthesis tells a cast
  unfoldable pub prefix : Parser RawExpr
  prefix ts =
      if sees Mark (codes "(") ts then (if sees_int_word (drop 1 ts) then converted (drop 1 ts) else parenthesized (drop 1 ts))
      else by_option (prefix_at ts) (atom ts) (λ op. signed op (drop 1 ts))

  unfoldable pub with_operand : Infix → RawExpr → Parser RawExpr
  with_operand op a ts = and_then (deeper (level op + 1) ts) (λ b ts. Ok (joint op a b, ts))

  unfoldable pub with_choice : RawExpr → Parser RawExpr
  with_choice c ts = and_then (deeper conditional_level ts) (λ a ts. and_then (expect (codes ":") ts) (λ _ ts. and_then (deeper conditional_level ts) (λ b ts. Ok (e.Choose c a b, ts))))

  unfoldable pub with_index : RawExpr → Parser RawExpr
  with_index a ts = and_then (deeper conditional_level ts) (λ i ts. and_then (expect (codes "]") ts) (λ _ ts. Ok (e.Index a i, ts)))

  unfoldable pub extended_by : Extension → RawExpr → Parser RawExpr
  extended_by (Operator op) a ts = with_operand op a ts
  extended_by Question a ts = with_choice a ts
  extended_by Bracket a ts = with_index a ts
  extended_by (Select by) a ts = and_then (read_member ts) (λ m ts. Ok (selected by a m, ts))

  module _ (depth : ℕ) where
    -- a nests at most as deep as allowed, and one level less where an extension follows
    unfoldable pub extended : Extension → RawExpr → Parser RawExpr
    extended x a ts = if nat_lt (nesting a) depth then extended_by x a (drop 1 ts) else Err Deep

    -- reads extensions, of which there are no more than tokens
    unfoldable pub climb : ℕ → ℕ → RawExpr → Parser RawExpr
    climb n zero a ts = Ok (a, ts)
    climb n (suc turns) a ts = by_option (extension_from n ts) (Ok (a, ts)) (λ x. and_then (extended x a ts) (climb n turns))

    unfoldable pub expression_with : ℕ → Parser RawExpr
    expression_with n ts = and_then (prefix ts) (λ a ts. climb n (length ts) a ts)

-- an expression that nests less deep than the first number, and binds at least as tightly as the second
unfoldable pub nested : ℕ → ℕ → Parser RawExpr
nested zero n ts = Err Deep
nested (suc depth) n ts = expression_with (nested depth) depth n ts

-- an expression that nests at most as deep as the first number
abbrev pub expression : ℕ → ℕ → Parser RawExpr
expression depth n ts = expression_with (nested depth) depth n ts
