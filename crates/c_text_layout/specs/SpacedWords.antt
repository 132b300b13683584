-- The words of an expression of a text, where a blank stands between two tokens that would else be one: between two `&`
-- of which each takes an address, and between a constant and a selector. No text that keeps the rules has either.
use Rattle.std.specs.Prelude.{Bool, true, false, if◌then◌else◌, [], ◌++◌, codes}
use Rattle.c_tree.specs.declared.raw.expr.RawExpr.{RawExpr, fold-RawExpr}
use Rattle.c_tree.specs.declared.raw.expr.RawExpr.TheOpen.{RawExpr-F}
use Rattle.c_language.specs.Words.{Bytes, binary_sign, int_words, signed}

-- the words of an expression, and whether it is a constant, or an address
pub record Spaced : Type 0 where
  pub words : Bytes
  pub is_constant : Bool
  pub is_address : Bool

abbrev pub constant_words : Bytes → Spaced
constant_words w = record { words = w; is_constant = true; is_address = false }

abbrev pub address_words : Bytes → Spaced
address_words w = record { words = w; is_constant = false; is_address = true }

abbrev pub other_words : Bytes → Spaced
other_words w = record { words = w; is_constant = false; is_address = false }

-- a blank where it is needed
abbrev pub blank_if : Bool → Bytes
blank_if b = if b then codes " " else []

abbrev pub spaced_step : RawExpr-F Spaced → Spaced
spaced_step (RawExpr-F.Constant text) = constant_words text
spaced_step RawExpr-F.Null = other_words (codes "NULL")
spaced_step RawExpr-F.Eof = other_words (codes "EOF")
spaced_step (RawExpr-F.Variable name) = other_words name
spaced_step (RawExpr-F.Unary op a) = other_words (signed op a.words)
spaced_step (RawExpr-F.Deref a) = other_words (codes "*" ++ a.words)
spaced_step (RawExpr-F.AddressOf a) = address_words (codes "&" ++ (blank_if a.is_address ++ a.words))
spaced_step (RawExpr-F.Binary op a b) = other_words (a.words ++ (codes " " ++ (binary_sign op ++ (codes " " ++ b.words))))
spaced_step (RawExpr-F.AndAlso a b) = other_words (a.words ++ (codes " && " ++ b.words))
spaced_step (RawExpr-F.OrElse a b) = other_words (a.words ++ (codes " || " ++ b.words))
spaced_step (RawExpr-F.Choose c a b) = other_words (c.words ++ (codes " ? " ++ (a.words ++ (codes " : " ++ b.words))))
spaced_step (RawExpr-F.Cast t a) = other_words (codes "(" ++ (int_words t ++ (codes ")" ++ a.words)))
spaced_step (RawExpr-F.Index a i) = other_words (a.words ++ (codes "[" ++ (i.words ++ codes "]")))
spaced_step (RawExpr-F.Member a m) = other_words (a.words ++ (blank_if a.is_constant ++ (codes "." ++ m)))
spaced_step (RawExpr-F.Arrow a m) = other_words (a.words ++ (blank_if a.is_constant ++ (codes "->" ++ m)))
spaced_step (RawExpr-F.Paren a) = other_words (codes "(" ++ (a.words ++ codes ")"))

abbrev pub spaced : RawExpr → Spaced
spaced = fold-RawExpr Spaced spaced_step

-- the words of an expression of a text, of which no two make one token
abbrev pub spaced_words : RawExpr → Bytes
spaced_words a = (spaced a).words
