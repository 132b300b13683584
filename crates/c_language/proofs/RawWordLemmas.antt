-- The words of each form of expression of a text, as equations.
use Rattle.std.proofs.Common.{◌≡◌, ◌∷◌, ◌++◌, codes, sym, ap, ◌∙◌}
use Rattle.c_arith.specs.declared.int_type.IntType.{IntType}
use Rattle.c_arith.specs.declared.operators.UnaryOp.{UnaryOp}
use Rattle.c_arith.specs.declared.operators.BinaryOp.{BinaryOp}
use Rattle.c_tree.specs.declared.raw.expr.RawExpr.{RawExpr, fold-roll-RawExpr}
use Rattle.c_tree.specs.declared.raw.expr.RawExpr.TheOpen.{RawExpr-F}
use Rattle.c_tree.specs.declared.raw.expr.RawExpr.TheVariants as e
use Rattle.c_language.specs.Words.{Bytes, binary_sign, int_words, signed}
use Rattle.c_language.specs.ProgramOf.{raw_words_step, raw_words}

pub raw_words-Constant : (text : Bytes) → raw_words (e.Constant text) ≡ text
raw_words-Constant text = ap raw_words (sym (e.rolls-Constant text)) ∙ fold-roll-RawExpr Bytes raw_words_step (RawExpr-F.Constant text)

pub raw_words-Null : raw_words e.Null ≡ codes "NULL"
raw_words-Null = ap raw_words (sym e.rolls-Null) ∙ fold-roll-RawExpr Bytes raw_words_step RawExpr-F.Null

pub raw_words-Eof : raw_words e.Eof ≡ codes "EOF"
raw_words-Eof = ap raw_words (sym e.rolls-Eof) ∙ fold-roll-RawExpr Bytes raw_words_step RawExpr-F.Eof

pub raw_words-Variable : (name : Bytes) → raw_words (e.Variable name) ≡ name
raw_words-Variable name = ap raw_words (sym (e.rolls-Variable name)) ∙ fold-roll-RawExpr Bytes raw_words_step (RawExpr-F.Variable name)

pub raw_words-Unary : (op : UnaryOp) (a : RawExpr) → raw_words (e.Unary op a) ≡ signed op (raw_words a)
raw_words-Unary op a = ap raw_words (sym (e.rolls-Unary op a)) ∙ fold-roll-RawExpr Bytes raw_words_step (RawExpr-F.Unary op a)

pub raw_words-Deref : (a : RawExpr) → raw_words (e.Deref a) ≡ 42 ∷ raw_words a
raw_words-Deref a = ap raw_words (sym (e.rolls-Deref a)) ∙ fold-roll-RawExpr Bytes raw_words_step (RawExpr-F.Deref a)

pub raw_words-AddressOf : (a : RawExpr) → raw_words (e.AddressOf a) ≡ 38 ∷ raw_words a
raw_words-AddressOf a = ap raw_words (sym (e.rolls-AddressOf a)) ∙ fold-roll-RawExpr Bytes raw_words_step (RawExpr-F.AddressOf a)

pub raw_words-Binary : (op : BinaryOp) (a b : RawExpr) → raw_words (e.Binary op a b) ≡ raw_words a ++ (32 ∷ (binary_sign op ++ (32 ∷ raw_words b)))
raw_words-Binary op a b = ap raw_words (sym (e.rolls-Binary op a b)) ∙ fold-roll-RawExpr Bytes raw_words_step (RawExpr-F.Binary op a b)

pub raw_words-AndAlso : (a b : RawExpr) → raw_words (e.AndAlso a b) ≡ raw_words a ++ (codes " && " ++ raw_words b)
raw_words-AndAlso a b = ap raw_words (sym (e.rolls-AndAlso a b)) ∙ fold-roll-RawExpr Bytes raw_words_step (RawExpr-F.AndAlso a b)

pub raw_words-OrElse : (a b : RawExpr) → raw_words (e.OrElse a b) ≡ raw_words a ++ (codes " || " ++ raw_words b)
raw_words-OrElse a b = ap raw_words (sym (e.rolls-OrElse a b)) ∙ fold-roll-RawExpr Bytes raw_words_step (RawExpr-F.OrElse a b)

pub raw_words-Choose : (c a b : RawExpr) → raw_words (e.Choose c a b) ≡ raw_words c ++ (32 ∷ 63 ∷ 32 ∷ (raw_words a ++ (32 ∷ 58 ∷ 32 ∷ raw_words b)))
raw_words-Choose c a b = ap raw_words (sym (e.rolls-Choose c a b)) ∙ fold-roll-RawExpr Bytes raw_words_step (RawExpr-F.Choose c a b)

pub raw_words-Cast : (t : IntType) (a : RawExpr) → raw_words (e.Cast t a) ≡ 40 ∷ (int_words t ++ (41 ∷ raw_words a))
raw_words-Cast t a = ap raw_words (sym (e.rolls-Cast t a)) ∙ fold-roll-RawExpr Bytes raw_words_step (RawExpr-F.Cast t a)

pub raw_words-Index : (a i : RawExpr) → raw_words (e.Index a i) ≡ raw_words a ++ (91 ∷ (raw_words i ++ codes "]"))
raw_words-Index a i = ap raw_words (sym (e.rolls-Index a i)) ∙ fold-roll-RawExpr Bytes raw_words_step (RawExpr-F.Index a i)

pub raw_words-Member : (a : RawExpr) (m : Bytes) → raw_words (e.Member a m) ≡ raw_words a ++ (codes "." ++ m)
raw_words-Member a m = ap raw_words (sym (e.rolls-Member a m)) ∙ fold-roll-RawExpr Bytes raw_words_step (RawExpr-F.Member a m)

pub raw_words-Arrow : (a : RawExpr) (m : Bytes) → raw_words (e.Arrow a m) ≡ raw_words a ++ (codes "->" ++ m)
raw_words-Arrow a m = ap raw_words (sym (e.rolls-Arrow a m)) ∙ fold-roll-RawExpr Bytes raw_words_step (RawExpr-F.Arrow a m)

pub raw_words-Paren : (a : RawExpr) → raw_words (e.Paren a) ≡ 40 ∷ (raw_words a ++ codes ")")
raw_words-Paren a = ap raw_words (sym (e.rolls-Paren a)) ∙ fold-roll-RawExpr Bytes raw_words_step (RawExpr-F.Paren a)

pub ruleset words_of = (raw_words-Constant, raw_words-Null, raw_words-Eof, raw_words-Variable, raw_words-Unary, raw_words-Deref, raw_words-AddressOf, raw_words-Binary, raw_words-AndAlso, raw_words-OrElse, raw_words-Choose, raw_words-Cast, raw_words-Index, raw_words-Member, raw_words-Arrow, raw_words-Paren)
