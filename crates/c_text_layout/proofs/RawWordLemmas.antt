-- The words of each form of expression of a text, as equations.
use Rattle.std.proofs.Common.{◌≡◌, ◌∷◌, ◌++◌, codes, sym, ap, ◌∙◌}
use Rattle.c_arith.specs.declared.int_type.IntType.{IntType}
use Rattle.c_arith.specs.declared.operators.UnaryOp.{UnaryOp}
use Rattle.c_arith.specs.declared.operators.BinaryOp.{BinaryOp}
use Rattle.c_tree.specs.declared.raw.expr.RawExpr.{RawExpr, fold-roll-RawExpr}
use Rattle.c_tree.specs.declared.raw.expr.RawExpr.TheOpen.{RawExpr-F}
use Rattle.c_tree.specs.declared.raw.expr.RawExpr.TheVariants as e
use Rattle.c_language.specs.Words.{Bytes, binary_sign, int_words, signed}
use Rattle.c_text_layout.specs.SpacedWords.{Spaced, constant_words, address_words, other_words, blank_if, spaced_step, spaced, spaced_words}

pub spaced-Constant : (text : Bytes) → spaced (e.Constant text) ≡ constant_words text
spaced-Constant text = ap spaced (sym (e.rolls-Constant text)) ∙ fold-roll-RawExpr Spaced spaced_step (RawExpr-F.Constant text)

pub spaced_words-Constant : (text : Bytes) → spaced_words (e.Constant text) ≡ text
spaced_words-Constant text = ap (λ (x : Spaced). x.words) (spaced-Constant text)

pub spaced-Null : spaced e.Null ≡ other_words (codes "NULL")
spaced-Null = ap spaced (sym e.rolls-Null) ∙ fold-roll-RawExpr Spaced spaced_step RawExpr-F.Null

pub spaced_words-Null : spaced_words e.Null ≡ codes "NULL"
spaced_words-Null = ap (λ (x : Spaced). x.words) spaced-Null

pub spaced-Eof : spaced e.Eof ≡ other_words (codes "EOF")
spaced-Eof = ap spaced (sym e.rolls-Eof) ∙ fold-roll-RawExpr Spaced spaced_step RawExpr-F.Eof

pub spaced_words-Eof : spaced_words e.Eof ≡ codes "EOF"
spaced_words-Eof = ap (λ (x : Spaced). x.words) spaced-Eof

pub spaced-Variable : (name : Bytes) → spaced (e.Variable name) ≡ other_words name
spaced-Variable name = ap spaced (sym (e.rolls-Variable name)) ∙ fold-roll-RawExpr Spaced spaced_step (RawExpr-F.Variable name)

pub spaced_words-Variable : (name : Bytes) → spaced_words (e.Variable name) ≡ name
spaced_words-Variable name = ap (λ (x : Spaced). x.words) (spaced-Variable name)

pub spaced-Unary : (op : UnaryOp) (a : RawExpr) → spaced (e.Unary op a) ≡ other_words (signed op (spaced_words a))
spaced-Unary op a = ap spaced (sym (e.rolls-Unary op a)) ∙ fold-roll-RawExpr Spaced spaced_step (RawExpr-F.Unary op a)

pub spaced_words-Unary : (op : UnaryOp) (a : RawExpr) → spaced_words (e.Unary op a) ≡ signed op (spaced_words a)
spaced_words-Unary op a = ap (λ (x : Spaced). x.words) (spaced-Unary op a)

pub spaced-Deref : (a : RawExpr) → spaced (e.Deref a) ≡ other_words (42 ∷ spaced_words a)
spaced-Deref a = ap spaced (sym (e.rolls-Deref a)) ∙ fold-roll-RawExpr Spaced spaced_step (RawExpr-F.Deref a)

pub spaced_words-Deref : (a : RawExpr) → spaced_words (e.Deref a) ≡ 42 ∷ spaced_words a
spaced_words-Deref a = ap (λ (x : Spaced). x.words) (spaced-Deref a)

pub spaced-AddressOf : (a : RawExpr) → spaced (e.AddressOf a) ≡ address_words (38 ∷ (blank_if (spaced a).is_address ++ spaced_words a))
spaced-AddressOf a = ap spaced (sym (e.rolls-AddressOf a)) ∙ fold-roll-RawExpr Spaced spaced_step (RawExpr-F.AddressOf a)

pub spaced_words-AddressOf : (a : RawExpr) → spaced_words (e.AddressOf a) ≡ 38 ∷ (blank_if (spaced a).is_address ++ spaced_words a)
spaced_words-AddressOf a = ap (λ (x : Spaced). x.words) (spaced-AddressOf a)

pub spaced-Binary : (op : BinaryOp) (a b : RawExpr) → spaced (e.Binary op a b) ≡ other_words (spaced_words a ++ (32 ∷ (binary_sign op ++ (32 ∷ spaced_words b))))
spaced-Binary op a b = ap spaced (sym (e.rolls-Binary op a b)) ∙ fold-roll-RawExpr Spaced spaced_step (RawExpr-F.Binary op a b)

pub spaced_words-Binary : (op : BinaryOp) (a b : RawExpr) → spaced_words (e.Binary op a b) ≡ spaced_words a ++ (32 ∷ (binary_sign op ++ (32 ∷ spaced_words b)))
spaced_words-Binary op a b = ap (λ (x : Spaced). x.words) (spaced-Binary op a b)

pub spaced-AndAlso : (a b : RawExpr) → spaced (e.AndAlso a b) ≡ other_words (spaced_words a ++ (codes " && " ++ spaced_words b))
spaced-AndAlso a b = ap spaced (sym (e.rolls-AndAlso a b)) ∙ fold-roll-RawExpr Spaced spaced_step (RawExpr-F.AndAlso a b)

pub spaced_words-AndAlso : (a b : RawExpr) → spaced_words (e.AndAlso a b) ≡ spaced_words a ++ (codes " && " ++ spaced_words b)
spaced_words-AndAlso a b = ap (λ (x : Spaced). x.words) (spaced-AndAlso a b)

pub spaced-OrElse : (a b : RawExpr) → spaced (e.OrElse a b) ≡ other_words (spaced_words a ++ (codes " || " ++ spaced_words b))
spaced-OrElse a b = ap spaced (sym (e.rolls-OrElse a b)) ∙ fold-roll-RawExpr Spaced spaced_step (RawExpr-F.OrElse a b)

pub spaced_words-OrElse : (a b : RawExpr) → spaced_words (e.OrElse a b) ≡ spaced_words a ++ (codes " || " ++ spaced_words b)
spaced_words-OrElse a b = ap (λ (x : Spaced). x.words) (spaced-OrElse a b)

pub spaced-Choose : (c a b : RawExpr) → spaced (e.Choose c a b) ≡ other_words (spaced_words c ++ (32 ∷ 63 ∷ 32 ∷ (spaced_words a ++ (32 ∷ 58 ∷ 32 ∷ spaced_words b))))
spaced-Choose c a b = ap spaced (sym (e.rolls-Choose c a b)) ∙ fold-roll-RawExpr Spaced spaced_step (RawExpr-F.Choose c a b)

pub spaced_words-Choose : (c a b : RawExpr) → spaced_words (e.Choose c a b) ≡ spaced_words c ++ (32 ∷ 63 ∷ 32 ∷ (spaced_words a ++ (32 ∷ 58 ∷ 32 ∷ spaced_words b)))
spaced_words-Choose c a b = ap (λ (x : Spaced). x.words) (spaced-Choose c a b)

pub spaced-Cast : (t : IntType) (a : RawExpr) → spaced (e.Cast t a) ≡ other_words (40 ∷ (int_words t ++ (41 ∷ spaced_words a)))
spaced-Cast t a = ap spaced (sym (e.rolls-Cast t a)) ∙ fold-roll-RawExpr Spaced spaced_step (RawExpr-F.Cast t a)

pub spaced_words-Cast : (t : IntType) (a : RawExpr) → spaced_words (e.Cast t a) ≡ 40 ∷ (int_words t ++ (41 ∷ spaced_words a))
spaced_words-Cast t a = ap (λ (x : Spaced). x.words) (spaced-Cast t a)

pub spaced-Index : (a i : RawExpr) → spaced (e.Index a i) ≡ other_words (spaced_words a ++ (91 ∷ (spaced_words i ++ codes "]")))
spaced-Index a i = ap spaced (sym (e.rolls-Index a i)) ∙ fold-roll-RawExpr Spaced spaced_step (RawExpr-F.Index a i)

pub spaced_words-Index : (a i : RawExpr) → spaced_words (e.Index a i) ≡ spaced_words a ++ (91 ∷ (spaced_words i ++ codes "]"))
spaced_words-Index a i = ap (λ (x : Spaced). x.words) (spaced-Index a i)

pub spaced-Member : (a : RawExpr) (m : Bytes) → spaced (e.Member a m) ≡ other_words (spaced_words a ++ (blank_if (spaced a).is_constant ++ (codes "." ++ m)))
spaced-Member a m = ap spaced (sym (e.rolls-Member a m)) ∙ fold-roll-RawExpr Spaced spaced_step (RawExpr-F.Member a m)

pub spaced_words-Member : (a : RawExpr) (m : Bytes) → spaced_words (e.Member a m) ≡ spaced_words a ++ (blank_if (spaced a).is_constant ++ (codes "." ++ m))
spaced_words-Member a m = ap (λ (x : Spaced). x.words) (spaced-Member a m)

pub spaced-Arrow : (a : RawExpr) (m : Bytes) → spaced (e.Arrow a m) ≡ other_words (spaced_words a ++ (blank_if (spaced a).is_constant ++ (codes "->" ++ m)))
spaced-Arrow a m = ap spaced (sym (e.rolls-Arrow a m)) ∙ fold-roll-RawExpr Spaced spaced_step (RawExpr-F.Arrow a m)

pub spaced_words-Arrow : (a : RawExpr) (m : Bytes) → spaced_words (e.Arrow a m) ≡ spaced_words a ++ (blank_if (spaced a).is_constant ++ (codes "->" ++ m))
spaced_words-Arrow a m = ap (λ (x : Spaced). x.words) (spaced-Arrow a m)

pub spaced-Paren : (a : RawExpr) → spaced (e.Paren a) ≡ other_words (40 ∷ (spaced_words a ++ codes ")"))
spaced-Paren a = ap spaced (sym (e.rolls-Paren a)) ∙ fold-roll-RawExpr Spaced spaced_step (RawExpr-F.Paren a)

pub spaced_words-Paren : (a : RawExpr) → spaced_words (e.Paren a) ≡ 40 ∷ (spaced_words a ++ codes ")")
spaced_words-Paren a = ap (λ (x : Spaced). x.words) (spaced-Paren a)
