-- The words of each form of type and expression, as equations.
use Rattle.std.proofs.Common.{◌≡◌, ℕ, [], ◌∷◌, ◌++◌, codes, sym, ap, ◌∙◌}
use Rattle.c_arith.specs.declared.int_type.IntType.{IntType}
use Rattle.c_arith.specs.declared.operators.UnaryOp.{UnaryOp}
use Rattle.c_arith.specs.declared.operators.BinaryOp.{BinaryOp}
use Rattle.c_tree.specs.declared.types.CType.{CType, fold-roll-CType}
use Rattle.c_tree.specs.declared.types.CType.TheOpen.{CType-F}
use Rattle.c_tree.specs.declared.types.CType.TheVariants as t
use Rattle.c_tree.specs.declared.expr.Expr.{Expr, fold-roll-Expr}
use Rattle.c_tree.specs.declared.expr.Expr.TheOpen.{Expr-F}
use Rattle.c_tree.specs.declared.expr.Expr.TheVariants as e
use Rattle.c_tree.specs.declared.expr.MemberId.{MemberId}
use Rattle.c_tree.specs.declared.program.Program.{Program}
use Rattle.c_language.specs.Words.{Bytes, int_words, binary_sign, name_of_var, name_of_struct, name_of_member, base_step, base_words, stars_step, stars, lengths_step, lengths, signed, expr_step, expr_words}

-- ---- types

pub base_words-Integer : (p : Program) (i : IntType) → base_words p (t.Integer i) ≡ int_words i
base_words-Integer p i = ap (base_words p) (sym (t.rolls-Integer i)) ∙ fold-roll-CType Bytes (base_step p) (CType-F.Integer i)

pub base_words-PointerTo : (p : Program) (a : CType) → base_words p (t.PointerTo a) ≡ base_words p a
base_words-PointerTo p a = ap (base_words p) (sym (t.rolls-PointerTo a)) ∙ fold-roll-CType Bytes (base_step p) (CType-F.PointerTo a)

pub base_words-Array : (p : Program) (a : CType) (n : ℕ) (w : Bytes) → base_words p (t.Array a n w) ≡ base_words p a
base_words-Array p a n w = ap (base_words p) (sym (t.rolls-Array a n w)) ∙ fold-roll-CType Bytes (base_step p) (CType-F.Array a n w)

pub base_words-Struct : (p : Program) (s : ℕ) → base_words p (t.Struct s) ≡ codes "struct " ++ name_of_struct p s
base_words-Struct p s = ap (base_words p) (sym (t.rolls-Struct s)) ∙ fold-roll-CType Bytes (base_step p) (CType-F.Struct s)

pub stars-Integer : (i : IntType) → stars (t.Integer i) ≡ []
stars-Integer i = ap stars (sym (t.rolls-Integer i)) ∙ fold-roll-CType Bytes stars_step (CType-F.Integer i)

pub stars-PointerTo : (a : CType) → stars (t.PointerTo a) ≡ 42 ∷ stars a
stars-PointerTo a = ap stars (sym (t.rolls-PointerTo a)) ∙ fold-roll-CType Bytes stars_step (CType-F.PointerTo a)

pub stars-Array : (a : CType) (n : ℕ) (w : Bytes) → stars (t.Array a n w) ≡ stars a
stars-Array a n w = ap stars (sym (t.rolls-Array a n w)) ∙ fold-roll-CType Bytes stars_step (CType-F.Array a n w)

pub stars-Struct : (s : ℕ) → stars (t.Struct s) ≡ []
stars-Struct s = ap stars (sym (t.rolls-Struct s)) ∙ fold-roll-CType Bytes stars_step (CType-F.Struct s)

pub lengths-Integer : (i : IntType) → lengths (t.Integer i) ≡ []
lengths-Integer i = ap lengths (sym (t.rolls-Integer i)) ∙ fold-roll-CType Bytes lengths_step (CType-F.Integer i)

pub lengths-PointerTo : (a : CType) → lengths (t.PointerTo a) ≡ []
lengths-PointerTo a = ap lengths (sym (t.rolls-PointerTo a)) ∙ fold-roll-CType Bytes lengths_step (CType-F.PointerTo a)

pub lengths-Array : (a : CType) (n : ℕ) (w : Bytes) → lengths (t.Array a n w) ≡ codes "[" ++ (w ++ (codes "]" ++ lengths a))
lengths-Array a n w = ap lengths (sym (t.rolls-Array a n w)) ∙ fold-roll-CType Bytes lengths_step (CType-F.Array a n w)

pub lengths-Struct : (s : ℕ) → lengths (t.Struct s) ≡ []
lengths-Struct s = ap lengths (sym (t.rolls-Struct s)) ∙ fold-roll-CType Bytes lengths_step (CType-F.Struct s)

pub ruleset types_of = (base_words-Integer, base_words-PointerTo, base_words-Array, base_words-Struct, stars-Integer, stars-PointerTo, stars-Array, stars-Struct, lengths-Integer, lengths-PointerTo, lengths-Array, lengths-Struct)

-- ---- expressions

pub expr_words-Constant : (p : Program) (text : Bytes) (i : IntType) (v : ℕ) → expr_words p (e.Constant text i v) ≡ text
expr_words-Constant p text i v = ap (expr_words p) (sym (e.rolls-Constant text i v)) ∙ fold-roll-Expr Bytes (expr_step p) (Expr-F.Constant text i v)

pub expr_words-Null : (p : Program) → expr_words p e.Null ≡ codes "NULL"
expr_words-Null p = ap (expr_words p) (sym e.rolls-Null) ∙ fold-roll-Expr Bytes (expr_step p) Expr-F.Null

pub expr_words-Eof : (p : Program) → expr_words p e.Eof ≡ codes "EOF"
expr_words-Eof p = ap (expr_words p) (sym e.rolls-Eof) ∙ fold-roll-Expr Bytes (expr_step p) Expr-F.Eof

pub expr_words-Variable : (p : Program) (x : ℕ) → expr_words p (e.Variable x) ≡ name_of_var p x
expr_words-Variable p x = ap (expr_words p) (sym (e.rolls-Variable x)) ∙ fold-roll-Expr Bytes (expr_step p) (Expr-F.Variable x)

pub expr_words-Unary : (p : Program) (op : UnaryOp) (a : Expr) → expr_words p (e.Unary op a) ≡ signed op (expr_words p a)
expr_words-Unary p op a = ap (expr_words p) (sym (e.rolls-Unary op a)) ∙ fold-roll-Expr Bytes (expr_step p) (Expr-F.Unary op a)

pub expr_words-Deref : (p : Program) (a : Expr) → expr_words p (e.Deref a) ≡ codes "*" ++ expr_words p a
expr_words-Deref p a = ap (expr_words p) (sym (e.rolls-Deref a)) ∙ fold-roll-Expr Bytes (expr_step p) (Expr-F.Deref a)

pub expr_words-AddressOf : (p : Program) (a : Expr) → expr_words p (e.AddressOf a) ≡ codes "&" ++ expr_words p a
expr_words-AddressOf p a = ap (expr_words p) (sym (e.rolls-AddressOf a)) ∙ fold-roll-Expr Bytes (expr_step p) (Expr-F.AddressOf a)

pub expr_words-Binary : (p : Program) (op : BinaryOp) (a b : Expr) → expr_words p (e.Binary op a b) ≡ expr_words p a ++ (codes " " ++ (binary_sign op ++ (codes " " ++ expr_words p b)))
expr_words-Binary p op a b = ap (expr_words p) (sym (e.rolls-Binary op a b)) ∙ fold-roll-Expr Bytes (expr_step p) (Expr-F.Binary op a b)

pub expr_words-AndAlso : (p : Program) (a b : Expr) → expr_words p (e.AndAlso a b) ≡ expr_words p a ++ (codes " && " ++ expr_words p b)
expr_words-AndAlso p a b = ap (expr_words p) (sym (e.rolls-AndAlso a b)) ∙ fold-roll-Expr Bytes (expr_step p) (Expr-F.AndAlso a b)

pub expr_words-OrElse : (p : Program) (a b : Expr) → expr_words p (e.OrElse a b) ≡ expr_words p a ++ (codes " || " ++ expr_words p b)
expr_words-OrElse p a b = ap (expr_words p) (sym (e.rolls-OrElse a b)) ∙ fold-roll-Expr Bytes (expr_step p) (Expr-F.OrElse a b)

pub expr_words-Choose : (p : Program) (c a b : Expr) → expr_words p (e.Choose c a b) ≡ expr_words p c ++ (codes " ? " ++ (expr_words p a ++ (codes " : " ++ expr_words p b)))
expr_words-Choose p c a b = ap (expr_words p) (sym (e.rolls-Choose c a b)) ∙ fold-roll-Expr Bytes (expr_step p) (Expr-F.Choose c a b)

pub expr_words-Cast : (p : Program) (i : IntType) (a : Expr) → expr_words p (e.Cast i a) ≡ codes "(" ++ (int_words i ++ (codes ")" ++ expr_words p a))
expr_words-Cast p i a = ap (expr_words p) (sym (e.rolls-Cast i a)) ∙ fold-roll-Expr Bytes (expr_step p) (Expr-F.Cast i a)

pub expr_words-Index : (p : Program) (a i : Expr) → expr_words p (e.Index a i) ≡ expr_words p a ++ (codes "[" ++ (expr_words p i ++ codes "]"))
expr_words-Index p a i = ap (expr_words p) (sym (e.rolls-Index a i)) ∙ fold-roll-Expr Bytes (expr_step p) (Expr-F.Index a i)

pub expr_words-Member : (p : Program) (a : Expr) (m : MemberId) → expr_words p (e.Member a m) ≡ expr_words p a ++ (codes "." ++ name_of_member p m)
expr_words-Member p a m = ap (expr_words p) (sym (e.rolls-Member a m)) ∙ fold-roll-Expr Bytes (expr_step p) (Expr-F.Member a m)

pub expr_words-Arrow : (p : Program) (a : Expr) (m : MemberId) → expr_words p (e.Arrow a m) ≡ expr_words p a ++ (codes "->" ++ name_of_member p m)
expr_words-Arrow p a m = ap (expr_words p) (sym (e.rolls-Arrow a m)) ∙ fold-roll-Expr Bytes (expr_step p) (Expr-F.Arrow a m)

pub expr_words-Paren : (p : Program) (a : Expr) → expr_words p (e.Paren a) ≡ codes "(" ++ (expr_words p a ++ codes ")")
expr_words-Paren p a = ap (expr_words p) (sym (e.rolls-Paren a)) ∙ fold-roll-Expr Bytes (expr_step p) (Expr-F.Paren a)

pub ruleset expressions_of = (expr_words-Constant, expr_words-Null, expr_words-Eof, expr_words-Variable, expr_words-Unary, expr_words-Deref, expr_words-AddressOf, expr_words-Binary, expr_words-AndAlso, expr_words-OrElse, expr_words-Choose, expr_words-Cast, expr_words-Index, expr_words-Member, expr_words-Arrow, expr_words-Paren)
