-- The first byte of what is written for each form of expression.
use Rattle.std.proofs.Common.{◌≡◌, ℕ, [], ◌∷◌, ◌++◌, Bool, true, false, if◌then◌else◌, Option, Some, None, ◌==◌, codes, slice_get, refl, ap}
use Rattle.std.specs.Option.{option_or}
use Rattle.c_arith.specs.declared.int_type.IntType.{IntType}
use Rattle.c_arith.specs.declared.operators.UnaryOp.{UnaryOp}
use Rattle.c_arith.specs.declared.operators.UnaryOp.TheVariants.{Plus, Minus, Flip, Not}
use Rattle.c_arith.specs.declared.operators.BinaryOp.{BinaryOp}
use Rattle.c_tree.specs.declared.expr.Expr.{Expr}
use Rattle.c_tree.specs.declared.expr.Expr.TheVariants as e
use Rattle.c_tree.specs.declared.expr.MemberId.{MemberId}
use Rattle.c_tree.specs.declared.program.Program.{Program}
use Rattle.c_language.specs.Words.{Bytes, unary_sign, name_of_var, begins_with, signed, expr_words}
use Rattle.c_language.proofs.WordLemmas.{expr_words-Constant, expr_words-Null, expr_words-Eof, expr_words-Variable, expr_words-Unary, expr_words-Deref, expr_words-AddressOf, expr_words-Binary, expr_words-AndAlso, expr_words-OrElse, expr_words-Choose, expr_words-Cast, expr_words-Index, expr_words-Member, expr_words-Arrow, expr_words-Paren}
use Rattle.c_print.specs.Signs.{joins}

is_byte : ℕ → Option ℕ → Bool
is_byte c None = false
is_byte c (Some b) = b == c

-- what begins a text that is followed by another
first-append : (x y : Bytes) (b : ℕ) → slice_get (x ++ (b ∷ y)) 0 ≡ option_or (slice_get x 0) (Some b)
first-append [] y b = refl
first-append (c ∷ x) y b = refl

-- a sign comes first, apart from its operand or not
apart : (b : Bool) (op : UnaryOp) (x : Bytes) → slice_get (if b then unary_sign op ++ (codes " " ++ x) else unary_sign op ++ x) 0 ≡ slice_get (unary_sign op) 0
apart true Plus x = refl
apart true Minus x = refl
apart true Flip x = refl
apart true Not x = refl
apart false Plus x = refl
apart false Minus x = refl
apart false Flip x = refl
apart false Not x = refl

first-signed : (op : UnaryOp) (x : Bytes) → slice_get (signed op x) 0 ≡ slice_get (unary_sign op) 0
first-signed Plus x = apart (begins_with 43 x) Plus x
first-signed Minus x = apart (begins_with 45 x) Minus x
first-signed Flip x = refl
first-signed Not x = refl

pub first-Constant : (p : Program) (text : Bytes) (i : IntType) (v : ℕ) → slice_get (expr_words p (e.Constant text i v)) 0 ≡ slice_get text 0
first-Constant p text i v = rw (expr_words-Constant p text i v) refl

pub first-Null : (p : Program) → slice_get (expr_words p e.Null) 0 ≡ Some 78
first-Null p = rw (expr_words-Null p) refl

pub first-Eof : (p : Program) → slice_get (expr_words p e.Eof) 0 ≡ Some 69
first-Eof p = rw (expr_words-Eof p) refl

pub first-Variable : (p : Program) (x : ℕ) → slice_get (expr_words p (e.Variable x)) 0 ≡ slice_get (name_of_var p x) 0
first-Variable p x = rw (expr_words-Variable p x) refl

pub first-Unary : (p : Program) (op : UnaryOp) (a : Expr) → slice_get (expr_words p (e.Unary op a)) 0 ≡ slice_get (unary_sign op) 0
first-Unary p op a = rw (expr_words-Unary p op a) (first-signed op (expr_words p a))

pub first-Deref : (p : Program) (a : Expr) → slice_get (expr_words p (e.Deref a)) 0 ≡ Some 42
first-Deref p a = rw (expr_words-Deref p a) refl

pub first-AddressOf : (p : Program) (a : Expr) → slice_get (expr_words p (e.AddressOf a)) 0 ≡ Some 38
first-AddressOf p a = rw (expr_words-AddressOf p a) refl

pub first-Cast : (p : Program) (i : IntType) (a : Expr) → slice_get (expr_words p (e.Cast i a)) 0 ≡ Some 40
first-Cast p i a = rw (expr_words-Cast p i a) refl

pub first-Paren : (p : Program) (a : Expr) → slice_get (expr_words p (e.Paren a)) 0 ≡ Some 40
first-Paren p a = rw (expr_words-Paren p a) refl

pub first-Binary : (p : Program) (op : BinaryOp) (a b : Expr) → slice_get (expr_words p (e.Binary op a b)) 0 ≡ option_or (slice_get (expr_words p a) 0) (Some 32)
first-Binary p op a b = rw (expr_words-Binary p op a b) (first-append (expr_words p a) _ 32)

pub first-AndAlso : (p : Program) (a b : Expr) → slice_get (expr_words p (e.AndAlso a b)) 0 ≡ option_or (slice_get (expr_words p a) 0) (Some 32)
first-AndAlso p a b = rw (expr_words-AndAlso p a b) (first-append (expr_words p a) _ 32)

pub first-OrElse : (p : Program) (a b : Expr) → slice_get (expr_words p (e.OrElse a b)) 0 ≡ option_or (slice_get (expr_words p a) 0) (Some 32)
first-OrElse p a b = rw (expr_words-OrElse p a b) (first-append (expr_words p a) _ 32)

pub first-Choose : (p : Program) (c a b : Expr) → slice_get (expr_words p (e.Choose c a b)) 0 ≡ option_or (slice_get (expr_words p c) 0) (Some 32)
first-Choose p c a b = rw (expr_words-Choose p c a b) (first-append (expr_words p c) _ 32)

pub first-Index : (p : Program) (a i : Expr) → slice_get (expr_words p (e.Index a i)) 0 ≡ option_or (slice_get (expr_words p a) 0) (Some 91)
first-Index p a i = rw (expr_words-Index p a i) (first-append (expr_words p a) _ 91)

pub first-Member : (p : Program) (a : Expr) (m : MemberId) → slice_get (expr_words p (e.Member a m)) 0 ≡ option_or (slice_get (expr_words p a) 0) (Some 46)
first-Member p a m = rw (expr_words-Member p a m) (first-append (expr_words p a) _ 46)

pub first-Arrow : (p : Program) (a : Expr) (m : MemberId) → slice_get (expr_words p (e.Arrow a m)) 0 ≡ option_or (slice_get (expr_words p a) 0) (Some 45)
first-Arrow p a m = rw (expr_words-Arrow p a m) (first-append (expr_words p a) _ 45)

-- what begins a text decides with which byte it begins
pub begins-some : (c b : ℕ) (x : Bytes) → slice_get x 0 ≡ Some b → begins_with c x ≡ (b == c)
unfolding is_byte
begins-some c b [] h = absurd cc
begins-some c b (d ∷ x) h = ap (λ (o : Option ℕ). is_byte c o) h

pub begins-none : (c : ℕ) (x : Bytes) → slice_get x 0 ≡ None → begins_with c x ≡ false
begins-none c [] h = refl
begins-none c (d ∷ x) h = absurd cc

-- the two ways to write a sign before its operand
pub signed-apart : (op : UnaryOp) (x : Bytes) → joins op x ≡ true → signed op x ≡ unary_sign op ++ (codes " " ++ x)
signed-apart Plus x h = rw h refl
signed-apart Minus x h = rw h refl
signed-apart Flip x h = absurd cc
signed-apart Not x h = absurd cc

pub signed-close : (op : UnaryOp) (x : Bytes) → joins op x ≡ false → signed op x ≡ unary_sign op ++ x
signed-close Plus x h = rw h refl
signed-close Minus x h = rw h refl
signed-close Flip x h = refl
signed-close Not x h = refl

pub ruleset first_bytes = (first-Constant, first-Null, first-Eof, first-Variable, first-Unary, first-Deref, first-AddressOf, first-Cast, first-Paren, first-Binary, first-AndAlso, first-OrElse, first-Choose, first-Index, first-Member, first-Arrow)

pub ruleset signs_of = (begins-some, begins-none, signed-apart, signed-close)
