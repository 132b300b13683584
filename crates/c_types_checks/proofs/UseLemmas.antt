-- What a type and an expression hold, form by form, as equations.
use Rattle.std.proofs.Common.{◌≡◌, List, [], ◌∷◌, ◌++◌, Bool, true, false, Result, Ok, Err, refl, sym, ap, subst, ◌∙◌}
use Rattle.c_language.specs.HeadTests.{int_step, is_int_type, is_int}
use Rattle.c_arith.specs.declared.int_type.IntType.{IntType}
use Rattle.c_arith.specs.declared.operators.UnaryOp.{UnaryOp}
use Rattle.c_arith.specs.declared.operators.BinaryOp.{BinaryOp}
use Rattle.c_tree.specs.declared.raw.expr.RawExpr.{RawExpr, fold-roll-RawExpr}
use Rattle.c_tree.specs.declared.raw.expr.RawExpr.TheOpen.{RawExpr-F}
use Rattle.c_tree.specs.declared.raw.expr.RawExpr.TheVariants as e
use Rattle.c_tree.specs.declared.raw.expr.RawLength.{RawLength}
use Rattle.c_tree.specs.declared.raw.expr.RawType.{RawType, fold-roll-RawType}
use Rattle.c_tree.specs.declared.raw.expr.RawType.TheOpen.{RawType-F}
use Rattle.c_tree.specs.declared.raw.expr.RawType.TheVariants as type
use Rattle.c_language.specs.Words.{Bytes}
use Rattle.c_types_base.specs.declared.fault.Fault.{Fault}
use Rattle.c_language.specs.Uses.{tags_in, null_step, is_null_name}
use Rattle.c_language.proofs.UseLemmas.{lengths-Integer, lengths-PointerTo, lengths-Array, lengths-Struct, tags-Integer, tags-PointerTo, tags-Array, tags-Struct}
use Rattle.c_types_checks.specs.Checking.{Verdict, then_kept, all_kept, Decides}

-- ---- checks of lists

then_assoc : (u v w : Verdict) → then_kept u (then_kept v w) ≡ then_kept (then_kept u v) w
then_assoc (Ok x) v w = refl
then_assoc (Err n) v w = refl

pub all_kept-append : {A : Type 0} (f : A → Verdict) (xs ys : List A) → all_kept f (xs ++ ys) ≡ then_kept (all_kept f xs) (all_kept f ys)
all_kept-append f [] ys = refl
all_kept-append f (x ∷ xs) ys = ap (then_kept (f x)) (all_kept-append f xs ys) ∙ then_assoc (f x) (all_kept f xs) (all_kept f ys)

-- ---- types

pub ruleset uses_of_types = (all_kept-append, lengths-Integer, lengths-PointerTo, lengths-Array, lengths-Struct, tags-Integer, tags-PointerTo, tags-Array, tags-Struct)

-- the one tag of a struct type
pub tag_alone : (f : Bytes → Verdict) (a : RawType) (tag w : Bytes) (x : Result (Unit {0}) Fault) → a ≡ type.Struct tag → w ≡ tag
    → Decides (all_kept f (w ∷ [])) x → Decides (all_kept f (tags_in a)) x
tag_alone f a tag w x is same h =
    subst (λ (tags : List Bytes). Decides (all_kept f tags) x) (ap (λ (v : Bytes). v ∷ []) same ∙ sym (ap tags_in is ∙ tags-Struct tag)) h

pub int-Integer : (t : IntType) → is_int_type (type.Integer t) ≡ is_int t
int-Integer t = ap is_int_type (sym (type.rolls-Integer t)) ∙ fold-roll-RawType Bool int_step (RawType-F.Integer t)

pub int-PointerTo : (a : RawType) → is_int_type (type.PointerTo a) ≡ false
int-PointerTo a = ap is_int_type (sym (type.rolls-PointerTo a)) ∙ fold-roll-RawType Bool int_step (RawType-F.PointerTo a)

pub int-Array : (a : RawType) (n : RawLength) → is_int_type (type.Array a n) ≡ false
int-Array a n = ap is_int_type (sym (type.rolls-Array a n)) ∙ fold-roll-RawType Bool int_step (RawType-F.Array a n)

pub int-Struct : (tag : Bytes) → is_int_type (type.Struct tag) ≡ false
int-Struct tag = ap is_int_type (sym (type.rolls-Struct tag)) ∙ fold-roll-RawType Bool int_step (RawType-F.Struct tag)

pub ruleset int_types = (int-Integer, int-PointerTo, int-Array, int-Struct)

-- ---- NULL

pub null-Constant : (text : Bytes) → is_null_name (e.Constant text) ≡ false
null-Constant text = ap is_null_name (sym (e.rolls-Constant text)) ∙ fold-roll-RawExpr Bool null_step (RawExpr-F.Constant text)

pub null-Null : is_null_name e.Null ≡ true
null-Null = ap is_null_name (sym e.rolls-Null) ∙ fold-roll-RawExpr Bool null_step RawExpr-F.Null

pub null-Eof : is_null_name e.Eof ≡ false
null-Eof = ap is_null_name (sym e.rolls-Eof) ∙ fold-roll-RawExpr Bool null_step RawExpr-F.Eof

pub null-Variable : (name : Bytes) → is_null_name (e.Variable name) ≡ false
null-Variable name = ap is_null_name (sym (e.rolls-Variable name)) ∙ fold-roll-RawExpr Bool null_step (RawExpr-F.Variable name)

pub null-Unary : (op : UnaryOp) (a : RawExpr) → is_null_name (e.Unary op a) ≡ false
null-Unary op a = ap is_null_name (sym (e.rolls-Unary op a)) ∙ fold-roll-RawExpr Bool null_step (RawExpr-F.Unary op a)

pub null-Deref : (a : RawExpr) → is_null_name (e.Deref a) ≡ false
null-Deref a = ap is_null_name (sym (e.rolls-Deref a)) ∙ fold-roll-RawExpr Bool null_step (RawExpr-F.Deref a)

pub null-AddressOf : (a : RawExpr) → is_null_name (e.AddressOf a) ≡ false
null-AddressOf a = ap is_null_name (sym (e.rolls-AddressOf a)) ∙ fold-roll-RawExpr Bool null_step (RawExpr-F.AddressOf a)

pub null-Binary : (op : BinaryOp) (a b : RawExpr) → is_null_name (e.Binary op a b) ≡ false
null-Binary op a b = ap is_null_name (sym (e.rolls-Binary op a b)) ∙ fold-roll-RawExpr Bool null_step (RawExpr-F.Binary op a b)

pub null-AndAlso : (a b : RawExpr) → is_null_name (e.AndAlso a b) ≡ false
null-AndAlso a b = ap is_null_name (sym (e.rolls-AndAlso a b)) ∙ fold-roll-RawExpr Bool null_step (RawExpr-F.AndAlso a b)

pub null-OrElse : (a b : RawExpr) → is_null_name (e.OrElse a b) ≡ false
null-OrElse a b = ap is_null_name (sym (e.rolls-OrElse a b)) ∙ fold-roll-RawExpr Bool null_step (RawExpr-F.OrElse a b)

pub null-Choose : (c a b : RawExpr) → is_null_name (e.Choose c a b) ≡ false
null-Choose c a b = ap is_null_name (sym (e.rolls-Choose c a b)) ∙ fold-roll-RawExpr Bool null_step (RawExpr-F.Choose c a b)

pub null-Cast : (t : IntType) (a : RawExpr) → is_null_name (e.Cast t a) ≡ false
null-Cast t a = ap is_null_name (sym (e.rolls-Cast t a)) ∙ fold-roll-RawExpr Bool null_step (RawExpr-F.Cast t a)

pub null-Index : (a i : RawExpr) → is_null_name (e.Index a i) ≡ false
null-Index a i = ap is_null_name (sym (e.rolls-Index a i)) ∙ fold-roll-RawExpr Bool null_step (RawExpr-F.Index a i)

pub null-Member : (a : RawExpr) (m : Bytes) → is_null_name (e.Member a m) ≡ false
null-Member a m = ap is_null_name (sym (e.rolls-Member a m)) ∙ fold-roll-RawExpr Bool null_step (RawExpr-F.Member a m)

pub null-Arrow : (a : RawExpr) (m : Bytes) → is_null_name (e.Arrow a m) ≡ false
null-Arrow a m = ap is_null_name (sym (e.rolls-Arrow a m)) ∙ fold-roll-RawExpr Bool null_step (RawExpr-F.Arrow a m)

pub null-Paren : (a : RawExpr) → is_null_name (e.Paren a) ≡ is_null_name a
null-Paren a = ap is_null_name (sym (e.rolls-Paren a)) ∙ fold-roll-RawExpr Bool null_step (RawExpr-F.Paren a)

pub ruleset null_names = (null-Constant, null-Null, null-Eof, null-Variable, null-Unary, null-Deref, null-AddressOf, null-Binary, null-AndAlso, null-OrElse, null-Choose, null-Cast, null-Index, null-Member, null-Arrow, null-Paren)
