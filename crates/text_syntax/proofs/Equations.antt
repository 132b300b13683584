-- Whether a tree is syntax, by its outermost form, as equations.
use Rattle.std.proofs.Common.{◌≡◌, ℕ, List, map, Bool, true, false, Option, Some, None, sym, ap, ◌∙◌}
use Rattle.c_arith.specs.declared.int_type.IntType.{IntType}
use Rattle.c_arith.specs.declared.operators.UnaryOp.{UnaryOp}
use Rattle.c_arith.specs.declared.operators.BinaryOp.{BinaryOp}
use Rattle.c_tree.specs.declared.raw.expr.RawExpr.{RawExpr, roll-RawExpr, map-RawExpr, fold-roll-RawExpr}
use Rattle.c_tree.specs.declared.raw.expr.RawExpr.TheOpen.{RawExpr-F}
use Rattle.c_tree.specs.declared.raw.expr.RawExpr.TheVariants as e
use Rattle.c_tree.specs.declared.raw.expr.RawLength.{RawLength}
use Rattle.c_tree.specs.declared.raw.expr.RawType.{RawType, roll-RawType, map-RawType, fold-roll-RawType}
use Rattle.c_tree.specs.declared.raw.expr.RawType.TheOpen.{RawType-F}
use Rattle.c_tree.specs.declared.raw.expr.RawType.TheVariants as type
use Rattle.c_tree.specs.declared.raw.expr.RawVar.{RawVar}
use Rattle.c_tree.specs.declared.raw.program.RawInit.{RawInit}
use Rattle.c_tree.specs.declared.raw.statement.RawTarget.{RawTarget}
use Rattle.c_tree.specs.declared.raw.statement.RawArg.{RawArg}
use Rattle.c_tree.specs.declared.raw.statement.RawTypeName.{RawTypeName}
use Rattle.c_tree.specs.declared.raw.statement.RawAmount.{RawAmount}
use Rattle.c_tree.specs.declared.raw.statement.RawLabel.{RawLabel}
use Rattle.c_tree.specs.declared.raw.statement.RawArm.{RawArm, fold-roll-RawArm}
use Rattle.c_tree.specs.declared.raw.statement.RawStatement.{RawStatement, roll-RawStatement, fold-roll-RawStatement}
use Rattle.c_tree.specs.declared.raw.statement.RawStatement.TheOpen.{RawStatement-F}
use Rattle.c_tree.specs.declared.raw.statement.RawStatement.TheVariants as s
use Rattle.c_language.specs.Words.{Bytes}
use Rattle.c_language.specs.ExprGrammar.{place_step, is_place}
use Rattle.c_language.specs.StatementGrammar.{arm}
use Rattle.c_language.specs.Syntax.{binds_step, binds, Extent, reaches_step, reaches, struct_step, is_struct, pointer_step, is_pointer, Position, stands_step, arm_step, stands, is_arm}
use Rattle.text_syntax.proofs.Folds.{standing}

binds_as : {a : RawExpr} (n : ℕ) (y : RawExpr-F RawExpr) → roll-RawExpr y ≡ a → binds a n ≡ binds_step (map-RawExpr RawExpr (ℕ → Bool) binds y) n
binds_as n y is = ap (λ (a : RawExpr). binds a n) (sym is) ∙ ap (λ (f : ℕ → Bool). f n) (fold-roll-RawExpr (ℕ → Bool) binds_step y)

reaches_as : {a : RawType} (x : Extent) (y : RawType-F RawType) → roll-RawType y ≡ a → reaches a x ≡ reaches_step (map-RawType RawType (Extent → Bool) reaches y) x
reaches_as x y is = ap (λ (a : RawType). reaches a x) (sym is) ∙ ap (λ (f : Extent → Bool). f x) (fold-roll-RawType (Extent → Bool) reaches_step y)

stands_as : {a : RawStatement} (p : Position) (y : RawStatement-F RawStatement RawArm) → roll-RawStatement y ≡ a → stands a p ≡ stands_step (standing y) p
stands_as p y is = ap (λ (a : RawStatement). stands a p) (sym is) ∙ ap (λ (f : Position → Bool). f p) (fold-roll-RawStatement (Position → Bool) Bool stands_step arm_step y)

-- ---- expressions

pub binds-Constant : (text : Bytes) (n : ℕ) → binds (e.Constant text) n ≡ binds_step (RawExpr-F.Constant text) n
binds-Constant text n = binds_as n (RawExpr-F.Constant text) (e.rolls-Constant text)

pub binds-Null : (n : ℕ) → binds e.Null n ≡ binds_step RawExpr-F.Null n
binds-Null n = binds_as n RawExpr-F.Null e.rolls-Null

pub binds-Eof : (n : ℕ) → binds e.Eof n ≡ binds_step RawExpr-F.Eof n
binds-Eof n = binds_as n RawExpr-F.Eof e.rolls-Eof

pub binds-Variable : (w : Bytes) (n : ℕ) → binds (e.Variable w) n ≡ binds_step (RawExpr-F.Variable w) n
binds-Variable w n = binds_as n (RawExpr-F.Variable w) (e.rolls-Variable w)

pub binds-Unary : (op : UnaryOp) (a : RawExpr) (n : ℕ) → binds (e.Unary op a) n ≡ binds_step (RawExpr-F.Unary op (binds a)) n
binds-Unary op a n = binds_as n (RawExpr-F.Unary op a) (e.rolls-Unary op a)

pub binds-Deref : (a : RawExpr) (n : ℕ) → binds (e.Deref a) n ≡ binds_step (RawExpr-F.Deref (binds a)) n
binds-Deref a n = binds_as n (RawExpr-F.Deref a) (e.rolls-Deref a)

pub binds-AddressOf : (a : RawExpr) (n : ℕ) → binds (e.AddressOf a) n ≡ binds_step (RawExpr-F.AddressOf (binds a)) n
binds-AddressOf a n = binds_as n (RawExpr-F.AddressOf a) (e.rolls-AddressOf a)

pub binds-Binary : (op : BinaryOp) (a b : RawExpr) (n : ℕ) → binds (e.Binary op a b) n ≡ binds_step (RawExpr-F.Binary op (binds a) (binds b)) n
binds-Binary op a b n = binds_as n (RawExpr-F.Binary op a b) (e.rolls-Binary op a b)

pub binds-AndAlso : (a b : RawExpr) (n : ℕ) → binds (e.AndAlso a b) n ≡ binds_step (RawExpr-F.AndAlso (binds a) (binds b)) n
binds-AndAlso a b n = binds_as n (RawExpr-F.AndAlso a b) (e.rolls-AndAlso a b)

pub binds-OrElse : (a b : RawExpr) (n : ℕ) → binds (e.OrElse a b) n ≡ binds_step (RawExpr-F.OrElse (binds a) (binds b)) n
binds-OrElse a b n = binds_as n (RawExpr-F.OrElse a b) (e.rolls-OrElse a b)

pub binds-Choose : (c a b : RawExpr) (n : ℕ) → binds (e.Choose c a b) n ≡ binds_step (RawExpr-F.Choose (binds c) (binds a) (binds b)) n
binds-Choose c a b n = binds_as n (RawExpr-F.Choose c a b) (e.rolls-Choose c a b)

pub binds-Cast : (t : IntType) (a : RawExpr) (n : ℕ) → binds (e.Cast t a) n ≡ binds_step (RawExpr-F.Cast t (binds a)) n
binds-Cast t a n = binds_as n (RawExpr-F.Cast t a) (e.rolls-Cast t a)

pub binds-Index : (a i : RawExpr) (n : ℕ) → binds (e.Index a i) n ≡ binds_step (RawExpr-F.Index (binds a) (binds i)) n
binds-Index a i n = binds_as n (RawExpr-F.Index a i) (e.rolls-Index a i)

pub binds-Member : (a : RawExpr) (m : Bytes) (n : ℕ) → binds (e.Member a m) n ≡ binds_step (RawExpr-F.Member (binds a) m) n
binds-Member a m n = binds_as n (RawExpr-F.Member a m) (e.rolls-Member a m)

pub binds-Arrow : (a : RawExpr) (m : Bytes) (n : ℕ) → binds (e.Arrow a m) n ≡ binds_step (RawExpr-F.Arrow (binds a) m) n
binds-Arrow a m n = binds_as n (RawExpr-F.Arrow a m) (e.rolls-Arrow a m)

pub binds-Paren : (a : RawExpr) (n : ℕ) → binds (e.Paren a) n ≡ binds_step (RawExpr-F.Paren (binds a)) n
binds-Paren a n = binds_as n (RawExpr-F.Paren a) (e.rolls-Paren a)

-- ---- types

pub reaches-Integer : (t : IntType) (x : Extent) → reaches (type.Integer t) x ≡ reaches_step (RawType-F.Integer t) x
reaches-Integer t x = reaches_as x (RawType-F.Integer t) (type.rolls-Integer t)

pub reaches-Struct : (tag : Bytes) (x : Extent) → reaches (type.Struct tag) x ≡ reaches_step (RawType-F.Struct tag) x
reaches-Struct tag x = reaches_as x (RawType-F.Struct tag) (type.rolls-Struct tag)

pub reaches-PointerTo : (a : RawType) (x : Extent) → reaches (type.PointerTo a) x ≡ reaches_step (RawType-F.PointerTo (reaches a)) x
reaches-PointerTo a x = reaches_as x (RawType-F.PointerTo a) (type.rolls-PointerTo a)

pub reaches-Array : (a : RawType) (n : RawLength) (x : Extent) → reaches (type.Array a n) x ≡ reaches_step (RawType-F.Array (reaches a) n) x
reaches-Array a n x = reaches_as x (RawType-F.Array a n) (type.rolls-Array a n)

-- ---- statements

pub stands-Declare : (l : ℕ) (v : RawVar) (i : RawInit) (p : Position) → stands (s.Declare l v i) p ≡ stands_step (RawStatement-F.Declare l v i) p
stands-Declare l v i p = stands_as p (RawStatement-F.Declare l v i) (s.rolls-Declare l v i)

pub stands-Assign : (l : ℕ) (a : RawExpr) (op : Option BinaryOp) (b : RawExpr) (p : Position) → stands (s.Assign l a op b) p ≡ stands_step (RawStatement-F.Assign l a op b) p
stands-Assign l a op b p = stands_as p (RawStatement-F.Assign l a op b) (s.rolls-Assign l a op b)

pub stands-Bump : (l : ℕ) (a : RawExpr) (up before : Bool) (p : Position) → stands (s.Bump l a up before) p ≡ stands_step (RawStatement-F.Bump l a up before) p
stands-Bump l a up before p = stands_as p (RawStatement-F.Bump l a up before) (s.rolls-Bump l a up before)

pub stands-Call : (l : ℕ) (to : RawTarget) (f : Bytes) (args : List RawArg) (p : Position) → stands (s.Call l to f args) p ≡ stands_step (RawStatement-F.Call l to f args) p
stands-Call l to f args p = stands_as p (RawStatement-F.Call l to f args) (s.rolls-Call l to f args)

pub stands-Heap : (l : ℕ) (to : RawTarget) (t : Option RawTypeName) (n : RawAmount) (p : Position) → stands (s.Heap l to t n) p ≡ stands_step (RawStatement-F.Heap l to t n) p
stands-Heap l to t n p = stands_as p (RawStatement-F.Heap l to t n) (s.rolls-Heap l to t n)

pub stands-If : (l : ℕ) (a : RawExpr) (b c : List RawStatement) (p : Position) → stands (s.If l a b c) p ≡ stands_step (RawStatement-F.If l a (map stands b) (map stands c)) p
stands-If l a b c p = stands_as p (RawStatement-F.If l a b c) (s.rolls-If l a b c)

pub stands-While : (l : ℕ) (a : RawExpr) (b : List RawStatement) (p : Position) → stands (s.While l a b) p ≡ stands_step (RawStatement-F.While l a (map stands b)) p
stands-While l a b p = stands_as p (RawStatement-F.While l a b) (s.rolls-While l a b)

pub stands-Do : (l : ℕ) (a : RawExpr) (b : List RawStatement) (p : Position) → stands (s.Do l a b) p ≡ stands_step (RawStatement-F.Do l a (map stands b)) p
stands-Do l a b p = stands_as p (RawStatement-F.Do l a b) (s.rolls-Do l a b)

-- a part of a for, which may lack
abbrev pub standing_part : Option RawStatement → Option (Position → Bool)
standing_part None = None
standing_part (Some x) = Some (stands x)

pub stands-For : (l : ℕ) (i : Option RawStatement) (a : RawExpr) (k : Option RawStatement) (b : List RawStatement) (p : Position) → stands (s.For l i a k b) p ≡ stands_step (RawStatement-F.For l (standing_part i) a (standing_part k) (map stands b)) p
stands-For l None a None b p = stands_as p (RawStatement-F.For l None a None b) (s.rolls-For l None a None b)
stands-For l None a (Some x) b p = stands_as p (RawStatement-F.For l None a (Some x) b) (s.rolls-For l None a (Some x) b)
stands-For l (Some i) a None b p = stands_as p (RawStatement-F.For l (Some i) a None b) (s.rolls-For l (Some i) a None b)
stands-For l (Some i) a (Some x) b p = stands_as p (RawStatement-F.For l (Some i) a (Some x) b) (s.rolls-For l (Some i) a (Some x) b)

pub stands-Switch : (l : ℕ) (a : RawExpr) (arms : List RawArm) (p : Position) → stands (s.Switch l a arms) p ≡ stands_step (RawStatement-F.Switch l a (map is_arm arms)) p
stands-Switch l a arms p = stands_as p (RawStatement-F.Switch l a arms) (s.rolls-Switch l a arms)

pub stands-Block : (l : ℕ) (b : List RawStatement) (p : Position) → stands (s.Block l b) p ≡ stands_step (RawStatement-F.Block l (map stands b)) p
stands-Block l b p = stands_as p (RawStatement-F.Block l b) (s.rolls-Block l b)

pub stands-Return : (l : ℕ) (a : Option RawExpr) (p : Position) → stands (s.Return l a) p ≡ stands_step (RawStatement-F.Return l a) p
stands-Return l a p = stands_as p (RawStatement-F.Return l a) (s.rolls-Return l a)

pub is_arm-arm : (labels : List RawLabel) (body : List RawStatement) → is_arm (arm labels body) ≡ arm_step (record { labels = labels; body = map stands body })
is_arm-arm labels body = fold-roll-RawArm (Position → Bool) Bool stands_step arm_step (record { labels = labels; body = body })

-- ---- places, and types that stand whole

place_as : {a : RawExpr} (y : RawExpr-F RawExpr) → roll-RawExpr y ≡ a → is_place a ≡ place_step (map-RawExpr RawExpr Bool is_place y)
place_as y is = ap is_place (sym is) ∙ fold-roll-RawExpr Bool place_step y

pub place-Variable : (w : Bytes) → is_place (e.Variable w) ≡ true
place-Variable w = place_as (RawExpr-F.Variable w) (e.rolls-Variable w)

pub place-Deref : (a : RawExpr) → is_place (e.Deref a) ≡ true
place-Deref a = place_as (RawExpr-F.Deref a) (e.rolls-Deref a)

pub place-Index : (a i : RawExpr) → is_place (e.Index a i) ≡ true
place-Index a i = place_as (RawExpr-F.Index a i) (e.rolls-Index a i)

pub place-Arrow : (a : RawExpr) (m : Bytes) → is_place (e.Arrow a m) ≡ true
place-Arrow a m = place_as (RawExpr-F.Arrow a m) (e.rolls-Arrow a m)

pub place-Paren : (a : RawExpr) → is_place (e.Paren a) ≡ is_place a
place-Paren a = place_as (RawExpr-F.Paren a) (e.rolls-Paren a)

struct_as : {a : RawType} (y : RawType-F RawType) → roll-RawType y ≡ a → is_struct a ≡ struct_step (map-RawType RawType Bool is_struct y)
struct_as y is = ap is_struct (sym is) ∙ fold-roll-RawType Bool struct_step y

pub struct-Integer : (t : IntType) → is_struct (type.Integer t) ≡ false
struct-Integer t = struct_as (RawType-F.Integer t) (type.rolls-Integer t)

pub struct-Struct : (tag : Bytes) → is_struct (type.Struct tag) ≡ true
struct-Struct tag = struct_as (RawType-F.Struct tag) (type.rolls-Struct tag)

pub struct-PointerTo : (a : RawType) → is_struct (type.PointerTo a) ≡ false
struct-PointerTo a = struct_as (RawType-F.PointerTo a) (type.rolls-PointerTo a)

pub pointer-PointerTo : (a : RawType) → is_pointer (type.PointerTo a) ≡ true
pointer-PointerTo a = ap is_pointer (sym (type.rolls-PointerTo a)) ∙ fold-roll-RawType Bool pointer_step (RawType-F.PointerTo a)
