-- One layer of a statement, at each variant.
use Rattle.std.proofs.Common.{◌≡◌, ℕ, Bool, List, [], ◌∷◌, ◌++◌, Option, Some, None, refl, sym, ap, ◌∙◌, append_assoc, append-nil}
use Rattle.std.specs.Option.{option_to_list}
use Rattle.c_arith.specs.declared.operators.BinaryOp.{BinaryOp}
use Rattle.c_tree.specs.declared.types.CType.{CType}
use Rattle.c_tree.specs.declared.expr.Expr.{Expr}
use Rattle.c_tree.specs.declared.program.Init.{Init}
use Rattle.c_tree.specs.declared.statement.Target.{Target}
use Rattle.c_tree.specs.declared.statement.Amount.{Amount}
use Rattle.c_tree.specs.declared.statement.Statement.{Statement, out-Statement}
use Rattle.c_tree.specs.declared.statement.Statement.TheViews.{roll-Statement, out-roll-Statement, roll-out-Statement}
use Rattle.c_tree.specs.declared.statement.Statement.TheOpen.{Statement-F}
use Rattle.c_tree.specs.declared.statement.Statement.TheVariants as s
use Rattle.c_tree.specs.declared.statement.Arm.{Arm, out-Arm, fold_out-Arm}
use Rattle.c_tree.specs.Numbered.{Starts, start, starts, starts_step, arm_starts, body_starts, own_start, layer_start, inner, layer_inner, arms_inner}
use Rattle.c_tree.proofs.NumberedLemmas.{all-starts, starts-Declare, starts-Assign, starts-Bump, starts-Invoke, starts-Fetch, starts-Write, starts-Print, starts-Heap, starts-Release, starts-If, starts-While, starts-Do, starts-For, starts-Switch, starts-Block, starts-Return, starts_of_arm, arms_starts, part_starts}

pub out-Declare : (id : Option ℕ) (l x : ℕ) (init : Init) → out-Statement (s.Declare id l x init) ≡ Statement-F.Declare id l x init
out-Declare id l x init = ap out-Statement (sym (s.rolls-Declare id l x init)) ∙ out-roll-Statement (Statement-F.Declare id l x init)

pub out-Assign : (id l : ℕ) (left : Expr) (op : Option BinaryOp) (right : Expr) → out-Statement (s.Assign id l left op right) ≡ Statement-F.Assign id l left op right
out-Assign id l left op right = ap out-Statement (sym (s.rolls-Assign id l left op right)) ∙ out-roll-Statement (Statement-F.Assign id l left op right)

pub out-Bump : (id l : ℕ) (a : Expr) (up before : Bool) → out-Statement (s.Bump id l a up before) ≡ Statement-F.Bump id l a up before
out-Bump id l a up before = ap out-Statement (sym (s.rolls-Bump id l a up before)) ∙ out-roll-Statement (Statement-F.Bump id l a up before)

pub out-Invoke : (id l : ℕ) (to : Target) (f : ℕ) (args : List Expr) → out-Statement (s.Invoke id l to f args) ≡ Statement-F.Invoke id l to f args
out-Invoke id l to f args = ap out-Statement (sym (s.rolls-Invoke id l to f args)) ∙ out-roll-Statement (Statement-F.Invoke id l to f args)

pub out-Fetch : (id l : ℕ) (to : Target) → out-Statement (s.Fetch id l to) ≡ Statement-F.Fetch id l to
out-Fetch id l to = ap out-Statement (sym (s.rolls-Fetch id l to)) ∙ out-roll-Statement (Statement-F.Fetch id l to)

pub out-Write : (id l : ℕ) (e : Expr) → out-Statement (s.Write id l e) ≡ Statement-F.Write id l e
out-Write id l e = ap out-Statement (sym (s.rolls-Write id l e)) ∙ out-roll-Statement (Statement-F.Write id l e)

pub out-Print : (id l : ℕ) (format : List ℕ) (args : List Expr) → out-Statement (s.Print id l format args) ≡ Statement-F.Print id l format args
out-Print id l format args = ap out-Statement (sym (s.rolls-Print id l format args)) ∙ out-roll-Statement (Statement-F.Print id l format args)

pub out-Heap : (id l : ℕ) (to : Target) (cast : Option CType) (n : Amount) → out-Statement (s.Heap id l to cast n) ≡ Statement-F.Heap id l to cast n
out-Heap id l to cast n = ap out-Statement (sym (s.rolls-Heap id l to cast n)) ∙ out-roll-Statement (Statement-F.Heap id l to cast n)

pub out-Release : (id l : ℕ) (e : Expr) → out-Statement (s.Release id l e) ≡ Statement-F.Release id l e
out-Release id l e = ap out-Statement (sym (s.rolls-Release id l e)) ∙ out-roll-Statement (Statement-F.Release id l e)

pub out-If : (id l : ℕ) (e : Expr) (a b : List Statement) → out-Statement (s.If id l e a b) ≡ Statement-F.If id l e a b
out-If id l e a b = ap out-Statement (sym (s.rolls-If id l e a b)) ∙ out-roll-Statement (Statement-F.If id l e a b)

pub out-While : (id l : ℕ) (e : Expr) (b : List Statement) → out-Statement (s.While id l e b) ≡ Statement-F.While id l e b
out-While id l e b = ap out-Statement (sym (s.rolls-While id l e b)) ∙ out-roll-Statement (Statement-F.While id l e b)

pub out-Do : (id l : ℕ) (e : Expr) (b : List Statement) → out-Statement (s.Do id l e b) ≡ Statement-F.Do id l e b
out-Do id l e b = ap out-Statement (sym (s.rolls-Do id l e b)) ∙ out-roll-Statement (Statement-F.Do id l e b)

pub out-For : (id l : ℕ) (i : Option Statement) (e : Expr) (step : Option Statement) (b : List Statement) → out-Statement (s.For id l i e step b) ≡ Statement-F.For id l i e step b
out-For id l i e step b = ap out-Statement (sym (s.rolls-For id l i e step b)) ∙ out-roll-Statement (Statement-F.For id l i e step b)

pub out-Switch : (id l : ℕ) (e : Expr) (arms : List Arm) → out-Statement (s.Switch id l e arms) ≡ Statement-F.Switch id l e arms
out-Switch id l e arms = ap out-Statement (sym (s.rolls-Switch id l e arms)) ∙ out-roll-Statement (Statement-F.Switch id l e arms)

pub out-Block : (l : ℕ) (b : List Statement) → out-Statement (s.Block l b) ≡ Statement-F.Block l b
out-Block l b = ap out-Statement (sym (s.rolls-Block l b)) ∙ out-roll-Statement (Statement-F.Block l b)

pub out-Return : (id l : ℕ) (e : Option Expr) → out-Statement (s.Return id l e) ≡ Statement-F.Return id l e
out-Return id l e = ap out-Statement (sym (s.rolls-Return id l e)) ∙ out-roll-Statement (Statement-F.Return id l e)

pub inner-Declare : (id : Option ℕ) (l x : ℕ) (init : Init) → inner (s.Declare id l x init) ≡ []
inner-Declare id l x init = ap layer_inner (out-Declare id l x init)

pub inner-Assign : (id l : ℕ) (left : Expr) (op : Option BinaryOp) (right : Expr) → inner (s.Assign id l left op right) ≡ []
inner-Assign id l left op right = ap layer_inner (out-Assign id l left op right)

pub inner-Bump : (id l : ℕ) (a : Expr) (up before : Bool) → inner (s.Bump id l a up before) ≡ []
inner-Bump id l a up before = ap layer_inner (out-Bump id l a up before)

pub inner-Invoke : (id l : ℕ) (to : Target) (f : ℕ) (args : List Expr) → inner (s.Invoke id l to f args) ≡ []
inner-Invoke id l to f args = ap layer_inner (out-Invoke id l to f args)

pub inner-Fetch : (id l : ℕ) (to : Target) → inner (s.Fetch id l to) ≡ []
inner-Fetch id l to = ap layer_inner (out-Fetch id l to)

pub inner-Write : (id l : ℕ) (e : Expr) → inner (s.Write id l e) ≡ []
inner-Write id l e = ap layer_inner (out-Write id l e)

pub inner-Print : (id l : ℕ) (format : List ℕ) (args : List Expr) → inner (s.Print id l format args) ≡ []
inner-Print id l format args = ap layer_inner (out-Print id l format args)

pub inner-Heap : (id l : ℕ) (to : Target) (cast : Option CType) (n : Amount) → inner (s.Heap id l to cast n) ≡ []
inner-Heap id l to cast n = ap layer_inner (out-Heap id l to cast n)

pub inner-Release : (id l : ℕ) (e : Expr) → inner (s.Release id l e) ≡ []
inner-Release id l e = ap layer_inner (out-Release id l e)

pub inner-If : (id l : ℕ) (e : Expr) (a b : List Statement) → inner (s.If id l e a b) ≡ a ++ b
inner-If id l e a b = ap layer_inner (out-If id l e a b)

pub inner-While : (id l : ℕ) (e : Expr) (b : List Statement) → inner (s.While id l e b) ≡ b
inner-While id l e b = ap layer_inner (out-While id l e b)

pub inner-Do : (id l : ℕ) (e : Expr) (b : List Statement) → inner (s.Do id l e b) ≡ b
inner-Do id l e b = ap layer_inner (out-Do id l e b)

pub inner-For : (id l : ℕ) (i : Option Statement) (e : Expr) (step : Option Statement) (b : List Statement) → inner (s.For id l i e step b) ≡ option_to_list i ++ (option_to_list step ++ b)
inner-For id l i e step b = ap layer_inner (out-For id l i e step b)

pub inner-Switch : (id l : ℕ) (e : Expr) (arms : List Arm) → inner (s.Switch id l e arms) ≡ arms_inner arms
inner-Switch id l e arms = ap layer_inner (out-Switch id l e arms)

pub inner-Block : (l : ℕ) (b : List Statement) → inner (s.Block l b) ≡ b
inner-Block l b = ap layer_inner (out-Block l b)

pub inner-Return : (id l : ℕ) (e : Option Expr) → inner (s.Return id l e) ≡ []
inner-Return id l e = ap layer_inner (out-Return id l e)

pub starts_of_arm-out : (a : Arm) → starts_of_arm a ≡ body_starts (out-Arm a).body
starts_of_arm-out a = fold_out-Arm Starts Starts starts_step arm_starts a ∙ all-starts (out-Arm a).body

pub body_starts-append : (a b : List Statement) → body_starts (a ++ b) ≡ body_starts a ++ body_starts b
body_starts-append [] b = refl
body_starts-append (one ∷ rest) b =
    ap (λ found. starts one ++ found) (body_starts-append rest b) ∙ sym (append_assoc (starts one) (body_starts rest) (body_starts b))

pub arms_starts-inner : (arms : List Arm) → arms_starts arms ≡ body_starts (arms_inner arms)
arms_starts-inner [] = refl
arms_starts-inner (a ∷ rest) =
    rw (starts_of_arm-out a, arms_starts-inner rest) (sym (body_starts-append (out-Arm a).body (arms_inner rest)))

pub part_starts-list : (part : Option Statement) → part_starts part ≡ body_starts (option_to_list part)
part_starts-list None = refl
part_starts-list (Some one) = sym (append-nil (starts one))

layer_starts : (x : Statement-F Statement Arm) → starts (roll-Statement x) ≡ option_to_list (layer_start x) ++ body_starts (layer_inner x)
layer_starts (Statement-F.Declare None l x init) = ap starts (s.rolls-Declare None l x init) ∙ starts-Declare None l x init
layer_starts (Statement-F.Declare (Some id) l x init) = ap starts (s.rolls-Declare (Some id) l x init) ∙ starts-Declare (Some id) l x init
layer_starts (Statement-F.Assign id l left op right) = ap starts (s.rolls-Assign id l left op right) ∙ starts-Assign id l left op right
layer_starts (Statement-F.Bump id l a up before) = ap starts (s.rolls-Bump id l a up before) ∙ starts-Bump id l a up before
layer_starts (Statement-F.Invoke id l to f args) = ap starts (s.rolls-Invoke id l to f args) ∙ starts-Invoke id l to f args
layer_starts (Statement-F.Fetch id l to) = ap starts (s.rolls-Fetch id l to) ∙ starts-Fetch id l to
layer_starts (Statement-F.Write id l e) = ap starts (s.rolls-Write id l e) ∙ starts-Write id l e
layer_starts (Statement-F.Print id l format args) = ap starts (s.rolls-Print id l format args) ∙ starts-Print id l format args
layer_starts (Statement-F.Heap id l to cast n) = ap starts (s.rolls-Heap id l to cast n) ∙ starts-Heap id l to cast n
layer_starts (Statement-F.Release id l e) = ap starts (s.rolls-Release id l e) ∙ starts-Release id l e
layer_starts (Statement-F.If id l e a b) =
    ap starts (s.rolls-If id l e a b) ∙ starts-If id l e a b ∙ ap (λ found. start id l ∷ found) (sym (body_starts-append a b))
layer_starts (Statement-F.While id l e b) = ap starts (s.rolls-While id l e b) ∙ starts-While id l e b
layer_starts (Statement-F.Do id l e b) = ap starts (s.rolls-Do id l e b) ∙ starts-Do id l e b
layer_starts (Statement-F.For id l i e step b) =
    ap starts (s.rolls-For id l i e step b) ∙ starts-For id l i e step b ∙ rw (part_starts-list i, part_starts-list step, ← body_starts-append (option_to_list step) b, ← body_starts-append (option_to_list i) (option_to_list step ++ b)) refl
layer_starts (Statement-F.Switch id l e arms) = ap starts (s.rolls-Switch id l e arms) ∙ starts-Switch id l e arms ∙ ap (λ found. start id l ∷ found) (arms_starts-inner arms)
layer_starts (Statement-F.Block l b) = ap starts (s.rolls-Block l b) ∙ starts-Block l b
layer_starts (Statement-F.Return id l e) = ap starts (s.rolls-Return id l e) ∙ starts-Return id l e

-- The numbered statements of a statement: itself, and those inside it.
pub starts-inner : (one : Statement) → starts one ≡ option_to_list (own_start one) ++ body_starts (inner one)
starts-inner one = ap starts (sym (roll-out-Statement one)) ∙ layer_starts (out-Statement one)

-- The layer at each variant.
pub ruleset layers = (out-Declare, out-Assign, out-Bump, out-Invoke, out-Fetch, out-Write, out-Print, out-Heap, out-Release, out-If, out-While, out-Do, out-For, out-Switch, out-Block, out-Return)

-- What stands right inside each variant.
pub ruleset inners = (inner-Declare, inner-Assign, inner-Bump, inner-Invoke, inner-Fetch, inner-Write, inner-Print, inner-Heap, inner-Release, inner-If, inner-While, inner-Do, inner-For, inner-Switch, inner-Block, inner-Return)
