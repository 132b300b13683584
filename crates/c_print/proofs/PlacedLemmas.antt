-- Lines of each form of statement, as equations.
use Rattle.std.proofs.Common.{◌≡◌, ℕ, ◌+◌, Bool, List, [], ◌∷◌, ◌++◌, length, map, true, ◌==◌, Option, Some, None, option_map, sym, ap, ◌∙◌, arith}
use Rattle.c_arith.specs.declared.operators.BinaryOp.{BinaryOp}
use Rattle.c_tree.specs.declared.types.CType.{CType}
use Rattle.c_tree.specs.declared.expr.Expr.{Expr}
use Rattle.c_tree.specs.declared.program.Init.{Init}
use Rattle.c_tree.specs.declared.statement.Target.{Target}
use Rattle.c_tree.specs.declared.statement.Amount.{Amount}
use Rattle.c_tree.specs.declared.statement.Arm.{Arm, fold_out-Arm}
use Rattle.c_tree.specs.declared.statement.Statement.{Statement, out-Statement, fold-roll-Statement}
use Rattle.c_tree.specs.declared.statement.Statement.TheViews.{roll-Statement, roll-out-Statement}
use Rattle.c_tree.specs.declared.statement.Statement.TheOpen.{Statement-F}
use Rattle.c_tree.specs.declared.statement.Statement.TheVariants as s
use Rattle.c_tree.specs.declared.numbered.Start.{Start}
use Rattle.c_tree.specs.Numbered.{own_id, layer_start, declared_start}
use Rattle.std.proofs.lemmas.Bool.{eqb-true}
use Rattle.c_print.specs.Lines.{Placed, placed, arm_placed, placed_step, arm_placed_step, simple, enclosing, heights, part_starts, starts_from, block_starts, noted}
use Rattle.c_print.proofs.NotedLines.{noted_nothing, then_noted}

pub placed-Declare : (id : Option ℕ) (l x : ℕ) (i : Init) → placed (s.Declare id l x i) ≡ simple id
placed-Declare id l x i = ap placed (sym (s.rolls-Declare id l x i)) ∙ fold-roll-Statement Placed Placed placed_step arm_placed_step (Statement-F.Declare id l x i)

pub placed-Assign : (id l : ℕ) (a : Expr) (op : Option BinaryOp) (b : Expr) → placed (s.Assign id l a op b) ≡ simple (Some id)
placed-Assign id l a op b = ap placed (sym (s.rolls-Assign id l a op b)) ∙ fold-roll-Statement Placed Placed placed_step arm_placed_step (Statement-F.Assign id l a op b)

pub placed-Bump : (id l : ℕ) (a : Expr) (up before : Bool) → placed (s.Bump id l a up before) ≡ simple (Some id)
placed-Bump id l a up before = ap placed (sym (s.rolls-Bump id l a up before)) ∙ fold-roll-Statement Placed Placed placed_step arm_placed_step (Statement-F.Bump id l a up before)

pub placed-Invoke : (id l : ℕ) (to : Target) (f : ℕ) (args : List Expr) → placed (s.Invoke id l to f args) ≡ simple (Some id)
placed-Invoke id l to f args = ap placed (sym (s.rolls-Invoke id l to f args)) ∙ fold-roll-Statement Placed Placed placed_step arm_placed_step (Statement-F.Invoke id l to f args)

pub placed-Fetch : (id l : ℕ) (to : Target) → placed (s.Fetch id l to) ≡ simple (Some id)
placed-Fetch id l to = ap placed (sym (s.rolls-Fetch id l to)) ∙ fold-roll-Statement Placed Placed placed_step arm_placed_step (Statement-F.Fetch id l to)

pub placed-Write : (id l : ℕ) (e : Expr) → placed (s.Write id l e) ≡ simple (Some id)
placed-Write id l e = ap placed (sym (s.rolls-Write id l e)) ∙ fold-roll-Statement Placed Placed placed_step arm_placed_step (Statement-F.Write id l e)

pub placed-Print : (id l : ℕ) (format : List ℕ) (args : List Expr) → placed (s.Print id l format args) ≡ simple (Some id)
placed-Print id l format args = ap placed (sym (s.rolls-Print id l format args)) ∙ fold-roll-Statement Placed Placed placed_step arm_placed_step (Statement-F.Print id l format args)

pub placed-Heap : (id l : ℕ) (to : Target) (cast : Option CType) (n : Amount) → placed (s.Heap id l to cast n) ≡ simple (Some id)
placed-Heap id l to cast n = ap placed (sym (s.rolls-Heap id l to cast n)) ∙ fold-roll-Statement Placed Placed placed_step arm_placed_step (Statement-F.Heap id l to cast n)

pub placed-Release : (id l : ℕ) (e : Expr) → placed (s.Release id l e) ≡ simple (Some id)
placed-Release id l e = ap placed (sym (s.rolls-Release id l e)) ∙ fold-roll-Statement Placed Placed placed_step arm_placed_step (Statement-F.Release id l e)

pub placed-Return : (id l : ℕ) (e : Option Expr) → placed (s.Return id l e) ≡ simple (Some id)
placed-Return id l e = ap placed (sym (s.rolls-Return id l e)) ∙ fold-roll-Statement Placed Placed placed_step arm_placed_step (Statement-F.Return id l e)

pub placed-If : (id l : ℕ) (e : Expr) (a b : List Statement) → placed (s.If id l e a b) ≡ placed_step (Statement-F.If id l e (map placed a) (map placed b))
placed-If id l e a b = ap placed (sym (s.rolls-If id l e a b)) ∙ fold-roll-Statement Placed Placed placed_step arm_placed_step (Statement-F.If id l e a b)

pub placed-While : (id l : ℕ) (e : Expr) (b : List Statement) → placed (s.While id l e b) ≡ enclosing (Some id) (map placed b)
placed-While id l e b = ap placed (sym (s.rolls-While id l e b)) ∙ fold-roll-Statement Placed Placed placed_step arm_placed_step (Statement-F.While id l e b)

pub placed-Do : (id l : ℕ) (e : Expr) (b : List Statement) → placed (s.Do id l e b) ≡ enclosing (Some id) (map placed b)
placed-Do id l e b = ap placed (sym (s.rolls-Do id l e b)) ∙ fold-roll-Statement Placed Placed placed_step arm_placed_step (Statement-F.Do id l e b)

pub placed-Switch : (id l : ℕ) (e : Expr) (arms : List Arm) → placed (s.Switch id l e arms) ≡ enclosing (Some id) (map arm_placed arms)
placed-Switch id l e arms = ap placed (sym (s.rolls-Switch id l e arms)) ∙ fold-roll-Statement Placed Placed placed_step arm_placed_step (Statement-F.Switch id l e arms)

pub placed-Block : (l : ℕ) (b : List Statement) → placed (s.Block l b) ≡ enclosing None (map placed b)
placed-Block l b = ap placed (sym (s.rolls-Block l b)) ∙ fold-roll-Statement Placed Placed placed_step arm_placed_step (Statement-F.Block l b)

pub placed-For : (id l : ℕ) (i : Option Statement) (e : Expr) (step : Option Statement) (b : List Statement)
    → placed (s.For id l i e step b) ≡ placed_step (Statement-F.For id l (option_map placed i) e (option_map placed step) (map placed b))
placed-For id l None e None b = ap placed (sym (s.rolls-For id l None e None b)) ∙ fold-roll-Statement Placed Placed placed_step arm_placed_step (Statement-F.For id l None e None b)
placed-For id l None e (Some k) b = ap placed (sym (s.rolls-For id l None e (Some k) b)) ∙ fold-roll-Statement Placed Placed placed_step arm_placed_step (Statement-F.For id l None e (Some k) b)
placed-For id l (Some i) e None b = ap placed (sym (s.rolls-For id l (Some i) e None b)) ∙ fold-roll-Statement Placed Placed placed_step arm_placed_step (Statement-F.For id l (Some i) e None b)
placed-For id l (Some i) e (Some k) b = ap placed (sym (s.rolls-For id l (Some i) e (Some k) b)) ∙ fold-roll-Statement Placed Placed placed_step arm_placed_step (Statement-F.For id l (Some i) e (Some k) b)

pub placed-arm : (a : Arm) → arm_placed a ≡ record { own = None; height = length a.labels + heights (map placed a.body) + 1; inside = λ n. block_starts (map placed a.body) (n + length a.labels) }
placed-arm a = fold_out-Arm Placed Placed placed_step arm_placed_step a

-- ---- a statement's own number

layer_own : (x : Statement-F Statement Arm) → (placed (roll-Statement x)).own ≡ option_map (λ (y : Start). y.id) (layer_start x)
layer_own (Statement-F.Declare None l x i) = ap (λ (y : Statement). (placed y).own) (s.rolls-Declare None l x i) ∙ ap (λ (y : Placed). y.own) (placed-Declare None l x i)
layer_own (Statement-F.Declare (Some id) l x i) = ap (λ (y : Statement). (placed y).own) (s.rolls-Declare (Some id) l x i) ∙ ap (λ (y : Placed). y.own) (placed-Declare (Some id) l x i)
layer_own (Statement-F.Assign id l a op b) = ap (λ (y : Statement). (placed y).own) (s.rolls-Assign id l a op b) ∙ ap (λ (y : Placed). y.own) (placed-Assign id l a op b)
layer_own (Statement-F.Bump id l a up before) = ap (λ (y : Statement). (placed y).own) (s.rolls-Bump id l a up before) ∙ ap (λ (y : Placed). y.own) (placed-Bump id l a up before)
layer_own (Statement-F.Invoke id l to f args) = ap (λ (y : Statement). (placed y).own) (s.rolls-Invoke id l to f args) ∙ ap (λ (y : Placed). y.own) (placed-Invoke id l to f args)
layer_own (Statement-F.Fetch id l to) = ap (λ (y : Statement). (placed y).own) (s.rolls-Fetch id l to) ∙ ap (λ (y : Placed). y.own) (placed-Fetch id l to)
layer_own (Statement-F.Write id l e) = ap (λ (y : Statement). (placed y).own) (s.rolls-Write id l e) ∙ ap (λ (y : Placed). y.own) (placed-Write id l e)
layer_own (Statement-F.Print id l format args) = ap (λ (y : Statement). (placed y).own) (s.rolls-Print id l format args) ∙ ap (λ (y : Placed). y.own) (placed-Print id l format args)
layer_own (Statement-F.Heap id l to cast n) = ap (λ (y : Statement). (placed y).own) (s.rolls-Heap id l to cast n) ∙ ap (λ (y : Placed). y.own) (placed-Heap id l to cast n)
layer_own (Statement-F.Release id l e) = ap (λ (y : Statement). (placed y).own) (s.rolls-Release id l e) ∙ ap (λ (y : Placed). y.own) (placed-Release id l e)
layer_own (Statement-F.Return id l e) = ap (λ (y : Statement). (placed y).own) (s.rolls-Return id l e) ∙ ap (λ (y : Placed). y.own) (placed-Return id l e)
layer_own (Statement-F.If id l e a b) = ap (λ (y : Statement). (placed y).own) (s.rolls-If id l e a b) ∙ ap (λ (y : Placed). y.own) (placed-If id l e a b)
layer_own (Statement-F.While id l e b) = ap (λ (y : Statement). (placed y).own) (s.rolls-While id l e b) ∙ ap (λ (y : Placed). y.own) (placed-While id l e b)
layer_own (Statement-F.Do id l e b) = ap (λ (y : Statement). (placed y).own) (s.rolls-Do id l e b) ∙ ap (λ (y : Placed). y.own) (placed-Do id l e b)
layer_own (Statement-F.Switch id l e arms) = ap (λ (y : Statement). (placed y).own) (s.rolls-Switch id l e arms) ∙ ap (λ (y : Placed). y.own) (placed-Switch id l e arms)
layer_own (Statement-F.Block l b) = ap (λ (y : Statement). (placed y).own) (s.rolls-Block l b) ∙ ap (λ (y : Placed). y.own) (placed-Block l b)
layer_own (Statement-F.For id l i e step b) = ap (λ (y : Statement). (placed y).own) (s.rolls-For id l i e step b) ∙ ap (λ (y : Placed). y.own) (placed-For id l i e step b)

pub placed-own : (statement : Statement) → (placed statement).own ≡ own_id statement
placed-own statement = ap (λ (y : Statement). (placed y).own) (sym (roll-out-Statement statement)) ∙ layer_own (out-Statement statement)

-- ---- what is written down for each form

pub noted_If : (id l : ℕ) (e : Expr) (a b : List Statement) (statement : Statement) (xs ys : List Statement) (first line next : ℕ) (old between new : List ℕ)
    → statement ≡ s.If id l e a b → xs ≡ a → ys ≡ b → between ≡ noted first (block_starts (map placed xs) (line + 1)) old → next ≡ line + 1 + heights (map placed xs)
    → new ≡ noted first (block_starts (map placed ys) (next + 1)) between → new ≡ noted first ((placed statement).inside line) old
noted_If id l e a b statement xs ys first line next old between new is x y p n q =
    let first_list : between ≡ noted first (block_starts (map placed a) (line + 1)) old = p ∙ ap (λ z. noted first (block_starts (map placed z) (line + 1)) old) x in
    let behind : next + 1 ≡ line + 1 + heights (map placed a) + 1 = ap (λ (k : ℕ). k + 1) (n ∙ ap (λ z. line + 1 + heights (map placed z)) x) in
    let second_list : new ≡ noted first (block_starts (map placed b) (line + 1 + heights (map placed a) + 1)) between =
    q ∙ ap (λ z. noted first (block_starts (map placed z) (next + 1)) between) y ∙ ap (λ (k : ℕ). noted first (block_starts (map placed b) k) between) behind in
    then_noted first (block_starts (map placed a) (line + 1)) (block_starts (map placed b) (line + 1 + heights (map placed a) + 1)) old between new first_list second_list
    ∙ ap (λ (z : Placed). noted first (z.inside line) old) (sym (ap placed is ∙ placed-If id l e a b))

pub noted_For : (id l : ℕ) (i : Option Statement) (e : Expr) (step : Option Statement) (b : List Statement) (statement : Statement) (xs : List Statement) (first line : ℕ) (old after_init after_step new : List ℕ)
    → statement ≡ s.For id l i e step b → xs ≡ b → after_init ≡ noted first (part_starts (option_map placed i) line) old → after_step ≡ noted first (part_starts (option_map placed step) line) after_init
    → new ≡ noted first (block_starts (map placed xs) (line + 1)) after_step → new ≡ noted first ((placed statement).inside line) old
noted_For id l i e step b statement xs first line old after_init after_step new is x p q r =
    let body : new ≡ noted first (block_starts (map placed b) (line + 1)) after_step = r ∙ ap (λ z. noted first (block_starts (map placed z) (line + 1)) after_step) x in
    let others = then_noted first (part_starts (option_map placed step) line) (block_starts (map placed b) (line + 1)) after_init after_step new q body in
    then_noted first (part_starts (option_map placed i) line) (part_starts (option_map placed step) line ++ block_starts (map placed b) (line + 1)) old after_init new p others
    ∙ ap (λ (z : Placed). noted first (z.inside line) old) (sym (ap placed is ∙ placed-For id l i e step b))

pub noted_own : (statement : Statement) (first line : ℕ) (old between new : List ℕ) → between ≡ noted first (declared_start (own_id statement) line) old → new ≡ noted first ((placed statement).inside line) between
    → new ≡ noted first (starts_from (placed statement) line) old
noted_own statement first line old between new p q =
    then_noted first (declared_start (own_id statement) line) ((placed statement).inside line) old between new p q
    ∙ ap (λ (o : Option ℕ). noted first (declared_start o line ++ (placed statement).inside line) old) (sym (placed-own statement))

-- a list without a statement
pub noted_none : (all : List Statement) (first line : ℕ) (ls : List ℕ) → true ≡ (length all == 0) → ls ≡ noted first (block_starts (map placed all) line) ls
noted_none [] first line ls h = sym (noted_nothing first ls)
noted_none (a ∷ all) first line ls h = let e : length (a ∷ all) ≡ 0 = eqb-true (length (a ∷ all)) 0 (sym h) in absurd (omega (arith, e))

pub ruleset placed_of = (placed-Declare, placed-Assign, placed-Bump, placed-Invoke, placed-Fetch, placed-Write, placed-Print, placed-Heap, placed-Release, placed-Return, placed-If, placed-While, placed-Do, placed-Switch, placed-Block, placed-For, placed-arm)
