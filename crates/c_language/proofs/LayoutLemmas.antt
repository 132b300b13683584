-- The layout of each form of statement, as equations.
use Rattle.std.proofs.Common.{◌≡◌, ℕ, suc, List, [], ◌∷◌, ◌++◌, Bool, Option, Some, None, map, codes, refl, sym, ap, ◌∙◌}
use Rattle.std.specs.Option.{option_map}
use Rattle.c_arith.specs.declared.operators.BinaryOp.{BinaryOp}
use Rattle.c_tree.specs.declared.types.CType.{CType}
use Rattle.c_tree.specs.declared.expr.Expr.{Expr}
use Rattle.c_tree.specs.declared.program.Init.{Init}
use Rattle.c_tree.specs.declared.program.Program.{Program}
use Rattle.c_tree.specs.declared.statement.Target.{Target}
use Rattle.c_tree.specs.declared.statement.Amount.{Amount}
use Rattle.c_tree.specs.declared.statement.Label.{Label}
use Rattle.c_tree.specs.declared.statement.Arm.{Arm, fold-roll-Arm, roll-Arm}
use Rattle.c_tree.specs.declared.statement.Statement.{Statement, fold-roll-Statement}
use Rattle.c_tree.specs.declared.statement.Statement.TheOpen.{Statement-F}
use Rattle.c_tree.specs.declared.statement.Statement.TheVariants as s
use Rattle.c_language.specs.Words.{Bytes, assign_sign, name_of_function, expr_words}
use Rattle.c_language.specs.Layout.{line, init_words, var_words, target_words, amount_words, cast_words, call_words, bump_words, return_words, Laid, plain, block_lines, label_lines, statement_step, arm_step, laid, statement_lines, body_lines, arm_laid}

-- ---- plain statements

-- a statement that is laid out as one line
pub plain_lines : {x : Laid} {w : Bytes} (n : ℕ) → x ≡ plain w → x.lines n ≡ line n (x.words ++ codes ";")
plain_lines n e = ap (λ (l : Laid). l.lines n) e ∙ ap (λ (l : Laid). line n (l.words ++ codes ";")) (sym e)

pub laid-Declare : (p : Program) (id : Option ℕ) (l x : ℕ) (i : Init) → laid p (s.Declare id l x i) ≡ plain (var_words p x ++ init_words p i)
laid-Declare p id l x i = ap (laid p) (sym (s.rolls-Declare id l x i)) ∙ fold-roll-Statement Laid (ℕ → Bytes) (statement_step p) (arm_step p) (Statement-F.Declare id l x i)

pub laid-Assign : (p : Program) (id l : ℕ) (a : Expr) (op : Option BinaryOp) (b : Expr) → laid p (s.Assign id l a op b) ≡ plain (expr_words p a ++ (codes " " ++ (assign_sign op ++ (codes " " ++ expr_words p b))))
laid-Assign p id l a op b = ap (laid p) (sym (s.rolls-Assign id l a op b)) ∙ fold-roll-Statement Laid (ℕ → Bytes) (statement_step p) (arm_step p) (Statement-F.Assign id l a op b)

pub laid-Bump : (p : Program) (id l : ℕ) (a : Expr) (up before : Bool) → laid p (s.Bump id l a up before) ≡ plain (bump_words (expr_words p a) up before)
laid-Bump p id l a up before = ap (laid p) (sym (s.rolls-Bump id l a up before)) ∙ fold-roll-Statement Laid (ℕ → Bytes) (statement_step p) (arm_step p) (Statement-F.Bump id l a up before)

pub laid-Invoke : (p : Program) (id l : ℕ) (to : Target) (f : ℕ) (args : List Expr) → laid p (s.Invoke id l to f args) ≡ plain (target_words p to ++ call_words (name_of_function p f) (map (expr_words p) args))
laid-Invoke p id l to f args = ap (laid p) (sym (s.rolls-Invoke id l to f args)) ∙ fold-roll-Statement Laid (ℕ → Bytes) (statement_step p) (arm_step p) (Statement-F.Invoke id l to f args)

pub laid-Fetch : (p : Program) (id l : ℕ) (to : Target) → laid p (s.Fetch id l to) ≡ plain (target_words p to ++ codes "getchar()")
laid-Fetch p id l to = ap (laid p) (sym (s.rolls-Fetch id l to)) ∙ fold-roll-Statement Laid (ℕ → Bytes) (statement_step p) (arm_step p) (Statement-F.Fetch id l to)

pub laid-Write : (p : Program) (id l : ℕ) (a : Expr) → laid p (s.Write id l a) ≡ plain (call_words (codes "putchar") (expr_words p a ∷ []))
laid-Write p id l a = ap (laid p) (sym (s.rolls-Write id l a)) ∙ fold-roll-Statement Laid (ℕ → Bytes) (statement_step p) (arm_step p) (Statement-F.Write id l a)

pub laid-Print : (p : Program) (id l : ℕ) (format : Bytes) (args : List Expr) → laid p (s.Print id l format args) ≡ plain (call_words (codes "printf") (format ∷ map (expr_words p) args))
laid-Print p id l format args = ap (laid p) (sym (s.rolls-Print id l format args)) ∙ fold-roll-Statement Laid (ℕ → Bytes) (statement_step p) (arm_step p) (Statement-F.Print id l format args)

pub laid-Heap : (p : Program) (id l : ℕ) (to : Target) (cast : Option CType) (n : Amount) → laid p (s.Heap id l to cast n) ≡ plain (target_words p to ++ (cast_words p cast ++ call_words (codes "malloc") (amount_words p n ∷ [])))
laid-Heap p id l to cast n = ap (laid p) (sym (s.rolls-Heap id l to cast n)) ∙ fold-roll-Statement Laid (ℕ → Bytes) (statement_step p) (arm_step p) (Statement-F.Heap id l to cast n)

pub laid-Release : (p : Program) (id l : ℕ) (a : Expr) → laid p (s.Release id l a) ≡ plain (call_words (codes "free") (expr_words p a ∷ []))
laid-Release p id l a = ap (laid p) (sym (s.rolls-Release id l a)) ∙ fold-roll-Statement Laid (ℕ → Bytes) (statement_step p) (arm_step p) (Statement-F.Release id l a)

pub laid-Return : (p : Program) (id l : ℕ) (value : Option Expr) → laid p (s.Return id l value) ≡ plain (return_words p value)
laid-Return p id l value = ap (laid p) (sym (s.rolls-Return id l value)) ∙ fold-roll-Statement Laid (ℕ → Bytes) (statement_step p) (arm_step p) (Statement-F.Return id l value)

-- ---- statements with bodies

pub laid-If : (p : Program) (id l : ℕ) (test : Expr) (met other : List Statement) → laid p (s.If id l test met other) ≡ statement_step p (Statement-F.If id l test (map (laid p) met) (map (laid p) other))
laid-If p id l test met other = ap (laid p) (sym (s.rolls-If id l test met other)) ∙ fold-roll-Statement Laid (ℕ → Bytes) (statement_step p) (arm_step p) (Statement-F.If id l test met other)

pub laid-While : (p : Program) (id l : ℕ) (test : Expr) (body : List Statement) → laid p (s.While id l test body) ≡ statement_step p (Statement-F.While id l test (map (laid p) body))
laid-While p id l test body = ap (laid p) (sym (s.rolls-While id l test body)) ∙ fold-roll-Statement Laid (ℕ → Bytes) (statement_step p) (arm_step p) (Statement-F.While id l test body)

pub laid-Do : (p : Program) (id l : ℕ) (test : Expr) (body : List Statement) → laid p (s.Do id l test body) ≡ statement_step p (Statement-F.Do id l test (map (laid p) body))
laid-Do p id l test body = ap (laid p) (sym (s.rolls-Do id l test body)) ∙ fold-roll-Statement Laid (ℕ → Bytes) (statement_step p) (arm_step p) (Statement-F.Do id l test body)

pub laid-Switch : (p : Program) (id l : ℕ) (test : Expr) (arms : List Arm) → laid p (s.Switch id l test arms) ≡ statement_step p (Statement-F.Switch id l test (map (arm_laid p) arms))
laid-Switch p id l test arms = ap (laid p) (sym (s.rolls-Switch id l test arms)) ∙ fold-roll-Statement Laid (ℕ → Bytes) (statement_step p) (arm_step p) (Statement-F.Switch id l test arms)

pub laid-Block : (p : Program) (l : ℕ) (body : List Statement) → laid p (s.Block l body) ≡ statement_step p (Statement-F.Block l (map (laid p) body))
laid-Block p l body = ap (laid p) (sym (s.rolls-Block l body)) ∙ fold-roll-Statement Laid (ℕ → Bytes) (statement_step p) (arm_step p) (Statement-F.Block l body)

pub laid-For : (p : Program) (id l : ℕ) (init : Option Statement) (test : Expr) (step : Option Statement) (body : List Statement)
    → laid p (s.For id l init test step body) ≡ statement_step p (Statement-F.For id l (option_map (laid p) init) test (option_map (laid p) step) (map (laid p) body))
laid-For p id l None test None body = ap (laid p) (sym (s.rolls-For id l None test None body)) ∙ fold-roll-Statement Laid (ℕ → Bytes) (statement_step p) (arm_step p) (Statement-F.For id l None test None body)
laid-For p id l None test (Some k) body = ap (laid p) (sym (s.rolls-For id l None test (Some k) body)) ∙ fold-roll-Statement Laid (ℕ → Bytes) (statement_step p) (arm_step p) (Statement-F.For id l None test (Some k) body)
laid-For p id l (Some i) test None body = ap (laid p) (sym (s.rolls-For id l (Some i) test None body)) ∙ fold-roll-Statement Laid (ℕ → Bytes) (statement_step p) (arm_step p) (Statement-F.For id l (Some i) test None body)
laid-For p id l (Some i) test (Some k) body = ap (laid p) (sym (s.rolls-For id l (Some i) test (Some k) body)) ∙ fold-roll-Statement Laid (ℕ → Bytes) (statement_step p) (arm_step p) (Statement-F.For id l (Some i) test (Some k) body)

pub arm_laid-roll : (p : Program) (labels : List Label) (body : List Statement) (n : ℕ)
    → arm_laid p (roll-Arm (record { labels = labels; body = body })) n ≡ label_lines p labels n ++ (block_lines (map (laid p) body) (suc n) ++ line (suc n) (codes "break;"))
arm_laid-roll p labels body n = ap (λ (f : ℕ → Bytes). f n) (fold-roll-Arm Laid (ℕ → Bytes) (statement_step p) (arm_step p) (record { labels = labels; body = body }))

-- ---- lists

-- the lines of a body are those of its statements
pub block_lines-laid : (p : Program) (ss : List Statement) (n : ℕ) → block_lines (map (laid p) ss) n ≡ body_lines p n ss
block_lines-laid p [] n = refl
block_lines-laid p (a ∷ ss) n = ap (λ (x : Bytes). statement_lines p n a ++ x) (block_lines-laid p ss n)

pub ruleset statements_of = (laid-Declare, laid-Assign, laid-Bump, laid-Invoke, laid-Fetch, laid-Write, laid-Print, laid-Heap, laid-Release, laid-Return, laid-If, laid-While, laid-Do, laid-Switch, laid-Block, laid-For, arm_laid-roll, block_lines-laid)
