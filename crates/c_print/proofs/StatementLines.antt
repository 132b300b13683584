-- The lines of each form of statement.
use Rattle.std.proofs.Common.{◌≡◌, ℕ, suc, List, [], ◌∷◌, ◌++◌, length, ◌==◌, Bool, false, Option, map, Result, OnOk, codes, append_assoc, subst, sym, ap, ◌∙◌}
use Rattle.std.specs.Option.{option_map}
use Rattle.c_arith.specs.declared.operators.BinaryOp.{BinaryOp}
use Rattle.c_tree.specs.declared.types.CType.{CType}
use Rattle.c_tree.specs.declared.expr.Expr.{Expr}
use Rattle.c_tree.specs.declared.program.Init.{Init}
use Rattle.c_tree.specs.declared.program.Program.{Program}
use Rattle.c_tree.specs.declared.statement.Target.{Target}
use Rattle.c_tree.specs.declared.statement.Amount.{Amount}
use Rattle.c_tree.specs.declared.statement.Arm.{Arm}
use Rattle.c_tree.specs.declared.statement.Statement.{Statement}
use Rattle.c_tree.specs.declared.statement.Statement.TheVariants as s
use Rattle.c_language.specs.Words.{Bytes, expr_words}
use Rattle.c_language.specs.Layout.{line, label_lines, braced, init_part, step_part, Laid, block_lines, else_lines, arms_lines, laid, statement_words, statement_lines, body_lines, arm_laid}
use Rattle.c_language.proofs.LayoutLemmas.{arm_laid-roll, laid-Declare, laid-Assign, laid-Bump, laid-Invoke, laid-Fetch, laid-Write, laid-Print, laid-Heap, laid-Release, laid-Return, laid-If, laid-While, laid-Do, laid-Switch, laid-Block, laid-For, block_lines-laid, plain_lines}
use Rattle.c_print.proofs.StatementWords.{words-If, words-While, words-For, words-Switch}

-- ---- statements of one line

pub lines-Declare : (p : Program) (id : Option ℕ) (l x : ℕ) (i : Init) (n : ℕ) → statement_lines p n (s.Declare id l x i) ≡ line n (statement_words p (s.Declare id l x i) ++ codes ";")
lines-Declare p id l x i n = plain_lines n (laid-Declare p id l x i)

pub lines-Assign : (p : Program) (id l : ℕ) (a : Expr) (op : Option BinaryOp) (b : Expr) (n : ℕ) → statement_lines p n (s.Assign id l a op b) ≡ line n (statement_words p (s.Assign id l a op b) ++ codes ";")
lines-Assign p id l a op b n = plain_lines n (laid-Assign p id l a op b)

pub lines-Bump : (p : Program) (id l : ℕ) (a : Expr) (up before : Bool) (n : ℕ) → statement_lines p n (s.Bump id l a up before) ≡ line n (statement_words p (s.Bump id l a up before) ++ codes ";")
lines-Bump p id l a up before n = plain_lines n (laid-Bump p id l a up before)

pub lines-Invoke : (p : Program) (id l : ℕ) (to : Target) (f : ℕ) (args : List Expr) (n : ℕ) → statement_lines p n (s.Invoke id l to f args) ≡ line n (statement_words p (s.Invoke id l to f args) ++ codes ";")
lines-Invoke p id l to f args n = plain_lines n (laid-Invoke p id l to f args)

pub lines-Fetch : (p : Program) (id l : ℕ) (to : Target) (n : ℕ) → statement_lines p n (s.Fetch id l to) ≡ line n (statement_words p (s.Fetch id l to) ++ codes ";")
lines-Fetch p id l to n = plain_lines n (laid-Fetch p id l to)

pub lines-Write : (p : Program) (id l : ℕ) (a : Expr) (n : ℕ) → statement_lines p n (s.Write id l a) ≡ line n (statement_words p (s.Write id l a) ++ codes ";")
lines-Write p id l a n = plain_lines n (laid-Write p id l a)

pub lines-Print : (p : Program) (id l : ℕ) (format : Bytes) (args : List Expr) (n : ℕ) → statement_lines p n (s.Print id l format args) ≡ line n (statement_words p (s.Print id l format args) ++ codes ";")
lines-Print p id l format args n = plain_lines n (laid-Print p id l format args)

pub lines-Heap : (p : Program) (id l : ℕ) (to : Target) (cast : Option CType) (asked : Amount) (n : ℕ) → statement_lines p n (s.Heap id l to cast asked) ≡ line n (statement_words p (s.Heap id l to cast asked) ++ codes ";")
lines-Heap p id l to cast asked n = plain_lines n (laid-Heap p id l to cast asked)

pub lines-Release : (p : Program) (id l : ℕ) (a : Expr) (n : ℕ) → statement_lines p n (s.Release id l a) ≡ line n (statement_words p (s.Release id l a) ++ codes ";")
lines-Release p id l a n = plain_lines n (laid-Release p id l a)

pub lines-Return : (p : Program) (id l : ℕ) (value : Option Expr) (n : ℕ) → statement_lines p n (s.Return id l value) ≡ line n (statement_words p (s.Return id l value) ++ codes ";")
lines-Return p id l value n = plain_lines n (laid-Return p id l value)

-- ---- statements with bodies

lines_at : {a b : Laid} (n : ℕ) → a ≡ b → a.lines n ≡ b.lines n
lines_at n e = ap (λ (x : Laid). x.lines n) e

-- the words of a statement with a test, and the brace behind them
opened : (w opening test : Bytes) → w ≡ opening ++ (test ++ codes ")") → opening ++ (test ++ codes ") {") ≡ w ++ codes " {"
opened w opening test e = sym (ap (λ (x : Bytes). x ++ codes " {") e ∙ simp append_assoc)

opened_for : (w first test step : Bytes) → w ≡ codes "for (" ++ (first ++ (codes "; " ++ (test ++ (codes ";" ++ (step ++ codes ")")))))
    → codes "for (" ++ (first ++ (codes "; " ++ (test ++ (codes ";" ++ (step ++ codes ") {"))))) ≡ w ++ codes " {"
opened_for w first test step e = sym (ap (λ (x : Bytes). x ++ codes " {") e ∙ simp append_assoc)

pub lines-If : (p : Program) (id l : ℕ) (test : Expr) (met other : List Statement) (n : ℕ)
    → statement_lines p n (s.If id l test met other) ≡ line n (statement_words p (s.If id l test met other) ++ codes " {") ++ (body_lines p (suc n) met ++ (else_lines (map (laid p) other) n ++ line n (codes "}")))
lines-If p id l test met other n =
    lines_at n (laid-If p id l test met other)
    ∙ ap (λ (x : Bytes). line n x ++ (block_lines (map (laid p) met) (suc n) ++ (else_lines (map (laid p) other) n ++ line n (codes "}"))))
    (opened (statement_words p (s.If id l test met other)) (codes "if (") (expr_words p test) (words-If p id l test met other))
    ∙ ap (λ (x : Bytes). line n (statement_words p (s.If id l test met other) ++ codes " {") ++ (x ++ (else_lines (map (laid p) other) n ++ line n (codes "}"))))
    (block_lines-laid p met (suc n))

pub lines-While : (p : Program) (id l : ℕ) (test : Expr) (body : List Statement) (n : ℕ)
    → statement_lines p n (s.While id l test body) ≡ line n (statement_words p (s.While id l test body) ++ codes " {") ++ (body_lines p (suc n) body ++ line n (codes "}"))
lines-While p id l test body n =
    lines_at n (laid-While p id l test body)
    ∙ ap (λ (x : Bytes). braced x (block_lines (map (laid p) body) (suc n)) (codes "}") n) (opened (statement_words p (s.While id l test body)) (codes "while (") (expr_words p test) (words-While p id l test body))
    ∙ ap (λ (x : Bytes). braced (statement_words p (s.While id l test body) ++ codes " {") x (codes "}") n) (block_lines-laid p body (suc n))

pub lines-For : (p : Program) (id l : ℕ) (init : Option Statement) (test : Expr) (step : Option Statement) (body : List Statement) (n : ℕ)
    → statement_lines p n (s.For id l init test step body) ≡ line n (statement_words p (s.For id l init test step body) ++ codes " {") ++ (body_lines p (suc n) body ++ line n (codes "}"))
lines-For p id l init test step body n =
    lines_at n (laid-For p id l init test step body)
    ∙ ap (λ (x : Bytes). braced x (block_lines (map (laid p) body) (suc n)) (codes "}") n) (opened_for (statement_words p (s.For id l init test step body)) (init_part (option_map (laid p) init)) (expr_words p test) (step_part (option_map (laid p) step)) (words-For p id l init test step body))
    ∙ ap (λ (x : Bytes). braced (statement_words p (s.For id l init test step body) ++ codes " {") x (codes "}") n) (block_lines-laid p body (suc n))

pub lines-Do : (p : Program) (id l : ℕ) (test : Expr) (body : List Statement) (n : ℕ)
    → statement_lines p n (s.Do id l test body) ≡ line n (codes "do {") ++ (body_lines p (suc n) body ++ line n (codes "} while (" ++ (expr_words p test ++ codes ");")))
lines-Do p id l test body n =
    lines_at n (laid-Do p id l test body)
    ∙ ap (λ (x : Bytes). braced (codes "do {") x (codes "} while (" ++ (expr_words p test ++ codes ");")) n) (block_lines-laid p body (suc n))

pub lines-Switch : (p : Program) (id l : ℕ) (test : Expr) (arms : List Arm) (n : ℕ)
    → statement_lines p n (s.Switch id l test arms) ≡ line n (statement_words p (s.Switch id l test arms) ++ codes " {") ++ (arms_lines (map (arm_laid p) arms) (suc n) ++ line n (codes "}"))
lines-Switch p id l test arms n =
    lines_at n (laid-Switch p id l test arms)
    ∙ ap (λ (x : Bytes). braced x (arms_lines (map (arm_laid p) arms) (suc n)) (codes "}") n)
    (opened (statement_words p (s.Switch id l test arms)) (codes "switch (") (expr_words p test) (words-Switch p id l test arms))

pub lines-Block : (p : Program) (l : ℕ) (body : List Statement) (n : ℕ)
    → statement_lines p n (s.Block l body) ≡ line n (codes "{") ++ (body_lines p (suc n) body ++ line n (codes "}"))
lines-Block p l body n =
    lines_at n (laid-Block p l body) ∙ ap (λ (x : Bytes). braced (codes "{") x (codes "}") n) (block_lines-laid p body (suc n))

-- an else and its body, where there is one
pub else_lines-some : (p : Program) (ss : List Statement) (n : ℕ) → false ≡ (length ss == 0) → else_lines (map (laid p) ss) n ≡ line n (codes "} else {") ++ body_lines p (suc n) ss
else_lines-some p [] n h = absurd cc
else_lines-some p (a ∷ ss) n h = ap (λ (x : Bytes). line n (codes "} else {") ++ x) (block_lines-laid p (a ∷ ss) (suc n))

-- an arm, by its labels and its statements
pub arm_laid-parts : (p : Program) (a : Arm) (n : ℕ) → arm_laid p a n ≡ label_lines p a.labels n ++ (body_lines p (suc n) a.body ++ line (suc n) (codes "break;"))
arm_laid-parts p a n =
    arm_laid-roll p a.labels a.body n ∙ ap (λ (x : Bytes). label_lines p a.labels n ++ (x ++ line (suc n) (codes "break;"))) (block_lines-laid p a.body (suc n))

-- ---- the same of a statement that is known to have this form

pub at-If : (id l : ℕ) (test : Expr) (met other : List Statement) (p : Program) (a : Statement) (n : ℕ) → a ≡ s.If id l test met other
    → statement_lines p n a ≡ line n (statement_words p a ++ codes " {") ++ ((body_lines p (suc n) met ++ else_lines (map (laid p) other) n) ++ line n (codes "}"))
at-If id l test met other p a n e =
    rw e (lines-If p id l test met other n ∙ ap (λ (x : Bytes). line n (statement_words p (s.If id l test met other) ++ codes " {") ++ x)
    (sym (append_assoc (body_lines p (suc n) met) (else_lines (map (laid p) other) n) (line n (codes "}")))))

pub at-While : (id l : ℕ) (test : Expr) (body : List Statement) (p : Program) (a : Statement) (n : ℕ) → a ≡ s.While id l test body
    → statement_lines p n a ≡ line n (statement_words p a ++ codes " {") ++ (body_lines p (suc n) body ++ line n (codes "}"))
at-While id l test body p a n e = rw e (lines-While p id l test body n)

pub at-For : (id l : ℕ) (init : Option Statement) (test : Expr) (step : Option Statement) (body : List Statement) (p : Program) (a : Statement) (n : ℕ) → a ≡ s.For id l init test step body
    → statement_lines p n a ≡ line n (statement_words p a ++ codes " {") ++ (body_lines p (suc n) body ++ line n (codes "}"))
at-For id l init test step body p a n e = rw e (lines-For p id l init test step body n)

pub at-Do : (id l : ℕ) (test : Expr) (body : List Statement) (p : Program) (a : Statement) (n : ℕ) → a ≡ s.Do id l test body
    → statement_lines p n a ≡ line n (codes "do {") ++ (body_lines p (suc n) body ++ line n (codes "} while (" ++ (expr_words p test ++ codes ");")))
at-Do id l test body p a n e = rw e (lines-Do p id l test body n)

pub at-Switch : (id l : ℕ) (test : Expr) (arms : List Arm) (p : Program) (a : Statement) (n : ℕ) → a ≡ s.Switch id l test arms
    → statement_lines p n a ≡ line n (statement_words p a ++ codes " {") ++ (arms_lines (map (arm_laid p) arms) (suc n) ++ line n (codes "}"))
at-Switch id l test arms p a n e = rw e (lines-Switch p id l test arms n)

pub at-Block : (l : ℕ) (body : List Statement) (p : Program) (a : Statement) (n : ℕ) → a ≡ s.Block l body
    → statement_lines p n a ≡ line n (codes "{") ++ (body_lines p (suc n) body ++ line n (codes "}"))
at-Block l body p a n e = rw e (lines-Block p l body n)

-- ---- lines that are appended one after another

-- what is appended is known by another equation
pub on_ok : {T E : Type 0} (r : Result T E) (new : Bytes) {a b : Bytes} → a ≡ b → OnOk r (new ≡ a) → OnOk r (new ≡ b)
on_ok r new e h = subst (λ (y : Bytes). OnOk r (new ≡ y)) e h

-- three texts, the last of them a line at this level
pub closed : (n m : ℕ) (start a b x y tail whole : Bytes) → whole ≡ x ++ (y ++ line n tail) → a ≡ start ++ x → b ≡ a ++ y → m ≡ n → b ++ line m tail ≡ start ++ whole
closed n m start a b x y tail whole e p q level =
    ap (λ (k : ℕ). b ++ line k tail) level
    ∙ ap (λ (z : Bytes). z ++ line n tail) (q ∙ ap (λ (z : Bytes). z ++ y) p)
    ∙ append_assoc (start ++ x) y (line n tail) ∙ append_assoc start x (y ++ line n tail)
    ∙ ap (λ (z : Bytes). start ++ z) (sym e)

-- two texts, one after the other
pub both : (a b c x y : Bytes) → b ≡ a ++ x → c ≡ b ++ y → c ≡ a ++ (x ++ y)
both a b c x y p q = q ∙ ap (λ (z : Bytes). z ++ y) p ∙ append_assoc a x y

pub ruleset lines_of = (lines-Declare, lines-Assign, lines-Bump, lines-Invoke, lines-Fetch, lines-Write, lines-Print, lines-Heap, lines-Release, lines-Return, lines-If, lines-While, lines-For, lines-Do, lines-Switch, lines-Block)
