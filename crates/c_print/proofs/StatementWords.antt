-- The words and the lines of each form of statement.
use Rattle.std.proofs.Common.{◌≡◌, ℕ, List, [], ◌∷◌, ◌++◌, Bool, Option, map, codes, append_assoc, append-nil, ap, ◌∙◌}
use Rattle.std.specs.Option.{option_map}
use Rattle.c_arith.specs.declared.operators.BinaryOp.{BinaryOp}
use Rattle.c_tree.specs.declared.types.CType.{CType}
use Rattle.c_tree.specs.declared.expr.Expr.{Expr}
use Rattle.c_tree.specs.declared.program.Init.{Init}
use Rattle.c_tree.specs.declared.program.Program.{Program}
use Rattle.c_tree.specs.declared.statement.Target.{Target}
use Rattle.c_tree.specs.declared.statement.Amount.{Amount}
use Rattle.c_tree.specs.declared.statement.Arm.{Arm}
use Rattle.c_tree.specs.declared.statement.Statement.{Statement}
use Rattle.c_tree.specs.declared.statement.Statement.TheVariants as s
use Rattle.c_language.specs.Words.{Bytes, assign_sign, name_of_function, expr_words}
use Rattle.c_language.specs.Layout.{init_words, var_words, target_words, amount_words, cast_words, call_words, bump_words, return_words, init_part, step_part, Laid, laid, statement_words}
use Rattle.c_language.proofs.LayoutLemmas.{laid-Declare, laid-Assign, laid-Bump, laid-Invoke, laid-Fetch, laid-Write, laid-Print, laid-Heap, laid-Release, laid-If, laid-While, laid-Do, laid-For, laid-Switch, laid-Block, laid-Return}

-- ---- the words

words_at : {a b : Laid} → a ≡ b → a.words ≡ b.words
words_at e = ap (λ (x : Laid). x.words) e

pub words-Declare : (p : Program) (id : Option ℕ) (l x : ℕ) (i : Init) → statement_words p (s.Declare id l x i) ≡ var_words p x ++ init_words p i
words-Declare p id l x i = words_at (laid-Declare p id l x i)

pub words-Assign : (p : Program) (id l : ℕ) (a : Expr) (op : Option BinaryOp) (b : Expr) → statement_words p (s.Assign id l a op b) ≡ expr_words p a ++ (codes " " ++ (assign_sign op ++ (codes " " ++ expr_words p b)))
words-Assign p id l a op b = words_at (laid-Assign p id l a op b)

pub words-Bump : (p : Program) (id l : ℕ) (a : Expr) (up before : Bool) → statement_words p (s.Bump id l a up before) ≡ bump_words (expr_words p a) up before
words-Bump p id l a up before = words_at (laid-Bump p id l a up before)

pub words-Invoke : (p : Program) (id l : ℕ) (to : Target) (f : ℕ) (args : List Expr) → statement_words p (s.Invoke id l to f args) ≡ target_words p to ++ call_words (name_of_function p f) (map (expr_words p) args)
words-Invoke p id l to f args = words_at (laid-Invoke p id l to f args)

pub words-Fetch : (p : Program) (id l : ℕ) (to : Target) → statement_words p (s.Fetch id l to) ≡ target_words p to ++ codes "getchar()"
words-Fetch p id l to = words_at (laid-Fetch p id l to)

pub words-Write : (p : Program) (id l : ℕ) (a : Expr) → statement_words p (s.Write id l a) ≡ call_words (codes "putchar") (expr_words p a ∷ [])
words-Write p id l a = words_at (laid-Write p id l a)

pub words-Print : (p : Program) (id l : ℕ) (format : Bytes) (args : List Expr) → statement_words p (s.Print id l format args) ≡ call_words (codes "printf") (format ∷ map (expr_words p) args)
words-Print p id l format args = words_at (laid-Print p id l format args)

pub words-Heap : (p : Program) (id l : ℕ) (to : Target) (cast : Option CType) (n : Amount) → statement_words p (s.Heap id l to cast n) ≡ target_words p to ++ (cast_words p cast ++ call_words (codes "malloc") (amount_words p n ∷ []))
words-Heap p id l to cast n = words_at (laid-Heap p id l to cast n)

pub words-Release : (p : Program) (id l : ℕ) (a : Expr) → statement_words p (s.Release id l a) ≡ call_words (codes "free") (expr_words p a ∷ [])
words-Release p id l a = words_at (laid-Release p id l a)

pub words-Return : (p : Program) (id l : ℕ) (value : Option Expr) → statement_words p (s.Return id l value) ≡ return_words p value
words-Return p id l value = words_at (laid-Return p id l value)

pub words-If : (p : Program) (id l : ℕ) (test : Expr) (met other : List Statement) → statement_words p (s.If id l test met other) ≡ codes "if (" ++ (expr_words p test ++ codes ")")
words-If p id l test met other = words_at (laid-If p id l test met other)

pub words-While : (p : Program) (id l : ℕ) (test : Expr) (body : List Statement) → statement_words p (s.While id l test body) ≡ codes "while (" ++ (expr_words p test ++ codes ")")
words-While p id l test body = words_at (laid-While p id l test body)

pub words-Do : (p : Program) (id l : ℕ) (test : Expr) (body : List Statement) → statement_words p (s.Do id l test body) ≡ codes "do while (" ++ (expr_words p test ++ codes ")")
words-Do p id l test body = words_at (laid-Do p id l test body)

pub words-Switch : (p : Program) (id l : ℕ) (test : Expr) (arms : List Arm) → statement_words p (s.Switch id l test arms) ≡ codes "switch (" ++ (expr_words p test ++ codes ")")
words-Switch p id l test arms = words_at (laid-Switch p id l test arms)

pub words-Block : (p : Program) (l : ℕ) (body : List Statement) → statement_words p (s.Block l body) ≡ []
words-Block p l body = words_at (laid-Block p l body)

pub words-For : (p : Program) (id l : ℕ) (init : Option Statement) (test : Expr) (step : Option Statement) (body : List Statement)
    → statement_words p (s.For id l init test step body) ≡ codes "for (" ++ (init_part (option_map (laid p) init) ++ (codes "; " ++ (expr_words p test ++ (codes ";" ++ (step_part (option_map (laid p) step) ++ codes ")")))))
words-For p id l init test step body = words_at (laid-For p id l init test step body)

-- the words of a for, part by part
pub for_joined : {a b c d : Bytes} (out first test step : Bytes) → a ≡ out ++ codes "for (" → b ≡ a ++ first → c ≡ b ++ (codes "; " ++ (test ++ codes ";")) → d ≡ c ++ step
    → d ++ codes ")" ≡ out ++ (codes "for (" ++ (first ++ (codes "; " ++ (test ++ (codes ";" ++ (step ++ codes ")"))))))
for_joined out first test step p q r t =
    ap (λ (y : Bytes). y ++ codes ")") (t ∙ ap (λ (y : Bytes). y ++ step) (r ∙ ap (λ (y : Bytes). y ++ (codes "; " ++ (test ++ codes ";"))) (q ∙ ap (λ (y : Bytes). y ++ first) p)))
    ∙ simp append_assoc

pub ruleset words_of = (words-Declare, words-Assign, words-Bump, words-Invoke, words-Fetch, words-Write, words-Print, words-Heap, words-Release, words-Return, words-If, words-While, words-Do, words-Switch, words-Block, words-For, append_assoc, append-nil)
