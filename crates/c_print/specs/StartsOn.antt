-- Where a statement begins in the layout, by the bytes in front of it.
use Rattle.std.specs.Prelude.{◌≡◌, ℕ, suc, ◌+◌, List, ◌∷◌, ◌++◌, Option, Some, codes, slice_get, map}
use Rattle.std.specs.Option.{option_map}
use Rattle.c_tree.specs.Numbered.{own_id}
use Rattle.c_tree.specs.declared.expr.Expr.{Expr}
use Rattle.c_tree.specs.declared.program.Program.{Program}
use Rattle.c_tree.specs.declared.program.Function.{Function}
use Rattle.c_tree.specs.declared.program.Item.{Item}
use Rattle.c_tree.specs.declared.program.Item.TheVariants as item
use Rattle.c_tree.specs.declared.statement.Label.{Label}
use Rattle.c_tree.specs.declared.statement.Statement.{Statement, out-Statement}
use Rattle.c_tree.specs.declared.statement.Statement.TheVariants as s
use Rattle.c_tree.specs.declared.statement.Statement.TheOpen.{Statement-F}
use Rattle.c_tree.specs.declared.statement.Arm.{Arm, roll-Arm}
use Rattle.c_language.specs.Words.{Bytes, expr_words}
use Rattle.c_language.specs.Tokens.{line_feeds}
use Rattle.c_language.specs.Layout.{indent, line, init_part, laid, statement_words, statement_lines, body_lines, label_lines, var_words, head_words, item_lines, layout, arm_laid}

abbrev pub layer_opening : Bytes → Statement-F Statement Arm → Bytes
layer_opening words (Statement-F.Declare id l x i) = words
layer_opening words (Statement-F.Assign id l a op b) = words
layer_opening words (Statement-F.Bump id l a up before) = words
layer_opening words (Statement-F.Invoke id l to f args) = words
layer_opening words (Statement-F.Fetch id l to) = words
layer_opening words (Statement-F.Write id l e) = words
layer_opening words (Statement-F.Print id l format args) = words
layer_opening words (Statement-F.Heap id l to cast n) = words
layer_opening words (Statement-F.Release id l e) = words
layer_opening words (Statement-F.If id l e a b) = words
layer_opening words (Statement-F.While id l e b) = words
layer_opening words (Statement-F.Do id l e b) = codes "do {"
layer_opening words (Statement-F.For id l i e step b) = words
layer_opening words (Statement-F.Switch id l e arms) = words
layer_opening words (Statement-F.Block l b) = codes "{"
layer_opening words (Statement-F.Return id l e) = words

-- what a statement begins with: its words, but for a do, whose test stands behind its body, and a bare block
abbrev pub opening : Program → Statement → Bytes
opening p statement = layer_opening (statement_words p statement) (out-Statement statement)

abbrev pub if_line : Program → ℕ → Expr → Bytes
if_line p n e = line n (codes "if (" ++ (expr_words p e ++ codes ") {"))

mutual
  -- in the lines of the statement at this level, behind these bytes, one stands and begins with these words
  pub data StandsBehind (p : Program) (statement : Statement) : ℕ → Statement → Bytes → Bytes → Type 0 where
    itself : {n : ℕ} → StandsBehind p statement n statement (indent n) (opening p statement)
    met : {n : ℕ} {front words : Bytes} (id l : ℕ) (e : Expr) (a b : List Statement) → ListBehind p statement (suc n) a front words
        → StandsBehind p statement n (s.If id l e a b) (if_line p n e ++ front) words
    otherwise : {n : ℕ} {front words : Bytes} (id l : ℕ) (e : Expr) (a b : List Statement) → ListBehind p statement (suc n) b front words
        → StandsBehind p statement n (s.If id l e a b) (if_line p n e ++ (body_lines p (suc n) a ++ (line n (codes "} else {") ++ front))) words
    while : {n : ℕ} {front words : Bytes} (id l : ℕ) (e : Expr) (b : List Statement) → ListBehind p statement (suc n) b front words
        → StandsBehind p statement n (s.While id l e b) (line n (codes "while (" ++ (expr_words p e ++ codes ") {")) ++ front) words
    repeated : {n : ℕ} {front words : Bytes} (id l : ℕ) (e : Expr) (b : List Statement) → ListBehind p statement (suc n) b front words
        → StandsBehind p statement n (s.Do id l e b) (line n (codes "do {") ++ front) words
    block : {n : ℕ} {front words : Bytes} (l : ℕ) (b : List Statement) → ListBehind p statement (suc n) b front words
        → StandsBehind p statement n (s.Block l b) (line n (codes "{") ++ front) words
    -- the first part and the step of a for stand on its own line
    first_part : {n : ℕ} (id l : ℕ) (e : Expr) (step : Option Statement) (b : List Statement)
        → StandsBehind p statement n (s.For id l (Some statement) e step b) (indent n ++ codes "for (") (statement_words p statement)
    step : {n : ℕ} (id l : ℕ) (init : Option Statement) (e : Expr) (b : List Statement)
        → StandsBehind p statement n (s.For id l init e (Some statement) b) (indent n ++ (codes "for (" ++ (init_part (option_map (laid p) init) ++ (codes "; " ++ (expr_words p e ++ codes "; "))))) (statement_words p statement)
    turn : {n : ℕ} {front words : Bytes} (id l : ℕ) (init : Option Statement) (e : Expr) (step : Option Statement) (b : List Statement) → ListBehind p statement (suc n) b front words
        → StandsBehind p statement n (s.For id l init e step b) (line n (statement_words p (s.For id l init e step b) ++ codes " {") ++ front) words
    switch : {n : ℕ} {front words : Bytes} (id l : ℕ) (e : Expr) (arms : List Arm) → ArmsBehind p statement (suc n) arms front words
        → StandsBehind p statement n (s.Switch id l e arms) (line n (codes "switch (" ++ (expr_words p e ++ codes ") {")) ++ front) words

  -- the same in the lines of a list of statements
  pub data ListBehind (p : Program) (statement : Statement) : ℕ → List Statement → Bytes → Bytes → Type 0 where
    first : {n : ℕ} {outer : Statement} {rest : List Statement} {front words : Bytes} → StandsBehind p statement n outer front words → ListBehind p statement n (outer ∷ rest) front words
    later : {n : ℕ} {before : Statement} {rest : List Statement} {front words : Bytes} → ListBehind p statement n rest front words
        → ListBehind p statement n (before ∷ rest) (statement_lines p n before ++ front) words

  -- the same in the lines of the arms of a switch
  pub data ArmsBehind (p : Program) (statement : Statement) : ℕ → List Arm → Bytes → Bytes → Type 0 where
    inside : {n : ℕ} {rest : List Arm} {front words : Bytes} (labels : List Label) (body : List Statement) → ListBehind p statement (suc n) body front words
        → ArmsBehind p statement n (roll-Arm (record { labels = labels; body = body }) ∷ rest) (label_lines p labels n ++ front) words
    after : {n : ℕ} {before : Arm} {rest : List Arm} {front words : Bytes} → ArmsBehind p statement n rest front words
        → ArmsBehind p statement n (before ∷ rest) (arm_laid p before n ++ front) words

-- the same in the lines of the items of a program
pub data ItemsBehind (p : Program) (statement : Statement) : List Item → Bytes → Bytes → Type 0 where
  defined : {f : ℕ} {found : Function} {rest : List Item} {front words : Bytes} → slice_get p.functions f ≡ Some found → ListBehind p statement 1 found.body front words
      → ItemsBehind p statement (item.Define f ∷ rest) (line 0 (head_words p found.is_static found (map (var_words p) found.params) ++ codes " {") ++ front) words
  behind : {before : Item} {rest : List Item} {front words : Bytes} → ItemsBehind p statement rest front words → ItemsBehind p statement (before ∷ rest) (item_lines p before ++ front) words

-- a statement of the layout has the number
pub record HasPlace (p : Program) (id : ℕ) : Type 0 where
  pub statement : Statement
  pub number : own_id statement ≡ Some id
  pub front : Bytes
  pub words : Bytes
  pub stands : ItemsBehind p statement p.items front words

-- the first token of the statement with this number stands on this line of the layout, counted from 1: behind these bytes the statement begins, and they have a line feed less
pub record StartsOn (p : Program) (id n : ℕ) : Type 0 where
  pub statement : Statement
  pub number : own_id statement ≡ Some id
  pub front : Bytes
  pub words : Bytes
  pub rest : Bytes
  pub stands : ItemsBehind p statement p.items front words
  pub text : layout p ≡ front ++ (words ++ rest)
  pub line : n ≡ 1 + line_feeds front
