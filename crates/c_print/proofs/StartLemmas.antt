-- The statements of a program stand on the lines that are counted for them.
use Rattle.std.proofs.Common.{◌≡◌, ℕ, suc, ◌+◌, List, [], ◌∷◌, ◌++◌, length, map, Bool, true, ◌&&◌, Option, Some, None, codes, refl, sym, ap, subst, ◌∙◌, append_assoc, arith}
use Rattle.std.specs.Prelude.{All}
use Rattle.std.specs.List.{list_all}
use Rattle.std.specs.Option.{option_map, option_map_or}
use Rattle.std.proofs.lemmas.Bool.{and_parts}
use Rattle.std.proofs.lemmas.List.Elements.{All-nil, All-cons, All-append, All-weaker}
use Rattle.c_language.specs.Lists.{all_true}
use Rattle.c_tree.specs.declared.numbered.Start.{Start}
use Rattle.c_tree.specs.Numbered.{Starts, start, own_id, declared_start}
use Rattle.c_tree.specs.declared.expr.Expr.{Expr}
use Rattle.c_tree.specs.declared.statement.Label.{Label}
use Rattle.c_tree.specs.declared.statement.Statement.{Statement, ind-Statement, roll-Statement, map-Statement, fold-roll-Statement}
use Rattle.c_tree.specs.declared.statement.Statement.TheOpen.{Statement-F}
use Rattle.c_tree.specs.declared.statement.Statement.TheVariants as s
use Rattle.c_tree.specs.declared.statement.Arm.{Arm, roll-Arm, fold-roll-Arm}
use Rattle.c_tree.specs.declared.program.Program.{Program}
use Rattle.c_tree.proofs.Trees.{statement_layer, StatementParts}
use Rattle.c_language.specs.Words.{Bytes, expr_words, assign_sign, name_of_function}
use Rattle.c_language.specs.Tokens.{line_feeds}
use Rattle.c_language.specs.Layout.{indent, line, var_words, init_words, target_words, amount_words, cast_words, call_words, init_part, step_part, label_lines, else_lines, arms_lines, laid, statement_words, statement_lines, body_lines, arm_laid}
use Rattle.c_language.proofs.LayoutLemmas.{block_lines-laid}
use Rattle.c_print.specs.Lines.{Placed, placed, arm_placed, simple, heights, else_height, part_starts, starts_from, block_starts}
use Rattle.c_print.specs.Feedless.{feedless, type_feedless, expr_feedless, target_feedless, amount_feedless, statement_feedless, statement_step, arm_step, label_feedless, IsFeedless}
use Rattle.c_print.proofs.FeedLemmas.{arm_feedless, cat, no_feeds, indent_feedless, indent_feeds, line_feeds-line, call_feedless, assign_feedless, var_words_feedless, expr_words_feedless, args_feedless, init_words_feedless, target_words_feedless, amount_words_feedless, cast_words_feedless, bump_words_feedless, return_words_feedless, call_of_feedless, label_feeds}
use Rattle.c_print.specs.StartsOn.{opening, if_line, StandsBehind, itself, met, otherwise, while, repeated, block, first_part, step, turn, switch, ListBehind, first, later, ArmsBehind, inside, after}
use Rattle.c_print.proofs.StatementWords.{words-Declare, words-Assign, words-Bump, words-Invoke, words-Fetch, words-Write, words-Print, words-Heap, words-Release, words-Return, words-If, words-While, words-Do, words-For, words-Switch, words-Block}
use Rattle.c_print.proofs.StatementLines.{lines-Declare, lines-Assign, lines-Bump, lines-Invoke, lines-Fetch, lines-Write, lines-Print, lines-Heap, lines-Release, lines-Return, lines-If, lines-While, lines-Do, lines-For, lines-Switch, lines-Block, arm_laid-parts}
use Rattle.c_print.proofs.PlacedLemmas.{placed-Declare, placed-Assign, placed-Bump, placed-Invoke, placed-Fetch, placed-Write, placed-Print, placed-Heap, placed-Release, placed-Return, placed-If, placed-While, placed-Do, placed-For, placed-Switch, placed-Block, placed-arm, placed-own}
use Rattle.c_language.proofs.Lists.{feeds-append}

-- a statement of a statement at this level that begins on line k: the number has its line
pub record IsStarted (p : Program) (n : ℕ) (outer : Statement) (k : ℕ) (x : Start) : Type 0 where
  pub statement : Statement
  pub number : own_id statement ≡ Some x.id
  pub front : Bytes
  pub words : Bytes
  pub stands : StandsBehind p statement n outer front words
  pub counted : x.line ≡ k + line_feeds front

pub record ListStarted (p : Program) (n : ℕ) (outer : List Statement) (k : ℕ) (x : Start) : Type 0 where
  pub statement : Statement
  pub number : own_id statement ≡ Some x.id
  pub front : Bytes
  pub words : Bytes
  pub stands : ListBehind p statement n outer front words
  pub counted : x.line ≡ k + line_feeds front

pub record ArmsStarted (p : Program) (n : ℕ) (outer : List Arm) (k : ℕ) (x : Start) : Type 0 where
  pub statement : Statement
  pub number : own_id statement ≡ Some x.id
  pub front : Bytes
  pub words : Bytes
  pub stands : ArmsBehind p statement n outer front words
  pub counted : x.line ≡ k + line_feeds front

-- a statement is as high as its line feeds, and each number in it has its line
pub record IsLaid (p : Program) (statement : Statement) : Type 0 where
  pub plain : feedless (statement_words p statement) ≡ true
  pub tall : (n : ℕ) → line_feeds (statement_lines p n statement) ≡ (placed statement).height
  pub started : (n k : ℕ) → All (IsStarted p n statement k) (starts_from (placed statement) k)

pub record IsLaidList (p : Program) (all : List Statement) : Type 0 where
  pub tall : (n : ℕ) → line_feeds (body_lines p n all) ≡ heights (map placed all)
  pub started : (n k : ℕ) → All (ListStarted p n all k) (block_starts (map placed all) k)

pub record IsLaidArm (p : Program) (a : Arm) : Type 0 where
  pub tall : (n : ℕ) → line_feeds (arm_laid p a n) ≡ (arm_placed a).height
  pub started : (n k : ℕ) (rest : List Arm) → All (ArmsStarted p n (a ∷ rest) k) (starts_from (arm_placed a) k)

pub record IsLaidArms (p : Program) (all : List Arm) : Type 0 where
  pub tall : (n : ℕ) → line_feeds (arms_lines (map (arm_laid p) all) n) ≡ heights (map arm_placed all)
  pub started : (n k : ℕ) → All (ArmsStarted p n all k) (block_starts (map arm_placed all) k)

-- ---- lists

no_statement : (p : Program) → IsLaidList p []
no_statement p = record { tall = λ n. refl; started = λ n k. All-nil (ListStarted p n [] k) }

next_statement : (p : Program) (statement : Statement) (rest : List Statement) → IsLaid p statement → IsLaidList p rest → IsLaidList p (statement ∷ rest)
next_statement p statement rest a b = record {
  tall = λ n. omega (arith, feeds-append (statement_lines p n statement) (body_lines p n rest), a.tall n, b.tall n);
  started = λ n k.
      All-append (ListStarted p n (statement ∷ rest) k) (starts_from (placed statement) k) (block_starts (map placed rest) (k + (placed statement).height))
      (All-weaker (IsStarted p n statement k) (ListStarted p n (statement ∷ rest) k) (λ x h. record { statement = h.statement; number = h.number; front = h.front; words = h.words; stands = first h.stands; counted = h.counted }) (starts_from (placed statement) k) (a.started n k))
      (All-weaker (ListStarted p n rest (k + (placed statement).height)) (ListStarted p n (statement ∷ rest) k) (λ x h. record {
        statement = h.statement;
        number = h.number;
        front = statement_lines p n statement ++ h.front;
        words = h.words;
        stands = later h.stands;
        counted = omega (arith, h.counted, feeds-append (statement_lines p n statement) h.front, a.tall n);
      }) (block_starts (map placed rest) (k + (placed statement).height)) (b.started n (k + (placed statement).height)));
}

no_arm : (p : Program) → IsLaidArms p []
no_arm p = record { tall = λ n. refl; started = λ n k. All-nil (ArmsStarted p n [] k) }

next_arm : (p : Program) (statement : Arm) (rest : List Arm) → IsLaidArm p statement → IsLaidArms p rest → IsLaidArms p (statement ∷ rest)
next_arm p statement rest a b = record {
  tall = λ n. omega (arith, feeds-append (arm_laid p statement n) (arms_lines (map (arm_laid p) rest) n), a.tall n, b.tall n);
  started = λ n k.
      All-append (ArmsStarted p n (statement ∷ rest) k) (starts_from (arm_placed statement) k) (block_starts (map arm_placed rest) (k + (arm_placed statement).height))
      (a.started n k rest)
      (All-weaker (ArmsStarted p n rest (k + (arm_placed statement).height)) (ArmsStarted p n (statement ∷ rest) k) (λ x h. record {
        statement = h.statement;
        number = h.number;
        front = arm_laid p statement n ++ h.front;
        words = h.words;
        stands = after h.stands;
        counted = omega (arith, h.counted, feeds-append (arm_laid p statement n) h.front, a.tall n);
      }) (block_starts (map arm_placed rest) (k + (arm_placed statement).height)) (b.started n (k + (arm_placed statement).height)));
}

-- ---- one statement

own_start_at : (p : Program) (statement : Statement) (n k : ℕ) (o : Option ℕ) → own_id statement ≡ o → All (IsStarted p n statement k) (declared_start o k)
own_start_at p statement n k None e = All-nil (IsStarted p n statement k)
own_start_at p statement n k (Some id) e =
    All-cons (IsStarted p n statement k) (start id k) [] (record { statement = statement; number = e; front = indent n; words = opening p statement; stands = itself; counted = omega (arith, indent_feeds n) }) (All-nil (IsStarted p n statement k))

own_started : (p : Program) (statement : Statement) (n k : ℕ) → All (IsStarted p n statement k) (declared_start (placed statement).own k)
own_started p statement n k = own_start_at p statement n k (placed statement).own (sym (placed-own statement))

-- a statement of one line
simple_laid : (p : Program) (statement : Statement) (id : Option ℕ) → placed statement ≡ simple id → ((n : ℕ) → statement_lines p n statement ≡ line n (statement_words p statement ++ codes ";")) → feedless (statement_words p statement) ≡ true → IsLaid p statement
simple_laid p statement id e l h = record {
  plain = h;
  tall = λ n. omega (arith, ap (λ (y : Placed). y.height) e, ap line_feeds (l n), line_feeds-line n (statement_words p statement ++ codes ";") (cat (statement_words p statement) (codes ";") h refl));
  started = λ n k.
      All-append (IsStarted p n statement k) (declared_start (placed statement).own k) ((placed statement).inside k) (own_started p statement n k)
      (subst (λ (y : Placed). All (IsStarted p n statement k) (y.inside k)) (sym e) (All-nil (IsStarted p n statement k)));
}

-- a statement with lines of its own around its body
enclosed_laid : (p : Program) (statement : Statement) (own : Option ℕ) (h : ℕ) (within : ℕ → Starts) (head tail : Bytes) (body : ℕ → Bytes)
    → placed statement ≡ record { own = own; height = 2 + h; inside = within }
    → ((n : ℕ) → statement_lines p n statement ≡ line n head ++ (body n ++ line n tail))
    → feedless (statement_words p statement) ≡ true → feedless head ≡ true → feedless tail ≡ true → ((n : ℕ) → line_feeds (body n) ≡ h)
    → ((n k : ℕ) → All (IsStarted p n statement k) (within k)) → IsLaid p statement
enclosed_laid p statement own h within head tail body e l words opens closes b inner = record {
  plain = words;
  tall = λ n. omega (arith, ap (λ (y : Placed). y.height) e, ap line_feeds (l n), feeds-append (line n head) (body n ++ line n tail), feeds-append (body n) (line n tail), line_feeds-line n head opens, line_feeds-line n tail closes, b n);
  started = λ n k.
      All-append (IsStarted p n statement k) (declared_start (placed statement).own k) ((placed statement).inside k) (own_started p statement n k)
      (subst (λ (y : Placed). All (IsStarted p n statement k) (y.inside k)) (sym e) (inner n k));
}

-- what starts in a body behind one line starts in the statement
in_body : (p : Program) (outer : Statement) (n k : ℕ) (head : Bytes) (b : List Statement) → feedless head ≡ true
    → ((statement : Statement) (front words : Bytes) → ListBehind p statement (suc n) b front words → StandsBehind p statement n outer (line n head ++ front) words)
    → IsLaidList p b → All (IsStarted p n outer k) (block_starts (map placed b) (k + 1))
in_body p outer n k head b h f body =
    All-weaker (ListStarted p (suc n) b (k + 1)) (IsStarted p n outer k) (λ x a. record {
      statement = a.statement;
      number = a.number;
      front = line n head ++ a.front;
      words = a.words;
      stands = f a.statement a.front a.words a.stands;
      counted = omega (arith, a.counted, feeds-append (line n head) a.front, line_feeds-line n head h);
    }) (block_starts (map placed b) (k + 1)) (body.started (suc n) (k + 1))

in_arms : (p : Program) (outer : Statement) (n k : ℕ) (head : Bytes) (b : List Arm) → feedless head ≡ true
    → ((statement : Statement) (front words : Bytes) → ArmsBehind p statement (suc n) b front words → StandsBehind p statement n outer (line n head ++ front) words)
    → IsLaidArms p b → All (IsStarted p n outer k) (block_starts (map arm_placed b) (k + 1))
in_arms p outer n k head b h f body =
    All-weaker (ArmsStarted p (suc n) b (k + 1)) (IsStarted p n outer k) (λ x a. record {
      statement = a.statement;
      number = a.number;
      front = line n head ++ a.front;
      words = a.words;
      stands = f a.statement a.front a.words a.stands;
      counted = omega (arith, a.counted, feeds-append (line n head) a.front, line_feeds-line n head h);
    }) (block_starts (map arm_placed b) (k + 1)) (body.started (suc n) (k + 1))

-- ---- each form

else_feeds : (p : Program) (b : List Statement) (n : ℕ) → IsLaidList p b → line_feeds (else_lines (map (laid p) b) n) ≡ else_height (map placed b)
else_feeds p [] n h = refl
else_feeds p (x ∷ b) n h =
    omega (arith, ap (λ (y : Bytes). line_feeds (line n (codes "} else {") ++ y)) (block_lines-laid p (x ∷ b) (suc n)), feeds-append (line n (codes "} else {")) (body_lines p (suc n) (x ∷ b)), line_feeds-line n (codes "} else {") refl, h.tall (suc n))

module _ (p : Program) (ok : IsFeedless p) where
  one_argument : (name : Bytes) (e : Expr) → feedless name ≡ true → expr_feedless e ≡ true → feedless (call_words name (expr_words p e ∷ [])) ≡ true
  one_argument name e n h =
      let words : list_all feedless (expr_words p e ∷ []) ≡ true = rw (expr_words_feedless p ok e h) refl in
      call_feedless name (expr_words p e ∷ []) n words

  closed_feedless : (e : Expr) → expr_feedless e ≡ true → feedless (expr_words p e ++ codes ")") ≡ true
  closed_feedless e h = cat (expr_words p e) (codes ")") (expr_words_feedless p ok e h) refl

  opened_feedless : (e : Expr) → expr_feedless e ≡ true → feedless (expr_words p e ++ codes ") {") ≡ true
  opened_feedless e h = cat (expr_words p e) (codes ") {") (expr_words_feedless p ok e h) refl

  in_else : (id l : ℕ) (e : Expr) (a b : List Statement) (n k : ℕ) → expr_feedless e ≡ true → IsLaidList p a → IsLaidList p b
      → All (IsStarted p n (s.If id l e a b) k) (block_starts (map placed b) (k + 1 + heights (map placed a) + 1))
  in_else id l e a b n k t h j =
      All-weaker (ListStarted p (suc n) b (k + 1 + heights (map placed a) + 1)) (IsStarted p n (s.If id l e a b) k) (λ x y. record {
        statement = y.statement;
        number = y.number;
        words = y.words;
        stands = otherwise id l e a b y.stands;
        front = if_line p n e ++ (body_lines p (suc n) a ++ (line n (codes "} else {") ++ y.front));
        counted = omega (
          arith,
          y.counted,
          feeds-append (if_line p n e) (body_lines p (suc n) a ++ (line n (codes "} else {") ++ y.front)),
          feeds-append (body_lines p (suc n) a) (line n (codes "} else {") ++ y.front),
          feeds-append (line n (codes "} else {")) y.front,
          line_feeds-line n (codes "if (" ++ (expr_words p e ++ codes ") {")) (opened_feedless e t),
          line_feeds-line n (codes "} else {") refl,
          h.tall (suc n),
        );
      }) (block_starts (map placed b) (k + 1 + heights (map placed a) + 1)) (j.started (suc n) (k + 1 + heights (map placed a) + 1))

  laid_If : (id l : ℕ) (e : Expr) (a b : List Statement) → expr_feedless e ≡ true → IsLaidList p a → IsLaidList p b → IsLaid p (s.If id l e a b)
  laid_If id l e a b t h j =
      let words : feedless (statement_words p (s.If id l e a b)) ≡ true = ap feedless (words-If p id l e a b) ∙ closed_feedless e t in
      enclosed_laid p (s.If id l e a b) (Some id) (heights (map placed a) + else_height (map placed b)) (λ n. block_starts (map placed a) (n + 1) ++ block_starts (map placed b) (n + 1 + heights (map placed a) + 1))
      (statement_words p (s.If id l e a b) ++ codes " {") (codes "}") (λ n. body_lines p (suc n) a ++ else_lines (map (laid p) b) n)
      (placed-If id l e a b)
      (λ n. lines-If p id l e a b n ∙ ap (λ (x : Bytes). line n (statement_words p (s.If id l e a b) ++ codes " {") ++ x) (sym (append_assoc (body_lines p (suc n) a) (else_lines (map (laid p) b) n) (line n (codes "}")))))
      words (cat (statement_words p (s.If id l e a b)) (codes " {") words refl) refl
      (λ n. omega (arith, feeds-append (body_lines p (suc n) a) (else_lines (map (laid p) b) n), h.tall (suc n), else_feeds p b n j))
      (λ n k. All-append (IsStarted p n (s.If id l e a b) k) (block_starts (map placed a) (k + 1)) (block_starts (map placed b) (k + 1 + heights (map placed a) + 1))
      (in_body p (s.If id l e a b) n k (codes "if (" ++ (expr_words p e ++ codes ") {")) a (opened_feedless e t) (λ statement front w y. met id l e a b y) h)
      (in_else id l e a b n k t h j))

  laid_While : (id l : ℕ) (e : Expr) (b : List Statement) → expr_feedless e ≡ true → IsLaidList p b → IsLaid p (s.While id l e b)
  laid_While id l e b t h =
      let words : feedless (statement_words p (s.While id l e b)) ≡ true = ap feedless (words-While p id l e b) ∙ closed_feedless e t in
      enclosed_laid p (s.While id l e b) (Some id) (heights (map placed b)) (λ n. block_starts (map placed b) (n + 1))
      (statement_words p (s.While id l e b) ++ codes " {") (codes "}") (λ n. body_lines p (suc n) b)
      (placed-While id l e b) (lines-While p id l e b) words (cat (statement_words p (s.While id l e b)) (codes " {") words refl) refl (λ n. h.tall (suc n))
      (λ n k. in_body p (s.While id l e b) n k (codes "while (" ++ (expr_words p e ++ codes ") {")) b (opened_feedless e t) (λ statement front w y. while id l e b y) h)

  laid_Do : (id l : ℕ) (e : Expr) (b : List Statement) → expr_feedless e ≡ true → IsLaidList p b → IsLaid p (s.Do id l e b)
  laid_Do id l e b t h =
      let words : feedless (statement_words p (s.Do id l e b)) ≡ true = ap feedless (words-Do p id l e b) ∙ closed_feedless e t in
      let tail : feedless (expr_words p e ++ codes ");") ≡ true = cat (expr_words p e) (codes ");") (expr_words_feedless p ok e t) refl in
      enclosed_laid p (s.Do id l e b) (Some id) (heights (map placed b)) (λ n. block_starts (map placed b) (n + 1))
      (codes "do {") (codes "} while (" ++ (expr_words p e ++ codes ");")) (λ n. body_lines p (suc n) b)
      (placed-Do id l e b) (lines-Do p id l e b) words refl tail (λ n. h.tall (suc n))
      (λ n k. in_body p (s.Do id l e b) n k (codes "do {") b refl (λ statement front w y. repeated id l e b y) h)

  laid_Block : (l : ℕ) (b : List Statement) → feedless (statement_words p (s.Block l b)) ≡ true → IsLaidList p b → IsLaid p (s.Block l b)
  laid_Block l b words h =
      enclosed_laid p (s.Block l b) None (heights (map placed b)) (λ n. block_starts (map placed b) (n + 1))
      (codes "{") (codes "}") (λ n. body_lines p (suc n) b)
      (placed-Block l b) (lines-Block p l b) words refl refl (λ n. h.tall (suc n))
      (λ n k. in_body p (s.Block l b) n k (codes "{") b refl (λ statement front w y. block l b y) h)

  laid_Switch : (id l : ℕ) (e : Expr) (b : List Arm) → expr_feedless e ≡ true → IsLaidArms p b → IsLaid p (s.Switch id l e b)
  laid_Switch id l e b t h =
      let words : feedless (statement_words p (s.Switch id l e b)) ≡ true = ap feedless (words-Switch p id l e b) ∙ closed_feedless e t in
      enclosed_laid p (s.Switch id l e b) (Some id) (heights (map arm_placed b)) (λ n. block_starts (map arm_placed b) (n + 1))
      (statement_words p (s.Switch id l e b) ++ codes " {") (codes "}") (λ n. arms_lines (map (arm_laid p) b) (suc n))
      (placed-Switch id l e b) (lines-Switch p id l e b) words (cat (statement_words p (s.Switch id l e b)) (codes " {") words refl) refl (λ n. h.tall (suc n))
      (λ n k. in_arms p (s.Switch id l e b) n k (codes "switch (" ++ (expr_words p e ++ codes ") {")) b (opened_feedless e t) (λ statement front w y. switch id l e b y) h)

  -- ---- a for

  part_started : (n k : ℕ) (outer statement : Statement) (front words : Bytes) (o : Option ℕ) → own_id statement ≡ o → line_feeds front ≡ 0 → StandsBehind p statement n outer front words → All (IsStarted p n outer k) (declared_start o k)
  part_started n k outer statement front words None e none h = All-nil (IsStarted p n outer k)
  part_started n k outer statement front words (Some id) e none h =
      All-cons (IsStarted p n outer k) (start id k) [] (record { statement = statement; number = e; front = front; words = words; stands = h; counted = omega (arith, none) }) (All-nil (IsStarted p n outer k))

  -- the words of a part, where there is one
  abbrev PartPlain : Option Statement → Type 0
  PartPlain part = feedless (init_part (option_map (laid p) part)) ≡ true

  step_plain : (part : Option Statement) → PartPlain part → feedless (step_part (option_map (laid p) part)) ≡ true
  step_plain None h = refl
  step_plain (Some x) h = h

  for_head : (init : Option Statement) (e : Expr) → PartPlain init → expr_feedless e ≡ true → (more : Bytes) → feedless more ≡ true
      → feedless (init_part (option_map (laid p) init) ++ (codes "; " ++ (expr_words p e ++ more))) ≡ true
  for_head init e i t more h =
      cat (init_part (option_map (laid p) init)) (codes "; " ++ (expr_words p e ++ more)) i (cat (expr_words p e) more (expr_words_feedless p ok e t) h)

  for_plain : (id l : ℕ) (init : Option Statement) (e : Expr) (part : Option Statement) (b : List Statement) → PartPlain init → expr_feedless e ≡ true → PartPlain part
      → feedless (statement_words p (s.For id l init e part b)) ≡ true
  for_plain id l init e part b i t j =
      ap feedless (words-For p id l init e part b)
      ∙ for_head init e i t (codes ";" ++ (step_part (option_map (laid p) part) ++ codes ")")) (cat (step_part (option_map (laid p) part)) (codes ")") (step_plain part j) refl)

  init_started : (id l : ℕ) (init : Option Statement) (e : Expr) (part : Option Statement) (b : List Statement) (n k : ℕ)
      → All (IsStarted p n (s.For id l init e part b) k) (part_starts (option_map placed init) k)
  init_started id l None e part b n k = All-nil (IsStarted p n (s.For id l None e part b) k)
  init_started id l (Some x) e part b n k =
      part_started n k (s.For id l (Some x) e part b) x (indent n ++ codes "for (") (statement_words p x) (placed x).own (sym (placed-own x))
      (no_feeds (indent n ++ codes "for (") (cat (indent n) (codes "for (") (indent_feedless n) refl)) (first_part id l e part b)

  step_started : (id l : ℕ) (init : Option Statement) (e : Expr) (part : Option Statement) (b : List Statement) (n k : ℕ) → PartPlain init → expr_feedless e ≡ true
      → All (IsStarted p n (s.For id l init e part b) k) (part_starts (option_map placed part) k)
  step_started id l init e None b n k i t = All-nil (IsStarted p n (s.For id l init e None b) k)
  step_started id l init e (Some x) b n k i t =
      let front : Bytes = indent n ++ (codes "for (" ++ (init_part (option_map (laid p) init) ++ (codes "; " ++ (expr_words p e ++ codes "; ")))) in
      part_started n k (s.For id l init e (Some x) b) x front (statement_words p x) (placed x).own (sym (placed-own x))
      (no_feeds front (cat (indent n) (codes "for (" ++ (init_part (option_map (laid p) init) ++ (codes "; " ++ (expr_words p e ++ codes "; ")))) (indent_feedless n) (for_head init e i t (codes "; ") refl)))
      (step id l init e b)

  laid_For : (id l : ℕ) (init : Option Statement) (e : Expr) (part : Option Statement) (b : List Statement) → PartPlain init → expr_feedless e ≡ true → PartPlain part → IsLaidList p b
      → IsLaid p (s.For id l init e part b)
  laid_For id l init e part b i t j h =
      let words : feedless (statement_words p (s.For id l init e part b)) ≡ true = for_plain id l init e part b i t j in
      let head : feedless (statement_words p (s.For id l init e part b) ++ codes " {") ≡ true = cat (statement_words p (s.For id l init e part b)) (codes " {") words refl in
      enclosed_laid p (s.For id l init e part b) (Some id) (heights (map placed b)) (λ n. part_starts (option_map placed init) n ++ (part_starts (option_map placed part) n ++ block_starts (map placed b) (n + 1)))
      (statement_words p (s.For id l init e part b) ++ codes " {") (codes "}") (λ n. body_lines p (suc n) b)
      (placed-For id l init e part b) (lines-For p id l init e part b) words head refl (λ n. h.tall (suc n))
      (λ n k. All-append (IsStarted p n (s.For id l init e part b) k) (part_starts (option_map placed init) k) (part_starts (option_map placed part) k ++ block_starts (map placed b) (k + 1))
      (init_started id l init e part b n k)
      (All-append (IsStarted p n (s.For id l init e part b) k) (part_starts (option_map placed part) k) (block_starts (map placed b) (k + 1))
      (step_started id l init e part b n k i t)
      (in_body p (s.For id l init e part b) n k (statement_words p (s.For id l init e part b) ++ codes " {") b head (λ statement front w y. turn id l init e part b y) h)))

  -- ---- arms

  laid_arm : (labels : List Label) (body : List Statement) → list_all label_feedless labels ≡ true → IsLaidList p body → IsLaidArm p (roll-Arm (record { labels = labels; body = body }))
  laid_arm labels body t h =
      let a : Arm = roll-Arm (record { labels = labels; body = body }) in
      record {
        tall = λ n.
            omega (
              arith,
              ap (λ (y : Placed). y.height) (placed-arm a),
              ap line_feeds (arm_laid-parts p a n),
              feeds-append (label_lines p labels n) (body_lines p (suc n) body ++ line (suc n) (codes "break;")),
              feeds-append (body_lines p (suc n) body) (line (suc n) (codes "break;")),
              line_feeds-line (suc n) (codes "break;") refl,
              label_feeds p ok labels n t,
              h.tall (suc n),
            );
        started = λ n k rest.
            subst (λ (y : Placed). All (ArmsStarted p n (a ∷ rest) k) (starts_from y k)) (sym (placed-arm a))
            (All-weaker (ListStarted p (suc n) body (k + length labels)) (ArmsStarted p n (a ∷ rest) k) (λ x y. record {
              statement = y.statement;
              number = y.number;
              front = label_lines p labels n ++ y.front;
              words = y.words;
              stands = inside labels body y.stands;
              counted = omega (arith, y.counted, feeds-append (label_lines p labels n) y.front, label_feeds p ok labels n t);
            }) (block_starts (map placed body) (k + length labels)) (h.started (suc n) (k + length labels)));
      }

  -- ---- all forms

  abbrev Q : Statement → Type 0
  Q statement = statement_feedless statement ≡ true → IsLaid p statement

  abbrev R : Arm → Type 0
  R a = arm_feedless a ≡ true → IsLaidArm p a

  abbrev bare : List ((x : Statement) × Q x) → List Statement
  bare = map (λ (x : (s : Statement) × Q s). x.0)

  abbrev bare_arms : List ((x : Arm) × R x) → List Arm
  bare_arms = map (λ (x : (a : Arm) × R a). x.0)

  list_laid : (all : List ((x : Statement) × Q x)) → all_true (map statement_feedless (bare all)) ≡ true → IsLaidList p (bare all)
  list_laid [] h = no_statement p
  list_laid (x ∷ all) h =
      let both = and_parts (statement_feedless x.0) (all_true (map statement_feedless (bare all))) h in next_statement p x.0 (bare all) (x.1 both.0) (list_laid all both.1)

  arms_laid : (all : List ((x : Arm) × R x)) → all_true (map arm_feedless (bare_arms all)) ≡ true → IsLaidArms p (bare_arms all)
  arms_laid [] h = no_arm p
  arms_laid (x ∷ all) h =
      let both = and_parts (arm_feedless x.0) (all_true (map arm_feedless (bare_arms all))) h in next_arm p x.0 (bare_arms all) (x.1 both.0) (arms_laid all both.1)

  abbrev Parts : Type 0
  Parts = StatementParts Q R

  abbrev layer : Parts → Statement-F Statement Arm
  layer = statement_layer Q R

  layer_laid : (y : Parts) → statement_step (map-Statement Statement Arm Bool Bool statement_feedless arm_feedless (layer y)) ≡ true → IsLaid p (roll-Statement (layer y))
  layer_laid (Statement-F.Declare id l x i) h =
      subst (IsLaid p) (sym (s.rolls-Declare id l x i))
      (simple_laid p (s.Declare id l x i) id (placed-Declare id l x i) (lines-Declare p id l x i) (ap feedless (words-Declare p id l x i) ∙ cat (var_words p x) (init_words p i) (var_words_feedless p ok x) (init_words_feedless p ok i h)))
  layer_laid (Statement-F.Assign id l a op b) h =
      let both = and_parts (expr_feedless a) (expr_feedless b) h in
      subst (IsLaid p) (sym (s.rolls-Assign id l a op b))
      (simple_laid p (s.Assign id l a op b) (Some id) (placed-Assign id l a op b) (lines-Assign p id l a op b)
      (ap feedless (words-Assign p id l a op b) ∙ cat (expr_words p a) (codes " " ++ (assign_sign op ++ (codes " " ++ expr_words p b))) (expr_words_feedless p ok a both.0) (cat (assign_sign op) (codes " " ++ expr_words p b) (assign_feedless op) (expr_words_feedless p ok b both.1))))
  layer_laid (Statement-F.Bump id l a up before) h =
      subst (IsLaid p) (sym (s.rolls-Bump id l a up before))
      (simple_laid p (s.Bump id l a up before) (Some id) (placed-Bump id l a up before) (lines-Bump p id l a up before) (ap feedless (words-Bump p id l a up before) ∙ bump_words_feedless p ok (expr_words p a) up before (expr_words_feedless p ok a h)))
  layer_laid (Statement-F.Invoke id l to f args) h =
      let both = and_parts (target_feedless to) (list_all expr_feedless args) h in
      subst (IsLaid p) (sym (s.rolls-Invoke id l to f args))
      (simple_laid p (s.Invoke id l to f args) (Some id) (placed-Invoke id l to f args) (lines-Invoke p id l to f args)
      (ap feedless (words-Invoke p id l to f args) ∙ cat (target_words p to) (call_words (name_of_function p f) (map (expr_words p) args)) (target_words_feedless p ok to both.0) (call_of_feedless p ok f args both.1)))
  layer_laid (Statement-F.Fetch id l to) h =
      subst (IsLaid p) (sym (s.rolls-Fetch id l to))
      (simple_laid p (s.Fetch id l to) (Some id) (placed-Fetch id l to) (lines-Fetch p id l to) (ap feedless (words-Fetch p id l to) ∙ cat (target_words p to) (codes "getchar()") (target_words_feedless p ok to h) refl))
  layer_laid (Statement-F.Write id l e) h =
      subst (IsLaid p) (sym (s.rolls-Write id l e))
      (simple_laid p (s.Write id l e) (Some id) (placed-Write id l e) (lines-Write p id l e) (ap feedless (words-Write p id l e) ∙ one_argument (codes "putchar") e refl h))
  layer_laid (Statement-F.Print id l format args) h =
      let both = and_parts (feedless format) (list_all expr_feedless args) h in
      let words : list_all feedless (format ∷ map (expr_words p) args) ≡ true = rw (both.0, args_feedless p ok args both.1) refl in
      subst (IsLaid p) (sym (s.rolls-Print id l format args))
      (simple_laid p (s.Print id l format args) (Some id) (placed-Print id l format args) (lines-Print p id l format args) (ap feedless (words-Print p id l format args) ∙ call_feedless (codes "printf") (format ∷ map (expr_words p) args) refl words))
  layer_laid (Statement-F.Heap id l to cast n) h =
      let both = and_parts (target_feedless to) (option_map_or type_feedless cast true && amount_feedless n) h in
      let others = and_parts (option_map_or type_feedless cast true) (amount_feedless n) both.1 in
      let words : list_all feedless (amount_words p n ∷ []) ≡ true = rw (amount_words_feedless p ok n others.1) refl in
      subst (IsLaid p) (sym (s.rolls-Heap id l to cast n))
      (simple_laid p (s.Heap id l to cast n) (Some id) (placed-Heap id l to cast n) (lines-Heap p id l to cast n)
      (ap feedless (words-Heap p id l to cast n) ∙ cat (target_words p to) (cast_words p cast ++ call_words (codes "malloc") (amount_words p n ∷ [])) (target_words_feedless p ok to both.0)
      (cat (cast_words p cast) (call_words (codes "malloc") (amount_words p n ∷ [])) (cast_words_feedless p ok cast) (call_feedless (codes "malloc") (amount_words p n ∷ []) refl words))))
  layer_laid (Statement-F.Release id l e) h =
      subst (IsLaid p) (sym (s.rolls-Release id l e))
      (simple_laid p (s.Release id l e) (Some id) (placed-Release id l e) (lines-Release p id l e) (ap feedless (words-Release p id l e) ∙ one_argument (codes "free") e refl h))
  layer_laid (Statement-F.Return id l e) h =
      subst (IsLaid p) (sym (s.rolls-Return id l e))
      (simple_laid p (s.Return id l e) (Some id) (placed-Return id l e) (lines-Return p id l e) (ap feedless (words-Return p id l e) ∙ return_words_feedless p ok e h))
  layer_laid (Statement-F.If id l e a b) h =
      let both = and_parts (expr_feedless e) (all_true (map statement_feedless (bare a)) && all_true (map statement_feedless (bare b))) h in
      let others = and_parts (all_true (map statement_feedless (bare a))) (all_true (map statement_feedless (bare b))) both.1 in
      subst (IsLaid p) (sym (s.rolls-If id l e (bare a) (bare b))) (laid_If id l e (bare a) (bare b) both.0 (list_laid a others.0) (list_laid b others.1))
  layer_laid (Statement-F.While id l e b) h =
      let both = and_parts (expr_feedless e) (all_true (map statement_feedless (bare b))) h in
      subst (IsLaid p) (sym (s.rolls-While id l e (bare b))) (laid_While id l e (bare b) both.0 (list_laid b both.1))
  layer_laid (Statement-F.Do id l e b) h =
      let both = and_parts (expr_feedless e) (all_true (map statement_feedless (bare b))) h in
      subst (IsLaid p) (sym (s.rolls-Do id l e (bare b))) (laid_Do id l e (bare b) both.0 (list_laid b both.1))
  layer_laid (Statement-F.For id l None e None b) h =
      let both = and_parts (expr_feedless e) (all_true (map statement_feedless (bare b))) h in
      subst (IsLaid p) (sym (s.rolls-For id l None e None (bare b))) (laid_For id l None e None (bare b) refl both.0 refl (list_laid b both.1))
  layer_laid (Statement-F.For id l None e (Some k) b) h =
      let both = and_parts (expr_feedless e) (statement_feedless k.0 && all_true (map statement_feedless (bare b))) h in
      let others = and_parts (statement_feedless k.0) (all_true (map statement_feedless (bare b))) both.1 in
      subst (IsLaid p) (sym (s.rolls-For id l None e (Some k.0) (bare b))) (laid_For id l None e (Some k.0) (bare b) refl both.0 (k.1 others.0).plain (list_laid b others.1))
  layer_laid (Statement-F.For id l (Some i) e None b) h =
      let outer = and_parts (statement_feedless i.0) (expr_feedless e && all_true (map statement_feedless (bare b))) h in
      let both = and_parts (expr_feedless e) (all_true (map statement_feedless (bare b))) outer.1 in
      subst (IsLaid p) (sym (s.rolls-For id l (Some i.0) e None (bare b))) (laid_For id l (Some i.0) e None (bare b) (i.1 outer.0).plain both.0 refl (list_laid b both.1))
  layer_laid (Statement-F.For id l (Some i) e (Some k) b) h =
      let outer = and_parts (statement_feedless i.0) (expr_feedless e && (statement_feedless k.0 && all_true (map statement_feedless (bare b)))) h in
      let both = and_parts (expr_feedless e) (statement_feedless k.0 && all_true (map statement_feedless (bare b))) outer.1 in
      let others = and_parts (statement_feedless k.0) (all_true (map statement_feedless (bare b))) both.1 in
      subst (IsLaid p) (sym (s.rolls-For id l (Some i.0) e (Some k.0) (bare b))) (laid_For id l (Some i.0) e (Some k.0) (bare b) (i.1 outer.0).plain both.0 (k.1 others.0).plain (list_laid b others.1))
  layer_laid (Statement-F.Switch id l e arms) h =
      let both = and_parts (expr_feedless e) (all_true (map arm_feedless (bare_arms arms))) h in
      subst (IsLaid p) (sym (s.rolls-Switch id l e (bare_arms arms))) (laid_Switch id l e (bare_arms arms) both.0 (arms_laid arms both.1))
  layer_laid (Statement-F.Block l b) h =
      subst (IsLaid p) (sym (s.rolls-Block l (bare b))) (laid_Block l (bare b) (ap feedless (words-Block p l (bare b))) (list_laid b h))

  arm_case : (labels : List Label) (body : List ((x : Statement) × Q x)) → R (roll-Arm (record { labels = labels; body = bare body }))
  arm_case labels body h =
      let both = and_parts (list_all label_feedless labels) (all_true (map statement_feedless (bare body))) (sym (fold-roll-Arm Bool Bool statement_step arm_step (record { labels = labels; body = bare body })) ∙ h) in
      laid_arm labels (bare body) both.0 (list_laid body both.1)

  pub statement_laid : (statement : Statement) → Q statement
  statement_laid =
      ind-Statement Q R (λ x y is. subst (λ z. Q (roll-Statement z)) is (λ h. layer_laid y (sym (fold-roll-Statement Bool Bool statement_step arm_step (layer y)) ∙ h)))
      (λ x y is. subst (λ z. R (roll-Arm z)) is (arm_case y.labels y.body))

  pub body_laid : (all : List Statement) → list_all statement_feedless all ≡ true → IsLaidList p all
  body_laid [] h = no_statement p
  body_laid (x ∷ all) h = let both = and_parts (statement_feedless x) (list_all statement_feedless all) h in next_statement p x all (statement_laid x both.0) (body_laid all both.1)
