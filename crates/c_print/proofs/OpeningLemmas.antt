-- What stands at the place of a statement in the layout, and that each place is among the starts.
use Rattle.std.proofs.Common.{◌≡◌, ℕ, zero, suc, ◌+◌, List, [], ◌∷◌, ◌++◌, length, map, slice_get, Option, Some, None, codes, refl, sym, ap, subst, ◌∙◌, append_assoc, arith}
use Rattle.std.specs.Prelude.{Contains}
use Rattle.std.specs.Option.{option_map, option_map_or}
use Rattle.std.proofs.lemmas.List.Elements.{Contains-append_left, Contains-append_right}
use Rattle.c_tree.specs.Numbered.{Starts, start, own_id, declared_start}
use Rattle.c_tree.specs.declared.statement.Statement.{Statement, roll-Statement, out-Statement}
use Rattle.c_tree.specs.declared.statement.Statement.TheViews.{roll-out-Statement}
use Rattle.c_tree.specs.declared.statement.Statement.TheOpen.{Statement-F}
use Rattle.c_tree.specs.declared.statement.Statement.TheVariants as s
use Rattle.c_tree.specs.declared.statement.Arm.{Arm, roll-Arm}
use Rattle.c_tree.specs.declared.program.Program.{Program}
use Rattle.c_tree.specs.declared.program.Function.{Function}
use Rattle.c_tree.specs.declared.program.Item.{Item}
use Rattle.c_tree.specs.declared.program.Item.TheVariants as item
use Rattle.c_language.specs.Words.{Bytes, expr_words}
use Rattle.c_language.specs.Layout.{Laid, indent, line, init_part, step_part, label_lines, else_lines, block_lines, arms_lines, laid, statement_words, statement_lines, body_lines, function_lines, item_lines, items_lines, head_words, var_words, arm_laid}
use Rattle.c_language.proofs.LayoutLemmas.{block_lines-laid, laid-If, laid-While, laid-Switch}
use Rattle.c_print.specs.Lines.{Placed, placed, arm_placed, item_placed, function_placed, bare, heights, part_starts, starts_from, block_starts}
use Rattle.c_print.specs.StartsOn.{layer_opening, opening, if_line, StandsBehind, itself, met, otherwise, while, repeated, block, first_part, step, turn, switch, ListBehind, first, later, ArmsBehind, inside, after, ItemsBehind, defined, behind}
use Rattle.c_print.proofs.StatementWords.{words-For}
use Rattle.c_print.proofs.StatementLines.{lines-Declare, lines-Assign, lines-Bump, lines-Invoke, lines-Fetch, lines-Write, lines-Print, lines-Heap, lines-Release, lines-Return, lines-If, lines-While, lines-Do, lines-For, lines-Switch, lines-Block, arm_laid-parts}
use Rattle.c_print.proofs.PlacedLemmas.{placed-If, placed-While, placed-Do, placed-For, placed-Switch, placed-Block, placed-arm, placed-own}

-- ---- texts

-- the text is the front, the words and some rest
pub record Opens (whole front words : Bytes) : Type 0 where
  pub rest : Bytes
  pub is : whole ≡ front ++ (words ++ rest)

-- the same with more behind it
opens_before : (whole a more front words : Bytes) → whole ≡ a ++ more → Opens a front words → Opens whole front words
opens_before whole a more front words e h = record { rest = h.rest ++ more; is = e ∙ ap (λ (y : Bytes). y ++ more) h.is ∙ simp append_assoc }

-- the same behind other bytes
opens_behind : (whole head body tail front words : Bytes) → whole ≡ head ++ (body ++ tail) → Opens body front words → Opens whole (head ++ front) words
opens_behind whole head body tail front words e h = record { rest = h.rest ++ tail; is = e ∙ ap (λ (y : Bytes). head ++ (y ++ tail)) h.is ∙ simp append_assoc }

opens_last : (whole head body front words : Bytes) → whole ≡ head ++ body → Opens body front words → Opens whole (head ++ front) words
opens_last whole head body front words e h = record { rest = h.rest; is = e ∙ ap (λ (y : Bytes). head ++ y) h.is ∙ sym (append_assoc head front (words ++ h.rest)) }

opens_else : (whole head a b mark body tail front words : Bytes) → whole ≡ head ++ (a ++ (b ++ tail)) → b ≡ mark ++ body → Opens body front words → Opens whole (head ++ (a ++ (mark ++ front))) words
opens_else whole head a b mark body tail front words e f h = record {
  rest = h.rest ++ tail;
  is = e ∙ ap (λ (y : Bytes). head ++ (a ++ (y ++ tail))) (f ∙ ap (λ (y : Bytes). mark ++ y) h.is) ∙ simp append_assoc;
}

-- the first part and the step of a for
opens_first : (whole margin w opens words others brace end more : Bytes) → whole ≡ (margin ++ ((w ++ brace) ++ end)) ++ more → w ≡ opens ++ (words ++ others) → Opens whole (margin ++ opens) words
opens_first whole margin w opens words others brace end more e f = record {
  rest = others ++ (brace ++ (end ++ more));
  is = e ∙ ap (λ (y : Bytes). (margin ++ ((y ++ brace) ++ end)) ++ more) f ∙ simp append_assoc;
}

opens_step : (whole margin w opens init mark test words others brace end more : Bytes) → whole ≡ (margin ++ ((w ++ brace) ++ end)) ++ more → w ≡ opens ++ (init ++ (mark ++ (test ++ (mark ++ (words ++ others)))))
    → Opens whole (margin ++ (opens ++ (init ++ (mark ++ (test ++ mark))))) words
opens_step whole margin w opens init mark test words others brace end more e f = record {
  rest = others ++ (brace ++ (end ++ more));
  is = e ∙ ap (λ (y : Bytes). (margin ++ ((y ++ brace) ++ end)) ++ more) f ∙ simp append_assoc;
}

-- ---- a statement begins with its opening

one_line : (p : Program) (statement : Statement) (n : ℕ) → statement_lines p n statement ≡ line n (statement_words p statement ++ codes ";") → Opens (statement_lines p n statement) (indent n) (statement_words p statement)
one_line p statement n e = record { rest = codes ";" ++ 10 ∷ []; is = e ∙ ap (λ (y : Bytes). indent n ++ y) (append_assoc (statement_words p statement) (codes ";") (10 ∷ [])) }

many_lines : (p : Program) (statement : Statement) (n : ℕ) (words brace more : Bytes) → statement_lines p n statement ≡ line n (words ++ brace) ++ more → Opens (statement_lines p n statement) (indent n) words
many_lines p statement n words brace more e = record { rest = brace ++ (10 ∷ more); is = e ∙ many (indent n) words brace (10 ∷ []) more }
  where
    many : (margin words brace end more : Bytes) → (margin ++ ((words ++ brace) ++ end)) ++ more ≡ margin ++ (words ++ (brace ++ (end ++ more)))
    many margin words brace end more = simp append_assoc

module _ (p : Program) (n : ℕ) where
  abbrev Begins : Statement → Type 0
  Begins statement = Opens (statement_lines p n statement) (indent n) (statement_words p statement)

  layer_begins : (x : Statement-F Statement Arm) → Opens (statement_lines p n (roll-Statement x)) (indent n) (layer_opening (statement_words p (roll-Statement x)) x)
  layer_begins (Statement-F.Declare id l x i) = subst Begins (sym (s.rolls-Declare id l x i)) (one_line p (s.Declare id l x i) n (lines-Declare p id l x i n))
  layer_begins (Statement-F.Assign id l a op b) = subst Begins (sym (s.rolls-Assign id l a op b)) (one_line p (s.Assign id l a op b) n (lines-Assign p id l a op b n))
  layer_begins (Statement-F.Bump id l a up before) = subst Begins (sym (s.rolls-Bump id l a up before)) (one_line p (s.Bump id l a up before) n (lines-Bump p id l a up before n))
  layer_begins (Statement-F.Invoke id l to f args) = subst Begins (sym (s.rolls-Invoke id l to f args)) (one_line p (s.Invoke id l to f args) n (lines-Invoke p id l to f args n))
  layer_begins (Statement-F.Fetch id l to) = subst Begins (sym (s.rolls-Fetch id l to)) (one_line p (s.Fetch id l to) n (lines-Fetch p id l to n))
  layer_begins (Statement-F.Write id l e) = subst Begins (sym (s.rolls-Write id l e)) (one_line p (s.Write id l e) n (lines-Write p id l e n))
  layer_begins (Statement-F.Print id l format args) = subst Begins (sym (s.rolls-Print id l format args)) (one_line p (s.Print id l format args) n (lines-Print p id l format args n))
  layer_begins (Statement-F.Heap id l to cast m) = subst Begins (sym (s.rolls-Heap id l to cast m)) (one_line p (s.Heap id l to cast m) n (lines-Heap p id l to cast m n))
  layer_begins (Statement-F.Release id l e) = subst Begins (sym (s.rolls-Release id l e)) (one_line p (s.Release id l e) n (lines-Release p id l e n))
  layer_begins (Statement-F.Return id l e) = subst Begins (sym (s.rolls-Return id l e)) (one_line p (s.Return id l e) n (lines-Return p id l e n))
  layer_begins (Statement-F.If id l e a b) =
      subst Begins (sym (s.rolls-If id l e a b)) (many_lines p (s.If id l e a b) n (statement_words p (s.If id l e a b)) (codes " {") (body_lines p (suc n) a ++ (else_lines (map (laid p) b) n ++ line n (codes "}"))) (lines-If p id l e a b n))
  layer_begins (Statement-F.While id l e b) =
      subst Begins (sym (s.rolls-While id l e b)) (many_lines p (s.While id l e b) n (statement_words p (s.While id l e b)) (codes " {") (body_lines p (suc n) b ++ line n (codes "}")) (lines-While p id l e b n))
  layer_begins (Statement-F.Do id l e b) =
      subst (λ y. Opens (statement_lines p n y) (indent n) (codes "do {")) (sym (s.rolls-Do id l e b)) (many_lines p (s.Do id l e b) n (codes "do {") [] (body_lines p (suc n) b ++ line n (codes "} while (" ++ (expr_words p e ++ codes ");"))) (lines-Do p id l e b n))
  layer_begins (Statement-F.For id l None e None b) =
      subst Begins (sym (s.rolls-For id l None e None b)) (many_lines p (s.For id l None e None b) n (statement_words p (s.For id l None e None b)) (codes " {") (body_lines p (suc n) b ++ line n (codes "}")) (lines-For p id l None e None b n))
  layer_begins (Statement-F.For id l None e (Some k) b) =
      subst Begins (sym (s.rolls-For id l None e (Some k) b)) (many_lines p (s.For id l None e (Some k) b) n (statement_words p (s.For id l None e (Some k) b)) (codes " {") (body_lines p (suc n) b ++ line n (codes "}")) (lines-For p id l None e (Some k) b n))
  layer_begins (Statement-F.For id l (Some i) e None b) =
      subst Begins (sym (s.rolls-For id l (Some i) e None b)) (many_lines p (s.For id l (Some i) e None b) n (statement_words p (s.For id l (Some i) e None b)) (codes " {") (body_lines p (suc n) b ++ line n (codes "}")) (lines-For p id l (Some i) e None b n))
  layer_begins (Statement-F.For id l (Some i) e (Some k) b) =
      subst Begins (sym (s.rolls-For id l (Some i) e (Some k) b)) (many_lines p (s.For id l (Some i) e (Some k) b) n (statement_words p (s.For id l (Some i) e (Some k) b)) (codes " {") (body_lines p (suc n) b ++ line n (codes "}")) (lines-For p id l (Some i) e (Some k) b n))
  layer_begins (Statement-F.Switch id l e arms) =
      subst Begins (sym (s.rolls-Switch id l e arms)) (many_lines p (s.Switch id l e arms) n (statement_words p (s.Switch id l e arms)) (codes " {") (arms_lines (map (arm_laid p) arms) (suc n) ++ line n (codes "}")) (lines-Switch p id l e arms n))
  layer_begins (Statement-F.Block l b) =
      subst (λ y. Opens (statement_lines p n y) (indent n) (codes "{")) (sym (s.rolls-Block l b)) (many_lines p (s.Block l b) n (codes "{") [] (body_lines p (suc n) b ++ line n (codes "}")) (lines-Block p l b n))

  begins : (statement : Statement) → Opens (statement_lines p n statement) (indent n) (opening p statement)
  begins statement = subst (λ y. Opens (statement_lines p n y) (indent n) (layer_opening (statement_words p y) (out-Statement statement))) (roll-out-Statement statement) (layer_begins (out-Statement statement))

-- ---- each place

-- the lines of the body of a statement that has one
body_at : (p : Program) (statement : Statement) (n : ℕ) (head tail : Bytes) (b : List Statement) → statement_lines p n statement ≡ line n head ++ (block_lines (map (laid p) b) (suc n) ++ line n tail)
    → statement_lines p n statement ≡ line n head ++ (body_lines p (suc n) b ++ line n tail)
body_at p statement n head tail b e = e ∙ ap (λ (x : Bytes). line n head ++ (x ++ line n tail)) (block_lines-laid p b (suc n))

else_at : (p : Program) (statement : Statement) (n : ℕ) (b : List Statement) (front words : Bytes) → ListBehind p statement (suc n) b front words → else_lines (map (laid p) b) n ≡ line n (codes "} else {") ++ body_lines p (suc n) b
else_at p statement n [] front words h = elim h [ ]
else_at p statement n (x ∷ b) front words h = ap (λ (y : Bytes). line n (codes "} else {") ++ y) (block_lines-laid p (x ∷ b) (suc n))

module _ (p : Program) (statement : Statement) where
  mutual
    pub stands_opens : {n : ℕ} {outer : Statement} {front words : Bytes} → StandsBehind p statement n outer front words → Opens (statement_lines p n outer) front words
    stands_opens (itself {n}) = begins p n statement
    stands_opens (met {n} {front} {words} id l e a b h) =
        opens_behind (statement_lines p n (s.If id l e a b)) (if_line p n e) (body_lines p (suc n) a) (else_lines (map (laid p) b) n ++ line n (codes "}")) front words
        (ap (λ (x : Laid). x.lines n) (laid-If p id l e a b) ∙ ap (λ (x : Bytes). if_line p n e ++ (x ++ (else_lines (map (laid p) b) n ++ line n (codes "}")))) (block_lines-laid p a (suc n))) (list_opens h)
    stands_opens (otherwise {n} {front} {words} id l e a b h) =
        opens_else (statement_lines p n (s.If id l e a b)) (if_line p n e) (body_lines p (suc n) a) (else_lines (map (laid p) b) n) (line n (codes "} else {")) (body_lines p (suc n) b) (line n (codes "}")) front words
        (ap (λ (x : Laid). x.lines n) (laid-If p id l e a b) ∙ ap (λ (x : Bytes). if_line p n e ++ (x ++ (else_lines (map (laid p) b) n ++ line n (codes "}")))) (block_lines-laid p a (suc n))) (else_at p statement n b front words h) (list_opens h)
    stands_opens (while {n} {front} {words} id l e b h) =
        opens_behind (statement_lines p n (s.While id l e b)) (line n (codes "while (" ++ (expr_words p e ++ codes ") {"))) (body_lines p (suc n) b) (line n (codes "}")) front words
        (body_at p (s.While id l e b) n (codes "while (" ++ (expr_words p e ++ codes ") {")) (codes "}") b (ap (λ (x : Laid). x.lines n) (laid-While p id l e b))) (list_opens h)
    stands_opens (repeated {n} {front} {words} id l e b h) =
        opens_behind (statement_lines p n (s.Do id l e b)) (line n (codes "do {")) (body_lines p (suc n) b) (line n (codes "} while (" ++ (expr_words p e ++ codes ");"))) front words (lines-Do p id l e b n) (list_opens h)
    stands_opens (block {n} {front} {words} l b h) =
        opens_behind (statement_lines p n (s.Block l b)) (line n (codes "{")) (body_lines p (suc n) b) (line n (codes "}")) front words (lines-Block p l b n) (list_opens h)
    stands_opens (first_part {n} id l e part b) =
        let whole = s.For id l (Some statement) e part b in
        opens_first (statement_lines p n whole) (indent n) (statement_words p whole) (codes "for (") (statement_words p statement) (codes "; " ++ (expr_words p e ++ (codes ";" ++ (step_part (option_map (laid p) part) ++ codes ")")))) (codes " {") (10 ∷ []) (body_lines p (suc n) b ++ line n (codes "}"))
        (lines-For p id l (Some statement) e part b n) (words-For p id l (Some statement) e part b)
    stands_opens (step {n} id l init e b) =
        let whole = s.For id l init e (Some statement) b in
        opens_step (statement_lines p n whole) (indent n) (statement_words p whole) (codes "for (") (init_part (option_map (laid p) init)) (codes "; ") (expr_words p e) (statement_words p statement) (codes ")") (codes " {") (10 ∷ []) (body_lines p (suc n) b ++ line n (codes "}"))
        (lines-For p id l init e (Some statement) b n) (words-For p id l init e (Some statement) b)
    stands_opens (turn {n} {front} {words} id l init e part b h) =
        opens_behind (statement_lines p n (s.For id l init e part b)) (line n (statement_words p (s.For id l init e part b) ++ codes " {")) (body_lines p (suc n) b) (line n (codes "}")) front words (lines-For p id l init e part b n) (list_opens h)
    stands_opens (switch {n} {front} {words} id l e arms h) =
        opens_behind (statement_lines p n (s.Switch id l e arms)) (line n (codes "switch (" ++ (expr_words p e ++ codes ") {"))) (arms_lines (map (arm_laid p) arms) (suc n)) (line n (codes "}")) front words
        (ap (λ (x : Laid). x.lines n) (laid-Switch p id l e arms)) (arms_open h)

    pub list_opens : {n : ℕ} {all : List Statement} {front words : Bytes} → ListBehind p statement n all front words → Opens (body_lines p n all) front words
    list_opens (first {n} {outer} {rest} {front} {words} h) = opens_before (body_lines p n (outer ∷ rest)) (statement_lines p n outer) (body_lines p n rest) front words refl (stands_opens h)
    list_opens (later {n} {before} {rest} {front} {words} h) = opens_last (body_lines p n (before ∷ rest)) (statement_lines p n before) (body_lines p n rest) front words refl (list_opens h)

    arms_open : {n : ℕ} {all : List Arm} {front words : Bytes} → ArmsBehind p statement n all front words → Opens (arms_lines (map (arm_laid p) all) n) front words
    arms_open (inside {n} {rest} {front} {words} labels body h) =
        let a : Arm = roll-Arm (record { labels = labels; body = body }) in
        opens_before (arms_lines (map (arm_laid p) (a ∷ rest)) n) (arm_laid p a n) (arms_lines (map (arm_laid p) rest) n) (label_lines p labels n ++ front) words refl
        (opens_behind (arm_laid p a n) (label_lines p labels n) (body_lines p (suc n) body) (line (suc n) (codes "break;")) front words (arm_laid-parts p a n) (list_opens h))
    arms_open (after {n} {before} {rest} {front} {words} h) = opens_last (arms_lines (map (arm_laid p) (before ∷ rest)) n) (arm_laid p before n) (arms_lines (map (arm_laid p) rest) n) front words refl (arms_open h)

  -- ---- items

  found_lines : (o : Option Function) (found : Function) → o ≡ Some found → option_map_or (function_lines p) o [] ≡ function_lines p found
  found_lines o found e = ap (λ (x : Option Function). option_map_or (function_lines p) x []) e

  pub items_open : {all : List Item} {front words : Bytes} → ItemsBehind p statement all front words → Opens (items_lines p all) front words
  items_open (defined {f} {found} {rest} {front} {words} is h) =
      let head = line 0 (head_words p found.is_static found (map (var_words p) found.params) ++ codes " {") in
      opens_before (items_lines p (item.Define f ∷ rest)) (item_lines p (item.Define f)) (items_lines p rest) (head ++ front) words refl
      (opens_behind (item_lines p (item.Define f)) head (body_lines p 1 found.body) (line 0 (codes "}")) front words (found_lines (slice_get p.functions f) found is) (list_opens h))
  items_open (behind {before} {rest} {front} {words} h) = opens_last (items_lines p (before ∷ rest)) (item_lines p before) (items_lines p rest) front words refl (items_open h)

-- ---- each place is among the starts

-- a line is given for the number
abbrev pub IsListed : ℕ → Starts → Type 0
IsListed id ss = (l : ℕ) × Contains ss (start id l)

pub listed_left : (id : ℕ) (a b : Starts) → IsListed id a → IsListed id (a ++ b)
listed_left id a b h = (h.0, Contains-append_left a b (start id h.0) h.1)

pub listed_right : (id : ℕ) (a b : Starts) → IsListed id b → IsListed id (a ++ b)
listed_right id a b h = (h.0, Contains-append_right a b (start id h.0) h.1)

own_listed : (statement : Statement) (id k : ℕ) → own_id statement ≡ Some id → IsListed id (declared_start (placed statement).own k)
own_listed statement id k e = subst (λ (o : Option ℕ). IsListed id (declared_start o k)) (sym (placed-own statement ∙ e)) (k, (zero, omega arith, refl))

-- what is inside, by the equation of the form
pub inside_listed : (statement : Statement) (id k : ℕ) (own : Option ℕ) (height : ℕ) (within : ℕ → Starts) → placed statement ≡ record { own = own; height = height; inside = within } → IsListed id (within k) → IsListed id (starts_from (placed statement) k)
inside_listed statement id k own height within e h = subst (λ (y : Placed). IsListed id (starts_from y k)) (sym e) (listed_right id (declared_start own k) (within k) h)

module _ (p : Program) (statement : Statement) (num : ℕ) (named : own_id statement ≡ Some num) where
  mutual
    stands_listed : {n : ℕ} {outer : Statement} {front words : Bytes} → StandsBehind p statement n outer front words → (k : ℕ) → IsListed num (starts_from (placed outer) k)
    stands_listed (itself {n}) k = listed_left num (declared_start (placed statement).own k) ((placed statement).inside k) (own_listed statement num k named)
    stands_listed (met {n} {front} {words} id l e a b h) k =
        let others = block_starts (map placed b) (k + 1 + heights (map placed a) + 1) in
        inside_listed (s.If id l e a b) num k _ _ _ (placed-If id l e a b) (listed_left num (block_starts (map placed a) (k + 1)) others (list_listed h (k + 1)))
    stands_listed (otherwise {n} {front} {words} id l e a b h) k =
        let others = block_starts (map placed b) (k + 1 + heights (map placed a) + 1) in
        inside_listed (s.If id l e a b) num k _ _ _ (placed-If id l e a b) (listed_right num (block_starts (map placed a) (k + 1)) others (list_listed h (k + 1 + heights (map placed a) + 1)))
    stands_listed (while {n} {front} {words} id l e b h) k = inside_listed (s.While id l e b) num k _ _ _ (placed-While id l e b) (list_listed h (k + 1))
    stands_listed (repeated {n} {front} {words} id l e b h) k = inside_listed (s.Do id l e b) num k _ _ _ (placed-Do id l e b) (list_listed h (k + 1))
    stands_listed (block {n} {front} {words} l b h) k = inside_listed (s.Block l b) num k _ _ _ (placed-Block l b) (list_listed h (k + 1))
    stands_listed (first_part {n} id l e part b) k =
        inside_listed (s.For id l (Some statement) e part b) num k _ _ _ (placed-For id l (Some statement) e part b)
        (listed_left num (declared_start (placed statement).own k) (part_starts (option_map placed part) k ++ block_starts (map placed b) (k + 1)) (own_listed statement num k named))
    stands_listed (step {n} id l init e b) k =
        inside_listed (s.For id l init e (Some statement) b) num k _ _ _ (placed-For id l init e (Some statement) b)
        (listed_right num (part_starts (option_map placed init) k) (declared_start (placed statement).own k ++ block_starts (map placed b) (k + 1))
        (listed_left num (declared_start (placed statement).own k) (block_starts (map placed b) (k + 1)) (own_listed statement num k named)))
    stands_listed (turn {n} {front} {words} id l init e part b h) k =
        inside_listed (s.For id l init e part b) num k _ _ _ (placed-For id l init e part b)
        (listed_right num (part_starts (option_map placed init) k) (part_starts (option_map placed part) k ++ block_starts (map placed b) (k + 1))
        (listed_right num (part_starts (option_map placed part) k) (block_starts (map placed b) (k + 1)) (list_listed h (k + 1))))
    stands_listed (switch {n} {front} {words} id l e arms h) k = inside_listed (s.Switch id l e arms) num k _ _ _ (placed-Switch id l e arms) (arms_listed h (k + 1))

    list_listed : {n : ℕ} {all : List Statement} {front words : Bytes} → ListBehind p statement n all front words → (k : ℕ) → IsListed num (block_starts (map placed all) k)
    list_listed (first {n} {outer} {rest} {front} {words} h) k = listed_left num (starts_from (placed outer) k) (block_starts (map placed rest) (k + (placed outer).height)) (stands_listed h k)
    list_listed (later {n} {before} {rest} {front} {words} h) k = listed_right num (starts_from (placed before) k) (block_starts (map placed rest) (k + (placed before).height)) (list_listed h (k + (placed before).height))

    arms_listed : {n : ℕ} {all : List Arm} {front words : Bytes} → ArmsBehind p statement n all front words → (k : ℕ) → IsListed num (block_starts (map arm_placed all) k)
    arms_listed (inside {n} {rest} {front} {words} labels body h) k =
        let a : Arm = roll-Arm (record { labels = labels; body = body }) in
        listed_left num (starts_from (arm_placed a) k) (block_starts (map arm_placed rest) (k + (arm_placed a).height))
        (subst (λ (y : Placed). IsListed num (starts_from y k)) (sym (placed-arm a)) (list_listed h (k + length labels)))
    arms_listed (after {n} {before} {rest} {front} {words} h) k =
        listed_right num (starts_from (arm_placed before) k) (block_starts (map arm_placed rest) (k + (arm_placed before).height)) (arms_listed h (k + (arm_placed before).height))

  pub items_listed : {all : List Item} {front words : Bytes} → ItemsBehind p statement all front words → (k : ℕ) → IsListed num (block_starts (map (item_placed p) all) k)
  items_listed (defined {f} {found} {rest} {front} {words} is h) k =
      listed_left num (starts_from (item_placed p (item.Define f)) k) (block_starts (map (item_placed p) rest) (k + (item_placed p (item.Define f)).height))
      (subst (λ (o : Option Function). IsListed num (starts_from (option_map_or function_placed o (bare 0)) k)) (sym is) (list_listed h (k + 1)))
  items_listed (behind {before} {rest} {front} {words} h) k =
      listed_right num (starts_from (item_placed p before) k) (block_starts (map (item_placed p) rest) (k + (item_placed p before).height)) (items_listed h (k + (item_placed p before).height))
