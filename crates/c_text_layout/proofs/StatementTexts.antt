-- What is printed of statements that are syntax has their tokens: they have the same trees, but for what the layout drops.
use Rattle.std.proofs.Common.{◌≡◌, ℕ, suc, ◌+◌, List, [], ◌∷◌, ◌++◌, map, append_assoc, append-nil, refl, sym, ap, ap₂, ◌∙◌, subst, Bool, true, false, codes, Option, Some, None}
use Rattle.std.specs.List.{list_all}
use Rattle.std.specs.Option.{option_map, option_map_or}
use Rattle.std.proofs.lemmas.Bool.{and_parts}
use Rattle.c_tree.specs.declared.raw.expr.RawExpr.{RawExpr}
use Rattle.c_tree.specs.declared.raw.statement.RawTarget.{RawTarget}
use Rattle.c_tree.specs.declared.raw.statement.RawTarget.TheVariants as target
use Rattle.c_tree.specs.declared.raw.statement.RawArg.{RawArg}
use Rattle.c_tree.specs.declared.raw.statement.RawTypeName.{RawTypeName}
use Rattle.c_tree.specs.declared.raw.statement.RawAmount.{RawAmount}
use Rattle.c_tree.specs.declared.raw.statement.RawLabel.{RawLabel}
use Rattle.c_tree.specs.declared.raw.statement.RawLabel.TheVariants as label
use Rattle.c_tree.specs.declared.raw.statement.RawArm.{RawArm, roll-RawArm, fold-roll-RawArm}
use Rattle.c_tree.specs.declared.raw.statement.RawStatement.{RawStatement, roll-RawStatement, fold-roll-RawStatement}
use Rattle.c_tree.specs.declared.raw.statement.RawStatement.TheOpen.{RawStatement-F}
use Rattle.c_tree.specs.declared.raw.statement.RawStatement.TheVariants as s
use Rattle.c_tree.proofs.RawTrees.{StatementParts, ArmParts, statement_layer, arm_layer, of_every_statement}
use Rattle.c_language.specs.Words.{Bytes}
use Rattle.c_language.specs.TokenForms.{Tokens, name, mark}
use Rattle.c_language.specs.Tokens.{IsTokens}
use Rattle.c_language.specs.Lists.{all_true}
use Rattle.c_language.specs.Sees.{sees}
use Rattle.c_language.specs.ExprGrammar.{conditional_level}
use Rattle.c_language.specs.StatementGrammar.{IsSeparated, IsDeclaration, IsInit, IsStep, IsLabel, AreLabels, IsTest, arm, IsStatement, AreStatements, IsBody, IsElse, AreArms}
use Rattle.c_language.specs.Layout.{indent, block_lines, else_lines, init_part, step_part, arms_lines}
use Rattle.c_language.specs.Layout.{line as whole_line}
use Rattle.c_language.specs.Syntax.{is_there, is_expr, sized, is_declared, is_call, is_heap, is_stored, Position, inner, final, first, step, takes_declaration, takes_compound, takes_return, is_target, is_label, stands_step, arm_step, stands, is_arm, is_body}
use Rattle.c_language.specs.declared.token.TokenKind.TheVariants.{Name}
use Rattle.c_language.specs.declared.token.Before.{Before}
use Rattle.c_language.specs.declared.token.Before.TheVariants.{Blank, Token}
use Rattle.c_language.proofs.LayoutLemmas.{plain_lines}
use Rattle.c_language.proofs.Tests.{false_true}
use Rattle.text_syntax.proofs.Forms.{are_inner}
use Rattle.text_syntax.proofs.Folds.{standing}
use Rattle.text_syntax.proofs.Clear as told
use Rattle.text_syntax.proofs.Clear.{ClearInside, declaration, ClearStatement, ended, nothing_more, ClearBody, body_done, Joins, in_list, in_body, Same, at_end, braces_clear, without_else, if_clear, while_clear, do_clear, turned, for_clear, return_clear, return_value_clear, ClearLabels, labels_last, labels_more, ClearArms, arm_clear, switch_clear}
use Rattle.c_text_layout.specs.RawLayout.{raw_label_words, raw_label_lines, raw_laid}
use Rattle.c_text_layout.specs.Settled.{settled}
use Rattle.c_text_layout.specs.SpacedWords.{spaced_words}
use Rattle.c_text_layout.specs.Declarations.{is_short, declarations_pass}
use Rattle.c_text_layout.proofs.TokenPrint.{print_blank, print_line, print_mark, print_name, is_word, word_form}
use Rattle.c_text_layout.proofs.ExprTexts.{name_no_else, mark_no_else, expr_text}
use Rattle.c_text_layout.proofs.SimplePrint.{Has}
use Rattle.c_text_layout.proofs.SimpleTexts.{Simple, assign_text, store_call_text, store_heap_text, bump_text, call_alone}
use Rattle.c_text_layout.proofs.DeclaredTexts.{Declares, declare_text, declare_call_text, declare_heap_text}
use Rattle.c_text_layout.proofs.RawStatementLemmas.{raw_arm_laid, settled_arm, raw_laid-Declare, raw_laid-Assign, raw_laid-Bump, raw_laid-Call, raw_laid-Heap, raw_laid-If, raw_laid-While, raw_laid-Do, raw_laid-For, raw_laid-Switch, raw_laid-Block, raw_laid-Return, settled-If, settled-While, settled-Do, settled-For, settled-Switch, settled-Block, settled-Return, raw_arm_laid-roll, settled_arm-roll}
use Rattle.c_text_layout.proofs.DeclarationLemmas.{arm_passes, list_passes, part_passes, pass-Declare, pass-If, pass-While, pass-Do, pass-For, pass-Switch, pass-Block, pass-arm}
use Rattle.c_text_layout.proofs.StatementPrint.{print_indent, line_join, braced_join, ended_join, semicolon_no_length, label_join, if_join, while_join, switch_join, do_join, for_join, return_join, else_join, arm_join, lines_as}

-- ---- lines

-- tokens of the lines of a statement that is the same in all that the layout keeps, and then these
pub record OneText (p : Position) (line : ℕ) (bytes : Bytes) (x : RawStatement) (after : Tokens) : Type 0 where
  pub tokens : Tokens
  pub lexed : IsTokens Blank line bytes tokens
  pub found : RawStatement
  pub is : IsStatement tokens found after
  pub same : settled found ≡ settled x
  pub no_else : sees Name (codes "else") tokens ≡ false
  pub clear : ClearStatement p tokens after

one_as : {p : Position} {line : ℕ} {x : RawStatement} {after : Tokens} {a b : Bytes} → a ≡ b → OneText p line b x after → OneText p line a x after
one_as {p} {line} {x} {after} e t = subst (λ (z : Bytes). OneText p line z x after) (sym e) t

-- those of the lines of a list of statements
pub record ManyText (C : Tokens → Tokens → Type 0) (line : ℕ) (bytes : Bytes) (xs : List RawStatement) (after : Tokens) : Type 0 where
  pub tokens : Tokens
  pub lexed : IsTokens Blank line bytes tokens
  pub found : List RawStatement
  pub is : AreStatements tokens found after
  pub same : map settled found ≡ map settled xs
  pub no_else : sees Name (codes "else") tokens ≡ false
  pub clear : C tokens after

many_as : {C : Tokens → Tokens → Type 0} {line : ℕ} {xs : List RawStatement} {after : Tokens} {a b : Bytes} → a ≡ b → ManyText C line b xs after → ManyText C line a xs after
many_as {C} {line} {xs} {after} e t = subst (λ (z : Bytes). ManyText C line z xs after) (sym e) t

-- a statement with its lines at each level: on which line what follows begins, and its tokens
pub record Whole (p : Position) (x : RawStatement) : Type 0 where
  pub next : ℕ → ℕ
  pub text : (n line : ℕ) (tl : Bytes) (after : Tokens) → IsTokens Blank (next line) tl after → sees Name (codes "else") after ≡ false → OneText p line ((raw_laid x).lines n ++ tl) x after

-- a list of statements, and what is told of its tokens
pub record Lines (C : Tokens → Tokens → Type 0) (xs : List RawStatement) : Type 0 where
  pub next : ℕ → ℕ
  pub text : (n line : ℕ) (tl : Bytes) (after : Tokens) → IsTokens Blank (next line) tl after → sees Name (codes "else") after ≡ false → ManyText C line (block_lines (map raw_laid xs) n ++ tl) xs after

-- a statement that is one line
abbrev IsLine : RawStatement → Type 0
IsLine x = (n : ℕ) → (raw_laid x).lines n ≡ whole_line n ((raw_laid x).words ++ codes ";")

-- a statement that may stand there
pub data Formed (p : Position) (x : RawStatement) : Type 0 where
  -- a simple statement
  simple : IsLine x → Simple x → Formed p x
  -- a declaration of one name
  declared : takes_declaration p ≡ true → IsLine x → Declares x → Formed p x
  -- any other, whole
  whole : takes_compound p ≡ true → Whole p x → Formed p x

-- ---- lists of statements

pub no_lines : (C : Tokens → Tokens → Type 0) → ((ts : Tokens) → C ts ts) → Lines C []
no_lines C here = record {
  next = λ line. line;
  text = λ n line tl after k safe. record { tokens = after; lexed = k; found = []; is = AreStatements.done; same = refl; no_else = safe; clear = here after };
}

line_before : (x : RawStatement) (xs : List RawStatement) (n : ℕ) (tl : Bytes) → IsLine x
    → block_lines (map raw_laid (x ∷ xs)) n ++ tl ≡ indent n ++ ((raw_laid x).words ++ (59 ∷ 10 ∷ (block_lines (map raw_laid xs) n ++ tl)))
line_before x xs n tl is =
    append_assoc ((raw_laid x).lines n) (block_lines (map raw_laid xs) n) tl
    ∙ ap (λ (z : Bytes). z ++ (block_lines (map raw_laid xs) n ++ tl)) (is n) ∙ ended_join n (raw_laid x).words (block_lines (map raw_laid xs) n ++ tl)

one_before : {p : Position} {C D : Tokens → Tokens → Type 0} {x : RawStatement} {xs : List RawStatement} → Joins p C D → Formed p x → Lines D xs → Lines C (x ∷ xs)
one_before {x = x} {xs} j (simple is a) all = record {
  next = λ line. all.next (line + 1);
  text = λ n line tl after k safe.
      let y = all.text n (line + 1) tl after k safe in
      let t = a line (59 ∷ 10 ∷ (block_lines (map raw_laid xs) n ++ tl)) (mark (codes ";") line ∷ y.tokens) (λ c. refl) (print_mark (codes ";") refl refl (print_line y.lexed)) in
      many_as (line_before x xs n tl is)
      (record {
        tokens = t.tokens;
        lexed = print_indent n (t.lexed Blank);
        found = t.found ∷ y.found;
        is = AreStatements.more (IsStatement.simple t.is) y.is;
        clear = j.simples t.clear y.clear;
        same = ap₂ (λ (c : RawStatement) (cs : List RawStatement). c ∷ cs) t.same y.same;
        no_else = t.no_else;
      });
}
one_before {x = x} {xs} j (declared q is a) all = record {
  next = λ line. all.next (line + 1);
  text = λ n line tl after k safe.
      let y = all.text n (line + 1) tl after k safe in
      let t = a line (59 ∷ 10 ∷ (block_lines (map raw_laid xs) n ++ tl)) (mark (codes ";") line ∷ y.tokens) (λ c. refl) (semicolon_no_length line y.tokens) (print_mark (codes ";") refl refl (print_line y.lexed)) in
      many_as (line_before x xs n tl is)
      (record {
        tokens = t.tokens;
        lexed = print_indent n (t.lexed Blank);
        found = t.found ∷ y.found;
        is = AreStatements.declared (IsDeclaration.declaration t.is_base (IsSeparated.last t.is)) y.is;
        clear = j.simples (declaration t.is_base t.is t.clear) y.clear;
        same = ap₂ (λ (c : RawStatement) (cs : List RawStatement). c ∷ cs) t.same y.same;
        no_else = t.no_else;
      });
}
one_before {x = x} {xs} j (whole q w) all = record {
  next = λ line. all.next (w.next line);
  text = λ n line tl after k safe.
      let y = all.text n (w.next line) tl after k safe in
      let t = w.text n line (block_lines (map raw_laid xs) n ++ tl) y.tokens y.lexed y.no_else in
      many_as (append_assoc ((raw_laid x).lines n) (block_lines (map raw_laid xs) n) tl)
      (record {
        tokens = t.tokens;
        lexed = t.lexed;
        found = t.found ∷ y.found;
        is = AreStatements.more t.is y.is;
        clear = j.wholes t.clear y.clear;
        same = ap₂ (λ (c : RawStatement) (cs : List RawStatement). c ∷ cs) t.same y.same;
        no_else = t.no_else;
      });
}

-- ---- parts of statements

-- a body in braces, from the one that opens it
record BodyText (line : ℕ) (bytes : Bytes) (xs : List RawStatement) (after : Tokens) : Type 0 where
  tokens : Tokens
  lexed : (before : Before) → IsTokens before line bytes tokens
  found : List RawStatement
  is : IsBody tokens found after
  same : map settled found ≡ map settled xs
  clear : ClearStatement inner tokens after

braces : {xs : List RawStatement} (x : Lines ClearInside xs) (n line : ℕ) (more : Bytes) (after : Tokens) → IsTokens Token (x.next (line + 1)) more after
    → BodyText line (123 ∷ 10 ∷ (block_lines (map raw_laid xs) (suc n) ++ (indent n ++ (125 ∷ more)))) xs after
braces x n line more after k =
    let end = x.next (line + 1) in
    let y = x.text (suc n) (line + 1) (indent n ++ (125 ∷ more)) (mark (codes "}") end ∷ after) (print_indent n (print_mark (codes "}") refl refl k)) (mark_no_else (codes "}") end after) in
    record { tokens = mark (codes "{") line ∷ y.tokens; lexed = λ before. print_mark (codes "{") refl refl (print_line y.lexed); found = y.found; is = IsBody.braces y.is; same = y.same; clear = braces_clear y.clear }

test_text : (a : RawExpr) → is_expr a ≡ true → (line : ℕ) (more : Bytes) (after : Tokens) → IsTokens Token line more after → Has line (40 ∷ (spaced_words a ++ (41 ∷ more))) (λ ts. IsTest ts a after)
test_text a h line more after k =
    let x = expr_text a conditional_level h line (41 ∷ more) (mark (codes ")") line ∷ after) (λ b. refl) (print_mark (codes ")") refl refl k) in
    record { tokens = mark (codes "(") line ∷ x.tokens; lexed = λ before. print_mark (codes "(") refl refl (x.lexed Token); is = IsTest.test x.is }

-- a keyword, and a blank behind it
print_word : {before : Before} {line : ℕ} {rest : Bytes} {ts : Tokens} (w : Bytes) → is_word w ≡ true → IsTokens Token line rest ts → IsTokens before line (w ++ (32 ∷ rest)) (name w line ∷ ts)
print_word w h k = print_name w (word_form w h) (λ b. refl) (print_blank k)

-- ---- what a for begins with, and does after each turn

record InitText (line : ℕ) (bytes : Bytes) (a : Option RawStatement) (after : Tokens) : Type 0 where
  tokens : Tokens
  lexed : (before : Before) → IsTokens before line bytes tokens
  found : Option RawStatement
  is : IsInit tokens found after
  same : option_map settled found ≡ option_map settled a
  clear : ClearInside tokens after

abbrev Begins : Option RawStatement → Type 0
Begins a = (line : ℕ) (more : Bytes) (after : Tokens) → IsTokens Token line more after → InitText line (init_part (option_map raw_laid a) ++ (59 ∷ more)) a after

no_init : Begins None
no_init line more after t = record { tokens = mark (codes ";") line ∷ after; lexed = λ before. print_mark (codes ";") refl refl t; found = None; is = IsInit.nothing; same = refl; clear = told.no_init line after }

init : {x : RawStatement} → Formed first x → Begins (Some x)
init (simple is a) line more after t =
    let x = a line (59 ∷ more) (mark (codes ";") line ∷ after) (λ b. refl) (print_mark (codes ";") refl refl t) in
    record { tokens = x.tokens; lexed = x.lexed; found = Some x.found; is = IsInit.simple x.is; same = ap Some x.same; clear = ended x.clear }
init (declared q is a) line more after t =
    let x = a line (59 ∷ more) (mark (codes ";") line ∷ after) (λ b. refl) (semicolon_no_length line after) (print_mark (codes ";") refl refl t) in
    record { tokens = x.tokens; lexed = x.lexed; found = Some x.found; is = IsInit.declared x.is_base x.is; same = ap Some x.same; clear = ended (declaration x.is_base x.is x.clear) }
init (whole q w) line more after t = false_true q

record StepText (line : ℕ) (bytes : Bytes) (a : Option RawStatement) (after : Tokens) : Type 0 where
  tokens : Tokens
  lexed : (before : Before) → IsTokens before line bytes tokens
  found : Option RawStatement
  is : IsStep tokens found after
  same : option_map settled found ≡ option_map settled a
  clear : ClearInside tokens after

abbrev Turns : Option RawStatement → Type 0
Turns a = (line : ℕ) (more : Bytes) (after : Tokens) → IsTokens Token line more after → StepText line (step_part (option_map raw_laid a) ++ (41 ∷ more)) a after

no_turn : Turns None
no_turn line more after t = record { tokens = mark (codes ")") line ∷ after; lexed = λ before. print_mark (codes ")") refl refl t; found = None; is = IsStep.nothing; same = refl; clear = told.no_turn line after }

turn : {x : RawStatement} → Formed step x → Turns (Some x)
turn (simple is a) line more after t =
    let x = a line (41 ∷ more) (mark (codes ")") line ∷ after) (λ b. refl) (print_mark (codes ")") refl refl t) in
    record { tokens = x.tokens; lexed = λ before. print_blank (x.lexed before); found = Some x.found; is = IsStep.simple x.is; same = ap Some x.same; clear = turned x.clear }
turn (declared q is a) line more after t = false_true q
turn (whole q w) line more after t = false_true q

-- ---- arms

record LabelText (line : ℕ) (bytes : Bytes) (P : Tokens → Type 0) : Type 0 where
  tokens : Tokens
  lexed : IsTokens Blank line bytes tokens
  is : P tokens

label_text : (a : RawLabel) → is_label a ≡ true → (n line : ℕ) (tl : Bytes) (after : Tokens) → IsTokens Blank (line + 1) tl after → LabelText line (whole_line n (raw_label_words a) ++ tl) (λ ts. IsLabel ts a after)
label_text (label.Case a) h n line tl after k =
    let x = expr_text a conditional_level h line (58 ∷ 10 ∷ tl) (mark (codes ":") line ∷ after) (λ b. refl) (print_mark (codes ":") refl refl (print_line k)) in
    subst (λ (z : Bytes). LabelText line z (λ ts. IsLabel ts (label.Case a) after)) (sym (line_join n (raw_label_words (label.Case a)) tl ∙ ap (λ (z : Bytes). indent n ++ z) (label_join (spaced_words a) tl)))
    (record { tokens = name (codes "case") line ∷ x.tokens; lexed = print_indent n (print_word (codes "case") refl (x.lexed Token)); is = IsLabel.case x.is })
label_text label.Default h n line tl after k =
    subst (λ (z : Bytes). LabelText line z (λ ts. IsLabel ts label.Default after)) (sym (line_join n (codes "default:") tl))
    (record {
      tokens = name (codes "default") line ∷ mark (codes ":") line ∷ after;
      lexed = print_indent n (print_name (codes "default") (word_form (codes "default") refl) (λ b. refl) (print_mark (codes ":") refl refl (print_line k)));
      is = IsLabel.default;
    })

-- labels, each on a line
record Labels (all : List RawLabel) : Type 0 where
  next : ℕ → ℕ
  text : (n line : ℕ) (tl : Bytes) (after : Tokens) → IsTokens Blank (next line) tl after → LabelText line (raw_label_lines all n ++ tl) (λ ts. AreLabels ts all after × ClearLabels ts after)

labels_text : (a : RawLabel) (all : List RawLabel) → list_all is_label (a ∷ all) ≡ true → Labels (a ∷ all)
labels_text a [] h = record {
  next = λ line. line + 1;
  text = λ n line tl after k.
      let x = label_text a (and_parts (is_label a) true h).0 n line tl after k in
      subst (λ (z : Bytes). LabelText line (z ++ tl) (λ ts. AreLabels ts (a ∷ []) after × ClearLabels ts after)) (sym (append-nil (whole_line n (raw_label_words a))))
      (record { tokens = x.tokens; lexed = x.lexed; is = (AreLabels.last x.is, labels_last x.is) });
}
labels_text a (b ∷ all) h =
    let p = and_parts (is_label a) (list_all is_label (b ∷ all)) h in
    let y = labels_text b all p.1 in
    record {
      next = λ line. y.next (line + 1);
      text = λ n line tl after k.
          let z = y.text n (line + 1) tl after k in
          let x = label_text a p.0 n line (raw_label_lines (b ∷ all) n ++ tl) z.tokens z.lexed in
          subst (λ (w : Bytes). LabelText line w (λ ts. AreLabels ts (a ∷ b ∷ all) after × ClearLabels ts after)) (sym (append_assoc (whole_line n (raw_label_words a)) (raw_label_lines (b ∷ all) n) tl))
          (record { tokens = x.tokens; lexed = x.lexed; is = (AreLabels.more x.is z.is.0, labels_more x.is z.is.1) });
    }

-- the arms of a switch, up to the brace behind them
record ArmsText (line : ℕ) (bytes : Bytes) (arms : List RawArm) (after : Tokens) : Type 0 where
  tokens : Tokens
  lexed : IsTokens Blank line bytes tokens
  found : List RawArm
  is : AreArms tokens found after
  same : map settled_arm found ≡ map settled_arm arms
  clear : ClearArms tokens after

record Arms (arms : List RawArm) : Type 0 where
  next : ℕ → ℕ
  text : (n line : ℕ) (tl : Bytes) (after : Tokens) → IsTokens Blank (next line) tl after → ArmsText line (arms_lines (map raw_arm_laid arms) (suc n) ++ (indent n ++ (125 ∷ 10 ∷ tl))) arms after

no_arms : Arms []
no_arms = record {
  next = λ line. line + 1;
  text = λ n line tl after k. record { tokens = mark (codes "}") line ∷ after; lexed = print_indent n (print_mark (codes "}") refl refl (print_line k)); found = []; is = AreArms.none; same = refl; clear = told.no_arms line after };
}

arm_before : (labels : List RawLabel) {body : List RawStatement} {arms : List RawArm} → is_there labels ≡ true → list_all is_label labels ≡ true → Lines ClearInside body → Arms arms → Arms (arm labels body ∷ arms)
arm_before [] h k x all = false_true h
arm_before (a ∷ labels) {body} {arms} h k x all =
    let y = labels_text a labels k in
    record {
      next = λ line. all.next (x.next (y.next line) + 1);
      text = λ n line tl after t.
          let at = x.next (y.next line) in
          let close : Bytes = indent n ++ (125 ∷ 10 ∷ tl) in
          let others = all.text n (at + 1) tl after t in
          let end : Bytes = indent (suc (suc n)) ++ (codes "break" ++ (59 ∷ 10 ∷ (arms_lines (map raw_arm_laid arms) (suc n) ++ close))) in
          let inside = x.text (suc (suc n)) (y.next line) end (name (codes "break") at ∷ mark (codes ";") at ∷ others.tokens)
          (print_indent (suc (suc n)) (print_name (codes "break") (word_form (codes "break") refl) (λ b. refl) (print_mark (codes ";") refl refl (print_line others.lexed))))
          (name_no_else (codes "break") at (mark (codes ";") at ∷ others.tokens) refl) in
          let z = y.text (suc n) line (block_lines (map raw_laid body) (suc (suc n)) ++ end) inside.tokens inside.lexed in
          subst (λ (w : Bytes). ArmsText line w (arm (a ∷ labels) body ∷ arms) after)
          (sym (ap (λ (f : ℕ → Bytes). (f (suc n) ++ arms_lines (map raw_arm_laid arms) (suc n)) ++ close) (raw_arm_laid-roll (a ∷ labels) body)
          ∙ arm_join (suc n) (raw_label_lines (a ∷ labels) (suc n)) (block_lines (map raw_laid body) (suc (suc n))) (arms_lines (map raw_arm_laid arms) (suc n)) close))
          (record {
            tokens = z.tokens;
            lexed = z.lexed;
            found = arm (a ∷ labels) inside.found ∷ others.found;
            is = AreArms.broken z.is.0 inside.is others.is;
            clear = arm_clear z.is.1 inside.clear others.clear;
            same = ap₂ (λ (c : RawArm) (cs : List RawArm). c ∷ cs)
                (settled_arm-roll (a ∷ labels) inside.found ∙ ap (λ (w : List RawStatement). arm (a ∷ labels) w) inside.same ∙ sym (settled_arm-roll (a ∷ labels) body)) others.same;
          });
    }

-- ---- statements with parts

while_whole : {p : Position} (l : ℕ) (a : RawExpr) {b : List RawStatement} → is_expr a ≡ true → Lines ClearInside b → Whole p (s.While l a b)
while_whole l a {b} h x = record {
  next = λ line. x.next (line + 1) + 1;
  text = λ n line tl after k safe.
      let inside : Bytes = block_lines (map raw_laid b) (suc n) ++ (indent n ++ (125 ∷ 10 ∷ tl)) in
      let y = braces x n line (10 ∷ tl) after (print_line k) in
      let p = test_text a h line (32 ∷ 123 ∷ 10 ∷ inside) y.tokens (print_blank (y.lexed Token)) in
      one_as (lines_as n tl (raw_laid-While l a b) ∙ while_join n (spaced_words a) (block_lines (map raw_laid b) (suc n)) tl)
      (record {
        tokens = name (codes "while") line ∷ p.tokens;
        lexed = print_indent n (print_word (codes "while") refl (p.lexed Token));
        found = s.While line a y.found;
        is = IsStatement.while_loop p.is y.is;
        clear = while_clear p.is y.clear;
        same = settled-While line a y.found ∙ ap (s.While 0 a) y.same ∙ sym (settled-While l a b);
        no_else = name_no_else (codes "while") line p.tokens refl;
      });
}

if_whole : {p : Position} (l : ℕ) (a : RawExpr) {b : List RawStatement} (c : List RawStatement) → is_expr a ≡ true → Lines ClearInside b → Lines ClearInside c → Whole p (s.If l a b c)
if_whole l a {b} [] h x z = record {
  next = λ line. x.next (line + 1) + 1;
  text = λ n line tl after k safe.
      let body : Bytes = block_lines (map raw_laid b) (suc n) in
      let y = braces x n line (10 ∷ tl) after (print_line k) in
      let p = test_text a h line (32 ∷ 123 ∷ 10 ∷ (body ++ (indent n ++ (125 ∷ 10 ∷ tl)))) y.tokens (print_blank (y.lexed Token)) in
      one_as (lines_as n tl (raw_laid-If l a b []) ∙ if_join n (spaced_words a) body tl (whole_line n (codes "}"))
      ∙ ap (λ (w : Bytes). indent n ++ (codes "if" ++ (32 ∷ 40 ∷ (spaced_words a ++ (41 ∷ 32 ∷ 123 ∷ 10 ∷ (body ++ w)))))) (line_join n (codes "}") tl))
      (record {
        tokens = name (codes "if") line ∷ p.tokens;
        lexed = print_indent n (print_word {ts = p.tokens} (codes "if") refl (p.lexed Token));
        found = s.If line a y.found [];
        is = IsStatement.conditional p.is y.is (IsElse.without safe);
        clear = if_clear p.is y.clear (without_else after);
        same = settled-If line a y.found [] ∙ ap (λ (w : List RawStatement). s.If 0 a w []) y.same ∙ sym (settled-If l a b []);
        no_else = name_no_else (codes "if") line p.tokens refl;
      });
}
if_whole l a {b} (o ∷ os) h x z = record {
  next = λ line. z.next (x.next (line + 1) + 1) + 1;
  text = λ n line tl after k safe.
      let c : List RawStatement = o ∷ os in
      let at = x.next (line + 1) in
      let body : Bytes = block_lines (map raw_laid b) (suc n) in
      let other : Bytes = block_lines (map raw_laid c) (suc n) in
      let u = braces z n at (10 ∷ tl) after (print_line k) in
      let rest : Bytes = 32 ∷ (codes "else" ++ (32 ∷ 123 ∷ 10 ∷ (other ++ (indent n ++ (125 ∷ 10 ∷ tl))))) in
      let y = braces x n line rest (name (codes "else") at ∷ u.tokens) (print_blank (print_word {ts = u.tokens} (codes "else") refl (u.lexed Token))) in
      let p = test_text a h line (32 ∷ 123 ∷ 10 ∷ (body ++ (indent n ++ (125 ∷ rest)))) y.tokens (print_blank (y.lexed Token)) in
      one_as (lines_as n tl (raw_laid-If l a b c) ∙ if_join n (spaced_words a) body tl (else_lines (map raw_laid c) n ++ whole_line n (codes "}"))
      ∙ ap (λ (w : Bytes). indent n ++ (codes "if" ++ (32 ∷ 40 ∷ (spaced_words a ++ (41 ∷ 32 ∷ 123 ∷ 10 ∷ (body ++ w)))))) (else_join n other tl))
      (record {
        tokens = name (codes "if") line ∷ p.tokens;
        lexed = print_indent n (print_word {ts = p.tokens} (codes "if") refl (p.lexed Token));
        found = s.If line a y.found u.found;
        is = IsStatement.conditional p.is y.is (IsElse.otherwise u.is);
        clear = if_clear p.is y.clear (told.otherwise u.clear);
        same = settled-If line a y.found u.found ∙ ap₂ (s.If 0 a) y.same u.same ∙ sym (settled-If l a b c);
        no_else = name_no_else (codes "if") line p.tokens refl;
      });
}

do_whole : {p : Position} (l : ℕ) (a : RawExpr) {b : List RawStatement} → is_expr a ≡ true → Lines ClearInside b → Whole p (s.Do l a b)
do_whole l a {b} h x = record {
  next = λ line. x.next (line + 1) + 1;
  text = λ n line tl after k safe.
      let at = x.next (line + 1) in
      let p = test_text a h at (59 ∷ 10 ∷ tl) (mark (codes ";") at ∷ after) (print_mark (codes ";") refl refl (print_line k)) in
      let y = braces x n line (32 ∷ (codes "while" ++ (32 ∷ 40 ∷ (spaced_words a ++ (41 ∷ 59 ∷ 10 ∷ tl))))) (name (codes "while") at ∷ p.tokens) (print_blank (print_word {ts = p.tokens} (codes "while") refl (p.lexed Token))) in
      one_as (lines_as n tl (raw_laid-Do l a b) ∙ do_join n (spaced_words a) (block_lines (map raw_laid b) (suc n)) tl)
      (record {
        tokens = name (codes "do") line ∷ y.tokens;
        lexed = print_indent n (print_word (codes "do") refl (y.lexed Token));
        found = s.Do line a y.found;
        is = IsStatement.do_loop y.is p.is;
        clear = do_clear y.clear p.is;
        same = settled-Do line a y.found ∙ ap (s.Do 0 a) y.same ∙ sym (settled-Do l a b);
        no_else = name_no_else (codes "do") line y.tokens refl;
      });
}

for_whole : {p : Position} (l : ℕ) (a : RawExpr) {i k : Option RawStatement} {b : List RawStatement} → is_expr a ≡ true → Begins i → Turns k → Lines ClearInside b → Whole p (s.For l i a k b)
for_whole l a {i} {k} {b} h begin after_turn x = record {
  next = λ line. x.next (line + 1) + 1;
  text = λ n line tl after t safe.
      let y = braces x n line (10 ∷ tl) after (print_line t) in
      let behind : Bytes = 32 ∷ 123 ∷ 10 ∷ (block_lines (map raw_laid b) (suc n) ++ (indent n ++ (125 ∷ 10 ∷ tl))) in
      let z = after_turn line behind y.tokens (print_blank (y.lexed Token)) in
      let between : Bytes = 59 ∷ (step_part (option_map raw_laid k) ++ (41 ∷ behind)) in
      let p = expr_text a conditional_level h line between (mark (codes ";") line ∷ z.tokens) (λ d. refl) (print_mark (codes ";") refl refl (z.lexed Token)) in
      let u = begin line (32 ∷ (spaced_words a ++ between)) p.tokens (print_blank (p.lexed Token)) in
      one_as (lines_as n tl (raw_laid-For l i a k b)
      ∙ for_join n (init_part (option_map raw_laid i)) (spaced_words a) (step_part (option_map raw_laid k)) (block_lines (map raw_laid b) (suc n)) tl)
      (record {
        tokens = name (codes "for") line ∷ mark (codes "(") line ∷ u.tokens;
        lexed = print_indent n (print_word (codes "for") refl (print_mark (codes "(") refl refl (u.lexed Token)));
        found = s.For line u.found a z.found y.found;
        is = IsStatement.for_loop u.is p.is z.is y.is;
        clear = for_clear u.clear p.is z.clear y.clear;
        same = settled-For line u.found a z.found y.found ∙ ap (λ (o : Option RawStatement). s.For 0 o a (option_map settled z.found) (map settled y.found)) u.same
            ∙ ap₂ (s.For 0 (option_map settled i) a) z.same y.same ∙ sym (settled-For l i a k b);
        no_else = name_no_else (codes "for") line (mark (codes "(") line ∷ u.tokens) refl;
      });
}

switch_whole : {p : Position} (l : ℕ) (a : RawExpr) {arms : List RawArm} → is_expr a ≡ true → Arms arms → Whole p (s.Switch l a arms)
switch_whole l a {arms} h x = record {
  next = λ line. x.next (line + 1);
  text = λ n line tl after k safe.
      let y = x.text n (line + 1) tl after k in
      let inside : Bytes = arms_lines (map raw_arm_laid arms) (suc n) ++ (indent n ++ (125 ∷ 10 ∷ tl)) in
      let p = test_text a h line (32 ∷ 123 ∷ 10 ∷ inside) (mark (codes "{") line ∷ y.tokens) (print_blank (print_mark (codes "{") refl refl (print_line y.lexed))) in
      one_as (lines_as n tl (raw_laid-Switch l a arms) ∙ switch_join n (spaced_words a) (arms_lines (map raw_arm_laid arms) (suc n)) tl)
      (record {
        tokens = name (codes "switch") line ∷ p.tokens;
        lexed = print_indent n (print_word (codes "switch") refl (p.lexed Token));
        found = s.Switch line a y.found;
        is = IsStatement.switch p.is y.is;
        clear = switch_clear p.is y.clear;
        same = settled-Switch line a y.found ∙ ap (s.Switch 0 a) y.same ∙ sym (settled-Switch l a arms);
        no_else = name_no_else (codes "switch") line p.tokens refl;
      });
}

block_whole : {p : Position} (l : ℕ) {b : List RawStatement} → Lines ClearInside b → Whole p (s.Block l b)
block_whole l {b} x = record {
  next = λ line. x.next (line + 1) + 1;
  text = λ n line tl after k safe.
      let end = x.next (line + 1) in
      let y = x.text (suc n) (line + 1) (indent n ++ (125 ∷ 10 ∷ tl)) (mark (codes "}") end ∷ after) (print_indent n (print_mark (codes "}") refl refl (print_line k))) (mark_no_else (codes "}") end after) in
      one_as (lines_as n tl (raw_laid-Block l b) ∙ braced_join (codes "{") (block_lines (map raw_laid b) (suc n)) (codes "}") n tl)
      (record {
        tokens = mark (codes "{") line ∷ y.tokens;
        lexed = print_indent n (print_mark (codes "{") refl refl (print_line y.lexed));
        found = s.Block line y.found;
        is = IsStatement.block y.is;
        clear = braces_clear y.clear;
        same = settled-Block line y.found ∙ ap (s.Block 0) y.same ∙ sym (settled-Block l b);
        no_else = mark_no_else (codes "{") line y.tokens;
      });
}

return_whole : {p : Position} (l : ℕ) (a : Option RawExpr) → takes_return p ≡ true → option_map_or is_expr a true ≡ true → Whole p (s.Return l a)
return_whole l None ends h = record {
  next = λ line. line + 1;
  text = λ n line tl after k safe.
      one_as (lines_as n tl (raw_laid-Return l None) ∙ line_join n (codes "return;") tl)
      (record {
        tokens = name (codes "return") line ∷ mark (codes ";") line ∷ after;
        lexed = print_indent n (print_name (codes "return") (word_form (codes "return") refl) (λ b. refl) (print_mark (codes ";") refl refl (print_line k)));
        found = s.Return line None;
        is = IsStatement.returns;
        clear = return_clear ends;
        same = settled-Return line None ∙ sym (settled-Return l None);
        no_else = name_no_else (codes "return") line (mark (codes ";") line ∷ after) refl;
      });
}
return_whole l (Some a) ends h = record {
  next = λ line. line + 1;
  text = λ n line tl after k safe.
      let p = expr_text a conditional_level h line (59 ∷ 10 ∷ tl) (mark (codes ";") line ∷ after) (λ b. refl) (print_mark (codes ";") refl refl (print_line k)) in
      one_as (lines_as n tl (raw_laid-Return l (Some a)) ∙ return_join n (spaced_words a) tl)
      (record {
        tokens = name (codes "return") line ∷ p.tokens;
        lexed = print_indent n (print_word (codes "return") refl (p.lexed Token));
        found = s.Return line (Some a);
        is = IsStatement.returns_value p.is;
        clear = return_value_clear ends p.is;
        same = settled-Return line (Some a) ∙ sym (settled-Return l (Some a));
        no_else = name_no_else (codes "return") line p.tokens refl;
      });
}

-- ---- the recursion

abbrev Given : RawStatement → Type 0
Given x = (p : Position) → stands x p ≡ true → declarations_pass is_short x ≡ true → Formed p x

abbrev ArmGiven : RawArm → Type 0
ArmGiven a = is_arm a ≡ true → arm_passes is_short a ≡ true → (arms : List RawArm) → Arms arms → Arms (a ∷ arms)

abbrev bare : List ((x : RawStatement) × Given x) → List RawStatement
bare = map (λ (x : (y : RawStatement) × Given y). x.0)

abbrev bare_arms : List ((a : RawArm) × ArmGiven a) → List RawArm
bare_arms = map (λ (a : (b : RawArm) × ArmGiven b). a.0)

list_given : (xs : List ((x : RawStatement) × Given x)) → are_inner (bare xs) ≡ true → list_passes is_short (bare xs) ≡ true → Lines ClearInside (bare xs)
list_given [] h short = no_lines ClearInside nothing_more
list_given (x ∷ xs) h short =
    let p = and_parts (stands x.0 inner) (are_inner (bare xs)) h in
    let q = and_parts (declarations_pass is_short x.0) (list_passes is_short (bare xs)) short in
    one_before in_list (x.1 inner p.0 q.0) (list_given xs p.1 q.1)

arms_given : (xs : List ((a : RawArm) × ArmGiven a)) → all_true (map is_arm (bare_arms xs)) ≡ true → all_true (map (arm_passes is_short) (bare_arms xs)) ≡ true → Arms (bare_arms xs)
arms_given [] h short = no_arms
arms_given (a ∷ arms) h short =
    let p = and_parts (is_arm a.0) (all_true (map is_arm (bare_arms arms))) h in
    let q = and_parts (arm_passes is_short a.0) (all_true (map (arm_passes is_short) (bare_arms arms))) short in
    a.1 p.0 q.0 (bare_arms arms) (arms_given arms p.1 q.1)

abbrev shape : StatementParts Given ArmGiven → RawStatement-F RawStatement RawArm
shape = statement_layer Given ArmGiven

return_there : (p : Position) → takes_return p ≡ true → takes_compound p ≡ true
return_there inner h = refl
return_there final h = refl
return_there first h = false_true h
return_there step h = false_true h

call_formed : (p : Position) (l : ℕ) (to : RawTarget) (f : Bytes) (args : List RawArg) → is_target p to ≡ true → is_call f args ≡ true → Formed p (s.Call l to f args)
call_formed p l target.None f args h k = simple (λ n. plain_lines n (raw_laid-Call l target.None f args)) (call_alone l f args k)
call_formed p l (target.Place a) f args h k = simple (λ n. plain_lines n (raw_laid-Call l (target.Place a) f args)) (store_call_text l a f args h k)
call_formed p l (target.Declared v) f args h k =
    let q = and_parts (takes_declaration p) (is_declared v sized) h in
    declared q.0 (λ n. plain_lines n (raw_laid-Call l (target.Declared v) f args)) (declare_call_text l v f args q.1 k)

heap_formed : (p : Position) (l : ℕ) (to : RawTarget) (c : Option RawTypeName) (m : RawAmount) → is_target p to ≡ true → is_stored to ≡ true → is_heap c m ≡ true → Formed p (s.Heap l to c m)
heap_formed p l target.None c m h j k = false_true j
heap_formed p l (target.Place a) c m h j k = simple (λ n. plain_lines n (raw_laid-Heap l (target.Place a) c m)) (store_heap_text l a c m h k)
heap_formed p l (target.Declared v) c m h j k =
    let q = and_parts (takes_declaration p) (is_declared v sized) h in
    declared q.0 (λ n. plain_lines n (raw_laid-Heap l (target.Declared v) c m)) (declare_heap_text l v c m q.1 k)

-- the test of declarations at a form, that it is made of
abbrev Short : RawStatement → Type 0
Short x = declarations_pass is_short x ≡ true

formed_as : {p : Position} {a b : RawStatement} → a ≡ b → (Short b → Formed p b) → Short a → Formed p a
formed_as {p} is x = subst (λ (z : RawStatement). Short z → Formed p z) (sym is) x

of_layer : (y : StatementParts Given ArmGiven) (p : Position) → stands_step (standing (shape y)) p ≡ true → Short (roll-RawStatement (shape y)) → Formed p (roll-RawStatement (shape y))
of_layer (RawStatement-F.Declare l v i) p h =
    let q = and_parts (takes_declaration p) _ h in
    formed_as (s.rolls-Declare l v i) (λ short. declared q.0 (λ n. plain_lines n (raw_laid-Declare l v i)) (declare_text l v i q.1 (sym (pass-Declare is_short l v i) ∙ short)))
of_layer (RawStatement-F.Assign l a op b) p h = formed_as (s.rolls-Assign l a op b) (λ short. simple (λ n. plain_lines n (raw_laid-Assign l a op b)) (assign_text l a op b h))
of_layer (RawStatement-F.Bump l a up before) p h = formed_as (s.rolls-Bump l a up before) (λ short. simple (λ n. plain_lines n (raw_laid-Bump l a up before)) (bump_text l a up before h))
of_layer (RawStatement-F.Call l to f args) p h =
    let q = and_parts (is_target p to) (is_call f args) h in
    formed_as (s.rolls-Call l to f args) (λ short. call_formed p l to f args q.0 q.1)
of_layer (RawStatement-F.Heap l to c m) p h =
    let q = and_parts (is_target p to) _ h in
    let i = and_parts (is_stored to) (is_heap c m) q.1 in
    formed_as (s.rolls-Heap l to c m) (λ short. heap_formed p l to c m q.0 i.0 i.1)
of_layer (RawStatement-F.If l a b c) p h =
    let q = and_parts (takes_compound p) _ h in
    let i = and_parts (is_expr a) _ q.1 in
    let k = and_parts (are_inner (bare b)) (are_inner (bare c)) i.1 in
    formed_as (s.rolls-If l a (bare b) (bare c)) (λ short.
    let e = and_parts (list_passes is_short (bare b)) (list_passes is_short (bare c)) (sym (pass-If is_short l a (bare b) (bare c)) ∙ short) in
    whole q.0 (if_whole l a (bare c) i.0 (list_given b k.0 e.0) (list_given c k.1 e.1)))
of_layer (RawStatement-F.While l a b) p h =
    let q = and_parts (takes_compound p) _ h in
    let i = and_parts (is_expr a) _ q.1 in
    formed_as (s.rolls-While l a (bare b)) (λ short. whole q.0 (while_whole l a i.0 (list_given b i.1 (sym (pass-While is_short l a (bare b)) ∙ short))))
of_layer (RawStatement-F.Do l a b) p h =
    let q = and_parts (takes_compound p) _ h in
    let i = and_parts (is_expr a) _ q.1 in
    formed_as (s.rolls-Do l a (bare b)) (λ short. whole q.0 (do_whole l a i.0 (list_given b i.1 (sym (pass-Do is_short l a (bare b)) ∙ short))))
of_layer (RawStatement-F.For l None a None b) p h =
    let q = and_parts (takes_compound p) _ h in
    let i = and_parts (is_expr a) _ q.1 in
    formed_as (s.rolls-For l None a None (bare b)) (λ short. whole q.0 (for_whole l a i.0 no_init no_turn (list_given b i.1 (sym (pass-For is_short l None a None (bare b)) ∙ short))))
of_layer (RawStatement-F.For l None a (Some k) b) p h =
    let q = and_parts (takes_compound p) _ h in
    let i = and_parts (is_expr a) _ q.1 in
    let j = and_parts (stands k.0 step) _ i.1 in
    formed_as (s.rolls-For l None a (Some k.0) (bare b)) (λ short.
    let e = and_parts (part_passes is_short (Some k.0)) (list_passes is_short (bare b)) (sym (pass-For is_short l None a (Some k.0) (bare b)) ∙ short) in
    whole q.0 (for_whole l a i.0 no_init (turn (k.1 step j.0 e.0)) (list_given b j.1 e.1)))
of_layer (RawStatement-F.For l (Some x) a None b) p h =
    let q = and_parts (takes_compound p) _ h in
    let g = and_parts (stands x.0 first) _ q.1 in
    let i = and_parts (is_expr a) _ g.1 in
    formed_as (s.rolls-For l (Some x.0) a None (bare b)) (λ short.
    let e = and_parts (part_passes is_short (Some x.0)) (list_passes is_short (bare b)) (sym (pass-For is_short l (Some x.0) a None (bare b)) ∙ short) in
    whole q.0 (for_whole l a i.0 (init (x.1 first g.0 e.0)) no_turn (list_given b i.1 e.1)))
of_layer (RawStatement-F.For l (Some x) a (Some k) b) p h =
    let q = and_parts (takes_compound p) _ h in
    let g = and_parts (stands x.0 first) _ q.1 in
    let i = and_parts (is_expr a) _ g.1 in
    let j = and_parts (stands k.0 step) _ i.1 in
    formed_as (s.rolls-For l (Some x.0) a (Some k.0) (bare b)) (λ short.
    let e = and_parts (part_passes is_short (Some x.0)) _ (sym (pass-For is_short l (Some x.0) a (Some k.0) (bare b)) ∙ short) in
    let d = and_parts (part_passes is_short (Some k.0)) (list_passes is_short (bare b)) e.1 in
    whole q.0 (for_whole l a i.0 (init (x.1 first g.0 e.0)) (turn (k.1 step j.0 d.0)) (list_given b j.1 d.1)))
of_layer (RawStatement-F.Switch l a arms) p h =
    let q = and_parts (takes_compound p) _ h in
    let i = and_parts (is_expr a) _ q.1 in
    formed_as (s.rolls-Switch l a (bare_arms arms)) (λ short. whole q.0 (switch_whole l a i.0 (arms_given arms i.1 (sym (pass-Switch is_short l a (bare_arms arms)) ∙ short))))
of_layer (RawStatement-F.Block l b) p h =
    let q = and_parts (takes_compound p) _ h in
    formed_as (s.rolls-Block l (bare b)) (λ short. whole q.0 (block_whole l (list_given b q.1 (sym (pass-Block is_short l (bare b)) ∙ short))))
of_layer (RawStatement-F.Return l a) p h =
    let q = and_parts (takes_return p) _ h in
    formed_as (s.rolls-Return l a) (λ short. whole (return_there p q.0) (return_whole l a q.0 q.1))

of_arm : (y : ArmParts Given ArmGiven) → ArmGiven (roll-RawArm (arm_layer Given ArmGiven y))
of_arm y h short arms all =
    let e = sym (fold-roll-RawArm (Position → Bool) Bool stands_step arm_step (arm_layer Given ArmGiven y)) ∙ h in
    let p = and_parts (is_there y.labels) _ e in
    let q = and_parts (list_all is_label y.labels) _ p.1 in
    arm_before y.labels p.0 q.0 (list_given y.body q.1 (sym (pass-arm is_short y.labels (bare y.body)) ∙ short)) all

-- a statement that is syntax, where its lists are short
statement_text : (x : RawStatement) → Given x
statement_text = of_every_statement Given ArmGiven
    (λ y p h short. of_layer y p (ap (λ (f : Position → Bool). f p) (sym (fold-roll-RawStatement (Position → Bool) Bool stands_step arm_step (shape y))) ∙ h) short) of_arm

-- and the body of a function
pub body_text : (xs : List RawStatement) → is_body xs ≡ true → list_passes is_short xs ≡ true → Lines ClearBody xs
body_text [] h short = no_lines ClearBody body_done
body_text (x ∷ []) h short = one_before at_end (statement_text x final h (and_parts (declarations_pass is_short x) true short).0) (no_lines Same (λ ts. refl))
body_text (x ∷ (y ∷ ys)) h short =
    let p = and_parts (stands x inner) (is_body (y ∷ ys)) h in
    let q = and_parts (declarations_pass is_short x) (list_passes is_short (y ∷ ys)) short in
    one_before in_body (statement_text x inner p.0 q.0) (body_text (y ∷ ys) p.1 q.1)
