-- Each statement of the grammar is read, and each that nests too deep is refused for that.
use Rattle.std.proofs.Common.{◌≡◌, ℕ, zero, suc, ◌+◌, ◌≤◌, ◌<◌, max, List, [], ◌∷◌, ◌++◌, append_assoc, append-nil, map, length, refl, sym, ap, arith, true, false, Bool, Option, Some, None, codes}
use Rattle.std.proofs.lemmas.Bool.{and_parts, or_right}
use Rattle.c_language.proofs.Keywords.{no_keyword}
use Rattle.c_tree.specs.declared.raw.expr.RawExpr.{RawExpr}
use Rattle.c_tree.specs.declared.raw.expr.RawType.{RawType}
use Rattle.c_tree.specs.declared.raw.statement.RawArg.{RawArg}
use Rattle.c_tree.specs.declared.raw.statement.RawLabel.{RawLabel}
use Rattle.c_tree.specs.declared.raw.statement.RawLabel.TheVariants.{Case, Default}
use Rattle.c_tree.specs.declared.raw.statement.RawArm.{RawArm}
use Rattle.c_tree.specs.declared.raw.statement.RawStatement.{RawStatement}
use Rattle.c_tree.specs.declared.raw.statement.RawStatement.TheVariants as s
use Rattle.c_language.specs.Words.{Bytes, bump_sign}
use Rattle.c_language.specs.TokenForms.{Tokens, name, mark, line_of}
use Rattle.c_language.specs.Sees.{sees, is_keyword, is_kind}
use Rattle.c_language.specs.IntWords.{sees_int_word, is_int_word}
use Rattle.c_language.specs.ExprGrammar.{IsExpr}
use Rattle.c_language.specs.TypeGrammar.{IsBase, structure, integer}
use Rattle.c_language.specs.Nesting.{nesting}
use Rattle.c_language.specs.StatementGrammar.{IsSeparated, IsCall, IsSimple, AreDeclared, IsDeclaration, declaration, IsInit, IsStep, IsLabel, AreLabels, IsTest, test, arm, IsStatement, AreStatements, IsBody, IsElse, AreArms}
use Rattle.c_language.specs.StatementNesting.{label_nesting, statement_nesting, body_nesting}
use Rattle.c_language.specs.declared.token.TokenKind.TheVariants.{Name, Mark}
use Rattle.c_language.specs.declared.operators.Prefix.TheVariants.{Sign, Deref, AddressOf}
use Rattle.c_arith.specs.declared.operators.UnaryOp.TheVariants.{Plus, Minus, Flip, Not}
use Rattle.c_language.proofs.StatementNestingLemmas.{nesting-If, nesting-While, nesting-Do, part_nesting, nesting-For, nesting-Switch, nesting-Block, nesting-Return, nesting-arm, arms_nesting}
use Rattle.c_parse_expr.specs.Outcome.{Outcome, Parser, expect}
use Rattle.c_parse_expr.specs.TypeReading.{begins_type}
use Rattle.c_parse_statements.specs.StatementReading as r
use Rattle.c_parse_simple.specs.SimpleReading as reading
use Rattle.c_parse_simple.specs.SimpleReading.{word, nested_simple, nested_declared, nested_declaration}
use Rattle.c_parse_statements.specs.StatementReading.{condition, for_declared, for_simple, for_init, for_step, sees_label, label, labels_from, labels, is_at_end, simple_statement, returned, listed, statements_from, statements, braced, body, alternative, arm_end, arm_of, arms_from, statement_with, nested_statement}
use Rattle.c_parse_words.proofs.SeenTokens.{apart_by, of_kind_is}
use Rattle.c_parse_expr.proofs.IntLaws.{int_type_begins}
use Rattle.c_parse_expr.proofs.ExprLaws.{Exact, expression_exact, nested_exact, shorter}
use Rattle.c_parse_simple.proofs.Exact.{done, at_depth, same_read, same_tree, seq, after, guarded, greatest_above, greatest_append}
use Rattle.c_parse_simple.proofs.Begins.{Starts, with_token, starts, starts_no_word, starts_no_mark, starts_no_type}
use Rattle.c_parse_simple.proofs.Begins as begin
use Rattle.c_parse_expr.proofs.TypeLaws.{base_read, base_flat, base_shorter}
use Rattle.c_parse_simple.proofs.CallLaws.{close_ends, semicolon_ends, colon_ends, base_no_mark}
use Rattle.c_parse_simple.proofs.SimpleLaws.{at_semicolon, at_close, callee_parts, simple_exact, simple_shorter, declared_exact, declared_shorter, declaration_exact, declaration_shorter}
use Rattle.c_language.specs.Lists.{greatest}

-- ---- how statements begin

-- what the tests of a parser say where a statement or a simple statement begins
pub record Begins (ts : Tokens) : Type 0 where
  pub no_semicolon : sees Mark (codes ";") ts ≡ false
  pub no_type : begins_type ts ≡ false
  pub goes_on : is_at_end ts ≡ false
  pub no_label : sees_label ts ≡ false

pub record BeginsSimple (ts : Tokens) : Type 0 where
  pub no_word : (text : Bytes) → is_keyword text ≡ true → sees Name text ts ≡ false
  pub no_brace : sees Mark (codes "{") ts ≡ false
  pub no_close : sees Mark (codes ")") ts ≡ false
  pub begins : Begins ts

starts_not_at_end : {ts : Tokens} → Starts ts → is_at_end ts ≡ false
unfolding is_at_end is_keyword
starts_not_at_end (with_token begin.digits) = refl
starts_not_at_end (with_token begin.letter) = refl
starts_not_at_end (with_token (begin.word {text} h)) = rw (no_keyword text (codes "break") h refl, no_keyword text (codes "case") h refl, no_keyword text (codes "default") h refl) refl
starts_not_at_end (with_token begin.parenthesis) = refl
starts_not_at_end (with_token (begin.operator (Sign Plus))) = refl
starts_not_at_end (with_token (begin.operator (Sign Minus))) = refl
starts_not_at_end (with_token (begin.operator (Sign Flip))) = refl
starts_not_at_end (with_token (begin.operator (Sign Not))) = refl
starts_not_at_end (with_token (begin.operator Deref)) = refl
starts_not_at_end (with_token (begin.operator AddressOf)) = refl

from_start : {ts : Tokens} → Starts ts → BeginsSimple ts
unfolding sees_label is_keyword
from_start s = record {
  no_word = starts_no_word s;
  no_brace = starts_no_mark s (codes "{") refl;
  no_close = starts_no_mark s (codes ")") refl;
  begins = record {
    no_semicolon = starts_no_mark s (codes ";") refl;
    no_type = starts_no_type s;
    goes_on = starts_not_at_end s;
    no_label = rw (starts_no_word s (codes "case") refl, starts_no_word s (codes "default") refl) refl;
  };
}

from_bump : (up : Bool) (l : ℕ) (ts : Tokens) → BeginsSimple (mark (bump_sign up) l ∷ ts)
unfolding sees sees_label begins_type sees_int_word is_at_end
from_bump true l ts = record { no_word = λ text k. refl; no_brace = refl; no_close = refl; begins = record { no_semicolon = refl; no_type = refl; goes_on = refl; no_label = refl } }
from_bump false l ts = record { no_word = λ text k. refl; no_brace = refl; no_close = refl; begins = record { no_semicolon = refl; no_type = refl; goes_on = refl; no_label = refl } }

from_call : {ts rest : Tokens} {w : Bytes} {all : List RawArg} → IsCall ts w all rest → BeginsSimple ts
from_call (IsCall.bare {w} callee) = from_start (with_token (begin.word (callee_parts w callee).0))
from_call (IsCall.with_args {w} callee h) = from_start (with_token (begin.word (callee_parts w callee).0))

pub simple_begins : {ts rest : Tokens} {a : RawStatement} → IsSimple ts a rest → BeginsSimple ts
simple_begins (IsSimple.assign op can h p k) = from_start (starts h)
simple_begins (IsSimple.store_call h p k) = from_start (starts h)
simple_begins (IsSimple.store_heap h p k) = from_start (starts h)
simple_begins (IsSimple.bump_after up h p) = from_start (starts h)
simple_begins (IsSimple.bump_before {l} {ts} up h p) = from_bump up l ts
simple_begins (IsSimple.call h) = from_call h

pub begins : {ts rest : Tokens} {a : RawStatement} → IsStatement ts a rest → Begins ts
unfolding sees sees_label begins_type sees_int_word is_at_end
begins (IsStatement.simple h) = (simple_begins h).begins
begins IsStatement.returns = record { no_semicolon = refl; no_type = refl; goes_on = refl; no_label = refl }
begins (IsStatement.returns_value h) = record { no_semicolon = refl; no_type = refl; goes_on = refl; no_label = refl }
begins (IsStatement.block h) = record { no_semicolon = refl; no_type = refl; goes_on = refl; no_label = refl }
begins (IsStatement.conditional h k j) = record { no_semicolon = refl; no_type = refl; goes_on = refl; no_label = refl }
begins (IsStatement.while_loop h k) = record { no_semicolon = refl; no_type = refl; goes_on = refl; no_label = refl }
begins (IsStatement.do_loop h k) = record { no_semicolon = refl; no_type = refl; goes_on = refl; no_label = refl }
begins (IsStatement.for_loop h k j i) = record { no_semicolon = refl; no_type = refl; goes_on = refl; no_label = refl }
begins (IsStatement.switch h k) = record { no_semicolon = refl; no_type = refl; goes_on = refl; no_label = refl }

int_word_at : (w : Bytes) (l : ℕ) (ts : Tokens) → is_int_word w ≡ true → (is_at_end (name w l ∷ ts) ≡ false) × (sees_label (name w l ∷ ts) ≡ false)
unfolding is_at_end sees_label sees
int_word_at w l ts h =
    let case = apart_by is_int_word w (codes "case") h refl in
    let default = apart_by is_int_word w (codes "default") h refl in
    (rw (apart_by is_int_word w (codes "break") h refl, case, default) refl, rw (case, default) refl)

pub int_word_is : {G : Type 0} (ts : Tokens) → sees_int_word ts ≡ true → ((w : Bytes) (l : ℕ) (rest : Tokens) → is_int_word w ≡ true → ts ≡ name w l ∷ rest → G) → G
unfolding sees_int_word
int_word_is [] h go = absurd cc
int_word_is (t ∷ ts) h go = let p = and_parts (is_kind Name t) (is_int_word t.text) h in go t.text t.line ts p.1 (ap (λ u. u ∷ ts) (sym (of_kind_is Name t p.0)))

int_word_goes_on : (ts : Tokens) → sees_int_word ts ≡ true → (is_at_end ts ≡ false) × (sees_label ts ≡ false)
int_word_goes_on ts h = int_word_is ts h (λ w l rest is at. rw at (int_word_at w l rest is))

-- what they say where a declaration begins
pub record BeginsDeclaration (ts : Tokens) : Type 0 where
  pub no_semicolon : sees Mark (codes ";") ts ≡ false
  pub type : begins_type ts ≡ true
  pub goes_on : is_at_end ts ≡ false
  pub no_label : sees_label ts ≡ false

pub base_begins : {ts rest : Tokens} {a : RawType} → IsBase ts a rest → BeginsDeclaration ts
unfolding sees sees_label begins_type is_at_end
base_begins (structure free) = record { no_semicolon = refl; type = refl; goes_on = refl; no_label = refl }
base_begins {ts} (integer h) =
    let e = int_word_goes_on ts (int_type_begins h) in
    record { no_semicolon = base_no_mark (codes ";") (integer h); type = rw (int_type_begins h) (or_right _ true refl); goes_on = e.0; no_label = e.1 }

pub declaration_begins : {ts rest : Tokens} {all : List RawStatement} → IsDeclaration ts all rest → BeginsDeclaration ts
declaration_begins (declaration h k) = base_begins h

-- statements before a place where no label stands begin with none
begin_unlabelled : {ts rest : Tokens} {all : List RawStatement} → AreStatements ts all rest → sees_label rest ≡ false → sees_label ts ≡ false
unfolding sees_label sees
begin_unlabelled AreStatements.done p = p
begin_unlabelled (AreStatements.empty h) p = refl
begin_unlabelled (AreStatements.declared h k) p = (declaration_begins h).no_label
begin_unlabelled (AreStatements.more h k) p = (begins h).no_label

-- ---- a statement has tokens

pub test_shorter : {ts rest : Tokens} {a : RawExpr} → IsTest ts a rest → length rest < length ts
test_shorter (test h) = omega (arith, shorter h)

pub init_shorter : {ts rest : Tokens} {a : Option RawStatement} → IsInit ts a rest → length rest < length ts
init_shorter IsInit.nothing = omega arith
init_shorter (IsInit.simple h) = let x = simple_shorter h in omega (arith, x)
init_shorter (IsInit.declared h k) = let x = base_shorter h in let y = declared_shorter k in omega (arith, x, y)

pub step_shorter : {ts rest : Tokens} {a : Option RawStatement} → IsStep ts a rest → length rest < length ts
step_shorter IsStep.nothing = omega arith
step_shorter (IsStep.simple h) = let x = simple_shorter h in omega (arith, x)

pub label_shorter : {ts rest : Tokens} {a : RawLabel} → IsLabel ts a rest → length rest < length ts
label_shorter (IsLabel.case h) = omega (arith, shorter h)
label_shorter IsLabel.default = omega arith

pub labels_shorter : {ts rest : Tokens} {all : List RawLabel} → AreLabels ts all rest → length rest < length ts
labels_shorter (AreLabels.last h) = label_shorter h
labels_shorter (AreLabels.more h k) = let x = label_shorter h in omega (arith, x, labels_shorter k)

mutual
  pub statement_shorter : {ts rest : Tokens} {a : RawStatement} → IsStatement ts a rest → length rest < length ts
  statement_shorter (IsStatement.simple h) = let x = simple_shorter h in omega (arith, x)
  statement_shorter IsStatement.returns = omega arith
  statement_shorter (IsStatement.returns_value h) = omega (arith, shorter h)
  statement_shorter (IsStatement.block h) = omega (arith, statements_shorter h)
  statement_shorter (IsStatement.conditional h k j) = let x = test_shorter h in omega (arith, x, body_shorter k, else_shorter j)
  statement_shorter (IsStatement.while_loop h k) = let x = test_shorter h in omega (arith, x, body_shorter k)
  statement_shorter (IsStatement.do_loop h k) = let x = test_shorter k in omega (arith, x, body_shorter h)
  statement_shorter (IsStatement.for_loop h k j i) = let x = init_shorter h in let y = step_shorter j in omega (arith, x, shorter k, y, body_shorter i)
  statement_shorter (IsStatement.switch h k) = let x = test_shorter h in omega (arith, x, arms_shorter k)

  pub statements_shorter : {ts rest : Tokens} {all : List RawStatement} → AreStatements ts all rest → length rest ≤ length ts
  statements_shorter AreStatements.done = omega arith
  statements_shorter (AreStatements.empty h) = omega (arith, statements_shorter h)
  statements_shorter (AreStatements.declared h k) = let x = declaration_shorter h in omega (arith, x, statements_shorter k)
  statements_shorter (AreStatements.more h k) = omega (arith, statement_shorter h, statements_shorter k)

  pub body_shorter : {ts rest : Tokens} {all : List RawStatement} → IsBody ts all rest → length rest < length ts
  body_shorter (IsBody.braces h) = omega (arith, statements_shorter h)
  body_shorter IsBody.nothing = omega arith
  body_shorter (IsBody.single p h) = statement_shorter h

  pub else_shorter : {ts rest : Tokens} {all : List RawStatement} → IsElse ts all rest → length rest ≤ length ts
  else_shorter (IsElse.otherwise h) = omega (arith, body_shorter h)
  else_shorter (IsElse.without p) = omega arith

  pub arms_shorter : {ts rest : Tokens} {all : List RawArm} → AreArms ts all rest → length rest < length ts
  arms_shorter AreArms.none = omega arith
  arms_shorter (AreArms.broken h k j) = let x = labels_shorter h in omega (arith, x, statements_shorter k, arms_shorter j)
  arms_shorter (AreArms.unbroken h p k) = let x = labels_shorter h in omega (arith, x, statements_shorter k)

-- ---- parts of statements

condition_exact : {ts rest : Tokens} {a : RawExpr} → IsTest ts a rest → (d : ℕ) → Exact d (1 + nesting a) (condition d ts) a rest
unfolding condition expect sees
condition_exact (test {m} {rest} h) d = at_depth (omega arith) (seq _ (nested_exact h (close_ends m rest) d) done)

nested_simple_exact : {rest : Tokens} {a : RawStatement} (ts : Tokens) → ((d : ℕ) → Exact d (statement_nesting a) (reading.simple d ts) a rest) → (d : ℕ) → Exact d (1 + statement_nesting a) (nested_simple d ts) a rest
unfolding nested_simple
nested_simple_exact ts f zero = record { fits = λ p. absurd (omega (arith, p)); deep = λ p. refl }
nested_simple_exact ts f (suc d) = record { fits = λ p. (f d).fits (omega (arith, p)); deep = λ p. (f d).deep (omega (arith, p)) }

nested_declared_exact : {rest : Tokens} {a : RawStatement} (line : ℕ) (b : RawType) (ts : Tokens) → ((d : ℕ) → Exact d (statement_nesting a) (reading.declared d line b ts) a rest)
    → (d : ℕ) → Exact d (1 + statement_nesting a) (nested_declared d line b ts) a rest
unfolding nested_declared
nested_declared_exact line b ts f zero = record { fits = λ p. absurd (omega (arith, p)); deep = λ p. refl }
nested_declared_exact line b ts f (suc d) = record { fits = λ p. (f d).fits (omega (arith, p)); deep = λ p. (f d).deep (omega (arith, p)) }

nested_declaration_exact : {ts rest : Tokens} {all : List RawStatement} → IsDeclaration ts all rest → (d : ℕ) → Exact d (1 + body_nesting all) (nested_declaration d ts) all rest
unfolding nested_declaration
nested_declaration_exact h zero = record { fits = λ p. absurd (omega (arith, p)); deep = λ p. refl }
nested_declaration_exact h (suc d) = let x = declaration_exact h d in record { fits = λ p. x.fits (omega (arith, p)); deep = λ p. x.deep (omega (arith, p)) }

-- how deep a part of a for stands under it
abbrev pub part_depth : Option RawStatement → ℕ
part_depth None = 0
part_depth (Some a) = 1 + statement_nesting a

pub part_under : (a : Option RawStatement) → (part_depth a ≤ 1 + part_nesting a) × (1 + part_nesting a ≤ max 1 (part_depth a))
part_under None = (omega arith, omega arith)
part_under (Some a) = (omega arith, omega arith)

for_init_exact : {ts rest : Tokens} {a : Option RawStatement} → IsInit ts a rest → (d : ℕ) → Exact d (part_depth a) (for_init d ts) a rest
unfolding for_init for_simple for_declared expect sees
for_init_exact IsInit.nothing d = done
for_init_exact (IsInit.simple {l} {rest} h) d =
    let b = (simple_begins h).begins in
    rw (b.no_semicolon, b.no_type) (at_depth (omega arith) (seq _ (nested_simple_exact _ (λ k. simple_exact h (at_semicolon l rest) k) d) done))
for_init_exact (IsInit.declared {l} {ts} {rest} h k) d =
    let b = base_begins h in
    rw (b.no_semicolon, b.type) (after _ (base_read h) (at_depth (omega arith) (seq _ (nested_declared_exact (line_of ts) _ _ (λ j. declared_exact k (base_flat h) (at_semicolon l rest) j) d) done)))

for_step_exact : {ts rest : Tokens} {a : Option RawStatement} → IsStep ts a rest → (d : ℕ) → Exact d (part_depth a) (for_step d ts) a rest
unfolding for_step for_simple expect sees
for_step_exact IsStep.nothing d = done
for_step_exact (IsStep.simple {l} {rest} h) d =
    rw (simple_begins h).no_close (at_depth (omega arith) (seq _ (nested_simple_exact _ (λ k. simple_exact h (at_close l rest) k) d) done))

-- how deep a label stands under its switch
abbrev pub label_depth : RawLabel → ℕ
label_depth (Case a) = 1 + nesting a
label_depth Default = 0

label_under : (a : RawLabel) → (label_depth a ≤ 1 + label_nesting a) × (1 + label_nesting a ≤ max 1 (label_depth a))
label_under (Case a) = (omega arith, omega arith)
label_under Default = (omega arith, omega arith)

label_exact : {ts rest : Tokens} {a : RawLabel} → IsLabel ts a rest → (d : ℕ) → Exact d (label_depth a) (label d ts) a rest
unfolding label word expect sees
label_exact (IsLabel.case {m} {rest} h) d = at_depth (omega arith) (seq _ (nested_exact h (colon_ends m rest) d) done)
label_exact IsLabel.default d = done

label_seen : {ts rest : Tokens} {a : RawLabel} → IsLabel ts a rest → (sees_label ts ≡ true) × (sees Mark (codes "}") ts ≡ false)
unfolding sees_label sees
label_seen (IsLabel.case h) = (refl, refl)
label_seen IsLabel.default = (refl, refl)

labels_seen : {ts rest : Tokens} {all : List RawLabel} → AreLabels ts all rest → (sees_label ts ≡ true) × (sees Mark (codes "}") ts ≡ false)
labels_seen (AreLabels.last h) = label_seen h
labels_seen (AreLabels.more h k) = label_seen h

labels_from_exact : {ts rest : Tokens} {all : List RawLabel} → AreLabels ts all rest → sees_label rest ≡ false → (d turns : ℕ) (found : List RawLabel) → length ts ≤ turns
    → Exact d (greatest (map label_depth all)) (labels_from d turns found ts) (found ++ all) rest
unfolding labels_from
labels_from_exact (AreLabels.last h) q d zero found p = absurd (let x = label_shorter h in omega (arith, p, x))
labels_from_exact (AreLabels.last h) q d (suc turns) found p = seq {n = 0} _ (label_exact h d) (rw q done)
labels_from_exact (AreLabels.more h k) q d zero found p = absurd (let x = label_shorter h in omega (arith, p, x))
labels_from_exact (AreLabels.more {a} {all} h k) q d (suc turns) found p =
    let short = label_shorter h in
    seq {n = greatest (map label_depth all)} _ (label_exact h d) (rw (labels_seen k).0 (same_tree (append_assoc found (a ∷ []) all) (labels_from_exact k q d turns (found ++ a ∷ []) (omega (arith, p, short)))))

simple_statement_exact : {l : ℕ} {ts rest : Tokens} {a : RawStatement} → IsSimple ts a (mark (codes ";") l ∷ rest) → (d : ℕ) → Exact d (statement_nesting a) (simple_statement d ts) a rest
unfolding simple_statement expect sees
simple_statement_exact {l} {rest} h d = at_depth (omega arith) (seq _ (simple_exact h (at_semicolon l rest) d) done)

returned_exact : {m : ℕ} {ts rest : Tokens} {a : RawExpr} → IsExpr 1 ts a (mark (codes ";") m ∷ rest) → (d line : ℕ) → Exact d (nesting a) (returned d line ts) (s.Return line (Some a)) rest
unfolding returned expect sees
returned_exact {m} {rest} h d line = rw (starts_no_mark (starts h) (codes ";") refl) (at_depth (omega arith) (seq _ (expression_exact h (semicolon_ends m rest) d) done))

-- ---- statements

-- how deep the statements of a list stand under the node that holds it
abbrev pub statement_depth : RawStatement → ℕ
statement_depth a = 1 + statement_nesting a

abbrev pub depths : List RawStatement → ℕ
depths all = greatest (map statement_depth all)

pub depths_under : (all : List RawStatement) → (depths all ≤ 1 + body_nesting all) × (1 + body_nesting all ≤ max 1 (depths all))
depths_under all = greatest_above statement_depth statement_nesting (λ a. (omega arith, omega arith)) all

separated_depths : {line : ℕ} {b : RawType} {ts rest : Tokens} {all : List RawStatement} → AreDeclared line b ts all rest → depths all ≡ 1 + body_nesting all
separated_depths (IsSeparated.last h) = omega arith
separated_depths (IsSeparated.more h k) = let x = separated_depths k in omega (arith, x)

declaration_depths : {ts rest : Tokens} {all : List RawStatement} → IsDeclaration ts all rest → depths all ≡ 1 + body_nesting all
declaration_depths (declaration h k) = separated_depths k

nested_from : {m : ℕ} {rest : Tokens} {a : RawStatement} (ts : Tokens) → ((k : ℕ) → Exact k m (statement_with (nested_statement k) k ts) a rest) → (d : ℕ) → Exact d (1 + m) (nested_statement d ts) a rest
unfolding nested_statement
nested_from ts f zero = record { fits = λ p. absurd (omega (arith, p)); deep = λ p. refl }
nested_from ts f (suc d) = record { fits = λ p. (f d).fits (omega (arith, p)); deep = λ p. (f d).deep (omega (arith, p)) }

-- what is read of the arms of a switch, and how deep they stand under it
record ArmsExact (d : ℕ) (read : Outcome (List RawArm)) (arms all : List RawArm) (rest : Tokens) : Type 0 where
  depth : ℕ
  exact : Exact d depth read all rest
  above : depth ≤ 1 + arms_nesting arms
  below : 1 + arms_nesting arms ≤ max 1 depth

-- the steps on what has a tree, for any parser of nested statements
module _ (inner : Parser RawStatement) (d : ℕ) where
  statements_end : {ts : Tokens} (turns : ℕ) (found : List RawStatement) → is_at_end ts ≡ true → Exact d 0 (statements_from inner d turns found ts) (found ++ []) ts
  unfolding statements_from
  statements_end zero found h = same_tree (sym (append-nil found)) done
  statements_end (suc turns) found h = rw h (same_tree (sym (append-nil found)) done)

  statements_skip : {n : ℕ} {rest : Tokens} (l : ℕ) (ts : Tokens) (all : List RawStatement) (turns : ℕ) (found : List RawStatement) → Exact d n (statements_from inner d turns (found ++ []) ts) ((found ++ []) ++ all) rest
      → Exact d n (statements_from inner d (suc turns) found (mark (codes ";") l ∷ ts)) (found ++ all) rest
  unfolding statements_from is_at_end listed sees
  statements_skip l ts all turns found x = same_tree (ap (λ f. f ++ all) (append-nil found)) x

  statements_declare : {m n : ℕ} {ts mid rest : Tokens} {some : List RawStatement} (all : List RawStatement) (turns : ℕ) (found : List RawStatement) → BeginsDeclaration ts → Exact d m (nested_declaration d ts) some mid
      → Exact d n (statements_from inner d turns (found ++ some) mid) ((found ++ some) ++ all) rest → Exact d (max m n) (statements_from inner d (suc turns) found ts) (found ++ (some ++ all)) rest
  unfolding statements_from listed
  statements_declare {some} all turns found b x y = rw (b.goes_on, b.no_semicolon, b.type) (same_tree (append_assoc found some all) (seq _ x y))

  statements_take : {m n : ℕ} {ts mid rest : Tokens} {a : RawStatement} (all : List RawStatement) (turns : ℕ) (found : List RawStatement) → Begins ts → Exact d m (inner ts) a mid
      → Exact d n (statements_from inner d turns (found ++ a ∷ []) mid) ((found ++ a ∷ []) ++ all) rest → Exact d (max (max m 0) n) (statements_from inner d (suc turns) found ts) (found ++ (a ∷ all)) rest
  unfolding statements_from listed
  statements_take {a} all turns found b x y = rw (b.goes_on, b.no_semicolon, b.no_type) (same_tree (append_assoc found (a ∷ []) all) (seq _ (seq _ x done) y))

  braced_exact : {n m : ℕ} {rest : Tokens} {all : List RawStatement} (ts : Tokens) → Exact d n (statements inner d ts) all (mark (codes "}") m ∷ rest) → Exact d (max n 0) (braced inner d ts) all rest
  unfolding braced expect sees
  braced_exact ts x = seq _ x done

  body_braced : {n m : ℕ} {rest : Tokens} {all : List RawStatement} (l : ℕ) (ts : Tokens) → Exact d n (statements inner d ts) all (mark (codes "}") m ∷ rest) → Exact d (max n 0) (body inner d (mark (codes "{") l ∷ ts)) all rest
  unfolding body sees
  body_braced l ts x = braced_exact ts x

  body_nothing : (l : ℕ) (rest : Tokens) → Exact d 0 (body inner d (mark (codes ";") l ∷ rest)) [] rest
  unfolding body sees
  body_nothing l rest = done

  body_single : {n : ℕ} {rest : Tokens} {a : RawStatement} (ts : Tokens) → sees Mark (codes "{") ts ≡ false → sees Mark (codes ";") ts ≡ false → Exact d n (inner ts) a rest → Exact d (max n 0) (body inner d ts) (a ∷ []) rest
  unfolding body
  body_single ts p q x = rw (p, q) (seq _ x done)

  else_there : {n : ℕ} {rest : Tokens} {all : List RawStatement} (l : ℕ) (ts : Tokens) → Exact d n (body inner d ts) all rest → Exact d n (alternative inner d (name (codes "else") l ∷ ts)) all rest
  unfolding alternative sees
  else_there l ts x = x

  else_lacking : (ts : Tokens) → sees Name (codes "else") ts ≡ false → Exact d 0 (alternative inner d ts) [] ts
  unfolding alternative
  else_lacking ts h = rw h done

  if_exact : {n m : ℕ} {ts mid after rest : Tokens} {a : RawExpr} {all other : List RawStatement} (line : ℕ) → IsTest ts a mid → Exact d n (body inner d mid) all after → Exact d m (alternative inner d after) other rest
      → Exact d (max (1 + nesting a) (max n (max m 0))) (r.conditional inner d line ts) (s.If line a all other) rest
  unfolding r.conditional
  if_exact line h x y = seq _ (condition_exact h d) (seq _ x (seq _ y done))

  while_exact : {n : ℕ} {ts mid rest : Tokens} {a : RawExpr} {all : List RawStatement} (line : ℕ) → IsTest ts a mid → Exact d n (body inner d mid) all rest
      → Exact d (max (1 + nesting a) (max n 0)) (r.while_loop inner d line ts) (s.While line a all) rest
  unfolding r.while_loop
  while_exact line h x = seq _ (condition_exact h d) (seq _ x done)

  do_exact : {n m k : ℕ} {mid rest : Tokens} {a : RawExpr} {all : List RawStatement} (line : ℕ) (ts : Tokens) → Exact d n (body inner d ts) all (name (codes "while") m ∷ mid) → IsTest mid a (mark (codes ";") k ∷ rest)
      → Exact d (max n (max (1 + nesting a) 0)) (r.do_loop inner d line ts) (s.Do line a all) rest
  unfolding r.do_loop word expect sees
  do_exact line ts x h = seq _ x (seq _ (condition_exact h d) done)

  for_exact : {n k : ℕ} {ts mid next after rest : Tokens} {first step : Option RawStatement} {a : RawExpr} {all : List RawStatement} (line m : ℕ) → IsInit ts first mid → IsExpr 1 mid a (mark (codes ";") k ∷ next)
      → IsStep next step after → Exact d n (body inner d after) all rest
      → Exact d (max (part_depth first) (max (1 + nesting a) (max (part_depth step) (max n 0)))) (r.for_loop inner d line (mark (codes "(") m ∷ ts)) (s.For line first a step all) rest
  unfolding r.for_loop expect sees
  for_exact {k} {next} line m h j i x = seq _ (for_init_exact h d) (seq _ (nested_exact j (semicolon_ends k next) d) (seq _ (for_step_exact i d) (seq _ x done)))

  block_exact : {n m : ℕ} {rest : Tokens} {all : List RawStatement} (line : ℕ) (ts : Tokens) → Exact d n (statements inner d ts) all (mark (codes "}") m ∷ rest)
      → Exact d (max 1 (max (max n 0) 0)) (r.block inner d line ts) (s.Block line all) rest
  unfolding r.block
  block_exact line ts x = guarded d (seq _ (braced_exact ts x) done)

  switch_exact : {n m : ℕ} {ts mid rest : Tokens} {a : RawExpr} {arms : List RawArm} (line : ℕ) → IsTest ts a (mark (codes "{") m ∷ mid) → Exact d n (arms_from inner d (length mid) [] mid) arms rest
      → Exact d (max (1 + nesting a) (max n 0)) (r.switch inner d line ts) (s.Switch line a arms) rest
  unfolding r.switch expect sees
  switch_exact line h x = seq _ (condition_exact h d) (seq _ x done)

  -- ---- arms

  arm_broken : {n l m : ℕ} {ts mid after : Tokens} {marks : List RawLabel} {all : List RawStatement} → AreLabels ts marks mid → sees_label mid ≡ false
      → Exact d n (statements inner d mid) all (name (codes "break") l ∷ mark (codes ";") m ∷ after) → Exact d (max (greatest (map label_depth marks)) (max n 0)) (arm_of inner d ts) (arm marks all, true) after
  unfolding arm_of arm_end expect sees
  arm_broken {ts} h p x = seq _ (labels_from_exact h p d (length ts) [] (omega arith)) (seq _ x done)

  arm_unbroken : {n l : ℕ} {ts mid rest : Tokens} {marks : List RawLabel} {all : List RawStatement} → AreLabels ts marks mid → sees_label mid ≡ false → sees Mark (codes "}") mid ≡ false
      → Exact d n (statements inner d mid) all (mark (codes "}") l ∷ rest) → Exact d (max (greatest (map label_depth marks)) (max n 0)) (arm_of inner d ts) (arm marks all, false) rest
  unfolding arm_of arm_end expect sees
  arm_unbroken {ts} h p q x = seq {n = max _ 0} _ (labels_from_exact h p d (length ts) [] (omega arith)) (seq {n = 0} _ x (rw q done))

  arms_end : (l turns : ℕ) (found : List RawArm) (rest : Tokens) → Exact d 0 (arms_from inner d (suc turns) found (mark (codes "}") l ∷ rest)) (found ++ []) rest
  unfolding arms_from sees
  arms_end l turns found rest = same_tree (sym (append-nil found)) done

  arms_more : {n k : ℕ} {mid rest : Tokens} {a : RawArm} (ts : Tokens) (all : List RawArm) (turns : ℕ) (found : List RawArm) → sees Mark (codes "}") ts ≡ false → Exact d n (arm_of inner d ts) (a, true) mid
      → Exact d k (arms_from inner d turns (found ++ a ∷ []) mid) ((found ++ a ∷ []) ++ all) rest → Exact d (max n k) (arms_from inner d (suc turns) found ts) (found ++ (a ∷ all)) rest
  unfolding arms_from
  arms_more {a} ts all turns found p x y = rw p (same_tree (append_assoc found (a ∷ []) all) (seq _ x y))

  arms_last : {n : ℕ} {rest : Tokens} {a : RawArm} (ts : Tokens) (turns : ℕ) (found : List RawArm) → sees Mark (codes "}") ts ≡ false → Exact d n (arm_of inner d ts) (a, false) rest
      → Exact d (max n 0) (arms_from inner d (suc turns) found ts) (found ++ a ∷ []) rest
  unfolding arms_from
  arms_last ts turns found p x = rw p (seq _ x done)

  -- ---- which statement it is, by its first token

  if_begins : (l : ℕ) (ts : Tokens) → statement_with inner d (name (codes "if") l ∷ ts) ≡ r.conditional inner d l ts
  unfolding statement_with sees
  if_begins l ts = refl

  while_begins : (l : ℕ) (ts : Tokens) → statement_with inner d (name (codes "while") l ∷ ts) ≡ r.while_loop inner d l ts
  unfolding statement_with sees
  while_begins l ts = refl

  do_begins : (l : ℕ) (ts : Tokens) → statement_with inner d (name (codes "do") l ∷ ts) ≡ r.do_loop inner d l ts
  unfolding statement_with sees
  do_begins l ts = refl

  for_begins : (l : ℕ) (ts : Tokens) → statement_with inner d (name (codes "for") l ∷ ts) ≡ r.for_loop inner d l ts
  unfolding statement_with sees
  for_begins l ts = refl

  switch_begins : (l : ℕ) (ts : Tokens) → statement_with inner d (name (codes "switch") l ∷ ts) ≡ r.switch inner d l ts
  unfolding statement_with sees
  switch_begins l ts = refl

  return_begins : (l : ℕ) (ts : Tokens) → statement_with inner d (name (codes "return") l ∷ ts) ≡ returned d l ts
  unfolding statement_with sees
  return_begins l ts = refl

  return_nothing : (l m : ℕ) (rest : Tokens) → Exact d 0 (statement_with inner d (name (codes "return") l ∷ mark (codes ";") m ∷ rest)) (s.Return l None) rest
  unfolding statement_with returned sees
  return_nothing l m rest = done

  block_begins : (l : ℕ) (ts : Tokens) → statement_with inner d (mark (codes "{") l ∷ ts) ≡ r.block inner d l ts
  unfolding statement_with sees
  block_begins l ts = refl

  simple_otherwise : (ts : Tokens) → BeginsSimple ts → statement_with inner d ts ≡ simple_statement d ts
  unfolding statement_with is_keyword
  simple_otherwise ts b =
      rw (b.no_word (codes "if") refl, b.no_word (codes "while") refl, b.no_word (codes "do") refl, b.no_word (codes "for") refl, b.no_word (codes "switch") refl, b.no_word (codes "return") refl, b.no_brace) refl

pub brace_ends_list : (l : ℕ) (ts : Tokens) → is_at_end (mark (codes "}") l ∷ ts) ≡ true
unfolding is_at_end
brace_ends_list l ts = refl

break_ends_list : (l : ℕ) (ts : Tokens) → is_at_end (name (codes "break") l ∷ ts) ≡ true
unfolding is_at_end
break_ends_list l ts = refl

brace_no_label : (l : ℕ) (ts : Tokens) → sees_label (mark (codes "}") l ∷ ts) ≡ false
unfolding sees_label sees
brace_no_label l ts = refl

break_no_label : (l : ℕ) (ts : Tokens) → sees_label (name (codes "break") l ∷ ts) ≡ false
unfolding sees_label sees
break_no_label l ts = refl

mutual
  pub statement_exact : {ts rest : Tokens} {a : RawStatement} → IsStatement ts a rest → (d : ℕ) → Exact d (statement_nesting a) (statement_with (nested_statement d) d ts) a rest
  statement_exact (IsStatement.simple {ts} h) d = same_read (simple_otherwise (nested_statement d) d ts (simple_begins h)) (simple_statement_exact h d)
  statement_exact (IsStatement.returns {l} {m} {rest}) d = at_depth (omega (arith, nesting-Return l None)) (return_nothing (nested_statement d) d l m rest)
  statement_exact (IsStatement.returns_value {l} {ts} {a} h) d = at_depth (omega (arith, nesting-Return l (Some a))) (same_read (return_begins (nested_statement d) d l ts) (returned_exact h d l))
  statement_exact (IsStatement.block {l} {m} {ts} {rest} {all} h) d =
      let e = depths_under all in
      at_depth (omega (arith, nesting-Block l all, e.0, e.1)) (same_read (block_begins (nested_statement d) d l ts)
      (block_exact (nested_statement d) d l ts (statements_exact h d (length ts) [] (brace_ends_list m rest) (omega arith))))
  statement_exact (IsStatement.conditional {l} {ts} {a} {yes = all} {other} h k j) d =
      let e = depths_under all in
      let f = depths_under other in
      at_depth (omega (arith, nesting-If l a all other, e.0, e.1, f.0, f.1)) (same_read (if_begins (nested_statement d) d l ts) (if_exact (nested_statement d) d l h (body_exact k d) (else_exact j d)))
  statement_exact (IsStatement.while_loop {l} {ts} {a} {all} h k) d =
      let e = depths_under all in
      at_depth (omega (arith, nesting-While l a all, e.0, e.1)) (same_read (while_begins (nested_statement d) d l ts) (while_exact (nested_statement d) d l h (body_exact k d)))
  statement_exact (IsStatement.do_loop {l} {ts} {a} {all} h k) d =
      let e = depths_under all in
      at_depth (omega (arith, nesting-Do l a all, e.0, e.1)) (same_read (do_begins (nested_statement d) d l ts) (do_exact (nested_statement d) d l ts (body_exact h d) k))
  statement_exact (IsStatement.for_loop {l} {m} {ts} {first} {step} {a} {all} h k j i) d =
      let e = depths_under all in
      let f = part_under first in
      let g = part_under step in
      at_depth (omega (arith, nesting-For l first a step all, e.0, e.1, f.0, f.1, g.0, g.1)) (same_read (for_begins (nested_statement d) d l (mark (codes "(") m ∷ ts)) (for_exact (nested_statement d) d l m h k j (body_exact i d)))
  statement_exact (IsStatement.switch {l} {ts} {mid} {a} {arms} h k) d =
      let x = arms_exact k d (length mid) [] (omega arith) in
      at_depth (omega (arith, nesting-Switch l a arms, x.above, x.below)) (same_read (switch_begins (nested_statement d) d l ts) (switch_exact (nested_statement d) d l h x.exact))

  pub statements_exact : {ts rest : Tokens} {all : List RawStatement} → AreStatements ts all rest → (d turns : ℕ) (found : List RawStatement) → is_at_end rest ≡ true → length ts ≤ turns
      → Exact d (depths all) (statements_from (nested_statement d) d turns found ts) (found ++ all) rest
  statements_exact AreStatements.done d turns found q p = statements_end (nested_statement d) d turns found q
  statements_exact (AreStatements.empty h) d zero found q p = absurd (omega (arith, p))
  statements_exact (AreStatements.empty {l} {ts} {all} h) d (suc turns) found q p =
      statements_skip (nested_statement d) d l ts all turns found (statements_exact h d turns (found ++ []) q (omega (arith, p)))
  statements_exact (AreStatements.declared h k) d zero found q p = absurd (let x = declaration_shorter h in omega (arith, p, x))
  statements_exact (AreStatements.declared {some} {all} h k) d (suc turns) found q p =
      let x = declaration_shorter h in
      at_depth (omega (arith, declaration_depths h, greatest_append statement_depth some all))
      (statements_declare (nested_statement d) d all turns found (declaration_begins h) (nested_declaration_exact h d) (statements_exact k d turns (found ++ some) q (omega (arith, p, x))))
  statements_exact (AreStatements.more h k) d zero found q p = absurd (let x = statement_shorter h in omega (arith, p, x))
  statements_exact (AreStatements.more {ts} {first = a} {all} h k) d (suc turns) found q p =
      let x = statement_shorter h in
      at_depth (omega arith)
      (statements_take (nested_statement d) d all turns found (begins h) (nested_from ts (λ j. statement_exact h j) d) (statements_exact k d turns (found ++ a ∷ []) q (omega (arith, p, x))))

  pub body_exact : {ts rest : Tokens} {all : List RawStatement} → IsBody ts all rest → (d : ℕ) → Exact d (depths all) (body (nested_statement d) d ts) all rest
  body_exact (IsBody.braces {l} {m} {ts} {rest} h) d =
      at_depth (omega arith) (body_braced (nested_statement d) d l ts (statements_exact h d (length ts) [] (brace_ends_list m rest) (omega arith)))
  body_exact (IsBody.nothing {l} {rest}) d = body_nothing (nested_statement d) d l rest
  body_exact (IsBody.single {ts} p h) d = at_depth (omega arith) (body_single (nested_statement d) d ts p (begins h).no_semicolon (nested_from ts (λ j. statement_exact h j) d))

  pub else_exact : {ts rest : Tokens} {all : List RawStatement} → IsElse ts all rest → (d : ℕ) → Exact d (depths all) (alternative (nested_statement d) d ts) all rest
  else_exact (IsElse.otherwise {l} {ts} h) d = else_there (nested_statement d) d l ts (body_exact h d)
  else_exact (IsElse.without {ts} p) d = else_lacking (nested_statement d) d ts p

  arms_exact : {ts rest : Tokens} {arms : List RawArm} → AreArms ts arms rest → (d turns : ℕ) (found : List RawArm) → length ts ≤ turns
      → ArmsExact d (arms_from (nested_statement d) d turns found ts) arms (found ++ arms) rest
  arms_exact AreArms.none d zero found p = absurd (omega (arith, p))
  arms_exact (AreArms.none {l} {rest}) d (suc turns) found p = record { depth = 0; exact = arms_end (nested_statement d) d l turns found rest; above = omega arith; below = omega arith }
  arms_exact (AreArms.broken h k j) d zero found p = absurd (let x = labels_shorter h in omega (arith, p, x))
  arms_exact (AreArms.broken {l} {m} {ts} {mid} {after} {labels = marks} {body} {arms} h k j) d (suc turns) found p =
      let x = labels_shorter h in
      let y = statements_shorter k in
      let z = arms_exact j d turns (found ++ arm marks body ∷ []) (omega (arith, p, x, y)) in
      let one = arm_broken (nested_statement d) d h (begin_unlabelled k (break_no_label l (mark (codes ";") m ∷ after))) (statements_exact k d (length mid) [] (break_ends_list l (mark (codes ";") m ∷ after)) (omega arith)) in
      let e = depths_under body in
      let f = greatest_above label_depth label_nesting label_under marks in
      record {
        depth = max (max (greatest (map label_depth marks)) (max (depths body) 0)) z.depth;
        exact = arms_more (nested_statement d) d ts arms turns found (labels_seen h).1 one z.exact;
        above = omega (arith, nesting-arm marks body, z.above, e.0, f.0);
        below = omega (arith, nesting-arm marks body, z.below, e.1, f.1);
      }
  arms_exact (AreArms.unbroken h q k) d zero found p = absurd (let x = labels_shorter h in omega (arith, p, x))
  arms_exact (AreArms.unbroken {l} {ts} {mid} {rest} {labels = marks} {body} h q k) d (suc turns) found p =
      let one = arm_unbroken (nested_statement d) d h (begin_unlabelled k (brace_no_label l rest)) q (statements_exact k d (length mid) [] (brace_ends_list l rest) (omega arith)) in
      let e = depths_under body in
      let f = greatest_above label_depth label_nesting label_under marks in
      record {
        depth = max (max (greatest (map label_depth marks)) (max (depths body) 0)) 0;
        exact = arms_last (nested_statement d) d ts turns found (labels_seen h).1 one;
        above = omega (arith, nesting-arm marks body, e.0, f.0);
        below = omega (arith, nesting-arm marks body, e.1, f.1);
      }
