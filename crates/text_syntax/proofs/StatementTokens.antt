-- A statement that is syntax has tokens.
use Rattle.std.proofs.Common.{◌≡◌, ℕ, List, [], ◌∷◌, map, Bool, true, false, ◌&&◌, codes, Option, Some, None, refl, sym, ap, subst, ◌∙◌}
use Rattle.std.specs.List.{list_all}
use Rattle.std.specs.Option.{option_map_or}
use Rattle.std.proofs.lemmas.Bool.{and_parts}
use Rattle.c_arith.specs.declared.operators.BinaryOp.{BinaryOp}
use Rattle.c_tree.specs.declared.raw.expr.RawExpr.{RawExpr}
use Rattle.c_tree.specs.declared.raw.statement.RawTarget.{RawTarget}
use Rattle.c_tree.specs.declared.raw.statement.RawTarget.TheVariants as target
use Rattle.c_tree.specs.declared.raw.statement.RawArg.{RawArg}
use Rattle.c_tree.specs.declared.raw.statement.RawTypeName.{RawTypeName}
use Rattle.c_tree.specs.declared.raw.statement.RawAmount.{RawAmount}
use Rattle.c_tree.specs.declared.raw.statement.RawLabel.{RawLabel}
use Rattle.c_tree.specs.declared.raw.statement.RawLabel.TheVariants.{Case, Default}
use Rattle.c_tree.specs.declared.raw.statement.RawArm.{RawArm, roll-RawArm, fold-roll-RawArm}
use Rattle.c_tree.specs.declared.raw.statement.RawStatement.{RawStatement, roll-RawStatement, fold-roll-RawStatement}
use Rattle.c_tree.specs.declared.raw.statement.RawStatement.TheOpen.{RawStatement-F}
use Rattle.c_tree.specs.declared.raw.statement.RawStatement.TheVariants as s
use Rattle.c_tree.proofs.RawTrees.{StatementParts, ArmParts, statement_layer, arm_layer, of_every_statement}
use Rattle.c_language.specs.Words.{Bytes, assign_sign, bump_sign}
use Rattle.c_language.specs.TokenForms.{Tokens, name, mark, line_of}
use Rattle.c_language.specs.Lists.{all_true}
use Rattle.c_language.specs.ExprGrammar.{is_place, conditional_level, postfix_level}
use Rattle.c_language.specs.StatementGrammar.{IsSeparated, IsDeclared, IsDeclaration, IsSimple, assigns_by, IsInit, IsStep, IsLabel, AreLabels, IsTest, arm, IsStatement, AreStatements, IsBody, IsElse, AreArms}
use Rattle.c_language.specs.Syntax.{is_there, binds, is_expr, is_assigned, sized, is_declared, is_call, is_heap, is_stored, Position, inner, final, first, step, takes_declaration, takes_compound, takes_return, is_target, is_label, stands_step, arm_step, stands, is_arm, is_body}
use Rattle.c_language.proofs.Tests.{false_true}
use Rattle.text_syntax.proofs.Forms.{are_inner}
use Rattle.text_syntax.proofs.Folds.{standing}
use Rattle.text_syntax.proofs.Clear as told
use Rattle.text_syntax.proofs.Clear.{ClearInside, inside, allocation, assigned, stored, bumped, bumps, declaration, ClearStatement, ended, nothing_more, ClearBody, body_done, Joins, in_list, in_body, Same, at_end, braces_clear, ClearElse, if_clear, while_clear, do_clear, turned, for_clear, return_clear, return_value_clear, ClearLabels, labels_last, labels_more, ClearArms, arm_clear, switch_clear}
use Rattle.text_syntax.proofs.TreeTokens.{expr_tokens}
use Rattle.text_syntax.proofs.TypeTokens.{NoBracket}
use Rattle.text_syntax.proofs.Runs.{Front, nothing, join, sign, word, of, of_base, Run, other_mark}
use Rattle.text_syntax.proofs.Marks.{assign_mark, bump_mark}
use Rattle.text_syntax.proofs.CallTokens.{call_tokens, heap_tokens, Opened, declare_tokens, declare_call, declare_heap}

-- ---- simple statements

abbrev Simple : RawStatement → Type 0
Simple x = Run (λ ts r. IsSimple ts x r × ClearInside ts r)

at_line : {n l : ℕ} {ts r : Tokens} (x : ℕ → RawStatement) → n ≡ l → IsSimple ts (x n) r → IsSimple ts (x l) r
at_line {ts = ts} {r} x is h = subst (λ (n : ℕ). IsSimple ts (x n) r) is h

assign_tokens : (l : ℕ) (a : RawExpr) (op : Option BinaryOp) (b : RawExpr) → (is_assigned a && (assigns_by op && is_expr b)) ≡ true → Simple (s.Assign l a op b)
assign_tokens l a op b h =
    let p = and_parts (is_assigned a) _ h in
    let q = and_parts (assigns_by op) (is_expr b) p.1 in
    let i = and_parts (is_place a) (is_expr a) p.0 in
    let x = expr_tokens a conditional_level l i.1 in
    let y = expr_tokens b conditional_level 0 q.1 in
    record {
      front = join (of x) (join (sign (assign_sign op) 0 (assign_mark op q.0)) (of y));
      is = λ r.
          let j = x.is (mark (assign_sign op) 0 ∷ y.front r) in
          (at_line (λ n. s.Assign n a op b) (x.line (mark (assign_sign op) 0 ∷ y.front r)) (IsSimple.assign op q.0 j i.0 (y.is r)), assigned op j (y.is r));
    }

bump_tokens : (l : ℕ) (a : RawExpr) (up before : Bool) → stands_step (RawStatement-F.Bump l a up before) inner ≡ true → Simple (s.Bump l a up before)
bump_tokens l a up true h =
    let p = and_parts (is_place a) (binds a conditional_level) h in
    let x = expr_tokens a conditional_level 0 p.1 in
    record { front = join (sign (bump_sign up) l (bump_mark up)) (of x); is = λ r. (IsSimple.bump_before up (x.is r) p.0, bumps up (x.is r)) }
bump_tokens l a up false h =
    let p = and_parts (is_place a) (binds a postfix_level) h in
    let x = expr_tokens a postfix_level l p.1 in
    record {
      front = join (of x) (sign (bump_sign up) 0 (bump_mark up));
      is = λ r.
          let j = x.is (mark (bump_sign up) 0 ∷ r) in
          (at_line (λ n. s.Bump n a up false) (x.line (mark (bump_sign up) 0 ∷ r)) (IsSimple.bump_after up j p.0), bumped up j);
    }

call_alone : (l : ℕ) (f : Bytes) (args : List RawArg) → is_call f args ≡ true → Simple (s.Call l target.None f args)
call_alone l f args h =
    let x = call_tokens l f args h in
    record { front = of x; is = λ r. (at_line (λ n. s.Call n target.None f args) (x.line r) (IsSimple.call (x.is r).0), inside (x.is r).1) }

store_call : (l : ℕ) (a : RawExpr) (f : Bytes) (args : List RawArg) → is_assigned a ≡ true → is_call f args ≡ true → Simple (s.Call l (target.Place a) f args)
store_call l a f args h k =
    let i = and_parts (is_place a) (is_expr a) h in
    let x = expr_tokens a conditional_level l i.1 in
    let y = call_tokens 0 f args k in
    record {
      front = join (of x) (join (sign (codes "=") 0 refl) (of y));
      is = λ r.
          let j = x.is (mark (codes "=") 0 ∷ y.front r) in
          (at_line (λ n. s.Call n (target.Place a) f args) (x.line (mark (codes "=") 0 ∷ y.front r)) (IsSimple.store_call j i.0 (y.is r).0), stored j (inside (y.is r).1));
    }

store_heap : (l : ℕ) (a : RawExpr) (cast : Option RawTypeName) (n : RawAmount) → is_assigned a ≡ true → is_heap cast n ≡ true → Simple (s.Heap l (target.Place a) cast n)
store_heap l a cast n h k =
    let i = and_parts (is_place a) (is_expr a) h in
    let x = expr_tokens a conditional_level l i.1 in
    let y = heap_tokens cast n k in
    record {
      front = join (of x) (join (sign (codes "=") 0 refl) y.front);
      is = λ r.
          let j = x.is (mark (codes "=") 0 ∷ y.front.tokens r) in
          (at_line (λ m. s.Heap m (target.Place a) cast n) (x.line (mark (codes "=") 0 ∷ y.front.tokens r)) (IsSimple.store_heap j i.0 (y.is r)), stored j (allocation (y.is r)));
    }

-- ---- the three kinds of statements

-- the tokens of a statement that may stand there
data Formed (p : Position) (x : RawStatement) : Type 0 where
  -- a simple statement, without its semicolon
  simple : Simple x → Formed p x
  -- a declarator with its base, without its semicolon
  declared : takes_declaration p ≡ true → Opened x → Formed p x
  -- any other, whole
  whole : takes_compound p ≡ true → Run (λ ts r. IsStatement ts x r × ClearStatement p ts r) → Formed p x

call_formed : (p : Position) (l : ℕ) (to : RawTarget) (f : Bytes) (args : List RawArg) → is_target p to ≡ true → is_call f args ≡ true → Formed p (s.Call l to f args)
call_formed p l target.None f args h k = simple (call_alone l f args k)
call_formed p l (target.Place a) f args h k = simple (store_call l a f args h k)
call_formed p l (target.Declared v) f args h k = let q = and_parts (takes_declaration p) (is_declared v sized) h in declared q.0 (declare_call l v f args q.1 k)

heap_formed : (p : Position) (l : ℕ) (to : RawTarget) (cast : Option RawTypeName) (n : RawAmount) → is_target p to ≡ true → is_stored to ≡ true → is_heap cast n ≡ true → Formed p (s.Heap l to cast n)
heap_formed p l target.None cast n h j k = false_true j
heap_formed p l (target.Place a) cast n h j k = simple (store_heap l a cast n h k)
heap_formed p l (target.Declared v) cast n h j k = let q = and_parts (takes_declaration p) (is_declared v sized) h in declared q.0 (declare_heap l v cast n q.1 k)

-- ---- lists of statements

-- tokens of statements, one after another
pub record Listed (C : Tokens → Tokens → Type 0) (xs : List RawStatement) : Type 0 where
  pub front : Front
  pub is : (r : Tokens) → AreStatements (front.tokens r) xs r
  pub clear : (r : Tokens) → C (front.tokens r) r

end_no_bracket : (r : Tokens) → NoBracket (mark (codes ";") 0 ∷ r)
end_no_bracket r = other_mark (codes ";") (codes "[") 0 r refl

-- the declarator of one that is declared, where its line is that of its first token
one_declared : {x : RawStatement} (o : Opened x) (r : Tokens) → IsDeclared (line_of (o.based.front (o.front.tokens (mark (codes ";") 0 ∷ r)))) o.base (o.front.tokens (mark (codes ";") 0 ∷ r)) x (mark (codes ";") 0 ∷ r)
one_declared {x} o r =
    let mid = o.front.tokens (mark (codes ";") 0 ∷ r) in
    subst (λ (n : ℕ). IsDeclared n o.base mid x (mark (codes ";") 0 ∷ r)) (sym (o.based.line mid)) (o.is (mark (codes ";") 0 ∷ r) (end_no_bracket r))

-- a declaration of one name with its semicolon
one_declaration : {x : RawStatement} (o : Opened x) (r : Tokens) → ClearInside (o.based.front (o.front.tokens (mark (codes ";") 0 ∷ r))) (mark (codes ";") 0 ∷ r)
one_declaration o r = declaration (o.based.is (o.front.tokens (mark (codes ";") 0 ∷ r)) (o.no_int (mark (codes ";") 0 ∷ r))) (one_declared o r) (o.clear (mark (codes ";") 0 ∷ r) (end_no_bracket r))

one_before : {p : Position} {C D : Tokens → Tokens → Type 0} {x : RawStatement} {xs : List RawStatement} → Joins p C D → Formed p x → Listed D xs → Listed C (x ∷ xs)
one_before j (simple a) all = record {
  front = join a.front (join (sign (codes ";") 0 refl) all.front);
  is = λ r. AreStatements.more (IsStatement.simple (a.is (mark (codes ";") 0 ∷ all.front.tokens r)).0) (all.is r);
  clear = λ r. j.simples (a.is (mark (codes ";") 0 ∷ all.front.tokens r)).1 (all.clear r);
}
one_before j (declared t o) all = record {
  front = join (of_base o.based) (join o.front (join (sign (codes ";") 0 refl) all.front));
  is = λ r. AreStatements.declared
      (IsDeclaration.declaration (o.based.is (o.front.tokens (mark (codes ";") 0 ∷ all.front.tokens r)) (o.no_int (mark (codes ";") 0 ∷ all.front.tokens r)))
      (IsSeparated.last (one_declared o (all.front.tokens r)))) (all.is r);
  clear = λ r. j.simples (one_declaration o (all.front.tokens r)) (all.clear r);
}
one_before j (whole t a) all = record {
  front = join a.front all.front;
  is = λ r. AreStatements.more (a.is (all.front.tokens r)).0 (all.is r);
  clear = λ r. j.wholes (a.is (all.front.tokens r)).1 (all.clear r);
}

no_statements : (C : Tokens → Tokens → Type 0) → ((ts : Tokens) → C ts ts) → Listed C []
no_statements C here = record { front = nothing; is = λ r. AreStatements.done; clear = here }

-- ---- parts of statements

braces : {xs : List RawStatement} → Listed ClearInside xs → Run (λ ts r. IsBody ts xs r × ClearStatement inner ts r)
braces x = record {
  front = join (sign (codes "{") 0 refl) (join x.front (sign (codes "}") 0 refl));
  is = λ r. (IsBody.braces (x.is (mark (codes "}") 0 ∷ r)), braces_clear (x.clear (mark (codes "}") 0 ∷ r)));
}

otherwise : {xs : List RawStatement} → Listed ClearInside xs → Run (λ ts r. IsElse ts xs r × ClearElse ts r)
otherwise x = let b = braces x in record { front = join (word (codes "else") 0 refl) b.front; is = λ r. (IsElse.otherwise (b.is r).0, told.otherwise (b.is r).1) }

test : (a : RawExpr) → is_expr a ≡ true → Run (λ ts r. IsTest ts a r)
test a h =
    let x = expr_tokens a conditional_level 0 h in
    record { front = join (sign (codes "(") 0 refl) (join (of x) (sign (codes ")") 0 refl)); is = λ r. IsTest.test (x.is (mark (codes ")") 0 ∷ r)) }

init : {x : RawStatement} → Formed first x → Run (λ ts r. IsInit ts (Some x) r × ClearInside ts r)
init (simple a) = record { front = join a.front (sign (codes ";") 0 refl); is = λ r. let i = a.is (mark (codes ";") 0 ∷ r) in (IsInit.simple i.0, ended i.1) }
init (declared t o) = record {
  front = join (of_base o.based) (join o.front (sign (codes ";") 0 refl));
  is = λ r. (IsInit.declared (o.based.is (o.front.tokens (mark (codes ";") 0 ∷ r)) (o.no_int (mark (codes ";") 0 ∷ r))) (one_declared o r), ended (one_declaration o r));
}
init (whole t a) = false_true t

no_init : Run (λ ts r. IsInit ts None r × ClearInside ts r)
no_init = record { front = sign (codes ";") 0 refl; is = λ r. (IsInit.nothing, told.no_init 0 r) }

turn : {x : RawStatement} → Formed step x → Run (λ ts r. IsStep ts (Some x) r × ClearInside ts r)
turn (simple a) = record { front = join a.front (sign (codes ")") 0 refl); is = λ r. let i = a.is (mark (codes ")") 0 ∷ r) in (IsStep.simple i.0, turned i.1) }
turn (declared t o) = false_true t
turn (whole t a) = false_true t

no_turn : Run (λ ts r. IsStep ts None r × ClearInside ts r)
no_turn = record { front = sign (codes ")") 0 refl; is = λ r. (IsStep.nothing, told.no_turn 0 r) }

label_tokens : (a : RawLabel) → is_label a ≡ true → Run (λ ts r. IsLabel ts a r)
label_tokens (Case a) h =
    let x = expr_tokens a conditional_level 0 h in
    record { front = join (word (codes "case") 0 refl) (join (of x) (sign (codes ":") 0 refl)); is = λ r. IsLabel.case (x.is (mark (codes ":") 0 ∷ r)) }
label_tokens Default h = record { front = join (word (codes "default") 0 refl) (sign (codes ":") 0 refl); is = λ r. IsLabel.default }

labels_tokens : (a : RawLabel) (all : List RawLabel) → list_all is_label (a ∷ all) ≡ true → Run (λ ts r. AreLabels ts (a ∷ all) r × ClearLabels ts r)
labels_tokens a [] h = let x = label_tokens a (and_parts (is_label a) true h).0 in record { front = x.front; is = λ r. (AreLabels.last (x.is r), labels_last (x.is r)) }
labels_tokens a (b ∷ all) h =
    let p = and_parts (is_label a) (list_all is_label (b ∷ all)) h in
    let x = label_tokens a p.0 in
    let y = labels_tokens b all p.1 in
    record { front = join x.front y.front; is = λ r. let i = x.is (y.front.tokens r) in (AreLabels.more i (y.is r).0, labels_more i (y.is r).1) }

abbrev Arms : List RawArm → Type 0
Arms arms = Run (λ ts r. AreArms ts arms r × ClearArms ts r)

no_arms : Arms []
no_arms = record { front = sign (codes "}") 0 refl; is = λ r. (AreArms.none, told.no_arms 0 r) }

arm_before : (labels : List RawLabel) {body : List RawStatement} {arms : List RawArm} → is_there labels ≡ true → list_all is_label labels ≡ true → Listed ClearInside body → Arms arms → Arms (arm labels body ∷ arms)
arm_before [] h k x all = false_true h
arm_before (a ∷ labels) h k x all =
    let y = labels_tokens a labels k in
    record {
      front = join y.front (join x.front (join (word (codes "break") 0 refl) (join (sign (codes ";") 0 refl) all.front)));
      is = λ r.
          let end = name (codes "break") 0 ∷ mark (codes ";") 0 ∷ all.front.tokens r in
          let i = y.is (x.front.tokens end) in
          (AreArms.broken i.0 (x.is end) (all.is r).0, arm_clear i.1 (x.clear end) (all.is r).1);
    }

-- ---- statements with parts

abbrev Whole : Position → RawStatement → Type 0
Whole p x = Run (λ ts r. IsStatement ts x r × ClearStatement p ts r)

if_whole : {p : Position} (l : ℕ) (a : RawExpr) {b c : List RawStatement} → is_expr a ≡ true → Listed ClearInside b → Listed ClearInside c → Whole p (s.If l a b c)
if_whole l a h b c =
    let t = test a h in
    let x = braces b in
    let y = otherwise c in
    record {
      front = join (word (codes "if") l refl) (join t.front (join x.front y.front));
      is = λ r.
          let i = t.is (x.front.tokens (y.front.tokens r)) in
          let j = x.is (y.front.tokens r) in
          (IsStatement.conditional i j.0 (y.is r).0, if_clear i j.1 (y.is r).1);
    }

while_whole : {p : Position} (l : ℕ) (a : RawExpr) {b : List RawStatement} → is_expr a ≡ true → Listed ClearInside b → Whole p (s.While l a b)
while_whole l a h b =
    let t = test a h in
    let x = braces b in
    record { front = join (word (codes "while") l refl) (join t.front x.front); is = λ r. let i = t.is (x.front.tokens r) in (IsStatement.while_loop i (x.is r).0, while_clear i (x.is r).1) }

do_whole : {p : Position} (l : ℕ) (a : RawExpr) {b : List RawStatement} → is_expr a ≡ true → Listed ClearInside b → Whole p (s.Do l a b)
do_whole l a h b =
    let t = test a h in
    let x = braces b in
    record {
      front = join (word (codes "do") l refl) (join x.front (join (word (codes "while") 0 refl) (join t.front (sign (codes ";") 0 refl))));
      is = λ r.
          let i = x.is (name (codes "while") 0 ∷ t.front.tokens (mark (codes ";") 0 ∷ r)) in
          let j = t.is (mark (codes ";") 0 ∷ r) in
          (IsStatement.do_loop i.0 j, do_clear i.1 j);
    }

for_whole : {p : Position} (l : ℕ) (a : RawExpr) {i k : Option RawStatement} {b : List RawStatement} → is_expr a ≡ true → Run (λ ts r. IsInit ts i r × ClearInside ts r) → Run (λ ts r. IsStep ts k r × ClearInside ts r) → Listed ClearInside b → Whole p (s.For l i a k b)
for_whole l a h i k b =
    let t = expr_tokens a conditional_level 0 h in
    let x = braces b in
    record {
      front = join (word (codes "for") l refl) (join (sign (codes "(") 0 refl) (join i.front (join (of t) (join (sign (codes ";") 0 refl) (join k.front x.front)))));
      is = λ r.
          let next = k.front.tokens (x.front.tokens r) in
          let u = i.is (t.front (mark (codes ";") 0 ∷ next)) in
          let v = t.is (mark (codes ";") 0 ∷ next) in
          let w = k.is (x.front.tokens r) in
          (IsStatement.for_loop u.0 v w.0 (x.is r).0, for_clear u.1 v w.1 (x.is r).1);
    }

switch_whole : {p : Position} (l : ℕ) (a : RawExpr) {arms : List RawArm} → is_expr a ≡ true → Arms arms → Whole p (s.Switch l a arms)
switch_whole l a h x =
    let t = test a h in
    record { front = join (word (codes "switch") l refl) (join t.front (join (sign (codes "{") 0 refl) x.front)); is = λ r. let i = t.is (mark (codes "{") 0 ∷ x.front.tokens r) in (IsStatement.switch i (x.is r).0, switch_clear i (x.is r).1) }

block_whole : {p : Position} (l : ℕ) {b : List RawStatement} → Listed ClearInside b → Whole p (s.Block l b)
block_whole l x = record { front = join (sign (codes "{") l refl) (join x.front (sign (codes "}") 0 refl)); is = λ r. (IsStatement.block (x.is (mark (codes "}") 0 ∷ r)), braces_clear (x.clear (mark (codes "}") 0 ∷ r))) }

return_whole : {p : Position} (l : ℕ) (a : Option RawExpr) → takes_return p ≡ true → option_map_or is_expr a true ≡ true → Whole p (s.Return l a)
return_whole l None ends h = record { front = join (word (codes "return") l refl) (sign (codes ";") 0 refl); is = λ r. (IsStatement.returns, return_clear ends) }
return_whole l (Some a) ends h =
    let x = expr_tokens a conditional_level 0 h in
    record { front = join (word (codes "return") l refl) (join (of x) (sign (codes ";") 0 refl)); is = λ r. let i = x.is (mark (codes ";") 0 ∷ r) in (IsStatement.returns_value i, return_value_clear ends i) }

-- ---- the fold

abbrev Given : RawStatement → Type 0
Given x = (p : Position) → stands x p ≡ true → Formed p x

abbrev ArmGiven : RawArm → Type 0
ArmGiven a = is_arm a ≡ true → (arms : List RawArm) → Arms arms → Arms (a ∷ arms)

abbrev bare : List ((x : RawStatement) × Given x) → List RawStatement
bare = map (λ (x : (y : RawStatement) × Given y). x.0)

abbrev bare_arms : List ((a : RawArm) × ArmGiven a) → List RawArm
bare_arms = map (λ (a : (b : RawArm) × ArmGiven b). a.0)

list_given : (xs : List ((x : RawStatement) × Given x)) → are_inner (bare xs) ≡ true → Listed ClearInside (bare xs)
list_given [] h = no_statements ClearInside nothing_more
list_given (x ∷ xs) h = let p = and_parts (stands x.0 inner) (are_inner (bare xs)) h in one_before in_list (x.1 inner p.0) (list_given xs p.1)

arms_given : (xs : List ((a : RawArm) × ArmGiven a)) → all_true (map is_arm (bare_arms xs)) ≡ true → Arms (bare_arms xs)
arms_given [] h = no_arms
arms_given (a ∷ arms) h = let p = and_parts (is_arm a.0) (all_true (map is_arm (bare_arms arms))) h in a.1 p.0 (bare_arms arms) (arms_given arms p.1)

abbrev shape : StatementParts Given ArmGiven → RawStatement-F RawStatement RawArm
shape = statement_layer Given ArmGiven

as_formed : {p : Position} {a b : RawStatement} → a ≡ b → Formed p b → Formed p a
as_formed {p} is x = subst (Formed p) (sym is) x

return_there : (p : Position) → takes_return p ≡ true → takes_compound p ≡ true
return_there inner h = refl
return_there final h = refl
return_there first h = false_true h
return_there step h = false_true h

of_layer : (y : StatementParts Given ArmGiven) (p : Position) → stands_step (standing (shape y)) p ≡ true → Formed p (roll-RawStatement (shape y))
of_layer (RawStatement-F.Declare l v i) p h = let q = and_parts (takes_declaration p) _ h in as_formed (s.rolls-Declare l v i) (declared q.0 (declare_tokens l v i q.1))
of_layer (RawStatement-F.Assign l a op b) p h = as_formed (s.rolls-Assign l a op b) (simple (assign_tokens l a op b h))
of_layer (RawStatement-F.Bump l a up before) p h = as_formed (s.rolls-Bump l a up before) (simple (bump_tokens l a up before h))
of_layer (RawStatement-F.Call l to f args) p h = let q = and_parts (is_target p to) (is_call f args) h in as_formed (s.rolls-Call l to f args) (call_formed p l to f args q.0 q.1)
of_layer (RawStatement-F.Heap l to cast n) p h =
    let q = and_parts (is_target p to) _ h in
    let i = and_parts (is_stored to) (is_heap cast n) q.1 in
    as_formed (s.rolls-Heap l to cast n) (heap_formed p l to cast n q.0 i.0 i.1)
of_layer (RawStatement-F.If l a b c) p h =
    let q = and_parts (takes_compound p) _ h in
    let i = and_parts (is_expr a) _ q.1 in
    let k = and_parts (are_inner (bare b)) (are_inner (bare c)) i.1 in
    as_formed (s.rolls-If l a (bare b) (bare c)) (whole q.0 (if_whole l a i.0 (list_given b k.0) (list_given c k.1)))
of_layer (RawStatement-F.While l a b) p h =
    let q = and_parts (takes_compound p) _ h in
    let i = and_parts (is_expr a) _ q.1 in
    as_formed (s.rolls-While l a (bare b)) (whole q.0 (while_whole l a i.0 (list_given b i.1)))
of_layer (RawStatement-F.Do l a b) p h =
    let q = and_parts (takes_compound p) _ h in
    let i = and_parts (is_expr a) _ q.1 in
    as_formed (s.rolls-Do l a (bare b)) (whole q.0 (do_whole l a i.0 (list_given b i.1)))
of_layer (RawStatement-F.For l None a None b) p h =
    let q = and_parts (takes_compound p) _ h in
    let i = and_parts (is_expr a) _ q.1 in
    as_formed (s.rolls-For l None a None (bare b)) (whole q.0 (for_whole l a i.0 no_init no_turn (list_given b i.1)))
of_layer (RawStatement-F.For l None a (Some k) b) p h =
    let q = and_parts (takes_compound p) _ h in
    let i = and_parts (is_expr a) _ q.1 in
    let j = and_parts (stands k.0 step) _ i.1 in
    as_formed (s.rolls-For l None a (Some k.0) (bare b)) (whole q.0 (for_whole l a i.0 no_init (turn (k.1 step j.0)) (list_given b j.1)))
of_layer (RawStatement-F.For l (Some x) a None b) p h =
    let q = and_parts (takes_compound p) _ h in
    let g = and_parts (stands x.0 first) _ q.1 in
    let i = and_parts (is_expr a) _ g.1 in
    as_formed (s.rolls-For l (Some x.0) a None (bare b)) (whole q.0 (for_whole l a i.0 (init (x.1 first g.0)) no_turn (list_given b i.1)))
of_layer (RawStatement-F.For l (Some x) a (Some k) b) p h =
    let q = and_parts (takes_compound p) _ h in
    let g = and_parts (stands x.0 first) _ q.1 in
    let i = and_parts (is_expr a) _ g.1 in
    let j = and_parts (stands k.0 step) _ i.1 in
    as_formed (s.rolls-For l (Some x.0) a (Some k.0) (bare b)) (whole q.0 (for_whole l a i.0 (init (x.1 first g.0)) (turn (k.1 step j.0)) (list_given b j.1)))
of_layer (RawStatement-F.Switch l a arms) p h =
    let q = and_parts (takes_compound p) _ h in
    let i = and_parts (is_expr a) _ q.1 in
    as_formed (s.rolls-Switch l a (bare_arms arms)) (whole q.0 (switch_whole l a i.0 (arms_given arms i.1)))
of_layer (RawStatement-F.Block l b) p h =
    let q = and_parts (takes_compound p) _ h in
    as_formed (s.rolls-Block l (bare b)) (whole q.0 (block_whole l (list_given b q.1)))
of_layer (RawStatement-F.Return l a) p h =
    let q = and_parts (takes_return p) _ h in
    as_formed (s.rolls-Return l a) (whole (return_there p q.0) (return_whole l a q.0 q.1))

of_arm : (y : ArmParts Given ArmGiven) → ArmGiven (roll-RawArm (arm_layer Given ArmGiven y))
of_arm y h arms all =
    let e = sym (fold-roll-RawArm (Position → Bool) Bool stands_step arm_step (arm_layer Given ArmGiven y)) ∙ h in
    let p = and_parts (is_there y.labels) _ e in
    let q = and_parts (list_all is_label y.labels) _ p.1 in
    arm_before y.labels p.0 q.0 (list_given y.body q.1) all

-- a statement that is syntax has tokens, in front of any others
statement_tokens : (x : RawStatement) → Given x
statement_tokens = of_every_statement Given ArmGiven
    (λ y p h. of_layer y p (ap (λ (f : Position → Bool). f p) (sym (fold-roll-RawStatement (Position → Bool) Bool stands_step arm_step (shape y))) ∙ h)) of_arm

-- and so has the body of a function
pub body_tokens : (xs : List RawStatement) → is_body xs ≡ true → Listed ClearBody xs
body_tokens [] h = no_statements ClearBody body_done
body_tokens (x ∷ []) h = one_before at_end (statement_tokens x final h) (no_statements Same (λ ts. refl))
body_tokens (x ∷ (y ∷ ys)) h = let p = and_parts (stands x inner) (is_body (y ∷ ys)) h in one_before in_body (statement_tokens x inner p.0) (body_tokens (y ∷ ys) p.1)
