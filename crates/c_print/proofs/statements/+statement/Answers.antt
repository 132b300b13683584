use Rattle.std.proofs.Common.{◌≡◌, ℕ, suc, ◌++◌, codes, map, ap, sym, ◌∙◌, append_assoc, inl, inr}
use Rattle.c_language.specs.Words.{Bytes, expr_words}
use Rattle.c_language.specs.Layout.{line, label_lines, else_lines, arms_lines, laid, statement_words, statement_lines, body_lines, arm_laid}
use Rattle.c_language.proofs.Turns.{each_turn}
use Rattle.c_print.proofs.Loops.{each_arm, each_statement}
use Rattle.c_print.proofs.StatementLines.{at-If, at-While, at-Do, at-For, at-Switch, at-Block, both, else_lines-some, arm_laid-parts, on_ok, closed}
use Rattle.c_print.proofs.statements.+statement.Goals as goal

pub arm-returns-clause-lines : goal.arm-returns-clause-lines
arm-returns-clause-lines t c =
    let p = c.args.program.now in
    let n = c.args.margin.now in
    c.in_ok-line.ensures
    ∙ closed (suc n) c.statements.new.margin c.args.out.now c.labels.new.out c.statements.new.out (label_lines p c.args.arm.now.labels n) (body_lines p (suc n) c.args.arm.now.body) (codes "break;") (arm_laid p c.args.arm.now n)
    (arm_laid-parts p c.args.arm.now n)
    (c.in_ok-labels.ensures ∙ ap (λ y. c.args.out.now ++ label_lines p y n) c.as_slice.ensures)
    (c.in_ok-statements.ensures.lines ∙ ap (λ (k : ℕ). c.labels.new.out ++ body_lines p k c.as_slice-2.result.now) c.in_ok-deepen.ensures ∙ ap (λ y. c.labels.new.out ++ body_lines p (suc n) y) c.as_slice-2.ensures)
    (c.in_ok-statements.ensures.level ∙ c.in_ok-deepen.ensures)

pub arms-loop-child-preserved : goal.arms-loop-child-preserved
arms-loop-child-preserved t c = record {
  lines =
      each_turn (each_arm c.args.program.now c.deepen.new.self) c.args.all.now c.loop-child.child-index c.child-item.result c.args.out.now c.loop-child.out c.arm.new.out
      c.loop-child-test.true c.child-item.is c.loop-child.invariant.lines
      (c.in_ok-arm.ensures.lines ∙ ap (λ (k : ℕ). c.loop-child.out ++ arm_laid c.args.program.now c.child-item.result k) c.loop-child.invariant.level);
  level = c.in_ok-arm.ensures.level ∙ c.loop-child.invariant.level;
}

pub else_part-returns-clause-lines : goal.else_part-returns-clause-lines
else_part-returns-clause-lines t c =
    let n = c.args.margin.now in
    on_ok c.body.result c.body.new.out
    (ap (λ (y : Bytes). y ++ body_lines c.args.program.now (suc n) c.args.all.now) c.in_ok-line.ensures
    ∙ append_assoc c.args.out.now (line n (codes "} else {")) (body_lines c.args.program.now (suc n) c.args.all.now)
    ∙ sym (ap (λ (y : Bytes). c.args.out.now ++ y) (else_lines-some c.args.program.now c.args.all.now n c.if-is_empty.ensures)))
    c.body.ensures.lines

pub statement-returns-in_ok-else_part-in-If-clause-lines : goal.statement-returns-in_ok-else_part-in-If-clause-lines
statement-returns-in_ok-else_part-in-If-clause-lines t c =
    let p = c.args.program.now in
    let n = c.args.margin.now in
    on_ok c.line.result c.line.new.out
    (closed n c.else_part.new.margin c.args.out.now c.headed.new.out c.else_part.new.out (line n (statement_words p c.args.statement.now ++ codes " {")) (body_lines p (suc n) c.in-If.then ++ else_lines (map (laid p) c.in-If.other) n) (codes "}") (statement_lines p n c.args.statement.now)
    (at-If c.in-If.id c.in-If.line c.in-If.test c.in-If.then c.in-If.other p c.args.statement.now n c.in-If.is)
    c.in_ok-headed-in-If.ensures
    (both c.headed.new.out c.body.new.out c.else_part.new.out (body_lines p (suc n) c.in-If.then) (else_lines (map (laid p) c.in-If.other) n)
    (c.in_ok-body-in-If.ensures.lines ∙ ap (λ y. c.headed.new.out ++ body_lines p (suc n) y) c.as_slice.ensures)
    (c.in_ok-else_part-in-If.ensures.lines
    ∙ ap (λ (k : ℕ). c.body.new.out ++ else_lines (map (laid p) c.as_slice-in-If.result.now) k) c.in_ok-body-in-If.ensures.level
    ∙ ap (λ y. c.body.new.out ++ else_lines (map (laid p) y) n) c.as_slice-in-If.ensures))
    (c.in_ok-else_part-in-If.ensures.level ∙ c.in_ok-body-in-If.ensures.level))
    c.line.ensures

pub statement-returns-in_ok-body-in-Do-clause-lines : goal.statement-returns-in_ok-body-in-Do-clause-lines
statement-returns-in_ok-body-in-Do-clause-lines t c =
    let p = c.args.program.now in
    let n = c.args.margin.now in
    on_ok c.do_end.result c.do_end.new.out
    (closed n c.body-in-Do.new.margin c.args.out.now c.line-in-Do.new.out c.body-in-Do.new.out (line n (codes "do {")) (body_lines p (suc n) c.in-Do.repeated) (codes "} while (" ++ (expr_words p c.in-Do.test ++ codes ");")) (statement_lines p n c.args.statement.now)
    (at-Do c.in-Do.id c.in-Do.line c.in-Do.test c.in-Do.repeated p c.args.statement.now n c.in-Do.is)
    c.in_ok-line-in-Do.ensures
    (c.in_ok-body-in-Do.ensures.lines ∙ ap (λ y. c.line-in-Do.new.out ++ body_lines p (suc n) y) c.as_slice-in-Do.ensures)
    c.in_ok-body-in-Do.ensures.level)
    c.do_end.ensures

pub statement-returns-in_ok-arms-in-Switch-clause-lines : goal.statement-returns-in_ok-arms-in-Switch-clause-lines
statement-returns-in_ok-arms-in-Switch-clause-lines t c =
    let p = c.args.program.now in
    let n = c.args.margin.now in
    on_ok c.line-in-Switch.result c.line-in-Switch.new.out
    (closed n c.arms.new.margin c.args.out.now c.headed-in-Switch.new.out c.arms.new.out (line n (statement_words p c.args.statement.now ++ codes " {")) (arms_lines (map (arm_laid p) c.in-Switch.all) (suc n)) (codes "}") (statement_lines p n c.args.statement.now)
    (at-Switch c.in-Switch.id c.in-Switch.line c.in-Switch.test c.in-Switch.all p c.args.statement.now n c.in-Switch.is)
    c.in_ok-headed-in-Switch.ensures
    (c.in_ok-arms-in-Switch.ensures.lines ∙ ap (λ y. c.headed-in-Switch.new.out ++ arms_lines (map (arm_laid p) y) (suc n)) c.as_slice-in-Switch.ensures)
    c.in_ok-arms-in-Switch.ensures.level)
    c.line-in-Switch.ensures

pub statement-returns-in_ok-body-in-Block-clause-lines : goal.statement-returns-in_ok-body-in-Block-clause-lines
statement-returns-in_ok-body-in-Block-clause-lines t c =
    let p = c.args.program.now in
    let n = c.args.margin.now in
    on_ok c.line-in-Block-2.result c.line-in-Block-2.new.out
    (closed n c.body-in-Block.new.margin c.args.out.now c.line-in-Block.new.out c.body-in-Block.new.out (line n (codes "{")) (body_lines p (suc n) c.in-Block.held) (codes "}") (statement_lines p n c.args.statement.now)
    (at-Block c.in-Block.line c.in-Block.held p c.args.statement.now n c.in-Block.is)
    c.in_ok-line-in-Block.ensures
    (c.in_ok-body-in-Block.ensures.lines ∙ ap (λ y. c.line-in-Block.new.out ++ body_lines p (suc n) y) c.as_slice-in-Block.ensures)
    c.in_ok-body-in-Block.ensures.level)
    c.line-in-Block-2.ensures

pub statement-returns-in_ok-body-in-While-clause-lines : goal.statement-returns-in_ok-body-in-While-clause-lines
statement-returns-in_ok-body-in-While-clause-lines t c =
    let p = c.args.program.now in
    let n = c.args.margin.now in
    let is = c.in-While.is in
    let shape : statement_lines p n c.args.statement.now ≡ line n (statement_words p c.args.statement.now ++ codes " {") ++ (body_lines p (suc n) c.in-While.repeated ++ line n (codes "}")) =
    elim is [
      | inl (id, l, test, e) ↦ at-While id l test c.in-While.repeated p c.args.statement.now n e
      | inr (id, l, init, test, step, e) ↦ at-For id l init test step c.in-While.repeated p c.args.statement.now n e
    ] in
    on_ok c.line-in-While.result c.line-in-While.new.out
    (closed n c.body-in-While.new.margin c.args.out.now c.headed-in-While.new.out c.body-in-While.new.out (line n (statement_words p c.args.statement.now ++ codes " {")) (body_lines p (suc n) c.in-While.repeated) (codes "}") (statement_lines p n c.args.statement.now)
    shape
    c.in_ok-headed-in-While.ensures
    (c.in_ok-body-in-While.ensures.lines ∙ ap (λ y. c.headed-in-While.new.out ++ body_lines p (suc n) y) c.as_slice-in-While.ensures)
    c.in_ok-body-in-While.ensures.level)
    c.line-in-While.ensures

pub statements-loop-child-preserved : goal.statements-loop-child-preserved
statements-loop-child-preserved t c = record {
  lines =
      each_turn (each_statement c.args.program.now c.args.margin.now) c.args.all.now c.loop-child.child-index c.child-item.result c.args.out.now c.loop-child.out c.statement.new.out
      c.loop-child-test.true c.child-item.is c.loop-child.invariant.lines
      (c.in_ok-statement.ensures.lines ∙ ap (λ (k : ℕ). c.loop-child.out ++ statement_lines c.args.program.now k c.child-item.result) c.loop-child.invariant.level);
  level = c.in_ok-statement.ensures.level ∙ c.loop-child.invariant.level;
}
