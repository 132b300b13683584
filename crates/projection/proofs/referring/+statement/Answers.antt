use Rattle.std.proofs.Common.{◌&&◌, ◌||◌}
use Rattle.projection.specs.Parts.{words_of}
use Rattle.projection.specs.Referring.{part_refers, arms_refer}
use Rattle.c_language.specs.Names.{names, any_names, target_names, amount_names, value_names}
use Rattle.projection.specs.Names.{begun_names, call_names, refers, body_refers}
use Rattle.named_variables.proofs.MarkLemmas.{adds_same, adds_both, adds_three, adds_four}
use Rattle.projection.proofs.NameForms.{refers-Declare, refers-Assign, refers-Invoke, refers-Fetch, refers-Print, refers-Heap, refers-Return, refers_word, refers-Block, refers-If, refers-For, refers-Switch, refers_loop}
use Rattle.projection.proofs.referring.+statement.Goals as goal

pub mark_statement-returns-in_ok-mark_statements-in-Block : goal.mark_statement-returns-in_ok-mark_statements-in-Block
mark_statement-returns-in_ok-mark_statements-in-Block t c =
    let keeps = words_of c.args.parts.now in
    adds_same c.args.used.now.items c.mark_statements.new.used.items (body_refers keeps c.as_slice-in-Block.result.now) (refers keeps c.args.statement.now)
    c.in_ok-mark_statements-in-Block.ensures
    (λ x. rw (c.in-Block.is, c.as_slice-in-Block.ensures) (refers-Block keeps _ _ x))

pub mark_statement-returns-in_ok-mark_statements-in-If-2 : goal.mark_statement-returns-in_ok-mark_statements-in-If-2
mark_statement-returns-in_ok-mark_statements-in-If-2 t c =
    let keeps = words_of c.args.parts.now in
    adds_three c.args.used.now.items c.mark_word.new.used.items c.mark_statements-in-If.new.used.items c.mark_statements-in-If-2.new.used.items
    (λ x. c.keeps-in-If.result && names c.in-If.test x) (body_refers keeps c.as_slice-in-If.result.now) (body_refers keeps c.as_slice-in-If-2.result.now) (refers keeps c.args.statement.now)
    c.in_ok-mark_word-in-If.ensures c.in_ok-mark_statements-in-If.ensures c.in_ok-mark_statements-in-If-2.ensures
    (λ x. rw (c.in-If.is, c.keeps-in-If.ensures, c.as_slice-in-If.ensures, c.as_slice-in-If-2.ensures) (refers-If keeps _ _ _ _ _ x))

pub mark_statement-returns-in_ok-mark_statements-in-For : goal.mark_statement-returns-in_ok-mark_statements-in-For
mark_statement-returns-in_ok-mark_statements-in-For t c =
    let keeps = words_of c.args.parts.now in
    adds_four c.args.used.now.items c.mark_word-in-For.new.used.items c.mark_part.new.used.items c.mark_part-in-For.new.used.items c.mark_statements-in-For.new.used.items
    (λ x. c.keeps-in-For.result && names c.in-For.test x) (part_refers keeps c.in-For.init) (part_refers keeps c.in-For.step) (body_refers keeps c.as_slice-in-For.result.now) (refers keeps c.args.statement.now)
    c.in_ok-mark_word-in-For.ensures c.in_ok-mark_part-in-For.ensures c.in_ok-mark_part-in-For-2.ensures c.in_ok-mark_statements-in-For.ensures
    (λ x. rw (c.in-For.is, c.keeps-in-For.ensures, c.as_slice-in-For.ensures) (refers-For keeps _ _ _ _ _ _ x))

pub mark_statement-returns-in_ok-mark_arms-in-Switch : goal.mark_statement-returns-in_ok-mark_arms-in-Switch
mark_statement-returns-in_ok-mark_arms-in-Switch t c =
    let keeps = words_of c.args.parts.now in
    adds_both c.args.used.now.items c.mark_word-in-Switch.new.used.items c.mark_arms.new.used.items
    (λ x. c.keeps-in-Switch.result && names c.in-Switch.test x) (arms_refer keeps c.as_slice-in-Switch.result.now) (refers keeps c.args.statement.now)
    c.in_ok-mark_word-in-Switch.ensures c.in_ok-mark_arms-in-Switch.ensures
    (λ x. rw (c.in-Switch.is, c.keeps-in-Switch.ensures, c.as_slice-in-Switch.ensures) (refers-Switch keeps _ _ _ _ x))

pub mark_statement-returns-in_ok-mark_statements-in-While : goal.mark_statement-returns-in_ok-mark_statements-in-While
mark_statement-returns-in_ok-mark_statements-in-While t c =
    let keeps = words_of c.args.parts.now in
    adds_both c.args.used.now.items c.mark_word-in-While.new.used.items c.mark_statements-in-While.new.used.items
    (λ x. c.keeps-in-While.result && names c.in-While.test x) (body_refers keeps c.as_slice-in-While.result.now) (refers keeps c.args.statement.now)
    c.in_ok-mark_word-in-While.ensures c.in_ok-mark_statements-in-While.ensures
    (λ x. rw (c.keeps-in-While.ensures, c.as_slice-in-While.ensures) (refers_loop keeps _ _ _ _ c.in-While.is x))

pub mark_statement-returns-in_ok-mark_begun-in-Declare : goal.mark_statement-returns-in_ok-mark_begun-in-Declare
mark_statement-returns-in_ok-mark_begun-in-Declare t c =
    let keeps = words_of c.args.parts.now in
    adds_same c.args.used.now.items c.mark_begun.new.used.items (λ x. begun_names keeps c.in-Declare.id c.in-Declare.var c.in-Declare.init x) (refers keeps c.args.statement.now)
    c.in_ok-mark_begun-in-Declare.ensures
    (λ x. rw (c.in-Declare.is) (refers-Declare keeps _ _ _ _ x))

pub mark_statement-returns-in_ok-mark_assigned-in-Assign : goal.mark_statement-returns-in_ok-mark_assigned-in-Assign
mark_statement-returns-in_ok-mark_assigned-in-Assign t c =
    let keeps = words_of c.args.parts.now in
    adds_same c.args.used.now.items c.mark_assigned.new.used.items (λ x. c.keeps.result && (names c.in-Assign.left x || names c.in-Assign.right x)) (refers keeps c.args.statement.now)
    c.in_ok-mark_assigned-in-Assign.ensures
    (λ x. rw (c.in-Assign.is, c.keeps.ensures) (refers-Assign keeps _ _ _ _ _ x))

pub mark_statement-returns-in_ok-mark_called-in-Invoke : goal.mark_statement-returns-in_ok-mark_called-in-Invoke
mark_statement-returns-in_ok-mark_called-in-Invoke t c =
    let keeps = words_of c.args.parts.now in
    adds_same c.args.used.now.items c.mark_called.new.used.items (λ x. keeps.statement c.in-Invoke.id && call_names keeps c.in-Invoke.id c.in-Invoke.target c.as_slice.result.now x) (refers keeps c.args.statement.now)
    c.in_ok-mark_called-in-Invoke.ensures
    (λ x. rw (c.in-Invoke.is, c.as_slice.ensures) (refers-Invoke keeps _ _ _ _ _ x))

pub mark_statement-returns-in_ok-mark_fetched-in-Fetch : goal.mark_statement-returns-in_ok-mark_fetched-in-Fetch
mark_statement-returns-in_ok-mark_fetched-in-Fetch t c =
    let keeps = words_of c.args.parts.now in
    adds_same c.args.used.now.items c.mark_fetched.new.used.items (λ x. c.keeps-in-Fetch.result && target_names c.in-Fetch.target x) (refers keeps c.args.statement.now)
    c.in_ok-mark_fetched-in-Fetch.ensures
    (λ x. rw (c.in-Fetch.is, c.keeps-in-Fetch.ensures) (refers-Fetch keeps _ _ _ x))

pub mark_statement-returns-in_ok-mark_printed-in-Print : goal.mark_statement-returns-in_ok-mark_printed-in-Print
mark_statement-returns-in_ok-mark_printed-in-Print t c =
    let keeps = words_of c.args.parts.now in
    adds_same c.args.used.now.items c.mark_printed.new.used.items (λ x. c.keeps-in-Print.result && any_names c.as_slice-in-Print.result.now x) (refers keeps c.args.statement.now)
    c.in_ok-mark_printed-in-Print.ensures
    (λ x. rw (c.in-Print.is, c.keeps-in-Print.ensures, c.as_slice-in-Print.ensures) (refers-Print keeps _ _ _ _ x))

pub mark_statement-returns-in_ok-mark_allocated-in-Heap : goal.mark_statement-returns-in_ok-mark_allocated-in-Heap
mark_statement-returns-in_ok-mark_allocated-in-Heap t c =
    let keeps = words_of c.args.parts.now in
    adds_same c.args.used.now.items c.mark_allocated.new.used.items (λ x. c.keeps-in-Heap.result && (target_names c.in-Heap.target x || amount_names c.in-Heap.amount x)) (refers keeps c.args.statement.now)
    c.in_ok-mark_allocated-in-Heap.ensures
    (λ x. rw (c.in-Heap.is, c.keeps-in-Heap.ensures) (refers-Heap keeps _ _ _ _ _ x))

pub mark_statement-returns-in_ok-mark_returned-in-Return : goal.mark_statement-returns-in_ok-mark_returned-in-Return
mark_statement-returns-in_ok-mark_returned-in-Return t c =
    let keeps = words_of c.args.parts.now in
    adds_same c.args.used.now.items c.mark_returned.new.used.items (λ x. c.keeps-in-Return.result && value_names c.in-Return.value x) (refers keeps c.args.statement.now)
    c.in_ok-mark_returned-in-Return.ensures
    (λ x. rw (c.in-Return.is, c.keeps-in-Return.ensures) (refers-Return keeps _ _ _ x))

pub mark_statement-returns-in_ok-mark_word-in-Bump : goal.mark_statement-returns-in_ok-mark_word-in-Bump
mark_statement-returns-in_ok-mark_word-in-Bump t c =
    let keeps = words_of c.args.parts.now in
    adds_same c.args.used.now.items c.mark_word-in-Bump.new.used.items (λ x. c.keeps-in-Bump.result && names c.in-Bump.e x) (refers keeps c.args.statement.now)
    c.in_ok-mark_word-in-Bump.ensures
    (λ x. rw (c.keeps-in-Bump.ensures) (refers_word keeps _ _ _ c.in-Bump.is x))
