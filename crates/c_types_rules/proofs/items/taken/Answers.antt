use Rattle.std.proofs.Common.{[], ◌+◌, drop, take, subst, Err, Ok}
use Rattle.c_language.specs.Phrases as phrases
use Rattle.c_types_base.specs.Numbering.{Numbers}
use Rattle.c_types_base.specs.Tables.{scope_of}
use Rattle.c_types_base.specs.Listing.{names_given}
use Rattle.c_types_base.specs.Stretches.{then_comes}
use Rattle.c_types_rules.specs.Walks.{AnswersOf}
use Rattle.c_types_rules.proofs.Checked.{walks_phrase}
use Rattle.c_types_rules.proofs.ItemSteps.{passes_fault}
use Rattle.c_types_base.proofs.TextSteps.{taken_here, with_next, of_taken}
use Rattle.c_types_base.proofs.Stretching.{one_phrase}
use Rattle.c_types_rules.proofs.WalkSteps.{left_same, turn, stops}
use Rattle.c_types_rules.proofs.items.taken.Goals as goal

pub returns-in_err-on_line : goal.returns-in_err-on_line
returns-in_err-on_line c =
    let t = c.args.tables.now in
    let list = c.args.list.now in
    let i = c.loop-parameter.parameter-index in
    let p = c.parameter-item.result in
    let one = one_phrase p.line (phrases.Takes (take i list) p) in
    let rest = of_taken (take (i + 1) list) (drop (i + 1) list) in
    passes_fault (AnswersOf t.raw.now (phrases.taken_phrases (scope_of t) [] list)) c.in_err-on_line.field-0.0 c.from_residual.result c.from_residual.ensures.1
    (stops (of_taken [] list) t t one rest
    (left_same (of_taken [] list) t t (of_taken (take i list) (drop i list)) (then_comes one rest) (taken_here list i p t.raw.now c.loop-parameter-test.true c.parameter-item.is) c.loop-parameter.invariant.passed)
    t c.in_err-on_line.field-0.0
    (walks_phrase t c.requires p.line (phrases.Takes (take i list) p) c.check_parameter.result
    (c.check_parameter.ensures (take i list) (c.is_given-is_named.ensures (take i list) c.loop-parameter.invariant.given)) (Err c.in_err-on_line.field-0.0) c.in_err-on_line.ensures))

pub loop-parameter-preserved : goal.loop-parameter-preserved
loop-parameter-preserved c =
    let t = c.args.tables.now in
    let list = c.args.list.now in
    let i = c.loop-parameter.parameter-index in
    let p = c.parameter-item.result in
    let one = one_phrase p.line (phrases.Takes (take i list) p) in
    let rest = of_taken (take (i + 1) list) (drop (i + 1) list) in
    record {
      given = subst (λ ps. Numbers (names_given ps) c.give_name.new.names) (with_next list i p c.loop-parameter-test.true c.parameter-item.is) (c.in_ok-give_name.ensures (take i list) c.loop-parameter.invariant.given);
      passed =
          turn (of_taken [] list) t t one rest
          (left_same (of_taken [] list) t t (of_taken (take i list) (drop i list)) (then_comes one rest) (taken_here list i p t.raw.now c.loop-parameter-test.true c.parameter-item.is) c.loop-parameter.invariant.passed)
          t
          (walks_phrase t c.requires p.line (phrases.Takes (take i list) p) c.check_parameter.result
          (c.check_parameter.ensures (take i list) (c.is_given-is_named.ensures (take i list) c.loop-parameter.invariant.given)) (Ok tt) c.in_ok-on_line.ensures);
    }
