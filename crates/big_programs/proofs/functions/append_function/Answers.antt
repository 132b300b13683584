use Rattle.big_programs.proofs.Rows.{joined}
use Rattle.big_programs.specs.Generated as spec
use Rattle.big_programs.proofs.functions.append_function.Goals as goal

pub returns : goal.returns
returns c =
    let end = c.append_end.new.text in
    joined c.args.text.now c.append_head.new.text end (spec.head_line c.args.number) _ c.in_ok-append_head.ensures
    (joined c.append_head.new.text c.append_local.new.text end (spec.local_line c.args.choices.added) _ c.in_ok-append_local.ensures
    (joined c.append_local.new.text c.append_store.new.text end (spec.store_line c.args.choices.stored) _ c.in_ok-append_store.ensures
    (joined c.append_store.new.text c.append_call.new.text end (spec.call_line c.args.choices.call) _ c.in_ok-append_call.ensures
    (joined c.append_call.new.text c.append_sum.new.text end (spec.sum_line c.args.choices.summed) _ c.in_ok-append_sum.ensures
    (joined c.append_sum.new.text c.append_return.new.text end (spec.return_line c.args.choices.returns_local) spec.end_line c.in_ok-append_return.ensures c.in_ok-append_end.ensures)))))
