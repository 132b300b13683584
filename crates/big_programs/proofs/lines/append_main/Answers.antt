use Rattle.big_programs.proofs.Rows.{joined}
use Rattle.big_programs.specs.Generated as spec
use Rattle.big_programs.proofs.lines.append_main.Goals as goal

pub returns : goal.returns
returns c =
    joined c.args.text.now c.append.new.self c.append_end.new.text spec.main_line _ c.in_ok-append.ensures.ok
    (joined c.append.new.self c.append_result.new.text c.append_end.new.text (spec.result_line c.args.size) _ c.in_ok-append_result.ensures
    (joined c.append_result.new.text c.append-2.new.self c.append_end.new.text spec.print_line spec.end_line c.in_ok-append-2.ensures.ok c.in_ok-append_end.ensures))
