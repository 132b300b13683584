use Rattle.std.proofs.Common.{slice_index_or, subst, sym}
use Rattle.slice_engine.specs.declared.engine.Criterion.{Criterion}
use Rattle.kept_lines.specs.Lines.{AreKeptLines}
use Rattle.kept_lines.proofs.Rows.{row_added}
use Rattle.kept_lines.proofs.texts.lines_text.Goals as goal

pub loop-criterion-preserved : goal.loop-criterion-preserved
loop-criterion-preserved c =
    let list = c.args.list.now in
    let i = c.loop-criterion.criterion-index in
    let none : Criterion = record { line = 0 } in
    let are = subst (AreKeptLines c.args.e.now (slice_index_or list i none).line) (sym c.as_slice-in-loop-criterion.ensures.value) c.in_ok-kept.ensures.lines in
    record {
      text = row_added c.args.e.now list i none c.loop-criterion.text c.append_row.new.text _ c.loop-criterion-test.true c.loop-criterion.invariant.text are c.in_ok-append_row.ensures;
      same = c.in_ok-kept.ensures.same;
    }
