-- One expression more is read.
use Rattle.std.proofs.Common.{length, subst}
use Rattle.bit_rows.specs.Tables.{IsSized}
use Rattle.dep_model.specs.Locations.{locations}
use Rattle.effect_rows.specs.Pointed.{points_in}
use Rattle.effect_rows.proofs.DoingLemmas.{reads_begin, reads_more}
use Rattle.effect_rows.proofs.doings.add_all_reads.Goals as goal

pub loop-e-init : goal.loop-e-init
loop-e-init c = record {
  gained = reads_begin c.args.g.now.program (points_in c.args.g.now) c.args.row c.args.rows.now;
  size = c.requires.sized;
  scratch_size = c.requires.scratch_sized;
}

pub loop-e-preserved : goal.loop-e-preserved
loop-e-preserved c = record {
  gained = reads_more c.args.g.now.program (points_in c.args.g.now) c.args.row c.args.list.now c.loop-e.e-index c.e-item.result c.args.rows.now c.loop-e.rows c.add_read.new.rows
      (record { sized = c.requires.sized; row_in = c.requires.row_in }) c.loop-e-test.true c.e-item.is c.loop-e.invariant.gained c.add_read.ensures.gained;
  size = subst (λ n. IsSized n (length (locations c.args.g.now.program)) c.add_read.new.rows) c.loop-e.invariant.size.rows_are c.add_read.ensures.size;
  scratch_size = c.add_read.ensures.scratch_size;
}
