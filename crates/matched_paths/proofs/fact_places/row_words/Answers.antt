use Rattle.std.proofs.Common.{◌∙◌, arith}
use Rattle.std.proofs.lemmas.List.{length-set}
use Rattle.dep_model.specs.declared.graph.OutRow.{OutRow}
use Rattle.matched_paths.proofs.RowLaws.{row_stored}
use Rattle.matched_paths.proofs.fact_places.row_words.Goals as goal

pub loop-row-preserved : goal.loop-row-preserved
loop-row-preserved c =
    let d : OutRow = record { vertex = 0; word = 0 } in
    let i = c.loop-row.invariant in
    let inside = c.requires.inside c.loop-row.row-index d c.loop-row-test.true in
    record {
      size = length-set c.loop-row.words.items _ _ ∙ i.size;
      known = row_stored c.args.outs.now c.loop-row.row-index d c.loop-row.words.items c.loop-row-test.true c.requires.apart (let s = i.size in omega (arith, s, inside)) i.known;
    }
