use Rattle.std.proofs.Common.{get_or, sym}
use Rattle.std.proofs.lemmas.List.{get_or_default}
use Rattle.dep_model.specs.declared.vertex.Vertex.{Vertex}
use Rattle.dep_model.specs.declared.vertex.VertexKind.TheVariants.{Entry}
use Rattle.vertex_layout.proofs.WordLemmas.{counted_few, counted_turn}
use Rattle.vertex_layout.proofs.fact_words.count_formal_ins.Goals as goal

abbrev none : Vertex
none = record { function = 0; kind = Entry }

pub count-requires : goal.count-requires
count-requires c =
    let l = c.loop-vertex in
    record { few = counted_few c.args.vertices.now l.vertex-index l.counts.items (get_or c.args.vertices.now l.vertex-index none).function c.requires.few l.invariant }

pub loop-vertex-preserved : goal.loop-vertex-preserved
loop-vertex-preserved c =
    let l = c.loop-vertex in
    let vs = c.args.vertices.now in
    let low = c.loop-vertex-test.true in
    counted_turn vs l.vertex-index (get_or vs l.vertex-index none) l.counts.items c.count.new.counts.items low (sym (get_or_default vs l.vertex-index _ none low)) c.in_ok-count.ensures l.invariant
