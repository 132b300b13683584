use Rattle.std.proofs.Common.{◌+◌, ◌≤◌, get_or, sym, arith}
use Rattle.std.proofs.lemmas.List.{get_or_default}
use Rattle.dep_model.specs.declared.vertex.Vertex.{Vertex}
use Rattle.dep_model.specs.declared.vertex.VertexKind.TheVariants.{Entry}
use Rattle.vertex_layout.proofs.WordLemmas.{added_few, added_turn}
use Rattle.vertex_layout.proofs.fact_words.words_of.Goals as goal

abbrev none : Vertex
none = record { function = 0; kind = Entry }

pub overflow_add-words : goal.overflow_add-words
overflow_add-words c =
    let l = c.loop-vertex in
    let vs = c.args.vertices.now in
    let low = c.loop-vertex-test.true in
    let few : l.words + c.width_of-words.result ≤ 67108864 =
    added_few vs c.args.counts.now l.vertex-index l.words c.width_of-words.result (get_or vs l.vertex-index none) c.requires.few c.requires.counts_are low
    (sym (get_or_default vs l.vertex-index _ none low)) c.width_of-words.ensures l.invariant in
    omega (arith, few)

pub loop-vertex-preserved : goal.loop-vertex-preserved
loop-vertex-preserved c =
    let l = c.loop-vertex in
    let vs = c.args.vertices.now in
    let low = c.loop-vertex-test.true in
    added_turn vs c.args.counts.now l.vertex-index l.words c.width_of-words.result (get_or vs l.vertex-index none) c.requires.counts_are low
    (sym (get_or_default vs l.vertex-index _ none low)) c.width_of-words.ensures l.invariant
