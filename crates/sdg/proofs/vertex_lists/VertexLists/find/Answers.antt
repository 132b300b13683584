use Rattle.std.proofs.Common.{ℕ, get_or, arith}
use Rattle.std.proofs.lemmas.List.{get_or_default}
use Rattle.dep_model.specs.declared.vertex.Vertex.{Vertex}
use Rattle.dep_model.specs.declared.vertex.VertexKind.TheVariants.{Entry}
use Rattle.dep_model.specs.FunctionVertices.{numbers_from}
use Rattle.sdg.specs.VertexLists.{has_key, list_at, lists_of}
use Rattle.dep_model.proofs.NumberedFrom.{numbers_turn}
use Rattle.sdg.proofs.vertex_lists.VertexLists.find.Goals as goal

abbrev none : Vertex
none = record { function = 0; kind = Entry }

pub loop-vertex-preserved : goal.loop-vertex-preserved
loop-vertex-preserved c =
    let l = c.loop-vertex in
    let vs = c.args.vertices.now in
    let low = c.loop-vertex-test.true in
    record {
      lists_are = λ (k : ℕ).
          numbers_turn (has_key c.args.grouping k) vs l.vertex-index (get_or vs l.vertex-index none) l.number (list_at (lists_of l.lists) k) (list_at (lists_of c.add_vertex.new.lists) k) (numbers_from (has_key c.args.grouping k) 0 vs)
          low (get_or_default vs l.vertex-index _ none low) (l.invariant.lists_are k) (c.in_ok-add_vertex.ensures k);
      number_is = let h = l.invariant.number_is in omega (arith, h);
    }
