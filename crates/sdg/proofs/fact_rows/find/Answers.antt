use Rattle.std.proofs.Common.{◌≡◌, ◌≤◌, ◌+◌, get_or, true, ap, ◌∙◌, sym, subst, arith}
use Rattle.std.specs.declared.alloc.Global.{Global}
use Rattle.std.specs.declared.vec.Vec.{Vec}
use Rattle.std.proofs.lemmas.List.{get_or_default}
use Rattle.dep_model.specs.declared.graph.OutRow.{OutRow}
use Rattle.dep_model.specs.declared.vertex.Vertex.{Vertex}
use Rattle.dep_model.specs.declared.vertex.VertexKind.TheVariants.{Entry}
use Rattle.dep_model.specs.FunctionVertices.{is_formal_out}
use Rattle.dep_model.specs.Graphs.{fact_words}
use Rattle.sdg.proofs.RowWords.{AreRowsSoFar, width_is, not_formal_out, row_skipped, row_fits, row_added}
use Rattle.sdg.proofs.fact_rows.find.Goals as goal
use Rattle.sdg.proofs.fact_rows.find.Goals.{in-FormalOut+in_ok-push, in_default}

abbrev none : Vertex
none = record { function = 0; kind = Entry }

-- a row stays within the words of all
fits : (c : goal.After-div_ceil) → c.loop-number.words + c.div_ceil.result ≤ fact_words c.args.vertices.now
fits c =
    let l = c.loop-number in
    let vs = c.args.vertices.now in
    let x = get_or vs l.number none in
    let at = get_or_default vs l.number x none c.loop-number-test.true in
    let out : is_formal_out x.kind ≡ true = ap is_formal_out c.in-FormalOut.is in
    let wide = width_is vs c.args.places.now.formal_ins x.function c.div_ceil.result c.at.result.now c.requires.places.formal_ins_are c.at.ensures c.div_ceil.ensures in
    let all = row_fits vs l.number x c.loop-number-test.true at l.outs.items l.words out l.invariant in
    omega (arith, wide, all)

pub overflow_cast-words : goal.overflow_cast-words
overflow_cast-words c = let all = fits c in omega (arith, all, c.requires.few_words)

pub overflow_add-words : goal.overflow_add-words
overflow_add-words c = let all = fits c in omega (arith, all, c.requires.few_words)

pub loop-number-preserved : goal.loop-number-preserved
loop-number-preserved c =
    let l = c.loop-number in
    let vs = c.args.vertices.now in
    let i = l.number in
    let x = get_or vs i none in
    let low = c.loop-number-test.true in
    let at = get_or_default vs i x none low in
    elim c.match-vertex.branch [
      | in-FormalOut+in_ok-push w ↦
          let out : is_formal_out x.kind ≡ true = ap is_formal_out w.in-FormalOut.is in
          let wide = width_is vs c.args.places.now.formal_ins x.function w.div_ceil.result w.at.result.now c.requires.places.formal_ins_are w.at.ensures w.div_ceil.ensures in
          row_added vs i x low at l.outs.items c.match-vertex.outs.items l.words c.match-vertex.words out (w.words-is ∙ ap (λ n. l.words + n) wide)
          (ap (λ (v : Vec OutRow Global). v.items) w.outs-is ∙ w.in_ok-push.ensures.items) l.invariant
      | in_default w ↦
          let skipped = row_skipped vs i x low at l.outs.items l.words (not_formal_out x.kind w.in_default.not-FormalOut) l.invariant in
          subst (λ n. AreRowsSoFar vs (i + 1) c.match-vertex.outs.items n) (sym w.words-is)
          (subst (λ (v : Vec OutRow Global). AreRowsSoFar vs (i + 1) v.items l.words) (sym w.outs-is) skipped)
    ]
