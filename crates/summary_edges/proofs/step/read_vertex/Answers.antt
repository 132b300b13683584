use Rattle.std.proofs.Common.{◌≡◌, ◌-◌, ◌⊎◌, ◌+◌, List, Some, get_or, slice_get, sym, ap, ◌∙◌, arith}
use Rattle.std.proofs.lemmas.Option.{slice_get-get_or}
use Rattle.dep_model.specs.declared.vertex.Vertex.{Vertex}
use Rattle.dep_model.specs.declared.vertex.VertexKind.TheVariants.{Entry}
use Rattle.summary_edges.specs.Steps.{IsReadIn, IsReadOff}
use Rattle.summary_edges.proofs.StepLaws.{ReadWords, added_none, added_as, added_both, words_none, words_more, words_all, is_formal, no_formal}
use Rattle.summary_edges.proofs.step.read_vertex.Goals as goal
use Rattle.summary_edges.proofs.step.read_vertex.Goals.{After-is_formal_in}

abbrev d : Vertex
d = record { function = 0; kind = Entry }

-- the vertex that is read
at : (c : After-is_formal_in) → slice_get c.args.g.now.vertices c.args.vertex ≡ Some (get_or c.as_slice.result.now c.args.vertex d)
at c =
    let vs = c.args.g.now.vertices in
    let high = c.requires.vertex_in.1 in
    let inside = c.requires.part.inside in
    slice_get-get_or vs c.args.vertex d (omega (arith, high, inside)) ∙ ap (λ (xs : List Vertex). Some (get_or xs c.args.vertex d)) (sym c.as_slice.ensures)

pub returns-then-not-is_formal_in : goal.returns-then-not-is_formal_in
returns-then-not-is_formal_in c =
    let g = c.args.g.now in
    let v = c.args.vertex in
    added_none g c.args.part (λ a b. (a ≡ v) × IsReadOff g c.args.part c.args.table.now a b) c.args.words.now
    (λ a b h. no_formal g.vertices a _ (ap (slice_get g.vertices) h.0 ∙ at (goal.at.returns-then-not-is_formal_in c).After-is_formal_in) (sym c.is_formal_in.ensures ∙ c.if-not-is_formal_in.true) h.1.formal)

pub loop-word-init : goal.loop-word-init
loop-word-init c =
    let g = c.args.g.now in
    added_none g c.args.part (ReadWords g c.args.part c.args.table.now c.args.vertex 0) c.args.words.now (words_none g c.requires.index.shaped.rows_are c.args.part c.requires.part c.args.table.now c.args.vertex)

pub read_word-more-requires-clause-kind : goal.read_word-more-requires-clause-kind
read_word-more-requires-clause-kind c =
    is_formal c.args.g.now.vertices c.args.vertex _ (at (goal.at.read_word-more-requires-clause-kind c).After-is_formal_in) (sym c.is_formal_in.ensures ∙ c.if-not-is_formal_in.false)

pub read_word-more-requires-clause-inside : goal.read_word-more-requires-clause-inside
read_word-more-requires-clause-inside c =
    let low = c.loop-word-test.true in
    let count = c.div_ceil-count.ensures in
    omega (arith, low, count)

pub read_word-more-requires-clause-long : goal.read_word-more-requires-clause-long
read_word-more-requires-clause-long c = let a = c.loop-word.invariant.grown.long in let b = c.requires.long in omega (arith, a, b)

pub loop-word-preserved : goal.loop-word-preserved
loop-word-preserved c =
    let g = c.args.g.now in
    let p = c.args.part in
    let x = c.args.table.now in
    let v = c.args.vertex in
    let w = c.loop-word.word in
    added_as g p (λ a b. ReadWords g p x v w a b ⊎ IsReadIn g p x v w a b) (ReadWords g p x v (w + 1)) c.args.words.now c.read_word-more.new.words _ (words_more g c.requires.index.shaped.rows_are p c.requires.part x v w)
    (added_both g p (ReadWords g p x v w) (IsReadIn g p x v w) c.args.words.now c.loop-word.words c.read_word-more.new.words c.loop-word.grows c.read_word-more.result c.loop-word.invariant c.read_word-more.ensures)

pub returns : goal.returns
returns c =
    let g = c.args.g.now in
    let p = c.args.part in
    let x = c.args.table.now in
    let v = c.args.vertex in
    let w = c.loop-word.word in
    let formal = is_formal g.vertices v _ (at (goal.at.returns c).After-is_formal_in) (sym c.is_formal_in.ensures ∙ c.if-not-is_formal_in.false) in
    let ended = c.loop-word-test.false in
    let count = c.div_ceil-count.ensures in
    added_as g p (ReadWords g p x v w) (λ a b. (a ≡ v) × IsReadOff g p x a b) c.args.words.now c.loop-word.words c.loop-word.grows
    (words_all g c.requires.index.shaped.rows_are p c.requires.part x v w c.requires.vertex_in formal (omega (arith, ended, count))) c.loop-word.invariant
