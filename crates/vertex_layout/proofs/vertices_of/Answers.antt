-- Each limit is told of the program's vertices.
use Rattle.std.proofs.Common.{◌≡◌, ◌<◌, ◌≤◌, List, length, Result, Ok, Err, refl, sym, ap, ◌∙◌, subst, arith}
use Rattle.std.specs.Result.{IsErrAnd, IfErr}
use Rattle.c_tree.specs.declared.limits.LimitName.{LimitName}
use Rattle.c_tree.specs.declared.limits.LimitName.TheVariants as limit
use Rattle.dep_model.specs.declared.graph_fault.GraphFault.{GraphFault}
use Rattle.dep_model.specs.declared.graph_fault.GraphFault.TheVariants.{Limit}
use Rattle.dep_model.specs.declared.vertex.Vertex.{Vertex}
use Rattle.dep_model.specs.Graphs.{fact_words}
use Rattle.dep_model.specs.LocationRows.{effects_of}
use Rattle.dep_model.specs.VertexOrder.{program_vertices}
use Rattle.vertex_layout.specs.Limits.{IsBeyond, vertices, words}
use Rattle.vertex_layout.specs.Listing.{IsAbove}
use Rattle.vertex_layout.specs.Seen.{SeenProgram, effects_in}
use Rattle.vertex_layout.proofs.vertices_of.Goals as goal

fault_on : {A : Type 0} (P : GraphFault → Type 0) (e : GraphFault) (r : Result A GraphFault) → IsErrAnd r (λ y. y ≡ e) → P e → IfErr r P
fault_on P e (Ok x) h told = absurd h
fault_on P e (Err y) h told = subst P (sym h) told

same_limit : (n : LimitName) → Limit limit.FactWords ≡ Limit n → n ≡ limit.FactWords
same_limit limit.FactWords e = refl
same_limit n e = cc

too_many : (vs : List Vertex) (e : GraphFault) → IsAbove (length vs) e → (name : LimitName) → e ≡ Limit name → IsBeyond vs name
too_many vs e above name is = let told = above name is in subst (IsBeyond vs) (sym told.0) (vertices told.1)

abbrev listed : SeenProgram → List Vertex
listed s = program_vertices s.program (effects_in s)

pub returns-in_err-find-clause-above : goal.returns-in_err-find-clause-above
returns-in_err-find-clause-above c =
    let vs = program_vertices c.args.p.now (effects_of c.args.p.now c.args.effects.now) in
    let e = c.in_err-find.field-0.0 in
    fault_on (λ f. (name : LimitName) → f ≡ Limit name → IsBeyond vs name) e c.from_residual.result c.from_residual.ensures.1
    (too_many vs e (subst (λ (s : SeenProgram). IsAbove (length (listed s)) e) c.of-seen.ensures c.in_err-find.ensures.above))

pub returns-then-branch-gt-MAX_FACT_WORDS-clause-above : goal.returns-then-branch-gt-MAX_FACT_WORDS-clause-above
returns-then-branch-gt-MAX_FACT_WORDS-clause-above c name is =
    let vs = program_vertices c.args.p.now (effects_of c.args.p.now c.args.effects.now) in
    let items : c.into_list-vertices.result.items ≡ vs = c.into_list-vertices.ensures.items ∙ c.in_ok-find.ensures.added ∙ ap listed c.of-seen.ensures in
    let few : length vs ≤ 65536 = subst (λ (xs : List Vertex). length xs ≤ 65536) items c.into_list-vertices.ensures.few in
    let told = c.in_ok-find-2.ensures ∙ ap (λ (xs : List Vertex). fact_words xs) (c.as_slice.ensures.value ∙ items) in
    let high = c.if-branch-gt-MAX_FACT_WORDS.true in
    let many : 262144 < fact_words vs = omega (arith, told, high) in
    subst (IsBeyond vs) (sym (same_limit name is)) (words few many)
