use Rattle.std.proofs.Common.{get_or, sym, ap, ◌∙◌, length, refl}
use Rattle.std.proofs.lemmas.Option.{slice_get_read}
use Rattle.c_tree.specs.declared.program.Function.{Function}
use Rattle.dep_model.specs.declared.skeleton.Pair.{Pair}
use Rattle.dep_model.specs.FunctionVertices.{heads, tails}
use Rattle.dep_model.specs.Groups.{row}
use Rattle.flow_graph.proofs.FunctionLaws.{found_exactly, walked}
use Rattle.flow_graph.proofs.pairs_of.Goals as goal
use Rattle.dep_model.proofs.FunctionCode.{code_at}

pub returns-clause-exact : goal.returns-clause-exact
returns-clause-exact c =
    let p = c.args.p.now in
    let vs = c.args.vertices.now in
    let f = c.args.function in
    let own = row c.in_ok-own.own in
    let g = c.index-as_slice-function.result in
    let there = slice_get_read p.functions (length p.functions) f g refl c.requires.function (c.index-as_slice-function.is ∙ ap (λ xs. get_or xs f g) c.as_slice.ensures) in
    let all = walked own c.new-pairs.result.items c.simple.new.out.items c.statements.new.out.items c.link.new.out.items g.body c.as_slice-body.result.now (heads vs f) c.as_slice-3.result.now (tails vs f) c.as_slice-2.result.now c.in_ok-end.end c.in_ok-start.start
    c.new-pairs.ensures.items (c.as_slice-body.ensures ∙ ap (λ (h : Function). h.body) (sym c.index-as_slice-function.is)) (c.as_slice-3.ensures.value ∙ c.in_ok-heads.ensures) (c.as_slice-2.ensures.value ∙ c.in_ok-tails.ensures) c.in_ok-end.ensures.pairs c.in_ok-end.ensures.start c.in_ok-start.ensures.pairs c.in_ok-start.ensures.start c.in_ok-link.ensures in
    λ (x : Pair).
    let exactly = found_exactly p vs f own c.in_ok-own.ensures g.body (code_at p f g there) c.link.new.out.items all x in
    let same = c.ascend.ensures.same x in
    ((λ h. exactly.0 (same.0 h)), (λ h. same.1 (exactly.1 h)))
