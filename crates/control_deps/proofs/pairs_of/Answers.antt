use Rattle.std.proofs.Common.{get_or, sym, ap, ◌∙◌, length, refl}
use Rattle.std.proofs.lemmas.Option.{slice_get_read}
use Rattle.c_tree.specs.declared.program.Function.{Function}
use Rattle.dep_model.specs.declared.skeleton.Pair.{Pair}
use Rattle.dep_model.specs.FunctionVertices.{is_entry, numbers}
use Rattle.dep_model.specs.Groups.{row}
use Rattle.control_deps.proofs.ControlLaws.{found_exactly, walked}
use Rattle.control_deps.proofs.pairs_of.Goals as goal
use Rattle.dep_model.proofs.FunctionCode.{code_at}

pub returns-clause-exact : goal.returns-clause-exact
returns-clause-exact c =
    let p = c.args.p.now in
    let vs = c.args.vertices.now in
    let f = c.args.function in
    let own = row c.in_ok-own.own in
    let g = c.index-as_slice-function.result in
    let there = slice_get_read p.functions (length p.functions) f g refl c.requires.function (c.index-as_slice-function.is ∙ ap (λ xs. get_or xs f g) c.as_slice.ensures) in
    let all = walked own f vs c.new-pairs.result.items c.statements.new.out.items c.attach.new.out.items g.body c.as_slice-body.result.now (numbers is_entry f vs) c.as_slice-2.result.now c.as_slice-3.result.now
    c.new-pairs.ensures.items (c.as_slice-body.ensures ∙ ap (λ (h : Function). h.body) (sym c.index-as_slice-function.is)) (c.as_slice-2.ensures.value ∙ c.in_ok-entry.ensures) (c.as_slice-3.ensures.value ∙ c.in_ok-entry.ensures) c.in_ok-statements.ensures c.in_ok-attach.ensures in
    λ (x : Pair).
    let exactly = found_exactly p vs f own c.in_ok-own.ensures g.body (code_at p f g there) c.attach.new.out.items all x in
    let same = c.ascend.ensures.same x in
    ((λ h. exactly.0 (same.0 h)), (λ h. same.1 (exactly.1 h)))
