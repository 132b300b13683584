use Rattle.std.proofs.Common.{◌≡◌, ◌∙◌, false, List, length, ap, subst, rules}
use Rattle.std.specs.Prelude.{vec_len}
use Rattle.std.proofs.lemmas.List.{length-replicate}
use Rattle.matched_paths.specs.declared.vertex_range.VertexRange.{VertexRange}
use Rattle.forward_chop.specs.Pairs.{AreSpaces}
use Rattle.forward_chop.proofs.PairLaws.{laid_by}
use Rattle.forward_chop.proofs.wanted.Wanted.new.Goals as goal

pub returns-clause-laid : goal.returns-clause-laid
returns-clause-laid c =
    let spaces = c.in_ok-spaces.spaces in
    let are = subst (λ (os : List VertexRange). AreSpaces os spaces.places.items spaces.end) c.as_slice.ensures.value c.in_ok-spaces.ensures in
    let due = c.in_ok-due.ensures.items_if_clones_equal (λ y h. h) in
    let size : vec_len c.args.outs ≡ length c.args.outs.items = search rules in
    laid_by _ spaces.end are (ap length c.in_ok-pairs.ensures ∙ length-replicate spaces.end false) (ap length due ∙ length-replicate _ false ∙ c.len.ensures ∙ size)
