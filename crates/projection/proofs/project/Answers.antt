use Rattle.std.proofs.Common.{◌≡◌, ℕ, map, ◌&&◌, ◌||◌, not, ap, ◌∙◌, subst}
use Rattle.std.specs.Prelude.{IfOk}
use Rattle.bit_rows.specs.Sets.{has}
use Rattle.projection.specs.KeptVertices.{still_gives, is_taken, is_taken_still}
use Rattle.kept_numbers.specs.Pairs.{marked}
use Rattle.projection.specs.Parts.{words_of, AreKept}
use Rattle.projection.specs.Referring.{functions_refer}
use Rattle.projection.proofs.WholeLemmas.{left_is_projection}
use Rattle.projection.proofs.project.Goals as goal

pub returns : goal.returns
returns c =
    let vs = c.args.g.now.vertices in
    let set = c.args.kept.now in
    let p = c.args.p.now in
    let m = c.in_ok-parts.parts in
    let kept : AreKept vs set m = subst (λ xs. AreKept xs set m) c.as_slice.ensures c.in_ok-parts.ensures in
    let stay : (x : ℕ) → has c.as_slice-4.result.now x ≡ (is_taken_still (has m.functions.items) (marked m.parameters) 0 p.functions x || (not (is_taken p.functions x) && functions_refer (words_of m) p.functions x)) =
    λ x. ap (λ s. has s x) c.as_slice-4.ensures.value ∙ c.in_ok-variables.ensures x
    ∙ ap (λ fs. is_taken_still (has m.functions.items) (marked m.parameters) 0 fs x || (not (is_taken fs x) && functions_refer (words_of m) fs x)) c.as_slice-2.ensures in
    let give : c.as_slice-5.result.now ≡ map (still_gives (has m.statements.items)) p.functions =
    c.as_slice-5.ensures.value ∙ c.in_ok-gives.ensures ∙ ap (map (still_gives (has m.statements.items))) c.as_slice-3.ensures in
    subst (λ z. IfOk c.program.result (λ q. q ≡ z))
    (left_is_projection p vs set m kept c.in_ok-selection.selection c.as_slice-4.result.now c.as_slice-5.result.now c.in_ok-selection.ensures stay give) c.program.ensures
