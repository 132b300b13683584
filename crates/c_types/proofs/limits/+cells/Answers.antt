use Rattle.std.proofs.Common.{rules, ◌≡◌, ◌∙◌, ap, sym}
use Rattle.std.specs.Prelude.{slice_index_or}
use Rattle.c_language.specs.Limits.{cells}
use Rattle.c_types.specs.Limits.{capped}
use Rattle.c_types.proofs.LimitLemmas.{array_capped, struct_capped, capped_again, cells-Array, cells-Struct}
use Rattle.c_types.proofs.limits.+cells.Goals as goal

pub returns-in-Array-clause-is : goal.returns-in-Array-clause-is
returns-in-Array-clause-is n c = λ counts h.
    let inner : c.cells.result ≡ capped (cells counts c.in-Array.inner) = c.cells.ensures.is counts h ∙ ap (λ a. capped (cells counts a)) c.get.ensures in
    c.capped.ensures ∙ array_capped c.in-Array.length (cells counts c.in-Array.inner) c.cells.result inner
    ∙ ap capped (sym (cells-Array counts c.in-Array.inner c.in-Array.length c.in-Array.field-2) ∙ ap (cells counts) (sym c.in-Array.is))

pub returns-in-Struct-clause-is : goal.returns-in-Struct-clause-is
returns-in-Struct-clause-is n c = λ counts h.
    let found : c.unwrap_or.result ≡ slice_index_or c.args.structs.now c.in-Struct.s 0 = search rules in
    c.capped-in-Struct.ensures ∙ ap capped (found ∙ ap (λ l. slice_index_or l c.in-Struct.s 0) h ∙ struct_capped counts c.in-Struct.s) ∙ capped_again (slice_index_or counts c.in-Struct.s 0)
    ∙ ap capped (sym (cells-Struct counts c.in-Struct.s) ∙ ap (cells counts) (sym c.in-Struct.is))
