use Rattle.std.proofs.Common.{rules, ◌≡◌, [], max, ◌∙◌, ap}
use Rattle.c_language.specs.Limits.{struct_cells, cells_behind, greatest_variable}
use Rattle.c_types.specs.Limits.{capped, all_capped}
use Rattle.c_types.proofs.LimitLemmas.{greatest_capped, capped_max}
use Rattle.c_types.proofs.limits.object_cells.Goals as goal
use Rattle.c_language.specs.Lists.{greatest}

pub returns : goal.returns
returns c =
    let p = c.args.p.now in
    let items : c.in_ok-structs.structs.items ≡ all_capped (struct_cells p) = c.in_ok-structs.ensures ∙ ap (λ ds. all_capped (cells_behind [] ds)) c.as_slice.ensures in
    let given : c.as_slice-2.result.now ≡ all_capped (struct_cells p) = search rules in
    let again : c.as_slice-4.result.now ≡ all_capped (struct_cells p) = search rules in
    let structs : c.greatest.result ≡ capped (greatest (struct_cells p)) = c.greatest.ensures ∙ ap greatest again ∙ greatest_capped (struct_cells p) in
    let variables : c.greatest_variable-of_variables.result ≡ capped (greatest_variable (struct_cells p) p.vars) =
    c.greatest_variable-of_variables.ensures (struct_cells p) given ∙ ap (λ vs. capped (greatest_variable (struct_cells p) vs)) c.as_slice-3.ensures in
    c.max.ensures ∙ ap (λ y. max y c.greatest_variable-of_variables.result) structs ∙ ap (λ y. max (capped (greatest (struct_cells p))) y) variables
    ∙ capped_max (greatest (struct_cells p)) (greatest_variable (struct_cells p) p.vars)
