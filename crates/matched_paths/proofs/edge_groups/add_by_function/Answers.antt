use Rattle.std.proofs.Common.{◌≤◌, length, ◌++◌, append-nil, sym, ap, ◌∙◌, arith}
use Rattle.std.proofs.lemmas.Bool.Decides.{nat_tests}
use Rattle.std.proofs.lemmas.Option.{slice_get_past}
use Rattle.matched_paths.specs.EdgeGroups.{grouped, starts_at}
use Rattle.matched_paths.proofs.edge_groups.add_by_function.Goals as goal

pub returns-in-None : goal.returns-in-None
returns-in-None c = λ f.
    let test = c.in-None.ensures.lookup in
    let past : length c.args.vertices.now ≤ c.args.vertex = grind (arith, nat_tests, test) in
    let none = slice_get_past c.args.vertices.now c.args.vertex past in
    sym (append-nil (grouped c.args.rows.now f)) ∙ ap (λ more. grouped c.args.rows.now f ++ more) (ap (λ o. starts_at o f c.args.edge) (sym none))
