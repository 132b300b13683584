use Rattle.std.proofs.Common.{ap, sym, ◌∙◌}
use Rattle.std.specs.Prelude.{bytes_eq}
use Rattle.c_tree.specs.declared.raw.program.RawHead.{RawHead}
use Rattle.c_language.specs.DeclaredTypes.{defined_functions}
use Rattle.c_types_checks.proofs.PlaceLemmas.{is_within, any_before}
use Rattle.c_types_checks.proofs.text.is_defined_before.Goals as goal

pub returns-in-None : goal.returns-in-None
returns-in-None c =
    ap (is_within c.args.tables.now.functions) (sym c.in-None.is ∙ c.function_id.ensures)
    ∙ sym (any_before (λ (f : RawHead). bytes_eq f.name c.args.name.now) c.args.tables.now.functions (defined_functions c.args.tables.now.raw.now))

pub returns-in-Some : goal.returns-in-Some
returns-in-Some c =
    ap (is_within c.args.tables.now.functions) (sym c.in-Some.is ∙ c.function_id.ensures)
    ∙ sym (any_before (λ (f : RawHead). bytes_eq f.name c.args.name.now) c.args.tables.now.functions (defined_functions c.args.tables.now.raw.now))
