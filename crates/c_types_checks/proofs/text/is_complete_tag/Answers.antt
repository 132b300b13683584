use Rattle.std.proofs.Common.{rules, ◌≡◌, ap, sym, ◌∙◌}
use Rattle.std.specs.Prelude.{bytes_eq, nat_lt, vec_len}
use Rattle.c_language.specs.DeclaredTypes.{StructText, defined_structs}
use Rattle.c_types_checks.proofs.PlaceLemmas.{is_within, any_before}
use Rattle.c_types_checks.proofs.text.is_complete_tag.Goals as goal

pub returns-in-None : goal.returns-in-None
returns-in-None c =
    ap (is_within (vec_len c.args.tables.now.structs)) (sym c.in-None.is ∙ c.struct_id.ensures)
    ∙ sym (any_before (λ (s : StructText). bytes_eq s.tag c.args.tag.now) (vec_len c.args.tables.now.structs) (defined_structs c.args.tables.now.raw.now))

pub returns-in-Some : goal.returns-in-Some
returns-in-Some c =
    let size : c.len.result ≡ vec_len c.args.tables.now.structs = search rules in
    ap (nat_lt c.in-Some.id) size
    ∙ ap (is_within (vec_len c.args.tables.now.structs)) (sym c.in-Some.is ∙ c.struct_id.ensures)
    ∙ sym (any_before (λ (s : StructText). bytes_eq s.tag c.args.tag.now) (vec_len c.args.tables.now.structs) (defined_structs c.args.tables.now.raw.now))
