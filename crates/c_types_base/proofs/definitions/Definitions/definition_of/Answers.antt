use Rattle.std.proofs.Common.{rules, ◌≡◌, List, option_and_then, option_copied, slice_get, bytes_eq, map, sym, ap, ◌∙◌}
use Rattle.std.specs.Borrow.{Bor}
use Rattle.c_tree.specs.declared.raw.program.RawHead.{RawHead}
use Rattle.c_language.specs.DeclaredTypes.{function_texts}
use Rattle.c_types_base.proofs.DefinitionLemmas.{position-map}
use Rattle.c_types_base.proofs.NumberingLemmas.{find_position}
use Rattle.c_types_base.proofs.definitions.Definitions.definition_of.Goals as goal

pub returns-in-None : goal.returns-in-None
returns-in-None c =
    let all = function_texts c.args.self.now.raw.now.items in
    let e = sym c.in-None.is ∙ c.get.ensures ∙ c.requires.functions.numbered c.args.name.now ∙ sym (position-map (λ (f : RawHead). f.name) c.args.name.now all) in
    ap (option_and_then (slice_get all)) e ∙ sym (find_position (λ (f : RawHead). bytes_eq f.name c.args.name.now) all)

pub returns-in-Some : goal.returns-in-Some
returns-in-Some c =
    let all = function_texts c.args.self.now.raw.now.items in
    let e = sym c.in-Some.is ∙ c.get.ensures ∙ c.requires.functions.numbered c.args.name.now ∙ sym (position-map (λ (f : RawHead). f.name) c.args.name.now all) in
    let at : option_copied c.head_at.result ≡ slice_get (map (λ (h : Bor RawHead). h.now) c.args.self.now.heads.items) c.in-Some.id = search rules in
    at ∙ ap (λ (heads : List RawHead). slice_get heads c.in-Some.id) c.requires.heads ∙ ap (option_and_then (slice_get all)) e ∙ sym (find_position (λ (f : RawHead). bytes_eq f.name c.args.name.now) all)
