use Rattle.std.proofs.Common.{◌∙◌, sym}
use Rattle.c_language.specs.DeclaredTypes.{StructText, struct_texts}
use Rattle.c_types_base.proofs.DefinitionLemmas.{position-map}
use Rattle.c_types_base.proofs.definitions.Definitions.struct_id.Goals as goal

pub returns : goal.returns
returns c =
    c.get.ensures ∙ c.requires.tags.numbered c.args.tag.now
    ∙ sym (position-map (λ (s : StructText). s.tag) c.args.tag.now (struct_texts c.args.self.now.raw.now.items))
