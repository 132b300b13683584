use Rattle.std.proofs.Common.{◌∙◌, sym}
use Rattle.c_tree.specs.declared.raw.program.RawHead.{RawHead}
use Rattle.c_language.specs.DeclaredTypes.{function_texts}
use Rattle.c_types_base.proofs.DefinitionLemmas.{position-map}
use Rattle.c_types_base.proofs.definitions.Definitions.function_id.Goals as goal

pub returns : goal.returns
returns c =
    c.get.ensures ∙ c.requires.functions.numbered c.args.name.now
    ∙ sym (position-map (λ (f : RawHead). f.name) c.args.name.now (function_texts c.args.self.now.raw.now.items))
