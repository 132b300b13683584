use Rattle.std.proofs.Common.{◌≡◌, ◌∷◌, [], ◌++◌, refl, subst}
use Rattle.c_types_base.specs.Numbering.{Numbers}
use Rattle.c_types_base.proofs.DefinitionLemmas.{function_added}
use Rattle.c_types_base.proofs.definitions.Definitions.add_function.Goals as goal

pub returns-clause-adds : goal.returns-clause-adds
returns-clause-adds c = λ items line body is.
    let name : c.bytes.result.now ≡ c.args.head.now.name = c.bytes.ensures in
    function_added items line c.args.self.now _ is c.args.head body
    (λ names h. subst (λ w. Numbers (names ++ w ∷ []) c.add.new.self) name (c.in_ok-add.ensures names h)) c.in_ok-push.ensures.items refl refl
