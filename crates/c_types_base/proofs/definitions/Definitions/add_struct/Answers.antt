use Rattle.std.proofs.Common.{refl}
use Rattle.c_types_base.proofs.DefinitionLemmas.{struct_added}
use Rattle.c_types_base.proofs.definitions.Definitions.add_struct.Goals as goal

pub returns-clause-adds : goal.returns-clause-adds
returns-clause-adds c = λ items line is.
    struct_added items line c.args.self.now _ is c.args.tag.now c.args.members.now c.in_ok-places.places c.in_ok-places.ensures c.in_ok-add.ensures c.in_ok-push.ensures.ok refl refl
