use Rattle.std.proofs.Common.{refl}
use Rattle.c_types_base.proofs.DefinitionLemmas.{nothing_added}
use Rattle.c_types_base.proofs.definitions.Definitions.add.Goals as goal

pub returns-in-Include-clause-adds : goal.returns-in-Include-clause-adds
returns-in-Include-clause-adds c = λ items is. rw c.in-Include.is (nothing_added items _ c.args.self.now refl refl is)

pub returns-in-Tag-clause-adds : goal.returns-in-Tag-clause-adds
returns-in-Tag-clause-adds c = λ items is. rw c.in-Tag.is (nothing_added items _ c.args.self.now refl refl is)

pub returns-in-Global-clause-adds : goal.returns-in-Global-clause-adds
returns-in-Global-clause-adds c = λ items is. rw c.in-Global.is (nothing_added items _ c.args.self.now refl refl is)

pub returns-in-Prototype-clause-adds : goal.returns-in-Prototype-clause-adds
returns-in-Prototype-clause-adds c = λ items is. rw c.in-Prototype.is (nothing_added items _ c.args.self.now refl refl is)
