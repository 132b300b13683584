use Rattle.bit_rows.specs.Sets.{has}
use Rattle.run_text.proofs.NumberLemmas.{AreNumbers}
use Rattle.run_text.proofs.numbers.numbers_of.Given as goal

abbrev pub invariant-loop-test : goal.invariant-loop-test
invariant-loop-test l = AreNumbers (has l.tests) l.test-index l.before l.numbers.items
