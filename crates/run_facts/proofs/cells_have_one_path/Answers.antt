use Rattle.run_facts.proofs.CellPlaces as lemmas
use Rattle.run_facts.proofs.cells_have_one_path.Goals as goal

pub returns : goal.returns
returns c = λ p order. lemmas.cells_have_one_path p order
