use Rattle.c_print_laws.proofs.FeedlessPrograms as programs
use Rattle.c_print_laws.proofs.texts_are_feedless.Goals as goal

pub returns : goal.returns
returns c = programs.well_formed_feedless
