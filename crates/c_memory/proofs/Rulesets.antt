-- The equations by which the evaluator is proved.
use Rattle.c_memory.proofs.ExprForms.{forms_of}

pub ruleset expressions = (forms_of)
