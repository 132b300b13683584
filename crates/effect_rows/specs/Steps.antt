-- Steps from some locations to others, one after another.
use Rattle.c_tree.specs.declared.program.Program.{Program}
use Rattle.dep_model.specs.Denoted.{Places, TargetsOf, no_places, part_of, targets}
use Rattle.effect_rows.specs.declared.steps.Step.{Step}
use Rattle.effect_rows.specs.declared.steps.Step.TheVariants.{Part, Targets}
use Rattle.effect_rows.specs.declared.steps.Steps.{Steps, fold-Steps}
use Rattle.effect_rows.specs.declared.steps.Steps.TheOpen.{Steps-F}

module _ (p : Program) (points : TargetsOf) where
  abbrev pub stepped : Step → Places → Places
  stepped (Part h) a = part_of p h a
  stepped Targets a = targets p points a

  abbrev pub taken_step : Steps-F (Places → Places) → Places → Places
  taken_step Steps-F.Done a = a
  taken_step Steps-F.Nowhere a = no_places
  taken_step (Steps-F.Then s rest) a = rest.now (stepped s a)

  -- the locations to which the steps lead
  abbrev pub taken : Steps → Places → Places
  taken = fold-Steps (Places → Places) taken_step
