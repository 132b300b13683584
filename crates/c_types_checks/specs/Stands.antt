-- Where a declaration stands, as code says it.
use Rattle.c_language.specs.Phrases as phrases
use Rattle.c_types_checks.specs.declared.stand.Stand.{Stand}
use Rattle.c_types_checks.specs.declared.stand.Stand.TheVariants.{InFile, InBlock, InArm, InFor}

abbrev pub stand_of : Stand → phrases.Stand
stand_of (InFile is_static) = phrases.InFile is_static
stand_of InBlock = phrases.InBlock
stand_of InArm = phrases.InArm
stand_of InFor = phrases.InFor
