-- Laws of dependence, for every program.
use Rattle.std.specs.Prelude.{◌≡◌, map}
use Rattle.std.specs.List.{range_with_len}
use Rattle.c_tree.specs.declared.program.Program.{Program}
use Rattle.dep_model.specs.Denoted.{TargetsOf}
use Rattle.dep_model.specs.Doings.{doing_number, program_doings}
use Rattle.dep_model.specs.LocationLists.{AreListedOnce}
use Rattle.dep_model.specs.MayPoint.{IsPointsTo}
use Rattle.dep_model.specs.SystemGraph.{Analysis, IsAnalysis}

-- the one analysis of a program
pub record IsOneAnalysis (p : Program) (a : Analysis) : Type 0 where
  pub is_analysis : IsAnalysis p a
  pub one : (b : Analysis) → IsAnalysis p b → b ≡ a

-- where it is known what each location may point to, a program has its one analysis
abbrev pub ProgramsHaveOneAnalysis : Type 0
ProgramsHaveOneAnalysis = (p : Program) (points : TargetsOf) → IsPointsTo p points → (a : Analysis) × IsOneAnalysis p a

-- a program lists no location twice, where its statements, function by function, have the numbers 0, 1, and so on up to their count
abbrev pub LocationsAreListedOnce : Type 0
LocationsAreListedOnce = (p : Program) → map doing_number (program_doings p) ≡ range_with_len 0 p.statements → AreListedOnce p
