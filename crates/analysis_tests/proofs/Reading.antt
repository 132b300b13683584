-- The program of a text can be analysed, and it lists no location twice.
use Rattle.std.proofs.Common.{◌≤◌, length, refl, arith}
use Rattle.c_tree.specs.declared.program.Program.{Program}
use Rattle.c_language.specs.Words.{Bytes}
use Rattle.c_language.specs.Programs.{IsWellFormed}
use Rattle.c_reader.specs.Reading.{ReadsProgram}
use Rattle.dep_model.specs.LocationLists.{AreListedOnce}
use Rattle.dep_model.proofs.LocationsOnce.{listed_once}
use Rattle.numbered_texts.proofs.NumbersButLines.{statements_numbered}
use Rattle.analysis_tests.specs.Ready.{IsReady}

pub well_formed : {text : Bytes} {p : Program} → ReadsProgram text p → IsWellFormed p
well_formed {text} {p} reads = record {
  raw = reads.raw;
  same = p;
  tree = record { tokens = reads.accepted.tokens; is = reads.accepted.tree };
  has = reads.accepted.has;
  within = reads.within;
  but_lines = refl;
}

pub ready : {text : Bytes} (p : Program) → ReadsProgram text p → length p.functions ≤ 1000 → IsReady p
ready p reads few = record {
  well_formed = well_formed reads;
  few_functions = omega (arith, few);
}

pub well_listed : (p : Program) → IsWellFormed p → AreListedOnce p
well_listed p well = listed_once p (statements_numbered p well)
