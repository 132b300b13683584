-- The program of a text is well-formed, and lists no location twice.
use Rattle.std.proofs.Common.{refl}
use Rattle.c_tree.specs.declared.program.Program.{Program}
use Rattle.c_language.specs.Words.{Bytes}
use Rattle.c_language.specs.Programs.{IsWellFormed}
use Rattle.c_reader.specs.Reading.{ReadsProgram}
use Rattle.dep_model.specs.LocationLists.{AreListedOnce}
use Rattle.dep_model.proofs.LocationsOnce.{listed_once}
use Rattle.numbered_texts.proofs.NumbersButLines.{statements_numbered}

pub well_formed : {text : Bytes} {p : Program} → ReadsProgram text p → IsWellFormed p
well_formed {text} {p} reads = record {
  raw = reads.raw;
  same = p;
  tree = record { tokens = reads.accepted.tokens; is = reads.accepted.tree };
  has = reads.accepted.has;
  within = reads.within;
  but_lines = refl;
}

pub well_listed : (p : Program) → IsWellFormed p → AreListedOnce p
well_listed p well = listed_once p (statements_numbered p well)
