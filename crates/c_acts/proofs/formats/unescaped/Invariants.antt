use Rattle.std.proofs.Common.{◌≡◌, ◌++◌, false, drop}
use Rattle.c_language.specs.Constants.{unescaped}
use Rattle.c_acts.proofs.formats.unescaped.Given as goal

abbrev pub invariant-loop-byte : goal.invariant-loop-byte
invariant-loop-byte l = unescaped false l.inside ≡ l.bytes.items ++ unescaped l.is_behind (drop l.byte-index l.inside)
