use Rattle.std.proofs.Common.{◌≡◌, ◌++◌, List, drop, map, option_map}
use Rattle.c_language.specs.Formats.{Conversion}
use Rattle.c_types_checks.specs.Conversions.{conversion_of, behind_of, converted, converted_from}
use Rattle.c_types_checks.proofs.conversions.conversions_of.Given as goal

abbrev pub invariant-loop-byte : goal.invariant-loop-byte
invariant-loop-byte l =
    converted l.format ≡ option_map (λ (cs : List Conversion). map conversion_of l.found ++ cs) (converted_from (behind_of l.behind) (drop l.byte-index l.format))
