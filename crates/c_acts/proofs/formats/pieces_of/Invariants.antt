use Rattle.std.proofs.Common.{◌≡◌, drop}
use Rattle.c_language.specs.Formats.{pieces_from, format_pieces}
use Rattle.c_acts.specs.Formats.{behind_of}
use Rattle.c_acts.proofs.FormatLemmas.{with_pieces}
use Rattle.c_acts.proofs.formats.pieces_of.Given as goal

abbrev pub invariant-loop-byte : goal.invariant-loop-byte
invariant-loop-byte l =
    format_pieces l.format ≡ with_pieces l.pieces.items (pieces_from (behind_of l.behind) (drop l.byte-index l.format))
