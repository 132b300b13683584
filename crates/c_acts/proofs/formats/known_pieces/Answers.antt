use Rattle.std.proofs.Common.{map, ap, ◌∙◌}
use Rattle.c_acts.specs.Formats.{piece_of}
use Rattle.c_acts.proofs.FormatLemmas.{pieces_known, pieces_unknown}
use Rattle.c_acts.proofs.formats.known_pieces.Goals as goal

pub returns-in-Some : goal.returns-in-Some
returns-in-Some c =
    pieces_known c.in_ok-pieces.field-0 c.in-Some.pieces c.as_slice.result.now c.args.format.now c.in_ok-pieces.ensures (c.as_slice.ensures.value ∙ c.in_ok-bytes.ensures) c.in-Some.is

pub returns : goal.returns
returns c =
    ap (map piece_of) c.new.ensures.items
    ∙ pieces_unknown c.in_ok-pieces.field-0 c.as_slice.result.now c.args.format.now c.in_ok-pieces.ensures (c.as_slice.ensures.value ∙ c.in_ok-bytes.ensures) c.in-None.is
