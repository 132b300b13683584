use Rattle.std.proofs.Common.{subst}
use Rattle.call_words.proofs.Places.{line_numbers}
use Rattle.call_words.specs.Clap.{value_found}
use Rattle.call_words.specs.Forms.{texts}
use Rattle.call_words.specs.Requests.{CanAsk}
use Rattle.call_words.proofs.request.made.Goals as goal

pub numbers-requires : goal.numbers-requires
numbers-requires c =
    line_numbers c.args.others.now (value_found c.args.matches.now)
    (subst (λ command. CanAsk command (texts c.args.others.now) (value_found c.args.matches.now)) c.in-Slice.is c.requires)
