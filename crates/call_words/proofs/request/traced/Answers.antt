use Rattle.call_words.proofs.Places.{rest_numbers}
use Rattle.call_words.proofs.request.traced.Goals as goal

pub numbers-requires : goal.numbers-requires
numbers-requires c = rest_numbers c.args.others.now c.requires.1
