use Rattle.std.proofs.Common.{◌≡◌, ◌-◌, length, arith}
use Rattle.c_language.specs.Constants.{unescaped}
use Rattle.c_acts.proofs.formats.literal_bytes.Goals as goal

pub returns-then-text-lt2 : goal.returns-then-text-lt2
unfolding unescaped
returns-then-text-lt2 c =
    let none : length c.args.text.now - 2 ≡ 0 = omega (arith, c.if-text-lt2.true) in rw none c.new.ensures.items
