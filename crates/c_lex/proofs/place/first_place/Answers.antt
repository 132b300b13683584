use Rattle.std.proofs.Common.{◌+◌, sym, ap, ◌∙◌, option_map, Some, add-zero}
use Rattle.c_lex.specs.Sought.{stands}
use Rattle.c_lex.proofs.Loops.{place_more, place_here, place_end, shifted}
use Rattle.c_lex.proofs.place.first_place.Goals as goal

pub returns-then-stands-clause-value : goal.returns-then-stands-clause-value
returns-then-stands-clause-value c =
    let e = place_here (stands c.args.sought) c.args.bytes.now c.loop-i.i c.loop-i-test.true (ap (stands c.args.sought) (sym c.behind.ensures) ∙ sym c.stands.ensures ∙ c.if-stands.true) in
    sym (c.loop-i.invariant ∙ ap (option_map (λ n. c.loop-i.i + n)) e ∙ ap Some (add-zero c.loop-i.i))

pub loop-i-preserved : goal.loop-i-preserved
loop-i-preserved c =
    let e = place_more (stands c.args.sought) c.args.bytes.now c.loop-i.i c.loop-i-test.true (ap (stands c.args.sought) (sym c.behind.ensures) ∙ sym c.stands.ensures ∙ c.if-stands.false) in
    c.loop-i.invariant ∙ ap (option_map (λ n. c.loop-i.i + n)) e ∙ shifted c.loop-i.i _

pub returns-clause-value : goal.returns-clause-value
returns-clause-value c =
    let e = place_end (stands c.args.sought) c.args.bytes.now c.loop-i.i c.loop-i-test.false in
    sym (c.loop-i.invariant ∙ ap (option_map (λ n. c.loop-i.i + n)) e)
