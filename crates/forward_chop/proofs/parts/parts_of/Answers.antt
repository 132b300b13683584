use Rattle.std.proofs.Common.{List, sym, subst}
use Rattle.forward_chop.specs.declared.field.Field.{Field}
use Rattle.forward_chop.specs.Parts.{AreFirstParts}
use Rattle.forward_chop.proofs.PartLaws.{parts_more}
use Rattle.forward_chop.proofs.parts.parts_of.Goals as goal

pub loop-first-preserved : goal.loop-first-preserved
loop-first-preserved c =
    let g = c.args.g.now in
    let part = c.in_ok-part.part in
    let e = c.in_ok-part.ensures in
    record {
      parts =
          subst (λ (ps : List Field). AreFirstParts g ps part.range.last) (sym c.in_ok-push.ensures.items)
          (parts_more g c.loop-first.parts.items c.loop-first.first part c.loop-first.invariant.parts e.part e.first);
      apart = e.apart;
      inside = e.part.inside;
    }
