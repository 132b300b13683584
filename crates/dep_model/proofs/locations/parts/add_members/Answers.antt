use Rattle.std.proofs.Common.{arith, ◌-◌, ◌+◌, ◌≡◌, ◌∙◌, ap, sym}
use Rattle.c_tree.specs.declared.program.Member.{Member}
use Rattle.c_language.specs.TreeTypes.{shape_of}
use Rattle.dep_model.proofs.LocationParts.{member_step}
use Rattle.dep_model.proofs.locations.parts.add_members.Goals as goal

pub loop-number-preserved : goal.loop-number-preserved
loop-number-preserved c =
    let one : c.loop-number.number - 1 + 1 ≡ c.loop-number.number = omega (arith, c.loop-number-test.true) in
    record {
      is = λ p r.
          member_step p r c.args.path.now c.in_ok-inner.inner c.push.new.self c.args.members.now (c.loop-number.number - 1) c.loop-number.number c.index-members-number.result
          c.in_ok-shape.shape c.loop-number.waiting.items c.push-in-loop-number.new.self.items c.args.waiting.now.items
          one c.loop-number.invariant.within c.index-members-number.is c.in_ok-inner.ensures c.in_ok-push.ensures.ok (c.in_ok-shape.ensures ∙ ap (λ (m : Member). shape_of m.shape) (sym c.index-members-number.is))
          (c.loop-number.invariant.is p r) c.in_ok-push-2.ensures.items;
      within = omega (arith, c.loop-number.invariant.within);
    }
