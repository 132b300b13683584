use Rattle.std.proofs.Common.{◌^◌, ◌≡◌, ◌++◌, List, map, ap₂, sym, subst, OnOk}
use Rattle.dep_model.specs.Locations.{Located}
use Rattle.dep_model.specs.LocationObjects.{placed_under, waiting}
use Rattle.dep_model.specs.declared.location.Location.{Location}
use Rattle.dep_model.specs.declared.location.Part.{Part}
use Rattle.dep_model.proofs.LocationParts.{members_few, struct_inner}
use Rattle.dep_model.proofs.locations.parts.add_parts.Goals as goal

pub add_members-requires : goal.add_members-requires
add_members-requires c =
    members_few c.args.p.now c.requires.ordered c.args.of.shape c.in-Struct.s (2 ^ 32) c.members.result.now (sym c.in-None.ensures.value) c.in-Struct.is c.members.ensures c.requires.few

pub returns-in-Struct : goal.returns-in-Struct
returns-in-Struct c = λ r.
    let own = struct_inner c.args.p.now c.requires.ordered c.args.of.shape c.in-Struct.s c.members.result.now (sym c.in-None.ensures.value) c.in-Struct.is c.members.ensures in
    let same = ap₂ (λ (w : List Part) (os : List Located). map (placed_under r w) os) c.as_slice.ensures (sym own) in
    subst (λ (ls : List Location). OnOk c.add_members.result (waiting c.args.p.now r c.add_members.new.waiting.items ≡ ls ++ waiting c.args.p.now r c.args.waiting.now.items))
    same (c.add_members.ensures c.args.p.now r)
