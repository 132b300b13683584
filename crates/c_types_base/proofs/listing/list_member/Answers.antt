use Rattle.std.proofs.Common.{rules, ◌≡◌, List, ℕ, Some, subst, bytes_eq}
use Rattle.std.specs.Map.{update}
use Rattle.std.proofs.lemmas.Map.Text.{hash_map_updates_str}
use Rattle.c_language.specs.DeclaredTypes as types
use Rattle.c_types_base.specs.Names.{listed_type}
use Rattle.c_types_base.proofs.ListingLaws.{member_listed}
use Rattle.c_types_base.proofs.listing.list_member.Goals as goal

pub returns : goal.returns
returns c = λ before has.
    let m = c.args.member.now in
    let old = c.args.listed.now in
    let new = record old { entries = c.insert.new.self } in
    let typed : types.written_type c.args.tables.now.raw.now m.shape ≡ Some c.unwrap-shape.result = search rules in
    member_listed c.args.tables.now.raw.now before m old new c.unwrap-shape.result has typed c.requires.fresh
    (subst (λ (w : List ℕ). (q : List ℕ) → listed_type q new ≡ update bytes_eq (λ x. listed_type x old) w (Some c.unwrap-shape.result) q) c.bytes.ensures
    (hash_map_updates_str c.bytes.result.now old.entries c.insert.new.self (Some c.unwrap-shape.result) c.in_ok-insert.ensures.updates))
