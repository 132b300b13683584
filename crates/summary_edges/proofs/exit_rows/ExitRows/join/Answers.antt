use Rattle.std.proofs.Common.{refl, subst}
use Rattle.std.proofs.lemmas.List.{length-set}
use Rattle.bit_rows.specs.Tables.{IsGrown}
use Rattle.summary_edges.proofs.SpreadLaws.{joined_is}
use Rattle.summary_edges.proofs.exit_rows.ExitRows.join.Goals as goal

pub returns-then-not-join_into : goal.returns-then-not-join_into
returns-then-not-join_into c =
    let old = c.args.self.now in
    let e = c.join_into.ensures in
    joined_is c.args.to c.args.from old _ _ c.requires.table c.requires.to_in c.requires.from_in e.joined (subst (λ b. IsGrown old.rows c.join_into.new.self b) c.if-not-join_into.true e.grown) e.size refl refl

pub returns : goal.returns
returns c =
    let old = c.args.self.now in
    let e = c.join_into.ensures in
    joined_is c.args.to c.args.from old _ _ c.requires.table c.requires.to_in c.requires.from_in e.joined (subst (λ b. IsGrown old.rows c.join_into.new.self b) c.if-not-join_into.false e.grown) e.size refl (length-set old.fresh.items _ _)
