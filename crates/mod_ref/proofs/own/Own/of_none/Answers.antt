use Rattle.std.proofs.Common.{List, length, refl, sym, ap, ◌∙◌}
use Rattle.bit_rows.specs.Tables.{empty_table}
use Rattle.dep_model.specs.declared.location.Location.{Location}
use Rattle.mod_ref.proofs.OwnLaws.{own_begins}
use Rattle.mod_ref.proofs.own.Own.of_none.Goals as goal

pub returns : goal.returns
returns c =
    own_begins c.args.p.now c.args.t.now c.len-functions.result c.len.result _ c.len-functions.ensures (c.len.ensures ∙ ap (λ (xs : List Location). length xs) c.requires.list_is) c.requires.points_are
    c.in_ok-effects.ensures refl refl c.in_ok-modified.ensures.empty (c.in_ok-used.ensures.empty ∙ ap (empty_table c.len-functions.result) (c.len-2.ensures ∙ sym c.len.ensures)) c.new-4.ensures.items
