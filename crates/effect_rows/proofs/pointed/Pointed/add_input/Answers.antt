-- The input is the first location.
use Rattle.std.proofs.Common.{Some, refl, ap, subst}
use Rattle.c_tree.specs.declared.program.Program.{Program}
use Rattle.dep_model.specs.DoingEffects.{the_input}
use Rattle.effect_rows.specs.Pointed.{AreTables}
use Rattle.effect_rows.proofs.DoingLemmas.{gains_place, input_first}
use Rattle.effect_rows.proofs.pointed.Pointed.add_input.Goals as goal

pub returns-then-self-gt0-clause-gained : goal.returns-then-self-gt0-clause-gained
returns-then-self-gt0-clause-gained c =
    let p = c.args.self.now.program in
    let tables : AreTables p c.self.inside.tables.now = subst (λ (q : Program). AreTables q c.self.inside.tables.now) (ap (λ g. g.program) c.self.view_is) c.self.invariant.tables_are in
    gains_place p c.args.row c.args.rows.now c.set.new.self the_input (Some 0) 0 (record { sized = c.requires.sized; row_in = c.requires.row_in }) tables.once (input_first p) refl c.set.ensures.added
