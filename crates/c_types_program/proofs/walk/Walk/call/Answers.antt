use Rattle.std.proofs.Common.{◌≡◌, Some, sym, subst}
use Rattle.c_language.specs.ProgramOf as trees
use Rattle.c_types_base.specs.Tables.{scope_of}
use Rattle.c_types_trees.specs.KeptPhrases.{IsKeptCall}
use Rattle.c_types_program.proofs.SimpleForms.{call_meant, call_target, call_kept, call_has, call_passes}
use Rattle.c_types_program.proofs.walk.Walk.call.Goals as goal

pub target-requires-clause-meant : goal.target-requires-clause-meant
target-requires-clause-meant c = call_meant c.args.self.now c.requires.right c.args.line c.args.target.now c.args.function.now c.args.args.now c.requires.fits

pub target-requires-clause-fits : goal.target-requires-clause-fits
target-requires-clause-fits c = call_target c.args.self.now c.requires.right c.args.line c.args.target.now c.args.function.now c.args.args.now c.requires.fits

pub call_tree-requires-clause-kept : goal.call_tree-requires-clause-kept
call_tree-requires-clause-kept c =
    let v = c.target.new.self in
    subst (λ f. IsKeptCall v.tables.raw.now (scope_of v.tables) f c.as_slice.result.now) (sym c.bytes.ensures)
    (subst (λ all. IsKeptCall v.tables.raw.now (scope_of v.tables) c.args.function.now all) (sym c.as_slice.ensures)
    (call_kept c.args.self.now c.requires.right c.args.line c.args.target.now c.args.function.now c.args.args.now v c.in_ok-target.ensures.comes c.requires.fits))

pub returns-clause-tree : goal.returns-clause-tree
returns-clause-tree c =
    let v = c.target.new.self in
    call_has c.args.self.now c.requires.right c.args.line c.args.target.now c.args.function.now c.args.args.now v c.in_ok-target.ensures.comes c.in_ok-target.target c.in_ok-made.made c.in_ok-target.ensures.tree
    (subst (λ f. trees.call_tree v.tables.raw.now (scope_of v.tables) c.args.self.now.tables.statements c.args.line (Some c.in_ok-target.target) f c.args.args.now ≡ Some c.in_ok-made.made) c.bytes.ensures
    (subst (λ all. trees.call_tree v.tables.raw.now (scope_of v.tables) c.args.self.now.tables.statements c.args.line (Some c.in_ok-target.target) c.bytes.result.now all ≡ Some c.in_ok-made.made) c.as_slice.ensures
    c.in_ok-made.ensures))

pub returns-clause-passes : goal.returns-clause-passes
returns-clause-passes c = call_passes c.args.self.now c.requires.right c.args.line c.args.target.now c.args.function.now c.args.args.now c.target.new.self c.in_ok-target.ensures.comes c.pass.new.self c.pass.ensures.at c.pass.ensures.variables
