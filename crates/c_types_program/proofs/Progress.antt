-- How far the walk has come along a stretch of the text: what is left of it fits, and what is passed has been made.
use Rattle.std.proofs.Common.{◌≡◌, subst}
use Rattle.c_tree.specs.declared.raw.program.RawProgram.{RawProgram}
use Rattle.c_language.specs.Phrases.{Phrases}
use Rattle.c_language.specs.ProgramOf.{variables_in}
use Rattle.c_language.specs.Scopes.{Scope, Scoped}
use Rattle.c_language.proofs.PhraseLists.{variables-append}
use Rattle.c_types_base.specs.Tables.{scope_of}
use Rattle.c_types_base.specs.Stretches.{Stretch, then_comes, nothing}
use Rattle.c_types_program.specs.declared.walk.Walk.{Walk}
use Rattle.c_types_trees.specs.FitPhrases.{AreFit}
use Rattle.c_types_program.specs.Variables.{Grow}
use Rattle.c_types_program.specs.Items.{FitsStretch, PassesStretch}
use Rattle.c_types_program.proofs.Growing.{fit_both}
use Rattle.c_types_program.proofs.Standing.{Stands, told, given, goes, came}
use Rattle.c_types_program.proofs.Turns.{Gaining, gain, gained}

-- the walk has come from one scope to another: what is left fits, and what is made and what is left are all of the whole
pub record Place (whole rest : Stretch) (raw : RawProgram) (scope now : Scope) (old new : Walk) : Type 0 where
  pub stands : Stands raw now new.tables
  pub fit : AreFit raw ((rest raw).gives now)
  pub after : (rest raw).after now ≡ (whole raw).after scope
  pub gains : Gaining old new (variables_in raw ((rest raw).gives now)) (variables_in raw ((whole raw).gives scope))

module _ {whole : Stretch} {raw : RawProgram} {scope now : Scope} {old new : Walk} where
  -- what is left, put another way
  pub left_as : (rest other : Stretch) → rest raw ≡ other raw → Place whole rest raw scope now old new → Place whole other raw scope now old new
  left_as rest other is h = record {
    stands = h.stands;
    fit = subst (λ (x : Scoped Phrases). AreFit raw (x.gives now)) is h.fit;
    after = subst (λ (x : Scoped Phrases). x.after now ≡ (whole raw).after scope) is h.after;
    gains = subst (λ (x : Scoped Phrases). Gaining old new (variables_in raw (x.gives now)) (variables_in raw ((whole raw).gives scope))) is h.gains;
  }

  module _ (one rest : Stretch) (h : Place whole (then_comes one rest) raw scope now old new) where
    parts : AreFit raw ((one raw).gives now) × AreFit raw ((rest raw).gives ((one raw).after now))
    parts = fit_both raw ((one raw).gives now) ((rest raw).gives ((one raw).after now)) h.fit

    -- what comes next fits
    pub next_fits : FitsStretch one new
    next_fits = given (λ r x. AreFit r ((one r).gives x)) h.stands parts.0

    -- once it is passed, the rest is left
    pub comes_on : (later : Walk) → PassesStretch one new later → Place whole rest raw scope ((one raw).after now) old later
    comes_on later passes = record {
      stands = goes (λ r x. (one r).after x) h.stands passes.arrives;
      fit = parts.1;
      after = h.after;
      gains =
          gain (subst (λ vs. Gaining old new vs (variables_in raw ((whole raw).gives scope))) (variables-append raw ((one raw).gives now) ((rest raw).gives ((one raw).after now))) h.gains)
          (told (λ r x. Grow new.variables later.variables (variables_in r ((one r).gives x))) h.stands passes.grow);
    }

-- where nothing is left, all is passed
pub all_gone : {whole : Stretch} {now : Scope} {old new : Walk} → Place whole nothing old.tables.raw.now (scope_of old.tables) now old new → PassesStretch whole old new
all_gone h = record { arrives = came h.stands h.after; grow = gained h.gains }

-- the walk has come to some scope
pub record Along (whole rest : Stretch) (raw : RawProgram) (scope : Scope) (old new : Walk) : Type 0 where
  pub now : Scope
  pub at : Place whole rest raw scope now old new
