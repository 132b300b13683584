-- What a call tells when it begins, and targets that a slice keeps or drops.
use Rattle.std.proofs.Common.{◌≡◌, ℕ, [], Bool, true, false, refl}
use Rattle.c_tree.specs.declared.statement.Target.{Target}
use Rattle.c_tree.specs.declared.statement.Target.TheVariants as target
use Rattle.c_meaning.specs.Acts.{shows}
use Rattle.c_meaning.specs.Meaning.{Trace, told, announced}
use Rattle.run_facts.specs.NextSteps.{stores}
use Rattle.simulation.specs.Places.{kept_target}

-- ---- what a call tells when it begins

pub announced_plain : (i : ℕ) (to : Target) (t : Trace) → stores to ≡ false → announced i to t ≡ told i (shows [] []) t
announced_plain i target.None t e = refl
announced_plain i (target.Place l) t e = cc
announced_plain i (target.Declared x) t e = cc

pub announced_stored : (i : ℕ) (to : Target) (t : Trace) → stores to ≡ true → announced i to t ≡ t
announced_stored i target.None t e = cc
announced_stored i (target.Place l) t e = refl
announced_stored i (target.Declared x) t e = refl

-- ---- targets

pub kept_stores : (b : Bool) (to : Target) → b ≡ true → stores (kept_target b to) ≡ stores to
kept_stores true to e = refl
kept_stores false to e = cc

pub dropped_stores : (b : Bool) (to : Target) → b ≡ false → stores (kept_target b to) ≡ false
dropped_stores true to e = cc
dropped_stores false to e = refl

pub plain_stores : (b : Bool) (to : Target) → stores to ≡ false → stores (kept_target b to) ≡ false
plain_stores true to e = e
plain_stores false to e = refl
