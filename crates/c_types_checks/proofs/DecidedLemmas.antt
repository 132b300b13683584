-- What code decides, one check of a list after another.
use Rattle.std.proofs.Common.{◌≡◌, ℕ, suc, ◌+◌, Result, Err, sym, ap, subst, arith}
use Rattle.c_types_base.specs.declared.fault.Fault.{Fault}
use Rattle.c_types_base.specs.declared.fault.Fault.TheVariants.{Rule, NoMemory}
use Rattle.c_types_checks.specs.Checking.{Verdict, then_kept, Decides}

-- where the first of two checks breaks a rule
pub first_decides : (v w : Verdict) (x : Fault) → Decides v (Err x) → Decides (then_kept v w) (Err x)
first_decides v w (Rule n) h = (ap (λ (u : Verdict). then_kept u w) h.0, h.1)
first_decides v w NoMemory h = tt

pub same_verdict : (v w : Verdict) (x : Result (Unit {0}) Fault) → v ≡ w → Decides w x → Decides v x
same_verdict v w x is h = subst (λ (u : Verdict). Decides u x) (sym is) h

pub one_more : (i : ℕ) → suc i ≡ i + 1
one_more i = omega arith
