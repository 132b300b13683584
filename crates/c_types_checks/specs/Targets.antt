-- What a check comes to that goes on with the type of what a result is stored in.
use Rattle.std.specs.Prelude.{◌≡◌, ◌<◌, Option, Result, Ok, Err}
use Rattle.c_language.specs.declared.expr_type.ExprType.{ExprType}
use Rattle.c_types_base.specs.declared.fault.Fault.{Fault}
use Rattle.c_types_base.specs.declared.fault.Fault.TheVariants.{Rule, NoMemory}
use Rattle.c_types_checks.specs.Checking.{Verdict}

-- the check goes on with the type that code answers, or breaks a rule whatever it would go on with
abbrev pub ComesTo : ((Option ExprType → Verdict) → Verdict) → Result (Option ExprType) Fault → Type 0
ComesTo check (Ok t) = (rest : Option ExprType → Verdict) → check rest ≡ rest t
ComesTo check (Err (Rule n)) = ((rest : Option ExprType → Verdict) → check rest ≡ Err n) × (0 < n)
ComesTo check (Err NoMemory) = Unit {0}
