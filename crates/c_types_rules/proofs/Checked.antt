-- The check of a phrase, as a step of the walk.
use Rattle.std.proofs.Common.{◌≡◌, ℕ, [], ◌∷◌, Result, Ok, Err, refl, sym, subst, inl}
use Rattle.c_tree.specs.declared.raw.program.RawProgram.{RawProgram}
use Rattle.c_language.specs.Scopes.{Scope, numbered}
use Rattle.c_language.specs.Phrases.{Part, phrase}
use Rattle.c_types_base.specs.Tables.{scope_of, AreRight, IsAt}
use Rattle.c_types_base.specs.declared.fault.Fault.{Fault}
use Rattle.c_types_base.specs.declared.fault.Fault.TheVariants as fault
use Rattle.c_types_base.specs.declared.tables.Tables.{Tables}
use Rattle.c_types_base.proofs.TableLaws.{tables_typed}
use Rattle.c_types_base.proofs.TypedLaws.{IsTyped}
use Rattle.c_types_checks.specs.Checking.{Decides}
use Rattle.c_types_checks.specs.PhraseChecks.{check_part}
use Rattle.c_types_base.specs.Stretches.{a_statement}
use Rattle.c_types_base.proofs.Stretching.{one_phrase}
use Rattle.c_types_rules.specs.Walks.{AnswersOf, Walks, on_line}
use Rattle.c_types_rules.specs.declared.walk_fault.WalkFault.{WalkFault}
use Rattle.c_types_checks.proofs.PhraseLaws.{kept_breaks_none, told_is_broken}
use Rattle.c_types_rules.proofs.WalkSteps.{Outcome, stays_at}

module _ (raw : RawProgram) (scope : Scope) (typed : IsTyped raw scope) (line : ℕ) (part : Part) where
  told : (d : Result (Unit {0}) Fault) → Decides (check_part raw scope part) d → AnswersOf raw (phrase line scope part ∷ []) (on_line line d)
  told (Ok x) h = (kept_breaks_none raw scope typed part h, tt)
  told (Err (fault.Rule n)) (is, some) = inl (refl, told_is_broken raw scope typed part n is)
  told (Err fault.NoMemory) h = tt

  -- what the check of a phrase tells
  pub check_answers : (d : Result (Unit {0}) Fault) (r : Outcome) → Decides (check_part raw scope part) d → r ≡ on_line line d → AnswersOf raw (phrase line scope part ∷ []) r
  check_answers d r h is = subst (AnswersOf raw (phrase line scope part ∷ [])) (sym is) (told d h)

module _ (t : Tables) (right : AreRight t) (line : ℕ) (part : Part) (d : Result (Unit {0}) Fault) (h : Decides (check_part t.raw.now (scope_of t) part) d) where
  walked : (r : Outcome) → AnswersOf t.raw.now (phrase line (scope_of t) part ∷ []) r → Walks (one_phrase line part) t t r
  walked (Ok x) kept = (kept, stays_at t)
  walked (Err e) tells = tells

  answers_here : (r : Outcome) → r ≡ on_line line d → AnswersOf t.raw.now (phrase line (scope_of t) part ∷ []) r
  answers_here r is = check_answers t.raw.now (scope_of t) (tables_typed t right) line part d r h is

  -- a phrase that leaves the tables as they are
  pub walks_phrase : (r : Outcome) → r ≡ on_line line d → Walks (one_phrase line part) t t r
  walks_phrase r is = walked r (answers_here r is)

  -- a phrase whose statement is numbered
  pub walks_numbered : (new : Tables) → on_line line d ≡ Ok tt → IsAt t new (numbered (scope_of t)) → Walks (a_statement line part) t new (Ok tt)
  walks_numbered new is at = (answers_here (Ok tt) (sym is), at)

  pub number_stops : (new : Tables) (e : WalkFault) → on_line line d ≡ Err e → Walks (a_statement line part) t new (Err e)
  number_stops new e is = answers_here (Err e) (sym is)
