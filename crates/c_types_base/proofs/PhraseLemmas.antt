-- What a judgement of expressions tells of the phrase that holds them.
use Rattle.std.proofs.Common.{◌≡◌, ℕ, ◌<◌, Bool, true, false, Option, Some, None, refl, sym, ◌∙◌, true≢false, arith}
use Rattle.std.specs.Prelude.{Contains, if◌then◌else◌}
use Rattle.c_tree.specs.declared.raw.expr.RawExpr.{RawExpr}
use Rattle.c_tree.specs.declared.raw.program.RawProgram.{RawProgram}
use Rattle.c_language.specs.Scopes.{Scope}
use Rattle.c_language.specs.ExprRules.{Seen, seen, is_undeclared, lacks_header, needs_struct, selects_missing, has_bad_operand, has_no_address}
use Rattle.c_language.specs.Uses.{expressions, Holds, holds}
use Rattle.c_language.specs.Phrases.{Part}
use Rattle.c_language.specs.Rules.{Breaks, undeclared, tag, member, operator, address, no_header}
use Rattle.c_language.specs.NameRules.{UsesUndeclared, LacksHeader}
use Rattle.c_language.specs.StructRules.{MisusesTag, MisnamesMember}
use Rattle.c_language.specs.TypeRules.{MisusesOperator, MisusesAddress}
use Rattle.c_language.proofs.Operands.{IsClean}
use Rattle.c_language.proofs.Options.{none_there}
use Rattle.c_types_base.specs.Judging.{first_fault}
use Rattle.c_types_base.proofs.JudgingLaws.{FormBreaks, IsBrokenIn, Keeps}

-- a test isn't both
pub clash : {A : Type 0} {b : Bool} → b ≡ false → b ≡ true → A
clash f t = absurd (true≢false (sym t ∙ f))

passed : (b : Bool) (m : ℕ) (rest : Option ℕ) → (if b then Some m else rest) ≡ None → (b ≡ false) × (rest ≡ None)
passed true m rest h = none_there (sym h)
passed false m rest h = (refl, h)

-- the outermost form of an expression breaks none of the rules on expressions
pub record IsFaultless (raw : RawProgram) (scope : Scope) (s : Seen) : Type 0 where
  pub header : lacks_header raw s ≡ false
  pub clean : IsClean raw scope s

faultless : (raw : RawProgram) (scope : Scope) (s : Seen) → first_fault raw scope s ≡ None → IsFaultless raw scope s
faultless raw scope s h =
    let a = passed (is_undeclared scope s) 1 _ h in
    let b = passed (lacks_header raw s) 24 _ a.1 in
    let c = passed (has_bad_operand scope s) 12 _ b.1 in
    let d = passed (has_no_address s) 15 _ c.1 in
    let e = passed (needs_struct scope s) 7 _ d.1 in
    let f = passed (selects_missing raw s) 8 None e.1 in
    record { header = b.0; clean = record { declared = a.0; operands = c.0; address = d.0; complete = e.0; member = f.0 } }

module _ (raw : RawProgram) (scope : Scope) (part : Part) where
  -- every expression of the phrase breaks none
  abbrev pub AreFaultless : Type 0
  AreFaultless = (inner : RawExpr) → Holds part inner → IsFaultless raw scope (seen raw scope inner)

  pub are_faultless : ((e : RawExpr) → Contains (expressions part) e → Keeps raw scope e) → AreFaultless
  are_faultless keeps inner (holds {e} c w) = faultless raw scope (seen raw scope inner) (keeps e c inner w)

  form_breaks : (inner : RawExpr) (n : ℕ) → Holds part inner → FormBreaks raw scope (seen raw scope inner) n → 0 < n → Breaks raw scope part n
  form_breaks inner n h (FormBreaks.undeclared is) some = undeclared (UsesUndeclared.in_expression h is)
  form_breaks inner n h (FormBreaks.no_header is) some = no_header (LacksHeader.in_expression h is)
  form_breaks inner n h (FormBreaks.bad_operand is) some = operator (MisusesOperator.in_expression h is)
  form_breaks inner n h (FormBreaks.no_address is) some = address (MisusesAddress.in_expression h is)
  form_breaks inner n h (FormBreaks.incomplete is) some = tag (MisusesTag.in_expression h is)
  form_breaks inner n h (FormBreaks.missing is) some = member (MisnamesMember.missing h is)
  form_breaks inner n h (FormBreaks.untyped f s) some = absurd (omega (arith, some))

  -- a rule that is broken in an expression of the phrase is broken by the phrase
  pub broken_by : (e : RawExpr) (n : ℕ) → Contains (expressions part) e → IsBrokenIn raw scope e n → 0 < n → Breaks raw scope part n
  broken_by e n c b some = form_breaks b.inner n (holds c b.within) b.breaks some
