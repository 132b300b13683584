-- What the check of a text answers, and when.
use Rattle.std.proofs.Common.{◌≡◌, ℕ, ◌<◌, ◌≤◌, Option, Some, Result, Ok, Err, arith, refl, sym, ap, subst, ◌∙◌}
use Rattle.std.proofs.lemmas.Bool.Decides.{nat_tests}
use Rattle.c_tree.specs.declared.limits.LimitName.{LimitName}
use Rattle.c_tree.specs.declared.limits.LimitName.TheVariants.{ArrayLength, ObjectCells}
use Rattle.c_tree.specs.declared.program.Program.{Program}
use Rattle.c_tree.specs.declared.raw.program.RawProgram.{RawProgram}
use Rattle.c_language.specs.Limits.{array_length, object_cells}
use Rattle.c_language.specs.ProgramOf.{program_of}
use Rattle.c_language.specs.Programs.{HasProgram, IsTree}
use Rattle.c_language.specs.Rules.{IsBroken, KeepsRules}
use Rattle.c_types_program.proofs.ProgramTrees.{tree_has_program}
use Rattle.c_types.specs.Limits.{capped}
use Rattle.c_types.specs.declared.rule_fault.RuleFault.{RuleFault}
use Rattle.c_types.specs.declared.rule_fault.RuleFault.TheVariants.{Rule, Limit, NoMemory}
use Rattle.c_types.specs.Checker.{IsAbove, IsWithinNumbers, Answers, Gives, NamesRule, NamesLimit}

uncapped : (n : ℕ) → 1048576 < capped n → 1048576 < n
uncapped n h = grind (arith, nat_tests)

capped_few : (n : ℕ) → capped n ≤ 1048576 → n ≤ 1048576
capped_few n h = grind (arith, nat_tests)

module _ (raw : RawProgram) where
  -- a text has one program
  one_program : {p q : Program} → HasProgram raw p → HasProgram raw q → p ≡ q
  one_program {p} {q} has also =
      let e : ◌≡◌ {A = Option Program} (Some p) (Some q) = sym has.program ∙ also.program in
      cc

  -- what is made is the text's program
  pub made : KeepsRules raw → (p : Program) → program_of raw ≡ Some p → HasProgram raw p
  made keeps p is = record { rules = keeps; program = is }

  -- an array that the tree can't hold is above the limit
  pub too_long : IsTree raw → KeepsRules raw → ((p : Program) → program_of raw ≡ Some p → 4294967296 ≤ array_length p) → IsAbove raw ArrayLength
  too_long tree keeps long =
      let found = tree_has_program raw tree keeps in
      let h = long found.0 found.1.program in
      IsAbove.lengths found.1 (omega (arith, h))

  pub lengths_above : (p : Program) → HasProgram raw p → 65536 < array_length p → IsAbove raw ArrayLength
  lengths_above p has h = IsAbove.lengths has h

  pub cells_above : (p : Program) (n : ℕ) → HasProgram raw p → array_length p ≤ 65536 → n ≡ capped (object_cells p) → 1048576 < n → IsAbove raw ObjectCells
  cells_above p n has few is h = IsAbove.cells has few (uncapped (object_cells p) (subst (λ k. 1048576 < k) is h))

  pub within : (p : Program) (n : ℕ) → HasProgram raw p → array_length p ≤ 65536 → n ≡ capped (object_cells p) → n ≤ 1048576 → IsWithinNumbers raw p
  within p n has few is h = record { has = has; lengths = few; cells = capped_few (object_cells p) (subst (λ k. k ≤ 1048576) is h) }

  -- a quantity above its number is not within it
  pub not_within : {name : LimitName} → IsAbove raw name → (p : Program) → IsWithinNumbers raw p → ⊥
  not_within (IsAbove.lengths has long) p w = omega (arith, long, w.lengths, ap array_length (one_program has w.has))
  not_within (IsAbove.cells has few many) p w = omega (arith, many, w.cells, ap object_cells (one_program has w.has))

  -- where a quantity is above its number, all rules hold
  pub rules_hold : {name : LimitName} → IsAbove raw name → KeepsRules raw
  rules_hold (IsAbove.lengths has long) = has.rules
  rules_hold (IsAbove.cells has few many) = has.rules

  -- one quantity is told of
  pub one_quantity : {name wanted : LimitName} → IsAbove raw name → IsAbove raw wanted → name ≡ wanted
  one_quantity (IsAbove.lengths has long) (IsAbove.lengths also more) = refl
  one_quantity (IsAbove.lengths has long) (IsAbove.cells also few many) = absurd (omega (arith, long, few, ap array_length (one_program has also)))
  one_quantity (IsAbove.cells has few many) (IsAbove.lengths also long) = absurd (omega (arith, long, few, ap array_length (one_program has also)))
  one_quantity (IsAbove.cells has few many) (IsAbove.cells also less more) = refl

  -- a program within the limits is given
  pub accepted : (r : Result Program RuleFault) → Answers raw r → (p : Program) → IsWithinNumbers raw p → Gives p r
  accepted (Ok q) is p w = one_program is.has w.has
  accepted (Err (Rule number line)) is p w = w.has.rules number line is
  accepted (Err (Limit name)) is p w = not_within is p w
  accepted (Err NoMemory) is p w = tt

  -- a broken rule is named
  pub broken : (r : Result Program RuleFault) → Answers raw r → (number line : ℕ) → IsBroken number line raw → NamesRule r
  broken (Ok q) is number line b = is.has.rules number line b
  broken (Err (Rule n l)) is number line b = tt
  broken (Err (Limit name)) is number line b = rules_hold is number line b
  broken (Err NoMemory) is number line b = tt

  -- a quantity above its number is named
  pub above : (r : Result Program RuleFault) → Answers raw r → (name : LimitName) → IsAbove raw name → NamesLimit name r
  above (Ok q) is name h = not_within h q is
  above (Err (Rule n l)) is name h = rules_hold h n l is
  above (Err (Limit found)) is name h = one_quantity is h
  above (Err NoMemory) is name h = tt
