-- The text of a generated program is accepted: its tree is syntax and keeps all rules and limits, and the text is the layout of the tree.
use Rattle.std.proofs.Common.{◌≡◌, ℕ, zero, suc, ◌<◌, ◌^◌, refl, ap, subst, ◌∙◌, arith}
use Rattle.c_tree.specs.declared.program.Program.{Program}
use Rattle.c_tree.specs.declared.raw.program.RawProgram.{RawProgram}
use Rattle.c_language.specs.Words.{Bytes}
use Rattle.c_language.specs.Layout.{layout}
use Rattle.c_language.specs.Programs.{HasProgram}
use Rattle.c_language.specs.Syntax.{IsSyntax}
use Rattle.c_language.proofs.ProgramParts.{made_of}
use Rattle.c_types_program.proofs.ProgramTrees.{kept_has_program}
use Rattle.c_print_laws.specs.ReadAgain.{IsReadAgain}
use Rattle.c_print_laws.proofs.ReadAgain.{layout_of_text, layout_is_read_again}
use Rattle.c_print_laws.proofs.SyntaxTrees.{syntax_well_formed}
use Rattle.c_reader.specs.Reading.{ReadsProgram}
use Rattle.big_programs.specs.Generated.{generated}
use Rattle.big_laws.specs.Trees.{generated_tree}
use Rattle.big_laws.proofs.Limits.{limits_kept}
use Rattle.big_laws.proofs.Rules.{rules_kept, some_statement}
use Rattle.big_laws.proofs.Syntax.{tree_is_syntax}
use Rattle.big_laws.proofs.Texts.{text_is_layout}

module _ (seed last : ℕ) (small : suc last < 2 ^ 64) where
  abbrev raw : RawProgram
  raw = generated_tree seed (suc last)

  syntax : IsSyntax raw
  syntax = tree_is_syntax seed (suc last) small

  read_again : (p : Program) → HasProgram raw p → IsReadAgain (generated seed (suc last)) p
  read_again p has =
      let laid : layout p ≡ generated seed (suc last) = layout_of_text raw p syntax has.rules has.program ∙ text_is_layout seed (suc last) in
      subst (λ (text : Bytes). IsReadAgain text p) laid
      (layout_is_read_again p (syntax_well_formed p (record { raw = raw; same = p; syntax = syntax; has = has; within = limits_kept seed last small p has.program; but_lines = refl })))

  reads : (p : Program) × ReadsProgram (generated seed (suc last)) p × (0 < p.statements)
  reads =
      let has = kept_has_program raw syntax (rules_kept seed last small) in
      let p = has.0 in
      let r = read_again p has.1 in
      let there = some_statement seed last small in
      let counted = (made_of raw p has.1.program).statements in
      let same : p.statements ≡ r.again.statements = ap (λ (x : Program). x.statements) r.same in
      (r.again, record { raw = r.found; accepted = r.accepted; within = r.within }, omega (arith, there, counted, same))

-- for every seed, and one function or more
pub generated_accepted : (seed size : ℕ) → 0 < size → size < 2 ^ 64 → (p : Program) × ReadsProgram (generated seed size) p × (0 < p.statements)
generated_accepted seed zero some small = absurd (omega (arith, some))
generated_accepted seed (suc last) some small = reads seed last small
