-- The program of a text is numbered in text order, its statements name its own variables, and its calls fit.
use Rattle.std.proofs.Common.{◌≡◌, ℕ, suc, ◌+◌, List, [], ◌∷◌, map, length, Bool, true, Option, Some, sym, ap, ◌∙◌, arith}
use Rattle.std.specs.List.{list_all}
use Rattle.c_language.proofs.Options.{some_same, more_there}
use Rattle.c_language.proofs.ProgramParts.{IsMadeOf, made_of}
use Rattle.c_language.proofs.PhraseLists.{phrases_kept}
use Rattle.c_tree.specs.declared.program.Program.{Program}
use Rattle.c_tree.specs.declared.program.Var.{Var}
use Rattle.c_tree.specs.declared.raw.program.RawProgram.{RawProgram}
use Rattle.c_language.specs.Phrases.{phrases, after_items, items_phrases}
use Rattle.c_language.specs.ProgramOf.{collected, variables_in}
use Rattle.c_language.specs.Programs.{HasProgram}
use Rattle.c_language.specs.Scopes.{outset}
use Rattle.c_language.specs.Syntax.{IsSyntax}
use Rattle.dep_model.specs.Doings.{program_doings, doing_number}
use Rattle.dep_model.specs.NumbersFrom.{from}
use Rattle.dep_model.specs.DoingNames.{doing_below}
use Rattle.dep_model.proofs.TextNumbers.{Takes}
use Rattle.numbered_texts.specs.FittingCalls.{fits, gives, parameter_counts, results_given}
use Rattle.numbered_texts.proofs.ItemCalls.{counts_are, results_are, items_pass}
use Rattle.numbered_texts.proofs.CallsFit.{counts, results, body_fits, body_gives}
use Rattle.numbered_texts.proofs.Items.{items_count, items_take, items_below}

-- as many are found as are collected
found_length : (found : List (Option Var)) (vs : List Var) → collected found ≡ Some vs → length vs ≡ length found
found_length [] vs e = ap length (sym (some_same e))
found_length (o ∷ found) vs e = let m = more_there o found vs e in let k : length m.rest ≡ length found = found_length found m.rest m.rest_there in ap length (sym m.same) ∙ ap suc k

module _ (raw : RawProgram) (p : Program) (has : HasProgram raw p) where
  abbrev parts : IsMadeOf raw p
  parts = made_of raw p has.program

  pub text_variables : (after_items raw raw.items outset).variables ≡ length p.vars
  text_variables =
      let a : length p.vars ≡ length (variables_in raw (phrases raw)) = found_length (variables_in raw (phrases raw)) p.vars parts.vars in
      let b : 0 + length (variables_in raw (items_phrases raw raw.items outset)) ≡ (after_items raw raw.items outset).variables = items_count raw raw.items outset in
      omega (arith, a, b)

  pub text_numbers : map doing_number (program_doings p) ≡ from 0 p.statements
  text_numbers =
      let t : Takes (program_doings p) 0 (after_items raw raw.items outset).statements = items_take raw raw.items outset p.functions parts.functions in
      let n : t.count ≡ p.statements = omega (arith, t.ends, parts.statements) in
      t.numbers ∙ ap (from 0) n

  pub text_names : list_all (doing_below (length p.vars)) (program_doings p) ≡ true
  text_names = items_below raw raw.items outset p.functions tt parts.functions (length p.vars) (omega (arith, text_variables))

-- the calls of a text fit, where it is syntax
pub text_calls : (raw : RawProgram) (p : Program) → HasProgram raw p → IsSyntax raw → list_all (fits (parameter_counts p)) (program_doings p) ≡ true
text_calls raw p has syntax =
    let parts = made_of raw p has.program in
    ap (λ (ns : List ℕ). list_all (fits ns) (program_doings p)) (counts_are raw raw.items outset p.functions syntax parts.functions) ∙ items_pass raw (fits (counts raw)) (body_fits raw) raw.items outset p.functions (phrases_kept raw has.rules) parts.functions

-- and each stored result is given
pub text_results : (raw : RawProgram) (p : Program) → HasProgram raw p → list_all (gives (results_given p)) (program_doings p) ≡ true
text_results raw p has =
    let parts = made_of raw p has.program in
    ap (λ (rs : List Bool). list_all (gives rs) (program_doings p)) (results_are raw raw.items outset p.functions parts.functions) ∙ items_pass raw (gives (results raw)) (body_gives raw) raw.items outset p.functions (phrases_kept raw has.rules) parts.functions
