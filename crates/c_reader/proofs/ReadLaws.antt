-- What the reading of a text answers, and when.
use Rattle.std.proofs.Common.{◌≡◌, ◌<◌, ◌≤◌, All, Result, Ok, Err, Option, Some, arith, sym, ap, subst, ◌∙◌}
use Rattle.c_tree.specs.declared.program.Program.{Program}
use Rattle.c_tree.specs.declared.raw.program.RawProgram.{RawProgram}
use Rattle.c_language.specs.Words.{Bytes}
use Rattle.c_language.specs.TokenForms.{Tokens}
use Rattle.c_language.specs.Tokens.{AreTokensOf}
use Rattle.c_language.specs.ItemGrammar.{IsProgram}
use Rattle.c_language.specs.StatementNesting.{program_nesting}
use Rattle.c_language.specs.Programs.{IsFormed, IsTreeOf}
use Rattle.c_lex.specs.declared.fault.LexFault.{LexFault}
use Rattle.c_lex.specs.declared.fault.LexFault.TheVariants as lex
use Rattle.c_lex.proofs.TokenLaws.{tokens_unique}
use Rattle.c_lex.proofs.FaultLaws.{fault_lacks}
use Rattle.c_parse.specs.declared.parse_fault.ParseFault.{ParseFault}
use Rattle.c_parse.specs.declared.parse_fault.ParseFault.TheVariants as parse
use Rattle.c_types.specs.Checker.{IsWithinNumbers}
use Rattle.c_types.specs.declared.rule_fault.RuleFault.{RuleFault}
use Rattle.c_types.specs.declared.rule_fault.RuleFault.TheVariants as rule
use Rattle.c_types.proofs.CheckerLaws.{not_within}
use Rattle.c_reader.specs.Reading.{ReadsProgram, ReadsTree}
use Rattle.c_reader.specs.Refusals.{IsLexFault, IsParseFault, IsRight, Gives, IsNesting, IsTooDeep, IsChecked, IsReadAs, IsAnswer, IsRuleFault}
use Rattle.c_reader.specs.declared.refusal.ReadRefusal.{ReadRefusal}
use Rattle.c_reader.specs.declared.refusal.ReadRefusal.TheVariants.{Lex, Parse, Check, NoMemory}
use Rattle.c_language.proofs.FormedTokens.{formed_tokens}

-- the tokens of a text are tokens of some bytes
pub tokens_formed : (text : Bytes) (ts : Tokens) → AreTokensOf text ts → All IsFormed ts
tokens_formed text ts are = formed_tokens are

module _ (text : Bytes) where
  has_tree : (ts : Tokens) (raw : RawProgram) → IsReadAs text ts raw → ReadsTree text raw
  has_tree ts raw h = record { tokens = ts; are = h.are; tree = h.read.tree }

  pub right : (r : Result Program ReadRefusal) → IsAnswer text r → IsRight text r
  right (Ok p) (ts, raw, h, w) = record {
    raw = raw;
    accepted = record { tokens = ts; are = h.are; tree = h.read.tree; has = w.has };
    within = record { nesting = h.read.nesting; lengths = w.lengths; cells = w.cells };
  }
  right (Err (Lex fault)) is = is
  right (Err (Parse fault)) is = is
  right (Err (Check fault)) (ts, raw, h, shows, first) = record { raw = raw; tree = has_tree ts raw h; nesting = h.read.nesting; shows = shows; first = first }
  right (Err NoMemory) is = tt

  -- a text with a fault has no tokens
  no_tokens : (fault : LexFault) → IsLexFault text fault → (ts : Tokens) → AreTokensOf text ts → ⊥
  no_tokens (lex.BadByte line) is ts are = fault_lacks is are
  no_tokens (lex.BadNumber line) is ts are = fault_lacks is are
  no_tokens (lex.OpenComment line) is ts are = fault_lacks is are
  no_tokens lex.NoMemory is ts are = is

  -- tokens with a fault have no tree that nests within the limit
  no_tree : (ts : Tokens) (fault : ParseFault) → IsParseFault ts fault → (raw : RawProgram) → IsTreeOf ts raw → program_nesting raw ≤ 100 → ⊥
  no_tree ts (parse.LeftOut name line) is raw tree few = tree.whole name line is.0
  no_tree ts (parse.Syntax line) is raw tree few = is.0 raw tree.grammar
  no_tree ts (parse.Nesting line) is raw tree few = let h = is.1 raw tree.grammar in omega (arith, h, few)
  no_tree ts parse.NoMemory is raw tree few = is

  -- a tree of the text is the one that is read
  same_tree : (ts : Tokens) (raw other : RawProgram) → IsReadAs text ts raw → ReadsTree text other → raw ≡ other
  same_tree ts raw other h also = h.read.only other (subst (λ us. IsProgram us other) (tokens_unique text also.tokens ts also.are h.are) also.tree.grammar)

  tree_here : (ts : Tokens) (other : RawProgram) → AreTokensOf text ts → ReadsTree text other → IsTreeOf ts other
  tree_here ts other are also = subst (λ us. IsTreeOf us other) (tokens_unique text also.tokens ts also.are are) also.tree

  no_fault : (raw : RawProgram) (fault : RuleFault) → IsRuleFault raw fault → (p : Program) → IsWithinNumbers raw p → ⊥
  no_fault raw (rule.Rule number line) is p w = w.has.rules number line is
  no_fault raw (rule.Limit name) is p w = not_within raw is p w
  no_fault raw rule.NoMemory is p w = is

  one_program : (raw : RawProgram) {p q : Program} → IsWithinNumbers raw p → IsWithinNumbers raw q → p ≡ q
  one_program raw {p} {q} w v = let e : ◌≡◌ {A = Option Program} (Some p) (Some q) = sym w.has.program ∙ v.has.program in cc

  pub tree_of_program : {p : Program} → (h : ReadsProgram text p) → ReadsTree text h.raw
  tree_of_program h = record { tokens = h.accepted.tokens; are = h.accepted.are; tree = h.accepted.tree }

  within_of : {p : Program} → (h : ReadsProgram text p) → IsWithinNumbers h.raw p
  within_of h = record { has = h.accepted.has; lengths = h.within.lengths; cells = h.within.cells }

  -- a program of the text is given
  pub accepted : (r : Result Program ReadRefusal) → IsAnswer text r → (p : Program) → ReadsProgram text p → Gives p r
  accepted (Ok q) (ts, raw, h, w) p has = one_program raw w (subst (λ x. IsWithinNumbers x p) (sym (same_tree ts raw has.raw h (tree_of_program has))) (within_of has))
  accepted (Err (Lex fault)) is p has = no_tokens fault is has.accepted.tokens has.accepted.are
  accepted (Err (Parse fault)) is p has = no_tree is.tokens fault is.shows has.raw (tree_here is.tokens has.raw is.are (tree_of_program has)) has.within.nesting
  accepted (Err (Check fault)) (ts, raw, h, shows, first) p has =
      no_fault raw fault shows p (subst (λ x. IsWithinNumbers x p) (sym (same_tree ts raw has.raw h (tree_of_program has))) (within_of has))
  accepted (Err NoMemory) is p has = tt

  -- a text whose tree nests too deep is told so
  deep_fault : (ts : Tokens) (fault : ParseFault) → IsParseFault ts fault → (raw : RawProgram) → IsTreeOf ts raw → IsNesting fault
  deep_fault ts (parse.LeftOut name line) is raw tree = tree.whole name line is.0
  deep_fault ts (parse.Syntax line) is raw tree = is.0 raw tree.grammar
  deep_fault ts (parse.Nesting line) is raw tree = tt
  deep_fault ts parse.NoMemory is raw tree = is

  too_deep : (ts : Tokens) (raw other : RawProgram) → IsReadAs text ts raw → ReadsTree text other → 100 < program_nesting other → ⊥
  too_deep ts raw other h tree many = let e = ap program_nesting (same_tree ts raw other h tree) in let few = h.read.nesting in omega (arith, e, few, many)

  pub deep : (r : Result Program ReadRefusal) → IsAnswer text r → (raw : RawProgram) → ReadsTree text raw → 100 < program_nesting raw → IsTooDeep r
  deep (Ok q) (ts, found, h, w) raw tree many = too_deep ts found raw h tree many
  deep (Err (Lex fault)) is raw tree many = no_tokens fault is tree.tokens tree.are
  deep (Err (Parse fault)) is raw tree many = deep_fault is.tokens fault is.shows raw (tree_here is.tokens raw is.are tree)
  deep (Err (Check fault)) (ts, found, h, shows, first) raw tree many = too_deep ts found raw h tree many
  deep (Err NoMemory) is raw tree many = tt

  -- a text whose tree breaks a rule, or is above a limit, is told so
  pub refused : (r : Result Program ReadRefusal) → IsAnswer text r → (raw : RawProgram) (fault : RuleFault) → ReadsTree text raw → program_nesting raw ≤ 100 → IsRuleFault raw fault → IsChecked r
  refused (Ok q) (ts, found, h, w) raw fault tree few shows = no_fault raw fault shows q (subst (λ x. IsWithinNumbers x q) (same_tree ts found raw h tree) w)
  refused (Err (Lex told)) is raw fault tree few shows = no_tokens told is tree.tokens tree.are
  refused (Err (Parse told)) is raw fault tree few shows = no_tree is.tokens told is.shows raw (tree_here is.tokens raw is.are tree) few
  refused (Err (Check told)) is raw fault tree few shows = tt
  refused (Err NoMemory) is raw fault tree few shows = tt
