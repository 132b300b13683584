-- What is known of the parts of statements that break no rule.
use Rattle.std.proofs.Common.{◌≡◌, List, [], ◌∷◌, Option, Some, None, option_map, option_and_then, Ok, ap, subst, ◌∙◌}
use Rattle.c_arith.specs.declared.int_type.IntType.{IntType}
use Rattle.c_arith.specs.declared.operators.BinaryOp.{BinaryOp}
use Rattle.c_arith.specs.IntType.{promote}
use Rattle.c_tree.specs.declared.raw.expr.RawExpr.{RawExpr}
use Rattle.c_tree.specs.declared.raw.program.RawInit.{RawInit}
use Rattle.c_tree.specs.declared.raw.program.RawInit.TheVariants as init
use Rattle.c_tree.specs.declared.raw.program.RawProgram.{RawProgram}
use Rattle.c_tree.specs.declared.raw.statement.RawLabel.TheVariants as label
use Rattle.c_language.specs.ConstantEvaluation.{value_of_constant}
use Rattle.c_language.specs.ExprTypes.{integer_of}
use Rattle.c_language.specs.Phrases.{Assigns, Bumps, Tests, Switches, Returns}
use Rattle.c_language.specs.ProgramOf.{switch_type}
use Rattle.c_language.specs.Scopes.{Scope}
use Rattle.c_language.specs.Uses.{init_exprs, cases}
use Rattle.c_language.specs.Rules.{no_constant, switch, BreaksNone}
use Rattle.c_language.specs.ArrayRules.{LacksConstant}
use Rattle.c_language.specs.SwitchRules.{MisusesSwitch}
use Rattle.c_language.specs.declared.expr_type.Operand.{Operand}
use Rattle.c_language.proofs.Options.{none_there}
use Rattle.c_language.proofs.Lists.{contains_nil, contains_first, contains_later}
use Rattle.c_language.proofs.UseLemmas.{case_among}
use Rattle.c_types_base.specs.declared.tables.Tables.{Tables}
use Rattle.c_types_base.specs.Judging.{judged}
use Rattle.c_types_base.specs.Tables.{scope_of, AreRight}
use Rattle.c_types_base.proofs.OptionLemmas.{not_none}
use Rattle.c_types_base.proofs.TreeLemmas.{operand-judged}
use Rattle.c_types_trees.specs.KeptPhrases.{IsOperand, AreOperands, IsKeptInit, none, kept, IsKeptSwitch, IsKeptLabel}
use Rattle.c_types_trees.proofs.KeptLemmas.{kept_operand}
use Rattle.c_language.specs.Options.{IsThere}

module _ (t : Tables) (right : AreRight t) where
  abbrev raw : RawProgram
  raw = t.raw.now

  abbrev scope : Scope
  scope = scope_of t

  -- the expressions of an initialiser
  pub init_operands : (i : RawInit) → IsKeptInit raw scope i → AreOperands raw scope (init_exprs i)
  init_operands init.None none a c = absurd (contains_nil a c)
  init_operands i (kept {stand} {var} keeps) a c = kept_operand t right _ keeps a c

  pub one_operand : (a : RawExpr) → IsKeptInit raw scope (init.One a) → IsOperand raw scope a
  one_operand a h = init_operands (init.One a) h a (contains_first a [])

  pub items_operands : (es : List RawExpr) → IsKeptInit raw scope (init.Items es) → AreOperands raw scope es
  items_operands es h = init_operands (init.Items es) h

  -- the places and values of simple statements
  pub assigned_operand : (a : RawExpr) (op : Option BinaryOp) (b : RawExpr) → BreaksNone raw scope (Assigns a op b) → IsOperand raw scope a
  assigned_operand a op b keeps = kept_operand t right (Assigns a op b) keeps a (contains_first a (b ∷ []))

  pub stored_operand : (a : RawExpr) (op : Option BinaryOp) (b : RawExpr) → BreaksNone raw scope (Assigns a op b) → IsOperand raw scope b
  stored_operand a op b keeps = kept_operand t right (Assigns a op b) keeps b (contains_later a b (b ∷ []) (contains_first b []))

  pub bumped_operand : (a : RawExpr) → BreaksNone raw scope (Bumps a) → IsOperand raw scope a
  bumped_operand a keeps = kept_operand t right (Bumps a) keeps a (contains_first a [])

  pub tested_operand : (a : RawExpr) → BreaksNone raw scope (Tests a) → IsOperand raw scope a
  tested_operand a keeps = kept_operand t right (Tests a) keeps a (contains_first a [])

  pub returned_operand : (v : Option RawExpr) (a : RawExpr) → v ≡ Some a → BreaksNone raw scope (Returns v) → IsOperand raw scope a
  returned_operand None a is keeps = none_there is
  returned_operand (Some b) a is keeps =
      kept_operand t right (Returns (Some a)) (subst (λ v. BreaksNone raw scope (Returns v)) is keeps) a (contains_first a [])

  -- ---- switches

  pub switch_operand : (a : RawExpr) → IsKeptSwitch raw scope a → IsOperand raw scope a
  switch_operand a h = kept_operand t right (Switches a h.labels) h.kept a (contains_first a (cases h.labels))

  -- the test of a switch is an integer
  pub switch_integer : (a : RawExpr) (x : Operand) → IsKeptSwitch raw scope a → judged raw scope a ≡ Ok x → integer_of x.shape ≡ None → ⊥
  switch_integer a x h is no_type = h.kept 11 (switch (MisusesSwitch.no_integer (operand-judged raw scope a x is) no_type))

  pub switch_promoted : (a : RawExpr) (x : Operand) (i : IntType) → judged raw scope a ≡ Ok x → integer_of x.shape ≡ Some i → switch_type raw scope a ≡ Some (promote i)
  switch_promoted a x i is of =
      ap (λ (o : Option Operand). option_map promote (option_and_then integer_of (option_map (λ (y : Operand). y.shape) o))) (operand-judged raw scope a x is)
      ∙ ap (option_map promote) of

-- ---- labels

-- the expression of a case is a constant one with a value
pub case_constant : (text : RawProgram) (a : RawExpr) → IsKeptLabel text (label.Case a) → IsThere (value_of_constant a)
case_constant text a h =
    not_none (value_of_constant a) (λ lacks. h.kept 10 (no_constant (LacksConstant.label (case_among h.labels a h.among) lacks)))
