-- Stretches of a text, part by part, and the names that they leave.
use Rattle.std.proofs.Common.{◌≡◌, ℕ, ◌+◌, ◌<◌, List, [], ◌∷◌, ◌++◌, length, drop, get_or, map, Option, Some, None, refl, sym, ap, subst, ◌∙◌}
use Rattle.c_tree.specs.declared.raw.expr.RawExpr.{RawExpr}
use Rattle.c_tree.specs.declared.raw.program.RawParam.{RawParam}
use Rattle.c_tree.specs.declared.raw.program.RawInit.TheVariants as init
use Rattle.c_tree.specs.declared.raw.program.RawProgram.{RawProgram}
use Rattle.c_tree.specs.declared.raw.statement.RawStatement.{RawStatement}
use Rattle.c_tree.specs.declared.raw.statement.RawStatement.TheOpen.{RawArm-F}
use Rattle.c_tree.specs.declared.raw.statement.RawStatement.TheVariants as s
use Rattle.c_tree.specs.declared.raw.statement.RawArm.{RawArm, fold_out-RawArm}
use Rattle.c_language.specs.Words.{Bytes}
use Rattle.c_language.specs.Scopes.{Scope, Scoped, opened, with_named, with_parameter, with_parameters, parameter_of, in_order, after_all, numbered}
use Rattle.c_language.specs.Phrases.{Stand, InFor, InBlock, InArm, Phrases, joined_at, ArmText, labels_of, phrases_step, scoped_step, scoped_arm, scoped, scoped_of_arm, Part, Tests, phrase}
use Rattle.c_language.proofs.ScopedForms.{scoped-For}
use Rattle.c_language.proofs.Turns.{drop_turn}
use Rattle.c_types_base.proofs.ScopeLaws.{Extends, stays, then_extends, variable_extends, block_extends, statement_grows}
use Rattle.c_types_base.specs.Stretches.{then_comes, enclosed, standing, of_statement, of_statements, of_block, of_arms, of_part, of_parameters, labels_in, Stretch}

-- no phrase, and a statement is numbered
abbrev pub a_number : Stretch
a_number raw = record { gives = λ (scope : Scope). []; after = numbered }

-- a phrase, which leaves the scope as it is
abbrev pub one_phrase : ℕ → Part → Stretch
one_phrase line part raw = record { gives = λ (scope : Scope). phrase line scope part ∷ []; after = λ (scope : Scope). scope }

abbrev pub of_arm : RawArm → Stretch
of_arm a raw = record { gives = λ (scope : Scope). ((scoped_of_arm raw a).gives scope).phrases; after = (scoped_of_arm raw a).after }

-- a for behind its number: init, test, step and body
abbrev pub of_for : ℕ → Option RawStatement → RawExpr → Option RawStatement → List RawStatement → Stretch
of_for line i test step body =
    then_comes (of_part InFor i) (then_comes (one_phrase line (Tests test)) (then_comes (of_part InBlock step) (of_block body)))

-- the names before the stretch stand at the front of those after it
abbrev pub Grows : Scoped Phrases → Type 0
Grows w = (x : Scope) → Extends x (w.after x)

module _ (raw : RawProgram) where
  abbrev arm_gives : RawArm-F (Scoped (Stand → Phrases)) (Scoped ArmText) → Scope → ArmText
  arm_gives a scope = record { labels = a.labels; phrases = joined_at InArm (in_order a.body scope) }

  pub one_grows : (stand : Stand) (one : RawStatement) → Grows (of_statement stand one raw)
  one_grows stand one x = statement_grows {R = Stand → Phrases} {Q = ArmText} raw (phrases_step raw) arm_gives one x

  pub statements_grow : (stand : Stand) (ss : List RawStatement) → Grows (of_statements stand ss raw)
  statements_grow stand [] x = stays x
  statements_grow stand (one ∷ ss) x =
      then_extends x ((scoped raw one).after x) (after_all (map (scoped raw) ss) ((scoped raw one).after x)) (one_grows stand one x) (statements_grow stand ss ((scoped raw one).after x))

  -- an arm, by its labels and its body
  pub scoped-arm : (a : RawArm) → scoped_of_arm raw a ≡ scoped_arm (record { labels = a.labels; body = map (scoped raw) a.body })
  scoped-arm a = fold_out-RawArm (Scoped (Stand → Phrases)) (Scoped ArmText) (scoped_step raw) scoped_arm a

  abbrev text_of : Scoped ArmText → Scoped Phrases
  text_of x = record { gives = λ (scope : Scope). (x.gives scope).phrases; after = x.after }

  pub arm_is : (a : RawArm) → of_arm a raw ≡ of_statements InArm a.body raw
  arm_is a = ap text_of (scoped-arm a)

  pub arm_grows : (a : RawArm) → Grows (of_arm a raw)
  arm_grows a = subst Grows (sym (arm_is a)) (statements_grow InArm a.body)

  pub arms_grow : (arms : List RawArm) → Grows (of_arms arms raw)
  arms_grow [] x = stays x
  arms_grow (a ∷ arms) x =
      then_extends x ((scoped_of_arm raw a).after x) (after_all (map (scoped_of_arm raw) arms) ((scoped_of_arm raw a).after x)) (arm_grows a x) (arms_grow arms ((scoped_of_arm raw a).after x))

  labels-arm : (a : RawArm) (x : Scope) → ((scoped_of_arm raw a).gives x).labels ≡ a.labels
  labels-arm a x = ap (λ (t : Scoped ArmText). (t.gives x).labels) (scoped-arm a)

  pub labels-arms : (arms : List RawArm) (x : Scope) → labels_of (in_order (map (scoped_of_arm raw) arms) x) ≡ labels_in arms
  labels-arms [] x = refl
  labels-arms (a ∷ arms) x = ap (λ ls. ls ++ labels_of (in_order (map (scoped_of_arm raw) arms) ((scoped_of_arm raw a).after x))) (labels-arm a x) ∙ ap (λ ls. a.labels ++ ls) (labels-arms arms ((scoped_of_arm raw a).after x))

  block_grows : (ss : List RawStatement) → Grows (of_block ss raw)
  block_grows ss x = block_extends raw x _ (statements_grow InBlock ss (opened x))

  part_grows : (stand : Stand) (one : Option RawStatement) → Grows (of_part stand one raw)
  part_grows stand None x = stays x
  part_grows stand (Some one) x = one_grows stand one x

  pub for_grows : (line : ℕ) (i : Option RawStatement) (test : RawExpr) (step : Option RawStatement) (body : List RawStatement) → Grows (of_for line i test step body raw)
  for_grows line i test step body x =
      let begun = (of_part InFor i raw).after x in
      let stepped = (of_part InBlock step raw).after begun in
      then_extends x begun _ (part_grows InFor i x) (then_extends begun stepped _ (part_grows InBlock step begun) (block_grows body stepped))

  -- a for, arms it is walked
  pub for_is : (stand : Stand) (line : ℕ) (i : Option RawStatement) (test : RawExpr) (step : Option RawStatement) (body : List RawStatement)
      → of_statement stand (s.For line i test step body) raw ≡ then_comes a_number (enclosed (of_for line i test step body)) raw
  for_is stand line None test None body = ap (standing stand) (scoped-For raw line None test None body)
  for_is stand line None test (Some step) body = ap (standing stand) (scoped-For raw line None test (Some step) body)
  for_is stand line (Some i) test None body = ap (standing stand) (scoped-For raw line (Some i) test None body)
  for_is stand line (Some i) test (Some step) body = ap (standing stand) (scoped-For raw line (Some i) test (Some step) body)

  named_grows : (p : RawParam) (name : Option Bytes) (x : Scope) → Extends x (with_named raw p name x)
  named_grows p None x = stays x
  named_grows p (Some name) x = variable_extends raw (parameter_of p name) init.None x

  pub parameters_grow : (ps : List RawParam) → Grows (of_parameters ps raw)
  parameters_grow [] x = stays x
  parameters_grow (p ∷ ps) x = then_extends x (with_parameter raw p x) (with_parameters raw ps (with_parameter raw p x)) (named_grows p p.name x) (parameters_grow ps (with_parameter raw p x))

-- a list of statements from an element on
pub statements_here : (stand : Stand) (ss : List RawStatement) (i : ℕ) (one : RawStatement) (raw : RawProgram) → i < length ss → one ≡ get_or ss i one
    → of_statements stand (drop i ss) raw ≡ then_comes (of_statement stand one) (of_statements stand (drop (i + 1) ss)) raw
statements_here stand ss i one raw within is = ap (λ xs. of_statements stand xs raw) (drop_turn ss i one within is)

pub arms_here : (arms : List RawArm) (i : ℕ) (a : RawArm) (raw : RawProgram) → i < length arms → a ≡ get_or arms i a → of_arms (drop i arms) raw ≡ then_comes (of_arm a) (of_arms (drop (i + 1) arms)) raw
arms_here arms i a raw within is = ap (λ xs. of_arms xs raw) (drop_turn arms i a within is)
