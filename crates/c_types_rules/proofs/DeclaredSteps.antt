-- A declaration of a variable, as steps of the walk.
use Rattle.std.proofs.Common.{◌≡◌, ℕ, ◌+◌, List, Option, Some, None, Result, Ok, Err, sym, ap, subst, ◌∙◌}
use Rattle.std.specs.Prelude.{IsSome}
use Rattle.c_tree.specs.declared.raw.expr.RawExpr.{RawExpr}
use Rattle.c_tree.specs.declared.raw.expr.RawVar.{RawVar}
use Rattle.c_tree.specs.declared.raw.program.RawInit.{RawInit}
use Rattle.c_tree.specs.declared.raw.program.RawInit.TheVariants as init
use Rattle.c_tree.specs.declared.raw.program.RawParam.{RawParam}
use Rattle.c_tree.specs.declared.raw.program.RawProgram.{RawProgram}
use Rattle.c_language.specs.Words.{Bytes}
use Rattle.c_language.specs.DeclaredTypes.{type_with, item_count}
use Rattle.c_language.specs.Phrases.{Stand, InHead, Declares, Begins, begun_phrases, parameter_phrases}
use Rattle.c_language.specs.Scopes.{Scope, Meaning, meaning_in, with_entry, with_variable, with_named, parameter_of}
use Rattle.c_types_base.specs.Tables.{scope_of, AreRight, IsAt}
use Rattle.c_types_base.specs.declared.fault.Fault.{Fault}
use Rattle.c_types_base.specs.declared.fault.Fault.TheVariants as fault
use Rattle.c_types_base.specs.declared.tables.Tables.{Tables}
use Rattle.c_types_base.proofs.OptionLemmas.{is_there}
use Rattle.c_types_base.proofs.TableLaws.{tables_typed}
use Rattle.c_types_checks.specs.Checking.{Verdict, kept, Decides}
use Rattle.c_types_checks.specs.DeclarationChecks.{check_declared}
use Rattle.c_types_checks.specs.InitialiserChecks.{check_begun}
use Rattle.c_types_base.specs.Stretches.{Stretch, of_declaration, of_parameter}
use Rattle.c_types_base.proofs.Stretching.{one_phrase}
use Rattle.c_types_rules.specs.Walks.{AnswersOf, Walks, on_line}
use Rattle.c_types_rules.specs.declared.walk_fault.WalkFault.{WalkFault}
use Rattle.c_types_rules.proofs.Checked.{check_answers, walks_phrase}
use Rattle.c_types_checks.proofs.DeclaredLaws.{declared_there, declared_new}
use Rattle.c_types_rules.proofs.WalkSteps.{Outcome, two, first_stops, at_scope}

no_fault : {e : WalkFault} {A : Type 0} → ◌≡◌ {A = Outcome} (Err e) (Ok tt) → A
no_fault h = absurd (subst (λ (r : Outcome). is_fault r) h tt)
  where
    is_fault : Outcome → Type 0
    is_fault (Ok x) = ⊥
    is_fault (Err e) = Unit {0}

-- a check that tells nothing is passed
pub passed : (v : Verdict) (line : ℕ) (d : Result (Unit {0}) Fault) → Decides v d → on_line line d ≡ Ok tt → v ≡ kept
passed v line (Ok x) h is = h
passed v line (Err (fault.Rule n)) h is = no_fault is
passed v line (Err fault.NoMemory) h is = no_fault is

-- the initialiser, behind the declaration
abbrev pub of_begun : ℕ → Stand → RawVar → RawInit → Stretch
of_begun line stand v i raw = record { gives = λ (scope : Scope). begun_phrases line (with_variable raw v i scope) stand v i; after = with_variable raw v i }

module _ (t : Tables) (right : AreRight t) (line : ℕ) (stand : Stand) (v : RawVar) (d : Result (Unit {0}) Fault) (r : Outcome) (tells : r ≡ on_line line d) where
  abbrev InitAnswers : RawInit → Type 0
  InitAnswers i = Decides (check_begun t.raw.now (scope_of t) stand v i) d → AnswersOf t.raw.now (begun_phrases line (scope_of t) stand v i) r

  pub begins_one : (i : RawInit) (e : RawExpr) → i ≡ init.One e → InitAnswers i
  begins_one i e is = subst InitAnswers (sym is) (λ h. check_answers t.raw.now (scope_of t) (tables_typed t right) line (Begins stand v (init.One e)) d r h tells)

  pub begins_items : (i : RawInit) (es : List RawExpr) → i ≡ init.Items es → InitAnswers i
  begins_items i es is = subst InitAnswers (sym is) (λ h. check_answers t.raw.now (scope_of t) (tables_typed t right) line (Begins stand v (init.Items es)) d r h tells)

module _ (t : Tables) (right : AreRight t) (line : ℕ) (stand : Stand) (v : RawVar) (i : RawInit) (d : Result (Unit {0}) Fault)
    (h : Decides (check_declared t.raw.now (scope_of t) stand v i) d) where
  pub declaration_stops : (new : Tables) (e : WalkFault) → Err e ≡ on_line line d → Walks (of_declaration line stand v i) t new (Err e)
  declaration_stops new e is = first_stops (one_phrase line (Declares stand v i)) (of_begun line stand v i) t t e (walks_phrase t right line (Declares stand v i) d h (Err e) is)

  module _ (ok : on_line line d ≡ Ok tt) where
    is_kept : check_declared t.raw.now (scope_of t) stand v i ≡ kept
    is_kept = passed _ line d h ok

    pub declared_typed : (items : ℕ) → items ≡ item_count i → IsSome (type_with t.raw.now items v.shape)
    declared_typed items same = subst (λ n. IsSome (type_with t.raw.now n v.shape)) (sym same) (is_there _ (declared_there t.raw.now (scope_of t) stand v i is_kept))

    pub declared_fresh : (name : Bytes) → name ≡ v.name → meaning_in (scope_of t) name ≡ None
    declared_fresh name same = subst (λ w. meaning_in (scope_of t) w ≡ None) (sym same) (declared_new t.raw.now (scope_of t) stand v i is_kept)

    module _ (new : Tables) (name : Bytes) (items : ℕ) (same_name : name ≡ v.name) (same_items : items ≡ item_count i)
        (at : IsAt t new (with_entry name (Meaning.Variable t.variables (type_with t.raw.now items v.shape)) (record (scope_of t) { variables = t.variables + 1 }))) where
      pub at_variable : IsAt t new (with_variable t.raw.now v i (scope_of t))
      at_variable =
          at_scope t new _ _
          (ap (λ w. with_entry w (Meaning.Variable t.variables (type_with t.raw.now items v.shape)) (record (scope_of t) { variables = t.variables + 1 })) same_name
          ∙ ap (λ n. with_entry v.name (Meaning.Variable t.variables (type_with t.raw.now n v.shape)) (record (scope_of t) { variables = t.variables + 1 })) same_items)
          at

      begun_walks : (r : Outcome) → AnswersOf t.raw.now (begun_phrases line (with_variable t.raw.now v i (scope_of t)) stand v i) r → Walks (of_begun line stand v i) t new r
      begun_walks (Ok x) k = (k, at_variable)
      begun_walks (Err e) k = k

      pub declaration_walks : (r : Outcome) → AnswersOf new.raw.now (begun_phrases line (scope_of new) stand v i) r → Walks (of_declaration line stand v i) t new r
      declaration_walks r k =
          two (one_phrase line (Declares stand v i)) (of_begun line stand v i) t t new r (walks_phrase t right line (Declares stand v i) d h (Ok tt) (sym ok))
          (begun_walks r (subst (λ (x : Scope). AnswersOf t.raw.now (begun_phrases line x stand v i) r) at_variable.scope_is
          (subst (λ (raw : RawProgram). AnswersOf raw (begun_phrases line (scope_of new) stand v i) r) at_variable.text k)))

-- a parameter with a name is declared so
module _ (p : RawParam) (name : Bytes) (is : p.name ≡ Some name) (old new : Tables) (r : Outcome) where
  pub parameter_walks : Walks (of_declaration p.line InHead (parameter_of p name) init.None) old new r → Walks (of_parameter p) old new r
  parameter_walks h = named p.name is r h
    where
      named : (o : Option Bytes) → o ≡ Some name → (r : Outcome) → Walks (of_declaration p.line InHead (parameter_of p name) init.None) old new r
          → Walks (λ raw. record { gives = parameter_phrases raw p o; after = with_named raw p o }) old new r
      named o is r h = subst (λ (q : Option Bytes). Walks (λ raw. record { gives = parameter_phrases raw p q; after = with_named raw p q }) old new r) (sym is) h
