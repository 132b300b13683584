-- The checks of the phrases of a generated program, at any scope in which their names stand for what they are to.
use Rattle.std.proofs.Common.{◌≡◌, ℕ, Bool, true, false, List, [], ◌∷◌, Some, None, Ok, refl}
use Rattle.std.specs.Prelude.{bytes_eq, codes}
use Rattle.c_arith.specs.declared.int_type.IntType.{IntType}
use Rattle.c_arith.specs.declared.int_type.IntType.TheVariants.{Int}
use Rattle.c_arith.specs.declared.operators.BinaryOp.TheVariants.{Add}
use Rattle.c_arith.specs.Operators.{binary_type}
use Rattle.c_tree.specs.declared.raw.expr.RawExpr.{RawExpr}
use Rattle.c_tree.specs.declared.raw.expr.RawExpr.TheVariants as e
use Rattle.c_tree.specs.declared.raw.program.RawInit.{RawInit}
use Rattle.c_tree.specs.declared.raw.program.RawInit.TheVariants as init
use Rattle.c_tree.specs.declared.raw.program.RawProgram.{RawProgram}
use Rattle.c_tree.specs.declared.raw.statement.RawArg.TheVariants as arg
use Rattle.c_tree.specs.declared.raw.statement.RawStatement.{RawStatement}
use Rattle.c_tree.specs.declared.raw.statement.RawTarget.TheVariants as target
use Rattle.c_language.specs.Words.{Bytes}
use Rattle.c_language.specs.CallRules.{head_around}
use Rattle.c_language.specs.Constants.{unescaped}
use Rattle.c_language.specs.ConstantEvaluation.{literal_type, operand_type}
use Rattle.c_language.specs.DeclaredTypes.{item_count, has_stdio, definition_of, integer}
use Rattle.c_language.specs.ExprTypes.{a_place}
use Rattle.c_language.specs.HeadTests.{ends_with_value}
use Rattle.c_language.specs.NameRules.{main_name}
use Rattle.c_language.specs.Phrases.{Stand, InBlock, DeclaresFunction, EndsFunction, Declares, Begins, Assigns, Calls, Returns}
use Rattle.c_language.specs.Scopes.{Scope, Meaning, meaning_in, meaning_here}
use Rattle.c_language.specs.Uses.{is_library_name}
use Rattle.c_language.specs.declared.expr_type.Operand.{Operand}
use Rattle.c_language.proofs.UseLemmas.{lengths-Integer, tags-Integer}
use Rattle.c_types_base.specs.Judging.{judged}
use Rattle.c_types_base.proofs.JudgedLemmas.{judged-Constant, judged-Variable, judged-Binary}
use Rattle.c_types_base.proofs.TypeLemmas.{type_with-Integer}
use Rattle.c_types_checks.specs.Checking.{kept}
use Rattle.c_types_checks.specs.DeclarationChecks.{stands_in_arm}
use Rattle.c_types_checks.specs.HeadChecks.{is_defined_before}
use Rattle.c_types_checks.specs.PhraseChecks.{check_part}
use Rattle.c_types_checks.proofs.UseLemmas.{int-Integer}
use Rattle.big_laws.specs.Trees.{variable, named, passed, function_name, function_head, main_head}
use Rattle.big_laws.proofs.Names.{an_int, none_behind}

abbrev integer_operand : IntType → Bool → Bool → Operand
integer_operand t is_place is_null = record { shape = integer t; is_place = is_place; is_null = is_null }

-- an expression is an integer
pub record IsInteger (raw : RawProgram) (scope : Scope) (a : RawExpr) : Type 0 where
  pub type : IntType
  pub is_place : Bool
  pub is_null : Bool
  pub is : judged raw scope a ≡ Ok (integer_operand type is_place is_null)

module _ (raw : RawProgram) (scope : Scope) where
  -- ---- expressions

  name_judged : (w : Bytes) (id : ℕ) → meaning_in scope w ≡ Some (an_int id) → judged raw scope (named w) ≡ Ok (a_place (integer Int))
  name_judged w id found = rw (judged-Variable raw scope w, found) refl

  pub name_integer : (w : Bytes) (id : ℕ) → meaning_in scope w ≡ Some (an_int id) → IsInteger raw scope (named w)
  name_integer w id found = record { type = Int; is_place = true; is_null = false; is = name_judged w id found }

  pub constant_integer : (text : Bytes) → IsInteger raw scope (e.Constant text)
  constant_integer text = record { type = literal_type text; is_place = false; is_null = bytes_eq text (codes "0"); is = judged-Constant raw scope text }

  pub sum_integer : (a b : RawExpr) → IsInteger raw scope a → IsInteger raw scope b → IsInteger raw scope (e.Binary Add a b)
  sum_integer a b x y = record {
    type = binary_type Add (operand_type Add x.type y.type);
    is_place = false;
    is_null = false;
    is = rw (judged-Binary raw scope Add a b, x.is, y.is) refl;
  }

  -- ---- declarations

  pub declared : (stand : Stand) (w : Bytes) (i : RawInit) → stands_in_arm stand ≡ false → meaning_in scope w ≡ None → is_library_name w ≡ false
      → check_part raw scope (Declares stand (variable w) i) ≡ kept
  declared stand w i outside fresh own =
      let here : meaning_here scope w ≡ None = none_behind w scope.outer scope.names fresh in
      rw (lengths-Integer Int, tags-Integer Int, here, fresh, own, type_with-Integer raw (item_count i) Int, outside) refl

  pub begun : (w : Bytes) (a : RawExpr) → IsInteger raw scope a → check_part raw scope (Begins InBlock (variable w) (init.One a)) ≡ kept
  begun w a x = rw (x.is, type_with-Integer raw 0 Int) refl

  -- ---- functions

  pub function_declared : (k : ℕ) → meaning_in scope (function_name k) ≡ None → is_library_name (function_name k) ≡ false
      → is_defined_before raw scope (function_name k) ≡ false → check_part raw scope (DeclaresFunction (function_head k) true) ≡ kept
  function_declared k fresh own new =
      let here : meaning_here scope (function_name k) ≡ None = none_behind (function_name k) scope.outer scope.names fresh in
      rw (tags-Integer Int, here, own, new) refl

  pub main_declared : meaning_in scope main_name ≡ None → is_defined_before raw scope main_name ≡ false → check_part raw scope (DeclaresFunction main_head true) ≡ kept
  main_declared fresh new =
      let here : meaning_here scope main_name ≡ None = none_behind main_name scope.outer scope.names fresh in
      rw (tags-Integer Int, here, new, int-Integer Int) refl

  pub function_ended : (k : ℕ) (body : List RawStatement) → ends_with_value body ≡ true → check_part raw scope (EndsFunction (function_head k) body) ≡ kept
  function_ended k body ends = rw ends refl

  pub main_ended : (body : List RawStatement) → check_part raw scope (EndsFunction main_head body) ≡ kept
  main_ended body = refl

  -- ---- statements

  pub assigned : (w : Bytes) (id : ℕ) (right : RawExpr) → meaning_in scope w ≡ Some (an_int id) → IsInteger raw scope right
      → check_part raw scope (Assigns (named w) None right) ≡ kept
  assigned w id right found x = rw (name_judged w id found, x.is) refl

  pub returned : (k : ℕ) (a : RawExpr) → IsInteger raw scope a → head_around raw scope ≡ Some (function_head k) → check_part raw scope (Returns (Some a)) ≡ kept
  returned k a x around = rw (x.is, around, type_with-Integer raw 0 Int) refl

  module _ (k : ℕ) (other : bytes_eq (function_name k) (codes "free") ≡ false) (found : meaning_in scope (function_name k) ≡ Some Meaning.Function)
      (is : definition_of raw (function_name k) ≡ Some (function_head k)) (a b : RawExpr) (x : IsInteger raw scope a) (y : IsInteger raw scope b) where
    -- a call whose result is stored
    pub called : (w : Bytes) (id : ℕ) → meaning_in scope w ≡ Some (an_int id)
        → check_part raw scope (Calls InBlock (target.Place (named w)) (function_name k) (arg.Value a ∷ (arg.Value b ∷ []))) ≡ kept
    called w id there = rw (found, is, name_judged w id there, other, x.is, y.is, type_with-Integer raw 0 Int) refl

    -- a call whose result is the first value of a variable
    pub declared_called : (w : Bytes) → check_part raw scope (Calls InBlock (target.Declared (variable w)) (function_name k) (arg.Value a ∷ (arg.Value b ∷ []))) ≡ kept
    declared_called w = rw (found, is, type_with-Integer raw 0 Int, other, x.is, y.is) refl

  pub printed : (w : Bytes) (id : ℕ) → meaning_in scope (codes "printf") ≡ None → has_stdio raw ≡ true → meaning_in scope w ≡ Some (an_int id)
      → check_part raw scope (Calls InBlock target.None (codes "printf") (arg.Literal (codes "\"%d\\n\"") ∷ (passed w ∷ []))) ≡ kept
  unfolding unescaped
  printed w id fresh header found = rw (fresh, header, name_judged w id found) refl
