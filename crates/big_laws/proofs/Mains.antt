-- The phrases of the main function of a generated program break no rule.
use Rattle.std.proofs.Common.{◌≡◌, ℕ, suc, ◌+◌, ◌<◌, ◌^◌, true, List, [], ◌∷◌, ◌++◌, append_assoc, append-nil, Some, None, refl, sym, ap, subst, ◌∙◌, arith}
use Rattle.std.specs.Prelude.{codes}
use Rattle.std.specs.List.{list_all}
use Rattle.c_tree.specs.declared.raw.expr.RawExpr.TheVariants as e
use Rattle.c_tree.specs.declared.raw.program.RawInit.TheVariants as init
use Rattle.c_tree.specs.declared.raw.program.RawProgram.{RawProgram}
use Rattle.c_tree.specs.declared.raw.statement.RawArg.TheVariants as arg
use Rattle.c_tree.specs.declared.raw.statement.RawStatement.{RawStatement}
use Rattle.c_tree.specs.declared.raw.statement.RawStatement.TheOpen.{RawStatement-F}
use Rattle.c_tree.specs.declared.raw.statement.RawTarget.TheVariants as target
use Rattle.c_language.specs.NameRules.{main_name}
use Rattle.c_language.specs.Phrases.{InBlock, DeclaresFunction, EndsFunction, Declares, Calls, phrase, scoped_step, body_phrases, after_body, item_phrases, after_item}
use Rattle.c_language.specs.Scopes.{Scope, Entry, Meaning, found_in, with_variable, numbered, scope_of_parameters}
use Rattle.c_language.proofs.Lists.{all_append}
use Rattle.c_language.proofs.ScopedForms.{scoped-Call}
use Rattle.c_types_base.proofs.TypedLaws.{IsTyped}
use Rattle.big_laws.specs.Trees.{function_name, variable, passed, result_statement, print_statement, main_head, main_item, generated_tree}
use Rattle.big_laws.proofs.Names.{an_int, variable_entry, function_entry, names_behind, behind_functions, function_found}
use Rattle.big_laws.proofs.Counted.{counted}
use Rattle.big_laws.proofs.Heads.{definition_named, main_is_new}
use Rattle.big_laws.proofs.Spelled.{other_word}
use Rattle.big_laws.proofs.Typed.{is_typed, names_typed}
use Rattle.big_laws.proofs.Checks as check
use Rattle.big_laws.proofs.Good.{AreGood, good, good_joined, IsGoodBody, good_end, good_then}
use Rattle.big_laws.proofs.Places.{outside, inside, outside_typed, inside_typed, one_more, with_name, function_begins}

-- main, which calls the last of some functions
module _ (seed last : ℕ) (small : suc last < 2 ^ 64) (v s : ℕ) where
  abbrev size : ℕ
  size = suc last

  abbrev raw : RawProgram
  raw = generated_tree seed size

  fresh : found_in main_name (names_behind size) ≡ None
  fresh = ap (found_in main_name) (sym (append-nil (counted function_entry size))) ∙ behind_functions main_name size [] (λ k le. refl)

  abbrev before : List Entry
  before = with_name (names_behind size) main_name

  before_typed : list_all is_typed before ≡ true
  before_typed = all_append is_typed (names_behind size) (record { name = main_name; meaning = Meaning.Function } ∷ []) (names_typed size) refl

  abbrev main_entry : Entry
  main_entry = record { name = main_name; meaning = Meaning.Function }

  abbrev result_entry : Entry
  result_entry = variable_entry v (codes "r")

  abbrev first : Scope
  first = inside before size v s []

  abbrev at : ℕ → Scope
  at k = inside before size (v + 1) k (result_entry ∷ [])

  first_typed : IsTyped raw first
  first_typed = inside_typed raw before size v s [] before_typed refl

  typed : (k : ℕ) → IsTyped raw (at k)
  typed k = inside_typed raw before size (v + 1) k (result_entry ∷ []) before_typed refl

  result_fresh : found_in (codes "r") (before ++ []) ≡ None
  result_fresh = ap (found_in (codes "r")) (append_assoc (names_behind size) (main_entry ∷ []) []) ∙ behind_functions (codes "r") size (main_entry ∷ []) (λ k le. refl)

  result_found : found_in (codes "r") (before ++ (result_entry ∷ [])) ≡ Some (an_int v)
  result_found =
      ap (found_in (codes "r")) (append_assoc (names_behind size) (main_entry ∷ []) (result_entry ∷ []))
      ∙ behind_functions (codes "r") size (main_entry ∷ (result_entry ∷ [])) (λ k le. refl)

  print_fresh : found_in (codes "printf") (before ++ (result_entry ∷ [])) ≡ None
  print_fresh =
      ap (found_in (codes "printf")) (append_assoc (names_behind size) (main_entry ∷ []) (result_entry ∷ []))
      ∙ behind_functions (codes "printf") size (main_entry ∷ (result_entry ∷ [])) (λ k le. refl)

  last_found : found_in (function_name size) (before ++ (result_entry ∷ [])) ≡ Some Meaning.Function
  last_found =
      ap (found_in (function_name size)) (append_assoc (names_behind size) (main_entry ∷ []) (result_entry ∷ []))
      ∙ function_found last size (main_entry ∷ (result_entry ∷ [])) (omega arith) small

  more : with_variable raw (variable (codes "r")) init.None first ≡ at s
  more = one_more raw before size v s [] (codes "r") init.None

  result_good : (rest : List RawStatement) (end : Scope) → IsGoodBody raw rest (at (s + 1)) end → IsGoodBody raw (result_statement size ∷ rest) first end
  result_good rest end later =
      let to = target.Declared (variable (codes "r")) in
      let args = arg.Value (e.Constant (codes "1")) ∷ (arg.Value (e.Constant (codes "2")) ∷ []) in
      good_then raw (result_statement size) rest (scoped_step raw (RawStatement-F.Call 0 to (function_name size) args)) first (at (s + 1)) end
      (scoped-Call raw 0 to (function_name size) args) (
        good raw first first_typed (Declares InBlock (variable (codes "r")) init.None) (check.declared raw first InBlock (codes "r") init.None refl result_fresh refl) refl,
        subst (λ (place : Scope). AreGood raw (phrase 0 place (Calls InBlock to (function_name size) args) ∷ [])) (sym more) (
          good raw (at s) (typed s) (Calls InBlock to (function_name size) args)
              (check.declared_called raw (at s) size (other_word size small 114 (codes "ee") (omega arith)) last_found (definition_named seed size small last (omega arith))
              (e.Constant (codes "1")) (e.Constant (codes "2")) (check.constant_integer raw (at s) (codes "1")) (check.constant_integer raw (at s) (codes "2")) (codes "r")) tt,
          tt,
        ),
      ) (ap numbered more) later

  print_good : (k : ℕ) → IsGoodBody raw (print_statement ∷ []) (at k) (at (k + 1))
  print_good k =
      let args = arg.Literal (codes "\"%d\\n\"") ∷ (passed (codes "r") ∷ []) in
      good_then raw print_statement [] (scoped_step raw (RawStatement-F.Call 0 target.None (codes "printf") args)) (at k) (at (k + 1)) (at (k + 1))
      (scoped-Call raw 0 target.None (codes "printf") args)
      (good raw (at k) (typed k) (Calls InBlock target.None (codes "printf") args) (check.printed raw (at k) (codes "r") v print_fresh refl result_found) tt, tt)
      refl (good_end raw (at (k + 1)))

  abbrev body : List RawStatement
  body = result_statement size ∷ (print_statement ∷ [])

  own : IsGoodBody raw body first (at (s + 1 + 1))
  own = result_good (print_statement ∷ []) (at (s + 1 + 1)) (print_good (s + 1))

  pub main_good : AreGood raw (item_phrases raw (main_item size) (outside size v s))
  main_good =
      let place = outside size v s in (
        good raw place (outside_typed raw size v s) (DeclaresFunction main_head true) (check.main_declared raw place fresh (main_is_new seed size small)) tt,
        good_joined raw (body_phrases raw body (scope_of_parameters main_head place)) (phrase 0 place (EndsFunction main_head body) ∷ [])
            (subst (λ (x : Scope). AreGood raw (body_phrases raw body x)) (sym (function_begins main_head size v s fresh)) own.good)
            (good raw place (outside_typed raw size v s) (EndsFunction main_head body) (check.main_ended raw place body) tt, tt),
      )

  -- its statements are numbered
  pub main_numbered : 0 < (after_item raw (main_item size) (outside size v s)).statements
  main_numbered =
      let after : after_body raw body (scope_of_parameters main_head (outside size v s)) ≡ at (s + 1 + 1) = ap (after_body raw body) (function_begins main_head size v s fresh) ∙ own.after in
      let count : (after_body raw body (scope_of_parameters main_head (outside size v s))).statements ≡ s + 1 + 1 = ap (λ (x : Scope). x.statements) after in
      omega (arith, count)
