-- Each call in a body of a text is of a function that the text defines, with an argument for each of its parameters; and where its
-- result is stored, the function gives one and isn't main.
use Rattle.std.proofs.Common.{◌≡◌, ℕ, suc, List, [], ◌∷◌, map, length, Bool, true, false, cond, Option, Some, None, option_map, find, position, bytes_eq, refl, sym, ap, subst, ◌∙◌, arith}
use Rattle.std.proofs.lemmas.Bool.Decides.{nat_tests}
use Rattle.std.proofs.lemmas.Bool.{true≢false, and_from, or_right}
use Rattle.std.proofs.lemmas.List.{length-map}
use Rattle.std.proofs.lemmas.Option.{slice_get-map}
use Rattle.std.specs.Prelude.{◌==◌, ◌&&◌, ◌≢◌, not, is_some, slice_get}
use Rattle.std.specs.Option.{option_map_or}
use Rattle.std.specs.List.{list_all}
use Rattle.c_tree.specs.declared.expr.Expr.{Expr}
use Rattle.c_tree.specs.declared.raw.program.RawHead.{RawHead}
use Rattle.c_tree.specs.declared.raw.program.RawProgram.{RawProgram}
use Rattle.c_tree.specs.declared.raw.statement.RawArg.{RawArg}
use Rattle.c_tree.specs.declared.raw.statement.RawStatement.{RawStatement}
use Rattle.c_tree.specs.declared.raw.expr.RawType.{RawType}
use Rattle.c_tree.specs.declared.raw.statement.RawTarget.{RawTarget}
use Rattle.c_tree.specs.declared.raw.statement.RawTarget.TheVariants as target
use Rattle.c_tree.specs.declared.statement.Statement.{Statement}
use Rattle.c_tree.specs.declared.statement.Target.{Target}
use Rattle.c_language.specs.Words.{Bytes}
use Rattle.c_language.specs.CallRules.{MisusesArguments, MisusesResult}
use Rattle.c_language.specs.DeclaredTypes.{defined_functions, definition_of, function_id}
use Rattle.c_language.specs.NameRules.{MisusesMain, main_name, is_main}
use Rattle.c_language.specs.Phrases.{Stand, Calls as CallsOf, phrase, body_phrases}
use Rattle.c_language.specs.ProgramOf.{collected, target_tree, arg_tree, args_tree, body_of}
use Rattle.c_language.specs.Rules.{Breaks, AreKept, KeepsAll}
use Rattle.c_language.specs.Scopes.{Scope, with_target}
use Rattle.c_language.specs.Uses.{is_library_function}
use Rattle.c_language.proofs.Lists.{same_bytes, position-cons}
use Rattle.c_language.proofs.Options.{none_there, some_same, map_there, more_there}
use Rattle.dep_model.specs.Doings.{Calls, body_doings}
use Rattle.numbered_texts.specs.FittingCalls.{fits, stores, gives}
use Rattle.numbered_texts.proofs.CallTests.{IsCallTest, body_passes}

-- ---- what stands at the place at which it is found

pub record IsFoundAt {X : Type 0} (p : X → Bool) (xs : List X) (k : ℕ) : Type 0 where
  pub value : X
  pub at : slice_get xs k ≡ Some value
  pub first : find p xs ≡ Some value
  pub passes : p value ≡ true

pub position_found : {X : Type 0} (p : X → Bool) (xs : List X) (k : ℕ) → position p xs ≡ Some k → IsFoundAt p xs k
position_found p [] k h = none_there h
position_found p (x ∷ xs) k h = by_test (p x) refl (position_found p xs)
  where
    by_test : (b : Bool) → p x ≡ b → ((n : ℕ) → position p xs ≡ Some n → IsFoundAt p xs n) → IsFoundAt p (x ∷ xs) k
    by_test true is later =
        let zero_is : 0 ≡ k = some_same (sym (position-cons p x xs ∙ ap (λ b. cond b (Some 0) (option_map suc (position p xs))) is) ∙ h) in
        subst (IsFoundAt p (x ∷ xs)) zero_is (record { value = x; at = refl; first = ap (λ b. cond b (Some x) (find p xs)) is; passes = is })
    by_test false is later =
        let m = map_there suc (position p xs) k (sym (position-cons p x xs ∙ ap (λ b. cond b (Some 0) (option_map suc (position p xs))) is) ∙ h) in
        let r = later m.value m.there in
        subst (IsFoundAt p (x ∷ xs)) m.same (record { value = r.value; at = r.at; first = ap (λ b. cond b (Some x) (find p xs)) is ∙ r.first; passes = r.passes })

-- ---- arguments

collected_length : {A : Type 0} (os : List (Option A)) (xs : List A) → collected os ≡ Some xs → length xs ≡ length os
collected_length [] xs e = ap length (sym (some_same e))
collected_length (o ∷ os) xs e = let m = more_there o os xs e in ap length (sym m.same) ∙ ap suc (collected_length os m.rest m.rest_there)

-- whether a function gives a result to its calls
abbrev pub has_result : RawHead → Bool
has_result h = is_some h.result && not (is_main h.name)

module _ (raw : RawProgram) where
  -- how many parameters each function has
  abbrev pub counts : List ℕ
  counts = map (λ (h : RawHead). length h.params) (defined_functions raw)

  arguments_fit : (l id : ℕ) (stand : Stand) (to : RawTarget) (f : Bytes) (args : List RawArg) (scope : Scope) (t : Target) (g : ℕ) (es : List Expr)
      → KeepsAll raw (phrase l scope (CallsOf stand to f args)) → is_library_function f ≡ false → function_id raw f ≡ Some g → args_tree raw scope args ≡ Some es → fits counts (Calls id t g es) ≡ true
  arguments_fit l id stand to f args scope t g es kept own at given =
      let found = position_found (λ (h : RawHead). bytes_eq h.name f) (defined_functions raw) g at in
      let many : length es ≡ length args = collected_length (map (arg_tree raw scope) args) es given ∙ length-map args (arg_tree raw scope) in
      let count : slice_get counts g ≡ Some (length found.value.params) = slice_get-map (λ (h : RawHead). length h.params) (defined_functions raw) g ∙ ap (option_map (λ (h : RawHead). length h.params)) found.at in
      ap (λ o. option_map_or (λ n. n == length es) o false) count ∙ by_test found.value found.first many (length found.value.params == length es) refl
    where
      by_test : (head : RawHead) → definition_of raw f ≡ Some head → length es ≡ length args → (b : Bool) → (length head.params == length es) ≡ b → (length head.params == length es) ≡ true
      by_test head is many true h = h
      by_test head is many false h =
          absurd (kept 16 (Breaks.arguments (MisusesArguments.count own is (λ (e : length args ≡ length head.params). let z : (length head.params == length es) ≡ true = grind (arith, nat_tests, e, many) in true≢false (sym z ∙ h)))))

  arguments_test : (owner : Option ℕ) → IsCallTest raw owner (fits counts)
  arguments_test owner = record {
    act = λ i a none. refl;
    returned = λ l id a e scope own kept. refl;
    call = λ l id stand to f args scope t g es kept own target_ at given. arguments_fit l id stand to f args (with_target raw to scope) t g es kept own at given;
  }

  pub body_fits : (b : List RawStatement) (scope : Scope) (xs : List Statement) → body_of raw b scope ≡ Some xs → AreKept raw (body_phrases raw b scope) → list_all (fits counts) (body_doings xs) ≡ true
  body_fits b scope xs e kept = body_passes raw scope.owner (fits counts) (arguments_test scope.owner) b scope xs refl e kept

  -- ---- results

  abbrev pub results : List Bool
  results = map has_result (defined_functions raw)

  module _ (l : ℕ) (stand : Stand) (to : RawTarget) (f : Bytes) (args : List RawArg) (scope : Scope) (kept : KeepsAll raw (phrase l scope (CallsOf stand to f args))) (own : is_library_function f ≡ false) where
    -- no function calls main
    not_main : (name : Bytes) → bytes_eq name f ≡ true → is_main name ≡ false
    not_main name same = by_test (is_main name) refl
      where
        by_test : (b : Bool) → is_main name ≡ b → is_main name ≡ false
        by_test false h = h
        by_test true h =
            let e : f ≡ main_name = sym (same_bytes name f same) ∙ same_bytes name main_name h in
            absurd (kept 5 (Breaks.main (subst (λ (w : Bytes). MisusesMain raw scope (CallsOf stand to w args)) (sym e) MisusesMain.called)))

    result_given : to ≢ target.None → (g : ℕ) → function_id raw f ≡ Some g → option_map_or (λ (b : Bool). b) (slice_get results g) false ≡ true
    result_given stored g at =
        let found = position_found (λ (h : RawHead). bytes_eq h.name f) (defined_functions raw) g at in
        let there : slice_get results g ≡ Some (has_result found.value) = slice_get-map has_result (defined_functions raw) g ∙ ap (option_map has_result) found.at in
        ap (λ o. option_map_or (λ (b : Bool). b) o false) there ∙ and_from _ _ (by_result found.value found.first found.value.result refl) (ap not (not_main found.value.name found.passes))
      where
        by_result : (head : RawHead) → definition_of raw f ≡ Some head → (r : Option RawType) → head.result ≡ r → is_some head.result ≡ true
        by_result head is (Some t) e = ap is_some e
        by_result head is None e = absurd (kept 17 (Breaks.result (MisusesResult.no_result own stored is e)))

  result_stored : (l id : ℕ) (stand : Stand) (to : RawTarget) (f : Bytes) (args : List RawArg) (scope : Scope) (t : Target) (g : ℕ) (es : List Expr)
      → KeepsAll raw (phrase l (with_target raw to scope) (CallsOf stand to f args)) → is_library_function f ≡ false
      → target_tree raw scope to ≡ Some t → function_id raw f ≡ Some g → gives results (Calls id t g es) ≡ true
  result_stored l id stand target.None f args scope t g es kept own made at = subst (λ z. gives results (Calls id z g es) ≡ true) (some_same made) refl
  result_stored l id stand (target.Place a) f args scope t g es kept own made at =
      let h = result_given l stand (target.Place a) f args scope kept own (λ e. cc) g at in
      or_right (not (stores t)) _ h
  result_stored l id stand (target.Declared v) f args scope t g es kept own made at =
      let h = result_given l stand (target.Declared v) f args (with_target raw (target.Declared v) scope) kept own (λ e. cc) g at in
      or_right (not (stores t)) _ h

  results_test : (owner : Option ℕ) → IsCallTest raw owner (gives results)
  results_test owner = record {
    act = λ i a none. refl;
    returned = λ l id a e scope own kept. refl;
    call = λ l id stand to f args scope t g es kept own made at given. result_stored l id stand to f args scope t g es kept own made at;
  }

  pub body_gives : (b : List RawStatement) (scope : Scope) (xs : List Statement) → body_of raw b scope ≡ Some xs → AreKept raw (body_phrases raw b scope) → list_all (gives results) (body_doings xs) ≡ true
  body_gives b scope xs e kept = body_passes raw scope.owner (gives results) (results_test scope.owner) b scope xs refl e kept
