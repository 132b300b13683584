-- The functions of a text: their parameters are variables of the text, and a function that gives no result returns no value.
use Rattle.std.proofs.Common.{◌≡◌, ℕ, zero, suc, ◌+◌, ◌≤◌, List, [], ◌∷◌, ◌++◌, map, Bool, true, false, ◌&&◌, ◌||◌, Option, Some, None, refl, sym, ap, ◌∙◌, subst, arith, lt-ltb}
use Rattle.std.specs.Prelude.{not, is_some, nat_lt, slice_get, option_and_then, if◌then◌else◌}
use Rattle.std.specs.List.{list_all}
use Rattle.std.proofs.lemmas.Bool.{and_from, or_left, or_right}
use Rattle.c_tree.specs.declared.program.Function.{Function}
use Rattle.c_tree.specs.declared.raw.expr.RawType.{RawType}
use Rattle.c_tree.specs.declared.raw.program.RawHead.{RawHead}
use Rattle.c_tree.specs.declared.raw.program.RawInit.TheVariants as init
use Rattle.c_tree.specs.declared.raw.program.RawItem.{RawItem}
use Rattle.c_tree.specs.declared.raw.program.RawItem.TheVariants.{Include, Tag, Struct, Global, Prototype, Define}
use Rattle.c_tree.specs.declared.raw.program.RawParam.{RawParam}
use Rattle.c_tree.specs.declared.raw.program.RawProgram.{RawProgram}
use Rattle.c_tree.specs.declared.raw.statement.RawStatement.{RawStatement}
use Rattle.c_tree.specs.declared.types.CType.{CType}
use Rattle.c_language.specs.Words.{Bytes}
use Rattle.c_language.specs.CallRules.{MisusesReturn}
use Rattle.c_language.specs.DeclaredTypes.{function_texts, defined_functions}
use Rattle.c_language.specs.Phrases.{Phrases, EndsFunction, phrase, head_phrases, body_phrases, after_body, item_phrases, after_item, items_phrases, after_items}
use Rattle.c_language.specs.ProgramOf.{collected, ctype, ctype_if, parameter_ids, treed, function_tree, functions_from}
use Rattle.c_language.specs.Rules.{Breaks, AreKept}
use Rattle.c_language.specs.Scopes.{Scope, with_variable, with_function, parameter_of, with_named, with_parameter, with_parameters, scope_of_parameters, entered, after_all}
use Rattle.c_language.proofs.Options.{some_same, optional_there, more_there}
use Rattle.c_language.proofs.PhraseLists.{body_after, kept_first, kept_second}
use Rattle.c_language.proofs.ProgramParts.{IsFunctionOf, function_made}
use Rattle.c_language.proofs.ScopeNumbers.{function_variables}
use Rattle.c_language.proofs.TreeScopes.{list_after}
use Rattle.c_print_laws.proofs.Numbers.{head_count, define_functions, prototype_functions}
use Rattle.dep_model.specs.Doings.{Doing, Does, Calls, body_doings}
use Rattle.numbered_texts.proofs.CallTests.{gives_value, IsCallTest, body_passes}
use Rattle.numbered_texts.proofs.Items.{HasFunctions, items_count}
use Rattle.numbered_texts.proofs.NamesInScope.{body_grows}

-- a statement returns no value
abbrev pub returns_none : Doing → Bool
returns_none (Does i a) = not (gives_value a)
returns_none (Calls i to f args) = true

-- a function that gives no result returns no value
abbrev pub returns_fit : Function → Bool
returns_fit f = is_some f.result || list_all returns_none (body_doings f.body)

abbrev pub parameters_fit : ℕ → Function → Bool
parameters_fit n f = list_all (λ x. nat_lt x n) f.params

module _ (raw : RawProgram) where
  -- ---- heads

  named_owner : (q : RawParam) (name : Option Bytes) (scope : Scope) → (with_named raw q name scope).owner ≡ scope.owner
  named_owner q None scope = refl
  named_owner q (Some x) scope = refl

  parameters_owner : (ps : List RawParam) (scope : Scope) → (with_parameters raw ps scope).owner ≡ scope.owner
  parameters_owner [] scope = refl
  parameters_owner (q ∷ ps) scope = parameters_owner ps (with_parameter raw q scope) ∙ named_owner q q.name scope

  -- a body stands in its function
  entered_owner : (head : RawHead) (scope : Scope) → (entered raw head scope).owner ≡ Some scope.functions
  entered_owner head scope = parameters_owner head.params (scope_of_parameters head scope)

  parameters_more : (ps : List RawParam) (scope : Scope) → scope.variables ≤ (with_parameters raw ps scope).variables
  parameters_more ps scope = let c = head_count raw ps scope in omega (arith, c)

  ids_low : (ps : List RawParam) (scope : Scope) (n m : ℕ) → scope.variables ≡ n → (with_parameters raw ps scope).variables ≤ m → list_all (λ x. nat_lt x m) (parameter_ids ps n) ≡ true
  ids_low [] scope n m is le = refl
  ids_low (q ∷ ps) scope n m is le = by_name q.name (λ z k same most. ids_low ps z k m same most) le
    where
      by_name : (name : Option Bytes) → ((z : Scope) (k : ℕ) → z.variables ≡ k → (with_parameters raw ps z).variables ≤ m → list_all (λ x. nat_lt x m) (parameter_ids ps k) ≡ true)
          → (with_parameters raw ps (with_named raw q name scope)).variables ≤ m → list_all (λ x. nat_lt x m) (if is_some name then n ∷ parameter_ids ps (n + 1) else parameter_ids ps n) ≡ true
      by_name None more most = more scope n is most
      by_name (Some x) more most =
          let next = with_variable raw (parameter_of q x) init.None scope in
          let up : scope.variables + 1 ≤ (with_parameters raw ps next).variables = parameters_more ps next in
          let top : (with_parameters raw ps next).variables ≤ m = most in
          let step : scope.variables + 1 ≡ n + 1 = omega (arith, is) in
          and_from (nat_lt n m) (list_all (λ y. nat_lt y m) (parameter_ids ps (n + 1))) (lt-ltb n m (omega (arith, up, top, is))) (more next (n + 1) step top)

  -- ---- functions

  returned_test : (k : ℕ) (head : RawHead) → slice_get (defined_functions raw) k ≡ Some head → head.result ≡ None → IsCallTest raw (Some k) returns_none
  returned_test k head at none = record {
    act = λ i a is. ap not is;
    returned = λ l id a e scope own kept. absurd (kept 18 (Breaks.return (MisusesReturn.value_of_void (ap (option_and_then (slice_get (defined_functions raw))) own ∙ at) none)));
    call = λ l id stand to f args scope t g es kept library made found given. refl;
  }

  function_returns : (line : ℕ) (head : RawHead) (body : List RawStatement) (scope : Scope) (f : Function) → IsFunctionOf raw line head body scope f → slice_get (defined_functions raw) scope.functions ≡ Some head
      → AreKept raw (body_phrases raw body (entered raw head scope)) → returns_fit f ≡ true
  function_returns line head body scope f q at kept = subst (λ (g : Function). returns_fit g ≡ true) (sym q.is) (by_result head.result refl q.result_there)
    where
      by_result : (r : Option RawType) → head.result ≡ r → ctype_if raw r ≡ Some q.result → (is_some q.result || list_all returns_none (body_doings q.statements)) ≡ true
      by_result None is made =
          or_right (is_some q.result) _ (body_passes raw (Some scope.functions) returns_none (returned_test scope.functions head at is) body (entered raw head scope) q.statements (entered_owner head scope) q.statements_there kept)
      by_result (Some t) is made = let m = optional_there (ctype raw t) q.result made in or_left (is_some q.result) _ (ap is_some (sym m.1.1))

  function_parameters : (line : ℕ) (head : RawHead) (body : List RawStatement) (scope : Scope) (f : Function) → IsFunctionOf raw line head body scope f → (m : ℕ) → (entered raw head scope).variables ≤ m → parameters_fit m f ≡ true
  function_parameters line head body scope f q m le =
      subst (λ (g : Function). parameters_fit m g ≡ true) (sym q.is) (ids_low head.params (scope_of_parameters head scope) scope.variables m (function_variables head.name scope) le)

  -- ---- items

  -- from a number on the heads are these
  abbrev AreHeadsAt : ℕ → List RawHead → Type 0
  AreHeadsAt n hs = (k : ℕ) → slice_get (defined_functions raw) (n + k) ≡ slice_get hs k

  head_here : (n : ℕ) (h : RawHead) (hs : List RawHead) → AreHeadsAt n (h ∷ hs) → slice_get (defined_functions raw) n ≡ Some h
  head_here n h hs at = let z : n ≡ n + 0 = omega arith in ap (slice_get (defined_functions raw)) z ∙ at 0

  heads_after : (n m : ℕ) (h : RawHead) (hs : List RawHead) → m ≡ n + 1 → AreHeadsAt n (h ∷ hs) → AreHeadsAt m hs
  heads_after n m h hs is at k = let z : m + k ≡ n + suc k = omega (arith, is) in ap (slice_get (defined_functions raw)) z ∙ at (suc k)

  -- what is kept of a body
  body_kept : (line : ℕ) (head : RawHead) (body : List RawStatement) (scope : Scope) → AreKept raw (item_phrases raw (Define line head body) scope) → AreKept raw (body_phrases raw body (entered raw head scope))
  body_kept line head body scope kept =
      let end : Phrases = phrase line scope (EndsFunction head body) ∷ [] in
      let inside = body_phrases raw body (entered raw head scope) in
      kept_first raw inside end (kept_second raw (head_phrases raw head.params (scope_of_parameters head scope)) (inside ++ end) kept.1)

  later : (x : RawItem) (xs : List RawItem) (scope : Scope) → AreKept raw (items_phrases raw (x ∷ xs) scope) → AreKept raw (items_phrases raw xs (after_item raw x scope))
  later x xs scope kept = kept_second raw (item_phrases raw x scope) (items_phrases raw xs (after_item raw x scope)) kept

  pub returns_pass : (xs : List RawItem) (scope : Scope) (fs : List Function) → AreKept raw (items_phrases raw xs scope) → HasFunctions raw xs scope fs → AreHeadsAt scope.functions (function_texts xs) → list_all returns_fit fs ≡ true
  returns_pass [] scope fs kept e at = subst (λ (gs : List Function). list_all returns_fit gs ≡ true) (some_same e) refl
  returns_pass (Include b ∷ xs) scope fs kept e at = returns_pass xs scope fs kept e at
  returns_pass (Tag line tag ∷ xs) scope fs kept e at = returns_pass xs scope fs (later (Tag line tag) xs scope kept) e at
  returns_pass (Struct line tag members ∷ xs) scope fs kept e at = returns_pass xs (after_item raw (Struct line tag members) scope) fs (later (Struct line tag members) xs scope kept) e at
  returns_pass (Global line var i is_static ∷ xs) scope fs kept e at = returns_pass xs (after_item raw (Global line var i is_static) scope) fs (later (Global line var i is_static) xs scope kept) e at
  returns_pass (Prototype line head ∷ xs) scope fs kept e at =
      returns_pass xs (with_function head.name scope) fs (later (Prototype line head) xs scope kept) e (subst (λ n. AreHeadsAt n (function_texts xs)) (sym (prototype_functions raw line head scope)) at)
  returns_pass (Define line head body ∷ xs) scope fs kept e at =
      let after = after_item raw (Define line head body) scope in
      let g = more_there (function_tree raw line head body scope) (functions_from raw xs after) fs e in
      let q = function_made raw line head body scope g.first g.first_there in
      let own = body_kept line head body scope (kept_first raw (item_phrases raw (Define line head body) scope) (items_phrases raw xs after) kept) in
      let here = function_returns line head body scope g.first q (head_here scope.functions head (function_texts xs) at) own in
      subst (λ (gs : List Function). list_all returns_fit gs ≡ true) g.same
      (and_from (returns_fit g.first) (list_all returns_fit g.rest) here
      (returns_pass xs after g.rest (later (Define line head body) xs scope kept) g.rest_there (heads_after scope.functions after.functions head (function_texts xs) (define_functions raw line head body scope) at)))

  pub parameters_pass : (xs : List RawItem) (scope : Scope) (fs : List Function) → HasFunctions raw xs scope fs → (m : ℕ) → (after_items raw xs scope).variables ≤ m → list_all (parameters_fit m) fs ≡ true
  parameters_pass [] scope fs e m le = subst (λ (gs : List Function). list_all (parameters_fit m) gs ≡ true) (some_same e) refl
  parameters_pass (Include b ∷ xs) scope fs e m le = parameters_pass xs scope fs e m le
  parameters_pass (Tag line tag ∷ xs) scope fs e m le = parameters_pass xs scope fs e m le
  parameters_pass (Struct line tag members ∷ xs) scope fs e m le = parameters_pass xs (after_item raw (Struct line tag members) scope) fs e m le
  parameters_pass (Global line var i is_static ∷ xs) scope fs e m le = parameters_pass xs (after_item raw (Global line var i is_static) scope) fs e m le
  parameters_pass (Prototype line head ∷ xs) scope fs e m le = parameters_pass xs (with_function head.name scope) fs e m le
  parameters_pass (Define line head body ∷ xs) scope fs e m le =
      let after = after_item raw (Define line head body) scope in
      let inside = entered raw head scope in
      let g = more_there (function_tree raw line head body scope) (functions_from raw xs after) fs e in
      let q = function_made raw line head body scope g.first g.first_there in
      let trees : after_all (map (treed raw) body) inside ≡ after_body raw body inside = list_after raw body inside ∙ sym (body_after raw body inside) in
      let grown : inside.variables ≤ after.variables = subst (λ (z : Scope). inside.variables ≤ z.variables) trees ((body_grows raw body).more inside) in
      let rest : after.variables ≤ (after_items raw xs after).variables = (let c = items_count raw xs after in omega (arith, c)) in
      subst (λ (gs : List Function). list_all (parameters_fit m) gs ≡ true) g.same
      (and_from (parameters_fit m g.first) (list_all (parameters_fit m) g.rest) (function_parameters line head body scope g.first q m (omega (arith, grown, rest, le))) (parameters_pass xs after g.rest g.rest_there m le))
