-- The functions of a text, item by item: how many parameters they have, and the calls in their bodies.
use Rattle.std.proofs.Common.{◌≡◌, ℕ, suc, ◌+◌, List, [], ◌∷◌, ◌++◌, map, length, Bool, true, Option, None, Some, refl, sym, ap, subst, ◌∙◌}
use Rattle.std.specs.Prelude.{is_some, ◌&&◌, not, if◌then◌else◌}
use Rattle.std.specs.List.{list_all}
use Rattle.std.proofs.lemmas.Bool.{and_parts}
use Rattle.c_tree.specs.declared.program.Function.{Function}
use Rattle.c_tree.specs.declared.raw.expr.RawType.{RawType}
use Rattle.c_tree.specs.declared.raw.statement.RawStatement.{RawStatement}
use Rattle.c_tree.specs.declared.statement.Statement.{Statement}
use Rattle.c_tree.specs.declared.types.CType.{CType}
use Rattle.c_tree.specs.declared.raw.program.RawHead.{RawHead}
use Rattle.c_tree.specs.declared.raw.program.RawItem.{RawItem}
use Rattle.c_tree.specs.declared.raw.program.RawItem.TheVariants.{Include, Tag, Struct, Global, Prototype, Define}
use Rattle.c_tree.specs.declared.raw.program.RawParam.{RawParam}
use Rattle.c_tree.specs.declared.raw.program.RawProgram.{RawProgram}
use Rattle.c_language.specs.DeclaredTypes.{function_texts}
use Rattle.c_language.specs.ItemGrammar.{are_named}
use Rattle.c_language.specs.ItemGrammar as grammar
use Rattle.c_language.specs.NameRules.{is_main}
use Rattle.c_language.specs.Phrases.{Phrases, EndsFunction, phrase, head_phrases, body_phrases, item_phrases, after_item, items_phrases}
use Rattle.c_language.specs.ProgramOf.{ctype, ctype_if, body_of, parameter_ids, function_tree, functions_from}
use Rattle.c_language.specs.Rules.{AreKept}
use Rattle.c_language.specs.Scopes.{Scope, with_function, scope_of_parameters, entered}
use Rattle.c_language.specs.Syntax.{is_head, is_body, is_item}
use Rattle.c_language.proofs.Lists.{all_append}
use Rattle.c_language.proofs.Options.{some_same, optional_there, more_there}
use Rattle.c_language.proofs.PhraseLists.{kept_first, kept_second}
use Rattle.c_language.proofs.ProgramParts.{function_made}
use Rattle.dep_model.specs.Doings.{Doing, body_doings, functions_doings}
use Rattle.numbered_texts.proofs.CallsFit.{has_result}
use Rattle.numbered_texts.proofs.Items.{HasFunctions}

-- parameters that have names are as many as their numbers
named_ids : (ps : List RawParam) (n : ℕ) → are_named ps ≡ true → length (parameter_ids ps n) ≡ length ps
named_ids [] n h = refl
named_ids (q ∷ ps) n h =
    let p : (grammar.is_some q.name ≡ true) × (are_named ps ≡ true) = and_parts (grammar.is_some q.name) (are_named ps) h in
    ap (λ (b : Bool). length (if b then n ∷ parameter_ids ps (n + 1) else parameter_ids ps n)) p.0 ∙ ap suc (named_ids ps (n + 1) p.1)

abbrev parameters_of : List Function → List ℕ
parameters_of fs = map (λ (f : Function). length f.params) fs

abbrev given_by : List Function → List Bool
given_by fs = map (λ (f : Function). is_some f.result && not (is_main f.name)) fs

abbrev parameters_in : List RawItem → List ℕ
parameters_in xs = map (λ (h : RawHead). length h.params) (function_texts xs)

later_items : (x : RawItem) (xs : List RawItem) → list_all is_item (x ∷ xs) ≡ true → list_all is_item xs ≡ true
later_items x xs h = (and_parts (is_item x) (list_all is_item xs) h).1

module _ (raw : RawProgram) where
  later_phrases : (x : RawItem) (xs : List RawItem) (scope : Scope) → AreKept raw (items_phrases raw (x ∷ xs) scope) → AreKept raw (items_phrases raw xs (after_item raw x scope))
  later_phrases x xs scope kept = kept_second raw (item_phrases raw x scope) (items_phrases raw xs (after_item raw x scope)) kept

  pub counts_are : (xs : List RawItem) (scope : Scope) (fs : List Function) → list_all is_item xs ≡ true → HasFunctions raw xs scope fs → parameters_of fs ≡ parameters_in xs
  counts_are [] scope fs h e = ap parameters_of (sym (some_same e))
  counts_are (Include b ∷ xs) scope fs h e = counts_are xs scope fs (later_items (Include b) xs h) e
  counts_are (Tag line tag ∷ xs) scope fs h e = counts_are xs scope fs (later_items (Tag line tag) xs h) e
  counts_are (Struct line tag members ∷ xs) scope fs h e =
      counts_are xs (after_item raw (Struct line tag members) scope) fs (later_items (Struct line tag members) xs h) e
  counts_are (Global line var i is_static ∷ xs) scope fs h e =
      counts_are xs (after_item raw (Global line var i is_static) scope) fs (later_items (Global line var i is_static) xs h) e
  counts_are (Prototype line head ∷ xs) scope fs h e = counts_are xs (with_function head.name scope) fs (later_items (Prototype line head) xs h) e
  counts_are (Define line head body ∷ xs) scope fs h e =
      let after = after_item raw (Define line head body) scope in
      let g = more_there (function_tree raw line head body scope) (functions_from raw xs after) fs e in
      let q = function_made raw line head body scope g.first g.first_there in
      let here = (and_parts (is_item (Define line head body)) (list_all is_item xs) h).0 in
      let named : are_named head.params ≡ true = (and_parts (are_named head.params) (is_body body) (and_parts (is_head head) _ here).1).0 in
      ap parameters_of (sym g.same) ∙ ap (λ n. n ∷ parameters_of g.rest) (ap (λ (f : Function). length f.params) q.is ∙ named_ids head.params scope.variables named)
      ∙ ap (λ ns. length head.params ∷ ns) (counts_are xs after g.rest (later_items (Define line head body) xs h) g.rest_there)

  -- what the functions give is what their heads say
  given_of : (r : Option RawType) (made : Option CType) → ctype_if raw r ≡ Some made → is_some made ≡ is_some r
  given_of None made e = ap is_some (sym (some_same e))
  given_of (Some t) made e = let m = optional_there (ctype raw t) made e in ap is_some (sym m.1.1)

  abbrev given_in : List RawItem → List Bool
  given_in xs = map has_result (function_texts xs)

  pub results_are : (xs : List RawItem) (scope : Scope) (fs : List Function) → HasFunctions raw xs scope fs → given_by fs ≡ given_in xs
  results_are [] scope fs e = ap given_by (sym (some_same e))
  results_are (Include b ∷ xs) scope fs e = results_are xs scope fs e
  results_are (Tag line tag ∷ xs) scope fs e = results_are xs scope fs e
  results_are (Struct line tag members ∷ xs) scope fs e = results_are xs (after_item raw (Struct line tag members) scope) fs e
  results_are (Global line var i is_static ∷ xs) scope fs e = results_are xs (after_item raw (Global line var i is_static) scope) fs e
  results_are (Prototype line head ∷ xs) scope fs e = results_are xs (with_function head.name scope) fs e
  results_are (Define line head body ∷ xs) scope fs e =
      let after = after_item raw (Define line head body) scope in
      let g = more_there (function_tree raw line head body scope) (functions_from raw xs after) fs e in
      let q = function_made raw line head body scope g.first g.first_there in
      let one : (is_some q.result && not (is_main head.name)) ≡ has_result head = ap (λ b. b && not (is_main head.name)) (given_of head.result q.result q.result_there) in
      ap given_by (sym g.same) ∙ ap (λ b. b ∷ given_by g.rest) (ap (λ (f : Function). is_some f.result && not (is_main f.name)) q.is ∙ one) ∙ ap (λ bs. has_result head ∷ bs) (results_are xs after g.rest g.rest_there)

  -- a test that the statements of each body pass
  module _ (ok : Doing → Bool) (passes : (b : List RawStatement) (scope : Scope) (xs : List Statement) → body_of raw b scope ≡ Some xs → AreKept raw (body_phrases raw b scope) → list_all ok (body_doings xs) ≡ true) where
    pub items_pass : (xs : List RawItem) (scope : Scope) (fs : List Function) → AreKept raw (items_phrases raw xs scope) → HasFunctions raw xs scope fs → list_all ok (functions_doings fs) ≡ true
    items_pass [] scope fs kept e = subst (λ (gs : List Function). list_all ok (functions_doings gs) ≡ true) (some_same e) refl
    items_pass (Include b ∷ xs) scope fs kept e = items_pass xs scope fs kept e
    items_pass (Tag line tag ∷ xs) scope fs kept e = items_pass xs scope fs (later_phrases (Tag line tag) xs scope kept) e
    items_pass (Struct line tag members ∷ xs) scope fs kept e =
        items_pass xs (after_item raw (Struct line tag members) scope) fs (later_phrases (Struct line tag members) xs scope kept) e
    items_pass (Global line var i is_static ∷ xs) scope fs kept e =
        items_pass xs (after_item raw (Global line var i is_static) scope) fs (later_phrases (Global line var i is_static) xs scope kept) e
    items_pass (Prototype line head ∷ xs) scope fs kept e = items_pass xs (with_function head.name scope) fs (later_phrases (Prototype line head) xs scope kept) e
    items_pass (Define line head body ∷ xs) scope fs kept e =
        let after = after_item raw (Define line head body) scope in
        let inside = entered raw head scope in
        let g = more_there (function_tree raw line head body scope) (functions_from raw xs after) fs e in
        let q = function_made raw line head body scope g.first g.first_there in
        let ends : Phrases = phrase line scope (EndsFunction head body) ∷ [] in
        let own = kept_first raw (item_phrases raw (Define line head body) scope) (items_phrases raw xs after) kept in
        let behind_head = kept_second raw (head_phrases raw head.params (scope_of_parameters head scope)) (body_phrases raw body inside ++ ends) own.1 in
        let here : list_all ok (body_doings q.statements) ≡ true = passes body inside q.statements q.statements_there (kept_first raw (body_phrases raw body inside) ends behind_head) in
        subst (λ (gs : List Function). list_all ok (functions_doings gs) ≡ true) g.same
        (all_append ok (body_doings g.first.body) (functions_doings g.rest) (ap (λ (f : Function). list_all ok (body_doings f.body)) q.is ∙ here) (items_pass xs after g.rest (later_phrases (Define line head body) xs scope kept) g.rest_there))
