-- The functions of a text, item by item: the numbers of their statements, the variables that they name, and main.
use Rattle.std.proofs.Common.{◌≡◌, ℕ, ◌+◌, ◌≤◌, List, [], ◌∷◌, map, true, Option, Some, None, refl, sym, ap, subst, ◌∙◌, arith}
use Rattle.std.specs.List.{list_all}
use Rattle.c_language.proofs.ProgramParts.{function_made}
use Rattle.c_tree.specs.declared.program.Function.{Function}
use Rattle.c_tree.specs.declared.raw.program.RawHead.{RawHead}
use Rattle.c_tree.specs.declared.raw.program.RawInit.TheVariants as init
use Rattle.c_tree.specs.declared.raw.program.RawItem.{RawItem}
use Rattle.c_tree.specs.declared.raw.program.RawItem.TheVariants.{Include, Tag, Struct, Global, Prototype, Define}
use Rattle.c_tree.specs.declared.raw.program.RawParam.{RawParam}
use Rattle.c_tree.specs.declared.raw.program.RawProgram.{RawProgram}
use Rattle.c_tree.specs.declared.raw.statement.RawStatement.{RawStatement}
use Rattle.c_language.specs.Words.{Bytes}
use Rattle.c_language.specs.DeclaredTypes.{function_texts}
use Rattle.c_language.specs.Phrases.{after_body, item_phrases, after_item, items_phrases, after_items}
use Rattle.c_language.specs.ProgramOf.{collected, treed, function_tree, functions_from}
use Rattle.c_language.specs.Scopes.{Scope, Meaning, with_function, after_all, parameter_of, with_named, with_parameter, with_parameters, scope_of_parameters, entered}
use Rattle.c_language.proofs.Lists.{all_append}
use Rattle.c_language.proofs.Options.{some_same, more_there}
use Rattle.c_language.proofs.TreeScopes.{list_after}
use Rattle.c_language.proofs.PhraseLists.{body_after}
use Rattle.c_language.proofs.ScopeNumbers.{function_declared, through_function, function_variables, entered_statements}
use Rattle.c_print_laws.proofs.Scoping.{declared_count, count_append}
use Rattle.c_print_laws.proofs.Numbers.{item_variables}
use Rattle.numbered_texts.proofs.Terms.{AreLow}
use Rattle.dep_model.specs.Doings.{Doing, body_doings, functions_doings}
use Rattle.dep_model.specs.DoingNames.{doing_below}
use Rattle.dep_model.proofs.TextNumbers.{Takes, takes_none, takes_both, body_takes}
use Rattle.numbered_texts.proofs.NamesInScope.{low_more, low_push, Grows, same_grows, then_grows, variable_grows, body_below, body_grows}

module _ (raw : RawProgram) where
  -- ---- scopes

  function_grows : (name : Bytes) → Grows raw (with_function name)
  function_grows name = record {
    more = λ scope. let e = function_variables name scope in omega (arith, e);
    low = λ scope h. function_declared (λ (z : Scope). AreLow z.variables z.names) name scope h (low_push scope.variables scope.names (record { name = name; meaning = Meaning.Function }) h tt);
  }

  named_grows : (q : RawParam) (name : Option Bytes) → Grows raw (with_named raw q name)
  named_grows q None = same_grows raw
  named_grows q (Some x) = variable_grows raw (parameter_of q x) init.None

  parameters_grow : (ps : List RawParam) → Grows raw (with_parameters raw ps)
  parameters_grow [] = same_grows raw
  parameters_grow (q ∷ ps) = then_grows raw (with_parameter raw q) (with_parameters raw ps) (named_grows q q.name) (parameters_grow ps)

  head_grows : (head : RawHead) → Grows raw (scope_of_parameters head)
  head_grows head = record {
    more = λ scope. (function_grows head.name).more scope;
    low = λ scope h. (function_grows head.name).low scope h;
  }

  entered_grows : (head : RawHead) → Grows raw (entered raw head)
  entered_grows head = then_grows raw (scope_of_parameters head) (with_parameters raw head.params) (head_grows head) (parameters_grow head.params)

  after_trees : (b : List RawStatement) (scope : Scope) → after_all (map (treed raw) b) scope ≡ after_body raw b scope
  after_trees b scope = list_after raw b scope ∙ sym (body_after raw b scope)

  -- ---- variables that are declared

  pub items_count : (xs : List RawItem) (scope : Scope) → scope.variables + declared_count raw (items_phrases raw xs scope) ≡ (after_items raw xs scope).variables
  items_count [] scope = omega arith
  items_count (x ∷ xs) scope =
      let a = item_variables raw x scope in
      let b = items_count xs (after_item raw x scope) in
      let c = count_append raw (item_phrases raw x scope) (items_phrases raw xs (after_item raw x scope)) in
      omega (arith, a, b, c)

  -- ---- functions

  -- where the items from a scope on have these functions
  abbrev pub HasFunctions : List RawItem → Scope → List Function → Type 0
  HasFunctions xs scope fs = collected (functions_from raw xs scope) ≡ Some fs

  same_takes : (ds : List Doing) (i j k : ℕ) → j ≡ i → Takes ds j k → Takes ds i k
  same_takes ds i j k e h = subst (λ n. Takes ds n k) e h

  pub items_take : (xs : List RawItem) (scope : Scope) (fs : List Function) → HasFunctions xs scope fs → Takes (functions_doings fs) scope.statements (after_items raw xs scope).statements
  items_take [] scope fs e = subst (λ gs. Takes (functions_doings gs) scope.statements scope.statements) (some_same e) (takes_none scope.statements)
  items_take (Include b ∷ xs) scope fs e = items_take xs scope fs e
  items_take (Tag line tag ∷ xs) scope fs e = items_take xs scope fs e
  items_take (Struct line tag members ∷ xs) scope fs e = items_take xs (after_item raw (Struct line tag members) scope) fs e
  items_take (Global line var i is_static ∷ xs) scope fs e = items_take xs (after_item raw (Global line var i is_static) scope) fs e
  items_take (Prototype line head ∷ xs) scope fs e =
      same_takes (functions_doings fs) scope.statements (with_function head.name scope).statements _ (through_function (λ (z : Scope). z.statements) head.name scope refl) (items_take xs (with_function head.name scope) fs e)
  items_take (Define line head body ∷ xs) scope fs e =
      let after = after_item raw (Define line head body) scope in
      let g = more_there (function_tree raw line head body scope) (functions_from raw xs after) fs e in
      let q = function_made raw line head body scope g.first g.first_there in
      let inside = entered raw head scope in
      let here : Takes (body_doings q.statements) inside.statements (after_all (map (treed raw) body) inside).statements = body_takes raw body inside q.statements q.statements_there in
      let own : Takes (body_doings g.first.body) scope.statements after.statements =
      subst (λ (f : Function). Takes (body_doings f.body) scope.statements after.statements) (sym q.is) (same_takes (body_doings q.statements) scope.statements inside.statements after.statements (entered_statements raw head scope) (subst (λ (z : Scope). Takes (body_doings q.statements) inside.statements z.statements) (after_trees body inside) here)) in
      subst (λ gs. Takes (functions_doings gs) scope.statements (after_items raw xs after).statements) g.same
      (takes_both (body_doings g.first.body) (functions_doings g.rest) scope.statements after.statements (after_items raw xs after).statements own (items_take xs after g.rest g.rest_there))

  item_low : (x : RawItem) (scope : Scope) → AreLow scope.variables scope.names → AreLow (after_item raw x scope).variables (after_item raw x scope).names
  item_low (Include b) scope h = h
  item_low (Tag line tag) scope h = h
  item_low (Struct line tag members) scope h = h
  item_low (Global line var i is_static) scope h = (variable_grows raw var i).low scope h
  item_low (Prototype line head) scope h = (function_grows head.name).low scope h
  item_low (Define line head body) scope h =
      let before = with_function head.name scope in
      let inside = entered raw head scope in
      let g1 : before.variables ≤ inside.variables = (parameters_grow head.params).more (scope_of_parameters head scope) in
      let g2 : inside.variables ≤ (after_body raw body inside).variables = subst (λ (z : Scope). inside.variables ≤ z.variables) (after_trees body inside) ((body_grows raw body).more inside) in
      low_more before.variables (after_body raw body inside).variables before.names (omega (arith, g1, g2)) ((function_grows head.name).low scope h)

  pub items_below : (xs : List RawItem) (scope : Scope) (fs : List Function) → AreLow scope.variables scope.names → HasFunctions xs scope fs → (m : ℕ) → (after_items raw xs scope).variables ≤ m → list_all (doing_below m) (functions_doings fs) ≡ true
  items_below [] scope fs low e m le = subst (λ gs. list_all (doing_below m) (functions_doings gs) ≡ true) (some_same e) refl
  items_below (Include b ∷ xs) scope fs low e m le = items_below xs scope fs low e m le
  items_below (Tag line tag ∷ xs) scope fs low e m le = items_below xs scope fs low e m le
  items_below (Struct line tag members ∷ xs) scope fs low e m le = items_below xs (after_item raw (Struct line tag members) scope) fs low e m le
  items_below (Global line var i is_static ∷ xs) scope fs low e m le =
      items_below xs (after_item raw (Global line var i is_static) scope) fs (item_low (Global line var i is_static) scope low) e m le
  items_below (Prototype line head ∷ xs) scope fs low e m le =
      items_below xs (after_item raw (Prototype line head) scope) fs (item_low (Prototype line head) scope low) e m le
  items_below (Define line head body ∷ xs) scope fs low e m le =
      let after = after_item raw (Define line head body) scope in
      let g = more_there (function_tree raw line head body scope) (functions_from raw xs after) fs e in
      let q = function_made raw line head body scope g.first g.first_there in
      let inside = entered raw head scope in
      let more : after.variables ≤ (after_items raw xs after).variables = (let c = items_count xs after in omega (arith, c)) in
      let bound : (after_all (map (treed raw) body) inside).variables ≤ m = subst (λ (z : Scope). z.variables ≤ m) (sym (after_trees body inside)) (omega (arith, more, le)) in
      let own : list_all (doing_below m) (body_doings g.first.body) ≡ true =
      subst (λ (f : Function). list_all (doing_below m) (body_doings f.body) ≡ true) (sym q.is) (body_below raw body inside q.statements ((entered_grows head).low scope low) q.statements_there m bound) in
      subst (λ gs. list_all (doing_below m) (functions_doings gs) ≡ true) g.same
      (all_append (doing_below m) (body_doings g.first.body) (functions_doings g.rest) own (items_below xs after g.rest (item_low (Define line head body) scope low) g.rest_there m le))

  -- ---- main

  pub names_are : (xs : List RawItem) (scope : Scope) (fs : List Function) → HasFunctions xs scope fs → map (λ (f : Function). f.name) fs ≡ map (λ (h : RawHead). h.name) (function_texts xs)
  names_are [] scope fs e = ap (map (λ (f : Function). f.name)) (sym (some_same e))
  names_are (Include b ∷ xs) scope fs e = names_are xs scope fs e
  names_are (Tag line tag ∷ xs) scope fs e = names_are xs scope fs e
  names_are (Struct line tag members ∷ xs) scope fs e = names_are xs (after_item raw (Struct line tag members) scope) fs e
  names_are (Global line var i is_static ∷ xs) scope fs e = names_are xs (after_item raw (Global line var i is_static) scope) fs e
  names_are (Prototype line head ∷ xs) scope fs e = names_are xs (with_function head.name scope) fs e
  names_are (Define line head body ∷ xs) scope fs e =
      let after = after_item raw (Define line head body) scope in
      let g = more_there (function_tree raw line head body scope) (functions_from raw xs after) fs e in
      let q = function_made raw line head body scope g.first g.first_there in
      ap (map (λ (f : Function). f.name)) (sym g.same) ∙ ap (λ n. n ∷ map (λ (f : Function). f.name) g.rest) (ap (λ (f : Function). f.name) q.is) ∙ ap (λ ns. head.name ∷ ns) (names_are xs after g.rest g.rest_there)
