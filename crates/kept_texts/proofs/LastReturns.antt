-- A function of a well-formed program that gives a result ends with a return of a value, and a return stands nowhere else.
use Rattle.std.proofs.Common.{◌≡◌, ◌≢◌, ℕ, zero, suc, ◌==◌, List, [], ◌∷◌, ◌++◌, map, true, false, Option, Some, None, option_map, slice_get, Contains, refl, sym, ap, subst, ◌∙◌}
use Rattle.std.specs.Prelude.{is_some}
use Rattle.std.specs.List.{list_all}
use Rattle.std.specs.Option.{option_map_or}
use Rattle.std.proofs.lemmas.Bool.{and_parts, eq-eqb}
use Rattle.std.proofs.lemmas.Option.{same_Some}
use Rattle.c_tree.specs.declared.expr.Expr.{Expr}
use Rattle.c_tree.specs.declared.program.Function.{Function}
use Rattle.c_tree.specs.declared.program.Program.{Program}
use Rattle.c_tree.specs.declared.raw.program.RawHead.{RawHead}
use Rattle.c_tree.specs.declared.raw.program.RawItem.{RawItem}
use Rattle.c_tree.specs.declared.raw.program.RawItem.TheVariants.{Include, Tag, Struct, Global, Prototype, Define}
use Rattle.c_tree.specs.declared.raw.program.RawProgram.{RawProgram}
use Rattle.c_tree.specs.declared.raw.statement.RawStatement.{RawStatement}
use Rattle.c_tree.specs.declared.raw.statement.RawStatement.TheVariants as raw_s
use Rattle.c_tree.specs.declared.statement.Statement.{Statement}
use Rattle.c_tree.specs.declared.statement.Statement.TheVariants as s
use Rattle.c_language.specs.CallRules.{EndsWithValue, MisusesReturn}
use Rattle.c_language.specs.Code.{Returns}
use Rattle.c_language.specs.DeclaredTypes.{function_texts, function_id}
use Rattle.c_language.specs.HeadTests.{ends_with_value}
use Rattle.c_language.specs.Mains.{is_main_of}
use Rattle.c_language.specs.NameRules.{main_name, is_main}
use Rattle.c_language.specs.Phrases.{EndsFunction, phrase, head_phrases, body_phrases, item_phrases, after_item, items_phrases}
use Rattle.c_language.specs.ProgramOf.{optional, ctype_if, expr_of, treed, body_of, function_tree, functions_from}
use Rattle.c_language.specs.Programs.{IsTree, HasProgram, IsWithinLimits}
use Rattle.c_language.specs.Rules.{Breaks, AreKept}
use Rattle.c_language.specs.Scopes.{Scope, Scoped, outset, with_function, scope_of_parameters, entered, in_order}
use Rattle.c_language.specs.Syntax.{is_head, is_body, is_item}
use Rattle.c_language.specs.ItemGrammar.{are_named}
use Rattle.c_language.proofs.HeadLemmas.{ends_from, ends_told}
use Rattle.c_language.proofs.Lists.{same_bytes}
use Rattle.c_language.proofs.Options.{some_same, optional_there, map_there, more_there}
use Rattle.c_language.proofs.PhraseLists.{kept_first, kept_second, phrases_kept}
use Rattle.c_language.proofs.ProgramParts.{made_of, function_made}
use Rattle.c_language.proofs.Tests.{false_true, by_answer}
use Rattle.c_language.proofs.TreedForms.{treed-Return}
use Rattle.text_syntax.proofs.Items.{text_is_syntax}
use Rattle.dep_model.specs.Doings.{Does, body_doings, doings_of}
use Rattle.dep_model.specs.VertexOrder.{has_result}
use Rattle.dep_model.proofs.Membership.{IsIn, in_of_contains}
use Rattle.numbered_texts.proofs.CallsFit.{position_found}
use Rattle.numbered_texts.proofs.HavingMain.{has_main}
use Rattle.hanging_sets.specs.Hanging.{EndsWith}
use Rattle.kept_texts.proofs.DefinedOnce.{found_again}
use Rattle.kept_texts.proofs.OwnVariables.{HasFunctions}
use Rattle.kept_texts.proofs.ReturnFree.{body_last}

none_at : {A : Type 0} {B : Type 0} (k : ℕ) (x : A) → slice_get {X = A} [] k ≡ Some x → B
none_at k x h = cc

module _ (raw : RawProgram) where
  -- where a function of a text is defined, among these items
  pub record DefinedAt (xs : List RawItem) (f : ℕ) (c : Function) : Type 0 where
    pub line : ℕ
    pub head : RawHead
    pub body : List RawStatement
    pub place : Scope
    pub made : function_tree raw line head body place ≡ Some c
    pub at : slice_get (function_texts xs) f ≡ Some head
    pub kept : AreKept raw (item_phrases raw (Define line head body) place)
    pub syntax : is_item (Define line head body) ≡ true

  later_kept : (x : RawItem) (xs : List RawItem) (scope : Scope) → AreKept raw (items_phrases raw (x ∷ xs) scope) → AreKept raw (items_phrases raw xs (after_item raw x scope))
  later_kept x xs scope kept = kept_second raw (item_phrases raw x scope) (items_phrases raw xs (after_item raw x scope)) kept

  later_items : (x : RawItem) (xs : List RawItem) → list_all is_item (x ∷ xs) ≡ true → list_all is_item xs ≡ true
  later_items x xs h = (and_parts (is_item x) (list_all is_item xs) h).1

  later_at : {x : RawItem} {xs : List RawItem} {f : ℕ} {c : Function} → function_texts (x ∷ xs) ≡ function_texts xs → DefinedAt xs f c → DefinedAt (x ∷ xs) f c
  later_at {f = f} same w = record { line = w.line; head = w.head; body = w.body; place = w.place; made = w.made; at = ap (λ (hs : List RawHead). slice_get hs f) same ∙ w.at; kept = w.kept; syntax = w.syntax }

  pub defined_at : (xs : List RawItem) (scope : Scope) (fs : List Function) → AreKept raw (items_phrases raw xs scope) → list_all is_item xs ≡ true → HasFunctions raw xs scope fs → (f : ℕ) (c : Function) → slice_get fs f ≡ Some c → DefinedAt xs f c
  defined_at [] scope fs kept h e f c at = none_at f c (ap (λ (gs : List Function). slice_get gs f) (some_same e) ∙ at)
  defined_at (Include b ∷ xs) scope fs kept h e f c at = later_at refl (defined_at xs scope fs (later_kept (Include b) xs scope kept) (later_items (Include b) xs h) e f c at)
  defined_at (Tag l w ∷ xs) scope fs kept h e f c at = later_at refl (defined_at xs scope fs (later_kept (Tag l w) xs scope kept) (later_items (Tag l w) xs h) e f c at)
  defined_at (Struct l w ms ∷ xs) scope fs kept h e f c at =
      later_at refl (defined_at xs (after_item raw (Struct l w ms) scope) fs (later_kept (Struct l w ms) xs scope kept) (later_items (Struct l w ms) xs h) e f c at)
  defined_at (Global l v i st ∷ xs) scope fs kept h e f c at =
      later_at refl (defined_at xs (after_item raw (Global l v i st) scope) fs (later_kept (Global l v i st) xs scope kept) (later_items (Global l v i st) xs h) e f c at)
  defined_at (Prototype l g ∷ xs) scope fs kept h e f c at =
      later_at refl (defined_at xs (with_function g.name scope) fs (later_kept (Prototype l g) xs scope kept) (later_items (Prototype l g) xs h) e f c at)
  defined_at (Define l g body ∷ xs) scope fs kept h e zero c at =
      let after = after_item raw (Define l g body) scope in
      let z = more_there (function_tree raw l g body scope) (functions_from raw xs after) fs e in
      let is : z.first ≡ c = same_Some _ _ (ap (λ (gs : List Function). slice_get gs 0) z.same ∙ at) in
      record {
        line = l;
        head = g;
        body = body;
        place = scope;
        made = z.first_there ∙ ap Some is;
        at = refl;
        kept = kept_first raw (item_phrases raw (Define l g body) scope) (items_phrases raw xs after) kept;
        syntax = (and_parts (is_item (Define l g body)) (list_all is_item xs) h).0;
      }
  defined_at (Define l g body ∷ xs) scope fs kept h e (suc f) c at =
      let after = after_item raw (Define l g body) scope in
      let z = more_there (function_tree raw l g body scope) (functions_from raw xs after) fs e in
      let w = defined_at xs after z.rest (later_kept (Define l g body) xs scope kept) (later_items (Define l g body) xs h) z.rest_there f c (ap (λ (gs : List Function). slice_get gs (suc f)) z.same ∙ at) in
      record { line = w.line; head = w.head; body = w.body; place = w.place; made = w.made; at = w.at; kept = w.kept; syntax = w.syntax }

  -- a body that ends with a value has a tree that does
  ends_value : {body : List RawStatement} (scope : Scope) (zs : List Statement) → EndsWithValue body → body_of raw body scope ≡ Some zs → (i : ℕ) × (e : Expr) × EndsWith i (Some e) zs
  ends_value scope zs (EndsWithValue.last {line} u) at =
      let z = more_there ((treed raw (raw_s.Return line (Some u))).gives scope) [] zs at in
      let m = map_there (s.Return scope.statements line) (optional (option_map (expr_of raw scope) (Some u))) z.first (sym (ap (λ (t : Scoped (Option Statement)). t.gives scope) (treed-Return raw line (Some u))) ∙ z.first_there) in
      let o = optional_there (expr_of raw scope u) m.value m.there in
      let only : z.first ∷ [] ≡ zs = ap (λ (ys : List Statement). z.first ∷ ys) (some_same z.rest_there) ∙ z.same in
      (scope.statements, o.0, subst (EndsWith scope.statements (Some o.0)) only (line, sym m.same ∙ ap (s.Return scope.statements line) (sym o.1.1)))
  ends_value scope zs (EndsWithValue.later {first} {rest} d) at =
      let z = more_there ((treed raw first).gives scope) (in_order (map (treed raw) rest) ((treed raw first).after scope)) zs at in
      let w = ends_value ((treed raw first).after scope) z.rest d z.rest_there in
      (w.0, w.1, subst (EndsWith w.0 (Some w.1)) z.same (later w.0 (Some w.1) z.first z.rest w.2))
    where
      later : (i : ℕ) (e : Option Expr) (y : Statement) (ys : List Statement) → EndsWith i e ys → EndsWith i e (y ∷ ys)
      later i e y [] k = absurd k
      later i e y (z ∷ ys) k = k

module _ (raw : RawProgram) (p : Program) (tree : IsTree raw) (has : HasProgram raw p) (within : IsWithinLimits raw p) where
  pub in_text : (f : ℕ) (c : Function) → slice_get p.functions f ≡ Some c → DefinedAt raw raw.items f c
  in_text f c at = defined_at raw raw.items outset p.functions (phrases_kept raw has.rules) (text_is_syntax raw tree) (made_of raw p has.program).functions f c at

  name_is : (f : ℕ) (c : Function) (w : DefinedAt raw raw.items f c) → c.name ≡ w.head.name
  name_is f c w = ap (λ (x : Function). x.name) (function_made raw w.line w.head w.body w.place c w.made).is

  -- a function is found by its name
  pub own_number : (f : ℕ) (c : Function) → slice_get p.functions f ≡ Some c → function_id raw c.name ≡ Some f
  own_number f c at = let w = in_text f c at in ap (function_id raw) (name_is f c w) ∙ found_again raw has.rules f w.head w.at

  main_once : (f : ℕ) (c : Function) → slice_get p.functions f ≡ Some c → is_main c.name ≡ true → is_main_of p f ≡ true
  main_once f c at main =
      let there = has_main p (record { raw = raw; same = p; tree = tree; has = has; within = within; but_lines = refl }) in
      let found = position_found (λ (x : Function). is_main x.name) p.functions there.0 there.1 in
      let same : there.0 ≡ f = some_same (sym (own_number there.0 found.value found.at) ∙ ap (function_id raw) (same_bytes found.value.name main_name found.passes ∙ sym (same_bytes c.name main_name main)) ∙ own_number f c at) in
      ap (λ (o : Option ℕ). option_map_or (λ m. m == f) o false) there.1 ∙ eq-eqb there.0 f same

  pub returns_there : (f : ℕ) (c : Function) → slice_get p.functions f ≡ Some c → has_result p f ≡ true → is_main_of p f ≡ false → (i : ℕ) × (e : Expr) × EndsWith i (Some e) c.body
  returns_there f c at gives not_main =
      let w = in_text f c at in
      let q = function_made raw w.line w.head w.body w.place c w.made in
      let other : w.head.name ≢ main_name = λ e. false_true (sym not_main ∙ main_once f c at (ap is_main (name_is f c w ∙ e))) in
      let given : is_some c.result ≡ true = sym (ap (λ (o : Option Function). option_map_or (λ (g : Function). is_some g.result) o false) at) ∙ gives in
      let result : w.head.result ≢ None = λ e.
      let none : None ≡ q.result = some_same (sym (ap (ctype_if raw) e) ∙ q.result_there) in
      false_true (ap is_some (none ∙ sym (ap (λ (g : Function). g.result) q.is)) ∙ given)
      in
      let inside = body_phrases raw w.body (entered raw w.head w.place) in
      let ends = kept_second raw inside (phrase w.line w.place (EndsFunction w.head w.body) ∷ []) (kept_second raw (head_phrases raw w.head.params (scope_of_parameters w.head w.place)) (inside ++ (phrase w.line w.place (EndsFunction w.head w.body) ∷ [])) w.kept.1) in
      let value : EndsWithValue w.body = by_answer (ends_with_value w.body) (λ t. ends_from w.body t) (λ n. absurd (ends.0 18 (Breaks.return (MisusesReturn.lacking other result (λ d. false_true (sym n ∙ ends_told d)))))) in
      let r = ends_value raw (entered raw w.head w.place) q.statements value q.statements_there in
      (r.0, r.1, subst (λ (g : Function). EndsWith r.0 (Some r.1) g.body) (sym q.is) r.2)

  pub returns_last : (f i : ℕ) (e : Option Expr) (c : Function) → slice_get p.functions f ≡ Some c → Contains (doings_of p f) (Does i (Returns e)) → EndsWith i e c.body
  returns_last f i e c at m =
      let w = in_text f c at in
      let q = function_made raw w.line w.head w.body w.place c w.made in
      let own : is_body w.body ≡ true = (and_parts (are_named w.head.params) (is_body w.body) (and_parts (is_head w.head) _ w.syntax).1).1 in
      let here : IsIn (body_doings c.body) (Does i (Returns e)) = subst (λ (o : Option Function). IsIn (option_map_or (λ (g : Function). body_doings g.body) o []) (Does i (Returns e))) at (in_of_contains (doings_of p f) (Does i (Returns e)) m) in
      subst (λ (g : Function). EndsWith i e g.body) (sym q.is)
      (body_last raw w.body (entered raw w.head w.place) q.statements own q.statements_there i e (subst (λ (g : Function). IsIn (body_doings g.body) (Does i (Returns e))) q.is here))
