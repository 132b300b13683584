-- No text of a well-formed program holds a line feed, since each is that of a token, or words of tokens in the layout.
use Rattle.std.proofs.Common.{◌≡◌, ℕ, List, [], ◌∷◌, map, Bool, true, ◌&&◌, Some, refl, sym, ap, ap₂, ◌∙◌}
use Rattle.std.specs.List.{list_all}
use Rattle.std.specs.Option.{option_map_or}
use Rattle.std.proofs.lemmas.Bool.{and_from, and_parts}
use Rattle.c_tree.specs.Unlined.{unlined, unlined_var, unlined_function, SameButLines}
use Rattle.c_tree.specs.declared.program.Program.{Program}
use Rattle.c_tree.specs.declared.program.Member.{Member}
use Rattle.c_tree.specs.declared.program.StructDef.{StructDef}
use Rattle.c_tree.specs.declared.program.Function.{Function}
use Rattle.c_tree.specs.declared.program.Item.{Item}
use Rattle.c_tree.specs.declared.program.Item.TheVariants as item
use Rattle.c_tree.specs.declared.statement.Statement.{Statement}
use Rattle.c_tree.specs.declared.statement.Statement.TheOpen.{Statement-F}
use Rattle.c_tree.specs.declared.raw.program.RawMember.{RawMember}
use Rattle.c_tree.specs.declared.raw.program.RawParam.{RawParam}
use Rattle.c_tree.specs.declared.raw.program.RawHead.{RawHead}
use Rattle.c_tree.specs.declared.raw.program.RawItem.{RawItem}
use Rattle.c_tree.specs.declared.raw.program.RawItem.TheVariants.{Include, Tag, Struct, Global, Prototype, Define}
use Rattle.c_tree.specs.declared.raw.program.RawProgram.{RawProgram}
use Rattle.c_tree.specs.declared.raw.statement.RawStatement.{RawStatement}
use Rattle.c_language.specs.DeclaredTypes.{StructText, struct_texts, defined_structs, struct_id, function_id}
use Rattle.c_language.specs.Scopes.{Scope, outset, with_variable, entered}
use Rattle.c_language.specs.Phrases.{after_item}
use Rattle.c_language.specs.ProgramOf.{collected, ctype, ctype_if, init_of, member_tree, struct_tree, body_of, function_tree, functions_from, item_tree, items_from, program_of}
use Rattle.c_language.specs.Programs.{IsWellFormed}
use Rattle.c_print.specs.Feedless.{feedless, type_feedless, statement_step, arm_step, statement_feedless, var_feedless, member_feedless, struct_feedless, function_feedless, name_feedless, item_feedless, IsFeedless}
use Rattle.c_print_laws.proofs.Options.{collected_are}
use Rattle.c_print_laws.proofs.Definitions.{program_parts}
use Rattle.c_tree.proofs.Unlining.{zeroed, fold_unlined}
use Rattle.c_print_laws.proofs.RawFeedless.{raw_type_feedless, raw_var_feedless, raw_init_feedless, raw_body_feedless, raw_member_feedless, raw_param_feedless, raw_head_feedless, raw_item_feedless, raw_items_feedless}
use Rattle.c_print_laws.proofs.SyntaxFeedless.{syntax_feedless}
use Rattle.text_syntax.proofs.Items.{text_is_syntax}
use Rattle.c_print_laws.proofs.FeedlessTypes.{all_given, type_given, optional_type_given}
use Rattle.c_print_laws.proofs.FeedlessStatements.{init_given, body_given}
use Rattle.c_print_laws.proofs.FeedlessVariables.{variables_given}
use Rattle.c_language.proofs.Options.{some_same, map_there, both_there}
use Rattle.c_language.proofs.Lists.{no_list, head_is, tail_is}

module _ (raw : RawProgram) where
  -- ---- struct types

  member_given : (m : RawMember) (x : Member) → raw_member_feedless m ≡ true → member_tree raw m ≡ Some x → member_feedless x ≡ true
  member_given m x h is =
      let p = and_parts (feedless m.name) (raw_type_feedless m.shape) h in
      let g = map_there _ (ctype raw m.shape) x is in
      ap member_feedless (sym g.same) ∙ and_from _ _ p.0 (type_given raw 0 m.shape p.1 g.value g.there)

  abbrev text_feedless : StructText → Bool
  text_feedless d = feedless d.tag && list_all raw_member_feedless d.members

  struct_given : (d : StructText) (x : StructDef) → text_feedless d ≡ true → struct_tree raw d ≡ Some x → struct_feedless x ≡ true
  struct_given d x h is =
      let p = and_parts (feedless d.tag) (list_all raw_member_feedless d.members) h in
      let g = map_there _ (collected (map (member_tree raw) d.members)) x is in
      ap struct_feedless (sym g.same)
      ∙ and_from _ _ p.0 (all_given (member_tree raw) raw_member_feedless member_feedless member_given d.members g.value p.1 (collected_are (map (member_tree raw) d.members) g.value g.there))

  texts_feedless : (xs : List RawItem) → raw_items_feedless xs ≡ true → list_all text_feedless (struct_texts xs) ≡ true
  texts_feedless [] h = refl
  texts_feedless (Include is_stdlib ∷ xs) h = texts_feedless xs h
  texts_feedless (Tag l tag ∷ xs) h = texts_feedless xs h
  texts_feedless (Struct l tag members ∷ xs) h = let p = and_parts (raw_item_feedless (Struct l tag members)) (raw_items_feedless xs) h in and_from _ _ p.0 (texts_feedless xs p.1)
  texts_feedless (Global l v i is_static ∷ xs) h = texts_feedless xs (and_parts (raw_item_feedless (Global l v i is_static)) (raw_items_feedless xs) h).1
  texts_feedless (Prototype l head ∷ xs) h = texts_feedless xs (and_parts (raw_item_feedless (Prototype l head)) (raw_items_feedless xs) h).1
  texts_feedless (Define l head body ∷ xs) h = texts_feedless xs (and_parts (raw_item_feedless (Define l head body)) (raw_items_feedless xs) h).1

  -- ---- functions

  function_given : (l : ℕ) (head : RawHead) (body : List RawStatement) (scope : Scope) (f : Function) → raw_item_feedless (Define l head body) ≡ true → function_tree raw l head body scope ≡ Some f → function_feedless f ≡ true
  function_given l head body scope f h is =
      let both = and_parts (raw_head_feedless head) (raw_body_feedless body) h in
      let p = and_parts (feedless head.name) (option_map_or raw_type_feedless head.result true && list_all raw_param_feedless head.params) both.0 in
      let q = and_parts (option_map_or raw_type_feedless head.result true) (list_all raw_param_feedless head.params) p.1 in
      let inside = entered raw head scope in
      let g = both_there _ (ctype_if raw head.result) (body_of raw body inside) f is in
      ap function_feedless (sym g.same)
      ∙ and_from _ _ p.0 (and_from _ _ (optional_type_given raw head.result g.left q.0 g.left_there) (body_given raw body inside g.right both.1 g.right_there))

  functions_given : (xs : List RawItem) (scope : Scope) (fs : List Function) → raw_items_feedless xs ≡ true → functions_from raw xs scope ≡ map Some fs → list_all function_feedless fs ≡ true
  functions_given [] scope [] h is = refl
  functions_given [] scope (f ∷ fs) h is = no_list (sym is)
  functions_given (Include is_stdlib ∷ xs) scope fs h is = functions_given xs (after_item raw (Include is_stdlib) scope) fs h is
  functions_given (Tag l tag ∷ xs) scope fs h is = functions_given xs (after_item raw (Tag l tag) scope) fs h is
  functions_given (Struct l tag members ∷ xs) scope fs h is = functions_given xs (after_item raw (Struct l tag members) scope) fs (and_parts (raw_item_feedless (Struct l tag members)) (raw_items_feedless xs) h).1 is
  functions_given (Global l v i is_static ∷ xs) scope fs h is = functions_given xs (after_item raw (Global l v i is_static) scope) fs (and_parts (raw_item_feedless (Global l v i is_static)) (raw_items_feedless xs) h).1 is
  functions_given (Prototype l head ∷ xs) scope fs h is = functions_given xs (after_item raw (Prototype l head) scope) fs (and_parts (raw_item_feedless (Prototype l head)) (raw_items_feedless xs) h).1 is
  functions_given (Define l head body ∷ xs) scope [] h is = no_list is
  functions_given (Define l head body ∷ xs) scope (f ∷ fs) h is =
      let p = and_parts (raw_item_feedless (Define l head body)) (raw_items_feedless xs) h in
      and_from _ _ (function_given l head body scope f p.0 (head_is is)) (functions_given xs (after_item raw (Define l head body) scope) fs p.1 (tail_is is))

  -- ---- items

  names_feedless : (ps : List RawParam) → list_all raw_param_feedless ps ≡ true → list_all name_feedless (map (λ (q : RawParam). q.name) ps) ≡ true
  names_feedless [] h = refl
  names_feedless (q ∷ qs) h =
      let p = and_parts (raw_param_feedless q) (list_all raw_param_feedless qs) h in
      and_from _ _ (and_parts (option_map_or feedless q.name true) (raw_type_feedless q.shape) p.0).0 (names_feedless qs p.1)

  item_given : (x : RawItem) (scope : Scope) (i : Item) → raw_item_feedless x ≡ true → item_tree raw x scope ≡ Some i → item_feedless i ≡ true
  item_given (Include is_stdlib) scope i h is = ap item_feedless (sym (some_same is))
  item_given (Tag l tag) scope i h is = let g = map_there item.Tag (struct_id raw tag) i is in ap item_feedless (sym g.same)
  item_given (Struct l tag members) scope i h is = ap item_feedless (sym (some_same is))
  item_given (Global l v begin is_static) scope i h is =
      let inside = with_variable raw v begin scope in
      let g = map_there (item.Global scope.variables) (init_of raw inside begin) i is in
      ap item_feedless (sym g.same) ∙ init_given raw inside begin g.value (and_parts (raw_var_feedless v) (raw_init_feedless begin) h).1 g.there
  item_given (Prototype l head) scope i h is =
      let p = and_parts (feedless head.name) (option_map_or raw_type_feedless head.result true && list_all raw_param_feedless head.params) h in
      let q = and_parts (option_map_or raw_type_feedless head.result true) (list_all raw_param_feedless head.params) p.1 in
      let g = map_there _ (function_id raw head.name) i is in
      ap item_feedless (sym g.same) ∙ names_feedless head.params q.1
  item_given (Define l head body) scope i h is = ap item_feedless (sym (some_same is))

  items_given : (xs : List RawItem) (scope : Scope) (is : List Item) → raw_items_feedless xs ≡ true → items_from raw xs scope ≡ map Some is → list_all item_feedless is ≡ true
  items_given [] scope [] h same = refl
  items_given [] scope (i ∷ is) h same = no_list (sym same)
  items_given (x ∷ xs) scope [] h same = no_list same
  items_given (x ∷ xs) scope (i ∷ is) h same =
      let p = and_parts (raw_item_feedless x) (raw_items_feedless xs) h in
      and_from _ _ (item_given x scope i p.0 (head_is same)) (items_given xs (after_item raw x scope) is p.1 (tail_is same))

  -- ---- the program of the text

  program_given : (p : Program) → raw_items_feedless raw.items ≡ true → program_of raw ≡ Some p → IsFeedless p
  program_given p h is =
      let parts = program_parts raw p is in
      record {
        vars = variables_given raw p.vars h parts.vars;
        structs = all_given (struct_tree raw) text_feedless struct_feedless struct_given (defined_structs raw) p.structs (texts_feedless raw.items h) parts.structs;
        functions = functions_given raw.items outset p.functions h parts.functions;
        items = items_given raw.items outset p.items h parts.items;
      }

-- ---- texts don't depend on lines

feedless_free : (y : Statement-F Bool Bool) → statement_step (zeroed y) ≡ statement_step y
feedless_free (Statement-F.Declare id l x i) = refl
feedless_free _ = refl

statement_same : (x : Statement) → statement_feedless (unlined x) ≡ statement_feedless x
statement_same = fold_unlined statement_step arm_step feedless_free

-- two lists that a test can't tell apart
mapped_same : {A : Type 0} (g : A → A) (test : A → Bool) → ((a : A) → test (g a) ≡ test a) → (xs : List A) → list_all test (map g xs) ≡ list_all test xs
mapped_same g test same [] = refl
mapped_same g test same (x ∷ xs) = ap₂ (λ (a b : Bool). a && b) (same x) (mapped_same g test same xs)

function_same : (f : Function) → function_feedless (unlined_function f) ≡ function_feedless f
function_same f = ap (λ (b : Bool). feedless f.name && (option_map_or type_feedless f.result true && b)) (mapped_same unlined statement_feedless statement_same f.body)

same_feedless : (p q : Program) → SameButLines p q → IsFeedless q → IsFeedless p
same_feedless p q same h = record {
  vars = sym (mapped_same unlined_var var_feedless (λ v. refl) p.vars) ∙ ap (λ (r : Program). list_all var_feedless r.vars) same ∙ mapped_same unlined_var var_feedless (λ v. refl) q.vars ∙ h.vars;
  structs = ap (λ (r : Program). list_all struct_feedless r.structs) same ∙ h.structs;
  functions = sym (mapped_same unlined_function function_feedless function_same p.functions) ∙ ap (λ (r : Program). list_all function_feedless r.functions) same ∙ mapped_same unlined_function function_feedless function_same q.functions ∙ h.functions;
  items = ap (λ (r : Program). list_all item_feedless r.items) same ∙ h.items;
}

-- ---- the law

-- No text of a well-formed program holds a line feed.
pub well_formed_feedless : (p : Program) → IsWellFormed p → IsFeedless p
well_formed_feedless p ok =
    same_feedless p ok.same ok.but_lines (program_given ok.raw ok.same (syntax_feedless ok.raw (text_is_syntax ok.raw ok.tree)) ok.has.program)
