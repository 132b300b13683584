-- The layout of a program is that of its text.
use Rattle.std.proofs.Common.{◌≡◌, ◌≢◌, ℕ, zero, suc, ◌+◌, List, [], ◌∷◌, ◌++◌, length, map, Bool, true, false, Option, Some, None, codes, refl, sym, ap, ap₂, subst, ◌∙◌, arith, slice_get}
use Rattle.std.specs.Prelude.{is_some, nat_lt, if◌then◌else◌, bytes_eq, Contains}
use Rattle.std.specs.Option.{option_map_or}
use Rattle.std.specs.List.{find, position, position_or_len}
use Rattle.std.proofs.lemmas.List.Folds.{find_at}
use Rattle.std.proofs.lemmas.Slice.Eq.{bytes_eq-Decides}
use Rattle.std.proofs.lemmas.Bool.{true_from_ne_false, and_parts}
use Rattle.c_tree.specs.declared.types.CType.{CType}
use Rattle.c_tree.specs.declared.program.Program.{Program}
use Rattle.c_tree.specs.declared.program.Function.{Function}
use Rattle.c_tree.specs.declared.program.StructDef.{StructDef}
use Rattle.c_tree.specs.declared.program.Member.{Member}
use Rattle.c_tree.specs.declared.program.Var.{Var}
use Rattle.c_tree.specs.declared.program.Init.{Init}
use Rattle.c_tree.specs.declared.program.Item.{Item}
use Rattle.c_tree.specs.declared.program.Item.TheVariants as item
use Rattle.c_tree.specs.declared.raw.expr.RawType.{RawType}
use Rattle.c_tree.specs.declared.raw.expr.RawVar.{RawVar}
use Rattle.c_tree.specs.declared.raw.program.RawInit.{RawInit}
use Rattle.c_tree.specs.declared.raw.program.RawInit.TheVariants as init
use Rattle.c_tree.specs.declared.raw.program.RawMember.{RawMember}
use Rattle.c_tree.specs.declared.raw.program.RawParam.{RawParam}
use Rattle.c_tree.specs.declared.raw.program.RawHead.{RawHead}
use Rattle.c_tree.specs.declared.raw.program.RawItem.{RawItem}
use Rattle.c_tree.specs.declared.raw.program.RawItem.TheVariants.{Include, Tag, Struct, Global, Prototype, Define}
use Rattle.c_tree.specs.declared.raw.program.RawProgram.{RawProgram}
use Rattle.c_tree.specs.declared.raw.statement.RawStatement.{RawStatement}
use Rattle.c_tree.specs.declared.statement.Statement.{Statement}
use Rattle.c_language.specs.Words.{Bytes, declared, type_words}
use Rattle.c_language.specs.Layout.{line, var_words, Laid, block_lines, body_lines, static_words, result_words, param_words, named_params, params_words, head_words, member_lines, struct_lines, function_lines, global_words, item_lines, items_lines, layout}
use Rattle.c_language.specs.ItemGrammar.{are_named}
use Rattle.c_language.specs.DeclaredTypes.{item_count, struct_texts, defined_structs, function_texts, defined_functions, struct_id, function_id, definition_of, result_type, parameter_types, type_or_void, written_type}
use Rattle.c_language.specs.Scopes.{Scope, outset, Meaning, with_variable, with_function, with_named, with_parameter, with_parameters, parameter_of, scope_of_parameters, entered}
use Rattle.c_language.specs.Phrases.{InBlock, InHead, InFile, phrase, DeclaresFunction, EndsFunction, taken_phrases, parameter_phrases, head_phrases, body_phrases, item_phrases, after_item, items_phrases, phrases}
use Rattle.c_language.specs.Rules.{Breaks, KeepsRules, tag, no_definition, AreKept}
use Rattle.c_language.specs.StructRules.{MisusesTag}
use Rattle.c_language.specs.NameRules.{agree, all_agree, same_signature, LacksDefinition}
use Rattle.c_language.specs.Uses.{tags_in, tags_if}
use Rattle.c_language.specs.ExprTypes.{same_base}
use Rattle.c_language.specs.declared.expr_type.Base.{Base}
use Rattle.c_language.specs.declared.expr_type.Base.TheVariants as base
use Rattle.c_language.specs.declared.expr_type.ExprType.{ExprType}
use Rattle.c_language.specs.ProgramOf.{ctype, ctype_with, ctype_if, init_of, member_tree, struct_tree, parameter_ids, function_tree, functions_from, body_of, items_from, program_of}
use Rattle.c_language.proofs.LayoutLemmas.{block_lines-laid}
use Rattle.c_text_layout.specs.RawLayout.{raw_declared, raw_body_lines, raw_result_words, raw_named_words, raw_param_words, raw_head_words, raw_member_lines, raw_item_lines, raw_items_lines, raw_layout}
use Rattle.c_print_laws.proofs.Options.{collected_are}
use Rattle.c_language.proofs.Tests.{false_true}
use Rattle.c_language.proofs.PhraseLists.{body_in_order, phrases_kept}
use Rattle.c_print_laws.proofs.Named.{IsNamed, Fits, fits_append, positioned, struct_at, struct_named, member_named, members_typed}
use Rattle.c_print_laws.proofs.TypeLayout.{declared_layout, type_layout}
use Rattle.c_print_laws.proofs.Told.{AreTold, AllStand, stand_all, told_first, told_rest, is_declared}
use Rattle.c_print_laws.proofs.CallLayout.{optional_is, init_layout}
use Rattle.c_print_laws.proofs.StatementLayout.{begins_kept, list_laid}
use Rattle.c_print_laws.proofs.Numbers.{parameter_count, head_count, define_structs, prototype_functions, prototype_structs}
use Rattle.c_print_laws.proofs.Definitions.{program_parts, Behind, behind_first, behind_rest, behind_at, ParamsAre, IsDefinedAs, ParamsPlain, ResultPlain, HeadPlain, HeadsPlain, FunctionsAt, define_told, define_later, same_functions, definitions, function_named}
use Rattle.c_print_laws.proofs.Agreement.{IsObject, IsTyped, SameWords, typed, tagged, agreed, agreed_declared, agreed_nameless, agreed_result}
use Rattle.c_language.proofs.Options.{none_there, some_same, map_there, both_there}
use Rattle.c_language.proofs.PlainTypes.{IsPlain}
use Rattle.c_language.proofs.ScopeNumbers.{function_declared, function_variables}
use Rattle.c_language.proofs.Lists.{no_list, head_is, tail_is}

-- what stands at the position of a test is the first that passes it
found_at : {A : Type 0} (test : A → Bool) (xs : List A) (k : ℕ) (x : A) → position test xs ≡ Some k → slice_get xs k ≡ Some x → find test xs ≡ Some x
found_at test xs k x h is = find_at test xs ∙ ap (slice_get xs) (by_test (nat_lt (position_or_len test xs) (length xs)) h) ∙ is
  where
    by_test : (b : Bool) → (if b then Some (position_or_len test xs) else None) ≡ Some k → position_or_len test xs ≡ k
    by_test true h = some_same h
    by_test false h = none_there h

module _ (raw : RawProgram) (p : Program) (named : IsNamed raw p) where
  -- ---- definitions

  body_laid : (body : List RawStatement) (scope : Scope) → Fits p scope → AreTold raw p scope.variables (body_phrases raw body scope)
      → (ts : List Statement) → body_of raw body scope ≡ Some ts → body_lines p 1 ts ≡ raw_body_lines 1 body
  body_laid body scope fits told ts h =
      sym (block_lines-laid p ts 1)
      ∙ ap (λ (all : List Laid). block_lines all 1)
      (list_laid raw p named body scope InBlock fits (subst (AreTold raw p scope.variables) (body_in_order raw body scope) told) ts (collected_are _ ts h))

  result_laid : (t : Option RawType) (c : Option CType) → ctype_if raw t ≡ Some c → result_words p c ≡ raw_result_words t
  result_laid None c h = ap (result_words p) (sym (some_same h))
  result_laid (Some t) None h = none_there (sym (optional_is (Some (ctype raw t)) None h))
  result_laid (Some t) (Some c) h =
      let k = type_layout raw p named 0 t c (some_same (optional_is (Some (ctype raw t)) (Some c) h)) in
      ap₂ (λ (x y : Bytes). x ++ (codes " " ++ y)) k.base k.star

  parameter_fits : (q : RawParam) (name : Option Bytes) (scope : Scope) → Fits p scope → AreTold raw p scope.variables (parameter_phrases raw q name scope) → Fits p (with_named raw q name scope)
  parameter_fits q None scope fits told = fits
  parameter_fits q (Some name) scope fits told = (is_declared raw p named q.line scope.owner InHead scope (parameter_of q name) init.None told.stand.0).fits fits

  parameters_fit : (ps : List RawParam) (scope : Scope) → Fits p scope → AreTold raw p scope.variables (head_phrases raw ps scope) → Fits p (with_parameters raw ps scope)
  parameters_fit [] scope fits told = fits
  parameters_fit (q ∷ ps) scope fits told =
      let next = with_parameter raw q scope in
      parameters_fit ps next (parameter_fits q q.name scope fits (told_first raw p scope.variables (parameter_phrases raw q q.name scope) (head_phrases raw ps next) told))
      (told_rest raw p scope.variables next.variables (parameter_phrases raw q q.name scope) (head_phrases raw ps next) (parameter_count raw q q.name scope) told)

  parameter_laid : (q : RawParam) (ps : List RawParam) (name : Option Bytes) (scope : Scope) → is_some name ≡ true → AreTold raw p scope.variables (parameter_phrases raw q name scope)
      → map (var_words p) (parameter_ids ps (with_named raw q name scope).variables) ≡ map raw_param_words ps
      → map (var_words p) (if is_some name then scope.variables ∷ parameter_ids ps (scope.variables + 1) else parameter_ids ps scope.variables) ≡ raw_named_words name q.shape ∷ map raw_param_words ps
  parameter_laid q ps None scope is told rest = false_true is
  parameter_laid q ps (Some name) scope is told rest =
      ap₂ (λ (w : Bytes) (ws : List Bytes). w ∷ ws) (is_declared raw p named q.line scope.owner InHead scope (parameter_of q name) init.None told.stand.0).words rest

  parameters_laid : (ps : List RawParam) (scope : Scope) → are_named ps ≡ true → AreTold raw p scope.variables (head_phrases raw ps scope) → map (var_words p) (parameter_ids ps scope.variables) ≡ map raw_param_words ps
  parameters_laid [] scope are told = refl
  parameters_laid (q ∷ ps) scope are told =
      let next = with_parameter raw q scope in
      let each = and_parts (is_some q.name) (are_named ps) are in
      parameter_laid q ps q.name scope each.0 (told_first raw p scope.variables (parameter_phrases raw q q.name scope) (head_phrases raw ps next) told)
      (parameters_laid ps next each.1 (told_rest raw p scope.variables next.variables (parameter_phrases raw q q.name scope) (head_phrases raw ps next) (parameter_count raw q q.name scope) told))

  function_fits : (name : Bytes) (scope : Scope) → Fits p scope → Fits p (with_function name scope)
  function_fits name scope fits =
      function_declared (Fits p) name scope fits (fits_append p scope.names (record { name = name; meaning = Meaning.Function }) fits tt)

  define_laid : (l : ℕ) (h : RawHead) (body : List RawStatement) (scope : Scope) (f : Function) → Fits p scope → AreTold raw p scope.variables (item_phrases raw (Define l h body) scope)
      → are_named h.params ≡ true → function_tree raw l h body scope ≡ Some f → function_lines p f ≡ raw_item_lines (Define l h body)
  define_laid l h body scope f fits told are is =
      let g = both_there _ (ctype_if raw h.result) (body_of raw body (entered raw h scope)) f is in
      let begin = scope_of_parameters h scope in
      let inside = entered raw h scope in
      let ps = head_phrases raw h.params begin in
      let bs = body_phrases raw body inside in
      let all = define_told raw p l h body scope told in
      let heads = told_first raw p begin.variables ps (bs ++ (phrase l scope (EndsFunction h body) ∷ [])) all in
      let bodies = told_first raw p inside.variables bs (phrase l scope (EndsFunction h body) ∷ []) (told_rest raw p begin.variables inside.variables ps (bs ++ (phrase l scope (EndsFunction h body) ∷ [])) (head_count raw h.params begin) all) in
      let words : map (var_words p) (parameter_ids h.params scope.variables) ≡ map raw_param_words h.params
      = ap (λ (n : ℕ). map (var_words p) (parameter_ids h.params n)) (sym (function_variables h.name scope)) ∙ parameters_laid h.params begin are heads in
      ap (function_lines p) (sym g.same)
      ∙ ap₂ (λ (r : Bytes) (ws : List Bytes). line 0 ((static_words h.is_static ++ (r ++ (h.name ++ (codes "(" ++ (params_words ws ++ codes ")"))))) ++ codes " {") ++ (body_lines p 1 g.right ++ line 0 (codes "}")))
      (result_laid h.result g.left g.left_there) words
      ∙ ap (λ (w : Bytes). line 0 (raw_head_words h ++ codes " {") ++ (w ++ line 0 (codes "}")))
      (body_laid body inside (parameters_fit h.params begin (function_fits h.name scope fits) heads) bodies g.right g.right_there)

  -- ---- struct types and globals

  members_laid : (ms : List RawMember) (xs : List Member) → map (member_tree raw) ms ≡ map Some xs → member_lines p xs ≡ raw_member_lines ms
  members_laid [] [] h = refl
  members_laid [] (x ∷ xs) h = no_list (sym h)
  members_laid (m ∷ ms) [] h = no_list h
  members_laid (m ∷ ms) (x ∷ xs) h =
      let g = map_there _ (ctype raw m.shape) x (head_is h) in
      ap₂ (λ (w z : Bytes). line 1 (w ++ codes ";") ++ z)
      (ap (λ (y : Member). declared p y.shape y.name) (sym g.same) ∙ declared_layout raw p named 0 m.shape g.value m.name g.there) (members_laid ms xs (tail_is h))

  struct_laid : (are : map (struct_tree raw) (defined_structs raw) ≡ map Some p.structs) (k l : ℕ) (w : Bytes) (members : List RawMember)
      → slice_get (defined_structs raw) k ≡ Some (record { tag = w; members = members }) → item_lines p (item.Struct k) ≡ raw_item_lines (Struct l w members)
  struct_laid are k l w members h =
      let s = struct_at raw p are k (record { tag = w; members = members }) h in
      ap (λ (o : Option StructDef). option_map_or (struct_lines p) o []) s.at
      ∙ ap (λ (z : Bytes). line 0 (codes "struct " ++ (w ++ codes " {")) ++ (z ++ line 0 (codes "};"))) (members_laid members s.members s.trees)

  global_laid : (l : ℕ) (v : RawVar) (i : RawInit) (is_static : Bool) (scope : Scope) (x : Init) → Fits p scope → AreTold raw p scope.variables (item_phrases raw (Global l v i is_static) scope)
      → init_of raw (with_variable raw v i scope) i ≡ Some x → item_lines p (item.Global scope.variables x) ≡ raw_item_lines (Global l v i is_static)
  global_laid l v i is_static scope x fits told h =
      let at = told.stand.0 in
      let g = map_there _ (ctype_with raw (item_count i) v.shape) at.var at.is in
      let d = is_declared raw p named l scope.owner (InFile is_static) scope v i at in
      let words : global_words p scope.variables ≡ static_words is_static ++ raw_declared (item_count i) v.shape v.name
      = ap (λ (o : Option Var). option_map_or (λ (y : Var). static_words y.is_static ++ declared p y.shape y.name) o []) (at.at ∙ ap Some (sym g.same))
      ∙ ap (λ (w : Bytes). static_words is_static ++ w) (declared_layout raw p named (item_count i) v.shape g.value v.name g.there) in
      ap₂ (λ (w z : Bytes). line 0 (w ++ (z ++ codes ";"))) words (init_layout raw p named (with_variable raw v i scope) (d.fits fits) i (begins_kept raw p named l scope (InFile is_static) v i told) x h)

  -- ---- prototypes

  abbrev TagsDefined : RawType → Type 0
  TagsDefined a = (w : Bytes) → Contains (tags_in a) w → struct_id raw w ≢ None

  abbrev AllTagged : List RawParam → Type 0
  AllTagged [] = Unit {0}
  AllTagged (q ∷ qs) = TagsDefined q.shape × AllTagged qs

  all_tagged : (scope : Scope) (before qs : List RawParam) → AreKept raw (taken_phrases scope before qs) → AllTagged qs
  all_tagged scope before [] kept = tt
  all_tagged scope before (q ∷ qs) kept = ((λ w c none. kept.0 7 (tag (MisusesTag.undefined c none))), all_tagged scope (before ++ q ∷ []) qs kept.1)

  taken_words : (q : RawParam) (b : RawType) (name : Option Bytes) (x : ℕ) (v : Var) → slice_get p.vars x ≡ Some v → ctype raw b ≡ Some v.shape → IsPlain q.shape → IsPlain b → SameWords raw p named q.shape b
      → param_words p name x ≡ raw_named_words name q.shape
  taken_words q b None x v at is ha hb same =
      ap (λ (o : Option Var). option_map_or (λ (y : Var). type_words p y.shape) o []) at ∙ agreed_nameless raw p named q.shape b v.shape is same
  taken_words q b (Some name) x v at is ha hb same =
      ap (λ (o : Option Var). option_map_or (λ (y : Var). declared p y.shape name) o []) at ∙ agreed_declared raw p named q.shape b v.shape name ha hb is same

  taken_laid : (qs hs : List RawParam) (xs : List ℕ) → ParamsPlain qs → ParamsPlain hs → AllTagged qs → ParamsAre raw p xs hs
      → all_agree (map (λ (q : RawParam). written_type raw q.shape) qs) (map (λ (q : RawParam). written_type raw q.shape) hs) ≡ true
      → named_params p (map (λ (q : RawParam). q.name) qs) xs ≡ map raw_param_words qs
  taken_laid [] hs xs plain plains tagged are h = refl
  taken_laid (q ∷ qs) [] xs plain plains tagged are h = false_true h
  taken_laid (q ∷ qs) (b ∷ hs) [] plain plains tagged are h = absurd are
  taken_laid (q ∷ qs) (b ∷ hs) (x ∷ xs) plain plains defined are h =
      let each = and_parts (agree (written_type raw q.shape) (written_type raw b.shape)) _ h in
      let v = are.0 in
      let same = agreed raw p named q.shape b.shape (tagged raw p named plain.0 defined.0) (typed raw p named plains.0 v.0.shape v.2) each.0 in
      ap₂ (λ (w : Bytes) (ws : List Bytes). w ∷ ws) (taken_words q b.shape q.name x v.0 v.1 v.2 plain.0 plains.0 same) (taken_laid qs hs xs plain.1 plains.1 defined.1 are.1 each.1)

  abbrev ResultTagged : Option RawType → Type 0
  ResultTagged None = Unit {0}
  ResultTagged (Some t) = TagsDefined t

  no_void : (t : RawType) → IsTyped raw p named t → agree (type_or_void raw None) (written_type raw t) ≡ true → ⊥
  no_void t h is = by_type h.type.base (and_parts _ (same_base base.Void h.type.base) (ap (agree (type_or_void raw None)) (sym h.written) ∙ is)).1 h.object
    where
      by_type : (b : Base) → same_base base.Void b ≡ true → IsObject b → ⊥
      by_type (base.Integer i) h object = false_true h
      by_type (base.Struct k) h object = false_true h
      by_type base.Void h object = object

  no_object : (t : RawType) → IsTyped raw p named t → agree (written_type raw t) (type_or_void raw None) ≡ true → ⊥
  no_object t h is = by_type h.type.base (and_parts _ (same_base h.type.base base.Void) (ap (λ (o : Option ExprType). agree o (type_or_void raw None)) (sym h.written) ∙ is)).1 h.object
    where
      by_type : (b : Base) → same_base b base.Void ≡ true → IsObject b → ⊥
      by_type (base.Integer i) h object = false_true h
      by_type (base.Struct k) h object = false_true h
      by_type base.Void h object = object

  results_laid : (a b : Option RawType) (c : Option CType) → ResultPlain a → ResultPlain b → ResultTagged a → ctype_if raw b ≡ Some c → agree (type_or_void raw a) (type_or_void raw b) ≡ true → result_words p c ≡ raw_result_words a
  results_laid None None c plain plains defined is h = ap (result_words p) (sym (some_same is))
  results_laid None (Some b) None plain plains defined is h = none_there (sym (optional_is (Some (ctype raw b)) None is))
  results_laid None (Some b) (Some c) plain plains defined is h = absurd (no_void b (typed raw p named plains c (some_same (optional_is (Some (ctype raw b)) (Some c) is))) h)
  results_laid (Some a) None c plain plains defined is h = absurd (no_object a (tagged raw p named plain defined) h)
  results_laid (Some a) (Some b) None plain plains defined is h = none_there (sym (optional_is (Some (ctype raw b)) None is))
  results_laid (Some a) (Some b) (Some c) plain plains defined is h =
      let t = some_same (optional_is (Some (ctype raw b)) (Some c) is) in
      agreed_result raw p named a b c t (agreed raw p named a b (tagged raw p named plain defined) (typed raw p named plains c t) h)

  result_tagged : (h : RawHead) (scope : Scope) → ((n : ℕ) → Breaks raw scope (DeclaresFunction h false) n → ⊥) → ResultTagged h.result
  result_tagged h scope kept = by_result h.result refl
    where
      by_result : (t : Option RawType) → h.result ≡ t → ResultTagged t
      by_result None is = tt
      by_result (Some t) is = λ w c none. kept 7 (tag (MisusesTag.undefined (subst (λ (o : Option RawType). Contains (tags_if o) w) (sym is) c) none))

  -- the heads of all definitions are plain
  abbrev pub DefinitionsPlain : Type 0
  DefinitionsPlain = (k : ℕ) (h : RawHead) → slice_get (defined_functions raw) k ≡ Some h → HeadPlain h

  prototype_laid : (defined : (k : ℕ) (h : RawHead) → slice_get (defined_functions raw) k ≡ Some h → IsDefinedAs raw p k h) (plains : DefinitionsPlain)
      (l : ℕ) (h : RawHead) (scope : Scope) (k : ℕ) → AreKept raw (item_phrases raw (Prototype l h) scope) → HeadPlain h → function_id raw h.name ≡ Some k
      → item_lines p (item.Prototype k (map (λ (q : RawParam). q.name) h.params) h.is_static) ≡ raw_item_lines (Prototype l h)
  prototype_laid defined plains l h scope k kept plain is =
      let x = positioned (λ (f : RawHead). bytes_eq f.name h.name) (defined_functions raw) k is in
      let f = x.0 in
      let found : definition_of raw h.name ≡ Some f = found_at (λ (f : RawHead). bytes_eq f.name h.name) (defined_functions raw) k f is x.1 in
      let d = defined k f x.1 in
      let others = plains k f x.1 in
      let same : same_signature raw h f ≡ true = true_from_ne_false (same_signature raw h f) (λ differs. kept.0 6 (no_definition (LacksDefinition.differs found differs))) in
      let each = and_parts (agree (result_type raw h) (result_type raw f)) (all_agree (parameter_types raw h) (parameter_types raw f)) same in
      ap (λ (o : Option Function). option_map_or (λ (g : Function). line 0 (head_words p h.is_static g (named_params p (map (λ (q : RawParam). q.name) h.params) g.params) ++ codes ";")) o []) d.at
      ∙ ap₂ (λ (r name : Bytes). line 0 ((static_words h.is_static ++ (r ++ (name ++ (codes "(" ++ (params_words (named_params p (map (λ (q : RawParam). q.name) h.params) d.function.params) ++ codes ")"))))) ++ codes ";"))
      (results_laid h.result f.result d.function.result plain.result others.result (result_tagged h scope kept.0) d.result each.0) (d.name ∙ (bytes_eq-Decides f.name h.name).0 x.2)
      ∙ ap (λ (ws : List Bytes). line 0 ((static_words h.is_static ++ (raw_result_words h.result ++ (h.name ++ (codes "(" ++ (params_words ws ++ codes ")"))))) ++ codes ";"))
      (taken_laid h.params f.params d.function.params plain.params others.params (all_tagged scope [] h.params kept.1) d.params each.1)

  -- ---- items

  -- what is known at a place between items
  pub record ItemsAt (scope : Scope) (xs : List RawItem) : Type 0 where
    pub at : FunctionsAt raw p scope xs
    pub fits : Fits p scope
    pub structs : Behind (defined_structs raw) scope.structs (struct_texts xs)

  first_told : (x : RawItem) (xs : List RawItem) (scope : Scope) → AreTold raw p scope.variables (items_phrases raw (x ∷ xs) scope) → AreTold raw p scope.variables (item_phrases raw x scope)
  first_told x xs scope told = told_first raw p scope.variables (item_phrases raw x scope) (items_phrases raw xs (after_item raw x scope)) told

  module _ (defined : (k : ℕ) (h : RawHead) → slice_get (defined_functions raw) k ≡ Some h → IsDefinedAs raw p k h) (plains : DefinitionsPlain)
      (are : map (struct_tree raw) (defined_structs raw) ≡ map Some p.structs) where
    item_then : (x : RawItem) (xs : List RawItem) (i : Item) (is : List Item) → item_lines p i ≡ raw_item_lines x → items_lines p is ≡ raw_items_lines xs → items_lines p (i ∷ is) ≡ raw_items_lines (x ∷ xs)
    item_then x xs i is first rest = ap₂ (λ (a b : Bytes). a ++ b) first rest

    define_then : (l : ℕ) (h : RawHead) (body : List RawStatement) (xs : List RawItem) (scope : Scope) (fs : List Function) → functions_from raw (Define l h body ∷ xs) scope ≡ map Some fs → Behind p.functions scope.functions fs
        → AreTold raw p scope.variables (items_phrases raw (Define l h body ∷ xs) scope) → HeadsPlain (Define l h body ∷ xs) → Fits p scope → Behind (defined_structs raw) scope.structs (struct_texts xs)
        → (item_lines p (item.Define scope.functions) ≡ raw_item_lines (Define l h body)) × ItemsAt (after_item raw (Define l h body) scope) xs
    define_then l h body xs scope [] is behind told formed fits structs = no_list is
    define_then l h body xs scope (f ∷ fs) is behind told formed fits structs = (
      ap (λ (o : Option Function). option_map_or (function_lines p) o []) (behind_first p.functions scope.functions f fs behind)
          ∙ define_laid l h body scope f fits (first_told (Define l h body) xs scope told) formed.0.1 (head_is is),
      record {
        at = define_later raw p l h body xs scope f fs (tail_is is) behind told formed.1;
        fits = function_fits h.name scope fits;
        structs = behind_at (defined_structs raw) scope.structs (after_item raw (Define l h body) scope).structs (struct_texts xs) (define_structs raw l h body scope) structs;
      },
    )

    pub items_laid : (xs : List RawItem) (scope : Scope) (is : List Item) → ItemsAt scope xs → items_from raw xs scope ≡ map Some is → items_lines p is ≡ raw_items_lines xs
    items_laid [] scope [] k h = refl
    items_laid [] scope (i ∷ is) k h = no_list (sym h)
    items_laid (x ∷ xs) scope [] k h = no_list h
    items_laid (Include is_stdlib ∷ xs) scope (i ∷ is) k h =
        let next : ItemsAt scope xs = record { at = same_functions raw p scope scope (Include is_stdlib) xs refl refl refl k.at; fits = k.fits; structs = k.structs } in
        item_then (Include is_stdlib) xs i is (ap (item_lines p) (sym (some_same (head_is h)))) (items_laid xs scope is next (tail_is h))
    items_laid (Tag l w ∷ xs) scope (i ∷ is) k h =
        let next : ItemsAt scope xs = record { at = same_functions raw p scope scope (Tag l w) xs refl refl refl k.at; fits = k.fits; structs = k.structs } in
        let g = map_there item.Tag (struct_id raw w) i (head_is h) in
        item_then (Tag l w) xs i is (ap (item_lines p) (sym g.same) ∙ ap (λ (z : Bytes). line 0 (codes "struct " ++ (z ++ codes ";"))) (named.structs w g.value g.there)) (items_laid xs scope is next (tail_is h))
    items_laid (Struct l w members ∷ xs) scope (i ∷ is) k h =
        let after = after_item raw (Struct l w members) scope in
        let next : ItemsAt after xs = record {
          at = same_functions raw p scope after (Struct l w members) xs refl refl refl k.at;
          fits = k.fits;
          structs = behind_rest (defined_structs raw) scope.structs after.structs (record { tag = w; members = members }) (struct_texts xs) refl k.structs;
        } in
        item_then (Struct l w members) xs i is
        (ap (item_lines p) (sym (some_same (head_is h))) ∙ struct_laid are scope.structs l w members (behind_first (defined_structs raw) scope.structs (record { tag = w; members = members }) (struct_texts xs) k.structs))
        (items_laid xs after is next (tail_is h))
    items_laid (Global l v j is_static ∷ xs) scope (i ∷ is) k h =
        let after = after_item raw (Global l v j is_static) scope in
        let told = first_told (Global l v j is_static) xs scope k.at.told in
        let next : ItemsAt after xs = record {
          at = same_functions raw p scope after (Global l v j is_static) xs refl refl refl k.at;
          fits = (is_declared raw p named l scope.owner (InFile is_static) scope v j told.stand.0).fits k.fits;
          structs = k.structs;
        } in
        let g = map_there (item.Global scope.variables) (init_of raw (with_variable raw v j scope) j) i (head_is h) in
        item_then (Global l v j is_static) xs i is (ap (item_lines p) (sym g.same) ∙ global_laid l v j is_static scope g.value k.fits told g.there) (items_laid xs after is next (tail_is h))
    items_laid (Prototype l hd ∷ xs) scope (i ∷ is) k h =
        let after = after_item raw (Prototype l hd) scope in
        let next : ItemsAt after xs = record {
          at = same_functions raw p scope after (Prototype l hd) xs refl (prototype_functions raw l hd scope) refl k.at;
          fits = function_fits hd.name scope k.fits;
          structs = behind_at (defined_structs raw) scope.structs after.structs (struct_texts xs) (prototype_structs raw l hd scope) k.structs;
        } in
        let g = map_there (λ (f : ℕ). item.Prototype f (map (λ (q : RawParam). q.name) hd.params) hd.is_static) (function_id raw hd.name) i (head_is h) in
        item_then (Prototype l hd) xs i is
        (ap (item_lines p) (sym g.same) ∙ prototype_laid defined plains l hd scope g.value (first_told (Prototype l hd) xs scope k.at.told).kept k.at.formed.0 g.there)
        (items_laid xs after is next (tail_is h))
    items_laid (Define l hd body ∷ xs) scope (i ∷ is) k h =
        let d = define_then l hd body xs scope k.at.functions k.at.are k.at.behind k.at.told k.at.formed k.fits k.structs in
        item_then (Define l hd body) xs i is (ap (item_lines p) (sym (some_same (head_is h))) ∙ d.0) (items_laid xs (after_item raw (Define l hd body) scope) is d.1 (tail_is h))

-- ---- the whole text

plain_heads : (xs : List RawItem) → HeadsPlain xs → (k : ℕ) (h : RawHead) → slice_get (function_texts xs) k ≡ Some h → HeadPlain h
plain_heads [] formed k h is = none_there is
plain_heads (Include is_stdlib ∷ xs) formed k h is = plain_heads xs formed.1 k h is
plain_heads (Tag l w ∷ xs) formed k h is = plain_heads xs formed.1 k h is
plain_heads (Struct l w members ∷ xs) formed k h is = plain_heads xs formed.1 k h is
plain_heads (Global l v i is_static ∷ xs) formed k h is = plain_heads xs formed.1 k h is
plain_heads (Prototype l hd ∷ xs) formed k h is = plain_heads xs formed.1 k h is
plain_heads (Define l hd body ∷ xs) formed zero h is = subst HeadPlain (some_same is) formed.0.0
plain_heads (Define l hd body ∷ xs) formed (suc k) h is = plain_heads xs formed.1 k h is

-- The layout of the program of a text is that of the text's tree, where the text keeps the rules and is in the grammar as to its heads.
pub layout_of_tree : (raw : RawProgram) (p : Program) → program_of raw ≡ Some p → KeepsRules raw → HeadsPlain raw.items → layout p ≡ raw_layout raw
layout_of_tree raw p is keeps formed =
    let parts = program_parts raw p is in
    let told : AreTold raw p 0 (phrases raw) = record { kept = phrases_kept raw keeps; stand = subst (AllStand p 0) (sym parts.vars) (stand_all p 0 p.vars (λ i. ap (slice_get p.vars) (omega arith))) } in
    let at : FunctionsAt raw p outset raw.items = record { functions = p.functions; are = parts.functions; behind = λ i. ap (slice_get p.functions) (omega arith); told = told; formed = formed } in
    let defined : ((k : ℕ) (h : RawHead) → slice_get (defined_functions raw) k ≡ Some h → IsDefinedAs raw p k h) = λ k h found. subst (λ (n : ℕ). IsDefinedAs raw p n h) (omega arith) (definitions raw p raw.items outset at k h found) in
    let named : IsNamed raw p = record { structs = struct_named raw p parts.structs; members = member_named raw p parts.structs; functions = function_named raw p defined; complete = members_typed raw p parts.structs } in
    items_laid raw p named defined (plain_heads raw.items formed) parts.structs raw.items outset p.items
    (record { at = at; fits = tt; structs = λ i. ap (slice_get (defined_structs raw)) (omega arith) }) parts.items
