-- Types fit in the functions of a text by which no rule is broken, and in what its globals begin with, item by item.
use Rattle.std.proofs.Common.{◌≡◌, ℕ, zero, suc, ◌+◌, List, [], ◌∷◌, ◌++◌, length, map, Bool, true, Option, Some, None, option_map, slice_get, refl, sym, ap, ap₂, subst, ◌∙◌, arith, true≢false}
use Rattle.std.specs.Prelude.{if◌then◌else◌, is_some}
use Rattle.std.specs.List.{list_all}
use Rattle.std.proofs.lemmas.Bool.{and_from, and_parts}
use Rattle.c_tree.specs.declared.program.Function.{Function}
use Rattle.c_tree.specs.declared.program.Init.{Init}
use Rattle.c_tree.specs.declared.program.Init.TheVariants as begun
use Rattle.c_tree.specs.declared.program.Item.{Item}
use Rattle.c_tree.specs.declared.program.Item.TheVariants as item
use Rattle.c_tree.specs.declared.program.Program.{Program}
use Rattle.c_tree.specs.declared.types.CType.{CType}
use Rattle.c_tree.specs.declared.raw.expr.RawType.{RawType}
use Rattle.c_tree.specs.declared.raw.expr.RawVar.{RawVar}
use Rattle.c_tree.specs.declared.raw.program.RawHead.{RawHead}
use Rattle.c_tree.specs.declared.raw.program.RawInit.{RawInit}
use Rattle.c_tree.specs.declared.raw.program.RawInit.TheVariants as init
use Rattle.c_tree.specs.declared.raw.program.RawItem.{RawItem}
use Rattle.c_tree.specs.declared.raw.program.RawItem.TheVariants.{Include, Tag, Struct, Global, Prototype, Define}
use Rattle.c_tree.specs.declared.raw.program.RawParam.{RawParam}
use Rattle.c_tree.specs.declared.raw.program.RawProgram.{RawProgram}
use Rattle.c_tree.specs.declared.raw.statement.RawStatement.{RawStatement}
use Rattle.c_language.specs.ArrayRules.{IsNoConstant, LacksConstant, MisusesInitialiser, element_of}
use Rattle.c_language.specs.Words.{Bytes}
use Rattle.c_language.specs.DeclaredTypes.{function_texts, defined_functions, written_type, variable_type, parameter_types, type_or_void}
use Rattle.c_language.specs.ItemGrammar.{are_named}
use Rattle.c_language.specs.ItemGrammar as grammar
use Rattle.c_language.specs.Options.{IsThere}
use Rattle.c_language.specs.Phrases.{InFile, InHead, Phrases, DeclaresFunction, EndsFunction, phrase, begun_phrases, declaration, parameter_phrases, head_phrases, body_phrases, item_phrases, after_item, items_phrases}
use Rattle.c_language.specs.ProgramOf.{collected, ctype, ctype_if, expr_of, exprs_of, init_of, parameter_ids, function_tree, functions_from, item_tree, items_from}
use Rattle.c_language.specs.Rules.{Breaks, AreKept}
use Rattle.c_language.specs.Scopes.{Scope, Meaning, with_function, with_variable, with_named, with_parameters, parameter_of, scope_of_parameters, entered}
use Rattle.c_language.specs.Syntax.{is_head, is_body, is_item}
use Rattle.c_language.specs.TreeTypes.{shape_of}
use Rattle.c_language.specs.declared.expr_type.ExprType.{ExprType}
use Rattle.c_language.proofs.Options.{none_there, some_same, value_there, map_there, more_there, optional_there}
use Rattle.c_language.proofs.ProgramParts.{function_made}
use Rattle.c_language.proofs.ScopeNumbers.{function_declared, function_variables}
use Rattle.c_print_laws.proofs.Numbers.{head_count, item_variables, define_functions, prototype_functions}
use Rattle.c_print_laws.proofs.Told.{AreTold, told_first, told_rest, told_later}
use Rattle.dep_model.proofs.Membership.{contains_of_in}
use Rattle.dep_model.proofs.StructOrder.{tree_typed}
use Rattle.numbered_texts.proofs.Items.{HasFunctions}
use Rattle.typed_programs.specs.FixedValues.{begins_fixed}
use Rattle.typed_programs.specs.TreeOperands.{Signature, Declarations, signature_of, declarations, variable_shape}
use Rattle.typed_programs.specs.TypedStatements.{begins, function_fits, function_needs, item_fits}
use Rattle.typed_programs.proofs.FixedTrees.{tree_fixed, trees_fixed}
use Rattle.typed_programs.proofs.Seeing.{NamesStand, names_more, Known}
use Rattle.typed_programs.proofs.Treed.{body_treed}
use Rattle.typed_programs.proofs.TypedPhrases.{holds_at, ResultStands, AllTyped, FunctionStands, FunctionsStand, begins_fit}
use Rattle.typed_programs.proofs.TypedTexts.{variable_stands, names_declared, all_typed}

module _ (raw : RawProgram) (p : Program) where
  abbrev d : Declarations
  d = declarations p

  -- ---- heads

  result_stands : (head : RawHead) (result : Option CType) → ctype_if raw head.result ≡ Some result → ResultStands raw head result
  result_stands head result e = by_result head.result refl (subst (λ o. ctype_if raw o ≡ Some result) refl e)
    where
      by_result : (o : Option RawType) → head.result ≡ o → ctype_if raw o ≡ Some result → ResultStands raw head result
      by_result None is h =
          let same : None ≡ result = some_same h in
          record { some = λ t q. none_there (same ∙ q); none = λ q. is; there = λ q. sym same }
      by_result (Some t) is h =
          let m = optional_there (ctype raw t) result h in
          let typed : written_type raw t ≡ Some (shape_of m.0) = tree_typed raw 0 t ∙ ap (option_map shape_of) m.1.0 in
          record {
            some = λ c q. ap (type_or_void raw) is ∙ typed ∙ ap (λ (z : CType). Some (shape_of z)) (some_same (m.1.1 ∙ q));
            none = λ q. none_there (sym (m.1.1 ∙ q));
            there = λ q. none_there (sym q ∙ is);
          }

  -- the parameters of a definition from one on, as variables
  pub record ParamsStand (ps : List RawParam) (scope : Scope) : Type 0 where
    pub types : map (variable_shape d) (parameter_ids ps scope.variables) ≡ map (λ (q : RawParam). written_type raw q.shape) ps
    pub typed : AllTyped d (parameter_ids ps scope.variables)
    pub count : length (parameter_ids ps scope.variables) ≡ length ps
    pub names : NamesStand d (with_parameters raw ps scope).names
    pub owner : (with_parameters raw ps scope).owner ≡ scope.owner

  params_stand : (ps : List RawParam) (scope : Scope) → are_named ps ≡ true → NamesStand d scope.names → AreTold raw p scope.variables (head_phrases raw ps scope) → ParamsStand ps scope
  params_stand [] scope named names told = record { types = refl; typed = tt; count = refl; names = names; owner = refl }
  params_stand (q ∷ ps) scope named names told =
      let k : (grammar.is_some q.name ≡ true) × (are_named ps ≡ true) = and_parts (grammar.is_some q.name) (are_named ps) named in
      by_name q.name refl k.0 told (λ next h t. params_stand ps next k.1 h t)
    where
      Whole : Option Bytes → Type 0
      Whole o = (map (variable_shape d) (if is_some o then scope.variables ∷ parameter_ids ps (scope.variables + 1) else parameter_ids ps scope.variables) ≡ written_type raw q.shape ∷ map (λ (r : RawParam). written_type raw r.shape) ps)
          × AllTyped d (if is_some o then scope.variables ∷ parameter_ids ps (scope.variables + 1) else parameter_ids ps scope.variables)
          × (length (if is_some o then scope.variables ∷ parameter_ids ps (scope.variables + 1) else parameter_ids ps scope.variables) ≡ suc (length ps))
          × NamesStand d (with_parameters raw ps (with_named raw q o scope)).names
          × ((with_parameters raw ps (with_named raw q o scope)).owner ≡ scope.owner)

      from_name : (name : Bytes) → AreTold raw p scope.variables (parameter_phrases raw q (Some name) scope ++ head_phrases raw ps (with_named raw q (Some name) scope))
          → ((next : Scope) → NamesStand d next.names → AreTold raw p next.variables (head_phrases raw ps next) → ParamsStand ps next) → Whole (Some name)
      from_name name told later =
          let own = parameter_phrases raw q (Some name) scope in
          let next = with_named raw q (Some name) scope in
          let here = variable_stands raw p q.line scope.owner InHead scope.variables (parameter_of q name) init.None told.stand.0 in
          let rest = later next (names_declared raw p scope (parameter_of q name) init.None here names) (told_rest raw p scope.variables next.variables own (head_phrases raw ps next) refl told) in
          (ap₂ (λ a as_. a ∷ as_) here.0 rest.types, (subst IsThere (sym here.0) here.1, rest.typed), ap suc rest.count, rest.names, rest.owner)

      by_name : (o : Option Bytes) → q.name ≡ o → grammar.is_some o ≡ true → AreTold raw p scope.variables (parameter_phrases raw q q.name scope ++ head_phrases raw ps (with_named raw q q.name scope))
          → ((next : Scope) → NamesStand d next.names → AreTold raw p next.variables (head_phrases raw ps next) → ParamsStand ps next) → ParamsStand (q ∷ ps) scope
      by_name None is h told later = absurd (true≢false (sym h))
      by_name (Some name) is h told later =
          let w = from_name name (subst (λ o. AreTold raw p scope.variables (parameter_phrases raw q o scope ++ head_phrases raw ps (with_named raw q o scope))) is told) later in
          let v = subst Whole (sym is) w in
          record { types = v.0; typed = v.1; count = v.2; names = v.3; owner = v.4 }

  -- ---- functions of items

  -- functions are those that heads declare, one by one
  abbrev HeadsStand : List RawHead → List Function → Type 0
  HeadsStand [] [] = Unit {0}
  HeadsStand [] (f ∷ fs) = ⊥
  HeadsStand (h ∷ hs) [] = ⊥
  HeadsStand (h ∷ hs) (f ∷ fs) = FunctionStands raw d h (signature_of f) × HeadsStand hs fs

  pub head_at : (hs : List RawHead) (fs : List Function) → HeadsStand hs fs → (g : ℕ) (h : RawHead) → slice_get hs g ≡ Some h
      → (f : Signature) × (slice_get (map signature_of fs) g ≡ Some f) × FunctionStands raw d h f
  head_at [] fs all g h e = none_there e
  head_at (k ∷ hs) [] all g h e = absurd all
  head_at (k ∷ hs) (f ∷ fs) all zero h e = (signature_of f, refl, subst (λ z. FunctionStands raw d z (signature_of f)) (some_same e) all.0)
  head_at (k ∷ hs) (f ∷ fs) all (suc g) h e = head_at hs fs all.1 g h e

  function_names : (name : Bytes) (scope : Scope) → NamesStand d scope.names → NamesStand d (with_function name scope).names
  function_names name scope h = function_declared (λ (z : Scope). NamesStand d z.names) name scope h (names_more d scope.names (record { name = name; meaning = Meaning.Function }) h tt)

  module _ (line : ℕ) (head : RawHead) (body : List RawStatement) (scope : Scope) (syntax : is_item (Define line head body) ≡ true) (names : NamesStand d scope.names)
      (told : AreTold raw p scope.variables (item_phrases raw (Define line head body) scope)) where
    abbrev start : Scope
    start = scope_of_parameters head scope

    abbrev inside : Scope
    inside = entered raw head scope

    abbrev ends : Phrases
    ends = phrase line scope (EndsFunction head body) ∷ []

    told_within : AreTold raw p start.variables (head_phrases raw head.params start ++ (body_phrases raw body inside ++ ends))
    told_within =
        subst (λ n. AreTold raw p n (head_phrases raw head.params start ++ (body_phrases raw body inside ++ ends))) (sym (function_variables head.name scope))
        (told_later raw p scope.variables (phrase line scope (DeclaresFunction head true)) (head_phrases raw head.params start ++ (body_phrases raw body inside ++ ends)) refl told)

    params_here : ParamsStand head.params start
    params_here =
        let named : are_named head.params ≡ true = (and_parts (are_named head.params) (is_body body) (and_parts (is_head head) _ syntax).1).0 in
        params_stand head.params start named (function_names head.name scope names) (told_first raw p start.variables (head_phrases raw head.params start) (body_phrases raw body inside ++ ends) told_within)

    told_body : AreTold raw p inside.variables (body_phrases raw body inside)
    told_body =
        told_first raw p inside.variables (body_phrases raw body inside) ends
        (told_rest raw p start.variables inside.variables (head_phrases raw head.params start) (body_phrases raw body inside ++ ends) (head_count raw head.params start) told_within)

    pub define_stands : (f : Function) → function_tree raw line head body scope ≡ Some f → FunctionStands raw d head (signature_of f)
    define_stands f e =
        let q = function_made raw line head body scope f e in
        let ids : parameter_ids head.params start.variables ≡ f.params = ap (parameter_ids head.params) (function_variables head.name scope) ∙ ap (λ (z : Function). z.params) (sym q.is) in
        record {
          params = subst (λ ns. map (variable_shape d) ns ≡ parameter_types raw head) ids params_here.types;
          typed = subst (AllTyped d) ids params_here.typed;
          count = subst (λ ns. length ns ≡ length head.params) ids params_here.count;
          result = subst (ResultStands raw head) (ap (λ (z : Function). z.result) (sym q.is)) (result_stands head q.result q.result_there);
        }

    pub define_fits : Known raw d → FunctionsStand raw d → slice_get (defined_functions raw) scope.functions ≡ Some head → (f : Function) → function_tree raw line head body scope ≡ Some f
        → (function_fits d f ≡ true) × (function_needs d f ≡ true)
    define_fits known functions around f e =
        let q = function_made raw line head body scope f e in
        let all = all_typed raw p known functions (Some scope.functions) head q.result around (result_stands head q.result q.result_there) (body_treed raw body inside q.statements q.statements_there)
        (record { names = params_here.names; owner_is = params_here.owner }) told_body in
        (ap (function_fits d) q.is ∙ all.fit, ap (function_needs d) q.is ∙ all.met)

  item_names : (x : RawItem) (scope : Scope) → NamesStand d scope.names → AreTold raw p scope.variables (item_phrases raw x scope) → NamesStand d (after_item raw x scope).names
  item_names (Include b) scope h told = h
  item_names (Tag line tag) scope h told = h
  item_names (Struct line tag members) scope h told = h
  item_names (Global line var i is_static) scope h told = names_declared raw p scope var i (variable_stands raw p line scope.owner (InFile is_static) scope.variables var i told.stand.0) h
  item_names (Prototype line head) scope h told = function_names head.name scope h
  item_names (Define line head body) scope h told = function_names head.name scope h

  item_told : (x : RawItem) (xs : List RawItem) (scope : Scope) → AreTold raw p scope.variables (items_phrases raw (x ∷ xs) scope)
      → AreTold raw p scope.variables (item_phrases raw x scope) × AreTold raw p (after_item raw x scope).variables (items_phrases raw xs (after_item raw x scope))
  item_told x xs scope told = (
    told_first raw p scope.variables (item_phrases raw x scope) (items_phrases raw xs (after_item raw x scope)) told,
    told_rest raw p scope.variables (after_item raw x scope).variables (item_phrases raw x scope) (items_phrases raw xs (after_item raw x scope)) (item_variables raw x scope) told,
  )

  syntax_parts : (x : RawItem) (xs : List RawItem) → list_all is_item (x ∷ xs) ≡ true → (is_item x ≡ true) × (list_all is_item xs ≡ true)
  syntax_parts x xs h = and_parts (is_item x) (list_all is_item xs) h

  pub heads_stand : (xs : List RawItem) (scope : Scope) (fs : List Function) → list_all is_item xs ≡ true → NamesStand d scope.names → AreTold raw p scope.variables (items_phrases raw xs scope) → HasFunctions raw xs scope fs
      → HeadsStand (function_texts xs) fs
  heads_stand [] scope fs syntax names told e = subst (HeadsStand []) (some_same e) tt
  heads_stand (Include b ∷ xs) scope fs syntax names told e = heads_stand xs scope fs (syntax_parts (Include b) xs syntax).1 names told e
  heads_stand (Tag line tag ∷ xs) scope fs syntax names told e =
      let t = item_told (Tag line tag) xs scope told in heads_stand xs scope fs (syntax_parts (Tag line tag) xs syntax).1 names t.1 e
  heads_stand (Struct line tag members ∷ xs) scope fs syntax names told e =
      let x = Struct line tag members in
      let t = item_told x xs scope told in
      heads_stand xs (after_item raw x scope) fs (syntax_parts x xs syntax).1 names t.1 e
  heads_stand (Global line var i is_static ∷ xs) scope fs syntax names told e =
      let x = Global line var i is_static in
      let t = item_told x xs scope told in
      heads_stand xs (after_item raw x scope) fs (syntax_parts x xs syntax).1 (item_names x scope names t.0) t.1 e
  heads_stand (Prototype line head ∷ xs) scope fs syntax names told e =
      let x = Prototype line head in
      let t = item_told x xs scope told in
      heads_stand xs (after_item raw x scope) fs (syntax_parts x xs syntax).1 (item_names x scope names t.0) t.1 e
  heads_stand (Define line head body ∷ xs) scope fs syntax names told e =
      let x = Define line head body in
      let t = item_told x xs scope told in
      let k = syntax_parts x xs syntax in
      let g = more_there (function_tree raw line head body scope) (functions_from raw xs (after_item raw x scope)) fs e in
      subst (HeadsStand (head ∷ function_texts xs)) g.same
      (define_stands line head body scope k.0 names t.0 g.first g.first_there, heads_stand xs (after_item raw x scope) g.rest k.1 (item_names x scope names t.0) t.1 g.rest_there)

  -- ---- what a global begins with

  global_fits : Known raw d → (line : ℕ) (var : RawVar) (i : RawInit) (is_static : Bool) (scope : Scope) (n : Init) → NamesStand d scope.names → AreTold raw p scope.variables (declaration raw line scope (InFile is_static) var i)
      → init_of raw (with_variable raw var i scope) i ≡ Some n → begins d scope.variables n ≡ true
  global_fits known line var i is_static scope n names told e =
      let here = variable_stands raw p line scope.owner (InFile is_static) scope.variables var i told.stand.0 in
      by_init i n here (names_declared raw p scope var i here names) told.kept.1 e
    where
      by_init : (j : RawInit) (m : Init) → (variable_shape d scope.variables ≡ variable_type raw var j) × IsThere (variable_type raw var j) → NamesStand d (with_variable raw var j scope).names
          → AreKept raw (begun_phrases line (with_variable raw var j scope) (InFile is_static) var j) → init_of raw (with_variable raw var j scope) j ≡ Some m → begins d scope.variables m ≡ true
      by_init init.None m here names kept e =
          let v = value_there (variable_type raw var init.None) here.1 in
          subst (λ z. begins d scope.variables z ≡ true) (some_same e) (holds_at _ _ v.0 (here.0 ∙ v.1) refl)
      by_init (init.One a) m here names kept e = begins_fit raw d known (with_variable raw var (init.One a) scope) names (InFile is_static) var (init.One a) scope.variables m kept.0 here.0 here.1 e
      by_init (init.Items es) m here names kept e = begins_fit raw d known (with_variable raw var (init.Items es) scope) names (InFile is_static) var (init.Items es) scope.variables m kept.0 here.0 here.1 e

  -- what it begins with is constant, or NULL
  global_fixed : (line : ℕ) (var : RawVar) (i : RawInit) (is_static : Bool) (scope : Scope) (n : Init) → AreTold raw p scope.variables (declaration raw line scope (InFile is_static) var i)
      → init_of raw (with_variable raw var i scope) i ≡ Some n → begins_fixed n ≡ true
  global_fixed line var i is_static scope n told e = by_init i n (variable_stands raw p line scope.owner (InFile is_static) scope.variables var i told.stand.0).1 told.kept.1 e
    where
      by_init : (j : RawInit) (m : Init) → IsThere (variable_type raw var j) → AreKept raw (begun_phrases line (with_variable raw var j scope) (InFile is_static) var j) → init_of raw (with_variable raw var j scope) j ≡ Some m → begins_fixed m ≡ true
      by_init init.None m here kept e = subst (λ z. begins_fixed z ≡ true) (some_same e) refl
      by_init (init.One a) m here kept e =
          let t = value_there (variable_type raw var (init.One a)) here in
          let next = with_variable raw var (init.One a) scope in
          let x = map_there begun.One (expr_of raw next a) m e in
          subst (λ z. begins_fixed z ≡ true) x.same
          (tree_fixed raw next a (λ none null. kept.0 10 (Breaks.no_constant (LacksConstant.global t.1 (IsNoConstant.other a none null)))) x.value x.there)
      by_init (init.Items es) m here kept e =
          let t = value_there (variable_type raw var (init.Items es)) here in
          let next = with_variable raw var (init.Items es) scope in
          let u = elements (element_of t.0) refl (λ none. kept.0 22 (Breaks.initialiser (MisusesInitialiser.no_array t.1 none))) in
          let xs = map_there begun.Items (exprs_of raw next es) m e in
          subst (λ z. begins_fixed z ≡ true) xs.same
          (trees_fixed raw next es xs.value (λ a i none null. kept.0 10 (Breaks.no_constant (LacksConstant.item t.1 u.1 (contains_of_in es a i) (IsNoConstant.other a none null)))) xs.there)
        where
          elements : (o : Option ExprType) → {q : Option ExprType} → q ≡ o → (q ≡ None → ⊥) → (v : ExprType) × (q ≡ Some v)
          elements None is broken = absurd (broken is)
          elements (Some v) is broken = (v, is)

  item_fit : Known raw d → (x : RawItem) (scope : Scope) (y : Item) → NamesStand d scope.names → AreTold raw p scope.variables (item_phrases raw x scope) → item_tree raw x scope ≡ Some y → item_fits d y ≡ true
  item_fit known (Include b) scope y names told e = subst (λ z. item_fits d z ≡ true) (some_same e) refl
  item_fit known (Tag line tag) scope y names told e = let m = map_there item.Tag _ y e in subst (λ z. item_fits d z ≡ true) m.same refl
  item_fit known (Struct line tag members) scope y names told e = subst (λ z. item_fits d z ≡ true) (some_same e) refl
  item_fit known (Global line var i is_static) scope y names told e =
      let m = map_there (item.Global scope.variables) (init_of raw (with_variable raw var i scope) i) y e in
      subst (λ z. item_fits d z ≡ true) m.same (and_from (begins d scope.variables m.value) (begins_fixed m.value) (global_fits known line var i is_static scope m.value names told m.there) (global_fixed line var i is_static scope m.value told m.there))
  item_fit known (Prototype line head) scope y names told e = let m = map_there _ _ y e in subst (λ z. item_fits d z ≡ true) m.same refl
  item_fit known (Define line head body) scope y names told e = subst (λ z. item_fits d z ≡ true) (some_same e) refl

  -- ---- all items

  module _ (known : Known raw d) where
    pub globals_fit : (xs : List RawItem) (scope : Scope) (ys : List Item) → NamesStand d scope.names → AreTold raw p scope.variables (items_phrases raw xs scope) → collected (items_from raw xs scope) ≡ Some ys
        → list_all (item_fits d) ys ≡ true
    globals_fit [] scope ys names told e = subst (λ zs. list_all (item_fits d) zs ≡ true) (some_same e) refl
    globals_fit (x ∷ xs) scope ys names told e =
        let t = item_told x xs scope told in
        let m = more_there (item_tree raw x scope) (items_from raw xs (after_item raw x scope)) ys e in
        subst (λ zs. list_all (item_fits d) zs ≡ true) m.same
        (and_from _ _ (item_fit known x scope m.first names t.0 m.first_there) (globals_fit xs (after_item raw x scope) m.rest (item_names x scope names t.0) t.1 m.rest_there))

    module _ (functions : FunctionsStand raw d) where
      abbrev AreAround : List RawItem → Scope → Type 0
      AreAround xs scope = (k : ℕ) → slice_get (defined_functions raw) (scope.functions + k) ≡ slice_get (function_texts xs) k

      abbrev Fit : List Function → Type 0
      Fit fs = (list_all (function_fits d) fs ≡ true) × (list_all (function_needs d) fs ≡ true)

      pub functions_fit : (xs : List RawItem) (scope : Scope) (fs : List Function) → list_all is_item xs ≡ true → NamesStand d scope.names → AreTold raw p scope.variables (items_phrases raw xs scope)
          → AreAround xs scope → HasFunctions raw xs scope fs → Fit fs
      functions_fit [] scope fs syntax names told around e = subst Fit (some_same e) (refl, refl)
      functions_fit (Include b ∷ xs) scope fs syntax names told around e = functions_fit xs scope fs (syntax_parts (Include b) xs syntax).1 names told around e
      functions_fit (Tag line tag ∷ xs) scope fs syntax names told around e =
          let t = item_told (Tag line tag) xs scope told in functions_fit xs scope fs (syntax_parts (Tag line tag) xs syntax).1 names t.1 around e
      functions_fit (Struct line tag members ∷ xs) scope fs syntax names told around e =
          let x = Struct line tag members in
          let t = item_told x xs scope told in
          functions_fit xs (after_item raw x scope) fs (syntax_parts x xs syntax).1 names t.1 around e
      functions_fit (Global line var i is_static ∷ xs) scope fs syntax names told around e =
          let x = Global line var i is_static in
          let t = item_told x xs scope told in
          functions_fit xs (after_item raw x scope) fs (syntax_parts x xs syntax).1 (item_names x scope names t.0) t.1 around e
      functions_fit (Prototype line head ∷ xs) scope fs syntax names told around e =
          let x = Prototype line head in
          let t = item_told x xs scope told in
          let next : AreAround xs (after_item raw x scope) = λ k. ap (λ n. slice_get (defined_functions raw) (n + k)) (prototype_functions raw line head scope) ∙ around k in
          functions_fit xs (after_item raw x scope) fs (syntax_parts x xs syntax).1 (item_names x scope names t.0) t.1 next e
      functions_fit (Define line head body ∷ xs) scope fs syntax names told around e =
          let x = Define line head body in
          let t = item_told x xs scope told in
          let parts = syntax_parts x xs syntax in
          let g = more_there (function_tree raw line head body scope) (functions_from raw xs (after_item raw x scope)) fs e in
          let first : scope.functions ≡ scope.functions + 0 = omega arith in
          let own : slice_get (defined_functions raw) scope.functions ≡ Some head = ap (slice_get (defined_functions raw)) first ∙ around 0 in
          let next : AreAround xs (after_item raw x scope) = λ k.
          let n : scope.functions + 1 + k ≡ scope.functions + suc k = omega arith in
          ap (λ m. slice_get (defined_functions raw) (m + k)) (define_functions raw line head body scope) ∙ ap (slice_get (defined_functions raw)) n ∙ around (suc k) in
          let here = define_fits line head body scope parts.0 names t.0 known functions own g.first g.first_there in
          let rest = functions_fit xs (after_item raw x scope) g.rest parts.1 (item_names x scope names t.0) t.1 next g.rest_there in
          subst Fit g.same (and_from _ _ here.0 rest.0, and_from _ _ here.1 rest.1)
