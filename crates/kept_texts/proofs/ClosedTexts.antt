-- What hangs together of the program of a text is a text of its own, and with its names it is told by its numbers.
use Rattle.std.proofs.Common.{◌≡◌, ◌≢◌, ℕ, zero, suc, ◌+◌, ◌≤◌, Bool, true, false, ◌&&◌, List, [], ◌∷◌, ◌++◌, map, length, slice_get, Contains, Option, Some, None, option_map, refl, sym, ap, ap₂, subst, ◌∙◌, arith, inl, inr}
use Rattle.std.specs.Prelude.{if◌then◌else◌, is_some}
use Rattle.std.specs.List.{list_all}
use Rattle.std.specs.Option.{option_map_or}
use Rattle.std.proofs.lemmas.Bool.{and_parts, or_cases}
use Rattle.std.proofs.lemmas.Option.{same_Some, slice_get-map, slice_get_cases}
use mathlib.Core.Path.{fun_ext}
use Rattle.c_tree.specs.declared.expr.Expr.{Expr}
use Rattle.c_tree.specs.declared.program.Function.{Function}
use Rattle.c_tree.specs.declared.program.Program.{Program}
use Rattle.c_tree.specs.declared.raw.expr.RawExpr.{RawExpr}
use Rattle.c_tree.specs.declared.raw.expr.RawVar.{RawVar}
use Rattle.c_tree.specs.declared.raw.program.RawHead.{RawHead}
use Rattle.c_tree.specs.declared.raw.program.RawInit.{RawInit}
use Rattle.c_tree.specs.declared.raw.program.RawInit.TheVariants as init
use Rattle.c_tree.specs.declared.raw.program.RawItem.{RawItem}
use Rattle.c_tree.specs.declared.raw.program.RawItem.TheVariants.{Include, Tag, Struct, Global, Prototype, Define}
use Rattle.c_tree.specs.declared.raw.program.RawMember.{RawMember}
use Rattle.c_tree.specs.declared.raw.program.RawParam.{RawParam}
use Rattle.c_tree.specs.declared.raw.program.RawProgram.{RawProgram}
use Rattle.c_tree.specs.declared.raw.statement.RawStatement.{RawStatement}
use Rattle.c_tree.specs.declared.raw.statement.RawStatement.TheVariants as raw_s
use Rattle.c_tree.specs.declared.statement.Statement.{Statement}
use Rattle.c_tree.specs.declared.statement.Statement.TheVariants as s
use Rattle.c_language.specs.Words.{Bytes}
use Rattle.c_language.specs.ArrayRules.{LacksConstant, IsNoConstant, MisusesInitialiser, element_of}
use Rattle.c_language.specs.CallRules.{EndsWithValue}
use Rattle.c_language.specs.Code.{Act, Returns}
use Rattle.c_language.specs.ConstantEvaluation.{value_of_constant}
use Rattle.c_language.specs.DeclaredTypes.{defined_functions, function_id, variable_type}
use Rattle.c_language.specs.ItemGrammar.{are_named}
use Rattle.c_language.specs.Mains.{main_of}
use Rattle.c_language.specs.NameRules.{main_name, is_main}
use Rattle.c_language.specs.Phrases.{InFile, InHead, Begins, scoped, declaration, member_phrases, parameter_phrases, head_phrases, body_phrases, item_phrases, after_item, items_phrases}
use Rattle.c_language.specs.ProgramOf.{optional, expr_of, treed, body_of, parameter_ids, function_tree, functions_from}
use Rattle.c_language.specs.Programs.{IsTree, HasProgram, IsWithinLimits}
use Rattle.c_language.specs.Rules.{Breaks}
use Rattle.c_language.specs.Scopes.{Scope, Scoped, outset, with_variable, with_named, parameter_of, scope_of_parameters, entered, in_order}
use Rattle.c_language.specs.Syntax.{is_head, is_body, is_item}
use Rattle.c_language.specs.ItemGrammar as grammar
use Rattle.c_language.specs.Uses.{is_null_name, lengths_in, init_exprs}
use Rattle.c_language.specs.declared.expr_type.ExprType.{ExprType}
use Rattle.c_language.proofs.Lists.{same_bytes}
use Rattle.c_language.proofs.Options.{some_same, optional_there, map_there, more_there, unmapped}
use Rattle.c_language.proofs.PhraseLists.{phrases_kept}
use Rattle.c_language.proofs.ProgramParts.{made_of, function_made}
use Rattle.c_language.proofs.ScopeNumbers.{function_variables}
use Rattle.c_language.proofs.Tests.{false_true}
use Rattle.c_language.proofs.TreeScopes.{after_same}
use Rattle.c_language.proofs.TreedForms.{treed-Return}
use Rattle.c_print_laws.proofs.Counted.{counted}
use Rattle.c_print_laws.proofs.Numbers.{define_functions, prototype_functions}
use Rattle.text_syntax.proofs.Items.{text_is_syntax}
use Rattle.dep_model.specs.Doings.{Doing, Does, Calls, doing_number, body_doings, doings_of}
use Rattle.dep_model.specs.MayPoint.{parameters}
use Rattle.dep_model.proofs.Membership.{IsIn, contains_of_in}
use Rattle.numbered_texts.proofs.CallsFit.{position_found}
use Rattle.numbered_texts.proofs.HavingMain.{has_main}
use Rattle.numbered_texts.proofs.Items.{names_are}
use Rattle.projection.specs.Kept.{Kept}
use Rattle.c_scope_laws.specs.Agreement.{NamedIn}
use Rattle.c_scope_laws.specs.Following.{kept_head, head_passes, kept_numbers}
use Rattle.c_scope_laws.specs.ThinTexts.{ParamFits, ParamsFit, ParamGoes, ParamsGo}
use Rattle.c_scope_laws.specs.ThinnedBodies.{gone, body_left}
use Rattle.c_scope_laws.specs.ThinnedTexts.{LastStays, FunctionStays, FunctionGoes, ItemsAreClosed, KeepsText}
use Rattle.projection_laws.specs.Staying.{any_stays, all_clear, rest, is_clear, IsClear}
use Rattle.hanging_sets.specs.Hanging.{EndsWith, HangsTogether}
use Rattle.kept_texts.proofs.ClearPrograms.{function_held}
use Rattle.kept_texts.proofs.DefinedOnce.{found_again}
use Rattle.kept_texts.proofs.KeptPhrases.{K, none_stay, member_stays, declares_stay, begins_stay}
use Rattle.kept_texts.proofs.LastReturns.{in_text, own_number}
use Rattle.kept_texts.proofs.MetNeeds.{GivesBack, GoodDoing, AllGood, gone_met}
use Rattle.kept_texts.proofs.Meeting.{BodyGiven, body_met, body_none}
use Rattle.kept_texts.proofs.Nameless.{NoNames, value_names, named_no_null, valued_names, AllValued}
use Rattle.kept_texts.proofs.NestedDoings.{any_done}
use Rattle.kept_texts.proofs.OwnVariables.{HasFunctions}
use Rattle.kept_texts.proofs.TextPlaces.{AreFine, fine_first, fine_second, text_fine, lengths_valued, member_valued, AreOwnNames, entered_place, item_names}

none_at : {A : Type 0} {B : Type 0} (k : ℕ) (x : A) → slice_get {X = A} [] k ≡ Some x → B
none_at k x h = cc

no_member : {A : Type 0} (a : RawExpr) → Contains [] a → A
no_member a (j, within, is) = absurd (omega (arith, within))

-- ---- what the items of a text name

module _ (raw : RawProgram) where
  members_valued : (scope : Scope) (before ms : List RawMember) → AreFine raw (member_phrases scope before ms) → (m : RawMember) → Contains ms m → AllValued (lengths_in m.shape)
  members_valued scope before [] fine m (i, within, is) = absurd (omega (arith, within))
  members_valued scope before (x ∷ ms) fine m (zero, within, is) = subst (λ (y : RawMember). AllValued (lengths_in y.shape)) is (member_valued raw x.line scope before x fine.0)
  members_valued scope before (x ∷ ms) fine m (suc i, within, is) = members_valued scope (before ++ x ∷ []) ms fine.1 m (i, omega (arith, within), is)

  -- an expression that is no constant, nor NULL, is none that a global begins with
  constant_names : (e : RawExpr) → ((value_of_constant e ≡ None) → is_null_name e ≡ false → ⊥) → (x : Bytes) → NamedIn e x → ⊥
  constant_names e h x n = by_value (value_of_constant e) refl
    where
      by_value : (o : Option _) → value_of_constant e ≡ o → ⊥
      by_value None is = h is (named_no_null x n)
      by_value (Some v) is = value_names x is n

  module _ (l : ℕ) (v : RawVar) (is_static : Bool) (scope : Scope) where
    one_names : (e : RawExpr) → AreFine raw (declaration raw l scope (InFile is_static) v (init.One e)) → NoNames (init_exprs (init.One e))
    one_names e fine x (a, (zero, within, is), n) =
        let t = counted raw 0 v.shape fine.0.typed.type fine.0.typed.is in
        constant_names a (λ none null. fine.1.0.rules 10 (Breaks.no_constant (LacksConstant.global t.there (subst (IsNoConstant t.type) (sym is) (IsNoConstant.other a none null))))) x n
    one_names e fine x (a, (suc i, within, is), n) = absurd (omega (arith, within))

    items_names : (es : List RawExpr) → AreFine raw (declaration raw l scope (InFile is_static) v (init.Items es)) → NoNames (init_exprs (init.Items es))
    items_names es fine x (a, c, n) =
        let t = counted raw (length es) v.shape fine.0.typed.type fine.0.typed.is in
        by_element t.type t.there (element_of t.type) refl
      where
        by_element : (t : ExprType) → variable_type raw v (init.Items es) ≡ Some t → (o : Option ExprType) → element_of t ≡ o → ⊥
        by_element t there None none = fine.1.0.rules 22 (Breaks.initialiser (MisusesInitialiser.no_array there none))
        by_element t there (Some u) is = constant_names a (λ none null. fine.1.0.rules 10 (Breaks.no_constant (LacksConstant.item there is c (IsNoConstant.other a none null)))) x n

    pub begin_names : (i : RawInit) → AreFine raw (declaration raw l scope (InFile is_static) v i) → NoNames (init_exprs i)
    begin_names init.None fine = λ x (a, c, n). no_member a c
    begin_names (init.One e) fine = one_names e fine
    begin_names (init.Items es) fine = items_names es fine

module _ (raw : RawProgram) (p : Program) (k : Kept ℕ) (tree : IsTree raw) (has : HasProgram raw p) (within : IsWithinLimits raw p) (h : HangsTogether p k) (clear : IsClear k.statement k.variable p) where
  abbrev names : Kept Bytes
  names = K raw k

  -- ---- what a function of the program does hangs together

  good_doing : (f : ℕ) (d : Doing) → Contains (doings_of p f) d → GoodDoing raw k has.rules f d
  good_doing f (Does i a) m = λ c. record { names = λ id n. h.acts f i id a m c n; back = by_act c a m }
    where
      by_act : k.statement i ≡ true → (a : Act) → Contains (doings_of p f) (Does i a) → GivesBack raw k has.rules f a
      by_act c (Act.Begins x j) m = tt
      by_act c (Act.Sets left op right) m = tt
      by_act c (Act.Bumps left up) m = tt
      by_act c (Act.Fetches to) m = tt
      by_act c (Act.Writes e) m = tt
      by_act c (Act.Prints format args) m = tt
      by_act c (Act.Allocates to n) m = tt
      by_act c (Act.Frees e) m = tt
      by_act c (Act.Returns None) m = tt
      by_act c (Act.Returns (Some e)) m = h.returns f i e m c
      by_act c (Act.Tests e) m = tt
  good_doing f (Calls i to g args) m = λ c. record {
    names = λ id n. h.calls f i g id to args m c n;
    callee = h.callees f i g to args m c;
    arguments = λ n below. h.arguments f i g to args m c n below;
    result = λ stored r. h.results f i g to args m c stored r;
  }

  all_good : (f : ℕ) (ds : List Doing) → ((d : Doing) → IsIn ds d → Contains (doings_of p f) d) → AllGood raw k has.rules f ds
  all_good f [] g = tt
  all_good f (d ∷ ds) g = (good_doing f d (g d (inl refl)), all_good f ds (λ e m. g e (inr m)))

  -- ---- a function with its number

  module _ (f : ℕ) (c : Function) (at : slice_get p.functions f ≡ Some c) where
    does : (d : Doing) → IsIn (body_doings c.body) d → Contains (doings_of p f) d
    does d m = subst (λ (o : Option Function). Contains (option_map_or (λ (g : Function). body_doings g.body) o []) d) (sym at) (contains_of_in (body_doings c.body) d m)

    number : function_id raw c.name ≡ Some f
    number = own_number raw p tree has within f c at

    function_is : names.function c.name ≡ k.function f
    function_is = ap (λ (o : Option ℕ). option_map_or k.function o true) number

    parameter_is : (n : ℕ) → names.parameter c.name n ≡ k.parameter f n
    parameter_is n = ap (λ (o : Option ℕ). option_map_or (λ (g : ℕ). k.parameter g n) o false) number

    gives_is : names.gives c.name ≡ k.gives f
    gives_is = ap (λ (o : Option ℕ). option_map_or k.gives o false) number

    params_at : (n x : ℕ) → slice_get c.params n ≡ Some x → k.variable x ≡ (k.function f && k.parameter f n)
    params_at n x there = h.parameters_too f n x (subst (λ (o : Option Function). slice_get (option_map_or (λ (g : Function). g.params) o []) n ≡ Some x) (sym at) there)

    body_clear : all_clear (map (rest k.statement k.variable) c.body) ≡ true
    body_clear = all_of c.body (by_place p.functions f at clear)
      where
        by_place : (fs : List Function) (n : ℕ) → slice_get fs n ≡ Some c → list_all (λ (g : Function). list_all (is_clear k.statement k.variable) g.body) fs ≡ true → list_all (is_clear k.statement k.variable) c.body ≡ true
        by_place [] n at q = none_at n c at
        by_place (g ∷ fs) zero at q = subst (λ (z : Function). list_all (is_clear k.statement k.variable) z.body ≡ true) (same_Some _ _ at) (and_parts (list_all (is_clear k.statement k.variable) g.body) _ q).0
        by_place (g ∷ fs) (suc n) at q = by_place fs n at (and_parts (list_all (is_clear k.statement k.variable) g.body) _ q).1

        all_of : (xs : List Statement) → list_all (is_clear k.statement k.variable) xs ≡ true → all_clear (map (rest k.statement k.variable) xs) ≡ true
        all_of [] q = refl
        all_of (x ∷ xs) q = let b = and_parts (is_clear k.statement k.variable x) (list_all (is_clear k.statement k.variable) xs) q in ap (λ (y : Bool). y && all_clear (map (rest k.statement k.variable) xs)) b.0 ∙ all_of xs b.1

    -- nothing stays of a function that isn't kept
    body_gone : k.function f ≡ false → any_stays (map (rest k.statement k.variable) c.body) ≡ false
    body_gone none = by_value (any_stays (map (rest k.statement k.variable) c.body)) refl
      where
        done_in : (ds : List Doing) → ((d : Doing) → IsIn ds d → Contains (doings_of p f) d) → any_done k.statement ds ≡ true → ⊥
        done_in [] g q = false_true q
        done_in (d ∷ ds) g q = elim (or_cases (k.statement (doing_number d)) (any_done k.statement ds) q) [
          | inl y ↦ false_true (sym none ∙ h.owners f d (g d (inl refl)) y)
          | inr y ↦ done_in ds (λ e m. g e (inr m)) y
        ]

        by_value : (b : Bool) → any_stays (map (rest k.statement k.variable) c.body) ≡ b → any_stays (map (rest k.statement k.variable) c.body) ≡ false
        by_value true q =
            absurd (done_in (body_doings c.body) does (function_held raw p k h raw.items outset (tt, λ id r. tt) (phrases_kept raw has.rules) (made_of raw p has.program).functions f c at q))
        by_value false q = q

  -- ---- a definition of the text

  -- each parameter stays with its variable, or both go
  params_fit : (name : Bytes) (f m : ℕ) (ps : List RawParam) (scope : Scope) → are_named ps ≡ true → AreFine raw (head_phrases raw ps scope) → ((n : ℕ) → names.parameter name n ≡ k.parameter f n) → k.function f ≡ true
      → ((j x : ℕ) → slice_get (parameter_ids ps scope.variables) j ≡ Some x → k.variable x ≡ (k.function f && k.parameter f (m + j))) → ParamsFit names raw name m ps scope
  params_fit name f m [] scope named fine same kept at = tt
  params_fit name f m (q ∷ ps) scope named fine same kept at = by_name q.name refl named fine at (λ next. params_fit name f (suc m) ps next)
    where
      by_name : (o : Option Bytes) → q.name ≡ o → (grammar.is_some o && are_named ps) ≡ true → AreFine raw (parameter_phrases raw q o scope ++ head_phrases raw ps (with_named raw q o scope))
          → ((j x : ℕ) → slice_get (if is_some o then scope.variables ∷ parameter_ids ps (scope.variables + 1) else parameter_ids ps scope.variables) j ≡ Some x → k.variable x ≡ (k.function f && k.parameter f (m + j)))
          → ((next : Scope) → are_named ps ≡ true → AreFine raw (head_phrases raw ps next) → ((n : ℕ) → names.parameter name n ≡ k.parameter f n) → k.function f ≡ true → ((j x : ℕ) → slice_get (parameter_ids ps next.variables) j ≡ Some x → k.variable x ≡ (k.function f && k.parameter f (suc m + j))) → ParamsFit names raw name (suc m) ps next)
          → ParamFits names (names.parameter name m) scope q o × ParamsFit names raw name (suc m) ps (with_named raw q o scope)
      by_name None is named fine at more = false_true named
      by_name (Some w) is named fine at more =
          let inner = with_named raw q (Some w) scope in
          let zero_is : m + 0 ≡ m = omega arith in
          let here : k.variable scope.variables ≡ k.parameter f m = at 0 scope.variables refl ∙ ap₂ (λ (a : Bool) (n : ℕ). a && k.parameter f n) kept zero_is in (
            by_parameter (names.parameter name m) refl here,
            more inner (and_parts (grammar.is_some (Some w)) (are_named ps) named).1 (fine_second raw (parameter_phrases raw q (Some w) scope) (head_phrases raw ps inner) fine) same kept
                (λ j x there. let e : m + suc j ≡ suc m + j = omega arith in at (suc j) x there ∙ ap (λ (n : ℕ). k.function f && k.parameter f n) e),
          )
        where
          by_parameter : (b : Bool) → names.parameter name m ≡ b → k.variable scope.variables ≡ k.parameter f m → ParamFits names b scope q (Some w)
          by_parameter true p here =
              let v = parameter_of q w in
              (here ∙ sym (same m) ∙ p, declares_stay raw k scope InHead v init.None (none_stay raw k scope (lengths_in v.shape) (valued_names (lengths_in v.shape) (lengths_valued raw q.line scope InHead v init.None fine.0))))
          by_parameter false p here = here ∙ sym (same m) ∙ p

  params_go : (f m : ℕ) (ps : List RawParam) (scope : Scope) → are_named ps ≡ true → k.function f ≡ false → ((j x : ℕ) → slice_get (parameter_ids ps scope.variables) j ≡ Some x → k.variable x ≡ (k.function f && k.parameter f (m + j))) → ParamsGo names raw ps scope
  params_go f m [] scope named gone at = tt
  params_go f m (q ∷ ps) scope named gone at = by_name q.name named at (λ next. params_go f (suc m) ps next)
    where
      by_name : (o : Option Bytes) → (grammar.is_some o && are_named ps) ≡ true
          → ((j x : ℕ) → slice_get (if is_some o then scope.variables ∷ parameter_ids ps (scope.variables + 1) else parameter_ids ps scope.variables) j ≡ Some x → k.variable x ≡ (k.function f && k.parameter f (m + j)))
          → ((next : Scope) → are_named ps ≡ true → k.function f ≡ false → ((j x : ℕ) → slice_get (parameter_ids ps next.variables) j ≡ Some x → k.variable x ≡ (k.function f && k.parameter f (suc m + j))) → ParamsGo names raw ps next)
          → ParamGoes names scope o × ParamsGo names raw ps (with_named raw q o scope)
      by_name None named at more = false_true named
      by_name (Some w) named at more = (
        at 0 scope.variables refl ∙ ap (λ (a : Bool). a && k.parameter f (m + 0)) gone,
        more (with_named raw q (Some w) scope) (and_parts (grammar.is_some (Some w)) (are_named ps) named).1 gone (λ j x there. let e : m + suc j ≡ suc m + j = omega arith in at (suc j) x there ∙ ap (λ (n : ℕ). k.function f && k.parameter f n) e),
      )

  -- a body that ends with a kept return of a value keeps its last statement
  last_stays : {body : List RawStatement} (scope : Scope) (zs : List Statement) → EndsWithValue body → body_of raw body scope ≡ Some zs → ((i : ℕ) (e : Expr) → EndsWith i (Some e) zs → k.statement i ≡ true) → LastStays names raw body scope
  last_stays scope zs (EndsWithValue.last {line} u) at ends =
      let z = more_there ((treed raw (raw_s.Return line (Some u))).gives scope) [] zs at in
      let m = map_there (s.Return scope.statements line) (optional (option_map (expr_of raw scope) (Some u))) z.first (sym (ap (λ (t : Scoped (Option Statement)). t.gives scope) (treed-Return raw line (Some u))) ∙ z.first_there) in
      let o = optional_there (expr_of raw scope u) m.value m.there in
      let only : z.first ∷ [] ≡ zs = ap (λ (ys : List Statement). z.first ∷ ys) (some_same z.rest_there) ∙ z.same in
      ends scope.statements o.0 (subst (EndsWith scope.statements (Some o.0)) only (line, sym m.same ∙ ap (s.Return scope.statements line) (sym o.1.1)))
  last_stays scope zs (EndsWithValue.later {first} {rest} d) at ends =
      let next = (treed raw first).after scope in
      let z = more_there ((treed raw first).gives scope) (in_order (map (treed raw) rest) next) zs at in
      behind first rest scope (subst (λ (y : Scope). LastStays names raw rest y) (after_same raw first scope) (last_stays next z.rest d z.rest_there (λ i e q. ends i e (subst (EndsWith i (Some e)) z.same (later i (Some e) z.first z.rest q))))) d
    where
      later : (i : ℕ) (e : Option Expr) (y : Statement) (ys : List Statement) → EndsWith i e ys → EndsWith i e (y ∷ ys)
      later i e y [] q = absurd q
      later i e y (z ∷ ys) q = q

      behind : (x : RawStatement) (xs : List RawStatement) (y : Scope) → LastStays names raw xs ((scoped raw x).after y) → EndsWithValue xs → LastStays names raw (x ∷ xs) y
      behind x [] y q d = elim d [ ]
      behind x (w ∷ xs) y q d = q

  module _ (l : ℕ) (head : RawHead) (body : List RawStatement) (scope : Scope) (c : Function) (made : function_tree raw l head body scope ≡ Some c) (at : slice_get p.functions scope.functions ≡ Some c) (fine : AreFine raw (item_phrases raw (Define l head body) scope)) (syntax : is_item (Define l head body) ≡ true)
      (own : AreOwnNames raw scope.names) where
    abbrev f : ℕ
    f = scope.functions

    name_is : c.name ≡ head.name
    name_is = ap (λ (g : Function). g.name) (function_made raw l head body scope c made).is

    named : are_named head.params ≡ true
    named = (and_parts (are_named head.params) (is_body body) (and_parts (is_head head) _ syntax).1).0

    head_fine : AreFine raw (head_phrases raw head.params (scope_of_parameters head scope))
    head_fine = fine_first raw (head_phrases raw head.params (scope_of_parameters head scope)) _ fine.1

    params_are : (j x : ℕ) → slice_get (parameter_ids head.params (scope_of_parameters head scope).variables) j ≡ Some x → k.variable x ≡ (k.function f && k.parameter f (0 + j))
    params_are j x there =
        let ids : c.params ≡ parameter_ids head.params scope.variables = ap (λ (g : Function). g.params) (function_made raw l head body scope c made).is in
        let start : (scope_of_parameters head scope).variables ≡ scope.variables = function_variables head.name scope in
        let none : j ≡ 0 + j = omega arith in
        params_at f c at j x (subst (λ (xs : List ℕ). slice_get xs j ≡ Some x) (ap (parameter_ids head.params) start ∙ sym ids) there) ∙ ap (λ (n : ℕ). k.function f && k.parameter f n) none

    inside : BodyGiven raw k has.rules f body (entered raw head scope) (function_made raw l head body scope c made).statements
    inside =
        let q = function_made raw l head body scope c made in
        let same : c.body ≡ q.statements = ap (λ (g : Function). g.body) q.is in
        record {
          place = entered_place raw head scope head_fine own;
          syntax = (and_parts (are_named head.params) (is_body body) (and_parts (is_head head) _ syntax).1).1;
          tree = q.statements_there;
          fine = fine_first raw (body_phrases raw body (entered raw head scope)) _ (fine_second raw (head_phrases raw head.params (scope_of_parameters head scope)) _ fine.1);
          good = all_good f (body_doings q.statements) (λ d m. does f c at d (subst (λ (ys : List Statement). IsIn (body_doings ys) d) (sym same) m));
          clear = subst (λ (ys : List Statement). all_clear (map (rest k.statement k.variable) ys) ≡ true) same (body_clear f c at);
        }

    function_stays : names.function head.name ≡ true → FunctionStays names raw head body scope
    function_stays kept =
        let q = function_made raw l head body scope c made in
        let there : k.function f ≡ true = sym (function_is f c at) ∙ ap names.function name_is ∙ kept in
        record {
          parameters = params_fit head.name f 0 head.params (scope_of_parameters head scope) named head_fine (λ n. ap (λ (w : Bytes). names.parameter w n) (sym name_is) ∙ parameter_is f c at n) there params_are;
          statements = body_met raw k has.rules f body (entered raw head scope) q.statements inside;
          result = λ gives other value. last_stays (entered raw head scope) q.statements value q.statements_there
              (λ i e ends. h.ends f i e c at (not_main other) (sym (gives_is f c at) ∙ ap names.gives name_is ∙ gives) (subst (λ (g : Function). EndsWith i (Some e) g.body) (sym q.is) ends));
        }
      where
        not_main : head.name ≢ main_name → is_main c.name ≡ false
        not_main other = by_test (is_main c.name) refl
          where
            by_test : (b : Bool) → is_main c.name ≡ b → is_main c.name ≡ false
            by_test true q = absurd (other (sym name_is ∙ same_bytes c.name main_name q))
            by_test false q = q

    function_goes : names.function head.name ≡ false → FunctionGoes names raw head body scope
    function_goes none =
        let q = function_made raw l head body scope c made in
        let same : c.body ≡ q.statements = ap (λ (g : Function). g.body) q.is in
        let there : k.function f ≡ false = sym (function_is f c at) ∙ ap names.function name_is ∙ none in
        record {
          parameters = params_go f 0 head.params (scope_of_parameters head scope) named there params_are;
          statements = gone_met raw k has.rules f (body_left names raw body (entered raw head scope)) (body_met raw k has.rules f body (entered raw head scope) q.statements inside)
              (body_none raw k has.rules f body (entered raw head scope) q.statements inside (subst (λ (ys : List Statement). any_stays (map (rest k.statement k.variable) ys) ≡ false) same (body_gone f c at there)));
        }

  -- ---- items

  -- where items of the text begin, with the functions that they define
  record Behind (xs : List RawItem) (scope : Scope) (fs : List Function) : Type 0 where
    fine : AreFine raw (items_phrases raw xs scope)
    syntax : list_all is_item xs ≡ true
    made : HasFunctions raw xs scope fs
    places : (n : ℕ) (c : Function) → slice_get fs n ≡ Some c → slice_get p.functions (scope.functions + n) ≡ Some c
    own : AreOwnNames raw scope.names

  next_item : (x : RawItem) (xs : List RawItem) (scope : Scope) (fs : List Function) → HasFunctions raw xs (after_item raw x scope) fs → (after_item raw x scope).functions ≡ scope.functions → Behind (x ∷ xs) scope fs → Behind xs (after_item raw x scope) fs
  next_item x xs scope fs made same b = record {
    fine = fine_second raw (item_phrases raw x scope) (items_phrases raw xs (after_item raw x scope)) b.fine;
    syntax = (and_parts (is_item x) (list_all is_item xs) b.syntax).1;
    made = made;
    places = λ n c at. subst (λ (m : ℕ). slice_get p.functions (m + n) ≡ Some c) (sym same) (b.places n c at);
    own = item_names raw x scope (fine_first raw (item_phrases raw x scope) (items_phrases raw xs (after_item raw x scope)) b.fine) b.own;
  }

  items_closed : (xs : List RawItem) (scope : Scope) (fs : List Function) → Behind xs scope fs → ItemsAreClosed names raw xs scope
  items_closed [] scope fs b = tt
  items_closed (Include is_stdlib ∷ xs) scope fs b = (tt, items_closed xs scope fs (next_item (Include is_stdlib) xs scope fs b.made refl b))
  items_closed (Tag l w ∷ xs) scope fs b = (tt, items_closed xs scope fs (next_item (Tag l w) xs scope fs b.made refl b))
  items_closed (Struct l w ms ∷ xs) scope fs b =
      let here = fine_first raw (item_phrases raw (Struct l w ms) scope) (items_phrases raw xs (after_item raw (Struct l w ms) scope)) b.fine in (
        λ before m c. member_stays raw k scope before m (none_stay raw k scope (lengths_in m.shape) (valued_names (lengths_in m.shape) (members_valued raw scope [] ms here.1 m c))),
        items_closed xs (after_item raw (Struct l w ms) scope) fs (next_item (Struct l w ms) xs scope fs b.made refl b),
      )
  items_closed (Global l v i is_static ∷ xs) scope fs b =
      let here = fine_first raw (item_phrases raw (Global l v i is_static) scope) (items_phrases raw xs (after_item raw (Global l v i is_static) scope)) b.fine in (
        λ kept. record {
          declares = declares_stay raw k scope (InFile is_static) v i (none_stay raw k scope (lengths_in v.shape) (valued_names (lengths_in v.shape) (lengths_valued raw l scope (InFile is_static) v i here.0)));
          begins = begins_stay raw k (with_variable raw v i scope) (InFile is_static) v i (none_stay raw k (with_variable raw v i scope) (init_exprs i) (begin_names raw l v is_static scope i here));
        },
        items_closed xs (after_item raw (Global l v i is_static) scope) fs (next_item (Global l v i is_static) xs scope fs b.made refl b),
      )
  items_closed (Prototype l head ∷ xs) scope fs b = (tt, items_closed xs (after_item raw (Prototype l head) scope) fs (next_item (Prototype l head) xs scope fs b.made (prototype_functions raw l head scope) b))
  items_closed (Define l head body ∷ xs) scope fs b =
      let after = after_item raw (Define l head body) scope in
      let z = more_there (function_tree raw l head body scope) (functions_from raw xs after) fs b.made in
      let here = fine_first raw (item_phrases raw (Define l head body) scope) (items_phrases raw xs after) b.fine in
      let none : scope.functions + 0 ≡ scope.functions = omega arith in
      let at : slice_get p.functions scope.functions ≡ Some z.first = ap (slice_get p.functions) (sym none) ∙ b.places 0 z.first (ap (λ (gs : List Function). slice_get gs 0) (sym z.same)) in
      let item = and_parts (is_item (Define l head body)) (list_all is_item xs) b.syntax in
      let more = define_functions raw l head body scope in (
        (function_stays l head body scope z.first z.first_there at here item.0 b.own, function_goes l head body scope z.first z.first_there at here item.0 b.own),
        items_closed xs after z.rest (record {
          fine = fine_second raw (item_phrases raw (Define l head body) scope) (items_phrases raw xs after) b.fine;
          syntax = item.1;
          made = z.rest_there;
          places = λ n c there. let e : scope.functions + suc n ≡ after.functions + n = omega (arith, more) in subst (λ (m : ℕ). slice_get p.functions m ≡ Some c) e (b.places (suc n) c (ap (λ (gs : List Function). slice_get gs (suc n)) (sym z.same) ∙ there));
          own = item_names raw (Define l head body) scope here b.own;
        }),
      )

  -- ---- main

  record IsMain (m : ℕ) : Type 0 where
    is : main_of p ≡ Some m
    number : function_id raw main_name ≡ Some m

  main_found : (m : ℕ) × IsMain m
  main_found =
      let there = has_main p (record { raw = raw; same = p; tree = tree; has = has; within = within; but_lines = refl }) in
      let found = position_found (λ (g : Function). is_main g.name) p.functions there.0 there.1 in
      (there.0, record { is = there.1; number = ap (function_id raw) (sym (same_bytes found.value.name main_name found.passes)) ∙ own_number raw p tree has within there.0 found.value found.at })

  -- what hangs together is a text
  pub keeps_text : KeepsText names raw
  keeps_text =
      let m = main_found in
      record {
        items = items_closed raw.items outset p.functions (record {
          fine = text_fine raw p has within.lengths;
          syntax = text_is_syntax raw tree;
          made = (made_of raw p has.program).functions;
          places = λ n c at. let e : n ≡ 0 + n = omega arith in ap (slice_get p.functions) (sym e) ∙ at;
          own = tt;
        });
        main = ap (λ (o : Option ℕ). option_map_or k.function o true) m.1.number ∙ h.main m.0 m.1.is;
        result = ap (λ (o : Option ℕ). option_map_or k.gives o false) m.1.number ∙ h.main_gives m.0 m.1.is;
      }

  -- ---- functions by their numbers

  -- the head with a number, and a function, or neither
  no_head : (i : ℕ) → slice_get p.functions i ≡ None → slice_get (defined_functions raw) i ≡ None
  no_head i none =
      unmapped (λ (g : RawHead). g.name) (slice_get (defined_functions raw) i)
      (sym (slice_get-map (λ (g : RawHead). g.name) (defined_functions raw) i)
      ∙ ap (λ (ns : List Bytes). slice_get ns i) (sym (names_are raw raw.items outset p.functions (made_of raw p has.program).functions))
      ∙ slice_get-map (λ (g : Function). g.name) p.functions i ∙ ap (option_map (λ (g : Function). g.name)) none)

  module _ (A : Type 0) (of_head : Option RawHead → A) (own : ℕ → A) (past : A) (none : of_head None ≡ past) (beyond : (i : ℕ) → length p.functions ≤ i → own i ≡ past)
      (there : (i : ℕ) (g : RawHead) → function_id raw g.name ≡ Some i → of_head (Some g) ≡ own i) where
    by_number : (i : ℕ) → of_head (slice_get (defined_functions raw) i) ≡ own i
    by_number i = elim (slice_get_cases p.functions i).1 [
      | inl w ↦
          let d = in_text raw p tree has within i w.0 w.2 in
          ap of_head d.at ∙ there i d.head (found_again raw has.rules i d.head d.at)
      | inr w ↦ ap of_head (no_head i w.1) ∙ none ∙ sym (beyond i w.0)
    ]

  -- what is kept by names is kept by numbers
  pub numbers_same : kept_numbers names raw ≡ k
  numbers_same =
      let function = fun_ext (by_number Bool (kept_head names) k.function false refl h.functions_only (λ i g q. ap (λ (o : Option ℕ). option_map_or k.function o true) q)) in
      let parameter = fun_ext (λ (i : ℕ). fun_ext (λ (n : ℕ). by_number Bool (head_passes (λ (g : RawHead). names.parameter g.name n)) (λ (j : ℕ). k.parameter j n) false refl (λ j le. h.parameters_only j n le) (λ j g q. ap (λ (o : Option ℕ). option_map_or (λ (m : ℕ). k.parameter m n) o false) q) i)) in
      let gives = fun_ext (by_number Bool (head_passes (λ (g : RawHead). names.gives g.name)) k.gives false refl h.gives_only (λ i g q. ap (λ (o : Option ℕ). option_map_or k.gives o false) q)) in
      ap₂ (λ (a : ℕ → Bool) (b : (ℕ → ℕ → Bool) × (ℕ → Bool)). record { variable = k.variable; statement = k.statement; result = k.result; argument = k.argument; function = a; parameter = b.0; gives = b.1 }) function
      (ap₂ (λ (a : ℕ → ℕ → Bool) (b : ℕ → Bool). let both : (ℕ → ℕ → Bool) × (ℕ → Bool) = (a, b) in both) parameter gives)
