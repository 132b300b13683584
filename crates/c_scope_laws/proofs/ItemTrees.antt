-- Going along the items of a text and of a thinner one: what stays of items and functions in the tree.
use Rattle.std.proofs.Common.{◌≡◌, ℕ, suc, ◌+◌, List, [], ◌∷◌, ◌++◌, map, drop, Bool, true, false, Option, Some, None, option_map, option_and_then, refl, sym, ap, ap₂, subst, ◌∙◌}
use Rattle.std.specs.Prelude.{is_some, if◌then◌else◌, slice_get}
use Rattle.c_tree.specs.declared.types.CType.{CType}
use Rattle.c_tree.specs.declared.program.Init.{Init}
use Rattle.c_tree.specs.declared.program.Var.{Var}
use Rattle.c_tree.specs.declared.raw.program.RawMember.{RawMember}
use Rattle.c_tree.specs.declared.raw.program.RawInit.TheVariants as init
use Rattle.c_tree.specs.declared.program.Function.{Function}
use Rattle.c_tree.specs.declared.program.Item.{Item}
use Rattle.c_tree.specs.declared.program.Item.TheVariants as item
use Rattle.c_tree.specs.declared.statement.Statement.{Statement}
use Rattle.c_tree.specs.declared.raw.expr.RawVar.{RawVar}
use Rattle.c_tree.specs.declared.raw.expr.RawType.{RawType}
use Rattle.c_tree.specs.declared.raw.program.RawInit.{RawInit}
use Rattle.c_tree.specs.declared.raw.program.RawParam.{RawParam}
use Rattle.c_tree.specs.declared.raw.program.RawHead.{RawHead}
use Rattle.c_tree.specs.declared.raw.program.RawItem.{RawItem}
use Rattle.c_tree.specs.declared.raw.program.RawItem.TheVariants.{Tag, Struct, Global, Prototype, Define}
use Rattle.c_tree.specs.declared.raw.program.RawProgram.{RawProgram}
use Rattle.c_tree.specs.declared.raw.statement.RawStatement.{RawStatement}
use Rattle.c_language.specs.Words.{Bytes}
use Rattle.c_language.specs.ConstantEvaluation.{both}
use Rattle.c_language.specs.DeclaredTypes.{function_texts, defined_functions, function_id, struct_id}
use Rattle.c_language.specs.Scopes.{Scope, with_variable, with_function, with_parameter, with_parameters, with_named, parameter_of, scope_of_parameters, entered, in_order, meaning_here}
use Rattle.c_language.specs.Phrases.{InFile, InHead, InBlock, Part, NamesStruct, DefinesStruct, HasMember, Takes, DeclaresFunction, EndsFunction, Declares, Begins, Phrases, phrase, joined_at, scoped, body_phrases, after_body, member_phrases, taken_phrases, parameter_phrases, head_phrases, after_item, after_items, items_phrases, item_phrases}
use Rattle.c_language.specs.ProgramOf.{declared_by, collected, optional, ctype_if, init_of, body_of, parameter_ids, function_tree, functions_from, items_from}
use Rattle.std.proofs.lemmas.Bool.{and_parts}
use Rattle.c_language.specs.ItemGrammar.{are_named, is_some as has_name}
use Rattle.c_language.specs.NameRules.{main_name}
use Rattle.c_language.specs.Lists.{all_true}
use Rattle.c_language.proofs.Tests.{false_true}
use Rattle.c_language.proofs.Options.{none_there, some_same, added_there}
use Rattle.c_language.proofs.PhraseLists.{body_in_order, body_after, kept_second}
use Rattle.c_language.proofs.ScopeNumbers.{function_variables}
use Rattle.c_language.specs.Rules.{AreKept}
use Rattle.c_scope_laws.specs.Agreement.{Names, IsVariable, head_left}
use Rattle.c_scope_laws.specs.Agreement.StandsFor.{there as as_it_is}
use Rattle.kept_numbers.specs.Ranks.{rank}
use Rattle.projection.specs.Kept.{Kept, chosen as chosen_places}
use Rattle.c_scope_laws.specs.Thinning.{heads_of, NamesStay, ThinAll}
use Rattle.c_scope_laws.specs.Following.{TextsAgree, ScopesAgree, kept_functions, head_passes, kept_numbers}
use Rattle.c_scope_laws.specs.ThinTexts.{ParamFits, ParamsFit, ParamGoes, ParamsGo, ItemsThin, is_named}
use Rattle.projection.specs.Projection.{if_so, projected_var, projected_vars, projected_all, projected_item, projected_items, projected_function, projected_functions}
use Rattle.c_scope_laws.proofs.Outside.{struct_ids, ctypes_same, variable_same}
use Rattle.c_scope_laws.proofs.StatementAgreement.{part_covers, inits_same}
use Rattle.c_scope_laws.proofs.Following.{rank_kept, rank_gone, variable_kept, variable_gone, function_kept, function_gone, places_agree}
use Rattle.c_scope_laws.proofs.TreeLevels.{chosen, unchosen}
use Rattle.c_scope_laws.proofs.TreeWalking.{all_stay}
use Rattle.c_scope_laws.proofs.VariableLists.{VarsStay, no_vars, both_vars, no_variable, phrase_gone, variable_stays, variable_goes, begun_stays, begun_goes}
use Rattle.c_scope_laws.proofs.VariableWalking.{vars_all}
use Rattle.c_scope_laws.proofs.ItemWalking.{param_walks, param_lost as param_lost_walk, no_function, base, entered_alone, drop_next, get_next, enters, params_walk, leaves, define_stands, structs_follow, no_variable_there}
use Rattle.c_scope_laws.proofs.FunctionNumbers.{FunctionNumbers}
use Rattle.c_scope_laws.proofs.ChosenLists.{chosen_map, chosen_same}
use Rattle.c_scope_laws.proofs.NumberedKept.{all_numbers}

abbrev as_function : RawHead → ℕ → List ℕ → Option CType → List Statement → Function
as_function head line ps result statements = record { name = head.name; result = result; params = ps; body = statements; is_static = head.is_static; line = line }

-- ---- parameters

abbrev IsNil : List Var → Type 0
IsNil [] = Unit {0}
IsNil (v ∷ vs) = ⊥

module _ (k : Kept Bytes) (raw : RawProgram) where
  -- the numbers of the parameters that stay are those of the variables that stay
  params_ids : (x : Bytes) (n : ℕ) (ps : List RawParam) (scope : Scope) → are_named ps ≡ true → ParamsFit k raw x n ps scope
      → parameter_ids (chosen_places (k.parameter x) n ps) (rank k.variable scope.variables) ≡ map (rank k.variable) (chosen_places (k.parameter x) n (parameter_ids ps scope.variables))
  params_ids x n [] scope named h = refl
  params_ids x n (p ∷ ps) scope named h = by_name p.name refl h.0 (and_parts _ (are_named ps) named).0 (params_ids x (suc n) ps (with_parameter raw p scope) (and_parts _ (are_named ps) named).1 h.1)
    where
      by_name : (o : Option Bytes) → p.name ≡ o → ParamFits k (k.parameter x n) scope p o → has_name o ≡ true
          → parameter_ids (chosen_places (k.parameter x) (suc n) ps) (rank k.variable (with_named raw p o scope).variables) ≡ map (rank k.variable) (chosen_places (k.parameter x) (suc n) (parameter_ids ps (with_named raw p o scope).variables))
          → parameter_ids (if k.parameter x n then p ∷ chosen_places (k.parameter x) (suc n) ps else chosen_places (k.parameter x) (suc n) ps) (rank k.variable scope.variables)
          ≡ map (rank k.variable) (chosen_places (k.parameter x) n (if is_some o then scope.variables ∷ parameter_ids ps (scope.variables + 1) else parameter_ids ps scope.variables))
      by_name None is fits there later = false_true there
      by_name (Some name) is fits there later = by_test (k.parameter x n) fits
        where
          rest : List RawParam
          rest = chosen_places (k.parameter x) (suc n) ps

          first : (m : ℕ) → parameter_ids (p ∷ rest) m ≡ m ∷ parameter_ids rest (m + 1)
          first m = ap (λ (o : Option Bytes). if is_some o then m ∷ parameter_ids rest (m + 1) else parameter_ids rest m) is

          by_test : (b : Bool) → ParamFits k b scope p (Some name)
              → parameter_ids (if b then p ∷ rest else rest) (rank k.variable scope.variables)
              ≡ map (rank k.variable) (if b then scope.variables ∷ chosen_places (k.parameter x) (suc n) (parameter_ids ps (scope.variables + 1)) else chosen_places (k.parameter x) (suc n) (parameter_ids ps (scope.variables + 1)))
          by_test true fits =
              first (rank k.variable scope.variables)
              ∙ ap (λ (all : List ℕ). rank k.variable scope.variables ∷ all) (ap (parameter_ids rest) (sym (rank_kept k.variable scope.variables fits.0)) ∙ later)
          by_test false gone = ap (parameter_ids rest) (sym (rank_gone k.variable scope.variables gone)) ∙ later

module _ (k : Kept Bytes) (result : k.gives main_name ≡ true) (raw other : RawProgram) (texts : TextsAgree k raw other) (fns : FunctionNumbers k raw other (kept_functions k raw)) where
  abbrev numbers : Kept ℕ
  numbers = kept_numbers k raw

  abbrev test : ℕ → Bool
  test = kept_functions k raw

  abbrev g : ℕ → ℕ
  g = rank test

  pub record Stay (here : ℕ) (scope next : Scope) (xs ys : List RawItem) : Type 0 where
    pub items : (zs : List Item) → collected (items_from raw xs scope) ≡ Some zs → collected (items_from other ys next) ≡ Some (projected_items numbers zs)
    pub functions : (zs : List Function) → collected (functions_from raw xs scope) ≡ Some zs → collected (functions_from other ys next) ≡ Some (projected_functions numbers here zs)
    pub statements : (after_items other ys next).statements ≡ rank k.statement (after_items raw xs scope).statements
    pub vars : VarsStay k g raw other scope.variables (items_phrases other ys next) (items_phrases raw xs scope) (after_items raw xs scope).variables

  -- one item in front of others, which stays or goes
  item_kept : (o o' : Option Item) (q q' : Option (List Item)) → ((z : Item) → o ≡ Some z → (w : Item) × (o' ≡ Some w) × (projected_item numbers z ≡ w ∷ [])) → ((zs : List Item) → q ≡ Some zs → q' ≡ Some (projected_items numbers zs))
      → (zs : List Item) → option_and_then (λ y. option_map (λ ys. y ∷ ys) q) o ≡ Some zs → option_and_then (λ y. option_map (λ ys. y ∷ ys) q') o' ≡ Some (projected_items numbers zs)
  item_kept o o' q q' p r zs at =
      let m = added_there o q zs at in
      let w = p m.first m.first_there in
      ap₂ (λ (x : Option Item) (y : Option (List Item)). option_and_then (λ z. option_map (λ ys. z ∷ ys) y) x) w.1 (r m.rest m.rest_there)
      ∙ ap Some (sym (ap (projected_items numbers) (sym m.same) ∙ ap (λ (all : List Item). all ++ projected_items numbers m.rest) w.2))

  item_gone : (o : Option Item) (q q' : Option (List Item)) → ((z : Item) → o ≡ Some z → projected_item numbers z ≡ []) → ((zs : List Item) → q ≡ Some zs → q' ≡ Some (projected_items numbers zs))
      → (zs : List Item) → option_and_then (λ y. option_map (λ ys. y ∷ ys) q) o ≡ Some zs → q' ≡ Some (projected_items numbers zs)
  item_gone o q q' p r zs at =
      let m = added_there o q zs at in
      r m.rest m.rest_there ∙ ap Some (sym (ap (projected_items numbers) (sym m.same) ∙ ap (λ (all : List Item). all ++ projected_items numbers m.rest) (p m.first m.first_there)))

  by_option : {A : Type 0} (P : Item → Type 0) (form : A → Item) (o : Option A) → ((a : A) → o ≡ Some a → P (form a)) → (z : Item) → option_map form o ≡ Some z → P z
  by_option P form None each z at = none_there at
  by_option P form (Some a) each z at = subst P (some_same at) (each a refl)

  -- ---- each item

  tag_item : (w : Bytes) (z : Item) → option_map item.Tag (struct_id raw w) ≡ Some z → (u : Item) × (option_map item.Tag (struct_id other w) ≡ Some u) × (projected_item numbers z ≡ u ∷ [])
  tag_item w = by_option (λ z. (u : Item) × (option_map item.Tag (struct_id other w) ≡ Some u) × (projected_item numbers z ≡ u ∷ [])) item.Tag (struct_id raw w)
      (λ d at. (item.Tag d, ap (option_map item.Tag) (struct_ids raw other texts.outside w ∙ at), refl))

  global_item : {here there : ℕ} {mine yours : Option ℕ} {scope next : Scope} (v : RawVar) (i : RawInit) (is_static : Bool) → k.variable scope.variables ≡ true → NamesStay k (with_variable raw v i scope) (Begins (InFile is_static) v i) → ScopesAgree k raw other here there mine yours scope next
      → (z : Item) → option_map (item.Global scope.variables) (init_of raw (with_variable raw v i scope) i) ≡ Some z
      → (u : Item) × (option_map (item.Global next.variables) (init_of other (with_variable other v i next) i) ≡ Some u) × (projected_item numbers z ≡ u ∷ [])
  global_item {scope} {next} v i is_static is begin c =
      let like = variable_same raw other texts.outside v i in
      let inner = variable_kept k raw other v v i i is like.name like.type c in
      by_option (λ z. (u : Item) × (option_map (item.Global next.variables) (init_of other (with_variable other v i next) i) ≡ Some u) × (projected_item numbers z ≡ u ∷ [])) (item.Global scope.variables) (init_of raw (with_variable raw v i scope) i)
      (λ j at. (
        item.Global (rank k.variable scope.variables) _,
        ap₂ (λ (n : ℕ) (o : Option Init). option_map (item.Global n) o) c.variables
            (inits_same (rank k.variable) (Names (Begins (InFile is_static) v i)) raw other (with_variable raw v i scope) (with_variable other v i next) texts.outside (places_agree k raw other texts inner begin).scopes i (part_covers (Begins (InFile is_static) v i) (λ x n. n))
            ∙ ap (option_map _) at),
        chosen _ [] is,
      ))

  abbrev left : RawHead → RawHead
  left = head_left (heads_of k)

  abbrev named : List RawParam → List (Option Bytes)
  named ps = map (λ (p : RawParam). p.name) ps

  prototype_item : (head : RawHead) → k.function head.name ≡ true → (z : Item) → option_map (λ (f : ℕ). item.Prototype f (named head.params) head.is_static) (function_id raw head.name) ≡ Some z
      → (u : Item) × (option_map (λ (f : ℕ). item.Prototype f (named (left head).params) head.is_static) (function_id other head.name) ≡ Some u) × (projected_item numbers z ≡ u ∷ [])
  prototype_item head is =
      by_option (λ z. (u : Item) × (option_map (λ (f : ℕ). item.Prototype f (named (left head).params) head.is_static) (function_id other head.name) ≡ Some u) × (projected_item numbers z ≡ u ∷ []))
      (λ (f : ℕ). item.Prototype f (named head.params) head.is_static) (function_id raw head.name)
      (λ f at. (
        item.Prototype (g f) (named (left head).params) head.is_static,
        ap (option_map (λ (f : ℕ). item.Prototype f (named (left head).params) head.is_static)) (fns.ids head.name is ∙ ap (option_map g) at),
        chosen _ [] (fns.tests head.name f at ∙ is) ∙ ap (λ (names : List (Option Bytes)). item.Prototype (g f) names head.is_static ∷ []) (names_left f at),
      ))
    where
      same_test : (f : ℕ) → function_id raw head.name ≡ Some f → (n : ℕ) → numbers.parameter f n ≡ k.parameter head.name n
      same_test f at n =
          let h = fns.heads head.name f at in ap (head_passes (λ (h : RawHead). k.parameter h.name n)) h.1 ∙ ap (λ (x : Bytes). k.parameter x n) h.2

      names_left : (f : ℕ) → function_id raw head.name ≡ Some f → chosen_places (numbers.parameter f) 0 (named head.params) ≡ named (left head).params
      names_left f at =
          chosen_same (numbers.parameter f) (k.parameter head.name) 0 (named head.params) (λ i within. same_test f at (0 + i))
          ∙ sym (chosen_map (λ (p : RawParam). p.name) (k.parameter head.name) 0 head.params)

  prototype_gone : (head : RawHead) → k.function head.name ≡ false → (z : Item) → option_map (λ (f : ℕ). item.Prototype f (named head.params) head.is_static) (function_id raw head.name) ≡ Some z → projected_item numbers z ≡ []
  prototype_gone head is =
      by_option (λ z. projected_item numbers z ≡ []) (λ (f : ℕ). item.Prototype f (named head.params) head.is_static) (function_id raw head.name) (λ f at. unchosen _ [] (fns.tests head.name f at ∙ is))

  -- ---- functions

  result_same : (r : Option RawType) → ctype_if other r ≡ ctype_if raw r
  result_same None = refl
  result_same (Some a) = ap (λ (o : Option CType). optional (Some o)) (ctypes_same raw other texts.outside 0 a)

  -- the result of what stays of a head
  result_left : (b : Bool) (r : Option RawType) (t : Option CType) → ctype_if raw r ≡ Some t → ctype_if other (if b then r else None) ≡ Some (if b then t else None)
  result_left true r t at = result_same r ∙ at
  result_left false r t at = refl

  module _ (here : ℕ) (head : RawHead) (place : slice_get (defined_functions raw) here ≡ Some head) where
    gives_here : numbers.gives here ≡ k.gives head.name
    gives_here = ap (head_passes (λ (h : RawHead). k.gives h.name)) place

    params_here : (ps : List ℕ) → chosen_places (numbers.parameter here) 0 ps ≡ chosen_places (k.parameter head.name) 0 ps
    params_here ps = chosen_same (numbers.parameter here) (k.parameter head.name) 0 ps (λ i within. ap (head_passes (λ (h : RawHead). k.parameter h.name (0 + i))) place)

    function_as : (line : ℕ) (ps qs : List ℕ) (r r' : Option (Option CType)) (b b' : Option (List Statement)) → ((t : Option CType) → r ≡ Some t → r' ≡ Some (if k.gives head.name then t else None))
        → ((zs : List Statement) → b ≡ Some zs → b' ≡ Some (projected_all k g zs)) → qs ≡ map (rank k.variable) (chosen_places (k.parameter head.name) 0 ps)
        → (fn : Function) → both (λ (result : Option CType) (statements : List Statement). as_function head line ps result statements) r b ≡ Some fn
        → both (λ (result : Option CType) (statements : List Statement). as_function head line qs result statements) r' b' ≡ Some (projected_function numbers g here fn)
    function_as line ps qs None r' b b' p q u fn at = none_there at
    function_as line ps qs (Some result) r' None b' p q u fn at = none_there at
    function_as line ps qs (Some result) r' (Some zs) b' p q u fn at =
        ap₂ (both (λ (result : Option CType) (statements : List Statement). as_function head line qs result statements)) (p result refl) (q zs refl)
        ∙ ap₂ (λ (ns : List ℕ) (body : List Statement). Some (as_function head line ns (if k.gives head.name then result else None) body)) (u ∙ ap (map (rank k.variable)) (sym (params_here ps))) (all_numbers k raw g zs)
        ∙ ap (λ (c : Bool). Some (as_function head line (map (rank k.variable) (chosen_places (numbers.parameter here) 0 ps)) (if c then result else None) (projected_all numbers g zs))) (sym gives_here)
        ∙ ap (λ (o : Function). Some (projected_function numbers g here o)) (some_same at)

  function_stays : {here there : ℕ} {mine yours : Option ℕ} {scope next : Scope} (line : ℕ) (head : RawHead) (body some : List RawStatement) (rest more : List RawHead) → are_named head.params ≡ true → ScopesAgree k raw other here there mine yours scope next → k.function head.name ≡ true
      → (IsVariable (meaning_here scope head.name) → ⊥) → ParamsFit k raw head.name 0 head.params (scope_of_parameters head scope) → ThinAll k raw other (entered raw head scope) body some
      → drop here (defined_functions raw) ≡ head ∷ rest → drop there (defined_functions other) ≡ left head ∷ more
      → (fn : Function) → function_tree raw line head body scope ≡ Some fn → function_tree other line (left head) some next ≡ Some (projected_function numbers g here fn)
  function_stays {here} {there} {mine} {yours} {scope} {next} line head body some rest more names c is none stay d at_raw at_other fn at =
      let less = left head in
      let e = enters k raw other texts c head rest more is none at_raw at_other in
      let p = params_walk k raw other texts head.name 0 head.params (scope_of_parameters head scope) (scope_of_parameters less next) stay e in
      function_as here head (get_next here (defined_functions raw) head rest at_raw) line (parameter_ids head.params scope.variables) (parameter_ids less.params next.variables) (ctype_if raw head.result) (ctype_if other less.result) (body_of raw body (entered raw head scope)) (body_of other some (entered other less next))
      (result_left (k.gives head.name) head.result) (all_stay k raw other texts g fns.ids (suc here) (suc there) (Some here) (Some there) d (entered other less next) p.after)
      (ap (parameter_ids less.params) c.variables
      ∙ ap (λ (n : ℕ). parameter_ids less.params (rank k.variable n)) (sym (function_variables head.name scope))
      ∙ params_ids k raw head.name 0 head.params (scope_of_parameters head scope) names stay
      ∙ ap (λ (n : ℕ). map (rank k.variable) (chosen_places (k.parameter head.name) 0 (parameter_ids head.params n))) (function_variables head.name scope))
      fn at

  module _ (here : ℕ) where
    functions_kept : (o o' : Option Function) (q q' : Option (List Function)) → test here ≡ true → ((z : Function) → o ≡ Some z → o' ≡ Some (projected_function numbers g here z))
        → ((zs : List Function) → q ≡ Some zs → q' ≡ Some (projected_functions numbers (suc here) zs))
        → (zs : List Function) → option_and_then (λ y. option_map (λ ys. y ∷ ys) q) o ≡ Some zs → option_and_then (λ y. option_map (λ ys. y ∷ ys) q') o' ≡ Some (projected_functions numbers here zs)
    functions_kept o o' q q' is p r zs at =
        let m = added_there o q zs at in
        ap₂ (λ (x : Option Function) (y : Option (List Function)). option_and_then (λ z. option_map (λ ys. z ∷ ys) y) x) (p m.first m.first_there) (r m.rest m.rest_there)
        ∙ ap Some (sym (ap (projected_functions numbers here) (sym m.same) ∙ chosen _ (projected_functions numbers (suc here) m.rest) is))

    functions_gone : (o : Option Function) (q q' : Option (List Function)) → test here ≡ false → ((zs : List Function) → q ≡ Some zs → q' ≡ Some (projected_functions numbers (suc here) zs))
        → (zs : List Function) → option_and_then (λ y. option_map (λ ys. y ∷ ys) q) o ≡ Some zs → q' ≡ Some (projected_functions numbers here zs)
    functions_gone o q q' is r zs at =
        let m = added_there o q zs at in
        r m.rest m.rest_there
        ∙ ap Some (sym (ap (projected_functions numbers here) (sym m.same) ∙ unchosen (projected_function numbers g here m.first ∷ projected_functions numbers (suc here) m.rest) (projected_functions numbers (suc here) m.rest) is))

  -- ---- variables

  abbrev Vars : ℕ → Phrases → Phrases → ℕ → Type 0
  Vars m qs ps n = VarsStay k g raw other m qs ps n

  abbrev both_of : {m n o : ℕ} (qs rs ps ts : Phrases) → Vars m qs ps n → Vars n rs ts o → Vars m (qs ++ rs) (ps ++ ts) o
  both_of qs rs ps ts a b = both_vars k g raw other qs rs ps ts a b

  ends : {m n o : ℕ} {qs ps : Phrases} → n ≡ o → Vars m qs ps n → Vars m qs ps o
  ends {m} {n} {o} {qs} {ps} h v = subst (Vars m qs ps) h v

  starts : {m n o : ℕ} {qs ps : Phrases} → m ≡ o → Vars m qs ps n → Vars o qs ps n
  starts {m} {n} {o} {qs} {ps} h v = subst (λ (x : ℕ). Vars x qs ps n) h v

  plain : (n l : ℕ) (scope next : Scope) (p q : Part) → declared_by raw l scope p ≡ [] → declared_by other l next q ≡ [] → Vars n (phrase l next q ∷ []) (phrase l scope p ∷ []) n
  plain n l scope next p q a b = no_variable k g raw other n l l scope next p q a b

  lost : (n l : ℕ) (scope : Scope) (p : Part) → declared_by raw l scope p ≡ [] → Vars n [] (phrase l scope p ∷ []) n
  lost n l scope p a = phrase_gone k g raw other n l scope p a

  members_vars : (n : ℕ) (scope next : Scope) (before ms : List RawMember) → Vars n (member_phrases next before ms) (member_phrases scope before ms) n
  members_vars n scope next before [] = no_vars k g raw other n
  members_vars n scope next before (m ∷ ms) =
      both_of (phrase m.line next (HasMember before m) ∷ []) _ (phrase m.line scope (HasMember before m) ∷ []) _ (plain n m.line scope next (HasMember before m) (HasMember before m) refl refl) (members_vars n scope next (before ++ m ∷ []) ms)

  taken_vars : (test : ℕ → Bool) (m n : ℕ) (scope next : Scope) (before less ps : List RawParam) → Vars n (taken_phrases next less (chosen_places test m ps)) (taken_phrases scope before ps) n
  taken_vars test m n scope next before less [] = no_vars k g raw other n
  taken_vars test m n scope next before less (p ∷ ps) = by_test (test m) (λ more. taken_vars test (suc m) n scope next (before ++ p ∷ []) more ps)
    where
      by_test : (b : Bool) → ((more : List RawParam) → Vars n (taken_phrases next more (chosen_places test (suc m) ps)) (taken_phrases scope (before ++ p ∷ []) ps) n)
          → Vars n (taken_phrases next less (if b then p ∷ chosen_places test (suc m) ps else chosen_places test (suc m) ps)) (taken_phrases scope before (p ∷ ps)) n
      by_test true later =
          both_of (phrase p.line next (Takes less p) ∷ []) _ (phrase p.line scope (Takes before p) ∷ []) _ (plain n p.line scope next (Takes before p) (Takes less p) refl refl) (later (less ++ p ∷ []))
      by_test false later = both_of [] _ (phrase p.line scope (Takes before p) ∷ []) _ (lost n p.line scope (Takes before p) refl) (later less)

  taken_lost : (n : ℕ) (scope : Scope) (before ps : List RawParam) → Vars n [] (taken_phrases scope before ps) n
  taken_lost n scope before [] = no_vars k g raw other n
  taken_lost n scope before (p ∷ ps) = both_of [] [] (phrase p.line scope (Takes before p) ∷ []) _ (lost n p.line scope (Takes before p) refl) (taken_lost n scope (before ++ p ∷ []) ps)

  param_vars : {here there : ℕ} {mine yours : Option ℕ} (scope next : Scope) (p : RawParam) (name : Option Bytes) → yours ≡ option_map g mine → ParamFits k true scope p name → ScopesAgree k raw other here there mine yours scope next
      → Vars scope.variables (parameter_phrases other p name next) (parameter_phrases raw p name scope) (with_named raw p name scope).variables
  param_vars scope next p None own h c = no_vars k g raw other scope.variables
  param_vars scope next p (Some name) own h c =
      variable_stays k g raw other p.line scope next InHead InHead (parameter_of p name) (parameter_of p name) init.None init.None h.0 as_it_is (variable_same raw other texts.outside (parameter_of p name) init.None)
      (c.other_owner ∙ own ∙ ap (option_map g) (sym c.owner))

  param_unkept : (scope : Scope) (p : RawParam) (name : Option Bytes) → ParamFits k false scope p name → Vars scope.variables [] (parameter_phrases raw p name scope) (with_named raw p name scope).variables
  param_unkept scope p None h = no_vars k g raw other scope.variables
  param_unkept scope p (Some name) h = variable_goes k g raw other p.line scope InHead (parameter_of p name) init.None h

  params_vars : {here there : ℕ} {mine yours : Option ℕ} (x : Bytes) (n : ℕ) (ps : List RawParam) (scope next : Scope) → yours ≡ option_map g mine → ParamsFit k raw x n ps scope → ScopesAgree k raw other here there mine yours scope next
      → Vars scope.variables (head_phrases other (chosen_places (k.parameter x) n ps) next) (head_phrases raw ps scope) (with_parameters raw ps scope).variables
  params_vars x n [] scope next own h c = no_vars k g raw other scope.variables
  params_vars {here} {there} {mine} {yours} x n (p ∷ ps) scope next own h c =
      by_test (k.parameter x n) h.0 (λ place d. params_vars x (suc n) ps (with_parameter raw p scope) place own h.1 d)
    where
      by_test : (b : Bool) → ParamFits k b scope p p.name
          → ((place : Scope) → ScopesAgree k raw other here there mine yours (with_parameter raw p scope) place
          → Vars (with_parameter raw p scope).variables (head_phrases other (chosen_places (k.parameter x) (suc n) ps) place) (head_phrases raw ps (with_parameter raw p scope)) (with_parameters raw (p ∷ ps) scope).variables)
          → Vars scope.variables (head_phrases other (if b then p ∷ chosen_places (k.parameter x) (suc n) ps else chosen_places (k.parameter x) (suc n) ps) next) (head_phrases raw (p ∷ ps) scope) (with_parameters raw (p ∷ ps) scope).variables
      by_test true fits later =
          let w = param_walks k raw other texts p p.name fits c in
          both_of _ _ _ _ (param_vars scope next p p.name own fits c) (later (with_parameter other p next) w.1)
      by_test false fits later =
          both_of [] _ _ _ (param_unkept scope p p.name fits) (later next (param_lost_walk k raw other texts p p.name fits c))

  param_lost : (scope : Scope) (p : RawParam) (name : Option Bytes) → ParamGoes k scope name → Vars scope.variables [] (parameter_phrases raw p name scope) (with_named raw p name scope).variables
  param_lost scope p None h = no_vars k g raw other scope.variables
  param_lost scope p (Some name) h = variable_goes k g raw other p.line scope InHead (parameter_of p name) init.None h

  params_lost : (ps : List RawParam) (scope : Scope) → ParamsGo k raw ps scope → Vars scope.variables [] (head_phrases raw ps scope) (with_parameters raw ps scope).variables
  params_lost [] scope h = no_vars k g raw other scope.variables
  params_lost (p ∷ ps) scope h = both_of [] [] _ _ (param_lost scope p p.name h.0) (params_lost ps (with_parameter raw p scope) h.1)

  global_vars : {here there : ℕ} {mine yours : Option ℕ} {scope next : Scope} (l : ℕ) (v : RawVar) (i : RawInit) (is_static : Bool) → yours ≡ option_map g mine → k.variable scope.variables ≡ true → ScopesAgree k raw other here there mine yours scope next
      → Vars scope.variables (item_phrases other (Global l v i is_static) next) (item_phrases raw (Global l v i is_static) scope) (scope.variables + 1)
  global_vars {here} {there} {mine} {yours} {scope} {next} l v i is_static own is c =
      both_of (phrase l next (Declares (InFile is_static) v i) ∷ []) _ (phrase l scope (Declares (InFile is_static) v i) ∷ []) _
      (variable_stays k g raw other l scope next (InFile is_static) (InFile is_static) v v i i is as_it_is (variable_same raw other texts.outside v i) (c.other_owner ∙ own ∙ ap (option_map g) (sym c.owner)))
      (begun_stays k g raw other _ l _ _ (InFile is_static) (InFile is_static) v i)

  global_lost : (scope : Scope) (l : ℕ) (v : RawVar) (i : RawInit) (is_static : Bool) → k.variable scope.variables ≡ false → Vars scope.variables [] (item_phrases raw (Global l v i is_static) scope) (scope.variables + 1)
  global_lost scope l v i is_static is =
      both_of [] [] (phrase l scope (Declares (InFile is_static) v i) ∷ []) _ (variable_goes k g raw other l scope (InFile is_static) v i is) (begun_goes k g raw other _ l _ (InFile is_static) v i)

  prototype_vars : (scope next : Scope) (l : ℕ) (head : RawHead) → Vars scope.variables (item_phrases other (Prototype l (left head)) next) (item_phrases raw (Prototype l head) scope) (with_function head.name scope).variables
  prototype_vars scope next l head =
      ends (sym (function_variables head.name scope)) (both_of (phrase l next (DeclaresFunction (left head) false) ∷ []) _ (phrase l scope (DeclaresFunction head false) ∷ []) _
      (plain scope.variables l scope next (DeclaresFunction head false) (DeclaresFunction (left head) false) refl refl) (taken_vars (k.parameter head.name) 0 scope.variables scope next [] [] head.params))

  prototype_lost : (scope : Scope) (l : ℕ) (head : RawHead) → Vars scope.variables [] (item_phrases raw (Prototype l head) scope) (with_function head.name scope).variables
  prototype_lost scope l head =
      ends (sym (function_variables head.name scope)) (both_of [] [] (phrase l scope (DeclaresFunction head false) ∷ []) _ (lost scope.variables l scope (DeclaresFunction head false) refl) (taken_lost scope.variables scope [] head.params))

  define_vars : {here there : ℕ} {mine yours : Option ℕ} {scope next : Scope} (line : ℕ) (head : RawHead) (body some : List RawStatement) (rest more : List RawHead) → ScopesAgree k raw other here there mine yours scope next → there ≡ rank test here → k.function head.name ≡ true
      → (IsVariable (meaning_here scope head.name) → ⊥) → ParamsFit k raw head.name 0 head.params (scope_of_parameters head scope) → ThinAll k raw other (entered raw head scope) body some
      → drop here (defined_functions raw) ≡ head ∷ rest → drop there (defined_functions other) ≡ left head ∷ more
      → Vars scope.variables (item_phrases other (Define line (left head) some) next) (item_phrases raw (Define line head body) scope) (after_item raw (Define line head body) scope).variables
  define_vars {here} {there} {mine} {yours} {scope} {next} line head body some rest more c num is none stay d at_raw at_other =
      let less = left head in
      let e = enters k raw other texts c head rest more is none at_raw at_other in
      let p = params_walk k raw other texts head.name 0 head.params (scope_of_parameters head scope) (scope_of_parameters less next) stay e in
      let own : Some there ≡ option_map g (Some here) = ap Some num in
      let w = vars_all k raw other texts g (suc here) (suc there) (Some here) (Some there) own d (entered other less next) InBlock InBlock as_it_is p.after in
      both_of (phrase line next (DeclaresFunction less true) ∷ []) _ (phrase line scope (DeclaresFunction head true) ∷ []) _ (plain scope.variables line scope next (DeclaresFunction head true) (DeclaresFunction less true) refl refl)
      (starts (function_variables head.name scope)
      (both_of (head_phrases other less.params (scope_of_parameters less next)) _ (head_phrases raw head.params (scope_of_parameters head scope)) _ (params_vars head.name 0 head.params (scope_of_parameters head scope) (scope_of_parameters less next) own stay e)
      (both_of (body_phrases other some (entered other less next)) _ (body_phrases raw body (entered raw head scope)) _
      (subst (λ (qs : Phrases). Vars (entered raw head scope).variables qs (body_phrases raw body (entered raw head scope)) (after_body raw body (entered raw head scope)).variables) (sym (body_in_order other some (entered other less next)))
      (subst (λ (ps : Phrases). Vars (entered raw head scope).variables (joined_at InBlock (in_order (map (scoped other) some) (entered other less next))) ps (after_body raw body (entered raw head scope)).variables) (sym (body_in_order raw body (entered raw head scope)))
      (ends (ap (λ (z : Scope). z.variables) (sym (body_after raw body (entered raw head scope)))) w.vars)))
      (plain _ line scope next (EndsFunction head body) (EndsFunction less some) refl refl))))

  -- what nothing stays of with one numbering of functions, nothing stays of with another
  none_kept : (h : ℕ → ℕ) (n : ℕ) (vs : List Var) → Some [] ≡ Some (projected_vars k h n vs) → Some [] ≡ Some (projected_vars k g n vs)
  none_kept h n [] is = refl
  none_kept h n (v ∷ vs) is = by_test (k.variable n) (none_kept h (suc n) vs) is
    where
      by_test : (b : Bool) → (Some [] ≡ Some (projected_vars k h (suc n) vs) → Some [] ≡ Some (projected_vars k g (suc n) vs))
          → Some [] ≡ Some (if_so b (projected_var k h v ∷ projected_vars k h (suc n) vs) (projected_vars k h (suc n) vs)) → Some [] ≡ Some (if_so b (projected_var k g v ∷ projected_vars k g (suc n) vs) (projected_vars k g (suc n) vs))
      by_test true later is = no_cons (some_same is)
        where
          no_cons : {A : Type 0} {x : Var} {xs : List Var} → ◌≡◌ {A = List Var} [] (x ∷ xs) → A
          no_cons h = absurd (subst IsNil h tt)
      by_test false later is = later is

  other_numbering : {m n : ℕ} (h : ℕ → ℕ) (ps : Phrases) → VarsStay k h raw other m [] ps n → Vars m [] ps n
  other_numbering {m} h ps v = record { vars = λ vs at. none_kept h m vs (v.vars vs at); count = v.count }

  define_lost : {here there : ℕ} {mine yours : Option ℕ} {scope next : Scope} (line : ℕ) (head : RawHead) (body : List RawStatement) → ScopesAgree k raw other here there mine yours scope next → k.function head.name ≡ false
      → ParamsGo k raw head.params (scope_of_parameters head scope) → ThinAll k raw other (entered raw head scope) body []
      → Vars scope.variables [] (item_phrases raw (Define line head body) scope) (after_item raw (Define line head body) scope).variables
  define_lost {here} {there} {mine} {yours} {scope} {next} line head body c is gone d =
      let h = entered_alone k raw other texts c line head body is gone in
      let none = no_function k raw other texts c line head body in
      let w = vars_all k raw other texts (λ n. none) (suc here) there (Some here) (Some none) refl d (base k raw other texts c line head body) InBlock InBlock as_it_is h in
      both_of [] [] (phrase line scope (DeclaresFunction head true) ∷ []) _ (lost scope.variables line scope (DeclaresFunction head true) refl)
      (starts (function_variables head.name scope)
      (both_of [] [] (head_phrases raw head.params (scope_of_parameters head scope)) _ (params_lost head.params (scope_of_parameters head scope) gone)
      (both_of [] [] (body_phrases raw body (entered raw head scope)) _
      (subst (λ (ps : Phrases). Vars (entered raw head scope).variables [] ps (after_body raw body (entered raw head scope)).variables) (sym (body_in_order raw body (entered raw head scope)))
      (ends (ap (λ (z : Scope). z.variables) (sym (body_after raw body (entered raw head scope)))) (other_numbering (λ n. none) _ w.vars)))
      (lost _ line scope (EndsFunction head body) refl))))

  -- ---- going along

  define_item : {here there : ℕ} {mine yours : Option ℕ} {scope next : Scope} (h : RawHead) → ScopesAgree k raw other here there mine yours scope next → there ≡ rank test here → test here ≡ true
      → (z : Item) → Some (item.Define scope.functions) ≡ Some z → (u : Item) × (Some (item.Define next.functions) ≡ Some u) × (projected_item numbers z ≡ u ∷ [])
  define_item {here} {there} {mine} {yours} {scope} {next} h c num is z at = (
    item.Define next.functions,
    refl,
    ap (projected_item numbers) (sym (some_same at)) ∙ chosen _ [] (ap test c.functions ∙ is)
        ∙ ap (λ (n : ℕ). item.Define n ∷ []) (ap g c.functions ∙ sym num ∙ sym c.others),
  )

  pub stay : {scope : Scope} {xs ys : List RawItem} → ItemsThin k raw other scope xs ys → (here there : ℕ) (mine yours : Option ℕ) (next : Scope) → ScopesAgree k raw other here there mine yours scope next → there ≡ rank test here → yours ≡ option_map g mine
      → drop here (defined_functions raw) ≡ function_texts xs → drop there (defined_functions other) ≡ function_texts ys → AreKept raw (items_phrases raw xs scope) → all_true (map is_named xs) ≡ true → Stay here scope next xs ys
  stay {scope} ItemsThin.none here there mine yours next c num own at_raw at_other right names = record {
    items = λ zs at. ap (λ (all : List Item). Some (projected_items numbers all)) (some_same at);
    functions = λ zs at. ap (λ (all : List Function). Some (projected_functions numbers here all)) (some_same at);
    statements = c.statements;
    vars = no_vars k g raw other scope.variables;
  }
  stay (ItemsThin.include {is_stdlib} d) here there mine yours next c num own at_raw at_other right names =
      let r = stay d here there mine yours next c num own at_raw at_other right names in
      record { items = item_kept _ _ _ _ (λ z at. (item.Include is_stdlib, refl, ap (projected_item numbers) (sym (some_same at)))) r.items; functions = r.functions; statements = r.statements; vars = r.vars }
  stay {scope} (ItemsThin.tag {l} {w} {rest} d) here there mine yours next c num own at_raw at_other right names =
      let r = stay d here there mine yours next c num own at_raw at_other (kept_second raw (item_phrases raw (Tag l w) scope) (items_phrases raw rest scope) right) names in
      record { items = item_kept _ _ _ _ (tag_item w) r.items; functions = r.functions; statements = r.statements; vars = both_of (phrase l next (NamesStruct w) ∷ []) _ (phrase l scope (NamesStruct w) ∷ []) _ (plain scope.variables l scope next (NamesStruct w) (NamesStruct w) refl refl) r.vars }
  stay {scope} (ItemsThin.structure {l} {w} {members} {rest} fits d) here there mine yours next c num own at_raw at_other right names =
      let r = stay d here there mine yours (after_item other (Struct l w members) next) (structs_follow k raw other texts c) num own at_raw at_other (kept_second raw (item_phrases raw (Struct l w members) scope) _ right) names in
      record {
        items = item_kept _ _ _ _ (λ z at. (item.Struct next.structs, refl, ap (projected_item numbers) (sym (some_same at)) ∙ ap (λ (n : ℕ). item.Struct n ∷ []) (sym c.structs))) r.items;
        functions = r.functions;
        statements = r.statements;
        vars = both_of (item_phrases other (Struct l w members) next) _ (item_phrases raw (Struct l w members) scope) _ (both_of (phrase l next (DefinesStruct w) ∷ []) _ (phrase l scope (DefinesStruct w) ∷ []) _ (plain scope.variables l scope next (DefinesStruct w) (DefinesStruct w) refl refl) (members_vars scope.variables scope next [] members)) r.vars;
      }
  stay {scope} (ItemsThin.global {l} {v} {i} {is_static} {rest} is named_too begin d) here there mine yours next c num own at_raw at_other right names =
      let like = variable_same raw other texts.outside v i in
      let r = stay d here there mine yours (with_variable other v i next) (variable_kept k raw other v v i i is like.name like.type c) num own at_raw at_other (kept_second raw (item_phrases raw (Global l v i is_static) scope) _ right) names in
      record { items = item_kept _ _ _ _ (global_item v i is_static is begin c) r.items; functions = r.functions; statements = r.statements; vars = both_of (item_phrases other (Global l v i is_static) next) _ (item_phrases raw (Global l v i is_static) scope) _ (global_vars l v i is_static own is c) r.vars }
  stay {scope} (ItemsThin.global_goes {l} {v} {i} {is_static} is d) here there mine yours next c num own at_raw at_other right names =
      let r = stay d here there mine yours next (variable_gone k raw other v i is c) num own at_raw at_other (kept_second raw (item_phrases raw (Global l v i is_static) scope) _ right) names in
      record {
        items = item_gone _ _ _ (by_option (λ z. projected_item numbers z ≡ []) (item.Global scope.variables) (init_of raw (with_variable raw v i scope) i) (λ j at. unchosen _ [] is)) r.items;
        functions = r.functions;
        statements = r.statements;
        vars = both_of [] _ (item_phrases raw (Global l v i is_static) scope) _ (global_lost scope l v i is_static is) r.vars;
      }
  stay {scope} (ItemsThin.prototype {l} {head} is d) here there mine yours next c num own at_raw at_other right names =
      let r = stay d here there mine yours (with_function head.name next) (function_kept k raw other head.name is (no_variable_there k raw other texts result l scope head false _ right) c) num own at_raw at_other
      (kept_second raw (item_phrases raw (Prototype l head) scope) _ right) names in
      record { items = item_kept _ _ _ _ (prototype_item head is) r.items; functions = r.functions; statements = r.statements; vars = both_of (item_phrases other (Prototype l (left head)) next) _ (item_phrases raw (Prototype l head) scope) _ (prototype_vars scope next l head) r.vars }
  stay {scope} (ItemsThin.prototype_goes {l} {head} is d) here there mine yours next c num own at_raw at_other right names =
      let r = stay d here there mine yours next (function_gone k raw other head.name is c) num own at_raw at_other (kept_second raw (item_phrases raw (Prototype l head) scope) _ right) names in
      record { items = item_gone _ _ _ (prototype_gone head is) r.items; functions = r.functions; statements = r.statements; vars = both_of [] _ (item_phrases raw (Prototype l head) scope) _ (prototype_lost scope l head) r.vars }
  stay {scope} (ItemsThin.define {l} {head} {body} {some} {rest} {others} is params thin ends d) here there mine yours next c num own at_raw at_other right names =
      let less = left head in
      let both_names = and_parts (are_named head.params) (all_true (map is_named rest)) names in
      let none = no_variable_there k raw other texts result l scope head true _ right in
      let tests : test here ≡ true = fns.places here head (get_next here (defined_functions raw) head (function_texts rest) at_raw) ∙ is in
      let w = define_stands k raw other texts result l head body some (function_texts rest) (function_texts others) c is none params thin ends at_raw at_other in
      let r = stay d (suc here) (suc there) mine yours (after_item other (Define l less some) next) w.1 (ap suc num ∙ sym (ap (λ (b : Bool). if b then suc (rank test here) else rank test here) tests)) own
      (drop_next here (defined_functions raw) head (function_texts rest) at_raw) (drop_next there (defined_functions other) less (function_texts others) at_other) (kept_second raw (item_phrases raw (Define l head body) scope) _ right) both_names.1 in
      record {
        items = item_kept _ _ _ _ (define_item head c num tests) r.items;
        functions = functions_kept here _ _ _ _ tests (function_stays l head body some (function_texts rest) (function_texts others) both_names.0 c is none params thin at_raw at_other) r.functions;
        statements = r.statements;
        vars = both_of (item_phrases other (Define l less some) next) _ (item_phrases raw (Define l head body) scope) _ (define_vars l head body some (function_texts rest) (function_texts others) c num is none params thin at_raw at_other) r.vars;
      }
  stay {scope} (ItemsThin.define_goes {l} {head} {body} {rest} is gone thin d) here there mine yours next c num own at_raw at_other right names =
      let tests : test here ≡ false = fns.places here head (get_next here (defined_functions raw) head (function_texts rest) at_raw) ∙ is in
      let r = stay d (suc here) there mine yours next (leaves k raw other texts c l head body is gone thin) (num ∙ sym (ap (λ (b : Bool). if b then suc (rank test here) else rank test here) tests)) own
      (drop_next here (defined_functions raw) head (function_texts rest) at_raw) at_other (kept_second raw (item_phrases raw (Define l head body) scope) _ right) (and_parts (are_named head.params) (all_true (map is_named rest)) names).1 in
      record {
        items = item_gone _ _ _ (λ z at. ap (projected_item numbers) (sym (some_same at)) ∙ unchosen _ [] (ap test c.functions ∙ tests)) r.items;
        functions = functions_gone here _ _ _ tests r.functions;
        statements = r.statements;
        vars = both_of [] _ (item_phrases raw (Define l head body) scope) _ (define_lost l head body c is gone thin) r.vars;
      }
