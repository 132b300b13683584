-- Going along the items of a text and of a thinner one.
use Rattle.std.proofs.Common.{◌≡◌, ◌<◌, ℕ, zero, suc, ◌+◌, List, [], ◌∷◌, ◌++◌, length, take, drop, map, Bool, true, false, ◌||◌, Option, Some, None, refl, sym, ap, subst, ◌∙◌, arith, inl, inr, slice_get}
use Rattle.std.specs.Prelude.{Contains, option_map, option_and_then, if◌then◌else◌, bytes_eq}
use Rattle.std.specs.List.{find, list_any}
use Rattle.std.proofs.lemmas.List.Elements.{Contains-append_cases, Contains-append_left, Contains-append_right}
use Rattle.c_tree.specs.declared.raw.program.RawInit.TheVariants as init
use Rattle.c_tree.specs.declared.raw.program.RawMember.{RawMember}
use Rattle.c_tree.specs.declared.raw.program.RawParam.{RawParam}
use Rattle.c_tree.specs.declared.raw.program.RawHead.{RawHead}
use Rattle.c_tree.specs.declared.raw.program.RawItem.{RawItem}
use Rattle.c_tree.specs.declared.raw.program.RawItem.TheVariants.{Include, Struct, Global, Prototype, Define}
use Rattle.c_tree.specs.declared.raw.program.RawProgram.{RawProgram}
use Rattle.c_tree.specs.declared.raw.statement.RawStatement.{RawStatement}
use Rattle.c_language.specs.Words.{Bytes}
use Rattle.c_language.specs.DeclaredTypes.{StructText, struct_texts, function_texts, defined_functions, definition_of, is_include}
use Rattle.c_language.specs.Scopes.{Scope, outset, meaning_here, with_variable, with_function, with_parameter, with_parameters, with_named, parameter_of, scope_of_parameters, entered, opened, closed, in_order, after_all}
use Rattle.c_language.specs.Phrases.{InFile, InHead, InBlock, Part, NamesStruct, DefinesStruct, HasMember, DeclaresFunction, Takes, EndsFunction, Declares, Phrases, phrase, begun_phrases, joined_at, scoped, body_phrases, after_body, member_phrases, taken_phrases, parameter_phrases, head_phrases, item_phrases, after_item, items_phrases, phrases}
use Rattle.c_language.specs.Uses.{holds}
use Rattle.c_language.specs.Rules.{Breaks, IsBroken, KeepsRules, AreKept}
use Rattle.c_language.specs.NameRules.{main_name, IsDefinedBefore, DeclaresAgain}
use Rattle.c_language.proofs.Tests.{false_true}
use Rattle.c_language.proofs.Options.{none_there, some_same, unmapped}
use Rattle.c_language.proofs.Lists.{contains_first, contains_later, same_bytes, no_list}
use Rattle.c_language.proofs.PhraseLists.{body_in_order, body_after, kept_second, kept_from}
use Rattle.c_scope_laws.specs.Agreement.{Names, NamesFunction, IsVariable, head_left, StandsInLeft, EndsToo, has_no_head, PartsAgree}
use Rattle.c_scope_laws.specs.Agreement.StandsFor.{there as as_it_is}
use Rattle.projection.specs.Kept.{Kept, chosen}
use Rattle.c_scope_laws.specs.Thinning.{heads_of, NamesStay, ThinAll}
use Rattle.c_scope_laws.specs.ThinTexts.{ParamFits, ParamsFit, ParamGoes, ParamsGo, MembersStay, ItemsThin, IsThinner}
use Rattle.c_scope_laws.proofs.Outside.{variable_same}
use Rattle.c_scope_laws.specs.Following.{TextsAgree, ScopesAgree}
use Rattle.c_scope_laws.proofs.Following.{follows_opened, follows_closed, variable_kept, variable_gone, function_kept, function_gone, places_agree}
use Rattle.c_scope_laws.proofs.Counterparts.{AreCounterparts, none_stand, one_stands, both_stand, front_gone, counterpart_breaks}
use Rattle.c_scope_laws.proofs.Walking.{all_walk, same_stands, begun_stand_as_it_is}

-- ---- lists of definitions

pub next_place : (n : ℕ) → n + 1 ≡ suc n
next_place n = omega arith

abbrev front : {A : Type 0} → A → List A → A
front d [] = d
front d (x ∷ xs) = x

abbrev behind : {A : Type 0} → List A → List A
behind [] = []
behind (x ∷ xs) = xs

module _ {A : Type 0} where
  pub drop_next : (n : ℕ) (xs : List A) (h : A) (t : List A) → drop n xs ≡ h ∷ t → drop (suc n) xs ≡ t
  drop_next zero [] h t is = no_list (sym is)
  drop_next zero (x ∷ xs) h t is = ap behind is
  drop_next (suc n) [] h t is = no_list (sym is)
  drop_next (suc n) (x ∷ xs) h t is = drop_next n xs h t is

  take_next : (n : ℕ) (xs : List A) (h : A) (t : List A) → drop n xs ≡ h ∷ t → take (suc n) xs ≡ take n xs ++ (h ∷ [])
  take_next zero [] h t is = no_list (sym is)
  take_next zero (x ∷ xs) h t is = ap (λ (y : A). y ∷ []) (ap (front h) is)
  take_next (suc n) [] h t is = no_list (sym is)
  take_next (suc n) (x ∷ xs) h t is = ap (λ (all : List A). x ∷ all) (take_next n xs h t is)

  pub get_next : (n : ℕ) (xs : List A) (h : A) (t : List A) → drop n xs ≡ h ∷ t → slice_get xs n ≡ Some h
  get_next zero [] h t is = no_list (sym is)
  get_next zero (x ∷ xs) h t is = ap Some (ap (front h) is)
  get_next (suc n) [] h t is = no_list (sym is)
  get_next (suc n) (x ∷ xs) h t is = get_next n xs h t is

  get_past : (xs : List A) → slice_get xs (length xs) ≡ None
  get_past [] = refl
  get_past (x ∷ xs) = get_past xs

  in_next : (n : ℕ) (xs : List A) (x : A) → Contains (take n xs) x → Contains (take (suc n) xs) x
  in_next zero [] x c = c
  in_next zero (y ∷ ys) x (i, within, is) = absurd (omega (arith, within))
  in_next (suc n) [] x c = c
  in_next (suc n) (y ∷ ys) x (zero, within, is) = (0, omega arith, is)
  in_next (suc n) (y ∷ ys) x (suc i, within, is) = contains_later y x (take (suc n) ys) (in_next n ys x (i, omega (arith, within), is))

-- ---- texts

module _ (k : Kept Bytes) (raw other : RawProgram) where
  structs_same : {scope : Scope} {xs ys : List RawItem} → ItemsThin k raw other scope xs ys → struct_texts ys ≡ struct_texts xs
  structs_same ItemsThin.none = refl
  structs_same (ItemsThin.include d) = structs_same d
  structs_same (ItemsThin.tag d) = structs_same d
  structs_same (ItemsThin.structure {w} {members} stay d) = ap (λ (all : List StructText). record { tag = w; members = members } ∷ all) (structs_same d)
  structs_same (ItemsThin.global is stay begin d) = structs_same d
  structs_same (ItemsThin.global_goes is d) = structs_same d
  structs_same (ItemsThin.prototype is d) = structs_same d
  structs_same (ItemsThin.prototype_goes is d) = structs_same d
  structs_same (ItemsThin.define is ps body ends d) = structs_same d
  structs_same (ItemsThin.define_goes is ps body d) = structs_same d

  stdio_same : {scope : Scope} {xs ys : List RawItem} → ItemsThin k raw other scope xs ys → list_any (is_include false) ys ≡ list_any (is_include false) xs
  stdio_same ItemsThin.none = refl
  stdio_same (ItemsThin.include {is_stdlib} d) = ap (λ (b : Bool). is_include false (Include is_stdlib) || b) (stdio_same d)
  stdio_same (ItemsThin.tag d) = stdio_same d
  stdio_same (ItemsThin.structure stay d) = stdio_same d
  stdio_same (ItemsThin.global is stay begin d) = stdio_same d
  stdio_same (ItemsThin.global_goes is d) = stdio_same d
  stdio_same (ItemsThin.prototype is d) = stdio_same d
  stdio_same (ItemsThin.prototype_goes is d) = stdio_same d
  stdio_same (ItemsThin.define is ps body ends d) = stdio_same d
  stdio_same (ItemsThin.define_goes is ps body d) = stdio_same d

  stdlib_same : {scope : Scope} {xs ys : List RawItem} → ItemsThin k raw other scope xs ys → list_any (is_include true) ys ≡ list_any (is_include true) xs
  stdlib_same ItemsThin.none = refl
  stdlib_same (ItemsThin.include {is_stdlib} d) = ap (λ (b : Bool). is_include true (Include is_stdlib) || b) (stdlib_same d)
  stdlib_same (ItemsThin.tag d) = stdlib_same d
  stdlib_same (ItemsThin.structure stay d) = stdlib_same d
  stdlib_same (ItemsThin.global is stay begin d) = stdlib_same d
  stdlib_same (ItemsThin.global_goes is d) = stdlib_same d
  stdlib_same (ItemsThin.prototype is d) = stdlib_same d
  stdlib_same (ItemsThin.prototype_goes is d) = stdlib_same d
  stdlib_same (ItemsThin.define is ps body ends d) = stdlib_same d
  stdlib_same (ItemsThin.define_goes is ps body d) = stdlib_same d

  abbrev head_of : Bytes → List RawHead → Option RawHead
  head_of x heads = find (λ (h : RawHead). bytes_eq h.name x) heads

  abbrev left : RawHead → RawHead
  left = head_left (heads_of k)

  definitions_same : {scope : Scope} {xs ys : List RawItem} (x : Bytes) → k.function x ≡ true → ItemsThin k raw other scope xs ys → head_of x (function_texts ys) ≡ option_map left (head_of x (function_texts xs))
  definitions_same x stays ItemsThin.none = refl
  definitions_same x stays (ItemsThin.include d) = definitions_same x stays d
  definitions_same x stays (ItemsThin.tag d) = definitions_same x stays d
  definitions_same x stays (ItemsThin.structure stay d) = definitions_same x stays d
  definitions_same x stays (ItemsThin.global is stay begin d) = definitions_same x stays d
  definitions_same x stays (ItemsThin.global_goes is d) = definitions_same x stays d
  definitions_same x stays (ItemsThin.prototype is d) = definitions_same x stays d
  definitions_same x stays (ItemsThin.prototype_goes is d) = definitions_same x stays d
  definitions_same x stays (ItemsThin.define {head} {rest} is ps body ends d) =
      ap (λ (o : Option RawHead). if bytes_eq head.name x then Some (left head) else o) (definitions_same x stays d) ∙ by_name (bytes_eq head.name x)
    where
      by_name : (b : Bool) → (if b then Some (left head) else option_map left (head_of x (function_texts rest))) ≡ option_map left (if b then Some head else head_of x (function_texts rest))
      by_name true = refl
      by_name false = refl
  definitions_same x stays (ItemsThin.define_goes {head} {rest} is ps body d) = definitions_same x stays d ∙ by_name (bytes_eq head.name x) refl
    where
      by_name : (b : Bool) → bytes_eq head.name x ≡ b → option_map left (head_of x (function_texts rest)) ≡ option_map left (if b then Some head else head_of x (function_texts rest))
      by_name true same = false_true (sym is ∙ ap k.function (same_bytes head.name x same) ∙ stays)
      by_name false differs = refl

  pub texts_agree : ItemsThin k raw other outset raw.items other.items → TextsAgree k raw other
  texts_agree d = record {
    outside = record { structs = structs_same d; stdio = stdio_same d; stdlib = stdlib_same d };
    definitions = λ x stays. definitions_same x stays d;
  }

module _ (k : Kept Bytes) (raw other : RawProgram) (texts : TextsAgree k raw other) where
  -- ---- phrases of items

  -- a phrase that holds no expression, calls nothing and declares no function names nothing
  nothing_named : {scope : Scope} (part : Part) → ((x : Bytes) → Names part x → ⊥) → ((x : Bytes) → NamesFunction part x → ⊥) → NamesStay k scope part
  nothing_named part a b = record { names = λ x n. absurd (a x n); functions = λ x n. absurd (b x n) }

  head_stays : {scope : Scope} (head : RawHead) (is_definition : Bool) → k.function head.name ≡ true → NamesStay k scope (DeclaresFunction head is_definition)
  head_stays {scope} head is_definition is = record { names = λ x n. absurd (no_name x n); functions = functions }
    where
      no_name : (x : Bytes) → Names (DeclaresFunction head is_definition) x → ⊥
      no_name x (Names.in_expression (holds (i, within, same) w)) = absurd (omega (arith, within))

      functions : (x : Bytes) → NamesFunction (DeclaresFunction head is_definition) x → k.function x ≡ true
      functions x NamesFunction.declared = is

  tag_stays : {scope : Scope} (w : Bytes) → NamesStay k scope (NamesStruct w)
  tag_stays w = nothing_named (NamesStruct w) no_name (λ x n. elim n [ ])
    where
      no_name : (x : Bytes) → Names (NamesStruct w) x → ⊥
      no_name x (Names.in_expression (holds (i, within, same) h)) = absurd (omega (arith, within))

  struct_stays : {scope : Scope} (w : Bytes) → NamesStay k scope (DefinesStruct w)
  struct_stays w = nothing_named (DefinesStruct w) no_name (λ x n. elim n [ ])
    where
      no_name : (x : Bytes) → Names (DefinesStruct w) x → ⊥
      no_name x (Names.in_expression (holds (i, within, same) h)) = absurd (omega (arith, within))

  taken_stays : {scope : Scope} (before : List RawParam) (p : RawParam) → NamesStay k scope (Takes before p)
  taken_stays before p = nothing_named (Takes before p) no_name (λ x n. elim n [ ])
    where
      no_name : (x : Bytes) → Names (Takes before p) x → ⊥
      no_name x (Names.in_expression (holds (i, within, same) h)) = absurd (omega (arith, within))

  end_stays : {scope : Scope} (head : RawHead) (body : List RawStatement) → NamesStay k scope (EndsFunction head body)
  end_stays head body = nothing_named (EndsFunction head body) no_name (λ x n. elim n [ ])
    where
      no_name : (x : Bytes) → Names (EndsFunction head body) x → ⊥
      no_name x (Names.in_expression (holds (i, within, same) h)) = absurd (omega (arith, within))

  module _ {here there : ℕ} {mine yours : Option ℕ} {scope next : Scope} (f : ScopesAgree k raw other here there mine yours scope next) where
    stands : (l : ℕ) (part : Part) → has_no_head part ≡ true → NamesStay k scope part → AreCounterparts k raw other (phrase l next part ∷ []) (phrase l scope part ∷ [])
    stands l part is stay = same_stands k raw other texts here there mine yours l part is stay f

    -- what stays of a head stands for the head
    head_stands : (l : ℕ) (head : RawHead) (is_definition : Bool) → k.gives main_name ≡ true → k.function head.name ≡ true
        → AreCounterparts k raw other (phrase l next (DeclaresFunction (head_left (heads_of k) head) is_definition) ∷ []) (phrase l scope (DeclaresFunction head is_definition) ∷ [])
    head_stands l head is_definition result is =
        one_stands k raw other l l scope next (DeclaresFunction head is_definition) (DeclaresFunction (head_left (heads_of k) head) is_definition)
        (PartsAgree.declares_function refl (λ name. ap k.gives name ∙ result)) (places_agree k raw other texts f (head_stays (head_left (heads_of k) head) is_definition is))

    members_stand : (before ms : List RawMember) → MembersStay k scope ms → AreCounterparts k raw other (member_phrases next before ms) (member_phrases scope before ms)
    members_stand before [] stay = none_stand k raw other []
    members_stand before (m ∷ ms) stay =
        both_stand k raw other (phrase m.line next (HasMember before m) ∷ []) (member_phrases next (before ++ m ∷ []) ms) (phrase m.line scope (HasMember before m) ∷ []) (member_phrases scope (before ++ m ∷ []) ms)
        (stands m.line (HasMember before m) refl (stay before m (contains_first m ms))) (members_stand (before ++ m ∷ []) ms (λ b x c. stay b x (contains_later m x ms c)))

    -- the parameters of a prototype that stay
    taken_stand : (test : ℕ → Bool) (n : ℕ) (before less ps : List RawParam) → ((q : RawParam) → Contains less q → Contains before q)
        → AreCounterparts k raw other (taken_phrases next less (chosen test n ps)) (taken_phrases scope before ps)
    taken_stand test n before less [] within = none_stand k raw other []
    taken_stand test n before less (p ∷ ps) within =
        by_test (test n) (λ more h. taken_stand test (suc n) (before ++ p ∷ []) more ps h)
      where
        grown : (q : RawParam) → Contains less q → Contains (before ++ p ∷ []) q
        grown q c = Contains-append_left before (p ∷ []) q (within q c)

        both_grown : (q : RawParam) → Contains (less ++ p ∷ []) q → Contains (before ++ p ∷ []) q
        both_grown q c = elim (Contains-append_cases less (p ∷ []) q c) [
          | inl c ↦ grown q c
          | inr c ↦ Contains-append_right before (p ∷ []) q c
        ]

        by_test : (b : Bool)
            → ((more : List RawParam) → ((q : RawParam) → Contains more q → Contains (before ++ p ∷ []) q) → AreCounterparts k raw other (taken_phrases next more (chosen test (suc n) ps)) (taken_phrases scope (before ++ p ∷ []) ps))
            → AreCounterparts k raw other (taken_phrases next less (if b then p ∷ chosen test (suc n) ps else chosen test (suc n) ps)) (taken_phrases scope before (p ∷ ps))
        by_test true later =
            both_stand k raw other (phrase p.line next (Takes less p) ∷ []) (taken_phrases next (less ++ p ∷ []) (chosen test (suc n) ps)) (phrase p.line scope (Takes before p) ∷ []) (taken_phrases scope (before ++ p ∷ []) ps)
            (one_stands k raw other p.line p.line scope next (Takes before p) (Takes less p) (PartsAgree.takes within) (places_agree k raw other texts f (taken_stays less p))) (later (less ++ p ∷ []) both_grown)
        by_test false later = front_gone k raw other (taken_phrases next less (chosen test (suc n) ps)) (phrase p.line scope (Takes before p) ∷ []) (taken_phrases scope (before ++ p ∷ []) ps) (later less grown)

    -- with more struct types that are complete
    pub structs_follow : ScopesAgree k raw other here there mine yours (record scope { structs = scope.structs + 1 }) (record next { structs = next.structs + 1 })
    structs_follow = record {
      names = f.names;
      within = f.within;
      outer = f.outer;
      variables = f.variables;
      statements = f.statements;
      before = f.before;
      around = f.around;
      functions = f.functions;
      others = f.others;
      structs = ap (λ (n : ℕ). n + 1) f.structs;
      owner = f.owner;
      other_owner = f.other_owner;
    }

    -- in another function
    placed : (o q : Option ℕ) (a b : ℕ) → ((x : Bytes) → IsDefinedBefore other (record next { owner = q; functions = b }) x → IsDefinedBefore raw (record scope { owner = o; functions = a }) x)
        → ((h : RawHead) → option_and_then (slice_get (defined_functions other)) q ≡ Some h → StandsInLeft (heads_of k) (option_and_then (slice_get (defined_functions raw)) o) h)
        → ScopesAgree k raw other a b o q (record scope { owner = o; functions = a }) (record next { owner = q; functions = b })
    placed o q a b before around = record {
      names = f.names;
      within = f.within;
      outer = f.outer;
      structs = f.structs;
      variables = f.variables;
      statements = f.statements;
      functions = refl;
      others = refl;
      before = before;
      around = around;
      owner = refl;
      other_owner = refl;
    }

  -- ---- parameters

  pub record ParamsWalk (here there : ℕ) (mine yours : Option ℕ) (scope next : Scope) (ps qs : List RawParam) : Type 0 where
    pub phrases : AreCounterparts k raw other (head_phrases other qs next) (head_phrases raw ps scope)
    pub after : ScopesAgree k raw other here there mine yours (with_parameters raw ps scope) (with_parameters other qs next)

  pub param_walks : {here there : ℕ} {mine yours : Option ℕ} {scope next : Scope} (p : RawParam) (name : Option Bytes) → ParamFits k true scope p name → ScopesAgree k raw other here there mine yours scope next
      → AreCounterparts k raw other (parameter_phrases other p name next) (parameter_phrases raw p name scope) × ScopesAgree k raw other here there mine yours (with_named raw p name scope) (with_named other p name next)
  param_walks p None h f = (none_stand k raw other [], f)
  param_walks {scope} {next} p (Some name) h f = (
    stands f p.line (Declares InHead (parameter_of p name) init.None) refl h.1,
    variable_kept k raw other (parameter_of p name) (parameter_of p name) init.None init.None h.0 refl (variable_same raw other texts.outside (parameter_of p name) init.None).type f,
  )

  pub param_lost : {here there : ℕ} {mine yours : Option ℕ} {scope next : Scope} (p : RawParam) (name : Option Bytes) → ParamFits k false scope p name → ScopesAgree k raw other here there mine yours scope next
      → ScopesAgree k raw other here there mine yours (with_named raw p name scope) next
  param_lost p None h f = f
  param_lost p (Some name) h f = variable_gone k raw other (parameter_of p name) init.None h f

  -- the parameters of a definition that stay
  pub params_walk : {here there : ℕ} {mine yours : Option ℕ} (x : Bytes) (n : ℕ) (ps : List RawParam) (scope next : Scope) → ParamsFit k raw x n ps scope → ScopesAgree k raw other here there mine yours scope next
      → ParamsWalk here there mine yours scope next ps (chosen (k.parameter x) n ps)
  params_walk x n [] scope next h f = record { phrases = none_stand k raw other []; after = f }
  params_walk {here} {there} {mine} {yours} x n (p ∷ ps) scope next h f =
      by_test (k.parameter x n) h.0 (λ place g. params_walk x (suc n) ps (with_parameter raw p scope) place h.1 g)
    where
      by_test : (b : Bool) → ParamFits k b scope p p.name
          → ((place : Scope) → ScopesAgree k raw other here there mine yours (with_parameter raw p scope) place → ParamsWalk here there mine yours (with_parameter raw p scope) place ps (chosen (k.parameter x) (suc n) ps))
          → ParamsWalk here there mine yours scope next (p ∷ ps) (if b then p ∷ chosen (k.parameter x) (suc n) ps else chosen (k.parameter x) (suc n) ps)
      by_test true fits later =
          let w = param_walks p p.name fits f in
          let v = later (with_parameter other p next) w.1 in
          record { phrases = both_stand k raw other _ _ _ _ w.0 v.phrases; after = v.after }
      by_test false fits later =
          let v = later next (param_lost p p.name fits f) in
          record { phrases = front_gone k raw other _ (parameter_phrases raw p p.name scope) _ v.phrases; after = v.after }

  param_gone : {here there : ℕ} {mine yours : Option ℕ} {scope next : Scope} (p : RawParam) (name : Option Bytes) → ParamGoes k scope name → ScopesAgree k raw other here there mine yours scope next → ScopesAgree k raw other here there mine yours (with_named raw p name scope) next
  param_gone p None h f = f
  param_gone p (Some name) h f = variable_gone k raw other (parameter_of p name) init.None h f

  pub params_gone : {here there : ℕ} {mine yours : Option ℕ} (ps : List RawParam) (scope next : Scope) → ParamsGo k raw ps scope → ScopesAgree k raw other here there mine yours scope next → ScopesAgree k raw other here there mine yours (with_parameters raw ps scope) next
  params_gone [] scope next h f = f
  params_gone (p ∷ ps) scope next h f = params_gone ps (with_parameter raw p scope) next h.1 (param_gone p p.name h.0 f)

  -- ---- functions

  module _ {here there : ℕ} {mine yours : Option ℕ} {scope next : Scope} (f : ScopesAgree k raw other here there mine yours scope next) (head : RawHead) where
    -- where the functions that are still to come begin with one that stays, its parameters begin at both places
    pub enters : (rest more : List RawHead) → k.function head.name ≡ true → (IsVariable (meaning_here scope head.name) → ⊥)
        → drop here (defined_functions raw) ≡ head ∷ rest → drop there (defined_functions other) ≡ head_left (heads_of k) head ∷ more
        → ScopesAgree k raw other (suc here) (suc there) (Some here) (Some there) (scope_of_parameters head scope) (scope_of_parameters (head_left (heads_of k) head) next)
    enters rest more is none at_raw at_other =
        let g = follows_opened k raw other (function_kept k raw other head.name is none f) in
        recounted (placed g (Some scope.functions) (Some next.functions) (scope.functions + 1) (next.functions + 1) before
        (λ h at. (
          head,
          ap (slice_get (defined_functions raw)) f.functions ∙ get_next here (defined_functions raw) head rest at_raw,
          some_same (sym at ∙ ap (slice_get (defined_functions other)) f.others ∙ get_next there (defined_functions other) (head_left (heads_of k) head) more at_other),
        )))
        (ap (λ (n : ℕ). n + 1) f.functions ∙ next_place here) (ap (λ (n : ℕ). n + 1) f.others ∙ next_place there) (ap Some f.functions) (ap Some f.others)
      where
        recounted : {a b c d : ℕ} {o q u v : Option ℕ} {x y : Scope} → ScopesAgree k raw other a b o q x y → a ≡ c → b ≡ d → o ≡ u → q ≡ v → ScopesAgree k raw other c d u v x y
        recounted {a} {b} {c} {d} {o} {q} {u} {v} {x} {y} g p r t w =
            subst (λ (m : Option ℕ). ScopesAgree k raw other c d u m x y) w (subst (λ (m : Option ℕ). ScopesAgree k raw other c d m q x y) t
            (subst (λ (m : ℕ). ScopesAgree k raw other c m o q x y) r (subst (λ (m : ℕ). ScopesAgree k raw other m b o q x y) p g)))

        -- the functions that are defined once this one is
        all_other : take (next.functions + 1) (defined_functions other) ≡ take there (defined_functions other) ++ (head_left (heads_of k) head ∷ [])
        all_other = ap (λ (n : ℕ). take n (defined_functions other)) (ap (λ (n : ℕ). n + 1) f.others ∙ next_place there) ∙ take_next there (defined_functions other) (head_left (heads_of k) head) more at_other

        all_raw : take (scope.functions + 1) (defined_functions raw) ≡ take here (defined_functions raw) ++ (head ∷ [])
        all_raw = ap (λ (n : ℕ). take n (defined_functions raw)) (ap (λ (n : ℕ). n + 1) f.functions ∙ next_place here) ∙ take_next here (defined_functions raw) head rest at_raw

        from_before : (x : Bytes) (h : RawHead) → h.name ≡ x → Contains (take there (defined_functions other)) h → (g : RawHead) × Contains (take (scope.functions + 1) (defined_functions raw)) g × (g.name ≡ x)
        from_before x h name c =
            let earlier = f.before x (h, subst (λ (n : ℕ). Contains (take n (defined_functions other)) h) (sym f.others) c, name) in (
              earlier.0,
              subst (λ (all : List RawHead). Contains all earlier.0) (sym all_raw) (Contains-append_left (take here (defined_functions raw)) (head ∷ []) earlier.0
                  (subst (λ (n : ℕ). Contains (take n (defined_functions raw)) earlier.0) f.functions earlier.1)),
              earlier.2,
            )

        from_here : (x : Bytes) (h : RawHead) → h.name ≡ x → Contains (head_left (heads_of k) head ∷ []) h → (g : RawHead) × Contains (take (scope.functions + 1) (defined_functions raw)) g × (g.name ≡ x)
        from_here x h name (zero, within, is) = (
          head,
          subst (λ (all : List RawHead). Contains all head) (sym all_raw) (Contains-append_right (take here (defined_functions raw)) (head ∷ []) head (contains_first head [])),
          ap (λ (g : RawHead). g.name) is ∙ name,
        )
        from_here x h name (suc i, within, is) = absurd (omega (arith, within))

        before : (x : Bytes) → (h : RawHead) × Contains (take (next.functions + 1) (defined_functions other)) h × (h.name ≡ x)
            → (h : RawHead) × Contains (take (scope.functions + 1) (defined_functions raw)) h × (h.name ≡ x)
        before x h = elim (Contains-append_cases (take there (defined_functions other)) (head_left (heads_of k) head ∷ []) h.0 (subst (λ (all : List RawHead). Contains all h.0) all_other h.1)) [
          | inl c ↦ from_before x h.0 h.2 c
          | inr c ↦ from_here x h.0 h.2 c
        ]

-- ---- functions of which nothing stays

module _ (k : Kept Bytes) (raw other : RawProgram) (texts : TextsAgree k raw other) {here there : ℕ} {mine yours : Option ℕ} {scope next : Scope} (f : ScopesAgree k raw other here there mine yours scope next) (line : ℕ) (head : RawHead) (body : List RawStatement) where
  -- a number that no function of the other text has
  abbrev pub no_function : ℕ
  no_function = length (defined_functions other)

  -- the place of the other text, in no function
  abbrev pub base : Scope
  base = record (opened next) { owner = Some no_function }

  pub entered_alone : k.function head.name ≡ false → ParamsGo k raw head.params (scope_of_parameters head scope)
      → ScopesAgree k raw other (suc here) there (Some here) (Some no_function) (entered raw head scope) base
  entered_alone is gone =
      params_gone k raw other texts head.params (scope_of_parameters head scope) base gone (record {
        names = og.names;
        within = og.within;
        outer = og.outer;
        structs = og.structs;
        variables = og.variables;
        statements = og.statements;
        before = λ x h. later x (f.before x h);
        around = λ h at. none_there (sym (get_past (defined_functions other)) ∙ at);
        functions = ap (λ (n : ℕ). n + 1) f.functions ∙ next_place here;
        others = f.others;
        owner = ap Some f.functions;
        other_owner = refl;
      })
    where
      og : ScopesAgree k raw other here there mine yours (opened (with_function head.name scope)) (opened next)
      og = follows_opened k raw other (function_gone k raw other head.name is f)

      later : (x : Bytes) → IsDefinedBefore raw scope x → IsDefinedBefore raw (scope_of_parameters head scope) x
      later x h = (h.0, subst (λ (n : ℕ). Contains (take n (defined_functions raw)) h.0) (sym (next_place scope.functions)) (in_next scope.functions (defined_functions raw) h.0 h.1), h.2)

  -- after the function
  pub leaves : k.function head.name ≡ false → ParamsGo k raw head.params (scope_of_parameters head scope) → ThinAll k raw other (entered raw head scope) body []
      → ScopesAgree k raw other (suc here) there mine yours (after_item raw (Define line head body) scope) next
  leaves is gone d = record {
    names = g.names;
    within = g.within;
    outer = g.outer;
    around = g.around;
    others = g.others;
    owner = g.owner;
    other_owner = g.other_owner;
    structs = inside.structs;
    variables = inside.variables;
    statements = inside.statements;
    functions = inside.functions;
    before = inside.before;
  }
    where
      g : ScopesAgree k raw other here there mine yours (with_function head.name scope) next
      g = function_gone k raw other head.name is f

      inside : ScopesAgree k raw other (suc here) there (Some here) (Some no_function) (after_body raw body (entered raw head scope)) base
      inside =
          let w = all_walk k raw other texts (suc here) there (Some here) (Some no_function) d base InBlock InBlock as_it_is (entered_alone is gone) in
          subst (λ (z : Scope). ScopesAgree k raw other (suc here) there (Some here) (Some no_function) z base) (sym (body_after raw body (entered raw head scope))) w.after

-- ---- the walk

module _ (k : Kept Bytes) (raw other : RawProgram) (texts : TextsAgree k raw other) (result : k.gives main_name ≡ true) where
  pub no_variable_there : (line : ℕ) (scope : Scope) (head : RawHead) (is_definition : Bool) (rest : Phrases) → AreKept raw (phrase line scope (DeclaresFunction head is_definition) ∷ rest) → IsVariable (meaning_here scope head.name) → ⊥
  no_variable_there line scope head is_definition rest right v =
      right.0 2 (Breaks.declared_again (DeclaresAgain.function v.2))

  abbrev Walk : (scope next : Scope) (xs ys : List RawItem) → Type 0
  Walk scope next xs ys = AreCounterparts k raw other (items_phrases other ys next) (items_phrases raw xs scope)

  pub define_stands : {here there : ℕ} {mine yours : Option ℕ} {scope next : Scope} (line : ℕ) (head : RawHead) (body some : List RawStatement) (rest more : List RawHead) → ScopesAgree k raw other here there mine yours scope next → k.function head.name ≡ true
      → (IsVariable (meaning_here scope head.name) → ⊥) → ParamsFit k raw head.name 0 head.params (scope_of_parameters head scope) → ThinAll k raw other (entered raw head scope) body some → EndsToo (heads_of k) head body some
      → drop here (defined_functions raw) ≡ head ∷ rest → drop there (defined_functions other) ≡ head_left (heads_of k) head ∷ more
      → AreCounterparts k raw other (item_phrases other (Define line (head_left (heads_of k) head) some) next) (item_phrases raw (Define line head body) scope)
      × ScopesAgree k raw other (suc here) (suc there) mine yours (after_item raw (Define line head body) scope) (after_item other (Define line (head_left (heads_of k) head) some) next)
  define_stands {here} {there} {mine} {yours} {scope} {next} line head body some rest more f is none stay d ends at_raw at_other =
      let less = head_left (heads_of k) head in
      let e = enters k raw other texts f head rest more is none at_raw at_other in
      let p = params_walk k raw other texts head.name 0 head.params (scope_of_parameters head scope) (scope_of_parameters less next) stay e in
      let w = all_walk k raw other texts (suc here) (suc there) (Some here) (Some there) d (entered other less next) InBlock InBlock as_it_is p.after in (
        both_stand k raw other (phrase line next (DeclaresFunction less true) ∷ []) _ (phrase line scope (DeclaresFunction head true) ∷ []) _
            (head_stands k raw other texts f line head true result is)
            (both_stand k raw other (head_phrases other less.params (scope_of_parameters less next)) _ (head_phrases raw head.params (scope_of_parameters head scope)) _ p.phrases
            (both_stand k raw other (body_phrases other some (entered other less next)) _ (body_phrases raw body (entered raw head scope)) _
            (subst (λ (qs : Phrases). AreCounterparts k raw other qs (body_phrases raw body (entered raw head scope))) (sym (body_in_order other some (entered other less next)))
            (subst (λ (ps : Phrases). AreCounterparts k raw other (joined_at InBlock (in_order (map (scoped other) some) (entered other less next))) ps) (sym (body_in_order raw body (entered raw head scope))) w.phrases))
            (one_stands k raw other line line scope next (EndsFunction head body) (EndsFunction less some) (PartsAgree.ends refl ends) (places_agree k raw other texts f (end_stays k raw other texts less some))))),
        subst (λ (z : Scope). ScopesAgree k raw other (suc here) (suc there) mine yours (after_item raw (Define line head body) scope) (closed (with_function head.name next) z)) (sym (body_after other some (entered other less next)))
            (subst (λ (z : Scope). ScopesAgree k raw other (suc here) (suc there) mine yours (closed (with_function head.name scope) z) (closed (with_function head.name next) (after_all (map (scoped other) some) (entered other less next))))
            (sym (body_after raw body (entered raw head scope))) (follows_closed k raw other (function_kept k raw other head.name is none f) w.after)),
      )

  items_walk : {scope : Scope} {xs ys : List RawItem} → ItemsThin k raw other scope xs ys → (here there : ℕ) (mine yours : Option ℕ) (next : Scope) → ScopesAgree k raw other here there mine yours scope next
      → drop here (defined_functions raw) ≡ function_texts xs → drop there (defined_functions other) ≡ function_texts ys → AreKept raw (items_phrases raw xs scope) → Walk scope next xs ys
  items_walk ItemsThin.none here there mine yours next f at_raw at_other right = none_stand k raw other []
  items_walk (ItemsThin.include d) here there mine yours next f at_raw at_other right = items_walk d here there mine yours next f at_raw at_other right
  items_walk {scope} (ItemsThin.tag {l} {w} {rest} {others} d) here there mine yours next f at_raw at_other right =
      both_stand k raw other (phrase l next (NamesStruct w) ∷ []) (items_phrases other others next) (phrase l scope (NamesStruct w) ∷ []) (items_phrases raw rest scope)
      (stands k raw other texts f l (NamesStruct w) refl (tag_stays k raw other texts w))
      (items_walk d here there mine yours next f at_raw at_other (kept_second raw (phrase l scope (NamesStruct w) ∷ []) (items_phrases raw rest scope) right))
  items_walk {scope} (ItemsThin.structure {l} {w} {members} {rest} {others} stay d) here there mine yours next f at_raw at_other right =
      both_stand k raw other (item_phrases other (Struct l w members) next) _ (item_phrases raw (Struct l w members) scope) _
      (both_stand k raw other (phrase l next (DefinesStruct w) ∷ []) (member_phrases next [] members) (phrase l scope (DefinesStruct w) ∷ []) (member_phrases scope [] members)
      (stands k raw other texts f l (DefinesStruct w) refl (struct_stays k raw other texts w)) (members_stand k raw other texts f [] members stay))
      (items_walk d here there mine yours (after_item other (Struct l w members) next) (structs_follow k raw other texts f) at_raw at_other (kept_second raw (item_phrases raw (Struct l w members) scope) _ right))
  items_walk {scope} (ItemsThin.global {l} {v} {i} {is_static} {rest} {others} is stay begin d) here there mine yours next f at_raw at_other right =
      let like = variable_same raw other texts.outside v i in
      let g = variable_kept k raw other v v i i is like.name like.type f in
      both_stand k raw other (item_phrases other (Global l v i is_static) next) _ (item_phrases raw (Global l v i is_static) scope) _
      (both_stand k raw other (phrase l next (Declares (InFile is_static) v i) ∷ []) (begun_phrases l (with_variable other v i next) (InFile is_static) v i)
      (phrase l scope (Declares (InFile is_static) v i) ∷ []) (begun_phrases l (with_variable raw v i scope) (InFile is_static) v i)
      (stands k raw other texts f l (Declares (InFile is_static) v i) refl stay) (begun_stand_as_it_is k raw other texts here there mine yours l (InFile is_static) v i begin g))
      (items_walk d here there mine yours (with_variable other v i next) g at_raw at_other (kept_second raw (item_phrases raw (Global l v i is_static) scope) _ right))
  items_walk {scope} (ItemsThin.global_goes {l} {v} {i} {is_static} is d) here there mine yours next f at_raw at_other right =
      front_gone k raw other _ (item_phrases raw (Global l v i is_static) scope) _
      (items_walk d here there mine yours next (variable_gone k raw other v i is f) at_raw at_other (kept_second raw (item_phrases raw (Global l v i is_static) scope) _ right))
  items_walk {scope} (ItemsThin.prototype {l} {head} {rest} {others} is d) here there mine yours next f at_raw at_other right =
      let less = head_left (heads_of k) head in
      both_stand k raw other (item_phrases other (Prototype l less) next) _ (item_phrases raw (Prototype l head) scope) _
      (both_stand k raw other (phrase l next (DeclaresFunction less false) ∷ []) (taken_phrases next [] less.params) (phrase l scope (DeclaresFunction head false) ∷ []) (taken_phrases scope [] head.params)
      (head_stands k raw other texts f l head false result is) (taken_stand k raw other texts f (k.parameter head.name) 0 [] [] head.params (λ q c. c)))
      (items_walk d here there mine yours (with_function head.name next) (function_kept k raw other head.name is (no_variable_there l scope head false _ right) f) at_raw at_other
      (kept_second raw (item_phrases raw (Prototype l head) scope) _ right))
  items_walk {scope} (ItemsThin.prototype_goes {l} {head} is d) here there mine yours next f at_raw at_other right =
      front_gone k raw other _ (item_phrases raw (Prototype l head) scope) _
      (items_walk d here there mine yours next (function_gone k raw other head.name is f) at_raw at_other (kept_second raw (item_phrases raw (Prototype l head) scope) _ right))
  items_walk {scope} (ItemsThin.define {l} {head} {body} {some} {rest} {others} is stay thin ends d) here there mine yours next f at_raw at_other right =
      let less = head_left (heads_of k) head in
      let w = define_stands l head body some (function_texts rest) (function_texts others) f is (no_variable_there l scope head true _ right) stay thin ends at_raw at_other in
      both_stand k raw other (item_phrases other (Define l less some) next) _ (item_phrases raw (Define l head body) scope) _ w.0
      (items_walk d (suc here) (suc there) mine yours (after_item other (Define l less some) next) w.1 (drop_next here (defined_functions raw) head (function_texts rest) at_raw) (drop_next there (defined_functions other) less (function_texts others) at_other)
      (kept_second raw (item_phrases raw (Define l head body) scope) _ right))
  items_walk {scope} (ItemsThin.define_goes {l} {head} {body} {rest} is gone thin d) here there mine yours next f at_raw at_other right =
      front_gone k raw other _ (item_phrases raw (Define l head body) scope) _
      (items_walk d (suc here) there mine yours next (leaves k raw other texts f l head body is gone thin) (drop_next here (defined_functions raw) head (function_texts rest) at_raw) at_other
      (kept_second raw (item_phrases raw (Define l head body) scope) _ right))

-- at the beginning of both texts
pub begins_follow : (k : Kept Bytes) (raw other : RawProgram) → ScopesAgree k raw other 0 0 None None outset outset
begins_follow k raw other = record {
  names = refl;
  within = omega arith;
  outer = refl;
  structs = refl;
  variables = refl;
  statements = refl;
  around = λ h at. none_there at;
  functions = refl;
  others = refl;
  owner = refl;
  other_owner = refl;
  before = none_before;
}
  where
    none_before : (x : Bytes) → IsDefinedBefore other outset x → IsDefinedBefore raw outset x
    none_before x (h, (i, within, is), name) = absurd (no_place (defined_functions other) within)
      where
        no_place : (all : List RawHead) → i < length (take 0 all) → ⊥
        no_place [] within = omega (arith, within)
        no_place (y ∷ ys) within = omega (arith, within)

pub drop_none : {A : Type 0} (xs : List A) → drop 0 xs ≡ xs
drop_none [] = refl
drop_none (x ∷ xs) = refl

-- a thinner text keeps the rules that the text keeps
pub thinner_keeps : (k : Kept Bytes) (raw other : RawProgram) → IsThinner k raw other → KeepsRules raw → KeepsRules other
thinner_keeps k raw other thin keeps number line (IsBroken.by_phrase {n} {p = q} c breaks) =
    let texts = texts_agree k raw other thin.items in
    let p = items_walk k raw other texts thin.result thin.items 0 0 None None outset (begins_follow k raw other) (drop_none (defined_functions raw)) (drop_none (defined_functions other)) (kept_from raw (phrases raw) (λ p c n b. keeps n p.line (IsBroken.by_phrase c b))) q c in
    keeps n p.phrase.line (IsBroken.by_phrase p.stands (counterpart_breaks k raw other p breaks))
thinner_keeps k raw other thin keeps number line (IsBroken.no_main none) =
    let texts = texts_agree k raw other thin.items in
    keeps 5 1 (IsBroken.no_main (unmapped (head_left (heads_of k)) (definition_of raw main_name) (sym (texts.definitions main_name thin.main) ∙ none)))
