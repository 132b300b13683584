-- A phrase breaks a rule where the phrase of a resembling text breaks it.
use Rattle.std.proofs.Common.{◌≡◌, ℕ, ◌&&◌, List, [], ◌∷◌, length, take, Bool, true, false, Option, Some, None, refl, sym, ap, ap₂, subst, ◌∙◌, arith, slice_get, ◌⊎◌, inl, inr}
use Rattle.std.specs.Prelude.{Contains, option_map, option_and_then}
use Rattle.std.specs.List.{AllZip}
use Rattle.c_tree.specs.declared.raw.expr.RawExpr.{RawExpr}
use Rattle.c_tree.specs.declared.raw.expr.RawExpr.TheOpen.{RawExpr-F}
use Rattle.c_tree.specs.declared.raw.expr.RawExpr.TheVariants as e
use Rattle.c_tree.specs.declared.raw.expr.RawType.{RawType}
use Rattle.c_tree.specs.declared.raw.expr.RawVar.{RawVar}
use Rattle.c_tree.specs.declared.raw.program.RawInit.{RawInit}
use Rattle.c_tree.specs.declared.raw.program.RawMember.{RawMember}
use Rattle.c_tree.specs.declared.raw.program.RawParam.{RawParam}
use Rattle.c_tree.specs.declared.raw.program.RawHead.{RawHead}
use Rattle.c_tree.specs.declared.raw.program.RawProgram.{RawProgram}
use Rattle.c_tree.specs.declared.raw.statement.RawTarget.{RawTarget}
use Rattle.c_tree.specs.declared.raw.statement.RawTarget.TheVariants as target
use Rattle.c_tree.specs.declared.raw.statement.RawArg.{RawArg}
use Rattle.c_tree.specs.declared.raw.statement.RawSize.{RawSize}
use Rattle.c_tree.specs.declared.raw.statement.RawStatement.{RawStatement}
use Rattle.c_language.specs.Words.{Bytes}
use Rattle.c_language.specs.CountConstants.{IsCountConstant, LengthsAmong}
use Rattle.c_language.specs.TypeGrammar.{named_type}
use Rattle.c_language.specs.DeclaredTypes.{defined_structs, defined_functions, definition_of, positive, written_type, variable_type, type_or_void, result_type, parameter_types, item_count}
use Rattle.c_language.specs.ProgramOf.{ctype_with}
use Rattle.c_language.specs.Scopes.{Scope, meaning_in, meaning_here}
use Rattle.c_language.specs.ExprTypes.{operand}
use Rattle.c_language.specs.ExprRules.{Seen, seen, is_undeclared, lacks_header, has_bad_operand, has_no_address, needs_struct, selects_missing, holds_of, points_to_incomplete, moves_incomplete}
use Rattle.c_language.specs.Formats.{Conversion}
use Rattle.c_language.specs.Phrases.{Stand, Part, NamesStruct, DefinesStruct, HasMember, DeclaresFunction, Takes, EndsFunction, Declares, Begins, Assigns, Bumps, Calls, Allocates, Tests, Switches, Returns}
use Rattle.c_language.specs.Uses.{lengths_in, lengths_of, expressions, Holds, holds, tags_in, tags, tags_if, is_library_name, is_library_macro}
use Rattle.c_language.specs.Rules.{Breaks}
use Rattle.c_language.specs.NameRules.{main_name, agree, all_agree, same_signature, IsDefinedBefore, UsesUndeclared, DeclaresAgain, Shadows, DeclaresLibraryName, MisusesMain, LacksDefinition, LacksHeader}
use Rattle.c_language.specs.StructRules.{MisusesTag, MisnamesMember}
use Rattle.c_language.specs.ArrayRules.{HasNoElement, LacksConstant, HasUnfit, MisusesInitialiser}
use Rattle.c_language.specs.SwitchRules.{MisusesSwitch, MisplacesDeclaration}
use Rattle.c_language.specs.TypeRules.{MisusesOperator, AssignsOtherType, IsNoTarget, AssignsNoPlace, MisusesAddress}
use Rattle.c_language.specs.CallRules.{HasUnfitArgument, MisusesArguments, target_type, MisusesResult, head_around, EndsWithValue, MisusesReturn, HasUnfitWidth, MisusesFormat, HasOtherSize, MisusesAllocation, MisusesLibrary}
use Rattle.c_language.specs.declared.expr_type.ExprType.{ExprType}
use Rattle.c_language.specs.declared.expr_type.Operand.{Operand}
use Rattle.c_language.proofs.Options.{none_there, some_same}
use Rattle.c_language.proofs.Tests.{false_true}
use Rattle.c_language.proofs.UseLemmas.{only_part}
use Rattle.c_print_laws.proofs.Alike.{BothThere, pair_of, place_there, pairwise_take, pairwise_map, pairwise_length}
use Rattle.c_language.proofs.Operands.{headers_same, missing_same, seen-Constant}
use Rattle.c_print_laws.proofs.Resembling.{MembersAgree, StructsAgree, ParamsAgree, HeadsAgree, Resembles, struct_ids, definitions_agree, types_same, ctypes_same, lacks_same, operands_same, seen_same}

-- ---- parts that agree

-- two variables have the same name and type, though a list may give a length of one that is written in the other
pub record VarsAgree (raw other : RawProgram) (i : RawInit) (v w : RawVar) : Type 0 where
  pub name : v.name ≡ w.name
  pub type : variable_type raw v i ≡ variable_type other w i
  pub tree : ctype_with raw (item_count i) v.shape ≡ ctype_with other (item_count i) w.shape
  pub tag : tags_in v.shape ≡ tags_in w.shape
  pub left : LengthsAmong (lengths_in v.shape) (lengths_in w.shape)
  pub right : LengthsAmong (lengths_in w.shape) (lengths_in v.shape)

pub data PartsAgree (raw other : RawProgram) : Part → Part → Type 0 where
  same : {part : Part} → PartsAgree raw other part part
  declares : {stand : Stand} {v w : RawVar} {i : RawInit} → VarsAgree raw other i v w → PartsAgree raw other (Declares stand v i) (Declares stand w i)
  begins : {stand : Stand} {v w : RawVar} {i : RawInit} → VarsAgree raw other i v w → PartsAgree raw other (Begins stand v i) (Begins stand w i)
  member : {before others : List RawMember} {m k : RawMember} → AllZip MembersAgree before others → MembersAgree m k → PartsAgree raw other (HasMember before m) (HasMember others k)
  function : {h k : RawHead} {is_definition : Bool} → HeadsAgree h k → PartsAgree raw other (DeclaresFunction h is_definition) (DeclaresFunction k is_definition)
  takes : {before others : List RawParam} {p q : RawParam} → AllZip ParamsAgree before others → ParamsAgree p q → PartsAgree raw other (Takes before p) (Takes others q)
  ends : {h k : RawHead} {body next : List RawStatement} → HeadsAgree h k → (EndsWithValue body → EndsWithValue next) → (EndsWithValue next → EndsWithValue body)
      → PartsAgree raw other (EndsFunction h body) (EndsFunction k next)

-- a part that agrees with itself alone
abbrev pub is_unchanged : Part → Bool
is_unchanged (NamesStruct t) = true
is_unchanged (DefinesStruct t) = true
is_unchanged (HasMember before m) = false
is_unchanged (DeclaresFunction h d) = false
is_unchanged (Takes before p) = false
is_unchanged (EndsFunction h body) = false
is_unchanged (Declares stand v i) = false
is_unchanged (Begins stand v i) = false
is_unchanged (Assigns a op b) = true
is_unchanged (Bumps a) = true
is_unchanged (Calls stand to f args) = true
is_unchanged (Allocates to cast n) = true
is_unchanged (Tests a) = true
is_unchanged (Switches a labels) = true
is_unchanged (Returns a) = true

-- ---- what is there in both

there_some : {A B : Type 0} (R : A → B → Type 0) (a : Option A) (b : Option B) (y : B) → BothThere R a b → b ≡ Some y → (x : A) × (a ≡ Some x) × R x y
there_some R None None y h is = none_there is
there_some R None (Some b) y h is = absurd h
there_some R (Some a) None y h is = absurd h
there_some R (Some a) (Some b) y h is = (a, refl, subst (R a) (some_same is) h)

pub there_none : {A B : Type 0} (R : A → B → Type 0) (a : Option A) (b : Option B) → BothThere R a b → b ≡ None → a ≡ None
there_none R None b h is = refl
there_none R (Some a) None h is = absurd h
there_none R (Some a) (Some b) h is = none_there (sym is)

heads_same : (h : RawHead) → HeadsAgree h h
heads_same h = record { name = refl; result = refl; params = params_same h.params }
  where
    params_same : (ps : List RawParam) → AllZip ParamsAgree ps ps
    params_same [] = tt
    params_same (p ∷ ps) = (record { name = refl; shape = refl }, params_same ps)

members_same : (ms : List RawMember) → AllZip MembersAgree ms ms
members_same [] = tt
members_same (m ∷ ms) = (record { name = refl; shape = refl }, members_same ms)

pub params_same : (ps : List RawParam) → AllZip ParamsAgree ps ps
params_same [] = tt
params_same (p ∷ ps) = (record { name = refl; shape = refl }, params_same ps)

module _ (raw other : RawProgram) (like : Resembles raw other) where
  pub vars_same : (i : RawInit) (v : RawVar) → VarsAgree raw other i v v
  vars_same i v = record { name = refl; type = types_same raw other like (item_count i) v.shape; tree = ctypes_same raw other like (item_count i) v.shape; tag = refl; left = λ a c. inl c; right = λ a c. inl c }

  declares_part : {part : Part} {stand : Stand} {w : RawVar} {i : RawInit} → PartsAgree raw other part (Declares stand w i) → (v : RawVar) × (part ≡ Declares stand v i) × VarsAgree raw other i v w
  declares_part {w} {i} PartsAgree.same = (w, refl, vars_same i w)
  declares_part (declares {v} h) = (v, refl, h)

  begins_part : {part : Part} {stand : Stand} {w : RawVar} {i : RawInit} → PartsAgree raw other part (Begins stand w i) → (v : RawVar) × (part ≡ Begins stand v i) × VarsAgree raw other i v w
  begins_part {w} {i} PartsAgree.same = (w, refl, vars_same i w)
  begins_part (begins {v} h) = (v, refl, h)

  member_part : {part : Part} {others : List RawMember} {k : RawMember} → PartsAgree raw other part (HasMember others k)
      → (before : List RawMember) × (m : RawMember) × (part ≡ HasMember before m) × AllZip MembersAgree before others × MembersAgree m k
  member_part {others} {k} PartsAgree.same = (others, k, refl, members_same others, record { name = refl; shape = refl })
  member_part (member {before} {m} h r) = (before, m, refl, h, r)

  function_part : {part : Part} {k : RawHead} {d : Bool} → PartsAgree raw other part (DeclaresFunction k d) → (h : RawHead) × (part ≡ DeclaresFunction h d) × HeadsAgree h k
  function_part {k} PartsAgree.same = (k, refl, heads_same k)
  function_part (function {h} r) = (h, refl, r)

  takes_part : {part : Part} {others : List RawParam} {q : RawParam} → PartsAgree raw other part (Takes others q)
      → (before : List RawParam) × (p : RawParam) × (part ≡ Takes before p) × AllZip ParamsAgree before others × ParamsAgree p q
  takes_part {others} {q} PartsAgree.same = (others, q, refl, params_same others, record { name = refl; shape = refl })
  takes_part (takes {before} {p} h r) = (before, p, refl, h, r)

  ends_part : {part : Part} {k : RawHead} {next : List RawStatement} → PartsAgree raw other part (EndsFunction k next)
      → (h : RawHead) × (body : List RawStatement) × (part ≡ EndsFunction h body) × HeadsAgree h k × (EndsWithValue body → EndsWithValue next)
  ends_part {k} {next} PartsAgree.same = (k, next, refl, heads_same k, (λ x. x))
  ends_part (ends {h} {body} r to back) = (h, body, refl, r, to)

  unchanged_part : {part next : Part} → is_unchanged next ≡ true → PartsAgree raw other part next → part ≡ next
  unchanged_part h PartsAgree.same = refl
  unchanged_part h (declares k) = false_true h
  unchanged_part h (begins k) = false_true h
  unchanged_part h (member k r) = false_true h
  unchanged_part h (function k) = false_true h
  unchanged_part h (takes k r) = false_true h
  unchanged_part h (ends k to back) = false_true h

  -- a fact about a part that agrees with itself alone
  moved : {part next : Part} (X : Part → Type 0) → is_unchanged next ≡ true → PartsAgree raw other part next → X next → X part
  moved X is h x = subst X (sym (unchanged_part is h)) x

  -- ---- expressions, tags and lengths of a part

  expressions_agree : {part next : Part} → PartsAgree raw other part next → (a : RawExpr) → Contains (expressions next) a → Contains (expressions part) a ⊎ IsCountConstant a
  expressions_agree PartsAgree.same a c = inl c
  expressions_agree (declares h) a c = h.right a c
  expressions_agree (begins h) a c = inl c
  expressions_agree (member h r) a c = inl (subst (λ (t : RawType). Contains (lengths_in t) a) (sym r.shape) c)
  expressions_agree (function h) a c = inl c
  expressions_agree (takes h r) a c = inl c
  expressions_agree (ends h to back) a c = inl c

  lengths_agree : {part next : Part} → PartsAgree raw other part next → (a : RawExpr) → Contains (lengths_of next) a → Contains (lengths_of part) a ⊎ IsCountConstant a
  lengths_agree PartsAgree.same a c = inl c
  lengths_agree (declares h) a c = h.right a c
  lengths_agree (begins h) a c = inl c
  lengths_agree (member h r) a c = inl (subst (λ (t : RawType). Contains (lengths_in t) a) (sym r.shape) c)
  lengths_agree (function h) a c = inl c
  lengths_agree (takes h r) a c = inl c
  lengths_agree (ends h to back) a c = inl c

  tags_agree : {part next : Part} → PartsAgree raw other part next → tags part ≡ tags next
  tags_agree PartsAgree.same = refl
  tags_agree (declares h) = h.tag
  tags_agree (begins h) = refl
  tags_agree (member h r) = ap tags_in r.shape
  tags_agree (function h) = ap tags_of_result h.result
    where
      tags_of_result : Option RawType → List Bytes
      tags_of_result t = tags_if t
  tags_agree (takes h r) = ap tags_in r.shape
  tags_agree (ends h to back) = refl

  module _ (scope : Scope) where
    op : (a : RawExpr) → operand raw scope a ≡ operand other scope a
    op = operands_same raw other like scope

    -- an expression of the other part stands in the part too, where it isn't a length that a list gave
    held : {part next : Part} (inner : RawExpr) → PartsAgree raw other part next → Holds next inner → Holds part inner ⊎ ((text : Bytes) × (inner ≡ e.Constant text))
    held inner h (holds {e = a} c w) = elim (expressions_agree h a c) [
      | inl k ↦ inl (holds k w)
      | inr k ↦ inr (k.text, only_part a inner k.text k.is w)
    ]

    -- what a test on forms tells of an expression of the other part, it tells of one of the part
    held_if : {part next : Part} (test : Seen → Bool) → ((text : Bytes) → test (RawExpr-F.Constant text) ≡ false) → (inner : RawExpr) → PartsAgree raw other part next → Holds next inner
        → test (seen raw scope inner) ≡ true → Holds part inner
    held_if test none inner h k is = elim (held inner h k) [
      | inl j ↦ j
      | inr j ↦ false_true (sym (none j.0) ∙ ap test (sym (ap (seen raw scope) j.1 ∙ seen-Constant raw scope j.0)) ∙ is)
    ]

    seen_true : (test : Seen → Bool) (inner : RawExpr) → test (seen other scope inner) ≡ true → test (seen raw scope inner) ≡ true
    seen_true test inner is = ap test (seen_same raw other like scope inner) ∙ is

    -- ---- functions

    defined_as : (f : Bytes) (k : RawHead) → definition_of other f ≡ Some k → (h : RawHead) × (definition_of raw f ≡ Some h) × HeadsAgree h k
    defined_as f k is = there_some HeadsAgree (definition_of raw f) (definition_of other f) k (definitions_agree raw other like f) is

    undefined : (f : Bytes) → definition_of other f ≡ None → definition_of raw f ≡ None
    undefined f is = there_none HeadsAgree (definition_of raw f) (definition_of other f) (definitions_agree raw other like f) is

    around : (k : RawHead) → head_around other scope ≡ Some k → (h : RawHead) × (head_around raw scope ≡ Some h) × HeadsAgree h k
    around k is = there_some HeadsAgree (head_around raw scope) (head_around other scope) k (by_owner scope.owner) is
      where
        by_owner : (o : Option ℕ) → BothThere HeadsAgree (option_and_then (slice_get (defined_functions raw)) o) (option_and_then (slice_get (defined_functions other)) o)
        by_owner None = tt
        by_owner (Some n) = place_there HeadsAgree (defined_functions raw) (defined_functions other) n like.functions

    before : (name : Bytes) → IsDefinedBefore other scope name → IsDefinedBefore raw scope name
    before name h =
        let k = pair_of HeadsAgree (take scope.functions (defined_functions raw)) (take scope.functions (defined_functions other)) h.0 (pairwise_take HeadsAgree scope.functions (defined_functions raw) (defined_functions other) like.functions) h.1 in
        (k.left, k.stands, k.related.name ∙ h.2)

    results : (h k : RawHead) → HeadsAgree h k → result_type raw h ≡ result_type other k
    results h k r = ap (type_or_void raw) r.result ∙ by_result k.result
      where
        by_result : (t : Option RawType) → type_or_void raw t ≡ type_or_void other t
        by_result None = refl
        by_result (Some t) = types_same raw other like 0 t

    parameters : (h k : RawHead) → HeadsAgree h k → parameter_types raw h ≡ parameter_types other k
    parameters h k r = pairwise_map ParamsAgree (λ (p : RawParam). written_type raw p.shape) (λ (p : RawParam). written_type other p.shape) (λ a b x. ap (written_type raw) x.shape ∙ types_same raw other like 0 b.shape) h.params k.params r.params

    signatures : (h k f g : RawHead) → HeadsAgree h k → HeadsAgree f g → same_signature raw h f ≡ same_signature other k g
    signatures h k f g r q =
        ap₂ (λ (a b : Bool). a && b) (ap₂ agree (results h k r) (results f g q)) (ap₂ all_agree (parameters h k r) (parameters f g q))

    targets : (to : RawTarget) → target_type raw scope to ≡ target_type other scope to
    targets target.None = refl
    targets (target.Place a) = ap (option_map (λ (x : Operand). x.shape)) (op a)
    targets (target.Declared v) = types_same raw other like 0 v.shape

    no_params : (h k : RawHead) → HeadsAgree h k → h.params ≡ [] → k.params ≡ []
    no_params h k r is = empty k.params (sym (pairwise_length ParamsAgree h.params k.params r.params) ∙ ap length is)
      where
        empty : (ps : List RawParam) → length ps ≡ 0 → ps ≡ []
        empty [] h = refl
        empty (p ∷ ps) h = absurd (omega (arith, h))

    unfit_argument : {ts : List (Option ExprType)} {args : List RawArg} → HasUnfitArgument other scope ts args → HasUnfitArgument raw scope ts args
    unfit_argument (HasUnfitArgument.value {e = a} is isnt) = HasUnfitArgument.value (op a ∙ is) isnt
    unfit_argument HasUnfitArgument.literal = HasUnfitArgument.literal
    unfit_argument (HasUnfitArgument.later h) = HasUnfitArgument.later (unfit_argument h)

    unfit_width : {cs : List Conversion} {args : List RawArg} → HasUnfitWidth other scope cs args → HasUnfitWidth raw scope cs args
    unfit_width (HasUnfitWidth.value {e = a} is isnt) = HasUnfitWidth.value (op a ∙ is) isnt
    unfit_width HasUnfitWidth.literal = HasUnfitWidth.literal
    unfit_width (HasUnfitWidth.later h) = HasUnfitWidth.later (unfit_width h)

    other_size : {object : ExprType} {m : RawSize} → HasOtherSize other scope object m → HasOtherSize raw scope object m
    other_size (HasOtherSize.of_type {t} is isnt) = HasOtherSize.of_type (types_same raw other like 0 (named_type t) ∙ is) isnt
    other_size (HasOtherSize.of_target a b c) = HasOtherSize.of_target a b c
    other_size (HasOtherSize.of_no_pointer a b) = HasOtherSize.of_no_pointer a b
    other_size (HasOtherSize.of_function a) = HasOtherSize.of_function a

    no_target : {a : RawExpr} → IsNoTarget other scope a → IsNoTarget raw scope a
    no_target {a} (IsNoTarget.no_place is isnt) = IsNoTarget.no_place (op a ∙ is) isnt
    no_target {a} (IsNoTarget.no_scalar is isnt) = IsNoTarget.no_scalar (op a ∙ is) isnt

    unfit_item : (t : ExprType) (all : List RawExpr) → HasUnfit other scope t all → HasUnfit raw scope t all
    unfit_item t all h = (h.0, h.1, (h.2.0, op h.0 ∙ h.2.1, h.2.2))

    -- ---- each rule

    undeclared_moves : {part next : Part} → PartsAgree raw other part next → UsesUndeclared other scope next → UsesUndeclared raw scope part
    undeclared_moves a (UsesUndeclared.in_expression {inner} h is) =
        let k = seen_true (is_undeclared scope) inner is in
        UsesUndeclared.in_expression (held_if (is_undeclared scope) (λ text. refl) inner a h k) k
    undeclared_moves a (UsesUndeclared.called x y) = moved (UsesUndeclared raw scope) refl a (UsesUndeclared.called x y)
    undeclared_moves a (UsesUndeclared.measured x y) = moved (UsesUndeclared raw scope) refl a (UsesUndeclared.measured x y)

    again_moves : {part next : Part} → PartsAgree raw other part next → DeclaresAgain other scope next → DeclaresAgain raw scope part
    again_moves a (DeclaresAgain.variable h) =
        let v = declares_part a in subst (DeclaresAgain raw scope) (sym v.1) (DeclaresAgain.variable (λ none. h (ap (meaning_here scope) (sym v.2.name) ∙ none)))
    again_moves a (DeclaresAgain.function {head = k} h) =
        let f = function_part a in subst (DeclaresAgain raw scope) (sym f.1) (DeclaresAgain.function (ap (meaning_here scope) f.2.name ∙ h))
    again_moves a (DeclaresAgain.definition {head = k} h) =
        let f = function_part a in subst (DeclaresAgain raw scope) (sym f.1) (DeclaresAgain.definition (subst (IsDefinedBefore raw scope) (sym f.2.name) (before k.name h)))
    again_moves a (DeclaresAgain.parameter {before = others} {p = q} {q = twin} {name = w} c first second) =
        let t = takes_part a in
        let x = pair_of ParamsAgree t.0 others twin t.3 c in
        subst (DeclaresAgain raw scope) (sym t.2) (DeclaresAgain.parameter x.stands (x.related.name ∙ first) (t.4.name ∙ second))

    shadows_moves : {part next : Part} → PartsAgree raw other part next → Shadows other scope next → Shadows raw scope part
    shadows_moves a (Shadows.variable h) =
        let v = declares_part a in subst (Shadows raw scope) (sym v.1) (Shadows.variable (λ none. h (ap (meaning_in scope) (sym v.2.name) ∙ none)))

    library_name_moves : {part next : Part} → PartsAgree raw other part next → DeclaresLibraryName other scope next → DeclaresLibraryName raw scope part
    library_name_moves a (DeclaresLibraryName.variable h) =
        let v = declares_part a in subst (DeclaresLibraryName raw scope) (sym v.1) (DeclaresLibraryName.variable (ap is_library_name v.2.name ∙ h))
    library_name_moves a (DeclaresLibraryName.function h) =
        let f = function_part a in subst (DeclaresLibraryName raw scope) (sym f.1) (DeclaresLibraryName.function (ap is_library_name f.2.name ∙ h))
    library_name_moves a (DeclaresLibraryName.parameter is h) =
        let t = takes_part a in subst (DeclaresLibraryName raw scope) (sym t.2) (DeclaresLibraryName.parameter (t.4.name ∙ is) h)
    library_name_moves a (DeclaresLibraryName.tag h) = moved (DeclaresLibraryName raw scope) refl a (DeclaresLibraryName.tag h)
    library_name_moves a (DeclaresLibraryName.member h) =
        let m = member_part a in subst (DeclaresLibraryName raw scope) (sym m.2) (DeclaresLibraryName.member (ap is_library_macro m.4.name ∙ h))

    main_moves : {part next : Part} → PartsAgree raw other part next → MisusesMain other scope next → MisusesMain raw scope part
    main_moves a (MisusesMain.prototype is) = let f = function_part a in subst (MisusesMain raw scope) (sym f.1) (MisusesMain.prototype (f.2.name ∙ is))
    main_moves a (MisusesMain.again is h) = let f = function_part a in subst (MisusesMain raw scope) (sym f.1) (MisusesMain.again (f.2.name ∙ is) (before main_name h))
    main_moves a (MisusesMain.no_int is h) = let f = function_part a in subst (MisusesMain raw scope) (sym f.1) (MisusesMain.no_int (f.2.name ∙ is) (λ int. h (sym f.2.result ∙ int)))
    main_moves a (MisusesMain.parameters {head = k} is h) =
        let f = function_part a in subst (MisusesMain raw scope) (sym f.1) (MisusesMain.parameters (f.2.name ∙ is) (λ none. h (no_params f.0 k f.2 none)))
    main_moves a MisusesMain.called = moved (MisusesMain raw scope) refl a MisusesMain.called

    no_definition_moves : {part next : Part} → PartsAgree raw other part next → LacksDefinition other scope next → LacksDefinition raw scope part
    no_definition_moves a (LacksDefinition.called {f} is none) = moved (LacksDefinition raw scope) refl a (LacksDefinition.called is (undefined f none))
    no_definition_moves a (LacksDefinition.prototype {head = k} none) =
        let f = function_part a in subst (LacksDefinition raw scope) (sym f.1) (LacksDefinition.prototype (ap (definition_of raw) f.2.name ∙ undefined k.name none))
    no_definition_moves a (LacksDefinition.differs {head = k} {f = g} is differs) =
        let h = function_part a in
        let d = defined_as k.name g is in
        subst (LacksDefinition raw scope) (sym h.1) (LacksDefinition.differs (ap (definition_of raw) h.2.name ∙ d.1) (signatures h.0 k d.0 g h.2 d.2 ∙ differs))

    tag_moves : {part next : Part} → PartsAgree raw other part next → MisusesTag other scope next → MisusesTag raw scope part
    tag_moves a (MisusesTag.undefined {tag = w} c none) = MisusesTag.undefined (subst (λ (ws : List Bytes). Contains ws w) (sym (tags_agree a)) c) (struct_ids raw other like w ∙ none)
    tag_moves a (MisusesTag.again {tag = w} {s} c is) =
        let k = pair_of StructsAgree (take scope.structs (defined_structs raw)) (take scope.structs (defined_structs other)) s (pairwise_take StructsAgree scope.structs (defined_structs raw) (defined_structs other) like.structs) c in
        moved (MisusesTag raw scope) refl a (MisusesTag.again k.stands (k.related.tag ∙ is))
    tag_moves a (MisusesTag.object typed isnt) = let v = declares_part a in subst (MisusesTag raw scope) (sym v.1) (MisusesTag.object (v.2.type ∙ typed) isnt)
    tag_moves a (MisusesTag.member {m = k} typed isnt) =
        let m = member_part a in
        subst (MisusesTag raw scope) (sym m.2) (MisusesTag.member (ap (written_type raw) m.4.shape ∙ types_same raw other like 0 k.shape ∙ typed) isnt)
    tag_moves a (MisusesTag.in_expression {inner} h is) =
        let k = seen_true (needs_struct scope) inner is in
        MisusesTag.in_expression (held_if (needs_struct scope) (λ text. refl) inner a h k) k
    tag_moves a (MisusesTag.bumped {left = x} is) = moved (MisusesTag raw scope) refl a (MisusesTag.bumped (ap (holds_of (points_to_incomplete scope)) (op x) ∙ is))
    tag_moves a (MisusesTag.compound {left = x} {right = y} {op = o} is) = moved (MisusesTag raw scope) refl a (MisusesTag.compound (ap₂ (moves_incomplete scope o) (op x) (op y) ∙ is))
    tag_moves a (MisusesTag.size_of_type {t} c typed isnt) = moved (MisusesTag raw scope) refl a (MisusesTag.size_of_type c (types_same raw other like 0 (named_type t) ∙ typed) isnt)
    tag_moves a (MisusesTag.size_of_target c is typed isnt) = moved (MisusesTag raw scope) refl a (MisusesTag.size_of_target c is typed isnt)

    member_moves : {part next : Part} → PartsAgree raw other part next → MisnamesMember other scope next → MisnamesMember raw scope part
    member_moves a (MisnamesMember.again {before = others} {m = k} {other = twin} c is) =
        let m = member_part a in
        let x = pair_of MembersAgree m.0 others twin m.3 c in
        subst (MisnamesMember raw scope) (sym m.2) (MisnamesMember.again x.stands (x.related.name ∙ is ∙ sym m.4.name))
    member_moves a (MisnamesMember.missing {inner} h is) =
        let k = missing_same raw other (lacks_same raw other like) (seen raw scope inner) ∙ seen_true (selects_missing other) inner is in
        MisnamesMember.missing (held_if (selects_missing raw) (λ text. refl) inner a h k) k

    no_element_moves : {part next : Part} → PartsAgree raw other part next → HasNoElement next → HasNoElement part
    no_element_moves a (HasNoElement.too_short {n} {z} c is none) = elim (lengths_agree a n c) [
      | inl k ↦ HasNoElement.too_short k is none
      | inr k ↦ none_there (sym none ∙ ap positive (some_same (sym is ∙ k.value)))
    ]

    no_constant_moves : {part next : Part} → PartsAgree raw other part next → LacksConstant other scope next → LacksConstant raw scope part
    no_constant_moves a (LacksConstant.written_length {n} c none) = elim (lengths_agree a n c) [
      | inl k ↦ LacksConstant.written_length k none
      | inr k ↦ none_there (sym none ∙ k.value)
    ]
    no_constant_moves a (LacksConstant.label c none) = moved (LacksConstant raw scope) refl a (LacksConstant.label c none)
    no_constant_moves a (LacksConstant.global typed h) = let v = begins_part a in subst (LacksConstant raw scope) (sym v.1) (LacksConstant.global (v.2.type ∙ typed) h)
    no_constant_moves a (LacksConstant.item typed element c h) = let v = begins_part a in subst (LacksConstant raw scope) (sym v.1) (LacksConstant.item (v.2.type ∙ typed) element c h)

    switch_moves : {part next : Part} → PartsAgree raw other part next → MisusesSwitch other scope next → MisusesSwitch raw scope part
    switch_moves a (MisusesSwitch.no_integer {test} is none) = moved (MisusesSwitch raw scope) refl a (MisusesSwitch.no_integer (op test ∙ is) none)
    switch_moves a (MisusesSwitch.equal_labels {test} is int h) = moved (MisusesSwitch raw scope) refl a (MisusesSwitch.equal_labels (op test ∙ is) int h)
    switch_moves a (MisusesSwitch.defaults h) = moved (MisusesSwitch raw scope) refl a (MisusesSwitch.defaults h)

    operator_moves : {part next : Part} → PartsAgree raw other part next → MisusesOperator other scope next → MisusesOperator raw scope part
    operator_moves a (MisusesOperator.in_expression {inner} h is) =
        let k = seen_true (has_bad_operand scope) inner is in
        MisusesOperator.in_expression (held_if (has_bad_operand scope) (λ text. refl) inner a h k) k
    operator_moves a (MisusesOperator.test {test} is isnt) = moved (MisusesOperator raw scope) refl a (MisusesOperator.test (op test ∙ is) isnt)
    operator_moves a (MisusesOperator.compound {left} {right} x y none) = moved (MisusesOperator raw scope) refl a (MisusesOperator.compound (op left ∙ x) (op right ∙ y) none)
    operator_moves a (MisusesOperator.bump {left} x none) = moved (MisusesOperator raw scope) refl a (MisusesOperator.bump (op left ∙ x) none)

    other_type_moves : {part next : Part} → PartsAgree raw other part next → AssignsOtherType other scope next → AssignsOtherType raw scope part
    other_type_moves a (AssignsOtherType.simple {left} {right} x y scalar isnt) = moved (AssignsOtherType raw scope) refl a (AssignsOtherType.simple (op left ∙ x) (op right ∙ y) scalar isnt)
    other_type_moves a (AssignsOtherType.compound {left} {right} x y gives scalar isnt) = moved (AssignsOtherType raw scope) refl a (AssignsOtherType.compound (op left ∙ x) (op right ∙ y) gives scalar isnt)
    other_type_moves a (AssignsOtherType.initialiser {right} typed y scalar isnt) =
        let v = begins_part a in subst (AssignsOtherType raw scope) (sym v.1) (AssignsOtherType.initialiser (v.2.type ∙ typed) (op right ∙ y) scalar isnt)

    no_place_moves : {part next : Part} → PartsAgree raw other part next → AssignsNoPlace other scope next → AssignsNoPlace raw scope part
    no_place_moves a (AssignsNoPlace.assignment h) = moved (AssignsNoPlace raw scope) refl a (AssignsNoPlace.assignment (no_target h))
    no_place_moves a (AssignsNoPlace.bump h) = moved (AssignsNoPlace raw scope) refl a (AssignsNoPlace.bump (no_target h))
    no_place_moves a (AssignsNoPlace.result h) = moved (AssignsNoPlace raw scope) refl a (AssignsNoPlace.result (no_target h))
    no_place_moves a (AssignsNoPlace.allocation h) = moved (AssignsNoPlace raw scope) refl a (AssignsNoPlace.allocation (no_target h))

    address_moves : {part next : Part} → PartsAgree raw other part next → MisusesAddress other scope next → MisusesAddress raw scope part
    address_moves a (MisusesAddress.in_expression {inner} h is) =
        let k = seen_true has_no_address inner is in
        MisusesAddress.in_expression (held_if has_no_address (λ text. refl) inner a h k) k

    arguments_move : {part next : Part} → PartsAgree raw other part next → MisusesArguments other scope next → MisusesArguments raw scope part
    arguments_move a (MisusesArguments.count {f} {args} {head = k} x is differs) =
        let d = defined_as f k is in
        moved (MisusesArguments raw scope) refl a (MisusesArguments.count x d.1 (λ same. differs (same ∙ pairwise_length ParamsAgree d.0.params k.params d.2.params)))
    arguments_move a (MisusesArguments.unfit {f} {args} {head = k} x is h) =
        let d = defined_as f k is in
        moved (MisusesArguments raw scope) refl a (MisusesArguments.unfit x d.1 (subst (λ (ts : List (Option ExprType)). HasUnfitArgument raw scope ts args) (sym (parameters d.0 k d.2)) (unfit_argument h)))

    result_moves : {part next : Part} → PartsAgree raw other part next → MisusesResult other scope next → MisusesResult raw scope part
    result_moves a (MisusesResult.library x y) = moved (MisusesResult raw scope) refl a (MisusesResult.library x y)
    result_moves a (MisusesResult.input {to} typed isnt) = moved (MisusesResult raw scope) refl a (MisusesResult.input (targets to ∙ typed) isnt)
    result_moves a (MisusesResult.no_result {f} {head = k} x y is none) =
        let d = defined_as f k is in moved (MisusesResult raw scope) refl a (MisusesResult.no_result x y d.1 (d.2.result ∙ none))
    result_moves a (MisusesResult.unfit {to} {f} {head = k} x is gives typed isnt) =
        let d = defined_as f k is in moved (MisusesResult raw scope) refl a (MisusesResult.unfit x d.1 (results d.0 k d.2 ∙ gives) (targets to ∙ typed) isnt)

    return_moves : {part next : Part} → PartsAgree raw other part next → MisusesReturn other scope next → MisusesReturn raw scope part
    return_moves a (MisusesReturn.value_of_void {head = k} is none) = let d = around k is in moved (MisusesReturn raw scope) refl a (MisusesReturn.value_of_void d.1 (d.2.result ∙ none))
    return_moves a (MisusesReturn.unfit {e = x} {head = k} is typed y isnt) =
        let d = around k is in moved (MisusesReturn raw scope) refl a (MisusesReturn.unfit d.1 (results d.0 k d.2 ∙ typed) (op x ∙ y) isnt)
    return_moves a (MisusesReturn.no_value {head = k} is some) = let d = around k is in moved (MisusesReturn raw scope) refl a (MisusesReturn.no_value d.1 (λ none. some (sym d.2.result ∙ none)))
    return_moves a (MisusesReturn.lacking {head = k} {body = next} x some lacks) =
        let d = ends_part a in
        subst (MisusesReturn raw scope) (sym d.2) (MisusesReturn.lacking (λ is. x (sym d.3.name ∙ is)) (λ none. some (sym d.3.result ∙ none)) (λ h. lacks (d.4 h)))

    format_moves : {part next : Part} → PartsAgree raw other part next → MisusesFormat other scope next → MisusesFormat raw scope part
    format_moves a (MisusesFormat.no_format h) = moved (MisusesFormat raw scope) refl a (MisusesFormat.no_format h)
    format_moves a (MisusesFormat.null_byte h k) = moved (MisusesFormat raw scope) refl a (MisusesFormat.null_byte h k)
    format_moves a (MisusesFormat.conversion h) = moved (MisusesFormat raw scope) refl a (MisusesFormat.conversion h)
    format_moves a (MisusesFormat.count h k) = moved (MisusesFormat raw scope) refl a (MisusesFormat.count h k)
    format_moves a (MisusesFormat.unfit h k) = moved (MisusesFormat raw scope) refl a (MisusesFormat.unfit h (unfit_width k))

    allocation_moves : {part next : Part} → PartsAgree raw other part next → MisusesAllocation other scope next → MisusesAllocation raw scope part
    allocation_moves a (MisusesAllocation.no_pointer {to} typed isnt) = moved (MisusesAllocation raw scope) refl a (MisusesAllocation.no_pointer (targets to ∙ typed) isnt)
    allocation_moves a (MisusesAllocation.cast {to} {c} typed written isnt) = moved (MisusesAllocation raw scope) refl a (MisusesAllocation.cast (targets to ∙ typed) (types_same raw other like 0 (named_type c) ∙ written) isnt)
    allocation_moves a (MisusesAllocation.other_size {to} typed is c h) = moved (MisusesAllocation raw scope) refl a (MisusesAllocation.other_size (targets to ∙ typed) is c (other_size h))
    allocation_moves a (MisusesAllocation.no_size {to} typed is isnt) = moved (MisusesAllocation raw scope) refl a (MisusesAllocation.no_size (targets to ∙ typed) is isnt)
    allocation_moves a (MisusesAllocation.no_count {e = x} c is isnt) = moved (MisusesAllocation raw scope) refl a (MisusesAllocation.no_count c (op x ∙ is) isnt)

    library_moves : {part next : Part} → PartsAgree raw other part next → MisusesLibrary other scope next → MisusesLibrary raw scope part
    library_moves a (MisusesLibrary.free_count h) = moved (MisusesLibrary raw scope) refl a (MisusesLibrary.free_count h)
    library_moves a (MisusesLibrary.free_type {e = x} h is isnt) = moved (MisusesLibrary raw scope) refl a (MisusesLibrary.free_type h (op x ∙ is) isnt)
    library_moves a (MisusesLibrary.putchar_count h) = moved (MisusesLibrary raw scope) refl a (MisusesLibrary.putchar_count h)
    library_moves a (MisusesLibrary.putchar_type {e = x} h is isnt) = moved (MisusesLibrary raw scope) refl a (MisusesLibrary.putchar_type h (op x ∙ is) isnt)
    library_moves a (MisusesLibrary.getchar_count h) = moved (MisusesLibrary raw scope) refl a (MisusesLibrary.getchar_count h)

    initialiser_moves : {part next : Part} → PartsAgree raw other part next → MisusesInitialiser other scope next → MisusesInitialiser raw scope part
    initialiser_moves a (MisusesInitialiser.no_array typed none) = let v = begins_part a in subst (MisusesInitialiser raw scope) (sym v.1) (MisusesInitialiser.no_array (v.2.type ∙ typed) none)
    initialiser_moves a (MisusesInitialiser.no_scalars typed is isnt) = let v = begins_part a in subst (MisusesInitialiser raw scope) (sym v.1) (MisusesInitialiser.no_scalars (v.2.type ∙ typed) is isnt)
    initialiser_moves a (MisusesInitialiser.too_many typed is many) = let v = begins_part a in subst (MisusesInitialiser raw scope) (sym v.1) (MisusesInitialiser.too_many (v.2.type ∙ typed) is many)
    initialiser_moves a (MisusesInitialiser.unfit {es = all} {element = t} typed is h) = let v = begins_part a in subst (MisusesInitialiser raw scope) (sym v.1) (MisusesInitialiser.unfit (v.2.type ∙ typed) is (unfit_item t all h))
    initialiser_moves a (MisusesInitialiser.whole typed isnt) = let v = begins_part a in subst (MisusesInitialiser raw scope) (sym v.1) (MisusesInitialiser.whole (v.2.type ∙ typed) isnt)
    initialiser_moves a (MisusesInitialiser.by_call {var = v} typed isnt) = moved (MisusesInitialiser raw scope) refl a (MisusesInitialiser.by_call (types_same raw other like 0 v.shape ∙ typed) isnt)
    initialiser_moves a (MisusesInitialiser.by_allocation {var = v} typed isnt) = moved (MisusesInitialiser raw scope) refl a (MisusesInitialiser.by_allocation (types_same raw other like 0 v.shape ∙ typed) isnt)

    misplaced_moves : {part next : Part} → PartsAgree raw other part next → MisplacesDeclaration other scope next → MisplacesDeclaration raw scope part
    misplaced_moves a MisplacesDeclaration.in_arm = let v = declares_part a in subst (MisplacesDeclaration raw scope) (sym v.1) MisplacesDeclaration.in_arm
    misplaced_moves a (MisplacesDeclaration.in_for h) = moved (MisplacesDeclaration raw scope) refl a (MisplacesDeclaration.in_for h)

    header_moves : {part next : Part} → PartsAgree raw other part next → LacksHeader other scope next → LacksHeader raw scope part
    header_moves a (LacksHeader.in_expression {inner} h is) =
        let k = headers_same raw other like.stdio like.stdlib (seen raw scope inner) ∙ seen_true (lacks_header other) inner is in
        elim (held inner a h) [
          | inl j ↦ LacksHeader.in_expression j k
          | inr j ↦ false_true (sym (ap (lacks_header raw) (ap (seen raw scope) j.1 ∙ seen-Constant raw scope j.0)) ∙ k)
        ]
    header_moves a (LacksHeader.allocation h) = moved (LacksHeader raw scope) refl a (LacksHeader.allocation (like.stdlib ∙ h))
    header_moves a (LacksHeader.release h) = moved (LacksHeader raw scope) refl a (LacksHeader.release (like.stdlib ∙ h))
    header_moves a (LacksHeader.input h) = moved (LacksHeader raw scope) refl a (LacksHeader.input (like.stdio ∙ h))
    header_moves a (LacksHeader.output h) = moved (LacksHeader raw scope) refl a (LacksHeader.output (like.stdio ∙ h))
    header_moves a (LacksHeader.format h) = moved (LacksHeader raw scope) refl a (LacksHeader.format (like.stdio ∙ h))

    -- a part breaks a rule that the other part breaks
    pub breaks_moves : {part next : Part} {n : ℕ} → PartsAgree raw other part next → Breaks other scope next n → Breaks raw scope part n
    breaks_moves a (Breaks.undeclared h) = Breaks.undeclared (undeclared_moves a h)
    breaks_moves a (Breaks.declared_again h) = Breaks.declared_again (again_moves a h)
    breaks_moves a (Breaks.shadowing h) = Breaks.shadowing (shadows_moves a h)
    breaks_moves a (Breaks.library_name h) = Breaks.library_name (library_name_moves a h)
    breaks_moves a (Breaks.main h) = Breaks.main (main_moves a h)
    breaks_moves a (Breaks.no_definition h) = Breaks.no_definition (no_definition_moves a h)
    breaks_moves a (Breaks.tag h) = Breaks.tag (tag_moves a h)
    breaks_moves a (Breaks.member h) = Breaks.member (member_moves a h)
    breaks_moves a (Breaks.no_element h) = Breaks.no_element (no_element_moves a h)
    breaks_moves a (Breaks.no_constant h) = Breaks.no_constant (no_constant_moves a h)
    breaks_moves a (Breaks.switch h) = Breaks.switch (switch_moves a h)
    breaks_moves a (Breaks.operator h) = Breaks.operator (operator_moves a h)
    breaks_moves a (Breaks.other_type h) = Breaks.other_type (other_type_moves a h)
    breaks_moves a (Breaks.no_place h) = Breaks.no_place (no_place_moves a h)
    breaks_moves a (Breaks.address h) = Breaks.address (address_moves a h)
    breaks_moves a (Breaks.arguments h) = Breaks.arguments (arguments_move a h)
    breaks_moves a (Breaks.result h) = Breaks.result (result_moves a h)
    breaks_moves a (Breaks.return h) = Breaks.return (return_moves a h)
    breaks_moves a (Breaks.format h) = Breaks.format (format_moves a h)
    breaks_moves a (Breaks.allocation h) = Breaks.allocation (allocation_moves a h)
    breaks_moves a (Breaks.library h) = Breaks.library (library_moves a h)
    breaks_moves a (Breaks.initialiser h) = Breaks.initialiser (initialiser_moves a h)
    breaks_moves a (Breaks.misplaced h) = Breaks.misplaced (misplaced_moves a h)
    breaks_moves a (Breaks.no_header h) = Breaks.no_header (header_moves a h)
