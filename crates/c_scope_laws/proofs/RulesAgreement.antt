-- A phrase breaks a rule where what stands for it at an agreeing place of the other text breaks it.
use Rattle.std.proofs.Common.{◌≡◌, ◌≢◌, ℕ, zero, suc, ◌&&◌, List, [], ◌∷◌, ◌++◌, length, take, Bool, true, false, Option, Some, None, codes, refl, sym, ap, ap₂, subst, ◌∙◌, arith, ◌⊎◌, inl, inr}
use Rattle.std.specs.Prelude.{Contains, option_map, if◌then◌else◌}
use Rattle.c_tree.specs.declared.raw.program.RawParam.{RawParam}
use Rattle.std.proofs.lemmas.List.Elements.{Contains-append_left, Contains-append_right}
use Rattle.c_language.proofs.Operands.{seen-Constant}
use Rattle.c_arith.specs.declared.operators.BinaryOp.{BinaryOp}
use Rattle.c_tree.specs.declared.raw.expr.RawExpr.{RawExpr}
use Rattle.c_tree.specs.declared.raw.expr.RawExpr.TheOpen.{RawExpr-F}
use Rattle.c_tree.specs.declared.raw.expr.RawType.{RawType}
use Rattle.c_tree.specs.declared.raw.expr.RawVar.{RawVar}
use Rattle.c_tree.specs.declared.raw.program.RawInit.{RawInit}
use Rattle.c_tree.specs.declared.raw.program.RawInit.TheVariants as init
use Rattle.c_tree.specs.declared.raw.program.RawHead.{RawHead}
use Rattle.c_tree.specs.declared.raw.program.RawProgram.{RawProgram}
use Rattle.c_tree.specs.declared.raw.statement.RawTarget.{RawTarget}
use Rattle.c_tree.specs.declared.raw.statement.RawTarget.TheVariants as target
use Rattle.c_tree.specs.declared.raw.statement.RawArg.{RawArg}
use Rattle.c_tree.specs.declared.raw.statement.RawStatement.{RawStatement}
use Rattle.c_tree.specs.declared.raw.statement.RawTypeName.{RawTypeName}
use Rattle.c_tree.specs.declared.raw.statement.RawSize.{RawSize}
use Rattle.c_tree.specs.declared.raw.statement.RawSize.TheVariants as size
use Rattle.c_tree.specs.declared.raw.statement.RawAmount.{RawAmount}
use Rattle.c_tree.specs.declared.raw.statement.RawAmount.TheVariants as amount
use Rattle.c_language.specs.Words.{Bytes}
use Rattle.c_language.specs.TypeGrammar.{named_type}
use Rattle.c_language.specs.DeclaredTypes.{StructText, definition_of, positive, type_with, type_or_void, result_type, parameter_types}
use Rattle.c_language.specs.Scopes.{Scope, meaning_in, meaning_here}
use Rattle.c_language.specs.ExprTypes.{operand}
use Rattle.c_language.specs.ExprRules.{Seen, seen, is_undeclared, lacks_header, has_bad_operand, has_no_address, needs_struct, selects_missing, holds_of, points_to_incomplete, moves_incomplete}
use Rattle.c_language.specs.Formats.{Conversion}
use Rattle.c_language.specs.Phrases.{Stand, InFile, InArm, InFor, Part, NamesStruct, DefinesStruct, HasMember, DeclaresFunction, Takes, EndsFunction, Declares, Begins, Assigns, Bumps, Calls, Allocates, Tests, Switches, Returns}
use Rattle.c_language.specs.Uses.{lengths_of, expressions, arg_exprs, target_exprs, counts, sizes, cases, Holds, holds, tags, tags_if, is_library_name, is_library_function}
use Rattle.c_language.specs.Rules.{Breaks}
use Rattle.c_language.specs.NameRules.{main_name, IsDefinedBefore, agree, all_agree, same_signature, UsesUndeclared, DeclaresAgain, Shadows, DeclaresLibraryName, MisusesMain, LacksDefinition, LacksHeader}
use Rattle.c_language.specs.StructRules.{MisusesTag, MisnamesMember}
use Rattle.c_language.specs.ArrayRules.{HasNoElement, LacksConstant, HasUnfit, MisusesInitialiser}
use Rattle.c_language.specs.SwitchRules.{MisusesSwitch, MisplacesDeclaration}
use Rattle.c_language.specs.TypeRules.{MisusesOperator, AssignsOtherType, IsNoTarget, AssignsNoPlace, MisusesAddress}
use Rattle.c_language.specs.CallRules.{HasUnfitArgument, MisusesArguments, target_type, head_around, MisusesResult, MisusesReturn, HasUnfitWidth, MisusesFormat, HasOtherSize, MisusesAllocation, MisusesLibrary}
use Rattle.c_language.specs.declared.expr_type.ExprType.{ExprType}
use Rattle.c_language.specs.declared.expr_type.Operand.{Operand}
use Rattle.c_language.specs.CountConstants.{IsCountConstant}
use Rattle.c_language.proofs.Options.{none_there, some_same, unmapped}
use Rattle.c_language.proofs.Tests.{false_true}
use Rattle.c_language.proofs.Lists.{contains_first, contains_later}
use Rattle.c_language.proofs.UseLemmas.{only_part, only_in}
use Rattle.c_scope_laws.specs.Agreement.{Names, in_expression, measured, NamesFunction, DeclaresName, DeclaresHead, moved_meaning, Heads, head_left, PlacesAgree, SameVariable, StandsFor, there, CallStandsFor, as_it_is, elsewhere, StoresLess, kept, lost, args_left, EndsToo, GivesAround, ReturnFits, PartsAgree, declares_function, takes, returns, declares, begins, ends, calls}
use Rattle.c_scope_laws.proofs.ChosenLists.{chosen_length}
use Rattle.c_scope_laws.proofs.LeftHeads.{defined_name, all_args, chosen_args, left_exprs, unfit_chosen, parameters_left, result_stays, result_there, signature_left}
use Rattle.projection.specs.Kept.{chosen}
use Rattle.c_scope_laws.proofs.Within.{held_within}
use Rattle.c_scope_laws.proofs.Outside.{struct_ids, types_same, variable_same, results_same, parameters_same}
use Rattle.c_scope_laws.proofs.Meanings.{function_back, variable_back}
use Rattle.c_scope_laws.proofs.ExprAgreement.{Covers, operands_same}
use Rattle.c_scope_laws.proofs.StatementAgreement.{CoversAll, rest_args, later_covered, part_covers, left_covered, right_covered}
use Rattle.c_scope_laws.proofs.SeenTests.{complete_same, points_in_same, moves_same, undeclared_at, operators_at, headers_at, needs_at, missing_at, address_at}

-- ---- parts

-- lists one after the other, of which the first has more
in_parts : (xs more ys : List RawExpr) → ((a : RawExpr) → Contains xs a → Contains more a) → (a : RawExpr) → Contains (xs ++ ys) a → Contains (more ++ ys) a
in_parts [] more ys h a c = Contains-append_right more ys a c
in_parts (x ∷ xs) more ys h a (zero, within, is) = Contains-append_left more ys a (h a (0, omega arith, is))
in_parts (x ∷ xs) more ys h a (suc k, within, is) = in_parts xs more ys (λ b j. h b (contains_later x b xs j)) a (k, omega (arith, within), is)

-- and of which the second has more
later_parts : (xs ys more : List RawExpr) → ((a : RawExpr) → Contains ys a → Contains more a) → (a : RawExpr) → Contains (xs ++ ys) a → Contains (xs ++ more) a
later_parts [] ys more h a c = h a c
later_parts (x ∷ xs) ys more h a (zero, within, is) = (0, omega arith, is)
later_parts (x ∷ xs) ys more h a (suc k, within, is) = contains_later x a (xs ++ more) (later_parts xs ys more h a (k, omega (arith, within), is))

-- these are all names of a part
pub record Allows (named functions declared headed : Bytes → Type 0) (part : Part) : Type 0 where
  pub names : (x : Bytes) → Names part x → named x
  pub heads : (x : Bytes) → NamesFunction part x → functions x
  pub declares : (x : Bytes) → DeclaresName part x → declared x
  pub declares_head : (x : Bytes) → DeclaresHead part x → headed x

-- a part that is the same in both texts
abbrev keeps_part : Part → Bool
keeps_part (NamesStruct t) = true
keeps_part (DefinesStruct t) = true
keeps_part (HasMember before m) = true
keeps_part (DeclaresFunction h d) = false
keeps_part (Takes before p) = false
keeps_part (EndsFunction h body) = false
keeps_part (Declares stand v i) = false
keeps_part (Begins stand v i) = false
keeps_part (Assigns a op b) = true
keeps_part (Bumps a) = true
keeps_part (Calls stand to f args) = false
keeps_part (Allocates to cast n) = true
keeps_part (Tests a) = true
keeps_part (Switches a labels) = true
keeps_part (Returns a) = false

-- ---- stands and targets

in_file : {stand : Stand} {is_static : Bool} → StandsFor stand (InFile is_static) → stand ≡ InFile is_static
in_file there = refl

in_arm : {stand : Stand} → StandsFor stand InArm → stand ≡ InArm
in_arm there = refl

in_for : {stand : Stand} → CallStandsFor stand InFor → stand ≡ InFor
in_for as_it_is = refl
in_for (elsewhere h) = false_true (sym h)

stores_place : {heads : Heads} {g : Bytes} {to : RawTarget} {a : RawExpr} → StoresLess heads g to (target.Place a) → to ≡ target.Place a
stores_place (kept gives) = refl

stores_declared : {heads : Heads} {g : Bytes} {to : RawTarget} {v : RawVar} → StoresLess heads g to (target.Declared v) → to ≡ target.Declared v
stores_declared (kept gives) = refl

stores_none : {heads : Heads} {g : Bytes} {to less : RawTarget} → StoresLess heads g to less → less ≢ target.None → to ≢ target.None
stores_none (kept gives) h = h
stores_none lost h = absurd (h refl)

-- a function whose result is stored gives one still
stores_given : {heads : Heads} {g : Bytes} {to less : RawTarget} → StoresLess heads g to less → less ≢ target.None → is_library_function g ≡ false → heads.gives g ≡ true
stores_given (kept {to = target.None} gives) h strange = absurd (h refl)
stores_given (kept {to = target.Place a} gives) h strange = gives strange
stores_given (kept {to = target.Declared v} gives) h strange = gives strange
stores_given lost h strange = absurd (h refl)

stored_in : {heads : Heads} {g : Bytes} {to less : RawTarget} → StoresLess heads g to less → (a : RawExpr) → Contains (target_exprs less) a → Contains (target_exprs to) a
stored_in (kept gives) a c = c
stored_in lost a (k, within, is) = absurd (omega (arith, within))

module _ (heads : Heads) (f : ℕ → ℕ) (named functions declared headed : Bytes → Type 0) (raw other : RawProgram) (scope next : Scope) (fit : PlacesAgree heads f named functions declared headed raw other scope next) where
  -- a fact about what a declaration, an initialiser or a call stands for
  declared_moves : {part : Part} {place : Stand} {w : RawVar} {j : RawInit} (X : Part → Type 0) → PartsAgree heads raw other scope part (Declares place w j)
      → ((stand : Stand) (v : RawVar) (i : RawInit) → StandsFor stand place → SameVariable raw other v i w j → X (Declares stand v i)) → X part
  declared_moves {place} {w} {j} X (PartsAgree.same is) h = h place w j there (variable_same raw other fit.outside w j)
  declared_moves X (declares {stand} {v} {i} s like) h = h stand v i s like

  begun_moves : {part : Part} {place : Stand} {v : RawVar} {i : RawInit} (X : Part → Type 0) → PartsAgree heads raw other scope part (Begins place v i)
      → ((stand : Stand) → StandsFor stand place → X (Begins stand v i)) → X part
  begun_moves {place} X (PartsAgree.same is) h = h place there
  begun_moves X (begins {stand} s) h = h stand s

  called_moves : {part : Part} {place : Stand} {less : RawTarget} {g : Bytes} {some : List RawArg} (X : Part → Type 0) → PartsAgree heads raw other scope part (Calls place less g some)
      → ((stand : Stand) (to : RawTarget) (args : List RawArg) → CallStandsFor stand place → StoresLess heads g to less → some ≡ args_left heads g args → X (Calls stand to g args)) → X part
  called_moves X (PartsAgree.same is) h = false_true is
  called_moves X (calls {stand} {to} {args} s k same) h = h stand to args s k same

  -- one of the library has all its arguments
  library_called : {part : Part} {place : Stand} {less : RawTarget} {g : Bytes} {some : List RawArg} (X : Part → Type 0) → is_library_function g ≡ true → PartsAgree heads raw other scope part (Calls place less g some)
      → ((stand : Stand) (to : RawTarget) → CallStandsFor stand place → StoresLess heads g to less → X (Calls stand to g some)) → X part
  library_called {g} {some} X known a h =
      called_moves X a (λ stand to args s k same. subst (λ (as_ : List RawArg). X (Calls stand to g as_)) (same ∙ all_args heads g args known) (h stand to s k))

  ended_moves : {part : Part} {final : RawHead} {less : List RawStatement} (X : Part → Type 0) → PartsAgree heads raw other scope part (EndsFunction final less)
      → ((head : RawHead) (body : List RawStatement) → final ≡ head_left heads head → EndsToo heads head body less → X (EndsFunction head body)) → X part
  ended_moves X (PartsAgree.same is) h = false_true is
  ended_moves X (ends {head} {body} same k) h = h head body same k

  headed_moves : {part : Part} {less : RawHead} {is_definition : Bool} (X : Part → Type 0) → PartsAgree heads raw other scope part (DeclaresFunction less is_definition)
      → ((head : RawHead) → less ≡ head_left heads head → (head.name ≡ main_name → heads.gives head.name ≡ true) → X (DeclaresFunction head is_definition)) → X part
  headed_moves X (PartsAgree.same is) h = false_true is
  headed_moves X (declares_function {head} same main) h = h head same main

  taken_moves : {part : Part} {less : List RawParam} {p : RawParam} (X : Part → Type 0) → PartsAgree heads raw other scope part (Takes less p)
      → ((before : List RawParam) → ((q : RawParam) → Contains less q → Contains before q) → X (Takes before p)) → X part
  taken_moves X (PartsAgree.same is) h = false_true is
  taken_moves X (takes {before} within) h = h before within

  returned_moves : {part : Part} {value : Option RawExpr} (X : Part → Type 0) → PartsAgree heads raw other scope part (Returns value)
      → (ReturnFits heads (head_around raw scope) value → X (Returns value)) → X part
  returned_moves X (PartsAgree.same is) h = false_true is
  returned_moves X (returns fits) h = h fits

  kept_part : {part changed : Part} → keeps_part changed ≡ true → PartsAgree heads raw other scope part changed → part ≡ changed
  kept_part h (PartsAgree.same is) = refl
  kept_part h (declares s k) = false_true h
  kept_part h (begins s) = false_true h
  kept_part h (ends same k) = false_true h
  kept_part h (calls s k same) = false_true h
  kept_part h (declares_function same main) = false_true h
  kept_part h (takes within) = false_true h
  kept_part h (returns fits) = false_true h

  -- a fact about a kept part
  moved : {part changed : Part} (X : Part → Type 0) → keeps_part changed ≡ true → PartsAgree heads raw other scope part changed → X changed → X part
  moved X is h x = subst X (sym (kept_part is h)) x

  -- ---- expressions, tags and lengths of a part

  expressions_agree : {part changed : Part} → PartsAgree heads raw other scope part changed → (a : RawExpr) → Contains (expressions changed) a → Contains (expressions part) a ⊎ IsCountConstant a
  expressions_agree (PartsAgree.same is) a c = inl c
  expressions_agree (declares s h) a c = h.lengths a c
  expressions_agree (begins s) a c = inl c
  expressions_agree (ends same h) a c = inl c
  expressions_agree (calls {to} {less} {f = g} {args} {some} s k same) a c =
      inl (later_parts (target_exprs to) (arg_exprs some) (arg_exprs args)
      (λ b j. left_exprs heads g args b (subst (λ (as_ : List RawArg). Contains (arg_exprs as_) b) same j)) a
      (in_parts (target_exprs less) (target_exprs to) (arg_exprs some) (stored_in k) a c))
  expressions_agree (declares_function same main) a c = inl c
  expressions_agree (takes within) a c = inl c
  expressions_agree (returns fits) a c = inl c

  lengths_agree : {part changed : Part} → PartsAgree heads raw other scope part changed → (a : RawExpr) → Contains (lengths_of changed) a → Contains (lengths_of part) a ⊎ IsCountConstant a
  lengths_agree (PartsAgree.same is) a c = inl c
  lengths_agree (declares s h) a c = h.lengths a c
  lengths_agree (begins s) a c = inl c
  lengths_agree (ends same h) a c = inl c
  lengths_agree (calls s k same) a c = inl c
  lengths_agree (declares_function same main) a c = inl c
  lengths_agree (takes within) a c = inl c
  lengths_agree (returns fits) a c = inl c

  -- a tag of what stays of a head is one of the head
  result_tags : (head less : RawHead) (w : Bytes) → less ≡ head_left heads head → Contains (tags_if less.result) w → Contains (tags_if head.result) w
  result_tags head less w same c = by_test (heads.gives head.name) (subst (λ (h : RawHead). Contains (tags_if h.result) w) same c)
    where
      by_test : (b : Bool) → Contains (tags_if (if b then head.result else None)) w → Contains (tags_if head.result) w
      by_test true c = c
      by_test false (i, within, is) = absurd (omega (arith, within))

  tags_agree : {part changed : Part} → PartsAgree heads raw other scope part changed → (w : Bytes) → Contains (tags changed) w → Contains (tags part) w
  tags_agree (PartsAgree.same is) w c = c
  tags_agree (declares s h) w c = subst (λ (ws : List Bytes). Contains ws w) h.tags c
  tags_agree (begins s) w c = c
  tags_agree (ends same h) w c = c
  tags_agree (calls s k same) w c = c
  tags_agree (declares_function {head} {less} same main) w c = result_tags head less w same c
  tags_agree (takes within) w c = c
  tags_agree (returns fits) w c = c

  -- what a test on forms tells of an expression of the other part, it tells of one of the part
  held_if : {part changed : Part} (test : Seen → Bool) → ((text : Bytes) → test (RawExpr-F.Constant text) ≡ false) → (inner : RawExpr) → PartsAgree heads raw other scope part changed → Holds changed inner
      → test (seen raw scope inner) ≡ true → Holds part inner
  held_if test none inner h (holds {e = a} c w) is = elim (expressions_agree h a c) [
    | inl k ↦ holds k w
    | inr k ↦ false_true (sym (none k.text) ∙ ap test (sym (ap (seen raw scope) (only_part a inner k.text k.is w) ∙ seen-Constant raw scope k.text)) ∙ is)
  ]

  -- ---- what is said of expressions

  op : (a : RawExpr) → Covers named a → operand raw scope a ≡ operand other next a
  op a c = sym (operands_same f named raw other scope next fit.outside fit.scopes a c)

  types : (items : ℕ) (a : RawType) → type_with raw items a ≡ type_with other items a
  types items a = sym (types_same raw other fit.outside items a)

  meaning : (x : Bytes) → named x → option_map (moved_meaning f) (meaning_in scope x) ≡ meaning_in next x
  meaning x h = sym (fit.scopes.names x h)

  -- a function that is defined in the other text has what stays of its head in the text
  record IsDefined (x : Bytes) (h : RawHead) : Type 0 where
    pub head : RawHead
    pub there : definition_of raw x ≡ Some head
    pub left : h ≡ head_left heads head
    pub name : head.name ≡ x

  defined : (x : Bytes) (h : RawHead) → functions x → definition_of other x ≡ Some h → IsDefined x h
  defined x h n at = by_head (definition_of raw x) refl (sym (fit.functions.definitions x n) ∙ at)
    where
      by_head : (o : Option RawHead) → definition_of raw x ≡ o → option_map (head_left heads) o ≡ Some h → IsDefined x h
      by_head None here at = none_there at
      by_head (Some g) here at = record { head = g; there = here; left = sym (some_same at); name = defined_name raw x g here }

  undefined : (x : Bytes) → functions x → definition_of other x ≡ None → definition_of raw x ≡ None
  undefined x n none = unmapped (head_left heads) (definition_of raw x) (sym (fit.functions.definitions x n) ∙ none)

  results : (h : RawHead) → result_type raw h ≡ result_type other h
  results h = sym (results_same raw other fit.outside h)

  parameters : (h : RawHead) → parameter_types raw h ≡ parameter_types other h
  parameters h = sym (parameters_same raw other fit.outside h)

  signatures : (h g : RawHead) → same_signature raw h g ≡ same_signature other h g
  signatures h g = ap₂ (λ (a b : Bool). a && b) (ap₂ agree (results h) (results g)) (ap₂ all_agree (parameters h) (parameters g))

  targets : (to : RawTarget) → CoversAll named (target_exprs to) → target_type raw scope to ≡ target_type other next to
  targets target.None c = refl
  targets (target.Place a) c = ap (option_map (λ (x : Operand). x.shape)) (op a (c a (contains_first a [])))
  targets (target.Declared v) c = types 0 v.shape

  unfit_argument : {ts : List (Option ExprType)} {args : List RawArg} → CoversAll named (arg_exprs args) → HasUnfitArgument other next ts args → HasUnfitArgument raw scope ts args
  unfit_argument c (HasUnfitArgument.value {e = a} {args} is isnt) = HasUnfitArgument.value (op a (c a (contains_first a (arg_exprs args))) ∙ is) isnt
  unfit_argument c HasUnfitArgument.literal = HasUnfitArgument.literal
  unfit_argument c (HasUnfitArgument.later {a} {args} h) = HasUnfitArgument.later (unfit_argument (rest_args a args c) h)

  unfit_width : {cs : List Conversion} {args : List RawArg} → CoversAll named (arg_exprs args) → HasUnfitWidth other next cs args → HasUnfitWidth raw scope cs args
  unfit_width c (HasUnfitWidth.value {e = a} {args} is isnt) = HasUnfitWidth.value (op a (c a (contains_first a (arg_exprs args))) ∙ is) isnt
  unfit_width c HasUnfitWidth.literal = HasUnfitWidth.literal
  unfit_width c (HasUnfitWidth.later {a} {args} h) = HasUnfitWidth.later (unfit_width (rest_args a args c) h)

  other_size : {object : ExprType} {m : RawSize} → ((x : Bytes) (closed : Bool) → size.Pointee x closed ≡ m → named x) → HasOtherSize other next object m → HasOtherSize raw scope object m
  other_size c (HasOtherSize.of_type {t} is isnt) = HasOtherSize.of_type (types 0 (named_type t) ∙ is) isnt
  other_size c (HasOtherSize.of_target {name} {closed} {id} {t} is typed isnt) =
      let k = variable_back f (meaning_in scope name) id (Some t) (meaning name (c name closed refl) ∙ is) in HasOtherSize.of_target k.1 typed isnt
  other_size c (HasOtherSize.of_no_pointer {name} {closed} {id} {t} is none) =
      let k = variable_back f (meaning_in scope name) id (Some t) (meaning name (c name closed refl) ∙ is) in HasOtherSize.of_no_pointer k.1 none
  other_size c (HasOtherSize.of_function {name} {closed} is) = HasOtherSize.of_function (function_back f (meaning_in scope name) (meaning name (c name closed refl) ∙ is))

  no_target : {a : RawExpr} → Covers named a → IsNoTarget other next a → IsNoTarget raw scope a
  no_target {a} c (IsNoTarget.no_place is isnt) = IsNoTarget.no_place (op a c ∙ is) isnt
  no_target {a} c (IsNoTarget.no_scalar is isnt) = IsNoTarget.no_scalar (op a c ∙ is) isnt

  unfit_item : (t : ExprType) (all : List RawExpr) → CoversAll named all → HasUnfit other next t all → HasUnfit raw scope t all
  unfit_item t all c h = (h.0, h.1, (h.2.0, op h.0 (c h.0 h.1) ∙ h.2.1, h.2.2))

  -- ---- each rule

  -- an expression of a part is covered with all that stands in it
  inner_covered : {changed : Part} → Allows named functions declared headed changed → (inner : RawExpr) → Holds changed inner → Covers named inner
  inner_covered c inner h x n = c.names x (in_expression (held_within h n))

  undeclared_moves : {part changed : Part} → PartsAgree heads raw other scope part changed → Allows named functions declared headed changed → UsesUndeclared other next changed → UsesUndeclared raw scope part
  undeclared_moves a c (UsesUndeclared.in_expression {inner} h is) =
      let k = sym (undeclared_at f named raw other scope next fit.outside fit.scopes inner (inner_covered c inner h)) ∙ is in
      UsesUndeclared.in_expression (held_if (is_undeclared scope) (λ text. refl) inner a h k) k
  undeclared_moves a c (UsesUndeclared.called {f = g} x y) =
      called_moves (UsesUndeclared raw scope) a (λ spot to_ args_ fits stores some_. UsesUndeclared.called x (λ is. y (sym (meaning g (c.names g Names.called)) ∙ ap (option_map (moved_meaning f)) is)))
  undeclared_moves a c (UsesUndeclared.measured {name} x y) =
      moved (UsesUndeclared raw scope) refl a (UsesUndeclared.measured x (unmapped (moved_meaning f) (meaning_in scope name) (meaning name (c.names name (measured x)) ∙ y)))

  again_moves : {part changed : Part} → PartsAgree heads raw other scope part changed → Allows named functions declared headed changed → DeclaresAgain other next changed → DeclaresAgain raw scope part
  again_moves a c (DeclaresAgain.variable {var = w} h) =
      declared_moves (DeclaresAgain raw scope) a (λ spot v i fits like.
      DeclaresAgain.variable (λ none. h (fit.less.here w.name (c.declares w.name DeclaresName.variable) (ap (meaning_here scope) like.name ∙ none))))
  again_moves a c (DeclaresAgain.function {head} {id} {t} h) =
      let v = fit.less.variables head.name (c.declares_head head.name DeclaresHead.head) (id, t, h) in
      headed_moves (DeclaresAgain raw scope) a (λ whole same main. DeclaresAgain.function (ap (meaning_here scope) (ap (λ (g : RawHead). g.name) (sym same)) ∙ v.2))
  again_moves a c (DeclaresAgain.definition {head} h) =
      headed_moves (DeclaresAgain raw scope) a (λ whole same main. DeclaresAgain.definition (subst (IsDefinedBefore raw scope) (ap (λ (g : RawHead). g.name) same) (fit.functions.before head.name h)))
  again_moves a c (DeclaresAgain.parameter {q} x first second) = taken_moves (DeclaresAgain raw scope) a (λ before within. DeclaresAgain.parameter (within q x) first second)

  shadows_moves : {part changed : Part} → PartsAgree heads raw other scope part changed → Allows named functions declared headed changed → Shadows other next changed → Shadows raw scope part
  shadows_moves a c (Shadows.variable {var = w} h) =
      declared_moves (Shadows raw scope) a (λ spot v i fits like.
      Shadows.variable (λ none. h (fit.less.everywhere w.name (c.declares w.name DeclaresName.variable) (ap (meaning_in scope) like.name ∙ none))))

  library_name_moves : {part changed : Part} → PartsAgree heads raw other scope part changed → DeclaresLibraryName other next changed → DeclaresLibraryName raw scope part
  library_name_moves a (DeclaresLibraryName.variable h) =
      declared_moves (DeclaresLibraryName raw scope) a (λ spot v i fits like. DeclaresLibraryName.variable (ap is_library_name (sym like.name) ∙ h))
  library_name_moves a (DeclaresLibraryName.function h) = headed_moves (DeclaresLibraryName raw scope) a (λ whole same main. DeclaresLibraryName.function (ap is_library_name (ap (λ (g : RawHead). g.name) (sym same)) ∙ h))
  library_name_moves a (DeclaresLibraryName.parameter is h) = taken_moves (DeclaresLibraryName raw scope) a (λ before within. DeclaresLibraryName.parameter is h)
  library_name_moves a (DeclaresLibraryName.tag h) = moved (DeclaresLibraryName raw scope) refl a (DeclaresLibraryName.tag h)
  library_name_moves a (DeclaresLibraryName.member h) = moved (DeclaresLibraryName raw scope) refl a (DeclaresLibraryName.member h)

  main_moves : {part changed : Part} → PartsAgree heads raw other scope part changed → MisusesMain other next changed → MisusesMain raw scope part
  main_moves a (MisusesMain.prototype is) = headed_moves (MisusesMain raw scope) a (λ whole same main. MisusesMain.prototype (ap (λ (g : RawHead). g.name) (sym same) ∙ is))
  main_moves a (MisusesMain.again is h) = headed_moves (MisusesMain raw scope) a (λ whole same main. MisusesMain.again (ap (λ (g : RawHead). g.name) (sym same) ∙ is) (fit.functions.before main_name h))
  main_moves a (MisusesMain.no_int is h) =
      headed_moves (MisusesMain raw scope) a (λ whole same main.
      let name = ap (λ (g : RawHead). g.name) (sym same) ∙ is in
      MisusesMain.no_int name (λ int. h (ap (λ (g : RawHead). g.result) same ∙ result_stays raw heads whole (main name) ∙ int)))
  main_moves a (MisusesMain.parameters is h) =
      headed_moves (MisusesMain raw scope) a (λ whole same main.
      MisusesMain.parameters (ap (λ (g : RawHead). g.name) (sym same) ∙ is) (λ none. h (ap (λ (g : RawHead). g.params) same ∙ ap (chosen (heads.parameter whole.name) 0) none)))
  main_moves a MisusesMain.called = called_moves (MisusesMain raw scope) a (λ spot to_ args_ fits stores some_. MisusesMain.called)

  no_definition_moves : {part changed : Part} → PartsAgree heads raw other scope part changed → Allows named functions declared headed changed → LacksDefinition other next changed → LacksDefinition raw scope part
  no_definition_moves a c (LacksDefinition.called {f = g} is none) =
      called_moves (LacksDefinition raw scope) a (λ spot to_ args_ fits stores some_. LacksDefinition.called (function_back f (meaning_in scope g) (meaning g (c.names g Names.called) ∙ is)) (undefined g (c.heads g NamesFunction.called) none))
  no_definition_moves a c (LacksDefinition.prototype {head} none) =
      headed_moves (LacksDefinition raw scope) a (λ whole same main. LacksDefinition.prototype (ap (definition_of raw) (ap (λ (g : RawHead). g.name) (sym same)) ∙ undefined head.name (c.heads head.name NamesFunction.declared) none))
  no_definition_moves a c (LacksDefinition.differs {head} {f = g} is differs) =
      headed_moves (LacksDefinition raw scope) a (λ whole same main.
      let name : head.name ≡ whole.name = ap (λ (g : RawHead). g.name) same in
      let d = defined head.name g (c.heads head.name NamesFunction.declared) is in
      LacksDefinition.differs (ap (definition_of raw) (sym name) ∙ d.there)
      (by_test (same_signature raw whole d.head) (same_signature raw (head_left heads whole) (head_left heads d.head)) (λ like. signature_left raw heads whole d.head (d.name ∙ name) like)
      (sym (ap₂ (same_signature raw) same d.left) ∙ signatures head g ∙ differs)))
    where
      by_test : (b x : Bool) → (b ≡ true → x ≡ true) → x ≡ false → b ≡ false
      by_test true x h differ = sym (h refl) ∙ differ
      by_test false x h differ = refl

  tag_moves : {part changed : Part} → PartsAgree heads raw other scope part changed → Allows named functions declared headed changed → MisusesTag other next changed → MisusesTag raw scope part
  tag_moves a c (MisusesTag.undefined {tag = w} k none) = MisusesTag.undefined (tags_agree a w k) (sym (struct_ids raw other fit.outside w) ∙ none)
  tag_moves a c (MisusesTag.again {tag = w} {s} k is) =
      moved (MisusesTag raw scope) refl a (MisusesTag.again (subst (λ (all : List StructText). Contains all s) (ap₂ (λ (n : ℕ) (all : List StructText). take n all) fit.scopes.structs fit.outside.structs) k) is)
  tag_moves a c (MisusesTag.object {t} typed isnt) =
      declared_moves (MisusesTag raw scope) a (λ spot v i fits like.
      MisusesTag.object (sym like.type ∙ typed) (sym (complete_same f named raw other scope next fit.outside fit.scopes t) ∙ isnt))
  tag_moves a c (MisusesTag.member {m} {t} typed isnt) =
      moved (MisusesTag raw scope) refl a (MisusesTag.member (types 0 m.shape ∙ typed) (sym (complete_same f named raw other scope next fit.outside fit.scopes t) ∙ isnt))
  tag_moves a c (MisusesTag.in_expression {inner} h is) =
      let k = sym (needs_at f named raw other scope next fit.outside fit.scopes inner (inner_covered c inner h)) ∙ is in
      MisusesTag.in_expression (held_if (needs_struct scope) (λ text. refl) inner a h k) k
  tag_moves a c (MisusesTag.bumped {left = x} is) =
      let cover = part_covers (Bumps x) c.names x (contains_first x []) in
      moved (MisusesTag raw scope) refl a (MisusesTag.bumped (ap (holds_of (points_to_incomplete scope)) (op x cover) ∙ sym (points_in_same f named raw other scope next fit.outside fit.scopes (operand other next x)) ∙ is))
  tag_moves a c (MisusesTag.compound {left = x} {right = y} {op = o} is) =
      let cover = part_covers (Assigns x (Some o) y) c.names in
      moved (MisusesTag raw scope) refl a (MisusesTag.compound
      (ap₂ (moves_incomplete scope o) (op x (cover x (contains_first x (y ∷ [])))) (op y (cover y (contains_later x y (y ∷ []) (contains_first y []))))
      ∙ sym (moves_same f named raw other scope next fit.outside fit.scopes o (operand other next x) (operand other next y)) ∙ is))
  tag_moves a c (MisusesTag.size_of_type {t} {object} k typed isnt) =
      moved (MisusesTag raw scope) refl a (MisusesTag.size_of_type k (types 0 (named_type t) ∙ typed) (sym (complete_same f named raw other scope next fit.outside fit.scopes object) ∙ isnt))
  tag_moves a c (MisusesTag.size_of_target {name} {id} {t} {object} k is typed isnt) =
      let v = variable_back f (meaning_in scope name) id (Some t) (meaning name (c.names name (measured k)) ∙ is) in
      moved (MisusesTag raw scope) refl a (MisusesTag.size_of_target k v.1 typed (sym (complete_same f named raw other scope next fit.outside fit.scopes object) ∙ isnt))

  member_moves : {part changed : Part} → PartsAgree heads raw other scope part changed → Allows named functions declared headed changed → MisnamesMember other next changed → MisnamesMember raw scope part
  member_moves a c (MisnamesMember.again k is) = moved (MisnamesMember raw scope) refl a (MisnamesMember.again k is)
  member_moves a c (MisnamesMember.missing {inner} h is) =
      let k = sym (missing_at f named raw other scope next fit.outside fit.scopes inner (inner_covered c inner h)) ∙ is in
      MisnamesMember.missing (held_if (selects_missing raw) (λ text. refl) inner a h k) k

  no_element_moves : {part changed : Part} → PartsAgree heads raw other scope part changed → HasNoElement changed → HasNoElement part
  no_element_moves a (HasNoElement.too_short {n} {z} k is none) = elim (lengths_agree a n k) [
    | inl j ↦ HasNoElement.too_short j is none
    | inr j ↦ none_there (sym none ∙ ap positive (some_same (sym is ∙ j.value)))
  ]

  no_constant_moves : {part changed : Part} → PartsAgree heads raw other scope part changed → LacksConstant other next changed → LacksConstant raw scope part
  no_constant_moves a (LacksConstant.written_length {n} k none) = elim (lengths_agree a n k) [
    | inl j ↦ LacksConstant.written_length j none
    | inr j ↦ none_there (sym none ∙ j.value)
  ]
  no_constant_moves a (LacksConstant.label k none) = moved (LacksConstant raw scope) refl a (LacksConstant.label k none)
  no_constant_moves a (LacksConstant.global {var = v} {e = x} typed h) = begun_moves (LacksConstant raw scope) a (λ spot fits. subst (λ (p : Stand). LacksConstant raw scope (Begins p v (init.One x))) (sym (in_file fits)) (LacksConstant.global (types 0 v.shape ∙ typed) h))
  no_constant_moves a (LacksConstant.item {var = v} {es} typed element k h) = begun_moves (LacksConstant raw scope) a (λ spot fits. subst (λ (p : Stand). LacksConstant raw scope (Begins p v (init.Items es))) (sym (in_file fits)) (LacksConstant.item (types (length es) v.shape ∙ typed) element k h))

  switch_moves : {part changed : Part} → PartsAgree heads raw other scope part changed → Allows named functions declared headed changed → MisusesSwitch other next changed → MisusesSwitch raw scope part
  switch_moves a c (MisusesSwitch.no_integer {test} {labels} is none) =
      moved (MisusesSwitch raw scope) refl a (MisusesSwitch.no_integer (op test (part_covers (Switches test labels) c.names test (contains_first test (cases labels))) ∙ is) none)
  switch_moves a c (MisusesSwitch.equal_labels {test} {labels} is int h) =
      moved (MisusesSwitch raw scope) refl a (MisusesSwitch.equal_labels (op test (part_covers (Switches test labels) c.names test (contains_first test (cases labels))) ∙ is) int h)
  switch_moves a c (MisusesSwitch.defaults h) = moved (MisusesSwitch raw scope) refl a (MisusesSwitch.defaults h)

  -- the two sides of an assignment are covered
  left_side : (x y : RawExpr) (o : Option BinaryOp) → Allows named functions declared headed (Assigns x o y) → Covers named x
  left_side x y o c = part_covers (Assigns x o y) c.names x (contains_first x (y ∷ []))

  right_side : (x y : RawExpr) (o : Option BinaryOp) → Allows named functions declared headed (Assigns x o y) → Covers named y
  right_side x y o c = part_covers (Assigns x o y) c.names y (contains_later x y (y ∷ []) (contains_first y []))

  operator_moves : {part changed : Part} → PartsAgree heads raw other scope part changed → Allows named functions declared headed changed → MisusesOperator other next changed → MisusesOperator raw scope part
  operator_moves a c (MisusesOperator.in_expression {inner} h is) =
      let k = sym (operators_at f named raw other scope next fit.outside fit.scopes inner (inner_covered c inner h)) ∙ is in
      MisusesOperator.in_expression (held_if (has_bad_operand scope) (λ text. refl) inner a h k) k
  operator_moves a c (MisusesOperator.test {test} is isnt) = moved (MisusesOperator raw scope) refl a (MisusesOperator.test (op test (part_covers (Tests test) c.names test (contains_first test [])) ∙ is) isnt)
  operator_moves a c (MisusesOperator.compound {left} {right} {op = o} x y none) =
      moved (MisusesOperator raw scope) refl a (MisusesOperator.compound (op left (left_side left right (Some o) c) ∙ x) (op right (right_side left right (Some o) c) ∙ y) none)
  operator_moves a c (MisusesOperator.bump {left} x none) = moved (MisusesOperator raw scope) refl a (MisusesOperator.bump (op left (part_covers (Bumps left) c.names left (contains_first left [])) ∙ x) none)

  other_type_moves : {part changed : Part} → PartsAgree heads raw other scope part changed → Allows named functions declared headed changed → AssignsOtherType other next changed → AssignsOtherType raw scope part
  other_type_moves a c (AssignsOtherType.simple {left} {right} x y scalar isnt) =
      moved (AssignsOtherType raw scope) refl a (AssignsOtherType.simple (op left (left_side left right None c) ∙ x) (op right (right_side left right None c) ∙ y) scalar isnt)
  other_type_moves a c (AssignsOtherType.compound {left} {right} {op = o} x y gives scalar isnt) =
      moved (AssignsOtherType raw scope) refl a (AssignsOtherType.compound (op left (left_side left right (Some o) c) ∙ x) (op right (right_side left right (Some o) c) ∙ y) gives scalar isnt)
  other_type_moves a c (AssignsOtherType.initialiser {stand} {var = v} {right} typed y scalar isnt) =
      begun_moves (AssignsOtherType raw scope) a (λ spot fits. AssignsOtherType.initialiser (types 0 v.shape ∙ typed) (op right (part_covers (Begins stand v (init.One right)) c.names right (contains_first right [])) ∙ y) scalar isnt)

  no_place_moves : {part changed : Part} → PartsAgree heads raw other scope part changed → Allows named functions declared headed changed → AssignsNoPlace other next changed → AssignsNoPlace raw scope part
  no_place_moves a c (AssignsNoPlace.assignment {left} {right} {op = o} h) = moved (AssignsNoPlace raw scope) refl a (AssignsNoPlace.assignment (no_target (left_side left right o c) h))
  no_place_moves a c (AssignsNoPlace.bump {left} h) = moved (AssignsNoPlace raw scope) refl a (AssignsNoPlace.bump (no_target (part_covers (Bumps left) c.names left (contains_first left [])) h))
  no_place_moves a c (AssignsNoPlace.result {left} {stand} {f = g} {args} h) =
      called_moves (AssignsNoPlace raw scope) a (λ spot to_ args_ fits stores some_.
      subst (λ (t : RawTarget). AssignsNoPlace raw scope (Calls spot t g args_)) (sym (stores_place stores))
      (AssignsNoPlace.result (no_target (part_covers (Calls stand (target.Place left) g args) c.names left (contains_first left (arg_exprs args))) h)))
  no_place_moves a c (AssignsNoPlace.allocation {left} {cast} {n} h) =
      moved (AssignsNoPlace raw scope) refl a (AssignsNoPlace.allocation (no_target (part_covers (Allocates (target.Place left) cast n) c.names left (contains_first left (counts n))) h))

  address_moves : {part changed : Part} → PartsAgree heads raw other scope part changed → Allows named functions declared headed changed → MisusesAddress other next changed → MisusesAddress raw scope part
  address_moves a c (MisusesAddress.in_expression {inner} h is) =
      let k = sym (address_at f named raw other scope next fit.outside fit.scopes inner (inner_covered c inner h)) ∙ is in
      MisusesAddress.in_expression (held_if has_no_address (λ text. refl) inner a h k) k

  -- what a call stores in, and its arguments, are covered
  call_target : (stand : Stand) (to : RawTarget) (g : Bytes) (args : List RawArg) → Allows named functions declared headed (Calls stand to g args) → CoversAll named (target_exprs to)
  call_target stand to g args c = left_covered (target_exprs to) (arg_exprs args) (part_covers (Calls stand to g args) c.names)

  call_args : (stand : Stand) (to : RawTarget) (g : Bytes) (args : List RawArg) → Allows named functions declared headed (Calls stand to g args) → CoversAll named (arg_exprs args)
  call_args stand to g args c = right_covered (target_exprs to) (arg_exprs args) (part_covers (Calls stand to g args) c.names)

  arguments_move : {part changed : Part} → PartsAgree heads raw other scope part changed → Allows named functions declared headed changed → MisusesArguments other next changed → MisusesArguments raw scope part
  arguments_move a c (MisusesArguments.count {f = g} {head} x is differs) =
      called_moves (MisusesArguments raw scope) a (λ spot to_ args_ fits stores some_.
      let d = defined g head (c.heads g NamesFunction.called) is in
      MisusesArguments.count x d.there (λ many. differs (ap length (some_ ∙ chosen_args heads g args_ x)
      ∙ chosen_length (heads.parameter g) 0 args_ d.head.params many
      ∙ ap (λ (w : Bytes). length (chosen (heads.parameter w) 0 d.head.params)) (sym d.name) ∙ ap (λ (h : RawHead). length h.params) (sym d.left))))
  arguments_move a c (MisusesArguments.unfit {stand} {to} {f = g} {args = some} {head} x is h) =
      called_moves (MisusesArguments raw scope) a (λ spot to_ args_ fits stores some_.
      let d = defined g head (c.heads g NamesFunction.called) is in
      let here = unfit_argument (call_args stand to g some c) h in
      MisusesArguments.unfit x d.there (unfit_chosen raw scope (heads.parameter g) 0 (parameter_types raw d.head) args_
      (subst (λ (ts : List (Option ExprType)). HasUnfitArgument raw scope ts (chosen (heads.parameter g) 0 args_))
      (sym (parameters head) ∙ ap (parameter_types raw) d.left ∙ parameters_left raw heads d.head ∙ ap (λ (w : Bytes). chosen (heads.parameter w) 0 (parameter_types raw d.head)) d.name)
      (subst (λ (as_ : List RawArg). HasUnfitArgument raw scope (parameter_types other head) as_) (some_ ∙ chosen_args heads g args_ x) here))))

  stored_type : {g : Bytes} {to less : RawTarget} {t : ExprType} → StoresLess heads g to less → CoversAll named (target_exprs less) → target_type other next less ≡ Some t → target_type raw scope to ≡ Some t
  stored_type {to} (kept gives) c typed = targets to c ∙ typed
  stored_type lost c typed = none_there typed

  -- what has a type is stored
  typed_stored : (less : RawTarget) {t : ExprType} → target_type other next less ≡ Some t → less ≢ target.None
  typed_stored less typed none = none_there (sym (ap (target_type other next) none) ∙ typed)

  result_moves : {part changed : Part} → PartsAgree heads raw other scope part changed → Allows named functions declared headed changed → MisusesResult other next changed → MisusesResult raw scope part
  result_moves a c (MisusesResult.library x y) = called_moves (MisusesResult raw scope) a (λ spot to_ args_ fits stores some_. MisusesResult.library (stores_none stores x) y)
  result_moves a c (MisusesResult.input {stand} {to} {args} typed isnt) =
      called_moves (MisusesResult raw scope) a (λ spot to_ args_ fits stores some_. MisusesResult.input (stored_type stores (call_target stand to (codes "getchar") args c) typed) isnt)
  result_moves a c (MisusesResult.no_result {f = g} {head} x y is none) =
      called_moves (MisusesResult raw scope) a (λ spot to_ args_ fits stores some_.
      let d = defined g head (c.heads g NamesFunction.called) is in
      let gives = ap heads.gives d.name ∙ stores_given stores y x in
      MisusesResult.no_result x (stores_none stores y) d.there (sym (result_stays raw heads d.head gives) ∙ ap (λ (h : RawHead). h.result) (sym d.left) ∙ none))
  result_moves a c (MisusesResult.unfit {stand} {to} {f = g} {args} {head} x is result typed isnt) =
      called_moves (MisusesResult raw scope) a (λ spot to_ args_ fits stores some_.
      let d = defined g head (c.heads g NamesFunction.called) is in
      let gives = ap heads.gives d.name ∙ stores_given stores (typed_stored to typed) x in
      MisusesResult.unfit x d.there (ap (type_or_void raw) (sym (result_stays raw heads d.head gives) ∙ ap (λ (h : RawHead). h.result) (sym d.left)) ∙ results head ∙ result) (stored_type stores (call_target stand to g args c) typed) isnt)

  -- the head of the function around, of which this stays, where it gives a result still
  gives_there : (around : Option RawHead) (g : RawHead) → GivesAround heads around → around ≡ Some g → heads.gives g.name ≡ true
  gives_there around g gives at = subst (GivesAround heads) at gives

  return_moves : {part changed : Part} → PartsAgree heads raw other scope part changed → Allows named functions declared headed changed → MisusesReturn other next changed → MisusesReturn raw scope part
  return_moves a c (MisusesReturn.value_of_void {head} is none) =
      returned_moves (MisusesReturn raw scope) a (λ fits.
      let g = fit.functions.around head is in
      MisusesReturn.value_of_void g.1 (sym (result_stays raw heads g.0 (gives_there (head_around raw scope) g.0 fits g.1)) ∙ ap (λ (h : RawHead). h.result) (sym g.2) ∙ none))
  return_moves a c (MisusesReturn.unfit {e = x} {head} is typed y isnt) =
      returned_moves (MisusesReturn raw scope) a (λ fits.
      let g = fit.functions.around head is in
      MisusesReturn.unfit g.1 (ap (type_or_void raw) (sym (result_stays raw heads g.0 (gives_there (head_around raw scope) g.0 fits g.1)) ∙ ap (λ (h : RawHead). h.result) (sym g.2)) ∙ results head ∙ typed)
      (op x (part_covers (Returns (Some x)) c.names x (contains_first x [])) ∙ y) isnt)
  return_moves a c (MisusesReturn.no_value {head} is some) =
      returned_moves (MisusesReturn raw scope) a (λ fits.
      let g = fit.functions.around head is in
      MisusesReturn.no_value g.1 (result_there raw heads g.0 (λ none. some (ap (λ (h : RawHead). h.result) g.2 ∙ none))).1)
  return_moves a c (MisusesReturn.lacking {head} x some lacks) =
      ended_moves (MisusesReturn raw scope) a (λ whole body same k.
      let name : head.name ≡ whole.name = ap (λ (h : RawHead). h.name) same in
      let there = result_there raw heads whole (λ none. some (ap (λ (h : RawHead). h.result) same ∙ none)) in
      let other_name : whole.name ≢ main_name = λ is. x (name ∙ is) in
      MisusesReturn.lacking other_name there.1 (λ h. lacks (k there.0 other_name h)))

  format_moves : {part changed : Part} → PartsAgree heads raw other scope part changed → Allows named functions declared headed changed → MisusesFormat other next changed → MisusesFormat raw scope part
  format_moves a c (MisusesFormat.no_format h) = library_called (MisusesFormat raw scope) refl a (λ spot to_ fits stores. MisusesFormat.no_format h)
  format_moves a c (MisusesFormat.null_byte h k) = library_called (MisusesFormat raw scope) refl a (λ spot to_ fits stores. MisusesFormat.null_byte h k)
  format_moves a c (MisusesFormat.conversion h) = library_called (MisusesFormat raw scope) refl a (λ spot to_ fits stores. MisusesFormat.conversion h)
  format_moves a c (MisusesFormat.count h k) = library_called (MisusesFormat raw scope) refl a (λ spot to_ fits stores. MisusesFormat.count h k)
  format_moves a c (MisusesFormat.unfit {stand} {to} {args} h k) =
      library_called (MisusesFormat raw scope) refl a (λ spot to_ fits stores. MisusesFormat.unfit h (unfit_width (later_covered args (call_args stand to (codes "printf") args c)) k))

  -- what an allocation stores in is covered
  heap_target : (to : RawTarget) (cast : Option RawTypeName) (n : RawAmount) → Allows named functions declared headed (Allocates to cast n) → CoversAll named (target_exprs to)
  heap_target to cast n c = left_covered (target_exprs to) (counts n) (part_covers (Allocates to cast n) c.names)

  allocation_moves : {part changed : Part} → PartsAgree heads raw other scope part changed → Allows named functions declared headed changed → MisusesAllocation other next changed → MisusesAllocation raw scope part
  allocation_moves a c (MisusesAllocation.no_pointer {to} {cast} {n} typed isnt) = moved (MisusesAllocation raw scope) refl a (MisusesAllocation.no_pointer (targets to (heap_target to cast n c) ∙ typed) isnt)
  allocation_moves a c (MisusesAllocation.cast {to} {c = t} {n} typed written isnt) =
      moved (MisusesAllocation raw scope) refl a (MisusesAllocation.cast (targets to (heap_target to (Some t) n c) ∙ typed) (types 0 (named_type t) ∙ written) isnt)
  allocation_moves a c (MisusesAllocation.other_size {to} {cast} {n} {measured = m} typed is k h) =
      moved (MisusesAllocation raw scope) refl a (MisusesAllocation.other_size (targets to (heap_target to cast n c) ∙ typed) is k
      (other_size (λ x closed same. c.names x (measured (subst (λ (y : RawSize). Contains (sizes n) y) (sym same) k))) h))
  allocation_moves a c (MisusesAllocation.no_size {to} {cast} {e = x} typed is isnt) = moved (MisusesAllocation raw scope) refl a (MisusesAllocation.no_size (targets to (heap_target to cast (amount.Count x) c) ∙ typed) is isnt)
  allocation_moves a c (MisusesAllocation.no_count {to} {cast} {n} {e = x} k is isnt) =
      moved (MisusesAllocation raw scope) refl a (MisusesAllocation.no_count k (op x (right_covered (target_exprs to) (counts n) (part_covers (Allocates to cast n) c.names) x k) ∙ is) isnt)

  library_moves : {part changed : Part} → PartsAgree heads raw other scope part changed → Allows named functions declared headed changed → MisusesLibrary other next changed → MisusesLibrary raw scope part
  library_moves a c (MisusesLibrary.free_count h) = library_called (MisusesLibrary raw scope) refl a (λ spot to_ fits stores. MisusesLibrary.free_count h)
  library_moves a c (MisusesLibrary.free_type {stand} {to} {args} {e = x} h is isnt) =
      library_called (MisusesLibrary raw scope) refl a (λ spot to_ fits stores. MisusesLibrary.free_type h (op x (call_args stand to (codes "free") args c x (only_in args x h)) ∙ is) isnt)
  library_moves a c (MisusesLibrary.putchar_count h) = library_called (MisusesLibrary raw scope) refl a (λ spot to_ fits stores. MisusesLibrary.putchar_count h)
  library_moves a c (MisusesLibrary.putchar_type {stand} {to} {args} {e = x} h is isnt) =
      library_called (MisusesLibrary raw scope) refl a (λ spot to_ fits stores. MisusesLibrary.putchar_type h (op x (call_args stand to (codes "putchar") args c x (only_in args x h)) ∙ is) isnt)
  library_moves a c (MisusesLibrary.getchar_count h) = library_called (MisusesLibrary raw scope) refl a (λ spot to_ fits stores. MisusesLibrary.getchar_count h)

  initialiser_moves : {part changed : Part} → PartsAgree heads raw other scope part changed → Allows named functions declared headed changed → MisusesInitialiser other next changed → MisusesInitialiser raw scope part
  initialiser_moves a c (MisusesInitialiser.no_array {var = v} {es} typed none) = begun_moves (MisusesInitialiser raw scope) a (λ spot fits. MisusesInitialiser.no_array (types (length es) v.shape ∙ typed) none)
  initialiser_moves a c (MisusesInitialiser.no_scalars {var = v} {es} typed is isnt) = begun_moves (MisusesInitialiser raw scope) a (λ spot fits. MisusesInitialiser.no_scalars (types (length es) v.shape ∙ typed) is isnt)
  initialiser_moves a c (MisusesInitialiser.too_many {var = v} {es} typed is many) = begun_moves (MisusesInitialiser raw scope) a (λ spot fits. MisusesInitialiser.too_many (types (length es) v.shape ∙ typed) is many)
  initialiser_moves a c (MisusesInitialiser.unfit {stand} {var = v} {es} {element = t} typed is h) =
      begun_moves (MisusesInitialiser raw scope) a (λ spot fits. MisusesInitialiser.unfit (types (length es) v.shape ∙ typed) is (unfit_item t es (part_covers (Begins stand v (init.Items es)) c.names) h))
  initialiser_moves a c (MisusesInitialiser.whole {var = v} typed isnt) = begun_moves (MisusesInitialiser raw scope) a (λ spot fits. MisusesInitialiser.whole (types 0 v.shape ∙ typed) isnt)
  initialiser_moves a c (MisusesInitialiser.by_call {var = v} {f = g} {args} typed isnt) =
      called_moves (MisusesInitialiser raw scope) a (λ spot to_ args_ fits stores some_.
      subst (λ (t : RawTarget). MisusesInitialiser raw scope (Calls spot t g args_)) (sym (stores_declared stores)) (MisusesInitialiser.by_call (types 0 v.shape ∙ typed) isnt))
  initialiser_moves a c (MisusesInitialiser.by_allocation {var = v} typed isnt) = moved (MisusesInitialiser raw scope) refl a (MisusesInitialiser.by_allocation (types 0 v.shape ∙ typed) isnt)

  misplaced_moves : {part changed : Part} → PartsAgree heads raw other scope part changed → MisplacesDeclaration other next changed → MisplacesDeclaration raw scope part
  misplaced_moves a (MisplacesDeclaration.in_arm) =
      declared_moves (MisplacesDeclaration raw scope) a (λ spot v i fits like. subst (λ (p : Stand). MisplacesDeclaration raw scope (Declares p v i)) (sym (in_arm fits)) MisplacesDeclaration.in_arm)
  misplaced_moves a (MisplacesDeclaration.in_for {var = v} {f = g} {args} h) =
      called_moves (MisplacesDeclaration raw scope) a (λ spot to_ args_ fits stores some_.
      subst (λ (p : Stand). MisplacesDeclaration raw scope (Calls p to_ g args_)) (sym (in_for fits))
      (subst (λ (t : RawTarget). MisplacesDeclaration raw scope (Calls InFor t g args_)) (sym (stores_declared stores)) (MisplacesDeclaration.in_for h)))

  header_moves : {part changed : Part} → PartsAgree heads raw other scope part changed → Allows named functions declared headed changed → LacksHeader other next changed → LacksHeader raw scope part
  header_moves a c (LacksHeader.in_expression {inner} h is) =
      let k = sym (headers_at f named raw other scope next fit.outside fit.scopes inner (inner_covered c inner h)) ∙ is in
      LacksHeader.in_expression (held_if (lacks_header raw) (λ text. refl) inner a h k) k
  header_moves a c (LacksHeader.allocation h) = moved (LacksHeader raw scope) refl a (LacksHeader.allocation (sym fit.outside.stdlib ∙ h))
  header_moves a c (LacksHeader.release h) = called_moves (LacksHeader raw scope) a (λ spot to_ args_ fits stores some_. LacksHeader.release (sym fit.outside.stdlib ∙ h))
  header_moves a c (LacksHeader.input h) = called_moves (LacksHeader raw scope) a (λ spot to_ args_ fits stores some_. LacksHeader.input (sym fit.outside.stdio ∙ h))
  header_moves a c (LacksHeader.output h) = called_moves (LacksHeader raw scope) a (λ spot to_ args_ fits stores some_. LacksHeader.output (sym fit.outside.stdio ∙ h))
  header_moves a c (LacksHeader.format h) = called_moves (LacksHeader raw scope) a (λ spot to_ args_ fits stores some_. LacksHeader.format (sym fit.outside.stdio ∙ h))

  -- a part breaks a rule that the other part breaks
  pub breaks_moves : {part changed : Part} {n : ℕ} → PartsAgree heads raw other scope part changed → Allows named functions declared headed changed → Breaks other next changed n → Breaks raw scope part n
  breaks_moves a c (Breaks.undeclared h) = Breaks.undeclared (undeclared_moves a c h)
  breaks_moves a c (Breaks.declared_again h) = Breaks.declared_again (again_moves a c h)
  breaks_moves a c (Breaks.shadowing h) = Breaks.shadowing (shadows_moves a c h)
  breaks_moves a c (Breaks.library_name h) = Breaks.library_name (library_name_moves a h)
  breaks_moves a c (Breaks.main h) = Breaks.main (main_moves a h)
  breaks_moves a c (Breaks.no_definition h) = Breaks.no_definition (no_definition_moves a c h)
  breaks_moves a c (Breaks.tag h) = Breaks.tag (tag_moves a c h)
  breaks_moves a c (Breaks.member h) = Breaks.member (member_moves a c h)
  breaks_moves a c (Breaks.no_element h) = Breaks.no_element (no_element_moves a h)
  breaks_moves a c (Breaks.no_constant h) = Breaks.no_constant (no_constant_moves a h)
  breaks_moves a c (Breaks.switch h) = Breaks.switch (switch_moves a c h)
  breaks_moves a c (Breaks.operator h) = Breaks.operator (operator_moves a c h)
  breaks_moves a c (Breaks.other_type h) = Breaks.other_type (other_type_moves a c h)
  breaks_moves a c (Breaks.no_place h) = Breaks.no_place (no_place_moves a c h)
  breaks_moves a c (Breaks.address h) = Breaks.address (address_moves a c h)
  breaks_moves a c (Breaks.arguments h) = Breaks.arguments (arguments_move a c h)
  breaks_moves a c (Breaks.result h) = Breaks.result (result_moves a c h)
  breaks_moves a c (Breaks.return h) = Breaks.return (return_moves a c h)
  breaks_moves a c (Breaks.format h) = Breaks.format (format_moves a c h)
  breaks_moves a c (Breaks.allocation h) = Breaks.allocation (allocation_moves a c h)
  breaks_moves a c (Breaks.library h) = Breaks.library (library_moves a c h)
  breaks_moves a c (Breaks.initialiser h) = Breaks.initialiser (initialiser_moves a c h)
  breaks_moves a c (Breaks.misplaced h) = Breaks.misplaced (misplaced_moves a h)
  breaks_moves a c (Breaks.no_header h) = Breaks.no_header (header_moves a c h)
