-- What is known of the phrases of a text within the limits, and of the places in its functions.
use Rattle.std.proofs.Common.{◌≡◌, ℕ, ◌+◌, ◌<◌, ◌≤◌, Bool, true, false, List, [], ◌∷◌, ◌++◌, length, pos, decimal, slice_get, Option, Some, None, refl, sym, ap, subst, ◌∙◌, arith}
use Rattle.std.specs.Prelude.{bytes_eq, if◌then◌else◌}
use Rattle.c_tree.specs.declared.types.CType.{CType}
use Rattle.c_tree.specs.declared.program.Program.{Program}
use Rattle.c_tree.specs.declared.program.Var.{Var}
use Rattle.c_tree.specs.declared.raw.expr.RawExpr.{RawExpr}
use Rattle.c_tree.specs.declared.raw.expr.RawExpr.TheVariants as e
use Rattle.c_tree.specs.declared.raw.expr.RawVar.{RawVar}
use Rattle.c_tree.specs.declared.raw.program.RawHead.{RawHead}
use Rattle.c_tree.specs.declared.raw.program.RawInit.{RawInit}
use Rattle.c_tree.specs.declared.raw.program.RawInit.TheVariants as init
use Rattle.c_tree.specs.declared.raw.program.RawItem.{RawItem}
use Rattle.c_tree.specs.declared.raw.program.RawItem.TheVariants.{Include, Tag, Struct, Global, Prototype, Define}
use Rattle.c_tree.specs.declared.raw.program.RawMember.{RawMember}
use Rattle.c_tree.specs.declared.raw.program.RawParam.{RawParam}
use Rattle.c_tree.specs.declared.raw.program.RawProgram.{RawProgram}
use Rattle.c_tree.specs.declared.raw.statement.RawArm.{RawArm}
use Rattle.c_tree.specs.declared.raw.statement.RawStatement.{RawStatement, out-RawStatement, map-RawStatement, fold-roll-RawStatement}
use Rattle.c_tree.specs.declared.raw.statement.RawStatement.TheOpen.{RawStatement-F}
use Rattle.c_tree.specs.declared.raw.statement.RawStatement.TheViews.{roll-out-RawStatement}
use Rattle.c_tree.specs.declared.raw.statement.RawTarget.{RawTarget}
use Rattle.c_tree.specs.declared.raw.statement.RawTarget.TheVariants as target
use Rattle.c_language.specs.Words.{Bytes}
use Rattle.c_language.specs.ArrayRules.{LacksConstant}
use Rattle.c_language.specs.ConstantEvaluation.{value_of_constant}
use Rattle.c_language.specs.DeclaredTypes.{item_count}
use Rattle.c_language.specs.Limits.{longest, array_length}
use Rattle.c_language.specs.NameRules.{DeclaresLibraryName}
use Rattle.c_language.specs.Phrases.{Stand, InHead, Part, NamesStruct, DefinesStruct, HasMember, DeclaresFunction, Takes, EndsFunction, Declares, Begins, Assigns, Bumps, Calls, Allocates, Tests, Switches, Returns, Phrase, Phrases, phrase, phrases, declaration, target_phrases, ArmText, phrases_step, scoped_step, scoped_arm, scoped, scoped_of_arm, parameter_phrases, head_phrases, item_phrases, after_item}
use Rattle.c_language.specs.ProgramOf.{ctype_with, declared_by, variables_in, treed}
use Rattle.c_language.specs.Programs.{HasProgram}
use Rattle.c_language.specs.Rules.{Breaks, KeepsAll, AreKept}
use Rattle.c_language.specs.Scopes.{Scope, Scoped, Meaning, Entry, begun, with_variable, with_function, with_target, with_named, with_parameter, with_parameters, parameter_of, scope_of_parameters, entered, after_step}
use Rattle.c_language.specs.Syntax.{is_there}
use Rattle.c_language.specs.Uses.{lengths_in, is_library_function}
use Rattle.c_language.proofs.Lists.{same_bytes}
use Rattle.c_language.proofs.Options.{map_there}
use Rattle.c_language.proofs.PhraseLists.{phrases_kept}
use Rattle.c_language.proofs.ScopeNumbers.{function_declared}
use Rattle.c_language.proofs.Tests.{false_true}
use Rattle.c_language.proofs.TreeScopes.{after_same}
use Rattle.c_print_laws.proofs.Counted.{variable_long, items_within}
use Rattle.c_print_laws.proofs.Definitions.{program_parts}
use Rattle.c_print_laws.proofs.Settling.{constant_value_of}
use Rattle.c_print_laws.proofs.Told.{AllStand, stand_all, stand_rest}
use Rattle.c_text_layout.proofs.DecimalPrint.{decimal_literal}
use Rattle.c_scope_laws.specs.Agreement.{IsCount}
use Rattle.c_scope_laws.specs.Thinning.{found}
use Rattle.kept_texts.proofs.DefinedOnce.{library_is}
use Rattle.kept_texts.proofs.KeptPhrases.{NoVariable}
use Rattle.kept_texts.proofs.Nameless.{AllValued}

module _ (raw : RawProgram) where
  -- ---- phrases

  -- a declared variable has a type, without long arrays
  pub record HasShortType (v : RawVar) (i : RawInit) : Type 0 where
    pub type : CType
    pub is : ctype_with raw (item_count i) v.shape ≡ Some type
    pub within : longest type ≤ 65536

  abbrev pub IsTyped : Part → Type 0
  IsTyped (Declares stand v i) = HasShortType v i
  IsTyped _ = Unit {0}

  -- no rule is broken, and each declared variable has such a type
  pub record IsFine (q : Phrase) : Type 0 where
    pub rules : KeepsAll raw q
    pub typed : IsTyped q.part

  abbrev pub AreFine : Phrases → Type 0
  AreFine [] = Unit {0}
  AreFine (q ∷ ps) = IsFine q × AreFine ps

  pub fine_first : (ps qs : Phrases) → AreFine (ps ++ qs) → AreFine ps
  fine_first [] qs h = tt
  fine_first (p ∷ ps) qs h = (h.0, fine_first ps qs h.1)

  pub fine_second : (ps qs : Phrases) → AreFine (ps ++ qs) → AreFine qs
  fine_second [] qs h = h
  fine_second (p ∷ ps) qs h = fine_second ps qs h.1

  module _ (p : Program) (long : array_length p ≤ 65536) where
    part_typed : (l : ℕ) (scope : Scope) (part : Part) (n : ℕ) (rest : List (Option Var)) → AllStand p n (declared_by raw l scope part ++ rest) → IsTyped part
    part_typed l scope (Declares stand v i) n rest h =
        let at = h.0 in
        let g = map_there _ (ctype_with raw (item_count i) v.shape) at.var at.is in
        let most = variable_long p n at.var at.at in
        let same = ap (λ (x : Var). longest x.shape) g.same in
        record { type = g.value; is = g.there; within = omega (arith, most, same, long) }
    part_typed l scope (Begins stand v i) n rest h = tt
    part_typed l scope (NamesStruct w) n rest h = tt
    part_typed l scope (DefinesStruct w) n rest h = tt
    part_typed l scope (HasMember before m) n rest h = tt
    part_typed l scope (DeclaresFunction hd b) n rest h = tt
    part_typed l scope (Takes before q) n rest h = tt
    part_typed l scope (EndsFunction hd body) n rest h = tt
    part_typed l scope (Assigns a op b) n rest h = tt
    part_typed l scope (Bumps a) n rest h = tt
    part_typed l scope (Calls stand to f args) n rest h = tt
    part_typed l scope (Allocates to cast a) n rest h = tt
    part_typed l scope (Tests a) n rest h = tt
    part_typed l scope (Switches a labels) n rest h = tt
    part_typed l scope (Returns a) n rest h = tt

    all_fine : (n : ℕ) (ps : Phrases) → AreKept raw ps → AllStand p n (variables_in raw ps) → AreFine ps
    all_fine n [] kept h = tt
    all_fine n (x ∷ ps) kept h =
        let here = declared_by raw x.line x.scope x.part in
        (record { rules = kept.0; typed = part_typed x.line x.scope x.part n (variables_in raw ps) h }, all_fine (n + length here) ps kept.1 (stand_rest p n here (variables_in raw ps) h))

  pub text_fine : (p : Program) → HasProgram raw p → array_length p ≤ 65536 → AreFine (phrases raw)
  text_fine p has long =
      let parts = program_parts raw p has.program in
      let stand : AllStand p 0 (variables_in raw (phrases raw)) = subst (AllStand p 0) (sym parts.vars) (stand_all p 0 p.vars (λ i. ap (slice_get p.vars) (omega arith))) in
      all_fine p long 0 (phrases raw) (phrases_kept raw has.rules) stand

  -- ---- declarations

  valued : (a : RawExpr) → ((value_of_constant a ≡ None) → ⊥) → (v : _) × (value_of_constant a ≡ Some v)
  valued a h = by_value (value_of_constant a) refl
    where
      by_value : (o : Option _) → value_of_constant a ≡ o → (v : _) × (value_of_constant a ≡ Some v)
      by_value None is = absurd (h is)
      by_value (Some v) is = (v, is)

  -- the lengths of a declared variable, and of a member, are constants
  pub lengths_valued : (l : ℕ) (scope : Scope) (stand : Stand) (v : RawVar) (i : RawInit) → IsFine (phrase l scope (Declares stand v i)) → AllValued (lengths_in v.shape)
  lengths_valued l scope stand v i fine a c = valued a (λ none. fine.rules 10 (Breaks.no_constant (LacksConstant.written_length c none)))

  pub member_valued : (l : ℕ) (scope : Scope) (before : List RawMember) (m : RawMember) → IsFine (phrase l scope (HasMember before m)) → AllValued (lengths_in m.shape)
  member_valued l scope before m fine a c = valued a (λ none. fine.rules 10 (Breaks.no_constant (LacksConstant.written_length c none)))

  -- the number of a list's items is a constant
  pub items_count : (l : ℕ) (scope : Scope) (stand : Stand) (v : RawVar) (es : List RawExpr) → AreFine (declaration raw l scope stand v (init.Items es)) → is_there es ≡ true → IsCount (length es) (e.Constant (decimal (length es)))
  items_count l scope stand v es fine there =
      let most = items_within raw (with_variable raw v (init.Items es) scope) stand v es fine.0.typed.type fine.0.typed.is fine.1.0.rules in
      let within = fine.0.typed.within in
      let some : 0 < length es = by_list es there in
      let few : length es < 4294967296 = omega (arith, most, within) in
      record { is = refl; value = constant_value_of (decimal (length es)) ∙ ap (λ (n : ℕ). Some (pos n)) (decimal_literal (length es) some (omega (arith, few))); some = some }
    where
      by_list : (es : List RawExpr) → is_there es ≡ true → 0 < length es
      by_list [] h = false_true h
      by_list (x ∷ xs) h = omega arith

  -- ---- scopes whose variables have names of their own

  abbrev CleanName : Bytes → Meaning → Type 0
  CleanName x (Meaning.Variable id t) = is_library_function x ≡ false
  CleanName x Meaning.Function = Unit {0}

  abbrev pub AreOwnNames : List Entry → Type 0
  AreOwnNames [] = Unit {0}
  AreOwnNames (y ∷ es) = CleanName y.name y.meaning × AreOwnNames es

  clean_more : (es : List Entry) (y : Entry) → AreOwnNames es → CleanName y.name y.meaning → AreOwnNames (es ++ y ∷ [])
  clean_more [] y c h = (h, tt)
  clean_more (x ∷ es) y c h = (c.0, clean_more es y c.1 h)

  clean_found : (x : Bytes) (es : List Entry) → is_library_function x ≡ true → AreOwnNames es → NoVariable (found x es)
  clean_found x [] h c = tt
  clean_found x (y ∷ es) h c = by_name (bytes_eq x y.name) refl y.meaning refl (clean_found x es h c.1)
    where
      by_name : (b : Bool) → bytes_eq x y.name ≡ b → (m : Meaning) → y.meaning ≡ m → NoVariable (found x es) → NoVariable (if b then Some y else found x es)
      by_name false other m is later = later
      by_name true same (Meaning.Variable id t) is later =
          let clean : is_library_function y.name ≡ false = subst (CleanName y.name) is c.0 in false_true (sym clean ∙ ap is_library_function (sym (same_bytes x y.name same)) ∙ h)
      by_name true same Meaning.Function is later = is

  clean_variable : (l : ℕ) (scope : Scope) (stand : Stand) (v : RawVar) (i : RawInit) → IsFine (phrase l scope (Declares stand v i)) → AreOwnNames scope.names → AreOwnNames (with_variable raw v i scope).names
  clean_variable l scope stand v i fine c = clean_more scope.names _ c (by_test (is_library_function v.name) refl)
    where
      by_test : (b : Bool) → is_library_function v.name ≡ b → is_library_function v.name ≡ false
      by_test true h = absurd (fine.rules 4 (Breaks.library_name (DeclaresLibraryName.variable (library_is v.name h))))
      by_test false h = h

  -- ---- places in a function

  abbrev pub Place : ℕ → Scope → Type 0
  Place f scope = (scope.owner ≡ Some f) × AreOwnNames scope.names

  -- what a name of the library stands for in a place
  pub library_found : (f : ℕ) (scope : Scope) (x : Bytes) → Place f scope → is_library_function x ≡ true → NoVariable (found x scope.names)
  library_found f scope x place h = clean_found x scope.names h place.1

  module _ (f : ℕ) where
    pub variable_place : (l : ℕ) (scope : Scope) (stand : Stand) (v : RawVar) (i : RawInit) → IsFine (phrase l scope (Declares stand v i)) → Place f scope → Place f (with_variable raw v i scope)
    variable_place l scope stand v i fine place = (place.0, clean_variable l scope stand v i fine place.1)

    begun_place : (i : RawInit) (scope : Scope) → Place f scope → Place f (begun i scope)
    begun_place init.None scope place = place
    begun_place (init.One a) scope place = place
    begun_place (init.Items all) scope place = place

    pub target_place : (l : ℕ) (scope : Scope) (stand : Stand) (to : RawTarget) (qs : Phrases) → AreFine (target_phrases raw l scope stand to ++ qs) → Place f scope → Place f (with_target raw to scope)
    target_place l scope stand target.None qs fine place = place
    target_place l scope stand (target.Place a) qs fine place = place
    target_place l scope stand (target.Declared v) qs fine place = variable_place l scope stand v init.None fine.0 place

    abbrev texts : RawStatement-F RawStatement RawArm → RawStatement-F (Scoped (Stand → Phrases)) (Scoped ArmText)
    texts y = map-RawStatement RawStatement RawArm (Scoped (Stand → Phrases)) (Scoped ArmText) (scoped raw) (scoped_of_arm raw) y

    layer_place : (o : RawStatement-F RawStatement RawArm) (scope : Scope) (stand : Stand) → AreFine (phrases_step raw (texts o) scope stand) → Place f scope → Place f (after_step raw (texts o) scope)
    layer_place (RawStatement-F.Declare l v i) scope stand fine place = begun_place i (with_variable raw v i scope) (variable_place l scope stand v i fine.0 place)
    layer_place (RawStatement-F.Assign l a op b) scope stand fine place = place
    layer_place (RawStatement-F.Bump l a up before) scope stand fine place = place
    layer_place (RawStatement-F.Call l to g args) scope stand fine place = target_place l scope stand to _ fine place
    layer_place (RawStatement-F.Heap l to cast n) scope stand fine place = target_place l scope stand to _ fine place
    layer_place (RawStatement-F.If l a x y) scope stand fine place = place
    layer_place (RawStatement-F.While l a x) scope stand fine place = place
    layer_place (RawStatement-F.Do l a x) scope stand fine place = place
    layer_place (RawStatement-F.For l i a step x) scope stand fine place = place
    layer_place (RawStatement-F.Switch l a x) scope stand fine place = place
    layer_place (RawStatement-F.Block l x) scope stand fine place = place
    layer_place (RawStatement-F.Return l a) scope stand fine place = place

    text_of : (x : RawStatement) → scoped raw x ≡ scoped_step raw (texts (out-RawStatement x))
    text_of x = ap (scoped raw) (sym (roll-out-RawStatement x)) ∙ fold-roll-RawStatement (Scoped (Stand → Phrases)) (Scoped ArmText) (scoped_step raw) scoped_arm (out-RawStatement x)

    -- the place behind a statement
    pub place_after : (x : RawStatement) (scope : Scope) (stand : Stand) → AreFine ((scoped raw x).gives scope stand) → Place f scope → Place f ((treed raw x).after scope)
    place_after x scope stand fine place =
        subst (Place f) (sym (after_same raw x scope))
        (subst (λ (u : Scoped (Stand → Phrases)). AreFine (u.gives scope stand) → Place f (u.after scope)) (sym (text_of x)) (λ h. layer_place (out-RawStatement x) scope stand h place) fine)

  -- ---- places at the head of a function, and between items

  clean_function : (name : Bytes) (scope : Scope) → AreOwnNames scope.names → AreOwnNames (with_function name scope).names
  clean_function name scope c = function_declared (λ (z : Scope). AreOwnNames z.names) name scope c (clean_more scope.names _ c tt)

  named_place : (f : ℕ) (p : RawParam) (name : Option Bytes) (scope : Scope) (qs : Phrases) → AreFine (parameter_phrases raw p name scope ++ qs) → Place f scope → Place f (with_named raw p name scope)
  named_place f p None scope qs fine place = place
  named_place f p (Some name) scope qs fine place = variable_place f p.line scope InHead (parameter_of p name) init.None fine.0 place

  params_place : (f : ℕ) (ps : List RawParam) (scope : Scope) → AreFine (head_phrases raw ps scope) → Place f scope → Place f (with_parameters raw ps scope)
  params_place f [] scope fine place = place
  params_place f (p ∷ ps) scope fine place =
      let rest = head_phrases raw ps (with_parameter raw p scope) in
      params_place f ps (with_parameter raw p scope) (fine_second (parameter_phrases raw p p.name scope) rest fine) (named_place f p p.name scope rest fine place)

  pub entered_place : (head : RawHead) (scope : Scope) → AreFine (head_phrases raw head.params (scope_of_parameters head scope)) → AreOwnNames scope.names → Place scope.functions (entered raw head scope)
  entered_place head scope fine c = params_place scope.functions head.params (scope_of_parameters head scope) fine (refl, clean_function head.name scope c)

  pub item_names : (x : RawItem) (scope : Scope) → AreFine (item_phrases raw x scope) → AreOwnNames scope.names → AreOwnNames (after_item raw x scope).names
  item_names (Include b) scope fine c = c
  item_names (Tag l w) scope fine c = c
  item_names (Struct l w ms) scope fine c = c
  item_names (Global l v i st) scope fine c = clean_variable l scope _ v i fine.0 c
  item_names (Prototype l head) scope fine c = clean_function head.name scope c
  item_names (Define l head body) scope fine c = clean_function head.name scope c
