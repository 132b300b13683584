-- A text that keeps the rules, and whose program has no array longer than the limit, has short lists of initialisers.
use Rattle.std.proofs.Common.{◌≡◌, ℕ, ◌+◌, ◌<◌, ◌≤◌, ◌&&◌, List, [], ◌∷◌, ◌++◌, length, map, Bool, true, Option, Some, None, refl, sym, ap, subst, ◌∙◌, arith, slice_get}
use Rattle.std.proofs.lemmas.Bool.Decides.{nat_tests}
use Rattle.std.proofs.lemmas.Bool.{and_from}
use Rattle.c_language.proofs.PhraseLists.{phrases_kept}
use Rattle.c_tree.specs.declared.types.CType.{CType}
use Rattle.c_tree.specs.declared.program.Program.{Program}
use Rattle.c_tree.specs.declared.program.Var.{Var}
use Rattle.c_tree.specs.declared.raw.expr.RawExpr.{RawExpr}
use Rattle.c_tree.specs.declared.raw.expr.RawVar.{RawVar}
use Rattle.c_tree.specs.declared.raw.program.RawInit.{RawInit}
use Rattle.c_tree.specs.declared.raw.program.RawInit.TheVariants as init
use Rattle.c_tree.specs.declared.raw.program.RawItem.{RawItem}
use Rattle.c_tree.specs.declared.raw.program.RawItem.TheVariants.{Include, Tag, Struct, Global, Prototype, Define}
use Rattle.c_tree.specs.declared.raw.program.RawProgram.{RawProgram}
use Rattle.c_tree.specs.declared.raw.statement.RawStatement.{RawStatement, roll-RawStatement, map-RawStatement, fold-roll-RawStatement}
use Rattle.c_tree.specs.declared.raw.statement.RawStatement.TheOpen.{RawStatement-F}
use Rattle.c_tree.specs.declared.raw.statement.RawArm.{RawArm, roll-RawArm, fold-roll-RawArm}
use Rattle.c_tree.proofs.RawTrees.{StatementParts, statement_layer, ArmParts, arm_layer, of_every_statement}
use Rattle.c_language.specs.DeclaredTypes.{item_count}
use Rattle.c_language.specs.Limits.{longest, array_length}
use Rattle.c_language.specs.Rules.{Breaks, KeepsRules, AreKept}
use Rattle.c_language.specs.Scopes.{Scope, Scoped, outset, with_variable, scope_of_parameters, entered, opened, numbered, in_order, after_block, part_gives, scope_of_test, scope_of_body}
use Rattle.c_language.specs.Phrases.{Stand, InBlock, InArm, InFor, InFile, Part, Phrases, phrase, NamesStruct, DefinesStruct, HasMember, DeclaresFunction, Takes, EndsFunction, Declares, Begins, Assigns, Bumps, Calls, Allocates, Tests, Switches, Returns, declaration, joined_at, block_phrases, at_stand, ArmText, phrases_of_arms, phrases_step, scoped_step, scoped_arm, scoped, scoped_of_arm, body_phrases, head_phrases, item_phrases, after_item, items_phrases, phrases}
use Rattle.c_language.specs.ProgramOf.{ctype_with, declared_by, variables_in, program_of}
use Rattle.c_text_layout.specs.Declarations.{declares_step, arm_declares, declarations_pass, item_passes, items_pass, is_short, HasShortLists}
use Rattle.c_text_layout.proofs.DeclarationLemmas.{arm_passes, list_passes}
use Rattle.c_language.proofs.Options.{map_there}
use Rattle.c_print_laws.proofs.Counted.{variable_long, items_within}
use Rattle.c_print_laws.proofs.Definitions.{program_parts}
use Rattle.c_print_laws.proofs.Told.{AllStand, stand_all, stand_rest}
use Rattle.c_language.specs.Lists.{if_there, all_true}

module _ (raw : RawProgram) where
  -- a declared variable has a type, without long arrays
  record HasShortType (v : RawVar) (i : RawInit) : Type 0 where
    type : CType
    is : ctype_with raw (item_count i) v.shape ≡ Some type
    within : longest type ≤ 65536

  -- what is known of a phrase: a declared variable has such a type, and no initialiser breaks a rule
  abbrev IsKnown : Scope → Part → Type 0
  IsKnown scope (Declares stand v i) = HasShortType v i
  IsKnown scope (Begins stand v i) = (n : ℕ) → Breaks raw scope (Begins stand v i) n → ⊥
  IsKnown scope _ = Unit {0}

  abbrev AreKnown : Phrases → Type 0
  AreKnown [] = Unit {0}
  AreKnown (x ∷ ps) = IsKnown x.scope x.part × AreKnown ps

  known_first : (ps qs : Phrases) → AreKnown (ps ++ qs) → AreKnown ps
  known_first [] qs h = tt
  known_first (x ∷ ps) qs h = (h.0, known_first ps qs h.1)

  known_rest : (ps qs : Phrases) → AreKnown (ps ++ qs) → AreKnown qs
  known_rest [] qs h = h
  known_rest (x ∷ ps) qs h = known_rest ps qs h.1

  -- ---- declarations

  declaration_short : (l : ℕ) (scope : Scope) (stand : Stand) (v : RawVar) (i : RawInit) → AreKnown (declaration raw l scope stand v i) → is_short v i ≡ true
  declaration_short l scope stand v init.None h = refl
  declaration_short l scope stand v (init.One e) h = refl
  declaration_short l scope stand v (init.Items es) h =
      let within = items_within raw (with_variable raw v (init.Items es) scope) stand v es h.0.type h.0.is h.1.0 in
      let few : length es < 4294967296 = omega (arith, within, h.0.within) in
      grind (arith, nat_tests, few)

  -- ---- statements

  abbrev IsShort : RawStatement → Type 0
  IsShort x = (scope : Scope) (stand : Stand) → AreKnown ((scoped raw x).gives scope stand) → declarations_pass is_short x ≡ true

  abbrev IsShortArm : RawArm → Type 0
  IsShortArm x = (scope : Scope) → AreKnown ((scoped_of_arm raw x).gives scope).phrases → arm_passes is_short x ≡ true

  abbrev Statements : Type 0
  Statements = List ((x : RawStatement) × IsShort x)

  abbrev bare : Statements → List RawStatement
  bare = map (λ (x : (y : RawStatement) × IsShort y). x.0)

  abbrev Arms : Type 0
  Arms = List ((x : RawArm) × IsShortArm x)

  abbrev bare_arms : Arms → List RawArm
  bare_arms = map (λ (x : (y : RawArm) × IsShortArm y). x.0)

  all_short : (xs : Statements) (scope : Scope) (stand : Stand) → AreKnown (joined_at stand (in_order (map (scoped raw) (bare xs)) scope)) → list_passes is_short (bare xs) ≡ true
  all_short [] scope stand h = refl
  all_short (x ∷ xs) scope stand h =
      let next = (scoped raw x.0).after scope in
      let one = (scoped raw x.0).gives scope stand in
      let rest = joined_at stand (in_order (map (scoped raw) (bare xs)) next) in
      and_from _ _ (x.1 scope stand (known_first one rest h)) (all_short xs next stand (known_rest one rest h))

  block_short : (xs : Statements) (scope : Scope) → AreKnown (block_phrases (map (scoped raw) (bare xs)) scope) → list_passes is_short (bare xs) ≡ true
  block_short xs scope h = all_short xs (opened scope) InBlock h

  arms_short : (xs : Arms) (scope : Scope) → AreKnown (phrases_of_arms (in_order (map (scoped_of_arm raw) (bare_arms xs)) scope)) → all_true (map (arm_passes is_short) (bare_arms xs)) ≡ true
  arms_short [] scope h = refl
  arms_short (x ∷ xs) scope h =
      let next = (scoped_of_arm raw x.0).after scope in
      let one = ((scoped_of_arm raw x.0).gives scope).phrases in
      let rest = phrases_of_arms (in_order (map (scoped_of_arm raw) (bare_arms xs)) next) in
      and_from _ _ (x.1 scope (known_first one rest h)) (arms_short xs next (known_rest one rest h))

  -- ---- parts of a for

  abbrev Part_of : Type 0
  Part_of = Option ((x : RawStatement) × IsShort x)

  abbrev in_scope : Part_of → Option (Scoped (Stand → Phrases))
  in_scope None = None
  in_scope (Some x) = Some (scoped raw x.0)

  abbrev passes : Part_of → Option Bool
  passes None = None
  passes (Some x) = Some (declarations_pass is_short x.0)

  part_short : (x : Part_of) (scope : Scope) (stand : Stand) → AreKnown (at_stand stand (part_gives (in_scope x) scope)) → if_there (passes x) ≡ true
  part_short None scope stand h = refl
  part_short (Some x) scope stand h = x.1 scope stand h

  for_short : (l : ℕ) (i : Part_of) (a : RawExpr) (step : Part_of) (b : Statements) (scope : Scope)
      → AreKnown (at_stand InFor (part_gives (in_scope i) (opened (numbered scope))) ++ (phrase l (scope_of_test (in_scope i) scope) (Tests a) ∷ (at_stand InBlock (part_gives (in_scope step) (scope_of_test (in_scope i) scope)) ++ block_phrases (map (scoped raw) (bare b)) (scope_of_body (in_scope i) (in_scope step) scope))))
      → (if_there (passes i) && (if_there (passes step) && list_passes is_short (bare b))) ≡ true
  for_short l i a step b scope h =
      let test = phrase l (scope_of_test (in_scope i) scope) (Tests a) in
      let first = at_stand InFor (part_gives (in_scope i) (opened (numbered scope))) in
      let second = at_stand InBlock (part_gives (in_scope step) (scope_of_test (in_scope i) scope)) in
      let third = block_phrases (map (scoped raw) (bare b)) (scope_of_body (in_scope i) (in_scope step) scope) in
      let rest = (known_rest first (test ∷ (second ++ third)) h).1 in
      and_from _ _ (part_short i (opened (numbered scope)) InFor (known_first first (test ∷ (second ++ third)) h))
      (and_from _ _ (part_short step (scope_of_test (in_scope i) scope) InBlock (known_first second third rest)) (block_short b (scope_of_body (in_scope i) (in_scope step) scope) (known_rest second third rest)))

  -- ---- each form

  abbrev shape : StatementParts IsShort IsShortArm → RawStatement-F RawStatement RawArm
  shape = statement_layer IsShort IsShortArm

  abbrev phrases_as : RawStatement-F RawStatement RawArm → Scope → Stand → Phrases
  phrases_as y = phrases_step raw (map-RawStatement RawStatement RawArm (Scoped (Stand → Phrases)) (Scoped ArmText) (scoped raw) (scoped_of_arm raw) y)

  abbrev passes_as : RawStatement-F RawStatement RawArm → Bool
  passes_as y = declares_step is_short (map-RawStatement RawStatement RawArm Bool Bool (declarations_pass is_short) (arm_passes is_short) y)

  layer_short : (y : StatementParts IsShort IsShortArm) (scope : Scope) (stand : Stand) → AreKnown (phrases_as (shape y) scope stand) → passes_as (shape y) ≡ true
  layer_short (RawStatement-F.Declare l v i) scope stand h = declaration_short l scope stand v i h
  layer_short (RawStatement-F.Assign l a op b) scope stand h = refl
  layer_short (RawStatement-F.Bump l a up before) scope stand h = refl
  layer_short (RawStatement-F.Call l to f args) scope stand h = refl
  layer_short (RawStatement-F.Heap l to cast n) scope stand h = refl
  layer_short (RawStatement-F.If l a body other) scope stand h =
      let ps = block_phrases (map (scoped raw) (bare body)) (numbered scope) in
      let middle = after_block (map (scoped raw) (bare body)) (numbered scope) in
      let qs = block_phrases (map (scoped raw) (bare other)) middle in
      and_from _ _ (block_short body (numbered scope) (known_first ps qs h.1)) (block_short other middle (known_rest ps qs h.1))
  layer_short (RawStatement-F.While l a b) scope stand h = block_short b (numbered scope) h.1
  layer_short (RawStatement-F.Do l a b) scope stand h = block_short b (numbered scope) h.1
  layer_short (RawStatement-F.For l None a None b) scope stand h = for_short l None a None b scope h
  layer_short (RawStatement-F.For l None a (Some k) b) scope stand h = for_short l None a (Some k) b scope h
  layer_short (RawStatement-F.For l (Some i) a None b) scope stand h = for_short l (Some i) a None b scope h
  layer_short (RawStatement-F.For l (Some i) a (Some k) b) scope stand h = for_short l (Some i) a (Some k) b scope h
  layer_short (RawStatement-F.Switch l a arms) scope stand h = arms_short arms (opened (numbered scope)) h.1
  layer_short (RawStatement-F.Block l b) scope stand h = block_short b scope h
  layer_short (RawStatement-F.Return l a) scope stand h = refl

  statement_rolled : (y : StatementParts IsShort IsShortArm) → IsShort (roll-RawStatement (shape y))
  statement_rolled y scope stand h =
      fold-roll-RawStatement Bool Bool (declares_step is_short) arm_declares (shape y)
      ∙ layer_short y scope stand (subst (λ (a : Scoped (Stand → Phrases)). AreKnown (a.gives scope stand)) (fold-roll-RawStatement (Scoped (Stand → Phrases)) (Scoped ArmText) (scoped_step raw) scoped_arm (shape y)) h)

  arm_rolled : (y : ArmParts IsShort IsShortArm) → IsShortArm (roll-RawArm (arm_layer IsShort IsShortArm y))
  arm_rolled y scope h =
      let layer = arm_layer IsShort IsShortArm y in
      fold-roll-RawArm Bool Bool (declares_step is_short) arm_declares layer
      ∙ all_short y.body scope InArm (subst (λ (a : Scoped ArmText). AreKnown (a.gives scope).phrases) (fold-roll-RawArm (Scoped (Stand → Phrases)) (Scoped ArmText) (scoped_step raw) scoped_arm layer) h)

  statement_short : (x : RawStatement) → IsShort x
  statement_short = of_every_statement IsShort IsShortArm statement_rolled arm_rolled

  -- ---- items

  body_short : (xs : List RawStatement) (scope : Scope) → AreKnown (body_phrases raw xs scope) → list_passes is_short xs ≡ true
  body_short [] scope h = refl
  body_short (x ∷ xs) scope h =
      let next = (scoped raw x).after scope in
      let one = (scoped raw x).gives scope InBlock in
      and_from _ _ (statement_short x scope InBlock (known_first one (body_phrases raw xs next) h)) (body_short xs next (known_rest one (body_phrases raw xs next) h))

  items_short : (xs : List RawItem) (scope : Scope) → AreKnown (items_phrases raw xs scope) → items_pass is_short xs ≡ true
  items_short [] scope h = refl
  items_short (x ∷ xs) scope h =
      let next = after_item raw x scope in
      and_from _ _ (item_short x (known_first (item_phrases raw x scope) (items_phrases raw xs next) h)) (items_short xs next (known_rest (item_phrases raw x scope) (items_phrases raw xs next) h))
    where
      item_short : (x : RawItem) → AreKnown (item_phrases raw x scope) → item_passes is_short x ≡ true
      item_short (Include is_stdlib) h = refl
      item_short (Tag l w) h = refl
      item_short (Struct l w members) h = refl
      item_short (Global l v i is_static) h = declaration_short l scope (InFile is_static) v i h
      item_short (Prototype l hd) h = refl
      item_short (Define l hd body) h =
          let heads = head_phrases raw hd.params (scope_of_parameters hd scope) in
          let inside = body_phrases raw body (entered raw hd scope) in
          body_short body (entered raw hd scope) (known_first inside _ (known_rest heads _ h.1))

  -- ---- what a program of the text says of its phrases

  module _ (p : Program) (long : array_length p ≤ 65536) where
    part_known : (l : ℕ) (scope : Scope) (part : Part) (n : ℕ) (rest : List (Option Var)) → ((k : ℕ) → Breaks raw scope part k → ⊥) → AllStand p n (declared_by raw l scope part ++ rest) → IsKnown scope part
    part_known l scope (Declares stand v i) n rest kept h =
        let at = h.0 in
        let g = map_there _ (ctype_with raw (item_count i) v.shape) at.var at.is in
        let most = variable_long p n at.var at.at in
        let same = ap (λ (x : Var). longest x.shape) g.same in
        record { type = g.value; is = g.there; within = omega (arith, most, same, long) }
    part_known l scope (Begins stand v i) n rest kept h = kept
    part_known l scope (NamesStruct w) n rest kept h = tt
    part_known l scope (DefinesStruct w) n rest kept h = tt
    part_known l scope (HasMember before m) n rest kept h = tt
    part_known l scope (DeclaresFunction hd b) n rest kept h = tt
    part_known l scope (Takes before q) n rest kept h = tt
    part_known l scope (EndsFunction hd body) n rest kept h = tt
    part_known l scope (Assigns a op b) n rest kept h = tt
    part_known l scope (Bumps a) n rest kept h = tt
    part_known l scope (Calls stand to f args) n rest kept h = tt
    part_known l scope (Allocates to cast a) n rest kept h = tt
    part_known l scope (Tests a) n rest kept h = tt
    part_known l scope (Switches a labels) n rest kept h = tt
    part_known l scope (Returns a) n rest kept h = tt

    all_known : (n : ℕ) (ps : Phrases) → AreKept raw ps → AllStand p n (variables_in raw ps) → AreKnown ps
    all_known n [] kept h = tt
    all_known n (x ∷ ps) kept h =
        let here = declared_by raw x.line x.scope x.part in
        (part_known x.line x.scope x.part n (variables_in raw ps) kept.0 h, all_known (n + length here) ps kept.1 (stand_rest p n here (variables_in raw ps) h))

-- The lists of such a text are short.
pub short_lists : (raw : RawProgram) (p : Program) → program_of raw ≡ Some p → KeepsRules raw → array_length p ≤ 65536 → HasShortLists raw
short_lists raw p is keeps long =
    let parts = program_parts raw p is in
    let stand : AllStand p 0 (variables_in raw (phrases raw)) = subst (AllStand p 0) (sym parts.vars) (stand_all p 0 p.vars (λ i. ap (slice_get p.vars) (omega arith))) in
    items_short raw raw.items outset (all_known raw p long 0 (phrases raw) (phrases_kept raw keeps) stand)
