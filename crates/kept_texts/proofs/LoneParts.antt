-- In a text, what a for begins with, and its step, declare nothing by a call of a function, so that each becomes one statement or none.
use Rattle.std.proofs.Common.{◌≡◌, ℕ, List, [], ◌∷◌, ◌++◌, map, Bool, true, false, ◌&&◌, ◌⊎◌, inl, inr, Option, Some, None, option_map, option_and_then, bytes_eq, slice_get, refl, sym, ap, subst, ◌∙◌, Contains}
use Rattle.std.specs.Prelude.{codes}
use Rattle.std.specs.List.{list_all}
use Rattle.std.specs.Option.{option_to_list}
use Rattle.std.proofs.lemmas.Bool.{and_parts}
use Rattle.rule_closure.proofs.ListLemmas.{contains_none, contains_cases}
use Rattle.c_arith.specs.declared.int_type.IntType.{IntType}
use Rattle.c_tree.specs.declared.types.CType.{CType}
use Rattle.c_tree.specs.declared.expr.Expr.{Expr}
use Rattle.c_tree.specs.declared.program.Function.{Function}
use Rattle.c_tree.specs.declared.program.Program.{Program}
use Rattle.c_tree.specs.declared.raw.expr.RawExpr.{RawExpr}
use Rattle.c_tree.specs.declared.raw.program.RawProgram.{RawProgram}
use Rattle.c_tree.specs.declared.raw.statement.RawArg.{RawArg}
use Rattle.c_tree.specs.declared.raw.statement.RawArm.{RawArm, roll-RawArm, map-RawArm, fold-roll-RawArm}
use Rattle.c_tree.specs.declared.raw.statement.RawStatement.{RawStatement, ind-RawStatement, roll-RawStatement, map-RawStatement, fold-roll-RawStatement}
use Rattle.c_tree.specs.declared.raw.statement.RawStatement.TheOpen.{RawStatement-F, RawArm-F}
use Rattle.c_tree.specs.declared.raw.statement.RawTarget.{RawTarget}
use Rattle.c_tree.specs.declared.raw.statement.RawTarget.TheVariants as target
use Rattle.c_tree.specs.declared.statement.Amount.{Amount}
use Rattle.c_tree.specs.declared.statement.Arm.{Arm}
use Rattle.c_tree.specs.declared.statement.Statement.{Statement, out-Statement, roll-Statement}
use Rattle.c_tree.specs.declared.statement.Statement.TheViews.{out-roll-Statement}
use Rattle.c_tree.specs.declared.statement.Statement.TheOpen.{Statement-F}
use Rattle.c_tree.specs.declared.statement.Statement.TheVariants as s
use Rattle.c_tree.specs.declared.statement.Target.{Target}
use Rattle.c_tree.specs.declared.statement.Target.TheVariants as to_place
use Rattle.c_tree.specs.Numbered.{arms_inner, layer_inner, inner, StandsIn}
use Rattle.c_tree.specs.Numbered.StandsIn.{here, inside, later}
use Rattle.c_language.specs.Words.{Bytes}
use Rattle.c_language.specs.CallRules.{format_in, later_args}
use Rattle.c_language.specs.ConstantEvaluation.{both}
use Rattle.c_language.specs.DeclaredTypes.{function_id}
use Rattle.c_language.specs.ItemGrammar.{are_named}
use Rattle.c_language.specs.Lists.{all_true}
use Rattle.c_language.specs.Phrases.{Stand, InBlock, InArm, InFor, Calls, Tests, EndsFunction, Phrases, phrase, target_phrases, joined_at, block_phrases, ArmText, phrases_of_arms, scoped_step, scoped_arm, scoped, scoped_of_arm, head_phrases, body_phrases}
use Rattle.c_language.specs.Programs.{IsTree, HasProgram, IsWithinLimits}
use Rattle.c_language.specs.ProgramOf.{collected, optional, ctype_if, expr_of, init_of, declaration_id, target_tree, args_tree, only_tree, amount_tree, call_tree, invoke_tree, label_tree, arm_tree, ArmTree, arm_tree_step, block_tree, at_type, switch_type, for_tree, treed_step, treed, body_of, treed_arm}
use Rattle.c_language.specs.Rules.{Breaks, KeepsRules, AreKept}
use Rattle.c_language.specs.Scopes.{Scope, Scoped, opened, numbered, with_variable, with_target, in_order, after_block, scope_of_parameters, entered}
use Rattle.c_language.specs.SwitchRules.{MisplacesDeclaration}
use Rattle.c_language.specs.Syntax.{Position, takes_compound, is_expr, is_label, is_there, is_head, is_target, is_call, all_inner, part_at, stands_step, arm_step, stands, is_arm, is_body}
use Rattle.c_language.specs.TypeGrammar.{named_type}
use Rattle.c_language.specs.Uses.{is_library_function}
use Rattle.c_language.proofs.Options.{none_there, some_same, optional_there, map_there, then_there, both_there, more_there}
use Rattle.c_language.proofs.PhraseLists.{kept_first, kept_second}
use Rattle.c_language.proofs.ProgramParts.{function_made}
use Rattle.c_language.proofs.Tests.{false_true}
use Rattle.c_language.proofs.TreeScopes.{after_same, list_after, block_after_same}
use Rattle.dep_model.proofs.Options.{Always, always_map, always_then, always_if, always_is}
use Rattle.dep_model.proofs.TextNumbers.{for_some}
use Rattle.own_words.specs.OwnWords.{layer_parts, for_parts}
use Rattle.kept_texts.proofs.DefinedOnce.{no_library}
use Rattle.kept_texts.proofs.LastReturns.{in_text}

abbrev declares_none : Target → Bool
declares_none (to_place.Declared x) = false
declares_none _ = true

abbrev pub lone_layer : Statement-F Statement Arm → Bool
lone_layer (Statement-F.Invoke id l to f args) = declares_none to
lone_layer _ = true

-- it declares nothing by a call of a function
abbrev pub is_lone : Statement → Bool
is_lone x = lone_layer (out-Statement x)

-- wherever a for stands in these statements, its parts declare nothing by a call
abbrev pub Whole : List Statement → Type 0
Whole xs = (y part : Statement) → StandsIn xs y → Contains (for_parts y) part → is_lone part ≡ true

-- ---- where a statement stands

abbrev pub StandsHere : List Statement → Statement → Type 0
StandsHere [] y = ⊥
StandsHere (x ∷ xs) y = (y ≡ x) ⊎ (StandsIn (inner x) y ⊎ StandsIn xs y)

pub stands_here : {xs : List Statement} {y : Statement} → StandsIn xs y → StandsHere xs y
stands_here here = inl refl
stands_here (inside h) = inr (inl h)
stands_here (later h) = inr (inr h)

whole_none : Whole []
whole_none y part h m = absurd (stands_here h)

whole_cons : (x : Statement) (xs : List Statement) → ((part : Statement) → Contains (for_parts x) part → is_lone part ≡ true) → Whole (inner x) → Whole xs → Whole (x ∷ xs)
whole_cons x xs own in_it rest y part h m = by_place (stands_here h)
  where
    by_place : StandsHere (x ∷ xs) y → is_lone part ≡ true
    by_place (inl e) = own part (subst (λ (z : Statement). Contains (for_parts z) part) e m)
    by_place (inr (inl i)) = in_it y part i m
    by_place (inr (inr r)) = rest y part r m

whole_both : (xs ys : List Statement) → Whole xs → Whole ys → Whole (xs ++ ys)
whole_both [] ys a b = b
whole_both (x ∷ xs) ys a b = whole_cons x (xs ++ ys) (λ part m. a x part here m) (λ y part h m. a y part (inside h) m) (whole_both xs ys (λ y part h m. a y part (later h) m) b)

-- ---- one statement, by its form

whole_one : (z : Statement-F Statement Arm) (x : Statement) → roll-Statement z ≡ x → ((part : Statement) → Contains (layer_parts z) part → is_lone part ≡ true) → Whole (layer_inner z) → Whole (x ∷ [])
whole_one z x is parts in_it =
    let out : out-Statement x ≡ z = ap out-Statement (sym is) ∙ out-roll-Statement z in
    whole_cons x [] (λ part m. parts part (subst (λ (w : Statement-F Statement Arm). Contains (layer_parts w) part) out m)) (subst (λ (w : Statement-F Statement Arm). Whole (layer_inner w)) (sym out) in_it) whole_none

no_parts : (part : Statement) → Contains [] part → is_lone part ≡ true
no_parts part m = absurd (contains_none part m)

whole_leaf : (z : Statement-F Statement Arm) (x : Statement) → roll-Statement z ≡ x → layer_parts z ≡ [] → layer_inner z ≡ [] → Whole (x ∷ [])
whole_leaf z x is none inner_none = whole_one z x is (λ part m. no_parts part (subst (λ (ps : List Statement). Contains ps part) none m)) (subst Whole (sym inner_none) whole_none)

lone_one : (z : Statement-F Statement Arm) (x : Statement) → roll-Statement z ≡ x → lone_layer z ≡ true → is_lone x ≡ true
lone_one z x is h = ap lone_layer (ap out-Statement (sym is) ∙ out-roll-Statement z) ∙ h

-- it holds no for, and declares nothing by a call where a condition holds
record IsOne (C : Type 0) (x : Statement) : Type 0 where
  whole : Whole (x ∷ [])
  lone : C → is_lone x ≡ true

one : (C : Type 0) (z : Statement-F Statement Arm) (x : Statement) → roll-Statement z ≡ x → layer_parts z ≡ [] → layer_inner z ≡ [] → lone_layer z ≡ true → IsOne C x
one C z x is none inner_none lone = record { whole = whole_leaf z x is none inner_none; lone = λ c. lone_one z x is lone }

-- parts of a for
abbrev PartLone : Option Statement → Type 0
PartLone None = Unit {0}
PartLone (Some x) = is_lone x ≡ true

last_lone : (y : Option Statement) → PartLone y → (part : Statement) → Contains (option_to_list y) part → is_lone part ≡ true
last_lone None h part m = no_parts part m
last_lone (Some y) h part m = elim (contains_cases y [] part m) [
  | inl e ↦ ap is_lone (sym e) ∙ h
  | inr n ↦ no_parts part n
]

parts_lone : (x y : Option Statement) → PartLone x → PartLone y → (part : Statement) → Contains (option_to_list x ++ option_to_list y) part → is_lone part ≡ true
parts_lone None y g h part m = last_lone y h part m
parts_lone (Some x) y g h part m = elim (contains_cases x (option_to_list y) part m) [
  | inl e ↦ ap is_lone (sym e) ∙ g
  | inr n ↦ last_lone y h part n
]

always_there : {A : Type 0} (P : A → Type 0) (o : Option A) → ((x : A) → o ≡ Some x → P x) → Always P o
always_there P None h = tt
always_there P (Some x) h = h x refl

module _ (raw : RawProgram) where
  -- the function is none of the text, or nothing is declared
  abbrev CallLone : Scope → RawTarget → Bytes → Type 0
  CallLone scope to f = (g : ℕ) → function_id raw f ≡ Some g → (t : Target) → target_tree raw scope to ≡ Some t → declares_none t ≡ true

  call_one : (scope : Scope) (to : RawTarget) (id l : ℕ) (f : Bytes) (args : List RawArg) → Always (IsOne (CallLone scope to f)) (call_tree raw (with_target raw to scope) id l (target_tree raw scope to) f args)
  call_one scope to id l f args =
      let within = with_target raw to scope in
      let t = target_tree raw scope to in
      let Q : Statement → Type 0 = IsOne (CallLone scope to f) in
      let C : Type 0 = CallLone scope to f in
      always_if Q (bytes_eq f (codes "getchar")) _ _ (always_map Q (s.Fetch id l) t (λ z. one C (Statement-F.Fetch id l z) (s.Fetch id l z) (s.rolls-Fetch id l z) refl refl refl))
      (always_if Q (bytes_eq f (codes "putchar")) _ _ (always_map Q (s.Write id l) (only_tree raw within args) (λ e. one C (Statement-F.Write id l e) (s.Write id l e) (s.rolls-Write id l e) refl refl refl))
      (always_if Q (bytes_eq f (codes "printf")) _ _ (always_then Q _ (format_in args) (λ text. always_map Q (s.Print id l text) (args_tree raw within (later_args args)) (λ es. one C (Statement-F.Print id l text es) (s.Print id l text es) (s.rolls-Print id l text es) refl refl refl)))
      (always_if Q (bytes_eq f (codes "free")) _ _ (always_map Q (s.Release id l) (only_tree raw within args) (λ e. one C (Statement-F.Release id l e) (s.Release id l e) (s.rolls-Release id l e) refl refl refl))
      (always_there Q (invoke_tree raw within id l t f args) (λ x e.
      let a = then_there (λ (z : Target). both (s.Invoke id l z) (function_id raw f) (args_tree raw within args)) t x e in
      let m = both_there (s.Invoke id l a.value) (function_id raw f) (args_tree raw within args) x a.same in
      subst Q m.same (record {
        whole = whole_leaf (Statement-F.Invoke id l a.value m.left m.right) (s.Invoke id l a.value m.left m.right) (s.rolls-Invoke id l a.value m.left m.right) refl refl;
        lone = λ c. lone_one (Statement-F.Invoke id l a.value m.left m.right) (s.Invoke id l a.value m.left m.right) (s.rolls-Invoke id l a.value m.left m.right) (c m.left m.left_there a.value a.there);
      }))))))

  heap_one : (C : Type 0) (id l : ℕ) (t : Option Target) (c : Option (Option CType)) (n : Option Amount) → Always (IsOne C) (option_and_then (λ (z : Target). option_and_then (λ (k : Option CType). option_map (s.Heap id l z k) n) c) t)
  heap_one C id l t c n = always_then (IsOne C) _ t (λ z. always_then (IsOne C) _ c (λ k. always_map (IsOne C) (s.Heap id l z k) n (λ m. one C (Statement-F.Heap id l z k m) (s.Heap id l z k m) (s.rolls-Heap id l z k m) refl refl refl)))

  module _ (rules : KeepsRules raw) where
    -- ---- a statement in the tree, as phrases, and where it may stand

    record Case (t : Scoped (Option Statement)) (v : Position → Bool) (w : Scoped (Stand → Phrases)) : Type 0 where
      whole : (scope : Scope) (p : Position) (stand : Stand) (x : Statement) → v p ≡ true → AreKept raw (w.gives scope stand) → t.gives scope ≡ Some x → Whole (x ∷ [])
      begins : (scope : Scope) (x : Statement) → AreKept raw (w.gives scope InFor) → t.gives scope ≡ Some x → is_lone x ≡ true
      steps : (scope : Scope) (x : Statement) → v Position.step ≡ true → t.gives scope ≡ Some x → is_lone x ≡ true

    record ArmCase (t : Scoped ArmTree) (b : Bool) (w : Scoped ArmText) : Type 0 where
      whole : (scope : Scope) (i : IntType) (a : Arm) → b ≡ true → AreKept raw (w.gives scope).phrases → t.gives scope i ≡ Some a → Whole a.body
      same : (scope : Scope) → t.after scope ≡ w.after scope

    abbrev Known : Type 0
    Known = (x : RawStatement) × Case (treed raw x) (stands x) (scoped raw x)

    abbrev KnownArm : Type 0
    KnownArm = (a : RawArm) × ArmCase (treed_arm raw a) (is_arm a) (scoped_of_arm raw a)

    abbrev layer_of : RawStatement-F Known KnownArm → RawStatement-F RawStatement RawArm
    layer_of = map-RawStatement Known KnownArm RawStatement RawArm (λ p. p.0) (λ p. p.0)

    abbrev arm_layer_of : RawArm-F Known KnownArm → RawArm-F RawStatement RawArm
    arm_layer_of = map-RawArm Known KnownArm RawStatement RawArm (λ p. p.0) (λ p. p.0)

    abbrev as_tree : RawStatement-F RawStatement RawArm → Scoped (Option Statement)
    as_tree y = treed_step raw (map-RawStatement RawStatement RawArm (Scoped (Option Statement)) (Scoped ArmTree) (treed raw) (treed_arm raw) y)

    abbrev as_stands : RawStatement-F RawStatement RawArm → Position → Bool
    as_stands y = stands_step (map-RawStatement RawStatement RawArm (Position → Bool) Bool stands is_arm y)

    abbrev as_text : RawStatement-F RawStatement RawArm → Scoped (Stand → Phrases)
    as_text y = scoped_step raw (map-RawStatement RawStatement RawArm (Scoped (Stand → Phrases)) (Scoped ArmText) (scoped raw) (scoped_of_arm raw) y)

    abbrev as_arm_tree : RawArm-F RawStatement RawArm → Scoped ArmTree
    as_arm_tree y = arm_tree_step raw (map-RawArm RawStatement RawArm (Scoped (Option Statement)) (Scoped ArmTree) (treed raw) (treed_arm raw) y)

    abbrev as_arm : RawArm-F RawStatement RawArm → Bool
    as_arm y = arm_step (map-RawArm RawStatement RawArm (Position → Bool) Bool stands is_arm y)

    abbrev as_arm_text : RawArm-F RawStatement RawArm → Scoped ArmText
    as_arm_text y = scoped_arm (map-RawArm RawStatement RawArm (Scoped (Stand → Phrases)) (Scoped ArmText) (scoped raw) (scoped_of_arm raw) y)

    abbrev rows : List Known → List RawStatement
    rows ks = map (λ (p : Known). p.0) ks

    abbrev trees : List Known → List (Scoped (Option Statement))
    trees ks = map (treed raw) (rows ks)

    abbrev texts : List Known → List (Scoped (Stand → Phrases))
    texts ks = map (scoped raw) (rows ks)

    abbrev arm_rows : List KnownArm → List RawArm
    arm_rows ks = map (λ (p : KnownArm). p.0) ks

    abbrev arm_trees : List KnownArm → List (Scoped ArmTree)
    arm_trees ks = map (treed_arm raw) (arm_rows ks)

    abbrev arm_texts : List KnownArm → List (Scoped ArmText)
    arm_texts ks = map (scoped_of_arm raw) (arm_rows ks)

    abbrev list_phrases : List Known → Scope → Stand → Phrases
    list_phrases ks scope stand = joined_at stand (in_order (texts ks) scope)

    list_whole : (ks : List Known) (scope : Scope) (stand : Stand) (zs : List Statement) → all_inner (map stands (rows ks)) ≡ true → AreKept raw (list_phrases ks scope stand) → collected (in_order (trees ks) scope) ≡ Some zs → Whole zs
    list_whole [] scope stand zs h kept e = subst Whole (some_same e) whole_none
    list_whole (q ∷ ks) scope stand zs h kept e =
        let next = (treed raw q.0).after scope in
        let place = (scoped raw q.0).after scope in
        let z = more_there ((treed raw q.0).gives scope) (in_order (trees ks) next) zs e in
        let b = and_parts (stands q.0 Position.inner) (all_inner (map stands (rows ks))) h in
        let first = q.1.whole scope Position.inner stand z.first b.0 (kept_first raw ((scoped raw q.0).gives scope stand) (list_phrases ks place stand) kept) z.first_there in
        let rest = list_whole ks next stand z.rest b.1 (subst (λ (y : Scope). AreKept raw (list_phrases ks y stand)) (sym (after_same raw q.0 scope)) (kept_second raw ((scoped raw q.0).gives scope stand) (list_phrases ks place stand) kept)) z.rest_there in
        subst Whole z.same (whole_both (z.first ∷ []) z.rest first rest)

    arms_whole : (ks : List KnownArm) (scope : Scope) (i : IntType) (as_ : List Arm) → all_true (map is_arm (arm_rows ks)) ≡ true → AreKept raw (phrases_of_arms (in_order (arm_texts ks) scope)) → at_type i (in_order (arm_trees ks) scope) ≡ Some as_
        → Whole (arms_inner as_)
    arms_whole [] scope i as_ h kept e = subst (λ (ys : List Arm). Whole (arms_inner ys)) (some_same e) whole_none
    arms_whole (q ∷ ks) scope i as_ h kept e =
        let next = (treed_arm raw q.0).after scope in
        let place = (scoped_of_arm raw q.0).after scope in
        let own = ((scoped_of_arm raw q.0).gives scope).phrases in
        let others = phrases_of_arms (in_order (arm_texts ks) place) in
        let z = more_there ((treed_arm raw q.0).gives scope i) (map (λ (a : ArmTree). a i) (in_order (arm_trees ks) next)) as_ e in
        let b = and_parts (is_arm q.0) (all_true (map is_arm (arm_rows ks))) h in
        let first = q.1.whole scope i z.first b.0 (kept_first raw own others kept) z.first_there in
        let rest = arms_whole ks next i z.rest b.1 (subst (λ (y : Scope). AreKept raw (phrases_of_arms (in_order (arm_texts ks) y))) (sym (q.1.same scope)) (kept_second raw own others kept)) z.rest_there in
        subst (λ (ys : List Arm). Whole (arms_inner ys)) z.same (whole_both z.first.body (arms_inner z.rest) first rest)

    -- the phrases of a second block, by the scopes of trees
    kept_between : (a b : List Known) (scope : Scope) → AreKept raw (block_phrases (texts b) (after_block (texts a) (numbered scope))) → AreKept raw (list_phrases b (opened (after_block (trees a) (numbered scope))) InBlock)
    kept_between a b scope kept = subst (λ (z : Scope). AreKept raw (block_phrases (texts b) z)) (sym (block_after_same raw (rows a) (numbered scope))) kept

    -- ---- a for

    abbrev part_after : Option Known → Scope → Scope
    part_after None scope = scope
    part_after (Some k) scope = (treed raw k.0).after scope

    abbrev part_given : Option Known → Scope → Option (Option Statement)
    part_given None scope = Some None
    part_given (Some k) scope = optional (Some ((treed raw k.0).gives scope))

    abbrev part_stands : Option Known → Option (Position → Bool)
    part_stands None = None
    part_stands (Some k) = Some (stands k.0)

    abbrev text_after : Option Known → Scope → Scope
    text_after None scope = scope
    text_after (Some q) scope = (scoped raw q.0).after scope

    abbrev part_phrases : Option Known → Scope → Stand → Phrases
    part_phrases None scope stand = []
    part_phrases (Some q) scope stand = (scoped raw q.0).gives scope stand

    part_same : (o : Option Known) (scope : Scope) → part_after o scope ≡ text_after o scope
    part_same None scope = refl
    part_same (Some q) scope = after_same raw q.0 scope

    part_whole : (o : Option Known) (scope : Scope) (p : Position) (stand : Stand) (y : Option Statement) → part_at p (part_stands o) ≡ true → AreKept raw (part_phrases o scope stand) → part_given o scope ≡ Some y → Whole (option_to_list y)
    part_whole None scope p stand y h kept e = subst (λ (z : Option Statement). Whole (option_to_list z)) (some_same e) whole_none
    part_whole (Some q) scope p stand y h kept e =
        let w = optional_there ((treed raw q.0).gives scope) y e in subst (λ (z : Option Statement). Whole (option_to_list z)) w.1.1 (q.1.whole scope p stand w.0 h kept w.1.0)

    first_lone : (o : Option Known) (scope : Scope) (y : Option Statement) → AreKept raw (part_phrases o scope InFor) → part_given o scope ≡ Some y → PartLone y
    first_lone None scope y kept e = subst PartLone (some_same e) tt
    first_lone (Some q) scope y kept e = let w = optional_there ((treed raw q.0).gives scope) y e in subst PartLone w.1.1 (q.1.begins scope w.0 kept w.1.0)

    step_lone : (o : Option Known) (scope : Scope) (y : Option Statement) → part_at Position.step (part_stands o) ≡ true → part_given o scope ≡ Some y → PartLone y
    step_lone None scope y h e = subst PartLone (some_same e) tt
    step_lone (Some q) scope y h e = let w = optional_there ((treed raw q.0).gives scope) y e in subst PartLone w.1.1 (q.1.steps scope w.0 h w.1.0)

    module _ (i j : Option Known) (l : ℕ) (test : RawExpr) (b : List Known) (scope : Scope) where
      abbrev start : Scope
      start = opened (numbered scope)

      abbrev middle : Scope
      middle = part_after i start

      abbrev late : Scope
      late = part_after j middle

      abbrev for_given : Option Statement
      for_given = for_tree scope.statements l (part_given i start) (expr_of raw middle test) (part_given j middle) (block_tree (trees b) late)

      abbrev for_stands : Bool
      for_stands = part_at Position.first (part_stands i) && (is_expr test && (part_at Position.step (part_stands j) && all_inner (map stands (rows b))))

      abbrev for_phrases : Phrases
      for_phrases =
          part_phrases i start InFor
          ++ (phrase l (text_after i start) (Tests test) ∷ (part_phrases j (text_after i start) InBlock ++ block_phrases (texts b) (text_after j (text_after i start))))

      for_whole : (x : Statement) → for_stands ≡ true → AreKept raw for_phrases → for_given ≡ Some x → Whole (x ∷ [])
      for_whole x h kept e =
          let f = for_some scope.statements l (part_given i start) (expr_of raw middle test) (part_given j middle) (block_tree (trees b) late) x e in
          let h1 = and_parts (part_at Position.first (part_stands i)) (is_expr test && (part_at Position.step (part_stands j) && all_inner (map stands (rows b)))) h in
          let h2 = and_parts (is_expr test) (part_at Position.step (part_stands j) && all_inner (map stands (rows b))) h1.1 in
          let h3 = and_parts (part_at Position.step (part_stands j)) (all_inner (map stands (rows b))) h2.1 in
          let first_kept = kept_first raw (part_phrases i start InFor) _ kept in
          let behind = kept_second raw (part_phrases i start InFor) _ kept in
          let middle_is = part_same i start in
          let step_kept : AreKept raw (part_phrases j middle InBlock) = subst (λ (z : Scope). AreKept raw (part_phrases j z InBlock)) (sym middle_is) (kept_first raw (part_phrases j (text_after i start) InBlock) _ behind.1) in
          let late_is : late ≡ text_after j (text_after i start) = ap (part_after j) middle_is ∙ part_same j (text_after i start) in
          let body_kept : AreKept raw (block_phrases (texts b) late) = subst (λ (z : Scope). AreKept raw (block_phrases (texts b) z)) (sym late_is) (kept_second raw (part_phrases j (text_after i start) InBlock) _ behind.1) in
          whole_one (Statement-F.For scope.statements l f.0 f.1 f.2 f.3) x (s.rolls-For scope.statements l f.0 f.1 f.2 f.3 ∙ sym f.8) (parts_lone f.0 f.2 (first_lone i start f.0 first_kept f.4) (step_lone j middle f.2 h3.0 f.6))
          (whole_both (option_to_list f.0) (option_to_list f.2 ++ f.3) (part_whole i start Position.first InFor f.0 h1.0 first_kept f.4)
          (whole_both (option_to_list f.2) f.3 (part_whole j middle Position.step InBlock f.2 h3.0 step_kept f.6) (list_whole b (opened late) InBlock f.3 h3.1 body_kept f.7)))

      for_lone : (x : Statement) → for_given ≡ Some x → is_lone x ≡ true
      for_lone x e =
          let f = for_some scope.statements l (part_given i start) (expr_of raw middle test) (part_given j middle) (block_tree (trees b) late) x e in
          lone_one (Statement-F.For scope.statements l f.0 f.1 f.2 f.3) x (s.rolls-For scope.statements l f.0 f.1 f.2 f.3 ∙ sym f.8) refl

    -- ---- a call

    -- as the first part of a for, or as its step
    call_begins : (l : ℕ) (scope : Scope) (to : RawTarget) (f : Bytes) (args : List RawArg) → AreKept raw (target_phrases raw l scope InFor to ++ (phrase l (with_target raw to scope) (Calls InFor to f args) ∷ [])) → CallLone scope to f
    call_begins l scope target.None f args kept g there t is = subst (λ (z : Target). declares_none z ≡ true) (some_same is) refl
    call_begins l scope (target.Place a) f args kept g there t is = let m = map_there to_place.Place (expr_of raw scope a) t is in subst (λ (z : Target). declares_none z ≡ true) m.same refl
    call_begins l scope (target.Declared v) f args kept g there t is = by_name (is_library_function f) refl
      where
        by_name : (b : Bool) → is_library_function f ≡ b → declares_none t ≡ true
        by_name true q = none_there (sym (no_library raw rules f q) ∙ there)
        by_name false q = absurd ((kept_second raw (target_phrases raw l scope InFor (target.Declared v)) (phrase l (with_target raw (target.Declared v) scope) (Calls InFor (target.Declared v) f args) ∷ []) kept).0 23 (Breaks.misplaced (MisplacesDeclaration.in_for q)))

    call_steps : (scope : Scope) (to : RawTarget) (f : Bytes) (args : List RawArg) → (is_target Position.step to && is_call f args) ≡ true → CallLone scope to f
    call_steps scope target.None f args h g there t is = subst (λ (z : Target). declares_none z ≡ true) (some_same is) refl
    call_steps scope (target.Place a) f args h g there t is = let m = map_there to_place.Place (expr_of raw scope a) t is in subst (λ (z : Target). declares_none z ≡ true) m.same refl
    call_steps scope (target.Declared v) f args h g there t is = false_true h

    -- ---- each form

    -- a statement without parts, which declares nothing by a call
    plain_case : (t : Scoped (Option Statement)) (v : Position → Bool) (w : Scoped (Stand → Phrases)) → ((scope : Scope) → Always (IsOne (Unit {0})) (t.gives scope)) → Case t v w
    plain_case t v w h = record {
      whole = λ scope p stand x q kept e. (always_is (IsOne (Unit {0})) (t.gives scope) x (h scope) e).whole;
      begins = λ scope x kept e. (always_is (IsOne (Unit {0})) (t.gives scope) x (h scope) e).lone tt;
      steps = λ scope x q e. (always_is (IsOne (Unit {0})) (t.gives scope) x (h scope) e).lone tt;
    }

    record IfParts (l : ℕ) (test : RawExpr) (a b : List Known) (scope : Scope) (x : Statement) : Type 0 where
      value : Expr
      first : List Statement
      second : List Statement
      first_is : collected (in_order (trees a) (opened (numbered scope))) ≡ Some first
      second_is : collected (in_order (trees b) (opened (after_block (trees a) (numbered scope)))) ≡ Some second
      is : s.If scope.statements l value first second ≡ x

    if_parts : (l : ℕ) (test : RawExpr) (a b : List Known) (scope : Scope) (x : Statement) → (as_tree (RawStatement-F.If l test (rows a) (rows b))).gives scope ≡ Some x → IfParts l test a b scope x
    if_parts l test a b scope x e =
        let t = then_there (λ (z : Expr). both (s.If scope.statements l z) (block_tree (trees a) (numbered scope)) (block_tree (trees b) (after_block (trees a) (numbered scope)))) (expr_of raw scope test) x e in
        let m = both_there (s.If scope.statements l t.value) (block_tree (trees a) (numbered scope)) (block_tree (trees b) (after_block (trees a) (numbered scope))) x t.same in
        record { value = t.value; first = m.left; second = m.right; first_is = m.left_there; second_is = m.right_there; is = m.same }

    record SwitchParts (l : ℕ) (test : RawExpr) (arms : List KnownArm) (scope : Scope) (x : Statement) : Type 0 where
      value : Expr
      type : IntType
      all : List Arm
      all_is : at_type type (in_order (arm_trees arms) (opened (numbered scope))) ≡ Some all
      is : s.Switch scope.statements l value all ≡ x

    switch_parts : (l : ℕ) (test : RawExpr) (arms : List KnownArm) (scope : Scope) (x : Statement) → (as_tree (RawStatement-F.Switch l test (arm_rows arms))).gives scope ≡ Some x → SwitchParts l test arms scope x
    switch_parts l test arms scope x e =
        let t = then_there (λ (z : Expr). option_and_then (λ (i : IntType). option_map (s.Switch scope.statements l z) (at_type i (in_order (arm_trees arms) (opened (numbered scope))))) (switch_type raw scope test)) (expr_of raw scope test) x e in
        let u = then_there (λ (i : IntType). option_map (s.Switch scope.statements l t.value) (at_type i (in_order (arm_trees arms) (opened (numbered scope))))) (switch_type raw scope test) x t.same in
        let m = map_there (s.Switch scope.statements l t.value) (at_type u.value (in_order (arm_trees arms) (opened (numbered scope)))) x u.same in
        record { value = t.value; type = u.value; all = m.value; all_is = m.there; is = m.same }

    layer_case : (y : RawStatement-F Known KnownArm) → Case (as_tree (layer_of y)) (as_stands (layer_of y)) (as_text (layer_of y))
    layer_case (RawStatement-F.Declare l v i) =
        plain_case _ _ _ (λ scope. always_map (IsOne (Unit {0})) (s.Declare (declaration_id i scope.statements) l scope.variables) (init_of raw (with_variable raw v i scope) i) (λ z. one (Unit {0}) (Statement-F.Declare (declaration_id i scope.statements) l scope.variables z) (s.Declare (declaration_id i scope.statements) l scope.variables z) (s.rolls-Declare (declaration_id i scope.statements) l scope.variables z) refl refl refl))
    layer_case (RawStatement-F.Assign l left op right) =
        plain_case _ _ _ (λ scope. always_there (IsOne (Unit {0})) (both (λ (a b : Expr). s.Assign scope.statements l a op b) (expr_of raw scope left) (expr_of raw scope right)) (λ x e.
        let m = both_there (λ (a b : Expr). s.Assign scope.statements l a op b) (expr_of raw scope left) (expr_of raw scope right) x e in
        subst (IsOne (Unit {0})) m.same (one (Unit {0}) (Statement-F.Assign scope.statements l m.left op m.right) (s.Assign scope.statements l m.left op m.right) (s.rolls-Assign scope.statements l m.left op m.right) refl refl refl)))
    layer_case (RawStatement-F.Bump l left up before) =
        plain_case _ _ _ (λ scope. always_map (IsOne (Unit {0})) (λ (a : Expr). s.Bump scope.statements l a up before) (expr_of raw scope left) (λ a. one (Unit {0}) (Statement-F.Bump scope.statements l a up before) (s.Bump scope.statements l a up before) (s.rolls-Bump scope.statements l a up before) refl refl refl))
    layer_case (RawStatement-F.Call l to f args) = record {
      whole = λ scope p stand x h kept e. (always_is (IsOne (CallLone scope to f)) _ x (call_one scope to scope.statements l f args) e).whole;
      begins = λ scope x kept e. (always_is (IsOne (CallLone scope to f)) _ x (call_one scope to scope.statements l f args) e).lone (call_begins l scope to f args kept);
      steps = λ scope x h e. (always_is (IsOne (CallLone scope to f)) _ x (call_one scope to scope.statements l f args) e).lone (call_steps scope to f args h);
    }
    layer_case (RawStatement-F.Heap l to cast n) =
        plain_case _ _ _ (λ scope. heap_one (Unit {0}) scope.statements l (target_tree raw scope to) (ctype_if raw (option_map named_type cast)) (amount_tree raw (with_target raw to scope) n))
    layer_case (RawStatement-F.If l test a b) = record {
      whole = λ scope p stand x h kept e.
          let w = if_parts l test a b scope x e in
          let h1 = (and_parts (takes_compound p) (is_expr test && (all_inner (map stands (rows a)) && all_inner (map stands (rows b)))) h).1 in
          let h2 = (and_parts (is_expr test) (all_inner (map stands (rows a)) && all_inner (map stands (rows b))) h1).1 in
          let h3 = and_parts (all_inner (map stands (rows a))) (all_inner (map stands (rows b))) h2 in
          whole_one (Statement-F.If scope.statements l w.value w.first w.second) x (s.rolls-If scope.statements l w.value w.first w.second ∙ w.is) no_parts
          (whole_both w.first w.second (list_whole a (opened (numbered scope)) InBlock w.first h3.0 (kept_first raw (block_phrases (texts a) (numbered scope)) _ kept.1) w.first_is)
          (list_whole b (opened (after_block (trees a) (numbered scope))) InBlock w.second h3.1 (kept_between a b scope (kept_second raw (block_phrases (texts a) (numbered scope)) _ kept.1)) w.second_is));
      begins = λ scope x kept e. let w = if_parts l test a b scope x e in lone_one (Statement-F.If scope.statements l w.value w.first w.second) x (s.rolls-If scope.statements l w.value w.first w.second ∙ w.is) refl;
      steps = λ scope x h e. let w = if_parts l test a b scope x e in lone_one (Statement-F.If scope.statements l w.value w.first w.second) x (s.rolls-If scope.statements l w.value w.first w.second ∙ w.is) refl;
    }
    layer_case (RawStatement-F.While l test b) = record {
      whole = λ scope p stand x h kept e.
          let m = both_there (s.While scope.statements l) (expr_of raw scope test) (block_tree (trees b) (numbered scope)) x e in
          let h1 = (and_parts (takes_compound p) (is_expr test && all_inner (map stands (rows b))) h).1 in
          let h2 = (and_parts (is_expr test) (all_inner (map stands (rows b))) h1).1 in
          whole_one (Statement-F.While scope.statements l m.left m.right) x (s.rolls-While scope.statements l m.left m.right ∙ m.same) no_parts (list_whole b (opened (numbered scope)) InBlock m.right h2 kept.1 m.right_there);
      begins = λ scope x kept e. alone scope x e;
      steps = λ scope x h e. alone scope x e;
    }
      where
        alone : (scope : Scope) (x : Statement) → (as_tree (RawStatement-F.While l test (rows b))).gives scope ≡ Some x → is_lone x ≡ true
        alone scope x e =
            let m = both_there (s.While scope.statements l) (expr_of raw scope test) (block_tree (trees b) (numbered scope)) x e in lone_one (Statement-F.While scope.statements l m.left m.right) x (s.rolls-While scope.statements l m.left m.right ∙ m.same) refl
    layer_case (RawStatement-F.Do l test b) = record {
      whole = λ scope p stand x h kept e.
          let m = both_there (s.Do scope.statements l) (expr_of raw scope test) (block_tree (trees b) (numbered scope)) x e in
          let h1 = (and_parts (takes_compound p) (is_expr test && all_inner (map stands (rows b))) h).1 in
          let h2 = (and_parts (is_expr test) (all_inner (map stands (rows b))) h1).1 in
          whole_one (Statement-F.Do scope.statements l m.left m.right) x (s.rolls-Do scope.statements l m.left m.right ∙ m.same) no_parts (list_whole b (opened (numbered scope)) InBlock m.right h2 kept.1 m.right_there);
      begins = λ scope x kept e. alone scope x e;
      steps = λ scope x h e. alone scope x e;
    }
      where
        alone : (scope : Scope) (x : Statement) → (as_tree (RawStatement-F.Do l test (rows b))).gives scope ≡ Some x → is_lone x ≡ true
        alone scope x e =
            let m = both_there (s.Do scope.statements l) (expr_of raw scope test) (block_tree (trees b) (numbered scope)) x e in lone_one (Statement-F.Do scope.statements l m.left m.right) x (s.rolls-Do scope.statements l m.left m.right ∙ m.same) refl
    layer_case (RawStatement-F.For l None test None b) = record {
      whole = λ scope p stand x h kept e. for_whole None None l test b scope x (and_parts (takes_compound p) _ h).1 kept e;
      begins = λ scope x kept e. for_lone None None l test b scope x e;
      steps = λ scope x h e. for_lone None None l test b scope x e;
    }
    layer_case (RawStatement-F.For l None test (Some j) b) = record {
      whole = λ scope p stand x h kept e. for_whole None (Some j) l test b scope x (and_parts (takes_compound p) _ h).1 kept e;
      begins = λ scope x kept e. for_lone None (Some j) l test b scope x e;
      steps = λ scope x h e. for_lone None (Some j) l test b scope x e;
    }
    layer_case (RawStatement-F.For l (Some i) test None b) = record {
      whole = λ scope p stand x h kept e. for_whole (Some i) None l test b scope x (and_parts (takes_compound p) _ h).1 kept e;
      begins = λ scope x kept e. for_lone (Some i) None l test b scope x e;
      steps = λ scope x h e. for_lone (Some i) None l test b scope x e;
    }
    layer_case (RawStatement-F.For l (Some i) test (Some j) b) = record {
      whole = λ scope p stand x h kept e. for_whole (Some i) (Some j) l test b scope x (and_parts (takes_compound p) _ h).1 kept e;
      begins = λ scope x kept e. for_lone (Some i) (Some j) l test b scope x e;
      steps = λ scope x h e. for_lone (Some i) (Some j) l test b scope x e;
    }
    layer_case (RawStatement-F.Switch l test arms) = record {
      whole = λ scope p stand x h kept e.
          let w = switch_parts l test arms scope x e in
          let h1 = (and_parts (takes_compound p) (is_expr test && all_true (map is_arm (arm_rows arms))) h).1 in
          let h2 = (and_parts (is_expr test) (all_true (map is_arm (arm_rows arms))) h1).1 in
          whole_one (Statement-F.Switch scope.statements l w.value w.all) x (s.rolls-Switch scope.statements l w.value w.all ∙ w.is) no_parts (arms_whole arms (opened (numbered scope)) w.type w.all h2 kept.1 w.all_is);
      begins = λ scope x kept e. let w = switch_parts l test arms scope x e in lone_one (Statement-F.Switch scope.statements l w.value w.all) x (s.rolls-Switch scope.statements l w.value w.all ∙ w.is) refl;
      steps = λ scope x h e. let w = switch_parts l test arms scope x e in lone_one (Statement-F.Switch scope.statements l w.value w.all) x (s.rolls-Switch scope.statements l w.value w.all ∙ w.is) refl;
    }
    layer_case (RawStatement-F.Block l b) = record {
      whole = λ scope p stand x h kept e.
          let m = map_there (s.Block l) (block_tree (trees b) scope) x e in
          whole_one (Statement-F.Block l m.value) x (s.rolls-Block l m.value ∙ m.same) no_parts (list_whole b (opened scope) InBlock m.value (and_parts (takes_compound p) _ h).1 kept m.there);
      begins = λ scope x kept e. alone scope x e;
      steps = λ scope x h e. alone scope x e;
    }
      where
        alone : (scope : Scope) (x : Statement) → (as_tree (RawStatement-F.Block l (rows b))).gives scope ≡ Some x → is_lone x ≡ true
        alone scope x e = let m = map_there (s.Block l) (block_tree (trees b) scope) x e in lone_one (Statement-F.Block l m.value) x (s.rolls-Block l m.value ∙ m.same) refl
    layer_case (RawStatement-F.Return l a) =
        plain_case _ _ _ (λ scope. always_map (IsOne (Unit {0})) (s.Return scope.statements l) (optional (option_map (expr_of raw scope) a)) (λ v. one (Unit {0}) (Statement-F.Return scope.statements l v) (s.Return scope.statements l v) (s.rolls-Return scope.statements l v) refl refl refl))

    arm_case : (y : RawArm-F Known KnownArm) → ArmCase (as_arm_tree (arm_layer_of y)) (as_arm (arm_layer_of y)) (as_arm_text (arm_layer_of y))
    arm_case y = record {
      whole = λ scope i a h kept e.
          let z = both_there arm_tree (collected (map (label_tree raw scope i) y.labels)) (collected (in_order (trees y.body) scope)) a e in
          let h1 = (and_parts (is_there y.labels) (list_all is_label y.labels && all_inner (map stands (rows y.body))) h).1 in
          let h2 = (and_parts (list_all is_label y.labels) (all_inner (map stands (rows y.body))) h1).1 in
          subst (λ (w : Arm). Whole w.body) z.same (list_whole y.body scope InArm z.right h2 kept z.right_there);
      same = λ scope. list_after raw (rows y.body) scope;
    }

    statement_case : (x : RawStatement) → Case (treed raw x) (stands x) (scoped raw x)
    statement_case =
        ind-RawStatement (λ x. Case (treed raw x) (stands x) (scoped raw x)) (λ a. ArmCase (treed_arm raw a) (is_arm a) (scoped_of_arm raw a))
        (λ z y is. subst (λ w. Case (treed raw (roll-RawStatement w)) (stands (roll-RawStatement w)) (scoped raw (roll-RawStatement w))) is
        (subst (λ t. Case t (stands (roll-RawStatement (layer_of y))) (scoped raw (roll-RawStatement (layer_of y)))) (sym (fold-roll-RawStatement (Scoped (Option Statement)) (Scoped ArmTree) (treed_step raw) (arm_tree_step raw) (layer_of y)))
        (subst (λ v. Case (as_tree (layer_of y)) v (scoped raw (roll-RawStatement (layer_of y)))) (sym (fold-roll-RawStatement (Position → Bool) Bool stands_step arm_step (layer_of y)))
        (subst (λ w. Case (as_tree (layer_of y)) (as_stands (layer_of y)) w) (sym (fold-roll-RawStatement (Scoped (Stand → Phrases)) (Scoped ArmText) (scoped_step raw) scoped_arm (layer_of y))) (layer_case y)))))
        (λ z y is. subst (λ w. ArmCase (treed_arm raw (roll-RawArm w)) (is_arm (roll-RawArm w)) (scoped_of_arm raw (roll-RawArm w))) is
        (subst (λ t. ArmCase t (is_arm (roll-RawArm (arm_layer_of y))) (scoped_of_arm raw (roll-RawArm (arm_layer_of y)))) (sym (fold-roll-RawArm (Scoped (Option Statement)) (Scoped ArmTree) (treed_step raw) (arm_tree_step raw) (arm_layer_of y)))
        (subst (λ v. ArmCase (as_arm_tree (arm_layer_of y)) v (scoped_of_arm raw (roll-RawArm (arm_layer_of y)))) (sym (fold-roll-RawArm (Position → Bool) Bool stands_step arm_step (arm_layer_of y)))
        (subst (λ w. ArmCase (as_arm_tree (arm_layer_of y)) (as_arm (arm_layer_of y)) w) (sym (fold-roll-RawArm (Scoped (Stand → Phrases)) (Scoped ArmText) (scoped_step raw) scoped_arm (arm_layer_of y))) (arm_case y)))))

    -- ---- a body

    body_whole : (xs : List RawStatement) (scope : Scope) (zs : List Statement) → is_body xs ≡ true → AreKept raw (body_phrases raw xs scope) → body_of raw xs scope ≡ Some zs → Whole zs
    body_whole [] scope zs h kept at = subst Whole (some_same at) whole_none
    body_whole (x ∷ []) scope zs h kept at =
        let z = more_there ((treed raw x).gives scope) [] zs at in
        let only : z.first ∷ [] ≡ zs = ap (λ (ys : List Statement). z.first ∷ ys) (some_same z.rest_there) ∙ z.same in
        subst Whole only ((statement_case x).whole scope Position.final InBlock z.first h (kept_first raw ((scoped raw x).gives scope InBlock) [] kept) z.first_there)
    body_whole (x ∷ (y ∷ rest)) scope zs h kept at =
        let next = (treed raw x).after scope in
        let place = (scoped raw x).after scope in
        let b = and_parts (stands x Position.inner) (is_body (y ∷ rest)) h in
        let z = more_there ((treed raw x).gives scope) (in_order (map (treed raw) (y ∷ rest)) next) zs at in
        let first = (statement_case x).whole scope Position.inner InBlock z.first b.0 (kept_first raw ((scoped raw x).gives scope InBlock) (body_phrases raw (y ∷ rest) place) kept) z.first_there in
        let others = subst (λ (w : Scope). AreKept raw (body_phrases raw (y ∷ rest) w)) (sym (after_same raw x scope)) (kept_second raw ((scoped raw x).gives scope InBlock) (body_phrases raw (y ∷ rest) place) kept) in
        subst Whole z.same (whole_both (z.first ∷ []) z.rest first (body_whole (y ∷ rest) next z.rest b.1 others z.rest_there))

module _ (raw : RawProgram) (p : Program) (tree : IsTree raw) (has : HasProgram raw p) (within : IsWithinLimits raw p) where
  -- in each function of the text
  pub function_whole : (f : ℕ) (c : Function) → slice_get p.functions f ≡ Some c → Whole c.body
  function_whole f c at =
      let w = in_text raw p tree has within f c at in
      let q = function_made raw w.line w.head w.body w.place c w.made in
      let own : is_body w.body ≡ true = (and_parts (are_named w.head.params) (is_body w.body) (and_parts (is_head w.head) _ w.syntax).1).1 in
      let inner_phrases = body_phrases raw w.body (entered raw w.head w.place) in
      let ends = phrase w.line w.place (EndsFunction w.head w.body) ∷ [] in
      let kept = kept_first raw inner_phrases ends (kept_second raw (head_phrases raw w.head.params (scope_of_parameters w.head w.place)) (inner_phrases ++ ends) w.kept.1) in
      subst (λ (g : Function). Whole g.body) (sym q.is) (body_whole raw has.rules w.body (entered raw w.head w.place) q.statements own kept q.statements_there)
