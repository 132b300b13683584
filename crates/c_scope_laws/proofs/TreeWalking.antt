-- Going along a list of statements and the thinner one: the tree of what stays is what stays of the tree.
use Rattle.std.proofs.Common.{arith, ◌≡◌, ℕ, List, [], ◌∷◌, ◌++◌, map, true, false, Option, Some, None, option_map, option_and_then, refl, sym, ap, ap₂, subst, ◌∙◌}
use Rattle.std.specs.Prelude.{Contains, if◌then◌else◌, Bool}
use Rattle.std.proofs.lemmas.List.{map-append}
use Rattle.c_arith.specs.declared.int_type.IntType.{IntType}
use Rattle.c_tree.specs.declared.types.CType.{CType}
use Rattle.c_tree.specs.declared.expr.Expr.{Expr}
use Rattle.c_tree.specs.declared.program.Init.TheVariants as begins
use Rattle.c_tree.specs.declared.statement.Target.{Target}
use Rattle.c_tree.specs.declared.statement.Target.TheVariants as to_place
use Rattle.c_tree.specs.declared.statement.Amount.{Amount}
use Rattle.c_tree.specs.declared.statement.Label.{Label}
use Rattle.c_tree.specs.declared.statement.Arm.{Arm}
use Rattle.c_tree.specs.declared.statement.Statement.{Statement}
use Rattle.c_tree.specs.declared.statement.Statement.TheVariants as t
use Rattle.c_tree.specs.declared.raw.expr.RawExpr.{RawExpr}
use Rattle.c_tree.specs.declared.raw.expr.RawVar.{RawVar}
use Rattle.c_tree.specs.declared.raw.program.RawInit.{RawInit}
use Rattle.c_tree.specs.declared.raw.program.RawInit.TheVariants as init
use Rattle.c_tree.specs.declared.raw.program.RawProgram.{RawProgram}
use Rattle.c_tree.specs.declared.raw.statement.RawTarget.TheVariants as target
use Rattle.c_tree.specs.declared.raw.statement.RawArg.{RawArg}
use Rattle.c_tree.specs.declared.raw.statement.RawAmount.{RawAmount}
use Rattle.c_tree.specs.declared.raw.statement.RawTypeName.{RawTypeName}
use Rattle.c_tree.specs.declared.raw.statement.RawLabel.{RawLabel}
use Rattle.c_tree.specs.declared.raw.statement.RawStatement.{RawStatement, roll-RawStatement, out-RawStatement, map-RawStatement, fold-roll-RawStatement}
use Rattle.c_tree.specs.declared.raw.statement.RawStatement.TheViews.{roll-out-RawStatement}
use Rattle.c_tree.specs.declared.raw.statement.RawLabel.TheVariants as label
use Rattle.c_tree.specs.declared.raw.statement.RawStatement.TheOpen.{RawStatement-F}
use Rattle.c_tree.specs.declared.raw.statement.RawStatement.TheVariants as s
use Rattle.c_tree.specs.declared.raw.statement.RawArm.{RawArm}
use Rattle.c_language.specs.Words.{Bytes}
use Rattle.c_language.specs.ConstantEvaluation.{both}
use Rattle.c_language.specs.DeclaredTypes.{function_id}
use Rattle.c_language.specs.TypeGrammar.{named_type}
use Rattle.c_language.specs.Scopes.{Scope, Scoped, with_variable, with_target, opened, numbered, in_order, after_all, after_block, after_part, scope_of_test, scope_of_body}
use Rattle.c_language.specs.Phrases.{InFor, InArm, InBlock, Part, Begins, Calls, Allocates, Tests, Switches, scoped}
use Rattle.c_language.specs.Uses.{cases, is_library_function, is_among}
use Rattle.c_language.specs.CallRules.{without_result}
use Rattle.c_language.specs.ProgramOf.{for_tree, collected, optional, ctype_if, expr_of, init_of, declaration_id, target_tree, args_tree, call_tree, amount_tree, heap_tree, label_tree, switch_type, arm_tree, ArmTree, arm_tree_step, block_tree, at_type, part_tree, tree_step, treed_step, treed, treed_arm}
use Rattle.c_language.proofs.TreedForms.{treed-Declare, treed-Call, treed-Heap, treed-If, treed-While, treed-Do, treed-For, treed-Switch, treed-Block, treed_arm-arm}
use Rattle.c_language.proofs.Options.{none_there, some_same, optional_there, more_there}
use Rattle.c_language.proofs.Tests.{false_true}
use Rattle.c_language.proofs.Lists.{contains_first, contains_later}
use Rattle.c_language.proofs.TreeScopes.{after_same, list_after, block_after_same, part_after}
use Rattle.c_language.proofs.OptionMaps.{collected_map}
use Rattle.c_scope_laws.specs.Agreement.{NamedAmong, Names, NamesFunction, Agree, TreesAgree, SameVariable, there, simple_part}
use Rattle.projection.specs.Renumbering.{Numbers, renamed, renamed_label, renumbered}
use Rattle.kept_numbers.specs.Ranks.{rank}
use Rattle.projection.specs.Kept.{Kept, chosen as chosen_places}
use Rattle.c_scope_laws.specs.Thinning.{LabelsStay, arm_labels, NamesStay, BeginIs, declares, kept_args, kept_form, FormFits, GivesResult, Thins, ThinAll, ThinsPart, ThinArms}
use Rattle.projection.specs.Projection.{declares_target, is_declaring, first_statement, part_of, bare, bare_target, projected, projected_arm, projected_all}
use Rattle.c_scope_laws.proofs.Trees.{in_one}
use Rattle.c_scope_laws.proofs.ExprAgreement.{exprs_same}
use Rattle.c_scope_laws.proofs.StatementAgreement.{CoversAll, part_covers, args_same, switch_types_same, labels_same, simple_fits}
use Rattle.c_scope_laws.specs.Following.{TextsAgree, ScopesAgree}
use Rattle.c_scope_laws.proofs.Following.{meaning_kept, numbered_kept, numbered_gone, follows_opened, follows_closed, variable_kept, variable_gone, places_agree}
use Rattle.c_scope_laws.proofs.Outside.{variable_same}
use Rattle.c_scope_laws.proofs.RenumberingLemmas.{renumbered-Declare}
use Rattle.c_scope_laws.proofs.VariableLists.{join}
use Rattle.c_scope_laws.proofs.Walking.{part_walks, at_number, walks, all_walk}
use Rattle.c_scope_laws.proofs.TreeForms.{projected_arm-arm, declaring-Declare, declaring-Invoke, declaring-Fetch, declaring-Write, declaring-Print, declaring-Heap, declaring-Release, declaring-Assign, declaring-Bump, declaring-Return, projected-Declare}
use Rattle.c_scope_laws.proofs.TreeLevels.{chosen, unchosen, one_there, collect_one, ListStays, settled, if_stays, while_stays, do_stays, for_stays, switch_stays, if_gone, while_gone, do_gone, switch_gone, for_leaves, block_stays, block_gone}
use Rattle.c_scope_laws.proofs.TreeSimple.{call_by, invoked, Whole, Gone, Kept_whole, assign_whole, bump_whole, heap_whole, return_whole, invoke_kept, invoke_alone, assign_gone, bump_gone, return_gone, heap_gone, args_chosen, call_stays, call_gone, call_loses, numbers_of}
use Rattle.c_scope_laws.proofs.KeptForms.{form_declares, fits_opened}
use Rattle.c_language.specs.StatementGrammar.{arm}

-- ---- facts about trees that are made of options

by_map : {A : Type 0} (P : Statement → Type 0) (form : A → Statement) → ((a : A) → P (form a)) → (o : Option A) (y : Statement) → option_map form o ≡ Some y → P y
by_map P form each None y is = none_there is
by_map P form each (Some a) y is = subst P (some_same is) (each a)

by_both : {A B : Type 0} (P : Statement → Type 0) (form : A → B → Statement) → ((a : A) (b : B) → P (form a b)) → (o : Option A) (q : Option B) (y : Statement) → both form o q ≡ Some y → P y
by_both P form each None q y is = none_there is
by_both P form each (Some a) None y is = none_there is
by_both P form each (Some a) (Some b) y is = subst P (some_same is) (each a b)

by_heap : (P : Statement → Type 0) (n l : ℕ) (to : Option Target) (c : Option (Option CType)) (m : Option Amount) → ((u : Target) (d : Option CType) (a : Amount) → to ≡ Some u → P (t.Heap n l u d a)) → (y : Statement)
    → option_and_then (λ (u : Target). option_and_then (λ (c : Option CType). option_map (t.Heap n l u c) m) c) to ≡ Some y → P y
by_heap P n l None c m each y is = none_there is
by_heap P n l (Some u) None m each y is = none_there is
by_heap P n l (Some u) (Some d) None each y is = none_there is
by_heap P n l (Some u) (Some d) (Some a) each y is = subst P (some_same is) (each u d a refl)

-- ---- lists

in_order-append : {R : Type 0} (xs ys : List (Scoped R)) (scope : Scope) → in_order (xs ++ ys) scope ≡ in_order xs scope ++ in_order ys (after_all xs scope)
in_order-append [] ys scope = refl
in_order-append (x ∷ xs) ys scope = ap (λ (all : List _). x.gives scope ∷ all) (in_order-append xs ys (x.after scope))

module _ (k : Kept Bytes) (raw other : RawProgram) (texts : TextsAgree k raw other) (g : ℕ → ℕ) (ids : (x : Bytes) → k.function x ≡ true → function_id other x ≡ option_map g (function_id raw x)) (defined_here defined_there : ℕ) (owner_here owner_there : Option ℕ) where
  abbrev ns : Numbers
  ns = numbers_of k g

  abbrev f : ℕ → ℕ
  f = rank k.variable

  abbrev Comes : Scope → Scope → Type 0
  Comes scope next = ScopesAgree k raw other defined_here defined_there owner_here owner_there scope next

  agrees : {scope next : Scope} {part : Part} → Comes scope next → NamesStay k scope part → Agree f (Names part) scope next
  agrees c stay = (places_agree k raw other texts c stay).scopes

  fits : {scope next : Scope} {part : Part} → Comes scope next → NamesStay k scope part → TreesAgree ns (NamesFunction part) raw other scope next
  fits c stay = record { outside = texts.outside; variables = c.variables; statements = c.statements; heads = λ x n. ids x (stay.functions x n) }

  test_same : {scope next : Scope} (a : RawExpr) → Comes scope next → NamesStay k scope (Tests a) → expr_of other next a ≡ option_map (renamed f) (expr_of raw scope a)
  test_same {scope} {next} a c stay = exprs_same f (Names (Tests a)) raw other scope next texts.outside (agrees c stay) a (part_covers (Tests a) (λ x n. n) a (contains_first a []))

  abbrev opened_tree : RawProgram → RawStatement-F RawStatement RawArm → RawStatement-F (Scoped (Option Statement)) (Scoped ArmTree)
  opened_tree text x = map-RawStatement RawStatement RawArm (Scoped (Option Statement)) (Scoped ArmTree) (treed text) (treed_arm text) x

  treed-roll : (text : RawProgram) (x : RawStatement-F RawStatement RawArm) → treed text (roll-RawStatement x) ≡ treed_step text (opened_tree text x)
  treed-roll text x = fold-roll-RawStatement (Scoped (Option Statement)) (Scoped ArmTree) (treed_step text) (arm_tree_step text) x

  -- ---- statements without parts

  -- a statement stays whole, which has the same tree but for numbers
  stays_whole : {o q : Option Statement} {y : Statement} → o ≡ option_map (renumbered ns) q → q ≡ Some y → Whole k g y → collected (o ∷ []) ≡ Some (projected k g y)
  stays_whole p is whole = settled k g (p ∙ ap (option_map (renumbered ns)) is) whole refl

  -- the arguments of a call that are kept
  known_args : (n : ℕ) (w : Bytes) (args : List RawArg) → is_library_function w ≡ true → kept_args k w n args ≡ args
  known_args n w args known = ap (λ (b : Bool). if b then args else chosen_places (k.argument n) 0 args) known

  strange_args : (n : ℕ) (w : Bytes) (args : List RawArg) → is_library_function w ≡ false → kept_args k w n args ≡ chosen_places (k.argument n) 0 args
  strange_args n w args strange = ap (λ (b : Bool). if b then args else chosen_places (k.argument n) 0 args) strange

  simple_stays : {scope next : Scope} (x : RawStatement-F RawStatement RawArm) (part : Part) → simple_part (kept_form k scope.statements x) ≡ Some part → declares x ≡ false → k.statement scope.statements ≡ true → FormFits k raw x scope
      → TreesAgree ns (NamesFunction part) raw other scope next → Agree f (Names part) scope next → (y : Statement) → tree_step raw (opened_tree raw x) scope ≡ Some y → collected (tree_step other (opened_tree other (kept_form k scope.statements x)) next ∷ []) ≡ Some (projected k g y)
  simple_stays (RawStatement-F.Declare l v i) part h none kept whole fit agree y is = false_true (sym none)
  simple_stays {scope} {next} (RawStatement-F.Assign l left op right) part h none kept whole fit agree y is =
      stays_whole (simple_fits ns raw other scope next (RawStatement-F.Assign l left op right) part h fit agree) is
      (by_both (Whole k g) _ (λ a b. assign_whole k g scope.statements l kept a op b) (expr_of raw scope left) (expr_of raw scope right) y is)
  simple_stays {scope} {next} (RawStatement-F.Bump l left up before) part h none kept whole fit agree y is =
      stays_whole (simple_fits ns raw other scope next (RawStatement-F.Bump l left up before) part h fit agree) is
      (by_map (Whole k g) _ (λ a. bump_whole k g scope.statements l kept a up before) (expr_of raw scope left) y is)
  simple_stays {scope} {next} (RawStatement-F.Call l target.None w args) part h none kept whole fit agree y is =
      let n = scope.statements in
      let c = call_stays k g raw scope n l w args (Some to_place.None) (kept_args k w n args) (known_args n w args) (strange_args n w args) kept
      (λ u i as_ at strange. subst (λ (v : Target). Kept_whole k g n l v i as_) (some_same at) (invoke_alone k g n l kept i as_)) y is in
      settled k g (simple_fits ns raw other scope next (RawStatement-F.Call l target.None w (kept_args k w n args)) part h fit agree ∙ ap (option_map (renumbered ns)) c.there) c.stays refl
  simple_stays {scope} {next} (RawStatement-F.Call l (target.Place a) w args) part h none kept whole fit agree y is =
      let n = scope.statements in
      let c = call_stays k g raw scope n l w args (target_tree raw scope (target.Place a)) (kept_args k w n args) (known_args n w args) (strange_args n w args) kept
      (λ u i as_ at strange. invoke_kept k g n l kept u i as_ (whole.0.kept strange)) y is in
      settled k g (simple_fits ns raw other scope next (RawStatement-F.Call l (target.Place a) w (kept_args k w n args)) part h fit agree ∙ ap (option_map (renumbered ns)) c.there) c.stays refl
  simple_stays (RawStatement-F.Call l (target.Declared v) w args) part h none kept whole fit agree y is = false_true (sym none)
  simple_stays {scope} {next} (RawStatement-F.Heap l target.None cast m) part h none kept whole fit agree y is =
      stays_whole (simple_fits ns raw other scope next (RawStatement-F.Heap l target.None cast m) part h fit agree) is
      (by_heap (Whole k g) scope.statements l (Some to_place.None) (ctype_if raw (option_map named_type cast)) (amount_tree raw scope m) (λ u d a at. heap_whole k g scope.statements l kept u d a) y is)
  simple_stays {scope} {next} (RawStatement-F.Heap l (target.Place b) cast m) part h none kept whole fit agree y is =
      stays_whole (simple_fits ns raw other scope next (RawStatement-F.Heap l (target.Place b) cast m) part h fit agree) is
      (by_heap (Whole k g) scope.statements l (target_tree raw scope (target.Place b)) (ctype_if raw (option_map named_type cast)) (amount_tree raw scope m) (λ u d a at. heap_whole k g scope.statements l kept u d a) y is)
  simple_stays (RawStatement-F.Heap l (target.Declared v) cast m) part h none kept whole fit agree y is = false_true (sym none)
  simple_stays {scope} {next} (RawStatement-F.Return l value) part h none kept whole fit agree y is =
      stays_whole (simple_fits ns raw other scope next (RawStatement-F.Return l value) part h fit agree) is
      (by_map (Whole k g) _ (λ a. return_whole k g scope.statements l kept a) (optional (option_map (expr_of raw scope) value)) y is)
  simple_stays (RawStatement-F.If l a b d) part h none kept whole fit agree y is = none_there h
  simple_stays (RawStatement-F.While l a b) part h none kept whole fit agree y is = none_there h
  simple_stays (RawStatement-F.Do l a b) part h none kept whole fit agree y is = none_there h
  simple_stays (RawStatement-F.For l i a step b) part h none kept whole fit agree y is = none_there h
  simple_stays (RawStatement-F.Switch l a arms) part h none kept whole fit agree y is = none_there h
  simple_stays (RawStatement-F.Block l b) part h none kept whole fit agree y is = none_there h

  -- what declares nothing leaves nothing
  none_bare : (l : ℕ) (u : Target) → Some to_place.None ≡ Some u → bare_target k g l u ≡ []
  none_bare l u at = ap (bare_target k g l) (sym (some_same at))

  place_bare : (l : ℕ) (o : Option Expr) (u : Target) → option_map to_place.Place o ≡ Some u → bare_target k g l u ≡ []
  place_bare l None u at = none_there at
  place_bare l (Some a) u at = ap (bare_target k g l) (sym (some_same at))

  heap_goes_by : (n l : ℕ) (to : Option Target) (c : Option (Option CType)) (m : Option Amount) (zs : List Statement) → k.statement n ≡ false → ((u : Target) → to ≡ Some u → bare_target k g l u ≡ zs)
      → (y : Statement) → option_and_then (λ (u : Target). option_and_then (λ (c : Option CType). option_map (t.Heap n l u c) m) c) to ≡ Some y → projected k g y ≡ zs
  heap_goes_by n l to c m zs out each y is = by_heap (λ y. projected k g y ≡ zs) n l to c m (λ u d a at. heap_gone k g n l out u d a ∙ each u at) y is

  simple_goes : (scope : Scope) (x : RawStatement-F RawStatement RawArm) (part : Part) → simple_part x ≡ Some part → declares x ≡ false → k.statement scope.statements ≡ false
      → (y : Statement) → tree_step raw (opened_tree raw x) scope ≡ Some y → projected k g y ≡ []
  simple_goes scope (RawStatement-F.Declare l v i) part h none out y is = false_true (sym none)
  simple_goes scope (RawStatement-F.Assign l left op right) part h none out y is = by_both (Gone k g) _ (λ a b. assign_gone k g scope.statements l out a op b) (expr_of raw scope left) (expr_of raw scope right) y is
  simple_goes scope (RawStatement-F.Bump l left up before) part h none out y is = by_map (Gone k g) _ (λ a. bump_gone k g scope.statements l out a up before) (expr_of raw scope left) y is
  simple_goes scope (RawStatement-F.Call l target.None w args) part h none out y is = call_gone k g raw scope scope.statements l w args (Some to_place.None) [] out (none_bare l) (λ q. refl) y is
  simple_goes scope (RawStatement-F.Call l (target.Place a) w args) part h none out y is = call_gone k g raw scope scope.statements l w args (target_tree raw scope (target.Place a)) [] out (place_bare l (expr_of raw scope a)) (λ q. refl) y is
  simple_goes scope (RawStatement-F.Call l (target.Declared v) w args) part h none out y is = false_true (sym none)
  simple_goes scope (RawStatement-F.Heap l target.None cast m) part h none out y is = heap_goes_by scope.statements l (Some to_place.None) (ctype_if raw (option_map named_type cast)) (amount_tree raw scope m) [] out (none_bare l) y is
  simple_goes scope (RawStatement-F.Heap l (target.Place b) cast m) part h none out y is =
      heap_goes_by scope.statements l (target_tree raw scope (target.Place b)) (ctype_if raw (option_map named_type cast)) (amount_tree raw scope m) [] out (place_bare l (expr_of raw scope b)) y is
  simple_goes scope (RawStatement-F.Heap l (target.Declared v) cast m) part h none out y is = false_true (sym none)
  simple_goes scope (RawStatement-F.Return l value) part h none out y is = by_map (Gone k g) _ (λ a. return_gone k g scope.statements l out a) (optional (option_map (expr_of raw scope) value)) y is
  simple_goes scope (RawStatement-F.If l a b d) part h none out y is = none_there h
  simple_goes scope (RawStatement-F.While l a b) part h none out y is = none_there h
  simple_goes scope (RawStatement-F.Do l a b) part h none out y is = none_there h
  simple_goes scope (RawStatement-F.For l i a step b) part h none out y is = none_there h
  simple_goes scope (RawStatement-F.Switch l a arms) part h none out y is = none_there h
  simple_goes scope (RawStatement-F.Block l b) part h none out y is = none_there h

  -- those of a call that loses its result
  lost_args : {place later : Scope} (n : ℕ) (w : Bytes) (args : List RawArg) → is_library_function w ≡ false → Agree f (Names (Calls InBlock target.None w (kept_args k w n args))) place later
      → (as_ : List Expr) → args_tree raw place args ≡ Some as_ → args_tree other later (kept_args k w n args) ≡ Some (map (renamed f) (chosen_places (k.argument n) 0 as_))
  lost_args {place} {later} n w args strange agree as_ at =
      args_same f (Names (Calls InBlock target.None w (kept_args k w n args))) raw other place later texts.outside agree (kept_args k w n args) (part_covers (Calls InBlock target.None w (kept_args k w n args)) (λ x n. n))
      ∙ ap (λ (some : List RawArg). option_map (map (renamed f)) (args_tree raw place some)) (strange_args n w args strange)
      ∙ ap (option_map (map (renamed f))) (args_chosen k g raw place n 0 w args as_ at)

  -- ---- declarations

  -- a declaration that loses its initialiser, or had none
  declared_bare : (scope : Scope) (l : ℕ) (v : RawVar) (i : RawInit) → BeginIs k false i scope.statements → (y : Statement) → tree_step raw (RawStatement-F.Declare l v i) scope ≡ Some y → projected k g y ≡ bare k g l scope.variables
  declared_bare scope l v init.None out y is = ap (projected k g) (sym (some_same is)) ∙ projected-Declare k g None l scope.variables begins.None
  declared_bare scope l v (init.One a) out y is =
      by_map (λ y. projected k g y ≡ bare k g l scope.variables) _ (λ j. projected-Declare k g (Some scope.statements) l scope.variables j ∙ unchosen _ (bare k g l scope.variables) out) (init_of raw (with_variable raw v (init.One a) scope) (init.One a)) y is
  declared_bare scope l v (init.Items all) out y is =
      by_map (λ y. projected k g y ≡ bare k g l scope.variables) _ (λ j. projected-Declare k g (Some scope.statements) l scope.variables j ∙ unchosen _ (bare k g l scope.variables) out) (init_of raw (with_variable raw v (init.Items all) scope) (init.Items all)) y is

  -- one that stays whole
  declared_whole : (scope : Scope) (l : ℕ) (v : RawVar) (i : RawInit) → k.variable scope.variables ≡ true → BeginIs k true i scope.statements → (y : Statement) → tree_step raw (RawStatement-F.Declare l v i) scope ≡ Some y → Whole k g y
  declared_whole scope l v init.None is kept y at = subst (Whole k g) (some_same at) (projected-Declare k g None l scope.variables begins.None ∙ chosen _ [] is ∙ ap (λ (z : Statement). z ∷ []) (sym (renumbered-Declare ns None l scope.variables begins.None)))
  declared_whole scope l v (init.One a) is kept y at =
      by_map (Whole k g) _ (λ j. projected-Declare k g (Some scope.statements) l scope.variables j ∙ chosen _ (bare k g l scope.variables) kept ∙ ap (λ (z : Statement). z ∷ []) (sym (renumbered-Declare ns (Some scope.statements) l scope.variables j)))
      (init_of raw (with_variable raw v (init.One a) scope) (init.One a)) y at
  declared_whole scope l v (init.Items all) is kept y at =
      by_map (Whole k g) _ (λ j. projected-Declare k g (Some scope.statements) l scope.variables j ∙ chosen _ (bare k g l scope.variables) kept ∙ ap (λ (z : Statement). z ∷ []) (sym (renumbered-Declare ns (Some scope.statements) l scope.variables j)))
      (init_of raw (with_variable raw v (init.Items all) scope) (init.Items all)) y at

  -- what stands for a variable alone
  bare_there : {scope next : Scope} (l : ℕ) → k.variable scope.variables ≡ true → Comes scope next → bare k g l scope.variables ≡ t.Declare None l next.variables begins.None ∷ []
  bare_there {scope} {next} l is c = chosen _ [] is ∙ ap (λ (n : ℕ). t.Declare None l n begins.None ∷ []) (sym c.variables)

  inside : {scope next : Scope} (v w : RawVar) (i j : RawInit) → k.variable scope.variables ≡ true → SameVariable raw other v i w j → Comes scope next → Comes (with_variable raw v i scope) (with_variable other w j next)
  inside v w i j is like c = variable_kept k raw other v w i j is like.name like.type c

  same : (v : RawVar) (i : RawInit) → SameVariable raw other v i v i
  same v i = variable_same raw other texts.outside v i

  declaration_stays : {scope next : Scope} (l : ℕ) (v : RawVar) (i : RawInit) → k.variable scope.variables ≡ true → BeginIs k true i scope.statements → NamesStay k (with_variable raw v i scope) (Begins InBlock v i) → Comes scope next
      → (y : Statement) → tree_step raw (RawStatement-F.Declare l v i) scope ≡ Some y → collected (tree_step other (RawStatement-F.Declare l v i) next ∷ []) ≡ Some (projected k g y)
  declaration_stays {scope} {next} l v i is kept stay c y at =
      stays_whole (simple_fits ns raw other scope next (RawStatement-F.Declare l v i) (Begins InBlock v i) refl (outer_fits stay c) (agrees (inside v v i i is (same v i) c) stay)) at (declared_whole scope l v i is kept y at)
    where
      outer_fits : NamesStay k (with_variable raw v i scope) (Begins InBlock v i) → Comes scope next → TreesAgree ns (NamesFunction (Begins InBlock v i)) raw other scope next
      outer_fits stay c = record { outside = texts.outside; variables = c.variables; statements = c.statements; heads = λ x n. ids x (stay.functions x n) }

  -- ---- calls and allocations that declare

  module _ {scope next : Scope} (l : ℕ) (v : RawVar) (c : Comes scope next) where
    abbrev within : Scope
    within = with_variable raw v init.None scope

    within_fits : {part : Part} → NamesStay k within part → TreesAgree ns (NamesFunction part) raw other scope next
    within_fits stay = record { outside = texts.outside; variables = c.variables; statements = c.statements; heads = λ x n. ids x (stay.functions x n) }

    module _ (w : Bytes) (args : List RawArg) where
      -- the tree of the call
      abbrev call : Option Statement
      call = call_tree raw within scope.statements l (Some (to_place.Declared scope.variables)) w args

      -- the arguments that it keeps
      abbrev some : List RawArg
      some = kept_args k w scope.statements args

      declared_stays : k.variable scope.variables ≡ true → k.statement scope.statements ≡ true → (is_library_function w ≡ false → k.result scope.statements ≡ true) → NamesStay k within (Calls InBlock (target.Declared v) w some)
          → (y : Statement) → call ≡ Some y → collected (tree_step other (RawStatement-F.Call l (target.Declared v) w some) next ∷ []) ≡ Some (projected k g y)
      declared_stays is kept result stay y at =
          let n = scope.statements in
          let s = call_stays k g raw within n l w args (Some (to_place.Declared scope.variables)) some (known_args n w args) (strange_args n w args) kept (λ u i as_ h strange. invoke_kept k g n l kept u i as_ (result strange)) y at in
          settled k g
          (simple_fits ns raw other scope next (RawStatement-F.Call l (target.Declared v) w some) (Calls InBlock (target.Declared v) w some) refl (within_fits stay) (agrees (inside v v init.None init.None is (same v init.None) c) stay)
          ∙ ap (option_map (renumbered ns)) s.there) s.stays refl

      -- the call without its result, at a place that follows
      lost : {place : Scope} → Comes within place → is_library_function w ≡ false → k.result scope.statements ≡ false → k.statement scope.statements ≡ true → NamesStay k within (Calls InBlock target.None w some) → (m : ℕ) → m ≡ rank k.statement scope.statements
          → (y : Statement) → call ≡ Some y → (z : Statement) × (call_tree other place m l (Some to_place.None) w some ≡ Some z) × (projected k g y ≡ bare k g l scope.variables ++ (z ∷ []))
      lost {place} d strange result kept stay m num y at =
          let r = call_loses k g scope.statements m l (to_place.Declared scope.variables) num kept result (function_id raw w) (function_id other w) (args_tree raw within args) (args_tree other place some)
          (ids w (stay.functions w NamesFunction.called)) (lost_args scope.statements w args strange (agrees d stay))
          y (sym (invoked raw within scope.statements l (Some (to_place.Declared scope.variables)) w args strange) ∙ at) in
          (r.0, invoked other place m l (Some to_place.None) w some strange ∙ r.1, r.2)

      call_gone_by : k.statement scope.statements ≡ false → (is_among without_result w ≡ true → bare k g l scope.variables ≡ []) → (y : Statement) → call ≡ Some y → projected k g y ≡ bare k g l scope.variables
      call_gone_by out none y at = call_gone k g raw within scope.statements l w args (Some (to_place.Declared scope.variables)) (bare k g l scope.variables) out (λ u h. ap (bare_target k g l) (sym (some_same h))) none y at

    module _ (cast : Option RawTypeName) (n : RawAmount) where
      abbrev heap : Option Statement
      heap = heap_tree raw within scope.statements l (Some (to_place.Declared scope.variables)) cast n

      heap_stays : k.variable scope.variables ≡ true → k.statement scope.statements ≡ true → NamesStay k within (Allocates (target.Declared v) cast n)
          → (y : Statement) → heap ≡ Some y → collected (tree_step other (RawStatement-F.Heap l (target.Declared v) cast n) next ∷ []) ≡ Some (projected k g y)
      heap_stays is kept stay y at =
          stays_whole (simple_fits ns raw other scope next (RawStatement-F.Heap l (target.Declared v) cast n) (Allocates (target.Declared v) cast n) refl (within_fits stay) (agrees (inside v v init.None init.None is (same v init.None) c) stay)) at
          (by_heap (Whole k g) scope.statements l (Some (to_place.Declared scope.variables)) (ctype_if raw (option_map named_type cast)) (amount_tree raw within n) (λ u d a h. heap_whole k g scope.statements l kept u d a) y at)

      heap_gone_by : k.statement scope.statements ≡ false → (y : Statement) → heap ≡ Some y → projected k g y ≡ bare k g l scope.variables
      heap_gone_by out y at =
          heap_goes_by scope.statements l (Some (to_place.Declared scope.variables)) (ctype_if raw (option_map named_type cast)) (amount_tree raw within n) (bare k g l scope.variables) out (λ u h. ap (bare_target k g l) (sym (some_same h))) y at

  -- ---- what a for begins with

  -- what declares nothing has a tree that declares nothing
  simple_declaring : (text : RawProgram) (place : Scope) (x : RawStatement-F RawStatement RawArm) (part : Part) → simple_part x ≡ Some part → declares x ≡ false → (y : Statement) → tree_step text (opened_tree text x) place ≡ Some y → is_declaring y ≡ false
  simple_declaring text place (RawStatement-F.Assign l left op right) part h none y at =
      by_both (λ y. is_declaring y ≡ false) _ (λ a b. declaring-Assign place.statements l a op b) (expr_of text place left) (expr_of text place right) y at
  simple_declaring text place (RawStatement-F.Bump l left up before) part h none y at = by_map (λ y. is_declaring y ≡ false) _ (λ a. declaring-Bump place.statements l a up before) (expr_of text place left) y at
  simple_declaring text place (RawStatement-F.Return l value) part h none y at = by_map (λ y. is_declaring y ≡ false) _ (λ a. declaring-Return place.statements l a) (optional (option_map (expr_of text place) value)) y at
  simple_declaring text place (RawStatement-F.Call l target.None w args) part h none y at =
      call_by text place place.statements l (Some to_place.None) w args (λ y. is_declaring y ≡ false) (λ u q r. declaring-Fetch place.statements l u ∙ ap declares_target (sym (some_same q))) (λ a q. declaring-Write place.statements l a)
      (λ words as_ q. declaring-Print place.statements l words as_) (λ a q. declaring-Release place.statements l a) (λ u i as_ q r. declaring-Invoke place.statements l u i as_ ∙ ap declares_target (sym (some_same q))) y at
  simple_declaring text place (RawStatement-F.Call l (target.Place b) w args) part h none y at =
      call_by text place place.statements l (target_tree text place (target.Place b)) w args (λ y. is_declaring y ≡ false) (λ u q r. declaring-Fetch place.statements l u ∙ of_place (expr_of text place b) u q) (λ a q. declaring-Write place.statements l a)
      (λ words as_ q. declaring-Print place.statements l words as_) (λ a q. declaring-Release place.statements l a) (λ u i as_ q r. declaring-Invoke place.statements l u i as_ ∙ of_place (expr_of text place b) u q) y at
    where
      of_place : (o : Option Expr) (u : Target) → option_map to_place.Place o ≡ Some u → declares_target u ≡ false
      of_place None u q = none_there q
      of_place (Some a) u q = ap declares_target (sym (some_same q))
  simple_declaring text place (RawStatement-F.Heap l target.None cast n) part h none y at =
      by_heap (λ y. is_declaring y ≡ false) place.statements l (Some to_place.None) (ctype_if text (option_map named_type cast)) (amount_tree text place n) (λ u d a q. declaring-Heap place.statements l u d a ∙ ap declares_target (sym (some_same q))) y at
  simple_declaring text place (RawStatement-F.Heap l (target.Place b) cast n) part h none y at =
      by_heap (λ y. is_declaring y ≡ false) place.statements l (target_tree text place (target.Place b)) (ctype_if text (option_map named_type cast)) (amount_tree text place n) (λ u d a q. declaring-Heap place.statements l u d a ∙ of_place (expr_of text place b) u q) y at
    where
      of_place : (o : Option Expr) (u : Target) → option_map to_place.Place o ≡ Some u → declares_target u ≡ false
      of_place None u q = none_there q
      of_place (Some a) u q = ap declares_target (sym (some_same q))
  simple_declaring text place (RawStatement-F.Declare l v i) part h none y at = false_true (sym none)
  simple_declaring text place (RawStatement-F.Call l (target.Declared v) w args) part h none y at = false_true (sym none)
  simple_declaring text place (RawStatement-F.Heap l (target.Declared v) cast n) part h none y at = false_true (sym none)
  simple_declaring text place (RawStatement-F.If l a b d) part h none y at = none_there h
  simple_declaring text place (RawStatement-F.While l a b) part h none y at = none_there h
  simple_declaring text place (RawStatement-F.Do l a b) part h none y at = none_there h
  simple_declaring text place (RawStatement-F.For l i a step b) part h none y at = none_there h
  simple_declaring text place (RawStatement-F.Switch l a arms) part h none y at = none_there h
  simple_declaring text place (RawStatement-F.Block l b) part h none y at = none_there h

  -- and what declares has one that declares
  declaring_tree : (text : RawProgram) (place : Scope) (x : RawStatement-F RawStatement RawArm) → declares x ≡ true → GivesResult x → (y : Statement) → tree_step text (opened_tree text x) place ≡ Some y → is_declaring y ≡ true
  declaring_tree text place (RawStatement-F.Declare l v i) h gives y at =
      by_map (λ y. is_declaring y ≡ true) _ (λ j. declaring-Declare (declaration_id i place.statements) l place.variables j) (init_of text (with_variable text v i place) i) y at
  declaring_tree text place (RawStatement-F.Call l (target.Declared v) w args) h gives y at =
      call_by text (with_target text (target.Declared v) place) place.statements l (Some (to_place.Declared place.variables)) w args (λ y. is_declaring y ≡ true) (λ u q r. declaring-Fetch place.statements l u ∙ ap declares_target (sym (some_same q)))
      (λ a q. false_true (sym gives ∙ q)) (λ words as_ q. false_true (sym gives ∙ q)) (λ a q. false_true (sym gives ∙ q)) (λ u i as_ q r. declaring-Invoke place.statements l u i as_ ∙ ap declares_target (sym (some_same q))) y at
  declaring_tree text place (RawStatement-F.Heap l (target.Declared v) cast n) h gives y at =
      by_heap (λ y. is_declaring y ≡ true) place.statements l (Some (to_place.Declared place.variables)) (ctype_if text (option_map named_type cast)) (amount_tree text (with_target text (target.Declared v) place) n)
      (λ u d a q. declaring-Heap place.statements l u d a ∙ ap declares_target (sym (some_same q))) y at
  declaring_tree text place (RawStatement-F.Assign l left op right) h gives y at = false_true h
  declaring_tree text place (RawStatement-F.Bump l left up before) h gives y at = false_true h
  declaring_tree text place (RawStatement-F.Call l target.None w args) h gives y at = false_true h
  declaring_tree text place (RawStatement-F.Call l (target.Place b) w args) h gives y at = false_true h
  declaring_tree text place (RawStatement-F.Heap l target.None cast n) h gives y at = false_true h
  declaring_tree text place (RawStatement-F.Heap l (target.Place b) cast n) h gives y at = false_true h
  declaring_tree text place (RawStatement-F.Return l value) h gives y at = false_true h
  declaring_tree text place (RawStatement-F.If l a b d) h gives y at = false_true h
  declaring_tree text place (RawStatement-F.While l a b) h gives y at = false_true h
  declaring_tree text place (RawStatement-F.Do l a b) h gives y at = false_true h
  declaring_tree text place (RawStatement-F.For l i a step b) h gives y at = false_true h
  declaring_tree text place (RawStatement-F.Switch l a arms) h gives y at = false_true h
  declaring_tree text place (RawStatement-F.Block l b) h gives y at = false_true h

  -- ---- going along

  given : {x z : Scoped (Option Statement)} {y : Statement} → x ≡ z → (scope : Scope) → x.gives scope ≡ Some y → z.gives scope ≡ Some y
  given e scope h = sym (ap (λ (u : Scoped (Option Statement)). u.gives scope) e) ∙ h

  one_result : {x z : Scoped (Option Statement)} {r : Option (List Statement)} (next : Scope) → x ≡ z → collected (z.gives next ∷ []) ≡ r → collected (in_order (x ∷ []) next) ≡ r
  one_result next e h = ap (λ (u : Scoped (Option Statement)). collected (u.gives next ∷ [])) e ∙ h

  two_results : {x z u w : Scoped (Option Statement)} {r : Option (List Statement)} (next : Scope) → x ≡ z → u ≡ w → collected (z.gives next ∷ (w.gives (z.after next) ∷ [])) ≡ r → collected (in_order (x ∷ (u ∷ [])) next) ≡ r
  two_results next e d h = ap₂ (λ (p q : Scoped (Option Statement)). collected (p.gives next ∷ (q.gives (p.after next) ∷ []))) e d ∙ h

  -- the same at other places
  block_moved : (xs ys : List (Scoped (Option Statement))) {a b c d : Scope} → a ≡ b → c ≡ d → ListStays k g (block_tree xs b) (block_tree ys d) → ListStays k g (block_tree xs a) (block_tree ys c)
  block_moved xs ys p q h zs at =
      ap (block_tree ys) q ∙ h zs (sym (ap (block_tree xs) p) ∙ at)

  -- a call that loses the place of its result
  place_lost : {scope next : Scope} (l : ℕ) (w : Bytes) (args : List RawArg) (o : Option Expr) → is_library_function w ≡ false → k.result scope.statements ≡ false → k.statement scope.statements ≡ true
      → TreesAgree ns (NamesFunction (Calls InBlock target.None w (kept_args k w scope.statements args))) raw other scope next → Agree f (Names (Calls InBlock target.None w (kept_args k w scope.statements args))) scope next
      → (y : Statement) → call_tree raw scope scope.statements l (option_map to_place.Place o) w args ≡ Some y
      → collected (call_tree other next next.statements l (Some to_place.None) w (kept_args k w scope.statements args) ∷ []) ≡ Some (projected k g y)
  place_lost {scope} {next} l w args None strange result kept fit agree y at = none_there (sym (invoked raw scope scope.statements l None w args strange) ∙ at)
  place_lost {scope} {next} l w args (Some a) strange result kept fit agree y at =
      let some = kept_args k w scope.statements args in
      let r = call_loses k g scope.statements next.statements l (to_place.Place a) fit.statements kept result (function_id raw w) (function_id other w) (args_tree raw scope args) (args_tree other next some)
      (fit.heads w NamesFunction.called) (lost_args scope.statements w args strange agree)
      y (sym (invoked raw scope scope.statements l (Some (to_place.Place a)) w args strange) ∙ at) in
      collect_one (invoked other next next.statements l (Some to_place.None) w some strange ∙ r.1) ∙ ap Some (sym r.2)

  -- ---- labels

  labels_stay : {scope next : Scope} (i : IntType) (all : List RawLabel) → Comes scope next → LabelsStay k scope all → collected (map (label_tree other next i) all) ≡ option_map (map (renamed_label f)) (collected (map (label_tree raw scope i) all))
  labels_stay {scope} {next} i all c stay = ap collected (each all (λ a p. p)) ∙ sym (collected_map (renamed_label f) (map (label_tree raw scope i) all))
    where
      agree : Agree f (NamedAmong (cases all)) scope next
      agree = record { names = λ x n. meaning_kept k raw other x c (stay x n); structs = c.structs }

      head_covered : (a : RawLabel) (rest : List RawLabel) → ((b : RawExpr) → Contains (cases (a ∷ rest)) b → Contains (cases all) b) → CoversAll (NamedAmong (cases all)) (cases (a ∷ []))
      head_covered (label.Case b) rest h d p x n = (d, h d (subst (λ (q : RawExpr). Contains (b ∷ cases rest) q) (in_one b d p) (contains_first b (cases rest))), n)
      head_covered label.Default rest h d (j, within, is) x n = absurd (omega (arith, within))

      behind : (a : RawLabel) (rest : List RawLabel) → ((b : RawExpr) → Contains (cases (a ∷ rest)) b → Contains (cases all) b) → (b : RawExpr) → Contains (cases rest) b → Contains (cases all) b
      behind (label.Case d) rest h b p = h b (contains_later d b (cases rest) p)
      behind label.Default rest h b p = h b p

      each : (some : List RawLabel) → ((b : RawExpr) → Contains (cases some) b → Contains (cases all) b) → map (label_tree other next i) some ≡ map (option_map (renamed_label f)) (map (label_tree raw scope i) some)
      each [] h = refl
      each (a ∷ rest) h =
          ap₂ (λ (x : Option Label) (xs : List (Option Label)). x ∷ xs) (labels_same f (NamedAmong (cases all)) raw other scope next texts.outside agree i a (head_covered a rest h)) (each rest (behind a rest h))

  -- an arm whose labels and body are there
  arm_stays : (i : IntType) (ls ls' : Option (List Label)) (b b' : Option (List Statement)) → ls' ≡ option_map (map (renamed_label f)) ls → ListStays k g b b' → (a : Arm) → both arm_tree ls b ≡ Some a → both arm_tree ls' b' ≡ Some (projected_arm k g a)
  arm_stays i None ls' b b' p q a at = none_there at
  arm_stays i (Some ls) ls' None b' p q a at = none_there at
  arm_stays i (Some ls) ls' (Some zs) b' p q a at = ap₂ (both arm_tree) p (q zs refl) ∙ ap Some (sym (projected_arm-arm k g ls zs) ∙ ap (projected_arm k g) (some_same at))

  -- two lists of options, one after the other
  more_projected : {A B : Type 0} (h : A → B) (o : Option A) (q : Option (List A)) (o' : Option B) (q' : Option (List B)) → ((a : A) → o ≡ Some a → o' ≡ Some (h a)) → ((as_ : List A) → q ≡ Some as_ → q' ≡ Some (map h as_))
      → (zs : List A) → option_and_then (λ y. option_map (λ ys. y ∷ ys) q) o ≡ Some zs → option_and_then (λ y. option_map (λ ys. y ∷ ys) q') o' ≡ Some (map h zs)
  more_projected h None q o' q' p r zs at = none_there at
  more_projected h (Some a) None o' q' p r zs at = none_there at
  more_projected h (Some a) (Some as_) o' q' p r zs at =
      ap₂ (λ (x : Option _) (y : Option (List _)). option_and_then (λ z. option_map (λ ys. z ∷ ys) y) x) (p a refl) (r as_ refl) ∙ ap (λ (all : List _). Some (map h all)) (some_same at)

  whole_block : (l : ℕ) (b : Option (List Statement)) (o : Option Statement) (os : List (Option Statement)) → ListStays k g b (collected (o ∷ os)) → (y : Statement) → option_map (t.Block l) b ≡ Some y
      → collected (option_map (t.Block l) (collected (o ∷ os)) ∷ []) ≡ Some (projected k g y)
  whole_block l None o os q y at = none_there at
  whole_block l (Some zs) o os q y at =
      let r = more_there o os (projected_all k g zs) (q zs refl) in
      block_stays k g l (Some zs) (collected (o ∷ os)) r.first r.rest q (q zs refl ∙ ap Some (sym r.same)) y at

  -- a for's beginning is there where the for is
  begin_there : (n l : ℕ) (i : Option (Option Statement)) (e : Option Expr) (step : Option (Option Statement)) (b : Option (List Statement)) (y : Statement) → for_tree n l i e step b ≡ Some y → (z : Option Statement) × (i ≡ Some z)
  begin_there n l None e step b y at = none_there at
  begin_there n l (Some z) e step b y at = (z, refl)

  -- a part at other places
  part_moved : (x y : Option RawStatement) {a b c d : Scope} → a ≡ b → c ≡ d
      → ((z : Option Statement) → part_tree (option_map (treed raw) x) b ≡ Some z → part_tree (option_map (treed other) y) d ≡ Some (part_of (option_map (projected k g) z)))
      → (z : Option Statement) → part_tree (option_map (treed raw) x) a ≡ Some z → part_tree (option_map (treed other) y) c ≡ Some (part_of (option_map (projected k g) z))
  part_moved x y p q h z at = ap (part_tree (option_map (treed other) y)) q ∙ h z (sym (ap (part_tree (option_map (treed raw) x)) p) ∙ at)

  -- what a for begins with declares, where its form does
  declaring_begin : (x : RawStatement) (place : Scope) → declares (out-RawStatement x) ≡ true → GivesResult (out-RawStatement x) → (y : Statement) → (treed other x).gives place ≡ Some y → is_declaring y ≡ true
  declaring_begin x place h gives y at =
      declaring_tree other place (out-RawStatement x) h gives y (given (ap (treed other) (sym (roll-out-RawStatement x)) ∙ treed-roll other (out-RawStatement x)) place at)

  -- a statement, and those that follow it
  more_stay : (x : RawStatement) (rest some others : List RawStatement) (scope next : Scope) (o : Option Statement) → (treed raw x).gives scope ≡ o
      → (q : Option (List Statement)) → collected (in_order (map (treed raw) rest) ((treed raw x).after scope)) ≡ q
      → ((y : Statement) → (treed raw x).gives scope ≡ Some y → collected (in_order (map (treed other) some) next) ≡ Some (projected k g y))
      → ((zs : List Statement) → collected (in_order (map (treed raw) rest) ((scoped raw x).after scope)) ≡ Some zs → collected (in_order (map (treed other) others) (after_all (map (scoped other) some) next)) ≡ Some (projected_all k g zs))
      → (zs : List Statement) → collected (in_order (map (treed raw) (x ∷ rest)) scope) ≡ Some zs → collected (in_order (map (treed other) (some ++ others)) next) ≡ Some (projected_all k g zs)
  more_stay x rest some others scope next o p q r first later zs at = by_options o p q r (ap₂ (λ (o : Option Statement) (q : Option (List Statement)). option_and_then (λ y. option_map (λ ys. y ∷ ys) q) o) (sym p) (sym r) ∙ at)
    where
      joined : (y : Statement) (ws : List Statement) → (treed raw x).gives scope ≡ Some y → collected (in_order (map (treed raw) rest) ((treed raw x).after scope)) ≡ Some ws
          → collected (in_order (map (treed other) (some ++ others)) next) ≡ Some (projected k g y ++ projected_all k g ws)
      joined y ws p r =
          ap (λ (all : List (Scoped (Option Statement))). collected (in_order all next)) (map-append (treed other) some others)
          ∙ ap collected (in_order-append (map (treed other) some) (map (treed other) others) next)
          ∙ join (in_order (map (treed other) some) next) (in_order (map (treed other) others) (after_all (map (treed other) some) next)) (projected k g y) (projected_all k g ws) (first y p)
          (ap (λ (z : Scope). collected (in_order (map (treed other) others) z)) (list_after other some next)
          ∙ later ws (ap (λ (z : Scope). collected (in_order (map (treed raw) rest) z)) (sym (after_same raw x scope)) ∙ r))

      by_options : (o : Option Statement) → (treed raw x).gives scope ≡ o → (q : Option (List Statement)) → collected (in_order (map (treed raw) rest) ((treed raw x).after scope)) ≡ q
          → option_and_then (λ y. option_map (λ ys. y ∷ ys) q) o ≡ Some zs → collected (in_order (map (treed other) (some ++ others)) next) ≡ Some (projected_all k g zs)
      by_options None p q r at = none_there at
      by_options (Some y) p None r at = none_there at
      by_options (Some y) p (Some ws) r at = joined y ws p r ∙ ap (λ (all : List Statement). Some (projected_all k g all)) (some_same at)

  -- an arm, and those that follow it
  arm_more : (labels : List RawLabel) (body some : List RawStatement) (rest others : List RawArm) (scope next : Scope) (i : IntType)
      → collected (map (label_tree other next i) labels) ≡ option_map (map (renamed_label f)) (collected (map (label_tree raw scope i) labels))
      → ListStays k g (collected (in_order (map (treed raw) body) scope)) (collected (in_order (map (treed other) some) next))
      → ((zs : List Arm) → at_type i (in_order (map (treed_arm raw) rest) (after_all (map (scoped raw) body) scope)) ≡ Some zs → at_type i (in_order (map (treed_arm other) others) (after_all (map (scoped other) some) next)) ≡ Some (map (projected_arm k g) zs))
      → (zs : List Arm) → at_type i (in_order (map (treed_arm raw) (arm labels body ∷ rest)) scope) ≡ Some zs → at_type i (in_order (map (treed_arm other) (arm labels some ∷ others)) next) ≡ Some (map (projected_arm k g) zs)
  arm_more labels body some rest others scope next i p q later zs at =
      ap (λ (a : Scoped ArmTree). at_type i (a.gives next ∷ in_order (map (treed_arm other) others) (a.after next))) (treed_arm-arm other labels some)
      ∙ more_projected (projected_arm k g) (both arm_tree (collected (map (label_tree raw scope i) labels)) (collected (in_order (map (treed raw) body) scope))) _
      (both arm_tree (collected (map (label_tree other next i) labels)) (collected (in_order (map (treed other) some) next))) _
      (arm_stays i (collected (map (label_tree raw scope i) labels)) (collected (map (label_tree other next i) labels)) (collected (in_order (map (treed raw) body) scope)) (collected (in_order (map (treed other) some) next)) p q)
      (λ ws r. ap (λ (z : Scope). at_type i (in_order (map (treed_arm other) others) z)) (list_after other some next) ∙ later ws (ap (λ (z : Scope). at_type i (in_order (map (treed_arm raw) rest) z)) (sym (list_after raw body scope)) ∙ r))
      zs (sym (ap (λ (a : Scoped ArmTree). at_type i (a.gives scope ∷ in_order (map (treed_arm raw) rest) (a.after scope))) (treed_arm-arm raw labels body)) ∙ at)

  mutual
    pub tree_stays : {scope : Scope} {x : RawStatement} {xs : List RawStatement} → Thins k raw other scope x xs → (next : Scope) → Comes scope next
        → (y : Statement) → (treed raw x).gives scope ≡ Some y → collected (in_order (map (treed other) xs) next) ≡ Some (projected k g y)
    tree_stays {scope} (Thins.simple x part is none kept whole stay) next c y at =
        one_result next (treed-roll other (kept_form k scope.statements x)) (simple_stays x part is none kept whole (fits c stay) (agrees c stay) y (given (treed-roll raw x) scope at))
    tree_stays {scope} (Thins.simple_goes x part is none out) next c y at = ap Some (sym (simple_goes scope x part is none out y (given (treed-roll raw x) scope at)))
    tree_stays {scope} (Thins.result_goes {l} {a} {f = w} {args} strange result kept passes stay) next c y at =
        one_result next (treed-Call other l target.None w (kept_args k w scope.statements args)) (place_lost l w args (expr_of raw scope a) strange result kept (fits c stay) (agrees c stay) y (given (treed-Call raw l (target.Place a) w args) scope at))
    tree_stays {scope} (Thins.declaration {l} {v} {i} is kept stay stay_begin) next c y at =
        one_result next (treed-Declare other l v i) (declaration_stays l v i is kept stay_begin c y (given (treed-Declare raw l v i) scope at))
    tree_stays {scope} (Thins.initialiser_goes {l} {v} {w} {i} is out like stay) next c y at =
        one_result next (treed-Declare other l w init.None) (ap Some (sym (declared_bare scope l v i out y (given (treed-Declare raw l v i) scope at) ∙ bare_there l is c)))
    tree_stays {scope} (Thins.declaration_goes {l} {v} {i} is out) next c y at =
        ap Some (sym (declared_bare scope l v i out y (given (treed-Declare raw l v i) scope at) ∙ unchosen _ [] is))
    tree_stays {scope} (Thins.call {l} {v} {f = w} {args} whole passes is kept stay stay_call) next c y at =
        one_result next (treed-Call other l (target.Declared v) w (kept_args k w scope.statements args)) (declared_stays l v c w args is kept whole.kept stay_call y (given (treed-Call raw l (target.Declared v) w args) scope at))
    tree_stays {scope} (Thins.call_follows {l} {v} {f = w} {args} strange result is kept passes stay stay_call) next c y at =
        let r = lost l v c w args (inside v v init.None init.None is (same v init.None) c) strange result kept stay_call next.statements c.statements y (given (treed-Call raw l (target.Declared v) w args) scope at) in
        two_results next (treed-Declare other l v init.None) (treed-Call other l target.None w (kept_args k w scope.statements args))
        (ap (λ (o : Option Statement). collected (Some (t.Declare None l next.variables begins.None) ∷ (o ∷ []))) r.1 ∙ ap Some (sym (r.2 ∙ ap (λ (zs : List Statement). zs ++ (r.0 ∷ [])) (bare_there l is c))))
    tree_stays {scope} (Thins.call_alone {l} {v} {f = w} {args} strange result is kept passes stay_call) next c y at =
        let r = lost l v c w args (variable_gone k raw other v init.None is c) strange result kept stay_call next.statements c.statements y (given (treed-Call raw l (target.Declared v) w args) scope at) in
        one_result next (treed-Call other l target.None w (kept_args k w scope.statements args)) (collect_one r.1 ∙ ap Some (sym (r.2 ∙ ap (λ (zs : List Statement). zs ++ (r.0 ∷ [])) (unchosen _ [] is))))
    tree_stays {scope} (Thins.call_goes {l} {v} {f = w} {args} gives is out stay) next c y at =
        one_result next (treed-Declare other l v init.None) (ap Some (sym (call_gone_by l v c w args out (λ h. false_true (sym gives ∙ h)) y (given (treed-Call raw l (target.Declared v) w args) scope at) ∙ bare_there l is c)))
    tree_stays {scope} (Thins.called_goes {l} {v} {f = w} {args} is out) next c y at =
        ap Some (sym (call_gone_by l v c w args out (λ h. unchosen _ [] is) y (given (treed-Call raw l (target.Declared v) w args) scope at) ∙ unchosen _ [] is))
    tree_stays {scope} (Thins.heap {l} {v} {cast} {n} is kept stay stay_heap) next c y at =
        one_result next (treed-Heap other l (target.Declared v) cast n) (heap_stays l v c cast n is kept stay_heap y (given (treed-Heap raw l (target.Declared v) cast n) scope at))
    tree_stays {scope} (Thins.heap_goes {l} {v} {cast} {n} is out stay) next c y at =
        one_result next (treed-Declare other l v init.None) (ap Some (sym (heap_gone_by l v c cast n out y (given (treed-Heap raw l (target.Declared v) cast n) scope at) ∙ bare_there l is c)))
    tree_stays {scope} (Thins.heaped_goes {l} {v} {cast} {n} is out) next c y at =
        ap Some (sym (heap_gone_by l v c cast n out y (given (treed-Heap raw l (target.Declared v) cast n) scope at) ∙ unchosen _ [] is))
    tree_stays {scope} (Thins.conditional {l} {a} {first} {second} {some} {others} is stay d e) next c y at =
        let n = numbered_kept k raw other is c in
        let w = all_walk k raw other texts defined_here defined_there owner_here owner_there d (opened (numbered next)) InBlock InBlock there (follows_opened k raw other n) in
        let b = follows_closed k raw other n w.after in
        one_result next (treed-If other l a some others) (if_stays k g scope.statements next.statements l c.statements (expr_of raw scope a) _ _ (expr_of other next a) _ _ is (test_same a c stay)
        (all_stay d (opened (numbered next)) (follows_opened k raw other n))
        (block_moved (map (treed raw) second) (map (treed other) others) (block_after_same raw first (numbered scope)) (block_after_same other some (numbered next)) (all_stay e (opened (after_block (map (scoped other) some) (numbered next))) (follows_opened k raw other b)))
        y (given (treed-If raw l a first second) scope at))
    tree_stays {scope} (Thins.conditional_goes {l} {a} {first} {second} out d e) next c y at = if_gone k g scope.statements next.statements l c.statements (expr_of raw scope a) _ _ out y (given (treed-If raw l a first second) scope at)
    tree_stays {scope} (Thins.while_loop {l} {a} {body} {some} is stay d) next c y at =
        one_result next (treed-While other l a some) (while_stays k g scope.statements next.statements l c.statements (expr_of raw scope a) _ (expr_of other next a) _ is (test_same a c stay)
        (all_stay d (opened (numbered next)) (follows_opened k raw other (numbered_kept k raw other is c))) y (given (treed-While raw l a body) scope at))
    tree_stays {scope} (Thins.while_goes {l} {a} {body} out d) next c y at = while_gone k g scope.statements next.statements l c.statements (expr_of raw scope a) _ out y (given (treed-While raw l a body) scope at)
    tree_stays {scope} (Thins.do_loop {l} {a} {body} {some} is stay d) next c y at =
        one_result next (treed-Do other l a some) (do_stays k g scope.statements next.statements l c.statements (expr_of raw scope a) _ (expr_of other next a) _ is (test_same a c stay)
        (all_stay d (opened (numbered next)) (follows_opened k raw other (numbered_kept k raw other is c))) y (given (treed-Do raw l a body) scope at))
    tree_stays {scope} (Thins.do_goes {l} {a} {body} out d) next c y at = do_gone k g scope.statements next.statements l c.statements (expr_of raw scope a) _ out y (given (treed-Do raw l a body) scope at)
    tree_stays {scope} (Thins.for_loop {l} {a} {first} {step} {begin} {next = later} {body} {some} is stay d e h) next c y at =
        let n = follows_opened k raw other (numbered_kept k raw other is c) in
        let p = part_walks k raw other texts defined_here defined_there owner_here owner_there d (opened (numbered next)) InFor InFor there n in
        let q = part_walks k raw other texts defined_here defined_there owner_here owner_there e (scope_of_test (option_map (scoped other) begin) next) InBlock InBlock there p.after in
        let u = part_after raw first (opened (numbered scope)) in
        let v = part_after other begin (opened (numbered next)) in
        one_result next (treed-For other l begin a later some) (for_stays k g scope.statements next.statements l c.statements _ (expr_of raw (scope_of_test (option_map (treed raw) first) scope) a) _ _ _ (expr_of other (scope_of_test (option_map (treed other) begin) next) a) _ _ is
        (part_stays d (opened (numbered next)) n)
        (ap (λ (z : Scope). expr_of other z a) v ∙ test_same a p.after stay ∙ ap (λ (z : Scope). option_map (renamed f) (expr_of raw z a)) (sym u))
        (part_moved step later u v (part_stays e (scope_of_test (option_map (scoped other) begin) next) p.after))
        (block_moved (map (treed raw) body) (map (treed other) some) (ap (after_part (option_map (treed raw) step)) u ∙ part_after raw step _) (ap (after_part (option_map (treed other) later)) v ∙ part_after other later _)
        (all_stay h (opened (scope_of_body (option_map (scoped other) begin) (option_map (scoped other) later) next)) (follows_opened k raw other q.after)))
        y (given (treed-For raw l first a step body) scope at))
    tree_stays {scope} (Thins.for_goes {l} {a} {first} {step} {body} out d e h) next c y at =
        ap Some (sym (for_leaves k g scope.statements next.statements l c.statements _ (expr_of raw (scope_of_test (option_map (treed raw) first) scope) a) _ _ None out
        (λ z q. sym (some_same (part_stays d (opened next) (follows_opened k raw other (numbered_gone k raw other out c)) z q))) y (given (treed-For raw l first a step body) scope at)))
    tree_stays {scope} (Thins.for_block {l} {a} {first} {begin} {step} {body} out declaring gives d e h) next c y at =
        let tree = given (treed-For raw l (Some first) a step body) scope at in
        let z = begin_there scope.statements l _ _ _ _ y tree in
        let p = optional_there ((treed raw first).gives (opened (numbered scope))) z.0 z.1 in
        let r = one_there ((treed other begin).gives (opened next)) (projected k g p.0) (tree_stays d (opened next) (follows_opened k raw other (numbered_gone k raw other out c)) p.0 p.1.0) in
        let leaves = for_leaves k g scope.statements next.statements l c.statements _ (expr_of raw (scope_of_test (option_map (treed raw) (Some first)) scope) a) _ _ (Some r.value) out
        (λ u q. ap (λ (o : Option Statement). part_of (option_map (projected k g) o)) (some_same (sym q ∙ z.1) ∙ sym p.1.1) ∙ ap first_statement r.same) y tree in
        let declares_it = declaring_begin begin (opened next) declaring gives r.value r.there in
        one_result next (treed-Block other l (begin ∷ []))
        (ap (λ (o : Option Statement). collected (option_map (t.Block l) (collected (o ∷ [])) ∷ [])) r.there ∙ ap Some (sym (leaves ∙ chosen (t.Block l (r.value ∷ []) ∷ []) (r.value ∷ []) declares_it)))
    tree_stays {scope} (Thins.for_simple {l} {a} x part {step} {body} out is none kept whole stay e h) next c y at =
        let form = kept_form k (numbered scope).statements x in
        let nothing : declares form ≡ false = form_declares k (numbered scope).statements x ∙ none in
        let tree = given (treed-For raw l (Some (roll-RawStatement x)) a step body) scope at in
        let z = begin_there scope.statements l _ _ _ _ y tree in
        let p = optional_there ((treed raw (roll-RawStatement x)).gives (opened (numbered scope))) z.0 z.1 in
        let n = numbered_gone k raw other out c in
        let inner = at_number stay in
        let fit = fits n inner in
        let agree = agrees n inner in
        let stays = simple_stays {scope = opened (numbered scope)} {next = next} x part is none kept (fits_opened k raw (numbered scope) x whole) (record { outside = fit.outside; variables = fit.variables; statements = fit.statements; heads = fit.heads })
        (record { names = agree.names; structs = agree.structs }) p.0 (given (treed-roll raw x) (opened (numbered scope)) p.1.0) in
        let r = one_there (tree_step other (opened_tree other form) next) (projected k g p.0) stays in
        let leaves = for_leaves k g scope.statements next.statements l c.statements _ (expr_of raw (scope_of_test (option_map (treed raw) (Some (roll-RawStatement x))) scope) a) _ _ (Some r.value) out
        (λ u q. ap (λ (o : Option Statement). part_of (option_map (projected k g) o)) (some_same (sym q ∙ z.1) ∙ sym p.1.1) ∙ ap first_statement r.same) y tree in
        one_result next (treed-roll other form) (collect_one r.there ∙ ap Some (sym (leaves ∙ unchosen (t.Block l (r.value ∷ []) ∷ []) (r.value ∷ []) (simple_declaring other next form part is nothing r.value r.there))))
    tree_stays {scope} (Thins.for_result_goes {l} {m} {a} b {f = w} args {step} {body} out strange result kept passes stay e h) next c y at =
        let begin = s.Call m (target.Place b) w args in
        let some = kept_args k w (numbered scope).statements args in
        let tree = given (treed-For raw l (Some begin) a step body) scope at in
        let z = begin_there scope.statements l _ _ _ _ y tree in
        let p = optional_there ((treed raw begin).gives (opened (numbered scope))) z.0 z.1 in
        let n = numbered_gone k raw other out c in
        let inner = at_number stay in
        let fit = fits n inner in
        let agree = agrees n inner in
        let stays = place_lost {scope = opened (numbered scope)} {next = next} m w args (expr_of raw (opened (numbered scope)) b) strange result kept (record { outside = fit.outside; variables = fit.variables; statements = fit.statements; heads = fit.heads })
        (record { names = agree.names; structs = agree.structs }) p.0 (given (treed-Call raw m (target.Place b) w args) (opened (numbered scope)) p.1.0) in
        let r = one_there (call_tree other next next.statements m (Some to_place.None) w some) (projected k g p.0) stays in
        let leaves = for_leaves k g scope.statements next.statements l c.statements _ (expr_of raw (scope_of_test (option_map (treed raw) (Some begin)) scope) a) _ _ (Some r.value) out
        (λ u q. ap (λ (o : Option Statement). part_of (option_map (projected k g) o)) (some_same (sym q ∙ z.1) ∙ sym p.1.1) ∙ ap first_statement r.same) y tree in
        let declares_nothing = simple_declaring other next (RawStatement-F.Call m target.None w some) (Calls InBlock target.None w some) refl refl r.value r.there in
        one_result next (treed-Call other m target.None w some) (collect_one r.there ∙ ap Some (sym (leaves ∙ unchosen (t.Block l (r.value ∷ []) ∷ []) (r.value ∷ []) declares_nothing)))
    tree_stays {scope} (Thins.switch {l} {a} {arms} {others} is stay d) next c y at =
        one_result next (treed-Switch other l a others) (switch_stays k g scope.statements next.statements l c.statements (expr_of raw scope a) (switch_type raw scope a) _ (expr_of other next a) (switch_type other next a) _ is
        (exprs_same f (Names (Switches a (arm_labels raw arms (opened (numbered scope))))) raw other scope next texts.outside (agrees c stay) a (part_covers _ (λ x n. n) a (contains_first a _)))
        (switch_types_same f (Names (Switches a (arm_labels raw arms (opened (numbered scope))))) raw other scope next texts.outside (agrees c stay) a (part_covers _ (λ x n. n) a (contains_first a _)))
        (arms_stay d (opened (numbered next)) (follows_opened k raw other (numbered_kept k raw other is c))) y (given (treed-Switch raw l a arms) scope at))
    tree_stays {scope} (Thins.switch_goes {l} {a} {arms} out d) next c y at =
        switch_gone k g scope.statements next.statements l c.statements (expr_of raw scope a) (switch_type raw scope a) _ out y (given (treed-Switch raw l a arms) scope at)
    tree_stays {scope} (Thins.block {l} {body} {rest} {x} d) next c y at =
        one_result next (treed-Block other l (x ∷ rest)) (whole_block l (block_tree (map (treed raw) body) scope) ((treed other x).gives (opened next)) (in_order (map (treed other) rest) ((treed other x).after (opened next))) (all_stay d (opened next) (follows_opened k raw other c)) y (given (treed-Block raw l body) scope at))
    tree_stays {scope} (Thins.block_goes {l} {body} d) next c y at =
        block_gone k g l (block_tree (map (treed raw) body) scope) (all_stay d (opened next) (follows_opened k raw other c)) y (given (treed-Block raw l body) scope at)

    pub all_stay : {scope : Scope} {xs ys : List RawStatement} → ThinAll k raw other scope xs ys → (next : Scope) → Comes scope next
        → (zs : List Statement) → collected (in_order (map (treed raw) xs) scope) ≡ Some zs → collected (in_order (map (treed other) ys) next) ≡ Some (projected_all k g zs)
    all_stay ThinAll.none next c zs at = ap (λ (all : List Statement). Some (projected_all k g all)) (some_same at)
    all_stay {scope} (ThinAll.more {x} {rest} {some} {others} d e) next c zs at =
        let w = walks k raw other texts defined_here defined_there owner_here owner_there d next InBlock InBlock there c in
        more_stay x rest some others scope next ((treed raw x).gives scope) refl (collected (in_order (map (treed raw) rest) ((treed raw x).after scope))) refl
        (tree_stays d next c) (all_stay e (after_all (map (scoped other) some) next) w.after) zs at

    pub part_stays : {scope : Scope} {x y : Option RawStatement} → ThinsPart k raw other scope x y → (next : Scope) → Comes scope next
        → (z : Option Statement) → part_tree (option_map (treed raw) x) scope ≡ Some z → part_tree (option_map (treed other) y) next ≡ Some (part_of (option_map (projected k g) z))
    part_stays ThinsPart.missing next c z at = ap (λ (o : Option Statement). Some (part_of (option_map (projected k g) o))) (some_same at)
    part_stays {scope} (ThinsPart.part_stays {x} {y} d) next c z at =
        let p = optional_there ((treed raw x).gives scope) z at in
        let r = one_there ((treed other y).gives next) (projected k g p.0) (tree_stays d next c p.0 p.1.0) in
        ap (λ (o : Option Statement). optional (Some o)) r.there ∙ ap Some (sym (ap (λ (o : Option Statement). part_of (option_map (projected k g) o)) (sym p.1.1) ∙ ap first_statement r.same))
    part_stays {scope} (ThinsPart.part_goes {x} d) next c z at =
        let p = optional_there ((treed raw x).gives scope) z at in
        ap Some (sym (ap (λ (o : Option Statement). part_of (option_map (projected k g) o)) (sym p.1.1) ∙ ap first_statement (sym (some_same (tree_stays d next c p.0 p.1.0)))))

    pub arms_stay : {scope : Scope} {xs ys : List RawArm} → ThinArms k raw other scope xs ys → (next : Scope) → Comes scope next
        → (i : IntType) (zs : List Arm) → at_type i (in_order (map (treed_arm raw) xs) scope) ≡ Some zs → at_type i (in_order (map (treed_arm other) ys) next) ≡ Some (map (projected_arm k g) zs)
    arms_stay ThinArms.no_arms next c i zs at = ap (λ (all : List Arm). Some (map (projected_arm k g) all)) (some_same at)
    arms_stay {scope} (ThinArms.arm_stays {labels} {body} {some} {rest} {others} stay d e) next c i zs at =
        let w = all_walk k raw other texts defined_here defined_there owner_here owner_there d next InArm InArm there c in
        arm_more labels body some rest others scope next i (labels_stay i labels c stay) (all_stay d next c) (arms_stay e (after_all (map (scoped other) some) next) w.after i) zs at
