-- In the program of a text that keeps all rules each arm of a switch is taken.
use Rattle.std.proofs.Common.{◌≡◌, ℕ, List, [], ◌∷◌, ◌++◌, map, Bool, true, ◌&&◌, Option, Some, None, codes, refl, sym, ap, subst, ◌∙◌}
use Rattle.std.specs.Prelude.{option_map, option_and_then, bytes_eq}
use Rattle.std.specs.List.{list_all}
use Rattle.std.proofs.lemmas.Bool.{and_parts, and_from}
use Rattle.c_language.proofs.PhraseLists.{kept_first, kept_second, phrases_kept}
use Rattle.c_language.proofs.ProgramParts.{function_made}
use Rattle.c_arith.specs.declared.int_type.IntType.{IntType}
use Rattle.c_arith.specs.IntType.{promote}
use Rattle.c_tree.specs.declared.types.CType.{CType}
use Rattle.c_tree.specs.declared.program.Function.{Function}
use Rattle.c_tree.specs.declared.program.Program.{Program}
use Rattle.c_tree.specs.declared.statement.Target.{Target}
use Rattle.c_tree.specs.declared.statement.Amount.{Amount}
use Rattle.c_tree.specs.declared.statement.Arm.{Arm}
use Rattle.c_tree.specs.declared.statement.Label.{Label}
use Rattle.c_tree.specs.declared.statement.Statement.{Statement}
use Rattle.c_tree.specs.declared.statement.Statement.TheVariants as t
use Rattle.c_tree.specs.declared.raw.expr.RawExpr.{RawExpr}
use Rattle.c_tree.specs.declared.raw.program.RawItem.{RawItem}
use Rattle.c_tree.specs.declared.raw.program.RawItem.TheVariants.{Include, Tag, Struct, Global, Prototype, Define}
use Rattle.c_tree.specs.declared.raw.program.RawProgram.{RawProgram}
use Rattle.c_tree.specs.declared.raw.statement.RawArg.{RawArg}
use Rattle.c_tree.specs.declared.raw.statement.RawLabel.{RawLabel}
use Rattle.c_tree.specs.declared.raw.statement.RawArm.{RawArm, roll-RawArm, map-RawArm, fold-roll-RawArm}
use Rattle.c_tree.specs.declared.raw.statement.RawStatement.{RawStatement, ind-RawStatement, roll-RawStatement, map-RawStatement, fold-roll-RawStatement}
use Rattle.c_tree.specs.declared.raw.statement.RawStatement.TheOpen.{RawStatement-F, RawArm-F}
use Rattle.c_language.specs.Words.{Bytes}
use Rattle.c_language.specs.CallRules.{format_in, later_args}
use Rattle.c_language.specs.DeclaredTypes.{function_id}
use Rattle.c_language.specs.ExprTypes.{operand, integer_of, type_of}
use Rattle.c_language.specs.declared.expr_type.Operand.{Operand}
use Rattle.c_language.specs.Scopes.{Scope, opened, numbered, entered, outset, Scoped, in_order, part_gives, after_part, scope_of_test, with_target}
use Rattle.c_language.specs.Phrases.{Stand, InBlock, InArm, InFor, Switches, Phrases, joined_at, at_stand, ArmText, labels_of, phrases_of_arms, block_phrases, phrases_step, scoped_step, scoped_arm, scoped, scoped_of_arm, body_phrases, head_phrases, item_phrases, items_phrases, after_item}
use Rattle.c_language.specs.ProgramOf as trees_of
use Rattle.c_language.specs.ProgramOf.{collected, expr_of, args_tree, only_tree, call_tree, ctype_if, ArmTree, arm_tree, at_type, part_tree, block_tree, tree_step, treed_step, arm_tree_step, treed, target_tree, switch_type, label_tree, body_of, function_tree, functions_from, amount_tree, treed_arm}
use Rattle.c_language.specs.TypeGrammar.{named_type}
use Rattle.c_language.specs.Programs.{IsTree, HasProgram}
use Rattle.c_language.specs.Rules.{Breaks, AreKept}
use Rattle.c_language.specs.SwitchRules.{HasTwo, SameCase, MisusesSwitch}
use Rattle.dep_model.proofs.Options.{Always, always_map, always_then, always_both, always_is, always_if}
use Rattle.c_scope_laws.specs.Thinning.{block_after, part_scope, body_scope}
use Rattle.control_nesting.specs.Laws.{TextsTakeAll}
use Rattle.control_nesting.specs.TakenArms.{ArmTakes, arms_taken, takes_all, arm_takes, TakesAll}
use Rattle.control_nesting.proofs.TakenForms.{takes-Declare, takes-Assign, takes-Bump, takes-Invoke, takes-Fetch, takes-Write, takes-Print, takes-Heap, takes-Release, takes-If, takes-While, takes-Do, takes-For, takes-Switch, takes-Block, takes-Return, takes-arm}
use Rattle.text_syntax.proofs.Items.{text_is_syntax}
use Rattle.control_nesting.proofs.TakenLabels.{has_label, labelled_step, labelled_arm, labelled, labelled_of_arm, are_labelled, AreLabelled, program_labelled}
use Rattle.control_nesting.proofs.TakenCases.{Apart, labels_apart, first_there}
use Rattle.c_language.specs.ConstantEvaluation as constants
use Rattle.c_language.proofs.Options.{some_same, optional_there, map_there, then_there, both_there, more_there}
use Rattle.c_language.proofs.Tests.{false_true}
use Rattle.c_language.proofs.TreeScopes.{after_same, list_after, block_after_same, part_after}
use Rattle.c_language.specs.Lists.{if_there, all_true}

abbrev IsTaken : Statement → Type 0
IsTaken z = takes_all z ≡ true

abbrev AreTaken : List Statement → Type 0
AreTaken zs = all_true (map takes_all zs) ≡ true

heap_taken : (n l : ℕ) (to : Option Target) (cast : Option (Option CType)) (m : Option Amount)
    → Always IsTaken (option_and_then (λ (u : Target). option_and_then (λ (c : Option CType). option_map (t.Heap n l u c) m) cast) to)
heap_taken n l to cast m =
    always_then IsTaken (λ (u : Target). option_and_then (λ (c : Option CType). option_map (t.Heap n l u c) m) cast) to
    (λ u. always_then IsTaken (λ (c : Option CType). option_map (t.Heap n l u c) m) cast (λ c. always_map IsTaken (t.Heap n l u c) m (λ k. takes-Heap n l u c k)))

module _ (raw : RawProgram) where
  call_taken : (scope : Scope) (n l : ℕ) (to : Option Target) (f : Bytes) (args : List RawArg) → Always IsTaken (call_tree raw scope n l to f args)
  call_taken scope n l to f args =
      always_if IsTaken (bytes_eq f (codes "getchar")) _ _ (always_map IsTaken (t.Fetch n l) to (λ x. takes-Fetch n l x))
      (always_if IsTaken (bytes_eq f (codes "putchar")) _ _ (always_map IsTaken (t.Write n l) (only_tree raw scope args) (λ x. takes-Write n l x))
      (always_if IsTaken (bytes_eq f (codes "printf")) _ _ (always_then IsTaken (λ (text : Bytes). option_map (t.Print n l text) (args_tree raw scope (later_args args))) (format_in args) (λ text. always_map IsTaken (t.Print n l text) (args_tree raw scope (later_args args)) (λ xs. takes-Print n l text xs)))
      (always_if IsTaken (bytes_eq f (codes "free")) _ _ (always_map IsTaken (t.Release n l) (only_tree raw scope args) (λ x. takes-Release n l x))
      (always_then IsTaken (λ (x : Target). constants.both (t.Invoke n l x) (function_id raw f) (args_tree raw scope args)) to (λ x. always_both IsTaken (t.Invoke n l x) (function_id raw f) (args_tree raw scope args) (λ g xs. takes-Invoke n l x g xs))))))

  -- the labels of a switch that breaks no rule differ in the promoted type of its test
  labels_differ : (scope : Scope) (a : RawExpr) (labels : List RawLabel) (i : IntType) → switch_type raw scope a ≡ Some i → ((n : ℕ) → Breaks raw scope (Switches a labels) n → ⊥) → Apart i [] labels
  labels_differ scope a labels i at kept =
      let k = map_there promote (option_and_then integer_of (type_of raw scope a)) i at in
      let u = then_there integer_of (type_of raw scope a) k.value k.there in
      let o = map_there (λ (x : Operand). x.shape) (operand raw scope a) u.value u.there in
      record {
        cases = λ z b w q c e s. false_true q;
        default_ = λ q c. false_true q;
        values = λ two. kept 11 (Breaks.switch (MisusesSwitch.equal_labels o.there (ap integer_of o.same ∙ u.same) (subst (λ (j : IntType). HasTwo (SameCase j) labels) (sym k.same) two)));
        defaults = λ two. kept 11 (Breaks.switch (MisusesSwitch.defaults two));
      }

  -- ---- by layers

  abbrev texts : RawStatement-F RawStatement RawArm → RawStatement-F (Scoped (Stand → Phrases)) (Scoped ArmText)
  texts y = map-RawStatement RawStatement RawArm (Scoped (Stand → Phrases)) (Scoped ArmText) (scoped raw) (scoped_of_arm raw) y

  abbrev trees : RawStatement-F RawStatement RawArm → RawStatement-F (Scoped (Option Statement)) (Scoped ArmTree)
  trees y = map-RawStatement RawStatement RawArm (Scoped (Option Statement)) (Scoped ArmTree) (treed raw) (treed_arm raw) y

  abbrev label_tests : RawStatement-F RawStatement RawArm → RawStatement-F Bool Bool
  label_tests y = map-RawStatement RawStatement RawArm Bool Bool labelled labelled_of_arm y

  abbrev Takes : RawStatement → Type 0
  Takes x = (scope : Scope) (stand : Stand) (z : Statement) → (treed raw x).gives scope ≡ Some z → labelled x ≡ true → AreKept raw ((scoped raw x).gives scope stand) → IsTaken z

  -- an arm of a switch, in which each arm is taken
  record IsArm (scope : Scope) (i : IntType) (x : RawArm) (z : Arm) : Type 0 where
    pub labels : List RawLabel
    pub given : List Label
    pub own : ((scoped_of_arm raw x).gives scope).labels ≡ labels
    pub some : has_label labels ≡ true
    pub tree : collected (map (label_tree raw scope i) labels) ≡ Some given
    pub value : arm_takes z ≡ record { labels = given; takes = true }
    pub after : (treed_arm raw x).after scope ≡ (scoped_of_arm raw x).after scope

  abbrev ArmTaken : RawArm → Type 0
  ArmTaken x = (scope : Scope) (i : IntType) (z : Arm) → (treed_arm raw x).gives scope i ≡ Some z → labelled_of_arm x ≡ true → AreKept raw ((scoped_of_arm raw x).gives scope).phrases → IsArm scope i x z

  abbrev Statements : Type 0
  Statements = List ((x : RawStatement) × Takes x)

  abbrev Arms : Type 0
  Arms = List ((x : RawArm) × ArmTaken x)

  abbrev Piece : Type 0
  Piece = Option ((x : RawStatement) × Takes x)

  abbrev bare : Statements → List RawStatement
  bare = map (λ (x : (y : RawStatement) × Takes y). x.0)

  abbrev bare_arms : Arms → List RawArm
  bare_arms = map (λ (x : (y : RawArm) × ArmTaken y). x.0)

  abbrev bare_part : Piece → Option RawStatement
  bare_part None = None
  bare_part (Some x) = Some x.0

  lists : (xs : Statements) (scope : Scope) (stand : Stand) (zs : List Statement) → collected (in_order (map (treed raw) (bare xs)) scope) ≡ Some zs → are_labelled (bare xs) ≡ true
      → AreKept raw (joined_at stand (in_order (map (scoped raw) (bare xs)) scope)) → AreTaken zs
  lists [] scope stand zs at f g = subst AreTaken (some_same at) refl
  lists (x ∷ xs) scope stand zs at f g =
      let next = (scoped raw x.0).after scope in
      let m = more_there ((treed raw x.0).gives scope) (in_order (map (treed raw) (bare xs)) ((treed raw x.0).after scope)) zs at in
      let rest = joined_at stand (in_order (map (scoped raw) (bare xs)) next) in
      let w = and_parts (labelled x.0) (are_labelled (bare xs)) f in
      subst AreTaken m.same
      (and_from (takes_all m.first) (all_true (map takes_all m.rest)) (x.1 scope stand m.first m.first_there w.0 (kept_first raw ((scoped raw x.0).gives scope stand) rest g))
      (lists xs next stand m.rest (ap (λ (z : Scope). collected (in_order (map (treed raw) (bare xs)) z)) (sym (after_same raw x.0 scope)) ∙ m.rest_there) w.1 (kept_second raw ((scoped raw x.0).gives scope stand) rest g)))

  arms_lists : (xs : Arms) (scope : Scope) (i : IntType) (before : List Label) (zs : List Arm) → at_type i (in_order (map (treed_arm raw) (bare_arms xs)) scope) ≡ Some zs → all_true (map labelled_of_arm (bare_arms xs)) ≡ true
      → AreKept raw (phrases_of_arms (in_order (map (scoped_of_arm raw) (bare_arms xs)) scope)) → Apart i before (labels_of (in_order (map (scoped_of_arm raw) (bare_arms xs)) scope)) → arms_taken before (map arm_takes zs) ≡ true
  arms_lists [] scope i before zs at f g h = subst (λ (w : List Arm). arms_taken before (map arm_takes w) ≡ true) (some_same at) refl
  arms_lists (x ∷ xs) scope i before zs at f g h =
      let next = (scoped_of_arm raw x.0).after scope in
      let m = more_there ((treed_arm raw x.0).gives scope i) (map (λ (a : ArmTree). a i) (in_order (map (treed_arm raw) (bare_arms xs)) ((treed_arm raw x.0).after scope))) zs at in
      let rest = phrases_of_arms (in_order (map (scoped_of_arm raw) (bare_arms xs)) next) in
      let others = labels_of (in_order (map (scoped_of_arm raw) (bare_arms xs)) next) in
      let w = and_parts (labelled_of_arm x.0) (all_true (map labelled_of_arm (bare_arms xs))) f in
      let d : IsArm scope i x.0 m.first = x.1 scope i m.first m.first_there w.0 (kept_first raw ((scoped_of_arm raw x.0).gives scope).phrases rest g) in
      let apart : Apart i before (d.labels ++ others) = subst (λ (ls : List RawLabel). Apart i before (ls ++ others)) d.own h in
      let later = arms_lists xs next i _ m.rest (ap (λ (z : Scope). at_type i (in_order (map (treed_arm raw) (bare_arms xs)) z)) (sym d.after) ∙ m.rest_there) w.1
      (kept_second raw ((scoped_of_arm raw x.0).gives scope).phrases rest g) (labels_apart i raw scope before d.labels others d.given d.tree apart) in
      subst (λ (u : List Arm). arms_taken before (map arm_takes u) ≡ true) m.same
      (subst (λ (u : ArmTakes). arms_taken before (u ∷ map arm_takes m.rest) ≡ true) (sym d.value)
      (and_from _ _ (first_there i raw scope before d.labels others d.given d.some d.tree apart) later))

  parts : (x : Piece) (scope : Scope) (stand : Stand) (z : Option Statement) → part_tree (option_map (treed raw) (bare_part x)) scope ≡ Some z → if_there (option_map labelled (bare_part x)) ≡ true
      → AreKept raw (at_stand stand (part_gives (option_map (scoped raw) (bare_part x)) scope)) → if_there (option_map takes_all z) ≡ true
  parts None scope stand z at f g = subst (λ (u : Option Statement). if_there (option_map takes_all u) ≡ true) (some_same at) refl
  parts (Some x) scope stand z at f g =
      let o = optional_there ((treed raw x.0).gives scope) z at in
      subst (λ (u : Option Statement). if_there (option_map takes_all u) ≡ true) o.1.1 (x.1 scope stand o.0 o.1.0 f g)

  for_is : (i step : Piece) (b : Statements) (l : ℕ) (a : RawExpr) (scope : Scope) (stand : Stand) (z : Statement)
      → tree_step raw (RawStatement-F.For l (option_map (treed raw) (bare_part i)) a (option_map (treed raw) (bare_part step)) (map (treed raw) (bare b))) scope ≡ Some z
      → (if_there (option_map labelled (bare_part i)) && (if_there (option_map labelled (bare_part step)) && are_labelled (bare b))) ≡ true
      → AreKept raw (phrases_step raw (RawStatement-F.For l (option_map (scoped raw) (bare_part i)) a (option_map (scoped raw) (bare_part step)) (map (scoped raw) (bare b))) scope stand)
      → IsTaken z
  for_is i step b l a scope stand z at f g =
      let start = opened (numbered scope) in
      let test = part_scope raw (bare_part i) scope in
      let inside = body_scope raw (bare_part i) (bare_part step) scope in
      let to_test = part_after raw (bare_part i) start in
      let to_body = ap (after_part (option_map (treed raw) (bare_part step))) to_test ∙ part_after raw (bare_part step) test in
      let p = then_there _ (part_tree (option_map (treed raw) (bare_part i)) start) z at in
      let q = then_there _ (expr_of raw (scope_of_test (option_map (treed raw) (bare_part i)) scope) a) z p.same in
      let r = both_there (t.For scope.statements l p.value q.value) _ _ z q.same in
      let f1 = and_parts (if_there (option_map labelled (bare_part i))) _ f in
      let f2 = and_parts (if_there (option_map labelled (bare_part step))) (are_labelled (bare b)) f1.1 in
      let first_phrases = at_stand InFor (part_gives (option_map (scoped raw) (bare_part i)) start) in
      let step_phrases = at_stand InBlock (part_gives (option_map (scoped raw) (bare_part step)) test) in
      let own_phrases = block_phrases (map (scoped raw) (bare b)) inside in
      let g2 = (kept_second raw first_phrases _ g).1 in
      subst IsTaken r.same
      (takes-For scope.statements l p.value q.value r.left r.right
      ∙ and_from (if_there (option_map takes_all p.value)) (if_there (option_map takes_all r.left) && all_true (map takes_all r.right)) (parts i start InFor p.value p.there f1.0 (kept_first raw first_phrases _ g))
      (and_from (if_there (option_map takes_all r.left)) (all_true (map takes_all r.right))
      (parts step test InBlock r.left (ap (part_tree (option_map (treed raw) (bare_part step))) (sym to_test) ∙ r.left_there) f2.0 (kept_first raw step_phrases own_phrases g2))
      (lists b (opened inside) InBlock r.right (ap (block_tree (map (treed raw) (bare b))) (sym to_body) ∙ r.right_there) f2.1 (kept_second raw step_phrases own_phrases g2))))

  abbrev Layer : Type 0
  Layer = RawStatement-F ((x : RawStatement) × Takes x) ((a : RawArm) × ArmTaken a)

  abbrev shape : Layer → RawStatement-F RawStatement RawArm
  shape = map-RawStatement ((x : RawStatement) × Takes x) ((a : RawArm) × ArmTaken a) RawStatement RawArm (λ x. x.0) (λ a. a.0)

  of_layer : (y : Layer) (scope : Scope) (stand : Stand) (z : Statement) → tree_step raw (trees (shape y)) scope ≡ Some z → labelled_step (label_tests (shape y)) ≡ true → AreKept raw (phrases_step raw (texts (shape y)) scope stand) → IsTaken z
  of_layer (RawStatement-F.Declare l v i) scope stand z at f g = always_is IsTaken _ z (always_map IsTaken _ _ (λ k. takes-Declare _ l scope.variables k)) at
  of_layer (RawStatement-F.Assign l a op b) scope stand z at f g = always_is IsTaken _ z (always_both IsTaken _ _ _ (λ u w. takes-Assign scope.statements l u op w)) at
  of_layer (RawStatement-F.Bump l a up before) scope stand z at f g = always_is IsTaken _ z (always_map IsTaken _ _ (λ u. takes-Bump scope.statements l u up before)) at
  of_layer (RawStatement-F.Call l to called args) scope stand z at f g =
      always_is IsTaken _ z (call_taken (with_target raw to scope) scope.statements l (target_tree raw scope to) called args) at
  of_layer (RawStatement-F.Heap l to cast n) scope stand z at f g =
      always_is IsTaken _ z (heap_taken scope.statements l (target_tree raw scope to) (ctype_if raw (option_map named_type cast)) (amount_tree raw (with_target raw to scope) n)) at
  of_layer (RawStatement-F.If l a x y) scope stand z at f g =
      let between = block_after raw (bare x) (numbered scope) in
      let m = then_there _ (expr_of raw scope a) z at in
      let o = both_there (t.If scope.statements l m.value) _ _ z m.same in
      let first_phrases = block_phrases (map (scoped raw) (bare x)) (numbered scope) in
      let rest = block_phrases (map (scoped raw) (bare y)) between in
      let w = and_parts (are_labelled (bare x)) (are_labelled (bare y)) f in
      subst IsTaken o.same
      (takes-If scope.statements l m.value o.left o.right
      ∙ and_from (all_true (map takes_all o.left)) (all_true (map takes_all o.right)) (lists x (opened (numbered scope)) InBlock o.left o.left_there w.0 (kept_first raw first_phrases rest g.1))
      (lists y (opened between) InBlock o.right (ap (block_tree (map (treed raw) (bare y))) (sym (block_after_same raw (bare x) (numbered scope))) ∙ o.right_there) w.1 (kept_second raw first_phrases rest g.1)))
  of_layer (RawStatement-F.While l a x) scope stand z at f g =
      let o = both_there (t.While scope.statements l) (expr_of raw scope a) _ z at in
      subst IsTaken o.same (takes-While scope.statements l o.left o.right ∙ lists x (opened (numbered scope)) InBlock o.right o.right_there f g.1)
  of_layer (RawStatement-F.Do l a x) scope stand z at f g =
      let o = both_there (t.Do scope.statements l) (expr_of raw scope a) _ z at in
      subst IsTaken o.same (takes-Do scope.statements l o.left o.right ∙ lists x (opened (numbered scope)) InBlock o.right o.right_there f g.1)
  of_layer (RawStatement-F.For l None a None b) scope stand z at f g = for_is None None b l a scope stand z at f g
  of_layer (RawStatement-F.For l None a (Some n) b) scope stand z at f g = for_is None (Some n) b l a scope stand z at f g
  of_layer (RawStatement-F.For l (Some i) a None b) scope stand z at f g = for_is (Some i) None b l a scope stand z at f g
  of_layer (RawStatement-F.For l (Some i) a (Some n) b) scope stand z at f g = for_is (Some i) (Some n) b l a scope stand z at f g
  of_layer (RawStatement-F.Switch l a arms) scope stand z at f g =
      let inside = opened (numbered scope) in
      let m = then_there _ (expr_of raw scope a) z at in
      let o = then_there _ (switch_type raw scope a) z m.same in
      let q = map_there (t.Switch scope.statements l m.value) (at_type o.value (in_order (map (treed_arm raw) (bare_arms arms)) inside)) z o.same in
      subst IsTaken q.same
      (takes-Switch scope.statements l m.value q.value
      ∙ arms_lists arms inside o.value [] q.value q.there f g.1 (labels_differ scope a (labels_of (in_order (map (scoped_of_arm raw) (bare_arms arms)) inside)) o.value o.there g.0))
  of_layer (RawStatement-F.Block l x) scope stand z at f g =
      let m = map_there (t.Block l) _ z at in
      subst IsTaken m.same (takes-Block l m.value ∙ lists x (opened scope) InBlock m.value m.there f g)
  of_layer (RawStatement-F.Return l a) scope stand z at f g = always_is IsTaken _ z (always_map IsTaken _ _ (λ u. takes-Return scope.statements l u)) at

  statement_layer : (y : Layer) → Takes (roll-RawStatement (shape y))
  statement_layer y scope stand z at f g =
      of_layer y scope stand z (sym (ap (λ (u : Scoped (Option Statement)). u.gives scope) (fold-roll-RawStatement (Scoped (Option Statement)) (Scoped ArmTree) (treed_step raw) (arm_tree_step raw) (shape y))) ∙ at) (sym (fold-roll-RawStatement Bool Bool labelled_step labelled_arm (shape y)) ∙ f)
      (subst (λ (u : Scoped (Stand → Phrases)). AreKept raw (u.gives scope stand)) (fold-roll-RawStatement (Scoped (Stand → Phrases)) (Scoped ArmText) (scoped_step raw) scoped_arm (shape y)) g)

  abbrev ArmLayer : Type 0
  ArmLayer = RawArm-F ((x : RawStatement) × Takes x) ((a : RawArm) × ArmTaken a)

  abbrev arm_shape : ArmLayer → RawArm-F RawStatement RawArm
  arm_shape = map-RawArm ((x : RawStatement) × Takes x) ((a : RawArm) × ArmTaken a) RawStatement RawArm (λ x. x.0) (λ a. a.0)

  arm_layer : (y : ArmLayer) → ArmTaken (roll-RawArm (arm_shape y))
  arm_layer y scope i z at f g =
      let tree_is = fold-roll-RawArm (Scoped (Option Statement)) (Scoped ArmTree) (treed_step raw) (arm_tree_step raw) (arm_shape y) in
      let text_is = fold-roll-RawArm (Scoped (Stand → Phrases)) (Scoped ArmText) (scoped_step raw) scoped_arm (arm_shape y) in
      let m = both_there arm_tree (collected (map (label_tree raw scope i) y.labels)) (collected (in_order (map (treed raw) (bare y.body)) scope)) z (sym (ap (λ (u : Scoped ArmTree). u.gives scope i) tree_is) ∙ at) in
      let w = and_parts (has_label y.labels) (are_labelled (bare y.body)) (sym (fold-roll-RawArm Bool Bool labelled_step labelled_arm (arm_shape y)) ∙ f) in
      let good = subst (λ (u : Scoped ArmText). AreKept raw (u.gives scope).phrases) text_is g in
      let inside : AreTaken m.right = lists y.body scope InArm m.right m.right_there w.1 good in
      record {
        labels = y.labels;
        given = m.left;
        own = ap (λ (u : Scoped ArmText). (u.gives scope).labels) text_is;
        some = w.0;
        tree = m.left_there;
        value = ap arm_takes (sym m.same) ∙ takes-arm m.left m.right ∙ ap (λ (b : Bool). record { labels = m.left; takes = b }) inside;
        after = ap (λ (u : Scoped ArmTree). u.after scope) tree_is ∙ list_after raw (bare y.body) scope ∙ sym (ap (λ (u : Scoped ArmText). u.after scope) text_is);
      }

  statement_taken : (x : RawStatement) → Takes x
  statement_taken = ind-RawStatement Takes ArmTaken (λ x y is. subst (λ z. Takes (roll-RawStatement z)) is (statement_layer y)) (λ x y is. subst (λ z. ArmTaken (roll-RawArm z)) is (arm_layer y))

  -- ---- functions

  body_taken : (xs : List RawStatement) (scope : Scope) (zs : List Statement) → body_of raw xs scope ≡ Some zs → are_labelled xs ≡ true → AreKept raw (body_phrases raw xs scope) → list_all takes_all zs ≡ true
  body_taken [] scope zs at f g = subst (λ (w : List Statement). list_all takes_all w ≡ true) (some_same at) refl
  body_taken (x ∷ xs) scope zs at f g =
      let next = (scoped raw x).after scope in
      let m = more_there ((treed raw x).gives scope) (in_order (map (treed raw) xs) ((treed raw x).after scope)) zs at in
      let w = and_parts (labelled x) (are_labelled xs) f in
      let own = (scoped raw x).gives scope InBlock in
      subst (λ (u : List Statement). list_all takes_all u ≡ true) m.same
      (and_from (takes_all m.first) (list_all takes_all m.rest) (statement_taken x scope InBlock m.first m.first_there w.0 (kept_first raw own (body_phrases raw xs next) g))
      (body_taken xs next m.rest (ap (λ (z : Scope). collected (in_order (map (treed raw) xs) z)) (sym (after_same raw x scope)) ∙ m.rest_there) w.1 (kept_second raw own (body_phrases raw xs next) g)))

  abbrev all_taken : List Function → Bool
  all_taken = list_all (λ (f : Function). list_all takes_all f.body)

  items_taken : (xs : List RawItem) (scope : Scope) (fs : List Function) → collected (functions_from raw xs scope) ≡ Some fs → AreLabelled xs → AreKept raw (items_phrases raw xs scope) → all_taken fs ≡ true
  items_taken [] scope fs at f g = subst (λ (w : List Function). all_taken w ≡ true) (some_same at) refl
  items_taken (Include b ∷ xs) scope fs at f g = items_taken xs scope fs at f.1 g
  items_taken (Tag l tag ∷ xs) scope fs at f g = items_taken xs scope fs at f.1 g.1
  items_taken (Struct l tag members ∷ xs) scope fs at f g =
      let next = after_item raw (Struct l tag members) scope in
      items_taken xs next fs at f.1 (kept_second raw (item_phrases raw (Struct l tag members) scope) (items_phrases raw xs next) g)
  items_taken (Global l v i is_static ∷ xs) scope fs at f g =
      let next = after_item raw (Global l v i is_static) scope in
      items_taken xs next fs at f.1 (kept_second raw (item_phrases raw (Global l v i is_static) scope) (items_phrases raw xs next) g)
  items_taken (Prototype l head ∷ xs) scope fs at f g =
      let next = after_item raw (Prototype l head) scope in
      items_taken xs next fs at f.1 (kept_second raw (item_phrases raw (Prototype l head) scope) (items_phrases raw xs next) g)
  items_taken (Define l head body ∷ xs) scope fs at f g =
      let next = after_item raw (Define l head body) scope in
      let inside = entered raw head scope in
      let m = more_there (function_tree raw l head body scope) (functions_from raw xs next) fs at in
      let d = function_made raw l head body scope m.first m.first_there in
      let whole = kept_first raw (item_phrases raw (Define l head body) scope) (items_phrases raw xs next) g in
      let own = kept_first raw (body_phrases raw body inside) _ (kept_second raw (head_phrases raw head.params _) _ whole.1) in
      subst (λ (w : List Function). all_taken w ≡ true) m.same
      (and_from (list_all takes_all m.first.body) (all_taken m.rest) (subst (λ (h : Function). list_all takes_all h.body ≡ true) (sym d.is) (body_taken body inside d.statements d.statements_there f.0 own))
      (items_taken xs next m.rest m.rest_there f.1 (kept_second raw (item_phrases raw (Define l head body) scope) (items_phrases raw xs next) g)))

-- in the program of any text of the grammar that keeps all rules each arm of a switch is taken
pub program_taken : (raw : RawProgram) (p : Program) → IsTree raw → HasProgram raw p → TakesAll p
program_taken raw p tree has =
    let items = then_there _ (trees_of.items_of raw) p has.program in
    let vars = then_there _ (trees_of.variables_of raw) p items.same in
    let rest = both_there _ (trees_of.structs_of raw) (trees_of.functions_of raw) p vars.same in
    subst TakesAll rest.same
    (items_taken raw raw.items outset rest.right rest.right_there (program_labelled raw (text_is_syntax raw tree)) (phrases_kept raw has.rules))

pub texts_taken : TextsTakeAll
texts_taken raw p tree has = program_taken raw p tree has
