-- A return stands nowhere else than at the end of its function: no other statement of a text has one in it.
use Rattle.std.proofs.Common.{◌≡◌, ℕ, List, [], ◌∷◌, ◌++◌, map, Bool, true, false, ◌&&◌, ◌⊎◌, inl, inr, Option, Some, None, option_map, option_and_then, bytes_eq, refl, sym, ap, subst, ◌∙◌}
use Rattle.std.specs.Prelude.{codes}
use Rattle.std.specs.List.{list_all}
use Rattle.std.proofs.lemmas.Bool.{and_parts, and_from}
use Rattle.c_arith.specs.declared.int_type.IntType.{IntType}
use Rattle.c_tree.specs.declared.types.CType.{CType}
use Rattle.c_tree.specs.declared.expr.Expr.{Expr}
use Rattle.c_tree.specs.declared.raw.expr.RawExpr.{RawExpr}
use Rattle.c_tree.specs.declared.raw.program.RawProgram.{RawProgram}
use Rattle.c_tree.specs.declared.raw.statement.RawArg.{RawArg}
use Rattle.c_tree.specs.declared.raw.statement.RawArm.{RawArm, roll-RawArm, map-RawArm, fold-roll-RawArm}
use Rattle.c_tree.specs.declared.raw.statement.RawStatement.{RawStatement, ind-RawStatement, roll-RawStatement, map-RawStatement, fold-roll-RawStatement}
use Rattle.c_tree.specs.declared.raw.statement.RawStatement.TheOpen.{RawStatement-F, RawArm-F}
use Rattle.c_tree.specs.declared.statement.Amount.{Amount}
use Rattle.c_tree.specs.declared.statement.Arm.{Arm}
use Rattle.c_tree.specs.declared.statement.Statement.{Statement}
use Rattle.c_tree.specs.declared.statement.Statement.TheVariants as s
use Rattle.c_tree.specs.declared.statement.Target.{Target}
use Rattle.c_language.specs.Words.{Bytes}
use Rattle.c_language.specs.Code.{Act, Returns, Tests}
use Rattle.c_language.specs.CallRules.{format_in, later_args}
use Rattle.c_language.specs.ConstantEvaluation.{both}
use Rattle.c_language.specs.DeclaredTypes.{function_id}
use Rattle.c_language.specs.Lists.{all_true}
use Rattle.c_language.specs.ProgramOf.{collected, optional, ctype_if, expr_of, init_of, declaration_id, target_tree, args_tree, only_tree, amount_tree, call_tree, label_tree, arm_tree, ArmTree, arm_tree_step, block_tree, at_type, switch_type, for_tree, treed_step, treed, body_of, treed_arm}
use Rattle.c_language.specs.Scopes.{Scope, Scoped, opened, numbered, with_variable, with_target, in_order, after_block}
use Rattle.c_language.specs.Syntax.{Position, takes_return, takes_compound, is_expr, is_label, is_there, all_inner, part_at, stands_step, arm_step, stands, is_arm, is_body}
use Rattle.c_language.specs.TypeGrammar.{named_type}
use Rattle.c_language.proofs.Lists.{all_append}
use Rattle.c_language.proofs.Options.{some_same, optional_there, map_there, then_there, both_there, more_there}
use Rattle.c_language.proofs.Tests.{false_true}
use Rattle.dep_model.proofs.Options.{Always, always_map, always_then, always_both, always_if, always_is}
use Rattle.dep_model.specs.Doings.{Doing, Does, Calls, doing_number, doings, body_doings}
use Rattle.dep_model.proofs.DoingForms.{arms_doings, part_doings, doings-Declare, doings-Assign, doings-Bump, doings-Invoke, doings-Fetch, doings-Write, doings-Print, doings-Heap, doings-Release, doings-Return, doings-If, doings-While, doings-Do, doings-Switch, doings-Block, doings-For}
use Rattle.dep_model.proofs.Membership.{IsIn, in_either}
use Rattle.dep_model.proofs.TextNumbers.{for_some}
use Rattle.hanging_sets.specs.Hanging.{EndsWith}

abbrev act_is_other : Act → Bool
act_is_other (Returns e) = false
act_is_other _ = true

-- it returns from no function
abbrev is_other : Doing → Bool
is_other (Does i a) = act_is_other a
is_other (Calls i to f args) = true

abbrev IsFree : List Doing → Type 0
IsFree ds = list_all is_other ds ≡ true

-- no return among what a statement does; or it is one, where one may stand
data Free (p : Position) (x : Statement) : Type 0 where
  other : IsFree (doings x) → Free p x
  lone : takes_return p ≡ true → (i l : ℕ) (e : Option Expr) → x ≡ s.Return i l e → Free p x

inner_free : (x : Statement) → Free Position.inner x → IsFree (doings x)
inner_free x (other h) = h
inner_free x (lone t i l e is) = false_true t

first_free : (x : Statement) → Free Position.first x → IsFree (doings x)
first_free x (other h) = h
first_free x (lone t i l e is) = false_true t

step_free : (x : Statement) → Free Position.step x → IsFree (doings x)
step_free x (other h) = h
step_free x (lone t i l e is) = false_true t

-- a statement of one act or call, or of a test and what it decides
acts : (x : Statement) (d : Doing) → doings x ≡ d ∷ [] → is_other d ≡ true → IsFree (doings x)
acts x d is h = subst IsFree (sym is) (and_from _ _ h refl)

behind : (x : Statement) (i : ℕ) (u : Expr) (ds : List Doing) → doings x ≡ Does i (Tests u) ∷ ds → IsFree ds → IsFree (doings x)
behind x i u ds is h = subst IsFree (sym is) h

module _ (raw : RawProgram) where
  abbrev IsFr : Statement → Type 0
  IsFr x = IsFree (doings x)

  call_free : (scope : Scope) (id l : ℕ) (t : Option Target) (f : Bytes) (args : List RawArg) → Always IsFr (call_tree raw scope id l t f args)
  call_free scope id l t f args =
      always_if IsFr (bytes_eq f (codes "getchar")) _ _ (always_map IsFr (s.Fetch id l) t (λ z. acts (s.Fetch id l z) _ (doings-Fetch id l z) refl))
      (always_if IsFr (bytes_eq f (codes "putchar")) _ _ (always_map IsFr (s.Write id l) (only_tree raw scope args) (λ e. acts (s.Write id l e) _ (doings-Write id l e) refl))
      (always_if IsFr (bytes_eq f (codes "printf")) _ _ (always_then IsFr _ (format_in args) (λ text. always_map IsFr (s.Print id l text) (args_tree raw scope (later_args args)) (λ es. acts (s.Print id l text es) _ (doings-Print id l text es) refl)))
      (always_if IsFr (bytes_eq f (codes "free")) _ _ (always_map IsFr (s.Release id l) (only_tree raw scope args) (λ e. acts (s.Release id l e) _ (doings-Release id l e) refl))
      (always_then IsFr _ t (λ z. always_both IsFr (s.Invoke id l z) (function_id raw f) (args_tree raw scope args) (λ g es. acts (s.Invoke id l z g es) _ (doings-Invoke id l z g es) refl))))))

  heap_free : (id l : ℕ) (t : Option Target) (c : Option (Option CType)) (n : Option Amount) → Always IsFr (option_and_then (λ (z : Target). option_and_then (λ (k : Option CType). option_map (s.Heap id l z k) n) c) t)
  heap_free id l t c n = always_then IsFr _ t (λ z. always_then IsFr _ c (λ k. always_map IsFr (s.Heap id l z k) n (λ m. acts (s.Heap id l z k m) _ (doings-Heap id l z k m) refl)))

  declare_free : (id : Option ℕ) (l x : ℕ) (i : Option _) → Always IsFr (option_map (s.Declare id l x) i)
  declare_free None l x i = always_map IsFr (s.Declare None l x) i (λ z. subst IsFree (sym (doings-Declare None l x z)) refl)
  declare_free (Some id) l x i = always_map IsFr (s.Declare (Some id) l x) i (λ z. acts (s.Declare (Some id) l x z) _ (doings-Declare (Some id) l x z) refl)

  -- ---- a statement in the tree, and where it may stand

  record Case (t : Scoped (Option Statement)) (v : Position → Bool) : Type 0 where
    free : (scope : Scope) (x : Statement) (p : Position) → v p ≡ true → t.gives scope ≡ Some x → Free p x

  record ArmCase (t : Scoped ArmTree) (b : Bool) : Type 0 where
    free : (scope : Scope) (i : IntType) (a : Arm) → b ≡ true → t.gives scope i ≡ Some a → IsFree (body_doings a.body)

  abbrev Known : Type 0
  Known = (one : RawStatement) × Case (treed raw one) (stands one)

  abbrev KnownArm : Type 0
  KnownArm = (a : RawArm) × ArmCase (treed_arm raw a) (is_arm a)

  abbrev layer_of : RawStatement-F Known KnownArm → RawStatement-F RawStatement RawArm
  layer_of = map-RawStatement Known KnownArm RawStatement RawArm (λ p. p.0) (λ p. p.0)

  abbrev arm_layer_of : RawArm-F Known KnownArm → RawArm-F RawStatement RawArm
  arm_layer_of = map-RawArm Known KnownArm RawStatement RawArm (λ p. p.0) (λ p. p.0)

  abbrev as_tree : RawStatement-F RawStatement RawArm → Scoped (Option Statement)
  as_tree y = treed_step raw (map-RawStatement RawStatement RawArm (Scoped (Option Statement)) (Scoped ArmTree) (treed raw) (treed_arm raw) y)

  abbrev as_stands : RawStatement-F RawStatement RawArm → Position → Bool
  as_stands y = stands_step (map-RawStatement RawStatement RawArm (Position → Bool) Bool stands is_arm y)

  abbrev as_arm_tree : RawArm-F RawStatement RawArm → Scoped ArmTree
  as_arm_tree y = arm_tree_step raw (map-RawArm RawStatement RawArm (Scoped (Option Statement)) (Scoped ArmTree) (treed raw) (treed_arm raw) y)

  abbrev as_arm : RawArm-F RawStatement RawArm → Bool
  as_arm y = arm_step (map-RawArm RawStatement RawArm (Position → Bool) Bool stands is_arm y)

  abbrev rows : List Known → List RawStatement
  rows ks = map (λ (p : Known). p.0) ks

  abbrev trees : List Known → List (Scoped (Option Statement))
  trees ks = map (treed raw) (rows ks)

  abbrev arm_rows : List KnownArm → List RawArm
  arm_rows ks = map (λ (p : KnownArm). p.0) ks

  abbrev arm_trees : List KnownArm → List (Scoped ArmTree)
  arm_trees ks = map (treed_arm raw) (arm_rows ks)

  list_free : (ks : List Known) (scope : Scope) (xs : List Statement) → all_inner (map stands (rows ks)) ≡ true → collected (in_order (trees ks) scope) ≡ Some xs → IsFree (body_doings xs)
  list_free [] scope xs h e = subst (λ (ys : List Statement). IsFree (body_doings ys)) (some_same e) refl
  list_free (k ∷ ks) scope xs h e =
      let next = (treed raw k.0).after scope in
      let z = more_there ((treed raw k.0).gives scope) (in_order (trees ks) next) xs e in
      let b = and_parts (stands k.0 Position.inner) (all_inner (map stands (rows ks))) h in
      subst (λ (ys : List Statement). IsFree (body_doings ys)) z.same
      (all_append is_other (doings z.first) (body_doings z.rest) (inner_free z.first (k.1.free scope z.first Position.inner b.0 z.first_there)) (list_free ks next z.rest b.1 z.rest_there))

  arms_free : (ks : List KnownArm) (scope : Scope) (i : IntType) (as_ : List Arm) → all_true (map is_arm (arm_rows ks)) ≡ true → at_type i (in_order (arm_trees ks) scope) ≡ Some as_ → IsFree (arms_doings as_)
  arms_free [] scope i as_ h e = subst (λ (ys : List Arm). IsFree (arms_doings ys)) (some_same e) refl
  arms_free (k ∷ ks) scope i as_ h e =
      let next = (treed_arm raw k.0).after scope in
      let z = more_there ((treed_arm raw k.0).gives scope i) (map (λ (a : ArmTree). a i) (in_order (arm_trees ks) next)) as_ e in
      let b = and_parts (is_arm k.0) (all_true (map is_arm (arm_rows ks))) h in
      subst (λ (ys : List Arm). IsFree (arms_doings ys)) z.same (all_append is_other (body_doings z.first.body) (arms_doings z.rest) (k.1.free scope i z.first b.0 z.first_there) (arms_free ks next i z.rest b.1 z.rest_there))

  -- ---- a for

  abbrev part_after : Option Known → Scope → Scope
  part_after None scope = scope
  part_after (Some k) scope = (treed raw k.0).after scope

  abbrev part_given : Option Known → Scope → Option (Option Statement)
  part_given None scope = Some None
  part_given (Some k) scope = optional (Some ((treed raw k.0).gives scope))

  abbrev part_stands : Option Known → Option (Position → Bool)
  part_stands None = None
  part_stands (Some k) = Some (stands k.0)

  part_free : (o : Option Known) (scope : Scope) (y : Option Statement) (p : Position) → ((x : Statement) → Free p x → IsFree (doings x)) → part_at p (part_stands o) ≡ true → part_given o scope ≡ Some y → IsFree (part_doings y)
  part_free None scope y p f h e = subst (λ (z : Option Statement). IsFree (part_doings z)) (some_same e) refl
  part_free (Some k) scope y p f h e =
      let w = optional_there ((treed raw k.0).gives scope) y e in
      subst (λ (z : Option Statement). IsFree (part_doings z)) w.1.1 (f w.0 (k.1.free scope w.0 p h w.1.0))

  for_free : (i j : Option Known) (l : ℕ) (test : RawExpr) (b : List Known) (scope : Scope) (x : Statement)
      → (part_at Position.first (part_stands i) && (is_expr test && (part_at Position.step (part_stands j) && all_inner (map stands (rows b))))) ≡ true
      → for_tree scope.statements l (part_given i (opened (numbered scope))) (expr_of raw (part_after i (opened (numbered scope))) test) (part_given j (part_after i (opened (numbered scope)))) (block_tree (trees b) (part_after j (part_after i (opened (numbered scope))))) ≡ Some x
      → IsFree (doings x)
  for_free i j l test b scope x h e =
      let start = opened (numbered scope) in
      let middle = part_after i start in
      let late = part_after j middle in
      let f = for_some scope.statements l (part_given i start) (expr_of raw middle test) (part_given j middle) (block_tree (trees b) late) x e in
      let h1 = and_parts (part_at Position.first (part_stands i)) (is_expr test && (part_at Position.step (part_stands j) && all_inner (map stands (rows b)))) h in
      let h2 = and_parts (is_expr test) (part_at Position.step (part_stands j) && all_inner (map stands (rows b))) h1.1 in
      let h3 = and_parts (part_at Position.step (part_stands j)) (all_inner (map stands (rows b))) h2.1 in
      behind x scope.statements f.1 (part_doings f.0 ++ (part_doings f.2 ++ body_doings f.3)) (ap doings f.8 ∙ doings-For scope.statements l f.0 f.1 f.2 f.3)
      (all_append is_other (part_doings f.0) (part_doings f.2 ++ body_doings f.3) (part_free i start f.0 Position.first first_free h1.0 f.4)
      (all_append is_other (part_doings f.2) (body_doings f.3) (part_free j middle f.2 Position.step step_free h3.0 f.6) (list_free b (opened late) f.3 h3.1 f.7)))

  -- ---- each form

  layer_case : (y : RawStatement-F Known KnownArm) → Case (as_tree (layer_of y)) (as_stands (layer_of y))
  layer_case (RawStatement-F.Declare l v i) = record { free = λ scope x p h e. other (always_is IsFr _ x (declare_free (declaration_id i scope.statements) l scope.variables (init_of raw (with_variable raw v i scope) i)) e) }
  layer_case (RawStatement-F.Assign l left op right) = record {
    free = λ scope x p h e.
        let m = both_there (λ (a b : Expr). s.Assign scope.statements l a op b) (expr_of raw scope left) (expr_of raw scope right) x e in
        other (subst IsFr m.same (acts (s.Assign scope.statements l m.left op m.right) _ (doings-Assign scope.statements l m.left op m.right) refl));
  }
  layer_case (RawStatement-F.Bump l left up before) = record {
    free = λ scope x p h e.
        let m = map_there (λ (a : Expr). s.Bump scope.statements l a up before) (expr_of raw scope left) x e in
        other (subst IsFr m.same (acts (s.Bump scope.statements l m.value up before) _ (doings-Bump scope.statements l m.value up before) refl));
  }
  layer_case (RawStatement-F.Call l to f args) = record { free = λ scope x p h e. other (always_is IsFr _ x (call_free (with_target raw to scope) scope.statements l (target_tree raw scope to) f args) e) }
  layer_case (RawStatement-F.Heap l to cast n) = record {
    free = λ scope x p h e. other (always_is IsFr _ x (heap_free scope.statements l (target_tree raw scope to) (ctype_if raw (option_map named_type cast)) (amount_tree raw (with_target raw to scope) n)) e);
  }
  layer_case (RawStatement-F.If l test a b) = record {
    free = λ scope x p h e.
        let start = opened (numbered scope) in
        let middle = after_block (trees a) (numbered scope) in
        let t = then_there (λ (z : Expr). both (s.If scope.statements l z) (block_tree (trees a) (numbered scope)) (block_tree (trees b) middle)) (expr_of raw scope test) x e in
        let m = both_there (s.If scope.statements l t.value) (block_tree (trees a) (numbered scope)) (block_tree (trees b) middle) x t.same in
        let h1 = (and_parts (takes_compound p) (is_expr test && (all_inner (map stands (rows a)) && all_inner (map stands (rows b)))) h).1 in
        let h2 = (and_parts (is_expr test) (all_inner (map stands (rows a)) && all_inner (map stands (rows b))) h1).1 in
        let h3 = and_parts (all_inner (map stands (rows a))) (all_inner (map stands (rows b))) h2 in
        other
        (behind x scope.statements t.value (body_doings m.left ++ body_doings m.right) (ap doings (sym m.same) ∙ doings-If scope.statements l t.value m.left m.right)
        (all_append is_other (body_doings m.left) (body_doings m.right) (list_free a start m.left h3.0 m.left_there) (list_free b (opened middle) m.right h3.1 m.right_there)));
  }
  layer_case (RawStatement-F.While l test b) = record {
    free = λ scope x p h e.
        let m = both_there (s.While scope.statements l) (expr_of raw scope test) (block_tree (trees b) (numbered scope)) x e in
        let h1 = (and_parts (takes_compound p) (is_expr test && all_inner (map stands (rows b))) h).1 in
        let h2 = (and_parts (is_expr test) (all_inner (map stands (rows b))) h1).1 in
        other (behind x scope.statements m.left (body_doings m.right) (ap doings (sym m.same) ∙ doings-While scope.statements l m.left m.right) (list_free b (opened (numbered scope)) m.right h2 m.right_there));
  }
  layer_case (RawStatement-F.Do l test b) = record {
    free = λ scope x p h e.
        let m = both_there (s.Do scope.statements l) (expr_of raw scope test) (block_tree (trees b) (numbered scope)) x e in
        let h1 = (and_parts (takes_compound p) (is_expr test && all_inner (map stands (rows b))) h).1 in
        let h2 = (and_parts (is_expr test) (all_inner (map stands (rows b))) h1).1 in
        other (behind x scope.statements m.left (body_doings m.right) (ap doings (sym m.same) ∙ doings-Do scope.statements l m.left m.right) (list_free b (opened (numbered scope)) m.right h2 m.right_there));
  }
  layer_case (RawStatement-F.For l None test None b) = record { free = λ scope x p h e. other (for_free None None l test b scope x (and_parts (takes_compound p) _ h).1 e) }
  layer_case (RawStatement-F.For l None test (Some j) b) = record { free = λ scope x p h e. other (for_free None (Some j) l test b scope x (and_parts (takes_compound p) _ h).1 e) }
  layer_case (RawStatement-F.For l (Some i) test None b) = record { free = λ scope x p h e. other (for_free (Some i) None l test b scope x (and_parts (takes_compound p) _ h).1 e) }
  layer_case (RawStatement-F.For l (Some i) test (Some j) b) = record { free = λ scope x p h e. other (for_free (Some i) (Some j) l test b scope x (and_parts (takes_compound p) _ h).1 e) }
  layer_case (RawStatement-F.Switch l test arms) = record {
    free = λ scope x p h e.
        let start = opened (numbered scope) in
        let t = then_there (λ (z : Expr). option_and_then (λ (i : IntType). option_map (s.Switch scope.statements l z) (at_type i (in_order (arm_trees arms) start))) (switch_type raw scope test)) (expr_of raw scope test) x e in
        let u = then_there (λ (i : IntType). option_map (s.Switch scope.statements l t.value) (at_type i (in_order (arm_trees arms) start))) (switch_type raw scope test) x t.same in
        let m = map_there (s.Switch scope.statements l t.value) (at_type u.value (in_order (arm_trees arms) start)) x u.same in
        let h1 = (and_parts (takes_compound p) (is_expr test && all_true (map is_arm (arm_rows arms))) h).1 in
        let h2 = (and_parts (is_expr test) (all_true (map is_arm (arm_rows arms))) h1).1 in
        other (behind x scope.statements t.value (arms_doings m.value) (ap doings (sym m.same) ∙ doings-Switch scope.statements l t.value m.value) (arms_free arms start u.value m.value h2 m.there));
  }
  layer_case (RawStatement-F.Block l b) = record {
    free = λ scope x p h e.
        let m = map_there (s.Block l) (block_tree (trees b) scope) x e in
        other (subst IsFree (sym (ap doings (sym m.same) ∙ doings-Block l m.value)) (list_free b (opened scope) m.value (and_parts (takes_compound p) _ h).1 m.there));
  }
  layer_case (RawStatement-F.Return l a) = record {
    free = λ scope x p h e.
        let m = map_there (s.Return scope.statements l) (optional (option_map (expr_of raw scope) a)) x e in
        lone (and_parts (takes_return p) _ h).0 scope.statements l m.value (sym m.same);
  }

  arm_case : (y : RawArm-F Known KnownArm) → ArmCase (as_arm_tree (arm_layer_of y)) (as_arm (arm_layer_of y))
  arm_case y = record {
    free = λ scope i a h e.
        let z = both_there arm_tree (collected (map (label_tree raw scope i) y.labels)) (collected (in_order (trees y.body) scope)) a e in
        let h1 = (and_parts (is_there y.labels) (list_all is_label y.labels && all_inner (map stands (rows y.body))) h).1 in
        let h2 = (and_parts (list_all is_label y.labels) (all_inner (map stands (rows y.body))) h1).1 in
        subst (λ (w : Arm). IsFree (body_doings w.body)) z.same (list_free y.body scope z.right h2 z.right_there);
  }

  statement_case : (one : RawStatement) → Case (treed raw one) (stands one)
  statement_case =
      ind-RawStatement (λ one. Case (treed raw one) (stands one)) (λ a. ArmCase (treed_arm raw a) (is_arm a))
      (λ z y is. subst (λ w. Case (treed raw (roll-RawStatement w)) (stands (roll-RawStatement w))) is
      (subst (λ t. Case t (stands (roll-RawStatement (layer_of y)))) (sym (fold-roll-RawStatement (Scoped (Option Statement)) (Scoped ArmTree) (treed_step raw) (arm_tree_step raw) (layer_of y)))
      (subst (λ w. Case (as_tree (layer_of y)) w) (sym (fold-roll-RawStatement (Position → Bool) Bool stands_step arm_step (layer_of y))) (layer_case y))))
      (λ z y is. subst (λ w. ArmCase (treed_arm raw (roll-RawArm w)) (is_arm (roll-RawArm w))) is
      (subst (λ t. ArmCase t (is_arm (roll-RawArm (arm_layer_of y)))) (sym (fold-roll-RawArm (Scoped (Option Statement)) (Scoped ArmTree) (treed_step raw) (arm_tree_step raw) (arm_layer_of y)))
      (subst (λ w. ArmCase (as_arm_tree (arm_layer_of y)) w) (sym (fold-roll-RawArm (Position → Bool) Bool stands_step arm_step (arm_layer_of y))) (arm_case y))))

  -- ---- a body

  no_return : {A : Type 0} (ds : List Doing) (i : ℕ) (e : Option Expr) → IsFree ds → IsIn ds (Does i (Returns e)) → A
  no_return [] i e h m = absurd m
  no_return (d ∷ ds) i e h (inl q) = false_true (sym (ap is_other q) ∙ (and_parts (is_other d) (list_all is_other ds) h).0)
  no_return (d ∷ ds) i e h (inr m) = no_return ds i e (and_parts (is_other d) (list_all is_other ds) h).1 m

  -- the act of a return
  abbrev value_of : Doing → Option (Option Expr)
  value_of (Does i (Returns e)) = Some e
  value_of _ = None

  one_last : (x : Statement) (i : ℕ) (e : Option Expr) → Free Position.final x → IsIn (doings x) (Does i (Returns e)) → EndsWith i e (x ∷ [])
  one_last x i e (other h) m = no_return (doings x) i e h m
  one_last x i e (lone t j l d is) m = by_one (subst (λ (ds : List Doing). IsIn ds (Does i (Returns e))) (ap doings is ∙ doings-Return j l d) m)
    where
      by_one : IsIn (Does j (Returns d) ∷ []) (Does i (Returns e)) → EndsWith i e (x ∷ [])
      by_one (inl q) =
          let number : j ≡ i = ap doing_number q in
          let value : d ≡ e = some_same (ap value_of q) in
          (l, is ∙ ap (λ (n : ℕ). s.Return n l d) number ∙ ap (λ (v : Option Expr). s.Return i l v) value)
      by_one (inr n) = absurd n

  -- each return in a body is what the body ends with
  pub body_last : (xs : List RawStatement) (scope : Scope) (zs : List Statement) → is_body xs ≡ true → body_of raw xs scope ≡ Some zs → (i : ℕ) (e : Option Expr) → IsIn (body_doings zs) (Does i (Returns e)) → EndsWith i e zs
  body_last [] scope zs h at i e m = absurd (subst (λ (ys : List Statement). IsIn (body_doings ys) (Does i (Returns e))) (sym (some_same at)) m)
  body_last (x ∷ []) scope zs h at i e m =
      let z = more_there ((treed raw x).gives scope) [] zs at in
      let only : z.first ∷ [] ≡ zs = ap (λ (ys : List Statement). z.first ∷ ys) (some_same z.rest_there) ∙ z.same in
      subst (EndsWith i e) only (by_place z.first ((statement_case x).free scope z.first Position.final h z.first_there) (in_either (doings z.first) [] (Does i (Returns e)) (subst (λ (ys : List Statement). IsIn (body_doings ys) (Does i (Returns e))) (sym only) m)))
    where
      by_place : (y : Statement) → Free Position.final y → IsIn (doings y) (Does i (Returns e)) ⊎ IsIn [] (Does i (Returns e)) → EndsWith i e (y ∷ [])
      by_place y f (inl n) = one_last y i e f n
      by_place y f (inr n) = absurd n
  body_last (x ∷ (y ∷ rest)) scope zs h at i e m =
      let next = (treed raw x).after scope in
      let b = and_parts (stands x Position.inner) (is_body (y ∷ rest)) h in
      let z = more_there ((treed raw x).gives scope) (in_order (map (treed raw) (y ∷ rest)) next) zs at in
      let free = inner_free z.first ((statement_case x).free scope z.first Position.inner b.0 z.first_there) in
      subst (EndsWith i e) z.same
      (by_place z.first z.rest free (λ n. body_last (y ∷ rest) next z.rest b.1 z.rest_there i e n) (in_either (doings z.first) (body_doings z.rest) (Does i (Returns e)) (subst (λ (ys : List Statement). IsIn (body_doings ys) (Does i (Returns e))) (sym z.same) m)))
    where
      later : (y : Statement) (ys : List Statement) → EndsWith i e ys → EndsWith i e (y ∷ ys)
      later y [] k = absurd k
      later y (z ∷ ys) k = k

      by_place : (y : Statement) (ys : List Statement) → IsFree (doings y) → (IsIn (body_doings ys) (Does i (Returns e)) → EndsWith i e ys) → IsIn (doings y) (Does i (Returns e)) ⊎ IsIn (body_doings ys) (Does i (Returns e)) → EndsWith i e (y ∷ ys)
      by_place y ys free more (inl n) = no_return (doings y) i e free n
      by_place y ys free more (inr n) = later y ys (more n)
