-- The statements of a text name variables that were declared before their end.
use Rattle.std.proofs.Common.{◌≡◌, ℕ, ◌+◌, ◌<◌, ◌≤◌, List, [], ◌∷◌, ◌++◌, map, Bool, true, Option, Some, None, option_map, option_and_then, refl, sym, ap, subst, ◌∙◌, arith, lt-ltb}
use Rattle.std.specs.Prelude.{bytes_eq, codes}
use Rattle.std.specs.List.{list_all}
use Rattle.std.proofs.lemmas.Bool.{and_from}
use Rattle.dep_model.proofs.TextNumbers.{for_some}
use Rattle.c_arith.specs.declared.int_type.IntType.{IntType}
use Rattle.c_tree.specs.declared.types.CType.{CType}
use Rattle.c_tree.specs.declared.expr.Expr.{Expr}
use Rattle.c_tree.specs.declared.program.Init.TheVariants as begins
use Rattle.c_tree.specs.declared.raw.expr.RawExpr.{RawExpr}
use Rattle.c_tree.specs.declared.raw.program.RawInit.{RawInit}
use Rattle.c_tree.specs.declared.raw.program.RawInit.TheVariants as init
use Rattle.c_tree.specs.declared.raw.program.RawProgram.{RawProgram}
use Rattle.c_tree.specs.declared.raw.statement.RawAmount.{RawAmount}
use Rattle.c_tree.specs.declared.raw.statement.RawAmount.TheVariants as amount
use Rattle.c_tree.specs.declared.raw.statement.RawArg.{RawArg}
use Rattle.c_tree.specs.declared.raw.statement.RawArg.TheVariants as arg
use Rattle.c_tree.specs.declared.raw.statement.RawArm.{RawArm, roll-RawArm, map-RawArm, fold-roll-RawArm}
use Rattle.c_tree.specs.declared.raw.statement.RawSize.{RawSize}
use Rattle.c_tree.specs.declared.raw.statement.RawSize.TheVariants as sizes
use Rattle.c_tree.specs.declared.raw.statement.RawStatement.{RawStatement, ind-RawStatement, roll-RawStatement, map-RawStatement, fold-roll-RawStatement}
use Rattle.c_tree.specs.declared.raw.statement.RawStatement.TheOpen.{RawStatement-F, RawArm-F}
use Rattle.c_tree.specs.declared.raw.statement.RawTarget.{RawTarget}
use Rattle.c_tree.specs.declared.raw.statement.RawTarget.TheVariants as target
use Rattle.c_tree.specs.declared.statement.Amount.TheVariants as quantity
use Rattle.c_tree.specs.declared.statement.Arm.{Arm}
use Rattle.c_tree.specs.declared.statement.Size.TheVariants as measure
use Rattle.c_tree.specs.declared.statement.Statement.{Statement}
use Rattle.c_tree.specs.declared.statement.Statement.TheVariants as s
use Rattle.c_tree.specs.declared.statement.Target.{Target}
use Rattle.c_tree.specs.declared.statement.Target.TheVariants as to_place
use Rattle.c_language.specs.Words.{Bytes}
use Rattle.c_language.specs.Code.{Tests}
use Rattle.c_language.specs.CallRules.{format_in, later_args, only_arg}
use Rattle.c_language.specs.ConstantEvaluation.{both}
use Rattle.c_language.specs.DeclaredTypes.{function_id}
use Rattle.c_language.specs.ProgramOf.{variable_number, collected, optional, ctype, ctype_if, expr_of, exprs_of, init_of, declaration_id, target_tree, arg_tree, args_tree, only_tree, size_tree, amount_tree, call_tree, label_tree, arm_tree, ArmTree, arm_tree_step, block_tree, at_type, switch_type, for_tree, treed_step, treed, body_of, treed_arm}
use Rattle.c_language.specs.Scopes.{Entry, Scope, Meaning, meaning_in, Scoped, opened, closed, numbered, with_variable, with_target, begun, in_order, after_all, after_block}
use Rattle.c_language.specs.TypeGrammar.{named_type}
use Rattle.c_language.proofs.Lists.{all_append}
use Rattle.c_language.proofs.Options.{some_same, optional_there, map_there, then_there, both_there, more_there}
use Rattle.dep_model.specs.NamesBelow.{names_below}
use Rattle.dep_model.proofs.Options.{Always, always_map, always_if, always_is}
use Rattle.dep_model.specs.Doings.{Doing, Does, doings, body_doings}
use Rattle.dep_model.specs.DoingNames.{value_below, init_below, target_below, size_below, amount_below, doing_below}
use Rattle.dep_model.proofs.DoingForms.{arms_doings, part_doings, doings-Declare, doings-Assign, doings-Bump, doings-Invoke, doings-Fetch, doings-Write, doings-Print, doings-Heap, doings-Release, doings-Return, doings-If, doings-While, doings-Do, doings-Switch, doings-Block, doings-For}
use Rattle.dep_model.proofs.NamesBelow.{names_more}
use Rattle.numbered_texts.proofs.Terms.{IsLowMeaning, AreLow, names_low, expr_below}

-- ---- names in scope

higher : (n m : ℕ) (x : Meaning) → n ≤ m → IsLowMeaning n x → IsLowMeaning m x
higher n m (Meaning.Variable id t) le h = omega (arith, h, le)
higher n m Meaning.Function le h = tt

pub low_more : (n m : ℕ) (es : List Entry) → n ≤ m → AreLow n es → AreLow m es
low_more n m [] le h = tt
low_more n m (e ∷ es) le h = (higher n m e.meaning le h.0, low_more n m es le h.1)

pub low_push : (n : ℕ) (es : List Entry) (e : Entry) → AreLow n es → IsLowMeaning n e.meaning → AreLow n (es ++ e ∷ [])
low_push n [] e h k = (k, tt)
low_push n (x ∷ es) e h k = (h.0, low_push n es e h.1 k)

-- ---- values that are there

map_from : {A B : Type 0} (P : A → Type 0) (Q : B → Type 0) (f : A → B) (o : Option A) → Always P o → ((x : A) → P x → Q (f x)) → Always Q (option_map f o)
map_from P Q f None h k = tt
map_from P Q f (Some x) h k = k x h

both_from : {A B C : Type 0} (P : A → Type 0) (R : B → Type 0) (Q : C → Type 0) (f : A → B → C) (a : Option A) (b : Option B) → Always P a → Always R b → ((x : A) (y : B) → P x → R y → Q (f x y)) → Always Q (both f a b)
both_from P R Q f None b h k g = tt
both_from P R Q f (Some x) None h k g = tt
both_from P R Q f (Some x) (Some y) h k g = g x y h k

then_from : {A B : Type 0} (P : A → Type 0) (Q : B → Type 0) (f : A → Option B) (o : Option A) → Always P o → ((x : A) → P x → Always Q (f x)) → Always Q (option_and_then f o)
then_from P Q f None h k = tt
then_from P Q f (Some x) h k = k x h

always_any : {A : Type 0} (o : Option A) → Always (λ (x : A). Unit {0}) o
always_any None = tt
always_any (Some x) = tt

-- each of some values passes a test
all_from : {A B : Type 0} (q : B → Bool) (f : A → Option B) (xs : List A) → ((x : A) → Always (λ y. q y ≡ true) (f x)) → Always (λ ys. list_all q ys ≡ true) (collected (map f xs))
all_from q f [] h = refl
all_from q f (x ∷ xs) h = then_from (λ y. q y ≡ true) (λ ys. list_all q ys ≡ true) (λ y. option_map (λ ys. y ∷ ys) (collected (map f xs))) (f x) (h x) (λ y k. map_from (λ ys. list_all q ys ≡ true) (λ ys. list_all q ys ≡ true) (λ ys. y ∷ ys) (collected (map f xs)) (all_from q f xs h) (λ ys r. and_from _ _ k r))

module _ (raw : RawProgram) where
  -- ---- what is named below m

  module _ (scope : Scope) (low : AreLow scope.variables scope.names) (m : ℕ) (le : scope.variables ≤ m) where
    abbrev IsLowExpr : Expr → Type 0
    IsLowExpr e = names_below m e ≡ true

    expr_low : (a : RawExpr) → Always IsLowExpr (expr_of raw scope a)
    expr_low a = by_value (expr_of raw scope a) refl
      where
        by_value : (o : Option Expr) → expr_of raw scope a ≡ o → Always IsLowExpr o
        by_value None is = tt
        by_value (Some e) is = names_more scope.variables m le e (expr_below raw scope scope.variables (names_low scope.variables scope low) a e is)

    exprs_low : (es : List RawExpr) → Always (λ xs. list_all (names_below m) xs ≡ true) (exprs_of raw scope es)
    exprs_low es = all_from (names_below m) (expr_of raw scope) es expr_low

    arg_low : (a : RawArg) → Always IsLowExpr (arg_tree raw scope a)
    arg_low (arg.Value a) = expr_low a
    arg_low (arg.Literal text) = tt

    args_low : (es : List RawArg) → Always (λ xs. list_all (names_below m) xs ≡ true) (args_tree raw scope es)
    args_low es = all_from (names_below m) (arg_tree raw scope) es arg_low

    only_low : (es : List RawArg) → Always IsLowExpr (only_tree raw scope es)
    only_low es = then_from (λ a. Unit {0}) IsLowExpr (expr_of raw scope) (only_arg es) (always_any (only_arg es)) (λ a h. expr_low a)

    init_low : (i : RawInit) → Always (λ n. init_below m n ≡ true) (init_of raw scope i)
    init_low init.None = refl
    init_low (init.One a) = map_from IsLowExpr (λ n. init_below m n ≡ true) begins.One (expr_of raw scope a) (expr_low a) (λ e h. h)
    init_low (init.Items es) = map_from (λ xs. list_all (names_below m) xs ≡ true) (λ n. init_below m n ≡ true) begins.Items (exprs_of raw scope es) (exprs_low es) (λ xs h. h)

    size_low : (k : RawSize) → Always (λ z. size_below m z ≡ true) (size_tree raw scope k)
    size_low (sizes.Type t) = always_map (λ z. size_below m z ≡ true) measure.Type (ctype raw (named_type t)) (λ z. refl)
    size_low (sizes.Pointee name closed) = by_meaning (meaning_in scope name) refl
      where
        by_meaning : (o : Option Meaning) → meaning_in scope name ≡ o → Always (λ z. size_below m z ≡ true) (option_map (λ (x : ℕ). measure.Pointee x closed) (variable_number o))
        by_meaning None is = tt
        by_meaning (Some Meaning.Function) is = tt
        by_meaning (Some (Meaning.Variable id t)) is =
            let h : id < scope.variables = names_low scope.variables scope low name id t is in
            lt-ltb id m (omega (arith, h, le))

    amount_low : (n : RawAmount) → Always (λ k. amount_below m k ≡ true) (amount_tree raw scope n)
    amount_low (amount.Size k) = map_from (λ z. size_below m z ≡ true) (λ z. amount_below m z ≡ true) quantity.Size (size_tree raw scope k) (size_low k) (λ z h. h)
    amount_low (amount.CountSize a k) = then_from IsLowExpr (λ z. amount_below m z ≡ true) _ (expr_of raw scope a) (expr_low a) (λ e h. map_from (λ z. size_below m z ≡ true) (λ z. amount_below m z ≡ true) (quantity.CountSize e) (size_tree raw scope k) (size_low k) (λ z t. and_from _ _ h t))
    amount_low (amount.SizeCount k a) = then_from (λ z. size_below m z ≡ true) (λ z. amount_below m z ≡ true) _ (size_tree raw scope k) (size_low k) (λ z t. map_from IsLowExpr (λ y. amount_below m y ≡ true) (quantity.SizeCount z) (expr_of raw scope a) (expr_low a) (λ e h. and_from _ _ t h))
    amount_low (amount.Count a) = map_from IsLowExpr (λ z. amount_below m z ≡ true) quantity.Count (expr_of raw scope a) (expr_low a) (λ e h. h)

    value_low : (a : Option RawExpr) → Always (λ v. value_below m v ≡ true) (optional (option_map (expr_of raw scope) a))
    value_low None = refl
    value_low (Some a) = by_value (expr_of raw scope a) (expr_low a)
      where
        by_value : (o : Option Expr) → Always IsLowExpr o → Always (λ v. value_below m v ≡ true) (optional (Some o))
        by_value None h = tt
        by_value (Some e) h = h

    -- behind a target: a variable that it declares is the next one
    target_low : (to : RawTarget) → (with_target raw to scope).variables ≤ m → Always (λ t. target_below m t ≡ true) (target_tree raw scope to)
    target_low target.None h = refl
    target_low (target.Place a) h = map_from IsLowExpr (λ t. target_below m t ≡ true) to_place.Place (expr_of raw scope a) (expr_low a) (λ e k. k)
    target_low (target.Declared v) h = lt-ltb scope.variables m (omega (arith, h))

  -- ---- statements

  -- what a part of a text does to scopes
  pub record Grows (after : Scope → Scope) : Type 0 where
    pub more : (scope : Scope) → scope.variables ≤ (after scope).variables
    pub low : (scope : Scope) → AreLow scope.variables scope.names → AreLow (after scope).variables (after scope).names

  abbrev IsBelow : ℕ → Statement → Type 0
  IsBelow m x = list_all (doing_below m) (doings x) ≡ true

  pub record Case (t : Scoped (Option Statement)) : Type 0 where
    pub grows : Grows t.after
    pub below : (scope : Scope) (x : Statement) → AreLow scope.variables scope.names → t.gives scope ≡ Some x → (m : ℕ) → (t.after scope).variables ≤ m → IsBelow m x

  pub record ArmCase (t : Scoped ArmTree) : Type 0 where
    pub grows : Grows t.after
    pub below : (scope : Scope) (k : IntType) (a : Arm) → AreLow scope.variables scope.names → t.gives scope k ≡ Some a → (m : ℕ) → (t.after scope).variables ≤ m → list_all (doing_below m) (body_doings a.body) ≡ true

  abbrev Known : Type 0
  Known = (one : RawStatement) × Case (treed raw one)

  abbrev KnownArm : Type 0
  KnownArm = (a : RawArm) × ArmCase (treed_arm raw a)

  abbrev layer_of : RawStatement-F Known KnownArm → RawStatement-F RawStatement RawArm
  layer_of = map-RawStatement Known KnownArm RawStatement RawArm (λ p. p.0) (λ p. p.0)

  abbrev arm_layer_of : RawArm-F Known KnownArm → RawArm-F RawStatement RawArm
  arm_layer_of = map-RawArm Known KnownArm RawStatement RawArm (λ p. p.0) (λ p. p.0)

  abbrev as_tree : RawStatement-F RawStatement RawArm → Scoped (Option Statement)
  as_tree y = treed_step raw (map-RawStatement RawStatement RawArm (Scoped (Option Statement)) (Scoped ArmTree) (treed raw) (treed_arm raw) y)

  abbrev as_arm : RawArm-F RawStatement RawArm → Scoped ArmTree
  as_arm y = arm_tree_step raw (map-RawArm RawStatement RawArm (Scoped (Option Statement)) (Scoped ArmTree) (treed raw) (treed_arm raw) y)

  abbrev trees : List Known → List (Scoped (Option Statement))
  trees ks = map (treed raw) (map (λ (p : Known). p.0) ks)

  abbrev arm_trees : List KnownArm → List (Scoped ArmTree)
  arm_trees ks = map (treed_arm raw) (map (λ (p : KnownArm). p.0) ks)

  -- ---- scopes

  pub same_grows : Grows (λ scope. scope)
  same_grows = record { more = λ scope. omega arith; low = λ scope h. h }

  pub then_grows : (f g : Scope → Scope) → Grows f → Grows g → Grows (λ scope. g (f scope))
  then_grows f g a b = record {
    more = λ scope. omega (arith, a.more scope, b.more (f scope));
    low = λ scope h. b.low (f scope) (a.low scope h);
  }

  list_grows : (ks : List Known) → Grows (after_all (trees ks))
  list_grows [] = same_grows
  list_grows (k ∷ ks) = then_grows (treed raw k.0).after (after_all (trees ks)) k.1.grows (list_grows ks)

  arms_grow : (ks : List KnownArm) → Grows (after_all (arm_trees ks))
  arms_grow [] = same_grows
  arms_grow (k ∷ ks) = then_grows (treed_arm raw k.0).after (after_all (arm_trees ks)) k.1.grows (arms_grow ks)

  -- names of a block are gone behind it
  closed_grows : (f : Scope → Scope) → Grows f → Grows (λ scope. closed scope (f scope))
  closed_grows f h = record {
    more = h.more;
    low = λ scope k. low_more scope.variables (f scope).variables scope.names (h.more scope) k;
  }

  opened_grows : (f : Scope → Scope) → Grows f → Grows (λ scope. f (opened scope))
  opened_grows f h = record { more = λ scope. h.more (opened scope); low = λ scope k. h.low (opened scope) k }

  numbered_grows : (f : Scope → Scope) → Grows f → Grows (λ scope. f (numbered scope))
  numbered_grows f h = record { more = λ scope. h.more (numbered scope); low = λ scope k. h.low (numbered scope) k }

  block_grows : (ks : List Known) → Grows (after_block (trees ks))
  block_grows ks = closed_grows (λ scope. after_all (trees ks) (opened scope)) (opened_grows (after_all (trees ks)) (list_grows ks))

  arms_block_grows : (ks : List KnownArm) → Grows (after_block (arm_trees ks))
  arms_block_grows ks = closed_grows (λ scope. after_all (arm_trees ks) (opened scope)) (opened_grows (after_all (arm_trees ks)) (arms_grow ks))

  -- ---- a list, and a part of a for

  list_below : (ks : List Known) (scope : Scope) (xs : List Statement) → AreLow scope.variables scope.names → collected (in_order (trees ks) scope) ≡ Some xs → (m : ℕ) → (after_all (trees ks) scope).variables ≤ m → list_all (doing_below m) (body_doings xs) ≡ true
  list_below [] scope xs low e m le = subst (λ ys. list_all (doing_below m) (body_doings ys) ≡ true) (some_same e) refl
  list_below (k ∷ ks) scope xs low e m le =
      let t = treed raw k.0 in
      let z = more_there (t.gives scope) (in_order (trees ks) (t.after scope)) xs e in
      let more : (t.after scope).variables ≤ (after_all (trees ks) (t.after scope)).variables = (list_grows ks).more (t.after scope) in
      subst (λ ys. list_all (doing_below m) (body_doings ys) ≡ true) z.same
      (all_append (doing_below m) (doings z.first) (body_doings z.rest) (k.1.below scope z.first low z.first_there m (omega (arith, more, le))) (list_below ks (t.after scope) z.rest (k.1.grows.low scope low) z.rest_there m le))

  arms_below : (ks : List KnownArm) (scope : Scope) (i : IntType) (as_ : List Arm) → AreLow scope.variables scope.names → at_type i (in_order (arm_trees ks) scope) ≡ Some as_ → (m : ℕ) → (after_all (arm_trees ks) scope).variables ≤ m → list_all (doing_below m) (arms_doings as_) ≡ true
  arms_below [] scope i as_ low e m le = subst (λ ys. list_all (doing_below m) (arms_doings ys) ≡ true) (some_same e) refl
  arms_below (k ∷ ks) scope i as_ low e m le =
      let t = treed_arm raw k.0 in
      let z = more_there (t.gives scope i) (map (λ (a : ArmTree). a i) (in_order (arm_trees ks) (t.after scope))) as_ e in
      let more : (t.after scope).variables ≤ (after_all (arm_trees ks) (t.after scope)).variables = (arms_grow ks).more (t.after scope) in
      subst (λ ys. list_all (doing_below m) (arms_doings ys) ≡ true) z.same
      (all_append (doing_below m) (body_doings z.first.body) (arms_doings z.rest) (k.1.below scope i z.first low z.first_there m (omega (arith, more, le))) (arms_below ks (t.after scope) i z.rest (k.1.grows.low scope low) z.rest_there m le))

  -- a statement of one act, of a call, or of a test and what it decides
  acts : (x : Statement) (d : Doing) (m : ℕ) → doings x ≡ d ∷ [] → doing_below m d ≡ true → IsBelow m x
  acts x d m is h = subst (λ ds. list_all (doing_below m) ds ≡ true) (sym is) (and_from _ _ h refl)

  tested : (x : Statement) (id : ℕ) (e : Expr) (ds : List Doing) (m : ℕ) → doings x ≡ Does id (Tests e) ∷ ds → names_below m e ≡ true → list_all (doing_below m) ds ≡ true → IsBelow m x
  tested x id e ds m is h k = subst (λ es. list_all (doing_below m) es ≡ true) (sym is) (and_from _ _ h k)

  expr_is : (scope : Scope) (a : RawExpr) (e : Expr) (m : ℕ) → AreLow scope.variables scope.names → scope.variables ≤ m → expr_of raw scope a ≡ Some e → names_below m e ≡ true
  expr_is scope a e m low le is = always_is (λ z. names_below m z ≡ true) (expr_of raw scope a) e (expr_low scope low m le a) is

  -- ---- scopes behind declarations

  pub variable_grows : (v : _) (i : RawInit) → Grows (with_variable raw v i)
  variable_grows v i = record {
    more = λ scope. omega arith;
    low = λ scope h. low_push (scope.variables + 1) scope.names _ (low_more scope.variables (scope.variables + 1) scope.names (omega arith) h) (let lt : scope.variables < scope.variables + 1 = omega arith in lt);
  }

  begun_grows : (i : RawInit) → Grows (begun i)
  begun_grows init.None = same_grows
  begun_grows (init.One a) = numbered_grows (λ scope. scope) same_grows
  begun_grows (init.Items es) = numbered_grows (λ scope. scope) same_grows

  target_grows : (to : RawTarget) → Grows (with_target raw to)
  target_grows target.None = same_grows
  target_grows (target.Place a) = same_grows
  target_grows (target.Declared v) = variable_grows v init.None

  next_grows : Grows numbered
  next_grows = numbered_grows (λ scope. scope) same_grows

  -- ---- calls

  call_low : (scope : Scope) (to : RawTarget) (id l m : ℕ) (f : Bytes) (args : List RawArg) → AreLow scope.variables scope.names → (with_target raw to scope).variables ≤ m
      → Always (IsBelow m) (call_tree raw (with_target raw to scope) id l (target_tree raw scope to) f args)
  call_low scope to id l m f args low le =
      let inner = with_target raw to scope in
      let low_in : AreLow inner.variables inner.names = (target_grows to).low scope low in
      let le_out : scope.variables ≤ m = (let g = (target_grows to).more scope in omega (arith, g, le)) in
      let t_low = target_low scope low m le_out to le in
      let P : Statement → Type 0 = IsBelow m in
      always_if P (bytes_eq f (codes "getchar")) _ _ (map_from (λ t. target_below m t ≡ true) P (s.Fetch id l) (target_tree raw scope to) t_low (λ t h. acts (s.Fetch id l t) _ m (doings-Fetch id l t) h))
      (always_if P (bytes_eq f (codes "putchar")) _ _ (map_from (λ e. names_below m e ≡ true) P (s.Write id l) (only_tree raw inner args) (only_low inner low_in m le args) (λ e h. acts (s.Write id l e) _ m (doings-Write id l e) h))
      (always_if P (bytes_eq f (codes "printf")) _ _ (then_from (λ text. Unit {0}) P _ (format_in args) (always_any (format_in args)) (λ text h. map_from (λ es. list_all (names_below m) es ≡ true) P (s.Print id l text) (args_tree raw inner (later_args args)) (args_low inner low_in m le (later_args args)) (λ es k. acts (s.Print id l text es) _ m (doings-Print id l text es) k)))
      (always_if P (bytes_eq f (codes "free")) _ _ (map_from (λ e. names_below m e ≡ true) P (s.Release id l) (only_tree raw inner args) (only_low inner low_in m le args) (λ e h. acts (s.Release id l e) _ m (doings-Release id l e) h))
      (then_from (λ t. target_below m t ≡ true) P _ (target_tree raw scope to) t_low (λ t h. both_from (λ g. Unit {0}) (λ es. list_all (names_below m) es ≡ true) P (s.Invoke id l t) (function_id raw f) (args_tree raw inner args) (always_any (function_id raw f)) (args_low inner low_in m le args) (λ g es u k. acts (s.Invoke id l t g es) _ m (doings-Invoke id l t g es) (and_from _ _ h k)))))))

  heap_low : (scope : Scope) (to : RawTarget) (id l m : ℕ) (c : Option (Option CType)) (n : RawAmount) → AreLow scope.variables scope.names → (with_target raw to scope).variables ≤ m
      → Always (IsBelow m) (option_and_then (λ (t : Target). option_and_then (λ (k : Option CType). option_map (s.Heap id l t k) (amount_tree raw (with_target raw to scope) n)) c) (target_tree raw scope to))
  heap_low scope to id l m c n low le =
      let inner = with_target raw to scope in
      let low_in : AreLow inner.variables inner.names = (target_grows to).low scope low in
      let le_out : scope.variables ≤ m = (let g = (target_grows to).more scope in omega (arith, g, le)) in
      let P : Statement → Type 0 = IsBelow m in
      then_from (λ t. target_below m t ≡ true) P _ (target_tree raw scope to) (target_low scope low m le_out to le) (λ t h. then_from (λ k. Unit {0}) P _ c (always_any c) (λ k u. map_from (λ z. amount_below m z ≡ true) P (s.Heap id l t k) (amount_tree raw inner n) (amount_low inner low_in m le n) (λ z y. acts (s.Heap id l t k z) _ m (doings-Heap id l t k z) (and_from _ _ h y))))

  -- ---- forms

  declare_below : (scope : Scope) (low : AreLow scope.variables scope.names) (v : _) (l : ℕ) (i : RawInit) (x : Statement) (m : ℕ)
      → option_map (s.Declare (declaration_id i scope.statements) l scope.variables) (init_of raw (with_variable raw v i scope) i) ≡ Some x → (begun i (with_variable raw v i scope)).variables ≤ m → IsBelow m x
  declare_below scope low v l init.None x m e le =
      subst (IsBelow m) (some_same e) (subst (λ ds. list_all (doing_below m) ds ≡ true) (sym (doings-Declare None l scope.variables begins.None)) refl)
  declare_below scope low v l (init.One a) x m e le =
      let k = map_there (s.Declare (Some scope.statements) l scope.variables) (init_of raw (with_variable raw v (init.One a) scope) (init.One a)) x e in
      let h = always_is (λ n. init_below m n ≡ true) (init_of raw (with_variable raw v (init.One a) scope) (init.One a)) k.value (init_low (with_variable raw v (init.One a) scope) ((variable_grows v (init.One a)).low scope low) m le (init.One a)) k.there in
      subst (IsBelow m) k.same (acts (s.Declare (Some scope.statements) l scope.variables k.value) _ m (doings-Declare (Some scope.statements) l scope.variables k.value) (and_from _ _ (lt-ltb scope.variables m (omega (arith, le))) h))
  declare_below scope low v l (init.Items es) x m e le =
      let k = map_there (s.Declare (Some scope.statements) l scope.variables) (init_of raw (with_variable raw v (init.Items es) scope) (init.Items es)) x e in
      let h = always_is (λ n. init_below m n ≡ true) (init_of raw (with_variable raw v (init.Items es) scope) (init.Items es)) k.value (init_low (with_variable raw v (init.Items es) scope) ((variable_grows v (init.Items es)).low scope low) m le (init.Items es)) k.there in
      subst (IsBelow m) k.same (acts (s.Declare (Some scope.statements) l scope.variables k.value) _ m (doings-Declare (Some scope.statements) l scope.variables k.value) (and_from _ _ (lt-ltb scope.variables m (omega (arith, le))) h))

  -- a part of a for
  abbrev part_after : Option Known → Scope → Scope
  part_after None scope = scope
  part_after (Some k) scope = (treed raw k.0).after scope

  abbrev part_given : Option Known → Scope → Option (Option Statement)
  part_given None scope = Some None
  part_given (Some k) scope = optional (Some ((treed raw k.0).gives scope))

  part_grows : (o : Option Known) → Grows (part_after o)
  part_grows None = same_grows
  part_grows (Some k) = k.1.grows

  part_below : (o : Option Known) (scope : Scope) (x : Option Statement) → AreLow scope.variables scope.names → part_given o scope ≡ Some x → (m : ℕ) → (part_after o scope).variables ≤ m → list_all (doing_below m) (part_doings x) ≡ true
  part_below None scope x low e m le = subst (λ y. list_all (doing_below m) (part_doings y) ≡ true) (some_same e) refl
  part_below (Some k) scope x low e m le =
      let p = optional_there ((treed raw k.0).gives scope) x e in
      subst (λ z. list_all (doing_below m) (part_doings z) ≡ true) p.1.1 (k.1.below scope p.0 low p.1.0 m le)

  -- the scope behind the first part and the step of a for, from where its test is numbered
  abbrev parts_after : Option Known → Option Known → Scope → Scope
  parts_after i k scope = part_after k (part_after i (opened (numbered scope)))

  parts_grow : (i k : Option Known) → Grows (parts_after i k)
  parts_grow i k =
      numbered_grows (λ scope. part_after k (part_after i (opened scope))) (opened_grows (λ scope. part_after k (part_after i scope)) (then_grows (part_after i) (part_after k) (part_grows i) (part_grows k)))

  for_grows : (i k : Option Known) (b : List Known) → Grows (λ scope. closed scope (after_block (trees b) (parts_after i k scope)))
  for_grows i k b =
      closed_grows (λ scope. after_block (trees b) (parts_after i k scope)) (then_grows (parts_after i k) (after_block (trees b)) (parts_grow i k) (block_grows b))

  for_below : (i k : Option Known) (l : ℕ) (test : RawExpr) (b : List Known) (scope : Scope) (x : Statement) → AreLow scope.variables scope.names
      → for_tree scope.statements l (part_given i (opened (numbered scope))) (expr_of raw (part_after i (opened (numbered scope))) test) (part_given k (part_after i (opened (numbered scope)))) (block_tree (trees b) (parts_after i k scope)) ≡ Some x
      → (m : ℕ) → (after_block (trees b) (parts_after i k scope)).variables ≤ m → IsBelow m x
  for_below i k l test b scope x low e m le =
      let first = opened (numbered scope) in
      let low_test : AreLow (part_after i first).variables (part_after i first).names = (part_grows i).low first low in
      let low_body : AreLow (parts_after i k scope).variables (parts_after i k scope).names = (parts_grow i k).low scope low in
      let g1 : (part_after i first).variables ≤ (parts_after i k scope).variables = (part_grows k).more (part_after i first) in
      let g2 : (parts_after i k scope).variables ≤ (after_block (trees b) (parts_after i k scope)).variables = (block_grows b).more (parts_after i k scope) in
      let f = for_some scope.statements l _ _ _ _ x e in
      tested x scope.statements f.1 (part_doings f.0 ++ (part_doings f.2 ++ body_doings f.3)) m (ap doings f.8 ∙ doings-For scope.statements l f.0 f.1 f.2 f.3)
      (expr_is (part_after i first) test f.1 m low_test (omega (arith, g1, g2, le)) f.5)
      (all_append (doing_below m) (part_doings f.0) (part_doings f.2 ++ body_doings f.3) (part_below i first f.0 low f.4 m (omega (arith, g1, g2, le)))
      (all_append (doing_below m) (part_doings f.2) (body_doings f.3) (part_below k (part_after i first) f.2 low_test f.6 m (omega (arith, g2, le))) (list_below b (opened (parts_after i k scope)) f.3 low_body f.7 m le)))

  layer_case : (y : RawStatement-F Known KnownArm) → Case (as_tree (layer_of y))
  layer_case (RawStatement-F.Declare l v i) = record {
    grows = then_grows (with_variable raw v i) (begun i) (variable_grows v i) (begun_grows i);
    below = λ scope x low e m le. declare_below scope low v l i x m e le;
  }
  layer_case (RawStatement-F.Assign l left op right) = record {
    grows = next_grows;
    below = λ scope x low e m le.
        let k = both_there (λ (a b : Expr). s.Assign scope.statements l a op b) (expr_of raw scope left) (expr_of raw scope right) x e in
        subst (IsBelow m) k.same (acts (s.Assign scope.statements l k.left op k.right) _ m (doings-Assign scope.statements l k.left op k.right) (and_from _ _ (expr_is scope left k.left m low le k.left_there) (expr_is scope right k.right m low le k.right_there)));
  }
  layer_case (RawStatement-F.Bump l left up before) = record {
    grows = next_grows;
    below = λ scope x low e m le.
        let k = map_there (λ (a : Expr). s.Bump scope.statements l a up before) (expr_of raw scope left) x e in
        subst (IsBelow m) k.same (acts (s.Bump scope.statements l k.value up before) _ m (doings-Bump scope.statements l k.value up before) (expr_is scope left k.value m low le k.there));
  }
  layer_case (RawStatement-F.Call l to f args) = record {
    grows = then_grows (with_target raw to) numbered (target_grows to) next_grows;
    below = λ scope x low e m le. always_is (IsBelow m) _ x (call_low scope to scope.statements l m f args low le) e;
  }
  layer_case (RawStatement-F.Heap l to cast n) = record {
    grows = then_grows (with_target raw to) numbered (target_grows to) next_grows;
    below = λ scope x low e m le. always_is (IsBelow m) _ x (heap_low scope to scope.statements l m (ctype_if raw (option_map named_type cast)) n low le) e;
  }
  layer_case (RawStatement-F.If l test a b) = record {
    grows = numbered_grows (λ scope. after_block (trees b) (after_block (trees a) scope)) (then_grows (after_block (trees a)) (after_block (trees b)) (block_grows a) (block_grows b));
    below = λ scope x low e m le.
        let next = after_block (trees a) (numbered scope) in
        let low_next : AreLow next.variables next.names = (block_grows a).low (numbered scope) low in
        let g1 : scope.variables ≤ next.variables = (block_grows a).more (numbered scope) in
        let g2 : next.variables ≤ (after_block (trees b) next).variables = (block_grows b).more next in
        let t = then_there (λ (z : Expr). both (s.If scope.statements l z) (block_tree (trees a) (numbered scope)) (block_tree (trees b) next)) (expr_of raw scope test) x e in
        let k = both_there (s.If scope.statements l t.value) (block_tree (trees a) (numbered scope)) (block_tree (trees b) next) x t.same in
        tested x scope.statements t.value (body_doings k.left ++ body_doings k.right) m (ap doings (sym k.same) ∙ doings-If scope.statements l t.value k.left k.right) (expr_is scope test t.value m low (omega (arith, g1, g2, le)) t.there)
        (all_append (doing_below m) (body_doings k.left) (body_doings k.right) (list_below a (opened (numbered scope)) k.left low k.left_there m (omega (arith, g2, le))) (list_below b (opened next) k.right low_next k.right_there m le));
  }
  layer_case (RawStatement-F.While l test b) = record {
    grows = numbered_grows (after_block (trees b)) (block_grows b);
    below = λ scope x low e m le.
        let k = both_there (s.While scope.statements l) (expr_of raw scope test) (block_tree (trees b) (numbered scope)) x e in
        let g : scope.variables ≤ (after_block (trees b) (numbered scope)).variables = (block_grows b).more (numbered scope) in
        tested x scope.statements k.left (body_doings k.right) m (ap doings (sym k.same) ∙ doings-While scope.statements l k.left k.right) (expr_is scope test k.left m low (omega (arith, g, le)) k.left_there) (list_below b (opened (numbered scope)) k.right low k.right_there m le);
  }
  layer_case (RawStatement-F.Do l test b) = record {
    grows = numbered_grows (after_block (trees b)) (block_grows b);
    below = λ scope x low e m le.
        let k = both_there (s.Do scope.statements l) (expr_of raw scope test) (block_tree (trees b) (numbered scope)) x e in
        let g : scope.variables ≤ (after_block (trees b) (numbered scope)).variables = (block_grows b).more (numbered scope) in
        tested x scope.statements k.left (body_doings k.right) m (ap doings (sym k.same) ∙ doings-Do scope.statements l k.left k.right) (expr_is scope test k.left m low (omega (arith, g, le)) k.left_there) (list_below b (opened (numbered scope)) k.right low k.right_there m le);
  }
  layer_case (RawStatement-F.For l None test None b) = record { grows = for_grows None None b; below = λ scope x low e m le. for_below None None l test b scope x low e m le }
  layer_case (RawStatement-F.For l None test (Some k) b) = record { grows = for_grows None (Some k) b; below = λ scope x low e m le. for_below None (Some k) l test b scope x low e m le }
  layer_case (RawStatement-F.For l (Some i) test None b) = record { grows = for_grows (Some i) None b; below = λ scope x low e m le. for_below (Some i) None l test b scope x low e m le }
  layer_case (RawStatement-F.For l (Some i) test (Some k) b) = record { grows = for_grows (Some i) (Some k) b; below = λ scope x low e m le. for_below (Some i) (Some k) l test b scope x low e m le }
  layer_case (RawStatement-F.Switch l test arms) = record {
    grows = numbered_grows (after_block (arm_trees arms)) (arms_block_grows arms);
    below = λ scope x low e m le.
        let t = then_there (λ (z : Expr). option_and_then (λ (k : IntType). option_map (s.Switch scope.statements l z) (at_type k (in_order (arm_trees arms) (opened (numbered scope))))) (switch_type raw scope test)) (expr_of raw scope test) x e in
        let u = then_there (λ (k : IntType). option_map (s.Switch scope.statements l t.value) (at_type k (in_order (arm_trees arms) (opened (numbered scope))))) (switch_type raw scope test) x t.same in
        let k = map_there (s.Switch scope.statements l t.value) (at_type u.value (in_order (arm_trees arms) (opened (numbered scope)))) x u.same in
        let g : scope.variables ≤ (after_block (arm_trees arms) (numbered scope)).variables = (arms_block_grows arms).more (numbered scope) in
        tested x scope.statements t.value (arms_doings k.value) m (ap doings (sym k.same) ∙ doings-Switch scope.statements l t.value k.value) (expr_is scope test t.value m low (omega (arith, g, le)) t.there) (arms_below arms (opened (numbered scope)) u.value k.value low k.there m le);
  }
  layer_case (RawStatement-F.Block l b) = record {
    grows = block_grows b;
    below = λ scope x low e m le.
        let k = map_there (s.Block l) (block_tree (trees b) scope) x e in
        subst (λ ds. list_all (doing_below m) ds ≡ true) (sym (ap doings (sym k.same) ∙ doings-Block l k.value)) (list_below b (opened scope) k.value low k.there m le);
  }
  layer_case (RawStatement-F.Return l a) = record {
    grows = next_grows;
    below = λ scope x low e m le.
        let k = map_there (s.Return scope.statements l) (optional (option_map (expr_of raw scope) a)) x e in
        let h = always_is (λ v. value_below m v ≡ true) (optional (option_map (expr_of raw scope) a)) k.value (value_low scope low m le a) k.there in
        subst (IsBelow m) k.same (acts (s.Return scope.statements l k.value) _ m (doings-Return scope.statements l k.value) h);
  }

  arm_case : (y : RawArm-F Known KnownArm) → ArmCase (as_arm (arm_layer_of y))
  arm_case y = record {
    grows = list_grows y.body;
    below = λ scope k a low e m le.
        let z = both_there arm_tree (collected (map (label_tree raw scope k) y.labels)) (collected (in_order (trees y.body) scope)) a e in
        subst (λ (w : Arm). list_all (doing_below m) (body_doings w.body) ≡ true) z.same (list_below y.body scope z.right low z.right_there m le);
  }

  statement_case : (one : RawStatement) → Case (treed raw one)
  statement_case =
      ind-RawStatement (λ one. Case (treed raw one)) (λ a. ArmCase (treed_arm raw a))
      (λ z y is. subst (λ w. Case (treed raw (roll-RawStatement w))) is (subst Case (sym (fold-roll-RawStatement (Scoped (Option Statement)) (Scoped ArmTree) (treed_step raw) (arm_tree_step raw) (layer_of y))) (layer_case y)))
      (λ z y is. subst (λ w. ArmCase (treed_arm raw (roll-RawArm w))) is (subst ArmCase (sym (fold-roll-RawArm (Scoped (Option Statement)) (Scoped ArmTree) (treed_step raw) (arm_tree_step raw) (arm_layer_of y))) (arm_case y)))

  abbrev all_known : List RawStatement → List Known
  all_known b = map (λ (x : RawStatement). let k : Known = (x, statement_case x) in k) b

  same_list : (b : List RawStatement) → map (λ (p : Known). p.0) (all_known b) ≡ b
  same_list [] = refl
  same_list (x ∷ b) = ap (λ ys. x ∷ ys) (same_list b)

  -- a body names variables that were declared before its end
  pub body_below : (b : List RawStatement) (scope : Scope) (xs : List Statement) → AreLow scope.variables scope.names → body_of raw b scope ≡ Some xs → (m : ℕ) → (after_all (map (treed raw) b) scope).variables ≤ m → list_all (doing_below m) (body_doings xs) ≡ true
  body_below b scope xs low e m le =
      list_below (all_known b) scope xs low (ap (λ c. collected (in_order (map (treed raw) c) scope)) (same_list b) ∙ e) m (subst (λ c. (after_all (map (treed raw) c) scope).variables ≤ m) (sym (same_list b)) le)

  pub body_grows : (b : List RawStatement) → Grows (after_all (map (treed raw) b))
  body_grows b = subst (λ c. Grows (after_all (map (treed raw) c))) (same_list b) (list_grows (all_known b))
