-- The statements of a text name variables that are in scope there, or that they declare themselves.
use Rattle.std.proofs.Common.{◌≡◌, ℕ, ◌+◌, ◌<◌, ◌≤◌, List, [], ◌∷◌, ◌++◌, map, Bool, true, Option, Some, None, option_map, option_and_then, refl, sym, ap, subst, ◌∙◌, arith, eqb-true, lt_of_lt_of_le, le_refl, inl, inr, ◌==◌, ◌||◌, false}
use Rattle.std.specs.Prelude.{bytes_eq, codes}
use Rattle.dep_model.proofs.TextNumbers.{for_some}
use Rattle.c_language.proofs.Tests.{false_true, by_or}
use Rattle.c_language.specs.Names.{names, any_names, init_names, target_names, size_names, amount_names, value_names}
use Rattle.hanging_sets.specs.NamedBy.{doing_names}
use Rattle.kept_texts.proofs.ExprNames.{expr_reaches}
use Rattle.dep_model.proofs.Membership.{IsIn}
use Rattle.kept_texts.proofs.Spans.{holds_found, Spans, spans_later, spans_more}
use Rattle.c_arith.specs.declared.int_type.IntType.{IntType}
use Rattle.c_tree.specs.declared.types.CType.{CType}
use Rattle.c_tree.specs.declared.expr.Expr.{Expr}
use Rattle.c_tree.specs.declared.program.Init.TheVariants as begins
use Rattle.c_tree.specs.declared.raw.expr.RawExpr.{RawExpr}
use Rattle.c_tree.specs.declared.raw.program.RawInit.{RawInit}
use Rattle.c_tree.specs.declared.raw.program.RawInit.TheVariants as init
use Rattle.c_tree.specs.declared.raw.program.RawProgram.{RawProgram}
use Rattle.c_tree.specs.declared.raw.statement.RawAmount.{RawAmount}
use Rattle.c_tree.specs.declared.raw.statement.RawAmount.TheVariants as amount
use Rattle.c_tree.specs.declared.raw.statement.RawArg.{RawArg}
use Rattle.c_tree.specs.declared.raw.statement.RawArg.TheVariants as arg
use Rattle.c_tree.specs.declared.raw.statement.RawArm.{RawArm, roll-RawArm, map-RawArm, fold-roll-RawArm}
use Rattle.c_tree.specs.declared.raw.statement.RawSize.{RawSize}
use Rattle.c_tree.specs.declared.raw.statement.RawSize.TheVariants as sizes
use Rattle.c_tree.specs.declared.raw.statement.RawStatement.{RawStatement, ind-RawStatement, roll-RawStatement, map-RawStatement, fold-roll-RawStatement}
use Rattle.c_tree.specs.declared.raw.statement.RawStatement.TheOpen.{RawStatement-F, RawArm-F}
use Rattle.c_tree.specs.declared.raw.statement.RawTarget.{RawTarget}
use Rattle.c_tree.specs.declared.raw.statement.RawTarget.TheVariants as target
use Rattle.c_tree.specs.declared.statement.Amount.TheVariants as quantity
use Rattle.c_tree.specs.declared.statement.Arm.{Arm}
use Rattle.c_tree.specs.declared.statement.Size.TheVariants as measure
use Rattle.c_tree.specs.declared.statement.Statement.{Statement}
use Rattle.c_tree.specs.declared.statement.Statement.TheVariants as s
use Rattle.c_tree.specs.declared.statement.Target.{Target}
use Rattle.c_tree.specs.declared.statement.Target.TheVariants as to_place
use Rattle.c_language.specs.Words.{Bytes}
use Rattle.c_language.specs.Code.{Tests}
use Rattle.c_language.specs.CallRules.{format_in, later_args, only_arg}
use Rattle.c_language.specs.ConstantEvaluation.{both}
use Rattle.c_language.specs.DeclaredTypes.{function_id}
use Rattle.c_language.specs.ProgramOf.{variable_number, collected, optional, ctype, ctype_if, expr_of, exprs_of, init_of, declaration_id, target_tree, arg_tree, args_tree, only_tree, size_tree, amount_tree, call_tree, label_tree, arm_tree, ArmTree, arm_tree_step, block_tree, at_type, switch_type, for_tree, treed_step, treed, body_of, treed_arm}
use Rattle.c_language.specs.Scopes.{Scope, Meaning, meaning_in, Scoped, opened, closed, numbered, with_variable, with_target, begun, in_order, after_all, after_block}
use Rattle.c_language.specs.TypeGrammar.{named_type}
use Rattle.c_language.proofs.Options.{some_same, optional_there, map_there, then_there, both_there, more_there}
use Rattle.dep_model.proofs.Options.{Always, always_map, always_if, always_is}
use Rattle.dep_model.specs.Doings.{Doing, Does, doings, body_doings}
use Rattle.dep_model.proofs.DoingForms.{arms_doings, part_doings, doings-Declare, doings-Assign, doings-Bump, doings-Invoke, doings-Fetch, doings-Write, doings-Print, doings-Heap, doings-Release, doings-Return, doings-If, doings-While, doings-Do, doings-Switch, doings-Block, doings-For}

-- ---- values that are there

map_from : {A B : Type 0} (P : A → Type 0) (Q : B → Type 0) (f : A → B) (o : Option A) → Always P o → ((x : A) → P x → Q (f x)) → Always Q (option_map f o)
map_from P Q f None h k = tt
map_from P Q f (Some x) h k = k x h

both_from : {A B C : Type 0} (P : A → Type 0) (R : B → Type 0) (Q : C → Type 0) (f : A → B → C) (a : Option A) (b : Option B) → Always P a → Always R b → ((x : A) (y : B) → P x → R y → Q (f x y)) → Always Q (both f a b)
both_from P R Q f None b h k g = tt
both_from P R Q f (Some x) None h k g = tt
both_from P R Q f (Some x) (Some y) h k g = g x y h k

then_from : {A B : Type 0} (P : A → Type 0) (Q : B → Type 0) (f : A → Option B) (o : Option A) → Always P o → ((x : A) → P x → Always Q (f x)) → Always Q (option_and_then f o)
then_from P Q f None h k = tt
then_from P Q f (Some x) h k = k x h

always_any : {A : Type 0} (o : Option A) → Always (λ (x : A). Unit {0}) o
always_any None = tt
always_any (Some x) = tt

module _ (raw : RawProgram) (P : ℕ → Type 0) where
  -- each variable that is named has the property, and was numbered before m
  abbrev pub Reached : ℕ → (ℕ → Bool) → Type 0
  Reached m f = (id : ℕ) → f id ≡ true → P id × (id < m)

  reached_or : (m : ℕ) (f g : ℕ → Bool) → Reached m f → Reached m g → Reached m (λ id. f id || g id)
  reached_or m f g p q id h = by_or (f id) (g id) h (p id) (q id)

  reached_none : (m : ℕ) → Reached m (λ id. false)
  reached_none m id h = false_true h

  -- so is each that one of some statements names
  abbrev pub AllReached : ℕ → List Doing → Type 0
  AllReached m [] = Unit {0}
  AllReached m (d ∷ ds) = Reached m (doing_names d) × AllReached m ds

  reached_append : (m : ℕ) (ds es : List Doing) → AllReached m ds → AllReached m es → AllReached m (ds ++ es)
  reached_append m [] es p q = q
  reached_append m (d ∷ ds) es p q = (p.0, reached_append m ds es p.1 q)

  pub one_reached : (m : ℕ) (ds : List Doing) (d : Doing) → AllReached m ds → IsIn ds d → Reached m (doing_names d)
  one_reached m [] d p n = absurd n
  one_reached m (e ∷ ds) d p (inl q) = subst (λ (x : Doing). Reached m (doing_names x)) q p.0
  one_reached m (e ∷ ds) d p (inr n) = one_reached m ds d p.1 n

  -- the variable with the next number
  next_reached : (scope : Scope) (low : Spans P scope) (m : ℕ) → scope.variables + 1 ≤ m → Reached m (λ id. scope.variables == id)
  next_reached scope low m le id h = subst (λ (z : ℕ). P z × (z < m)) (eqb-true scope.variables id h) (low.1 scope.variables (le_refl scope.variables), omega (arith, le))

  -- ---- what is named in a scope

  module _ (scope : Scope) (low : Spans P scope) (m : ℕ) (le : scope.variables ≤ m) where
    named : (x : Bytes) (id : ℕ) → variable_number (meaning_in scope x) ≡ Some id → P id × (id < m)
    named x id h = let r = holds_found P scope.variables x scope.names id h low.0 in (r.0, lt_of_lt_of_le r.1 le)

    expr_low : (a : RawExpr) → Always (λ e. Reached m (names e)) (expr_of raw scope a)
    expr_low a = by_value (expr_of raw scope a) refl
      where
        by_value : (o : Option Expr) → expr_of raw scope a ≡ o → Always (λ e. Reached m (names e)) o
        by_value None is = tt
        by_value (Some e) is = λ id h. expr_reaches raw scope (λ (z : ℕ). P z × (z < m)) named a e is id h

    all_low : {A : Type 0} (f : A → Option Expr) (xs : List A) → ((x : A) → Always (λ e. Reached m (names e)) (f x)) → Always (λ es. Reached m (any_names es)) (collected (map f xs))
    all_low f [] h = λ id q. false_true q
    all_low f (x ∷ xs) h =
        then_from (λ e. Reached m (names e)) (λ es. Reached m (any_names es)) (λ e. option_map (λ es. e ∷ es) (collected (map f xs))) (f x) (h x)
        (λ e k. map_from (λ es. Reached m (any_names es)) (λ es. Reached m (any_names es)) (λ es. e ∷ es) (collected (map f xs)) (all_low f xs h) (λ es g id q. by_or (names e id) (any_names es id) q (k id) (g id)))

    exprs_low : (es : List RawExpr) → Always (λ xs. Reached m (any_names xs)) (exprs_of raw scope es)
    exprs_low es = all_low (expr_of raw scope) es expr_low

    arg_low : (a : RawArg) → Always (λ e. Reached m (names e)) (arg_tree raw scope a)
    arg_low (arg.Value a) = expr_low a
    arg_low (arg.Literal text) = tt

    args_low : (es : List RawArg) → Always (λ xs. Reached m (any_names xs)) (args_tree raw scope es)
    args_low es = all_low (arg_tree raw scope) es arg_low

    only_low : (es : List RawArg) → Always (λ e. Reached m (names e)) (only_tree raw scope es)
    only_low es = then_from (λ a. Unit {0}) (λ e. Reached m (names e)) (expr_of raw scope) (only_arg es) (always_any (only_arg es)) (λ a h. expr_low a)

    init_low : (i : RawInit) → Always (λ n. Reached m (init_names n)) (init_of raw scope i)
    init_low init.None = λ id q. false_true q
    init_low (init.One a) = map_from (λ e. Reached m (names e)) (λ n. Reached m (init_names n)) begins.One (expr_of raw scope a) (expr_low a) (λ e h. h)
    init_low (init.Items es) = map_from (λ xs. Reached m (any_names xs)) (λ n. Reached m (init_names n)) begins.Items (exprs_of raw scope es) (exprs_low es) (λ xs h. h)

    size_low : (k : RawSize) → Always (λ z. Reached m (size_names z)) (size_tree raw scope k)
    size_low (sizes.Type t) = always_map (λ z. Reached m (size_names z)) measure.Type (ctype raw (named_type t)) (λ z id q. false_true q)
    size_low (sizes.Pointee name closed) = by_meaning (meaning_in scope name) refl
      where
        by_meaning : (o : Option Meaning) → meaning_in scope name ≡ o → Always (λ z. Reached m (size_names z)) (option_map (λ (x : ℕ). measure.Pointee x closed) (variable_number o))
        by_meaning None is = tt
        by_meaning (Some Meaning.Function) is = tt
        by_meaning (Some (Meaning.Variable id t)) is = λ j q. subst (λ (z : ℕ). P z × (z < m)) (eqb-true id j q) (named name id (ap variable_number is))

    amount_low : (n : RawAmount) → Always (λ k. Reached m (amount_names k)) (amount_tree raw scope n)
    amount_low (amount.Size k) = map_from (λ z. Reached m (size_names z)) (λ z. Reached m (amount_names z)) quantity.Size (size_tree raw scope k) (size_low k) (λ z h. h)
    amount_low (amount.CountSize a k) =
        then_from (λ e. Reached m (names e)) (λ z. Reached m (amount_names z)) _ (expr_of raw scope a) (expr_low a)
        (λ e h. map_from (λ z. Reached m (size_names z)) (λ z. Reached m (amount_names z)) (quantity.CountSize e) (size_tree raw scope k) (size_low k) (λ z g id q. by_or (names e id) (size_names z id) q (h id) (g id)))
    amount_low (amount.SizeCount k a) =
        then_from (λ z. Reached m (size_names z)) (λ z. Reached m (amount_names z)) _ (size_tree raw scope k) (size_low k)
        (λ z h. map_from (λ e. Reached m (names e)) (λ y. Reached m (amount_names y)) (quantity.SizeCount z) (expr_of raw scope a) (expr_low a) (λ e g id q. by_or (size_names z id) (names e id) q (h id) (g id)))
    amount_low (amount.Count a) = map_from (λ e. Reached m (names e)) (λ z. Reached m (amount_names z)) quantity.Count (expr_of raw scope a) (expr_low a) (λ e h. h)

    value_low : (a : Option RawExpr) → Always (λ v. Reached m (value_names v)) (optional (option_map (expr_of raw scope) a))
    value_low None = λ id q. false_true q
    value_low (Some a) = by_value (expr_of raw scope a) (expr_low a)
      where
        by_value : (o : Option Expr) → Always (λ e. Reached m (names e)) o → Always (λ v. Reached m (value_names v)) (optional (Some o))
        by_value None h = tt
        by_value (Some e) h = h

    -- behind a target: a variable that it declares is the next one
    target_low : (to : RawTarget) → (with_target raw to scope).variables ≤ m → Always (λ t. Reached m (target_names t)) (target_tree raw scope to)
    target_low target.None h = λ id q. false_true q
    target_low (target.Place a) h = map_from (λ e. Reached m (names e)) (λ t. Reached m (target_names t)) to_place.Place (expr_of raw scope a) (expr_low a) (λ e k. k)
    target_low (target.Declared v) h = next_reached scope low m (omega (arith, h))

  -- ---- statements

  -- what a part of a text does to scopes
  pub record Grows (after : Scope → Scope) : Type 0 where
    pub more : (scope : Scope) → scope.variables ≤ (after scope).variables
    pub spans : (scope : Scope) → Spans P scope → Spans P (after scope)

  abbrev IsReached : ℕ → Statement → Type 0
  IsReached m x = AllReached m (doings x)

  pub record Case (t : Scoped (Option Statement)) : Type 0 where
    pub grows : Grows t.after
    pub reached : (scope : Scope) (x : Statement) → Spans P scope → t.gives scope ≡ Some x → (m : ℕ) → (t.after scope).variables ≤ m → IsReached m x

  pub record ArmCase (t : Scoped ArmTree) : Type 0 where
    pub grows : Grows t.after
    pub reached : (scope : Scope) (k : IntType) (a : Arm) → Spans P scope → t.gives scope k ≡ Some a → (m : ℕ) → (t.after scope).variables ≤ m → AllReached m (body_doings a.body)

  abbrev Known : Type 0
  Known = (one : RawStatement) × Case (treed raw one)

  abbrev KnownArm : Type 0
  KnownArm = (a : RawArm) × ArmCase (treed_arm raw a)

  abbrev layer_of : RawStatement-F Known KnownArm → RawStatement-F RawStatement RawArm
  layer_of = map-RawStatement Known KnownArm RawStatement RawArm (λ p. p.0) (λ p. p.0)

  abbrev arm_layer_of : RawArm-F Known KnownArm → RawArm-F RawStatement RawArm
  arm_layer_of = map-RawArm Known KnownArm RawStatement RawArm (λ p. p.0) (λ p. p.0)

  abbrev as_tree : RawStatement-F RawStatement RawArm → Scoped (Option Statement)
  as_tree y = treed_step raw (map-RawStatement RawStatement RawArm (Scoped (Option Statement)) (Scoped ArmTree) (treed raw) (treed_arm raw) y)

  abbrev as_arm : RawArm-F RawStatement RawArm → Scoped ArmTree
  as_arm y = arm_tree_step raw (map-RawArm RawStatement RawArm (Scoped (Option Statement)) (Scoped ArmTree) (treed raw) (treed_arm raw) y)

  abbrev trees : List Known → List (Scoped (Option Statement))
  trees ks = map (treed raw) (map (λ (p : Known). p.0) ks)

  abbrev arm_trees : List KnownArm → List (Scoped ArmTree)
  arm_trees ks = map (treed_arm raw) (map (λ (p : KnownArm). p.0) ks)

  -- ---- scopes

  pub same_grows : Grows (λ scope. scope)
  same_grows = record { more = λ scope. omega arith; spans = λ scope h. h }

  pub then_grows : (f g : Scope → Scope) → Grows f → Grows g → Grows (λ scope. g (f scope))
  then_grows f g a b = record {
    more = λ scope. omega (arith, a.more scope, b.more (f scope));
    spans = λ scope h. b.spans (f scope) (a.spans scope h);
  }

  list_grows : (ks : List Known) → Grows (after_all (trees ks))
  list_grows [] = same_grows
  list_grows (k ∷ ks) = then_grows (treed raw k.0).after (after_all (trees ks)) k.1.grows (list_grows ks)

  arms_grow : (ks : List KnownArm) → Grows (after_all (arm_trees ks))
  arms_grow [] = same_grows
  arms_grow (k ∷ ks) = then_grows (treed_arm raw k.0).after (after_all (arm_trees ks)) k.1.grows (arms_grow ks)

  -- names of a block are gone behind it
  closed_grows : (f : Scope → Scope) → Grows f → Grows (λ scope. closed scope (f scope))
  closed_grows f h = record {
    more = h.more;
    spans = λ scope k. spans_later P scope (closed scope (f scope)) refl (h.more scope) k;
  }

  opened_grows : (f : Scope → Scope) → Grows f → Grows (λ scope. f (opened scope))
  opened_grows f h = record { more = λ scope. h.more (opened scope); spans = λ scope k. h.spans (opened scope) k }

  numbered_grows : (f : Scope → Scope) → Grows f → Grows (λ scope. f (numbered scope))
  numbered_grows f h = record { more = λ scope. h.more (numbered scope); spans = λ scope k. h.spans (numbered scope) k }

  block_grows : (ks : List Known) → Grows (after_block (trees ks))
  block_grows ks = closed_grows (λ scope. after_all (trees ks) (opened scope)) (opened_grows (after_all (trees ks)) (list_grows ks))

  arms_block_grows : (ks : List KnownArm) → Grows (after_block (arm_trees ks))
  arms_block_grows ks = closed_grows (λ scope. after_all (arm_trees ks) (opened scope)) (opened_grows (after_all (arm_trees ks)) (arms_grow ks))

  -- ---- a list, and a part of a for

  list_reached : (ks : List Known) (scope : Scope) (xs : List Statement) → Spans P scope → collected (in_order (trees ks) scope) ≡ Some xs → (m : ℕ) → (after_all (trees ks) scope).variables ≤ m → AllReached m (body_doings xs)
  list_reached [] scope xs low e m le = subst (λ ys. AllReached m (body_doings ys)) (some_same e) tt
  list_reached (k ∷ ks) scope xs low e m le =
      let t = treed raw k.0 in
      let z = more_there (t.gives scope) (in_order (trees ks) (t.after scope)) xs e in
      let more : (t.after scope).variables ≤ (after_all (trees ks) (t.after scope)).variables = (list_grows ks).more (t.after scope) in
      subst (λ ys. AllReached m (body_doings ys)) z.same
      (reached_append m (doings z.first) (body_doings z.rest) (k.1.reached scope z.first low z.first_there m (omega (arith, more, le))) (list_reached ks (t.after scope) z.rest (k.1.grows.spans scope low) z.rest_there m le))

  arms_reached : (ks : List KnownArm) (scope : Scope) (i : IntType) (as_ : List Arm) → Spans P scope → at_type i (in_order (arm_trees ks) scope) ≡ Some as_ → (m : ℕ) → (after_all (arm_trees ks) scope).variables ≤ m → AllReached m (arms_doings as_)
  arms_reached [] scope i as_ low e m le = subst (λ ys. AllReached m (arms_doings ys)) (some_same e) tt
  arms_reached (k ∷ ks) scope i as_ low e m le =
      let t = treed_arm raw k.0 in
      let z = more_there (t.gives scope i) (map (λ (a : ArmTree). a i) (in_order (arm_trees ks) (t.after scope))) as_ e in
      let more : (t.after scope).variables ≤ (after_all (arm_trees ks) (t.after scope)).variables = (arms_grow ks).more (t.after scope) in
      subst (λ ys. AllReached m (arms_doings ys)) z.same
      (reached_append m (body_doings z.first.body) (arms_doings z.rest) (k.1.reached scope i z.first low z.first_there m (omega (arith, more, le))) (arms_reached ks (t.after scope) i z.rest (k.1.grows.spans scope low) z.rest_there m le))

  -- a statement of one act, of a call, or of a test and what it decides
  acts : (x : Statement) (d : Doing) (m : ℕ) → doings x ≡ d ∷ [] → Reached m (doing_names d) → IsReached m x
  acts x d m is h = subst (λ ds. AllReached m ds) (sym is) (h, tt)

  tested : (x : Statement) (id : ℕ) (e : Expr) (ds : List Doing) (m : ℕ) → doings x ≡ Does id (Tests e) ∷ ds → Reached m (names e) → AllReached m ds → IsReached m x
  tested x id e ds m is h k = subst (λ es. AllReached m es) (sym is) (h, k)

  expr_is : (scope : Scope) (a : RawExpr) (e : Expr) (m : ℕ) → Spans P scope → scope.variables ≤ m → expr_of raw scope a ≡ Some e → Reached m (names e)
  expr_is scope a e m low le is = always_is (λ z. Reached m (names z)) (expr_of raw scope a) e (expr_low scope low m le a) is

  -- ---- scopes behind declarations

  pub variable_grows : (v : _) (i : RawInit) → Grows (with_variable raw v i)
  variable_grows v i = record {
    more = λ scope. omega arith;
    spans = λ scope h. spans_more P raw scope v i h;
  }

  begun_grows : (i : RawInit) → Grows (begun i)
  begun_grows init.None = same_grows
  begun_grows (init.One a) = numbered_grows (λ scope. scope) same_grows
  begun_grows (init.Items es) = numbered_grows (λ scope. scope) same_grows

  target_grows : (to : RawTarget) → Grows (with_target raw to)
  target_grows target.None = same_grows
  target_grows (target.Place a) = same_grows
  target_grows (target.Declared v) = variable_grows v init.None

  next_grows : Grows numbered
  next_grows = numbered_grows (λ scope. scope) same_grows

  -- ---- calls

  call_low : (scope : Scope) (to : RawTarget) (id l m : ℕ) (f : Bytes) (args : List RawArg) → Spans P scope → (with_target raw to scope).variables ≤ m
      → Always (IsReached m) (call_tree raw (with_target raw to scope) id l (target_tree raw scope to) f args)
  call_low scope to id l m f args low le =
      let inner = with_target raw to scope in
      let low_in : Spans P (inner) = (target_grows to).spans scope low in
      let le_out : scope.variables ≤ m = (let g = (target_grows to).more scope in omega (arith, g, le)) in
      let t_low = target_low scope low m le_out to le in
      let Q : Statement → Type 0 = IsReached m in
      always_if Q (bytes_eq f (codes "getchar")) _ _ (map_from (λ t. Reached m (target_names t)) Q (s.Fetch id l) (target_tree raw scope to) t_low (λ t h. acts (s.Fetch id l t) _ m (doings-Fetch id l t) h))
      (always_if Q (bytes_eq f (codes "putchar")) _ _ (map_from (λ e. Reached m (names e)) Q (s.Write id l) (only_tree raw inner args) (only_low inner low_in m le args) (λ e h. acts (s.Write id l e) _ m (doings-Write id l e) h))
      (always_if Q (bytes_eq f (codes "printf")) _ _ (then_from (λ text. Unit {0}) Q _ (format_in args) (always_any (format_in args)) (λ text h. map_from (λ es. Reached m (any_names es)) Q (s.Print id l text) (args_tree raw inner (later_args args)) (args_low inner low_in m le (later_args args)) (λ es k. acts (s.Print id l text es) _ m (doings-Print id l text es) k)))
      (always_if Q (bytes_eq f (codes "free")) _ _ (map_from (λ e. Reached m (names e)) Q (s.Release id l) (only_tree raw inner args) (only_low inner low_in m le args) (λ e h. acts (s.Release id l e) _ m (doings-Release id l e) h))
      (then_from (λ t. Reached m (target_names t)) Q _ (target_tree raw scope to) t_low (λ t h. both_from (λ g. Unit {0}) (λ es. Reached m (any_names es)) Q (s.Invoke id l t) (function_id raw f) (args_tree raw inner args) (always_any (function_id raw f)) (args_low inner low_in m le args) (λ g es u k. acts (s.Invoke id l t g es) _ m (doings-Invoke id l t g es) (reached_or m _ _ h k)))))))

  heap_low : (scope : Scope) (to : RawTarget) (id l m : ℕ) (c : Option (Option CType)) (n : RawAmount) → Spans P scope → (with_target raw to scope).variables ≤ m
      → Always (IsReached m) (option_and_then (λ (t : Target). option_and_then (λ (k : Option CType). option_map (s.Heap id l t k) (amount_tree raw (with_target raw to scope) n)) c) (target_tree raw scope to))
  heap_low scope to id l m c n low le =
      let inner = with_target raw to scope in
      let low_in : Spans P (inner) = (target_grows to).spans scope low in
      let le_out : scope.variables ≤ m = (let g = (target_grows to).more scope in omega (arith, g, le)) in
      let Q : Statement → Type 0 = IsReached m in
      then_from (λ t. Reached m (target_names t)) Q _ (target_tree raw scope to) (target_low scope low m le_out to le) (λ t h. then_from (λ k. Unit {0}) Q _ c (always_any c) (λ k u. map_from (λ z. Reached m (amount_names z)) Q (s.Heap id l t k) (amount_tree raw inner n) (amount_low inner low_in m le n) (λ z y. acts (s.Heap id l t k z) _ m (doings-Heap id l t k z) (reached_or m _ _ h y))))

  -- ---- forms

  declare_reached : (scope : Scope) (low : Spans P scope) (v : _) (l : ℕ) (i : RawInit) (x : Statement) (m : ℕ)
      → option_map (s.Declare (declaration_id i scope.statements) l scope.variables) (init_of raw (with_variable raw v i scope) i) ≡ Some x → (begun i (with_variable raw v i scope)).variables ≤ m → IsReached m x
  declare_reached scope low v l init.None x m e le =
      subst (IsReached m) (some_same e) (subst (λ ds. AllReached m ds) (sym (doings-Declare None l scope.variables begins.None)) tt)
  declare_reached scope low v l (init.One a) x m e le =
      let k = map_there (s.Declare (Some scope.statements) l scope.variables) (init_of raw (with_variable raw v (init.One a) scope) (init.One a)) x e in
      let h = always_is (λ n. Reached m (init_names n)) (init_of raw (with_variable raw v (init.One a) scope) (init.One a)) k.value (init_low (with_variable raw v (init.One a) scope) ((variable_grows v (init.One a)).spans scope low) m le (init.One a)) k.there in
      subst (IsReached m) k.same (acts (s.Declare (Some scope.statements) l scope.variables k.value) _ m (doings-Declare (Some scope.statements) l scope.variables k.value) (reached_or m _ _ (next_reached scope low m (omega (arith, le))) h))
  declare_reached scope low v l (init.Items es) x m e le =
      let k = map_there (s.Declare (Some scope.statements) l scope.variables) (init_of raw (with_variable raw v (init.Items es) scope) (init.Items es)) x e in
      let h = always_is (λ n. Reached m (init_names n)) (init_of raw (with_variable raw v (init.Items es) scope) (init.Items es)) k.value (init_low (with_variable raw v (init.Items es) scope) ((variable_grows v (init.Items es)).spans scope low) m le (init.Items es)) k.there in
      subst (IsReached m) k.same (acts (s.Declare (Some scope.statements) l scope.variables k.value) _ m (doings-Declare (Some scope.statements) l scope.variables k.value) (reached_or m _ _ (next_reached scope low m (omega (arith, le))) h))

  -- a part of a for
  abbrev part_after : Option Known → Scope → Scope
  part_after None scope = scope
  part_after (Some k) scope = (treed raw k.0).after scope

  abbrev part_given : Option Known → Scope → Option (Option Statement)
  part_given None scope = Some None
  part_given (Some k) scope = optional (Some ((treed raw k.0).gives scope))

  part_grows : (o : Option Known) → Grows (part_after o)
  part_grows None = same_grows
  part_grows (Some k) = k.1.grows

  part_reached : (o : Option Known) (scope : Scope) (x : Option Statement) → Spans P scope → part_given o scope ≡ Some x → (m : ℕ) → (part_after o scope).variables ≤ m → AllReached m (part_doings x)
  part_reached None scope x low e m le = subst (λ y. AllReached m (part_doings y)) (some_same e) tt
  part_reached (Some k) scope x low e m le =
      let p = optional_there ((treed raw k.0).gives scope) x e in
      subst (λ z. AllReached m (part_doings z)) p.1.1 (k.1.reached scope p.0 low p.1.0 m le)

  -- the scope behind the first part and the step of a for, from where its test is numbered
  abbrev parts_after : Option Known → Option Known → Scope → Scope
  parts_after i k scope = part_after k (part_after i (opened (numbered scope)))

  parts_grow : (i k : Option Known) → Grows (parts_after i k)
  parts_grow i k =
      numbered_grows (λ scope. part_after k (part_after i (opened scope))) (opened_grows (λ scope. part_after k (part_after i scope)) (then_grows (part_after i) (part_after k) (part_grows i) (part_grows k)))

  for_grows : (i k : Option Known) (b : List Known) → Grows (λ scope. closed scope (after_block (trees b) (parts_after i k scope)))
  for_grows i k b =
      closed_grows (λ scope. after_block (trees b) (parts_after i k scope)) (then_grows (parts_after i k) (after_block (trees b)) (parts_grow i k) (block_grows b))

  for_reached : (i k : Option Known) (l : ℕ) (test : RawExpr) (b : List Known) (scope : Scope) (x : Statement) → Spans P scope
      → for_tree scope.statements l (part_given i (opened (numbered scope))) (expr_of raw (part_after i (opened (numbered scope))) test) (part_given k (part_after i (opened (numbered scope)))) (block_tree (trees b) (parts_after i k scope)) ≡ Some x
      → (m : ℕ) → (after_block (trees b) (parts_after i k scope)).variables ≤ m → IsReached m x
  for_reached i k l test b scope x low e m le =
      let first = opened (numbered scope) in
      let low_test : Spans P (part_after i first) = (part_grows i).spans first low in
      let low_body : Spans P (parts_after i k scope) = (parts_grow i k).spans scope low in
      let g1 : (part_after i first).variables ≤ (parts_after i k scope).variables = (part_grows k).more (part_after i first) in
      let g2 : (parts_after i k scope).variables ≤ (after_block (trees b) (parts_after i k scope)).variables = (block_grows b).more (parts_after i k scope) in
      let f = for_some scope.statements l _ _ _ _ x e in
      tested x scope.statements f.1 (part_doings f.0 ++ (part_doings f.2 ++ body_doings f.3)) m (ap doings f.8 ∙ doings-For scope.statements l f.0 f.1 f.2 f.3)
      (expr_is (part_after i first) test f.1 m low_test (omega (arith, g1, g2, le)) f.5)
      (reached_append m (part_doings f.0) (part_doings f.2 ++ body_doings f.3) (part_reached i first f.0 low f.4 m (omega (arith, g1, g2, le)))
      (reached_append m (part_doings f.2) (body_doings f.3) (part_reached k (part_after i first) f.2 low_test f.6 m (omega (arith, g2, le))) (list_reached b (opened (parts_after i k scope)) f.3 low_body f.7 m le)))

  layer_case : (y : RawStatement-F Known KnownArm) → Case (as_tree (layer_of y))
  layer_case (RawStatement-F.Declare l v i) = record {
    grows = then_grows (with_variable raw v i) (begun i) (variable_grows v i) (begun_grows i);
    reached = λ scope x low e m le. declare_reached scope low v l i x m e le;
  }
  layer_case (RawStatement-F.Assign l left op right) = record {
    grows = next_grows;
    reached = λ scope x low e m le.
        let k = both_there (λ (a b : Expr). s.Assign scope.statements l a op b) (expr_of raw scope left) (expr_of raw scope right) x e in
        subst (IsReached m) k.same (acts (s.Assign scope.statements l k.left op k.right) _ m (doings-Assign scope.statements l k.left op k.right) (reached_or m _ _ (expr_is scope left k.left m low le k.left_there) (expr_is scope right k.right m low le k.right_there)));
  }
  layer_case (RawStatement-F.Bump l left up before) = record {
    grows = next_grows;
    reached = λ scope x low e m le.
        let k = map_there (λ (a : Expr). s.Bump scope.statements l a up before) (expr_of raw scope left) x e in
        subst (IsReached m) k.same (acts (s.Bump scope.statements l k.value up before) _ m (doings-Bump scope.statements l k.value up before) (expr_is scope left k.value m low le k.there));
  }
  layer_case (RawStatement-F.Call l to f args) = record {
    grows = then_grows (with_target raw to) numbered (target_grows to) next_grows;
    reached = λ scope x low e m le. always_is (IsReached m) _ x (call_low scope to scope.statements l m f args low le) e;
  }
  layer_case (RawStatement-F.Heap l to cast n) = record {
    grows = then_grows (with_target raw to) numbered (target_grows to) next_grows;
    reached = λ scope x low e m le. always_is (IsReached m) _ x (heap_low scope to scope.statements l m (ctype_if raw (option_map named_type cast)) n low le) e;
  }
  layer_case (RawStatement-F.If l test a b) = record {
    grows = numbered_grows (λ scope. after_block (trees b) (after_block (trees a) scope)) (then_grows (after_block (trees a)) (after_block (trees b)) (block_grows a) (block_grows b));
    reached = λ scope x low e m le.
        let next = after_block (trees a) (numbered scope) in
        let low_next : Spans P (next) = (block_grows a).spans (numbered scope) low in
        let g1 : scope.variables ≤ next.variables = (block_grows a).more (numbered scope) in
        let g2 : next.variables ≤ (after_block (trees b) next).variables = (block_grows b).more next in
        let t = then_there (λ (z : Expr). both (s.If scope.statements l z) (block_tree (trees a) (numbered scope)) (block_tree (trees b) next)) (expr_of raw scope test) x e in
        let k = both_there (s.If scope.statements l t.value) (block_tree (trees a) (numbered scope)) (block_tree (trees b) next) x t.same in
        tested x scope.statements t.value (body_doings k.left ++ body_doings k.right) m (ap doings (sym k.same) ∙ doings-If scope.statements l t.value k.left k.right) (expr_is scope test t.value m low (omega (arith, g1, g2, le)) t.there)
        (reached_append m (body_doings k.left) (body_doings k.right) (list_reached a (opened (numbered scope)) k.left low k.left_there m (omega (arith, g2, le))) (list_reached b (opened next) k.right low_next k.right_there m le));
  }
  layer_case (RawStatement-F.While l test b) = record {
    grows = numbered_grows (after_block (trees b)) (block_grows b);
    reached = λ scope x low e m le.
        let k = both_there (s.While scope.statements l) (expr_of raw scope test) (block_tree (trees b) (numbered scope)) x e in
        let g : scope.variables ≤ (after_block (trees b) (numbered scope)).variables = (block_grows b).more (numbered scope) in
        tested x scope.statements k.left (body_doings k.right) m (ap doings (sym k.same) ∙ doings-While scope.statements l k.left k.right) (expr_is scope test k.left m low (omega (arith, g, le)) k.left_there) (list_reached b (opened (numbered scope)) k.right low k.right_there m le);
  }
  layer_case (RawStatement-F.Do l test b) = record {
    grows = numbered_grows (after_block (trees b)) (block_grows b);
    reached = λ scope x low e m le.
        let k = both_there (s.Do scope.statements l) (expr_of raw scope test) (block_tree (trees b) (numbered scope)) x e in
        let g : scope.variables ≤ (after_block (trees b) (numbered scope)).variables = (block_grows b).more (numbered scope) in
        tested x scope.statements k.left (body_doings k.right) m (ap doings (sym k.same) ∙ doings-Do scope.statements l k.left k.right) (expr_is scope test k.left m low (omega (arith, g, le)) k.left_there) (list_reached b (opened (numbered scope)) k.right low k.right_there m le);
  }
  layer_case (RawStatement-F.For l None test None b) = record { grows = for_grows None None b; reached = λ scope x low e m le. for_reached None None l test b scope x low e m le }
  layer_case (RawStatement-F.For l None test (Some k) b) = record { grows = for_grows None (Some k) b; reached = λ scope x low e m le. for_reached None (Some k) l test b scope x low e m le }
  layer_case (RawStatement-F.For l (Some i) test None b) = record { grows = for_grows (Some i) None b; reached = λ scope x low e m le. for_reached (Some i) None l test b scope x low e m le }
  layer_case (RawStatement-F.For l (Some i) test (Some k) b) = record { grows = for_grows (Some i) (Some k) b; reached = λ scope x low e m le. for_reached (Some i) (Some k) l test b scope x low e m le }
  layer_case (RawStatement-F.Switch l test arms) = record {
    grows = numbered_grows (after_block (arm_trees arms)) (arms_block_grows arms);
    reached = λ scope x low e m le.
        let t = then_there (λ (z : Expr). option_and_then (λ (k : IntType). option_map (s.Switch scope.statements l z) (at_type k (in_order (arm_trees arms) (opened (numbered scope))))) (switch_type raw scope test)) (expr_of raw scope test) x e in
        let u = then_there (λ (k : IntType). option_map (s.Switch scope.statements l t.value) (at_type k (in_order (arm_trees arms) (opened (numbered scope))))) (switch_type raw scope test) x t.same in
        let k = map_there (s.Switch scope.statements l t.value) (at_type u.value (in_order (arm_trees arms) (opened (numbered scope)))) x u.same in
        let g : scope.variables ≤ (after_block (arm_trees arms) (numbered scope)).variables = (arms_block_grows arms).more (numbered scope) in
        tested x scope.statements t.value (arms_doings k.value) m (ap doings (sym k.same) ∙ doings-Switch scope.statements l t.value k.value) (expr_is scope test t.value m low (omega (arith, g, le)) t.there) (arms_reached arms (opened (numbered scope)) u.value k.value low k.there m le);
  }
  layer_case (RawStatement-F.Block l b) = record {
    grows = block_grows b;
    reached = λ scope x low e m le.
        let k = map_there (s.Block l) (block_tree (trees b) scope) x e in
        subst (λ ds. AllReached m ds) (sym (ap doings (sym k.same) ∙ doings-Block l k.value)) (list_reached b (opened scope) k.value low k.there m le);
  }
  layer_case (RawStatement-F.Return l a) = record {
    grows = next_grows;
    reached = λ scope x low e m le.
        let k = map_there (s.Return scope.statements l) (optional (option_map (expr_of raw scope) a)) x e in
        let h = always_is (λ v. Reached m (value_names v)) (optional (option_map (expr_of raw scope) a)) k.value (value_low scope low m le a) k.there in
        subst (IsReached m) k.same (acts (s.Return scope.statements l k.value) _ m (doings-Return scope.statements l k.value) h);
  }

  arm_case : (y : RawArm-F Known KnownArm) → ArmCase (as_arm (arm_layer_of y))
  arm_case y = record {
    grows = list_grows y.body;
    reached = λ scope k a low e m le.
        let z = both_there arm_tree (collected (map (label_tree raw scope k) y.labels)) (collected (in_order (trees y.body) scope)) a e in
        subst (λ (w : Arm). AllReached m (body_doings w.body)) z.same (list_reached y.body scope z.right low z.right_there m le);
  }

  statement_case : (one : RawStatement) → Case (treed raw one)
  statement_case =
      ind-RawStatement (λ one. Case (treed raw one)) (λ a. ArmCase (treed_arm raw a))
      (λ z y is. subst (λ w. Case (treed raw (roll-RawStatement w))) is (subst Case (sym (fold-roll-RawStatement (Scoped (Option Statement)) (Scoped ArmTree) (treed_step raw) (arm_tree_step raw) (layer_of y))) (layer_case y)))
      (λ z y is. subst (λ w. ArmCase (treed_arm raw (roll-RawArm w))) is (subst ArmCase (sym (fold-roll-RawArm (Scoped (Option Statement)) (Scoped ArmTree) (treed_step raw) (arm_tree_step raw) (arm_layer_of y))) (arm_case y)))

  abbrev all_known : List RawStatement → List Known
  all_known b = map (λ (x : RawStatement). let k : Known = (x, statement_case x) in k) b

  same_list : (b : List RawStatement) → map (λ (p : Known). p.0) (all_known b) ≡ b
  same_list [] = refl
  same_list (x ∷ b) = ap (λ ys. x ∷ ys) (same_list b)

  -- a body names variables with the property that were numbered before its end
  pub body_reached : (b : List RawStatement) (scope : Scope) (xs : List Statement) → Spans P scope → body_of raw b scope ≡ Some xs → (m : ℕ) → (after_all (map (treed raw) b) scope).variables ≤ m → AllReached m (body_doings xs)
  body_reached b scope xs low e m le =
      list_reached (all_known b) scope xs low (ap (λ c. collected (in_order (map (treed raw) c) scope)) (same_list b) ∙ e) m (subst (λ c. (after_all (map (treed raw) c) scope).variables ≤ m) (sym (same_list b)) le)

  pub body_grows : (b : List RawStatement) → Grows (after_all (map (treed raw) b))
  body_grows b = subst (λ c. Grows (after_all (map (treed raw) c))) (same_list b) (list_grows (all_known b))
