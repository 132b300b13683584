-- Nothing stays in an if, loop or switch that isn't kept, in a text of any form: a variable that is declared in a block is named there alone.
use Rattle.std.proofs.Common.{◌≡◌, ℕ, ◌+◌, ◌≤◌, ◌<◌, List, [], ◌∷◌, ◌++◌, map, Bool, true, false, not, ◌&&◌, ◌||◌, ◌⊎◌, inl, inr, Option, Some, None, option_map, option_and_then, bytes_eq, refl, sym, ap, ap₂, subst, ◌∙◌, arith, le_trans, lt_of_lt_of_le, le_refl}
use Rattle.std.specs.Prelude.{codes}
use Rattle.std.proofs.lemmas.Bool.{and_parts, and_from, or_cases, or_left, or_right}
use Rattle.c_arith.specs.declared.int_type.IntType.{IntType}
use Rattle.c_tree.specs.declared.types.CType.{CType}
use Rattle.c_tree.specs.declared.expr.Expr.{Expr}
use Rattle.c_tree.specs.declared.raw.expr.RawExpr.{RawExpr}
use Rattle.c_tree.specs.declared.raw.expr.RawVar.{RawVar}
use Rattle.c_tree.specs.declared.raw.program.RawInit.{RawInit}
use Rattle.c_tree.specs.declared.raw.program.RawInit.TheVariants as init
use Rattle.c_tree.specs.declared.raw.program.RawProgram.{RawProgram}
use Rattle.c_tree.specs.declared.raw.statement.RawArg.{RawArg}
use Rattle.c_tree.specs.declared.raw.statement.RawArm.{RawArm, roll-RawArm, map-RawArm, fold-roll-RawArm}
use Rattle.c_tree.specs.declared.raw.statement.RawStatement.{RawStatement, ind-RawStatement, roll-RawStatement, map-RawStatement, fold-roll-RawStatement}
use Rattle.c_tree.specs.declared.raw.statement.RawStatement.TheOpen.{RawStatement-F, RawArm-F}
use Rattle.c_tree.specs.declared.raw.statement.RawTarget.{RawTarget}
use Rattle.c_tree.specs.declared.raw.statement.RawTarget.TheVariants as target
use Rattle.c_tree.specs.declared.statement.Amount.{Amount}
use Rattle.c_tree.specs.declared.statement.Arm.{Arm, fold-roll-Arm}
use Rattle.c_tree.specs.declared.statement.Statement.{Statement, roll-Statement, map-Statement, fold-roll-Statement}
use Rattle.c_tree.specs.declared.statement.Statement.TheOpen.{Statement-F}
use Rattle.c_tree.specs.declared.statement.Statement.TheVariants as s
use Rattle.c_tree.specs.declared.statement.Target.{Target}
use Rattle.c_tree.specs.declared.statement.Target.TheVariants as to_place
use Rattle.c_language.specs.Words.{Bytes}
use Rattle.c_language.specs.CallRules.{format_in, later_args}
use Rattle.c_language.specs.Code.{Tests}
use Rattle.c_language.specs.ConstantEvaluation.{both}
use Rattle.c_language.specs.DeclaredTypes.{function_id}
use Rattle.c_language.specs.Names.{names}
use Rattle.c_language.specs.Phrases.{Stand, InBlock, InArm, InFor, Tests as TestOf, Phrases, phrase, joined_at, block_phrases, ArmText, phrases_of_arms, scoped_step, scoped_arm, scoped, scoped_of_arm, body_phrases}
use Rattle.c_language.specs.ProgramOf.{collected, optional, ctype_if, expr_of, init_of, declaration_id, target_tree, args_tree, only_tree, amount_tree, call_tree, invoke_tree, label_tree, arm_tree, ArmTree, arm_tree_step, block_tree, at_type, switch_type, for_tree, treed_step, treed, treed_arm}
use Rattle.c_language.specs.Rules.{Breaks, AreKept}
use Rattle.c_language.specs.Scopes.{Scope, Scoped, opened, numbered, with_variable, with_target, begun, in_order, after_all, after_block}
use Rattle.c_language.specs.SwitchRules.{MisplacesDeclaration}
use Rattle.c_language.specs.TypeGrammar.{named_type}
use Rattle.c_language.proofs.Options.{some_same, optional_there, map_there, then_there, both_there, more_there}
use Rattle.c_language.proofs.PhraseLists.{body_in_order, kept_first, kept_second}
use Rattle.c_language.proofs.Tests.{false_true, by_or}
use Rattle.c_language.proofs.TreeScopes.{after_same, list_after, block_after_same}
use Rattle.dep_model.proofs.Options.{Always, always_map, always_then, always_if, always_is}
use Rattle.dep_model.specs.Doings.{Doing, Does, doing_number, doings, body_doings}
use Rattle.dep_model.proofs.DoingForms.{arms_doings, part_doings, doings-Declare, doings-Assign, doings-Bump, doings-Invoke, doings-Fetch, doings-Write, doings-Print, doings-Heap, doings-Release, doings-Return, doings-If, doings-While, doings-Do, doings-Switch, doings-Block, doings-For}
use Rattle.dep_model.proofs.Membership.{IsIn, in_first}
use Rattle.dep_model.proofs.TextNumbers.{for_some}
use Rattle.projection.specs.Kept.{KeptWords, Kept}
use Rattle.projection_laws.specs.Nested.{Nest, any_kept, all_fit, part_kept, part_fits, governs, nest_step, nest_arm, nest, arm_nest}
use Rattle.projection_laws.specs.Staying.{Rest, any_stays, all_clear, part_stays, part_clear, target_stays, rest_step, rest_arm, rest, arm_rest}
use Rattle.hanging_sets.specs.Hanging.{words_in}
use Rattle.kept_texts.proofs.ExprNames.{expr_reaches}
use Rattle.hanging_sets.proofs.NamedDoings.{kept_names, any_named, any-append, in_of_named, kept_named, kept_number}
use Rattle.kept_texts.proofs.NamesReach.{AllReached, one_reached, body_reached, body_grows}
use Rattle.kept_texts.proofs.NestedDoings.{any_done, done-append, nest_doings}
use Rattle.kept_texts.proofs.Spans.{holds_found, Spans, spans_later, Gap, not_between, Any, gap_spans}

-- what governs all that is kept inside governs all that stays inside
pub governs_clear : (t kept stays : Bool) → governs t kept ≡ true → (stays ≡ true → kept ≡ true) → governs t stays ≡ true
governs_clear true kept stays g f = refl
governs_clear false kept true g f = false_true (sym (ap not (f refl)) ∙ g)
governs_clear false kept false g f = refl

module _ (raw : RawProgram) (k : Kept ℕ) where
  abbrev keeps : ℕ → Bool
  keeps = k.statement

  abbrev words : KeptWords
  words = words_in k

  abbrev rest_of : Statement → Rest
  rest_of = rest k.statement k.variable

  abbrev rest_of_arm : Arm → Rest
  rest_of_arm = arm_rest k.statement k.variable

  -- ---- what is kept of some statements

  abbrev pub KeptIn : List Doing → Type 0
  KeptIn ds = any_done k.statement ds ≡ true

  -- a kept variable that is numbered from m on, before n
  pub record VarIn (m n : ℕ) : Type 0 where
    pub id : ℕ
    pub kept : k.variable id ≡ true
    pub from : m ≤ id
    pub below : id < n

  -- each such variable is named by the kept words of one of the statements
  abbrev pub Inside : List Doing → ℕ → ℕ → Type 0
  Inside ds m n = (id : ℕ) → k.variable id ≡ true → m ≤ id → id < n → any_named words ds id ≡ true

  -- what stays is kept, or declares a kept variable
  abbrev Stays : Bool → List Doing → ℕ → ℕ → Type 0
  Stays b ds m n = b ≡ true → KeptIn ds ⊎ VarIn m n

  wider : {m n o q : ℕ} → o ≤ m → n ≤ q → VarIn m n → VarIn o q
  wider low high v = let from = v.from in record { id = v.id; kept = v.kept; from = le_trans low from; below = lt_of_lt_of_le v.below high }

  done_in : (ds : List Doing) (d : Doing) → IsIn ds d → keeps (doing_number d) ≡ true → KeptIn ds
  done_in [] d m h = absurd m
  done_in (e ∷ ds) d (inl q) h = or_left (keeps (doing_number e)) _ (subst (λ (x : Doing). keeps (doing_number x) ≡ true) (sym q) h)
  done_in (e ∷ ds) d (inr m) h = or_right (keeps (doing_number e)) _ (done_in ds d m h)

  named_kept : (ds : List Doing) (id : ℕ) → any_named words ds id ≡ true → KeptIn ds
  named_kept ds id h = let w = in_of_named words ds id h in done_in ds w.doing w.member (kept_number words w.doing id w.names)

  held : (b : Bool) (ds : List Doing) (m n : ℕ) → Stays b ds m n → Inside ds m n → b ≡ true → KeptIn ds
  held b ds m n stays inside h = elim (stays h) [
    | inl a ↦ a
    | inr v ↦ named_kept ds v.id (inside v.id v.kept v.from v.below)
  ]

  stays_both : (b c : Bool) (ds es : List Doing) (m n o : ℕ) → m ≤ n → n ≤ o → Stays b ds m n → Stays c es n o → Stays (b || c) (ds ++ es) m o
  stays_both b c ds es m n o low high f g h = elim (or_cases b c h) [
    | inl x ↦ elim (f x) [ inl y ↦ inl (done-append keeps ds es ∙ or_left (any_done keeps ds) _ y) | inr v ↦ inr (wider (le_refl m) high v) ]
    | inr x ↦ elim (g x) [ inl y ↦ inl (done-append keeps ds es ∙ or_right (any_done keeps ds) _ y) | inr v ↦ inr (wider low (le_refl o) v) ]
  ]

  -- what kept words name, of statements whose names have a property
  named_reached : (P : ℕ → Type 0) (m : ℕ) (ds : List Doing) → AllReached raw P m ds → (id : ℕ) → any_named words ds id ≡ true → P id × (id < m)
  named_reached P m ds all id h = let w = in_of_named words ds id h in one_reached raw P m ds w.doing all w.member id (kept_named words w.doing id w.names)

  list_named : (P : ℕ → Type 0) (xs : List RawStatement) (scope : Scope) (zs : List Statement) → Spans P scope → collected (in_order (map (treed raw) xs) scope) ≡ Some zs
      → (id : ℕ) → any_named words (body_doings zs) id ≡ true → P id × (id < (after_all (map (treed raw) xs) scope).variables)
  list_named P xs scope zs spans e id h = named_reached P _ (body_doings zs) (body_reached raw P xs scope zs spans e _ (le_refl _)) id h

  -- a test names what was numbered before
  test_below : (scope : Scope) (a : RawExpr) (u : Expr) → Spans Any scope → expr_of raw scope a ≡ Some u → (id : ℕ) → names u id ≡ true → id < scope.variables
  test_below scope a u spans e id h = (expr_reaches raw scope (λ (z : ℕ). Any z × (z < scope.variables)) (λ x j q. holds_found Any scope.variables x scope.names j q spans.0) a u e id h).1

  expr_gap : (scope : Scope) (a : RawExpr) (u : Expr) (m n : ℕ) → Spans (Gap m n) scope → expr_of raw scope a ≡ Some u → (id : ℕ) → names u id ≡ true → Gap m n id
  expr_gap scope a u m n spans e id h = (expr_reaches raw scope (λ (z : ℕ). Gap m n z × (z < scope.variables)) (λ x j q. holds_found (Gap m n) scope.variables x scope.names j q spans.0) a u e id h).0

  -- ---- trees

  rest_is : (z : Statement-F Statement Arm) (x : Statement) → roll-Statement z ≡ x → rest_of x ≡ rest_step k.statement k.variable (map-Statement Statement Arm Rest Rest rest_of rest_of_arm z)
  rest_is z x is = ap rest_of (sym is) ∙ fold-roll-Statement Rest Rest (rest_step k.statement k.variable) (rest_arm k.statement k.variable) z

  nest_is : (z : Statement-F Statement Arm) (x : Statement) → roll-Statement z ≡ x → nest keeps x ≡ nest_step keeps (map-Statement Statement Arm Nest Nest (nest keeps) (arm_nest keeps) z)
  nest_is z x is = ap (nest keeps) (sym is) ∙ fold-roll-Statement Nest Nest (nest_step keeps) (nest_arm keeps) z

  kept_list : (zs : List Statement) → any_kept (map (nest keeps) zs) ≡ any_done keeps (body_doings zs)
  kept_list [] = refl
  kept_list (z ∷ zs) = ap₂ (λ a b. a || b) (nest_doings keeps z) (kept_list zs) ∙ sym (done-append keeps (doings z) (body_doings zs))

  arm_rest_is : (a : Arm) → rest_of_arm a ≡ record { stays = any_stays (map rest_of a.body); clear = all_clear (map rest_of a.body) }
  arm_rest_is a = fold-roll-Arm Rest Rest (rest_step k.statement k.variable) (rest_arm k.statement k.variable) (record { labels = a.labels; body = a.body })

  arm_nest_is : (a : Arm) → arm_nest keeps a ≡ record { keeps = any_kept (map (nest keeps) a.body); fits = all_fit (map (nest keeps) a.body) }
  arm_nest_is a = fold-roll-Arm Nest Nest (nest_step keeps) (nest_arm keeps) (record { labels = a.labels; body = a.body })

  kept_arms : (arms : List Arm) → any_kept (map (arm_nest keeps) arms) ≡ any_done keeps (arms_doings arms)
  kept_arms [] = refl
  kept_arms (a ∷ arms) = ap₂ (λ x y. x || y) (ap (λ (n : Nest). n.keeps) (arm_nest_is a) ∙ kept_list a.body) (kept_arms arms) ∙ sym (done-append keeps (body_doings a.body) (arms_doings arms))

  -- ---- statements without parts

  -- clear, and what stays of it is kept or declares a variable with a number from m on, before n
  record IsSimple (m n : ℕ) (x : Statement) : Type 0 where
    stays : Stays (rest_of x).stays (doings x) m n
    clear : (rest_of x).clear ≡ true

  target_in : (to : RawTarget) (scope : Scope) (t : Target) → target_tree raw scope to ≡ Some t → target_stays keeps k.variable t ≡ true → VarIn scope.variables (with_target raw to scope).variables
  target_in target.None scope t e h = false_true (ap (target_stays keeps k.variable) (some_same e) ∙ h)
  target_in (target.Place a) scope t e h =
      let m = map_there to_place.Place (expr_of raw scope a) t e in false_true (ap (target_stays keeps k.variable) m.same ∙ h)
  target_in (target.Declared v) scope t e h =
      record { id = scope.variables; kept = ap (target_stays keeps k.variable) (some_same e) ∙ h; from = le_refl scope.variables; below = omega arith }

  own_kept : (x : Statement) (d : Doing) → doings x ≡ d ∷ [] → keeps (doing_number d) ≡ true → KeptIn (doings x)
  own_kept x d is h = subst KeptIn (sym is) (or_left (keeps (doing_number d)) false h)

  -- a statement of one act or call that declares nothing
  alone_simple : (m n : ℕ) (z : Statement-F Statement Arm) (x : Statement) (d : Doing) → roll-Statement z ≡ x → doings x ≡ d ∷ []
      → rest_step k.statement k.variable (map-Statement Statement Arm Rest Rest rest_of rest_of_arm z) ≡ record { stays = keeps (doing_number d); clear = true } → IsSimple m n x
  alone_simple m n z x d is does r =
      let q = rest_is z x is ∙ r in
      record { stays = λ h. inl (own_kept x d does (sym (ap (λ (y : Rest). y.stays) q) ∙ h)); clear = ap (λ (y : Rest). y.clear) q }

  -- one that may declare the variable of its target
  target_simple : (to : RawTarget) (scope : Scope) (t : Target) (z : Statement-F Statement Arm) (x : Statement) (d : Doing) → target_tree raw scope to ≡ Some t → roll-Statement z ≡ x → doings x ≡ d ∷ []
      → rest_step k.statement k.variable (map-Statement Statement Arm Rest Rest rest_of rest_of_arm z) ≡ record { stays = keeps (doing_number d) || target_stays keeps k.variable t; clear = true }
      → IsSimple scope.variables (with_target raw to scope).variables x
  target_simple to scope t z x d e is does r =
      let q = rest_is z x is ∙ r in
      record {
        stays = λ h. elim (or_cases (keeps (doing_number d)) (target_stays keeps k.variable t) (sym (ap (λ (y : Rest). y.stays) q) ∙ h)) [
          | inl a ↦ inl (own_kept x d does a)
          | inr b ↦ inr (target_in to scope t e b)
        ];
        clear = ap (λ (y : Rest). y.clear) q;
      }

  always_there : {A : Type 0} (P : A → Type 0) (o : Option A) → ((x : A) → o ≡ Some x → P x) → Always P o
  always_there P None h = tt
  always_there P (Some x) h = h x refl

  call_simple : (scope : Scope) (to : RawTarget) (id l : ℕ) (f : Bytes) (args : List RawArg)
      → Always (IsSimple scope.variables (with_target raw to scope).variables) (call_tree raw (with_target raw to scope) id l (target_tree raw scope to) f args)
  call_simple scope to id l f args =
      let inner = with_target raw to scope in
      let t = target_tree raw scope to in
      let Q : Statement → Type 0 = IsSimple scope.variables inner.variables in
      always_if Q (bytes_eq f (codes "getchar")) _ _ (always_there Q (option_map (s.Fetch id l) t) (λ x e. let m = map_there (s.Fetch id l) t x e in subst Q m.same (target_simple to scope m.value (Statement-F.Fetch id l m.value) (s.Fetch id l m.value) _ m.there (s.rolls-Fetch id l m.value) (doings-Fetch id l m.value) refl)))
      (always_if Q (bytes_eq f (codes "putchar")) _ _ (always_map Q (s.Write id l) (only_tree raw inner args) (λ e. alone_simple scope.variables inner.variables (Statement-F.Write id l e) (s.Write id l e) _ (s.rolls-Write id l e) (doings-Write id l e) refl))
      (always_if Q (bytes_eq f (codes "printf")) _ _ (always_then Q _ (format_in args) (λ text. always_map Q (s.Print id l text) (args_tree raw inner (later_args args)) (λ es. alone_simple scope.variables inner.variables (Statement-F.Print id l text es) (s.Print id l text es) _ (s.rolls-Print id l text es) (doings-Print id l text es) refl)))
      (always_if Q (bytes_eq f (codes "free")) _ _ (always_map Q (s.Release id l) (only_tree raw inner args) (λ e. alone_simple scope.variables inner.variables (Statement-F.Release id l e) (s.Release id l e) _ (s.rolls-Release id l e) (doings-Release id l e) refl))
      (always_there Q (invoke_tree raw inner id l t f args) (λ x e.
      let a = then_there (λ (z : Target). both (s.Invoke id l z) (function_id raw f) (args_tree raw inner args)) t x e in
      let m = both_there (s.Invoke id l a.value) (function_id raw f) (args_tree raw inner args) x a.same in
      subst Q m.same (target_simple to scope a.value (Statement-F.Invoke id l a.value m.left m.right) (s.Invoke id l a.value m.left m.right) _ a.there (s.rolls-Invoke id l a.value m.left m.right) (doings-Invoke id l a.value m.left m.right) refl))))))

  heap_simple : (scope : Scope) (to : RawTarget) (id l : ℕ) (c : Option (Option CType)) (n : Option Amount)
      → Always (IsSimple scope.variables (with_target raw to scope).variables) (option_and_then (λ (t : Target). option_and_then (λ (q : Option CType). option_map (s.Heap id l t q) n) c) (target_tree raw scope to))
  heap_simple scope to id l c n =
      let Q : Statement → Type 0 = IsSimple scope.variables (with_target raw to scope).variables in
      always_there Q _ (λ x e.
      let a = then_there (λ (t : Target). option_and_then (λ (q : Option CType). option_map (s.Heap id l t q) n) c) (target_tree raw scope to) x e in
      let b = then_there (λ (q : Option CType). option_map (s.Heap id l a.value q) n) c x a.same in
      let m = map_there (s.Heap id l a.value b.value) n x b.same in
      subst Q m.same (target_simple to scope a.value (Statement-F.Heap id l a.value b.value m.value) (s.Heap id l a.value b.value m.value) _ a.there (s.rolls-Heap id l a.value b.value m.value) (doings-Heap id l a.value b.value m.value) refl))

  -- ---- a statement in the tree and as phrases

  record Case (t : Scoped (Option Statement)) (w : Scoped (Stand → Phrases)) : Type 0 where
    more : (scope : Scope) → scope.variables ≤ (t.after scope).variables
    stays : (scope : Scope) (x : Statement) → t.gives scope ≡ Some x → Stays (rest_of x).stays (doings x) scope.variables (t.after scope).variables
    -- where it declares nothing for what follows, each kept variable that it declares is named in it
    clear : (scope : Scope) (stand : Stand) (x : Statement) → Spans Any scope → t.gives scope ≡ Some x → AreKept raw (w.gives scope stand) → (nest keeps x).fits ≡ true
        → ((t.after scope).names ≡ scope.names → Inside (doings x) scope.variables (t.after scope).variables) → (rest_of x).clear ≡ true
    -- directly in an arm it declares nothing for what follows
    still : (scope : Scope) → AreKept raw (w.gives scope InArm) → (t.after scope).names ≡ scope.names

  record ArmCase (t : Scoped ArmTree) (w : Scoped ArmText) : Type 0 where
    more : (scope : Scope) → scope.variables ≤ (t.after scope).variables
    stays : (scope : Scope) (i : IntType) (a : Arm) → t.gives scope i ≡ Some a → Stays (rest_of_arm a).stays (body_doings a.body) scope.variables (t.after scope).variables
    clear : (scope : Scope) (i : IntType) (a : Arm) → Spans Any scope → t.gives scope i ≡ Some a → AreKept raw (w.gives scope).phrases → (arm_nest keeps a).fits ≡ true
        → Inside (body_doings a.body) scope.variables (t.after scope).variables → (rest_of_arm a).clear ≡ true
    still : (scope : Scope) → AreKept raw (w.gives scope).phrases → (t.after scope).names ≡ scope.names
    same : (scope : Scope) → t.after scope ≡ w.after scope
    -- the statements of the arm
    body : List RawStatement
    after_is : (scope : Scope) → t.after scope ≡ after_all (map (treed raw) body) scope
    tree_is : (scope : Scope) (i : IntType) (a : Arm) → t.gives scope i ≡ Some a → collected (in_order (map (treed raw) body) scope) ≡ Some a.body

  abbrev Known : Type 0
  Known = (one : RawStatement) × Case (treed raw one) (scoped raw one)

  abbrev KnownArm : Type 0
  KnownArm = (a : RawArm) × ArmCase (treed_arm raw a) (scoped_of_arm raw a)

  arm_spans : (P : ℕ → Type 0) (q : KnownArm) (scope : Scope) → Spans P scope → Spans P ((treed_arm raw q.0).after scope)
  arm_spans P q scope s = subst (Spans P) (sym (q.1.after_is scope)) ((body_grows raw P q.1.body).spans scope s)

  arm_named : (P : ℕ → Type 0) (q : KnownArm) (scope : Scope) (i : IntType) (a : Arm) → Spans P scope → (treed_arm raw q.0).gives scope i ≡ Some a
      → (id : ℕ) → any_named words (body_doings a.body) id ≡ true → P id × (id < ((treed_arm raw q.0).after scope).variables)
  arm_named P q scope i a s e id h =
      subst (λ (y : Scope). P id × (id < y.variables)) (sym (q.1.after_is scope)) (list_named P q.1.body scope a.body s (q.1.tree_is scope i a e) id h)

  abbrev rows : List Known → List RawStatement
  rows ks = map (λ (p : Known). p.0) ks

  abbrev trees : List Known → List (Scoped (Option Statement))
  trees ks = map (treed raw) (rows ks)

  abbrev texts : List Known → List (Scoped (Stand → Phrases))
  texts ks = map (scoped raw) (rows ks)

  abbrev arm_trees : List KnownArm → List (Scoped ArmTree)
  arm_trees ks = map (treed_arm raw) (map (λ (p : KnownArm). p.0) ks)

  abbrev arm_texts : List KnownArm → List (Scoped ArmText)
  arm_texts ks = map (scoped_of_arm raw) (map (λ (p : KnownArm). p.0) ks)

  -- ---- lists

  abbrev list_phrases : List Known → Scope → Stand → Phrases
  list_phrases ks scope stand = joined_at stand (in_order (texts ks) scope)

  spans_one : (P : ℕ → Type 0) (x : RawStatement) (scope : Scope) → Spans P scope → Spans P ((treed raw x).after scope)
  spans_one P x scope s = (body_grows raw P (x ∷ [])).spans scope s

  list_more : (ks : List Known) (scope : Scope) → scope.variables ≤ (after_all (trees ks) scope).variables
  list_more [] scope = le_refl scope.variables
  list_more (q ∷ ks) scope = le_trans (q.1.more scope) (list_more ks ((treed raw q.0).after scope))

  list_stays : (ks : List Known) (scope : Scope) (zs : List Statement) → collected (in_order (trees ks) scope) ≡ Some zs → Stays (any_stays (map rest_of zs)) (body_doings zs) scope.variables (after_all (trees ks) scope).variables
  list_stays [] scope zs e = subst (λ (ys : List Statement). Stays (any_stays (map rest_of ys)) (body_doings ys) scope.variables scope.variables) (some_same e) (λ h. false_true h)
  list_stays (q ∷ ks) scope zs e =
      let next = (treed raw q.0).after scope in
      let z = more_there ((treed raw q.0).gives scope) (in_order (trees ks) next) zs e in
      subst (λ (ys : List Statement). Stays (any_stays (map rest_of ys)) (body_doings ys) scope.variables (after_all (trees ks) next).variables) z.same
      (stays_both (rest_of z.first).stays (any_stays (map rest_of z.rest)) (doings z.first) (body_doings z.rest) scope.variables next.variables (after_all (trees ks) next).variables (q.1.more scope) (list_more ks next) (q.1.stays scope z.first z.first_there) (list_stays ks next z.rest z.rest_there))

  one_named : (P : ℕ → Type 0) (x : RawStatement) (scope : Scope) (z : Statement) → Spans P scope → (treed raw x).gives scope ≡ Some z → (id : ℕ) → any_named words (doings z) id ≡ true → P id × (id < ((treed raw x).after scope).variables)
  one_named P x scope z s e id h =
      list_named P (x ∷ []) scope (z ∷ []) s (ap (λ (o : Option Statement). option_and_then (λ (y : Statement). option_map (λ (ys : List Statement). y ∷ ys) (Some [])) o) e) id
      (any-append words (doings z) [] id ∙ or_left (any_named words (doings z) id) false h)

  list_clear : (ks : List Known) (scope : Scope) (stand : Stand) (zs : List Statement) → Spans Any scope → collected (in_order (trees ks) scope) ≡ Some zs → AreKept raw (list_phrases ks scope stand) → all_fit (map (nest keeps) zs) ≡ true
      → Inside (body_doings zs) scope.variables (after_all (trees ks) scope).variables → all_clear (map rest_of zs) ≡ true
  list_clear [] scope stand zs s e kept fit inside = subst (λ (ys : List Statement). all_clear (map rest_of ys) ≡ true) (some_same e) refl
  list_clear (q ∷ ks) scope stand zs s e kept fit inside =
      let next = (treed raw q.0).after scope in
      let place = (scoped raw q.0).after scope in
      let end = after_all (trees ks) next in
      let z = more_there ((treed raw q.0).gives scope) (in_order (trees ks) next) zs e in
      let f = and_parts (nest keeps z.first).fits (all_fit (map (nest keeps) z.rest)) (ap (λ (ys : List Statement). all_fit (map (nest keeps) ys)) z.same ∙ fit) in
      let whole : Inside (doings z.first ++ body_doings z.rest) scope.variables end.variables = λ id v m n. ap (λ (ys : List Statement). any_named words (body_doings ys) id) z.same ∙ inside id v m n in
      let split = λ (id : ℕ) (h : any_named words (doings z.first ++ body_doings z.rest) id ≡ true). sym (any-append words (doings z.first) (body_doings z.rest) id) ∙ h in
      let first = q.1.clear scope stand z.first s z.first_there (kept_first raw ((scoped raw q.0).gives scope stand) (list_phrases ks place stand) kept) f.0
      (λ same id v m n. by_or (any_named words (doings z.first) id) (any_named words (body_doings z.rest) id) (split id (whole id v m (lt_of_lt_of_le n (list_more ks next)))) (λ r. r)
      (λ r. not_between scope.variables next.variables id (list_named (Gap scope.variables next.variables) (rows ks) next z.rest (gap_spans scope next s same (q.1.more scope)) z.rest_there id r).0 m n)) in
      let rest = list_clear ks next stand z.rest (spans_one Any q.0 scope s) z.rest_there
      (subst (λ (y : Scope). AreKept raw (list_phrases ks y stand)) (sym (after_same raw q.0 scope)) (kept_second raw ((scoped raw q.0).gives scope stand) (list_phrases ks place stand) kept)) f.1
      (λ id v m n. by_or (any_named words (doings z.first) id) (any_named words (body_doings z.rest) id) (split id (whole id v (le_trans (q.1.more scope) m) n))
      (λ r. let below = (one_named Any q.0 scope z.first s z.first_there id r).1 in absurd (omega (arith, below, m))) (λ r. r)) in
      subst (λ (ys : List Statement). all_clear (map rest_of ys) ≡ true) z.same (and_from (rest_of z.first).clear (all_clear (map rest_of z.rest)) first rest)

  list_still : (ks : List Known) (scope : Scope) → AreKept raw (list_phrases ks scope InArm) → (after_all (trees ks) scope).names ≡ scope.names
  list_still [] scope kept = refl
  list_still (q ∷ ks) scope kept =
      let next = (treed raw q.0).after scope in
      let place = (scoped raw q.0).after scope in
      list_still ks next (subst (λ (y : Scope). AreKept raw (list_phrases ks y InArm)) (sym (after_same raw q.0 scope)) (kept_second raw ((scoped raw q.0).gives scope InArm) (list_phrases ks place InArm) kept))
      ∙ q.1.still scope (kept_first raw ((scoped raw q.0).gives scope InArm) (list_phrases ks place InArm) kept)

  -- ---- arms

  arms_more : (ks : List KnownArm) (scope : Scope) → scope.variables ≤ (after_all (arm_trees ks) scope).variables
  arms_more [] scope = le_refl scope.variables
  arms_more (q ∷ ks) scope = le_trans (q.1.more scope) (arms_more ks ((treed_arm raw q.0).after scope))

  arms_stay : (ks : List KnownArm) (scope : Scope) (i : IntType) (as_ : List Arm) → at_type i (in_order (arm_trees ks) scope) ≡ Some as_ → Stays (any_stays (map rest_of_arm as_)) (arms_doings as_) scope.variables (after_all (arm_trees ks) scope).variables
  arms_stay [] scope i as_ e = subst (λ (ys : List Arm). Stays (any_stays (map rest_of_arm ys)) (arms_doings ys) scope.variables scope.variables) (some_same e) (λ h. false_true h)
  arms_stay (q ∷ ks) scope i as_ e =
      let next = (treed_arm raw q.0).after scope in
      let z = more_there ((treed_arm raw q.0).gives scope i) (map (λ (a : ArmTree). a i) (in_order (arm_trees ks) next)) as_ e in
      subst (λ (ys : List Arm). Stays (any_stays (map rest_of_arm ys)) (arms_doings ys) scope.variables (after_all (arm_trees ks) next).variables) z.same
      (stays_both (rest_of_arm z.first).stays (any_stays (map rest_of_arm z.rest)) (body_doings z.first.body) (arms_doings z.rest) scope.variables next.variables (after_all (arm_trees ks) next).variables (q.1.more scope) (arms_more ks next) (q.1.stays scope i z.first z.first_there) (arms_stay ks next i z.rest z.rest_there))

  arms_named : (P : ℕ → Type 0) (ks : List KnownArm) (scope : Scope) (i : IntType) (as_ : List Arm) → Spans P scope → at_type i (in_order (arm_trees ks) scope) ≡ Some as_ → (id : ℕ) → any_named words (arms_doings as_) id ≡ true → P id × (id < (after_all (arm_trees ks) scope).variables)
  arms_named P [] scope i as_ s e id h = false_true (ap (λ (ys : List Arm). any_named words (arms_doings ys) id) (some_same e) ∙ h)
  arms_named P (q ∷ ks) scope i as_ s e id h =
      let next = (treed_arm raw q.0).after scope in
      let z = more_there ((treed_arm raw q.0).gives scope i) (map (λ (a : ArmTree). a i) (in_order (arm_trees ks) next)) as_ e in
      by_or (any_named words (body_doings z.first.body) id) (any_named words (arms_doings z.rest) id)
      (sym (any-append words (body_doings z.first.body) (arms_doings z.rest) id) ∙ ap (λ (ys : List Arm). any_named words (arms_doings ys) id) z.same ∙ h)
      (λ r. let w = arm_named P q scope i z.first s z.first_there id r in (w.0, lt_of_lt_of_le w.1 (arms_more ks next)))
      (λ r. arms_named P ks next i z.rest (arm_spans P q scope s) z.rest_there id r)

  arms_clear : (ks : List KnownArm) (scope : Scope) (i : IntType) (as_ : List Arm) → Spans Any scope → at_type i (in_order (arm_trees ks) scope) ≡ Some as_ → AreKept raw (phrases_of_arms (in_order (arm_texts ks) scope)) → all_fit (map (arm_nest keeps) as_) ≡ true
      → Inside (arms_doings as_) scope.variables (after_all (arm_trees ks) scope).variables → all_clear (map rest_of_arm as_) ≡ true
  arms_clear [] scope i as_ s e kept fit inside = subst (λ (ys : List Arm). all_clear (map rest_of_arm ys) ≡ true) (some_same e) refl
  arms_clear (q ∷ ks) scope i as_ s e kept fit inside =
      let next = (treed_arm raw q.0).after scope in
      let place = (scoped_of_arm raw q.0).after scope in
      let end = after_all (arm_trees ks) next in
      let own = ((scoped_of_arm raw q.0).gives scope).phrases in
      let later = phrases_of_arms (in_order (arm_texts ks) place) in
      let z = more_there ((treed_arm raw q.0).gives scope i) (map (λ (a : ArmTree). a i) (in_order (arm_trees ks) next)) as_ e in
      let f = and_parts (arm_nest keeps z.first).fits (all_fit (map (arm_nest keeps) z.rest)) (ap (λ (ys : List Arm). all_fit (map (arm_nest keeps) ys)) z.same ∙ fit) in
      let here = kept_first raw own later kept in
      let split = λ (id : ℕ) (v : k.variable id ≡ true) (m : scope.variables ≤ id) (n : id < end.variables).
      sym (any-append words (body_doings z.first.body) (arms_doings z.rest) id) ∙ ap (λ (ys : List Arm). any_named words (arms_doings ys) id) z.same ∙ inside id v m n in
      let first = q.1.clear scope i z.first s z.first_there here f.0
      (λ id v m n. by_or (any_named words (body_doings z.first.body) id) (any_named words (arms_doings z.rest) id) (split id v m (lt_of_lt_of_le n (arms_more ks next))) (λ r. r)
      (λ r. not_between scope.variables next.variables id (arms_named (Gap scope.variables next.variables) ks next i z.rest (gap_spans scope next s (q.1.still scope here) (q.1.more scope)) z.rest_there id r).0 m n)) in
      let rest = arms_clear ks next i z.rest (arm_spans Any q scope s) z.rest_there (subst (λ (y : Scope). AreKept raw (phrases_of_arms (in_order (arm_texts ks) y))) (sym (q.1.same scope)) (kept_second raw own later kept)) f.1
      (λ id v m n. by_or (any_named words (body_doings z.first.body) id) (any_named words (arms_doings z.rest) id) (split id v (le_trans (q.1.more scope) m) n)
      (λ r. let below = (arm_named Any q scope i z.first s z.first_there id r).1 in absurd (omega (arith, below, m))) (λ r. r)) in
      subst (λ (ys : List Arm). all_clear (map rest_of_arm ys) ≡ true) z.same (and_from (rest_of_arm z.first).clear (all_clear (map rest_of_arm z.rest)) first rest)

  -- ---- parts of what is inside

  past_test : (i : ℕ) (scope : Scope) (a : RawExpr) (u : Expr) (ds : List Doing) (m n : ℕ) → Spans Any scope → expr_of raw scope a ≡ Some u → scope.variables ≤ m → Inside (Does i (Tests u) ∷ ds) m n → Inside ds m n
  past_test i scope a u ds m n s e le inside id v low high =
      by_or (kept_names words (Does i (Tests u)) id) (any_named words ds id) (inside id v low high)
      (λ r. let below = test_below scope a u s e id (and_parts (keeps i) (names u id) r).1 in absurd (omega (arith, below, le, low))) (λ r. r)

  first_inside : (ds es : List Doing) (m mid n : ℕ) → mid ≤ n → Inside (ds ++ es) m n → ((id : ℕ) → any_named words es id ≡ true → Gap m mid id) → Inside ds m mid
  first_inside ds es m mid n le inside gap id v low high =
      by_or (any_named words ds id) (any_named words es id) (sym (any-append words ds es id) ∙ inside id v low (lt_of_lt_of_le high le)) (λ r. r) (λ r. not_between m mid id (gap id r) low high)

  second_inside : (ds es : List Doing) (m mid n : ℕ) → m ≤ mid → Inside (ds ++ es) m n → ((id : ℕ) → any_named words ds id ≡ true → id < mid) → Inside es mid n
  second_inside ds es m mid n le inside below id v low high =
      by_or (any_named words ds id) (any_named words es id) (sym (any-append words ds es id) ∙ inside id v (le_trans le low) high)
      (λ r. let lt = below id r in absurd (omega (arith, lt, low))) (λ r. r)

  moved_inside : (ds es : List Doing) (m n : ℕ) → ds ≡ es → Inside ds m n → Inside es m n
  moved_inside ds es m n is inside id v low high = subst (λ (xs : List Doing). any_named words xs id ≡ true) is (inside id v low high)

  -- a statement whose test is kept is kept
  test_kept : (x : Statement) (i : ℕ) (u : Expr) (ds : List Doing) → doings x ≡ Does i (Tests u) ∷ ds → keeps i ≡ true → KeptIn (doings x)
  test_kept x i u ds is h = subst KeptIn (sym is) (or_left (keeps i) _ h)

  -- what stays of a block is kept in it
  block_held : (ks : List Known) (scope : Scope) (zs : List Statement) → collected (in_order (trees ks) scope) ≡ Some zs → Inside (body_doings zs) scope.variables (after_all (trees ks) scope).variables
      → any_stays (map rest_of zs) ≡ true → any_kept (map (nest keeps) zs) ≡ true
  block_held ks scope zs e inside h = kept_list zs ∙ held (any_stays (map rest_of zs)) (body_doings zs) _ _ (list_stays ks scope zs e) inside h

  -- ---- forms

  abbrev layer_of : RawStatement-F Known KnownArm → RawStatement-F RawStatement RawArm
  layer_of = map-RawStatement Known KnownArm RawStatement RawArm (λ p. p.0) (λ p. p.0)

  abbrev arm_layer_of : RawArm-F Known KnownArm → RawArm-F RawStatement RawArm
  arm_layer_of = map-RawArm Known KnownArm RawStatement RawArm (λ p. p.0) (λ p. p.0)

  abbrev as_tree : RawStatement-F RawStatement RawArm → Scoped (Option Statement)
  as_tree y = treed_step raw (map-RawStatement RawStatement RawArm (Scoped (Option Statement)) (Scoped ArmTree) (treed raw) (treed_arm raw) y)

  abbrev as_text : RawStatement-F RawStatement RawArm → Scoped (Stand → Phrases)
  as_text y = scoped_step raw (map-RawStatement RawStatement RawArm (Scoped (Stand → Phrases)) (Scoped ArmText) (scoped raw) (scoped_of_arm raw) y)

  abbrev as_arm_tree : RawArm-F RawStatement RawArm → Scoped ArmTree
  as_arm_tree y = arm_tree_step raw (map-RawArm RawStatement RawArm (Scoped (Option Statement)) (Scoped ArmTree) (treed raw) (treed_arm raw) y)

  abbrev as_arm_text : RawArm-F RawStatement RawArm → Scoped ArmText
  as_arm_text y = scoped_arm (map-RawArm RawStatement RawArm (Scoped (Stand → Phrases)) (Scoped ArmText) (scoped raw) (scoped_of_arm raw) y)

  declare_simple : (scope : Scope) (v : RawVar) (l : ℕ) (i : RawInit) (x : Statement)
      → option_map (s.Declare (declaration_id i scope.statements) l scope.variables) (init_of raw (with_variable raw v i scope) i) ≡ Some x → IsSimple scope.variables (scope.variables + 1) x
  declare_simple scope v l i x e =
      let m = map_there (s.Declare (declaration_id i scope.statements) l scope.variables) (init_of raw (with_variable raw v i scope) i) x e in
      by_id (declaration_id i scope.statements) m.value m.same
    where
      variable_in : k.variable scope.variables ≡ true → VarIn scope.variables (scope.variables + 1)
      variable_in h = record { id = scope.variables; kept = h; from = le_refl scope.variables; below = omega arith }

      by_id : (id : Option ℕ) (j : _) → s.Declare id l scope.variables j ≡ x → IsSimple scope.variables (scope.variables + 1) x
      by_id None j is =
          let q = rest_is (Statement-F.Declare None l scope.variables j) x (s.rolls-Declare None l scope.variables j ∙ is) in
          record { stays = λ h. inr (variable_in (sym (ap (λ (y : Rest). y.stays) q) ∙ h)); clear = ap (λ (y : Rest). y.clear) q }
      by_id (Some n) j is =
          let q = rest_is (Statement-F.Declare (Some n) l scope.variables j) x (s.rolls-Declare (Some n) l scope.variables j ∙ is) in
          record {
            stays = λ h. elim (or_cases (keeps n) (k.variable scope.variables) (sym (ap (λ (y : Rest). y.stays) q) ∙ h)) [
              | inl a ↦ inl (own_kept x _ (ap doings (sym is) ∙ doings-Declare (Some n) l scope.variables j) a)
              | inr b ↦ inr (variable_in b)
            ];
            clear = ap (λ (y : Rest). y.clear) q;
          }

  declare_case : (l : ℕ) (v : RawVar) (i : RawInit) → ((scope : Scope) → (begun i (with_variable raw v i scope)).variables ≡ scope.variables + 1) → Case (treed_step raw (RawStatement-F.Declare l v i)) (scoped_step raw (RawStatement-F.Declare l v i))
  declare_case l v i end = record {
    more = λ scope. let same = end scope in omega (arith, same);
    stays = λ scope x e. subst (λ (n : ℕ). Stays (rest_of x).stays (doings x) scope.variables n) (sym (end scope)) (declare_simple scope v l i x e).stays;
    clear = λ scope stand x s e kept fit inside. (declare_simple scope v l i x e).clear;
    still = λ scope kept. absurd (kept.0 23 (Breaks.misplaced MisplacesDeclaration.in_arm));
  }

  target_more : (to : RawTarget) (scope : Scope) → scope.variables ≤ (with_target raw to scope).variables
  target_more target.None scope = le_refl scope.variables
  target_more (target.Place a) scope = le_refl scope.variables
  target_more (target.Declared v) scope = omega arith

  call_case : (l : ℕ) (to : RawTarget) (f : Bytes) (args : List RawArg) → Case (treed_step raw (RawStatement-F.Call l to f args)) (scoped_step raw (RawStatement-F.Call l to f args))
  call_case l to f args = record {
    more = λ scope. target_more to scope;
    stays = λ scope x e. (always_is (IsSimple scope.variables (with_target raw to scope).variables) _ x (call_simple scope to scope.statements l f args) e).stays;
    clear = λ scope stand x s e kept fit inside. (always_is (IsSimple scope.variables (with_target raw to scope).variables) _ x (call_simple scope to scope.statements l f args) e).clear;
    still = λ scope kept. by_target to scope kept;
  }
    where
      by_target : (to : RawTarget) (scope : Scope) → AreKept raw ((scoped_step raw (RawStatement-F.Call l to f args)).gives scope InArm) → (with_target raw to scope).names ≡ scope.names
      by_target target.None scope kept = refl
      by_target (target.Place a) scope kept = refl
      by_target (target.Declared v) scope kept = absurd (kept.0 23 (Breaks.misplaced MisplacesDeclaration.in_arm))

  heap_case : (l : ℕ) (to : RawTarget) (cast : _) (n : _) → Case (treed_step raw (RawStatement-F.Heap l to cast n)) (scoped_step raw (RawStatement-F.Heap l to cast n))
  heap_case l to cast n = record {
    more = λ scope. target_more to scope;
    stays = λ scope x e. (always_is (IsSimple scope.variables (with_target raw to scope).variables) _ x (heap_simple scope to scope.statements l (ctype_if raw (option_map named_type cast)) (amount_tree raw (with_target raw to scope) n)) e).stays;
    clear = λ scope stand x s e kept fit inside. (always_is (IsSimple scope.variables (with_target raw to scope).variables) _ x (heap_simple scope to scope.statements l (ctype_if raw (option_map named_type cast)) (amount_tree raw (with_target raw to scope) n)) e).clear;
    still = λ scope kept. by_target to scope kept;
  }
    where
      by_target : (to : RawTarget) (scope : Scope) → AreKept raw ((scoped_step raw (RawStatement-F.Heap l to cast n)).gives scope InArm) → (with_target raw to scope).names ≡ scope.names
      by_target target.None scope kept = refl
      by_target (target.Place a) scope kept = refl
      by_target (target.Declared v) scope kept = absurd (kept.0 23 (Breaks.misplaced MisplacesDeclaration.in_arm))

  -- a block behind another
  spans_between : (a : List Known) (scope : Scope) → Spans Any scope → Spans Any (opened (after_block (trees a) (numbered scope)))
  spans_between a scope s = spans_later Any scope (opened (after_block (trees a) (numbered scope))) refl (list_more a (opened (numbered scope))) s

  -- its phrases, by the scopes of trees
  kept_between : (a b : List Known) (scope : Scope) → AreKept raw (block_phrases (texts b) (after_block (texts a) (numbered scope))) → AreKept raw (list_phrases b (opened (after_block (trees a) (numbered scope))) InBlock)
  kept_between a b scope kept = subst (λ (z : Scope). AreKept raw (block_phrases (texts b) z)) (sym (block_after_same raw (rows a) (numbered scope))) kept

  -- a loop: what governs one block
  module _ (x : Statement) (i : ℕ) (l : ℕ) (scope : Scope) (test : RawExpr) (u : Expr) (b : List Known) (zs : List Statement) (s : Spans Any scope) (there : expr_of raw scope test ≡ Some u)
      (body : collected (in_order (trees b) (opened (numbered scope))) ≡ Some zs) (kept : AreKept raw (list_phrases b (opened (numbered scope)) InBlock))
      (does : doings x ≡ Does i (Tests u) ∷ body_doings zs) (inside : Inside (doings x) scope.variables (after_all (trees b) (opened (numbered scope))).variables) where
    loop_inside : Inside (body_doings zs) scope.variables (after_all (trees b) (opened (numbered scope))).variables
    loop_inside = past_test i scope test u (body_doings zs) scope.variables _ s there (le_refl scope.variables) (moved_inside (doings x) _ scope.variables _ does inside)

    loop_clear : governs (keeps i) (any_kept (map (nest keeps) zs)) ≡ true → all_fit (map (nest keeps) zs) ≡ true → (governs (keeps i) (any_stays (map rest_of zs)) && all_clear (map rest_of zs)) ≡ true
    loop_clear g fit =
        and_from _ _ (governs_clear (keeps i) (any_kept (map (nest keeps) zs)) (any_stays (map rest_of zs)) g (block_held b (opened (numbered scope)) zs body loop_inside))
        (list_clear b (opened (numbered scope)) InBlock zs s body kept fit loop_inside)

  record IfParts (scope : Scope) (l : ℕ) (test : RawExpr) (a b : List Known) (x : Statement) : Type 0 where
    value : Expr
    first : List Statement
    second : List Statement
    there : expr_of raw scope test ≡ Some value
    first_is : collected (in_order (trees a) (opened (numbered scope))) ≡ Some first
    second_is : collected (in_order (trees b) (opened (after_block (trees a) (numbered scope)))) ≡ Some second
    is : s.If scope.statements l value first second ≡ x

  if_parts : (scope : Scope) (l : ℕ) (test : RawExpr) (a b : List Known) (x : Statement) → (as_tree (RawStatement-F.If l test (rows a) (rows b))).gives scope ≡ Some x → IfParts scope l test a b x
  if_parts scope l test a b x e =
      let t = then_there (λ (z : Expr). both (s.If scope.statements l z) (block_tree (trees a) (numbered scope)) (block_tree (trees b) (after_block (trees a) (numbered scope)))) (expr_of raw scope test) x e in
      let m = both_there (s.If scope.statements l t.value) (block_tree (trees a) (numbered scope)) (block_tree (trees b) (after_block (trees a) (numbered scope))) x t.same in
      record { value = t.value; first = m.left; second = m.right; there = t.there; first_is = m.left_there; second_is = m.right_there; is = m.same }

  if_case : (l : ℕ) (test : RawExpr) (a b : List Known) → Case (as_tree (RawStatement-F.If l test (rows a) (rows b))) (as_text (RawStatement-F.If l test (rows a) (rows b)))
  if_case l test a b = record {
    more = λ scope. le_trans (list_more a (opened (numbered scope))) (list_more b (opened (after_block (trees a) (numbered scope))));
    stays = λ scope x e h.
        let w = if_parts scope l test a b x e in
        let q = rest_is (Statement-F.If scope.statements l w.value w.first w.second) x (s.rolls-If scope.statements l w.value w.first w.second ∙ w.is) in
        inl (test_kept x scope.statements w.value _ (ap doings (sym w.is) ∙ doings-If scope.statements l w.value w.first w.second) (sym (ap (λ (y : Rest). y.stays) q) ∙ h));
    clear = λ scope stand x span e kept fit inside.
        let w = if_parts scope l test a b x e in
        let rolled = s.rolls-If scope.statements l w.value w.first w.second ∙ w.is in
        let does = ap doings (sym w.is) ∙ doings-If scope.statements l w.value w.first w.second in
        let start = opened (numbered scope) in
        let between = opened (after_block (trees a) (numbered scope)) in
        let end = (after_all (trees b) between).variables in
        let kept_a = any_kept (map (nest keeps) w.first) in
        let kept_b = any_kept (map (nest keeps) w.second) in
        let g = and_parts (governs (keeps scope.statements) (kept_a || kept_b)) (all_fit (map (nest keeps) w.first) && all_fit (map (nest keeps) w.second)) (sym (ap (λ (y : Nest). y.fits) (nest_is (Statement-F.If scope.statements l w.value w.first w.second) x rolled)) ∙ fit) in
        let fits = and_parts (all_fit (map (nest keeps) w.first)) (all_fit (map (nest keeps) w.second)) g.1 in
        let whole : Inside (body_doings w.first ++ body_doings w.second) scope.variables end =
        past_test scope.statements scope test w.value (body_doings w.first ++ body_doings w.second) scope.variables end span w.there (le_refl scope.variables) (moved_inside (doings x) _ scope.variables end does (inside refl))
        in
        let in_a : Inside (body_doings w.first) scope.variables between.variables =
        first_inside (body_doings w.first) (body_doings w.second) scope.variables between.variables end (list_more b between) whole
        (λ id r. (list_named (Gap scope.variables between.variables) (rows b) between w.second (gap_spans scope between span refl (list_more a start)) w.second_is id r).0)
        in
        let in_b : Inside (body_doings w.second) between.variables end =
        second_inside (body_doings w.first) (body_doings w.second) scope.variables between.variables end (list_more a start) whole (λ id r. (list_named Any (rows a) start w.first span w.first_is id r).1)
        in
        let some : (any_stays (map rest_of w.first) || any_stays (map rest_of w.second)) ≡ true → (kept_a || kept_b) ≡ true =
        λ h. elim (or_cases (any_stays (map rest_of w.first)) (any_stays (map rest_of w.second)) h) [
          | inl y ↦ or_left kept_a kept_b (block_held a start w.first w.first_is in_a y)
          | inr y ↦ or_right kept_a kept_b (block_held b between w.second w.second_is in_b y)
        ]
        in
        ap (λ (y : Rest). y.clear) (rest_is (Statement-F.If scope.statements l w.value w.first w.second) x rolled)
        ∙ and_from _ _ (governs_clear (keeps scope.statements) (kept_a || kept_b) (any_stays (map rest_of w.first) || any_stays (map rest_of w.second)) g.0 some)
        (and_from _ _ (list_clear a start InBlock w.first span w.first_is (kept_first raw (block_phrases (texts a) (numbered scope)) _ kept.1) fits.0 in_a)
        (list_clear b between InBlock w.second (spans_between a scope span) w.second_is (kept_between a b scope (kept_second raw (block_phrases (texts a) (numbered scope)) _ kept.1)) fits.1 in_b));
    still = λ scope kept. refl;
  }

  while_case : (l : ℕ) (test : RawExpr) (b : List Known) → Case (as_tree (RawStatement-F.While l test (rows b))) (as_text (RawStatement-F.While l test (rows b)))
  while_case l test b = record {
    more = λ scope. list_more b (opened (numbered scope));
    stays = λ scope x e h.
        let m = both_there (s.While scope.statements l) (expr_of raw scope test) (block_tree (trees b) (numbered scope)) x e in
        let q = rest_is (Statement-F.While scope.statements l m.left m.right) x (s.rolls-While scope.statements l m.left m.right ∙ m.same) in
        inl (test_kept x scope.statements m.left _ (ap doings (sym m.same) ∙ doings-While scope.statements l m.left m.right) (sym (ap (λ (y : Rest). y.stays) q) ∙ h));
    clear = λ scope stand x span e kept fit inside.
        let m = both_there (s.While scope.statements l) (expr_of raw scope test) (block_tree (trees b) (numbered scope)) x e in
        let rolled = s.rolls-While scope.statements l m.left m.right ∙ m.same in
        let g = and_parts (governs (keeps scope.statements) (any_kept (map (nest keeps) m.right))) (all_fit (map (nest keeps) m.right)) (sym (ap (λ (y : Nest). y.fits) (nest_is (Statement-F.While scope.statements l m.left m.right) x rolled)) ∙ fit) in
        ap (λ (y : Rest). y.clear) (rest_is (Statement-F.While scope.statements l m.left m.right) x rolled)
        ∙ loop_clear x scope.statements l scope test m.left b m.right span m.left_there m.right_there kept.1 (ap doings (sym m.same) ∙ doings-While scope.statements l m.left m.right) (inside refl) g.0 g.1;
    still = λ scope kept. refl;
  }

  do_case : (l : ℕ) (test : RawExpr) (b : List Known) → Case (as_tree (RawStatement-F.Do l test (rows b))) (as_text (RawStatement-F.Do l test (rows b)))
  do_case l test b = record {
    more = λ scope. list_more b (opened (numbered scope));
    stays = λ scope x e h.
        let m = both_there (s.Do scope.statements l) (expr_of raw scope test) (block_tree (trees b) (numbered scope)) x e in
        let q = rest_is (Statement-F.Do scope.statements l m.left m.right) x (s.rolls-Do scope.statements l m.left m.right ∙ m.same) in
        inl (test_kept x scope.statements m.left _ (ap doings (sym m.same) ∙ doings-Do scope.statements l m.left m.right) (sym (ap (λ (y : Rest). y.stays) q) ∙ h));
    clear = λ scope stand x span e kept fit inside.
        let m = both_there (s.Do scope.statements l) (expr_of raw scope test) (block_tree (trees b) (numbered scope)) x e in
        let rolled = s.rolls-Do scope.statements l m.left m.right ∙ m.same in
        let g = and_parts (governs (keeps scope.statements) (any_kept (map (nest keeps) m.right))) (all_fit (map (nest keeps) m.right)) (sym (ap (λ (y : Nest). y.fits) (nest_is (Statement-F.Do scope.statements l m.left m.right) x rolled)) ∙ fit) in
        ap (λ (y : Rest). y.clear) (rest_is (Statement-F.Do scope.statements l m.left m.right) x rolled)
        ∙ loop_clear x scope.statements l scope test m.left b m.right span m.left_there m.right_there kept.1 (ap doings (sym m.same) ∙ doings-Do scope.statements l m.left m.right) (inside refl) g.0 g.1;
    still = λ scope kept. refl;
  }

  block_case : (l : ℕ) (b : List Known) → Case (as_tree (RawStatement-F.Block l (rows b))) (as_text (RawStatement-F.Block l (rows b)))
  block_case l b = record {
    more = λ scope. list_more b (opened scope);
    stays = λ scope x e h.
        let m = map_there (s.Block l) (block_tree (trees b) scope) x e in
        let q = rest_is (Statement-F.Block l m.value) x (s.rolls-Block l m.value ∙ m.same) in
        let does = ap doings (sym m.same) ∙ doings-Block l m.value in
        elim (list_stays b (opened scope) m.value m.there (sym (ap (λ (y : Rest). y.stays) q) ∙ h)) [
          | inl y ↦ inl (subst KeptIn (sym does) y)
          | inr v ↦ inr v
        ];
    clear = λ scope stand x span e kept fit inside.
        let m = map_there (s.Block l) (block_tree (trees b) scope) x e in
        let rolled = s.rolls-Block l m.value ∙ m.same in
        ap (λ (y : Rest). y.clear) (rest_is (Statement-F.Block l m.value) x rolled)
        ∙ list_clear b (opened scope) InBlock m.value span m.there kept (sym (ap (λ (y : Nest). y.fits) (nest_is (Statement-F.Block l m.value) x rolled)) ∙ fit)
        (moved_inside (doings x) (body_doings m.value) scope.variables _ (ap doings (sym m.same) ∙ doings-Block l m.value) (inside refl));
    still = λ scope kept. refl;
  }

  record SwitchParts (l : ℕ) (test : RawExpr) (arms : List KnownArm) (scope : Scope) (x : Statement) : Type 0 where
    value : Expr
    type : IntType
    all : List Arm
    there : expr_of raw scope test ≡ Some value
    all_is : at_type type (in_order (arm_trees arms) (opened (numbered scope))) ≡ Some all
    is : s.Switch scope.statements l value all ≡ x

  switch_parts : (l : ℕ) (test : RawExpr) (arms : List KnownArm) (scope : Scope) (x : Statement) → (as_tree (RawStatement-F.Switch l test (map (λ (p : KnownArm). p.0) arms))).gives scope ≡ Some x → SwitchParts l test arms scope x
  switch_parts l test arms scope x e =
      let t = then_there (λ (z : Expr). option_and_then (λ (i : IntType). option_map (s.Switch scope.statements l z) (at_type i (in_order (arm_trees arms) (opened (numbered scope))))) (switch_type raw scope test)) (expr_of raw scope test) x e in
      let u = then_there (λ (i : IntType). option_map (s.Switch scope.statements l t.value) (at_type i (in_order (arm_trees arms) (opened (numbered scope))))) (switch_type raw scope test) x t.same in
      let m = map_there (s.Switch scope.statements l t.value) (at_type u.value (in_order (arm_trees arms) (opened (numbered scope)))) x u.same in
      record { value = t.value; type = u.value; all = m.value; there = t.there; all_is = m.there; is = m.same }

  switch_case : (l : ℕ) (test : RawExpr) (arms : List KnownArm) → Case (as_tree (RawStatement-F.Switch l test (map (λ (p : KnownArm). p.0) arms))) (as_text (RawStatement-F.Switch l test (map (λ (p : KnownArm). p.0) arms)))
  switch_case l test arms = record {
    more = λ scope. arms_more arms (opened (numbered scope));
    stays = λ scope x e h.
        let w = switch_parts l test arms scope x e in
        let q = rest_is (Statement-F.Switch scope.statements l w.value w.all) x (s.rolls-Switch scope.statements l w.value w.all ∙ w.is) in
        inl (test_kept x scope.statements w.value _ (ap doings (sym w.is) ∙ doings-Switch scope.statements l w.value w.all) (sym (ap (λ (y : Rest). y.stays) q) ∙ h));
    clear = λ scope stand x span e kept fit inside.
        let w = switch_parts l test arms scope x e in
        let start = opened (numbered scope) in
        let end = (after_all (arm_trees arms) start).variables in
        let rolled = s.rolls-Switch scope.statements l w.value w.all ∙ w.is in
        let does = ap doings (sym w.is) ∙ doings-Switch scope.statements l w.value w.all in
        let g = and_parts (governs (keeps scope.statements) (any_kept (map (arm_nest keeps) w.all))) (all_fit (map (arm_nest keeps) w.all)) (sym (ap (λ (y : Nest). y.fits) (nest_is (Statement-F.Switch scope.statements l w.value w.all) x rolled)) ∙ fit) in
        let within : Inside (arms_doings w.all) scope.variables end =
        past_test scope.statements scope test w.value (arms_doings w.all) scope.variables end span w.there (le_refl scope.variables) (moved_inside (doings x) _ scope.variables end does (inside refl))
        in
        ap (λ (y : Rest). y.clear) (rest_is (Statement-F.Switch scope.statements l w.value w.all) x rolled)
        ∙ and_from _ _ (governs_clear (keeps scope.statements) (any_kept (map (arm_nest keeps) w.all)) (any_stays (map rest_of_arm w.all)) g.0 (λ h. kept_arms w.all ∙ held (any_stays (map rest_of_arm w.all)) (arms_doings w.all) _ _ (arms_stay arms start w.type w.all w.all_is) within h))
        (arms_clear arms start w.type w.all span w.all_is kept.1 g.1 within);
    still = λ scope kept. refl;
  }

  -- ---- a for

  abbrev part_after : Option Known → Scope → Scope
  part_after None scope = scope
  part_after (Some q) scope = (treed raw q.0).after scope

  abbrev part_given : Option Known → Scope → Option (Option Statement)
  part_given None scope = Some None
  part_given (Some q) scope = optional (Some ((treed raw q.0).gives scope))

  abbrev text_after : Option Known → Scope → Scope
  text_after None scope = scope
  text_after (Some q) scope = (scoped raw q.0).after scope

  abbrev part_phrases : Option Known → Scope → Stand → Phrases
  part_phrases None scope stand = []
  part_phrases (Some q) scope stand = (scoped raw q.0).gives scope stand

  part_same : (o : Option Known) (scope : Scope) → part_after o scope ≡ text_after o scope
  part_same None scope = refl
  part_same (Some q) scope = after_same raw q.0 scope

  part_more : (o : Option Known) (scope : Scope) → scope.variables ≤ (part_after o scope).variables
  part_more None scope = le_refl scope.variables
  part_more (Some q) scope = q.1.more scope

  part_spans : (P : ℕ → Type 0) (o : Option Known) (scope : Scope) → Spans P scope → Spans P (part_after o scope)
  part_spans P None scope s = s
  part_spans P (Some q) scope s = spans_one P q.0 scope s

  part_staying : (o : Option Known) (scope : Scope) (y : Option Statement) → part_given o scope ≡ Some y → Stays (part_stays (option_map rest_of y)) (part_doings y) scope.variables (part_after o scope).variables
  part_staying None scope y e = subst (λ (z : Option Statement). Stays (part_stays (option_map rest_of z)) (part_doings z) scope.variables scope.variables) (some_same e) (λ h. false_true h)
  part_staying (Some q) scope y e =
      let p = optional_there ((treed raw q.0).gives scope) y e in
      subst (λ (z : Option Statement). Stays (part_stays (option_map rest_of z)) (part_doings z) scope.variables ((treed raw q.0).after scope).variables) p.1.1 (q.1.stays scope p.0 p.1.0)

  part_named : (P : ℕ → Type 0) (o : Option Known) (scope : Scope) (y : Option Statement) → Spans P scope → part_given o scope ≡ Some y → (id : ℕ) → any_named words (part_doings y) id ≡ true → P id × (id < (part_after o scope).variables)
  part_named P None scope y s e id h = false_true (ap (λ (z : Option Statement). any_named words (part_doings z) id) (some_same e) ∙ h)
  part_named P (Some q) scope y s e id h =
      let p = optional_there ((treed raw q.0).gives scope) y e in
      one_named P q.0 scope p.0 s p.1.0 id (ap (λ (z : Option Statement). any_named words (part_doings z) id) p.1.1 ∙ h)

  part_clearing : (o : Option Known) (scope : Scope) (stand : Stand) (y : Option Statement) → Spans Any scope → part_given o scope ≡ Some y → AreKept raw (part_phrases o scope stand) → part_fits (option_map (nest keeps) y) ≡ true
      → ((part_after o scope).names ≡ scope.names → Inside (part_doings y) scope.variables (part_after o scope).variables) → part_clear (option_map rest_of y) ≡ true
  part_clearing None scope stand y s e kept fit inside = subst (λ (z : Option Statement). part_clear (option_map rest_of z) ≡ true) (some_same e) refl
  part_clearing (Some q) scope stand y s e kept fit inside =
      let p = optional_there ((treed raw q.0).gives scope) y e in
      subst (λ (z : Option Statement). part_clear (option_map rest_of z) ≡ true) p.1.1
      (q.1.clear scope stand p.0 s p.1.0 kept (ap (λ (z : Option Statement). part_fits (option_map (nest keeps) z)) p.1.1 ∙ fit)
      (λ same id v m n. ap (λ (z : Option Statement). any_named words (part_doings z) id) p.1.1 ∙ inside same id v m n))

  rest_for : (id l : ℕ) (i : Option Statement) (u : Expr) (step : Option Statement) (b : List Statement)
      → rest_of (s.For id l i u step b) ≡ rest_step k.statement k.variable (Statement-F.For id l (option_map rest_of i) u (option_map rest_of step) (map rest_of b))
  rest_for id l None u None b = rest_is (Statement-F.For id l None u None b) (s.For id l None u None b) (s.rolls-For id l None u None b)
  rest_for id l None u (Some y) b = rest_is (Statement-F.For id l None u (Some y) b) (s.For id l None u (Some y) b) (s.rolls-For id l None u (Some y) b)
  rest_for id l (Some x) u None b = rest_is (Statement-F.For id l (Some x) u None b) (s.For id l (Some x) u None b) (s.rolls-For id l (Some x) u None b)
  rest_for id l (Some x) u (Some y) b = rest_is (Statement-F.For id l (Some x) u (Some y) b) (s.For id l (Some x) u (Some y) b) (s.rolls-For id l (Some x) u (Some y) b)

  nest_for : (id l : ℕ) (i : Option Statement) (u : Expr) (step : Option Statement) (b : List Statement)
      → nest keeps (s.For id l i u step b) ≡ nest_step keeps (Statement-F.For id l (option_map (nest keeps) i) u (option_map (nest keeps) step) (map (nest keeps) b))
  nest_for id l None u None b = nest_is (Statement-F.For id l None u None b) (s.For id l None u None b) (s.rolls-For id l None u None b)
  nest_for id l None u (Some y) b = nest_is (Statement-F.For id l None u (Some y) b) (s.For id l None u (Some y) b) (s.rolls-For id l None u (Some y) b)
  nest_for id l (Some x) u None b = nest_is (Statement-F.For id l (Some x) u None b) (s.For id l (Some x) u None b) (s.rolls-For id l (Some x) u None b)
  nest_for id l (Some x) u (Some y) b = nest_is (Statement-F.For id l (Some x) u (Some y) b) (s.For id l (Some x) u (Some y) b) (s.rolls-For id l (Some x) u (Some y) b)

  part_nest : (y : Option Statement) → part_kept (option_map (nest keeps) y) ≡ any_done keeps (part_doings y)
  part_nest None = refl
  part_nest (Some x) = nest_doings keeps x

  module _ (i j : Option Known) (l : ℕ) (test : RawExpr) (b : List Known) (scope : Scope) where
    abbrev start : Scope
    start = opened (numbered scope)

    abbrev middle : Scope
    middle = part_after i start

    abbrev late : Scope
    late = part_after j middle

    abbrev for_given : Option Statement
    for_given = for_tree scope.statements l (part_given i start) (expr_of raw middle test) (part_given j middle) (block_tree (trees b) late)

    abbrev for_end : ℕ
    for_end = (after_all (trees b) (opened late)).variables

    abbrev for_phrases : Phrases
    for_phrases =
        part_phrases i start InFor
        ++ (phrase l (text_after i start) (TestOf test) ∷ (part_phrases j (text_after i start) InBlock ++ block_phrases (texts b) (text_after j (text_after i start))))

    for_more : scope.variables ≤ for_end
    for_more = le_trans (part_more i start) (le_trans (part_more j middle) (list_more b (opened late)))

    for_stays : (x : Statement) → for_given ≡ Some x → Stays (rest_of x).stays (doings x) scope.variables for_end
    for_stays x e h =
        let f = for_some scope.statements l (part_given i start) (expr_of raw middle test) (part_given j middle) (block_tree (trees b) late) x e in
        let does : doings x ≡ Does scope.statements (Tests f.1) ∷ (part_doings f.0 ++ (part_doings f.2 ++ body_doings f.3)) = ap doings f.8 ∙ doings-For scope.statements l f.0 f.1 f.2 f.3 in
        elim (or_cases (keeps scope.statements) (part_stays (option_map rest_of f.0)) (sym (ap (λ (y : Rest). y.stays) (ap rest_of f.8 ∙ rest_for scope.statements l f.0 f.1 f.2 f.3)) ∙ h)) [
          | inl own ↦ inl (test_kept x scope.statements f.1 _ does own)
          | inr first ↦ elim (part_staying i start f.0 f.4 first) [
            | inl y ↦ inl (subst KeptIn (sym does) (or_right (keeps scope.statements) _ (done-append keeps (part_doings f.0) _ ∙ or_left (any_done keeps (part_doings f.0)) _ y)))
            | inr v ↦ inr (wider (le_refl scope.variables) (le_trans (part_more j middle) (list_more b (opened late))) v)
          ]
        ]

    for_clear : (x : Statement) → Spans Any scope → for_given ≡ Some x → AreKept raw for_phrases → (nest keeps x).fits ≡ true → Inside (doings x) scope.variables for_end → (rest_of x).clear ≡ true
    for_clear x s e kept fit inside =
        let f = for_some scope.statements l (part_given i start) (expr_of raw middle test) (part_given j middle) (block_tree (trees b) late) x e in
        let does : doings x ≡ Does scope.statements (Tests f.1) ∷ (part_doings f.0 ++ (part_doings f.2 ++ body_doings f.3)) = ap doings f.8 ∙ doings-For scope.statements l f.0 f.1 f.2 f.3 in
        let whole : Inside (Does scope.statements (Tests f.1) ∷ (part_doings f.0 ++ (part_doings f.2 ++ body_doings f.3))) scope.variables for_end = moved_inside (doings x) _ scope.variables for_end does inside in
        let s1 : Spans Any middle = part_spans Any i start s in
        let s2 : Spans Any late = part_spans Any j middle s1 in
        let to_middle = part_more i start in
        let to_late = part_more j middle in
        let to_end = list_more b (opened late) in
        let split : (id : ℕ) → k.variable id ≡ true → scope.variables ≤ id → id < for_end
        → (kept_names words (Does scope.statements (Tests f.1)) id || (any_named words (part_doings f.0) id || (any_named words (part_doings f.2) id || any_named words (body_doings f.3) id))) ≡ true =
        λ id v low high.
        ap (λ (c : Bool). kept_names words (Does scope.statements (Tests f.1)) id || c)
        (sym (any-append words (part_doings f.0) (part_doings f.2 ++ body_doings f.3) id ∙ ap (λ (c : Bool). any_named words (part_doings f.0) id || c) (any-append words (part_doings f.2) (body_doings f.3) id)))
        ∙ whole id v low high
        in
        let test_low = λ (id : ℕ) (r : kept_names words (Does scope.statements (Tests f.1)) id ≡ true). test_below middle test f.1 s1 f.5 id (and_parts (keeps scope.statements) (names f.1 id) r).1 in
        let in_first : middle.names ≡ start.names → Inside (part_doings f.0) scope.variables middle.variables =
        λ same id v low high.
        let gap : Spans (Gap scope.variables middle.variables) middle = gap_spans start middle s same to_middle in
        by_or (kept_names words (Does scope.statements (Tests f.1)) id) _ (split id v low (lt_of_lt_of_le high (le_trans to_late to_end)))
        (λ r. not_between scope.variables middle.variables id (expr_gap middle test f.1 scope.variables middle.variables gap f.5 id (and_parts (keeps scope.statements) (names f.1 id) r).1) low high)
        (λ r. by_or (any_named words (part_doings f.0) id) _ r (λ q. q)
        (λ q. by_or (any_named words (part_doings f.2) id) (any_named words (body_doings f.3) id) q
        (λ t. not_between scope.variables middle.variables id (part_named (Gap scope.variables middle.variables) j middle f.2 gap f.6 id t).0 low high)
        (λ t. not_between scope.variables middle.variables id (list_named (Gap scope.variables middle.variables) (rows b) (opened late) f.3 (part_spans (Gap scope.variables middle.variables) j middle gap) f.7 id t).0 low high)))
        in
        let in_step : late.names ≡ middle.names → Inside (part_doings f.2) middle.variables late.variables =
        λ same id v low high.
        let gap : Spans (Gap middle.variables late.variables) late = gap_spans middle late s1 same to_late in
        by_or (kept_names words (Does scope.statements (Tests f.1)) id) _ (split id v (le_trans to_middle low) (lt_of_lt_of_le high to_end))
        (λ r. let below = test_low id r in absurd (omega (arith, below, low)))
        (λ r. by_or (any_named words (part_doings f.0) id) _ r
        (λ q. let below = (part_named Any i start f.0 s f.4 id q).1 in absurd (omega (arith, below, low)))
        (λ q. by_or (any_named words (part_doings f.2) id) (any_named words (body_doings f.3) id) q (λ t. t)
        (λ t. not_between middle.variables late.variables id (list_named (Gap middle.variables late.variables) (rows b) (opened late) f.3 gap f.7 id t).0 low high)))
        in
        let in_body : Inside (body_doings f.3) late.variables for_end =
        λ id v low high.
        by_or (kept_names words (Does scope.statements (Tests f.1)) id) _ (split id v (le_trans to_middle (le_trans to_late low)) high)
        (λ r. let below = test_low id r in absurd (omega (arith, below, to_late, low)))
        (λ r. by_or (any_named words (part_doings f.0) id) _ r
        (λ q. let below = (part_named Any i start f.0 s f.4 id q).1 in absurd (omega (arith, below, to_late, low)))
        (λ q. by_or (any_named words (part_doings f.2) id) (any_named words (body_doings f.3) id) q
        (λ t. let below = (part_named Any j middle f.2 s1 f.6 id t).1 in absurd (omega (arith, below, low))) (λ t. t)))
        in
        let at_nest = ap (nest keeps) f.8 ∙ nest_for scope.statements l f.0 f.1 f.2 f.3 in
        let kept_step = part_kept (option_map (nest keeps) f.2) in
        let kept_body = any_kept (map (nest keeps) f.3) in
        let g = and_parts (governs (keeps scope.statements) (kept_step || kept_body)) (part_fits (option_map (nest keeps) f.0) && (part_fits (option_map (nest keeps) f.2) && all_fit (map (nest keeps) f.3))) (sym (ap (λ (y : Nest). y.fits) at_nest) ∙ fit) in
        let g1 = and_parts (part_fits (option_map (nest keeps) f.0)) (part_fits (option_map (nest keeps) f.2) && all_fit (map (nest keeps) f.3)) g.1 in
        let g2 = and_parts (part_fits (option_map (nest keeps) f.2)) (all_fit (map (nest keeps) f.3)) g1.1 in
        let step_inside : Inside (part_doings f.2 ++ body_doings f.3) middle.variables for_end =
        λ id v low high.
        by_or (kept_names words (Does scope.statements (Tests f.1)) id) _ (split id v (le_trans to_middle low) high)
        (λ r. let below = test_low id r in absurd (omega (arith, below, low)))
        (λ r. by_or (any_named words (part_doings f.0) id) _ r
        (λ q. let below = (part_named Any i start f.0 s f.4 id q).1 in absurd (omega (arith, below, low)))
        (λ q. any-append words (part_doings f.2) (body_doings f.3) id ∙ q))
        in
        let some : (part_stays (option_map rest_of f.2) || any_stays (map rest_of f.3)) ≡ true → (kept_step || kept_body) ≡ true =
        λ h.
        ap₂ (λ (c d : Bool). c || d) (part_nest f.2) (kept_list f.3) ∙ sym (done-append keeps (part_doings f.2) (body_doings f.3))
        ∙ held (part_stays (option_map rest_of f.2) || any_stays (map rest_of f.3)) (part_doings f.2 ++ body_doings f.3) middle.variables for_end (stays_both (part_stays (option_map rest_of f.2)) (any_stays (map rest_of f.3)) (part_doings f.2) (body_doings f.3) middle.variables late.variables for_end to_late to_end (part_staying j middle f.2 f.6) (list_stays b (opened late) f.3 f.7)) step_inside h
        in
        let later = kept_second raw (part_phrases i start InFor) _ kept in
        let middle_is = part_same i start in
        let step_kept : AreKept raw (part_phrases j middle InBlock) = subst (λ (z : Scope). AreKept raw (part_phrases j z InBlock)) (sym middle_is) (kept_first raw (part_phrases j (text_after i start) InBlock) _ later.1) in
        let late_is : late ≡ text_after j (text_after i start) = ap (part_after j) middle_is ∙ part_same j (text_after i start) in
        let body_kept : AreKept raw (block_phrases (texts b) late) = subst (λ (z : Scope). AreKept raw (block_phrases (texts b) z)) (sym late_is) (kept_second raw (part_phrases j (text_after i start) InBlock) _ later.1) in
        ap (λ (y : Rest). y.clear) (ap rest_of f.8 ∙ rest_for scope.statements l f.0 f.1 f.2 f.3)
        ∙ and_from _ _ (governs_clear (keeps scope.statements) (kept_step || kept_body) (part_stays (option_map rest_of f.2) || any_stays (map rest_of f.3)) g.0 some)
        (and_from _ _ (part_clearing i start InFor f.0 s f.4 (kept_first raw (part_phrases i start InFor) _ kept) g1.0 in_first)
        (and_from _ _ (part_clearing j middle InBlock f.2 s1 f.6 step_kept g2.0 in_step) (list_clear b (opened late) InBlock f.3 s2 f.7 body_kept g2.1 in_body)))

  -- ---- all forms

  layer_case : (y : RawStatement-F Known KnownArm) → Case (as_tree (layer_of y)) (as_text (layer_of y))
  layer_case (RawStatement-F.Declare l v init.None) = declare_case l v init.None (λ scope. refl)
  layer_case (RawStatement-F.Declare l v (init.One a)) = declare_case l v (init.One a) (λ scope. refl)
  layer_case (RawStatement-F.Declare l v (init.Items es)) = declare_case l v (init.Items es) (λ scope. refl)
  layer_case (RawStatement-F.Assign l left op right) = record {
    more = λ scope. le_refl scope.variables;
    stays = λ scope x e. (simple scope x e).stays;
    clear = λ scope stand x s e kept fit inside. (simple scope x e).clear;
    still = λ scope kept. refl;
  }
    where
      simple : (scope : Scope) (x : Statement) → both (λ (a b : Expr). s.Assign scope.statements l a op b) (expr_of raw scope left) (expr_of raw scope right) ≡ Some x → IsSimple scope.variables scope.variables x
      simple scope x e =
          let m = both_there (λ (a b : Expr). s.Assign scope.statements l a op b) (expr_of raw scope left) (expr_of raw scope right) x e in
          subst (IsSimple scope.variables scope.variables) m.same (alone_simple scope.variables scope.variables (Statement-F.Assign scope.statements l m.left op m.right) (s.Assign scope.statements l m.left op m.right) _ (s.rolls-Assign scope.statements l m.left op m.right) (doings-Assign scope.statements l m.left op m.right) refl)
  layer_case (RawStatement-F.Bump l left up before) = record {
    more = λ scope. le_refl scope.variables;
    stays = λ scope x e. (simple scope x e).stays;
    clear = λ scope stand x s e kept fit inside. (simple scope x e).clear;
    still = λ scope kept. refl;
  }
    where
      simple : (scope : Scope) (x : Statement) → option_map (λ (a : Expr). s.Bump scope.statements l a up before) (expr_of raw scope left) ≡ Some x → IsSimple scope.variables scope.variables x
      simple scope x e =
          let m = map_there (λ (a : Expr). s.Bump scope.statements l a up before) (expr_of raw scope left) x e in
          subst (IsSimple scope.variables scope.variables) m.same (alone_simple scope.variables scope.variables (Statement-F.Bump scope.statements l m.value up before) (s.Bump scope.statements l m.value up before) _ (s.rolls-Bump scope.statements l m.value up before) (doings-Bump scope.statements l m.value up before) refl)
  layer_case (RawStatement-F.Call l to f args) = call_case l to f args
  layer_case (RawStatement-F.Heap l to cast n) = heap_case l to cast n
  layer_case (RawStatement-F.If l test a b) = if_case l test a b
  layer_case (RawStatement-F.While l test b) = while_case l test b
  layer_case (RawStatement-F.Do l test b) = do_case l test b
  layer_case (RawStatement-F.For l None test None b) = record {
    more = λ scope. for_more None None l test b scope;
    stays = λ scope x e. for_stays None None l test b scope x e;
    clear = λ scope stand x s e kept fit inside. for_clear None None l test b scope x s e kept fit (inside refl);
    still = λ scope kept. refl;
  }
  layer_case (RawStatement-F.For l None test (Some j) b) = record {
    more = λ scope. for_more None (Some j) l test b scope;
    stays = λ scope x e. for_stays None (Some j) l test b scope x e;
    clear = λ scope stand x s e kept fit inside. for_clear None (Some j) l test b scope x s e kept fit (inside refl);
    still = λ scope kept. refl;
  }
  layer_case (RawStatement-F.For l (Some i) test None b) = record {
    more = λ scope. for_more (Some i) None l test b scope;
    stays = λ scope x e. for_stays (Some i) None l test b scope x e;
    clear = λ scope stand x s e kept fit inside. for_clear (Some i) None l test b scope x s e kept fit (inside refl);
    still = λ scope kept. refl;
  }
  layer_case (RawStatement-F.For l (Some i) test (Some j) b) = record {
    more = λ scope. for_more (Some i) (Some j) l test b scope;
    stays = λ scope x e. for_stays (Some i) (Some j) l test b scope x e;
    clear = λ scope stand x s e kept fit inside. for_clear (Some i) (Some j) l test b scope x s e kept fit (inside refl);
    still = λ scope kept. refl;
  }
  layer_case (RawStatement-F.Switch l test arms) = switch_case l test arms
  layer_case (RawStatement-F.Block l b) = block_case l b
  layer_case (RawStatement-F.Return l a) = record {
    more = λ scope. le_refl scope.variables;
    stays = λ scope x e. (simple scope x e).stays;
    clear = λ scope stand x s e kept fit inside. (simple scope x e).clear;
    still = λ scope kept. refl;
  }
    where
      simple : (scope : Scope) (x : Statement) → option_map (s.Return scope.statements l) (optional (option_map (expr_of raw scope) a)) ≡ Some x → IsSimple scope.variables scope.variables x
      simple scope x e =
          let m = map_there (s.Return scope.statements l) (optional (option_map (expr_of raw scope) a)) x e in
          subst (IsSimple scope.variables scope.variables) m.same (alone_simple scope.variables scope.variables (Statement-F.Return scope.statements l m.value) (s.Return scope.statements l m.value) _ (s.rolls-Return scope.statements l m.value) (doings-Return scope.statements l m.value) refl)

  arm_case : (y : RawArm-F Known KnownArm) → ArmCase (as_arm_tree (arm_layer_of y)) (as_arm_text (arm_layer_of y))
  arm_case y = record {
    more = λ scope. list_more y.body scope;
    stays = λ scope i a e h.
        let z = both_there arm_tree (collected (map (label_tree raw scope i) y.labels)) (collected (in_order (trees y.body) scope)) a e in
        let q = ap rest_of_arm (sym z.same) ∙ arm_rest_is (arm_tree z.left z.right) in
        subst (λ (w : Arm). KeptIn (body_doings w.body) ⊎ VarIn scope.variables (after_all (trees y.body) scope).variables) z.same (list_stays y.body scope z.right z.right_there (sym (ap (λ (r : Rest). r.stays) q) ∙ h));
    clear = λ scope i a s e kept fit inside.
        let z = both_there arm_tree (collected (map (label_tree raw scope i) y.labels)) (collected (in_order (trees y.body) scope)) a e in
        let q = ap rest_of_arm (sym z.same) ∙ arm_rest_is (arm_tree z.left z.right) in
        let n = ap (arm_nest keeps) (sym z.same) ∙ arm_nest_is (arm_tree z.left z.right) in
        ap (λ (r : Rest). r.clear) q
        ∙ list_clear y.body scope InArm z.right s z.right_there kept (sym (ap (λ (r : Nest). r.fits) n) ∙ fit) (λ id v low high. ap (λ (w : Arm). any_named words (body_doings w.body) id) z.same ∙ inside id v low high);
    still = λ scope kept. list_still y.body scope kept;
    same = λ scope. list_after raw (rows y.body) scope;
    body = rows y.body;
    after_is = λ scope. refl;
    tree_is = λ scope i a e. let z = both_there arm_tree (collected (map (label_tree raw scope i) y.labels)) (collected (in_order (trees y.body) scope)) a e in subst (λ (w : Arm). collected (in_order (trees y.body) scope) ≡ Some w.body) z.same z.right_there;
  }

  statement_case : (one : RawStatement) → Case (treed raw one) (scoped raw one)
  statement_case =
      ind-RawStatement (λ one. Case (treed raw one) (scoped raw one)) (λ a. ArmCase (treed_arm raw a) (scoped_of_arm raw a))
      (λ z y is. subst (λ w. Case (treed raw (roll-RawStatement w)) (scoped raw (roll-RawStatement w))) is
      (subst (λ t. Case t (scoped raw (roll-RawStatement (layer_of y)))) (sym (fold-roll-RawStatement (Scoped (Option Statement)) (Scoped ArmTree) (treed_step raw) (arm_tree_step raw) (layer_of y)))
      (subst (λ w. Case (as_tree (layer_of y)) w) (sym (fold-roll-RawStatement (Scoped (Stand → Phrases)) (Scoped ArmText) (scoped_step raw) scoped_arm (layer_of y))) (layer_case y))))
      (λ z y is. subst (λ w. ArmCase (treed_arm raw (roll-RawArm w)) (scoped_of_arm raw (roll-RawArm w))) is
      (subst (λ t. ArmCase t (scoped_of_arm raw (roll-RawArm (arm_layer_of y)))) (sym (fold-roll-RawArm (Scoped (Option Statement)) (Scoped ArmTree) (treed_step raw) (arm_tree_step raw) (arm_layer_of y)))
      (subst (λ w. ArmCase (as_arm_tree (arm_layer_of y)) w) (sym (fold-roll-RawArm (Scoped (Stand → Phrases)) (Scoped ArmText) (scoped_step raw) scoped_arm (arm_layer_of y))) (arm_case y))))

  abbrev all_known : List RawStatement → List Known
  all_known b = map (λ (x : RawStatement). let q : Known = (x, statement_case x) in q) b

  same_list : (b : List RawStatement) → rows (all_known b) ≡ b
  same_list [] = refl
  same_list (x ∷ b) = ap (λ ys. x ∷ ys) (same_list b)

  -- a body in which what is kept is nested is clear, where each kept variable that it declares is named in it
  pub body_clear : (b : List RawStatement) (scope : Scope) (zs : List Statement) → Spans Any scope → collected (in_order (map (treed raw) b) scope) ≡ Some zs → AreKept raw (body_phrases raw b scope) → all_fit (map (nest keeps) zs) ≡ true
      → Inside (body_doings zs) scope.variables (after_all (map (treed raw) b) scope).variables → all_clear (map rest_of zs) ≡ true
  body_clear b scope zs s e kept fit inside =
      list_clear (all_known b) scope InBlock zs s (ap (λ (c : List RawStatement). collected (in_order (map (treed raw) c) scope)) (same_list b) ∙ e)
      (subst (λ (c : List RawStatement). AreKept raw (joined_at InBlock (in_order (map (scoped raw) c) scope))) (sym (same_list b)) (subst (AreKept raw) (body_in_order raw b scope) kept)) fit
      (subst (λ (c : List RawStatement). Inside (body_doings zs) scope.variables (after_all (map (treed raw) c) scope).variables) (sym (same_list b)) inside)

  -- and what stays of a body is kept in it
  pub body_held : (b : List RawStatement) (scope : Scope) (zs : List Statement) → collected (in_order (map (treed raw) b) scope) ≡ Some zs → Inside (body_doings zs) scope.variables (after_all (map (treed raw) b) scope).variables
      → any_stays (map rest_of zs) ≡ true → KeptIn (body_doings zs)
  body_held b scope zs e inside h =
      held (any_stays (map rest_of zs)) (body_doings zs) _ _ (list_stays (all_known b) scope zs (ap (λ (c : List RawStatement). collected (in_order (map (treed raw) c) scope)) (same_list b) ∙ e))
      (subst (λ (c : List RawStatement). Inside (body_doings zs) scope.variables (after_all (map (treed raw) c) scope).variables) (sym (same_list b)) inside) h
