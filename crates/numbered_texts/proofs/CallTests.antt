-- A test that acts, returns of values and calls by which no rule is broken pass is passed by all statements of a body.
use Rattle.std.proofs.Common.{◌≡◌, ℕ, List, [], ◌∷◌, ◌++◌, map, Bool, true, false, Option, Some, None, option_map, option_and_then, bytes_eq, refl, sym, ap, subst, ◌∙◌, ◌||◌}
use Rattle.std.proofs.lemmas.Bool.{and_from}
use Rattle.std.specs.Prelude.{codes, if◌then◌else◌}
use Rattle.std.specs.List.{list_all}
use Rattle.c_arith.specs.declared.int_type.IntType.{IntType}
use Rattle.c_tree.specs.declared.expr.Expr.{Expr}
use Rattle.c_tree.specs.declared.raw.expr.RawExpr.{RawExpr}
use Rattle.c_tree.specs.declared.raw.program.RawInit.TheVariants as init
use Rattle.c_tree.specs.declared.raw.program.RawProgram.{RawProgram}
use Rattle.c_tree.specs.declared.raw.statement.RawArg.{RawArg}
use Rattle.c_tree.specs.declared.raw.statement.RawArm.{RawArm, roll-RawArm, map-RawArm, fold-roll-RawArm}
use Rattle.c_tree.specs.declared.raw.statement.RawStatement.{RawStatement, ind-RawStatement, out-RawStatement, roll-RawStatement, map-RawStatement, fold-roll-RawStatement}
use Rattle.c_tree.specs.declared.raw.statement.RawStatement.TheViews.{roll-out-RawStatement}
use Rattle.c_tree.specs.declared.raw.statement.RawStatement.TheOpen.{RawStatement-F, RawArm-F}
use Rattle.c_tree.specs.declared.raw.statement.RawTarget.{RawTarget}
use Rattle.c_tree.specs.declared.raw.statement.RawTarget.TheVariants as target
use Rattle.c_tree.specs.declared.statement.Arm.{Arm}
use Rattle.c_tree.specs.declared.statement.Statement.{Statement}
use Rattle.c_tree.specs.declared.statement.Statement.TheVariants as s
use Rattle.c_tree.specs.declared.statement.Target.{Target}
use Rattle.c_language.specs.Words.{Bytes}
use Rattle.c_language.specs.Code.{Act, Returns, Tests}
use Rattle.c_language.specs.CallRules.{format_in, later_args}
use Rattle.c_language.specs.ConstantEvaluation.{both}
use Rattle.c_language.specs.DeclaredTypes.{function_id}
use Rattle.c_language.specs.Phrases.{Stand, InBlock, InArm, InFor, Calls as CallsOf, Tests as TestOf, Returns as ReturnOf, Phrases, phrase, target_phrases, joined_at, block_phrases, ArmText, phrases_of_arms, scoped_step, scoped_arm, scoped, scoped_of_arm, body_phrases}
use Rattle.c_language.specs.ProgramOf.{collected, optional, ctype_if, expr_of, init_of, declaration_id, target_tree, args_tree, only_tree, amount_tree, invoke_tree, call_tree, label_tree, arm_tree, ArmTree, arm_tree_step, block_tree, at_type, switch_type, for_tree, treed_step, treed, body_of, treed_arm}
use Rattle.c_language.specs.Rules.{AreKept, KeepsAll}
use Rattle.c_language.specs.Scopes.{Scope, Scoped, opened, numbered, with_variable, with_target, in_order, after_all, after_block, after_step}
use Rattle.c_language.specs.TypeGrammar.{named_type}
use Rattle.c_language.specs.Uses.{is_library_function}
use Rattle.c_language.proofs.Lists.{all_append}
use Rattle.c_language.proofs.Options.{some_same, optional_there, map_there, then_there, both_there, more_there}
use Rattle.c_language.proofs.PhraseLists.{body_in_order, kept_first, kept_second}
use Rattle.c_language.proofs.TreeScopes.{after_same, list_after, block_after_same}
use Rattle.dep_model.proofs.Options.{Always, always_map, always_then, always_is}
use Rattle.dep_model.specs.Doings.{Doing, Does, Calls, doings, body_doings}
use Rattle.dep_model.proofs.DoingForms.{arms_doings, part_doings, doings-Declare, doings-Assign, doings-Bump, doings-Invoke, doings-Fetch, doings-Write, doings-Print, doings-Heap, doings-Release, doings-Return, doings-If, doings-While, doings-Do, doings-Switch, doings-Block, doings-For}
use Rattle.dep_model.proofs.TextNumbers.{for_some}

-- ---- a call of the library, or else of a function

always_else : {A : Type 0} (P : A → Type 0) (b : Bool) (o q : Option A) → Always P o → (b ≡ false → Always P q) → Always P (if b then o else q)
always_else P true o q h k = h
always_else P false o q h k = k refl

always_there : {A : Type 0} (P : A → Type 0) (o : Option A) → ((x : A) → o ≡ Some x → P x) → Always P o
always_there P None h = tt
always_there P (Some x) h = h x refl

no_library : (a b c d : Bool) → a ≡ false → b ≡ false → c ≡ false → d ≡ false → (a || (b || (c || (d || false)))) ≡ false
no_library a b c d ha hb hc hd =
    ap (λ z. z || (b || (c || (d || false)))) ha ∙ (ap (λ z. z || (c || (d || false))) hb ∙ (ap (λ z. z || (d || false)) hc ∙ ap (λ z. z || false) hd))

-- ---- a statement stands in one function, and so does what follows it

step_stays : {R Q : Type 0} (raw : RawProgram) (y : RawStatement-F (Scoped R) (Scoped Q)) (scope : Scope) → (after_step raw y scope).owner ≡ scope.owner
step_stays raw (RawStatement-F.Declare l v init.None) scope = refl
step_stays raw (RawStatement-F.Declare l v (init.One a)) scope = refl
step_stays raw (RawStatement-F.Declare l v (init.Items es)) scope = refl
step_stays raw (RawStatement-F.Assign l a op b) scope = refl
step_stays raw (RawStatement-F.Bump l a up before) scope = refl
step_stays raw (RawStatement-F.Call l target.None f args) scope = refl
step_stays raw (RawStatement-F.Call l (target.Place a) f args) scope = refl
step_stays raw (RawStatement-F.Call l (target.Declared v) f args) scope = refl
step_stays raw (RawStatement-F.Heap l target.None cast n) scope = refl
step_stays raw (RawStatement-F.Heap l (target.Place a) cast n) scope = refl
step_stays raw (RawStatement-F.Heap l (target.Declared v) cast n) scope = refl
step_stays raw (RawStatement-F.If l e a b) scope = refl
step_stays raw (RawStatement-F.While l e b) scope = refl
step_stays raw (RawStatement-F.Do l e b) scope = refl
step_stays raw (RawStatement-F.For l i e step b) scope = refl
step_stays raw (RawStatement-F.Switch l e arms) scope = refl
step_stays raw (RawStatement-F.Block l b) scope = refl
step_stays raw (RawStatement-F.Return l e) scope = refl

pub owner_stays : (raw : RawProgram) (x : RawStatement) (scope : Scope) → ((scoped raw x).after scope).owner ≡ scope.owner
owner_stays raw x scope =
    let y = out-RawStatement x in
    let layer = map-RawStatement RawStatement RawArm (Scoped (Stand → Phrases)) (Scoped ArmText) (scoped raw) (scoped_of_arm raw) y in
    let is : scoped raw x ≡ scoped_step raw layer = ap (scoped raw) (sym (roll-out-RawStatement x)) ∙ fold-roll-RawStatement (Scoped (Stand → Phrases)) (Scoped ArmText) (scoped_step raw) scoped_arm y in
    ap (λ (t : Scoped (Stand → Phrases)). (t.after scope).owner) is ∙ step_stays raw layer scope

owners_stay : (raw : RawProgram) (xs : List RawStatement) (scope : Scope) → (after_all (map (scoped raw) xs) scope).owner ≡ scope.owner
owners_stay raw [] scope = refl
owners_stay raw (x ∷ xs) scope = owners_stay raw xs ((scoped raw x).after scope) ∙ owner_stays raw x scope

-- a return of a value
abbrev pub gives_value : Act → Bool
gives_value (Returns (Some e)) = true
gives_value _ = false

-- a test that each act passes which returns no value, and in the function with the number each return of a value and each call of a
-- function by which no rule is broken
pub record IsCallTest (raw : RawProgram) (owner : Option ℕ) (ok : Doing → Bool) : Type 0 where
  pub act : (i : ℕ) (a : Act) → gives_value a ≡ false → ok (Does i a) ≡ true
  pub returned : (l id : ℕ) (a : RawExpr) (e : Expr) (scope : Scope) → scope.owner ≡ owner → KeepsAll raw (phrase l scope (ReturnOf (Some a))) → ok (Does id (Returns (Some e))) ≡ true
  pub call : (l id : ℕ) (stand : Stand) (to : RawTarget) (f : Bytes) (args : List RawArg) (scope : Scope) (t : Target) (g : ℕ) (es : List Expr)
      → KeepsAll raw (phrase l (with_target raw to scope) (CallsOf stand to f args)) → is_library_function f ≡ false
      → target_tree raw scope to ≡ Some t → function_id raw f ≡ Some g → args_tree raw (with_target raw to scope) args ≡ Some es → ok (Calls id t g es) ≡ true

module _ (raw : RawProgram) (owner : Option ℕ) (ok : Doing → Bool) (passing : IsCallTest raw owner ok) where
  abbrev AreFit : List Doing → Type 0
  AreFit ds = list_all ok ds ≡ true

  abbrev IsFit : Statement → Type 0
  IsFit x = AreFit (doings x)

  -- a statement of one act, or of a test and what it decides
  acts : (x : Statement) (d : Doing) → doings x ≡ d ∷ [] → ok d ≡ true → IsFit x
  acts x d is h = subst AreFit (sym is) (and_from _ _ h refl)

  behind : (x : Statement) (d : Doing) (ds : List Doing) → doings x ≡ d ∷ ds → ok d ≡ true → AreFit ds → IsFit x
  behind x d ds is h k = subst AreFit (sym is) (and_from _ _ h k)

  call_fits : (l id : ℕ) (stand : Stand) (to : RawTarget) (f : Bytes) (args : List RawArg) (scope : Scope) → KeepsAll raw (phrase l (with_target raw to scope) (CallsOf stand to f args))
      → Always IsFit (call_tree raw (with_target raw to scope) id l (target_tree raw scope to) f args)
  call_fits l id stand to f args scope kept =
      let inner = with_target raw to scope in
      let t = target_tree raw scope to in
      always_else IsFit (bytes_eq f (codes "getchar")) _ _ (always_map IsFit (s.Fetch id l) t (λ z. acts (s.Fetch id l z) _ (doings-Fetch id l z) (passing.act id _ refl))) (λ n1.
      always_else IsFit (bytes_eq f (codes "putchar")) _ _ (always_map IsFit (s.Write id l) (only_tree raw inner args) (λ e. acts (s.Write id l e) _ (doings-Write id l e) (passing.act id _ refl))) (λ n2.
      always_else IsFit (bytes_eq f (codes "printf")) _ _ (always_then IsFit _ (format_in args) (λ text. always_map IsFit (s.Print id l text) (args_tree raw inner (later_args args)) (λ es. acts (s.Print id l text es) _ (doings-Print id l text es) (passing.act id _ refl)))) (λ n3.
      always_else IsFit (bytes_eq f (codes "free")) _ _ (always_map IsFit (s.Release id l) (only_tree raw inner args) (λ e. acts (s.Release id l e) _ (doings-Release id l e) (passing.act id _ refl))) (λ n4.
      always_there IsFit (invoke_tree raw inner id l t f args) (λ x e.
      let a = then_there (λ (z : Target). both (s.Invoke id l z) (function_id raw f) (args_tree raw inner args)) t x e in
      let k = both_there (s.Invoke id l a.value) (function_id raw f) (args_tree raw inner args) x a.same in
      let own : is_library_function f ≡ false = no_library (bytes_eq f (codes "getchar")) (bytes_eq f (codes "putchar")) (bytes_eq f (codes "printf")) (bytes_eq f (codes "free")) n1 n2 n3 n4 in
      subst IsFit k.same (acts (s.Invoke id l a.value k.left k.right) _ (doings-Invoke id l a.value k.left k.right) (passing.call l id stand to f args scope a.value k.left k.right kept own a.there k.left_there k.right_there)))))))

  heap_fits : (id l : ℕ) (t : Option Target) (c : Option _) (n : Option _) → Always IsFit (option_and_then (λ (z : Target). option_and_then (λ k. option_map (s.Heap id l z k) n) c) t)
  heap_fits id l t c n = always_then IsFit _ t (λ z. always_then IsFit _ c (λ k. always_map IsFit (s.Heap id l z k) n (λ m. acts (s.Heap id l z k m) _ (doings-Heap id l z k m) (passing.act id _ refl))))

  declare_fits : (id : Option ℕ) (l x : ℕ) (i : Option _) → Always IsFit (option_map (s.Declare id l x) i)
  declare_fits None l x i = always_map IsFit (s.Declare None l x) i (λ z. subst AreFit (sym (doings-Declare None l x z)) refl)
  declare_fits (Some id) l x i = always_map IsFit (s.Declare (Some id) l x) i (λ z. acts (s.Declare (Some id) l x z) _ (doings-Declare (Some id) l x z) (passing.act id _ refl))

  -- ---- a statement in the tree and as phrases

  record Case (t : Scoped (Option Statement)) (w : Scoped (Stand → Phrases)) : Type 0 where
    fit : (scope : Scope) (stand : Stand) (x : Statement) → scope.owner ≡ owner → t.gives scope ≡ Some x → AreKept raw (w.gives scope stand) → IsFit x

  record ArmCase (t : Scoped ArmTree) (w : Scoped ArmText) : Type 0 where
    same : (scope : Scope) → t.after scope ≡ w.after scope
    stays : (scope : Scope) → (w.after scope).owner ≡ scope.owner
    fit : (scope : Scope) (k : IntType) (a : Arm) → scope.owner ≡ owner → t.gives scope k ≡ Some a → AreKept raw (w.gives scope).phrases → AreFit (body_doings a.body)

  abbrev Known : Type 0
  Known = (one : RawStatement) × Case (treed raw one) (scoped raw one)

  abbrev KnownArm : Type 0
  KnownArm = (a : RawArm) × ArmCase (treed_arm raw a) (scoped_of_arm raw a)

  abbrev layer_of : RawStatement-F Known KnownArm → RawStatement-F RawStatement RawArm
  layer_of = map-RawStatement Known KnownArm RawStatement RawArm (λ p. p.0) (λ p. p.0)

  abbrev arm_layer_of : RawArm-F Known KnownArm → RawArm-F RawStatement RawArm
  arm_layer_of = map-RawArm Known KnownArm RawStatement RawArm (λ p. p.0) (λ p. p.0)

  abbrev as_tree : RawStatement-F RawStatement RawArm → Scoped (Option Statement)
  as_tree y = treed_step raw (map-RawStatement RawStatement RawArm (Scoped (Option Statement)) (Scoped ArmTree) (treed raw) (treed_arm raw) y)

  abbrev as_text : RawStatement-F RawStatement RawArm → Scoped (Stand → Phrases)
  as_text y = scoped_step raw (map-RawStatement RawStatement RawArm (Scoped (Stand → Phrases)) (Scoped ArmText) (scoped raw) (scoped_of_arm raw) y)

  abbrev as_arm_tree : RawArm-F RawStatement RawArm → Scoped ArmTree
  as_arm_tree y = arm_tree_step raw (map-RawArm RawStatement RawArm (Scoped (Option Statement)) (Scoped ArmTree) (treed raw) (treed_arm raw) y)

  abbrev as_arm_text : RawArm-F RawStatement RawArm → Scoped ArmText
  as_arm_text y = scoped_arm (map-RawArm RawStatement RawArm (Scoped (Stand → Phrases)) (Scoped ArmText) (scoped raw) (scoped_of_arm raw) y)

  abbrev rows : List Known → List RawStatement
  rows ks = map (λ (p : Known). p.0) ks

  abbrev trees : List Known → List (Scoped (Option Statement))
  trees ks = map (treed raw) (rows ks)

  abbrev texts : List Known → List (Scoped (Stand → Phrases))
  texts ks = map (scoped raw) (rows ks)

  abbrev arm_trees : List KnownArm → List (Scoped ArmTree)
  arm_trees ks = map (treed_arm raw) (map (λ (p : KnownArm). p.0) ks)

  abbrev arm_texts : List KnownArm → List (Scoped ArmText)
  arm_texts ks = map (scoped_of_arm raw) (map (λ (p : KnownArm). p.0) ks)

  -- ---- lists

  abbrev list_phrases : List Known → Scope → Stand → Phrases
  list_phrases ks scope stand = joined_at stand (in_order (texts ks) scope)

  list_fits : (ks : List Known) (scope : Scope) (stand : Stand) (xs : List Statement) → scope.owner ≡ owner → collected (in_order (trees ks) scope) ≡ Some xs → AreKept raw (list_phrases ks scope stand) → AreFit (body_doings xs)
  list_fits [] scope stand xs own e kept = subst (λ (ys : List Statement). AreFit (body_doings ys)) (some_same e) refl
  list_fits (k ∷ ks) scope stand xs own e kept =
      let next = (scoped raw k.0).after scope in
      let z = more_there ((treed raw k.0).gives scope) (in_order (trees ks) ((treed raw k.0).after scope)) xs e in
      let rest : collected (in_order (trees ks) next) ≡ Some z.rest = ap (λ (y : Scope). collected (in_order (trees ks) y)) (sym (after_same raw k.0 scope)) ∙ z.rest_there in
      subst (λ (ys : List Statement). AreFit (body_doings ys)) z.same
      (all_append ok (doings z.first) (body_doings z.rest) (k.1.fit scope stand z.first own z.first_there (kept_first raw ((scoped raw k.0).gives scope stand) (list_phrases ks next stand) kept))
      (list_fits ks next stand z.rest (owner_stays raw k.0 scope ∙ own) rest (kept_second raw ((scoped raw k.0).gives scope stand) (list_phrases ks next stand) kept)))

  arms_fit : (ks : List KnownArm) (scope : Scope) (t : IntType) (xs : List Arm) → scope.owner ≡ owner → at_type t (in_order (arm_trees ks) scope) ≡ Some xs → AreKept raw (phrases_of_arms (in_order (arm_texts ks) scope)) → AreFit (arms_doings xs)
  arms_fit [] scope t xs own e kept = subst (λ (ys : List Arm). AreFit (arms_doings ys)) (some_same e) refl
  arms_fit (k ∷ ks) scope t xs owned e kept =
      let next = (scoped_of_arm raw k.0).after scope in
      let own = ((scoped_of_arm raw k.0).gives scope).phrases in
      let later = phrases_of_arms (in_order (arm_texts ks) next) in
      let z = more_there ((treed_arm raw k.0).gives scope t) (map (λ (a : ArmTree). a t) (in_order (arm_trees ks) ((treed_arm raw k.0).after scope))) xs e in
      let rest : at_type t (in_order (arm_trees ks) next) ≡ Some z.rest = ap (λ (y : Scope). at_type t (in_order (arm_trees ks) y)) (sym (k.1.same scope)) ∙ z.rest_there in
      subst (λ (ys : List Arm). AreFit (arms_doings ys)) z.same
      (all_append ok (body_doings z.first.body) (arms_doings z.rest) (k.1.fit scope t z.first owned z.first_there (kept_first raw own later kept)) (arms_fit ks next t z.rest (k.1.stays scope ∙ owned) rest (kept_second raw own later kept)))

  -- ---- a for

  abbrev part_after : Option Known → Scope → Scope
  part_after None scope = scope
  part_after (Some k) scope = (treed raw k.0).after scope

  abbrev part_given : Option Known → Scope → Option (Option Statement)
  part_given None scope = Some None
  part_given (Some k) scope = optional (Some ((treed raw k.0).gives scope))

  abbrev text_after : Option Known → Scope → Scope
  text_after None scope = scope
  text_after (Some k) scope = (scoped raw k.0).after scope

  abbrev part_phrases : Option Known → Scope → Stand → Phrases
  part_phrases None scope stand = []
  part_phrases (Some k) scope stand = (scoped raw k.0).gives scope stand

  part_same : (o : Option Known) (scope : Scope) → part_after o scope ≡ text_after o scope
  part_same None scope = refl
  part_same (Some k) scope = after_same raw k.0 scope

  part_stays : (o : Option Known) (scope : Scope) → (text_after o scope).owner ≡ scope.owner
  part_stays None scope = refl
  part_stays (Some k) scope = owner_stays raw k.0 scope

  part_fits : (o : Option Known) (scope : Scope) (stand : Stand) (x : Option Statement) → scope.owner ≡ owner → part_given o scope ≡ Some x → AreKept raw (part_phrases o scope stand) → AreFit (part_doings x)
  part_fits None scope stand x own e kept = subst (λ (y : Option Statement). AreFit (part_doings y)) (some_same e) refl
  part_fits (Some k) scope stand x own e kept =
      let p = optional_there ((treed raw k.0).gives scope) x e in
      subst (λ (y : Option Statement). AreFit (part_doings y)) p.1.1 (k.1.fit scope stand p.0 own p.1.0 kept)

  for_fits : (i : Option Known) (l : ℕ) (test : RawExpr) (step : Option Known) (b : List Known) (scope : Scope) (stand : Stand) (x : Statement) → scope.owner ≡ owner
      → for_tree scope.statements l (part_given i (opened (numbered scope))) (expr_of raw (part_after i (opened (numbered scope))) test) (part_given step (part_after i (opened (numbered scope)))) (block_tree (trees b) (part_after step (part_after i (opened (numbered scope))))) ≡ Some x
      → AreKept raw (part_phrases i (opened (numbered scope)) InFor ++ (phrase l (text_after i (opened (numbered scope))) (TestOf test) ∷ (part_phrases step (text_after i (opened (numbered scope))) InBlock ++ block_phrases (texts b) (text_after step (text_after i (opened (numbered scope)))))))
      → IsFit x
  for_fits i l test step b scope stand x own e kept =
      let first = opened (numbered scope) in
      let second = text_after i first in
      let third = text_after step second in
      let at_second : second.owner ≡ owner = part_stays i first ∙ own in
      let at_third : third.owner ≡ owner = part_stays step second ∙ at_second in
      let body = block_phrases (texts b) third in
      let f = for_some scope.statements l _ _ _ _ x e in
      let behind_init = part_phrases step second InBlock ++ body in
      let at_step : part_given step second ≡ Some f.2 = ap (part_given step) (sym (part_same i first)) ∙ f.6 in
      let at_body : block_tree (trees b) third ≡ Some f.3 = ap (block_tree (trees b)) (sym (ap (part_after step) (part_same i first) ∙ part_same step second)) ∙ f.7 in
      let later = (kept_second raw (part_phrases i first InFor) (phrase l second (TestOf test) ∷ behind_init) kept).1 in
      behind x (Does scope.statements (Tests f.1)) (part_doings f.0 ++ (part_doings f.2 ++ body_doings f.3)) (ap doings f.8 ∙ doings-For scope.statements l f.0 f.1 f.2 f.3) (passing.act scope.statements _ refl)
      (all_append ok (part_doings f.0) (part_doings f.2 ++ body_doings f.3) (part_fits i first InFor f.0 own f.4 (kept_first raw (part_phrases i first InFor) (phrase l second (TestOf test) ∷ behind_init) kept))
      (all_append ok (part_doings f.2) (body_doings f.3) (part_fits step second InBlock f.2 at_second at_step (kept_first raw (part_phrases step second InBlock) body later))
      (list_fits b (opened third) InBlock f.3 at_third at_body (kept_second raw (part_phrases step second InBlock) body later))))

  -- ---- each form

  layer_case : (y : RawStatement-F Known KnownArm) → Case (as_tree (layer_of y)) (as_text (layer_of y))
  layer_case (RawStatement-F.Declare l v i) = record {
    fit = λ scope stand x own e kept. always_is IsFit _ x (declare_fits (declaration_id i scope.statements) l scope.variables (init_of raw (with_variable raw v i scope) i)) e;
  }
  layer_case (RawStatement-F.Assign l left op right) = record {
    fit = λ scope stand x own e kept.
        let k = both_there (λ (a b : Expr). s.Assign scope.statements l a op b) (expr_of raw scope left) (expr_of raw scope right) x e in
        subst IsFit k.same (acts (s.Assign scope.statements l k.left op k.right) _ (doings-Assign scope.statements l k.left op k.right) (passing.act scope.statements _ refl));
  }
  layer_case (RawStatement-F.Bump l left up before) = record {
    fit = λ scope stand x own e kept.
        let k = map_there (λ (a : Expr). s.Bump scope.statements l a up before) (expr_of raw scope left) x e in
        subst IsFit k.same (acts (s.Bump scope.statements l k.value up before) _ (doings-Bump scope.statements l k.value up before) (passing.act scope.statements _ refl));
  }
  layer_case (RawStatement-F.Call l to f args) = record {
    fit = λ scope stand x own e kept.
        always_is IsFit _ x (call_fits l scope.statements stand to f args scope (kept_second raw (target_phrases raw l scope stand to) (phrase l (with_target raw to scope) (CallsOf stand to f args) ∷ []) kept).0) e;
  }
  layer_case (RawStatement-F.Heap l to cast n) = record {
    fit = λ scope stand x own e kept.
        always_is IsFit _ x (heap_fits scope.statements l (target_tree raw scope to) (ctype_if raw (option_map named_type cast)) (amount_tree raw (with_target raw to scope) n)) e;
  }
  layer_case (RawStatement-F.If l test a b) = record {
    fit = λ scope stand x own e kept.
        let n = scope.statements in
        let middle = after_block (texts a) (numbered scope) in
        let ps = block_phrases (texts a) (numbered scope) in
        let qs = block_phrases (texts b) middle in
        let t = then_there (λ (z : Expr). both (s.If n l z) (block_tree (trees a) (numbered scope)) (block_tree (trees b) (after_block (trees a) (numbered scope)))) (expr_of raw scope test) x e in
        let k = both_there (s.If n l t.value) (block_tree (trees a) (numbered scope)) (block_tree (trees b) (after_block (trees a) (numbered scope))) x t.same in
        let other : block_tree (trees b) middle ≡ Some k.right = ap (block_tree (trees b)) (sym (block_after_same raw (rows a) (numbered scope))) ∙ k.right_there in
        behind x (Does n (Tests t.value)) (body_doings k.left ++ body_doings k.right) (ap doings (sym k.same) ∙ doings-If n l t.value k.left k.right) (passing.act n _ refl)
        (all_append ok (body_doings k.left) (body_doings k.right) (list_fits a (opened (numbered scope)) InBlock k.left own k.left_there (kept_first raw ps qs kept.1)) (list_fits b (opened middle) InBlock k.right own other (kept_second raw ps qs kept.1)));
  }
  layer_case (RawStatement-F.While l test b) = record {
    fit = λ scope stand x own e kept.
        let k = both_there (s.While scope.statements l) (expr_of raw scope test) (block_tree (trees b) (numbered scope)) x e in
        behind x (Does scope.statements (Tests k.left)) (body_doings k.right) (ap doings (sym k.same) ∙ doings-While scope.statements l k.left k.right) (passing.act scope.statements _ refl) (list_fits b (opened (numbered scope)) InBlock k.right own k.right_there kept.1);
  }
  layer_case (RawStatement-F.Do l test b) = record {
    fit = λ scope stand x own e kept.
        let k = both_there (s.Do scope.statements l) (expr_of raw scope test) (block_tree (trees b) (numbered scope)) x e in
        behind x (Does scope.statements (Tests k.left)) (body_doings k.right) (ap doings (sym k.same) ∙ doings-Do scope.statements l k.left k.right) (passing.act scope.statements _ refl) (list_fits b (opened (numbered scope)) InBlock k.right own k.right_there kept.1);
  }
  layer_case (RawStatement-F.For l None test None b) = record { fit = λ scope stand x own e kept. for_fits None l test None b scope stand x own e kept }
  layer_case (RawStatement-F.For l None test (Some k) b) = record { fit = λ scope stand x own e kept. for_fits None l test (Some k) b scope stand x own e kept }
  layer_case (RawStatement-F.For l (Some i) test None b) = record { fit = λ scope stand x own e kept. for_fits (Some i) l test None b scope stand x own e kept }
  layer_case (RawStatement-F.For l (Some i) test (Some k) b) = record { fit = λ scope stand x own e kept. for_fits (Some i) l test (Some k) b scope stand x own e kept }
  layer_case (RawStatement-F.Switch l test arms) = record {
    fit = λ scope stand x own e kept.
        let n = scope.statements in
        let t = then_there (λ (z : Expr). option_and_then (λ (k : IntType). option_map (s.Switch n l z) (at_type k (in_order (arm_trees arms) (opened (numbered scope))))) (switch_type raw scope test)) (expr_of raw scope test) x e in
        let u = then_there (λ (k : IntType). option_map (s.Switch n l t.value) (at_type k (in_order (arm_trees arms) (opened (numbered scope))))) (switch_type raw scope test) x t.same in
        let k = map_there (s.Switch n l t.value) (at_type u.value (in_order (arm_trees arms) (opened (numbered scope)))) x u.same in
        behind x (Does n (Tests t.value)) (arms_doings k.value) (ap doings (sym k.same) ∙ doings-Switch n l t.value k.value) (passing.act n _ refl) (arms_fit arms (opened (numbered scope)) u.value k.value own k.there kept.1);
  }
  layer_case (RawStatement-F.Block l b) = record {
    fit = λ scope stand x own e kept.
        let k = map_there (s.Block l) (block_tree (trees b) scope) x e in
        subst IsFit k.same (subst AreFit (sym (doings-Block l k.value)) (list_fits b (opened scope) InBlock k.value own k.there kept));
  }
  layer_case (RawStatement-F.Return l None) = record {
    fit = λ scope stand x own e kept.
        let k = map_there (s.Return scope.statements l) (optional (option_map (expr_of raw scope) None)) x e in
        let none : Returns k.value ≡ Returns None = ap Returns (sym (some_same k.there)) in
        subst IsFit k.same (acts (s.Return scope.statements l k.value) _ (doings-Return scope.statements l k.value) (passing.act scope.statements _ (ap gives_value none)));
  }
  layer_case (RawStatement-F.Return l (Some a)) = record {
    fit = λ scope stand x own e kept.
        let k = map_there (s.Return scope.statements l) (optional (option_map (expr_of raw scope) (Some a))) x e in
        let v = optional_there (expr_of raw scope a) k.value k.there in
        let given : ok (Does scope.statements (Returns k.value)) ≡ true =
        subst (λ (y : Option Expr). ok (Does scope.statements (Returns y)) ≡ true) v.1.1 (passing.returned l scope.statements a v.0 scope own kept.0) in
        subst IsFit k.same (acts (s.Return scope.statements l k.value) _ (doings-Return scope.statements l k.value) given);
  }

  arm_case : (y : RawArm-F Known KnownArm) → ArmCase (as_arm_tree (arm_layer_of y)) (as_arm_text (arm_layer_of y))
  arm_case y = record {
    same = λ scope. list_after raw (rows y.body) scope;
    stays = λ scope. owners_stay raw (rows y.body) scope;
    fit = λ scope k a own e kept.
        let z = both_there arm_tree (collected (map (label_tree raw scope k) y.labels)) (collected (in_order (trees y.body) scope)) a e in
        subst (λ (w : Arm). AreFit (body_doings w.body)) z.same (list_fits y.body scope InArm z.right own z.right_there kept);
  }

  statement_case : (one : RawStatement) → Case (treed raw one) (scoped raw one)
  statement_case =
      ind-RawStatement (λ one. Case (treed raw one) (scoped raw one)) (λ a. ArmCase (treed_arm raw a) (scoped_of_arm raw a))
      (λ z y is. subst (λ w. Case (treed raw (roll-RawStatement w)) (scoped raw (roll-RawStatement w))) is
      (subst (λ t. Case t (scoped raw (roll-RawStatement (layer_of y)))) (sym (fold-roll-RawStatement (Scoped (Option Statement)) (Scoped ArmTree) (treed_step raw) (arm_tree_step raw) (layer_of y)))
      (subst (λ w. Case (as_tree (layer_of y)) w) (sym (fold-roll-RawStatement (Scoped (Stand → Phrases)) (Scoped ArmText) (scoped_step raw) scoped_arm (layer_of y))) (layer_case y))))
      (λ z y is. subst (λ w. ArmCase (treed_arm raw (roll-RawArm w)) (scoped_of_arm raw (roll-RawArm w))) is
      (subst (λ t. ArmCase t (scoped_of_arm raw (roll-RawArm (arm_layer_of y)))) (sym (fold-roll-RawArm (Scoped (Option Statement)) (Scoped ArmTree) (treed_step raw) (arm_tree_step raw) (arm_layer_of y)))
      (subst (λ w. ArmCase (as_arm_tree (arm_layer_of y)) w) (sym (fold-roll-RawArm (Scoped (Stand → Phrases)) (Scoped ArmText) (scoped_step raw) scoped_arm (arm_layer_of y))) (arm_case y))))

  abbrev all_known : List RawStatement → List Known
  all_known b = map (λ (x : RawStatement). let k : Known = (x, statement_case x) in k) b

  same_list : (b : List RawStatement) → rows (all_known b) ≡ b
  same_list [] = refl
  same_list (x ∷ b) = ap (λ ys. x ∷ ys) (same_list b)

  -- the statements of a body
  pub body_passes : (b : List RawStatement) (scope : Scope) (xs : List Statement) → scope.owner ≡ owner → body_of raw b scope ≡ Some xs → AreKept raw (body_phrases raw b scope) → AreFit (body_doings xs)
  body_passes b scope xs own e kept =
      list_fits (all_known b) scope InBlock xs own (ap (λ c. collected (in_order (map (treed raw) c) scope)) (same_list b) ∙ e)
      (subst (λ c. AreKept raw (joined_at InBlock (in_order (map (scoped raw) c) scope))) (sym (same_list b)) (subst (AreKept raw) (body_in_order raw b scope) kept))
