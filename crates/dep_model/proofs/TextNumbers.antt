-- The statements of a text are numbered in the order in which they stand, a test before what it decides.
use Rattle.std.proofs.Common.{◌≡◌, ℕ, zero, suc, ◌+◌, List, [], ◌∷◌, ◌++◌, map, Option, Some, None, option_map, option_and_then, refl, sym, ap, subst, ◌∙◌, arith}
use Rattle.std.specs.Prelude.{bytes_eq, codes}
use Rattle.std.proofs.lemmas.List.{map-append}
use Rattle.c_arith.specs.declared.int_type.IntType.{IntType}
use Rattle.c_tree.specs.declared.types.CType.{CType}
use Rattle.c_tree.specs.declared.expr.Expr.{Expr}
use Rattle.c_tree.specs.declared.program.Init.{Init}
use Rattle.c_tree.specs.declared.raw.program.RawInit.{RawInit}
use Rattle.c_tree.specs.declared.raw.program.RawInit.TheVariants as init
use Rattle.c_tree.specs.declared.raw.program.RawProgram.{RawProgram}
use Rattle.c_tree.specs.declared.raw.statement.RawArg.{RawArg}
use Rattle.c_tree.specs.declared.raw.statement.RawArm.{RawArm, roll-RawArm, map-RawArm, fold-roll-RawArm}
use Rattle.c_tree.specs.declared.raw.statement.RawStatement.{RawStatement, ind-RawStatement, roll-RawStatement, map-RawStatement, fold-roll-RawStatement}
use Rattle.c_tree.specs.declared.raw.statement.RawStatement.TheOpen.{RawStatement-F, RawArm-F}
use Rattle.c_tree.specs.declared.raw.statement.RawTarget.{RawTarget}
use Rattle.c_tree.specs.declared.statement.Amount.{Amount}
use Rattle.c_tree.specs.declared.statement.Arm.{Arm}
use Rattle.c_tree.specs.declared.statement.Statement.{Statement}
use Rattle.c_tree.specs.declared.statement.Statement.TheVariants as s
use Rattle.c_tree.specs.declared.statement.Target.{Target}
use Rattle.c_language.specs.Words.{Bytes}
use Rattle.c_language.specs.Code.{Tests}
use Rattle.c_language.specs.CallRules.{format_in, later_args}
use Rattle.c_language.specs.ConstantEvaluation.{both}
use Rattle.c_language.specs.DeclaredTypes.{function_id}
use Rattle.c_language.specs.ProgramOf.{collected, ctype_if, expr_of, init_of, declaration_id, target_tree, args_tree, only_tree, amount_tree, call_tree, label_tree, arm_tree, ArmTree, arm_tree_step, block_tree, at_type, switch_type, part_tree, for_tree, treed_step, treed, body_of, treed_arm}
use Rattle.c_language.specs.Scopes.{Scope, Scoped, opened, numbered, with_variable, with_target, begun, in_order, after_all, after_block}
use Rattle.c_language.specs.TypeGrammar.{named_type}
use Rattle.c_language.proofs.Options.{some_same, optional_there, map_there, then_there, both_there, more_there}
use Rattle.c_language.proofs.ScopeNumbers.{target_statements, begun_statements}
use Rattle.dep_model.proofs.Options.{Always, always_map, always_then, always_both, always_if, always_is}
use Rattle.dep_model.specs.Doings.{Doing, Does, doings, body_doings, doing_number}
use Rattle.dep_model.specs.NumbersFrom.{from}
use Rattle.dep_model.proofs.DoingForms.{arms_doings, part_doings, doings-Declare, doings-Assign, doings-Bump, doings-Invoke, doings-Fetch, doings-Write, doings-Print, doings-Heap, doings-Release, doings-Return, doings-If, doings-While, doings-Do, doings-Switch, doings-Block, doings-For}

-- ---- statements with the numbers from i up to j

pub record Takes (ds : List Doing) (i j : ℕ) : Type 0 where
  pub count : ℕ
  pub ends : j ≡ i + count
  pub numbers : map doing_number ds ≡ from i count

pub takes_none : (i : ℕ) → Takes [] i i
takes_none i = record { count = 0; ends = omega arith; numbers = refl }

from_append : (i m n : ℕ) → from i m ++ from (i + m) n ≡ from i (m + n)
from_append i zero n = let e : i + 0 ≡ i = omega arith in let z : 0 + n ≡ n = omega arith in ap (λ k. from k n) e ∙ ap (from i) (sym z)
from_append i (suc m) n =
    let e : i + suc m ≡ suc i + m = omega arith in
    let z : suc m + n ≡ suc (m + n) = omega arith in
    ap (λ k. i ∷ (from (suc i) m ++ from k n)) e ∙ ap (λ ks. i ∷ ks) (from_append (suc i) m n) ∙ ap (from i) (sym z)

pub takes_both : (ds es : List Doing) (i j k : ℕ) → Takes ds i j → Takes es j k → Takes (ds ++ es) i k
takes_both ds es i j k a b = record {
  count = a.count + b.count;
  ends = omega (arith, a.ends, b.ends);
  numbers = map-append doing_number ds es ∙ ap (λ ks. ks ++ map doing_number es) a.numbers ∙ ap (λ ks. from i a.count ++ ks) (b.numbers ∙ ap (λ n. from n b.count) a.ends) ∙ from_append i a.count b.count;
}

takes_more : (d : Doing) (ds : List Doing) (i k : ℕ) → doing_number d ≡ i → Takes ds (i + 1) k → Takes (d ∷ ds) i k
takes_more d ds i k e h =
    let n : i + 1 ≡ suc i = omega arith in
    record {
      count = suc h.count;
      ends = omega (arith, h.ends);
      numbers = ap (λ m. m ∷ map doing_number ds) e ∙ ap (λ ks. i ∷ ks) (h.numbers ∙ ap (λ m. from m h.count) n);
    }

takes_one : (d : Doing) (i : ℕ) → doing_number d ≡ i → Takes (d ∷ []) i (i + 1)
takes_one d i e = takes_more d [] i (i + 1) e (takes_none (i + 1))

-- a statement of one number
abbrev IsOne : ℕ → Statement → Type 0
IsOne i x = Takes (doings x) i (i + 1)

one_of : (x : Statement) (d : Doing) (i : ℕ) → doings x ≡ d ∷ [] → doing_number d ≡ i → IsOne i x
one_of x d i is e = subst (λ ds. Takes ds i (i + 1)) (sym is) (takes_one d i e)

-- what a for was made of
pub for_some : (id l : ℕ) (i : Option (Option Statement)) (o : Option Expr) (k : Option (Option Statement)) (b : Option (List Statement)) (x : Statement) → for_tree id l i o k b ≡ Some x
    → (i_ : Option Statement) × (e : Expr) × (k_ : Option Statement) × (b_ : List Statement) × (i ≡ Some i_) × (o ≡ Some e) × (k ≡ Some k_) × (b ≡ Some b_) × (x ≡ s.For id l i_ e k_ b_)
for_some id l i o k b x h =
    let a = then_there (λ (y : Option Statement). option_and_then (λ (e : Expr). both (s.For id l y e) k b) o) i x h in
    let c = then_there (λ (e : Expr). both (s.For id l a.value e) k b) o x a.same in
    let d = both_there (s.For id l a.value c.value) k b x c.same in
    (a.value, c.value, d.left, d.right, a.there, c.there, d.left_there, d.right_there, (sym d.same))

module _ (raw : RawProgram) where
  -- a statement where it stands takes the numbers up to those after it
  abbrev Case : Scoped (Option Statement) → Type 0
  Case t = (scope : Scope) (x : Statement) → t.gives scope ≡ Some x → Takes (doings x) scope.statements (t.after scope).statements

  abbrev ArmCase : Scoped ArmTree → Type 0
  ArmCase t = (scope : Scope) (k : IntType) (a : Arm) → t.gives scope k ≡ Some a → Takes (body_doings a.body) scope.statements (t.after scope).statements

  abbrev Known : Type 0
  Known = (one : RawStatement) × Case (treed raw one)

  abbrev KnownArm : Type 0
  KnownArm = (a : RawArm) × ArmCase (treed_arm raw a)

  abbrev layer_of : RawStatement-F Known KnownArm → RawStatement-F RawStatement RawArm
  layer_of = map-RawStatement Known KnownArm RawStatement RawArm (λ p. p.0) (λ p. p.0)

  abbrev arm_layer_of : RawArm-F Known KnownArm → RawArm-F RawStatement RawArm
  arm_layer_of = map-RawArm Known KnownArm RawStatement RawArm (λ p. p.0) (λ p. p.0)

  abbrev as_tree : RawStatement-F RawStatement RawArm → Scoped (Option Statement)
  as_tree y = treed_step raw (map-RawStatement RawStatement RawArm (Scoped (Option Statement)) (Scoped ArmTree) (treed raw) (treed_arm raw) y)

  abbrev as_arm : RawArm-F RawStatement RawArm → Scoped ArmTree
  as_arm y = arm_tree_step raw (map-RawArm RawStatement RawArm (Scoped (Option Statement)) (Scoped ArmTree) (treed raw) (treed_arm raw) y)

  abbrev trees : List Known → List (Scoped (Option Statement))
  trees ks = map (treed raw) (map (λ (p : Known). p.0) ks)

  abbrev arm_trees : List KnownArm → List (Scoped ArmTree)
  arm_trees ks = map (treed_arm raw) (map (λ (p : KnownArm). p.0) ks)

  -- ---- lists

  list_takes : (ks : List Known) (scope : Scope) (xs : List Statement) → collected (in_order (trees ks) scope) ≡ Some xs → Takes (body_doings xs) scope.statements (after_all (trees ks) scope).statements
  list_takes [] scope xs e = subst (λ ys. Takes (body_doings ys) scope.statements scope.statements) (some_same e) (takes_none scope.statements)
  list_takes (one ∷ ks) scope xs e =
      let t = treed raw one.0 in
      let m = more_there (t.gives scope) (in_order (trees ks) (t.after scope)) xs e in
      subst (λ ys. Takes (body_doings ys) scope.statements (after_all (trees ks) (t.after scope)).statements) m.same
      (takes_both (doings m.first) (body_doings m.rest) scope.statements (t.after scope).statements (after_all (trees ks) (t.after scope)).statements (one.1 scope m.first m.first_there) (list_takes ks (t.after scope) m.rest m.rest_there))

  arms_take : (ks : List KnownArm) (scope : Scope) (k : IntType) (as_ : List Arm) → at_type k (in_order (arm_trees ks) scope) ≡ Some as_ → Takes (arms_doings as_) scope.statements (after_all (arm_trees ks) scope).statements
  arms_take [] scope k as_ e = subst (λ ys. Takes (arms_doings ys) scope.statements scope.statements) (some_same e) (takes_none scope.statements)
  arms_take (one ∷ ks) scope k as_ e =
      let t = treed_arm raw one.0 in
      let m = more_there (t.gives scope k) (map (λ (a : ArmTree). a k) (in_order (arm_trees ks) (t.after scope))) as_ e in
      subst (λ ys. Takes (arms_doings ys) scope.statements (after_all (arm_trees ks) (t.after scope)).statements) m.same
      (takes_both (body_doings m.first.body) (arms_doings m.rest) scope.statements (t.after scope).statements (after_all (arm_trees ks) (t.after scope)).statements (one.1 scope k m.first m.first_there) (arms_take ks (t.after scope) k m.rest m.rest_there))

  -- a test and what it decides
  tested : (x : Statement) (id : ℕ) (e : Expr) (ds : List Doing) (k : ℕ) → doings x ≡ Does id (Tests e) ∷ ds → Takes ds (id + 1) k → Takes (doings x) id k
  tested x id e ds k is h = subst (λ es. Takes es id k) (sym is) (takes_more (Does id (Tests e)) ds id k refl h)

  -- ---- calls

  call_one : (scope : Scope) (id l : ℕ) (to : Option Target) (f : Bytes) (args : List RawArg) → Always (IsOne id) (call_tree raw scope id l to f args)
  call_one scope id l to f args =
      always_if (IsOne id) (bytes_eq f (codes "getchar")) _ _ (always_map (IsOne id) (s.Fetch id l) to (λ t. one_of (s.Fetch id l t) _ id (doings-Fetch id l t) refl))
      (always_if (IsOne id) (bytes_eq f (codes "putchar")) _ _ (always_map (IsOne id) (s.Write id l) (only_tree raw scope args) (λ e. one_of (s.Write id l e) _ id (doings-Write id l e) refl))
      (always_if (IsOne id) (bytes_eq f (codes "printf")) _ _ (always_then (IsOne id) _ (format_in args) (λ text. always_map (IsOne id) (s.Print id l text) (args_tree raw scope (later_args args)) (λ es. one_of (s.Print id l text es) _ id (doings-Print id l text es) refl)))
      (always_if (IsOne id) (bytes_eq f (codes "free")) _ _ (always_map (IsOne id) (s.Release id l) (only_tree raw scope args) (λ e. one_of (s.Release id l e) _ id (doings-Release id l e) refl))
      (always_then (IsOne id) _ to (λ t. always_both (IsOne id) (s.Invoke id l t) (function_id raw f) (args_tree raw scope args) (λ g es. one_of (s.Invoke id l t g es) _ id (doings-Invoke id l t g es) refl))))))

  heap_one : (id l : ℕ) (to : Option Target) (c : Option (Option CType)) (n : Option Amount) → Always (IsOne id) (option_and_then (λ (t : Target). option_and_then (λ (k : Option CType). option_map (s.Heap id l t k) n) c) to)
  heap_one id l None c n = tt
  heap_one id l (Some t) None n = tt
  heap_one id l (Some t) (Some k) None = tt
  heap_one id l (Some t) (Some k) (Some a) = one_of (s.Heap id l t k a) _ id (doings-Heap id l t k a) refl

  -- the statement behind a target has the next number
  behind : (to : RawTarget) (scope : Scope) (x : Statement) → IsOne scope.statements x → Takes (doings x) scope.statements ((with_target raw to scope).statements + 1)
  behind to scope x h = subst (λ n. Takes (doings x) scope.statements (n + 1)) (sym (target_statements raw to scope)) h

  -- ---- forms

  declares : (scope : Scope) (l x : ℕ) (i : RawInit) (n : Init) → Takes (doings (s.Declare (declaration_id i scope.statements) l x n)) scope.statements (begun i scope).statements
  declares scope l x init.None n = subst (λ ds. Takes ds scope.statements scope.statements) (sym (doings-Declare None l x n)) (takes_none scope.statements)
  declares scope l x (init.One a) n = one_of (s.Declare (Some scope.statements) l x n) _ scope.statements (doings-Declare (Some scope.statements) l x n) refl
  declares scope l x (init.Items es) n = one_of (s.Declare (Some scope.statements) l x n) _ scope.statements (doings-Declare (Some scope.statements) l x n) refl

  for_of : (x : Statement) (id l : ℕ) (i : Option Statement) (e : Expr) (k : Option Statement) (b : List Statement) (m n o : ℕ) → x ≡ s.For id l i e k b → Takes (part_doings i) (id + 1) m → Takes (part_doings k) m n → Takes (body_doings b) n o → Takes (doings x) id o
  for_of x id l i e k b m n o is hi hk hb =
      tested x id e (part_doings i ++ (part_doings k ++ body_doings b)) o (ap doings is ∙ doings-For id l i e k b) (takes_both (part_doings i) (part_doings k ++ body_doings b) (id + 1) m o hi (takes_both (part_doings k) (body_doings b) m n o hk hb))

  none_takes : (scope : Scope) (x : Option Statement) → Some None ≡ Some x → Takes (part_doings x) scope.statements scope.statements
  none_takes scope x e = subst (λ y. Takes (part_doings y) scope.statements scope.statements) (some_same e) (takes_none scope.statements)

  some_takes : (one : Known) (scope : Scope) (x : Option Statement) → part_tree (Some (treed raw one.0)) scope ≡ Some x → Takes (part_doings x) scope.statements ((treed raw one.0).after scope).statements
  some_takes one scope x e =
      let p = optional_there ((treed raw one.0).gives scope) x e in
      subst (λ z. Takes (part_doings z) scope.statements ((treed raw one.0).after scope).statements) p.1.1 (one.1 scope p.0 p.1.0)

  layer_case : (y : RawStatement-F Known KnownArm) → Case (as_tree (layer_of y))
  layer_case (RawStatement-F.Declare l v i) scope x e =
      let m = map_there (s.Declare (declaration_id i scope.statements) l scope.variables) (init_of raw (with_variable raw v i scope) i) x e in
      subst (λ n. Takes (doings x) scope.statements n) (begun_statements i scope (with_variable raw v i scope) refl) (subst (λ z. Takes (doings z) scope.statements (begun i scope).statements) m.same (declares scope l scope.variables i m.value))
  layer_case (RawStatement-F.Assign l left op right) scope x e =
      always_is (IsOne scope.statements) _ x (always_both (IsOne scope.statements) (λ (a b : Expr). s.Assign scope.statements l a op b) (expr_of raw scope left) (expr_of raw scope right) (λ a b. one_of (s.Assign scope.statements l a op b) _ scope.statements (doings-Assign scope.statements l a op b) refl)) e
  layer_case (RawStatement-F.Bump l left up before) scope x e =
      always_is (IsOne scope.statements) _ x (always_map (IsOne scope.statements) (λ (a : Expr). s.Bump scope.statements l a up before) (expr_of raw scope left) (λ a. one_of (s.Bump scope.statements l a up before) _ scope.statements (doings-Bump scope.statements l a up before) refl)) e
  layer_case (RawStatement-F.Call l to f args) scope x e =
      behind to scope x (always_is (IsOne scope.statements) _ x (call_one (with_target raw to scope) scope.statements l (target_tree raw scope to) f args) e)
  layer_case (RawStatement-F.Heap l to cast n) scope x e =
      behind to scope x (always_is (IsOne scope.statements) _ x (heap_one scope.statements l (target_tree raw scope to) (ctype_if raw (option_map named_type cast)) (amount_tree raw (with_target raw to scope) n)) e)
  layer_case (RawStatement-F.If l test a b) scope x e =
      let t = then_there (λ (z : Expr). both (s.If scope.statements l z) (block_tree (trees a) (numbered scope)) (block_tree (trees b) (after_block (trees a) (numbered scope)))) (expr_of raw scope test) x e in
      let m = both_there (s.If scope.statements l t.value) (block_tree (trees a) (numbered scope)) (block_tree (trees b) (after_block (trees a) (numbered scope))) x t.same in
      tested x scope.statements t.value (body_doings m.left ++ body_doings m.right) _ (ap doings (sym m.same) ∙ doings-If scope.statements l t.value m.left m.right)
      (takes_both (body_doings m.left) (body_doings m.right) (scope.statements + 1) _ _ (list_takes a (opened (numbered scope)) m.left m.left_there) (list_takes b (opened (after_block (trees a) (numbered scope))) m.right m.right_there))
  layer_case (RawStatement-F.While l test b) scope x e =
      let m = both_there (s.While scope.statements l) (expr_of raw scope test) (block_tree (trees b) (numbered scope)) x e in
      tested x scope.statements m.left (body_doings m.right) _ (ap doings (sym m.same) ∙ doings-While scope.statements l m.left m.right) (list_takes b (opened (numbered scope)) m.right m.right_there)
  layer_case (RawStatement-F.Do l test b) scope x e =
      let m = both_there (s.Do scope.statements l) (expr_of raw scope test) (block_tree (trees b) (numbered scope)) x e in
      tested x scope.statements m.left (body_doings m.right) _ (ap doings (sym m.same) ∙ doings-Do scope.statements l m.left m.right) (list_takes b (opened (numbered scope)) m.right m.right_there)
  layer_case (RawStatement-F.For l None test None b) scope x e =
      let m = for_some _ l _ _ _ _ x e in
      let first = opened (numbered scope) in
      for_of x _ l m.0 m.1 m.2 m.3 _ _ _ m.8 (none_takes first m.0 m.4) (none_takes first m.2 m.6) (list_takes b (opened first) m.3 m.7)
  layer_case (RawStatement-F.For l None test (Some k) b) scope x e =
      let m = for_some _ l _ _ _ _ x e in
      let first = opened (numbered scope) in
      for_of x _ l m.0 m.1 m.2 m.3 _ _ _ m.8 (none_takes first m.0 m.4) (some_takes k first m.2 m.6) (list_takes b (opened ((treed raw k.0).after first)) m.3 m.7)
  layer_case (RawStatement-F.For l (Some i) test None b) scope x e =
      let m = for_some _ l _ _ _ _ x e in
      let first = opened (numbered scope) in
      let next = (treed raw i.0).after first in
      for_of x _ l m.0 m.1 m.2 m.3 _ _ _ m.8 (some_takes i first m.0 m.4) (none_takes next m.2 m.6) (list_takes b (opened next) m.3 m.7)
  layer_case (RawStatement-F.For l (Some i) test (Some k) b) scope x e =
      let m = for_some _ l _ _ _ _ x e in
      let first = opened (numbered scope) in
      let next = (treed raw i.0).after first in
      for_of x _ l m.0 m.1 m.2 m.3 _ _ _ m.8 (some_takes i first m.0 m.4) (some_takes k next m.2 m.6) (list_takes b (opened ((treed raw k.0).after next)) m.3 m.7)
  layer_case (RawStatement-F.Switch l test arms) scope x e =
      let t = then_there (λ (z : Expr). option_and_then (λ (k : IntType). option_map (s.Switch scope.statements l z) (at_type k (in_order (arm_trees arms) (opened (numbered scope))))) (switch_type raw scope test)) (expr_of raw scope test) x e in
      let u = then_there (λ (k : IntType). option_map (s.Switch scope.statements l t.value) (at_type k (in_order (arm_trees arms) (opened (numbered scope))))) (switch_type raw scope test) x t.same in
      let m = map_there (s.Switch scope.statements l t.value) (at_type u.value (in_order (arm_trees arms) (opened (numbered scope)))) x u.same in
      tested x scope.statements t.value (arms_doings m.value) _ (ap doings (sym m.same) ∙ doings-Switch scope.statements l t.value m.value) (arms_take arms (opened (numbered scope)) u.value m.value m.there)
  layer_case (RawStatement-F.Block l b) scope x e =
      let m = map_there (s.Block l) (block_tree (trees b) scope) x e in
      subst (λ ds. Takes ds scope.statements (after_all (trees b) (opened scope)).statements) (sym (ap doings (sym m.same) ∙ doings-Block l m.value)) (list_takes b (opened scope) m.value m.there)
  layer_case (RawStatement-F.Return l a) scope x e =
      always_is (IsOne scope.statements) _ x (always_map (IsOne scope.statements) (s.Return scope.statements l) _ (λ v. one_of (s.Return scope.statements l v) _ scope.statements (doings-Return scope.statements l v) refl)) e

  arm_case : (y : RawArm-F Known KnownArm) → ArmCase (as_arm (arm_layer_of y))
  arm_case y scope k a e =
      let m = both_there arm_tree (collected (map (label_tree raw scope k) y.labels)) (collected (in_order (trees y.body) scope)) a e in
      subst (λ (z : Arm). Takes (body_doings z.body) scope.statements (after_all (trees y.body) scope).statements) m.same (list_takes y.body scope m.right m.right_there)

  -- a statement of a text takes the numbers from those before it up to those after it
  pub statement_takes : (one : RawStatement) → Case (treed raw one)
  statement_takes =
      ind-RawStatement (λ one. Case (treed raw one)) (λ a. ArmCase (treed_arm raw a))
      (λ z y is. subst (λ w. Case (treed raw (roll-RawStatement w))) is (subst Case (sym (fold-roll-RawStatement (Scoped (Option Statement)) (Scoped ArmTree) (treed_step raw) (arm_tree_step raw) (layer_of y))) (layer_case y)))
      (λ z y is. subst (λ w. ArmCase (treed_arm raw (roll-RawArm w))) is (subst ArmCase (sym (fold-roll-RawArm (Scoped (Option Statement)) (Scoped ArmTree) (treed_step raw) (arm_tree_step raw) (arm_layer_of y))) (arm_case y)))

  abbrev all_known : List RawStatement → List Known
  all_known b = map (λ (one : RawStatement). let k : Known = (one, statement_takes one) in k) b

  same_list : (b : List RawStatement) → map (λ (p : Known). p.0) (all_known b) ≡ b
  same_list [] = refl
  same_list (x ∷ b) = ap (λ ys. x ∷ ys) (same_list b)

  -- and so does a body
  pub body_takes : (b : List RawStatement) (scope : Scope) (xs : List Statement) → body_of raw b scope ≡ Some xs → Takes (body_doings xs) scope.statements (after_all (map (treed raw) b) scope).statements
  body_takes b scope xs e =
      subst (λ c. Takes (body_doings xs) scope.statements (after_all (map (treed raw) c) scope).statements) (same_list b) (list_takes (all_known b) scope xs (ap (λ c. collected (in_order (map (treed raw) c) scope)) (same_list b) ∙ e))
