-- Each form of statement whose phrases keep their rules has its tree, and leaves a scope whose names have types.
use Rattle.std.proofs.Common.{◌≡◌, ℕ, List, [], ◌∷◌, ◌++◌, map, Bool, Option, Some, None, refl, sym, ap, subst, ◌∙◌}
use Rattle.std.specs.Prelude.{Contains, option_map, option_and_then}
use Rattle.std.proofs.lemmas.List.Elements.{Contains-append_left}
use Rattle.c_arith.specs.declared.int_type.IntType.{IntType}
use Rattle.c_arith.specs.declared.operators.BinaryOp.{BinaryOp}
use Rattle.c_arith.specs.IntType.{promote}
use Rattle.c_tree.specs.declared.expr.Expr.{Expr}
use Rattle.c_tree.specs.declared.statement.Target.TheVariants as to_place
use Rattle.c_tree.specs.declared.statement.Statement.{Statement}
use Rattle.c_tree.specs.declared.statement.Statement.TheVariants as s
use Rattle.c_tree.specs.declared.program.Init.TheVariants as begins
use Rattle.c_tree.specs.declared.raw.expr.RawExpr.{RawExpr}
use Rattle.c_tree.specs.declared.raw.expr.RawVar.{RawVar}
use Rattle.c_tree.specs.declared.raw.program.RawInit.{RawInit}
use Rattle.c_tree.specs.declared.raw.program.RawInit.TheVariants as init
use Rattle.c_tree.specs.declared.raw.program.RawProgram.{RawProgram}
use Rattle.c_tree.specs.declared.raw.statement.RawTarget.{RawTarget}
use Rattle.c_tree.specs.declared.raw.statement.RawTarget.TheVariants as target
use Rattle.c_tree.specs.declared.raw.statement.RawArg.{RawArg}
use Rattle.c_tree.specs.declared.raw.statement.RawTypeName.{RawTypeName}
use Rattle.c_tree.specs.declared.raw.statement.RawAmount.{RawAmount}
use Rattle.c_tree.specs.declared.raw.statement.RawLabel.{RawLabel}
use Rattle.c_tree.specs.declared.raw.statement.RawLabel.TheVariants as label
use Rattle.c_tree.specs.declared.raw.statement.RawStatement.TheOpen.{RawStatement-F}
use Rattle.c_language.specs.Words.{Bytes}
use Rattle.c_language.specs.ConstantEvaluation.{value_of_constant}
use Rattle.c_language.specs.DeclaredTypes.{defined_structs}
use Rattle.c_language.specs.Scopes.{Scope, with_variable, with_target, begun, opened, closed, numbered, Scoped, in_order, after_all, after_block, after_part, part_gives, scope_of_test, scope_of_body}
use Rattle.c_language.specs.ExprTypes.{operand, integer_of}
use Rattle.c_language.specs.Phrases.{Stand, InFor, InBlock, InArm, Part, Begins, Assigns, Bumps, Calls, Allocates, Tests, Switches, Returns, Phrases, phrase, begun_phrases, target_phrases, joined_at, block_phrases, at_stand, ArmText, labels_of, phrases_of_arms, scoped_step, scoped_arm}
use Rattle.c_language.specs.Uses.{expressions, target_exprs, arg_exprs, counts, cases}
use Rattle.c_language.specs.Rules.{no_constant, switch, AreKept, BreaksNone}
use Rattle.c_language.specs.ArrayRules.{LacksConstant}
use Rattle.c_language.specs.SwitchRules.{MisusesSwitch}
use Rattle.c_language.specs.ProgramOf.{collected, optional, expr_of, exprs_of, init_of, declaration_id, target_tree, label_tree, arm_tree, ArmTree, arm_tree_step, block_tree, at_type, switch_type, part_tree, for_tree, tree_step, treed_step}
use Rattle.c_language.specs.declared.expr_type.Operand.{Operand}
use Rattle.c_language.proofs.Options.{there_map}
use Rattle.c_language.proofs.Lists.{contains_first, contains_later}
use Rattle.c_language.proofs.PhraseLists.{kept_both}
use Rattle.c_types_base.proofs.OptionLemmas.{not_none, there_then, there_both, there_optional, AreThere, there_collected}
use Rattle.c_types_trees.proofs.ScopeLemmas.{IsTyped, typed_variable, AreComplete}
use Rattle.c_types_trees.proofs.ConstantTrees.{constant_tree}
use Rattle.c_types_trees.proofs.PhraseTrees.{variable_made, target_made, typed_target, phrase_tree, phrase_operand, exprs_there}
use Rattle.c_types_trees.proofs.CallTrees.{call_there}
use Rattle.c_types_trees.specs.FitPhrases.{IsAllocation}
use Rattle.c_types_trees.proofs.AllocationTrees.{heap_there}
use Rattle.c_language.specs.Options.{IsThere}

-- each case of these labels is a constant
abbrev AreConstant : List RawLabel → Type 0
AreConstant [] = Unit {0}
AreConstant (label.Case a ∷ rest) = IsThere (value_of_constant a) × AreConstant rest
AreConstant (label.Default ∷ rest) = AreConstant rest

constant_both : (ls ms : List RawLabel) → AreConstant (ls ++ ms) → AreConstant ls × AreConstant ms
constant_both [] ms h = (tt, h)
constant_both (label.Case a ∷ ls) ms h = let rest = constant_both ls ms h.1 in ((h.0, rest.0), rest.1)
constant_both (label.Default ∷ ls) ms h = constant_both ls ms h

constants_of : (ls : List RawLabel) → ((a : RawExpr) → Contains (cases ls) a → IsThere (value_of_constant a)) → AreConstant ls
constants_of [] h = tt
constants_of (label.Case a ∷ ls) h = (h a (contains_first a (cases ls)), constants_of ls (λ b c. h b (contains_later a b (cases ls) c)))
constants_of (label.Default ∷ ls) h = constants_of ls h

typed_begun : (i : RawInit) (scope : Scope) → IsTyped scope → IsTyped (begun i scope)
typed_begun init.None scope typed = typed
typed_begun (init.One a) scope typed = typed
typed_begun (init.Items es) scope typed = typed

module _ (raw : RawProgram) (complete : AreComplete raw (defined_structs raw)) where
  -- an initialiser, where its variable is in scope
  pub init_there : (l : ℕ) (scope : Scope) (stand : Stand) (var : RawVar) (i : RawInit) → IsTyped scope → AreKept raw (begun_phrases l scope stand var i)
      → IsThere (init_of raw scope i)
  init_there l scope stand var init.None typed h = tt
  init_there l scope stand var (init.One a) typed h =
      there_map begins.One (expr_of raw scope a) (phrase_tree raw complete scope typed (Begins stand var (init.One a)) h.0 a (contains_first a []))
  init_there l scope stand var (init.Items es) typed h =
      there_map begins.Items (exprs_of raw scope es) (exprs_there raw scope es (phrase_tree raw complete scope typed (Begins stand var (init.Items es)) h.0))

  -- a statement's tree x, beside its phrases y
  pub record IsTreed (x : Scoped (Option Statement)) (y : Scoped (Stand → Phrases)) : Type 0 where
    pub same : (scope : Scope) → x.after scope ≡ y.after scope
    pub typed : (scope : Scope) (stand : Stand) → IsTyped scope → AreKept raw (y.gives scope stand) → IsTyped (y.after scope)
    pub there : (scope : Scope) (stand : Stand) → IsTyped scope → AreKept raw (y.gives scope stand) → IsThere (x.gives scope)

  abbrev pub AreTreed : List (Scoped (Option Statement)) → List (Scoped (Stand → Phrases)) → Type 0
  AreTreed [] [] = Unit {0}
  AreTreed [] (y ∷ ys) = ⊥
  AreTreed (x ∷ xs) [] = ⊥
  AreTreed (x ∷ xs) (y ∷ ys) = IsTreed x y × AreTreed xs ys

  abbrev pub IsTreedIf : Option (Scoped (Option Statement)) → Option (Scoped (Stand → Phrases)) → Type 0
  IsTreedIf None None = Unit {0}
  IsTreedIf None (Some y) = ⊥
  IsTreedIf (Some x) None = ⊥
  IsTreedIf (Some x) (Some y) = IsTreed x y

  -- an arm's tree x, beside its labels and phrases y
  pub record IsTreedArm (x : Scoped ArmTree) (y : Scoped ArmText) : Type 0 where
    pub same : (scope : Scope) → x.after scope ≡ y.after scope
    pub typed : (scope : Scope) → IsTyped scope → AreKept raw (y.gives scope).phrases → IsTyped (y.after scope)
    pub there : (scope : Scope) (t : IntType) → IsTyped scope → AreKept raw (y.gives scope).phrases → AreConstant (y.gives scope).labels → IsThere (x.gives scope t)

  abbrev pub AreTreedArms : List (Scoped ArmTree) → List (Scoped ArmText) → Type 0
  AreTreedArms [] [] = Unit {0}
  AreTreedArms [] (y ∷ ys) = ⊥
  AreTreedArms (x ∷ xs) [] = ⊥
  AreTreedArms (x ∷ xs) (y ∷ ys) = IsTreedArm x y × AreTreedArms xs ys

  -- ---- statements one after another

  same_all : (xs : List (Scoped (Option Statement))) (ys : List (Scoped (Stand → Phrases))) → AreTreed xs ys → (scope : Scope) → after_all xs scope ≡ after_all ys scope
  same_all [] [] h scope = refl
  same_all [] (y ∷ ys) h scope = absurd h
  same_all (x ∷ xs) [] h scope = absurd h
  same_all (x ∷ xs) (y ∷ ys) h scope = ap (after_all xs) (h.0.same scope) ∙ same_all xs ys h.1 (y.after scope)

  typed_all : (stand : Stand) (xs : List (Scoped (Option Statement))) (ys : List (Scoped (Stand → Phrases))) → AreTreed xs ys → (scope : Scope) → IsTyped scope
      → AreKept raw (joined_at stand (in_order ys scope)) → IsTyped (after_all ys scope)
  typed_all stand [] [] h scope typed kept = typed
  typed_all stand [] (y ∷ ys) h scope typed kept = absurd h
  typed_all stand (x ∷ xs) [] h scope typed kept = absurd h
  typed_all stand (x ∷ xs) (y ∷ ys) h scope typed kept =
      let parts = kept_both raw (y.gives scope stand) (joined_at stand (in_order ys (y.after scope))) kept in
      typed_all stand xs ys h.1 (y.after scope) (h.0.typed scope stand typed parts.0) parts.1

  all_there : (stand : Stand) (xs : List (Scoped (Option Statement))) (ys : List (Scoped (Stand → Phrases))) → AreTreed xs ys → (scope : Scope) → IsTyped scope
      → AreKept raw (joined_at stand (in_order ys scope)) → AreThere (in_order xs scope)
  all_there stand [] [] h scope typed kept = tt
  all_there stand [] (y ∷ ys) h scope typed kept = absurd h
  all_there stand (x ∷ xs) [] h scope typed kept = absurd h
  all_there stand (x ∷ xs) (y ∷ ys) h scope typed kept =
      let parts = kept_both raw (y.gives scope stand) (joined_at stand (in_order ys (y.after scope))) kept in (
        h.0.there scope stand typed parts.0,
        subst (λ z. AreThere (in_order xs z)) (sym (h.0.same scope)) (all_there stand xs ys h.1 (y.after scope) (h.0.typed scope stand typed parts.0) parts.1),
      )

  pub list_there : (stand : Stand) (xs : List (Scoped (Option Statement))) (ys : List (Scoped (Stand → Phrases))) → AreTreed xs ys → (scope : Scope) → IsTyped scope
      → AreKept raw (joined_at stand (in_order ys scope)) → IsThere (collected (in_order xs scope))
  list_there stand xs ys h scope typed kept = there_collected (in_order xs scope) (all_there stand xs ys h scope typed kept)

  block_there : (xs : List (Scoped (Option Statement))) (ys : List (Scoped (Stand → Phrases))) → AreTreed xs ys → (scope : Scope) → IsTyped scope
      → AreKept raw (block_phrases ys scope) → IsThere (block_tree xs scope)
  block_there xs ys h scope typed kept = list_there InBlock xs ys h (opened scope) typed kept

  same_block : (xs : List (Scoped (Option Statement))) (ys : List (Scoped (Stand → Phrases))) → AreTreed xs ys → (scope : Scope) → after_block xs scope ≡ after_block ys scope
  same_block xs ys h scope = ap (closed scope) (same_all xs ys h (opened scope))

  same_part : (x : Option (Scoped (Option Statement))) (y : Option (Scoped (Stand → Phrases))) → IsTreedIf x y → (scope : Scope) → after_part x scope ≡ after_part y scope
  same_part None None h scope = refl
  same_part None (Some y) h scope = absurd h
  same_part (Some x) None h scope = absurd h
  same_part (Some x) (Some y) h scope = h.same scope

  typed_part : (stand : Stand) (x : Option (Scoped (Option Statement))) (y : Option (Scoped (Stand → Phrases))) → IsTreedIf x y → (scope : Scope) → IsTyped scope
      → AreKept raw (at_stand stand (part_gives y scope)) → IsTyped (after_part y scope)
  typed_part stand None None h scope typed kept = typed
  typed_part stand None (Some y) h scope typed kept = absurd h
  typed_part stand (Some x) None h scope typed kept = absurd h
  typed_part stand (Some x) (Some y) h scope typed kept = h.typed scope stand typed kept

  part_there : (stand : Stand) (x : Option (Scoped (Option Statement))) (y : Option (Scoped (Stand → Phrases))) → IsTreedIf x y → (scope : Scope) → IsTyped scope
      → AreKept raw (at_stand stand (part_gives y scope)) → IsThere (part_tree x scope)
  part_there stand None None h scope typed kept = tt
  part_there stand None (Some y) h scope typed kept = absurd h
  part_there stand (Some x) None h scope typed kept = absurd h
  part_there stand (Some x) (Some y) h scope typed kept = there_optional (Some (x.gives scope)) (h.there scope stand typed kept)

  -- ---- simple statements

  pub is_treed-Declare : (l : ℕ) (var : RawVar) (i : RawInit) → IsTreed (treed_step raw (RawStatement-F.Declare l var i)) (scoped_step raw (RawStatement-F.Declare l var i))
  is_treed-Declare l var i = record {
    same = λ scope. refl;
    typed = λ scope stand typed kept. typed_begun i (with_variable raw var i scope) (typed_variable raw var i scope typed (variable_made raw scope stand var i kept.0).typed);
    there = λ scope stand typed kept.
        there_map (s.Declare (declaration_id i scope.statements) l scope.variables) (init_of raw (with_variable raw var i scope) i)
        (init_there l (with_variable raw var i scope) stand var i (typed_variable raw var i scope typed (variable_made raw scope stand var i kept.0).typed) kept.1);
  }

  pub is_treed-Assign : (l : ℕ) (left : RawExpr) (op : Option BinaryOp) (right : RawExpr)
      → IsTreed (treed_step raw (RawStatement-F.Assign l left op right)) (scoped_step raw (RawStatement-F.Assign l left op right))
  is_treed-Assign l left op right = record {
    same = λ scope. refl;
    typed = λ scope stand typed kept. typed;
    there = λ scope stand typed kept.
        let tree = phrase_tree raw complete scope typed (Assigns left op right) kept.0 in
        there_both _ (expr_of raw scope left) (expr_of raw scope right)
        (tree left (contains_first left (right ∷ []))) (tree right (contains_later left right (right ∷ []) (contains_first right [])));
  }

  pub is_treed-Bump : (l : ℕ) (left : RawExpr) (up before : Bool) → IsTreed (treed_step raw (RawStatement-F.Bump l left up before)) (scoped_step raw (RawStatement-F.Bump l left up before))
  is_treed-Bump l left up before = record {
    same = λ scope. refl;
    typed = λ scope stand typed kept. typed;
    there = λ scope stand typed kept. there_map _ (expr_of raw scope left) (phrase_tree raw complete scope typed (Bumps left) kept.0 left (contains_first left []));
  }

  -- a target, by what stores into it
  target_there : (scope : Scope) (to : RawTarget) (part : Part) → IsTyped scope → BreaksNone raw (with_target raw to scope) part
      → ((e : RawExpr) → Contains (target_exprs to) e → Contains (expressions part) e) → IsThere (target_tree raw scope to)
  target_there scope target.None part typed keeps within = tt
  target_there scope (target.Place a) part typed keeps within =
      there_map to_place.Place (expr_of raw scope a) (phrase_tree raw complete scope typed part keeps a (within a (contains_first a [])))
  target_there scope (target.Declared var) part typed keeps within = tt

  pub is_treed-Call : (l : ℕ) (to : RawTarget) (f : Bytes) (args : List RawArg)
      → IsTreed (treed_step raw (RawStatement-F.Call l to f args)) (scoped_step raw (RawStatement-F.Call l to f args))
  is_treed-Call l to f args = record {
    same = λ scope. refl;
    typed = λ scope stand typed kept.
        let parts = kept_both raw (target_phrases raw l scope stand to) (phrase l (with_target raw to scope) (Calls stand to f args) ∷ []) kept in
        typed_target raw to scope (target_made raw l scope stand to parts.0) typed;
    there = λ scope stand typed kept.
        let parts = kept_both raw (target_phrases raw l scope stand to) (phrase l (with_target raw to scope) (Calls stand to f args) ∷ []) kept in
        call_there raw complete (with_target raw to scope) (typed_target raw to scope (target_made raw l scope stand to parts.0) typed) stand to f args parts.1.0
        scope.statements l (target_tree raw scope to)
        (target_there scope to (Calls stand to f args) typed parts.1.0 (λ e c. Contains-append_left (target_exprs to) (arg_exprs args) e c));
  }

  pub is_treed-Heap : (l : ℕ) (to : RawTarget) (cast : Option RawTypeName) (n : RawAmount) → IsAllocation to cast n
      → IsTreed (treed_step raw (RawStatement-F.Heap l to cast n)) (scoped_step raw (RawStatement-F.Heap l to cast n))
  is_treed-Heap l to cast n form = record {
    same = λ scope. refl;
    typed = λ scope stand typed kept.
        let parts = kept_both raw (target_phrases raw l scope stand to) (phrase l (with_target raw to scope) (Allocates to cast n) ∷ []) kept in
        typed_target raw to scope (target_made raw l scope stand to parts.0) typed;
    there = λ scope stand typed kept.
        let parts = kept_both raw (target_phrases raw l scope stand to) (phrase l (with_target raw to scope) (Allocates to cast n) ∷ []) kept in
        heap_there raw complete (with_target raw to scope) (typed_target raw to scope (target_made raw l scope stand to parts.0) typed) to cast n form
        (target_made raw l scope stand to parts.0) parts.1.0 scope.statements l (target_tree raw scope to)
        (target_there scope to (Allocates to cast n) typed parts.1.0 (λ e c. Contains-append_left (target_exprs to) (counts n) e c));
  }

  returned_there : (scope : Scope) (a : Option RawExpr) → IsTyped scope → BreaksNone raw scope (Returns a) → IsThere (optional (option_map (expr_of raw scope) a))
  returned_there scope None typed keeps = tt
  returned_there scope (Some a) typed keeps =
      there_optional (Some (expr_of raw scope a)) (phrase_tree raw complete scope typed (Returns (Some a)) keeps a (contains_first a []))

  pub is_treed-Return : (l : ℕ) (a : Option RawExpr) → IsTreed (treed_step raw (RawStatement-F.Return l a)) (scoped_step raw (RawStatement-F.Return l a))
  is_treed-Return l a = record {
    same = λ scope. refl;
    typed = λ scope stand typed kept. typed;
    there = λ scope stand typed kept. there_map (s.Return scope.statements l) (optional (option_map (expr_of raw scope) a)) (returned_there scope a typed kept.0);
  }

  -- ---- tests, loops and blocks

  test_there : (scope : Scope) (a : RawExpr) → IsTyped scope → BreaksNone raw scope (Tests a) → IsThere (expr_of raw scope a)
  test_there scope a typed keeps = phrase_tree raw complete scope typed (Tests a) keeps a (contains_first a [])

  pub is_treed-If : (l : ℕ) (a : RawExpr) (xs zs : List (Scoped (Option Statement))) (ys ws : List (Scoped (Stand → Phrases))) → AreTreed xs ys → AreTreed zs ws
      → IsTreed (treed_step raw (RawStatement-F.If l a xs zs)) (scoped_step raw (RawStatement-F.If l a ys ws))
  is_treed-If l a xs zs ys ws h k = record {
    same = λ scope. ap (after_block zs) (same_block xs ys h (numbered scope)) ∙ same_block zs ws k (after_block ys (numbered scope));
    typed = λ scope stand typed kept. typed;
    there = λ scope stand typed kept.
        let parts = kept_both raw (block_phrases ys (numbered scope)) (block_phrases ws (after_block ys (numbered scope))) kept.1 in
        there_then _ (expr_of raw scope a) (test_there scope a typed kept.0)
        (λ x is. there_both (s.If scope.statements l x) (block_tree xs (numbered scope)) (block_tree zs (after_block xs (numbered scope)))
        (block_there xs ys h (numbered scope) typed parts.0)
        (subst (λ z. IsThere (block_tree zs z)) (sym (same_block xs ys h (numbered scope))) (block_there zs ws k (after_block ys (numbered scope)) typed parts.1)));
  }

  pub is_treed-While : (l : ℕ) (a : RawExpr) (xs : List (Scoped (Option Statement))) (ys : List (Scoped (Stand → Phrases))) → AreTreed xs ys
      → IsTreed (treed_step raw (RawStatement-F.While l a xs)) (scoped_step raw (RawStatement-F.While l a ys))
  is_treed-While l a xs ys h = record {
    same = λ scope. same_block xs ys h (numbered scope);
    typed = λ scope stand typed kept. typed;
    there = λ scope stand typed kept.
        there_both (s.While scope.statements l) (expr_of raw scope a) (block_tree xs (numbered scope)) (test_there scope a typed kept.0) (block_there xs ys h (numbered scope) typed kept.1);
  }

  pub is_treed-Do : (l : ℕ) (a : RawExpr) (xs : List (Scoped (Option Statement))) (ys : List (Scoped (Stand → Phrases))) → AreTreed xs ys
      → IsTreed (treed_step raw (RawStatement-F.Do l a xs)) (scoped_step raw (RawStatement-F.Do l a ys))
  is_treed-Do l a xs ys h = record {
    same = λ scope. same_block xs ys h (numbered scope);
    typed = λ scope stand typed kept. typed;
    there = λ scope stand typed kept.
        there_both (s.Do scope.statements l) (expr_of raw scope a) (block_tree xs (numbered scope)) (test_there scope a typed kept.0) (block_there xs ys h (numbered scope) typed kept.1);
  }

  pub is_treed-Block : (l : ℕ) (xs : List (Scoped (Option Statement))) (ys : List (Scoped (Stand → Phrases))) → AreTreed xs ys
      → IsTreed (treed_step raw (RawStatement-F.Block l xs)) (scoped_step raw (RawStatement-F.Block l ys))
  is_treed-Block l xs ys h = record {
    same = λ scope. same_block xs ys h scope;
    typed = λ scope stand typed kept. typed;
    there = λ scope stand typed kept. there_map (s.Block l) (block_tree xs scope) (block_there xs ys h scope typed kept);
  }

  for_there : (id line : ℕ) (i : Option (Option Statement)) (test : Option Expr) (step : Option (Option Statement)) (body : Option (List Statement))
      → IsThere i → IsThere test → IsThere step → IsThere body → IsThere (for_tree id line i test step body)
  for_there id line i test step body h k m n = there_then _ i h (λ x is. there_then _ test k (λ a also. there_both (s.For id line x a) step body m n))

  module _ (l : ℕ) (a : RawExpr) (i j : Option (Scoped (Option Statement))) (p q : Option (Scoped (Stand → Phrases)))
      (xs : List (Scoped (Option Statement))) (ys : List (Scoped (Stand → Phrases))) (first : IsTreedIf i p) (next : IsTreedIf j q) (body : AreTreed xs ys) where
    same_test : (scope : Scope) → scope_of_test i scope ≡ scope_of_test p scope
    same_test scope = same_part i p first (opened (numbered scope))

    same_body : (scope : Scope) → scope_of_body i j scope ≡ scope_of_body p q scope
    same_body scope = ap (after_part j) (same_test scope) ∙ same_part j q next (scope_of_test p scope)

    for_kept : (scope : Scope) → IsTyped scope → AreKept raw (at_stand InFor (part_gives p (opened (numbered scope))))
        → AreKept raw (phrase l (scope_of_test p scope) (Tests a) ∷ (at_stand InBlock (part_gives q (scope_of_test p scope)) ++ block_phrases ys (scope_of_body p q scope)))
        → IsThere (tree_step raw (RawStatement-F.For l i a j xs) scope)
    for_kept scope typed begin kept =
        let inside = typed_part InFor i p first (opened (numbered scope)) typed begin in
        let parts = kept_both raw (at_stand InBlock (part_gives q (scope_of_test p scope))) (block_phrases ys (scope_of_body p q scope)) kept.1 in
        for_there scope.statements l (part_tree i (opened (numbered scope))) (expr_of raw (scope_of_test i scope) a) (part_tree j (scope_of_test i scope)) (block_tree xs (scope_of_body i j scope))
        (part_there InFor i p first (opened (numbered scope)) typed begin)
        (subst (λ z. IsThere (expr_of raw z a)) (sym (same_test scope)) (test_there (scope_of_test p scope) a inside kept.0))
        (subst (λ z. IsThere (part_tree j z)) (sym (same_test scope)) (part_there InBlock j q next (scope_of_test p scope) inside parts.0))
        (subst (λ z. IsThere (block_tree xs z)) (sym (same_body scope))
        (block_there xs ys body (scope_of_body p q scope) (typed_part InBlock j q next (scope_of_test p scope) inside parts.0) parts.1))

    pub is_treed-For : IsTreed (treed_step raw (RawStatement-F.For l i a j xs)) (scoped_step raw (RawStatement-F.For l p a q ys))
    is_treed-For = record {
      same = λ scope. ap (closed scope) (ap (after_block xs) (same_body scope) ∙ same_block xs ys body (scope_of_body p q scope));
      typed = λ scope stand typed kept. typed;
      there = λ scope stand typed kept.
          let parts = kept_both raw (at_stand InFor (part_gives p (opened (numbered scope)))) _ kept in
          for_kept scope typed parts.0 parts.1;
    }

  -- ---- switches

  labels_there : (scope : Scope) (t : IntType) (ls : List RawLabel) → AreConstant ls → AreThere (map (label_tree raw scope t) ls)
  labels_there scope t [] h = tt
  labels_there scope t (label.Case a ∷ ls) h =
      (there_then _ (expr_of raw scope a) (constant_tree raw scope a h.0) (λ x is. there_map _ (value_of_constant a) h.0), labels_there scope t ls h.1)
  labels_there scope t (label.Default ∷ ls) h = (tt, labels_there scope t ls h)

  pub is_treed-arm : (labels : List RawLabel) (xs : List (Scoped (Option Statement))) (ys : List (Scoped (Stand → Phrases))) → AreTreed xs ys
      → IsTreedArm (arm_tree_step raw (record { labels = labels; body = xs })) (scoped_arm (record { labels = labels; body = ys }))
  is_treed-arm labels xs ys h = record {
    same = λ scope. same_all xs ys h scope;
    typed = λ scope typed kept. typed_all InArm xs ys h scope typed kept;
    there = λ scope t typed kept constants.
        there_both arm_tree (collected (map (label_tree raw scope t) labels)) (collected (in_order xs scope))
        (there_collected (map (label_tree raw scope t) labels) (labels_there scope t labels constants)) (list_there InArm xs ys h scope typed kept);
  }

  same_arms : (xs : List (Scoped ArmTree)) (ys : List (Scoped ArmText)) → AreTreedArms xs ys → (scope : Scope) → after_all xs scope ≡ after_all ys scope
  same_arms [] [] h scope = refl
  same_arms [] (y ∷ ys) h scope = absurd h
  same_arms (x ∷ xs) [] h scope = absurd h
  same_arms (x ∷ xs) (y ∷ ys) h scope = ap (after_all xs) (h.0.same scope) ∙ same_arms xs ys h.1 (y.after scope)

  arms_there : (t : IntType) (xs : List (Scoped ArmTree)) (ys : List (Scoped ArmText)) → AreTreedArms xs ys → (scope : Scope) → IsTyped scope
      → AreKept raw (phrases_of_arms (in_order ys scope)) → AreConstant (labels_of (in_order ys scope)) → AreThere (map (λ (a : ArmTree). a t) (in_order xs scope))
  arms_there t [] [] h scope typed kept constants = tt
  arms_there t [] (y ∷ ys) h scope typed kept constants = absurd h
  arms_there t (x ∷ xs) [] h scope typed kept constants = absurd h
  arms_there t (x ∷ xs) (y ∷ ys) h scope typed kept constants =
      let parts = kept_both raw (y.gives scope).phrases (phrases_of_arms (in_order ys (y.after scope))) kept in
      let labels = constant_both (y.gives scope).labels (labels_of (in_order ys (y.after scope))) constants in (
        h.0.there scope t typed parts.0 labels.0,
        subst (λ z. AreThere (map (λ (a : ArmTree). a t) (in_order xs z))) (sym (h.0.same scope))
            (arms_there t xs ys h.1 (y.after scope) (h.0.typed scope typed parts.0) parts.1 labels.1),
      )

  switched : (scope : Scope) (a : RawExpr) (labels : List RawLabel) → BreaksNone raw scope (Switches a labels) → (o : Option Operand) → operand raw scope a ≡ o → IsThere o
      → IsThere (option_map promote (option_and_then integer_of (option_map (λ (x : Operand). x.shape) o)))
  switched scope a labels keeps None is there = there
  switched scope a labels keeps (Some x) is there =
      there_map promote (integer_of x.shape) (not_none (integer_of x.shape) (λ none. keeps 11 (switch (MisusesSwitch.no_integer is none))))

  pub is_treed-Switch : (l : ℕ) (a : RawExpr) (xs : List (Scoped ArmTree)) (ys : List (Scoped ArmText)) → AreTreedArms xs ys
      → IsTreed (treed_step raw (RawStatement-F.Switch l a xs)) (scoped_step raw (RawStatement-F.Switch l a ys))
  is_treed-Switch l a xs ys h = record {
    same = λ scope. ap (closed (numbered scope)) (same_arms xs ys h (opened (numbered scope)));
    typed = λ scope stand typed kept. typed;
    there = λ scope stand typed kept.
        let labels = labels_of (in_order ys (opened (numbered scope))) in
        let part = Switches a labels in
        there_then _ (expr_of raw scope a) (phrase_tree raw complete scope typed part kept.0 a (contains_first a (cases labels)))
        (λ x is. there_then _ (switch_type raw scope a)
        (switched scope a labels kept.0 (operand raw scope a) refl (phrase_operand raw complete scope typed part kept.0 a (contains_first a (cases labels))))
        (λ t also. there_map (s.Switch scope.statements l x) (at_type t (in_order xs (opened (numbered scope))))
        (there_collected (map (λ (b : ArmTree). b t) (in_order xs (opened (numbered scope))))
        (arms_there t xs ys h (opened (numbered scope)) typed kept.1
        (constants_of labels (λ b c. not_none (value_of_constant b) (λ none. kept.0 10 (no_constant (LacksConstant.label c none)))))))));
  }
