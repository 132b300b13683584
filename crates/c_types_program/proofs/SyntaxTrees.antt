-- The statements of a tree that is syntax have their trees where their phrases keep their rules.
use Rattle.std.proofs.Common.{◌≡◌, ℕ, Bool, true, ◌&&◌, List, [], ◌∷◌, map, Option, Some, None, refl, sym, subst}
use Rattle.std.specs.Option.{option_map_or}
use Rattle.std.specs.List.{list_all}
use Rattle.std.proofs.lemmas.Bool.{and_parts}
use Rattle.c_tree.specs.declared.raw.program.RawHead.{RawHead}
use Rattle.c_arith.specs.declared.operators.BinaryOp.{BinaryOp}
use Rattle.c_tree.specs.declared.statement.Statement.{Statement}
use Rattle.c_tree.specs.declared.raw.expr.RawExpr.{RawExpr}
use Rattle.c_tree.specs.declared.raw.expr.RawVar.{RawVar}
use Rattle.c_tree.specs.declared.raw.program.RawInit.{RawInit}
use Rattle.c_tree.specs.declared.raw.program.RawProgram.{RawProgram}
use Rattle.c_tree.specs.declared.raw.statement.RawTarget.{RawTarget}
use Rattle.c_tree.specs.declared.raw.statement.RawTarget.TheVariants as target
use Rattle.c_tree.specs.declared.raw.statement.RawArg.{RawArg}
use Rattle.c_tree.specs.declared.raw.statement.RawLabel.{RawLabel}
use Rattle.c_tree.specs.declared.raw.statement.RawTypeName.{RawTypeName}
use Rattle.c_tree.specs.declared.raw.statement.RawSize.{RawSize}
use Rattle.c_tree.specs.declared.raw.statement.RawAmount.{RawAmount}
use Rattle.c_tree.specs.declared.raw.statement.RawArm.{RawArm}
use Rattle.c_tree.specs.declared.raw.statement.RawStatement.{RawStatement}
use Rattle.c_tree.specs.declared.raw.statement.RawStatement.TheVariants as s
use Rattle.c_language.specs.Words.{Bytes}
use Rattle.c_language.specs.DeclaredTypes.{defined_structs}
use Rattle.c_language.specs.Scopes.{Scoped}
use Rattle.c_language.specs.Phrases.{Stand, Phrases, scoped_arm, scoped, scoped_of_arm}
use Rattle.c_language.specs.ProgramOf.{treed, treed_arm}
use Rattle.c_language.specs.StatementGrammar.{arm}
use Rattle.c_language.proofs.ScopedForms.{scoped-Declare, scoped-Assign, scoped-Bump, scoped-Call, scoped-Heap, scoped-If, scoped-While, scoped-Do, scoped-Switch, scoped-Block, scoped-Return}
use Rattle.c_language.proofs.TreedForms.{treed-Declare, treed-Assign, treed-Bump, treed-Call, treed-Heap, treed-If, treed-While, treed-Do, treed-Switch, treed-Block, treed-Return}
use Rattle.c_language.proofs.PlainTypes.{has_no_length}
use Rattle.c_types_trees.proofs.ScopeLemmas.{AreComplete}
use Rattle.c_types_trees.specs.KeptPhrases.{HasNoLength, IsPlainName, IsPlainSize, IsPlainAmount, HasNoLengthIf}
use Rattle.c_types_trees.specs.FitPhrases.{IsAllocation}
use Rattle.c_types_program.proofs.StatementForms.{treed_part, scoped_part, treed-For, treed-arm, scoped-For, scoped-arm}
use Rattle.c_types_program.proofs.TreedStatements.{IsTreed, AreTreed, IsTreedIf, IsTreedArm, AreTreedArms, is_treed-Declare, is_treed-Assign, is_treed-Bump, is_treed-Call, is_treed-Heap, is_treed-Return, is_treed-If, is_treed-While, is_treed-Do, is_treed-Block, is_treed-For, is_treed-arm, is_treed-Switch}
use Rattle.c_tree.specs.declared.raw.expr.RawType.{RawType}
use Rattle.c_tree.specs.declared.raw.statement.RawSize.TheVariants as size
use Rattle.c_tree.specs.declared.raw.statement.RawAmount.TheVariants as amount
use Rattle.c_tree.specs.declared.raw.statement.RawArm.{roll-RawArm}
use Rattle.c_tree.specs.declared.raw.statement.RawStatement.{roll-RawStatement}
use Rattle.c_tree.specs.declared.raw.statement.RawStatement.TheOpen.{RawStatement-F, RawArm-F}
use Rattle.c_language.specs.CallRules.{IsStored}
use Rattle.c_language.specs.ExprGrammar.{multiplicative_level, cast_level}
use Rattle.c_language.specs.Spellings.{is_own_name}
use Rattle.c_language.specs.TypeGrammar.{has_star}
use Rattle.c_language.specs.Syntax.{binds, bare, starred, reaches, is_type_name, is_size, is_amount, is_heap, is_stored, is_target, Position, stands_step, arm_step, is_body, is_param, is_result, is_head}
use Rattle.text_syntax.proofs.Folds.{standing, standing_arm, AllAre, ArmsAre, PartIs, PartsAre, body_gives}
use Rattle.text_syntax.proofs.Types.{plain_type}

-- ---- types

result_plain : (t : Option RawType) → option_map_or is_result t true ≡ true → HasNoLengthIf t
result_plain None h = tt
result_plain (Some t) h = has_no_length (plain_type t starred refl (and_parts (reaches t starred) _ h).0)

pub head_plain : (head : RawHead) → is_head head ≡ true → HasNoLengthIf head.result
head_plain head h = result_plain head.result (and_parts (option_map_or is_result head.result true) (list_all is_param head.params) (and_parts (is_own_name head.name) _ h).1).0

named_plain : (t : RawTypeName) → is_type_name t ≡ true → HasNoLength t.base
named_plain t h = has_no_length (plain_type t.base bare refl h)

-- ---- allocations

size_plain : (z : RawSize) → is_size z ≡ true → IsPlainSize z
size_plain (size.Type t) h = named_plain t h
size_plain (size.Pointee name closed) h = tt

amount_plain : (n : RawAmount) → is_amount n ≡ true → IsPlainAmount n
amount_plain (amount.Size z) h = size_plain z h
amount_plain (amount.CountSize a z) h = size_plain z (and_parts (binds a multiplicative_level) (is_size z) h).1
amount_plain (amount.SizeCount z a) h = size_plain z (and_parts (is_size z) (binds a cast_level) h).0
amount_plain (amount.Count a) h = tt

heap_plain : (cast : Option RawTypeName) (n : RawAmount) → is_heap cast n ≡ true → IsPlainName cast × IsPlainAmount n
heap_plain None n h = (tt, amount_plain n h)
heap_plain (Some t) n h =
    let p = and_parts (is_type_name t && has_star t) (is_amount n) h in
    (named_plain t (and_parts (is_type_name t) (has_star t) p.0).0, amount_plain n p.1)

stored_there : (to : RawTarget) → is_stored to ≡ true → IsStored to
stored_there target.None h = absurd cc
stored_there (target.Place a) h = tt
stored_there (target.Declared v) h = tt

-- what is allocated is stored, and no length stands in the type names
pub is_allocation : (p : Position) (to : RawTarget) (cast : Option RawTypeName) (n : RawAmount) → (is_target p to && (is_stored to && is_heap cast n)) ≡ true → IsAllocation to cast n
is_allocation p to cast n h =
    let q = and_parts (is_stored to) (is_heap cast n) (and_parts (is_target p to) _ h).1 in
    let r = heap_plain cast n q.1 in
    record { stored = stored_there to q.0; name = r.0; amount = r.1 }

module _ (raw : RawProgram) (complete : AreComplete raw (defined_structs raw)) where
  -- a statement has its tree where its phrases keep their rules
  abbrev pub HasTree : RawStatement → Type 0
  HasTree a = IsTreed raw complete (treed raw a) (scoped raw a)

  abbrev pub HaveTrees : List RawStatement → Type 0
  HaveTrees all = AreTreed raw complete (map (treed raw) all) (map (scoped raw) all)

  matched : {x y : Scoped (Option Statement)} {p q : Scoped (Stand → Phrases)} → x ≡ y → p ≡ q → IsTreed raw complete y q → IsTreed raw complete x p
  matched {x} {q} e f h = subst (IsTreed raw complete x) (sym f) (subst (λ z. IsTreed raw complete z q) (sym e) h)

  -- ---- each form

  has-Declare : (l : ℕ) (v : RawVar) (i : RawInit) → HasTree (s.Declare l v i)
  has-Declare l v i =
      matched (treed-Declare raw l v i) (scoped-Declare raw l v i)
      (is_treed-Declare raw complete l v i)

  has-Assign : (l : ℕ) (a : RawExpr) (op : Option BinaryOp) (b : RawExpr) → HasTree (s.Assign l a op b)
  has-Assign l a op b =
      matched (treed-Assign raw l a op b) (scoped-Assign raw l a op b)
      (is_treed-Assign raw complete l a op b)

  has-Bump : (l : ℕ) (a : RawExpr) (up before : Bool) → HasTree (s.Bump l a up before)
  has-Bump l a up before =
      matched (treed-Bump raw l a up before) (scoped-Bump raw l a up before)
      (is_treed-Bump raw complete l a up before)

  has-Call : (l : ℕ) (t : RawTarget) (w : Bytes) (args : List RawArg) → HasTree (s.Call l t w args)
  has-Call l t w args =
      matched (treed-Call raw l t w args) (scoped-Call raw l t w args)
      (is_treed-Call raw complete l t w args)

  has-Heap : (l : ℕ) (t : RawTarget) (cast : Option RawTypeName) (n : RawAmount) → IsAllocation t cast n → HasTree (s.Heap l t cast n)
  has-Heap l t cast n form =
      matched (treed-Heap raw l t cast n) (scoped-Heap raw l t cast n)
      (is_treed-Heap raw complete l t cast n form)

  has-Return : (l : ℕ) (a : Option RawExpr) → HasTree (s.Return l a)
  has-Return l a =
      matched (treed-Return raw l a) (scoped-Return raw l a)
      (is_treed-Return raw complete l a)

  has-If : (l : ℕ) (a : RawExpr) (all other : List RawStatement) → HaveTrees all → HaveTrees other → HasTree (s.If l a all other)
  has-If l a all other h k =
      matched (treed-If raw l a all other) (scoped-If raw l a all other)
      (is_treed-If raw complete l a (map (treed raw) all) (map (treed raw) other) (map (scoped raw) all) (map (scoped raw) other) h k)

  has-While : (l : ℕ) (a : RawExpr) (all : List RawStatement) → HaveTrees all → HasTree (s.While l a all)
  has-While l a all h =
      matched (treed-While raw l a all) (scoped-While raw l a all)
      (is_treed-While raw complete l a (map (treed raw) all) (map (scoped raw) all) h)

  has-Do : (l : ℕ) (a : RawExpr) (all : List RawStatement) → HaveTrees all → HasTree (s.Do l a all)
  has-Do l a all h =
      matched (treed-Do raw l a all) (scoped-Do raw l a all)
      (is_treed-Do raw complete l a (map (treed raw) all) (map (scoped raw) all) h)

  has-Block : (l : ℕ) (all : List RawStatement) → HaveTrees all → HasTree (s.Block l all)
  has-Block l all h =
      matched (treed-Block raw l all) (scoped-Block raw l all)
      (is_treed-Block raw complete l (map (treed raw) all) (map (scoped raw) all) h)

  -- a part of a for, which may be missing
  abbrev HasTreeIf : Option RawStatement → Type 0
  HasTreeIf a = IsTreedIf raw complete (treed_part raw a) (scoped_part raw a)

  has-For : (l : ℕ) (first : Option RawStatement) (a : RawExpr) (next : Option RawStatement) (all : List RawStatement) → HasTreeIf first → HasTreeIf next → HaveTrees all → HasTree (s.For l first a next all)
  has-For l first a next all h k m =
      matched (treed-For raw l first a next all) (scoped-For raw l first a next all)
      (is_treed-For raw complete l a (treed_part raw first) (treed_part raw next) (scoped_part raw first) (scoped_part raw next) (map (treed raw) all) (map (scoped raw) all) h k m)

  -- an arm of a switch
  abbrev HasArmTree : RawArm → Type 0
  HasArmTree a = IsTreedArm raw complete (treed_arm raw a) (scoped_of_arm raw a)

  abbrev HaveArmTrees : List RawArm → Type 0
  HaveArmTrees arms = AreTreedArms raw complete (map (treed_arm raw) arms) (map (scoped_of_arm raw) arms)

  has-arm : (labels : List RawLabel) (body : List RawStatement) → HaveTrees body → HasArmTree (arm labels body)
  has-arm labels body h =
      subst (IsTreedArm raw complete (treed_arm raw (arm labels body))) (sym (scoped-arm raw labels body))
      (subst (λ z. IsTreedArm raw complete z (scoped_arm (record { labels = labels; body = map (scoped raw) body }))) (sym (treed-arm raw labels body))
      (is_treed-arm raw complete labels (map (treed raw) body) (map (scoped raw) body) h))

  has-Switch : (l : ℕ) (a : RawExpr) (arms : List RawArm) → HaveArmTrees arms → HasTree (s.Switch l a arms)
  has-Switch l a arms h =
      matched (treed-Switch raw l a arms) (scoped-Switch raw l a arms)
      (is_treed-Switch raw complete l a (map (treed_arm raw) arms) (map (scoped_of_arm raw) arms) h)

  -- ---- along the tree

  trees_of : (xs : List RawStatement) → AllAre HasTree xs → HaveTrees xs
  trees_of [] h = tt
  trees_of (x ∷ xs) h = (h.0, trees_of xs h.1)

  arm_trees_of : (arms : List RawArm) → ArmsAre HasArmTree arms → HaveArmTrees arms
  arm_trees_of [] h = tt
  arm_trees_of (a ∷ arms) h = (h.0, arm_trees_of arms h.1)

  tree_if : (x : Option RawStatement) → PartIs HasTree x → HasTreeIf x
  tree_if None h = tt
  tree_if (Some x) h = h

  form_tree : (y : RawStatement-F RawStatement RawArm) (p : Position) → true ≡ true → stands_step (standing y) p ≡ true → PartsAre HasTree HasArmTree y → HasTree (roll-RawStatement y)
  form_tree (RawStatement-F.Declare l v i) p m h k = subst HasTree (sym (s.rolls-Declare l v i)) (has-Declare l v i)
  form_tree (RawStatement-F.Assign l a op b) p m h k = subst HasTree (sym (s.rolls-Assign l a op b)) (has-Assign l a op b)
  form_tree (RawStatement-F.Bump l a up before) p m h k = subst HasTree (sym (s.rolls-Bump l a up before)) (has-Bump l a up before)
  form_tree (RawStatement-F.Call l to w args) p m h k = subst HasTree (sym (s.rolls-Call l to w args)) (has-Call l to w args)
  form_tree (RawStatement-F.Heap l to cast n) p m h k = subst HasTree (sym (s.rolls-Heap l to cast n)) (has-Heap l to cast n (is_allocation p to cast n h))
  form_tree (RawStatement-F.If l a b c) p m h k = subst HasTree (sym (s.rolls-If l a b c)) (has-If l a b c (trees_of b k.0) (trees_of c k.1))
  form_tree (RawStatement-F.While l a b) p m h k = subst HasTree (sym (s.rolls-While l a b)) (has-While l a b (trees_of b k))
  form_tree (RawStatement-F.Do l a b) p m h k = subst HasTree (sym (s.rolls-Do l a b)) (has-Do l a b (trees_of b k))
  form_tree (RawStatement-F.For l i a x b) p m h k = subst HasTree (sym (s.rolls-For l i a x b)) (has-For l i a x b (tree_if i k.0) (tree_if x k.1) (trees_of b k.2))
  form_tree (RawStatement-F.Switch l a arms) p m h k = subst HasTree (sym (s.rolls-Switch l a arms)) (has-Switch l a arms (arm_trees_of arms k))
  form_tree (RawStatement-F.Block l b) p m h k = subst HasTree (sym (s.rolls-Block l b)) (has-Block l b (trees_of b k))
  form_tree (RawStatement-F.Return l a) p m h k = subst HasTree (sym (s.rolls-Return l a)) (has-Return l a)

  arm_form_tree : (y : RawArm-F RawStatement RawArm) → arm_step (standing_arm y) ≡ true → AllAre HasTree y.body → HasArmTree (roll-RawArm y)
  arm_form_tree y h k = has-arm y.labels y.body (trees_of y.body k)

  -- the statements of a body
  pub body_trees : (body : List RawStatement) → is_body body ≡ true → HaveTrees body
  body_trees body h = trees_of body (body_gives HasTree HasArmTree (λ p. true) refl refl refl form_tree arm_form_tree refl body h)
