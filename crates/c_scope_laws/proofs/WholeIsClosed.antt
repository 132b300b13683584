-- Where all is kept, all that this needs is met.
use Rattle.std.proofs.Common.{ℕ, List, [], ◌∷◌, ◌++◌, map, Bool, true, false, Option, Some, None, refl, sym, subst}
use Rattle.c_tree.specs.declared.raw.program.RawHead.{RawHead}
use Rattle.c_tree.specs.declared.raw.expr.RawExpr.{RawExpr}
use Rattle.c_tree.specs.declared.raw.expr.RawVar.{RawVar}
use Rattle.c_tree.specs.declared.raw.program.RawInit.TheVariants as init
use Rattle.c_tree.specs.declared.raw.program.RawItem.{RawItem}
use Rattle.c_tree.specs.declared.raw.program.RawItem.TheVariants.{Include, Tag, Struct, Global, Prototype, Define}
use Rattle.c_tree.specs.declared.raw.program.RawProgram.{RawProgram}
use Rattle.c_tree.specs.declared.raw.statement.RawArg.{RawArg}
use Rattle.c_tree.specs.declared.raw.statement.RawTarget.TheVariants as target
use Rattle.c_tree.specs.declared.raw.statement.RawStatement.{RawStatement, ind-RawStatement, roll-RawStatement, map-RawStatement, fold-roll-RawStatement}
use Rattle.c_tree.specs.declared.raw.statement.RawStatement.TheOpen.{RawStatement-F, RawArm-F}
use Rattle.c_tree.specs.declared.raw.statement.RawArm.{RawArm, roll-RawArm, map-RawArm, fold-roll-RawArm}
use Rattle.c_language.specs.Words.{Bytes}
use Rattle.c_language.specs.Scopes.{Scope, Scoped, outset, opened, numbered, in_order, after_block, scope_of_parameters, entered}
use Rattle.c_language.specs.Phrases.{scoped, after_item}
use Rattle.c_language.specs.Uses.{is_library_function}
use Rattle.c_language.specs.CallRules.{head_around}
use Rattle.c_scope_laws.specs.Thinning.{kept_args}
use Rattle.c_language.proofs.Tests.{false_true}
use Rattle.c_scope_laws.specs.ThinTexts.{all_kept}
use Rattle.c_scope_laws.specs.ThinnedBodies.{AreMet, Left, ArmLeft, beyond, part_needs, arms_needs, result_kept, passes, gives, return_needs, call_placed, call_declared, block_left, left_step, left_scoped, left_arm_step, left, left_arm, body_left}
use Rattle.c_scope_laws.specs.ThinnedTexts.{LastStays, ItemsAreClosed, KeepsText}
use Rattle.c_scope_laws.proofs.ThinnedBodies.{join_met, Met, block_alone}
use Rattle.c_scope_laws.proofs.WholeTexts.{all_stay, labels_stay, params_whole}

module _ (raw : RawProgram) where
  abbrev Fine : RawStatement → Type 0
  Fine x = (scope : Scope) → Met all_kept ((left all_kept raw x).gives scope)

  abbrev ArmFine : RawArm → Type 0
  ArmFine a = (scope : Scope) → AreMet all_kept ((left_arm all_kept raw a).gives scope).body.needs

  abbrev Statements : Type 0
  Statements = List ((x : RawStatement) × Fine x)

  abbrev bare : Statements → List RawStatement
  bare = map (λ (x : (y : RawStatement) × Fine y). x.0)

  abbrev Arms : Type 0
  Arms = List ((a : RawArm) × ArmFine a)

  abbrev bare_arms : Arms → List RawArm
  bare_arms = map (λ (x : (y : RawArm) × ArmFine y). x.0)

  lists : (xs : Statements) (scope : Scope) → AreMet all_kept (body_left all_kept raw (bare xs) scope).needs
  lists [] scope = tt
  lists (x ∷ xs) scope =
      let next = (left all_kept raw x.0).after scope in
      join_met all_kept ((left all_kept raw x.0).gives scope).needs (body_left all_kept raw (bare xs) next).needs (x.1 scope).0 (lists xs next)

  arms : (xs : Arms) (scope : Scope) → AreMet all_kept (arms_needs (in_order (map (left_arm all_kept raw) (bare_arms xs)) scope))
  arms [] scope = tt
  arms (x ∷ xs) scope =
      let l = (left_arm all_kept raw x.0).gives scope in
      let next = (left_arm all_kept raw x.0).after scope in
      (labels_stay l.scope l.labels, join_met all_kept l.body.needs (arms_needs (in_order (map (left_arm all_kept raw) (bare_arms xs)) next)) (x.1 scope) (arms xs next))

  part : (x : RawStatement) → Fine x → (scope : Scope) → AreMet all_kept (part_needs (Some ((left all_kept raw x).gives scope)))
  part x h scope = let l = (left all_kept raw x).gives scope in join_met all_kept l.needs (beyond l.some) (h scope).0 (h scope).1

  passed : (library : Bool) (f : Bytes) (args : List RawArg) (n : ℕ) → AreMet all_kept (passes library f args n)
  passed true f args n = tt
  passed false f args n = ((λ i within. refl), tt)

  given : (library : Bool) (f : Bytes) → AreMet all_kept (gives library f)
  given true f = tt
  given false f = (refl, tt)

  returned : (around : Option RawHead) (a : Option RawExpr) → AreMet all_kept (return_needs around a)
  returned around None = tt
  returned None (Some a) = tt
  returned (Some h) (Some a) = (refl, tt)

  module _ (l : ℕ) (f : Bytes) (args some : List RawArg) (scope : Scope) where
    all_needs : (library : Bool) → AreMet all_kept (passes library f args scope.statements ++ gives library f)
    all_needs library = join_met all_kept (passes library f args scope.statements) (gives library f) (passed library f args scope.statements) (given library f)

    placed : (library : Bool) (a : RawExpr) → Met all_kept (call_placed raw (result_kept library true) true (passes library f args scope.statements) (gives library f) l a f some scope)
    placed true a = ((all_stay, all_needs true), tt)
    placed false a = ((all_stay, all_needs false), tt)

    with_call : (library : Bool) (v : RawVar) → Met all_kept (call_declared raw true true (result_kept library true) (passes library f args scope.statements) (gives library f) l v f some scope)
    with_call true v = ((all_stay, (all_stay, all_needs true)), tt)
    with_call false v = ((all_stay, (all_stay, all_needs false)), tt)

  abbrev Layer : Type 0
  Layer = RawStatement-F ((x : RawStatement) × Fine x) ((a : RawArm) × ArmFine a)

  abbrev shape : Layer → RawStatement-F RawStatement RawArm
  shape = map-RawStatement ((x : RawStatement) × Fine x) ((a : RawArm) × ArmFine a) RawStatement RawArm (λ x. x.0) (λ a. a.0)

  abbrev lefts : RawStatement-F RawStatement RawArm → RawStatement-F (Scoped Left) (Scoped ArmLeft)
  lefts y = map-RawStatement RawStatement RawArm (Scoped Left) (Scoped ArmLeft) (left all_kept raw) (left_arm all_kept raw) y

  abbrev block : Statements → Scope → Left
  block b scope = block_left all_kept raw (map (left all_kept raw) (bare b)) scope

  of_layer : (y : Layer) (scope : Scope) → Met all_kept (left_step all_kept raw (lefts (shape y)) scope)
  of_layer (RawStatement-F.Declare l v init.None) scope = ((all_stay, (all_stay, tt)), tt)
  of_layer (RawStatement-F.Declare l v (init.One a)) scope = ((all_stay, (all_stay, tt)), tt)
  of_layer (RawStatement-F.Declare l v (init.Items all)) scope = ((all_stay, (all_stay, tt)), tt)
  of_layer (RawStatement-F.Assign l a op b) scope = ((all_stay, tt), tt)
  of_layer (RawStatement-F.Bump l a up before) scope = ((all_stay, tt), tt)
  of_layer (RawStatement-F.Call l target.None f args) scope = ((all_stay, passed (is_library_function f) f args scope.statements), tt)
  of_layer (RawStatement-F.Call l (target.Place a) f args) scope = placed l f args (kept_args all_kept f scope.statements args) scope (is_library_function f) a
  of_layer (RawStatement-F.Call l (target.Declared v) f args) scope = with_call l f args (kept_args all_kept f scope.statements args) scope (is_library_function f) v
  of_layer (RawStatement-F.Heap l target.None cast n) scope = ((all_stay, tt), tt)
  of_layer (RawStatement-F.Heap l (target.Place a) cast n) scope = ((all_stay, tt), tt)
  of_layer (RawStatement-F.Heap l (target.Declared v) cast n) scope = ((all_stay, (all_stay, tt)), tt)
  of_layer (RawStatement-F.If l a b c) scope =
      let after = after_block (map (left all_kept raw) (bare b)) (numbered scope) in
      ((all_stay, join_met all_kept (block b (numbered scope)).needs (block c after).needs (lists b (opened (numbered scope))) (lists c (opened after))), tt)
  of_layer (RawStatement-F.While l a b) scope = ((all_stay, lists b (opened (numbered scope))), tt)
  of_layer (RawStatement-F.Do l a b) scope = ((all_stay, lists b (opened (numbered scope))), tt)
  of_layer (RawStatement-F.For l None a None b) scope = ((all_stay, lists b (opened (opened (numbered scope)))), tt)
  of_layer (RawStatement-F.For l None a (Some n) b) scope =
      let test = opened (numbered scope) in
      let body = (left all_kept raw n.0).after test in
      ((all_stay, join_met all_kept (part_needs (Some ((left all_kept raw n.0).gives test))) (block b body).needs (part n.0 n.1 test) (lists b (opened body))), tt)
  of_layer (RawStatement-F.For l (Some i) a None b) scope =
      let first = opened (numbered scope) in
      let test = (left all_kept raw i.0).after first in
      ((all_stay, join_met all_kept (part_needs (Some ((left all_kept raw i.0).gives first))) (block b test).needs (part i.0 i.1 first) (lists b (opened test))), tt)
  of_layer (RawStatement-F.For l (Some i) a (Some n) b) scope =
      let first = opened (numbered scope) in
      let test = (left all_kept raw i.0).after first in
      let body = (left all_kept raw n.0).after test in
      let next = part_needs (Some ((left all_kept raw n.0).gives test)) in (
        (
          all_stay,
          join_met all_kept (part_needs (Some ((left all_kept raw i.0).gives first))) (next ++ (block b body).needs) (part i.0 i.1 first)
              (join_met all_kept next (block b body).needs (part n.0 n.1 test) (lists b (opened body))),
        ),
        tt,
      )
  of_layer (RawStatement-F.Switch l a xs) scope = ((all_stay, arms xs (opened (numbered scope))), tt)
  of_layer (RawStatement-F.Block l b) scope = (lists b (opened scope), block_alone all_kept l (block b scope).some)
  of_layer (RawStatement-F.Return l a) scope = ((all_stay, returned (head_around raw scope) a), tt)

  statement_layer : (y : Layer) → Fine (roll-RawStatement (shape y))
  statement_layer y scope =
      subst (λ (t : Scoped Left). Met all_kept (t.gives scope)) (sym (fold-roll-RawStatement (Scoped Left) (Scoped ArmLeft) (left_scoped all_kept raw) (left_arm_step all_kept raw) (shape y))) (of_layer y scope)

  abbrev arm_shape : RawArm-F ((x : RawStatement) × Fine x) ((a : RawArm) × ArmFine a) → RawArm-F RawStatement RawArm
  arm_shape = map-RawArm ((x : RawStatement) × Fine x) ((a : RawArm) × ArmFine a) RawStatement RawArm (λ x. x.0) (λ a. a.0)

  arm_layer : (y : RawArm-F ((x : RawStatement) × Fine x) ((a : RawArm) × ArmFine a)) → ArmFine (roll-RawArm (arm_shape y))
  arm_layer y scope =
      subst (λ (t : Scoped ArmLeft). AreMet all_kept (t.gives scope).body.needs) (sym (fold-roll-RawArm (Scoped Left) (Scoped ArmLeft) (left_scoped all_kept raw) (left_arm_step all_kept raw) (arm_shape y)))
      (lists y.body scope)

  statement_fine : (x : RawStatement) → Fine x
  statement_fine = ind-RawStatement Fine ArmFine (λ x y is. subst (λ z. Fine (roll-RawStatement z)) is (statement_layer y)) (λ x y is. subst (λ z. ArmFine (roll-RawArm z)) is (arm_layer y))

  body_fine : (xs : List RawStatement) (scope : Scope) → AreMet all_kept (body_left all_kept raw xs scope).needs
  body_fine [] scope = tt
  body_fine (x ∷ xs) scope =
      let next = (left all_kept raw x).after scope in
      join_met all_kept ((left all_kept raw x).gives scope).needs (body_left all_kept raw xs next).needs (statement_fine x scope).0 (body_fine xs next)

  last_stays : (xs : List RawStatement) (scope : Scope) → LastStays all_kept raw xs scope
  last_stays [] scope = tt
  last_stays (x ∷ []) scope = refl
  last_stays (x ∷ (y ∷ rest)) scope = last_stays (y ∷ rest) ((scoped raw x).after scope)

  items_fine : (xs : List RawItem) (scope : Scope) → ItemsAreClosed all_kept raw xs scope
  items_fine [] scope = tt
  items_fine (Include is_stdlib ∷ xs) scope = (tt, items_fine xs scope)
  items_fine (Tag l w ∷ xs) scope = (tt, items_fine xs scope)
  items_fine (Struct l w members ∷ xs) scope = (λ before m c. all_stay, items_fine xs (after_item raw (Struct l w members) scope))
  items_fine (Global l v i is_static ∷ xs) scope = (λ h. record { declares = all_stay; begins = all_stay }, items_fine xs (after_item raw (Global l v i is_static) scope))
  items_fine (Prototype l head ∷ xs) scope = (tt, items_fine xs (after_item raw (Prototype l head) scope))
  items_fine (Define l head body ∷ xs) scope = (
    (
      λ h. record {
        parameters = params_whole raw head.name 0 head.params (scope_of_parameters head scope);
        statements = body_fine body (entered raw head scope);
        result = λ gives other q. last_stays body (entered raw head scope);
      },
      λ h. false_true (sym h),
    ),
    items_fine xs (after_item raw (Define l head body) scope),
  )

  pub whole_closed : KeepsText all_kept raw
  whole_closed = record { items = items_fine raw.items outset; main = refl; result = refl }
