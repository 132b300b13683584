-- What stays of statements is left of them.
use Rattle.std.proofs.Common.{◌≡◌, ℕ, suc, List, [], ◌∷◌, ◌++◌, map, Bool, true, false, Option, Some, None, option_map, sym, subst, decimal}
use Rattle.std.specs.Prelude.{if◌then◌else◌}
use Rattle.c_tree.specs.declared.raw.expr.RawExpr.{RawExpr}
use Rattle.c_tree.specs.declared.raw.expr.RawVar.{RawVar}
use Rattle.c_tree.specs.declared.raw.program.RawInit.{RawInit}
use Rattle.c_tree.specs.declared.raw.program.RawInit.TheVariants as init
use Rattle.c_tree.specs.declared.raw.program.RawProgram.{RawProgram}
use Rattle.c_tree.specs.declared.raw.statement.RawArg.{RawArg}
use Rattle.c_tree.specs.declared.raw.statement.RawAmount.{RawAmount}
use Rattle.c_tree.specs.declared.raw.statement.RawArm.{RawArm, roll-RawArm, fold-roll-RawArm}
use Rattle.c_tree.specs.declared.raw.statement.RawStatement.{RawStatement, roll-RawStatement, out-RawStatement, fold-roll-RawStatement}
use Rattle.c_tree.specs.declared.raw.statement.RawStatement.TheOpen.{RawStatement-F}
use Rattle.c_tree.specs.declared.raw.statement.RawStatement.TheVariants as s
use Rattle.c_tree.specs.declared.raw.statement.RawTarget.{RawTarget}
use Rattle.c_tree.specs.declared.raw.statement.RawTarget.TheVariants as target
use Rattle.c_tree.specs.declared.raw.statement.RawTypeName.{RawTypeName}
use Rattle.c_tree.proofs.RawTrees.{StatementParts, statement_layer, ArmParts, arm_layer, of_every_statement}
use Rattle.c_language.specs.Words.{Bytes}
use Rattle.c_language.specs.DeclaredTypes.{item_count}
use Rattle.c_language.specs.Scopes.{Scope, Scoped, opened, numbered, in_order, after_block, scope_of_test, scope_of_body}
use Rattle.c_language.specs.Phrases.{Part, Assigns, Bumps, Calls, Allocates, InBlock, Returns}
use Rattle.c_language.specs.Spellings.{is_constant}
use Rattle.c_language.specs.TypeGrammar.{is_written}
use Rattle.c_language.proofs.Tests.{false_true}
use Rattle.c_language.specs.Uses.{is_library_function}
use Rattle.projection.specs.Kept.{Kept, chosen}
use Rattle.c_scope_laws.specs.Thinning.{declares}
use Rattle.c_scope_laws.specs.ThinnedBodies.{Need, AreMet, Left, ArmLeft, count_needs, only, beyond, part_left, part_needs, part_gone, gone, alone_one, alone_all, left_alone, arms_left, arms_needs, block_of, plain, plain_with, passes, gives, return_needs, declared, call_placed, call_declared, heap_declared, if_left, while_left, do_left, for_left, switch_left, result_kept, declare_left, call_left, heap_left, block_left, left_scoped, left_arm_step, left, left_arm, body_left, part_given}
use Rattle.c_scope_laws.proofs.ThinnedBodies.{both_met}
use Rattle.c_language.specs.CallRules.{head_around}
use Rattle.c_scope_laws.specs.Thinning.{kept_args}
use Rattle.thinned_syntax.specs.Left.{AreSome, TargetLeft, IsLeft, AreLeft, PartLeft, ArmsLeft}
use Rattle.thinned_syntax.proofs.CountConstants.{count_constant}
use Rattle.thinned_syntax.proofs.LeftForms.{layer_left}

-- all of them
pub all_stay : {A : Type 0} (xs : List A) → AreSome xs xs
all_stay [] = AreSome.none
all_stay (x ∷ xs) = AreSome.stays (all_stay xs)

at_form : {x y : RawStatement} {some : List RawStatement} → y ≡ x → IsLeft x some → IsLeft y some
at_form {some = some} h j = subst (λ (z : RawStatement). IsLeft z some) (sym h) j

-- some of a list, by their places
pub some_stay : {A : Type 0} (test : ℕ → Bool) (n : ℕ) (xs : List A) → AreSome xs (chosen test n xs)
some_stay test n [] = AreSome.none
some_stay test n (x ∷ xs) = by_test (test n) (some_stay test (suc n) xs)
  where
    by_test : (b : Bool) → AreSome xs (chosen test (suc n) xs) → AreSome (x ∷ xs) (if b then x ∷ chosen test (suc n) xs else chosen test (suc n) xs)
    by_test true later = AreSome.stays later
    by_test false later = AreSome.taken later

args_stay : (k : Kept Bytes) (f : Bytes) (n : ℕ) (args : List RawArg) → AreSome args (kept_args k f n args)
args_stay k f n args = by_library (is_library_function f)
  where
    by_library : (b : Bool) → AreSome args (if b then args else chosen (k.argument n) 0 args)
    by_library true = all_stay args
    by_library false = some_stay (k.argument n) 0 args

plain_is : (b : Bool) (y : RawStatement-F RawStatement RawArm) (scope : Scope) (part : Part) → IsLeft (roll-RawStatement y) (plain b y scope part).some
plain_is true y scope part = IsLeft.same
plain_is false y scope part = IsLeft.gone

-- a call that stays with some of its arguments
called_with : (b : Bool) (l : ℕ) (to : RawTarget) (f : Bytes) (args some : List RawArg) (needs : List Need) (scope : Scope) (part : Part) → AreSome args some
    → IsLeft (roll-RawStatement (RawStatement-F.Call l to f args)) (plain_with b needs (RawStatement-F.Call l to f some) scope part).some
called_with true l to f args some needs scope part h =
    subst (λ (y : RawStatement). IsLeft (roll-RawStatement (RawStatement-F.Call l to f args)) (y ∷ [])) (sym (s.rolls-Call l to f some)) (at_form (s.rolls-Call l to f args) (IsLeft.call TargetLeft.same h))
called_with false l to f args some needs scope part h = IsLeft.gone

returned_is : (b : Bool) (needs : List Need) (y : RawStatement-F RawStatement RawArm) (scope : Scope) (part : Part) → IsLeft (roll-RawStatement y) (plain_with b needs y scope part).some
returned_is true needs y scope part = IsLeft.same
returned_is false needs y scope part = IsLeft.gone

-- ---- parts of a for

only_is : (x : RawStatement) (some : List RawStatement) → IsLeft x some → PartLeft (Some x) (only some)
only_is x [] h = PartLeft.no_part
only_is x (y ∷ []) h = PartLeft.part h
only_is x (y ∷ (z ∷ rest)) h = PartLeft.no_part

one_alone : (l : ℕ) (i : RawStatement) (a : RawExpr) (step : Option RawStatement) (b : List RawStatement) (d p : Bool) (y : RawStatement) → IsLeft i (y ∷ []) → IsLeft (s.For l (Some i) a step b) (alone_one d p l y).some
one_alone l i a step b true p y h = IsLeft.block_beginning step b h
one_alone l i a step b false true y h = IsLeft.beginning step b h
one_alone l i a step b false false y h = IsLeft.gone

all_alone : (l : ℕ) (i : RawStatement) (a : RawExpr) (step : Option RawStatement) (b : List RawStatement) (p : Bool) (ys : List RawStatement) → IsLeft i ys → IsLeft (s.For l (Some i) a step b) (alone_all p l ys).some
all_alone l i a step b p [] h = IsLeft.gone
all_alone l i a step b p (y ∷ []) h = one_alone l i a step b (declares (out-RawStatement y)) p y h
all_alone l i a step b p (y ∷ (z ∷ rest)) h = IsLeft.gone

block_is : (l : ℕ) (xs some : List RawStatement) → AreLeft xs some → IsLeft (s.Block l xs) (block_of l some)
block_is l xs [] h = IsLeft.gone
block_is l xs (y ∷ ys) h = IsLeft.block h

module _ (k : Kept Bytes) (raw : RawProgram) where
  -- what stays, where what it needs is met
  abbrev Stays : RawStatement → Left → Type 0
  Stays x l = AreMet k l.needs → IsLeft x l.some

  abbrev ListStays : List RawStatement → Left → Type 0
  ListStays xs l = AreMet k l.needs → AreLeft xs l.some

  abbrev PartStays : Option RawStatement → Option Left → Type 0
  PartStays None None = Unit {0}
  PartStays None (Some y) = ⊥
  PartStays (Some x) None = ⊥
  PartStays (Some x) (Some y) = Stays x y

  abbrev ArmsStay : List RawArm → List ArmLeft → Type 0
  ArmsStay arms some = AreMet k (arms_needs some) → ArmsLeft arms (arms_left some)

  part_is : (i : Option RawStatement) (j : Option Left) → PartStays i j → AreMet k (part_needs j) → PartLeft i (part_left j)
  part_is None None h m = PartLeft.no_part
  part_is None (Some y) h m = absurd h
  part_is (Some x) None h m = absurd h
  part_is (Some x) (Some y) h m = only_is x y.some (h (both_met k y.needs (beyond y.some) m).0)

  alone_is : (l : ℕ) (i : Option RawStatement) (a : RawExpr) (step : Option RawStatement) (b : List RawStatement) (j : Option Left) → PartStays i j → AreMet k (left_alone l j).needs → IsLeft (s.For l i a step b) (left_alone l j).some
  alone_is l None a step b None h m = IsLeft.gone
  alone_is l None a step b (Some y) h m = absurd h
  alone_is l (Some x) a step b None h m = absurd h
  alone_is l (Some x) a step b (Some y) h m = all_alone l x a step b y.is_plain y.some (h (both_met k y.needs (alone_all y.is_plain l y.some).needs m).0)

  -- ---- declarations

  met_count : (b : Bool) (n : ℕ) → AreMet k (count_needs b n) → b ≡ false → is_constant (decimal n) ≡ true
  met_count true n m e = false_true (sym e)
  met_count false n m e = count_constant n m.0

  declared_is : (l : ℕ) (v : RawVar) (i : RawInit) (scope : Scope) (a b : Bool) → Stays (s.Declare l v i) (declared raw a b l v i scope)
  declared_is l v i scope true true m = IsLeft.same
  declared_is l v i scope true false m = IsLeft.bare (item_count i) (λ e. met_count (is_written v.shape) (item_count i) m.1 e)
  declared_is l v i scope false true m = IsLeft.gone
  declared_is l v i scope false false m = IsLeft.gone

  module _ (l : ℕ) (f : Bytes) (args some : List RawArg) (h : AreSome args some) (needs results : List Need) (scope : Scope) where
    placed_is : (a : RawExpr) (r b : Bool) → IsLeft (roll-RawStatement (RawStatement-F.Call l (target.Place a) f args)) (call_placed raw r b needs results l a f some scope).some
    placed_is a true b = called_with b l (target.Place a) f args some (needs ++ results) scope (Calls InBlock (target.Place a) f some) h
    placed_is a false true = at_form (s.rolls-Call l (target.Place a) f args) (IsLeft.call TargetLeft.dropped h)
    placed_is a false false = IsLeft.gone

    called_is : (v : RawVar) (a b r : Bool) → IsLeft (s.Call l (target.Declared v) f args) (call_declared raw a b r needs results l v f some scope).some
    called_is v true true true = IsLeft.call TargetLeft.same h
    called_is v true true false = IsLeft.apart h
    called_is v false true true = IsLeft.gone
    called_is v false true false = IsLeft.call TargetLeft.dropped h
    called_is v true false r = IsLeft.uncalled
    called_is v false false r = IsLeft.gone

  allocated_is : (l : ℕ) (v : RawVar) (cast : Option RawTypeName) (n : RawAmount) (scope : Scope) (a b : Bool) → IsLeft (s.Heap l (target.Declared v) cast n) (heap_declared raw a b l v cast n scope).some
  allocated_is l v cast n scope true true = IsLeft.same
  allocated_is l v cast n scope true false = IsLeft.unallocated
  allocated_is l v cast n scope false true = IsLeft.gone
  allocated_is l v cast n scope false false = IsLeft.gone

  declare_is : (l : ℕ) (v : RawVar) (i : RawInit) (scope : Scope) → Stays (s.Declare l v i) (declare_left k raw l v i scope)
  declare_is l v init.None scope = declared_is l v init.None scope (k.variable scope.variables) (k.variable scope.variables)
  declare_is l v (init.One a) scope = declared_is l v (init.One a) scope (k.variable scope.variables) (k.statement scope.statements)
  declare_is l v (init.Items all) scope = declared_is l v (init.Items all) scope (k.variable scope.variables) (k.statement scope.statements)

  call_is : (l : ℕ) (to : RawTarget) (f : Bytes) (args : List RawArg) (scope : Scope) → IsLeft (roll-RawStatement (RawStatement-F.Call l to f args)) (call_left k raw l to f args scope).some
  call_is l target.None f args scope =
      let some = kept_args k f scope.statements args in
      called_with (k.statement scope.statements) l target.None f args some (passes (is_library_function f) f args scope.statements) scope (Calls InBlock target.None f some) (args_stay k f scope.statements args)
  call_is l (target.Place a) f args scope =
      placed_is l f args (kept_args k f scope.statements args) (args_stay k f scope.statements args) (passes (is_library_function f) f args scope.statements) (gives (is_library_function f) f) scope a
      (result_kept (is_library_function f) (k.result scope.statements)) (k.statement scope.statements)
  call_is l (target.Declared v) f args scope =
      at_form (s.rolls-Call l (target.Declared v) f args)
      (called_is l f args (kept_args k f scope.statements args) (args_stay k f scope.statements args) (passes (is_library_function f) f args scope.statements) (gives (is_library_function f) f) scope v
      (k.variable scope.variables) (k.statement scope.statements) (result_kept (is_library_function f) (k.result scope.statements)))

  heap_is : (l : ℕ) (to : RawTarget) (cast : Option RawTypeName) (n : RawAmount) (scope : Scope) → IsLeft (roll-RawStatement (RawStatement-F.Heap l to cast n)) (heap_left k raw l to cast n scope).some
  heap_is l target.None cast n scope = plain_is (k.statement scope.statements) (RawStatement-F.Heap l target.None cast n) scope (Allocates target.None cast n)
  heap_is l (target.Place a) cast n scope = plain_is (k.statement scope.statements) (RawStatement-F.Heap l (target.Place a) cast n) scope (Allocates (target.Place a) cast n)
  heap_is l (target.Declared v) cast n scope = at_form (s.rolls-Heap l (target.Declared v) cast n) (allocated_is l v cast n scope (k.variable scope.variables) (k.statement scope.statements))

  -- ---- ifs, loops and switches

  if_is : (kept : Bool) (l : ℕ) (a : RawExpr) (xs ys : List RawStatement) (b c : Left) (scope : Scope) → ListStays xs b → ListStays ys c → Stays (s.If l a xs ys) (if_left raw kept l a b c scope)
  if_is true l a xs ys b c scope h j m = let p = both_met k b.needs c.needs m.1 in IsLeft.conditional (h p.0) (j p.1)
  if_is false l a xs ys b c scope h j m = IsLeft.gone

  while_is : (kept : Bool) (l : ℕ) (a : RawExpr) (xs : List RawStatement) (b : Left) (scope : Scope) → ListStays xs b → Stays (s.While l a xs) (while_left raw kept l a b scope)
  while_is true l a xs b scope h m = IsLeft.while_loop (h m.1)
  while_is false l a xs b scope h m = IsLeft.gone

  do_is : (kept : Bool) (l : ℕ) (a : RawExpr) (xs : List RawStatement) (b : Left) (scope : Scope) → ListStays xs b → Stays (s.Do l a xs) (do_left raw kept l a b scope)
  do_is true l a xs b scope h m = IsLeft.do_loop (h m.1)
  do_is false l a xs b scope h m = IsLeft.gone

  for_is : (kept : Bool) (l : ℕ) (i : Option RawStatement) (a : RawExpr) (step : Option RawStatement) (xs : List RawStatement) (j next : Option Left) (b : Left) (scope : Scope)
      → PartStays i j → PartStays step next → ListStays xs b → Stays (s.For l i a step xs) (for_left raw kept l j a next b scope)
  for_is true l i a step xs j next b scope hi hs hb m =
      let p = both_met k (part_needs j) (part_needs next ++ b.needs) m.1 in
      let q = both_met k (part_needs next) b.needs p.1 in
      IsLeft.for_loop (part_is i j hi p.0) (part_is step next hs q.0) (hb q.1)
  for_is false l i a step xs j next b scope hi hs hb m = alone_is l i a step xs j hi (both_met k (left_alone l j).needs (part_gone next ++ gone b) m).0

  switch_is : (kept : Bool) (l : ℕ) (a : RawExpr) (xs : List RawArm) (arms : List ArmLeft) (scope : Scope) → ArmsStay xs arms → Stays (s.Switch l a xs) (switch_left raw kept l a arms scope)
  switch_is true l a xs arms scope h m = IsLeft.switch (h m.1)
  switch_is false l a xs arms scope h m = IsLeft.gone

  -- ---- every statement

  abbrev IsThinned : RawStatement → Type 0
  IsThinned x = (scope : Scope) → Stays x ((left k raw x).gives scope)

  -- an arm stays with its labels
  abbrev ArmIsThinned : RawArm → Type 0
  ArmIsThinned a = (scope : Scope) (arms : List RawArm) (some : List ArmLeft) → ArmsStay arms some → ArmsStay (a ∷ arms) ((left_arm k raw a).gives scope ∷ some)

  abbrev bare : List ((x : RawStatement) × IsThinned x) → List RawStatement
  bare = map (λ (x : (y : RawStatement) × IsThinned y). x.0)

  abbrev bare_arms : List ((a : RawArm) × ArmIsThinned a) → List RawArm
  bare_arms = map (λ (a : (y : RawArm) × ArmIsThinned y). a.0)

  lists : (xs : List ((x : RawStatement) × IsThinned x)) (scope : Scope) → ListStays (bare xs) (body_left k raw (bare xs) scope)
  lists [] scope m = AreLeft.none
  lists (x ∷ xs) scope m =
      let a = (left k raw x.0).gives scope in
      let next = (left k raw x.0).after scope in
      let p = both_met k a.needs (body_left k raw (bare xs) next).needs m in
      AreLeft.more (x.1 scope p.0) (lists xs next p.1)

  arms_lists : (xs : List ((a : RawArm) × ArmIsThinned a)) (scope : Scope) → ArmsStay (bare_arms xs) (in_order (map (left_arm k raw) (bare_arms xs)) scope)
  arms_lists [] scope m = ArmsLeft.no_arms
  arms_lists (x ∷ xs) scope m =
      let next = (left_arm k raw x.0).after scope in
      x.1 scope (bare_arms xs) (in_order (map (left_arm k raw) (bare_arms xs)) next) (arms_lists xs next) m

  for_here : (l : ℕ) (i : Option RawStatement) (a : RawExpr) (step : Option RawStatement) (b : List ((x : RawStatement) × IsThinned x)) (scope : Scope)
      → ((scope : Scope) → PartStays i (part_given k raw i scope)) → ((scope : Scope) → PartStays step (part_given k raw step scope))
      → Stays (s.For l i a step (bare b)) ((left_scoped k raw (RawStatement-F.For l (option_map (left k raw) i) a (option_map (left k raw) step) (map (left k raw) (bare b)))).gives scope)
  for_here l i a step b scope hi hs =
      let test = scope_of_test (option_map (left k raw) i) scope in
      let inside = scope_of_body (option_map (left k raw) i) (option_map (left k raw) step) scope in
      for_is (k.statement scope.statements) l i a step (bare b) (part_given k raw i (opened (numbered scope))) (part_given k raw step test) (block_left k raw (map (left k raw) (bare b)) inside) test
      (hi (opened (numbered scope))) (hs test) (lists b (opened inside))

  abbrev shape : StatementParts IsThinned ArmIsThinned → RawStatement-F RawStatement RawArm
  shape = statement_layer IsThinned ArmIsThinned

  of_layer : (y : StatementParts IsThinned ArmIsThinned) (scope : Scope) → Stays (roll-RawStatement (shape y)) ((layer_left k raw (shape y)).gives scope)
  of_layer (RawStatement-F.Declare l v i) scope m = at_form (s.rolls-Declare l v i) (declare_is l v i scope m)
  of_layer (RawStatement-F.Assign l a op b) scope m = plain_is (k.statement scope.statements) (RawStatement-F.Assign l a op b) scope (Assigns a op b)
  of_layer (RawStatement-F.Bump l a up before) scope m = plain_is (k.statement scope.statements) (RawStatement-F.Bump l a up before) scope (Bumps a)
  of_layer (RawStatement-F.Call l to f args) scope m = call_is l to f args scope
  of_layer (RawStatement-F.Heap l to cast n) scope m = heap_is l to cast n scope
  of_layer (RawStatement-F.If l a b c) scope m =
      let next = after_block (map (left k raw) (bare b)) (numbered scope) in
      at_form (s.rolls-If l a (bare b) (bare c)) (if_is (k.statement scope.statements) l a (bare b) (bare c) (block_left k raw (map (left k raw) (bare b)) (numbered scope)) (block_left k raw (map (left k raw) (bare c)) next) scope
      (lists b (opened (numbered scope))) (lists c (opened next)) m)
  of_layer (RawStatement-F.While l a b) scope m =
      at_form (s.rolls-While l a (bare b)) (while_is (k.statement scope.statements) l a (bare b) (block_left k raw (map (left k raw) (bare b)) (numbered scope)) scope (lists b (opened (numbered scope))) m)
  of_layer (RawStatement-F.Do l a b) scope m =
      at_form (s.rolls-Do l a (bare b)) (do_is (k.statement scope.statements) l a (bare b) (block_left k raw (map (left k raw) (bare b)) (numbered scope)) scope (lists b (opened (numbered scope))) m)
  of_layer (RawStatement-F.For l None a None b) scope m = at_form (s.rolls-For l None a None (bare b)) (for_here l None a None b scope (λ n. tt) (λ n. tt) m)
  of_layer (RawStatement-F.For l None a (Some x) b) scope m = at_form (s.rolls-For l None a (Some x.0) (bare b)) (for_here l None a (Some x.0) b scope (λ n. tt) x.1 m)
  of_layer (RawStatement-F.For l (Some i) a None b) scope m = at_form (s.rolls-For l (Some i.0) a None (bare b)) (for_here l (Some i.0) a None b scope i.1 (λ n. tt) m)
  of_layer (RawStatement-F.For l (Some i) a (Some x) b) scope m = at_form (s.rolls-For l (Some i.0) a (Some x.0) (bare b)) (for_here l (Some i.0) a (Some x.0) b scope i.1 x.1 m)
  of_layer (RawStatement-F.Switch l a arms) scope m =
      at_form (s.rolls-Switch l a (bare_arms arms)) (switch_is (k.statement scope.statements) l a (bare_arms arms) (in_order (map (left_arm k raw) (bare_arms arms)) (opened (numbered scope))) scope (arms_lists arms (opened (numbered scope))) m)
  of_layer (RawStatement-F.Block l b) scope m = at_form (s.rolls-Block l (bare b)) (block_is l (bare b) (block_left k raw (map (left k raw) (bare b)) scope).some (lists b (opened scope) m))
  of_layer (RawStatement-F.Return l a) scope m = returned_is (k.statement scope.statements) (return_needs (head_around raw scope) a) (RawStatement-F.Return l a) scope (Returns a)

  layer_is : (y : StatementParts IsThinned ArmIsThinned) → IsThinned (roll-RawStatement (shape y))
  layer_is y scope =
      subst (λ (t : Scoped Left). Stays (roll-RawStatement (shape y)) (t.gives scope)) (sym (fold-roll-RawStatement (Scoped Left) (Scoped ArmLeft) (left_scoped k raw) (left_arm_step k raw) (shape y)))
      (of_layer y scope)

  arm_is : (y : ArmParts IsThinned ArmIsThinned) → ArmIsThinned (roll-RawArm (arm_layer IsThinned ArmIsThinned y))
  arm_is y scope arms some j =
      let z = arm_layer IsThinned ArmIsThinned y in
      subst (λ (t : Scoped ArmLeft). ArmsStay (roll-RawArm z ∷ arms) (t.gives scope ∷ some)) (sym (fold-roll-RawArm (Scoped Left) (Scoped ArmLeft) (left_scoped k raw) (left_arm_step k raw) z))
      (λ m. let p = both_met k (body_left k raw (bare y.body) scope).needs (arms_needs some) m.1 in ArmsLeft.arm_stays (lists y.body scope p.0) (j p.1))

  statement_is : (x : RawStatement) → IsThinned x
  statement_is = of_every_statement IsThinned ArmIsThinned layer_is arm_is

  -- what stays of a list of statements is left of it, where what it needs is met
  pub body_is : (xs : List RawStatement) (scope : Scope) → ListStays xs (body_left k raw xs scope)
  body_is [] scope m = AreLeft.none
  body_is (x ∷ xs) scope m =
      let a = (left k raw x).gives scope in
      let next = (left k raw x).after scope in
      let p = both_met k a.needs (body_left k raw xs next).needs m in
      AreLeft.more (statement_is x scope p.0) (body_is xs next p.1)
