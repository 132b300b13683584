-- What is left of a tree nests no deeper than the tree.
use Rattle.std.proofs.Common.{◌≤◌, ℕ, max, List, [], ◌∷◌, ◌++◌, map, Option, Some, arith}
use Rattle.c_tree.specs.declared.raw.expr.RawType.{RawType}
use Rattle.c_tree.specs.declared.raw.program.RawInit.TheVariants as init
use Rattle.c_tree.specs.declared.raw.program.RawHead.{RawHead}
use Rattle.c_tree.specs.declared.raw.program.RawItem.{RawItem}
use Rattle.c_tree.specs.declared.raw.statement.RawTarget.{RawTarget}
use Rattle.c_tree.specs.declared.raw.statement.RawTarget.TheVariants as target
use Rattle.c_tree.specs.declared.raw.statement.RawArm.{RawArm}
use Rattle.c_tree.specs.declared.raw.statement.RawStatement.{RawStatement}
use Rattle.c_language.specs.Lists.{greatest}
use Rattle.c_language.specs.Nesting.{param_nesting}
use Rattle.c_language.specs.StatementNesting.{arg_nesting, call_nesting, stored_nesting, statement_nesting, body_nesting, result_nesting, head_nesting, item_nesting, items_nesting}
use Rattle.c_language.proofs.StatementNestingLemmas.{nesting-Declare, nesting-Call, nesting-Heap, nesting-If, nesting-While, nesting-Do, part_nesting, nesting-For, nesting-Switch, nesting-Block, nesting-arm, arms_nesting}
use Rattle.thinned_syntax.specs.Left.{AreSome, counted, TargetLeft, IsLeft, AreLeft, PartLeft, ArmsLeft, ResultLeft, HeadLeft, ItemLeft, ItemsLeft}
use Rattle.thinned_syntax.proofs.Counted.{counted_nests}

-- ---- lists

some_nest : {A : Type 0} (f : A → ℕ) {xs ys : List A} → AreSome xs ys → greatest (map f ys) ≤ greatest (map f xs)
some_nest f AreSome.none = omega arith
some_nest f (AreSome.taken k) = let n = some_nest f k in omega (arith, n)
some_nest f (AreSome.stays k) = let n = some_nest f k in omega (arith, n)

append_nests : (xs ys : List RawStatement) → body_nesting (xs ++ ys) ≤ max (body_nesting xs) (body_nesting ys)
append_nests [] ys = omega arith
append_nests (x ∷ xs) ys = let h = append_nests xs ys in omega (arith, h)

target_nests : {to next : RawTarget} (m n : ℕ) → m ≤ n → TargetLeft to next → stored_nesting next m ≤ stored_nesting to n
target_nests {to = target.None} m n h TargetLeft.same = h
target_nests {to = target.Place a} m n h TargetLeft.same = omega (arith, h)
target_nests {to = target.Declared v} m n h TargetLeft.same = omega (arith, h)
target_nests {to = target.None} m n h TargetLeft.dropped = h
target_nests {to = target.Place a} m n h TargetLeft.dropped = omega (arith, h)
target_nests {to = target.Declared v} m n h TargetLeft.dropped = omega (arith, h)

-- ---- statements

mutual
  statement_nests : {x : RawStatement} {some : List RawStatement} → IsLeft x some → body_nesting some ≤ statement_nesting x
  statement_nests IsLeft.gone = omega arith
  statement_nests IsLeft.same = omega arith
  statement_nests (IsLeft.bare {l} {v} {i} n k) =
      let a = nesting-Declare l v i in
      let b = nesting-Declare l (counted n v) init.None in
      let c = counted_nests n v.shape in
      omega (arith, a, b, c)
  statement_nests (IsLeft.call {l} {to} {next} {f} {args} {some} t k) =
      let a = nesting-Call l to f args in
      let b = nesting-Call l next f some in
      let c = some_nest arg_nesting k in
      let d = target_nests (call_nesting some) (call_nesting args) (omega (arith, c)) t in
      omega (arith, a, b, d)
  statement_nests (IsLeft.apart {l} {v} {f} {args} {some} k) =
      let a = nesting-Call l (target.Declared v) f args in
      let b = nesting-Declare l v init.None in
      let c = nesting-Call l target.None f some in
      let d = some_nest arg_nesting k in
      omega (arith, a, b, c, d)
  statement_nests (IsLeft.uncalled {l} {v} {f} {args}) =
      let a = nesting-Call l (target.Declared v) f args in
      let b = nesting-Declare l v init.None in
      omega (arith, a, b)
  statement_nests (IsLeft.unallocated {l} {v} {cast} {n}) =
      let a = nesting-Heap l (target.Declared v) cast n in
      let b = nesting-Declare l v init.None in
      omega (arith, a, b)
  statement_nests (IsLeft.conditional {l} {a} {b} {c} {d} {e} j k) =
      let p = nesting-If l a b c in
      let q = nesting-If l a d e in
      let m = list_nests j in
      let n = list_nests k in
      omega (arith, p, q, m, n)
  statement_nests (IsLeft.while_loop {l} {a} {b} {d} j) =
      let p = nesting-While l a b in
      let q = nesting-While l a d in
      let m = list_nests j in
      omega (arith, p, q, m)
  statement_nests (IsLeft.do_loop {l} {a} {b} {d} j) =
      let p = nesting-Do l a b in
      let q = nesting-Do l a d in
      let m = list_nests j in
      omega (arith, p, q, m)
  statement_nests (IsLeft.for_loop {l} {i} {j} {a} {k} {m} {b} {d} u v w) =
      let p = nesting-For l i a k b in
      let q = nesting-For l j a m d in
      let x = part_nests u in
      let y = part_nests v in
      let z = list_nests w in
      omega (arith, p, q, x, y, z)
  statement_nests (IsLeft.switch {l} {a} {arms} {some} j) =
      let p = nesting-Switch l a arms in
      let q = nesting-Switch l a some in
      let m = arms_nest j in
      omega (arith, p, q, m)
  statement_nests (IsLeft.block {l} {b} {d} j) =
      let p = nesting-Block l b in
      let q = nesting-Block l d in
      let m = list_nests j in
      omega (arith, p, q, m)
  statement_nests (IsLeft.beginning {l} {i} {x} {a} k b j) =
      let p = nesting-For l (Some i) a k b in
      let m = statement_nests j in
      omega (arith, p, m)
  statement_nests (IsLeft.block_beginning {l} {i} {x} {a} k b j) =
      let p = nesting-For l (Some i) a k b in
      let q = nesting-Block l (x ∷ []) in
      let m = statement_nests j in
      omega (arith, p, q, m)

  list_nests : {xs some : List RawStatement} → AreLeft xs some → body_nesting some ≤ body_nesting xs
  list_nests AreLeft.none = omega arith
  list_nests (AreLeft.more {some} {others} j k) =
      let a = append_nests some others in
      let m = statement_nests j in
      let n = list_nests k in
      omega (arith, a, m, n)

  part_nests : {i j : Option RawStatement} → PartLeft i j → part_nesting j ≤ part_nesting i
  part_nests PartLeft.no_part = omega arith
  part_nests (PartLeft.part j) = let m = statement_nests j in omega (arith, m)

  arms_nest : {arms some : List RawArm} → ArmsLeft arms some → arms_nesting some ≤ arms_nesting arms
  arms_nest ArmsLeft.no_arms = omega arith
  arms_nest (ArmsLeft.arm_gone k) = let n = arms_nest k in omega (arith, n)
  arms_nest (ArmsLeft.arm_stays {labels} {body} {d} j k) =
      let a = nesting-arm labels body in
      let b = nesting-arm labels d in
      let m = list_nests j in
      let n = arms_nest k in
      omega (arith, a, b, m, n)

-- ---- items

result_nests : {t u : Option RawType} → ResultLeft t u → result_nesting u ≤ result_nesting t
result_nests ResultLeft.same = omega arith
result_nests ResultLeft.dropped = omega arith

head_nests : {h g : RawHead} → HeadLeft h g → head_nesting g ≤ head_nesting h
head_nests k =
    let a = result_nests k.result in
    let b = some_nest param_nesting k.params in
    omega (arith, a, b)

item_nests : {x : RawItem} {some : List RawItem} → ItemLeft x some → items_nesting some ≤ item_nesting x
item_nests ItemLeft.gone = omega arith
item_nests ItemLeft.same = omega arith
item_nests (ItemLeft.bare {v} n k) = let c = counted_nests n v.shape in omega (arith, c)
item_nests (ItemLeft.prototype k) = let a = head_nests k in omega (arith, a)
item_nests (ItemLeft.definition k j) =
    let a = head_nests k in
    let b = list_nests j in
    omega (arith, a, b)

items_append : (xs ys : List RawItem) → items_nesting (xs ++ ys) ≤ max (items_nesting xs) (items_nesting ys)
items_append [] ys = omega arith
items_append (x ∷ xs) ys = let h = items_append xs ys in omega (arith, h)

-- what is left of items nests no deeper
pub items_nest : {xs some : List RawItem} → ItemsLeft xs some → items_nesting some ≤ items_nesting xs
items_nest ItemsLeft.none = omega arith
items_nest (ItemsLeft.more {some} {others} j k) =
    let a = items_append some others in
    let m = item_nests j in
    let n = items_nest k in
    omega (arith, a, m, n)
