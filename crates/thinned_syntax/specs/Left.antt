-- What may be left of a tree when parts of it are taken away: statements, initialisers, calls with their results and arguments, arms,
-- results and parameters of functions, and items.
use Rattle.std.specs.Prelude.{◌≡◌, ℕ, Bool, true, false, List, [], ◌∷◌, ◌++◌, Option, Some, None, decimal}
use Rattle.c_tree.specs.declared.raw.expr.RawExpr.{RawExpr}
use Rattle.c_tree.specs.declared.raw.expr.RawType.{RawType}
use Rattle.c_tree.specs.declared.raw.expr.RawVar.{RawVar}
use Rattle.c_tree.specs.declared.raw.program.RawInit.{RawInit}
use Rattle.c_tree.specs.declared.raw.program.RawInit.TheVariants as init
use Rattle.c_tree.specs.declared.raw.program.RawHead.{RawHead}
use Rattle.c_tree.specs.declared.raw.program.RawItem.{RawItem}
use Rattle.c_tree.specs.declared.raw.program.RawItem.TheVariants as item
use Rattle.c_tree.specs.declared.raw.statement.RawTarget.{RawTarget}
use Rattle.c_tree.specs.declared.raw.statement.RawTarget.TheVariants as target
use Rattle.c_tree.specs.declared.raw.statement.RawArg.{RawArg}
use Rattle.c_tree.specs.declared.raw.statement.RawTypeName.{RawTypeName}
use Rattle.c_tree.specs.declared.raw.statement.RawAmount.{RawAmount}
use Rattle.c_tree.specs.declared.raw.statement.RawLabel.{RawLabel}
use Rattle.c_tree.specs.declared.raw.statement.RawArm.{RawArm}
use Rattle.c_tree.specs.declared.raw.statement.RawStatement.{RawStatement}
use Rattle.c_tree.specs.declared.raw.statement.RawStatement.TheVariants as s
use Rattle.c_language.specs.Words.{Bytes}
use Rattle.c_language.specs.Spellings.{is_constant}
use Rattle.c_language.specs.TypeGrammar.{is_written}
use Rattle.c_language.specs.StatementGrammar.{arm}
use Rattle.c_scope_laws.specs.ThinnedBodies.{counted_type}

-- some of a list, in order
pub data AreSome {A : Type 0} : List A → List A → Type 0 where
  -- none of none
  none : AreSome [] []
  -- the first is taken away
  taken : {x : A} {xs ys : List A} → AreSome xs ys → AreSome (x ∷ xs) ys
  -- the first stays
  stays : {x : A} {xs ys : List A} → AreSome xs ys → AreSome (x ∷ xs) (x ∷ ys)

-- a variable, with this number for each length that a list of initialisers gives
abbrev pub counted : ℕ → RawVar → RawVar
counted n v = record { name = v.name; shape = counted_type n v.shape }

-- where the number is written, it is a constant
abbrev pub IsCounted : ℕ → RawVar → Type 0
IsCounted n v = is_written v.shape ≡ false → is_constant (decimal n) ≡ true

-- what is left of where a result is stored
pub data TargetLeft : RawTarget → RawTarget → Type 0 where
  -- it stays
  same : {to : RawTarget} → TargetLeft to to
  -- the result is dropped
  dropped : {to : RawTarget} → TargetLeft to target.None

mutual
  -- what is left of a statement
  pub data IsLeft : RawStatement → List RawStatement → Type 0 where
    -- nothing
    gone : {x : RawStatement} → IsLeft x []
    -- it stays as it is
    same : {x : RawStatement} → IsLeft x (x ∷ [])
    -- a variable without its initialiser
    bare : {l : ℕ} {v : RawVar} {i : RawInit} (n : ℕ) → IsCounted n v → IsLeft (s.Declare l v i) (s.Declare l (counted n v) init.None ∷ [])
    -- a call with some of its arguments, with its result or without it
    call : {l : ℕ} {to next : RawTarget} {f : Bytes} {args some : List RawArg} → TargetLeft to next → AreSome args some → IsLeft (s.Call l to f args) (s.Call l next f some ∷ [])
    -- a variable, and the call whose result began it
    apart : {l : ℕ} {v : RawVar} {f : Bytes} {args some : List RawArg} → AreSome args some
        → IsLeft (s.Call l (target.Declared v) f args) (s.Declare l v init.None ∷ (s.Call l target.None f some ∷ []))
    -- a variable without the call whose result began it
    uncalled : {l : ℕ} {v : RawVar} {f : Bytes} {args : List RawArg} → IsLeft (s.Call l (target.Declared v) f args) (s.Declare l v init.None ∷ [])
    -- a variable without its allocation
    unallocated : {l : ℕ} {v : RawVar} {cast : Option RawTypeName} {n : RawAmount} → IsLeft (s.Heap l (target.Declared v) cast n) (s.Declare l v init.None ∷ [])
    -- what is left of the parts of an if, a loop, a switch or a block
    conditional : {l : ℕ} {a : RawExpr} {b c d e : List RawStatement} → AreLeft b d → AreLeft c e → IsLeft (s.If l a b c) (s.If l a d e ∷ [])
    while_loop : {l : ℕ} {a : RawExpr} {b d : List RawStatement} → AreLeft b d → IsLeft (s.While l a b) (s.While l a d ∷ [])
    do_loop : {l : ℕ} {a : RawExpr} {b d : List RawStatement} → AreLeft b d → IsLeft (s.Do l a b) (s.Do l a d ∷ [])
    for_loop : {l : ℕ} {i j : Option RawStatement} {a : RawExpr} {k m : Option RawStatement} {b d : List RawStatement}
        → PartLeft i j → PartLeft k m → AreLeft b d → IsLeft (s.For l i a k b) (s.For l j a m d ∷ [])
    switch : {l : ℕ} {a : RawExpr} {arms some : List RawArm} → ArmsLeft arms some → IsLeft (s.Switch l a arms) (s.Switch l a some ∷ [])
    block : {l : ℕ} {b d : List RawStatement} → AreLeft b d → IsLeft (s.Block l b) (s.Block l d ∷ [])
    -- what a for begins with, without the for, and in a block of its own
    beginning : {l : ℕ} {i x : RawStatement} {a : RawExpr} (k : Option RawStatement) (b : List RawStatement) → IsLeft i (x ∷ []) → IsLeft (s.For l (Some i) a k b) (x ∷ [])
    block_beginning : {l : ℕ} {i x : RawStatement} {a : RawExpr} (k : Option RawStatement) (b : List RawStatement) → IsLeft i (x ∷ []) → IsLeft (s.For l (Some i) a k b) (s.Block l (x ∷ []) ∷ [])

  -- what is left of statements, one after another
  pub data AreLeft : List RawStatement → List RawStatement → Type 0 where
    -- of none
    none : AreLeft [] []
    -- of the first, and of the others
    more : {x : RawStatement} {xs some others : List RawStatement} → IsLeft x some → AreLeft xs others → AreLeft (x ∷ xs) (some ++ others)

  -- what is left of a part of a for
  pub data PartLeft : Option RawStatement → Option RawStatement → Type 0 where
    -- nothing
    no_part : {i : Option RawStatement} → PartLeft i None
    -- one statement
    part : {i x : RawStatement} → IsLeft i (x ∷ []) → PartLeft (Some i) (Some x)

  -- what is left of arms
  pub data ArmsLeft : List RawArm → List RawArm → Type 0 where
    -- of none
    no_arms : ArmsLeft [] []
    -- the first is taken away
    arm_gone : {x : RawArm} {arms some : List RawArm} → ArmsLeft arms some → ArmsLeft (x ∷ arms) some
    -- the first stays, with what is left of its statements
    arm_stays : {labels : List RawLabel} {body d : List RawStatement} {arms some : List RawArm} → AreLeft body d → ArmsLeft arms some → ArmsLeft (arm labels body ∷ arms) (arm labels d ∷ some)

-- ---- items

-- what is left of a result
pub data ResultLeft : Option RawType → Option RawType → Type 0 where
  -- it stays
  same : {t : Option RawType} → ResultLeft t t
  -- the function gives none
  dropped : {t : Option RawType} → ResultLeft t None

-- what is left of the head of a function
pub record HeadLeft (h g : RawHead) : Type 0 where
  pub name : g.name ≡ h.name
  pub result : ResultLeft h.result g.result
  pub params : AreSome h.params g.params

-- what is left of an item
pub data ItemLeft : RawItem → List RawItem → Type 0 where
  -- nothing
  gone : {x : RawItem} → ItemLeft x []
  -- it stays as it is
  same : {x : RawItem} → ItemLeft x (x ∷ [])
  -- a variable without its initialiser
  bare : {l : ℕ} {v : RawVar} {i : RawInit} {is_static : Bool} (n : ℕ) → IsCounted n v → ItemLeft (item.Global l v i is_static) (item.Global l (counted n v) init.None is_static ∷ [])
  -- a prototype
  prototype : {l : ℕ} {h g : RawHead} → HeadLeft h g → ItemLeft (item.Prototype l h) (item.Prototype l g ∷ [])
  -- a function, with what is left of its body
  definition : {l : ℕ} {h g : RawHead} {b d : List RawStatement} → HeadLeft h g → AreLeft b d → ItemLeft (item.Define l h b) (item.Define l g d ∷ [])

-- what is left of items, one after another
pub data ItemsLeft : List RawItem → List RawItem → Type 0 where
  -- of none
  none : ItemsLeft [] []
  -- of the first, and of the others
  more : {x : RawItem} {xs some others : List RawItem} → ItemLeft x some → ItemsLeft xs others → ItemsLeft (x ∷ xs) (some ++ others)
