-- What stays of a text is left of its tree.
use Rattle.std.proofs.Common.{ℕ, List, [], ◌∷◌, Bool, true, false, None, refl}
use Rattle.std.specs.Prelude.{if◌then◌else◌}
use Rattle.c_tree.specs.declared.raw.program.RawHead.{RawHead}
use Rattle.c_tree.specs.declared.raw.program.RawItem.{RawItem}
use Rattle.c_tree.specs.declared.raw.program.RawItem.TheVariants.{Include, Tag, Struct, Global, Prototype, Define}
use Rattle.c_tree.specs.declared.raw.program.RawProgram.{RawProgram}
use Rattle.c_language.specs.Scopes.{Scope, outset, entered}
use Rattle.c_language.specs.Phrases.{after_item}
use Rattle.c_language.proofs.Tests.{by_answer}
use Rattle.projection.specs.Kept.{Kept}
use Rattle.c_scope_laws.specs.Agreement.{Heads, head_left}
use Rattle.c_scope_laws.specs.Thinning.{heads_of}
use Rattle.c_scope_laws.specs.ThinnedTexts.{chosen, item_left, items_left, ItemIsClosed, ItemsAreClosed, KeepsText, thinned_text}
use Rattle.thinned_syntax.specs.Left.{HeadLeft, ResultLeft, ItemLeft, ItemsLeft}
use Rattle.thinned_syntax.proofs.ThinnedStatements.{some_stay, body_is}
use Rattle.c_language.specs.Words.{Bytes}

-- an item that stays as it is, or goes
chosen_is : (b : Bool) (x : RawItem) → ItemLeft x (chosen b x)
chosen_is true x = ItemLeft.same
chosen_is false x = ItemLeft.gone

-- a prototype
declared_is : (b : Bool) (l : ℕ) (h g : RawHead) → HeadLeft h g → ItemLeft (Prototype l h) (chosen b (Prototype l g))
declared_is true l h g left = ItemLeft.prototype left
declared_is false l h g left = ItemLeft.gone

some_head : (heads : Heads) (h : RawHead) → HeadLeft h (head_left heads h)
some_head heads h = record { name = refl; result = by_gives (heads.gives h.name); params = some_stay (heads.parameter h.name) 0 h.params }
  where
    by_gives : (b : Bool) → ResultLeft h.result (if b then h.result else None)
    by_gives true = ResultLeft.same
    by_gives false = ResultLeft.dropped

module _ (k : Kept Bytes) (raw : RawProgram) where
  item_is : (x : RawItem) (scope : Scope) → ItemIsClosed k raw x scope → ItemLeft x (item_left k raw x scope)
  item_is (Include is_stdlib) scope h = ItemLeft.same
  item_is (Tag l w) scope h = ItemLeft.same
  item_is (Struct l w members) scope h = ItemLeft.same
  item_is (Global l v i is_static) scope h = chosen_is (k.variable scope.variables) (Global l v i is_static)
  item_is (Prototype l head) scope h = declared_is (k.function head.name) l head (head_left (heads_of k) head) (some_head (heads_of k) head)
  item_is (Define l head body) scope h = by_answer (k.function head.name)
      (λ t. rw t (ItemLeft.definition (some_head (heads_of k) head) (body_is k raw body (entered raw head scope) (h.0 t).statements)))
      (λ f. rw f ItemLeft.gone)

  items_are : (xs : List RawItem) (scope : Scope) → ItemsAreClosed k raw xs scope → ItemsLeft xs (items_left k raw xs scope)
  items_are [] scope h = ItemsLeft.none
  items_are (x ∷ xs) scope h = ItemsLeft.more (item_is x scope h.0) (items_are xs (after_item raw x scope) h.1)

-- what stays of a text is left of its tree, where what is kept is a text
pub text_is_left : (k : Kept Bytes) (raw : RawProgram) → KeepsText k raw → ItemsLeft raw.items (thinned_text k raw).items
text_is_left k raw h = items_are k raw raw.items outset h.items
