-- A statement whose call loses nothing is kept as it is, and stays one statement.
use Rattle.std.proofs.Common.{◌≡◌, ℕ, Bool, true, false, ◌&&◌, not, Some, refl, sym, ap, ◌∙◌}
use Rattle.std.specs.Prelude.{option_map}
use Rattle.std.proofs.lemmas.Bool.{and_right}
use Rattle.c_tree.specs.declared.numbered.Start.{Start}
use Rattle.c_tree.specs.declared.statement.Arm.{Arm}
use Rattle.c_tree.specs.declared.statement.Statement.{Statement, out-Statement, roll-Statement}
use Rattle.c_tree.specs.declared.statement.Statement.TheOpen.{Statement-F}
use Rattle.c_tree.specs.declared.statement.Statement.TheVariants as s
use Rattle.c_tree.specs.declared.statement.Statement.TheViews.{roll-out-Statement}
use Rattle.c_tree.specs.Numbered.{layer_start, own_id}
use Rattle.projection.specs.Kept.{Kept}
use Rattle.c_scope_laws.proofs.ChosenLists.{chosen_all}
use Rattle.own_words.specs.OwnWords.{left_side, layer_kept, kept_part, target_stays, layer_splits, splits}
use Rattle.own_words.proofs.Lists.{three}

module _ (k : Kept ℕ) (x : Statement) where
  abbrev KeepsCall : Type 0
  KeepsCall = (i n : ℕ) → own_id x ≡ Some i → (k.result i ≡ true) × (k.argument i n ≡ true)

  layer_whole : KeepsCall → (z : Statement-F Statement Arm) → out-Statement x ≡ z → layer_kept k x z ≡ x
  layer_whole h (Statement-F.Declare id l y i) is = refl
  layer_whole h (Statement-F.Assign id l a op b) is = refl
  layer_whole h (Statement-F.Bump id l a up before) is = refl
  layer_whole h (Statement-F.Invoke id l to f args) is =
      let own : own_id x ≡ Some id = ap (λ (z : Statement-F Statement Arm). option_map (λ (t : Start). t.id) (layer_start z)) is in
      let given = chosen_all (k.argument id) (λ n. (h id n own).1) 0 args in
      three (λ (r : Bool) (u : ℕ) as_. s.Invoke id l (left_side r to) u as_) (h id 0 own).0 refl given ∙ sym (s.rolls-Invoke id l to f args) ∙ ap roll-Statement (sym is) ∙ roll-out-Statement x
  layer_whole h (Statement-F.Fetch id l to) is = refl
  layer_whole h (Statement-F.Write id l a) is = refl
  layer_whole h (Statement-F.Print id l format args) is = refl
  layer_whole h (Statement-F.Heap id l to cast n) is = refl
  layer_whole h (Statement-F.Release id l a) is = refl
  layer_whole h (Statement-F.If id l e a b) is = refl
  layer_whole h (Statement-F.While id l e b) is = refl
  layer_whole h (Statement-F.Do id l e b) is = refl
  layer_whole h (Statement-F.For id l i e step b) is = refl
  layer_whole h (Statement-F.Switch id l e arms) is = refl
  layer_whole h (Statement-F.Block l b) is = refl
  layer_whole h (Statement-F.Return id l a) is = refl

  -- a statement whose call loses no argument, and not its result, is kept as it is
  pub whole_words : KeepsCall → kept_part k x ≡ x
  whole_words h = layer_whole h (out-Statement x) refl

-- where each call keeps its result, none becomes two statements
module _ (k : Kept ℕ) (results : (i : ℕ) → k.result i ≡ true) where
  layer_unsplit : (z : Statement-F Statement Arm) → layer_splits k z ≡ false
  layer_unsplit (Statement-F.Declare id l y i) = refl
  layer_unsplit (Statement-F.Assign id l a op b) = refl
  layer_unsplit (Statement-F.Bump id l a up before) = refl
  layer_unsplit (Statement-F.Invoke id l to f args) =
      ap (λ (r : Bool). k.statement id && (not r && target_stays k to)) (results id) ∙ and_right (k.statement id) false refl
  layer_unsplit (Statement-F.Fetch id l to) = refl
  layer_unsplit (Statement-F.Write id l a) = refl
  layer_unsplit (Statement-F.Print id l format args) = refl
  layer_unsplit (Statement-F.Heap id l to cast n) = refl
  layer_unsplit (Statement-F.Release id l a) = refl
  layer_unsplit (Statement-F.If id l e a b) = refl
  layer_unsplit (Statement-F.While id l e b) = refl
  layer_unsplit (Statement-F.Do id l e b) = refl
  layer_unsplit (Statement-F.For id l i e step b) = refl
  layer_unsplit (Statement-F.Switch id l e arms) = refl
  layer_unsplit (Statement-F.Block l b) = refl
  layer_unsplit (Statement-F.Return id l a) = refl

  pub unsplit : (x : Statement) → splits k x ≡ false
  unsplit x = layer_unsplit (out-Statement x)
