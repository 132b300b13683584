-- Each arm of a switch has a label, in a tree that is syntax.
use Rattle.std.proofs.Common.{◌≡◌, ◌&&◌, List, [], ◌∷◌, map, Bool, true, false, Some, None, refl, ◌∙◌}
use Rattle.std.specs.List.{list_all}
use Rattle.std.proofs.lemmas.Bool.{and_parts, and_from}
use Rattle.c_tree.specs.declared.raw.program.RawItem.{RawItem}
use Rattle.c_tree.specs.declared.raw.program.RawItem.TheVariants.{Include, Tag, Struct, Global, Prototype, Define}
use Rattle.c_tree.specs.declared.raw.program.RawProgram.{RawProgram}
use Rattle.c_tree.specs.declared.raw.statement.RawLabel.{RawLabel}
use Rattle.c_tree.specs.declared.raw.statement.RawStatement.{RawStatement, map-RawStatement, fold-RawStatement, fold-roll-RawStatement}
use Rattle.c_tree.specs.declared.raw.statement.RawStatement.TheOpen.{RawStatement-F, RawArm-F}
use Rattle.c_tree.specs.declared.raw.statement.RawArm.{RawArm, fold-RawArm, fold-roll-RawArm}
use Rattle.c_language.specs.ItemGrammar.{are_named}
use Rattle.c_language.specs.Lists.{if_there, all_true}
use Rattle.c_language.specs.Syntax.{is_there, arm_step, is_body, is_head, is_item, is_syntax}
use Rattle.text_syntax.proofs.Folds.{standing_arm, AllAre, PartsAre, body_gives, Passes, ArmPasses, all_pass, arms_pass}

-- a label is there
abbrev pub has_label : List RawLabel → Bool
has_label [] = false
has_label (l ∷ ls) = true

abbrev pub labelled_step : RawStatement-F Bool Bool → Bool
labelled_step (RawStatement-F.Declare l v i) = true
labelled_step (RawStatement-F.Assign l a op b) = true
labelled_step (RawStatement-F.Bump l a up before) = true
labelled_step (RawStatement-F.Call l to f args) = true
labelled_step (RawStatement-F.Heap l to cast n) = true
labelled_step (RawStatement-F.If l e a b) = all_true a && all_true b
labelled_step (RawStatement-F.While l e b) = all_true b
labelled_step (RawStatement-F.Do l e b) = all_true b
labelled_step (RawStatement-F.For l i e k b) = if_there i && (if_there k && all_true b)
labelled_step (RawStatement-F.Switch l e arms) = all_true arms
labelled_step (RawStatement-F.Block l b) = all_true b
labelled_step (RawStatement-F.Return l e) = true

abbrev pub labelled_arm : RawArm-F Bool Bool → Bool
labelled_arm a = has_label a.labels && all_true a.body

-- each arm in a statement has a label
abbrev pub labelled : RawStatement → Bool
labelled = fold-RawStatement Bool Bool labelled_step labelled_arm

abbrev pub labelled_of_arm : RawArm → Bool
labelled_of_arm = fold-RawArm Bool Bool labelled_step labelled_arm

abbrev pub are_labelled : List RawStatement → Bool
are_labelled all = all_true (map labelled all)

-- ---- statements

there_is_label : (ls : List RawLabel) → is_there ls ≡ true → has_label ls ≡ true
there_is_label [] h = h
there_is_label (l ∷ ls) h = refl

labelled_form : (y : RawStatement-F RawStatement RawArm) → PartsAre (Passes labelled) (ArmPasses labelled_of_arm) y → labelled_step (map-RawStatement RawStatement RawArm Bool Bool labelled labelled_of_arm y) ≡ true
labelled_form (RawStatement-F.Declare l v i) k = refl
labelled_form (RawStatement-F.Assign l a op b) k = refl
labelled_form (RawStatement-F.Bump l a up before) k = refl
labelled_form (RawStatement-F.Call l to f args) k = refl
labelled_form (RawStatement-F.Heap l to cast n) k = refl
labelled_form (RawStatement-F.If l e a b) k = and_from _ _ (all_pass labelled a k.0) (all_pass labelled b k.1)
labelled_form (RawStatement-F.While l e b) k = all_pass labelled b k
labelled_form (RawStatement-F.Do l e b) k = all_pass labelled b k
labelled_form (RawStatement-F.For l None e None b) k = all_pass labelled b k.2
labelled_form (RawStatement-F.For l None e (Some x) b) k = and_from _ _ k.1 (all_pass labelled b k.2)
labelled_form (RawStatement-F.For l (Some i) e None b) k = and_from _ _ k.0 (all_pass labelled b k.2)
labelled_form (RawStatement-F.For l (Some i) e (Some x) b) k = and_from _ _ k.0 (and_from _ _ k.1 (all_pass labelled b k.2))
labelled_form (RawStatement-F.Switch l e arms) k = arms_pass labelled_of_arm arms k
labelled_form (RawStatement-F.Block l b) k = all_pass labelled b k
labelled_form (RawStatement-F.Return l e) k = refl

labelled_arm_form : (y : RawArm-F RawStatement RawArm) → arm_step (standing_arm y) ≡ true → AllAre (Passes labelled) y.body → (has_label y.labels && are_labelled y.body) ≡ true
labelled_arm_form y h k = and_from _ _ (there_is_label y.labels (and_parts (is_there y.labels) _ h).0) (all_pass labelled y.body k)

body_labelled : (body : List RawStatement) → is_body body ≡ true → are_labelled body ≡ true
body_labelled body h = all_pass labelled body (body_gives (Passes labelled) (ArmPasses labelled_of_arm) (λ p. true) refl refl refl
    (λ y p m s k. fold-roll-RawStatement Bool Bool labelled_step labelled_arm y ∙ labelled_form y k)
    (λ y s k. fold-roll-RawArm Bool Bool labelled_step labelled_arm y ∙ labelled_arm_form y s k) refl body h)

-- ---- items

abbrev pub ItemLabelled : RawItem → Type 0
ItemLabelled (Include is_stdlib) = Unit {0}
ItemLabelled (Tag l tag) = Unit {0}
ItemLabelled (Struct l tag members) = Unit {0}
ItemLabelled (Global l v i is_static) = Unit {0}
ItemLabelled (Prototype l h) = Unit {0}
ItemLabelled (Define l h body) = are_labelled body ≡ true

-- each arm in each function of a text has a label
abbrev pub AreLabelled : List RawItem → Type 0
AreLabelled [] = Unit {0}
AreLabelled (x ∷ xs) = ItemLabelled x × AreLabelled xs

item_labelled : (x : RawItem) → is_item x ≡ true → ItemLabelled x
item_labelled (Include is_stdlib) h = tt
item_labelled (Tag l tag) h = tt
item_labelled (Struct l tag members) h = tt
item_labelled (Global l v i is_static) h = tt
item_labelled (Prototype l head) h = tt
item_labelled (Define l head body) h = body_labelled body (and_parts (are_named head.params) _ (and_parts (is_head head) _ h).1).1

items_labelled : (xs : List RawItem) → list_all is_item xs ≡ true → AreLabelled xs
items_labelled [] h = tt
items_labelled (x ∷ xs) h = let p = and_parts (is_item x) (list_all is_item xs) h in (item_labelled x p.0, items_labelled xs p.1)

pub program_labelled : (raw : RawProgram) → is_syntax raw ≡ true → AreLabelled raw.items
program_labelled raw h = items_labelled raw.items h
