-- The first part and the step of a for are statements of one line, in a tree that is syntax.
use Rattle.std.proofs.Common.{◌≡◌, ◌&&◌, List, [], ◌∷◌, map, Bool, true, false, Option, Some, None, refl, sym, ap, ◌∙◌}
use Rattle.std.specs.List.{list_all}
use Rattle.std.proofs.lemmas.Bool.{and_from, and_parts}
use Rattle.c_tree.specs.declared.raw.program.RawItem.{RawItem}
use Rattle.c_tree.specs.declared.raw.program.RawItem.TheVariants.{Include, Tag, Struct, Global, Prototype, Define}
use Rattle.c_tree.specs.declared.raw.program.RawProgram.{RawProgram}
use Rattle.c_tree.specs.declared.raw.statement.RawStatement.{RawStatement, map-RawStatement, fold-RawStatement, fold-roll-RawStatement}
use Rattle.c_tree.specs.declared.raw.statement.RawStatement.TheOpen.{RawStatement-F, RawArm-F}
use Rattle.c_tree.specs.declared.raw.statement.RawArm.{RawArm, fold-RawArm, fold-roll-RawArm}
use Rattle.c_tree.proofs.RawTrees.{statement_layer, of_every_statement}
use Rattle.c_language.specs.ItemGrammar.{are_named}
use Rattle.c_language.specs.Syntax.{is_expr, Position, first, step, takes_compound, takes_return, arm_step, stands_step, stands, is_body, is_head, is_item, is_syntax}
use Rattle.c_language.proofs.Tests.{false_true}
use Rattle.text_syntax.proofs.Folds.{standing, AllAre, ArmsAre, PartsAre, body_gives}

-- whether a statement has one line and no statement inside, and whether the parts of each for in it have
pub record Form : Type 0 where
  pub single : Bool
  pub tidy : Bool

abbrev pub one_line : Form
one_line = record { single = true; tidy = true }

abbrev pub many_lines : Bool → Form
many_lines b = record { single = false; tidy = b }

abbrev pub all_tidy : List Form → Bool
all_tidy = list_all (λ (f : Form). f.tidy)

abbrev pub is_single_part : Option Form → Bool
is_single_part None = true
is_single_part (Some f) = f.single && f.tidy

abbrev pub form_step : RawStatement-F Form Form → Form
form_step (RawStatement-F.Declare l v i) = one_line
form_step (RawStatement-F.Assign l a op b) = one_line
form_step (RawStatement-F.Bump l a up before) = one_line
form_step (RawStatement-F.Call l to f args) = one_line
form_step (RawStatement-F.Heap l to cast n) = one_line
form_step (RawStatement-F.If l e a b) = many_lines (all_tidy a && all_tidy b)
form_step (RawStatement-F.While l e b) = many_lines (all_tidy b)
form_step (RawStatement-F.Do l e b) = many_lines (all_tidy b)
form_step (RawStatement-F.For l i e k b) = many_lines (is_single_part i && (is_single_part k && all_tidy b))
form_step (RawStatement-F.Switch l e arms) = many_lines (all_tidy arms)
form_step (RawStatement-F.Block l b) = many_lines (all_tidy b)
form_step (RawStatement-F.Return l e) = many_lines true

abbrev pub form_arm : RawArm-F Form Form → Form
form_arm a = many_lines (all_tidy a.body)

abbrev pub form_of : RawStatement → Form
form_of = fold-RawStatement Form Form form_step form_arm

abbrev pub form_of_arm : RawArm → Form
form_of_arm = fold-RawArm Form Form form_step form_arm

abbrev pub are_tidy : List RawStatement → Bool
are_tidy all = all_tidy (map form_of all)

-- ---- statements

abbrev forms : RawStatement-F RawStatement RawArm → RawStatement-F Form Form
forms = map-RawStatement RawStatement RawArm Form Form form_of form_of_arm

-- what may stand as a part of a for is a statement of one line
one_line_form : (y : RawStatement-F RawStatement RawArm) (p : Position) → takes_compound p ≡ false → takes_return p ≡ false → stands_step (standing y) p ≡ true → (form_step (forms y)).single ≡ true
one_line_form (RawStatement-F.Declare l v i) p c r h = refl
one_line_form (RawStatement-F.Assign l a op b) p c r h = refl
one_line_form (RawStatement-F.Bump l a up before) p c r h = refl
one_line_form (RawStatement-F.Call l to f args) p c r h = refl
one_line_form (RawStatement-F.Heap l to cast n) p c r h = refl
one_line_form (RawStatement-F.If l e a b) p c r h = false_true (sym c ∙ (and_parts (takes_compound p) _ h).0)
one_line_form (RawStatement-F.While l e b) p c r h = false_true (sym c ∙ (and_parts (takes_compound p) _ h).0)
one_line_form (RawStatement-F.Do l e b) p c r h = false_true (sym c ∙ (and_parts (takes_compound p) _ h).0)
one_line_form (RawStatement-F.For l i e k b) p c r h = false_true (sym c ∙ (and_parts (takes_compound p) _ h).0)
one_line_form (RawStatement-F.Switch l e arms) p c r h = false_true (sym c ∙ (and_parts (takes_compound p) _ h).0)
one_line_form (RawStatement-F.Block l b) p c r h = false_true (sym c ∙ (and_parts (takes_compound p) _ h).0)
one_line_form (RawStatement-F.Return l e) p c r h = false_true (sym r ∙ (and_parts (takes_return p) _ h).0)

abbrev IsPart : RawStatement → Type 0
IsPart x = (p : Position) → takes_compound p ≡ false → takes_return p ≡ false → stands x p ≡ true → (form_of x).single ≡ true

part_single : (x : RawStatement) → IsPart x
part_single = of_every_statement IsPart (λ a. Unit {0})
    (λ y p c r h.
    let z = statement_layer IsPart (λ a. Unit {0}) y in
    ap (λ (f : Form). f.single) (fold-roll-RawStatement Form Form form_step form_arm z)
    ∙ one_line_form z p c r (ap (λ (f : Position → Bool). f p) (sym (fold-roll-RawStatement (Position → Bool) Bool stands_step arm_step z)) ∙ h))
    (λ y. tt)

abbrev Tidy : RawStatement → Type 0
Tidy x = (form_of x).tidy ≡ true

abbrev TidyArm : RawArm → Type 0
TidyArm a = (form_of_arm a).tidy ≡ true

tidy_list : (xs : List RawStatement) → AllAre Tidy xs → are_tidy xs ≡ true
tidy_list [] h = refl
tidy_list (x ∷ xs) h = and_from _ _ h.0 (tidy_list xs h.1)

tidy_arms : (arms : List RawArm) → ArmsAre TidyArm arms → all_tidy (map form_of_arm arms) ≡ true
tidy_arms [] h = refl
tidy_arms (a ∷ arms) h = and_from _ _ h.0 (tidy_arms arms h.1)

tidy_form : (y : RawStatement-F RawStatement RawArm) (p : Position) → stands_step (standing y) p ≡ true → PartsAre Tidy TidyArm y → (form_step (forms y)).tidy ≡ true
tidy_form (RawStatement-F.Declare l v i) p h k = refl
tidy_form (RawStatement-F.Assign l a op b) p h k = refl
tidy_form (RawStatement-F.Bump l a up before) p h k = refl
tidy_form (RawStatement-F.Call l to f args) p h k = refl
tidy_form (RawStatement-F.Heap l to cast n) p h k = refl
tidy_form (RawStatement-F.If l e a b) p h k = and_from _ _ (tidy_list a k.0) (tidy_list b k.1)
tidy_form (RawStatement-F.While l e b) p h k = tidy_list b k
tidy_form (RawStatement-F.Do l e b) p h k = tidy_list b k
tidy_form (RawStatement-F.For l None e None b) p h k = tidy_list b k.2
tidy_form (RawStatement-F.For l None e (Some x) b) p h k =
    let q = and_parts (stands x step) _ (and_parts (is_expr e) _ (and_parts (takes_compound p) _ h).1).1 in
    and_from _ _ (and_from _ _ (part_single x step refl refl q.0) k.1) (tidy_list b k.2)
tidy_form (RawStatement-F.For l (Some i) e None b) p h k =
    let q = and_parts (stands i first) _ (and_parts (takes_compound p) _ h).1 in
    and_from _ _ (and_from _ _ (part_single i first refl refl q.0) k.0) (tidy_list b k.2)
tidy_form (RawStatement-F.For l (Some i) e (Some x) b) p h k =
    let q = and_parts (stands i first) _ (and_parts (takes_compound p) _ h).1 in
    let r = and_parts (stands x step) _ (and_parts (is_expr e) _ q.1).1 in
    and_from _ _ (and_from _ _ (part_single i first refl refl q.0) k.0) (and_from _ _ (and_from _ _ (part_single x step refl refl r.0) k.1) (tidy_list b k.2))
tidy_form (RawStatement-F.Switch l e arms) p h k = tidy_arms arms k
tidy_form (RawStatement-F.Block l b) p h k = tidy_list b k
tidy_form (RawStatement-F.Return l e) p h k = refl

body_tidy : (body : List RawStatement) → is_body body ≡ true → are_tidy body ≡ true
body_tidy body h = tidy_list body (body_gives Tidy TidyArm (λ p. true) refl refl refl
    (λ y p m s k. ap (λ (f : Form). f.tidy) (fold-roll-RawStatement Form Form form_step form_arm y) ∙ tidy_form y p s k)
    (λ y s k. ap (λ (f : Form). f.tidy) (fold-roll-RawArm Form Form form_step form_arm y) ∙ tidy_list y.body k) refl body h)

-- ---- items

abbrev pub ItemTidy : RawItem → Type 0
ItemTidy (Include is_stdlib) = Unit {0}
ItemTidy (Tag l tag) = Unit {0}
ItemTidy (Struct l tag members) = Unit {0}
ItemTidy (Global l v i is_static) = Unit {0}
ItemTidy (Prototype l h) = Unit {0}
ItemTidy (Define l h body) = are_tidy body ≡ true

abbrev pub AreTidy : List RawItem → Type 0
AreTidy [] = Unit {0}
AreTidy (x ∷ xs) = ItemTidy x × AreTidy xs

item_tidy : (x : RawItem) → is_item x ≡ true → ItemTidy x
item_tidy (Include is_stdlib) h = tt
item_tidy (Tag l tag) h = tt
item_tidy (Struct l tag members) h = tt
item_tidy (Global l v i is_static) h = tt
item_tidy (Prototype l head) h = tt
item_tidy (Define l head body) h = body_tidy body (and_parts (are_named head.params) _ (and_parts (is_head head) _ h).1).1

items_tidy : (xs : List RawItem) → list_all is_item xs ≡ true → AreTidy xs
items_tidy [] h = tt
items_tidy (x ∷ xs) h = let p = and_parts (is_item x) (list_all is_item xs) h in (item_tidy x p.0, items_tidy xs p.1)

pub program_tidy : (raw : RawProgram) → is_syntax raw ≡ true → AreTidy raw.items
program_tidy raw h = items_tidy raw.items h
