-- In a tree that is syntax a length is left to a list only where a list of initialisers follows.
use Rattle.std.proofs.Common.{◌≡◌, ℕ, suc, ◌||◌, List, [], ◌∷◌, length, Bool, true, false, Some, None, refl, sym, ap, ◌∙◌, arith, inl, inr}
use Rattle.std.specs.Prelude.{nat_lt}
use Rattle.std.specs.List.{list_all}
use Rattle.std.proofs.lemmas.Bool.Decides.{nat_tests}
use Rattle.std.proofs.lemmas.Bool.{or_right, or_left, and_from, and_parts}
use Rattle.c_tree.specs.declared.raw.expr.RawExpr.{RawExpr}
use Rattle.c_tree.specs.declared.raw.expr.RawLength.TheVariants.{Written, Listed}
use Rattle.c_tree.specs.declared.raw.expr.RawType.{RawType, map-RawType, fold-roll-RawType}
use Rattle.c_tree.specs.declared.raw.expr.RawType.TheOpen.{RawType-F}
use Rattle.c_tree.specs.declared.raw.expr.RawVar.{RawVar}
use Rattle.c_tree.specs.declared.raw.program.RawInit.{RawInit}
use Rattle.c_tree.specs.declared.raw.program.RawInit.TheVariants as init
use Rattle.c_tree.specs.declared.raw.program.RawItem.{RawItem}
use Rattle.c_tree.specs.declared.raw.program.RawItem.TheVariants.{Include, Tag, Struct, Global, Prototype, Define}
use Rattle.c_tree.specs.declared.raw.program.RawProgram.{RawProgram}
use Rattle.c_tree.specs.declared.raw.statement.RawStatement.{RawStatement, map-RawStatement, fold-roll-RawStatement}
use Rattle.c_tree.specs.declared.raw.statement.RawStatement.TheOpen.{RawStatement-F}
use Rattle.c_tree.specs.declared.raw.statement.RawArm.{RawArm, fold-roll-RawArm}
use Rattle.c_tree.proofs.RawTrees.{TypeParts, type_layer, of_every_type}
use Rattle.c_language.specs.DeclaredTypes.{item_count}
use Rattle.c_language.specs.TypeGrammar.{written_step, is_written}
use Rattle.c_language.specs.ItemGrammar.{are_named}
use Rattle.c_language.specs.Spellings.{is_own_name}
use Rattle.c_language.specs.Syntax.{is_there, is_expr, Extent, starred, sized, listed, takes_stars, takes_lengths, takes_list, reaches_step, reaches, is_declared, is_begun, Position, takes_declaration, stands_step, is_body, is_head, is_item, is_syntax}
use Rattle.c_text_layout.specs.Declarations.{declares_step, arm_declares, declarations_pass, item_passes, items_pass}
use Rattle.c_text_layout.proofs.DeclarationLemmas.{arm_passes}
use Rattle.text_syntax.proofs.Folds.{standing, PartsAre, body_gives, Passes, ArmPasses, all_pass, arms_pass}
use Rattle.c_print_laws.proofs.Settling.{IsCounted}
use Rattle.c_print_laws.proofs.PhraseAgreement.{Fine}
use Rattle.c_language.proofs.Tests.{false_true}

-- ---- tests of declarations

-- no length is left to a list, or there is one with an item
abbrev pub is_counted : RawVar → RawInit → Bool
is_counted v i = is_written v.shape || nat_lt 0 (item_count i)

some_list : (b : Bool) (n : ℕ) → (b || nat_lt 0 n) ≡ true → IsCounted n b
some_list true n h = inl refl
some_list false n h = inr (grind (arith, nat_tests))

pub fine : Fine is_counted
fine v i h = some_list (is_written v.shape) (item_count i) h

-- ---- types

abbrev Unlisted : RawType → Type 0
Unlisted a = (x : Extent) → takes_list x ≡ false → reaches a x ≡ true → is_written a ≡ true

layer_written : (y : TypeParts Unlisted) (x : Extent) → takes_list x ≡ false → reaches_step (map-RawType RawType (Extent → Bool) reaches (type_layer Unlisted y)) x ≡ true
    → written_step (map-RawType RawType Bool is_written (type_layer Unlisted y)) ≡ true
layer_written (RawType-F.Integer t) x n h = refl
layer_written (RawType-F.Struct tag) x n h = refl
layer_written (RawType-F.PointerTo a) x n h = a.1 starred refl (and_parts (takes_stars x) (reaches a.0 starred) h).1
layer_written (RawType-F.Array a (Written e)) x n h = a.1 sized refl (and_parts (reaches a.0 sized) (is_expr e) (and_parts (takes_lengths x) _ h).1).0
layer_written (RawType-F.Array a Listed) x n h = false_true (sym n ∙ (and_parts (takes_list x) (reaches a.0 sized) h).0)

type_written : (a : RawType) → Unlisted a
type_written = of_every_type Unlisted (λ y x n h.
    fold-roll-RawType Bool written_step (type_layer Unlisted y) ∙ layer_written y x n (ap (λ (f : Extent → Bool). f x) (sym (fold-roll-RawType (Extent → Bool) reaches_step (type_layer Unlisted y))) ∙ h))

var_written : (v : RawVar) → is_declared v sized ≡ true → is_written v.shape ≡ true
var_written v h = type_written v.shape sized refl (and_parts (is_own_name v.name) (reaches v.shape sized) h).1

-- ---- declarations

some_there : (all : List RawExpr) → is_there all ≡ true → nat_lt 0 (length all) ≡ true
some_there [] h = false_true h
some_there (a ∷ all) h = some_cons (length all)
  where
    some_cons : (n : ℕ) → nat_lt 0 (suc n) ≡ true
    some_cons n = grind (arith, nat_tests)

begun_counts : (v : RawVar) (i : RawInit) → is_begun v i ≡ true → is_counted v i ≡ true
begun_counts v init.None h = or_left _ (nat_lt 0 0) (var_written v h)
begun_counts v (init.One a) h = or_left _ (nat_lt 0 0) (var_written v (and_parts (is_declared v sized) (is_expr a) h).0)
begun_counts v (init.Items all) h =
    or_right (is_written v.shape) (nat_lt 0 (length all)) (some_there all (and_parts (is_there all) (list_all is_expr all) (and_parts (is_declared v listed) _ h).1).0)

abbrev Counts : RawStatement → Type 0
Counts = Passes (declarations_pass is_counted)

abbrev CountArms : RawArm → Type 0
CountArms = ArmPasses (arm_passes is_counted)

form_counts : (y : RawStatement-F RawStatement RawArm) (p : Position) → stands_step (standing y) p ≡ true → PartsAre Counts CountArms y
    → declares_step is_counted (map-RawStatement RawStatement RawArm Bool Bool (declarations_pass is_counted) (arm_passes is_counted) y) ≡ true
form_counts (RawStatement-F.Declare l v i) p h k = begun_counts v i (and_parts (takes_declaration p) (is_begun v i) h).1
form_counts (RawStatement-F.Assign l a op b) p h k = refl
form_counts (RawStatement-F.Bump l a up before) p h k = refl
form_counts (RawStatement-F.Call l to f args) p h k = refl
form_counts (RawStatement-F.Heap l to cast n) p h k = refl
form_counts (RawStatement-F.If l e a b) p h k = and_from _ _ (all_pass (declarations_pass is_counted) a k.0) (all_pass (declarations_pass is_counted) b k.1)
form_counts (RawStatement-F.While l e b) p h k = all_pass (declarations_pass is_counted) b k
form_counts (RawStatement-F.Do l e b) p h k = all_pass (declarations_pass is_counted) b k
form_counts (RawStatement-F.For l None e None b) p h k = all_pass (declarations_pass is_counted) b k.2
form_counts (RawStatement-F.For l None e (Some x) b) p h k = and_from _ _ k.1 (all_pass (declarations_pass is_counted) b k.2)
form_counts (RawStatement-F.For l (Some i) e None b) p h k = and_from _ _ k.0 (all_pass (declarations_pass is_counted) b k.2)
form_counts (RawStatement-F.For l (Some i) e (Some x) b) p h k = and_from _ _ k.0 (and_from _ _ k.1 (all_pass (declarations_pass is_counted) b k.2))
form_counts (RawStatement-F.Switch l e arms) p h k = arms_pass (arm_passes is_counted) arms k
form_counts (RawStatement-F.Block l b) p h k = all_pass (declarations_pass is_counted) b k
form_counts (RawStatement-F.Return l e) p h k = refl

body_counts : (body : List RawStatement) → is_body body ≡ true → item_passes is_counted (Define 0 (record { name = []; result = None; params = []; is_static = false }) body) ≡ true
body_counts body h = all_pass (declarations_pass is_counted) body (body_gives Counts CountArms (λ p. true) refl refl refl
    (λ y p m s k. fold-roll-RawStatement Bool Bool (declares_step is_counted) arm_declares y ∙ form_counts y p s k)
    (λ y s k. fold-roll-RawArm Bool Bool (declares_step is_counted) arm_declares y ∙ all_pass (declarations_pass is_counted) y.body k) refl body h)

item_counts : (x : RawItem) → is_item x ≡ true → item_passes is_counted x ≡ true
item_counts (Include b) h = refl
item_counts (Tag l w) h = refl
item_counts (Struct l w members) h = refl
item_counts (Global l v i is_static) h = begun_counts v i h
item_counts (Prototype l head) h = refl
item_counts (Define l head body) h = body_counts body (and_parts (are_named head.params) _ (and_parts (is_head head) _ h).1).1

items_count : (xs : List RawItem) → list_all is_item xs ≡ true → items_pass is_counted xs ≡ true
items_count [] h = refl
items_count (x ∷ xs) h = let p = and_parts (is_item x) (list_all is_item xs) h in and_from _ _ (item_counts x p.0) (items_count xs p.1)

-- In a tree that is syntax a length is left to a list only where one with an item follows.
pub lists_counted : (raw : RawProgram) → is_syntax raw ≡ true → items_pass is_counted raw.items ≡ true
lists_counted raw h = items_count raw.items h
