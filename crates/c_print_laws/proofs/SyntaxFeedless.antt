-- No text of a tree that is syntax holds a line feed: each is spelled as a name, a constant or a string.
use Rattle.std.proofs.Common.{◌≡◌, ℕ, ◌+◌, List, [], ◌∷◌, Bool, true, false, ◌&&◌, not, Option, Some, None, refl, sym, ap, ◌∙◌}
use Rattle.std.specs.Prelude.{◌==◌, nat_le, is_some}
use Rattle.std.specs.List.{list_all}
use Rattle.std.specs.Option.{option_map_or}
use Rattle.std.proofs.lemmas.Bool.{and_from, and_parts}
use Rattle.c_tree.specs.declared.raw.expr.RawExpr.{RawExpr, map-RawExpr, fold-roll-RawExpr}
use Rattle.c_tree.specs.declared.raw.expr.RawExpr.TheOpen.{RawExpr-F}
use Rattle.c_tree.specs.declared.raw.expr.RawLength.TheVariants.{Written, Listed}
use Rattle.c_tree.specs.declared.raw.expr.RawType.{RawType, map-RawType, fold-roll-RawType}
use Rattle.c_tree.specs.declared.raw.expr.RawType.TheOpen.{RawType-F}
use Rattle.c_tree.specs.declared.raw.expr.RawVar.{RawVar}
use Rattle.c_tree.specs.declared.raw.program.RawInit.{RawInit}
use Rattle.c_tree.specs.declared.raw.program.RawInit.TheVariants as init
use Rattle.c_tree.specs.declared.raw.program.RawMember.{RawMember}
use Rattle.c_tree.specs.declared.raw.program.RawParam.{RawParam}
use Rattle.c_tree.specs.declared.raw.program.RawHead.{RawHead}
use Rattle.c_tree.specs.declared.raw.program.RawItem.{RawItem}
use Rattle.c_tree.specs.declared.raw.program.RawItem.TheVariants.{Include, Tag, Struct, Global, Prototype, Define}
use Rattle.c_tree.specs.declared.raw.program.RawProgram.{RawProgram}
use Rattle.c_tree.specs.declared.raw.statement.RawTarget.{RawTarget}
use Rattle.c_tree.specs.declared.raw.statement.RawTarget.TheVariants as target
use Rattle.c_tree.specs.declared.raw.statement.RawArg.{RawArg}
use Rattle.c_tree.specs.declared.raw.statement.RawArg.TheVariants.{Value, Literal}
use Rattle.c_tree.specs.declared.raw.statement.RawTypeName.{RawTypeName}
use Rattle.c_tree.specs.declared.raw.statement.RawSize.{RawSize}
use Rattle.c_tree.specs.declared.raw.statement.RawSize.TheVariants as size
use Rattle.c_tree.specs.declared.raw.statement.RawAmount.{RawAmount}
use Rattle.c_tree.specs.declared.raw.statement.RawAmount.TheVariants as amount
use Rattle.c_tree.specs.declared.raw.statement.RawLabel.{RawLabel}
use Rattle.c_tree.specs.declared.raw.statement.RawLabel.TheVariants.{Case, Default}
use Rattle.c_tree.specs.declared.raw.statement.RawStatement.{RawStatement, roll-RawStatement}
use Rattle.c_tree.specs.declared.raw.statement.RawStatement.TheOpen.{RawStatement-F, RawArm-F}
use Rattle.c_tree.specs.declared.raw.statement.RawArm.{RawArm, roll-RawArm, fold-roll-RawArm}
use Rattle.c_tree.proofs.RawTrees.{ExprParts, expr_layer, of_every_expr, TypeParts, type_layer, of_every_type}
use Rattle.c_language.specs.Words.{Bytes}
use Rattle.c_language.specs.Characters.{is_digit, is_letter}
use Rattle.c_language.specs.Constants.{constant_type, is_escape}
use Rattle.c_language.specs.Sees.{is_keyword}
use Rattle.c_language.specs.Tokens.{is_feed, is_plain, name_goes_on, number_goes_on}
use Rattle.c_language.specs.Spellings.{runs_on, is_name, is_number, ends_character, is_character, is_none_left, begins_with_digit, ends_string, has_trigraph, is_string, is_constant, is_own_name, is_used_name}
use Rattle.c_language.specs.ExprGrammar.{binary_level, conditional_level, level, multiplicative_level, cast_level, unary_level, postfix_level, is_place, is_plain_name}
use Rattle.c_language.specs.TypeGrammar.{has_star}
use Rattle.c_language.specs.StatementGrammar.{is_callee, assigns_by}
use Rattle.c_language.specs.ItemGrammar.{are_named}
use Rattle.c_language.specs.Syntax.{is_there, binds_step, binds, is_expr, is_assigned, Extent, bare, starred, sized, listed, takes_stars, takes_lengths, takes_list, reaches_step, reaches, is_struct, is_declared, is_type_name, is_begun, is_arg, are_args, is_size, is_amount, is_heap, is_stored, Position, first, takes_declaration, takes_compound, takes_return, is_target, is_label, bumped_level, arm_step, stands_step, stands, is_body, is_member, is_param, is_result, is_head, is_item, is_syntax}
use Rattle.c_language.specs.declared.operators.Infix.TheVariants.{AndAlso, OrElse}
use Rattle.c_language.proofs.Tests.{by_or}
use Rattle.c_print.specs.Feedless.{feedless}
use Rattle.c_text_layout.proofs.TokenPrint.{other_class}
use Rattle.text_syntax.proofs.Folds.{standing, standing_arm, AllAre, PartsAre, body_gives, Passes, ArmPasses, all_pass, arms_pass}
use Rattle.c_print_laws.proofs.RawFeedless.{raw_expr_step, raw_expr_feedless, raw_type_step, raw_type_feedless, raw_var_feedless, raw_init_feedless, raw_target_feedless, raw_arg_feedless, raw_name_feedless, raw_size_feedless, raw_amount_feedless, raw_label_feedless, raw_statement_step, raw_arm_step, raw_statement_feedless, raw_arm_feedless, raw_body_feedless, raw_member_feedless, raw_param_feedless, raw_head_feedless, raw_item_feedless, raw_items_feedless, statement_by}

-- ---- spellings

-- a byte of a class without the line feed
no_feed : (class : ℕ → Bool) (b : ℕ) → class b ≡ true → class 10 ≡ false → not (is_feed b) ≡ true
no_feed class b h k = ap not (other_class class b 10 h k)

run_feedless : (goes_on : ℕ → ℕ → Bool) → ((c : ℕ) → goes_on c 10 ≡ false) → (b : ℕ) (run : Bytes) → runs_on goes_on b run ≡ true → feedless run ≡ true
run_feedless goes_on k b [] h = refl
run_feedless goes_on k b (c ∷ run) h = let p = and_parts (goes_on b c) (runs_on goes_on c run) h in and_from _ _ (no_feed (goes_on b) c p.0 (k b)) (run_feedless goes_on k c run p.1)

name_feedless : (w : Bytes) → is_name w ≡ true → feedless w ≡ true
name_feedless [] h = refl
name_feedless (b ∷ run) h = let p = and_parts (is_letter b) (runs_on name_goes_on b run) h in and_from _ _ (no_feed is_letter b p.0 refl) (run_feedless name_goes_on (λ c. refl) b run p.1)

number_feedless : (w : Bytes) → is_number w ≡ true → feedless w ≡ true
number_feedless [] h = refl
number_feedless (b ∷ run) h =
    let p = and_parts (is_digit b) (runs_on number_goes_on b run && is_some (constant_type (b ∷ run))) h in
    and_from _ _ (no_feed is_digit b p.0 refl) (run_feedless number_goes_on (λ c. refl) b run (and_parts (runs_on number_goes_on b run) _ p.1).0)

abbrev is_quote : ℕ → Bool
is_quote b = b == 39

abbrev is_double_quote : ℕ → Bool
is_double_quote b = b == 34

abbrev is_backslash : ℕ → Bool
is_backslash b = b == 92

ends_feedless : (bytes : Bytes) → ends_character bytes ≡ true → feedless bytes ≡ true
ends_feedless [] h = refl
ends_feedless (b ∷ []) h = absurd cc
ends_feedless (b ∷ (c ∷ [])) h = let p = and_parts (is_plain 39 b) (c == 39) h in and_from _ _ (no_feed (is_plain 39) b p.0 refl) (and_from _ _ (no_feed is_quote c p.1 refl) refl)
ends_feedless (b ∷ (c ∷ (d ∷ []))) h =
    let p = and_parts (b == 92) (is_escape c && (d == 39)) h in
    let q = and_parts (is_escape c) (d == 39) p.1 in
    and_from _ _ (no_feed is_backslash b p.0 refl) (and_from _ _ (no_feed is_escape c q.0 refl) (and_from _ _ (no_feed is_quote d q.1 refl) refl))
ends_feedless (b ∷ (c ∷ (d ∷ (e ∷ rest)))) h = absurd cc

character_feedless : (w : Bytes) → is_character w ≡ true → feedless w ≡ true
character_feedless [] h = refl
character_feedless (b ∷ rest) h = let p = and_parts (b == 39) (ends_character rest) h in and_from _ _ (no_feed is_quote b p.0 refl) (ends_feedless rest p.1)

none_left : (bytes : Bytes) → is_none_left bytes ≡ true → feedless bytes ≡ true
none_left [] h = refl
none_left (b ∷ rest) h = absurd cc

literal_feedless : (behind : Bool) (bytes : Bytes) → ends_string behind bytes ≡ true → feedless bytes ≡ true
literal_feedless behind [] h = refl
literal_feedless true (b ∷ rest) h =
    let p = and_parts (is_escape b) _ h in
    and_from _ _ (no_feed is_escape b p.0 refl) (literal_feedless false rest (and_parts (not ((b == 48) && begins_with_digit rest)) (ends_string false rest) p.1).1)
literal_feedless false (b ∷ rest) h =
    by_or ((b == 34) && is_none_left rest) _ h
    (λ q. let p = and_parts (b == 34) (is_none_left rest) q in and_from _ _ (no_feed is_double_quote b p.0 refl) (none_left rest p.1))
    (λ k. by_or ((b == 92) && ends_string true rest) _ k
    (λ q. let p = and_parts (b == 92) (ends_string true rest) q in and_from _ _ (no_feed is_backslash b p.0 refl) (literal_feedless true rest p.1))
    (λ q. let p = and_parts (is_plain 34 b) (ends_string false rest) q in and_from _ _ (no_feed (is_plain 34) b p.0 refl) (literal_feedless false rest p.1)))

string_feedless : (w : Bytes) → is_string w ≡ true → feedless w ≡ true
string_feedless [] h = refl
string_feedless (b ∷ rest) h =
    let p = and_parts (b == 34) (ends_string false rest && not (has_trigraph rest)) h in
    and_from _ _ (no_feed is_double_quote b p.0 refl) (literal_feedless false rest (and_parts (ends_string false rest) _ p.1).0)

constant_feedless : (w : Bytes) → is_constant w ≡ true → feedless w ≡ true
constant_feedless w h = by_or (is_number w) (is_character w) h (number_feedless w) (character_feedless w)

own_feedless : (w : Bytes) → is_own_name w ≡ true → feedless w ≡ true
own_feedless w h = name_feedless w (and_parts (is_name w) (not (is_keyword w)) h).0

used_feedless : (w : Bytes) → is_used_name w ≡ true → feedless w ≡ true
used_feedless w h = name_feedless w (and_parts (is_name w) (is_plain_name w) h).0

-- ---- expressions

abbrev Bound : RawExpr → Type 0
Bound a = (n : ℕ) → binds a n ≡ true → raw_expr_feedless a ≡ true

abbrev layer : ExprParts Bound → RawExpr-F RawExpr
layer = expr_layer Bound

abbrev tests : RawExpr-F RawExpr → RawExpr-F (ℕ → Bool)
tests = map-RawExpr RawExpr (ℕ → Bool) binds

-- an operand behind the test of how tightly its form binds
one_operand : (n m k : ℕ) (a : RawExpr) → Bound a → (nat_le n m && binds a k) ≡ true → raw_expr_feedless a ≡ true
one_operand n m k a f h = f k (and_parts (nat_le n m) (binds a k) h).1

two_operands : (n m i j : ℕ) (a b : RawExpr) → Bound a → Bound b → (nat_le n m && (binds a i && binds b j)) ≡ true → (raw_expr_feedless a && raw_expr_feedless b) ≡ true
two_operands n m i j a b f g h = let p = and_parts (binds a i) (binds b j) (and_parts (nat_le n m) _ h).1 in and_from _ _ (f i p.0) (g j p.1)

selection : (n m k : ℕ) (a : RawExpr) (w : Bytes) → Bound a → (nat_le n m && (binds a k && is_used_name w)) ≡ true → (raw_expr_feedless a && feedless w) ≡ true
selection n m k a w f h = let p = and_parts (binds a k) (is_used_name w) (and_parts (nat_le n m) _ h).1 in and_from _ _ (f k p.0) (used_feedless w p.1)

layer_feedless : (y : ExprParts Bound) (n : ℕ) → binds_step (tests (layer y)) n ≡ true → raw_expr_step (map-RawExpr RawExpr Bool raw_expr_feedless (layer y)) ≡ true
layer_feedless (RawExpr-F.Constant text) n h = constant_feedless text h
layer_feedless RawExpr-F.Null n h = refl
layer_feedless RawExpr-F.Eof n h = refl
layer_feedless (RawExpr-F.Variable name) n h = used_feedless name h
layer_feedless (RawExpr-F.Unary op a) n h = one_operand n unary_level cast_level a.0 a.1 h
layer_feedless (RawExpr-F.Deref a) n h = one_operand n unary_level cast_level a.0 a.1 h
layer_feedless (RawExpr-F.AddressOf a) n h = one_operand n unary_level cast_level a.0 a.1 h
layer_feedless (RawExpr-F.Binary op a b) n h = two_operands n (binary_level op) (binary_level op) (binary_level op + 1) a.0 b.0 a.1 b.1 h
layer_feedless (RawExpr-F.AndAlso a b) n h = two_operands n (level AndAlso) (level AndAlso) (level AndAlso + 1) a.0 b.0 a.1 b.1 h
layer_feedless (RawExpr-F.OrElse a b) n h = two_operands n (level OrElse) (level OrElse) (level OrElse + 1) a.0 b.0 a.1 b.1 h
layer_feedless (RawExpr-F.Choose c a b) n h =
    let p = and_parts (binds c.0 (conditional_level + 1)) _ (and_parts (nat_le n conditional_level) _ h).1 in
    let q = and_parts (binds a.0 conditional_level) (binds b.0 conditional_level) p.1 in
    and_from _ _ (c.1 (conditional_level + 1) p.0) (and_from _ _ (a.1 conditional_level q.0) (b.1 conditional_level q.1))
layer_feedless (RawExpr-F.Cast t a) n h = one_operand n cast_level cast_level a.0 a.1 h
layer_feedless (RawExpr-F.Index a i) n h = two_operands n postfix_level postfix_level conditional_level a.0 i.0 a.1 i.1 h
layer_feedless (RawExpr-F.Member a m) n h = selection n postfix_level postfix_level a.0 m a.1 h
layer_feedless (RawExpr-F.Arrow a m) n h = selection n postfix_level postfix_level a.0 m a.1 h
layer_feedless (RawExpr-F.Paren a) n h = a.1 conditional_level h

bound_feedless : (a : RawExpr) → Bound a
bound_feedless = of_every_expr Bound (λ y n h.
    fold-roll-RawExpr Bool raw_expr_step (layer y) ∙ layer_feedless y n (ap (λ (f : ℕ → Bool). f n) (sym (fold-roll-RawExpr (ℕ → Bool) binds_step (layer y))) ∙ h))

expr_given : (a : RawExpr) → is_expr a ≡ true → raw_expr_feedless a ≡ true
expr_given a h = bound_feedless a conditional_level h

exprs_given : (all : List RawExpr) → list_all is_expr all ≡ true → list_all raw_expr_feedless all ≡ true
exprs_given [] h = refl
exprs_given (a ∷ all) h = let p = and_parts (is_expr a) (list_all is_expr all) h in and_from _ _ (expr_given a p.0) (exprs_given all p.1)

placed_given : (a : RawExpr) → is_assigned a ≡ true → raw_expr_feedless a ≡ true
placed_given a h = expr_given a (and_parts (is_place a) (is_expr a) h).1

optional_given : (a : Option RawExpr) → option_map_or is_expr a true ≡ true → option_map_or raw_expr_feedless a true ≡ true
optional_given None h = refl
optional_given (Some a) h = expr_given a h

-- ---- types

abbrev Reached : RawType → Type 0
Reached a = (x : Extent) → reaches a x ≡ true → raw_type_feedless a ≡ true

abbrev layer_of_type : TypeParts Reached → RawType-F RawType
layer_of_type = type_layer Reached

type_layer_feedless : (y : TypeParts Reached) (x : Extent) → reaches_step (map-RawType RawType (Extent → Bool) reaches (layer_of_type y)) x ≡ true → raw_type_step (map-RawType RawType Bool raw_type_feedless (layer_of_type y)) ≡ true
type_layer_feedless (RawType-F.Integer t) x h = refl
type_layer_feedless (RawType-F.Struct tag) x h = refl
type_layer_feedless (RawType-F.PointerTo a) x h = a.1 starred (and_parts (takes_stars x) (reaches a.0 starred) h).1
type_layer_feedless (RawType-F.Array a (Written n)) x h =
    let p = and_parts (reaches a.0 sized) (is_expr n) (and_parts (takes_lengths x) _ h).1 in
    and_from _ _ (a.1 sized p.0) (expr_given n p.1)
type_layer_feedless (RawType-F.Array a Listed) x h = and_from _ _ (a.1 sized (and_parts (takes_list x) (reaches a.0 sized) h).1) refl

type_given : (a : RawType) → Reached a
type_given = of_every_type Reached (λ y x h.
    fold-roll-RawType Bool raw_type_step (layer_of_type y) ∙ type_layer_feedless y x (ap (λ (f : Extent → Bool). f x) (sym (fold-roll-RawType (Extent → Bool) reaches_step (layer_of_type y))) ∙ h))

var_given : (v : RawVar) (x : Extent) → is_declared v x ≡ true → raw_var_feedless v ≡ true
var_given v x h = let p = and_parts (is_own_name v.name) (reaches v.shape x) h in and_from _ _ (own_feedless v.name p.0) (type_given v.shape x p.1)

begun_given : (v : RawVar) (i : RawInit) → is_begun v i ≡ true → (raw_var_feedless v && raw_init_feedless i) ≡ true
begun_given v init.None h = and_from _ _ (var_given v sized h) refl
begun_given v (init.One a) h = let p = and_parts (is_declared v sized) (is_expr a) h in and_from _ _ (var_given v sized p.0) (expr_given a p.1)
begun_given v (init.Items all) h =
    let p = and_parts (is_declared v listed) (is_there all && list_all is_expr all) h in
    and_from _ _ (var_given v listed p.0) (exprs_given all (and_parts (is_there all) _ p.1).1)

-- ---- calls and allocations

target_given : (p : Position) (to : RawTarget) → is_target p to ≡ true → raw_target_feedless to ≡ true
target_given p target.None h = refl
target_given p (target.Place a) h = placed_given a h
target_given p (target.Declared v) h = var_given v sized (and_parts (takes_declaration p) _ h).1

arg_given : (b : Bool) (a : RawArg) → is_arg b a ≡ true → raw_arg_feedless a ≡ true
arg_given b (Value a) h = expr_given a h
arg_given b (Literal text) h = string_feedless text (and_parts b (is_string text) h).1

later_given : (args : List RawArg) → list_all (is_arg false) args ≡ true → list_all raw_arg_feedless args ≡ true
later_given [] h = refl
later_given (a ∷ args) h = let p = and_parts (is_arg false a) (list_all (is_arg false) args) h in and_from _ _ (arg_given false a p.0) (later_given args p.1)

args_given : (f : Bytes) (args : List RawArg) → are_args f args ≡ true → list_all raw_arg_feedless args ≡ true
args_given f [] h = refl
args_given f (a ∷ args) h = let p = and_parts _ (list_all (is_arg false) args) h in and_from _ _ (arg_given _ a p.0) (later_given args p.1)

size_given : (z : RawSize) → is_size z ≡ true → raw_size_feedless z ≡ true
size_given (size.Type t) h = type_given t.base bare h
size_given (size.Pointee w closed) h = refl

amount_given : (n : RawAmount) → is_amount n ≡ true → raw_amount_feedless n ≡ true
amount_given (amount.Size z) h = size_given z h
amount_given (amount.CountSize a z) h = let p = and_parts (binds a multiplicative_level) (is_size z) h in and_from _ _ (bound_feedless a multiplicative_level p.0) (size_given z p.1)
amount_given (amount.SizeCount z a) h = let p = and_parts (is_size z) (binds a cast_level) h in and_from _ _ (size_given z p.0) (bound_feedless a cast_level p.1)
amount_given (amount.Count a) h = expr_given a h

heap_given : (t : Option RawTypeName) (n : RawAmount) → is_heap t n ≡ true → (option_map_or raw_name_feedless t true && raw_amount_feedless n) ≡ true
heap_given None n h = amount_given n h
heap_given (Some t) n h =
    let p = and_parts (is_type_name t && has_star t) (is_amount n) h in
    and_from _ _ (type_given t.base bare (and_parts (is_type_name t) (has_star t) p.0).0) (amount_given n p.1)

-- ---- statements

label_given : (l : RawLabel) → is_label l ≡ true → raw_label_feedless l ≡ true
label_given (Case a) h = expr_given a h
label_given Default h = refl

labels_given : (ls : List RawLabel) → list_all is_label ls ≡ true → list_all raw_label_feedless ls ≡ true
labels_given [] h = refl
labels_given (l ∷ ls) h = let p = and_parts (is_label l) (list_all is_label ls) h in and_from _ _ (label_given l p.0) (labels_given ls p.1)

abbrev Clean : RawStatement → Type 0
Clean = Passes raw_statement_feedless

abbrev CleanArm : RawArm → Type 0
CleanArm = ArmPasses raw_arm_feedless

-- the test of a form that has parts, behind the test of where it may stand
tested : (p : Position) (a : RawExpr) (b : Bool) → (takes_compound p && (is_expr a && b)) ≡ true → raw_expr_feedless a ≡ true
tested p a b h = expr_given a (and_parts (is_expr a) b (and_parts (takes_compound p) _ h).1).0

statement_layer_given : (y : RawStatement-F RawStatement RawArm) (p : Position) → true ≡ true → stands_step (standing y) p ≡ true → PartsAre Clean CleanArm y → raw_statement_feedless (roll-RawStatement y) ≡ true
statement_layer_given (RawStatement-F.Declare l v i) p m h k = statement_by (RawStatement-F.Declare l v i) refl (begun_given v i (and_parts (takes_declaration p) (is_begun v i) h).1)
statement_layer_given (RawStatement-F.Assign l a op b) p m h k =
    let q = and_parts (is_assigned a) (assigns_by op && is_expr b) h in
    statement_by (RawStatement-F.Assign l a op b) refl (and_from _ _ (placed_given a q.0) (expr_given b (and_parts (assigns_by op) (is_expr b) q.1).1))
statement_layer_given (RawStatement-F.Bump l a up before) p m h k = statement_by (RawStatement-F.Bump l a up before) refl (bound_feedless a (bumped_level before) (and_parts (is_place a) _ h).1)
statement_layer_given (RawStatement-F.Call l to f args) p m h k =
    let q = and_parts (is_target p to) _ h in
    statement_by (RawStatement-F.Call l to f args) refl (and_from _ _ (target_given p to q.0) (args_given f args (and_parts (is_callee f) _ (and_parts (is_name f) _ q.1).1).1))
statement_layer_given (RawStatement-F.Heap l to cast n) p m h k =
    let q = and_parts (is_target p to) _ h in
    statement_by (RawStatement-F.Heap l to cast n) refl (and_from _ _ (target_given p to q.0) (heap_given cast n (and_parts (is_stored to) _ q.1).1))
statement_layer_given (RawStatement-F.If l a b c) p m h k =
    statement_by (RawStatement-F.If l a b c) refl (and_from _ _ (tested p a _ h) (and_from _ _ (all_pass raw_statement_feedless b k.0) (all_pass raw_statement_feedless c k.1)))
statement_layer_given (RawStatement-F.While l a b) p m h k = statement_by (RawStatement-F.While l a b) refl (and_from _ _ (tested p a _ h) (all_pass raw_statement_feedless b k))
statement_layer_given (RawStatement-F.Do l a b) p m h k = statement_by (RawStatement-F.Do l a b) refl (and_from _ _ (tested p a _ h) (all_pass raw_statement_feedless b k))
statement_layer_given (RawStatement-F.For l None a None b) p m h k = statement_by (RawStatement-F.For l None a None b) refl (and_from _ _ (tested p a _ h) (all_pass raw_statement_feedless b k.2))
statement_layer_given (RawStatement-F.For l None a (Some x) b) p m h k =
    statement_by (RawStatement-F.For l None a (Some x) b) refl (and_from _ _ (tested p a _ h) (and_from _ _ k.1 (all_pass raw_statement_feedless b k.2)))
statement_layer_given (RawStatement-F.For l (Some i) a None b) p m h k =
    let q = and_parts (stands i first) _ (and_parts (takes_compound p) _ h).1 in
    statement_by (RawStatement-F.For l (Some i) a None b) refl (and_from _ _ k.0 (and_from _ _ (expr_given a (and_parts (is_expr a) _ q.1).0) (all_pass raw_statement_feedless b k.2)))
statement_layer_given (RawStatement-F.For l (Some i) a (Some x) b) p m h k =
    let q = and_parts (stands i first) _ (and_parts (takes_compound p) _ h).1 in
    statement_by (RawStatement-F.For l (Some i) a (Some x) b) refl (and_from _ _ k.0 (and_from _ _ (expr_given a (and_parts (is_expr a) _ q.1).0) (and_from _ _ k.1 (all_pass raw_statement_feedless b k.2))))
statement_layer_given (RawStatement-F.Switch l a arms) p m h k = statement_by (RawStatement-F.Switch l a arms) refl (and_from _ _ (tested p a _ h) (arms_pass raw_arm_feedless arms k))
statement_layer_given (RawStatement-F.Block l b) p m h k = statement_by (RawStatement-F.Block l b) refl (all_pass raw_statement_feedless b k)
statement_layer_given (RawStatement-F.Return l a) p m h k = statement_by (RawStatement-F.Return l a) refl (optional_given a (and_parts (takes_return p) _ h).1)

arm_layer_given : (y : RawArm-F RawStatement RawArm) → arm_step (standing_arm y) ≡ true → AllAre Clean y.body → raw_arm_feedless (roll-RawArm y) ≡ true
arm_layer_given y h k =
    fold-roll-RawArm Bool Bool raw_statement_step raw_arm_step y
    ∙ and_from _ _ (labels_given y.labels (and_parts (list_all is_label y.labels) _ (and_parts (is_there y.labels) _ h).1).0) (all_pass raw_statement_feedless y.body k)

body_given : (body : List RawStatement) → is_body body ≡ true → raw_body_feedless body ≡ true
body_given body h = all_pass raw_statement_feedless body (body_gives Clean CleanArm (λ p. true) refl refl refl statement_layer_given arm_layer_given refl body h)

-- ---- items

members_given : (ms : List RawMember) → list_all is_member ms ≡ true → list_all raw_member_feedless ms ≡ true
members_given [] h = refl
members_given (m ∷ ms) h =
    let p = and_parts (is_member m) (list_all is_member ms) h in
    let q = and_parts (is_own_name m.name) (reaches m.shape sized) p.0 in
    and_from _ _ (and_from _ _ (own_feedless m.name q.0) (type_given m.shape sized q.1)) (members_given ms p.1)

called_given : (w : Option Bytes) → option_map_or is_own_name w true ≡ true → option_map_or feedless w true ≡ true
called_given None h = refl
called_given (Some w) h = own_feedless w h

params_given : (ps : List RawParam) → list_all is_param ps ≡ true → list_all raw_param_feedless ps ≡ true
params_given [] h = refl
params_given (q ∷ ps) h =
    let p = and_parts (is_param q) (list_all is_param ps) h in
    let r = and_parts (option_map_or is_own_name q.name true) _ (and_parts (option_map_or is_own_name q.name true && (reaches q.shape starred && not (is_struct q.shape))) _ p.0).0 in
    and_from _ _ (and_from _ _ (called_given q.name r.0) (type_given q.shape starred (and_parts (reaches q.shape starred) _ r.1).0)) (params_given ps p.1)

result_given : (t : Option RawType) → option_map_or is_result t true ≡ true → option_map_or raw_type_feedless t true ≡ true
result_given None h = refl
result_given (Some t) h = type_given t starred (and_parts (reaches t starred) _ h).0

head_given : (h : RawHead) → is_head h ≡ true → raw_head_feedless h ≡ true
head_given h k =
    let p = and_parts (is_own_name h.name) _ k in
    let q = and_parts (option_map_or is_result h.result true) (list_all is_param h.params) p.1 in
    and_from _ _ (own_feedless h.name p.0) (and_from _ _ (result_given h.result q.0) (params_given h.params q.1))

item_given : (x : RawItem) → is_item x ≡ true → raw_item_feedless x ≡ true
item_given (Include is_stdlib) h = refl
item_given (Tag l w) h = refl
item_given (Struct l w members) h = let p = and_parts (is_own_name w) _ h in and_from _ _ (own_feedless w p.0) (members_given members (and_parts (is_there members) _ p.1).1)
item_given (Global l v i is_static) h = begun_given v i h
item_given (Prototype l h) k = head_given h k
item_given (Define l h body) k = let p = and_parts (is_head h) _ k in and_from _ _ (head_given h p.0) (body_given body (and_parts (are_named h.params) _ p.1).1)

items_given : (xs : List RawItem) → list_all is_item xs ≡ true → raw_items_feedless xs ≡ true
items_given [] h = refl
items_given (x ∷ xs) h = let p = and_parts (is_item x) (list_all is_item xs) h in and_from _ _ (item_given x p.0) (items_given xs p.1)

-- no text of a tree that is syntax holds a line feed
pub syntax_feedless : (raw : RawProgram) → is_syntax raw ≡ true → raw_items_feedless raw.items ≡ true
syntax_feedless raw h = items_given raw.items h
