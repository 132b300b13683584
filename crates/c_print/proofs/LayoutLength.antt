-- Each line of a layout has at least two bytes.
use Rattle.std.proofs.Common.{◌≡◌, ℕ, suc, ◌+◌, ◌*◌, ◌≤◌, ◌==◌, Bool, List, [], ◌∷◌, ◌++◌, length, length-append, map, slice_get, codes, true, false, Option, Some, None, refl, sym, ap, subst, arith}
use Rattle.std.proofs.lemmas.Bool.{ne_eqb}
use Rattle.std.specs.Option.{option_map_or}
use Rattle.c_tree.specs.declared.program.Program.{Program}
use Rattle.c_tree.specs.declared.program.Member.{Member}
use Rattle.c_tree.specs.declared.program.StructDef.{StructDef}
use Rattle.c_tree.specs.declared.program.Function.{Function}
use Rattle.c_tree.specs.declared.program.Item.{Item}
use Rattle.c_tree.specs.declared.program.Item.TheVariants.{Include, Tag, Struct, Global, Prototype, Define}
use Rattle.c_tree.specs.declared.statement.Label.{Label}
use Rattle.c_tree.specs.declared.statement.Label.TheVariants as label
use Rattle.c_tree.specs.declared.statement.Statement.{Statement, ind-Statement, roll-Statement, map-Statement}
use Rattle.c_tree.specs.declared.statement.Statement.TheOpen.{Statement-F}
use Rattle.c_tree.specs.declared.statement.Statement.TheVariants as s
use Rattle.c_tree.specs.declared.statement.Arm.{Arm, roll-Arm}
use Rattle.c_language.specs.Words.{Bytes, declared, expr_words, name_of_struct}
use Rattle.c_language.specs.Layout.{indent, line, label_words, statement_words, label_lines, else_lines, arms_lines, laid, statement_lines, body_lines, member_lines, struct_lines, function_lines, head_words, named_params, item_lines, items_lines, include_words, global_words, init_words, var_words, layout, arm_laid}
use Rattle.c_print.specs.Lines.{Placed, placed, arm_placed, item_placed, struct_placed, function_placed, bare, simple, heights, else_height, line_count}
use Rattle.c_print.proofs.StatementLines.{lines-Declare, lines-Assign, lines-Bump, lines-Invoke, lines-Fetch, lines-Write, lines-Print, lines-Heap, lines-Release, lines-Return, lines-While, lines-Do, lines-For, lines-Switch, lines-Block, at-If, arm_laid-parts, else_lines-some}
use Rattle.c_print.proofs.PlacedLemmas.{placed-Declare, placed-Assign, placed-Bump, placed-Invoke, placed-Fetch, placed-Write, placed-Print, placed-Heap, placed-Release, placed-Return, placed-If, placed-While, placed-Do, placed-For, placed-Switch, placed-Block, placed-arm}

-- a line has a byte that ends it, and some before
line_long : (n : ℕ) (w : Bytes) → 1 ≤ length w → 2 ≤ length (line n w)
line_long n w h = omega (arith, h, length-append (indent n) (w ++ 10 ∷ []), length-append w (10 ∷ []))

-- words with a mark behind them
ends_long : (a b : Bytes) → 1 ≤ length b → 1 ≤ length (a ++ b)
ends_long a b h = omega (arith, h, length-append a b)

label_some : (p : Program) (l : Label) → 1 ≤ length (label_words p l)
label_some p (label.Case e v) = omega arith
label_some p label.Default = omega arith

include_some : (is_stdlib : Bool) → 1 ≤ length (include_words is_stdlib)
include_some true = omega arith
include_some false = omega arith

three : (a b c : Bytes) → length (a ++ (b ++ c)) ≡ length a + (length b + length c)
three a b c = omega (arith, length-append a (b ++ c), length-append b c)

-- the lines of a statement have two bytes each, at each level
abbrev pub IsLong : Program → Statement → Type 0
IsLong p one = (n : ℕ) → 2 * (placed one).height ≤ length (statement_lines p n one)

abbrev pub IsLongArm : Program → Arm → Type 0
IsLongArm p a = (n : ℕ) → 2 * (arm_placed a).height ≤ length (arm_laid p a n)

abbrev Parts : Program → Type 0
Parts p = Statement-F ((x : Statement) × IsLong p x) ((a : Arm) × IsLongArm p a)

list_long : (p : Program) (all : List ((x : Statement) × IsLong p x)) (n : ℕ) → 2 * heights (map placed (map (λ x. x.0) all)) ≤ length (body_lines p n (map (λ x. x.0) all))
list_long p [] n = omega arith
list_long p (x ∷ all) n =
    omega (arith, x.1 n, list_long p all n, length-append (statement_lines p n x.0) (body_lines p n (map (λ x. x.0) all)))

else_long : (p : Program) (all : List ((x : Statement) × IsLong p x)) (n : ℕ) → 2 * else_height (map placed (map (λ x. x.0) all)) ≤ length (else_lines (map (laid p) (map (λ x. x.0) all)) n)
else_long p [] n = omega arith
else_long p (x ∷ all) n =
    let whole = map (λ (y : (x : Statement) × IsLong p x). y.0) (x ∷ all) in
    let some : false ≡ (length whole == 0) = sym (ne_eqb (length whole) 0 (λ e. omega (arith, e))) in
    omega (arith, list_long p (x ∷ all) (suc n), ap length (else_lines-some p whole n some), length-append (line n (codes "} else {")) (body_lines p (suc n) whole), line_long n (codes "} else {") (omega arith))

arms_long : (p : Program) (all : List ((a : Arm) × IsLongArm p a)) (n : ℕ) → 2 * heights (map arm_placed (map (λ a. a.0) all)) ≤ length (arms_lines (map (arm_laid p) (map (λ a. a.0) all)) n)
arms_long p [] n = omega arith
arms_long p (x ∷ all) n =
    omega (arith, x.1 n, arms_long p all n, length-append (arm_laid p x.0 n) (arms_lines (map (arm_laid p) (map (λ a. a.0) all)) n))

labels_long : (p : Program) (all : List Label) (n : ℕ) → 2 * length all ≤ length (label_lines p all n)
labels_long p [] n = omega arith
labels_long p (x ∷ all) n = omega (arith, line_long n (label_words p x) (label_some p x), labels_long p all n, length-append (line n (label_words p x)) (label_lines p all n))

arm_long : (p : Program) (labels : List Label) (body : List ((x : Statement) × IsLong p x)) → IsLongArm p (roll-Arm (record { labels = labels; body = map (λ x. x.0) body }))
arm_long p labels body n =
    let a : Arm = roll-Arm (record { labels = labels; body = map (λ (x : (x : Statement) × IsLong p x). x.0) body }) in
    omega (arith, ap (λ (y : Placed). y.height) (placed-arm a), ap length (arm_laid-parts p a n), three (label_lines p labels n) (body_lines p (suc n) a.body) (line (suc n) (codes "break;")), labels_long p labels n, list_long p body (suc n), line_long (suc n) (codes "break;") (omega arith))

simple_long : (p : Program) (one : Statement) (id : Option ℕ) (w : Bytes) → placed one ≡ simple id → ((n : ℕ) → statement_lines p n one ≡ line n (w ++ codes ";")) → IsLong p one
simple_long p one id w e l n = omega (arith, ap (λ (y : Placed). y.height) e, ap length (l n), line_long n (w ++ codes ";") (ends_long w (codes ";") (omega arith)))

enclosed_long : (p : Program) (one : Statement) (h : ℕ) (head tail : Bytes) (body : ℕ → Bytes) → (placed one).height ≡ 2 + h → ((n : ℕ) → statement_lines p n one ≡ line n head ++ (body n ++ line n tail)) → 1 ≤ length head → 1 ≤ length tail → ((n : ℕ) → 2 * h ≤ length (body n)) → IsLong p one
enclosed_long p one h head tail body e l opens closes b n =
    omega (arith, e, ap length (l n), three (line n head) (body n) (line n tail), line_long n head opens, line_long n tail closes, b n)

layer_long : (p : Program) (y : Parts p) → IsLong p (roll-Statement (map-Statement ((x : Statement) × IsLong p x) ((a : Arm) × IsLongArm p a) Statement Arm (λ x. x.0) (λ a. a.0) y))
layer_long p (Statement-F.Declare id l x i) = subst (IsLong p) (sym (s.rolls-Declare id l x i)) (simple_long p (s.Declare id l x i) id (statement_words p (s.Declare id l x i)) (placed-Declare id l x i) (λ n. lines-Declare p id l x i n))
layer_long p (Statement-F.Assign id l a op b) = subst (IsLong p) (sym (s.rolls-Assign id l a op b)) (simple_long p (s.Assign id l a op b) (Some id) (statement_words p (s.Assign id l a op b)) (placed-Assign id l a op b) (λ n. lines-Assign p id l a op b n))
layer_long p (Statement-F.Bump id l a up before) = subst (IsLong p) (sym (s.rolls-Bump id l a up before)) (simple_long p (s.Bump id l a up before) (Some id) (statement_words p (s.Bump id l a up before)) (placed-Bump id l a up before) (λ n. lines-Bump p id l a up before n))
layer_long p (Statement-F.Invoke id l to f args) = subst (IsLong p) (sym (s.rolls-Invoke id l to f args)) (simple_long p (s.Invoke id l to f args) (Some id) (statement_words p (s.Invoke id l to f args)) (placed-Invoke id l to f args) (λ n. lines-Invoke p id l to f args n))
layer_long p (Statement-F.Fetch id l to) = subst (IsLong p) (sym (s.rolls-Fetch id l to)) (simple_long p (s.Fetch id l to) (Some id) (statement_words p (s.Fetch id l to)) (placed-Fetch id l to) (λ n. lines-Fetch p id l to n))
layer_long p (Statement-F.Write id l e) = subst (IsLong p) (sym (s.rolls-Write id l e)) (simple_long p (s.Write id l e) (Some id) (statement_words p (s.Write id l e)) (placed-Write id l e) (λ n. lines-Write p id l e n))
layer_long p (Statement-F.Print id l format args) = subst (IsLong p) (sym (s.rolls-Print id l format args)) (simple_long p (s.Print id l format args) (Some id) (statement_words p (s.Print id l format args)) (placed-Print id l format args) (λ n. lines-Print p id l format args n))
layer_long p (Statement-F.Heap id l to cast m) = subst (IsLong p) (sym (s.rolls-Heap id l to cast m)) (simple_long p (s.Heap id l to cast m) (Some id) (statement_words p (s.Heap id l to cast m)) (placed-Heap id l to cast m) (λ n. lines-Heap p id l to cast m n))
layer_long p (Statement-F.Release id l e) = subst (IsLong p) (sym (s.rolls-Release id l e)) (simple_long p (s.Release id l e) (Some id) (statement_words p (s.Release id l e)) (placed-Release id l e) (λ n. lines-Release p id l e n))
layer_long p (Statement-F.Return id l e) = subst (IsLong p) (sym (s.rolls-Return id l e)) (simple_long p (s.Return id l e) (Some id) (statement_words p (s.Return id l e)) (placed-Return id l e) (λ n. lines-Return p id l e n))
layer_long p (Statement-F.If id l e a b) =
    subst (IsLong p) (sym (s.rolls-If id l e (map (λ x. x.0) a) (map (λ x. x.0) b)))
    (enclosed_long p (s.If id l e (map (λ x. x.0) a) (map (λ x. x.0) b)) (heights (map placed (map (λ x. x.0) a)) + else_height (map placed (map (λ x. x.0) b))) (statement_words p (s.If id l e (map (λ x. x.0) a) (map (λ x. x.0) b)) ++ codes " {") (codes "}") (λ n. body_lines p (suc n) (map (λ x. x.0) a) ++ else_lines (map (laid p) (map (λ x. x.0) b)) n) (ap (λ (y : Placed). y.height) (placed-If id l e (map (λ x. x.0) a) (map (λ x. x.0) b))) (λ n. at-If id l e (map (λ x. x.0) a) (map (λ x. x.0) b) p (s.If id l e (map (λ x. x.0) a) (map (λ x. x.0) b)) n refl) (ends_long (statement_words p (s.If id l e (map (λ x. x.0) a) (map (λ x. x.0) b))) (codes " {") (omega arith)) (omega arith) (λ n. omega (arith, list_long p a (suc n), else_long p b n, length-append (body_lines p (suc n) (map (λ x. x.0) a)) (else_lines (map (laid p) (map (λ x. x.0) b)) n))))
layer_long p (Statement-F.While id l e b) =
    subst (IsLong p) (sym (s.rolls-While id l e (map (λ x. x.0) b)))
    (enclosed_long p (s.While id l e (map (λ x. x.0) b)) (heights (map placed (map (λ x. x.0) b))) (statement_words p (s.While id l e (map (λ x. x.0) b)) ++ codes " {") (codes "}") (λ n. body_lines p (suc n) (map (λ x. x.0) b)) (ap (λ (y : Placed). y.height) (placed-While id l e (map (λ x. x.0) b))) (λ n. lines-While p id l e (map (λ x. x.0) b) n) (ends_long (statement_words p (s.While id l e (map (λ x. x.0) b))) (codes " {") (omega arith)) (omega arith) (λ n. list_long p b (suc n)))
layer_long p (Statement-F.Do id l e b) =
    subst (IsLong p) (sym (s.rolls-Do id l e (map (λ x. x.0) b)))
    (enclosed_long p (s.Do id l e (map (λ x. x.0) b)) (heights (map placed (map (λ x. x.0) b))) (codes "do {") (codes "} while (" ++ (expr_words p e ++ codes ");")) (λ n. body_lines p (suc n) (map (λ x. x.0) b)) (ap (λ (y : Placed). y.height) (placed-Do id l e (map (λ x. x.0) b))) (λ n. lines-Do p id l e (map (λ x. x.0) b) n) (omega arith) (omega arith) (λ n. list_long p b (suc n)))
layer_long p (Statement-F.For id l None e None b) =
    subst (IsLong p) (sym (s.rolls-For id l None e None (map (λ x. x.0) b)))
    (enclosed_long p (s.For id l None e None (map (λ x. x.0) b)) (heights (map placed (map (λ x. x.0) b))) (statement_words p (s.For id l None e None (map (λ x. x.0) b)) ++ codes " {") (codes "}") (λ n. body_lines p (suc n) (map (λ x. x.0) b)) (ap (λ (y : Placed). y.height) (placed-For id l None e None (map (λ x. x.0) b))) (λ n. lines-For p id l None e None (map (λ x. x.0) b) n) (ends_long (statement_words p (s.For id l None e None (map (λ x. x.0) b))) (codes " {") (omega arith)) (omega arith) (λ n. list_long p b (suc n)))
layer_long p (Statement-F.For id l None e (Some k) b) =
    subst (IsLong p) (sym (s.rolls-For id l None e (Some k.0) (map (λ x. x.0) b)))
    (enclosed_long p (s.For id l None e (Some k.0) (map (λ x. x.0) b)) (heights (map placed (map (λ x. x.0) b))) (statement_words p (s.For id l None e (Some k.0) (map (λ x. x.0) b)) ++ codes " {") (codes "}") (λ n. body_lines p (suc n) (map (λ x. x.0) b)) (ap (λ (y : Placed). y.height) (placed-For id l None e (Some k.0) (map (λ x. x.0) b))) (λ n. lines-For p id l None e (Some k.0) (map (λ x. x.0) b) n) (ends_long (statement_words p (s.For id l None e (Some k.0) (map (λ x. x.0) b))) (codes " {") (omega arith)) (omega arith) (λ n. list_long p b (suc n)))
layer_long p (Statement-F.For id l (Some i) e None b) =
    subst (IsLong p) (sym (s.rolls-For id l (Some i.0) e None (map (λ x. x.0) b)))
    (enclosed_long p (s.For id l (Some i.0) e None (map (λ x. x.0) b)) (heights (map placed (map (λ x. x.0) b))) (statement_words p (s.For id l (Some i.0) e None (map (λ x. x.0) b)) ++ codes " {") (codes "}") (λ n. body_lines p (suc n) (map (λ x. x.0) b)) (ap (λ (y : Placed). y.height) (placed-For id l (Some i.0) e None (map (λ x. x.0) b))) (λ n. lines-For p id l (Some i.0) e None (map (λ x. x.0) b) n) (ends_long (statement_words p (s.For id l (Some i.0) e None (map (λ x. x.0) b))) (codes " {") (omega arith)) (omega arith) (λ n. list_long p b (suc n)))
layer_long p (Statement-F.For id l (Some i) e (Some k) b) =
    subst (IsLong p) (sym (s.rolls-For id l (Some i.0) e (Some k.0) (map (λ x. x.0) b)))
    (enclosed_long p (s.For id l (Some i.0) e (Some k.0) (map (λ x. x.0) b)) (heights (map placed (map (λ x. x.0) b))) (statement_words p (s.For id l (Some i.0) e (Some k.0) (map (λ x. x.0) b)) ++ codes " {") (codes "}") (λ n. body_lines p (suc n) (map (λ x. x.0) b)) (ap (λ (y : Placed). y.height) (placed-For id l (Some i.0) e (Some k.0) (map (λ x. x.0) b))) (λ n. lines-For p id l (Some i.0) e (Some k.0) (map (λ x. x.0) b) n) (ends_long (statement_words p (s.For id l (Some i.0) e (Some k.0) (map (λ x. x.0) b))) (codes " {") (omega arith)) (omega arith) (λ n. list_long p b (suc n)))
layer_long p (Statement-F.Switch id l e arms) =
    subst (IsLong p) (sym (s.rolls-Switch id l e (map (λ a. a.0) arms)))
    (enclosed_long p (s.Switch id l e (map (λ a. a.0) arms)) (heights (map arm_placed (map (λ a. a.0) arms))) (statement_words p (s.Switch id l e (map (λ a. a.0) arms)) ++ codes " {") (codes "}") (λ n. arms_lines (map (arm_laid p) (map (λ a. a.0) arms)) (suc n)) (ap (λ (y : Placed). y.height) (placed-Switch id l e (map (λ a. a.0) arms))) (λ n. lines-Switch p id l e (map (λ a. a.0) arms) n) (ends_long (statement_words p (s.Switch id l e (map (λ a. a.0) arms))) (codes " {") (omega arith)) (omega arith) (λ n. arms_long p arms (suc n)))
layer_long p (Statement-F.Block l b) =
    subst (IsLong p) (sym (s.rolls-Block l (map (λ x. x.0) b)))
    (enclosed_long p (s.Block l (map (λ x. x.0) b)) (heights (map placed (map (λ x. x.0) b))) (codes "{") (codes "}") (λ n. body_lines p (suc n) (map (λ x. x.0) b)) (ap (λ (y : Placed). y.height) (placed-Block l (map (λ x. x.0) b))) (λ n. lines-Block p l (map (λ x. x.0) b) n) (omega arith) (omega arith) (λ n. list_long p b (suc n)))

statement_long : (p : Program) (one : Statement) → IsLong p one
statement_long p =
    ind-Statement (IsLong p) (IsLongArm p) (λ x y is. subst (λ z. IsLong p (roll-Statement z)) is (layer_long p y)) (λ x y is. subst (λ z. IsLongArm p (roll-Arm z)) is (arm_long p y.labels y.body))

body_long : (p : Program) (all : List Statement) (n : ℕ) → 2 * heights (map placed all) ≤ length (body_lines p n all)
body_long p [] n = omega arith
body_long p (x ∷ all) n = omega (arith, statement_long p x n, body_long p all n, length-append (statement_lines p n x) (body_lines p n all))

members_long : (p : Program) (all : List Member) → 2 * length all ≤ length (member_lines p all)
members_long p [] = omega arith
members_long p (m ∷ all) =
    let words = declared p m.shape m.name ++ codes ";" in
    omega (arith, line_long 1 words (ends_long (declared p m.shape m.name) (codes ";") (omega arith)), members_long p all, length-append (line 1 words) (member_lines p all))

struct_long : (p : Program) (o : Option StructDef) → 2 * (option_map_or struct_placed o (bare 0)).height ≤ length (option_map_or (struct_lines p) o [])
struct_long p None = omega arith
struct_long p (Some d) =
    let head = line 0 (codes "struct " ++ (d.name ++ codes " {")) in
    omega (arith, three head (member_lines p d.members) (line 0 (codes "};")), line_long 0 (codes "struct " ++ (d.name ++ codes " {")) (omega arith), members_long p d.members, line_long 0 (codes "};") (omega arith))

prototype_long : (o : Option Function) (words : Function → Bytes) → 2 * (option_map_or (λ (g : Function). bare 1) o (bare 0)).height ≤ length (option_map_or (λ (g : Function). line 0 (words g ++ codes ";")) o [])
prototype_long None words = omega arith
prototype_long (Some g) words = line_long 0 (words g ++ codes ";") (ends_long (words g) (codes ";") (omega arith))

function_long : (p : Program) (o : Option Function) → 2 * (option_map_or function_placed o (bare 0)).height ≤ length (option_map_or (function_lines p) o [])
function_long p None = omega arith
function_long p (Some f) =
    let head = head_words p f.is_static f (map (var_words p) f.params) ++ codes " {" in
    omega (arith, three (line 0 head) (body_lines p 1 f.body) (line 0 (codes "}")), line_long 0 head (ends_long (head_words p f.is_static f (map (var_words p) f.params)) (codes " {") (omega arith)), body_long p f.body 1, line_long 0 (codes "}") (omega arith))

item_long : (p : Program) (i : Item) → 2 * (item_placed p i).height ≤ length (item_lines p i)
item_long p (Include is_stdlib) = line_long 0 (include_words is_stdlib) (include_some is_stdlib)
item_long p (Tag s) = line_long 0 (codes "struct " ++ (name_of_struct p s ++ codes ";")) (omega arith)
item_long p (Struct s) = struct_long p (slice_get p.structs s)
item_long p (Global x i) = line_long 0 (global_words p x ++ (init_words p i ++ codes ";")) (ends_long (global_words p x) (init_words p i ++ codes ";") (ends_long (init_words p i) (codes ";") (omega arith)))
item_long p (Prototype f names is_static) = prototype_long (slice_get p.functions f) (λ g. head_words p is_static g (named_params p names g.params))
item_long p (Define f) = function_long p (slice_get p.functions f)

items_long : (p : Program) (all : List Item) → 2 * heights (map (item_placed p) all) ≤ length (items_lines p all)
items_long p [] = omega arith
items_long p (i ∷ all) = omega (arith, item_long p i, items_long p all, length-append (item_lines p i) (items_lines p all))

-- a layout has at most half as many lines as bytes
pub few_lines : (p : Program) → 2 * line_count p ≤ length (layout p)
few_lines p = items_long p p.items
