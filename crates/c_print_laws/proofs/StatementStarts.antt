-- Each statement of a program starts on its line, since each number that a text gives has its place.
use Rattle.std.proofs.Common.{◌≡◌, ℕ, ◌<◌, List, [], ◌∷◌, map, slice_get, None, refl, sym, ap, ap₂, subst, ◌∙◌, arith}
use Rattle.c_tree.specs.Unlined.{unlined, unlined_function, unlined_program, SameButLines}
use Rattle.c_tree.specs.declared.program.Program.{Program}
use Rattle.c_tree.specs.declared.program.Function.{Function}
use Rattle.c_tree.specs.declared.program.Item.{Item}
use Rattle.c_tree.specs.declared.program.Item.TheVariants.{Include, Tag, Struct, Global, Prototype, Define}
use Rattle.c_tree.specs.declared.statement.Statement.{Statement}
use Rattle.c_tree.specs.declared.statement.Statement.TheOpen.{Statement-F}
use Rattle.c_language.specs.Scopes.{outset}
use Rattle.c_language.specs.Programs.{IsWellFormed}
use Rattle.c_language.proofs.Lists.{maps_same}
use Rattle.c_print.specs.Lines.{Placed, placed, placed_step, arm_placed_step, enclosing, function_placed, bare, item_placed, block_starts, layout_starts}
use Rattle.c_print.proofs.LineLaws.{listed_starts}
use Rattle.c_print.proofs.OpeningLemmas.{IsListed}
use Rattle.c_print_laws.specs.Places.{StatementsStart}
use Rattle.c_print_laws.proofs.Definitions.{program_parts}
use Rattle.c_print_laws.proofs.ForParts.{program_tidy}
use Rattle.text_syntax.proofs.Items.{text_is_syntax}
use Rattle.c_tree.proofs.Unlining.{zeroed, fold_unlined}
use Rattle.c_print_laws.proofs.LineLess.{got_or}
use Rattle.c_print_laws.proofs.FeedlessPrograms.{well_formed_feedless}
use Rattle.c_print_laws.proofs.Numbering.{items_take}

-- ---- heights and places don't depend on lines

placed_free : (y : Statement-F Placed Placed) → placed_step (zeroed y) ≡ placed_step y
placed_free (Statement-F.Declare id l x i) = refl
placed_free _ = refl

statement_same : (x : Statement) → placed (unlined x) ≡ placed x
statement_same = fold_unlined placed_step arm_placed_step placed_free

body_same : (xs : List Statement) → map placed (map unlined xs) ≡ map placed xs
body_same [] = refl
body_same (x ∷ xs) = ap₂ (λ (y : Placed) (ys : List Placed). y ∷ ys) (statement_same x) (body_same xs)

item_same : (p : Program) (i : Item) → item_placed (unlined_program p) i ≡ item_placed p i
item_same p (Include is_stdlib) = refl
item_same p (Tag s) = refl
item_same p (Struct s) = refl
item_same p (Global x i) = refl
item_same p (Prototype f names is_static) = got_or unlined_function (λ (g : Function). bare 1) (λ (g : Function). bare 1) (bare 0) (λ g. refl) p.functions f
item_same p (Define f) = got_or unlined_function function_placed function_placed (bare 0) (λ g. ap (enclosing None) (body_same g.body)) p.functions f

starts_same : (p : Program) → layout_starts (unlined_program p) ≡ layout_starts p
starts_same p = ap (λ (ys : List Placed). block_starts ys 1) (maps_same (item_placed (unlined_program p)) (item_placed p) (item_same p) p.items)

layout_starts_same : (p q : Program) → SameButLines p q → layout_starts p ≡ layout_starts q
layout_starts_same p q same = sym (starts_same p) ∙ ap layout_starts same ∙ starts_same q

-- ---- the law

-- each number below the count has a line
pub numbers_listed : (p : Program) → IsWellFormed p → (id : ℕ) → id < p.statements → IsListed id (layout_starts p)
numbers_listed p ok id low =
    let parts = program_parts ok.raw ok.same ok.has.program in
    let count : p.statements ≡ ok.same.statements = ap (λ (q : Program). q.statements) ok.but_lines in
    subst (IsListed id) (sym (layout_starts_same p ok.same ok.but_lines))
    (items_take ok.raw ok.same ok.raw.items (program_tidy ok.raw (text_is_syntax ok.raw ok.tree)) outset ok.same.items ok.same.functions parts.items parts.functions (λ i. ap (slice_get ok.same.functions) (omega arith)) id 1 (omega arith) (omega (arith, low, count, parts.statements)))

pub statements_start : StatementsStart
statements_start = λ p ok id low. listed_starts p id (well_formed_feedless p ok) (numbers_listed p ok id low)
