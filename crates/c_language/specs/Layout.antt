-- The layout of a program: its one written form.
use Rattle.std.specs.Prelude.{ℕ, zero, suc, List, [], ◌∷◌, ◌++◌, Bool, true, false, Option, Some, None, codes, slice_get, map}
use Rattle.std.specs.Option.{option_map_or}
use Rattle.c_tree.specs.declared.types.CType.{CType}
use Rattle.c_tree.specs.declared.expr.Expr.{Expr}
use Rattle.c_tree.specs.declared.program.Program.{Program}
use Rattle.c_tree.specs.declared.program.Var.{Var}
use Rattle.c_tree.specs.declared.program.Member.{Member}
use Rattle.c_tree.specs.declared.program.StructDef.{StructDef}
use Rattle.c_tree.specs.declared.program.Function.{Function}
use Rattle.c_tree.specs.declared.program.Item.{Item}
use Rattle.c_tree.specs.declared.program.Item.TheVariants.{Include, Tag, Struct, Global, Prototype, Define}
use Rattle.c_tree.specs.declared.program.Init.{Init}
use Rattle.c_tree.specs.declared.program.Init.TheVariants as init
use Rattle.c_tree.specs.declared.statement.Target.{Target}
use Rattle.c_tree.specs.declared.statement.Target.TheVariants as target
use Rattle.c_tree.specs.declared.statement.Size.{Size}
use Rattle.c_tree.specs.declared.statement.Size.TheVariants as size
use Rattle.c_tree.specs.declared.statement.Amount.{Amount}
use Rattle.c_tree.specs.declared.statement.Amount.TheVariants as amount
use Rattle.c_tree.specs.declared.statement.Label.{Label}
use Rattle.c_tree.specs.declared.statement.Label.TheVariants as label
use Rattle.c_tree.specs.declared.statement.Arm.{Arm, fold-Arm}
use Rattle.c_tree.specs.declared.statement.Statement.{Statement, fold-Statement}
use Rattle.c_tree.specs.declared.statement.Statement.TheOpen.{Statement-F, Arm-F}
use Rattle.c_language.specs.Words.{Bytes, joined, assign_sign, name_of_var, name_of_function, name_of_struct, declared, base_words, stars, type_words, expr_words, bump_sign}

-- four spaces for each level
abbrev pub indent : ℕ → Bytes
indent zero = []
indent (suc n) = codes "    " ++ indent n

-- a line of its own
abbrev pub line : ℕ → Bytes → Bytes
line n words = indent n ++ (words ++ 10 ∷ [])

abbrev pub init_words : Program → Init → Bytes
init_words p init.None = []
init_words p (init.One e) = codes " = " ++ expr_words p e
init_words p (init.Items es) = codes " = {" ++ (joined (codes ", ") (map (expr_words p) es) ++ codes "}")

-- a variable with its type, as it is declared
abbrev pub var_words : Program → ℕ → Bytes
var_words p x = option_map_or (λ (v : Var). declared p v.shape v.name) (slice_get p.vars x) []

abbrev pub target_words : Program → Target → Bytes
target_words p target.None = []
target_words p (target.Place e) = expr_words p e ++ codes " = "
target_words p (target.Declared x) = var_words p x ++ codes " = "

abbrev pub pointee_words : Program → ℕ → Bool → Bytes
pointee_words p x true = codes "sizeof(*" ++ (name_of_var p x ++ codes ")")
pointee_words p x false = codes "sizeof *" ++ name_of_var p x

abbrev pub size_words : Program → Size → Bytes
size_words p (size.Type t) = codes "sizeof(" ++ (type_words p t ++ codes ")")
size_words p (size.Pointee x closed) = pointee_words p x closed

abbrev pub amount_words : Program → Amount → Bytes
amount_words p (amount.Size s) = size_words p s
amount_words p (amount.CountSize e s) = expr_words p e ++ (codes " * " ++ size_words p s)
amount_words p (amount.SizeCount s e) = size_words p s ++ (codes " * " ++ expr_words p e)
amount_words p (amount.Count e) = expr_words p e

abbrev pub cast_words : Program → Option CType → Bytes
cast_words p None = []
cast_words p (Some t) = codes "(" ++ (type_words p t ++ codes ")")

abbrev pub call_words : Bytes → List Bytes → Bytes
call_words name args = name ++ (codes "(" ++ (joined (codes ", ") args ++ codes ")"))

abbrev pub bump_words : Bytes → Bool → Bool → Bytes
bump_words place up true = bump_sign up ++ place
bump_words place up false = place ++ bump_sign up

abbrev pub return_words : Program → Option Expr → Bytes
return_words p None = codes "return"
return_words p (Some e) = codes "return " ++ expr_words p e

-- a statement: its words, and its lines at each level
pub record Laid : Type 0 where
  pub words : Bytes
  pub lines : ℕ → Bytes

abbrev pub plain : Bytes → Laid
plain words = record { words = words; lines = λ n. line n (words ++ codes ";") }

abbrev pub block_lines : List Laid → ℕ → Bytes
block_lines [] n = []
block_lines (s ∷ ss) n = s.lines n ++ block_lines ss n

abbrev pub else_lines : List Laid → ℕ → Bytes
else_lines [] n = []
else_lines (s ∷ ss) n = line n (codes "} else {") ++ block_lines (s ∷ ss) (suc n)

abbrev pub init_part : Option Laid → Bytes
init_part None = []
init_part (Some s) = s.words

abbrev pub step_part : Option Laid → Bytes
step_part None = []
step_part (Some s) = 32 ∷ s.words

abbrev pub label_words : Program → Label → Bytes
label_words p (label.Case e v) = codes "case " ++ (expr_words p e ++ codes ":")
label_words p label.Default = codes "default:"

abbrev pub label_lines : Program → List Label → ℕ → Bytes
label_lines p [] n = []
label_lines p (l ∷ ls) n = line n (label_words p l) ++ label_lines p ls n

abbrev pub arms_lines : List (ℕ → Bytes) → ℕ → Bytes
arms_lines [] n = []
arms_lines (a ∷ as_) n = a n ++ arms_lines as_ n

-- words in front of a body in braces, and what closes it
abbrev pub braced : Bytes → Bytes → Bytes → ℕ → Bytes
braced head body tail n = line n head ++ (body ++ line n tail)

-- forms of statements, over the words of a test

abbrev pub laid_if : Bytes → List Laid → List Laid → Laid
laid_if w body other = record {
  words = codes "if (" ++ (w ++ codes ")");
  lines = λ n. line n (codes "if (" ++ (w ++ codes ") {")) ++ (block_lines body (suc n) ++ (else_lines other n ++ line n (codes "}")));
}

abbrev pub laid_while : Bytes → List Laid → Laid
laid_while w b = record {
  words = codes "while (" ++ (w ++ codes ")");
  lines = λ n. braced (codes "while (" ++ (w ++ codes ") {")) (block_lines b (suc n)) (codes "}") n;
}

abbrev pub laid_do : Bytes → List Laid → Laid
laid_do w b = record {
  words = codes "do while (" ++ (w ++ codes ")");
  lines = λ n. braced (codes "do {") (block_lines b (suc n)) (codes "} while (" ++ (w ++ codes ");")) n;
}

abbrev pub laid_for : Option Laid → Bytes → Option Laid → List Laid → Laid
laid_for i w step b = record {
  words = codes "for (" ++ (init_part i ++ (codes "; " ++ (w ++ (codes ";" ++ (step_part step ++ codes ")")))));
  lines = λ n. braced (codes "for (" ++ (init_part i ++ (codes "; " ++ (w ++ (codes ";" ++ (step_part step ++ codes ") {")))))) (block_lines b (suc n)) (codes "}") n;
}

abbrev pub laid_switch : Bytes → List (ℕ → Bytes) → Laid
laid_switch w arms = record {
  words = codes "switch (" ++ (w ++ codes ")");
  lines = λ n. braced (codes "switch (" ++ (w ++ codes ") {")) (arms_lines arms (suc n)) (codes "}") n;
}

abbrev pub laid_block : List Laid → Laid
laid_block b = record { words = []; lines = λ n. braced (codes "{") (block_lines b (suc n)) (codes "}") n }

abbrev pub laid_case : (ℕ → Bytes) → List Laid → ℕ → Bytes
laid_case labels body n = labels n ++ (block_lines body (suc n) ++ line (suc n) (codes "break;"))

abbrev pub statement_step : Program → Statement-F Laid (ℕ → Bytes) → Laid
statement_step p (Statement-F.Declare id l x i) = plain (var_words p x ++ init_words p i)
statement_step p (Statement-F.Assign id l a op b) =
    plain (expr_words p a ++ (codes " " ++ (assign_sign op ++ (codes " " ++ expr_words p b))))
statement_step p (Statement-F.Bump id l a up before) = plain (bump_words (expr_words p a) up before)
statement_step p (Statement-F.Invoke id l to f args) =
    plain (target_words p to ++ call_words (name_of_function p f) (map (expr_words p) args))
statement_step p (Statement-F.Fetch id l to) = plain (target_words p to ++ codes "getchar()")
statement_step p (Statement-F.Write id l e) = plain (call_words (codes "putchar") (expr_words p e ∷ []))
statement_step p (Statement-F.Print id l format args) =
    plain (call_words (codes "printf") (format ∷ map (expr_words p) args))
statement_step p (Statement-F.Heap id l to cast n) =
    plain (target_words p to ++ (cast_words p cast ++ call_words (codes "malloc") (amount_words p n ∷ [])))
statement_step p (Statement-F.Release id l e) = plain (call_words (codes "free") (expr_words p e ∷ []))
statement_step p (Statement-F.If id l e a b) = laid_if (expr_words p e) a b
statement_step p (Statement-F.While id l e b) = laid_while (expr_words p e) b
statement_step p (Statement-F.Do id l e b) = laid_do (expr_words p e) b
statement_step p (Statement-F.For id l i e s b) = laid_for i (expr_words p e) s b
statement_step p (Statement-F.Switch id l e arms) = laid_switch (expr_words p e) arms
statement_step p (Statement-F.Block l b) = laid_block b
statement_step p (Statement-F.Return id l e) = plain (return_words p e)

abbrev pub arm_step : Program → Arm-F Laid (ℕ → Bytes) → ℕ → Bytes
arm_step p a = laid_case (label_lines p a.labels) a.body

abbrev pub laid : Program → Statement → Laid
laid p = fold-Statement Laid (ℕ → Bytes) (statement_step p) (arm_step p)

-- an arm of a switch: its lines at each level
abbrev pub arm_laid : Program → Arm → ℕ → Bytes
arm_laid p = fold-Arm Laid (ℕ → Bytes) (statement_step p) (arm_step p)

-- the words of a statement without those of what it holds
abbrev pub statement_words : Program → Statement → Bytes
statement_words p s = (laid p s).words

abbrev pub statement_lines : Program → ℕ → Statement → Bytes
statement_lines p n s = (laid p s).lines n

-- a list of statements, at one level
abbrev pub body_lines : Program → ℕ → List Statement → Bytes
body_lines p n [] = []
body_lines p n (s ∷ ss) = statement_lines p n s ++ body_lines p n ss

abbrev pub static_words : Bool → Bytes
static_words true = codes "static "
static_words false = []

abbrev pub result_words : Program → Option CType → Bytes
result_words p None = codes "void "
result_words p (Some t) = base_words p t ++ (codes " " ++ stars t)

abbrev pub param_words : Program → Option Bytes → ℕ → Bytes
param_words p None x = option_map_or (λ (v : Var). type_words p v.shape) (slice_get p.vars x) []
param_words p (Some name) x = option_map_or (λ (v : Var). declared p v.shape name) (slice_get p.vars x) []

abbrev pub named_params : Program → List (Option Bytes) → List ℕ → List Bytes
named_params p [] xs = []
named_params p (n ∷ ns) [] = []
named_params p (n ∷ ns) (x ∷ xs) = param_words p n x ∷ named_params p ns xs

abbrev pub params_words : List Bytes → Bytes
params_words [] = codes "void"
params_words (x ∷ xs) = joined (codes ", ") (x ∷ xs)

-- the words of a function before its body or its semicolon
abbrev pub head_words : Program → Bool → Function → List Bytes → Bytes
head_words p is_static f params =
    static_words is_static ++ (result_words p f.result ++ (f.name ++ (codes "(" ++ (params_words params ++ codes ")"))))

abbrev pub member_lines : Program → List Member → Bytes
member_lines p [] = []
member_lines p (m ∷ ms) = line 1 (declared p m.shape m.name ++ codes ";") ++ member_lines p ms

abbrev pub struct_lines : Program → StructDef → Bytes
struct_lines p d = line 0 (codes "struct " ++ (d.name ++ codes " {")) ++ (member_lines p d.members ++ line 0 (codes "};"))

abbrev pub function_lines : Program → Function → Bytes
function_lines p f =
    line 0 (head_words p f.is_static f (map (var_words p) f.params) ++ codes " {") ++ (body_lines p 1 f.body ++ line 0 (codes "}"))

abbrev pub global_words : Program → ℕ → Bytes
global_words p x = option_map_or (λ (v : Var). static_words v.is_static ++ declared p v.shape v.name) (slice_get p.vars x) []

abbrev pub include_words : Bool → Bytes
include_words true = codes "#include <stdlib.h>"
include_words false = codes "#include <stdio.h>"

abbrev pub item_lines : Program → Item → Bytes
item_lines p (Include is_stdlib) = line 0 (include_words is_stdlib)
item_lines p (Tag s) = line 0 (codes "struct " ++ (name_of_struct p s ++ codes ";"))
item_lines p (Struct s) = option_map_or (struct_lines p) (slice_get p.structs s) []
item_lines p (Global x i) = line 0 (global_words p x ++ (init_words p i ++ codes ";"))
item_lines p (Prototype f names is_static) =
    option_map_or (λ (g : Function). line 0 (head_words p is_static g (named_params p names g.params) ++ codes ";")) (slice_get p.functions f) []
item_lines p (Define f) = option_map_or (function_lines p) (slice_get p.functions f) []

abbrev pub items_lines : Program → List Item → Bytes
items_lines p [] = []
items_lines p (i ∷ is) = item_lines p i ++ items_lines p is

-- the layout of a program
abbrev pub layout : Program → Bytes
layout p = items_lines p p.items
