-- Programs whose texts hold no line feed: names, spellings of constants, formats, and the words of lengths.
use Rattle.std.specs.Prelude.{◌≡◌, Bool, true, ◌&&◌, not, Option, None}
use Rattle.std.specs.List.{list_all}
use Rattle.std.specs.Option.{option_map_or}
use Rattle.c_tree.specs.declared.types.CType.{CType, fold-CType}
use Rattle.c_tree.specs.declared.types.CType.TheOpen.{CType-F}
use Rattle.c_tree.specs.declared.expr.Expr.{Expr, fold-Expr}
use Rattle.c_tree.specs.declared.expr.Expr.TheOpen.{Expr-F}
use Rattle.c_tree.specs.declared.program.Program.{Program}
use Rattle.c_tree.specs.declared.program.Var.{Var}
use Rattle.c_tree.specs.declared.program.Member.{Member}
use Rattle.c_tree.specs.declared.program.StructDef.{StructDef}
use Rattle.c_tree.specs.declared.program.Function.{Function}
use Rattle.c_tree.specs.declared.program.Item.{Item}
use Rattle.c_tree.specs.declared.program.Item.TheVariants.{Include, Tag, Struct, Global, Prototype, Define}
use Rattle.c_tree.specs.declared.program.Init.{Init}
use Rattle.c_tree.specs.declared.program.Init.TheVariants as init
use Rattle.c_tree.specs.declared.statement.Target.{Target}
use Rattle.c_tree.specs.declared.statement.Target.TheVariants as target
use Rattle.c_tree.specs.declared.statement.Size.{Size}
use Rattle.c_tree.specs.declared.statement.Size.TheVariants as size
use Rattle.c_tree.specs.declared.statement.Amount.{Amount}
use Rattle.c_tree.specs.declared.statement.Amount.TheVariants as amount
use Rattle.c_tree.specs.declared.statement.Label.{Label}
use Rattle.c_tree.specs.declared.statement.Label.TheVariants as label
use Rattle.c_tree.specs.declared.statement.Statement.{Statement, fold-Statement}
use Rattle.c_tree.specs.declared.statement.Statement.TheOpen.{Statement-F, Arm-F}
use Rattle.c_language.specs.Words.{Bytes}
use Rattle.c_language.specs.Tokens.{is_feed}
use Rattle.c_language.specs.Lists.{if_there, all_true}

-- no byte is a line feed
abbrev pub feedless : Bytes → Bool
feedless = list_all (λ b. not (is_feed b))

-- ---- types and expressions

abbrev pub type_step : CType-F Bool → Bool
type_step (CType-F.Integer t) = true
type_step (CType-F.PointerTo a) = a
type_step (CType-F.Array a n w) = feedless w && a
type_step (CType-F.Struct s) = true

abbrev pub type_feedless : CType → Bool
type_feedless = fold-CType Bool type_step

abbrev pub expr_step : Expr-F Bool → Bool
expr_step (Expr-F.Constant text t v) = feedless text
expr_step Expr-F.Null = true
expr_step Expr-F.Eof = true
expr_step (Expr-F.Variable x) = true
expr_step (Expr-F.Unary op a) = a
expr_step (Expr-F.Deref a) = a
expr_step (Expr-F.AddressOf a) = a
expr_step (Expr-F.Binary op a b) = a && b
expr_step (Expr-F.AndAlso a b) = a && b
expr_step (Expr-F.OrElse a b) = a && b
expr_step (Expr-F.Choose c a b) = c && (a && b)
expr_step (Expr-F.Cast t a) = a
expr_step (Expr-F.Index a i) = a && i
expr_step (Expr-F.Member a m) = a
expr_step (Expr-F.Arrow a m) = a
expr_step (Expr-F.Paren a) = a

abbrev pub expr_feedless : Expr → Bool
expr_feedless = fold-Expr Bool expr_step

-- ---- statements

abbrev pub init_feedless : Init → Bool
init_feedless init.None = true
init_feedless (init.One e) = expr_feedless e
init_feedless (init.Items es) = list_all expr_feedless es

abbrev pub target_feedless : Target → Bool
target_feedless target.None = true
target_feedless (target.Place e) = expr_feedless e
target_feedless (target.Declared x) = true

abbrev pub size_feedless : Size → Bool
size_feedless (size.Type t) = type_feedless t
size_feedless (size.Pointee x closed) = true

abbrev pub amount_feedless : Amount → Bool
amount_feedless (amount.Size s) = size_feedless s
amount_feedless (amount.CountSize e s) = expr_feedless e && size_feedless s
amount_feedless (amount.SizeCount s e) = size_feedless s && expr_feedless e
amount_feedless (amount.Count e) = expr_feedless e

abbrev pub label_feedless : Label → Bool
label_feedless (label.Case e v) = expr_feedless e
label_feedless label.Default = true

abbrev pub statement_step : Statement-F Bool Bool → Bool
statement_step (Statement-F.Declare id l x i) = init_feedless i
statement_step (Statement-F.Assign id l a op b) = expr_feedless a && expr_feedless b
statement_step (Statement-F.Bump id l a up before) = expr_feedless a
statement_step (Statement-F.Invoke id l to f args) = target_feedless to && list_all expr_feedless args
statement_step (Statement-F.Fetch id l to) = target_feedless to
statement_step (Statement-F.Write id l e) = expr_feedless e
statement_step (Statement-F.Print id l format args) = feedless format && list_all expr_feedless args
statement_step (Statement-F.Heap id l to cast n) = target_feedless to && (option_map_or type_feedless cast true && amount_feedless n)
statement_step (Statement-F.Release id l e) = expr_feedless e
statement_step (Statement-F.If id l e a b) = expr_feedless e && (all_true a && all_true b)
statement_step (Statement-F.While id l e b) = expr_feedless e && all_true b
statement_step (Statement-F.Do id l e b) = expr_feedless e && all_true b
statement_step (Statement-F.For id l i e s b) = if_there i && (expr_feedless e && (if_there s && all_true b))
statement_step (Statement-F.Switch id l e arms) = expr_feedless e && all_true arms
statement_step (Statement-F.Block l b) = all_true b
statement_step (Statement-F.Return id l e) = option_map_or expr_feedless e true

abbrev pub arm_step : Arm-F Bool Bool → Bool
arm_step a = list_all label_feedless a.labels && all_true a.body

abbrev pub statement_feedless : Statement → Bool
statement_feedless = fold-Statement Bool Bool statement_step arm_step

-- ---- programs

abbrev pub var_feedless : Var → Bool
var_feedless v = feedless v.name && type_feedless v.shape

abbrev pub member_feedless : Member → Bool
member_feedless m = feedless m.name && type_feedless m.shape

abbrev pub struct_feedless : StructDef → Bool
struct_feedless d = feedless d.name && list_all member_feedless d.members

abbrev pub function_feedless : Function → Bool
function_feedless f = feedless f.name && (option_map_or type_feedless f.result true && list_all statement_feedless f.body)

abbrev pub name_feedless : Option Bytes → Bool
name_feedless name = option_map_or feedless name true

abbrev pub item_feedless : Item → Bool
item_feedless (Include is_stdlib) = true
item_feedless (Tag s) = true
item_feedless (Struct s) = true
item_feedless (Global x i) = init_feedless i
item_feedless (Prototype f names is_static) = list_all name_feedless names
item_feedless (Define f) = true

-- no text in the program holds a line feed
pub record IsFeedless (p : Program) : Type 0 where
  pub vars : list_all var_feedless p.vars ≡ true
  pub structs : list_all struct_feedless p.structs ≡ true
  pub functions : list_all function_feedless p.functions ≡ true
  pub items : list_all item_feedless p.items ≡ true
