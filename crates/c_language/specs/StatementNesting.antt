-- How deep statements and items nest: for each place the nodes above or at it are counted, and the nesting is the largest count.
use Rattle.std.specs.Prelude.{ℕ, ◌+◌, max, List, map, Option, Some, None}
use Rattle.c_tree.specs.declared.raw.expr.RawExpr.{RawExpr}
use Rattle.c_tree.specs.declared.raw.expr.RawType.{RawType}
use Rattle.c_tree.specs.declared.raw.program.RawInit.{RawInit}
use Rattle.c_tree.specs.declared.raw.program.RawInit.TheVariants as init
use Rattle.c_tree.specs.declared.raw.program.RawMember.{RawMember}
use Rattle.c_tree.specs.declared.raw.program.RawHead.{RawHead}
use Rattle.c_tree.specs.declared.raw.program.RawItem.{RawItem}
use Rattle.c_tree.specs.declared.raw.program.RawItem.TheVariants as item
use Rattle.c_tree.specs.declared.raw.program.RawProgram.{RawProgram}
use Rattle.c_tree.specs.declared.raw.statement.RawTarget.{RawTarget}
use Rattle.c_tree.specs.declared.raw.statement.RawTarget.TheVariants as target
use Rattle.c_tree.specs.declared.raw.statement.RawArg.{RawArg}
use Rattle.c_tree.specs.declared.raw.statement.RawArg.TheVariants.{Value, Literal}
use Rattle.c_tree.specs.declared.raw.statement.RawTypeName.{RawTypeName}
use Rattle.c_tree.specs.declared.raw.statement.RawAmount.{RawAmount}
use Rattle.c_tree.specs.declared.raw.statement.RawAmount.TheVariants as amount
use Rattle.c_tree.specs.declared.raw.statement.RawLabel.{RawLabel}
use Rattle.c_tree.specs.declared.raw.statement.RawLabel.TheVariants.{Case, Default}
use Rattle.c_tree.specs.declared.raw.statement.RawStatement.{RawStatement, fold-RawStatement}
use Rattle.c_tree.specs.declared.raw.statement.RawStatement.TheOpen.{RawStatement-F, RawArm-F}
use Rattle.c_language.specs.Nesting.{nesting, type_nesting, params_nesting}
use Rattle.c_language.specs.Lists.{greatest}

abbrev pub arg_nesting : RawArg → ℕ
arg_nesting (Value a) = nesting a
arg_nesting (Literal text) = 0

-- a call stands above its arguments
abbrev pub call_nesting : List RawArg → ℕ
call_nesting args = 1 + greatest (map arg_nesting args)

-- sizeof is one node, and so is the `*` of a count of sizes
abbrev pub amount_nesting : RawAmount → ℕ
amount_nesting (amount.Size z) = 1
amount_nesting (amount.CountSize a z) = 1 + max (nesting a) 1
amount_nesting (amount.SizeCount z a) = 1 + max 1 (nesting a)
amount_nesting (amount.Count a) = nesting a

-- the call of malloc stands above its amount, and its cast above the call
abbrev pub heap_nesting : Option RawTypeName → RawAmount → ℕ
heap_nesting None n = 1 + amount_nesting n
heap_nesting (Some t) n = 1 + (1 + amount_nesting n)

-- what stands to the right nests so deep: `=` stands above both sides, and an initialiser beside its declarator
abbrev pub stored_nesting : RawTarget → ℕ → ℕ
stored_nesting target.None n = n
stored_nesting (target.Place a) n = 1 + max (nesting a) n
stored_nesting (target.Declared v) n = max (type_nesting v.shape) n

abbrev pub init_nesting : RawInit → ℕ
init_nesting init.None = 0
init_nesting (init.One a) = nesting a
init_nesting (init.Items all) = greatest (map nesting all)

abbrev pub label_nesting : RawLabel → ℕ
label_nesting (Case a) = nesting a
label_nesting Default = 0

abbrev pub of_value : Option RawExpr → ℕ
of_value None = 0
of_value (Some a) = nesting a

abbrev pub of_option : Option ℕ → ℕ
of_option None = 0
of_option (Some n) = n

-- each if, while, do, for, switch and bare block is a node, and so is the operator of an assignment, `++` or `--`
abbrev pub statement_step : RawStatement-F ℕ ℕ → ℕ
statement_step (RawStatement-F.Declare line v begin) = max (type_nesting v.shape) (init_nesting begin)
statement_step (RawStatement-F.Assign line a op b) = 1 + max (nesting a) (nesting b)
statement_step (RawStatement-F.Bump line a up before) = 1 + nesting a
statement_step (RawStatement-F.Call line t w args) = stored_nesting t (call_nesting args)
statement_step (RawStatement-F.Heap line t cast n) = stored_nesting t (heap_nesting cast n)
statement_step (RawStatement-F.If line a all other) = 1 + max (nesting a) (max (greatest all) (greatest other))
statement_step (RawStatement-F.While line a all) = 1 + max (nesting a) (greatest all)
statement_step (RawStatement-F.Do line a all) = 1 + max (greatest all) (nesting a)
statement_step (RawStatement-F.For line first a step all) = 1 + max (of_option first) (max (nesting a) (max (of_option step) (greatest all)))
statement_step (RawStatement-F.Switch line a arms) = 1 + max (nesting a) (greatest arms)
statement_step (RawStatement-F.Block line all) = 1 + greatest all
statement_step (RawStatement-F.Return line a) = of_value a

abbrev pub arm_step : RawArm-F ℕ ℕ → ℕ
arm_step a = max (greatest (map label_nesting a.labels)) (greatest a.body)

abbrev pub statement_nesting : RawStatement → ℕ
statement_nesting = fold-RawStatement ℕ ℕ statement_step arm_step

abbrev pub body_nesting : List RawStatement → ℕ
body_nesting all = greatest (map statement_nesting all)

-- ---- items

abbrev pub member_nesting : RawMember → ℕ
member_nesting m = type_nesting m.shape

-- the stars of a function's result
abbrev pub result_nesting : Option RawType → ℕ
result_nesting None = 0
result_nesting (Some t) = type_nesting t

abbrev pub head_nesting : RawHead → ℕ
head_nesting h = max (result_nesting h.result) (params_nesting h.params)

abbrev pub item_nesting : RawItem → ℕ
item_nesting (item.Include is_stdlib) = 0
item_nesting (item.Tag line w) = 0
item_nesting (item.Struct line w members) = greatest (map member_nesting members)
item_nesting (item.Global line v begin is_static) = max (type_nesting v.shape) (init_nesting begin)
item_nesting (item.Prototype line h) = head_nesting h
item_nesting (item.Define line h body) = max (head_nesting h) (body_nesting body)

abbrev pub items_nesting : List RawItem → ℕ
items_nesting all = greatest (map item_nesting all)

-- the nesting of a whole text
abbrev pub program_nesting : RawProgram → ℕ
program_nesting all = items_nesting all.items
