-- Trees of texts in which no text holds a line feed: names, spellings of constants, and strings.
use Rattle.std.proofs.Common.{◌≡◌, List, map, Bool, true, ◌&&◌, sym, ap, ◌∙◌}
use Rattle.std.specs.List.{list_all}
use Rattle.std.specs.Option.{option_map_or}
use Rattle.c_tree.specs.declared.raw.expr.RawExpr.{RawExpr, fold-RawExpr}
use Rattle.c_tree.specs.declared.raw.expr.RawExpr.TheOpen.{RawExpr-F}
use Rattle.c_tree.specs.declared.raw.expr.RawLength.{RawLength}
use Rattle.c_tree.specs.declared.raw.expr.RawLength.TheVariants.{Written, Listed}
use Rattle.c_tree.specs.declared.raw.expr.RawType.{RawType, roll-RawType, map-RawType, fold-RawType, fold-roll-RawType}
use Rattle.c_tree.specs.declared.raw.expr.RawType.TheOpen.{RawType-F}
use Rattle.c_tree.specs.declared.raw.expr.RawVar.{RawVar}
use Rattle.c_tree.specs.declared.raw.program.RawInit.{RawInit}
use Rattle.c_tree.specs.declared.raw.program.RawInit.TheVariants as init
use Rattle.c_tree.specs.declared.raw.program.RawMember.{RawMember}
use Rattle.c_tree.specs.declared.raw.program.RawParam.{RawParam}
use Rattle.c_tree.specs.declared.raw.program.RawHead.{RawHead}
use Rattle.c_tree.specs.declared.raw.program.RawItem.{RawItem}
use Rattle.c_tree.specs.declared.raw.program.RawItem.TheVariants.{Include, Tag, Struct, Global, Prototype, Define}
use Rattle.c_tree.specs.declared.raw.statement.RawTarget.{RawTarget}
use Rattle.c_tree.specs.declared.raw.statement.RawTarget.TheVariants as target
use Rattle.c_tree.specs.declared.raw.statement.RawArg.{RawArg}
use Rattle.c_tree.specs.declared.raw.statement.RawArg.TheVariants.{Value, Literal}
use Rattle.c_tree.specs.declared.raw.statement.RawTypeName.{RawTypeName}
use Rattle.c_tree.specs.declared.raw.statement.RawSize.{RawSize}
use Rattle.c_tree.specs.declared.raw.statement.RawSize.TheVariants as size
use Rattle.c_tree.specs.declared.raw.statement.RawAmount.{RawAmount}
use Rattle.c_tree.specs.declared.raw.statement.RawAmount.TheVariants as amount
use Rattle.c_tree.specs.declared.raw.statement.RawLabel.{RawLabel}
use Rattle.c_tree.specs.declared.raw.statement.RawLabel.TheVariants.{Case, Default}
use Rattle.c_tree.specs.declared.raw.statement.RawStatement.{RawStatement, roll-RawStatement, map-RawStatement, fold-RawStatement, fold-roll-RawStatement}
use Rattle.c_tree.specs.declared.raw.statement.RawStatement.TheOpen.{RawStatement-F, RawArm-F}
use Rattle.c_tree.specs.declared.raw.statement.RawArm.{RawArm, fold-RawArm}
use Rattle.c_print.specs.Feedless.{feedless}
use Rattle.c_language.specs.Lists.{if_there, all_true}

-- ---- expressions and types

abbrev pub raw_expr_step : RawExpr-F Bool → Bool
raw_expr_step (RawExpr-F.Constant text) = feedless text
raw_expr_step RawExpr-F.Null = true
raw_expr_step RawExpr-F.Eof = true
raw_expr_step (RawExpr-F.Variable name) = feedless name
raw_expr_step (RawExpr-F.Unary op a) = a
raw_expr_step (RawExpr-F.Deref a) = a
raw_expr_step (RawExpr-F.AddressOf a) = a
raw_expr_step (RawExpr-F.Binary op a b) = a && b
raw_expr_step (RawExpr-F.AndAlso a b) = a && b
raw_expr_step (RawExpr-F.OrElse a b) = a && b
raw_expr_step (RawExpr-F.Choose c a b) = c && (a && b)
raw_expr_step (RawExpr-F.Cast t a) = a
raw_expr_step (RawExpr-F.Index a i) = a && i
raw_expr_step (RawExpr-F.Member a m) = a && feedless m
raw_expr_step (RawExpr-F.Arrow a m) = a && feedless m
raw_expr_step (RawExpr-F.Paren a) = a

abbrev pub raw_expr_feedless : RawExpr → Bool
raw_expr_feedless = fold-RawExpr Bool raw_expr_step

abbrev pub raw_length_feedless : RawLength → Bool
raw_length_feedless (Written a) = raw_expr_feedless a
raw_length_feedless Listed = true

abbrev pub raw_type_step : RawType-F Bool → Bool
raw_type_step (RawType-F.Integer t) = true
raw_type_step (RawType-F.PointerTo a) = a
raw_type_step (RawType-F.Array a n) = a && raw_length_feedless n
raw_type_step (RawType-F.Struct tag) = true

abbrev pub raw_type_feedless : RawType → Bool
raw_type_feedless = fold-RawType Bool raw_type_step

abbrev pub raw_var_feedless : RawVar → Bool
raw_var_feedless v = feedless v.name && raw_type_feedless v.shape

-- ---- statements

abbrev pub raw_init_feedless : RawInit → Bool
raw_init_feedless init.None = true
raw_init_feedless (init.One a) = raw_expr_feedless a
raw_init_feedless (init.Items all) = list_all raw_expr_feedless all

abbrev pub raw_target_feedless : RawTarget → Bool
raw_target_feedless target.None = true
raw_target_feedless (target.Place a) = raw_expr_feedless a
raw_target_feedless (target.Declared v) = raw_var_feedless v

abbrev pub raw_arg_feedless : RawArg → Bool
raw_arg_feedless (Value a) = raw_expr_feedless a
raw_arg_feedless (Literal text) = feedless text

abbrev pub raw_name_feedless : RawTypeName → Bool
raw_name_feedless t = raw_type_feedless t.base

abbrev pub raw_size_feedless : RawSize → Bool
raw_size_feedless (size.Type t) = raw_name_feedless t
raw_size_feedless (size.Pointee w closed) = true

abbrev pub raw_amount_feedless : RawAmount → Bool
raw_amount_feedless (amount.Size z) = raw_size_feedless z
raw_amount_feedless (amount.CountSize a z) = raw_expr_feedless a && raw_size_feedless z
raw_amount_feedless (amount.SizeCount z a) = raw_size_feedless z && raw_expr_feedless a
raw_amount_feedless (amount.Count a) = raw_expr_feedless a

abbrev pub raw_label_feedless : RawLabel → Bool
raw_label_feedless (Case a) = raw_expr_feedless a
raw_label_feedless Default = true

abbrev pub raw_statement_step : RawStatement-F Bool Bool → Bool
raw_statement_step (RawStatement-F.Declare l v i) = raw_var_feedless v && raw_init_feedless i
raw_statement_step (RawStatement-F.Assign l a op b) = raw_expr_feedless a && raw_expr_feedless b
raw_statement_step (RawStatement-F.Bump l a up before) = raw_expr_feedless a
raw_statement_step (RawStatement-F.Call l to f args) = raw_target_feedless to && list_all raw_arg_feedless args
raw_statement_step (RawStatement-F.Heap l to cast n) = raw_target_feedless to && (option_map_or raw_name_feedless cast true && raw_amount_feedless n)
raw_statement_step (RawStatement-F.If l e a b) = raw_expr_feedless e && (all_true a && all_true b)
raw_statement_step (RawStatement-F.While l e b) = raw_expr_feedless e && all_true b
raw_statement_step (RawStatement-F.Do l e b) = raw_expr_feedless e && all_true b
raw_statement_step (RawStatement-F.For l i e k b) = if_there i && (raw_expr_feedless e && (if_there k && all_true b))
raw_statement_step (RawStatement-F.Switch l e arms) = raw_expr_feedless e && all_true arms
raw_statement_step (RawStatement-F.Block l b) = all_true b
raw_statement_step (RawStatement-F.Return l a) = option_map_or raw_expr_feedless a true

abbrev pub raw_arm_step : RawArm-F Bool Bool → Bool
raw_arm_step a = list_all raw_label_feedless a.labels && all_true a.body

abbrev pub raw_statement_feedless : RawStatement → Bool
raw_statement_feedless = fold-RawStatement Bool Bool raw_statement_step raw_arm_step

abbrev pub raw_arm_feedless : RawArm → Bool
raw_arm_feedless = fold-RawArm Bool Bool raw_statement_step raw_arm_step

abbrev pub raw_body_feedless : List RawStatement → Bool
raw_body_feedless body = all_true (map raw_statement_feedless body)

-- ---- items

abbrev pub raw_member_feedless : RawMember → Bool
raw_member_feedless m = feedless m.name && raw_type_feedless m.shape

abbrev pub raw_param_feedless : RawParam → Bool
raw_param_feedless p = option_map_or feedless p.name true && raw_type_feedless p.shape

abbrev pub raw_head_feedless : RawHead → Bool
raw_head_feedless h = feedless h.name && (option_map_or raw_type_feedless h.result true && list_all raw_param_feedless h.params)

abbrev pub raw_item_feedless : RawItem → Bool
raw_item_feedless (Include is_stdlib) = true
raw_item_feedless (Tag l w) = true
raw_item_feedless (Struct l w members) = feedless w && list_all raw_member_feedless members
raw_item_feedless (Global l v i is_static) = raw_var_feedless v && raw_init_feedless i
raw_item_feedless (Prototype l h) = raw_head_feedless h
raw_item_feedless (Define l h body) = raw_head_feedless h && raw_body_feedless body

abbrev pub raw_items_feedless : List RawItem → Bool
raw_items_feedless items = list_all raw_item_feedless items

-- ---- a tree by its outermost form

pub type_by : {a : RawType} (y : RawType-F RawType) → roll-RawType y ≡ a → raw_type_step (map-RawType RawType Bool raw_type_feedless y) ≡ true → raw_type_feedless a ≡ true
type_by y is h = ap raw_type_feedless (sym is) ∙ fold-roll-RawType Bool raw_type_step y ∙ h

pub statement_by : {a : RawStatement} (y : RawStatement-F RawStatement RawArm) → roll-RawStatement y ≡ a
    → raw_statement_step (map-RawStatement RawStatement RawArm Bool Bool raw_statement_feedless raw_arm_feedless y) ≡ true → raw_statement_feedless a ≡ true
statement_by y is h = ap raw_statement_feedless (sym is) ∙ fold-roll-RawStatement Bool Bool raw_statement_step raw_arm_step y ∙ h
