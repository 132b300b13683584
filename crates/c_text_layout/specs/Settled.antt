-- What the layout keeps of the tree of a text: all but lines, lengths of parameters, and whether a length was left to a list.
use Rattle.std.specs.Prelude.{◌≡◌, ℕ, ◌&&◌, nat_lt, is_none, if◌then◌else◌, Bool, true, List, [], ◌∷◌, None, map, decimal}
use Rattle.std.specs.List.{list_all}
use Rattle.c_tree.specs.declared.raw.expr.RawExpr.TheVariants as e
use Rattle.c_tree.specs.declared.raw.expr.RawLength.{RawLength}
use Rattle.c_tree.specs.declared.raw.expr.RawLength.TheVariants.{Written, Listed}
use Rattle.c_tree.specs.declared.raw.expr.RawType.{RawType, fold-RawType}
use Rattle.c_tree.specs.declared.raw.expr.RawType.TheOpen.{RawType-F}
use Rattle.c_tree.specs.declared.raw.expr.RawType.TheVariants as type
use Rattle.c_tree.specs.declared.raw.expr.RawVar.{RawVar}
use Rattle.c_tree.specs.declared.raw.program.RawMember.{RawMember}
use Rattle.c_tree.specs.declared.raw.program.RawParam.{RawParam}
use Rattle.c_tree.specs.declared.raw.program.RawHead.{RawHead}
use Rattle.c_tree.specs.declared.raw.program.RawItem.{RawItem}
use Rattle.c_tree.specs.declared.raw.program.RawItem.TheVariants as item
use Rattle.c_tree.specs.declared.raw.program.RawProgram.{RawProgram}
use Rattle.c_tree.specs.declared.raw.statement.RawStatement.{RawStatement, fold-RawStatement}
use Rattle.c_tree.specs.declared.raw.statement.RawStatement.TheOpen.{RawStatement-F, RawArm-F}
use Rattle.c_tree.specs.declared.raw.statement.RawStatement.TheVariants as s
use Rattle.c_tree.specs.declared.raw.statement.RawArm.{RawArm, roll-RawArm}
use Rattle.c_language.specs.DeclaredTypes.{item_count}

-- a length that a list gives is the number of its items, where there are fewer than 2 to the 32: a greater number may be no constant
abbrev pub settled_length : ℕ → RawLength → RawLength
settled_length items (Written a) = Written a
settled_length items Listed = if nat_lt items 4294967296 then Written (e.Constant (decimal items)) else Listed

abbrev pub settled_type_step : ℕ → RawType-F RawType → RawType
settled_type_step items (RawType-F.Integer t) = type.Integer t
settled_type_step items (RawType-F.PointerTo a) = type.PointerTo a
settled_type_step items (RawType-F.Array a n) = type.Array a (settled_length items n)
settled_type_step items (RawType-F.Struct tag) = type.Struct tag

-- a type whose list of initialisers has so many items
abbrev pub settled_type : ℕ → RawType → RawType
settled_type items = fold-RawType RawType (settled_type_step items)

abbrev pub settled_var : ℕ → RawVar → RawVar
settled_var items v = record { name = v.name; shape = settled_type items v.shape }

abbrev pub settled_step : RawStatement-F RawStatement RawArm → RawStatement
settled_step (RawStatement-F.Declare l v i) = s.Declare 0 (settled_var (item_count i) v) i
settled_step (RawStatement-F.Assign l a op b) = s.Assign 0 a op b
settled_step (RawStatement-F.Bump l a up before) = s.Bump 0 a up before
settled_step (RawStatement-F.Call l to f args) = s.Call 0 to f args
settled_step (RawStatement-F.Heap l to cast n) = s.Heap 0 to cast n
settled_step (RawStatement-F.If l a body other) = s.If 0 a body other
settled_step (RawStatement-F.While l a b) = s.While 0 a b
settled_step (RawStatement-F.Do l a b) = s.Do 0 a b
settled_step (RawStatement-F.For l i a step b) = s.For 0 i a step b
settled_step (RawStatement-F.Switch l a arms) = s.Switch 0 a arms
settled_step (RawStatement-F.Block l b) = s.Block 0 b
settled_step (RawStatement-F.Return l a) = s.Return 0 a

abbrev pub settled_arm_step : RawArm-F RawStatement RawArm → RawArm
settled_arm_step a = roll-RawArm a

-- what the layout keeps of a statement
abbrev pub settled : RawStatement → RawStatement
settled = fold-RawStatement RawStatement RawArm settled_step settled_arm_step

abbrev pub settled_member : RawMember → RawMember
settled_member m = record m { line = 0 }

abbrev pub settled_param : RawParam → RawParam
settled_param p = record p { line = 0; length = None }

abbrev pub settled_head : RawHead → RawHead
settled_head h = record h { params = map settled_param h.params }

abbrev pub settled_item : RawItem → RawItem
settled_item (item.Include is_stdlib) = item.Include is_stdlib
settled_item (item.Tag l name) = item.Tag 0 name
settled_item (item.Struct l name members) = item.Struct 0 name (map settled_member members)
settled_item (item.Global l v i is_static) = item.Global 0 (settled_var (item_count i) v) i is_static
settled_item (item.Prototype l h) = item.Prototype 0 (settled_head h)
settled_item (item.Define l h body) = item.Define 0 (settled_head h) (map settled body)

-- two trees are the same in all that the layout keeps
abbrev pub SameInLayout : RawProgram → RawProgram → Type 0
SameInLayout a b = map settled_item a.items ≡ map settled_item b.items

-- ---- what the layout drops and adds nowhere

-- no parameter has a length
abbrev pub lack_lengths : List RawParam → Bool
lack_lengths ps = list_all (λ (p : RawParam). is_none p.length) ps

abbrev pub item_lacks_lengths : RawItem → Bool
item_lacks_lengths (item.Include is_stdlib) = true
item_lacks_lengths (item.Tag l name) = true
item_lacks_lengths (item.Struct l name members) = true
item_lacks_lengths (item.Global l v i is_static) = true
item_lacks_lengths (item.Prototype l h) = lack_lengths h.params
item_lacks_lengths (item.Define l h body) = lack_lengths h.params

-- no parameter of the items has a length
abbrev pub items_lack_lengths : List RawItem → Bool
items_lack_lengths [] = true
items_lack_lengths (x ∷ xs) = item_lacks_lengths x && items_lack_lengths xs
