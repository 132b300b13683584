-- What the walk makes of parts of a text that stand outside statements, and what the program is made of.
use Rattle.std.specs.Prelude.{◌≡◌, ℕ, ◌≤◌, List, [], ◌∷◌, ◌++◌, map, Some, Result, Ok, Err, Contains}
use Rattle.c_tree.specs.declared.program.Function.{Function}
use Rattle.c_tree.specs.declared.program.Item.{Item}
use Rattle.c_tree.specs.declared.program.Member.{Member}
use Rattle.c_tree.specs.declared.program.Program.{Program}
use Rattle.c_tree.specs.declared.program.StructDef.{StructDef}
use Rattle.c_tree.specs.declared.raw.program.RawHead.{RawHead}
use Rattle.c_tree.specs.declared.raw.program.RawItem.{RawItem}
use Rattle.c_tree.specs.declared.raw.program.RawMember.{RawMember}
use Rattle.c_tree.specs.declared.raw.program.RawProgram.{RawProgram}
use Rattle.c_tree.specs.declared.raw.statement.RawStatement.{RawStatement}
use Rattle.c_tree.specs.declared.statement.Statement.{Statement}
use Rattle.c_language.specs.DeclaredTypes.{StructText, struct_texts}
use Rattle.c_language.specs.Limits.{longest, array_length}
use Rattle.c_language.specs.Phrases.{member_phrases}
use Rattle.c_language.specs.ProgramOf.{collected, body_of, function_tree, functions_from, item_tree, items_from, member_tree, struct_tree, program_of, variables_in}
use Rattle.c_language.specs.Scopes.{Scope, with_parameters}
use Rattle.c_types_base.specs.Tables.{scope_of}
use Rattle.c_types_base.specs.Stretches.{Stretch, inside_function}
use Rattle.c_types_trees.specs.declared.make_fault.MakeFault.{MakeFault}
use Rattle.c_types_trees.specs.declared.make_fault.MakeFault.TheVariants.{Length, NoMemory}
use Rattle.c_types_program.specs.declared.walk.Walk.{Walk}
use Rattle.c_types_trees.specs.FitPhrases.{AreFit}
use Rattle.c_types_program.specs.Statements.{Comes}

-- the phrases of a stretch of the text fit, where the walk is
abbrev pub FitsStretch : Stretch → Walk → Type 0
FitsStretch x w = AreFit w.tables.raw.now ((x w.tables.raw.now).gives (scope_of w.tables))

-- the walk has passed a stretch of the text
abbrev pub PassesStretch : Stretch → Walk → Walk → Type 0
PassesStretch x old new =
    Comes old new ((x old.tables.raw.now).after (scope_of old.tables)) (variables_in old.tables.raw.now ((x old.tables.raw.now).gives (scope_of old.tables)))

-- ---- functions and items

-- the statements of a function's body, behind its parameters, where the walk is
abbrev pub HasBody : Walk → RawHead → List RawStatement → List Statement → Type 0
HasBody w head body xs = body_of w.tables.raw.now body (with_parameters w.tables.raw.now head.params (inside_function (scope_of w.tables))) ≡ Some xs

-- a function that is defined where the walk is
abbrev pub HasFunction : Walk → ℕ → RawHead → List RawStatement → Function → Type 0
HasFunction w line head body f = function_tree w.tables.raw.now line head body (scope_of w.tables) ≡ Some f

-- an item where the walk is
abbrev pub HasItem : Walk → RawItem → Item → Type 0
HasItem w one x = item_tree w.tables.raw.now one (scope_of w.tables) ≡ Some x

-- the function of an item is added, where it defines one
abbrev pub AddsFunction : Walk → RawItem → List Function → List Function → Type 0
AddsFunction w one old new = map Some new ≡ map Some old ++ functions_from w.tables.raw.now (one ∷ []) (scope_of w.tables)

abbrev pub HasItems : Walk → List RawItem → List Item → Type 0
HasItems w all xs = collected (items_from w.tables.raw.now all (scope_of w.tables)) ≡ Some xs

abbrev pub HasFunctions : Walk → List RawItem → List Function → Type 0
HasFunctions w all fs = collected (functions_from w.tables.raw.now all (scope_of w.tables)) ≡ Some fs

-- ---- struct types

-- the members of a struct type are fit, wherever it is defined
pub record AreFitMembers (raw : RawProgram) (ms : List RawMember) : Type 0 where
  pub scope : Scope
  pub fit : AreFit raw (member_phrases scope [] ms)

-- and so for each struct type that items define
abbrev pub AreFitStructs : RawProgram → List RawItem → Type 0
AreFitStructs raw items = (d : StructText) → Contains (struct_texts items) d → AreFitMembers raw d.members

-- a member has an array of 2^32 elements or more
abbrev pub IsLongMember : RawProgram → RawMember → Type 0
IsLongMember raw m = (x : Member) → member_tree raw m ≡ Some x → 4294967296 ≤ longest x.shape

abbrev pub HasLongMember : RawProgram → List RawMember → Type 0
HasLongMember raw ms = (m : RawMember) × Contains ms m × IsLongMember raw m

abbrev pub HasLongStruct : RawProgram → List RawItem → Type 0
HasLongStruct raw items = (d : StructText) × Contains (struct_texts items) d × HasLongMember raw d.members

-- the members where their types are made
abbrev pub MakesMembers : RawProgram → List RawMember → Result (List Member) MakeFault → Type 0
MakesMembers raw ms (Ok out) = collected (map (member_tree raw) ms) ≡ Some out
MakesMembers raw ms (Err Length) = HasLongMember raw ms
MakesMembers raw ms (Err NoMemory) = Unit {0}

-- a struct type where those of its members are made
abbrev pub MakesStruct : RawProgram → StructText → Result StructDef MakeFault → Type 0
MakesStruct raw d (Ok out) = struct_tree raw d ≡ Some out
MakesStruct raw d (Err Length) = HasLongMember raw d.members
MakesStruct raw d (Err NoMemory) = Unit {0}

-- the struct type of an item is added, where it defines one and its members are made
abbrev pub AddsStruct : RawProgram → RawItem → List StructDef → List StructDef → Result (Unit {0}) MakeFault → Type 0
AddsStruct raw one old new (Ok x) = map Some new ≡ map Some old ++ map (struct_tree raw) (struct_texts (one ∷ []))
AddsStruct raw one old new (Err Length) = HasLongStruct raw (one ∷ [])
AddsStruct raw one old new (Err NoMemory) = Unit {0}

-- the struct types that items define, where they are made
abbrev pub MakesStructs : RawProgram → List RawItem → Result (List StructDef) MakeFault → Type 0
MakesStructs raw items (Ok out) = collected (map (struct_tree raw) (struct_texts items)) ≡ Some out
MakesStructs raw items (Err Length) = HasLongStruct raw items
MakesStructs raw items (Err NoMemory) = Unit {0}

-- ---- the whole

-- the program of a text, or that one of its arrays has 2^32 elements or more, but for want of memory
abbrev pub MakesProgram : RawProgram → Result Program MakeFault → Type 0
MakesProgram raw (Ok p) = program_of raw ≡ Some p
MakesProgram raw (Err Length) = (p : Program) → program_of raw ≡ Some p → 4294967296 ≤ array_length p
MakesProgram raw (Err NoMemory) = Unit {0}
