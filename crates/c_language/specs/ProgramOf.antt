-- The program that a text has: its tree with names as numbers and with types.
use Rattle.std.specs.Prelude.{ℕ, ◌+◌, ℤ, Bool, true, false, if◌then◌else◌, List, [], ◌∷◌, ◌++◌, map, Option, Some, None, option_map, option_and_then, is_some, bytes_eq, codes, slice_get, decimal}
use Rattle.std.specs.List.{position}
use Rattle.c_arith.specs.declared.int_type.IntType.{IntType}
use Rattle.c_arith.specs.IntType.{promote, convert}
use Rattle.c_tree.specs.declared.types.CType.{CType}
use Rattle.c_tree.specs.declared.types.CType.TheVariants as type
use Rattle.c_tree.specs.declared.expr.Expr.{Expr}
use Rattle.c_tree.specs.declared.expr.Expr.TheVariants as e
use Rattle.c_tree.specs.declared.expr.MemberId.{MemberId}
use Rattle.c_tree.specs.declared.statement.Target.{Target}
use Rattle.c_tree.specs.declared.statement.Target.TheVariants as to_place
use Rattle.c_tree.specs.declared.statement.Size.{Size}
use Rattle.c_tree.specs.declared.statement.Size.TheVariants as measure
use Rattle.c_tree.specs.declared.statement.Amount.{Amount}
use Rattle.c_tree.specs.declared.statement.Amount.TheVariants as quantity
use Rattle.c_tree.specs.declared.statement.Label.{Label}
use Rattle.c_tree.specs.declared.statement.Label.TheVariants as arm_label
use Rattle.c_tree.specs.declared.statement.Arm.{Arm, roll-Arm}
use Rattle.c_tree.specs.declared.statement.Statement.{Statement}
use Rattle.c_tree.specs.declared.statement.Statement.TheVariants as s
use Rattle.c_tree.specs.declared.program.Init.{Init}
use Rattle.c_tree.specs.declared.program.Init.TheVariants as begins
use Rattle.c_tree.specs.declared.program.Var.{Var}
use Rattle.c_tree.specs.declared.program.Member.{Member}
use Rattle.c_tree.specs.declared.program.StructDef.{StructDef}
use Rattle.c_tree.specs.declared.program.Function.{Function}
use Rattle.c_tree.specs.declared.program.Item.{Item}
use Rattle.c_tree.specs.declared.program.Item.TheVariants as item
use Rattle.c_tree.specs.declared.program.Program.{Program}
use Rattle.c_tree.specs.declared.raw.expr.RawExpr.{RawExpr, fold-RawExpr}
use Rattle.c_tree.specs.declared.raw.expr.RawExpr.TheOpen.{RawExpr-F}
use Rattle.c_tree.specs.declared.raw.expr.RawLength.{RawLength}
use Rattle.c_tree.specs.declared.raw.expr.RawLength.TheVariants as length_of
use Rattle.c_tree.specs.declared.raw.expr.RawType.{RawType, fold-RawType}
use Rattle.c_tree.specs.declared.raw.expr.RawType.TheOpen.{RawType-F}
use Rattle.c_tree.specs.declared.raw.expr.RawVar.{RawVar}
use Rattle.c_tree.specs.declared.raw.program.RawInit.{RawInit}
use Rattle.c_tree.specs.declared.raw.program.RawInit.TheVariants as init
use Rattle.c_tree.specs.declared.raw.program.RawMember.{RawMember}
use Rattle.c_tree.specs.declared.raw.program.RawParam.{RawParam}
use Rattle.c_tree.specs.declared.raw.program.RawHead.{RawHead}
use Rattle.c_tree.specs.declared.raw.program.RawItem.{RawItem}
use Rattle.c_tree.specs.declared.raw.program.RawItem.TheVariants.{Include, Tag, Struct, Global, Prototype, Define}
use Rattle.c_tree.specs.declared.raw.program.RawProgram.{RawProgram}
use Rattle.c_tree.specs.declared.raw.statement.RawTarget.{RawTarget}
use Rattle.c_tree.specs.declared.raw.statement.RawTarget.TheVariants as target
use Rattle.c_tree.specs.declared.raw.statement.RawArg.{RawArg}
use Rattle.c_tree.specs.declared.raw.statement.RawArg.TheVariants as arg
use Rattle.c_tree.specs.declared.raw.statement.RawTypeName.{RawTypeName}
use Rattle.c_tree.specs.declared.raw.statement.RawSize.{RawSize}
use Rattle.c_tree.specs.declared.raw.statement.RawSize.TheVariants as size
use Rattle.c_tree.specs.declared.raw.statement.RawAmount.{RawAmount}
use Rattle.c_tree.specs.declared.raw.statement.RawAmount.TheVariants as amount
use Rattle.c_tree.specs.declared.raw.statement.RawLabel.{RawLabel}
use Rattle.c_tree.specs.declared.raw.statement.RawLabel.TheVariants as label
use Rattle.c_tree.specs.declared.raw.statement.RawStatement.{RawStatement, fold-RawStatement}
use Rattle.c_tree.specs.declared.raw.statement.RawStatement.TheOpen.{RawStatement-F, RawArm-F}
use Rattle.c_tree.specs.declared.raw.statement.RawArm.{RawArm, fold-RawArm}
use Rattle.c_language.specs.Words.{Bytes, binary_sign, int_words, signed}
use Rattle.c_language.specs.ConstantEvaluation.{literal_type, literal_value, value_of_constant, both}
use Rattle.c_language.specs.DeclaredTypes.{StructText, defined_structs, struct_id, function_id, length_in, item_count}
use Rattle.c_language.specs.Scopes.{Scope, Meaning, outset, meaning_in, with_variable, opened, numbered, entered, with_target, Scoped, in_order, after_block, part_gives, scope_of_test, scope_of_body, after_step, after_arm}
use Rattle.c_language.specs.ExprTypes.{operand_step, type_of, pointed, struct_of, integer_of}
use Rattle.c_language.specs.declared.expr_type.Operand.{Operand}
use Rattle.c_language.specs.Phrases.{Stand, InFile, InHead, InBlock, InArm, InFor, Part, Declares, Phrases, phrases, after_item, scope_at_end}
use Rattle.c_language.specs.CallRules.{format_in, later_args, only_arg}
use Rattle.c_language.specs.TypeGrammar.{named_type}

-- all members of a list, where each is there
abbrev pub collected : {A : Type 0} → List (Option A) → Option (List A)
collected [] = Some []
collected (x ∷ xs) = option_and_then (λ y. option_map (λ ys. y ∷ ys) (collected xs)) x

-- a part that may be missing, where it is there or isn't to be
abbrev pub optional : {A : Type 0} → Option (Option A) → Option (Option A)
optional None = Some None
optional (Some None) = None
optional (Some (Some x)) = Some (Some x)

-- ---- types

abbrev pub raw_words_step : RawExpr-F Bytes → Bytes
raw_words_step (RawExpr-F.Constant text) = text
raw_words_step RawExpr-F.Null = codes "NULL"
raw_words_step RawExpr-F.Eof = codes "EOF"
raw_words_step (RawExpr-F.Variable name) = name
raw_words_step (RawExpr-F.Unary op a) = signed op a
raw_words_step (RawExpr-F.Deref a) = codes "*" ++ a
raw_words_step (RawExpr-F.AddressOf a) = codes "&" ++ a
raw_words_step (RawExpr-F.Binary op a b) = a ++ (codes " " ++ (binary_sign op ++ (codes " " ++ b)))
raw_words_step (RawExpr-F.AndAlso a b) = a ++ (codes " && " ++ b)
raw_words_step (RawExpr-F.OrElse a b) = a ++ (codes " || " ++ b)
raw_words_step (RawExpr-F.Choose c a b) = c ++ (codes " ? " ++ (a ++ (codes " : " ++ b)))
raw_words_step (RawExpr-F.Cast t a) = codes "(" ++ (int_words t ++ (codes ")" ++ a))
raw_words_step (RawExpr-F.Index a i) = a ++ (codes "[" ++ (i ++ codes "]"))
raw_words_step (RawExpr-F.Member a m) = a ++ (codes "." ++ m)
raw_words_step (RawExpr-F.Arrow a m) = a ++ (codes "->" ++ m)
raw_words_step (RawExpr-F.Paren a) = codes "(" ++ (a ++ codes ")")

-- the words of an expression of the text, in the layout
abbrev pub raw_words : RawExpr → Bytes
raw_words = fold-RawExpr Bytes raw_words_step

-- the words of a length: its own, or decimal digits where a list gives it
abbrev pub length_words : ℕ → RawLength → Bytes
length_words items (length_of.Written a) = raw_words a
length_words items length_of.Listed = decimal items

abbrev pub ctype_step : RawProgram → ℕ → RawType-F (Option CType) → Option CType
ctype_step raw items (RawType-F.Integer t) = Some (type.Integer t)
ctype_step raw items (RawType-F.PointerTo a) = option_map type.PointerTo a
ctype_step raw items (RawType-F.Array a n) = both (λ (t : CType) (k : ℕ). type.Array t k (length_words items n)) a (length_in items n)
ctype_step raw items (RawType-F.Struct tag) = option_map type.Struct (struct_id raw tag)

-- a type, where a list of initialisers has so many items
abbrev pub ctype_with : RawProgram → ℕ → RawType → Option CType
ctype_with raw items = fold-RawType (Option CType) (ctype_step raw items)

abbrev pub ctype : RawProgram → RawType → Option CType
ctype raw = ctype_with raw 0

abbrev pub ctype_if : RawProgram → Option RawType → Option (Option CType)
ctype_if raw t = optional (option_map (ctype raw) t)

-- ---- expressions

-- an expression as an operand, and in the tree
pub record Told : Type 0 where
  pub operand : Option Operand
  pub tree : Option Expr

abbrev pub told : RawProgram → Scope → RawExpr-F (Option Operand) → Option Expr → Told
told raw scope layer tree = record { operand = operand_step raw scope layer; tree = tree }

abbrev pub variable_number : Option Meaning → Option ℕ
variable_number None = None
variable_number (Some Meaning.Function) = None
variable_number (Some (Meaning.Variable id t)) = Some id

abbrev pub index_of_member : RawProgram → Bytes → ℕ → Option ℕ
index_of_member raw name s =
    option_and_then (λ (d : StructText). position (λ (m : RawMember). bytes_eq m.name name) d.members) (slice_get (defined_structs raw) s)

-- the number of a member of a struct type
abbrev pub member_id : RawProgram → Bytes → ℕ → Option MemberId
member_id raw name s = option_map (λ (i : ℕ). record { owner = s; index = i }) (index_of_member raw name s)

abbrev pub of_operand : RawProgram → Bytes → Option Operand → Option MemberId
of_operand raw name a = option_and_then (λ (x : Operand). option_and_then (member_id raw name) (struct_of x.shape)) a

abbrev pub of_pointed : RawProgram → Bytes → Option Operand → Option MemberId
of_pointed raw name a = option_and_then (λ (x : Operand). option_and_then (λ t. option_and_then (member_id raw name) (struct_of t)) (pointed x)) a

abbrev pub told_step : RawProgram → Scope → RawExpr-F Told → Told
told_step raw scope (RawExpr-F.Constant text) =
    told raw scope (RawExpr-F.Constant text) (Some (e.Constant text (literal_type text) (literal_value text)))
told_step raw scope RawExpr-F.Null = told raw scope RawExpr-F.Null (Some e.Null)
told_step raw scope RawExpr-F.Eof = told raw scope RawExpr-F.Eof (Some e.Eof)
told_step raw scope (RawExpr-F.Variable name) = told raw scope (RawExpr-F.Variable name) (option_map e.Variable (variable_number (meaning_in scope name)))
told_step raw scope (RawExpr-F.Unary op a) = told raw scope (RawExpr-F.Unary op a.operand) (option_map (e.Unary op) a.tree)
told_step raw scope (RawExpr-F.Deref a) = told raw scope (RawExpr-F.Deref a.operand) (option_map e.Deref a.tree)
told_step raw scope (RawExpr-F.AddressOf a) = told raw scope (RawExpr-F.AddressOf a.operand) (option_map e.AddressOf a.tree)
told_step raw scope (RawExpr-F.Binary op a b) = told raw scope (RawExpr-F.Binary op a.operand b.operand) (both (e.Binary op) a.tree b.tree)
told_step raw scope (RawExpr-F.AndAlso a b) = told raw scope (RawExpr-F.AndAlso a.operand b.operand) (both e.AndAlso a.tree b.tree)
told_step raw scope (RawExpr-F.OrElse a b) = told raw scope (RawExpr-F.OrElse a.operand b.operand) (both e.OrElse a.tree b.tree)
told_step raw scope (RawExpr-F.Choose c a b) =
    told raw scope (RawExpr-F.Choose c.operand a.operand b.operand) (option_and_then (λ (x : Expr). both (e.Choose x) a.tree b.tree) c.tree)
told_step raw scope (RawExpr-F.Cast t a) = told raw scope (RawExpr-F.Cast t a.operand) (option_map (e.Cast t) a.tree)
told_step raw scope (RawExpr-F.Index a i) = told raw scope (RawExpr-F.Index a.operand i.operand) (both e.Index a.tree i.tree)
told_step raw scope (RawExpr-F.Member a m) =
    told raw scope (RawExpr-F.Member a.operand m) (option_and_then (λ (x : Expr). option_map (e.Member x) (of_operand raw m a.operand)) a.tree)
told_step raw scope (RawExpr-F.Arrow a m) =
    told raw scope (RawExpr-F.Arrow a.operand m) (option_and_then (λ (x : Expr). option_map (e.Arrow x) (of_pointed raw m a.operand)) a.tree)
told_step raw scope (RawExpr-F.Paren a) = told raw scope (RawExpr-F.Paren a.operand) (option_map e.Paren a.tree)

abbrev pub told_of : RawProgram → Scope → RawExpr → Told
told_of raw scope = fold-RawExpr Told (told_step raw scope)

-- an expression in the tree, where its scope is in force: None where a name or a member isn't there
abbrev pub expr_of : RawProgram → Scope → RawExpr → Option Expr
expr_of raw scope a = (told_of raw scope a).tree

abbrev pub exprs_of : RawProgram → Scope → List RawExpr → Option (List Expr)
exprs_of raw scope es = collected (map (expr_of raw scope) es)

-- ---- statements

abbrev pub init_of : RawProgram → Scope → RawInit → Option Init
init_of raw scope init.None = Some begins.None
init_of raw scope (init.One a) = option_map begins.One (expr_of raw scope a)
init_of raw scope (init.Items es) = option_map begins.Items (exprs_of raw scope es)

-- a declaration has a number where it has an initialiser
abbrev pub declaration_id : RawInit → ℕ → Option ℕ
declaration_id init.None n = None
declaration_id (init.One a) n = Some n
declaration_id (init.Items es) n = Some n

-- a target; a variable that it declares has the next number
abbrev pub target_tree : RawProgram → Scope → RawTarget → Option Target
target_tree raw scope target.None = Some to_place.None
target_tree raw scope (target.Place a) = option_map to_place.Place (expr_of raw scope a)
target_tree raw scope (target.Declared var) = Some (to_place.Declared scope.variables)

abbrev pub arg_tree : RawProgram → Scope → RawArg → Option Expr
arg_tree raw scope (arg.Value a) = expr_of raw scope a
arg_tree raw scope (arg.Literal text) = None

abbrev pub args_tree : RawProgram → Scope → List RawArg → Option (List Expr)
args_tree raw scope args = collected (map (arg_tree raw scope) args)

abbrev pub only_tree : RawProgram → Scope → List RawArg → Option Expr
only_tree raw scope args = option_and_then (expr_of raw scope) (only_arg args)

abbrev pub print_tree : RawProgram → Scope → ℕ → ℕ → List RawArg → Option Statement
print_tree raw scope id line args =
    option_and_then (λ (text : Bytes). option_map (s.Print id line text) (args_tree raw scope (later_args args))) (format_in args)

abbrev pub invoke_tree : RawProgram → Scope → ℕ → ℕ → Option Target → Bytes → List RawArg → Option Statement
invoke_tree raw scope id line to f args =
    option_and_then (λ (t : Target). both (s.Invoke id line t) (function_id raw f) (args_tree raw scope args)) to

-- a call: those of the library are statements of their own. The scope is that of the arguments
abbrev pub call_tree : RawProgram → Scope → ℕ → ℕ → Option Target → Bytes → List RawArg → Option Statement
call_tree raw scope id line to f args =
    if bytes_eq f (codes "getchar") then option_map (s.Fetch id line) to
    else (if bytes_eq f (codes "putchar") then option_map (s.Write id line) (only_tree raw scope args)
    else (if bytes_eq f (codes "printf") then print_tree raw scope id line args
    else (if bytes_eq f (codes "free") then option_map (s.Release id line) (only_tree raw scope args)
    else invoke_tree raw scope id line to f args)))

abbrev pub size_tree : RawProgram → Scope → RawSize → Option Size
size_tree raw scope (size.Type t) = option_map measure.Type (ctype raw (named_type t))
size_tree raw scope (size.Pointee name closed) = option_map (λ (x : ℕ). measure.Pointee x closed) (variable_number (meaning_in scope name))

abbrev pub amount_tree : RawProgram → Scope → RawAmount → Option Amount
amount_tree raw scope (amount.Size m) = option_map quantity.Size (size_tree raw scope m)
amount_tree raw scope (amount.CountSize a m) =
    option_and_then (λ (x : Expr). option_map (quantity.CountSize x) (size_tree raw scope m)) (expr_of raw scope a)
amount_tree raw scope (amount.SizeCount m a) =
    option_and_then (λ (x : Size). option_map (quantity.SizeCount x) (expr_of raw scope a)) (size_tree raw scope m)
amount_tree raw scope (amount.Count a) = option_map quantity.Count (expr_of raw scope a)

abbrev pub heap_tree : RawProgram → Scope → ℕ → ℕ → Option Target → Option RawTypeName → RawAmount → Option Statement
heap_tree raw scope id line to cast n =
    option_and_then (λ (t : Target). option_and_then (λ (c : Option CType). option_map (s.Heap id line t c) (amount_tree raw scope n)) (ctype_if raw (option_map named_type cast))) to

-- the value of a case, converted to the promoted type of the switch (6.8.4.2, paragraph 5)
abbrev pub case_tree : RawProgram → Scope → IntType → RawExpr → Option Label
case_tree raw scope t a =
    option_and_then (λ (x : Expr). option_map (λ (z : ℤ). arm_label.Case x (convert z t)) (value_of_constant a)) (expr_of raw scope a)

abbrev pub label_tree : RawProgram → Scope → IntType → RawLabel → Option Label
label_tree raw scope t (label.Case a) = case_tree raw scope t a
label_tree raw scope t label.Default = Some arm_label.Default

abbrev pub arm_tree : List Label → List Statement → Arm
arm_tree labels body = roll-Arm (record { labels = labels; body = body })

-- an arm of a switch, by the promoted type of the switch
abbrev pub ArmTree : Type 0
ArmTree = IntType → Option Arm

abbrev pub arm_tree_step : RawProgram → RawArm-F (Scoped (Option Statement)) (Scoped ArmTree) → Scoped ArmTree
arm_tree_step raw a = record {
  gives = λ (scope : Scope) (t : IntType). both arm_tree (collected (map (label_tree raw scope t) a.labels)) (collected (in_order a.body scope));
  after = after_arm a;
}

-- the statements of a block
abbrev pub block_tree : List (Scoped (Option Statement)) → Scope → Option (List Statement)
block_tree body scope = collected (in_order body (opened scope))

abbrev pub at_type : IntType → List ArmTree → Option (List Arm)
at_type t arms = collected (map (λ (a : ArmTree). a t) arms)

-- the promoted type of a switch
abbrev pub switch_type : RawProgram → Scope → RawExpr → Option IntType
switch_type raw scope a = option_map promote (option_and_then integer_of (type_of raw scope a))

abbrev pub part_tree : Option (Scoped (Option Statement)) → Scope → Option (Option Statement)
part_tree part scope = optional (part_gives part scope)

abbrev pub for_tree : ℕ → ℕ → Option (Option Statement) → Option Expr → Option (Option Statement) → Option (List Statement) → Option Statement
for_tree id line i test step body =
    option_and_then (λ (x : Option Statement). option_and_then (λ (a : Expr). both (s.For id line x a) step body) test) i

abbrev pub tree_step : RawProgram → RawStatement-F (Scoped (Option Statement)) (Scoped ArmTree) → Scope → Option Statement
tree_step raw (RawStatement-F.Declare l var i) scope =
    option_map (s.Declare (declaration_id i scope.statements) l scope.variables) (init_of raw (with_variable raw var i scope) i)
tree_step raw (RawStatement-F.Assign l left op right) scope =
    both (λ (a b : Expr). s.Assign scope.statements l a op b) (expr_of raw scope left) (expr_of raw scope right)
tree_step raw (RawStatement-F.Bump l left up before) scope =
    option_map (λ (a : Expr). s.Bump scope.statements l a up before) (expr_of raw scope left)
tree_step raw (RawStatement-F.Call l to f args) scope =
    call_tree raw (with_target raw to scope) scope.statements l (target_tree raw scope to) f args
tree_step raw (RawStatement-F.Heap l to cast n) scope =
    heap_tree raw (with_target raw to scope) scope.statements l (target_tree raw scope to) cast n
tree_step raw (RawStatement-F.If l test a b) scope =
    option_and_then (λ (x : Expr). both (s.If scope.statements l x) (block_tree a (numbered scope)) (block_tree b (after_block a (numbered scope)))) (expr_of raw scope test)
tree_step raw (RawStatement-F.While l test b) scope =
    both (s.While scope.statements l) (expr_of raw scope test) (block_tree b (numbered scope))
tree_step raw (RawStatement-F.Do l test b) scope =
    both (s.Do scope.statements l) (expr_of raw scope test) (block_tree b (numbered scope))
tree_step raw (RawStatement-F.For l i test step b) scope =
    for_tree scope.statements l (part_tree i (opened (numbered scope))) (expr_of raw (scope_of_test i scope) test)
    (part_tree step (scope_of_test i scope)) (block_tree b (scope_of_body i step scope))
tree_step raw (RawStatement-F.Switch l test arms) scope =
    option_and_then (λ (x : Expr). option_and_then (λ (t : IntType). option_map (s.Switch scope.statements l x) (at_type t (in_order arms (opened (numbered scope))))) (switch_type raw scope test)) (expr_of raw scope test)
tree_step raw (RawStatement-F.Block l b) scope = option_map (s.Block l) (block_tree b scope)
tree_step raw (RawStatement-F.Return l a) scope = option_map (s.Return scope.statements l) (optional (option_map (expr_of raw scope) a))

abbrev pub treed_step : RawProgram → RawStatement-F (Scoped (Option Statement)) (Scoped ArmTree) → Scoped (Option Statement)
treed_step raw one = record { gives = tree_step raw one; after = after_step raw one }

-- a statement in the tree, and the scope after it
abbrev pub treed : RawProgram → RawStatement → Scoped (Option Statement)
treed raw = fold-RawStatement (Scoped (Option Statement)) (Scoped ArmTree) (treed_step raw) (arm_tree_step raw)

-- an arm in the tree, and the scope after it
abbrev pub treed_arm : RawProgram → RawArm → Scoped ArmTree
treed_arm raw = fold-RawArm (Scoped (Option Statement)) (Scoped ArmTree) (treed_step raw) (arm_tree_step raw)

-- a list of statements in the tree
abbrev pub body_of : RawProgram → List RawStatement → Scope → Option (List Statement)
body_of raw body scope = collected (in_order (map (treed raw) body) scope)

-- ---- the program

abbrev pub is_static_stand : Stand → Bool
is_static_stand (InFile is_static) = is_static
is_static_stand InHead = false
is_static_stand InBlock = false
is_static_stand InArm = false
is_static_stand InFor = false

abbrev pub is_parameter_stand : Stand → Bool
is_parameter_stand (InFile is_static) = false
is_parameter_stand InHead = true
is_parameter_stand InBlock = false
is_parameter_stand InArm = false
is_parameter_stand InFor = false

-- the variable of a declaration, where a list of initialisers has so many items
abbrev pub variable_with : RawProgram → ℕ → Option ℕ → Bool → Bool → Bytes → RawType → ℕ → Option Var
variable_with raw line owner is_static is_parameter name shape items =
    option_map (λ (t : CType). record { name = name; shape = t; line = line; is_static = is_static; owner = owner; is_parameter = is_parameter }) (ctype_with raw items shape)

abbrev pub variable_of : RawProgram → ℕ → Option ℕ → Stand → RawVar → RawInit → Option Var
variable_of raw line owner stand var i = variable_with raw line owner (is_static_stand stand) (is_parameter_stand stand) var.name var.shape (item_count i)

abbrev pub declared_by : RawProgram → ℕ → Scope → Part → List (Option Var)
declared_by raw line scope (Declares stand var i) = variable_of raw line scope.owner stand var i ∷ []
declared_by raw line scope _ = []

abbrev pub variables_in : RawProgram → Phrases → List (Option Var)
variables_in raw [] = []
variables_in raw (p ∷ ps) = declared_by raw p.line p.scope p.part ++ variables_in raw ps

-- the variables that a text declares, in text order
abbrev pub variables_of : RawProgram → Option (List Var)
variables_of raw = collected (variables_in raw (phrases raw))

abbrev pub member_tree : RawProgram → RawMember → Option Member
member_tree raw m = option_map (λ (t : CType). record { name = m.name; shape = t }) (ctype raw m.shape)

abbrev pub struct_tree : RawProgram → StructText → Option StructDef
struct_tree raw d = option_map (λ (ms : List Member). record { name = d.tag; members = ms }) (collected (map (member_tree raw) d.members))

-- the struct types that a text defines, in text order
abbrev pub structs_of : RawProgram → Option (List StructDef)
structs_of raw = collected (map (struct_tree raw) (defined_structs raw))

-- the numbers of parameters, from the next one
abbrev pub parameter_ids : List RawParam → ℕ → List ℕ
parameter_ids [] n = []
parameter_ids (p ∷ ps) n = if is_some p.name then n ∷ parameter_ids ps (n + 1) else parameter_ids ps n

abbrev pub function_tree : RawProgram → ℕ → RawHead → List RawStatement → Scope → Option Function
function_tree raw line head body scope =
    both (λ (result : Option CType) (statements : List Statement). record {
      name = head.name;
      result = result;
      params = parameter_ids head.params scope.variables;
      body = statements;
      is_static = head.is_static;
      line = line;
    }) (ctype_if raw head.result) (body_of raw body (entered raw head scope))

abbrev pub functions_from : RawProgram → List RawItem → Scope → List (Option Function)
functions_from raw [] scope = []
functions_from raw (Define line head body ∷ rest) scope =
    function_tree raw line head body scope ∷ functions_from raw rest (after_item raw (Define line head body) scope)
functions_from raw (x ∷ rest) scope = functions_from raw rest (after_item raw x scope)

-- the functions that a text defines, in text order
abbrev pub functions_of : RawProgram → Option (List Function)
functions_of raw = collected (functions_from raw raw.items outset)

abbrev pub item_tree : RawProgram → RawItem → Scope → Option Item
item_tree raw (Include is_stdlib) scope = Some (item.Include is_stdlib)
item_tree raw (Tag line tag) scope = option_map item.Tag (struct_id raw tag)
item_tree raw (Struct line tag members) scope = Some (item.Struct scope.structs)
item_tree raw (Global line var i is_static) scope = option_map (item.Global scope.variables) (init_of raw (with_variable raw var i scope) i)
item_tree raw (Prototype line head) scope =
    option_map (λ (f : ℕ). item.Prototype f (map (λ (p : RawParam). p.name) head.params) head.is_static) (function_id raw head.name)
item_tree raw (Define line head body) scope = Some (item.Define scope.functions)

abbrev pub items_from : RawProgram → List RawItem → Scope → List (Option Item)
items_from raw [] scope = []
items_from raw (x ∷ rest) scope = item_tree raw x scope ∷ items_from raw rest (after_item raw x scope)

abbrev pub items_of : RawProgram → Option (List Item)
items_of raw = collected (items_from raw raw.items outset)

abbrev pub program_with : ℕ → List Item → List Var → List StructDef → List Function → Program
program_with statements items vars structs functions =
    record { items = items; vars = vars; structs = structs; functions = functions; statements = statements }

-- the program of a text; a text that keeps all rules has one
abbrev pub program_of : RawProgram → Option Program
program_of raw =
    option_and_then (λ (items : List Item). option_and_then (λ (vars : List Var).
    both (program_with (scope_at_end raw).statements items vars) (structs_of raw) (functions_of raw))
    (variables_of raw)) (items_of raw)
