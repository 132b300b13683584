-- The phrases of a text: its items, members, parameters, declarations and statements, each with its line and with the scope that is in force there.
use Rattle.std.specs.Prelude.{ℕ, ◌+◌, Bool, true, false, List, [], ◌∷◌, ◌++◌, Option, Some, None}
use Rattle.c_arith.specs.declared.operators.BinaryOp.{BinaryOp}
use Rattle.c_tree.specs.declared.raw.expr.RawExpr.{RawExpr}
use Rattle.c_tree.specs.declared.raw.expr.RawVar.{RawVar}
use Rattle.c_tree.specs.declared.raw.program.RawInit.{RawInit}
use Rattle.c_tree.specs.declared.raw.program.RawInit.TheVariants as init
use Rattle.c_tree.specs.declared.raw.program.RawMember.{RawMember}
use Rattle.c_tree.specs.declared.raw.program.RawParam.{RawParam}
use Rattle.c_tree.specs.declared.raw.program.RawHead.{RawHead}
use Rattle.c_tree.specs.declared.raw.program.RawItem.{RawItem}
use Rattle.c_tree.specs.declared.raw.program.RawItem.TheVariants.{Include, Tag, Struct, Global, Prototype, Define}
use Rattle.c_tree.specs.declared.raw.program.RawProgram.{RawProgram}
use Rattle.c_tree.specs.declared.raw.statement.RawTarget.{RawTarget}
use Rattle.c_tree.specs.declared.raw.statement.RawTarget.TheVariants as target
use Rattle.c_tree.specs.declared.raw.statement.RawArg.{RawArg}
use Rattle.c_tree.specs.declared.raw.statement.RawTypeName.{RawTypeName}
use Rattle.c_tree.specs.declared.raw.statement.RawAmount.{RawAmount}
use Rattle.c_tree.specs.declared.raw.statement.RawLabel.{RawLabel}
use Rattle.c_tree.specs.declared.raw.statement.RawStatement.{RawStatement, fold-RawStatement}
use Rattle.c_tree.specs.declared.raw.statement.RawStatement.TheOpen.{RawStatement-F, RawArm-F}
use Rattle.c_tree.specs.declared.raw.statement.RawArm.{RawArm, fold-RawArm}
use Rattle.c_language.specs.Words.{Bytes}
use Rattle.c_language.specs.Scopes.{Scope, outset, with_variable, with_function, parameter_of, opened, closed, numbered, scope_of_parameters, entered, with_parameter, with_target, Scoped, in_order, after_block, part_gives, scope_of_test, scope_of_body, after_step, after_arm}

-- where a declaration stands
pub data Stand : Type 0 where
  -- at file scope, as static or not
  InFile : (is_static : Bool) → Stand
  -- among the parameters of a definition
  InHead : Stand
  InBlock : Stand
  -- directly in an arm of a switch
  InArm : Stand
  -- as the first part of a for
  InFor : Stand

-- inside a function
abbrev pub IsInside : Stand → Type 0
IsInside (InFile is_static) = ⊥
IsInside InHead = ⊥
IsInside InBlock = Unit {0}
IsInside InArm = Unit {0}
IsInside InFor = Unit {0}

-- what a phrase is
pub data Part : Type 0 where
  -- `struct s;`
  NamesStruct : (tag : Bytes) → Part
  -- the definition of a struct type, and each of its members with those before it
  DefinesStruct : (tag : Bytes) → Part
  HasMember : (before : List RawMember) → (member : RawMember) → Part
  -- the head of a prototype or a definition, and each parameter of a prototype with those before it
  DeclaresFunction : (head : RawHead) → (is_definition : Bool) → Part
  Takes : (before : List RawParam) → (parameter : RawParam) → Part
  -- the end of a definition
  EndsFunction : (head : RawHead) → (body : List RawStatement) → Part
  -- a variable, and its initialiser once it is in scope
  Declares : (stand : Stand) → (var : RawVar) → (begin : RawInit) → Part
  Begins : (stand : Stand) → (var : RawVar) → (begin : RawInit) → Part
  Assigns : (left : RawExpr) → (op : Option BinaryOp) → (right : RawExpr) → Part
  Bumps : (left : RawExpr) → Part
  Calls : (stand : Stand) → (to : RawTarget) → (function : Bytes) → (args : List RawArg) → Part
  Allocates : (to : RawTarget) → (cast : Option RawTypeName) → (amount : RawAmount) → Part
  -- the test of an if, a while, a do or a for
  Tests : (test : RawExpr) → Part
  Switches : (test : RawExpr) → (labels : List RawLabel) → Part
  Returns : (value : Option RawExpr) → Part

-- a part of a text that rules are about, with the line of its first token
pub record Phrase : Type 0 where
  pub line : ℕ
  -- what stands before it
  pub scope : Scope
  pub part : Part

abbrev pub Phrases : Type 0
Phrases = List Phrase

abbrev pub phrase : ℕ → Scope → Part → Phrase
phrase line scope part = record { line = line; scope = scope; part = part }

abbrev pub begun_phrases : ℕ → Scope → Stand → RawVar → RawInit → Phrases
begun_phrases line scope stand var init.None = []
begun_phrases line scope stand var (init.One e) = phrase line scope (Begins stand var (init.One e)) ∷ []
begun_phrases line scope stand var (init.Items es) = phrase line scope (Begins stand var (init.Items es)) ∷ []

-- a declaration of a variable
abbrev pub declaration : RawProgram → ℕ → Scope → Stand → RawVar → RawInit → Phrases
declaration raw line scope stand var i =
    phrase line scope (Declares stand var i) ∷ begun_phrases line (with_variable raw var i scope) stand var i

-- the declaration in a target
abbrev pub target_phrases : RawProgram → ℕ → Scope → Stand → RawTarget → Phrases
target_phrases raw line scope stand target.None = []
target_phrases raw line scope stand (target.Place e) = []
target_phrases raw line scope stand (target.Declared var) = declaration raw line scope stand var init.None

abbrev pub joined_at : Stand → List (Stand → Phrases) → Phrases
joined_at stand [] = []
joined_at stand (x ∷ xs) = x stand ++ joined_at stand xs

-- the statements of a block
abbrev pub block_phrases : List (Scoped (Stand → Phrases)) → Scope → Phrases
block_phrases body scope = joined_at InBlock (in_order body (opened scope))

abbrev pub at_stand : Stand → Option (Stand → Phrases) → Phrases
at_stand stand None = []
at_stand stand (Some x) = x stand

-- an arm's labels and phrases
pub record ArmText : Type 0 where
  pub labels : List RawLabel
  pub phrases : Phrases

abbrev pub labels_of : List ArmText → List RawLabel
labels_of [] = []
labels_of (a ∷ rest) = a.labels ++ labels_of rest

abbrev pub phrases_of_arms : List ArmText → Phrases
phrases_of_arms [] = []
phrases_of_arms (a ∷ rest) = a.phrases ++ phrases_of_arms rest

abbrev pub phrases_step : RawProgram → RawStatement-F (Scoped (Stand → Phrases)) (Scoped ArmText) → Scope → Stand → Phrases
phrases_step raw (RawStatement-F.Declare l var i) scope stand = declaration raw l scope stand var i
phrases_step raw (RawStatement-F.Assign l left op right) scope stand = phrase l scope (Assigns left op right) ∷ []
phrases_step raw (RawStatement-F.Bump l left up before) scope stand = phrase l scope (Bumps left) ∷ []
phrases_step raw (RawStatement-F.Call l to f args) scope stand =
    target_phrases raw l scope stand to ++ (phrase l (with_target raw to scope) (Calls stand to f args) ∷ [])
phrases_step raw (RawStatement-F.Heap l to cast n) scope stand =
    target_phrases raw l scope stand to ++ (phrase l (with_target raw to scope) (Allocates to cast n) ∷ [])
phrases_step raw (RawStatement-F.If l e a b) scope stand =
    phrase l scope (Tests e) ∷ (block_phrases a (numbered scope) ++ block_phrases b (after_block a (numbered scope)))
phrases_step raw (RawStatement-F.While l e b) scope stand = phrase l scope (Tests e) ∷ block_phrases b (numbered scope)
phrases_step raw (RawStatement-F.Do l e b) scope stand = phrase l scope (Tests e) ∷ block_phrases b (numbered scope)
phrases_step raw (RawStatement-F.For l i e step b) scope stand =
    at_stand InFor (part_gives i (opened (numbered scope)))
    ++ (phrase l (scope_of_test i scope) (Tests e) ∷ (at_stand InBlock (part_gives step (scope_of_test i scope)) ++ block_phrases b (scope_of_body i step scope)))
phrases_step raw (RawStatement-F.Switch l e arms) scope stand =
    phrase l scope (Switches e (labels_of (in_order arms (opened (numbered scope))))) ∷ phrases_of_arms (in_order arms (opened (numbered scope)))
phrases_step raw (RawStatement-F.Block l b) scope stand = block_phrases b scope
phrases_step raw (RawStatement-F.Return l e) scope stand = phrase l scope (Returns e) ∷ []

abbrev pub scoped_step : RawProgram → RawStatement-F (Scoped (Stand → Phrases)) (Scoped ArmText) → Scoped (Stand → Phrases)
scoped_step raw s = record { gives = phrases_step raw s; after = after_step raw s }

abbrev pub scoped_arm : RawArm-F (Scoped (Stand → Phrases)) (Scoped ArmText) → Scoped ArmText
scoped_arm a = record {
  gives = λ (scope : Scope). record { labels = a.labels; phrases = joined_at InArm (in_order a.body scope) };
  after = after_arm a;
}

-- the phrases of a statement, itself among them, and the scope after it
abbrev pub scoped : RawProgram → RawStatement → Scoped (Stand → Phrases)
scoped raw = fold-RawStatement (Scoped (Stand → Phrases)) (Scoped ArmText) (scoped_step raw) scoped_arm

abbrev pub scoped_of_arm : RawProgram → RawArm → Scoped ArmText
scoped_of_arm raw = fold-RawArm (Scoped (Stand → Phrases)) (Scoped ArmText) (scoped_step raw) scoped_arm

-- the phrases of a list of statements
abbrev pub body_phrases : RawProgram → List RawStatement → Scope → Phrases
body_phrases raw [] scope = []
body_phrases raw (s ∷ ss) scope = (scoped raw s).gives scope InBlock ++ body_phrases raw ss ((scoped raw s).after scope)

abbrev pub after_body : RawProgram → List RawStatement → Scope → Scope
after_body raw [] scope = scope
after_body raw (s ∷ ss) scope = after_body raw ss ((scoped raw s).after scope)

-- each member, with those before it
abbrev pub member_phrases : Scope → List RawMember → List RawMember → Phrases
member_phrases scope before [] = []
member_phrases scope before (m ∷ ms) = phrase m.line scope (HasMember before m) ∷ member_phrases scope (before ++ m ∷ []) ms

-- the parameters of a prototype
abbrev pub taken_phrases : Scope → List RawParam → List RawParam → Phrases
taken_phrases scope before [] = []
taken_phrases scope before (p ∷ ps) = phrase p.line scope (Takes before p) ∷ taken_phrases scope (before ++ p ∷ []) ps

abbrev pub parameter_phrases : RawProgram → RawParam → Option Bytes → Scope → Phrases
parameter_phrases raw p None scope = []
parameter_phrases raw p (Some name) scope = declaration raw p.line scope InHead (parameter_of p name) init.None

-- the parameters of a definition
abbrev pub head_phrases : RawProgram → List RawParam → Scope → Phrases
head_phrases raw [] scope = []
head_phrases raw (p ∷ ps) scope = parameter_phrases raw p p.name scope ++ head_phrases raw ps (with_parameter raw p scope)

abbrev pub item_phrases : RawProgram → RawItem → Scope → Phrases
item_phrases raw (Include is_stdlib) scope = []
item_phrases raw (Tag line tag) scope = phrase line scope (NamesStruct tag) ∷ []
item_phrases raw (Struct line tag members) scope = phrase line scope (DefinesStruct tag) ∷ member_phrases scope [] members
item_phrases raw (Global line var i is_static) scope = declaration raw line scope (InFile is_static) var i
item_phrases raw (Prototype line head) scope = phrase line scope (DeclaresFunction head false) ∷ taken_phrases scope [] head.params
item_phrases raw (Define line head body) scope =
    phrase line scope (DeclaresFunction head true)
    ∷ (head_phrases raw head.params (scope_of_parameters head scope)
    ++ (body_phrases raw body (entered raw head scope) ++ (phrase line scope (EndsFunction head body) ∷ [])))

-- the scope after an item
abbrev pub after_item : RawProgram → RawItem → Scope → Scope
after_item raw (Include is_stdlib) scope = scope
after_item raw (Tag line tag) scope = scope
after_item raw (Struct line tag members) scope = record scope { structs = scope.structs + 1 }
after_item raw (Global line var i is_static) scope = with_variable raw var i scope
after_item raw (Prototype line head) scope = with_function head.name scope
after_item raw (Define line head body) scope = closed (with_function head.name scope) (after_body raw body (entered raw head scope))

abbrev pub items_phrases : RawProgram → List RawItem → Scope → Phrases
items_phrases raw [] scope = []
items_phrases raw (x ∷ xs) scope = item_phrases raw x scope ++ items_phrases raw xs (after_item raw x scope)

abbrev pub after_items : RawProgram → List RawItem → Scope → Scope
after_items raw [] scope = scope
after_items raw (x ∷ xs) scope = after_items raw xs (after_item raw x scope)

-- the phrases of a text, in text order
abbrev pub phrases : RawProgram → Phrases
phrases raw = items_phrases raw raw.items outset

-- the scope at the end of a text
abbrev pub scope_at_end : RawProgram → Scope
scope_at_end raw = after_items raw raw.items outset
