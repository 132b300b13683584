-- What stays of statements where this is kept, and what it needs.
use Rattle.std.specs.Prelude.{◌≡◌, ℕ, ◌<◌, length, option_map, Bool, true, false, List, [], ◌∷◌, ◌++◌, map, Option, Some, None, decimal}
use Rattle.c_language.specs.TypeGrammar.{is_written}
use Rattle.c_tree.specs.declared.raw.expr.RawExpr.{RawExpr}
use Rattle.c_tree.specs.declared.raw.expr.RawExpr.TheVariants as e
use Rattle.c_tree.specs.declared.raw.expr.RawLength.{RawLength}
use Rattle.c_tree.specs.declared.raw.expr.RawLength.TheVariants.{Written, Listed}
use Rattle.c_tree.specs.declared.raw.expr.RawType.{RawType, fold-RawType}
use Rattle.c_tree.specs.declared.raw.expr.RawType.TheOpen.{RawType-F}
use Rattle.c_tree.specs.declared.raw.expr.RawType.TheVariants as type
use Rattle.c_tree.specs.declared.raw.expr.RawVar.{RawVar}
use Rattle.c_tree.specs.declared.raw.program.RawInit.{RawInit}
use Rattle.c_tree.specs.declared.raw.program.RawInit.TheVariants as init
use Rattle.c_tree.specs.declared.raw.program.RawProgram.{RawProgram}
use Rattle.c_tree.specs.declared.raw.statement.RawTarget.{RawTarget}
use Rattle.c_tree.specs.declared.raw.statement.RawTarget.TheVariants as target
use Rattle.c_tree.specs.declared.raw.statement.RawArg.{RawArg}
use Rattle.c_tree.specs.declared.raw.statement.RawAmount.{RawAmount}
use Rattle.c_tree.specs.declared.raw.statement.RawTypeName.{RawTypeName}
use Rattle.c_tree.specs.declared.raw.statement.RawLabel.{RawLabel}
use Rattle.c_tree.specs.declared.raw.statement.RawStatement.{RawStatement, fold-RawStatement, roll-RawStatement, out-RawStatement}
use Rattle.c_tree.specs.declared.raw.statement.RawStatement.TheOpen.{RawStatement-F, RawArm-F}
use Rattle.c_tree.specs.declared.raw.statement.RawStatement.TheVariants as s
use Rattle.c_tree.specs.declared.raw.statement.RawArm.{RawArm, fold-RawArm}
use Rattle.c_language.specs.Words.{Bytes}
use Rattle.c_language.specs.DeclaredTypes.{item_count}
use Rattle.c_language.specs.Scopes.{Scope, Scoped, with_variable, opened, numbered, in_order, after_block, part_gives, scope_of_test, scope_of_body, after_step, after_arm}
use Rattle.c_language.specs.Phrases.{InBlock, Part, Declares, Begins, Assigns, Bumps, Calls, Allocates, Tests, Switches, Returns}
use Rattle.c_language.specs.Uses.{is_library_function}
use Rattle.c_language.specs.CallRules.{head_around}
use Rattle.c_tree.specs.declared.raw.program.RawHead.{RawHead}
use Rattle.c_scope_laws.specs.Agreement.{IsCount}
use Rattle.projection.specs.Kept.{Kept}
use Rattle.c_scope_laws.specs.Thinning.{NamesStay, LabelsStay, declares, kept_args}
use Rattle.c_language.specs.StatementGrammar.{arm}

-- ---- what is needed of what is kept

-- what must be kept since something that needs it is kept
pub data Need : Type 0 where
  -- a phrase stays: all that it names is kept
  Names : (scope : Scope) → (part : Part) → Need
  -- labels stay
  Labels : (scope : Scope) → (labels : List RawLabel) → Need
  -- a call stays: the arguments that it keeps are those of the parameters that the function keeps
  Passes : (function : Bytes) → (args : List RawArg) → (statement : ℕ) → Need
  -- a call stays with its result, or a return of a value in this function: the function gives a result still
  Gives : (function : Bytes) → Need
  -- the number of a list's items is written as a length
  Counts : (items : ℕ) → Need
  -- a statement is kept, and what it stands in isn't, or what it declares isn't: never met
  Strays : (x : RawStatement) → Need

abbrev pub IsMet : Kept Bytes → Need → Type 0
IsMet k (Names scope part) = NamesStay k scope part
IsMet k (Labels scope labels) = LabelsStay k scope labels
IsMet k (Passes f args n) = (i : ℕ) → i < length args → k.argument n i ≡ k.parameter f i
IsMet k (Gives f) = k.gives f ≡ true
IsMet k (Counts items) = IsCount items (e.Constant (decimal items))
IsMet k (Strays x) = ⊥

abbrev pub AreMet : Kept Bytes → List Need → Type 0
AreMet k [] = Unit {0}
AreMet k (n ∷ ns) = IsMet k n × AreMet k ns

-- ---- what stays

-- of a statement, or of a list of statements
pub record Left : Type 0 where
  pub some : List RawStatement
  pub needs : List Need
  -- it is one statement without parts that declares nothing; a call may have lost arguments, and what its result is stored in
  pub is_plain : Bool

-- of an arm
pub record ArmLeft : Type 0 where
  pub labels : List RawLabel
  pub scope : Scope
  pub body : Left

abbrev pub nothing : Left
nothing = record { some = []; needs = []; is_plain = false }

abbrev pub these : List RawStatement → List Need → Left
these some needs = record { some = some; needs = needs; is_plain = false }

abbrev pub all_left : List Left → Left
all_left [] = nothing
all_left (x ∷ xs) = these (x.some ++ (all_left xs).some) (x.needs ++ (all_left xs).needs)

abbrev pub strays : List RawStatement → List Need
strays xs = map Strays xs

-- nothing is to stay
abbrev pub gone : Left → List Need
gone x = x.needs ++ strays x.some

-- ---- lengths

abbrev pub counted_length : ℕ → RawLength → RawLength
counted_length items (Written a) = Written a
counted_length items Listed = Written (e.Constant (decimal items))

abbrev pub counted_type_step : ℕ → RawType-F RawType → RawType
counted_type_step items (RawType-F.Integer t) = type.Integer t
counted_type_step items (RawType-F.PointerTo a) = type.PointerTo a
counted_type_step items (RawType-F.Array a n) = type.Array a (counted_length items n)
counted_type_step items (RawType-F.Struct tag) = type.Struct tag

-- a type with the number of a list's items in place of each length that the list gives
abbrev pub counted_type : ℕ → RawType → RawType
counted_type items = fold-RawType RawType (counted_type_step items)

abbrev pub counted_var : RawVar → RawInit → RawVar
counted_var v i = record { name = v.name; shape = counted_type (item_count i) v.shape }

abbrev pub count_needs : Bool → ℕ → List Need
count_needs true items = []
count_needs false items = Counts items ∷ []

-- ---- parts of a for

-- a part is one statement or none
abbrev pub only : List RawStatement → Option RawStatement
only [] = None
only (x ∷ []) = Some x
only (x ∷ (y ∷ rest)) = None

abbrev pub beyond : List RawStatement → List Need
beyond [] = []
beyond (x ∷ []) = []
beyond (x ∷ (y ∷ rest)) = Strays x ∷ []

abbrev pub part_left : Option Left → Option RawStatement
part_left None = None
part_left (Some x) = only x.some

abbrev pub part_needs : Option Left → List Need
part_needs None = []
part_needs (Some x) = x.needs ++ beyond x.some

abbrev pub part_gone : Option Left → List Need
part_gone None = []
part_gone (Some x) = gone x

-- what a for begins with, without the for: where it declares, in a block of its own
abbrev pub alone_one : Bool → Bool → ℕ → RawStatement → Left
alone_one true is_plain l x = these (s.Block l (x ∷ []) ∷ []) []
alone_one false true l x = these (x ∷ []) []
alone_one false false l x = these [] (Strays x ∷ [])

abbrev pub alone_all : Bool → ℕ → List RawStatement → Left
alone_all is_plain l [] = nothing
alone_all is_plain l (x ∷ []) = alone_one (declares (out-RawStatement x)) is_plain l x
alone_all is_plain l (x ∷ (y ∷ rest)) = these [] (Strays x ∷ [])

abbrev pub left_alone : ℕ → Option Left → Left
left_alone l None = nothing
left_alone l (Some x) = these (alone_all x.is_plain l x.some).some (x.needs ++ (alone_all x.is_plain l x.some).needs)

-- ---- arms

abbrev pub arms_left : List ArmLeft → List RawArm
arms_left [] = []
arms_left (a ∷ rest) = arm a.labels a.body.some ∷ arms_left rest

abbrev pub arms_labels : List ArmLeft → List RawLabel
arms_labels [] = []
arms_labels (a ∷ rest) = a.labels ++ arms_labels rest

abbrev pub arms_needs : List ArmLeft → List Need
arms_needs [] = []
arms_needs (a ∷ rest) = Labels a.scope a.labels ∷ (a.body.needs ++ arms_needs rest)

abbrev pub arms_gone : List ArmLeft → List Need
arms_gone [] = []
arms_gone (a ∷ rest) = gone a.body ++ arms_gone rest

-- a block that isn't empty
abbrev pub block_of : ℕ → List RawStatement → List RawStatement
block_of l [] = []
block_of l (x ∷ xs) = s.Block l (x ∷ xs) ∷ []

-- ---- statements

-- a statement without parts that declares nothing
abbrev pub plain : Bool → RawStatement-F RawStatement RawArm → Scope → Part → Left
plain true x scope part = record { some = roll-RawStatement x ∷ []; needs = Names scope part ∷ []; is_plain = true }
plain false x scope part = nothing

-- one that needs more
abbrev pub plain_with : Bool → List Need → RawStatement-F RawStatement RawArm → Scope → Part → Left
plain_with true needs x scope part = record { some = roll-RawStatement x ∷ []; needs = Names scope part ∷ needs; is_plain = true }
plain_with false needs x scope part = nothing

-- what a call of a function needs that isn't of the library, by whether it is
abbrev pub passes : Bool → Bytes → List RawArg → ℕ → List Need
passes true f args n = []
passes false f args n = Passes f args n ∷ []

-- and where it keeps its result
abbrev pub gives : Bool → Bytes → List Need
gives true f = []
gives false f = Gives f ∷ []

-- what a return needs in this function
abbrev pub return_needs : Option RawHead → Option RawExpr → List Need
return_needs around None = []
return_needs None (Some e) = []
return_needs (Some h) (Some e) = Gives h.name ∷ []

module _ (raw : RawProgram) where
  -- whether the variable is kept, and the initialiser
  abbrev pub declared : Bool → Bool → ℕ → RawVar → RawInit → Scope → Left
  declared true true l v i scope = these (s.Declare l v i ∷ []) (Names scope (Declares InBlock v i) ∷ (Names (with_variable raw v i scope) (Begins InBlock v i) ∷ []))
  declared true false l v i scope = these (s.Declare l (counted_var v i) init.None ∷ []) (Names scope (Declares InBlock (counted_var v i) init.None) ∷ count_needs (is_written v.shape) (item_count i))
  declared false true l v i scope = these [] (Strays (s.Declare l v i) ∷ [])
  declared false false l v i scope = nothing

  -- whether the result of a call is kept, and the call, with what it needs and with what its result needs
  abbrev pub call_placed : Bool → Bool → List Need → List Need → ℕ → RawExpr → Bytes → List RawArg → Scope → Left
  call_placed true kept needs results l a f args scope = plain_with kept (needs ++ results) (RawStatement-F.Call l (target.Place a) f args) scope (Calls InBlock (target.Place a) f args)
  call_placed false true needs results l a f args scope =
      record { some = s.Call l target.None f args ∷ []; needs = Names scope (Calls InBlock target.None f args) ∷ needs; is_plain = true }
  call_placed false false needs results l a f args scope = nothing

  -- whether the variable is kept, the call, and its result
  abbrev pub call_declared : Bool → Bool → Bool → List Need → List Need → ℕ → RawVar → Bytes → List RawArg → Scope → Left
  call_declared true true true needs results l v f args scope =
      these (s.Call l (target.Declared v) f args ∷ []) (Names scope (Declares InBlock v init.None) ∷ (Names (with_variable raw v init.None scope) (Calls InBlock (target.Declared v) f args) ∷ (needs ++ results)))
  call_declared true true false needs results l v f args scope =
      these (s.Declare l v init.None ∷ (s.Call l target.None f args ∷ [])) (Names scope (Declares InBlock v init.None) ∷ (Names (with_variable raw v init.None scope) (Calls InBlock target.None f args) ∷ needs))
  call_declared false true true needs results l v f args scope = these [] (Strays (s.Call l (target.Declared v) f args) ∷ [])
  call_declared false true false needs results l v f args scope = these (s.Call l target.None f args ∷ []) (Names (with_variable raw v init.None scope) (Calls InBlock target.None f args) ∷ needs)
  call_declared true false result needs results l v f args scope = these (s.Declare l v init.None ∷ []) (Names scope (Declares InBlock v init.None) ∷ [])
  call_declared false false result needs results l v f args scope = nothing

  -- whether the variable is kept, and the allocation
  abbrev pub heap_declared : Bool → Bool → ℕ → RawVar → Option RawTypeName → RawAmount → Scope → Left
  heap_declared true true l v cast n scope =
      these (s.Heap l (target.Declared v) cast n ∷ []) (Names scope (Declares InBlock v init.None) ∷ (Names (with_variable raw v init.None scope) (Allocates (target.Declared v) cast n) ∷ []))
  heap_declared true false l v cast n scope = these (s.Declare l v init.None ∷ []) (Names scope (Declares InBlock v init.None) ∷ [])
  heap_declared false true l v cast n scope = these [] (Strays (s.Heap l (target.Declared v) cast n) ∷ [])
  heap_declared false false l v cast n scope = nothing

  abbrev pub if_left : Bool → ℕ → RawExpr → Left → Left → Scope → Left
  if_left true l a b c scope = these (s.If l a b.some c.some ∷ []) (Names scope (Tests a) ∷ (b.needs ++ c.needs))
  if_left false l a b c scope = these [] (gone b ++ gone c)

  abbrev pub while_left : Bool → ℕ → RawExpr → Left → Scope → Left
  while_left true l a b scope = these (s.While l a b.some ∷ []) (Names scope (Tests a) ∷ b.needs)
  while_left false l a b scope = these [] (gone b)

  abbrev pub do_left : Bool → ℕ → RawExpr → Left → Scope → Left
  do_left true l a b scope = these (s.Do l a b.some ∷ []) (Names scope (Tests a) ∷ b.needs)
  do_left false l a b scope = these [] (gone b)

  abbrev pub for_left : Bool → ℕ → Option Left → RawExpr → Option Left → Left → Scope → Left
  for_left true l i a step b test = these (s.For l (part_left i) a (part_left step) b.some ∷ []) (Names test (Tests a) ∷ (part_needs i ++ (part_needs step ++ b.needs)))
  for_left false l i a step b test = these (left_alone l i).some ((left_alone l i).needs ++ (part_gone step ++ gone b))

  abbrev pub switch_left : Bool → ℕ → RawExpr → List ArmLeft → Scope → Left
  switch_left true l a arms scope = these (s.Switch l a (arms_left arms) ∷ []) (Names scope (Switches a (arms_labels arms)) ∷ arms_needs arms)
  switch_left false l a arms scope = these [] (arms_gone arms)

-- whether the result of a call is kept; a call of the library is kept whole
abbrev pub result_kept : Bool → Bool → Bool
result_kept true result = true
result_kept false result = result

module _ (k : Kept Bytes) (raw : RawProgram) where
  abbrev pub declare_left : ℕ → RawVar → RawInit → Scope → Left
  declare_left l v init.None scope = declared raw (k.variable scope.variables) (k.variable scope.variables) l v init.None scope
  declare_left l v (init.One a) scope = declared raw (k.variable scope.variables) (k.statement scope.statements) l v (init.One a) scope
  declare_left l v (init.Items all) scope = declared raw (k.variable scope.variables) (k.statement scope.statements) l v (init.Items all) scope

  abbrev pub call_left : ℕ → RawTarget → Bytes → List RawArg → Scope → Left
  call_left l target.None f args scope =
      plain_with (k.statement scope.statements) (passes (is_library_function f) f args scope.statements) (RawStatement-F.Call l target.None f (kept_args k f scope.statements args)) scope (Calls InBlock target.None f (kept_args k f scope.statements args))
  call_left l (target.Place a) f args scope =
      call_placed raw (result_kept (is_library_function f) (k.result scope.statements)) (k.statement scope.statements) (passes (is_library_function f) f args scope.statements) (gives (is_library_function f) f) l a f (kept_args k f scope.statements args) scope
  call_left l (target.Declared v) f args scope =
      call_declared raw (k.variable scope.variables) (k.statement scope.statements) (result_kept (is_library_function f) (k.result scope.statements)) (passes (is_library_function f) f args scope.statements) (gives (is_library_function f) f) l v f (kept_args k f scope.statements args) scope

  abbrev pub heap_left : ℕ → RawTarget → Option RawTypeName → RawAmount → Scope → Left
  heap_left l target.None cast n scope = plain (k.statement scope.statements) (RawStatement-F.Heap l target.None cast n) scope (Allocates target.None cast n)
  heap_left l (target.Place a) cast n scope = plain (k.statement scope.statements) (RawStatement-F.Heap l (target.Place a) cast n) scope (Allocates (target.Place a) cast n)
  heap_left l (target.Declared v) cast n scope = heap_declared raw (k.variable scope.variables) (k.statement scope.statements) l v cast n scope

  abbrev pub block_left : List (Scoped Left) → Scope → Left
  block_left body scope = all_left (in_order body (opened scope))

  abbrev pub left_step : RawStatement-F (Scoped Left) (Scoped ArmLeft) → Scope → Left
  left_step (RawStatement-F.Declare l v i) scope = declare_left l v i scope
  left_step (RawStatement-F.Assign l a op b) scope = plain (k.statement scope.statements) (RawStatement-F.Assign l a op b) scope (Assigns a op b)
  left_step (RawStatement-F.Bump l a up before) scope = plain (k.statement scope.statements) (RawStatement-F.Bump l a up before) scope (Bumps a)
  left_step (RawStatement-F.Call l to f args) scope = call_left l to f args scope
  left_step (RawStatement-F.Heap l to cast n) scope = heap_left l to cast n scope
  left_step (RawStatement-F.If l a b c) scope =
      if_left raw (k.statement scope.statements) l a (block_left b (numbered scope)) (block_left c (after_block b (numbered scope))) scope
  left_step (RawStatement-F.While l a b) scope = while_left raw (k.statement scope.statements) l a (block_left b (numbered scope)) scope
  left_step (RawStatement-F.Do l a b) scope = do_left raw (k.statement scope.statements) l a (block_left b (numbered scope)) scope
  left_step (RawStatement-F.For l i a step b) scope =
      for_left raw (k.statement scope.statements) l (part_gives i (opened (numbered scope))) a (part_gives step (scope_of_test i scope)) (block_left b (scope_of_body i step scope)) (scope_of_test i scope)
  left_step (RawStatement-F.Switch l a arms) scope = switch_left raw (k.statement scope.statements) l a (in_order arms (opened (numbered scope))) scope
  left_step (RawStatement-F.Block l b) scope = these (block_of l (block_left b scope).some) (block_left b scope).needs
  left_step (RawStatement-F.Return l a) scope = plain_with (k.statement scope.statements) (return_needs (head_around raw scope) a) (RawStatement-F.Return l a) scope (Returns a)

  abbrev pub left_scoped : RawStatement-F (Scoped Left) (Scoped ArmLeft) → Scoped Left
  left_scoped x = record { gives = left_step x; after = after_step raw x }

  abbrev pub left_arm_step : RawArm-F (Scoped Left) (Scoped ArmLeft) → Scoped ArmLeft
  left_arm_step a = record { gives = λ (scope : Scope). record { labels = a.labels; scope = scope; body = all_left (in_order a.body scope) }; after = after_arm a }

  -- what stays of a statement in a scope
  abbrev pub left : RawStatement → Scoped Left
  left = fold-RawStatement (Scoped Left) (Scoped ArmLeft) left_scoped left_arm_step

  abbrev pub left_arm : RawArm → Scoped ArmLeft
  left_arm = fold-RawArm (Scoped Left) (Scoped ArmLeft) left_scoped left_arm_step

  -- what stays of a part of a for
  abbrev pub part_given : Option RawStatement → Scope → Option Left
  part_given x scope = part_gives (option_map left x) scope

  -- what stays of a list of statements
  abbrev pub body_left : List RawStatement → Scope → Left
  body_left xs scope = all_left (in_order (map left xs) scope)
