-- A text and a thinner one: some of its statements, declarations and functions are kept.
use Rattle.std.specs.Prelude.{◌≡◌, ℕ, ◌<◌, length, Bool, true, false, if◌then◌else◌, List, [], ◌∷◌, ◌++◌, map, Option, Some, None, option_map, bytes_eq}
use Rattle.std.specs.List.{find}
use Rattle.c_tree.specs.declared.raw.expr.RawExpr.{RawExpr}
use Rattle.c_tree.specs.declared.raw.expr.RawVar.{RawVar}
use Rattle.c_tree.specs.declared.raw.program.RawInit.{RawInit}
use Rattle.c_tree.specs.declared.raw.program.RawInit.TheVariants as init
use Rattle.c_tree.specs.declared.raw.program.RawProgram.{RawProgram}
use Rattle.c_tree.specs.declared.raw.statement.RawTarget.{RawTarget}
use Rattle.c_tree.specs.declared.raw.statement.RawTarget.TheVariants as target
use Rattle.c_tree.specs.declared.raw.statement.RawArg.{RawArg}
use Rattle.c_tree.specs.declared.raw.statement.RawAmount.{RawAmount}
use Rattle.c_tree.specs.declared.raw.statement.RawTypeName.{RawTypeName}
use Rattle.c_tree.specs.declared.raw.statement.RawLabel.{RawLabel}
use Rattle.c_tree.specs.declared.raw.statement.RawStatement.{RawStatement, roll-RawStatement, out-RawStatement}
use Rattle.c_tree.specs.declared.raw.statement.RawStatement.TheOpen.{RawStatement-F}
use Rattle.c_tree.specs.declared.raw.statement.RawStatement.TheVariants as s
use Rattle.c_tree.specs.declared.raw.statement.RawArm.{RawArm}
use Rattle.c_language.specs.Words.{Bytes}
use Rattle.projection.specs.Kept.{Kept, chosen}
use Rattle.c_language.specs.Scopes.{Scope, Meaning, Entry, with_variable, opened, numbered, in_order, after_all, after_block, scope_of_test, scope_of_body}
use Rattle.c_language.specs.Phrases.{InBlock, Part, Declares, Begins, Calls, Allocates, Tests, Switches, labels_of, scoped, scoped_of_arm}
use Rattle.c_language.specs.CallRules.{without_result, head_around}
use Rattle.c_language.specs.Uses.{cases, is_library_function, is_among}
use Rattle.c_scope_laws.specs.Agreement.{NamedAmong, Names, NamesFunction, SameVariable, simple_part, Heads, ReturnFits}
use Rattle.c_language.specs.StatementGrammar.{arm}

-- ---- scopes

abbrev pub name_stays : Kept Bytes → Bytes → Meaning → Bool
name_stays k x (Meaning.Variable id t) = k.variable id
name_stays k x Meaning.Function = k.function x

-- the declared name that is found
abbrev pub found : Bytes → List Entry → Option Entry
found x entries = find (λ (e : Entry). bytes_eq x e.name) entries

-- it is kept where it is there
abbrev pub EntryStays : Kept Bytes → Option Entry → Type 0
EntryStays k None = Unit {0}
EntryStays k (Some e) = name_stays k e.name e.meaning ≡ true

-- All that a phrase names is kept. That a function of the library is kept follows from nothing that the text defines: k is to be chosen such that it is.
pub record NamesStay (k : Kept Bytes) (scope : Scope) (part : Part) : Type 0 where
  pub names : (x : Bytes) → Names part x → EntryStays k (found x scope.names)
  pub functions : (x : Bytes) → NamesFunction part x → k.function x ≡ true

-- all that labels name is kept
abbrev pub LabelsStay : Kept Bytes → Scope → List RawLabel → Type 0
LabelsStay k scope labels = (x : Bytes) → NamedAmong (cases labels) x → EntryStays k (found x scope.names)

-- ---- statements

-- whether a declaration's number is kept, where it has one
abbrev pub BeginIs : Kept Bytes → Bool → RawInit → ℕ → Type 0
BeginIs k kept init.None n = Unit {0}
BeginIs k kept (init.One a) n = k.statement n ≡ kept
BeginIs k kept (init.Items all) n = k.statement n ≡ kept

-- which parameters stay, and which functions give a result still
abbrev pub heads_of : Kept Bytes → Heads
heads_of k = record { parameter = k.parameter; gives = k.gives }

-- the result of a call is kept, where it is stored, and the function that is called gives one still; a call of the library is kept whole
pub record ResultStays (k : Kept Bytes) (f : Bytes) (n : ℕ) : Type 0 where
  pub kept : is_library_function f ≡ false → k.result n ≡ true
  pub gives : is_library_function f ≡ false → k.gives f ≡ true

abbrev pub KeepsResult : Kept Bytes → RawTarget → Bytes → ℕ → Type 0
KeepsResult k target.None f n = Unit {0}
KeepsResult k (target.Place a) f n = ResultStays k f n
KeepsResult k (target.Declared v) f n = ResultStays k f n

-- what stays of the arguments of a call
abbrev pub kept_args : Kept Bytes → Bytes → ℕ → List RawArg → List RawArg
kept_args k f n args = if is_library_function f then args else chosen (k.argument n) 0 args

-- the arguments that a call of a function of the text keeps are those of the parameters that the function keeps
abbrev pub ArgsFit : Kept Bytes → Bytes → List RawArg → ℕ → Type 0
ArgsFit k f args n = is_library_function f ≡ false → (i : ℕ) → i < length args → k.argument n i ≡ k.parameter f i

-- what stays of a statement without parts that stays, where it has this number
abbrev pub kept_form : {R Q : Type 0} → Kept Bytes → ℕ → RawStatement-F R Q → RawStatement-F R Q
kept_form k n (RawStatement-F.Declare l v i) = RawStatement-F.Declare l v i
kept_form k n (RawStatement-F.Assign l left op right) = RawStatement-F.Assign l left op right
kept_form k n (RawStatement-F.Bump l a up before) = RawStatement-F.Bump l a up before
kept_form k n (RawStatement-F.Call l to f args) = RawStatement-F.Call l to f (kept_args k f n args)
kept_form k n (RawStatement-F.Heap l to cast m) = RawStatement-F.Heap l to cast m
kept_form k n (RawStatement-F.If l a b c) = RawStatement-F.If l a b c
kept_form k n (RawStatement-F.While l a b) = RawStatement-F.While l a b
kept_form k n (RawStatement-F.Do l a b) = RawStatement-F.Do l a b
kept_form k n (RawStatement-F.For l i a step b) = RawStatement-F.For l i a step b
kept_form k n (RawStatement-F.Switch l a arms) = RawStatement-F.Switch l a arms
kept_form k n (RawStatement-F.Block l b) = RawStatement-F.Block l b
kept_form k n (RawStatement-F.Return l a) = RawStatement-F.Return l a

-- a call has the arguments of the parameters that stay, and its result where the function gives one still; a return of a value stands in a function that gives a result still
abbrev pub FormFits : {R Q : Type 0} → Kept Bytes → RawProgram → RawStatement-F R Q → Scope → Type 0
FormFits k raw (RawStatement-F.Call l to f args) scope = KeepsResult k to f scope.statements × ArgsFit k f args scope.statements
FormFits k raw (RawStatement-F.Return l value) scope = ReturnFits (heads_of k) (head_around raw scope) value
FormFits k raw _ scope = Unit {0}

-- a target declares a variable
abbrev pub target_declares : RawTarget → Bool
target_declares target.None = false
target_declares (target.Place a) = false
target_declares (target.Declared v) = true

-- a statement declares a variable
abbrev pub declares : {R Q : Type 0} → RawStatement-F R Q → Bool
declares (RawStatement-F.Declare l v i) = true
declares (RawStatement-F.Call l to f args) = target_declares to
declares (RawStatement-F.Heap l to cast n) = target_declares to
declares _ = false

-- what is called gives a result
abbrev pub GivesResult : {R Q : Type 0} → RawStatement-F R Q → Type 0
GivesResult (RawStatement-F.Call l to f args) = is_among without_result f ≡ false
GivesResult _ = Unit {0}

abbrev pub after_list : RawProgram → List RawStatement → Scope → Scope
after_list raw xs scope = after_all (map (scoped raw) xs) scope

abbrev pub block_after : RawProgram → List RawStatement → Scope → Scope
block_after raw xs scope = after_block (map (scoped raw) xs) scope

abbrev pub part_scope : RawProgram → Option RawStatement → Scope → Scope
part_scope raw i scope = scope_of_test (option_map (scoped raw) i) scope

abbrev pub body_scope : RawProgram → Option RawStatement → Option RawStatement → Scope → Scope
body_scope raw i step scope = scope_of_body (option_map (scoped raw) i) (option_map (scoped raw) step) scope

-- the labels of a switch's arms
abbrev pub arm_labels : RawProgram → List RawArm → Scope → List RawLabel
arm_labels raw arms scope = labels_of (in_order (map (scoped_of_arm raw) arms) scope)

-- The statements that stay of a statement in a scope, in the other text. Numbers and scopes are those of the text.
mutual
  pub data Thins (k : Kept Bytes) (raw other : RawProgram) : Scope → RawStatement → List RawStatement → Type 0 where
    -- a statement without parts that declares nothing stays or goes
    simple : {scope : Scope} (x : RawStatement-F RawStatement RawArm) (part : Part)
        → simple_part (kept_form k scope.statements x) ≡ Some part → declares x ≡ false → k.statement scope.statements ≡ true → FormFits k raw x scope → NamesStay k scope part
        → Thins k raw other scope (roll-RawStatement x) (roll-RawStatement (kept_form k scope.statements x) ∷ [])
    simple_goes : {scope : Scope} (x : RawStatement-F RawStatement RawArm) (part : Part)
        → simple_part x ≡ Some part → declares x ≡ false → k.statement scope.statements ≡ false → Thins k raw other scope (roll-RawStatement x) []
    -- a call loses what its result is stored in
    result_goes : {scope : Scope} {l : ℕ} {a : RawExpr} {f : Bytes} {args : List RawArg}
        → is_library_function f ≡ false → k.result scope.statements ≡ false
        → k.statement scope.statements ≡ true → ArgsFit k f args scope.statements → NamesStay k scope (Calls InBlock target.None f (kept_args k f scope.statements args))
        → Thins k raw other scope (s.Call l (target.Place a) f args) (s.Call l target.None f (kept_args k f scope.statements args) ∷ [])
    -- a declaration stays, loses its initialiser, or goes
    declaration : {scope : Scope} {l : ℕ} {v : RawVar} {i : RawInit}
        → k.variable scope.variables ≡ true → BeginIs k true i scope.statements
        → NamesStay k scope (Declares InBlock v i) → NamesStay k (with_variable raw v i scope) (Begins InBlock v i)
        → Thins k raw other scope (s.Declare l v i) (s.Declare l v i ∷ [])
    initialiser_goes : {scope : Scope} {l : ℕ} {v w : RawVar} {i : RawInit}
        → k.variable scope.variables ≡ true → BeginIs k false i scope.statements → SameVariable raw other v i w init.None
        → NamesStay k scope (Declares InBlock w init.None) → Thins k raw other scope (s.Declare l v i) (s.Declare l w init.None ∷ [])
    declaration_goes : {scope : Scope} {l : ℕ} {v : RawVar} {i : RawInit}
        → k.variable scope.variables ≡ false → BeginIs k false i scope.statements → Thins k raw other scope (s.Declare l v i) []
    -- so does one with a call; where the call alone is kept, it follows the declaration
    call : {scope : Scope} {l : ℕ} {v : RawVar} {f : Bytes} {args : List RawArg}
        → ResultStays k f scope.statements → ArgsFit k f args scope.statements
        → k.variable scope.variables ≡ true → k.statement scope.statements ≡ true
        → NamesStay k scope (Declares InBlock v init.None) → NamesStay k (with_variable raw v init.None scope) (Calls InBlock (target.Declared v) f (kept_args k f scope.statements args))
        → Thins k raw other scope (s.Call l (target.Declared v) f args) (s.Call l (target.Declared v) f (kept_args k f scope.statements args) ∷ [])
    call_follows : {scope : Scope} {l : ℕ} {v : RawVar} {f : Bytes} {args : List RawArg}
        → is_library_function f ≡ false → k.result scope.statements ≡ false
        → k.variable scope.variables ≡ true → k.statement scope.statements ≡ true → ArgsFit k f args scope.statements
        → NamesStay k scope (Declares InBlock v init.None) → NamesStay k (with_variable raw v init.None scope) (Calls InBlock target.None f (kept_args k f scope.statements args))
        → Thins k raw other scope (s.Call l (target.Declared v) f args) (s.Declare l v init.None ∷ (s.Call l target.None f (kept_args k f scope.statements args) ∷ []))
    call_alone : {scope : Scope} {l : ℕ} {v : RawVar} {f : Bytes} {args : List RawArg}
        → is_library_function f ≡ false → k.result scope.statements ≡ false
        → k.variable scope.variables ≡ false → k.statement scope.statements ≡ true → ArgsFit k f args scope.statements
        → NamesStay k (with_variable raw v init.None scope) (Calls InBlock target.None f (kept_args k f scope.statements args))
        → Thins k raw other scope (s.Call l (target.Declared v) f args) (s.Call l target.None f (kept_args k f scope.statements args) ∷ [])
    call_goes : {scope : Scope} {l : ℕ} {v : RawVar} {f : Bytes} {args : List RawArg}
        → is_among without_result f ≡ false
        → k.variable scope.variables ≡ true → k.statement scope.statements ≡ false → NamesStay k scope (Declares InBlock v init.None)
        → Thins k raw other scope (s.Call l (target.Declared v) f args) (s.Declare l v init.None ∷ [])
    called_goes : {scope : Scope} {l : ℕ} {v : RawVar} {f : Bytes} {args : List RawArg}
        → k.variable scope.variables ≡ false → k.statement scope.statements ≡ false → Thins k raw other scope (s.Call l (target.Declared v) f args) []
    -- and one with an allocation
    heap : {scope : Scope} {l : ℕ} {v : RawVar} {cast : Option RawTypeName} {n : RawAmount}
        → k.variable scope.variables ≡ true → k.statement scope.statements ≡ true
        → NamesStay k scope (Declares InBlock v init.None) → NamesStay k (with_variable raw v init.None scope) (Allocates (target.Declared v) cast n)
        → Thins k raw other scope (s.Heap l (target.Declared v) cast n) (s.Heap l (target.Declared v) cast n ∷ [])
    heap_goes : {scope : Scope} {l : ℕ} {v : RawVar} {cast : Option RawTypeName} {n : RawAmount}
        → k.variable scope.variables ≡ true → k.statement scope.statements ≡ false → NamesStay k scope (Declares InBlock v init.None)
        → Thins k raw other scope (s.Heap l (target.Declared v) cast n) (s.Declare l v init.None ∷ [])
    heaped_goes : {scope : Scope} {l : ℕ} {v : RawVar} {cast : Option RawTypeName} {n : RawAmount}
        → k.variable scope.variables ≡ false → k.statement scope.statements ≡ false → Thins k raw other scope (s.Heap l (target.Declared v) cast n) []
    -- an if stays with what stays in it, or goes where nothing does
    conditional : {scope : Scope} {l : ℕ} {a : RawExpr} {first second some others : List RawStatement}
        → k.statement scope.statements ≡ true → NamesStay k scope (Tests a)
        → ThinAll k raw other (opened (numbered scope)) first some → ThinAll k raw other (opened (block_after raw first (numbered scope))) second others
        → Thins k raw other scope (s.If l a first second) (s.If l a some others ∷ [])
    conditional_goes : {scope : Scope} {l : ℕ} {a : RawExpr} {first second : List RawStatement}
        → k.statement scope.statements ≡ false
        → ThinAll k raw other (opened (numbered scope)) first [] → ThinAll k raw other (opened (block_after raw first (numbered scope))) second []
        → Thins k raw other scope (s.If l a first second) []
    -- and so do loops
    while_loop : {scope : Scope} {l : ℕ} {a : RawExpr} {body some : List RawStatement}
        → k.statement scope.statements ≡ true → NamesStay k scope (Tests a) → ThinAll k raw other (opened (numbered scope)) body some
        → Thins k raw other scope (s.While l a body) (s.While l a some ∷ [])
    while_goes : {scope : Scope} {l : ℕ} {a : RawExpr} {body : List RawStatement}
        → k.statement scope.statements ≡ false → ThinAll k raw other (opened (numbered scope)) body [] → Thins k raw other scope (s.While l a body) []
    do_loop : {scope : Scope} {l : ℕ} {a : RawExpr} {body some : List RawStatement}
        → k.statement scope.statements ≡ true → NamesStay k scope (Tests a) → ThinAll k raw other (opened (numbered scope)) body some
        → Thins k raw other scope (s.Do l a body) (s.Do l a some ∷ [])
    do_goes : {scope : Scope} {l : ℕ} {a : RawExpr} {body : List RawStatement}
        → k.statement scope.statements ≡ false → ThinAll k raw other (opened (numbered scope)) body [] → Thins k raw other scope (s.Do l a body) []
    for_loop : {scope : Scope} {l : ℕ} {a : RawExpr} {first step begin next : Option RawStatement} {body some : List RawStatement}
        → k.statement scope.statements ≡ true → NamesStay k (part_scope raw first scope) (Tests a)
        → ThinsPart k raw other (opened (numbered scope)) first begin → ThinsPart k raw other (part_scope raw first scope) step next
        → ThinAll k raw other (opened (body_scope raw first step scope)) body some
        → Thins k raw other scope (s.For l first a step body) (s.For l begin a next some ∷ [])
    for_goes : {scope : Scope} {l : ℕ} {a : RawExpr} {first step : Option RawStatement} {body : List RawStatement}
        → k.statement scope.statements ≡ false
        → ThinsPart k raw other (opened (numbered scope)) first None → ThinsPart k raw other (part_scope raw first scope) step None
        → ThinAll k raw other (opened (body_scope raw first step scope)) body [] → Thins k raw other scope (s.For l first a step body) []
    -- what a for begins with stays without it: where it declares, in a block of its own
    for_block : {scope : Scope} {l : ℕ} {a : RawExpr} {first begin : RawStatement} {step : Option RawStatement} {body : List RawStatement}
        → k.statement scope.statements ≡ false → declares (out-RawStatement begin) ≡ true → GivesResult (out-RawStatement begin)
        → Thins k raw other (opened (numbered scope)) first (begin ∷ []) → ThinsPart k raw other (part_scope raw (Some first) scope) step None
        → ThinAll k raw other (opened (body_scope raw (Some first) step scope)) body []
        → Thins k raw other scope (s.For l (Some first) a step body) (s.Block l (begin ∷ []) ∷ [])
    for_simple : {scope : Scope} {l : ℕ} {a : RawExpr} (x : RawStatement-F RawStatement RawArm) (part : Part) {step : Option RawStatement} {body : List RawStatement}
        → k.statement scope.statements ≡ false
        → simple_part (kept_form k (numbered scope).statements x) ≡ Some part → declares x ≡ false → k.statement (numbered scope).statements ≡ true → FormFits k raw x (numbered scope) → NamesStay k scope part
        → ThinsPart k raw other (part_scope raw (Some (roll-RawStatement x)) scope) step None
        → ThinAll k raw other (opened (body_scope raw (Some (roll-RawStatement x)) step scope)) body []
        → Thins k raw other scope (s.For l (Some (roll-RawStatement x)) a step body) (roll-RawStatement (kept_form k (numbered scope).statements x) ∷ [])
    -- so does a call that loses what its result is stored in
    for_result_goes : {scope : Scope} {l m : ℕ} {a : RawExpr} (place : RawExpr) {f : Bytes} (args : List RawArg) {step : Option RawStatement} {body : List RawStatement}
        → k.statement scope.statements ≡ false
        → is_library_function f ≡ false → k.result (numbered scope).statements ≡ false
        → k.statement (numbered scope).statements ≡ true → ArgsFit k f args (numbered scope).statements → NamesStay k scope (Calls InBlock target.None f (kept_args k f (numbered scope).statements args))
        → ThinsPart k raw other (part_scope raw (Some (s.Call m (target.Place place) f args)) scope) step None
        → ThinAll k raw other (opened (body_scope raw (Some (s.Call m (target.Place place) f args)) step scope)) body []
        → Thins k raw other scope (s.For l (Some (s.Call m (target.Place place) f args)) a step body) (s.Call m target.None f (kept_args k f (numbered scope).statements args) ∷ [])
    -- a switch stays with all its labels, or goes
    switch : {scope : Scope} {l : ℕ} {a : RawExpr} {arms others : List RawArm}
        → k.statement scope.statements ≡ true → NamesStay k scope (Switches a (arm_labels raw arms (opened (numbered scope)))) → ThinArms k raw other (opened (numbered scope)) arms others
        → Thins k raw other scope (s.Switch l a arms) (s.Switch l a others ∷ [])
    switch_goes : {scope : Scope} {l : ℕ} {a : RawExpr} {arms : List RawArm}
        → k.statement scope.statements ≡ false → ArmsGo k raw other (opened (numbered scope)) arms → Thins k raw other scope (s.Switch l a arms) []
    -- a block stays, or goes where it is empty
    block : {scope : Scope} {l : ℕ} {body rest : List RawStatement} {x : RawStatement}
        → ThinAll k raw other (opened scope) body (x ∷ rest) → Thins k raw other scope (s.Block l body) (s.Block l (x ∷ rest) ∷ [])
    block_goes : {scope : Scope} {l : ℕ} {body : List RawStatement} → ThinAll k raw other (opened scope) body [] → Thins k raw other scope (s.Block l body) []

  -- of a list
  pub data ThinAll (k : Kept Bytes) (raw other : RawProgram) : Scope → List RawStatement → List RawStatement → Type 0 where
    none : {scope : Scope} → ThinAll k raw other scope [] []
    more : {scope : Scope} {x : RawStatement} {rest some others : List RawStatement}
        → Thins k raw other scope x some → ThinAll k raw other ((scoped raw x).after scope) rest others → ThinAll k raw other scope (x ∷ rest) (some ++ others)

  -- of a part of a for, which may be missing
  pub data ThinsPart (k : Kept Bytes) (raw other : RawProgram) : Scope → Option RawStatement → Option RawStatement → Type 0 where
    missing : {scope : Scope} → ThinsPart k raw other scope None None
    part_stays : {scope : Scope} {x y : RawStatement} → Thins k raw other scope x (y ∷ []) → ThinsPart k raw other scope (Some x) (Some y)
    part_goes : {scope : Scope} {x : RawStatement} → Thins k raw other scope x [] → ThinsPart k raw other scope (Some x) None

  -- of the arms of a switch that stays
  pub data ThinArms (k : Kept Bytes) (raw other : RawProgram) : Scope → List RawArm → List RawArm → Type 0 where
    no_arms : {scope : Scope} → ThinArms k raw other scope [] []
    arm_stays : {scope : Scope} {labels : List RawLabel} {body some : List RawStatement} {rest others : List RawArm}
        → LabelsStay k scope labels → ThinAll k raw other scope body some → ThinArms k raw other (after_list raw body scope) rest others
        → ThinArms k raw other scope (arm labels body ∷ rest) (arm labels some ∷ others)

  -- nothing stays of the arms of a switch that goes
  pub data ArmsGo (k : Kept Bytes) (raw other : RawProgram) : Scope → List RawArm → Type 0 where
    no_arms_left : {scope : Scope} → ArmsGo k raw other scope []
    arm_goes : {scope : Scope} {labels : List RawLabel} {body : List RawStatement} {rest : List RawArm}
        → ThinAll k raw other scope body [] → ArmsGo k raw other (after_list raw body scope) rest → ArmsGo k raw other scope (arm labels body ∷ rest)
