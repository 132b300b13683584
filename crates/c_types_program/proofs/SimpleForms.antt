-- What the walk does at each form of statement that holds no others.
use Rattle.std.proofs.Common.{◌≡◌, ◌≢◌, ℕ, ◌+◌, List, [], ◌∷◌, ◌++◌, Bool, false, Option, Some, None, option_map, Result, Ok, Err, refl, sym, ap, subst, ◌∙◌}
use Rattle.std.specs.Prelude.{Contains}
use Rattle.std.proofs.lemmas.List.Elements.{Contains-append_left}
use Rattle.c_arith.specs.declared.operators.BinaryOp.{BinaryOp}
use Rattle.c_tree.specs.declared.expr.Expr.{Expr}
use Rattle.c_tree.specs.declared.program.Init.{Init}
use Rattle.c_tree.specs.declared.statement.Target.{Target}
use Rattle.c_tree.specs.declared.statement.Statement.{Statement}
use Rattle.c_tree.specs.declared.statement.Statement.TheVariants as made
use Rattle.c_tree.specs.declared.raw.expr.RawExpr.{RawExpr}
use Rattle.c_tree.specs.declared.raw.expr.RawVar.{RawVar}
use Rattle.c_tree.specs.declared.raw.program.RawInit.{RawInit}
use Rattle.c_tree.specs.declared.raw.program.RawInit.TheVariants as init
use Rattle.c_tree.specs.declared.raw.program.RawProgram.{RawProgram}
use Rattle.c_tree.specs.declared.raw.statement.RawTarget.{RawTarget}
use Rattle.c_tree.specs.declared.raw.statement.RawTarget.TheVariants as target
use Rattle.c_tree.specs.declared.raw.statement.RawArg.{RawArg}
use Rattle.c_tree.specs.declared.raw.statement.RawTypeName.{RawTypeName}
use Rattle.c_tree.specs.declared.raw.statement.RawAmount.{RawAmount}
use Rattle.c_tree.specs.declared.raw.statement.RawStatement.TheVariants as s
use Rattle.c_language.specs.Words.{Bytes}
use Rattle.c_language.specs.CallRules.{target_type, IsStored}
use Rattle.c_language.specs.ConstantEvaluation.{both}
use Rattle.c_language.specs.DeclaredTypes.{type_with, item_count}
use Rattle.c_language.specs.ExprTypes.{operand}
use Rattle.c_language.specs.NameRules.{Shadows}
use Rattle.c_language.specs.Scopes.{Scope, Meaning, meaning_in, with_variable, with_target, begun, numbered}
use Rattle.c_language.specs.Phrases.{Stand, InFile, InHead, InBlock, InArm, InFor, Part, Declares, Assigns, Bumps, Calls, Allocates, Returns, phrase, declaration, begun_phrases, target_phrases, IsInside}
use Rattle.c_language.specs.ProgramOf.{ctype_with, expr_of, init_of, declaration_id, call_tree, heap_tree, target_tree, optional, variable_with, variable_of, variables_in}
use Rattle.c_language.specs.Rules.{shadowing, BreaksNone}
use Rattle.c_language.specs.Uses.{expressions, target_exprs, arg_exprs, counts}
use Rattle.c_language.specs.declared.expr_type.Operand.{Operand}
use Rattle.c_language.proofs.TreedForms.{treed-Declare, treed-Assign, treed-Bump, treed-Call, treed-Heap, treed-Return}
use Rattle.c_language.proofs.ScopeNumbers.{target_statements}
use Rattle.c_language.proofs.ScopedForms.{scoped-Declare, scoped-Assign, scoped-Bump, scoped-Call, scoped-Heap, scoped-Return}
use Rattle.c_language.proofs.Lists.{contains_first}
use Rattle.c_language.proofs.Options.{there_map}
use Rattle.c_language.proofs.PhraseLists.{variables-append, begun_nothing}
use Rattle.c_types_base.specs.declared.tables.Tables.{Tables}
use Rattle.c_types_base.specs.Judging.{judged}
use Rattle.c_types_base.specs.Tables.{scope_of, AreRight, IsAt}
use Rattle.c_types_base.proofs.JudgingLaws.{Told, judged_truly}
use Rattle.c_types_program.specs.declared.walk.Walk.{Walk}
use Rattle.c_types_trees.specs.KeptPhrases.{IsJudged, IsKeptInit, IsMeantTarget, IsKeptCall, IsKeptAllocation}
use Rattle.c_types_trees.specs.FitPhrases.{AreFit, AreFitTarget}
use Rattle.c_types_program.specs.Statements.{Comes, Fits, HasTree, Passes}
use Rattle.c_types_program.specs.Variables.{Grow}
use Rattle.c_types_program.proofs.Growing.{grow_then, fit_both}
use Rattle.c_types_trees.proofs.KeptLemmas.{kept_operand}
use Rattle.c_types_trees.proofs.Collected.{given_some}
use Rattle.c_types_program.proofs.Passing.{fits_as, tree_as, passes_as, same_variables}
use Rattle.c_types_trees.proofs.PhraseTrees.{variable_made}
use Rattle.c_types_program.proofs.Standing.{Stands, here, told, given, goes, came}
use Rattle.c_language.specs.Options.{IsThere}

-- ---- declarations

is_none_of : {A : Type 0} (o : Option A) → (o ≢ None → ⊥) → o ≡ None
is_none_of None h = refl
is_none_of (Some x) h = absurd (h (λ e. subst IsThere e tt))

module _ (raw : RawProgram) (scope : Scope) (stand : Stand) (var : RawVar) (i : RawInit) (kept : BreaksNone raw scope (Declares stand var i)) where
  -- a variable's name isn't in scope before, and its type is one
  pub declares_fresh : meaning_in scope var.name ≡ None
  declares_fresh = is_none_of (meaning_in scope var.name) (λ h. kept 3 (shadowing (Shadows.variable h)))

  pub declares_typed : type_with raw (item_count i) var.shape ≡ None → ⊥
  declares_typed = given_some (type_with raw (item_count i) var.shape) (variable_made raw scope stand var i kept).typed

  pub declares_shaped : ctype_with raw (item_count i) var.shape ≡ None → ⊥
  declares_shaped = given_some (ctype_with raw (item_count i) var.shape) (variable_made raw scope stand var i kept).tree

-- the variable of a declaration inside a function
pub local_variable : (raw : RawProgram) (l : ℕ) (owner : Option ℕ) (stand : Stand) (var : RawVar) (i : RawInit) → IsInside stand
    → variable_with raw l owner false false var.name var.shape (item_count i) ≡ variable_of raw l owner stand var i
local_variable raw l owner (InFile is_static) var i inside = absurd inside
local_variable raw l owner InHead var i inside = absurd inside
local_variable raw l owner InBlock var i inside = refl
local_variable raw l owner InArm var i inside = refl
local_variable raw l owner InFor var i inside = refl

pub begun_kept : (raw : RawProgram) (l : ℕ) (scope : Scope) (stand : Stand) (var : RawVar) (i : RawInit) → AreFit raw (begun_phrases l scope stand var i) → IsKeptInit raw scope i
begun_kept raw l scope stand var init.None h = IsKeptInit.none
begun_kept raw l scope stand var (init.One a) h = IsKeptInit.kept h.0.kept
begun_kept raw l scope stand var (init.Items es) h = IsKeptInit.kept h.0.kept

module _ (w : Walk) (right : AreRight w.tables) (l : ℕ) where
  abbrev raw_of : RawProgram
  raw_of = w.tables.raw.now

  abbrev begin : Scope
  begin = scope_of w.tables

  -- the walk has numbered the statement alone
  numbers : (v : Walk) → IsAt w.tables v.tables (numbered begin) → v.variables ≡ w.variables → Comes w v (numbered begin) []
  numbers v is same = record { arrives = is; grow = same_variables w v same }

  -- ---- a declaration

  module _ (var : RawVar) (i : RawInit) (h : Fits w (s.Declare l var i)) where
    declared : AreFit raw_of (declaration raw_of l begin h.stand var i)
    declared = fits_as w (s.Declare l var i) _ (scoped-Declare raw_of l var i) h

    pub declare_fresh : meaning_in begin var.name ≡ None
    declare_fresh = declares_fresh raw_of begin h.stand var i declared.0.kept

    pub declare_typed : (items : ℕ) → items ≡ item_count i → type_with raw_of items var.shape ≡ None → ⊥
    declare_typed items is = subst (λ n. type_with raw_of n var.shape ≡ None → ⊥) (sym is) (declares_typed raw_of begin h.stand var i declared.0.kept)

    pub declare_shaped : (items : ℕ) → items ≡ item_count i → ctype_with raw_of items var.shape ≡ None → ⊥
    declare_shaped items is = subst (λ n. ctype_with raw_of n var.shape ≡ None → ⊥) (sym is) (declares_shaped raw_of begin h.stand var i declared.0.kept)

  abbrev Declared : Walk → ℕ → RawVar → Type 0
  Declared v items var =
      Comes w v
      (record begin { names = begin.names ++ record { name = var.name; meaning = Meaning.Variable begin.variables (type_with raw_of items var.shape) } ∷ []; variables = begin.variables + 1 })
      (variable_with raw_of l begin.owner false false var.name var.shape items ∷ [])

  module _ (v : Walk) (items : ℕ) (var : RawVar) (i : RawInit) (is : items ≡ item_count i) (d : Declared v items var) where
    pub declared_at : Comes w v (with_variable raw_of var i begin) (variable_with raw_of l begin.owner false false var.name var.shape (item_count i) ∷ [])
    declared_at =
        subst (λ n. Comes w v
        (record begin { names = begin.names ++ record { name = var.name; meaning = Meaning.Variable begin.variables (type_with raw_of n var.shape) } ∷ []; variables = begin.variables + 1 })
        (variable_with raw_of l begin.owner false false var.name var.shape n ∷ [])) is d

    abbrev stands_declared : Stands raw_of (with_variable raw_of var i begin) v.tables
    stands_declared = goes {t = w.tables} {u = v.tables} (λ r x. with_variable r var i x) (here w.tables right) declared_at.arrives

    pub declared_right : AreRight v.tables
    declared_right = stands_declared.right

    pub declare_begun : Fits w (s.Declare l var i) → IsKeptInit v.tables.raw.now (scope_of v.tables) i
    declare_begun h = given (λ r x. IsKeptInit r x i) stands_declared (begun_kept raw_of l (with_variable raw_of var i begin) h.stand var i (declared var i h).1)

    pub declare_tree : (id : Option ℕ) (n : ℕ) (x : Init) → id ≡ declaration_id i v.tables.statements → n ≡ w.tables.variables
        → init_of v.tables.raw.now (scope_of v.tables) i ≡ Some x → HasTree w (s.Declare l var i) (made.Declare id l n x)
    declare_tree id n x number which tree =
        tree_as w (s.Declare l var i) _ (made.Declare id l n x) (treed-Declare raw_of l var i)
        (ap (option_map (made.Declare (declaration_id i begin.statements) l begin.variables)) (told (λ r y. init_of r y i ≡ Some x) stands_declared tree)
        ∙ (ap (λ k. Some (made.Declare k l begin.variables x)) (sym (number ∙ ap (λ (y : Scope). declaration_id i y.statements) stands_declared.place))
        ∙ ap (λ k. Some (made.Declare id l k x)) (sym which)))

    pub declare_passes : (z : Walk) → IsAt v.tables z.tables (begun i (scope_of v.tables)) → z.variables ≡ v.variables → Passes w z (s.Declare l var i)
    declare_passes z at_end same =
        passes_as w z (s.Declare l var i) _ _ (treed-Declare raw_of l var i) (scoped-Declare raw_of l var i) (λ stand inside. record {
          arrives = came (goes {t = v.tables} {u = z.tables} (λ r x. begun i x) stands_declared at_end) refl;
          grow =
              subst (λ vs. Grow w.variables z.variables (variable_of raw_of l begin.owner stand var i ∷ vs)) (sym (begun_nothing raw_of l (with_variable raw_of var i begin) stand var i))
              (subst (λ o. Grow w.variables z.variables (o ∷ [])) (local_variable raw_of l begin.owner stand var i inside)
              (subst (λ k. Grow w.variables k (variable_with raw_of l begin.owner false false var.name var.shape (item_count i) ∷ [])) (sym same) declared_at.grow));
        })

  -- ---- an assignment, a step by one and a return

  pub assign_kept : (a : RawExpr) (op : Option BinaryOp) (b : RawExpr) → Fits w (s.Assign l a op b) → BreaksNone raw_of begin (Assigns a op b)
  assign_kept a op b h = (fits_as w (s.Assign l a op b) _ (scoped-Assign raw_of l a op b) h).0.kept

  pub assign_has : (a : RawExpr) (op : Option BinaryOp) (b : RawExpr) (x : Statement)
      → both (λ (p q : Expr). made.Assign w.tables.statements l p op q) (expr_of raw_of begin a) (expr_of raw_of begin b) ≡ Some x → HasTree w (s.Assign l a op b) x
  assign_has a op b x h = tree_as w (s.Assign l a op b) _ x (treed-Assign raw_of l a op b) h

  pub assign_passes : (v : Walk) (a : RawExpr) (op : Option BinaryOp) (b : RawExpr) → IsAt w.tables v.tables (numbered begin) → v.variables ≡ w.variables → Passes w v (s.Assign l a op b)
  assign_passes v a op b is same =
      passes_as w v (s.Assign l a op b) _ _ (treed-Assign raw_of l a op b) (scoped-Assign raw_of l a op b) (λ stand inside. numbers v is same)

  pub bump_kept : (a : RawExpr) (up before : Bool) → Fits w (s.Bump l a up before) → BreaksNone raw_of begin (Bumps a)
  bump_kept a up before h = (fits_as w (s.Bump l a up before) _ (scoped-Bump raw_of l a up before) h).0.kept

  pub bump_has : (a : RawExpr) (up before : Bool) (x : Statement) → option_map (λ (p : Expr). made.Bump w.tables.statements l p up before) (expr_of raw_of begin a) ≡ Some x
      → HasTree w (s.Bump l a up before) x
  bump_has a up before x h = tree_as w (s.Bump l a up before) _ x (treed-Bump raw_of l a up before) h

  pub bump_passes : (v : Walk) (a : RawExpr) (up before : Bool) → IsAt w.tables v.tables (numbered begin) → v.variables ≡ w.variables → Passes w v (s.Bump l a up before)
  bump_passes v a up before is same =
      passes_as w v (s.Bump l a up before) _ _ (treed-Bump raw_of l a up before) (scoped-Bump raw_of l a up before) (λ stand inside. numbers v is same)

  pub return_kept : (a : Option RawExpr) → Fits w (s.Return l a) → BreaksNone raw_of begin (Returns a)
  return_kept a h = (fits_as w (s.Return l a) _ (scoped-Return raw_of l a) h).0.kept

  pub return_has : (a : Option RawExpr) (x : Statement) → option_map (made.Return w.tables.statements l) (optional (option_map (expr_of raw_of begin) a)) ≡ Some x → HasTree w (s.Return l a) x
  return_has a x h = tree_as w (s.Return l a) _ x (treed-Return raw_of l a) h

  pub return_passes : (v : Walk) (a : Option RawExpr) → IsAt w.tables v.tables (numbered begin) → v.variables ≡ w.variables → Passes w v (s.Return l a)
  return_passes v a is same = passes_as w v (s.Return l a) _ _ (treed-Return raw_of l a) (scoped-Return raw_of l a) (λ stand inside. numbers v is same)

-- ---- targets

-- a place that a phrase stores in is an operand
target_meant : (t : Tables) → AreRight t → (to : RawTarget) (part : Part) → BreaksNone t.raw.now (with_target t.raw.now to (scope_of t)) part
    → ((a : RawExpr) → Contains (target_exprs to) a → Contains (expressions part) a) → IsMeantTarget t.raw.now (scope_of t) to
target_meant t right target.None part kept within = tt
target_meant t right (target.Place a) part kept within = kept_operand t right part kept a (within a (contains_first a []))
target_meant t right (target.Declared var) part kept within = tt

operand_there : (raw : RawProgram) (scope : Scope) (a : RawExpr) (r : Result Operand ℕ) → Told raw scope a r → IsJudged r → IsThere (operand raw scope a)
operand_there raw scope a (Ok x) truly h = subst IsThere (sym truly.0) tt
operand_there raw scope a (Err n) truly h = absurd h

-- what a stored result has is a type
stored_typed : (t : Tables) → AreRight t → (line : ℕ) (stand : Stand) (to : RawTarget) → IsStored to → AreFit t.raw.now (target_phrases t.raw.now line (scope_of t) stand to)
    → IsMeantTarget t.raw.now (scope_of t) to → IsThere (target_type t.raw.now (with_target t.raw.now to (scope_of t)) to)
stored_typed t right line stand target.None stored fit meant = stored
stored_typed t right line stand (target.Place a) stored fit meant =
    there_map (λ (x : Operand). x.shape) (operand t.raw.now (scope_of t) a) (operand_there t.raw.now (scope_of t) a (judged t.raw.now (scope_of t) a) (judged_truly t.raw.now (scope_of t) a) meant)
stored_typed t right line stand (target.Declared var) stored fit meant =
    (variable_made t.raw.now (scope_of t) stand var init.None fit.0.kept).typed

module _ (w : Walk) (right : AreRight w.tables) (l : ℕ) (to : RawTarget) where
  abbrev raw_at : RawProgram
  raw_at = w.tables.raw.now

  abbrev place : Scope
  place = scope_of w.tables

  abbrev beyond : Scope
  beyond = with_target raw_at to place

  abbrev Stored : Walk → Type 0
  Stored v = (stand : Stand) → IsInside stand → Comes w v beyond (variables_in raw_at (target_phrases raw_at l place stand to))

  -- ---- a call

  module _ (f : Bytes) (args : List RawArg) where
    call_parts : (h : Fits w (s.Call l to f args)) → AreFit raw_at (target_phrases raw_at l place h.stand to) × AreFit raw_at (phrase l beyond (Calls h.stand to f args) ∷ [])
    call_parts h = fit_both raw_at (target_phrases raw_at l place h.stand to) (phrase l beyond (Calls h.stand to f args) ∷ []) (fits_as w (s.Call l to f args) _ (scoped-Call raw_at l to f args) h)

    pub call_meant : Fits w (s.Call l to f args) → IsMeantTarget raw_at place to
    call_meant h = target_meant w.tables right to (Calls h.stand to f args) (call_parts h).1.0.kept (λ a c. Contains-append_left (target_exprs to) (arg_exprs args) a c)

    pub call_target : Fits w (s.Call l to f args) → AreFitTarget raw_at l place to
    call_target h = record { stand = h.stand; inside = h.inside; fit = (call_parts h).0 }

    module _ (v : Walk) (stored : Stored v) where
      abbrev stands_at : Stands raw_at beyond v.tables
      stands_at = goes {t = w.tables} {u = v.tables} (λ r x. with_target r to x) (here w.tables right) (stored InBlock tt).arrives

      pub call_right : AreRight v.tables
      call_right = stands_at.right

      pub call_follows : (n : ℕ) → n ≡ w.tables.statements + 1 → n ≡ v.tables.statements + 1
      call_follows n is = is ∙ ap (λ k. k + 1) (sym (ap (λ (x : Scope). x.statements) stands_at.place ∙ target_statements raw_at to place))

      pub call_kept : Fits w (s.Call l to f args) → IsKeptCall v.tables.raw.now (scope_of v.tables) f args
      call_kept h = given (λ r x. IsKeptCall r x f args) stands_at (record { stand = h.stand; to = to; kept = (call_parts h).1.0.kept })

      pub call_has : (t : Target) (x : Statement) → target_tree raw_at place to ≡ Some t
          → call_tree v.tables.raw.now (scope_of v.tables) w.tables.statements l (Some t) f args ≡ Some x → HasTree w (s.Call l to f args) x
      call_has t x first tree =
          tree_as w (s.Call l to f args) _ x (treed-Call raw_at l to f args)
          (ap (λ o. call_tree raw_at beyond w.tables.statements l o f args) first ∙ told (λ r y. call_tree r y w.tables.statements l (Some t) f args ≡ Some x) stands_at tree)

      pub call_passes : (z : Walk) → IsAt v.tables z.tables (numbered (scope_of v.tables)) → z.variables ≡ v.variables → Passes w z (s.Call l to f args)
      call_passes z is same =
          passes_as w z (s.Call l to f args) _ _ (treed-Call raw_at l to f args) (scoped-Call raw_at l to f args) (λ stand inside. record {
            arrives = came (goes {t = v.tables} {u = z.tables} (λ r x. numbered x) stands_at is) refl;
            grow =
                subst (Grow w.variables z.variables) (sym (variables-append raw_at (target_phrases raw_at l place stand to) (phrase l beyond (Calls stand to f args) ∷ [])))
                (grow_then (stored stand inside).grow (same_variables v z same));
          })

  -- ---- an allocation

  module _ (cast : Option RawTypeName) (n : RawAmount) where
    heap_parts : (h : Fits w (s.Heap l to cast n)) → AreFit raw_at (target_phrases raw_at l place h.stand to) × AreFit raw_at (phrase l beyond (Allocates to cast n) ∷ [])
    heap_parts h = fit_both raw_at (target_phrases raw_at l place h.stand to) (phrase l beyond (Allocates to cast n) ∷ []) (fits_as w (s.Heap l to cast n) _ (scoped-Heap raw_at l to cast n) h)

    pub heap_meant : Fits w (s.Heap l to cast n) → IsMeantTarget raw_at place to
    heap_meant h = target_meant w.tables right to (Allocates to cast n) (heap_parts h).1.0.kept (λ a c. Contains-append_left (target_exprs to) (counts n) a c)

    pub heap_target : Fits w (s.Heap l to cast n) → AreFitTarget raw_at l place to
    heap_target h = record { stand = h.stand; inside = h.inside; fit = (heap_parts h).0 }

    module _ (v : Walk) (stored : Stored v) where
      abbrev stands_there : Stands raw_at beyond v.tables
      stands_there = goes {t = w.tables} {u = v.tables} (λ r x. with_target r to x) (here w.tables right) (stored InBlock tt).arrives

      pub heap_right : AreRight v.tables
      heap_right = stands_there.right

      pub heap_follows : (k : ℕ) → k ≡ w.tables.statements + 1 → k ≡ v.tables.statements + 1
      heap_follows k is = is ∙ ap (λ m. m + 1) (sym (ap (λ (x : Scope). x.statements) stands_there.place ∙ target_statements raw_at to place))

      pub heap_kept : Fits w (s.Heap l to cast n) → IsKeptAllocation v.tables.raw.now (scope_of v.tables) cast n
      heap_kept h =
          given (λ r x. IsKeptAllocation r x cast n) stands_there (record {
            to = to;
            kept = (heap_parts h).1.0.kept;
            typed = stored_typed w.tables right l h.stand to (heap_parts h).1.0.formed.stored (heap_parts h).0 (heap_meant h);
            name = (heap_parts h).1.0.formed.name;
            amount = (heap_parts h).1.0.formed.amount;
          })

      pub heap_has : (t : Target) (x : Statement) → target_tree raw_at place to ≡ Some t
          → heap_tree v.tables.raw.now (scope_of v.tables) w.tables.statements l (Some t) cast n ≡ Some x → HasTree w (s.Heap l to cast n) x
      heap_has t x first tree =
          tree_as w (s.Heap l to cast n) _ x (treed-Heap raw_at l to cast n)
          (ap (λ o. heap_tree raw_at beyond w.tables.statements l o cast n) first ∙ told (λ r y. heap_tree r y w.tables.statements l (Some t) cast n ≡ Some x) stands_there tree)

      pub heap_passes : (z : Walk) → IsAt v.tables z.tables (numbered (scope_of v.tables)) → z.variables ≡ v.variables → Passes w z (s.Heap l to cast n)
      heap_passes z is same =
          passes_as w z (s.Heap l to cast n) _ _ (treed-Heap raw_at l to cast n) (scoped-Heap raw_at l to cast n) (λ stand inside. record {
            arrives = came (goes {t = v.tables} {u = z.tables} (λ r x. numbered x) stands_there is) refl;
            grow =
                subst (Grow w.variables z.variables) (sym (variables-append raw_at (target_phrases raw_at l place stand to) (phrase l beyond (Allocates to cast n) ∷ [])))
                (grow_then (stored stand inside).grow (same_variables v z same));
          })

-- ---- the target itself

module _ (w : Walk) (right : AreRight w.tables) (l : ℕ) (to : RawTarget) (var : RawVar) (is : to ≡ target.Declared var)
    (fits : AreFitTarget w.tables.raw.now l (scope_of w.tables) to) where
  target_declares : BreaksNone w.tables.raw.now (scope_of w.tables) (Declares fits.stand var init.None)
  target_declares = (subst (λ x. AreFit w.tables.raw.now (target_phrases w.tables.raw.now l (scope_of w.tables) fits.stand x)) is fits.fit).0.kept

  pub target_fresh : meaning_in (scope_of w.tables) var.name ≡ None
  target_fresh = declares_fresh w.tables.raw.now (scope_of w.tables) fits.stand var init.None target_declares

  pub target_typed : type_with w.tables.raw.now 0 var.shape ≡ None → ⊥
  target_typed = declares_typed w.tables.raw.now (scope_of w.tables) fits.stand var init.None target_declares

  pub target_shaped : ctype_with w.tables.raw.now 0 var.shape ≡ None → ⊥
  target_shaped = declares_shaped w.tables.raw.now (scope_of w.tables) fits.stand var init.None target_declares
