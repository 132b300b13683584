-- What is said of a phrase depends on its place by the names that occur in it alone.
use Rattle.std.specs.Prelude.{◌≡◌, ℕ, List, [], ◌∷◌, map, Option, Some, None, option_map, true}
use Rattle.c_language.specs.TypeGrammar.{is_written}
use Rattle.c_arith.specs.declared.int_type.IntType.{IntType}
use Rattle.c_tree.specs.declared.expr.Expr.{Expr}
use Rattle.c_tree.specs.declared.program.Program.{Program}
use Rattle.c_tree.specs.declared.statement.Statement.{Statement}
use Rattle.c_tree.specs.declared.raw.expr.RawExpr.{RawExpr}
use Rattle.c_tree.specs.declared.raw.expr.RawType.{RawType}
use Rattle.c_tree.specs.declared.raw.expr.RawVar.{RawVar}
use Rattle.c_tree.specs.declared.raw.program.RawInit.{RawInit}
use Rattle.c_tree.specs.declared.raw.program.RawInit.TheVariants as init
use Rattle.c_tree.specs.declared.raw.program.RawProgram.{RawProgram}
use Rattle.c_tree.specs.declared.raw.statement.RawTarget.{RawTarget}
use Rattle.c_tree.specs.declared.raw.statement.RawTarget.TheVariants as target
use Rattle.c_tree.specs.declared.raw.statement.RawArg.{RawArg}
use Rattle.c_tree.specs.declared.raw.statement.RawAmount.{RawAmount}
use Rattle.c_tree.specs.declared.raw.statement.RawLabel.{RawLabel}
use Rattle.c_tree.specs.declared.raw.statement.RawStatement.{RawStatement}
use Rattle.c_tree.specs.declared.raw.statement.RawStatement.TheOpen.{RawStatement-F}
use Rattle.c_language.specs.Words.{Bytes}
use Rattle.c_language.specs.DeclaredTypes.{item_count, function_id}
use Rattle.c_language.specs.Scopes.{Scope, Scoped}
use Rattle.c_language.specs.ExprTypes.{operand}
use Rattle.c_language.specs.Phrases.{Part, Allocates, body_phrases}
use Rattle.c_language.specs.Uses.{init_exprs, target_exprs, arg_exprs, cases}
use Rattle.c_language.specs.Rules.{Breaks, KeepsRules, AreKept}
use Rattle.c_language.specs.ProgramOf.{expr_of, init_of, target_tree, args_tree, amount_tree, label_tree, switch_type, ArmTree, tree_step, body_of, program_of}
use Rattle.c_scope_laws.specs.Agreement.{NamedIn, NamedAmong, Names, NamesFunction, DeclaresName, DeclaresHead, SameOutside, Agree, Heads, PlacesAgree, SameVariable, CountWritten, PartsAgree, TreesAgree, simple_part, simple_scope}
use Rattle.c_scope_laws.specs.Following.{TextsAgree, ScopesAgree, kept_numbers}
use Rattle.projection.specs.Kept.{Kept}
use Rattle.c_scope_laws.specs.Thinning.{found, EntryStays, ThinAll}
use Rattle.c_language.specs.Names.{names}
use Rattle.projection.specs.Projection.{projected_all, projected_program}
use Rattle.c_scope_laws.specs.ThinTexts.{IsThinner, NamesParameters, all_kept, full_item}
use Rattle.c_scope_laws.specs.ThinnedBodies.{AreMet, body_left}
use Rattle.c_scope_laws.specs.ThinnedTexts.{KeepsText, thinned_text}
use Rattle.projection.specs.Renumbering.{Numbers, renamed, renamed_init, renamed_target, renamed_amount, renamed_label, renumbered}
use Rattle.c_language.specs.Lists.{all_true}

-- an expression is the same operand at places that agree on its names
abbrev pub OperandsAgree : Type 0
OperandsAgree =
    (f : ℕ → ℕ) (raw other : RawProgram) (scope next : Scope) (a : RawExpr) → SameOutside raw other → Agree f (NamedIn a) scope next
    → operand other next a ≡ operand raw scope a

-- and its tree is the same but for the numbers of variables
abbrev pub ExprsAgree : Type 0
ExprsAgree =
    (f : ℕ → ℕ) (raw other : RawProgram) (scope next : Scope) (a : RawExpr) → SameOutside raw other → Agree f (NamedIn a) scope next
    → expr_of other next a ≡ option_map (renamed f) (expr_of raw scope a)

abbrev pub InitsAgree : Type 0
InitsAgree =
    (f : ℕ → ℕ) (raw other : RawProgram) (scope next : Scope) (i : RawInit) → SameOutside raw other → Agree f (NamedAmong (init_exprs i)) scope next
    → init_of other next i ≡ option_map (renamed_init f) (init_of raw scope i)

-- a target that declares has the next number
abbrev pub TargetsAgree : Type 0
TargetsAgree =
    (f : ℕ → ℕ) (raw other : RawProgram) (scope next : Scope) (to : RawTarget) → SameOutside raw other → Agree f (NamedAmong (target_exprs to)) scope next
    → next.variables ≡ f scope.variables → target_tree other next to ≡ option_map (renamed_target f) (target_tree raw scope to)

abbrev pub ArgsAgree : Type 0
ArgsAgree =
    (f : ℕ → ℕ) (raw other : RawProgram) (scope next : Scope) (args : List RawArg) → SameOutside raw other → Agree f (NamedAmong (arg_exprs args)) scope next
    → args_tree other next args ≡ option_map (map (renamed f)) (args_tree raw scope args)

abbrev pub AmountsAgree : Type 0
AmountsAgree =
    (f : ℕ → ℕ) (raw other : RawProgram) (scope next : Scope) (n : RawAmount) → SameOutside raw other → Agree f (Names (Allocates target.None None n)) scope next
    → amount_tree other next n ≡ option_map (renamed_amount f) (amount_tree raw scope n)

abbrev pub LabelsAgree : Type 0
LabelsAgree =
    (f : ℕ → ℕ) (raw other : RawProgram) (scope next : Scope) (t : IntType) (a : RawLabel) → SameOutside raw other → Agree f (NamedAmong (cases (a ∷ []))) scope next
    → label_tree other next t a ≡ option_map (renamed_label f) (label_tree raw scope t a)

abbrev pub SwitchTypesAgree : Type 0
SwitchTypesAgree =
    (f : ℕ → ℕ) (raw other : RawProgram) (scope next : Scope) (a : RawExpr) → SameOutside raw other → Agree f (NamedIn a) scope next
    → switch_type other next a ≡ switch_type raw scope a

-- the tree of a statement without parts is the same but for numbers, at places where its names agree and the next numbers fit
abbrev pub SimpleTreesAgree : Type 0
SimpleTreesAgree =
    (ns : Numbers) (raw other : RawProgram) (scope next : Scope) (x : RawStatement-F (Scoped (Option Statement)) (Scoped ArmTree)) (part : Part)
    → simple_part x ≡ Some part → TreesAgree ns (NamesFunction part) raw other scope next → Agree ns.variable (Names part) (simple_scope raw x scope) (simple_scope other x next)
    → tree_step other x next ≡ option_map (renumbered ns) (tree_step raw x scope)

-- a phrase breaks a rule that is broken by what stands for it at a place of the other text that agrees on its names
abbrev pub RulesAgree : Type 0
RulesAgree =
    (heads : Heads) (f : ℕ → ℕ) (raw other : RawProgram) (scope next : Scope) (part changed : Part) (n : ℕ) → PartsAgree heads raw other scope part changed
    → PlacesAgree heads f (Names changed) (NamesFunction changed) (DeclaresName changed) (DeclaresHead changed) raw other scope next → Breaks other next changed n → Breaks raw scope part n

-- a declaration keeps its type where its initialiser is dropped, if a length that its list gave is written as a constant
abbrev pub InitialisersDrop : Type 0
InitialisersDrop =
    (raw other : RawProgram) (v w : RawVar) (i : RawInit) → SameOutside raw other → w.name ≡ v.name → CountWritten (item_count i) v.shape w.shape
    → SameVariable raw other v i w init.None

-- where no length is left to a list, nothing is to be written
abbrev pub WrittenStays : Type 0
WrittenStays = (items : ℕ) (a : RawType) → is_written a ≡ true → CountWritten items a a

-- what stays of a text that keeps all rules keeps all rules
abbrev pub ThinnerKeepsRules : Type 0
ThinnerKeepsRules = (k : Kept Bytes) (raw other : RawProgram) → IsThinner k raw other → KeepsRules raw → KeepsRules other

-- at places that follow one another, what stays of a list of statements has the tree that stays of its tree
abbrev pub BodiesThin : Type 0
BodiesThin =
    (k : Kept Bytes) (functions : ℕ → ℕ) (raw other : RawProgram) (here there : ℕ) (mine yours : Option ℕ) (scope next : Scope) (xs ys : List RawStatement) (zs : List Statement) → TextsAgree k raw other
    → ((x : Bytes) → k.function x ≡ true → function_id other x ≡ option_map functions (function_id raw x)) → ScopesAgree k raw other here there mine yours scope next → ThinAll k raw other scope xs ys
    → body_of raw xs scope ≡ Some zs → body_of other ys next ≡ Some (projected_all k functions zs)

-- the program of what stays of a text is what stays of the program of the text
abbrev pub ProgramsThin : Type 0
ProgramsThin =
    (k : Kept Bytes) (raw other : RawProgram) (p : Program) → NamesParameters raw → IsThinner k raw other → KeepsRules raw
    → program_of raw ≡ Some p → program_of other ≡ Some (projected_program (kept_numbers k raw) p)

-- where the tree of an expression names kept variables alone, what the expression names is kept
abbrev pub TreesKeepNames : Type 0
TreesKeepNames =
    (k : Kept Bytes) (raw : RawProgram) (scope : Scope) (a : RawExpr) (w : Expr) → expr_of raw scope a ≡ Some w → ((id : ℕ) → names w id ≡ true → k.variable id ≡ true)
    → (x : Bytes) → NamedIn a x → EntryStays k (found x scope.names)

-- where all is kept, a text without empty blocks is what stays of it
abbrev pub WholeStays : Type 0
WholeStays = (raw : RawProgram) → all_true (map full_item raw.items) ≡ true → IsThinner all_kept raw raw

-- what stays of a list of statements where this is kept is what stays of it, where its needs are met
abbrev pub BodiesStay : Type 0
BodiesStay =
    (k : Kept Bytes) (raw other : RawProgram) (scope : Scope) (xs : List RawStatement) → SameOutside raw other → AreKept raw (body_phrases raw xs scope) → AreMet k (body_left k raw xs scope).needs
    → ThinAll k raw other scope xs (body_left k raw xs scope).some

-- the thinner text of a text is what stays of it, where what is kept is a text
abbrev pub ThinnerText : Type 0
ThinnerText = (k : Kept Bytes) (raw : RawProgram) → KeepsRules raw → KeepsText k raw → IsThinner k raw (thinned_text k raw)

-- where all is kept, this is a text, whatever the text is
abbrev pub WholeIsClosed : Type 0
WholeIsClosed = (raw : RawProgram) → KeepsText all_kept raw

-- it keeps the rules, and its program is what stays of the program of the text
pub record HasThinnedProgram (k : Kept Bytes) (raw : RawProgram) (p : Program) : Type 0 where
  pub rules : KeepsRules (thinned_text k raw)
  pub program : program_of (thinned_text k raw) ≡ Some (projected_program (kept_numbers k raw) p)

abbrev pub ThinnerProgram : Type 0
ThinnerProgram = (k : Kept Bytes) (raw : RawProgram) (p : Program) → NamesParameters raw → KeepsRules raw → KeepsText k raw → program_of raw ≡ Some p → HasThinnedProgram k raw p
