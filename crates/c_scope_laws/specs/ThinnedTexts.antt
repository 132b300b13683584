-- The thinner text of a text where this is kept, and when it is what stays of the text.
use Rattle.std.specs.Prelude.{◌≡◌, ◌≢◌, Bool, true, false, List, [], ◌∷◌, ◌++◌}
use Rattle.c_tree.specs.declared.raw.expr.RawVar.{RawVar}
use Rattle.c_tree.specs.declared.raw.program.RawInit.{RawInit}
use Rattle.c_tree.specs.declared.raw.program.RawHead.{RawHead}
use Rattle.c_tree.specs.declared.raw.program.RawItem.{RawItem}
use Rattle.c_tree.specs.declared.raw.program.RawItem.TheVariants.{Include, Tag, Struct, Global, Prototype, Define}
use Rattle.c_tree.specs.declared.raw.program.RawProgram.{RawProgram}
use Rattle.c_tree.specs.declared.raw.statement.RawStatement.{RawStatement}
use Rattle.c_language.specs.Words.{Bytes}
use Rattle.c_language.specs.Scopes.{Scope, outset, with_variable, scope_of_parameters, entered}
use Rattle.c_language.specs.Phrases.{InFile, Declares, Begins, scoped, after_item}
use Rattle.c_language.specs.NameRules.{main_name}
use Rattle.c_language.specs.CallRules.{EndsWithValue}
use Rattle.projection.specs.Kept.{Kept}
use Rattle.c_scope_laws.specs.Agreement.{head_left}
use Rattle.c_scope_laws.specs.Thinning.{NamesStay, heads_of}
use Rattle.c_scope_laws.specs.ThinTexts.{ParamsFit, ParamsGo, MembersStay}
use Rattle.c_scope_laws.specs.ThinnedBodies.{AreMet, gone, body_left}

abbrev pub chosen : Bool → RawItem → List RawItem
chosen true x = x ∷ []
chosen false x = []

module _ (k : Kept Bytes) (raw : RawProgram) where
  -- what stays of an item in a scope
  abbrev pub item_left : RawItem → Scope → List RawItem
  item_left (Include is_stdlib) scope = Include is_stdlib ∷ []
  item_left (Tag l w) scope = Tag l w ∷ []
  item_left (Struct l w members) scope = Struct l w members ∷ []
  item_left (Global l v i is_static) scope = chosen (k.variable scope.variables) (Global l v i is_static)
  item_left (Prototype l head) scope = chosen (k.function head.name) (Prototype l (head_left (heads_of k) head))
  item_left (Define l head body) scope = chosen (k.function head.name) (Define l (head_left (heads_of k) head) (body_left k raw body (entered raw head scope)).some)

  abbrev pub items_left : List RawItem → Scope → List RawItem
  items_left [] scope = []
  items_left (x ∷ xs) scope = item_left x scope ++ items_left xs (after_item raw x scope)

  -- ---- what is needed of what is kept

  -- all that the declaration of a variable at file scope names is kept
  pub record VariableStays (v : RawVar) (i : RawInit) (is_static : Bool) (scope : Scope) : Type 0 where
    pub declares : NamesStay k scope (Declares (InFile is_static) v i)
    pub begins : NamesStay k (with_variable raw v i scope) (Begins (InFile is_static) v i)

  -- the last statement of a list is kept, where it is one that has a number
  abbrev pub LastStays : List RawStatement → Scope → Type 0
  LastStays [] scope = Unit {0}
  LastStays (x ∷ []) scope = k.statement scope.statements ≡ true
  LastStays (x ∷ (y ∷ rest)) scope = LastStays (y ∷ rest) ((scoped raw x).after scope)

  -- a function stays with the variables of the parameters that stay and, where it gives a result still, with the return that it ends with, which main may lose
  pub record FunctionStays (head : RawHead) (body : List RawStatement) (scope : Scope) : Type 0 where
    pub parameters : ParamsFit k raw head.name 0 head.params (scope_of_parameters head scope)
    pub statements : AreMet k (body_left k raw body (entered raw head scope)).needs
    pub result : k.gives head.name ≡ true → head.name ≢ main_name → EndsWithValue body → LastStays body (entered raw head scope)

  -- nothing is kept of a function that goes
  pub record FunctionGoes (head : RawHead) (body : List RawStatement) (scope : Scope) : Type 0 where
    pub parameters : ParamsGo k raw head.params (scope_of_parameters head scope)
    pub statements : AreMet k (gone (body_left k raw body (entered raw head scope)))

  abbrev pub ItemIsClosed : RawItem → Scope → Type 0
  ItemIsClosed (Include is_stdlib) scope = Unit {0}
  ItemIsClosed (Tag l w) scope = Unit {0}
  ItemIsClosed (Struct l w members) scope = MembersStay k scope members
  ItemIsClosed (Global l v i is_static) scope = k.variable scope.variables ≡ true → VariableStays v i is_static scope
  ItemIsClosed (Prototype l head) scope = Unit {0}
  ItemIsClosed (Define l head body) scope = (k.function head.name ≡ true → FunctionStays head body scope) × (k.function head.name ≡ false → FunctionGoes head body scope)

  abbrev pub ItemsAreClosed : List RawItem → Scope → Type 0
  ItemsAreClosed [] scope = Unit {0}
  ItemsAreClosed (x ∷ xs) scope = ItemIsClosed x scope × ItemsAreClosed xs (after_item raw x scope)

-- the thinner text
abbrev pub thinned_text : Kept Bytes → RawProgram → RawProgram
thinned_text k raw = record { items = items_left k raw raw.items outset }

-- what is kept is a text: all that it names is kept, what stands in something that is kept, and main with its result
pub record KeepsText (k : Kept Bytes) (raw : RawProgram) : Type 0 where
  pub items : ItemsAreClosed k raw raw.items outset
  pub main : k.function main_name ≡ true
  pub result : k.gives main_name ≡ true
