-- A text and a thinner one: what stays of its items.
use Rattle.std.specs.Prelude.{◌≡◌, ℕ, suc, Bool, true, false, ◌&&◌, List, [], ◌∷◌, map, Option, Some, None, Contains}
use Rattle.c_tree.specs.declared.raw.expr.RawVar.{RawVar}
use Rattle.c_tree.specs.declared.raw.program.RawInit.{RawInit}
use Rattle.c_tree.specs.declared.raw.program.RawInit.TheVariants as init
use Rattle.c_tree.specs.declared.raw.program.RawMember.{RawMember}
use Rattle.c_tree.specs.declared.raw.program.RawParam.{RawParam}
use Rattle.c_tree.specs.declared.raw.program.RawHead.{RawHead}
use Rattle.c_tree.specs.declared.raw.program.RawItem.{RawItem}
use Rattle.c_tree.specs.declared.raw.program.RawItem.TheVariants.{Include, Tag, Struct, Global, Prototype, Define}
use Rattle.c_tree.specs.declared.raw.program.RawProgram.{RawProgram}
use Rattle.c_tree.specs.declared.raw.statement.RawStatement.{RawStatement, fold-RawStatement}
use Rattle.c_tree.specs.declared.raw.statement.RawStatement.TheOpen.{RawStatement-F, RawArm-F}
use Rattle.c_language.specs.Words.{Bytes}
use Rattle.c_language.specs.Scopes.{Scope, outset, with_variable, with_parameter, parameter_of, scope_of_parameters, entered}
use Rattle.c_language.specs.Phrases.{InFile, InHead, HasMember, Declares, Begins, after_item}
use Rattle.c_language.specs.NameRules.{main_name}
use Rattle.c_language.specs.ItemGrammar.{are_named}
use Rattle.projection.specs.Kept.{Kept}
use Rattle.c_scope_laws.specs.Agreement.{EndsToo, head_left}
use Rattle.c_scope_laws.specs.Thinning.{NamesStay, ThinAll, heads_of}
use Rattle.c_language.specs.Lists.{if_there, all_true}

-- a named parameter of a definition stays with its variable, or both go
abbrev pub ParamFits : Kept Bytes → Bool → Scope → RawParam → Option Bytes → Type 0
ParamFits k stays scope p None = Unit {0}
ParamFits k true scope p (Some name) = (k.variable scope.variables ≡ true) × NamesStay k scope (Declares InHead (parameter_of p name) init.None)
ParamFits k false scope p (Some name) = k.variable scope.variables ≡ false

-- each of the parameters of the definition of a function, the first of which has this place
abbrev pub ParamsFit : Kept Bytes → RawProgram → Bytes → ℕ → List RawParam → Scope → Type 0
ParamsFit k raw f n [] scope = Unit {0}
ParamsFit k raw f n (p ∷ ps) scope = ParamFits k (k.parameter f n) scope p p.name × ParamsFit k raw f (suc n) ps (with_parameter raw p scope)

abbrev pub ParamGoes : Kept Bytes → Scope → Option Bytes → Type 0
ParamGoes k scope None = Unit {0}
ParamGoes k scope (Some name) = k.variable scope.variables ≡ false

-- none of the named parameters of a definition stays
abbrev pub ParamsGo : Kept Bytes → RawProgram → List RawParam → Scope → Type 0
ParamsGo k raw [] scope = Unit {0}
ParamsGo k raw (p ∷ ps) scope = ParamGoes k scope p.name × ParamsGo k raw ps (with_parameter raw p scope)

-- what the lengths of a struct type's members name stays
abbrev pub MembersStay : Kept Bytes → Scope → List RawMember → Type 0
MembersStay k scope members = (before : List RawMember) (m : RawMember) → Contains members m → NamesStay k scope (HasMember before m)

-- The items that stay of a list of items in a scope, in the other text. Includes and struct types stay; a function stays with its prototypes,
-- and they keep the same parameters and the result or not. A function that gives a result still and ends with a return does so still, but for main.
pub data ItemsThin (k : Kept Bytes) (raw other : RawProgram) : Scope → List RawItem → List RawItem → Type 0 where
  none : {scope : Scope} → ItemsThin k raw other scope [] []
  include : {scope : Scope} {is_stdlib : Bool} {rest others : List RawItem}
      → ItemsThin k raw other scope rest others → ItemsThin k raw other scope (Include is_stdlib ∷ rest) (Include is_stdlib ∷ others)
  tag : {scope : Scope} {l : ℕ} {w : Bytes} {rest others : List RawItem}
      → ItemsThin k raw other scope rest others → ItemsThin k raw other scope (Tag l w ∷ rest) (Tag l w ∷ others)
  structure : {scope : Scope} {l : ℕ} {w : Bytes} {members : List RawMember} {rest others : List RawItem}
      → MembersStay k scope members → ItemsThin k raw other (after_item raw (Struct l w members) scope) rest others
      → ItemsThin k raw other scope (Struct l w members ∷ rest) (Struct l w members ∷ others)
  global : {scope : Scope} {l : ℕ} {v : RawVar} {i : RawInit} {is_static : Bool} {rest others : List RawItem}
      → k.variable scope.variables ≡ true → NamesStay k scope (Declares (InFile is_static) v i) → NamesStay k (with_variable raw v i scope) (Begins (InFile is_static) v i)
      → ItemsThin k raw other (after_item raw (Global l v i is_static) scope) rest others
      → ItemsThin k raw other scope (Global l v i is_static ∷ rest) (Global l v i is_static ∷ others)
  global_goes : {scope : Scope} {l : ℕ} {v : RawVar} {i : RawInit} {is_static : Bool} {rest others : List RawItem}
      → k.variable scope.variables ≡ false → ItemsThin k raw other (after_item raw (Global l v i is_static) scope) rest others
      → ItemsThin k raw other scope (Global l v i is_static ∷ rest) others
  prototype : {scope : Scope} {l : ℕ} {head : RawHead} {rest others : List RawItem}
      → k.function head.name ≡ true → ItemsThin k raw other (after_item raw (Prototype l head) scope) rest others
      → ItemsThin k raw other scope (Prototype l head ∷ rest) (Prototype l (head_left (heads_of k) head) ∷ others)
  prototype_goes : {scope : Scope} {l : ℕ} {head : RawHead} {rest others : List RawItem}
      → k.function head.name ≡ false → ItemsThin k raw other (after_item raw (Prototype l head) scope) rest others
      → ItemsThin k raw other scope (Prototype l head ∷ rest) others
  define : {scope : Scope} {l : ℕ} {head : RawHead} {body some : List RawStatement} {rest others : List RawItem}
      → k.function head.name ≡ true → ParamsFit k raw head.name 0 head.params (scope_of_parameters head scope) → ThinAll k raw other (entered raw head scope) body some
      → EndsToo (heads_of k) head body some → ItemsThin k raw other (after_item raw (Define l head body) scope) rest others
      → ItemsThin k raw other scope (Define l head body ∷ rest) (Define l (head_left (heads_of k) head) some ∷ others)
  define_goes : {scope : Scope} {l : ℕ} {head : RawHead} {body : List RawStatement} {rest others : List RawItem}
      → k.function head.name ≡ false → ParamsGo k raw head.params (scope_of_parameters head scope) → ThinAll k raw other (entered raw head scope) body []
      → ItemsThin k raw other (after_item raw (Define l head body) scope) rest others
      → ItemsThin k raw other scope (Define l head body ∷ rest) others

-- the other text is what stays of the text, and main stays with its result
pub record IsThinner (k : Kept Bytes) (raw other : RawProgram) : Type 0 where
  pub items : ItemsThin k raw other outset raw.items other.items
  pub main : k.function main_name ≡ true
  pub result : k.gives main_name ≡ true

-- the parameters of each definition have names
abbrev pub is_named : RawItem → Bool
is_named (Define l head body) = are_named head.params
is_named _ = true

abbrev pub NamesParameters : RawProgram → Type 0
NamesParameters raw = all_true (map is_named raw.items) ≡ true

-- ---- where all is kept

abbrev pub all_kept : Kept Bytes
all_kept = record {
  variable = λ n. true;
  statement = λ n. true;
  result = λ n. true;
  argument = λ i n. true;
  function = λ x. true;
  parameter = λ x n. true;
  gives = λ x. true;
}

abbrev pub is_cons : List Bool → Bool
is_cons [] = false
is_cons (b ∷ bs) = true

abbrev pub full_step : RawStatement-F Bool Bool → Bool
full_step (RawStatement-F.If l a b c) = all_true b && all_true c
full_step (RawStatement-F.While l a b) = all_true b
full_step (RawStatement-F.Do l a b) = all_true b
full_step (RawStatement-F.For l i a step b) = if_there i && (if_there step && all_true b)
full_step (RawStatement-F.Switch l a arms) = all_true arms
full_step (RawStatement-F.Block l b) = is_cons b && all_true b
full_step _ = true

abbrev pub full_arm : RawArm-F Bool Bool → Bool
full_arm a = all_true a.body

-- a statement has no empty block in it
abbrev pub is_full : RawStatement → Bool
is_full = fold-RawStatement Bool Bool full_step full_arm

abbrev pub full_item : RawItem → Bool
full_item (Define l head body) = all_true (map is_full body)
full_item _ = true
