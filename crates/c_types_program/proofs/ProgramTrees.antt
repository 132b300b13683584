-- A text that keeps all rules has a program.
use Rattle.std.proofs.Common.{ℕ, List, [], ◌∷◌, ◌++◌, map, true, Option, Some, None, subst}
use Rattle.std.specs.Prelude.{bytes_eq, ◌≡◌}
use Rattle.std.specs.List.{list_all}
use Rattle.std.proofs.lemmas.Bool.{and_parts}
use Rattle.c_language.proofs.PhraseLists.{body_in_order, kept_both, phrases_kept}
use Rattle.c_tree.specs.declared.program.Item.TheVariants as item
use Rattle.c_tree.specs.declared.program.Program.{Program}
use Rattle.c_tree.specs.declared.raw.program.RawInit.TheVariants as init
use Rattle.c_tree.specs.declared.raw.program.RawMember.{RawMember}
use Rattle.c_tree.specs.declared.raw.program.RawParam.{RawParam}
use Rattle.c_tree.specs.declared.raw.program.RawHead.{RawHead}
use Rattle.c_tree.specs.declared.raw.program.RawItem.{RawItem}
use Rattle.c_tree.specs.declared.raw.program.RawItem.TheVariants.{Include, Tag, Struct, Global, Prototype, Define}
use Rattle.c_tree.specs.declared.raw.program.RawProgram.{RawProgram}
use Rattle.c_tree.specs.declared.raw.statement.RawStatement.{RawStatement}
use Rattle.c_language.specs.Words.{Bytes}
use Rattle.c_language.specs.DeclaredTypes.{StructText, defined_structs, defined_functions, definition_of, struct_id, function_id, item_count}
use Rattle.c_language.specs.DeclaredTypes as declared
use Rattle.c_language.specs.ItemGrammar.{are_named}
use Rattle.c_language.specs.Scopes.{Scope, outset, with_variable, with_named, with_parameters, scope_of_parameters, entered, parameter_of}
use Rattle.c_language.specs.Phrases.{InFile, InHead, InBlock, Part, NamesStruct, DefinesStruct, HasMember, DeclaresFunction, Takes, EndsFunction, Declares, Begins, Assigns, Bumps, Calls, Allocates, Tests, Switches, Returns, Phrases, phrase, scoped, body_phrases, member_phrases, parameter_phrases, head_phrases, item_phrases, items_phrases, after_item, phrases, scope_at_end}
use Rattle.c_language.specs.NameRules.{LacksDefinition}
use Rattle.c_language.specs.ProgramOf.{collected, ctype, ctype_with, ctype_if, init_of, treed, body_of, declared_by, variables_in, variables_of, member_tree, struct_tree, structs_of, function_tree, functions_from, functions_of, item_tree, items_from, items_of, program_with, program_of}
use Rattle.c_language.specs.Rules.{no_definition, KeepsRules, AreKept, BreaksNone}
use Rattle.c_language.specs.Programs.{IsTree, HasProgram}
use Rattle.c_language.proofs.Options.{value_there, there_map}
use Rattle.c_language.proofs.Lists.{contains_first}
use Rattle.c_types_base.proofs.OptionLemmas.{not_none, there_then, there_both, AreThere, there_collected, there_append, there_position}
use Rattle.c_types_trees.proofs.ScopeLemmas.{IsTyped, typed_variable, typed_function, AreMade, AreComplete}
use Rattle.c_types_trees.specs.KeptPhrases.{HasNoLengthIf}
use Rattle.c_types_trees.proofs.PhraseTrees.{tag_defined, result_made, variable_made, member_made}
use Rattle.c_types_program.proofs.TreedStatements.{init_there, list_there}
use Rattle.c_types_program.proofs.SyntaxTrees.{HaveTrees, body_trees, head_plain}
use Rattle.text_syntax.proofs.Items.{text_is_syntax}
use Rattle.c_language.specs.Syntax.{IsSyntax, is_head, is_item}
use Rattle.c_language.specs.Options.{IsThere}

-- ---- struct types

members_made : (raw : RawProgram) (scope : Scope) (before ms : List RawMember) → AreKept raw (member_phrases scope before ms) → AreMade raw ms
members_made raw scope before [] h = tt
members_made raw scope before (m ∷ ms) h = (member_made raw scope before m h.0, members_made raw scope (before ++ m ∷ []) ms h.1)

complete_from : (raw : RawProgram) (items : List RawItem) (scope : Scope) → AreKept raw (items_phrases raw items scope) → AreComplete raw (declared.struct_texts items)
complete_from raw [] scope h = tt
complete_from raw (Include is_stdlib ∷ rest) scope h = complete_from raw rest scope h
complete_from raw (Tag line tag ∷ rest) scope h = complete_from raw rest scope h.1
complete_from raw (Struct line tag members ∷ rest) scope h =
    let parts = kept_both raw (member_phrases scope [] members) (items_phrases raw rest (after_item raw (Struct line tag members) scope)) h.1 in
    (members_made raw scope [] members parts.0, complete_from raw rest (after_item raw (Struct line tag members) scope) parts.1)
complete_from raw (Global line var i is_static ∷ rest) scope h =
    complete_from raw rest (after_item raw (Global line var i is_static) scope)
    (kept_both raw (item_phrases raw (Global line var i is_static) scope) (items_phrases raw rest (after_item raw (Global line var i is_static) scope)) h).1
complete_from raw (Prototype line head ∷ rest) scope h =
    complete_from raw rest (after_item raw (Prototype line head) scope)
    (kept_both raw (item_phrases raw (Prototype line head) scope) (items_phrases raw rest (after_item raw (Prototype line head) scope)) h).1
complete_from raw (Define line head body ∷ rest) scope h =
    complete_from raw rest (after_item raw (Define line head body) scope)
    (kept_both raw (item_phrases raw (Define line head body) scope) (items_phrases raw rest (after_item raw (Define line head body) scope)) h).1

-- each member of a struct type has a type
complete_structs : (raw : RawProgram) → AreKept raw (phrases raw) → AreComplete raw (defined_structs raw)
complete_structs raw h = complete_from raw raw.items outset h

members_there : (raw : RawProgram) (ms : List RawMember) → AreMade raw ms → AreThere (map (member_tree raw) ms)
members_there raw [] h = tt
members_there raw (m ∷ ms) h = (there_map _ (ctype raw m.shape) h.0.tree, members_there raw ms h.1)

defined_there : (raw : RawProgram) (ds : List StructText) → AreComplete raw ds → AreThere (map (struct_tree raw) ds)
defined_there raw [] h = tt
defined_there raw (d ∷ ds) h =
    (there_map _ (collected (map (member_tree raw) d.members)) (there_collected (map (member_tree raw) d.members) (members_there raw d.members h.0)), defined_there raw ds h.1)

-- ---- variables

variable_there : (raw : RawProgram) (line : ℕ) (scope : Scope) (part : Part) → BreaksNone raw scope part → AreThere (declared_by raw line scope part)
variable_there raw line scope (NamesStruct tag) keeps = tt
variable_there raw line scope (DefinesStruct tag) keeps = tt
variable_there raw line scope (HasMember before m) keeps = tt
variable_there raw line scope (DeclaresFunction head is_definition) keeps = tt
variable_there raw line scope (Takes before p) keeps = tt
variable_there raw line scope (EndsFunction head body) keeps = tt
variable_there raw line scope (Declares stand var i) keeps =
    (there_map _ (ctype_with raw (item_count i) var.shape) (variable_made raw scope stand var i keeps).tree, tt)
variable_there raw line scope (Begins stand var i) keeps = tt
variable_there raw line scope (Assigns left op right) keeps = tt
variable_there raw line scope (Bumps left) keeps = tt
variable_there raw line scope (Calls stand to f args) keeps = tt
variable_there raw line scope (Allocates to cast n) keeps = tt
variable_there raw line scope (Tests a) keeps = tt
variable_there raw line scope (Switches a labels) keeps = tt
variable_there raw line scope (Returns a) keeps = tt

variables_there : (raw : RawProgram) (ps : Phrases) → AreKept raw ps → AreThere (variables_in raw ps)
variables_there raw [] h = tt
variables_there raw (p ∷ ps) h =
    there_append (declared_by raw p.line p.scope p.part) (variables_in raw ps) (variable_there raw p.line p.scope p.part h.0) (variables_there raw ps h.1)

-- ---- functions

typed_named : (raw : RawProgram) (p : RawParam) (name : Option Bytes) (scope : Scope) → IsTyped scope → AreKept raw (parameter_phrases raw p name scope)
    → IsTyped (with_named raw p name scope)
typed_named raw p None scope typed h = typed
typed_named raw p (Some name) scope typed h =
    typed_variable raw (parameter_of p name) init.None scope typed (variable_made raw scope InHead (parameter_of p name) init.None h.0).typed

typed_parameters : (raw : RawProgram) (ps : List RawParam) (scope : Scope) → IsTyped scope → AreKept raw (head_phrases raw ps scope) → IsTyped (with_parameters raw ps scope)
typed_parameters raw [] scope typed h = typed
typed_parameters raw (p ∷ ps) scope typed h =
    let parts = kept_both raw (parameter_phrases raw p p.name scope) (head_phrases raw ps (with_named raw p p.name scope)) h in
    typed_parameters raw ps (with_named raw p p.name scope) (typed_named raw p p.name scope typed parts.0) parts.1

module _ (raw : RawProgram) (complete : AreComplete raw (defined_structs raw)) where
  -- a definition's result has no length, and its statements have their trees
  abbrev IsFormed : RawItem → Type 0
  IsFormed (Include is_stdlib) = Unit {0}
  IsFormed (Tag line tag) = Unit {0}
  IsFormed (Struct line tag members) = Unit {0}
  IsFormed (Global line var i is_static) = Unit {0}
  IsFormed (Prototype line head) = Unit {0}
  IsFormed (Define line head body) = HasNoLengthIf head.result × HaveTrees raw complete body

  abbrev AreFormed : List RawItem → Type 0
  AreFormed [] = Unit {0}
  AreFormed (x ∷ xs) = IsFormed x × AreFormed xs

  item_formed : (x : RawItem) → is_item x ≡ true → IsFormed x
  item_formed (Include is_stdlib) h = tt
  item_formed (Tag line tag) h = tt
  item_formed (Struct line tag members) h = tt
  item_formed (Global line var i is_static) h = tt
  item_formed (Prototype line head) h = tt
  item_formed (Define line head body) h =
      let p = and_parts (is_head head) _ h in
      (head_plain head p.0, body_trees raw complete body (and_parts (are_named head.params) _ p.1).1)

  items_formed : (xs : List RawItem) → list_all is_item xs ≡ true → AreFormed xs
  items_formed [] h = tt
  items_formed (x ∷ xs) h = let p = and_parts (is_item x) (list_all is_item xs) h in (item_formed x p.0, items_formed xs p.1)

  -- ---- items

  typed_item : (x : RawItem) (scope : Scope) → IsTyped scope → AreKept raw (item_phrases raw x scope) → IsTyped (after_item raw x scope)
  typed_item (Include is_stdlib) scope typed h = typed
  typed_item (Tag line tag) scope typed h = typed
  typed_item (Struct line tag members) scope typed h = typed
  typed_item (Global line var i is_static) scope typed h = typed_variable raw var i scope typed (variable_made raw scope (InFile is_static) var i h.0).typed
  typed_item (Prototype line head) scope typed h = typed_function head.name scope typed
  typed_item (Define line head body) scope typed h = typed_function head.name scope typed

  item_there : (x : RawItem) (scope : Scope) → IsTyped scope → AreKept raw (item_phrases raw x scope) → IsThere (item_tree raw x scope)
  item_there (Include is_stdlib) scope typed h = tt
  item_there (Tag line tag) scope typed h = there_map item.Tag (struct_id raw tag) (tag_defined raw scope (NamesStruct tag) h.0 tag (contains_first tag []))
  item_there (Struct line tag members) scope typed h = tt
  item_there (Global line var i is_static) scope typed h =
      there_map (item.Global scope.variables) (init_of raw (with_variable raw var i scope) i)
      (init_there raw complete line (with_variable raw var i scope) (InFile is_static) var i
      (typed_variable raw var i scope typed (variable_made raw scope (InFile is_static) var i h.0).typed) h.1)
  item_there (Prototype line head) scope typed h =
      there_map _ (function_id raw head.name)
      (there_position (λ (f : RawHead). bytes_eq f.name head.name) (defined_functions raw)
      (not_none (definition_of raw head.name) (λ none. h.0 6 (no_definition (LacksDefinition.prototype none)))))
  item_there (Define line head body) scope typed h = tt

  function_there : (line : ℕ) (head : RawHead) (body : List RawStatement) (scope : Scope) → IsTyped scope → IsFormed (Define line head body)
      → AreKept raw (item_phrases raw (Define line head body) scope) → IsThere (function_tree raw line head body scope)
  function_there line head body scope typed formed h =
      let parts = kept_both raw (head_phrases raw head.params (scope_of_parameters head scope)) (body_phrases raw body (entered raw head scope) ++ (phrase line scope (EndsFunction head body) ∷ [])) h.1 in
      let inner = kept_both raw (body_phrases raw body (entered raw head scope)) (phrase line scope (EndsFunction head body) ∷ []) parts.1 in
      there_both _ (ctype_if raw head.result) (body_of raw body (entered raw head scope))
      (result_made raw head.result formed.0 (tag_defined raw scope (DeclaresFunction head true) h.0))
      (list_there raw complete InBlock (map (treed raw) body) (map (scoped raw) body) formed.1 (entered raw head scope)
      (typed_parameters raw head.params (scope_of_parameters head scope) (typed_function head.name scope typed) parts.0)
      (subst (AreKept raw) (body_in_order raw body (entered raw head scope)) inner.0))

  -- what a function is made of, where the item defines one
  functions_step : (x : RawItem) (rest : List RawItem) (scope : Scope) → IsTyped scope → IsFormed x → AreKept raw (item_phrases raw x scope)
      → AreThere (functions_from raw rest (after_item raw x scope)) → AreThere (functions_from raw (x ∷ rest) scope)
  functions_step (Include is_stdlib) rest scope typed formed h k = k
  functions_step (Tag line tag) rest scope typed formed h k = k
  functions_step (Struct line tag members) rest scope typed formed h k = k
  functions_step (Global line var i is_static) rest scope typed formed h k = k
  functions_step (Prototype line head) rest scope typed formed h k = k
  functions_step (Define line head body) rest scope typed formed h k = (function_there line head body scope typed formed h, k)

  items_there : (xs : List RawItem) (scope : Scope) → IsTyped scope → AreFormed xs → AreKept raw (items_phrases raw xs scope)
      → AreThere (items_from raw xs scope) × AreThere (functions_from raw xs scope)
  items_there [] scope typed formed h = (tt, tt)
  items_there (x ∷ xs) scope typed formed h =
      let parts = kept_both raw (item_phrases raw x scope) (items_phrases raw xs (after_item raw x scope)) h in
      let rest = items_there xs (after_item raw x scope) (typed_item x scope typed parts.0) formed.1 parts.1 in
      ((item_there x scope typed parts.0, rest.0), functions_step x xs scope typed formed.0 parts.0 rest.1)

-- ---- the whole

program_there : (raw : RawProgram) → IsSyntax raw → AreKept raw (phrases raw) → IsThere (program_of raw)
program_there raw syntax h =
    let complete = complete_structs raw h in
    let parts = items_there raw complete raw.items outset tt (items_formed raw complete raw.items syntax) h in
    there_then _ (items_of raw) (there_collected (items_from raw raw.items outset) parts.0) (λ items is.
    there_then _ (variables_of raw) (there_collected (variables_in raw (phrases raw)) (variables_there raw (phrases raw) h)) (λ vars also.
    there_both (program_with (scope_at_end raw).statements items vars) (structs_of raw) (functions_of raw)
    (there_collected (map (struct_tree raw) (defined_structs raw)) (defined_there raw (defined_structs raw) complete))
    (there_collected (functions_from raw raw.items outset) parts.1)))

-- a tree that is syntax and keeps all rules has a program
pub kept_has_program : (raw : RawProgram) → IsSyntax raw → KeepsRules raw → (p : Program) × HasProgram raw p
kept_has_program raw syntax keeps =
    let found = value_there (program_of raw) (program_there raw syntax (phrases_kept raw keeps)) in
    (found.0, record { rules = keeps; program = found.1 })

-- and so has the tree of a text
pub tree_has_program : (raw : RawProgram) → IsTree raw → KeepsRules raw → (p : Program) × HasProgram raw p
tree_has_program raw tree keeps = kept_has_program raw (text_is_syntax raw tree) keeps
