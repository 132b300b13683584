-- What the walk does at each item of a text, step by step.
use Rattle.std.proofs.Common.{◌≡◌, ℕ, ◌+◌, ◌<◌, ◌≤◌, List, [], ◌∷◌, ◌++◌, length, drop, get_or, map, Bool, false, Option, Some, None, option_map, append_assoc, append-nil, refl, sym, ap, subst, ◌∙◌}
use Rattle.std.specs.Prelude.{vec_len, bytes_eq}
use Rattle.std.proofs.lemmas.List.{map-append, drop_all}
use Rattle.c_language.proofs.PhraseLists.{begun_nothing, members_declare, taken_declare}
use Rattle.c_tree.specs.declared.program.Function.{Function}
use Rattle.c_tree.specs.declared.program.Init.{Init}
use Rattle.c_tree.specs.declared.program.Item.{Item}
use Rattle.c_tree.specs.declared.program.Item.TheVariants as item
use Rattle.c_tree.specs.declared.raw.program.RawInit.{RawInit}
use Rattle.c_tree.specs.declared.raw.program.RawItem.{RawItem}
use Rattle.c_tree.specs.declared.raw.program.RawItem.TheVariants.{Include, Tag, Struct, Global, Prototype, Define}
use Rattle.c_tree.specs.declared.raw.program.RawHead.{RawHead}
use Rattle.c_tree.specs.declared.raw.program.RawMember.{RawMember}
use Rattle.c_tree.specs.declared.raw.program.RawParam.{RawParam}
use Rattle.c_tree.specs.declared.raw.program.RawProgram.{RawProgram}
use Rattle.c_tree.specs.declared.raw.expr.RawVar.{RawVar}
use Rattle.c_tree.specs.declared.raw.statement.RawStatement.{RawStatement}
use Rattle.c_language.specs.DeclaredTypes.{defined_functions, definition_of, struct_id, function_id, type_with, item_count, struct_texts}
use Rattle.c_language.specs.NameRules.{LacksDefinition}
use Rattle.c_language.specs.Phrases.{InFile, NamesStruct, after_item}
use Rattle.c_language.specs.ProgramOf.{collected, ctype_with, init_of, variable_with, variable_of, item_tree, items_from, functions_from}
use Rattle.c_language.specs.Rules.{no_definition}
use Rattle.c_language.specs.Scopes.{Scope, Meaning, meaning_in, with_entry, with_variable, with_function}
use Rattle.c_language.specs.Words.{Bytes}
use Rattle.c_language.proofs.Turns.{drop_turn}
use Rattle.c_language.proofs.Lists.{contains_first}
use Rattle.c_types_base.specs.Tables.{scope_of, AreRight, IsAt}
use Rattle.c_types_base.proofs.OptionLemmas.{not_none, there_position}
use Rattle.c_types_base.specs.Stretches.{then_comes, nothing, of_item, of_items}
use Rattle.c_types_base.proofs.ListingLaws.{item_outer, item_structs}
use Rattle.c_types_program.specs.declared.walk.Walk.{Walk}
use Rattle.c_types_trees.specs.KeptPhrases.{IsKeptInit}
use Rattle.c_types_program.specs.Statements.{Comes}
use Rattle.c_types_program.specs.Variables.{Grow}
use Rattle.c_types_program.specs.Items.{FitsStretch, PassesStretch, HasFunction, HasItem, AddsFunction, HasItems, HasFunctions, AreFitMembers}
use Rattle.c_types_trees.proofs.Collected.{given_some}
use Rattle.c_types_program.proofs.Passing.{same_variables}
use Rattle.c_types_trees.proofs.PhraseTrees.{tag_defined}
use Rattle.c_types_program.proofs.Progress.{Place, left_as, next_fits, comes_on, all_gone}
use Rattle.c_types_program.proofs.SimpleForms.{declares_fresh, declares_typed, declares_shaped, begun_kept}
use Rattle.c_types_program.proofs.Standing.{Stands, here, told, given, goes}
use Rattle.c_types_program.proofs.Turns.{collected_made}
use Rattle.c_language.specs.Options.{IsThere}

module _ (w : Walk) (right : AreRight w.tables) (line : ℕ) where
  abbrev raw_of : RawProgram
  raw_of = w.tables.raw.now

  abbrev begin : Scope
  begin = scope_of w.tables

  -- ---- `struct s;`

  pub tag_given : (tag : Bytes) → FitsStretch (of_item (Tag line tag)) w → struct_id w.tables.defined.raw.now tag ≡ None → ⊥
  tag_given tag h none =
      given_some (struct_id raw_of tag) ((tag_defined raw_of begin (NamesStruct tag) h.0.kept tag (contains_first tag [])))
      (ap (λ r. struct_id r tag) (sym right.text) ∙ none)

  pub tag_has : (tag : Bytes) (id : ℕ) → struct_id w.tables.defined.raw.now tag ≡ Some id → HasItem w (Tag line tag) (item.Tag id)
  tag_has tag id is = ap (option_map item.Tag) (ap (λ r. struct_id r tag) (sym right.text) ∙ is)

  -- ---- a struct type

  module _ (tag : Bytes) (ms : List RawMember) (h : FitsStretch (of_item (Struct line tag ms)) w) where
    pub structure_kept : AreFitMembers raw_of ms
    structure_kept = record { scope = begin; fit = h.1 }

  pub structure_passes : (tag : Bytes) (ms : List RawMember) (v : Walk) → IsAt w.tables v.tables (record begin { structs = vec_len w.tables.structs + 1 }) → v.variables ≡ w.variables
      → PassesStretch (of_item (Struct line tag ms)) w v
  structure_passes tag ms v at same =
      record { arrives = at; grow = subst (Grow w.variables v.variables) (sym (members_declare raw_of begin [] ms)) (same_variables w v same) }

  -- ---- a declaration at file scope

  module _ (var : RawVar) (i : RawInit) (is_static : Bool) (h : FitsStretch (of_item (Global line var i is_static)) w) where
    pub global_fresh : meaning_in begin var.name ≡ None
    global_fresh = declares_fresh raw_of begin (InFile is_static) var i h.0.kept

    module _ (items : ℕ) (is : items ≡ item_count i) where
      pub global_typed : type_with raw_of items var.shape ≡ None → ⊥
      global_typed = subst (λ n. type_with raw_of n var.shape ≡ None → ⊥) (sym is) (declares_typed raw_of begin (InFile is_static) var i h.0.kept)

      pub global_shaped : ctype_with raw_of items var.shape ≡ None → ⊥
      global_shaped = subst (λ n. ctype_with raw_of n var.shape ≡ None → ⊥) (sym is) (declares_shaped raw_of begin (InFile is_static) var i h.0.kept)

      module _ (v : Walk)
          (d : Comes w v (with_entry var.name (Meaning.Variable begin.variables (type_with raw_of items var.shape)) (record begin { variables = begin.variables + 1 }))
          (variable_with raw_of line begin.owner is_static false var.name var.shape items ∷ [])) where
        global_at : Comes w v (with_variable raw_of var i begin) (variable_of raw_of line begin.owner (InFile is_static) var i ∷ [])
        global_at =
            subst (λ n. Comes w v (with_entry var.name (Meaning.Variable begin.variables (type_with raw_of n var.shape)) (record begin { variables = begin.variables + 1 }))
            (variable_with raw_of line begin.owner is_static false var.name var.shape n ∷ [])) is d

        abbrev behind : Stands raw_of (with_variable raw_of var i begin) v.tables
        behind = goes (λ r x. with_variable r var i x) (here w.tables right) global_at.arrives

        pub global_right : AreRight v.tables
        global_right = behind.right

        pub global_begun : IsKeptInit v.tables.raw.now (scope_of v.tables) i
        global_begun = given (λ r x. IsKeptInit r x i) behind (begun_kept raw_of line (with_variable raw_of var i begin) (InFile is_static) var i h.1)

        pub global_has : (x : Init) → init_of v.tables.raw.now (scope_of v.tables) i ≡ Some x → HasItem w (Global line var i is_static) (item.Global begin.variables x)
        global_has x tree = ap (option_map (item.Global begin.variables)) (told (λ r y. init_of r y i ≡ Some x) behind tree)

        pub global_passes : PassesStretch (of_item (Global line var i is_static)) w v
        global_passes = record {
          arrives = global_at.arrives;
          grow =
              subst (λ vs. Grow w.variables v.variables (variable_of raw_of line begin.owner (InFile is_static) var i ∷ vs))
              (sym (begun_nothing raw_of line (with_variable raw_of var i begin) (InFile is_static) var i)) global_at.grow;
        }

  -- ---- a prototype

  module _ (head : RawHead) where
    pub prototype_defined : FitsStretch (of_item (Prototype line head)) w → (name : Bytes) → name ≡ head.name → IsThere (function_id raw_of name)
    prototype_defined h name same =
        subst (λ n. IsThere (function_id raw_of n)) (sym same)
        ((there_position (λ (f : RawHead). bytes_eq f.name head.name) (defined_functions raw_of)
        (not_none (definition_of raw_of head.name) (λ none. h.0.kept 6 (no_definition (LacksDefinition.prototype none))))))

    pub prototype_has : (name : Bytes) (ps : List RawParam) (f : ℕ) (names : List (Option Bytes)) → name ≡ head.name → ps ≡ head.params → function_id raw_of name ≡ Some f
        → names ≡ map (λ (p : RawParam). p.name) ps → HasItem w (Prototype line head) (item.Prototype f names head.is_static)
    prototype_has name ps f names same also is given_names =
        ap (option_map (λ (k : ℕ). item.Prototype k (map (λ (p : RawParam). p.name) head.params) head.is_static)) (ap (function_id raw_of) (sym same) ∙ is)
        ∙ ap (λ (ns : List (Option Bytes)). Some (item.Prototype f ns head.is_static)) (sym (given_names ∙ ap (map (λ (p : RawParam). p.name)) also))

    pub prototype_passes : (v : Walk) (name : Bytes) → name ≡ head.name → IsAt w.tables v.tables (with_function name begin) → v.variables ≡ w.variables
        → PassesStretch (of_item (Prototype line head)) w v
    prototype_passes v name same at kept = record {
      arrives = subst (λ n. IsAt w.tables v.tables (with_function n begin)) same at;
      grow = subst (Grow w.variables v.variables) (sym (taken_declare raw_of begin [] head.params)) (same_variables w v kept);
    }

-- ---- an item by its form

module _ (w : Walk) (one x : RawItem) (is : one ≡ x) where
  pub item_fits : FitsStretch (of_item one) w → FitsStretch (of_item x) w
  item_fits h = subst (λ y. FitsStretch (of_item y) w) is h

  pub item_has : (t : Item) → HasItem w x t → HasItem w one t
  item_has t h = subst (λ y. HasItem w y t) (sym is) h

  pub item_passes : (v : Walk) → PassesStretch (of_item x) w v → PassesStretch (of_item one) w v
  item_passes v h = subst (λ y. PassesStretch (of_item y) w v) (sym is) h

  pub item_adds : (old new : List Function) → AddsFunction w x old new → AddsFunction w one old new
  item_adds old new h = subst (λ y. AddsFunction w y old new) (sym is) h

  -- an item that defines no function
  pub adds_none : (old : List Function) → functions_from w.tables.raw.now (x ∷ []) (scope_of w.tables) ≡ [] → AddsFunction w one old old
  adds_none old none = item_adds old old (sym (ap (λ fs. map Some old ++ fs) none ∙ append-nil (map Some old)))

pub adds_function : (w : Walk) (line : ℕ) (head : RawHead) (body : List RawStatement) (f : Function) (old new : List Function) → HasFunction w line head body f → new ≡ old ++ f ∷ []
    → AddsFunction w (Define line head body) old new
adds_function w line head body f old new has pushed = ap (map Some) pushed ∙ map-append Some old (f ∷ []) ∙ ap (λ o. map Some old ++ o ∷ []) (sym has)

-- ---- all items

functions_step : (raw : RawProgram) (x : RawItem) (rest : List RawItem) (scope : Scope)
    → functions_from raw (x ∷ rest) scope ≡ functions_from raw (x ∷ []) scope ++ functions_from raw rest (after_item raw x scope)
functions_step raw (Include is_stdlib) rest scope = refl
functions_step raw (Tag line tag) rest scope = refl
functions_step raw (Struct line tag members) rest scope = refl
functions_step raw (Global line var i is_static) rest scope = refl
functions_step raw (Prototype line head) rest scope = refl
functions_step raw (Define line head body) rest scope = refl

-- the items and the functions so far, and those that are left, are those of the whole
pub record GoingItems (whole rest : List RawItem) (raw : RawProgram) (scope : Scope) (old new : Walk) (out : List Item) (functions : List Function) : Type 0 where
  pub now : Scope
  pub at : Place (of_items whole) (of_items rest) raw scope now old new
  pub items_are : map Some out ++ items_from raw rest now ≡ items_from raw whole scope
  pub functions_are : map Some functions ++ functions_from raw rest now ≡ functions_from raw whole scope

module _ {whole rest : List RawItem} {raw : RawProgram} {scope : Scope} {old new : Walk} {out : List Item} {functions : List Function} (one : RawItem)
    (h : GoingItems whole (one ∷ rest) raw scope old new out functions) where
  next_place : Place (of_items whole) (then_comes (of_item one) (of_items rest)) raw scope h.now old new
  next_place = left_as (of_items (one ∷ rest)) (then_comes (of_item one) (of_items rest)) refl h.at

  pub item_comes : FitsStretch (of_item one) new
  item_comes = next_fits (of_item one) (of_items rest) next_place

  pub items_turn : (later : Walk) (x : Item) (more : List Item) (adds : List Function) → HasItem new one x → more ≡ out ++ x ∷ [] → AddsFunction new one functions adds
      → PassesStretch (of_item one) new later → GoingItems whole rest raw scope old later more adds
  items_turn later x more adds tree pushed added passes =
      let behind = after_item raw one h.now in
      record {
        now = behind;
        at = comes_on (of_item one) (of_items rest) next_place later passes;
        items_are =
            ap (λ o. map Some o ++ items_from raw rest behind) pushed
            ∙ ap (λ o. o ++ items_from raw rest behind) (map-append Some out (x ∷ []))
            ∙ append_assoc (map Some out) (Some x ∷ []) (items_from raw rest behind)
            ∙ ap (λ o. map Some out ++ (o ∷ items_from raw rest behind)) (sym (told (λ r y. item_tree r one y ≡ Some x) h.at.stands tree))
            ∙ h.items_are;
        functions_are =
            ap (λ o. o ++ functions_from raw rest behind) (told (λ r y. map Some adds ≡ map Some functions ++ functions_from r (one ∷ []) y) h.at.stands added)
            ∙ append_assoc (map Some functions) (functions_from raw (one ∷ []) h.now) (functions_from raw rest behind)
            ∙ ap (λ o. map Some functions ++ o) (sym (functions_step raw one rest h.now))
            ∙ h.functions_are;
      }

  -- the count of struct types and the place of names go on
  pub counted_on : (later : Walk) → PassesStretch (of_item one) new later → (scope_of later.tables).structs ≡ (scope_of new.tables).structs + length (struct_texts (one ∷ []))
  counted_on later passes = ap (λ (x : Scope). x.structs) passes.arrives.scope_is ∙ item_structs new.tables.raw.now (scope_of new.tables) one

  pub outside_on : (later : Walk) → PassesStretch (of_item one) new later → new.tables.outer ≡ 0 → later.tables.outer ≡ 0
  outside_on later passes none = ap (λ (x : Scope). x.outer) passes.arrives.scope_is ∙ (item_outer new.tables.raw.now (scope_of new.tables) one ∙ none)

module _ {raw : RawProgram} {scope : Scope} {old new : Walk} {out : List Item} {functions : List Function} (whole : List RawItem) (i : ℕ) where
  pub next_item : (one : RawItem) → i < length whole → one ≡ get_or whole i one → GoingItems whole (drop i whole) raw scope old new out functions
      → GoingItems whole (one ∷ drop (i + 1) whole) raw scope old new out functions
  next_item one low is h = subst (λ r. GoingItems whole r raw scope old new out functions) (drop_turn whole i one low is) h

  pub last_item : length whole ≤ i → GoingItems whole (drop i whole) raw scope old new out functions → GoingItems whole [] raw scope old new out functions
  last_item low h = subst (λ r. GoingItems whole r raw scope old new out functions) (drop_all i whole low) h

module _ {whole : List RawItem} {old new : Walk} {out : List Item} {functions : List Function} (h : GoingItems whole [] old.tables.raw.now (scope_of old.tables) old new out functions) where
  pub items_made : HasItems old whole out
  items_made = ap collected (sym h.items_are ∙ append-nil (map Some out)) ∙ collected_made out

  pub functions_made : HasFunctions old whole functions
  functions_made = ap collected (sym h.functions_are ∙ append-nil (map Some functions)) ∙ collected_made functions

  pub items_gone : PassesStretch (of_items whole) old new
  items_gone = all_gone (left_as (of_items []) nothing refl h.at)
