-- The globals with which a run begins are those of the program: variables of no function.
use Rattle.std.proofs.Common.{◌≡◌, ℕ, List, [], ◌∷◌, ◌++◌, map, Option, Some, None, Bool, true, false, inl, inr, refl, sym, ap, ◌∙◌, subst, arith}
use Rattle.std.specs.Prelude.{option_map, slice_get, is_none}
use Rattle.std.specs.Option.{option_map_or}
use Rattle.std.proofs.lemmas.Option.{slice_get-map}
use Rattle.c_tree.specs.Unlined.{SameButLines, unlined_var}
use Rattle.c_tree.specs.declared.program.Item.{Item}
use Rattle.c_tree.specs.declared.program.Item.TheVariants as item
use Rattle.c_tree.specs.declared.program.Program.{Program}
use Rattle.c_tree.specs.declared.program.Var.{Var}
use Rattle.c_tree.specs.declared.raw.expr.RawVar.{RawVar}
use Rattle.c_tree.specs.declared.raw.program.RawInit.{RawInit}
use Rattle.c_tree.specs.declared.raw.program.RawItem.{RawItem}
use Rattle.c_tree.specs.declared.raw.program.RawItem.TheVariants.{Include, Tag, Struct, Global, Prototype, Define}
use Rattle.c_tree.specs.declared.raw.program.RawParam.{RawParam}
use Rattle.c_tree.specs.declared.raw.program.RawProgram.{RawProgram}
use Rattle.c_language.specs.DeclaredTypes.{item_count, struct_id, function_id}
use Rattle.c_language.specs.Phrases.{InFile, item_phrases, items_phrases, after_item}
use Rattle.c_language.specs.ProgramOf.{ctype_with, init_of, variable_of, variables_in, items_from}
use Rattle.c_language.specs.Programs.{IsWellFormed}
use Rattle.c_language.specs.Scopes.{Scope, outset, with_variable}
use Rattle.c_language.proofs.Lists.{no_list, head_is, tail_is}
use Rattle.c_language.proofs.Options.{some_same, map_there}
use Rattle.c_language.proofs.PhraseLists.{variables-append}
use Rattle.c_language.proofs.ScopeNumbers.{through_function}
use Rattle.c_meaning.specs.Activations.{globals_in, Global as Begun, executable}
use Rattle.c_print_laws.proofs.Definitions.{program_parts}
use Rattle.c_print_laws.proofs.Numbers.{item_variables}
use Rattle.c_print_laws.proofs.Told.{Stands, AllStand, stand_first, stand_rest, stand_all}
use Rattle.dep_model.specs.DoingEffects.{is_global}
use Rattle.dep_model.proofs.Membership.{IsIn}

-- the variables of some globals
abbrev pub variables_of : List Begun → List ℕ
variables_of gs = map (λ (g : Begun). g.variable) gs

abbrev owned_by_none : List Var → ℕ → Bool
owned_by_none vs x = option_map_or (λ (v : Var). is_none v.owner) (slice_get vs x) false

module _ (raw : RawProgram) (p : Program) where
  abbrev AreGlobal : List Item → Type 0
  AreGlobal ys = (x : ℕ) → IsIn (variables_of (globals_in ys)) x → is_global p x ≡ true

  declared_global : (l : ℕ) (is_static : Bool) (scope : Scope) (v : RawVar) (i : RawInit) → scope.owner ≡ None → Stands p scope.variables (variable_of raw l scope.owner (InFile is_static) v i) → is_global p scope.variables ≡ true
  declared_global l is_static scope v i none h =
      let g = map_there _ (ctype_with raw (item_count i) v.shape) h.var h.is in
      let owner : h.var.owner ≡ None = ap (λ (y : Var). y.owner) (sym g.same) ∙ none in
      ap (λ (o : Option Var). option_map_or (λ (y : Var). is_none y.owner) o false) h.at ∙ ap is_none owner

  item_owner : (x : RawItem) (scope : Scope) → (after_item raw x scope).owner ≡ scope.owner
  item_owner (Include is_stdlib) scope = refl
  item_owner (Tag l tag) scope = refl
  item_owner (Struct l tag members) scope = refl
  item_owner (Global l v i is_static) scope = refl
  item_owner (Prototype l head) scope = through_function (λ (z : Scope). z.owner) head.name scope refl
  item_owner (Define l head body) scope = through_function (λ (z : Scope). z.owner) head.name scope refl

  module _ (x : RawItem) (xs : List RawItem) (scope : Scope) (h : AllStand p scope.variables (variables_in raw (items_phrases raw (x ∷ xs) scope))) where
    abbrev own : List (Option Var)
    own = variables_in raw (item_phrases raw x scope)

    abbrev later : List (Option Var)
    later = variables_in raw (items_phrases raw xs (after_item raw x scope))

    both : AllStand p scope.variables (own ++ later)
    both = subst (AllStand p scope.variables) (variables-append raw (item_phrases raw x scope) (items_phrases raw xs (after_item raw x scope))) h

    own_stand : AllStand p scope.variables own
    own_stand = stand_first p scope.variables own later both

    later_stand : AllStand p (after_item raw x scope).variables later
    later_stand = subst (λ n. AllStand p n later) (item_variables raw x scope) (stand_rest p scope.variables own later both)

  -- an item that is no global
  other_item : (x : RawItem) (xs : List RawItem) (scope : Scope) (i y : Item) (ys : List Item) → i ≡ y → variables_of (globals_in (i ∷ ys)) ≡ variables_of (globals_in ys) → AreGlobal ys → AreGlobal (y ∷ ys)
  other_item x xs scope i y ys is none h v c =
      h v (subst (λ vs. IsIn vs v) none (subst (λ z. IsIn (variables_of (globals_in (z ∷ ys))) v) (sym is) c))

  globals_at : (xs : List RawItem) (scope : Scope) (ys : List Item) → scope.owner ≡ None → AllStand p scope.variables (variables_in raw (items_phrases raw xs scope)) → items_from raw xs scope ≡ map Some ys → AreGlobal ys
  globals_at [] scope [] none stand e = λ v c. absurd c
  globals_at [] scope (y ∷ ys) none stand e = no_list (sym e)
  globals_at (x ∷ xs) scope [] none stand e = no_list e
  globals_at (Include b ∷ xs) scope (y ∷ ys) none stand e =
      other_item (Include b) xs scope (item.Include b) y ys (some_same (head_is e)) refl
      (globals_at xs scope ys none (later_stand (Include b) xs scope stand) (tail_is e))
  globals_at (Tag l tag ∷ xs) scope (y ∷ ys) none stand e =
      let k = map_there item.Tag (struct_id raw tag) y (head_is e) in
      other_item (Tag l tag) xs scope (item.Tag k.value) y ys k.same refl
      (globals_at xs scope ys none (later_stand (Tag l tag) xs scope stand) (tail_is e))
  globals_at (Struct l tag members ∷ xs) scope (y ∷ ys) none stand e =
      other_item (Struct l tag members) xs scope (item.Struct scope.structs) y ys (some_same (head_is e)) refl
      (globals_at xs (after_item raw (Struct l tag members) scope) ys none (later_stand (Struct l tag members) xs scope stand) (tail_is e))
  globals_at (Global l v i is_static ∷ xs) scope (y ∷ ys) none stand e =
      let k = map_there (item.Global scope.variables) (init_of raw (with_variable raw v i scope) i) y (head_is e) in
      let rest = globals_at xs (after_item raw (Global l v i is_static) scope) ys none (later_stand (Global l v i is_static) xs scope stand) (tail_is e) in
      let here = declared_global l is_static scope v i none (own_stand (Global l v i is_static) xs scope stand).0 in
      λ x c. one x (subst (λ z. IsIn (variables_of (globals_in (z ∷ ys))) x) (sym k.same) c) here (rest x)
    where
      one : (x : ℕ) → IsIn (scope.variables ∷ variables_of (globals_in ys)) x → is_global p scope.variables ≡ true → (IsIn (variables_of (globals_in ys)) x → is_global p x ≡ true) → is_global p x ≡ true
      one x (inl is) here rest = subst (λ n. is_global p n ≡ true) is here
      one x (inr c) here rest = rest c
  globals_at (Prototype l head ∷ xs) scope (y ∷ ys) none stand e =
      let k = map_there (λ (f : ℕ). item.Prototype f (map (λ (q : RawParam). q.name) head.params) head.is_static) (function_id raw head.name) y (head_is e) in
      other_item (Prototype l head) xs scope _ y ys k.same refl
      (globals_at xs (after_item raw (Prototype l head) scope) ys (item_owner (Prototype l head) scope ∙ none) (later_stand (Prototype l head) xs scope stand) (tail_is e))
  globals_at (Define l head body ∷ xs) scope (y ∷ ys) none stand e =
      other_item (Define l head body) xs scope (item.Define scope.functions) y ys (some_same (head_is e)) refl
      (globals_at xs (after_item raw (Define l head body) scope) ys (item_owner (Define l head body) scope ∙ none) (later_stand (Define l head body) xs scope stand) (tail_is e))

-- lines decide nothing
owner_of : (o : Option Var) → option_map_or (λ (v : Var). is_none v.owner) (option_map unlined_var o) false ≡ option_map_or (λ (v : Var). is_none v.owner) o false
owner_of None = refl
owner_of (Some v) = refl

unlined_owner : (vs : List Var) (x : ℕ) → owned_by_none (map unlined_var vs) x ≡ owned_by_none vs x
unlined_owner vs x =
    ap (λ (o : Option Var). option_map_or (λ (v : Var). is_none v.owner) o false) (slice_get-map unlined_var vs x) ∙ owner_of (slice_get vs x)

same_owners : (p q : Program) → SameButLines p q → (x : ℕ) → is_global p x ≡ is_global q x
same_owners p q same x =
    sym (unlined_owner p.vars x) ∙ (ap (λ (r : Program). owned_by_none r.vars x) same ∙ unlined_owner q.vars x)

pub globals_global : (p : Program) → IsWellFormed p → (x : ℕ) → IsIn (variables_of (executable p).globals) x → is_global p x ≡ true
globals_global p w x c =
    let parts = program_parts w.raw w.same w.has.program in
    let stand : AllStand w.same 0 (variables_in w.raw (items_phrases w.raw w.raw.items outset)) = subst (AllStand w.same 0) (sym parts.vars) (stand_all w.same 0 w.same.vars (λ i. ap (slice_get w.same.vars) (omega arith))) in
    let items : p.items ≡ w.same.items = ap (λ (r : Program). r.items) w.but_lines in
    same_owners p w.same w.but_lines x ∙ globals_at w.raw w.same w.raw.items outset w.same.items refl stand parts.items x (subst (λ ys. IsIn (variables_of (globals_in ys)) x) items c)
