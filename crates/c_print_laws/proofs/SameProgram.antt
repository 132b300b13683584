-- The program of what the layout keeps of a text is that of the text but for lines.
use Rattle.std.proofs.Common.{◌≡◌, ℕ, ◌+◌, List, [], ◌∷◌, ◌++◌, map, Bool, true, Option, Some, None, refl, sym, ap, ap₂, ◌∙◌}
use Rattle.std.specs.Prelude.{option_map, option_and_then, is_some, if◌then◌else◌}
use Rattle.std.proofs.lemmas.List.{map-append}
use Rattle.std.proofs.lemmas.Bool.{and_parts}
use Rattle.std.specs.List.{AllZip}
use Rattle.c_language.specs.Lists.{all_true}
use Rattle.c_tree.specs.declared.types.CType.{CType}
use Rattle.c_tree.specs.declared.program.Program.{Program}
use Rattle.c_tree.specs.declared.program.Function.{Function}
use Rattle.c_tree.specs.declared.program.Var.{Var}
use Rattle.c_tree.specs.declared.program.Member.{Member}
use Rattle.c_tree.specs.declared.program.StructDef.{StructDef}
use Rattle.c_tree.specs.declared.program.Item.{Item}
use Rattle.c_tree.specs.declared.program.Item.TheVariants as item
use Rattle.c_tree.specs.declared.statement.Statement.{Statement}
use Rattle.c_tree.specs.Unlined.{unlined, unlined_var, unlined_function, unlined_program, SameButLines}
use Rattle.c_tree.specs.declared.raw.expr.RawType.{RawType}
use Rattle.c_tree.specs.declared.raw.expr.RawVar.{RawVar}
use Rattle.c_tree.specs.declared.raw.program.RawInit.{RawInit}
use Rattle.c_tree.specs.declared.raw.program.RawMember.{RawMember}
use Rattle.c_tree.specs.declared.raw.program.RawParam.{RawParam}
use Rattle.c_tree.specs.declared.raw.program.RawHead.{RawHead}
use Rattle.c_tree.specs.declared.raw.program.RawItem.{RawItem}
use Rattle.c_tree.specs.declared.raw.program.RawItem.TheVariants.{Include, Tag, Struct, Global, Prototype, Define}
use Rattle.c_tree.specs.declared.raw.program.RawProgram.{RawProgram}
use Rattle.c_tree.specs.declared.raw.statement.RawStatement.{RawStatement}
use Rattle.c_language.specs.Words.{Bytes}
use Rattle.c_language.specs.ConstantEvaluation.{both}
use Rattle.c_language.specs.DeclaredTypes.{StructText, defined_structs, item_count}
use Rattle.c_language.specs.Scopes.{Scope, outset, entered, in_order, with_variable}
use Rattle.c_language.specs.Phrases.{Stand, Part, NamesStruct, DefinesStruct, HasMember, DeclaresFunction, Takes, EndsFunction, Declares, Begins, Assigns, Bumps, Calls, Allocates, Tests, Switches, Returns, Phrases, phrases, after_item, after_items, scope_at_end}
use Rattle.c_language.specs.ProgramOf.{collected, optional, ctype, ctype_with, ctype_if, init_of, treed, body_of, is_static_stand, is_parameter_stand, variable_of, declared_by, variables_in, variables_of, member_tree, struct_tree, structs_of, parameter_ids, function_tree, functions_from, functions_of, item_tree, items_from, items_of, program_with, program_of}
use Rattle.c_text_layout.specs.Settled.{settled_var, settled, settled_param, settled_head, settled_item}
use Rattle.c_text_layout.specs.Declarations.{declarations_pass, item_passes, items_pass}
use Rattle.c_language.proofs.Options.{map_there}
use Rattle.c_language.proofs.OptionMaps.{map_twice, map_both, map_then, both_mapped, then_mapped, collected_map}
use Rattle.c_print_laws.proofs.Alike.{pairwise_map}
use Rattle.c_print_laws.proofs.Resembling.{MembersAgree, StructsAgree, Resembles, struct_ids, function_ids, ctypes_same}
use Rattle.c_print_laws.proofs.RuleTransfer.{VarsAgree, PartsAgree, vars_same}
use Rattle.c_print_laws.proofs.Settling.{settled_program, settled_resembles, settled_var_agrees}
use Rattle.c_print_laws.proofs.PhraseAgreement.{Fine, variable_same}
use Rattle.c_print_laws.proofs.RulesKept.{item_after, entered_same, Meet, settled_meets}
use Rattle.c_print_laws.proofs.SameTrees.{inits_same, bodies_same}

-- ---- variables

abbrev bare_vars : List (Option Var) → List (Option Var)
bare_vars vs = map (option_map unlined_var) vs

abbrev zero_var : Bytes → Bool → Option ℕ → Bool → CType → Var
zero_var name is_static owner is_parameter t = record { name = name; shape = t; line = 0; is_static = is_static; owner = owner; is_parameter = is_parameter }

var_line : (raw : RawProgram) (l : ℕ) (owner : Option ℕ) (stand : Stand) (v : RawVar) (i : RawInit)
    → option_map unlined_var (variable_of raw l owner stand v i) ≡ option_map (zero_var v.name (is_static_stand stand) owner (is_parameter_stand stand)) (ctype_with raw (item_count i) v.shape)
var_line raw l owner stand v i = map_twice unlined_var _ (zero_var v.name (is_static_stand stand) owner (is_parameter_stand stand)) (λ t. refl) (ctype_with raw (item_count i) v.shape)

module _ (raw other : RawProgram) (like : Resembles raw other) where
  var_same : (l m : ℕ) (owner : Option ℕ) (stand : Stand) (v w : RawVar) (i : RawInit) → VarsAgree raw other i v w
      → option_map unlined_var (variable_of raw l owner stand v i) ≡ option_map unlined_var (variable_of other m owner stand w i)
  var_same l m owner stand v w i h =
      var_line raw l owner stand v i
      ∙ ap₂ (λ (name : Bytes) (t : Option CType). option_map (zero_var name (is_static_stand stand) owner (is_parameter_stand stand)) t) h.name h.tree
      ∙ sym (var_line other m owner stand w i)

  kept_declares : (l m : ℕ) (scope : Scope) (part : Part) → bare_vars (declared_by raw l scope part) ≡ bare_vars (declared_by other m scope part)
  kept_declares l m scope (NamesStruct t) = refl
  kept_declares l m scope (DefinesStruct t) = refl
  kept_declares l m scope (HasMember before k) = refl
  kept_declares l m scope (DeclaresFunction h d) = refl
  kept_declares l m scope (Takes before p) = refl
  kept_declares l m scope (EndsFunction h body) = refl
  kept_declares l m scope (Declares stand v i) = ap (λ (x : Option Var). x ∷ []) (var_same l m scope.owner stand v v i (vars_same raw other like i v))
  kept_declares l m scope (Begins stand v i) = refl
  kept_declares l m scope (Assigns a op b) = refl
  kept_declares l m scope (Bumps a) = refl
  kept_declares l m scope (Calls stand to f args) = refl
  kept_declares l m scope (Allocates to cast n) = refl
  kept_declares l m scope (Tests a) = refl
  kept_declares l m scope (Switches a labels) = refl
  kept_declares l m scope (Returns a) = refl

  part_declares : (l m : ℕ) (scope : Scope) {part next : Part} → PartsAgree raw other part next → bare_vars (declared_by raw l scope part) ≡ bare_vars (declared_by other m scope next)
  part_declares l m scope (PartsAgree.same {part}) = kept_declares l m scope part
  part_declares l m scope (PartsAgree.declares {stand} {v} {w} {i} h) = ap (λ (x : Option Var). x ∷ []) (var_same l m scope.owner stand v w i h)
  part_declares l m scope (PartsAgree.begins h) = refl
  part_declares l m scope (PartsAgree.member h r) = refl
  part_declares l m scope (PartsAgree.function h) = refl
  part_declares l m scope (PartsAgree.takes h r) = refl
  part_declares l m scope (PartsAgree.ends h to back) = refl

  variables_same : (ps qs : Phrases) → AllZip (Meet raw other) ps qs → bare_vars (variables_in raw ps) ≡ bare_vars (variables_in other qs)
  variables_same [] [] h = refl
  variables_same [] (q ∷ qs) h = absurd h
  variables_same (p ∷ ps) [] h = absurd h
  variables_same (p ∷ ps) (q ∷ qs) h =
      map-append (option_map unlined_var) (declared_by raw p.line p.scope p.part) (variables_in raw ps)
      ∙ ap₂ (λ (xs ys : List (Option Var)). xs ++ ys)
      (part_declares p.line q.line p.scope h.0.1 ∙ ap (λ (z : Scope). bare_vars (declared_by other q.line z q.part)) h.0.0)
      (variables_same ps qs h.1)
      ∙ sym (map-append (option_map unlined_var) (declared_by other q.line q.scope q.part) (variables_in other qs))

  -- ---- struct types

  member_same : (a b : RawMember) → MembersAgree a b → member_tree raw a ≡ member_tree other b
  member_same a b h =
      ap₂ (λ (name : Bytes) (t : Option CType). option_map (λ (t : CType). record { name = name; shape = t }) t) h.name (ap (ctype raw) h.shape ∙ ctypes_same raw other like 0 b.shape)

  struct_same : (a b : StructText) → StructsAgree a b → struct_tree raw a ≡ struct_tree other b
  struct_same a b h =
      ap₂ (λ (name : Bytes) (ms : Option (List Member)). option_map (λ (ms : List Member). record { name = name; members = ms }) ms) h.tag
      (ap collected (pairwise_map MembersAgree (member_tree raw) (member_tree other) member_same a.members b.members h.members))

  structs_same : structs_of raw ≡ structs_of other
  structs_same = ap collected (pairwise_map StructsAgree (struct_tree raw) (struct_tree other) struct_same (defined_structs raw) (defined_structs other) like.structs)

  result_same : (t : Option RawType) → ctype_if raw t ≡ ctype_if other t
  result_same None = refl
  result_same (Some t) = ap (λ (x : Option CType). optional (Some x)) (ctypes_same raw other like 0 t)

  ids_of_params : (ps : List RawParam) (n : ℕ) → parameter_ids (map settled_param ps) n ≡ parameter_ids ps n
  ids_of_params [] n = refl
  ids_of_params (p ∷ ps) n = ap₂ (λ (xs ys : List ℕ). if is_some p.name then n ∷ xs else ys) (ids_of_params ps (n + 1)) (ids_of_params ps n)

  names_of_params : (ps : List RawParam) → map (λ (p : RawParam). p.name) (map settled_param ps) ≡ map (λ (p : RawParam). p.name) ps
  names_of_params [] = refl
  names_of_params (p ∷ ps) = ap (λ (xs : List (Option Bytes)). p.name ∷ xs) (names_of_params ps)

  module _ (test : RawVar → RawInit → Bool) (fine : Fine test) where
    -- ---- functions

    abbrev zero_function : RawHead → List ℕ → Option CType → List Statement → Function
    zero_function h params r b = record { name = h.name; result = r; params = params; body = b; is_static = h.is_static; line = 0 }

    function_line : (text : RawProgram) (l : ℕ) (h : RawHead) (body : List RawStatement) (scope : Scope)
        → option_map unlined_function (function_tree text l h body scope) ≡ both (zero_function h (parameter_ids h.params scope.variables)) (option_map (λ (x : Option CType). x) (ctype_if text h.result)) (option_map (map unlined) (body_of text body (entered text h scope)))
    function_line text l h body scope =
        map_both unlined_function _ (λ (r : Option CType) (b : List Statement). zero_function h (parameter_ids h.params scope.variables) r (map unlined b)) (λ r b. refl) (ctype_if text h.result) (body_of text body (entered text h scope))
        ∙ both_mapped (zero_function h (parameter_ids h.params scope.variables)) (λ (x : Option CType). x) (map unlined) (ctype_if text h.result) (body_of text body (entered text h scope))

    body_same : (body : List RawStatement) → all_true (map (declarations_pass test) body) ≡ true → (scope : Scope) → option_map (map unlined) (body_of raw body scope) ≡ option_map (map unlined) (body_of other (map settled body) scope)
    body_same body h scope =
        collected_map unlined (in_order (map (treed raw) body) scope) ∙ ap collected (bodies_same raw other like test fine body h scope) ∙ sym (collected_map unlined (in_order (map (treed other) (map settled body)) scope))

    function_same : (l : ℕ) (h : RawHead) (body : List RawStatement) → all_true (map (declarations_pass test) body) ≡ true → (scope : Scope)
        → option_map unlined_function (function_tree raw l h body scope) ≡ option_map unlined_function (function_tree other 0 (settled_head h) (map settled body) scope)
    function_same l h body k scope =
        function_line raw l h body scope
        ∙ ap₂ (λ (r : Option (Option CType)) (b : Option (List Statement)). both (zero_function h (parameter_ids h.params scope.variables)) (option_map (λ (x : Option CType). x) r) b) (result_same h.result)
        (body_same body k (entered raw h scope) ∙ ap (λ (z : Scope). option_map (map unlined) (body_of other (map settled body) z)) (entered_same raw other like test fine h scope))
        ∙ ap (λ (ids : List ℕ). both (zero_function h ids) (option_map (λ (x : Option CType). x) (ctype_if other h.result)) (option_map (map unlined) (body_of other (map settled body) (entered other (settled_head h) scope)))) (sym (ids_of_params h.params scope.variables))
        ∙ sym (function_line other 0 (settled_head h) (map settled body) scope)

    abbrev bare_functions : List (Option Function) → List (Option Function)
    bare_functions fs = map (option_map unlined_function) fs

    functions_later : (x : RawItem) → item_passes test x ≡ true → (xs : List RawItem) (scope : Scope)
        → ((next : Scope) → bare_functions (functions_from raw xs next) ≡ bare_functions (functions_from other (map settled_item xs) next))
        → bare_functions (functions_from raw xs (after_item raw x scope)) ≡ bare_functions (functions_from other (map settled_item xs) (after_item other (settled_item x) scope))
    functions_later x h xs scope rest = rest (after_item raw x scope) ∙ ap (λ (z : Scope). bare_functions (functions_from other (map settled_item xs) z)) (item_after raw other like test fine x h scope)

    functions_same : (xs : List RawItem) → items_pass test xs ≡ true → (scope : Scope) → bare_functions (functions_from raw xs scope) ≡ bare_functions (functions_from other (map settled_item xs) scope)
    functions_same [] h scope = refl
    functions_same (Include b ∷ xs) h scope = functions_later (Include b) refl xs scope (functions_same xs h)
    functions_same (Tag l w ∷ xs) h scope = functions_later (Tag l w) refl xs scope (functions_same xs h)
    functions_same (Struct l w members ∷ xs) h scope = functions_later (Struct l w members) refl xs scope (functions_same xs h)
    functions_same (Global l v i b ∷ xs) h scope = let p = and_parts (test v i) (items_pass test xs) h in functions_later (Global l v i b) p.0 xs scope (functions_same xs p.1)
    functions_same (Prototype l hd ∷ xs) h scope = functions_later (Prototype l hd) refl xs scope (functions_same xs h)
    functions_same (Define l hd body ∷ xs) h scope =
        let p = and_parts (all_true (map (declarations_pass test) body)) (items_pass test xs) h in
        ap₂ (λ (f : Option Function) (fs : List (Option Function)). f ∷ fs) (function_same l hd body p.0 scope) (functions_later (Define l hd body) p.0 xs scope (functions_same xs p.1))

    -- ---- items

    item_same : (x : RawItem) → item_passes test x ≡ true → (scope : Scope) → item_tree raw x scope ≡ item_tree other (settled_item x) scope
    item_same (Include b) h scope = refl
    item_same (Tag l w) h scope = ap (option_map item.Tag) (struct_ids raw other like w)
    item_same (Struct l w members) h scope = refl
    item_same (Global l v i b) h scope =
        ap (option_map (item.Global scope.variables)) (inits_same raw other like (with_variable raw v i scope) i
        ∙ ap (λ (z : Scope). init_of other z i) (variable_same raw other like test fine scope v (settled_var (item_count i) v) i (settled_var_agrees raw other like i v (fine v i h))))
    item_same (Prototype l hd) h scope =
        ap₂ (λ (ns : List (Option Bytes)) (f : Option ℕ). option_map (λ (f : ℕ). item.Prototype f ns hd.is_static) f) (sym (names_of_params hd.params)) (function_ids raw other like hd.name)
    item_same (Define l hd body) h scope = refl

    items_same : (xs : List RawItem) → items_pass test xs ≡ true → (scope : Scope) → items_from raw xs scope ≡ items_from other (map settled_item xs) scope
    items_same [] h scope = refl
    items_same (x ∷ xs) h scope =
        let p = and_parts (item_passes test x) (items_pass test xs) h in
        ap₂ (λ (i : Option Item) (is : List (Option Item)). i ∷ is) (item_same x p.0 scope)
        (items_same xs p.1 (after_item raw x scope) ∙ ap (items_from other (map settled_item xs)) (item_after raw other like test fine x p.0 scope))

    end_same : (xs : List RawItem) → items_pass test xs ≡ true → (scope : Scope) → after_items raw xs scope ≡ after_items other (map settled_item xs) scope
    end_same [] h scope = refl
    end_same (x ∷ xs) h scope =
        let p = and_parts (item_passes test x) (items_pass test xs) h in
        end_same xs p.1 (after_item raw x scope) ∙ ap (after_items other (map settled_item xs)) (item_after raw other like test fine x p.0 scope)

-- ---- the program

program_line : (n : ℕ) (is : Option (List Item)) (vs : Option (List Var)) (ss : Option (List StructDef)) (fs : Option (List Function))
    → option_map unlined_program (option_and_then (λ (items : List Item). option_and_then (λ (vars : List Var). both (program_with n items vars) ss fs) vs) is)
    ≡ option_and_then (λ (items : List Item). option_and_then (λ (vars : List Var). both (program_with n items vars) (option_map (λ (x : List StructDef). x) ss) (option_map (map unlined_function) fs)) (option_map (map unlined_var) vs)) is
program_line n is vs ss fs =
    map_then unlined_program _ _ (λ items.
    map_then unlined_program _ _ (λ vars.
    map_both unlined_program (program_with n items vars) (λ (x : List StructDef) (y : List Function). program_with n items (map unlined_var vars) x (map unlined_function y)) (λ x y. refl) ss fs
    ∙ both_mapped (program_with n items (map unlined_var vars)) (λ (x : List StructDef). x) (map unlined_function) ss fs) vs
    ∙ then_mapped (λ (vars : List Var). both (program_with n items vars) (option_map (λ (x : List StructDef). x) ss) (option_map (map unlined_function) fs)) (map unlined_var) vs) is

module _ (raw : RawProgram) (test : RawVar → RawInit → Bool) (fine : Fine test) (pass : items_pass test raw.items ≡ true) where
  -- the program of what the layout keeps, with line 0 in the place of each line
  pub settled_unlined : option_map unlined_program (program_of raw) ≡ option_map unlined_program (program_of (settled_program raw))
  settled_unlined =
      let other = settled_program raw in
      let like = settled_resembles raw in
      let n = ap (λ (z : Scope). z.statements) (end_same raw other like test fine raw.items pass outset) in
      let is = ap collected (items_same raw other like test fine raw.items pass outset) in
      let vs = collected_map unlined_var (variables_in raw (phrases raw)) ∙ ap collected (variables_same raw other like (phrases raw) (phrases other) (settled_meets raw test fine pass)) ∙ sym (collected_map unlined_var (variables_in other (phrases other))) in
      let fs = collected_map unlined_function (functions_from raw raw.items outset) ∙ ap collected (functions_same raw other like test fine raw.items pass outset) ∙ sym (collected_map unlined_function (functions_from other other.items outset)) in
      program_line (scope_at_end raw).statements (items_of raw) (variables_of raw) (structs_of raw) (functions_of raw)
      ∙ ap₂ (λ (n : ℕ) (is : Option (List Item)). whole n is (option_map (map unlined_var) (variables_of raw)) (structs_of raw) (option_map (map unlined_function) (functions_of raw))) n is
      ∙ ap₂ (λ (vs : Option (List Var)) (fs : Option (List Function)). whole (scope_at_end other).statements (items_of other) vs (structs_of raw) fs) vs fs
      ∙ ap (λ (ss : Option (List StructDef)). whole (scope_at_end other).statements (items_of other) (option_map (map unlined_var) (variables_of other)) ss (option_map (map unlined_function) (functions_of other))) (structs_same raw other like)
      ∙ sym (program_line (scope_at_end other).statements (items_of other) (variables_of other) (structs_of other) (functions_of other))
    where
      whole : ℕ → Option (List Item) → Option (List Var) → Option (List StructDef) → Option (List Function) → Option Program
      whole n is vs ss fs = option_and_then (λ (items : List Item). option_and_then (λ (vars : List Var). both (program_with n items vars) (option_map (λ (x : List StructDef). x) ss) fs) vs) is

  -- What the layout keeps of a text has the text's program but for lines.
  pub settled_has : (p : Program) → program_of raw ≡ Some p → (q : Program) × (program_of (settled_program raw) ≡ Some q) × SameButLines p q
  settled_has p is =
      let g = map_there unlined_program (program_of (settled_program raw)) (unlined_program p) (sym settled_unlined ∙ ap (option_map unlined_program) is) in
      (g.value, g.there, sym g.same)

  -- A text has the program of what the layout keeps of it but for lines.
  pub has_settled : (q : Program) → program_of (settled_program raw) ≡ Some q → (p : Program) × (program_of raw ≡ Some p) × SameButLines q p
  has_settled q is =
      let g = map_there unlined_program (program_of raw) (unlined_program q) (settled_unlined ∙ ap (option_map unlined_program) is) in
      (g.value, g.there, sym g.same)
