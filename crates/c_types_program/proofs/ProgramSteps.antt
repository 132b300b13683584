-- What a text's program is made of, and when one of its arrays is too long.
--
-- Where clauses speak of `tables.defined.raw` and others of `tables.raw`, all is said by `tables.raw`, with one `subst` along `right.text` inside.
use Rattle.std.proofs.Common.{◌≡◌, ℕ, ◌≤◌, max, List, [], ◌∷◌, map, false, true, Option, Some, None, option_map, option_and_then, Result, Ok, Err, arith, inl, inr, refl, sym, ap, subst, ◌∙◌}
use Rattle.std.specs.Prelude.{Contains}
use Rattle.std.proofs.lemmas.Bool.Decides.{nat_tests}
use Rattle.std.proofs.lemmas.List.{map-id}
use Rattle.c_tree.specs.declared.program.Function.{Function}
use Rattle.c_tree.specs.declared.program.Item.{Item}
use Rattle.c_tree.specs.declared.program.Member.{Member}
use Rattle.c_tree.specs.declared.program.Program.{Program}
use Rattle.c_tree.specs.declared.program.StructDef.{StructDef}
use Rattle.c_tree.specs.declared.program.Var.{Var}
use Rattle.c_tree.specs.declared.raw.program.RawItem.{RawItem}
use Rattle.c_tree.specs.declared.raw.program.RawItem.TheVariants.{Include, Tag, Struct, Global, Prototype, Define}
use Rattle.c_tree.specs.declared.raw.program.RawMember.{RawMember}
use Rattle.c_tree.specs.declared.raw.program.RawProgram.{RawProgram}
use Rattle.c_language.specs.ConstantEvaluation.{both}
use Rattle.c_language.specs.DeclaredTypes as declared
use Rattle.c_language.specs.DeclaredTypes.{StructText, defined_structs}
use Rattle.c_language.specs.Limits.{longest, longest_member, longest_in_structs, longest_in_variables, array_length}
use Rattle.c_language.specs.Phrases.{phrases, item_phrases, items_phrases, after_item, member_phrases, scope_at_end}
use Rattle.c_language.specs.ProgramOf.{collected, variables_in, variables_of, member_tree, struct_tree, structs_of, functions_of, functions_from, items_of, items_from, program_with, program_of}
use Rattle.c_language.specs.Scopes.{Scope, outset}
use Rattle.c_language.proofs.Options.{none_there, some_same, map_there}
use Rattle.c_language.proofs.Lists.{contains_nil, contains_cons}
use Rattle.c_types_base.specs.Tables.{scope_of, AreRight}
use Rattle.c_types_base.specs.Stretches.{of_items}
use Rattle.c_types_trees.specs.declared.make_fault.MakeFault.{MakeFault}
use Rattle.c_types_trees.specs.declared.make_fault.MakeFault.TheVariants.{Length, NoMemory}
use Rattle.c_types_program.specs.declared.walk.Walk.{Walk}
use Rattle.c_types_trees.specs.FitPhrases.{AreFit}
use Rattle.c_types_program.specs.Variables.{HasLong, AreMade}
use Rattle.c_types_program.specs.Items.{FitsStretch, PassesStretch, HasItems, HasFunctions, AreFitMembers, AreFitStructs, HasLongMember, HasLongStruct, MakesStructs, MakesProgram}
use Rattle.c_types_program.proofs.Growing.{fit_both}
use Rattle.c_types_program.proofs.Turns.{collected_made}

-- ---- struct types

-- the members of each struct type that items define keep the rules
pub structs_kept : (raw : RawProgram) (items : List RawItem) (scope : Scope) → AreFit raw (items_phrases raw items scope) → AreFitStructs raw items
structs_kept raw [] scope h = λ d c. absurd (contains_nil d c)
structs_kept raw (Include is_stdlib ∷ rest) scope h = structs_kept raw rest scope h
structs_kept raw (Tag line tag ∷ rest) scope h = structs_kept raw rest scope h.1
structs_kept raw (Struct line tag members ∷ rest) scope h =
    let parts = fit_both raw (member_phrases scope [] members) (items_phrases raw rest (after_item raw (Struct line tag members) scope)) h.1 in
    λ d c. elim (contains_cons (record { tag = tag; members = members }) d (declared.struct_texts rest) c) [
      | inl is ↦ subst (λ (t : StructText). AreFitMembers raw t.members) is (record { scope = scope; fit = parts.0 })
      | inr c ↦ structs_kept raw rest (after_item raw (Struct line tag members) scope) parts.1 d c
    ]
structs_kept raw (Global line var i is_static ∷ rest) scope h =
    structs_kept raw rest (after_item raw (Global line var i is_static) scope)
    (fit_both raw (item_phrases raw (Global line var i is_static) scope) (items_phrases raw rest (after_item raw (Global line var i is_static) scope)) h).1
structs_kept raw (Prototype line head ∷ rest) scope h =
    structs_kept raw rest (after_item raw (Prototype line head) scope)
    (fit_both raw (item_phrases raw (Prototype line head) scope) (items_phrases raw rest (after_item raw (Prototype line head) scope)) h).1
structs_kept raw (Define line head body ∷ rest) scope h =
    structs_kept raw rest (after_item raw (Define line head body) scope)
    (fit_both raw (item_phrases raw (Define line head body) scope) (items_phrases raw rest (after_item raw (Define line head body) scope)) h).1

-- ---- what is too long

-- the values that are collected
record Parts {A : Type 0} (x : Option A) (rest : List (Option A)) (out : List A) : Type 0 where
  value : A
  others : List A
  first : x ≡ Some value
  later : collected rest ≡ Some others
  whole : out ≡ value ∷ others

parts_map : {A : Type 0} (y : A) (rest : List (Option A)) (o : Option (List A)) (out : List A) → collected rest ≡ o → option_map (λ ys. y ∷ ys) o ≡ Some out → Parts (Some y) rest out
parts_map y rest None out is h = none_there h
parts_map y rest (Some ys) out is h = record { value = y; others = ys; first = refl; later = is; whole = sym (some_same h) }

collected_parts : {A : Type 0} (x : Option A) (rest : List (Option A)) (out : List A) → collected (x ∷ rest) ≡ Some out → Parts x rest out
collected_parts None rest out h = none_there h
collected_parts (Some y) rest out h = parts_map y rest (collected rest) out refl h

left_most : (a b n : ℕ) → n ≤ a → n ≤ max a b
left_most a b n h = grind (arith, nat_tests)

right_most : (a b n : ℕ) → n ≤ b → n ≤ max a b
right_most a b n h = grind (arith, nat_tests)

-- one that is too long makes the greatest length too large
module _ {A B : Type 0} (f : A → Option B) (size : B → ℕ) (all : List B → ℕ) (more : (y : B) (ys : List B) → all (y ∷ ys) ≡ max (size y) (all ys)) where
  long_among : (xs : List A) (x : A) → Contains xs x → ((y : B) → f x ≡ Some y → 4294967296 ≤ size y) → (out : List B) → collected (map f xs) ≡ Some out → 4294967296 ≤ all out
  long_among [] x c long out is = absurd (contains_nil x c)
  long_among (a ∷ xs) x c long out is =
      let p = collected_parts (f a) (map f xs) out is in
      subst (λ o. 4294967296 ≤ all o) (sym p.whole)
      (subst (λ n. 4294967296 ≤ n) (sym (more p.value p.others))
      (elim (contains_cons a x xs c) [
        | inl same ↦ left_most (size p.value) (all p.others) 4294967296 (long p.value (ap f (sym same) ∙ p.first))
        | inr later ↦ right_most (size p.value) (all p.others) 4294967296 (long_among xs x later long p.others p.later)
      ]))

module _ (raw : RawProgram) where
  long_members : (ms : List RawMember) → HasLongMember raw ms → (out : List Member) → collected (map (member_tree raw) ms) ≡ Some out → 4294967296 ≤ longest_member out
  long_members ms h out is = long_among (member_tree raw) (λ (m : Member). longest m.shape) longest_member (λ y ys. refl) ms h.0 h.1 h.2 out is

  long_struct : (d : StructText) → HasLongMember raw d.members → (y : StructDef) → struct_tree raw d ≡ Some y → 4294967296 ≤ longest_member y.members
  long_struct d h y is =
      let p = map_there (λ (ms : List Member). record { name = d.tag; members = ms }) (collected (map (member_tree raw) d.members)) y is in
      subst (λ (z : StructDef). 4294967296 ≤ longest_member z.members) p.same (long_members d.members h p.value p.there)

  long_structs : HasLongStruct raw raw.items → (out : List StructDef) → structs_of raw ≡ Some out → 4294967296 ≤ longest_in_structs out
  long_structs h out is =
      long_among (struct_tree raw) (λ (d : StructDef). longest_member d.members) longest_in_structs (λ y ys. refl) (defined_structs raw) h.0 h.1 (long_struct h.0 h.2) out is

  long_variables : HasLong (variables_in raw (phrases raw)) → (out : List Var) → variables_of raw ≡ Some out → 4294967296 ≤ longest_in_variables out
  long_variables h out is =
      let found = variables_in raw (phrases raw) in
      long_among (λ (o : Option Var). o) (λ (v : Var). longest v.shape) longest_in_variables (λ y ys. refl) found h.0 h.1 h.2 out (ap collected (map-id found) ∙ is)

  -- ---- the program

  parts_of : (items : Option (List Item)) (vars : Option (List Var)) (structs : Option (List StructDef)) (functions : Option (List Function)) (p : Program)
      → option_and_then (λ (xs : List Item). option_and_then (λ (vs : List Var). both (program_with (scope_at_end raw).statements xs vs) structs functions) vars) items ≡ Some p
      → (vars ≡ Some p.vars) × (structs ≡ Some p.structs)
  parts_of None vars structs functions p h = none_there h
  parts_of (Some xs) None structs functions p h = none_there h
  parts_of (Some xs) (Some vs) None functions p h = none_there h
  parts_of (Some xs) (Some vs) (Some ds) None p h = none_there h
  parts_of (Some xs) (Some vs) (Some ds) (Some fs) p h =
      let e = some_same h in (ap (λ (q : Program). Some q.vars) e, ap (λ (q : Program). Some q.structs) e)

  pub structs_long : HasLongStruct raw raw.items → (p : Program) → program_of raw ≡ Some p → 4294967296 ≤ array_length p
  structs_long h p is =
      let parts = parts_of (items_of raw) (variables_of raw) (structs_of raw) (functions_of raw) p is in
      left_most (longest_in_structs p.structs) (longest_in_variables p.vars) 4294967296 (long_structs h p.structs parts.1)

  pub variables_long : HasLong (variables_in raw (phrases raw)) → (p : Program) → program_of raw ≡ Some p → 4294967296 ≤ array_length p
  variables_long h p is =
      let parts = parts_of (items_of raw) (variables_of raw) (structs_of raw) (functions_of raw) p is in
      right_most (longest_in_structs p.structs) (longest_in_variables p.vars) 4294967296 (long_variables h p.vars parts.0)

  pub program_joined : (items : List Item) (vars : List Var) (structs : List StructDef) (functions : List Function) (statements : ℕ)
      → items_of raw ≡ Some items → variables_of raw ≡ Some vars → structs_of raw ≡ Some structs → functions_of raw ≡ Some functions → statements ≡ (scope_at_end raw).statements
      → program_of raw ≡ Some (record { items = items; vars = vars; structs = structs; functions = functions; statements = statements })
  program_joined items vars structs functions statements i v s f n =
      joined (items_of raw) (variables_of raw) (structs_of raw) (functions_of raw) i v s f ∙ ap (λ (k : ℕ). Some (program_with k items vars structs functions)) (sym n)
    where
      joined : (a : Option (List Item)) (b : Option (List Var)) (c : Option (List StructDef)) (d : Option (List Function)) → a ≡ Some items → b ≡ Some vars → c ≡ Some structs → d ≡ Some functions
          → option_and_then (λ (xs : List Item). option_and_then (λ (vs : List Var). both (program_with (scope_at_end raw).statements xs vs) c d) b) a
          ≡ Some (program_with (scope_at_end raw).statements items vars structs functions)
      joined a b c d i v s f = rw (i, v, s, f) refl

-- ---- the walk along a whole text

module _ (raw : RawProgram) (w : Walk) (text : w.tables.raw.now ≡ raw) (start : scope_of w.tables ≡ outset) (list : List RawItem) (whole : list ≡ raw.items) where
  pub walk_fits : AreFit raw (phrases raw) → FitsStretch (of_items list) w
  walk_fits h =
      subst (λ (xs : List RawItem). FitsStretch (of_items xs) w) (sym whole)
      (subst (λ (r : RawProgram). AreFit r (items_phrases r raw.items (scope_of w.tables))) (sym text)
      (subst (λ (x : Scope). AreFit raw (items_phrases raw raw.items x)) (sym start) h))

  pub walk_items : (xs : List Item) → HasItems w list xs → items_of raw ≡ Some xs
  walk_items xs h =
      subst (λ (x : Scope). collected (items_from raw raw.items x) ≡ Some xs) start
      (subst (λ (r : RawProgram). collected (items_from r raw.items (scope_of w.tables)) ≡ Some xs) text
      (subst (λ (ys : List RawItem). HasItems w ys xs) whole h))

  pub walk_functions : (fs : List Function) → HasFunctions w list fs → functions_of raw ≡ Some fs
  walk_functions fs h =
      subst (λ (x : Scope). collected (functions_from raw raw.items x) ≡ Some fs) start
      (subst (λ (r : RawProgram). collected (functions_from r raw.items (scope_of w.tables)) ≡ Some fs) text
      (subst (λ (ys : List RawItem). HasFunctions w ys fs) whole h))

  module _ (none : AreMade w.variables []) (v : Walk) (passes : PassesStretch (of_items list) w v) where
    walked : PassesStretch (of_items raw.items) w v
    walked = subst (λ (xs : List RawItem). PassesStretch (of_items xs) w v) whole passes

    made_all : AreMade v.variables (variables_in raw (phrases raw))
    made_all =
        subst (λ (x : Scope). AreMade v.variables (variables_in raw (items_phrases raw raw.items x))) start
        (subst (λ (r : RawProgram). AreMade v.variables (variables_in r (items_phrases r raw.items (scope_of w.tables)))) text
        (walked.grow [] none))

    pub walk_variables : v.variables.is_long ≡ false → variables_of raw ≡ Some v.variables.made
    walk_variables short = ap collected (sym (made_all.made short)) ∙ collected_made v.variables.made

    pub walk_long : v.variables.is_long ≡ true → HasLong (variables_in raw (phrases raw))
    walk_long long = made_all.long long

    pub walk_statements : v.tables.statements ≡ (scope_at_end raw).statements
    walk_statements =
        ap (λ (x : Scope). x.statements) walked.arrives.scope_is
        ∙ ap (λ (r : RawProgram). ((of_items raw.items r).after (scope_of w.tables)).statements) text
        ∙ ap (λ (x : Scope). ((of_items raw.items raw).after x).statements) start

    pub walk_right : AreRight w.tables → AreRight v.tables
    walk_right right = walked.arrives.right right

    pub walk_text : v.tables.raw.now ≡ raw
    walk_text = walked.arrives.text ∙ text

    defined_text : AreRight w.tables → v.tables.defined.raw.now ≡ raw
    defined_text right = (walk_right right).text ∙ walk_text

    module _ (right : AreRight w.tables) (items : List RawItem) (again : items ≡ raw.items) where
      pub walk_structs : AreFit raw (phrases raw) → AreFitStructs v.tables.defined.raw.now items
      walk_structs h =
          subst (λ (xs : List RawItem). AreFitStructs v.tables.defined.raw.now xs) (sym again)
          (subst (λ (r : RawProgram). AreFitStructs r raw.items) (sym (defined_text right)) (structs_kept raw raw.items outset h))

      structs_told : (r : Result (List StructDef) MakeFault) → MakesStructs v.tables.defined.raw.now items r → MakesStructs raw raw.items r
      structs_told r h =
          subst (λ (t : RawProgram). MakesStructs t raw.items r) (defined_text right) (subst (λ (xs : List RawItem). MakesStructs v.tables.defined.raw.now xs r) again h)

      stop_whole : (e : MakeFault) → MakesStructs raw raw.items (Err e) → MakesProgram raw (Err e)
      stop_whole Length h = structs_long raw h
      stop_whole NoMemory h = tt

      -- where a struct type can't be made
      pub structs_stop_all : (e : MakeFault) → MakesStructs v.tables.defined.raw.now items (Err e) → MakesProgram raw (Err e)
      structs_stop_all e h = stop_whole e (structs_told (Err e) h)

      pub walk_makes : (xs : List Item) (ds : List StructDef) (fs : List Function) → HasItems w list xs → HasFunctions w list fs → v.variables.is_long ≡ false
          → MakesStructs v.tables.defined.raw.now items (Ok ds)
          → MakesProgram raw (Ok (record { items = xs; vars = v.variables.made; structs = ds; functions = fs; statements = v.tables.statements }))
      walk_makes xs ds fs has also short made =
          program_joined raw xs v.variables.made ds fs v.tables.statements (walk_items xs has) (walk_variables short) (structs_told (Ok ds) made) (walk_functions fs also) walk_statements

    -- where a variable was too long
    pub program_long : v.variables.is_long ≡ true → MakesProgram raw (Err Length)
    program_long long = variables_long raw (walk_long long)
