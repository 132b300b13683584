-- No struct type of a well-formed program has itself or a later one in it: the size of a member is known where its struct type is defined.
use Rattle.std.proofs.Common.{◌≡◌, ℕ, zero, suc, ◌+◌, List, [], ◌∷◌, ◌++◌, length, map, Bool, true, false, Option, Some, None, option_map, inl, inr, refl, sym, ap, subst, ◌∙◌, arith}
use Rattle.std.proofs.lemmas.Option.{slice_get_read}
use Rattle.std.specs.Option.{option_map_or, option_and_then}
use Rattle.std.specs.Prelude.{slice_get, Contains}
use Rattle.c_tree.specs.declared.types.CType.{CType}
use Rattle.c_tree.specs.declared.types.CType.TheVariants as type
use Rattle.c_tree.specs.declared.program.Member.{Member}
use Rattle.c_tree.specs.declared.program.Program.{Program}
use Rattle.c_tree.specs.declared.program.StructDef.{StructDef}
use Rattle.c_tree.specs.declared.raw.expr.RawType.{RawType, roll-RawType, map-RawType, fold-roll-RawType}
use Rattle.c_tree.specs.declared.raw.expr.RawType.TheOpen.{RawType-F}
use Rattle.c_tree.specs.declared.raw.program.RawItem.{RawItem}
use Rattle.c_tree.specs.declared.raw.program.RawItem.TheVariants.{Include, Tag, Struct, Global, Prototype, Define}
use Rattle.c_tree.specs.declared.raw.program.RawMember.{RawMember}
use Rattle.c_tree.specs.declared.raw.program.RawProgram.{RawProgram}
use Rattle.c_tree.proofs.RawTrees.{TypeParts, type_layer, of_every_type}
use Rattle.c_language.specs.Words.{Bytes}
use Rattle.c_language.specs.ConstantEvaluation.{both}
use Rattle.c_language.specs.DeclaredTypes.{StructText, struct_texts, defined_structs, struct_id, length_in, type_step, type_with, written_type, with_layer, of_base, pointer_to}
use Rattle.c_language.specs.ExprRules.{complete_in, is_complete}
use Rattle.c_language.specs.Phrases.{HasMember, member_phrases, item_phrases, items_phrases, after_item}
use Rattle.c_language.specs.ProgramOf.{length_words, ctype_step, ctype_with, ctype, member_tree, struct_tree, collected, program_of}
use Rattle.c_language.specs.Programs.{IsWellFormed}
use Rattle.c_language.specs.Rules.{Breaks, AreKept, KeepsRules}
use Rattle.c_language.specs.Scopes.{Scope, outset}
use Rattle.c_language.specs.StructRules.{MisusesTag}
use Rattle.c_language.specs.TreeTypes.{shape_of}
use Rattle.c_language.specs.declared.expr_type.Base.{Base}
use Rattle.c_language.specs.declared.expr_type.Base.TheVariants as base
use Rattle.c_language.specs.declared.expr_type.Layer.{Layer}
use Rattle.c_language.specs.declared.expr_type.Layer.TheVariants as layer
use Rattle.c_language.specs.declared.expr_type.ExprType.{ExprType}
use Rattle.c_language.proofs.Options.{map_there, more_there, some_same, none_there}
use Rattle.c_language.proofs.PhraseLists.{kept_first, kept_second, phrases_kept}
use Rattle.c_language.proofs.ProgramParts.{made_of}
use Rattle.c_types_base.proofs.ListingLaws.{item_structs}
use Rattle.tree_types.proofs.TypeForms.{shape-Integer, shape-PointerTo, shape-Array, shape-Struct}
use Rattle.dep_model.specs.LocationLists.{are_layers_before, is_before, AreStructsInOrder}
use Rattle.dep_model.proofs.Membership.{IsIn, in_of_contains, in_of_get}

-- ---- a written type, and that of the tree

pointer_typed : (c : Option CType) → option_map pointer_to (option_map shape_of c) ≡ option_map shape_of (option_map type.PointerTo c)
pointer_typed None = refl
pointer_typed (Some a) = ap (λ (t : ExprType). Some t) (sym (shape-PointerTo a))

array_typed : (c : Option CType) (n : Option ℕ) (words : Bytes)
    → option_and_then (λ (t : ExprType). option_map (λ (k : ℕ). with_layer (layer.Array k) t) n) (option_map shape_of c) ≡ option_map shape_of (both (λ (t : CType) (k : ℕ). type.Array t k words) c n)
array_typed None n words = refl
array_typed (Some a) None words = refl
array_typed (Some a) (Some k) words = ap (λ (t : ExprType). Some t) (sym (shape-Array a k words))

struct_typed : (s : Option ℕ) → option_map (λ (n : ℕ). of_base (base.Struct n)) s ≡ option_map shape_of (option_map type.Struct s)
struct_typed None = refl
struct_typed (Some n) = ap (λ (t : ExprType). Some t) (sym (shape-Struct n))

module _ (raw : RawProgram) (items : ℕ) where
  abbrev IsTyped : RawType → Type 0
  IsTyped a = type_with raw items a ≡ option_map shape_of (ctype_with raw items a)

  text : (z : RawType-F RawType) → type_with raw items (roll-RawType z) ≡ type_step raw items (map-RawType RawType (Option ExprType) (type_with raw items) z)
  text z = fold-roll-RawType (Option ExprType) (type_step raw items) z

  tree : (z : RawType-F RawType) → option_map shape_of (ctype_step raw items (map-RawType RawType (Option CType) (ctype_with raw items) z)) ≡ option_map shape_of (ctype_with raw items (roll-RawType z))
  tree z = sym (ap (option_map shape_of) (fold-roll-RawType (Option CType) (ctype_step raw items) z))

  typed_layer : (y : TypeParts IsTyped) → IsTyped (roll-RawType (type_layer IsTyped y))
  typed_layer (RawType-F.Integer t) = text (RawType-F.Integer t) ∙ ap (λ (x : ExprType). Some x) (sym (shape-Integer t)) ∙ tree (RawType-F.Integer t)
  typed_layer (RawType-F.PointerTo (a, h)) =
      text (RawType-F.PointerTo a) ∙ ap (option_map pointer_to) h ∙ pointer_typed (ctype_with raw items a) ∙ tree (RawType-F.PointerTo a)
  typed_layer (RawType-F.Array (a, h) n) =
      text (RawType-F.Array a n) ∙ ap (λ (o : Option ExprType). type_step raw items (RawType-F.Array o n)) h
      ∙ array_typed (ctype_with raw items a) (length_in items n) (length_words items n) ∙ tree (RawType-F.Array a n)
  typed_layer (RawType-F.Struct tag) = text (RawType-F.Struct tag) ∙ struct_typed (struct_id raw tag) ∙ tree (RawType-F.Struct tag)

  -- a written type is that of the tree
  pub tree_typed : (a : RawType) → IsTyped a
  tree_typed a = of_every_type IsTyped typed_layer a

-- ---- what is collected, one by one

pub collected_at : {A B : Type 0} (f : A → Option B) (xs : List A) (ys : List B) → collected (map f xs) ≡ Some ys → (s : ℕ) (y : B) → slice_get ys s ≡ Some y
    → (x : A) × (slice_get xs s ≡ Some x) × (f x ≡ Some y)
collected_at f [] ys h s y e = none_there (ap (λ l. slice_get l s) (some_same h) ∙ e)
collected_at f (x ∷ xs) ys h zero y e =
    let m = more_there (f x) (map f xs) ys h in
    (x, refl, m.first_there ∙ ap (λ l. slice_get l 0) m.same ∙ e)
collected_at f (x ∷ xs) ys h (suc s) y e =
    let m = more_there (f x) (map f xs) ys h in
    collected_at f xs m.rest m.rest_there s y (ap (λ l. slice_get l (suc s)) m.same ∙ e)

-- ---- the phrases of struct types

before_same : (scope : Scope) (ls : List Layer) (b : Base) → complete_in scope ls b ≡ are_layers_before scope.structs ls b
before_same scope [] (base.Struct s) = refl
before_same scope [] (base.Integer t) = refl
before_same scope [] base.Void = refl
before_same scope (layer.Pointer ∷ ls) b = refl
before_same scope (layer.Array n ∷ ls) b = before_same scope ls b

module _ (raw : RawProgram) where
  -- each member of these has a struct type of the first n in it, or none
  abbrev AreBefore : ℕ → List RawMember → Type 0
  AreBefore n ms = (m : RawMember) → IsIn ms m → (t : ExprType) → written_type raw m.shape ≡ Some t → is_before n t ≡ true

  complete_member : (scope : Scope) (before : List RawMember) (m : RawMember) (t : ExprType) → ((n : ℕ) → Breaks raw scope (HasMember before m) n → ⊥)
      → written_type raw m.shape ≡ Some t → is_before scope.structs t ≡ true
  complete_member scope before m t keeps typed = sym (before_same scope t.layers t.base) ∙ by_test (is_complete scope t) refl
    where
      by_test : (b : Bool) → is_complete scope t ≡ b → b ≡ true
      by_test true e = refl
      by_test false e = absurd (keeps 7 (Breaks.tag (MisusesTag.member typed e)))

  members_before : (scope : Scope) (before ms : List RawMember) → AreKept raw (member_phrases scope before ms) → AreBefore scope.structs ms
  members_before scope before [] kept m h t typed = absurd h
  members_before scope before (x ∷ ms) kept m (inl e) t typed = complete_member scope before x t kept.0 (ap (λ (k : RawMember). written_type raw k.shape) e ∙ typed)
  members_before scope before (x ∷ ms) kept m (inr h) t typed = members_before scope (before ++ x ∷ []) ms kept.1 m h t typed

  -- the struct types of items, where so many are defined before them
  abbrev AreStructsBefore : ℕ → List RawItem → Type 0
  AreStructsBefore n items = (s : ℕ) (d : StructText) → slice_get (struct_texts items) s ≡ Some d → AreBefore (n + s) d.members

  passed : (x : RawItem) (rest : List RawItem) (scope : Scope) → struct_texts (x ∷ rest) ≡ struct_texts rest → struct_texts (x ∷ []) ≡ []
      → AreStructsBefore (after_item raw x scope).structs rest → AreStructsBefore scope.structs (x ∷ rest)
  passed x rest scope same none later s d e =
      let more : (after_item raw x scope).structs ≡ scope.structs = item_structs raw scope x ∙ ap (λ (ds : List StructText). scope.structs + length ds) none ∙ (omega arith) in
      subst (λ (n : ℕ). AreBefore (n + s) d.members) more (later s d (ap (λ (ds : List StructText). slice_get ds s) (sym same) ∙ e))

  structs_before : (items : List RawItem) (scope : Scope) → AreKept raw (items_phrases raw items scope) → AreStructsBefore scope.structs items
  structs_before [] scope kept s d e = none_there e
  structs_before (Struct line tag members ∷ rest) scope kept zero d e =
      let own = members_before scope [] members (kept_first raw (member_phrases scope [] members) (items_phrases raw rest (after_item raw (Struct line tag members) scope)) kept.1) in
      let none : scope.structs ≡ scope.structs + 0 = omega arith in
      subst (λ (n : ℕ). AreBefore n d.members) none (subst (λ (x : StructText). AreBefore scope.structs x.members) (some_same e) own)
  structs_before (Struct line tag members ∷ rest) scope kept (suc s) d e =
      let next = after_item raw (Struct line tag members) scope in
      let one : scope.structs + 1 + s ≡ scope.structs + suc s = omega arith in
      subst (λ (n : ℕ). AreBefore n d.members) one
      (structs_before rest next (kept_second raw (item_phrases raw (Struct line tag members) scope) (items_phrases raw rest next) kept) s d e)
  structs_before (Include is_stdlib ∷ rest) scope kept s d e = structs_before rest scope kept s d e
  structs_before (Tag line tag ∷ rest) scope kept s d e =
      structs_before rest scope (kept_second raw (item_phrases raw (Tag line tag) scope) (items_phrases raw rest scope) kept) s d e
  structs_before (Global line var i is_static ∷ rest) scope kept s d e =
      let next = after_item raw (Global line var i is_static) scope in
      passed (Global line var i is_static) rest scope refl refl
      (structs_before rest next (kept_second raw (item_phrases raw (Global line var i is_static) scope) (items_phrases raw rest next) kept)) s d e
  structs_before (Prototype line head ∷ rest) scope kept s d e =
      let next = after_item raw (Prototype line head) scope in
      passed (Prototype line head) rest scope refl refl
      (structs_before rest next (kept_second raw (item_phrases raw (Prototype line head) scope) (items_phrases raw rest next) kept)) s d e
  structs_before (Define line head body ∷ rest) scope kept s d e =
      let next = after_item raw (Define line head body) scope in
      passed (Define line head body) rest scope refl refl
      (structs_before rest next (kept_second raw (item_phrases raw (Define line head body) scope) (items_phrases raw rest next) kept)) s d e

-- ---- the program of a text

member_before : (raw : RawProgram) (n : ℕ) (rm : RawMember) (m : Member) → ((t : ExprType) → written_type raw rm.shape ≡ Some t → is_before n t ≡ true) → member_tree raw rm ≡ Some m
    → is_before n (shape_of m.shape) ≡ true
member_before raw n rm m before e =
    let made = map_there (λ (t : CType). record { name = rm.name; shape = t }) (ctype raw rm.shape) m e in
    let typed : written_type raw rm.shape ≡ Some (shape_of made.value) = tree_typed raw 0 rm.shape ∙ ap (option_map shape_of) made.there in
    before (shape_of m.shape) (typed ∙ ap (λ (x : Member). Some (shape_of x.shape)) made.same)

text_in_order : (raw : RawProgram) (p : Program) → KeepsRules raw → program_of raw ≡ Some p → AreStructsInOrder p
text_in_order raw p rules made s m c = by_struct (slice_get p.structs s) refl c
  where
    by_struct : (o : Option StructDef) → slice_get p.structs s ≡ o → Contains (option_map_or (λ (d : StructDef). d.members) o []) m → is_before s (shape_of m.shape) ≡ true
    by_struct None e h = absurd (in_of_contains [] m h)
    by_struct (Some d) e h =
        let text = collected_at (struct_tree raw) (defined_structs raw) p.structs (made_of raw p made).structs s d e in
        let parts = map_there (λ (ms : List Member). record { name = text.0.tag; members = ms }) (collected (map (member_tree raw) text.0.members)) d text.2 in
        let whole = parts.there ∙ ap (λ (x : StructDef). Some x.members) parts.same in
        let own = collected_at (member_tree raw) text.0.members d.members whole h.0 m (slice_get_read d.members (length d.members) h.0 m refl h.1 (sym h.2)) in
        let first : outset.structs + s ≡ s = omega arith in
        let known = subst (λ (n : ℕ). AreBefore raw n text.0.members) first (structs_before raw raw.items outset (phrases_kept raw rules) s text.0 text.1) in
        member_before raw s own.0 m (known own.0 (in_of_get text.0.members h.0 own.0 own.1)) own.2

-- a law: no struct type of a well-formed program has itself or a later one in it
pub well_formed_in_order : (p : Program) → IsWellFormed p → AreStructsInOrder p
well_formed_in_order p w = λ s m c.
    let same : p.structs ≡ w.same.structs = ap (λ (q : Program). q.structs) w.but_lines in
    text_in_order w.raw w.same w.has.rules w.has.program s m
    (subst (λ (ds : List StructDef). Contains (option_map_or (λ (d : StructDef). d.members) (slice_get ds s) []) m) same c)
