-- The members of a text's struct types, by their names, are those of the program's struct types, by their numbers.
use Rattle.std.proofs.Common.{◌≡◌, ℕ, zero, suc, Bool, true, false, cond, List, [], ◌∷◌, map, Option, Some, None, option_map, position, bytes_eq, slice_get, refl, sym, ap, subst, ◌∙◌}
use Rattle.std.specs.Prelude.{option_and_then}
use Rattle.std.specs.Option.{option_map_or}
use Rattle.c_tree.specs.declared.program.Member.{Member}
use Rattle.c_tree.specs.declared.program.StructDef.{StructDef}
use Rattle.c_tree.specs.declared.types.CType.{CType}
use Rattle.c_tree.specs.declared.raw.program.RawMember.{RawMember}
use Rattle.c_tree.specs.declared.raw.program.RawProgram.{RawProgram}
use Rattle.c_language.specs.Words.{Bytes}
use Rattle.c_language.specs.DeclaredTypes.{StructText, defined_structs, written_type}
use Rattle.c_language.specs.ExprTypes.{member_named, member_of}
use Rattle.c_language.specs.Options.{IsThere}
use Rattle.c_language.specs.ProgramOf.{collected, ctype, member_tree, struct_tree, structs_of}
use Rattle.c_language.specs.TreeTypes.{shape_of}
use Rattle.c_language.specs.declared.expr_type.ExprType.{ExprType}
use Rattle.c_language.proofs.CleanOperands.{IsTypedIf}
use Rattle.c_language.proofs.Lists.{position-cons}
use Rattle.c_language.proofs.Options.{none_there, some_same, map_there, more_there}
use Rattle.dep_model.proofs.StructOrder.{tree_typed}
use Rattle.typed_programs.specs.TreeOperands.{Declarations, member_shape, members_in}
use Rattle.typed_programs.proofs.TextOperands.{MembersStand}

-- what is collected has a value for each
pub collected_from : {A B : Type 0} (f : A → Option B) (xs : List A) (ys : List B) → collected (map f xs) ≡ Some ys → (s : ℕ) (x : A) → slice_get xs s ≡ Some x
    → (y : B) × (slice_get ys s ≡ Some y) × (f x ≡ Some y)
collected_from f [] ys h s x e = none_there e
collected_from f (z ∷ xs) ys h zero x e =
    let m = more_there (f z) (map f xs) ys h in
    (m.first, ap (λ l. slice_get l 0) (sym m.same), ap f (sym (some_same e)) ∙ m.first_there)
collected_from f (z ∷ xs) ys h (suc s) x e =
    let m = more_there (f z) (map f xs) ys h in
    let k = collected_from f xs m.rest m.rest_there s x e in
    (k.0, ap (λ l. slice_get l (suc s)) (sym m.same) ∙ k.1, k.2)

abbrev shape_at : List Member → ℕ → Option ExprType
shape_at ms i = option_map (λ (k : Member). shape_of k.shape) (slice_get ms i)

module _ (raw : RawProgram) where
  -- a member has the type that is written
  member_typed : (r : RawMember) (m : Member) → member_tree raw r ≡ Some m → written_type raw r.shape ≡ Some (shape_of m.shape)
  member_typed r m e =
      let k = map_there (λ (t : CType). let z : Member = record { name = r.name; shape = t } in z) (ctype raw r.shape) m e in
      tree_typed raw 0 r.shape ∙ ap (option_map shape_of) k.there ∙ ap (λ (z : Member). Some (shape_of z.shape)) k.same

  abbrev type_written : RawMember → Option ExprType
  type_written r = written_type raw r.shape

  later : (m : Member) (ms : List Member) (o : Option ℕ) → option_and_then (shape_at (m ∷ ms)) (option_map suc o) ≡ option_and_then (shape_at ms) o
  later m ms None = refl
  later m ms (Some i) = refl

  named_same : (rs : List RawMember) (ms : List Member) (name : Bytes) → collected (map (member_tree raw) rs) ≡ Some ms
      → option_and_then type_written (member_named rs name) ≡ option_and_then (shape_at ms) (position (λ (r : RawMember). bytes_eq r.name name) rs)
  named_same [] ms name e = refl
  named_same (r ∷ rs) ms name e =
      let m = more_there (member_tree raw r) (map (member_tree raw) rs) ms e in
      subst (λ zs. option_and_then type_written (member_named (r ∷ rs) name) ≡ option_and_then (shape_at zs) (position (λ (q : RawMember). bytes_eq q.name name) (r ∷ rs))) m.same
      (by_name (bytes_eq r.name name) m.first m.rest (member_typed r m.first m.first_there) (named_same rs m.rest name m.rest_there)
      ∙ ap (option_and_then (shape_at (m.first ∷ m.rest))) (sym (position-cons (λ (q : RawMember). bytes_eq q.name name) r rs)))
    where
      by_name : (b : Bool) (k : Member) (ks : List Member) → type_written r ≡ Some (shape_of k.shape)
          → option_and_then type_written (member_named rs name) ≡ option_and_then (shape_at ks) (position (λ (q : RawMember). bytes_eq q.name name) rs)
          → option_and_then type_written (cond b (Some r) (member_named rs name))
          ≡ option_and_then (shape_at (k ∷ ks)) (cond b (Some 0) (option_map suc (position (λ (q : RawMember). bytes_eq q.name name) rs)))
      by_name true k ks here rest = here
      by_name false k ks here rest = rest ∙ sym (later k ks (position (λ (q : RawMember). bytes_eq q.name name) rs))

  named_typed : (rs : List RawMember) (ms : List Member) (name : Bytes) → collected (map (member_tree raw) rs) ≡ Some ms → IsTypedIf raw (member_named rs name)
  named_typed [] ms name e = tt
  named_typed (r ∷ rs) ms name e =
      let m = more_there (member_tree raw r) (map (member_tree raw) rs) ms e in
      by_name (bytes_eq r.name name) (member_named rs name) (subst IsThere (sym (member_typed r m.first m.first_there)) tt) (named_typed rs m.rest name m.rest_there)
    where
      by_name : (b : Bool) (o : Option RawMember) → IsThere (type_written r) → IsTypedIf raw o → IsTypedIf raw (cond b (Some r) o)
      by_name true o here rest = here
      by_name false o here rest = rest

  module _ (structs : List StructDef) (made : structs_of raw ≡ Some structs) where
    -- a struct type that the text defines is one of the program's
    struct_made : (s : ℕ) (k : StructText) → slice_get (defined_structs raw) s ≡ Some k
        → (ms : List Member) × (collected (map (member_tree raw) k.members) ≡ Some ms) × (option_map_or (λ (z : StructDef). z.members) (slice_get structs s) [] ≡ ms)
    struct_made s k e =
        let c = collected_from (struct_tree raw) (defined_structs raw) structs made s k e in
        let m = map_there (λ (ms : List Member). let z : StructDef = record { name = k.tag; members = ms } in z) (collected (map (member_tree raw) k.members)) c.0 c.2 in
        (m.value, m.there, ap (λ o. option_map_or (λ (z : StructDef). z.members) o []) c.1 ∙ ap (λ (z : StructDef). z.members) (sym m.same))

    pub members_typed : (s : ℕ) (name : Bytes) → IsTypedIf raw (member_of raw s name)
    members_typed s name = by_struct (slice_get (defined_structs raw) s) refl
      where
        by_struct : (o : Option StructText) → slice_get (defined_structs raw) s ≡ o → IsTypedIf raw (option_and_then (λ (k : StructText). member_named k.members name) o)
        by_struct None e = tt
        by_struct (Some k) e = let m = struct_made s k e in named_typed k.members m.0 name m.1

    pub members_stand : (d : Declarations) → d.structs ≡ structs → MembersStand raw d
    members_stand d is name s = by_struct (slice_get (defined_structs raw) s) refl
      where
        by_struct : (o : Option StructText) → slice_get (defined_structs raw) s ≡ o
            → option_and_then type_written (option_and_then (λ (k : StructText). member_named k.members name) o)
            ≡ option_and_then (λ (i : ℕ). member_shape d (record { owner = s; index = i })) (option_and_then (λ (k : StructText). position (λ (r : RawMember). bytes_eq r.name name) k.members) o)
        by_struct None e = refl
        by_struct (Some k) e =
            let m = struct_made s k e in
            let own : members_in d s ≡ m.0 = ap (λ z. option_map_or (λ (q : StructDef). q.members) (slice_get z s) []) is ∙ m.2 in
            named_same k.members m.0 name m.1 ∙ ap (λ z. option_and_then (shape_at z) (position (λ (r : RawMember). bytes_eq r.name name) k.members)) (sym own)
