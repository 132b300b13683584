-- The numbers that names have stand for these names in the program of a text.
use Rattle.std.proofs.Common.{◌≡◌, ℕ, List, [], ◌∷◌, ◌++◌, Bool, true, false, Option, Some, None, refl, sym, ap, subst, ◌∙◌, map, slice_get}
use Rattle.std.specs.Prelude.{option_map, option_and_then, if◌then◌else◌, bytes_eq, get_or}
use Rattle.std.specs.Option.{option_map_or}
use Rattle.std.specs.List.{find, position}
use Rattle.std.proofs.lemmas.Slice.Eq.{bytes_eq-Decides}
use Rattle.std.proofs.lemmas.Option.{slice_get-get_or}
use Rattle.std.proofs.lemmas.List.Quantifiers.{position-Some}
use Rattle.c_tree.specs.declared.types.CType.{CType}
use Rattle.c_tree.specs.declared.expr.MemberId.{MemberId}
use Rattle.c_tree.specs.declared.program.Program.{Program}
use Rattle.c_tree.specs.declared.program.Member.{Member}
use Rattle.c_tree.specs.declared.program.StructDef.{StructDef}
use Rattle.c_tree.specs.declared.raw.program.RawMember.{RawMember}
use Rattle.c_tree.specs.declared.raw.program.RawProgram.{RawProgram}
use Rattle.c_language.specs.Words.{Bytes, name_of_var, name_of_function, name_of_struct, name_of_member}
use Rattle.c_language.specs.DeclaredTypes.{StructText, defined_structs, struct_id, function_id}
use Rattle.c_language.specs.Scopes.{Entry, Meaning, Scope, found_in}
use Rattle.c_language.specs.ExprTypes.{member_of}
use Rattle.c_language.specs.ExprTypes.{member_named as found_member}
use Rattle.c_language.specs.ProgramOf.{ctype, member_tree, struct_tree, index_of_member, member_id}
use Rattle.c_language.proofs.Options.{none_there, some_same, map_there, then_there}
use Rattle.c_print_laws.proofs.Options.{collected_are, place_of}
use Rattle.c_language.proofs.CleanOperands.{IsTypedIf}
use Rattle.c_print_laws.proofs.Counted.{counted}
use Rattle.c_language.proofs.Lists.{no_list, head_is, tail_is}
use Rattle.c_language.proofs.Operands.{HasTypeIf, HasType}
use Rattle.c_language.specs.Options.{IsThere}

-- the numbers of struct types, members and functions have the names that the text gives them
pub record IsNamed (raw : RawProgram) (p : Program) : Type 0 where
  pub structs : (tag : Bytes) (k : ℕ) → struct_id raw tag ≡ Some k → name_of_struct p k ≡ tag
  pub members : (name : Bytes) (k : ℕ) (m : MemberId) → member_id raw name k ≡ Some m → name_of_member p m ≡ name
  pub functions : (name : Bytes) (k : ℕ) → function_id raw name ≡ Some k → name_of_function p k ≡ name
  -- and each member has a type
  pub complete : (s : ℕ) (name : Bytes) → IsTypedIf raw (member_of raw s name)

-- a declared variable has its name in the program, and a type
abbrev pub MeaningFits : Program → Bytes → Meaning → Type 0
MeaningFits p name (Meaning.Variable id t) = (name_of_var p id ≡ name) × IsThere t
MeaningFits p name Meaning.Function = Unit {0}

abbrev pub EntriesFit : Program → List Entry → Type 0
EntriesFit p [] = Unit {0}
EntriesFit p (e ∷ es) = MeaningFits p e.name e.meaning × EntriesFit p es

-- each variable in scope has its name in the program, and a type
abbrev pub Fits : Program → Scope → Type 0
Fits p scope = EntriesFit p scope.names

-- what stands at the position of a test passes it
pub positioned : {A : Type 0} (test : A → Bool) (xs : List A) (k : ℕ) → position test xs ≡ Some k → (x : A) × (slice_get xs k ≡ Some x) × (test x ≡ true)
positioned test [] k h = none_there h
positioned test (a ∷ xs) k h =
    let s = position-Some test (a ∷ xs) k a h in
    (get_or (a ∷ xs) k a, slice_get-get_or (a ∷ xs) k a s.0, s.1)

pub fits_found : (p : Program) (es : List Entry) (name : Bytes) (m : Meaning) → EntriesFit p es → found_in name es ≡ Some m → MeaningFits p name m
fits_found p [] name m fit h = none_there h
fits_found p (e ∷ es) name m fit h = by_test (bytes_eq name e.name) refl h (fits_found p es name m fit.1)
  where
    by_test : (b : Bool) → bytes_eq name e.name ≡ b → option_map (λ (x : Entry). x.meaning) (if b then Some e else find (λ (x : Entry). bytes_eq name x.name) es) ≡ Some m
        → (found_in name es ≡ Some m → MeaningFits p name m) → MeaningFits p name m
    by_test true is h later =
        subst (MeaningFits p name) (some_same h) (subst (λ (n : Bytes). MeaningFits p n e.meaning) (sym ((bytes_eq-Decides name e.name).0 is)) fit.0)
    by_test false is h later = later h

has_type : (p : Program) (name : Bytes) (m : Meaning) → MeaningFits p name m → HasType m
has_type p name (Meaning.Variable id t) h = h.1
has_type p name Meaning.Function h = tt

-- what a name stands for has its type
pub fits_typed : (p : Program) (es : List Entry) (name : Bytes) → EntriesFit p es → HasTypeIf (found_in name es)
fits_typed p es name fit = by_meaning (found_in name es) refl
  where
    by_meaning : (m : Option Meaning) → found_in name es ≡ m → HasTypeIf m
    by_meaning None is = tt
    by_meaning (Some m) is = has_type p name m (fits_found p es name m fit is)

pub fits_append : (p : Program) (es : List Entry) (e : Entry) → EntriesFit p es → MeaningFits p e.name e.meaning → EntriesFit p (es ++ e ∷ [])
fits_append p [] e fit h = (h, tt)
fits_append p (x ∷ es) e fit h = (fit.0, fits_append p es e fit.1 h)

-- ---- struct types and members

module _ (raw : RawProgram) (p : Program) (are : map (struct_tree raw) (defined_structs raw) ≡ map Some p.structs) where
  -- a struct type of the text, with that of the program
  pub record HasStruct (k : ℕ) (d : StructText) : Type 0 where
    pub members : List Member
    pub at : slice_get p.structs k ≡ Some (record { name = d.tag; members = members })
    pub trees : map (member_tree raw) d.members ≡ map Some members

  pub struct_at : (k : ℕ) (d : StructText) → slice_get (defined_structs raw) k ≡ Some d → HasStruct k d
  struct_at k d h =
      let g = place_of (struct_tree raw) (defined_structs raw) p.structs k d are h in
      let m = map_there (λ (ms : List Member). record { name = d.tag; members = ms }) _ g.value g.there in
      record { members = m.value; at = sym g.same ∙ ap Some (sym m.same); trees = collected_are _ m.value m.there }

  pub struct_named : (tag : Bytes) (k : ℕ) → struct_id raw tag ≡ Some k → name_of_struct p k ≡ tag
  struct_named tag k h =
      let x = positioned (λ (s : StructText). bytes_eq s.tag tag) (defined_structs raw) k h in
      let s = struct_at k x.0 x.1 in
      ap (λ (o : Option StructDef). option_map_or (λ (d : StructDef). d.name) o []) s.at ∙ (bytes_eq-Decides x.0.tag tag).0 x.2

  name_at : (ms : List Member) (i : ℕ) (name : Bytes) (t : CType) → slice_get ms i ≡ Some (record { name = name; shape = t }) → option_map_or (λ (x : Member). x.name) (slice_get ms i) [] ≡ name
  name_at ms i name t h = ap (λ (o : Option Member). option_map_or (λ (x : Member). x.name) o []) h

  typed_in : (ms : List RawMember) (xs : List Member) (name : Bytes) → map (member_tree raw) ms ≡ map Some xs → IsTypedIf raw (found_member ms name)
  typed_in [] xs name h = tt
  typed_in (m ∷ ms) [] name h = no_list h
  typed_in (m ∷ ms) (x ∷ xs) name h = by_test (bytes_eq m.name name) (head_is h) (typed_in ms xs name (tail_is h))
    where
      by_test : (b : Bool) → member_tree raw m ≡ Some x → IsTypedIf raw (found_member ms name) → IsTypedIf raw (if b then Some m else found_member ms name)
      by_test true is later =
          let g = map_there _ (ctype raw m.shape) x is in
          let k = counted raw 0 m.shape g.value g.there in
          subst IsThere (sym k.there) tt
      by_test false is later = later

  -- each member has a type
  pub members_typed : (s : ℕ) (name : Bytes) → IsTypedIf raw (member_of raw s name)
  members_typed s name = by_struct (slice_get (defined_structs raw) s) refl
    where
      by_struct : (d : Option StructText) → slice_get (defined_structs raw) s ≡ d → IsTypedIf raw (option_and_then (λ (d : StructText). found_member d.members name) d)
      by_struct None is = tt
      by_struct (Some d) is = let g = struct_at s d is in typed_in d.members g.members name g.trees

  member_at : (k i : ℕ) (tag : Bytes) (ms : List Member) → slice_get p.structs k ≡ Some (record { name = tag; members = ms })
      → name_of_member p (record { owner = k; index = i }) ≡ option_map_or (λ (x : Member). x.name) (slice_get ms i) []
  member_at k i tag ms h = ap (λ (o : Option StructDef). option_map_or (λ (d : StructDef). option_map_or (λ (x : Member). x.name) (slice_get d.members i) []) o []) h

  pub member_named : (name : Bytes) (k : ℕ) (m : MemberId) → member_id raw name k ≡ Some m → name_of_member p m ≡ name
  member_named name k m h =
      let a = map_there (λ (i : ℕ). record { owner = k; index = i }) (index_of_member raw name k) m h in
      let b = then_there (λ (d : StructText). position (λ (m : RawMember). bytes_eq m.name name) d.members) (slice_get (defined_structs raw) k) a.value a.there in
      let x = positioned (λ (m : RawMember). bytes_eq m.name name) b.value.members a.value b.same in
      let s = struct_at k b.value b.there in
      let g = place_of (member_tree raw) b.value.members s.members a.value x.0 s.trees x.1 in
      let t = map_there (λ t. record { name = x.0.name; shape = t }) (ctype raw x.0.shape) g.value g.there in
      let named = name_at s.members a.value x.0.name t.value (sym g.same ∙ ap Some (sym t.same)) in
      ap (name_of_member p) (sym a.same) ∙ member_at k a.value b.value.tag s.members s.at ∙ named ∙ (bytes_eq-Decides x.0.name name).0 x.2
