-- Texts that have the same struct types: types and members are the same in both.
use Rattle.std.proofs.Common.{◌≡◌, ℕ, List, [], ◌∷◌, map, Option, Some, None, refl, inl, ap, ap₂, ◌∙◌, slice_get}
use Rattle.std.specs.Prelude.{option_map, option_and_then, bytes_eq}
use Rattle.std.specs.List.{position}
use Rattle.c_tree.specs.declared.raw.expr.RawType.{RawType}
use Rattle.c_tree.specs.declared.raw.expr.RawVar.{RawVar}
use Rattle.c_tree.specs.declared.raw.program.RawInit.{RawInit}
use Rattle.c_tree.specs.declared.raw.program.RawMember.{RawMember}
use Rattle.c_tree.specs.declared.raw.program.RawHead.{RawHead}
use Rattle.c_tree.specs.declared.raw.program.RawParam.{RawParam}
use Rattle.c_tree.specs.declared.raw.program.RawProgram.{RawProgram}
use Rattle.c_language.specs.Words.{Bytes}
use Rattle.c_language.specs.DeclaredTypes.{StructText, item_count, struct_id, type_with, written_type, type_or_void, result_type, parameter_types}
use Rattle.c_language.specs.ExprTypes.{member_named, member_of}
use Rattle.c_language.specs.ProgramOf.{member_id, ctype_with}
use Rattle.c_language.specs.declared.expr_type.ExprType.{ExprType}
use Rattle.c_language.proofs.SameStructs as texts
use Rattle.c_scope_laws.specs.Agreement.{SameOutside, SameVariable}

module _ (raw other : RawProgram) (like : SameOutside raw other) where
  pub struct_ids : (tag : Bytes) → struct_id other tag ≡ struct_id raw tag
  struct_ids tag = ap (λ (all : List StructText). position (λ (s : StructText). bytes_eq s.tag tag) all) like.structs

  -- ---- types

  pub types_same : (items : ℕ) (a : RawType) → type_with other items a ≡ type_with raw items a
  types_same = texts.types_same other raw struct_ids

  pub ctypes_same : (items : ℕ) (a : RawType) → ctype_with other items a ≡ ctype_with raw items a
  ctypes_same = texts.ctypes_same other raw struct_ids

  -- ---- members

  pub members_same : (k : ℕ) (name : Bytes) → member_of other k name ≡ member_of raw k name
  members_same k name = ap (λ (all : List StructText). option_and_then (λ (d : StructText). member_named d.members name) (slice_get all k)) like.structs

  pub member_ids_same : (name : Bytes) (k : ℕ) → member_id other name k ≡ member_id raw name k
  member_ids_same name k =
      ap (λ (all : List StructText). option_map (λ (i : ℕ). record { owner = k; index = i }) (option_and_then (λ (d : StructText). position (λ (m : RawMember). bytes_eq m.name name) d.members) (slice_get all k))) like.structs

  of_member : (m : Option RawMember) → option_and_then (λ (m : RawMember). written_type other m.shape) m ≡ option_and_then (λ (m : RawMember). written_type raw m.shape) m
  of_member None = refl
  of_member (Some m) = types_same 0 m.shape

  pub member_types_same : (k : ℕ) (name : Bytes)
      → option_and_then (λ (m : RawMember). written_type other m.shape) (member_of other k name) ≡ option_and_then (λ (m : RawMember). written_type raw m.shape) (member_of raw k name)
  member_types_same k name = of_member (member_of other k name) ∙ ap (option_and_then (λ (m : RawMember). written_type raw m.shape)) (members_same k name)

  -- ---- heads

  by_result : (r : Option RawType) → type_or_void other r ≡ type_or_void raw r
  by_result None = refl
  by_result (Some a) = types_same 0 a

  pub results_same : (h : RawHead) → result_type other h ≡ result_type raw h
  results_same h = by_result h.result

  maps_same : (ps : List RawParam) → map (λ (p : RawParam). written_type other p.shape) ps ≡ map (λ (p : RawParam). written_type raw p.shape) ps
  maps_same [] = refl
  maps_same (p ∷ ps) = ap₂ (λ (x : Option ExprType) (xs : List (Option ExprType)). x ∷ xs) (types_same 0 p.shape) (maps_same ps)

  pub parameters_same : (h : RawHead) → parameter_types other h ≡ parameter_types raw h
  parameters_same h = maps_same h.params

  -- a variable that is declared in the same words
  pub variable_same : (v : RawVar) (i : RawInit) → SameVariable raw other v i v i
  variable_same v i = record { name = refl; type = types_same (item_count i) v.shape; tree = ctypes_same (item_count i) v.shape; tags = refl; lengths = λ a c. inl c }
