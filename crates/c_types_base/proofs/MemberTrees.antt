-- A member that is selected has a number.
use Rattle.std.proofs.Common.{◌≡◌, ℕ, zero, suc, List, [], ◌∷◌, Bool, true, false, cond, Option, Some, None, option_map, option_and_then, Result, Ok, Err, is_some, position, find, slice_get, bytes_eq, refl, sym, ap, subst, ◌∙◌, true≢false}
use Rattle.std.specs.Prelude.{nat_lt, if◌then◌else◌}
use Rattle.c_tree.specs.declared.expr.MemberId.{MemberId}
use Rattle.c_tree.specs.declared.raw.expr.RawExpr.TheOpen.{RawExpr-F}
use Rattle.c_tree.specs.declared.raw.program.RawMember.{RawMember}
use Rattle.c_tree.specs.declared.raw.program.RawProgram.{RawProgram}
use Rattle.c_language.specs.Words.{Bytes}
use Rattle.c_language.specs.DeclaredTypes.{StructText, defined_structs}
use Rattle.c_language.specs.Scopes.{Scope}
use Rattle.c_language.specs.ExprTypes.{struct_of, member_of, member_named, member_type}
use Rattle.c_language.specs.ProgramOf.{member_id, of_operand}
use Rattle.c_language.specs.declared.expr_type.ExprType.{ExprType}
use Rattle.c_language.specs.declared.expr_type.Operand.{Operand}
use Rattle.c_language.proofs.Lists.{position-cons}
use Rattle.c_types_base.specs.declared.numbering.Numbering.{Numbering}
use Rattle.c_types_base.specs.Numbering.{number_in}
use Rattle.c_types_base.specs.Definitions.{NumberMembers}
use Rattle.c_types_base.specs.Judging.{judge_seen, member_or, judge_selected, selected_of}
use Rattle.c_types_base.proofs.DefinitionLemmas.{position-map}
use Rattle.c_types_base.proofs.MemberLaws.{member_judged}

-- a fault is no operand
no_operand : {n : ℕ} {y : Operand} → ◌≡◌ {A = Result Operand ℕ} (Err n) (Ok y) → ⊥
no_operand h = subst (λ (r : Result Operand ℕ). is_fault r) h tt
  where
    is_fault : Result Operand ℕ → Type 0
    is_fault (Ok z) = ⊥
    is_fault (Err n) = Unit {0}

there_after : {A : Type 0} (b : Bool) (x : A) (found : Option A) (o : Option ℕ) → is_some found ≡ is_some o → is_some (cond b (Some x) found) ≡ is_some (cond b (Some 0) (option_map suc o))
there_after true x found o h = refl
there_after false x found None h = h
there_after false x found (Some k) h = h

-- what is found has a place
found_somewhere : {A : Type 0} (p : A → Bool) (xs : List A) → is_some (find p xs) ≡ is_some (position p xs)
found_somewhere p [] = refl
found_somewhere p (x ∷ xs) = there_after (p x) x (find p xs) (position p xs) (found_somewhere p xs) ∙ sym (ap is_some (position-cons p x xs))

abbrev numbered_as : ℕ → ℕ → MemberId
numbered_as s i = record { owner = s; index = i }

lacks_number : (s : ℕ) (o : Option ℕ) → is_some o ≡ true → option_map (numbered_as s) o ≡ None → ⊥
lacks_number s None h none = true≢false (sym h)
lacks_number s (Some i) h none = true≢false (ap is_some none)

module _ (raw : RawProgram) (scope : Scope) (name : Bytes) where
  in_text : (s : ℕ) (d : Option StructText) → is_some (option_and_then (λ (x : StructText). member_named x.members name) d) ≡ true
      → option_map (numbered_as s) (option_and_then (λ (x : StructText). position (λ (m : RawMember). bytes_eq m.name name) x.members) d) ≡ None → ⊥
  in_text s None h none = true≢false (sym h)
  in_text s (Some d) h none = lacks_number s (position (λ (m : RawMember). bytes_eq m.name name) d.members) (sym (found_somewhere (λ (m : RawMember). bytes_eq m.name name) d.members) ∙ h) none

  when_found : (s : ℕ) (b : Bool) (t : Option ExprType) (y : Operand) → is_some (member_of raw s name) ≡ b → member_or b t ≡ Ok y → member_id raw name s ≡ None → ⊥
  when_found s true t y e h none = in_text s (slice_get (defined_structs raw) s) e none
  when_found s false t y e h none = no_operand h

  when_complete : (s : ℕ) (b : Bool) (y : Operand)
      → (if b then member_or (is_some (member_of raw s name)) (member_type raw scope name s) else Err 7) ≡ Ok y → member_id raw name s ≡ None → ⊥
  when_complete s true y h none = when_found s (is_some (member_of raw s name)) (member_type raw scope name s) y refl h none
  when_complete s false y h none = no_operand h

  of_struct : (s : Option ℕ) (y : Operand) → selected_of raw scope name s ≡ Ok y → option_and_then (member_id raw name) s ≡ None → ⊥
  of_struct None y h none = no_operand h
  of_struct (Some s) y h none = when_complete s (nat_lt s scope.structs) y h none

  pub select_numbered : (t : ExprType) (y : Operand) → judge_selected raw scope name t ≡ Ok y → option_and_then (member_id raw name) (struct_of t) ≡ None → ⊥
  select_numbered t y h none = of_struct (struct_of t) y h none

  pub member_numbered : (a y : Operand) → judge_seen raw scope (RawExpr-F.Member (Some a) name) ≡ Ok y → of_operand raw name (Some a) ≡ None → ⊥
  member_numbered a y h none = select_numbered a.shape y (sym (member_judged raw scope name a) ∙ h) none

-- the place of a member in the tables of its struct type
pub places : (ss : List StructText) (ns : List Numbering) (name : Bytes) (s : ℕ) → NumberMembers ss ns
    → option_and_then (λ (n : Numbering). number_in n name) (slice_get ns s) ≡ option_and_then (λ (d : StructText). position (λ (m : RawMember). bytes_eq m.name name) d.members) (slice_get ss s)
places [] [] name s h = refl
places [] (n ∷ ns) name s h = absurd h
places (d ∷ ss) [] name s h = absurd h
places (d ∷ ss) (n ∷ ns) name zero (is, rest) = is.numbered name ∙ sym (position-map (λ (m : RawMember). m.name) name d.members)
places (d ∷ ss) (n ∷ ns) name (suc s) (is, rest) = places ss ns name s rest
