-- All that is in scope by right tables has a type.
use Rattle.std.proofs.Common.{◌≡◌, ℕ, zero, suc, List, [], ◌∷◌, ◌++◌, Bool, true, false, Option, Some, None, refl, sym, ap, subst, ◌∙◌, arith}
use Rattle.std.specs.Prelude.{◌<◌, length, is_some, slice_get, option_map, option_and_then, bytes_eq}
use Rattle.std.specs.Borrow.{Bor}
use Rattle.std.specs.Map.{lookup}
use Rattle.c_tree.specs.declared.raw.program.RawMember.{RawMember}
use Rattle.c_language.specs.DeclaredTypes.{written_type}
use Rattle.c_language.specs.Scopes as scopes
use Rattle.c_types_base.specs.declared.names.Meaning.{Meaning}
use Rattle.c_types_base.specs.declared.names.Meaning.TheVariants.{Variable, Function}
use Rattle.c_types_base.specs.declared.tables.Tables.{Tables}
use Rattle.c_types_base.specs.Names.{meaning_of}
use Rattle.c_types_base.specs.Tables.{scope_of, AreRight}
use Rattle.c_types_base.proofs.NameLemmas.{found_lookup}
use Rattle.c_types_base.proofs.PhraseLemmas.{clash}
use Rattle.c_types_base.proofs.TypedLaws.{IsTyped}

abbrev is_untyped : Option scopes.Meaning → Bool
is_untyped None = false
is_untyped (Some scopes.Meaning.Function) = false
is_untyped (Some (scopes.Meaning.Variable id None)) = true
is_untyped (Some (scopes.Meaning.Variable id (Some t))) = false

none_untyped : (m : Option Meaning) → is_untyped (option_map meaning_of m) ≡ false
none_untyped None = refl
none_untyped (Some (Variable id t)) = refl
none_untyped (Some Function) = refl

pub tables_typed : (t : Tables) → AreRight t → IsTyped t.raw.now (scope_of t)
tables_typed t right = record {
  variables = λ name id is. clash
      (ap is_untyped (sym (found_lookup name t.names.entries.entries)) ∙ none_untyped (lookup (λ (k : Bor (List ℕ)). bytes_eq name k.now) t.names.entries.entries))
      (ap is_untyped is);
  members = λ s name m within is none. clash
      (ap is_some (right.typed s name within ∙ (ap (option_and_then (λ (x : RawMember). written_type t.raw.now x.shape)) is ∙ none)))
      (right.listed s name within ∙ ap is_some is);
}

-- what holds of each place of a list, and of the one behind it, holds of each place of the longer list
longer : {A : Type 0} (Holds : ℕ → Option A → Type 0) (xs : List A) (x : A) → ((k : ℕ) → k < length xs → Holds k (slice_get xs k)) → Holds (length xs) (Some x)
    → (k : ℕ) → k < length (xs ++ x ∷ []) → Holds k (slice_get (xs ++ x ∷ []) k)
longer Holds [] x before last zero within = last
longer Holds [] x before last (suc k) within = absurd (omega (arith, within))
longer Holds (y ∷ xs) x before last zero within = before zero (omega arith)
longer Holds (y ∷ xs) x before last (suc k) within = longer (λ (n : ℕ). Holds (suc n)) xs x (λ n w. before (suc n) (omega (arith, w))) last k (omega (arith, within))

pub pushed : {A : Type 0} (Holds : ℕ → Option A → Type 0) (xs ys : List A) (x : A) (n m : ℕ) → n ≡ length xs → ys ≡ xs ++ x ∷ [] → m ≡ length ys
    → ((k : ℕ) → k < n → Holds k (slice_get xs k)) → Holds n (Some x) → (k : ℕ) → k < m → Holds k (slice_get ys k)
pushed Holds xs ys x n m size is now before last k within =
    subst (λ zs. Holds k (slice_get zs k)) (sym is)
    (longer Holds xs x (λ j w. before j (omega (arith, w, size))) (subst (λ j. Holds j (Some x)) size last) k (omega (arith, within, now, ap length is)))
