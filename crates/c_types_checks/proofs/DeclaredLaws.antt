-- A declaration whose check is passed has a type, and its name is new.
use Rattle.std.proofs.Common.{◌≡◌, ℕ, ℤ, List, [], ◌∷◌, Bool, true, false, Option, Some, None, Ok, Err, refl, sym, subst, true≢false, inl, inr}
use Rattle.std.specs.Prelude.{Contains, option_and_then, is_some, is_none}
use Rattle.c_types_base.proofs.TypeTrees.{type_made}
use Rattle.c_tree.specs.declared.raw.expr.RawExpr.{RawExpr}
use Rattle.c_tree.specs.declared.raw.expr.RawType.{RawType}
use Rattle.c_tree.specs.declared.raw.expr.RawVar.{RawVar}
use Rattle.c_tree.specs.declared.raw.program.RawInit.{RawInit}
use Rattle.c_tree.specs.declared.raw.program.RawMember.{RawMember}
use Rattle.c_tree.specs.declared.raw.program.RawProgram.{RawProgram}
use Rattle.c_language.specs.Words.{Bytes}
use Rattle.c_language.specs.ConstantEvaluation.{value_of_constant}
use Rattle.c_language.specs.DeclaredTypes.{struct_id, positive, type_with, written_type, variable_type, item_count}
use Rattle.c_language.specs.Phrases.{Stand}
use Rattle.c_language.specs.Scopes.{Scope, meaning_in, meaning_here}
use Rattle.c_language.specs.Uses.{lengths_in, tags_in}
use Rattle.c_language.proofs.Lists.{contains_nil, contains_cons}
use Rattle.c_types_checks.specs.Checking.{Verdict, kept, unless_broken, given_or, then_kept, all_kept, check_expr}
use Rattle.c_types_checks.specs.DeclarationChecks.{check_tag, check_count, check_length, check_type, check_fresh, check_member, check_declared}
use Rattle.c_types_checks.proofs.TestLemmas.{is_nothing_too}
use Rattle.c_language.specs.Options.{IsThere}

-- a fault isn't a check that is passed
refused : {n : ℕ} {A : Type 0} → ◌≡◌ {A = Verdict} (Err n) kept → A
refused h = absurd (subst (λ (v : Verdict). is_fault v) h tt)
  where
    is_fault : Verdict → Type 0
    is_fault (Ok x) = ⊥
    is_fault (Err n) = Unit {0}

pub first_kept : (v w : Verdict) → then_kept v w ≡ kept → v ≡ kept
first_kept (Ok x) w h = refl
first_kept (Err n) w h = h

pub second_kept : (v w : Verdict) → then_kept v w ≡ kept → w ≡ kept
second_kept (Ok x) w h = h
second_kept (Err n) w h = refused h

pub test_passed : (b : Bool) (n : ℕ) (rest : Verdict) → unless_broken b n rest ≡ kept → b ≡ true
test_passed true n rest h = refl
test_passed false n rest h = refused h

rest_kept : (b : Bool) (n : ℕ) (rest : Verdict) → unless_broken b n rest ≡ kept → rest ≡ kept
rest_kept true n rest h = h
rest_kept false n rest h = refused h

each_kept : {A : Type 0} (f : A → Verdict) (xs : List A) → all_kept f xs ≡ kept → (x : A) → Contains xs x → f x ≡ kept
each_kept f [] h x c = absurd (contains_nil x c)
each_kept f (y ∷ xs) h x c = elim (contains_cons y x xs c) [
  | inl same ↦ subst (λ z. f z ≡ kept) same (first_kept (f y) (all_kept f xs) h)
  | inr c ↦ each_kept f xs (second_kept (f y) (all_kept f xs) h) x c
]

there_if : {A : Type 0} (o : Option A) → is_some o ≡ true → IsThere o
there_if None h = absurd (true≢false (sym h))
there_if (Some x) h = tt

module _ (raw : RawProgram) (items : ℕ) where
  module _ (scope : Scope) where
    counted : (v : Option ℤ) → given_or 10 (check_count raw scope) v ≡ kept → IsThere (option_and_then positive v)
    counted None h = refused h
    counted (Some z) h = there_if (positive z) (test_passed (is_some (positive z)) 9 kept h)

    length_kept : (e : RawExpr) → check_length raw scope e ≡ kept → IsThere (option_and_then positive (value_of_constant e))
    length_kept e h = counted (value_of_constant e) (second_kept (check_expr raw scope e) _ h)

    tag_kept : (t : Bytes) → check_tag raw scope t ≡ kept → IsThere (struct_id raw t)
    tag_kept t h = there_if (struct_id raw t) (test_passed (is_some (struct_id raw t)) 7 kept h)

    -- a type that passes its check is a type
    pub type_there : (t : RawType) → check_type raw scope t ≡ kept → IsThere (type_with raw items t)
    type_there t h =
        (type_made raw items t (λ w c. tag_kept w (each_kept (check_tag raw scope) (tags_in t) (second_kept (all_kept (check_length raw scope) (lengths_in t)) _ h) w c))
        (λ e c. length_kept e (each_kept (check_length raw scope) (lengths_in t) (first_kept (all_kept (check_length raw scope) (lengths_in t)) _ h) e c))).typed

module _ (raw : RawProgram) (scope : Scope) where
  pub declared_there : (stand : Stand) (v : RawVar) (i : RawInit) → check_declared raw scope stand v i ≡ kept → IsThere (variable_type raw v i)
  declared_there stand v i h = type_there raw (item_count i) scope v.shape (first_kept (check_type raw scope v.shape) _ h)

  fresh_new : (name : Bytes) → check_fresh raw scope name ≡ kept → meaning_in scope name ≡ None
  fresh_new name h =
      is_nothing_too (meaning_in scope name) (test_passed (is_none (meaning_in scope name)) 3 _ (rest_kept (is_none (meaning_here scope name)) 2 _ h))

  pub declared_new : (stand : Stand) (v : RawVar) (i : RawInit) → check_declared raw scope stand v i ≡ kept → meaning_in scope v.name ≡ None
  declared_new stand v i h = fresh_new v.name (first_kept (check_fresh raw scope v.name) _ (second_kept (check_type raw scope v.shape) _ h))

  pub member_there : (before : List RawMember) (m : RawMember) → check_member raw scope before m ≡ kept → IsThere (written_type raw m.shape)
  member_there before m h = type_there raw 0 scope m.shape (first_kept (check_type raw scope m.shape) _ h)
