-- The scopes of a text and those of a thinner one.
use Rattle.std.proofs.Common.{◌≡◌, ℕ, List, [], ◌∷◌, ◌++◌, length, take, drop, Bool, true, false, Option, Some, None, refl, sym, ap, subst, ◌∙◌}
use Rattle.std.specs.Prelude.{option_map, if◌then◌else◌, bytes_eq}
use Rattle.std.proofs.lemmas.List.{take-append-drop}
use Rattle.std.proofs.Math.Seq.{drop-append_seam}
use Rattle.c_language.specs.Words.{Bytes}
use Rattle.c_language.specs.Scopes.{Meaning, Entry, found_in}
use Rattle.c_language.specs.declared.expr_type.ExprType.{ExprType}
use Rattle.c_language.proofs.Options.{none_there, some_same}
use Rattle.c_language.proofs.Tests.{false_true}
use Rattle.c_language.proofs.Lists.{same_bytes}
use Rattle.c_scope_laws.specs.Agreement.{moved_meaning, IsVariable}
use Rattle.kept_numbers.specs.Ranks.{rank}
use Rattle.projection.specs.Kept.{Kept}
use Rattle.c_scope_laws.specs.Thinning.{name_stays, found, EntryStays}
use Rattle.c_scope_laws.specs.Following.{moved_entry, kept_more, kept_entries}
use Rattle.c_scope_laws.proofs.Meanings.{function_variable}

no_variable : {A : Type 0} {id : ℕ} {t : Option ExprType} → ◌≡◌ {A = Option Meaning} (Some Meaning.Function) (Some (Meaning.Variable id t)) → A
no_variable h = function_variable (some_same h)

module _ (k : Kept Bytes) where
  kept_more-append : (b : Bool) (e : Entry) (xs ys : List Entry) → kept_more k b e (xs ++ ys) ≡ kept_more k b e xs ++ ys
  kept_more-append true e xs ys = refl
  kept_more-append false e xs ys = refl

  pub kept-append : (xs ys : List Entry) → kept_entries k (xs ++ ys) ≡ kept_entries k xs ++ kept_entries k ys
  kept-append [] ys = refl
  kept-append (e ∷ xs) ys = ap (kept_more k (name_stays k e.name e.meaning) e) (kept-append xs ys) ∙ kept_more-append (name_stays k e.name e.meaning) e (kept_entries k xs) (kept_entries k ys)

  -- what is dropped in front leaves what stays of the rest
  pub kept-drop : (n : ℕ) (xs : List Entry) → drop (length (kept_entries k (take n xs))) (kept_entries k xs) ≡ kept_entries k (drop n xs)
  kept-drop n xs =
      ap (λ (all : List Entry). drop (length (kept_entries k (take n xs))) (kept_entries k all)) (sym (take-append-drop n xs))
      ∙ ap (drop (length (kept_entries k (take n xs)))) (kept-append (take n xs) (drop n xs))
      ∙ drop-append_seam (kept_entries k (take n xs)) (kept_entries k (drop n xs))

  -- ---- what is found

  abbrev meaning_of : Option Entry → Option Meaning
  meaning_of o = option_map (λ (e : Entry). e.meaning) o

  abbrev pick : Bool → Entry → Option Entry → Option Entry
  pick b e rest = if b then Some e else rest

  pub found_kept : (x : Bytes) (xs : List Entry) → EntryStays k (found x xs) → found_in x (kept_entries k xs) ≡ option_map (moved_meaning (rank k.variable)) (found_in x xs)
  found_kept x [] h = refl
  found_kept x (e ∷ rest) h = by_name (bytes_eq x e.name) refl (name_stays k e.name e.meaning) refl h (found_kept x rest)
    where
      by_name : (b : Bool) → bytes_eq x e.name ≡ b → (c : Bool) → name_stays k e.name e.meaning ≡ c → EntryStays k (pick b e (found x rest))
          → (EntryStays k (found x rest) → found_in x (kept_entries k rest) ≡ option_map (moved_meaning (rank k.variable)) (found_in x rest))
          → meaning_of (found x (kept_more k c e (kept_entries k rest))) ≡ option_map (moved_meaning (rank k.variable)) (meaning_of (pick b e (found x rest)))
      by_name true is true kept h later = ap (λ (b : Bool). meaning_of (pick b (moved_entry k e) (found x (kept_entries k rest)))) is
      by_name true is false gone h later = false_true (sym gone ∙ h)
      by_name false is true kept h later = ap (λ (b : Bool). meaning_of (pick b (moved_entry k e) (found x (kept_entries k rest)))) is ∙ later h
      by_name false is false gone h later = later h

  pub none_kept : (x : Bytes) (xs : List Entry) → found_in x xs ≡ None → found_in x (kept_entries k xs) ≡ None
  none_kept x xs h = by_found (found x xs) refl h
    where
      by_found : (o : Option Entry) → found x xs ≡ o → meaning_of o ≡ None → found_in x (kept_entries k xs) ≡ None
      by_found None is h = found_kept x xs (subst (EntryStays k) (sym is) tt) ∙ ap (option_map (moved_meaning (rank k.variable))) (ap meaning_of is)
      by_found (Some e) is h = none_there (sym h)

  -- a variable that stays was a variable before, where no function of its name goes
  pub found_variable : (x : Bytes) (xs : List Entry) → k.function x ≡ true → IsVariable (found_in x (kept_entries k xs)) → IsVariable (found_in x xs)
  found_variable x [] is h = h
  found_variable x (e ∷ rest) is h = by_name (bytes_eq x e.name) refl e.meaning refl (found_variable x rest is) h
    where
      by_name : (b : Bool) → bytes_eq x e.name ≡ b → (m : Meaning) → e.meaning ≡ m → (IsVariable (found_in x (kept_entries k rest)) → IsVariable (found_in x rest))
          → IsVariable (meaning_of (found x (kept_more k (name_stays k e.name e.meaning) e (kept_entries k rest)))) → IsVariable (meaning_of (pick b e (found x rest)))
      by_name true same (Meaning.Variable id t) means later h = (id, t, ap Some means)
      by_name true same Meaning.Function means later h =
          let name = same_bytes x e.name same in
          let function : k.function e.name ≡ true = ap k.function (sym name) ∙ is in
          let kept : name_stays k e.name e.meaning ≡ true = ap (name_stays k e.name) means ∙ function in
          let found_here : found_in x (kept_more k (name_stays k e.name e.meaning) e (kept_entries k rest)) ≡ Some (moved_meaning (rank k.variable) e.meaning) =
          ap (λ (b : Bool). found_in x (kept_more k b e (kept_entries k rest))) kept ∙ ap (λ (b : Bool). meaning_of (pick b (moved_entry k e) (found x (kept_entries k rest)))) same in
          no_variable (ap Some (ap (moved_meaning (rank k.variable)) (sym means)) ∙ sym found_here ∙ h.2)
      by_name false other m means later h = later (by_kept (name_stays k e.name e.meaning) h)
        where
          by_kept : (c : Bool) → IsVariable (meaning_of (found x (kept_more k c e (kept_entries k rest)))) → IsVariable (found_in x (kept_entries k rest))
          by_kept true h = subst (λ (b : Bool). IsVariable (meaning_of (pick b (moved_entry k e) (found x (kept_entries k rest))))) other h
          by_kept false h = h

  -- a function that is named stays
  pub found_function : (x : Bytes) (xs : List Entry) → k.function x ≡ true → found_in x xs ≡ Some Meaning.Function → found_in x (kept_entries k xs) ≡ Some Meaning.Function
  found_function x [] is h = none_there h
  found_function x (e ∷ rest) is h = by_name (bytes_eq x e.name) refl (found_function x rest is) h
    where
      by_kept : (c : Bool) → bytes_eq x e.name ≡ false → found_in x (kept_more k c e (kept_entries k rest)) ≡ found_in x (kept_entries k rest)
      by_kept true other = ap (λ (b : Bool). meaning_of (pick b (moved_entry k e) (found x (kept_entries k rest)))) other
      by_kept false other = refl

      by_name : (b : Bool) → bytes_eq x e.name ≡ b → (found_in x rest ≡ Some Meaning.Function → found_in x (kept_entries k rest) ≡ Some Meaning.Function)
          → meaning_of (pick b e (found x rest)) ≡ Some Meaning.Function → found_in x (kept_more k (name_stays k e.name e.meaning) e (kept_entries k rest)) ≡ Some Meaning.Function
      by_name true same later h =
          let name = same_bytes x e.name same in
          let means : e.meaning ≡ Meaning.Function = some_same h in
          let kept : name_stays k e.name e.meaning ≡ true = ap (name_stays k e.name) means ∙ ap k.function (sym name) ∙ is in
          ap (λ (b : Bool). found_in x (kept_more k b e (kept_entries k rest))) kept ∙ ap (λ (b : Bool). meaning_of (pick b (moved_entry k e) (found x (kept_entries k rest)))) same
          ∙ ap (λ (m : Meaning). Some (moved_meaning (rank k.variable) m)) means
      by_name false other later h = by_kept (name_stays k e.name e.meaning) other ∙ later h
