-- A call whose result is stored is of a function of the program that has one, and isn't main.
use Rattle.std.proofs.Common.{◌≡◌, ℕ, List, [], ◌∷◌, Bool, true, false, ◌==◌, ◌&&◌, ◌||◌, inl, inr, Option, Some, None, option_map, refl, sym, ap, ◌∙◌, eqb-true}
use Rattle.std.specs.Prelude.{not, is_some, slice_get}
use Rattle.std.specs.List.{list_all}
use Rattle.std.specs.Option.{option_map_or}
use Rattle.std.proofs.lemmas.Bool.{false≢true, true≢false, and_from, and_parts, or_cases, or_right}
use Rattle.std.proofs.lemmas.Option.{same_Some, slice_get-map}
use Rattle.c_tree.specs.declared.program.Function.{Function}
use Rattle.c_tree.specs.declared.program.Program.{Program}
use Rattle.c_language.specs.Mains.{main_of, is_main_of}
use Rattle.c_language.specs.NameRules.{is_main}
use Rattle.dep_model.specs.Doings.{Doing, Does, Calls}
use Rattle.dep_model.specs.VertexOrder.{has_result}
use Rattle.numbered_texts.specs.FittingCalls.{stores, gives, results_given, takes_result}
use Rattle.numbered_texts.proofs.CallsFit.{position_found}

abbrev given : Function → Bool
given f = is_some f.result && not (is_main f.name)

not_true : (b : Bool) → not b ≡ true → b ≡ false
not_true true h = absurd (false≢true h)
not_true false h = refl

module _ (p : Program) where
  -- a function that isn't named main isn't main
  named_otherwise : (f : ℕ) (g : Function) → slice_get p.functions f ≡ Some g → is_main g.name ≡ false → is_main_of p f ≡ false
  named_otherwise f g at other = by_main (main_of p) refl
    where
      by_place : (m : ℕ) → main_of p ≡ Some m → (b : Bool) → (m == f) ≡ b → (m == f) ≡ false
      by_place m is false h = h
      by_place m is true h =
          let found = position_found (λ (h : Function). is_main h.name) p.functions m is in
          let same : found.value ≡ g = same_Some _ _ (sym found.at ∙ ap (slice_get p.functions) (eqb-true m f h) ∙ at) in
          absurd (true≢false (sym found.passes ∙ ap (λ (h : Function). is_main h.name) same ∙ other))

      by_main : (o : Option ℕ) → main_of p ≡ o → is_main_of p f ≡ false
      by_main None is = ap (λ o. option_map_or (λ m. m == f) o false) is
      by_main (Some m) is = ap (λ o. option_map_or (λ m. m == f) o false) is ∙ by_place m is (m == f) refl

  from_function : (f : ℕ) → option_map_or (λ (b : Bool). b) (slice_get (results_given p) f) false ≡ true → (has_result p f && not (is_main_of p f)) ≡ true
  from_function f h = by_function (slice_get p.functions f) refl (sym (ap (λ o. option_map_or (λ (b : Bool). b) o false) (slice_get-map given p.functions f)) ∙ h)
    where
      by_function : (o : Option Function) → slice_get p.functions f ≡ o → option_map_or (λ (b : Bool). b) (option_map given o) false ≡ true → (has_result p f && not (is_main_of p f)) ≡ true
      by_function None at h = absurd (false≢true h)
      by_function (Some g) at h =
          let k = and_parts (is_some g.result) (not (is_main g.name)) h in
          and_from _ _ (ap (λ o. option_map_or (λ (h : Function). is_some h.result) o false) at ∙ k.0) (ap not (named_otherwise f g at (not_true (is_main g.name) k.1)))

  one_taken : (d : Doing) → gives (results_given p) d ≡ true → takes_result p d ≡ true
  one_taken (Does i a) h = refl
  one_taken (Calls i to f args) h = elim (or_cases (not (stores to)) (option_map_or (λ (b : Bool). b) (slice_get (results_given p) f) false) h) [
    | inl t ↦ ap (λ b. b || (has_result p f && not (is_main_of p f))) t
    | inr t ↦ or_right (not (stores to)) _ (from_function f t)
  ]

  pub all_taken : (ds : List Doing) → list_all (gives (results_given p)) ds ≡ true → list_all (takes_result p) ds ≡ true
  all_taken [] h = refl
  all_taken (d ∷ ds) h =
      let k = and_parts (gives (results_given p) d) (list_all (gives (results_given p)) ds) h in
      and_from _ _ (one_taken d k.0) (all_taken ds k.1)
