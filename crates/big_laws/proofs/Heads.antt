-- The functions that a generated program defines.
use Rattle.std.proofs.Common.{◌≡◌, ℕ, zero, suc, ◌<◌, ◌≤◌, ◌^◌, Bool, false, List, [], ◌∷◌, ◌++◌, append_assoc, take, Some, refl, ap, ◌∙◌, arith}
use Rattle.std.specs.Prelude.{bytes_eq, slice_get}
use Rattle.std.specs.List.{find, list_any}
use Rattle.std.proofs.lemmas.List.Folds.{list_any-append}
use Rattle.c_tree.specs.declared.raw.program.RawHead.{RawHead}
use Rattle.c_language.specs.Words.{Bytes}
use Rattle.c_language.specs.DeclaredTypes.{function_texts, defined_functions, definition_of}
use Rattle.c_language.specs.NameRules.{main_name}
use Rattle.c_types_base.proofs.DefinitionLemmas.{functions-append}
use Rattle.big_programs.specs.Draws.{choices_drawn, state_before}
use Rattle.big_laws.specs.Trees.{function_name, function_head, function_item, function_items, main_head, main_item, generated_tree}
use Rattle.big_laws.proofs.Counted.{counted, split, first_taken, all_taken, got}
use Rattle.big_laws.proofs.Digits.{names_differ, own_name}

abbrev pub heads : ℕ → List RawHead
heads n = counted function_head n

heads_of : (x n : ℕ) → function_texts (function_items x n) ≡ heads n
heads_of x zero = refl
heads_of x (suc n) =
    functions-append (function_items x n) (function_item (suc n) (choices_drawn n (state_before x n)) ∷ [])
    ∙ ap (λ (hs : List RawHead). hs ++ (function_head (suc n) ∷ [])) (heads_of x n)

-- the functions, and main
heads_defined : (seed size : ℕ) → defined_functions (generated_tree seed size) ≡ heads size ++ (main_head ∷ [])
heads_defined seed size =
    functions-append (function_items seed size) (main_item size ∷ []) ∙ ap (λ (hs : List RawHead). hs ++ (main_head ∷ [])) (heads_of seed size)

abbrev has_name : Bytes → RawHead → Bool
has_name w f = bytes_eq f.name w

-- none of the functions has the name
none_named : (w : Bytes) (n : ℕ) → ((k : ℕ) → k ≤ n → bytes_eq (function_name k) w ≡ false) → list_any (has_name w) (heads n) ≡ false
none_named w zero apart = refl
none_named w (suc n) apart =
    list_any-append (has_name w) (heads n) (function_head (suc n) ∷ [])
    ∙ rw (none_named w n (λ k le. apart k (omega (arith, le))), apart (suc n) (omega arith)) refl

none_found : (w : Bytes) (n : ℕ) (rest : List RawHead) → ((k : ℕ) → k ≤ n → bytes_eq (function_name k) w ≡ false) → find (has_name w) (heads n ++ rest) ≡ find (has_name w) rest
none_found w zero rest apart = refl
none_found w (suc n) rest apart =
    ap (find (has_name w)) (append_assoc (heads n) (function_head (suc n) ∷ []) rest)
    ∙ none_found w n (function_head (suc n) ∷ rest) (λ k le. apart k (omega (arith, le)))
    ∙ rw (apart (suc n) (omega arith)) refl

module _ (seed size : ℕ) (small : size < 2 ^ 64) where
  -- the function in which a place stands
  pub head_at : (n : ℕ) → n < size → slice_get (defined_functions (generated_tree seed size)) n ≡ Some (function_head (suc n))
  head_at n below = ap (λ (hs : List RawHead). slice_get hs n) (heads_defined seed size) ∙ got function_head n size (main_head ∷ []) below

  -- the function with a name
  pub definition_named : (j : ℕ) → j < size → definition_of (generated_tree seed size) (function_name (suc j)) ≡ Some (function_head (suc j))
  definition_named j below =
      let w = function_name (suc j) in
      let s = split function_head j size (main_head ∷ []) below in
      ap (find (has_name w)) (heads_defined seed size ∙ s.is)
      ∙ none_found w j (function_head (suc j) ∷ s.later) (λ k le. names_differ k (suc j) (omega (arith, le, below, small)) (omega (arith, below, small)) (λ e. omega (arith, le, e)))
      ∙ rw (own_name w) refl

  pub main_defined : definition_of (generated_tree seed size) main_name ≡ Some main_head
  main_defined = ap (find (has_name main_name)) (heads_defined seed size) ∙ none_found main_name size (main_head ∷ []) (λ k le. refl)

  -- no function before has the name of the next
  pub next_is_new : (n : ℕ) → n < size → list_any (has_name (function_name (suc n))) (take n (defined_functions (generated_tree seed size))) ≡ false
  next_is_new n below =
      ap (λ (hs : List RawHead). list_any (has_name (function_name (suc n))) (take n hs)) (heads_defined seed size)
      ∙ ap (list_any (has_name (function_name (suc n)))) (first_taken function_head n size (main_head ∷ []) below)
      ∙ none_named (function_name (suc n)) n (λ k le. names_differ k (suc n) (omega (arith, le, below, small)) (omega (arith, below, small)) (λ e. omega (arith, le, e)))

  pub main_is_new : list_any (has_name main_name) (take size (defined_functions (generated_tree seed size))) ≡ false
  main_is_new =
      ap (λ (hs : List RawHead). list_any (has_name main_name) (take size hs)) (heads_defined seed size)
      ∙ ap (list_any (has_name main_name)) (all_taken function_head size (main_head ∷ []))
      ∙ none_named main_name size (λ k le. refl)
