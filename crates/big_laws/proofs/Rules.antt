-- A generated program breaks no rule.
use Rattle.std.proofs.Common.{◌≡◌, ℕ, zero, suc, ◌+◌, ◌<◌, ◌≤◌, ◌^◌, false, List, [], ◌∷◌, ◌++◌, append_assoc, Option, None, refl, sym, ap, subst, ◌∙◌, arith}
use Rattle.std.proofs.lemmas.Fmt.{decimal_digit}
use Rattle.c_tree.specs.declared.raw.program.RawInit.TheVariants as init
use Rattle.c_tree.specs.declared.raw.program.RawItem.{RawItem}
use Rattle.c_tree.specs.declared.raw.program.RawProgram.{RawProgram}
use Rattle.c_arith.specs.declared.int_type.IntType.TheVariants.{Int}
use Rattle.c_language.specs.Phrases.{InFile, Declares, item_phrases, items_phrases, after_item, after_items, phrases, scope_at_end}
use Rattle.c_language.specs.Rules.{IsBroken, KeepsRules}
use Rattle.c_language.specs.Scopes.{Scope, Entry, Meaning, outset, found_in, with_entry, with_variable}
use Rattle.c_language.specs.Uses.{is_library_name}
use Rattle.c_language.specs.declared.expr_type.ExprType.{ExprType}
use Rattle.c_types_base.proofs.TypedLaws.{IsTyped}
use Rattle.c_types_base.proofs.TypeLemmas.{type_with-Integer}
use Rattle.big_programs.specs.Draws.{choices_drawn, state_before}
use Rattle.big_laws.specs.Trees.{global_name, variable, global_item, opening_items, function_item, function_items, main_item, generated_tree}
use Rattle.big_laws.proofs.Bounds.{choices_within}
use Rattle.big_laws.proofs.Names.{variable_entry}
use Rattle.big_laws.proofs.Heads.{main_defined}
use Rattle.big_laws.proofs.Typed.{typed_at}
use Rattle.big_laws.proofs.Checks as check
use Rattle.big_laws.proofs.Good.{AreGood, good, good_joined, good_among}
use Rattle.big_laws.proofs.Places.{outside}
use Rattle.big_laws.proofs.Functions.{function_good}
use Rattle.big_laws.proofs.Mains.{main_good, main_numbered}

-- behind the first v globals
abbrev opens : List Entry → ℕ → Scope
opens names v = record { names = names; outer = 0; owner = None; structs = 0; functions = 0; variables = v; statements = 0 }

abbrev entry : ℕ → Entry
entry q = variable_entry q (global_name q)

module _ (seed last : ℕ) (small : suc last < 2 ^ 64) where
  abbrev size : ℕ
  size = suc last

  abbrev raw : RawProgram
  raw = generated_tree seed size

  -- the items from a place on are good, and some statement is numbered by their end
  abbrev ItemsGood : List RawItem → Scope → Type 0
  ItemsGood xs place = AreGood raw (items_phrases raw xs place) × (0 < (after_items raw xs place).statements)

  -- ---- the globals

  global_good : (q v : ℕ) (names : List Entry) (rest : List RawItem) → IsTyped raw (opens names v) → found_in (global_name q) names ≡ None → is_library_name (global_name q) ≡ false
      → ItemsGood rest (opens (names ++ (variable_entry v (global_name q) ∷ [])) (v + 1)) → ItemsGood (global_item q ∷ rest) (opens names v)
  global_good q v names rest typed fresh own later =
      let more : with_variable raw (variable (global_name q)) init.None (opens names v) ≡ opens (names ++ (variable_entry v (global_name q) ∷ [])) (v + 1) =
      ap (λ (t : Option ExprType). with_entry (global_name q) (Meaning.Variable v t) (opens names (v + 1))) (type_with-Integer raw 0 Int) in
      let first = good raw (opens names v) typed (Declares (InFile false) (variable (global_name q)) init.None) (check.declared raw (opens names v) (InFile false) (global_name q) init.None refl fresh own) refl in
      let behind = subst (ItemsGood rest) (sym more) later in
      ((first, behind.0), behind.1)

  opening_good : (rest : List RawItem) → ItemsGood rest (outside 0 4 0) → ItemsGood (opening_items ++ rest) outset
  opening_good rest later =
      let zero_digit = decimal_digit 0 (omega arith) in
      let one_digit = decimal_digit 1 (omega arith) in
      let two_digit = decimal_digit 2 (omega arith) in
      let three_digit = decimal_digit 3 (omega arith) in
      global_good 0 0 [] (global_item 1 ∷ (global_item 2 ∷ (global_item 3 ∷ rest))) (typed_at raw (opens [] 0) refl refl) refl (rw zero_digit refl)
      (global_good 1 1 (entry 0 ∷ []) (global_item 2 ∷ (global_item 3 ∷ rest)) (typed_at raw (opens (entry 0 ∷ []) 1) refl refl) (rw (one_digit, zero_digit) refl) (rw one_digit refl)
      (global_good 2 2 (entry 0 ∷ (entry 1 ∷ [])) (global_item 3 ∷ rest) (typed_at raw (opens (entry 0 ∷ (entry 1 ∷ [])) 2) refl refl) (rw (two_digit, zero_digit, one_digit) refl) (rw two_digit refl)
      (global_good 3 3 (entry 0 ∷ (entry 1 ∷ (entry 2 ∷ []))) rest (typed_at raw (opens (entry 0 ∷ (entry 1 ∷ (entry 2 ∷ []))) 3) refl refl)
      (rw (three_digit, zero_digit, one_digit, two_digit) refl) (rw three_digit refl) later)))

  -- ---- the functions

  functions_good : (n : ℕ) (rest : List RawItem) → n ≤ size → ((v s : ℕ) → ItemsGood rest (outside n v s)) → ItemsGood (function_items seed n ++ rest) (outside 0 4 0)
  functions_good zero rest le later = later 4 0
  functions_good (suc n) rest le later =
      let c = choices_drawn n (state_before seed n) in
      let one = function_item (suc n) c in
      subst (λ (xs : List RawItem). ItemsGood xs (outside 0 4 0)) (sym (append_assoc (function_items seed n) (one ∷ []) rest))
      (functions_good n (one ∷ rest) (omega (arith, le)) (λ v s.
      let f = function_good seed size n small (omega (arith, le)) c (choices_within n (state_before seed n)) v s in
      let behind = subst (ItemsGood rest) (sym f.after) (later f.variables f.statements) in
      (good_joined raw (item_phrases raw one (outside n v s)) (items_phrases raw rest (after_item raw one (outside n v s))) f.good behind.0, behind.1)))

  items_good : ItemsGood (opening_items ++ (function_items seed size ++ (main_item size ∷ []))) outset
  items_good =
      opening_good (function_items seed size ++ (main_item size ∷ []))
      (functions_good size (main_item size ∷ []) (omega arith) (λ v s. (
        good_joined raw (item_phrases raw (main_item size) (outside size v s)) [] (main_good seed last small v s) tt,
        main_numbered seed last small v s,
      )))

  pub all_good : AreGood raw (phrases raw)
  all_good = items_good.0

  pub some_statement : 0 < (scope_at_end raw).statements
  some_statement = items_good.1

  pub rules_kept : KeepsRules raw
  rules_kept number line (IsBroken.by_phrase {p} c b) = (good_among raw (phrases raw) all_good p c).keeps number b
  rules_kept number line (IsBroken.no_main none) =
      let there = sym (main_defined seed size small) ∙ none in
      cc
