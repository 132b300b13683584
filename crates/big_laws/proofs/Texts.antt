-- The text of a generated program is the layout of its tree.
use Rattle.std.proofs.Common.{◌≡◌, ℕ, zero, suc, Bool, true, false, List, [], ◌∷◌, ◌++◌, append_assoc, append-nil, Option, Some, None, refl, sym, ap, ◌∙◌, decimal, arith}
use Rattle.std.specs.Prelude.{codes}
use Rattle.std.proofs.lemmas.Fmt.{decimal_digit}
use Rattle.c_arith.specs.declared.int_type.IntType.TheVariants.{Int}
use Rattle.c_tree.specs.declared.raw.program.RawItem.{RawItem}
use Rattle.c_language.specs.Layout.{line}
use Rattle.c_text_layout.specs.RawLayout.{raw_laid, raw_body_lines, raw_head_words, raw_item_lines, raw_items_lines, raw_layout}
use Rattle.c_text_layout.proofs.RawStatementLemmas.{raw_laid-Declare, raw_laid-Assign, raw_laid-Call, raw_laid-Return}
use Rattle.c_text_layout.proofs.RawTypeLemmas.{raw_base-Integer, raw_stars-Integer, raw_lengths-Integer}
use Rattle.c_text_layout.proofs.RawWordLemmas.{spaced_words-Constant, spaced_words-Variable, spaced_words-Binary}
use Rattle.big_programs.specs.declared.choices.Call.{Call}
use Rattle.big_programs.specs.declared.choices.Choices.{Choices}
use Rattle.big_programs.specs.Draws.{choices_drawn, state_before}
use Rattle.big_programs.specs.Generated as text
use Rattle.big_programs.specs.Generated.{Bytes}
use Rattle.big_laws.specs.Trees.{local_statement, store_statement, made_call, call_statements, sum_statement, return_statement, function_body, function_head, function_item, function_items, opening_items, result_statement, print_statement, main_head, main_item, generated_tree}

-- ---- pieces of text, joined from the left as the layout does, or from the right

two_behind : (d x y z : Bytes) → ((d ++ x) ++ y) ++ z ≡ d ++ (x ++ (y ++ z))
two_behind d x y z = simp append_assoc

four_behind : (d x f y z w : Bytes) → ((d ++ (x ++ (f ++ y))) ++ z) ++ w ≡ d ++ (x ++ (f ++ (y ++ (z ++ w))))
four_behind d x f y z w = simp append_assoc

-- ---- the lines of a function

head_laid : (number : ℕ) → line 0 (raw_head_words (function_head number) ++ codes " {") ≡ text.head_line number
head_laid number =
    rw (raw_base-Integer Int, raw_stars-Integer Int, raw_lengths-Integer 0 Int)
    (ap (λ (t : Bytes). codes "int f" ++ t) (two_behind (decimal number) (codes "(int a, int b)") (codes " {") (10 ∷ [])))

local_laid : (added : ℕ) → (raw_laid (local_statement added)).lines 1 ≡ text.local_line added
local_laid added =
    rw (raw_laid-Declare, raw_base-Integer Int, raw_stars-Integer Int, raw_lengths-Integer 0 Int, spaced_words-Binary, spaced_words-Variable, spaced_words-Constant)
    (ap (λ (t : Bytes). codes "    int t = a + " ++ t) (append_assoc (decimal added) (codes ";") (10 ∷ [])))

store_laid : (stored : ℕ) → (raw_laid (store_statement stored)).lines 1 ≡ text.store_line stored
store_laid stored =
    rw (raw_laid-Assign, spaced_words-Variable, spaced_words-Variable)
    (ap (λ (t : Bytes). codes "    g" ++ t) (two_behind (decimal stored) (codes " = t") (codes ";") (10 ∷ [])))

call_laid : (c : Call) → (raw_laid (made_call c)).lines 1 ≡ text.made_call_line c
call_laid c =
    rw (raw_laid-Call, spaced_words-Variable, spaced_words-Variable)
    (ap (λ (t : Bytes). codes "    t = f" ++ t) (four_behind (decimal c.function) (codes "(t, g") (decimal c.global) (codes ")") (codes ";") (10 ∷ [])))

sum_laid : (summed : ℕ) → (raw_laid (sum_statement summed)).lines 1 ≡ text.sum_line summed
sum_laid summed =
    rw (raw_laid-Assign, spaced_words-Variable, spaced_words-Binary, spaced_words-Variable, spaced_words-Variable)
    (ap (λ (t : Bytes). codes "    b = b + g" ++ t) (append_assoc (decimal summed) (codes ";") (10 ∷ [])))

return_laid : (local : Bool) → (raw_laid (return_statement local)).lines 1 ≡ text.return_line local
return_laid true = rw (raw_laid-Return, spaced_words-Variable) refl
return_laid false = rw (raw_laid-Return, spaced_words-Variable) refl

-- ---- a function

four_pieces : (a b c d e p q r s : Bytes) → a ≡ p → b ≡ q → c ≡ r → d ≡ s → (a ++ (b ++ (c ++ (d ++ [])))) ++ e ≡ p ++ (q ++ (r ++ (s ++ e)))
four_pieces a b c d e p q r s one two three four =
    let whole : (a ++ (b ++ (c ++ (d ++ [])))) ++ e ≡ a ++ (b ++ (c ++ (d ++ e))) = simp append_assoc in
    cc

five_pieces : (a b c d f e p q r s t : Bytes) → a ≡ p → b ≡ q → c ≡ r → d ≡ s → f ≡ t → (a ++ (b ++ (c ++ (d ++ (f ++ []))))) ++ e ≡ p ++ (q ++ (r ++ (s ++ (t ++ e))))
five_pieces a b c d f e p q r s t one two three four five =
    let whole : (a ++ (b ++ (c ++ (d ++ (f ++ []))))) ++ e ≡ a ++ (b ++ (c ++ (d ++ (f ++ e)))) = simp append_assoc in
    cc

two_pieces : (a b p q : Bytes) → a ≡ p → b ≡ q → a ++ b ≡ p ++ q
two_pieces a b p q one two = cc

body_laid : (c : Choices) → raw_body_lines 1 (function_body c) ++ text.end_line
    ≡ text.local_line c.added ++ (text.store_line c.stored ++ (text.call_line c.call ++ (text.sum_line c.summed ++ (text.return_line c.returns_local ++ text.end_line))))
body_laid c = with_call c.call where
  with_call : (made : Option Call)
      → raw_body_lines 1 (local_statement c.added ∷ (store_statement c.stored ∷ (call_statements made ++ (sum_statement c.summed ∷ (return_statement c.returns_local ∷ []))))) ++ text.end_line
      ≡ text.local_line c.added ++ (text.store_line c.stored ++ (text.call_line made ++ (text.sum_line c.summed ++ (text.return_line c.returns_local ++ text.end_line))))
  with_call None =
      four_pieces _ _ _ _ text.end_line (text.local_line c.added) (text.store_line c.stored) (text.sum_line c.summed) (text.return_line c.returns_local)
      (local_laid c.added) (store_laid c.stored) (sum_laid c.summed) (return_laid c.returns_local)
  with_call (Some call) =
      five_pieces _ _ _ _ _ text.end_line (text.local_line c.added) (text.store_line c.stored) (text.made_call_line call) (text.sum_line c.summed) (text.return_line c.returns_local)
      (local_laid c.added) (store_laid c.stored) (call_laid call) (sum_laid c.summed) (return_laid c.returns_local)

function_laid : (number : ℕ) (c : Choices) → raw_item_lines (function_item number c) ≡ text.function_lines number c
function_laid number c =
    two_pieces (line 0 (raw_head_words (function_head number) ++ codes " {")) (raw_body_lines 1 (function_body c) ++ text.end_line) (text.head_line number) _ (head_laid number) (body_laid c)

-- ---- items one after another

items_joined : (xs ys : List RawItem) → raw_items_lines (xs ++ ys) ≡ raw_items_lines xs ++ raw_items_lines ys
items_joined [] ys = refl
items_joined (x ∷ xs) ys =
    ap (λ (t : Bytes). raw_item_lines x ++ t) (items_joined xs ys) ∙ sym (append_assoc (raw_item_lines x) (raw_items_lines xs) (raw_items_lines ys))

functions_laid : (x n : ℕ) → raw_items_lines (function_items x n) ≡ text.first_functions x n
functions_laid x zero = refl
functions_laid x (suc n) =
    let c = choices_drawn n (state_before x n) in
    items_joined (function_items x n) (function_item (suc n) c ∷ [])
    ∙ two_pieces (raw_items_lines (function_items x n)) (raw_item_lines (function_item (suc n) c) ++ []) (text.first_functions x n) (text.function_lines (suc n) c)
    (functions_laid x n) (append-nil (raw_item_lines (function_item (suc n) c)) ∙ function_laid (suc n) c)

opening_laid : raw_items_lines opening_items ≡ text.opening_lines
opening_laid =
    rw (raw_base-Integer Int, raw_stars-Integer Int, raw_lengths-Integer 0 Int, decimal_digit 0 (omega arith), decimal_digit 1 (omega arith), decimal_digit 2 (omega arith), decimal_digit 3 (omega arith)) refl

-- ---- main

result_laid : (size : ℕ) → (raw_laid (result_statement size)).lines 1 ≡ text.result_line size
result_laid size =
    rw (raw_laid-Call, raw_base-Integer Int, raw_stars-Integer Int, raw_lengths-Integer 0 Int, spaced_words-Constant, spaced_words-Constant)
    (ap (λ (t : Bytes). codes "    int r = f" ++ t) (two_behind (decimal size) (codes "(1, 2)") (codes ";") (10 ∷ [])))

print_laid : (raw_laid print_statement).lines 1 ≡ text.print_line
print_laid = rw (raw_laid-Call, spaced_words-Variable) refl

main_head_laid : line 0 (raw_head_words main_head ++ codes " {") ≡ text.main_line
main_head_laid = rw (raw_base-Integer Int, raw_stars-Integer Int) refl

three_pieces : (a b c e p q r : Bytes) → a ≡ p → b ≡ q → c ≡ r → a ++ ((b ++ (c ++ [])) ++ e) ≡ p ++ (q ++ (r ++ e))
three_pieces a b c e p q r one two three =
    let whole : a ++ ((b ++ (c ++ [])) ++ e) ≡ a ++ (b ++ (c ++ e)) = simp append_assoc in
    cc

main_laid : (size : ℕ) → raw_item_lines (main_item size) ≡ text.main_lines size
main_laid size =
    three_pieces (line 0 (raw_head_words main_head ++ codes " {")) ((raw_laid (result_statement size)).lines 1) ((raw_laid print_statement).lines 1) text.end_line
    text.main_line (text.result_line size) text.print_line main_head_laid (result_laid size) print_laid

-- ---- the whole

pub text_is_layout : (seed size : ℕ) → raw_layout (generated_tree seed size) ≡ text.generated seed size
text_is_layout seed size =
    items_joined opening_items (function_items seed size ++ (main_item size ∷ []))
    ∙ two_pieces (raw_items_lines opening_items) (raw_items_lines (function_items seed size ++ (main_item size ∷ []))) text.opening_lines _ opening_laid
    (items_joined (function_items seed size) (main_item size ∷ [])
    ∙ two_pieces (raw_items_lines (function_items seed size)) (raw_item_lines (main_item size) ++ []) (text.first_functions seed size) (text.main_lines size)
    (functions_laid seed size) (append-nil (raw_item_lines (main_item size)) ∙ main_laid size))
