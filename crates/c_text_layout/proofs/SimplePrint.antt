-- The words of calls, allocations and simple statements: how they are joined, and the tokens of their marks.
use Rattle.std.proofs.Common.{◌≡◌, ℕ, [], ◌∷◌, ◌++◌, length, append_assoc, refl, sym, ap, ◌∙◌, subst, Bool, true, false, codes, Option, Some, None}
use Rattle.c_arith.specs.declared.operators.BinaryOp.{BinaryOp}
use Rattle.c_arith.specs.declared.operators.BinaryOp.TheVariants.{Mul, Div, Rem, Add, Sub, Shl, Shr, Less, Greater, AtMost, AtLeast, Equal, Unequal, And, Xor, Or}
use Rattle.c_tree.specs.declared.raw.statement.RawAmount.{RawAmount}
use Rattle.c_language.specs.Words.{Bytes, assign_sign, bump_sign}
use Rattle.c_language.specs.Layout.{call_words, Laid}
use Rattle.c_language.specs.TokenForms.{Tokens, mark}
use Rattle.c_language.specs.StatementGrammar.{assigns_by}
use Rattle.c_language.specs.Tokens.{name_goes_on, is_mark, IsTokens}
use Rattle.c_language.specs.declared.token.Before.{Before}
use Rattle.c_language.specs.declared.token.Before.TheVariants.{Token}
use Rattle.c_text_layout.specs.RawLayout.{raw_amount_words}
use Rattle.c_text_layout.proofs.TokenPrint.{print_blank, is_sure, print_mark, Stops}

-- ---- arguments

-- tokens of the bytes that have this property
pub record Has (line : ℕ) (bytes : Bytes) (Is : Tokens → Type 0) : Type 0 where
  pub tokens : Tokens
  pub lexed : (before : Before) → IsTokens before line bytes tokens
  pub is : Is tokens

pub has_as : {line : ℕ} {x y : Bytes} {Is : Tokens → Type 0} → x ≡ y → Has line y Is → Has line x Is
has_as {line} {Is = Is} e h = subst (λ (z : Bytes). Has line z Is) (sym e) h

pub call_join : (f x more : Bytes) → (f ++ (40 ∷ (x ++ codes ")"))) ++ more ≡ f ++ (40 ∷ (x ++ (41 ∷ more)))
call_join f x more = append_assoc f _ more ∙ ap (λ (z : Bytes). f ++ (40 ∷ z)) (append_assoc x (codes ")") more)

-- ---- allocations

pub print_times : {before : Before} {line : ℕ} {rest : Bytes} {ts : Tokens} → IsTokens Token line rest ts → IsTokens before line (codes " * " ++ rest) (mark (codes "*") line ∷ ts)
print_times h = print_blank (print_mark (codes "*") refl refl (print_blank h))

abbrev pub malloc_words : RawAmount → Bytes
malloc_words n = call_words (codes "malloc") (raw_amount_words n ∷ [])

pub cast_join : (x y more : Bytes) → ((40 ∷ (x ++ codes ")")) ++ y) ++ more ≡ 40 ∷ (x ++ (41 ∷ (y ++ more)))
cast_join x y more = ap (λ (z : Bytes). 40 ∷ z) (ap (λ (z : Bytes). z ++ more) (append_assoc x (codes ")") y) ∙ append_assoc x (41 ∷ y) more)

-- ---- places and the operators behind them

pub bump_stops : (up : Bool) (more : Bytes) → Stops name_goes_on (bump_sign up ++ more)
bump_stops true more = λ b. refl
bump_stops false more = λ b. refl

pub assign_mark : (op : Option BinaryOp) → assigns_by op ≡ true → is_mark (assign_sign op) ≡ true
assign_mark None h = refl
assign_mark (Some Mul) h = refl
assign_mark (Some Div) h = refl
assign_mark (Some Rem) h = refl
assign_mark (Some Add) h = refl
assign_mark (Some Sub) h = refl
assign_mark (Some Shl) h = refl
assign_mark (Some Shr) h = refl
assign_mark (Some Less) h = absurd cc
assign_mark (Some Greater) h = absurd cc
assign_mark (Some AtMost) h = absurd cc
assign_mark (Some AtLeast) h = absurd cc
assign_mark (Some Equal) h = absurd cc
assign_mark (Some Unequal) h = absurd cc
assign_mark (Some And) h = refl
assign_mark (Some Xor) h = refl
assign_mark (Some Or) h = refl

pub assign_sure : (op : Option BinaryOp) (rest : Bytes) → assigns_by op ≡ true → is_sure (length (assign_sign op)) (assign_sign op ++ (32 ∷ rest)) ≡ true
assign_sure None rest h = refl
assign_sure (Some Mul) rest h = refl
assign_sure (Some Div) rest h = refl
assign_sure (Some Rem) rest h = refl
assign_sure (Some Add) rest h = refl
assign_sure (Some Sub) rest h = refl
assign_sure (Some Shl) rest h = refl
assign_sure (Some Shr) rest h = refl
assign_sure (Some Less) rest h = absurd cc
assign_sure (Some Greater) rest h = absurd cc
assign_sure (Some AtMost) rest h = absurd cc
assign_sure (Some AtLeast) rest h = absurd cc
assign_sure (Some Equal) rest h = absurd cc
assign_sure (Some Unequal) rest h = absurd cc
assign_sure (Some And) rest h = refl
assign_sure (Some Xor) rest h = refl
assign_sure (Some Or) rest h = refl

pub print_equals : {before : Before} {line : ℕ} {rest : Bytes} {ts : Tokens} → IsTokens Token line rest ts → IsTokens before line (codes " = " ++ rest) (mark (codes "=") line ∷ ts)
print_equals h = print_blank (print_mark (codes "=") refl refl (print_blank h))

pub print_bump : {before : Before} {line : ℕ} {rest : Bytes} {ts : Tokens} (up : Bool) → IsTokens Token line rest ts → IsTokens before line (bump_sign up ++ rest) (mark (bump_sign up) line ∷ ts)
print_bump true h = print_mark (codes "++") refl refl h
print_bump false h = print_mark (codes "--") refl refl h

-- ---- simple statements

pub assign_join : (x y more : Bytes) (op : Option BinaryOp) → (x ++ (32 ∷ (assign_sign op ++ (32 ∷ y)))) ++ more ≡ x ++ (32 ∷ (assign_sign op ++ (32 ∷ (y ++ more))))
assign_join x y more op = append_assoc x _ more ∙ ap (λ (z : Bytes). x ++ (32 ∷ z)) (append_assoc (assign_sign op) (32 ∷ y) more)

pub store_join : (x y more : Bytes) → ((x ++ codes " = ") ++ y) ++ more ≡ x ++ (codes " = " ++ (y ++ more))
store_join x y more = ap (λ (z : Bytes). z ++ more) (append_assoc x (codes " = ") y) ∙ append_assoc x (codes " = " ++ y) more

pub words_of : {x y : Laid} (more : Bytes) → x ≡ y → x.words ++ more ≡ y.words ++ more
words_of more e = ap (λ (l : Laid). l.words ++ more) e
