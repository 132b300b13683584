-- The words of expressions: how they are joined, the byte that they begin with, and the tokens of operators and types in them.
use Rattle.std.proofs.Common.{◌≡◌, ℕ, ◌<◌, [], ◌∷◌, ◌++◌, length, append_assoc, refl, sym, ap, ◌∙◌, Bool, true, false, codes, arith, Contains}
use Rattle.std.proofs.lemmas.Bool.{or_left, or_right}
use Rattle.std.specs.Prelude.{◌==◌, ◌||◌, bytes_eq}
use Rattle.c_arith.specs.declared.int_type.IntType.{IntType}
use Rattle.c_arith.specs.declared.int_type.IntType.TheVariants.{Char, UChar, Short, UShort, Int, UInt, Long, ULong}
use Rattle.c_arith.specs.declared.operators.UnaryOp.{UnaryOp}
use Rattle.c_arith.specs.declared.operators.UnaryOp.TheVariants.{Plus, Minus, Flip, Not}
use Rattle.c_arith.specs.declared.operators.BinaryOp.TheVariants.{Mul, Div, Rem, Add, Sub, Shl, Shr, Less, Greater, AtMost, AtLeast, Equal, Unequal, And, Xor, Or}
use Rattle.c_tree.specs.declared.raw.expr.RawExpr.{RawExpr}
use Rattle.c_language.specs.Words.{Bytes, int_words, unary_sign, begins_with, signed}
use Rattle.c_language.specs.Characters.{is_digit, is_letter}
use Rattle.c_language.specs.Constants.{is_one_of}
use Rattle.c_language.specs.TokenForms.{Tokens, name, mark}
use Rattle.c_language.specs.Sees.{sees}
use Rattle.c_language.specs.IntWords.{spellings, spelled, sees_int_word, none, some, IsIntType, words}
use Rattle.c_language.specs.ExprGrammar.{level, sign, joint, prefix_sign, applied, selector_sign, selected}
use Rattle.c_language.specs.Tokens.{name_goes_on, IsCharacter, IsTokens, is_mark}
use Rattle.c_language.specs.declared.token.TokenKind.TheVariants.{Name, Number, Character}
use Rattle.c_language.specs.declared.token.Before.{Before}
use Rattle.c_language.specs.declared.token.Before.TheVariants.{Token}
use Rattle.c_language.specs.declared.operators.Infix.{Infix}
use Rattle.c_language.specs.declared.operators.Infix.TheVariants.{Strict, AndAlso, OrElse}
use Rattle.c_language.specs.declared.operators.Prefix.{Prefix}
use Rattle.c_language.specs.declared.operators.Prefix.TheVariants.{Sign, Deref, AddressOf}
use Rattle.c_language.specs.declared.operators.Selector.{Selector}
use Rattle.c_language.specs.declared.operators.Selector.TheVariants.{Dot, Arrow}
use Rattle.c_text_layout.specs.SpacedWords.{Spaced, blank_if, spaced, spaced_words}
use Rattle.c_text_layout.proofs.Written.{HasForm}
use Rattle.c_text_layout.proofs.RawWordLemmas.{spaced-AddressOf, spaced_words-Unary, spaced_words-Deref, spaced_words-AddressOf, spaced_words-Binary, spaced_words-AndAlso, spaced_words-OrElse, spaced_words-Member, spaced_words-Arrow}
use Rattle.c_text_layout.proofs.TokenPrint.{other_class, print_blank, is_sure, print_mark, Stops, print_name, word_form}
use Rattle.c_language.proofs.Tests.{by_answer}

-- ---- the words of operators

pub words_joint : (op : Infix) (a b : RawExpr) → spaced_words (joint op a b) ≡ spaced_words a ++ (32 ∷ (sign op ++ (32 ∷ spaced_words b)))
words_joint (Strict op) a b = spaced_words-Binary op a b
words_joint AndAlso a b = spaced_words-AndAlso a b
words_joint OrElse a b = spaced_words-OrElse a b

pub words_selected : (by : Selector) (a : RawExpr) (m : Bytes) → spaced_words (selected by a m) ≡ spaced_words a ++ (blank_if (spaced a).is_constant ++ (selector_sign by ++ m))
words_selected Dot a m = spaced_words-Member a m
words_selected Arrow a m = spaced_words-Arrow a m

-- what stands between a prefix operator and its operand, which is an address or isn't
abbrev pub gap : Prefix → Bool → Bytes → Bytes
gap (Sign Plus) b x = blank_if (begins_with 43 x)
gap (Sign Minus) b x = blank_if (begins_with 45 x)
gap (Sign Flip) b x = []
gap (Sign Not) b x = []
gap Deref b x = []
gap AddressOf b x = blank_if b

words_signed : (op : UnaryOp) (b : Bool) (x : Bytes) → signed op x ≡ unary_sign op ++ (gap (Sign op) b x ++ x)
words_signed Plus b x = by_answer (begins_with 43 x) (λ t. rw t refl) (λ f. rw f refl)
words_signed Minus b x = by_answer (begins_with 45 x) (λ t. rw t refl) (λ f. rw f refl)
words_signed Flip b x = refl
words_signed Not b x = refl

pub words_applied : (op : Prefix) (a : RawExpr) → spaced_words (applied op a) ≡ prefix_sign op ++ (gap op (spaced a).is_address (spaced_words a) ++ spaced_words a)
words_applied (Sign op) a = spaced_words-Unary op a ∙ words_signed op (spaced a).is_address (spaced_words a)
words_applied Deref a = spaced_words-Deref a
words_applied AddressOf a = spaced_words-AddressOf a

-- ---- the first byte of an expression

-- the bytes that an expression begins with: letters, digits, quotes, parentheses and prefix operators
abbrev pub begins_expr : ℕ → Bool
begins_expr b = is_letter b || (is_digit b || is_one_of (codes "'(+-~!*&") b)

-- the first byte of what is printed of an expression
pub record First (bytes : Bytes) : Type 0 where
  pub byte : ℕ
  pub more : Bytes
  pub at : bytes ≡ byte ∷ more
  pub fits : begins_expr byte ≡ true

pub first_name : (text : Bytes) → HasForm Name text → First text
first_name text (HasForm.name {b} {run} h r) = record { byte = b; more = run; at = refl; fits = or_left (is_letter b) _ h }

pub first_number : (text : Bytes) → HasForm Number text → First text
first_number text (HasForm.number {b} {run} h r k) = record { byte = b; more = run; at = refl; fits = or_right (is_letter b) _ (or_left (is_digit b) _ h) }

pub first_character : (text : Bytes) → HasForm Character text → First text
first_character text (HasForm.character (IsCharacter.plain {b} h)) = record { byte = 39; more = b ∷ codes "'"; at = refl; fits = refl }
first_character text (HasForm.character (IsCharacter.escape {b} h)) = record { byte = 39; more = 92 ∷ b ∷ codes "'"; at = refl; fits = refl }

pub first_as : {x y : Bytes} → x ≡ y → First y → First x
first_as e f = record { byte = f.byte; more = f.more; at = e ∙ f.at; fits = f.fits }

pub first_more : {x : Bytes} (y : Bytes) → First x → First (x ++ y)
first_more y f = record { byte = f.byte; more = f.more ++ y; at = ap (λ (z : Bytes). z ++ y) f.at; fits = f.fits }

pub first_prefix : (op : Prefix) (y : Bytes) → First (prefix_sign op ++ y)
first_prefix (Sign Plus) y = record { byte = 43; more = y; at = refl; fits = refl }
first_prefix (Sign Minus) y = record { byte = 45; more = y; at = refl; fits = refl }
first_prefix (Sign Flip) y = record { byte = 126; more = y; at = refl; fits = refl }
first_prefix (Sign Not) y = record { byte = 33; more = y; at = refl; fits = refl }
first_prefix Deref y = record { byte = 42; more = y; at = refl; fits = refl }
first_prefix AddressOf y = record { byte = 38; more = y; at = refl; fits = refl }

-- ---- the words of an integer type

-- tokens of the bytes, from whatever stands before them in their line, that are those of a type and then these
pub record PrintedInt (line : ℕ) (bytes : Bytes) (t : IntType) (after : Tokens) : Type 0 where
  pub tokens : Tokens
  pub lexed : (before : Before) → IsTokens before line bytes tokens
  pub is : IsIntType tokens t after
  pub no_else : sees Name (codes "else") tokens ≡ false

one_word : {line : ℕ} {more : Bytes} {after : Tokens} (t : IntType) (w : Bytes) → bytes_eq w (codes "else") ≡ false → HasForm Name w → Contains (spellings t) (w ∷ []) → Stops name_goes_on more → sees_int_word after ≡ false
    → IsTokens Token line more after → PrintedInt line (w ++ more) t after
unfolding sees
one_word {line} {after = after} t w n f c s k h =
    record { tokens = name w line ∷ after; lexed = λ before. print_name w f s h; is = words (some none) (spelled c (λ v. refl)) k; no_else = n }

two_words : {line : ℕ} {more : Bytes} {after : Tokens} (t : IntType) (v w : Bytes) → bytes_eq v (codes "else") ≡ false → HasForm Name v → HasForm Name w → Contains (spellings t) (v ∷ w ∷ []) → Stops name_goes_on more → sees_int_word after ≡ false
    → IsTokens Token line more after → PrintedInt line (v ++ (32 ∷ (w ++ more))) t after
unfolding sees
two_words {line} {after = after} t v w n f g c s k h =
    record { tokens = name v line ∷ name w line ∷ after; lexed = λ before. print_name v f (λ b. refl) (print_blank (print_name w g s h)); is = words (some (some none)) (spelled c (λ u. refl)) k; no_else = n }

pub print_int : (t : IntType) (line : ℕ) (more : Bytes) (after : Tokens) → Stops name_goes_on more → sees_int_word after ≡ false → IsTokens Token line more after
    → PrintedInt line (int_words t ++ more) t after
print_int Char line more after s k h = one_word Char (codes "char") refl (word_form (codes "char") refl) (0, omega arith, refl) s k h
print_int UChar line more after s k h = two_words UChar (codes "unsigned") (codes "char") refl (word_form (codes "unsigned") refl) (word_form (codes "char") refl) (0, omega arith, refl) s k h
print_int Short line more after s k h = one_word Short (codes "short") refl (word_form (codes "short") refl) (0, omega arith, refl) s k h
print_int UShort line more after s k h = two_words UShort (codes "unsigned") (codes "short") refl (word_form (codes "unsigned") refl) (word_form (codes "short") refl) (0, omega arith, refl) s k h
print_int Int line more after s k h = one_word Int (codes "int") refl (word_form (codes "int") refl) (0, omega arith, refl) s k h
print_int UInt line more after s k h = two_words UInt (codes "unsigned") (codes "int") refl (word_form (codes "unsigned") refl) (word_form (codes "int") refl) (1, omega arith, refl) s k h
print_int Long line more after s k h = one_word Long (codes "long") refl (word_form (codes "long") refl) (0, omega arith, refl) s k h
print_int ULong line more after s k h = two_words ULong (codes "unsigned") (codes "long") refl (word_form (codes "unsigned") refl) (word_form (codes "long") refl) (0, omega arith, refl) s k h

-- ---- an expression

sign_stops : (by : Selector) (m : Bytes) → Stops name_goes_on (selector_sign by ++ m)
sign_stops Dot m = λ b. refl
sign_stops Arrow m = λ b. refl

pub gap_stops : (by : Selector) (m : Bytes) (b : Bool) → Stops name_goes_on (blank_if b ++ (selector_sign by ++ m))
gap_stops by m true = λ b. refl
gap_stops by m false = sign_stops by m

pub level_low : (op : Infix) → level op < 12
level_low (Strict Mul) = omega arith
level_low (Strict Div) = omega arith
level_low (Strict Rem) = omega arith
level_low (Strict Add) = omega arith
level_low (Strict Sub) = omega arith
level_low (Strict Shl) = omega arith
level_low (Strict Shr) = omega arith
level_low (Strict Less) = omega arith
level_low (Strict Greater) = omega arith
level_low (Strict AtMost) = omega arith
level_low (Strict AtLeast) = omega arith
level_low (Strict Equal) = omega arith
level_low (Strict Unequal) = omega arith
level_low (Strict And) = omega arith
level_low (Strict Xor) = omega arith
level_low (Strict Or) = omega arith
level_low AndAlso = omega arith
level_low OrElse = omega arith

-- a sign between blanks is a mark of its own
sign_mark : (op : Infix) → is_mark (sign op) ≡ true
sign_mark (Strict Mul) = refl
sign_mark (Strict Div) = refl
sign_mark (Strict Rem) = refl
sign_mark (Strict Add) = refl
sign_mark (Strict Sub) = refl
sign_mark (Strict Shl) = refl
sign_mark (Strict Shr) = refl
sign_mark (Strict Less) = refl
sign_mark (Strict Greater) = refl
sign_mark (Strict AtMost) = refl
sign_mark (Strict AtLeast) = refl
sign_mark (Strict Equal) = refl
sign_mark (Strict Unequal) = refl
sign_mark (Strict And) = refl
sign_mark (Strict Xor) = refl
sign_mark (Strict Or) = refl
sign_mark AndAlso = refl
sign_mark OrElse = refl

sign_sure : (op : Infix) (rest : Bytes) → is_sure (length (sign op)) (sign op ++ (32 ∷ rest)) ≡ true
sign_sure (Strict Mul) rest = refl
sign_sure (Strict Div) rest = refl
sign_sure (Strict Rem) rest = refl
sign_sure (Strict Add) rest = refl
sign_sure (Strict Sub) rest = refl
sign_sure (Strict Shl) rest = refl
sign_sure (Strict Shr) rest = refl
sign_sure (Strict Less) rest = refl
sign_sure (Strict Greater) rest = refl
sign_sure (Strict AtMost) rest = refl
sign_sure (Strict AtLeast) rest = refl
sign_sure (Strict Equal) rest = refl
sign_sure (Strict Unequal) rest = refl
sign_sure (Strict And) rest = refl
sign_sure (Strict Xor) rest = refl
sign_sure (Strict Or) rest = refl
sign_sure AndAlso rest = refl
sign_sure OrElse rest = refl

pub print_infix : {before : Before} {line : ℕ} {rest : Bytes} {ts : Tokens} (op : Infix) → IsTokens Token line rest ts → IsTokens before line (32 ∷ (sign op ++ (32 ∷ rest))) (mark (sign op) line ∷ ts)
print_infix {rest = rest} op h = print_blank (print_mark (sign op) (sign_mark op) (sign_sure op rest) (print_blank h))

dot_sure : (text rest : Bytes) → HasForm Name text → is_sure 1 (46 ∷ (text ++ rest)) ≡ true
dot_sure text rest (HasForm.name {b} {run} h r) = rw (other_class is_letter b 46 h refl) refl

pub print_selector : {before : Before} {line : ℕ} {ts : Tokens} (by : Selector) (text rest : Bytes) → HasForm Name text → IsTokens Token line (text ++ rest) ts → IsTokens before line (selector_sign by ++ (text ++ rest)) (mark (selector_sign by) line ∷ ts)
print_selector Dot text rest f h = print_mark (codes ".") refl (dot_sure text rest f) h
print_selector Arrow text rest f h = print_mark (codes "->") refl refl h

begins_as : {x : Bytes} (c : ℕ) (f : First x) → begins_with c x ≡ (f.byte == c)
begins_as c f = ap (begins_with c) f.at

-- what begins with no `&`
pub number_no_and : (text : Bytes) → HasForm Number text → begins_with 38 text ≡ false
number_no_and text (HasForm.number {b} {run} h r k) = other_class is_digit b 38 h refl

pub name_no_and : (text : Bytes) → HasForm Name text → begins_with 38 text ≡ false
name_no_and text (HasForm.name {b} {run} h r) = other_class is_letter b 38 h refl

pub character_no_and : (text : Bytes) → HasForm Character text → begins_with 38 text ≡ false
character_no_and text (HasForm.character (IsCharacter.plain {b} h)) = refl
character_no_and text (HasForm.character (IsCharacter.escape {b} h)) = refl

pub more_no_and : {x : Bytes} (y : Bytes) (f : First x) → begins_with 38 x ≡ false → begins_with 38 (x ++ y) ≡ false
unfolding first_more
more_no_and y f h = begins_as 38 (first_more y f) ∙ sym (begins_as 38 f) ∙ h

pub prefix_no_and : (op : Prefix) (a : RawExpr) (y : Bytes) → (spaced (applied op a)).is_address ≡ false → begins_with 38 (prefix_sign op ++ y) ≡ false
prefix_no_and (Sign Plus) a y h = refl
prefix_no_and (Sign Minus) a y h = refl
prefix_no_and (Sign Flip) a y h = refl
prefix_no_and (Sign Not) a y h = refl
prefix_no_and Deref a y h = refl
prefix_no_and AddressOf a y h = let e : true ≡ false = sym (ap (λ (x : Spaced). x.is_address) (spaced-AddressOf a)) ∙ h in absurd cc

pub print_gap : {before : Before} {line : ℕ} {rest : Bytes} {ts : Tokens} (b : Bool) → IsTokens before line rest ts → IsTokens before line (blank_if b ++ rest) ts
print_gap true h = print_blank h
print_gap false h = h

-- ---- a prefix operator and its operand

-- a byte that an expression begins with makes no longer mark, but for these
sure_plus : (b : ℕ) (rest : Bytes) → begins_expr b ≡ true → (b == 43) ≡ false → is_sure 1 (43 ∷ b ∷ rest) ≡ true
sure_plus b rest h k = rw (other_class begins_expr b 61 h refl, k) refl

sure_minus : (b : ℕ) (rest : Bytes) → begins_expr b ≡ true → (b == 45) ≡ false → is_sure 1 (45 ∷ b ∷ rest) ≡ true
sure_minus b rest h k = rw (other_class begins_expr b 61 h refl, other_class begins_expr b 62 h refl, k) refl

sure_not : (b : ℕ) (rest : Bytes) → begins_expr b ≡ true → is_sure 1 (33 ∷ b ∷ rest) ≡ true
sure_not b rest h = rw (other_class begins_expr b 61 h refl) refl

sure_star : (b : ℕ) (rest : Bytes) → begins_expr b ≡ true → is_sure 1 (42 ∷ b ∷ rest) ≡ true
sure_star b rest h = rw (other_class begins_expr b 61 h refl) refl

sure_and : (b : ℕ) (rest : Bytes) → begins_expr b ≡ true → (b == 38) ≡ false → is_sure 1 (38 ∷ b ∷ rest) ≡ true
sure_and b rest h k = rw (other_class begins_expr b 61 h refl, k) refl

-- the same before what begins so
sure_as : {x : Bytes} (c : ℕ) (more : Bytes) (f : First x) → is_sure 1 (c ∷ f.byte ∷ (f.more ++ more)) ≡ true → is_sure 1 (c ∷ (x ++ more)) ≡ true
sure_as c more f h = ap (λ (y : Bytes). is_sure 1 (c ∷ (y ++ more))) f.at ∙ h

pub print_unary : {line : ℕ} {ts : Tokens} {x : Bytes} (more : Bytes) (op : Prefix) (b : Bool) → First x → (b ≡ false → begins_with 38 x ≡ false)
    → (before : Before) → ((before : Before) → IsTokens before line (x ++ more) ts) → IsTokens before line (prefix_sign op ++ (gap op b x ++ (x ++ more))) (mark (prefix_sign op) line ∷ ts)
print_unary {x = x} more (Sign Plus) b f apart before p = by_answer (begins_with 43 x)
    (λ t. rw t (print_mark (codes "+") refl refl (print_blank (p Token))))
    (λ n. rw n (print_mark (codes "+") refl (sure_as 43 more f (sure_plus f.byte (f.more ++ more) f.fits (sym (begins_as 43 f) ∙ n))) (p Token)))
print_unary {x = x} more (Sign Minus) b f apart before p = by_answer (begins_with 45 x)
    (λ t. rw t (print_mark (codes "-") refl refl (print_blank (p Token))))
    (λ n. rw n (print_mark (codes "-") refl (sure_as 45 more f (sure_minus f.byte (f.more ++ more) f.fits (sym (begins_as 45 f) ∙ n))) (p Token)))
print_unary more (Sign Flip) b f apart before p = print_mark (codes "~") refl refl (p Token)
print_unary more (Sign Not) b f apart before p = print_mark (codes "!") refl (sure_as 33 more f (sure_not f.byte (f.more ++ more) f.fits)) (p Token)
print_unary more Deref b f apart before p = print_mark (codes "*") refl (sure_as 42 more f (sure_star f.byte (f.more ++ more) f.fits)) (p Token)
print_unary more AddressOf true f apart before p = print_mark (codes "&") refl refl (print_blank (p Token))
print_unary more AddressOf false f apart before p = print_mark (codes "&") refl (sure_as 38 more f (sure_and f.byte (f.more ++ more) f.fits (sym (begins_as 38 f) ∙ apart refl))) (p Token)

-- ---- joining what is printed

pub unary_join : (op : Prefix) (g x more : Bytes) → (prefix_sign op ++ (g ++ x)) ++ more ≡ prefix_sign op ++ (g ++ (x ++ more))
unary_join op g x more = append_assoc (prefix_sign op) (g ++ x) more ∙ ap (λ (y : Bytes). prefix_sign op ++ y) (append_assoc g x more)

pub binary_join : (op : Infix) (x y more : Bytes) → (x ++ (32 ∷ (sign op ++ (32 ∷ y)))) ++ more ≡ x ++ (32 ∷ (sign op ++ (32 ∷ (y ++ more))))
binary_join op x y more = append_assoc x _ more ∙ ap (λ (z : Bytes). x ++ (32 ∷ z)) (append_assoc (sign op) (32 ∷ y) more)

pub member_join : (by : Selector) (x g m more : Bytes) → (x ++ (g ++ (selector_sign by ++ m))) ++ more ≡ x ++ (g ++ (selector_sign by ++ (m ++ more)))
member_join by x g m more = append_assoc x _ more ∙ ap (λ (z : Bytes). x ++ z) (append_assoc g _ more ∙ ap (λ (z : Bytes). g ++ z) (append_assoc (selector_sign by) m more))

pub index_join : (x y more : Bytes) → (x ++ (91 ∷ (y ++ codes "]"))) ++ more ≡ x ++ (91 ∷ (y ++ (93 ∷ more)))
index_join x y more = append_assoc x _ more ∙ ap (λ (z : Bytes). x ++ (91 ∷ z)) (append_assoc y (codes "]") more)

pub paren_join : (x more : Bytes) → (40 ∷ (x ++ codes ")")) ++ more ≡ 40 ∷ (x ++ (41 ∷ more))
paren_join x more = ap (λ (z : Bytes). 40 ∷ z) (append_assoc x (codes ")") more)

pub cast_join : (x y more : Bytes) → (40 ∷ (x ++ (41 ∷ y))) ++ more ≡ 40 ∷ (x ++ (41 ∷ (y ++ more)))
cast_join x y more = ap (λ (z : Bytes). 40 ∷ z) (append_assoc x (41 ∷ y) more)

pub choose_join : (x y z more : Bytes) → (x ++ (32 ∷ 63 ∷ 32 ∷ (y ++ (32 ∷ 58 ∷ 32 ∷ z)))) ++ more ≡ x ++ (32 ∷ 63 ∷ 32 ∷ (y ++ (32 ∷ 58 ∷ 32 ∷ (z ++ more))))
choose_join x y z more = append_assoc x _ more ∙ ap (λ (u : Bytes). x ++ (32 ∷ 63 ∷ 32 ∷ u)) (append_assoc y _ more)

-- ---- the law

pub no_int_word : (l : ℕ) (ts : Tokens) → sees_int_word (mark (codes ")") l ∷ ts) ≡ false
unfolding sees_int_word
no_int_word l ts = refl
