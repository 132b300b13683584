-- The words of an integer type are read exactly where they are one of its spellings in some order.
use Rattle.std.proofs.Common.{◌≡◌, ℕ, zero, suc, ◌+◌, ◌≤◌, ◌<◌, drop, Bool, true, false, ◌||◌, List, [], ◌∷◌, ◌++◌, length, codes, refl, sym, ap, subst, ◌∙◌, arith, Option, Some, None, is_some, Ok, Err, Contains, if◌then◌else◌, ◌&&◌}
use Rattle.std.specs.Str.{bytes_eq}
use Rattle.std.proofs.lemmas.Slice.Eq.{bytes_eq-Decides}
use Rattle.std.proofs.lemmas.Option.{same_Some}
use Rattle.c_arith.specs.declared.int_type.IntType.{IntType}
use Rattle.c_arith.specs.declared.int_type.IntType.TheVariants.{Char, UChar, Short, UShort, Int, UInt, Long, ULong}
use Rattle.c_language.specs.Words.{Bytes}
use Rattle.c_language.specs.TokenForms.{Tokens, name}
use Rattle.c_language.specs.Sees.{is_kind}
use Rattle.c_language.specs.IntWords.{spellings, times, SameWords, spelled, is_int_word, sees_int_word, AreWords, none, some, IsIntType, words}
use Rattle.c_language.specs.declared.token.Token.{Token}
use Rattle.c_language.specs.declared.token.TokenKind.TheVariants.{Name}
use Rattle.c_parse_expr.specs.declared.int_words.IntWord.{IntWord}
use Rattle.c_parse_expr.specs.declared.int_words.IntWord.TheVariants as word
use Rattle.c_parse_expr.specs.declared.int_words.Width.{Width}
use Rattle.c_parse_expr.specs.declared.int_words.Width.TheVariants as width
use Rattle.c_parse_expr.specs.declared.int_words.Signedness.{Signedness}
use Rattle.c_parse_expr.specs.declared.int_words.Signedness.TheVariants as signedness
use Rattle.c_parse_expr.specs.declared.int_words.IntWords.{IntWords}
use Rattle.c_parse_expr.specs.Outcome.{by_option, refused, Deep}
use Rattle.c_parse_expr.specs.IntReading.{word_by, next_word, no_words, with_width, with_signedness, with_word, type_by, type_of_words, words_from, type_or_fault, int_type_name}
use Rattle.c_parse_words.proofs.SeenTokens.{of_kind_is}
use Rattle.c_parse_expr.proofs.Tests.{by_step, by_choice, by_fault, with_parts, ok_parts}
use Rattle.c_language.proofs.Lists.{same_bytes}
use Rattle.c_language.proofs.Tests.{by_test}

-- ---- the words that a state stands for, in the order of the spellings

abbrev width_text : Width → Bytes
width_text width.Char = codes "char"
width_text width.Short = codes "short"
width_text width.Long = codes "long"

abbrev sign_text : Signedness → Bytes
sign_text signedness.Signed = codes "signed"
sign_text signedness.Unsigned = codes "unsigned"

abbrev width_words : Option Width → List Bytes
width_words None = []
width_words (Some g) = width_text g ∷ []

abbrev sign_words : Option Signedness → List Bytes
sign_words None = []
sign_words (Some s) = sign_text s ∷ []

abbrev int_words : Bool → List Bytes
int_words true = codes "int" ∷ []
int_words false = []

abbrev words_of : IntWords → List Bytes
words_of x = sign_words x.signedness ++ (width_words x.width ++ int_words x.has_int)

abbrev text_of : IntWord → Bytes
text_of word.Char = codes "char"
text_of word.Short = codes "short"
text_of word.Int = codes "int"
text_of word.Long = codes "long"
text_of word.Signed = codes "signed"
text_of word.Unsigned = codes "unsigned"

times-append : (w : Bytes) (xs ys : List Bytes) → times w (xs ++ ys) ≡ times w xs + times w ys
times-append w [] ys = omega arith
times-append w (x ∷ xs) ys = omega (arith, times-append w xs ys)

times_of : (w : Bytes) (x : IntWords) → times w (words_of x) ≡ times w (sign_words x.signedness) + (times w (width_words x.width) + times w (int_words x.has_int))
times_of w x = let a = times-append w (sign_words x.signedness) (width_words x.width ++ int_words x.has_int) in let b = times-append w (width_words x.width) (int_words x.has_int) in omega (arith, a, b)

-- ---- one more word

width_added : (w : Bytes) (new : Width) (old : Option Width) (x y : IntWords) → x.width ≡ old → with_width new old x ≡ Some y
    → times w (words_of y) ≡ times w (width_text new ∷ []) + times w (words_of x)
width_added w new None x y e h =
    let a = times_of w (record x { width = Some new }) in
    let b = times_of w x in
    let c : times w (width_words x.width) ≡ 0 = ap (λ o. times w (width_words o)) e in
    let same : times w (words_of (record x { width = Some new })) ≡ times w (words_of y) = ap (λ (z : IntWords). times w (words_of z)) (same_Some _ _ h) in
    omega (arith, a, b, c, same)
width_added w new (Some old) x y e h = absurd cc

sign_added : (w : Bytes) (new : Signedness) (old : Option Signedness) (x y : IntWords) → x.signedness ≡ old → with_signedness new old x ≡ Some y
    → times w (words_of y) ≡ times w (sign_text new ∷ []) + times w (words_of x)
sign_added w new None x y e h =
    let a = times_of w (record x { signedness = Some new }) in
    let b = times_of w x in
    let c : times w (sign_words x.signedness) ≡ 0 = ap (λ o. times w (sign_words o)) e in
    let same : times w (words_of (record x { signedness = Some new })) ≡ times w (words_of y) = ap (λ (z : IntWords). times w (words_of z)) (same_Some _ _ h) in
    omega (arith, a, b, c, same)
sign_added w new (Some old) x y e h = absurd cc

int_added : (w : Bytes) (old : Bool) (x y : IntWords) → x.has_int ≡ old → ◌≡◌ {A = Option IntWords} (if old then None else Some (record x { has_int = true })) (Some y)
    → times w (words_of y) ≡ times w (codes "int" ∷ []) + times w (words_of x)
int_added w true x y e h = absurd cc
int_added w false x y e h =
    let a = times_of w (record x { has_int = true }) in
    let b = times_of w x in
    let c : times w (int_words x.has_int) ≡ 0 = ap (λ o. times w (int_words o)) e in
    let same : times w (words_of (record x { has_int = true })) ≡ times w (words_of y) = ap (λ (z : IntWords). times w (words_of z)) (same_Some _ _ h) in
    omega (arith, a, b, c, same)

word_added : (w : Bytes) (k : IntWord) (x y : IntWords) → with_word x k ≡ Some y → times w (words_of y) ≡ times w (text_of k ∷ []) + times w (words_of x)
unfolding with_word
word_added w word.Char x y h = width_added w width.Char x.width x y refl h
word_added w word.Short x y h = width_added w width.Short x.width x y refl h
word_added w word.Long x y h = width_added w width.Long x.width x y refl h
word_added w word.Int x y h = int_added w x.has_int x y refl h
word_added w word.Signed x y h = sign_added w signedness.Signed x.signedness x y refl h
word_added w word.Unsigned x y h = sign_added w signedness.Unsigned x.signedness x y refl h

-- ---- the spellings

abbrev all_int_words : List Bytes → Bool
all_int_words [] = true
all_int_words (w ∷ ws) = if is_int_word w then all_int_words ws else false

-- the state that has words so often
abbrev width_by : ℕ → ℕ → ℕ → Option Width
width_by (suc c) s l = Some width.Char
width_by zero (suc s) l = Some width.Short
width_by zero zero (suc l) = Some width.Long
width_by zero zero zero = None

abbrev sign_by : ℕ → ℕ → Option Signedness
sign_by (suc s) u = Some signedness.Signed
sign_by zero (suc u) = Some signedness.Unsigned
sign_by zero zero = None

abbrev int_by : ℕ → Bool
int_by (suc i) = true
int_by zero = false

abbrev counted : (c s l g u i : ℕ) → Option IntType
counted c s l g u i = type_by (width_by c s l) (sign_by g u) (int_by i)

abbrev counted_in : List Bytes → Option IntType
counted_in ws = counted (times (codes "char") ws) (times (codes "short") ws) (times (codes "long") ws) (times (codes "signed") ws) (times (codes "unsigned") ws) (times (codes "int") ws)

state_counted : (g : Option Width) (s : Option Signedness) (i : Bool) → counted_in (sign_words s ++ (width_words g ++ int_words i)) ≡ type_by g s i
state_counted None None false = refl
state_counted None None true = refl
state_counted None (Some signedness.Signed) false = refl
state_counted None (Some signedness.Signed) true = refl
state_counted None (Some signedness.Unsigned) false = refl
state_counted None (Some signedness.Unsigned) true = refl
state_counted (Some width.Char) None false = refl
state_counted (Some width.Char) None true = refl
state_counted (Some width.Char) (Some signedness.Signed) false = refl
state_counted (Some width.Char) (Some signedness.Signed) true = refl
state_counted (Some width.Char) (Some signedness.Unsigned) false = refl
state_counted (Some width.Char) (Some signedness.Unsigned) true = refl
state_counted (Some width.Short) None false = refl
state_counted (Some width.Short) None true = refl
state_counted (Some width.Short) (Some signedness.Signed) false = refl
state_counted (Some width.Short) (Some signedness.Signed) true = refl
state_counted (Some width.Short) (Some signedness.Unsigned) false = refl
state_counted (Some width.Short) (Some signedness.Unsigned) true = refl
state_counted (Some width.Long) None false = refl
state_counted (Some width.Long) None true = refl
state_counted (Some width.Long) (Some signedness.Signed) false = refl
state_counted (Some width.Long) (Some signedness.Signed) true = refl
state_counted (Some width.Long) (Some signedness.Unsigned) false = refl
state_counted (Some width.Long) (Some signedness.Unsigned) true = refl

-- what is used of a spelling of a type
record Spelling (t : IntType) (s : List Bytes) : Type 0 where
  only : all_int_words s ≡ true
  widths : times (codes "char") s + (times (codes "short") s + times (codes "long") s) ≤ 1
  signs : times (codes "signed") s + times (codes "unsigned") s ≤ 1
  ints : times (codes "int") s ≤ 1
  names : counted_in s ≡ Some t

is_spelling : {t : IntType} {s r : List Bytes} → all_int_words s ≡ true → times (codes "char") s + (times (codes "short") s + times (codes "long") s) ≤ 1 → times (codes "signed") s + times (codes "unsigned") s ≤ 1 → times (codes "int") s ≤ 1 → counted_in s ≡ Some t
    → s ≡ r → Spelling t r
is_spelling {t} {s} {r} a b c d e same = subst (λ (x : List Bytes). Spelling t x) same (record { only = a; widths = b; signs = c; ints = d; names = e })

fine : (t : IntType) (s : List Bytes) → Contains (spellings t) s → Spelling t s
fine Char s (zero, low, same) = is_spelling {t = Char} {s = (codes "char" ∷ [])} refl (omega arith) (omega arith) (omega arith) refl same
fine Char s ((suc zero), low, same) = is_spelling {t = Char} {s = (codes "signed" ∷ codes "char" ∷ [])} refl (omega arith) (omega arith) (omega arith) refl same
fine Char s ((suc (suc k)), low, same) = absurd (omega arith)
fine UChar s (zero, low, same) = is_spelling {t = UChar} {s = (codes "unsigned" ∷ codes "char" ∷ [])} refl (omega arith) (omega arith) (omega arith) refl same
fine UChar s ((suc k), low, same) = absurd (omega arith)
fine Short s (zero, low, same) = is_spelling {t = Short} {s = (codes "short" ∷ [])} refl (omega arith) (omega arith) (omega arith) refl same
fine Short s ((suc zero), low, same) = is_spelling {t = Short} {s = (codes "short" ∷ codes "int" ∷ [])} refl (omega arith) (omega arith) (omega arith) refl same
fine Short s ((suc (suc zero)), low, same) = is_spelling {t = Short} {s = (codes "signed" ∷ codes "short" ∷ [])} refl (omega arith) (omega arith) (omega arith) refl same
fine Short s ((suc (suc (suc zero))), low, same) = is_spelling {t = Short} {s = (codes "signed" ∷ codes "short" ∷ codes "int" ∷ [])} refl (omega arith) (omega arith) (omega arith) refl same
fine Short s ((suc (suc (suc (suc k)))), low, same) = absurd (omega arith)
fine UShort s (zero, low, same) = is_spelling {t = UShort} {s = (codes "unsigned" ∷ codes "short" ∷ [])} refl (omega arith) (omega arith) (omega arith) refl same
fine UShort s ((suc zero), low, same) = is_spelling {t = UShort} {s = (codes "unsigned" ∷ codes "short" ∷ codes "int" ∷ [])} refl (omega arith) (omega arith) (omega arith) refl same
fine UShort s ((suc (suc k)), low, same) = absurd (omega arith)
fine Int s (zero, low, same) = is_spelling {t = Int} {s = (codes "int" ∷ [])} refl (omega arith) (omega arith) (omega arith) refl same
fine Int s ((suc zero), low, same) = is_spelling {t = Int} {s = (codes "signed" ∷ [])} refl (omega arith) (omega arith) (omega arith) refl same
fine Int s ((suc (suc zero)), low, same) = is_spelling {t = Int} {s = (codes "signed" ∷ codes "int" ∷ [])} refl (omega arith) (omega arith) (omega arith) refl same
fine Int s ((suc (suc (suc k))), low, same) = absurd (omega arith)
fine UInt s (zero, low, same) = is_spelling {t = UInt} {s = (codes "unsigned" ∷ [])} refl (omega arith) (omega arith) (omega arith) refl same
fine UInt s ((suc zero), low, same) = is_spelling {t = UInt} {s = (codes "unsigned" ∷ codes "int" ∷ [])} refl (omega arith) (omega arith) (omega arith) refl same
fine UInt s ((suc (suc k)), low, same) = absurd (omega arith)
fine Long s (zero, low, same) = is_spelling {t = Long} {s = (codes "long" ∷ [])} refl (omega arith) (omega arith) (omega arith) refl same
fine Long s ((suc zero), low, same) = is_spelling {t = Long} {s = (codes "long" ∷ codes "int" ∷ [])} refl (omega arith) (omega arith) (omega arith) refl same
fine Long s ((suc (suc zero)), low, same) = is_spelling {t = Long} {s = (codes "signed" ∷ codes "long" ∷ [])} refl (omega arith) (omega arith) (omega arith) refl same
fine Long s ((suc (suc (suc zero))), low, same) = is_spelling {t = Long} {s = (codes "signed" ∷ codes "long" ∷ codes "int" ∷ [])} refl (omega arith) (omega arith) (omega arith) refl same
fine Long s ((suc (suc (suc (suc k)))), low, same) = absurd (omega arith)
fine ULong s (zero, low, same) = is_spelling {t = ULong} {s = (codes "unsigned" ∷ codes "long" ∷ [])} refl (omega arith) (omega arith) (omega arith) refl same
fine ULong s ((suc zero), low, same) = is_spelling {t = ULong} {s = (codes "unsigned" ∷ codes "long" ∷ codes "int" ∷ [])} refl (omega arith) (omega arith) (omega arith) refl same
fine ULong s ((suc (suc k)), low, same) = absurd (omega arith)

with_type : {t u : IntType} {s : List Bytes} → Some t ≡ Some u → Contains (spellings t) s → Contains (spellings u) s
with_type {t} {u} {s} h c = subst (λ (x : IntType). Contains (spellings x) s) (same_Some _ _ h) c

spelled_by : (g : Option Width) (s : Option Signedness) (i : Bool) (t : IntType) → type_by g s i ≡ Some t → Contains (spellings t) (sign_words s ++ (width_words g ++ int_words i))
spelled_by None None false t h = absurd cc
spelled_by None None true t h = with_type h (0, omega arith, refl)
spelled_by None (Some signedness.Signed) false t h = with_type h (1, omega arith, refl)
spelled_by None (Some signedness.Signed) true t h = with_type h (2, omega arith, refl)
spelled_by None (Some signedness.Unsigned) false t h = with_type h (0, omega arith, refl)
spelled_by None (Some signedness.Unsigned) true t h = with_type h (1, omega arith, refl)
spelled_by (Some width.Char) None false t h = with_type h (0, omega arith, refl)
spelled_by (Some width.Char) None true t h = absurd cc
spelled_by (Some width.Char) (Some signedness.Signed) false t h = with_type h (1, omega arith, refl)
spelled_by (Some width.Char) (Some signedness.Signed) true t h = absurd cc
spelled_by (Some width.Char) (Some signedness.Unsigned) false t h = with_type h (0, omega arith, refl)
spelled_by (Some width.Char) (Some signedness.Unsigned) true t h = absurd cc
spelled_by (Some width.Short) None false t h = with_type h (0, omega arith, refl)
spelled_by (Some width.Short) None true t h = with_type h (1, omega arith, refl)
spelled_by (Some width.Short) (Some signedness.Signed) false t h = with_type h (2, omega arith, refl)
spelled_by (Some width.Short) (Some signedness.Signed) true t h = with_type h (3, omega arith, refl)
spelled_by (Some width.Short) (Some signedness.Unsigned) false t h = with_type h (0, omega arith, refl)
spelled_by (Some width.Short) (Some signedness.Unsigned) true t h = with_type h (1, omega arith, refl)
spelled_by (Some width.Long) None false t h = with_type h (0, omega arith, refl)
spelled_by (Some width.Long) None true t h = with_type h (1, omega arith, refl)
spelled_by (Some width.Long) (Some signedness.Signed) false t h = with_type h (2, omega arith, refl)
spelled_by (Some width.Long) (Some signedness.Signed) true t h = with_type h (3, omega arith, refl)
spelled_by (Some width.Long) (Some signedness.Unsigned) false t h = with_type h (0, omega arith, refl)
spelled_by (Some width.Long) (Some signedness.Unsigned) true t h = with_type h (1, omega arith, refl)

-- ---- reading all words

-- the next word, told by its text
word_told : {G : Type 0} (w : Bytes) (k : IntWord) → word_by w ≡ Some k → (w ≡ text_of k → G) → G
unfolding word_by
word_told w k h go =
    by_test (bytes_eq w (codes "char")) h (λ is h. go (same_bytes w _ is ∙ ap text_of (same_Some _ _ h))) (λ _ h.
    by_test (bytes_eq w (codes "short")) h (λ is h. go (same_bytes w _ is ∙ ap text_of (same_Some _ _ h))) (λ _ h.
    by_test (bytes_eq w (codes "int")) h (λ is h. go (same_bytes w _ is ∙ ap text_of (same_Some _ _ h))) (λ _ h.
    by_test (bytes_eq w (codes "long")) h (λ is h. go (same_bytes w _ is ∙ ap text_of (same_Some _ _ h))) (λ _ h.
    by_test (bytes_eq w (codes "signed")) h (λ is h. go (same_bytes w _ is ∙ ap text_of (same_Some _ _ h))) (λ _ h.
    by_test (bytes_eq w (codes "unsigned")) h (λ is h. go (same_bytes w _ is ∙ ap text_of (same_Some _ _ h))) (λ _ h. absurd cc))))))

text_told : (k : IntWord) → word_by (text_of k) ≡ Some k
unfolding word_by
text_told word.Char = refl
text_told word.Short = refl
text_told word.Int = refl
text_told word.Long = refl
text_told word.Signed = refl
text_told word.Unsigned = refl

by_cond : (P : Bool → Type 0) (b : Bool) → (b ≡ true → P true) → (b ≡ false → P false) → P b
by_cond P true is isnt = is refl
by_cond P false is isnt = isnt refl

any_of : (a b c d e f : Bool) → (a || (b || (c || (d || (e || f))))) ≡ is_some (if a then Some word.Char else if b then Some word.Short else if c then Some word.Int else if d then Some word.Long else if e then Some word.Signed else if f then Some word.Unsigned else None)
any_of true b c d e f = refl
any_of false true c d e f = refl
any_of false false true d e f = refl
any_of false false false true e f = refl
any_of false false false false true f = refl
any_of false false false false false true = refl
any_of false false false false false false = refl

is_word : (w : Bytes) → is_int_word w ≡ is_some (word_by w)
unfolding word_by
is_word w =
    any_of (bytes_eq w (codes "char")) (bytes_eq w (codes "short")) (bytes_eq w (codes "int")) (bytes_eq w (codes "long")) (bytes_eq w (codes "signed")) (bytes_eq w (codes "unsigned"))

-- a word of a type is seen exactly where one is at the front
pub word_seen : (ts : Tokens) → sees_int_word ts ≡ is_some (next_word ts)
unfolding sees_int_word next_word
word_seen [] = refl
word_seen (t ∷ ts) = by_cond (λ b. (b && is_int_word t.text) ≡ is_some (if b then word_by t.text else None)) (is_kind Name t) (λ _. is_word t.text) (λ _. refl)

no_word : (o : Option IntWord) → is_some o ≡ false → o ≡ None
no_word None h = refl
no_word (Some k) h = absurd cc

word_at : (k : IntWord) (l : ℕ) (ts : Tokens) → next_word (name (text_of k) l ∷ ts) ≡ Some k
unfolding next_word
word_at k l ts = text_told k

-- reading all words, by whether one is in front
pub words_front : (x : IntWords) (ts : Tokens) → words_from x ts ≡ by_option (next_word ts) (Ok (x, ts)) (λ w. by_option (with_word x w) (refused ts) (λ y. words_from y (drop 1 ts)))
unfolding words_from next_word
words_front x [] = refl
words_front x (t ∷ ts) = refl

pub words_clash : (x : IntWords) (k : IntWord) (ts : Tokens) → next_word ts ≡ Some k → with_word x k ≡ None → words_from x ts ≡ refused ts
words_clash x k ts h j = words_front x ts ∙ rw (h, j) refl

pub words_more : (x y : IntWords) (k : IntWord) (ts : Tokens) → next_word ts ≡ Some k → with_word x k ≡ Some y → words_from x ts ≡ words_from y (drop 1 ts)
words_more x y k ts h j = words_front x ts ∙ rw (h, j) refl

pub words_left : (k : IntWord) (ts : Tokens) → next_word ts ≡ Some k → length (drop 1 ts) < length ts
unfolding next_word
words_left k [] h = absurd cc
words_left k (t ∷ ts) h = omega arith

-- the token at the front is the one of the word
next_told : {G : Type 0} (k : IntWord) (t : Token) (ts : Tokens) → next_word (t ∷ ts) ≡ Some k → (t ≡ name (text_of k) t.line → G) → G
unfolding next_word
next_told k t ts h go =
    by_test (is_kind Name t) h
    (λ is h. word_told t.text k h (λ same. go (sym (of_kind_is Name t is) ∙ ap (λ w. name w t.line) same)))
    (λ _ h. absurd cc)

-- a word that is none of a type stands in no spelling
only_words : (s : List Bytes) (w : Bytes) → all_int_words s ≡ true → is_int_word w ≡ false → times w s ≡ 0
only_words [] w h isnt = refl
only_words (v ∷ vs) w h isnt =
    by_test (is_int_word v) h
    (λ is h. by_cond (λ b. (if b then 1 else 0) + times w vs ≡ 0) (bytes_eq w v)
    (λ same. let e : w ≡ v = same_bytes w v same in let f : is_int_word w ≡ is_int_word v = ap is_int_word e in absurd (let g : true ≡ false = sym is ∙ (sym f ∙ isnt) in cc))
    (λ _. let e = only_words vs w h isnt in omega (arith, e)))
    (λ _ h. absurd cc)

itself : (w : Bytes) → bytes_eq w w ≡ true
itself w = (bytes_eq-Decides w w).1 refl

-- a word that stands in front is counted
counted_first : (w : Bytes) (ws : List Bytes) → times w (w ∷ ws) ≡ 1 + times w ws
counted_first w ws = rw (itself w) refl

word_front : (w : Bytes) (ws : List Bytes) (v : Bytes) → times v (w ∷ ws) ≡ times v (w ∷ []) + times v ws
word_front w ws v = omega arith

abbrev widths_in : List Bytes → ℕ
widths_in ws = times (codes "char") ws + (times (codes "short") ws + times (codes "long") ws)

abbrev signs_in : List Bytes → ℕ
signs_in ws = times (codes "signed") ws + times (codes "unsigned") ws

width_one : (g : Width) → 1 ≤ widths_in (width_text g ∷ [])
width_one width.Char = omega arith
width_one width.Short = omega arith
width_one width.Long = omega arith

sign_one : (g : Signedness) → 1 ≤ signs_in (sign_text g ∷ [])
sign_one signedness.Signed = omega arith
sign_one signedness.Unsigned = omega arith

width_more : (g : Width) (ws : List Bytes) → 1 ≤ widths_in (width_text g ∷ ws)
width_more width.Char ws = omega arith
width_more width.Short ws = omega arith
width_more width.Long ws = omega arith

sign_more : (g : Signedness) (ws : List Bytes) → 1 ≤ signs_in (sign_text g ∷ ws)
sign_more signedness.Signed ws = omega arith
sign_more signedness.Unsigned ws = omega arith

width_said : (g : Width) (o : Option Width) (x : IntWords) → x.width ≡ o → o ≡ Some g → 1 ≤ widths_in (words_of x)
width_said g o x e h =
    let f : x.width ≡ Some g = e ∙ h in
    let a = times_of (codes "char") x in
    let b = times_of (codes "short") x in
    let c = times_of (codes "long") x in
    let d : widths_in (width_words x.width) ≡ widths_in (width_text g ∷ []) = ap (λ o. widths_in (width_words o)) f in
    let i : 1 ≤ widths_in (width_text g ∷ []) = width_one g in
    omega (arith, a, b, c, d, i)

sign_said : (g : Signedness) (x : IntWords) → x.signedness ≡ Some g → 1 ≤ signs_in (words_of x)
sign_said g x f =
    let a = times_of (codes "signed") x in
    let b = times_of (codes "unsigned") x in
    let d : signs_in (sign_words x.signedness) ≡ signs_in (sign_text g ∷ []) = ap (λ o. signs_in (sign_words o)) f in
    let i : 1 ≤ signs_in (sign_text g ∷ []) = sign_one g in
    omega (arith, a, b, d, i)

int_said : (x : IntWords) → x.has_int ≡ true → 1 ≤ times (codes "int") (words_of x)
int_said x f =
    let a = times_of (codes "int") x in
    let d : times (codes "int") (int_words x.has_int) ≡ 1 = ap (λ b. times (codes "int") (int_words b)) f in
    omega (arith, a, d)

abbrev Added : Option IntWords → Type 0
Added o = (y : IntWords) × (o ≡ Some y)

width_fits : (new : Width) (old : Option Width) (x : IntWords) → ((g : Width) → old ≡ Some g → ⊥) → Added (with_width new old x)
width_fits new None x free = (record x { width = Some new }, refl)
width_fits new (Some g) x free = absurd (free g refl)

sign_fits : (new : Signedness) (old : Option Signedness) (x : IntWords) → ((g : Signedness) → old ≡ Some g → ⊥) → Added (with_signedness new old x)
sign_fits new None x free = (record x { signedness = Some new }, refl)
sign_fits new (Some g) x free = absurd (free g refl)

int_fits : (old : Bool) (x : IntWords) → (old ≡ true → ⊥) → Added (if old then None else Some (record x { has_int = true }))
int_fits true x free = absurd (free refl)
int_fits false x free = (record x { has_int = true }, refl)

-- the words that were read and those to come are those of a spelling
abbrev Makes : IntWords → List Bytes → List Bytes → Type 0
Makes x ws s = (w : Bytes) → times w (words_of x) + times w ws ≡ times w s

width_room : (new : Width) (x : IntWords) (ws s : List Bytes) → widths_in s ≤ 1 → Makes x (width_text new ∷ ws) s → (g : Width) → x.width ≡ Some g → ⊥
width_room new x ws s low makes g h =
    let a = makes (codes "char") in
    let b = makes (codes "short") in
    let c = makes (codes "long") in
    let d = width_said g x.width x refl h in
    let e = width_more new ws in
    omega (arith, a, b, c, d, e)

sign_room : (new : Signedness) (x : IntWords) (ws s : List Bytes) → signs_in s ≤ 1 → Makes x (sign_text new ∷ ws) s → (g : Signedness) → x.signedness ≡ Some g → ⊥
sign_room new x ws s low makes g h =
    let a = makes (codes "signed") in
    let b = makes (codes "unsigned") in
    let d = sign_said g x h in
    let e = sign_more new ws in
    omega (arith, a, b, d, e)

int_room : (x : IntWords) (ws s : List Bytes) → times (codes "int") s ≤ 1 → Makes x (codes "int" ∷ ws) s → x.has_int ≡ true → ⊥
int_room x ws s low makes h = let a = makes (codes "int") in let d = int_said x h in omega (arith, a, d)

word_fits : (k : IntWord) (x : IntWords) (ws : List Bytes) (t : IntType) (s : List Bytes) → Spelling t s → Makes x (text_of k ∷ ws) s → Added (with_word x k)
unfolding with_word
word_fits word.Char x ws t s p makes = width_fits width.Char x.width x (width_room width.Char x ws s p.widths makes)
word_fits word.Short x ws t s p makes = width_fits width.Short x.width x (width_room width.Short x ws s p.widths makes)
word_fits word.Long x ws t s p makes = width_fits width.Long x.width x (width_room width.Long x ws s p.widths makes)
word_fits word.Int x ws t s p makes = int_fits x.has_int x (int_room x ws s p.ints makes)
word_fits word.Signed x ws t s p makes = sign_fits signedness.Signed x.signedness x (sign_room signedness.Signed x ws s p.signs makes)
word_fits word.Unsigned x ws t s p makes = sign_fits signedness.Unsigned x.signedness x (sign_room signedness.Unsigned x ws s p.signs makes)

-- what is read is words that make a spelling
record WordsRead (x : IntWords) (ts rest : Tokens) (s : List Bytes) : Type 0 where
  state : IntWords
  read : words_from x ts ≡ Ok (state, rest)
  makes : Makes state [] s

pub words_end : (x : IntWords) (rest : Tokens) → next_word rest ≡ None → words_from x rest ≡ Ok (x, rest)
unfolding words_from
words_end x [] h = refl
words_end x (t ∷ ts) h = rw h refl

words_step : (x y : IntWords) (k : IntWord) (t : Token) (ts : Tokens) → next_word (t ∷ ts) ≡ Some k → with_word x k ≡ Some y → words_from x (t ∷ ts) ≡ words_from y ts
unfolding words_from
words_step x y k t ts h j = rw (h, j) refl

told_by : {G : Type 0} (v : Bytes) (o : Option IntWord) → word_by v ≡ o → is_some o ≡ true → ((k : IntWord) → v ≡ text_of k → G) → G
told_by v None e h go = absurd cc
told_by v (Some k) e h go = word_told v k e (go k)

-- a word of a spelling is told
told : {G : Type 0} (v : Bytes) → is_int_word v ≡ true → ((k : IntWord) → v ≡ text_of k → G) → G
told v h go = told_by v (word_by v) refl (sym (is_word v) ∙ h) go

read_words : {ts rest : Tokens} {ws : List Bytes} → AreWords ts ws rest → sees_int_word rest ≡ false → (x : IntWords) (t : IntType) (s : List Bytes) → Spelling t s → Makes x ws s → WordsRead x ts rest s
read_words (none {rest}) ends x t s p makes = record { state = x; read = words_end x rest (no_word (next_word rest) (sym (word_seen rest) ∙ ends)); makes = makes }
read_words (some {w = v} {l} {ts} {rest} {ws} h) ends x t s p makes =
    by_cond (λ b. is_int_word v ≡ b → WordsRead x (name v l ∷ ts) rest s) (is_int_word v)
    (λ _ is. told v is (λ k same.
    let here : Makes x (text_of k ∷ ws) s = subst (λ (u : Bytes). Makes x (u ∷ ws) s) same makes in
    let fits = word_fits k x ws t s p here in
    let next : Makes fits.0 ws s = λ u. let a = word_added u k x fits.0 fits.1 in let b = here u in let c = word_front (text_of k) ws u in omega (arith, a, b, c) in
    let r = read_words h ends fits.0 t s p next in
    let at : name v l ≡ name (text_of k) l = ap (λ u. name u l) same in
    subst (λ (u : Token). WordsRead x (u ∷ ts) rest s) (sym at)
    (record { state = r.state; read = words_step x fits.0 k (name (text_of k) l) ts (word_at k l ts) fits.1 ∙ r.read; makes = r.makes })))
    (λ _ isnt. let a = makes v in let b = only_words s v p.only isnt in let c = counted_first v ws in absurd (omega (arith, a, b, c)))
    refl

named_counted : (x : IntWords) → type_of_words x ≡ counted_in (words_of x)
unfolding type_of_words
named_counted x = sym (state_counted x.width x.signedness x.has_int)

counts_same : (ws s : List Bytes) → ((w : Bytes) → times w ws ≡ times w s) → counted_in ws ≡ counted_in s
counts_same ws s h = rw (h (codes "char"), h (codes "short"), h (codes "long"), h (codes "signed"), h (codes "unsigned"), h (codes "int")) refl

named_at : (t : IntType) (x : IntWords) (s : List Bytes) → Spelling t s → Makes x [] s → type_of_words x ≡ Some t
named_at t x s p makes = named_counted x ∙ (counts_same (words_of x) s (λ w. let a = makes w in omega (arith, a)) ∙ p.names)

-- Each type of the grammar is read.
pub int_type_read : {ts rest : Tokens} {t : IntType} → IsIntType ts t rest → int_type_name ts ≡ Ok (t, rest)
unfolding int_type_name
int_type_read {ts} {rest} {t} (words {ws} h (spelled {spelling = s} in_table same) ends) =
    let p = fine t s in_table in
    let makes : Makes no_words ws s = λ w. let a = same w in omega (arith, a) in
    let r = read_words h ends no_words t s p makes in
    rw r.read (rw (named_at t r.state s p r.makes) refl)

-- ---- what is read

record WordsOf (x y : IntWords) (ts rest : Tokens) : Type 0 where
  all : List Bytes
  are : AreWords ts all rest
  ends : sees_int_word rest ≡ false
  made : (w : Bytes) → times w (words_of y) ≡ times w all + times w (words_of x)

words_told : (ts rest : Tokens) (x y : IntWords) → words_from x ts ≡ Ok (y, rest) → WordsOf x y ts rest
unfolding words_from next_word
words_told [] rest x y h = with_parts (λ z r. WordsOf x z [] r) h (record { all = []; are = none; ends = word_seen []; made = λ w. omega arith })
words_told (t ∷ ts) rest x y h =
    by_choice (next_word (t ∷ ts)) _ _ h
    (λ nothing h. with_parts (λ z r. WordsOf x z (t ∷ ts) r) h (record { all = []; are = none; ends = word_seen (t ∷ ts) ∙ ap is_some nothing; made = λ w. omega arith }))
    (λ k at h. by_choice (with_word x k) _ _ h
    (λ _ h. absurd cc)
    (λ z more h. next_told k t ts at (λ same.
    let r = words_told ts rest z y h in
    let here : WordsOf x y (name (text_of k) t.line ∷ ts) rest = record { all = text_of k ∷ r.all; are = some r.are; ends = r.ends; made = λ w. let a = r.made w in let b = word_added w k x z more in let c = word_front (text_of k) r.all w in omega (arith, a, b, c) } in
    subst (λ (u : Token). WordsOf x y (u ∷ ts) rest) (sym same) here)))

by_type : {G : Type 0} (o : Option IntType) (mid : Tokens) (t : IntType) (rest : Tokens) → type_or_fault o mid ≡ Ok (t, rest) → (o ≡ Some t → mid ≡ rest → G) → G
by_type None mid t rest h go = absurd cc
by_type (Some u) mid t rest h go = let e = ok_parts h in go (ap (λ x. Some x) e.0) e.1

-- What is read is a type of the grammar.
pub int_type_sound : (ts rest : Tokens) (t : IntType) → int_type_name ts ≡ Ok (t, rest) → IsIntType ts t rest
unfolding int_type_name type_of_words
int_type_sound ts rest t h =
    by_step (words_from no_words ts) _ h (λ x mid went h.
    by_type (type_of_words x) mid t rest h (λ named ends.
    let r = words_told ts mid no_words x went in
    let table = spelled_by x.width x.signedness x.has_int t named in
    let same : SameWords r.all (words_of x) = λ w. let a = r.made w in omega (arith, a) in
    subst (λ (q : Tokens). IsIntType ts t q) ends (words r.are (spelled table same) r.ends)))

words_fault : {G : Type 0} (ts : Tokens) (x : IntWords) → words_from x ts ≡ Err Deep → G
unfolding words_from
words_fault [] x h = absurd cc
words_fault (t ∷ ts) x h =
    by_choice (next_word (t ∷ ts)) _ _ h (λ _ h. absurd cc)
    (λ k _ h. by_choice (with_word x k) _ _ h (λ _ h. absurd cc) (λ y _ h. words_fault ts y h))

type_fault : {G : Type 0} (o : Option IntType) (ts : Tokens) → type_or_fault o ts ≡ Err Deep → G
type_fault None ts h = absurd cc
type_fault (Some t) ts h = absurd cc

pub int_type_fault : {G : Type 0} (ts : Tokens) → int_type_name ts ≡ Err Deep → G
unfolding int_type_name
int_type_fault ts h = by_fault (words_from no_words ts) _ h (words_fault ts no_words) (λ x mid _ h. type_fault (type_of_words x) mid h)

-- ---- where its words end

-- the words are some of the tokens
words_shorter : {ts rest : Tokens} {ws : List Bytes} → AreWords ts ws rest → length rest + length ws ≡ length ts
words_shorter none = omega arith
words_shorter (some h) = let e = words_shorter h in omega (arith, e)

some_words : (t : IntType) (s : List Bytes) → Spelling t s → counted_in [] ≡ Some t → ⊥
some_words t s p h = cc

words_some : (t : IntType) (ws s : List Bytes) → Spelling t s → SameWords ws s → {ts rest : Tokens} → AreWords ts ws rest → length rest < length ts
words_some t [] s p same h = absurd (some_words t s p (counts_same [] s same ∙ p.names))
words_some t (w ∷ ws) s p same h = let e = words_shorter h in omega (arith, e)

pub int_type_shorter : {ts rest : Tokens} {t : IntType} → IsIntType ts t rest → length rest < length ts
int_type_shorter (words {ws} h (spelled {spelling = s} in_table same) ends) = words_some _ ws s (fine _ s in_table) same h

words_begin : (t : IntType) (ws s : List Bytes) → Spelling t s → SameWords ws s → {ts rest : Tokens} → AreWords ts ws rest → sees_int_word ts ≡ true
unfolding sees_int_word
words_begin t ws s p same none = absurd (some_words t s p (counts_same [] s same ∙ p.names))
words_begin t ws s p same (some {w} {l} {ts} {ws = vs} h) =
    by_cond (λ b. is_int_word w ≡ b → b ≡ true) (is_int_word w) (λ _ _. refl)
    (λ _ isnt. let a = same w in let b = only_words s w p.only isnt in let c = counted_first w vs in absurd (omega (arith, a, b, c)))
    refl

-- a type begins with a word of a type
pub int_type_begins : {ts rest : Tokens} {t : IntType} → IsIntType ts t rest → sees_int_word ts ≡ true
int_type_begins (words {ws} h (spelled {spelling = s} in_table same) ends) = words_begin _ ws s (fine _ s in_table) same h
