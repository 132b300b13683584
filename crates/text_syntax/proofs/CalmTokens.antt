-- Tokens that begin no left-out construct, wherever they stand, and change nothing that tells one.
use Rattle.std.proofs.Common.{◌≡◌, ℕ, zero, suc, ◌+◌, ◌<◌, List, [], ◌∷◌, ◌++◌, Bool, true, false, not, ◌||◌, codes, refl, sym, ap, subst, ◌∙◌, arith, reverse, true≢false}
use Rattle.std.specs.Prelude.{◌==◌, bytes_eq, Contains}
use Rattle.std.specs.List.{list_all}
use Rattle.std.proofs.lemmas.Bool.{and_parts, not-true, or_left}
use Rattle.std.proofs.lemmas.Slice.Eq.{bytes_eq-Decides}
use Rattle.c_arith.specs.declared.int_type.IntType.{IntType}
use Rattle.c_arith.specs.declared.int_type.IntType.TheVariants.{Char, UChar, Short, UShort, Int, UInt, Long, ULong}
use Rattle.c_arith.specs.declared.operators.UnaryOp.TheVariants.{Plus, Minus, Flip, Not}
use Rattle.c_arith.specs.declared.operators.BinaryOp.TheVariants.{Mul, Div, Rem, Add, Sub, Shl, Shr, Less, Greater, AtMost, AtLeast, Equal, Unequal, And, Xor, Or}
use Rattle.c_tree.specs.declared.raw.expr.RawExpr.{RawExpr}
use Rattle.c_language.specs.Words.{Bytes}
use Rattle.c_language.specs.TokenForms.{Tokens, of_kind, mark}
use Rattle.c_language.specs.Sees.{same_kind, is_token, is_keyword}
use Rattle.c_language.specs.IntWords.{spellings, times, IsIntWords, spelled, AreWords, none, some, IsIntType, words}
use Rattle.c_language.specs.ExprGrammar.{IsExpr, number_constant, character_constant, null, eof, variable, paren, index, member, unary, cast, binary, choose, is_plain_name, sign, prefix_sign, selector_sign}
use Rattle.c_language.specs.LeftOut.{is_left_out_word, IsTold, word, preprocessing, ellipsis, early_return, fallen_into_case, fallen_into_default, other_string, struct_result, struct_param, open_braces, behind_semicolon, ends_function, begins_label, begins_format, names_function, begins_param, names_param}
use Rattle.c_language.specs.declared.token.Token.{Token}
use Rattle.c_language.specs.declared.token.TokenKind.{TokenKind}
use Rattle.c_language.specs.declared.token.TokenKind.TheVariants.{Name, Number, Character, Str, Mark, Include, Directive}
use Rattle.c_language.specs.declared.operators.Infix.{Infix}
use Rattle.c_language.specs.declared.operators.Infix.TheVariants.{Strict, AndAlso, OrElse}
use Rattle.c_language.specs.declared.operators.Prefix.{Prefix}
use Rattle.c_language.specs.declared.operators.Prefix.TheVariants.{Sign, Deref, AddressOf}
use Rattle.c_language.specs.declared.operators.Selector.{Selector}
use Rattle.c_language.specs.declared.operators.Selector.TheVariants.{Dot, Arrow}
use Rattle.c_language.proofs.Tests.{by_answer}
use Rattle.c_language.proofs.Keywords.{no_keyword}
use Rattle.c_language.proofs.Lists.{reversed}

-- ---- no token of a list begins a left-out construct

-- none of the tokens begins one, where these stand before them, the nearest first
abbrev pub AreUntold : Tokens → Tokens → Type 0
AreUntold before [] = Unit {0}
AreUntold before (t ∷ ts) = (IsTold before t ts → ⊥) × AreUntold (t ∷ before) ts

pub untold_at : (front before : Tokens) (t : Token) (behind : Tokens) → AreUntold before (front ++ t ∷ behind) → IsTold (reverse front ++ before) t behind → ⊥
untold_at [] before t behind h told = h.0 told
untold_at (f ∷ front) before t behind h told = untold_at front (f ∷ before) t behind h.1 (subst (λ (x : Tokens). IsTold x t behind) (reversed f front before) told)

pub told_all : (before ts : Tokens) → ((front : Tokens) (t : Token) (behind : Tokens) → ts ≡ front ++ t ∷ behind → IsTold (reverse front ++ before) t behind → ⊥) → AreUntold before ts
told_all before [] h = tt
told_all before (t ∷ ts) h = (
  h [] t ts refl,
  told_all (t ∷ before) ts (λ front u behind is told. h (t ∷ front) u behind (ap (λ (x : Tokens). t ∷ x) is) (subst (λ (x : Tokens). IsTold x u behind) (sym (reversed t front before)) told)),
)

-- ---- calm tokens

-- a word at which a left-out construct may be told
unfoldable pub is_watched : Bytes → Bool
is_watched w = is_left_out_word w || (bytes_eq w (codes "struct") || (bytes_eq w (codes "return") || (bytes_eq w (codes "case") || bytes_eq w (codes "default"))))

abbrev pub calm_by : TokenKind → Bytes → Bool
calm_by Name w = not (is_watched w)
calm_by Number w = true
calm_by Character w = true
calm_by Str w = false
calm_by Mark w = not (bytes_eq w (codes "...") || (bytes_eq w (codes "{") || (bytes_eq w (codes "}") || bytes_eq w (codes ";"))))
calm_by Include w = true
calm_by Directive w = false

abbrev pub is_calm : Token → Bool
is_calm t = calm_by t.kind t.text

not_or : (a b : Bool) → not (a || b) ≡ true → (a ≡ false) × (not b ≡ true)
not_or true b h = absurd (true≢false (sym h))
not_or false b h = (refl, h)

pub calm_untold : (t : Token) (before behind : Tokens) → is_calm t ≡ true → IsTold before t behind → ⊥
unfolding is_watched is_left_out_word
calm_untold t before behind h (word {w} is) = true≢false (sym h ∙ ap not (or_left (is_left_out_word w) _ is))
calm_untold t before behind h preprocessing = true≢false (sym h)
calm_untold t before behind h ellipsis = true≢false (sym h)
calm_untold t before behind h (early_return k) = true≢false (sym h)
calm_untold t before behind h (fallen_into_case k) = true≢false (sym h)
calm_untold t before behind h (fallen_into_default k) = true≢false (sym h)
calm_untold t before behind h (other_string k) = true≢false (sym h)
calm_untold t before behind h (struct_result k) = true≢false (sym h)
calm_untold t before behind h (struct_param k j i) = true≢false (sym h)

record IsFlat (k : TokenKind) (w : Bytes) (l : ℕ) : Type 0 where
  opens : is_token Mark (codes "{") (of_kind k w l) ≡ false
  closes : is_token Mark (codes "}") (of_kind k w l) ≡ false
  ends : is_token Mark (codes ";") (of_kind k w l) ≡ false

flat : (k : TokenKind) (w : Bytes) (l : ℕ) → calm_by k w ≡ true → IsFlat k w l
flat Name w l h = record { opens = refl; closes = refl; ends = refl }
flat Number w l h = record { opens = refl; closes = refl; ends = refl }
flat Character w l h = record { opens = refl; closes = refl; ends = refl }
flat Str w l h = record { opens = refl; closes = refl; ends = refl }
flat Mark w l h =
    let a = not_or (bytes_eq w (codes "...")) _ h in
    let b = not_or (bytes_eq w (codes "{")) _ a.1 in
    let c = not_or (bytes_eq w (codes "}")) _ b.1 in
    record { opens = b.0; closes = c.0; ends = not-true (bytes_eq w (codes ";")) c.1 }
flat Include w l h = record { opens = refl; closes = refl; ends = refl }
flat Directive w l h = record { opens = refl; closes = refl; ends = refl }

pub calm_braces : (t : Token) (before : Tokens) → is_calm t ≡ true → open_braces (t ∷ before) ≡ open_braces before
unfolding open_braces
calm_braces t before h = let f = flat t.kind t.text t.line h in rw (f.opens, f.closes) refl

pub calm_semicolon : (t : Token) (behind : Tokens) → is_calm t ≡ true → behind_semicolon (t ∷ behind) ≡ behind_semicolon behind
unfolding behind_semicolon
calm_semicolon t behind h = let f = flat t.kind t.text t.line h in rw f.ends refl

-- the tokens are calm ones, and then the rest
pub data AreCalm : Tokens → Tokens → Type 0 where
  done : {ts : Tokens} → AreCalm ts ts
  more : {t : Token} {ts rest : Tokens} → is_calm t ≡ true → AreCalm ts rest → AreCalm (t ∷ ts) rest

pub calm_then : {ts mid rest : Tokens} → AreCalm ts mid → AreCalm mid rest → AreCalm ts rest
calm_then done k = k
calm_then (more h j) k = more h (calm_then j k)

pub calm_behind : {ts rest : Tokens} → AreCalm ts rest → behind_semicolon ts ≡ behind_semicolon rest
calm_behind done = refl
calm_behind (more {t} {ts} h k) = calm_semicolon t ts h ∙ calm_behind k

-- ---- words

pub name_calm : (w : Bytes) → is_keyword w ≡ false → not (is_watched w) ≡ true
unfolding is_watched is_left_out_word is_keyword
name_calm w h = rw (
  no_keyword w (codes "goto") h refl,
  no_keyword w (codes "continue") h refl,
  no_keyword w (codes "typedef") h refl,
  no_keyword w (codes "enum") h refl,
  no_keyword w (codes "union") h refl,
  no_keyword w (codes "float") h refl,
  no_keyword w (codes "double") h refl,
  no_keyword w (codes "_Bool") h refl,
  no_keyword w (codes "const") h refl,
  no_keyword w (codes "volatile") h refl,
  no_keyword w (codes "restrict") h refl,
  no_keyword w (codes "extern") h refl,
  no_keyword w (codes "register") h refl,
  no_keyword w (codes "auto") h refl,
  no_keyword w (codes "inline") h refl,
  no_keyword w (codes "struct") h refl,
  no_keyword w (codes "return") h refl,
  no_keyword w (codes "case") h refl,
  no_keyword w (codes "default") h refl,
) refl

pub plain_calm : (w : Bytes) → is_plain_name w ≡ true → not (is_watched w) ≡ true
unfolding is_plain_name
plain_calm w h = name_calm w (not-true (is_keyword w) (and_parts _ _ h).0)

abbrev calm_word : Bytes → Bool
calm_word w = not (is_watched w)

counted_calm : (w : Bytes) (vs : List Bytes) → list_all calm_word vs ≡ true → 0 < times w vs → calm_word w ≡ true
counted_calm w [] h k = absurd (omega (arith, k))
counted_calm w (v ∷ vs) h k = by_answer (bytes_eq w v)
    (λ t. ap calm_word ((bytes_eq-Decides w v).0 t) ∙ (and_parts (calm_word v) (list_all calm_word vs) h).0)
    (λ f. counted_calm w vs (and_parts (calm_word v) (list_all calm_word vs) h).1 (let e : times w (v ∷ vs) ≡ 0 + times w vs = rw f refl in omega (arith, e, k)))

self_counted : (v : Bytes) (vs : List Bytes) → 0 < times v (v ∷ vs)
self_counted v vs = let e : times v (v ∷ vs) ≡ 1 + times v vs = rw ((bytes_eq-Decides v v).1 refl) refl in omega (arith, e)

later_counted : (w v : Bytes) (vs : List Bytes) → 0 < times w vs → 0 < times w (v ∷ vs)
later_counted w v vs h = omega (arith, h)

all_calm : (ws : List Bytes) → ((w : Bytes) → 0 < times w ws → calm_word w ≡ true) → list_all calm_word ws ≡ true
all_calm [] h = refl
all_calm (v ∷ vs) h =
    let a = h v (self_counted v vs) in
    let b = all_calm vs (λ w k. h w (later_counted w v vs k)) in
    rw (a, b) refl

pub contained : {A : Type 0} (f : A → Bool) (xs : List A) (x : A) → list_all f xs ≡ true → Contains xs x → f x ≡ true
contained f [] x h c = absurd (omega (arith, c.1))
contained f (y ∷ ys) x h (zero, within, is) = ap f (sym is) ∙ (and_parts (f y) (list_all f ys) h).0
contained f (y ∷ ys) x h (suc k, within, is) = contained f ys x (and_parts (f y) (list_all f ys) h).1 (k, omega (arith, within), is)

spellings_calm : (t : IntType) → list_all (list_all calm_word) (spellings t) ≡ true
unfolding is_watched is_left_out_word
spellings_calm Char = refl
spellings_calm UChar = refl
spellings_calm Short = refl
spellings_calm UShort = refl
spellings_calm Int = refl
spellings_calm UInt = refl
spellings_calm Long = refl
spellings_calm ULong = refl

int_words_calm : {ws : List Bytes} {t : IntType} → IsIntWords ws t → list_all calm_word ws ≡ true
int_words_calm {ws} {t} (spelled {spelling} c same) =
    let h = contained (list_all calm_word) (spellings t) spelling (spellings_calm t) c in
    all_calm ws (λ w k. counted_calm w spelling h (let e = same w in omega (arith, e, k)))

words_calm : {ts rest : Tokens} {ws : List Bytes} → AreWords ts ws rest → list_all calm_word ws ≡ true → AreCalm ts rest
words_calm none h = done
words_calm (some {w} {ws = ws} k) h = let p = and_parts (calm_word w) (list_all calm_word ws) h in more p.0 (words_calm k p.1)

pub int_calm : {ts rest : Tokens} {t : IntType} → IsIntType ts t rest → AreCalm ts rest
int_calm (words h s k) = words_calm h (int_words_calm s)

-- ---- expressions

sign_calm : (op : Infix) (l : ℕ) → is_calm (mark (sign op) l) ≡ true
sign_calm (Strict Mul) l = refl
sign_calm (Strict Div) l = refl
sign_calm (Strict Rem) l = refl
sign_calm (Strict Add) l = refl
sign_calm (Strict Sub) l = refl
sign_calm (Strict Shl) l = refl
sign_calm (Strict Shr) l = refl
sign_calm (Strict Less) l = refl
sign_calm (Strict Greater) l = refl
sign_calm (Strict AtMost) l = refl
sign_calm (Strict AtLeast) l = refl
sign_calm (Strict Equal) l = refl
sign_calm (Strict Unequal) l = refl
sign_calm (Strict And) l = refl
sign_calm (Strict Xor) l = refl
sign_calm (Strict Or) l = refl
sign_calm AndAlso l = refl
sign_calm OrElse l = refl

prefix_calm : (op : Prefix) (l : ℕ) → is_calm (mark (prefix_sign op) l) ≡ true
prefix_calm (Sign Plus) l = refl
prefix_calm (Sign Minus) l = refl
prefix_calm (Sign Flip) l = refl
prefix_calm (Sign Not) l = refl
prefix_calm Deref l = refl
prefix_calm AddressOf l = refl

selector_calm : (by : Selector) (l : ℕ) → is_calm (mark (selector_sign by) l) ≡ true
selector_calm Dot l = refl
selector_calm Arrow l = refl

pub expr_calm : {n : ℕ} {ts rest : Tokens} {a : RawExpr} → IsExpr n ts a rest → AreCalm ts rest
unfolding is_watched is_left_out_word
expr_calm number_constant = more refl done
expr_calm character_constant = more refl done
expr_calm null = more refl done
expr_calm eof = more refl done
expr_calm (variable {text} h) = more (plain_calm text h) done
expr_calm (paren h) = more refl (calm_then (expr_calm h) (more refl done))
expr_calm (index p h k) = calm_then (expr_calm h) (more refl (calm_then (expr_calm k) (more refl done)))
expr_calm (member {l} {text} by p h k) = calm_then (expr_calm h) (more (selector_calm by l) (more (plain_calm text k) done))
expr_calm (unary {l} op p h) = more (prefix_calm op l) (expr_calm h)
expr_calm (cast p h k) = more refl (calm_then (int_calm h) (more refl (expr_calm k)))
expr_calm (binary {l} op p h k) = calm_then (expr_calm h) (more (sign_calm op l) (expr_calm k))
expr_calm (choose p h k j) = calm_then (expr_calm h) (more refl (calm_then (expr_calm k) (more refl (expr_calm j))))

-- ---- what a token that begins a left-out construct says

differ : {A : Type 0} (v w : Bytes) → v ≡ w → bytes_eq v w ≡ false → A
differ v w same h = absurd (true≢false (sym ((bytes_eq-Decides v w).1 same) ∙ h))

other_kind : {A : Type 0} (k j : TokenKind) → k ≡ j → same_kind j k ≡ false → A
other_kind k j same h = absurd (true≢false (sym (ap (same_kind j) same ∙ itself j) ∙ h))
  where
    itself : (j : TokenKind) → same_kind j j ≡ true
    itself Name = refl
    itself Number = refl
    itself Character = refl
    itself Str = refl
    itself Mark = refl
    itself Include = refl
    itself Directive = refl

-- a mark other than `...` begins none
pub mark_untold : (t : Token) (before behind : Tokens) → t.kind ≡ Mark → bytes_eq t.text (codes "...") ≡ false → IsTold before t behind → ⊥
mark_untold t before behind k h (word is) = other_kind Name Mark k refl
mark_untold t before behind k h preprocessing = other_kind Directive Mark k refl
mark_untold t before behind k h ellipsis = true≢false h
mark_untold t before behind k h (early_return j) = other_kind Name Mark k refl
mark_untold t before behind k h (fallen_into_case j) = other_kind Name Mark k refl
mark_untold t before behind k h (fallen_into_default j) = other_kind Name Mark k refl
mark_untold t before behind k h (other_string j) = other_kind Str Mark k refl
mark_untold t before behind k h (struct_result j) = other_kind Name Mark k refl
mark_untold t before behind k h (struct_param j i g) = other_kind Name Mark k refl

-- an include begins none
pub include_untold : (t : Token) (before behind : Tokens) → t.kind ≡ Include → IsTold before t behind → ⊥
include_untold t before behind k (word is) = other_kind Name Include k refl
include_untold t before behind k preprocessing = other_kind Directive Include k refl
include_untold t before behind k ellipsis = other_kind Mark Include k refl
include_untold t before behind k (early_return j) = other_kind Name Include k refl
include_untold t before behind k (fallen_into_case j) = other_kind Name Include k refl
include_untold t before behind k (fallen_into_default j) = other_kind Name Include k refl
include_untold t before behind k (other_string j) = other_kind Str Include k refl
include_untold t before behind k (struct_result j) = other_kind Name Include k refl
include_untold t before behind k (struct_param j i g) = other_kind Name Include k refl

-- a string begins one where no format begins
pub string_untold : (t : Token) (before behind : Tokens) → t.kind ≡ Str → begins_format before ≡ true → IsTold before t behind → ⊥
string_untold t before behind k h (word is) = other_kind Name Str k refl
string_untold t before behind k h preprocessing = other_kind Directive Str k refl
string_untold t before behind k h ellipsis = other_kind Mark Str k refl
string_untold t before behind k h (early_return j) = other_kind Name Str k refl
string_untold t before behind k h (fallen_into_case j) = other_kind Name Str k refl
string_untold t before behind k h (fallen_into_default j) = other_kind Name Str k refl
string_untold t before behind k h (other_string j) = true≢false (sym h ∙ j)
string_untold t before behind k h (struct_result j) = other_kind Name Str k refl
string_untold t before behind k h (struct_param j i g) = other_kind Name Str k refl

-- a return begins one where it isn't the last statement of its function
pub return_untold : (t : Token) (before behind : Tokens) → t.kind ≡ Name → t.text ≡ codes "return" → ends_function before behind ≡ true → IsTold before t behind → ⊥
unfolding is_left_out_word
return_untold t before behind k w h (word is) = true≢false (sym is ∙ ap is_left_out_word w)
return_untold t before behind k w h preprocessing = other_kind Directive Name k refl
return_untold t before behind k w h ellipsis = other_kind Mark Name k refl
return_untold t before behind k w h (early_return j) = true≢false (sym h ∙ j)
return_untold t before behind k w h (fallen_into_case j) = differ (codes "case") (codes "return") w refl
return_untold t before behind k w h (fallen_into_default j) = differ (codes "default") (codes "return") w refl
return_untold t before behind k w h (other_string j) = other_kind Str Name k refl
return_untold t before behind k w h (struct_result j) = differ (codes "struct") (codes "return") w refl
return_untold t before behind k w h (struct_param j i g) = differ (codes "struct") (codes "return") w refl

-- a case or default begins one where no label may follow
pub case_untold : (t : Token) (before behind : Tokens) → t.kind ≡ Name → t.text ≡ codes "case" → begins_label before ≡ true → IsTold before t behind → ⊥
unfolding is_left_out_word
case_untold t before behind k w h (word is) = true≢false (sym is ∙ ap is_left_out_word w)
case_untold t before behind k w h preprocessing = other_kind Directive Name k refl
case_untold t before behind k w h ellipsis = other_kind Mark Name k refl
case_untold t before behind k w h (early_return j) = differ (codes "return") (codes "case") w refl
case_untold t before behind k w h (fallen_into_case j) = true≢false (sym h ∙ j)
case_untold t before behind k w h (fallen_into_default j) = differ (codes "default") (codes "case") w refl
case_untold t before behind k w h (other_string j) = other_kind Str Name k refl
case_untold t before behind k w h (struct_result j) = differ (codes "struct") (codes "case") w refl
case_untold t before behind k w h (struct_param j i g) = differ (codes "struct") (codes "case") w refl

pub default_untold : (t : Token) (before behind : Tokens) → t.kind ≡ Name → t.text ≡ codes "default" → begins_label before ≡ true → IsTold before t behind → ⊥
unfolding is_left_out_word
default_untold t before behind k w h (word is) = true≢false (sym is ∙ ap is_left_out_word w)
default_untold t before behind k w h preprocessing = other_kind Directive Name k refl
default_untold t before behind k w h ellipsis = other_kind Mark Name k refl
default_untold t before behind k w h (early_return j) = differ (codes "return") (codes "default") w refl
default_untold t before behind k w h (fallen_into_case j) = differ (codes "case") (codes "default") w refl
default_untold t before behind k w h (fallen_into_default j) = true≢false (sym h ∙ j)
default_untold t before behind k w h (other_string j) = other_kind Str Name k refl
default_untold t before behind k w h (struct_result j) = differ (codes "struct") (codes "default") w refl
default_untold t before behind k w h (struct_param j i g) = differ (codes "struct") (codes "default") w refl

-- a struct begins one as the result of a function, or as a parameter
pub struct_untold : (t : Token) (before behind : Tokens) → t.kind ≡ Name → t.text ≡ codes "struct" → names_function behind ≡ false
    → ((open_braces before == 0) ≡ true → begins_param before ≡ true → names_param behind ≡ true → ⊥) → IsTold before t behind → ⊥
unfolding is_left_out_word
struct_untold t before behind k w h p (word is) = true≢false (sym is ∙ ap is_left_out_word w)
struct_untold t before behind k w h p preprocessing = other_kind Directive Name k refl
struct_untold t before behind k w h p ellipsis = other_kind Mark Name k refl
struct_untold t before behind k w h p (early_return j) = differ (codes "return") (codes "struct") w refl
struct_untold t before behind k w h p (fallen_into_case j) = differ (codes "case") (codes "struct") w refl
struct_untold t before behind k w h p (fallen_into_default j) = differ (codes "default") (codes "struct") w refl
struct_untold t before behind k w h p (other_string j) = other_kind Str Name k refl
struct_untold t before behind k w h p (struct_result j) = true≢false (sym j ∙ h)
struct_untold t before behind k w h p (struct_param j i g) = p j i g
