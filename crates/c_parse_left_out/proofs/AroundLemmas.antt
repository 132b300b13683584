-- Steps along the tokens on one side of a token, the nearest first.
use Rattle.std.proofs.Common.{◌≡◌, ◌≢◌, ℕ, zero, suc, ◌+◌, ◌-◌, ◌<◌, [], ◌∷◌, length, drop, refl, sym, ap, ◌∙◌, arith, true, false, Bool, Some, codes, slice_get, ◌&&◌, ◌||◌, not, ◌==◌, if◌then◌else◌}
use Rattle.std.proofs.lemmas.Bool.{eqb-true, eq-eqb, ne_eqb}
use Rattle.c_language.specs.TokenForms.{Tokens}
use Rattle.c_language.specs.Sees.{is_token, is_some_token, is_kind, sees}
use Rattle.c_language.specs.IntWords.{is_int_word}
use Rattle.c_language.specs.LeftOut.{is_opening, is_closing, innermost, outside, behind_stars, behind_words, holds_long, behind_semicolon, stands_here, open_braces, owed_colons}
use Rattle.c_language.specs.declared.token.Token.{Token}
use Rattle.c_language.specs.declared.token.TokenKind.TheVariants.{Name, Mark}
use Rattle.c_parse_left_out.specs.Around.{owed_behind, stops, finds, closed_behind}
use Rattle.c_parse_left_out.specs.Telling.{braces_behind}

-- ---- the token at a place, and those behind it

step_at : (k : ℕ) (ts : Tokens) (t : Token) → slice_get ts k ≡ Some t → drop k ts ≡ t ∷ drop (suc k) ts
step_at zero [] t h = absurd cc
step_at zero (u ∷ ts) t h = let e : u ≡ t = cc in ap (λ x. x ∷ ts) e
step_at (suc k) [] t h = absurd cc
step_at (suc k) (u ∷ ts) t h = step_at k ts t h

pub step : (k : ℕ) (ts : Tokens) (t : Token) → slice_get ts k ≡ Some t → drop k ts ≡ t ∷ drop (k + 1) ts
step k ts t h = let e : suc k ≡ k + 1 = omega arith in step_at k ts t h ∙ ap (λ n. t ∷ drop n ts) e

get_drop : (k : ℕ) (ts : Tokens) → slice_get (drop k ts) 0 ≡ slice_get ts k
get_drop zero ts = refl
get_drop (suc k) [] = refl
get_drop (suc k) (t ∷ ts) = get_drop k ts

-- ---- brackets

module _ (k n : ℕ) (ts : Tokens) (t : Token) (e : slice_get ts k ≡ Some t) {x : Tokens} where
  pub closing_at : {m : ℕ} → x ≡ innermost n (drop k ts) → is_closing t ≡ true → m ≡ n + 1 → x ≡ innermost m (drop (k + 1) ts)
  unfolding innermost
  closing_at so_far h m = so_far ∙ (ap (innermost n) (step k ts t e) ∙ (rw h refl ∙ ap (λ i. innermost i (drop (k + 1) ts)) (sym m)))

  pub other_at : {m : ℕ} → x ≡ innermost n (drop k ts) → is_closing t ≡ false → is_opening t ≡ false → m ≡ n → x ≡ innermost m (drop (k + 1) ts)
  unfolding innermost
  other_at so_far h o m = so_far ∙ (ap (innermost n) (step k ts t e) ∙ (rw (h, o) refl ∙ ap (λ i. innermost i (drop (k + 1) ts)) (sym m)))

  pub found_at : x ≡ innermost n (drop k ts) → is_closing t ≡ false → is_opening t ≡ true → n ≡ 0 → drop k ts ≡ x
  unfolding innermost
  found_at so_far h o z = let z : (n == 0) ≡ true = eq-eqb n 0 z in step k ts t e ∙ sym (so_far ∙ (ap (innermost n) (step k ts t e) ∙ rw (h, o, z) refl))

  pub opening_at : {m : ℕ} → x ≡ innermost n (drop k ts) → is_closing t ≡ false → is_opening t ≡ true → n ≢ 0 → m ≡ n - 1 → x ≡ innermost m (drop (k + 1) ts)
  unfolding innermost
  opening_at so_far h o z m = let z : (n == 0) ≡ false = ne_eqb n 0 z in so_far ∙ (ap (innermost n) (step k ts t e) ∙ (rw (h, o, z) refl ∙ ap (λ i. innermost i (drop (k + 1) ts)) (sym m)))

  pub opened_out : {m : ℕ} → x ≡ outside n (drop k ts) → is_opening t ≡ true → m ≡ n + 1 → x ≡ outside m (drop (k + 1) ts)
  unfolding outside
  opened_out so_far h m = so_far ∙ (ap (outside n) (step k ts t e) ∙ (rw h refl ∙ ap (λ i. outside i (drop (k + 1) ts)) (sym m)))

  pub other_out : {m : ℕ} → x ≡ outside n (drop k ts) → is_opening t ≡ false → is_closing t ≡ false → m ≡ n → x ≡ outside m (drop (k + 1) ts)
  unfolding outside
  other_out so_far h o m = so_far ∙ (ap (outside n) (step k ts t e) ∙ (rw (h, o) refl ∙ ap (λ i. outside i (drop (k + 1) ts)) (sym m)))

  pub found_out : x ≡ outside n (drop k ts) → is_opening t ≡ false → is_closing t ≡ true → n ≡ 0 → drop (k + 1) ts ≡ x
  unfolding outside
  found_out so_far h o z = let z : (n == 0) ≡ true = eq-eqb n 0 z in sym (so_far ∙ (ap (outside n) (step k ts t e) ∙ rw (h, o, z) refl))

  pub closed_out : {m : ℕ} → x ≡ outside n (drop k ts) → is_opening t ≡ false → is_closing t ≡ true → n ≢ 0 → m ≡ n - 1 → x ≡ outside m (drop (k + 1) ts)
  unfolding outside
  closed_out so_far h o z m = let z : (n == 0) ≡ false = ne_eqb n 0 z in so_far ∙ (ap (outside n) (step k ts t e) ∙ (rw (h, o, z) refl ∙ ap (λ i. outside i (drop (k + 1) ts)) (sym m)))

-- ---- runs of stars and of words, and the first semicolon

module _ (k : ℕ) (ts : Tokens) (t : Token) (e : slice_get ts k ≡ Some t) where
  pub star_at : is_token Mark (codes "*") t ≡ true → behind_stars (drop k ts) ≡ behind_stars (drop (k + 1) ts)
  unfolding behind_stars
  star_at h = ap behind_stars (step k ts t e) ∙ rw h refl

  pub no_star : is_token Mark (codes "*") t ≡ false → behind_stars (drop k ts) ≡ drop k ts
  unfolding behind_stars
  no_star h = ap behind_stars (step k ts t e) ∙ (rw h refl ∙ sym (step k ts t e))

  pub word_at : (is_kind Name t && is_int_word t.text) ≡ true → behind_words (drop k ts) ≡ behind_words (drop (k + 1) ts)
  unfolding behind_words
  word_at h = ap behind_words (step k ts t e) ∙ rw h refl

  pub no_word : (is_kind Name t && is_int_word t.text) ≡ false → behind_words (drop k ts) ≡ drop k ts
  unfolding behind_words
  no_word h = ap behind_words (step k ts t e) ∙ (rw h refl ∙ sym (step k ts t e))

  pub long_at : is_token Name (codes "long") t ≡ true → holds_long (drop k ts) ≡ true
  unfolding holds_long
  long_at h = ap holds_long (step k ts t e) ∙ rw h refl

  pub long_later : is_token Name (codes "long") t ≡ false → (is_kind Name t && is_int_word t.text) ≡ true → holds_long (drop k ts) ≡ holds_long (drop (k + 1) ts)
  unfolding holds_long
  long_later h w = ap holds_long (step k ts t e) ∙ rw (h, w) refl

  pub no_long : is_token Name (codes "long") t ≡ false → (is_kind Name t && is_int_word t.text) ≡ false → holds_long (drop k ts) ≡ false
  unfolding holds_long
  no_long h w = ap holds_long (step k ts t e) ∙ rw (h, w) refl

  pub second_semicolon : is_token Mark (codes ";") t ≡ true → sees Mark (codes ";") (behind_semicolon (drop k ts)) ≡ is_some_token Mark (codes ";") (slice_get ts (k + 1))
  unfolding behind_semicolon sees
  second_semicolon h = ap (λ x. sees Mark (codes ";") (behind_semicolon x)) (step k ts t e) ∙ (rw h refl ∙ ap (is_some_token Mark (codes ";")) (get_drop (k + 1) ts))

  pub semicolon_after : is_token Mark (codes ";") t ≡ false → behind_semicolon (drop k ts) ≡ behind_semicolon (drop (k + 1) ts)
  unfolding behind_semicolon
  semicolon_after h = ap behind_semicolon (step k ts t e) ∙ rw h refl

-- ---- what stands in a statement

by_tests : (S : ℕ → Bool) (n : ℕ) (c b o z f x : Bool) → (z ≡ true → n ≡ 0)
    → (if c then (if z && b then false else S (n + 1)) else if o then (if z then false else S (n - 1)) else if z then (if f then true else if x then false else S 0) else S n)
    ≡ (if (if c then z && b else z && (o || (f || x))) then not c && (not o && f) else S (if c then n + 1 else if o then n - 1 else n))
by_tests S n true true o true f x h = refl
by_tests S n true false o true f x h = refl
by_tests S n true b o false f x h = refl
by_tests S n false b true true f x h = refl
by_tests S n false b true false f x h = refl
by_tests S n false b false true true x h = refl
by_tests S n false b false true false true h = refl
by_tests S n false b false true false false h = ap S (sym (h refl))
by_tests S n false b false false f x h = refl

stands_step : (found ends : Token → Bool) (n : ℕ) (t : Token) (ts : Tokens)
    → stands_here found ends n (t ∷ ts) ≡ (if stops found ends n t then finds found t else stands_here found ends (closed_behind t n) ts)
unfolding stands_here
stands_step found ends n t ts = by_tests (λ m. stands_here found ends m ts) n (is_closing t) (is_token Mark (codes "}") t) (is_opening t) (n == 0) (found t) (ends t) (eqb-true n 0)

module _ (found ends : Token → Bool) (k n : ℕ) (ts : Tokens) (t : Token) (e : slice_get ts k ≡ Some t) {x : Bool} (so_far : x ≡ stands_here found ends n (drop k ts)) where
  pub stands_stopped : stops found ends n t ≡ true → finds found t ≡ x
  stands_stopped h = sym (so_far ∙ (ap (stands_here found ends n) (step k ts t e) ∙ (stands_step found ends n t (drop (k + 1) ts) ∙ rw h refl)))

  pub stands_later : {m : ℕ} → stops found ends n t ≡ false → m ≡ closed_behind t n → x ≡ stands_here found ends m (drop (k + 1) ts)
  stands_later h m =
      so_far ∙ (ap (stands_here found ends n) (step k ts t e) ∙ (stands_step found ends n t (drop (k + 1) ts) ∙ (rw h refl ∙ ap (λ i. stands_here found ends i (drop (k + 1) ts)) (sym m))))

-- ---- from the farthest token on

-- one token nearer
pub nearer : (turn : ℕ) (ts : Tokens) (t : Token) → turn < length ts → slice_get ts (length ts - 1 - turn) ≡ Some t → drop (length ts - (turn + 1)) ts ≡ t ∷ drop (length ts - turn) ts
nearer turn ts t p h =
    let a : length ts - (turn + 1) ≡ length ts - 1 - turn = omega (arith, p) in
    let b : (length ts - 1 - turn) + 1 ≡ length ts - turn = omega (arith, p) in
    ap (λ n. drop n ts) a ∙ (step (length ts - 1 - turn) ts t h ∙ ap (λ n. t ∷ drop n ts) b)

pub braces_nearer : (turn n : ℕ) (ts : Tokens) (t : Token) → turn < length ts → slice_get ts (length ts - 1 - turn) ≡ Some t → n ≡ open_braces (drop (length ts - turn) ts)
    → braces_behind t n ≡ open_braces (drop (length ts - (turn + 1)) ts)
unfolding open_braces
braces_nearer turn n ts t p h e = ap (braces_behind t) e ∙ ap open_braces (sym (nearer turn ts t p h))

pub colons_nearer : (turn n : ℕ) (ts : Tokens) (t : Token) → turn < length ts → slice_get ts (length ts - 1 - turn) ≡ Some t → n ≡ owed_colons (drop (length ts - turn) ts)
    → owed_behind t n ≡ owed_colons (drop (length ts - (turn + 1)) ts)
unfolding owed_colons
colons_nearer turn n ts t p h e = ap (owed_behind t) e ∙ ap owed_colons (sym (nearer turn ts t p h))
