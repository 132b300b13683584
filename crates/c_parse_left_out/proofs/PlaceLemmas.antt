-- Tokens at a place of a list, those before it, the nearest first, and those behind it.
use Rattle.std.proofs.Common.{◌≡◌, ℕ, zero, suc, ◌+◌, [], ◌∷◌, ◌++◌, take, drop, reverse, refl, sym, ap, ◌∙◌, arith, false, codes}
use Rattle.std.proofs.lemmas.List.{reverse-append}
use Rattle.c_language.specs.TokenForms.{Tokens}
use Rattle.c_language.specs.Sees.{is_token}
use Rattle.c_language.specs.LeftOut.{open_braces, behind_semicolon}
use Rattle.c_language.specs.declared.token.Token.{Token}
use Rattle.c_language.specs.declared.token.TokenKind.TheVariants.{Mark}
use Rattle.c_parse_left_out.specs.Telling.{told, first_told, braces_behind}

-- ---- one token further

record Next (at : ℕ) (ts : Tokens) (t : Token) (behind : Tokens) : Type 0 where
  taken : take (suc at) ts ≡ take at ts ++ t ∷ []
  left : drop (suc at) ts ≡ behind

next : (at : ℕ) (ts : Tokens) (t : Token) (behind : Tokens) → drop at ts ≡ t ∷ behind → Next at ts t behind
next zero [] t behind h = absurd cc
next zero (u ∷ ts) t behind h = record { taken = (let e : u ≡ t = cc in ap (λ x. x ∷ []) e); left = (let e : ts ≡ behind = cc in e) }
next (suc at) [] t behind h = absurd cc
next (suc at) (u ∷ ts) t behind h = let x = next at ts t behind h in record { taken = ap (λ r. u ∷ r) x.taken; left = x.left }

pub before_next : (at : ℕ) (ts : Tokens) (t : Token) (behind : Tokens) → drop at ts ≡ t ∷ behind → reverse (take (at + 1) ts) ≡ t ∷ reverse (take at ts)
before_next at ts t behind h =
    let x = next at ts t behind h in
    let e : at + 1 ≡ suc at = omega arith in
    ap (λ n. reverse (take n ts)) e ∙ (ap reverse x.taken ∙ reverse-append (take at ts) (t ∷ []))

pub behind_next : (at : ℕ) (ts : Tokens) (t : Token) (behind : Tokens) → drop at ts ≡ t ∷ behind → drop (at + 1) ts ≡ behind
behind_next at ts t behind h =
    let x = next at ts t behind h in
    let e : at + 1 ≡ suc at = omega arith in
    ap (λ n. drop n ts) e ∙ x.left

-- ---- looking for a construct

pub told_later : (at : ℕ) (ts : Tokens) (t : Token) (behind : Tokens) → drop at ts ≡ t ∷ behind → told (reverse (take at ts)) t behind ≡ false
    → first_told at (reverse (take at ts)) (drop at ts) ≡ first_told (at + 1) (reverse (take (at + 1) ts)) (drop (at + 1) ts)
unfolding first_told
told_later at ts t behind h isnt =
    ap (first_told at (reverse (take at ts))) h ∙ (rw isnt refl ∙ (ap (λ b. first_told (at + 1) b behind) (sym (before_next at ts t behind h)) ∙ ap (first_told (at + 1) (reverse (take (at + 1) ts))) (sym (behind_next at ts t behind h))))

pub open_next : (at : ℕ) (ts : Tokens) (t : Token) (behind : Tokens) (n : ℕ) → drop at ts ≡ t ∷ behind → n ≡ open_braces (reverse (take at ts)) → braces_behind t n ≡ open_braces (reverse (take (at + 1) ts))
unfolding open_braces
open_next at ts t behind n h e = ap (braces_behind t) e ∙ ap open_braces (sym (before_next at ts t behind h))

-- ---- behind the first semicolon

pub semicolon_later : (at : ℕ) (ts : Tokens) (t : Token) (behind : Tokens) → drop at ts ≡ t ∷ behind → is_token Mark (codes ";") t ≡ false → behind_semicolon (drop at ts) ≡ behind_semicolon behind
unfolding behind_semicolon
semicolon_later at ts t behind h isnt = ap behind_semicolon h ∙ rw isnt refl
