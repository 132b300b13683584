-- What is looked for among the tokens is found where it stands.
use Rattle.std.proofs.Common.{◌≡◌, ℕ, ◌+◌, [], ◌∷◌, ◌++◌, append-nil, length, reverse, refl, sym, ap, subst, ◌∙◌, arith, true, false, Bool, ◌||◌, Option, Some, None, codes, inl, inr, ◌==◌, if◌then◌else◌}
use Rattle.std.specs.Str.{bytes_eq}
use Rattle.std.proofs.lemmas.Bool.{cases_Bool, and_parts, or_right, not-true}
use Rattle.c_language.proofs.Tests.{by_or}
use Rattle.c_language.specs.Words.{Bytes}
use Rattle.c_language.specs.TokenForms.{Tokens, of_kind, name, mark}
use Rattle.c_language.specs.LeftOut.{is_left_out_word, open_braces, names_function, begins_param, IsTold, BeginsLeftOut}
use Rattle.c_language.specs.declared.token.Token.{Token}
use Rattle.c_language.specs.declared.token.TokenKind.{TokenKind}
use Rattle.c_language.specs.declared.token.TokenKind.TheVariants.{Name, Number, Character, Str, Mark, Include, Directive}
use Rattle.c_parse_left_out.specs.Telling.{told_word, told_by, told, first_told}
use Rattle.c_parse_left_out.specs.Places.{IsToldAt, IsLeftOutAt}
use Rattle.c_language.proofs.Lists.{same_bytes, reversed}

pub by_if : {G : Type 0} (b : Bool) (x y : Bool) → (if b then x else y) ≡ true → (b ≡ true → x ≡ true → G) → (b ≡ false → y ≡ true → G) → G
by_if true x y h yes_ no_ = yes_ refl h
by_if false x y h yes_ no_ = no_ refl h

word_is : (w : Bytes) (l : ℕ) (before behind : Tokens) → told_word w before behind ≡ true → IsTold before (name w l) behind
unfolding told_word
word_is w l before behind h = by_if (is_left_out_word w) _ _ h
    (λ is _. IsTold.word is)
    (λ _ h. by_if (bytes_eq w (codes "return")) _ _ h
    (λ is h. subst (λ v. IsTold before (name v l) behind) (sym (same_bytes w _ is)) (IsTold.early_return (not-true _ h)))
    (λ _ h. by_if (bytes_eq w (codes "case") || bytes_eq w (codes "default")) _ _ h
    (λ is h. by_or (bytes_eq w (codes "case")) _ is
    (λ is. subst (λ v. IsTold before (name v l) behind) (sym (same_bytes w _ is)) (IsTold.fallen_into_case (not-true _ h)))
    (λ is. subst (λ v. IsTold before (name v l) behind) (sym (same_bytes w _ is)) (IsTold.fallen_into_default (not-true _ h))))
    (λ _ h. by_if (bytes_eq w (codes "struct")) _ _ h
    (λ is h. by_or (names_function behind) _ h
    (λ f. subst (λ v. IsTold before (name v l) behind) (sym (same_bytes w _ is)) (IsTold.struct_result f))
    (λ p. let outer = and_parts (open_braces before == 0) _ p in let parts = and_parts (begins_param before) _ outer.1 in subst (λ v. IsTold before (name v l) behind) (sym (same_bytes w _ is)) (IsTold.struct_param outer.0 parts.0 parts.1)))
    (λ _ h. absurd cc))))

told_kind : (kind : TokenKind) (w : Bytes) (l : ℕ) (before behind : Tokens) → told_by kind w before behind ≡ true → IsTold before (of_kind kind w l) behind
told_kind Name w l before behind h = word_is w l before behind h
told_kind Number w l before behind h = absurd cc
told_kind Character w l before behind h = absurd cc
told_kind Str w l before behind h = IsTold.other_string (not-true _ h)
told_kind Mark w l before behind h = subst (λ v. IsTold before (mark v l) behind) (sym (same_bytes w _ h)) IsTold.ellipsis
told_kind Include w l before behind h = absurd cc
told_kind Directive w l before behind h = IsTold.preprocessing

told_is : (before : Tokens) (t : Token) (behind : Tokens) → told before t behind ≡ true → IsTold before t behind
told_is before t behind h = told_kind t.kind t.text t.line before behind h

-- each construct is told
pub told_true : {before behind : Tokens} {t : Token} → IsTold before t behind → told before t behind ≡ true
unfolding told_word is_left_out_word
told_true (IsTold.word h) = rw h refl
told_true IsTold.preprocessing = refl
told_true IsTold.ellipsis = refl
told_true (IsTold.early_return h) = rw h refl
told_true (IsTold.fallen_into_case h) = rw h refl
told_true (IsTold.fallen_into_default h) = rw h refl
told_true (IsTold.other_string h) = rw h refl
told_true (IsTold.struct_result h) = rw h refl
told_true (IsTold.struct_param {behind} o h k) = rw (o, h, k) (or_right (names_function behind) true refl)

-- what is found
record Found (at k : ℕ) (before ts : Tokens) : Type 0 where
  front : Tokens
  token : Token
  behind : Tokens
  split : ts ≡ front ++ token ∷ behind
  place : k ≡ at + length front
  is : told (reverse front ++ before) token behind ≡ true

find_some : (at k : ℕ) (before ts : Tokens) → first_told at before ts ≡ Some k → Found at k before ts
unfolding first_told
find_some at k before [] h = absurd cc
find_some at k before (t ∷ ts) h = elim (cases_Bool (told before t ts)) [
  | inl is ↦ let e : Some at ≡ Some k = sym (rw is refl) ∙ h in let f : at ≡ k = cc in record { front = []; token = t; behind = ts; split = refl; place = omega (arith, f); is = is }
  | inr isnt ↦ let e : first_told (at + 1) (t ∷ before) ts ≡ Some k = rw isnt at h in
      let x = find_some (at + 1) k (t ∷ before) ts e in
      record { front = t ∷ x.front; token = x.token; behind = x.behind; split = ap (λ r. t ∷ r) x.split; place = omega (arith, x.place); is = ap (λ b. told b x.token x.behind) (reversed t x.front before) ∙ x.is }
]

none_found : (at : ℕ) (other : Option ℕ) (b : Bool) → (if b then Some at else other) ≡ None → b ≡ true → ⊥
none_found at other true h is = cc
none_found at other false h is = cc

find_none : (at : ℕ) (before ts front : Tokens) (t : Token) (behind : Tokens) → first_told at before ts ≡ None → ts ≡ front ++ t ∷ behind → told (reverse front ++ before) t behind ≡ false
unfolding first_told
find_none at before [] [] t behind h e = absurd cc
find_none at before [] (u ∷ front) t behind h e = absurd cc
find_none at before (s ∷ ts) [] t behind h e =
    let head : s ≡ t = cc in
    let tail : ts ≡ behind = cc in
    elim (cases_Bool (told before s ts)) [
      | inl is ↦ absurd (none_found at (first_told (at + 1) (s ∷ before) ts) (told before s ts) h is)
      | inr isnt ↦ ap (λ x. told before x behind) (sym head) ∙ (ap (λ r. told before s r) (sym tail) ∙ isnt)
    ]
find_none at before (s ∷ ts) (u ∷ front) t behind h e =
    let head : s ≡ u = cc in
    let tail : ts ≡ front ++ t ∷ behind = cc in
    elim (cases_Bool (told before s ts)) [
      | inl is ↦ absurd (none_found at (first_told (at + 1) (s ∷ before) ts) (told before s ts) h is)
      | inr isnt ↦
          let next : first_told (at + 1) (s ∷ before) ts ≡ None = rw isnt at h in
          let x = find_none (at + 1) (s ∷ before) ts front t behind next tail in
          ap (λ v. told (reverse (v ∷ front) ++ before) t behind) (sym head) ∙ (ap (λ b. told b t behind) (reversed s front before) ∙ x)
    ]

pub told_at : (k : ℕ) (ts : Tokens) → first_told 0 [] ts ≡ Some k → IsToldAt ts k
told_at k ts h =
    let x = find_some 0 k [] ts h in
    record { front = x.front; token = x.token; behind = x.behind; split = x.split; place = omega (arith, x.place); told = told_is (reverse x.front) x.token x.behind (ap (λ b. told b x.token x.behind) (sym (append-nil (reverse x.front))) ∙ x.is) }

pub nothing_told : (ts front : Tokens) (t : Token) (behind : Tokens) → first_told 0 [] ts ≡ None → ts ≡ front ++ t ∷ behind → IsTold (reverse front) t behind → ⊥
nothing_told ts front t behind h e is =
    let x = find_none 0 [] ts front t behind h e in
    let y : told (reverse front ++ []) t behind ≡ true = ap (λ b. told b t behind) (append-nil (reverse front)) ∙ told_true is in
    let f : true ≡ false = sym y ∙ x in cc

-- A construct that its tokens tell is left out.
pub told_is_left_out : (k : ℕ) (ts : Tokens) → first_told 0 [] ts ≡ Some k → IsLeftOutAt ts k
told_is_left_out k ts h =
    let x = told_at k ts h in
    record { front = x.front; token = x.token; behind = x.behind; split = x.split; place = x.place; begins = BeginsLeftOut.told x.told }
