-- The steps of a parser, passed on to what follows.
use Rattle.std.proofs.Common.{◌≡◌, ℕ, [], ◌∷◌, drop, refl, sym, ap, subst, ◌∙◌, true, false, Option, Some, None, Ok, Err, not, ◌&&◌}
use Rattle.std.proofs.lemmas.Bool.{and_parts, not-true}
use Rattle.c_language.proofs.Tests.{by_test}
use Rattle.c_language.specs.Words.{Bytes}
use Rattle.c_language.specs.TokenForms.{Tokens, name, mark}
use Rattle.c_language.specs.Sees.{is_kind, sees, is_keyword}
use Rattle.c_language.specs.declared.token.TokenKind.TheVariants.{Name, Mark}
use Rattle.c_language.specs.ExprGrammar.{is_plain_name}
use Rattle.c_parse_words.proofs.SeenTokens.{of_kind_is, sees_is}
use Rattle.c_parse_expr.specs.Outcome.{Outcome, Parser, Fault, and_then, by_option, expect, read_name}
use Rattle.c_parse_expr.specs.ExprReading.{read_member}

pub ok_parts : {A : Type 0} {a b : A} {r s : Tokens} → ◌≡◌ {A = Outcome A} (Ok (a, r)) (Ok (b, s)) → (a ≡ b) × (r ≡ s)
ok_parts {A} {a} {b} {r} {s} h =
    let e : ◌≡◌ {A = A × Tokens} (a, r) (b, s) = cc in
    (ap (λ (p : A × Tokens). p.0) e, ap (λ (p : A × Tokens). p.1) e)

pub by_step : {A B G : Type 0} {y : B × Tokens} (r : Outcome A) (f : A → Parser B) → and_then r f ≡ Ok y → ((x : A) (ts : Tokens) → r ≡ Ok (x, ts) → f x ts ≡ Ok y → G) → G
by_step (Ok p) f e go = go p.0 p.1 refl e
by_step (Err x) f e go = absurd cc

pub by_choice : {A B G : Type 0} {z : B} (o : Option A) (none : B) (some : A → B) → by_option o none some ≡ z → (o ≡ None → none ≡ z → G) → ((x : A) → o ≡ Some x → some x ≡ z → G) → G
by_choice None none some h left taken = left refl h
by_choice (Some x) none some h left taken = taken x refl h

-- how a step can fail
pub by_fault : {A B G : Type 0} {x : Fault} (o : Outcome A) (f : A → Parser B) → and_then o f ≡ Err x → (o ≡ Err x → G) → ((a : A) (ts : Tokens) → o ≡ Ok (a, ts) → f a ts ≡ Err x → G) → G
by_fault (Ok p) f h first later = later p.0 p.1 refl h
by_fault (Err x) f h first later = let e : x ≡ _ = cc in first (ap (λ y. Err y) e)

pub with_parts : {A : Type 0} {a b : A} {r s : Tokens} (P : A → Tokens → Type 0) → ◌≡◌ {A = Outcome A} (Ok (a, r)) (Ok (b, s)) → P a r → P b s
with_parts {A} {a} {b} {r} {s} P h p = let e = ok_parts h in subst (λ (x : A). P x s) e.0 (subst (λ (t : Tokens). P a t) e.1 p)

pub by_expect : {G : Type 0} (text : Bytes) (ts rest : Tokens) (u : Unit {0}) → expect text ts ≡ Ok (u, rest) → ((l : ℕ) → ts ≡ mark text l ∷ rest → G) → G
unfolding expect
by_expect text ts rest u h go = by_test (sees Mark text ts) h
    (λ is same. let s = sees_is Mark text ts is in go s.0 (s.2 ∙ ap (λ r. mark text s.0 ∷ r) (sym (ap (drop 1) s.2) ∙ (ok_parts same).1)))
    (λ isnt same. absurd cc)

-- The name that was read, passed on as variables.
pub by_name : {G : Type 0} (ts rest : Tokens) (text : Bytes) → read_name ts ≡ Ok (text, rest)
    → ((l : ℕ) → is_keyword text ≡ false → ts ≡ name text l ∷ rest → G) → G
unfolding read_name
by_name [] rest text h go = absurd cc
by_name (t ∷ ts) rest text h go = by_test (is_kind Name t && not (is_keyword t.text)) h
    (λ is same.
    let parts = and_parts (is_kind Name t) (not (is_keyword t.text)) is in
    let e = ok_parts same in
    go t.line (ap is_keyword (sym e.0) ∙ not-true (is_keyword t.text) parts.1)
    (sym (ap (λ u. u ∷ ts) (of_kind_is Name t parts.0)) ∙ (ap (λ w. name w t.line ∷ ts) e.0 ∙ ap (λ r. name text t.line ∷ r) e.1)))
    (λ isnt same. absurd cc)

pub read_name_at : (text : Bytes) (l : ℕ) (ts : Tokens) → is_keyword text ≡ false → read_name (name text l ∷ ts) ≡ Ok (text, ts)
unfolding read_name
read_name_at text l ts h = rw h refl

-- The name of a member that was read, passed on as variables.
pub by_member : {G : Type 0} (ts rest : Tokens) (text : Bytes) → read_member ts ≡ Ok (text, rest)
    → ((l : ℕ) → is_plain_name text ≡ true → ts ≡ name text l ∷ rest → G) → G
unfolding read_member
by_member [] rest text h go = absurd cc
by_member (t ∷ ts) rest text h go = by_test (is_kind Name t && is_plain_name t.text) h
    (λ is same.
    let parts = and_parts (is_kind Name t) (is_plain_name t.text) is in
    let e = ok_parts same in
    go t.line (ap is_plain_name (sym e.0) ∙ parts.1)
    (sym (ap (λ u. u ∷ ts) (of_kind_is Name t parts.0)) ∙ (ap (λ w. name w t.line ∷ ts) e.0 ∙ ap (λ r. name text t.line ∷ r) e.1)))
    (λ isnt same. absurd cc)

pub read_member_at : (text : Bytes) (l : ℕ) (ts : Tokens) → is_plain_name text ≡ true → read_member (name text l ∷ ts) ≡ Ok (text, ts)
unfolding read_member
read_member_at text l ts h = rw h refl

-- no step of these fails since the tokens nest too deep
pub expect_fault : {G : Type 0} (text : Bytes) (ts : Tokens) → expect text ts ≡ Err Fault.Deep → G
unfolding expect
expect_fault text ts h = by_test (sees Mark text ts) h (λ _ h. absurd cc) (λ _ h. absurd cc)

pub member_fault : {G : Type 0} (ts : Tokens) → read_member ts ≡ Err Fault.Deep → G
unfolding read_member
member_fault [] h = absurd cc
member_fault (t ∷ ts) h = by_test (is_kind Name t && is_plain_name t.text) h (λ _ h. absurd cc) (λ _ h. absurd cc)

pub name_fault : {G : Type 0} (ts : Tokens) → read_name ts ≡ Err Fault.Deep → G
unfolding read_name
name_fault [] h = absurd cc
name_fault (t ∷ ts) h = by_test (is_kind Name t && not (is_keyword t.text)) h (λ _ h. absurd cc) (λ _ h. absurd cc)
