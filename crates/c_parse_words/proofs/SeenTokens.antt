-- What a test of the next token says of the tokens.
use Rattle.std.proofs.Common.{◌≡◌, ℕ, [], ◌∷◌, refl, sym, ap, ◌∙◌, Bool, true, false, inl, inr}
use Rattle.std.proofs.lemmas.Bool.{cases_Bool, and_parts}
use Rattle.std.specs.Str.{bytes_eq}
use Rattle.c_language.specs.Words.{Bytes}
use Rattle.c_language.specs.TokenForms.{Tokens, of_kind}
use Rattle.c_language.specs.Sees.{same_kind, is_kind, sees}
use Rattle.c_language.specs.declared.token.Token.{Token}
use Rattle.c_language.specs.declared.token.TokenKind.{TokenKind}
use Rattle.c_language.specs.declared.token.TokenKind.TheVariants.{Name, Number, Character, Str, Mark, Include, Directive}
use Rattle.c_language.proofs.Lists.{same_bytes}

-- a word that passes a test is none that fails it
pub apart_by : (test : Bytes → Bool) (w text : Bytes) → test w ≡ true → test text ≡ false → bytes_eq w text ≡ false
apart_by test w text h k = elim (cases_Bool (bytes_eq w text)) [
  | inl is ↦ let e : test w ≡ test text = ap test (same_bytes w text is) in absurd (let f : true ≡ false = sym h ∙ (e ∙ k) in cc)
  | inr isnt ↦ isnt
]

same_kind_is : (k j : TokenKind) → same_kind k j ≡ true → j ≡ k
same_kind_is Name Name h = refl
same_kind_is Number Number h = refl
same_kind_is Character Character h = refl
same_kind_is Str Str h = refl
same_kind_is Mark Mark h = refl
same_kind_is Include Include h = refl
same_kind_is Directive Directive h = refl
same_kind_is _ _ h = cc

pub kind_is : (kind : TokenKind) (t : Token) → is_kind kind t ≡ true → t.kind ≡ kind
kind_is kind t h = same_kind_is kind t.kind h

-- a token of a kind is the token of that kind with its text and line
pub of_kind_is : (kind : TokenKind) (t : Token) → is_kind kind t ≡ true → of_kind kind t.text t.line ≡ t
of_kind_is kind t h = ap (λ k. of_kind k t.text t.line) (sym (kind_is kind t h))

pub sees_is : (kind : TokenKind) (text : Bytes) (ts : Tokens) → sees kind text ts ≡ true
    → (l : ℕ) × (rest : Tokens) × (ts ≡ of_kind kind text l ∷ rest)
unfolding sees
sees_is kind text [] h = cc
sees_is kind text (t ∷ ts) h =
    let parts = and_parts (is_kind kind t) (bytes_eq t.text text) h in
    let k = kind_is kind t parts.0 in
    let x : t.text ≡ text = same_bytes t.text text parts.1 in
    (t.line, ts, ap (λ k. of_kind k t.text t.line ∷ ts) k ∙ ap (λ x. of_kind kind x t.line ∷ ts) x)

-- The token that was seen and those behind it, passed on as variables.
pub by_seen : {G : Type 0} (kind : TokenKind) (text : Bytes) (ts : Tokens) → sees kind text ts ≡ true
    → ((l : ℕ) (rest : Tokens) → ts ≡ of_kind kind text l ∷ rest → G) → G
by_seen kind text ts h go = let w = sees_is kind text ts h in go w.0 w.1 w.2
