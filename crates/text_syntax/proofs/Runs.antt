-- Runs of tokens, one behind another, and what may not follow them.
use Rattle.std.proofs.Common.{◌≡◌, ℕ, zero, suc, ◌∷◌, true, false, codes, refl}
use Rattle.std.specs.Prelude.{bytes_eq}
use Rattle.c_tree.specs.declared.raw.expr.RawType.{RawType}
use Rattle.c_tree.specs.declared.raw.expr.RawVar.{RawVar}
use Rattle.c_language.specs.Words.{Bytes}
use Rattle.c_language.specs.TokenForms.{Tokens, name, mark, line_of}
use Rattle.c_language.specs.Tokens.{is_mark}
use Rattle.c_language.specs.Sees.{sees, sees_name, is_keyword}
use Rattle.c_language.specs.IntWords.{sees_int_word}
use Rattle.c_language.specs.Spellings.{is_name}
use Rattle.c_language.specs.declared.token.TokenKind.TheVariants.{Mark}
use Rattle.c_language.proofs.Keywords.{no_int_word}
use Rattle.text_syntax.proofs.Spelled.{AreSpelled}
use Rattle.text_syntax.proofs.TreeTokens.{Tokened}
use Rattle.text_syntax.proofs.TypeTokens.{Based, Declarator, NoIntWord, NoBracket, star_tokens}

-- tokens in front of any others
pub record Front : Type 0 where
  pub tokens : Tokens → Tokens
  pub spelled : (r : Tokens) → AreSpelled r → AreSpelled (tokens r)

abbrev pub nothing : Front
nothing = record { tokens = λ r. r; spelled = λ r k. k }

-- one behind the other
abbrev pub join : Front → Front → Front
join a b = record { tokens = λ r. a.tokens (b.tokens r); spelled = λ r k. a.spelled (b.tokens r) (b.spelled r k) }

abbrev pub sign : (w : Bytes) → ℕ → is_mark w ≡ true → Front
sign w l h = record { tokens = λ r. mark w l ∷ r; spelled = λ r k. (h, k) }

abbrev pub word : (w : Bytes) → ℕ → is_name w ≡ true → Front
word w l h = record { tokens = λ r. name w l ∷ r; spelled = λ r k. (h, k) }

abbrev pub of : {P : Tokens → Tokens → Type 0} {l : ℕ} → Tokened P l → Front
of x = record { tokens = x.front; spelled = x.spelled }

abbrev pub of_base : {l : ℕ} {a : RawType} → Based l a → Front
of_base x = record { tokens = x.front; spelled = x.spelled }

abbrev pub of_declarator : {l : ℕ} {v : RawVar} → Declarator l v → Front
of_declarator x = record { tokens = x.front; spelled = x.spelled }

-- tokens of something, in front of any others
pub record Run (P : Tokens → Tokens → Type 0) : Type 0 where
  pub front : Front
  pub is : (r : Tokens) → P (front.tokens r) r

-- those that begin on this line
abbrev pub on_line : {P : Tokens → Tokens → Type 0} (l : ℕ) (x : Front) → ((r : Tokens) → line_of (x.tokens r) ≡ l) → ((r : Tokens) → P (x.tokens r) r) → Tokened P l
on_line l x line is = record { front = x.tokens; spelled = x.spelled; line = line; is = is }

-- ---- what doesn't follow

pub other_mark : (v w : Bytes) (l : ℕ) (r : Tokens) → bytes_eq v w ≡ false → sees Mark w (mark v l ∷ r) ≡ false
unfolding sees
other_mark v w l r h = h

pub no_mark : (v w : Bytes) (l : ℕ) (r : Tokens) → sees Mark w (name v l ∷ r) ≡ false
unfolding sees
no_mark v w l r = refl

pub mark_no_int : (v : Bytes) (l : ℕ) (r : Tokens) → NoIntWord (mark v l ∷ r)
unfolding sees_int_word
mark_no_int v l r = refl

pub name_no_int : (v : Bytes) (l : ℕ) (r : Tokens) → is_keyword v ≡ false → NoIntWord (name v l ∷ r)
unfolding sees_int_word
name_no_int v l r h = no_int_word v h

pub mark_no_name : (v : Bytes) (l : ℕ) (r : Tokens) → sees_name (mark v l ∷ r) ≡ false
unfolding sees_name
mark_no_name v l r = refl

pub stars_end : (n l : ℕ) (r : Tokens) → NoIntWord r → NoIntWord (star_tokens n l r)
stars_end zero l r h = h
stars_end (suc n) l r h = mark_no_int (codes "*") l (star_tokens n l r)

abbrev pub NoStar : Tokens → Type 0
NoStar r = sees Mark (codes "*") r ≡ false

-- what may stand behind a parameter
pub record EndsParam (r : Tokens) : Type 0 where
  pub no_bracket : NoBracket r
  pub no_int : NoIntWord r
  pub no_star : NoStar r
  pub no_name : sees_name r ≡ false

pub ends_param : (v : Bytes) (l : ℕ) (r : Tokens) → bytes_eq v (codes "[") ≡ false → bytes_eq v (codes "*") ≡ false → EndsParam (mark v l ∷ r)
ends_param v l r h k = record {
  no_bracket = other_mark v (codes "[") l r h;
  no_int = mark_no_int v l r;
  no_star = other_mark v (codes "*") l r k;
  no_name = mark_no_name v l r;
}
