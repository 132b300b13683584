-- The words of types, declarators and parameters: how they are joined, and the tokens of stars.
use Rattle.std.proofs.Common.{◌≡◌, ℕ, zero, suc, List, [], ◌∷◌, ◌++◌, map, replicate, append_assoc, append-nil, refl, sym, ap, ◌∙◌, true, false, codes, decimal, Option, None}
use Rattle.std.specs.Prelude.{is_none, nat_lt}
use Rattle.c_tree.specs.declared.raw.expr.RawLength.TheVariants.{Listed}
use Rattle.c_tree.specs.declared.raw.expr.RawType.{RawType}
use Rattle.c_tree.specs.declared.raw.expr.RawType.TheVariants as type
use Rattle.c_tree.specs.declared.raw.program.RawParam.{RawParam}
use Rattle.c_tree.specs.declared.raw.statement.RawTypeName.{RawTypeName}
use Rattle.c_language.specs.Words.{Bytes, spaced_stars}
use Rattle.c_language.specs.Layout.{params_words}
use Rattle.c_language.specs.Characters.{is_letter}
use Rattle.c_language.specs.TokenForms.{Tokens, name, number, mark}
use Rattle.c_language.specs.Sees.{sees, sees_name, is_keyword}
use Rattle.c_language.specs.IntWords.{sees_int_word}
use Rattle.c_language.specs.ExprGrammar.{number_constant}
use Rattle.c_language.specs.TypeGrammar.{IsBase, IsStars, pointed_n, NamesType, IsLengths, IsOuterLengths, written, IsParam, IsMoreParams, IsParams, nothing}
use Rattle.c_language.specs.Tokens.{name_goes_on, IsTokens}
use Rattle.c_language.specs.declared.token.TokenKind.TheVariants.{Name, Number, Mark}
use Rattle.c_language.specs.declared.token.Before.{Before}
use Rattle.c_language.specs.declared.token.Before.TheVariants.{Token}
use Rattle.text_syntax.proofs.Clear.{Clear}
use Rattle.text_syntax.proofs.ClearItems.{no_params}
use Rattle.c_text_layout.proofs.Written.{HasForm}
use Rattle.c_text_layout.specs.RawLayout.{raw_base, raw_stars, raw_length_words, raw_lengths, raw_declared, raw_type_words, raw_param_words}
use Rattle.c_text_layout.specs.Settled.{settled_length, settled_type, settled_param, lack_lengths}
use Rattle.c_text_layout.proofs.RawTypeLemmas.{raw_base-PointerTo, raw_stars-PointerTo, raw_lengths-PointerTo, settled_type-PointerTo}
use Rattle.c_text_layout.proofs.TokenPrint.{other_class, print_blank, is_sure, print_mark, Stops, print_name, print_number, word_form}
use Rattle.c_language.proofs.Tests.{by_answer}
use Rattle.c_language.proofs.Keywords.{no_int_word}

-- ---- words that begin no type

pub name_no_int : (w : Bytes) (l : ℕ) (ts : Tokens) → is_keyword w ≡ false → sees_int_word (name w l ∷ ts) ≡ false
unfolding sees_int_word
name_no_int w l ts h = no_int_word w h

pub mark_no_int : (w : Bytes) (l : ℕ) (ts : Tokens) → sees_int_word (mark w l ∷ ts) ≡ false
unfolding sees_int_word
mark_no_int w l ts = refl

-- ---- the type before declarators

pub record PrintedBase (line : ℕ) (bytes : Bytes) (base : RawType) (after : Tokens) : Type 0 where
  pub tokens : Tokens
  pub lexed : (before : Before) → IsTokens before line bytes tokens
  pub is : IsBase tokens base after
  pub no_else : sees Name (codes "else") tokens ≡ false

-- what the layout says of a type that stands before declarators
pub record LaidAsBase (a : RawType) : Type 0 where
  pub no_stars : raw_stars a ≡ []
  pub no_lengths : (items : ℕ) → raw_lengths items a ≡ []
  pub stays : (items : ℕ) → settled_type items a ≡ a

-- ---- stars

star_moves : (k : ℕ) (x : Bytes) → replicate {A = ℕ} k 42 ++ (42 ∷ x) ≡ 42 ∷ (replicate {A = ℕ} k 42 ++ x)
star_moves zero x = refl
star_moves (suc k) x = ap (λ (y : Bytes). 42 ∷ y) (star_moves k x)

pub pointed_more : (k : ℕ) (a : RawType) → type.PointerTo (pointed_n k a) ≡ pointed_n (suc k) a
pointed_more zero a = refl
pointed_more (suc k) a = pointed_more k (type.PointerTo a)

pointed_stars : (k : ℕ) (a : RawType) → raw_stars (pointed_n k a) ≡ replicate {A = ℕ} k 42 ++ raw_stars a
pointed_stars zero a = refl
pointed_stars (suc k) a = pointed_stars k (type.PointerTo a) ∙ ap (λ (y : Bytes). replicate {A = ℕ} k 42 ++ y) (raw_stars-PointerTo a) ∙ star_moves k (raw_stars a)

pub pointed_base : (k : ℕ) (a : RawType) → raw_base (pointed_n k a) ≡ raw_base a
pointed_base zero a = refl
pointed_base (suc k) a = pointed_base k (type.PointerTo a) ∙ raw_base-PointerTo a

pub pointed_lengths : (items k : ℕ) (a : RawType) → raw_lengths items a ≡ [] → raw_lengths items (pointed_n k a) ≡ []
pointed_lengths items zero a p = p
pointed_lengths items (suc k) a p = pointed_lengths items k (type.PointerTo a) (raw_lengths-PointerTo items a)

pub pointed_stays : (items k : ℕ) (a : RawType) → settled_type items a ≡ a → settled_type items (pointed_n k a) ≡ pointed_n k a
pointed_stays items zero a p = p
pointed_stays items (suc k) a p = pointed_stays items k (type.PointerTo a) (settled_type-PointerTo items a ∙ ap type.PointerTo p)

-- behind the base, so many stars and nothing else
pub plain_stars : (k : ℕ) (a : RawType) → LaidAsBase a → raw_stars (pointed_n k a) ≡ replicate {A = ℕ} k 42
plain_stars k a p = pointed_stars k a ∙ ap (λ (y : Bytes). replicate {A = ℕ} k 42 ++ y) p.no_stars ∙ append-nil (replicate {A = ℕ} k 42)

star_sure : (k : ℕ) (more : Bytes) → is_sure 1 (42 ∷ more) ≡ true → is_sure 1 (42 ∷ (replicate {A = ℕ} k 42 ++ more)) ≡ true
star_sure zero more s = s
star_sure (suc k) more s = refl

pub record PrintedStars (line : ℕ) (bytes : Bytes) (a b : RawType) (after : Tokens) : Type 0 where
  pub tokens : Tokens
  pub lexed : IsTokens Token line bytes tokens
  pub is : IsStars tokens a b after
  pub no_int : sees_int_word after ≡ false → sees_int_word tokens ≡ false

pub print_stars : (k : ℕ) (a : RawType) (line : ℕ) (more : Bytes) (after : Tokens) → is_sure 1 (42 ∷ more) ≡ true → sees Mark (codes "*") after ≡ false → IsTokens Token line more after
    → PrintedStars line (replicate {A = ℕ} k 42 ++ more) a (pointed_n k a) after
print_stars zero a line more after s f h = record { tokens = after; lexed = h; is = IsStars.done f; no_int = λ p. p }
print_stars (suc k) a line more after s f h =
    let x = print_stars k (type.PointerTo a) line more after s f h in
    record {
      tokens = mark (codes "*") line ∷ x.tokens;
      lexed = print_mark (codes "*") refl (star_sure k more s) x.lexed;
      is = IsStars.star x.is;
      no_int = λ p. mark_no_int (codes "*") line x.tokens;
    }

-- ---- lengths

pub record PrintedLengths (line : ℕ) (bytes : Bytes) (a b : RawType) (after : Tokens) : Type 0 where
  pub tokens : Tokens
  pub lexed : IsTokens Token line bytes tokens
  pub is : IsLengths tokens a b after

pub length_join : (x y more : Bytes) → (91 ∷ (x ++ (93 ∷ y))) ++ more ≡ 91 ∷ (x ++ (93 ∷ (y ++ more)))
length_join x y more = ap (λ (z : Bytes). 91 ∷ z) (append_assoc x (93 ∷ y) more)

-- a first length that a list gives
pub record PrintedFirst (line : ℕ) (bytes : Bytes) (a b : RawType) (after : Tokens) : Type 0 where
  pub tokens : Tokens
  pub lexed : IsTokens Token line bytes tokens
  pub is : IsOuterLengths tokens a b after

pub print_listed : {ts : Tokens} (items : ℕ) (a b : RawType) (line : ℕ) (more : Bytes) (after : Tokens) → (nat_lt items 4294967296 ≡ true) × HasForm Number (decimal items) → IsLengths ts a b after → IsTokens Token line more ts
    → PrintedFirst line (91 ∷ (raw_length_words items Listed ++ (93 ∷ more))) a (type.Array b (settled_length items Listed)) after
print_listed {ts} items a b line more after c h k =
    let few = c.0 in
    let d = c.1 in
    rw few (record {
      tokens = mark (codes "[") line ∷ number (decimal items) line ∷ mark (codes "]") line ∷ ts;
      lexed = print_mark (codes "[") refl refl (print_number (decimal items) d (λ g. refl) (print_mark (codes "]") refl refl k));
      is = written (IsLengths.length number_constant h);
    })

-- ---- declarators

pub name_sure : (text rest : Bytes) → HasForm Name text → is_sure 1 (42 ∷ (text ++ rest)) ≡ true
name_sure text rest (HasForm.name {b} {run} h r) = rw (other_class is_letter b 61 h refl) refl

pub name_no_star : (text w : Bytes) (l : ℕ) (ts : Tokens) → sees Mark w (name text l ∷ ts) ≡ false
unfolding sees
name_no_star text w l ts = refl

pub length_twice : (items : ℕ) → settled_length items (settled_length items Listed) ≡ settled_length items Listed
length_twice items = by_answer (nat_lt items 4294967296) (λ t. rw t refl) (λ n. rw (n, n) refl)

-- ---- types without a name

pub print_spaced : (k line : ℕ) (more : Bytes) (ts : Tokens) → IsTokens Token line (replicate {A = ℕ} k 42 ++ more) ts → IsTokens Token line (spaced_stars (replicate {A = ℕ} k 42) ++ more) ts
print_spaced zero line more ts h = h
print_spaced (suc k) line more ts h = print_blank h

pub spaced_stops : (k : ℕ) (more : Bytes) → Stops name_goes_on more → Stops name_goes_on (spaced_stars (replicate {A = ℕ} k 42) ++ more)
spaced_stops zero more s = s
spaced_stops (suc k) more s = λ b. refl

-- what may stand behind a type or a parameter
pub record Closes (more : Bytes) (after : Tokens) : Type 0 where
  pub stops : Stops name_goes_on more
  pub sure : is_sure 1 (42 ∷ more) ≡ true
  pub no_star : sees Mark (codes "*") after ≡ false
  pub no_length : sees Mark (codes "[") after ≡ false
  pub no_name : sees_name after ≡ false
  pub no_int : sees_int_word after ≡ false

pub closes_paren : (more : Bytes) (line : ℕ) (after : Tokens) → Closes (41 ∷ more) (mark (codes ")") line ∷ after)
unfolding sees sees_name sees_int_word
closes_paren more line after = record { stops = λ b. refl; sure = refl; no_star = refl; no_length = refl; no_name = refl; no_int = refl }

pub closes_comma : (more : Bytes) (line : ℕ) (after : Tokens) → Closes (44 ∷ more) (mark (codes ",") line ∷ after)
unfolding sees sees_name sees_int_word
closes_comma more line after = record { stops = λ b. refl; sure = refl; no_star = refl; no_length = refl; no_name = refl; no_int = refl }

pub type_join : (k : ℕ) (base : RawType) (more : Bytes) → LaidAsBase base → raw_type_words (pointed_n k base) ++ more ≡ raw_base base ++ (spaced_stars (replicate {A = ℕ} k 42) ++ more)
type_join k base more p =
    ap (λ (z : Bytes). (z ++ spaced_stars (raw_stars (pointed_n k base))) ++ more) (pointed_base k base)
    ∙ ap (λ (z : Bytes). (raw_base base ++ spaced_stars z) ++ more) (plain_stars k base p) ∙ append_assoc (raw_base base) _ more

-- tokens of the bytes that are those of a base and so many stars, and then these
pub record PrintedStarred (line : ℕ) (bytes : Bytes) (base : RawType) (k : ℕ) (after : Tokens) : Type 0 where
  pub tokens : Tokens
  pub mid : Tokens
  pub lexed : (before : Before) → IsTokens before line bytes tokens
  pub begins : IsBase tokens base mid
  pub stars : IsStars mid base (pointed_n k base) after

-- tokens of the bytes that name this type, and then these
pub record PrintedName (line : ℕ) (bytes : Bytes) (t : RawTypeName) (after : Tokens) : Type 0 where
  pub tokens : Tokens
  pub lexed : (before : Before) → IsTokens before line bytes tokens
  pub is : NamesType tokens t after

-- ---- parameters

-- tokens of the bytes that are those of a parameter, the same in all that the layout keeps, and then these
pub record PrintedParam (line : ℕ) (bytes : Bytes) (p : RawParam) (after : Tokens) : Type 0 where
  pub tokens : Tokens
  pub lexed : (before : Before) → IsTokens before line bytes tokens
  pub found : RawParam
  pub is : IsParam tokens found after
  pub same : settled_param found ≡ settled_param p
  pub bare : is_none found.length ≡ true

pub declared_join : (k : ℕ) (base : RawType) (text more : Bytes) → LaidAsBase base → raw_declared 0 (pointed_n k base) text ++ more ≡ raw_base base ++ (32 ∷ (replicate {A = ℕ} k 42 ++ (text ++ more)))
declared_join k base text more p =
    ap (λ (z : Bytes). (z ++ (32 ∷ (raw_stars (pointed_n k base) ++ (text ++ raw_lengths 0 (pointed_n k base))))) ++ more) (pointed_base k base)
    ∙ ap (λ (z : Bytes). (raw_base base ++ (32 ∷ (z ++ (text ++ raw_lengths 0 (pointed_n k base))))) ++ more) (plain_stars k base p)
    ∙ ap (λ (z : Bytes). (raw_base base ++ (32 ∷ (replicate {A = ℕ} k 42 ++ (text ++ z)))) ++ more) (pointed_lengths 0 k base (p.no_lengths 0))
    ∙ ap (λ (z : Bytes). (raw_base base ++ (32 ∷ (replicate {A = ℕ} k 42 ++ z))) ++ more) (append-nil text)
    ∙ append_assoc (raw_base base) _ more ∙ ap (λ (z : Bytes). raw_base base ++ (32 ∷ z)) (append_assoc (replicate {A = ℕ} k 42) text more)

abbrev pub param_of : Option Bytes → RawType → RawParam
param_of called a = record { line = 0; name = called; shape = a; length = None }

pub record PrintedMore (line : ℕ) (bytes : Bytes) (ps : List RawParam) (after : Tokens) : Type 0 where
  pub tokens : Tokens
  pub lexed : IsTokens Token line bytes tokens
  pub found : List RawParam
  pub is : IsMoreParams tokens found after
  pub same : map settled_param found ≡ map settled_param ps
  pub bare : lack_lengths found ≡ true
  pub closes : Closes bytes tokens
  pub clear : Clear tokens after

pub record PrintedParams (line : ℕ) (bytes : Bytes) (ps : List RawParam) (after : Tokens) : Type 0 where
  pub tokens : Tokens
  pub lexed : (before : Before) → IsTokens before line bytes tokens
  pub found : List RawParam
  pub is : IsParams tokens found after
  pub same : map settled_param found ≡ map settled_param ps
  pub bare : lack_lengths found ≡ true
  pub clear : Clear tokens after

-- the words of parameters, each behind a comma
abbrev pub more_params : List RawParam → Bytes
more_params [] = []
more_params (p ∷ ps) = codes ", " ++ (raw_param_words p ++ more_params ps)

-- the words of the first parameter, and of the others
pub params_apart : (p : RawParam) (ps : List RawParam) → params_words (map raw_param_words (p ∷ ps)) ≡ raw_param_words p ++ more_params ps
params_apart p [] = sym (append-nil (raw_param_words p))
params_apart p (q ∷ qs) = ap (λ (z : Bytes). raw_param_words p ++ (codes ", " ++ z)) (params_apart q qs)

pub comma_join : (x y more : Bytes) → (codes ", " ++ (x ++ y)) ++ more ≡ 44 ∷ 32 ∷ (x ++ (y ++ more))
comma_join x y more = ap (λ (z : Bytes). 44 ∷ 32 ∷ z) (append_assoc x y more)

pub print_void : (line : ℕ) (more : Bytes) (after : Tokens) → IsTokens Token line more after → PrintedParams line (codes "void" ++ (41 ∷ more)) [] after
print_void line more after t = record {
  tokens = name (codes "void") line ∷ mark (codes ")") line ∷ after;
  lexed = λ before. print_name (codes "void") (word_form (codes "void") refl) (λ b. refl) (print_mark (codes ")") refl refl t);
  found = [];
  is = nothing;
  same = refl;
  bare = refl;
  clear = no_params line line after;
}
