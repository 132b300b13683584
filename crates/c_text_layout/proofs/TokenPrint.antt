-- A token or a blank at the front of what is printed.
use Rattle.std.proofs.Common.{◌≡◌, ◌≢◌, ℕ, ◌+◌, add-zero, [], ◌∷◌, ◌++◌, length, refl, sym, ap, ◌∙◌, subst, Bool, true, false, codes, nat_le}
use Rattle.std.proofs.lemmas.Bool.{and_parts, or_parts, false_from_ne_true, eqb-true, eq-eqb, both_ways, leb-true, not-true}
use Rattle.std.specs.List.{list_all}
use Rattle.std.specs.Prelude.{◌==◌, ◌||◌, ◌&&◌, not, bytes_eq}
use Rattle.std.proofs.lemmas.Slice.Eq.{bytes_eq-Decides}
use Rattle.c_language.specs.Words.{Bytes}
use Rattle.c_language.specs.Characters.{is_letter, is_word_byte}
use Rattle.c_language.specs.TokenForms.{Tokens, of_kind, name, number, mark}
use Rattle.c_language.specs.Tokens.{name_goes_on, number_goes_on, marks, is_mark, IsLongest, IsRun, IsSpace, IsTokenText, IsToken, IsTokens, AreRun}
use Rattle.c_language.specs.declared.token.TokenKind.TheVariants.{Name, Number, Character, Str}
use Rattle.c_language.specs.declared.token.Before.{Before}
use Rattle.c_language.specs.declared.token.Before.TheVariants.{Blank, Token}
use Rattle.c_text_layout.proofs.Written.{HasForm}
use Rattle.c_language.proofs.Lists.{any_passes}

-- a byte of a class isn't one that lies outside it
pub other_class : (class : ℕ → Bool) (b c : ℕ) → class b ≡ true → class c ≡ false → (b == c) ≡ false
other_class class b c h k = false_from_ne_true (b == c) (λ t. let e : class c ≡ true = ap class (sym (eqb-true b c t)) ∙ h in absurd cc)

-- ---- white space

pub blank_no_feed : ◌≢◌ {A = ℕ} 32 10
blank_no_feed = λ e. both_ways (32 == 10) refl (eq-eqb 32 10 e)

pub print_blank : {before : Before} {line : ℕ} {rest : Bytes} {ts : Tokens} → IsTokens before line rest ts → IsTokens before line (32 ∷ rest) ts
print_blank {before} {line} {rest} {ts} h =
    let e : line + 0 ≡ line = add-zero line in
    IsTokens.space {some = 32 ∷ []} (IsSpace.blank refl blank_no_feed) (subst (λ (l : ℕ). IsTokens before l rest ts) (sym e) h)

pub print_line : {before : Before} {line : ℕ} {rest : Bytes} {ts : Tokens} → IsTokens Blank (line + 1) rest ts → IsTokens before line (10 ∷ rest) ts
print_line h = IsTokens.space {some = codes "\n"} IsSpace.feed h

-- ---- marks

-- whether a word stands at the front of the bytes
abbrev pub begins : Bytes → Bytes → Bool
begins [] bytes = true
begins (c ∷ cs) [] = false
begins (c ∷ cs) (b ∷ bs) = (b == c) && begins cs bs

begins_own : (word rest : Bytes) → begins word (word ++ rest) ≡ true
begins_own [] rest = refl
begins_own (c ∷ cs) rest = let e : (c == c) ≡ true = eq-eqb c c refl in rw e (begins_own cs rest)

lacks : (word bytes : Bytes) → begins word bytes ≡ false → (rest : Bytes) → bytes ≢ word ++ rest
lacks word bytes h rest e = both_ways (begins word bytes) h (ap (begins word) e ∙ begins_own word rest)

-- whether a mark that is longer doesn't stand at the front of the bytes
abbrev pub yields : ℕ → Bytes → Bytes → Bool
yields n bytes m = nat_le (length m) n || not (begins m bytes)

-- no mark that is longer than n stands at the front of the bytes, and no comment does
abbrev pub is_sure : ℕ → Bytes → Bool
is_sure n bytes = list_all (yields n bytes) marks && (not (begins (codes "/*") bytes) && not (begins (codes "//") bytes))

or_left : (a b : Bool) → (a || not b) ≡ true → b ≡ true → a ≡ true
or_left true b h k = refl
or_left false true h k = absurd cc
or_left false false h k = absurd cc

sure_longest : (n : ℕ) (bytes : Bytes) → list_all (yields n bytes) marks ≡ true → IsLongest n bytes
sure_longest n bytes h text rest m e =
    let x = any_passes (bytes_eq text) (yields n bytes) marks m h in
    let same : text ≡ x.0 = (bytes_eq-Decides text x.0).0 x.1 in
    let y : yields n bytes text ≡ true = ap (yields n bytes) same ∙ x.2 in
    leb-true (length text) n (or_left (nat_le (length text) n) (begins text bytes) y (ap (begins text) e ∙ begins_own text rest))

pub print_mark : {before : Before} {line : ℕ} {rest : Bytes} {ts : Tokens} (text : Bytes) → is_mark text ≡ true → is_sure (length text) (text ++ rest) ≡ true
    → IsTokens Token line rest ts → IsTokens before line (text ++ rest) (mark text line ∷ ts)
print_mark {rest = rest} text m s h =
    let p = and_parts _ _ s in
    let q = and_parts _ _ p.1 in
    IsTokens.token (IsToken.plain (IsTokenText.mark (λ r. (lacks (codes "/*") (text ++ rest) (not-true _ q.0) r, lacks (codes "//") (text ++ rest) (not-true _ q.1) r)) m (sure_longest (length text) (text ++ rest) p.0))) h

-- ---- names and numbers

-- nothing goes on with the first of these bytes
abbrev pub Stops : (ℕ → ℕ → Bool) → Bytes → Type 0
Stops goes_on [] = Unit {0}
Stops goes_on (c ∷ cs) = (b : ℕ) → goes_on b c ≡ false

run_stops : {goes_on : ℕ → ℕ → Bool} {b : ℕ} {run : Bytes} (rest : Bytes) → AreRun goes_on b run → Stops goes_on rest → IsRun goes_on b run rest
run_stops [] AreRun.none s = IsRun.ends_text
run_stops (c ∷ cs) (AreRun.none {b}) s = IsRun.ends (s b)
run_stops rest (AreRun.more h r) s = IsRun.more h (run_stops rest r s)

-- a number goes on wherever a name does
pub stops_name : (rest : Bytes) → Stops number_goes_on rest → Stops name_goes_on rest
stops_name [] s = s
stops_name (c ∷ cs) s = λ b. (or_parts _ _ (or_parts _ _ (s b)).0).0

pub name_text : (text rest : Bytes) → HasForm Name text → Stops name_goes_on rest → IsTokenText Name text rest
name_text text rest (HasForm.name h r) s = IsTokenText.name h (run_stops rest r s)

number_text : (text rest : Bytes) → HasForm Number text → Stops number_goes_on rest → IsTokenText Number text rest
number_text text rest (HasForm.number h r k) s = IsTokenText.number h (run_stops rest r s) k

character_text : (text rest : Bytes) → HasForm Character text → IsTokenText Character text rest
character_text text rest (HasForm.character h) = IsTokenText.character h

string_text : (text rest : Bytes) → HasForm Str text → IsTokenText Str text rest
string_text text rest (HasForm.string h k) = IsTokenText.string h k

pub print_name : {before : Before} {line : ℕ} {rest : Bytes} {ts : Tokens} (text : Bytes) → HasForm Name text → Stops name_goes_on rest → IsTokens Token line rest ts
    → IsTokens before line (text ++ rest) (name text line ∷ ts)
print_name {rest = rest} text f s h = IsTokens.token (IsToken.plain (name_text text rest f s)) h

pub print_number : {before : Before} {line : ℕ} {rest : Bytes} {ts : Tokens} (text : Bytes) → HasForm Number text → Stops number_goes_on rest → IsTokens Token line rest ts
    → IsTokens before line (text ++ rest) (number text line ∷ ts)
print_number {rest = rest} text f s h = IsTokens.token (IsToken.plain (number_text text rest f s)) h

pub print_character : {before : Before} {line : ℕ} {rest : Bytes} {ts : Tokens} (text : Bytes) → HasForm Character text → IsTokens Token line rest ts
    → IsTokens before line (text ++ rest) (of_kind Character text line ∷ ts)
print_character {rest = rest} text f h = IsTokens.token (IsToken.plain (character_text text rest f)) h

pub print_string : {before : Before} {line : ℕ} {rest : Bytes} {ts : Tokens} (text : Bytes) → HasForm Str text → IsTokens Token line rest ts
    → IsTokens before line (text ++ rest) (of_kind Str text line ∷ ts)
print_string {rest = rest} text f h = IsTokens.token (IsToken.plain (string_text text rest f)) h

-- a word that the layout has of its own
abbrev pub is_word : Bytes → Bool
is_word [] = false
is_word (b ∷ bs) = is_letter b && list_all is_word_byte bs

word_run : (b : ℕ) (bs : Bytes) → list_all is_word_byte bs ≡ true → AreRun name_goes_on b bs
word_run b [] h = AreRun.none
word_run b (c ∷ cs) h = let p = and_parts _ _ h in AreRun.more p.0 (word_run c cs p.1)

pub word_form : (text : Bytes) → is_word text ≡ true → HasForm Name text
word_form [] h = absurd cc
word_form (b ∷ bs) h = let p = and_parts _ _ h in HasForm.name p.0 (word_run b bs p.1)
