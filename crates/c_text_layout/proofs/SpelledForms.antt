-- Tokens that are spelled as their kinds are can be written.
use Rattle.std.proofs.Common.{◌≡◌, ℕ, [], ◌∷◌, ◌++◌, Bool, true, false, not, ◌&&◌, codes, Option, Some, None, refl, sym, ap, subst, ◌∙◌, true≢false}
use Rattle.std.specs.Prelude.{◌==◌, is_some}
use Rattle.std.proofs.lemmas.Bool.{and_parts, or_left, or_right, not-true, eqb-true, eq-eqb}
use Rattle.c_language.specs.Words.{Bytes}
use Rattle.c_language.specs.Characters.{is_digit, is_letter}
use Rattle.c_language.specs.Constants.{constant_type, is_escape, is_one_of}
use Rattle.c_language.specs.Tokens.{AreRun, name_goes_on, number_goes_on, is_plain, IsCharacter, LacksDigit, IsLiteral, LacksTrigraph}
use Rattle.c_language.specs.Spellings.{runs_on, is_name, is_number, ends_character, is_character, is_none_left, begins_with_digit, ends_string, begins_trigraph, has_trigraph, is_string}
use Rattle.c_language.specs.declared.token.TokenKind.{TokenKind}
use Rattle.c_language.specs.declared.token.TokenKind.TheVariants.{Name, Number, Character, Str, Mark, Include, Directive}
use Rattle.c_language.proofs.Tests.{false_true, by_or}
use Rattle.c_text_layout.proofs.Written.{HasForm}
use Rattle.text_syntax.proofs.Spelled.{spelled}

-- ---- names and numbers

are_run : (goes_on : ℕ → ℕ → Bool) (b : ℕ) (run : Bytes) → runs_on goes_on b run ≡ true → AreRun goes_on b run
are_run goes_on b [] h = AreRun.none
are_run goes_on b (c ∷ run) h = let p = and_parts (goes_on b c) (runs_on goes_on c run) h in AreRun.more p.0 (are_run goes_on c run p.1)

pub name_form : (w : Bytes) → is_name w ≡ true → HasForm Name w
name_form [] h = false_true h
name_form (b ∷ run) h = let p = and_parts (is_letter b) (runs_on name_goes_on b run) h in HasForm.name p.0 (are_run name_goes_on b run p.1)

some_there : {A : Type 0} (x : Option A) → is_some x ≡ true → (a : A) × (x ≡ Some a)
some_there None h = false_true h
some_there (Some a) h = (a, refl)

pub number_form : (w : Bytes) → is_number w ≡ true → HasForm Number w
number_form [] h = false_true h
number_form (b ∷ run) h =
    let p = and_parts (is_digit b) _ h in
    let q = and_parts (runs_on number_goes_on b run) (is_some (constant_type (b ∷ run))) p.1 in
    HasForm.number p.0 (are_run number_goes_on b run q.0) (some_there (constant_type (b ∷ run)) q.1)

-- ---- characters

is_byte : (b c : ℕ) → (b == c) ≡ true → c ≡ b
is_byte b c h = sym (eqb-true b c h)

quoted_form : (more : Bytes) → ends_character more ≡ true → IsCharacter (39 ∷ more)
quoted_form [] h = false_true h
quoted_form (b ∷ []) h = false_true h
quoted_form (b ∷ (c ∷ [])) h =
    let p = and_parts (is_plain 39 b) (c == 39) h in
    subst (λ (x : ℕ). IsCharacter (39 ∷ b ∷ x ∷ [])) (is_byte c 39 p.1) (IsCharacter.plain p.0)
quoted_form (b ∷ (c ∷ (d ∷ []))) h =
    let p = and_parts (b == 92) _ h in
    let q = and_parts (is_escape c) (d == 39) p.1 in
    subst (λ (x : ℕ). IsCharacter (39 ∷ x ∷ c ∷ d ∷ [])) (is_byte b 92 p.0) (subst (λ (x : ℕ). IsCharacter (39 ∷ 92 ∷ c ∷ x ∷ [])) (is_byte d 39 q.1) (IsCharacter.escape q.0))
quoted_form (b ∷ (c ∷ (d ∷ (e ∷ more)))) h = false_true h

pub character_form : (w : Bytes) → is_character w ≡ true → IsCharacter w
character_form [] h = false_true h
character_form (b ∷ more) h =
    let p = and_parts (b == 39) (ends_character more) h in
    subst (λ (x : ℕ). IsCharacter (x ∷ more)) (is_byte b 39 p.0) (quoted_form more p.1)

-- ---- strings

none_left : (more : Bytes) → is_none_left more ≡ true → [] ≡ more
none_left [] h = refl
none_left (b ∷ more) h = false_true h

lacks_digit : (more : Bytes) → begins_with_digit more ≡ false → LacksDigit more
lacks_digit [] h = tt
lacks_digit (b ∷ more) h = h

not_both : (a b : Bool) → not (a && b) ≡ true → a ≡ true → b ≡ false
not_both true b h k = not-true b h
not_both false b h k = false_true k

mutual
  literal_form : (bytes : Bytes) → ends_string false bytes ≡ true → IsLiteral bytes
  literal_form [] h = false_true h
  literal_form (b ∷ more) h = by_or ((b == 34) && is_none_left more) _ h
      (λ t. let p = and_parts (b == 34) (is_none_left more) t in
      subst (λ (x : ℕ). IsLiteral (x ∷ more)) (is_byte b 34 p.0) (subst (λ (xs : Bytes). IsLiteral (34 ∷ xs)) (none_left more p.1) IsLiteral.close))
      (λ u. by_or ((b == 92) && ends_string true more) (is_plain 34 b && ends_string false more) u
      (λ t. let p = and_parts (b == 92) (ends_string true more) t in subst (λ (x : ℕ). IsLiteral (x ∷ more)) (is_byte b 92 p.0) (escape_form more p.1))
      (λ t. let p = and_parts (is_plain 34 b) (ends_string false more) t in IsLiteral.plain p.0 (literal_form more p.1)))

  escape_form : (more : Bytes) → ends_string true more ≡ true → IsLiteral (92 ∷ more)
  escape_form [] h = false_true h
  escape_form (b ∷ more) h =
      let p = and_parts (is_escape b) _ h in
      let q = and_parts (not ((b == 48) && begins_with_digit more)) (ends_string false more) p.1 in
      IsLiteral.escape p.0 (λ e. lacks_digit more (not_both (b == 48) (begins_with_digit more) q.0 (eq-eqb b 48 e))) (literal_form more q.1)

trigraph_found : (front back : Bytes) (b : ℕ) → is_one_of (codes "=(/)'<!>-") b ≡ true → has_trigraph (front ++ (codes "??" ++ (b ∷ back))) ≡ true
trigraph_found [] back b h = or_left (begins_trigraph (63 ∷ 63 ∷ b ∷ back)) (has_trigraph (63 ∷ b ∷ back)) h
trigraph_found (c ∷ front) back b h = or_right (begins_trigraph (c ∷ front ++ (codes "??" ++ (b ∷ back)))) _ (trigraph_found front back b h)

lacks_trigraph : (bytes : Bytes) → has_trigraph bytes ≡ false → LacksTrigraph bytes
lacks_trigraph bytes h front back b is e = true≢false (sym (ap has_trigraph e ∙ trigraph_found front back b is) ∙ h)

pub string_form : (w : Bytes) → is_string w ≡ true → HasForm Str w
string_form [] h = false_true h
string_form (b ∷ more) h =
    let p = and_parts (b == 34) _ h in
    let q = and_parts (ends_string false more) (not (has_trigraph more)) p.1 in
    subst (λ (x : ℕ). HasForm Str (x ∷ more)) (is_byte b 34 p.0) (HasForm.string (literal_form more q.0) (lacks_trigraph more (not-true (has_trigraph more) q.1)))

-- ---- tokens

-- one that is spelled as its kind is has the form of its kind
pub spelled_form : (kind : TokenKind) (w : Bytes) → spelled kind w ≡ true → HasForm kind w
spelled_form Name w h = name_form w h
spelled_form Number w h = number_form w h
spelled_form Character w h = HasForm.character (character_form w h)
spelled_form Str w h = string_form w h
spelled_form Mark w h = HasForm.mark
spelled_form Include w h = HasForm.include
spelled_form Directive w h = HasForm.directive
