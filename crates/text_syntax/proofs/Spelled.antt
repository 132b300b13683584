-- The tokens of a text are spelled as their kinds are.
use Rattle.std.proofs.Common.{◌≡◌, ℕ, [], ◌∷◌, ◌++◌, Bool, true, false, ◌&&◌, not, codes, refl, ap, ◌∙◌, All}
use Rattle.std.specs.Prelude.{◌==◌, bytes_eq, is_some, drop, slice_index}
use Rattle.std.proofs.lemmas.Bool.{and_from, and_parts, or_left, or_right, false_from_ne_true}
use Rattle.std.proofs.lemmas.Bool.Decides.{Decides-eqb}
use Rattle.std.proofs.lemmas.List.Elements.{All-head, All-tail}
use Rattle.c_language.specs.Words.{Bytes}
use Rattle.c_language.specs.TokenForms.{Tokens}
use Rattle.c_language.specs.Tokens.{is_mark, is_header, IsInclude, IsRun, IsCharacter, LacksDigit, IsLiteral, LacksTrigraph, IsTokenText, IsToken}
use Rattle.c_language.specs.Programs.{IsFormed}
use Rattle.c_language.specs.Spellings.{runs_on, is_name, is_number, is_character, begins_with_digit, ends_string, begins_trigraph, has_trigraph, is_string}
use Rattle.c_language.specs.declared.token.Before.{Before}
use Rattle.c_language.specs.declared.token.TokenKind.{TokenKind}
use Rattle.c_language.specs.declared.token.TokenKind.TheVariants.{Name, Number, Character, Str, Mark, Include, Directive}
use Rattle.text_syntax.proofs.CalmTokens.{AreCalm}

-- the text of a token of this kind
abbrev pub spelled : TokenKind → Bytes → Bool
spelled Name w = is_name w
spelled Number w = is_number w
spelled Character w = is_character w
spelled Str w = is_string w
spelled Mark w = is_mark w
spelled Include w = is_header w
spelled Directive w = bytes_eq w (codes "#")

-- each token is spelled as its kind is
abbrev pub AreSpelled : Tokens → Type 0
AreSpelled [] = Unit {0}
AreSpelled (t ∷ ts) = (spelled t.kind t.text ≡ true) × AreSpelled ts

pub calm_rest : {ts rest : Tokens} → AreCalm ts rest → AreSpelled ts → AreSpelled rest
calm_rest AreCalm.done w = w
calm_rest (AreCalm.more c k) w = calm_rest k w.1

-- ---- texts

run_on : {goes_on : ℕ → ℕ → Bool} {b : ℕ} {run rest : Bytes} → IsRun goes_on b run rest → runs_on goes_on b run ≡ true
run_on IsRun.ends_text = refl
run_on (IsRun.ends h) = refl
run_on (IsRun.more h r) = and_from _ _ h (run_on r)

character_spelled : {text : Bytes} → IsCharacter text → is_character text ≡ true
character_spelled (IsCharacter.plain h) = and_from _ _ h refl
character_spelled (IsCharacter.escape h) = and_from _ _ h refl

digit_lacks : (more : Bytes) → LacksDigit more → begins_with_digit more ≡ false
digit_lacks [] h = refl
digit_lacks (b ∷ more) h = h

zero_free : (b : ℕ) (more : Bytes) → (b ≡ 48 → LacksDigit more) → not ((b == 48) && begins_with_digit more) ≡ true
zero_free b more h = ap not (false_from_ne_true _ (λ t. let p = and_parts (b == 48) (begins_with_digit more) t in let f = digit_lacks more (h ((Decides-eqb b 48).0 p.0)) in cc))

literal_ends : {text : Bytes} → IsLiteral text → ends_string false text ≡ true
literal_ends IsLiteral.close = refl
literal_ends (IsLiteral.plain {b} {more} h k) = or_right ((b == 34) && _) _ (or_right ((b == 92) && _) _ (and_from _ _ h (literal_ends k)))
literal_ends (IsLiteral.escape {b} {more} h d k) = or_left _ _ (and_from _ _ h (and_from _ _ (zero_free b more d) (literal_ends k)))

trigraph_at : (bytes : Bytes) → begins_trigraph bytes ≡ true → bytes ≡ codes "??" ++ (slice_index bytes 2 ∷ drop 3 bytes)
trigraph_at [] h = absurd cc
trigraph_at (a ∷ []) h = let p : false ≡ true = (and_parts (a == 63) false h).1 in absurd cc
trigraph_at (a ∷ (b ∷ [])) h = let p : false ≡ true = (and_parts (b == 63) false (and_parts (a == 63) ((b == 63) && false) h).1).1 in absurd cc
trigraph_at (a ∷ (b ∷ (c ∷ more))) h =
    let p = and_parts (a == 63) _ h in
    let q = and_parts (b == 63) _ p.1 in
    ap (λ (x : ℕ). x ∷ b ∷ c ∷ more) ((Decides-eqb a 63).0 p.0) ∙ ap (λ (x : ℕ). 63 ∷ x ∷ c ∷ more) ((Decides-eqb b 63).0 q.0)

none_begins : (bytes : Bytes) → LacksTrigraph bytes → begins_trigraph bytes ≡ false
none_begins bytes h = false_from_ne_true _ (λ t. h [] (drop 3 bytes) (slice_index bytes 2) (and_parts (slice_index bytes 1 == 63) _ (and_parts (slice_index bytes 0 == 63) _ t).1).1 (trigraph_at bytes t))

none_there : (bytes : Bytes) → LacksTrigraph bytes → has_trigraph bytes ≡ false
none_there [] h = refl
none_there (b ∷ tl) h = rw (none_begins (b ∷ tl) h) (none_there tl (λ front back c is e. h (b ∷ front) back c is (ap (λ (y : Bytes). b ∷ y) e)))

text_spelled : {kind : TokenKind} {text rest : Bytes} → IsTokenText kind text rest → spelled kind text ≡ true
text_spelled (IsTokenText.name h r) = and_from _ _ h (run_on r)
text_spelled (IsTokenText.number h r k) = and_from _ _ h (and_from _ _ (run_on r) (ap is_some k.1))
text_spelled (IsTokenText.character h) = character_spelled h
text_spelled (IsTokenText.string {more} h k) = and_from _ _ (literal_ends h) (ap not (none_there more k))
text_spelled (IsTokenText.mark l h longest) = h

token_spelled : {before : Before} {kind : TokenKind} {own text rest : Bytes} → IsToken before kind own text rest → spelled kind text ≡ true
token_spelled (IsToken.plain t) = text_spelled t
token_spelled (IsToken.include (IsInclude.include g n h) e) = h
token_spelled (IsToken.directive h e l) = refl
token_spelled (IsToken.directive_behind h e) = refl

pub formed_spelled : (ts : Tokens) → All IsFormed ts → AreSpelled ts
formed_spelled [] h = tt
formed_spelled (t ∷ ts) h = (token_spelled (All-head IsFormed t ts h).is, formed_spelled ts (All-tail IsFormed t ts h))
