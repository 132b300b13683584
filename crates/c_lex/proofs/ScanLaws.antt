-- The tokens of a text are found, and nothing else is.
use Rattle.std.proofs.Common.{◌≡◌, ℕ, zero, suc, ◌+◌, ◌-◌, ◌≤◌, ◌<◌, [], ◌∷◌, ◌++◌, length, length-append, length-drop, take, drop, append_assoc, append-nil, refl, sym, ap, ◌∙◌, subst, arith, Result, Ok, Err}
use Rattle.std.proofs.Math.Seq.{take-append_seam, drop-append_seam}
use Rattle.std.specs.declared.vec.Vec.{Vec}
use Rattle.std.specs.declared.alloc.Global.{Global}
use Rattle.c_language.specs.Words.{Bytes}
use Rattle.c_language.specs.TokenForms.{Tokens, of_kind}
use Rattle.c_language.specs.Tokens.{line_feeds, IsSpace, IsToken, IsTokens, AreTokensOf}
use Rattle.c_language.specs.declared.token.Token as token
use Rattle.c_language.specs.declared.token.TokenKind.{TokenKind}
use Rattle.c_language.specs.declared.token.Before.{Before}
use Rattle.c_language.specs.declared.token.Before.TheVariants.{Blank, Token}
use Rattle.c_language.proofs.Turns.{one_more, no_more}
use Rattle.c_lex.specs.Faults.{IsFault}
use Rattle.c_lex.specs.declared.fault.LexFault.{LexFault}
use Rattle.c_lex.specs.declared.fault.LexFault.TheVariants.{BadByte, BadNumber, OpenComment, NoMemory}
use Rattle.c_lex.specs.declared.piece.Piece.{Piece}
use Rattle.c_lex.specs.declared.piece.Piece.TheVariants as piece
use Rattle.c_lex.specs.Lexed.{Gives, IsLexed}
use Rattle.c_lex.specs.Scanning.{piece_of, after_space, Scan, turn, scan, Scans}
use Rattle.c_lex.proofs.PieceLaws.{piece_space, space_leads, space_some, TokenLens, piece_token}
use Rattle.c_lex.proofs.FrontLaws.{Front, front_at}

-- ---- turns

pub scan_empty : (n : ℕ) (before : Before) (line : ℕ) (found : Tokens) (bytes : Bytes) → length bytes ≡ 0 → scan n before line found bytes ≡ Ok found
unfolding scan
scan_empty zero before line found bytes h = refl
scan_empty (suc n) before line found [] h = refl
scan_empty (suc n) before line found (b ∷ bs) h = absurd (omega arith)

pub scan_turn : (n : ℕ) (before : Before) (line : ℕ) (found : Tokens) (bytes : Bytes) (p : Piece) → 0 < length bytes → p ≡ piece_of before bytes → scan (suc n) before line found bytes ≡ turn p before line found bytes (scan n)
unfolding scan
scan_turn n before line found [] p some h = absurd (omega arith)
scan_turn n before line found (b ∷ bs) p some h = ap (λ p. turn p before line found (b ∷ bs) (scan n)) (sym h)

-- ---- the scan of what has tokens

pub scan_space : {before after : Before} {some rest : Bytes} (n line : ℕ) (found : Tokens) → IsSpace before rest some after → scan (suc n) before line found (some ++ rest) ≡ scan n after (line + line_feeds some) found rest
scan_space {before} {some = some} {rest} n line found h =
    scan_turn n before line found (some ++ rest) (piece.Space (length some)) (omega (arith, length-append some rest, space_some h)) (sym (piece_space h))
    ∙ rw (take-append_seam some rest, drop-append_seam some rest, space_leads h) refl

pub scan_token : {before : Before} {kind : TokenKind} {own text rest : Bytes} (n line : ℕ) (found : Tokens) → IsToken before kind own text rest → scan (suc n) before line found (own ++ rest) ≡ scan n Token line (found ++ of_kind kind text line ∷ []) rest
scan_token {before} {kind} {own} {text} {rest} n line found h =
    let x : TokenLens before kind own text rest = piece_token h in
    scan_turn n before line found (own ++ rest) (piece.Token kind (length own) x.from x.len) (omega (arith, length-append own rest, x.some)) (sym x.piece_is)
    ∙ rw (x.text_is, drop-append_seam own rest) refl

pub scan_finds : {before : Before} {line : ℕ} {bytes : Bytes} {ts : Tokens} → IsTokens before line bytes ts → (n : ℕ) (found : Tokens) → length bytes ≤ n → scan n before line found bytes ≡ Ok (found ++ ts)
scan_finds (IsTokens.done {before} {line}) n found enough = scan_empty n before line found [] (omega arith) ∙ ap (λ (l : Tokens). Ok l) (sym (append-nil found))
scan_finds (IsTokens.space {some = some} {rest} s h) zero found enough = absurd (omega (arith, length-append some rest, space_some s))
scan_finds (IsTokens.space {line = line} {some} {rest} s h) (suc n) found enough =
    scan_space n line found s ∙ scan_finds h n found (omega (arith, length-append some rest, space_some s))
scan_finds (IsTokens.token {own = own} {rest = rest} t h) zero found enough = absurd (omega (arith, length-append own rest, (piece_token t).some))
scan_finds (IsTokens.token {line = line} {kind} {own} {text} {rest} {ts} t h) (suc n) found enough =
    scan_token n line found t
    ∙ scan_finds h n (found ++ of_kind kind text line ∷ []) (omega (arith, length-append own rest, (piece_token t).some))
    ∙ ap (λ (l : Tokens). Ok l) (append_assoc found (of_kind kind text line ∷ []) ts)

-- a text has one list of tokens
pub one_list : {before : Before} {line : ℕ} {bytes : Bytes} {ts us : Tokens} → IsTokens before line bytes ts → IsTokens before line bytes us → ts ≡ us
one_list {bytes = bytes} h k = let e = scan_finds h (length bytes) [] (omega arith) in let f = scan_finds k (length bytes) [] (omega arith) in cc

-- ---- what was scanned

-- What the scan answers: the tokens that were found so far and those of the bytes, or the fault.
abbrev pub Scanned : Before → ℕ → Tokens → Bytes → Result Tokens LexFault → Type 0
Scanned before line found bytes (Ok all) = (ts : Tokens) × (all ≡ found ++ ts) × IsTokens before line bytes ts
Scanned before line found bytes (Err x) = IsFault before line bytes x

space_scanned : {before after : Before} (line : ℕ) (found : Tokens) (some rest : Bytes) (r : Result Tokens LexFault) → IsSpace before rest some after → Scanned after (line + line_feeds some) found rest r → Scanned before line found (some ++ rest) r
space_scanned line found some rest (Ok all) s h = (h.0, h.1, IsTokens.space s h.2)
space_scanned line found some rest (Err x) s h = IsFault.space some rest s h

token_scanned : {before : Before} (line : ℕ) (found : Tokens) (kind : TokenKind) (own text rest : Bytes) (r : Result Tokens LexFault) → IsToken before kind own text rest → Scanned Token line (found ++ of_kind kind text line ∷ []) rest r → Scanned before line found (own ++ rest) r
token_scanned line found kind own text rest (Ok all) t h = (of_kind kind text line ∷ h.0, h.1 ∙ append_assoc found (of_kind kind text line ∷ []) h.0, IsTokens.token t h.2)
token_scanned line found kind own text rest (Err x) t h = IsFault.token own rest t h

abbrev Goes : ℕ → Scan → Type 0
Goes n next = (before : Before) (line : ℕ) (found : Tokens) (bytes : Bytes) → length bytes ≤ n → Scanned before line found bytes (next before line found bytes)

space_turned : (n : ℕ) {before after : Before} (line : ℕ) (found : Tokens) (some rest : Bytes) (next : Scan) → Goes n next → length (some ++ rest) ≤ suc n → IsSpace before rest some after
    → Scanned before line found (some ++ rest) (turn (piece.Space (length some)) before line found (some ++ rest) next)
space_turned n {after = after} line found some rest next go enough s =
    rw (take-append_seam some rest, drop-append_seam some rest, space_leads s) (space_scanned line found some rest _ s (go after _ found rest (omega (arith, length-append some rest, space_some s))))

token_turned : (n : ℕ) {before : Before} (line : ℕ) (found : Tokens) (kind : TokenKind) (own text rest : Bytes) (from len : ℕ) (next : Scan) → Goes n next → length (own ++ rest) ≤ suc n → 0 < length own
    → take len (drop from (own ++ rest)) ≡ text → IsToken before kind own text rest → Scanned before line found (own ++ rest) (turn (piece.Token kind (length own) from len) before line found (own ++ rest) next)
token_turned n line found kind own text rest from len next go enough some e t =
    rw (e, drop-append_seam own rest) (token_scanned line found kind own text rest _ t (go Token line _ rest (omega (arith, length-append own rest))))

turned : (n : ℕ) (before : Before) (line : ℕ) (found : Tokens) (bytes : Bytes) (p : Piece) (next : Scan) → Goes n next → length bytes ≤ suc n → Front before bytes p → Scanned before line found bytes (turn p before line found bytes next)
turned n before line found bytes (piece.Space k) next go enough f =
    subst (λ (y : Bytes). Scanned before line found y (turn (piece.Space k) before line found y next)) (sym f.at)
    (subst (λ (m : ℕ). Scanned before line found (f.some ++ f.rest) (turn (piece.Space m) before line found (f.some ++ f.rest) next)) f.len
    (space_turned n line found f.some f.rest next go (omega (arith, ap length f.at)) f.is))
turned n before line found bytes (piece.Token kind k from len) next go enough f =
    subst (λ (y : Bytes). Scanned before line found y (turn (piece.Token kind k from len) before line found y next)) (sym f.at)
    (subst (λ (m : ℕ). Scanned before line found (f.own ++ f.rest) (turn (piece.Token kind m from len) before line found (f.own ++ f.rest) next)) f.own_len
    (token_turned n line found kind f.own f.text f.rest from len next go (omega (arith, ap length f.at)) ((piece_token f.is).some) (ap (λ (y : Bytes). take len (drop from y)) (sym f.at) ∙ f.text_is) f.is))
turned n before line found bytes (piece.SplitEnd k) next go enough f = f.is line
turned n before line found bytes piece.Open next go enough f = f line
turned n before line found bytes piece.BadNumber next go enough f = f line
turned n before line found bytes piece.BadByte next go enough f = f line

pub scan_sound : (n : ℕ) (before : Before) (line : ℕ) (found : Tokens) (bytes : Bytes) → length bytes ≤ n → Scanned before line found bytes (scan n before line found bytes)
unfolding scan
scan_sound zero before line found [] enough = ([], sym (append-nil found), IsTokens.done)
scan_sound zero before line found (b ∷ bs) enough = absurd (omega arith)
scan_sound (suc n) before line found [] enough = ([], sym (append-nil found), IsTokens.done)
scan_sound (suc n) before line found (b ∷ bs) enough =
    turned n before line found (b ∷ bs) (piece_of before (b ∷ bs)) (scan n) (λ s l f y p. scan_sound n s l f y p) enough (front_at before b bs (piece_of before (b ∷ bs)) refl)

-- ---- what is answered

pub lexed : (text : Bytes) (r : Result (Vec token.Token Global) LexFault) → Scans (scan (length text) Blank 1 [] text) r → IsLexed text r
lexed text (Ok v) h = let x : Scanned Blank 1 [] text (Ok v.items) = subst (Scanned Blank 1 [] text) h (scan_sound (length text) Blank 1 [] text (omega arith)) in rw x.1 x.2
lexed text (Err NoMemory) h = tt
lexed text (Err (BadByte line)) h = subst (Scanned Blank 1 [] text) h (scan_sound (length text) Blank 1 [] text (omega arith))
lexed text (Err (BadNumber line)) h = subst (Scanned Blank 1 [] text) h (scan_sound (length text) Blank 1 [] text (omega arith))
lexed text (Err (OpenComment line)) h = subst (Scanned Blank 1 [] text) h (scan_sound (length text) Blank 1 [] text (omega arith))

pub gives : (text : Bytes) (r : Result (Vec token.Token Global) LexFault) → Scans (scan (length text) Blank 1 [] text) r → (ts : Tokens) → AreTokensOf text ts → Gives ts r
gives text (Ok v) h ts is = let e = scan_finds is (length text) [] (omega arith) in cc
gives text (Err NoMemory) h ts is = tt
gives text (Err (BadByte line)) h ts is = let e = scan_finds is (length text) [] (omega arith) in cc
gives text (Err (BadNumber line)) h ts is = let e = scan_finds is (length text) [] (omega arith) in cc
gives text (Err (OpenComment line)) h ts is = let e = scan_finds is (length text) [] (omega arith) in cc

-- ---- along the loop

module _ (n at : ℕ) (before : Before) (line : ℕ) (found : Tokens) (bytes : Bytes) (below : at < n) (some : length bytes ≡ 0 → ⊥) {x : Result Tokens LexFault} (so_far : x ≡ scan (n - at) before line found bytes) where
  some_left : 0 < length bytes
  some_left = omega (arith, some)

  pub stopped : (p : Piece) → p ≡ piece_of before bytes → x ≡ turn p before line found bytes (scan (n - (at + 1)))
  stopped p h = one_more (λ k. scan k before line found bytes) n at below so_far ∙ scan_turn (n - (at + 1)) before line found bytes p some_left h

  pub space_kept : (len : ℕ) (after : Before) (next : ℕ) (rest : Bytes) → piece.Space len ≡ piece_of before bytes → after ≡ after_space (take len bytes) before → next ≡ line + line_feeds (take len bytes) → rest ≡ drop len bytes
      → x ≡ scan (n - (at + 1)) after next found rest
  space_kept len after next rest p q r s =
      stopped (piece.Space len) p ∙ ap (λ (b : Before). scan (n - (at + 1)) b (line + line_feeds (take len bytes)) found (drop len bytes)) (sym q)
      ∙ ap (λ (l : ℕ). scan (n - (at + 1)) after l found (drop len bytes)) (sym r) ∙ ap (scan (n - (at + 1)) after next found) (sym s)

  pub token_kept : (kind : TokenKind) (len from m : ℕ) (more : Tokens) (rest : Bytes) → piece.Token kind len from m ≡ piece_of before bytes → more ≡ found ++ of_kind kind (take m (drop from bytes)) line ∷ [] → rest ≡ drop len bytes
      → x ≡ scan (n - (at + 1)) Token line more rest
  token_kept kind len from m more rest p q r =
      stopped (piece.Token kind len from m) p ∙ ap (λ (l : Tokens). scan (n - (at + 1)) Token line l (drop len bytes)) (sym q) ∙ ap (scan (n - (at + 1)) Token line more) (sym r)

pub scan_done : (n at : ℕ) (before : Before) (line : ℕ) (found : Tokens) (bytes : Bytes) {x : Result Tokens LexFault} → n ≤ at → x ≡ scan (n - at) before line found bytes → x ≡ Ok found
unfolding scan
scan_done n at before line found bytes h e = no_more (λ k. scan k before line found bytes) n at h e

-- the line feeds stay below the count of bytes
pub feeds_kept : (feeds len fed all : ℕ) (bytes rest : Bytes) → feeds + length bytes ≤ all → fed ≤ len → len ≤ length bytes → rest ≡ drop len bytes → feeds + fed + length rest ≤ all
feeds_kept feeds len fed all bytes rest h p q r = rw r (omega (arith, length-drop len bytes))

pub feeds_still : (feeds len all : ℕ) (bytes rest : Bytes) → feeds + length bytes ≤ all → len ≤ length bytes → rest ≡ drop len bytes → feeds + length rest ≤ all
feeds_still feeds len all bytes rest h p r = rw r (omega (arith, length-drop len bytes))
