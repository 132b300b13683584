-- A comment on a line of its own, in front of a text: the tokens of the text stand a line later.
use Rattle.std.proofs.Common.{◌≡◌, ℕ, ◌+◌, [], ◌∷◌, ◌++◌, true, codes, append_assoc, refl, sym, ap, subst, ◌∙◌, true≢false, arith}
use Rattle.std.specs.Prelude.{not, ◌==◌}
use Rattle.std.proofs.lemmas.Bool.{and_parts}
use Rattle.c_language.specs.Words.{Bytes}
use Rattle.c_language.specs.TokenForms.{Tokens}
use Rattle.c_language.specs.Tokens.{line_feeds, LacksEnd, LacksSplitEnd, AreJoins, IsJoin, behind_comment, IsSpace, IsTokens, AreTokensOf}
use Rattle.c_language.specs.declared.token.Before.TheVariants.{Blank}
use Rattle.c_print.specs.Feedless.{feedless}
use Rattle.c_print.proofs.FeedLemmas.{cat, no_feeds}
use Rattle.c_print_laws.specs.ReadAgain.{starless, comment_line}

abbrev tail : Bytes → Bytes
tail [] = []
tail (b ∷ bs) = bs

-- no star stands in the bytes, so nothing with one is equal to them
no_star : (front back : Bytes) → starless (front ++ 42 ∷ back) ≡ true → ⊥
no_star [] back h = true≢false (sym h)
no_star (b ∷ front) back h = no_star front back (and_parts (not (b == 42)) (starless (front ++ 42 ∷ back)) h).1

-- joined line ends hold a line feed
joins_feed : {joins : Bytes} → AreJoins joins → (back : Bytes) → feedless (joins ++ back) ≡ true → ⊥
joins_feed (AreJoins.one IsJoin.backslash) back h = true≢false (sym h)
joins_feed (AreJoins.one IsJoin.trigraph) back h = true≢false (sym h)
joins_feed (AreJoins.more IsJoin.backslash more) back h = true≢false (sym h)
joins_feed (AreJoins.more IsJoin.trigraph more) back h = true≢false (sym h)

module _ (inside : Bytes) (plain : feedless inside ≡ true) (calm : starless inside ≡ true) where
  lacks_end : LacksEnd inside
  lacks_end front back e = no_star front (47 ∷ back) (ap starless (sym e) ∙ calm)

  lacks_split : LacksSplitEnd (codes "*" ++ inside)
  lacks_split [] joins back are e = joins_feed are (47 ∷ back) (ap feedless (sym (ap tail e)) ∙ plain)
  lacks_split (b ∷ front) joins back are e = no_star front (joins ++ 47 ∷ back) (ap starless (sym (ap tail e)) ∙ calm)

  abbrev own : Bytes
  own = codes "/*" ++ (inside ++ codes "*/")

  one_line : line_feeds own ≡ 0
  one_line = no_feeds own (cat inside (codes "*/") plain refl)

  -- The tokens of a text behind the comment, whose first line is line 2.
  pub behind_comment_line : (text : Bytes) (ts : Tokens) → IsTokens Blank 2 text ts → AreTokensOf (comment_line inside ++ text) ts
  behind_comment_line text ts h =
      let two : 1 + line_feeds own + 1 ≡ 2 = omega (arith, one_line) in
      let feed : IsTokens (behind_comment inside Blank) (1 + line_feeds own) (codes "\n" ++ text) ts = IsTokens.space IsSpace.feed (subst (λ (n : ℕ). IsTokens Blank n text ts) (sym two) h) in
      let all : AreTokensOf (own ++ (codes "\n" ++ text)) ts = IsTokens.space (IsSpace.comment lacks_end lacks_split) feed in
      subst (λ (bytes : Bytes). AreTokensOf bytes ts) split all
    where
      split : own ++ (codes "\n" ++ text) ≡ comment_line inside ++ text
      split =
          ap (λ (bytes : Bytes). 47 ∷ 42 ∷ bytes)
          (append_assoc inside (codes "*/") (codes "\n" ++ text) ∙ sym (append_assoc inside (codes "*/\n") text))
