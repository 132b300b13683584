-- What is printed of a tree that is syntax is read again.
use Rattle.std.proofs.Common.{ℕ, [], ◌∷◌, ◌++◌, append-nil, reverse, sym, subst}
use Rattle.c_tree.specs.declared.raw.program.RawProgram.{RawProgram}
use Rattle.c_language.specs.Words.{Bytes}
use Rattle.c_language.specs.TokenForms.{Tokens}
use Rattle.c_language.specs.Tokens.{IsTokens, AreTokensOf}
use Rattle.c_language.specs.declared.token.Before.TheVariants.{Blank}
use Rattle.c_language.specs.LeftOut.{IsTold, BeginsLeftOut, IsLeftOut}
use Rattle.c_language.specs.declared.token.Token.{Token}
use Rattle.c_language.specs.ItemGrammar.{IsProgram}
use Rattle.c_language.specs.Syntax.{IsSyntax}
use Rattle.c_language.proofs.FormedTokens.{formed_tokens}
use Rattle.c_text_layout.specs.RawLayout.{raw_layout}
use Rattle.c_text_layout.specs.Declarations.{HasShortLists}
use Rattle.c_text_layout.proofs.ItemTexts.{syntax_is_printed}
use Rattle.text_syntax.proofs.CalmTokens.{AreUntold, untold_at}
use Rattle.c_print_laws.specs.SyntaxLayout.{HasTreeLike}
use Rattle.c_print_laws.proofs.NestingKept.{nesting_kept}

-- ---- left-out constructs

none_begins : {ts front behind : Tokens} {t : Token} (all : RawProgram) → IsProgram ts all → AreUntold [] (front ++ t ∷ behind) → BeginsLeftOut ts front t behind → ⊥
none_begins {front = front} {behind} {t} all is h (BeginsLeftOut.told told) = untold_at front [] t behind h (subst (λ (x : Tokens). IsTold x t behind) (sym (append-nil (reverse front))) told)
none_begins all is h (BeginsLeftOut.without_tree none k) = none all is

-- Where none is told at tokens in the grammar, no left-out construct begins among them.
pub none_left_out : {ts : Tokens} (all : RawProgram) → IsProgram ts all → AreUntold [] ts → (text : Bytes) (line : ℕ) → IsLeftOut ts text line → ⊥
none_left_out all is h text line x = none_begins all is (subst (AreUntold []) x.split h) x.begins

-- The layout of a tree that is syntax has tokens of a tree that is like it, behind what its tokens stand behind.
pub syntax_behind : (front : Bytes) (line : ℕ) → ((text : Bytes) (ts : Tokens) → IsTokens Blank line text ts → AreTokensOf (front ++ text) ts) → (raw : RawProgram) → IsSyntax raw → HasShortLists raw → HasTreeLike (front ++ raw_layout raw) raw
syntax_behind front line behind raw h short =
    let r = syntax_is_printed line raw h short in
    record {
      tokens = r.tokens;
      found = r.found;
      are = behind (raw_layout raw) r.tokens r.lexed;
      tree = record { formed = formed_tokens r.lexed; grammar = r.is; whole = none_left_out r.found r.is r.untold };
      same = r.same;
      nesting = nesting_kept raw r.found r.same r.bare;
    }

-- The layout of a tree that is syntax is a text.
pub syntax_is_read_again : (raw : RawProgram) → IsSyntax raw → HasShortLists raw → HasTreeLike (raw_layout raw) raw
syntax_is_read_again raw h short = syntax_behind [] 1 (λ text ts lexed. lexed) raw h short
