-- What is printed of a tree that is syntax is read again.
use Rattle.std.specs.Prelude.{◌≡◌, true}
use Rattle.c_tree.specs.declared.raw.program.RawProgram.{RawProgram}
use Rattle.c_language.specs.Words.{Bytes}
use Rattle.c_language.specs.TokenForms.{Tokens}
use Rattle.c_language.specs.Tokens.{AreTokensOf}
use Rattle.c_language.specs.ItemGrammar.{IsProgram}
use Rattle.c_language.specs.Syntax.{IsSyntax}
use Rattle.c_text_layout.specs.RawLayout.{raw_layout}
use Rattle.c_text_layout.specs.Settled.{SameInLayout, items_lack_lengths}
use Rattle.c_text_layout.specs.Declarations.{HasShortLists}

-- the bytes have tokens of a tree that is the same in all that the layout keeps, and none of its parameters has a length
pub record HasTreeAgain (text : Bytes) (raw : RawProgram) : Type 0 where
  pub tokens : Tokens
  pub found : RawProgram
  pub lexed : AreTokensOf text tokens
  pub is : IsProgram tokens found
  pub same : SameInLayout found raw
  pub bare : items_lack_lengths found.items ≡ true

-- the layout of a tree that is syntax is read as that tree, where its lists of initialisers are short
abbrev pub SyntaxIsPrinted : Type 0
SyntaxIsPrinted = (raw : RawProgram) → IsSyntax raw → HasShortLists raw → HasTreeAgain (raw_layout raw) raw
