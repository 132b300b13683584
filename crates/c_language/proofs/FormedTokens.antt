-- The tokens of a text are formed.
use Rattle.std.proofs.Common.{ℕ, All}
use Rattle.std.proofs.lemmas.List.Elements.{All-nil, All-cons}
use Rattle.c_language.specs.Words.{Bytes}
use Rattle.c_language.specs.TokenForms.{Tokens}
use Rattle.c_language.specs.Tokens.{IsTokens}
use Rattle.c_language.specs.Programs.{IsFormed}
use Rattle.c_language.specs.declared.token.Before.{Before}

pub formed_tokens : {before : Before} {line : ℕ} {bytes : Bytes} {ts : Tokens} → IsTokens before line bytes ts → All IsFormed ts
formed_tokens IsTokens.done = All-nil IsFormed
formed_tokens (IsTokens.space some rest) = formed_tokens rest
formed_tokens (IsTokens.token {before} {own} {rest} is later) = All-cons IsFormed _ _ (record { before = before; own = own; rest = rest; is = is }) (formed_tokens later)
