use Rattle.std.proofs.Common.{◌≡◌, ◌+◌, ◌-◌, ◌≤◌, length, []}
use Rattle.c_language.specs.declared.token.Before.TheVariants.{Blank}
use Rattle.c_lex.specs.Scanning.{scan}
use Rattle.c_lex.proofs.lexer.scan.Given as goal

abbrev pub invariant-loop-turn : goal.invariant-loop-turn
invariant-loop-turn l = record {
  same : scan (length l.text) Blank 1 [] l.text ≡ scan (length l.text - l._turn) l.before (l.feeds + 1) l.found.items l.bytes;
  fits : l.feeds + length l.bytes ≤ length l.text;
}
