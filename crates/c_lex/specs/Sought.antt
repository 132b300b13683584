-- What is looked for in some bytes.
use Rattle.std.specs.Prelude.{Bool}
use Rattle.c_language.specs.Words.{Bytes}
use Rattle.c_lex.specs.declared.place.Sought.{Sought}
use Rattle.c_lex.specs.declared.place.Sought.TheVariants as sought
use Rattle.c_lex.specs.Scanning.{is_end, is_end_or_feed, is_split, is_trigraph}

-- the test of what is looked for, at the bytes from a place on
abbrev pub stands : Sought → Bytes → Bool
stands sought.End = is_end
stands sought.EndOrFeed = is_end_or_feed
stands sought.Split = is_split
stands sought.Trigraph = is_trigraph
