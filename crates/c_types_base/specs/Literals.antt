-- What the first byte of a literal stands for, by its first two bytes.
use Rattle.std.specs.Prelude.{ℕ, Option, Some, None}
use Rattle.c_language.specs.Constants.{escape_value}

-- the byte behind a backslash, as an escape
abbrev pub behind_backslash : Option ℕ → ℕ
behind_backslash None = 0
behind_backslash (Some b) = escape_value b
