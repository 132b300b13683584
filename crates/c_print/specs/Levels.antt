-- The level that an indentation stands for.
use Rattle.std.specs.Prelude.{ℕ, suc, [], ◌∷◌}
use Rattle.c_language.specs.Words.{Bytes}

-- how many levels of four bytes
abbrev pub level_of : Bytes → ℕ
level_of [] = 0
level_of (a ∷ []) = 0
level_of (a ∷ (b ∷ [])) = 0
level_of (a ∷ (b ∷ (c ∷ []))) = 0
level_of (a ∷ (b ∷ (c ∷ (d ∷ rest)))) = suc (level_of rest)
