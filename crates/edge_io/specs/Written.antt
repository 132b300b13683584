-- What a sink tells of the bytes that were written, if it tells them.
use Rattle.std.specs.Prelude.{◌≡◌, ℕ, List, take, Option}
use Rattle.std.specs.Io.KnownBytes.{append_known}

-- the piece was written behind what was there; whether the sink tells its bytes stays the same
abbrev pub Gains : Option (List ℕ) → Option (List ℕ) → List ℕ → Type 0
Gains before after piece = after ≡ append_known before piece

-- a prefix of the piece was written, of so many bytes if it has them
pub record GainsFront (before after : Option (List ℕ)) (piece : List ℕ) : Type 0 where
  pub count : ℕ
  pub front : Gains before after (take count piece)
