-- What comes of writing a piece to a stream, call by call. A law `may` says what a call can do: the stream before it,
-- the bytes that it is given, how many of them it takes or why it takes none, and the stream after it.
use Rattle.std.specs.Prelude.{◌≡◌, ◌≢◌, ℕ, ◌+◌, ◌-◌, ◌^◌, ◌<◌, List, [], length, drop, Result, Ok, Err}
use Rattle.std.specs.IoError.{error_kind}
use Rattle.std.specs.declared.io.Error.{Error}
use Rattle.std.specs.declared.io.ErrorKind.TheVariants.{Interrupted}

-- so many calls wrote the piece but for this rest, each made while some of it was left, and the stream is now this one
pub data Writes {S : Type 0} (may : S → List ℕ → Result ℕ Error → S → Type 0) (piece : List ℕ) (first : S) : ℕ → List ℕ → S → Type 0 where
  begins : Writes may piece first 0 piece first
  took : {calls n : ℕ} {rest : List ℕ} {now next : S} → Writes may piece first calls rest now → 0 < length rest
      → may now rest (Ok n) next → 0 < n → Writes may piece first (calls + 1) (drop n rest) next
  interrupted : {calls : ℕ} {rest : List ℕ} {now next : S} {error : Error} → Writes may piece first calls rest now → 0 < length rest
      → may now rest (Err error) next → error_kind error ≡ Interrupted → Writes may piece first (calls + 1) rest next

-- calls wrote the whole piece
pub record IsWritten {S : Type 0} (may : S → List ℕ → Result ℕ Error → S → Type 0) (piece : List ℕ) (first last : S) : Type 0 where
  pub calls : ℕ
  pub writes : Writes may piece first calls [] last

-- while some of the piece was left, a call failed, or took nothing, or 2^64 - 1 calls were made
pub data IsCutShort {S : Type 0} (may : S → List ℕ → Result ℕ Error → S → Type 0) (piece : List ℕ) (first : S) : S → Type 0 where
  failed : {calls : ℕ} {rest : List ℕ} {now last : S} {error : Error} → Writes may piece first calls rest now → 0 < length rest
      → may now rest (Err error) last → error_kind error ≢ Interrupted → IsCutShort may piece first last
  took_none : {calls : ℕ} {rest : List ℕ} {now last : S} → Writes may piece first calls rest now → 0 < length rest
      → may now rest (Ok 0) last → IsCutShort may piece first last
  gave_up : {rest : List ℕ} {last : S} → Writes may piece first (2 ^ 64 - 1) rest last → 0 < length rest
      → IsCutShort may piece first last
