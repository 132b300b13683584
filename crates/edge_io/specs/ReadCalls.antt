-- What comes of reading a source, call by call. A law `may` says what a call can do: the source before it, the buffer
-- after it, how many bytes it put at the buffer's front or why it put none, and the source after it.
use Rattle.std.specs.Prelude.{◌≡◌, ◌≢◌, ℕ, ◌+◌, ◌-◌, ◌^◌, ◌<◌, List, [], ◌++◌, length, take, Result, Ok, Err, IfOk}
use Rattle.std.specs.IoError.{error_kind}
use Rattle.std.specs.declared.io.Error.{Error}
use Rattle.std.specs.declared.io.ErrorKind.TheVariants.{Interrupted}

-- so many calls gave these bytes, and the source is now this one
pub data Reads {S : Type 0} (may : S → List ℕ → Result ℕ Error → S → Type 0) (first : S) : ℕ → List ℕ → S → Type 0 where
  begins : Reads may first 0 [] first
  gave : {calls n : ℕ} {bytes buffer : List ℕ} {now next : S} → Reads may first calls bytes now
      → may now buffer (Ok n) next → 0 < n → Reads may first (calls + 1) (bytes ++ take n buffer) next
  interrupted : {calls : ℕ} {bytes buffer : List ℕ} {now next : S} {error : Error} → Reads may first calls bytes now
      → may now buffer (Err error) next → error_kind error ≡ Interrupted → Reads may first (calls + 1) bytes next

-- calls gave these bytes
pub record Gives {S : Type 0} (may : S → List ℕ → Result ℕ Error → S → Type 0) (first : S) (bytes : List ℕ) : Type 0 where
  pub calls : ℕ
  pub now : S
  pub reads : Reads may first calls bytes now

-- calls gave these bytes, and then one with room for more met the end
pub record GivesAll {S : Type 0} (may : S → List ℕ → Result ℕ Error → S → Type 0) (first : S) (bytes : List ℕ) : Type 0 where
  pub calls : ℕ
  pub now : S
  pub reads : Reads may first calls bytes now
  pub buffer : List ℕ
  pub room : 0 < length buffer
  pub last : S
  pub end : may now buffer (Ok 0) last

-- calls gave more bytes than these
pub record GivesMoreThan {S : Type 0} (may : S → List ℕ → Result ℕ Error → S → Type 0) (first : S) (most : ℕ) : Type 0 where
  pub bytes : List ℕ
  pub more : most < length bytes
  pub gives : Gives may first bytes

-- a call failed, or 2^64 - 1 calls were made
pub data IsUnreadable {S : Type 0} (may : S → List ℕ → Result ℕ Error → S → Type 0) (first : S) : Type 0 where
  failed : {calls : ℕ} {bytes buffer : List ℕ} {now last : S} {error : Error} → Reads may first calls bytes now
      → may now buffer (Err error) last → error_kind error ≢ Interrupted → IsUnreadable may first
  gave_up : {bytes : List ℕ} {last : S} → Reads may first (2 ^ 64 - 1) bytes last → IsUnreadable may first

-- the file with this name was opened, and this holds of it
pub record IsOpened {R F : Type 0} (may : R → List ℕ → Result F Error → Type 0) (files : R) (name : List ℕ) (Holds : F → Type 0) : Type 0 where
  pub file : F
  pub opened : may files name (Ok file)
  pub holds : Holds file

-- the file with this name couldn't be opened, or reading it failed
pub record IsUnfetchable {R F : Type 0} (may_open : R → List ℕ → Result F Error → Type 0) (may_read : F → List ℕ → Result ℕ Error → F → Type 0) (files : R) (name : List ℕ) : Type 0 where
  pub answer : Result F Error
  pub opened : may_open files name answer
  pub unreadable : IfOk answer (IsUnreadable may_read)
