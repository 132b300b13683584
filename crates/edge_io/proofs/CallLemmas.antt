-- What calls of a stream or a source have done, in the middle of a loop.
use Rattle.std.proofs.Common.{ℕ, ◌≡◌, ◌≢◌, ◌<◌, ◌+◌, ◌-◌, ◌^◌, Bool, false, ◌==◌, ◌↔◌, IsTrue, List, length, take, drop, Result, Ok, Err, IfErr, IsErrAnd, sym, subst, ◌∙◌, arith, true≢false}
use Rattle.std.proofs.lemmas.Bool.Decides.{nat_tests}
use Rattle.std.proofs.lemmas.List.{take_rest}
use Rattle.std.specs.declared.io.Error.{Error}
use Rattle.edge_io.specs.declared.shelf.FetchFault.{FetchFault}
use Rattle.edge_io.specs.declared.shelf.FetchFault.TheVariants.{Failed}
use Rattle.edge_io.specs.WriteCalls.{Writes, IsCutShort}
use Rattle.edge_io.specs.ReadCalls.{Reads, IsUnreadable, IsUnfetchable}

-- ---- what the tests of the loops say

pub some_left : (rest : List ℕ) (is_empty : Bool) → is_empty ≡ (length rest == 0) → is_empty ≡ false → 0 < length rest
some_left rest is_empty told none = grind (arith, nat_tests)

pub other_kind : {K : Type 0} {kind named : K} (is_named : Bool) → (IsTrue is_named ↔ (kind ≡ named)) → is_named ≡ false → kind ≢ named
other_kind is_named told none = λ same. true≢false (sym (told.1 same) ∙ none)

-- what holds of a fault holds of an answer that passes it on
pub passed_on : {A F : Type 0} (P : Result A F → Type 0) (fault : F) (passed : Result A F) → IsErrAnd passed (λ y. y ≡ fault) → P (Err fault) → P passed
passed_on P fault (Ok x) is holds = absurd is
passed_on {F} P fault (Err y) is holds = subst (λ (f : F). P (Err f)) (sym is) holds

-- ---- writing

-- a call that took bytes leaves those behind them
pub took_some : {S : Type 0} {may : S → List ℕ → Result ℕ Error → S → Type 0} {piece rest : List ℕ} {first now next : S} {calls n : ℕ} → Writes may piece first calls rest now
    → 0 < length rest → may now rest (Ok n) next → 0 < n → Writes may piece first (calls + 1) (take (length rest - n) (drop n rest)) next
took_some {rest = rest} {n = n} so_far left call some = rw (take_rest rest n) (Writes.took so_far left call some)

pub stopped_at_none : {S : Type 0} {may : S → List ℕ → Result ℕ Error → S → Type 0} {piece rest : List ℕ} {first now last : S} {calls n : ℕ} → Writes may piece first calls rest now
    → 0 < length rest → may now rest (Ok n) last → n ≡ 0 → IsCutShort may piece first last
stopped_at_none so_far left call none = IsCutShort.took_none so_far left (rw none at call)

pub stopped_at_last : {S : Type 0} {may : S → List ℕ → Result ℕ Error → S → Type 0} {piece rest : List ℕ} {first last : S} {calls : ℕ} → Writes may piece first calls rest last
    → 0 < length rest → calls ≡ 2 ^ 64 - 1 → IsCutShort may piece first last
stopped_at_last so_far left all = IsCutShort.gave_up (rw all at so_far) left

-- ---- reading

pub unread_at_last : {S : Type 0} {may : S → List ℕ → Result ℕ Error → S → Type 0} {first last : S} {bytes : List ℕ} {calls : ℕ} → Reads may first calls bytes last
    → calls ≡ 2 ^ 64 - 1 → IsUnreadable may first
unread_at_last so_far all = IsUnreadable.gave_up (rw all at so_far)

-- where reading an opened file failed, the file couldn't be fetched
pub unread_file : {A R F : Type 0} (may_open : R → List ℕ → Result F Error → Type 0) (may_read : F → List ℕ → Result ℕ Error → F → Type 0) (files : R) (name : List ℕ) (file : F) (read : Result A FetchFault)
    → may_open files name (Ok file) → IfErr read (λ fault. fault ≡ Failed → IsUnreadable may_read file) → IfErr read (λ fault. fault ≡ Failed → IsUnfetchable may_open may_read files name)
unread_file may_open may_read files name file (Ok bytes) opened unread = tt
unread_file may_open may_read files name file (Err fault) opened unread = λ is. record { answer = Ok file; opened = opened; unreadable = unread is }
