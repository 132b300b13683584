-- What a sink has gained after two puts, for the proofs of its callers.
use Rattle.std.proofs.Common.{◌≡◌, ℕ, ◌+◌, inl, inr, None, Some, List, ◌++◌, length, take, refl, ap, sym, ◌∙◌, append_assoc, arith}
use Rattle.std.proofs.lemmas.Bool.{cases_lt}
use Rattle.std.proofs.lemmas.List.{take-append-le, take_all}
use Rattle.std.proofs.Math.Seq.{take-append_seam, take-append-add}
use Rattle.std.specs.Prelude.{Option}
use Rattle.std.specs.Io.KnownBytes.{append_known}
use Rattle.edge_io.specs.Written.{Gains, GainsFront}

-- a piece and then the next are the two together
pub append_known-append : (told : Option (List ℕ)) (piece next : List ℕ) → append_known (append_known told piece) next ≡ append_known told (piece ++ next)
append_known-append None piece next = refl
append_known-append (Some bytes) piece next = ap Some (append_assoc bytes piece next)

-- after two puts the sink has gained both pieces
pub Gains-both : (first mid last : Option (List ℕ)) (piece next : List ℕ) → Gains first mid piece → Gains mid last next → Gains first last (piece ++ next)
Gains-both first mid last piece next one two = two ∙ ap (λ told. append_known told next) one ∙ append_known-append first piece next

-- a prefix of the first piece is a prefix of both
pub GainsFront-first : (before after : Option (List ℕ)) (piece next : List ℕ) → GainsFront before after piece → GainsFront before after (piece ++ next)
GainsFront-first before after piece next gained =
    let n = gained.count in
    elim (cases_lt (length piece) n) [
      | inr within ↦ record { count = n; front = gained.front ∙ ap (append_known before) (sym (take-append-le n piece next within)) }
      | inl past ↦ record { count = length piece; front = gained.front ∙ ap (append_known before) (take_all n piece (omega arith) ∙ sym (take-append_seam piece next)) }
    ]

-- the first piece, and then a prefix of the next, is a prefix of both
pub GainsFront-next : (first mid last : Option (List ℕ)) (piece next : List ℕ) → Gains first mid piece → GainsFront mid last next → GainsFront first last (piece ++ next)
GainsFront-next first mid last piece next one gained =
    let n = gained.count in
    record { count = length piece + n; front = Gains-both first mid last piece (take n next) one gained.front ∙ ap (append_known first) (sym (take-append-add piece next n)) }

-- these laws, for a caller's search
pub ruleset two_pieces = (Gains-both, GainsFront-first, GainsFront-next)
