-- What a reader has given and a writer has taken, in the middle of a loop.
use Rattle.std.proofs.Common.{ℕ, ◌≡◌, ◌<◌, ◌≤◌, ◌+◌, ◌-◌, List, [], ◌++◌, length, take, drop, zero-le, refl, sym, ap, subst, ◌∙◌, arith, append_assoc, append-nil, length-append, take-append-drop}
use Rattle.std.proofs.lemmas.List.{take_at, take_rest, take-append-le}
use Rattle.std.specs.Prelude.{Option}
use Rattle.std.specs.Io.KnownBytes.{Appends, Consumes, Keeps}
use Rattle.std.proofs.KnownBytes.{Appends-nil, Appends-trans, Appends-kept, Consumes-nil, Consumes-trans, Consumes-kept}

-- so far these bytes were read, at most so many
pub record HasRead (limit : ℕ) (first now : Option (List ℕ)) (bytes : List ℕ) : Type 0 where
  pub within : length bytes ≤ limit
  pub consumed : Consumes first now bytes

pub unread : (limit : ℕ) (first : Option (List ℕ)) → HasRead limit first first []
unread limit first = record { within = zero-le; consumed = Consumes-nil first }

-- the first n bytes of a buffer, wherever it stands at the front
pub gives_front : (before after buffer behind : List ℕ) (n : ℕ) → after ≡ before ++ take n (buffer ++ behind) → n ≤ length buffer → after ≡ before ++ take n buffer
gives_front before after buffer behind n is within = is ∙ ap (λ l. before ++ l) (take-append-le n buffer behind within)

-- a read that gave nothing leaves this as it was
pub read_none : (limit : ℕ) (first now next : Option (List ℕ)) (bytes : List ℕ) → HasRead limit first now bytes → Keeps now next → HasRead limit first next bytes
read_none limit first now next bytes so_far keeps = record { within = so_far.within; consumed = Consumes-kept first now next bytes so_far.consumed keeps }

-- a read that gave more goes on behind what was read
pub read_more : (limit : ℕ) (first now next : Option (List ℕ)) (bytes more : List ℕ) → HasRead limit first now bytes → Consumes now next more → length bytes + length more ≤ limit
    → HasRead limit first next (bytes ++ more)
read_more limit first now next bytes more so_far given fits =
    record { within = omega (arith, length-append bytes more); consumed = Consumes-trans first now next bytes more so_far.consumed given }

-- so far a front of the piece was written, and the rest is left
pub record HasWritten (piece rest : List ℕ) (first now : Option (List ℕ)) : Type 0 where
  pub front : List ℕ
  pub split : piece ≡ front ++ rest
  pub appended : Appends first now front

pub begun : (piece : List ℕ) (first : Option (List ℕ)) → HasWritten piece piece first first
begun piece first = record { front = []; split = refl; appended = Appends-nil first }

-- a write that took nothing leaves this as it was
pub kept : (piece rest : List ℕ) (first now next : Option (List ℕ)) → HasWritten piece rest first now → Keeps now next → HasWritten piece rest first next
kept piece rest first now next so_far keeps =
    record { front = so_far.front; split = so_far.split; appended = Appends-kept first now next so_far.front so_far.appended keeps }

-- a write that took n bytes leaves what is behind them
pub goes_on : (piece rest : List ℕ) (first now next : Option (List ℕ)) (n : ℕ) → HasWritten piece rest first now → Appends now next (take n rest) → HasWritten piece (take (length rest - n) (drop n rest)) first next
goes_on piece rest first now next n so_far appends =
    record {
      front = so_far.front ++ take n rest;
      split = so_far.split ∙ ap (λ l. so_far.front ++ l) (sym (take-append-drop n rest)) ∙ sym (append_assoc so_far.front (take n rest) (drop n rest))
          ∙ ap (λ l. (so_far.front ++ take n rest) ++ l) (sym (take_rest rest n));
      appended = Appends-trans first now next so_far.front (take n rest) so_far.appended appends;
    }

-- and so does one that took none of the bytes
pub kept_at_none : (piece rest : List ℕ) (first now next : Option (List ℕ)) (n : ℕ) → HasWritten piece rest first now → Appends now next (take n rest) → n ≡ 0 → HasWritten piece rest first next
kept_at_none piece rest first now next n so_far appends none =
    let more = Appends-trans first now next so_far.front (take 0 rest) so_far.appended (rw none at appends) in
    record { front = so_far.front; split = so_far.split; appended = subst (Appends first next) (append-nil so_far.front) more }

-- what was written while some of the piece is left is a front of it that lacks some
pub written_front : (piece rest : List ℕ) (first now : Option (List ℕ)) → HasWritten piece rest first now → 0 < length rest → (n : ℕ) × (n < length piece) × Appends first now (take n piece)
written_front piece rest first now so_far left =
    let is_front : take (length so_far.front) piece ≡ so_far.front = ap (take (length so_far.front)) so_far.split ∙ take_at so_far.front rest (length so_far.front) (λ _. length so_far.front) in
    let lacks : length so_far.front < length piece = omega (arith, ap length so_far.split, length-append so_far.front rest) in
    (length so_far.front, lacks, subst (Appends first now) (sym is_front) so_far.appended)
