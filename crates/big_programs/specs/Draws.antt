-- The numbers that are drawn for a generated program.
use Rattle.std.specs.Prelude.{ℕ, zero, suc, ◌+◌, ◌*◌, ◌/◌, ◌%◌, ◌==◌, Option, Some, None}
use Rattle.big_programs.specs.declared.choices.Call.{Call}
use Rattle.big_programs.specs.declared.choices.Choices.{Choices}

-- ---- a generator of numbers (ISO C99 7.20.2.2, paragraph 5)

-- the state after a draw
abbrev pub after_draw : ℕ → ℕ
after_draw x = (x * 1103515245 + 12345) % 2147483648

-- the number below m that a draw gives at state x
abbrev pub drawn : ℕ → ℕ → ℕ
drawn m x = (after_draw x / 65536) % m

-- ---- what is drawn for a function that stands behind n others, from state x on

-- the call of one of them, which have the numbers from 1
abbrev pub call_drawn : ℕ → ℕ → Option Call
call_drawn zero x = None
call_drawn (suc n) x = Some (record { function = 1 + drawn (suc n) x; global = drawn 4 (after_draw x) })

abbrev pub after_call : ℕ → ℕ → ℕ
after_call zero x = x
after_call (suc n) x = after_draw (after_draw x)

-- the state before the call is drawn
abbrev pub before_call : ℕ → ℕ
before_call x = after_draw (after_draw x)

-- the numbers are drawn in the order of the statements
abbrev pub choices_drawn : ℕ → ℕ → Choices
choices_drawn n x = record {
  added = drawn 10 x;
  stored = drawn 4 (after_draw x);
  call = call_drawn n (before_call x);
  summed = drawn 4 (after_call n (before_call x));
  returns_local = drawn 2 (after_draw (after_call n (before_call x))) == 0;
}

abbrev pub after_choices : ℕ → ℕ → ℕ
after_choices n x = after_draw (after_draw (after_call n (before_call x)))

-- the state before the function that stands behind n others, where the seed is x
abbrev pub state_before : ℕ → ℕ → ℕ
state_before x zero = x
state_before x (suc n) = after_choices n (state_before x n)
