-- A text that is written piece by piece, and the functions of a generated program one after another.
use Rattle.std.proofs.Common.{◌≡◌, ℕ, suc, ◌+◌, ◌++◌, ap, sym, ◌∙◌, append_assoc, arith}
use Rattle.big_programs.specs.declared.choices.Choices.{Choices}
use Rattle.big_programs.specs.Draws.{choices_drawn, after_choices, state_before}
use Rattle.big_programs.specs.Generated.{Bytes, function_lines, first_functions}

-- a piece is written, and then the others
pub joined : (start middle end first rest : Bytes) → middle ≡ start ++ first → end ≡ middle ++ rest → end ≡ start ++ (first ++ rest)
joined start middle end first rest e f = f ∙ ap (λ (y : Bytes). y ++ rest) e ∙ append_assoc start first rest

pub next_function : (x n : ℕ) → first_functions x (n + 1) ≡ first_functions x n ++ function_lines (n + 1) (choices_drawn n (state_before x n))
next_function x n =
    let e : n + 1 ≡ suc n = omega arith in
    rw e

pub next_state : (x n : ℕ) → state_before x (n + 1) ≡ after_choices n (state_before x n)
next_state x n =
    let e : n + 1 ≡ suc n = omega arith in
    rw e

-- one more function is written, with what is drawn for it
pub function_turn : (x n state : ℕ) (start middle end : Bytes) (drawn : Choices)
    → middle ≡ start ++ first_functions x n → state ≡ state_before x n → drawn ≡ choices_drawn n state → end ≡ middle ++ function_lines (n + 1) drawn
    → end ≡ start ++ first_functions x (n + 1)
function_turn x n state start middle end drawn written at is e =
    joined start middle end (first_functions x n) _ written (e ∙ ap (λ (c : Choices). middle ++ function_lines (n + 1) c) (is ∙ ap (choices_drawn n) at))
    ∙ ap (λ (y : Bytes). start ++ y) (sym (next_function x n))

pub state_turn : (x n state after : ℕ) → state ≡ state_before x n → after ≡ after_choices n state → after ≡ state_before x (n + 1)
state_turn x n state after at e = e ∙ ap (after_choices n) at ∙ sym (next_state x n)
