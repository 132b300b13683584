-- What holds of the body of each function, and of what is left after each of its steps, holds of all that is left to do wherever a run stands.
use Rattle.std.proofs.Common.{◌≡◌, ℕ, List, [], ◌∷◌, subst}
use Rattle.c_language.specs.Code.{Code}
use Rattle.c_meaning.specs.Acts.{Made}
use Rattle.c_meaning.specs.Activations.{Executable, code_at}
use Rattle.c_meaning.specs.Steps.{Reaches, Waiting, Point, machine, beginning}
use Rattle.run_facts.specs.NextSteps.{Next, Ends, Passes, Does, Calls, next_of}
use Rattle.run_facts.proofs.StepKinds.{IsKept, kept_run}

-- what is left after what a list does next
abbrev pub HoldsAfter : (ℕ → Code → Type 0) → ℕ → Next → Type 0
HoldsAfter P f Ends = Unit {0}
HoldsAfter P f (Passes change r) = P f r
HoldsAfter P f (Does i a go) = (v : Made) → P f (go v)
HoldsAfter P f (Calls i to g args r) = P f r

module _ (p : Executable) (P : ℕ → Code → Type 0) (bodies : (g : ℕ) → P g (code_at p g)) (goes : (f : ℕ) (c : Code) (n : Next) → next_of c ≡ n → P f c → HoldsAfter P f n) where
  abbrev pub AllHold : List Waiting → Type 0
  AllHold [] = Unit {0}
  AllHold (w ∷ ws) = P w.function w.rest × AllHold ws

  pub record HoldsAt (x : Point) : Type 0 where
    pub rest : P x.function x.rest
    pub callers : AllHold x.callers

  abbrev NothingMore : Point → Type 0
  NothingMore x = Unit {0}

  left : (x : Point) (n : Next) → next_of x.rest ≡ n → HoldsAt x → HoldsAfter P x.function n
  left x n e h = goes x.function x.rest n e h.rest

  back : (x : Point) (w : Waiting) (ws : List Waiting) → x.callers ≡ w ∷ ws → HoldsAt x → P w.function w.rest × AllHold ws
  back x w ws are h = subst AllHold are h.callers

  holds_kept : IsKept p NothingMore HoldsAt
  holds_kept = record {
    moves = λ x k more h. record { rest = left x _ k.next_is h; callers = h.callers };
    acts = λ x k more h. record { rest = left x _ k.next_is h k.value; callers = h.callers };
    begins = λ x k more h. record { rest = bodies k.function; callers = (left x _ k.next_is h, h.callers) };
    returns = λ x k more h. let b = back x k.caller k.others k.callers_are h in record { rest = b.0; callers = b.1 };
    stores_result = λ x k more h. let b = back x k.caller k.others k.callers_are h in record { rest = b.0; callers = b.1 };
  }

  pub holds_run : (input : List ℕ) (x : Point) → Reaches (machine p) (beginning p input) x → HoldsAt x
  holds_run input x r = kept_run p NothingMore HoldsAt holds_kept (beginning p input) (λ y before. tt) x r (record { rest = bodies p.main; callers = tt })
