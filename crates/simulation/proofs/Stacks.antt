-- Callers that wait, in both programs: what becomes of their agreement at a step, and the first of them.
use Rattle.std.proofs.Common.{◌≡◌, ℕ, List, [], ◌∷◌, ◌++◌, append_assoc, Option, true, false, refl, sym, ◌∙◌, subst}
use Rattle.c_meaning.specs.Values.{State}
use Rattle.c_meaning.specs.Steps.{Waiting}
use Rattle.run_facts.specs.CallTouching.{called_below}
use Rattle.simulation.specs.Places.{Behind}
use Rattle.simulation.specs.Settings.{Calling, Setting}
use Rattle.simulation.specs.Agreeing.{Waits, Stack, CallersAgree}
use Rattle.simulation.specs.Abreast.{KeptCalls}

pub called_through : (above : List Waiting) (a : Waiting) (below : List Waiting) (f : ℕ) → called_below (above ++ (a ∷ below)) f ≡ called_below below a.function
called_through [] a below f = refl
called_through (c ∷ above) a below f = called_through above a below c.function

module _ (s : Setting) where
  -- callers that wait want nothing that what they have called modifies, f or the function of the caller above
  abbrev pub WantUnmodified : ℕ → List Waiting → Type 0
  WantUnmodified f callers =
      (above : List Waiting) (a : Waiting) (below : List Waiting) (l : s.L) → callers ≡ above ++ (a ∷ below) → s.wanted l (Behind a.function a.call (called_below above f) a.target a.rest) → s.modifies (called_below above f) l ≡ false

  module _ (w u : s.W) (f : ℕ) (callers : List Waiting) (m n m1 n1 : State) (frames : (here there : ℕ → Option ℕ) → s.Frames w here there → s.Frames u here there) (free : WantUnmodified f callers) (carry : CallersAgree s w u f callers m n m1 n1) where
    waits_on : (above : List Waiting) (a b : Waiting) (below : List Waiting) → callers ≡ above ++ (a ∷ below) → Waits s w (called_below above f) a b m n → Waits s u (called_below above f) a b m1 n1
    waits_on above a b below e h = record {
      kept_call = h.kept_call;
      call_is = h.call_is;
      function_is = h.function_is;
      target_is = h.target_is;
      rest_is = h.rest_is;
      frames = frames a.frame b.frame h.frames;
      same = λ l want. carry above a b below l e h.frames (free above a below l e want) (h.same l want);
    }

    stack_below : (above below bs : List Waiting) → callers ≡ above ++ below → Stack s w (called_below above f) below bs m n → Stack s u (called_below above f) below bs m1 n1
    stack_below above [] [] e h = tt
    stack_below above [] (b ∷ bs) e h = absurd h
    stack_below above (a ∷ below) [] e h = absurd h
    stack_below above (a ∷ below) (b ∷ bs) e h =
        let q : called_below (above ++ (a ∷ [])) f ≡ a.function = called_through above a [] f in
        let rest : Stack s u (called_below (above ++ (a ∷ [])) f) below bs m1 n1 = stack_below (above ++ (a ∷ [])) below bs (e ∙ sym (append_assoc above (a ∷ []) below)) (subst (λ (g : ℕ). Stack s w g below bs m n) (sym q) h.1) in
        (waits_on above a b below e h.0, subst (λ (g : ℕ). Stack s u g below bs m1 n1) q rest)

    -- all that wait agree again
    pub stack_on : (bs : List Waiting) → Stack s w f callers bs m n → Stack s u f callers bs m1 n1
    stack_on bs h = stack_below [] callers bs refl h

  -- ---- the first that waits

  pub record Headed (w : s.W) (g : ℕ) (a : Waiting) (below bs : List Waiting) (m n : State) : Type 0 where
    pub first : Waiting
    pub others : List Waiting
    pub callers_are : bs ≡ first ∷ others
    pub waits : Waits s w g a first m n
    pub stack : Stack s w a.function below others m n

  headed : (w : s.W) (g : ℕ) (a : Waiting) (below bs : List Waiting) (m n : State) → Stack s w g (a ∷ below) bs m n → Headed w g a below bs m n
  headed w g a below [] m n h = absurd h
  headed w g a below (b ∷ bs) m n h = record { first = b; others = bs; callers_are = refl; waits = h.0; stack = h.1 }

  pub head_of : (w : s.W) (g : ℕ) (callers : List Waiting) (a : Waiting) (below bs : List Waiting) (m n : State) → callers ≡ a ∷ below → Stack s w g callers bs m n → Headed w g a below bs m n
  head_of w g callers a below bs m n e h =
      headed w g a below bs m n (subst (λ (cs : List Waiting). Stack s w g cs bs m n) e h)

  none_there : (w : s.W) (g : ℕ) (bs : List Waiting) (m n : State) → Stack s w g [] bs m n → bs ≡ []
  none_there w g [] m n h = refl
  none_there w g (b ∷ bs) m n h = absurd h

  pub none_waits : (w : s.W) (g : ℕ) (callers bs : List Waiting) (m n : State) → callers ≡ [] → Stack s w g callers bs m n → bs ≡ []
  none_waits w g callers bs m n e h =
      none_there w g bs m n (subst (λ (cs : List Waiting). Stack s w g cs bs m n) e h)

  -- ---- kept calls

  pub kept_calls : (w : s.W) (g : ℕ) (callers bs : List Waiting) (m n : State) → Stack s w g callers bs m n → KeptCalls s g callers
  kept_calls w g [] bs m n h = tt
  kept_calls w g (a ∷ as_) [] m n h = absurd h
  kept_calls w g (a ∷ as_) (b ∷ bs) m n h = (h.0.kept_call, kept_calls w a.function as_ bs m n h.1)

  pub kept_through : (above : List Waiting) (a : Waiting) (below : List Waiting) (f : ℕ) → KeptCalls s f (above ++ (a ∷ below)) → s.kept (Calling a.function a.call (called_below above f)) ≡ true
  kept_through [] a below f h = h.0
  kept_through (c ∷ above) a below f h = kept_through above a below c.function h.1
