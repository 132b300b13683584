-- How a point of a run of the original agrees with one of the slice, where both stand in activations that kept calls alone have reached.
use Rattle.std.specs.Prelude.{◌≡◌, ◌⊎◌, ℕ, List, [], ◌∷◌, ◌++◌, Bool, true, false}
use Rattle.c_meaning.specs.Values.{State}
use Rattle.c_meaning.specs.Steps.{Waiting, Point}
use Rattle.run_facts.specs.CallTouching.{called_below}
use Rattle.simulation.specs.Places.{kept_target, At, Behind}
use Rattle.simulation.specs.Settings.{Calling, ResultOut, Setting, Reached, ReachedThere, seen}

-- a caller of g that waits in m, and the one that waits in the slice in n: its call is kept, and what is wanted where it waits agrees
pub record Waits (s : Setting) (w : s.W) (g : ℕ) (a b : Waiting) (m n : State) : Type 0 where
  pub kept_call : s.kept (Calling a.function a.call g) ≡ true
  pub call_is : b.call ≡ s.statement a.call
  pub function_is : b.function ≡ s.function a.function
  pub target_is : b.target ≡ kept_target (s.kept (ResultOut a.function a.call g)) (s.target a.target)
  pub rest_is : b.rest ≡ s.project a.function a.rest
  pub frames : s.Frames w a.frame b.frame
  pub same : (l : s.L) → s.wanted l (Behind a.function a.call g a.target a.rest) → s.Same w l (seen a m) (seen b n)

-- so it is of each caller that waits, the first of which has called g
abbrev pub Stack : (s : Setting) → s.W → ℕ → (callers callers_there : List Waiting) → State → State → Type 0
Stack s w g [] [] m n = Unit {0}
Stack s w g [] (b ∷ bs) m n = ⊥
Stack s w g (a ∷ as_) [] m n = ⊥
Stack s w g (a ∷ as_) (b ∷ bs) m n = Waits s w g a b m n × Stack s w a.function as_ bs m n

-- the slice stands at the projection of the original's place, its blocks stand for blocks, those of variables for those of the same
-- variables in the same activation, and what is wanted agrees, in the activation that runs and in each that waits
pub record Agree (s : Setting) (w : s.W) (x y : Point) : Type 0 where
  pub reached : Reached s x
  pub reached_there : ReachedThere s y
  pub function_is : y.function ≡ s.function x.function
  pub rest_is : y.rest ≡ s.project x.function x.rest
  pub blocks : s.Blocks w x.state y.state
  pub frames : s.Frames w x.state.frame y.state.frame
  pub same : (l : s.L) → s.wanted l (At x.function x.rest) → s.Same w l x.state y.state
  pub stack : Stack s w x.function x.callers y.callers x.state y.state

-- they agree at some world
pub record Agreeing (s : Setting) (x y : Point) : Type 0 where
  pub world : s.W
  pub agree : Agree s world x y

-- ---- what keeps agreement, as premises say it

-- what callers that wait see, below an activation of f, agrees after a step of both programs where f doesn't modify it: the state was m
-- and is m1, and in the slice n and n1. The function that a caller has called is f, or that of the caller above
abbrev pub CallersAgree : (s : Setting) → (w world : s.W) → ℕ → List Waiting → (m n m1 n1 : State) → Type 0
CallersAgree s w world f callers m n m1 n1 =
    (above : List Waiting) (a b : Waiting) (below : List Waiting) (l : s.L) → callers ≡ above ++ (a ∷ below)
    → s.Frames w a.frame b.frame → s.modifies (called_below above f) l ≡ false → s.Same w l (seen a m) (seen b n)
    → s.Same world l (seen a m1) (seen b n1)

-- an act, a move or a store of both programs, in an activation of f: at each location that it kills, or where memories agreed before,
-- they agree after it
pub record Together (s : Setting) (w : s.W) (f : ℕ) (callers : List Waiting) (killed : s.L → Bool) (m n m1 n1 : State) : Type 0 where
  pub world : s.W
  pub grows : s.Grows w world
  pub blocks : s.Blocks world m1 n1
  pub frames : s.Frames world m1.frame n1.frame
  pub same : (l : s.L) → (killed l ≡ true) ⊎ s.Same w l m n → s.Same world l m1 n1
  pub waiting : CallersAgree s w world f callers m n m1 n1
