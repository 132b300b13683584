-- What relates the two programs before each step: they agree, or the original is in a call that the slice hasn't; and the slice's reply.
use Rattle.std.proofs.Common.{◌≡◌, ℕ, List, [], ◌∷◌, ◌++◌, false, ◌⊎◌}
use Rattle.c_meaning.specs.Steps.{Step, Stops, Fails, Acts, Moves, Breaks, Waiting, Point, step}
use Rattle.run_facts.specs.CallTouching.{called_below}
use Rattle.simulation.specs.Places.{Behind}
use Rattle.simulation.specs.Settings.{Calling, Setting, Reached, ReachedThere, seen}
use Rattle.simulation.specs.Agreeing.{Stack, Agreeing}
use Rattle.simulation.specs.Abreast.{IsShared, DoSame, SameAt}

module _ (s : Setting) where
  -- the activation of f, and those of these callers, hold nothing of the criterion
  abbrev pub NoneHold : ℕ → List Waiting → Type 0
  NoneHold f [] = s.holds f → ⊥
  NoneHold f (c ∷ cs) = (s.holds f → ⊥) × NoneHold c.function cs

  pub none_holds : (f : ℕ) (cs : List Waiting) → NoneHold f cs → s.holds f → ⊥
  none_holds f [] h = h
  none_holds f (c ∷ cs) h = h.0

  -- the original is in a call that isn't kept, made by a caller at which the slice stands behind the call
  pub record Away (x y : Point) : Type 0 where
    pub world : s.W
    pub above : List Waiting
    pub caller : Waiting
    pub below : List Waiting
    pub callers_are : x.callers ≡ above ++ (caller ∷ below)
    pub unkept : s.kept (Calling caller.function caller.call (called_below above x.function)) ≡ false
    pub nobody : NoneHold x.function above
    pub reached : Reached s x
    pub reached_there : ReachedThere s y
    pub function_is : y.function ≡ s.function caller.function
    pub rest_is : y.rest ≡ s.project caller.function caller.rest
    pub blocks : s.Blocks world x.state y.state
    pub frames : s.Frames world caller.frame y.state.frame
    pub same : (l : s.L) → s.wanted l (Behind caller.function caller.call (called_below above x.function) caller.target caller.rest) → s.Same world l (seen caller x.state) y.state
    pub stack : Stack s world caller.function below y.callers x.state y.state

  pub record Related (x y : Point) : Type 0 where
    pub points : Agreeing s x y ⊎ Away x y
    pub traces : SameAt s x.trace.events y.trace.events

  -- ---- what the slice does

  pub record ActsToo (x y x1 : Point) : Type 0 where
    pub shared : IsShared s x
    pub same_act : DoSame s x y
    pub agreeing : Agreeing s x y
    pub next : Point
    pub acts : step s.slice y ≡ Acts next
    pub related : Related x1 next

  pub record MovesToo (y x1 : Point) : Type 0 where
    pub next : Point
    pub moves : step s.slice y ≡ Moves next
    pub related : Related x1 next

  -- where the original does this from x, the slice stops too; does a shared act and no other; and moves or stays
  abbrev pub Replied : Point → Step Point → Point → Type 0
  Replied x Stops y = Agreeing s x y × (step s.slice y ≡ Stops)
  Replied x (Fails i) y = Unit {0}
  Replied x (Acts x1) y = ActsToo x y x1 ⊎ ((IsShared s x → ⊥) × Related x1 y)
  Replied x (Moves x1) y = MovesToo y x1 ⊎ Related x1 y
  Replied x (Breaks i) y = Unit {0}
