-- What the laws on runs say of an act that comes next: the cells that it touches, what it kills, and what it leaves.
use Rattle.std.proofs.Common.{◌≡◌, ℕ, List, Option, Some, inl, refl, sym, ap, ap₂, ◌∙◌, subst}
use Rattle.std.specs.Prelude.{option_map}
use Rattle.c_language.proofs.Options.{none_there, some_same}
use Rattle.c_language.specs.Code.{Act, Tests, Code, End, Opens, Plain, Fork, Loop, Leaves, Call}
use Rattle.c_meaning.specs.Values.{Types, State}
use Rattle.c_meaning.specs.Acts.{Made, made, after, origins_after}
use Rattle.c_meaning.specs.Activations.{Executable, executable, types_in}
use Rattle.c_meaning.specs.Meaning.{told}
use Rattle.c_meaning.specs.Steps.{Acts, Waiting, Point, point, acted, step}
use Rattle.dep_model.specs.Doings as doing
use Rattle.dep_model.specs.Doings.{Doing, doings_of}
use Rattle.dep_model.specs.VertexOrder.{doing_at}
use Rattle.dep_model.specs.declared.vertex.VertexKind.TheVariants.{Statement as ActOf}
use Rattle.dep_model.proofs.Membership.{IsIn}
use Rattle.run_facts.specs.Effects.{Effect, act_effect, next_doing, doing_effect}
use Rattle.run_facts.specs.KeptCells.{KeepsRest, effect_at}
use Rattle.run_facts.specs.NextSteps.{Does, next_of}
use Rattle.run_facts.specs.Touching.{MayUse, MayStore, Touches, Overwrites}
use Rattle.run_facts.proofs.KeptStates.{steps_keep_the_rest}
use Rattle.run_facts.proofs.NextSteps.{step_of}
use Rattle.run_facts.proofs.Numbers.{at_number}
use Rattle.run_facts.proofs.Points.{IsSound, sound_run}
use Rattle.run_facts.proofs.Statements.{bodies, next_member}
use Rattle.run_facts.proofs.Touched.{steps_touch}
use Rattle.simulation.specs.Settings.{Setting, Reached}
use Rattle.simulation_steps.specs.SlicePairs.{SlicePair, setting_over}

-- ---- what is done next

pub next_act : (c : Code) (i : ℕ) (act : Act) (go : Made → Code) → next_of c ≡ Does i act go → next_doing c ≡ Some (doing.Does i act)
next_act End i act go e = cc
next_act (Opens x r) i act go e = cc
next_act (Plain j b r) i act go e = let first : j ≡ i = cc in let second : b ≡ act = cc in ap₂ (λ n x. Some (doing.Does n x)) first second
next_act (Fork j b c r) i act go e = let first : j ≡ i = cc in let second : Tests b ≡ act = cc in ap₂ (λ n x. Some (doing.Does n x)) first second
next_act (Loop j b c r) i act go e = let first : j ≡ i = cc in let second : Tests b ≡ act = cc in ap₂ (λ n x. Some (doing.Does n x)) first second
next_act (Leaves xs r) i act go e = cc
next_act (Call j to g args r) i act go e = cc

next_effect : (p : Executable) (f : ℕ) (c : Code) (s : State) (ws : List Waiting) (d : Doing) → next_doing c ≡ Some d → effect_at p f c s ws ≡ doing_effect p f d s
next_effect p f End s ws d e = none_there e
next_effect p f (Opens x r) s ws d e = none_there e
next_effect p f (Plain i a r) s ws d e = ap (λ (z : Doing). doing_effect p f z s) (some_same e)
next_effect p f (Fork i a c r) s ws d e = ap (λ (z : Doing). doing_effect p f z s) (some_same e)
next_effect p f (Loop i a b r) s ws d e = ap (λ (z : Doing). doing_effect p f z s) (some_same e)
next_effect p f (Leaves xs r) s ws d e = none_there e
next_effect p f (Call i to g args r) s ws d e = ap (λ (z : Doing). doing_effect p f z s) (some_same e)

module _ (pair : SlicePair) (holds : ℕ → Type 0) where
  abbrev pub s : Setting
  s = setting_over pair holds

  abbrev pub program : Executable
  program = executable pair.original

  abbrev pub Mine : ℕ → Doing → Type 0
  Mine f d = IsIn (doings_of pair.original f) d

  pub sound_at : (x : Point) → Reached s x → IsSound program Mine x
  sound_at x r = sound_run program Mine (bodies pair.original) pair.input x r

  -- an act comes next
  module _ (x : Point) (reached : Reached s x) (i : ℕ) (act : Act) (go : Made → Code) (next : next_of x.rest ≡ Does i act go) where
    abbrev pub f : ℕ
    f = x.function

    abbrev pub types : Types
    types = types_in program f

    pub member : Mine f (doing.Does i act)
    member = next_member (Mine f) x.rest (doing.Does i act) (sound_at x reached).inside (next_act x.rest i act go next)

    pub here : doing_at pair.original f i ≡ Some (doing.Does i act)
    here = at_number pair.original pair.numbered f (doing.Does i act) member

    -- which made this
    module _ (v : Made) (made_is : made types act x.state ≡ Some v) where
      abbrev done : Point
      done = point f (go v) (after i v x.state) x.callers (told i v x.trace)

      acts_to : step program x ≡ Acts done
      acts_to = step_of program x (Does i act go) next ∙ ap (λ (o : Option Made). acted f i go x.state x.callers x.trace o) made_is

      abbrev pub effect : Effect
      effect = act_effect types act x.state v

      effect_is : doing_effect program f (doing.Does i act) x.state ≡ Some effect
      effect_is = ap (option_map (act_effect types act x.state)) made_is

      pub record IsTouching : Type 0 where
        pub touches : Touches pair.original pair.analysis f x.state (origins_after i v.begun x.state.origins) (MayUse pair.original pair.analysis f (doing.Does i act)) (MayStore pair.original pair.analysis f (doing.Does i act)) effect
        pub overwrites : Overwrites pair.original pair.analysis f (ActOf i) x.state effect

      pub act_touching : IsTouching
      act_touching =
          let laws = steps_touch pair.original pair.analysis pair.well pair.numbered pair.analysed pair.input x reached in
          let t = laws.0 done (doing.Does i act) (next_act x.rest i act go next) acts_to in
          let same : t.effect ≡ effect = some_same (sym t.effect_is ∙ effect_is) in
          record {
            touches = subst (λ (e : Effect). Touches pair.original pair.analysis f x.state (origins_after i v.begun x.state.origins) (MayUse pair.original pair.analysis f (doing.Does i act)) (MayStore pair.original pair.analysis f (doing.Does i act)) e) same t.touches;
            overwrites = subst (λ (e : Effect). Overwrites pair.original pair.analysis f (ActOf i) x.state e) same (t.overwrites i act refl);
          }

      pub act_rest : KeepsRest x.state (after i v x.state) effect
      act_rest =
          steps_keep_the_rest program x done effect (inl acts_to) (next_effect program f x.rest x.state x.callers (doing.Does i act) (next_act x.rest i act go next) ∙ effect_is)
