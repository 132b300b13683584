-- The statements of a program, as its runs and its vertices see them.
use Rattle.std.proofs.Common.{◌≡◌, ℕ, zero, suc, ◌+◌, List, [], ◌∷◌, Option, Some, None, inl, inr, refl, sym, ap, ◌∙◌, subst, arith}
use Rattle.std.specs.Prelude.{option_map, slice_get}
use Rattle.std.specs.Option.{option_map_or}
use Rattle.std.proofs.lemmas.Option.{slice_get-map}
use Rattle.c_language.proofs.Options.{some_same, none_there}
use Rattle.c_tree.specs.declared.program.Function.{Function}
use Rattle.c_tree.specs.declared.program.Program.{Program}
use Rattle.c_tree.specs.declared.statement.Target.{Target}
use Rattle.c_language.specs.Code.{Act, Tests, Code, End, Opens, Plain, Fork, Loop, Leaves, Call, ◌⨟◌, is_true, either}
use Rattle.c_meaning.specs.Values.{State}
use Rattle.c_meaning.specs.Acts.{Made, made, after, picked}
use Rattle.c_meaning.specs.Activations.{Routine, Executable, routine_of, executable, code_at, types_in, called}
use Rattle.c_meaning.specs.Meaning.{Trace, told, announced}
use Rattle.c_meaning.specs.Steps.{Acts, Waiting, Point, point, waiting, acted, entered, step_at}
use Rattle.dep_model.specs.Doings.{Doing, Does, Calls, body_doings, doings_of}
use Rattle.dep_model.specs.MayPoint.{parameters}
use Rattle.dep_model.specs.declared.vertex.Slot.TheVariants.{Argument}
use Rattle.dep_model.specs.VertexOrder.{arguments_from}
use Rattle.dep_model.proofs.Membership.{IsIn}
use Rattle.run_facts.specs.Effects.{parameters_at, next_doing}
use Rattle.run_facts.proofs.Blocks.{Grows, grows_after}
use Rattle.run_facts.proofs.CodeDoings.{Did, Each, each_code}

-- ---- functions

did_in : (P : Doing → Type 0) (ds : List Doing) → ((d : Doing) → IsIn ds d → P d) → Did P ds
did_in P [] h = tt
did_in P (d ∷ ds) h = (h d (inl refl), did_in P ds (λ e i. h e (inr i)))

abbrev body_of : Option Function → List Doing
body_of o = option_map_or (λ (g : Function). body_doings g.body) o []

abbrev code_of : Option Routine → Code
code_of o = option_map_or (λ (r : Routine). r.code) o End

body_each : (o : Option Function) → Each (λ d. IsIn (body_of o) d) (code_of (option_map routine_of o))
body_each None = tt
body_each (Some g) = each_code (λ d. IsIn (body_doings g.body) d) g.body (did_in (λ d. IsIn (body_doings g.body) d) (body_doings g.body) (λ d i. i))

-- what a function does next is one of its statements
pub bodies : (p : Program) (f : ℕ) → Each (λ d. IsIn (doings_of p f) d) (code_at (executable p) f)
bodies p f = subst (λ o. Each (λ d. IsIn (doings_of p f) d) (code_of o)) (sym (slice_get-map routine_of p.functions f)) (body_each (slice_get p.functions f))

abbrev params_of : Option Routine → List ℕ
params_of o = option_map_or (λ (r : Routine). r.params) o []

params_mapped : (o : Option Function) → params_of (option_map routine_of o) ≡ option_map_or (λ (g : Function). g.params) o []
params_mapped None = refl
params_mapped (Some g) = refl

pub parameters_are : (p : Program) (f : ℕ) → parameters_at (executable p) f ≡ parameters p f
parameters_are p f = ap params_of (slice_get-map routine_of p.functions f) ∙ params_mapped (slice_get p.functions f)

-- ---- vertices

pub argument_in : {A : Type 0} (n : ℕ) (xs : List A) (k : ℕ) (x : A) → slice_get xs k ≡ Some x → IsIn (arguments_from n xs) (Argument (n + k))
argument_in n [] k x e = none_there e
argument_in n (y ∷ xs) zero x e = inl (ap Argument (omega arith))
argument_in n (y ∷ xs) (suc k) x e = inr (subst (λ m. IsIn (arguments_from (suc n) xs) (Argument m)) (omega arith) (argument_in (suc n) xs k x e))

-- ---- what is done next

pub next_member : (Q : Doing → Type 0) (c : Code) (d : Doing) → Each Q c → next_doing c ≡ Some d → Q d
next_member Q End d h e = none_there e
next_member Q (Opens x r) d h e = none_there e
next_member Q (Plain i a r) d h e = subst Q (some_same e) h.0
next_member Q (Fork i a c r) d h e = subst Q (some_same e) h.0
next_member Q (Loop i a b r) d h e = subst Q (some_same e) h.0
next_member Q (Leaves xs r) d h e = none_there e
next_member Q (Call i to g args r) d h e = subst Q (some_same e) h.0

module _ (p : Executable) (f : ℕ) (s : State) (y : Point) where
  -- an act was done, up to a point
  pub record IsActed (a : Act) : Type 0 where
    pub makes : Made
    pub made_is : made (types_in p f) a s ≡ Some makes
    pub grows : Grows s.origins y.state.origins

  -- what was done up to a point
  abbrev pub Happened : Doing → Type 0
  Happened (Does i a) = IsActed a
  Happened (Calls i to g args) = called p f g args s ≡ Some y.state

  act_happened : (a : Act) (i : ℕ) (go : Made → Code) (ws : List Waiting) (t : Trace) (o : Option Made) → made (types_in p f) a s ≡ o → acted f i go s ws t o ≡ Acts y → IsActed a
  act_happened a i go ws t None is e = cc
  act_happened a i go ws t (Some m) is e =
      let same : point f (go m) (after i m s) ws (told i m t) ≡ y = cc in
      record { makes = m; made_is = is; grows = subst (λ (z : Point). Grows s.origins z.state.origins) same (grows_after i m.begun s.origins) }

  call_happened : (i : ℕ) (to : Target) (g : ℕ) (c : Code) (w : Waiting) (ws : List Waiting) (t : Trace) (o : Option State) → entered i to g c w ws t o ≡ Acts y → o ≡ Some y.state
  call_happened i to g c w ws t None e = cc
  call_happened i to g c w ws t (Some u) e = let same : point g c u (w ∷ ws) (announced i to t) ≡ y = cc in ap (λ (z : Point). Some z.state) same

  pub next_happened : (c : Code) (ws : List Waiting) (t : Trace) (d : Doing) → next_doing c ≡ Some d → step_at p f c s ws t ≡ Acts y → Happened d
  next_happened End ws t d h e = none_there h
  next_happened (Opens x r) ws t d h e = none_there h
  next_happened (Plain i a r) ws t d h e = subst Happened (some_same h) (act_happened a i (λ m. r) ws t (made (types_in p f) a s) refl e)
  next_happened (Fork i a c r) ws t d h e =
      subst Happened (some_same h) (act_happened (Tests a) i (λ m. c (picked m) ⨟ r) ws t (made (types_in p f) (Tests a) s) refl e)
  next_happened (Loop i a b r) ws t d h e =
      subst Happened (some_same h) (act_happened (Tests a) i (λ m. either (is_true (picked m)) (b ⨟ Loop i a b r) r) ws t (made (types_in p f) (Tests a) s) refl e)
  next_happened (Leaves xs r) ws t d h e = none_there h
  next_happened (Call i to g args r) ws t d h e =
      subst Happened (some_same h) (call_happened i to g (code_at p g) (waiting i to f r s) ws t (called p f g args s) e)
