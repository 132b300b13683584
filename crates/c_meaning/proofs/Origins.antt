-- Each block of a run has what made it: origins and blocks are as many, before main and after each step.
use Rattle.std.proofs.Common.{◌≡◌, ℕ, zero, suc, List, [], ◌∷◌, ◌++◌, length, Option, Some, None, refl, sym, ap, ◌∙◌}
use Rattle.std.specs.Prelude.{option_and_then, slice_get}
use Rattle.std.proofs.lemmas.Option.{same_Some}
use Rattle.c_tree.specs.declared.expr.Expr.{Expr}
use Rattle.c_tree.specs.declared.statement.Target.{Target}
use Rattle.c_tree.specs.declared.statement.Target.TheVariants as target
use Rattle.c_language.specs.Code.{Tests, Code, End, Opens, Plain, Fork, Loop, Leaves, Call, ◌⨟◌, is_true, either}
use Rattle.c_meaning.specs.declared.value.Value.{Value}
use Rattle.c_meaning.specs.Memory.{Memory, changed, with_cell, write, gone}
use Rattle.c_meaning.specs.Values.{Types, Origin, State, variable_opened, leave_block, variable_closed, all_closed, as_type, eval_all}
use Rattle.c_meaning.specs.Acts.{Store, Request, Made, stored, with_begun, origins_after, made, after, picked, begun_with}
use Rattle.c_meaning.specs.Activations.{Routine, Global, Executable, executable, code_at, variables_at, outside, types_in, blank, stores_of, initialised, global_opened, all_begun, opening, parameter_begun, passed, fresh, passed_to, called, resumed, received}
use Rattle.c_meaning.specs.Meaning.{Trace}
use Rattle.c_meaning.specs.Steps.{Step, Stops, Fails, Acts, Moves, Breaks, Reaches, here, by_act, by_move, Waiting, Point, waiting, acted, entered, stored_back, went_back, returned_to, step_at, step, machine, beginning}
use Rattle.c_meaning.specs.Laws.{BlocksHaveOrigins}

-- as many origins as blocks
abbrev pub IsTracked : State → Type 0
IsTracked s = length s.origins ≡ length s.memory.blocks

-- ---- lists

pub length-changed : {A : Type 0} (f : A → A) (n : ℕ) (xs : List A) → length (changed f n xs) ≡ length xs
length-changed f n [] = refl
length-changed f zero (x ∷ xs) = refl
length-changed f (suc n) (x ∷ xs) = ap suc (length-changed f n xs)

one_longer : {A : Type 0} (xs : List A) (x : A) → length (xs ++ x ∷ []) ≡ suc (length xs)
one_longer [] x = refl
one_longer (y ∷ xs) x = ap suc (one_longer xs x)

pub both_longer : {A B : Type 0} (xs : List A) (ys : List B) (x : A) (y : B) → length xs ≡ length ys → length (xs ++ x ∷ []) ≡ length (ys ++ y ∷ [])
both_longer xs ys x y e = one_longer xs x ∙ (ap suc e ∙ sym (one_longer ys y))

-- ---- memory

pub blocks_stored : (ws : List Store) (m : Memory) → length (stored ws m).blocks ≡ length m.blocks
blocks_stored [] m = refl
blocks_stored (w ∷ ws) m =
    blocks_stored ws (write w.place w.value m) ∙ length-changed (with_cell m.structs w.place.path w.value) w.place.block m.blocks

blocks_left : (o : Option ℕ) (m : Memory) → length (leave_block o m).blocks ≡ length m.blocks
blocks_left None m = refl
blocks_left (Some b) m = length-changed gone b m.blocks

tracked_begun : (i : ℕ) (o : Option Request) (os : List Origin) (m : Memory) → length os ≡ length m.blocks → length (origins_after i o os) ≡ length (with_begun o m).blocks
tracked_begun i None os m e = e
tracked_begun i (Some r) os m e = both_longer os m.blocks _ _ e

-- ---- states

pub tracked_after : (i : ℕ) (x : Made) (s : State) → IsTracked s → IsTracked (after i x s)
tracked_after i x s e =
    tracked_begun i x.begun s.origins s.memory e ∙ (sym (blocks_left x.freed (with_begun x.begun s.memory)) ∙ sym (blocks_stored x.stores (leave_block x.freed (with_begun x.begun s.memory))))

pub tracked_opened : (types : Types) (x : ℕ) (s : State) → IsTracked s → IsTracked (variable_opened types x s)
tracked_opened types x s e = both_longer s.origins s.memory.blocks _ _ e

pub tracked_closed : (xs : List ℕ) (s : State) → IsTracked s → IsTracked (all_closed xs s)
tracked_closed [] s e = e
tracked_closed (x ∷ xs) s e = tracked_closed xs (variable_closed x s) (e ∙ sym (blocks_left (s.frame x) s.memory))

module _ (p : Executable) where
  -- ---- before main

  tracked_globals : (gs : List Global) (s : State) → IsTracked s → IsTracked (all_begun p gs s)
  tracked_globals [] s e = e
  tracked_globals (g ∷ gs) s e =
      let opened = global_opened p g.variable s in
      let o = begun_with (outside p) g.variable g.init opened in
      tracked_globals gs (initialised o opened) (both_longer s.origins s.memory.blocks _ _ e ∙ sym (blocks_stored (stores_of o) opened.memory))

  tracked_opening : (input : List ℕ) → IsTracked (opening p input)
  tracked_opening input = tracked_globals p.globals (blank p) refl

  -- ---- calls

  pub tracked_parameter : (x : ℕ) (s : State) (v : Value) → IsTracked s → IsTracked (parameter_begun p x s v)
  tracked_parameter x s v e =
      let opened = variable_opened (outside p) x s in
      tracked_opened (outside p) x s e ∙ sym (length-changed (with_cell opened.memory.structs [] v) (length s.memory.blocks) opened.memory.blocks)

  tracked_passed : (xs : List ℕ) (vs : List Value) (s c : State) → IsTracked s → passed p xs vs s ≡ Some c → IsTracked c
  tracked_passed [] [] s c e q = ap (λ (z : State). length z.origins) (sym (same_Some s c q)) ∙ (e ∙ ap (λ (z : State). length z.memory.blocks) (same_Some s c q))
  tracked_passed [] (v ∷ vs) s c e q = cc
  tracked_passed (x ∷ xs) [] s c e q = cc
  tracked_passed (x ∷ xs) (v ∷ vs) s c e q =
      by_value (as_type (p.typing.variable x) v) (λ w. tracked_passed xs vs (parameter_begun p x s w) c (tracked_parameter x s w e)) q
    where
      by_value : (o : Option Value) → ((w : Value) → passed p xs vs (parameter_begun p x s w) ≡ Some c → IsTracked c) → option_and_then (λ (w : Value). passed p xs vs (parameter_begun p x s w)) o ≡ Some c → IsTracked c
      by_value None h q = cc
      by_value (Some w) h q = h w q

  tracked_called : (f g : ℕ) (args : List Expr) (s c : State) → IsTracked s → called p f g args s ≡ Some c → IsTracked c
  tracked_called f g args s c e q = by_routine (slice_get p.functions g) q
    where
      by_values : (r : Routine) (o : Option (List Value)) → option_and_then (λ (vs : List Value). passed p r.params vs (fresh p s)) o ≡ Some c → IsTracked c
      by_values r None q = cc
      by_values r (Some vs) q = tracked_passed r.params vs (fresh p s) c e q

      by_routine : (o : Option Routine) → option_and_then (passed_to p f args s) o ≡ Some c → IsTracked c
      by_routine None q = cc
      by_routine (Some r) q = by_values r (eval_all (types_in p f) args s) q

  -- ---- steps

  abbrev StepTracked : Step Point → Type 0
  StepTracked Stops = Unit {0}
  StepTracked (Fails i) = Unit {0}
  StepTracked (Acts x) = IsTracked x.state
  StepTracked (Moves x) = IsTracked x.state
  StepTracked (Breaks i) = Unit {0}

  tracked_act : (f i : ℕ) (next : Made → Code) (s : State) (ws : List Waiting) (t : Trace) (o : Option Made) → IsTracked s → StepTracked (acted f i next s ws t o)
  tracked_act f i next s ws t None e = tt
  tracked_act f i next s ws t (Some x) e = tracked_after i x s e

  tracked_entry : (i : ℕ) (to : Target) (g : ℕ) (c : Code) (w : Waiting) (ws : List Waiting) (t : Trace) (o : Option State) → ((s : State) → o ≡ Some s → IsTracked s) → StepTracked (entered i to g c w ws t o)
  tracked_entry i to g c w ws t None h = tt
  tracked_entry i to g c w ws t (Some s) h = h s refl

  tracked_store : (w : Waiting) (s : State) (ws : List Waiting) (t : Trace) (o : Option Made) → IsTracked s → StepTracked (stored_back w s ws t o)
  tracked_store w s ws t None e = tt
  tracked_store w s ws t (Some x) e = tracked_after w.call x s e

  tracked_back : (to : Target) (w : Waiting) (v : Option Value) (s : State) (ws : List Waiting) (t : Trace) → IsTracked s → StepTracked (went_back p to w v s ws t)
  tracked_back target.None w v s ws t e = e
  tracked_back (target.Place a) w v s ws t e = tracked_store w s ws t (received (types_in p w.function) (target.Place a) v s) e
  tracked_back (target.Declared y) w v s ws t e = tracked_store w s ws t (received (types_in p w.function) (target.Declared y) v s) e

  tracked_return : (g : ℕ) (s : State) (ws : List Waiting) (t : Trace) → IsTracked s → StepTracked (returned_to p g s ws t)
  tracked_return g s [] t e = tt
  tracked_return g s (w ∷ ws) t e = tracked_back w.target w s.returned (resumed p g w.frame w.returned s) ws t (tracked_closed (variables_at p g) s e)

  tracked_at : (f : ℕ) (c : Code) (s : State) (ws : List Waiting) (t : Trace) → IsTracked s → StepTracked (step_at p f c s ws t)
  tracked_at f End s ws t e = tracked_return f s ws t e
  tracked_at f (Opens x r) s ws t e = tracked_opened (types_in p f) x s e
  tracked_at f (Plain i a r) s ws t e = tracked_act f i (λ x. r) s ws t (made (types_in p f) a s) e
  tracked_at f (Fork i a c r) s ws t e = tracked_act f i (λ x. c (picked x) ⨟ r) s ws t (made (types_in p f) (Tests a) s) e
  tracked_at f (Loop i a b r) s ws t e =
      tracked_act f i (λ x. either (is_true (picked x)) (b ⨟ Loop i a b r) r) s ws t (made (types_in p f) (Tests a) s) e
  tracked_at f (Leaves xs r) s ws t e = tracked_closed xs s e
  tracked_at f (Call i to g args r) s ws t e =
      tracked_entry i to g (code_at p g) (waiting i to f r s) ws t (called p f g args s) (λ c q. tracked_called f g args s c e q)

  -- a step keeps origins and blocks as many
  tracked_step : (x : Point) → IsTracked x.state → StepTracked (step p x)
  tracked_step x e = tracked_at x.function x.rest x.state x.callers x.trace e

  tracked_reach : (x y : Point) → Reaches (machine p) x y → IsTracked x.state → IsTracked y.state
  tracked_reach x y here e = e
  tracked_reach x y (by_act {t = z} is r) e = tracked_reach z y r (rw is at (tracked_step x e))
  tracked_reach x y (by_move {t = z} is r) e = tracked_reach z y r (rw is at (tracked_step x e))

-- ---- the law

pub blocks_have_origins : BlocksHaveOrigins
blocks_have_origins p input x r =
    let e = executable p in tracked_reach e (beginning e input) x r (tracked_opening e input)
