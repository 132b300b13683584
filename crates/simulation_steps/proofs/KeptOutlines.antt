-- Each step keeps what blocks are; so blocks go on standing for those of a program that takes a step alone.
use Rattle.std.proofs.Common.{◌≡◌, ℕ, List, [], ◌∷◌, ◌++◌, append_assoc, append-nil, length, Option, Some, None, inl, inr, refl, sym, ap, ◌∙◌, subst}
use Rattle.std.specs.Prelude.{option_map, slice_get}
use Rattle.std.proofs.lemmas.Bool.Decides.{eqb_tells}
use Rattle.std.proofs.lemmas.Option.{same_Some}
use Rattle.c_language.proofs.Options.{none_there, then_there}
use Rattle.c_tree.specs.declared.expr.Expr.{Expr}
use Rattle.c_tree.specs.declared.statement.Target.{Target}
use Rattle.c_tree.specs.declared.statement.Target.TheVariants as target
use Rattle.c_meaning.specs.declared.value.Place.{Place}
use Rattle.c_meaning.specs.declared.value.Value.{Value}
use Rattle.c_meaning.specs.Memory.{Block, Memory, changed, with_cell, write, gone, unwritten, Entered, Allocated, array_of}
use Rattle.c_meaning.specs.Values.{Types, Origin, OfVariable, OfStatement, State, leave_block, variable_opened, variable_closed, all_closed, as_type, eval_all, whole}
use Rattle.c_meaning.specs.Acts.{Store, Made, Request, made, stored, with_begun, origins_after, after, picked}
use Rattle.c_meaning.specs.Activations.{Executable, code_at, variables_at, types_in, outside, parameter_begun, passed, fresh, passed_to, called, resumed, received}
use Rattle.c_meaning.specs.Meaning.{Trace}
use Rattle.c_meaning.specs.Steps.{Step, Stops, Fails, Acts, Moves, Breaks, Waiting, Point, acted, entered, waiting, stored_back, went_back, returned_to, step_at}
use Rattle.c_language.specs.Code.{Code, Tests, End, Opens, Plain, Fork, Loop, Leaves, Call, ◌⨟◌, is_true, either}
use Rattle.c_meaning.proofs.Frames.{get_changed, get_other}
use Rattle.run_facts.proofs.Blocks.{get_more}
use Rattle.simulation.specs.Renaming.{World, Names, StandsForOne, BlocksStand}
use Rattle.simulation_steps.proofs.LeftAlone.{StepsKeepOutlines, BlocksGoOnStanding}
use Rattle.simulation_steps.proofs.Outlines.{IsOutline, KeepsOutlines}

-- ---- lists of blocks

-- each block stays, under its number
abbrev Kept : List Block → List Block → Type 0
Kept bs cs = (n : ℕ) (b : Block) → slice_get bs n ≡ Some b → (c : Block) × (slice_get cs n ≡ Some c) × IsOutline b c

same_outline : (b : Block) → IsOutline b b
same_outline b = record { shape_is = refl; kind_is = refl; stays_gone = λ e. e }

kept_not : (bs : List Block) → Kept bs bs
kept_not bs n b e = (b, e, same_outline b)

kept_on : (bs cs ds : List Block) → Kept bs cs → Kept cs ds → Kept bs ds
kept_on bs cs ds h j n b e =
    let c = h n b e in
    let d = j n c.0 c.1 in
    (d.0, d.1, record { shape_is = d.2.shape_is ∙ c.2.shape_is; kind_is = d.2.kind_is ∙ c.2.kind_is; stays_gone = λ g. d.2.stays_gone (c.2.stays_gone g) })

kept_more : (bs cs : List Block) → Kept bs (bs ++ cs)
kept_more bs cs n b e = (b, get_more bs cs n b e, same_outline b)

kept_changed : (f : Block → Block) → ((b : Block) → IsOutline b (f b)) → (m : ℕ) (bs : List Block) → Kept bs (changed f m bs)
kept_changed f h m bs n b e = elim (eqb_tells m n) [
  | inl w ↦ (f b, ap (λ i. slice_get (changed f i bs) n) w.1 ∙ (get_changed f n bs ∙ ap (option_map f) e), h b)
  | inr w ↦ (b, get_other f m n bs w.1 ∙ e, same_outline b)
]

gone_outline : (b : Block) → IsOutline b (gone b)
gone_outline b = record { shape_is = refl; kind_is = refl; stays_gone = λ e. refl }

kept_left : (o : Option ℕ) (m : Memory) → Kept m.blocks (leave_block o m).blocks
kept_left None m = kept_not m.blocks
kept_left (Some n) m = kept_changed gone gone_outline n m.blocks

kept_written : (p : Place) (v : Value) (m : Memory) → Kept m.blocks (write p v m).blocks
kept_written p v m =
    kept_changed (with_cell m.structs p.path v) (λ b. record { shape_is = refl; kind_is = refl; stays_gone = λ e. e }) p.block m.blocks

structs_stored : (ws : List Store) (m : Memory) → (stored ws m).structs ≡ m.structs
structs_stored [] m = refl
structs_stored (w ∷ ws) m = structs_stored ws (write w.place w.value m)

kept_stored : (ws : List Store) (m : Memory) → Kept m.blocks (stored ws m).blocks
kept_stored [] m = kept_not m.blocks
kept_stored (w ∷ ws) m =
    kept_on m.blocks (write w.place w.value m).blocks (stored ws (write w.place w.value m)).blocks (kept_written w.place w.value m) (kept_stored ws (write w.place w.value m))

kept_begun : (o : Option Request) (m : Memory) → Kept m.blocks (with_begun o m).blocks
kept_begun None m = kept_not m.blocks
kept_begun (Some r) m = kept_more m.blocks (unwritten m.structs (array_of r.count r.shape) Allocated ∷ [])

structs_begun : (o : Option Request) (m : Memory) → (with_begun o m).structs ≡ m.structs
structs_begun None m = refl
structs_begun (Some r) m = refl

structs_left : (o : Option ℕ) (m : Memory) → (leave_block o m).structs ≡ m.structs
structs_left None m = refl
structs_left (Some n) m = refl

-- ---- states

keeps_not : (s : State) → KeepsOutlines s s
keeps_not s = record { structs_are = refl; each = kept_not s.memory.blocks; new = []; origins_are = sym (append-nil s.origins) }

pub keeps_on : (s t u : State) → KeepsOutlines s t → KeepsOutlines t u → KeepsOutlines s u
keeps_on s t u h j = record {
  structs_are = j.structs_are ∙ h.structs_are;
  each = kept_on s.memory.blocks t.memory.blocks u.memory.blocks h.each j.each;
  new = h.new ++ j.new;
  origins_are = j.origins_are ∙ (ap (λ os. os ++ j.new) h.origins_are ∙ append_assoc s.origins h.new j.new);
}

pub keeps_opened : (types : Types) (x : ℕ) (s : State) → KeepsOutlines s (variable_opened types x s)
keeps_opened types x s = record {
  structs_are = refl;
  each = kept_more s.memory.blocks (unwritten s.memory.structs (types.typing.variable x) Entered ∷ []);
  new = OfVariable x ∷ [];
  origins_are = refl;
}

pub keeps_closed : (xs : List ℕ) (s : State) → KeepsOutlines s (all_closed xs s)
keeps_closed [] s = keeps_not s
keeps_closed (x ∷ xs) s =
    keeps_on s (variable_closed x s) (all_closed xs (variable_closed x s)) (record { structs_are = structs_left (s.frame x) s.memory; each = kept_left (s.frame x) s.memory; new = []; origins_are = sym (append-nil s.origins) }) (keeps_closed xs (variable_closed x s))

abbrev made_origins : (i : ℕ) (o : Option Request) → List Origin
made_origins i None = []
made_origins i (Some r) = OfStatement i ∷ []

origins_made : (i : ℕ) (o : Option Request) (os : List Origin) → origins_after i o os ≡ os ++ made_origins i o
origins_made i None os = sym (append-nil os)
origins_made i (Some r) os = refl

pub keeps_after : (i : ℕ) (v : Made) (s : State) → KeepsOutlines s (after i v s)
keeps_after i v s =
    let begun = with_begun v.begun s.memory in
    let left = leave_block v.freed begun in
    record {
      structs_are = structs_stored v.stores left ∙ (structs_left v.freed begun ∙ structs_begun v.begun s.memory);
      each = kept_on s.memory.blocks begun.blocks (stored v.stores left).blocks (kept_begun v.begun s.memory) (kept_on begun.blocks left.blocks (stored v.stores left).blocks (kept_left v.freed begun) (kept_stored v.stores left));
      new = made_origins i v.begun;
      origins_are = origins_made i v.begun s.origins;
    }

module _ (p : Executable) where
  pub keeps_parameter : (x : ℕ) (s : State) (v : Value) → KeepsOutlines s (parameter_begun p x s v)
  keeps_parameter x s v =
      let opened = variable_opened (outside p) x s in
      keeps_on s opened (parameter_begun p x s v) (keeps_opened (outside p) x s) (record { structs_are = refl; each = kept_written (whole (length s.memory.blocks)) v opened.memory; new = []; origins_are = sym (append-nil opened.origins) })

  keeps_passed : (xs : List ℕ) (vs : List Value) (s c : State) → passed p xs vs s ≡ Some c → KeepsOutlines s c
  keeps_passed [] [] s c e = subst (KeepsOutlines s) (same_Some s c e) (keeps_not s)
  keeps_passed [] (v ∷ vs) s c e = none_there e
  keeps_passed (x ∷ xs) [] s c e = none_there e
  keeps_passed (x ∷ xs) (v ∷ vs) s c e =
      let k = then_there (λ (w : Value). passed p xs vs (parameter_begun p x s w)) (as_type (p.typing.variable x) v) c e in
      keeps_on s (parameter_begun p x s k.value) c (keeps_parameter x s k.value) (keeps_passed xs vs (parameter_begun p x s k.value) c k.same)

  -- a state with other names for blocks
  renamed_frame : (s c : State) → KeepsOutlines (fresh p s) c → KeepsOutlines s c
  renamed_frame s c h = record { structs_are = h.structs_are; each = h.each; new = h.new; origins_are = h.origins_are }

  pub keeps_called : (f g : ℕ) (args : List Expr) (s c : State) → called p f g args s ≡ Some c → KeepsOutlines s c
  keeps_called f g args s c e =
      let r = then_there (passed_to p f args s) (slice_get p.functions g) c e in
      let vs = then_there (λ (us : List Value). passed p r.value.params us (fresh p s)) (eval_all (types_in p f) args s) c r.same in
      renamed_frame s c (keeps_passed r.value.params vs.value (fresh p s) c vs.same)

  pub keeps_resumed : (g : ℕ) (frame : ℕ → Option ℕ) (returned : Option Value) (s : State) → KeepsOutlines s (resumed p g frame returned s)
  keeps_resumed g frame returned s =
      let h = keeps_closed (variables_at p g) s in
      record { structs_are = h.structs_are; each = h.each; new = h.new; origins_are = h.origins_are }

  -- ---- steps

  abbrev KeptAfter : State → Step Point → Type 0
  KeptAfter s Stops = Unit {0}
  KeptAfter s (Fails i) = Unit {0}
  KeptAfter s (Acts y) = KeepsOutlines s y.state
  KeptAfter s (Moves y) = KeepsOutlines s y.state
  KeptAfter s (Breaks i) = Unit {0}

  act_kept : (f i : ℕ) (go : Made → Code) (s : State) (ws : List Waiting) (t : Trace) (o : Option Made) → KeptAfter s (acted f i go s ws t o)
  act_kept f i go s ws t None = tt
  act_kept f i go s ws t (Some v) = keeps_after i v s

  call_kept : (f i : ℕ) (to : Target) (g : ℕ) (args : List Expr) (c : Code) (w : Waiting) (s : State) (ws : List Waiting) (t : Trace) (o : Option State) → called p f g args s ≡ o → KeptAfter s (entered i to g c w ws t o)
  call_kept f i to g args c w s ws t None e = tt
  call_kept f i to g args c w s ws t (Some u) e = keeps_called f g args s u e

  store_kept : (s : State) (w : Waiting) (b : State) (ws : List Waiting) (t : Trace) (o : Option Made) → KeepsOutlines s b → KeptAfter s (stored_back w b ws t o)
  store_kept s w b ws t None h = tt
  store_kept s w b ws t (Some v) h = keeps_on s b (after w.call v b) h (keeps_after w.call v b)

  back_kept : (s : State) (to : Target) (w : Waiting) (v : Option Value) (b : State) (ws : List Waiting) (t : Trace) → KeepsOutlines s b → KeptAfter s (went_back p to w v b ws t)
  back_kept s target.None w v b ws t h = h
  back_kept s (target.Place e) w v b ws t h = store_kept s w b ws t (received (types_in p w.function) (target.Place e) v b) h
  back_kept s (target.Declared x) w v b ws t h = store_kept s w b ws t (received (types_in p w.function) (target.Declared x) v b) h

  return_kept : (g : ℕ) (s : State) (ws : List Waiting) (t : Trace) → KeptAfter s (returned_to p g s ws t)
  return_kept g s [] t = tt
  return_kept g s (w ∷ ws) t =
      back_kept s w.target w s.returned (resumed p g w.frame w.returned s) ws t (keeps_resumed g w.frame w.returned s)

  step_kept : (f : ℕ) (c : Code) (s : State) (ws : List Waiting) (t : Trace) → KeptAfter s (step_at p f c s ws t)
  step_kept f End s ws t = return_kept f s ws t
  step_kept f (Opens x r) s ws t = keeps_opened (types_in p f) x s
  step_kept f (Plain i a r) s ws t = act_kept f i (λ x. r) s ws t (made (types_in p f) a s)
  step_kept f (Fork i e c r) s ws t = act_kept f i (λ x. c (picked x) ⨟ r) s ws t (made (types_in p f) (Tests e) s)
  step_kept f (Loop i e b r) s ws t = act_kept f i (λ x. either (is_true (picked x)) (b ⨟ Loop i e b r) r) s ws t (made (types_in p f) (Tests e) s)
  step_kept f (Leaves xs r) s ws t = keeps_closed xs s
  step_kept f (Call i to g args r) s ws t = call_kept f i to g args (code_at p g) (waiting i to f r s) s ws t (called p f g args s) refl

pub steps_keep_outlines : StepsKeepOutlines
steps_keep_outlines p x y leads =
    let h = step_kept p x.function x.rest x.state x.callers x.trace in
    elim leads [ inl e ↦ subst (KeptAfter p x.state) e h | inr e ↦ subst (KeptAfter p x.state) e h ]

-- ---- blocks that stand for blocks

module _ (names : Names) (w : World) where
  one_on : (m t n : State) (c : ℕ) (there : Block) → KeepsOutlines m t → StandsForOne names w m n c there → StandsForOne names w t n c there
  one_on m t n c there k h =
      let b = k.each h.number h.block h.block_is in
      record {
        number = h.number;
        stands = h.stands;
        block = b.0;
        block_is = b.1;
        shape_is = h.shape_is ∙ sym b.2.shape_is;
        kind_is = h.kind_is ∙ sym b.2.kind_is;
        origin = h.origin;
        origin_there = h.origin_there;
        origin_is = subst (λ os. slice_get os h.number ≡ Some h.origin) (sym k.origins_are) (get_more m.origins k.new h.number h.origin h.origin_is);
        origin_there_is = h.origin_there_is;
        origins_are = h.origins_are;
        gone = λ e. b.2.stays_gone (h.gone e);
      }

  pub blocks_on : (m t n : State) → KeepsOutlines m t → BlocksStand names w m n → BlocksStand names w t n
  blocks_on m t n k h = record {
    structs_are = k.structs_are ∙ h.structs_are;
    count_is = h.count_is;
    each = λ c there e. one_on m t n c there k (h.each c there e);
    one_to_one = h.one_to_one;
  }

pub blocks_go_on : BlocksGoOnStanding
blocks_go_on names w p x y n leads h = blocks_on names w x.state y.state n (steps_keep_outlines p x y leads) h
