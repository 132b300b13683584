-- Each step of a run does its effect.
use Rattle.std.proofs.Common.{◌≡◌, ℕ, zero, suc, ◌<◌, ◌≤◌, List, [], ◌∷◌, map, length, Option, Some, None, true, inl, inr, refl, sym, ap, ◌∙◌, subst, arith}
use Rattle.std.specs.Prelude.{option_map, option_and_then, is_some, drop, slice_get, Contains}
use Rattle.std.specs.Option.{option_or, option_map_or}
use Rattle.std.proofs.lemmas.Bool.{false≢true}
use Rattle.std.proofs.lemmas.Option.{same_Some}
use Rattle.c_language.proofs.Options.{some_same, none_there, then_there}
use Rattle.c_tree.specs.declared.expr.Expr.{Expr}
use Rattle.c_tree.specs.declared.statement.Target.{Target}
use Rattle.c_tree.specs.declared.statement.Target.TheVariants as target
use Rattle.c_language.specs.declared.expr_type.Base.{Base}
use Rattle.c_language.specs.declared.expr_type.Base.TheVariants as base
use Rattle.c_language.specs.declared.expr_type.Layer.{Layer}
use Rattle.c_language.specs.declared.expr_type.Layer.TheVariants as layer
use Rattle.c_language.specs.declared.expr_type.ExprType.{ExprType}
use Rattle.c_language.specs.Code.{Act, Tests, Code, End, Opens, Plain, Fork, Loop, Leaves, Call, ◌⨟◌, is_true, either}
use Rattle.c_language.specs.ExprTypes.{is_scalar}
use Rattle.c_meaning.specs.declared.value.Place.{Place}
use Rattle.c_meaning.specs.declared.value.Value.{Value}
use Rattle.c_meaning.specs.Cells.{Structs}
use Rattle.c_meaning.specs.Memory.{Block, Memory, Entered, held, cell_in, cell, is_cell, read, with_cell, unwritten, enter}
use Rattle.c_meaning.specs.Values.{Types, State, whole, variable_opened, variable_closed, all_closed, leave_block, as_type, eval_all}
use Rattle.c_meaning.specs.Acts.{Made, store, given, made, with_begun, after, picked}
use Rattle.c_meaning.specs.Activations.{Routine, Executable, code_at, types_in, parameter_begun, passed, fresh, passed_to, called, received}
use Rattle.c_meaning.specs.Meaning.{Trace}
use Rattle.c_meaning.specs.Steps.{Step, Stops, Fails, Acts, Moves, Breaks, Waiting, Point, waiting, acted, entered, stored_back, went_back, step_at}
use Rattle.c_meaning.proofs.Frames.{get_changed, get_other, get_front, get_last}
use Rattle.dep_model.proofs.Membership.{IsIn, in_of_contains, in_second, of_map}
use Rattle.run_facts.specs.DoneEffects.{IsLastStore, IsScalarIfNew, DoesEffect, returned_at}
use Rattle.run_facts.specs.Effects.{Touch, Effect, storing, act_effect, passed_into, store_effect, no_effect, parameters_at, call_effect, store_received, back_in}
use Rattle.run_facts.specs.KeptCells.{effect_at}
use Rattle.run_facts.specs.Laws.{StepsDoTheirEffects}
use Rattle.run_facts.specs.ReadCells.{target_read}
use Rattle.run_facts.proofs.DoneStores.{StoresInCells, given_cells, made_cells, reading_takes, given_returns}
use Rattle.run_facts.proofs.KeptMemories.{stored_live, begun_keeps}
use Rattle.run_facts.proofs.KeptStates.{parameter_long, passed_keeps}
use Rattle.run_facts.proofs.WrittenCells.{written, write_there, stored_there, last_stored}

-- ---- what is made

block_within : {A : Type 0} (f : Block → Option A) (bs : List Block) (n : ℕ) → is_some (option_and_then f (slice_get bs n)) ≡ true → n < length bs
block_within f [] n h = absurd (false≢true h)
block_within f (b ∷ bs) zero h = omega arith
block_within f (b ∷ bs) (suc n) h = let lt = block_within f bs n h in omega (arith, lt)

after_live : (i : ℕ) (m : Made) (s : State) → StoresInCells s.memory m → (w : Touch) → Contains (map storing m.stores) w → is_cell (after i m s).memory w.cell ≡ true
after_live i m s cells w h =
    let u = of_map storing m.stores w (in_of_contains (map storing m.stores) w h) in
    let begun = with_begun m.begun s.memory in
    let q = u.0.place in
    let live = cells.live u.0 u.1 in
    let there = ap is_some (begun_keeps m.begun s.memory q (block_within (cell_in s.memory.structs q.path) s.memory.blocks q.block live)) ∙ live in
    let left = subst (λ o. is_cell (leave_block o begun) q ≡ true) (sym (cells.freed u.0 u.1)) there in
    subst (λ (z : Touch). is_cell (after i m s).memory z.cell ≡ true) u.2 (stored_there m.stores (leave_block m.freed begun) q left)

act_done : (i : ℕ) (types : Types) (a : Act) (s : State) (m : Made) → made types a s ≡ Some m → DoesEffect s (after i m s) s.returned (act_effect types a s m)
act_done i types a s m is = record {
  live = λ w j new. after_live i m s (made_cells types a s m is) w j;
  cells = λ w h live. last_stored m.stores (leave_block m.freed (with_begun m.begun s.memory)) w h live;
  input = λ h. ap (λ n. drop n s.unread) (reading_takes types a s m h is);
  returned = refl;
}

-- the store after a call, in the caller's state
receipt_done : (i : ℕ) (s b : State) (reads : List Place) (m : Made) → StoresInCells b.memory m → m.returned ≡ None → DoesEffect s (after i m b) b.returned (store_effect b.memory reads m)
receipt_done i s b reads m cells none = record {
  live = λ w j new. after_live i m b cells w j;
  cells = λ w h live. last_stored m.stores (leave_block m.freed (with_begun m.begun b.memory)) w h live;
  input = λ h. absurd (false≢true h);
  returned = ap (λ o. option_or o b.returned) none;
}

-- ---- nothing is stored

is_last_in : (m : Memory) (ws : List Touch) (w : Touch) → IsLastStore m ws w → IsIn ws w
is_last_in m ws w h =
    subst (λ us. IsIn us w) (sym h.stores_are) (in_second h.earlier (w ∷ h.later) w (inl refl))

nothing_done : (s t : State) (had : Option Value) (e : Effect) → no_effect ≡ e → t.returned ≡ had → DoesEffect s t had e
nothing_done s t had e is same = subst (DoesEffect s t had) is (record {
  live = λ w j new. absurd (in_of_contains [] w j);
  cells = λ w h live. absurd (is_last_in t.memory [] w h);
  input = λ h. absurd (false≢true h);
  returned = same;
})

closed_returned : (xs : List ℕ) (s : State) → (all_closed xs s).returned ≡ s.returned
closed_returned [] s = refl
closed_returned (x ∷ xs) s = closed_returned xs (variable_closed x s)

-- ---- parameters

scalar_cell : (structs : Structs) (ls : List Layer) (b : Base) → is_scalar (record { layers = ls; base = b }) ≡ true → is_some (cell_in structs [] (unwritten structs (record { layers = ls; base = b }) Entered)) ≡ true
scalar_cell structs [] (base.Integer t) h = refl
scalar_cell structs [] (base.Struct k) h = absurd (false≢true h)
scalar_cell structs [] base.Void h = absurd (false≢true h)
scalar_cell structs (layer.Pointer ∷ ls) b h = refl
scalar_cell structs (layer.Array n ∷ ls) b h = absurd (false≢true h)

entered_cell : (t : ExprType) (m : Memory) → is_scalar t ≡ true → is_cell (enter t m) (whole (length m.blocks)) ≡ true
entered_cell t m h =
    ap (λ o. is_some (option_and_then (cell_in m.structs []) o)) (get_last m.blocks (unwritten m.structs t Entered)) ∙ scalar_cell m.structs t.layers t.base h

module _ (p : Executable) where
  -- blocks that were there before are as before
  parameter_beside : (x : ℕ) (s : State) (v : Value) (n : ℕ) → n < length s.memory.blocks → slice_get (parameter_begun p x s v).memory.blocks n ≡ slice_get s.memory.blocks n
  parameter_beside x s v n lt =
      let more = enter (p.typing.variable x) s.memory in
      get_other (with_cell more.structs [] v) (length s.memory.blocks) n more.blocks (λ e. absurd (omega (arith, e, lt))) ∙ get_front s.memory.blocks _ n lt

  passed_beside : (xs : List ℕ) (vs : List Value) (s c : State) → passed p xs vs s ≡ Some c → (n : ℕ) → n < length s.memory.blocks → slice_get c.memory.blocks n ≡ slice_get s.memory.blocks n
  passed_beside [] [] s c e n lt = ap (λ (t : State). slice_get t.memory.blocks n) (sym (same_Some s c e))
  passed_beside [] (v ∷ vs) s c e n lt = none_there e
  passed_beside (x ∷ xs) [] s c e n lt = none_there e
  passed_beside (x ∷ xs) (v ∷ vs) s c e n lt =
      let k = then_there (λ (w : Value). passed p xs vs (parameter_begun p x s w)) (as_type (p.typing.variable x) v) c e in
      let long = parameter_long p x s k.value in
      passed_beside xs vs (parameter_begun p x s k.value) c k.same n (omega (arith, lt, long)) ∙ parameter_beside x s k.value n lt

  -- these are the blocks of parameters that have begun since a state, each with its argument
  record ArePassed (s c : State) (ws : List Touch) : Type 0 where
    new : (w : Touch) → IsIn ws w → length s.memory.blocks ≤ w.cell.block
    live : (w : Touch) → IsIn ws w → IsScalarIfNew s c w.cell.block → is_cell c.memory w.cell ≡ true
    cells : (w : Touch) → IsIn ws w → is_cell c.memory w.cell ≡ true → read c.memory w.cell ≡ w.value

  -- the first of them
  module _ (x : ℕ) (xs : List ℕ) (v w : Value) (vs : List Value) (s c : State) (value_is : as_type (p.typing.variable x) v ≡ Some w) (rest : passed p xs vs (parameter_begun p x s w) ≡ Some c) where
    abbrev n : ℕ
    n = length s.memory.blocks

    abbrev shape : ExprType
    shape = p.typing.variable x

    abbrev entered_memory : Memory
    entered_memory = enter shape s.memory

    abbrev begun : State
    begun = parameter_begun p x s w

    abbrev first : Touch
    first = record { cell = whole n; value = as_type shape v }

    begun_lt : n < length begun.memory.blocks
    begun_lt = let long = parameter_long p x s w in omega (arith, long)

    as_begun : cell c.memory (whole n) ≡ cell begun.memory (whole n)
    as_begun = (passed_keeps p xs vs begun c rest).cells (whole n) begun_lt

    block_is : slice_get c.memory.blocks n ≡ Some (with_cell entered_memory.structs [] w (unwritten s.memory.structs shape Entered))
    block_is =
        passed_beside xs vs begun c rest n begun_lt ∙ (get_changed (with_cell entered_memory.structs [] w) n entered_memory.blocks ∙ ap (option_map (with_cell entered_memory.structs [] w)) (get_last s.memory.blocks (unwritten s.memory.structs shape Entered)))

    first_live : IsScalarIfNew s c n → is_cell c.memory (whole n) ≡ true
    first_live scalar =
        ap is_some as_begun ∙ write_there entered_memory (whole n) (whole n) w (entered_cell shape s.memory (scalar _ (omega arith) block_is))

    first_holds : is_cell c.memory (whole n) ≡ true → read c.memory (whole n) ≡ as_type shape v
    first_holds live =
        let there = stored_live (store (whole n) w ∷ []) entered_memory (whole n) (sym (ap is_some as_begun) ∙ live) in
        ap (option_and_then held) (as_begun ∙ written entered_memory (whole n) w there) ∙ sym value_is

    passed_first : (ws : List Touch) → ArePassed begun c ws → ArePassed s c (first ∷ ws)
    passed_first ws h = record { new = new; live = live; cells = cells }
      where
        long : length begun.memory.blocks ≡ suc n
        long = parameter_long p x s w

        new : (u : Touch) → IsIn (first ∷ ws) u → n ≤ u.cell.block
        new u (inl e) = subst (λ (z : Touch). n ≤ z.cell.block) e (omega arith)
        new u (inr j) = let le = h.new u j in omega (arith, le, long)

        live : (u : Touch) → IsIn (first ∷ ws) u → IsScalarIfNew s c u.cell.block → is_cell c.memory u.cell ≡ true
        live u (inl e) scalar =
            subst (λ (z : Touch). is_cell c.memory z.cell ≡ true) e (first_live (subst (λ (z : Touch). IsScalarIfNew s c z.cell.block) (sym e) scalar))
        live u (inr j) scalar = h.live u j (λ b le at. scalar b (omega (arith, le, long)) at)

        cells : (u : Touch) → IsIn (first ∷ ws) u → is_cell c.memory u.cell ≡ true → read c.memory u.cell ≡ u.value
        cells u (inl e) there =
            subst (λ (z : Touch). read c.memory z.cell ≡ z.value) e (first_holds (subst (λ (z : Touch). is_cell c.memory z.cell ≡ true) (sym e) there))
        cells u (inr j) there = h.cells u j there

  none_passed : (s c : State) → ArePassed s c []
  none_passed s c = record { new = λ w j. absurd j; live = λ w j scalar. absurd j; cells = λ w j there. absurd j }

  passed_into_begun : (xs : List ℕ) (v w : Value) (vs : List Value) (s c : State) (x : ℕ) → as_type (p.typing.variable x) v ≡ Some w → passed p xs vs (parameter_begun p x s w) ≡ Some c → ArePassed (parameter_begun p x s w) c (passed_into p.typing (length (parameter_begun p x s w).memory.blocks) xs vs) → ArePassed s c (passed_into p.typing (length s.memory.blocks) (x ∷ xs) (v ∷ vs))
  passed_into_begun xs v w vs s c x value_is rest h =
      passed_first x xs v w vs s c value_is rest (passed_into p.typing (suc (length s.memory.blocks)) xs vs) (subst (λ k. ArePassed (parameter_begun p x s w) c (passed_into p.typing k xs vs)) (parameter_long p x s w) h)

  passed_done : (xs : List ℕ) (vs : List Value) (s c : State) → passed p xs vs s ≡ Some c → ArePassed s c (passed_into p.typing (length s.memory.blocks) xs vs)
  passed_done [] [] s c e = none_passed s c
  passed_done [] (v ∷ vs) s c e = none_there e
  passed_done (x ∷ xs) [] s c e = none_there e
  passed_done (x ∷ xs) (v ∷ vs) s c e =
      let k = then_there (λ (w : Value). passed p xs vs (parameter_begun p x s w)) (as_type (p.typing.variable x) v) c e in
      passed_into_begun xs v k.value vs s c x k.there k.same (passed_done xs vs (parameter_begun p x s k.value) c k.same)

  passed_returned : (xs : List ℕ) (vs : List Value) (s c : State) → passed p xs vs s ≡ Some c → c.returned ≡ s.returned
  passed_returned [] [] s c e = ap (λ (t : State). t.returned) (sym (same_Some s c e))
  passed_returned [] (v ∷ vs) s c e = none_there e
  passed_returned (x ∷ xs) [] s c e = none_there e
  passed_returned (x ∷ xs) (v ∷ vs) s c e =
      let k = then_there (λ (w : Value). passed p xs vs (parameter_begun p x s w)) (as_type (p.typing.variable x) v) c e in
      passed_returned xs vs (parameter_begun p x s k.value) c k.same

  call_done : (f g : ℕ) (args : List Expr) (s c : State) → called p f g args s ≡ Some c → DoesEffect s c None (call_effect p f g args s)
  call_done f g args s c e =
      let n = length s.memory.blocks in
      let r = then_there (passed_to p f args s) (slice_get p.functions g) c e in
      let vs = then_there (λ (us : List Value). passed p r.value.params us (fresh p s)) (eval_all (types_in p f) args s) c r.same in
      let stores = ap (λ o. option_map_or (passed_into p.typing n (parameters_at p g)) o []) vs.there ∙ ap (λ o. passed_into p.typing n (option_map_or (λ (q : Routine). q.params) o []) vs.value) r.there in
      let k = passed_done r.value.params vs.value (fresh p s) c vs.same in
      let all = subst (ArePassed (fresh p s) c) (sym stores) k in
      record {
        live = λ w j scalar. all.live w (in_of_contains (call_effect p f g args s).stores w j) scalar;
        cells = λ w h live. all.cells w (is_last_in c.memory (call_effect p f g args s).stores w h) live;
        input = λ h. absurd (false≢true h);
        returned = passed_returned r.value.params vs.value (fresh p s) c vs.same;
      }

  -- ---- steps

  abbrev IsDone : State → Option Value → Effect → Step Point → Type 0
  IsDone s had e Stops = Unit {0}
  IsDone s had e (Fails i) = Unit {0}
  IsDone s had e (Acts y) = DoesEffect s y.state had e
  IsDone s had e (Moves y) = DoesEffect s y.state had e
  IsDone s had e (Breaks i) = Unit {0}

  acted_done : (f i : ℕ) (go : Made → Code) (a : Act) (s : State) (ws : List Waiting) (t : Trace) (e : Effect) (o : Option Made) → made (types_in p f) a s ≡ o → option_map (act_effect (types_in p f) a s) o ≡ Some e → IsDone s s.returned e (acted f i go s ws t o)
  acted_done f i go a s ws t e None is h = tt
  acted_done f i go a s ws t e (Some m) is h =
      subst (DoesEffect s (after i m s) s.returned) (some_same h) (act_done i (types_in p f) a s m is)

  entered_done : (f i : ℕ) (to : Target) (g : ℕ) (args : List Expr) (c : Code) (w : Waiting) (s : State) (ws : List Waiting) (t : Trace) (e : Effect) (o : Option State) → called p f g args s ≡ o → option_map (λ (u : State). call_effect p f g args s) o ≡ Some e → IsDone s None e (entered i to g c w ws t o)
  entered_done f i to g args c w s ws t e None is h = tt
  entered_done f i to g args c w s ws t e (Some u) is h =
      subst (DoesEffect s u None) (some_same h) (call_done f g args s u is)

  stored_done : (g : ℕ) (w : Waiting) (to : Target) (s : State) (ws : List Waiting) (t : Trace) (e : Effect) (o : Option Made) → received (types_in p w.function) to s.returned (back_in p g w s) ≡ o → option_map (store_effect (back_in p g w s).memory (target_read (types_in p w.function) to (back_in p g w s))) o ≡ Some e → IsDone s w.returned e (stored_back w (back_in p g w s) ws t o)
  stored_done g w to s ws t e None is h = tt
  stored_done g w to s ws t e (Some m) is h =
      let b = back_in p g w s in
      let types = types_in p w.function in
      let k = then_there (λ (u : Value). given types to u b) s.returned m is in
      subst (DoesEffect s (after w.call m b) w.returned) (some_same h) (receipt_done w.call s b (target_read types to b) m (given_cells types to k.value b m k.same) (given_returns types to k.value b m k.same))

  back_done : (g : ℕ) (to : Target) (w : Waiting) (s : State) (ws : List Waiting) (t : Trace) (e : Effect) → store_received p (types_in p w.function) to s.returned (back_in p g w s) ≡ Some e → IsDone s w.returned e (went_back p to w s.returned (back_in p g w s) ws t)
  back_done g target.None w s ws t e h = nothing_done s (back_in p g w s) w.returned e (some_same h) refl
  back_done g (target.Place a) w s ws t e h = stored_done g w (target.Place a) s ws t e _ refl h
  back_done g (target.Declared x) w s ws t e h = stored_done g w (target.Declared x) s ws t e _ refl h

  step_done : (f : ℕ) (c : Code) (s : State) (ws : List Waiting) (t : Trace) (e : Effect) → effect_at p f c s ws ≡ Some e → IsDone s (returned_at c s ws) e (step_at p f c s ws t)
  step_done f End s [] t e h = tt
  step_done f End s (w ∷ ws) t e h = back_done f w.target w s ws t e h
  step_done f (Opens x r) s ws t e h = nothing_done s (variable_opened (types_in p f) x s) s.returned e (some_same h) refl
  step_done f (Plain i a r) s ws t e h = acted_done f i (λ m. r) a s ws t e (made (types_in p f) a s) refl h
  step_done f (Fork i a c r) s ws t e h = acted_done f i (λ m. c (picked m) ⨟ r) (Tests a) s ws t e (made (types_in p f) (Tests a) s) refl h
  step_done f (Loop i a b r) s ws t e h =
      acted_done f i (λ m. either (is_true (picked m)) (b ⨟ Loop i a b r) r) (Tests a) s ws t e (made (types_in p f) (Tests a) s) refl h
  step_done f (Leaves xs r) s ws t e h = nothing_done s (all_closed xs s) s.returned e (some_same h) (closed_returned xs s)
  step_done f (Call i to g args r) s ws t e h =
      entered_done f i to g args (code_at p g) (waiting i to f r s) s ws t e (called p f g args s) refl h

pub steps_do_their_effects : StepsDoTheirEffects
steps_do_their_effects p x y e leads is =
    let had = returned_at x.rest x.state x.callers in
    let k = step_done p x.function x.rest x.state x.callers x.trace e is in
    elim leads [ inl h ↦ subst (IsDone p x.state had e) h k | inr h ↦ subst (IsDone p x.state had e) h k ]
