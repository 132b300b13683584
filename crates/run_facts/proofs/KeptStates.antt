-- Steps leave cells into which nothing is stored, and the input that isn't taken.
use Rattle.std.proofs.Common.{◌≡◌, ℕ, suc, ◌<◌, List, [], ◌∷◌, ◌++◌, map, length, Option, Some, None, Bool, true, false, inl, inr, refl, sym, ap, ◌∙◌, subst, arith}
use Rattle.std.specs.Prelude.{option_map, option_and_then, is_some, drop, slice_get, Contains, if◌then◌else◌}
use Rattle.std.proofs.lemmas.Bool.{false≢true}
use Rattle.std.proofs.lemmas.Option.{same_Some}
use Rattle.c_arith.specs.declared.int_type.IntType.TheVariants.{UChar}
use Rattle.c_arith.specs.IntType.{convert}
use Rattle.c_language.proofs.Options.{some_same, none_there, map_there, then_there}
use Rattle.c_tree.specs.declared.expr.Expr.{Expr}
use Rattle.c_tree.specs.declared.program.Init.{Init}
use Rattle.c_tree.specs.declared.program.Init.TheVariants as init
use Rattle.c_tree.specs.declared.statement.Target.{Target}
use Rattle.c_tree.specs.declared.statement.Target.TheVariants as target
use Rattle.c_language.specs.declared.expr_type.Base.{Base}
use Rattle.c_language.specs.declared.expr_type.Layer.{Layer}
use Rattle.c_language.specs.declared.expr_type.Layer.TheVariants as layer
use Rattle.c_language.specs.declared.expr_type.ExprType.{ExprType}
use Rattle.c_language.specs.Code.{Act, Begins, Sets, Bumps, Fetches, Writes, Prints, Allocates, Frees, Returns, Tests, Code, End, Opens, Plain, Fork, Loop, Leaves, Call, ◌⨟◌, is_true, either}
use Rattle.c_meaning.specs.declared.value.Place.{Place}
use Rattle.c_meaning.specs.declared.value.Value.{Value}
use Rattle.c_meaning.specs.declared.value.Value.TheVariants.{Number, Null, To}
use Rattle.c_meaning.specs.Memory.{Memory, held, cell, is_cell, enter, can_free}
use Rattle.c_meaning.specs.Values.{Types, State, whole, variable_place, tested, variable_opened, variable_closed, all_closed, leave_block, as_type, type_of, place, eval, eval_all}
use Rattle.c_meaning.specs.Acts.{Made, Store, shows, storing, writable, assigned, right_of, bumped, storing_all, list_stores, all_as, listed_in, begun_with, given, put_out, printed_all, next_block, begun_for, beginning, granted, target_type, asked_count, freed_at, as_result, returning, shown_result, made, with_begun, after, picked}
use Rattle.c_language.specs.ExprTypes.{target_of}
use Rattle.c_meaning.specs.Activations.{Executable, code_at, variables_at, types_in, parameter_begun, passed, fresh, passed_to, called, received}
use Rattle.c_meaning.specs.Meaning.{Trace}
use Rattle.c_meaning.specs.Steps.{Step, Stops, Fails, Acts, Moves, Breaks, Waiting, Point, waiting, acted, entered, stored_back, went_back, step_at}
use Rattle.c_meaning.proofs.Origins.{length-changed}
use Rattle.dep_model.proofs.Membership.{IsIn, contains_of_in, in_map}
use Rattle.run_facts.specs.Effects.{Touch, Effect, no_effect, act_effect, call_effect, store_effect, doing_effect, store_received, back_in, receipt_effect}
use Rattle.run_facts.specs.Effects as effects
use Rattle.run_facts.specs.KeptCells.{IsSameCell, KeepsRest, effect_at}
use Rattle.run_facts.specs.ReadCells.{target_read, reads_input}
use Rattle.run_facts.specs.Laws.{StepsKeepTheRest}
use Rattle.run_facts.proofs.KeptMemories.{write_keeps, stored_live, same_unleft, same_unbegun, stored_keeps, leave_keeps, new_keeps, begun_keeps}

-- ---- an act

-- the cells of these stores aren't that of q
abbrev Apart : Memory → List Store → Place → Type 0
Apart m ws q = (w : Store) → IsIn ws w → IsSameCell m w.place q → ⊥

after_keeps : (i : ℕ) (x : Made) (s : State) (q : Place) → q.block < length s.memory.blocks → is_cell (after i x s).memory q ≡ true → Apart s.memory x.stores q → cell (after i x s).memory q ≡ cell s.memory q
after_keeps i x s q lt live apart =
    let begun = with_begun x.begun s.memory in
    let left = leave_block x.freed begun in
    let last = stored_keeps x.stores left q (λ w j same. apart w j (same_unbegun x.begun s.memory w.place q (same_unleft x.freed begun w.place q same))) in
    last ∙ (leave_keeps x.freed begun q (sym (ap is_some last) ∙ live) ∙ begun_keeps x.begun s.memory q lt)

after_live : (i : ℕ) (x : Made) (s : State) (q : Place) → q.block < length s.memory.blocks → is_cell (after i x s).memory q ≡ true → is_cell s.memory q ≡ true
after_live i x s q lt live =
    let begun = with_begun x.begun s.memory in
    let left = stored_live x.stores (leave_block x.freed begun) q live in
    sym (ap is_some (leave_keeps x.freed begun q left ∙ begun_keeps x.begun s.memory q lt)) ∙ left

-- what an effect stores is what was made
apart_of : (m : Memory) (ws : List Store) (q : Place) → ((w : Touch) → Contains (map effects.storing ws) w → IsSameCell m w.cell q → ⊥) → Apart m ws q
apart_of m ws q h w j same = h (effects.storing w) (contains_of_in (map effects.storing ws) (effects.storing w) (in_map effects.storing ws w j)) same

-- ---- no act but getchar takes from the input

assigned_takes : (t : ExprType) (o : Option Place) (v : Option Value) (m : Made) → assigned t o v ≡ Some m → m.taken ≡ 0
assigned_takes t None v m q = none_there q
assigned_takes t (Some p) v m q = let h = map_there (storing p) (option_and_then (as_type t) v) m q in ap (λ (x : Made). x.taken) (sym h.same)

given_takes : (types : Types) (to : Target) (v : Value) (s : State) (m : Made) → given types to v s ≡ Some m → m.taken ≡ 0
given_takes types target.None v s m q = ap (λ (x : Made). x.taken) (sym (some_same q))
given_takes types (target.Place e) v s m q = assigned_takes (type_of types e) (writable s (place types e s)) (Some v) m q
given_takes types (target.Declared y) v s m q = assigned_takes (types.typing.variable y) (writable s (variable_place y s)) (Some v) m q

mapped_takes : {V : Type 0} (g : V → Made) (o : Option V) (m : Made) → ((v : V) → (g v).taken ≡ 0) → option_map g o ≡ Some m → m.taken ≡ 0
mapped_takes g o m h q = let k = map_there g o m q in ap (λ (x : Made). x.taken) (sym k.same) ∙ h k.value

all_takes : (mem : Memory) (n : ℕ) (vs : List Value) (ws : List Store) (b : Bool) (m : Made) → (if b then Some (record (shows vs []) { stores = ws }) else None) ≡ Some m → m.taken ≡ 0
all_takes mem n vs ws true m q = ap (λ (x : Made). x.taken) (sym (some_same q))
all_takes mem n vs ws false m q = none_there q

listed_takes : (ls : List Layer) (b : Base) (mem : Memory) (vs : List Value) (p : Place) (m : Made) → listed_in ls b mem vs p ≡ Some m → m.taken ≡ 0
listed_takes [] b mem vs p m q = none_there q
listed_takes (layer.Pointer ∷ ls) b mem vs p m q = none_there q
listed_takes (layer.Array n ∷ ls) b mem vs p m q =
    let t : ExprType = record { layers = ls; base = b } in
    let h = then_there (λ (ws : List Value). storing_all mem n ws (list_stores p t 0 n ws)) (all_as t vs) m q in
    all_takes mem n h.value (list_stores p t 0 n h.value) _ m h.same

init_takes : (types : Types) (x : ℕ) (i : Init) (s : State) (m : Made) → begun_with types x i s ≡ Some m → m.taken ≡ 0
init_takes types x init.None s m q = none_there q
init_takes types x (init.One e) s m q = assigned_takes (types.typing.variable x) (writable s (variable_place x s)) (eval types e s) m q
init_takes types x (init.Items es) s m q =
    let t = types.typing.variable x in
    let h = then_there (λ (ws : List Value). option_and_then (listed_in t.layers t.base s.memory ws) (variable_place x s)) (eval_all types es s) m q in
    let k = then_there (listed_in t.layers t.base s.memory h.value) (variable_place x s) m h.same in
    listed_takes t.layers t.base s.memory h.value k.value m k.same

freed_takes : (mem : Memory) (v : Value) (m : Made) → freed_at mem v ≡ Some m → m.taken ≡ 0
freed_takes mem (Number z) m q = none_there q
freed_takes mem Null m q = ap (λ (x : Made). x.taken) (sym (some_same q))
freed_takes mem (To p) m q = by_test (can_free mem p) q
  where
    by_test : (b : Bool) → (if b then Some (record (shows (To p ∷ []) []) { freed = Some p.block }) else None) ≡ Some m → m.taken ≡ 0
    by_test true k = ap (λ (x : Made). x.taken) (sym (some_same k))
    by_test false k = none_there k

result_takes : (types : Types) (o : Option Expr) (s : State) (m : Made) → shown_result types o s ≡ Some m → m.taken ≡ 0
result_takes types None s m q = ap (λ (x : Made). x.taken) (sym (some_same q))
result_takes types (Some e) s m q = mapped_takes returning (option_and_then (as_result types.result) (eval types e s)) m (λ v. refl) q

made_takes : (types : Types) (a : Act) (s : State) (m : Made) → reads_input a ≡ false → made types a s ≡ Some m → m.taken ≡ 0
made_takes types (Begins x i) s m h q = init_takes types x i s m q
made_takes types (Sets left op right) s m h q =
    assigned_takes (type_of types left) (writable s (place types left s)) (right_of types op left right s) m q
made_takes types (Bumps left up) s m h q = assigned_takes (type_of types left) (writable s (place types left s)) (bumped types left up s) m q
made_takes types (Fetches to) s m h q = absurd (false≢true (sym h))
made_takes types (Writes e) s m h q = mapped_takes (λ (v : Value). put_out (convert (tested v) UChar)) (eval types e s) m (λ v. refl) q
made_takes types (Prints format args) s m h q = mapped_takes (printed_all format) (eval_all types args s) m (λ v. refl) q
made_takes types (Allocates to n) s m h q =
    let x = given types to (next_block s) s in
    let one = then_there (λ (o : ExprType). option_and_then (begun_for x o) (option_and_then granted (asked_count types n s))) (option_and_then target_of (target_type types to)) m q in
    let two = then_there (begun_for x one.value) (option_and_then granted (asked_count types n s)) m one.same in
    let three = map_there (beginning one.value two.value) x m two.same in
    ap (λ (z : Made). z.taken) (sym three.same) ∙ given_takes types to (next_block s) s three.value three.there
made_takes types (Frees e) s m h q =
    let k = then_there (freed_at s.memory) (eval types e s) m q in freed_takes s.memory k.value m k.same
made_takes types (Returns e) s m h q = result_takes types e s m q
made_takes types (Tests e) s m h q =
    mapped_takes (λ (v : Value). shows (Number (tested v) ∷ []) []) (eval types e s) m (λ v. refl) q

untaken : (n : ℕ) (bs : List ℕ) → n ≡ 0 → drop n bs ≡ bs
untaken n bs e = ap (λ k. drop k bs) e

-- ---- blocks that begin and go

closed_keeps : (xs : List ℕ) (s : State) (q : Place) → is_cell (all_closed xs s).memory q ≡ true → cell (all_closed xs s).memory q ≡ cell s.memory q
closed_keeps [] s q live = refl
closed_keeps (x ∷ xs) s q live =
    let rest = closed_keeps xs (variable_closed x s) q live in
    rest ∙ leave_keeps (s.frame x) s.memory q (sym (ap is_some rest) ∙ live)

closed_unread : (xs : List ℕ) (s : State) → (all_closed xs s).unread ≡ s.unread
closed_unread [] s = refl
closed_unread (x ∷ xs) s = closed_unread xs (variable_closed x s)

module _ (p : Executable) where
  -- ---- parameters

  parameter_keeps : (x : ℕ) (s : State) (v : Value) (q : Place) → q.block < length s.memory.blocks → cell (parameter_begun p x s v).memory q ≡ cell s.memory q
  parameter_keeps x s v q lt =
      let entered = enter (p.typing.variable x) s.memory in
      write_keeps entered (whole (length s.memory.blocks)) q v (λ same. let e = same.block_is in absurd (omega (arith, e, lt))) ∙ new_keeps _ s.memory q lt

  longer : {A : Type 0} (xs : List A) (x : A) → length (xs ++ x ∷ []) ≡ suc (length xs)
  longer [] x = refl
  longer (y ∷ xs) x = ap suc (longer xs x)

  pub parameter_long : (x : ℕ) (s : State) (v : Value) → length (parameter_begun p x s v).memory.blocks ≡ suc (length s.memory.blocks)
  parameter_long x s v = length-changed _ (length s.memory.blocks) (enter (p.typing.variable x) s.memory).blocks ∙ longer s.memory.blocks _

  -- the cells of blocks that were there before, and the input, are as before
  pub record KeepsOld (s c : State) : Type 0 where
    pub cells : (q : Place) → q.block < length s.memory.blocks → cell c.memory q ≡ cell s.memory q
    pub input : c.unread ≡ s.unread

  pub passed_keeps : (xs : List ℕ) (vs : List Value) (s c : State) → passed p xs vs s ≡ Some c → KeepsOld s c
  passed_keeps [] [] s c e = subst (KeepsOld s) (same_Some s c e) (record { cells = λ q lt. refl; input = refl })
  passed_keeps [] (v ∷ vs) s c e = none_there e
  passed_keeps (x ∷ xs) [] s c e = none_there e
  passed_keeps (x ∷ xs) (v ∷ vs) s c e =
      let k = then_there (λ (w : Value). passed p xs vs (parameter_begun p x s w)) (as_type (p.typing.variable x) v) c e in
      let rest = passed_keeps xs vs (parameter_begun p x s k.value) c k.same in
      record {
        cells = λ q lt. let long = parameter_long x s k.value in rest.cells q (omega (arith, lt, long)) ∙ parameter_keeps x s k.value q lt;
        input = rest.input;
      }

  pub called_keeps : (f g : ℕ) (args : List Expr) (s c : State) → called p f g args s ≡ Some c → KeepsOld s c
  called_keeps f g args s c e =
      let r = then_there (passed_to p f args s) (slice_get p.functions g) c e in
      let vs = then_there (λ (us : List Value). passed p r.value.params us (fresh p s)) (eval_all (types_in p f) args s) c r.same in
      let k = passed_keeps r.value.params vs.value (fresh p s) c vs.same in
      record { cells = k.cells; input = k.input }

  -- ---- effects

  -- nothing changes but blocks that begin or go
  keeps_rest : (s t : State) (e : Effect) → ((q : Place) → q.block < length s.memory.blocks → is_cell t.memory q ≡ true → cell t.memory q ≡ cell s.memory q) → t.unread ≡ s.unread → KeepsRest s t e
  keeps_rest s t e cells input = record { live = λ q lt live. sym (ap is_some (cells q lt live)) ∙ live; cells = λ q lt live h. ap (option_and_then held) (cells q lt live); input = λ h. input }

  act_rest : (i : ℕ) (types : Types) (a : Act) (s : State) (m : Made) → made types a s ≡ Some m → KeepsRest s (after i m s) (act_effect types a s m)
  act_rest i types a s m is = record {
    live = after_live i m s;
    cells = λ q lt live h. ap (option_and_then held) (after_keeps i m s q lt live (apart_of s.memory m.stores q h));
    input = λ h. untaken m.taken s.unread (made_takes types a s m h is);
  }

  -- after the callee's blocks are gone, a result is stored
  receipt_rest : (i : ℕ) (s b : State) (reads : List Place) (m : Made) → ((q : Place) → is_cell b.memory q ≡ true → cell b.memory q ≡ cell s.memory q) → ((q r : Place) → IsSameCell b.memory q r → IsSameCell s.memory q r) → ((q : Place) → q.block < length s.memory.blocks → q.block < length b.memory.blocks) → b.unread ≡ s.unread → m.taken ≡ 0 → KeepsRest s (after i m b) (store_effect b.memory reads m)
  receipt_rest i s b reads m cells same long input none = record {
    live = λ q lt live. let k = after_live i m b q (long q lt) live in sym (ap is_some (cells q k)) ∙ k;
    cells = λ q lt live h.
        let apart : Apart b.memory m.stores q = λ w j one. apart_of s.memory m.stores q h w j (same w.place q one) in
        let last = after_keeps i m b q (long q lt) live apart in
        ap (option_and_then held) (last ∙ cells q (sym (ap is_some last) ∙ live));
    input = λ h. untaken m.taken b.unread none ∙ input;
  }

  -- ---- leaving

  same_unclosed : (xs : List ℕ) (s : State) (q r : Place) → IsSameCell (all_closed xs s).memory q r → IsSameCell s.memory q r
  same_unclosed [] s q r h = h
  same_unclosed (x ∷ xs) s q r h = same_unleft (s.frame x) s.memory q r (same_unclosed xs (variable_closed x s) q r h)

  left_long : (o : Option ℕ) (m : Memory) → length (leave_block o m).blocks ≡ length m.blocks
  left_long None m = refl
  left_long (Some n) m = length-changed _ n m.blocks

  closed_long : (xs : List ℕ) (s : State) → length (all_closed xs s).memory.blocks ≡ length s.memory.blocks
  closed_long [] s = refl
  closed_long (x ∷ xs) s = closed_long xs (variable_closed x s) ∙ left_long (s.frame x) s.memory

  -- ---- steps

  abbrev IsKept : State → Effect → Step Point → Type 0
  IsKept s e Stops = Unit {0}
  IsKept s e (Fails i) = Unit {0}
  IsKept s e (Acts y) = KeepsRest s y.state e
  IsKept s e (Moves y) = KeepsRest s y.state e
  IsKept s e (Breaks i) = Unit {0}

  acted_kept : (f i : ℕ) (go : Made → Code) (a : Act) (s : State) (ws : List Waiting) (t : Trace) (e : Effect) (o : Option Made) → made (types_in p f) a s ≡ o → option_map (act_effect (types_in p f) a s) o ≡ Some e → IsKept s e (acted f i go s ws t o)
  acted_kept f i go a s ws t e None is h = tt
  acted_kept f i go a s ws t e (Some m) is h = subst (KeepsRest s (after i m s)) (some_same h) (act_rest i (types_in p f) a s m is)

  entered_kept : (f i : ℕ) (to : Target) (g : ℕ) (args : List Expr) (c : Code) (w : Waiting) (s : State) (ws : List Waiting) (t : Trace) (e : Effect) (o : Option State) → called p f g args s ≡ o → IsKept s e (entered i to g c w ws t o)
  entered_kept f i to g args c w s ws t e None is = tt
  entered_kept f i to g args c w s ws t e (Some u) is =
      let k = called_keeps f g args s u is in keeps_rest s u e (λ q lt live. k.cells q lt) k.input

  received_takes : (types : Types) (to : Target) (v : Option Value) (s : State) (m : Made) → received types to v s ≡ Some m → m.taken ≡ 0
  received_takes types to v s m q = let k = then_there (λ (u : Value). given types to u s) v m q in given_takes types to k.value s m k.same

  stored_kept : (g : ℕ) (w : Waiting) (to : Target) (s : State) (ws : List Waiting) (t : Trace) (e : Effect) (o : Option Made) → received (types_in p w.function) to s.returned (back_in p g w s) ≡ o → option_map (store_effect (back_in p g w s).memory (target_read (types_in p w.function) to (back_in p g w s))) o ≡ Some e → IsKept s e (stored_back w (back_in p g w s) ws t o)
  stored_kept g w to s ws t e None is h = tt
  stored_kept g w to s ws t e (Some m) is h =
      let xs = variables_at p g in
      let b = back_in p g w s in
      subst (KeepsRest s (after w.call m b)) (some_same h) (receipt_rest w.call s b (target_read (types_in p w.function) to b) m (closed_keeps xs s) (same_unclosed xs s) (λ q lt. let long = closed_long xs s in omega (arith, lt, long)) (closed_unread xs s) (received_takes (types_in p w.function) to s.returned b m is))

  back_kept : (g : ℕ) (to : Target) (w : Waiting) (s : State) (ws : List Waiting) (t : Trace) (e : Effect) → store_received p (types_in p w.function) to s.returned (back_in p g w s) ≡ Some e → IsKept s e (went_back p to w s.returned (back_in p g w s) ws t)
  back_kept g target.None w s ws t e h =
      keeps_rest s (back_in p g w s) e (λ q lt live. closed_keeps (variables_at p g) s q live) (closed_unread (variables_at p g) s)
  back_kept g (target.Place a) w s ws t e h = stored_kept g w (target.Place a) s ws t e _ refl h
  back_kept g (target.Declared x) w s ws t e h = stored_kept g w (target.Declared x) s ws t e _ refl h

  step_kept : (f : ℕ) (c : Code) (s : State) (ws : List Waiting) (t : Trace) (e : Effect) → effect_at p f c s ws ≡ Some e → IsKept s e (step_at p f c s ws t)
  step_kept f End s [] t e h = tt
  step_kept f End s (w ∷ ws) t e h = back_kept f w.target w s ws t e h
  step_kept f (Opens x r) s ws t e h = keeps_rest s (variable_opened (types_in p f) x s) e (λ q lt live. new_keeps _ s.memory q lt) refl
  step_kept f (Plain i a r) s ws t e h = acted_kept f i (λ m. r) a s ws t e (made (types_in p f) a s) refl h
  step_kept f (Fork i a c r) s ws t e h = acted_kept f i (λ m. c (picked m) ⨟ r) (Tests a) s ws t e (made (types_in p f) (Tests a) s) refl h
  step_kept f (Loop i a b r) s ws t e h =
      acted_kept f i (λ m. either (is_true (picked m)) (b ⨟ Loop i a b r) r) (Tests a) s ws t e (made (types_in p f) (Tests a) s) refl h
  step_kept f (Leaves xs r) s ws t e h =
      keeps_rest s (all_closed xs s) e (λ q lt live. closed_keeps xs s q live) (closed_unread xs s)
  step_kept f (Call i to g args r) s ws t e h =
      entered_kept f i to g args (code_at p g) (waiting i to f r s) s ws t e (called p f g args s) refl

pub steps_keep_the_rest : StepsKeepTheRest
steps_keep_the_rest p x y e leads is =
    let k = step_kept p x.function x.rest x.state x.callers x.trace e is in
    elim leads [ inl h ↦ subst (IsKept p x.state e) h k | inr h ↦ subst (IsKept p x.state e) h k ]
