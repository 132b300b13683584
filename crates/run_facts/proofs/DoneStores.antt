-- What an act makes is stored in cells, and only getchar takes from the input.
use Rattle.std.proofs.Common.{◌≡◌, ℕ, List, [], ◌∷◌, Option, Some, None, Bool, true, false, ◌&&◌, inl, inr, refl, sym, ap, ◌∙◌, subst}
use Rattle.std.specs.Prelude.{option_map, option_and_then, nat_le, length, if◌then◌else◌}
use Rattle.std.proofs.lemmas.Bool.{false≢true, and_parts}
use Rattle.c_arith.specs.declared.int_type.IntType.TheVariants.{UChar}
use Rattle.c_arith.specs.IntType.{convert}
use Rattle.c_language.proofs.Options.{some_same, none_there, map_there, then_there}
use Rattle.c_tree.specs.declared.expr.Expr.{Expr}
use Rattle.c_tree.specs.declared.program.Init.{Init}
use Rattle.c_tree.specs.declared.program.Init.TheVariants as init
use Rattle.c_tree.specs.declared.statement.Target.{Target}
use Rattle.c_tree.specs.declared.statement.Target.TheVariants as target
use Rattle.c_language.specs.declared.expr_type.Base.{Base}
use Rattle.c_language.specs.declared.expr_type.Layer.{Layer}
use Rattle.c_language.specs.declared.expr_type.Layer.TheVariants as layer
use Rattle.c_language.specs.declared.expr_type.ExprType.{ExprType}
use Rattle.c_language.specs.Code.{Act, Begins, Sets, Bumps, Fetches, Writes, Prints, Allocates, Frees, Returns, Tests}
use Rattle.c_language.specs.ExprTypes.{target_of}
use Rattle.c_meaning.specs.declared.value.Place.{Place}
use Rattle.c_meaning.specs.declared.value.Value.{Value}
use Rattle.c_meaning.specs.declared.value.Value.TheVariants.{Number, Null, To}
use Rattle.c_meaning.specs.Memory.{Memory, is_cell, can_free}
use Rattle.c_meaning.specs.Values.{Types, State, variable_place, tested, as_type, type_of, place, eval, eval_all}
use Rattle.c_meaning.specs.Acts.{Made, Store, shows, storing, if_cell, writable, assigned, right_of, bumped, all_cells, storing_all, list_stores, all_as, listed_in, begun_with, given, taking, next_byte, put_out, printed_all, next_block, begun_for, beginning, granted, target_type, asked_count, freed_at, as_result, returning, shown_result, made}
use Rattle.dep_model.proofs.Membership.{IsIn}
use Rattle.run_facts.specs.ReadCells.{reads_input}

-- each place at which something is stored is a cell before, and where something is stored no block is freed
pub record StoresInCells (mem : Memory) (m : Made) : Type 0 where
  pub live : (w : Store) → IsIn m.stores w → is_cell mem w.place ≡ true
  pub freed : (w : Store) → IsIn m.stores w → m.freed ≡ None

stores_nothing : (mem : Memory) (m : Made) → m.stores ≡ [] → StoresInCells mem m
stores_nothing mem m none =
    record { live = λ w j. absurd (subst (λ ws. IsIn ws w) none j); freed = λ w j. absurd (subst (λ ws. IsIn ws w) none j) }

stores_one : (mem : Memory) (p : Place) (v : Value) → is_cell mem p ≡ true → StoresInCells mem (storing p v)
stores_one mem p v live = record { live = one; freed = λ w j. refl }
  where
    one : (w : Store) → IsIn (storing p v).stores w → is_cell mem w.place ≡ true
    one w (inl e) = subst (λ (u : Store). is_cell mem u.place ≡ true) e live
    one w (inr j) = absurd j

cell_there : (mem : Memory) (q p : Place) → if_cell mem q ≡ Some p → is_cell mem p ≡ true
cell_there mem q p e = by_test (is_cell mem q) refl e
  where
    by_test : (b : Bool) → is_cell mem q ≡ b → (if b then Some q else None) ≡ Some p → is_cell mem p ≡ true
    by_test true is k = subst (λ r. is_cell mem r ≡ true) (some_same k) is
    by_test false is k = none_there k

assigned_cells : (t : ExprType) (s : State) (o : Option Place) (v : Option Value) (m : Made) → assigned t (writable s o) v ≡ Some m → StoresInCells s.memory m
assigned_cells t s o v m q =
    let k = then_there (λ (p : Place). option_map (storing p) (option_and_then (as_type t) v)) (writable s o) m q in
    let h = map_there (storing k.value) (option_and_then (as_type t) v) m k.same in
    let c = then_there (if_cell s.memory) o k.value k.there in
    subst (StoresInCells s.memory) h.same (stores_one s.memory k.value h.value (cell_there s.memory c.value k.value c.same))

pub given_cells : (types : Types) (to : Target) (v : Value) (s : State) (m : Made) → given types to v s ≡ Some m → StoresInCells s.memory m
given_cells types target.None v s m q = stores_nothing s.memory m (ap (λ (x : Made). x.stores) (sym (some_same q)))
given_cells types (target.Place e) v s m q = assigned_cells (type_of types e) s (place types e s) (Some v) m q
given_cells types (target.Declared y) v s m q = assigned_cells (types.typing.variable y) s (variable_place y s) (Some v) m q

mapped_cells : {V : Type 0} (mem : Memory) (g : V → Made) (o : Option V) (m : Made) → ((v : V) → (g v).stores ≡ []) → option_map g o ≡ Some m → StoresInCells mem m
mapped_cells mem g o m h q = let k = map_there g o m q in stores_nothing mem m (ap (λ (x : Made). x.stores) (sym k.same) ∙ h k.value)

all_live : (mem : Memory) (ws : List Store) → all_cells mem ws ≡ true → (w : Store) → IsIn ws w → is_cell mem w.place ≡ true
all_live mem [] h w j = absurd j
all_live mem (u ∷ ws) h w (inl e) =
    subst (λ (z : Store). is_cell mem z.place ≡ true) e (and_parts (is_cell mem u.place) (all_cells mem ws) h).0
all_live mem (u ∷ ws) h w (inr j) = all_live mem ws (and_parts (is_cell mem u.place) (all_cells mem ws) h).1 w j

all_cells_stored : (mem : Memory) (n : ℕ) (vs : List Value) (ws : List Store) (m : Made) → storing_all mem n vs ws ≡ Some m → StoresInCells mem m
all_cells_stored mem n vs ws m q = by_test (nat_le (length vs) n && all_cells mem ws) refl q
  where
    by_test : (b : Bool) → (nat_le (length vs) n && all_cells mem ws) ≡ b → (if b then Some (record (shows vs []) { stores = ws }) else None) ≡ Some m → StoresInCells mem m
    by_test true is k =
        subst (StoresInCells mem) (some_same k) (record { live = all_live mem ws (and_parts (nat_le (length vs) n) (all_cells mem ws) is).1; freed = λ w j. refl })
    by_test false is k = none_there k

listed_cells : (ls : List Layer) (b : Base) (mem : Memory) (vs : List Value) (p : Place) (m : Made) → listed_in ls b mem vs p ≡ Some m → StoresInCells mem m
listed_cells [] b mem vs p m q = none_there q
listed_cells (layer.Pointer ∷ ls) b mem vs p m q = none_there q
listed_cells (layer.Array n ∷ ls) b mem vs p m q =
    let t : ExprType = record { layers = ls; base = b } in
    let h = then_there (λ (ws : List Value). storing_all mem n ws (list_stores p t 0 n ws)) (all_as t vs) m q in
    all_cells_stored mem n h.value (list_stores p t 0 n h.value) m h.same

init_cells : (types : Types) (x : ℕ) (i : Init) (s : State) (m : Made) → begun_with types x i s ≡ Some m → StoresInCells s.memory m
init_cells types x init.None s m q = none_there q
init_cells types x (init.One e) s m q = assigned_cells (types.typing.variable x) s (variable_place x s) (eval types e s) m q
init_cells types x (init.Items es) s m q =
    let t = types.typing.variable x in
    let h = then_there (λ (ws : List Value). option_and_then (listed_in t.layers t.base s.memory ws) (variable_place x s)) (eval_all types es s) m q in
    let k = then_there (listed_in t.layers t.base s.memory h.value) (variable_place x s) m h.same in
    listed_cells t.layers t.base s.memory h.value k.value m k.same

freed_stores : (mem : Memory) (v : Value) (m : Made) → freed_at mem v ≡ Some m → m.stores ≡ []
freed_stores mem (Number z) m q = none_there q
freed_stores mem Null m q = ap (λ (x : Made). x.stores) (sym (some_same q))
freed_stores mem (To p) m q = by_test (can_free mem p) q
  where
    by_test : (b : Bool) → (if b then Some (record (shows (To p ∷ []) []) { freed = Some p.block }) else None) ≡ Some m → m.stores ≡ []
    by_test true k = ap (λ (x : Made). x.stores) (sym (some_same k))
    by_test false k = none_there k

result_cells : (types : Types) (o : Option Expr) (s : State) (m : Made) → shown_result types o s ≡ Some m → StoresInCells s.memory m
result_cells types None s m q = stores_nothing s.memory m (ap (λ (x : Made). x.stores) (sym (some_same q)))
result_cells types (Some e) s m q =
    mapped_cells s.memory returning (option_and_then (as_result types.result) (eval types e s)) m (λ v. refl) q

-- what is made of this differs in other things
same_stores : (mem : Memory) (x m : Made) → x.stores ≡ m.stores → x.freed ≡ m.freed → StoresInCells mem x → StoresInCells mem m
same_stores mem x m stores freed h = record {
  live = λ w j. h.live w (subst (λ ws. IsIn ws w) (sym stores) j);
  freed = λ w j. sym freed ∙ h.freed w (subst (λ ws. IsIn ws w) (sym stores) j);
}

pub made_cells : (types : Types) (a : Act) (s : State) (m : Made) → made types a s ≡ Some m → StoresInCells s.memory m
made_cells types (Begins x i) s m q = init_cells types x i s m q
made_cells types (Sets left op right) s m q = assigned_cells (type_of types left) s (place types left s) (right_of types op left right s) m q
made_cells types (Bumps left up) s m q = assigned_cells (type_of types left) s (place types left s) (bumped types left up s) m q
made_cells types (Fetches to) s m q =
    let v = Number (next_byte s.unread) in
    let k = map_there taking (given types to v s) m q in
    same_stores s.memory k.value m (ap (λ (x : Made). x.stores) k.same) (ap (λ (x : Made). x.freed) k.same) (given_cells types to v s k.value k.there)
made_cells types (Writes e) s m q = mapped_cells s.memory (λ (v : Value). put_out (convert (tested v) UChar)) (eval types e s) m (λ v. refl) q
made_cells types (Prints format args) s m q = mapped_cells s.memory (printed_all format) (eval_all types args s) m (λ v. refl) q
made_cells types (Allocates to n) s m q =
    let x = given types to (next_block s) s in
    let one = then_there (λ (o : ExprType). option_and_then (begun_for x o) (option_and_then granted (asked_count types n s))) (option_and_then target_of (target_type types to)) m q in
    let two = then_there (begun_for x one.value) (option_and_then granted (asked_count types n s)) m one.same in
    let three = map_there (beginning one.value two.value) x m two.same in
    same_stores s.memory three.value m (ap (λ (z : Made). z.stores) three.same) (ap (λ (z : Made). z.freed) three.same) (given_cells types to (next_block s) s three.value three.there)
made_cells types (Frees e) s m q =
    let k = then_there (freed_at s.memory) (eval types e s) m q in stores_nothing s.memory m (freed_stores s.memory k.value m k.same)
made_cells types (Returns e) s m q = result_cells types e s m q
made_cells types (Tests e) s m q =
    mapped_cells s.memory (λ (v : Value). shows (Number (tested v) ∷ []) []) (eval types e s) m (λ v. refl) q

-- ---- the input, and results

pub reading_takes : (types : Types) (a : Act) (s : State) (m : Made) → reads_input a ≡ true → made types a s ≡ Some m → m.taken ≡ 1
reading_takes types (Begins x i) s m h q = absurd (false≢true h)
reading_takes types (Sets left op right) s m h q = absurd (false≢true h)
reading_takes types (Bumps left up) s m h q = absurd (false≢true h)
reading_takes types (Fetches to) s m h q =
    let k = map_there taking (given types to (Number (next_byte s.unread)) s) m q in ap (λ (x : Made). x.taken) (sym k.same)
reading_takes types (Writes e) s m h q = absurd (false≢true h)
reading_takes types (Prints format args) s m h q = absurd (false≢true h)
reading_takes types (Allocates to n) s m h q = absurd (false≢true h)
reading_takes types (Frees e) s m h q = absurd (false≢true h)
reading_takes types (Returns e) s m h q = absurd (false≢true h)
reading_takes types (Tests e) s m h q = absurd (false≢true h)

assigned_returns : (t : ExprType) (o : Option Place) (v : Option Value) (m : Made) → assigned t o v ≡ Some m → m.returned ≡ None
assigned_returns t None v m q = none_there q
assigned_returns t (Some p) v m q =
    let h = map_there (storing p) (option_and_then (as_type t) v) m q in ap (λ (x : Made). x.returned) (sym h.same)

pub given_returns : (types : Types) (to : Target) (v : Value) (s : State) (m : Made) → given types to v s ≡ Some m → m.returned ≡ None
given_returns types target.None v s m q = ap (λ (x : Made). x.returned) (sym (some_same q))
given_returns types (target.Place e) v s m q = assigned_returns (type_of types e) (writable s (place types e s)) (Some v) m q
given_returns types (target.Declared y) v s m q =
    assigned_returns (types.typing.variable y) (writable s (variable_place y s)) (Some v) m q
