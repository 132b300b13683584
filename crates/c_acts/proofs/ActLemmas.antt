-- What acts make, by the calls of the code.
use Rattle.std.proofs.Common.{◌≡◌, ℕ, List, [], ◌∷◌, map, Bool, true, false, Option, Some, None, option_map, refl, sym, ap, ap₂, ◌∙◌, subst}
use Rattle.std.specs.Prelude.{ℤ, Result, IfOk, option_and_then, if◌then◌else◌}
use Rattle.c_arith.specs.declared.operators.BinaryOp.{BinaryOp}
use Rattle.c_tree.specs.declared.expr.Expr.{Expr}
use Rattle.c_tree.specs.declared.program.Init.{Init}
use Rattle.c_tree.specs.declared.program.Init.TheVariants as init
use Rattle.c_tree.specs.declared.program.Program.{Program}
use Rattle.c_tree.specs.declared.statement.Amount.{Amount}
use Rattle.c_tree.specs.declared.statement.Amount.TheVariants as amount
use Rattle.c_tree.specs.declared.statement.Statement.{Statement, out-Statement}
use Rattle.c_tree.specs.declared.statement.Statement.TheOpen.{Statement-F}
use Rattle.c_tree.specs.declared.statement.Arm.{Arm}
use Rattle.c_tree.specs.declared.statement.Target.{Target}
use Rattle.c_tree.specs.declared.statement.Target.TheVariants as target
use Rattle.c_tree.specs.declared.types.CType.{CType}
use Rattle.c_language.specs.Code.{Act, Sets, Fetches, Prints, Allocates}
use Rattle.c_language.specs.Words.{Bytes}
use Rattle.c_language.specs.ExprTypes.{target_of}
use Rattle.c_language.specs.TreeTypes.{typing_of, shape_of}
use Rattle.c_language.specs.declared.expr_type.Base.{Base}
use Rattle.c_language.specs.declared.expr_type.Layer.{Layer}
use Rattle.c_language.specs.declared.expr_type.Layer.TheVariants as layer
use Rattle.c_language.specs.declared.expr_type.ExprType.{ExprType}
use Rattle.c_meaning.specs.declared.event.Shown.{Shown}
use Rattle.c_meaning.specs.declared.event.Shown.TheVariants as shown
use Rattle.c_meaning.specs.declared.value.Place.{Place}
use Rattle.c_meaning.specs.declared.value.Value.{Value}
use Rattle.c_meaning.specs.declared.value.Value.TheVariants.{Number}
use Rattle.c_meaning.specs.Acts.{Made, made, shows, storing, given, set_by, begun_with, right_of, assigned, if_cell, listed_in, list_stores, all_as, storing_all, granted, printed_all, target_type, asked_count, taking, begun_for, allocated_by, as_result, next_block, next_byte}
use Rattle.c_meaning.specs.Formats.{pieces_of, converted, written}
use Rattle.c_meaning.specs.Memory.{Memory, is_cell}
use Rattle.c_meaning.specs.Values.{State, whole, as_type, tested, eval, eval_all, beside, shown_of}
use Rattle.c_memory.specs.GlobalStates.{array_in}
use Rattle.c_memory.specs.Lists.{can_store}
use Rattle.c_memory.specs.Scenes.{types_of}
use Rattle.c_acts.specs.declared.makings.Change.{Change}
use Rattle.c_acts.specs.declared.makings.Made.{Made as Making}
use Rattle.c_acts.specs.declared.makings.Stores.TheVariants as stores
use Rattle.c_acts.specs.Formats.{shown_numbers}
use Rattle.c_acts.specs.Makings.{own_act, Seen, seen, made_in, made_from, made_by, stores_in, begun_in, types_for, list_shown, list_made}

-- ---- what was made, by its parts

abbrev parts_seen : List Shown → Bytes → Change → Seen
parts_seen vs out c = record {
  values = vs;
  stores = stores_in c.stores;
  output = out;
  taken = if c.takes then 1 else 0;
  begun = begun_in c.begun;
  freed = c.freed;
  returned = c.returned;
}

pub made_with : (mk : Making) (vs : List Shown) (out : Bytes) (c : Change) → mk.values ≡ vs → mk.output.items ≡ out → mk.change ≡ c → made_in mk ≡ parts_seen vs out c
made_with mk vs out c ve oe ce =
    ap (λ (ws : List Shown). parts_seen ws mk.output.items mk.change) ve
    ∙ ap (λ (o : Bytes). parts_seen vs o mk.change) oe
    ∙ ap (λ (d : Change). parts_seen vs out d) ce

abbrev pub no_change : Change
no_change = record { stores = stores.None; takes = false; begun = None; freed = None; returned = None }

-- one value is shown, and nothing is changed
pub made_shown : (mk : Making) (s : Shown) (v : Value) (out : Bytes) (c : Change) → mk.values ≡ s ∷ [] → s ≡ shown_of v → mk.output.items ≡ out → mk.change ≡ c → c ≡ no_change → made_in mk ≡ seen (shows (v ∷ []) out)
made_shown mk s v out c ve se oe ce none =
    made_with mk (shown_of v ∷ []) out no_change (ve ∙ ap (λ (t : Shown). t ∷ []) se) oe (ce ∙ none)

-- ---- a call answers what another term makes

abbrev pub Makes : {E : Type 0} → Result (Option Making) E → Option Made → Type 0
Makes r q = IfOk r (λ o. option_map made_in o ≡ option_map seen q)

pub made_as : {E : Type 0} (r : Result (Option Making) E) (a b : Option Made) → a ≡ b → Makes r a → Makes r b
made_as r a b e h = subst (λ (q : Option Made). Makes r q) e h

-- ---- stores

pub writable_so : (m : Memory) (o : Option Place) (q : Place) (b : Bool) → o ≡ Some q → b ≡ is_cell m q → b ≡ true → Some q ≡ option_and_then (if_cell m) o
writable_so m o q b oe be yes_ =
    sym (ap (option_and_then (if_cell m)) oe ∙ ap (λ (c : Bool). if c then Some q else None) (sym be ∙ yes_))

pub writable_not : (m : Memory) (o : Option Place) (q : Place) (b : Bool) → o ≡ Some q → b ≡ is_cell m q → b ≡ false → None ≡ option_and_then (if_cell m) o
writable_not m o q b oe be no_ =
    sym (ap (option_and_then (if_cell m)) oe ∙ ap (λ (c : Bool). if c then Some q else None) (sym be ∙ no_))

pub assigned_so : (t : ExprType) (o : Option Place) (g : Option Value) (q : Place) (v : Value) → o ≡ Some q → option_and_then (as_type t) g ≡ Some v → assigned t o g ≡ Some (storing q v)
assigned_so t o g q v oe ve =
    ap (λ (p : Option Place). assigned t p g) oe ∙ ap (option_map (storing q)) ve

pub assigned_not : (t : ExprType) (o : Option Place) (g : Option Value) (q : Place) → o ≡ Some q → option_and_then (as_type t) g ≡ None → assigned t o g ≡ None
assigned_not t o g q oe ve =
    ap (λ (p : Option Place). assigned t p g) oe ∙ ap (option_map (storing q)) ve

pub made_stored : (mk : Making) (s : Shown) (q : Place) (v : Value) (c : Change) → mk.values ≡ s ∷ [] → s ≡ shown_of v → mk.output.items ≡ [] → mk.change ≡ c
    → c ≡ record { stores = stores.One q v; takes = false; begun = None; freed = None; returned = None } → made_in mk ≡ seen (storing q v)
made_stored mk s q v c ve se oe ce is =
    made_with mk (shown_of v ∷ []) [] (record { stores = stores.One q v; takes = false; begun = None; freed = None; returned = None }) (ve ∙ ap (λ (t : Shown). t ∷ []) se) oe (ce ∙ is)

-- ---- lists

pub listed_array : (ls : List Layer) (b : Base) (n : ℕ) (t : ExprType) (o : Option ℕ) (q : Place) (m : Memory) (vs : Option (List Value)) → array_in ls b ≡ Some (n, t) → option_map whole o ≡ Some q
    → option_and_then (λ (ws : List Value). option_and_then (listed_in ls b m ws) (option_map whole o)) vs ≡ option_and_then (list_made m q.block n t) vs
listed_array [] b n t o q m vs e at_ = cc
listed_array (layer.Pointer ∷ ls) b n t o q m vs e at_ = cc
listed_array (layer.Array k ∷ ls) b n t None q m vs e at_ = cc
listed_array (layer.Array k ∷ ls) b n t (Some c) q m vs e at_ =
    let el : ExprType = record { layers = ls; base = b } in
    let pair : ◌≡◌ {A = ℕ × ExprType} (k, el) (n, t) = cc in
    let here : ◌≡◌ {A = Place} (whole c) q = cc in
    ap (λ (z : ℕ × ExprType). option_and_then (list_made m c z.0 z.1) vs) pair ∙ ap (λ (p : Place). option_and_then (list_made m p.block n t) vs) here

pub listed_nowhere : (ls : List Layer) (b : Base) (o : Option Place) (m : Memory) (vs : Option (List Value)) → o ≡ None → option_and_then (λ (ws : List Value). option_and_then (listed_in ls b m ws) o) vs ≡ None
listed_nowhere ls b o m None e = refl
listed_nowhere ls b o m (Some ws) e = ap (option_and_then (listed_in ls b m ws)) e

pub listed_no_array : (ls : List Layer) (b : Base) (o : Option Place) (m : Memory) (vs : Option (List Value)) → array_in ls b ≡ None → option_and_then (λ (ws : List Value). option_and_then (listed_in ls b m ws) o) vs ≡ None
listed_no_array ls b o m None e = refl
listed_no_array [] b None m (Some ws) e = refl
listed_no_array [] b (Some q) m (Some ws) e = refl
listed_no_array (layer.Pointer ∷ ls) b None m (Some ws) e = refl
listed_no_array (layer.Pointer ∷ ls) b (Some q) m (Some ws) e = refl
listed_no_array (layer.Array k ∷ ls) b o m (Some ws) e = cc

module _ (m : Memory) (block n : ℕ) (t : ExprType) where
  abbrev put : List Value → Option Made
  put ws = storing_all m n ws (list_stores (whole block) t 0 n ws)

  list_then : (q : Option (List Value)) → option_and_then (list_made m block n t) q ≡ option_and_then put (option_and_then (all_as t) q)
  list_then None = refl
  list_then (Some vs) = refl

  pub list_so : (q : Option (List Value)) (ws : List Value) (b : Bool) → Some ws ≡ option_and_then (all_as t) q → b ≡ can_store m block t n ws → b ≡ true
      → option_and_then (list_made m block n t) q ≡ Some (list_shown block n t ws)
  list_so q ws b e be yes_ =
      list_then q
      ∙ ap (option_and_then put) (sym e)
      ∙ ap (λ (c : Bool). if c then Some (list_shown block n t ws) else None) (sym be ∙ yes_)

  pub list_not : (q : Option (List Value)) (ws : List Value) (b : Bool) → Some ws ≡ option_and_then (all_as t) q → b ≡ can_store m block t n ws → b ≡ false
      → option_and_then (list_made m block n t) q ≡ None
  list_not q ws b e be no_ =
      list_then q
      ∙ ap (option_and_then put) (sym e)
      ∙ ap (λ (c : Bool). if c then Some (list_shown block n t ws) else None) (sym be ∙ no_)

  pub list_none : (q : Option (List Value)) → None ≡ option_and_then (all_as t) q → option_and_then (list_made m block n t) q ≡ None
  list_none q e = list_then q ∙ ap (option_and_then put) (sym e)

-- ---- calls of the library

pub made_taking : (mk new : Making) (q : Option Made) → Some (made_in mk) ≡ option_map seen q → made_in new ≡ record (made_in mk) { taken = 1 } → Some (made_in new) ≡ option_map seen (option_map taking q)
made_taking mk new None e n = cc
made_taking mk new (Some x) e n =
    let f : made_in mk ≡ seen x = cc in
    ap Some (n ∙ ap (λ (s : Seen). record s { taken = 1 }) f)

pub none_taking : (q : Option Made) → None ≡ option_map seen q → None ≡ option_map seen (option_map taking q)
none_taking None e = refl
none_taking (Some x) e = cc

pub made_beginning : (mk new : Making) (q : Option Made) (t : ExprType) (n : ℕ) → Some (made_in mk) ≡ option_map seen q → made_in new ≡ record (made_in mk) { begun = Some (record { shape = t; count = n }) }
    → Some (made_in new) ≡ option_map seen (begun_for q t n)
made_beginning mk new None t n e is = cc
made_beginning mk new (Some x) t n e is =
    let f : made_in mk ≡ seen x = cc in
    ap Some (is ∙ ap (λ (s : Seen). record s { begun = Some (record { shape = t; count = n }) }) f)

pub none_beginning : (q : Option Made) (t : ExprType) (n : ℕ) → None ≡ option_map seen q → None ≡ option_map seen (begun_for q t n)
none_beginning None t n e = refl
none_beginning (Some x) t n e = cc

-- the block that malloc begins, by the type and the count
pub allocated_so : (to : Option ExprType) (z : Option ℤ) (q : Option Made) (t : ExprType) (n : ℕ) → Some t ≡ option_and_then target_of to → Some n ≡ option_and_then granted z → allocated_by to z q ≡ begun_for q t n
allocated_so to z q t n te ne =
    ap (option_and_then (λ (o : ExprType). option_and_then (begun_for q o) (option_and_then granted z))) (sym te)
    ∙ ap (option_and_then (begun_for q t)) (sym ne)

pub allocated_no_type : (to : Option ExprType) (z : Option ℤ) (q : Option Made) → None ≡ option_and_then target_of to → allocated_by to z q ≡ None
allocated_no_type to z q te = ap (option_and_then (λ (o : ExprType). option_and_then (begun_for q o) (option_and_then granted z))) (sym te)

pub allocated_no_count : (to : Option ExprType) (z : Option ℤ) (q : Option Made) (t : ExprType) → Some t ≡ option_and_then target_of to → None ≡ option_and_then granted z → allocated_by to z q ≡ None
allocated_no_count to z q t te ne =
    ap (option_and_then (λ (o : ExprType). option_and_then (begun_for q o) (option_and_then granted z))) (sym te)
    ∙ ap (option_and_then (begun_for q t)) (sym ne)

shown_printed : (zs : List ℤ) → shown_numbers zs ≡ map shown_of (map Number zs)
shown_printed [] = refl
shown_printed (z ∷ zs) = ap (λ (ss : List Shown). shown.Number z ∷ ss) (shown_printed zs)

pub made_printed : (mk : Making) (format : Bytes) (vs : List Value) (c : Change) → mk.values ≡ shown_numbers (converted (pieces_of format) (map tested vs)) → mk.output.items ≡ written (pieces_of format) (converted (pieces_of format) (map tested vs))
    → mk.change ≡ c → c ≡ no_change → made_in mk ≡ seen (printed_all format vs)
made_printed mk format vs c ve oe ce is =
    made_with mk (map shown_of (map Number (converted (pieces_of format) (map tested vs)))) (written (pieces_of format) (converted (pieces_of format) (map tested vs))) no_change
    (ve ∙ shown_printed (converted (pieces_of format) (map tested vs))) oe (ce ∙ is)

-- ---- types: that of a function's result matters to its returns alone

-- what several expressions give
pub values_typed : (p : Program) (t : Option ExprType) (es : List Expr) (s : State) → eval_all (types_of p) es s ≡ eval_all (record { typing = typing_of p; result = t }) es s
values_typed p t [] s = refl
values_typed p t (e ∷ es) s = ap (beside (eval (types_of p) e s)) (values_typed p t es s)

-- what a target makes of a value
pub given_typed : (p : Program) (t : Option ExprType) (to : Target) (v : Value) (s : State) → given (types_of p) to v s ≡ given (record { typing = typing_of p; result = t }) to v s
given_typed p t target.None v s = refl
given_typed p t (target.Place e) v s = refl
given_typed p t (target.Declared x) v s = refl

module _ (p : Program) (r : Option CType) where
  pub begun_typed : (x : ℕ) (i : Init) (s : State) → begun_with (types_of p) x i s ≡ begun_with (types_for p r) x i s
  begun_typed x init.None s = refl
  begun_typed x (init.One e) s = refl
  begun_typed x (init.Items es) s =
      ap (option_and_then (λ (ws : List Value). option_and_then (listed_in ((types_of p).typing.variable x).layers ((types_of p).typing.variable x).base s.memory ws) (option_map whole (s.frame x)))) (values_typed p (option_map shape_of r) es s)

  right_typed : (op : Option BinaryOp) (a b : Expr) (s : State) → right_of (types_of p) op a b s ≡ right_of (types_for p r) op a b s
  right_typed None a b s = refl
  right_typed (Some op) a b s = refl

  pub set_typed : (a : Expr) (op : Option BinaryOp) (b : Expr) (s : State) → made (types_of p) (Sets a op b) s ≡ made (types_for p r) (Sets a op b) s
  set_typed a op b s = ap (λ (v : Option Value). set_by (types_of p) a v s) (right_typed op a b s)

  pub fetched_typed : (to : Target) (u : List ℕ) (s : State) → made_from (types_of p) u (Fetches to) s ≡ made_from (types_for p r) u (Fetches to) s
  fetched_typed to u s = ap (option_map taking) (given_typed p (option_map shape_of r) to (Number (next_byte u)) s)

  pub printed_typed : (format : Bytes) (es : List Expr) (s : State) → made (types_of p) (Prints format es) s ≡ made (types_for p r) (Prints format es) s
  printed_typed format es s = ap (option_map (printed_all format)) (values_typed p (option_map shape_of r) es s)

  target_typed : (to : Target) → target_type (types_of p) to ≡ target_type (types_for p r) to
  target_typed target.None = refl
  target_typed (target.Place e) = refl
  target_typed (target.Declared x) = refl

  count_typed : (n : Amount) (s : State) → asked_count (types_of p) n s ≡ asked_count (types_for p r) n s
  count_typed (amount.Size t) s = refl
  count_typed (amount.CountSize e t) s = refl
  count_typed (amount.SizeCount t e) s = refl
  count_typed (amount.Count e) s = refl

  pub allocated_typed : (to : Target) (n : Amount) (s : State) → made (types_of p) (Allocates to n) s ≡ made (types_for p r) (Allocates to n) s
  allocated_typed to n s =
      ap (λ (t : Option ExprType). allocated_by t (asked_count (types_of p) n s) (given (types_of p) to (next_block s) s)) (target_typed to)
      ∙ ap₂ (allocated_by (target_type (types_for p r) to)) (count_typed n s) (given_typed p (option_map shape_of r) to (next_block s) s)

  -- what the act of a statement makes, by its form
  pub by_form : (x : Statement) (z : Statement-F Statement Arm) (u : List ℕ) (s : State) (a : Act) (q : Option Made) → out-Statement x ≡ z → own_act z ≡ Some a → q ≡ made_from (types_for p r) u a s
      → q ≡ made_by (types_for p r) u s (own_act (out-Statement x))
  by_form x z u s a q e is h =
      h ∙ sym (ap (λ (w : Statement-F Statement Arm). made_by (types_for p r) u s (own_act w)) e ∙ ap (made_by (types_for p r) u s) is)

  pub by_no_act : (x : Statement) (z : Statement-F Statement Arm) (u : List ℕ) (s : State) → out-Statement x ≡ z → own_act z ≡ None → made_by (types_for p r) u s (own_act (out-Statement x)) ≡ None
  by_no_act x z u s e is =
      ap (λ (w : Statement-F Statement Arm). made_by (types_for p r) u s (own_act w)) e ∙ ap (made_by (types_for p r) u s) is

-- ---- returns

result_same : (v : Option Value) → v ≡ option_and_then (as_result None) v
result_same None = refl
result_same (Some w) = refl

pub result_void : (t : Option ExprType) (v : Option Value) → t ≡ None → v ≡ option_and_then (as_result t) v
result_void t v e = result_same v ∙ ap (λ (u : Option ExprType). option_and_then (as_result u) v) (sym e)
