-- Acts: what one makes of a state, and the state after it.
use Rattle.std.specs.Prelude.{ℕ, zero, suc, nat_le, ℤ, pos, negsuc, List, [], ◌∷◌, ◌++◌, length, drop, map, Bool, true, false, ◌&&◌, if◌then◌else◌, Option, Some, None, option_map, option_and_then, unsigned_abs}
use Rattle.std.specs.List.{list_all}
use Rattle.std.specs.Option.{option_or}
use Rattle.c_arith.specs.declared.int_type.IntType.TheVariants.{Int, UChar}
use Rattle.c_arith.specs.declared.operators.BinaryOp.{BinaryOp}
use Rattle.c_arith.specs.declared.operators.BinaryOp.TheVariants.{Add, Sub}
use Rattle.c_arith.specs.IntType.{convert}
use Rattle.c_tree.specs.declared.expr.Expr.{Expr}
use Rattle.c_tree.specs.declared.program.Init.{Init}
use Rattle.c_tree.specs.declared.program.Init.TheVariants as init
use Rattle.c_tree.specs.declared.statement.Amount.{Amount}
use Rattle.c_tree.specs.declared.statement.Amount.TheVariants as amount
use Rattle.c_tree.specs.declared.statement.Target.{Target}
use Rattle.c_tree.specs.declared.statement.Target.TheVariants as target
use Rattle.c_language.specs.declared.expr_type.Base.{Base}
use Rattle.c_language.specs.declared.expr_type.Layer.{Layer}
use Rattle.c_language.specs.declared.expr_type.Layer.TheVariants as layer
use Rattle.c_language.specs.declared.expr_type.ExprType.{ExprType}
use Rattle.c_language.specs.DeclaredTypes.{integer}
use Rattle.c_language.specs.ExprTypes.{is_integer, target_of}
use Rattle.c_language.specs.Words.{Bytes}
use Rattle.c_language.specs.Code.{Act, Begins, Sets, Bumps, Fetches, Writes, Prints, Allocates, Frees, Returns, Tests}
use Rattle.c_language.specs.Formats.{Piece}
use Rattle.c_meaning.specs.declared.value.Hop.TheVariants as hop
use Rattle.c_meaning.specs.declared.value.Place.{Place}
use Rattle.c_meaning.specs.declared.value.Value.{Value}
use Rattle.c_meaning.specs.declared.value.Value.TheVariants.{Number, Null, To}
use Rattle.c_meaning.specs.Memory.{Memory, is_cell, write, allocate, can_free}
use Rattle.c_meaning.specs.Pointers.{inside, start}
use Rattle.c_meaning.specs.Values.{Types, Origin, OfStatement, State, whole, variable_place, leave_block, tested, as_type, number_in, binary_value, type_of, place, eval, beside, eval_all}
use Rattle.c_meaning.specs.Formats.{pieces_of, converted, written}

-- a value that is stored, and where
pub record Store : Type 0 where
  pub place : Place
  pub value : Value

-- the block that malloc begins: so many objects of a type
pub record Request : Type 0 where
  pub shape : ExprType
  pub count : ℕ

-- what an act makes: the values that its event shows, what it stores, what it puts out, how many bytes it takes from the input,
-- the block that it begins, the block that it frees, and what it returns
pub record Made : Type 0 where
  pub values : List Value
  pub stores : List Store
  pub output : Bytes
  pub taken : ℕ
  pub begun : Option Request
  pub freed : Option ℕ
  pub returned : Option Value

abbrev pub shows : List Value → Bytes → Made
shows values output = record {
  values = values;
  stores = [];
  output = output;
  taken = 0;
  begun = None;
  freed = None;
  returned = None;
}

abbrev pub store : Place → Value → Store
store p v = record { place = p; value = v }

-- a value, stored at a place
abbrev pub storing : Place → Value → Made
storing p v = record (shows (v ∷ []) []) { stores = store p v ∷ [] }

-- ---- assignments

abbrev pub if_cell : Memory → Place → Option Place
if_cell m p = if is_cell m p then Some p else None

-- the place that a left side designates, where it can be written
abbrev pub writable : State → Option Place → Option Place
writable s o = option_and_then (if_cell s.memory) o

-- an assignment: the value, converted to the type of the left side, goes to its place (ISO C99 6.5.16.1)
abbrev pub assigned : ExprType → Option Place → Option Value → Option Made
assigned t o v = option_and_then (λ (p : Place). option_map (storing p) (option_and_then (as_type t) v)) o

abbrev pub set_by : Types → Expr → Option Value → State → Option Made
set_by types left v s = assigned (type_of types left) (writable s (place types left s)) v

abbrev pub begun_by : Types → ℕ → Option Value → State → Option Made
begun_by types x v s = assigned (types.typing.variable x) (writable s (variable_place x s)) v

-- what is assigned: the right side, or what the operator gives at both (6.5.16.2)
abbrev pub right_of : Types → Option BinaryOp → Expr → Expr → State → Option Value
right_of types None left right s = eval types right s
right_of types (Some op) left right s =
    binary_value op (type_of types left) (type_of types right) s.memory (eval types left s) (eval types right s)

-- `++` adds 1, and `--` takes it away (6.5.2.4, 6.5.3.1)
abbrev pub bump : Bool → BinaryOp
bump true = Add
bump false = Sub

abbrev pub bumped : Types → Expr → Bool → State → Option Value
bumped types left up s =
    binary_value (bump up) (type_of types left) (integer Int) s.memory (eval types left s) (Some (Number (pos 1)))

-- ---- declarations

-- what an object without a value of its own begins with, where it doesn't begin unwritten: 0 or a null pointer (6.7.8, paragraph 10)
abbrev pub zero_of : ExprType → Value
zero_of t = if is_integer t then Number (pos 0) else Null

-- the items of a list as stored from an index on, and behind them 0 or null up to the length (6.7.8, paragraph 21)
abbrev pub list_stores : Place → ExprType → (index left : ℕ) → List Value → List Store
list_stores p t i zero vs = []
list_stores p t i (suc n) [] = store (inside (hop.Element i) p) (zero_of t) ∷ list_stores p t (suc i) n []
list_stores p t i (suc n) (v ∷ vs) = store (inside (hop.Element i) p) v ∷ list_stores p t (suc i) n vs

abbrev pub all_as : ExprType → List Value → Option (List Value)
all_as t [] = Some []
all_as t (v ∷ vs) = beside (as_type t v) (all_as t vs)

abbrev pub all_cells : Memory → List Store → Bool
all_cells m = list_all (λ (w : Store). is_cell m w.place)

-- a list that is stored in an array: all items are evaluated before (6.7.8, paragraph 23, leaves the order open), and the event shows
-- the listed ones
abbrev pub storing_all : Memory → ℕ → List Value → List Store → Option Made
storing_all m n vs ws = if nat_le (length vs) n && all_cells m ws then Some (record (shows vs []) { stores = ws }) else None

abbrev pub listed_in : List Layer → Base → Memory → List Value → Place → Option Made
listed_in [] b m vs p = None
listed_in (layer.Pointer ∷ ls) b m vs p = None
listed_in (layer.Array n ∷ ls) b m vs p =
    let t : ExprType = record { layers = ls; base = b } in
    option_and_then (λ (ws : List Value). storing_all m n ws (list_stores p t 0 n ws)) (all_as t vs)

abbrev pub listed : ExprType → State → Option Place → Option (List Value) → Option Made
listed t s o vs = option_and_then (λ (ws : List Value). option_and_then (listed_in t.layers t.base s.memory ws) o) vs

-- a declaration without an initialiser is no act
abbrev pub begun_with : Types → ℕ → Init → State → Option Made
begun_with types x init.None s = None
begun_with types x (init.One e) s = begun_by types x (eval types e s) s
begun_with types x (init.Items es) s = listed (types.typing.variable x) s (variable_place x s) (eval_all types es s)

-- ---- calls of the library

-- a value for the target of a call; without one it is only shown
abbrev pub given : Types → Target → Value → State → Option Made
given types target.None v s = Some (shows (v ∷ []) [])
given types (target.Place e) v s = set_by types e (Some v) s
given types (target.Declared x) v s = begun_by types x (Some v) s

-- the next byte of the input, and -1 behind the last (7.19.7.6)
abbrev pub next_byte : List ℕ → ℤ
next_byte [] = negsuc 0
next_byte (b ∷ bs) = pos b

abbrev pub taking : Made → Made
taking x = record x { taken = 1 }

abbrev pub put_out : ℤ → Made
put_out z = shows (Number z ∷ []) (unsigned_abs z ∷ [])

abbrev pub printed : List Piece → List ℤ → Made
printed ps zs = shows (map Number zs) (written ps zs)

abbrev pub printed_all : Bytes → List Value → Made
printed_all format vs = printed (pieces_of format) (converted (pieces_of format) (map tested vs))

-- how many objects malloc is asked for: the value of the count itself, without a conversion
abbrev pub asked_count : Types → Amount → State → Option ℤ
asked_count types (amount.Size t) s = Some (pos 1)
asked_count types (amount.CountSize e t) s = option_and_then number_in (eval types e s)
asked_count types (amount.SizeCount t e) s = option_and_then number_in (eval types e s)
asked_count types (amount.Count e) s = option_and_then number_in (eval types e s)

-- malloc gives from 1 to 1,048,576 objects, and asking for another count is undefined
abbrev pub granted : ℤ → Option ℕ
granted (pos n) = if nat_le 1 n && nat_le n 1048576 then Some n else None
granted (negsuc n) = None

abbrev pub target_type : Types → Target → Option ExprType
target_type types target.None = None
target_type types (target.Place e) = Some (type_of types e)
target_type types (target.Declared x) = Some (types.typing.variable x)

abbrev pub beginning : ExprType → ℕ → Made → Made
beginning t n x = record x { begun = Some (record { shape = t; count = n }) }

-- the pointer to the first object of the block that begins next
abbrev pub next_block : State → Value
next_block s = start (whole (length s.memory.blocks))

abbrev pub begun_for : Option Made → ExprType → ℕ → Option Made
begun_for x t n = option_map (beginning t n) x

-- so many objects of what a target of this type points to, with what the store of the pointer to the first makes (7.20.3.3)
abbrev pub allocated_by : Option ExprType → Option ℤ → Option Made → Option Made
allocated_by t count x =
    option_and_then (λ (o : ExprType). option_and_then (begun_for x o) (option_and_then granted count)) (option_and_then target_of t)

-- free does nothing at a null pointer, and ends a live block that malloc made at its start (7.20.3.2)
abbrev pub freed_at : Memory → Value → Option Made
freed_at m (Number z) = None
freed_at m Null = Some (shows (Null ∷ []) [])
freed_at m (To p) = if can_free m p then Some (record (shows (To p ∷ []) []) { freed = Some p.block }) else None

-- ---- acts

abbrev pub as_result : Option ExprType → Value → Option Value
as_result None v = Some v
as_result (Some t) v = as_type t v

abbrev pub returning : Value → Made
returning v = record (shows (v ∷ []) []) { returned = Some v }

-- a return shows its value as one of the result's type
abbrev pub shown_result : Types → Option Expr → State → Option Made
shown_result types None s = Some (shows [] [])
shown_result types (Some e) s = option_map returning (option_and_then (as_result types.result) (eval types e s))

-- what an act makes, or None where it is undefined
abbrev pub made : Types → Act → State → Option Made
made types (Begins x i) s = begun_with types x i s
made types (Sets left op right) s = set_by types left (right_of types op left right s) s
made types (Bumps left up) s = set_by types left (bumped types left up s) s
made types (Fetches to) s = option_map taking (given types to (Number (next_byte s.unread)) s)
made types (Writes e) s = option_map (λ (v : Value). put_out (convert (tested v) UChar)) (eval types e s)
made types (Prints format args) s = option_map (printed_all format) (eval_all types args s)
made types (Allocates to n) s = allocated_by (target_type types to) (asked_count types n s) (given types to (next_block s) s)
made types (Frees e) s = option_and_then (freed_at s.memory) (eval types e s)
made types (Returns e) s = shown_result types e s
made types (Tests e) s = option_map (λ (v : Value). shows (Number (tested v) ∷ []) []) (eval types e s)

-- ---- the state after an act

abbrev pub stored : List Store → Memory → Memory
stored [] m = m
stored (w ∷ ws) m = stored ws (write w.place w.value m)

abbrev pub with_begun : Option Request → Memory → Memory
with_begun None m = m
with_begun (Some r) m = allocate r.shape r.count m

abbrev pub origins_after : ℕ → Option Request → List Origin → List Origin
origins_after i None os = os
origins_after i (Some r) os = os ++ OfStatement i ∷ []

-- the state after an act of a statement that made this
abbrev pub after : ℕ → Made → State → State
after i x s = record s {
  returned = option_or x.returned s.returned;
  memory = stored x.stores (leave_block x.freed (with_begun x.begun s.memory));
  origins = origins_after i x.begun s.origins;
  unread = drop x.taken s.unread;
}

abbrev pub first_number : List Value → ℤ
first_number [] = pos 0
first_number (v ∷ vs) = tested v

-- the value of a test
abbrev pub picked : Made → ℤ
picked x = first_number x.values
