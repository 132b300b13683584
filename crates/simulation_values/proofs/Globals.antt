-- A global begins in a block of its own: it depends on its type and on what it begins with alone, and what it holds leads nowhere.
use Rattle.std.proofs.Common.{◌≡◌, ℕ, zero, suc, List, [], ◌∷◌, length, map, Option, Some, None, Bool, true, false, ◌&&◌, if◌then◌else◌, refl, ap, ap₂, ◌∙◌, eq-eqb}
use Rattle.std.specs.Prelude.{pos, nat_le, option_map, option_and_then, is_some, slice_get}
use Rattle.std.specs.List.{list_all}
use Rattle.std.proofs.lemmas.Bool.{and_parts}
use Rattle.c_tree.specs.declared.expr.Expr.{Expr}
use Rattle.c_tree.specs.declared.program.Init.{Init}
use Rattle.c_tree.specs.declared.program.Init.TheVariants as init
use Rattle.c_language.specs.declared.expr_type.Base.{Base}
use Rattle.c_language.specs.declared.expr_type.ExprType.{ExprType}
use Rattle.c_language.specs.declared.expr_type.Layer.{Layer}
use Rattle.c_language.specs.declared.expr_type.Layer.TheVariants as layer
use Rattle.c_language.specs.ExprTypes.{is_integer as is_integer_type}
use Rattle.c_meaning.specs.declared.value.Hop.{Hop}
use Rattle.c_meaning.specs.declared.value.Hop.TheVariants as hop
use Rattle.c_meaning.specs.declared.value.Value.{Value}
use Rattle.c_meaning.specs.declared.value.Value.TheVariants.{Number, Null}
use Rattle.c_meaning.specs.Acts.{Store, Made, shows, storing, zero_of, begun_with, begun_by, assigned, writable, list_stores, all_as, all_cells, storing_all, listed_in, listed, stored}
use Rattle.c_meaning.specs.Activations.{Executable, zeros, stores_of, initialised, outside, global_opened}
use Rattle.c_meaning.specs.Cells.{Structs, cells, cell_number}
use Rattle.c_meaning.specs.Memory.{Block, Memory, held, cell_in, is_cell, changed, filled, with_cell, with_block, with_new}
use Rattle.c_meaning.specs.Values.{Types, State, whole, variable_place, as_type, eval, beside, eval_all}
use Rattle.c_meaning.proofs.Frames.{get_last}
use Rattle.projection.specs.Renumbering.{renamed, renamed_init}
use Rattle.simulation.specs.Renaming.{World, number, null, AlikeCell, empty, held as both_hold}
use Rattle.typed_programs.specs.FixedValues.{is_fixed, begins_fixed}
use Rattle.simulation_values.proofs.Constants.{IsPlainValue, nothing, a_number, a_null, plain_as, steady}
use Rattle.simulation_steps.proofs.NewBlocks.{changed_last}
use Rattle.simulation_values.proofs.BegunGlobals.{IsPlain, with_block_of}

-- ---- what is written in a new block

-- a path in it, and a value
abbrev pub Write : Type 0
Write = List Hop × Value

abbrev pub writes_of : List Store → List Write
writes_of ws = map (λ (w : Store). (w.place.path, w.value)) ws

abbrev pub block_after : Structs → List Write → Block → Block
block_after structs [] b = b
block_after structs (w ∷ ws) b = block_after structs ws (with_cell structs w.0 w.1 b)

-- all go into the block with a number
abbrev pub Into : ℕ → List Store → Type 0
Into n [] = Unit {0}
Into n (w ∷ ws) = (w.place.block ≡ n) × Into n ws

pub stored_last : (ws : List Store) (b : Block) (m : Memory) → Into (length m.blocks) ws → stored ws (with_new b m) ≡ with_new (block_after m.structs (writes_of ws) b) m
stored_last [] b m h = refl
stored_last (w ∷ ws) b m h =
    let f = with_cell m.structs w.place.path w.value in
    ap (λ n. stored ws (with_block f n (with_new b m))) h.0
    ∙ (ap (λ bs. stored ws (record m { blocks = bs })) (changed_last f m.blocks b)
    ∙ stored_last ws (f b) m h.1)

pub live_after : (structs : Structs) (ws : List Write) (b : Block) → (block_after structs ws b).is_live ≡ b.is_live
live_after structs [] b = refl
live_after structs (w ∷ ws) b = live_after structs ws (with_cell structs w.0 w.1 b)

-- a cell of it is one of the block
cell_there : (m : Memory) (b : Block) (path : List Hop) → is_cell (with_new b m) (record { block = length m.blocks; path = path }) ≡ is_some (cell_in m.structs path b)
cell_there m b path = ap (λ (o : Option Block). is_some (option_and_then (cell_in m.structs path) o)) (get_last m.blocks b)

abbrev are_cells : Structs → Block → List Write → Bool
are_cells structs b ws = list_all (λ (w : Write). is_some (cell_in structs w.0 b)) ws

all_there : (m : Memory) (b : Block) (ws : List Store) → Into (length m.blocks) ws → all_cells (with_new b m) ws ≡ are_cells m.structs b (writes_of ws)
all_there m b [] h = refl
all_there m b (w ∷ ws) h =
    ap₂ (λ (x y : Bool). x && y) (ap (λ n. is_cell (with_new b m) (record { block = n; path = w.place.path })) h.0 ∙ cell_there m b w.place.path) (all_there m b ws h.1)

-- ---- what an initialiser stores

abbrev one_made : Structs → ExprType → ℕ → Option Value → List Store
one_made structs t n v = stores_of (assigned t (if is_some (cell_in structs [] (zeros structs t)) then Some (whole n) else None) v)

abbrev items_made : Structs → Block → ExprType → (count n : ℕ) → Option (List Value) → List Store
items_made structs b t count n None = []
items_made structs b t count n (Some vs) =
    if nat_le (length vs) count && are_cells structs b (writes_of (list_stores (whole n) t 0 count vs)) then list_stores (whole n) t 0 count vs else []

abbrev listed_made : Structs → Block → List Layer → Base → ℕ → List Value → List Store
listed_made structs z [] b n vs = []
listed_made structs z (layer.Pointer ∷ ls) b n vs = []
listed_made structs z (layer.Array c ∷ ls) b n vs =
    let t : ExprType = record { layers = ls; base = b } in items_made structs z t c n (all_as t vs)

abbrev list_made : Structs → ExprType → ℕ → Option (List Value) → List Store
list_made structs t n None = []
list_made structs t n (Some vs) = listed_made structs (zeros structs t) t.layers t.base n vs

abbrev pub init_made : Structs → ExprType → ℕ → Types → State → Init → List Store
init_made structs t n types s init.None = []
init_made structs t n types s (init.One e) = one_made structs t n (eval types e s)
init_made structs t n types s (init.Items es) = list_made structs t n (eval_all types es s)

-- ---- into one block

list_into : (t : ExprType) (n i count : ℕ) (vs : List Value) → Into n (list_stores (whole n) t i count vs)
list_into t n i zero vs = tt
list_into t n i (suc c) [] = (refl, list_into t n (suc i) c [])
list_into t n i (suc c) (v ∷ vs) = (refl, list_into t n (suc i) c vs)

one_into : (t : ExprType) (n : ℕ) (live : Bool) (v : Option Value) → Into n (stores_of (assigned t (if live then Some (whole n) else None) v))
one_into t n false v = tt
one_into t n true v = by_value (option_and_then (as_type t) v)
  where
    by_value : (o : Option Value) → Into n (stores_of (option_map (storing (whole n)) o))
    by_value None = tt
    by_value (Some u) = (refl, tt)

items_into : (structs : Structs) (b : Block) (t : ExprType) (c n : ℕ) (o : Option (List Value)) → Into n (items_made structs b t c n o)
items_into structs b t c n None = tt
items_into structs b t c n (Some vs) = by_test (nat_le (length vs) c && are_cells structs b (writes_of (list_stores (whole n) t 0 c vs)))
  where
    by_test : (x : Bool) → Into n (if x then list_stores (whole n) t 0 c vs else [])
    by_test true = list_into t n 0 c vs
    by_test false = tt

listed_into : (structs : Structs) (z : Block) (ls : List Layer) (b : Base) (n : ℕ) (vs : List Value) → Into n (listed_made structs z ls b n vs)
listed_into structs z [] b n vs = tt
listed_into structs z (layer.Pointer ∷ ls) b n vs = tt
listed_into structs z (layer.Array c ∷ ls) b n vs =
    let t : ExprType = record { layers = ls; base = b } in items_into structs z t c n (all_as t vs)

pub made_into : (structs : Structs) (t : ExprType) (n : ℕ) (types : Types) (s : State) (i : Init) → Into n (init_made structs t n types s i)
made_into structs t n types s init.None = tt
made_into structs t n types s (init.One e) = one_into t n (is_some (cell_in structs [] (zeros structs t))) (eval types e s)
made_into structs t n types s (init.Items es) = by_values (eval_all types es s)
  where
    by_values : (o : Option (List Value)) → Into n (list_made structs t n o)
    by_values None = tt
    by_values (Some vs) = listed_into structs (zeros structs t) t.layers t.base n vs

-- ---- a global is begun with it

module _ (p : Executable) (x : ℕ) (s : State) where
  abbrev t : ExprType
  t = p.typing.variable x

  abbrev n : ℕ
  n = length s.memory.blocks

  abbrev opened : State
  opened = global_opened p x s

  abbrev block : Block
  block = zeros s.memory.structs t

  named_there : variable_place x opened ≡ Some (whole n)
  named_there = ap (λ (b : Bool). option_map whole (if b then Some n else s.frame x)) (eq-eqb x x refl)

  one_is : (v : Option Value) → stores_of (begun_by (outside p) x v opened) ≡ one_made s.memory.structs t n v
  one_is v =
      ap (λ o. stores_of (assigned t (writable opened o) v)) named_there
      ∙ ap (λ (b : Bool). stores_of (assigned t (if b then Some (whole n) else None) v)) (cell_there s.memory block [])

  abbrev shown_all : ExprType → ℕ → List Value → Made
  shown_all u c ws = record (shows ws []) { stores = list_stores (whole n) u 0 c ws }

  items_are : (u : ExprType) (c : ℕ) (o : Option (List Value)) → stores_of (option_and_then (λ (ws : List Value). storing_all opened.memory c ws (list_stores (whole n) u 0 c ws)) o) ≡ items_made s.memory.structs block u c n o
  items_are u c None = refl
  items_are u c (Some ws) =
      ap (λ (b : Bool). stores_of (if nat_le (length ws) c && b then Some (shown_all u c ws) else None)) (all_there s.memory block (list_stores (whole n) u 0 c ws) (list_into u n 0 c ws))
      ∙ by_test (nat_le (length ws) c && are_cells s.memory.structs block (writes_of (list_stores (whole n) u 0 c ws)))
    where
      by_test : (b : Bool) → stores_of (if b then Some (shown_all u c ws) else None) ≡ (if b then list_stores (whole n) u 0 c ws else [])
      by_test true = refl
      by_test false = refl

  listed_are : (ls : List Layer) (b : Base) (vs : List Value) → stores_of (listed_in ls b opened.memory vs (whole n)) ≡ listed_made s.memory.structs block ls b n vs
  listed_are [] b vs = refl
  listed_are (layer.Pointer ∷ ls) b vs = refl
  listed_are (layer.Array c ∷ ls) b vs = let u : ExprType = record { layers = ls; base = b } in items_are u c (all_as u vs)

  list_is : (o : Option (List Value)) → stores_of (listed t opened (variable_place x opened) o) ≡ list_made s.memory.structs t n o
  list_is None = refl
  list_is (Some vs) = ap (λ q. stores_of (option_and_then (listed_in t.layers t.base opened.memory vs) q)) named_there ∙ listed_are t.layers t.base vs

  made_is : (i : Init) → stores_of (begun_with (outside p) x i opened) ≡ init_made s.memory.structs t n (outside p) opened i
  made_is init.None = refl
  made_is (init.One e) = one_is (eval (outside p) e opened)
  made_is (init.Items es) = list_is (eval_all (outside p) es opened)

  -- the block in which it begins
  abbrev pub begun_block : Init → Block
  begun_block i = block_after s.memory.structs (writes_of (init_made s.memory.structs t n (outside p) opened i)) block

  pub begun_is : (i : Init) → initialised (begun_with (outside p) x i opened) opened ≡ with_block_of x (begun_block i) s
  begun_is i =
      ap (λ ws. record opened { memory = stored ws opened.memory }) (made_is i)
      ∙ ap (λ (m : Memory). record opened { memory = m }) (stored_last (init_made s.memory.structs t n (outside p) opened i) block s.memory (made_into s.memory.structs t n (outside p) opened i))

  pub block_live : (i : Init) → (begun_block i).is_live ≡ true
  block_live i = live_after s.memory.structs (writes_of (init_made s.memory.structs t n (outside p) opened i)) block

-- ---- what the block holds leads nowhere

abbrev AllPlain : List Value → Type 0
AllPlain [] = Unit {0}
AllPlain (v ∷ vs) = IsPlainValue (Some v) × AllPlain vs

abbrev pub ArePlain : List Write → Type 0
ArePlain [] = Unit {0}
ArePlain (w ∷ ws) = IsPlainValue (Some w.1) × ArePlain ws

abbrev MaybePlain : Option (List Value) → Type 0
MaybePlain None = Unit {0}
MaybePlain (Some vs) = AllPlain vs

plain_zero : (b : Bool) → IsPlainValue (Some (if b then Number (pos 0) else Null))
plain_zero true = a_number
plain_zero false = a_null

list_plain : (t : ExprType) (n i count : ℕ) (vs : List Value) → AllPlain vs → ArePlain (writes_of (list_stores (whole n) t i count vs))
list_plain t n i zero vs h = tt
list_plain t n i (suc c) [] h = (plain_zero (is_integer_type t), list_plain t n (suc i) c [] h)
list_plain t n i (suc c) (v ∷ vs) h = (h.0, list_plain t n (suc i) c vs h.1)

one_plain : (t : ExprType) (n : ℕ) (live : Bool) (v : Option Value) → IsPlainValue v → ArePlain (writes_of (stores_of (assigned t (if live then Some (whole n) else None) v)))
one_plain t n false v h = tt
one_plain t n true v h = by_value (option_and_then (as_type t) v) (plain_as t v h)
  where
    by_value : (o : Option Value) → IsPlainValue o → ArePlain (writes_of (stores_of (option_map (storing (whole n)) o)))
    by_value None g = tt
    by_value (Some u) g = (g, tt)

beside_plain : (o : Option Value) (r : Option (List Value)) → IsPlainValue o → MaybePlain r → MaybePlain (beside o r)
beside_plain None r h g = tt
beside_plain (Some v) None h g = tt
beside_plain (Some v) (Some vs) h g = (h, g)

all_as_plain : (t : ExprType) (vs : List Value) → AllPlain vs → MaybePlain (all_as t vs)
all_as_plain t [] h = tt
all_as_plain t (v ∷ vs) h = beside_plain (as_type t v) (all_as t vs) (plain_as t (Some v) h.0) (all_as_plain t vs h.1)

items_plain : (structs : Structs) (z : Block) (t : ExprType) (c n : ℕ) (o : Option (List Value)) → MaybePlain o → ArePlain (writes_of (items_made structs z t c n o))
items_plain structs z t c n None h = tt
items_plain structs z t c n (Some vs) h = by_test (nat_le (length vs) c && are_cells structs z (writes_of (list_stores (whole n) t 0 c vs)))
  where
    by_test : (x : Bool) → ArePlain (writes_of (if x then list_stores (whole n) t 0 c vs else []))
    by_test true = list_plain t n 0 c vs h
    by_test false = tt

listed_plain : (structs : Structs) (z : Block) (ls : List Layer) (b : Base) (n : ℕ) (vs : List Value) → AllPlain vs → ArePlain (writes_of (listed_made structs z ls b n vs))
listed_plain structs z [] b n vs h = tt
listed_plain structs z (layer.Pointer ∷ ls) b n vs h = tt
listed_plain structs z (layer.Array c ∷ ls) b n vs h =
    let t : ExprType = record { layers = ls; base = b } in items_plain structs z t c n (all_as t vs) (all_as_plain t vs h)

list_made_plain : (structs : Structs) (t : ExprType) (n : ℕ) (o : Option (List Value)) → MaybePlain o → ArePlain (writes_of (list_made structs t n o))
list_made_plain structs t n None h = tt
list_made_plain structs t n (Some vs) h = listed_plain structs (zeros structs t) t.layers t.base n vs h

-- ---- which block it is doesn't matter

list_same : (t : ExprType) (m n i count : ℕ) (vs : List Value) → writes_of (list_stores (whole m) t i count vs) ≡ writes_of (list_stores (whole n) t i count vs)
list_same t m n i zero vs = refl
list_same t m n i (suc c) [] = ap (λ ws. (hop.Element i ∷ [], zero_of t) ∷ ws) (list_same t m n (suc i) c [])
list_same t m n i (suc c) (v ∷ vs) = ap (λ ws. (hop.Element i ∷ [], v) ∷ ws) (list_same t m n (suc i) c vs)

one_same : (t : ExprType) (m n : ℕ) (live : Bool) (v : Option Value) → writes_of (stores_of (assigned t (if live then Some (whole m) else None) v)) ≡ writes_of (stores_of (assigned t (if live then Some (whole n) else None) v))
one_same t m n false v = refl
one_same t m n true v = by_value (option_and_then (as_type t) v)
  where
    by_value : (o : Option Value) → writes_of (stores_of (option_map (storing (whole m)) o)) ≡ writes_of (stores_of (option_map (storing (whole n)) o))
    by_value None = refl
    by_value (Some u) = refl

items_same : (structs : Structs) (z : Block) (t : ExprType) (c m n : ℕ) (o : Option (List Value)) → writes_of (items_made structs z t c m o) ≡ writes_of (items_made structs z t c n o)
items_same structs z t c m n None = refl
items_same structs z t c m n (Some vs) =
    let one = list_stores (whole m) t 0 c vs in
    let two = list_stores (whole n) t 0 c vs in
    ap (λ ws. writes_of (if nat_le (length vs) c && are_cells structs z ws then one else [])) (list_same t m n 0 c vs)
    ∙ by_test (nat_le (length vs) c && are_cells structs z (writes_of two))
  where
    by_test : (x : Bool) → writes_of (if x then list_stores (whole m) t 0 c vs else []) ≡ writes_of (if x then list_stores (whole n) t 0 c vs else [])
    by_test true = list_same t m n 0 c vs
    by_test false = refl

listed_same : (structs : Structs) (z : Block) (ls : List Layer) (b : Base) (m n : ℕ) (vs : List Value) → writes_of (listed_made structs z ls b m vs) ≡ writes_of (listed_made structs z ls b n vs)
listed_same structs z [] b m n vs = refl
listed_same structs z (layer.Pointer ∷ ls) b m n vs = refl
listed_same structs z (layer.Array c ∷ ls) b m n vs = let t : ExprType = record { layers = ls; base = b } in items_same structs z t c m n (all_as t vs)

list_made_same : (structs : Structs) (t : ExprType) (m n : ℕ) (o : Option (List Value)) → writes_of (list_made structs t m o) ≡ writes_of (list_made structs t n o)
list_made_same structs t m n None = refl
list_made_same structs t m n (Some vs) = listed_same structs (zeros structs t) t.layers t.base m n vs

-- ---- nor in which program

module _ (types there : Types) (f : ℕ → ℕ) (s t : State) where
  values_plain : (es : List Expr) → list_all is_fixed es ≡ true → MaybePlain (eval_all types es s)
  values_plain [] h = tt
  values_plain (e ∷ es) h =
      let k = and_parts (is_fixed e) (list_all is_fixed es) h in
      beside_plain (eval types e s) (eval_all types es s) (steady types there f s t e k.0).plain (values_plain es k.1)

  values_same : (es : List Expr) → list_all is_fixed es ≡ true → eval_all there (map (renamed f) es) t ≡ eval_all types es s
  values_same [] h = refl
  values_same (e ∷ es) h =
      let k = and_parts (is_fixed e) (list_all is_fixed es) h in ap₂ beside (steady types there f s t e k.0).value_is (values_same es k.1)

  pub made_plain : (structs : Structs) (u : ExprType) (n : ℕ) (i : Init) → begins_fixed i ≡ true → ArePlain (writes_of (init_made structs u n types s i))
  made_plain structs u n init.None h = tt
  made_plain structs u n (init.One e) h = one_plain u n (is_some (cell_in structs [] (zeros structs u))) (eval types e s) (steady types there f s t e h).plain
  made_plain structs u n (init.Items es) h = list_made_plain structs u n (eval_all types es s) (values_plain es h)

  pub made_same : (structs : Structs) (u : ExprType) (m n : ℕ) (i : Init) → begins_fixed i ≡ true → writes_of (init_made structs u m there t (renamed_init f i)) ≡ writes_of (init_made structs u n types s i)
  made_same structs u m n init.None h = refl
  made_same structs u m n (init.One e) h =
      ap (λ v. writes_of (one_made structs u m v)) (steady types there f s t e h).value_is ∙ one_same u m n (is_some (cell_in structs [] (zeros structs u))) (eval types e s)
  made_same structs u m n (init.Items es) h =
      ap (λ vs. writes_of (list_made structs u m vs)) (values_same es h) ∙ list_made_same structs u m n (eval_all types es s)

-- ---- cells

-- a number or a null pointer, or nothing
abbrev IsPlainCell : Option Value → Type 0
IsPlainCell o = (w : World) → AlikeCell w o o

plain_cell : (o : Option Value) → IsPlainValue o → IsPlainCell o
plain_cell o nothing w = empty
plain_cell o a_number w = both_hold number
plain_cell o a_null w = both_hold null

plain_zeros : (ts : List ExprType) (n : ℕ) → IsPlainCell (option_and_then held (slice_get (map (λ (t : ExprType). Some (zero_of t)) ts) n))
plain_zeros [] n w = empty
plain_zeros (t ∷ ts) zero w = plain_cell (Some (zero_of t)) (plain_zero (is_integer_type t)) w
plain_zeros (t ∷ ts) (suc n) w = plain_zeros ts n w

plain_changed : (v : Value) → IsPlainCell (Some v) → (os : List (Option Value)) → ((n : ℕ) → IsPlainCell (option_and_then held (slice_get os n))) → (i n : ℕ) → IsPlainCell (option_and_then held (slice_get (changed (λ (o : Option Value). Some v) i os) n))
plain_changed v h [] all i n = all n
plain_changed v h (o ∷ os) all zero zero = h
plain_changed v h (o ∷ os) all zero (suc n) = all (suc n)
plain_changed v h (o ∷ os) all (suc i) zero = all zero
plain_changed v h (o ∷ os) all (suc i) (suc n) = plain_changed v h os (λ m. all (suc m)) i n

plain_filled : (v : Value) → IsPlainCell (Some v) → (os : List (Option Value)) → ((n : ℕ) → IsPlainCell (option_and_then held (slice_get os n))) → (o : Option ℕ) (n : ℕ) → IsPlainCell (option_and_then held (slice_get (filled v o os) n))
plain_filled v h os all None n = all n
plain_filled v h os all (Some i) n = plain_changed v h os all i n

plain_after : (structs : Structs) (ws : List Write) (b : Block) → ArePlain ws → ((n : ℕ) → IsPlainCell (option_and_then held (slice_get b.cells n))) → (n : ℕ) → IsPlainCell (option_and_then held (slice_get (block_after structs ws b).cells n))
plain_after structs [] b h all n = all n
plain_after structs (w ∷ ws) b h all n =
    plain_after structs ws (with_cell structs w.0 w.1 b) h.1 (λ i. plain_filled w.1 (plain_cell (Some w.1) h.0) b.cells all (cell_number structs w.0 b.shape) i) n

plain_cells : (structs : Structs) (b : Block) → ((n : ℕ) → IsPlainCell (option_and_then held (slice_get b.cells n))) → IsPlain structs b
plain_cells structs b all w path = by_number (cell_number structs path b.shape)
  where
    by_number : (o : Option ℕ) → AlikeCell w (option_and_then held (option_and_then (slice_get b.cells) o)) (option_and_then held (option_and_then (slice_get b.cells) o))
    by_number None = empty
    by_number (Some n) = all n w

-- a block of zeros and null pointers, with such values written in it
pub block_plain : (structs : Structs) (t : ExprType) (ws : List Write) → ArePlain ws → IsPlain structs (block_after structs ws (zeros structs t))
block_plain structs t ws h =
    plain_cells structs (block_after structs ws (zeros structs t)) (plain_after structs ws (zeros structs t) h (λ n. plain_zeros (cells structs t) n))
