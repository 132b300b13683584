-- Lists with which arrays begin: their items one after another, and 0 or null pointers behind them.
use Rattle.std.proofs.Common.{◌≡◌, ℕ, zero, suc, ◌+◌, ◌-◌, ◌<◌, ◌≤◌, List, [], ◌∷◌, ◌++◌, length, drop, get_or, Bool, true, false, ◌&&◌, Option, Some, None, option_map, refl, sym, ap, ap₂, ◌∙◌, arith, append_assoc, append-nil}
use Rattle.std.proofs.lemmas.Bool.Decides.{nat_tests}
use Rattle.std.specs.Prelude.{set, nat_le, option_and_then}
use Rattle.c_tree.specs.declared.expr.Expr.{Expr}
use Rattle.c_language.specs.declared.expr_type.ExprType.{ExprType}
use Rattle.c_language.proofs.Turns.{drop_turn}
use Rattle.c_meaning.specs.declared.value.Hop.{Hop}
use Rattle.c_meaning.specs.declared.value.Hop.TheVariants as hop
use Rattle.c_meaning.specs.declared.value.Place.{Place}
use Rattle.c_meaning.specs.declared.value.Value.{Value}
use Rattle.c_meaning.specs.Acts.{Store, store, stored, list_stores, zero_of, all_as, all_cells}
use Rattle.c_meaning.specs.Memory.{Memory, is_cell, write}
use Rattle.c_meaning.specs.Values.{Types, State, whole, eval, eval_all, beside, as_type}
use Rattle.c_memory.specs.Lists.{element_of, are_cells, can_store, item_stores}

-- ---- what the items give

module _ (types : Types) (t : ExprType) (s : State) where
  abbrev pub listed : List Expr → Option (List Value)
  listed es = option_and_then (all_as t) (eval_all types es s)

  abbrev given : Expr → Option Value
  given e = option_and_then (as_type t) (eval types e s)

  nothing_beside : (o : Option Value) → None ≡ beside o None
  nothing_beside None = refl
  nothing_beside (Some v) = refl

  listed_by : (o : Option Value) (os : Option (List Value)) → option_and_then (all_as t) (beside o os) ≡ beside (option_and_then (as_type t) o) (option_and_then (all_as t) os)
  listed_by None os = refl
  listed_by (Some v) None = nothing_beside (as_type t v)
  listed_by (Some v) (Some vs) = refl

  -- the values so far, and those of the items to come
  abbrev pub with_listed : List Value → List Expr → Option (List Value)
  with_listed vs es = option_map (λ (ws : List Value). vs ++ ws) (listed es)

  one_listed : (vs : List Value) (v : Value) (os : Option (List Value)) → option_map (λ (ws : List Value). (vs ++ v ∷ []) ++ ws) os ≡ option_map (λ (ws : List Value). vs ++ ws) (beside (Some v) os)
  one_listed vs v None = refl
  one_listed vs v (Some ws) = ap Some (append_assoc vs (v ∷ []) ws)

  pub listed_turn : (vs new : List Value) (es : List Expr) (i : ℕ) (e : Expr) (v : Value) (r : Option Value) (total : Option (List Value)) → i < length es → e ≡ get_or es i e
      → r ≡ given e → r ≡ Some v → new ≡ vs ++ v ∷ [] → with_listed vs (drop i es) ≡ total → with_listed new (drop (i + 1) es) ≡ total
  listed_turn vs new es i e v r total within is gives there pushed before =
      let here = drop_turn es i e within is in
      let front : listed (drop i es) ≡ beside (Some v) (listed (drop (i + 1) es)) =
      ap listed here ∙ listed_by (eval types e s) (eval_all types (drop (i + 1) es) s)
      ∙ ap (λ (o : Option Value). beside o (listed (drop (i + 1) es))) (sym gives ∙ there) in
      ap (λ (ws : List Value). with_listed ws (drop (i + 1) es)) pushed
      ∙ one_listed vs v (listed (drop (i + 1) es))
      ∙ ap (option_map (λ (ws : List Value). vs ++ ws)) (sym front) ∙ before

  pub listed_none : (vs : List Value) (es : List Expr) (i : ℕ) (e : Expr) (r : Option Value) (total : Option (List Value)) → i < length es → e ≡ get_or es i e
      → r ≡ given e → r ≡ None → with_listed vs (drop i es) ≡ total → None ≡ total
  listed_none vs es i e r total within is gives none before =
      let here = drop_turn es i e within is in
      let front : listed (drop i es) ≡ None =
      ap listed here ∙ listed_by (eval types e s) (eval_all types (drop (i + 1) es) s)
      ∙ ap (λ (o : Option Value). beside o (listed (drop (i + 1) es))) (sym gives ∙ none) in
      sym (ap (option_map (λ (ws : List Value). vs ++ ws)) front) ∙ before

  pub listed_end : (vs : List Value) (es : List Expr) (total : Option (List Value)) → with_listed vs [] ≡ total → Some vs ≡ total
  listed_end vs es total before = ap Some (sym (append-nil vs)) ∙ before

-- ---- elements

pub one_hop : (hs : List Hop) (h : Hop) → length hs ≡ 1 → set hs 0 h ≡ h ∷ []
one_hop [] h e = let no : ⊥ = omega (arith, e) in absurd no
one_hop (g ∷ []) h e = refl
one_hop (g ∷ (k ∷ hs)) h e = let no : ⊥ = omega (arith, e) in absurd no

pub gone_to : (p q : Place) (hs : List Hop) (i : ℕ) → length p.path ≡ 1 → hs ≡ set p.path 0 (hop.Element i) → q ≡ record { block = p.block; path = hs } → q ≡ element_of p.block i
gone_to p q hs i single e is = is ∙ ap (λ (gs : List Hop). record { block = p.block; path = gs }) (e ∙ one_hop p.path (hop.Element i) single)

-- ---- whether all are cells

pub cells_of_elements : (m : Memory) (block : ℕ) (t : ExprType) (i n : ℕ) (vs : List Value) → all_cells m (list_stores (whole block) t i n vs) ≡ are_cells m block i n
cells_of_elements m block t i zero vs = refl
cells_of_elements m block t i (suc n) [] = ap (λ (b : Bool). is_cell m (element_of block i) && b) (cells_of_elements m block t (suc i) n [])
cells_of_elements m block t i (suc n) (v ∷ vs) = ap (λ (b : Bool). is_cell m (element_of block i) && b) (cells_of_elements m block t (suc i) n vs)

left_more : (n i : ℕ) → i < n → n - i ≡ suc (n - (i + 1))
left_more n i h = omega (arith, h)

pub element_turn : (m : Memory) (block n i : ℕ) (at : Place) (answer total : Bool) → i < n → at ≡ element_of block i → answer ≡ is_cell m at → answer ≡ true
    → are_cells m block i (n - i) ≡ total → are_cells m block (i + 1) (n - (i + 1)) ≡ total
element_turn m block n i at answer total within is e yes_ before =
    let next : i + 1 ≡ suc i = omega arith in
    let first : is_cell m (element_of block i) ≡ true = ap (is_cell m) (sym is) ∙ sym e ∙ yes_ in
    ap (λ (k : ℕ). are_cells m block k (n - (i + 1))) next
    ∙ ap (λ (b : Bool). b && are_cells m block (suc i) (n - (i + 1))) (sym first)
    ∙ ap (are_cells m block i) (sym (left_more n i within)) ∙ before

pub element_missing : (m : Memory) (block n i : ℕ) (at : Place) (answer total : Bool) → i < n → at ≡ element_of block i → answer ≡ is_cell m at → answer ≡ false
    → are_cells m block i (n - i) ≡ total → false ≡ total
element_missing m block n i at answer total within is e no_ before =
    let first : is_cell m (element_of block i) ≡ false = ap (is_cell m) (sym is) ∙ sym e ∙ no_ in
    ap (λ (b : Bool). b && are_cells m block (suc i) (n - (i + 1))) (sym first)
    ∙ ap (are_cells m block i) (sym (left_more n i within)) ∙ before

pub elements_end : (m : Memory) (block n i : ℕ) (total : Bool) → n ≤ i → are_cells m block i (n - i) ≡ total → true ≡ total
elements_end m block n i total past before =
    let none : n - i ≡ 0 = omega (arith, past) in
    sym (ap (are_cells m block i) none) ∙ before

and_false : (b : Bool) → false ≡ (b && false)
and_false true = refl
and_false false = refl

-- a list that is longer than the array, or whose elements aren't cells, isn't stored
pub too_long : (m : Memory) (block : ℕ) (t : ExprType) (n count : ℕ) (vs : List Value) → count ≡ length vs → n < count → false ≡ can_store m block t n vs
too_long m block t n count vs size more =
    let longer : nat_le (length vs) n ≡ false = grind (arith, nat_tests) in
    ap (λ (b : Bool). b && all_cells m (list_stores (whole block) t 0 n vs)) (sym longer)

pub no_cells : (m : Memory) (block : ℕ) (t : ExprType) (n : ℕ) (vs : List Value) (at : Place) (answer : Bool) → at ≡ element_of block 0 → answer ≡ are_cells m at.block 0 n → answer ≡ false
    → false ≡ can_store m block t n vs
no_cells m block t n vs at answer is e none =
    and_false (nat_le (length vs) n)
    ∙ ap (λ (b : Bool). nat_le (length vs) n && b) (sym none ∙ e ∙ ap (λ (p : Place). are_cells m p.block 0 n) is ∙ sym (cells_of_elements m block t 0 n vs))

pub all_fit : (m : Memory) (block : ℕ) (t : ExprType) (n count : ℕ) (vs : List Value) (at : Place) (answer : Bool) → count ≡ length vs → count ≤ n → at ≡ element_of block 0
    → answer ≡ are_cells m at.block 0 n → answer ≡ true → true ≡ can_store m block t n vs
all_fit m block t n count vs at answer size few is e yes_ =
    let shorter : nat_le (length vs) n ≡ true = grind (arith, nat_tests) in
    ap (λ (b : Bool). true && b) (sym yes_ ∙ e ∙ ap (λ (p : Place). are_cells m p.block 0 n) is ∙ sym (cells_of_elements m block t 0 n vs))
    ∙ ap (λ (b : Bool). b && all_cells m (list_stores (whole block) t 0 n vs)) (sym shorter)

-- whether the elements are cells decides, where the list isn't longer
pub fits : (m : Memory) (block : ℕ) (t : ExprType) (n count : ℕ) (vs : List Value) (at : Place) (answer : Bool) → count ≡ length vs → count ≤ n → at ≡ element_of block 0
    → answer ≡ are_cells m at.block 0 n → answer ≡ can_store m block t n vs
fits m block t n count vs at answer size few is e =
    let shorter : nat_le (length vs) n ≡ true = grind (arith, nat_tests) in
    e ∙ ap (λ (p : Place). are_cells m p.block 0 n) is ∙ sym (cells_of_elements m block t 0 n vs)
    ∙ ap (λ (b : Bool). b && all_cells m (list_stores (whole block) t 0 n vs)) (sym shorter)

-- ---- stores

stored-append : (xs ys : List Store) (m : Memory) → stored (xs ++ ys) m ≡ stored ys (stored xs m)
stored-append [] ys m = refl
stored-append (w ∷ xs) ys m = stored-append xs ys (write w.place w.value m)

-- the items are stored first, and then the rest
split_stores : (block : ℕ) (t : ExprType) (i n : ℕ) (vs : List Value) → length vs ≤ n
    → list_stores (whole block) t i n vs ≡ item_stores block i vs ++ list_stores (whole block) t (i + length vs) (n - length vs) []
split_stores block t i n [] h =
    let a : i ≡ i + 0 = omega arith in let b : n ≡ n - 0 = omega arith in ap₂ (λ (k l : ℕ). list_stores (whole block) t k l []) a b
split_stores block t i zero (v ∷ vs) h = let no : ⊥ = omega (arith, h) in absurd no
split_stores block t i (suc n) (v ∷ vs) h =
    let a : suc i + length vs ≡ i + suc (length vs) = omega arith in
    let b : n - length vs ≡ suc n - suc (length vs) = omega arith in
    ap (λ (ws : List Store). store (element_of block i) v ∷ ws)
    (split_stores block t (suc i) n vs (omega (arith, h)) ∙ ap₂ (λ (k l : ℕ). item_stores block (suc i) vs ++ list_stores (whole block) t k l []) a b)

pub all_stored : (block : ℕ) (t : ExprType) (n count : ℕ) (vs : List Value) (first second third : Memory) → length vs ≤ n → count ≡ length vs
    → second ≡ stored (item_stores block 0 vs) first → third ≡ stored (list_stores (whole block) t count (n - count) []) second
    → third ≡ stored (list_stores (whole block) t 0 n vs) first
all_stored block t n count vs first second third few size items zeros =
    let rest = list_stores (whole block) t count (n - count) [] in
    let a : count ≡ 0 + length vs = omega (arith, size) in
    zeros ∙ ap (stored rest) items ∙ sym (stored-append (item_stores block 0 vs) rest first)
    ∙ ap (λ (ws : List Store). stored ws first)
    (ap₂ (λ (k l : ℕ). item_stores block 0 vs ++ list_stores (whole block) t k (n - l) []) a size ∙ sym (split_stores block t 0 n vs few))

-- one item is stored
pub item_turn : (block i next : ℕ) (v : Value) (vs all : List Value) (at : Place) (old new total : Memory) → all ≡ v ∷ vs → next ≡ i + 1 → at ≡ element_of block i → new ≡ write at v old
    → stored (item_stores block i all) old ≡ total → stored (item_stores block next vs) new ≡ total
item_turn block i next v vs all at old new total is e there gives before =
    let n : next ≡ suc i = omega (arith, e) in
    ap₂ (λ (k : ℕ) (m : Memory). stored (item_stores block k vs) m) n (gives ∙ ap (λ (p : Place). write p v old) there)
    ∙ ap (λ (ws : List Value). stored (item_stores block i ws) old) (sym is) ∙ before

pub items_end : (block i : ℕ) (vs : List Value) (m total : Memory) → length vs ≡ 0 → stored (item_stores block i vs) m ≡ total → m ≡ total
items_end block i [] m total none before = before
items_end block i (v ∷ vs) m total none before = let no : ⊥ = omega (arith, none) in absurd no

-- one 0 or null pointer is stored
pub zero_turn : (block : ℕ) (t : ExprType) (n i : ℕ) (v : Value) (at : Place) (old new total : Memory) → i < n → at ≡ element_of block i → v ≡ zero_of t → new ≡ write at v old
    → stored (list_stores (whole block) t i (n - i) []) old ≡ total → stored (list_stores (whole block) t (i + 1) (n - (i + 1)) []) new ≡ total
zero_turn block t n i v at old new total within there is gives before =
    let next : i + 1 ≡ suc i = omega arith in
    ap₂ (λ (k : ℕ) (m : Memory). stored (list_stores (whole block) t k (n - (i + 1)) []) m) next (gives ∙ ap₂ (λ (p : Place) (x : Value). write p x old) there is)
    ∙ ap (λ (k : ℕ). stored (list_stores (whole block) t i k []) old) (sym (left_more n i within)) ∙ before

pub zeros_end : (block : ℕ) (t : ExprType) (n i : ℕ) (m total : Memory) → n ≤ i → stored (list_stores (whole block) t i (n - i) []) m ≡ total → m ≡ total
zeros_end block t n i m total past before =
    let none : n - i ≡ 0 = omega (arith, past) in
    sym (ap (λ (k : ℕ). stored (list_stores (whole block) t i k []) m) none) ∙ before
