-- Globals begin one after another, each with what its initialiser stores.
use Rattle.std.proofs.Common.{◌≡◌, ℕ, zero, suc, ◌+◌, ◌<◌, ◌≤◌, List, [], ◌∷◌, ◌++◌, length, take, get_or, set, Bool, true, false, Option, Some, None, option_map, refl, sym, ap, ap₂, ◌∙◌, subst, arith}
use Rattle.std.proofs.lemmas.Bool.Decides.{nat_tests}
use Rattle.std.proofs.lemmas.List.{take_more, take_all}
use mathlib.Core.Path.{fun_ext}
use Rattle.c_language.proofs.Options.{none_there, some_same}
use Rattle.std.specs.Prelude.{◌==◌, if◌then◌else◌, option_and_then, Result, Ok, Err, OnOk}
use Rattle.std.specs.Global.{Vec}
use Rattle.c_tree.specs.declared.expr.Expr.{Expr}
use Rattle.c_tree.specs.declared.program.Init.{Init}
use Rattle.c_tree.specs.declared.program.Init.TheVariants as init
use Rattle.c_tree.specs.declared.program.Item.{Item}
use Rattle.c_tree.specs.declared.program.Item.TheVariants as item
use Rattle.c_tree.specs.declared.program.Program.{Program}
use Rattle.c_language.specs.declared.expr_type.Base.{Base}
use Rattle.c_language.specs.declared.expr_type.Layer.{Layer}
use Rattle.c_language.specs.declared.expr_type.Layer.TheVariants.{Pointer, Array}
use Rattle.c_language.specs.declared.expr_type.ExprType.{ExprType}
use Rattle.c_language.specs.TreeTypes.{type_of_variable}
use Rattle.c_meaning.specs.declared.value.Place.{Place}
use Rattle.c_meaning.specs.declared.value.Value.{Value}
use Rattle.c_meaning.specs.Acts.{Store, Made, store, storing, stored, assigned, writable, listed, list_stores, all_as, begun_with}
use Rattle.c_meaning.specs.Activations.{Global as Variable, Executable, executable, globals_in, global_begun, global_opened, all_begun, stores_of, zeros}
use Rattle.c_meaning.specs.Memory.{Memory, is_cell, write, with_new}
use Rattle.c_meaning.specs.Values.{State, whole, variable_place, bound, eval, eval_all, beside, as_type}
use Rattle.c_memory.specs.Scenes.{types_of, frame_of, scene}
use Rattle.c_memory.specs.GlobalStates.{IsAt, begun, whole_stores, value_stores, list_stores_of, elements_made, element_stores, array_in}
use Rattle.c_memory.specs.Lists.{can_store}
use Rattle.c_memory.proofs.SceneLaws.{decided}

-- ---- one after another

pub begun-append : (p : Executable) (gs hs : List Variable) (s : State) → all_begun p (gs ++ hs) s ≡ all_begun p hs (all_begun p gs s)
begun-append p [] hs s = refl
begun-append p (g ∷ gs) hs s = begun-append p gs hs (global_begun p g s)

globals-append : (xs ys : List Item) → globals_in (xs ++ ys) ≡ globals_in xs ++ globals_in ys
globals-append [] ys = refl
globals-append (item.Include is_stdlib ∷ rest) ys = globals-append rest ys
globals-append (item.Tag s ∷ rest) ys = globals-append rest ys
globals-append (item.Struct s ∷ rest) ys = globals-append rest ys
globals-append (item.Global x i ∷ rest) ys = ap (λ (gs : List Variable). record { variable = x; init = i } ∷ gs) (globals-append rest ys)
globals-append (item.Prototype f names is_static ∷ rest) ys = globals-append rest ys
globals-append (item.Define f ∷ rest) ys = globals-append rest ys

-- the state once the globals of one item more have begun
pub item_more : (p : Executable) (xs : List Item) (i : ℕ) (x : Item) (s : State) → i < length xs → x ≡ get_or xs i x
    → all_begun p (globals_in (x ∷ [])) (all_begun p (globals_in (take i xs)) s) ≡ all_begun p (globals_in (take (i + 1) xs)) s
item_more p xs i x s within is =
    sym (begun-append p (globals_in (take i xs)) (globals_in (x ∷ [])) s)
    ∙ ap (λ (gs : List Variable). all_begun p gs s)
    (sym (globals-append (take i xs) (x ∷ []))
    ∙ ap globals_in (sym (take_more xs i x within ∙ ap (λ (z : Item). take i xs ++ z ∷ []) (sym is))))

-- ---- blocks of variables

same_number : (x : ℕ) → (x == x) ≡ true
same_number x = grind (arith, nat_tests)

bound_here : (frame : ℕ → Option ℕ) (x : ℕ) (b : Option ℕ) → bound frame x b x ≡ b
bound_here frame x b = ap (λ (is : Bool). if is then b else frame x) (same_number x)

-- a global has the block that began last
placed : (p : Executable) (x : ℕ) (s : State) → variable_place x (global_opened p x s) ≡ Some (whole (length s.memory.blocks))
placed p x s = ap (option_map whole) (bound_here s.frame x (Some (length s.memory.blocks)))

-- ---- stores

pub written_whole : (m new : Memory) (block : ℕ) (v : Value) (at : Place) (answer : Bool) → at ≡ whole block → answer ≡ is_cell m at → new ≡ write at v m → (answer ≡ false → new ≡ m)
    → new ≡ stored (whole_stores m block (Some v)) m
written_whole m new block v at answer is e gives kept = by answer e
  where
    by : (b : Bool) → b ≡ is_cell m at → new ≡ stored (whole_stores m block (Some v)) m
    by true c =
        gives ∙ ap (λ (p : Place). write p v m) is
        ∙ ap (λ (t : Bool). stored (if t then store (whole block) v ∷ [] else []) m) (c ∙ ap (is_cell m) is)
    by false c =
        kept (e ∙ sym c) ∙ ap (λ (t : Bool). stored (if t then store (whole block) v ∷ [] else []) m) (c ∙ ap (is_cell m) is)

-- what is stored in a whole block is what an assignment to it makes
assigned_whole : (m : Memory) (block : ℕ) (is : Bool) (o : Option Value) → is ≡ is_cell m (whole block)
    → whole_stores m block o ≡ stores_of (option_and_then (λ (p : Place). option_map (storing p) o) (if is then Some (whole block) else None))
assigned_whole m block true None e = refl
assigned_whole m block false None e = refl
assigned_whole m block true (Some v) e = ap (λ (t : Bool). if t then store (whole block) v ∷ [] else []) (sym e)
assigned_whole m block false (Some v) e = ap (λ (t : Bool). if t then store (whole block) v ∷ [] else []) (sym e)

pub value_stored : (p : Program) (t : ExprType) (block : ℕ) (e : Expr) (s : State) → whole_stores s.memory block (option_and_then (as_type t) (eval (types_of p) e s)) ≡ value_stores p t block e s
value_stored p t block e s =
    let o = option_and_then (as_type t) (eval (types_of p) e s) in
    assigned_whole s.memory block (is_cell s.memory (whole block)) o refl

-- in a table of blocks and a memory, an expression gives what it gives in the state
pub seen_value : (p : Program) (e : Expr) (m : Memory) (frame : Vec (Option ℕ)) (s : State) → IsAt m frame s → eval (types_of p) e (scene frame.items m) ≡ eval (types_of p) e s
seen_value p e m frame s h = (decided (types_of p) e (scene frame.items m) s h.frame h.memory).value

seen_values : (p : Program) (es : List Expr) (m : Memory) (frame : Vec (Option ℕ)) (s : State) → IsAt m frame s → eval_all (types_of p) es (scene frame.items m) ≡ eval_all (types_of p) es s
seen_values p [] m frame s h = refl
seen_values p (e ∷ es) m frame s h = ap₂ beside (seen_value p e m frame s h) (seen_values p es m frame s h)

-- ---- lists

all_given : (n : ℕ) (t : ExprType) (block : ℕ) (m : Memory) (o : Option (List Value))
    → option_and_then (elements_made m n t block) (option_and_then (all_as t) o)
    ≡ option_and_then (λ (vs : List Value). option_and_then (elements_made m n t block) (all_as t vs)) o
all_given n t block m None = refl
all_given n t block m (Some vs) = refl

no_array : (o : Option (List Value)) (made : List Value → Option Made) → ((vs : List Value) → made vs ≡ None) → option_and_then made o ≡ None
no_array None made none = refl
no_array (Some vs) made none = none vs

some_pair : {A B : Type 0} {a c : A} {b d : B} → ◌≡◌ {A = Option (A × B)} (Some (a, b)) (Some (c, d)) → (a ≡ c) × (b ≡ d)
some_pair e = let p : ◌≡◌ {A = _ × _} (_, _) (_, _) = some_same e in (ap (λ x. x.0) p, ap (λ x. x.1) p)

-- what a list stores in an array is what it stores in its elements
pub elements_stored : (p : Program) (ls : List Layer) (b : Base) (n : ℕ) (u : ExprType) (block : ℕ) (es : List Expr) (s : State) → array_in ls b ≡ Some (n, u)
    → element_stores p n u block es s ≡ list_stores_of p (record { layers = ls; base = b }) block es s
elements_stored p [] b n u block es s e = none_there e
elements_stored p (Pointer ∷ ls) b n u block es s e = none_there e
elements_stored p (Array k ∷ ls) b n u block es s e =
    let same = some_pair e in
    let t : ExprType = record { layers = ls; base = b } in
    ap₂ (λ (i : ℕ) (v : ExprType). element_stores p i v block es s) (sym same.0) (sym same.1)
    ∙ ap stores_of (all_given k t block s.memory (eval_all (types_of p) es s))

pub nothing_stored : (p : Program) (ls : List Layer) (b : Base) (block : ℕ) (es : List Expr) (s : State) → array_in ls b ≡ None
    → [] ≡ list_stores_of p (record { layers = ls; base = b }) block es s
nothing_stored p [] b block es s e = sym (ap stores_of (no_array (eval_all (types_of p) es s) _ (λ vs. refl)))
nothing_stored p (Pointer ∷ ls) b block es s e = sym (ap stores_of (no_array (eval_all (types_of p) es s) _ (λ vs. refl)))
nothing_stored p (Array k ∷ ls) b block es s e = none_there (sym e)

made_by : (is : Bool) (x : Made) → stores_of (if is then Some x else None) ≡ (if is then x.stores else [])
made_by true x = refl
made_by false x = refl

stored_by : (is : Bool) (ws : List Store) (m : Memory) → (if is then stored ws m else m) ≡ stored (if is then ws else []) m
stored_by true ws m = refl
stored_by false ws m = refl

-- a list is stored, or it doesn't fit
pub list_stored : (p : Program) (n : ℕ) (t : ExprType) (block : ℕ) (es : List Expr) (m new : Memory) (frame : Vec (Option ℕ)) (s : State) (o : Option (List Value)) (vs : List Value) (answer : Bool)
    → IsAt m frame s → o ≡ option_and_then (all_as t) (eval_all (types_of p) es (scene frame.items m)) → o ≡ Some vs → answer ≡ can_store m block t n vs
    → new ≡ (if answer then stored (list_stores (whole block) t 0 n vs) m else m) → new ≡ stored (element_stores p n t block es s) m
list_stored p n t block es m new frame s o vs answer h e there fits gives =
    let given : option_and_then (all_as t) (eval_all (types_of p) es s) ≡ Some vs = ap (option_and_then (all_as t)) (sym (seen_values p es m frame s h)) ∙ sym e ∙ there in
    let ws = list_stores (whole block) t 0 n vs in
    gives ∙ ap (λ (is : Bool). if is then stored ws m else m) fits ∙ stored_by (can_store m block t n vs) ws m
    ∙ ap (λ (xs : List Store). stored xs m)
    (sym (ap (λ (x : Option (List Value)). stores_of (option_and_then (elements_made s.memory n t block) x)) given
    ∙ ap (λ (k : Memory). stores_of (elements_made k n t block vs)) (sym h.memory)
    ∙ made_by (can_store m block t n vs) _))

pub no_list_stored : (p : Program) (n : ℕ) (t : ExprType) (block : ℕ) (es : List Expr) (m : Memory) (frame : Vec (Option ℕ)) (s : State) (o : Option (List Value))
    → IsAt m frame s → o ≡ option_and_then (all_as t) (eval_all (types_of p) es (scene frame.items m)) → o ≡ None → m ≡ stored (element_stores p n t block es s) m
no_list_stored p n t block es m frame s o h e none =
    let given : option_and_then (all_as t) (eval_all (types_of p) es s) ≡ None = ap (option_and_then (all_as t)) (sym (seen_values p es m frame s h)) ∙ sym e ∙ none in
    ap (λ (xs : List Store). stored xs m) (sym (ap (λ (x : Option (List Value)). stores_of (option_and_then (elements_made s.memory n t block) x)) given))

-- ---- a global

-- its block has begun
pub opened_at : (p : Program) (x n : ℕ) (t : ExprType) (m new : Memory) (frame bound_frame : Vec (Option ℕ)) (s : State) → IsAt m frame s → t ≡ type_of_variable p x
    → n ≡ length m.blocks → new ≡ with_new (zeros m.structs t) m → frame_of bound_frame.items ≡ bound (frame_of frame.items) x (Some n)
    → IsAt new bound_frame (global_opened (executable p) x s)
opened_at p x n t m new frame bound_frame s h type number gives binds = record {
  memory = gives ∙ ap₂ (λ (k : Memory) (u : ExprType). with_new (zeros k.structs u) k) h.memory type;
  frame = binds ∙ ap₂ (λ (f : ℕ → Option ℕ) (k : ℕ). bound f x (Some k)) h.frame (number ∙ ap (λ (k : Memory). length k.blocks) h.memory);
}

pub begun_none : (p : Program) (x : ℕ) (i : Init) (m : Memory) (frame : Vec (Option ℕ)) (s : State) → i ≡ init.None → IsAt m frame (global_opened (executable p) x s)
    → IsAt m frame (begun p x i s)
begun_none p x i m frame s is h = subst (λ (j : Init). IsAt m frame (begun p x j s)) (sym is) (record { memory = h.memory; frame = h.frame })

pub begun_one : (p : Program) (x n : ℕ) (t : ExprType) (i : Init) (e seen : Expr) (m new : Memory) (frame after : Vec (Option ℕ)) (s : State) → i ≡ init.One e → seen ≡ e
    → IsAt m frame (global_opened (executable p) x s) → t ≡ type_of_variable p x → n ≡ length s.memory.blocks
    → new ≡ stored (value_stores p t n seen (global_opened (executable p) x s)) m → after ≡ frame → IsAt new after (begun p x i s)
begun_one p x n t i e seen m new frame after s is same h type number gives kept =
    let opened = global_opened (executable p) x s in
    let stores : value_stores p t n seen opened ≡ stores_of (begun_with (types_of p) x (init.One e) opened) =
    ap (λ (a : Expr). value_stores p t n a opened) same
    ∙ ap₂ (λ (u : ExprType) (k : ℕ). value_stores p u k e opened) type number
    ∙ ap (λ (o : Option Place). stores_of (assigned (type_of_variable p x) (writable opened o) (eval (types_of p) e opened))) (sym (placed (executable p) x s)) in
    subst (λ (j : Init). IsAt new after (begun p x j s)) (sym is) (record {
      memory = gives ∙ ap₂ stored stores h.memory;
      frame = ap (λ (f : Vec (Option ℕ)). frame_of f.items) kept ∙ h.frame;
    })

pub begun_items : (p : Program) (x n : ℕ) (t : ExprType) (i : Init) (es seen : List Expr) (m new : Memory) (frame after : Vec (Option ℕ)) (s : State) → i ≡ init.Items es → seen ≡ es
    → IsAt m frame (global_opened (executable p) x s) → t ≡ type_of_variable p x → n ≡ length s.memory.blocks
    → new ≡ stored (list_stores_of p t n seen (global_opened (executable p) x s)) m → after ≡ frame → IsAt new after (begun p x i s)
begun_items p x n t i es seen m new frame after s is same h type number gives kept =
    let opened = global_opened (executable p) x s in
    let stores : list_stores_of p t n seen opened ≡ stores_of (begun_with (types_of p) x (init.Items es) opened) =
    ap (λ (a : List Expr). list_stores_of p t n a opened) same
    ∙ ap₂ (λ (u : ExprType) (k : ℕ). list_stores_of p u k es opened) type number
    ∙ ap (λ (o : Option Place). stores_of (listed (type_of_variable p x) opened o (eval_all (types_of p) es opened))) (sym (placed (executable p) x s)) in
    subst (λ (j : Init). IsAt new after (begun p x j s)) (sym is) (record {
      memory = gives ∙ ap₂ stored stores h.memory;
      frame = ap (λ (f : Vec (Option ℕ)). frame_of f.items) kept ∙ h.frame;
    })

-- ---- tables of blocks

-- an entry of nothing says nothing
pub frame_push : (os : List (Option ℕ)) → frame_of (os ++ None ∷ []) ≡ frame_of os
frame_push os = fun_ext (λ y. pushed os y)
  where
    pushed : (ps : List (Option ℕ)) (y : ℕ) → frame_of (ps ++ None ∷ []) y ≡ frame_of ps y
    pushed [] zero = refl
    pushed [] (suc y) = refl
    pushed (o ∷ ps) zero = refl
    pushed (o ∷ ps) (suc y) = pushed ps y

pub frame_set : (os : List (Option ℕ)) (x b : ℕ) → x < length os → frame_of (set os x (Some b)) ≡ bound (frame_of os) x (Some b)
frame_set os x b within = fun_ext (λ y. changed os x y within)
  where
    changed : (ps : List (Option ℕ)) (k y : ℕ) → k < length ps → frame_of (set ps k (Some b)) y ≡ bound (frame_of ps) k (Some b) y
    changed [] k y h = let no : ⊥ = omega (arith, h) in absurd no
    changed (o ∷ ps) zero zero h = refl
    changed (o ∷ ps) zero (suc y) h =
        let other : (0 == suc y) ≡ false = grind (arith, nat_tests) in
        ap (λ (is : Bool). if is then Some b else frame_of (o ∷ ps) (suc y)) (sym other)
    changed (o ∷ ps) (suc k) zero h =
        let other : (suc k == 0) ≡ false = grind (arith, nat_tests) in
        ap (λ (is : Bool). if is then Some b else frame_of (o ∷ ps) 0) (sym other)
    changed (o ∷ ps) (suc k) (suc y) h =
        let same : (k == y) ≡ (suc k == suc y) = grind (arith, nat_tests) in
        changed ps k y (omega (arith, h)) ∙ ap (λ (is : Bool). if is then Some b else frame_of ps y) same

-- ---- turns of the code

pub on_ok : {A E : Type 0} (r : Result A E) {P Q : Type 0} → (P → Q) → OnOk r P → OnOk r Q
on_ok (Ok x) f h = f h
on_ok (Err e) f h = h

pub value_turn : (p q : Program) (e : Expr) (t : ExprType) (block : ℕ) (m k new : Memory) (table : Vec (Option ℕ)) (os : List (Option ℕ)) (s : State) (given r : Option Value) → IsAt m table s
    → q ≡ p → os ≡ table.items → k ≡ m → given ≡ eval (types_of q) e (scene os k) → r ≡ option_and_then (as_type t) given
    → new ≡ stored (whole_stores m block r) m → new ≡ stored (value_stores p t block e s) m
value_turn p q e t block m k new table os s given r h one two three gives converts writes =
    let seen : given ≡ eval (types_of p) e s =
    gives ∙ ap (λ (x : Program). eval (types_of x) e (scene os k)) one ∙ ap₂ (λ (xs : List (Option ℕ)) (l : Memory). eval (types_of p) e (scene xs l)) two three
    ∙ seen_value p e m table s h in
    writes ∙ ap (λ (ws : List Store). stored ws m)
    (ap (whole_stores m block) (converts ∙ ap (option_and_then (as_type t)) seen)
    ∙ ap (λ (l : Memory). whole_stores l block (option_and_then (as_type t) (eval (types_of p) e s))) h.memory
    ∙ value_stored p t block e s)

pub values_turn : (p q : Program) (es : List Expr) (t : ExprType) (m k : Memory) (table : Vec (Option ℕ)) (os : List (Option ℕ)) (o : Option (List Value)) → q ≡ p → os ≡ table.items → k ≡ m
    → o ≡ option_and_then (all_as t) (eval_all (types_of q) es (scene os k)) → o ≡ option_and_then (all_as t) (eval_all (types_of p) es (scene table.items m))
values_turn p q es t m k table os o one two three gives =
    gives ∙ ap (λ (x : Program). option_and_then (all_as t) (eval_all (types_of x) es (scene os k))) one
    ∙ ap₂ (λ (xs : List (Option ℕ)) (l : Memory). option_and_then (all_as t) (eval_all (types_of p) es (scene xs l))) two three

pub item_turn : (p : Program) (xs : List Item) (i : ℕ) (x : Item) (m : Memory) (table : Vec (Option ℕ)) (s : State) → i < length xs → x ≡ get_or xs i x
    → IsAt m table (all_begun (executable p) (globals_in (x ∷ [])) (all_begun (executable p) (globals_in (take i xs)) s)) → IsAt m table (all_begun (executable p) (globals_in (take (i + 1) xs)) s)
item_turn p xs i x m table s within is h = subst (IsAt m table) (item_more (executable p) xs i x s within is) h

pub items_end : (p : Program) (xs : List Item) (i : ℕ) (m : Memory) (table : Vec (Option ℕ)) (s : State) → xs ≡ p.items → length xs ≤ i
    → IsAt m table (all_begun (executable p) (globals_in (take i xs)) s) → IsAt m table (all_begun (executable p) (globals_in p.items) s)
items_end p xs i m table s same past h = subst (λ (ys : List Item). IsAt m table (all_begun (executable p) (globals_in ys) s)) (take_all i xs past ∙ same) h

pub global_turn : (p : Program) (z : Item) (x : ℕ) (i : Init) (m : Memory) (table : Vec (Option ℕ)) (s : State) → z ≡ item.Global x i → IsAt m table (begun p x i s)
    → IsAt m table (all_begun (executable p) (globals_in (z ∷ [])) s)
global_turn p z x i m table s is h = subst (λ (y : Item). IsAt m table (all_begun (executable p) (globals_in (y ∷ [])) s)) (sym is) h
