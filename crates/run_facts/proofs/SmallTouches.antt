-- A small program with pointers, an array and a struct: what its acts and calls read and store, with the locations that its vertices say.
use Rattle.std.proofs.Common.{◌≡◌, ℕ, pos, List, [], ◌∷◌, ◌++◌, negsuc, Option, Some, None, false, refl}
use Rattle.std.specs.Prelude.{slice_get, slice_index_or}
use Rattle.std.specs.Option.{option_map_or}
use Rattle.c_arith.specs.declared.int_type.IntType.TheVariants.{Int}
use Rattle.c_arith.specs.declared.operators.BinaryOp.TheVariants.{Sub}
use Rattle.c_arith.specs.IntType.{convert}
use Rattle.c_arith.specs.Operators.{unary, binary}
use Rattle.c_tree.specs.declared.expr.MemberId.{MemberId}
use Rattle.c_tree.specs.declared.program.Init.TheVariants as init
use Rattle.c_tree.specs.declared.statement.Amount.TheVariants as amount
use Rattle.c_tree.specs.declared.statement.Size.TheVariants as size
use Rattle.c_tree.specs.declared.statement.Target.TheVariants as target
use Rattle.c_language.specs.declared.expr_type.Base.TheVariants as base
use Rattle.c_language.specs.declared.expr_type.Layer.TheVariants as layer
use Rattle.c_language.specs.declared.expr_type.ExprType.{ExprType}
use Rattle.c_language.specs.DeclaredTypes.{integer, pointer_to, with_layer, of_base}
use Rattle.c_language.specs.Code.{Begins, Sets, Allocates, Frees, End, is_true, either}
use Rattle.c_meaning.specs.declared.value.Hop.{Hop}
use Rattle.c_meaning.specs.declared.value.Hop.TheVariants as hop
use Rattle.c_meaning.specs.declared.value.Place.{Place}
use Rattle.c_meaning.specs.declared.value.Value.{Value}
use Rattle.c_meaning.specs.declared.value.Value.TheVariants.{Number, Null, To}
use Rattle.c_meaning.specs.Cells.{Structs, cell_number}
use Rattle.c_meaning.specs.Memory.{Entered, Allocated, Block, Memory, unwritten, read, write, array_of}
use Rattle.c_meaning.specs.Values.{OfVariable, OfStatement, Origin, State, bound, whole}
use Rattle.c_meaning.specs.Activations.{Executable}
use Rattle.c_meaning.specs.Steps.{Waiting}
use Rattle.c_meaning.proofs.Small.{Small, K, Name, Bin, NullName, Star, Amp, Item, Dot, tree, Nowhere, In, One, Start, StartAll, Set, Heap, Free, Give, Stop, Open, Do, Choice, Invoke, SmallRoutine, Zero, SmallProgram, built, Ends, Tells, tells}
use Rattle.dep_model.specs.Doings.{Does}
use Rattle.run_facts.specs.CellLocations.{location_of}
use Rattle.run_facts.specs.Effects.{Touch, Effect, doing_effect, receipt_effect, back_in}
use Rattle.run_facts.proofs.SmallEffects.{sets, lists, allocates, frees, receives}

-- ---- the program

-- struct s { int n; int m; };
-- struct s t;
-- int f(int *q) { *q = 2; return 1; }
-- void g(int **r) { *r = malloc(sizeof(int)); }
-- void h(int n, int *up) { int y = n; if (n) { h(n - 1, &y); } *up = y; }
-- int main(void)
-- {
--     int a[5] = {1, 2};
--     int x = 3;
--     int i = 4;
--     int *p = NULL;
--     t.m = 1;
--     a[i] = f(&x);
--     g(&p);
--     h(1, &x);
--     free(p);
--     return 0;
-- }
abbrev int : ExprType
int = integer Int

abbrev structs : Structs
structs = (int ∷ int ∷ []) ∷ []

-- t, q, r, n, up, y, a, x, i, p
abbrev shapes : List ExprType
shapes =
    of_base (base.Struct 0) ∷ pointer_to int ∷ pointer_to (pointer_to int) ∷ int ∷ pointer_to int ∷ int ∷ with_layer (layer.Array 5) int ∷ int ∷ int
    ∷ pointer_to int ∷ []

abbrev shape_at : List ExprType → ℕ → ExprType
shape_at ts k = option_map_or (λ (t : ExprType). t) (slice_get ts k) int

abbrev pub num : ℕ → Small
num k = K Int k

abbrev pub m_of : MemberId
m_of = record { owner = 0; index = 1 }

abbrev pub t_m : Small
t_m = Dot (Name 0) m_of

abbrev pub a_i : Small
a_i = Item (Name 6) (Name 8)

abbrev pub star_q : Small
star_q = Star (Name 1)

abbrev pub star_r : Small
star_r = Star (Name 2)

abbrev pub star_up : Small
star_up = Star (Name 4)

abbrev pub y : Small
y = Name 5

abbrev pub n_minus_1 : Small
n_minus_1 = Bin Sub (Name 3) (num 1)

abbrev pub p : Small
p = Name 9

abbrev f : SmallRoutine
f = record { params = 1 ∷ []; locals = []; result = Some int; code = Do 0 (Set star_q (num 2)) (Do 1 (Give (num 1)) Stop) }

abbrev g : SmallRoutine
g = record { params = 2 ∷ []; locals = []; result = None; code = Do 2 (Heap (In star_r) (One 9)) Stop }

abbrev h : SmallRoutine
h = record {
  params = 3 ∷ 4 ∷ [];
  locals = 5 ∷ [];
  result = None;
  code = Open 5 (Do 3 (Start 5 (Name 3)) (Choice 4 (Name 3) (λ v. either (is_true v) (Invoke 5 Nowhere 2 (n_minus_1 ∷ Amp y ∷ []) Stop) Stop) (Do 6 (Set star_up y) Stop)));
}

abbrev main : SmallRoutine
main = record {
  params = [];
  locals = 6 ∷ 7 ∷ 8 ∷ 9 ∷ [];
  result = Some int;
  code = Open 6 (Do 7 (StartAll 6 (num 1 ∷ num 2 ∷ [])) (Open 7 (Do 8 (Start 7 (num 3)) (Open 8 (Do 9 (Start 8 (num 4)) (Open 9 (Do 10 (Start 9 NullName) (Do 11 (Set t_m (num 1)) (Invoke 12 (In a_i) 0 (Amp (Name 7) ∷ []) (Invoke 13 Nowhere 1 (Amp p ∷ []) (Invoke 14 Nowhere 2 (num 1 ∷ Amp (Name 7) ∷ []) (Do 15 (Free p) (Do 16 (Give (num 0)) Stop)))))))))))));
}

abbrev small : SmallProgram
small = record {
  typing = record { variable = shape_at shapes; member = λ m. shape_at (slice_index_or structs m.owner []) m.index };
  structs = structs;
  globals = (record { variable = 0; init = Zero }) ∷ [];
  functions = f ∷ g ∷ h ∷ main ∷ [];
  main = 3;
}

-- what it does, statement by statement; a pointer is told by its index, and null as -1
told : Tells small 40 [] (Ends ((7, pos 1 ∷ pos 2 ∷ []) ∷ (8, pos 3 ∷ []) ∷ (9, pos 4 ∷ []) ∷ (10, negsuc 0 ∷ []) ∷ (11, pos 1 ∷ []) ∷ (0, pos 2 ∷ []) ∷ (1, pos 1 ∷ []) ∷ (12, pos 1 ∷ []) ∷ (13, []) ∷ (2, pos 0 ∷ []) ∷ (14, []) ∷ (3, pos 1 ∷ []) ∷ (4, pos 1 ∷ []) ∷ (5, []) ∷ (3, pos 0 ∷ []) ∷ (4, pos 0 ∷ []) ∷ (6, pos 0 ∷ []) ∷ (6, pos 0 ∷ []) ∷ (15, pos 0 ∷ []) ∷ (16, pos 0 ∷ []) ∷ []) [])
unfolding convert unary binary
told = tells refl

abbrev run : Executable
run = built small

-- ---- states of the run

abbrev cells_of : ExprType → List (Option Value) → Block
cells_of t cells = record (unwritten structs t Entered) { cells = cells }

abbrev number : ℕ → Option Value
number k = Some (Number (pos k))

abbrev address : ℕ → Value
address b = To (record { block = b; path = []; index = 0 })

abbrev cell : ℕ → List Hop → Place
cell b path = record { block = b; path = path }

abbrev touch : Place → Option Value → Touch
touch q v = record { cell = q; value = v }

abbrev effect : List Touch → List Touch → Option Effect
effect reads stores = Some (record { reads = reads; stores = stores; takes = false; returned = None })

-- the blocks of t, x, i and p in main: those of t with 5 and 6 in it, and of a
abbrev first_blocks : List Block
first_blocks =
    cells_of (of_base (base.Struct 0)) (number 5 ∷ number 6 ∷ []) ∷ unwritten structs (with_layer (layer.Array 5) int) Entered
    ∷ cells_of int (number 3 ∷ []) ∷ cells_of int (number 4 ∷ []) ∷ cells_of (pointer_to int) (Some Null ∷ []) ∷ []

abbrev first_origins : List Origin
first_origins = OfVariable 0 ∷ OfVariable 6 ∷ OfVariable 7 ∷ OfVariable 8 ∷ OfVariable 9 ∷ []

abbrev main_frame : ℕ → Option ℕ
main_frame = bound (bound (bound (bound (bound (λ v. None) 0 (Some 0)) 6 (Some 1)) 7 (Some 2)) 8 (Some 3)) 9 (Some 4)

abbrev global_frame : ℕ → Option ℕ
global_frame = bound (λ v. None) 0 (Some 0)

abbrev state : (ℕ → Option ℕ) → List Block → List Origin → State
state frame blocks origins = record { frame = frame; returned = None; memory = record { structs = structs; blocks = blocks }; origins = origins; unread = [] }

abbrev in_main : State
in_main = state main_frame first_blocks first_origins

-- ---- t.m = 1; stores into one cell, and leaves the other

member_stores : doing_effect run 3 (Does 11 (Sets (tree t_m) None (tree (num 1)))) in_main ≡ effect [] (touch (cell 0 (hop.Member 1 ∷ [])) (number 1) ∷ [])
unfolding convert unary binary
member_stores = sets run 3 11 t_m (num 1) in_main

abbrev member_set : Memory
member_set = write (cell 0 (hop.Member 1 ∷ [])) (Number (pos 1)) in_main.memory

member_before : read in_main.memory (cell 0 (hop.Member 1 ∷ [])) ≡ number 6
member_before = refl

member_after : read member_set (cell 0 (hop.Member 1 ∷ [])) ≡ number 1
member_after = refl

other_member_after : read member_set (cell 0 (hop.Member 0 ∷ [])) ≡ number 5
other_member_after = refl

-- ---- int a[5] = {1, 2}; stores into all five

abbrev element : ℕ → ℕ → Touch
element k v = touch (cell 1 (hop.Element k ∷ [])) (number v)

list_stores : doing_effect run 3 (Does 7 (Begins 6 (init.Items (tree (num 1) ∷ tree (num 2) ∷ [])))) in_main ≡ effect [] (element 0 1 ∷ element 1 2 ∷ element 2 0 ∷ element 3 0 ∷ element 4 0 ∷ [])
unfolding convert unary binary
list_stores = lists run 3 7 6 (num 1 ∷ num 2 ∷ []) in_main

-- ---- a[i] = f(&x); in f x is changed, and i beside it isn't; after the call i is read, and a isn't

abbrev in_f : State
in_f = state (bound global_frame 1 (Some 5)) (first_blocks ++ cells_of (pointer_to int) (Some (address 2) ∷ []) ∷ []) (first_origins ++ OfVariable 1 ∷ [])

callee_stores : doing_effect run 0 (Does 0 (Sets (tree star_q) None (tree (num 2)))) in_f ≡ effect (touch (whole 5) (Some (address 2)) ∷ []) (touch (whole 2) (number 2) ∷ [])
unfolding convert unary binary
callee_stores = sets run 0 0 star_q (num 2) in_f

abbrev x_changed : Memory
x_changed = write (whole 2) (Number (pos 2)) in_f.memory

x_after : read x_changed (whole 2) ≡ number 2
x_after = refl

i_after : read x_changed (whole 3) ≡ number 4
i_after = refl

abbrev waits : Waiting
waits = record { call = 12; target = target.Place (tree a_i); function = 3; rest = End; frame = main_frame; returned = None }

abbrev f_done : State
f_done = record in_f { returned = Some (Number (pos 1)); memory = x_changed }

result_stored : receipt_effect run 0 waits f_done ≡ effect (touch (whole 3) (number 4) ∷ []) (element 4 1 ∷ [])
unfolding convert unary binary
result_stored = receives run 3 a_i (Some (Number (pos 1))) (back_in run 0 waits f_done)

-- ---- *r = malloc(sizeof(int)); in g stores into p of main the pointer to the block that begins

abbrev in_g : State
in_g = state (bound global_frame 2 (Some 5)) (first_blocks ++ cells_of (pointer_to (pointer_to int)) (Some (address 4) ∷ []) ∷ []) (first_origins ++ OfVariable 2 ∷ [])

malloc_stores : doing_effect run 1 (Does 2 (Allocates (target.Place (tree star_r)) (amount.Size (size.Pointee 9 false)))) in_g ≡ effect (touch (whole 5) (Some (address 4)) ∷ []) (touch (whole 4) (Some (address 6)) ∷ [])
unfolding convert unary binary
malloc_stores = allocates run 1 2 star_r (size.Pointee 9 false) in_g

-- ---- *up = y; in the second activation of h, which has a y of its own, stores into that of the first

-- n, up and y of the first activation are blocks 5, 6 and 7, and those of the second 8, 9 and 10
abbrev in_h : State
in_h =
    state (bound (bound (bound global_frame 3 (Some 8)) 4 (Some 9)) 5 (Some 10))
    (first_blocks ++ (cells_of int (number 1 ∷ []) ∷ cells_of (pointer_to int) (Some (address 2) ∷ []) ∷ cells_of int (number 1 ∷ []) ∷ cells_of int (number 0 ∷ []) ∷ cells_of (pointer_to int) (Some (address 7) ∷ []) ∷ cells_of int (number 0 ∷ []) ∷ []))
    (first_origins ++ (OfVariable 3 ∷ OfVariable 4 ∷ OfVariable 5 ∷ OfVariable 3 ∷ OfVariable 4 ∷ OfVariable 5 ∷ []))

outer_stored : doing_effect run 2 (Does 6 (Sets (tree star_up) None (tree y))) in_h ≡ effect (touch (whole 9) (Some (address 7)) ∷ touch (whole 10) (number 0) ∷ []) (touch (whole 7) (number 0) ∷ [])
unfolding convert unary binary
outer_stored = sets run 2 6 star_up y in_h

-- both blocks are at the location of y; the activation names the other one
same_variable : location_of in_h.origins (whole 7) ≡ location_of in_h.origins (whole 10)
same_variable = refl

own_block : in_h.frame 5 ≡ Some 10
own_block = refl

-- ---- free(p); reads p, and stores nothing

abbrev with_heap : State
with_heap =
    state main_frame (first_blocks ++ (record (unwritten structs (array_of 1 int) Allocated) { cells = number 7 ∷ [] }) ∷ []) (first_origins ++ OfStatement 2 ∷ [])

abbrev freeing : State
freeing = record with_heap { memory = write (whole 4) (address 5) with_heap.memory }

free_stores_nothing : doing_effect run 3 (Does 15 (Frees (tree p))) freeing ≡ effect (touch (whole 4) (Some (address 5)) ∷ []) []
unfolding convert unary binary
free_stores_nothing = frees run 3 15 p freeing

-- ---- the two members of t are two cells; where a struct type had itself in it, two paths would lead to one

first_member : cell_number structs (hop.Member 0 ∷ []) (of_base (base.Struct 0)) ≡ Some 0
first_member = refl

second_member : cell_number structs (hop.Member 1 ∷ []) (of_base (base.Struct 0)) ≡ Some 1
second_member = refl

-- struct s { struct s n; int m; };
abbrev in_itself : Structs
in_itself = (of_base (base.Struct 0) ∷ int ∷ []) ∷ []

two_paths : cell_number in_itself (hop.Member 0 ∷ hop.Member 1 ∷ []) (of_base (base.Struct 0)) ≡ cell_number in_itself (hop.Member 1 ∷ []) (of_base (base.Struct 0))
two_paths = refl
