-- Small programs with pointers, arrays and structs, each with its slice, and what C99 says that both do: the events by statement (a pointer
-- by its index), and the output. The criterion is what is assigned or printed last; there both tell the same values. Blocks have other
-- numbers in a slice, since it has fewer.
use Rattle.std.proofs.Common.{ℕ, pos, List, [], ◌∷◌, Some, None, refl}
use Rattle.std.specs.Prelude.{codes, slice_get, slice_index_or}
use Rattle.std.specs.Fmt.{digits}
use Rattle.std.specs.Option.{option_map_or}
use Rattle.c_arith.specs.declared.int_type.IntType.TheVariants.{Int}
use Rattle.c_arith.specs.declared.operators.UnaryOp.TheVariants.{Not}
use Rattle.c_arith.specs.declared.operators.BinaryOp.TheVariants.{Add, Sub, Less, Greater, Equal}
use Rattle.c_arith.specs.IntType.{convert}
use Rattle.c_arith.specs.Operators.{unary, binary}
use Rattle.c_language.specs.declared.expr_type.Base.TheVariants as base
use Rattle.c_language.specs.declared.expr_type.Layer.TheVariants as layer
use Rattle.c_language.specs.declared.expr_type.ExprType.{ExprType}
use Rattle.c_language.specs.Constants.{unescaped}
use Rattle.c_language.specs.DeclaredTypes.{integer, pointer_to, with_layer, of_base}
use Rattle.c_language.specs.Code.{is_true, either}
use Rattle.c_language.specs.Words.{Bytes}
use Rattle.c_tree.specs.declared.expr.MemberId.{MemberId}
use Rattle.c_meaning.specs.Cells.{Structs}
use Rattle.c_meaning.proofs.Small.{Small, K, Name, Un, Bin, Star, Amp, Item, Dot, Nowhere, In, One, Many, Start, Set, Show, Heap, Free, SmallCode, Stop, Open, Do, Choice, Turns, Close, Invoke, SmallRoutine, Zero, Alone, Listed, SmallGlobal, SmallProgram, Ends, Tells, tells}

-- ---- the variables of all these programs

abbrev int : ExprType
int = integer Int

-- struct s { int n; struct s *next; };
abbrev structs : Structs
structs = (int ∷ pointer_to (of_base (base.Struct 0)) ∷ []) ∷ []

-- int x; int *p; int *q; int y; int a[3]; struct s t; int n; int *up; int g; int z;
abbrev shapes : List ExprType
shapes =
    int ∷ pointer_to int ∷ pointer_to int ∷ int ∷ with_layer (layer.Array 3) int ∷ of_base (base.Struct 0) ∷ int ∷ pointer_to int ∷ int ∷ int
    ∷ []

abbrev shape_at : List ExprType → ℕ → ExprType
shape_at ts i = option_map_or (λ (t : ExprType). t) (slice_get ts i) int

abbrev x : Small
x = Name 0

abbrev p : Small
p = Name 1

abbrev q : Small
q = Name 2

abbrev y : Small
y = Name 3

abbrev a : Small
a = Name 4

abbrev t : Small
t = Name 5

abbrev n : Small
n = Name 6

abbrev up : Small
up = Name 7

abbrev g : Small
g = Name 8

abbrev num : ℕ → Small
num k = K Int k

abbrev n_of : MemberId
n_of = record { owner = 0; index = 0 }

abbrev next_of : MemberId
next_of = record { owner = 0; index = 1 }

-- a program of these globals, with functions of which the one with this number is main
abbrev program : List SmallGlobal → List SmallRoutine → ℕ → SmallProgram
program globals functions main = record {
  typing = record { variable = shape_at shapes; member = λ m. shape_at (slice_index_or structs m.owner []) m.index };
  structs = structs;
  globals = globals;
  functions = functions;
  main = main;
}

abbrev main_of : List ℕ → SmallCode → SmallRoutine
main_of locals code = record { params = []; locals = locals; result = Some int; code = code }

-- main alone, with these variables in its outermost block
abbrev doing : List ℕ → SmallCode → SmallProgram
doing locals code = program [] (main_of locals code ∷ []) 0

-- ---- two mallocs, of which one is kept, and pointers that are compared

-- p = malloc(2 * sizeof *p); q = malloc(sizeof *q); *q = 4; q = p + 1; p[1] = 6; x = *q; x = x + (q == p + 1);
two_mallocs : Tells (doing (0 ∷ 1 ∷ 2 ∷ []) (Open 0 (Open 1 (Open 2 (Do 0 (Heap (In p) (Many (num 2) 1)) (Do 1 (Heap (In q) (One 2)) (Do 2 (Set (Star q) (num 4)) (Do 3 (Set q (Bin Add p (num 1))) (Do 4 (Set (Item p (num 1)) (num 6)) (Do 5 (Set x (Star q)) (Do 6 (Set x (Bin Add x (Bin Equal q (Bin Add p (num 1))))) Stop))))))))))) 20 [] (Ends ((0, pos 0 ∷ []) ∷ (1, pos 0 ∷ []) ∷ (2, pos 4 ∷ []) ∷ (3, pos 1 ∷ []) ∷ (4, pos 6 ∷ []) ∷ (5, pos 6 ∷ []) ∷ (6, pos 7 ∷ []) ∷ []) [])
unfolding convert unary binary digits unescaped
two_mallocs = tells refl

one_malloc : Tells (doing (0 ∷ 1 ∷ 2 ∷ []) (Open 0 (Open 1 (Open 2 (Do 0 (Heap (In p) (Many (num 2) 1)) (Do 1 (Set q (Bin Add p (num 1))) (Do 2 (Set (Item p (num 1)) (num 6)) (Do 3 (Set x (Star q)) (Do 4 (Set x (Bin Add x (Bin Equal q (Bin Add p (num 1))))) Stop))))))))) 20 [] (Ends ((0, pos 0 ∷ []) ∷ (1, pos 1 ∷ []) ∷ (2, pos 6 ∷ []) ∷ (3, pos 6 ∷ []) ∷ (4, pos 7 ∷ []) ∷ []) [])
unfolding convert unary binary digits unescaped
one_malloc = tells refl

-- ---- a loop that declares a variable, takes its address, and ends the block

-- x = 0; while (x < 2) { int z = 5; int y = x; p = &y; x = *p + 1; }
loop_with_blocks : Tells (doing (0 ∷ 1 ∷ []) (Open 0 (Open 1 (Do 0 (Set x (num 0)) (Turns 1 (Bin Less x (num 2)) (Open 9 (Do 2 (Start 9 (num 5)) (Open 3 (Do 3 (Start 3 x) (Do 4 (Set p (Amp y)) (Do 5 (Set x (Bin Add (Star p) (num 1))) (Close (9 ∷ 3 ∷ []) Stop))))))) Stop))))) 20 [] (Ends ((0, pos 0 ∷ []) ∷ (1, pos 1 ∷ []) ∷ (2, pos 5 ∷ []) ∷ (3, pos 0 ∷ []) ∷ (4, pos 0 ∷ []) ∷ (5, pos 1 ∷ []) ∷ (1, pos 1 ∷ []) ∷ (2, pos 5 ∷ []) ∷ (3, pos 1 ∷ []) ∷ (4, pos 0 ∷ []) ∷ (5, pos 2 ∷ []) ∷ (1, pos 0 ∷ []) ∷ []) [])
unfolding convert unary binary digits unescaped
loop_with_blocks = tells refl

loop_with_one_block : Tells (doing (0 ∷ 1 ∷ []) (Open 0 (Open 1 (Do 0 (Set x (num 0)) (Turns 1 (Bin Less x (num 2)) (Open 3 (Do 2 (Start 3 x) (Do 3 (Set p (Amp y)) (Do 4 (Set x (Bin Add (Star p) (num 1))) (Close (3 ∷ []) Stop))))) Stop))))) 20 [] (Ends ((0, pos 0 ∷ []) ∷ (1, pos 1 ∷ []) ∷ (2, pos 0 ∷ []) ∷ (3, pos 0 ∷ []) ∷ (4, pos 1 ∷ []) ∷ (1, pos 1 ∷ []) ∷ (2, pos 1 ∷ []) ∷ (3, pos 0 ∷ []) ∷ (4, pos 2 ∷ []) ∷ (1, pos 0 ∷ []) ∷ []) [])
unfolding convert unary binary digits unescaped
loop_with_one_block = tells refl

-- ---- recursion, with the address of a local passed down

-- printf("%d\n", e)
abbrev line : Bytes
line = codes "\"%d\\n\""

-- void f(int n, int *up) { int y = n; if (n > 0) { f(n - 1, &y); } *up = *up + y; g = g + 1; }
abbrev counting : SmallRoutine
counting = record {
  params = 6 ∷ 7 ∷ [];
  locals = 3 ∷ [];
  result = None;
  code = Open 3 (Do 0 (Start 3 n) (Choice 1 (Bin Greater n (num 0)) (λ v. either (is_true v) (Invoke 2 Nowhere 0 (Bin Sub n (num 1) ∷ Amp y ∷ []) Stop) Stop) (Do 3 (Set (Star up) (Bin Add (Star up) y)) (Do 4 (Set g (Bin Add g (num 1))) Stop))));
}

-- the same without g
abbrev not_counting : SmallRoutine
not_counting = record {
  params = 6 ∷ 7 ∷ [];
  locals = 3 ∷ [];
  result = None;
  code = Open 3 (Do 0 (Start 3 n) (Choice 1 (Bin Greater n (num 0)) (λ v. either (is_true v) (Invoke 2 Nowhere 0 (Bin Sub n (num 1) ∷ Amp y ∷ []) Stop) Stop) (Do 3 (Set (Star up) (Bin Add (Star up) y)) Stop)));
}

-- int g; main: x = 10; f(2, &x); printf("%d\n", x);
addresses_down : Tells (program ((record { variable = 8; init = Zero }) ∷ []) (counting ∷ main_of (0 ∷ []) (Open 0 (Do 5 (Set x (num 10)) (Invoke 6 Nowhere 0 (num 2 ∷ Amp x ∷ []) (Do 7 (Show line (x ∷ [])) Stop)))) ∷ []) 1) 30 [] (Ends ((5, pos 10 ∷ []) ∷ (6, []) ∷ (0, pos 2 ∷ []) ∷ (1, pos 1 ∷ []) ∷ (2, []) ∷ (0, pos 1 ∷ []) ∷ (1, pos 1 ∷ []) ∷ (2, []) ∷ (0, pos 0 ∷ []) ∷ (1, pos 0 ∷ []) ∷ (3, pos 1 ∷ []) ∷ (4, pos 1 ∷ []) ∷ (3, pos 3 ∷ []) ∷ (4, pos 2 ∷ []) ∷ (3, pos 13 ∷ []) ∷ (4, pos 3 ∷ []) ∷ (7, pos 13 ∷ []) ∷ []) (codes "13\n"))
unfolding convert unary binary digits unescaped
addresses_down = tells refl

addresses_down_alone : Tells (program [] (not_counting ∷ main_of (0 ∷ []) (Open 0 (Do 4 (Set x (num 10)) (Invoke 5 Nowhere 0 (num 2 ∷ Amp x ∷ []) (Do 6 (Show line (x ∷ [])) Stop)))) ∷ []) 1) 30 [] (Ends ((4, pos 10 ∷ []) ∷ (5, []) ∷ (0, pos 2 ∷ []) ∷ (1, pos 1 ∷ []) ∷ (2, []) ∷ (0, pos 1 ∷ []) ∷ (1, pos 1 ∷ []) ∷ (2, []) ∷ (0, pos 0 ∷ []) ∷ (1, pos 0 ∷ []) ∷ (3, pos 1 ∷ []) ∷ (3, pos 3 ∷ []) ∷ (3, pos 13 ∷ []) ∷ (6, pos 13 ∷ []) ∷ []) (codes "13\n"))
unfolding convert unary binary digits unescaped
addresses_down_alone = tells refl

-- ---- a free in the program alone

-- p = malloc(sizeof *p); *p = 3; x = *p; free(p); x = x + 1;
freed : Tells (doing (0 ∷ 1 ∷ []) (Open 0 (Open 1 (Do 0 (Heap (In p) (One 1)) (Do 1 (Set (Star p) (num 3)) (Do 2 (Set x (Star p)) (Do 3 (Free p) (Do 4 (Set x (Bin Add x (num 1))) Stop)))))))) 20 [] (Ends ((0, pos 0 ∷ []) ∷ (1, pos 3 ∷ []) ∷ (2, pos 3 ∷ []) ∷ (3, pos 0 ∷ []) ∷ (4, pos 4 ∷ []) ∷ []) [])
unfolding convert unary binary digits unescaped
freed = tells refl

never_freed : Tells (doing (0 ∷ 1 ∷ []) (Open 0 (Open 1 (Do 0 (Heap (In p) (One 1)) (Do 1 (Set (Star p) (num 3)) (Do 2 (Set x (Star p)) (Do 3 (Set x (Bin Add x (num 1))) Stop))))))) 20 [] (Ends ((0, pos 0 ∷ []) ∷ (1, pos 3 ∷ []) ∷ (2, pos 3 ∷ []) ∷ (3, pos 4 ∷ []) ∷ []) [])
unfolding convert unary binary digits unescaped
never_freed = tells refl

-- ---- a list and a struct among the globals

-- int a[3] = {1, 2}; int g = 5; struct s t; main: g = g + 1; t.n = a[1]; x = t.n + a[2] + !t.next;
three_globals : Tells (program ((record { variable = 4; init = Listed (num 1 ∷ num 2 ∷ []) }) ∷ (record { variable = 8; init = Alone (num 5) }) ∷ (record { variable = 5; init = Zero }) ∷ []) (main_of (0 ∷ []) (Open 0 (Do 0 (Set g (Bin Add g (num 1))) (Do 1 (Set (Dot t n_of) (Item a (num 1))) (Do 2 (Set x (Bin Add (Bin Add (Dot t n_of) (Item a (num 2))) (Un Not (Dot t next_of)))) Stop)))) ∷ []) 0) 20 [] (Ends ((0, pos 6 ∷ []) ∷ (1, pos 2 ∷ []) ∷ (2, pos 3 ∷ []) ∷ []) [])
unfolding convert unary binary digits unescaped
three_globals = tells refl

two_globals : Tells (program ((record { variable = 4; init = Listed (num 1 ∷ num 2 ∷ []) }) ∷ (record { variable = 5; init = Zero }) ∷ []) (main_of (0 ∷ []) (Open 0 (Do 0 (Set (Dot t n_of) (Item a (num 1))) (Do 1 (Set x (Bin Add (Bin Add (Dot t n_of) (Item a (num 2))) (Un Not (Dot t next_of)))) Stop))) ∷ []) 0) 20 [] (Ends ((0, pos 2 ∷ []) ∷ (1, pos 3 ∷ []) ∷ []) [])
unfolding convert unary binary digits unescaped
two_globals = tells refl
