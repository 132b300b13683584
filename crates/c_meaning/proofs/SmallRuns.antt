-- Small programs with several functions, and what C99 says that whole runs of them do: the events by statement in the order in which they are told, and the output.
use Rattle.std.proofs.Common.{ℕ, pos, negsuc, List, [], ◌∷◌, Some, None, refl}
use Rattle.std.specs.Prelude.{codes}
use Rattle.std.specs.Fmt.{digits}
use Rattle.c_arith.specs.declared.int_type.IntType.TheVariants.{Int}
use Rattle.c_arith.specs.declared.operators.BinaryOp.TheVariants.{Add, Sub, Less, Greater}
use Rattle.c_arith.specs.IntType.{convert}
use Rattle.c_arith.specs.Operators.{unary, binary}
use Rattle.c_language.specs.declared.expr_type.ExprType.{ExprType}
use Rattle.c_language.specs.Constants.{unescaped}
use Rattle.c_language.specs.DeclaredTypes.{integer}
use Rattle.c_language.specs.Code.{is_true, either}
use Rattle.c_language.specs.Words.{Bytes}
use Rattle.c_meaning.proofs.Small.{Small, K, Name, Bin, Nowhere, In, New, Start, Set, Get, Put, Show, Give, SmallCode, Stop, Open, Do, Choice, Turns, Invoke, SmallRoutine, Zero, SmallProgram, Ends, Fails, NeedsMore, Tells, tells}

-- ---- programs of which all variables are ints, and variable 0 alone is a global: int g;

abbrev int : ExprType
int = integer Int

abbrev num : ℕ → Small
num k = K Int k

abbrev g : Small
g = Name 0

abbrev a : Small
a = Name 1

abbrev b : Small
b = Name 2

abbrev r : Small
r = Name 3

abbrev x : Small
x = Name 4

abbrev y : Small
y = Name 5

abbrev z : Small
z = Name 6

-- printf("%d\n", e)
abbrev line : Bytes
line = codes "\"%d\\n\""

abbrev gives : List ℕ → List ℕ → SmallCode → SmallRoutine
gives params locals code = record { params = params; locals = locals; result = Some int; code = code }

abbrev gives_none : List ℕ → List ℕ → SmallCode → SmallRoutine
gives_none params locals code = record { params = params; locals = locals; result = None; code = code }

-- functions, of which the one with this number is main
abbrev program : List SmallRoutine → ℕ → SmallProgram
program functions main = record {
  typing = record { variable = λ v. int; member = λ m. int };
  structs = [];
  globals = (record { variable = 0; init = Zero }) ∷ [];
  functions = functions;
  main = main;
}

-- ---- a parameter that is overwritten

-- void f(int a) { a = 5; g = a; } main: int x = 7; f(x + 1); printf("%d\n", g);
parameter_is_overwritten : Tells (program (gives_none (1 ∷ []) [] (Do 0 (Set a (num 5)) (Do 1 (Set g a) Stop)) ∷ gives [] (4 ∷ []) (Open 4 (Do 2 (Start 4 (num 7)) (Invoke 3 Nowhere 0 (Bin Add x (num 1) ∷ []) (Do 4 (Show line (g ∷ [])) Stop)))) ∷ []) 1) 20 [] (Ends ((2, pos 7 ∷ []) ∷ (3, []) ∷ (0, pos 5 ∷ []) ∷ (1, pos 5 ∷ []) ∷ (4, pos 5 ∷ []) ∷ []) (codes "5\n"))
unfolding convert unary binary digits unescaped
parameter_is_overwritten = tells refl

-- ---- a result that is overwritten

-- int f(int a) { g = a; return a + 1; } main: int x = f(3); x = g; x = x + 1;
result_is_overwritten : Tells (program (gives (1 ∷ []) [] (Do 0 (Set g a) (Do 1 (Give (Bin Add a (num 1))) Stop)) ∷ gives [] (4 ∷ []) (Open 4 (Invoke 2 (New 4) 0 (num 3 ∷ []) (Do 3 (Set x g) (Do 4 (Set x (Bin Add x (num 1))) Stop)))) ∷ []) 1) 20 [] (Ends ((0, pos 3 ∷ []) ∷ (1, pos 4 ∷ []) ∷ (2, pos 4 ∷ []) ∷ (3, pos 3 ∷ []) ∷ (4, pos 4 ∷ []) ∷ []) [])
unfolding convert unary binary digits unescaped
result_is_overwritten = tells refl

-- ---- a variable of the caller

-- a function that names y, which is a local of its caller: it has no such variable, so that to read it is undefined
caller_is_not_seen : Tells (program (gives [] [] (Do 0 (Give y) Stop) ∷ gives [] (5 ∷ []) (Open 5 (Do 1 (Start 5 (num 1)) (Invoke 2 (In g) 0 [] Stop))) ∷ []) 1) 20 [] (Fails 0)
unfolding convert unary binary digits unescaped
caller_is_not_seen = tells refl

-- ---- a function that is never called

-- int helper(int a) { a = a + 1; return a; } main: return 0;
never_called : Tells (program (gives (1 ∷ []) [] (Do 0 (Set a (Bin Add a (num 1))) (Do 1 (Give a) Stop)) ∷ gives [] [] (Do 2 (Give (num 0)) Stop) ∷ []) 1) 20 [] (Ends ((2, pos 0 ∷ []) ∷ []) [])
unfolding convert unary binary digits unescaped
never_called = tells refl

-- ---- three reads

-- main: int x = getchar(); int y = getchar(); int z = getchar(); putchar(x); putchar(z);
abbrev three_reads : SmallProgram
three_reads = program (gives [] (4 ∷ 5 ∷ 6 ∷ []) (Open 4 (Do 0 (Get (New 4)) (Open 5 (Do 1 (Get (New 5)) (Open 6 (Do 2 (Get (New 6)) (Do 3 (Put x) (Do 4 (Put z) Stop)))))))) ∷ []) 0

-- on xyz
reads_three : Tells three_reads 20 (120 ∷ 121 ∷ 122 ∷ []) (Ends ((0, pos 120 ∷ []) ∷ (1, pos 121 ∷ []) ∷ (2, pos 122 ∷ []) ∷ (3, pos 120 ∷ []) ∷ (4, pos 122 ∷ []) ∷ []) (codes "xz"))
unfolding convert unary binary digits unescaped
reads_three = tells refl

-- on the empty input; the byte of -1 is 255
reads_none : Tells three_reads 20 [] (Ends ((0, negsuc 0 ∷ []) ∷ (1, negsuc 0 ∷ []) ∷ (2, negsuc 0 ∷ []) ∷ (3, pos 255 ∷ []) ∷ (4, pos 255 ∷ []) ∷ []) (255 ∷ 255 ∷ []))
unfolding convert unary binary digits unescaped
reads_none = tells refl

-- ---- calls in calls

-- int add(int a, int b) { return a + b; }
abbrev add : SmallRoutine
add = gives (1 ∷ 2 ∷ []) [] (Do 0 (Give (Bin Add a b)) Stop)

-- int increment(int r) { r = add(r, 1); return r; }
abbrev increment : SmallRoutine
increment = gives (3 ∷ []) [] (Invoke 1 (In r) 0 (r ∷ num 1 ∷ []) (Do 2 (Give r) Stop))

-- main: int x = 0; int y = 1; while (y < 3) { x = add(x, y); y = increment(y); } printf("%d\n", x); printf("%d\n", y);
sum_of_two : Tells (program (add ∷ increment ∷ gives [] (4 ∷ 5 ∷ []) (Open 4 (Do 3 (Start 4 (num 0)) (Open 5 (Do 4 (Start 5 (num 1)) (Turns 5 (Bin Less y (num 3)) (Invoke 6 (In x) 0 (x ∷ y ∷ []) (Invoke 7 (In y) 1 (y ∷ []) Stop)) (Do 8 (Show line (x ∷ [])) (Do 9 (Show line (y ∷ [])) Stop))))))) ∷ []) 2) 19 [] (Ends ((3, pos 0 ∷ []) ∷ (4, pos 1 ∷ []) ∷ (5, pos 1 ∷ []) ∷ (0, pos 1 ∷ []) ∷ (6, pos 1 ∷ []) ∷ (0, pos 2 ∷ []) ∷ (1, pos 2 ∷ []) ∷ (2, pos 2 ∷ []) ∷ (7, pos 2 ∷ []) ∷ (5, pos 1 ∷ []) ∷ (0, pos 3 ∷ []) ∷ (6, pos 3 ∷ []) ∷ (0, pos 3 ∷ []) ∷ (1, pos 3 ∷ []) ∷ (2, pos 3 ∷ []) ∷ (7, pos 3 ∷ []) ∷ (5, pos 0 ∷ []) ∷ (8, pos 3 ∷ []) ∷ (9, pos 3 ∷ []) ∷ []) (codes "3\n3\n"))
unfolding convert unary binary digits unescaped
sum_of_two = tells refl

-- ---- two functions that call each other

-- int even(int a, int b) { int r = 1; if (a > 0) { r = odd(a - 1, b); } return r; }
abbrev even : SmallRoutine
even = gives (1 ∷ 2 ∷ []) (3 ∷ []) (Open 3 (Do 0 (Start 3 (num 1)) (Choice 1 (Bin Greater a (num 0)) (λ k. either (is_true k) (Invoke 2 (In r) 1 (Bin Sub a (num 1) ∷ b ∷ []) Stop) Stop) (Do 3 (Give r) Stop))))

-- int odd(int a, int b) { int r = b; if (a > 0) { r = even(a - 1, b); } return r; }
abbrev odd : SmallRoutine
odd = gives (1 ∷ 2 ∷ []) (3 ∷ []) (Open 3 (Do 4 (Start 3 b) (Choice 5 (Bin Greater a (num 0)) (λ k. either (is_true k) (Invoke 6 (In r) 0 (Bin Sub a (num 1) ∷ b ∷ []) Stop) Stop) (Do 7 (Give r) Stop))))

-- main: int x = getchar(); int y = even(1, 7); int z = odd(1, x); printf("%d\n", y); printf("%d\n", z); on x
mutual_recursion : Tells (program (even ∷ odd ∷ gives [] (4 ∷ 5 ∷ 6 ∷ []) (Open 4 (Do 8 (Get (New 4)) (Open 5 (Invoke 9 (New 5) 0 (num 1 ∷ num 7 ∷ []) (Open 6 (Invoke 10 (New 6) 1 (num 1 ∷ x ∷ []) (Do 11 (Show line (y ∷ [])) (Do 12 (Show line (z ∷ [])) Stop)))))))) ∷ []) 2) 40 (120 ∷ []) (Ends ((8, pos 120 ∷ []) ∷ (0, pos 1 ∷ []) ∷ (1, pos 1 ∷ []) ∷ (4, pos 7 ∷ []) ∷ (5, pos 0 ∷ []) ∷ (7, pos 7 ∷ []) ∷ (2, pos 7 ∷ []) ∷ (3, pos 7 ∷ []) ∷ (9, pos 7 ∷ []) ∷ (4, pos 120 ∷ []) ∷ (5, pos 1 ∷ []) ∷ (0, pos 1 ∷ []) ∷ (1, pos 0 ∷ []) ∷ (3, pos 1 ∷ []) ∷ (6, pos 1 ∷ []) ∷ (7, pos 1 ∷ []) ∷ (10, pos 1 ∷ []) ∷ (11, pos 7 ∷ []) ∷ (12, pos 1 ∷ []) ∷ []) (codes "7\n1\n"))
unfolding convert unary binary digits unescaped
mutual_recursion = tells refl

-- ---- two counters, of which one is a global

-- void f(void) { g = g + 1; } main: int x = 0; while (x < 2) { f(); x = x + 1; } printf("%d\n", g);
two_counters : Tells (program (gives_none [] [] (Do 0 (Set g (Bin Add g (num 1))) Stop) ∷ gives [] (4 ∷ []) (Open 4 (Do 1 (Start 4 (num 0)) (Turns 2 (Bin Less x (num 2)) (Invoke 3 Nowhere 0 [] (Do 4 (Set x (Bin Add x (num 1))) Stop)) (Do 5 (Show line (g ∷ [])) Stop)))) ∷ []) 1) 20 [] (Ends ((1, pos 0 ∷ []) ∷ (2, pos 1 ∷ []) ∷ (3, []) ∷ (0, pos 1 ∷ []) ∷ (4, pos 1 ∷ []) ∷ (2, pos 1 ∷ []) ∷ (3, []) ∷ (0, pos 2 ∷ []) ∷ (4, pos 2 ∷ []) ∷ (2, pos 0 ∷ []) ∷ (5, pos 2 ∷ []) ∷ []) (codes "2\n"))
unfolding convert unary binary digits unescaped
two_counters = tells refl

-- ---- the acts of a run through two calls

-- main: int x = add(2, 3); x = add(x, 4);
abbrev two_calls : SmallProgram
two_calls = program (add ∷ gives [] (4 ∷ []) (Open 4 (Invoke 1 (New 4) 0 (num 2 ∷ num 3 ∷ []) (Invoke 2 (In x) 0 (x ∷ num 4 ∷ []) Stop))) ∷ []) 1

-- both calls and both returns
two_calls_end : Tells two_calls 4 [] (Ends ((0, pos 5 ∷ []) ∷ (1, pos 5 ∷ []) ∷ (0, pos 9 ∷ []) ∷ (2, pos 9 ∷ []) ∷ []) [])
unfolding convert unary binary digits unescaped
two_calls_end = tells refl

-- with one act less
two_calls_need_more : Tells two_calls 3 [] NeedsMore
unfolding convert unary binary digits unescaped
two_calls_need_more = tells refl
