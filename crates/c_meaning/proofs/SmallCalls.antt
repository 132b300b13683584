-- Small programs with functions, globals and input, and what C99 says that they do: the events by statement in the order in which they are told, and the output.
use Rattle.std.proofs.Common.{ℕ, pos, negsuc, List, [], ◌∷◌, Some, None, refl}
use Rattle.std.specs.Prelude.{codes, slice_get}
use Rattle.std.specs.Fmt.{digits}
use Rattle.std.specs.Option.{option_map_or}
use Rattle.c_arith.specs.declared.int_type.IntType.TheVariants.{Char, Int}
use Rattle.c_arith.specs.declared.operators.UnaryOp.TheVariants.{Not}
use Rattle.c_arith.specs.declared.operators.BinaryOp.TheVariants.{Add, Sub, Mul, AtMost}
use Rattle.c_arith.specs.IntType.{convert}
use Rattle.c_arith.specs.Operators.{unary, binary}
use Rattle.c_language.specs.declared.expr_type.Layer.TheVariants as layer
use Rattle.c_language.specs.declared.expr_type.ExprType.{ExprType}
use Rattle.c_language.specs.Constants.{unescaped}
use Rattle.c_language.specs.DeclaredTypes.{integer, pointer_to, with_layer}
use Rattle.c_language.specs.Code.{is_true, either}
use Rattle.c_meaning.proofs.Small.{Small, K, Name, Un, Bin, Star, Amp, Item, Nowhere, In, New, Start, Set, Get, Show, Give, GiveNothing, SmallCode, Stop, Open, Do, Choice, Turns, Invoke, SmallRoutine, Zero, Alone, Listed, SmallGlobal, SmallProgram, Tale, Ends, Fails, NeedsMore, Tells, tells}

-- ---- the variables of all these programs

abbrev int : ExprType
int = integer Int

-- int g = 4; int z; int v[3] = {1, 2}; int *n = 0; which are globals, and then parameters and locals: int a; int b; int r; int *p; char c; int y;
abbrev shapes : List ExprType
shapes =
    int ∷ int ∷ with_layer (layer.Array 3) int ∷ pointer_to int ∷ int ∷ int ∷ int ∷ pointer_to int ∷ integer Char ∷ int ∷ []

abbrev shape_at : ℕ → ExprType
shape_at i = option_map_or (λ (t : ExprType). t) (slice_get shapes i) int

abbrev num : ℕ → Small
num k = K Int k

abbrev globals : List SmallGlobal
globals =
    (record { variable = 0; init = Alone (num 4) }) ∷ (record { variable = 1; init = Zero }) ∷ (record { variable = 2; init = Listed (num 1 ∷ num 2 ∷ []) })
    ∷ (record { variable = 3; init = Alone (num 0) }) ∷ []

-- a function with parameters and locals, that gives an int or nothing
abbrev gives : List ℕ → List ℕ → SmallCode → SmallRoutine
gives params locals code = record { params = params; locals = locals; result = Some int; code = code }

abbrev gives_none : List ℕ → List ℕ → SmallCode → SmallRoutine
gives_none params locals code = record { params = params; locals = locals; result = None; code = code }

-- a program of these functions, of which the last one is main
abbrev program : List SmallRoutine → ℕ → SmallProgram
program functions main = record {
  typing = record { variable = shape_at; member = λ m. int };
  structs = [];
  globals = globals;
  functions = functions;
  main = main;
}

abbrev g : Small
g = Name 0

abbrev z : Small
z = Name 1

abbrev v : Small
v = Name 2

abbrev n : Small
n = Name 3

abbrev a : Small
a = Name 4

abbrev b : Small
b = Name 5

abbrev r : Small
r = Name 6

abbrev p : Small
p = Name 7

abbrev y : Small
y = Name 9

-- main alone, or behind one function, within 20 acts and with no input
abbrev Alone_comes : SmallCode → Tale → Type 0
Alone_comes main told = Tells (program (gives [] [] main ∷ []) 0) 20 [] told

abbrev Comes : SmallRoutine → SmallCode → Tale → Type 0
Comes f main told = Tells (program (f ∷ gives [] [] main ∷ []) 1) 20 [] told

abbrev Reads : List ℕ → SmallCode → Tale → Type 0
Reads input main told = Tells (program (gives [] [] main ∷ []) 0) 20 input told

-- int add(int a, int b) { return a + b; }
abbrev add : SmallRoutine
add = gives (4 ∷ 5 ∷ []) [] (Do 0 (Give (Bin Add a b)) Stop)

-- int fact(int a) { int r = 1; if (a) { r = fact(a - 1); r = a * r; } return r; }
abbrev fact : SmallRoutine
fact = gives (4 ∷ []) (6 ∷ []) (Open 6 (Do 0 (Start 6 (num 1)) (Choice 1 a (λ k. either (is_true k) (Invoke 2 (In r) 0 (Bin Sub a (num 1) ∷ []) (Do 3 (Set r (Bin Mul a r)) Stop)) Stop) (Do 4 (Give r) Stop))))

-- int *own(void) { int y = 1; return &y; }
abbrev own : SmallRoutine
own = record { params = []; locals = 9 ∷ []; result = Some (pointer_to int); code = Open 9 (Do 0 (Start 9 (num 1)) (Do 1 (Give (Amp y)) Stop)) }

-- main: z = g + z; z = v[0] + v[1] + v[2]; z = !n;
globals_begin : Alone_comes (Do 0 (Set (z) (Bin Add g z)) (Do 1 (Set (z) (Bin Add (Bin Add (Item v (num 0)) (Item v (num 1))) (Item v (num 2)))) (Do 2 (Set (z) (Un Not n)) Stop))) (Ends ((0, pos 4 ∷ []) ∷ (1, pos 3 ∷ []) ∷ (2, pos 1 ∷ []) ∷ []) ([]))
unfolding convert unary binary digits unescaped
globals_begin = tells refl

-- main: int r = add(2, 3); printf("%d\n", r);
result_is_printed : Comes add (Open 6 (Invoke 1 (New 6) 0 (num 2 ∷ num 3 ∷ []) (Do 2 (Show (codes "\"%d\\n\"") (r ∷ [])) Stop))) (Ends ((0, pos 5 ∷ []) ∷ (1, pos 5 ∷ []) ∷ (2, pos 5 ∷ []) ∷ []) (codes "5\n"))
unfolding convert unary binary digits unescaped
result_is_printed = tells refl

-- int f(int a, int b) { return a - b; } main: z = f(7, 2);
arguments_in_order : Comes (gives (4 ∷ 5 ∷ []) [] (Do 0 (Give (Bin Sub a b)) Stop)) (Invoke 1 (In z) 0 (num 7 ∷ num 2 ∷ []) Stop) (Ends ((0, pos 5 ∷ []) ∷ (1, pos 5 ∷ []) ∷ []) ([]))
unfolding convert unary binary digits unescaped
arguments_in_order = tells refl

-- main: add(2, 3); told before the callee
result_is_dropped : Comes add (Invoke 1 Nowhere 0 (num 2 ∷ num 3 ∷ []) Stop) (Ends ((1, []) ∷ (0, pos 5 ∷ []) ∷ []) ([]))
unfolding convert unary binary digits unescaped
result_is_dropped = tells refl

-- main: z = add(2, 3); two acts are enough, and one isn't
end_of_a_call_needs_no_act : Tells (program (add ∷ gives [] [] (Invoke 1 (In z) 0 (num 2 ∷ num 3 ∷ []) Stop) ∷ []) 1) 2 [] (Ends ((0, pos 5 ∷ []) ∷ (1, pos 5 ∷ []) ∷ []) ([]))
unfolding convert unary binary digits unescaped
end_of_a_call_needs_no_act = tells refl

-- main: z = add(2, 3); with one act
call_needs_its_acts : Tells (program (add ∷ gives [] [] (Invoke 1 (In z) 0 (num 2 ∷ num 3 ∷ []) Stop) ∷ []) 1) 1 [] NeedsMore
unfolding convert unary binary digits unescaped
call_needs_its_acts = tells refl

-- main: z = add(2, 3); with no act
call_needs_an_act : Tells (program (add ∷ gives [] [] (Invoke 1 (In z) 0 (num 2 ∷ num 3 ∷ []) Stop) ∷ []) 1) 0 [] NeedsMore
unfolding convert unary binary digits unescaped
call_needs_an_act = tells refl

-- main: nothing, with no act
empty_main : Tells (program (gives [] [] Stop ∷ []) 0) 0 [] (Ends [] [])
unfolding convert unary binary digits unescaped
empty_main = tells refl

-- main: int r = fact(3); each call has its own a and r
recursion : Tells (program (fact ∷ gives [] [] (Open 9 (Invoke 5 (New 9) 0 (num 3 ∷ []) Stop)) ∷ []) 1) 40 [] (Ends ((0, pos 1 ∷ []) ∷ (1, pos 3 ∷ []) ∷ (0, pos 1 ∷ []) ∷ (1, pos 2 ∷ []) ∷ (0, pos 1 ∷ []) ∷ (1, pos 1 ∷ []) ∷ (0, pos 1 ∷ []) ∷ (1, pos 0 ∷ []) ∷ (4, pos 1 ∷ []) ∷ (2, pos 1 ∷ []) ∷ (3, pos 1 ∷ []) ∷ (4, pos 1 ∷ []) ∷ (2, pos 1 ∷ []) ∷ (3, pos 2 ∷ []) ∷ (4, pos 2 ∷ []) ∷ (2, pos 2 ∷ []) ∷ (3, pos 6 ∷ []) ∷ (4, pos 6 ∷ []) ∷ (5, pos 6 ∷ []) ∷ []) ([]))
unfolding convert unary binary digits unescaped
recursion = tells refl

-- void f(void) { g = g + 1; return; } main: f(); f(); z = g;
global_in_a_function : Comes (gives_none [] [] (Do 0 (Set (g) (Bin Add g (num 1))) (Do 1 (GiveNothing) Stop))) (Invoke 2 Nowhere 0 [] (Invoke 3 Nowhere 0 [] (Do 4 (Set z g) Stop))) (Ends ((2, []) ∷ (0, pos 5 ∷ []) ∷ (1, []) ∷ (3, []) ∷ (0, pos 6 ∷ []) ∷ (1, []) ∷ (4, pos 6 ∷ []) ∷ []) ([]))
unfolding convert unary binary digits unescaped
global_in_a_function = tells refl

-- void f(void) { z = 1; } main: f(); g = z;
end_without_a_return : Comes (gives_none [] [] (Do 0 (Set (z) (num 1)) Stop)) (Invoke 1 Nowhere 0 [] (Do 2 (Set g z) Stop)) (Ends ((1, []) ∷ (0, pos 1 ∷ []) ∷ (2, pos 1 ∷ []) ∷ []) ([]))
unfolding convert unary binary digits unescaped
end_without_a_return = tells refl

-- int f(char c) { return c; } main: z = f(300);
parameter_is_converted : Comes (gives (8 ∷ []) [] (Do 0 (Give (Name 8)) Stop)) (Invoke 1 (In z) 0 (num 300 ∷ []) Stop) (Ends ((0, pos 44 ∷ []) ∷ (1, pos 44 ∷ []) ∷ []) ([]))
unfolding convert unary binary digits unescaped
parameter_is_converted = tells refl

-- char f(void) { return 200; } main: z = f();
result_is_converted : Comes (record { params = []; locals = []; result = Some (integer Char); code = Do 0 (Give (num 200)) Stop }) (Invoke 1 (In z) 0 [] Stop) (Ends ((0, negsuc 55 ∷ []) ∷ (1, negsuc 55 ∷ []) ∷ []) ([]))
unfolding convert unary binary digits unescaped
result_is_converted = tells refl

-- int f(void) { return 200; } main: char c = f();
stored_result_is_converted : Comes (gives [] [] (Do 0 (Give (num 200)) Stop)) (Open 8 (Invoke 1 (New 8) 0 [] Stop)) (Ends ((0, pos 200 ∷ []) ∷ (1, negsuc 55 ∷ []) ∷ []) ([]))
unfolding convert unary binary digits unescaped
stored_result_is_converted = tells refl

-- void f(int a) { a = 9; } main: int y = 1; f(y); z = y;
parameter_is_a_copy : Comes (gives_none (4 ∷ []) [] (Do 0 (Set (a) (num 9)) Stop)) (Open 9 (Do 1 (Start 9 (num 1)) (Invoke 2 Nowhere 0 (y ∷ []) (Do 3 (Set z y) Stop)))) (Ends ((1, pos 1 ∷ []) ∷ (2, []) ∷ (0, pos 9 ∷ []) ∷ (3, pos 1 ∷ []) ∷ []) ([]))
unfolding convert unary binary digits unescaped
parameter_is_a_copy = tells refl

-- void f(int *p) { *p = 9; } main: int y = 1; f(&y); z = y;
pointer_parameter : Comes (gives_none (7 ∷ []) [] (Do 0 (Set (Star p) (num 9)) Stop)) (Open 9 (Do 1 (Start 9 (num 1)) (Invoke 2 Nowhere 0 (Amp y ∷ []) (Do 3 (Set z y) Stop)))) (Ends ((1, pos 1 ∷ []) ∷ (2, []) ∷ (0, pos 9 ∷ []) ∷ (3, pos 9 ∷ []) ∷ []) ([]))
unfolding convert unary binary digits unescaped
pointer_parameter = tells refl

-- void f(int *p) { p[2] = 7; } main: f(v); z = v[2];
array_parameter : Comes (gives_none (7 ∷ []) [] (Do 0 (Set (Item p (num 2)) (num 7)) Stop)) (Invoke 1 Nowhere 0 (v ∷ []) (Do 2 (Set z (Item v (num 2))) Stop)) (Ends ((1, []) ∷ (0, pos 7 ∷ []) ∷ (2, pos 7 ∷ []) ∷ []) ([]))
unfolding convert unary binary digits unescaped
array_parameter = tells refl

-- int *f(int *p) { return p; } main: int y; int *p = f(&y); *p = 2; z = y;
pointer_result : Comes (record { params = 7 ∷ []; locals = []; result = Some (pointer_to int); code = Do 0 (Give p) Stop }) (Open 9 (Open 3 (Invoke 1 (New 3) 0 (Amp y ∷ []) (Do 2 (Set (Star n) (num 2)) (Do 3 (Set z y) Stop))))) (Ends ((0, pos 0 ∷ []) ∷ (1, pos 0 ∷ []) ∷ (2, pos 2 ∷ []) ∷ (3, pos 2 ∷ []) ∷ []) ([]))
unfolding convert unary binary digits unescaped
pointer_result = tells refl

-- int f(int *p) { return !p; } main: z = f(0);
null_parameter : Comes (gives (7 ∷ []) [] (Do 0 (Give (Un Not p)) Stop)) (Invoke 1 (In z) 0 (num 0 ∷ []) Stop) (Ends ((0, pos 1 ∷ []) ∷ (1, pos 1 ∷ []) ∷ []) ([]))
unfolding convert unary binary digits unescaped
null_parameter = tells refl

-- main: int *p = own(); z = *p; the callee's local is gone
local_is_gone : Comes own (Open 7 (Invoke 2 (New 7) 0 [] (Do 3 (Set z (Star p)) Stop))) (Fails 3)
unfolding convert unary binary digits unescaped
local_is_gone = tells refl

-- void f(int a) { n = &a; } main: f(1); z = *n;
parameter_is_gone : Comes (gives_none (4 ∷ []) [] (Do 0 (Set (n) (Amp a)) Stop)) (Invoke 1 Nowhere 0 (num 1 ∷ []) (Do 2 (Set z (Star n)) Stop)) (Fails 2)
unfolding convert unary binary digits unescaped
parameter_is_gone = tells refl

-- void f(int *p) { n = p; } main: int y = 6; f(&y); z = *n;
caller_is_not_gone : Comes (gives_none (7 ∷ []) [] (Do 0 (Set (n) (p)) Stop)) (Open 9 (Do 1 (Start 9 (num 6)) (Invoke 2 Nowhere 0 (Amp y ∷ []) (Do 3 (Set z (Star n)) Stop)))) (Ends ((1, pos 6 ∷ []) ∷ (2, []) ∷ (0, pos 0 ∷ []) ∷ (3, pos 6 ∷ []) ∷ []) ([]))
unfolding convert unary binary digits unescaped
caller_is_not_gone = tells refl

-- int f(int a) { return a + 2147483647; } main: z = f(1); the callee's statement is named
undefined_in_a_callee : Comes (gives (4 ∷ []) [] (Do 0 (Give (Bin Add a (num 2147483647))) Stop)) (Invoke 1 (In z) 0 (num 1 ∷ []) Stop) (Fails 0)
unfolding convert unary binary digits unescaped
undefined_in_a_callee = tells refl

-- main: int y; z = add(1, y);
unwritten_argument : Comes add (Open 9 (Invoke 1 (In z) 0 (num 1 ∷ y ∷ []) Stop)) (Fails 1)
unfolding convert unary binary digits unescaped
unwritten_argument = tells refl

-- main: *n = add(1, 2); names the call
undefined_store_of_a_result : Comes add (Invoke 1 (In (Star n)) 0 (num 1 ∷ num 2 ∷ []) Stop) (Fails 1)
unfolding convert unary binary digits unescaped
undefined_store_of_a_result = tells refl

-- main: *n = add(1, 2); with the two acts of the call and the return
undefined_store_needs_no_act : Tells (program (add ∷ gives [] [] (Invoke 1 (In (Star n)) 0 (num 1 ∷ num 2 ∷ []) Stop) ∷ []) 1) 2 [] (Fails 1)
unfolding convert unary binary digits unescaped
undefined_store_needs_no_act = tells refl

-- int f(void) { z = 2; return 5; } main: v[z] = f(); z = v[2];
left_side_after_the_call : Comes (gives [] [] (Do 0 (Set (z) (num 2)) (Do 1 (Give (num 5)) Stop))) (Invoke 2 (In (Item v z)) 0 [] (Do 3 (Set z (Item v (num 2))) Stop)) (Ends ((0, pos 2 ∷ []) ∷ (1, pos 5 ∷ []) ∷ (2, pos 5 ∷ []) ∷ (3, pos 5 ∷ []) ∷ []) ([]))
unfolding convert unary binary digits unescaped
left_side_after_the_call = tells refl

-- main: int y = f(y); the variable is in scope, and unwritten
own_block_before_the_arguments : Comes (gives (4 ∷ []) [] (Do 0 (Give a) Stop)) (Open 9 (Invoke 1 (New 9) 0 (y ∷ []) Stop)) (Fails 1)
unfolding convert unary binary digits unescaped
own_block_before_the_arguments = tells refl

-- int f(int a) { return a + 1; } main: for (z = 0; z <= 1; z = f(z)) g = z;
call_in_a_step : Comes (gives (4 ∷ []) [] (Do 0 (Give (Bin Add a (num 1))) Stop)) (Do 1 (Set z (num 0)) (Turns 2 (Bin AtMost z (num 1)) (Do 4 (Set g z) (Invoke 3 (In z) 0 (z ∷ []) Stop)) Stop)) (Ends ((1, pos 0 ∷ []) ∷ (2, pos 1 ∷ []) ∷ (4, pos 0 ∷ []) ∷ (0, pos 1 ∷ []) ∷ (3, pos 1 ∷ []) ∷ (2, pos 1 ∷ []) ∷ (4, pos 1 ∷ []) ∷ (0, pos 2 ∷ []) ∷ (3, pos 2 ∷ []) ∷ (2, pos 0 ∷ []) ∷ []) ([]))
unfolding convert unary binary digits unescaped
call_in_a_step = tells refl

-- main: z = getchar(); getchar(); z = getchar(); getchar(); on xy; -1 for ever after the last
bytes : Reads (120 ∷ 121 ∷ []) (Do 0 (Get (In z)) (Do 1 (Get Nowhere) (Do 2 (Get (In z)) (Do 3 (Get Nowhere) Stop)))) (Ends ((0, pos 120 ∷ []) ∷ (1, pos 121 ∷ []) ∷ (2, negsuc 0 ∷ []) ∷ (3, negsuc 0 ∷ []) ∷ []) ([]))
unfolding convert unary binary digits unescaped
bytes = tells refl

-- main: char c = getchar(); on the byte 200
byte_in_a_char : Reads (200 ∷ []) (Open 8 (Do 0 (Get (New 8)) Stop)) (Ends ((0, negsuc 55 ∷ []) ∷ []) ([]))
unfolding convert unary binary digits unescaped
byte_in_a_char = tells refl

-- main: *n = getchar(); an undefined act
byte_to_nowhere : Reads (120 ∷ []) (Do 0 (Get (In (Star n))) Stop) (Fails 0)
unfolding convert unary binary digits unescaped
byte_to_nowhere = tells refl

-- int f(void) { int y = getchar(); return y; } main: z = f(); g = f(); on xy
input_in_a_function : Tells (program (gives [] (9 ∷ []) (Open 9 (Do 0 (Get (New 9)) (Do 1 (Give y) Stop))) ∷ gives [] [] (Invoke 2 (In z) 0 [] (Invoke 3 (In g) 0 [] Stop)) ∷ []) 1) 20 (120 ∷ 121 ∷ []) (Ends ((0, pos 120 ∷ []) ∷ (1, pos 120 ∷ []) ∷ (2, pos 120 ∷ []) ∷ (0, pos 121 ∷ []) ∷ (1, pos 121 ∷ []) ∷ (3, pos 121 ∷ []) ∷ []) ([]))
unfolding convert unary binary digits unescaped
input_in_a_function = tells refl
