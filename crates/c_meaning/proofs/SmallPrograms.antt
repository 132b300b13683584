-- Small programs without calls, and what C99 says that they do: the events by statement, and the output.
use Rattle.std.proofs.Common.{ℕ, ℤ, pos, negsuc, List, [], ◌∷◌, Some, true, false, refl}
use Rattle.std.specs.Prelude.{codes}
use Rattle.std.specs.Fmt.{digits}
use Rattle.c_arith.specs.declared.int_type.IntType.{IntType}
use Rattle.c_arith.specs.declared.int_type.IntType.TheVariants.{Char, UChar, Int, UInt, Long}
use Rattle.c_arith.specs.declared.operators.UnaryOp.TheVariants.{Plus, Minus, Flip}
use Rattle.c_arith.specs.declared.operators.BinaryOp.TheVariants.{Mul, Div, Rem, Add, Sub, Shl, Shr, Less, Greater, AtLeast, Equal, Unequal, And, Xor, Or}
use Rattle.c_arith.specs.IntType.{convert}
use Rattle.c_arith.specs.Operators.{unary, binary}
use Rattle.c_language.specs.Constants.{unescaped}
use Rattle.c_language.specs.DeclaredTypes.{integer}
use Rattle.c_language.specs.Code.{is_true, either}
use Rattle.c_tree.specs.declared.statement.Label.{Label}
use Rattle.c_tree.specs.declared.statement.Label.TheVariants as label
use Rattle.c_meaning.specs.Values.{Types}
use Rattle.c_meaning.proofs.Small.{Small, K, Name, EndOfFile, Un, Bin, Both, Either, Pick, As, Par, Start, Set, SetBy, Bump, Put, Show, Give, SmallCode, Stop, Open, Do, Choice, Turns, Close, SmallArm, arm_at, tree, Tale, Ends, Fails, NeedsMore, ComesTo, comes}

-- each variable and member has one type, and main gives an int
abbrev of : IntType → Types
of t = record { typing = record { variable = λ x. integer t; member = λ m. integer t }; result = Some (integer Int) }

abbrev ints : Types
ints = of Int

abbrev num : ℕ → Small
num n = K Int n

abbrev neg : ℕ → Small
neg n = Un Minus (num n)

-- the least int, 0 - 2147483647 - 1
abbrev lowest : Small
lowest = Bin Sub (neg 2147483647) (num 1)

-- the first statement is `T x = a;`
abbrev begin : Small → SmallCode → SmallCode
begin a r = Open 0 (Do 0 (Start 0 a) r)

abbrev x : Small
x = Name 0

-- `T x = a;` alone
abbrev gives : Small → SmallCode
gives a = begin a Stop

abbrev is : ℤ → Tale
is z = Ends ((0, z ∷ []) ∷ []) []

-- the second statement is a printf of x
abbrev prints : List ℕ → Small → SmallCode
prints format a = begin a (Do 1 (Show format (x ∷ [])) Stop)

-- int x = 1; x = x + 2;
sum : ComesTo ints 2 (begin (num 1) (Do 1 (Set x (Bin Add x (num 2))) Stop)) (Ends ((0, pos 1 ∷ []) ∷ (1, pos 3 ∷ []) ∷ []) ([]))
unfolding convert unary binary digits unescaped
sum = comes refl

-- the same with one act
sum_more : ComesTo ints 1 (begin (num 1) (Do 1 (Set x (Bin Add x (num 2))) Stop)) (NeedsMore)
unfolding convert unary binary digits unescaped
sum_more = comes refl

-- 2147483647 + 1
sum_out_of_range : ComesTo ints 9 (gives (Bin Add (num 2147483647) (num 1))) (Fails 0)
unfolding convert unary binary digits unescaped
sum_out_of_range = comes refl

-- 4294967295u + 1u wraps
sum_of_unsigned : ComesTo (of UInt) 9 (gives (Bin Add (K UInt 4294967295) (K UInt 1))) (is (pos 0))
unfolding convert unary binary digits unescaped
sum_of_unsigned = comes refl

-- -2147483647 - 2
difference_out_of_range : ComesTo ints 9 (gives (Bin Sub (neg 2147483647) (num 2))) (Fails 0)
unfolding convert unary binary digits unescaped
difference_out_of_range = comes refl

-- 1u - 2u wraps
difference_of_unsigned : ComesTo (of UInt) 9 (gives (Bin Sub (K UInt 1) (K UInt 2))) (is (pos 4294967295))
unfolding convert unary binary digits unescaped
difference_of_unsigned = comes refl

-- 65536 * 65536
product_out_of_range : ComesTo ints 9 (gives (Bin Mul (num 65536) (num 65536))) (Fails 0)
unfolding convert unary binary digits unescaped
product_out_of_range = comes refl

-- 65536L * 65536
product_of_longs : ComesTo (of Long) 9 (gives (Bin Mul (K Long 65536) (num 65536))) (is (pos 4294967296))
unfolding convert unary binary digits unescaped
product_of_longs = comes refl

-- -7 / 2
quotient_toward_zero : ComesTo ints 9 (gives (Bin Div (neg 7) (num 2))) (is (negsuc 2))
unfolding convert unary binary digits unescaped
quotient_toward_zero = comes refl

-- 7 / 0
quotient_by_zero : ComesTo ints 9 (gives (Bin Div (num 7) (num 0))) (Fails 0)
unfolding convert unary binary digits unescaped
quotient_by_zero = comes refl

-- the least int / -1
quotient_out_of_range : ComesTo ints 9 (gives (Bin Div lowest (neg 1))) (Fails 0)
unfolding convert unary binary digits unescaped
quotient_out_of_range = comes refl

-- -7 % 2
remainder_of_negative : ComesTo ints 9 (gives (Bin Rem (neg 7) (num 2))) (is (negsuc 0))
unfolding convert unary binary digits unescaped
remainder_of_negative = comes refl

-- 7 % 0
remainder_by_zero : ComesTo ints 9 (gives (Bin Rem (num 7) (num 0))) (Fails 0)
unfolding convert unary binary digits unescaped
remainder_by_zero = comes refl

-- the least int % -1
remainder_out_of_range : ComesTo ints 9 (gives (Bin Rem lowest (neg 1))) (Fails 0)
unfolding convert unary binary digits unescaped
remainder_out_of_range = comes refl

-- int x = +(char) 200;
plus : ComesTo ints 9 (gives (Un Plus (As Char (num 200)))) (is (negsuc 55))
unfolding convert unary binary digits unescaped
plus = comes refl

-- int x = 3 > 3;
greater_of_equal : ComesTo ints 9 (gives (Bin Greater (num 3) (num 3))) (is (pos 0))
unfolding convert unary binary digits unescaped
greater_of_equal = comes refl

-- int x = -1 > 1u;
greater_of_unsigned : ComesTo ints 9 (gives (Bin Greater (neg 1) (K UInt 1))) (is (pos 1))
unfolding convert unary binary digits unescaped
greater_of_unsigned = comes refl

-- - the least int
minus_out_of_range : ComesTo ints 9 (gives (Un Minus lowest)) (Fails 0)
unfolding convert unary binary digits unescaped
minus_out_of_range = comes refl

-- -1u wraps
minus_of_unsigned : ComesTo (of UInt) 9 (gives (Un Minus (K UInt 1))) (is (pos 4294967295))
unfolding convert unary binary digits unescaped
minus_of_unsigned = comes refl

-- 3 << 4
left_shift : ComesTo ints 9 (gives (Bin Shl (num 3) (num 4))) (is (pos 48))
unfolding convert unary binary digits unescaped
left_shift = comes refl

-- -1 << 1
left_shift_of_negative : ComesTo ints 9 (gives (Bin Shl (neg 1) (num 1))) (Fails 0)
unfolding convert unary binary digits unescaped
left_shift_of_negative = comes refl

-- 1 << 31
left_shift_out_of_range : ComesTo ints 9 (gives (Bin Shl (num 1) (num 31))) (Fails 0)
unfolding convert unary binary digits unescaped
left_shift_out_of_range = comes refl

-- 1u << 32
left_shift_too_far : ComesTo (of UInt) 9 (gives (Bin Shl (K UInt 1) (num 32))) (Fails 0)
unfolding convert unary binary digits unescaped
left_shift_too_far = comes refl

-- 3u << 31 wraps
left_shift_of_unsigned : ComesTo (of UInt) 9 (gives (Bin Shl (K UInt 3) (num 31))) (is (pos 2147483648))
unfolding convert unary binary digits unescaped
left_shift_of_unsigned = comes refl

-- -5 >> 1 rounds down
right_shift_of_negative : ComesTo ints 9 (gives (Bin Shr (neg 5) (num 1))) (is (negsuc 2))
unfolding convert unary binary digits unescaped
right_shift_of_negative = comes refl

-- 5 >> -1
right_shift_by_negative : ComesTo ints 9 (gives (Bin Shr (num 5) (neg 1))) (Fails 0)
unfolding convert unary binary digits unescaped
right_shift_by_negative = comes refl

-- 5 >> 32
right_shift_too_far : ComesTo ints 9 (gives (Bin Shr (num 5) (num 32))) (Fails 0)
unfolding convert unary binary digits unescaped
right_shift_too_far = comes refl

-- (12 & 10) | (12 ^ 10), and ~0
bits : ComesTo ints 9 (gives (Bin Or (Par (Bin And (num 12) (num 10))) (Par (Bin Xor (num 12) (num 10))))) (is (pos 14))
unfolding convert unary binary digits unescaped
bits = comes refl

-- ~0
flipped : ComesTo ints 9 (gives (Un Flip (num 0))) (is (negsuc 0))
unfolding convert unary binary digits unescaped
flipped = comes refl

-- -1 < 1u compares as unsigned
compared_as_unsigned : ComesTo ints 9 (gives (Bin Less (neg 1) (K UInt 1))) (is (pos 0))
unfolding convert unary binary digits unescaped
compared_as_unsigned = comes refl

-- -1 < 1L compares as long
compared_as_long : ComesTo ints 9 (gives (Bin Less (neg 1) (K Long 1))) (is (pos 1))
unfolding convert unary binary digits unescaped
compared_as_long = comes refl

-- (2 >= 2) == (3 != 4)
compared : ComesTo ints 9 (gives (Bin Equal (Par (Bin AtLeast (num 2) (num 2))) (Par (Bin Unequal (num 3) (num 4))))) (is (pos 1))
unfolding convert unary binary digits unescaped
compared = comes refl

-- 0 && 1 / 0
not_evaluated_by_and : ComesTo ints 9 (gives (Both (num 0) (Bin Div (num 1) (num 0)))) (is (pos 0))
unfolding convert unary binary digits unescaped
not_evaluated_by_and = comes refl

-- 2 && 1 / 0
evaluated_by_and : ComesTo ints 9 (gives (Both (num 2) (Bin Div (num 1) (num 0)))) (Fails 0)
unfolding convert unary binary digits unescaped
evaluated_by_and = comes refl

-- 2 || 1 / 0
not_evaluated_by_or : ComesTo ints 9 (gives (Either (num 2) (Bin Div (num 1) (num 0)))) (is (pos 1))
unfolding convert unary binary digits unescaped
not_evaluated_by_or = comes refl

-- 0 || 1 / 0
evaluated_by_or : ComesTo ints 9 (gives (Either (num 0) (Bin Div (num 1) (num 0)))) (Fails 0)
unfolding convert unary binary digits unescaped
evaluated_by_or = comes refl

-- 1 ? -1 : 1u has the type unsigned int
one_chosen : ComesTo (of Long) 9 (gives (Pick (num 1) (neg 1) (K UInt 1))) (is (pos 4294967295))
unfolding convert unary binary digits unescaped
one_chosen = comes refl

-- 0 ? 1 / 0 : 5
other_not_evaluated : ComesTo ints 9 (gives (Pick (num 0) (Bin Div (num 1) (num 0)) (num 5))) (is (pos 5))
unfolding convert unary binary digits unescaped
other_not_evaluated = comes refl

-- (unsigned char)300
cast : ComesTo ints 9 (gives (As UChar (num 300))) (is (pos 44))
unfolding convert unary binary digits unescaped
cast = comes refl

-- char x = 200;
stored_as_char : ComesTo (of Char) 9 (gives (num 200)) (is (negsuc 55))
unfolding convert unary binary digits unescaped
stored_as_char = comes refl

-- a char 100 + 100 is an int: int x = (char)100 + (char)100;
promoted : ComesTo ints 9 (gives (Bin Add (As Char (num 100)) (As Char (num 100)))) (is (pos 200))
unfolding convert unary binary digits unescaped
promoted = comes refl

-- int x = EOF;
end_of_file : ComesTo ints 9 (gives EndOfFile) (is (negsuc 0))
unfolding convert unary binary digits unescaped
end_of_file = comes refl

-- int x; x = x;
not_written : ComesTo ints 9 (Open 0 (Do 0 (Set x x) Stop)) (Fails 0)
unfolding convert unary binary digits unescaped
not_written = comes refl

-- int x = x;
in_its_own_initialiser : ComesTo ints 9 (gives x) (Fails 0)
unfolding convert unary binary digits unescaped
in_its_own_initialiser = comes refl

-- int x = 7; x %= 4; x <<= 2;
compound : ComesTo ints 9 (begin (num 7) (Do 1 (SetBy Rem x (num 4)) (Do 2 (SetBy Shl x (num 2)) Stop))) (Ends ((0, pos 7 ∷ []) ∷ (1, pos 3 ∷ []) ∷ (2, pos 12 ∷ []) ∷ []) ([]))
unfolding convert unary binary digits unescaped
compound = comes refl

-- unsigned char x = 255; x += 2; wraps in the store
compound_as_char : ComesTo (of UChar) 9 (begin (num 255) (Do 1 (SetBy Add x (num 2)) Stop)) (Ends ((0, pos 255 ∷ []) ∷ (1, pos 1 ∷ []) ∷ []) ([]))
unfolding convert unary binary digits unescaped
compound_as_char = comes refl

-- int x = 5; x++; --x; x--;
bumped : ComesTo ints 9 (begin (num 5) (Do 1 (Bump x true) (Do 2 (Bump x false) (Do 3 (Bump x false) Stop)))) (Ends ((0, pos 5 ∷ []) ∷ (1, pos 6 ∷ []) ∷ (2, pos 5 ∷ []) ∷ (3, pos 4 ∷ []) ∷ []) ([]))
unfolding convert unary binary digits unescaped
bumped = comes refl

-- int x = 2147483647; x++;
bumped_out_of_range : ComesTo ints 9 (begin (num 2147483647) (Do 1 (Bump x true) Stop)) (Fails 1)
unfolding convert unary binary digits unescaped
bumped_out_of_range = comes refl

-- int x = 3; if (x) x = 1; else x = 2;
then_branch : ComesTo ints 9 (begin (num 3) (Choice 1 x (λ v. either (is_true v) (Do 2 (Set x (num 1)) Stop) (Do 3 (Set x (num 2)) Stop)) (Stop))) (Ends ((0, pos 3 ∷ []) ∷ (1, pos 3 ∷ []) ∷ (2, pos 1 ∷ []) ∷ []) ([]))
unfolding convert unary binary digits unescaped
then_branch = comes refl

-- int x = 0; if (x) x = 1; else x = 2;
else_branch : ComesTo ints 9 (begin (num 0) (Choice 1 x (λ v. either (is_true v) (Do 2 (Set x (num 1)) Stop) (Do 3 (Set x (num 2)) Stop)) (Stop))) (Ends ((0, pos 0 ∷ []) ∷ (1, pos 0 ∷ []) ∷ (3, pos 2 ∷ []) ∷ []) ([]))
unfolding convert unary binary digits unescaped
else_branch = comes refl

-- ---- switches

-- case k:
abbrev case_of : ℕ → Label
case_of k = label.Case (tree (num k)) (pos k)

-- case 1: case 2: x = 10; break; default: x = 20; break; case 3: x = 30; break;
abbrev arms : List SmallArm
arms =
    (record { labels = case_of 1 ∷ case_of 2 ∷ []; does = Do 2 (Set x (num 10)) Stop }) ∷ (record { labels = label.Default ∷ []; does = Do 3 (Set x (num 20)) Stop })
    ∷ (record { labels = case_of 3 ∷ []; does = Do 4 (Set x (num 30)) Stop }) ∷ []

-- int x = k; switch (x) { .. } x = x + 1;
abbrev switches : ℕ → List SmallArm → SmallCode
switches k as_ = begin (num k) (Choice 1 x (arm_at as_) (Do 5 (Set x (Bin Add x (num 1))) Stop))

-- of 2, the second label of an arm
second_label : ComesTo ints 9 (switches 2 arms) (Ends ((0, pos 2 ∷ []) ∷ (1, pos 2 ∷ []) ∷ (2, pos 10 ∷ []) ∷ (5, pos 11 ∷ []) ∷ []) [])
unfolding convert unary binary digits unescaped
second_label = comes refl

-- of 3, a case behind the default
case_behind_the_default : ComesTo ints 9 (switches 3 arms) (Ends ((0, pos 3 ∷ []) ∷ (1, pos 3 ∷ []) ∷ (4, pos 30 ∷ []) ∷ (5, pos 31 ∷ []) ∷ []) [])
unfolding convert unary binary digits unescaped
case_behind_the_default = comes refl

-- of 9, the default
default_is_taken : ComesTo ints 9 (switches 9 arms) (Ends ((0, pos 9 ∷ []) ∷ (1, pos 9 ∷ []) ∷ (3, pos 20 ∷ []) ∷ (5, pos 21 ∷ []) ∷ []) [])
unfolding convert unary binary digits unescaped
default_is_taken = comes refl

-- of 9, with no default
no_arm_is_taken : ComesTo ints 9 (switches 9 ((record { labels = case_of 1 ∷ []; does = Do 2 (Set x (num 10)) Stop }) ∷ [])) (Ends ((0, pos 9 ∷ []) ∷ (1, pos 9 ∷ []) ∷ (5, pos 10 ∷ []) ∷ []) [])
unfolding convert unary binary digits unescaped
no_arm_is_taken = comes refl

-- ---- loops

-- int x = 0; while (x < 2) x++;
while_loop : ComesTo ints 9 (begin (num 0) (Turns 1 (Bin Less x (num 2)) (Do 2 (Bump x true) Stop) Stop)) (Ends ((0, pos 0 ∷ []) ∷ (1, pos 1 ∷ []) ∷ (2, pos 1 ∷ []) ∷ (1, pos 1 ∷ []) ∷ (2, pos 2 ∷ []) ∷ (1, pos 0 ∷ []) ∷ []) ([]))
unfolding convert unary binary digits unescaped
while_loop = comes refl

-- int x = 1; while (x) x = 2;
endless_loop : ComesTo ints 6 (begin (num 1) (Turns 1 x (Do 2 (Set x (num 2)) Stop) Stop)) (NeedsMore)
unfolding convert unary binary digits unescaped
endless_loop = comes refl

-- int x = 5; do x++; while (x < 2);
do_loop : ComesTo ints 9 (begin (num 5) (Do 2 (Bump x true) (Turns 1 (Bin Less x (num 2)) (Do 2 (Bump x true) Stop) Stop))) (Ends ((0, pos 5 ∷ []) ∷ (2, pos 6 ∷ []) ∷ (1, pos 0 ∷ []) ∷ []) ([]))
unfolding convert unary binary digits unescaped
do_loop = comes refl

-- int x = 9; for (int i = 0; i < 2; i++) x = i;
for_loop : ComesTo ints 9 (begin (num 9) (Open 1 (Do 2 (Start 1 (num 0)) (Turns 1 (Bin Less (Name 1) (num 2)) (Do 4 (Set x (Name 1)) (Do 3 (Bump (Name 1) true) Stop)) (Close (1 ∷ []) Stop))))) (Ends ((0, pos 9 ∷ []) ∷ (2, pos 0 ∷ []) ∷ (1, pos 1 ∷ []) ∷ (4, pos 0 ∷ []) ∷ (3, pos 1 ∷ []) ∷ (1, pos 1 ∷ []) ∷ (4, pos 1 ∷ []) ∷ (3, pos 2 ∷ []) ∷ (1, pos 0 ∷ []) ∷ []) ([]))
unfolding convert unary binary digits unescaped
for_loop = comes refl

-- { int y = 1; } y = 2; where y is gone
gone_after_its_block : ComesTo ints 9 (Open 1 (Do 0 (Start 1 (num 1)) (Close (1 ∷ []) (Do 1 (Set (Name 1) (num 2)) Stop)))) (Fails 1)
unfolding convert unary binary digits unescaped
gone_after_its_block = comes refl

-- int x = 0; while (x < 2) { int y; if (x) x = y; y = 1; x++; } reads the new y unwritten
new_in_each_turn : ComesTo ints 9 (begin (num 0) (Turns 1 (Bin Less x (num 2)) (Open 1 (Choice 2 x (λ v. either (is_true v) (Do 3 (Set x (Name 1)) Stop) Stop) (Do 4 (Set (Name 1) (num 1)) (Do 5 (Bump x true) (Close (1 ∷ []) Stop))))) Stop)) (Fails 3)
unfolding convert unary binary digits unescaped
new_in_each_turn = comes refl

-- int x = 321; putchar(x);
putchar : ComesTo ints 9 (begin (num 321) (Do 1 (Put x) Stop)) (Ends ((0, pos 321 ∷ []) ∷ (1, pos 65 ∷ []) ∷ []) (65 ∷ []))
unfolding convert unary binary digits unescaped
putchar = comes refl

-- printf("%d\n", x) of -12
printed_d : ComesTo ints 9 (prints (codes "\"%d\\n\"") (neg 12)) (Ends ((0, negsuc 11 ∷ []) ∷ (1, negsuc 11 ∷ []) ∷ []) (codes "-12\n"))
unfolding convert unary binary digits unescaped
printed_d = comes refl

-- printf("%u", x) of the int -1
printed_u : ComesTo ints 9 (prints (codes "\"%u\"") (neg 1)) (Ends ((0, negsuc 0 ∷ []) ∷ (1, pos 4294967295 ∷ []) ∷ []) (codes "4294967295"))
unfolding convert unary binary digits unescaped
printed_u = comes refl

-- printf("%x", x) of 48879
printed_x : ComesTo ints 9 (prints (codes "\"%x\"") (num 48879)) (Ends ((0, pos 48879 ∷ []) ∷ (1, pos 48879 ∷ []) ∷ []) (codes "beef"))
unfolding convert unary binary digits unescaped
printed_x = comes refl

-- printf("%c", x) of 321
printed_c : ComesTo ints 9 (prints (codes "\"%c\"") (num 321)) (Ends ((0, pos 321 ∷ []) ∷ (1, pos 65 ∷ []) ∷ []) (codes "A"))
unfolding convert unary binary digits unescaped
printed_c = comes refl

-- printf("%ld", x) of the long -1
printed_ld : ComesTo (of Long) 9 (prints (codes "\"%ld\"") (neg 1)) (Ends ((0, negsuc 0 ∷ []) ∷ (1, negsuc 0 ∷ []) ∷ []) (codes "-1"))
unfolding convert unary binary digits unescaped
printed_ld = comes refl

-- printf("%lu", x) of the long -1
printed_lu : ComesTo (of Long) 9 (prints (codes "\"%lu\"") (neg 1)) (Ends ((0, negsuc 0 ∷ []) ∷ (1, pos 18446744073709551615 ∷ []) ∷ []) (codes "18446744073709551615"))
unfolding convert unary binary digits unescaped
printed_lu = comes refl

-- printf("%lx", x) of the long -1
printed_lx : ComesTo (of Long) 9 (prints (codes "\"%lx\"") (neg 1)) (Ends ((0, negsuc 0 ∷ []) ∷ (1, pos 18446744073709551615 ∷ []) ∷ []) (codes "ffffffffffffffff"))
unfolding convert unary binary digits unescaped
printed_lx = comes refl

-- printf("100%%: %d\t!", x)
printed_percent : ComesTo ints 9 (prints (codes "\"100%%: %d\\t!\"") (num 7)) (Ends ((0, pos 7 ∷ []) ∷ (1, pos 7 ∷ []) ∷ []) (codes "100%: 7\t!"))
unfolding convert unary binary digits unescaped
printed_percent = comes refl

-- int x = 4; return x + 1;
returned : ComesTo ints 9 (begin (num 4) (Do 1 (Give (Bin Add x (num 1))) Stop)) (Ends ((0, pos 4 ∷ []) ∷ (1, pos 5 ∷ []) ∷ []) ([]))
unfolding convert unary binary digits unescaped
returned = comes refl

-- return 4294967297L; from main
returned_converted : ComesTo ints 9 (Do 0 (Give (K Long 4294967297)) Stop) (Ends ((0, pos 1 ∷ []) ∷ []) ([]))
unfolding convert unary binary digits unescaped
returned_converted = comes refl
