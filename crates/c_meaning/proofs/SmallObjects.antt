-- Small programs with pointers, arrays, structs and malloc, and what C99 says that they do: the events by statement (a pointer by its index, a null pointer as -1), or the undefined act.
use Rattle.std.proofs.Common.{ℕ, pos, negsuc, List, [], ◌∷◌, Some, true, refl}
use Rattle.std.specs.Prelude.{slice_get, slice_index_or}
use Rattle.std.specs.Fmt.{digits}
use Rattle.std.specs.Option.{option_map_or}
use Rattle.c_arith.specs.declared.int_type.IntType.TheVariants.{Char, Int}
use Rattle.c_arith.specs.declared.operators.UnaryOp.TheVariants.{Minus, Not}
use Rattle.c_arith.specs.declared.operators.BinaryOp.TheVariants.{Add, Sub, Less, Greater, AtLeast, Equal, Unequal}
use Rattle.c_arith.specs.IntType.{convert}
use Rattle.c_arith.specs.Operators.{unary, binary}
use Rattle.c_language.specs.declared.expr_type.Base.TheVariants as base
use Rattle.c_language.specs.declared.expr_type.Layer.TheVariants as layer
use Rattle.c_language.specs.declared.expr_type.ExprType.{ExprType}
use Rattle.c_language.specs.Constants.{unescaped}
use Rattle.c_language.specs.DeclaredTypes.{integer, pointer_to, with_layer, of_base}
use Rattle.c_language.specs.Code.{is_true, either}
use Rattle.c_language.specs.TreeTypes.{Typing}
use Rattle.c_tree.specs.declared.expr.MemberId.{MemberId}
use Rattle.c_meaning.specs.Cells.{Structs}
use Rattle.c_meaning.proofs.Small.{Small, K, Name, Un, Bin, Both, Pick, Par, NullName, Star, Amp, Item, Dot, Arrow, In, New, One, Many, Times, Chars, Start, StartAll, Set, SetBy, Bump, Heap, Free, SmallCode, Stop, Open, Do, Choice, Close, SmallProgram, Zero, Tale, Ends, Fails, Tells, tells}

-- ---- the variables of all these programs

abbrev int : ExprType
int = integer Int

abbrev array : ℕ → ExprType → ExprType
array n t = with_layer (layer.Array n) t

-- struct s { int n; int v[2]; struct s *next; }; struct g { struct s parts[2]; int k; };
abbrev structs : Structs
structs =
    (int ∷ array 2 int ∷ pointer_to (of_base (base.Struct 0)) ∷ []) ∷ (array 2 (of_base (base.Struct 0)) ∷ int ∷ []) ∷ []

-- int x; int *p; int a[3]; int *q; struct s t; struct s *h; int m[2][3]; char *c; struct g g; int *b[2]; int **r; int y;
abbrev shapes : List ExprType
shapes =
    int ∷ pointer_to int ∷ array 3 int ∷ pointer_to int ∷ of_base (base.Struct 0) ∷ pointer_to (of_base (base.Struct 0))
    ∷ array 2 (array 3 int) ∷ pointer_to (integer Char) ∷ of_base (base.Struct 1) ∷ array 2 (pointer_to int)
    ∷ pointer_to (pointer_to int) ∷ int ∷ []

abbrev shape_at : List ExprType → ℕ → ExprType
shape_at ts i = option_map_or (λ (t : ExprType). t) (slice_get ts i) int

abbrev typing : Typing
typing = record { variable = shape_at shapes; member = λ m. shape_at (slice_index_or structs m.owner []) m.index }

-- main alone: all these variables are declared, and then this is done
abbrev doing : SmallCode → SmallProgram
doing c = record {
  typing = typing;
  structs = structs;
  globals = [];
  functions = (record { params = []; locals = []; result = Some int; code = Open 0 (Open 1 (Open 2 (Open 3 (Open 4 (Open 5 (Open 6 (Open 7 (Open 8 (Open 9 (Open 10 (Open 11 c))))))))))) }) ∷ [];
  main = 0;
}

abbrev x : Small
x = Name 0

abbrev p : Small
p = Name 1

abbrev a : Small
a = Name 2

abbrev q : Small
q = Name 3

abbrev t : Small
t = Name 4

abbrev h : Small
h = Name 5

abbrev m : Small
m = Name 6

abbrev g : Small
g = Name 8

abbrev b : Small
b = Name 9

abbrev r : Small
r = Name 10

abbrev y : Small
y = Name 11

abbrev num : ℕ → Small
num n = K Int n

-- the members of struct s, and those of struct g
abbrev n_of : MemberId
n_of = record { owner = 0; index = 0 }

abbrev v_of : MemberId
v_of = record { owner = 0; index = 1 }

abbrev next_of : MemberId
next_of = record { owner = 0; index = 2 }

abbrev parts_of : MemberId
parts_of = record { owner = 1; index = 0 }

-- a program comes to this within 20 acts
abbrev Comes : SmallCode → Tale → Type 0
Comes c told = Tells (doing c) 20 [] told

-- x = 5; p = &x; *p = 7; x = x + 1;
by_address : Comes (Do 0 (Set (x) (num 5)) (Do 1 (Set (p) (Amp x)) (Do 2 (Set (Star p) (num 7)) (Do 3 (Set (x) (Bin Add x (num 1))) Stop)))) (Ends ((0, pos 5 ∷ []) ∷ (1, pos 0 ∷ []) ∷ (2, pos 7 ∷ []) ∷ (3, pos 8 ∷ []) ∷ []) [])
unfolding convert unary binary digits unescaped
by_address = tells refl

-- int a[3] = {1, 2}; x = a[0] + a[1] + a[2]; the rest is 0
list_and_rest : Comes (Do 0 (StartAll 2 (num 1 ∷ num 2 ∷ [])) (Do 1 (Set (x) (Bin Add (Bin Add (Item a (num 0)) (Item a (num 1))) (Item a (num 2)))) Stop)) (Ends ((0, pos 1 ∷ pos 2 ∷ []) ∷ (1, pos 3 ∷ []) ∷ []) [])
unfolding convert unary binary digits unescaped
list_and_rest = tells refl

-- int *b[2] = {&x}; x = !b[1]; the rest is null
rest_is_null : Comes (Do 0 (StartAll 9 (Amp x ∷ [])) (Do 1 (Set (x) (Un Not (Item b (num 1)))) Stop)) (Ends ((0, pos 0 ∷ []) ∷ (1, pos 1 ∷ []) ∷ []) [])
unfolding convert unary binary digits unescaped
rest_is_null = tells refl

-- int a[3] = {1, a[0]}; all items are evaluated before
items_before_stores : Comes (Do 0 (StartAll 2 (num 1 ∷ Item a (num 0) ∷ [])) Stop) (Fails 0)
unfolding convert unary binary digits unescaped
items_before_stores = tells refl

-- a list with more items than the array has elements stores nothing
too_many_items : Comes (Do 0 (StartAll 9 (NullName ∷ NullName ∷ NullName ∷ [])) Stop) (Fails 0)
unfolding convert unary binary digits unescaped
too_many_items = tells refl

-- a[1] = 4; x = a[1];
element : Comes (Do 0 (Set (Item a (num 1)) (num 4)) (Do 1 (Set (x) (Item a (num 1))) Stop)) (Ends ((0, pos 4 ∷ []) ∷ (1, pos 4 ∷ []) ∷ []) [])
unfolding convert unary binary digits unescaped
element = tells refl

-- a[1] = 4; x = a[0];
element_unwritten : Comes (Do 0 (Set (Item a (num 1)) (num 4)) (Do 1 (Set (x) (Item a (num 0))) Stop)) (Fails 1)
unfolding convert unary binary digits unescaped
element_unwritten = tells refl

-- a[3] = 1;
index_at_length : Comes (Do 0 (Set (Item a (num 3)) (num 1)) Stop) (Fails 0)
unfolding convert unary binary digits unescaped
index_at_length = tells refl

-- a[-1] = 1;
index_negative : Comes (Do 0 (Set (Item a (Un Minus (num 1))) (num 1)) Stop) (Fails 0)
unfolding convert unary binary digits unescaped
index_negative = tells refl

-- a[2] = 6; p = a; p++; ++p; x = *p;
walk : Comes (Do 0 (Set (Item a (num 2)) (num 6)) (Do 1 (Set (p) (a)) (Do 2 (Bump p true) (Do 3 (Bump p true) (Do 4 (Set (x) (Star p)) Stop))))) (Ends ((0, pos 6 ∷ []) ∷ (1, pos 0 ∷ []) ∷ (2, pos 1 ∷ []) ∷ (3, pos 2 ∷ []) ∷ (4, pos 6 ∷ []) ∷ []) [])
unfolding convert unary binary digits unescaped
walk = tells refl

-- p = &a[2]; p -= 2; x = p == a;
walk_back : Comes (Do 0 (Set (p) (Amp (Item a (num 2)))) (Do 1 (SetBy Sub p (num 2)) (Do 2 (Set (x) (Bin Equal p a)) Stop))) (Ends ((0, pos 2 ∷ []) ∷ (1, pos 0 ∷ []) ∷ (2, pos 1 ∷ []) ∷ []) [])
unfolding convert unary binary digits unescaped
walk_back = tells refl

-- a[1] = 3; p = 1 + a; x = p[0];
number_and_pointer : Comes (Do 0 (Set (Item a (num 1)) (num 3)) (Do 1 (Set (p) (Bin Add (num 1) a)) (Do 2 (Set (x) (Item p (num 0))) Stop))) (Ends ((0, pos 3 ∷ []) ∷ (1, pos 1 ∷ []) ∷ (2, pos 3 ∷ []) ∷ []) [])
unfolding convert unary binary digits unescaped
number_and_pointer = tells refl

-- p = &a[3]; points behind the last element
end_of_array : Comes (Do 0 (Set (p) (Amp (Item a (num 3)))) Stop) (Ends ((0, pos 3 ∷ []) ∷ []) [])
unfolding convert unary binary digits unescaped
end_of_array = tells refl

-- p = a + 3; x = *p;
end_is_not_read : Comes (Do 0 (Set (p) (Bin Add a (num 3))) (Do 1 (Set (x) (Star p)) Stop)) (Fails 1)
unfolding convert unary binary digits unescaped
end_is_not_read = tells refl

-- p = a + 4;
moved_past_the_end : Comes (Do 0 (Set (p) (Bin Add a (num 4))) Stop) (Fails 0)
unfolding convert unary binary digits unescaped
moved_past_the_end = tells refl

-- p = a - 1;
moved_before_the_start : Comes (Do 0 (Set (p) (Bin Sub a (num 1))) Stop) (Fails 0)
unfolding convert unary binary digits unescaped
moved_before_the_start = tells refl

-- p = &x; p++; p++; a single object has length 1
end_of_object : Comes (Do 0 (Set (p) (Amp x)) (Do 1 (Bump p true) (Do 2 (Bump p true) Stop))) (Fails 2)
unfolding convert unary binary digits unescaped
end_of_object = tells refl

-- x = 5; p = &x; p++; x = *p;
end_of_object_is_not_read : Comes (Do 0 (Set (x) (num 5)) (Do 1 (Set (p) (Amp x)) (Do 2 (Bump p true) (Do 3 (Set (x) (Star p)) Stop)))) (Fails 3)
unfolding convert unary binary digits unescaped
end_of_object_is_not_read = tells refl

-- p = &a[2]; x = p - a;
difference : Comes (Do 0 (Set (p) (Amp (Item a (num 2)))) (Do 1 (Set (x) (Bin Sub p a)) Stop)) (Ends ((0, pos 2 ∷ []) ∷ (1, pos 2 ∷ []) ∷ []) [])
unfolding convert unary binary digits unescaped
difference = tells refl

-- p = &x; x = p - a;
difference_of_two_blocks : Comes (Do 0 (Set (p) (Amp x)) (Do 1 (Set (x) (Bin Sub p a)) Stop)) (Fails 1)
unfolding convert unary binary digits unescaped
difference_of_two_blocks = tells refl

-- x = &a[1] < &a[2]; x = &a[1] >= &a[2];
order : Comes (Do 0 (Set (x) (Bin Less (Amp (Item a (num 1))) (Amp (Item a (num 2))))) (Do 1 (Set (x) (Bin AtLeast (Amp (Item a (num 1))) (Amp (Item a (num 2))))) Stop)) (Ends ((0, pos 1 ∷ []) ∷ (1, pos 0 ∷ []) ∷ []) [])
unfolding convert unary binary digits unescaped
order = tells refl

-- x = &a[2] > &a[1]; x = &a[1] > &a[1];
order_the_other_way : Comes (Do 0 (Set x (Bin Greater (Amp (Item a (num 2))) (Amp (Item a (num 1))))) (Do 1 (Set x (Bin Greater (Amp (Item a (num 1))) (Amp (Item a (num 1))))) Stop)) (Ends ((0, pos 1 ∷ []) ∷ (1, pos 0 ∷ []) ∷ []) [])
unfolding convert unary binary digits unescaped
order_the_other_way = tells refl

-- x = &x < &y;
order_of_two_blocks : Comes (Do 0 (Set (x) (Bin Less (Amp x) (Amp y))) Stop) (Fails 0)
unfolding convert unary binary digits unescaped
order_of_two_blocks = tells refl

-- x = &x == &y; x = &x != &y;
unequal_blocks : Comes (Do 0 (Set (x) (Bin Equal (Amp x) (Amp y))) (Do 1 (Set (x) (Bin Unequal (Amp x) (Amp y))) Stop)) (Ends ((0, pos 0 ∷ []) ∷ (1, pos 1 ∷ []) ∷ []) [])
unfolding convert unary binary digits unescaped
unequal_blocks = tells refl

-- x = a + 3 == &x; an end may be the start of another object
end_and_start : Comes (Do 0 (Set (x) (Bin Equal (Bin Add a (num 3)) (Amp x))) Stop) (Fails 0)
unfolding convert unary binary digits unescaped
end_and_start = tells refl

-- p = a + 3; x = p == a; in one array both are told apart
end_of_its_own : Comes (Do 0 (Set (p) (Bin Add a (num 3))) (Do 1 (Set (x) (Bin Equal p a)) Stop)) (Ends ((0, pos 3 ∷ []) ∷ (1, pos 0 ∷ []) ∷ []) [])
unfolding convert unary binary digits unescaped
end_of_its_own = tells refl

-- p = 0; x = p == NULL; x = !p; x = &x == 0;
null_is_zero : Comes (Do 0 (Set (p) (num 0)) (Do 1 (Set (x) (Bin Equal p NullName)) (Do 2 (Set (x) (Un Not p)) (Do 3 (Set (x) (Bin Equal (Amp x) (num 0))) Stop)))) (Ends ((0, negsuc 0 ∷ []) ∷ (1, pos 1 ∷ []) ∷ (2, pos 1 ∷ []) ∷ (3, pos 0 ∷ []) ∷ []) [])
unfolding convert unary binary digits unescaped
null_is_zero = tells refl

-- p = NULL; x = *p;
null_is_not_read : Comes (Do 0 (Set (p) (NullName)) (Do 1 (Set (x) (Star p)) Stop)) (Fails 1)
unfolding convert unary binary digits unescaped
null_is_not_read = tells refl

-- p = NULL; q = p + 0;
null_is_not_moved : Comes (Do 0 (Set (p) (NullName)) (Do 1 (Set (q) (Bin Add p (num 0))) Stop)) (Fails 1)
unfolding convert unary binary digits unescaped
null_is_not_moved = tells refl

-- p = NULL; q = &*p; x = !q; q = &p[0]; the last one is p + 0
null_has_no_element : Comes (Do 0 (Set (p) (NullName)) (Do 1 (Set (q) (Amp (Star p))) (Do 2 (Set (x) (Un Not q)) (Do 3 (Set (q) (Amp (Item p (num 0)))) Stop)))) (Fails 3)
unfolding convert unary binary digits unescaped
null_has_no_element = tells refl

-- p = NULL; q = &*p; x = !q;
address_of_target_is_null : Comes (Do 0 (Set (p) (NullName)) (Do 1 (Set (q) (Amp (Star p))) (Do 2 (Set (x) (Un Not q)) Stop))) (Ends ((0, negsuc 0 ∷ []) ∷ (1, negsuc 0 ∷ []) ∷ (2, pos 1 ∷ []) ∷ []) [])
unfolding convert unary binary digits unescaped
address_of_target_is_null = tells refl

-- p = &x; if (p) x = 1; else x = 2;
pointer_as_test : Comes (Do 0 (Set p (Amp x)) (Choice 1 p (λ v. either (is_true v) (Do 2 (Set x (num 1)) Stop) (Do 3 (Set x (num 2)) Stop)) Stop)) (Ends ((0, pos 0 ∷ []) ∷ (1, pos 1 ∷ []) ∷ (2, pos 1 ∷ []) ∷ []) [])
unfolding convert unary binary digits unescaped
pointer_as_test = tells refl

-- x = a && 2;
array_as_test : Comes (Do 0 (Set (x) (Both a (num 2))) Stop) (Ends ((0, pos 1 ∷ []) ∷ []) [])
unfolding convert unary binary digits unescaped
array_as_test = tells refl

-- p = 0 ? &x : 0; x = !p; p = 1 ? a + 1 : 0;
chosen_pointer : Comes (Do 0 (Set (p) (Pick (num 0) (Amp x) (num 0))) (Do 1 (Set (x) (Un Not p)) (Do 2 (Set (p) (Pick (num 1) (Bin Add a (num 1)) (num 0))) Stop))) (Ends ((0, negsuc 0 ∷ []) ∷ (1, pos 1 ∷ []) ∷ (2, pos 1 ∷ []) ∷ []) [])
unfolding convert unary binary digits unescaped
chosen_pointer = tells refl

-- r = &p; *r = &x; **r = 3; x = x + *p;
pointer_to_pointer : Comes (Do 0 (Set (r) (Amp p)) (Do 1 (Set (Star r) (Amp x)) (Do 2 (Set (Star (Star r)) (num 3)) (Do 3 (Set (x) (Bin Add x (Star p))) Stop)))) (Ends ((0, pos 0 ∷ []) ∷ (1, pos 0 ∷ []) ∷ (2, pos 3 ∷ []) ∷ (3, pos 6 ∷ []) ∷ []) [])
unfolding convert unary binary digits unescaped
pointer_to_pointer = tells refl

-- { int y = 1; p = &y; } x = p == p; q = p + 1; x = *p; only the read is undefined
gone : Comes (Open 11 (Do 0 (Start 11 (num 1)) (Do 1 (Set p (Amp y)) (Close (11 ∷ []) (Do 2 (Set x (Bin Equal p p)) (Do 3 (Set q (Bin Add p (num 1))) (Do 4 (Set x (Star p)) Stop))))))) (Fails 4)
unfolding convert unary binary digits unescaped
gone = tells refl

-- { int y; p = &y; } *p = 1;
gone_is_not_written : Comes (Open 11 (Do 0 (Set p (Amp y)) (Close (11 ∷ []) (Do 1 (Set (Star p) (num 1)) Stop)))) (Fails 1)
unfolding convert unary binary digits unescaped
gone_is_not_written = tells refl

-- t.n = 3; t.v[1] = 4; x = t.n + t.v[1];
members : Comes (Do 0 (Set (Dot t n_of) (num 3)) (Do 1 (Set (Item (Dot t v_of) (num 1)) (num 4)) (Do 2 (Set (x) (Bin Add (Dot t n_of) (Item (Dot t v_of) (num 1)))) Stop))) (Ends ((0, pos 3 ∷ []) ∷ (1, pos 4 ∷ []) ∷ (2, pos 7 ∷ []) ∷ []) [])
unfolding convert unary binary digits unescaped
members = tells refl

-- h = &t; h->n = 2; h->next = h; x = t.next->n;
member_by_pointer : Comes (Do 0 (Set (h) (Amp t)) (Do 1 (Set (Arrow h n_of) (num 2)) (Do 2 (Set (Arrow h next_of) (h)) (Do 3 (Set (x) (Arrow (Dot t next_of) n_of)) Stop)))) (Ends ((0, pos 0 ∷ []) ∷ (1, pos 2 ∷ []) ∷ (2, pos 0 ∷ []) ∷ (3, pos 2 ∷ []) ∷ []) [])
unfolding convert unary binary digits unescaped
member_by_pointer = tells refl

-- t.v[0] = 5; p = t.v; p++; *p = 8; x = p - &t.v[0]; x = t.v[1];
member_array : Comes (Do 0 (Set (Item (Dot t v_of) (num 0)) (num 5)) (Do 1 (Set (p) (Dot t v_of)) (Do 2 (Bump p true) (Do 3 (Set (Star p) (num 8)) (Do 4 (Set (x) (Bin Sub p (Amp (Item (Dot t v_of) (num 0))))) (Do 5 (Set (x) (Item (Dot t v_of) (num 1))) Stop)))))) (Ends ((0, pos 5 ∷ []) ∷ (1, pos 0 ∷ []) ∷ (2, pos 1 ∷ []) ∷ (3, pos 8 ∷ []) ∷ (4, pos 1 ∷ []) ∷ (5, pos 8 ∷ []) ∷ []) [])
unfolding convert unary binary digits unescaped
member_array = tells refl

-- g.parts[1].v[1] = 9; x = g.parts[1].v[1]; h = &g.parts[1]; x = h->v[1] - 1; x = g.parts[0].v[1]; the last one is unwritten
nested_structs : Comes (Do 0 (Set (Item (Dot (Item (Dot g parts_of) (num 1)) v_of) (num 1)) (num 9)) (Do 1 (Set (x) (Item (Dot (Item (Dot g parts_of) (num 1)) v_of) (num 1))) (Do 2 (Set (h) (Amp (Item (Dot g parts_of) (num 1)))) (Do 3 (Set (x) (Bin Sub (Item (Arrow h v_of) (num 1)) (num 1))) (Do 4 (Set (x) (Item (Dot (Item (Dot g parts_of) (num 0)) v_of) (num 1))) Stop))))) (Fails 4)
unfolding convert unary binary digits unescaped
nested_structs = tells refl

-- m[1][2] = 5; p = m[1]; x = p[2]; x = (*(m + 1))[2]; x = m[0][2]; the last one is unwritten
two_dimensions : Comes (Do 0 (Set (Item (Item m (num 1)) (num 2)) (num 5)) (Do 1 (Set (p) (Item m (num 1))) (Do 2 (Set (x) (Item p (num 2))) (Do 3 (Set (x) (Item (Par (Star (Par (Bin Add m (num 1))))) (num 2))) (Do 4 (Set (x) (Item (Item m (num 0)) (num 2))) Stop))))) (Fails 4)
unfolding convert unary binary digits unescaped
two_dimensions = tells refl

-- m[1][0] = 5; x = m[0][1]; is unwritten
rows_apart : Comes (Do 0 (Set (Item (Item m (num 1)) (num 0)) (num 5)) (Do 1 (Set (x) (Item (Item m (num 0)) (num 1))) Stop)) (Fails 1)
unfolding convert unary binary digits unescaped
rows_apart = tells refl

-- g.parts[1].n = 5; x = g.parts[0].v[0]; is unwritten
structs_apart : Comes (Do 0 (Set (Dot (Item (Dot g parts_of) (num 1)) n_of) (num 5)) (Do 1 (Set (x) (Item (Dot (Item (Dot g parts_of) (num 0)) v_of) (num 0))) Stop)) (Fails 1)
unfolding convert unary binary digits unescaped
structs_apart = tells refl

-- p = m[0]; p = p + 3; x = *p; a row ends at its length
row_has_its_own_end : Comes (Do 0 (Set (p) (Item m (num 0))) (Do 1 (Set (p) (Bin Add p (num 3))) (Do 2 (Set (x) (Star p)) Stop))) (Fails 2)
unfolding convert unary binary digits unescaped
row_has_its_own_end = tells refl

-- p = &t.n; *p = 4; x = t.n; p++; a member that is no array has length 1
pointer_to_member : Comes (Do 0 (Set (p) (Amp (Dot t n_of))) (Do 1 (Set (Star p) (num 4)) (Do 2 (Set (x) (Dot t n_of)) (Do 3 (Bump p true) Stop)))) (Ends ((0, pos 0 ∷ []) ∷ (1, pos 4 ∷ []) ∷ (2, pos 4 ∷ []) ∷ (3, pos 1 ∷ []) ∷ []) [])
unfolding convert unary binary digits unescaped
pointer_to_member = tells refl

-- int *b[2] = {&x, a + 1}; *b[0] = 2; *b[1] = 3; x = x + a[1];
pointers_in_a_list : Comes (Do 0 (StartAll 9 (Amp x ∷ Bin Add a (num 1) ∷ [])) (Do 1 (Set (Star (Item b (num 0))) (num 2)) (Do 2 (Set (Star (Item b (num 1))) (num 3)) (Do 3 (Set (x) (Bin Add x (Item a (num 1)))) Stop)))) (Ends ((0, pos 0 ∷ pos 1 ∷ []) ∷ (1, pos 2 ∷ []) ∷ (2, pos 3 ∷ []) ∷ (3, pos 5 ∷ []) ∷ []) [])
unfolding convert unary binary digits unescaped
pointers_in_a_list = tells refl

-- p = &t; x = *p; which no rule lets pass: there is no int
another_type : Comes (Do 0 (Set (p) (Amp t)) (Do 1 (Set (x) (Star p)) Stop)) (Fails 1)
unfolding convert unary binary digits unescaped
another_type = tells refl

-- x = 5; c = &x; x = *c; which no rule lets pass: an int is no char
another_integer : Comes (Do 0 (Set (x) (num 5)) (Do 1 (Set (Name 7) (Amp x)) (Do 2 (Set (x) (Star (Name 7))) Stop))) (Fails 2)
unfolding convert unary binary digits unescaped
another_integer = tells refl

-- h = &g; x = h->n; which no rule lets pass: there is no struct s
another_struct : Comes (Do 0 (Set (h) (Amp g)) (Do 1 (Set (x) (Arrow h n_of)) Stop)) (Fails 1)
unfolding convert unary binary digits unescaped
another_struct = tells refl

-- x = &t; which no rule lets pass
pointer_as_integer : Comes (Do 0 (Set (x) (Amp t)) Stop) (Fails 0)
unfolding convert unary binary digits unescaped
pointer_as_integer = tells refl

-- struct g g, as a global: x = g.parts[1].v[1]; x = !g.parts[1].next; all is 0 and null
global_struct : Tells (record (doing (Stop)) { globals = (record { variable = 8; init = Zero }) ∷ []; functions = (record { params = []; locals = []; result = Some int; code = Open 0 (Do 0 (Set (x) (Item (Dot (Item (Dot g parts_of) (num 1)) v_of) (num 1))) (Do 1 (Set (x) (Un Not (Dot (Item (Dot g parts_of) (num 1)) next_of))) Stop)) }) ∷ [] }) 20 [] (Ends ((0, pos 0 ∷ []) ∷ (1, pos 1 ∷ []) ∷ []) [])
unfolding convert unary binary digits unescaped
global_struct = tells refl

-- p = malloc(2 * sizeof *p); p[1] = 6; x = p[1]; free(p);
heap : Comes (Do 0 (Heap (In p) (Many (num 2) 1)) (Do 1 (Set (Item p (num 1)) (num 6)) (Do 2 (Set (x) (Item p (num 1))) (Do 3 (Free p) Stop)))) (Ends ((0, pos 0 ∷ []) ∷ (1, pos 6 ∷ []) ∷ (2, pos 6 ∷ []) ∷ (3, pos 0 ∷ []) ∷ []) [])
unfolding convert unary binary digits unescaped
heap = tells refl

-- p = malloc(sizeof *p * 2); p[1] = 6; x = p[1];
heap_of_a_size : Comes (Do 0 (Heap (In p) (Times 1 (num 2))) (Do 1 (Set (Item p (num 1)) (num 6)) (Do 2 (Set x (Item p (num 1))) Stop))) (Ends ((0, pos 0 ∷ []) ∷ (1, pos 6 ∷ []) ∷ (2, pos 6 ∷ []) ∷ []) [])
unfolding convert unary binary digits unescaped
heap_of_a_size = tells refl

-- p = malloc(sizeof *p * 2); p[2] = 6;
heap_ends_there : Comes (Do 0 (Heap (In p) (Times 1 (num 2))) (Do 1 (Set (Item p (num 2)) (num 6)) Stop)) (Fails 1)
unfolding convert unary binary digits unescaped
heap_ends_there = tells refl

-- int *q = malloc(sizeof *q); *q = 6; x = *q;
heap_in_a_declaration : Comes (Do 0 (Heap (New 3) (One 3)) (Do 1 (Set (Star q) (num 6)) (Do 2 (Set x (Star q)) Stop))) (Ends ((0, pos 0 ∷ []) ∷ (1, pos 6 ∷ []) ∷ (2, pos 6 ∷ []) ∷ []) [])
unfolding convert unary binary digits unescaped
heap_in_a_declaration = tells refl

-- p = malloc(sizeof *p); x = *p;
heap_unwritten : Comes (Do 0 (Heap (In p) (One 1)) (Do 1 (Set (x) (Star p)) Stop)) (Fails 1)
unfolding convert unary binary digits unescaped
heap_unwritten = tells refl

-- h = malloc(sizeof *h); h->n = 4; h->next = NULL; x = h->n + !h->next;
heap_node : Comes (Do 0 (Heap (In h) (One 5)) (Do 1 (Set (Arrow h n_of) (num 4)) (Do 2 (Set (Arrow h next_of) (NullName)) (Do 3 (Set (x) (Bin Add (Arrow h n_of) (Un Not (Arrow h next_of)))) Stop)))) (Ends ((0, pos 0 ∷ []) ∷ (1, pos 4 ∷ []) ∷ (2, negsuc 0 ∷ []) ∷ (3, pos 5 ∷ []) ∷ []) [])
unfolding convert unary binary digits unescaped
heap_node = tells refl

-- c = malloc(3); c[2] = 200; x = c[2];
heap_chars : Comes (Do 0 (Heap (In (Name 7)) (Chars (num 3))) (Do 1 (Set (Item (Name 7) (num 2)) (num 200)) (Do 2 (Set (x) (Item (Name 7) (num 2))) Stop))) (Ends ((0, pos 0 ∷ []) ∷ (1, negsuc 55 ∷ []) ∷ (2, negsuc 55 ∷ []) ∷ []) [])
unfolding convert unary binary digits unescaped
heap_chars = tells refl

-- p = malloc(sizeof *p); *p = 1; free(p); x = *p;
freed_is_not_read : Comes (Do 0 (Heap (In p) (One 1)) (Do 1 (Set (Star p) (num 1)) (Do 2 (Free p) (Do 3 (Set (x) (Star p)) Stop)))) (Fails 3)
unfolding convert unary binary digits unescaped
freed_is_not_read = tells refl

-- p = malloc(sizeof *p); free(p); free(p);
freed_twice : Comes (Do 0 (Heap (In p) (One 1)) (Do 1 (Free p) (Do 2 (Free p) Stop))) (Fails 2)
unfolding convert unary binary digits unescaped
freed_twice = tells refl

-- p = malloc(2 * sizeof *p); free(p + 1);
freed_inside : Comes (Do 0 (Heap (In p) (Many (num 2) 1)) (Do 1 (Free (Bin Add p (num 1))) Stop)) (Fails 1)
unfolding convert unary binary digits unescaped
freed_inside = tells refl

-- free(&x);
freed_variable : Comes (Do 0 (Free (Amp x)) Stop) (Fails 0)
unfolding convert unary binary digits unescaped
freed_variable = tells refl

-- free(NULL);
freed_null : Comes (Do 0 (Free NullName) Stop) (Ends ((0, negsuc 0 ∷ []) ∷ []) [])
unfolding convert unary binary digits unescaped
freed_null = tells refl

-- p = malloc(0 * sizeof *p);
heap_of_none : Comes (Do 0 (Heap (In p) (Many (num 0) 1)) Stop) (Fails 0)
unfolding convert unary binary digits unescaped
heap_of_none = tells refl

-- p = malloc(-1 * sizeof *p);
heap_of_negative : Comes (Do 0 (Heap (In p) (Many (Un Minus (num 1)) 1)) Stop) (Fails 0)
unfolding convert unary binary digits unescaped
heap_of_negative = tells refl

-- p = malloc(1048576 * sizeof *p);
heap_of_the_most : Comes (Do 0 (Heap (In p) (Many (num 1048576) 1)) Stop) (Ends ((0, pos 0 ∷ []) ∷ []) [])
unfolding convert unary binary digits unescaped
heap_of_the_most = tells refl

-- p = malloc(1048577 * sizeof *p);
heap_of_too_many : Comes (Do 0 (Heap (In p) (Many (num 1048577) 1)) Stop) (Fails 0)
unfolding convert unary binary digits unescaped
heap_of_too_many = tells refl
