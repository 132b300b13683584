-- Small statements in which types fit, and others, which no text has, in which they don't.
use Rattle.std.proofs.Common.{◌≡◌, [], ◌∷◌, true, false, Some, None, refl}
use Rattle.std.specs.Prelude.{codes}
use Rattle.c_arith.specs.declared.int_type.IntType.TheVariants.{Int, Char}
use Rattle.c_arith.specs.declared.operators.BinaryOp.TheVariants.{Add}
use Rattle.c_tree.specs.declared.expr.Expr.{Expr}
use Rattle.c_tree.specs.declared.expr.Expr.TheVariants as e
use Rattle.c_tree.specs.declared.program.Init.TheVariants as init
use Rattle.c_tree.specs.declared.statement.Amount.TheVariants as amount
use Rattle.c_tree.specs.declared.statement.Size.TheVariants as size
use Rattle.c_tree.specs.declared.statement.Target.TheVariants as target
use Rattle.c_tree.specs.declared.types.CType.TheVariants as type
use Rattle.c_language.specs.Code.{Begins, Sets, Bumps, Fetches, Writes, Prints, Allocates, Frees, Returns, Tests}
use Rattle.c_language.specs.Constants.{unescaped}
use Rattle.c_language.specs.DeclaredTypes.{integer, pointer_to, with_layer, of_base}
use Rattle.c_language.specs.declared.expr_type.Base.TheVariants.{Struct}
use Rattle.c_language.specs.declared.expr_type.Layer.TheVariants.{Array}
use Rattle.c_language.specs.declared.expr_type.ExprType.{ExprType}
use Rattle.dep_model.specs.Doings.{Does, Calls}
use Rattle.tree_types.proofs.TypeForms.{shapes_of}
use Rattle.typed_programs.specs.TreeOperands.{Declarations}
use Rattle.typed_programs.specs.TypedStatements.{is_number, doing_fits}
use Rattle.typed_programs.proofs.OperandForms.{operands_of}

-- ---- what all of them declare

abbrev int : ExprType
int = integer Int

-- int a; int *p; char c; int v[3]; struct s r; struct s *t; char *k; int (*w)[3]; and the functions int f(int a); void g(int *p); int *h(void);
abbrev d : Declarations
d = record {
  variables =
      int ∷ pointer_to int ∷ integer Char ∷ with_layer (Array 3) int ∷ of_base (Struct 0) ∷ pointer_to (of_base (Struct 0)) ∷ pointer_to (integer Char)
      ∷ pointer_to (with_layer (Array 3) int) ∷ [];
  -- struct s { int m; }; struct o { int m; };
  structs =
      (record { name = codes "s"; members = (record { name = codes "m"; shape = type.Integer Int }) ∷ [] })
      ∷ (record { name = codes "o"; members = (record { name = codes "m"; shape = type.Integer Int }) ∷ [] }) ∷ [];
  functions =
      (record { params = 0 ∷ []; result = Some (type.Integer Int) })
      ∷ (record { params = 1 ∷ []; result = None }) ∷ (record { params = []; result = Some (type.PointerTo (type.Integer Int)) }) ∷ [];
}

abbrev a : Expr
a = e.Variable 0

abbrev p : Expr
p = e.Variable 1

abbrev c : Expr
c = e.Variable 2

abbrev v : Expr
v = e.Variable 3

abbrev k : Expr
k = e.Variable 6

abbrev zero : Expr
zero = e.Constant (codes "0") Int 0

abbrev two : Expr
two = e.Constant (codes "2") Int 2

-- ---- assignments

-- a = 2;
number_set : doing_fits d None (Does 0 (Sets a None two)) ≡ true
number_set = simp operands_of

-- p = 0;
null_set : doing_fits d None (Does 0 (Sets p None zero)) ≡ true
null_set = simp operands_of

-- p += 2;
pointer_moved : doing_fits d None (Does 0 (Sets p (Some Add) two)) ≡ true
pointer_moved = simp operands_of

-- p = a;
integer_for_pointer : doing_fits d None (Does 0 (Sets p None a)) ≡ false
integer_for_pointer = simp operands_of

-- a + 2 = 2;
no_place_set : doing_fits d None (Does 0 (Sets (e.Binary Add a two) None two)) ≡ false
no_place_set = simp operands_of

-- *p = 2;
target_set : doing_fits d None (Does 0 (Sets (e.Deref p) None two)) ≡ true
target_set = simp operands_of

-- *a = 2;
integer_followed : doing_fits d None (Does 0 (Sets (e.Deref a) None two)) ≡ false
integer_followed = simp operands_of

-- r.m = 2; where r is a struct s
member_set : doing_fits d None (Does 0 (Sets (e.Member (e.Variable 4) (record { owner = 0; index = 0 })) None two)) ≡ true
member_set = simp (operands_of, shapes_of)

-- the same, with the member of a struct o
other_member_set : doing_fits d None (Does 0 (Sets (e.Member (e.Variable 4) (record { owner = 1; index = 0 })) None two)) ≡ false
other_member_set = simp operands_of

-- t->m = 2;
arrow_set : doing_fits d None (Does 0 (Sets (e.Arrow (e.Variable 5) (record { owner = 0; index = 0 })) None two)) ≡ true
arrow_set = simp (operands_of, shapes_of)

-- ---- ++ and --

-- a++;
number_bumped : doing_fits d None (Does 0 (Bumps a true)) ≡ true
number_bumped = simp operands_of

-- p--;
pointer_bumped : doing_fits d None (Does 0 (Bumps p false)) ≡ true
pointer_bumped = simp operands_of

-- v++; where v is an array
array_bumped : doing_fits d None (Does 0 (Bumps v true)) ≡ false
array_bumped = simp operands_of

-- ---- what a variable begins with

-- int a = 2;
number_begins : doing_fits d None (Does 0 (Begins 0 (init.One two))) ≡ true
number_begins = simp operands_of

-- int *p = NULL;
null_begins : doing_fits d None (Does 0 (Begins 1 (init.One e.Null))) ≡ true
null_begins = simp operands_of

-- int *p = a;
integer_begins : doing_fits d None (Does 0 (Begins 1 (init.One a))) ≡ false
integer_begins = simp operands_of

-- int v[3] = {2, a};
list_begins : doing_fits d None (Does 0 (Begins 3 (init.Items (two ∷ a ∷ [])))) ≡ true
list_begins = simp operands_of

-- int v[3] = {2, 2, 2, 2};
long_list_begins : doing_fits d None (Does 0 (Begins 3 (init.Items (two ∷ two ∷ two ∷ two ∷ [])))) ≡ false
long_list_begins = refl

-- int v[3] = {p};
pointer_list_begins : doing_fits d None (Does 0 (Begins 3 (init.Items (p ∷ [])))) ≡ false
pointer_list_begins = simp operands_of

-- ---- tests, and what switches are over

-- if (a)
number_tested : doing_fits d None (Does 0 (Tests a)) ≡ true
number_tested = simp operands_of

-- if (v)
array_tested : doing_fits d None (Does 0 (Tests v)) ≡ true
array_tested = simp operands_of

-- if (r)
struct_tested : doing_fits d None (Does 0 (Tests (e.Variable 4))) ≡ false
struct_tested = simp operands_of

-- if (v[2])
element_tested : doing_fits d None (Does 0 (Tests (e.Index v two))) ≡ true
element_tested = simp operands_of

-- if (2[p])
index_turned : doing_fits d None (Does 0 (Tests (e.Index two p))) ≡ false
index_turned = simp operands_of

-- if (&a)
address_tested : doing_fits d None (Does 0 (Tests (e.AddressOf a))) ≡ true
address_tested = simp operands_of

-- if (&v)
array_addressed : doing_fits d None (Does 0 (Tests (e.AddressOf v))) ≡ false
array_addressed = simp operands_of

-- if (a ? p : 0)
pointer_chosen : doing_fits d None (Does 0 (Tests (e.Choose a p zero))) ≡ true
pointer_chosen = simp operands_of

-- if (a ? p : k)
pointers_chosen : doing_fits d None (Does 0 (Tests (e.Choose a p k))) ≡ false
pointers_chosen = simp operands_of

-- switch (a)
number_picked : is_number d a ≡ true
number_picked = simp operands_of

-- switch (c)
char_picked : is_number d c ≡ true
char_picked = simp operands_of

-- switch (p)
pointer_picked : is_number d p ≡ false
pointer_picked = simp operands_of

-- ---- calls

-- f(a);
number_passed : doing_fits d None (Calls 0 target.None 0 (a ∷ [])) ≡ true
number_passed = simp operands_of

-- g(v);
array_passed : doing_fits d None (Calls 0 target.None 1 (v ∷ [])) ≡ true
array_passed = simp operands_of

-- f(p);
pointer_passed : doing_fits d None (Calls 0 target.None 0 (p ∷ [])) ≡ false
pointer_passed = simp operands_of

-- f();
nothing_passed : doing_fits d None (Calls 0 target.None 0 []) ≡ false
nothing_passed = refl

-- a = f(2);
number_given : doing_fits d None (Calls 0 (target.Place a) 0 (two ∷ [])) ≡ true
number_given = simp (operands_of, shapes_of)

-- int *p = h();
pointer_given : doing_fits d None (Calls 0 (target.Declared 1) 2 []) ≡ true
pointer_given = simp shapes_of

-- a = h();
pointer_given_to_number : doing_fits d None (Calls 0 (target.Place a) 2 []) ≡ false
pointer_given_to_number = simp (operands_of, shapes_of)

-- p = g(p); where g gives nothing
nothing_given : doing_fits d None (Calls 0 (target.Place p) 1 (p ∷ [])) ≡ false
nothing_given = simp operands_of

-- ---- returns

-- return 2; in a function that gives an int
number_returned : doing_fits d (Some (type.Integer Int)) (Does 0 (Returns (Some two))) ≡ true
number_returned = simp (operands_of, shapes_of)

-- return; in a function that gives nothing
nothing_returned : doing_fits d None (Does 0 (Returns None)) ≡ true
nothing_returned = refl

-- return p; in a function that gives an int
pointer_returned : doing_fits d (Some (type.Integer Int)) (Does 0 (Returns (Some p))) ≡ false
pointer_returned = simp (operands_of, shapes_of)

-- ---- allocations, and free

-- p = malloc(sizeof(int));
object_allocated : doing_fits d None (Does 0 (Allocates (target.Place p) (amount.Size (size.Type (type.Integer Int))))) ≡ true
object_allocated = simp (operands_of, shapes_of)

-- int *p = malloc(2 * sizeof *p);
objects_allocated : doing_fits d None (Does 0 (Allocates (target.Declared 1) (amount.CountSize two (size.Pointee 1 false)))) ≡ true
objects_allocated = simp operands_of

-- k = malloc(2);
bytes_allocated : doing_fits d None (Does 0 (Allocates (target.Place k) (amount.Count two))) ≡ true
bytes_allocated = simp operands_of

-- p = malloc(2);
bytes_for_numbers : doing_fits d None (Does 0 (Allocates (target.Place p) (amount.Count two))) ≡ false
bytes_for_numbers = simp operands_of

-- k = malloc(sizeof(int));
other_size_allocated : doing_fits d None (Does 0 (Allocates (target.Place k) (amount.Size (size.Type (type.Integer Int))))) ≡ false
other_size_allocated = simp (operands_of, shapes_of)

-- free(p);
pointer_freed : doing_fits d None (Does 0 (Frees p)) ≡ true
pointer_freed = simp operands_of

-- free(NULL);
null_freed : doing_fits d None (Does 0 (Frees e.Null)) ≡ true
null_freed = simp operands_of

-- free(a);
number_freed : doing_fits d None (Does 0 (Frees a)) ≡ false
number_freed = simp operands_of

-- ---- input and output

-- a = getchar();
input_stored : doing_fits d None (Does 0 (Fetches (target.Place a))) ≡ true
input_stored = simp operands_of

-- getchar();
input_dropped : doing_fits d None (Does 0 (Fetches target.None)) ≡ true
input_dropped = refl

-- p = getchar();
input_in_pointer : doing_fits d None (Does 0 (Fetches (target.Place p))) ≡ false
input_in_pointer = simp operands_of

-- putchar(a);
number_written : doing_fits d None (Does 0 (Writes a)) ≡ true
number_written = simp operands_of

-- putchar(*k);
char_written : doing_fits d None (Does 0 (Writes (e.Deref k))) ≡ true
char_written = simp operands_of

-- putchar(p);
pointer_written : doing_fits d None (Does 0 (Writes p)) ≡ false
pointer_written = simp operands_of

-- printf("%d", a);
number_printed : doing_fits d None (Does 0 (Prints (codes "\"%d\"") (a ∷ []))) ≡ true
unfolding unescaped
number_printed = simp operands_of

-- printf("%c%d", c, a);
char_printed : doing_fits d None (Does 0 (Prints (codes "\"%c%d\"") (c ∷ a ∷ []))) ≡ true
unfolding unescaped
char_printed = simp operands_of

-- printf("%ld", a);
long_printed : doing_fits d None (Does 0 (Prints (codes "\"%ld\"") (a ∷ []))) ≡ false
unfolding unescaped
long_printed = simp operands_of
