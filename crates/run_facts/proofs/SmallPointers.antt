-- A small state with the locations of pointers in it (their pairs: `SmallPairs`); and what the tests of types keep out: objects, and three trees
-- that no text has.
use Rattle.std.proofs.Common.{◌≡◌, ℕ, List, [], ◌∷◌, ◌++◌, Option, Some, None, true, refl, ap, ap₂}
use Rattle.std.specs.Prelude.{◌==◌, if◌then◌else◌, is_some}
use Rattle.c_arith.specs.declared.int_type.IntType.TheVariants.{Char, Int}
use Rattle.c_language.specs.Code.{Act, Sets}
use Rattle.c_language.specs.DeclaredTypes.{integer, pointer_to, with_layer, of_base}
use Rattle.c_language.specs.declared.expr_type.Base.TheVariants as base
use Rattle.c_language.specs.declared.expr_type.Layer.TheVariants as layer
use Rattle.c_language.specs.declared.expr_type.ExprType.{ExprType}
use Rattle.c_meaning.specs.declared.value.Hop.{Hop}
use Rattle.c_meaning.specs.declared.value.Hop.TheVariants as hop
use Rattle.c_meaning.specs.declared.value.Place.{Place}
use Rattle.c_meaning.specs.declared.value.Pointer.{Pointer}
use Rattle.c_meaning.specs.declared.value.Value.TheVariants.{To}
use Rattle.c_meaning.specs.Memory.{Entered, Allocated, Memory, unwritten, array_of, gone}
use Rattle.c_meaning.specs.Pointers.{if_typed, designated}
use Rattle.c_meaning.specs.Values.{Types, OfVariable, OfStatement, State, Meant, bound, owner_of, as_type, meant, meant_step}
use Rattle.c_meaning.specs.Acts.{Made, assigned, writable, made}
use Rattle.c_meaning.proofs.Small.{Small, Name, Star, Dot, tree}
use Rattle.dep_model.specs.declared.location.Location.{Location}
use Rattle.dep_model.specs.declared.location.Part.{Part}
use Rattle.dep_model.specs.declared.location.Part.TheVariants as part
use Rattle.dep_model.specs.declared.location.Root.TheVariants.{Variable, Site}
use Rattle.run_facts.specs.PointerLocations.{pointer_location}
use Rattle.run_facts.specs.UntestedMeanings.{pointed_by, untested, untested_step}
use Rattle.run_facts.proofs.SmallTrees.{small, fold_tree}

abbrev int : ExprType
int = integer Int

abbrev array : ℕ → ExprType → ExprType
array n t = with_layer (layer.Array n) t

-- struct s { int n; int v[2]; }; struct o { int n; };
abbrev structs : List (List ExprType)
structs = (int ∷ array 2 int ∷ []) ∷ (int ∷ []) ∷ []

-- int x; int a[3]; struct s t; int m[2][3]; and two ints of malloc, and a variable that is gone
abbrev memory : Memory
memory = record {
  structs = structs;
  blocks =
      unwritten structs int Entered ∷ unwritten structs (array 3 int) Entered ∷ unwritten structs (of_base (base.Struct 0)) Entered
      ∷ unwritten structs (array 2 (array 3 int)) Entered ∷ unwritten structs (array_of 2 int) Allocated ∷ gone (unwritten structs int Entered) ∷ [];
}

-- the function that runs can name none of these
abbrev state : State
state = record {
  frame = λ x. None;
  returned = None;
  memory = memory;
  origins = OfVariable 0 ∷ OfVariable 1 ∷ OfVariable 2 ∷ OfVariable 3 ∷ OfStatement 7 ∷ OfVariable 7 ∷ [];
  unread = [];
}

abbrev at : ℕ → List Hop → ℕ → Pointer
at b path i = record { block = b; path = path; index = i }

abbrev of_variable : ℕ → List Part → Option Location
of_variable x path = Some (record { root = Variable x; path = path })

-- ---- locations

callers_variable : pointer_location state (at 0 [] 0) ≡ of_variable 0 []
callers_variable = refl

behind_a_variable : pointer_location state (at 0 [] 1) ≡ of_variable 0 []
behind_a_variable = refl

element : pointer_location state (at 1 [] 2) ≡ of_variable 1 (part.Element ∷ [])
element = refl

behind_the_last_element : pointer_location state (at 1 [] 3) ≡ of_variable 1 (part.Element ∷ [])
behind_the_last_element = refl

member : pointer_location state (at 2 (hop.Member 0 ∷ []) 0) ≡ of_variable 2 (part.Member 0 ∷ [])
member = refl

element_of_a_member : pointer_location state (at 2 (hop.Member 1 ∷ []) 1) ≡ of_variable 2 (part.Member 1 ∷ part.Element ∷ [])
element_of_a_member = refl

row : pointer_location state (at 3 [] 1) ≡ of_variable 3 (part.Element ∷ [])
row = refl

element_of_a_row : pointer_location state (at 3 (hop.Element 1 ∷ []) 2) ≡ of_variable 3 (part.Element ∷ part.Element ∷ [])
element_of_a_row = refl

behind_the_last_of_malloc : pointer_location state (at 4 [] 2) ≡ Some (record { root = Site 7; path = [] })
behind_the_last_of_malloc = refl

block_that_is_gone : pointer_location state (at 5 [] 0) ≡ of_variable 7 []
block_that_is_gone = refl

no_block : pointer_location state (at 6 [] 0) ≡ None
no_block = refl

-- ---- what the tests keep out

abbrev place : ℕ → List Hop → Place
place b path = record { block = b; path = path }

-- an int read as a char
other_type : designated memory (integer Char) (To (at 0 [] 0)) ≡ None
other_type = refl

untested_type : pointed_by memory (To (at 0 [] 0)) ≡ Some (place 0 [])
untested_type = refl

own_type : designated memory int (To (at 0 [] 0)) ≡ Some (place 0 [])
own_type = refl

-- a member of another struct
other_struct : if_typed memory (owner_of (record { owner = 1; index = 0 })) (place 2 []) ≡ None
other_struct = refl

own_struct : if_typed memory (owner_of (record { owner = 0; index = 0 })) (place 2 []) ≡ Some (place 2 [])
own_struct = refl

-- a pointer given to an int
pointer_to_int : as_type int (To (at 0 [] 0)) ≡ None
pointer_to_int = refl

pointer_to_pointer : as_type (pointer_to int) (To (at 0 [] 0)) ≡ Some (To (at 0 [] 0))
pointer_to_pointer = refl

-- ---- three trees that no text has

-- struct s t, as above, which is variable 2; int x, variable 0; and here char *c, variable 8, which a pointer to x is assigned to
abbrev types : Types
types = record {
  typing = record {
    variable = λ x. if x == 2 then of_base (base.Struct 0) else (if x == 8 then pointer_to (integer Char) else int);
    member = λ m. int;
  };
  result = None;
}

abbrev with_c : State
with_c = record state {
  frame = bound (bound (bound (λ x. None) 0 (Some 0)) 2 (Some 2)) 8 (Some 6);
  memory = record memory { blocks = memory.blocks ++ (record (unwritten structs (pointer_to (integer Char)) Entered) { cells = Some (To (at 0 [] 0)) ∷ [] }) ∷ [] };
  origins = state.origins ++ OfVariable 8 ∷ [];
}

abbrev tested : Small → Meant
tested = small (meant_step types)

-- without the tests
abbrev free : Small → Meant
free = small (untested_step types)

place_is : (a : Small) → (meant types (tree a)).place with_c ≡ (tested a).place with_c
place_is a = ap (λ (m : Meant). m.place with_c) (fold_tree (meant_step types) a)

free_place_is : (a : Small) → (untested types (tree a)).place with_c ≡ (free a).place with_c
free_place_is a = ap (λ (m : Meant). m.place with_c) (fold_tree (untested_step types) a)

-- *c, which would read x as a char
pointer_at_another_type : (meant types (tree (Star (Name 8)))).place with_c ≡ None
pointer_at_another_type = place_is (Star (Name 8))

pointer_untested : (untested types (tree (Star (Name 8)))).place with_c ≡ Some (place 0 [])
pointer_untested = free_place_is (Star (Name 8))

-- t.n, where n is the member of struct o
abbrev other_n : Small
other_n = Dot (Name 2) (record { owner = 1; index = 0 })

member_of_another_struct : (meant types (tree other_n)).place with_c ≡ None
member_of_another_struct = place_is other_n

member_untested : (untested types (tree other_n)).place with_c ≡ Some (place 2 (hop.Member 0 ∷ []))
member_untested = free_place_is other_n

-- x = c;
abbrev given_pointer : Act
given_pointer = Sets (tree (Name 0)) None (tree (Name 8))

abbrev set_to : Meant → Meant → Option Made
set_to l r = assigned l.type (writable with_c (l.place with_c)) (r.value with_c)

pointer_given_to_an_int : made types given_pointer with_c ≡ None
pointer_given_to_an_int = ap₂ set_to (fold_tree (meant_step types) (Name 0)) (fold_tree (meant_step types) (Name 8))

-- c = c;
pointer_given_to_a_pointer : is_some (made types (Sets (tree (Name 8)) None (tree (Name 8))) with_c) ≡ true
pointer_given_to_a_pointer = ap₂ (λ (l r : Meant). is_some (set_to l r)) (fold_tree (meant_step types) (Name 8)) (fold_tree (meant_step types) (Name 8))
