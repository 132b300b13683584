-- A small program whose pointers lead where `SmallPointers` says: for each pointer of its state the pair of points-to, derived.
use Rattle.std.proofs.Common.{◌≡◌, ℕ, List, [], ◌∷◌, ◌++◌, Some, None, Bool, true, false, refl, inl, inr, sym, ap, ap₂, subst, ◌∙◌}
use Rattle.std.specs.Prelude.{codes, ◌&&◌, ◌||◌, if◌then◌else◌}
use Rattle.std.specs.List.{list_any}
use Rattle.c_arith.specs.declared.int_type.IntType.TheVariants.{Int}
use Rattle.c_arith.specs.declared.operators.BinaryOp.TheVariants.{Add}
use Rattle.c_tree.specs.declared.expr.Expr.TheOpen.{Expr-F}
use Rattle.c_tree.specs.declared.program.Init.TheVariants as init
use Rattle.c_tree.specs.declared.program.Item.TheVariants as item
use Rattle.c_tree.specs.declared.program.Program.{Program}
use Rattle.c_tree.specs.declared.statement.Amount.TheVariants as amount
use Rattle.c_tree.specs.declared.statement.Size.TheVariants as size
use Rattle.c_tree.specs.declared.statement.Statement.{Statement}
use Rattle.c_tree.specs.declared.statement.Statement.TheVariants as s
use Rattle.c_tree.specs.declared.statement.Target.TheVariants as target
use Rattle.c_tree.specs.declared.types.CType.{CType}
use Rattle.c_tree.specs.declared.types.CType.TheVariants as type
use Rattle.c_language.specs.declared.expr_type.Base.TheVariants as base
use Rattle.c_language.specs.declared.expr_type.Layer.TheVariants as layer
use Rattle.c_language.specs.declared.expr_type.ExprType.{ExprType}
use Rattle.c_language.specs.Code.{Begins, Sets, Allocates, Returns}
use Rattle.c_language.specs.DeclaredTypes.{integer, pointer_to, with_layer, of_base}
use Rattle.c_language.specs.ExprTypes.{is_pointer}
use Rattle.c_language.specs.TreeTypes.{shape_of, tree_type_step, pointee, binary_tree_type}
use Rattle.c_meaning.proofs.Small.{Small, K, Name, Bin, Star, Amp, Item, Dot, tree}
use Rattle.dep_model.specs.declared.location.Location.{Location}
use Rattle.dep_model.specs.declared.location.Part.{Part}
use Rattle.dep_model.specs.declared.location.Part.TheVariants as part
use Rattle.dep_model.specs.declared.location.Root.{Root}
use Rattle.dep_model.specs.declared.location.Root.TheVariants.{Variable, Site, Result}
use Rattle.dep_model.specs.Locations.{TypedLocation, input, Heap, function_heaps, variable_locations, site_locations, result_locations, locations, same_location}
use Rattle.dep_model.specs.Designated.{designated_step, is_array_place}
use Rattle.dep_model.specs.Denoted.{Places, TargetsOf, inside, whole, part_of, Denoted, an_object, either_of, reads_either, denoted_step, value_reads, value_points, object_points, expr_points, expr_places}
use Rattle.dep_model.specs.Doings.{Doing, Does, Calls, doings_of}
use Rattle.dep_model.specs.DoingEffects.{target_places}
use Rattle.dep_model.specs.MayPoint.{MayPoint, by, pointing, site, of_statement, doing_pointings}
use Rattle.dep_model.proofs.DoingForms.{doings-Declare, doings-Assign, doings-Invoke, doings-Heap, doings-Return, doings-Block}
use Rattle.dep_model.proofs.Membership.{IsIn, contains_of_in}
use Rattle.c_language.proofs.Tests.{false_true}
use Rattle.run_facts.proofs.ListedObjects.{location_itself, any_in}
use Rattle.run_facts.proofs.SmallTrees.{small as folded, fold_tree}
use Rattle.run_facts.proofs.SmallVertices.{type_int, type_pointer, shape_int, shape_pointer, shape_struct, shape_arrays, shape_pointers_to, var_of, function_of}

-- ---- the program

-- struct s { int n; int v[2]; };
-- void f(int *up) { *up = 1; }
-- int main(void)
-- {
--     int x; int a[3]; struct s t; int m[2][3]; int *p; int (*r)[3];
--     f(&x);
--     p = &a[2];
--     p = &t.n;
--     p = t.v + 1;
--     r = m + 1;
--     p = m[1] + 2;
--     p = malloc(2 * sizeof(int));
--     { int k = 0; p = &k; }
--     return 0;
-- }
abbrev array_of : ℕ → List ℕ → CType → CType
array_of n words t = type.Array t n words

abbrev num : ℕ → Small
num k = K Int k

abbrev p : Small
p = Name 4

abbrev member : ℕ → Small
member k = Dot (Name 2) (record { owner = 0; index = k })

abbrev to_element : Small
to_element = Amp (Item (Name 1) (num 2))

abbrev to_member : Small
to_member = Amp (member 0)

abbrev to_element_of_member : Small
to_element_of_member = Bin Add (member 1) (num 1)

abbrev to_row : Small
to_row = Bin Add (Name 3) (num 1)

abbrev to_element_of_row : Small
to_element_of_row = Bin Add (Item (Name 3) (num 1)) (num 2)

abbrev to_local : Small
to_local = Amp (Name 7)

abbrev sets_p : ℕ → Small → Statement
sets_p i a = s.Assign i 1 (tree p) None (tree a)

abbrev body_of_f : List Statement
body_of_f = s.Assign 0 1 (tree (Star (Name 6))) None (tree (num 1)) ∷ []

abbrev body_of_main : List Statement
body_of_main =
    s.Declare None 1 0 init.None ∷ s.Declare None 1 1 init.None ∷ s.Declare None 1 2 init.None ∷ s.Declare None 1 3 init.None
    ∷ s.Declare None 1 4 init.None ∷ s.Declare None 1 5 init.None ∷ s.Invoke 1 1 target.None 0 (tree (Amp (Name 0)) ∷ []) ∷ sets_p 2 to_element
    ∷ sets_p 3 to_member ∷ sets_p 4 to_element_of_member ∷ s.Assign 5 1 (tree (Name 5)) None (tree to_row) ∷ sets_p 6 to_element_of_row
    ∷ s.Heap 7 1 (target.Place (tree p)) None (amount.CountSize (tree (num 2)) (size.Type type_int))
    ∷ s.Block 1 (s.Declare (Some 8) 1 7 (init.One (tree (num 0))) ∷ sets_p 9 to_local ∷ []) ∷ s.Return 10 1 (Some (tree (num 0))) ∷ []

abbrev row : CType
row = array_of 3 (codes "3") type_int

abbrev program : Program
program = record {
  items = item.Include true ∷ item.Struct 0 ∷ item.Define 0 ∷ item.Define 1 ∷ [];
  vars =
      var_of (codes "x") type_int (Some 1) false ∷ var_of (codes "a") row (Some 1) false ∷ var_of (codes "t") (type.Struct 0) (Some 1) false
      ∷ var_of (codes "m") (array_of 2 (codes "2") row) (Some 1) false ∷ var_of (codes "p") type_pointer (Some 1) false
      ∷ var_of (codes "r") (type.PointerTo row) (Some 1) false ∷ var_of (codes "up") type_pointer (Some 0) true
      ∷ var_of (codes "k") type_int (Some 1) false ∷ [];
  structs =
      (record {
        name = codes "s";
        members = (record { name = codes "n"; shape = type_int }) ∷ (record { name = codes "v"; shape = array_of 2 (codes "2") type_int }) ∷ [];
      }) ∷ [];
  functions = function_of (codes "f") None (6 ∷ []) body_of_f ∷ function_of (codes "main") (Some type_int) [] body_of_main ∷ [];
  statements = 11;
}

abbrev int : ExprType
int = integer Int

abbrev array : ℕ → ExprType → ExprType
array n t = with_layer (layer.Array n) t

shape_row : shape_of (type.Array (type.Integer Int) 3 (codes "3")) ≡ array 3 int
shape_row = shape_arrays type_int int 3 (codes "3") shape_int

shape_rows : shape_of (type.Array (type.Array (type.Integer Int) 3 (codes "3")) 2 (codes "2")) ≡ array 2 (array 3 int)
shape_rows = shape_arrays row (array 3 int) 2 (codes "2") shape_row

shape_two : shape_of (type.Array (type.Integer Int) 2 (codes "2")) ≡ array 2 int
shape_two = shape_arrays type_int int 2 (codes "2") shape_int

shape_row_pointer : shape_of (type.PointerTo (type.Array (type.Integer Int) 3 (codes "3"))) ≡ pointer_to (array 3 int)
shape_row_pointer = shape_pointers_to row (array 3 int) shape_row

-- ---- its statements and locations

abbrev p_set : ℕ → Small → Doing
p_set i a = Does i (Sets (tree p) None (tree a))

doings_of_f : doings_of program 0 ≡ Does 0 (Sets (tree (Star (Name 6))) None (tree (num 1))) ∷ []
doings_of_f = simp doings-Assign

abbrev call_of_f : Doing
call_of_f = Calls 1 target.None 0 (tree (Amp (Name 0)) ∷ [])

abbrev malloc : Doing
malloc = Does 7 (Allocates (target.Place (tree p)) (amount.CountSize (tree (num 2)) (size.Type type_int)))

doings_of_main :
    doings_of program 1
    ≡ call_of_f ∷ p_set 2 to_element ∷ p_set 3 to_member ∷ p_set 4 to_element_of_member ∷ Does 5 (Sets (tree (Name 5)) None (tree to_row))
    ∷ p_set 6 to_element_of_row ∷ malloc ∷ Does 8 (Begins 7 (init.One (tree (num 0)))) ∷ p_set 9 to_local ∷ Does 10 (Returns (Some (tree (num 0)))) ∷ []
doings_of_main = simp (doings-Declare, doings-Assign, doings-Invoke, doings-Heap, doings-Block, doings-Return)

abbrev located : Root → List Part → ExprType → TypedLocation
located root path t = record { location = record { root = root; path = path }; type = t }

abbrev all : List TypedLocation
all =
    input ∷ located (Variable 0) [] int ∷ located (Variable 1) [] (array 3 int) ∷ located (Variable 1) (part.Element ∷ []) int
    ∷ located (Variable 2) [] (of_base (base.Struct 0)) ∷ located (Variable 2) (part.Member 0 ∷ []) int ∷ located (Variable 2) (part.Member 1 ∷ []) (array 2 int)
    ∷ located (Variable 2) (part.Member 1 ∷ part.Element ∷ []) int ∷ located (Variable 3) [] (array 2 (array 3 int))
    ∷ located (Variable 3) (part.Element ∷ []) (array 3 int) ∷ located (Variable 3) (part.Element ∷ part.Element ∷ []) int
    ∷ located (Variable 4) [] (pointer_to int) ∷ located (Variable 5) [] (pointer_to (array 3 int)) ∷ located (Variable 6) [] (pointer_to int)
    ∷ located (Variable 7) [] int ∷ located (Site 7) [] int ∷ located (Result 1) [] int ∷ []

heaps_are : function_heaps program program.functions ≡ (record { id = 7; elements = int }) ∷ []
heaps_are =
    rw (doings_of_f, doings_of_main) (ap (λ (t : ExprType). (record { id = 7; elements = pointee t }) ∷ []) (fold_tree (tree_type_step program) p) ∙ rw shape_pointer refl)

locations_are : locations program ≡ all
locations_are =
    ap (λ (hs : List Heap). input ∷ (variable_locations program 0 program.vars ++ (site_locations program hs ++ result_locations program 0 program.functions))) heaps_are
    ∙ rw (shape_struct, shape_rows, shape_row_pointer, shape_row, shape_two, shape_pointer, shape_int) refl

abbrev at : Root → List Part → Location
at root path = record { root = root; path = path }

parts_are :
    (h : Part) (d : Places) (l : Location)
    → part_of program h d l ≡ (list_any (λ (o : TypedLocation). same_location o.location l) all && list_any (λ (o : TypedLocation). d o.location && same_location (inside o.location h) l) all)
parts_are h d l =
    ap (λ (ls : List TypedLocation). list_any (λ (o : TypedLocation). same_location o.location l) ls && list_any (λ (o : TypedLocation). d o.location && same_location (inside o.location h) l) ls) locations_are

-- a part of one of some locations
in_part :
    (h : Part) (d : Places) (o : TypedLocation) (l : Location) → IsIn all o → list_any (λ (k : TypedLocation). same_location k.location l) all ≡ true
    → d o.location ≡ true → same_location (inside o.location h) l ≡ true → part_of program h d l ≡ true
in_part h d o l i listed has same =
    parts_are h d l ∙ ap₂ (λ (b c : Bool). b && c) listed (any_in (λ (k : TypedLocation). d k.location && same_location (inside k.location h) l) all o i (ap₂ (λ (b c : Bool). b && c) has same))

-- ---- what its expressions may point to, whatever pointers do

abbrev none : TargetsOf
none l m = false

nothing : (k n : Location) → none k n ≡ true → MayPoint program k n
nothing k n h = false_true h

abbrev denotes : Small → Denoted
denotes = folded (denoted_step program none)

points_are : (a : Small) (m : Location) → expr_points program none (tree a) m ≡ value_points program none (denotes a) m
points_are a m = ap (λ (d : Denoted). value_points program none d m) (fold_tree (denoted_step program none) a)

-- an array points to its elements
array_points : (a : Small) (m : Location) → is_array_place (denotes a).form ≡ true → part_of program part.Element (denotes a).places m ≡ true → value_points program none (denotes a) m ≡ true
array_points a m t e =
    ap (λ (b : Bool). if b then part_of program part.Element (denotes a).places m else (if (denotes a).form.is_place then object_points program none (denotes a) m else (denotes a).points m)) t ∙ e

element_places : (a i : Small) (m : Location) → is_array_place (denotes a).form ≡ true → part_of program part.Element (denotes a).places m ≡ true → (denotes (Item a i)).places m ≡ true
element_places a i m t e =
    ap (λ (b : Bool). (if b then an_object program none (designated_step program (Expr-F.Index (denotes a).form (denotes i).form)) (part_of program part.Element (denotes a).places) (either_of (denotes a).reads (value_reads program none (denotes i))) else an_object program none (designated_step program (Expr-F.Index (denotes a).form (denotes i).form)) (value_points program none (denotes a)) (reads_either program none (denotes a) (denotes i))).places m) t ∙ e

sum_points : (a b : Small) (m : Location) → is_pointer (binary_tree_type Add (denotes a).form.type (denotes b).form.type) ≡ true → value_points program none (denotes a) m ≡ true → value_points program none (denotes (Bin Add a b)) m ≡ true
sum_points a b m t e = ap₂ (λ (x y : Bool). x && (y || value_points program none (denotes b) m)) t e

-- ---- pairs

-- what is assigned to a variable may point there
assigned : (i x : ℕ) (a : Small) (m : Location) → IsIn (doings_of program 1) (Does i (Sets (tree (Name x)) None (tree a))) → value_points program none (denotes a) m ≡ true → MayPoint program (at (Variable x) []) m
assigned i x a m h e =
    by none (pointing (expr_places program none (tree (Name x))) (expr_points program none (tree a))) nothing
    (of_statement 1 (record { doing = Does i (Sets (tree (Name x)) None (tree a)); member = contains_of_in (doings_of program 1) (Does i (Sets (tree (Name x)) None (tree a))) h; given = contains_of_in (doing_pointings program none 1 (Does i (Sets (tree (Name x)) None (tree a)))) (pointing (expr_places program none (tree (Name x))) (expr_points program none (tree a))) (inl refl) }))
    (ap (λ (d : Denoted). d.places (at (Variable x) [])) (fold_tree (denoted_step program none) (Name x)) ∙ location_itself (at (Variable x) [])) (points_are a m ∙ e)

in_main : (d : Doing) → IsIn (call_of_f ∷ p_set 2 to_element ∷ p_set 3 to_member ∷ p_set 4 to_element_of_member ∷ Does 5 (Sets (tree (Name 5)) None (tree to_row)) ∷ p_set 6 to_element_of_row ∷ malloc ∷ Does 8 (Begins 7 (init.One (tree (num 0)))) ∷ p_set 9 to_local ∷ Does 10 (Returns (Some (tree (num 0)))) ∷ []) d → IsIn (doings_of program 1) d
in_main d h = subst (λ ds. IsIn ds d) (sym doings_of_main) h

-- up may point to a variable of the caller
callers_variable : MayPoint program (at (Variable 6) []) (at (Variable 0) [])
callers_variable =
    by none (pointing (whole 6) (expr_points program none (tree (Amp (Name 0))))) nothing
    (of_statement 1 (record { doing = call_of_f; member = contains_of_in (doings_of program 1) call_of_f (in_main call_of_f (inl refl)); given = contains_of_in (doing_pointings program none 1 call_of_f) (pointing (whole 6) (expr_points program none (tree (Amp (Name 0))))) (inr (inl refl)) }))
    refl (points_are (Amp (Name 0)) (at (Variable 0) []))

-- p to an element
element : MayPoint program (at (Variable 4) []) (at (Variable 1) (part.Element ∷ []))
element =
    assigned 2 4 to_element (at (Variable 1) (part.Element ∷ [])) (in_main (p_set 2 to_element) (inr (inl refl)))
    (element_places (Name 1) (num 2) (at (Variable 1) (part.Element ∷ [])) (rw shape_row refl) (parts_are part.Element (whole 1) (at (Variable 1) (part.Element ∷ []))))

-- to a member
of_struct : MayPoint program (at (Variable 4) []) (at (Variable 2) (part.Member 0 ∷ []))
of_struct =
    assigned 3 4 to_member (at (Variable 2) (part.Member 0 ∷ [])) (in_main (p_set 3 to_member) (inr (inr (inl refl))))
    (parts_are (part.Member 0) (whole 2) (at (Variable 2) (part.Member 0 ∷ [])))

-- to an element of a member
element_of_a_member : MayPoint program (at (Variable 4) []) (at (Variable 2) (part.Member 1 ∷ part.Element ∷ []))
element_of_a_member =
    assigned 4 4 to_element_of_member (at (Variable 2) (part.Member 1 ∷ part.Element ∷ [])) (in_main (p_set 4 to_element_of_member) (inr (inr (inr (inl refl)))))
    (sum_points (member 1) (num 1) (at (Variable 2) (part.Member 1 ∷ part.Element ∷ [])) (rw shape_two refl)
    (array_points (member 1) (at (Variable 2) (part.Member 1 ∷ part.Element ∷ [])) (rw shape_two refl)
    (in_part part.Element (part_of program (part.Member 1) (whole 2)) (located (Variable 2) (part.Member 1 ∷ []) (array 2 int)) (at (Variable 2) (part.Member 1 ∷ part.Element ∷ [])) (inr (inr (inr (inr (inr (inr (inl refl))))))) refl
    (parts_are (part.Member 1) (whole 2) (at (Variable 2) (part.Member 1 ∷ []))) refl)))

-- r to a row of a two-dimensional array
a_row : MayPoint program (at (Variable 5) []) (at (Variable 3) (part.Element ∷ []))
a_row =
    assigned 5 5 to_row (at (Variable 3) (part.Element ∷ [])) (in_main (Does 5 (Sets (tree (Name 5)) None (tree to_row))) (inr (inr (inr (inr (inl refl))))))
    (sum_points (Name 3) (num 1) (at (Variable 3) (part.Element ∷ [])) (rw shape_rows refl) (array_points (Name 3) (at (Variable 3) (part.Element ∷ [])) (rw shape_rows refl) (parts_are part.Element (whole 3) (at (Variable 3) (part.Element ∷ [])))))

-- p to an element of a row
element_of_a_row : MayPoint program (at (Variable 4) []) (at (Variable 3) (part.Element ∷ part.Element ∷ []))
element_of_a_row =
    assigned 6 4 to_element_of_row (at (Variable 3) (part.Element ∷ part.Element ∷ [])) (in_main (p_set 6 to_element_of_row) (inr (inr (inr (inr (inr (inl refl)))))))
    (sum_points (Item (Name 3) (num 1)) (num 2) (at (Variable 3) (part.Element ∷ part.Element ∷ [])) (rw shape_rows refl)
    (array_points (Item (Name 3) (num 1)) (at (Variable 3) (part.Element ∷ part.Element ∷ [])) (rw shape_rows refl)
    (in_part part.Element (denotes (Item (Name 3) (num 1))).places (located (Variable 3) (part.Element ∷ []) (array 3 int)) (at (Variable 3) (part.Element ∷ part.Element ∷ [])) (inr (inr (inr (inr (inr (inr (inr (inr (inr (inl refl)))))))))) refl
    (element_places (Name 3) (num 1) (at (Variable 3) (part.Element ∷ [])) (rw shape_rows refl) (parts_are part.Element (whole 3) (at (Variable 3) (part.Element ∷ [])))) refl)))

-- to the objects of malloc; behind the last of them a pointer has the same location
of_malloc : MayPoint program (at (Variable 4) []) (at (Site 7) [])
of_malloc =
    by none (pointing (target_places program none (target.Place (tree p))) (same_location (site 7))) nothing
    (of_statement 1 (record { doing = malloc; member = contains_of_in (doings_of program 1) malloc (in_main malloc (inr (inr (inr (inr (inr (inr (inl refl)))))))); given = contains_of_in (doing_pointings program none 1 malloc) (pointing (target_places program none (target.Place (tree p))) (same_location (site 7))) (inl refl) }))
    (ap (λ (d : Denoted). d.places (at (Variable 4) [])) (fold_tree (denoted_step program none) p)) refl

-- into a block that is gone at the end
block_that_is_gone : MayPoint program (at (Variable 4) []) (at (Variable 7) [])
block_that_is_gone =
    assigned 9 4 to_local (at (Variable 7) []) (in_main (p_set 9 to_local) (inr (inr (inr (inr (inr (inr (inr (inr (inl refl))))))))))
    refl
