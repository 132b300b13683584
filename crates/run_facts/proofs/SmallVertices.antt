-- The same small program as its tree, with the locations that its statements may define, may use and kill, and where its pointers may point.
use Rattle.std.proofs.Common.{◌≡◌, ℕ, List, [], ◌∷◌, ◌++◌, Option, Some, None, Bool, true, false, refl, inl, inr, sym, ap, ap₂, subst, ◌∙◌}
use Rattle.std.specs.Prelude.{codes, ◌&&◌, ◌||◌, if◌then◌else◌, Contains}
use Rattle.std.specs.List.{list_any, find}
use Rattle.c_arith.specs.declared.int_type.IntType.TheVariants.{Int}
use Rattle.c_tree.specs.declared.program.Function.{Function}
use Rattle.c_tree.specs.declared.program.Init.TheVariants as init
use Rattle.c_tree.specs.declared.program.Item.TheVariants as item
use Rattle.c_tree.specs.declared.program.Program.{Program}
use Rattle.c_tree.specs.declared.program.Var.{Var}
use Rattle.c_tree.specs.declared.statement.Amount.TheVariants as amount
use Rattle.c_tree.specs.declared.statement.Size.TheVariants as size
use Rattle.c_tree.specs.declared.statement.Statement.{Statement}
use Rattle.c_tree.specs.declared.statement.Statement.TheVariants as s
use Rattle.c_tree.specs.declared.statement.Target.TheVariants as target
use Rattle.c_tree.specs.declared.types.CType.{CType, fold-roll-CType}
use Rattle.c_tree.specs.declared.types.CType.TheOpen.{CType-F}
use Rattle.c_tree.specs.declared.types.CType.TheVariants as type
use Rattle.c_language.specs.declared.expr_type.Base.TheVariants as base
use Rattle.c_language.specs.declared.expr_type.Layer.TheVariants as layer
use Rattle.c_language.specs.declared.expr_type.ExprType.{ExprType}
use Rattle.c_language.specs.Code.{Begins, Sets, Allocates, Frees, Returns, Tests}
use Rattle.c_language.specs.DeclaredTypes.{integer, pointer_to, with_layer, of_base}
use Rattle.c_language.specs.ExprTypes.{is_array, is_pointer}
use Rattle.c_language.specs.TreeTypes.{shape_step, shape_of, type_of_variable, tree_type_step, pointee}
use Rattle.c_meaning.proofs.Small.{Small, Name, NullName, Amp, tree}
use Rattle.dep_model.specs.declared.location.Location.{Location}
use Rattle.dep_model.specs.declared.location.Part.{Part}
use Rattle.dep_model.specs.declared.location.Part.TheVariants as part
use Rattle.dep_model.specs.declared.location.Root.{Root}
use Rattle.dep_model.specs.declared.location.Root.TheVariants.{Variable, Site, Result}
use Rattle.dep_model.specs.Locations.{TypedLocation, input, Heap, function_heaps, variable_locations, site_locations, result_locations, locations, same_location}
use Rattle.dep_model.specs.declared.vertex.Slot.TheVariants as slot
use Rattle.dep_model.specs.declared.vertex.VertexKind.TheVariants.{ActualOut}
use Rattle.dep_model.specs.Designated.{Designated, designated_step, value_takes}
use Rattle.dep_model.specs.Denoted.{Places, TargetsOf, inside, whole, part_of, targets, Denoted, denoted_step, value_reads, value_points, expr_places, left_reads}
use Rattle.dep_model.specs.ModRef.{itself, Modifies}
use Rattle.dep_model.specs.VertexOrder.{kind_uses, kind_defines, kind_kills, out_uses, out_defines, out_kills, has_number}
use Rattle.dep_model.proofs.Membership.{IsIn, contains_of_in}
use Rattle.run_facts.proofs.ListedObjects.{any_in}
use Rattle.dep_model.specs.Doings.{Doing, Does, Calls, doings_of}
use Rattle.dep_model.specs.DoingEffects.{act_uses, act_defines, act_kills, named_kills, left_kills, expr_takes, left_takes, doing_takes, function_takes, is_taken}
use Rattle.dep_model.proofs.DoingForms.{doings-Declare, doings-Assign, doings-Invoke, doings-Heap, doings-Release, doings-Return, doings-If}
use Rattle.std.proofs.Math.Bool.{or-true}
use Rattle.run_facts.proofs.SmallTrees.{small as folded, fold_tree}
use Rattle.run_facts.proofs.SmallTouches.{num, t_m, a_i, star_q, star_r, star_up, y, p, n_minus_1}

abbrev pub type_int : CType
type_int = type.Integer Int

abbrev pub type_pointer : CType
type_pointer = type.PointerTo type_int

pub shape_int : shape_of (type.Integer Int) ≡ integer Int
shape_int = ap shape_of (sym (type.rolls-Integer Int)) ∙ fold-roll-CType ExprType shape_step (CType-F.Integer Int)

pub shape_pointers_to : (a : CType) (t : ExprType) → shape_of a ≡ t → shape_of (type.PointerTo a) ≡ pointer_to t
shape_pointers_to a t e = ap shape_of (sym (type.rolls-PointerTo a)) ∙ (fold-roll-CType ExprType shape_step (CType-F.PointerTo a) ∙ ap pointer_to e)

pub shape_arrays : (a : CType) (t : ExprType) (n : ℕ) (words : List ℕ) → shape_of a ≡ t → shape_of (type.Array a n words) ≡ with_layer (layer.Array n) t
shape_arrays a t n words e =
    ap shape_of (sym (type.rolls-Array a n words)) ∙ (fold-roll-CType ExprType shape_step (CType-F.Array a n words) ∙ ap (with_layer (layer.Array n)) e)

pub shape_pointer : shape_of (type.PointerTo (type.Integer Int)) ≡ pointer_to (integer Int)
shape_pointer = shape_pointers_to type_int (integer Int) shape_int

shape_pointers : shape_of (type.PointerTo (type.PointerTo (type.Integer Int))) ≡ pointer_to (pointer_to (integer Int))
shape_pointers = shape_pointers_to type_pointer (pointer_to (integer Int)) shape_pointer

shape_array : shape_of (type.Array (type.Integer Int) 5 (codes "5")) ≡ with_layer (layer.Array 5) (integer Int)
shape_array = shape_arrays type_int (integer Int) 5 (codes "5") shape_int

pub shape_struct : shape_of (type.Struct 0) ≡ of_base (base.Struct 0)
shape_struct = ap shape_of (sym (type.rolls-Struct 0)) ∙ fold-roll-CType ExprType shape_step (CType-F.Struct 0)

abbrev pub var_of : List ℕ → CType → Option ℕ → Bool → Var
var_of name shape owner is_parameter = record { name = name; shape = shape; line = 1; is_static = false; owner = owner; is_parameter = is_parameter }

abbrev pub function_of : List ℕ → Option CType → List ℕ → List Statement → Function
function_of name result params body = record { name = name; result = result; params = params; body = body; is_static = false; line = 1 }

abbrev body_of_f : List Statement
body_of_f = s.Assign 0 1 (tree star_q) None (tree (num 2)) ∷ s.Return 1 1 (Some (tree (num 1))) ∷ []

abbrev body_of_g : List Statement
body_of_g = s.Heap 2 2 (target.Place (tree star_r)) None (amount.Size (size.Type type_int)) ∷ []

abbrev body_of_h : List Statement
body_of_h =
    s.Declare (Some 3) 3 5 (init.One (tree (Name 3)))
    ∷ s.If 4 3 (tree (Name 3)) (s.Invoke 5 3 target.None 2 (tree n_minus_1 ∷ tree (Amp y) ∷ []) ∷ []) []
    ∷ s.Assign 6 3 (tree star_up) None (tree y) ∷ []

abbrev body_of_main : List Statement
body_of_main =
    s.Declare (Some 7) 4 6 (init.Items (tree (num 1) ∷ tree (num 2) ∷ []))
    ∷ s.Declare (Some 8) 4 7 (init.One (tree (num 3)))
    ∷ s.Declare (Some 9) 4 8 (init.One (tree (num 4)))
    ∷ s.Declare (Some 10) 4 9 (init.One (tree NullName))
    ∷ s.Assign 11 4 (tree t_m) None (tree (num 1))
    ∷ s.Invoke 12 4 (target.Place (tree a_i)) 0 (tree (Amp (Name 7)) ∷ [])
    ∷ s.Invoke 13 4 target.None 1 (tree (Amp p) ∷ [])
    ∷ s.Invoke 14 4 target.None 2 (tree (num 1) ∷ tree (Amp (Name 7)) ∷ [])
    ∷ s.Release 15 4 (tree p)
    ∷ s.Return 16 4 (Some (tree (num 0))) ∷ []

abbrev program : Program
program = record {
  items = item.Include true ∷ item.Struct 0 ∷ item.Global 0 init.None ∷ item.Define 0 ∷ item.Define 1 ∷ item.Define 2 ∷ item.Define 3 ∷ [];
  vars =
      var_of (codes "t") (type.Struct 0) None false ∷ var_of (codes "q") type_pointer (Some 0) true
      ∷ var_of (codes "r") (type.PointerTo type_pointer) (Some 1) true ∷ var_of (codes "n") type_int (Some 2) true
      ∷ var_of (codes "up") type_pointer (Some 2) true ∷ var_of (codes "y") type_int (Some 2) false
      ∷ var_of (codes "a") (type.Array type_int 5 (codes "5")) (Some 3) false ∷ var_of (codes "x") type_int (Some 3) false
      ∷ var_of (codes "i") type_int (Some 3) false ∷ var_of (codes "p") type_pointer (Some 3) false ∷ [];
  structs = (record { name = codes "s"; members = (record { name = codes "n"; shape = type_int }) ∷ (record { name = codes "m"; shape = type_int }) ∷ [] }) ∷ [];
  functions =
      function_of (codes "f") (Some type_int) (1 ∷ []) body_of_f ∷ function_of (codes "g") None (2 ∷ []) body_of_g
      ∷ function_of (codes "h") None (3 ∷ 4 ∷ []) body_of_h ∷ function_of (codes "main") (Some type_int) [] body_of_main ∷ [];
  statements = 17;
}

-- ---- its statements

doings_of_f : doings_of program 0 ≡ Does 0 (Sets (tree star_q) None (tree (num 2))) ∷ Does 1 (Returns (Some (tree (num 1)))) ∷ []
doings_of_f = simp (doings-Assign, doings-Return)

doings_of_g : doings_of program 1 ≡ Does 2 (Allocates (target.Place (tree star_r)) (amount.Size (size.Type type_int))) ∷ []
doings_of_g = simp doings-Heap

doings_of_h : doings_of program 2 ≡ Does 3 (Begins 5 (init.One (tree (Name 3)))) ∷ Does 4 (Tests (tree (Name 3))) ∷ Calls 5 target.None 2 (tree n_minus_1 ∷ tree (Amp y) ∷ []) ∷ Does 6 (Sets (tree star_up) None (tree y)) ∷ []
doings_of_h = simp (doings-Declare, doings-If, doings-Invoke, doings-Assign)

doings_of_main :
    doings_of program 3
    ≡ Does 7 (Begins 6 (init.Items (tree (num 1) ∷ tree (num 2) ∷ []))) ∷ Does 8 (Begins 7 (init.One (tree (num 3))))
    ∷ Does 9 (Begins 8 (init.One (tree (num 4)))) ∷ Does 10 (Begins 9 (init.One (tree NullName))) ∷ Does 11 (Sets (tree t_m) None (tree (num 1)))
    ∷ Calls 12 (target.Place (tree a_i)) 0 (tree (Amp (Name 7)) ∷ []) ∷ Calls 13 target.None 1 (tree (Amp p) ∷ [])
    ∷ Calls 14 target.None 2 (tree (num 1) ∷ tree (Amp (Name 7)) ∷ []) ∷ Does 15 (Frees (tree p)) ∷ Does 16 (Returns (Some (tree (num 0)))) ∷ []
doings_of_main = simp (doings-Declare, doings-Assign, doings-Invoke, doings-Release, doings-Return)

-- ---- its locations

abbrev located : Root → List Part → ExprType → TypedLocation
located root path t = record { location = record { root = root; path = path }; type = t }

abbrev int : ExprType
int = integer Int

abbrev all : List TypedLocation
all =
    input ∷ located (Variable 0) [] (of_base (base.Struct 0)) ∷ located (Variable 0) (part.Member 0 ∷ []) int ∷ located (Variable 0) (part.Member 1 ∷ []) int
    ∷ located (Variable 1) [] (pointer_to int) ∷ located (Variable 2) [] (pointer_to (pointer_to int)) ∷ located (Variable 3) [] int
    ∷ located (Variable 4) [] (pointer_to int) ∷ located (Variable 5) [] int ∷ located (Variable 6) [] (with_layer (layer.Array 5) int)
    ∷ located (Variable 6) (part.Element ∷ []) int ∷ located (Variable 7) [] int ∷ located (Variable 8) [] int ∷ located (Variable 9) [] (pointer_to int)
    ∷ located (Site 2) [] int ∷ located (Result 0) [] int ∷ located (Result 3) [] int ∷ []

heaps_are : function_heaps program program.functions ≡ (record { id = 2; elements = int }) ∷ []
heaps_are =
    rw (doings_of_f, doings_of_g, doings_of_h, doings_of_main)
    (ap (λ (t : ExprType). (record { id = 2; elements = pointee t }) ∷ []) (fold_tree (tree_type_step program) star_r) ∙ rw shape_pointers refl)

locations_are : locations program ≡ all
locations_are =
    ap (λ (hs : List Heap). input ∷ (variable_locations program 0 program.vars ++ (site_locations program hs ++ result_locations program 0 program.functions))) heaps_are
    ∙ rw (shape_struct, shape_pointer, shape_pointers, shape_int, shape_array) refl

abbrev at : Root → List Part → Location
at root path = record { root = root; path = path }

abbrev whole_of : ℕ → Location
whole_of x = at (Variable x) []

-- ---- where its pointers may point

abbrev pairs : List (Location × Location)
pairs =
    (whole_of 1, whole_of 7) ∷ (whole_of 2, whole_of 9) ∷ (whole_of 9, at (Site 2) []) ∷ (whole_of 4, whole_of 5) ∷ (whole_of 4, whole_of 7) ∷ []

abbrev points : TargetsOf
points l m = list_any (λ (w : Location × Location). same_location w.0 l && same_location w.1 m) pairs

-- ---- what statements define, use and kill

abbrev denotes : Small → Denoted
denotes = folded (denoted_step program points)

places_are : (a : Small) (l : Location) → expr_places program points (tree a) l ≡ (denotes a).places l
places_are a l = ap (λ (d : Denoted). d.places l) (fold_tree (denoted_step program points) a)

found_by : (a : Small) (l : Location) → left_reads program points (tree a) l ≡ (denotes a).reads l
found_by a l = ap (λ (d : Denoted). d.reads l) (fold_tree (denoted_step program points) a)

kills_are : (a : Small) (l : Location) → left_kills program points (tree a) l ≡ named_kills program points (folded (designated_step program) a).name (denotes a).places l
kills_are a l =
    ap₂ (λ (x : Option ℕ) (d : Denoted). named_kills program points x d.places l) (ap (λ (d : Designated). d.name) (fold_tree (designated_step program) a)) (fold_tree (denoted_step program points) a)

-- parts and targets of locations, by the list
parts_are :
    (h : Part) (d : Places) (l : Location)
    → part_of program h d l ≡ (list_any (λ (o : TypedLocation). same_location o.location l) all && list_any (λ (o : TypedLocation). d o.location && same_location (inside o.location h) l) all)
parts_are h d l =
    ap (λ (ls : List TypedLocation). list_any (λ (o : TypedLocation). same_location o.location l) ls && list_any (λ (o : TypedLocation). d o.location && same_location (inside o.location h) l) ls) locations_are

targets_are :
    (d : Places) (l : Location)
    → targets program points d l ≡ (list_any (λ (o : TypedLocation). same_location o.location l) all && list_any (λ (o : TypedLocation). d o.location && points o.location l) all)
targets_are d l =
    ap (λ (ls : List TypedLocation). list_any (λ (o : TypedLocation). same_location o.location l) ls && list_any (λ (o : TypedLocation). d o.location && points o.location l) ls) locations_are

-- a pointer variable points to what its location may point to
pointed : (x : ℕ) (t : ExprType) (l : Location) → type_of_variable program x ≡ pointer_to t → value_points program points (denotes (Name x)) l ≡ targets program points (whole x) l
pointed x t l e = ap (λ (u : ExprType). if is_array u then part_of program part.Element (whole x) l else (is_pointer u && targets program points (whole x) l)) e

-- t.m = 1; defines and kills m, and not n
member_defined : act_defines program points 3 (Sets (tree t_m) None (tree (num 1))) (at (Variable 0) (part.Member 1 ∷ [])) ≡ true
member_defined = places_are t_m _ ∙ parts_are (part.Member 1) (whole 0) (at (Variable 0) (part.Member 1 ∷ []))

other_member_kept : act_defines program points 3 (Sets (tree t_m) None (tree (num 1))) (at (Variable 0) (part.Member 0 ∷ [])) ≡ false
other_member_kept = places_are t_m _ ∙ parts_are (part.Member 1) (whole 0) (at (Variable 0) (part.Member 0 ∷ []))

member_killed : act_kills program points 3 (Sets (tree t_m) None (tree (num 1))) (at (Variable 0) (part.Member 1 ∷ [])) ≡ true
member_killed = kills_are t_m _ ∙ parts_are (part.Member 1) (whole 0) (at (Variable 0) (part.Member 1 ∷ []))

-- int a[5] = {1, 2}; defines the elements
list_defines : act_defines program points 3 (Begins 6 (init.Items (tree (num 1) ∷ tree (num 2) ∷ []))) (at (Variable 6) (part.Element ∷ [])) ≡ true
list_defines = parts_are part.Element (whole 6) (at (Variable 6) (part.Element ∷ []))

-- a[i] = f(&x); the actual-out of the result uses i and not a, defines the elements, and kills none
result_uses : kind_uses program points 3 (ActualOut 12 slot.Result) (whole_of 8) ≡ true
result_uses = ap (λ ds. out_uses program points (find (has_number 12) ds) slot.Result (whole_of 8)) doings_of_main ∙ (found_by a_i (whole_of 8) ∙ rw (shape_array, shape_int) refl)

array_not_read : kind_uses program points 3 (ActualOut 12 slot.Result) (at (Variable 6) (part.Element ∷ [])) ≡ false
array_not_read = ap (λ ds. out_uses program points (find (has_number 12) ds) slot.Result (at (Variable 6) (part.Element ∷ []))) doings_of_main ∙ (found_by a_i (at (Variable 6) (part.Element ∷ [])) ∙ rw (shape_array, shape_int) refl)

result_defines : kind_defines program points 3 (ActualOut 12 slot.Result) (at (Variable 6) (part.Element ∷ [])) ≡ true
result_defines = ap (λ ds. out_defines program points 3 (find (has_number 12) ds) slot.Result (at (Variable 6) (part.Element ∷ []))) doings_of_main ∙ (places_are a_i _ ∙ rw shape_array (parts_are part.Element (whole 6) (at (Variable 6) (part.Element ∷ []))))

result_kills_none : kind_kills program points 3 (ActualOut 12 slot.Result) (at (Variable 6) (part.Element ∷ [])) ≡ false
result_kills_none = ap (λ ds. out_kills program points 3 (find (has_number 12) ds) slot.Result (at (Variable 6) (part.Element ∷ []))) doings_of_main ∙ (kills_are a_i _ ∙ rw shape_array refl)

-- f modifies x, and defines no i; x is seen outside, since its address is taken
caller_defined : act_defines program points 0 (Sets (tree star_q) None (tree (num 2))) (whole_of 7) ≡ true
caller_defined = places_are star_q _ ∙ (pointed 1 int (whole_of 7) shape_pointer ∙ targets_are (whole 1) (whole_of 7))

neighbour_kept : act_defines program points 0 (Sets (tree star_q) None (tree (num 2))) (whole_of 8) ≡ false
neighbour_kept = places_are star_q _ ∙ (pointed 1 int (whole_of 8) shape_pointer ∙ targets_are (whole 1) (whole_of 8))

in_main : {d : Doing} → IsIn (doings_of program 3) d → Contains (doings_of program 3) d
in_main {d} h = contains_of_in (doings_of program 3) d h

abbrev call_of_f : Doing
call_of_f = Calls 12 (target.Place (tree a_i)) 0 (tree (Amp (Name 7)) ∷ [])

takes_are : (a : Small) (x : ℕ) → left_takes program (tree a) x ≡ (folded (designated_step program) a).takes x
takes_are a x = ap (λ (d : Designated). d.takes x) (fold_tree (designated_step program) a)

address_taken : expr_takes program (tree (Amp (Name 7))) 7 ≡ true
address_taken = ap (λ (d : Designated). value_takes d 7) (fold_tree (designated_step program) (Amp (Name 7)))

x_taken : is_taken program 7 ≡ true
x_taken =
    let of_call : doing_takes program call_of_f 7 ≡ true = ap (λ b. left_takes program (tree a_i) 7 || (b || false)) address_taken ∙ or-true (left_takes program (tree a_i) 7) in
    let of_main : function_takes program (function_of (codes "main") (Some type_int) [] body_of_main) 7 ≡ true = any_in (λ (d : Doing). doing_takes program d 7) (doings_of program 3) call_of_f (subst (λ ds. IsIn ds call_of_f) (sym doings_of_main) (inr (inr (inr (inr (inr (inl refl))))))) of_call in
    any_in (λ (f : Function). function_takes program f 7) program.functions (function_of (codes "main") (Some type_int) [] body_of_main) (inr (inr (inr (inl refl)))) of_main

caller_modified : Modifies program points 0 (whole_of 7)
caller_modified = record {
  function = 0;
  doing = Does 0 (Sets (tree star_q) None (tree (num 2)));
  called = itself;
  member = contains_of_in (doings_of program 0) (Does 0 (Sets (tree star_q) None (tree (num 2)))) (subst (λ ds. IsIn ds (Does 0 (Sets (tree star_q) None (tree (num 2))))) (sym doings_of_f) (inl refl));
  defined = caller_defined;
  outside = x_taken;
}

-- *r = malloc(sizeof(int)); in g defines p of main, and not its site
malloc_defines : act_defines program points 1 (Allocates (target.Place (tree star_r)) (amount.Size (size.Type type_int))) (whole_of 9) ≡ true
malloc_defines = places_are star_r _ ∙ (pointed 2 (pointer_to int) (whole_of 9) shape_pointers ∙ targets_are (whole 2) (whole_of 9))

site_kept : act_defines program points 1 (Allocates (target.Place (tree star_r)) (amount.Size (size.Type type_int))) (at (Site 2) []) ≡ false
site_kept = places_are star_r _ ∙ (pointed 2 (pointer_to int) (at (Site 2) []) shape_pointers ∙ targets_are (whole 2) (at (Site 2) []))

-- *up = y; in h defines y, of which each activation has a block, and kills it not
outer_defined : act_defines program points 2 (Sets (tree star_up) None (tree y)) (whole_of 5) ≡ true
outer_defined = places_are star_up _ ∙ (pointed 4 int (whole_of 5) shape_pointer ∙ targets_are (whole 4) (whole_of 5))

outer_not_killed : act_kills program points 2 (Sets (tree star_up) None (tree y)) (whole_of 5) ≡ false
outer_not_killed = kills_are star_up _

-- free(p); uses p and not the object, and defines nothing
free_uses : act_uses program points (Frees (tree p)) (whole_of 9) ≡ true
free_uses = ap (λ (d : Denoted). value_reads program points d (whole_of 9)) (fold_tree (denoted_step program points) p) ∙ rw shape_pointer refl

free_leaves : act_defines program points 3 (Frees (tree p)) (at (Site 2) []) ≡ false
free_leaves = refl
