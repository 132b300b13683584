-- In a typed state an act reads only cells whose locations its statement may use, and stores only into cells whose locations it may define;
-- and each of these cells counts: other activations may see its block, or this one names it.
use Rattle.std.proofs.Common.{◌≡◌, ℕ, ℤ, pos, zero, suc, List, [], ◌∷◌, ◌++◌, length, Option, Some, None, Bool, true, false, ◌&&◌, ◌||◌, ◌⊎◌, inl, inr, refl, sym, ap, ◌∙◌, subst}
use Rattle.std.specs.Prelude.{not, nat_lt, nat_le, option_map, option_and_then, is_some, slice_get, All}
use Rattle.std.specs.List.{list_all}
use Rattle.std.proofs.lemmas.Bool.{false≢true, and_parts, or_left, or_right, or_cases}
use Rattle.std.proofs.lemmas.List.Elements.{All-append, All-nil}
use Rattle.c_arith.specs.declared.int_type.IntType.TheVariants.{Int, UChar}
use Rattle.c_arith.specs.declared.operators.BinaryOp.{BinaryOp}
use Rattle.c_arith.specs.declared.operators.BinaryOp.TheVariants.{Add}
use Rattle.c_arith.specs.IntType.{convert}
use Rattle.c_language.proofs.Options.{none_there, some_same, map_there, then_there}
use Rattle.c_language.proofs.Tests.{by_test}
use Rattle.c_tree.specs.declared.expr.Expr.{Expr}
use Rattle.c_tree.specs.declared.program.Init.{Init}
use Rattle.c_tree.specs.declared.program.Init.TheVariants as init
use Rattle.c_tree.specs.declared.program.Program.{Program}
use Rattle.c_tree.specs.declared.statement.Amount.{Amount}
use Rattle.c_tree.specs.declared.statement.Amount.TheVariants as amount
use Rattle.c_tree.specs.declared.statement.Target.{Target}
use Rattle.c_tree.specs.declared.statement.Target.TheVariants as target
use Rattle.c_tree.specs.declared.types.CType.{CType}
use Rattle.c_language.specs.ArrayRules.{element_of, count_of}
use Rattle.c_language.specs.CallRules.{has_width, is_char}
use Rattle.c_language.specs.Code.{Act, Begins, Sets, Bumps, Fetches, Writes, Prints, Allocates, Frees, Returns, Tests}
use Rattle.c_language.specs.ConstantEvaluation.{operand_type}
use Rattle.c_language.specs.Constants.{literal_bytes}
use Rattle.c_language.specs.DeclaredTypes.{integer}
use Rattle.c_language.specs.ExprRules.{holds_of}
use Rattle.c_language.specs.Formats.{Conversion, Piece, format_pieces, conversions, conversion_width}
use Rattle.c_language.specs.declared.expr_type.Base.{Base}
use Rattle.c_language.specs.declared.expr_type.Layer.{Layer}
use Rattle.c_language.specs.declared.expr_type.Layer.TheVariants as layer
use Rattle.c_language.specs.declared.expr_type.ExprType.{ExprType}
use Rattle.c_language.specs.declared.expr_type.Operand.{Operand}
use Rattle.c_language.specs.ExprTypes.{a_value, value_type, target_of, integer_of, is_integer, is_pointer, is_scalar, is_array_in, is_array, is_assignable, binary_result}
use Rattle.c_language.specs.TreeTypes.{shape_of, typing_of, type_of_variable, int_type}
use Rattle.c_language.specs.TypeRules.{one}
use Rattle.c_meaning.specs.declared.value.Hop.TheVariants as hop
use Rattle.c_meaning.specs.declared.value.Place.{Place}
use Rattle.c_meaning.specs.declared.value.Value.{Value}
use Rattle.c_meaning.specs.declared.value.Value.TheVariants.{Number, Null, To}
use Rattle.c_meaning.specs.Memory.{Memory, can_free}
use Rattle.c_meaning.specs.Pointers.{type_at, inside}
use Rattle.c_meaning.specs.Values.{Types, Origin, OfVariable, State, Meant, whole, variable_place, tested, at_operands, number_in, type_of, place, eval, eval_all}
use Rattle.c_meaning.specs.Acts.{Store, Made, target_type, shows, store, storing, writable, assigned, right_of, bump, bumped, list_stores, all_as, all_cells, storing_all, listed_in, given, next_byte, taking, put_out, printed_all, asked_count, granted, beginning, next_block, begun_for, allocated_by, freed_at, as_result, returning, shown_result, begun_with, made}
use Rattle.dep_model.specs.declared.location.Location.{Location}
use Rattle.dep_model.specs.declared.location.Part.TheVariants as part
use Rattle.dep_model.specs.Denoted.{Places, TargetsOf, whole as whole_places, variable, part_of, denoted, expr_reads, expr_places, left_reads}
use Rattle.dep_model.specs.Designated.{Designated, is_array_place, is_root, value_takes}
use Rattle.dep_model.specs.DoingEffects.{the_input, expr_takes, left_takes, any_takes, maybe_takes, init_takes, target_takes, amount_takes, act_takes, any_reads, maybe_reads, target_reads, target_places, amount_reads, init_reads, init_places, compound_reads, act_uses, act_defines}
use Rattle.dep_model.specs.LocationLists.{AreStructsInOrder}
use Rattle.dep_model.specs.Locations.{same_location}
use Rattle.dep_model.proofs.Membership.{IsIn}
use Rattle.typed_programs.specs.TreeOperands.{Declarations, declarations, variable_shape, operand_of}
use Rattle.typed_programs.specs.TypedStatements.{is_left_side, takes, assigns, sets, bumps, lists, begins_with, converts, stores, asks, holds_objects, allocates, returns, act_fits, is_number, passes, begins, measures, passed, gives}
use Rattle.typed_programs.proofs.TypedUses.{holds_there, operand_there}
use Rattle.run_facts.specs.CellLocations.{location_in}
use Rattle.run_facts.specs.DenotedCells.{LiesBy, IsReadOf, AreTaken, IsDenoted}
use Rattle.run_facts.specs.ReadCells.{reads_input, watched, value_read, left_read, all_read, maybe_read, init_read, target_read, amount_read, compound_read, act_read}
use Rattle.run_facts.specs.TypedStates.{is_seen, IsTypedState}
use Rattle.run_facts.proofs.AssignedValues.{assigned_there, writable_there}
use Rattle.run_facts.proofs.DenotedForms.{form_is}
use Rattle.run_facts.proofs.ExprsDenoted.{AreShapes, has_type, expr_denoted}
use Rattle.run_facts.proofs.ListedObjects.{location_itself, part_among, object_listed, elements_listed}
use Rattle.run_facts.proofs.ObjectForms.{both_there, name_object}
use Rattle.run_facts.proofs.SameValues.{means_it}
use Rattle.run_facts.proofs.TypedActs.{beside_there}

-- ---- what a list stores

-- each item of a list goes to an element
pub list_place : (q : Place) (t : ExprType) (i n : ℕ) (vs : List Value) (w : Store) → IsIn (list_stores q t i n vs) w → (j : ℕ) × (w.place ≡ inside (hop.Element j) q)
list_place q t i zero vs w h = absurd h
list_place q t i (suc n) [] w (inl e) = (i, ap (λ (u : Store). u.place) (sym e))
list_place q t i (suc n) [] w (inr h) = list_place q t (suc i) n [] w h
list_place q t i (suc n) (v ∷ vs) w (inl e) = (i, ap (λ (u : Store). u.place) (sym e))
list_place q t i (suc n) (v ∷ vs) w (inr h) = list_place q t (suc i) n vs w h

-- a list is stored in an array, element by element, and each is a live cell
pub record IsListed (mem : Memory) (t : ExprType) (q : Place) (m : Made) : Type 0 where
  pub count : ℕ
  pub inner : List Layer
  pub layers_are : t.layers ≡ layer.Array count ∷ inner
  pub items : ExprType
  pub values : List Value
  pub stores_are : m.stores ≡ list_stores q items 0 count values
  pub live : all_cells mem m.stores ≡ true
  pub silent : m.returned ≡ None

pub listed_there : (ls : List Layer) (b : Base) (mem : Memory) (vs : List Value) (q : Place) (m : Made) → listed_in ls b mem vs q ≡ Some m → IsListed mem (record { layers = ls; base = b }) q m
listed_there [] b mem vs q m e = none_there e
listed_there (layer.Pointer ∷ ls) b mem vs q m e = none_there e
listed_there (layer.Array n ∷ ls) b mem vs q m e =
    let t : ExprType = record { layers = ls; base = b } in
    let ws = then_there (λ (us : List Value). storing_all mem n us (list_stores q t 0 n us)) (all_as t vs) m e in
    let all = list_stores q t 0 n ws.value in
    by_test (nat_le (length ws.value) n && all_cells mem all) ws.same
    (λ fits same. record {
      count = n;
      inner = ls;
      layers_are = refl;
      items = t;
      values = ws.value;
      stores_are = ap (λ (x : Made). x.stores) (sym (some_same same));
      live = subst (λ (us : List Store). all_cells mem us ≡ true) (ap (λ (x : Made). x.stores) (some_same same)) (and_parts (nat_le (length ws.value) n) (all_cells mem all) fits).1;
      silent = ap (λ (x : Made). x.returned) (sym (some_same same));
    })
    (λ short none. none_there none)

scalar_no_array : (ls : List Layer) (b : Base) → is_scalar (record { layers = ls; base = b }) ≡ true → is_array (record { layers = ls; base = b }) ≡ false
scalar_no_array [] b h = refl
scalar_no_array (layer.Pointer ∷ ls) b h = refl
scalar_no_array (layer.Array n ∷ ls) b h = absurd (false≢true h)

-- who reads from the input uses and defines it
pub reading_touches : (p : Program) (points : TargetsOf) (f : ℕ) (act : Act) → reads_input act ≡ true → (act_uses p points act the_input ≡ true) × (act_defines p points f act the_input ≡ true)
reading_touches p points f (Begins x i) e = absurd (false≢true e)
reading_touches p points f (Sets left op right) e = absurd (false≢true e)
reading_touches p points f (Bumps left up) e = absurd (false≢true e)
reading_touches p points f (Fetches to) e = (refl, refl)
reading_touches p points f (Writes b) e = absurd (false≢true e)
reading_touches p points f (Prints format args) e = absurd (false≢true e)
reading_touches p points f (Allocates to n) e = absurd (false≢true e)
reading_touches p points f (Frees b) e = absurd (false≢true e)
reading_touches p points f (Returns b) e = absurd (false≢true e)
reading_touches p points f (Tests b) e = absurd (false≢true e)

module _ (p : Program) (order : AreStructsInOrder p) (shapes : AreShapes p) (points : TargetsOf) (s : State) (typed : IsTypedState p points s) (result : Option ExprType) where
  abbrev types : Types
  types = record { typing = typing_of p; result = result }

  abbrev d : Declarations
  d = declarations p

  abbrev Taken : (ℕ → Bool) → Type 0
  Taken taken = AreTaken p s taken

  -- cells that are at some locations, and that count
  abbrev pub AllAt : Places → List Place → Type 0
  AllAt places qs = All (IsReadOf p s places) qs

  wider : (a b : Places) (qs : List Place) → ((l : Location) → a l ≡ true → b l ≡ true) → AllAt a qs → AllAt b qs
  wider a b qs le h k q low = let r = h k q low in record { origin = r.origin; origin_is = r.origin_is; among = le (location_in r.origin _) r.among; counts = r.counts }

  both_at : (a : Places) (qs rs : List Place) → AllAt a qs → AllAt a rs → AllAt a (qs ++ rs)
  both_at a qs rs first second = All-append (IsReadOf p s a) qs rs first second

  none_at : (a : Places) → AllAt a []
  none_at a = All-nil (IsReadOf p s a)

  -- ---- expressions

  denoted_at : (e : Expr) (x : Operand) → operand_of d e ≡ Some x → IsDenoted p s points x.is_null (denoted p points e) (watched types e)
  denoted_at e x h = expr_denoted p order points s typed result shapes e x h

  -- what is read for a value
  reads_of : (e : Expr) (x : Operand) (v : Value) → operand_of d e ≡ Some x → Taken (value_takes (denoted p points e).form) → eval types e s ≡ Some v → AllAt (expr_reads p points e) (value_read types e s)
  reads_of e x v h taken is = (denoted_at e x h).read taken v (ap (λ (m : Meant). m.value s) (means_it types e) ∙ is)

  pub value_cells : (e : Expr) (x : Operand) (v : Value) → operand_of d e ≡ Some x → Taken (expr_takes p e) → eval types e s ≡ Some v → AllAt (expr_reads p points e) (value_read types e s)
  value_cells e x v h taken is = reads_of e x v h (subst (λ (k : Designated). Taken (value_takes k)) (sym (form_is p points e)) taken) is

  counts_by : (root : Option ℕ) (b : ℕ) (o : Origin) → LiesBy p s root b o → (is_seen p o ≡ true) ⊎ ((x : ℕ) × (s.frame x ≡ Some b))
  counts_by None b o h = inl h
  counts_by (Some x) b o h = inr (x, h)

  -- a left side: what is read to find its object, and the object
  pub record IsLeftAt (e : Expr) (q : Place) : Type 0 where
    pub found : AllAt (left_reads p points e) (left_read types e s)
    pub place : IsReadOf p s (expr_places p points e) q

  pub left_cells : (e : Expr) (x : Operand) (q : Place) → operand_of d e ≡ Some x → Taken (left_takes p e) → place types e s ≡ Some q → IsLeftAt e q
  left_cells e x q h taken at_ =
      let g = denoted_at e x h in
      let t = subst (λ (k : Designated). Taken k.takes) (sym (form_is p points e)) taken in
      let w = ap (λ (m : Meant). m.place s) (means_it types e) ∙ at_ in
      let a = g.addressed q w in
      let o = g.object t q w in
      record {
        found = g.found t a.0 a.1;
        place = record { origin = o.origin; origin_is = o.origin_is; among = o.among; counts = counts_by (denoted p points e).form.root q.block o.origin o.lies };
      }

  -- a left side takes no more for its value than for its object
  scalar_taken : (e : Expr) (x : Operand) → operand_of d e ≡ Some x → is_scalar x.shape ≡ true → Taken (left_takes p e) → Taken (value_takes (denoted p points e).form)
  scalar_taken e x h scalar taken y u =
      let f = (denoted p points e).form in
      let array : is_array f.type ≡ false = ap is_array (has_type p points e ∙ shapes e x h) ∙ scalar_no_array x.shape.layers x.shape.base scalar in
      elim (or_cases (f.takes y) (is_array_place f && is_root f.root y) u) [
        | inl t ↦ taken y (ap (λ (k : Designated). k.takes y) (sym (form_is p points e)) ∙ t)
        | inr t ↦ let a = and_parts (is_array_place f) (is_root f.root y) t in absurd (false≢true (sym array ∙ (and_parts f.is_place (is_array f.type) a.0).1))
      ]

  -- the value of a left side reads what finds it, and its object
  left_value_cells : (e : Expr) (x : Operand) (v : Value) (a : Places) → operand_of d e ≡ Some x → is_scalar x.shape ≡ true → Taken (left_takes p e) → eval types e s ≡ Some v → ((l : Location) → left_reads p points e l ≡ true → a l ≡ true) → ((l : Location) → expr_places p points e l ≡ true → a l ≡ true) → AllAt a (value_read types e s)
  left_value_cells e x v a h scalar taken is first second =
      wider (expr_reads p points e) a (value_read types e s) le (reads_of e x v h (scalar_taken e x h scalar taken) is)
    where
      le : (l : Location) → expr_reads p points e l ≡ true → a l ≡ true
      le l u =
          let k = denoted p points e in
          elim (or_cases (k.reads l) ((k.form.is_place && is_scalar k.form.type) && k.places l) u) [
            | inl t ↦ first l t
            | inr t ↦ second l (and_parts (k.form.is_place && is_scalar k.form.type) (k.places l) t).1
          ]

  -- the object of a variable
  variable_cell : (x : ℕ) (q : Place) → variable_place x s ≡ Some q → IsReadOf p s (whole_places x) q
  variable_cell x q e =
      let m = map_there whole (s.frame x) q e in
      subst (IsReadOf p s (whole_places x)) m.same
      (record { origin = OfVariable x; origin_is = typed.named x m.value m.there; among = location_itself (variable x); counts = inr (x, m.there) })

  -- an element of the array that a variable is
  element_cell : (x j : ℕ) (q : Place) → variable_place x s ≡ Some q → is_array (type_of_variable p x) ≡ true → IsReadOf p s (part_of p part.Element (whole_places x)) (inside (hop.Element j) q)
  element_cell x j q e array =
      let m = map_there whole (s.frame x) q e in
      let b = whole m.value in
      let t = type_of_variable p x in
      let made = typed.named x m.value m.there in
      let type : type_at s.memory b ≡ Some t = (name_object p order points s typed x b (ap (option_map whole) m.there)).type_is in
      subst (λ (z : Place). IsReadOf p s (part_of p part.Element (whole_places x)) (inside (hop.Element j) z)) m.same
      (record {
        origin = OfVariable x;
        origin_is = made;
        among = part_among p part.Element (whole_places x) (variable x) (location_in (OfVariable x) (hop.Element j ∷ [])) t _ (object_listed p order points s typed b (OfVariable x) t made refl type) (elements_listed p order points s typed b (OfVariable x) t made refl type array) refl (location_itself (variable x));
        counts = inr (x, m.there);
      })

  -- ---- lists of expressions

  abbrev pub AreOperands : List Expr → Type 0
  AreOperands [] = Unit {0}
  AreOperands (e ∷ es) = ((x : Operand) × (operand_of d e ≡ Some x)) × AreOperands es

  pub all_cells_read : (es : List Expr) (vs : List Value) → AreOperands es → Taken (any_takes p es) → eval_all types es s ≡ Some vs → AllAt (any_reads p points es) (all_read types es s)
  all_cells_read [] vs are taken e = none_at (any_reads p points [])
  all_cells_read (a ∷ es) vs are taken e =
      let b = beside_there (eval types a s) (eval_all types es s) vs e in
      let reads = any_reads p points (a ∷ es) in
      both_at reads (value_read types a s) (all_read types es s)
      (wider (expr_reads p points a) reads (value_read types a s) (λ l u. or_left (expr_reads p points a l) (any_reads p points es l) u) (value_cells a are.0.0 b.0 are.0.1 (λ x u. taken x (or_left (expr_takes p a x) (any_takes p es x) u)) b.1.1.0))
      (wider (any_reads p points es) reads (all_read types es s) (λ l u. or_right (expr_reads p points a l) (any_reads p points es l) u) (all_cells_read es b.1.0 are.1 (λ x u. taken x (or_right (expr_takes p a x) (any_takes p es x) u)) b.1.1.1.0))

  listed_operands : (t : ExprType) (es : List Expr) → list_all (λ (e : Expr). takes d e t) es ≡ true → AreOperands es
  listed_operands t [] h = tt
  listed_operands t (e ∷ es) h =
      let k = and_parts (takes d e t) (list_all (λ (a : Expr). takes d a t) es) h in
      let x = operand_there d (is_assignable t) e k.0 in
      ((x.0, x.1), listed_operands t es k.1)

  converted_operands : (cs : List Conversion) (es : List Expr) → converts d cs es ≡ true → AreOperands es
  converted_operands [] [] h = tt
  converted_operands [] (e ∷ es) h = absurd (false≢true h)
  converted_operands (c ∷ cs) [] h = absurd (false≢true h)
  converted_operands (c ∷ cs) (e ∷ es) h =
      let test : Operand → Bool = λ x. has_width (conversion_width c) (integer_of x.shape) in
      let k = and_parts (passes d test e) (converts d cs es) h in
      let x = operand_there d test e k.0 in
      ((x.0, x.1), converted_operands cs es k.1)

  pub passed_operands : (xs : List ℕ) (es : List Expr) → passed d xs es ≡ true → AreOperands es
  passed_operands [] [] h = tt
  passed_operands [] (e ∷ es) h = absurd (false≢true h)
  passed_operands (x ∷ xs) [] h = absurd (false≢true h)
  passed_operands (x ∷ xs) (e ∷ es) h =
      let k = and_parts (holds_of (takes d e) (variable_shape d x)) (passed d xs es) h in
      let t = holds_there (takes d e) (variable_shape d x) k.0 in
      let y = operand_there d (is_assignable t.0) e t.2 in
      ((y.0, y.1), passed_operands xs es k.1)

  -- what the expression at a place reads
  pub argument_cells : (es : List Expr) (vs : List Value) (k : ℕ) (arg : Expr) → AreOperands es → Taken (any_takes p es) → eval_all types es s ≡ Some vs → slice_get es k ≡ Some arg → AllAt (expr_reads p points arg) (value_read types arg s)
  argument_cells [] vs k arg are taken e is = none_there is
  argument_cells (a ∷ es) vs zero arg are taken e is =
      let b = beside_there (eval types a s) (eval_all types es s) vs e in
      subst (λ (z : Expr). AllAt (expr_reads p points z) (value_read types z s)) (some_same is) (value_cells a are.0.0 b.0 are.0.1 (λ x u. taken x (or_left (expr_takes p a x) (any_takes p es x) u)) b.1.1.0)
  argument_cells (a ∷ es) vs (suc k) arg are taken e is =
      let b = beside_there (eval types a s) (eval_all types es s) vs e in
      argument_cells es b.1.0 k arg are.1 (λ x u. taken x (or_right (expr_takes p a x) (any_takes p es x) u)) b.1.1.1.0 is

  -- ---- what is stored

  abbrev pub StoresAt : Places → Made → Type 0
  StoresAt places m = (w : Store) → IsIn m.stores w → IsReadOf p s places w.place

  one_store : (places : Places) (q : Place) (v : Value) (m : Made) → storing q v ≡ m → IsReadOf p s places q → StoresAt places m
  one_store places q v m same h w i = at_ (subst (λ (x : Made). IsIn x.stores w) (sym same) i)
    where
      at_ : IsIn (store q v ∷ []) w → IsReadOf p s places w.place
      at_ (inl is) = subst (λ (u : Store). IsReadOf p s places u.place) is h
      at_ (inr none) = absurd none

  no_store : (places : Places) (m : Made) → m.stores ≡ [] → StoresAt places m
  no_store places m none w i = absurd (subst (λ ws. IsIn ws w) none i)

  stores_else : (a b : Places) (m : Made) → ((l : Location) → a l ≡ true → b l ≡ true) → StoresAt a m → StoresAt b m
  stores_else a b m le h w i = let r = h w i in record { origin = r.origin; origin_is = r.origin_is; among = le (location_in r.origin w.place.path) r.among; counts = r.counts }

  -- what reads and stores so
  pub record IsTouch (uses defines : Places) (reads : List Place) (m : Made) : Type 0 where
    pub reads_are : AllAt uses reads
    pub stores_are : StoresAt defines m

  -- ---- targets

  abbrev pub IsTarget : Target → Type 0
  IsTarget target.None = Unit {0}
  IsTarget (target.Place e) = (x : Operand) × (operand_of d e ≡ Some x)
  IsTarget (target.Declared x) = Unit {0}

  -- a value goes to a left side
  set_touches : (e : Expr) (x : Operand) (t : ExprType) (o : Option Value) (m : Made) → operand_of d e ≡ Some x → Taken (left_takes p e) → assigned t (writable s (place types e s)) o ≡ Some m → IsTouch (left_reads p points e) (expr_places p points e) (left_read types e s) m
  set_touches e x t o m h taken is =
      let a = assigned_there t (writable s (place types e s)) o m is in
      let l = left_cells e x a.place h taken (writable_there s (place types e s) a.place a.place_is) in
      record { reads_are = l.found; stores_are = one_store (expr_places p points e) a.place a.stored m a.same l.place }

  -- a value goes to a variable
  begin_touches : (x : ℕ) (t : ExprType) (o : Option Value) (m : Made) → assigned t (writable s (variable_place x s)) o ≡ Some m → StoresAt (whole_places x) m
  begin_touches x t o m is =
      let a = assigned_there t (writable s (variable_place x s)) o m is in
      one_store (whole_places x) a.place a.stored m a.same (variable_cell x a.place (writable_there s (variable_place x s) a.place a.place_is))

  pub target_touches : (to : Target) (v : Value) (m : Made) → IsTarget to → Taken (target_takes p to) → given types to v s ≡ Some m → IsTouch (target_reads p points to) (target_places p points to) (target_read types to s) m
  target_touches target.None v m h taken is =
      record { reads_are = none_at (target_reads p points target.None); stores_are = no_store (target_places p points target.None) m (ap (λ (x : Made). x.stores) (sym (some_same is))) }
  target_touches (target.Place e) v m h taken is =
      let k = set_touches e h.0 (type_of types e) (Some v) m h.1 taken is in record { reads_are = k.reads_are; stores_are = k.stores_are }
  target_touches (target.Declared x) v m h taken is =
      record { reads_are = none_at (target_reads p points (target.Declared x)); stores_are = begin_touches x (types.typing.variable x) (Some v) m is }

  -- ---- forms of acts

  -- what isn't touched but read
  only_read : (uses defines : Places) (reads : List Place) (m : Made) → AllAt uses reads → m.stores ≡ [] → IsTouch uses defines reads m
  only_read uses defines reads m h none = record { reads_are = h; stores_are = no_store defines m none }

  -- what an act makes of a value
  mapped_touches : {V : Type 0} (uses defines : Places) (reads : List Place) (g : V → Made) (o : Option V) (m : Made) → ((v : V) → o ≡ Some v → AllAt uses reads) → ((v : V) → (g v).stores ≡ []) → option_map g o ≡ Some m → IsTouch uses defines reads m
  mapped_touches uses defines reads g o m h none is =
      let k = map_there g o m is in
      only_read uses defines reads m (h k.value k.there) (ap (λ (x : Made). x.stores) (sym k.same) ∙ none k.value)

  -- an assignment, plain or compound
  module _ (left : Expr) (op : Option BinaryOp) (right : Expr) where
    abbrev uses : Places
    uses = act_uses p points (Sets left op right)

    left_used : (l : Location) → left_reads p points left l ≡ true → uses l ≡ true
    left_used l u = or_left (left_reads p points left l) (compound_reads p points op left l || expr_reads p points right l) u

    compound_used : (l : Location) → compound_reads p points op left l ≡ true → uses l ≡ true
    compound_used l u =
        or_right (left_reads p points left l) (compound_reads p points op left l || expr_reads p points right l) (or_left (compound_reads p points op left l) (expr_reads p points right l) u)

    right_used : (l : Location) → expr_reads p points right l ≡ true → uses l ≡ true
    right_used l u =
        or_right (left_reads p points left l) (compound_reads p points op left l || expr_reads p points right l) (or_right (compound_reads p points op left l) (expr_reads p points right l) u)

  assigned_reads : (left : Expr) (op : Option BinaryOp) (right : Expr) (x y : Operand) (v : Value) → operand_of d left ≡ Some x → is_scalar x.shape ≡ true → operand_of d right ≡ Some y → Taken (left_takes p left) → Taken (expr_takes p right) → right_of types op left right s ≡ Some v → AllAt (uses left op right) (compound_read types op left s ++ value_read types right s)
  assigned_reads left None right x y v h scalar k a b is =
      wider (expr_reads p points right) (uses left None right) (value_read types right s) (right_used left None right) (value_cells right y v k b is)
  assigned_reads left (Some op) right x y v h scalar k a b is =
      let w = both_there (at_operands (is_pointer (value_type (type_of types left))) (is_pointer (value_type (type_of types right))) op (operand_type op (int_type (type_of types left)) (int_type (type_of types right))) s.memory) (eval types left s) (eval types right s) v is in
      both_at (uses left (Some op) right) (value_read types left s) (value_read types right s)
      (left_value_cells left x w.0 (uses left (Some op) right) h scalar a w.1.1.0 (left_used left (Some op) right) (compound_used left (Some op) right))
      (wider (expr_reads p points right) (uses left (Some op) right) (value_read types right s) (right_used left (Some op) right) (value_cells right y w.1.0 k b w.1.1.1.0))

  sets_touches : (left : Expr) (op : Option BinaryOp) (right : Expr) (m : Made) → sets d left op right ≡ true → Taken (left_takes p left) → Taken (expr_takes p right) → assigned (type_of types left) (writable s (place types left s)) (right_of types op left right s) ≡ Some m
      → IsTouch (uses left op right) (expr_places p points left) (left_read types left s ++ (compound_read types op left s ++ value_read types right s)) m
  sets_touches left op right m h a b is =
      let k = and_parts (passes d is_left_side left) (passes d (λ (x : Operand). passes d (assigns op x) right) left) h in
      let x = operand_there d is_left_side left k.0 in
      let z = operand_there d (λ (x : Operand). passes d (assigns op x) right) left k.1 in
      let y = operand_there d (assigns op z.0) right z.2 in
      let scalar = (and_parts x.0.is_place (is_scalar x.0.shape) x.2).1 in
      let t = set_touches left x.0 (type_of types left) (right_of types op left right s) m x.1 a is in
      let v = assigned_there (type_of types left) (writable s (place types left s)) (right_of types op left right s) m is in
      record {
        reads_are = both_at (uses left op right) (left_read types left s) (compound_read types op left s ++ value_read types right s) (wider (left_reads p points left) (uses left op right) (left_read types left s) (left_used left op right) t.reads_are) (assigned_reads left op right x.0 y.0 v.value x.1 scalar y.1 a b v.value_is);
        stores_are = t.stores_are;
      }

  bumps_touches : (left : Expr) (up : Bool) (m : Made) → bumps d left ≡ true → Taken (left_takes p left) → assigned (type_of types left) (writable s (place types left s)) (bumped types left up s) ≡ Some m
      → IsTouch (act_uses p points (Bumps left up)) (expr_places p points left) (left_read types left s ++ value_read types left s) m
  bumps_touches left up m h a is =
      let k = and_parts (passes d is_left_side left) (passes d (λ (x : Operand). is_some (binary_result Add x one)) left) h in
      let x = operand_there d is_left_side left k.0 in
      let scalar = (and_parts x.0.is_place (is_scalar x.0.shape) x.2).1 in
      let t = set_touches left x.0 (type_of types left) (bumped types left up s) m x.1 a is in
      let v = assigned_there (type_of types left) (writable s (place types left s)) (bumped types left up s) m is in
      let w = both_there (at_operands (is_pointer (value_type (type_of types left))) (is_pointer (value_type (integer Int))) (bump up) (operand_type (bump up) (int_type (type_of types left)) (int_type (integer Int))) s.memory) (eval types left s) (Some (Number (pos 1))) v.value v.value_is in
      let u = act_uses p points (Bumps left up) in
      let first : (l : Location) → left_reads p points left l ≡ true → u l ≡ true = λ l e. or_left (left_reads p points left l) (expr_places p points left l) e in
      let second : (l : Location) → expr_places p points left l ≡ true → u l ≡ true = λ l e. or_right (left_reads p points left l) (expr_places p points left l) e in
      record {
        reads_are = both_at u (left_read types left s) (value_read types left s) (wider (left_reads p points left) u (left_read types left s) first t.reads_are) (left_value_cells left x.0 w.0 u x.1 scalar a w.1.1.0 first second);
        stores_are = t.stores_are;
      }

  -- ---- what a variable begins with

  begun_touches : (x : ℕ) (z : Init) (m : Made) → begins d x z ≡ true → Taken (init_takes p z) → begun_with types x z s ≡ Some m → IsTouch (init_reads p points z) (init_places p points x z) (init_read types z s) m
  begun_touches x init.None m h taken is = none_there is
  begun_touches x (init.One e) m h taken is =
      let t = holds_there (begins_with d (init.One e)) (variable_shape d x) h in
      let y = operand_there d (is_assignable t.0) e (and_parts (is_scalar t.0) (takes d e t.0) t.2).1 in
      let v = assigned_there (types.typing.variable x) (writable s (variable_place x s)) (eval types e s) m is in
      let k = value_cells e y.0 v.value y.1 taken v.value_is in
      record { reads_are = k; stores_are = begin_touches x (types.typing.variable x) (eval types e s) m is }
  begun_touches x (init.Items es) m h taken is =
      let t = holds_there (begins_with d (init.Items es)) (variable_shape d x) h in
      let u = holds_there (λ (element : ExprType). holds_of (lists d es element) (count_of t.0)) (element_of t.0) t.2 in
      let n = holds_there (lists d es u.0) (count_of t.0) u.2 in
      let fit = and_parts (is_scalar u.0) (not (nat_lt n.0 (length es)) && list_all (λ (e : Expr). takes d e u.0) es) n.2 in
      let all = and_parts (not (nat_lt n.0 (length es))) (list_all (λ (e : Expr). takes d e u.0) es) fit.1 in
      let shape = types.typing.variable x in
      let vs = then_there (λ (ws : List Value). option_and_then (listed_in shape.layers shape.base s.memory ws) (variable_place x s)) (eval_all types es s) m is in
      let q = then_there (listed_in shape.layers shape.base s.memory vs.value) (variable_place x s) m vs.same in
      let l = listed_there shape.layers shape.base s.memory vs.value q.value m q.same in
      let k = all_cells_read es vs.value (listed_operands u.0 es all.1) taken vs.there in
      record {
        reads_are = k;
        stores_are = λ w i.
            let j = list_place q.value l.items 0 l.count l.values w (subst (λ (ws : List Store). IsIn ws w) l.stores_are i) in
            subst (IsReadOf p s (init_places p points x (init.Items es))) (sym j.1) (element_cell x j.0 q.value q.there (ap is_array_in l.layers_are));
      }

  -- ---- malloc

  amount_cells : (n : Amount) (t : ExprType) (z : ℤ) → asks d n t ≡ true → Taken (amount_takes p n) → asked_count types n s ≡ Some z → AllAt (amount_reads p points n) (amount_read types n s)
  amount_cells (amount.Size k) t z h taken is = none_at (amount_reads p points (amount.Size k))
  amount_cells (amount.CountSize e k) t z h taken is =
      let y = operand_there d (λ (x : Operand). is_integer x.shape) e (and_parts (is_number d e) (measures d t k) h).0 in
      let v = then_there number_in (eval types e s) z is in
      value_cells e y.0 v.value y.1 taken v.there
  amount_cells (amount.SizeCount k e) t z h taken is =
      let y = operand_there d (λ (x : Operand). is_integer x.shape) e (and_parts (measures d t k) (is_number d e) h).1 in
      let v = then_there number_in (eval types e s) z is in
      value_cells e y.0 v.value y.1 taken v.there
  amount_cells (amount.Count e) t z h taken is =
      let y = operand_there d (λ (x : Operand). is_integer x.shape) e (and_parts (is_number d e) (is_char (integer_of t)) h).0 in
      let v = then_there number_in (eval types e s) z is in
      value_cells e y.0 v.value y.1 taken v.there

  -- the target of a malloc is a left side, and the amount is asked for objects of some type
  record IsAllocation (to : Target) (n : Amount) : Type 0 where
    target_is : IsTarget to
    object : ExprType
    asks_is : asks d n object ≡ true

  allocation : (to : Target) (n : Amount) (t : ExprType) → target_type types to ≡ Some t → allocates d to n ≡ true → IsAllocation to n
  allocation target.None n t e h = none_there e
  allocation (target.Place a) n t e h =
      let k = and_parts (passes d is_left_side a) (passes d (λ (x : Operand). holds_objects d n x.shape) a) h in
      let x = operand_there d (λ (x : Operand). holds_objects d n x.shape) a k.1 in
      let o = holds_there (asks d n) (target_of x.0.shape) x.2 in
      record { target_is = (x.0, x.1); object = o.0; asks_is = o.2 }
  allocation (target.Declared x) n t e h =
      let k = holds_there (holds_objects d n) (variable_shape d x) h in
      let o = holds_there (asks d n) (target_of k.0) k.2 in
      record { target_is = tt; object = o.0; asks_is = o.2 }

  allocated_touches : (to : Target) (n : Amount) (m : Made) → allocates d to n ≡ true → Taken (target_takes p to) → Taken (amount_takes p n) → allocated_by (target_type types to) (asked_count types n s) (given types to (next_block s) s) ≡ Some m
      → IsTouch (act_uses p points (Allocates to n)) (target_places p points to) (target_read types to s ++ amount_read types n s) m
  allocated_touches to n m h a b is =
      let x = given types to (next_block s) s in
      let o = then_there (λ (u : ExprType). option_and_then (begun_for x u) (option_and_then granted (asked_count types n s))) (option_and_then target_of (target_type types to)) m is in
      let t = then_there target_of (target_type types to) o.value o.there in
      let k = allocation to n t.value t.there h in
      let g = then_there (begun_for x o.value) (option_and_then granted (asked_count types n s)) m o.same in
      let z = then_there granted (asked_count types n s) g.value g.there in
      let y = map_there (beginning o.value g.value) x m g.same in
      let c = target_touches to (next_block s) y.value k.target_is a y.there in
      let r = amount_cells n k.object z.value k.asks_is b z.there in
      let u = act_uses p points (Allocates to n) in
      record {
        reads_are = both_at u (target_read types to s) (amount_read types n s) (wider (target_reads p points to) u (target_read types to s) (λ l e. or_left (target_reads p points to l) (amount_reads p points n l) e) c.reads_are) (wider (amount_reads p points n) u (amount_read types n s) (λ l e. or_right (target_reads p points to l) (amount_reads p points n l) e) r);
        stores_are = subst (StoresAt (target_places p points to)) y.same (λ w i. c.stores_are w i);
      }

  -- ---- acts

  freed_nothing : (v : Value) (m : Made) → freed_at s.memory v ≡ Some m → m.stores ≡ []
  freed_nothing (Number z) m e = none_there e
  freed_nothing Null m e = ap (λ (x : Made). x.stores) (sym (some_same e))
  freed_nothing (To q) m e = by_test (can_free s.memory q) e (λ is same. ap (λ (x : Made). x.stores) (sym (some_same same))) (λ is none. none_there none)

  stored_target : (to : Target) (y : Operand) → stores d to y ≡ true → IsTarget to
  stored_target target.None y h = tt
  stored_target (target.Place e) y h =
      let x = operand_there d is_left_side e (and_parts (passes d is_left_side e) (passes d (λ (z : Operand). is_assignable z.shape y) e) h).0 in (x.0, x.1)
  stored_target (target.Declared x) y h = tt

  -- where a result is stored, the target is a left side
  pub given_target : (to : Target) (o : Option CType) → gives d to o ≡ true → IsTarget to
  given_target target.None o h = tt
  given_target (target.Place e) o h =
      let k = holds_there (λ (z : CType). stores d (target.Place e) (a_value (shape_of z))) o h in
      stored_target (target.Place e) (a_value (shape_of k.0)) k.2
  given_target (target.Declared x) o h = tt

  returned_touches : (f : ℕ) (c : Option CType) (e : Option Expr) (m : Made) → returns d c e ≡ true → Taken (maybe_takes p e) → shown_result types e s ≡ Some m → IsTouch (maybe_reads p points e) (act_defines p points f (Returns e)) (maybe_read types e s) m
  returned_touches f c None m h taken is =
      only_read (maybe_reads p points None) (act_defines p points f (Returns None)) (maybe_read types None s) m (none_at (maybe_reads p points None)) (ap (λ (x : Made). x.stores) (sym (some_same is)))
  returned_touches f c (Some e) m h taken is =
      let t = holds_there (λ (k : CType). takes d e (shape_of k)) c h in
      let y = operand_there d (is_assignable (shape_of t.0)) e t.2 in
      mapped_touches (maybe_reads p points (Some e)) (act_defines p points f (Returns (Some e))) (maybe_read types (Some e) s) returning (option_and_then (as_result types.result) (eval types e s)) m
      (λ v there. let k = then_there (as_result types.result) (eval types e s) v there in value_cells e y.0 k.value y.1 taken k.there) (λ v. refl) is

  -- an act of a statement reads only what that may use, and stores only into what it may define, where types fit in it and the addresses
  -- that it takes are taken
  pub act_touches : (f : ℕ) (c : Option CType) (a : Act) (m : Made) → act_fits d c a ≡ true → Taken (act_takes p a) → made types a s ≡ Some m → IsTouch (act_uses p points a) (act_defines p points f a) (act_read types a s) m
  act_touches f c (Begins x z) m h taken is = let k = begun_touches x z m h taken is in record { reads_are = k.reads_are; stores_are = k.stores_are }
  act_touches f c (Sets left op right) m h taken is =
      let k = sets_touches left op right m h (λ y u. taken y (or_left (left_takes p left y) (expr_takes p right y) u)) (λ y u. taken y (or_right (left_takes p left y) (expr_takes p right y) u)) is in
      record { reads_are = k.reads_are; stores_are = k.stores_are }
  act_touches f c (Bumps left up) m h taken is = let k = bumps_touches left up m h taken is in record { reads_are = k.reads_are; stores_are = k.stores_are }
  act_touches f c (Fetches to) m h taken is =
      let k = map_there taking (given types to (Number (next_byte s.unread)) s) m is in
      let t = target_touches to (Number (next_byte s.unread)) k.value (stored_target to (a_value (integer Int)) h) taken k.there in
      record {
        reads_are = wider (target_reads p points to) (act_uses p points (Fetches to)) (target_read types to s) (λ l e. or_right (same_location the_input l) (target_reads p points to l) e) t.reads_are;
        stores_are = subst (StoresAt (act_defines p points f (Fetches to))) k.same (stores_else (target_places p points to) (act_defines p points f (Fetches to)) k.value (λ l e. or_right (same_location the_input l) (target_places p points to l) e) t.stores_are);
      }
  act_touches f c (Writes e) m h taken is =
      let y = operand_there d (λ (x : Operand). is_integer x.shape) e h in
      mapped_touches (act_uses p points (Writes e)) (act_defines p points f (Writes e)) (value_read types e s) (λ (v : Value). put_out (convert (tested v) UChar)) (eval types e s) m (λ v there. value_cells e y.0 v y.1 taken there) (λ v. refl) is
  act_touches f c (Prints format args) m h taken is =
      let ps = holds_there (λ (ps : List Piece). converts d (conversions ps) args) (format_pieces (literal_bytes format)) h in
      mapped_touches (act_uses p points (Prints format args)) (act_defines p points f (Prints format args)) (all_read types args s) (printed_all format) (eval_all types args s) m (λ vs there. all_cells_read args vs (converted_operands (conversions ps.0) args ps.2) taken there) (λ v. refl) is
  act_touches f c (Allocates to n) m h taken is =
      let k = allocated_touches to n m h (λ y u. taken y (or_left (target_takes p to y) (amount_takes p n y) u)) (λ y u. taken y (or_right (target_takes p to y) (amount_takes p n y) u)) is in
      record { reads_are = k.reads_are; stores_are = k.stores_are }
  act_touches f c (Frees e) m h taken is =
      let y = operand_there d (λ (x : Operand). is_pointer (value_type x.shape)) e h in
      let v = then_there (freed_at s.memory) (eval types e s) m is in
      only_read (act_uses p points (Frees e)) (act_defines p points f (Frees e)) (value_read types e s) m (value_cells e y.0 v.value y.1 taken v.there) (freed_nothing v.value m v.same)
  act_touches f c (Returns e) m h taken is = let k = returned_touches f c e m h taken is in record { reads_are = k.reads_are; stores_are = k.stores_are }
  act_touches f c (Tests e) m h taken is =
      let y = operand_there d (λ (x : Operand). is_scalar (value_type x.shape)) e h in
      mapped_touches (act_uses p points (Tests e)) (act_defines p points f (Tests e)) (value_read types e s) (λ (v : Value). shows (Number (tested v) ∷ []) []) (eval types e s) m (λ v there. value_cells e y.0 v y.1 taken there) (λ v. refl) is
