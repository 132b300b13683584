-- The forms of expressions that give a value and designate nothing.
use Rattle.std.proofs.Common.{◌≡◌, ℕ, ℤ, pos, negsuc, List, [], ◌++◌, Option, Some, None, Bool, true, false, ◌||◌, refl, sym, ap, subst}
use Rattle.std.specs.Prelude.{not, option_map, option_and_then, if◌then◌else◌, All}
use Rattle.std.proofs.lemmas.Bool.{false≢true, or_left, or_right}
use Rattle.std.proofs.lemmas.List.Elements.{All-append, All-nil}
use Rattle.c_arith.specs.declared.int_type.IntType.{IntType}
use Rattle.c_arith.specs.declared.int_type.IntType.TheVariants.{Int}
use Rattle.c_arith.specs.declared.operators.UnaryOp.{UnaryOp}
use Rattle.c_arith.specs.IntType.{promote, convert}
use Rattle.c_arith.specs.Operators.{unary_type, truth}
use Rattle.c_language.proofs.Options.{none_there, some_same, map_there, then_there}
use Rattle.c_language.specs.Words.{Bytes}
use Rattle.c_tree.specs.declared.expr.Expr.TheOpen.{Expr-F}
use Rattle.c_tree.specs.declared.program.Program.{Program}
use Rattle.c_language.specs.ConstantEvaluation.{promoted_unary, is_zero, and_value}
use Rattle.c_language.specs.DeclaredTypes.{integer, pointer_to, void}
use Rattle.c_language.specs.declared.expr_type.ExprType.{ExprType}
use Rattle.c_language.specs.ExprTypes.{is_array, value_type}
use Rattle.c_language.specs.TreeTypes.{int_type}
use Rattle.c_meaning.specs.declared.value.Place.{Place}
use Rattle.c_meaning.specs.declared.value.Pointer.{Pointer}
use Rattle.c_meaning.specs.declared.value.Value.{Value}
use Rattle.c_meaning.specs.declared.value.Value.TheVariants.{Number, Null, To}
use Rattle.c_meaning.specs.Values.{Types, State, tested, as_type, operand_in, unary_value, and_both, gives}
use Rattle.dep_model.specs.declared.location.Location.{Location}
use Rattle.dep_model.specs.Denoted.{Places, TargetsOf, Denoted, no_places, either_of, value_points, value_reads, reads_either, denoted_step}
use Rattle.dep_model.specs.Denoted as denote
use Rattle.dep_model.specs.Designated.{is_root, takes_none, value_takes, takes_either}
use Rattle.dep_model.specs.Designated as designate
use Rattle.run_facts.specs.CellLocations.{location_in}
use Rattle.run_facts.specs.DenotedCells.{IsReadOf, AreTaken, IsDenoted}
use Rattle.run_facts.specs.ReadCells.{Reads, Watched, nothing_read, chosen_read, watched_step, a_value as a_value_read}
use Rattle.run_facts.specs.TypedStates.{IsValue}

-- ---- options

number_no_pointer : {A : Type 0} (z : ℤ) (q : Pointer) → Some (Number z) ≡ Some (To q) → A
number_no_pointer z q e = cc

null_no_pointer : {A : Type 0} (q : Pointer) → Some Null ≡ Some (To q) → A
null_no_pointer q e = cc

module _ (p : Program) (points : TargetsOf) (s : State) where
  abbrev Taken : (ℕ → Bool) → Type 0
  Taken = AreTaken p s

  abbrev pub AllRead : Places → List Place → Type 0
  AllRead reads qs = All (IsReadOf p s reads) qs

  pub reads_else : (a b : Places) (qs : List Place) → ((l : Location) → a l ≡ true → b l ≡ true) → AllRead a qs → AllRead b qs
  reads_else a b qs le h k q low = let r = h k q low in record { origin = r.origin; origin_is = r.origin_is; among = le (location_in r.origin _) r.among; counts = r.counts }

  pub both_are : (a b : Places) (qs rs : List Place) → AllRead a qs → AllRead b rs → AllRead (either_of a b) (qs ++ rs)
  both_are a b qs rs first second =
      All-append (IsReadOf p s (either_of a b)) qs rs (reads_else a (either_of a b) qs (λ l e. or_left (a l) (b l) e) first) (reads_else b (either_of a b) rs (λ l e. or_right (a l) (b l) e) second)

  -- ---- all that is said of what gives a value alone

  module _ (t : ExprType) (takes : ℕ → Bool) (to reads : Places) (value : State → Option Value) (read : Reads) (is_null : Bool) where
    abbrev denoted_value : Denoted
    denoted_value = denote.a_value p points (designate.a_value t takes) to reads

    abbrev watched_value : Watched
    watched_value = a_value_read (gives t value) read

    pub record ValueParts : Type 0 where
      pub null_is : is_null ≡ true → (q : Pointer) → value s ≡ Some (To q) → ⊥
      pub value_is : Taken takes → (v : Value) → value s ≡ Some v → IsValue p s (value_type t) to v
      pub reads_are : Taken takes → (v : Value) → value s ≡ Some v → AllRead reads (read s)

    pub value_denoted : ValueParts → IsDenoted p s points is_null denoted_value watched_value
    value_denoted h = record {
      type_is = refl;
      null = h.null_is;
      object = λ taken q e. none_there e;
      starts = λ e. absurd (false≢true e);
      array_read = λ e. absurd (false≢true e);
      cell_is = λ e. absurd (false≢true e);
      value = λ taken v e. h.value_is (λ x u. taken x (or_left (takes x) false u)) v e;
      address = λ taken array v e. none_there e;
      addressed = λ q e. none_there e;
      found = λ taken v e. none_there e;
      read = λ taken v e. reads_else reads (value_reads p points denoted_value) (read s) (λ l u. or_left (reads l) false u) (h.reads_are (λ x u. taken x (or_left (takes x) false u)) v e);
    }

  -- a number
  abbrev IsNumber : Option Value → Type 0
  IsNumber o = (v : Value) → o ≡ Some v → (z : ℤ) × (Number z ≡ v)

  pub numbers : (o : Option ℤ) → IsNumber (option_map Number o)
  numbers o v e = let k = map_there Number o v e in (k.value, k.same)

  number_parts : (k : IntType) (takes : ℕ → Bool) (reads : Places) (value : State → Option Value) (read : Reads) → IsNumber (value s) → (Taken takes → (v : Value) → value s ≡ Some v → AllRead reads (read s)) → ValueParts (integer k) takes no_places reads value read false
  number_parts k takes reads value read is all = record {
    null_is = λ e. absurd (false≢true e);
    value_is = λ taken v e. subst (IsValue p s (integer k) no_places) (is v e).1 refl;
    reads_are = all;
  }

  pub number_denoted : (k : IntType) (takes : ℕ → Bool) (reads : Places) (value : State → Option Value) (read : Reads) → IsNumber (value s) → (Taken takes → (v : Value) → value s ≡ Some v → AllRead reads (read s)) → IsDenoted p s points false (denoted_value (integer k) takes no_places reads value read false) (watched_value (integer k) takes no_places reads value read false)
  number_denoted k takes reads value read is all = value_denoted (integer k) takes no_places reads value read false (number_parts k takes reads value read is all)

  -- ---- constants

  pub constant_denoted : (types : Types) (is_null : Bool) (text : Bytes) (k : IntType) (x : ℕ) → IsDenoted p s points is_null (denoted_step p points (Expr-F.Constant text k x)) (watched_step types (Expr-F.Constant text k x))
  constant_denoted types is_null text k x =
      value_denoted (integer k) takes_none no_places no_places (λ u. Some (Number (pos x))) nothing_read is_null
      (record { null_is = λ e q same. number_no_pointer (pos x) q same; value_is = λ taken v e. subst (IsValue p s (integer k) no_places) (some_same e) refl; reads_are = λ taken v e. All-nil (IsReadOf p s no_places) })

  pub null_denoted : (types : Types) (is_null : Bool) → IsDenoted p s points is_null (denoted_step p points Expr-F.Null) (watched_step types Expr-F.Null)
  null_denoted types is_null =
      value_denoted (pointer_to void) takes_none no_places no_places (λ u. Some Null) nothing_read is_null
      (record { null_is = λ e q same. null_no_pointer q same; value_is = λ taken v e. subst (IsValue p s (pointer_to void) no_places) (some_same e) refl; reads_are = λ taken v e. All-nil (IsReadOf p s no_places) })

  pub eof_denoted : (types : Types) → IsDenoted p s points false (denoted_step p points Expr-F.Eof) (watched_step types Expr-F.Eof)
  eof_denoted types =
      number_denoted Int takes_none no_places (λ u. Some (Number (negsuc 0))) nothing_read (λ v e. (negsuc 0, some_same e)) (λ taken v e. All-nil (IsReadOf p s no_places))

  -- ---- one operand

  module _ (da : Denoted) (wa : Watched) (na : Bool) (h : IsDenoted p s points na da wa) where
    abbrev ta : ExprType
    ta = da.form.type

    -- `&e`
    pub address_denoted : (types : Types) → is_array ta ≡ false → IsDenoted p s points false (denoted_step p points (Expr-F.AddressOf da)) (watched_step types (Expr-F.AddressOf wa))
    address_denoted types array =
        let takes = λ (x : ℕ). da.form.takes x || is_root da.form.root x in
        subst (λ (t : ExprType). IsDenoted p s points false (denoted_step p points (Expr-F.AddressOf da)) (a_value_read (gives t wa.meant.address) wa.found)) (sym (ap pointer_to h.type_is))
        (value_denoted (pointer_to ta) takes da.places da.reads wa.meant.address wa.found false
        (record {
          null_is = λ e. absurd (false≢true e);
          value_is = λ taken v e. h.address taken array v e;
          reads_are = λ taken v e. h.found (λ x u. taken x (or_left (da.form.takes x) (is_root da.form.root x) u)) v e;
        }))

    -- `-e`, `!e` and the like
    unary_there : (op : UnaryOp) (t : ExprType) (o : Option Value) (v : Value) → unary_value op t o ≡ Some v → (w : Value) × (o ≡ Some w)
    unary_there op t o v e =
        let a = map_there Number (option_and_then (promoted_unary op (promote (int_type t))) (option_and_then (operand_in op) o)) v e in
        let b = then_there (promoted_unary op (promote (int_type t))) (option_and_then (operand_in op) o) a.value a.there in
        let c = then_there (operand_in op) o b.value b.there in
        (c.value, c.there)

    pub unary_denoted : (types : Types) (op : UnaryOp) → IsDenoted p s points false (denoted_step p points (Expr-F.Unary op da)) (watched_step types (Expr-F.Unary op wa))
    unary_denoted types op =
        subst (λ (t : ExprType). IsDenoted p s points false (denoted_step p points (Expr-F.Unary op da)) (a_value_read (gives (integer (unary_type op (promote (int_type t)))) (λ u. unary_value op t (wa.meant.value u))) wa.read)) (sym h.type_is)
        (number_denoted (unary_type op (promote (int_type ta))) (value_takes da.form) (value_reads p points da) (λ u. unary_value op ta (wa.meant.value u)) wa.read (λ v e. numbers _ v e) (λ taken v e. let w = unary_there op ta (wa.meant.value s) v e in h.read taken w.0 w.1))

    -- an integer type takes numbers alone
    cast_number : (k : IntType) (w v : Value) → as_type (integer k) w ≡ Some v → (z : ℤ) × (Number z ≡ v)
    cast_number k (Number z) v e = (convert z k, some_same e)
    cast_number k Null v e = none_there e
    cast_number k (To q) v e = none_there e

    pub cast_denoted : (types : Types) (k : IntType) → IsDenoted p s points false (denoted_step p points (Expr-F.Cast k da)) (watched_step types (Expr-F.Cast k wa))
    cast_denoted types k =
        number_denoted k (value_takes da.form) (value_reads p points da) (λ u. option_and_then (as_type (integer k)) (wa.meant.value u)) wa.read
        (λ v e. let w = then_there (as_type (integer k)) (wa.meant.value s) v e in cast_number k w.value v w.same)
        (λ taken v e. let w = then_there (as_type (integer k)) (wa.meant.value s) v e in h.read taken w.value w.there)

  -- ---- `&&` and `||`

  module _ (da db : Denoted) (wa wb : Watched) (na nb : Bool) (h : IsDenoted p s points na da wa) (k : IsDenoted p s points nb db wb) where
    first_taken : Taken (takes_either da.form db.form) → Taken (value_takes da.form)
    first_taken taken x u = taken x (or_left (value_takes da.form x) (value_takes db.form x) u)

    second_taken : Taken (takes_either da.form db.form) → Taken (value_takes db.form)
    second_taken taken x u = taken x (or_right (value_takes da.form x) (value_takes db.form x) u)

    -- the right operand is read where it is evaluated, and then it has a value
    and_right_read : Taken (value_takes db.form) → (w : Value) (z : ℤ) → and_value (tested w) (option_map tested (wb.meant.value s)) ≡ Some z → AllRead (value_reads p points db) (chosen_read (Some w) (wb.read s) [])
    and_right_read taken w z e = by_zero (is_zero (tested w)) e
      where
        by_zero : (b : Bool) → (if b then Some (pos 0) else option_map (λ (y : ℤ). truth (not (is_zero y))) (option_map tested (wb.meant.value s))) ≡ Some z → AllRead (value_reads p points db) (if b then [] else wb.read s)
        by_zero true e = All-nil (IsReadOf p s (value_reads p points db))
        by_zero false e =
            let a = map_there (λ (y : ℤ). truth (not (is_zero y))) (option_map tested (wb.meant.value s)) z e in
            let b = map_there tested (wb.meant.value s) a.value a.there in
            k.read taken b.value b.there

    and_reads : Taken (takes_either da.form db.form) → (v : Value) (o : Option Value) → wa.meant.value s ≡ o → and_both o (wb.meant.value s) ≡ Some v → AllRead (reads_either p points da db) (wa.read s ++ chosen_read o (wb.read s) [])
    and_reads taken v None is e = none_there e
    and_reads taken v (Some w) is e =
        let m = map_there Number (and_value (tested w) (option_map tested (wb.meant.value s))) v e in
        both_are (value_reads p points da) (value_reads p points db) (wa.read s) (chosen_read (Some w) (wb.read s) []) (h.read (first_taken taken) w is) (and_right_read (second_taken taken) w m.value m.there)

    pub and_denoted : (types : Types) → IsDenoted p s points false (denoted_step p points (Expr-F.AndAlso da db)) (watched_step types (Expr-F.AndAlso wa wb))
    and_denoted types =
        number_denoted Int (takes_either da.form db.form) (reads_either p points da db) (λ u. and_both (wa.meant.value u) (wb.meant.value u)) (λ u. wa.read u ++ chosen_read (wa.meant.value u) (wb.read u) []) (λ v e. numbers _ v e) (λ taken v e. and_reads taken v (wa.meant.value s) refl e)
