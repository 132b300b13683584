-- One of two operands is evaluated, and converted to the type of the whole; and `||`.
use Rattle.std.proofs.Common.{◌≡◌, ℕ, ℤ, pos, List, [], ◌∷◌, ◌++◌, Option, Some, None, Bool, true, false, ◌&&◌, ◌||◌, ◌⊎◌, inl, inr, refl, sym, ap, ◌∙◌, subst}
use Rattle.std.specs.Prelude.{not, option_map, option_and_then, is_some, if◌then◌else◌}
use Rattle.std.proofs.lemmas.Bool.{false≢true, and_from, or_left, or_right}
use Rattle.std.proofs.lemmas.List.Elements.{All-nil}
use Rattle.c_arith.specs.declared.int_type.IntType.{IntType}
use Rattle.c_arith.specs.declared.int_type.IntType.TheVariants.{Int}
use Rattle.c_arith.specs.Operators.{truth}
use Rattle.c_language.proofs.Options.{none_there, some_same, map_there, then_there}
use Rattle.c_tree.specs.declared.expr.Expr.TheOpen.{Expr-F}
use Rattle.c_tree.specs.declared.program.Program.{Program}
use Rattle.c_language.specs.ConstantEvaluation.{is_zero, or_value}
use Rattle.c_language.specs.declared.expr_type.Base.{Base}
use Rattle.c_language.specs.declared.expr_type.Layer.{Layer}
use Rattle.c_language.specs.declared.expr_type.ExprType.{ExprType}
use Rattle.c_language.specs.ExprTypes.{integer_of, is_integer, is_pointer, value_layers, value_type}
use Rattle.c_language.specs.TreeTypes.{chosen_type}
use Rattle.c_meaning.specs.declared.value.Place.{Place}
use Rattle.c_meaning.specs.declared.value.Pointer.{Pointer}
use Rattle.c_meaning.specs.declared.value.Value.{Value}
use Rattle.c_meaning.specs.declared.value.Value.TheVariants.{Number, Null, To}
use Rattle.c_meaning.specs.Values.{Types, State, tested, number_as, pointer_as, as_type, or_both, chosen_value, gives}
use Rattle.dep_model.specs.declared.location.Location.{Location}
use Rattle.dep_model.specs.Denoted.{Places, TargetsOf, Denoted, either_of, value_points, value_reads, reads_either, denoted_step}
use Rattle.dep_model.specs.Designated.{value_takes, takes_either}
use Rattle.run_facts.specs.DenotedCells.{IsReadOf, AreTaken, IsDenoted}
use Rattle.run_facts.specs.ReadCells.{Watched, chosen_read, watched_step, a_value as a_value_read}
use Rattle.run_facts.specs.TypedStates.{IsValue}
use Rattle.run_facts.proofs.PointedObjects.{leads_else}
use Rattle.run_facts.proofs.ValueForms.{AllRead, reads_else, both_are, numbers, value_denoted, number_denoted}
use Rattle.run_facts.proofs.BinaryForms.{pointer_value}

integer_layers : (ls : List Layer) (b : Base) → is_integer (record { layers = ls; base = b }) ≡ true → value_layers ls ≡ ls
integer_layers [] b h = refl
integer_layers (l ∷ ls) b h = absurd (false≢true h)

-- the type of an integer or a pointer is that of its values
pub scalar_value : (t : ExprType) → (is_integer t ≡ true) ⊎ (is_pointer t ≡ true) → value_type t ≡ t
scalar_value t (inl h) = ap (λ (ls : List Layer). record { layers = ls; base = t.base }) (integer_layers t.layers t.base h)
scalar_value t (inr h) = pointer_value t h

module _ (p : Program) (points : TargetsOf) (s : State) where
  abbrev Taken : (ℕ → Bool) → Type 0
  Taken = AreTaken p s

  -- ---- conversions

  -- a value converted to a type: a pointer keeps its own, and leads where it led
  module _ (t u : ExprType) (a b : Places) (scalar : (is_integer t ≡ true) ⊎ (is_pointer t ≡ true)) (le : (l : Location) → is_pointer t ≡ true → a l ≡ true → b l ≡ true) where
    number_taken : (o : Option IntType) (z : ℤ) → integer_of t ≡ o → IsValue p s t b (number_as o z)
    number_taken (Some i) z is = ap is_some is
    number_taken None z is = elim scalar [ inl h ↦ absurd (false≢true (sym (ap is_some is) ∙ h)) | inr h ↦ h ]

    pointer_taken : (c : Bool) (w v : Value) → is_pointer t ≡ c → pointer_as c w ≡ Some v → (c ≡ true → IsValue p s t b w) → IsValue p s t b v
    pointer_taken true w v is e h = subst (IsValue p s t b) (some_same e) (h refl)
    pointer_taken false w v is e h = none_there e

    pub converted_value : (w v : Value) → IsValue p s u a w → ((q : Pointer) → w ≡ To q → is_pointer u ≡ true → u ≡ t) → as_type t w ≡ Some v → IsValue p s t b v
    converted_value (Number z) v h same e = subst (IsValue p s t b) (some_same e) (number_taken (integer_of t) z refl)
    converted_value Null v h same e = pointer_taken (is_pointer t) Null v refl e (λ is. is)
    converted_value (To q) v h same e =
        pointer_taken (is_pointer t) (To q) v refl e (λ is. let k = subst (λ (r : ExprType). IsValue p s r a (To q)) (same q refl (ap is_some h.target_is)) h in leads_else p s t a b q k (le _ is k.among))

  -- ---- `c ? a : b`

  module _ (dc da db : Denoted) (wc wa wb : Watched) (nc na nb : Bool) (g : IsDenoted p s points nc dc wc) (h : IsDenoted p s points na da wa) (k : IsDenoted p s points nb db wb) where
    abbrev t : ExprType
    t = chosen_type da.form.type db.form.type

    abbrev pa : Places
    pa = value_points p points da

    abbrev pb : Places
    pb = value_points p points db

    abbrev either_at : Places
    either_at l = is_pointer t && (pa l || pb l)

    -- the whole is an integer or a pointer, and an operand that is a pointer which isn't null has its type
    pub record IsChosen : Type 0 where
      pub scalar : (is_integer t ≡ true) ⊎ (is_pointer t ≡ true)
      pub first : (q : Pointer) → wa.meant.value s ≡ Some (To q) → is_pointer (value_type da.form.type) ≡ true → value_type da.form.type ≡ t
      pub second : (q : Pointer) → wb.meant.value s ≡ Some (To q) → is_pointer (value_type db.form.type) ≡ true → value_type db.form.type ≡ t

    abbrev takes : ℕ → Bool
    takes x = value_takes dc.form x || takes_either da.form db.form x

    test_taken : Taken takes → Taken (value_takes dc.form)
    test_taken taken x u = taken x (or_left (value_takes dc.form x) (takes_either da.form db.form x) u)

    first_taken : Taken takes → Taken (value_takes da.form)
    first_taken taken x u = taken x (or_right (value_takes dc.form x) (takes_either da.form db.form x) (or_left (value_takes da.form x) (value_takes db.form x) u))

    second_taken : Taken takes → Taken (value_takes db.form)
    second_taken taken x u = taken x (or_right (value_takes dc.form x) (takes_either da.form db.form x) (or_right (value_takes da.form x) (value_takes db.form x) u))

    -- the operand that is evaluated
    record IsPicked (v : Value) : Type 0 where
      test : Value
      test_is : wc.meant.value s ≡ Some test
      picked : Value
      picked_is : (if is_zero (tested test) then wb.meant.value s else wa.meant.value s) ≡ Some picked
      converted : as_type t picked ≡ Some v

    picked_there : (v : Value) → chosen_value t (wc.meant.value s) (wa.meant.value s) (wb.meant.value s) ≡ Some v → IsPicked v
    picked_there v e =
        let a = then_there (as_type t) (option_and_then (λ (x : Value). if is_zero (tested x) then wb.meant.value s else wa.meant.value s) (wc.meant.value s)) v e in
        let b = then_there (λ (x : Value). if is_zero (tested x) then wb.meant.value s else wa.meant.value s) (wc.meant.value s) a.value a.there in
        record { test = b.value; test_is = b.there; picked = a.value; picked_is = b.same; converted = a.same }

    first_value : IsChosen → Taken takes → (w v : Value) → wa.meant.value s ≡ Some w → as_type t w ≡ Some v → IsValue p s t either_at v
    first_value is taken w v e c =
        converted_value t (value_type da.form.type) pa either_at is.scalar (λ l y u. and_from (is_pointer t) (pa l || pb l) y (or_left (pa l) (pb l) u)) w v (h.value (first_taken taken) w e) (λ q y z. is.first q (e ∙ ap Some y) z) c

    second_value : IsChosen → Taken takes → (w v : Value) → wb.meant.value s ≡ Some w → as_type t w ≡ Some v → IsValue p s t either_at v
    second_value is taken w v e c =
        converted_value t (value_type db.form.type) pb either_at is.scalar (λ l y u. and_from (is_pointer t) (pa l || pb l) y (or_right (pa l) (pb l) u)) w v (k.value (second_taken taken) w e) (λ q y z. is.second q (e ∙ ap Some y) z) c

    picked_value : IsChosen → Taken takes → (zero : Bool) (w v : Value) → (if zero then wb.meant.value s else wa.meant.value s) ≡ Some w → as_type t w ≡ Some v → IsValue p s t either_at v
    picked_value is taken true w v e c = second_value is taken w v e c
    picked_value is taken false w v e c = first_value is taken w v e c

    picked_read : Taken takes → (zero : Bool) (w : Value) → (if zero then wb.meant.value s else wa.meant.value s) ≡ Some w → AllRead p points s (reads_either p points da db) (if zero then wb.read s else wa.read s)
    picked_read taken true w e = reads_else p points s (value_reads p points db) (reads_either p points da db) (wb.read s) (λ l u. or_right (value_reads p points da l) (value_reads p points db l) u) (k.read (second_taken taken) w e)
    picked_read taken false w e = reads_else p points s (value_reads p points da) (reads_either p points da db) (wa.read s) (λ l u. or_left (value_reads p points da l) (value_reads p points db l) u) (h.read (first_taken taken) w e)

    abbrev chosen_at : ExprType → State → Option Value
    chosen_at r w = chosen_value r (wc.meant.value w) (wa.meant.value w) (wb.meant.value w)

    abbrev chosen_reads : State → List Place
    chosen_reads w = wc.read w ++ chosen_read (wc.meant.value w) (wa.read w) (wb.read w)

    all_read : Taken takes → (v : Value) → IsPicked v → AllRead p points s (either_of (value_reads p points dc) (reads_either p points da db)) (chosen_reads s)
    all_read taken v q =
        subst (λ (o : Option Value). AllRead p points s (either_of (value_reads p points dc) (reads_either p points da db)) (wc.read s ++ chosen_read o (wa.read s) (wb.read s))) (sym q.test_is)
        (both_are p points s (value_reads p points dc) (reads_either p points da db) (wc.read s) (chosen_read (Some q.test) (wa.read s) (wb.read s)) (g.read (test_taken taken) q.test q.test_is) (picked_read taken (is_zero (tested q.test)) q.picked q.picked_is))

    pub choose_denoted : (types : Types) → IsChosen → IsDenoted p s points false (denoted_step p points (Expr-F.Choose dc da db)) (watched_step types (Expr-F.Choose wc wa wb))
    choose_denoted types is =
        let here = value_denoted p points s t takes either_at (either_of (value_reads p points dc) (reads_either p points da db)) (chosen_at t) chosen_reads false
        (record {
          null_is = λ e. absurd (false≢true e);
          value_is = λ taken v e. let q = picked_there v e in subst (λ (r : ExprType). IsValue p s r either_at v) (sym (scalar_value t is.scalar)) (picked_value is taken (is_zero (tested q.test)) q.picked v q.picked_is q.converted);
          reads_are = λ taken v e. all_read taken v (picked_there v e);
        }) in
        let first = subst (λ (c : ExprType). IsDenoted p s points false (denoted_step p points (Expr-F.Choose dc da db)) (a_value_read (gives (chosen_type c db.form.type) (chosen_at (chosen_type c db.form.type))) chosen_reads)) (sym h.type_is) here in
        subst (λ (c : ExprType). IsDenoted p s points false (denoted_step p points (Expr-F.Choose dc da db)) (a_value_read (gives (chosen_type wa.meant.type c) (chosen_at (chosen_type wa.meant.type c))) chosen_reads)) (sym k.type_is) first

  -- ---- `||`

  module _ (da db : Denoted) (wa wb : Watched) (na nb : Bool) (h : IsDenoted p s points na da wa) (k : IsDenoted p s points nb db wb) where
    or_right_read : Taken (value_takes db.form) → (zero : Bool) (z : ℤ) → (if zero then option_map (λ (y : ℤ). truth (not (is_zero y))) (option_map tested (wb.meant.value s)) else Some (pos 1)) ≡ Some z → AllRead p points s (value_reads p points db) (if zero then wb.read s else [])
    or_right_read taken false z e = All-nil (IsReadOf p s (value_reads p points db))
    or_right_read taken true z e =
        let a = map_there (λ (y : ℤ). truth (not (is_zero y))) (option_map tested (wb.meant.value s)) z e in
        let b = map_there tested (wb.meant.value s) a.value a.there in
        k.read taken b.value b.there

    or_reads : Taken (takes_either da.form db.form) → (v : Value) (o : Option Value) → wa.meant.value s ≡ o → or_both o (wb.meant.value s) ≡ Some v → AllRead p points s (reads_either p points da db) (wa.read s ++ chosen_read o [] (wb.read s))
    or_reads taken v None is e = none_there e
    or_reads taken v (Some w) is e =
        let m = map_there Number (or_value (tested w) (option_map tested (wb.meant.value s))) v e in
        both_are p points s (value_reads p points da) (value_reads p points db) (wa.read s) (chosen_read (Some w) [] (wb.read s))
        (h.read (λ x u. taken x (or_left (value_takes da.form x) (value_takes db.form x) u)) w is) (or_right_read (λ x u. taken x (or_right (value_takes da.form x) (value_takes db.form x) u)) (is_zero (tested w)) m.value m.there)

    pub or_denoted : (types : Types) → IsDenoted p s points false (denoted_step p points (Expr-F.OrElse da db)) (watched_step types (Expr-F.OrElse wa wb))
    or_denoted types =
        number_denoted p points s Int (takes_either da.form db.form) (reads_either p points da db) (λ u. or_both (wa.meant.value u) (wb.meant.value u)) (λ u. wa.read u ++ chosen_read (wa.meant.value u) [] (wb.read u)) (λ v e. numbers p points s _ v e) (λ taken v e. or_reads taken v (wa.meant.value s) refl e)
