-- Binary operators: a pointer that is moved leads where it led, and every other operator gives a number.
use Rattle.std.proofs.Common.{◌≡◌, ℕ, ℤ, List, [], ◌∷◌, Option, Some, Bool, true, false, ◌&&◌, ◌||◌, refl, sym, ap, subst}
use Rattle.std.specs.Prelude.{not, neg_ℤ, option_and_then, if◌then◌else◌}
use Rattle.std.proofs.lemmas.Bool.{false≢true, and_from, or_left, or_right}
use Rattle.c_arith.specs.declared.int_type.IntType.{IntType}
use Rattle.c_arith.specs.declared.int_type.IntType.TheVariants.{Long}
use Rattle.c_arith.specs.declared.operators.BinaryOp.{BinaryOp}
use Rattle.c_arith.specs.declared.operators.BinaryOp.TheVariants.{Mul, Div, Rem, Add, Sub, Shl, Shr, Less, Greater, AtMost, AtLeast, Equal, Unequal, And, Xor, Or}
use Rattle.c_arith.specs.Operators.{truth, binary_type}
use Rattle.c_language.proofs.Options.{none_there, map_there}
use Rattle.c_language.proofs.Tests.{by_test}
use Rattle.c_tree.specs.declared.expr.Expr.TheOpen.{Expr-F}
use Rattle.c_tree.specs.declared.program.Program.{Program}
use Rattle.c_language.specs.ConstantEvaluation.{operand_type}
use Rattle.c_language.specs.DeclaredTypes.{integer}
use Rattle.c_language.specs.declared.expr_type.Base.{Base}
use Rattle.c_language.specs.declared.expr_type.Layer.{Layer}
use Rattle.c_language.specs.declared.expr_type.Layer.TheVariants.{Pointer as AnAddress, Array}
use Rattle.c_language.specs.declared.expr_type.ExprType.{ExprType}
use Rattle.c_language.specs.ExprTypes.{is_pointer, value_layers, value_type}
use Rattle.c_language.specs.TreeTypes.{int_type, combined, binary_tree_type}
use Rattle.c_meaning.specs.declared.value.Value.{Value}
use Rattle.c_meaning.specs.declared.value.Value.TheVariants.{Number, Null, To}
use Rattle.c_meaning.specs.Memory.{Memory}
use Rattle.c_meaning.specs.Pointers.{are_together, are_equal, at_indices, equality, as_it_is, moved, moved_back, at_pointers, at_pointer_left, at_pointer_right}
use Rattle.c_meaning.specs.Values.{Types, State, at_numbers, number_in, converted_binary, at_operands, binary_value, gives}
use Rattle.dep_model.specs.Denoted.{Places, TargetsOf, Denoted, value_points, value_reads, reads_either, denoted_step}
use Rattle.dep_model.specs.Designated.{value_takes, takes_either}
use Rattle.run_facts.specs.DenotedCells.{AreTaken, IsDenoted}
use Rattle.run_facts.specs.ReadCells.{Watched, both_read, watched_step, a_value as a_value_read}
use Rattle.run_facts.specs.TypedStates.{IsValue}
use Rattle.run_facts.proofs.PointedObjects.{moved_value, value_else}
use Rattle.run_facts.proofs.ObjectForms.{both_there, by_number}
use Rattle.run_facts.proofs.ValueForms.{both_are, value_denoted}

-- ---- what operators give

abbrev pub Numbered : Value → Type 0
Numbered v = (z : ℤ) × (Number z ≡ v)

indices_number : (op : BinaryOp) (x y v : Value) → at_indices op x y ≡ Some v → Numbered v
indices_number op (To p) (To q) v e =
    by_test (are_together p q) e (λ is same. let k = map_there Number _ v same in (k.value, k.same)) (λ is none. none_there none)
indices_number op (To p) (Number z) v e = none_there e
indices_number op (To p) Null v e = none_there e
indices_number op (Number z) y v e = none_there e
indices_number op Null y v e = none_there e

equality_number : (f : Bool → Bool) (o : Option Bool) (v : Value) → equality f o ≡ Some v → Numbered v
equality_number f o v e = let k = map_there (λ (same : Bool). Number (truth (f same))) o v e in (truth (f k.value), k.same)

-- two pointers give a number
pub pointers_number : (op : BinaryOp) (m : Memory) (x y v : Value) → at_pointers op m x y ≡ Some v → Numbered v
pointers_number Sub m x y v e = indices_number Sub x y v e
pointers_number Less m x y v e = indices_number Less x y v e
pointers_number Greater m x y v e = indices_number Greater x y v e
pointers_number AtMost m x y v e = indices_number AtMost x y v e
pointers_number AtLeast m x y v e = indices_number AtLeast x y v e
pointers_number Equal m x y v e = equality_number as_it_is (are_equal m x y) v e
pointers_number Unequal m x y v e = equality_number not (are_equal m x y) v e
pointers_number Mul m x y v e = none_there e
pointers_number Div m x y v e = none_there e
pointers_number Rem m x y v e = none_there e
pointers_number Add m x y v e = none_there e
pointers_number Shl m x y v e = none_there e
pointers_number Shr m x y v e = none_there e
pointers_number And m x y v e = none_there e
pointers_number Xor m x y v e = none_there e
pointers_number Or m x y v e = none_there e

numbers_number : (g : ℤ → ℤ → Option ℤ) (x y v : Value) → at_numbers g x y ≡ Some v → Numbered v
numbers_number g (Number z) y v e = let k = map_there Number (option_and_then (g z) (number_in y)) v e in (k.value, k.same)
numbers_number g Null y v e = none_there e
numbers_number g (To q) y v e = none_there e

-- ---- pointers that are moved

pointer_layers : (ls : List Layer) (b : Base) → is_pointer (record { layers = ls; base = b }) ≡ true → value_layers ls ≡ ls
pointer_layers [] b h = absurd (false≢true h)
pointer_layers (AnAddress ∷ ls) b h = refl
pointer_layers (Array n ∷ ls) b h = absurd (false≢true h)

-- a pointer type is that of its values
pub pointer_value : (t : ExprType) → is_pointer t ≡ true → value_type t ≡ t
pointer_value t h = ap (λ (ls : List Layer). record { layers = ls; base = t.base }) (pointer_layers t.layers t.base h)

by_number_back : (m : Memory) (x y v : Value) → moved_back m x y ≡ Some v → (z : ℤ) × ((y ≡ Number z) × (moved m (neg_ℤ z) x ≡ Some v))
by_number_back m x (Number z) v e = (z, (refl, e))
by_number_back m x Null v e = none_there e
by_number_back m x (To q) v e = none_there e

module _ (p : Program) (points : TargetsOf) (s : State) (da db : Denoted) (wa wb : Watched) (na nb : Bool) (h : IsDenoted p s points na da wa) (k : IsDenoted p s points nb db wb) where
  abbrev Taken : (ℕ → Bool) → Type 0
  Taken = AreTaken p s

  abbrev va : ExprType
  va = value_type da.form.type

  abbrev vb : ExprType
  vb = value_type db.form.type

  abbrev pa : Places
  pa = value_points p points da

  abbrev pb : Places
  pb = value_points p points db

  -- where a result of this type may point
  abbrev either_at : ExprType → Places
  either_at t l = is_pointer t && (pa l || pb l)

  -- the result of an operator that gives a number
  number_value : (i : IntType) (targets : Places) (v : Value) → Numbered v → IsValue p s (value_type (integer i)) targets v
  number_value i targets v is = subst (IsValue p s (integer i) targets) is.1 refl

  -- a pointer that is moved, where the result has its type
  first_moved : is_pointer va ≡ true → (x : Value) (z : ℤ) (v : Value) → IsValue p s va pa x → moved s.memory z x ≡ Some v → IsValue p s (value_type va) (either_at va) v
  first_moved is x z v value e =
      subst (λ (t : ExprType). IsValue p s t (either_at va) v) (sym (pointer_value va is))
      (value_else p s va pa (either_at va) v (λ l u. and_from (is_pointer va) (pa l || pb l) is (or_left (pa l) (pb l) u)) (moved_value p s va pa x z v value e))

  second_moved : is_pointer vb ≡ true → (y : Value) (z : ℤ) (v : Value) → IsValue p s vb pb y → moved s.memory z y ≡ Some v → IsValue p s (value_type vb) (either_at vb) v
  second_moved is y z v value e =
      subst (λ (t : ExprType). IsValue p s t (either_at vb) v) (sym (pointer_value vb is))
      (value_else p s vb pb (either_at vb) v (λ l u. and_from (is_pointer vb) (pa l || pb l) is (or_right (pa l) (pb l) u)) (moved_value p s vb pb y z v value e))

  module _ (x y v : Value) (first : IsValue p s va pa x) (second : IsValue p s vb pb y) where
    abbrev m : Memory
    m = s.memory

    abbrev sum_type : Bool → Bool → ExprType
    sum_type b c = if b then va else (if c then vb else combined Add da.form.type db.form.type)

    sum_value : (b c : Bool) (i : IntType) → is_pointer va ≡ b → is_pointer vb ≡ c → at_operands b c Add i m x y ≡ Some v → IsValue p s (value_type (sum_type b c)) (either_at (sum_type b c)) v
    sum_value true true i left right e = none_there e
    sum_value true false i left right e = let n = by_number m x y v e in first_moved left x n.0 v first n.1.1
    sum_value false true i left right e = let n = by_number m y x v e in second_moved right y n.0 v second n.1.1
    sum_value false false i left right e = number_value _ (either_at (combined Add da.form.type db.form.type)) v (numbers_number (converted_binary Add i) x y v e)

    abbrev difference_type : Bool → Bool → ExprType
    difference_type b c = if b then (if c then integer Long else va) else combined Sub da.form.type db.form.type

    difference_value : (b c : Bool) (i : IntType) → is_pointer va ≡ b → is_pointer vb ≡ c → at_operands b c Sub i m x y ≡ Some v → IsValue p s (value_type (difference_type b c)) (either_at (difference_type b c)) v
    difference_value true true i left right e = number_value Long (either_at (integer Long)) v (pointers_number Sub m x y v e)
    difference_value true false i left right e = let n = by_number_back m x y v e in first_moved left x (neg_ℤ n.0) v first n.1.1
    difference_value false true i left right e = none_there e
    difference_value false false i left right e = number_value _ (either_at (combined Sub da.form.type db.form.type)) v (numbers_number (converted_binary Sub i) x y v e)

    -- every other operator gives a number
    abbrev is_moving : BinaryOp → Bool
    is_moving Add = true
    is_moving Sub = true
    is_moving op = false

    left_number : (op : BinaryOp) → is_moving op ≡ false → at_pointer_left op m x y ≡ Some v → Numbered v
    left_number Add off e = absurd (false≢true (sym off))
    left_number Sub off e = absurd (false≢true (sym off))
    left_number Equal off e = equality_number as_it_is (are_equal m x y) v e
    left_number Unequal off e = equality_number not (are_equal m x y) v e
    left_number Mul off e = none_there e
    left_number Div off e = none_there e
    left_number Rem off e = none_there e
    left_number Shl off e = none_there e
    left_number Shr off e = none_there e
    left_number Less off e = none_there e
    left_number Greater off e = none_there e
    left_number AtMost off e = none_there e
    left_number AtLeast off e = none_there e
    left_number And off e = none_there e
    left_number Xor off e = none_there e
    left_number Or off e = none_there e

    right_number : (op : BinaryOp) → is_moving op ≡ false → at_pointer_right op m x y ≡ Some v → Numbered v
    right_number Add off e = absurd (false≢true (sym off))
    right_number Sub off e = none_there e
    right_number Equal off e = equality_number as_it_is (are_equal m x y) v e
    right_number Unequal off e = equality_number not (are_equal m x y) v e
    right_number Mul off e = none_there e
    right_number Div off e = none_there e
    right_number Rem off e = none_there e
    right_number Shl off e = none_there e
    right_number Shr off e = none_there e
    right_number Less off e = none_there e
    right_number Greater off e = none_there e
    right_number AtMost off e = none_there e
    right_number AtLeast off e = none_there e
    right_number And off e = none_there e
    right_number Xor off e = none_there e
    right_number Or off e = none_there e

    other_number : (op : BinaryOp) (b c : Bool) (i : IntType) → is_moving op ≡ false → at_operands b c op i m x y ≡ Some v → Numbered v
    other_number op true true i off e = pointers_number op m x y v e
    other_number op true false i off e = left_number op off e
    other_number op false true i off e = right_number op off e
    other_number op false false i off e = numbers_number (converted_binary op i) x y v e

    abbrev kind : BinaryOp → IntType
    kind op = operand_type op (int_type da.form.type) (int_type db.form.type)

    abbrev at_both : BinaryOp → Type 0
    at_both op = at_operands (is_pointer va) (is_pointer vb) op (kind op) m x y ≡ Some v

    abbrev GivesIn : ExprType → Type 0
    GivesIn t = IsValue p s (value_type t) (either_at t) v

    other_value : (op : BinaryOp) → is_moving op ≡ false → at_both op → GivesIn (combined op da.form.type db.form.type)
    other_value op off e = number_value (binary_type op (kind op)) (either_at (combined op da.form.type db.form.type)) v (other_number op (is_pointer va) (is_pointer vb) (kind op) off e)

    operator_value : (op : BinaryOp) → at_both op → GivesIn (binary_tree_type op da.form.type db.form.type)
    operator_value Add e = sum_value (is_pointer va) (is_pointer vb) (kind Add) refl refl e
    operator_value Sub e = difference_value (is_pointer va) (is_pointer vb) (kind Sub) refl refl e
    operator_value Mul e = other_value Mul refl e
    operator_value Div e = other_value Div refl e
    operator_value Rem e = other_value Rem refl e
    operator_value Shl e = other_value Shl refl e
    operator_value Shr e = other_value Shr refl e
    operator_value Less e = other_value Less refl e
    operator_value Greater e = other_value Greater refl e
    operator_value AtMost e = other_value AtMost refl e
    operator_value AtLeast e = other_value AtLeast refl e
    operator_value Equal e = other_value Equal refl e
    operator_value Unequal e = other_value Unequal refl e
    operator_value And e = other_value And refl e
    operator_value Xor e = other_value Xor refl e
    operator_value Or e = other_value Or refl e

  -- ---- the form

  first_taken : Taken (takes_either da.form db.form) → Taken (value_takes da.form)
  first_taken taken x u = taken x (or_left (value_takes da.form x) (value_takes db.form x) u)

  second_taken : Taken (takes_either da.form db.form) → Taken (value_takes db.form)
  second_taken taken x u = taken x (or_right (value_takes da.form x) (value_takes db.form x) u)

  abbrev binary_at : BinaryOp → ExprType → ExprType → State → Option Value
  binary_at op t u w = binary_value op t u w.memory (wa.meant.value w) (wb.meant.value w)

  abbrev of_both : BinaryOp → ExprType → ExprType → Value → Value → Option Value
  of_both op t u = at_operands (is_pointer (value_type t)) (is_pointer (value_type u)) op (operand_type op (int_type t) (int_type u)) s.memory

  pub binary_denoted : (types : Types) (op : BinaryOp) → IsDenoted p s points false (denoted_step p points (Expr-F.Binary op da db)) (watched_step types (Expr-F.Binary op wa wb))
  binary_denoted types op =
      let t = da.form.type in
      let u = db.form.type in
      let result = binary_tree_type op t u in
      let here = value_denoted p points s result (takes_either da.form db.form) (either_at result) (reads_either p points da db) (binary_at op t u) (both_read wa.read wb.read) false
      (record {
        null_is = λ e. absurd (false≢true e);
        value_is = λ taken v e. let b = both_there (of_both op t u) (wa.meant.value s) (wb.meant.value s) v e in operator_value b.0 b.1.0 v (h.value (first_taken taken) b.0 b.1.1.0) (k.value (second_taken taken) b.1.0 b.1.1.1.0) op b.1.1.1.1;
        reads_are = λ taken v e. let b = both_there (of_both op t u) (wa.meant.value s) (wb.meant.value s) v e in both_are p points s (value_reads p points da) (value_reads p points db) (wa.read s) (wb.read s) (h.read (first_taken taken) b.0 b.1.1.0) (k.read (second_taken taken) b.1.0 b.1.1.1.0);
      }) in
      let first = subst (λ (c : ExprType). IsDenoted p s points false (denoted_step p points (Expr-F.Binary op da db)) (a_value_read (gives (binary_tree_type op c u) (binary_at op c u)) (both_read wa.read wb.read))) (sym h.type_is) here in
      subst (λ (c : ExprType). IsDenoted p s points false (denoted_step p points (Expr-F.Binary op da db)) (a_value_read (gives (binary_tree_type op wa.meant.type c) (binary_at op wa.meant.type c)) (both_read wa.read wb.read))) (sym k.type_is) first
