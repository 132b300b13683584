-- The expressions of a statement in which types fit are operands, and what they take the statement takes.
use Rattle.std.proofs.Common.{◌≡◌, ℕ, List, [], ◌∷◌, Option, Some, None, Bool, true, false, ◌&&◌, ◌||◌, inl, inr, refl, sym, ap, ◌∙◌, subst}
use Rattle.std.specs.Prelude.{not, nat_lt, length}
use Rattle.std.specs.List.{list_all}
use Rattle.std.proofs.lemmas.Bool.{false≢true, and_parts, or_left, or_right}
use Rattle.c_arith.specs.declared.int_type.IntType.TheVariants.{Int}
use Rattle.c_arith.specs.declared.operators.BinaryOp.{BinaryOp}
use Rattle.c_tree.specs.declared.expr.Expr.{Expr}
use Rattle.c_tree.specs.declared.program.Init.{Init}
use Rattle.c_tree.specs.declared.program.Init.TheVariants as init
use Rattle.c_tree.specs.declared.program.Program.{Program}
use Rattle.c_tree.specs.declared.statement.Amount.{Amount}
use Rattle.c_tree.specs.declared.statement.Amount.TheVariants as amount
use Rattle.c_tree.specs.declared.statement.Target.{Target}
use Rattle.c_tree.specs.declared.statement.Target.TheVariants as target
use Rattle.c_tree.specs.declared.types.CType.{CType}
use Rattle.c_language.specs.ArrayRules.{element_of, count_of}
use Rattle.c_language.specs.CallRules.{has_width, is_char}
use Rattle.c_language.specs.Code.{Act, Begins, Sets, Bumps, Fetches, Writes, Prints, Allocates, Frees, Returns, Tests}
use Rattle.c_language.specs.Constants.{literal_bytes}
use Rattle.c_language.specs.DeclaredTypes.{integer}
use Rattle.c_language.specs.ExprRules.{holds_of}
use Rattle.c_language.specs.ExprTypes.{a_value, integer_of, is_array, is_scalar, is_assignable, target_of}
use Rattle.c_language.specs.Formats.{Conversion, Piece, format_pieces, conversions, conversion_width}
use Rattle.c_language.specs.TreeTypes.{shape_of}
use Rattle.c_language.specs.declared.expr_type.ExprType.{ExprType}
use Rattle.c_language.specs.declared.expr_type.Operand.{Operand}
use Rattle.dep_model.specs.Denoted.{TargetsOf}
use Rattle.dep_model.specs.Designated.{Designated, is_root, designated}
use Rattle.dep_model.specs.DoingEffects.{expr_takes, left_takes, any_takes, init_takes, target_takes, amount_takes, act_takes}
use Rattle.dep_model.proofs.Membership.{IsIn}
use Rattle.run_facts.specs.NextExprs.{init_exprs, amount_exprs, compound_expr, malloc_exprs, act_values, target_exprs, act_places}
use Rattle.run_facts.proofs.DenotedForms.{form_is}
use Rattle.run_facts.proofs.ExprsDenoted.{AreShapes, has_type}
use Rattle.run_facts.proofs.TypedActs.{scalar_no_array}
use Rattle.typed_programs.specs.TreeOperands.{Declarations, declarations, variable_shape, operand_of}
use Rattle.typed_programs.specs.TypedStatements.{passes, is_number, is_left_side, takes, assigns, sets, bumps, lists, begins_with, begins, measures, asks, holds_objects, allocates, converts, prints, returns, act_fits}
use Rattle.typed_programs.specs.TypedStatements as fits
use Rattle.typed_programs.proofs.TypedUses.{holds_there, operand_there}

module _ (p : Program) (points : TargetsOf) (shapes : AreShapes p) where
  abbrev d : Declarations
  d = declarations p

  -- an expression is an operand, and of the variables that it takes as a value, or as what is stored to, each is one of these
  pub record IsUsed (own all : ℕ → Bool) (e : Expr) : Type 0 where
    pub operand : Operand
    pub operand_is : operand_of d e ≡ Some operand
    pub taken : (x : ℕ) → own x ≡ true → all x ≡ true

  abbrev pub IsValueOf : (ℕ → Bool) → Expr → Type 0
  IsValueOf all e = IsUsed (expr_takes p e) all e

  abbrev pub IsPlaceOf : (ℕ → Bool) → Expr → Type 0
  IsPlaceOf all e = IsUsed (left_takes p e) all e

  of_test : (all : ℕ → Bool) (test : Operand → Bool) (e : Expr) → passes d test e ≡ true → ((x : ℕ) → expr_takes p e x ≡ true → all x ≡ true) → IsValueOf all e
  of_test all test e h le = let x = operand_there d test e h in record { operand = x.0; operand_is = x.1; taken = le }

  one_in : (all : ℕ → Bool) (e z : Expr) → IsIn (e ∷ []) z → IsValueOf all e → IsValueOf all z
  one_in all e z (inl same) h = subst (IsValueOf all) same h
  one_in all e z (inr none) h = absurd none

  more : (a b all : ℕ → Bool) (e : Expr) → ((x : ℕ) → a x ≡ true → b x ≡ true) → IsValueOf a e → IsValueOf b e
  more a b all e le h = record { operand = h.operand; operand_is = h.operand_is; taken = λ x t. le x (h.taken x t) }

  -- ---- several expressions

  taken_values : (t : ExprType) (es : List Expr) → list_all (λ (e : Expr). takes d e t) es ≡ true → (z : Expr) → IsIn es z → IsValueOf (any_takes p es) z
  taken_values t [] h z i = absurd i
  taken_values t (e ∷ es) h z (inl same) =
      subst (IsValueOf (any_takes p (e ∷ es))) same
      (of_test (any_takes p (e ∷ es)) (is_assignable t) e (and_parts (takes d e t) (list_all (λ (a : Expr). takes d a t) es) h).0 (λ x u. or_left (expr_takes p e x) (any_takes p es x) u))
  taken_values t (e ∷ es) h z (inr i) =
      more (any_takes p es) (any_takes p (e ∷ es)) (any_takes p es) z (λ x u. or_right (expr_takes p e x) (any_takes p es x) u) (taken_values t es (and_parts (takes d e t) (list_all (λ (a : Expr). takes d a t) es) h).1 z i)

  converted_values : (cs : List Conversion) (es : List Expr) → converts d cs es ≡ true → (z : Expr) → IsIn es z → IsValueOf (any_takes p es) z
  converted_values cs [] h z i = absurd i
  converted_values [] (e ∷ es) h z i = absurd (false≢true h)
  converted_values (c ∷ cs) (e ∷ es) h z (inl same) =
      subst (IsValueOf (any_takes p (e ∷ es))) same
      (of_test (any_takes p (e ∷ es)) (λ (x : Operand). has_width (conversion_width c) (integer_of x.shape)) e (and_parts (passes d (λ (x : Operand). has_width (conversion_width c) (integer_of x.shape)) e) (converts d cs es) h).0 (λ x u. or_left (expr_takes p e x) (any_takes p es x) u))
  converted_values (c ∷ cs) (e ∷ es) h z (inr i) =
      more (any_takes p es) (any_takes p (e ∷ es)) (any_takes p es) z (λ x u. or_right (expr_takes p e x) (any_takes p es x) u) (converted_values cs es (and_parts (passes d (λ (x : Operand). has_width (conversion_width c) (integer_of x.shape)) e) (converts d cs es) h).1 z i)

  pub argument_values : (xs : List ℕ) (es : List Expr) → fits.passed d xs es ≡ true → (z : Expr) → IsIn es z → IsValueOf (any_takes p es) z
  argument_values xs [] h z i = absurd i
  argument_values [] (e ∷ es) h z i = absurd (false≢true h)
  argument_values (x ∷ xs) (e ∷ es) h z (inl same) =
      let k = and_parts (holds_of (takes d e) (variable_shape d x)) (fits.passed d xs es) h in
      let t = holds_there (takes d e) (variable_shape d x) k.0 in
      subst (IsValueOf (any_takes p (e ∷ es))) same (of_test (any_takes p (e ∷ es)) (is_assignable t.0) e t.2 (λ y u. or_left (expr_takes p e y) (any_takes p es y) u))
  argument_values (x ∷ xs) (e ∷ es) h z (inr i) =
      more (any_takes p es) (any_takes p (e ∷ es)) (any_takes p es) z (λ y u. or_right (expr_takes p e y) (any_takes p es y) u) (argument_values xs es (and_parts (holds_of (takes d e) (variable_shape d x)) (fits.passed d xs es) h).1 z i)

  -- ---- what is stored to

  -- a left side is no array, so that it takes no more as a value
  no_more : (place array root found : Bool) → array ≡ false → (found || ((place && array) && root)) ≡ true → found ≡ true
  no_more place array root true isnt h = refl
  no_more true array root false isnt h = absurd (false≢true (ap (λ (b : Bool). b && root) (sym isnt) ∙ h))
  no_more false array root false isnt h = absurd (false≢true h)

  left_value : (e : Expr) (x : Operand) → operand_of d e ≡ Some x → is_left_side x ≡ true → (y : ℕ) → expr_takes p e y ≡ true → left_takes p e y ≡ true
  left_value e x is h y =
      let f = designated p e in
      let scalar = (and_parts x.is_place (is_scalar x.shape) h).1 in
      let type : f.type ≡ x.shape = ap (λ (z : Designated). z.type) (sym (form_is p points e)) ∙ (has_type p points e ∙ shapes e x is) in
      no_more f.is_place (is_array f.type) (is_root f.root y) (f.takes y) (ap is_array type ∙ scalar_no_array x.shape.layers x.shape.base scalar)

  left_side : (all : ℕ → Bool) (e : Expr) → passes d is_left_side e ≡ true → ((y : ℕ) → left_takes p e y ≡ true → all y ≡ true) → IsValueOf all e
  left_side all e h le =
      let x = operand_there d is_left_side e h in record { operand = x.0; operand_is = x.1; taken = λ y t. le y (left_value e x.0 x.1 x.2 y t) }

  -- what is taken to find an object is taken for its value too
  pub as_place : (all : ℕ → Bool) (e : Expr) → IsValueOf all e → IsPlaceOf all e
  as_place all e h = record { operand = h.operand; operand_is = h.operand_is; taken = λ x t. h.taken x (or_left (left_takes p e x) _ t) }

  pub stored_place : (to : Target) (y : Operand) → fits.stores d to y ≡ true → (z : Expr) → IsIn (target_exprs to) z → IsValueOf (target_takes p to) z
  stored_place target.None y h z i = absurd i
  stored_place (target.Place e) y h z i =
      one_in (target_takes p (target.Place e)) e z i (left_side (target_takes p (target.Place e)) e (and_parts (passes d is_left_side e) _ h).0 (λ x t. t))
  stored_place (target.Declared x) y h z i = absurd i

  -- ---- acts

  init_values : (i : Init) (t : ExprType) → begins_with d i t ≡ true → (z : Expr) → IsIn (init_exprs i) z → IsValueOf (init_takes p i) z
  init_values init.None t h z i = absurd i
  init_values (init.One e) t h z i = one_in (init_takes p (init.One e)) e z i (of_test (init_takes p (init.One e)) (is_assignable t) e (and_parts (is_scalar t) (takes d e t) h).1 (λ x u. u))
  init_values (init.Items es) t h z i =
      let u = holds_there (λ (w : ExprType). holds_of (lists d es w) (count_of t)) (element_of t) h in
      let n = holds_there (lists d es u.0) (count_of t) u.2 in
      let k = and_parts (is_scalar u.0) (not (nat_lt n.0 (length es)) && list_all (λ (e : Expr). takes d e u.0) es) n.2 in
      taken_values u.0 es (and_parts (not (nat_lt n.0 (length es))) (list_all (λ (e : Expr). takes d e u.0) es) k.1).1 z i

  asked_values : (n : Amount) (t : ExprType) → asks d n t ≡ true → (z : Expr) → IsIn (amount_exprs n) z → IsValueOf (amount_takes p n) z
  asked_values (amount.Size k) t h z i = absurd i
  asked_values (amount.CountSize e k) t h z i = one_in (amount_takes p (amount.CountSize e k)) e z i (of_test (amount_takes p (amount.CountSize e k)) _ e (and_parts (is_number d e) (measures d t k) h).0 (λ x u. u))
  asked_values (amount.SizeCount k e) t h z i = one_in (amount_takes p (amount.SizeCount k e)) e z i (of_test (amount_takes p (amount.SizeCount k e)) _ e (and_parts (measures d t k) (is_number d e) h).1 (λ x u. u))
  asked_values (amount.Count e) t h z i = one_in (amount_takes p (amount.Count e)) e z i (of_test (amount_takes p (amount.Count e)) _ e (and_parts (is_number d e) (is_char (integer_of t)) h).0 (λ x u. u))

  objects_asked : (n : Amount) (t : ExprType) → holds_objects d n t ≡ true → (z : Expr) → IsIn (amount_exprs n) z → IsValueOf (amount_takes p n) z
  objects_asked n t h z i = let u = holds_there (asks d n) (target_of t) h in asked_values n u.0 u.2 z i

  module _ (c : Option CType) where
    sets_values : (left : Expr) (op : Option BinaryOp) (right : Expr) → sets d left op right ≡ true → (z : Expr) → IsIn (right ∷ compound_expr op left) z → IsValueOf (act_takes p (Sets left op right)) z
    sets_values left op right h z (inl same) =
        let k = and_parts (passes d is_left_side left) (passes d (λ (x : Operand). passes d (assigns op x) right) left) h in
        let x = operand_there d (λ (y : Operand). passes d (assigns op y) right) left k.1 in
        subst (IsValueOf (act_takes p (Sets left op right))) same (of_test (act_takes p (Sets left op right)) (assigns op x.0) right x.2 (λ y u. or_right (left_takes p left y) (expr_takes p right y) u))
    sets_values left None right h z (inr i) = absurd i
    sets_values left (Some op) right h z (inr i) =
        one_in (act_takes p (Sets left (Some op) right)) left z i
        (left_side (act_takes p (Sets left (Some op) right)) left (and_parts (passes d is_left_side left) (passes d (λ (x : Operand). passes d (assigns (Some op) x) right) left) h).0 (λ y u. or_left (left_takes p left y) (expr_takes p right y) u))

    malloc_values : (to : Target) (n : Amount) → allocates d to n ≡ true → (z : Expr) → IsIn (malloc_exprs to n) z → IsValueOf (amount_takes p n) z
    malloc_values target.None n h z i = absurd i
    malloc_values (target.Place e) n h z i =
        let k = and_parts (passes d is_left_side e) (passes d (λ (x : Operand). holds_objects d n x.shape) e) h in
        let x = operand_there d (λ (y : Operand). holds_objects d n y.shape) e k.1 in
        objects_asked n x.0.shape x.2 z i
    malloc_values (target.Declared x) n h z i =
        let t = holds_there (holds_objects d n) (variable_shape d x) h in objects_asked n t.0 t.2 z i

    -- what an act uses the value of
    pub value_used : (a : Act) → act_fits d c a ≡ true → (z : Expr) → IsIn (act_values a) z → IsValueOf (act_takes p a) z
    value_used (Begins x i) h z k = let t = holds_there (begins_with d i) (variable_shape d x) h in (init_values i t.0 t.2 z k)
    value_used (Sets left op right) h z i = (sets_values left op right h z i)
    value_used (Bumps left up) h z i = (one_in (act_takes p (Bumps left up)) left z i (left_side (act_takes p (Bumps left up)) left (and_parts (passes d is_left_side left) _ h).0 (λ y u. u)))
    value_used (Fetches to) h z i = absurd i
    value_used (Writes e) h z i = (one_in (act_takes p (Writes e)) e z i (of_test (act_takes p (Writes e)) _ e h (λ x u. u)))
    value_used (Prints format args) h z i =
        let ps = holds_there (λ (qs : List Piece). converts d (conversions qs) args) (format_pieces (literal_bytes format)) h in
        (converted_values (conversions ps.0) args ps.2 z i)
    value_used (Allocates to n) h z i =
        more (amount_takes p n) (act_takes p (Allocates to n)) (amount_takes p n) z (λ x u. or_right (target_takes p to x) (amount_takes p n x) u) (malloc_values to n h z i)
    value_used (Frees e) h z i = (one_in (act_takes p (Frees e)) e z i (of_test (act_takes p (Frees e)) _ e h (λ x u. u)))
    value_used (Returns None) h z i = absurd i
    value_used (Returns (Some e)) h z i =
        let t = holds_there (λ (k : CType). takes d e (shape_of k)) c h in
        (one_in (act_takes p (Returns (Some e))) e z i (of_test (act_takes p (Returns (Some e))) (is_assignable (shape_of t.0)) e t.2 (λ x u. u)))
    value_used (Tests e) h z i = (one_in (act_takes p (Tests e)) e z i (of_test (act_takes p (Tests e)) _ e h (λ x u. u)))

    -- what it stores to
    pub place_used : (a : Act) → act_fits d c a ≡ true → (z : Expr) → IsIn (act_places a) z → IsValueOf (act_takes p a) z
    place_used (Begins x i) h z k = absurd k
    place_used (Sets left op right) h z i =
        one_in (act_takes p (Sets left op right)) left z i (left_side (act_takes p (Sets left op right)) left (and_parts (passes d is_left_side left) _ h).0 (λ y u. or_left (left_takes p left y) (expr_takes p right y) u))
    place_used (Bumps left up) h z i = one_in (act_takes p (Bumps left up)) left z i (left_side (act_takes p (Bumps left up)) left (and_parts (passes d is_left_side left) _ h).0 (λ y u. u))
    place_used (Fetches to) h z i = stored_place to (a_value (integer Int)) h z i
    place_used (Writes e) h z i = absurd i
    place_used (Prints format args) h z i = absurd i
    place_used (Allocates target.None n) h z i = absurd i
    place_used (Allocates (target.Place e) n) h z i =
        one_in (act_takes p (Allocates (target.Place e) n)) e z i (left_side (act_takes p (Allocates (target.Place e) n)) e (and_parts (passes d is_left_side e) _ h).0 (λ y u. or_left (left_takes p e y) (amount_takes p n y) u))
    place_used (Allocates (target.Declared x) n) h z i = absurd i
    place_used (Frees e) h z i = absurd i
    place_used (Returns e) h z i = absurd i
    place_used (Tests e) h z i = absurd i
