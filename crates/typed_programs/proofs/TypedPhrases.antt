-- What the rules ask of a phrase is what is asked of its statement in the tree.
use Rattle.std.proofs.Common.{◌≡◌, ℕ, ◌<◌, List, [], ◌∷◌, ◌++◌, map, length, Bool, true, false, not, Option, Some, None, option_map, bytes_eq, slice_get, refl, sym, ap, subst, ◌∙◌, arith, eqb-true, true≢false}
use Rattle.std.specs.Prelude.{Contains, ◌||◌, codes, ◌==◌, ◌≢◌, nat_lt, is_none, is_some, option_and_then}
use Rattle.std.specs.List.{list_all}
use Rattle.std.proofs.lemmas.Bool.{and_from, ltb-true}
use Rattle.std.proofs.lemmas.Bool.Decides.{nat_tests}
use Rattle.std.proofs.lemmas.List.{length-map}
use Rattle.c_arith.specs.declared.int_type.IntType.{IntType}
use Rattle.c_arith.specs.declared.int_type.IntType.TheVariants.{Int}
use Rattle.c_arith.specs.declared.operators.BinaryOp.{BinaryOp}
use Rattle.c_arith.specs.declared.operators.BinaryOp.TheVariants.{Add}
use Rattle.c_tree.specs.declared.expr.Expr.{Expr}
use Rattle.c_tree.specs.declared.program.Init.{Init}
use Rattle.c_tree.specs.declared.program.Init.TheVariants as begins_by
use Rattle.c_tree.specs.declared.types.CType.{CType}
use Rattle.c_tree.specs.declared.raw.expr.RawExpr.{RawExpr}
use Rattle.c_tree.specs.declared.raw.expr.RawType.{RawType}
use Rattle.c_tree.specs.declared.raw.expr.RawVar.{RawVar}
use Rattle.c_tree.specs.declared.raw.program.RawHead.{RawHead}
use Rattle.c_tree.specs.declared.raw.program.RawInit.{RawInit}
use Rattle.c_tree.specs.declared.raw.program.RawInit.TheVariants as init
use Rattle.c_tree.specs.declared.raw.program.RawProgram.{RawProgram}
use Rattle.c_tree.specs.declared.raw.statement.RawAmount.{RawAmount}
use Rattle.c_tree.specs.declared.raw.statement.RawAmount.TheVariants as amount
use Rattle.c_tree.specs.declared.raw.statement.RawArg.{RawArg}
use Rattle.c_tree.specs.declared.raw.statement.RawArg.TheVariants as arg
use Rattle.c_tree.specs.declared.raw.statement.RawLabel.{RawLabel}
use Rattle.c_tree.specs.declared.raw.statement.RawSize.{RawSize}
use Rattle.c_tree.specs.declared.raw.statement.RawSize.TheVariants as size
use Rattle.c_tree.specs.declared.raw.statement.RawTarget.{RawTarget}
use Rattle.c_tree.specs.declared.raw.statement.RawTarget.TheVariants as target
use Rattle.c_tree.specs.declared.raw.statement.RawTypeName.{RawTypeName}
use Rattle.c_tree.specs.declared.statement.Amount.{Amount}
use Rattle.c_tree.specs.declared.statement.Amount.TheVariants as quantity
use Rattle.c_tree.specs.declared.statement.Size.{Size}
use Rattle.c_tree.specs.declared.statement.Size.TheVariants as measure
use Rattle.c_tree.specs.declared.statement.Target.{Target}
use Rattle.c_tree.specs.declared.statement.Target.TheVariants as to_place
use Rattle.c_language.specs.Words.{Bytes}
use Rattle.c_language.specs.ArrayRules.{element_in, count_in, element_of, count_of, MisusesInitialiser}
use Rattle.c_language.specs.CallRules.{target_type, HasUnfitArgument, MisusesArguments, MisusesResult, MisusesReturn, head_around, format_in, later_args, pieces_in, HasUnfitWidth, MisusesFormat, has_width, is_char, HasOtherSize, MisusesAllocation, only_arg, MisusesLibrary}
use Rattle.c_language.specs.Constants.{literal_bytes}
use Rattle.c_language.specs.DeclaredTypes.{integer, variable_type, written_type, definition_of, defined_functions, function_id, parameter_types, result_type}
use Rattle.c_language.specs.ExprRules.{holds_of}
use Rattle.c_language.specs.ExprTypes as of_text
use Rattle.c_language.specs.ExprTypes.{a_value, value_type, integer_of, target_of, is_integer, is_pointer, is_scalar, same_type, binary_result, is_assignable}
use Rattle.c_language.specs.Formats.{Conversion, Piece, format_pieces, conversions, conversion_width}
use Rattle.c_language.specs.Options.{IsThere}
use Rattle.c_language.specs.Phrases.{Stand, Part, Begins, Assigns, Bumps, Calls, Allocates, Tests, Switches, Returns}
use Rattle.c_language.specs.ProgramOf.{optional, ctype, variable_number, expr_of, exprs_of, init_of, arg_tree, args_tree, only_tree, size_tree, amount_tree}
use Rattle.c_language.specs.Rules.{Breaks, BreaksNone}
use Rattle.c_language.specs.Scopes.{Scope, Meaning, meaning_in}
use Rattle.c_language.specs.SwitchRules.{MisusesSwitch}
use Rattle.c_language.specs.TreeTypes.{shape_of}
use Rattle.c_language.specs.TypeGrammar.{named_type}
use Rattle.c_language.specs.TypeRules.{one, MisusesOperator, AssignsOtherType, IsNoTarget, AssignsNoPlace}
use Rattle.c_language.specs.Uses.{arg_exprs, counts, sizes, target_exprs, expressions, is_library_function}
use Rattle.c_language.specs.declared.expr_type.Base.{Base}
use Rattle.c_language.specs.declared.expr_type.Layer.{Layer}
use Rattle.c_language.specs.declared.expr_type.Layer.TheVariants.{Pointer, Array}
use Rattle.c_language.specs.declared.expr_type.ExprType.{ExprType}
use Rattle.c_language.specs.declared.expr_type.Operand.{Operand}
use Rattle.c_language.proofs.Lists.{contains_first, contains_later}
use Rattle.c_language.proofs.Options.{none_there, some_same, value_there, map_there, then_there, more_there, optional_there}
use Rattle.c_language.proofs.UseLemmas.{only_in, later_in}
use Rattle.dep_model.proofs.StructOrder.{tree_typed}
use Rattle.numbered_texts.proofs.CallsFit.{position_found}
use Rattle.typed_programs.specs.TreeOperands.{Signature, Declarations, variable_shape}
use Rattle.typed_programs.specs.TypedStatements.{is_tested, is_number, is_address, takes, assigns, sets, bumps, lists, begins_with, begins, stores, passed, gives, calls, measures, asks, holds_objects, allocates, converts, prints, returns}
use Rattle.typed_programs.proofs.Seeing.{unless, contains_behind, collected_length, StandIf, NamesStand, name_stands, Known, Seen, expr_seen, seen_passes, seen_scalar, seen_left}

-- ---- options and lists

pub holds_at : {A : Type 0} (test : A → Bool) (o : Option A) (x : A) → o ≡ Some x → test x ≡ true → holds_of test o ≡ true
holds_at test o x is h = ap (holds_of test) is ∙ h

counted_in : (ls : List Layer) (b : Base) (t : ExprType) → element_in ls b ≡ Some t → (n : ℕ) × (count_in ls ≡ Some n)
counted_in [] b t h = none_there h
counted_in (Pointer ∷ ls) b t h = none_there h
counted_in (Array n ∷ ls) b t h = (n, refl)

integer_scalar : (ls : List Layer) (b : Base) (i : IntType) → integer_of (record { layers = ls; base = b }) ≡ Some i → is_scalar (value_type (record { layers = ls; base = b })) ≡ true
integer_scalar [] b i h = ap (λ o. is_some o || is_pointer (record { layers = []; base = b })) h
integer_scalar (l ∷ ls) b i h = none_there h

same_number : (m n : ℕ) → (m ≢ n → ⊥) → m ≡ n
same_number m n h = by_test (m == n) refl
  where
    by_test : (b : Bool) → (m == n) ≡ b → m ≡ n
    by_test true e = eqb-true m n e
    by_test false e = absurd (h (λ is. true≢false (sym (let k : (m == n) ≡ true = grind (arith, nat_tests, is) in k) ∙ e)))

-- ---- the functions of a text

-- a type of a function's result, as its head says it
pub record ResultStands (raw : RawProgram) (head : RawHead) (result : Option CType) : Type 0 where
  pub some : (t : CType) → result ≡ Some t → result_type raw head ≡ Some (shape_of t)
  pub none : result ≡ None → head.result ≡ None
  pub there : head.result ≡ None → result ≡ None

abbrev pub AllTyped : Declarations → List ℕ → Type 0
AllTyped d [] = Unit {0}
AllTyped d (x ∷ xs) = IsThere (variable_shape d x) × AllTyped d xs

-- a function that the text defines is declared so
pub record FunctionStands (raw : RawProgram) (d : Declarations) (head : RawHead) (f : Signature) : Type 0 where
  pub params : map (variable_shape d) f.params ≡ parameter_types raw head
  pub typed : AllTyped d f.params
  pub count : length f.params ≡ length head.params
  pub result : ResultStands raw head f.result

abbrev pub FunctionsStand : RawProgram → Declarations → Type 0
FunctionsStand raw d = (g : ℕ) (head : RawHead) → slice_get (defined_functions raw) g ≡ Some head → (f : Signature) × (slice_get d.functions g ≡ Some f) × FunctionStands raw d head f

place_none : (a : RawExpr) → target.Place a ≡ target.None → ⊥
place_none a e = cc

declared_none : (v : RawVar) → target.Declared v ≡ target.None → ⊥
declared_none v e = cc

module _ (raw : RawProgram) (d : Declarations) (scope : Scope) where
  assigned_fit : (left right : RawExpr) (op : Option BinaryOp) (x y : Operand) → BreaksNone raw scope (Assigns left op right)
      → of_text.operand raw scope left ≡ Some x → of_text.operand raw scope right ≡ Some y → is_scalar x.shape ≡ true → assigns op x y ≡ true
  assigned_fit left right None x y kept l r scalar = unless (is_assignable x.shape y) (λ h. kept 13 (Breaks.other_type (AssignsOtherType.simple l r scalar h)))
  assigned_fit left right (Some op) x y kept l r scalar = by_result (binary_result op x y) refl
    where
      by_result : (o : Option ExprType) → binary_result op x y ≡ o → holds_of (λ (t : ExprType). is_assignable x.shape (a_value t)) o ≡ true
      by_result None e = absurd (kept 12 (Breaks.operator (MisusesOperator.compound l r e)))
      by_result (Some t) e = unless (is_assignable x.shape (a_value t)) (λ h. kept 13 (Breaks.other_type (AssignsOtherType.compound l r e scalar h)))

  -- what is stored in a place, or in a variable that is declared there
  abbrev pub KeepsTarget : RawTarget → Type 0
  KeepsTarget target.None = Unit {0}
  KeepsTarget (target.Place a) = IsNoTarget raw scope a → ⊥
  KeepsTarget (target.Declared v) = (t : ExprType) → variable_type raw v init.None ≡ Some t → is_scalar t ≡ false → ⊥

  -- the variable that a target declares has the number
  abbrev pub IsDeclared : ℕ → RawTarget → Type 0
  IsDeclared n target.None = Unit {0}
  IsDeclared n (target.Place a) = Unit {0}
  IsDeclared n (target.Declared v) = (variable_shape d n ≡ variable_type raw v init.None) × IsThere (variable_type raw v init.None)

  -- the tree of a target, behind which the variable that it declares is in scope
  abbrev pub IsTargetOf : ℕ → RawTarget → Target → Type 0
  IsTargetOf n target.None t = t ≡ to_place.None
  IsTargetOf n (target.Place a) t = (x : Expr) × (expr_of raw scope a ≡ Some x) × (t ≡ to_place.Place x)
  IsTargetOf n (target.Declared v) t = t ≡ to_place.Declared n

  keeps_called : (stand : Stand) (to : RawTarget) (f : Bytes) (args : List RawArg) → BreaksNone raw scope (Calls stand to f args) → KeepsTarget to
  keeps_called stand target.None f args kept = tt
  keeps_called stand (target.Place a) f args kept = λ n. kept 14 (Breaks.no_place (AssignsNoPlace.result n))
  keeps_called stand (target.Declared v) f args kept = λ t is h. kept 22 (Breaks.initialiser (MisusesInitialiser.by_call is h))

module _ (raw : RawProgram) (d : Declarations) (known : Known raw d) (scope : Scope) (names : NamesStand d scope.names) where
  -- ---- assignments and tests

  pub sets_fit : (left : RawExpr) (op : Option BinaryOp) (right : RawExpr) (x y : Expr) → BreaksNone raw scope (Assigns left op right)
      → expr_of raw scope left ≡ Some x → expr_of raw scope right ≡ Some y → sets d x op y ≡ true
  sets_fit left op right x y kept hx hy =
      let l = expr_seen raw d known scope names (Assigns left op right) kept left (contains_first left (right ∷ [])) x hx in
      let r = expr_seen raw d known scope names (Assigns left op right) kept right (contains_later left right (right ∷ []) (contains_first right [])) y hy in
      let isnt : IsNoTarget raw scope left → ⊥ = (λ n. kept 14 (Breaks.no_place (AssignsNoPlace.assignment n))) in
      and_from _ _ (seen_left raw d scope left x l isnt)
      (holds_at _ _ l.operand l.tree (holds_at _ _ r.operand r.tree (assigned_fit raw d scope left right op l.operand r.operand kept l.text r.text (seen_scalar raw d scope left x l isnt))))

  pub bumps_fit : (left : RawExpr) (x : Expr) → BreaksNone raw scope (Bumps left) → expr_of raw scope left ≡ Some x → bumps d x ≡ true
  bumps_fit left x kept hx =
      let l = expr_seen raw d known scope names (Bumps left) kept left (contains_first left []) x hx in
      and_from _ _ (seen_left raw d scope left x l (λ n. kept 14 (Breaks.no_place (AssignsNoPlace.bump n))))
      (holds_at _ _ l.operand l.tree (by_result (binary_result Add l.operand one) (λ e. kept 12 (Breaks.operator (MisusesOperator.bump l.text e)))))
    where
      by_result : (o : Option ExprType) → (o ≡ None → ⊥) → is_some o ≡ true
      by_result None h = absurd (h refl)
      by_result (Some t) h = refl

  pub tests_fit : (test : RawExpr) (x : Expr) → BreaksNone raw scope (Tests test) → expr_of raw scope test ≡ Some x → is_tested d x ≡ true
  tests_fit test x kept hx =
      let s = expr_seen raw d known scope names (Tests test) kept test (contains_first test []) x hx in
      seen_passes raw d scope test x s _ (λ h. kept 12 (Breaks.operator (MisusesOperator.test s.text h)))

  -- the test of a switch is an integer
  pub switch_fits : (test : RawExpr) (labels : List RawLabel) (x : Expr) → BreaksNone raw scope (Switches test labels) → expr_of raw scope test ≡ Some x
      → (is_number d x ≡ true) × (is_tested d x ≡ true)
  switch_fits test labels x kept hx =
      let s = expr_seen raw d known scope names (Switches test labels) kept test (contains_first test _) x hx in
      by_type s (integer_of s.operand.shape) refl
    where
      by_type : (s : Seen raw d scope test x) (o : Option IntType) → integer_of s.operand.shape ≡ o → (is_number d x ≡ true) × (is_tested d x ≡ true)
      by_type s None e = absurd (kept 11 (Breaks.switch (MisusesSwitch.no_integer s.text e)))
      by_type s (Some i) e = (holds_at _ _ s.operand s.tree (ap is_some e), holds_at _ _ s.operand s.tree (integer_scalar s.operand.shape.layers s.operand.shape.base i e))

  -- ---- what a variable begins with

  all_take : (part : Part) → BreaksNone raw scope part → (t : ExprType) (es : List RawExpr) (xs : List Expr) → ((a : RawExpr) → Contains es a → Contains (expressions part) a)
      → ((a : RawExpr) (x : Operand) → Contains es a → of_text.operand raw scope a ≡ Some x → is_assignable t x ≡ false → ⊥)
      → exprs_of raw scope es ≡ Some xs → list_all (λ (e : Expr). takes d e t) xs ≡ true
  all_take part kept t [] xs among fit e = subst (λ zs. list_all (λ (z : Expr). takes d z t) zs ≡ true) (some_same e) refl
  all_take part kept t (a ∷ es) xs among fit e =
      let m = more_there (expr_of raw scope a) (map (expr_of raw scope) es) xs e in
      let s = expr_seen raw d known scope names part kept a (among a (contains_first a es)) m.first m.first_there in
      let here = seen_passes raw d scope a m.first s (is_assignable t) (λ h. fit a s.operand (contains_first a es) s.text h) in
      subst (λ zs. list_all (λ (z : Expr). takes d z t) zs ≡ true) m.same
      (and_from _ _ here (all_take part kept t es m.rest (λ b c. among b (contains_later a b es c)) (λ b x c. fit b x (contains_later a b es c)) m.rest_there))

  module _ (stand : Stand) (var : RawVar) where
    one_fits : (a : RawExpr) (t : ExprType) (n : Init) → BreaksNone raw scope (Begins stand var (init.One a)) → variable_type raw var (init.One a) ≡ Some t
        → init_of raw scope (init.One a) ≡ Some n → begins_with d n t ≡ true
    one_fits a t n kept typed e =
        let m = map_there begins_by.One (expr_of raw scope a) n e in
        let s = expr_seen raw d known scope names (Begins stand var (init.One a)) kept a (contains_first a []) m.value m.there in
        let scalar = unless (is_scalar t) (λ h. kept 22 (Breaks.initialiser (MisusesInitialiser.whole typed h))) in
        subst (λ z. begins_with d z t ≡ true) m.same
        (and_from _ _ scalar (seen_passes raw d scope a m.value s (is_assignable t) (λ h. kept 13 (Breaks.other_type (AssignsOtherType.initialiser typed s.text scalar h)))))

    items_fit : (es : List RawExpr) (t : ExprType) (n : Init) → BreaksNone raw scope (Begins stand var (init.Items es)) → variable_type raw var (init.Items es) ≡ Some t
        → init_of raw scope (init.Items es) ≡ Some n → begins_with d n t ≡ true
    items_fit es t n kept typed e =
        let m = map_there begins_by.Items (exprs_of raw scope es) n e in
        subst (λ z. begins_with d z t ≡ true) m.same (by_element m.value m.there (element_of t) refl)
      where
        by_element : (xs : List Expr) → exprs_of raw scope es ≡ Some xs → (o : Option ExprType) → element_of t ≡ o → holds_of (λ (el : ExprType). holds_of (lists d xs el) (count_of t)) o ≡ true
        by_element xs trees None is = absurd (kept 22 (Breaks.initialiser (MisusesInitialiser.no_array typed is)))
        by_element xs trees (Some el) is =
            let c = counted_in t.layers t.base el is in
            let long : length xs ≡ length es = collected_length (map (expr_of raw scope) es) xs trees ∙ length-map es (expr_of raw scope) in
            let short : (nat_lt c.0 (length xs) ≡ true) → ⊥ = (λ h. let lt : c.0 < length xs = ltb-true c.0 (length xs) h in kept 22 (Breaks.initialiser (MisusesInitialiser.too_many typed c.1 (omega (arith, lt, long))))) in
            holds_at _ _ c.0 c.1 (and_from _ _ (unless (is_scalar el) (λ h. kept 22 (Breaks.initialiser (MisusesInitialiser.no_scalars typed is h))))
            (and_from _ _ (unless (not (nat_lt c.0 (length xs))) (λ h. short (true_of _ h)))
            (all_take (Begins stand var (init.Items es)) kept el es xs (λ b k. k) (λ b x k there h. kept 22 (Breaks.initialiser (MisusesInitialiser.unfit typed is (b, k, (x, there, h))))) trees)))
          where
            true_of : (b : Bool) → not b ≡ false → b ≡ true
            true_of true h = refl
            true_of false h = absurd (true≢false h)

    pub begins_fit : (i : RawInit) (x : ℕ) (n : Init) → BreaksNone raw scope (Begins stand var i) → variable_shape d x ≡ variable_type raw var i → IsThere (variable_type raw var i)
        → init_of raw scope i ≡ Some n → begins d x n ≡ true
    begins_fit init.None x n kept at there e =
        let v = value_there (variable_type raw var init.None) there in
        subst (λ z. begins d x z ≡ true) (some_same e) (holds_at _ _ v.0 (at ∙ v.1) refl)
    begins_fit (init.One a) x n kept at there e =
        let v = value_there (variable_type raw var (init.One a)) there in
        holds_at _ _ v.0 (at ∙ v.1) (one_fits a v.0 n kept v.1 e)
    begins_fit (init.Items es) x n kept at there e =
        let v = value_there (variable_type raw var (init.Items es)) there in
        holds_at _ _ v.0 (at ∙ v.1) (items_fit es v.0 n kept v.1 e)

  -- ---- what calls give

  -- a value that is stored is assignable
  stores_fit : (part : Part) → BreaksNone raw scope part → (to : RawTarget) (n : ℕ) (t : Target) (y : Operand) → KeepsTarget raw d scope to → IsDeclared raw d scope n to
      → ((a : RawExpr) → to ≡ target.Place a → Contains (expressions part) a) → ((u : ExprType) → target_type raw scope to ≡ Some u → is_assignable u y ≡ false → ⊥)
      → IsTargetOf raw d scope n to t → stores d t y ≡ true
  stores_fit part kept target.None n t y keeps at among fit is = subst (λ z. stores d z y ≡ true) (sym is) refl
  stores_fit part kept (target.Place a) n t y keeps at among fit (x, tree, is) =
      let s = expr_seen raw d known scope names part kept a (among a refl) x tree in
      let assigned = unless (is_assignable s.operand.shape y) (λ h. fit s.operand.shape (ap (option_map (λ (z : Operand). z.shape)) s.text) h) in
      subst (λ z. stores d z y ≡ true) (sym is) (and_from _ _ (seen_left raw d scope a x s keeps) (holds_at _ _ s.operand s.tree assigned))
  stores_fit part kept (target.Declared v) n t y keeps at among fit is =
      let u = value_there (variable_type raw v init.None) at.1 in
      subst (λ z. stores d z y ≡ true) (sym is)
      (holds_at _ _ u.0 (at.0 ∙ u.1) (and_from _ _ (unless (is_scalar u.0) (λ h. keeps u.0 u.1 h)) (unless (is_assignable u.0 y) (λ h. fit u.0 u.1 h))))

  module _ (stand : Stand) (to : RawTarget) (f : Bytes) (args : List RawArg) (kept : BreaksNone raw scope (Calls stand to f args)) where
    abbrev part : Part
    part = Calls stand to f args

    placed : (a : RawExpr) → to ≡ target.Place a → Contains (expressions part) a
    placed a is = subst (λ (z : RawTarget). Contains (target_exprs z ++ arg_exprs args) a) (sym is) (contains_first a (arg_exprs args))

    argued : (a : RawExpr) → Contains (arg_exprs args) a → Contains (expressions part) a
    argued a c = contains_behind (target_exprs to) (arg_exprs args) a c

    pub fetch_fits : f ≡ codes "getchar" → (n : ℕ) (t : Target) → IsDeclared raw d scope n to → IsTargetOf raw d scope n to t → stores d t (a_value (integer Int)) ≡ true
    fetch_fits is n t at made =
        stores_fit part kept to n t (a_value (integer Int)) (keeps_called raw d scope stand to f args kept) at placed
        (λ u typed h. input (subst (λ (w : Bytes). BreaksNone raw scope (Calls stand to w args)) is kept) u typed h) made
      where
        input : BreaksNone raw scope (Calls stand to (codes "getchar") args) → (u : ExprType) → target_type raw scope to ≡ Some u → is_assignable u (a_value (integer Int)) ≡ false → ⊥
        input own u typed h = own 17 (Breaks.result (MisusesResult.input typed h))

    only_seen : (x : Expr) → only_tree raw scope args ≡ Some x → (a : RawExpr) × (only_arg args ≡ Some a) × Seen raw d scope a x
    only_seen x e =
        let m = then_there (expr_of raw scope) (only_arg args) x e in
        (m.value, m.there, expr_seen raw d known scope names part kept m.value (argued m.value (only_in args m.value m.there)) x m.same)

    pub write_fits : f ≡ codes "putchar" → (x : Expr) → only_tree raw scope args ≡ Some x → is_number d x ≡ true
    write_fits is x e =
        let s = only_seen x e in
        let own = subst (λ (w : Bytes). BreaksNone raw scope (Calls stand to w args)) is kept in
        seen_passes raw d scope s.0 x s.2 (λ (z : Operand). is_integer z.shape) (λ h. own 21 (Breaks.library (MisusesLibrary.putchar_type s.1 s.2.text h)))

    pub release_fits : f ≡ codes "free" → (x : Expr) → only_tree raw scope args ≡ Some x → is_address d x ≡ true
    release_fits is x e =
        let s = only_seen x e in
        let own = subst (λ (w : Bytes). BreaksNone raw scope (Calls stand to w args)) is kept in
        seen_passes raw d scope s.0 x s.2 (λ (z : Operand). is_pointer (value_type z.shape)) (λ h. own 21 (Breaks.library (MisusesLibrary.free_type s.1 s.2.text h)))

    converted : (cs : List Conversion) (more : List RawArg) (xs : List Expr) → ((a : RawExpr) → Contains (arg_exprs more) a → Contains (expressions part) a) → length more ≡ length cs
        → (HasUnfitWidth raw scope cs more → ⊥) → args_tree raw scope more ≡ Some xs → converts d cs xs ≡ true
    converted [] [] xs among long fit e = subst (λ zs. converts d [] zs ≡ true) (some_same e) refl
    converted [] (a ∷ more) xs among long fit e = absurd (omega (arith, long))
    converted (c ∷ cs) [] xs among long fit e = absurd (omega (arith, long))
    converted (c ∷ cs) (arg.Literal w ∷ more) xs among long fit e = absurd (fit HasUnfitWidth.literal)
    converted (c ∷ cs) (arg.Value a ∷ more) xs among long fit e =
        let m = more_there (expr_of raw scope a) (map (arg_tree raw scope) more) xs e in
        let s = expr_seen raw d known scope names part kept a (among a (contains_first a (arg_exprs more))) m.first m.first_there in
        let here = seen_passes raw d scope a m.first s (λ (z : Operand). has_width (conversion_width c) (integer_of z.shape)) (λ h. fit (HasUnfitWidth.value s.text h)) in
        subst (λ zs. converts d (c ∷ cs) zs ≡ true) m.same
        (and_from _ _ here (converted cs more m.rest (λ b k. among b (contains_later a b (arg_exprs more) k)) (omega (arith, long)) (λ h. fit (HasUnfitWidth.later h)) m.rest_there))

    pub print_fits : f ≡ codes "printf" → (format : Bytes) (xs : List Expr) → format_in args ≡ Some format → args_tree raw scope (later_args args) ≡ Some xs → prints d format xs ≡ true
    print_fits is format xs text e =
        by_pieces (subst (λ (w : Bytes). BreaksNone raw scope (Calls stand to w args)) is kept) (format_pieces (literal_bytes format)) refl
      where
        pieces_are : (o : Option (List Piece)) → format_pieces (literal_bytes format) ≡ o → pieces_in args ≡ o
        pieces_are o h = ap (option_and_then (λ (w : Bytes). format_pieces (literal_bytes w))) text ∙ h

        by_pieces : BreaksNone raw scope (Calls stand to (codes "printf") args) → (o : Option (List Piece)) → format_pieces (literal_bytes format) ≡ o → holds_of (λ (ps : List Piece). converts d (conversions ps) xs) o ≡ true
        by_pieces own None h = absurd (own 19 (Breaks.format (MisusesFormat.conversion (pieces_are None h))))
        by_pieces own (Some ps) h =
            converted (conversions ps) (later_args args) xs (λ a c. argued a (later_in args a c))
            (same_number (length (later_args args)) (length (conversions ps)) (λ n. own 19 (Breaks.format (MisusesFormat.count (pieces_are (Some ps) h) n))))
            (λ n. own 19 (Breaks.format (MisusesFormat.unfit (pieces_are (Some ps) h) n))) e

    passed_fit : (ns : List ℕ) (more : List RawArg) (xs : List Expr) → AllTyped d ns → ((a : RawExpr) → Contains (arg_exprs more) a → Contains (expressions part) a) → length more ≡ length ns
        → (HasUnfitArgument raw scope (map (variable_shape d) ns) more → ⊥) → args_tree raw scope more ≡ Some xs → passed d ns xs ≡ true
    passed_fit [] [] xs typed among long fit e = subst (λ zs. passed d [] zs ≡ true) (some_same e) refl
    passed_fit [] (a ∷ more) xs typed among long fit e = absurd (omega (arith, long))
    passed_fit (n ∷ ns) [] xs typed among long fit e = absurd (omega (arith, long))
    passed_fit (n ∷ ns) (arg.Literal w ∷ more) xs typed among long fit e = absurd (fit HasUnfitArgument.literal)
    passed_fit (n ∷ ns) (arg.Value a ∷ more) xs typed among long fit e =
        let m = more_there (expr_of raw scope a) (map (arg_tree raw scope) more) xs e in
        let s = expr_seen raw d known scope names part kept a (among a (contains_first a (arg_exprs more))) m.first m.first_there in
        let t = value_there (variable_shape d n) typed.0 in
        let unfit : HasUnfitArgument raw scope (Some t.0 ∷ map (variable_shape d) ns) (arg.Value a ∷ more) → ⊥ =
        (λ h. fit (subst (λ o. HasUnfitArgument raw scope (o ∷ map (variable_shape d) ns) (arg.Value a ∷ more)) (sym t.1) h)) in
        let here = holds_at (takes d m.first) (variable_shape d n) t.0 t.1 (seen_passes raw d scope a m.first s (is_assignable t.0) (λ h. unfit (HasUnfitArgument.value s.text h))) in
        subst (λ zs. passed d (n ∷ ns) zs ≡ true) m.same
        (and_from _ _ here (passed_fit ns more m.rest typed.1 (λ b k. among b (contains_later a b (arg_exprs more) k)) (omega (arith, long)) (λ h. fit (HasUnfitArgument.later h)) m.rest_there))

    given_fit : is_library_function f ≡ false → (head : RawHead) → definition_of raw f ≡ Some head → (n : ℕ) (t : Target) (result : Option CType) → ResultStands raw head result
        → IsDeclared raw d scope n to → IsTargetOf raw d scope n to t → gives d t result ≡ true
    given_fit own head is n t result stands at made = by_result result stands t made
      where
        stored : (c : CType) → result_type raw head ≡ Some (shape_of c) → (z : Target) → IsTargetOf raw d scope n to z → stores d z (a_value (shape_of c)) ≡ true
        stored c typed z made =
            stores_fit part kept to n z (a_value (shape_of c)) (keeps_called raw d scope stand to f args kept) at placed
            (λ u to_typed h. kept 17 (Breaks.result (MisusesResult.unfit own is typed to_typed h))) made

        nothing_given : head.result ≡ None → (z : Target) → IsTargetOf raw d scope n to z → z ≡ to_place.None
        nothing_given none z made = not_stored to refl z made
          where
            not_stored : (w : RawTarget) → to ≡ w → (z : Target) → IsTargetOf raw d scope n w z → z ≡ to_place.None
            not_stored target.None e z made = made
            not_stored (target.Place a) e z made = absurd (kept 17 (Breaks.result (MisusesResult.no_result own (λ h. place_none a (sym e ∙ h)) is none)))
            not_stored (target.Declared v) e z made = absurd (kept 17 (Breaks.result (MisusesResult.no_result own (λ h. declared_none v (sym e ∙ h)) is none)))

        by_result : (r : Option CType) → ResultStands raw head r → (z : Target) → IsTargetOf raw d scope n to z → gives d z r ≡ true
        by_result None s z made = subst (λ w. gives d w None ≡ true) (sym (nothing_given (s.none refl) z made)) refl
        by_result (Some c) s to_place.None made = refl
        by_result (Some c) s (to_place.Place x) made = stored c (s.some c refl) (to_place.Place x) made
        by_result (Some c) s (to_place.Declared x) made = stored c (s.some c refl) (to_place.Declared x) made

    pub invoke_fits : FunctionsStand raw d → is_library_function f ≡ false → (n g : ℕ) (t : Target) (xs : List Expr) → IsDeclared raw d scope n to → IsTargetOf raw d scope n to t
        → function_id raw f ≡ Some g → args_tree raw scope args ≡ Some xs → holds_of (calls d t xs) (slice_get d.functions g) ≡ true
    invoke_fits functions own n g t xs at made numbered e =
        let found = position_found (λ (h : RawHead). bytes_eq h.name f) (defined_functions raw) g numbered in
        let s = functions g found.value found.at in
        let long : length args ≡ length found.value.params = same_number (length args) (length found.value.params) (λ h. kept 16 (Breaks.arguments (MisusesArguments.count own found.first h))) in
        let unfit : HasUnfitArgument raw scope (map (variable_shape d) s.0.params) args → ⊥ =
        (λ h. kept 16 (Breaks.arguments (MisusesArguments.unfit own found.first (subst (λ ts. HasUnfitArgument raw scope ts args) s.2.params h)))) in
        holds_at (calls d t xs) (slice_get d.functions g) s.0 s.1
        (and_from _ _ (passed_fit s.0.params args xs s.2.typed argued (long ∙ sym s.2.count) unfit e) (given_fit own found.value found.first n t s.0.result s.2.result at made))

  -- ---- allocations

  module _ (to : RawTarget) (cast : Option RawTypeName) where
    module _ (n : RawAmount) (kept : BreaksNone raw scope (Allocates to cast n)) where
      number_fits : (a : RawExpr) (x : Expr) → Contains (counts n) a → expr_of raw scope a ≡ Some x → is_number d x ≡ true
      number_fits a x c e =
          let s = expr_seen raw d known scope names (Allocates to cast n) kept a (contains_behind (target_exprs to) (counts n) a c) x e in
          seen_passes raw d scope a x s (λ (z : Operand). is_integer z.shape) (λ h. kept 20 (Breaks.allocation (MisusesAllocation.no_count c s.text h)))

      size_fits : (u object : ExprType) → target_type raw scope to ≡ Some u → target_of u ≡ Some object → (z : RawSize) (k : Size) → Contains (sizes n) z → size_tree raw scope z ≡ Some k → measures d object k ≡ true
      size_fits u object typed points (size.Type t) k c e =
          let m = map_there measure.Type (ctype raw (named_type t)) k e in
          let is : written_type raw (named_type t) ≡ Some (shape_of m.value) = tree_typed raw 0 (named_type t) ∙ ap (option_map shape_of) m.there in
          subst (λ w. measures d object w ≡ true) m.same
          (unless (same_type (shape_of m.value) object) (λ h. kept 20 (Breaks.allocation (MisusesAllocation.other_size typed points c (HasOtherSize.of_type is h)))))
      size_fits u object typed points (size.Pointee name closed) k c e = by_meaning (meaning_in scope name) refl e (name_stands d name scope.names names)
        where
          other : HasOtherSize raw scope object (size.Pointee name closed) → ⊥
          other h = kept 20 (Breaks.allocation (MisusesAllocation.other_size typed points c h))

          by_target : (id : ℕ) (t : ExprType) → meaning_in scope name ≡ Some (Meaning.Variable id (Some t)) → (o : Option ExprType) → target_of (value_type t) ≡ o → holds_of (λ (w : ExprType). same_type w object) o ≡ true
          by_target id t is None h = absurd (other (HasOtherSize.of_no_pointer is h))
          by_target id t is (Some w) h = unless (same_type w object) (λ q. other (HasOtherSize.of_target is h q))

          by_type : (id : ℕ) (t : Option ExprType) → meaning_in scope name ≡ Some (Meaning.Variable id t) → variable_shape d id ≡ t → IsThere t → measures d object (measure.Pointee id closed) ≡ true
          by_type id None is at there = absurd there
          by_type id (Some t) is at there =
              ap (λ o. holds_of (λ (w : ExprType). same_type w object) (option_and_then (λ (w : ExprType). target_of (value_type w)) o)) at ∙ by_target id t is (target_of (value_type t)) refl

          by_meaning : (o : Option Meaning) → meaning_in scope name ≡ o → option_map (λ (x : ℕ). measure.Pointee x closed) (variable_number o) ≡ Some k → StandIf d o → measures d object k ≡ true
          by_meaning None is h s = none_there h
          by_meaning (Some Meaning.Function) is h s = none_there h
          by_meaning (Some (Meaning.Variable id t)) is h s = subst (λ w. measures d object w ≡ true) (some_same h) (by_type id t is s.0 s.1)

    asks_fit : (n : RawAmount) → BreaksNone raw scope (Allocates to cast n) → (u object : ExprType) → target_type raw scope to ≡ Some u → target_of u ≡ Some object
        → (k : Amount) → amount_tree raw scope n ≡ Some k → asks d k object ≡ true
    asks_fit (amount.Size z) kept u object typed points k e =
        let m = map_there quantity.Size (size_tree raw scope z) k e in
        subst (λ w. asks d w object ≡ true) m.same (size_fits (amount.Size z) kept u object typed points z m.value (contains_first z []) m.there)
    asks_fit (amount.CountSize a z) kept u object typed points k e =
        let m = then_there (λ (x : Expr). option_map (quantity.CountSize x) (size_tree raw scope z)) (expr_of raw scope a) k e in
        let q = map_there (quantity.CountSize m.value) (size_tree raw scope z) k m.same in
        subst (λ w. asks d w object ≡ true) q.same
        (and_from _ _ (number_fits (amount.CountSize a z) kept a m.value (contains_first a []) m.there) (size_fits (amount.CountSize a z) kept u object typed points z q.value (contains_first z []) q.there))
    asks_fit (amount.SizeCount z a) kept u object typed points k e =
        let m = then_there (λ (x : Size). option_map (quantity.SizeCount x) (expr_of raw scope a)) (size_tree raw scope z) k e in
        let q = map_there (quantity.SizeCount m.value) (expr_of raw scope a) k m.same in
        subst (λ w. asks d w object ≡ true) q.same
        (and_from _ _ (size_fits (amount.SizeCount z a) kept u object typed points z m.value (contains_first z []) m.there) (number_fits (amount.SizeCount z a) kept a q.value (contains_first a []) q.there))
    asks_fit (amount.Count a) kept u object typed points k e =
        let m = map_there quantity.Count (expr_of raw scope a) k e in
        subst (λ w. asks d w object ≡ true) m.same
        (and_from _ _ (number_fits (amount.Count a) kept a m.value (contains_first a []) m.there)
        (unless (is_char (integer_of object)) (λ h. kept 20 (Breaks.allocation (MisusesAllocation.no_size typed points h)))))

    objects_fit : (n : RawAmount) → BreaksNone raw scope (Allocates to cast n) → (u : ExprType) → target_type raw scope to ≡ Some u → (k : Amount) → amount_tree raw scope n ≡ Some k → holds_objects d k u ≡ true
    objects_fit n kept u typed k e = by_target (target_of u) refl
      where
        by_target : (o : Option ExprType) → target_of u ≡ o → holds_of (asks d k) o ≡ true
        by_target None h = absurd (kept 20 (Breaks.allocation (MisusesAllocation.no_pointer typed (ap is_some h))))
        by_target (Some object) h = asks_fit n kept u object typed h k e

  pub allocates_fit : (to : RawTarget) (cast : Option RawTypeName) (n : RawAmount) → BreaksNone raw scope (Allocates to cast n) → (x : ℕ) (t : Target) (k : Amount) → IsDeclared raw d scope x to
      → IsTargetOf raw d scope x to t → amount_tree raw scope n ≡ Some k → allocates d t k ≡ true
  allocates_fit target.None cast n kept x t k at made e = subst (λ z. allocates d z k ≡ true) (sym made) refl
  allocates_fit (target.Place a) cast n kept x t k at made e =
      let s = expr_seen raw d known scope names (Allocates (target.Place a) cast n) kept a (contains_first a (counts n)) made.0 made.1 in
      let typed : target_type raw scope (target.Place a) ≡ Some s.operand.shape = ap (option_map (λ (z : Operand). z.shape)) s.text in
      subst (λ z. allocates d z k ≡ true) (sym made.2)
      (and_from _ _ (seen_left raw d scope a made.0 s (λ h. kept 14 (Breaks.no_place (AssignsNoPlace.allocation h))))
      (holds_at _ _ s.operand s.tree (objects_fit (target.Place a) cast n kept s.operand.shape typed k e)))
  allocates_fit (target.Declared v) cast n kept x t k at made e =
      let u = value_there (variable_type raw v init.None) at.1 in
      subst (λ z. allocates d z k ≡ true) (sym made) (holds_at _ _ u.0 (at.0 ∙ u.1) (objects_fit (target.Declared v) cast n kept u.0 u.1 k e))

  -- ---- returns

  pub returns_fit : (head : RawHead) (result : Option CType) → head_around raw scope ≡ Some head → ResultStands raw head result → (a : Option RawExpr) (v : Option Expr) → BreaksNone raw scope (Returns a)
      → optional (option_map (expr_of raw scope) a) ≡ Some v → returns d result v ≡ true
  returns_fit head result around stands None v kept e = subst (λ z. returns d result z ≡ true) (some_same e) (ap is_none (stands.there (no_result head.result refl)))
    where
      no_result : (o : Option RawType) → head.result ≡ o → head.result ≡ None
      no_result None h = h
      no_result (Some t) h = absurd (kept 18 (Breaks.return (MisusesReturn.no_value around (λ q. let k : ◌≡◌ {A = Option RawType} None (Some t) = sym q ∙ h in none_there k))))
  returns_fit head result around stands (Some b) v kept e =
      let m = optional_there (expr_of raw scope b) v e in
      let s = expr_seen raw d known scope names (Returns (Some b)) kept b (contains_first b []) m.0 m.1.0 in
      subst (λ z. returns d result z ≡ true) m.1.1 (by_result m.0 s result stands)
    where
      by_result : (x : Expr) → Seen raw d scope b x → (r : Option CType) → ResultStands raw head r → returns d r (Some x) ≡ true
      by_result x s None stands = absurd (kept 18 (Breaks.return (MisusesReturn.value_of_void around (stands.none refl))))
      by_result x s (Some c) stands =
          seen_passes raw d scope b x s (is_assignable (shape_of c)) (λ h. kept 18 (Breaks.return (MisusesReturn.unfit around (stands.some c refl) s.text h)))
