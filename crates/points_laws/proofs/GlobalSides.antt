-- What the globals of a text begin with points nowhere, whatever program it is looked at in.
use Rattle.std.proofs.Common.{◌≡◌, ℕ, List, [], ◌∷◌, ◌++◌, length, map, Bool, true, false, inl, inr, Option, Some, None, refl, sym, ap, ◌∙◌, subst}
use Rattle.std.specs.Prelude.{ℤ, Contains, ◌⊎◌}
use Rattle.rule_closure.proofs.ListLemmas.{contains_none, contains_head, contains_cons, contains_cases}
use Rattle.c_tree.specs.declared.expr.Expr.{Expr}
use Rattle.c_tree.specs.declared.program.Init.{Init}
use Rattle.c_tree.specs.declared.program.Init.TheVariants as begins
use Rattle.c_tree.specs.declared.program.Item.{Item}
use Rattle.c_tree.specs.declared.program.Item.TheVariants as item
use Rattle.c_tree.specs.declared.program.Program.{Program}
use Rattle.c_tree.specs.declared.program.Var.{Var}
use Rattle.c_tree.specs.declared.raw.expr.RawExpr.{RawExpr}
use Rattle.c_tree.specs.declared.raw.expr.RawVar.{RawVar}
use Rattle.c_tree.specs.declared.raw.program.RawInit.{RawInit}
use Rattle.c_tree.specs.declared.raw.program.RawInit.TheVariants as init
use Rattle.c_tree.specs.declared.raw.program.RawItem.{RawItem}
use Rattle.c_tree.specs.declared.raw.program.RawItem.TheVariants.{Include, Tag, Struct, Global, Prototype, Define}
use Rattle.c_tree.specs.declared.raw.program.RawParam.{RawParam}
use Rattle.c_tree.specs.declared.raw.program.RawProgram.{RawProgram}
use Rattle.c_language.specs.ArrayRules.{IsNoConstant, LacksConstant, MisusesInitialiser, element_of}
use Rattle.c_language.specs.ConstantEvaluation.{value_of_constant}
use Rattle.c_language.specs.DeclaredTypes.{variable_type, item_count, function_id, struct_id}
use Rattle.c_language.specs.Options.{IsThere}
use Rattle.c_language.specs.Phrases.{InFile, Begins, Phrases, begun_phrases, item_phrases, after_item, items_phrases}
use Rattle.c_language.specs.ProgramOf.{collected, ctype_with, expr_of, exprs_of, init_of, variable_of, variables_in, item_tree, items_from}
use Rattle.c_language.specs.Rules.{Breaks, BreaksNone, AreKept}
use Rattle.c_language.specs.Scopes.{Scope, with_variable, with_function}
use Rattle.c_language.specs.Uses.{is_null_name}
use Rattle.c_language.specs.declared.expr_type.ExprType.{ExprType}
use Rattle.c_language.proofs.Options.{value_there, some_same, map_there, more_there}
use Rattle.c_language.proofs.PhraseLists.{variables-append, kept_first, kept_second}
use Rattle.c_print_laws.proofs.Counted.{counted}
use Rattle.dep_model.specs.declared.location.Location.{Location}
use Rattle.dep_model.specs.declared.location.Part.TheVariants as part
use Rattle.dep_model.specs.Denoted.{TargetsOf, whole, part_of, expr_points}
use Rattle.dep_model.specs.MayPoint.{Pointing, pointing, listed, init_pointings, item_pointings}
use Rattle.points_laws.proofs.ConstantTargets.{fixed_nowhere}

-- ---- variables that are there

abbrev pub AllThere : List (Option Var) → Type 0
AllThere [] = Unit {0}
AllThere (o ∷ os) = IsThere o × AllThere os

pub collected_there : (os : List (Option Var)) (xs : List Var) → collected os ≡ Some xs → AllThere os
collected_there [] xs e = tt
collected_there (o ∷ os) xs e = let m = more_there o os xs e in (subst IsThere (sym m.first_there) tt, collected_there os m.rest m.rest_there)

there_first : (os qs : List (Option Var)) → AllThere (os ++ qs) → AllThere os
there_first [] qs h = tt
there_first (o ∷ os) qs h = (h.0, there_first os qs h.1)

there_second : (os qs : List (Option Var)) → AllThere (os ++ qs) → AllThere qs
there_second [] qs h = h
there_second (o ∷ os) qs h = there_second os qs h.1

module _ (p : Program) where
  -- what an item gives points nowhere
  abbrev pub PointsNowhere : Item → Type 0
  PointsNowhere i = (points : TargetsOf) (a : Pointing) (m : Location) → Contains (item_pointings p points i) a → a.from m ≡ false

  abbrev IsNowhere : Expr → Type 0
  IsNowhere e = (points : TargetsOf) (m : Location) → expr_points p points e m ≡ false

  abbrev AreNowhere : List Expr → Type 0
  AreNowhere es = (e : Expr) → Contains es e → IsNowhere e

  no_exprs : AreNowhere []
  no_exprs e c = absurd (contains_none e c)

  more_exprs : (x : Expr) (es : List Expr) → IsNowhere x → AreNowhere es → AreNowhere (x ∷ es)
  more_exprs x es here rest e c = elim (contains_cases x es e c) [ inl same ↦ subst IsNowhere same here | inr later ↦ rest e later ]

  listed_nowhere : (points : TargetsOf) (x : ℕ) (es : List Expr) → AreNowhere es → (a : Pointing) (m : Location) → Contains (listed p points x es) a → a.from m ≡ false
  listed_nowhere points x [] h a m c = absurd (contains_none a c)
  listed_nowhere points x (e ∷ es) h a m c =
      elim (contains_cases (pointing (part_of p part.Element (whole x)) (expr_points p points e)) (listed p points x es) a c) [
        | inl same ↦ subst (λ (b : Pointing). b.from m ≡ false) same (h e (contains_head e es) points m)
        | inr later ↦ listed_nowhere points x es (λ f k. h f (contains_cons e es f k)) a m later
      ]

  one_nowhere : (x : ℕ) (e : Expr) → IsNowhere e → PointsNowhere (item.Global x (begins.One e))
  one_nowhere x e h points a m c = elim (contains_cases (pointing (whole x) (expr_points p points e)) [] a c) [
    | inl same ↦ subst (λ (b : Pointing). b.from m ≡ false) same (h points m)
    | inr none ↦ absurd (contains_none a none)
  ]

  abbrev pub ItemsNowhere : List Item → Type 0
  ItemsNowhere ys = (i : Item) → Contains ys i → PointsNowhere i

  no_items : ItemsNowhere []
  no_items i c = absurd (contains_none i c)

  more_items : (x : Item) (ys : List Item) → PointsNowhere x → ItemsNowhere ys → ItemsNowhere (x ∷ ys)
  more_items x ys here rest i c = elim (contains_cases x ys i c) [ inl same ↦ subst PointsNowhere same here | inr later ↦ rest i later ]

  -- what gives nothing
  nothing : (i : Item) → ((points : TargetsOf) → item_pointings p points i ≡ []) → PointsNowhere i
  nothing i none points a m c = absurd (contains_none a (subst (λ as_. Contains as_ a) (none points) c))

  module _ (raw : RawProgram) where
    -- ---- what a global begins with

    -- a constant expression, or NULL
    abbrev IsFixed : RawExpr → Type 0
    IsFixed e = IsThere (value_of_constant e) ⊎ (is_null_name e ≡ true)

    -- what is neither breaks a rule
    fixed : (e : RawExpr) → (value_of_constant e ≡ None → is_null_name e ≡ false → ⊥) → IsFixed e
    fixed e broken = by_value (value_of_constant e) refl (is_null_name e) refl
      where
        by_value : (o : Option ℤ) → value_of_constant e ≡ o → (b : Bool) → is_null_name e ≡ b → IsFixed e
        by_value (Some z) is b null = inl (subst IsThere (sym is) tt)
        by_value None is true null = inr null
        by_value None is false null = absurd (broken is null)

    tree_nowhere : (scope : Scope) (e : RawExpr) (x : Expr) → IsFixed e → expr_of raw scope e ≡ Some x → IsNowhere x
    tree_nowhere scope e x h is points m = fixed_nowhere p points raw scope e h x is m

    trees_nowhere : (scope : Scope) (es : List RawExpr) (xs : List Expr) → ((e : RawExpr) → Contains es e → IsFixed e) → exprs_of raw scope es ≡ Some xs → AreNowhere xs
    trees_nowhere scope [] xs h is = subst AreNowhere (some_same is) no_exprs
    trees_nowhere scope (e ∷ es) xs h is =
        let m = more_there (expr_of raw scope e) (map (expr_of raw scope) es) xs is in
        subst AreNowhere m.same (more_exprs m.first m.rest (tree_nowhere scope e m.first (h e (contains_head e es)) m.first_there) (trees_nowhere scope es m.rest (λ f c. h f (contains_cons e es f c)) m.rest_there))

    -- the type of a variable that has one in the program
    typed : (line : ℕ) (owner : Option ℕ) (is_static : Bool) (var : RawVar) (i : RawInit) → IsThere (variable_of raw line owner (InFile is_static) var i) → (t : ExprType) × (variable_type raw var i ≡ Some t)
    typed line owner is_static var i there =
        let v = value_there (variable_of raw line owner (InFile is_static) var i) there in
        let g = map_there _ (ctype_with raw (item_count i) var.shape) v.0 v.1 in
        let k = counted raw (item_count i) var.shape g.value g.there in
        (k.type, k.there)

    -- an array has elements
    elements : (scope : Scope) (is_static : Bool) (var : RawVar) (es : List RawExpr) (t : ExprType) → variable_type raw var (init.Items es) ≡ Some t → BreaksNone raw scope (Begins (InFile is_static) var (init.Items es)) → (u : ExprType) × (element_of t ≡ Some u)
    elements scope is_static var es t is kept = by_element (element_of t) refl
      where
        by_element : (o : Option ExprType) → element_of t ≡ o → (u : ExprType) × (element_of t ≡ Some u)
        by_element (Some u) e = (u, e)
        by_element None e = absurd (kept 22 (Breaks.initialiser (MisusesInitialiser.no_array is e)))

    global_nowhere : (line : ℕ) (scope : Scope) (is_static : Bool) (var : RawVar) (i : RawInit) (z : Init) (x : ℕ) → IsThere (variable_of raw line scope.owner (InFile is_static) var i)
        → AreKept raw (begun_phrases line (with_variable raw var i scope) (InFile is_static) var i) → init_of raw (with_variable raw var i scope) i ≡ Some z → PointsNowhere (item.Global x z)
    global_nowhere line scope is_static var init.None z x there kept is = subst (λ (y : Init). PointsNowhere (item.Global x y)) (some_same is) (nothing (item.Global x begins.None) (λ points. refl))
    global_nowhere line scope is_static var (init.One e) z x there kept is =
        let next = with_variable raw var (init.One e) scope in
        let t = typed line scope.owner is_static var (init.One e) there in
        let m = map_there begins.One (expr_of raw next e) z is in
        let own = fixed e (λ none null. kept.0 10 (Breaks.no_constant (LacksConstant.global t.1 (IsNoConstant.other e none null)))) in
        subst (λ (y : Init). PointsNowhere (item.Global x y)) m.same (one_nowhere x m.value (tree_nowhere next e m.value own m.there))
    global_nowhere line scope is_static var (init.Items es) z x there kept is =
        let next = with_variable raw var (init.Items es) scope in
        let t = typed line scope.owner is_static var (init.Items es) there in
        let u = elements next is_static var es t.0 t.1 kept.0 in
        let m = map_there begins.Items (exprs_of raw next es) z is in
        let own : (e : RawExpr) → Contains es e → IsFixed e = λ e c. fixed e (λ none null. kept.0 10 (Breaks.no_constant (LacksConstant.item t.1 u.1 c (IsNoConstant.other e none null)))) in
        let each = trees_nowhere next es m.value own m.there in
        subst (λ (y : Init). PointsNowhere (item.Global x y)) m.same (λ points a k c. listed_nowhere points x m.value each a k c)

    -- ---- items

    -- the rest of what is kept, and of the variables that are there
    later : (x : RawItem) (xs : List RawItem) (scope : Scope) → AreKept raw (items_phrases raw (x ∷ xs) scope) → AreKept raw (items_phrases raw xs (after_item raw x scope))
    later x xs scope kept = kept_second raw (item_phrases raw x scope) (items_phrases raw xs (after_item raw x scope)) kept

    abbrev AreTyped : Phrases → Type 0
    AreTyped ps = AllThere (variables_in raw ps)

    typed_first : (ps qs : Phrases) → AreTyped (ps ++ qs) → AreTyped ps
    typed_first ps qs h = there_first (variables_in raw ps) (variables_in raw qs) (subst AllThere (variables-append raw ps qs) h)

    typed_second : (ps qs : Phrases) → AreTyped (ps ++ qs) → AreTyped qs
    typed_second ps qs h = there_second (variables_in raw ps) (variables_in raw qs) (subst AllThere (variables-append raw ps qs) h)

    typed_later : (x : RawItem) (xs : List RawItem) (scope : Scope) → AreTyped (items_phrases raw (x ∷ xs) scope) → AreTyped (items_phrases raw xs (after_item raw x scope))
    typed_later x xs scope h = typed_second (item_phrases raw x scope) (items_phrases raw xs (after_item raw x scope)) h

    pub items_nowhere : (xs : List RawItem) (scope : Scope) (ys : List Item) → AreKept raw (items_phrases raw xs scope) → AreTyped (items_phrases raw xs scope) → collected (items_from raw xs scope) ≡ Some ys → ItemsNowhere ys
    items_nowhere [] scope ys kept there e = subst ItemsNowhere (some_same e) no_items
    items_nowhere (Include b ∷ xs) scope ys kept there e =
        let m = more_there (item_tree raw (Include b) scope) (items_from raw xs scope) ys e in
        let here = subst PointsNowhere (some_same m.first_there) (nothing (item.Include b) (λ points. refl)) in
        subst ItemsNowhere m.same (more_items m.first m.rest here (items_nowhere xs scope m.rest kept there m.rest_there))
    items_nowhere (Tag line tag ∷ xs) scope ys kept there e =
        let m = more_there (item_tree raw (Tag line tag) scope) (items_from raw xs scope) ys e in
        let k = map_there item.Tag (struct_id raw tag) m.first m.first_there in
        let here = subst PointsNowhere k.same (nothing (item.Tag k.value) (λ points. refl)) in
        subst ItemsNowhere m.same (more_items m.first m.rest here (items_nowhere xs scope m.rest (later (Tag line tag) xs scope kept) (typed_later (Tag line tag) xs scope there) m.rest_there))
    items_nowhere (Struct line tag members ∷ xs) scope ys kept there e =
        let x = Struct line tag members in
        let m = more_there (item_tree raw x scope) (items_from raw xs (after_item raw x scope)) ys e in
        let here = subst PointsNowhere (some_same m.first_there) (nothing (item.Struct scope.structs) (λ points. refl)) in
        subst ItemsNowhere m.same (more_items m.first m.rest here (items_nowhere xs (after_item raw x scope) m.rest (later x xs scope kept) (typed_later x xs scope there) m.rest_there))
    items_nowhere (Global line var i is_static ∷ xs) scope ys kept there e =
        let x = Global line var i is_static in
        let next = with_variable raw var i scope in
        let m = more_there (item_tree raw x scope) (items_from raw xs next) ys e in
        let k = map_there (item.Global scope.variables) (init_of raw next i) m.first m.first_there in
        let own = kept_first raw (item_phrases raw x scope) (items_phrases raw xs next) kept in
        let declared = typed_first (item_phrases raw x scope) (items_phrases raw xs next) there in
        let here = subst PointsNowhere k.same (global_nowhere line scope is_static var i k.value scope.variables declared.0 own.1 k.there) in
        subst ItemsNowhere m.same (more_items m.first m.rest here (items_nowhere xs next m.rest (later x xs scope kept) (typed_later x xs scope there) m.rest_there))
    items_nowhere (Prototype line head ∷ xs) scope ys kept there e =
        let x = Prototype line head in
        let next = with_function head.name scope in
        let m = more_there (item_tree raw x scope) (items_from raw xs next) ys e in
        let k = map_there (λ (f : ℕ). item.Prototype f (map (λ (q : RawParam). q.name) head.params) head.is_static) (function_id raw head.name) m.first m.first_there in
        let here = subst PointsNowhere k.same (nothing (item.Prototype k.value (map (λ (q : RawParam). q.name) head.params) head.is_static) (λ points. refl)) in
        subst ItemsNowhere m.same (more_items m.first m.rest here (items_nowhere xs next m.rest (later x xs scope kept) (typed_later x xs scope there) m.rest_there))
    items_nowhere (Define line head body ∷ xs) scope ys kept there e =
        let x = Define line head body in
        let next = after_item raw x scope in
        let m = more_there (item_tree raw x scope) (items_from raw xs next) ys e in
        let here = subst PointsNowhere (some_same m.first_there) (nothing (item.Define scope.functions) (λ points. refl)) in
        subst ItemsNowhere m.same (more_items m.first m.rest here (items_nowhere xs next m.rest (later x xs scope kept) (typed_later x xs scope there) m.rest_there))
