-- What the vertices of a program may use is listed among its locations, where the variables that its statements name are its own.
use Rattle.std.proofs.Common.{find, cond, ◌≡◌, ℕ, zero, suc, ◌+◌, ◌<◌, List, [], ◌∷◌, ◌++◌, map, length, Bool, true, false, ◌&&◌, ◌||◌, inl, inr, Option, Some, None, refl, sym, ap, ap₂, subst, ◌∙◌, arith, eqb-true, ltb-true}
use Rattle.std.specs.Prelude.{slice_get, is_some, not, if◌then◌else◌}
use Rattle.std.specs.List.{list_all, list_any}
use Rattle.std.specs.Option.{option_map_or}
use Rattle.std.proofs.lemmas.Bool.{false≢true, and_parts, or_cases}
use Rattle.std.proofs.lemmas.Option.{same_Some}
use Rattle.c_arith.specs.declared.operators.BinaryOp.{BinaryOp}
use Rattle.c_tree.specs.declared.types.CType.{CType}
use Rattle.c_tree.specs.declared.expr.Expr.{Expr, map-Expr, ind-Expr, roll-Expr, fold-roll-Expr}
use Rattle.c_tree.specs.declared.expr.Expr.TheOpen.{Expr-F}
use Rattle.c_tree.specs.declared.program.Function.{Function}
use Rattle.c_tree.specs.declared.program.Init.{Init}
use Rattle.c_tree.specs.declared.program.Init.TheVariants as init
use Rattle.c_tree.specs.declared.program.Program.{Program}
use Rattle.c_tree.specs.declared.program.Var.{Var}
use Rattle.c_tree.specs.declared.statement.Amount.{Amount}
use Rattle.c_tree.specs.declared.statement.Amount.TheVariants as amount
use Rattle.c_tree.specs.declared.statement.Target.{Target}
use Rattle.c_tree.specs.declared.statement.Target.TheVariants as target
use Rattle.c_language.specs.Code.{Act, Begins, Sets, Bumps, Fetches, Writes, Prints, Allocates, Frees, Returns, Tests}
use Rattle.c_language.specs.Lists.{same_all}
use Rattle.c_language.specs.Mains.{is_main_of}
use Rattle.c_language.specs.TreeTypes.{shape_of}
use Rattle.c_language.specs.declared.expr_type.Base.{Base}
use Rattle.c_language.specs.declared.expr_type.ExprType.{ExprType}
use Rattle.c_language.specs.declared.expr_type.Layer.{Layer}
use Rattle.c_language.specs.declared.expr_type.Layer.TheVariants.{Pointer, Array}
use Rattle.dep_model.specs.NamesBelow.{names_below, names_step}
use Rattle.dep_model.specs.declared.location.Location.{Location}
use Rattle.dep_model.specs.declared.location.Part.{Part}
use Rattle.dep_model.specs.declared.location.Part.TheVariants as part
use Rattle.dep_model.specs.declared.location.Root.{Root}
use Rattle.dep_model.specs.declared.location.Root.TheVariants.{Input, Variable, Site, Result}
use Rattle.dep_model.specs.declared.vertex.Slot.{Slot}
use Rattle.dep_model.specs.declared.vertex.Slot.TheVariants as slot
use Rattle.dep_model.specs.declared.vertex.Vertex.{Vertex}
use Rattle.dep_model.specs.declared.vertex.VertexKind.{VertexKind}
use Rattle.dep_model.specs.declared.vertex.VertexKind.TheVariants as kind
use Rattle.dep_model.specs.Denoted.{Places, TargetsOf, Denoted, variable, whole, is_location, part_of, targets, value_reads, object_points, value_points, denoted_as, denoted_step, denoted, expr_reads, expr_places, left_reads}
use Rattle.dep_model.specs.Designated.{Designated, designated_step, is_array_place}
use Rattle.dep_model.specs.Doings.{Doing, Does, Calls, body_doings, functions_doings, doings_of, program_doings}
use Rattle.dep_model.specs.DoingEffects.{the_input, result_of, any_reads, maybe_reads, target_reads, amount_reads, init_reads, compound_reads, act_uses}
use Rattle.dep_model.specs.ListedLocations.{IsListed, AreListed}
use Rattle.dep_model.specs.Locations.{Located, TypedLocation, locations, placed, parts_with, rooted, variable_locations, site_locations, function_heaps, result_parts, result_locations, same_root, same_part, same_location}
use Rattle.dep_model.specs.MayPoint.{parameters}
use Rattle.dep_model.specs.ModRef.{FunctionEffects}
use Rattle.dep_model.specs.DoingNames.{value_below, init_below, target_below, amount_below, act_below, doing_below}
use Rattle.dep_model.specs.SystemGraph.{Analysis, vertices_of}
use Rattle.dep_model.specs.VertexOrder.{slots_from, arguments_from, in_function, has_result, slots_of, result_slots, touched, formal_ins, formal_outs, target_slots, doing_vertices, all_vertices, function_kinds, vertices_from, has_number, doing_at, of_location, actual_uses, out_uses, statement_uses, kind_uses}
use Rattle.dep_model.proofs.Membership.{IsIn, contains_of_in, in_either, if_in, of_map}

-- ---- locations that are found the same are one

parts_are : (a b : Part) → same_part a b ≡ true → a ≡ b
parts_are (part.Member i) (part.Member j) h = ap part.Member (eqb-true i j h)
parts_are (part.Member i) part.Element h = absurd (false≢true h)
parts_are part.Element (part.Member j) h = absurd (false≢true h)
parts_are part.Element part.Element h = refl

paths_are : (xs ys : List Part) → same_all same_part xs ys ≡ true → xs ≡ ys
paths_are [] [] h = refl
paths_are [] (y ∷ ys) h = absurd (false≢true h)
paths_are (x ∷ xs) [] h = absurd (false≢true h)
paths_are (x ∷ xs) (y ∷ ys) h =
    let k = and_parts (same_part x y) (same_all same_part xs ys) h in
    ap₂ (λ (a : Part) (b : List Part). a ∷ b) (parts_are x y k.0) (paths_are xs ys k.1)

roots_are : (a b : Root) → same_root a b ≡ true → a ≡ b
roots_are Input Input h = refl
roots_are (Variable x) (Variable y) h = ap Variable (eqb-true x y h)
roots_are (Site i) (Site j) h = ap Site (eqb-true i j h)
roots_are (Result f) (Result g) h = ap Result (eqb-true f g h)
roots_are Input (Variable y) h = absurd (false≢true h)
roots_are Input (Site j) h = absurd (false≢true h)
roots_are Input (Result g) h = absurd (false≢true h)
roots_are (Variable x) Input h = absurd (false≢true h)
roots_are (Variable x) (Site j) h = absurd (false≢true h)
roots_are (Variable x) (Result g) h = absurd (false≢true h)
roots_are (Site i) Input h = absurd (false≢true h)
roots_are (Site i) (Variable y) h = absurd (false≢true h)
roots_are (Site i) (Result g) h = absurd (false≢true h)
roots_are (Result f) Input h = absurd (false≢true h)
roots_are (Result f) (Variable y) h = absurd (false≢true h)
roots_are (Result f) (Site j) h = absurd (false≢true h)

pub locations_are : (l m : Location) → same_location l m ≡ true → l ≡ m
locations_are l m h =
    let k = and_parts (same_root l.root m.root) (same_all same_part l.path m.path) h in
    ap₂ (λ (r : Root) (path : List Part). record { root = r; path = path }) (roots_are l.root m.root k.0) (paths_are l.path m.path k.1)

abbrev alone : TypedLocation → Location
alone o = o.location

module _ (p : Program) where
  -- ---- what is listed

  abbrev Has : List TypedLocation → Location → Type 0
  Has os l = IsIn (map alone os) l

  abbrev AreHere : List TypedLocation → Location → Type 0
  AreHere os l = list_any (λ (o : TypedLocation). same_location o.location l) os ≡ true

  found_has : (os : List TypedLocation) (l : Location) → AreHere os l → Has os l
  found_has [] l h = absurd (false≢true h)
  found_has (o ∷ os) l h = elim (or_cases (same_location o.location l) (list_any (λ (q : TypedLocation). same_location q.location l) os) h) [
    | inl t ↦ inl (locations_are o.location l t)
    | inr t ↦ inr (found_has os l t)
  ]

  pub location_listed : (l : Location) → is_location p l ≡ true → IsListed p l
  location_listed l h = contains_of_in (map alone (locations p)) l (found_has (locations p) l h)

  pub has_first : (os qs : List TypedLocation) (l : Location) → Has os l → Has (os ++ qs) l
  has_first [] qs l h = absurd h
  has_first (o ∷ os) qs l (inl e) = inl e
  has_first (o ∷ os) qs l (inr h) = inr (has_first os qs l h)

  pub has_second : (os qs : List TypedLocation) (l : Location) → Has qs l → Has (os ++ qs) l
  has_second [] qs l h = h
  has_second (o ∷ os) qs l h = inr (has_second os qs l h)

  whole_first : (r : Root) (inside : ℕ → List Located) (ls : List Layer) (b : Base) → Has (map (placed r) (parts_with inside ls b)) (record { root = r; path = [] })
  whole_first r inside [] b = inl refl
  whole_first r inside (Pointer ∷ ls) b = inl refl
  whole_first r inside (Array n ∷ ls) b = inl refl

  pub rooted_has : (r : Root) (t : ExprType) → Has (rooted p r t) (record { root = r; path = [] })
  rooted_has r t = whole_first r _ t.layers t.base

  variables_have : (k : ℕ) (vs : List Var) (i : ℕ) → i < length vs → Has (variable_locations p k vs) (variable (k + i))
  variables_have k [] i lt = absurd (omega (arith, lt))
  variables_have k (v ∷ vs) zero lt =
      let e : k ≡ k + 0 = omega arith in
      has_first (rooted p (Variable k) (shape_of v.shape)) (variable_locations p (suc k) vs) (variable (k + 0)) (subst (λ n. Has (rooted p (Variable k) (shape_of v.shape)) (variable n)) e (rooted_has (Variable k) (shape_of v.shape)))
  variables_have k (v ∷ vs) (suc i) lt =
      let e : suc k + i ≡ k + suc i = omega arith in
      has_second (rooted p (Variable k) (shape_of v.shape)) (variable_locations p (suc k) vs) (variable (k + suc i)) (subst (λ n. Has (variable_locations p (suc k) vs) (variable n)) e (variables_have (suc k) vs i (omega (arith, lt))))

  abbrev behind_variables : List TypedLocation
  behind_variables = site_locations p (function_heaps p p.functions) ++ result_locations p 0 p.functions

  pub variable_listed : (x : ℕ) → x < length p.vars → IsListed p (variable x)
  variable_listed x lt =
      let e : 0 + x ≡ x = omega arith in
      let here : Has (variable_locations p 0 p.vars) (variable x) = subst (λ n. Has (variable_locations p 0 p.vars) (variable n)) e (variables_have 0 p.vars x lt) in
      contains_of_in (map alone (locations p)) (variable x) (inr (has_first (variable_locations p 0 p.vars) behind_variables (variable x) here))

  pub whole_listed : (x : ℕ) → x < length p.vars → (l : Location) → whole x l ≡ true → IsListed p l
  whole_listed x lt l h = subst (IsListed p) (locations_are (variable x) l h) (variable_listed x lt)

  pub input_listed : (l : Location) → same_location the_input l ≡ true → IsListed p l
  input_listed l h = contains_of_in (map alone (locations p)) l (inl (locations_are the_input l h))

  result_has : (k : ℕ) (t : Option CType) → is_some t ≡ true → Has (result_parts p k t) (result_of k)
  result_has k None h = absurd (false≢true h)
  result_has k (Some t) h = rooted_has (Result k) (shape_of t)

  results_have : (k : ℕ) (fs : List Function) (i : ℕ) → option_map_or (λ (g : Function). is_some g.result) (slice_get fs i) false ≡ true → Has (result_locations p k fs) (result_of (k + i))
  results_have k [] i h = absurd (false≢true h)
  results_have k (f ∷ fs) zero h =
      let e : k ≡ k + 0 = omega arith in
      has_first (result_parts p k f.result) (result_locations p (suc k) fs) (result_of (k + 0)) (subst (λ n. Has (result_parts p k f.result) (result_of n)) e (result_has k f.result h))
  results_have k (f ∷ fs) (suc i) h =
      let e : suc k + i ≡ k + suc i = omega arith in
      has_second (result_parts p k f.result) (result_locations p (suc k) fs) (result_of (k + suc i)) (subst (λ n. Has (result_locations p (suc k) fs) (result_of n)) e (results_have (suc k) fs i h))

  pub result_listed : (f : ℕ) → has_result p f ≡ true → (l : Location) → same_location (result_of f) l ≡ true → IsListed p l
  result_listed f h l is =
      let e : 0 + f ≡ f = omega arith in
      let here : Has (result_locations p 0 p.functions) (result_of f) = subst (λ n. Has (result_locations p 0 p.functions) (result_of n)) e (results_have 0 p.functions f h) in
      let late = has_second (site_locations p (function_heaps p p.functions)) (result_locations p 0 p.functions) (result_of f) here in
      subst (IsListed p) (locations_are (result_of f) l is) (contains_of_in (map alone (locations p)) (result_of f) (inr (has_second (variable_locations p 0 p.vars) behind_variables (result_of f) late)))

  at_has : (os : List TypedLocation) (k : ℕ) (o : TypedLocation) → slice_get os k ≡ Some o → Has os o.location
  at_has [] k o is = cc
  at_has (q ∷ os) zero o is = inl (ap alone (same_Some _ _ is))
  at_has (q ∷ os) (suc k) o is = inr (at_has os k o is)

  -- ---- what expressions name and read

  module _ (points : TargetsOf) where
    abbrev Lists : Places → Type 0
    Lists places = (l : Location) → places l ≡ true → IsListed p l

    -- all that an expression denotes is listed
    pub record Fine (d : Denoted) : Type 0 where
      pub places : Lists d.places
      pub pointed : Lists d.points
      pub reads : Lists d.reads

    place_listed : (k : ℕ) → Lists (of_location p points (slice_get (locations p) k))
    place_listed k l h = by_place (slice_get (locations p) k) refl h
      where
        by_place : (o : Option TypedLocation) → slice_get (locations p) k ≡ o → of_location p points o l ≡ true → IsListed p l
        by_place None is h = absurd (false≢true h)
        by_place (Some o) is h = subst (IsListed p) (locations_are o.location l h) (contains_of_in (map alone (locations p)) o.location (at_has (locations p) k o is))

    either_lists : (a b : Places) → Lists a → Lists b → (l : Location) → (a l || b l) ≡ true → IsListed p l
    either_lists a b h k l is = elim (or_cases (a l) (b l) is) [ inl t ↦ h l t | inr t ↦ k l t ]

    none_lists : (l : Location) → false ≡ true → IsListed p l
    none_lists l h = absurd (false≢true h)

    and_listed : (b c : Bool) (l : Location) → (c ≡ true → IsListed p l) → (b && c) ≡ true → IsListed p l
    and_listed b c l h is = h (and_parts b c is).1

    pub part_lists : (h : Part) (places : Places) → Lists (part_of p h places)
    part_lists h places l is = location_listed l (and_parts (is_location p l) _ is).0

    object_lists : (d : Denoted) → Lists (object_points p points d)
    object_lists d l is = location_listed l (and_parts (is_location p l) _ (and_parts _ (targets p points d.places l) is).1).0

    reads_list : (d : Denoted) → Fine d → Lists (value_reads p points d)
    reads_list d fine l is = elim (or_cases (d.reads l) _ is) [
      | inl t ↦ fine.reads l t
      | inr t ↦ fine.places l (and_parts _ (d.places l) t).1
    ]

    if_listed : (b x y : Bool) (l : Location) → (x ≡ true → IsListed p l) → (y ≡ true → IsListed p l) → (if b then x else y) ≡ true → IsListed p l
    if_listed true x y l h k is = h is
    if_listed false x y l h k is = k is

    pub points_list : (d : Denoted) → Fine d → Lists (value_points p points d)
    points_list d fine l is =
        if_listed (is_array_place d.form) (part_of p part.Element d.places l) _ l (part_lists part.Element d.places l) (if_listed d.form.is_place (object_points p points d l) (d.points l) l (object_lists d l) (fine.pointed l)) is

    two_reads : (d e : Denoted) → Fine d → Fine e → (l : Location) → (value_reads p points d l || value_reads p points e l) ≡ true → IsListed p l
    two_reads d e fine other = either_lists (value_reads p points d) (value_reads p points e) (reads_list d fine) (reads_list e other)

    two_points : (b : Bool) (d e : Denoted) → Fine d → Fine e → (l : Location) → (b && (value_points p points d l || value_points p points e l)) ≡ true → IsListed p l
    two_points b d e fine other l is =
        either_lists (value_points p points d) (value_points p points e) (points_list d fine) (points_list e other) l (and_parts b _ is).1

    element_fine : (b : Bool) (x y : Denoted) → Fine x → Fine y → Fine (if b then x else y)
    element_fine true x y h k = h
    element_fine false x y h k = k

    abbrev IsFineWhere : Expr → Type 0
    IsFineWhere a = names_below (length p.vars) a ≡ true → Fine (denoted p points a)

    abbrev Known : Type 0
    Known = (a : Expr) × IsFineWhere a

    abbrev layer : Expr-F Known → Expr-F Expr
    layer = map-Expr Known Expr (λ a. a.0)

    abbrev den : Known → Denoted
    den k = denoted p points k.0

    layer_fine : (f : Designated) (y : Expr-F Known) → names_step (length p.vars) (map-Expr Expr Bool (names_below (length p.vars)) (layer y)) ≡ true → Fine (denoted_as p points f (map-Expr Expr Denoted (denoted p points) (layer y)))
    layer_fine f (Expr-F.Constant t k v) h = record { places = none_lists; pointed = none_lists; reads = none_lists }
    layer_fine f Expr-F.Null h = record { places = none_lists; pointed = none_lists; reads = none_lists }
    layer_fine f Expr-F.Eof h = record { places = none_lists; pointed = none_lists; reads = none_lists }
    layer_fine f (Expr-F.Variable x) h = record { places = whole_listed x (ltb-true x (length p.vars) h); pointed = none_lists; reads = none_lists }
    layer_fine f (Expr-F.Unary op a) h = record { places = none_lists; pointed = none_lists; reads = reads_list (den a) (a.1 h) }
    layer_fine f (Expr-F.Deref a) h = record { places = points_list (den a) (a.1 h); pointed = none_lists; reads = reads_list (den a) (a.1 h) }
    layer_fine f (Expr-F.AddressOf a) h = record { places = none_lists; pointed = (a.1 h).places; reads = (a.1 h).reads }
    layer_fine f (Expr-F.Binary op a b) h =
        let k = and_parts (names_below (length p.vars) a.0) (names_below (length p.vars) b.0) h in
        record { places = none_lists; pointed = two_points _ (den a) (den b) (a.1 k.0) (b.1 k.1); reads = two_reads (den a) (den b) (a.1 k.0) (b.1 k.1) }
    layer_fine f (Expr-F.AndAlso a b) h =
        let k = and_parts (names_below (length p.vars) a.0) (names_below (length p.vars) b.0) h in
        record { places = none_lists; pointed = none_lists; reads = two_reads (den a) (den b) (a.1 k.0) (b.1 k.1) }
    layer_fine f (Expr-F.OrElse a b) h =
        let k = and_parts (names_below (length p.vars) a.0) (names_below (length p.vars) b.0) h in
        record { places = none_lists; pointed = none_lists; reads = two_reads (den a) (den b) (a.1 k.0) (b.1 k.1) }
    layer_fine f (Expr-F.Choose c a b) h =
        let j = and_parts (names_below (length p.vars) c.0) (names_below (length p.vars) a.0 && names_below (length p.vars) b.0) h in
        let k = and_parts (names_below (length p.vars) a.0) (names_below (length p.vars) b.0) j.1 in
        record {
          places = none_lists;
          pointed = two_points _ (den a) (den b) (a.1 k.0) (b.1 k.1);
          reads = either_lists (value_reads p points (den c)) (λ l. value_reads p points (den a) l || value_reads p points (den b) l) (reads_list (den c) (c.1 j.0)) (two_reads (den a) (den b) (a.1 k.0) (b.1 k.1));
        }
    layer_fine f (Expr-F.Cast t a) h = record { places = none_lists; pointed = none_lists; reads = reads_list (den a) (a.1 h) }
    layer_fine f (Expr-F.Index a i) h =
        let k = and_parts (names_below (length p.vars) a.0) (names_below (length p.vars) i.0) h in
        element_fine (is_array_place (den a).form) _ _
        (record { places = part_lists part.Element (den a).places; pointed = none_lists; reads = either_lists (den a).reads (value_reads p points (den i)) (a.1 k.0).reads (reads_list (den i) (i.1 k.1)) })
        (record { places = points_list (den a) (a.1 k.0); pointed = none_lists; reads = two_reads (den a) (den i) (a.1 k.0) (i.1 k.1) })
    layer_fine f (Expr-F.Member a m) h = record { places = part_lists (part.Member m.index) (den a).places; pointed = none_lists; reads = (a.1 h).reads }
    layer_fine f (Expr-F.Arrow a m) h = record { places = part_lists (part.Member m.index) (value_points p points (den a)); pointed = none_lists; reads = reads_list (den a) (a.1 h) }
    layer_fine f (Expr-F.Paren a) h = record { places = (a.1 h).places; pointed = (a.1 h).pointed; reads = (a.1 h).reads }

    rolled_fine : (y : Expr-F Expr)
        → (names_step (length p.vars) (map-Expr Expr Bool (names_below (length p.vars)) y) ≡ true → Fine (denoted_step p points (map-Expr Expr Denoted (denoted p points) y)))
        → IsFineWhere (roll-Expr y)
    rolled_fine y h is =
        subst Fine (sym (fold-roll-Expr Denoted (denoted_step p points) y)) (h (sym (fold-roll-Expr Bool (names_step (length p.vars)) y) ∙ is))

    pub expr_fine : (a : Expr) → IsFineWhere a
    expr_fine =
        ind-Expr IsFineWhere (λ x y is. subst (λ z. IsFineWhere (roll-Expr z)) is (rolled_fine (layer y) (layer_fine (designated_step p (map-Expr Denoted Designated (λ (d : Denoted). d.form) (map-Expr Expr Denoted (denoted p points) (layer y)))) y)))

    -- ---- what statements use

    abbrev n : ℕ
    n = length p.vars

    value_used : (e : Expr) → names_below n e ≡ true → Lists (expr_reads p points e)
    value_used e h = reads_list (denoted p points e) (expr_fine e h)

    left_used : (e : Expr) → names_below n e ≡ true → Lists (left_reads p points e)
    left_used e h = (expr_fine e h).reads

    pub all_used : (es : List Expr) → list_all (names_below n) es ≡ true → Lists (any_reads p points es)
    all_used [] h l is = absurd (false≢true is)
    all_used (e ∷ es) h l is =
        let k = and_parts (names_below n e) (list_all (names_below n) es) h in
        elim (or_cases (expr_reads p points e l) (any_reads p points es l) is) [ inl t ↦ value_used e k.0 l t | inr t ↦ all_used es k.1 l t ]

    maybe_used : (e : Option Expr) → value_below n e ≡ true → Lists (maybe_reads p points e)
    maybe_used None h l is = absurd (false≢true is)
    maybe_used (Some e) h l is = value_used e h l is

    pub target_used : (to : Target) → target_below n to ≡ true → Lists (target_reads p points to)
    target_used target.None h l is = absurd (false≢true is)
    target_used (target.Place e) h l is = left_used e h l is
    target_used (target.Declared x) h l is = absurd (false≢true is)

    amount_used : (k : Amount) → amount_below n k ≡ true → Lists (amount_reads p points k)
    amount_used (amount.Size t) h l is = absurd (false≢true is)
    amount_used (amount.CountSize e t) h l is = value_used e (and_parts (names_below n e) _ h).0 l is
    amount_used (amount.SizeCount t e) h l is = value_used e (and_parts _ (names_below n e) h).1 l is
    amount_used (amount.Count e) h l is = value_used e h l is

    init_used : (i : Init) → init_below n i ≡ true → Lists (init_reads p points i)
    init_used init.None h l is = absurd (false≢true is)
    init_used (init.One e) h l is = value_used e h l is
    init_used (init.Items es) h l is = all_used es h l is

    compound_used : (op : Option BinaryOp) (e : Expr) → names_below n e ≡ true → Lists (compound_reads p points op e)
    compound_used None e h l is = absurd (false≢true is)
    compound_used (Some op) e h l is = (expr_fine e h).places l is

    pub act_used : (a : Act) → act_below n a ≡ true → Lists (act_uses p points a)
    act_used (Begins x i) h l is = init_used i (and_parts _ (init_below n i) h).1 l is
    act_used (Sets left op right) h l is =
        let k = and_parts (names_below n left) (names_below n right) h in
        elim (or_cases (left_reads p points left l) _ is) [
          | inl t ↦ left_used left k.0 l t
          | inr t ↦ elim (or_cases (compound_reads p points op left l) (expr_reads p points right l) t) [ inl u ↦ compound_used op left k.0 l u | inr u ↦ value_used right k.1 l u ]
        ]
    act_used (Bumps left up) h l is = elim (or_cases (left_reads p points left l) (expr_places p points left l) is) [ inl t ↦ left_used left h l t | inr t ↦ (expr_fine left h).places l t ]
    act_used (Fetches to) h l is = elim (or_cases (same_location the_input l) (target_reads p points to l) is) [ inl t ↦ input_listed l t | inr t ↦ target_used to h l t ]
    act_used (Writes e) h l is = value_used e h l is
    act_used (Prints format args) h l is = all_used args h l is
    act_used (Allocates to k) h l is =
        let b = and_parts (target_below n to) (amount_below n k) h in
        elim (or_cases (target_reads p points to l) (amount_reads p points k l) is) [ inl t ↦ target_used to b.0 l t | inr t ↦ amount_used k b.1 l t ]
    act_used (Frees e) h l is = value_used e h l is
    act_used (Returns e) h l is = maybe_used e h l is
    act_used (Tests e) h l is = value_used e h l is

    -- ---- what vertices use

    module _ (below : list_all (doing_below n) (program_doings p) ≡ true) where
      split_first : (ds es : List Doing) → list_all (doing_below n) (ds ++ es) ≡ true → (list_all (doing_below n) ds ≡ true) × (list_all (doing_below n) es ≡ true)
      split_first [] es h = (refl, h)
      split_first (d ∷ ds) es h =
          let k = and_parts (doing_below n d) (list_all (doing_below n) (ds ++ es)) h in
          let r = split_first ds es k.1 in
          (ap₂ (λ (x y : Bool). x && y) k.0 r.0, r.1)

      pub of_function : (fs : List Function) (f : ℕ) → list_all (doing_below n) (functions_doings fs) ≡ true → list_all (doing_below n) (option_map_or (λ (g : Function). body_doings g.body) (slice_get fs f) []) ≡ true
      of_function [] f h = refl
      of_function (g ∷ fs) zero h = (split_first (body_doings g.body) (functions_doings fs) h).0
      of_function (g ∷ fs) (suc f) h = of_function fs f (split_first (body_doings g.body) (functions_doings fs) h).1

      found_below : (i : ℕ) (ds : List Doing) (d : Doing) → list_all (doing_below n) ds ≡ true → find (has_number i) ds ≡ Some d → doing_below n d ≡ true
      found_below i [] d h is = cc
      found_below i (x ∷ ds) d h is = by_test (has_number i x) refl (and_parts (doing_below n x) (list_all (doing_below n) ds) h) (found_below i ds d)
        where
          by_test : (b : Bool) → has_number i x ≡ b → (doing_below n x ≡ true) × (list_all (doing_below n) ds ≡ true) → (list_all (doing_below n) ds ≡ true → find (has_number i) ds ≡ Some d → doing_below n d ≡ true) → doing_below n d ≡ true
          by_test true t k later = subst (λ y. doing_below n y ≡ true) (same_Some _ _ (sym (ap (λ b. cond b (Some x) (find (has_number i) ds)) t) ∙ is)) k.0
          by_test false t k later = later k.1 (sym (ap (λ b. cond b (Some x) (find (has_number i) ds)) t) ∙ is)

      abbrev IsBelowIf : Option Doing → Type 0
      IsBelowIf None = Unit {0}
      IsBelowIf (Some d) = doing_below n d ≡ true

      at_below : (f i : ℕ) → IsBelowIf (doing_at p f i)
      at_below f i = by_found (doing_at p f i) refl
        where
          by_found : (o : Option Doing) → doing_at p f i ≡ o → IsBelowIf o
          by_found None is = tt
          by_found (Some d) is = found_below i (doings_of p f) d (of_function p.functions f below) is

      argument_used : (args : List Expr) (k : ℕ) → list_all (names_below n) args ≡ true → Lists (maybe_reads p points (slice_get args k))
      argument_used [] k h l is = absurd (false≢true is)
      argument_used (e ∷ args) zero h l is = value_used e (and_parts (names_below n e) (list_all (names_below n) args) h).0 l is
      argument_used (e ∷ args) (suc k) h l is = argument_used args k (and_parts (names_below n e) (list_all (names_below n) args) h).1 l is

      statement_used : (d : Option Doing) → IsBelowIf d → Lists (statement_uses p points d)
      statement_used None h l is = absurd (false≢true is)
      statement_used (Some (Does i a)) h l is = act_used a h l is
      statement_used (Some (Calls i to g args)) h l is = absurd (false≢true is)

      actual_used : (f : ℕ) (d : Option Doing) (s : Slot) → IsBelowIf d → Lists (actual_uses p points f d s)
      actual_used f (Some (Calls i to g args)) (slot.Argument k) h l is = argument_used args k (and_parts (target_below n to) (list_all (names_below n) args) h).1 l is
      actual_used f (Some (Calls i to g args)) slot.Result h l is = absurd (false≢true is)
      actual_used f (Some (Calls i to g args)) (slot.At k) h l is = place_listed k l is
      actual_used f (Some (Does i a)) (slot.Argument k) h l is = absurd (false≢true is)
      actual_used f (Some (Does i a)) slot.Result h l is = absurd (false≢true is)
      actual_used f (Some (Does i a)) (slot.At k) h l is = place_listed k l is
      actual_used f None (slot.Argument k) h l is = absurd (false≢true is)
      actual_used f None slot.Result h l is = absurd (false≢true is)
      actual_used f None (slot.At k) h l is = place_listed k l is

      out_used : (d : Option Doing) (s : Slot) → IsBelowIf d → Lists (out_uses p points d s)
      out_used (Some (Calls i to g args)) (slot.Argument k) h l is = absurd (false≢true is)
      out_used (Some (Calls i to g args)) slot.Result h l is = target_used to (and_parts (target_below n to) (list_all (names_below n) args) h).0 l is
      out_used (Some (Calls i to g args)) (slot.At k) h l is = absurd (false≢true is)
      out_used (Some (Does i a)) s h l is = absurd (false≢true is)
      out_used None s h l is = absurd (false≢true is)

      -- ---- which vertices there are

      module _ (effects : FunctionEffects) where
        -- what goes out of a function goes out of one of the listed locations, or is its result where it has one
        abbrev GoesOut : ℕ → Slot → Type 0
        GoesOut f (slot.Argument k) = ⊥
        GoesOut f slot.Result = has_result p f ≡ true
        GoesOut f (slot.At k) = Unit {0}

        abbrev IsFineKind : ℕ → VertexKind → Type 0
        IsFineKind f (kind.FormalOut s) = GoesOut f s
        IsFineKind f _ = Unit {0}

        abbrev AllFine : ℕ → List VertexKind → Type 0
        AllFine f ks = (k : VertexKind) → IsIn ks k → IsFineKind f k

        both_fine : (f : ℕ) (ks js : List VertexKind) → AllFine f ks → AllFine f js → AllFine f (ks ++ js)
        both_fine f ks js a b k c = elim (in_either ks js k c) [ inl t ↦ a k t | inr t ↦ b k t ]

        mapped_fine : (f : ℕ) (make : Slot → VertexKind) (ss : List Slot) → ((s : Slot) → IsIn ss s → IsFineKind f (make s)) → AllFine f (map make ss)
        mapped_fine f make ss h k c = let m = of_map make ss k c in subst (IsFineKind f) m.2 (h m.0 m.1)

        one_fine : (f : ℕ) (j : VertexKind) → IsFineKind f j → AllFine f (j ∷ [])
        one_fine f j h k (inl e) = subst (IsFineKind f) e h
        one_fine f j h k (inr c) = absurd c

        slots_out : (f : ℕ) (test : Places) (k : ℕ) (os : List TypedLocation) (s : Slot) → IsIn (slots_from test k os) s → GoesOut f s
        slots_out f test k [] s c = absurd c
        slots_out f test k (o ∷ os) s c = by_test (test o.location) c (slots_out f test (suc k) os s)
          where
            by_test : (b : Bool) → IsIn (if b then slot.At k ∷ slots_from test (suc k) os else slots_from test (suc k) os) s → (IsIn (slots_from test (suc k) os) s → GoesOut f s) → GoesOut f s
            by_test true (inl e) later = subst (GoesOut f) e tt
            by_test true (inr d) later = later d
            by_test false d later = later d

        result_out : (f : ℕ) (s : Slot) → IsIn (result_slots p effects f) s → GoesOut f s
        result_out f s c = let w = if_in (has_result p f && not (is_main_of p f)) (slot.Result ∷ []) s c in by_one w.1 (and_parts (has_result p f) _ w.0).0
          where
            by_one : IsIn (slot.Result ∷ []) s → has_result p f ≡ true → GoesOut f s
            by_one (inl e) h = subst (GoesOut f) e h
            by_one (inr d) h = absurd d

        outs_fine : (f : ℕ) → AllFine f (formal_outs p effects f)
        outs_fine f = mapped_fine f kind.FormalOut (slots_of p effects (effects.modified f) ++ result_slots p effects f) (λ s c. elim (in_either (slots_of p effects (effects.modified f)) (result_slots p effects f) s c) [
          | inl t ↦ slots_out f (effects.modified f) 0 (locations p) s t
          | inr t ↦ result_out f s t
        ])

        doing_fine : (f : ℕ) (d : Doing) → AllFine f (doing_vertices p effects d)
        doing_fine f (Does i a) = one_fine f (kind.Statement i) tt
        doing_fine f (Calls i to g args) =
            let ins = arguments_from 0 args ++ slots_of p effects (touched p effects g) in
            let outs = slots_of p effects (effects.modified g) ++ target_slots p effects to in
            both_fine f (kind.Call i ∷ []) (map (kind.ActualIn i) ins ++ map (kind.ActualOut i) outs) (one_fine f (kind.Call i) tt)
            (both_fine f (map (kind.ActualIn i) ins) (map (kind.ActualOut i) outs) (mapped_fine f (kind.ActualIn i) ins (λ s c. tt)) (mapped_fine f (kind.ActualOut i) outs (λ s c. tt)))

        all_fine : (f : ℕ) (ds : List Doing) → AllFine f (all_vertices p effects ds)
        all_fine f [] k c = absurd c
        all_fine f (d ∷ ds) k c = both_fine f (doing_vertices p effects d) (all_vertices p effects ds) (doing_fine f d) (all_fine f ds) k c

        kinds_fine : (f : ℕ) → AllFine f (function_kinds p effects f)
        kinds_fine f =
            let ins = arguments_from 0 (parameters p f) ++ slots_of p effects (touched p effects f) in
            let inner = all_vertices p effects (doings_of p f) in
            both_fine f (kind.Entry ∷ []) (formal_ins p effects f ++ (inner ++ formal_outs p effects f)) (one_fine f kind.Entry tt)
            (both_fine f (formal_ins p effects f) (inner ++ formal_outs p effects f) (mapped_fine f kind.FormalIn ins (λ s c. tt)) (both_fine f inner (formal_outs p effects f) (all_fine f (doings_of p f)) (outs_fine f)))

        vertices_fine : (f : ℕ) (gs : List Function) (v : Vertex) → IsIn (vertices_from p effects f gs) v → IsFineKind v.function v.kind
        vertices_fine f [] v c = absurd c
        vertices_fine f (g ∷ gs) v c = elim (in_either (map (in_function f) (function_kinds p effects f)) (vertices_from p effects (suc f) gs) v c) [
          | inl t ↦ let m = of_map (in_function f) (function_kinds p effects f) v t in subst (λ (w : Vertex). IsFineKind w.function w.kind) m.2 (kinds_fine f m.0 m.1)
          | inr t ↦ vertices_fine (suc f) gs v t
        ]

        kind_used : (f : ℕ) (k : VertexKind) → IsFineKind f k → Lists (kind_uses p points f k)
        kind_used f kind.Entry fine l is = absurd (false≢true is)
        kind_used f (kind.FormalIn s) fine l is = absurd (false≢true is)
        kind_used f (kind.FormalOut (slot.Argument k)) fine l is = absurd fine
        kind_used f (kind.FormalOut slot.Result) fine l is = result_listed f fine l is
        kind_used f (kind.FormalOut (slot.At k)) fine l is = place_listed k l is
        kind_used f (kind.Statement i) fine l is = statement_used (doing_at p f i) (at_below f i) l is
        kind_used f (kind.Call i) fine l is = absurd (false≢true is)
        kind_used f (kind.ActualIn i s) fine l is = actual_used f (doing_at p f i) s (at_below f i) l is
        kind_used f (kind.ActualOut i s) fine l is = out_used (doing_at p f i) s (at_below f i) l is

        used_at : (vs : List Vertex) (w : ℕ) (l : Location) → ((v : Vertex) → IsIn vs v → IsFineKind v.function v.kind)
            → option_map_or (λ (x : Vertex). kind_uses p points x.function x.kind l) (slice_get vs w) false ≡ true → IsListed p l
        used_at [] w l fine is = absurd (false≢true is)
        used_at (v ∷ vs) zero l fine is = kind_used v.function v.kind (fine v (inl refl)) l is
        used_at (v ∷ vs) (suc w) l fine is = used_at vs w l (λ x c. fine x (inr c)) is

-- what a vertex uses is listed, whatever the analysis
pub used_are_listed : (p : Program) → list_all (doing_below (length p.vars)) (program_doings p) ≡ true → (a : Analysis) → AreListed p a
used_are_listed p below a v w l defined used = used_at p a.points below a.effects (vertices_of p a) w l (vertices_fine p a.points below a.effects 0 p.functions) used
