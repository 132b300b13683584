-- By more pairs an expression has more places, and points to more.
use Rattle.std.proofs.Common.{◌≡◌, List, [], ◌∷◌, Bool, true, false, ◌&&◌, ◌||◌, inl, inr, refl, sym, ap, ap₂, ◌∙◌, subst}
use Rattle.std.specs.Prelude.{if◌then◌else◌}
use Rattle.std.specs.List.{list_any}
use Rattle.std.proofs.lemmas.Bool.{false≢true, and_parts, and_from, or_cases, or_left, or_right}
use Rattle.c_tree.specs.declared.expr.Expr.{Expr, map-Expr, ind-Expr, roll-Expr, fold-roll-Expr}
use Rattle.c_tree.specs.declared.expr.Expr.TheOpen.{Expr-F}
use Rattle.c_tree.specs.declared.program.Program.{Program}
use Rattle.c_language.specs.ExprTypes.{is_pointer}
use Rattle.dep_model.specs.declared.location.Location.{Location}
use Rattle.dep_model.specs.declared.location.Part.{Part}
use Rattle.dep_model.specs.declared.location.Part.TheVariants as part
use Rattle.dep_model.specs.Designated.{Designated, designated_step, is_array_place}
use Rattle.dep_model.specs.Denoted.{Places, TargetsOf, Denoted, inside, is_location, part_of, targets, value_points, denoted_as, denoted_step, denoted}
use Rattle.dep_model.specs.Locations.{TypedLocation, locations, same_location}
use Rattle.points_laws.specs.Relations.{AreAmong, LiesIn}
use Rattle.points_laws.specs.Laws.{IsMonotone}

-- ---- tests that follow from others

pub and_among : (a b c d : Bool) → (a ≡ true → c ≡ true) → (b ≡ true → d ≡ true) → (a && b) ≡ true → (c && d) ≡ true
and_among a b c d h k t = let w = and_parts a b t in and_from c d (h w.0) (k w.1)

pub or_among : (a b c d : Bool) → (a ≡ true → c ≡ true) → (b ≡ true → d ≡ true) → (a || b) ≡ true → (c || d) ≡ true
or_among a b c d h k t = elim (or_cases a b t) [ inl x ↦ or_left c d (h x) | inr y ↦ or_right c d (k y) ]

pub if_among : (b x y u v : Bool) → (x ≡ true → u ≡ true) → (y ≡ true → v ≡ true) → (if b then x else y) ≡ true → (if b then u else v) ≡ true
if_among true x y u v h k t = h t
if_among false x y u v h k t = k t

pub any_among : {A : Type 0} (t u : A → Bool) (xs : List A) → ((x : A) → t x ≡ true → u x ≡ true) → list_any t xs ≡ true → list_any u xs ≡ true
any_among t u [] h is = absurd (false≢true is)
any_among t u (x ∷ xs) h is = or_among (t x) (list_any t xs) (u x) (list_any u xs) (h x) (any_among t u xs h) is

module _ (p : Program) where
  pub parts_among : (h : Part) (a b : Places) → AreAmong a b → AreAmong (part_of p h a) (part_of p h b)
  parts_among h a b le l =
      and_among (is_location p l) (list_any (λ (o : TypedLocation). a o.location && same_location (inside o.location h) l) (locations p)) (is_location p l) (list_any (λ (o : TypedLocation). b o.location && same_location (inside o.location h) l) (locations p)) (λ t. t)
      (any_among (λ (o : TypedLocation). a o.location && same_location (inside o.location h) l) (λ (o : TypedLocation). b o.location && same_location (inside o.location h) l) (locations p) (λ o. and_among (a o.location) (same_location (inside o.location h) l) (b o.location) (same_location (inside o.location h) l) (le o.location) (λ t. t)))

  module _ (first second : TargetsOf) (lies : LiesIn first second) where
    pub targets_among : (a b : Places) → AreAmong a b → AreAmong (targets p first a) (targets p second b)
    targets_among a b le l =
        and_among (is_location p l) (list_any (λ (o : TypedLocation). a o.location && first o.location l) (locations p)) (is_location p l) (list_any (λ (o : TypedLocation). b o.location && second o.location l) (locations p)) (λ t. t)
        (any_among (λ (o : TypedLocation). a o.location && first o.location l) (λ (o : TypedLocation). b o.location && second o.location l) (locations p) (λ o. and_among (a o.location) (first o.location l) (b o.location) (second o.location l) (le o.location) (lies o.location l)))

    -- ---- what expressions denote

    -- the one denotes no more than the other, in the same form
    pub record Grows (d e : Denoted) : Type 0 where
      pub form : d.form ≡ e.form
      pub places : AreAmong d.places e.places
      pub pointed : AreAmong d.points e.points

    abbrev value_at : TargetsOf → Designated → Places → Places → Places
    value_at points f places pointed l =
        if is_array_place f then part_of p part.Element places l else (if f.is_place then (is_pointer f.type && targets p points places l) else pointed l)

    value_among : (f : Designated) (a b c d : Places) → AreAmong a b → AreAmong c d → AreAmong (value_at first f a c) (value_at second f b d)
    value_among f a b c d places pointed l =
        if_among (is_array_place f) _ _ _ _ (parts_among part.Element a b places l) (if_among f.is_place _ _ _ _ (and_among (is_pointer f.type) _ (is_pointer f.type) _ (λ t. t) (targets_among a b places l)) (pointed l))

    pub values_grow : (d e : Denoted) → Grows d e → AreAmong (value_points p first d) (value_points p second e)
    values_grow d e g l h =
        subst (λ f. value_at second f e.places e.points l ≡ true) g.form (value_among d.form d.places e.places d.points e.points g.places g.pointed l h)

    abbrev IsGrowing : Expr → Type 0
    IsGrowing a = Grows (denoted p first a) (denoted p second a)

    abbrev Known : Type 0
    Known = (a : Expr) × IsGrowing a

    abbrev layer : Expr-F Known → Expr-F Expr
    layer = map-Expr Known Expr (λ a. a.0)

    abbrev low : Known → Denoted
    low k = denoted p first k.0

    abbrev high : Known → Denoted
    high k = denoted p second k.0

    none_among : (l : Location) → false ≡ true → false ≡ true
    none_among l h = h

    values_among : (a : Known) → AreAmong (value_points p first (low a)) (value_points p second (high a))
    values_among a = values_grow (low a) (high a) a.1

    either_among : (b : Bool) (x y : Known) (l : Location) → (b && (value_points p first (low x) l || value_points p first (low y) l)) ≡ true → (b && (value_points p second (high x) l || value_points p second (high y) l)) ≡ true
    either_among b x y l = and_among b _ b _ (λ t. t) (or_among _ _ _ _ (values_among x l) (values_among y l))

    choice_grows : (b c : Bool) (x y u v : Denoted) → b ≡ c → Grows x u → Grows y v → Grows (if b then x else y) (if c then u else v)
    choice_grows true true x y u v is h k = h
    choice_grows true false x y u v is h k = absurd (false≢true (sym is))
    choice_grows false true x y u v is h k = absurd (false≢true is)
    choice_grows false false x y u v is h k = k

    layer_grows : (f : Designated) (y : Expr-F Known)
        → Grows (denoted_as p first f (map-Expr Expr Denoted (denoted p first) (layer y))) (denoted_as p second f (map-Expr Expr Denoted (denoted p second) (layer y)))
    layer_grows f (Expr-F.Constant t k v) = record { form = refl; places = none_among; pointed = none_among }
    layer_grows f Expr-F.Null = record { form = refl; places = none_among; pointed = none_among }
    layer_grows f Expr-F.Eof = record { form = refl; places = none_among; pointed = none_among }
    layer_grows f (Expr-F.Variable x) = record { form = refl; places = λ l h. h; pointed = none_among }
    layer_grows f (Expr-F.Unary op a) = record { form = refl; places = none_among; pointed = none_among }
    layer_grows f (Expr-F.Deref a) = record { form = refl; places = values_among a; pointed = none_among }
    layer_grows f (Expr-F.AddressOf a) = record { form = refl; places = none_among; pointed = a.1.places }
    layer_grows f (Expr-F.Binary op a b) = record { form = refl; places = none_among; pointed = either_among (is_pointer f.type) a b }
    layer_grows f (Expr-F.AndAlso a b) = record { form = refl; places = none_among; pointed = none_among }
    layer_grows f (Expr-F.OrElse a b) = record { form = refl; places = none_among; pointed = none_among }
    layer_grows f (Expr-F.Choose c a b) = record { form = refl; places = none_among; pointed = either_among (is_pointer f.type) a b }
    layer_grows f (Expr-F.Cast k a) = record { form = refl; places = none_among; pointed = none_among }
    layer_grows f (Expr-F.Index a i) =
        choice_grows (is_array_place (low a).form) (is_array_place (high a).form) _ _ _ _ (ap is_array_place a.1.form)
        (record { form = refl; places = parts_among part.Element (low a).places (high a).places a.1.places; pointed = none_among }) (record { form = refl; places = values_among a; pointed = none_among })
    layer_grows f (Expr-F.Member a m) = record { form = refl; places = parts_among (part.Member m.index) (low a).places (high a).places a.1.places; pointed = none_among }
    layer_grows f (Expr-F.Arrow a m) =
        record { form = refl; places = parts_among (part.Member m.index) (value_points p first (low a)) (value_points p second (high a)) (values_among a); pointed = none_among }
    layer_grows f (Expr-F.Paren a) = record { form = refl; places = a.1.places; pointed = a.1.pointed }

    -- the form is the same, since no pair decides it
    abbrev step : Expr-F Designated → Designated
    step = designated_step p

    abbrev step_form : TargetsOf → Expr-F Expr → Designated
    step_form points y = step (map-Expr Denoted Designated (λ (d : Denoted). d.form) (map-Expr Expr Denoted (denoted p points) y))

    same_form : (y : Expr-F Known) → step_form first (layer y) ≡ step_form second (layer y)
    same_form (Expr-F.Constant t k v) = refl
    same_form Expr-F.Null = refl
    same_form Expr-F.Eof = refl
    same_form (Expr-F.Variable x) = refl
    same_form (Expr-F.Unary op a) = ap (λ d. step (Expr-F.Unary op d)) a.1.form
    same_form (Expr-F.Deref a) = ap (λ d. step (Expr-F.Deref d)) a.1.form
    same_form (Expr-F.AddressOf a) = ap (λ d. step (Expr-F.AddressOf d)) a.1.form
    same_form (Expr-F.Binary op a b) = ap₂ (λ c d. step (Expr-F.Binary op c d)) a.1.form b.1.form
    same_form (Expr-F.AndAlso a b) = ap₂ (λ c d. step (Expr-F.AndAlso c d)) a.1.form b.1.form
    same_form (Expr-F.OrElse a b) = ap₂ (λ c d. step (Expr-F.OrElse c d)) a.1.form b.1.form
    same_form (Expr-F.Choose c a b) =
        ap (λ d. step (Expr-F.Choose d (low a).form (low b).form)) c.1.form ∙ ap₂ (λ d e. step (Expr-F.Choose (high c).form d e)) a.1.form b.1.form
    same_form (Expr-F.Cast k a) = ap (λ d. step (Expr-F.Cast k d)) a.1.form
    same_form (Expr-F.Index a i) = ap₂ (λ c d. step (Expr-F.Index c d)) a.1.form i.1.form
    same_form (Expr-F.Member a m) = ap (λ d. step (Expr-F.Member d m)) a.1.form
    same_form (Expr-F.Arrow a m) = ap (λ d. step (Expr-F.Arrow d m)) a.1.form
    same_form (Expr-F.Paren a) = ap (λ d. step (Expr-F.Paren d)) a.1.form

    rolled_grows : (y : Expr-F Known) → IsGrowing (roll-Expr (layer y))
    rolled_grows y =
        let here = layer_grows (step_form first (layer y)) y in
        let there = subst (λ f. Grows (denoted_step p first (map-Expr Expr Denoted (denoted p first) (layer y))) (denoted_as p second f (map-Expr Expr Denoted (denoted p second) (layer y)))) (same_form y) here in
        let left = subst (λ d. Grows d (denoted_step p second (map-Expr Expr Denoted (denoted p second) (layer y)))) (sym (fold-roll-Expr Denoted (denoted_step p first) (layer y))) there in
        subst (λ e. Grows (denoted p first (roll-Expr (layer y))) e) (sym (fold-roll-Expr Denoted (denoted_step p second) (layer y))) left

    pub denoted_grows : (a : Expr) → IsGrowing a
    denoted_grows = ind-Expr IsGrowing (λ x y is. subst (λ z. IsGrowing (roll-Expr z)) is (rolled_grows y))

    pub expression_monotone : (a : Expr) → IsMonotone p first second a
    expression_monotone a = record {
      places = (denoted_grows a).places;
      points = values_grow (denoted p first a) (denoted p second a) (denoted_grows a);
    }
