-- What a location may point to lies in a site or in a variable whose address is taken.
use Rattle.std.proofs.Common.{◌≡◌, ℕ, zero, suc, List, [], ◌∷◌, Bool, true, false, ◌&&◌, ◌||◌, ◌==◌, inl, inr, Option, Some, None, refl, sym, ap, ◌∙◌, subst, eq-eqb}
use Rattle.std.specs.Prelude.{Contains, if◌then◌else◌, slice_get}
use Rattle.std.specs.List.{list_any}
use Rattle.std.specs.Option.{option_map_or}
use Rattle.std.proofs.lemmas.Bool.{false≢true, and_parts, or_cases, or_left, or_right, cases_Bool}
use Rattle.rule_closure.proofs.ListLemmas.{contains_none, contains_cases}
use Rattle.c_tree.specs.declared.expr.Expr.{Expr, map-Expr, ind-Expr, roll-Expr, fold-roll-Expr}
use Rattle.c_tree.specs.declared.expr.Expr.TheOpen.{Expr-F}
use Rattle.c_tree.specs.declared.program.Function.{Function}
use Rattle.c_tree.specs.declared.program.Init.{Init}
use Rattle.c_tree.specs.declared.program.Init.TheVariants as init
use Rattle.c_tree.specs.declared.program.Program.{Program}
use Rattle.c_tree.specs.declared.statement.Target.{Target}
use Rattle.c_language.specs.Code.{Act, Begins, Sets, Bumps, Fetches, Writes, Prints, Allocates, Frees, Returns, Tests}
use Rattle.c_language.specs.ExprTypes.{is_pointer}
use Rattle.c_language.specs.declared.expr_type.ExprType.{ExprType}
use Rattle.dep_model.specs.declared.location.Location.{Location}
use Rattle.dep_model.specs.declared.location.Part.{Part}
use Rattle.dep_model.specs.declared.location.Part.TheVariants as part
use Rattle.dep_model.specs.declared.location.Root.{Root}
use Rattle.dep_model.specs.declared.location.Root.TheVariants.{Input, Variable, Site, Result}
use Rattle.dep_model.specs.Designated.{Designated, designated, is_root, takes_none, is_array_place, value_takes, takes_either, a_place}
use Rattle.dep_model.specs.Denoted.{Places, TargetsOf, Denoted, variable, whole, inside, is_location, part_of, targets, value_points, an_object, denoted, denoted_step, expr_places, expr_points}
use Rattle.dep_model.specs.Doings.{Doing, Does, Calls, body_doings, doings_of}
use Rattle.dep_model.specs.DoingEffects.{result_of, target_places, expr_takes, any_takes, maybe_takes, init_takes, doing_takes, function_takes, is_taken}
use Rattle.dep_model.specs.Locations.{TypedLocation, locations, same_location}
use Rattle.dep_model.specs.MayPoint.{Pointing, pointing, site, parameters, listed, init_pointings, returned, act_pointings, passed, doing_pointings, IsPointing, of_statement, of_global, MayPoint, by}
use Rattle.numbered_texts.proofs.Listed.{locations_are}
use Rattle.points_laws.specs.Laws.{is_pointed_root}
use Rattle.points_laws.proofs.Forms.{form_is}
use Rattle.points_laws.specs.Known.{AreGlobalsNowhere}

-- one of a list passes a test where one is found that does
any_found : {A : Type 0} (test : A → Bool) (xs : List A) → list_any test xs ≡ true → (x : A) × (test x ≡ true)
any_found test [] h = absurd (false≢true h)
any_found test (x ∷ xs) h = elim (or_cases (test x) (list_any test xs) h) [ inl here ↦ (x, here) | inr later ↦ any_found test xs later ]

found_any : {A : Type 0} (test : A → Bool) (xs : List A) (x : A) → Contains xs x → test x ≡ true → list_any test xs ≡ true
found_any test [] x c h = absurd (contains_none x c)
found_any test (y ∷ xs) x c h = elim (contains_cases y xs x c) [
  | inl same ↦ or_left (test y) (list_any test xs) (ap test same ∙ h)
  | inr later ↦ or_right (test y) (list_any test xs) (found_any test xs x later h)
]

module _ (p : Program) where
  -- a site, or a variable whose address is taken, or which is one of some
  abbrev is_led : (ℕ → Bool) → Root → Bool
  is_led takes Input = false
  is_led takes (Variable x) = is_taken p x || takes x
  is_led takes (Site i) = true
  is_led takes (Result f) = false

  abbrev Leads : (ℕ → Bool) → Places → Type 0
  Leads takes places = (l : Location) → places l ≡ true → is_led takes l.root ≡ true

  led_more : (few more : ℕ → Bool) → ((x : ℕ) → few x ≡ true → more x ≡ true) → (r : Root) → is_led few r ≡ true → is_led more r ≡ true
  led_more few more le Input h = h
  led_more few more le (Variable x) h = elim (or_cases (is_taken p x) (few x) h) [
    | inl t ↦ or_left (is_taken p x) (more x) t
    | inr t ↦ or_right (is_taken p x) (more x) (le x t)
  ]
  led_more few more le (Site i) h = h
  led_more few more le (Result f) h = h

  pointed_led : (takes : ℕ → Bool) (r : Root) → is_pointed_root p r ≡ true → is_led takes r ≡ true
  pointed_led takes Input h = h
  pointed_led takes (Variable x) h = or_left (is_taken p x) (takes x) h
  pointed_led takes (Site i) h = h
  pointed_led takes (Result f) h = h

  -- where what is taken is taken in the program, nothing more is
  led_pointed : (takes : ℕ → Bool) → ((x : ℕ) → takes x ≡ true → is_taken p x ≡ true) → (r : Root) → is_led takes r ≡ true → is_pointed_root p r ≡ true
  led_pointed takes le Input h = h
  led_pointed takes le (Variable x) h = elim (or_cases (is_taken p x) (takes x) h) [ inl t ↦ t | inr t ↦ le x t ]
  led_pointed takes le (Site i) h = h
  led_pointed takes le (Result f) h = h

  -- a part lies where its whole does
  part_leads : (takes : ℕ → Bool) (h : Part) (places : Places) → Leads takes places → Leads takes (part_of p h places)
  part_leads takes h places leads l is =
      let found = any_found (λ (o : TypedLocation). places o.location && same_location (inside o.location h) l) (locations p) (and_parts (is_location p l) _ is).1 in
      let both = and_parts (places found.0.location) (same_location (inside found.0.location h) l) found.1 in
      subst (λ (m : Location). is_led takes m.root ≡ true) (locations_are (inside found.0.location h) l both.1) (leads found.0.location both.0)

  none_leads : (takes : ℕ → Bool) → Leads takes (λ l. false)
  none_leads takes l is = absurd (false≢true is)

  module _ (points : TargetsOf) (pairs : (k m : Location) → points k m ≡ true → is_pointed_root p m.root ≡ true) where
    targets_lead : (takes : ℕ → Bool) (places : Places) → Leads takes (targets p points places)
    targets_lead takes places l is =
        let found = any_found (λ (o : TypedLocation). places o.location && points o.location l) (locations p) (and_parts (is_location p l) _ is).1 in
        pointed_led takes l.root (pairs found.0.location l (and_parts (places found.0.location) (points found.0.location l) found.1).1)

    -- ---- what expressions denote

    -- the object lies in its variable, or else where an address that is taken leads
    abbrev object_takes : Designated → ℕ → Bool
    object_takes f x = f.takes x || is_root f.root x

    record IsLed (d : Denoted) : Type 0 where
      places : Leads (object_takes d.form) d.places
      pointed : Leads d.form.takes d.points

    if_leads : (takes : ℕ → Bool) (b : Bool) (x y : Places) → (b ≡ true → Leads takes x) → (b ≡ false → Leads takes y) → Leads takes (λ l. if b then x l else y l)
    if_leads takes true x y h k = h refl
    if_leads takes false x y h k = k refl

    either_leads : (few other more : ℕ → Bool) (x y : Places) → ((z : ℕ) → few z ≡ true → more z ≡ true) → ((z : ℕ) → other z ≡ true → more z ≡ true) → Leads few x → Leads other y → Leads more (λ l. x l || y l)
    either_leads few other more x y le le_too h k l is = elim (or_cases (x l) (y l) is) [
      | inl t ↦ led_more few more le l.root (h l t)
      | inr t ↦ led_more other more le_too l.root (k l t)
    ]

    -- an array turns into a pointer to its elements: its variable is one whose address is taken
    array_takes : (f : Designated) → is_array_place f ≡ true → (x : ℕ) → object_takes f x ≡ true → value_takes f x ≡ true
    array_takes f is x h = elim (or_cases (f.takes x) (is_root f.root x) h) [
      | inl t ↦ or_left (f.takes x) _ t
      | inr t ↦ or_right (f.takes x) (is_array_place f && is_root f.root x) (ap (λ b. b && is_root f.root x) is ∙ t)
    ]

    value_leads : (d : Denoted) → IsLed d → Leads (value_takes d.form) (value_points p points d)
    value_leads d led =
        if_leads (value_takes d.form) (is_array_place d.form) (part_of p part.Element d.places) (λ l. if d.form.is_place then (is_pointer d.form.type && targets p points d.places l) else d.points l)
        (λ is l h. led_more (object_takes d.form) (value_takes d.form) (array_takes d.form is) l.root (part_leads (object_takes d.form) part.Element d.places led.places l h))
        (λ no. if_leads (value_takes d.form) d.form.is_place (λ l. is_pointer d.form.type && targets p points d.places l) d.points
        (λ is l h. targets_lead (value_takes d.form) d.places l (and_parts (is_pointer d.form.type) _ h).1)
        (λ isnt l h. led_more d.form.takes (value_takes d.form) (λ x t. or_left (d.form.takes x) _ t) l.root (led.pointed l h)))

    abbrev den : Expr → Denoted
    den = denoted p points

    abbrev Known : Type 0
    Known = (a : Expr) × IsLed (den a)

    abbrev layer : Expr-F Known → Expr-F Expr
    layer = map-Expr Known Expr (λ a. a.0)

    abbrev den_of : Known → Denoted
    den_of a = den a.0

    abbrev form_of : Known → Designated
    form_of a = (den a.0).form

    values_lead : (a : Known) → Leads (value_takes (form_of a)) (value_points p points (den_of a))
    values_lead a = value_leads (den_of a) a.1

    -- an object behind a pointer lies where the pointer leads
    behind_leads : (few : ℕ → Bool) (places : Places) → Leads few places → Leads (λ x. few x || is_root None x) places
    behind_leads few places h l is = led_more few (λ x. few x || is_root None x) (λ x t. or_left (few x) (is_root None x) t) l.root (h l is)

    -- both operands of a sum, a difference or a choice
    two_lead : (b : Bool) (x y : Known) (more : ℕ → Bool) → ((z : ℕ) → takes_either (form_of x) (form_of y) z ≡ true → more z ≡ true) → Leads more (λ l. b && (value_points p points (den_of x) l || value_points p points (den_of y) l))
    two_lead b x y more le l is =
        either_leads (value_takes (form_of x)) (value_takes (form_of y)) more (value_points p points (den_of x)) (value_points p points (den_of y))
        (λ z t. le z (or_left (value_takes (form_of x) z) (value_takes (form_of y) z) t)) (λ z t. le z (or_right (value_takes (form_of x) z) (value_takes (form_of y) z) t))
        (values_lead x) (values_lead y) l (and_parts b _ is).1

    -- an element of an array lies where the array does, and any other one where the pointer leads
    element_leads : (b : Bool) (t : ExprType) (a i : Known) (r s : Places) → is_array_place (form_of a) ≡ b
        → IsLed (if b then an_object p points (if b then a_place t (form_of a).root None (λ x. (form_of a).takes x || value_takes (form_of i) x) else a_place t None None (takes_either (form_of a) (form_of i))) (part_of p part.Element (den_of a).places) r else an_object p points (if b then a_place t (form_of a).root None (λ x. (form_of a).takes x || value_takes (form_of i) x) else a_place t None None (takes_either (form_of a) (form_of i))) (value_points p points (den_of a)) s)
    element_leads true t a i r s is = record {
      places = λ l h. led_more (object_takes (form_of a)) (λ x. ((form_of a).takes x || value_takes (form_of i) x) || is_root (form_of a).root x) (λ x t. elim (or_cases ((form_of a).takes x) (is_root (form_of a).root x) t) [
        | inl u ↦ or_left ((form_of a).takes x || value_takes (form_of i) x) (is_root (form_of a).root x) (or_left ((form_of a).takes x) (value_takes (form_of i) x) u)
        | inr u ↦ or_right ((form_of a).takes x || value_takes (form_of i) x) (is_root (form_of a).root x) u
      ]) l.root (part_leads (object_takes (form_of a)) part.Element (den_of a).places a.1.places l h);
      pointed = none_leads (λ x. (form_of a).takes x || value_takes (form_of i) x);
    }
    element_leads false t a i r s is = record {
      places = λ l h. led_more (value_takes (form_of a)) (λ x. takes_either (form_of a) (form_of i) x || is_root None x) (λ x t. or_left (takes_either (form_of a) (form_of i) x) (is_root None x) (or_left (value_takes (form_of a) x) (value_takes (form_of i) x) t)) l.root (values_lead a l h);
      pointed = none_leads (takes_either (form_of a) (form_of i));
    }

    layer_led : (y : Expr-F Known) → IsLed (denoted_step p points (map-Expr Expr Denoted den (layer y)))
    layer_led (Expr-F.Constant t k v) = record { places = λ l is. absurd (false≢true is); pointed = λ l is. absurd (false≢true is) }
    layer_led Expr-F.Null = record { places = λ l is. absurd (false≢true is); pointed = λ l is. absurd (false≢true is) }
    layer_led Expr-F.Eof = record { places = λ l is. absurd (false≢true is); pointed = λ l is. absurd (false≢true is) }
    layer_led (Expr-F.Variable x) = record {
      places = λ l h. subst (λ (m : Location). is_led (λ z. takes_none z || is_root (Some x) z) m.root ≡ true) (locations_are (variable x) l h) (or_right (is_taken p x) (x == x) (eq-eqb x x refl));
      pointed = λ l is. absurd (false≢true is);
    }
    layer_led (Expr-F.Unary op a) = record { places = λ l is. absurd (false≢true is); pointed = λ l is. absurd (false≢true is) }
    layer_led (Expr-F.Deref a) = record { places = behind_leads (value_takes (form_of a)) (value_points p points (den_of a)) (values_lead a); pointed = λ l is. absurd (false≢true is) }
    layer_led (Expr-F.AddressOf a) = record { places = λ l is. absurd (false≢true is); pointed = a.1.places }
    layer_led (Expr-F.Binary op a b) = record { places = λ l is. absurd (false≢true is); pointed = two_lead _ a b (takes_either (form_of a) (form_of b)) (λ z t. t) }
    layer_led (Expr-F.AndAlso a b) = record { places = λ l is. absurd (false≢true is); pointed = λ l is. absurd (false≢true is) }
    layer_led (Expr-F.OrElse a b) = record { places = λ l is. absurd (false≢true is); pointed = λ l is. absurd (false≢true is) }
    layer_led (Expr-F.Choose c a b) = record {
      places = λ l is. absurd (false≢true is);
      pointed = two_lead _ a b (λ x. value_takes (form_of c) x || takes_either (form_of a) (form_of b) x) (λ z t. or_right (value_takes (form_of c) z) (takes_either (form_of a) (form_of b) z) t);
    }
    layer_led (Expr-F.Cast k a) = record { places = λ l is. absurd (false≢true is); pointed = λ l is. absurd (false≢true is) }
    layer_led (Expr-F.Index a i) = element_leads (is_array_place (form_of a)) _ a i _ _ refl
    layer_led (Expr-F.Member a m) = record { places = part_leads (object_takes (form_of a)) (part.Member m.index) (den_of a).places a.1.places; pointed = λ l is. absurd (false≢true is) }
    layer_led (Expr-F.Arrow a m) = record {
      places = behind_leads (value_takes (form_of a)) (part_of p (part.Member m.index) (value_points p points (den_of a))) (part_leads (value_takes (form_of a)) (part.Member m.index) (value_points p points (den_of a)) (values_lead a));
      pointed = λ l is. absurd (false≢true is);
    }
    layer_led (Expr-F.Paren a) = record { places = a.1.places; pointed = a.1.pointed }

    rolled_led : (y : Expr-F Known) → IsLed (den (roll-Expr (layer y)))
    rolled_led y = subst IsLed (sym (fold-roll-Expr Denoted (denoted_step p points) (layer y))) (layer_led y)

    denoted_led : (a : Expr) → IsLed (den a)
    denoted_led = ind-Expr (λ a. IsLed (den a)) (λ x y is. subst (λ z. IsLed (den (roll-Expr z))) is (rolled_led y))

    -- where a value may point, by what the expression takes
    expr_leads : (e : Expr) → Leads (expr_takes p e) (expr_points p points e)
    expr_leads e = subst (λ f. Leads (value_takes f) (expr_points p points e)) (form_is p points e) (value_leads (den e) (denoted_led e))

    -- ---- pointings

    -- what each of some pointings leads to is pointed to, where what is taken is taken in the program
    abbrev AreTargets : List Pointing → Type 0
    AreTargets as_ = (a : Pointing) (m : Location) → Contains as_ a → a.from m ≡ true → is_pointed_root p m.root ≡ true

    abbrev AreTaken : (ℕ → Bool) → Type 0
    AreTaken takes = (x : ℕ) → takes x ≡ true → is_taken p x ≡ true

    no_targets : AreTargets []
    no_targets a m c = absurd (contains_none a c)

    more_targets : (x : Pointing) (as_ : List Pointing) → ((m : Location) → x.from m ≡ true → is_pointed_root p m.root ≡ true) → AreTargets as_ → AreTargets (x ∷ as_)
    more_targets x as_ here rest a m c = elim (contains_cases x as_ a c) [
      | inl same ↦ subst (λ (z : Pointing). z.from m ≡ true → is_pointed_root p m.root ≡ true) same (here m)
      | inr later ↦ rest a m later
    ]

    value_targets : (e : Expr) → AreTaken (expr_takes p e) → (m : Location) → expr_points p points e m ≡ true → is_pointed_root p m.root ≡ true
    value_targets e are m h = led_pointed (expr_takes p e) are m.root (expr_leads e m h)

    first_taken : (f g : ℕ → Bool) → AreTaken (λ x. f x || g x) → AreTaken f
    first_taken f g are x h = are x (or_left (f x) (g x) h)

    second_taken : (f g : ℕ → Bool) → AreTaken (λ x. f x || g x) → AreTaken g
    second_taken f g are x h = are x (or_right (f x) (g x) h)

    items_targets : (x : ℕ) (es : List Expr) → AreTaken (any_takes p es) → AreTargets (listed p points x es)
    items_targets x [] are = no_targets
    items_targets x (e ∷ es) are =
        more_targets (pointing (part_of p part.Element (whole x)) (expr_points p points e)) (listed p points x es) (value_targets e (first_taken (expr_takes p e) (any_takes p es) are)) (items_targets x es (second_taken (expr_takes p e) (any_takes p es) are))

    init_targets : (x : ℕ) (i : Init) → AreTaken (init_takes p i) → AreTargets (init_pointings p points x i)
    init_targets x init.None are = no_targets
    init_targets x (init.One e) are = more_targets (pointing (whole x) (expr_points p points e)) [] (value_targets e are) no_targets
    init_targets x (init.Items es) are = items_targets x es are

    returned_targets : (f : ℕ) (e : Option Expr) → AreTaken (maybe_takes p e) → AreTargets (returned p points f e)
    returned_targets f None are = no_targets
    returned_targets f (Some e) are = more_targets (pointing (same_location (result_of f)) (expr_points p points e)) [] (value_targets e are) no_targets

    passed_targets : (xs : List ℕ) (es : List Expr) → AreTaken (any_takes p es) → AreTargets (passed p points xs es)
    passed_targets [] es are = no_targets
    passed_targets (x ∷ xs) [] are = no_targets
    passed_targets (x ∷ xs) (e ∷ es) are =
        more_targets (pointing (whole x) (expr_points p points e)) (passed p points xs es) (value_targets e (first_taken (expr_takes p e) (any_takes p es) are)) (passed_targets xs es (second_taken (expr_takes p e) (any_takes p es) are))

    act_targets : (f i : ℕ) (a : Act) → AreTaken (doing_takes p (Does i a)) → AreTargets (act_pointings p points f i a)
    act_targets f i (Begins x z) are = init_targets x z are
    act_targets f i (Sets left op right) are = more_targets (pointing (expr_places p points left) (expr_points p points right)) [] (value_targets right (λ x t. are x (or_right _ (expr_takes p right x) t))) no_targets
    act_targets f i (Bumps left up) are = no_targets
    act_targets f i (Fetches to) are = no_targets
    act_targets f i (Writes e) are = no_targets
    act_targets f i (Prints format args) are = no_targets
    act_targets f i (Allocates to n) are = more_targets (pointing (target_places p points to) (same_location (site i))) [] (λ m h. subst (λ (l : Location). is_pointed_root p l.root ≡ true) (locations_are (site i) m h) refl) no_targets
    act_targets f i (Frees e) are = no_targets
    act_targets f i (Returns e) are = returned_targets f e are
    act_targets f i (Tests e) are = no_targets

    doing_targets : (f : ℕ) (d : Doing) → AreTaken (doing_takes p d) → AreTargets (doing_pointings p points f d)
    doing_targets f (Does i a) are = act_targets f i a are
    doing_targets f (Calls i to g args) are =
        more_targets (pointing (target_places p points to) (points (result_of g))) (passed p points (parameters p g) args) (pairs (result_of g)) (passed_targets (parameters p g) args (λ x t. are x (or_right _ (any_takes p args x) t)))

  -- ---- the program

  -- what a statement of a function takes is taken
  taken_in : (fs : List Function) (f : ℕ) (d : Doing) → Contains (option_map_or (λ (g : Function). body_doings g.body) (slice_get fs f) []) d → (x : ℕ) → doing_takes p d x ≡ true → list_any (λ (g : Function). function_takes p g x) fs ≡ true
  taken_in [] f d c x h = absurd (contains_none d c)
  taken_in (g ∷ fs) zero d c x h = or_left (function_takes p g x) _ (found_any (λ (e : Doing). doing_takes p e x) (body_doings g.body) d c h)
  taken_in (g ∷ fs) (suc f) d c x h = or_right (function_takes p g x) _ (taken_in fs f d c x h)

  pub targets_taken : AreGlobalsNowhere p → (l m : Location) → MayPoint p l m → is_pointed_root p m.root ≡ true
  targets_taken globals l m (by points a derived (of_statement f k) into from) =
      doing_targets points (λ k n t. targets_taken globals k n (derived k n t)) f k.doing (taken_in p.functions f k.doing k.member) a m k.given from
  targets_taken globals l m (by points a derived (of_global i k given) into from) = absurd (false≢true (sym (globals points i a m k given) ∙ from))
