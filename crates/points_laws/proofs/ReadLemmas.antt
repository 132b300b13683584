-- What an expression denotes depends on where the locations that it reads may point, and on no others.
use Rattle.std.proofs.Common.{◌≡◌, ℕ, List, [], ◌∷◌, Bool, true, false, ◌&&◌, ◌||◌, Option, Some, None, refl, sym, ap, ap₂, ◌∙◌, subst, eq-eqb}
use Rattle.std.specs.Prelude.{if◌then◌else◌}
use Rattle.std.proofs.lemmas.Bool.{false≢true, and_parts, and_from, or_left, or_right}
use Rattle.c_tree.specs.declared.expr.Expr.{Expr, map-Expr, ind-Expr, roll-Expr, fold-roll-Expr}
use Rattle.c_tree.specs.declared.expr.Expr.TheOpen.{Expr-F}
use Rattle.c_tree.specs.declared.program.Init.{Init}
use Rattle.c_tree.specs.declared.program.Init.TheVariants as init
use Rattle.c_tree.specs.declared.program.Program.{Program}
use Rattle.c_tree.specs.declared.statement.Target.{Target}
use Rattle.c_tree.specs.declared.statement.Target.TheVariants as target
use Rattle.c_language.specs.Code.{Act, Begins, Sets, Bumps, Fetches, Writes, Prints, Allocates, Frees, Returns, Tests}
use Rattle.c_language.specs.ExprTypes.{is_integer, is_pointer, is_scalar}
use Rattle.dep_model.specs.declared.location.Location.{Location}
use Rattle.dep_model.specs.declared.location.Part.TheVariants as part
use Rattle.dep_model.specs.Denoted.{Places, TargetsOf, Denoted, whole, part_of, targets, either_of, value_points, value_reads, denoted_as, denoted_step, denoted, expr_points, expr_reads, left_reads}
use Rattle.dep_model.specs.Designated.{Designated, designated_step, is_array_place}
use Rattle.dep_model.specs.Doings.{Doing, Does, Calls}
use Rattle.dep_model.specs.DoingEffects.{result_of, any_reads, maybe_reads, init_reads, target_reads, target_places}
use Rattle.dep_model.specs.Locations.{TypedLocation, locations, same_location}
use Rattle.dep_model.specs.MayPoint.{pointing, site, parameters, listed, init_pointings, returned, act_pointings, passed, doing_pointings}
use Rattle.points_laws.specs.Relations.{AreAmong, LiesInAt, pointing_reads}
use Rattle.points_laws.specs.Laws.{ReadsDecide}
use Rattle.points_laws.proofs.Monotone.{and_among, or_among, any_among, parts_among}
use Rattle.points_laws.proofs.Wider.{AreGivenBy, none_given, more_given, one_given}

-- a choice, of which each branch follows where it is taken
if_known : (b x y u v : Bool) → (b ≡ true → x ≡ true → u ≡ true) → (y ≡ true → v ≡ true) → (if b then x else y) ≡ true → (if b then u else v) ≡ true
if_known true x y u v h k t = h refl t
if_known false x y u v h k t = k t

module _ (p : Program) (first second : TargetsOf) where
  -- the first relation lies in the second where these begin
  abbrev LiesAt : Places → Type 0
  LiesAt places = LiesInAt places first second

  lies_left : (a b : Places) → LiesAt (either_of a b) → LiesAt a
  lies_left a b lies k n at = lies k n (or_left (a k) (b k) at)

  lies_right : (a b : Places) → LiesAt (either_of a b) → LiesAt b
  lies_right a b lies k n at = lies k n (or_right (a k) (b k) at)

  targets_follow : (a b : Places) → AreAmong a b → LiesAt b → AreAmong (targets p first a) (targets p second b)
  targets_follow a b le lies l =
      and_among _ _ _ _ (λ t. t) (any_among (λ (o : TypedLocation). a o.location && first o.location l) (λ (o : TypedLocation). b o.location && second o.location l) (locations p)
      (λ o h. let w = and_parts (a o.location) (first o.location l) h in let at = le o.location w.0 in and_from (b o.location) (second o.location l) at (lies o.location l at w.1)))

  -- ---- expressions

  -- no more is denoted
  record DenotesNoMore (d e : Denoted) : Type 0 where
    places : AreAmong d.places e.places
    pointed : AreAmong d.points e.points

  -- by the first relation no more is denoted than by the second, where the first lies in it at what is read
  record IsDecided (d e : Denoted) : Type 0 where
    form : d.form ≡ e.form
    less : LiesAt e.reads → DenotesNoMore d e

  abbrev value_at : TargetsOf → Designated → Places → Places → Places
  value_at points f places pointed l =
      if is_array_place f then part_of p part.Element places l else (if f.is_place then (is_pointer f.type && targets p points places l) else pointed l)

  value_follows : (f : Designated) (a b c d : Places) → AreAmong a b → AreAmong c d → (f.is_place ≡ true → is_pointer f.type ≡ true → LiesAt b) → AreAmong (value_at first f a c) (value_at second f b d)
  value_follows f a b c d places pointed lies l =
      if_known (is_array_place f) _ _ _ _ (λ is. parts_among p part.Element a b places l)
      (if_known f.is_place _ _ _ _ (λ is h. let w = and_parts (is_pointer f.type) (targets p first a l) h in and_from (is_pointer f.type) (targets p second b l) w.0 (targets_follow a b places (lies is w.0) l w.1)) (pointed l))

  values_follow : (d e : Denoted) → IsDecided d e → LiesAt (value_reads p second e) → AreAmong (value_points p first d) (value_points p second e)
  values_follow d e g lies l h =
      let w = g.less (λ k n at. lies k n (or_left (e.reads k) _ at)) in
      subst (λ f. value_at second f e.places e.points l ≡ true) g.form (value_follows d.form d.places e.places d.points e.points w.places w.pointed at_places l h)
    where
      at_places : d.form.is_place ≡ true → is_pointer d.form.type ≡ true → LiesAt e.places
      at_places is_place is k n at =
          let place : e.form.is_place ≡ true = subst (λ (f : Designated). f.is_place ≡ true) g.form is_place in
          let pointer : is_pointer e.form.type ≡ true = subst (λ (f : Designated). is_pointer f.type ≡ true) g.form is in
          lies k n (or_right (e.reads k) _ (and_from _ (e.places k) (and_from e.form.is_place (is_scalar e.form.type) place (or_right (is_integer e.form.type) (is_pointer e.form.type) pointer)) at))

  abbrev IsFollowing : Expr → Type 0
  IsFollowing a = IsDecided (denoted p first a) (denoted p second a)

  abbrev Known : Type 0
  Known = (a : Expr) × IsFollowing a

  abbrev layer : Expr-F Known → Expr-F Expr
  layer = map-Expr Known Expr (λ a. a.0)

  abbrev low : Known → Denoted
  low k = denoted p first k.0

  abbrev high : Known → Denoted
  high k = denoted p second k.0

  none_among : (l : Location) → false ≡ true → false ≡ true
  none_among l h = h

  values : (a : Known) → LiesAt (value_reads p second (high a)) → AreAmong (value_points p first (low a)) (value_points p second (high a))
  values a lies = values_follow (low a) (high a) a.1 lies

  either : (b : Bool) (x y : Known) → LiesAt (either_of (value_reads p second (high x)) (value_reads p second (high y))) → (l : Location) → (b && (value_points p first (low x) l || value_points p first (low y) l)) ≡ true → (b && (value_points p second (high x) l || value_points p second (high y) l)) ≡ true
  either b x y lies l = and_among b _ b _ (λ t. t)
      (or_among _ _ _ _ (values x (lies_left (value_reads p second (high x)) (value_reads p second (high y)) lies) l) (values y (lies_right (value_reads p second (high x)) (value_reads p second (high y)) lies) l))

  choice : (b c : Bool) (x y u v : Denoted) → b ≡ c → IsDecided x u → IsDecided y v → IsDecided (if b then x else y) (if c then u else v)
  choice true true x y u v is h k = h
  choice true false x y u v is h k = absurd (false≢true (sym is))
  choice false true x y u v is h k = absurd (false≢true is)
  choice false false x y u v is h k = k

  layer_follows : (f : Designated) (y : Expr-F Known)
      → IsDecided (denoted_as p first f (map-Expr Expr Denoted (denoted p first) (layer y))) (denoted_as p second f (map-Expr Expr Denoted (denoted p second) (layer y)))
  layer_follows f (Expr-F.Constant t k v) = record { form = refl; less = λ lies. record { places = none_among; pointed = none_among } }
  layer_follows f Expr-F.Null = record { form = refl; less = λ lies. record { places = none_among; pointed = none_among } }
  layer_follows f Expr-F.Eof = record { form = refl; less = λ lies. record { places = none_among; pointed = none_among } }
  layer_follows f (Expr-F.Variable x) = record { form = refl; less = λ lies. record { places = λ l h. h; pointed = none_among } }
  layer_follows f (Expr-F.Unary op a) = record { form = refl; less = λ lies. record { places = none_among; pointed = none_among } }
  layer_follows f (Expr-F.Deref a) = record { form = refl; less = λ lies. record { places = values a lies; pointed = none_among } }
  layer_follows f (Expr-F.AddressOf a) = record { form = refl; less = λ lies. record { places = none_among; pointed = (a.1.less lies).places } }
  layer_follows f (Expr-F.Binary op a b) = record { form = refl; less = λ lies. record { places = none_among; pointed = either (is_pointer f.type) a b lies } }
  layer_follows f (Expr-F.AndAlso a b) = record { form = refl; less = λ lies. record { places = none_among; pointed = none_among } }
  layer_follows f (Expr-F.OrElse a b) = record { form = refl; less = λ lies. record { places = none_among; pointed = none_among } }
  layer_follows f (Expr-F.Choose c a b) = record {
    form = refl;
    less = λ lies. record {
      places = none_among;
      pointed = either (is_pointer f.type) a b (lies_right (value_reads p second (high c)) (either_of (value_reads p second (high a)) (value_reads p second (high b))) lies);
    };
  }
  layer_follows f (Expr-F.Cast k a) = record { form = refl; less = λ lies. record { places = none_among; pointed = none_among } }
  layer_follows f (Expr-F.Index a i) =
      choice (is_array_place (low a).form) (is_array_place (high a).form) _ _ _ _ (ap is_array_place a.1.form)
      (record {
        form = refl;
        less = λ lies. record {
          places = parts_among p part.Element (low a).places (high a).places (a.1.less (lies_left (high a).reads (value_reads p second (high i)) lies)).places;
          pointed = none_among;
        };
      })
      (record { form = refl; less = λ lies. record { places = values a (lies_left (value_reads p second (high a)) (value_reads p second (high i)) lies); pointed = none_among } })
  layer_follows f (Expr-F.Member a m) = record {
    form = refl;
    less = λ lies. record { places = parts_among p (part.Member m.index) (low a).places (high a).places (a.1.less lies).places; pointed = none_among };
  }
  layer_follows f (Expr-F.Arrow a m) = record {
    form = refl;
    less = λ lies. record {
      places = parts_among p (part.Member m.index) (value_points p first (low a)) (value_points p second (high a)) (values a lies);
      pointed = none_among;
    };
  }
  layer_follows f (Expr-F.Paren a) = record { form = refl; less = λ lies. record { places = (a.1.less lies).places; pointed = (a.1.less lies).pointed } }

  -- the form is the same, since no pair decides it
  abbrev step : Expr-F Designated → Designated
  step = designated_step p

  abbrev step_form : TargetsOf → Expr-F Expr → Designated
  step_form points y = step (map-Expr Denoted Designated (λ (d : Denoted). d.form) (map-Expr Expr Denoted (denoted p points) y))

  same_form : (y : Expr-F Known) → step_form first (layer y) ≡ step_form second (layer y)
  same_form (Expr-F.Constant t k v) = refl
  same_form Expr-F.Null = refl
  same_form Expr-F.Eof = refl
  same_form (Expr-F.Variable x) = refl
  same_form (Expr-F.Unary op a) = ap (λ d. step (Expr-F.Unary op d)) a.1.form
  same_form (Expr-F.Deref a) = ap (λ d. step (Expr-F.Deref d)) a.1.form
  same_form (Expr-F.AddressOf a) = ap (λ d. step (Expr-F.AddressOf d)) a.1.form
  same_form (Expr-F.Binary op a b) = ap₂ (λ c d. step (Expr-F.Binary op c d)) a.1.form b.1.form
  same_form (Expr-F.AndAlso a b) = ap₂ (λ c d. step (Expr-F.AndAlso c d)) a.1.form b.1.form
  same_form (Expr-F.OrElse a b) = ap₂ (λ c d. step (Expr-F.OrElse c d)) a.1.form b.1.form
  same_form (Expr-F.Choose c a b) =
      ap (λ d. step (Expr-F.Choose d (low a).form (low b).form)) c.1.form ∙ ap₂ (λ d e. step (Expr-F.Choose (high c).form d e)) a.1.form b.1.form
  same_form (Expr-F.Cast k a) = ap (λ d. step (Expr-F.Cast k d)) a.1.form
  same_form (Expr-F.Index a i) = ap₂ (λ c d. step (Expr-F.Index c d)) a.1.form i.1.form
  same_form (Expr-F.Member a m) = ap (λ d. step (Expr-F.Member d m)) a.1.form
  same_form (Expr-F.Arrow a m) = ap (λ d. step (Expr-F.Arrow d m)) a.1.form
  same_form (Expr-F.Paren a) = ap (λ d. step (Expr-F.Paren d)) a.1.form

  rolled : (y : Expr-F Known) → IsFollowing (roll-Expr (layer y))
  rolled y =
      let here = layer_follows (step_form first (layer y)) y in
      let there = subst (λ f. IsDecided (denoted_step p first (map-Expr Expr Denoted (denoted p first) (layer y))) (denoted_as p second f (map-Expr Expr Denoted (denoted p second) (layer y)))) (same_form y) here in
      let left = subst (λ d. IsDecided d (denoted_step p second (map-Expr Expr Denoted (denoted p second) (layer y)))) (sym (fold-roll-Expr Denoted (denoted_step p first) (layer y))) there in
      subst (λ e. IsDecided (denoted p first (roll-Expr (layer y))) e) (sym (fold-roll-Expr Denoted (denoted_step p second) (layer y))) left

  decided : (e : Expr) → IsFollowing e
  decided = ind-Expr IsFollowing (λ x y is. subst (λ z. IsFollowing (roll-Expr z)) is (rolled y))

  pub places_decided : (e : Expr) → LiesAt (left_reads p second e) → AreAmong (denoted p first e).places (denoted p second e).places
  places_decided e lies = ((decided e).less lies).places

  pub points_decided : (e : Expr) → LiesAt (expr_reads p second e) → AreAmong (expr_points p first e) (expr_points p second e)
  points_decided e lies = values_follow (denoted p first e) (denoted p second e) (decided e) lies

  -- ---- pointings

  target_decided : (to : Target) → LiesAt (target_reads p second to) → AreAmong (target_places p first to) (target_places p second to)
  target_decided target.None lies l h = h
  target_decided (target.Place e) lies l h = places_decided e lies l h
  target_decided (target.Declared x) lies l h = h

  listed_decided : (x : ℕ) (es : List Expr) → LiesAt (any_reads p second es) → AreGivenBy (listed p first x es) (listed p second x es)
  listed_decided x [] lies = none_given []
  listed_decided x (e ∷ es) lies =
      more_given (pointing (part_of p part.Element (whole x)) (expr_points p first e)) (pointing (part_of p part.Element (whole x)) (expr_points p second e)) (listed p first x es) (listed p second x es) (λ l h. h)
      (points_decided e (lies_left (expr_reads p second e) (any_reads p second es) lies)) (listed_decided x es (lies_right (expr_reads p second e) (any_reads p second es) lies))

  init_decided : (x : ℕ) (i : Init) → LiesAt (init_reads p second i) → AreGivenBy (init_pointings p first x i) (init_pointings p second x i)
  init_decided x init.None lies = none_given []
  init_decided x (init.One e) lies = one_given (pointing (whole x) (expr_points p first e)) (pointing (whole x) (expr_points p second e)) (λ l h. h) (points_decided e lies)
  init_decided x (init.Items es) lies = listed_decided x es lies

  returned_decided : (f : ℕ) (e : Option Expr) → LiesAt (maybe_reads p second e) → AreGivenBy (returned p first f e) (returned p second f e)
  returned_decided f None lies = none_given []
  returned_decided f (Some e) lies =
      one_given (pointing (same_location (result_of f)) (expr_points p first e)) (pointing (same_location (result_of f)) (expr_points p second e)) (λ l h. h) (points_decided e lies)

  act_decided : (f i : ℕ) (a : Act) → LiesAt (pointing_reads p second (Does i a)) → AreGivenBy (act_pointings p first f i a) (act_pointings p second f i a)
  act_decided f i (Begins x n) lies = init_decided x n lies
  act_decided f i (Sets left op right) lies =
      one_given (record { into = _; from = _ }) (record { into = _; from = _ }) (places_decided left (λ k n at. lies k n (or_left (left_reads p second left k) _ at)))
      (points_decided right (λ k n at. lies k n (or_right (left_reads p second left k) _ (or_right _ (expr_reads p second right k) at))))
  act_decided f i (Bumps left up) lies = none_given []
  act_decided f i (Fetches to) lies = none_given []
  act_decided f i (Writes e) lies = none_given []
  act_decided f i (Prints format args) lies = none_given []
  act_decided f i (Allocates to n) lies =
      one_given (pointing (target_places p first to) (same_location (site i))) (pointing (target_places p second to) (same_location (site i))) (target_decided to (λ k m at. lies k m (or_left (target_reads p second to k) _ at))) (λ l h. h)
  act_decided f i (Frees e) lies = none_given []
  act_decided f i (Returns e) lies = returned_decided f e lies
  act_decided f i (Tests e) lies = none_given []

  passed_decided : (xs : List ℕ) (es : List Expr) → LiesAt (any_reads p second es) → AreGivenBy (passed p first xs es) (passed p second xs es)
  passed_decided [] es lies = none_given []
  passed_decided (x ∷ xs) [] lies = none_given []
  passed_decided (x ∷ xs) (e ∷ es) lies =
      more_given (pointing (whole x) (expr_points p first e)) (pointing (whole x) (expr_points p second e)) (passed p first xs es) (passed p second xs es) (λ l h. h)
      (points_decided e (lies_left (expr_reads p second e) (any_reads p second es) lies)) (passed_decided xs es (lies_right (expr_reads p second e) (any_reads p second es) lies))

  -- a statement gives no more by the first relation than by the second, where the first lies in it at what is read
  pub doing_decided : (f : ℕ) (d : Doing) → LiesAt (pointing_reads p second d) → AreGivenBy (doing_pointings p first f d) (doing_pointings p second f d)
  doing_decided f (Does i a) lies = act_decided f i a lies
  doing_decided f (Calls i to g args) lies =
      more_given (pointing (target_places p first to) (first (result_of g))) (pointing (target_places p second to) (second (result_of g))) (passed p first (parameters p g) args) (passed p second (parameters p g) args)
      (target_decided to (λ k n at. lies k n (or_left (any_reads p second args k || target_reads p second to k) (same_location (result_of g) k) (or_right (any_reads p second args k) (target_reads p second to k) at))))
      (λ n h. lies (result_of g) n (or_right _ (same_location (result_of g) (result_of g)) (and_from _ true (eq-eqb g g refl) refl)) h)
      (passed_decided (parameters p g) args (λ k n at. lies k n (or_left (any_reads p second args k || target_reads p second to k) (same_location (result_of g) k) (or_left (any_reads p second args k) (target_reads p second to k) at))))

pub reads_decide : ReadsDecide
reads_decide p first second e = (places_decided p first second e, points_decided p first second e)
