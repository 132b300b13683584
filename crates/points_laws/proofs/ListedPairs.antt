-- Each derived pair is of two listed locations.
use Rattle.std.proofs.Common.{◌≡◌, ℕ, ◌<◌, List, [], ◌∷◌, length, Bool, true, inl, inr, Option, Some, None, refl, subst, sym, ap, ◌∙◌, ltb-true}
use Rattle.std.specs.Prelude.{Contains, nat_lt, ◌&&◌}
use Rattle.std.specs.List.{list_all}
use Rattle.std.proofs.lemmas.Bool.{false≢true, and_parts}
use Rattle.rule_closure.proofs.ListLemmas.{contains_none, contains_head, contains_cons, contains_cases}
use Rattle.c_tree.specs.declared.expr.Expr.{Expr}
use Rattle.c_tree.specs.declared.program.Init.{Init}
use Rattle.c_tree.specs.declared.program.Init.TheVariants as init
use Rattle.c_tree.specs.declared.program.Program.{Program}
use Rattle.c_tree.specs.declared.statement.Target.{Target}
use Rattle.c_tree.specs.declared.statement.Target.TheVariants as target
use Rattle.c_language.specs.Code.{Act, Begins, Sets, Bumps, Fetches, Writes, Prints, Allocates, Frees, Returns, Tests}
use Rattle.dep_model.specs.NamesBelow.{names_below}
use Rattle.dep_model.specs.declared.location.Location.{Location}
use Rattle.dep_model.specs.declared.location.Part.TheVariants as part
use Rattle.dep_model.specs.Denoted.{Places, TargetsOf, whole, part_of, denoted, expr_places, expr_points}
use Rattle.dep_model.specs.Doings.{Doing, Does, Calls, doings_of}
use Rattle.dep_model.specs.DoingEffects.{result_of, target_places}
use Rattle.dep_model.specs.ListedLocations.{IsListed}
use Rattle.dep_model.specs.Locations.{same_location}
use Rattle.dep_model.specs.MayPoint.{Pointing, pointing, site, parameters, listed, init_pointings, returned, act_pointings, passed, doing_pointings, IsPointing, of_statement, of_global, MayPoint, by}
use Rattle.dep_model.specs.DoingNames.{init_below, target_below, act_below, doing_below}
use Rattle.dep_model.proofs.DoingForms.{contained_passes}
use Rattle.numbered_texts.proofs.Listed.{locations_are, whole_listed, result_listed, part_lists, points_list, expr_fine, of_function}
use Rattle.points_laws.specs.Known.{HasKnownSides}
use Rattle.points_laws.proofs.Sites.{site_listed}

module _ (p : Program) where
  abbrev n : ℕ
  n = length p.vars

  abbrev Lists : Places → Type 0
  Lists places = (l : Location) → places l ≡ true → IsListed p l

  -- both sides of a pointing are listed
  record IsBetween (a : Pointing) : Type 0 where
    into : Lists a.into
    from : Lists a.from

  -- those of each of some pointings are
  abbrev AreBetween : List Pointing → Type 0
  AreBetween as_ = (a : Pointing) → Contains as_ a → IsBetween a

  none_between : AreBetween []
  none_between a c = absurd (contains_none a c)

  more_between : (x : Pointing) (as_ : List Pointing) → Lists x.into → Lists x.from → AreBetween as_ → AreBetween (x ∷ as_)
  more_between x as_ into from rest a c = elim (contains_cases x as_ a c) [
    | inl same ↦ subst IsBetween same (record { into = into; from = from })
    | inr later ↦ rest a later
  ]

  one_between : (x : Pointing) → Lists x.into → Lists x.from → AreBetween (x ∷ [])
  one_between x into from = more_between x [] into from none_between

  location_lists : (k : Location) → IsListed p k → Lists (same_location k)
  location_lists k h l is = subst (IsListed p) (locations_are k l is) h

  module _ (points : TargetsOf) (pairs : (k m : Location) → points k m ≡ true → IsListed p m) where
    value_lists : (e : Expr) → names_below n e ≡ true → Lists (expr_points p points e)
    value_lists e h = points_list p points (denoted p points e) (expr_fine p points e h)

    place_lists : (e : Expr) → names_below n e ≡ true → Lists (expr_places p points e)
    place_lists e h = (expr_fine p points e h).places

    target_lists : (to : Target) → target_below n to ≡ true → Lists (target_places p points to)
    target_lists target.None h l is = absurd (false≢true is)
    target_lists (target.Place e) h l is = place_lists e h l is
    target_lists (target.Declared x) h l is = whole_listed p x (ltb-true x n h) l is

    items_between : (x : ℕ) (es : List Expr) → list_all (names_below n) es ≡ true → AreBetween (listed p points x es)
    items_between x [] h = none_between
    items_between x (e ∷ es) h =
        let k = and_parts (names_below n e) (list_all (names_below n) es) h in
        more_between (pointing (part_of p part.Element (whole x)) (expr_points p points e)) (listed p points x es) (part_lists p points part.Element (whole x)) (value_lists e k.0) (items_between x es k.1)

    init_between : (x : ℕ) (i : Init) → x < n → init_below n i ≡ true → AreBetween (init_pointings p points x i)
    init_between x init.None lt h = none_between
    init_between x (init.One e) lt h = one_between (pointing (whole x) (expr_points p points e)) (whole_listed p x lt) (value_lists e h)
    init_between x (init.Items es) lt h = items_between x es h

    passed_between : (xs : List ℕ) (es : List Expr) → ((x : ℕ) → Contains xs x → x < n) → list_all (names_below n) es ≡ true → AreBetween (passed p points xs es)
    passed_between [] es low h = none_between
    passed_between (x ∷ xs) [] low h = none_between
    passed_between (x ∷ xs) (e ∷ es) low h =
        let k = and_parts (names_below n e) (list_all (names_below n) es) h in
        more_between (pointing (whole x) (expr_points p points e)) (passed p points xs es) (whole_listed p x (low x (contains_head x xs))) (value_lists e k.0)
        (passed_between xs es (λ y c. low y (contains_cons x xs y c)) k.1)

    module _ (known : HasKnownSides p) (f : ℕ) where
      returned_between : (i : ℕ) (e : Option Expr) → Contains (doings_of p f) (Does i (Returns e)) → act_below n (Returns e) ≡ true → AreBetween (returned p points f e)
      returned_between i None c h = none_between
      returned_between i (Some e) c h = one_between (pointing (same_location (result_of f)) (expr_points p points e)) (result_listed p f (known.returns_in f i e c)) (value_lists e h)

      act_between : (i : ℕ) (a : Act) → Contains (doings_of p f) (Does i a) → act_below n a ≡ true → AreBetween (act_pointings p points f i a)
      act_between i (Begins x z) c h = let k = and_parts (nat_lt x n) (init_below n z) h in init_between x z (ltb-true x n k.0) k.1
      act_between i (Sets left op right) c h =
          let k = and_parts (names_below n left) (names_below n right) h in
          one_between (pointing (expr_places p points left) (expr_points p points right)) (place_lists left k.0) (value_lists right k.1)
      act_between i (Bumps left up) c h = none_between
      act_between i (Fetches to) c h = none_between
      act_between i (Writes e) c h = none_between
      act_between i (Prints format args) c h = none_between
      act_between i (Allocates to k) c h =
          one_between (pointing (target_places p points to) (same_location (site i))) (target_lists to (and_parts (target_below n to) _ h).0) (location_lists (site i) (site_listed p f i to k c))
      act_between i (Frees e) c h = none_between
      act_between i (Returns e) c h = returned_between i e c h
      act_between i (Tests e) c h = none_between

      doing_between : (d : Doing) → Contains (doings_of p f) d → doing_below n d ≡ true → AreBetween (doing_pointings p points f d)
      doing_between (Does i a) c h = act_between i a c h
      doing_between (Calls i to g args) c h =
          let k = and_parts (target_below n to) (list_all (names_below n) args) h in
          more_between (pointing (target_places p points to) (points (result_of g))) (passed p points (parameters p g) args) (target_lists to k.0) (pairs (result_of g))
          (passed_between (parameters p g) args (known.parameters_in g) k.1)

    pointing_between : HasKnownSides p → (a : Pointing) → IsPointing p points a → (l m : Location) → a.into l ≡ true → a.from m ≡ true → IsListed p l × IsListed p m
    pointing_between known a (of_statement f k) l m into from =
        let below = contained_passes (doing_below n) (doings_of p f) k.doing (of_function p points known.named p.functions f known.named) k.member in
        let both = doing_between known f k.doing k.member below a k.given in
        (both.into l into, both.from m from)
    pointing_between known a (of_global i k given) l m into from = absurd (false≢true (sym (known.globals points i a m k given) ∙ from))

pub pairs_listed : (p : Program) → HasKnownSides p → (l m : Location) → MayPoint p l m → IsListed p l × IsListed p m
pairs_listed p known l m (by points a derived is into from) =
    pointing_between p points (λ k n t. (pairs_listed p known k n (derived k n t)).1) known a is l m into from
