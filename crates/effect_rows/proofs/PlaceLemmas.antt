-- Steps from locations lead from each of two sets of them alone, and from none to none.
use mathlib.Core.Path.{fun_ext}
use Rattle.std.proofs.Common.{◌≡◌, Bool, true, false, ◌||◌, ◌&&◌, if◌then◌else◌, List, [], ◌∷◌, refl, sym, ap, ◌∙◌, subst}
use Rattle.std.specs.Borrow.{Bor}
use Rattle.std.specs.List.{list_any}
use Rattle.c_tree.specs.declared.program.Program.{Program}
use Rattle.c_language.specs.ExprTypes.{is_array, is_pointer}
use Rattle.dep_model.specs.declared.location.Part.{Part}
use Rattle.dep_model.specs.declared.location.Part.TheVariants as part
use Rattle.dep_model.specs.Denoted.{Places, TargetsOf, Denoted, no_places, either_of, inside, is_location, part_of, targets, value_points}
use Rattle.dep_model.specs.Locations.{TypedLocation, locations, same_location}
use Rattle.effect_rows.specs.declared.steps.Step.{Step}
use Rattle.effect_rows.specs.declared.steps.Step.TheVariants as step
use Rattle.effect_rows.specs.declared.steps.Steps.{Steps, map-Steps, ind-Steps, roll-Steps, fold-roll-Steps}
use Rattle.effect_rows.specs.declared.steps.Steps.TheOpen.{Steps-F}
use Rattle.effect_rows.specs.declared.steps.Steps.TheVariants as steps
use Rattle.effect_rows.specs.Named.{named_by}
use Rattle.effect_rows.specs.Steps.{stepped, taken_step, taken}

-- ---- truth values

apart : (a b c x y : Bool) → (((a || b) && c) || (x || y)) ≡ (((a && c) || x) || ((b && c) || y))
apart true b true x y = refl
apart true true false true y = refl
apart true true false false y = refl
apart true false false true y = refl
apart true false false false y = refl
apart false true true true y = refl
apart false true true false y = refl
apart false true false true y = refl
apart false true false false y = refl
apart false false c true y = refl
apart false false c false y = refl

and_over : (i c a b : Bool) → c ≡ (a || b) → (i && c) ≡ ((i && a) || (i && b))
and_over true c a b e = e
and_over false c a b e = refl

and_none : (i c : Bool) → c ≡ false → (i && c) ≡ false
and_none true c e = e
and_none false c e = refl

any_apart : (f g q : TypedLocation → Bool) (xs : List TypedLocation) → list_any (λ o. (f o || g o) && q o) xs ≡ (list_any (λ o. f o && q o) xs || list_any (λ o. g o && q o) xs)
any_apart f g q [] = refl
any_apart f g q (x ∷ xs) = ap (λ b. ((f x || g x) && q x) || b) (any_apart f g q xs) ∙ apart (f x) (g x) (q x) (list_any (λ o. f o && q o) xs) (list_any (λ o. g o && q o) xs)

any_none : (q : TypedLocation → Bool) (xs : List TypedLocation) → list_any (λ o. false && q o) xs ≡ false
any_none q [] = refl
any_none q (x ∷ xs) = any_none q xs

module _ (p : Program) (points : TargetsOf) where
  part_of-either : (h : Part) (a b : Places) → part_of p h (either_of a b) ≡ either_of (part_of p h a) (part_of p h b)
  part_of-either h a b =
      fun_ext (λ l. and_over (is_location p l) _ _ _ (any_apart (λ o. a o.location) (λ o. b o.location) (λ o. same_location (inside o.location h) l) (locations p)))

  targets-either : (a b : Places) → targets p points (either_of a b) ≡ either_of (targets p points a) (targets p points b)
  targets-either a b =
      fun_ext (λ l. and_over (is_location p l) _ _ _ (any_apart (λ o. a o.location) (λ o. b o.location) (λ o. points o.location l) (locations p)))

  pub part_of-none : (h : Part) → part_of p h no_places ≡ no_places
  part_of-none h = fun_ext (λ l. and_none (is_location p l) _ (any_none (λ o. same_location (inside o.location h) l) (locations p)))

  pub targets-none : targets p points no_places ≡ no_places
  targets-none = fun_ext (λ l. and_none (is_location p l) _ (any_none (λ o. points o.location l) (locations p)))

  stepped-either : (s : Step) (a b : Places) → stepped p points s (either_of a b) ≡ either_of (stepped p points s a) (stepped p points s b)
  stepped-either (step.Part h) a b = part_of-either h a b
  stepped-either step.Targets a b = targets-either a b

  stepped-none : (s : Step) → stepped p points s no_places ≡ no_places
  stepped-none (step.Part h) = part_of-none h
  stepped-none step.Targets = targets-none

  -- ---- several steps

  abbrev moved : Steps → Places → Places
  moved = taken p points

  record IsKnown (s : Steps) : Type 0 where
    apart_is : (a b : Places) → moved s (either_of a b) ≡ either_of (moved s a) (moved s b)
    none_is : moved s no_places ≡ no_places

  abbrev Known : Type 0
  Known = (s : Steps) × IsKnown s

  abbrev layer : Steps-F Known → Steps-F Steps
  layer = map-Steps Known Steps (λ k. k.0)

  rolled : (y : Steps-F Steps) → moved (roll-Steps y) ≡ taken_step p points (map-Steps Steps (Places → Places) moved y)
  rolled y = fold-roll-Steps (Places → Places) (taken_step p points) y

  pub taken-Done : moved steps.Done ≡ (λ a. a)
  taken-Done = ap moved (sym steps.rolls-Done) ∙ rolled Steps-F.Done

  pub taken-Nowhere : moved steps.Nowhere ≡ (λ a. no_places)
  taken-Nowhere = ap moved (sym steps.rolls-Nowhere) ∙ rolled Steps-F.Nowhere

  pub taken-Then : (s : Step) (rest : Bor Steps) → moved (steps.Then s rest) ≡ (λ a. moved rest.now (stepped p points s a))
  taken-Then s rest = ap moved (sym (steps.rolls-Then s rest)) ∙ rolled (Steps-F.Then s rest)

  layer_apart : (y : Steps-F Known) (a b : Places) → taken_step p points (map-Steps Steps (Places → Places) moved (layer y)) (either_of a b) ≡ either_of (taken_step p points (map-Steps Steps (Places → Places) moved (layer y)) a) (taken_step p points (map-Steps Steps (Places → Places) moved (layer y)) b)
  layer_apart Steps-F.Done a b = refl
  layer_apart Steps-F.Nowhere a b = refl
  layer_apart (Steps-F.Then s rest) a b = ap (moved rest.now.0) (stepped-either s a b) ∙ rest.now.1.apart_is (stepped p points s a) (stepped p points s b)

  layer_none : (y : Steps-F Known) → taken_step p points (map-Steps Steps (Places → Places) moved (layer y)) no_places ≡ no_places
  layer_none Steps-F.Done = refl
  layer_none Steps-F.Nowhere = refl
  layer_none (Steps-F.Then s rest) = ap (moved rest.now.0) (stepped-none s) ∙ rest.now.1.none_is

  known_layer : (y : Steps-F Known) → IsKnown (roll-Steps (layer y))
  known_layer y = record {
    apart_is = λ a b. ap (λ f. f (either_of a b)) (rolled (layer y)) ∙ layer_apart y a b ∙ ap (λ f. either_of (f a) (f b)) (sym (rolled (layer y)));
    none_is = ap (λ f. f no_places) (rolled (layer y)) ∙ layer_none y;
  }

  known : (s : Steps) → IsKnown s
  known = ind-Steps IsKnown (λ x y is. subst (λ z. IsKnown (roll-Steps z)) is (known_layer y))

  pub taken-either : (s : Steps) (a b : Places) → taken p points s (either_of a b) ≡ either_of (taken p points s a) (taken p points s b)
  taken-either s = (known s).apart_is

  pub taken-none : (s : Steps) → taken p points s no_places ≡ no_places
  taken-none s = (known s).none_is

  -- ---- where a value may point

  pub value_itself : (d : Denoted) → d.form.is_place ≡ false → value_points p points d ≡ named_by d
  value_itself d e = fun_ext (λ l. ap (λ t. if t && is_array d.form.type then part_of p part.Element d.places l else (if t then is_pointer d.form.type && targets p points d.places l else d.points l)) e ∙ ap (λ t. (if t then d.places else d.points) l) (sym e))

  pub value_of_array : (d : Denoted) → d.form.is_place ≡ true → is_array d.form.type ≡ true → value_points p points d ≡ part_of p part.Element (named_by d)
  value_of_array d e is = fun_ext (λ l. ap (λ t. if t && is_array d.form.type then part_of p part.Element d.places l else (if t then is_pointer d.form.type && targets p points d.places l else d.points l)) e ∙ ap (λ t. if t then part_of p part.Element d.places l else (is_pointer d.form.type && targets p points d.places l)) is ∙ ap (λ t. part_of p part.Element (if t then d.places else d.points) l) (sym e))

  pub value_of_pointer : (d : Denoted) → d.form.is_place ≡ true → is_array d.form.type ≡ false → is_pointer d.form.type ≡ true → value_points p points d ≡ targets p points (named_by d)
  value_of_pointer d e not_array is = fun_ext (λ l. ap (λ t. if t && is_array d.form.type then part_of p part.Element d.places l else (if t then is_pointer d.form.type && targets p points d.places l else d.points l)) e ∙ ap (λ t. if t then part_of p part.Element d.places l else (is_pointer d.form.type && targets p points d.places l)) not_array ∙ ap (λ t. t && targets p points d.places l) is ∙ ap (λ t. targets p points (if t then d.places else d.points) l) (sym e))

  pub value_nowhere : (d : Denoted) → d.form.is_place ≡ true → is_array d.form.type ≡ false → is_pointer d.form.type ≡ false → value_points p points d ≡ no_places
  value_nowhere d e not_array not_pointer = fun_ext (λ l. ap (λ t. if t && is_array d.form.type then part_of p part.Element d.places l else (if t then is_pointer d.form.type && targets p points d.places l else d.points l)) e ∙ ap (λ t. if t then part_of p part.Element d.places l else (is_pointer d.form.type && targets p points d.places l)) not_array ∙ ap (λ t. t && targets p points d.places l) not_pointer)
