-- What a statement kills lies in a variable that is killable, or is the input, or is the result of its function.
use Rattle.std.proofs.Common.{◌≡◌, ℕ, Option, Some, None, Bool, true, false, ◌&&◌, inl, inr, refl, sym, ap, ◌∙◌}
use Rattle.std.specs.List.{list_any}
use Rattle.std.proofs.lemmas.Bool.{false≢true, and_parts, or_cases}
use Rattle.c_tree.specs.declared.expr.Expr.{Expr}
use Rattle.c_tree.specs.declared.program.Init.{Init}
use Rattle.c_tree.specs.declared.program.Init.TheVariants as init
use Rattle.c_tree.specs.declared.program.Program.{Program}
use Rattle.c_tree.specs.declared.statement.Target.{Target}
use Rattle.c_tree.specs.declared.statement.Target.TheVariants as target
use Rattle.c_language.specs.Code.{Act, Begins, Sets, Bumps, Fetches, Writes, Prints, Allocates, Frees, Returns, Tests}
use Rattle.dep_model.specs.declared.location.Location.{Location}
use Rattle.dep_model.specs.declared.location.Part.TheVariants as part
use Rattle.dep_model.specs.declared.location.Root.TheVariants.{Variable}
use Rattle.dep_model.specs.Denoted as denoted
use Rattle.dep_model.specs.Denoted.{TargetsOf, variable, part_of, is_location, expr_places}
use Rattle.dep_model.specs.Designated.{designated}
use Rattle.dep_model.specs.DoingEffects.{the_input, result_of, is_killable, named_kills, left_kills, target_kills, act_kills}
use Rattle.dep_model.specs.Locations.{TypedLocation, locations, same_location}
use Rattle.run_facts.proofs.SelectedPlaces.{any_there, selected_from}
use Rattle.simulation_locations.proofs.SameLocations.{location_is}

pub data IsKilled (p : Program) (f : ℕ) (l : Location) : Type 0 where
  in_variable : (x : ℕ) → l.root ≡ Variable x → is_killable p x ≡ true → IsKilled p f l
  of_input : l ≡ the_input → IsKilled p f l
  of_result : l ≡ result_of f → IsKilled p f l

module _ (p : Program) (points : TargetsOf) (f : ℕ) where
  left_killed : (e : Expr) (l : Location) → left_kills p points e l ≡ true → IsKilled p f l
  left_killed e l h = by_name (designated p e).name refl h
    where
      by_name : (o : Option ℕ) → (designated p e).name ≡ o → named_kills p points o (expr_places p points e) l ≡ true → IsKilled p f l
      by_name None same kl = absurd (false≢true kl)
      by_name (Some x) same kl =
          let parts = and_parts (is_killable p x) (expr_places p points e l) kl in
          in_variable x (ap (λ (k : Location). k.root) ((selected_from p points None e x same).location_is l parts.1)) parts.0

  whole_killed : (x : ℕ) (l : Location) → (is_killable p x && denoted.whole x l) ≡ true → IsKilled p f l
  whole_killed x l h =
      let parts = and_parts (is_killable p x) (denoted.whole x l) h in
      in_variable x (ap (λ (k : Location). k.root) (sym (location_is (variable x) l parts.1))) parts.0

  elements_killed : (x : ℕ) (l : Location) → (is_killable p x && part_of p part.Element (denoted.whole x) l) ≡ true → IsKilled p f l
  elements_killed x l h =
      let parts = and_parts (is_killable p x) (part_of p part.Element (denoted.whole x) l) h in
      let test : TypedLocation → Bool = λ o. denoted.whole x o.location && same_location (denoted.inside o.location part.Element) l in
      let o = any_there test (locations p) (and_parts (is_location p l) (list_any test (locations p)) parts.1).1 in
      let both = and_parts (denoted.whole x o.0.location) (same_location (denoted.inside o.0.location part.Element) l) o.1 in
      let array : Variable x ≡ o.0.location.root = ap (λ (k : Location). k.root) (location_is (variable x) o.0.location both.0) in
      let element : o.0.location.root ≡ l.root = ap (λ (k : Location). k.root) (location_is (denoted.inside o.0.location part.Element) l both.1) in
      in_variable x (sym (array ∙ element)) parts.0

  begun_killed : (x : ℕ) (i : Init) (l : Location) → act_kills p points f (Begins x i) l ≡ true → IsKilled p f l
  begun_killed x init.None l h = absurd (false≢true (and_parts (is_killable p x) false h).1)
  begun_killed x (init.One e) l h = whole_killed x l h
  begun_killed x (init.Items es) l h = elements_killed x l h

  pub target_killed : (to : Target) (l : Location) → target_kills p points to l ≡ true → IsKilled p f l
  target_killed target.None l h = absurd (false≢true h)
  target_killed (target.Place e) l h = left_killed e l h
  target_killed (target.Declared x) l h = whole_killed x l h

  pub act_killed : (a : Act) (l : Location) → act_kills p points f a l ≡ true → IsKilled p f l
  act_killed (Begins x i) l h = begun_killed x i l h
  act_killed (Sets left op right) l h = left_killed left l h
  act_killed (Bumps left up) l h = left_killed left l h
  act_killed (Fetches to) l h =
      elim (or_cases (same_location the_input l) (target_kills p points to l) h) [ inl e ↦ of_input (sym (location_is the_input l e)) | inr e ↦ target_killed to l e ]
  act_killed (Writes e) l h = absurd (false≢true h)
  act_killed (Prints format args) l h = absurd (false≢true h)
  act_killed (Allocates to n) l h = target_killed to l h
  act_killed (Frees e) l h = absurd (false≢true h)
  act_killed (Returns None) l h = absurd (false≢true h)
  act_killed (Returns (Some e)) l h = of_result (sym (location_is (result_of f) l h))
  act_killed (Tests e) l h = absurd (false≢true h)
