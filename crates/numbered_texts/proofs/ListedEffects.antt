-- What a function modifies and uses of what is seen outside of it is listed among the program's locations, where the variables that its
-- statements name are the program's own.
use Rattle.std.proofs.Common.{◌≡◌, ℕ, ◌⊎◌, inl, inr, true, length, Option, Some, None, ap, ◌∙◌, ltb-true}
use Rattle.std.specs.Prelude.{nat_lt, Contains}
use Rattle.std.specs.List.{list_all}
use Rattle.std.proofs.lemmas.Bool.{false≢true, and_parts, or_cases}
use Rattle.c_tree.specs.declared.expr.Expr.{Expr}
use Rattle.c_tree.specs.declared.program.Init.{Init}
use Rattle.c_tree.specs.declared.program.Init.TheVariants as init
use Rattle.c_tree.specs.declared.program.Program.{Program}
use Rattle.c_tree.specs.declared.statement.Target.{Target}
use Rattle.c_tree.specs.declared.statement.Target.TheVariants as target
use Rattle.c_language.specs.Code.{Act, Begins, Sets, Bumps, Fetches, Writes, Prints, Allocates, Frees, Returns, Tests}
use Rattle.dep_model.specs.NamesBelow.{names_below}
use Rattle.dep_model.specs.declared.location.Location.{Location}
use Rattle.dep_model.specs.declared.location.Part.TheVariants as part
use Rattle.dep_model.specs.Denoted.{Places, TargetsOf, whole, expr_places}
use Rattle.dep_model.specs.Doings.{Doing, Does, Calls, program_doings, doings_of}
use Rattle.dep_model.specs.DoingEffects.{the_input, result_of, any_reads, target_reads, target_places, init_places, returned_places, act_defines, doing_uses, doing_defines}
use Rattle.dep_model.specs.ListedLocations.{IsListed}
use Rattle.dep_model.specs.Locations.{same_location}
use Rattle.dep_model.specs.ModRef.{is_outside, Modifies, MayUse}
use Rattle.dep_model.specs.DoingNames.{init_below, target_below, act_below, doing_below}
use Rattle.dep_model.proofs.DoingForms.{contained_passes}
use Rattle.numbered_texts.proofs.Listed.{locations_are, whole_listed, input_listed, part_lists, expr_fine, all_used, target_used, act_used, of_function}

module _ (p : Program) (points : TargetsOf) where
  abbrev n : ℕ
  n = length p.vars

  -- those of some locations that are seen outside of functions are listed
  abbrev ListsOutside : Places → Type 0
  ListsOutside places = (l : Location) → is_outside p l ≡ true → places l ≡ true → IsListed p l

  -- ---- what statements define

  place_defined : (e : Expr) → names_below n e ≡ true → ListsOutside (expr_places p points e)
  place_defined e h l out is = (expr_fine p points e h).places l is

  target_defined : (to : Target) → target_below n to ≡ true → ListsOutside (target_places p points to)
  target_defined target.None h l out is = absurd (false≢true is)
  target_defined (target.Place e) h l out is = place_defined e h l out is
  target_defined (target.Declared x) h l out is = whole_listed p x (ltb-true x n h) l is

  init_defined : (x : ℕ) (i : Init) → nat_lt x n ≡ true → ListsOutside (init_places p points x i)
  init_defined x init.None h l out is = absurd (false≢true is)
  init_defined x (init.One e) h l out is = whole_listed p x (ltb-true x n h) l is
  init_defined x (init.Items es) h l out is = part_lists p points part.Element (whole x) l is

  -- a result isn't seen outside of its function
  returned_inside : (f : ℕ) (e : Option Expr) → ListsOutside (returned_places p points f e)
  returned_inside f None l out is = absurd (false≢true is)
  returned_inside f (Some e) l out is = absurd (false≢true (ap (is_outside p) (locations_are (result_of f) l is) ∙ out))

  act_defined : (f : ℕ) (a : Act) → act_below n a ≡ true → ListsOutside (act_defines p points f a)
  act_defined f (Begins x i) h l out is = init_defined x i (and_parts (nat_lt x n) (init_below n i) h).0 l out is
  act_defined f (Sets left op right) h l out is = place_defined left (and_parts (names_below n left) (names_below n right) h).0 l out is
  act_defined f (Bumps left up) h l out is = place_defined left h l out is
  act_defined f (Fetches to) h l out is =
      elim (or_cases (same_location the_input l) (target_places p points to l) is) [ inl t ↦ input_listed p l t | inr t ↦ target_defined to h l out t ]
  act_defined f (Writes e) h l out is = absurd (false≢true is)
  act_defined f (Prints format args) h l out is = absurd (false≢true is)
  act_defined f (Allocates to k) h l out is = target_defined to (and_parts (target_below n to) _ h).0 l out is
  act_defined f (Frees e) h l out is = absurd (false≢true is)
  act_defined f (Returns e) h l out is = returned_inside f e l out is
  act_defined f (Tests e) h l out is = absurd (false≢true is)

  doing_defined : (f : ℕ) (d : Doing) → doing_below n d ≡ true → ListsOutside (doing_defines p points f d)
  doing_defined f (Does i a) h l out is = act_defined f a h l out is
  doing_defined f (Calls i to g args) h l out is = target_defined to (and_parts (target_below n to) (list_all (names_below n) args) h).0 l out is

  -- ---- what they use

  doing_used : (d : Doing) → doing_below n d ≡ true → (l : Location) → doing_uses p points d l ≡ true → IsListed p l
  doing_used (Does i a) h l is = act_used p points a h l is
  doing_used (Calls i to g args) h l is =
      let k = and_parts (target_below n to) (list_all (names_below n) args) h in
      elim (or_cases (any_reads p points args l) (target_reads p points to l) is) [ inl t ↦ all_used p points args k.1 l t | inr t ↦ target_used p points to k.0 l t ]

  -- ---- what functions modify and use

  module _ (below : list_all (doing_below n) (program_doings p) ≡ true) where
    member_below : (f : ℕ) (d : Doing) → Contains (doings_of p f) d → doing_below n d ≡ true
    member_below f d c = contained_passes (doing_below n) (doings_of p f) d (of_function p points below p.functions f below) c

    modified_listed : (f : ℕ) (l : Location) → Modifies p points f l → IsListed p l
    modified_listed f l m = doing_defined m.function m.doing (member_below m.function m.doing m.member) l m.outside m.defined

    used_listed : (f : ℕ) (l : Location) → MayUse p points f l → IsListed p l
    used_listed f l m = doing_used m.doing (member_below m.function m.doing m.member) l m.used

    pub effects_listed : (f : ℕ) (l : Location) → Modifies p points f l ⊎ MayUse p points f l → IsListed p l
    effects_listed f l (inl m) = modified_listed f l m
    effects_listed f l (inr m) = used_listed f l m
