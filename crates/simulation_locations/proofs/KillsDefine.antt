-- What kills a location may define it.
use Rattle.std.proofs.Common.{◌≡◌, ℕ, Bool, true, false, ◌||◌, Option, Some, None, refl}
use Rattle.std.proofs.lemmas.Bool.{false≢true, and_parts}
use Rattle.c_tree.specs.declared.expr.Expr.{Expr}
use Rattle.c_tree.specs.declared.program.Program.{Program}
use Rattle.c_tree.specs.declared.statement.Target.{Target}
use Rattle.c_tree.specs.declared.statement.Target.TheVariants as target
use Rattle.c_language.specs.Code.{Act, Begins, Sets, Bumps, Fetches, Writes, Prints, Allocates, Frees, Returns, Tests}
use Rattle.dep_model.specs.declared.location.Location.{Location}
use Rattle.dep_model.specs.declared.vertex.Slot.TheVariants.{Result}
use Rattle.dep_model.specs.Denoted.{Places, TargetsOf, whole, expr_places}
use Rattle.dep_model.specs.Designated.{designated}
use Rattle.dep_model.specs.Doings.{Doing, Does, Calls}
use Rattle.dep_model.specs.DoingEffects.{the_input, is_killable, named_kills, left_kills, target_kills, target_places, init_places, act_kills, act_defines}
use Rattle.dep_model.specs.Locations.{same_location}
use Rattle.dep_model.specs.VertexOrder.{statement_kills, statement_defines, out_kills, out_defines}

module _ (p : Program) (points : TargetsOf) (l : Location) where
  named_define : (o : Option ℕ) (places : Places) → named_kills p points o places l ≡ true → places l ≡ true
  named_define None places e = absurd (false≢true e)
  named_define (Some x) places e = (and_parts (is_killable p x) (places l) e).1

  left_define : (e : Expr) → left_kills p points e l ≡ true → expr_places p points e l ≡ true
  left_define e h = named_define (designated p e).name (expr_places p points e) h

  target_define : (to : Target) → target_kills p points to l ≡ true → target_places p points to l ≡ true
  target_define target.None e = absurd (false≢true e)
  target_define (target.Place x) e = left_define x e
  target_define (target.Declared x) e = (and_parts (is_killable p x) (whole x l) e).1

  either_true : (b c d : Bool) → (b || c) ≡ true → (c ≡ true → d ≡ true) → (b || d) ≡ true
  either_true true c d e h = refl
  either_true false c d e h = h e

  act_define : (f : ℕ) (x : Act) → act_kills p points f x l ≡ true → act_defines p points f x l ≡ true
  act_define f (Begins x i) e = (and_parts (is_killable p x) (init_places p points x i l) e).1
  act_define f (Sets left op right) e = left_define left e
  act_define f (Bumps left up) e = left_define left e
  act_define f (Fetches to) e = either_true (same_location the_input l) (target_kills p points to l) (target_places p points to l) e (target_define to)
  act_define f (Writes x) e = absurd (false≢true e)
  act_define f (Prints format args) e = absurd (false≢true e)
  act_define f (Allocates to n) e = target_define to e
  act_define f (Frees x) e = absurd (false≢true e)
  act_define f (Returns x) e = e
  act_define f (Tests x) e = absurd (false≢true e)

  pub statement_define : (f : ℕ) (o : Option Doing) → statement_kills p points f o l ≡ true → statement_defines p points f o l ≡ true
  statement_define f None e = absurd (false≢true e)
  statement_define f (Some (Does i x)) e = act_define f x e
  statement_define f (Some (Calls i to g args)) e = absurd (false≢true e)

  pub result_define : (f : ℕ) (o : Option Doing) → out_kills p points f o Result l ≡ true → out_defines p points f o Result l ≡ true
  result_define f None e = absurd (false≢true e)
  result_define f (Some (Does i x)) e = absurd (false≢true e)
  result_define f (Some (Calls i to g args)) e = target_define to e
