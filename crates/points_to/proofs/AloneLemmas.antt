-- The pointings of one statement, by what it defines and what it stores there.
use Rattle.std.proofs.Common.{◌≡◌, ◌||◌, ℕ, List, [], ◌∷◌, Bool, false, Option, Some, None, refl, sym, ap, ◌∙◌}
use Rattle.c_tree.specs.declared.expr.Expr.{Expr}
use Rattle.c_tree.specs.declared.program.Init.{Init}
use Rattle.c_tree.specs.declared.program.Init.TheVariants as init
use Rattle.c_tree.specs.declared.program.Program.{Program}
use Rattle.c_tree.specs.declared.statement.Statement.{Statement}
use Rattle.c_tree.specs.declared.statement.Target.{Target}
use Rattle.c_language.specs.Code.{Begins, Returns}
use Rattle.dep_model.specs.declared.location.Part.TheVariants as part
use Rattle.dep_model.specs.Denoted.{Places, TargetsOf, whole, part_of, expr_points}
use Rattle.dep_model.specs.Doings.{Doing, Does, Calls}
use Rattle.dep_model.specs.DoingEffects.{result_of, target_places, init_places, returned_places, doing_defines}
use Rattle.dep_model.specs.LocationRows.{points_of}
use Rattle.dep_model.specs.MayPoint.{pointing, parameters, listed, init_pointings, returned, passed, doing_pointings}
use Rattle.effect_rows.specs.Own.{own_doing, own_defines, defines_of}
use Rattle.mod_ref.specs.Own.{one_of, own_doings}
use Rattle.points_to.specs.declared.solver.Solver.{Solver}
use Rattle.points_to.specs.Sweeps.{Standing, standing, IsReady, IsUsed, IsSwept, stored, init_given, returned_given, given_by}
use Rattle.points_to.proofs.SweepLemmas.{used_moved, swept_moved, swept_none, swept_one, swept_both, swept_same}
use Rattle.points_to.proofs.ValueLemmas.{alone_gives, passed_widens}

module _ (p : Program) (f : ℕ) (s : Statement) where
  -- what a statement gives is what it does itself gives
  own_gives : (d : Doing) (points : TargetsOf) → own_doing s ≡ Some d → given_by p f (own_doings s) points ≡ doing_pointings p points f d
  own_gives d points own = ap (λ o. given_by p f (one_of o) points) own ∙ alone_gives p f d points

  -- a statement that gives nothing
  pub alone_none : (t : Standing) (new : Solver) → IsReady new → new.effects ≡ p → standing new ≡ t → ((points : TargetsOf) → given_by p f (own_doings s) points ≡ []) → IsSwept p (given_by p f (own_doings s)) t new false
  alone_none t new ready program points none = swept_none p (given_by p f (own_doings s)) t new ready program points none

  pub does_nothing : own_doing s ≡ None → (points : TargetsOf) → given_by p f (own_doings s) points ≡ []
  does_nothing own points = ap (λ o. given_by p f (one_of o) points) own

  pub gives_nothing : (d : Doing) → own_doing s ≡ Some d → ((points : TargetsOf) → doing_pointings p points f d ≡ []) → (points : TargetsOf) → given_by p f (own_doings s) points ≡ []
  gives_nothing d own none points = own_gives d points own ∙ none points

  module _ (t : Standing) (mid new : Solver) (program : mid.effects ≡ p) (same : standing mid ≡ t) where
    -- a statement that stores one value in what it defines
    pub alone_one : (d : Doing) (from : Program → TargetsOf → Places) (b : Bool) → own_doing s ≡ Some d → ((points : TargetsOf) → doing_pointings p points f d ≡ pointing (doing_defines p points f d) (from p points) ∷ [])
        → IsUsed mid.effects (pointing (own_defines p (points_of p t.points) f s) (from mid.effects (points_of mid.effects mid.points))) (standing mid) new b → IsSwept p (given_by p f (own_doings s)) t new b
    alone_one d from b own is used =
        let into : own_defines p (points_of p t.points) f s ≡ doing_defines p (points_of p t.points) f d = ap (defines_of p (points_of p t.points) f) own in
        let moved = used_moved p t (λ q u. pointing (own_defines p (points_of p t.points) f s) (from q (points_of q u))) mid new b program same used in
        swept_one p (given_by p f (own_doings s)) (pointing (own_defines p (points_of p t.points) f s) (from p (points_of p t.points))) t new b
        (own_gives d (points_of p t.points) own ∙ is (points_of p t.points) ∙ ap (λ (places : Places). pointing places (from p (points_of p t.points)) ∷ []) (sym into)) moved

    -- a declaration with what the object begins with
    pub alone_init : (id x : ℕ) (i : Init) (b : Bool) → own_doing s ≡ Some (Does id (Begins x i)) → IsSwept mid.effects (init_given mid.effects (own_defines p (points_of p t.points) f s) i) (standing mid) new b → IsSwept p (given_by p f (own_doings s)) t new b
    alone_init id x i b own swept =
        let into : own_defines p (points_of p t.points) f s ≡ init_places p (points_of p t.points) x i = ap (defines_of p (points_of p t.points) f) own in
        let moved = swept_moved p t (λ q. init_given q (own_defines p (points_of p t.points) f s) i) mid new b program same swept in
        swept_same p (init_given p (own_defines p (points_of p t.points) f s) i) (given_by p f (own_doings s)) t new b
        (λ points. own_gives (Does id (Begins x i)) points own ∙ begun points (points_of p t.points) i ∙ ap (λ places. init_given p places i points) (sym into)) moved
      where
        items : (points : TargetsOf) (es : List Expr) → listed p points x es ≡ stored p (part_of p part.Element (whole x)) es points
        items points [] = refl
        items points (e ∷ es) = ap (λ as_. pointing (part_of p part.Element (whole x)) (expr_points p points e) ∷ as_) (items points es)

        begun : (points others : TargetsOf) (i : Init) → init_pointings p points x i ≡ init_given p (init_places p others x i) i points
        begun points others init.None = refl
        begun points others (init.One e) = refl
        begun points others (init.Items es) = items points es

    -- a return
    pub alone_return : (id : ℕ) (e : Option Expr) (b : Bool) → own_doing s ≡ Some (Does id (Returns e)) → IsSwept mid.effects (returned_given mid.effects (own_defines p (points_of p t.points) f s) e) (standing mid) new b → IsSwept p (given_by p f (own_doings s)) t new b
    alone_return id e b own swept =
        let into : own_defines p (points_of p t.points) f s ≡ returned_places p (points_of p t.points) f e = ap (defines_of p (points_of p t.points) f) own in
        let moved = swept_moved p t (λ q. returned_given q (own_defines p (points_of p t.points) f s) e) mid new b program same swept in
        swept_same p (returned_given p (own_defines p (points_of p t.points) f s) e) (given_by p f (own_doings s)) t new b
        (λ points. own_gives (Does id (Returns e)) points own ∙ given points (points_of p t.points) e ∙ ap (λ places. returned_given p places e points) (sym into)) moved
      where
        given : (points others : TargetsOf) (e : Option Expr) → returned p points f e ≡ returned_given p (returned_places p others f e) e points
        given points others None = refl
        given points others (Some e) = refl

    -- a call, whose result is stored and whose arguments are passed
    pub alone_call : (id g : ℕ) (to : Target) (args : List Expr) (last : Solver) (b c : Bool) → own_doing s ≡ Some (Calls id to g args) → IsUsed mid.effects (pointing (own_defines p (points_of p t.points) f s) (points_of mid.effects mid.points (result_of g))) (standing mid) new b
        → IsSwept new.effects (λ points. passed new.effects points (parameters new.effects g) args) (standing new) last c → IsSwept p (given_by p f (own_doings s)) t last (b || c)
    alone_call id g to args last b c own used swept =
        let into : own_defines p (points_of p t.points) f s ≡ target_places p (points_of p t.points) to = ap (defines_of p (points_of p t.points) f) own in
        let moved = used_moved p t (λ q u. pointing (own_defines p (points_of p t.points) f s) (points_of q u (result_of g))) mid new b program same used in
        let stores = swept_one p (λ points. pointing (target_places p points to) (points (result_of g)) ∷ []) (pointing (own_defines p (points_of p t.points) f s) (points_of p t.points (result_of g))) t new b
        (ap (λ (places : Places). pointing places (points_of p t.points (result_of g)) ∷ []) (sym into)) moved in
        swept_both p (λ points. pointing (target_places p points to) (points (result_of g)) ∷ []) (given_by p f (own_doings s)) (λ q points. passed q points (parameters q g) args) t new last b c
        (λ points. own_gives (Calls id to g args) points own) (passed_widens p (parameters p g) args) stores swept
