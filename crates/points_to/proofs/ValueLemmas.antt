-- Values are stored one after another.
use Rattle.std.proofs.Common.{◌≡◌, ◌||◌, ℕ, ◌+◌, ◌<◌, List, [], ◌∷◌, ◌++◌, length, take, get_or, Bool, append-nil, refl, sym, ap, ◌∙◌}
use Rattle.std.proofs.lemmas.List.{take_more}
use Rattle.c_tree.specs.declared.expr.Expr.{Expr}
use Rattle.c_tree.specs.declared.program.Program.{Program}
use Rattle.dep_model.specs.Denoted.{Places, TargetsOf, whole, expr_points}
use Rattle.dep_model.specs.Doings.{Doing}
use Rattle.dep_model.specs.LocationRows.{points_of}
use Rattle.dep_model.specs.MayPoint.{pointing, passed, doing_pointings}
use Rattle.points_laws.proofs.Wider.{one_given, value_wider, passed_wider}
use Rattle.points_to.specs.declared.solver.Solver.{Solver}
use Rattle.points_to.specs.Sweeps.{Standing, standing, IsSwept, IsUsed, stored, given_by}
use Rattle.points_to.proofs.SweepLemmas.{AreWidening, used_moved, swept_one, swept_then, swept_both}

-- one statement alone gives what it does
pub alone_gives : (p : Program) (f : ℕ) (d : Doing) (points : TargetsOf) → given_by p f (d ∷ []) points ≡ doing_pointings p points f d
alone_gives p f d points = append-nil (doing_pointings p points f d)

-- by more pairs a value gives no less
value_widens : (p : Program) (into : Places) (e : Expr) → AreWidening (λ points. pointing into (expr_points p points e) ∷ [])
value_widens p into e first second lies = one_given (pointing into (expr_points p first e)) (pointing into (expr_points p second e)) (λ l h. h) (value_wider p first second lies e)

-- ---- values that are stored in the same locations

stored_append : (p : Program) (into : Places) (es fs : List Expr) (points : TargetsOf) → stored p into (es ++ fs) points ≡ stored p into es points ++ stored p into fs points
stored_append p into [] fs points = refl
stored_append p into (e ∷ es) fs points = ap (λ as_. pointing into (expr_points p points e) ∷ as_) (stored_append p into es fs points)

-- a value more
pub stored_turn : (p : Program) (into : Places) (values : List Expr) (i : ℕ) (e : Expr) (t : Standing) (mid new : Solver) (b c : Bool) → i < length values → e ≡ get_or values i e → IsSwept p (stored p into (take i values)) t mid b
    → IsUsed mid.effects (pointing into (expr_points mid.effects (points_of mid.effects mid.points) e)) (standing mid) new c → IsSwept p (stored p into (take (i + 1) values)) t new (b || c)
stored_turn p into values i e t mid new b c low at before one =
    let used = used_moved p (standing mid) (λ q u. pointing into (expr_points q (points_of q u) e)) mid new c before.program_stays refl one in
    let more : take (i + 1) values ≡ take i values ++ e ∷ [] = take_more values i e low ∙ ap (λ x. take i values ++ x ∷ []) (sym at) in
    swept_then p (stored p into (take i values)) (λ points. pointing into (expr_points p points e) ∷ []) (stored p into (take (i + 1) values)) t mid new b c
    (λ points. ap (λ es. stored p into es points) more ∙ stored_append p into (take i values) (e ∷ []) points) (value_widens p into e) before
    (swept_one p (λ points. pointing into (expr_points p points e) ∷ []) (pointing into (expr_points p (points_of p mid.points) e)) (standing mid) new c refl used)

-- ---- arguments

pub passed_widens : (p : Program) (xs : List ℕ) (es : List Expr) → AreWidening (λ points. passed p points xs es)
passed_widens p xs es first second lies = passed_wider p first second lies xs es

pub passed_turn : (p : Program) (x : ℕ) (xs : List ℕ) (e : Expr) (es : List Expr) (t : Standing) (mid new : Solver) (b c : Bool) → IsUsed p (pointing (whole x) (expr_points p (points_of p t.points) e)) t mid b
    → IsSwept mid.effects (λ points. passed mid.effects points xs es) (standing mid) new c → IsSwept p (λ points. passed p points (x ∷ xs) (e ∷ es)) t new (b || c)
passed_turn p x xs e es t mid new b c one two =
    swept_both p (λ points. pointing (whole x) (expr_points p points e) ∷ []) (λ points. passed p points (x ∷ xs) (e ∷ es)) (λ q points. passed q points xs es) t mid new b c (λ points. refl) (passed_widens p xs es)
    (swept_one p (λ points. pointing (whole x) (expr_points p points e) ∷ []) (pointing (whole x) (expr_points p (points_of p t.points) e)) t mid b refl one) two
