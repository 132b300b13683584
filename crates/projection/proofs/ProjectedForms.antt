-- What stays of statements, one after another, and of a for.
use Rattle.std.proofs.Common.{◌≡◌, ℕ, ◌+◌, ◌<◌, List, ◌++◌, map, length, get_or, drop, append_assoc, Option, Some, None, sym, ap, ◌∙◌}
use Rattle.c_language.proofs.Turns.{drop_turn}
use Rattle.c_tree.specs.declared.expr.Expr.{Expr}
use Rattle.c_tree.specs.declared.statement.Arm.{Arm}
use Rattle.c_tree.specs.declared.statement.Statement.{Statement, fold-roll-Statement}
use Rattle.c_tree.specs.declared.statement.Statement.TheOpen.{Statement-F}
use Rattle.c_tree.specs.declared.statement.Statement.TheVariants as s
use Rattle.projection.specs.declared.statements.Selection.{Selection}
use Rattle.projection.specs.Projection.{flat, projected_step, projected_arm_step}
use Rattle.projection.specs.Selected.{kept_by, numbers, left, all_left, part_left, for_left}

-- a turn of a loop that appends what a function gives for each member
pub flat_turn : {X Y : Type 0} (f : X → List Y) (xs : List X) (i : ℕ) (x : X) (old new whole : List Y) → i < length xs → x ≡ get_or xs i x → new ≡ old ++ f x
    → old ++ flat (map f (drop i xs)) ≡ whole → new ++ flat (map f (drop (i + 1) xs)) ≡ whole
flat_turn f xs i x old new whole within is added inv =
    let rest : List _ = flat (map f (drop (i + 1) xs)) in
    ap (λ z. z ++ rest) added ∙ append_assoc old (f x) rest ∙ ap (λ z. old ++ flat (map f z)) (sym (drop_turn xs i x within is)) ∙ inv

module _ (c : Selection) where
  folded_for : (id l : ℕ) (i : Option Statement) (a : Expr) (step : Option Statement) (b : List Statement) → left c (s.For id l i a step b) ≡ for_left c id l (part_left c i) a (part_left c step) (all_left c b)
  folded_for id l None a None b =
      ap (left c) (sym (s.rolls-For id l None a None b)) ∙ fold-roll-Statement (List Statement) Arm (projected_step (kept_by c) (numbers c)) (projected_arm_step (kept_by c) (numbers c)) (Statement-F.For id l None a None b)
  folded_for id l None a (Some y) b =
      ap (left c) (sym (s.rolls-For id l None a (Some y) b)) ∙ fold-roll-Statement (List Statement) Arm (projected_step (kept_by c) (numbers c)) (projected_arm_step (kept_by c) (numbers c)) (Statement-F.For id l None a (Some y) b)
  folded_for id l (Some x) a None b =
      ap (left c) (sym (s.rolls-For id l (Some x) a None b)) ∙ fold-roll-Statement (List Statement) Arm (projected_step (kept_by c) (numbers c)) (projected_arm_step (kept_by c) (numbers c)) (Statement-F.For id l (Some x) a None b)
  folded_for id l (Some x) a (Some y) b =
      ap (left c) (sym (s.rolls-For id l (Some x) a (Some y) b)) ∙ fold-roll-Statement (List Statement) Arm (projected_step (kept_by c) (numbers c)) (projected_arm_step (kept_by c) (numbers c)) (Statement-F.For id l (Some x) a (Some y) b)

  -- a for whose parts have been looked at
  pub for_is_left : (id l : ℕ) (i : Option Statement) (a : Expr) (step : Option Statement) (b : List Statement) (i_left step_left : Option Statement) (b_left : List Statement)
      → i_left ≡ part_left c i → step_left ≡ part_left c step → b_left ≡ all_left c b → for_left c id l i_left a step_left b_left ≡ left c (s.For id l i a step b)
  for_is_left id l i a step b i_left step_left b_left first next inside = rw (first, next, inside) (sym (folded_for id l i a step b))
