-- Trees that are syntax by their outermost form.
use Rattle.std.proofs.Common.{◌≡◌, ℕ, ◌≤◌, List, [], ◌∷◌, ◌++◌, map, Bool, true, ◌&&◌, Option, refl, sym, ap, ◌∙◌, arith, ◌⊎◌, inl, inr}
use Rattle.std.specs.Prelude.{nat_le}
use Rattle.std.specs.List.{list_all}
use Rattle.std.proofs.lemmas.Bool.{and_from, and_parts}
use Rattle.std.proofs.lemmas.Bool.Decides.{nat_tests}
use Rattle.c_tree.specs.declared.raw.expr.RawExpr.{RawExpr, roll-RawExpr, map-RawExpr, fold-roll-RawExpr}
use Rattle.c_tree.specs.declared.raw.expr.RawExpr.TheOpen.{RawExpr-F}
use Rattle.c_tree.specs.declared.raw.expr.RawType.{RawType, roll-RawType, map-RawType, fold-roll-RawType}
use Rattle.c_tree.specs.declared.raw.expr.RawType.TheOpen.{RawType-F}
use Rattle.c_tree.specs.declared.raw.statement.RawArm.{RawArm, fold-roll-RawArm}
use Rattle.c_tree.specs.declared.raw.statement.RawLabel.{RawLabel}
use Rattle.c_tree.specs.declared.raw.statement.RawStatement.{RawStatement, roll-RawStatement, map-RawStatement, out-RawStatement, fold_out-RawStatement, fold-roll-RawStatement}
use Rattle.c_tree.specs.declared.raw.statement.RawStatement.TheOpen.{RawStatement-F}
use Rattle.c_tree.specs.declared.raw.statement.RawTarget.{RawTarget}
use Rattle.c_tree.specs.declared.raw.statement.RawTarget.TheVariants as target
use Rattle.c_tree.specs.declared.raw.statement.RawStatement.TheVariants as s
use Rattle.c_tree.proofs.RawTrees.{statement_layer, of_every_statement}
use Rattle.c_language.specs.StatementGrammar.{arm}
use Rattle.c_language.specs.Syntax.{is_there, binds_step, binds, Extent, reaches_step, reaches, Position, inner, final, is_target, is_call, is_stored, is_heap, all_inner, is_label, stands_step, arm_step, stands, is_arm}

pub at_most : {n m : ℕ} → n ≤ m → nat_le n m ≡ true
at_most h = grind (arith, nat_tests)

pub expr_by : {a : RawExpr} (n : ℕ) (y : RawExpr-F RawExpr) → roll-RawExpr y ≡ a → binds_step (map-RawExpr RawExpr (ℕ → Bool) binds y) n ≡ true → binds a n ≡ true
expr_by n y is h = ap (λ (a : RawExpr). binds a n) (sym is) ∙ ap (λ (f : ℕ → Bool). f n) (fold-roll-RawExpr (ℕ → Bool) binds_step y) ∙ h

pub type_by : {a : RawType} (x : Extent) (y : RawType-F RawType) → roll-RawType y ≡ a → reaches_step (map-RawType RawType (Extent → Bool) reaches y) x ≡ true → reaches a x ≡ true
type_by x y is h = ap (λ (a : RawType). reaches a x) (sym is) ∙ ap (λ (f : Extent → Bool). f x) (fold-roll-RawType (Extent → Bool) reaches_step y) ∙ h

pub stands_by : {a : RawStatement} (p : Position) (y : RawStatement-F RawStatement RawArm) → roll-RawStatement y ≡ a
    → stands_step (map-RawStatement RawStatement RawArm (Position → Bool) Bool stands is_arm y) p ≡ true → stands a p ≡ true
stands_by p y is h = ap (λ (a : RawStatement). stands a p) (sym is) ∙ ap (λ (f : Position → Bool). f p) (fold-roll-RawStatement (Position → Bool) Bool stands_step arm_step y) ∙ h

-- a list of statements
abbrev pub are_inner : List RawStatement → Bool
are_inner all = all_inner (map stands all)

pub arm_by : (labels : List RawLabel) (body : List RawStatement) → is_there labels ≡ true → list_all is_label labels ≡ true → are_inner body ≡ true → is_arm (arm labels body) ≡ true
arm_by labels body h k j = fold-roll-RawArm (Position → Bool) Bool stands_step arm_step (record { labels = labels; body = body }) ∙ and_from _ _ h (and_from _ _ k j)

pub inner_append : (xs ys : List RawStatement) → are_inner xs ≡ true → are_inner ys ≡ true → are_inner (xs ++ ys) ≡ true
inner_append [] ys h k = k
inner_append (x ∷ xs) ys h k = let p = and_parts (stands x inner) (are_inner xs) h in and_from _ _ p.0 (inner_append xs ys p.1 k)

-- ---- where statements stand

target_ends : (to : RawTarget) → is_target inner to ≡ true → is_target final to ≡ true
target_ends target.None h = h
target_ends (target.Place a) h = h
target_ends (target.Declared v) h = h

step_ends : (y : RawStatement-F (Position → Bool) Bool) → stands_step y inner ≡ true → stands_step y final ≡ true
step_ends (RawStatement-F.Declare l v i) h = h
step_ends (RawStatement-F.Assign l a op b) h = h
step_ends (RawStatement-F.Bump l a up before) h = h
step_ends (RawStatement-F.Call l to f args) h = let p = and_parts (is_target inner to) (is_call f args) h in and_from _ _ (target_ends to p.0) p.1
step_ends (RawStatement-F.Heap l to cast n) h = let p = and_parts (is_target inner to) (is_stored to && is_heap cast n) h in and_from _ _ (target_ends to p.0) p.1
step_ends (RawStatement-F.If l a body other) h = h
step_ends (RawStatement-F.While l a b) h = h
step_ends (RawStatement-F.Do l a b) h = h
step_ends (RawStatement-F.For l i a k b) h = h
step_ends (RawStatement-F.Switch l a arms) h = h
step_ends (RawStatement-F.Block l b) h = h
step_ends (RawStatement-F.Return l a) h = absurd cc

-- what may stand in a list may end a function
pub ends_too : (x : RawStatement) → stands x inner ≡ true → stands x final ≡ true
ends_too x h =
    let y = map-RawStatement RawStatement RawArm (Position → Bool) Bool stands is_arm (out-RawStatement x) in
    let e : (p : Position) → stands x p ≡ stands_step y p = λ p. ap (λ (f : Position → Bool). f p) (fold_out-RawStatement (Position → Bool) Bool stands_step arm_step x) in
    e final ∙ step_ends y (sym (e inner) ∙ h)

target_stays : (to : RawTarget) → is_target final to ≡ true → is_target inner to ≡ true
target_stays target.None h = h
target_stays (target.Place a) h = h
target_stays (target.Declared v) h = h

module _ (is_return : RawStatement → Bool) (returns : (l : ℕ) (a : Option RawExpr) → is_return (s.Return l a) ≡ true) where
  abbrev EndsAs : RawStatement → Type 0
  EndsAs x = stands x final ≡ true → (stands x inner ≡ true) ⊎ (is_return x ≡ true)

  step_stays : (y : RawStatement-F (Position → Bool) Bool) (x : RawStatement) → stands_step y final ≡ true → ((l : ℕ) (a : Option RawExpr) → y ≡ RawStatement-F.Return l a → is_return x ≡ true)
      → (stands_step y inner ≡ true) ⊎ (is_return x ≡ true)
  step_stays (RawStatement-F.Declare l v i) x h r = inl h
  step_stays (RawStatement-F.Assign l a op b) x h r = inl h
  step_stays (RawStatement-F.Bump l a up before) x h r = inl h
  step_stays (RawStatement-F.Call l to f args) x h r = let p = and_parts (is_target final to) (is_call f args) h in inl (and_from _ _ (target_stays to p.0) p.1)
  step_stays (RawStatement-F.Heap l to cast n) x h r = let p = and_parts (is_target final to) (is_stored to && is_heap cast n) h in inl (and_from _ _ (target_stays to p.0) p.1)
  step_stays (RawStatement-F.If l a body other) x h r = inl h
  step_stays (RawStatement-F.While l a b) x h r = inl h
  step_stays (RawStatement-F.Do l a b) x h r = inl h
  step_stays (RawStatement-F.For l i a k b) x h r = inl h
  step_stays (RawStatement-F.Switch l a arms) x h r = inl h
  step_stays (RawStatement-F.Block l b) x h r = inl h
  step_stays (RawStatement-F.Return l a) x h r = inr (r l a refl)

  return_layer : (y : RawStatement-F RawStatement RawArm) (l : ℕ) (a : Option RawExpr) → map-RawStatement RawStatement RawArm (Position → Bool) Bool stands is_arm y ≡ RawStatement-F.Return l a → is_return (roll-RawStatement y) ≡ true
  return_layer (RawStatement-F.Return m b) l a e = ap is_return (s.rolls-Return m b) ∙ returns m b
  return_layer (RawStatement-F.Declare m v i) l a e = absurd cc
  return_layer (RawStatement-F.Assign m b op c) l a e = absurd cc
  return_layer (RawStatement-F.Bump m b up before) l a e = absurd cc
  return_layer (RawStatement-F.Call m to f args) l a e = absurd cc
  return_layer (RawStatement-F.Heap m to cast n) l a e = absurd cc
  return_layer (RawStatement-F.If m b body other) l a e = absurd cc
  return_layer (RawStatement-F.While m b body) l a e = absurd cc
  return_layer (RawStatement-F.Do m b body) l a e = absurd cc
  return_layer (RawStatement-F.For m i b k body) l a e = absurd cc
  return_layer (RawStatement-F.Switch m b arms) l a e = absurd cc
  return_layer (RawStatement-F.Block m body) l a e = absurd cc

  as_inner : (x : RawStatement) {b : Bool} → stands x inner ≡ b → (b ≡ true) ⊎ (is_return x ≡ true) → (stands x inner ≡ true) ⊎ (is_return x ≡ true)
  as_inner x e (inl h) = inl (e ∙ h)
  as_inner x e (inr h) = inr h

  -- what may end a function may stand in a list, or is a return
  pub ends_as : (x : RawStatement) → EndsAs x
  ends_as = of_every_statement EndsAs (λ a. Unit {0})
      (λ y h.
      let z = statement_layer EndsAs (λ a. Unit {0}) y in
      let e : (p : Position) → stands (roll-RawStatement z) p ≡ stands_step (map-RawStatement RawStatement RawArm (Position → Bool) Bool stands is_arm z) p = λ p. ap (λ (f : Position → Bool). f p) (fold-roll-RawStatement (Position → Bool) Bool stands_step arm_step z) in
      as_inner (roll-RawStatement z) (e inner) (step_stays (map-RawStatement RawStatement RawArm (Position → Bool) Bool stands is_arm z) (roll-RawStatement z) (sym (e final) ∙ h) (return_layer z)))
      (λ y. tt)
