-- What is true of each statement of a tree that is syntax, where it is true of a form whose parts have it.
use Rattle.std.proofs.Common.{◌≡◌, List, [], ◌∷◌, map, Bool, true, Option, Some, None, refl, sym, ap, ◌∙◌}
use Rattle.std.proofs.lemmas.Bool.{and_parts, and_from}
use Rattle.c_tree.specs.declared.raw.statement.RawArm.{RawArm, roll-RawArm, map-RawArm, fold-roll-RawArm}
use Rattle.c_tree.specs.declared.raw.statement.RawStatement.{RawStatement, roll-RawStatement, map-RawStatement, fold-roll-RawStatement}
use Rattle.c_tree.specs.declared.raw.statement.RawStatement.TheOpen.{RawStatement-F, RawArm-F}
use Rattle.c_tree.proofs.RawTrees.{StatementParts, ArmParts, statement_layer, arm_layer, of_every_statement}
use Rattle.c_language.specs.Lists.{all_true}
use Rattle.c_language.specs.Syntax.{is_there, is_label, is_expr, Position, inner, final, first, step, takes_compound, stands_step, arm_step, stands, is_arm, is_body}
use Rattle.std.specs.List.{list_all}
use Rattle.text_syntax.proofs.Forms.{are_inner}

-- a form, with what its parts may stand as
abbrev pub standing : RawStatement-F RawStatement RawArm → RawStatement-F (Position → Bool) Bool
standing = map-RawStatement RawStatement RawArm (Position → Bool) Bool stands is_arm

abbrev pub standing_arm : RawArm-F RawStatement RawArm → RawArm-F (Position → Bool) Bool
standing_arm = map-RawArm RawStatement RawArm (Position → Bool) Bool stands is_arm

module _ (F : RawStatement → Type 0) where
  abbrev pub AllAre : List RawStatement → Type 0
  AllAre [] = Unit {0}
  AllAre (x ∷ xs) = F x × AllAre xs

  abbrev pub PartIs : Option RawStatement → Type 0
  PartIs None = Unit {0}
  PartIs (Some x) = F x

module _ (G : RawArm → Type 0) where
  abbrev pub ArmsAre : List RawArm → Type 0
  ArmsAre [] = Unit {0}
  ArmsAre (a ∷ arms) = G a × ArmsAre arms

module _ (F : RawStatement → Type 0) (G : RawArm → Type 0) where
  -- each part of a form has the fact
  abbrev pub PartsAre : RawStatement-F RawStatement RawArm → Type 0
  PartsAre (RawStatement-F.Declare l v i) = Unit {0}
  PartsAre (RawStatement-F.Assign l a op b) = Unit {0}
  PartsAre (RawStatement-F.Bump l a up before) = Unit {0}
  PartsAre (RawStatement-F.Call l to f args) = Unit {0}
  PartsAre (RawStatement-F.Heap l to cast n) = Unit {0}
  PartsAre (RawStatement-F.If l a b c) = AllAre F b × AllAre F c
  PartsAre (RawStatement-F.While l a b) = AllAre F b
  PartsAre (RawStatement-F.Do l a b) = AllAre F b
  PartsAre (RawStatement-F.For l i a k b) = PartIs F i × PartIs F k × AllAre F b
  PartsAre (RawStatement-F.Switch l a arms) = ArmsAre G arms
  PartsAre (RawStatement-F.Block l b) = AllAre F b
  PartsAre (RawStatement-F.Return l a) = Unit {0}

-- The fact is asked for where a statement may stand as `may` says, and each part may.
module _ (F : RawStatement → Type 0) (G : RawArm → Type 0) (may : Position → Bool) (in_list : may inner ≡ true) (as_first : may first ≡ true) (as_step : may step ≡ true) where
  abbrev Given : RawStatement → Type 0
  Given x = (p : Position) → may p ≡ true → stands x p ≡ true → F x

  abbrev ArmGiven : RawArm → Type 0
  ArmGiven a = is_arm a ≡ true → G a

  abbrev bare : List ((x : RawStatement) × Given x) → List RawStatement
  bare = map (λ (x : (y : RawStatement) × Given y). x.0)

  abbrev bare_arms : List ((a : RawArm) × ArmGiven a) → List RawArm
  bare_arms = map (λ (a : (b : RawArm) × ArmGiven b). a.0)

  all_given : (xs : List ((x : RawStatement) × Given x)) → are_inner (bare xs) ≡ true → AllAre F (bare xs)
  all_given [] h = tt
  all_given (x ∷ xs) h = let p = and_parts (stands x.0 inner) (are_inner (bare xs)) h in (x.1 inner in_list p.0, all_given xs p.1)

  arms_given : (xs : List ((a : RawArm) × ArmGiven a)) → all_true (map is_arm (bare_arms xs)) ≡ true → ArmsAre G (bare_arms xs)
  arms_given [] h = tt
  arms_given (a ∷ arms) h = let p = and_parts (is_arm a.0) (all_true (map is_arm (bare_arms arms))) h in (a.1 p.0, arms_given arms p.1)

  abbrev shape : StatementParts Given ArmGiven → RawStatement-F RawStatement RawArm
  shape = statement_layer Given ArmGiven

  parts_given : (y : StatementParts Given ArmGiven) (p : Position) → stands_step (standing (shape y)) p ≡ true → PartsAre F G (shape y)
  parts_given (RawStatement-F.Declare l v i) p h = tt
  parts_given (RawStatement-F.Assign l a op b) p h = tt
  parts_given (RawStatement-F.Bump l a up before) p h = tt
  parts_given (RawStatement-F.Call l to f args) p h = tt
  parts_given (RawStatement-F.Heap l to cast n) p h = tt
  parts_given (RawStatement-F.If l a b c) p h =
      let q = and_parts (are_inner (bare b)) (are_inner (bare c)) (and_parts (is_expr a) _ (and_parts (takes_compound p) _ h).1).1 in
      (all_given b q.0, all_given c q.1)
  parts_given (RawStatement-F.While l a b) p h = all_given b (and_parts (is_expr a) _ (and_parts (takes_compound p) _ h).1).1
  parts_given (RawStatement-F.Do l a b) p h = all_given b (and_parts (is_expr a) _ (and_parts (takes_compound p) _ h).1).1
  parts_given (RawStatement-F.For l None a None b) p h = (tt, tt, all_given b (and_parts (is_expr a) _ (and_parts (takes_compound p) _ h).1).1)
  parts_given (RawStatement-F.For l None a (Some k) b) p h =
      let q = and_parts (stands k.0 step) _ (and_parts (is_expr a) _ (and_parts (takes_compound p) _ h).1).1 in
      (tt, k.1 step as_step q.0, all_given b q.1)
  parts_given (RawStatement-F.For l (Some i) a None b) p h =
      let q = and_parts (stands i.0 first) _ (and_parts (takes_compound p) _ h).1 in
      (i.1 first as_first q.0, tt, all_given b (and_parts (is_expr a) _ q.1).1)
  parts_given (RawStatement-F.For l (Some i) a (Some k) b) p h =
      let q = and_parts (stands i.0 first) _ (and_parts (takes_compound p) _ h).1 in
      let r = and_parts (stands k.0 step) _ (and_parts (is_expr a) _ q.1).1 in
      (i.1 first as_first q.0, k.1 step as_step r.0, all_given b r.1)
  parts_given (RawStatement-F.Switch l a arms) p h = arms_given arms (and_parts (is_expr a) _ (and_parts (takes_compound p) _ h).1).1
  parts_given (RawStatement-F.Block l b) p h = all_given b (and_parts (takes_compound p) _ h).1
  parts_given (RawStatement-F.Return l a) p h = tt

  module _ (layer : (y : RawStatement-F RawStatement RawArm) (p : Position) → may p ≡ true → stands_step (standing y) p ≡ true → PartsAre F G y → F (roll-RawStatement y))
      (arm : (y : RawArm-F RawStatement RawArm) → arm_step (standing_arm y) ≡ true → AllAre F y.body → G (roll-RawArm y)) where
    of_layer : (y : StatementParts Given ArmGiven) → Given (roll-RawStatement (shape y))
    of_layer y p m h =
        let e = ap (λ (f : Position → Bool). f p) (sym (fold-roll-RawStatement (Position → Bool) Bool stands_step arm_step (shape y))) ∙ h in
        layer (shape y) p m e (parts_given y p e)

    of_arm : (y : ArmParts Given ArmGiven) → ArmGiven (roll-RawArm (arm_layer Given ArmGiven y))
    of_arm y h =
        let e = sym (fold-roll-RawArm (Position → Bool) Bool stands_step arm_step (arm_layer Given ArmGiven y)) ∙ h in
        arm (arm_layer Given ArmGiven y) e (all_given y.body (and_parts (list_all is_label y.labels) _ (and_parts (is_there y.labels) _ e).1).1)

    -- each statement that is syntax has the fact
    pub statement_gives : (x : RawStatement) (p : Position) → may p ≡ true → stands x p ≡ true → F x
    statement_gives = of_every_statement Given ArmGiven of_layer of_arm

    pub list_gives : (xs : List RawStatement) → are_inner xs ≡ true → AllAre F xs
    list_gives [] h = tt
    list_gives (x ∷ xs) h = let p = and_parts (stands x inner) (are_inner xs) h in (statement_gives x inner in_list p.0, list_gives xs p.1)

    -- and so has each of the body of a function, where it is asked for at its end, too
    pub body_gives : may final ≡ true → (xs : List RawStatement) → is_body xs ≡ true → AllAre F xs
    body_gives m [] h = tt
    body_gives m (x ∷ []) h = (statement_gives x final m h, tt)
    body_gives m (x ∷ (y ∷ ys)) h = let p = and_parts (stands x inner) (is_body (y ∷ ys)) h in (statement_gives x inner in_list p.0, body_gives m (y ∷ ys) p.1)

-- ---- facts that are tests

abbrev pub Passes : (RawStatement → Bool) → RawStatement → Type 0
Passes f x = f x ≡ true

abbrev pub ArmPasses : (RawArm → Bool) → RawArm → Type 0
ArmPasses g a = g a ≡ true

pub all_pass : (f : RawStatement → Bool) (xs : List RawStatement) → AllAre (Passes f) xs → all_true (map f xs) ≡ true
all_pass f [] h = refl
all_pass f (x ∷ xs) h = and_from _ _ h.0 (all_pass f xs h.1)

pub arms_pass : (g : RawArm → Bool) (arms : List RawArm) → ArmsAre (ArmPasses g) arms → all_true (map g arms) ≡ true
arms_pass g [] h = refl
arms_pass g (a ∷ arms) h = and_from _ _ h.0 (arms_pass g arms h.1)
