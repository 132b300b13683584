-- The kept statements of a statement refer to a variable exactly where what one of them does names it.
use Rattle.std.proofs.Common.{◌≡◌, ℕ, zero, suc, ◌+◌, List, [], ◌∷◌, ◌++◌, map, Option, Some, None, Bool, true, false, ◌&&◌, ◌||◌, inl, inr, refl, sym, ap, ap₂, ◌∙◌, subst, arith}
use Rattle.std.specs.Prelude.{if◌then◌else◌, slice_get}
use Rattle.std.specs.List.{list_any}
use Rattle.std.proofs.lemmas.Bool.{and_parts, or_cases, or_left, or_right}
use Rattle.std.proofs.lemmas.Option.{same_Some}
use Rattle.c_language.proofs.Tests.{false_true}
use Rattle.c_tree.specs.declared.expr.Expr.{Expr}
use Rattle.c_tree.specs.declared.program.Function.{Function}
use Rattle.c_tree.specs.declared.statement.Arm.{Arm, roll-Arm, map-Arm, fold-roll-Arm}
use Rattle.c_tree.specs.declared.statement.Statement.{Statement, ind-Statement, roll-Statement, map-Statement, fold-roll-Statement}
use Rattle.c_tree.specs.declared.statement.Statement.TheOpen.{Statement-F, Arm-F}
use Rattle.c_language.specs.Code.{Tests}
use Rattle.c_language.specs.Names.{names, any_names, target_names, act_names}
use Rattle.dep_model.specs.Doings.{Doing, Does, Calls, doing_number, joined, doing_step, doing_arm, doings, body_doings, functions_doings}
use Rattle.dep_model.proofs.DoingForms.{arm_doings}
use Rattle.dep_model.proofs.Membership.{IsIn}
use Rattle.projection.specs.Kept.{KeptWords, chosen}
use Rattle.hanging_sets.specs.NamedBy.{doing_names}
use Rattle.projection.specs.Names.{any_of, call_names, refers_step, refers_arm, refers, arm_refers, body_refers}

or_none : (b : Bool) → b ≡ (b || false)
or_none true = refl
or_none false = refl

or_joined : (a b c : Bool) → (a || (b || c)) ≡ ((a || b) || c)
or_joined true b c = refl
or_joined false b c = refl

module _ (k : KeptWords) where
  -- whether a statement is kept, and its kept words name a variable
  abbrev pub kept_names : Doing → ℕ → Bool
  kept_names (Does i a) x = k.statement i && act_names a x
  kept_names (Calls i to f args) x = k.statement i && call_names k i to args x

  abbrev pub any_named : List Doing → ℕ → Bool
  any_named [] x = false
  any_named (d ∷ ds) x = kept_names d x || any_named ds x

  pub any-append : (ds es : List Doing) (x : ℕ) → any_named (ds ++ es) x ≡ (any_named ds x || any_named es x)
  any-append [] es x = refl
  any-append (d ∷ ds) es x = ap (λ b. kept_names d x || b) (any-append ds es x) ∙ or_joined (kept_names d x) (any_named ds x) (any_named es x)

  abbrev Same : Statement → Type 0
  Same y = (x : ℕ) → refers k y x ≡ any_named (doings y) x

  abbrev ArmSame : Arm → Type 0
  ArmSame a = (x : ℕ) → arm_refers k a x ≡ any_named (arm_doings a) x

  abbrev Layer : Type 0
  Layer = Statement-F ((y : Statement) × Same y) ((a : Arm) × ArmSame a)

  abbrev bodies : List ((y : Statement) × Same y) → List Statement
  bodies ys = map (λ (y : (z : Statement) × Same z). y.0) ys

  abbrev bodies_of_arms : List ((a : Arm) × ArmSame a) → List Arm
  bodies_of_arms ys = map (λ (y : (a : Arm) × ArmSame a). y.0) ys

  abbrev shape : Layer → Statement-F Statement Arm
  shape = map-Statement ((y : Statement) × Same y) ((a : Arm) × ArmSame a) Statement Arm (λ y. y.0) (λ y. y.0)

  abbrev names_at : Statement-F Statement Arm → ℕ → Bool
  names_at y = refers_step k (map-Statement Statement Arm (ℕ → Bool) (ℕ → Bool) (refers k) (arm_refers k) y)

  abbrev does_at : Statement-F Statement Arm → List Doing
  does_at y = doing_step (map-Statement Statement Arm (List Doing) (List Doing) doings arm_doings y)

  all_same : (ys : List ((y : Statement) × Same y)) (x : ℕ) → any_of (map (refers k) (bodies ys)) x ≡ any_named (joined (map doings (bodies ys))) x
  all_same [] x = refl
  all_same (y ∷ ys) x = ap₂ (λ a b. a || b) (y.1 x) (all_same ys x) ∙ sym (any-append (doings y.0) (joined (map doings (bodies ys))) x)

  arms_same : (ys : List ((a : Arm) × ArmSame a)) (x : ℕ) → any_of (map (arm_refers k) (bodies_of_arms ys)) x ≡ any_named (joined (map arm_doings (bodies_of_arms ys))) x
  arms_same [] x = refl
  arms_same (y ∷ ys) x = ap₂ (λ a b. a || b) (y.1 x) (arms_same ys x) ∙ sym (any-append (arm_doings y.0) (joined (map arm_doings (bodies_of_arms ys))) x)

  two_same : (a b : Bool) (ds es : List Doing) (x : ℕ) → a ≡ any_named ds x → b ≡ any_named es x → (a || b) ≡ any_named (ds ++ es) x
  two_same a b ds es x p q = ap₂ (λ c d. c || d) p q ∙ sym (any-append ds es x)

  layer_same : (y : Layer) (x : ℕ) → names_at (shape y) x ≡ any_named (does_at (shape y)) x
  layer_same (Statement-F.Declare None l v i) x = refl
  layer_same (Statement-F.Declare (Some id) l v i) x = or_none _
  layer_same (Statement-F.Assign id l a op b) x = or_none _
  layer_same (Statement-F.Bump id l a up before) x = or_none _
  layer_same (Statement-F.Invoke id l to f args) x = or_none _
  layer_same (Statement-F.Fetch id l to) x = or_none _
  layer_same (Statement-F.Write id l e) x = or_none _
  layer_same (Statement-F.Print id l format args) x = or_none _
  layer_same (Statement-F.Heap id l to cast n) x = or_none _
  layer_same (Statement-F.Release id l e) x = or_none _
  layer_same (Statement-F.Return id l e) x = or_none _
  layer_same (Statement-F.If id l e a b) x = ap (λ r. kept_names (Does id (Tests e)) x || r) (two_same _ _ (joined (map doings (bodies a))) (joined (map doings (bodies b))) x (all_same a x) (all_same b x))
  layer_same (Statement-F.While id l e b) x = ap (λ r. kept_names (Does id (Tests e)) x || r) (all_same b x)
  layer_same (Statement-F.Do id l e b) x = ap (λ r. kept_names (Does id (Tests e)) x || r) (all_same b x)
  layer_same (Statement-F.For id l None e None b) x = ap (λ r. kept_names (Does id (Tests e)) x || r) (all_same b x)
  layer_same (Statement-F.For id l None e (Some n) b) x =
      ap (λ r. kept_names (Does id (Tests e)) x || r) (two_same _ _ (doings n.0) (joined (map doings (bodies b))) x (n.1 x) (all_same b x))
  layer_same (Statement-F.For id l (Some i) e None b) x =
      ap (λ r. kept_names (Does id (Tests e)) x || r) (two_same _ _ (doings i.0) (joined (map doings (bodies b))) x (i.1 x) (all_same b x))
  layer_same (Statement-F.For id l (Some i) e (Some n) b) x =
      ap (λ r. kept_names (Does id (Tests e)) x || r)
      (two_same _ _ (doings i.0) (doings n.0 ++ joined (map doings (bodies b))) x (i.1 x) (two_same _ _ (doings n.0) (joined (map doings (bodies b))) x (n.1 x) (all_same b x)))
  layer_same (Statement-F.Switch id l e arms) x = ap (λ r. kept_names (Does id (Tests e)) x || r) (arms_same arms x)
  layer_same (Statement-F.Block l b) x = all_same b x

  abbrev ArmLayer : Type 0
  ArmLayer = Arm-F ((y : Statement) × Same y) ((a : Arm) × ArmSame a)

  abbrev arm_shape : ArmLayer → Arm-F Statement Arm
  arm_shape = map-Arm ((y : Statement) × Same y) ((a : Arm) × ArmSame a) Statement Arm (λ y. y.0) (λ y. y.0)

  pub refers_doings : (y : Statement) → Same y
  refers_doings = ind-Statement Same ArmSame
      (λ z y is. subst (λ w. Same (roll-Statement w)) is (λ x.
      ap (λ (f : ℕ → Bool). f x) (fold-roll-Statement (ℕ → Bool) (ℕ → Bool) (refers_step k) (refers_arm k) (shape y)) ∙ layer_same y x
      ∙ ap (λ (ds : List Doing). any_named ds x) (sym (fold-roll-Statement (List Doing) (List Doing) doing_step doing_arm (shape y)))))
      (λ z y is. subst (λ w. ArmSame (roll-Arm w)) is (λ x.
      ap (λ (f : ℕ → Bool). f x) (fold-roll-Arm (ℕ → Bool) (ℕ → Bool) (refers_step k) (refers_arm k) (arm_shape y)) ∙ all_same y.body x
      ∙ ap (λ (ds : List Doing). any_named ds x) (sym (fold-roll-Arm (List Doing) (List Doing) doing_step doing_arm (arm_shape y)))))

  body_same : (ys : List Statement) (x : ℕ) → body_refers k ys x ≡ any_named (body_doings ys) x
  body_same [] x = refl
  body_same (y ∷ ys) x = ap₂ (λ a b. a || b) (refers_doings y x) (body_same ys x) ∙ sym (any-append (doings y) (body_doings ys) x)

  pub functions_same : (fs : List Function) (x : ℕ) → list_any (λ (f : Function). body_refers k f.body x) fs ≡ any_named (functions_doings fs) x
  functions_same [] x = refl
  functions_same (f ∷ fs) x = ap₂ (λ a b. a || b) (body_same f.body x) (functions_same fs x) ∙ sym (any-append (body_doings f.body) (functions_doings fs) x)

  -- one of them
  pub named_of_in : (ds : List Doing) (d : Doing) (x : ℕ) → IsIn ds d → kept_names d x ≡ true → any_named ds x ≡ true
  named_of_in [] d x m h = absurd m
  named_of_in (e ∷ ds) d x (inl q) h = or_left (kept_names e x) _ (subst (λ z. kept_names z x ≡ true) (sym q) h)
  named_of_in (e ∷ ds) d x (inr m) h = or_right (kept_names e x) _ (named_of_in ds d x m h)

  pub record NamesIt (ds : List Doing) (x : ℕ) : Type 0 where
    pub doing : Doing
    pub member : IsIn ds doing
    pub names : kept_names doing x ≡ true

  pub in_of_named : (ds : List Doing) (x : ℕ) → any_named ds x ≡ true → NamesIt ds x
  in_of_named [] x h = false_true h
  in_of_named (d ∷ ds) x h = elim (or_cases (kept_names d x) (any_named ds x) h) [
    | inl a ↦ record { doing = d; member = inl refl; names = a }
    | inr b ↦ let w = in_of_named ds x b in record { doing = w.doing; member = inr w.member; names = w.names }
  ]

-- ---- words that name a variable

none_at : {A : Type 0} {B : Type 0} (k : ℕ) (x : A) → slice_get {X = A} [] k ≡ Some x → B
none_at k x h = cc

-- an argument that a call keeps names it
pub record KeepsNaming (test : ℕ → Bool) (k : ℕ) (args : List Expr) (x : ℕ) : Type 0 where
  pub place : ℕ
  pub argument : Expr
  pub at : slice_get args place ≡ Some argument
  pub kept : test (k + place) ≡ true
  pub named : names argument x ≡ true

pub kept_naming : (test : ℕ → Bool) (k : ℕ) (args : List Expr) (x : ℕ) → any_names (chosen test k args) x ≡ true → KeepsNaming test k args x
kept_naming test k [] x h = false_true h
kept_naming test k (e ∷ es) x h = by_test (test k) refl (λ r. kept_naming test (suc k) es x r) h
  where
    later : KeepsNaming test (suc k) es x → KeepsNaming test k (e ∷ es) x
    later w = let z : suc k + w.place ≡ k + suc w.place = omega arith in record { place = suc w.place; argument = w.argument; at = w.at; kept = subst (λ (m : ℕ). test m ≡ true) z w.kept; named = w.named }

    by_test : (b : Bool) → test k ≡ b → (any_names (chosen test (suc k) es) x ≡ true → KeepsNaming test (suc k) es x) → any_names (if b then e ∷ chosen test (suc k) es else chosen test (suc k) es) x ≡ true → KeepsNaming test k (e ∷ es) x
    by_test true q more r = elim (or_cases (names e x) (any_names (chosen test (suc k) es) x) r) [
      | inl a ↦ let z : k ≡ k + 0 = omega arith in record { place = 0; argument = e; at = refl; kept = subst (λ (m : ℕ). test m ≡ true) z q; named = a }
      | inr b ↦ later (more b)
    ]
    by_test false q more r = later (more r)

named_at : (args : List Expr) (n x : ℕ) (e : Expr) → slice_get args n ≡ Some e → names e x ≡ true → any_names args x ≡ true
named_at [] n x e at h = none_at n e at
named_at (y ∷ ys) zero x e at h = or_left (names y x) _ (ap (λ (z : Expr). names z x) (same_Some _ _ at) ∙ h)
named_at (y ∷ ys) (suc n) x e at h = or_right (names y x) _ (named_at ys n x e at h)

-- what kept words name, words name
pub kept_named : (k : KeptWords) (d : Doing) (x : ℕ) → kept_names k d x ≡ true → doing_names d x ≡ true
kept_named k (Does i a) x h = (and_parts (k.statement i) (act_names a x) h).1
kept_named k (Calls i to g args) x h = elim (or_cases (k.result i && target_names to x) (any_names (chosen (k.argument i) 0 args) x) (and_parts (k.statement i) (call_names k i to args x) h).1) [
  | inl b ↦ or_left (target_names to x) _ (and_parts (k.result i) (target_names to x) b).1
  | inr b ↦ let w = kept_naming (k.argument i) 0 args x b in or_right (target_names to x) _ (named_at args w.place x w.argument w.at w.named)
]

pub kept_number : (k : KeptWords) (d : Doing) (x : ℕ) → kept_names k d x ≡ true → k.statement (doing_number d) ≡ true
kept_number k (Does i a) x h = (and_parts (k.statement i) (act_names a x) h).0
kept_number k (Calls i to g args) x h = (and_parts (k.statement i) (call_names k i to args x) h).0
