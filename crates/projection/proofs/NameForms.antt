-- The variables that the forms of statement refer to, as equations.
use Rattle.std.proofs.Common.{◌≡◌, ℕ, List, [], ◌∷◌, map, Option, Some, None, Bool, false, ◌&&◌, ◌||◌, ◌⊎◌, inl, inr, refl, sym, ap, ◌∙◌}
use Rattle.c_tree.specs.declared.expr.Expr.{Expr}
use Rattle.c_tree.specs.declared.statement.Statement.{Statement, fold-roll-Statement}
use Rattle.c_tree.specs.declared.statement.Statement.TheOpen.{Statement-F}
use Rattle.c_tree.specs.declared.statement.Statement.TheVariants as s
use Rattle.c_tree.specs.declared.statement.Arm.{Arm, fold-roll-Arm}
use Rattle.c_arith.specs.declared.operators.BinaryOp.{BinaryOp}
use Rattle.c_tree.specs.declared.program.Init.{Init}
use Rattle.c_tree.specs.declared.statement.Amount.{Amount}
use Rattle.c_tree.specs.declared.statement.Target.{Target}
use Rattle.c_tree.specs.declared.types.CType.{CType}
use Rattle.c_language.specs.Words.{Bytes}
use Rattle.c_language.specs.Names.{names, any_names, target_names, amount_names, value_names}
use Rattle.projection.specs.Kept.{KeptWords}
use Rattle.projection.specs.Names.{any_of, begun_names, call_names, refers_step, refers_arm, refers, arm_refers, body_refers}
use Rattle.projection.specs.Referring.{part_refers, arms_refer}

module _ (keeps : KeptWords) where
  pub any_of-body : (b : List Statement) (x : ℕ) → any_of (map (refers keeps) b) x ≡ body_refers keeps b x
  any_of-body [] x = refl
  any_of-body (y ∷ b) x = ap (λ r. refers keeps y x || r) (any_of-body b x)

  arm_is : (a : Arm) (x : ℕ) → arm_refers keeps a x ≡ body_refers keeps a.body x
  arm_is a x =
      ap (λ (f : ℕ → Bool). f x) (fold-roll-Arm (ℕ → Bool) (ℕ → Bool) (refers_step keeps) (refers_arm keeps) (record { labels = a.labels; body = a.body })) ∙ any_of-body a.body x

  any_of-arms : (arms : List Arm) (x : ℕ) → any_of (map (arm_refers keeps) arms) x ≡ arms_refer keeps arms x
  any_of-arms [] x = refl
  any_of-arms (a ∷ arms) x = ap (λ r. r || any_of (map (arm_refers keeps) arms) x) (arm_is a x) ∙ ap (λ r. body_refers keeps a.body x || r) (any_of-arms arms x)

  pub refers-Block : (l : ℕ) (b : List Statement) (x : ℕ) → refers keeps (s.Block l b) x ≡ body_refers keeps b x
  refers-Block l b x =
      ap (λ t. refers keeps t x) (sym (s.rolls-Block l b)) ∙ ap (λ (f : ℕ → Bool). f x) (fold-roll-Statement (ℕ → Bool) (ℕ → Bool) (refers_step keeps) (refers_arm keeps) (Statement-F.Block l b)) ∙ any_of-body b x

  pub refers-If : (id l : ℕ) (e : Expr) (a b : List Statement) (x : ℕ) → refers keeps (s.If id l e a b) x ≡ ((keeps.statement id && names e x) || (body_refers keeps a x || body_refers keeps b x))
  refers-If id l e a b x =
      ap (λ t. refers keeps t x) (sym (s.rolls-If id l e a b)) ∙ ap (λ (f : ℕ → Bool). f x) (fold-roll-Statement (ℕ → Bool) (ℕ → Bool) (refers_step keeps) (refers_arm keeps) (Statement-F.If id l e a b)) ∙ (ap (λ r. (keeps.statement id && names e x) || (r || any_of (map (refers keeps) b) x)) (any_of-body a x) ∙ ap (λ r. (keeps.statement id && names e x) || (body_refers keeps a x || r)) (any_of-body b x))

  refers-While : (id l : ℕ) (e : Expr) (b : List Statement) (x : ℕ) → refers keeps (s.While id l e b) x ≡ ((keeps.statement id && names e x) || body_refers keeps b x)
  refers-While id l e b x =
      ap (λ t. refers keeps t x) (sym (s.rolls-While id l e b)) ∙ ap (λ (f : ℕ → Bool). f x) (fold-roll-Statement (ℕ → Bool) (ℕ → Bool) (refers_step keeps) (refers_arm keeps) (Statement-F.While id l e b)) ∙ ap (λ r. (keeps.statement id && names e x) || r) (any_of-body b x)

  refers-Do : (id l : ℕ) (e : Expr) (b : List Statement) (x : ℕ) → refers keeps (s.Do id l e b) x ≡ ((keeps.statement id && names e x) || body_refers keeps b x)
  refers-Do id l e b x =
      ap (λ t. refers keeps t x) (sym (s.rolls-Do id l e b)) ∙ ap (λ (f : ℕ → Bool). f x) (fold-roll-Statement (ℕ → Bool) (ℕ → Bool) (refers_step keeps) (refers_arm keeps) (Statement-F.Do id l e b)) ∙ ap (λ r. (keeps.statement id && names e x) || r) (any_of-body b x)

  -- both loops that test alone refer to what their tests and bodies do
  pub refers_loop : (t : Statement) (id : ℕ) (e : Expr) (b : List Statement) → ((l : ℕ) × (t ≡ s.While id l e b)) ⊎ ((l : ℕ) × (t ≡ s.Do id l e b)) → (x : ℕ) → refers keeps t x ≡ ((keeps.statement id && names e x) || body_refers keeps b x)
  refers_loop t id e b (inl (l, is)) x = ap (λ z. refers keeps z x) is ∙ refers-While id l e b x
  refers_loop t id e b (inr (l, is)) x = ap (λ z. refers keeps z x) is ∙ refers-Do id l e b x

  pub refers-Switch : (id l : ℕ) (e : Expr) (arms : List Arm) (x : ℕ) → refers keeps (s.Switch id l e arms) x ≡ ((keeps.statement id && names e x) || arms_refer keeps arms x)
  refers-Switch id l e arms x =
      ap (λ t. refers keeps t x) (sym (s.rolls-Switch id l e arms)) ∙ ap (λ (f : ℕ → Bool). f x) (fold-roll-Statement (ℕ → Bool) (ℕ → Bool) (refers_step keeps) (refers_arm keeps) (Statement-F.Switch id l e arms)) ∙ ap (λ r. (keeps.statement id && names e x) || r) (any_of-arms arms x)

  for_is : (own : Bool) (i step : Bool) (b : List Statement) (x : ℕ) → (own || (i || (step || any_of (map (refers keeps) b) x))) ≡ (own || (i || (step || body_refers keeps b x)))
  for_is own i step b x = ap (λ r. own || (i || (step || r))) (any_of-body b x)

  pub refers-For : (id l : ℕ) (i : Option Statement) (e : Expr) (step : Option Statement) (b : List Statement) (x : ℕ) → refers keeps (s.For id l i e step b) x ≡ ((keeps.statement id && names e x) || (part_refers keeps i x || (part_refers keeps step x || body_refers keeps b x)))
  refers-For id l None e None b x =
      ap (λ t. refers keeps t x) (sym (s.rolls-For id l None e None b)) ∙ (ap (λ (f : ℕ → Bool). f x) (fold-roll-Statement (ℕ → Bool) (ℕ → Bool) (refers_step keeps) (refers_arm keeps) (Statement-F.For id l None e None b)) ∙ for_is (keeps.statement id && names e x) false false b x)
  refers-For id l None e (Some y) b x =
      ap (λ t. refers keeps t x) (sym (s.rolls-For id l None e (Some y) b)) ∙ (ap (λ (f : ℕ → Bool). f x) (fold-roll-Statement (ℕ → Bool) (ℕ → Bool) (refers_step keeps) (refers_arm keeps) (Statement-F.For id l None e (Some y) b)) ∙ for_is (keeps.statement id && names e x) false (refers keeps y x) b x)
  refers-For id l (Some z) e None b x =
      ap (λ t. refers keeps t x) (sym (s.rolls-For id l (Some z) e None b)) ∙ (ap (λ (f : ℕ → Bool). f x) (fold-roll-Statement (ℕ → Bool) (ℕ → Bool) (refers_step keeps) (refers_arm keeps) (Statement-F.For id l (Some z) e None b)) ∙ for_is (keeps.statement id && names e x) (refers keeps z x) false b x)
  refers-For id l (Some z) e (Some y) b x =
      ap (λ t. refers keeps t x) (sym (s.rolls-For id l (Some z) e (Some y) b)) ∙ (ap (λ (f : ℕ → Bool). f x) (fold-roll-Statement (ℕ → Bool) (ℕ → Bool) (refers_step keeps) (refers_arm keeps) (Statement-F.For id l (Some z) e (Some y) b)) ∙ for_is (keeps.statement id && names e x) (refers keeps z x) (refers keeps y x) b x)

  -- forms without parts
  pub refers-Declare : (id : Option ℕ) (l y : ℕ) (i : Init) (x : ℕ) → refers keeps (s.Declare id l y i) x ≡ begun_names keeps id y i x
  refers-Declare id l y i x =
      ap (λ t. refers keeps t x) (sym (s.rolls-Declare id l y i)) ∙ ap (λ (f : ℕ → Bool). f x) (fold-roll-Statement (ℕ → Bool) (ℕ → Bool) (refers_step keeps) (refers_arm keeps) (Statement-F.Declare id l y i))

  pub refers-Assign : (id l : ℕ) (a : Expr) (op : Option BinaryOp) (b : Expr) (x : ℕ) → refers keeps (s.Assign id l a op b) x ≡ (keeps.statement id && (names a x || names b x))
  refers-Assign id l a op b x =
      ap (λ t. refers keeps t x) (sym (s.rolls-Assign id l a op b)) ∙ ap (λ (f : ℕ → Bool). f x) (fold-roll-Statement (ℕ → Bool) (ℕ → Bool) (refers_step keeps) (refers_arm keeps) (Statement-F.Assign id l a op b))

  pub refers-Invoke : (id l : ℕ) (to : Target) (f : ℕ) (args : List Expr) (x : ℕ) → refers keeps (s.Invoke id l to f args) x ≡ (keeps.statement id && call_names keeps id to args x)
  refers-Invoke id l to f args x =
      ap (λ t. refers keeps t x) (sym (s.rolls-Invoke id l to f args)) ∙ ap (λ (f : ℕ → Bool). f x) (fold-roll-Statement (ℕ → Bool) (ℕ → Bool) (refers_step keeps) (refers_arm keeps) (Statement-F.Invoke id l to f args))

  pub refers-Fetch : (id l : ℕ) (to : Target) (x : ℕ) → refers keeps (s.Fetch id l to) x ≡ (keeps.statement id && target_names to x)
  refers-Fetch id l to x =
      ap (λ t. refers keeps t x) (sym (s.rolls-Fetch id l to)) ∙ ap (λ (f : ℕ → Bool). f x) (fold-roll-Statement (ℕ → Bool) (ℕ → Bool) (refers_step keeps) (refers_arm keeps) (Statement-F.Fetch id l to))

  pub refers-Print : (id l : ℕ) (format : Bytes) (args : List Expr) (x : ℕ) → refers keeps (s.Print id l format args) x ≡ (keeps.statement id && any_names args x)
  refers-Print id l format args x =
      ap (λ t. refers keeps t x) (sym (s.rolls-Print id l format args)) ∙ ap (λ (f : ℕ → Bool). f x) (fold-roll-Statement (ℕ → Bool) (ℕ → Bool) (refers_step keeps) (refers_arm keeps) (Statement-F.Print id l format args))

  pub refers-Heap : (id l : ℕ) (to : Target) (cast : Option CType) (n : Amount) (x : ℕ) → refers keeps (s.Heap id l to cast n) x ≡ (keeps.statement id && (target_names to x || amount_names n x))
  refers-Heap id l to cast n x =
      ap (λ t. refers keeps t x) (sym (s.rolls-Heap id l to cast n)) ∙ ap (λ (f : ℕ → Bool). f x) (fold-roll-Statement (ℕ → Bool) (ℕ → Bool) (refers_step keeps) (refers_arm keeps) (Statement-F.Heap id l to cast n))

  pub refers-Return : (id l : ℕ) (e : Option Expr) (x : ℕ) → refers keeps (s.Return id l e) x ≡ (keeps.statement id && value_names e x)
  refers-Return id l e x =
      ap (λ t. refers keeps t x) (sym (s.rolls-Return id l e)) ∙ ap (λ (f : ℕ → Bool). f x) (fold-roll-Statement (ℕ → Bool) (ℕ → Bool) (refers_step keeps) (refers_arm keeps) (Statement-F.Return id l e))

  refers-Bump : (id l : ℕ) (a : Expr) (up before : Bool) (x : ℕ) → refers keeps (s.Bump id l a up before) x ≡ (keeps.statement id && names a x)
  refers-Bump id l a up before x =
      ap (λ t. refers keeps t x) (sym (s.rolls-Bump id l a up before)) ∙ ap (λ (f : ℕ → Bool). f x) (fold-roll-Statement (ℕ → Bool) (ℕ → Bool) (refers_step keeps) (refers_arm keeps) (Statement-F.Bump id l a up before))

  refers-Write : (id l : ℕ) (e : Expr) (x : ℕ) → refers keeps (s.Write id l e) x ≡ (keeps.statement id && names e x)
  refers-Write id l e x =
      ap (λ t. refers keeps t x) (sym (s.rolls-Write id l e)) ∙ ap (λ (f : ℕ → Bool). f x) (fold-roll-Statement (ℕ → Bool) (ℕ → Bool) (refers_step keeps) (refers_arm keeps) (Statement-F.Write id l e))

  refers-Release : (id l : ℕ) (e : Expr) (x : ℕ) → refers keeps (s.Release id l e) x ≡ (keeps.statement id && names e x)
  refers-Release id l e x =
      ap (λ t. refers keeps t x) (sym (s.rolls-Release id l e)) ∙ ap (λ (f : ℕ → Bool). f x) (fold-roll-Statement (ℕ → Bool) (ℕ → Bool) (refers_step keeps) (refers_arm keeps) (Statement-F.Release id l e))

  -- these refer to what their one expression does
  pub refers_word : (t : Statement) (id : ℕ) (e : Expr) → ((l : ℕ) × (up : Bool) × (before : Bool) × (t ≡ s.Bump id l e up before)) ⊎ (((l : ℕ) × (t ≡ s.Write id l e)) ⊎ ((l : ℕ) × (t ≡ s.Release id l e)))
      → (x : ℕ) → refers keeps t x ≡ (keeps.statement id && names e x)
  refers_word t id e (inl (l, up, before, is)) x = ap (λ z. refers keeps z x) is ∙ refers-Bump id l e up before x
  refers_word t id e (inr (inl (l, is))) x = ap (λ z. refers keeps z x) is ∙ refers-Write id l e x
  refers_word t id e (inr (inr (l, is))) x = ap (λ z. refers keeps z x) is ∙ refers-Release id l e x
