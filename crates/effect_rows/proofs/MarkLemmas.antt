-- Sets that grow, one part after another.
use Rattle.std.proofs.Common.{◌≡◌, ℕ, List, [], ◌∷◌, ◌++◌, Bool, true, false, ◌||◌, ◌&&◌, if◌then◌else◌, Option, Some, None, refl, sym, ap, ap₂, ◌∙◌}
use Rattle.c_language.proofs.Tests.{or_assoc}
use Rattle.c_arith.specs.declared.operators.BinaryOp.{BinaryOp}
use Rattle.c_tree.specs.declared.expr.Expr.{Expr}
use Rattle.c_tree.specs.declared.expr.Expr.TheVariants as e
use Rattle.c_tree.specs.declared.program.Program.{Program}
use Rattle.c_tree.specs.declared.statement.Arm.{Arm}
use Rattle.c_tree.specs.declared.statement.Statement.{Statement}
use Rattle.c_tree.specs.declared.statement.Statement.TheVariants as s
use Rattle.c_language.specs.Code.{Tests}
use Rattle.c_language.specs.declared.expr_type.ExprType.{ExprType}
use Rattle.bit_rows.specs.Sets.{has}
use Rattle.dep_model.specs.Designated.{Designated, designated, is_array_place, is_root, value_takes, takes_either, a_place}
use Rattle.dep_model.specs.Doings.{Doing, Does, doings, body_doings}
use Rattle.dep_model.specs.DoingEffects.{doing_takes}
use Rattle.dep_model.proofs.DoingForms.{arms_doings, part_doings, doings-If, doings-While, doings-Do, doings-Switch, doings-Block, doings-For}
use Rattle.effect_rows.specs.Own.{own_doing, takes_of, own_takes}
use Rattle.effect_rows.specs.Taken.{Adds, doings_take, statement_takes, body_takes, arms_take, part_takes}
use Rattle.effect_rows.proofs.DesignatedForms.{designates-Index, designates-Binary, designates-AndAlso, designates-OrElse, designates-Choose}
use Rattle.effect_rows.proofs.OwnForms.{own-If, own-While, own-Do, own-Switch, own-Block, own-For}

or_false : (b : Bool) → (b || false) ≡ b
or_false true = refl
or_false false = refl

-- what passes was added
pub adds_same : (old new : List Bool) (f h : ℕ → Bool) → Adds old new f → ((x : ℕ) → h x ≡ f x) → Adds old new h
adds_same old new f h adds is x = adds x ∙ ap (λ b. has old x || b) (sym (is x))

-- nothing was added
pub adds_none : (old : List Bool) (h : ℕ → Bool) → ((x : ℕ) → h x ≡ false) → Adds old old h
adds_none old h is x = sym (ap (λ b. has old x || b) (is x) ∙ or_false (has old x))

-- what passes one of two tests was added
pub adds_both : (old mid new : List Bool) (f g h : ℕ → Bool) → Adds old mid f → Adds mid new g → ((x : ℕ) → h x ≡ (f x || g x)) → Adds old new h
adds_both old mid new f g h first second is x =
    second x ∙ ap (λ b. b || g x) (first x) ∙ or_assoc (has old x) (f x) (g x) ∙ ap (λ b. has old x || b) (sym (is x))

-- one of three
pub adds_three : (old first second new : List Bool) (f g k h : ℕ → Bool) → Adds old first f → Adds first second g → Adds second new k → ((x : ℕ) → h x ≡ (f x || (g x || k x))) → Adds old new h
adds_three old first second new f g k h a b c is =
    adds_both old first new f (λ x. g x || k x) h a (adds_both first second new g k (λ x. g x || k x) b c (λ x. refl)) is

-- one of four
pub adds_four : (old first second third new : List Bool) (f g k m h : ℕ → Bool) → Adds old first f → Adds first second g → Adds second third k → Adds third new m → ((x : ℕ) → h x ≡ (f x || (g x || (k x || m x)))) → Adds old new h
adds_four old first second third new f g k m h a b c d is =
    adds_both old first new f (λ x. g x || (k x || m x)) h a (adds_three first second third new g k m (λ x. g x || (k x || m x)) b c d (λ x. refl)) is

-- ---- elements

value_none : (d : Designated) → is_array_place d ≡ false → (x : ℕ) → value_takes d x ≡ d.takes x
value_none d e x = ap (λ b. d.takes x || (b && is_root d.root x)) e ∙ or_false (d.takes x)

-- a pointer that no array turned into takes no more than its object is found by
index_takes : (b : Bool) (t : ExprType) (d i : Designated) → is_array_place d ≡ b → (x : ℕ) → (if b then a_place t d.root None (λ y. d.takes y || value_takes i y) else a_place t None None (takes_either d i)).takes x ≡ (d.takes x || value_takes i x)
index_takes true t d i e x = refl
index_takes false t d i e x = ap (λ v. v || value_takes i x) (value_none d e x)

module _ (p : Program) where
  abbrev des : Expr → Designated
  des = designated p

  pub takes_Index : (t a i : Expr) → t ≡ e.Index a i → (x : ℕ) → (des t).takes x ≡ ((des a).takes x || value_takes (des i) x)
  takes_Index t a i same x = ap (λ (d : Designated). d.takes x) (ap des same ∙ designates-Index p a i) ∙ index_takes (is_array_place (des a)) _ (des a) (des i) refl x

  pub takes_Binary : (t : Expr) (op : BinaryOp) (a b : Expr) → t ≡ e.Binary op a b → (x : ℕ) → (des t).takes x ≡ (value_takes (des a) x || value_takes (des b) x)
  takes_Binary t op a b same x = ap (λ (d : Designated). d.takes x) (ap des same ∙ designates-Binary p op a b)

  pub takes_AndAlso : (t a b : Expr) → t ≡ e.AndAlso a b → (x : ℕ) → (des t).takes x ≡ (value_takes (des a) x || value_takes (des b) x)
  takes_AndAlso t a b same x = ap (λ (d : Designated). d.takes x) (ap des same ∙ designates-AndAlso p a b)

  pub takes_OrElse : (t a b : Expr) → t ≡ e.OrElse a b → (x : ℕ) → (des t).takes x ≡ (value_takes (des a) x || value_takes (des b) x)
  takes_OrElse t a b same x = ap (λ (d : Designated). d.takes x) (ap des same ∙ designates-OrElse p a b)

  pub takes_Choose : (t k a b : Expr) → t ≡ e.Choose k a b → (x : ℕ) → (des t).takes x ≡ (value_takes (des k) x || (value_takes (des a) x || value_takes (des b) x))
  takes_Choose t k a b same x = ap (λ (d : Designated). d.takes x) (ap des same ∙ designates-Choose p k a b)

  -- ---- statements

  abbrev taken_in : List Doing → ℕ → Bool
  taken_in = doings_take p

  pub taken_joined : (ds es : List Doing) (x : ℕ) → taken_in (ds ++ es) x ≡ (taken_in ds x || taken_in es x)
  taken_joined [] es x = refl
  taken_joined (d ∷ ds) es x = ap (λ b. doing_takes p d x || b) (taken_joined ds es x) ∙ sym (or_assoc (doing_takes p d x) (taken_in ds x) (taken_in es x))

  pub body_more : (y : Statement) (b : List Statement) (x : ℕ) → body_takes p (y ∷ b) x ≡ (statement_takes p y x || body_takes p b x)
  body_more y b x = taken_joined (doings y) (body_doings b) x

  arms_are : (as_ : List Arm) (x : ℕ) → taken_in (arms_doings as_) x ≡ arms_take p as_ x
  arms_are [] x = refl
  arms_are (a ∷ as_) x = taken_joined (body_doings a.body) (arms_doings as_) x ∙ ap (λ b. body_takes p a.body x || b) (arms_are as_ x)

  part_is : (o : Option Statement) (x : ℕ) → taken_in (part_doings o) x ≡ part_takes p o x
  part_is None x = refl
  part_is (Some y) x = refl

  -- the statement's own, and then what is in it
  abbrev one_of : Option Doing → List Doing
  one_of None = []
  one_of (Some d) = d ∷ []

  one_taken : (o : Option Doing) (x : ℕ) → taken_in (one_of o) x ≡ takes_of p o x
  one_taken None x = refl
  one_taken (Some d) x = or_false (doing_takes p d x)

  -- what a statement does is its own doing and then others
  pub own_first : (t : Statement) (o : Option Doing) (more : List Doing) → own_doing t ≡ o → doings t ≡ one_of o ++ more → (x : ℕ) → statement_takes p t x ≡ (own_takes p t x || taken_in more x)
  own_first t o more own is x =
      ap (λ ds. taken_in ds x) is ∙ taken_joined (one_of o) more x ∙ ap (λ b. b || taken_in more x) (one_taken o x ∙ ap (λ d. takes_of p d x) (sym own))

  pub takes_If : (t : Statement) (id l : ℕ) (e : Expr) (a b : List Statement) → t ≡ s.If id l e a b → (x : ℕ) → statement_takes p t x ≡ (own_takes p t x || (body_takes p a x || body_takes p b x))
  takes_If t id l e a b same x =
      own_first t (Some (Does id (Tests e))) (body_doings a ++ body_doings b) (ap own_doing same ∙ own-If id l e a b) (ap doings same ∙ doings-If id l e a b) x
      ∙ ap (λ b. own_takes p t x || b) (taken_joined (body_doings a) (body_doings b) x)

  pub takes_While : (t : Statement) (id l : ℕ) (e : Expr) (b : List Statement) → t ≡ s.While id l e b → (x : ℕ) → statement_takes p t x ≡ (own_takes p t x || body_takes p b x)
  takes_While t id l e b same x = own_first t (Some (Does id (Tests e))) (body_doings b) (ap own_doing same ∙ own-While id l e b) (ap doings same ∙ doings-While id l e b) x

  pub takes_Do : (t : Statement) (id l : ℕ) (e : Expr) (b : List Statement) → t ≡ s.Do id l e b → (x : ℕ) → statement_takes p t x ≡ (own_takes p t x || body_takes p b x)
  takes_Do t id l e b same x = own_first t (Some (Does id (Tests e))) (body_doings b) (ap own_doing same ∙ own-Do id l e b) (ap doings same ∙ doings-Do id l e b) x

  pub takes_Block : (t : Statement) (l : ℕ) (b : List Statement) → t ≡ s.Block l b → (x : ℕ) → statement_takes p t x ≡ (own_takes p t x || body_takes p b x)
  takes_Block t l b same x = own_first t None (body_doings b) (ap own_doing same ∙ own-Block l b) (ap doings same ∙ doings-Block l b) x

  pub takes_Switch : (t : Statement) (id l : ℕ) (e : Expr) (b : List Arm) → t ≡ s.Switch id l e b → (x : ℕ) → statement_takes p t x ≡ (own_takes p t x || arms_take p b x)
  takes_Switch t id l e b same x =
      own_first t (Some (Does id (Tests e))) (arms_doings b) (ap own_doing same ∙ own-Switch id l e b) (ap doings same ∙ doings-Switch id l e b) x
      ∙ ap (λ b. own_takes p t x || b) (arms_are b x)

  pub takes_For : (t : Statement) (id l : ℕ) (i : Option Statement) (e : Expr) (k : Option Statement) (b : List Statement) → t ≡ s.For id l i e k b
      → (x : ℕ) → statement_takes p t x ≡ (own_takes p t x || (part_takes p i x || (part_takes p k x || body_takes p b x)))
  takes_For t id l i e k b same x =
      own_first t (Some (Does id (Tests e))) (part_doings i ++ (part_doings k ++ body_doings b)) (ap own_doing same ∙ own-For id l i e k b) (ap doings same ∙ doings-For id l i e k b) x
      ∙ ap (λ c. own_takes p t x || c) (taken_joined (part_doings i) (part_doings k ++ body_doings b) x
      ∙ ap₂ (λ (c d : Bool). c || d) (part_is i x) (taken_joined (part_doings k) (body_doings b) x ∙ ap (λ c. c || body_takes p b x) (part_is k x)))
