-- What one statement, or none, does as code before a list, and what it declares there.
use Rattle.std.proofs.Common.{◌≡◌, ℕ, List, [], ◌∷◌, ◌++◌, map, Option, Some, None, Bool, true, false, refl, sym, ap, ap₂, ◌∙◌, subst}
use Rattle.std.specs.Option.{option_to_list}
use Rattle.std.proofs.lemmas.Bool.{false≢true}
use Rattle.c_tree.specs.declared.expr.Expr.{Expr}
use Rattle.c_tree.specs.declared.statement.Arm.{Arm, fold-Arm}
use Rattle.c_tree.specs.declared.statement.Statement.{Statement, out-Statement, roll-Statement, map-Statement}
use Rattle.c_tree.specs.declared.statement.Statement.TheOpen.{Statement-F}
use Rattle.c_tree.specs.declared.statement.Statement.TheVariants as s
use Rattle.c_tree.specs.declared.statement.Target.{Target}
use Rattle.c_tree.specs.declared.statement.Target.TheVariants as target
use Rattle.c_language.specs.Code.{Code, End, Opens, Loop, ◌⨟◌, leave, StatementPart, doing, declared_in, in_turn, list_of, block, declaring, given_to, ArmPart, part_step, arm_step, part, either}
use Rattle.c_language.proofs.CodeLemmas.{part_list, block_of}
use Rattle.projection.specs.Kept.{Kept}
use Rattle.projection.specs.Projection.{if_so, declares_target, declaring_step, declaring_arm, is_declaring, alone}
use Rattle.own_words.proofs.Forms.{fold_layer}
use Rattle.c_meaning.proofs.Codes.{layer_part, part-roll}
use Rattle.simulation_programs.proofs.Sequences.{then_then, leave_then}

-- statements one after another, as one
abbrev pub gathered : List StatementPart → StatementPart
gathered ss = record { declares = declared_in ss; before = in_turn ss }

-- ---- what comes after a statement stays after it

linear_given : (to : Target) (f : Code → Code) → ((a k : Code) → f (a ⨟ k) ≡ f a ⨟ k) → (a k : Code) → (given_to to f).before (a ⨟ k) ≡ (given_to to f).before a ⨟ k
linear_given target.None f h a k = h a k
linear_given (target.Place e) f h a k = h a k
linear_given (target.Declared x) f h a k = ap (Opens x) (h a k)

linear_for : (ss : List StatementPart) (id : ℕ) (e : Expr) (body a k : Code) → list_of ss ⨟ Loop id e body (leave (declared_in ss) (a ⨟ k)) ≡ (list_of ss ⨟ Loop id e body (leave (declared_in ss) a)) ⨟ k
linear_for ss id e body a k =
    ap (λ c. list_of ss ⨟ Loop id e body c) (sym (leave_then (declared_in ss) a k)) ∙ sym (then_then (list_of ss) (Loop id e body (leave (declared_in ss) a)) k)

linear_layer : (z : Statement-F Statement Arm) (a k : Code) → (layer_part z).before (a ⨟ k) ≡ (layer_part z).before a ⨟ k
linear_layer (Statement-F.Declare None l x i) a k = refl
linear_layer (Statement-F.Declare (Some id) l x i) a k = refl
linear_layer (Statement-F.Assign id l left op right) a k = refl
linear_layer (Statement-F.Bump id l e up before) a k = refl
linear_layer (Statement-F.Invoke id l to f args) a k = linear_given to _ (λ b c. refl) a k
linear_layer (Statement-F.Fetch id l to) a k = linear_given to _ (λ b c. refl) a k
linear_layer (Statement-F.Write id l e) a k = refl
linear_layer (Statement-F.Print id l format args) a k = refl
linear_layer (Statement-F.Heap id l to cast n) a k = linear_given to _ (λ b c. refl) a k
linear_layer (Statement-F.Release id l e) a k = refl
linear_layer (Statement-F.If id l e b c) a k = refl
linear_layer (Statement-F.While id l e b) a k = refl
linear_layer (Statement-F.Do id l e b) a k = sym (then_then (block (map part b)) _ k)
linear_layer (Statement-F.For id l None e None b) a k = refl
linear_layer (Statement-F.For id l None e (Some y) b) a k = refl
linear_layer (Statement-F.For id l (Some x) e None b) a k = linear_for (part x ∷ []) id e (block (map part b) ⨟ End) a k
linear_layer (Statement-F.For id l (Some x) e (Some y) b) a k = linear_for (part x ∷ []) id e (block (map part b) ⨟ list_of (part y ∷ [])) a k
linear_layer (Statement-F.Switch id l e arms) a k = refl
linear_layer (Statement-F.Block l b) a k = sym (then_then (block (map part b)) a k)
linear_layer (Statement-F.Return id l e) a k = refl

-- a statement is a layer
pub part_layer : (x : Statement) → part x ≡ layer_part (out-Statement x)
part_layer x = fold_layer StatementPart ArmPart part_step arm_step x

pub before_then : (x : Statement) (a k : Code) → (part x).before (a ⨟ k) ≡ (part x).before a ⨟ k
before_then x a k = subst (λ (q : StatementPart). q.before (a ⨟ k) ≡ q.before a ⨟ k) (sym (part_layer x)) (linear_layer (out-Statement x) a k)

-- and a layer rolled up is its part
pub part_form : (x : Statement) (z : Statement-F Statement Arm) → ◌≡◌ {A = Statement} (roll-Statement z) x → part x ≡ layer_part z
part_form x z is = ap part (sym is) ∙ part-roll z

-- ---- a statement that isn't a declaration declares nothing

given_declares : (to : Target) (f : Code → Code) → declares_target to ≡ false → (given_to to f).declares ≡ []
given_declares target.None f h = refl
given_declares (target.Place e) f h = refl
given_declares (target.Declared x) f h = absurd (false≢true (sym h))

undeclaring_layer : (z : Statement-F Statement Arm) → declaring_step (map-Statement Statement Arm Bool Bool is_declaring (fold-Arm Bool Bool declaring_step declaring_arm) z) ≡ false → (layer_part z).declares ≡ []
undeclaring_layer (Statement-F.Declare id l x i) h = absurd (false≢true (sym h))
undeclaring_layer (Statement-F.Assign id l left op right) h = refl
undeclaring_layer (Statement-F.Bump id l e up before) h = refl
undeclaring_layer (Statement-F.Invoke id l to f args) h = given_declares to _ h
undeclaring_layer (Statement-F.Fetch id l to) h = given_declares to _ h
undeclaring_layer (Statement-F.Write id l e) h = refl
undeclaring_layer (Statement-F.Print id l format args) h = refl
undeclaring_layer (Statement-F.Heap id l to cast n) h = given_declares to _ h
undeclaring_layer (Statement-F.Release id l e) h = refl
undeclaring_layer (Statement-F.If id l e b c) h = refl
undeclaring_layer (Statement-F.While id l e b) h = refl
undeclaring_layer (Statement-F.Do id l e b) h = refl
undeclaring_layer (Statement-F.For id l i e step b) h = refl
undeclaring_layer (Statement-F.Switch id l e arms) h = refl
undeclaring_layer (Statement-F.Block l b) h = refl
undeclaring_layer (Statement-F.Return id l e) h = refl

pub undeclaring : (x : Statement) → is_declaring x ≡ false → (part x).declares ≡ []
undeclaring x h =
    ap (λ (q : StatementPart). q.declares) (part_layer x) ∙ undeclaring_layer (out-Statement x) (sym (fold_layer Bool Bool declaring_step declaring_arm x) ∙ h)

-- ---- a for

pub for_form : (id l : ℕ) (i : Option Statement) (e : Expr) (step : Option Statement) (b : List Statement) → part (s.For id l i e step b) ≡ doing (λ r. list_of (part_list i) ⨟ Loop id e (block_of b ⨟ list_of (part_list step)) (leave (declared_in (part_list i)) r))
for_form id l None e None b = part_form _ (Statement-F.For id l None e None b) (s.rolls-For id l None e None b)
for_form id l None e (Some y) b = part_form _ (Statement-F.For id l None e (Some y) b) (s.rolls-For id l None e (Some y) b)
for_form id l (Some x) e None b = part_form _ (Statement-F.For id l (Some x) e None b) (s.rolls-For id l (Some x) e None b)
for_form id l (Some x) e (Some y) b = part_form _ (Statement-F.For id l (Some x) e (Some y) b) (s.rolls-For id l (Some x) e (Some y) b)

pub part_list-map : (o : Option Statement) → map part (option_to_list o) ≡ part_list o
part_list-map None = refl
part_list-map (Some x) = refl

module _ {F : Type 0} (k : Kept F) (g : ℕ → ℕ) where
  chosen_alone : (l : ℕ) (x : Statement) (b : Bool) (r : Code) → (b ≡ false → (part x).declares ≡ []) → in_turn (map part (if_so b (s.Block l (x ∷ []) ∷ []) (x ∷ []))) r ≡ list_of (part x ∷ []) ⨟ leave (declared_in (part x ∷ [])) r
  chosen_alone l x true r h =
      ap (λ (q : StatementPart). q.before r) (part_form (s.Block l (x ∷ [])) (Statement-F.Block l (x ∷ [])) (s.rolls-Block l (x ∷ [])))
      ∙ ap (λ c. c ⨟ r) (before_then x End (leave (declared_in (part x ∷ [])) End))
      ∙ then_then ((part x).before End) (leave (declared_in (part x ∷ [])) End) r
      ∙ ap (λ c. (part x).before End ⨟ c) (leave_then (declared_in (part x ∷ [])) End r)
  chosen_alone l x false r h = before_then x End r ∙ ap (λ xs. (part x).before End ⨟ leave (xs ++ []) r) (sym (h refl))

  chosen_declares : (l : ℕ) (x : Statement) (b : Bool) → (b ≡ false → (part x).declares ≡ []) → declared_in (map part (if_so b (s.Block l (x ∷ []) ∷ []) (x ∷ []))) ≡ []
  chosen_declares l x true h = ap (λ (q : StatementPart). q.declares ++ []) (part_form (s.Block l (x ∷ [])) (Statement-F.Block l (x ∷ [])) (s.rolls-Block l (x ∷ [])))
  chosen_declares l x false h = ap (λ xs. xs ++ []) (h refl)

  -- what a for begins with, without the for, ends what it declares
  pub alone_is : (l : ℕ) (o : Option Statement) (r : Code) → in_turn (map part (alone l o)) r ≡ list_of (part_list o) ⨟ leave (declared_in (part_list o)) r
  alone_is l None r = refl
  alone_is l (Some x) r = chosen_alone l x (is_declaring x) r (undeclaring x)

  pub alone_declares : (l : ℕ) (o : Option Statement) → declared_in (map part (alone l o)) ≡ []
  alone_declares l None = refl
  alone_declares l (Some x) = chosen_declares l x (is_declaring x) (undeclaring x)

-- ---- one statement or none

pub one_turn : (b : Bool) (x : Statement) (f : Code → Code) (r : Code) → part x ≡ doing f → in_turn (map part (if_so b (x ∷ []) [])) r ≡ either b (f r) r
one_turn true x f r is = ap (λ (q : StatementPart). q.before r) is
one_turn false x f r is = refl

pub one_declares : (b : Bool) (x : Statement) (f : Code → Code) → part x ≡ doing f → declared_in (map part (if_so b (x ∷ []) [])) ≡ []
one_declares true x f is = ap (λ (q : StatementPart). q.declares ++ []) is
one_declares false x f is = refl

-- a declaration with what it does, where that is kept, or else the bare declaration where its variable stays
pub begun_turn : (b c : Bool) (x y : Statement) (n : ℕ) (f : Code → Code) (r : Code) → part x ≡ declaring n (λ d. Opens n (f d)) → part y ≡ declaring n (Opens n) → (b ≡ true → c ≡ true) → in_turn (map part (if_so b (x ∷ []) (if_so c (y ∷ []) []))) r ≡ either c (Opens n (either b (f r) r)) (either b (f r) r)
begun_turn true true x y n f r is bare_is h = ap (λ (q : StatementPart). q.before r) is
begun_turn true false x y n f r is bare_is h = absurd (false≢true (h refl))
begun_turn false true x y n f r is bare_is h = ap (λ (q : StatementPart). q.before r) bare_is
begun_turn false false x y n f r is bare_is h = refl

pub begun_declares : (b c : Bool) (x y : Statement) (n : ℕ) (f : Code → Code) → part x ≡ declaring n f → part y ≡ declaring n (Opens n) → (b ≡ true → c ≡ true) → declared_in (map part (if_so b (x ∷ []) (if_so c (y ∷ []) []))) ≡ if_so c (n ∷ []) []
begun_declares true true x y n f is bare_is h = ap (λ (q : StatementPart). q.declares ++ []) is
begun_declares true false x y n f is bare_is h = absurd (false≢true (h refl))
begun_declares false true x y n f is bare_is h = ap (λ (q : StatementPart). q.declares ++ []) bare_is
begun_declares false false x y n f is bare_is h = refl

-- a bare declaration where its variable stays, and behind it what is kept
pub split_turn : (b c : Bool) (x y : Statement) (n : ℕ) (f : Code → Code) (r : Code) → part x ≡ doing f → part y ≡ declaring n (Opens n) → in_turn (map part (if_so b (if_so c (y ∷ []) [] ++ (x ∷ [])) (if_so c (y ∷ []) []))) r ≡ either c (Opens n (either b (f r) r)) (either b (f r) r)
split_turn true true x y n f r is bare_is = ap₂ (λ (q s : StatementPart). q.before (s.before r)) bare_is is
split_turn true false x y n f r is bare_is = ap (λ (q : StatementPart). q.before r) is
split_turn false true x y n f r is bare_is = ap (λ (q : StatementPart). q.before r) bare_is
split_turn false false x y n f r is bare_is = refl

pub split_declares : (b c : Bool) (x y : Statement) (n : ℕ) (f : Code → Code) → part x ≡ doing f → part y ≡ declaring n (Opens n) → declared_in (map part (if_so b (if_so c (y ∷ []) [] ++ (x ∷ [])) (if_so c (y ∷ []) []))) ≡ if_so c (n ∷ []) []
split_declares true true x y n f is bare_is = ap₂ (λ (q s : StatementPart). q.declares ++ (s.declares ++ [])) bare_is is
split_declares true false x y n f is bare_is = ap (λ (q : StatementPart). q.declares ++ []) is
split_declares false true x y n f is bare_is = ap (λ (q : StatementPart). q.declares ++ []) bare_is
split_declares false false x y n f is bare_is = refl
