-- A statement that stands in others does what it does among what they do, and a numbered one does something under its number.
use Rattle.std.proofs.Common.{◌≡◌, ℕ, List, [], ◌∷◌, ◌++◌, Option, Some, None, refl, sym, ap, subst, ◌∙◌, inl, inr, append_assoc, append-nil}
use Rattle.std.specs.Option.{option_to_list}
use Rattle.c_tree.specs.declared.numbered.Start.{Start}
use Rattle.c_tree.specs.declared.statement.Arm.{Arm}
use Rattle.c_tree.specs.declared.statement.Statement.{Statement, out-Statement}
use Rattle.c_tree.specs.declared.statement.Statement.TheViews.{roll-Statement, roll-out-Statement}
use Rattle.c_tree.specs.declared.statement.Statement.TheOpen.{Statement-F}
use Rattle.c_tree.specs.declared.statement.Statement.TheVariants as s
use Rattle.c_tree.specs.Numbered.{start, arms_inner, layer_inner, inner, layer_start, own_start, StandsIn}
use Rattle.c_tree.specs.Numbered.StandsIn.{here, inside, later}
use Rattle.c_language.proofs.Options.{none_there, some_same}
use Rattle.dep_model.specs.Doings.{Doing, doing_number, doings, body_doings}
use Rattle.dep_model.proofs.DoingForms.{arms_doings, part_doings, doings-Declare, doings-Assign, doings-Bump, doings-Invoke, doings-Fetch, doings-Write, doings-Print, doings-Heap, doings-Release, doings-Return, doings-If, doings-While, doings-Do, doings-Switch, doings-Block, doings-For}
use Rattle.dep_model.proofs.Membership.{IsIn, in_first, in_second}

body-append : (a b : List Statement) → body_doings (a ++ b) ≡ body_doings a ++ body_doings b
body-append [] b = refl
body-append (x ∷ a) b = ap (λ (ds : List Doing). doings x ++ ds) (body-append a b) ∙ sym (append_assoc (doings x) (body_doings a) (body_doings b))

body-part : (x : Option Statement) → body_doings (option_to_list x) ≡ part_doings x
body-part None = refl
body-part (Some x) = append-nil (doings x)

body-arms : (as_ : List Arm) → body_doings (arms_inner as_) ≡ arms_doings as_
body-arms [] = refl
body-arms (a ∷ as_) = body-append a.body (arms_inner as_) ∙ ap (λ (ds : List Doing). body_doings a.body ++ ds) (body-arms as_)

body-for : (i k : Option Statement) (b : List Statement) → body_doings (option_to_list i ++ (option_to_list k ++ b)) ≡ part_doings i ++ (part_doings k ++ body_doings b)
body-for i k b =
    body-append (option_to_list i) (option_to_list k ++ b) ∙ ap (λ (ds : List Doing). body_doings (option_to_list i) ++ ds) (body-append (option_to_list k) b ∙ ap (λ (ds : List Doing). ds ++ body_doings b) (body-part k))
    ∙ ap (λ (ds : List Doing). ds ++ (part_doings k ++ body_doings b)) (body-part i)

-- what stands right inside a statement
layer_does : (z : Statement-F Statement Arm) (d : Doing) → IsIn (body_doings (layer_inner z)) d → IsIn (doings (roll-Statement z)) d
layer_does (Statement-F.Declare id l x i) d m = absurd m
layer_does (Statement-F.Assign id l a op b) d m = absurd m
layer_does (Statement-F.Bump id l a up before) d m = absurd m
layer_does (Statement-F.Invoke id l to f args) d m = absurd m
layer_does (Statement-F.Fetch id l to) d m = absurd m
layer_does (Statement-F.Write id l e) d m = absurd m
layer_does (Statement-F.Print id l format args) d m = absurd m
layer_does (Statement-F.Heap id l to cast n) d m = absurd m
layer_does (Statement-F.Release id l e) d m = absurd m
layer_does (Statement-F.Return id l e) d m = absurd m
layer_does (Statement-F.If id l e a b) d m = subst (λ (ds : List Doing). IsIn ds d) (sym (ap doings (s.rolls-If id l e a b) ∙ doings-If id l e a b)) (inr (subst (λ (ds : List Doing). IsIn ds d) (body-append a b) m))
layer_does (Statement-F.While id l e b) d m = subst (λ (ds : List Doing). IsIn ds d) (sym (ap doings (s.rolls-While id l e b) ∙ doings-While id l e b)) (inr m)
layer_does (Statement-F.Do id l e b) d m = subst (λ (ds : List Doing). IsIn ds d) (sym (ap doings (s.rolls-Do id l e b) ∙ doings-Do id l e b)) (inr m)
layer_does (Statement-F.For id l i e k b) d m = subst (λ (ds : List Doing). IsIn ds d) (sym (ap doings (s.rolls-For id l i e k b) ∙ doings-For id l i e k b)) (inr (subst (λ (ds : List Doing). IsIn ds d) (body-for i k b) m))
layer_does (Statement-F.Switch id l e as_) d m = subst (λ (ds : List Doing). IsIn ds d) (sym (ap doings (s.rolls-Switch id l e as_) ∙ doings-Switch id l e as_)) (inr (subst (λ (ds : List Doing). IsIn ds d) (body-arms as_) m))
layer_does (Statement-F.Block l b) d m = subst (λ (ds : List Doing). IsIn ds d) (sym (ap doings (s.rolls-Block l b) ∙ doings-Block l b)) m

outer_does : (x : Statement) (d : Doing) → IsIn (body_doings (inner x)) d → IsIn (doings x) d
outer_does x d m = subst (λ (y : Statement). IsIn (doings y) d) (roll-out-Statement x) (layer_does (out-Statement x) d m)

pub stands_does : {xs : List Statement} {x : Statement} → StandsIn xs x → (d : Doing) → IsIn (doings x) d → IsIn (body_doings xs) d
stands_does (here {one} {rest}) d m = in_first (doings one) (body_doings rest) d m
stands_does (inside {outer} {one} {rest} h) d m = in_first (doings outer) (body_doings rest) d (outer_does outer d (stands_does h d m))
stands_does (later {first} {one} {rest} h) d m = in_second (doings first) (body_doings rest) d (stands_does h d m)

-- ---- what a numbered statement does

pub record DoesUnder (ds : List Doing) (i : ℕ) : Type 0 where
  pub doing : Doing
  pub member : IsIn ds doing
  pub number : doing_number doing ≡ i

under : (ds : List Doing) (d : Doing) (more : List Doing) (id l i n : ℕ) → ds ≡ d ∷ more → doing_number d ≡ id → Some (start id l) ≡ Some (start i n) → DoesUnder ds i
under ds d more id l i n is number e = record { doing = d; member = subst (λ (es : List Doing). IsIn es d) (sym is) (inl refl); number = number ∙ ap (λ (x : Start). x.id) (some_same e) }

layer_under : (z : Statement-F Statement Arm) (i n : ℕ) → layer_start z ≡ Some (start i n) → DoesUnder (doings (roll-Statement z)) i
layer_under (Statement-F.Declare None l x a) i n e = none_there e
layer_under (Statement-F.Declare (Some id) l x a) i n e = under _ _ [] id l i n (ap doings (s.rolls-Declare (Some id) l x a) ∙ doings-Declare (Some id) l x a) refl e
layer_under (Statement-F.Assign id l a op b) i n e = under _ _ [] id l i n (ap doings (s.rolls-Assign id l a op b) ∙ doings-Assign id l a op b) refl e
layer_under (Statement-F.Bump id l a up before) i n e = under _ _ [] id l i n (ap doings (s.rolls-Bump id l a up before) ∙ doings-Bump id l a up before) refl e
layer_under (Statement-F.Invoke id l to f args) i n e = under _ _ [] id l i n (ap doings (s.rolls-Invoke id l to f args) ∙ doings-Invoke id l to f args) refl e
layer_under (Statement-F.Fetch id l to) i n e = under _ _ [] id l i n (ap doings (s.rolls-Fetch id l to) ∙ doings-Fetch id l to) refl e
layer_under (Statement-F.Write id l a) i n e = under _ _ [] id l i n (ap doings (s.rolls-Write id l a) ∙ doings-Write id l a) refl e
layer_under (Statement-F.Print id l format args) i n e = under _ _ [] id l i n (ap doings (s.rolls-Print id l format args) ∙ doings-Print id l format args) refl e
layer_under (Statement-F.Heap id l to cast m) i n e = under _ _ [] id l i n (ap doings (s.rolls-Heap id l to cast m) ∙ doings-Heap id l to cast m) refl e
layer_under (Statement-F.Release id l a) i n e = under _ _ [] id l i n (ap doings (s.rolls-Release id l a) ∙ doings-Release id l a) refl e
layer_under (Statement-F.Return id l a) i n e = under _ _ [] id l i n (ap doings (s.rolls-Return id l a) ∙ doings-Return id l a) refl e
layer_under (Statement-F.If id l t a b) i n e = under _ _ (body_doings a ++ body_doings b) id l i n (ap doings (s.rolls-If id l t a b) ∙ doings-If id l t a b) refl e
layer_under (Statement-F.While id l t b) i n e = under _ _ (body_doings b) id l i n (ap doings (s.rolls-While id l t b) ∙ doings-While id l t b) refl e
layer_under (Statement-F.Do id l t b) i n e = under _ _ (body_doings b) id l i n (ap doings (s.rolls-Do id l t b) ∙ doings-Do id l t b) refl e
layer_under (Statement-F.For id l a t k b) i n e = under _ _ (part_doings a ++ (part_doings k ++ body_doings b)) id l i n (ap doings (s.rolls-For id l a t k b) ∙ doings-For id l a t k b) refl e
layer_under (Statement-F.Switch id l t as_) i n e = under _ _ (arms_doings as_) id l i n (ap doings (s.rolls-Switch id l t as_) ∙ doings-Switch id l t as_) refl e
layer_under (Statement-F.Block l b) i n e = none_there e

pub own_does : (x : Statement) (i n : ℕ) → own_start x ≡ Some (start i n) → DoesUnder (doings x) i
own_does x i n e = subst (λ (y : Statement). DoesUnder (doings y) i) (roll-out-Statement x) (layer_under (out-Statement x) i n e)
