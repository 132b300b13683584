-- What each form of statement allocates, and the objects of a program one after another.
use Rattle.std.proofs.Common.{◌≡◌, ℕ, ◌+◌, ◌<◌, suc, drop, length, get_or, arith, List, [], ◌∷◌, ◌++◌, Option, Some, None, refl, sym, ap, ap₂, ◌∙◌, append_assoc}
use Rattle.std.proofs.Math.Seq.{drop-cons}
use Rattle.c_tree.specs.declared.expr.Expr.{Expr}
use Rattle.c_tree.specs.declared.program.Function.{Function}
use Rattle.c_tree.specs.declared.program.Program.{Program}
use Rattle.c_tree.specs.declared.statement.Arm.{Arm}
use Rattle.c_tree.specs.declared.statement.Statement.{Statement}
use Rattle.c_tree.specs.declared.statement.Statement.TheVariants as s
use Rattle.dep_model.specs.Doings.{Doing, doings, body_doings}
use Rattle.dep_model.specs.Locations.{Heap, doing_heaps, heaps, function_heaps}
use Rattle.dep_model.specs.LocationObjects.{site_objects, sites, body_sites, arm_sites, part_sites, function_sites}
use Rattle.dep_model.specs.declared.location.Root.TheVariants.{Site}
use Rattle.dep_model.specs.declared.locations.objects.Object.{Object}
use Rattle.dep_model.proofs.DoingForms.{arms_doings, part_doings, doings-If, doings-While, doings-Do, doings-Switch, doings-Block, doings-For}

pub heaps-append : (p : Program) (ds es : List Doing) → heaps p (ds ++ es) ≡ heaps p ds ++ heaps p es
heaps-append p [] es = refl
heaps-append p (d ∷ ds) es = ap (λ (hs : List Heap). doing_heaps p d ++ hs) (heaps-append p ds es) ∙ sym (append_assoc (doing_heaps p d) (heaps p ds) (heaps p es))

site_objects-append : (hs ks : List Heap) → site_objects (hs ++ ks) ≡ site_objects hs ++ site_objects ks
site_objects-append [] ks = refl
site_objects-append (h ∷ hs) ks = ap (λ (os : List Object). record { root = Site h.id; shape = h.elements } ∷ os) (site_objects-append hs ks)

module _ (p : Program) where
  pub sites-append : (ds es : List Doing) → sites p (ds ++ es) ≡ sites p ds ++ sites p es
  sites-append ds es = ap site_objects (heaps-append p ds es) ∙ site_objects-append (heaps p ds) (heaps p es)

  pub body_sites-cons : (x : Statement) (b : List Statement) → body_sites p (x ∷ b) ≡ sites p (doings x) ++ body_sites p b
  body_sites-cons x b = sites-append (doings x) (body_doings b)

  pub function_sites-cons : (f : Function) (fs : List Function) → function_sites p (f ∷ fs) ≡ body_sites p f.body ++ function_sites p fs
  function_sites-cons f fs = site_objects-append (heaps p (body_doings f.body)) (function_heaps p fs)

  arms-sites : (b : List Arm) → sites p (arms_doings b) ≡ arm_sites p b
  arms-sites [] = refl
  arms-sites (a ∷ b) = sites-append (body_doings a.body) (arms_doings b) ∙ ap (λ (os : List Object). body_sites p a.body ++ os) (arms-sites b)

  part-sites : (o : Option Statement) → sites p (part_doings o) ≡ part_sites p o
  part-sites None = refl
  part-sites (Some x) = refl

  pub sites-If : (id l : ℕ) (e : Expr) (a b : List Statement) → sites p (doings (s.If id l e a b)) ≡ body_sites p a ++ body_sites p b
  sites-If id l e a b = ap (sites p) (doings-If id l e a b) ∙ sites-append (body_doings a) (body_doings b)

  pub sites-While : (id l : ℕ) (e : Expr) (b : List Statement) → sites p (doings (s.While id l e b)) ≡ body_sites p b
  sites-While id l e b = ap (sites p) (doings-While id l e b)

  pub sites-Do : (id l : ℕ) (e : Expr) (b : List Statement) → sites p (doings (s.Do id l e b)) ≡ body_sites p b
  sites-Do id l e b = ap (sites p) (doings-Do id l e b)

  pub sites-Switch : (id l : ℕ) (e : Expr) (b : List Arm) → sites p (doings (s.Switch id l e b)) ≡ arm_sites p b
  sites-Switch id l e b = ap (sites p) (doings-Switch id l e b) ∙ arms-sites b

  pub sites-Block : (l : ℕ) (b : List Statement) → sites p (doings (s.Block l b)) ≡ body_sites p b
  sites-Block l b = ap (sites p) (doings-Block l b)

  pub sites-For : (id l : ℕ) (i : Option Statement) (e : Expr) (k : Option Statement) (b : List Statement)
      → sites p (doings (s.For id l i e k b)) ≡ part_sites p i ++ (part_sites p k ++ body_sites p b)
  sites-For id l i e k b =
      ap (sites p) (doings-For id l i e k b) ∙ sites-append (part_doings i) (part_doings k ++ body_doings b)
      ∙ ap₂ (λ (os more : List Object). os ++ more) (part-sites i) (sites-append (part_doings k) (body_doings b) ∙ ap (λ (os : List Object). os ++ body_sites p b) (part-sites k))

pub ruleset sites_of = (sites-If, sites-While, sites-Do, sites-Switch, sites-Block, sites-For)

-- ---- turns of loops and steps

-- what is added is the first of what is left
pub added_first : {A : Type 0} (old new one rest total : List A) → old ++ (one ++ rest) ≡ total → new ≡ old ++ one → new ++ rest ≡ total
added_first {A = A} old new one rest total e q = ap (λ (xs : List A). xs ++ rest) q ∙ append_assoc old one rest ∙ e

drop_here : {A : Type 0} (xs : List A) (i : ℕ) (x : A) → i < length xs → x ≡ get_or xs i x → drop i xs ≡ x ∷ drop (i + 1) xs
drop_here {A = A} xs i x h is =
    let next : suc i ≡ i + 1 = omega arith in
    drop-cons xs i x h ∙ ap (λ (y : A). y ∷ drop (suc i) xs) (sym is) ∙ ap (λ (k : ℕ). x ∷ drop k xs) next

pub body_turn : (p : Program) (b : List Statement) (i : ℕ) (x : Statement) (old new total : List Object) → i < length b → x ≡ get_or b i x
    → old ++ body_sites p (drop i b) ≡ total → new ≡ old ++ sites p (doings x) → new ++ body_sites p (drop (i + 1) b) ≡ total
body_turn p b i x old new total h is e q =
    added_first old new (sites p (doings x)) (body_sites p (drop (i + 1) b)) total
    (ap (λ (os : List Object). old ++ os) (sym (ap (body_sites p) (drop_here b i x h is) ∙ body_sites-cons p x (drop (i + 1) b))) ∙ e) q

pub function_turn : (p : Program) (fs : List Function) (i : ℕ) (f : Function) (body : List Statement) (old new total : List Object) → fs ≡ p.functions → i < length fs → f ≡ get_or fs i f
    → body ≡ f.body → old ++ function_sites p (drop i p.functions) ≡ total → new ≡ old ++ body_sites p body → new ++ function_sites p (drop (i + 1) p.functions) ≡ total
function_turn p fs i f body old new total all h is own e q =
    ap (λ (xs : List Function). new ++ function_sites p (drop (i + 1) xs)) (sym all)
    ∙ added_first old new (body_sites p f.body) (function_sites p (drop (i + 1) fs)) total
    (ap (λ (os : List Object). old ++ os) (sym (ap (function_sites p) (drop_here fs i f h is) ∙ function_sites-cons p f (drop (i + 1) fs)))
    ∙ ap (λ (xs : List Function). old ++ function_sites p (drop i xs)) all ∙ e)
    (q ∙ ap (λ (xs : List Statement). old ++ body_sites p xs) own)

pub for_sites : (p : Program) (x : Statement) (id l : ℕ) (i : Option Statement) (e : Expr) (k : Option Statement) (b list : List Statement) (old first second new : List Object)
    → x ≡ s.For id l i e k b → list ≡ b → first ≡ old ++ part_sites p i → second ≡ first ++ part_sites p k → new ≡ second ++ body_sites p list → new ≡ old ++ sites p (doings x)
for_sites p x id l i e k b list old first second new is own q r t =
    t ∙ ap₂ (λ (xs : List Object) (ys : List Statement). xs ++ body_sites p ys) (r ∙ ap (λ (xs : List Object). xs ++ part_sites p k) q) own
    ∙ append_assoc (old ++ part_sites p i) (part_sites p k) (body_sites p b) ∙ append_assoc old (part_sites p i) (part_sites p k ++ body_sites p b)
    ∙ ap (λ (os : List Object). old ++ os) (sym (ap (λ (y : Statement). sites p (doings y)) is ∙ sites-For p id l i e k b))
