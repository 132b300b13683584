-- What hangs together, and what belongs to one function, reads no line: it is the same of programs that are the same but for lines.
use Rattle.std.proofs.Common.{◌≡◌, ℕ, zero, suc, ◌≤◌, List, [], ◌∷◌, ◌++◌, map, length, Bool, false, cond, ◌||◌, ◌==◌, Option, Some, None, option_map, position, refl, sym, ap, ap₂, ◌∙◌, subst, Contains}
use Rattle.std.specs.Prelude.{slice_get, is_some}
use Rattle.std.specs.List.{list_any}
use Rattle.std.specs.Option.{option_map_or}
use Rattle.std.proofs.lemmas.List.{length-map}
use Rattle.std.proofs.lemmas.Option.{slice_get-map}
use Rattle.c_tree.specs.Unlined.{unlined, unlined_function, SameButLines}
use Rattle.c_tree.specs.declared.expr.Expr.{Expr}
use Rattle.c_tree.specs.declared.program.Function.{Function}
use Rattle.c_tree.specs.declared.program.Program.{Program}
use Rattle.c_tree.specs.declared.statement.Arm.{Arm, fold-Arm}
use Rattle.c_tree.specs.declared.statement.Statement.{Statement, out-Statement, roll-Statement, map-Statement, fold-Statement, fold-roll-Statement}
use Rattle.c_tree.specs.declared.statement.Statement.TheOpen.{Statement-F, Arm-F}
use Rattle.c_tree.specs.declared.statement.Statement.TheViews.{roll-out-Statement}
use Rattle.c_tree.specs.declared.statement.Statement.TheVariants as s
use Rattle.c_tree.proofs.Unlining.{zeroed, fold_unlined}
use Rattle.c_language.proofs.Lists.{position-cons}
use Rattle.c_language.proofs.Options.{none_there, some_same}
use Rattle.c_language.specs.Mains.{main_of, is_main_of}
use Rattle.c_language.specs.NameRules.{is_main}
use Rattle.c_language.specs.Code.{Returns}
use Rattle.dep_model.specs.Doings.{Doing, Does, doing_step, doing_arm, body_doings, doings_of}
use Rattle.dep_model.specs.MayPoint.{parameters}
use Rattle.dep_model.specs.VertexOrder.{has_result}
use Rattle.projection.specs.Kept.{KeptWords, Kept}
use Rattle.projection.specs.KeptVertices.{is_taken, is_among}
use Rattle.projection.specs.Names.{refers_step, refers_arm, body_refers, stays}
use Rattle.projection_laws.proofs.SamePrograms.{nested_same}
use Rattle.hanging_sets.specs.Hanging.{words_in, EndsWith, HangsTogether}
use Rattle.hanging_sets.specs.OwnParts.{HasOwnParts}

-- ---- folds that read no line

doing_free : (x : Statement-F (List Doing) (List Doing)) → doing_step (zeroed x) ≡ doing_step x
doing_free (Statement-F.Declare id l x i) = refl
doing_free (Statement-F.Assign id l a op b) = refl
doing_free (Statement-F.Bump id l a up before) = refl
doing_free (Statement-F.Invoke id l to f args) = refl
doing_free (Statement-F.Fetch id l to) = refl
doing_free (Statement-F.Write id l a) = refl
doing_free (Statement-F.Print id l format args) = refl
doing_free (Statement-F.Heap id l to cast n) = refl
doing_free (Statement-F.Release id l a) = refl
doing_free (Statement-F.If id l e a b) = refl
doing_free (Statement-F.While id l e b) = refl
doing_free (Statement-F.Do id l e b) = refl
doing_free (Statement-F.For id l i e step b) = refl
doing_free (Statement-F.Switch id l e arms) = refl
doing_free (Statement-F.Block l b) = refl
doing_free (Statement-F.Return id l e) = refl

refers_free : (k : KeptWords) (x : Statement-F (ℕ → Bool) (ℕ → Bool)) → refers_step k (zeroed x) ≡ refers_step k x
refers_free k (Statement-F.Declare id l x i) = refl
refers_free k (Statement-F.Assign id l a op b) = refl
refers_free k (Statement-F.Bump id l a up before) = refl
refers_free k (Statement-F.Invoke id l to f args) = refl
refers_free k (Statement-F.Fetch id l to) = refl
refers_free k (Statement-F.Write id l a) = refl
refers_free k (Statement-F.Print id l format args) = refl
refers_free k (Statement-F.Heap id l to cast n) = refl
refers_free k (Statement-F.Release id l a) = refl
refers_free k (Statement-F.If id l e a b) = refl
refers_free k (Statement-F.While id l e b) = refl
refers_free k (Statement-F.Do id l e b) = refl
refers_free k (Statement-F.For id l i e step b) = refl
refers_free k (Statement-F.Switch id l e arms) = refl
refers_free k (Statement-F.Block l b) = refl
refers_free k (Statement-F.Return id l e) = refl

body_same : (xs : List Statement) → body_doings (map unlined xs) ≡ body_doings xs
body_same [] = refl
body_same (x ∷ xs) = ap₂ (λ (a b : List Doing). a ++ b) (fold_unlined doing_step doing_arm doing_free x) (body_same xs)

refers_same : (k : KeptWords) (xs : List Statement) (x : ℕ) → body_refers k (map unlined xs) x ≡ body_refers k xs x
refers_same k [] x = refl
refers_same k (y ∷ ys) x = ap₂ (λ (a b : Bool). a || b) (ap (λ (f : ℕ → Bool). f x) (fold_unlined (refers_step k) (refers_arm k) (refers_free k) y)) (refers_same k ys x)

functions_same : (k : KeptWords) (fs : List Function) (x : ℕ) → list_any (λ (f : Function). body_refers k f.body x) (map unlined_function fs) ≡ list_any (λ (f : Function). body_refers k f.body x) fs
functions_same k [] x = refl
functions_same k (f ∷ fs) x = ap₂ (λ (a b : Bool). a || b) (refers_same k f.body x) (functions_same k fs x)

taken_same : (fs : List Function) (x : ℕ) → is_taken (map unlined_function fs) x ≡ is_taken fs x
taken_same [] x = refl
taken_same (f ∷ fs) x = ap (λ (b : Bool). is_among f.params x || b) (taken_same fs x)

doings_at : (fs : List Function) (f : ℕ) → option_map_or (λ (g : Function). body_doings g.body) (slice_get (map unlined_function fs) f) [] ≡ option_map_or (λ (g : Function). body_doings g.body) (slice_get fs f) []
doings_at [] f = refl
doings_at (c ∷ fs) zero = body_same c.body
doings_at (c ∷ fs) (suc f) = doings_at fs f

parameters_at : (fs : List Function) (f : ℕ) → option_map_or (λ (g : Function). g.params) (slice_get (map unlined_function fs) f) [] ≡ option_map_or (λ (g : Function). g.params) (slice_get fs f) []
parameters_at [] f = refl
parameters_at (c ∷ fs) zero = refl
parameters_at (c ∷ fs) (suc f) = parameters_at fs f

result_at : (fs : List Function) (f : ℕ) → option_map_or (λ (g : Function). is_some g.result) (slice_get (map unlined_function fs) f) false ≡ option_map_or (λ (g : Function). is_some g.result) (slice_get fs f) false
result_at [] f = refl
result_at (c ∷ fs) zero = refl
result_at (c ∷ fs) (suc f) = result_at fs f

abbrev named_main : Function → Bool
named_main c = is_main c.name

main_at : (fs : List Function) → position named_main (map unlined_function fs) ≡ position named_main fs
main_at [] = refl
main_at (c ∷ fs) =
    position-cons named_main (unlined_function c) (map unlined_function fs) ∙ ap (λ (o : Option ℕ). cond (is_main c.name) (Some 0) (option_map suc o)) (main_at fs) ∙ sym (position-cons named_main c fs)

-- ---- a return at the end of a list

-- the number and the value of a return
record IsReturn : Type 0 where
  number : ℕ
  value : Option Expr

abbrev return_step : Statement-F (Option IsReturn) (Option IsReturn) → Option IsReturn
return_step (Statement-F.Return id l e) = Some (record { number = id; value = e })
return_step _ = None

abbrev return_arm : Arm-F (Option IsReturn) (Option IsReturn) → Option IsReturn
return_arm a = None

abbrev return_of : Statement → Option IsReturn
return_of = fold-Statement (Option IsReturn) (Option IsReturn) return_step return_arm

return_free : (x : Statement-F (Option IsReturn) (Option IsReturn)) → return_step (zeroed x) ≡ return_step x
return_free (Statement-F.Declare id l x i) = refl
return_free (Statement-F.Assign id l a op b) = refl
return_free (Statement-F.Bump id l a up before) = refl
return_free (Statement-F.Invoke id l to f args) = refl
return_free (Statement-F.Fetch id l to) = refl
return_free (Statement-F.Write id l a) = refl
return_free (Statement-F.Print id l format args) = refl
return_free (Statement-F.Heap id l to cast n) = refl
return_free (Statement-F.Release id l a) = refl
return_free (Statement-F.If id l e a b) = refl
return_free (Statement-F.While id l e b) = refl
return_free (Statement-F.Do id l e b) = refl
return_free (Statement-F.For id l i e step b) = refl
return_free (Statement-F.Switch id l e arms) = refl
return_free (Statement-F.Block l b) = refl
return_free (Statement-F.Return id l e) = refl

of_Return : (i l : ℕ) (e : Option Expr) → return_of (s.Return i l e) ≡ Some (record { number = i; value = e })
of_Return i l e = ap return_of (sym (s.rolls-Return i l e)) ∙ fold-roll-Statement (Option IsReturn) (Option IsReturn) return_step return_arm (Statement-F.Return i l e)

abbrev layer_return : Statement-F Statement Arm → Option IsReturn
layer_return z = return_step (map-Statement Statement Arm (Option IsReturn) (Option IsReturn) return_of (fold-Arm (Option IsReturn) (Option IsReturn) return_step return_arm) z)

return_by : (z : Statement-F Statement Arm) (r : IsReturn) → layer_return z ≡ Some r → (l : ℕ) × (roll-Statement z ≡ s.Return r.number l r.value)
return_by (Statement-F.Declare id l x i) r h = none_there h
return_by (Statement-F.Assign id l a op b) r h = none_there h
return_by (Statement-F.Bump id l a up before) r h = none_there h
return_by (Statement-F.Invoke id l to f args) r h = none_there h
return_by (Statement-F.Fetch id l to) r h = none_there h
return_by (Statement-F.Write id l a) r h = none_there h
return_by (Statement-F.Print id l format args) r h = none_there h
return_by (Statement-F.Heap id l to cast n) r h = none_there h
return_by (Statement-F.Release id l a) r h = none_there h
return_by (Statement-F.If id l e a b) r h = none_there h
return_by (Statement-F.While id l e b) r h = none_there h
return_by (Statement-F.Do id l e b) r h = none_there h
return_by (Statement-F.For id l None e None b) r h = none_there h
return_by (Statement-F.For id l None e (Some k) b) r h = none_there h
return_by (Statement-F.For id l (Some i) e None b) r h = none_there h
return_by (Statement-F.For id l (Some i) e (Some k) b) r h = none_there h
return_by (Statement-F.Switch id l e arms) r h = none_there h
return_by (Statement-F.Block l b) r h = none_there h
return_by (Statement-F.Return id l e) r h = (l, s.rolls-Return id l e ∙ ap (λ (q : IsReturn). s.Return q.number l q.value) (some_same h))

return_is : (x : Statement) (r : IsReturn) → return_of x ≡ Some r → (l : ℕ) × (x ≡ s.Return r.number l r.value)
return_is x r h =
    let w = return_by (out-Statement x) r (sym (fold-roll-Statement (Option IsReturn) (Option IsReturn) return_step return_arm (out-Statement x)) ∙ ap return_of (roll-out-Statement x) ∙ h) in
    (w.0, sym (roll-out-Statement x) ∙ w.1)

-- programs with bodies that are the same but for lines end with the same returns
ends_unlined : (i : ℕ) (e : Option Expr) (xs : List Statement) → EndsWith i e xs → EndsWith i e (map unlined xs)
ends_unlined i e [] h = h
ends_unlined i e (x ∷ []) (l, is) = return_is (unlined x) (record { number = i; value = e }) (fold_unlined return_step return_arm return_free x ∙ ap return_of is ∙ of_Return i l e)
ends_unlined i e (x ∷ (y ∷ rest)) h = ends_unlined i e (y ∷ rest) h

ends_lined : (i : ℕ) (e : Option Expr) (xs : List Statement) → EndsWith i e (map unlined xs) → EndsWith i e xs
ends_lined i e [] h = h
ends_lined i e (x ∷ []) (l, is) = return_is x (record { number = i; value = e }) (sym (fold_unlined return_step return_arm return_free x) ∙ ap return_of is ∙ of_Return i l e)
ends_lined i e (x ∷ (y ∷ rest)) h = ends_lined i e (y ∷ rest) h

-- ---- two programs

module _ (p q : Program) (same : SameButLines p q) where
  pub doings_same : (f : ℕ) → doings_of p f ≡ doings_of q f
  doings_same f = sym (doings_at p.functions f) ∙ ap (λ (r : Program). doings_of r f) same ∙ doings_at q.functions f

  pub parameters_same : (f : ℕ) → parameters p f ≡ parameters q f
  parameters_same f = sym (parameters_at p.functions f) ∙ ap (λ (r : Program). parameters r f) same ∙ parameters_at q.functions f

  result_same : (f : ℕ) → has_result p f ≡ has_result q f
  result_same f = sym (result_at p.functions f) ∙ ap (λ (r : Program). has_result r f) same ∙ result_at q.functions f

  pub main_same : main_of p ≡ main_of q
  main_same = sym (main_at p.functions) ∙ ap main_of same ∙ main_at q.functions

  is_main_same : (f : ℕ) → is_main_of p f ≡ is_main_of q f
  is_main_same f = ap (λ (o : Option ℕ). option_map_or (λ m. m == f) o false) main_same

  taken_too : (x : ℕ) → is_taken p.functions x ≡ is_taken q.functions x
  taken_too x = sym (taken_same p.functions x) ∙ ap (λ (r : Program). is_taken r.functions x) same ∙ taken_same q.functions x

  stays_too : (k : KeptWords) (x : ℕ) → stays k p x ≡ stays k q x
  stays_too k x = sym (functions_same k p.functions x) ∙ ap (λ (r : Program). stays k r x) same ∙ functions_same k q.functions x

  count_same : length p.functions ≡ length q.functions
  count_same = sym (length-map p.functions unlined_function) ∙ ap (λ (r : Program). length r.functions) same ∙ length-map q.functions unlined_function

  -- the function of the other program with the same number
  pub record Other (f : ℕ) (c : Function) : Type 0 where
    pub function : Function
    pub at : slice_get p.functions f ≡ Some function
    pub alike : unlined_function function ≡ unlined_function c

  pub other : (f : ℕ) (c : Function) → slice_get q.functions f ≡ Some c → Other f c
  other f c at = by_function (slice_get p.functions f) refl
    where
      both : option_map unlined_function (slice_get p.functions f) ≡ Some (unlined_function c)
      both = sym (slice_get-map unlined_function p.functions f) ∙ ap (λ (r : Program). slice_get r.functions f) same ∙ slice_get-map unlined_function q.functions f ∙ ap (option_map unlined_function) at

      by_function : (o : Option Function) → slice_get p.functions f ≡ o → Other f c
      by_function None h = none_there (sym (ap (option_map unlined_function) h) ∙ both)
      by_function (Some d) h = record { function = d; at = h; alike = some_same (sym (ap (option_map unlined_function) h) ∙ both) }

  ends_too : (i : ℕ) (e : Option Expr) (c d : Function) → unlined_function d ≡ unlined_function c → EndsWith i e d.body → EndsWith i e c.body
  ends_too i e c d alike h = ends_lined i e c.body (subst (λ (f : Function). EndsWith i e f.body) alike (ends_unlined i e d.body h))

  -- what hangs together of the first does of the second
  pub hangs_too : (k : Kept ℕ) → HangsTogether p k → HangsTogether q k
  hangs_too k h = record {
    nested = nested_same p q k.statement same h.nested;
    owners = λ f d m. h.owners f d (here f d m);
    acts = λ f i x a m. h.acts f i x a (here f _ m);
    calls = λ f i g x to args m. h.calls f i g x to args (here f _ m);
    variables = λ x kept free. sym (stays_too (words_in k) x) ∙ h.variables x kept (taken_too x ∙ free);
    parameters_too = λ f n x at. h.parameters_too f n x (subst (λ (xs : List ℕ). slice_get xs n ≡ Some x) (sym (parameters_same f)) at);
    callees = λ f i g to args m. h.callees f i g to args (here f _ m);
    arguments = λ f i g to args m. h.arguments f i g to args (here f _ m);
    results = λ f i g to args m. h.results f i g to args (here f _ m);
    returns = λ f i e m. h.returns f i e (here f _ m);
    ends = λ f i e c at not_main gives end. let w = other f c at in h.ends f i e w.function w.at (ap named_main w.alike ∙ not_main) gives (ends_back i (Some e) w.function c w.alike end);
    main = λ f is. h.main f (main_same ∙ is);
    main_gives = λ f is. h.main_gives f (main_same ∙ is);
    functions_only = λ f le. h.functions_only f (subst (λ (n : ℕ). n ≤ f) (sym count_same) le);
    parameters_only = λ f n le. h.parameters_only f n (subst (λ (m : ℕ). m ≤ f) (sym count_same) le);
    gives_only = λ f le. h.gives_only f (subst (λ (n : ℕ). n ≤ f) (sym count_same) le);
  }
    where
      here : (f : ℕ) (d : Doing) → Contains (doings_of q f) d → Contains (doings_of p f) d
      here f d m = subst (λ (ds : List Doing). Contains ds d) (sym (doings_same f)) m

      ends_back : (i : ℕ) (e : Option Expr) (c d : Function) → unlined_function c ≡ unlined_function d → EndsWith i e d.body → EndsWith i e c.body
      ends_back i e c d alike h = ends_lined i e c.body (subst (λ (f : Function). EndsWith i e f.body) (sym alike) (ends_unlined i e d.body h))

  -- what is each function's own in the first is so in the second
  pub own_too : HasOwnParts p → HasOwnParts q
  own_too h = record {
    parameters_own = λ f g n x d m names at. h.parameters_own f g n x d (subst (λ (ds : List Doing). Contains ds d) (sym (doings_same f)) m) names (subst (λ (xs : List ℕ). slice_get xs n ≡ Some x) (sym (parameters_same g)) at);
    parameters_once = λ f g n m x at there.
        h.parameters_once f g n m x (subst (λ (xs : List ℕ). slice_get xs n ≡ Some x) (sym (parameters_same f)) at) (subst (λ (xs : List ℕ). slice_get xs m ≡ Some x) (sym (parameters_same g)) there);
    returns_there = λ f c at gives not_main.
        let w = other f c at in
        let r = h.returns_there f w.function w.at (result_same f ∙ gives) (is_main_same f ∙ not_main) in
        (r.0, r.1, ends_too r.0 (Some r.1) c w.function w.alike r.2);
    returns_last = λ f i e c at m.
        let w = other f c at in
        ends_too i e c w.function w.alike (h.returns_last f i e w.function w.at (subst (λ (ds : List Doing). Contains ds (Does i (Returns e))) (sym (doings_same f)) m));
  }
