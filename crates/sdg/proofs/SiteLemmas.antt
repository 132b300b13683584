-- The calls that the walk finds are those of the program.
use Rattle.std.proofs.Common.{◌≡◌, ℕ, zero, suc, ◌+◌, ◌<◌, List, [], ◌∷◌, ◌++◌, length, get_or, take, slice_get, Contains, Option, Some, None, Bool, true, false, inl, inr, refl, sym, ap, ◌∙◌, subst, arith}
use Rattle.std.proofs.Common.{append_assoc}
use Rattle.std.specs.Option.{option_map_or}
use Rattle.std.proofs.lemmas.Option.{same_Some}
use Rattle.std.proofs.lemmas.Bool.{false≢true}
use Rattle.std.proofs.lemmas.List.{length-take}
use Rattle.std.proofs.lemmas.List.Elements.{Contains-append_left, Contains-append_right, Contains-append_cases}
use Rattle.std.proofs.Math.Seq.{take-suc}
use Rattle.rule_closure.proofs.ListLemmas.{contains_none, contains_head, contains_cons, contains_cases}
use Rattle.c_tree.specs.declared.expr.Expr.{Expr}
use Rattle.c_tree.specs.declared.program.Function.{Function}
use Rattle.c_tree.specs.declared.program.Program.{Program}
use Rattle.c_tree.specs.declared.statement.Target.{Target}
use Rattle.dep_model.specs.Doings.{Doing, Does, Calls, body_doings, doings_of}
use Rattle.sdg.specs.declared.call_sites.CallSite.{CallSite}
use Rattle.sdg.specs.CallSites.{site, sites_in, sites_from, IsSite, AreSites}

-- ---- function by function

sites_push : (n : ℕ) (gs : List Function) (g : Function) → sites_from n (gs ++ g ∷ []) ≡ sites_from n gs ++ sites_in (n + length gs) (body_doings g.body)
sites_push n [] g =
    let same : n ≡ n + 0 = omega arith in
    append_nothing (sites_in n (body_doings g.body)) ∙ ap (λ k. sites_in k (body_doings g.body)) same
  where
    append_nothing : (xs : List CallSite) → xs ++ [] ≡ xs
    append_nothing [] = refl
    append_nothing (x ∷ xs) = ap (λ ys. x ∷ ys) (append_nothing xs)
sites_push n (h ∷ gs) g =
    let next : suc n + length gs ≡ n + suc (length gs) = omega arith in
    let here = sites_in n (body_doings h.body) in
    ap (λ xs. here ++ xs) (sites_push (suc n) gs g ∙ ap (λ k. sites_from (suc n) gs ++ sites_in k (body_doings g.body)) next)
    ∙ sym (append_assoc here (sites_from (suc n) gs) (sites_in (n + suc (length gs)) (body_doings g.body)))

pub functions_turn : (gs : List Function) (i : ℕ) (g : Function) (start old new : List CallSite)
    → i < length gs → g ≡ get_or gs i g → old ≡ start ++ sites_from 0 (take i gs) → new ≡ old ++ sites_in i (body_doings g.body)
    → new ≡ start ++ sites_from 0 (take (i + 1) gs)
functions_turn gs i g start old new low at before step =
    let one : i + 1 ≡ suc i = omega arith in
    let next : take (i + 1) gs ≡ take i gs ++ g ∷ [] = ap (λ n. take n gs) one ∙ take-suc gs i g low ∙ ap (λ x. take i gs ++ x ∷ []) (sym at) in
    let count : 0 + length (take i gs) ≡ i = omega (arith, length-take i gs, low) in
    let here = sites_in i (body_doings g.body) in
    step ∙ ap (λ xs. xs ++ here) before ∙ append_assoc start (sites_from 0 (take i gs)) here
    ∙ ap (λ xs. start ++ xs) (sym (ap (sites_from 0) next ∙ sites_push 0 (take i gs) g ∙ ap (λ k. sites_from 0 (take i gs) ++ sites_in k (body_doings g.body)) count))

-- ---- which calls these are

-- a call among some statements
pub record CallsIn (ds : List Doing) (x : CallSite) : Type 0 where
  pub target : Target
  pub args : List Expr
  pub member : Contains ds (Calls x.statement target x.callee args)

in_more : (d : Doing) (ds : List Doing) (x : CallSite) → CallsIn ds x → CallsIn (d ∷ ds) x
in_more d ds x c = record { target = c.target; args = c.args; member = contains_cons d ds _ c.member }

found_in : (f : ℕ) (ds : List Doing) (x : CallSite) → Contains (sites_in f ds) x → (x.function ≡ f) × CallsIn ds x
found_in f [] x m = absurd (contains_none x m)
found_in f (Does i a ∷ ds) x m = let h = found_in f ds x m in (h.0, in_more (Does i a) ds x h.1)
found_in f (Calls i to g args ∷ ds) x m = elim (contains_cases (site f i g) (sites_in f ds) x m) [
  | inl q ↦ subst (λ y. (y.function ≡ f) × CallsIn (Calls i to g args ∷ ds) y) q (refl, record { target = to; args = args; member = contains_head (Calls i to g args) ds })
  | inr n ↦ let h = found_in f ds x n in (h.0, in_more (Calls i to g args) ds x h.1)
]

kept_in : (f : ℕ) (ds : List Doing) (x : CallSite) → x.function ≡ f → CallsIn ds x → Contains (sites_in f ds) x
kept_in f [] x same c = absurd (contains_none _ c.member)
kept_in f (Does i a ∷ ds) x same c = elim (contains_cases (Does i a) ds _ c.member) [
  | inl q ↦ absurd (does_not_call q)
  | inr m ↦ kept_in f ds x same (record { target = c.target; args = c.args; member = m })
]
  where
    does_not_call : Does i a ≡ Calls x.statement c.target x.callee c.args → ⊥
    does_not_call q = false≢true (ap is_call q)
      where
        is_call : Doing → Bool
        is_call (Does j b) = false
        is_call (Calls j to g args) = true
kept_in f (Calls i to g args ∷ ds) x same c = elim (contains_cases (Calls i to g args) ds _ c.member) [
  | inl q ↦ here q
  | inr m ↦ contains_cons (site f i g) (sites_in f ds) x (kept_in f ds x same (record { target = c.target; args = c.args; member = m }))
]
  where
    called : Doing → CallSite
    called (Does j a) = site f j 0
    called (Calls j to' h args') = site f j h

    here : Calls i to g args ≡ Calls x.statement c.target x.callee c.args → Contains (site f i g ∷ sites_in f ds) x
    here q =
        let is : site f i g ≡ x = ap called q ∙ ap (λ k. site k x.statement x.callee) (sym same) in
        subst (Contains (site f i g ∷ sites_in f ds)) is (contains_head (site f i g) (sites_in f ds))

-- a call in one of some functions, of which the first has the number n
pub record CallsFrom (n : ℕ) (gs : List Function) (x : CallSite) : Type 0 where
  pub place : ℕ
  pub body : Function
  pub at : slice_get gs place ≡ Some body
  pub number : x.function ≡ n + place
  pub calls : CallsIn (body_doings body.body) x

found_from : (n : ℕ) (gs : List Function) (x : CallSite) → Contains (sites_from n gs) x → CallsFrom n gs x
found_from n [] x m = absurd (contains_none x m)
found_from n (g ∷ gs) x m = elim (Contains-append_cases (sites_in n (body_doings g.body)) (sites_from (suc n) gs) x m) [
  | inl a ↦ let h = found_in n (body_doings g.body) x a in record { place = 0; body = g; at = refl; number = omega (arith, h.0); calls = h.1 }
  | inr b ↦ let h = found_from (suc n) gs x b in record { place = suc h.place; body = h.body; at = h.at; number = omega (arith, h.number); calls = h.calls }
]

kept_from : (n : ℕ) (gs : List Function) (x : CallSite) (k : ℕ) (body : Function) → slice_get gs k ≡ Some body → x.function ≡ n + k → CallsIn (body_doings body.body) x → Contains (sites_from n gs) x
kept_from n [] x k body at same c = none_there at
  where
    none_there : {A : Type 0} → slice_get {X = Function} [] k ≡ Some body → A
    none_there h = cc
kept_from n (g ∷ gs) x zero body at same c =
    let is : g ≡ body = same_Some _ _ at in
    let zero_is : x.function ≡ n = omega (arith, same) in
    Contains-append_left (sites_in n (body_doings g.body)) (sites_from (suc n) gs) x (kept_in n (body_doings g.body) x zero_is (subst (λ (h : Function). CallsIn (body_doings h.body) x) (sym is) c))
kept_from n (g ∷ gs) x (suc k) body at same c =
    Contains-append_right (sites_in n (body_doings g.body)) (sites_from (suc n) gs) x (kept_from (suc n) gs x k body at (omega (arith, same)) c)

pub sites_are : (p : Program) → AreSites p (sites_from 0 p.functions)
sites_are p x = (
  λ m.
      let h = found_from 0 p.functions x m in
      let number : h.place ≡ x.function = omega (arith, h.number) in
      let at : slice_get p.functions x.function ≡ Some h.body = subst (λ k. slice_get p.functions k ≡ Some h.body) number h.at in
      let same : body_doings h.body.body ≡ doings_of p x.function = sym (ap (λ o. option_map_or (λ (g : Function). body_doings g.body) o []) at) in
      record { target = h.calls.target; args = h.calls.args; member = subst (λ ds. Contains ds (Calls x.statement h.calls.target x.callee h.calls.args)) same h.calls.member },
  λ s. by_function p x (slice_get p.functions x.function) refl s,
)
  where
    by_function : (p : Program) (x : CallSite) (o : Option Function) → slice_get p.functions x.function ≡ o → IsSite p x → Contains (sites_from 0 p.functions) x
    by_function p x None at s =
        let none : doings_of p x.function ≡ [] = ap (λ o. option_map_or (λ (g : Function). body_doings g.body) o []) at in
        absurd (contains_none _ (subst (λ ds. Contains ds (Calls x.statement s.target x.callee s.args)) none s.member))
    by_function p x (Some g) at s =
        let same : doings_of p x.function ≡ body_doings g.body = ap (λ o. option_map_or (λ (h : Function). body_doings h.body) o []) at in
        kept_from 0 p.functions x x.function g at (omega arith) (record { target = s.target; args = s.args; member = subst (λ ds. Contains ds (Calls x.statement s.target x.callee s.args)) same s.member })
