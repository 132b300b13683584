-- What stays of the tree of a statement, by what its parts have in the tree.
use Rattle.std.proofs.Common.{◌≡◌, ℕ, List, [], ◌∷◌, map, Bool, true, false, Option, Some, None, refl, sym, ap, ap₂, ◌∙◌}
use Rattle.std.specs.Prelude.{option_map, option_and_then}
use Rattle.c_arith.specs.declared.int_type.IntType.{IntType}
use Rattle.c_tree.specs.declared.expr.Expr.{Expr}
use Rattle.c_tree.specs.declared.statement.Arm.{Arm}
use Rattle.c_tree.specs.declared.statement.Statement.{Statement}
use Rattle.c_tree.specs.declared.statement.Statement.TheVariants as s
use Rattle.c_language.specs.ConstantEvaluation.{both}
use Rattle.c_language.specs.ProgramOf.{collected, for_tree}
use Rattle.c_language.proofs.Options.{none_there, some_same}
use Rattle.projection.specs.Renumbering.{renamed}
use Rattle.kept_numbers.specs.Ranks.{rank}
use Rattle.projection.specs.Kept.{Kept}
use Rattle.projection.specs.Projection.{if_so, part_of, alone, block_of, projected, projected_arm, projected_all}
use Rattle.c_scope_laws.proofs.TreeForms.{projected-If, projected-While, projected-Do, projected-For, projected-Switch, projected-Block}

-- a choice that is made
pub chosen : {A : Type 0} {b : Bool} (xs ys : List A) → b ≡ true → if_so b xs ys ≡ xs
chosen xs ys h = ap (λ (c : Bool). if_so c xs ys) h

pub unchosen : {A : Type 0} {b : Bool} (xs ys : List A) → b ≡ false → if_so b xs ys ≡ ys
unchosen xs ys h = ap (λ (c : Bool). if_so c xs ys) h

-- one statement that is there
pub record IsOne (o : Option Statement) (ws : List Statement) : Type 0 where
  pub value : Statement
  pub there : o ≡ Some value
  pub same : ws ≡ value ∷ []

pub one_there : (o : Option Statement) (ws : List Statement) → collected (o ∷ []) ≡ Some ws → IsOne o ws
one_there None ws h = none_there h
one_there (Some w) ws h = record { value = w; there = refl; same = sym (some_same h) }

pub collect_one : {o : Option Statement} {w : Statement} → o ≡ Some w → collected (o ∷ []) ≡ Some (w ∷ [])
collect_one h = ap (λ (o : Option Statement). collected (o ∷ [])) h

module _ {F : Type 0} (k : Kept F) (g : ℕ → ℕ) where
  abbrev pub f : ℕ → ℕ
  f = rank k.variable

  -- what stays of a list where it is there
  abbrev pub ListStays : Option (List Statement) → Option (List Statement) → Type 0
  ListStays b c = (zs : List Statement) → b ≡ Some zs → c ≡ Some (projected_all k g zs)

  -- what stays of a statement, of which this is the list
  pub settled : {o : Option Statement} {w y z : Statement} → o ≡ Some z → projected k g w ≡ z ∷ [] → ◌≡◌ {A = Option Statement} (Some w) (Some y) → collected (o ∷ []) ≡ Some (projected k g y)
  settled p q r = collect_one p ∙ ap Some (sym q ∙ ap (projected k g) (some_same r))

  pub gone : {w y : Statement} → projected k g w ≡ [] → ◌≡◌ {A = Option Statement} (Some w) (Some y) → ◌≡◌ {A = Option (List Statement)} (Some []) (Some (projected k g y))
  gone q r = ap Some (sym q ∙ ap (projected k g) (some_same r))

  module _ (n m l : ℕ) (num : m ≡ rank k.statement n) where
    -- ---- what stays

    pub if_stays : (e : Option Expr) (b c : Option (List Statement)) (e' : Option Expr) (b' c' : Option (List Statement)) → k.statement n ≡ true → e' ≡ option_map (renamed f) e → ListStays b b' → ListStays c c'
        → (y : Statement) → option_and_then (λ (x : Expr). both (s.If n l x) b c) e ≡ Some y → collected (option_and_then (λ (x : Expr). both (s.If m l x) b' c') e' ∷ []) ≡ Some (projected k g y)
    if_stays None b c e' b' c' kept p q r y is = none_there is
    if_stays (Some x) None c e' b' c' kept p q r y is = none_there is
    if_stays (Some x) (Some zs) None e' b' c' kept p q r y is = none_there is
    if_stays (Some x) (Some zs) (Some ws) e' b' c' kept p q r y is =
        settled
        (ap (λ (e : Option Expr). option_and_then (λ (x : Expr). both (s.If m l x) b' c') e) p
        ∙ ap₂ (λ (b c : Option (List Statement)). both (s.If m l (renamed f x)) b c) (q zs refl) (r ws refl)
        ∙ ap (λ (i : ℕ). Some (s.If i l (renamed f x) (projected_all k g zs) (projected_all k g ws))) num)
        (projected-If k g n l x zs ws ∙ chosen _ [] kept) is

    pub while_stays : (e : Option Expr) (b : Option (List Statement)) (e' : Option Expr) (b' : Option (List Statement)) → k.statement n ≡ true → e' ≡ option_map (renamed f) e → ListStays b b'
        → (y : Statement) → both (s.While n l) e b ≡ Some y → collected (both (s.While m l) e' b' ∷ []) ≡ Some (projected k g y)
    while_stays None b e' b' kept p q y is = none_there is
    while_stays (Some x) None e' b' kept p q y is = none_there is
    while_stays (Some x) (Some zs) e' b' kept p q y is =
        settled (ap₂ (both (s.While m l)) p (q zs refl) ∙ ap (λ (i : ℕ). Some (s.While i l (renamed f x) (projected_all k g zs))) num) (projected-While k g n l x zs ∙ chosen _ [] kept) is

    pub do_stays : (e : Option Expr) (b : Option (List Statement)) (e' : Option Expr) (b' : Option (List Statement)) → k.statement n ≡ true → e' ≡ option_map (renamed f) e → ListStays b b'
        → (y : Statement) → both (s.Do n l) e b ≡ Some y → collected (both (s.Do m l) e' b' ∷ []) ≡ Some (projected k g y)
    do_stays None b e' b' kept p q y is = none_there is
    do_stays (Some x) None e' b' kept p q y is = none_there is
    do_stays (Some x) (Some zs) e' b' kept p q y is =
        settled (ap₂ (both (s.Do m l)) p (q zs refl) ∙ ap (λ (i : ℕ). Some (s.Do i l (renamed f x) (projected_all k g zs))) num) (projected-Do k g n l x zs ∙ chosen _ [] kept) is

    -- what stays of a part of a for
    abbrev PartStays : Option (Option Statement) → Option (Option Statement) → Type 0
    PartStays b c = (z : Option Statement) → b ≡ Some z → c ≡ Some (part_of (option_map (projected k g) z))

    pub for_stays : (i : Option (Option Statement)) (e : Option Expr) (step : Option (Option Statement)) (b : Option (List Statement)) (i' : Option (Option Statement)) (e' : Option Expr) (step' : Option (Option Statement)) (b' : Option (List Statement))
        → k.statement n ≡ true → PartStays i i' → e' ≡ option_map (renamed f) e → PartStays step step' → ListStays b b'
        → (y : Statement) → for_tree n l i e step b ≡ Some y → collected (for_tree m l i' e' step' b' ∷ []) ≡ Some (projected k g y)
    for_stays None e step b i' e' step' b' kept u p v q y is = none_there is
    for_stays (Some i) None step b i' e' step' b' kept u p v q y is = none_there is
    for_stays (Some i) (Some x) None b i' e' step' b' kept u p v q y is = none_there is
    for_stays (Some i) (Some x) (Some w) None i' e' step' b' kept u p v q y is = none_there is
    for_stays (Some i) (Some x) (Some w) (Some zs) i' e' step' b' kept u p v q y is =
        settled
        (ap₂ (λ (i : Option (Option Statement)) (e : Option Expr). for_tree m l i e step' b') (u i refl) p
        ∙ ap₂ (λ (w : Option (Option Statement)) (b : Option (List Statement)). both (s.For m l (part_of (option_map (projected k g) i)) (renamed f x)) w b) (v w refl) (q zs refl)
        ∙ ap (λ (j : ℕ). Some (s.For j l (part_of (option_map (projected k g) i)) (renamed f x) (part_of (option_map (projected k g) w)) (projected_all k g zs))) num)
        (projected-For k g n l i x w zs ∙ chosen _ (alone l (part_of (option_map (projected k g) i))) kept) is

    pub switch_stays : (e : Option Expr) (t : Option IntType) (arms : IntType → Option (List Arm)) (e' : Option Expr) (t' : Option IntType) (arms' : IntType → Option (List Arm)) → k.statement n ≡ true → e' ≡ option_map (renamed f) e → t' ≡ t
        → ((i : IntType) (zs : List Arm) → arms i ≡ Some zs → arms' i ≡ Some (map (projected_arm k g) zs))
        → (y : Statement) → option_and_then (λ (x : Expr). option_and_then (λ (t : IntType). option_map (s.Switch n l x) (arms t)) t) e ≡ Some y
        → collected (option_and_then (λ (x : Expr). option_and_then (λ (t : IntType). option_map (s.Switch m l x) (arms' t)) t') e' ∷ []) ≡ Some (projected k g y)
    switch_stays None t arms e' t' arms' kept p same q y is = none_there is
    switch_stays (Some x) None arms e' t' arms' kept p same q y is = none_there is
    switch_stays (Some x) (Some i) arms e' t' arms' kept p same q y is = by_arms (arms i) refl is
      where
        by_arms : (o : Option (List Arm)) → arms i ≡ o → option_map (s.Switch n l x) o ≡ Some y
            → collected (option_and_then (λ (x : Expr). option_and_then (λ (t : IntType). option_map (s.Switch m l x) (arms' t)) t') e' ∷ []) ≡ Some (projected k g y)
        by_arms None at is = none_there is
        by_arms (Some zs) at is =
            settled
            (ap₂ (λ (e : Option Expr) (t : Option IntType). option_and_then (λ (x : Expr). option_and_then (λ (t : IntType). option_map (s.Switch m l x) (arms' t)) t) e) p same
            ∙ ap (option_map (s.Switch m l (renamed f x))) (q i zs at)
            ∙ ap (λ (j : ℕ). Some (s.Switch j l (renamed f x) (map (projected_arm k g) zs))) num)
            (projected-Switch k g n l x zs ∙ chosen _ [] kept) is

    -- ---- what goes

    pub if_gone : (e : Option Expr) (b c : Option (List Statement)) → k.statement n ≡ false → (y : Statement) → option_and_then (λ (x : Expr). both (s.If n l x) b c) e ≡ Some y → Some [] ≡ Some (projected k g y)
    if_gone None b c out y is = none_there is
    if_gone (Some x) None c out y is = none_there is
    if_gone (Some x) (Some zs) None out y is = none_there is
    if_gone (Some x) (Some zs) (Some ws) out y is = gone (projected-If k g n l x zs ws ∙ unchosen _ [] out) is

    pub while_gone : (e : Option Expr) (b : Option (List Statement)) → k.statement n ≡ false → (y : Statement) → both (s.While n l) e b ≡ Some y → Some [] ≡ Some (projected k g y)
    while_gone None b out y is = none_there is
    while_gone (Some x) None out y is = none_there is
    while_gone (Some x) (Some zs) out y is = gone (projected-While k g n l x zs ∙ unchosen _ [] out) is

    pub do_gone : (e : Option Expr) (b : Option (List Statement)) → k.statement n ≡ false → (y : Statement) → both (s.Do n l) e b ≡ Some y → Some [] ≡ Some (projected k g y)
    do_gone None b out y is = none_there is
    do_gone (Some x) None out y is = none_there is
    do_gone (Some x) (Some zs) out y is = gone (projected-Do k g n l x zs ∙ unchosen _ [] out) is

    pub switch_gone : (e : Option Expr) (t : Option IntType) (arms : IntType → Option (List Arm)) → k.statement n ≡ false → (y : Statement)
        → option_and_then (λ (x : Expr). option_and_then (λ (t : IntType). option_map (s.Switch n l x) (arms t)) t) e ≡ Some y → Some [] ≡ Some (projected k g y)
    switch_gone None t arms out y is = none_there is
    switch_gone (Some x) None arms out y is = none_there is
    switch_gone (Some x) (Some i) arms out y is = by_arms (arms i) is
      where
        by_arms : (o : Option (List Arm)) → option_map (s.Switch n l x) o ≡ Some y → Some [] ≡ Some (projected k g y)
        by_arms None is = none_there is
        by_arms (Some zs) is = gone (projected-Switch k g n l x zs ∙ unchosen _ [] out) is

    -- a for that goes leaves what stays of its beginning
    pub for_leaves : (i : Option (Option Statement)) (e : Option Expr) (step : Option (Option Statement)) (b : Option (List Statement)) (first : Option Statement) → k.statement n ≡ false
        → ((z : Option Statement) → i ≡ Some z → part_of (option_map (projected k g) z) ≡ first)
        → (y : Statement) → for_tree n l i e step b ≡ Some y → projected k g y ≡ alone l first
    for_leaves None e step b first out u y is = none_there is
    for_leaves (Some i) None step b first out u y is = none_there is
    for_leaves (Some i) (Some x) None b first out u y is = none_there is
    for_leaves (Some i) (Some x) (Some w) None first out u y is = none_there is
    for_leaves (Some i) (Some x) (Some w) (Some zs) first out u y is =
        ap (projected k g) (sym (some_same is)) ∙ projected-For k g n l i x w zs ∙ unchosen _ (alone l (part_of (option_map (projected k g) i))) out ∙ ap (alone l) (u i refl)

  pub block_stays : (l : ℕ) (b b' : Option (List Statement)) (w : Statement) (ws : List Statement) → ListStays b b' → b' ≡ Some (w ∷ ws) → (y : Statement) → option_map (s.Block l) b ≡ Some y
      → collected (option_map (s.Block l) b' ∷ []) ≡ Some (projected k g y)
  block_stays l None b' w ws q p y is = none_there is
  block_stays l (Some zs) b' w ws q p y is =
      settled (ap (option_map (s.Block l)) p) (projected-Block k g l zs ∙ ap (block_of l) (some_same (sym (q zs refl) ∙ p))) is

  pub block_gone : (l : ℕ) (b : Option (List Statement)) → ListStays b (Some []) → (y : Statement) → option_map (s.Block l) b ≡ Some y → Some [] ≡ Some (projected k g y)
  block_gone l None q y is = none_there is
  block_gone l (Some zs) q y is = gone (projected-Block k g l zs ∙ ap (block_of l) (sym (some_same (q zs refl)))) is
