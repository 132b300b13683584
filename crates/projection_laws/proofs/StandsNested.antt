-- Each statement is kept in which a kept one stands: by direct steps, and anyhow.
use Rattle.std.proofs.Common.{◌≡◌, ℕ, ◌==◌, List, [], ◌∷◌, map, Bool, true, false, ◌&&◌, ◌||◌, Some, None, refl, sym, ap, subst, ◌∙◌}
use Rattle.std.specs.List.{list_all, list_any}
use Rattle.std.proofs.lemmas.Bool.{eqb-true, and_parts, or_left, or_right, and_from, eq-eqb}
use Rattle.c_tree.specs.declared.program.Function.{Function}
use Rattle.c_tree.specs.declared.program.Program.{Program}
use Rattle.c_tree.specs.declared.statement.Statement.{Statement, ind-Statement, roll-Statement, map-Statement, fold-roll-Statement}
use Rattle.c_tree.specs.declared.statement.Statement.TheOpen.{Statement-F, Arm-F}
use Rattle.c_tree.specs.declared.statement.Arm.{Arm, roll-Arm, fold-roll-Arm}
use Rattle.c_tree.proofs.Trees.{statement_layer, arm_layer, StatementParts, ArmParts}
use Rattle.c_language.proofs.Tests.{false_true, by_or}
use Rattle.projection_laws.specs.Nested.{Nest, any_kept, all_fit, governs, nest_step, nest_arm, nest, arm_nest, is_nested, IsNested, Stands, any_own, any_inside, stands_step, stands_arm, stands, arm_stands, stands_in}

governs_true : (b inside : Bool) → (inside ≡ true → b ≡ true) → governs b inside ≡ true
governs_true true inside h = refl
governs_true false true h = h refl
governs_true false false h = refl

pub governs_back : (b inside : Bool) → governs b inside ≡ true → inside ≡ true → b ≡ true
governs_back true inside g h = refl
governs_back false true g h = g
governs_back false false g h = h

module _ (keeps : ℕ → Bool) where
  abbrev Closed : (ℕ → ℕ → Bool) → Type 0
  Closed inside = (o i : ℕ) → inside o i ≡ true → keeps i ≡ true → keeps o ≡ true

  record Found (own : ℕ → Bool) : Type 0 where
    pub number : ℕ
    pub is : own number ≡ true
    pub kept : keeps number ≡ true

  -- what is known of a list by its tests, and by what stands in what
  record Tie (kept fit : Bool) (own : ℕ → Bool) (inside : ℕ → ℕ → Bool) : Type 0 where
    pub fits : Closed inside → fit ≡ true
    pub found : Closed inside → kept ≡ true → Found own
    pub back : fit ≡ true → Closed inside
    pub keeps_it : (n : ℕ) → own n ≡ true → keeps n ≡ true → kept ≡ true

  tie_none : Tie false true (λ n. false) (λ o i. false)
  tie_none = record { fits = λ c. refl; found = λ c h. false_true h; back = λ h o i p q. false_true p; keeps_it = λ n p q. p }

  tie_own : (id : ℕ) → Tie (keeps id) true (λ n. id == n) (λ o i. false)
  tie_own id = record {
    fits = λ c. refl;
    found = λ c h. record { number = id; is = eq-eqb id id refl; kept = h };
    back = λ h o i p q. false_true p;
    keeps_it = λ n p q. ap keeps (eqb-true id n p) ∙ q;
  }

  tie_both : (a b e f : Bool) (own more : ℕ → Bool) (inside within : ℕ → ℕ → Bool) → Tie a e own inside → Tie b f more within → Tie (a || b) (e && f) (λ n. own n || more n) (λ o i. inside o i || within o i)
  tie_both a b e f own more inside within s t = record {
    fits = λ c. and_from _ _ (s.fits (λ o i h. c o i (or_left (inside o i) (within o i) h))) (t.fits (λ o i h. c o i (or_right (inside o i) (within o i) h)));
    found = λ c h. by_or a b h
        (λ p. let w = s.found (λ o i h. c o i (or_left (inside o i) (within o i) h)) p in record { number = w.number; is = or_left (own w.number) (more w.number) w.is; kept = w.kept })
        (λ p. let w = t.found (λ o i h. c o i (or_right (inside o i) (within o i) h)) p in record { number = w.number; is = or_right (own w.number) (more w.number) w.is; kept = w.kept });
    back = λ h o i p q. by_or (inside o i) (within o i) p (λ r. s.back (and_parts e f h).0 o i r q) (λ r. t.back (and_parts e f h).1 o i r q);
    keeps_it = λ n p q. by_or (own n) (more n) p (λ r. or_left a b (s.keeps_it n r q)) (λ r. or_right a b (t.keeps_it n r q));
  }

  -- what stands in a statement
  tie_under : (id : ℕ) (a e : Bool) (own : ℕ → Bool) (inside : ℕ → ℕ → Bool) → Tie a e own inside → Tie (keeps id || a) (governs (keeps id) a && e) (λ n. id == n) (λ o i. (id == o && own i) || inside o i)
  tie_under id a e own inside t = record {
    fits = λ c. and_from _ _ (governs_true (keeps id) a (λ h. above c h)) (t.fits (λ o i h. c o i (or_right (id == o && own i) (inside o i) h)));
    found = λ c h. record { number = id; is = eq-eqb id id refl; kept = by_or (keeps id) a h (λ p. p) (λ p. above c p) };
    back = λ h o i p q. by_or (id == o && own i) (inside o i) p
        (λ r. let b = and_parts (id == o) (own i) r in sym (ap keeps (eqb-true id o b.0)) ∙ governs_back (keeps id) a (and_parts (governs (keeps id) a) e h).0 (t.keeps_it i b.1 q))
        (λ r. t.back (and_parts (governs (keeps id) a) e h).1 o i r q);
    keeps_it = λ n p q. or_left (keeps id) a (ap keeps (eqb-true id n p) ∙ q);
  }
    where
      above : Closed (λ o i. (id == o && own i) || inside o i) → a ≡ true → keeps id ≡ true
      above c h =
          let w = t.found (λ o i h. c o i (or_right (id == o && own i) (inside o i) h)) h in c id w.number (or_left (id == id && own w.number) (inside id w.number) (and_from _ _ (eq-eqb id id refl) w.is)) w.kept

  -- a for, what it begins with, and what stands in it
  tie_for : (id : ℕ) (a b e f : Bool) (own more : ℕ → Bool) (inside within : ℕ → ℕ → Bool) → Tie a e own inside → Tie b f more within
      → Tie (keeps id || (a || b)) (governs (keeps id) b && (e && f)) (λ n. id == n || own n) (λ o i. (id == o && more i) || (inside o i || within o i))
  tie_for id a b e f own more inside within s t = record {
    fits = λ c. and_from _ _ (governs_true (keeps id) b (λ h. above c h)) (and_from _ _ (s.fits (λ o i h. c o i (or_right (id == o && more i) _ (or_left (inside o i) (within o i) h)))) (t.fits (λ o i h. c o i (or_right (id == o && more i) _ (or_right (inside o i) (within o i) h)))));
    found = λ c h. by_or (keeps id) (a || b) h (λ p. itself_found p)
        (λ r. by_or a b r
        (λ p. let w = s.found (λ o i h. c o i (or_right (id == o && more i) _ (or_left (inside o i) (within o i) h))) p in record { number = w.number; is = or_right (id == w.number) (own w.number) w.is; kept = w.kept })
        (λ p. itself_found (above c p)));
    back = λ h o i p q. by_or (id == o && more i) (inside o i || within o i) p
        (λ r. let b2 = and_parts (id == o) (more i) r in sym (ap keeps (eqb-true id o b2.0)) ∙ governs_back (keeps id) b (and_parts (governs (keeps id) b) (e && f) h).0 (t.keeps_it i b2.1 q))
        (λ r. let g = and_parts e f (and_parts (governs (keeps id) b) (e && f) h).1 in by_or (inside o i) (within o i) r (λ u. s.back g.0 o i u q) (λ u. t.back g.1 o i u q));
    keeps_it = λ n p q. by_or (id == n) (own n) p (λ r. or_left (keeps id) (a || b) (ap keeps (eqb-true id n r) ∙ q)) (λ r. or_right (keeps id) (a || b) (or_left a b (s.keeps_it n r q)));
  }
    where
      itself_found : keeps id ≡ true → Found (λ n. id == n || own n)
      itself_found h = record { number = id; is = or_left (id == id) (own id) (eq-eqb id id refl); kept = h }

      above : Closed (λ o i. (id == o && more i) || (inside o i || within o i)) → b ≡ true → keeps id ≡ true
      above c h =
          let w = t.found (λ o i h. c o i (or_right (id == o && more i) _ (or_right (inside o i) (within o i) h))) h in c id w.number (or_left (id == id && more w.number) _ (and_from _ _ (eq-eqb id id refl) w.is)) w.kept

  -- ---- by layers

  abbrev Tied : Nest → Stands → Type 0
  Tied m w = Tie m.keeps m.fits w.own w.inside

  abbrev IsTied : Statement → Type 0
  IsTied x = Tied (nest keeps x) (stands x)

  abbrev ArmTied : Arm → Type 0
  ArmTied x = Tied (arm_nest keeps x) (arm_stands x)

  abbrev Layer : Type 0
  Layer = StatementParts IsTied ArmTied

  abbrev ArmLayer : Type 0
  ArmLayer = ArmParts IsTied ArmTied

  abbrev shape : Layer → Statement-F Statement Arm
  shape = statement_layer IsTied ArmTied

  abbrev arm_shape : ArmLayer → Arm-F Statement Arm
  arm_shape = arm_layer IsTied ArmTied

  abbrev bodies : List ((x : Statement) × IsTied x) → List Statement
  bodies = map (λ (x : (y : Statement) × IsTied y). x.0)

  abbrev bodies_of_arms : List ((x : Arm) × ArmTied x) → List Arm
  bodies_of_arms = map (λ (x : (y : Arm) × ArmTied y). x.0)

  abbrev AllTied : List Nest → List Stands → Type 0
  AllTied ms ws = Tie (any_kept ms) (all_fit ms) (any_own ws) (any_inside ws)

  all_tied : (xs : List ((x : Statement) × IsTied x)) → AllTied (map (nest keeps) (bodies xs)) (map stands (bodies xs))
  all_tied [] = tie_none
  all_tied (x ∷ xs) = tie_both _ _ _ _ (stands x.0).own (any_own (map stands (bodies xs))) (stands x.0).inside (any_inside (map stands (bodies xs))) x.1 (all_tied xs)

  arms_tied : (xs : List ((x : Arm) × ArmTied x)) → AllTied (map (arm_nest keeps) (bodies_of_arms xs)) (map arm_stands (bodies_of_arms xs))
  arms_tied [] = tie_none
  arms_tied (x ∷ xs) = tie_both _ _ _ _ (arm_stands x.0).own (any_own (map arm_stands (bodies_of_arms xs))) (arm_stands x.0).inside (any_inside (map arm_stands (bodies_of_arms xs))) x.1 (arms_tied xs)

  abbrev nest_at : Statement-F Statement Arm → Nest
  nest_at y = nest_step keeps (map-Statement Statement Arm Nest Nest (nest keeps) (arm_nest keeps) y)

  abbrev stands_at : Statement-F Statement Arm → Stands
  stands_at y = stands_step (map-Statement Statement Arm Stands Stands stands arm_stands y)

  for_tied : (id : ℕ) (a e : Bool) (own : ℕ → Bool) (inside : ℕ → ℕ → Bool) (b f : Bool) (more : ℕ → Bool) (within : ℕ → ℕ → Bool) (xs : List ((x : Statement) × IsTied x)) → Tie a e own inside → Tie b f more within
      → Tie (keeps id || (a || (b || any_kept (map (nest keeps) (bodies xs))))) (governs (keeps id) (b || any_kept (map (nest keeps) (bodies xs))) && (e && (f && all_fit (map (nest keeps) (bodies xs)))))
      (λ n. id == n || own n) (λ o i. (id == o && (more i || any_own (map stands (bodies xs)) i)) || (inside o i || (within o i || any_inside (map stands (bodies xs)) o i)))
  for_tied id a e own inside b f more within xs s t =
      tie_for id a _ e _ own (λ i. more i || any_own (map stands (bodies xs)) i) inside (λ o i. within o i || any_inside (map stands (bodies xs)) o i) s
      (tie_both b _ f _ more (any_own (map stands (bodies xs))) within (any_inside (map stands (bodies xs))) t (all_tied xs))

  layer_tied : (y : Layer) → Tied (nest_at (shape y)) (stands_at (shape y))
  layer_tied (Statement-F.Declare None l x i) = tie_none
  layer_tied (Statement-F.Declare (Some id) l x i) = tie_own id
  layer_tied (Statement-F.Assign id l a op b) = tie_own id
  layer_tied (Statement-F.Bump id l a up before) = tie_own id
  layer_tied (Statement-F.Invoke id l to f args) = tie_own id
  layer_tied (Statement-F.Fetch id l to) = tie_own id
  layer_tied (Statement-F.Write id l e) = tie_own id
  layer_tied (Statement-F.Print id l format args) = tie_own id
  layer_tied (Statement-F.Heap id l to cast n) = tie_own id
  layer_tied (Statement-F.Release id l e) = tie_own id
  layer_tied (Statement-F.Return id l e) = tie_own id
  layer_tied (Statement-F.If id l e a b) =
      tie_under id _ _ (λ i. any_own (map stands (bodies a)) i || any_own (map stands (bodies b)) i) (λ o i. any_inside (map stands (bodies a)) o i || any_inside (map stands (bodies b)) o i)
      (tie_both _ _ _ _ (any_own (map stands (bodies a))) (any_own (map stands (bodies b))) (any_inside (map stands (bodies a))) (any_inside (map stands (bodies b))) (all_tied a) (all_tied b))
  layer_tied (Statement-F.While id l e b) = tie_under id _ _ (any_own (map stands (bodies b))) (any_inside (map stands (bodies b))) (all_tied b)
  layer_tied (Statement-F.Do id l e b) = tie_under id _ _ (any_own (map stands (bodies b))) (any_inside (map stands (bodies b))) (all_tied b)
  layer_tied (Statement-F.For id l None e None b) = for_tied id false true (λ n. false) (λ o i. false) false true (λ n. false) (λ o i. false) b tie_none tie_none
  layer_tied (Statement-F.For id l None e (Some k) b) = for_tied id false true (λ n. false) (λ o i. false) _ _ (stands k.0).own (stands k.0).inside b tie_none k.1
  layer_tied (Statement-F.For id l (Some i) e None b) = for_tied id _ _ (stands i.0).own (stands i.0).inside false true (λ n. false) (λ o i. false) b i.1 tie_none
  layer_tied (Statement-F.For id l (Some i) e (Some k) b) = for_tied id _ _ (stands i.0).own (stands i.0).inside _ _ (stands k.0).own (stands k.0).inside b i.1 k.1
  layer_tied (Statement-F.Switch id l e arms) = tie_under id _ _ (any_own (map arm_stands (bodies_of_arms arms))) (any_inside (map arm_stands (bodies_of_arms arms))) (arms_tied arms)
  layer_tied (Statement-F.Block l b) = all_tied b

  tied : (x : Statement) → IsTied x
  tied = ind-Statement IsTied ArmTied
      (λ x y is. subst (λ z. IsTied (roll-Statement z)) is
      (subst (λ (m : Nest). Tied m (stands (roll-Statement (shape y)))) (sym (fold-roll-Statement Nest Nest (nest_step keeps) (nest_arm keeps) (shape y)))
      (subst (Tied (nest_at (shape y))) (sym (fold-roll-Statement Stands Stands stands_step stands_arm (shape y))) (layer_tied y))))
      (λ x y is. subst (λ z. ArmTied (roll-Arm z)) is
      (subst (λ (m : Nest). Tied m (arm_stands (roll-Arm (arm_shape y)))) (sym (fold-roll-Arm Nest Nest (nest_step keeps) (nest_arm keeps) (arm_shape y)))
      (subst (λ (w : Stands). Tie (any_kept (map (nest keeps) (bodies y.body))) (all_fit (map (nest keeps) (bodies y.body))) w.own w.inside) (sym (fold-roll-Arm Stands Stands stands_step stands_arm (arm_shape y))) (all_tied y.body))))

  -- ---- programs

  body_tied : (xs : List Statement) → Tie (any_kept (map (nest keeps) xs)) (list_all (is_nested keeps) xs) (any_own (map stands xs)) (any_inside (map stands xs))
  body_tied [] = tie_none
  body_tied (x ∷ xs) = tie_both _ _ _ _ (stands x).own (any_own (map stands xs)) (stands x).inside (any_inside (map stands xs)) (tied x) (body_tied xs)

  abbrev all_stand : List Function → ℕ → ℕ → Bool
  all_stand fs outer inner = list_any (λ (f : Function). any_inside (map stands f.body) outer inner) fs

  functions_nested : (fs : List Function) → Closed (all_stand fs) → list_all (λ (f : Function). list_all (is_nested keeps) f.body) fs ≡ true
  functions_nested [] c = refl
  functions_nested (f ∷ fs) c =
      and_from _ _ ((body_tied f.body).fits (λ o i h. c o i (or_left (any_inside (map stands f.body) o i) (all_stand fs o i) h))) (functions_nested fs (λ o i h. c o i (or_right (any_inside (map stands f.body) o i) (all_stand fs o i) h)))

  functions_stand : (fs : List Function) → list_all (λ (f : Function). list_all (is_nested keeps) f.body) fs ≡ true → Closed (all_stand fs)
  functions_stand [] h o i p q = false_true p
  functions_stand (f ∷ fs) h o i p q =
      let b = and_parts (list_all (is_nested keeps) f.body) (list_all (λ (g : Function). list_all (is_nested keeps) g.body) fs) h in
      by_or (any_inside (map stands f.body) o i) (all_stand fs o i) p (λ r. (body_tied f.body).back b.0 o i r q) (λ r. functions_stand fs b.1 o i r q)

pub standing_nested : (p : Program) (keeps : ℕ → Bool) → ((outer inner : ℕ) → stands_in p outer inner ≡ true → keeps inner ≡ true → keeps outer ≡ true) → IsNested keeps p
standing_nested p keeps c = functions_nested keeps p.functions c

pub nested_standing : (p : Program) (keeps : ℕ → Bool) → IsNested keeps p → (outer inner : ℕ) → stands_in p outer inner ≡ true → keeps inner ≡ true → keeps outer ≡ true
nested_standing p keeps h outer inner p2 q = functions_stand keeps p.functions h outer inner p2 q
