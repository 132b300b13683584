-- What stands in a statement has a pair from it in the walk that finds control edges, where each arm of a switch is taken.
use Rattle.std.proofs.Common.{◌≡◌, ℕ, ◌==◌, ◌⊎◌, List, [], ◌∷◌, ◌++◌, map, Bool, true, false, ◌&&◌, ◌||◌, inl, inr, Some, None, refl, sym, ap, subst, ◌∙◌}
use Rattle.std.specs.Prelude.{if◌then◌else◌}
use Rattle.std.specs.List.{list_all}
use Rattle.std.proofs.lemmas.Bool.{eqb-true, and_parts}
use Rattle.c_tree.specs.declared.expr.Expr.{Expr}
use Rattle.c_tree.specs.declared.statement.Label.{Label}
use Rattle.c_tree.specs.declared.statement.Statement.{Statement, ind-Statement, roll-Statement, map-Statement, fold-roll-Statement}
use Rattle.c_tree.specs.declared.statement.Statement.TheOpen.{Statement-F, Arm-F}
use Rattle.c_tree.specs.declared.statement.Arm.{Arm, roll-Arm, map-Arm, fold-roll-Arm}
use Rattle.c_tree.proofs.Trees.{statement_layer, arm_layer, StatementParts, ArmParts}
use Rattle.c_language.specs.Code.{Tests}
use Rattle.c_language.proofs.Tests.{false_true, by_or}
use Rattle.dep_model.specs.Doings.{Doing, Does, doing_step, doing_arm, doings, body_doings, doing_number}
use Rattle.dep_model.specs.Doings as done
use Rattle.dep_model.specs.SwitchArms.{has_first, with_labels}
use Rattle.dep_model.proofs.DoingForms.{arm_doings}
use Rattle.dep_model.proofs.Membership.{IsIn, in_first, in_second, in_either}
use Rattle.dep_model.specs.declared.skeleton.Pair.{Pair}
use Rattle.dep_model.specs.Pairs.{pair}
use Rattle.control_deps.specs.Walk.{joined, Walk, ArmWalk, all, all_taken, walk_step, arm_step, walk, arm_walk, walks}
use Rattle.control_deps.proofs.CodeLaws.{in_joined}
use Rattle.projection_laws.specs.Nested.{Stands, any_own, any_inside, stands_step, stands_arm, stands, arm_stands}
use Rattle.control_nesting.specs.TakenArms.{ArmTakes, arms_taken, takes_step, takes_arm, takes_all, arm_takes}
use Rattle.c_language.specs.Lists.{all_true}

-- a statement has the number n
abbrev pub IsDone : List Doing → ℕ → Type 0
IsDone ds n = (d : Doing) × IsIn ds d × (doing_number d ≡ n)

done_first : (ds es : List Doing) (n : ℕ) → IsDone ds n → IsDone (ds ++ es) n
done_first ds es n h = (h.0, in_first ds es h.0 h.1, h.2)

done_second : (ds es : List Doing) (n : ℕ) → IsDone es n → IsDone (ds ++ es) n
done_second ds es n h = (h.0, in_second ds es h.0 h.1, h.2)

done_here : (d : Doing) (ds : List Doing) (n : ℕ) → doing_number d ≡ n → IsDone (d ∷ ds) n
done_here d ds n e = (d, inl refl, e)

done_later : (d : Doing) (ds : List Doing) (n : ℕ) → IsDone ds n → IsDone (d ∷ ds) n
done_later d ds n h = (h.0, inr h.1, h.2)

done_cases : (d : Doing) (ds : List Doing) (n : ℕ) → IsDone (d ∷ ds) n → (doing_number d ≡ n) ⊎ IsDone ds n
done_cases d ds n (e, inl same, is) = inl (ap doing_number same ∙ is)
done_cases d ds n (e, inr m, is) = inr (e, m, is)

done_either : (ds es : List Doing) (n : ℕ) → IsDone (ds ++ es) n → IsDone ds n ⊎ IsDone es n
done_either ds es n h = elim (in_either ds es h.0 h.1) [ inl m ↦ inl (h.0, m, h.2) | inr m ↦ inr (h.0, m, h.2) ]

-- `own` has the vertices of each statement
module _ (own : ℕ → List ℕ) (IsReached : ℕ → Type 0) where
  abbrev pub SomeReached : List ℕ → Type 0
  SomeReached ks = (k : ℕ) × IsIn ks k × IsReached k

  abbrev pub AllReached : List ℕ → Type 0
  AllReached ks = (k : ℕ) → IsIn ks k → IsReached k

  -- what a pair leads to is reached where that is from which it leads
  abbrev pub AreReaching : List Pair → Type 0
  AreReaching xs = (x : Pair) → IsIn xs x → IsReached x.from → IsReached x.to

  -- each of the statements has a vertex
  abbrev pub HaveVertices : List Doing → Type 0
  HaveVertices ds = (n : ℕ) → IsDone ds n → (v : ℕ) × IsIn (own n) v

  reaching_first : (xs ys : List Pair) → AreReaching (xs ++ ys) → AreReaching xs
  reaching_first xs ys h x m = h x (in_first xs ys x m)

  reaching_second : (xs ys : List Pair) → AreReaching (xs ++ ys) → AreReaching ys
  reaching_second xs ys h x m = h x (in_second xs ys x m)

  -- a statement's own vertices are reached from one of its controllers
  own_reached : (id : ℕ) (ks : List ℕ) → SomeReached ks → AreReaching (joined ks (own id)) → AllReached (own id)
  own_reached id ks some h v m = h (pair some.0 v) (in_joined ks (own id) (pair some.0 v) (some.1, m)) some.2

  -- one statement, and one in which it may stand
  module _ (outer inner : ℕ) where
    -- what is known of a part: whether its arms are taken, whether the inner one stands in it directly, whether that stands in the
    -- outer one within it, its walk and its statements
    pub record Nests (takes direct inside : Bool) (f : Walk) (ds : List Doing) : Type 0 where
      pub direct_walked : takes ≡ true → direct ≡ true → (ks : List ℕ) (k v : ℕ) → IsIn ks k → IsIn (own inner) v → IsIn (f ks) (pair k v)
      pub inside_walked : takes ≡ true → inside ≡ true → (ks : List ℕ) (u v : ℕ) → IsIn (own outer) u → IsIn (own inner) v → IsIn (f ks) (pair u v)
      pub direct_done : direct ≡ true → IsDone ds inner
      pub inside_done : inside ≡ true → IsDone ds outer × IsDone ds inner
      pub reached : takes ≡ true → (ks : List ℕ) → SomeReached ks → AreReaching (f ks) → HaveVertices ds → (n : ℕ) → IsDone ds n → AllReached (own n)

    none : Nests true false false (λ ks. []) []
    none = record {
      direct_walked = λ t h ks k v m w. false_true h;
      inside_walked = λ t h ks u v m w. false_true h;
      direct_done = λ h. false_true h;
      inside_done = λ h. false_true h;
      reached = λ t ks some h have n d. absurd d.1;
    }

    -- the pair to a statement's own vertex
    own_pair : (id : ℕ) (ks : List ℕ) (k v : ℕ) → (id == inner) ≡ true → IsIn ks k → IsIn (own inner) v → IsIn (joined ks (own id)) (pair k v)
    own_pair id ks k v h m w = in_joined ks (own id) (pair k v) (m, subst (λ n. IsIn (own n) v) (sym (eqb-true id inner h)) w)

    alone : (d : Doing) → Nests true (doing_number d == inner) false (λ ks. joined ks (own (doing_number d))) (d ∷ [])
    alone d = record {
      direct_walked = λ t h ks k v m w. own_pair (doing_number d) ks k v h m w;
      inside_walked = λ t h ks u v m w. false_true h;
      direct_done = λ h. done_here d [] inner (eqb-true (doing_number d) inner h);
      inside_done = λ h. false_true h;
      reached = λ t ks some h have n y. elim (done_cases d [] n y) [
        | inl same ↦ subst (λ m. AllReached (own m)) same (own_reached (doing_number d) ks some h)
        | inr nothing ↦ absurd nothing.1
      ];
    }

    two : (t u a b c e : Bool) (f g : Walk) (ds es : List Doing) → Nests t a c f ds → Nests u b e g es → Nests (t && u) (a || b) (c || e) (λ ks. f ks ++ g ks) (ds ++ es)
    two t u a b c e f g ds es x y = record {
      direct_walked = λ h o ks k v m w. by_or a b o
          (λ p. in_first (f ks) (g ks) (pair k v) (x.direct_walked (and_parts t u h).0 p ks k v m w))
          (λ p. in_second (f ks) (g ks) (pair k v) (y.direct_walked (and_parts t u h).1 p ks k v m w));
      inside_walked = λ h o ks k v m w. by_or c e o
          (λ p. in_first (f ks) (g ks) (pair k v) (x.inside_walked (and_parts t u h).0 p ks k v m w))
          (λ p. in_second (f ks) (g ks) (pair k v) (y.inside_walked (and_parts t u h).1 p ks k v m w));
      direct_done = λ o. by_or a b o (λ p. done_first ds es inner (x.direct_done p)) (λ p. done_second ds es inner (y.direct_done p));
      inside_done = λ o. by_or c e o
          (λ p. let w = x.inside_done p in (done_first ds es outer w.0, done_first ds es inner w.1))
          (λ p. let w = y.inside_done p in (done_second ds es outer w.0, done_second ds es inner w.1));
      reached = λ h ks some l have n z. elim (done_either ds es n z) [
        | inl i ↦ x.reached (and_parts t u h).0 ks some (reaching_first (f ks) (g ks) l) (λ m i. have m (done_first ds es m i)) n i
        | inr i ↦ y.reached (and_parts t u h).1 ks some (reaching_second (f ks) (g ks) l) (λ m i. have m (done_second ds es m i)) n i
      ];
    }

    -- what stands in a statement with a test, where `tests` are the controllers of the test and `bodies` those of the rest
    under : (d : Doing) (tests bodies : List ℕ → List ℕ) → ((ks : List ℕ) (k : ℕ) → IsIn ks k → IsIn (tests ks) k) → ((ks : List ℕ) (k : ℕ) → IsIn (own (doing_number d)) k → IsIn (bodies ks) k)
        → (t a b : Bool) (f : Walk) (ds : List Doing) → Nests t a b f ds
        → Nests t (doing_number d == inner) ((doing_number d == outer && a) || b) (λ ks. joined (tests ks) (own (doing_number d)) ++ f (bodies ks)) (d ∷ ds)
    under d tests bodies all_tests own_bodies t a b f ds x = record {
      direct_walked = λ h o ks k v m w. in_first (first ks) (f (bodies ks)) (pair k v) (own_pair (doing_number d) (tests ks) k v o (all_tests ks k m) w);
      inside_walked = λ h o ks k v m w. in_second (first ks) (f (bodies ks)) (pair k v) (by_or (doing_number d == outer && a) b o
          (λ p. let c = and_parts (doing_number d == outer) a p in
          x.direct_walked h c.1 (bodies ks) k v (own_bodies ks k (subst (λ n. IsIn (own n) k) (sym (eqb-true (doing_number d) outer c.0)) m)) w)
          (λ p. x.inside_walked h p (bodies ks) k v m w));
      direct_done = λ o. done_here d ds inner (eqb-true (doing_number d) inner o);
      inside_done = λ o. by_or (doing_number d == outer && a) b o
          (λ p. let w = and_parts (doing_number d == outer) a p in (done_here d ds outer (eqb-true (doing_number d) outer w.0), done_later d ds inner (x.direct_done w.1)))
          (λ p. let w = x.inside_done p in (done_later d ds outer w.0, done_later d ds inner w.1));
      reached = λ h ks some l have n y.
          let test = test_reached ks some l in
          elim (done_cases d ds n y) [
            | inl same ↦ subst (λ m. AllReached (own m)) same test
            | inr i ↦
                let v = have (doing_number d) (done_here d ds (doing_number d) refl) in
                x.reached h (bodies ks) (v.0, own_bodies ks v.0 v.1, test v.0 v.1) (reaching_second (first ks) (f (bodies ks)) l) (λ m j. have m (done_later d ds m j)) n i
          ];
    }
      where
        first : List ℕ → List Pair
        first ks = joined (tests ks) (own (doing_number d))

        test_reached : (ks : List ℕ) → SomeReached ks → AreReaching (first ks ++ f (bodies ks)) → AllReached (own (doing_number d))
        test_reached ks some l = own_reached (doing_number d) (tests ks) (some.0, all_tests ks some.0 some.1, some.2) (reaching_first (first ks) (f (bodies ks)) l)

    -- a for: what it begins with stands beside it, its step and its body in it
    under_for : (d : Doing) (t u a b c e : Bool) (f g : Walk) (ds es : List Doing) → Nests t a c f ds → Nests u b e g es
        → Nests (t && u) (doing_number d == inner || a) ((doing_number d == outer && b) || (c || e))
        (λ ks. joined (ks ++ own (doing_number d)) (own (doing_number d)) ++ (f ks ++ g (own (doing_number d)))) (d ∷ (ds ++ es))
    under_for d t u a b c e f g ds es x y = record {
      direct_walked = λ h o ks k v m w. by_or (doing_number d == inner) a o
          (λ p. in_first (first ks) (rest ks) (pair k v) (own_pair (doing_number d) (ks ++ itself) k v p (in_first ks itself k m) w))
          (λ p. in_second (first ks) (rest ks) (pair k v) (in_first (f ks) (g itself) (pair k v) (x.direct_walked (and_parts t u h).0 p ks k v m w)));
      inside_walked = λ h o ks k v m w. in_second (first ks) (rest ks) (pair k v) (by_or (doing_number d == outer && b) (c || e) o
          (λ p. let z = and_parts (doing_number d == outer) b p in
          in_second (f ks) (g itself) (pair k v) (y.direct_walked (and_parts t u h).1 z.1 itself k v (subst (λ n. IsIn (own n) k) (sym (eqb-true (doing_number d) outer z.0)) m) w))
          (λ r. by_or c e r
          (λ p. in_first (f ks) (g itself) (pair k v) (x.inside_walked (and_parts t u h).0 p ks k v m w))
          (λ p. in_second (f ks) (g itself) (pair k v) (y.inside_walked (and_parts t u h).1 p itself k v m w))));
      direct_done = λ o. by_or (doing_number d == inner) a o
          (λ p. done_here d (ds ++ es) inner (eqb-true (doing_number d) inner p))
          (λ p. done_later d (ds ++ es) inner (done_first ds es inner (x.direct_done p)));
      inside_done = λ o. by_or (doing_number d == outer && b) (c || e) o
          (λ p. let w = and_parts (doing_number d == outer) b p in (done_here d (ds ++ es) outer (eqb-true (doing_number d) outer w.0), done_later d (ds ++ es) inner (done_second ds es inner (y.direct_done w.1))))
          (λ r. by_or c e r
          (λ p. let w = x.inside_done p in (done_later d (ds ++ es) outer (done_first ds es outer w.0), done_later d (ds ++ es) inner (done_first ds es inner w.1)))
          (λ p. let w = y.inside_done p in (done_later d (ds ++ es) outer (done_second ds es outer w.0), done_later d (ds ++ es) inner (done_second ds es inner w.1))));
      reached = λ h ks some l have n z.
          let test = test_reached ks some l in
          let more = reaching_second (first ks) (rest ks) l in
          elim (done_cases d (ds ++ es) n z) [
            | inl same ↦ subst (λ m. AllReached (own m)) same test
            | inr i ↦ elim (done_either ds es n i) [
              | inl j ↦ x.reached (and_parts t u h).0 ks some (reaching_first (f ks) (g itself) more) (λ m q. have m (done_later d (ds ++ es) m (done_first ds es m q))) n j
              | inr j ↦
                  let v = have (doing_number d) (done_here d (ds ++ es) (doing_number d) refl) in
                  y.reached (and_parts t u h).1 itself (v.0, v.1, test v.0 v.1) (reaching_second (f ks) (g itself) more) (λ m q. have m (done_later d (ds ++ es) m (done_second ds es m q))) n j
            ]
          ];
    }
      where
        itself : List ℕ
        itself = own (doing_number d)

        first : List ℕ → List Pair
        first ks = joined (ks ++ itself) itself

        rest : List ℕ → List Pair
        rest ks = f ks ++ g itself

        test_reached : (ks : List ℕ) → SomeReached ks → AreReaching (first ks ++ rest ks) → AllReached itself
        test_reached ks some l = own_reached (doing_number d) (ks ++ itself) (some.0, in_first ks itself some.0 some.1, some.2) (reaching_first (first ks) (rest ks) l)

    -- an arm that is taken where q holds, and the arms behind it
    taken_two : (q t u a b c e : Bool) (f g : Walk) (ds es : List Doing) → Nests t a c f ds → Nests u b e g es → Nests (q && (t && u)) (a || b) (c || e) (λ ks. (if q then f ks else []) ++ g ks) (ds ++ es)
    taken_two true t u a b c e f g ds es x y = two t u a b c e f g ds es x y
    taken_two false t u a b c e f g ds es x y =
        let w = two t u a b c e f g ds es x y in
        record {
          direct_walked = λ h o ks k v m i. false_true h;
          inside_walked = λ h o ks k v m i. false_true h;
          direct_done = w.direct_done;
          inside_done = w.inside_done;
          reached = λ h ks some l have n i. false_true h;
        }

    -- ---- by layers

    abbrev Of : Statement → Type 0
    Of s = Nests (takes_all s) ((stands s).own inner) ((stands s).inside outer inner) (walk own s) (doings s)

    record OfArm (x : Arm) : Type 0 where
      pub labels : (arm_walk own x).labels ≡ (arm_takes x).labels
      pub nests : Nests (arm_takes x).takes ((arm_stands x).own inner) ((arm_stands x).inside outer inner) (arm_walk own x).walk (arm_doings x)

    abbrev Layer : Type 0
    Layer = StatementParts Of OfArm

    abbrev ArmLayer : Type 0
    ArmLayer = ArmParts Of OfArm

    abbrev shape : Layer → Statement-F Statement Arm
    shape = statement_layer Of OfArm

    abbrev arm_shape : ArmLayer → Arm-F Statement Arm
    arm_shape = arm_layer Of OfArm

    abbrev bodies : List ((x : Statement) × Of x) → List Statement
    bodies = map (λ (x : (y : Statement) × Of y). x.0)

    abbrev bodies_of_arms : List ((x : Arm) × OfArm x) → List Arm
    bodies_of_arms = map (λ (x : (y : Arm) × OfArm y). x.0)

    abbrev AllNest : List Statement → Type 0
    AllNest ss = Nests (all_true (map takes_all ss)) (any_own (map stands ss) inner) (any_inside (map stands ss) outer inner) (all (map (walk own) ss)) (done.joined (map doings ss))

    all_nest : (xs : List ((x : Statement) × Of x)) → AllNest (bodies xs)
    all_nest [] = none
    all_nest (x ∷ xs) = two _ _ _ _ _ _ (walk own x.0) (all (map (walk own) (bodies xs))) (doings x.0) (done.joined (map doings (bodies xs))) x.1 (all_nest xs)

    abbrev ArmsNest : List Label → List Label → List Arm → Type 0
    ArmsNest before seen as_ = Nests (arms_taken before (map arm_takes as_)) (any_own (map arm_stands as_) inner) (any_inside (map arm_stands as_) outer inner) (all_taken seen (map (arm_walk own) as_)) (done.joined (map arm_doings as_))

    -- `seen` are the labels before them in the walk
    arms_nest : (before seen : List Label) → seen ≡ before → (xs : List ((x : Arm) × OfArm x)) → ArmsNest before seen (bodies_of_arms xs)
    arms_nest before seen same [] = none
    arms_nest before seen same (x ∷ xs) =
        subst (λ q. Nests (has_first before ls && ((arm_takes x.0).takes && arms_taken (with_labels before ls) (map arm_takes (bodies_of_arms xs)))) ((arm_stands x.0).own inner || any_own (map arm_stands (bodies_of_arms xs)) inner) ((arm_stands x.0).inside outer inner || any_inside (map arm_stands (bodies_of_arms xs)) outer inner) (λ ks. (if q then w.walk ks else []) ++ all_taken (with_labels seen w.labels) (map (arm_walk own) (bodies_of_arms xs)) ks) (arm_doings x.0 ++ done.joined (map arm_doings (bodies_of_arms xs))))
        (sym (ap (λ b. has_first b w.labels) same ∙ ap (has_first before) x.1.labels))
        (taken_two (has_first before ls) _ _ _ _ _ _ w.walk (all_taken (with_labels seen w.labels) (map (arm_walk own) (bodies_of_arms xs))) (arm_doings x.0) (done.joined (map arm_doings (bodies_of_arms xs))) x.1.nests
        (arms_nest (with_labels before ls) (with_labels seen w.labels) (ap (λ b. with_labels b w.labels) same ∙ ap (with_labels before) x.1.labels) xs))
      where
        ls : List Label
        ls = (arm_takes x.0).labels

        w : ArmWalk
        w = arm_walk own x.0

    abbrev takes_at : Statement-F Statement Arm → Bool
    takes_at y = takes_step (map-Statement Statement Arm Bool ArmTakes takes_all arm_takes y)

    abbrev stands_at : Statement-F Statement Arm → Stands
    stands_at y = stands_step (map-Statement Statement Arm Stands Stands stands arm_stands y)

    abbrev walk_at : Statement-F Statement Arm → Walk
    walk_at y = walk_step own (map-Statement Statement Arm Walk ArmWalk (walk own) (arm_walk own) y)

    abbrev doings_at : Statement-F Statement Arm → List Doing
    doings_at y = doing_step (map-Statement Statement Arm (List Doing) (List Doing) doings arm_doings y)

    abbrev NestsAs : Bool → Stands → Walk → List Doing → Type 0
    NestsAs t w f ds = Nests t (w.own inner) (w.inside outer inner) f ds

    test_under : (id : ℕ) (e : Expr) (tests inners : List ℕ → List ℕ) → ((ks : List ℕ) (k : ℕ) → IsIn ks k → IsIn (tests ks) k) → ((ks : List ℕ) (k : ℕ) → IsIn (own id) k → IsIn (inners ks) k) → (xs : List ((x : Statement) × Of x))
        → Nests (all_true (map takes_all (bodies xs))) (id == inner) ((id == outer && any_own (map stands (bodies xs)) inner) || any_inside (map stands (bodies xs)) outer inner)
        (λ ks. joined (tests ks) (own id) ++ all (map (walk own) (bodies xs)) (inners ks)) (Does id (Tests e) ∷ done.joined (map doings (bodies xs)))
    test_under id e tests inners all_tests own_inners xs = under (Does id (Tests e)) tests inners all_tests own_inners _ _ _ (all (map (walk own) (bodies xs))) (done.joined (map doings (bodies xs))) (all_nest xs)

    for_nests : (id : ℕ) (e : Expr) (t a c : Bool) (f : Walk) (ds : List Doing) (u b k : Bool) (g : Walk) (es : List Doing) (xs : List ((x : Statement) × Of x)) → Nests t a c f ds → Nests u b k g es
        → Nests (t && (u && all_true (map takes_all (bodies xs)))) (id == inner || a) ((id == outer && (b || any_own (map stands (bodies xs)) inner)) || (c || (k || any_inside (map stands (bodies xs)) outer inner)))
        (λ ks. joined (ks ++ own id) (own id) ++ (f ks ++ (g (own id) ++ all (map (walk own) (bodies xs)) (own id)))) (Does id (Tests e) ∷ (ds ++ (es ++ done.joined (map doings (bodies xs)))))
    for_nests id e t a c f ds u b k g es xs x y =
        under_for (Does id (Tests e)) t _ a _ c _ f (λ ks. g ks ++ all (map (walk own) (bodies xs)) ks) ds (es ++ done.joined (map doings (bodies xs))) x
        (two u _ b _ k _ g (all (map (walk own) (bodies xs))) es (done.joined (map doings (bodies xs))) y (all_nest xs))

    layer_nests : (y : Layer) → NestsAs (takes_at (shape y)) (stands_at (shape y)) (walk_at (shape y)) (doings_at (shape y))
    layer_nests (Statement-F.Declare None l x i) = none
    layer_nests (Statement-F.Declare (Some id) l x i) = alone _
    layer_nests (Statement-F.Assign id l a op b) = alone _
    layer_nests (Statement-F.Bump id l a up before) = alone _
    layer_nests (Statement-F.Invoke id l to f args) = alone _
    layer_nests (Statement-F.Fetch id l to) = alone _
    layer_nests (Statement-F.Write id l e) = alone _
    layer_nests (Statement-F.Print id l format args) = alone _
    layer_nests (Statement-F.Heap id l to cast n) = alone _
    layer_nests (Statement-F.Release id l e) = alone _
    layer_nests (Statement-F.Return id l e) = alone _
    layer_nests (Statement-F.If id l e a b) =
        under (Does id (Tests e)) (λ ks. ks) (λ ks. own id) (λ ks k m. m) (λ ks k m. m) _ _ _
        (λ ks. all (map (walk own) (bodies a)) ks ++ all (map (walk own) (bodies b)) ks) (done.joined (map doings (bodies a)) ++ done.joined (map doings (bodies b)))
        (two _ _ _ _ _ _ (all (map (walk own) (bodies a))) (all (map (walk own) (bodies b))) (done.joined (map doings (bodies a))) (done.joined (map doings (bodies b))) (all_nest a) (all_nest b))
    layer_nests (Statement-F.While id l e b) = test_under id e (λ ks. ks ++ own id) (λ ks. own id) (λ ks k m. in_first ks (own id) k m) (λ ks k m. m) b
    layer_nests (Statement-F.Do id l e b) = test_under id e (λ ks. ks ++ own id) (λ ks. ks ++ own id) (λ ks k m. in_first ks (own id) k m) (λ ks k m. in_second ks (own id) k m) b
    layer_nests (Statement-F.For id l None e None b) = for_nests id e true false false (λ ks. []) [] true false false (λ ks. []) [] b none none
    layer_nests (Statement-F.For id l None e (Some k) b) = for_nests id e true false false (λ ks. []) [] _ _ _ (walk own k.0) (doings k.0) b none k.1
    layer_nests (Statement-F.For id l (Some i) e None b) = for_nests id e _ _ _ (walk own i.0) (doings i.0) true false false (λ ks. []) [] b i.1 none
    layer_nests (Statement-F.For id l (Some i) e (Some k) b) = for_nests id e _ _ _ (walk own i.0) (doings i.0) _ _ _ (walk own k.0) (doings k.0) b i.1 k.1
    layer_nests (Statement-F.Switch id l e arms) =
        under (Does id (Tests e)) (λ ks. ks) (λ ks. own id) (λ ks k m. m) (λ ks k m. m) _ _ _
        (all_taken [] (map (arm_walk own) (bodies_of_arms arms))) (done.joined (map arm_doings (bodies_of_arms arms))) (arms_nest [] [] refl arms)
    layer_nests (Statement-F.Block l b) = all_nest b

    rolled : (y : Statement-F Statement Arm) → NestsAs (takes_at y) (stands_at y) (walk_at y) (doings_at y) → Of (roll-Statement y)
    rolled y h =
        subst (λ t. NestsAs t (stands (roll-Statement y)) (walk own (roll-Statement y)) (doings (roll-Statement y))) (sym (fold-roll-Statement Bool ArmTakes takes_step takes_arm y))
        (subst (λ w. NestsAs (takes_at y) w (walk own (roll-Statement y)) (doings (roll-Statement y))) (sym (fold-roll-Statement Stands Stands stands_step stands_arm y))
        (subst (λ f. NestsAs (takes_at y) (stands_at y) f (doings (roll-Statement y))) (sym (fold-roll-Statement Walk ArmWalk (walk_step own) (arm_step own) y))
        (subst (NestsAs (takes_at y) (stands_at y) (walk_at y)) (sym (fold-roll-Statement (List Doing) (List Doing) doing_step doing_arm y)) h)))

    abbrev takes_arm_at : Arm-F Statement Arm → ArmTakes
    takes_arm_at y = takes_arm (map-Arm Statement Arm Bool ArmTakes takes_all arm_takes y)

    abbrev walk_arm_at : Arm-F Statement Arm → ArmWalk
    walk_arm_at y = arm_step own (map-Arm Statement Arm Walk ArmWalk (walk own) (arm_walk own) y)

    rolled_arm : (y : Arm-F Statement Arm) → AllNest y.body → OfArm (roll-Arm y)
    rolled_arm y h = record {
      labels = ap (λ (w : ArmWalk). w.labels) walked ∙ sym (ap (λ (t : ArmTakes). t.labels) taken);
      nests =
          subst (λ (t : ArmTakes). NestsAs t.takes (arm_stands (roll-Arm y)) (arm_walk own (roll-Arm y)).walk (arm_doings (roll-Arm y))) (sym taken)
          (subst (λ w. NestsAs (takes_arm_at y).takes w (arm_walk own (roll-Arm y)).walk (arm_doings (roll-Arm y))) (sym (fold-roll-Arm Stands Stands stands_step stands_arm y))
          (subst (λ (f : ArmWalk). Nests (takes_arm_at y).takes (any_own (map stands y.body) inner) (any_inside (map stands y.body) outer inner) f.walk (arm_doings (roll-Arm y))) (sym walked)
          (subst (Nests (takes_arm_at y).takes (any_own (map stands y.body) inner) (any_inside (map stands y.body) outer inner) (walk_arm_at y).walk) (sym (fold-roll-Arm (List Doing) (List Doing) doing_step doing_arm y)) h)));
    }
      where
        taken : arm_takes (roll-Arm y) ≡ takes_arm_at y
        taken = fold-roll-Arm Bool ArmTakes takes_step takes_arm y

        walked : arm_walk own (roll-Arm y) ≡ walk_arm_at y
        walked = fold-roll-Arm Walk ArmWalk (walk_step own) (arm_step own) y

    statement_nests : (s : Statement) → Of s
    statement_nests =
        ind-Statement Of OfArm (λ x y is. subst (λ z. Of (roll-Statement z)) is (rolled (shape y) (layer_nests y))) (λ x y is. subst (λ z. OfArm (roll-Arm z)) is (rolled_arm (arm_shape y) (all_nest y.body)))

    pub body_nests : (ss : List Statement) → Nests (list_all takes_all ss) (any_own (map stands ss) inner) (any_inside (map stands ss) outer inner) (walks own ss) (body_doings ss)
    body_nests [] = none
    body_nests (s ∷ ss) = two _ _ _ _ _ _ (walk own s) (walks own ss) (doings s) (body_doings ss) (statement_nests s) (body_nests ss)
