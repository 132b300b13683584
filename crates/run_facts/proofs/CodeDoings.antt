-- Each act and call of the code of some statements is among their doings, and each variable that begins there is one that begins in them:
-- in each list of a test's values, and in both copies of a do's body.
use Rattle.std.proofs.Common.{◌≡◌, ℕ, ℤ, List, [], ◌∷◌, ◌++◌, map, Bool, true, false, Some, None, sym, subst}
use Rattle.std.specs.Prelude.{if◌then◌else◌}
use Rattle.c_tree.specs.declared.statement.Statement.{Statement, ind-Statement, roll-Statement, map-Statement, fold-roll-Statement}
use Rattle.c_tree.specs.declared.statement.Statement.TheOpen.{Statement-F, Arm-F}
use Rattle.c_tree.specs.declared.statement.Arm.{Arm, roll-Arm, map-Arm, fold-roll-Arm}
use Rattle.c_tree.specs.declared.statement.Target.{Target}
use Rattle.c_tree.specs.declared.statement.Target.TheVariants as target
use Rattle.c_language.specs.Code.{Tests, Code, End, Opens, Plain, Fork, Loop, Leaves, Call, ◌⨟◌, is_true, either, leave, StatementPart, declared_in, in_turn, block, ArmPart, has_case, has_default, default_arm, case_arm, given_to, part_step, arm_step, part, code}
use Rattle.c_language.proofs.CodeLemmas.{arm_part}
use Rattle.c_meaning.specs.Acts.{Made, picked}
use Rattle.dep_model.specs.Doings.{Doing, Does, Calls, joined, doing_step, doing_arm, doings, body_doings}
use Rattle.dep_model.proofs.DoingForms.{arm_doings}
use Rattle.run_facts.specs.NextSteps as next
use Rattle.run_facts.specs.NextSteps.{Next, next_of}
use Rattle.typed_programs.specs.Needs.{Need, Picks, Starts, joined as all_needs, target_needs, needs_step, needs_arm, needs, body_needs}
use Rattle.typed_programs.proofs.NeedForms.{arm_needs}

module _ (P : Doing → Type 0) where
  -- P holds of each of them
  abbrev pub Did : List Doing → Type 0
  Did [] = Unit {0}
  Did (d ∷ ds) = P d × Did ds

  did_both : (ds es : List Doing) → Did (ds ++ es) → Did ds × Did es
  did_both [] es h = (tt, h)
  did_both (d ∷ ds) es h = let w = did_both ds es h.1 in ((h.0, w.0), w.1)

module _ (Q : ℕ → Type 0) where
  -- Q holds of each variable that begins
  abbrev pub Meets : Need → Type 0
  Meets (Picks e) = Unit {0}
  Meets (Starts x) = Q x

  abbrev pub AreMet : List Need → Type 0
  AreMet [] = Unit {0}
  AreMet (n ∷ ns) = Meets n × AreMet ns

  met_both : (ms ns : List Need) → AreMet (ms ++ ns) → AreMet ms × AreMet ns
  met_both [] ns h = (tt, h)
  met_both (m ∷ ms) ns h = let w = met_both ms ns h.1 in ((h.0, w.0), w.1)

module _ (P : Doing → Type 0) (Q : ℕ → Type 0) where
  -- P holds of each act and call of a list, and Q of each variable that begins in it
  abbrev pub Every : Code → Type 0
  Every End = Unit {0}
  Every (Opens x r) = Q x × Every r
  Every (Plain i a r) = P (Does i a) × Every r
  Every (Fork i e c r) = P (Does i (Tests e)) × (((x : ℤ) → Every (c x)) × Every r)
  Every (Loop i e b r) = P (Does i (Tests e)) × (Every b × Every r)
  Every (Leaves xs r) = Every r
  Every (Call i to f args r) = P (Calls i to f args) × Every r

  -- ---- lists

  pub every_seq : (a b : Code) → Every a → Every b → Every (a ⨟ b)
  every_seq End b h k = k
  every_seq (Opens x r) b h k = (h.0, every_seq r b h.1 k)
  every_seq (Plain i a r) b h k = (h.0, every_seq r b h.1 k)
  every_seq (Fork i e c r) b h k = (h.0, (h.1.0, every_seq r b h.1.1 k))
  every_seq (Loop i e c r) b h k = (h.0, (h.1.0, every_seq r b h.1.1 k))
  every_seq (Leaves xs r) b h k = every_seq r b h k
  every_seq (Call i to f args r) b h k = (h.0, every_seq r b h.1 k)

  every_leave : (xs : List ℕ) (r : Code) → Every r → Every (leave xs r)
  every_leave [] r h = h
  every_leave (x ∷ xs) r h = h

  every_either : (t : Bool) (a b : Code) → Every a → Every b → Every (either t a b)
  every_either true a b h k = h
  every_either false a b h k = k

  every_if : (t : Bool) (a b : Code) → Every a → Every b → Every (if t then a else b)
  every_if true a b h k = h
  every_if false a b h k = k

  -- P holds of what comes next, and of what is left after it
  abbrev pub EveryNext : Next → Type 0
  EveryNext next.Ends = Unit {0}
  EveryNext (next.Passes change r) = Every r
  EveryNext (next.Does i a go) = P (Does i a) × ((v : Made) → Every (go v))
  EveryNext (next.Calls i to g args r) = P (Calls i to g args) × Every r

  every_of : (c : Code) → Every c → EveryNext (next_of c)
  every_of End h = tt
  every_of (Opens x r) h = h.1
  every_of (Plain i a r) h = (h.0, λ v. h.1)
  every_of (Fork i e c r) h = (h.0, λ v. every_seq (c (picked v)) r (h.1.0 (picked v)) h.1.1)
  every_of (Loop i e b r) h = (h.0, λ v. every_either (is_true (picked v)) (b ⨟ Loop i e b r) r (every_seq b (Loop i e b r) h.1.0 h) h.1.1)
  every_of (Leaves xs r) h = h
  every_of (Call i to f args r) h = h

  pub every_next : (c : Code) (k : Next) → next_of c ≡ k → Every c → EveryNext k
  every_next c k e h = subst EveryNext e (every_of c h)

  -- ---- statements

  -- a part has these steps before what comes after it
  abbrev IsBefore : StatementPart → Type 0
  IsBefore q = (r : Code) → Every r → Every (q.before r)

  abbrev Of : Statement → Type 0
  Of s = Did P (doings s) → AreMet Q (needs s) → IsBefore (part s)

  abbrev OfArm : Arm → Type 0
  OfArm a = Did P (arm_doings a) → AreMet Q (arm_needs a) → Every (arm_part a).does

  abbrev Known : Type 0
  Known = (s : Statement) × Of s

  abbrev KnownArm : Type 0
  KnownArm = (a : Arm) × OfArm a

  abbrev layer : Statement-F Known KnownArm → Statement-F Statement Arm
  layer = map-Statement Known KnownArm Statement Arm (λ x. x.0) (λ a. a.0)

  abbrev arm_layer : Arm-F Known KnownArm → Arm-F Statement Arm
  arm_layer = map-Arm Known KnownArm Statement Arm (λ x. x.0) (λ a. a.0)

  abbrev fsts : List Known → List Statement
  fsts = map (λ (x : Known). x.0)

  abbrev arms : List KnownArm → List Arm
  arms = map (λ (a : KnownArm). a.0)

  abbrev doings_in : List Known → List Doing
  doings_in b = joined (map doings (fsts b))

  abbrev needs_in : List Known → List Need
  needs_in b = all_needs (map needs (fsts b))

  turns : (b : List Known) (r : Code) → Did P (doings_in b) → AreMet Q (needs_in b) → Every r → Every (in_turn (map part (fsts b)) r)
  turns [] r h n k = k
  turns (x ∷ b) r h n k =
      let w = did_both P (doings x.0) (doings_in b) h in
      let m = met_both Q (needs x.0) (needs_in b) n in
      x.1 w.0 m.0 (in_turn (map part (fsts b)) r) (turns b r w.1 m.1 k)

  every_block : (b : List Known) → Did P (doings_in b) → AreMet Q (needs_in b) → Every (block (map part (fsts b)))
  every_block b h n = turns b (leave (declared_in (map part (fsts b))) End) h n (every_leave (declared_in (map part (fsts b))) End tt)

  abbrev arms_doings_in : List KnownArm → List Doing
  arms_doings_in as_ = joined (map arm_doings (arms as_))

  abbrev arms_needs_in : List KnownArm → List Need
  arms_needs_in as_ = all_needs (map arm_needs (arms as_))

  every_default : (as_ : List KnownArm) → Did P (arms_doings_in as_) → AreMet Q (arms_needs_in as_) → Every (default_arm (map arm_part (arms as_)))
  every_default [] h n = tt
  every_default (a ∷ as_) h n =
      let w = did_both P (arm_doings a.0) (arms_doings_in as_) h in
      let m = met_both Q (arm_needs a.0) (arms_needs_in as_) n in
      every_if (has_default (arm_part a.0).labels) (arm_part a.0).does (default_arm (map arm_part (arms as_))) (a.1 w.0 m.0) (every_default as_ w.1 m.1)

  every_case : (as_ : List KnownArm) (v : ℤ) (other : Code) → Did P (arms_doings_in as_) → AreMet Q (arms_needs_in as_) → Every other → Every (case_arm (map arm_part (arms as_)) v other)
  every_case [] v other h n k = k
  every_case (a ∷ as_) v other h n k =
      let w = did_both P (arm_doings a.0) (arms_doings_in as_) h in
      let m = met_both Q (arm_needs a.0) (arms_needs_in as_) n in
      every_if (has_case v (arm_part a.0).labels) (arm_part a.0).does (case_arm (map arm_part (arms as_)) v other) (a.1 w.0 m.0) (every_case as_ v other w.1 m.1 k)

  every_given : (to : Target) (before : Code → Code) → AreMet Q (target_needs to) → ((r : Code) → Every r → Every (before r)) → IsBefore (given_to to before)
  every_given target.None before n h r k = h r k
  every_given (target.Place e) before n h r k = h r k
  every_given (target.Declared x) before n h r k = (n.0, h r k)

  abbrev layer_doings : Statement-F Statement Arm → List Doing
  layer_doings y = doing_step (map-Statement Statement Arm (List Doing) (List Doing) doings arm_doings y)

  abbrev layer_needs : Statement-F Statement Arm → List Need
  layer_needs y = needs_step (map-Statement Statement Arm (List Need) (List Need) needs arm_needs y)

  abbrev layer_part : Statement-F Statement Arm → StatementPart
  layer_part y = part_step (map-Statement Statement Arm StatementPart ArmPart part arm_part y)

  of_layer : (y : Statement-F Known KnownArm) → Did P (layer_doings (layer y)) → AreMet Q (layer_needs (layer y)) → IsBefore (layer_part (layer y))
  of_layer (Statement-F.Declare None l x i) h n r k = (n.0, k)
  of_layer (Statement-F.Declare (Some id) l x i) h n r k = (n.0, (h.0, k))
  of_layer (Statement-F.Assign id l left op right) h n r k = (h.0, k)
  of_layer (Statement-F.Bump id l a up before) h n r k = (h.0, k)
  of_layer (Statement-F.Invoke id l to f args) h n r k = every_given to (Call id to f args) n (λ q z. (h.0, z)) r k
  of_layer (Statement-F.Fetch id l to) h n r k = every_given to (Plain id _) n (λ q z. (h.0, z)) r k
  of_layer (Statement-F.Write id l e) h n r k = (h.0, k)
  of_layer (Statement-F.Print id l format args) h n r k = (h.0, k)
  of_layer (Statement-F.Heap id l to cast c) h n r k = every_given to (Plain id _) n (λ q z. (h.0, z)) r k
  of_layer (Statement-F.Release id l e) h n r k = (h.0, k)
  of_layer (Statement-F.If id l e a b) h n r k =
      let w = did_both P (doings_in a) (doings_in b) h.1 in
      let m = met_both Q (needs_in a) (needs_in b) n in
      (h.0, (λ v. every_either (is_true v) (block (map part (fsts a))) (block (map part (fsts b))) (every_block a w.0 m.0) (every_block b w.1 m.1), k))
  of_layer (Statement-F.While id l e b) h n r k = (h.0, (every_block b h.1 n, k))
  of_layer (Statement-F.Do id l e b) h n r k =
      every_seq (block (map part (fsts b))) (Loop id e (block (map part (fsts b))) r) (every_block b h.1 n) (h.0, (every_block b h.1 n, k))
  of_layer (Statement-F.For id l None e None b) h n r k =
      (h.0, (every_seq (block (map part (fsts b))) End (every_block b h.1 n) tt, k))
  of_layer (Statement-F.For id l None e (Some s) b) h n r k =
      let w = did_both P (doings s.0) (doings_in b) h.1 in
      let m = met_both Q (needs s.0) (needs_in b) n in
      (h.0, (every_seq (block (map part (fsts b))) ((part s.0).before End) (every_block b w.1 m.1) (s.1 w.0 m.0 End tt), k))
  of_layer (Statement-F.For id l (Some i) e None b) h n r k =
      let u = did_both P (doings i.0) (doings_in b) h.1 in
      let m = met_both Q (needs i.0) (needs_in b) n in
      every_seq ((part i.0).before End) (Loop id e (block (map part (fsts b)) ⨟ End) (leave (declared_in (part i.0 ∷ [])) r)) (i.1 u.0 m.0 End tt) (h.0, (every_seq (block (map part (fsts b))) End (every_block b u.1 m.1) tt, every_leave (declared_in (part i.0 ∷ [])) r k))
  of_layer (Statement-F.For id l (Some i) e (Some s) b) h n r k =
      let u = did_both P (doings i.0) (doings s.0 ++ doings_in b) h.1 in
      let w = did_both P (doings s.0) (doings_in b) u.1 in
      let m = met_both Q (needs i.0) (needs s.0 ++ needs_in b) n in
      let o = met_both Q (needs s.0) (needs_in b) m.1 in
      every_seq ((part i.0).before End) (Loop id e (block (map part (fsts b)) ⨟ (part s.0).before End) (leave (declared_in (part i.0 ∷ [])) r)) (i.1 u.0 m.0 End tt) (h.0, (every_seq (block (map part (fsts b))) ((part s.0).before End) (every_block b w.1 o.1) (s.1 w.0 o.0 End tt), every_leave (declared_in (part i.0 ∷ [])) r k))
  of_layer (Statement-F.Switch id l e as_) h n r k =
      (h.0, (λ v. every_case as_ v (default_arm (map arm_part (arms as_))) h.1 n.1 (every_default as_ h.1 n.1), k))
  of_layer (Statement-F.Block l b) h n r k = every_seq (block (map part (fsts b))) r (every_block b h n) k
  of_layer (Statement-F.Return id l e) h n r k = (h.0, k)

  of_arm_layer : (y : Arm-F Known KnownArm) → Did P (doing_arm (map-Arm Statement Arm (List Doing) (List Doing) doings arm_doings (arm_layer y))) → AreMet Q (needs_arm (map-Arm Statement Arm (List Need) (List Need) needs arm_needs (arm_layer y)))
      → Every (arm_step (map-Arm Statement Arm StatementPart ArmPart part arm_part (arm_layer y))).does
  of_arm_layer y h n = every_block y.body h n

  rolled : (y : Statement-F Statement Arm) → (Did P (layer_doings y) → AreMet Q (layer_needs y) → IsBefore (layer_part y)) → Of (roll-Statement y)
  rolled y h done met =
      subst IsBefore (sym (fold-roll-Statement StatementPart ArmPart part_step arm_step y))
      (h (subst (Did P) (fold-roll-Statement (List Doing) (List Doing) doing_step doing_arm y) done) (subst (AreMet Q) (fold-roll-Statement (List Need) (List Need) needs_step needs_arm y) met))

  rolled_arm : (y : Arm-F Statement Arm) → (Did P (doing_arm (map-Arm Statement Arm (List Doing) (List Doing) doings arm_doings y)) → AreMet Q (needs_arm (map-Arm Statement Arm (List Need) (List Need) needs arm_needs y)) → Every (arm_step (map-Arm Statement Arm StatementPart ArmPart part arm_part y)).does) → OfArm (roll-Arm y)
  rolled_arm y h done met =
      subst (λ (a : ArmPart). Every a.does) (sym (fold-roll-Arm StatementPart ArmPart part_step arm_step y))
      (h (subst (Did P) (fold-roll-Arm (List Doing) (List Doing) doing_step doing_arm y) done) (subst (AreMet Q) (fold-roll-Arm (List Need) (List Need) needs_step needs_arm y) met))

  pub every_part : (s : Statement) → Of s
  every_part =
      ind-Statement Of OfArm (λ x y is. subst (λ z. Of (roll-Statement z)) is (rolled (layer y) (of_layer y))) (λ x y is. subst (λ z. OfArm (roll-Arm z)) is (rolled_arm (arm_layer y) (of_arm_layer y)))

  -- what holds of each doing of a body holds of each act and call of its code, and of the variables that begin there likewise
  pub every_code : (b : List Statement) → Did P (body_doings b) → AreMet Q (body_needs b) → Every (code b)
  every_code [] h n = tt
  every_code (x ∷ b) h n =
      let w = did_both P (doings x) (body_doings b) h in
      let m = met_both Q (needs x) (body_needs b) n in
      every_part x w.0 m.0 (code b) (every_code b w.1 m.1)

-- ---- acts and calls alone

abbrev pub Anything : ℕ → Type 0
Anything x = Unit {0}

all_met : (ns : List Need) → AreMet Anything ns
all_met [] = tt
all_met (Picks e ∷ ns) = (tt, all_met ns)
all_met (Starts x ∷ ns) = (tt, all_met ns)

module _ (P : Doing → Type 0) where
  abbrev pub Each : Code → Type 0
  Each = Every P Anything

  pub each_next : (c : Code) (k : Next) → next_of c ≡ k → Each c → EveryNext P Anything k
  each_next = every_next P Anything

  pub each_code : (b : List Statement) → Did P (body_doings b) → Each (code b)
  each_code b h = every_code P Anything b h (all_met (body_needs b))
