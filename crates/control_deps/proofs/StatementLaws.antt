-- The walk finds exactly the pairs of the code that a statement is.
use Rattle.std.proofs.Common.{◌≡◌, ℕ, zero, suc, pos, List, [], ◌∷◌, ◌++◌, ◌⊎◌, inl, inr, Bool, true, false, Option, Some, None, map, refl, sym, subst}
use Rattle.std.specs.Prelude.{if◌then◌else◌}
use Rattle.std.specs.List.{AllZip}
use Rattle.c_tree.specs.declared.expr.Expr.{Expr}
use Rattle.c_tree.specs.declared.statement.Label.{Label}
use Rattle.c_tree.specs.declared.statement.Target.{Target}
use Rattle.c_tree.specs.declared.statement.Target.TheVariants as target
use Rattle.c_tree.specs.declared.statement.Statement.{Statement, ind-Statement, roll-Statement, map-Statement, fold-roll-Statement}
use Rattle.c_tree.specs.declared.statement.Statement.TheOpen.{Statement-F, Arm-F}
use Rattle.c_tree.specs.declared.statement.Arm.{Arm, roll-Arm, map-Arm, fold-roll-Arm}
use Rattle.c_language.specs.Code.{Act, Code, End, Plain, Fork, Loop, Call, ◌⨟◌, is_true, either, leave, StatementPart, doing, declared_in, in_turn, list_of, block, ArmPart, taken_arm, optional, given_to, part_step, arm_step, part, code}
use Rattle.c_language.proofs.CodeLemmas.{arm_part}
use Rattle.dep_model.specs.declared.skeleton.Pair.{Pair}
use Rattle.dep_model.specs.SwitchArms.{has_first, with_labels}
use Rattle.dep_model.proofs.Parts.{BothOrNone}
use Rattle.dep_model.proofs.SwitchLaws.{HoldsOfTaken, taken_at, value_taken}
use Rattle.control_deps.specs.Walk.{Walk, ArmWalk, joined, all, if_some, all_taken, walk_step, walk, arm_walk, walks}
use Rattle.control_deps.specs.Walk as w
use Rattle.dep_model.proofs.Membership.{IsIn, in_first, in_second, in_either, if_in, in_if}
use Rattle.control_deps.proofs.CodeLaws.{Joins, in_joined, of_joined, Under, under_first, under_second, under_seq, under_more, under_either}

module _ (own : ℕ → List ℕ) where
  U : Code → List ℕ → Pair → Type 0
  U = Under own

  -- a statement as code and as a walk
  pub record Agrees (p : StatementPart) (f : Walk) : Type 0 where
    pub into : (r : Code) (ks : List ℕ) (x : Pair) → IsIn (f ks) x → Under own (p.before r) ks x
    pub rest : (r : Code) (ks : List ℕ) (x : Pair) → Under own r ks x → Under own (p.before r) ks x
    pub from : (r : Code) (ks : List ℕ) (x : Pair) → Under own (p.before r) ks x → IsIn (f ks) x ⊎ Under own r ks x

  -- an arm of a switch
  pub record ArmAgrees (a : ArmPart) (f : ArmWalk) : Type 0 where
    pub labels : a.labels ≡ f.labels
    pub into : (ks : List ℕ) (x : Pair) → IsIn (f.walk ks) x → Under own a.does ks x
    pub from : (ks : List ℕ) (x : Pair) → Under own a.does ks x → IsIn (f.walk ks) x

  -- ---- simple statements

  plain : (id : ℕ) (a : Act) → Agrees (doing (Plain id a)) (λ ks. joined ks (own id))
  plain id a = record {
    into = λ r ks x h. inl (of_joined ks (own id) x h);
    rest = λ r ks x h. inr h;
    from = λ r ks x h. elim h [ inl j ↦ inl (in_joined ks (own id) x j) | inr u ↦ inr u ];
  }

  calls : (id : ℕ) (to : Target) (g : ℕ) (args : List Expr) → Agrees (doing (Call id to g args)) (λ ks. joined ks (own id))
  calls id to g args = record {
    into = λ r ks x h. inl (of_joined ks (own id) x h);
    rest = λ r ks x h. inr h;
    from = λ r ks x h. elim h [ inl j ↦ inl (in_joined ks (own id) x j) | inr u ↦ inr u ];
  }

  given : (to : Target) (before : Code → Code) (f : Walk) → Agrees (doing before) f → Agrees (given_to to before) f
  given target.None before f h = h
  given (target.Place e) before f h = h
  given (target.Declared v) before f h = record { into = h.into; rest = h.rest; from = h.from }

  -- ---- lists

  turn_into : (ps : List StatementPart) (fs : List Walk) → AllZip Agrees ps fs → (r : Code) (ks : List ℕ) (x : Pair) → IsIn (all fs ks) x → Under own (in_turn ps r) ks x
  turn_into [] [] e r ks x h = absurd h
  turn_into [] (f ∷ fs) e r ks x h = absurd e
  turn_into (p ∷ ps) [] e r ks x h = absurd e
  turn_into (p ∷ ps) (f ∷ fs) e r ks x h = elim (in_either (f ks) (all fs ks) x h) [
    | inl t ↦ e.0.into (in_turn ps r) ks x t
    | inr t ↦ e.0.rest (in_turn ps r) ks x (turn_into ps fs e.1 r ks x t)
  ]

  turn_rest : (ps : List StatementPart) (fs : List Walk) → AllZip Agrees ps fs → (r : Code) (ks : List ℕ) (x : Pair) → Under own r ks x → Under own (in_turn ps r) ks x
  turn_rest [] [] e r ks x h = h
  turn_rest [] (f ∷ fs) e r ks x h = absurd e
  turn_rest (p ∷ ps) [] e r ks x h = absurd e
  turn_rest (p ∷ ps) (f ∷ fs) e r ks x h = e.0.rest (in_turn ps r) ks x (turn_rest ps fs e.1 r ks x h)

  turn_from : (ps : List StatementPart) (fs : List Walk) → AllZip Agrees ps fs → (r : Code) (ks : List ℕ) (x : Pair) → Under own (in_turn ps r) ks x → IsIn (all fs ks) x ⊎ Under own r ks x
  turn_from [] [] e r ks x h = inr h
  turn_from [] (f ∷ fs) e r ks x h = absurd e
  turn_from (p ∷ ps) [] e r ks x h = absurd e
  turn_from (p ∷ ps) (f ∷ fs) e r ks x h = elim (e.0.from (in_turn ps r) ks x h) [
    | inl t ↦ inl (in_first (f ks) (all fs ks) x t)
    | inr t ↦ elim (turn_from ps fs e.1 r ks x t) [ inl u ↦ inl (in_second (f ks) (all fs ks) x u) | inr u ↦ inr u ]
  ]

  leave_rest : (vs : List ℕ) (r : Code) (ks : List ℕ) (x : Pair) → Under own r ks x → Under own (leave vs r) ks x
  leave_rest [] r ks x h = h
  leave_rest (v ∷ vs) r ks x h = h

  leave_from : (vs : List ℕ) (r : Code) (ks : List ℕ) (x : Pair) → Under own (leave vs r) ks x → Under own r ks x
  leave_from [] r ks x h = h
  leave_from (v ∷ vs) r ks x h = h

  block_into : (ps : List StatementPart) (fs : List Walk) → AllZip Agrees ps fs → (ks : List ℕ) (x : Pair) → IsIn (all fs ks) x → Under own (block ps) ks x
  block_into ps fs e ks x h = turn_into ps fs e (leave (declared_in ps) End) ks x h

  block_from : (ps : List StatementPart) (fs : List Walk) → AllZip Agrees ps fs → (ks : List ℕ) (x : Pair) → Under own (block ps) ks x → IsIn (all fs ks) x
  block_from ps fs e ks x h = elim (turn_from ps fs e (leave (declared_in ps) End) ks x h) [
    | inl t ↦ t
    | inr t ↦ absurd (leave_from (declared_in ps) End ks x t)
  ]

  -- ---- a part that may be missing

  part_into : (p : Option StatementPart) (f : Option Walk) → BothOrNone Agrees p f → (ks : List ℕ) (x : Pair) → IsIn (if_some f ks) x → Under own (list_of (optional p)) ks x
  part_into None None e ks x h = absurd h
  part_into None (Some f) e ks x h = absurd e
  part_into (Some p) None e ks x h = absurd e
  part_into (Some p) (Some f) e ks x h = e.into End ks x h

  part_from : (p : Option StatementPart) (f : Option Walk) → BothOrNone Agrees p f → (ks : List ℕ) (x : Pair) → Under own (list_of (optional p)) ks x → IsIn (if_some f ks) x
  part_from None None e ks x h = absurd h
  part_from None (Some f) e ks x h = absurd e
  part_from (Some p) None e ks x h = absurd e
  part_from (Some p) (Some f) e ks x h = elim (e.from End ks x h) [ inl t ↦ t | inr t ↦ absurd t ]

  -- ---- an if

  from_either : (b : Bool) (c d : Code) (ks : List ℕ) (x : Pair) → Under own (either b c d) ks x → Under own c ks x ⊎ Under own d ks x
  from_either true c d ks x h = inl h
  from_either false c d ks x h = inr h

  if_agrees : (id : ℕ) (e : Expr) (ps qs : List StatementPart) (fs gs : List Walk) → AllZip Agrees ps fs → AllZip Agrees qs gs → Agrees (doing (Fork id e (λ v. either (is_true v) (block ps) (block qs)))) (λ ks. joined ks (own id) ++ (all fs (own id) ++ all gs (own id)))
  if_agrees id e ps qs fs gs p q = record {
    into = λ r ks x h. elim (in_either (joined ks (own id)) (all fs (own id) ++ all gs (own id)) x h) [
      | inl t ↦ inl (of_joined ks (own id) x t)
      | inr t ↦ elim (in_either (all fs (own id)) (all gs (own id)) x t) [
        | inl u ↦ inr (inl (pos (suc zero), block_into ps fs p (own id) x u))
        | inr u ↦ inr (inl (pos zero, block_into qs gs q (own id) x u))
      ]
    ];
    rest = λ r ks x h. inr (inr h);
    from = λ r ks x h. elim h [
      | inl j ↦ inl (in_first (joined ks (own id)) (all fs (own id) ++ all gs (own id)) x (in_joined ks (own id) x j))
      | inr (inl t) ↦ inl (in_second (joined ks (own id)) (all fs (own id) ++ all gs (own id)) x (elim (from_either (is_true t.0) (block ps) (block qs) (own id) x t.1) [
        | inl u ↦ in_first (all fs (own id)) (all gs (own id)) x (block_from ps fs p (own id) x u)
        | inr u ↦ in_second (all fs (own id)) (all gs (own id)) x (block_from qs gs q (own id) x u)
      ]))
      | inr (inr t) ↦ inr t
    ];
  }

  -- ---- loops

  loop_join : (id : ℕ) (ks : List ℕ) (x : Pair) → Joins (ks ++ own id) (own id) x → Joins ks (own id) x ⊎ Joins (own id) (own id) x
  loop_join id ks x h = elim (in_either ks (own id) x.from h.0) [ inl t ↦ inl (t, h.1) | inr t ↦ inr (t, h.1) ]

  -- the edges to a loop's test
  test_into : (id : ℕ) (e : Expr) (b r : Code) (ks : List ℕ) (x : Pair) → IsIn (joined (ks ++ own id) (own id)) x → Under own (Loop id e b r) ks x
  test_into id e b r ks x h = elim (loop_join id ks x (of_joined (ks ++ own id) (own id) x h)) [ inl t ↦ inl t | inr t ↦ inr (inl t) ]

  test_first : (id : ℕ) (ks : List ℕ) (x : Pair) → Joins ks (own id) x → IsIn (joined (ks ++ own id) (own id)) x
  test_first id ks x h = in_joined (ks ++ own id) (own id) x (in_first ks (own id) x.from h.0, h.1)

  test_second : (id : ℕ) (ks : List ℕ) (x : Pair) → Joins (own id) (own id) x → IsIn (joined (ks ++ own id) (own id)) x
  test_second id ks x h = in_joined (ks ++ own id) (own id) x (in_second ks (own id) x.from h.0, h.1)

  while_agrees : (id : ℕ) (e : Expr) (ps : List StatementPart) (fs : List Walk) → AllZip Agrees ps fs → Agrees (doing (Loop id e (block ps))) (λ ks. joined (ks ++ own id) (own id) ++ all fs (own id))
  while_agrees id e ps fs p = record {
    into = λ r ks x h. elim (in_either (joined (ks ++ own id) (own id)) (all fs (own id)) x h) [
      | inl t ↦ test_into id e (block ps) r ks x t
      | inr t ↦ inr (inr (inl (block_into ps fs p (own id) x t)))
    ];
    rest = λ r ks x h. inr (inr (inr h));
    from = λ r ks x h. elim h [
      | inl t ↦ inl (in_first (joined (ks ++ own id) (own id)) (all fs (own id)) x (test_first id ks x t))
      | inr (inl t) ↦ inl (in_first (joined (ks ++ own id) (own id)) (all fs (own id)) x (test_second id ks x t))
      | inr (inr (inl t)) ↦ inl (in_second (joined (ks ++ own id) (own id)) (all fs (own id)) x (block_from ps fs p (own id) x t))
      | inr (inr (inr t)) ↦ inr t
    ];
  }

  do_agrees : (id : ℕ) (e : Expr) (ps : List StatementPart) (fs : List Walk) → AllZip Agrees ps fs → Agrees (doing (λ r. block ps ⨟ Loop id e (block ps) r)) (λ ks. joined (ks ++ own id) (own id) ++ all fs (ks ++ own id))
  do_agrees id e ps fs p = record {
    into = λ r ks x h. elim (in_either (joined (ks ++ own id) (own id)) (all fs (ks ++ own id)) x h) [
      | inl t ↦ under_second own (block ps) (Loop id e (block ps) r) ks x (test_into id e (block ps) r ks x t)
      | inr t ↦ elim (under_either own (block ps) ks (own id) x (block_into ps fs p (ks ++ own id) x t)) [
        | inl u ↦ under_first own (block ps) (Loop id e (block ps) r) ks x u
        | inr u ↦ under_second own (block ps) (Loop id e (block ps) r) ks x (inr (inr (inl u)))
      ]
    ];
    rest = λ r ks x h. under_second own (block ps) (Loop id e (block ps) r) ks x (inr (inr (inr h)));
    from = λ r ks x h. elim (under_seq own (block ps) (Loop id e (block ps) r) ks x h) [
      | inl t ↦ inl (in_second (joined (ks ++ own id) (own id)) (all fs (ks ++ own id)) x (block_from ps fs p (ks ++ own id) x (under_more own (block ps) ks (ks ++ own id) (λ k. in_first ks (own id) k) x t)))
      | inr (inl t) ↦ inl (in_first (joined (ks ++ own id) (own id)) (all fs (ks ++ own id)) x (test_first id ks x t))
      | inr (inr (inl t)) ↦ inl (in_first (joined (ks ++ own id) (own id)) (all fs (ks ++ own id)) x (test_second id ks x t))
      | inr (inr (inr (inl t))) ↦ inl (in_second (joined (ks ++ own id) (own id)) (all fs (ks ++ own id)) x (block_from ps fs p (ks ++ own id) x (under_more own (block ps) (own id) (ks ++ own id) (λ k. in_second ks (own id) k) x t)))
      | inr (inr (inr (inr t))) ↦ inr t
    ];
  }

  for_body : (b s : Code) (ks : List ℕ) (x : Pair) (f g : List Pair) → (Under own b ks x → IsIn g x) → (Under own s ks x → IsIn f x) → Under own (b ⨟ s) ks x → IsIn (f ++ g) x
  for_body b s ks x f g p q h = elim (under_seq own b s ks x h) [ inl t ↦ in_second f g x (p t) | inr t ↦ in_first f g x (q t) ]

  for_agrees : (id : ℕ) (e : Expr) (i s : Option StatementPart) (fi fs : Option Walk) (ps : List StatementPart) (fb : List Walk) → BothOrNone Agrees i fi → BothOrNone Agrees s fs → AllZip Agrees ps fb
      → Agrees (doing (λ r. list_of (optional i) ⨟ Loop id e (block ps ⨟ list_of (optional s)) (leave (declared_in (optional i)) r))) (λ ks. joined (ks ++ own id) (own id) ++ (if_some fi ks ++ (if_some fs (own id) ++ all fb (own id))))
  for_agrees id e i s fi fs ps fb pi ps_ pb =
      let loop = λ (r : Code). Loop id e (block ps ⨟ list_of (optional s)) (leave (declared_in (optional i)) r) in
      let first = list_of (optional i) in
      record {
        into = λ r ks x h. elim (in_either (joined (ks ++ own id) (own id)) (if_some fi ks ++ (if_some fs (own id) ++ all fb (own id))) x h) [
          | inl t ↦ under_second own first (loop r) ks x (test_into id e (block ps ⨟ list_of (optional s)) (leave (declared_in (optional i)) r) ks x t)
          | inr t ↦ elim (in_either (if_some fi ks) (if_some fs (own id) ++ all fb (own id)) x t) [
            | inl u ↦ under_first own first (loop r) ks x (part_into i fi pi ks x u)
            | inr u ↦ under_second own first (loop r) ks x (inr (inr (inl (elim (in_either (if_some fs (own id)) (all fb (own id)) x u) [
              | inl y ↦ under_second own (block ps) (list_of (optional s)) (own id) x (part_into s fs ps_ (own id) x y)
              | inr y ↦ under_first own (block ps) (list_of (optional s)) (own id) x (block_into ps fb pb (own id) x y)
            ]))))
          ]
        ];
        rest = λ r ks x h. under_second own first (loop r) ks x (inr (inr (inr (leave_rest (declared_in (optional i)) r ks x h))));
        from = λ r ks x h. elim (under_seq own first (loop r) ks x h) [
          | inl t ↦ inl (in_second (joined (ks ++ own id) (own id)) (if_some fi ks ++ (if_some fs (own id) ++ all fb (own id))) x (in_first (if_some fi ks) (if_some fs (own id) ++ all fb (own id)) x (part_from i fi pi ks x t)))
          | inr (inl t) ↦ inl (in_first (joined (ks ++ own id) (own id)) (if_some fi ks ++ (if_some fs (own id) ++ all fb (own id))) x (test_first id ks x t))
          | inr (inr (inl t)) ↦ inl (in_first (joined (ks ++ own id) (own id)) (if_some fi ks ++ (if_some fs (own id) ++ all fb (own id))) x (test_second id ks x t))
          | inr (inr (inr (inl t))) ↦ inl (in_second (joined (ks ++ own id) (own id)) (if_some fi ks ++ (if_some fs (own id) ++ all fb (own id))) x (in_second (if_some fi ks) (if_some fs (own id) ++ all fb (own id)) x
              (for_body (block ps) (list_of (optional s)) (own id) x (if_some fs (own id)) (all fb (own id)) (block_from ps fb pb (own id) x) (part_from s fs ps_ (own id) x) t)))
          | inr (inr (inr (inr t))) ↦ inr (leave_from (declared_in (optional i)) r ks x t)
        ];
      }

  -- ---- a switch

  arms_into : (before : List Label) (as_ : List ArmPart) (fs : List ArmWalk) → AllZip ArmAgrees as_ fs → (ks : List ℕ) (x : Pair) → IsIn (all_taken before fs ks) x → HoldsOfTaken (λ c. Under own c ks x) before as_
  arms_into before [] [] e ks x h = absurd h
  arms_into before [] (f ∷ fs) e ks x h = absurd e
  arms_into before (a ∷ as_) [] e ks x h = absurd e
  arms_into before (a ∷ as_) (f ∷ fs) e ks x h =
      let l = sym e.0.labels in
      elim (in_either (if has_first before f.labels then f.walk ks else []) (all_taken (with_labels before f.labels) fs ks) x h) [
        | inl t ↦ let u = if_in (has_first before f.labels) (f.walk ks) x t in inl (subst (λ y. has_first before y ≡ true) l u.0, e.0.into ks x u.1)
        | inr t ↦ inr (arms_into (with_labels before a.labels) as_ fs e.1 ks x (subst (λ y. IsIn (all_taken (with_labels before y) fs ks) x) l t))
      ]

  arms_from : (before : List Label) (as_ : List ArmPart) (fs : List ArmWalk) → AllZip ArmAgrees as_ fs → (ks : List ℕ) (x : Pair) → HoldsOfTaken (λ c. Under own c ks x) before as_ → IsIn (all_taken before fs ks) x
  arms_from before [] [] e ks x h = absurd h
  arms_from before [] (f ∷ fs) e ks x h = absurd e
  arms_from before (a ∷ as_) [] e ks x h = absurd e
  arms_from before (a ∷ as_) (f ∷ fs) e ks x (inl h) =
      in_first (if has_first before f.labels then f.walk ks else []) (all_taken (with_labels before f.labels) fs ks) x (in_if (has_first before f.labels) (f.walk ks) x (subst (λ y. has_first before y ≡ true) e.0.labels h.0) (e.0.from ks x h.1))
  arms_from before (a ∷ as_) (f ∷ fs) e ks x (inr h) =
      in_second (if has_first before f.labels then f.walk ks else []) (all_taken (with_labels before f.labels) fs ks) x (subst (λ y. IsIn (all_taken (with_labels before y) fs ks) x) e.0.labels (arms_from (with_labels before a.labels) as_ fs e.1 ks x h))

  switch_agrees : (id : ℕ) (e : Expr) (as_ : List ArmPart) (fs : List ArmWalk) → AllZip ArmAgrees as_ fs → Agrees (doing (Fork id e (taken_arm as_))) (λ ks. joined ks (own id) ++ all_taken [] fs (own id))
  switch_agrees id e as_ fs p = record {
    into = λ r ks x h. elim (in_either (joined ks (own id)) (all_taken [] fs (own id)) x h) [
      | inl t ↦ inl (of_joined ks (own id) x t)
      | inr t ↦ inr (inl (value_taken (λ c. Under own c (own id) x) as_ (arms_into [] as_ fs p (own id) x t)))
    ];
    rest = λ r ks x h. inr (inr h);
    from = λ r ks x h. elim h [
      | inl t ↦ inl (in_first (joined ks (own id)) (all_taken [] fs (own id)) x (in_joined ks (own id) x t))
      | inr (inl t) ↦ elim (taken_at (λ c. Under own c (own id) x) as_ t.0 t.1) [
        | inl u ↦ inl (in_second (joined ks (own id)) (all_taken [] fs (own id)) x (arms_from [] as_ fs p (own id) x u))
        | inr u ↦ absurd u
      ]
      | inr (inr t) ↦ inr t
    ];
  }

  -- ---- every statement

  abbrev pub Of : Statement → Type 0
  Of s = Agrees (part s) (walk own s)

  abbrev OfArm : Arm → Type 0
  OfArm a = ArmAgrees (arm_part a) (arm_walk own a)

  abbrev Parts : Type 0
  Parts = Statement-F ((x : Statement) × Of x) ((a : Arm) × OfArm a)

  abbrev layer : Parts → Statement-F Statement Arm
  layer = map-Statement ((x : Statement) × Of x) ((a : Arm) × OfArm a) Statement Arm (λ x. x.0) (λ a. a.0)

  abbrev ArmParts : Type 0
  ArmParts = Arm-F ((x : Statement) × Of x) ((a : Arm) × OfArm a)

  abbrev arm_layer : ArmParts → Arm-F Statement Arm
  arm_layer = map-Arm ((x : Statement) × Of x) ((a : Arm) × OfArm a) Statement Arm (λ x. x.0) (λ a. a.0)

  are_all : (b : List ((x : Statement) × Of x)) → AllZip Agrees (map part (map (λ (y : (x : Statement) × Of x). y.0) b)) (map (walk own) (map (λ (y : (x : Statement) × Of x). y.0) b))
  are_all [] = tt
  are_all (x ∷ b) = (x.1, are_all b)

  are_arms : (b : List ((a : Arm) × OfArm a)) → AllZip ArmAgrees (map arm_part (map (λ (y : (a : Arm) × OfArm a). y.0) b)) (map (arm_walk own) (map (λ (y : (a : Arm) × OfArm a). y.0) b))
  are_arms [] = tt
  are_arms (x ∷ b) = (x.1, are_arms b)

  abbrev part_of_layer : Statement-F Statement Arm → StatementPart
  part_of_layer y = part_step (map-Statement Statement Arm StatementPart ArmPart part arm_part y)

  abbrev walk_of_layer : Statement-F Statement Arm → Walk
  walk_of_layer y = walk_step own (map-Statement Statement Arm Walk ArmWalk (walk own) (arm_walk own) y)

  abbrev fsts : List ((x : Statement) × Of x) → List Statement
  fsts = map (λ y. y.0)

  of_layer : (y : Parts) → Agrees (part_of_layer (layer y)) (walk_of_layer (layer y))
  of_layer (Statement-F.Declare None l v i) = record { into = λ r ks x h. absurd h; rest = λ r ks x h. h; from = λ r ks x h. inr h }
  of_layer (Statement-F.Declare (Some id) l v i) = let h = plain id (Act.Begins v i) in record { into = h.into; rest = h.rest; from = h.from }
  of_layer (Statement-F.Assign id l a op b) = plain id _
  of_layer (Statement-F.Bump id l a up before) = plain id _
  of_layer (Statement-F.Invoke id l to f args) = given to (Call id to f args) _ (calls id to f args)
  of_layer (Statement-F.Fetch id l to) = given to (Plain id (Act.Fetches to)) _ (plain id (Act.Fetches to))
  of_layer (Statement-F.Write id l a) = plain id _
  of_layer (Statement-F.Print id l format args) = plain id _
  of_layer (Statement-F.Heap id l to cast n) = given to (Plain id (Act.Allocates to n)) _ (plain id (Act.Allocates to n))
  of_layer (Statement-F.Release id l a) = plain id _
  of_layer (Statement-F.If id l e a b) = if_agrees id e (map part (fsts a)) (map part (fsts b)) (map (walk own) (fsts a)) (map (walk own) (fsts b)) (are_all a) (are_all b)
  of_layer (Statement-F.While id l e b) = while_agrees id e (map part (fsts b)) (map (walk own) (fsts b)) (are_all b)
  of_layer (Statement-F.Do id l e b) = do_agrees id e (map part (fsts b)) (map (walk own) (fsts b)) (are_all b)
  of_layer (Statement-F.For id l None e None b) = for_agrees id e None None None None (map part (fsts b)) (map (walk own) (fsts b)) tt tt (are_all b)
  of_layer (Statement-F.For id l (Some i) e None b) = for_agrees id e (Some (part i.0)) None (Some (walk own i.0)) None (map part (fsts b)) (map (walk own) (fsts b)) i.1 tt (are_all b)
  of_layer (Statement-F.For id l None e (Some s) b) = for_agrees id e None (Some (part s.0)) None (Some (walk own s.0)) (map part (fsts b)) (map (walk own) (fsts b)) tt s.1 (are_all b)
  of_layer (Statement-F.For id l (Some i) e (Some s) b) = for_agrees id e (Some (part i.0)) (Some (part s.0)) (Some (walk own i.0)) (Some (walk own s.0)) (map part (fsts b)) (map (walk own) (fsts b)) i.1 s.1 (are_all b)
  of_layer (Statement-F.Switch id l e arms) = switch_agrees id e (map arm_part (map (λ y. y.0) arms)) (map (arm_walk own) (map (λ y. y.0) arms)) (are_arms arms)
  of_layer (Statement-F.Block l b) = record {
    into = λ r ks x h. under_first own (block (map part (fsts b))) r ks x (block_into (map part (fsts b)) (map (walk own) (fsts b)) (are_all b) ks x h);
    rest = λ r ks x h. under_second own (block (map part (fsts b))) r ks x h;
    from = λ r ks x h. elim (under_seq own (block (map part (fsts b))) r ks x h) [
      | inl t ↦ inl (block_from (map part (fsts b)) (map (walk own) (fsts b)) (are_all b) ks x t)
      | inr t ↦ inr t
    ];
  }
  of_layer (Statement-F.Return id l a) = plain id _

  of_arm_layer : (y : ArmParts) → ArmAgrees (arm_step (map-Arm Statement Arm StatementPart ArmPart part arm_part (arm_layer y))) (w.arm_step own (map-Arm Statement Arm Walk ArmWalk (walk own) (arm_walk own) (arm_layer y)))
  of_arm_layer y = record {
    labels = refl;
    into = block_into (map part (fsts y.body)) (map (walk own) (fsts y.body)) (are_all y.body);
    from = block_from (map part (fsts y.body)) (map (walk own) (fsts y.body)) (are_all y.body);
  }

  rolled : (y : Statement-F Statement Arm) → Agrees (part_of_layer y) (walk_of_layer y) → Of (roll-Statement y)
  rolled y h =
      subst (λ p. Agrees p (walk own (roll-Statement y))) (sym (fold-roll-Statement StatementPart ArmPart part_step arm_step y)) (subst (λ f. Agrees (part_of_layer y) f) (sym (fold-roll-Statement Walk ArmWalk (walk_step own) (w.arm_step own) y)) h)

  rolled_arm : (y : Arm-F Statement Arm) → ArmAgrees (arm_step (map-Arm Statement Arm StatementPart ArmPart part arm_part y)) (w.arm_step own (map-Arm Statement Arm Walk ArmWalk (walk own) (arm_walk own) y)) → OfArm (roll-Arm y)
  rolled_arm y h =
      subst (λ p. ArmAgrees p (arm_walk own (roll-Arm y))) (sym (fold-roll-Arm StatementPart ArmPart part_step arm_step y)) (subst (λ f. ArmAgrees (arm_step (map-Arm Statement Arm StatementPart ArmPart part arm_part y)) f) (sym (fold-roll-Arm Walk ArmWalk (walk_step own) (w.arm_step own) y)) h)

  pub of_statement : (s : Statement) → Of s
  of_statement =
      ind-Statement Of OfArm (λ x y is. subst (λ z. Of (roll-Statement z)) is (rolled (layer y) (of_layer y))) (λ x y is. subst (λ z. OfArm (roll-Arm z)) is (rolled_arm (arm_layer y) (of_arm_layer y)))

  pub walks_into : (ss : List Statement) (ks : List ℕ) (x : Pair) → IsIn (walks own ss ks) x → Under own (code ss) ks x
  walks_into [] ks x h = absurd h
  walks_into (s ∷ ss) ks x h = elim (in_either (walk own s ks) (walks own ss ks) x h) [
    | inl t ↦ (of_statement s).into (code ss) ks x t
    | inr t ↦ (of_statement s).rest (code ss) ks x (walks_into ss ks x t)
  ]

  pub walks_from : (ss : List Statement) (ks : List ℕ) (x : Pair) → Under own (code ss) ks x → IsIn (walks own ss ks) x
  walks_from [] ks x h = absurd h
  walks_from (s ∷ ss) ks x h = elim ((of_statement s).from (code ss) ks x h) [
    | inl t ↦ in_first (walk own s ks) (walks own ss ks) x t
    | inr t ↦ in_second (walk own s ks) (walks own ss ks) x (walks_from ss ks x t)
  ]
