-- The walk finds exactly the pairs of the code that a statement is.
use Rattle.std.proofs.Common.{◌≡◌, ℕ, zero, suc, ℤ, pos, List, [], ◌∷◌, ◌++◌, ◌⊎◌, inl, inr, Bool, true, false, Option, Some, None, map, refl, sym, ap, ◌∙◌, subst}
use Rattle.std.specs.Prelude.{if◌then◌else◌, ◌||◌}
use Rattle.std.specs.List.{AllZip}
use Rattle.c_tree.specs.declared.expr.Expr.{Expr}
use Rattle.c_tree.specs.declared.statement.Label.{Label}
use Rattle.c_tree.specs.declared.statement.Target.{Target}
use Rattle.c_tree.specs.declared.statement.Target.TheVariants as target
use Rattle.c_tree.specs.declared.statement.Statement.{Statement, ind-Statement, roll-Statement, map-Statement, fold-roll-Statement}
use Rattle.c_tree.specs.declared.statement.Statement.TheOpen.{Statement-F, Arm-F}
use Rattle.c_tree.specs.declared.statement.Arm.{Arm, roll-Arm, map-Arm, fold-roll-Arm}
use Rattle.c_language.specs.Code.{Act, Code, End, Plain, Fork, Loop, Call, ◌⨟◌, is_true, either, leave, StatementPart, doing, declared_in, in_turn, list_of, block, ArmPart, taken_arm, has_default, optional, given_to, part_step, arm_step, part, code}
use Rattle.c_language.proofs.CodeLemmas.{arm_part}
use Rattle.dep_model.specs.Follows.{enters, InTurn, VerticesAt, start, Follows}
use Rattle.dep_model.specs.declared.skeleton.Pair.{Pair}
use Rattle.dep_model.specs.SwitchArms.{has_first, with_labels}
use Rattle.dep_model.proofs.FollowsLemmas.{start-seq, Follows-seq, seq-first, seq-second}
use Rattle.dep_model.proofs.Parts.{BothOrNone}
use Rattle.dep_model.proofs.SwitchLaws.{HoldsOfTaken, some_arm_default, taken_or_past, value_taken, past_value}
use Rattle.flow_graph.specs.Walk.{Flow, ArmFlow, to_next, linked, nothing, simple, in_order, if_some, led_to, all_taken, any_default, past, forked, looped, flow_step, flow, arm_flow, flows}
use Rattle.flow_graph.specs.Walk as w
use Rattle.dep_model.proofs.Membership.{IsIn, in_first, in_second, in_either, if_in, in_if}
use Rattle.dep_model.specs.Pairs.{pair}

-- ---- vertices that follow one another

to_next_in : (v : ℕ) (n : Option ℕ) (x : Pair) → x.from ≡ v → Some x.to ≡ n → IsIn (to_next v n) x
to_next_in v None x p q = absurd cc
to_next_in v (Some y) x p q =
    let e : x.to ≡ y = cc in
    inl (ap (λ a. pair a y) (sym p) ∙ ap (λ b. pair x.from b) (sym e))

of_to_next : (v : ℕ) (n : Option ℕ) (x : Pair) → IsIn (to_next v n) x → (x.from ≡ v) × (Some x.to ≡ n)
of_to_next v None x h = absurd h
of_to_next v (Some y) x (inl e) = (sym (ap (λ (z : Pair). z.from) e), sym (ap (λ (z : Pair). Some z.to) e))
of_to_next v (Some y) x (inr h) = absurd h

abbrev pub Turns : List ℕ → Option ℕ → Pair → Type 0
Turns vs k x = InTurn vs k x.from (Some x.to)

pub in_linked : (vs : List ℕ) (k : Option ℕ) (x : Pair) → Turns vs k x → IsIn (linked vs k) x
in_linked [] k x h = absurd h
in_linked (v ∷ vs) k x (inl h) = in_first (to_next v (enters vs k)) (linked vs k) x (to_next_in v (enters vs k) x h.0 h.1)
in_linked (v ∷ vs) k x (inr h) = in_second (to_next v (enters vs k)) (linked vs k) x (in_linked vs k x h)

pub of_linked : (vs : List ℕ) (k : Option ℕ) (x : Pair) → IsIn (linked vs k) x → Turns vs k x
of_linked [] k x h = absurd h
of_linked (v ∷ vs) k x h = elim (in_either (to_next v (enters vs k)) (linked vs k) x h) [
  | inl t ↦ inl (of_to_next v (enters vs k) x t)
  | inr t ↦ inr (of_linked vs k x t)
]

module _ (own : ℕ → List ℕ) where
  abbrev pub at : VerticesAt ℕ
  at = λ (i : ℕ) (a : Option Act). own i

  abbrev pub P : Code → Option ℕ → Pair → Type 0
  P c k x = Follows at c k x.from (Some x.to)

  abbrev pub begins : Code → Option ℕ → Option ℕ
  begins c k = start at c k

  -- a statement as code and as a part of the walk
  pub record Agrees (p : StatementPart) (f : Flow) : Type 0 where
    pub starts : (r : Code) (k : Option ℕ) → start at (p.before r) k ≡ f.start (start at r k)
    pub into : (r : Code) (k : Option ℕ) (x : Pair) → IsIn (f.pairs (start at r k)) x → P (p.before r) k x
    pub rest : (r : Code) (k : Option ℕ) (x : Pair) → P r k x → P (p.before r) k x
    pub from : (r : Code) (k : Option ℕ) (x : Pair) → P (p.before r) k x → IsIn (f.pairs (start at r k)) x ⊎ P r k x

  -- a list that stands by itself
  pub record Is (c : Code) (f : Flow) : Type 0 where
    pub starts : (k : Option ℕ) → start at c k ≡ f.start k
    pub into : (k : Option ℕ) (x : Pair) → IsIn (f.pairs k) x → P c k x
    pub from : (k : Option ℕ) (x : Pair) → P c k x → IsIn (f.pairs k) x

  pub record ArmAgrees (a : ArmPart) (f : ArmFlow) : Type 0 where
    pub labels : a.labels ≡ f.labels
    pub is : Is a.does f.flow

  -- ---- simple statements

  plain : (id : ℕ) (a : Act) → Agrees (doing (Plain id a)) (simple (own id))
  plain id a = record {
    starts = λ r k. refl;
    into = λ r k x h. inl (of_linked (own id) (start at r k) x h);
    rest = λ r k x h. inr h;
    from = λ r k x h. elim h [ inl j ↦ inl (in_linked (own id) (start at r k) x j) | inr u ↦ inr u ];
  }

  calls : (id : ℕ) (to : Target) (g : ℕ) (args : List Expr) → Agrees (doing (Call id to g args)) (simple (own id))
  calls id to g args = record {
    starts = λ r k. refl;
    into = λ r k x h. inl (of_linked (own id) (start at r k) x h);
    rest = λ r k x h. inr h;
    from = λ r k x h. elim h [ inl j ↦ inl (in_linked (own id) (start at r k) x j) | inr u ↦ inr u ];
  }

  given : (to : Target) (before : Code → Code) (f : Flow) → Agrees (doing before) f → Agrees (given_to to before) f
  given target.None before f h = h
  given (target.Place e) before f h = h
  given (target.Declared v) before f h = record { starts = h.starts; into = h.into; rest = h.rest; from = h.from }

  -- ---- lists

  turn_start : (ps : List StatementPart) (fs : List Flow) → AllZip Agrees ps fs → (r : Code) (k : Option ℕ) → start at (in_turn ps r) k ≡ (in_order fs).start (start at r k)
  turn_start [] [] e r k = refl
  turn_start [] (f ∷ fs) e r k = absurd e
  turn_start (p ∷ ps) [] e r k = absurd e
  turn_start (p ∷ ps) (f ∷ fs) e r k = e.0.starts (in_turn ps r) k ∙ ap f.start (turn_start ps fs e.1 r k)

  turn_into : (ps : List StatementPart) (fs : List Flow) → AllZip Agrees ps fs → (r : Code) (k : Option ℕ) (x : Pair) → IsIn ((in_order fs).pairs (start at r k)) x → P (in_turn ps r) k x
  turn_into [] [] e r k x h = absurd h
  turn_into [] (f ∷ fs) e r k x h = absurd e
  turn_into (p ∷ ps) [] e r k x h = absurd e
  turn_into (p ∷ ps) (f ∷ fs) e r k x h = elim (in_either ((in_order fs).pairs (start at r k)) (f.pairs ((in_order fs).start (start at r k))) x h) [
    | inl t ↦ e.0.rest (in_turn ps r) k x (turn_into ps fs e.1 r k x t)
    | inr t ↦ e.0.into (in_turn ps r) k x (subst (λ y. IsIn (f.pairs y) x) (sym (turn_start ps fs e.1 r k)) t)
  ]

  turn_from : (ps : List StatementPart) (fs : List Flow) → AllZip Agrees ps fs → (r : Code) (k : Option ℕ) (x : Pair) → P (in_turn ps r) k x → IsIn ((in_order fs).pairs (start at r k)) x ⊎ P r k x
  turn_from [] [] e r k x h = inr h
  turn_from [] (f ∷ fs) e r k x h = absurd e
  turn_from (p ∷ ps) [] e r k x h = absurd e
  turn_from (p ∷ ps) (f ∷ fs) e r k x h = elim (e.0.from (in_turn ps r) k x h) [
    | inl t ↦ inl (in_second ((in_order fs).pairs (start at r k)) (f.pairs ((in_order fs).start (start at r k))) x (subst (λ y. IsIn (f.pairs y) x) (turn_start ps fs e.1 r k) t))
    | inr t ↦ elim (turn_from ps fs e.1 r k x t) [ inl u ↦ inl (in_first ((in_order fs).pairs (start at r k)) (f.pairs ((in_order fs).start (start at r k))) x u) | inr u ↦ inr u ]
  ]

  leave_start : (vs : List ℕ) (r : Code) (k : Option ℕ) → start at (leave vs r) k ≡ start at r k
  leave_start [] r k = refl
  leave_start (v ∷ vs) r k = refl

  leave_rest : (vs : List ℕ) (r : Code) (k : Option ℕ) (x : Pair) → P r k x → P (leave vs r) k x
  leave_rest [] r k x h = h
  leave_rest (v ∷ vs) r k x h = h

  leave_from : (vs : List ℕ) (r : Code) (k : Option ℕ) (x : Pair) → P (leave vs r) k x → P r k x
  leave_from [] r k x h = h
  leave_from (v ∷ vs) r k x h = h

  block_is : (ps : List StatementPart) (fs : List Flow) → AllZip Agrees ps fs → Is (block ps) (in_order fs)
  block_is ps fs e =
      let done = leave (declared_in ps) End in
      record {
        starts = λ k. turn_start ps fs e done k ∙ ap (in_order fs).start (leave_start (declared_in ps) End k);
        into = λ k x h. turn_into ps fs e done k x (subst (λ y. IsIn ((in_order fs).pairs y) x) (sym (leave_start (declared_in ps) End k)) h);
        from = λ k x h. elim (turn_from ps fs e done k x h) [
          | inl t ↦ subst (λ y. IsIn ((in_order fs).pairs y) x) (leave_start (declared_in ps) End k) t
          | inr t ↦ absurd (leave_from (declared_in ps) End k x t)
        ];
      }

  -- ---- a part that may be missing

  part_is : (p : Option StatementPart) (f : Option Flow) → BothOrNone Agrees p f → Is (list_of (optional p)) (if_some f)
  part_is None None e = record { starts = λ k. refl; into = λ k x h. absurd h; from = λ k x h. absurd h }
  part_is None (Some f) e = absurd e
  part_is (Some p) None e = absurd e
  part_is (Some p) (Some f) e = record {
    starts = λ k. e.starts End k;
    into = λ k x h. e.into End k x h;
    from = λ k x h. elim (e.from End k x h) [ inl t ↦ t | inr t ↦ absurd t ];
  }

  -- ---- what a test leads to

  led_into : (test : List ℕ) (c : Code) (f : Flow) → Is c f → (k : Option ℕ) (x : Pair) → IsIn (led_to test f k) x → Turns test (start at c k) x ⊎ P c k x
  led_into test c f e k x h = elim (in_either (f.pairs k) (linked test (f.start k)) x h) [
    | inl t ↦ inr (e.into k x t)
    | inr t ↦ inl (subst (λ y. Turns test y x) (sym (e.starts k)) (of_linked test (f.start k) x t))
  ]

  led_from : (test : List ℕ) (c : Code) (f : Flow) → Is c f → (k : Option ℕ) (x : Pair) → Turns test (start at c k) x ⊎ P c k x → IsIn (led_to test f k) x
  led_from test c f e k x (inl t) = in_second (f.pairs k) (linked test (f.start k)) x (in_linked test (f.start k) x (subst (λ y. Turns test y x) (e.starts k) t))
  led_from test c f e k x (inr t) = in_first (f.pairs k) (linked test (f.start k)) x (e.from k x t)

  from_either : (Q : Code → Type 0) (b : Bool) (c d : Code) → Q (either b c d) → Q c ⊎ Q d
  from_either Q true c d h = inl h
  from_either Q false c d h = inr h

  if_agrees : (id : ℕ) (e : Expr) (c d : Code) (f g : Flow) → Is c f → Is d g → Agrees (doing (Fork id e (λ v. either (is_true v) c d))) (forked (own id) f g)
  if_agrees id e c d f g p q = record {
    starts = λ r k. refl;
    into = λ r k x h. elim (in_either (led_to (own id) f (start at r k)) (led_to (own id) g (start at r k)) x h) [
      | inl t ↦ elim (led_into (own id) c f p (start at r k) x t) [ inl u ↦ inl (pos (suc zero), u) | inr u ↦ inr (inl (pos (suc zero), u)) ]
      | inr t ↦ elim (led_into (own id) d g q (start at r k) x t) [ inl u ↦ inl (pos zero, u) | inr u ↦ inr (inl (pos zero, u)) ]
    ];
    rest = λ r k x h. inr (inr h);
    from = λ r k x h.
        let first = in_first (led_to (own id) f (start at r k)) (led_to (own id) g (start at r k)) x in
        let second = in_second (led_to (own id) f (start at r k)) (led_to (own id) g (start at r k)) x in
        elim h [
          | inl t ↦ inl (elim (from_either (λ y. Turns (own id) (start at y (start at r k)) x) (is_true t.0) c d t.1) [
            | inl u ↦ first (led_from (own id) c f p (start at r k) x (inl u))
            | inr u ↦ second (led_from (own id) d g q (start at r k) x (inl u))
          ])
          | inr (inl t) ↦ inl (elim (from_either (λ y. P y (start at r k) x) (is_true t.0) c d t.1) [
            | inl u ↦ first (led_from (own id) c f p (start at r k) x (inr u))
            | inr u ↦ second (led_from (own id) d g q (start at r k) x (inr u))
          ])
          | inr (inr t) ↦ inr t
        ];
  }

  -- ---- loops

  -- one list and then another
  abbrev seq : Flow → Flow → Flow
  seq f g = record { start = λ (k : Option ℕ). f.start (g.start k); pairs = λ (k : Option ℕ). g.pairs k ++ f.pairs (g.start k) }

  seq_is : (c d : Code) (f g : Flow) → Is c f → Is d g → Is (c ⨟ d) (seq f g)
  seq_is c d f g p q = record {
    starts = λ k. start-seq at c d k ∙ p.starts (start at d k) ∙ ap f.start (q.starts k);
    into = λ k x h. elim (in_either (g.pairs k) (f.pairs (g.start k)) x h) [
      | inl t ↦ seq-second at c d k x.from (Some x.to) (q.into k x t)
      | inr t ↦ seq-first at c d k x.from (Some x.to) (p.into (start at d k) x (subst (λ y. IsIn (f.pairs y) x) (sym (q.starts k)) t))
    ];
    from = λ k x h. elim (Follows-seq at c d k x.from (Some x.to) h) [
      | inl t ↦ in_second (g.pairs k) (f.pairs (g.start k)) x (subst (λ y. IsIn (f.pairs y) x) (q.starts k) (p.from (start at d k) x t))
      | inr t ↦ in_first (g.pairs k) (f.pairs (g.start k)) x (q.from k x t)
    ];
  }

  loop_split : (test : List ℕ) (f g : Flow) (k : Option ℕ) (x : Pair) → IsIn (looped test f g k) x → IsIn ((seq f g).pairs (enters test k)) x ⊎ (Turns test ((seq f g).start (enters test k)) x ⊎ Turns test k x)
  loop_split test f g k x h =
      let t = enters test k in
      elim (in_either (g.pairs t) (led_to test f (g.start t) ++ linked test k) x h) [
        | inl a ↦ inl (in_first (g.pairs t) (f.pairs (g.start t)) x a)
        | inr a ↦ elim (in_either (led_to test f (g.start t)) (linked test k) x a) [
          | inl b ↦ elim (in_either (f.pairs (g.start t)) (linked test (f.start (g.start t))) x b) [
            | inl c ↦ inl (in_second (g.pairs t) (f.pairs (g.start t)) x c)
            | inr c ↦ inr (inl (of_linked test (f.start (g.start t)) x c))
          ]
          | inr b ↦ inr (inr (of_linked test k x b))
        ]
      ]

  loop_join : (test : List ℕ) (f g : Flow) (k : Option ℕ) (x : Pair) → IsIn ((seq f g).pairs (enters test k)) x ⊎ (Turns test ((seq f g).start (enters test k)) x ⊎ Turns test k x) → IsIn (looped test f g k) x
  loop_join test f g k x h =
      let t = enters test k in
      let second = λ (a : IsIn (led_to test f (g.start t) ++ linked test k) x). in_second (g.pairs t) (led_to test f (g.start t) ++ linked test k) x a in
      let led = λ (a : IsIn (led_to test f (g.start t)) x). second (in_first (led_to test f (g.start t)) (linked test k) x a) in
      elim h [
        | inl a ↦ elim (in_either (g.pairs t) (f.pairs (g.start t)) x a) [
          | inl b ↦ in_first (g.pairs t) (led_to test f (g.start t) ++ linked test k) x b
          | inr b ↦ led (in_first (f.pairs (g.start t)) (linked test (f.start (g.start t))) x b)
        ]
        | inr (inl a) ↦ led (in_second (f.pairs (g.start t)) (linked test (f.start (g.start t))) x (in_linked test (f.start (g.start t)) x a))
        | inr (inr a) ↦ second (in_second (led_to test f (g.start t)) (linked test k) x (in_linked test k x a))
      ]

  loop_into : (id : ℕ) (e : Expr) (b : Code) (f g : Flow) → Is b (seq f g) → (r : Code) (k : Option ℕ) (x : Pair) → IsIn (looped (own id) f g (start at r k)) x → P (Loop id e b r) k x
  loop_into id e b f g p r k x h =
      let t = enters (own id) (start at r k) in
      elim (loop_split (own id) f g (start at r k) x h) [
        | inl a ↦ inr (inr (inl (p.into t x a)))
        | inr (inl a) ↦ inl (subst (λ y. Turns (own id) y x) (sym (p.starts t)) a)
        | inr (inr a) ↦ inr (inl a)
      ]

  loop_from : (id : ℕ) (e : Expr) (b : Code) (f g : Flow) → Is b (seq f g) → (r : Code) (k : Option ℕ) (x : Pair) → P (Loop id e b r) k x → IsIn (looped (own id) f g (start at r k)) x ⊎ P r k x
  loop_from id e b f g p r k x h =
      let t = enters (own id) (start at r k) in
      elim h [
        | inl a ↦ inl (loop_join (own id) f g (start at r k) x (inr (inl (subst (λ y. Turns (own id) y x) (p.starts t) a))))
        | inr (inl a) ↦ inl (loop_join (own id) f g (start at r k) x (inr (inr a)))
        | inr (inr (inl a)) ↦ inl (loop_join (own id) f g (start at r k) x (inl (p.from t x a)))
        | inr (inr (inr a)) ↦ inr a
      ]

  alone : (b : Code) (f : Flow) → Is b f → Is b (seq f nothing)
  alone b f p = record { starts = p.starts; into = p.into; from = p.from }

  while_agrees : (id : ℕ) (e : Expr) (b : Code) (f : Flow) → Is b f → Agrees (doing (Loop id e b)) (record { start = enters (own id); pairs = looped (own id) f nothing })
  while_agrees id e b f p = record {
    starts = λ r k. refl;
    into = loop_into id e b f nothing (alone b f p);
    rest = λ r k x h. inr (inr (inr h));
    from = loop_from id e b f nothing (alone b f p);
  }

  do_agrees : (id : ℕ) (e : Expr) (b : Code) (f : Flow) → Is b f → Agrees (doing (λ r. b ⨟ Loop id e b r)) (record { start = λ k. f.start (enters (own id) k); pairs = looped (own id) f nothing })
  do_agrees id e b f p = record {
    starts = λ r k. start-seq at b (Loop id e b r) k ∙ p.starts (enters (own id) (start at r k));
    into = λ r k x h. seq-second at b (Loop id e b r) k x.from (Some x.to) (loop_into id e b f nothing (alone b f p) r k x h);
    rest = λ r k x h. seq-second at b (Loop id e b r) k x.from (Some x.to) (inr (inr (inr h)));
    from = λ r k x h. elim (Follows-seq at b (Loop id e b r) k x.from (Some x.to) h) [
      | inl t ↦ inl (loop_join (own id) f nothing (start at r k) x (inl (p.from (enters (own id) (start at r k)) x t)))
      | inr t ↦ loop_from id e b f nothing (alone b f p) r k x t
    ];
  }

  for_agrees : (id : ℕ) (e : Expr) (vs : List ℕ) (a b s : Code) (fa f g : Flow) → Is a fa → Is b f → Is s g
      → Agrees (doing (λ r. a ⨟ Loop id e (b ⨟ s) (leave vs r))) (record { start = λ k. fa.start (enters (own id) k); pairs = λ k. looped (own id) f g k ++ fa.pairs (enters (own id) k) })
  for_agrees id e vs a b s fa f g pa p q =
      let loop = λ (r : Code). Loop id e (b ⨟ s) (leave vs r) in
      let whole = λ (x : Pair) (y : Option ℕ). IsIn (looped (own id) f g y ++ fa.pairs (enters (own id) y)) x in
      let body = seq_is b s f g p q in
      record {
        starts = λ r k. start-seq at a (loop r) k ∙ pa.starts (enters (own id) (start at (leave vs r) k)) ∙ ap (λ y. fa.start (enters (own id) y)) (leave_start vs r k);
        into = λ r k x h.
            let y = start at (leave vs r) k in
            elim (in_either (looped (own id) f g y) (fa.pairs (enters (own id) y)) x (subst (whole x) (sym (leave_start vs r k)) h)) [
              | inl t ↦ seq-second at a (loop r) k x.from (Some x.to) (loop_into id e (b ⨟ s) f g body (leave vs r) k x t)
              | inr t ↦ seq-first at a (loop r) k x.from (Some x.to) (pa.into (enters (own id) y) x t)
            ];
        rest = λ r k x h. seq-second at a (loop r) k x.from (Some x.to) (inr (inr (inr (leave_rest vs r k x h))));
        from = λ r k x h.
            let y = start at (leave vs r) k in
            elim (Follows-seq at a (loop r) k x.from (Some x.to) h) [
              | inl t ↦ inl (subst (whole x) (leave_start vs r k) (in_second (looped (own id) f g y) (fa.pairs (enters (own id) y)) x (pa.from (enters (own id) y) x t)))
              | inr t ↦ elim (loop_from id e (b ⨟ s) f g body (leave vs r) k x t) [
                | inl u ↦ inl (subst (whole x) (leave_start vs r k) (in_first (looped (own id) f g y) (fa.pairs (enters (own id) y)) x u))
                | inr u ↦ inr (leave_from vs r k x u)
              ]
            ];
      }

  -- ---- a switch

  of_past : (test : List ℕ) (b : Bool) (k : Option ℕ) (x : Pair) → IsIn (past test b k) x → (b ≡ false) × Turns test k x
  of_past test true k x h = absurd h
  of_past test false k x h = (refl, of_linked test k x h)

  in_past : (test : List ℕ) (b : Bool) (k : Option ℕ) (x : Pair) → b ≡ false → Turns test k x → IsIn (past test b k) x
  in_past test b k x e h = subst (λ t. IsIn (past test t k) x) (sym e) (in_linked test k x h)

  abbrev Reaches : List ℕ → Option ℕ → Pair → Code → Type 0
  Reaches test k x c = Turns test (start at c k) x ⊎ P c k x

  arms_into : (test : List ℕ) (before : List Label) (as_ : List ArmPart) (fs : List ArmFlow) → AllZip ArmAgrees as_ fs → (k : Option ℕ) (x : Pair) → IsIn (all_taken test before fs k) x → HoldsOfTaken (Reaches test k x) before as_
  arms_into test before [] [] e k x h = absurd h
  arms_into test before [] (f ∷ fs) e k x h = absurd e
  arms_into test before (a ∷ as_) [] e k x h = absurd e
  arms_into test before (a ∷ as_) (f ∷ fs) e k x h =
      let l = sym e.0.labels in
      elim (in_either (if has_first before f.labels then led_to test f.flow k else []) (all_taken test (with_labels before f.labels) fs k) x h) [
        | inl t ↦ let u = if_in (has_first before f.labels) (led_to test f.flow k) x t in inl (subst (λ y. has_first before y ≡ true) l u.0, led_into test a.does f.flow e.0.is k x u.1)
        | inr t ↦ inr (arms_into test (with_labels before a.labels) as_ fs e.1 k x (subst (λ y. IsIn (all_taken test (with_labels before y) fs k) x) l t))
      ]

  arms_from : (test : List ℕ) (before : List Label) (as_ : List ArmPart) (fs : List ArmFlow) → AllZip ArmAgrees as_ fs → (k : Option ℕ) (x : Pair) → HoldsOfTaken (Reaches test k x) before as_ → IsIn (all_taken test before fs k) x
  arms_from test before [] [] e k x h = absurd h
  arms_from test before [] (f ∷ fs) e k x h = absurd e
  arms_from test before (a ∷ as_) [] e k x h = absurd e
  arms_from test before (a ∷ as_) (f ∷ fs) e k x (inl h) =
      in_first (if has_first before f.labels then led_to test f.flow k else []) (all_taken test (with_labels before f.labels) fs k) x (in_if (has_first before f.labels) (led_to test f.flow k) x (subst (λ y. has_first before y ≡ true) e.0.labels h.0) (led_from test a.does f.flow e.0.is k x h.1))
  arms_from test before (a ∷ as_) (f ∷ fs) e k x (inr h) =
      in_second (if has_first before f.labels then led_to test f.flow k else []) (all_taken test (with_labels before f.labels) fs k) x (subst (λ y. IsIn (all_taken test (with_labels before y) fs k) x) e.0.labels (arms_from test (with_labels before a.labels) as_ fs e.1 k x h))

  same_default : (as_ : List ArmPart) (fs : List ArmFlow) → AllZip ArmAgrees as_ fs → some_arm_default as_ ≡ any_default fs
  same_default [] [] e = refl
  same_default [] (f ∷ fs) e = absurd e
  same_default (a ∷ as_) [] e = absurd e
  same_default (a ∷ as_) (f ∷ fs) e = ap (λ y. has_default y || some_arm_default as_) e.0.labels ∙ ap (λ b. has_default f.labels || b) (same_default as_ fs e.1)

  reached : (id : ℕ) (as_ : List ArmPart) (fs : List ArmFlow) → AllZip ArmAgrees as_ fs → (y : Option ℕ) (x : Pair) (v : ℤ) → Reaches (own id) y x (taken_arm as_ v) → IsIn (all_taken (own id) [] fs y ++ past (own id) (any_default fs) y) x
  reached id as_ fs p y x v t = elim (taken_or_past (Reaches (own id) y x) as_ v t) [
    | inl u ↦ in_first (all_taken (own id) [] fs y) (past (own id) (any_default fs) y) x (arms_from (own id) [] as_ fs p y x u)
    | inr u ↦ in_second (all_taken (own id) [] fs y) (past (own id) (any_default fs) y) x (elim u.1 [ inl z ↦ in_past (own id) (any_default fs) y x (sym (same_default as_ fs p) ∙ u.0) z | inr z ↦ absurd z ])
  ]

  switch_agrees : (id : ℕ) (e : Expr) (as_ : List ArmPart) (fs : List ArmFlow) → AllZip ArmAgrees as_ fs → Agrees (doing (Fork id e (taken_arm as_))) (record { start = enters (own id); pairs = λ k. all_taken (own id) [] fs k ++ past (own id) (any_default fs) k })
  switch_agrees id e as_ fs p = record {
    starts = λ r k. refl;
    into = λ r k x h.
        let y = start at r k in
        elim (in_either (all_taken (own id) [] fs y) (past (own id) (any_default fs) y) x h) [
          | inl t ↦ let v = value_taken (Reaches (own id) y x) as_ (arms_into (own id) [] as_ fs p y x t) in elim v.1 [ inl u ↦ inl (v.0, u) | inr u ↦ inr (inl (v.0, u)) ]
          | inr t ↦ let u = of_past (own id) (any_default fs) y x t in
              let v = past_value as_ (same_default as_ fs p ∙ u.0) in
              inl (v.0, subst (λ c. Turns (own id) (start at c y) x) (sym v.1) u.1)
        ];
    rest = λ r k x h. inr (inr h);
    from = λ r k x h. elim h [
      | inl t ↦ inl (reached id as_ fs p (start at r k) x t.0 (inl t.1))
      | inr (inl t) ↦ inl (reached id as_ fs p (start at r k) x t.0 (inr t.1))
      | inr (inr t) ↦ inr t
    ];
  }

  -- ---- every statement

  abbrev pub Of : Statement → Type 0
  Of s = Agrees (part s) (flow own s)

  abbrev OfArm : Arm → Type 0
  OfArm a = ArmAgrees (arm_part a) (arm_flow own a)

  abbrev Parts : Type 0
  Parts = Statement-F ((x : Statement) × Of x) ((a : Arm) × OfArm a)

  abbrev layer : Parts → Statement-F Statement Arm
  layer = map-Statement ((x : Statement) × Of x) ((a : Arm) × OfArm a) Statement Arm (λ x. x.0) (λ a. a.0)

  abbrev ArmParts : Type 0
  ArmParts = Arm-F ((x : Statement) × Of x) ((a : Arm) × OfArm a)

  abbrev arm_layer : ArmParts → Arm-F Statement Arm
  arm_layer = map-Arm ((x : Statement) × Of x) ((a : Arm) × OfArm a) Statement Arm (λ x. x.0) (λ a. a.0)

  abbrev fsts : List ((x : Statement) × Of x) → List Statement
  fsts = map (λ y. y.0)

  are_all : (b : List ((x : Statement) × Of x)) → AllZip Agrees (map part (fsts b)) (map (flow own) (fsts b))
  are_all [] = tt
  are_all (x ∷ b) = (x.1, are_all b)

  are_arms : (b : List ((a : Arm) × OfArm a)) → AllZip ArmAgrees (map arm_part (map (λ (y : (a : Arm) × OfArm a). y.0) b)) (map (arm_flow own) (map (λ (y : (a : Arm) × OfArm a). y.0) b))
  are_arms [] = tt
  are_arms (x ∷ b) = (x.1, are_arms b)

  blocks : (b : List ((x : Statement) × Of x)) → Is (block (map part (fsts b))) (in_order (map (flow own) (fsts b)))
  blocks b = block_is (map part (fsts b)) (map (flow own) (fsts b)) (are_all b)

  abbrev part_of_layer : Statement-F Statement Arm → StatementPart
  part_of_layer y = part_step (map-Statement Statement Arm StatementPart ArmPart part arm_part y)

  abbrev flow_of_layer : Statement-F Statement Arm → Flow
  flow_of_layer y = flow_step own (map-Statement Statement Arm Flow ArmFlow (flow own) (arm_flow own) y)

  of_layer : (y : Parts) → Agrees (part_of_layer (layer y)) (flow_of_layer (layer y))
  of_layer (Statement-F.Declare None l v i) = record { starts = λ r k. refl; into = λ r k x h. absurd h; rest = λ r k x h. h; from = λ r k x h. inr h }
  of_layer (Statement-F.Declare (Some id) l v i) = let h = plain id (Act.Begins v i) in record { starts = h.starts; into = h.into; rest = h.rest; from = h.from }
  of_layer (Statement-F.Assign id l a op b) = plain id _
  of_layer (Statement-F.Bump id l a up before) = plain id _
  of_layer (Statement-F.Invoke id l to f args) = given to (Call id to f args) _ (calls id to f args)
  of_layer (Statement-F.Fetch id l to) = given to (Plain id (Act.Fetches to)) _ (plain id (Act.Fetches to))
  of_layer (Statement-F.Write id l a) = plain id _
  of_layer (Statement-F.Print id l format args) = plain id _
  of_layer (Statement-F.Heap id l to cast n) = given to (Plain id (Act.Allocates to n)) _ (plain id (Act.Allocates to n))
  of_layer (Statement-F.Release id l a) = plain id _
  of_layer (Statement-F.If id l e a b) = if_agrees id e (block (map part (fsts a))) (block (map part (fsts b))) _ _ (blocks a) (blocks b)
  of_layer (Statement-F.While id l e b) = while_agrees id e (block (map part (fsts b))) _ (blocks b)
  of_layer (Statement-F.Do id l e b) = do_agrees id e (block (map part (fsts b))) _ (blocks b)
  of_layer (Statement-F.For id l None e None b) = for_agrees id e [] (list_of (optional None)) (block (map part (fsts b))) (list_of (optional None)) nothing _ nothing (part_is None None tt) (blocks b) (part_is None None tt)
  of_layer (Statement-F.For id l (Some i) e None b) = for_agrees id e (declared_in (optional (Some (part i.0)))) (list_of (optional (Some (part i.0)))) (block (map part (fsts b))) (list_of (optional None)) (flow own i.0) _ nothing (part_is (Some (part i.0)) (Some (flow own i.0)) i.1) (blocks b) (part_is None None tt)
  of_layer (Statement-F.For id l None e (Some s) b) = for_agrees id e [] (list_of (optional None)) (block (map part (fsts b))) (list_of (optional (Some (part s.0)))) nothing _ (flow own s.0) (part_is None None tt) (blocks b) (part_is (Some (part s.0)) (Some (flow own s.0)) s.1)
  of_layer (Statement-F.For id l (Some i) e (Some s) b) = for_agrees id e (declared_in (optional (Some (part i.0)))) (list_of (optional (Some (part i.0)))) (block (map part (fsts b))) (list_of (optional (Some (part s.0)))) (flow own i.0) _ (flow own s.0) (part_is (Some (part i.0)) (Some (flow own i.0)) i.1) (blocks b) (part_is (Some (part s.0)) (Some (flow own s.0)) s.1)
  of_layer (Statement-F.Switch id l e arms) = switch_agrees id e (map arm_part (map (λ y. y.0) arms)) (map (arm_flow own) (map (λ y. y.0) arms)) (are_arms arms)
  of_layer (Statement-F.Block l b) =
      let c = block (map part (fsts b)) in
      let is = blocks b in
      let f = in_order (map (flow own) (fsts b)) in
      record {
        starts = λ r k. start-seq at c r k ∙ is.starts (start at r k);
        into = λ r k x h. seq-first at c r k x.from (Some x.to) (is.into (start at r k) x h);
        rest = λ r k x h. seq-second at c r k x.from (Some x.to) h;
        from = λ r k x h. elim (Follows-seq at c r k x.from (Some x.to) h) [
          | inl t ↦ inl (is.from (start at r k) x t)
          | inr t ↦ inr t
        ];
      }
  of_layer (Statement-F.Return id l a) = plain id _

  of_arm_layer : (y : ArmParts) → ArmAgrees (arm_step (map-Arm Statement Arm StatementPart ArmPart part arm_part (arm_layer y))) (w.arm_step own (map-Arm Statement Arm Flow ArmFlow (flow own) (arm_flow own) (arm_layer y)))
  of_arm_layer y = record { labels = refl; is = blocks y.body }

  rolled : (y : Statement-F Statement Arm) → Agrees (part_of_layer y) (flow_of_layer y) → Of (roll-Statement y)
  rolled y h =
      subst (λ p. Agrees p (flow own (roll-Statement y))) (sym (fold-roll-Statement StatementPart ArmPart part_step arm_step y)) (subst (λ f. Agrees (part_of_layer y) f) (sym (fold-roll-Statement Flow ArmFlow (flow_step own) (w.arm_step own) y)) h)

  rolled_arm : (y : Arm-F Statement Arm) → ArmAgrees (arm_step (map-Arm Statement Arm StatementPart ArmPart part arm_part y)) (w.arm_step own (map-Arm Statement Arm Flow ArmFlow (flow own) (arm_flow own) y)) → OfArm (roll-Arm y)
  rolled_arm y h =
      subst (λ p. ArmAgrees p (arm_flow own (roll-Arm y))) (sym (fold-roll-Arm StatementPart ArmPart part_step arm_step y)) (subst (λ f. ArmAgrees (arm_step (map-Arm Statement Arm StatementPart ArmPart part arm_part y)) f) (sym (fold-roll-Arm Flow ArmFlow (flow_step own) (w.arm_step own) y)) h)

  pub of_statement : (s : Statement) → Of s
  of_statement =
      ind-Statement Of OfArm (λ x y is. subst (λ z. Of (roll-Statement z)) is (rolled (layer y) (of_layer y))) (λ x y is. subst (λ z. OfArm (roll-Arm z)) is (rolled_arm (arm_layer y) (of_arm_layer y)))

  -- a list of statements
  pub code_is : (ss : List Statement) → Is (code ss) (flows own ss)
  code_is [] = record { starts = λ k. refl; into = λ k x h. absurd h; from = λ k x h. absurd h }
  code_is (s ∷ ss) =
      let one = of_statement s in
      let more = code_is ss in
      record {
        starts = λ k. one.starts (code ss) k ∙ ap (flow own s).start (more.starts k);
        into = λ k x h. elim (in_either ((flows own ss).pairs k) ((flow own s).pairs ((flows own ss).start k)) x h) [
          | inl t ↦ one.rest (code ss) k x (more.into k x t)
          | inr t ↦ one.into (code ss) k x (subst (λ y. IsIn ((flow own s).pairs y) x) (sym (more.starts k)) t)
        ];
        from = λ k x h. elim (one.from (code ss) k x h) [
          | inl t ↦ in_second ((flows own ss).pairs k) ((flow own s).pairs ((flows own ss).start k)) x (subst (λ y. IsIn ((flow own s).pairs y) x) (more.starts k) t)
          | inr t ↦ in_first ((flows own ss).pairs k) ((flow own s).pairs ((flows own ss).start k)) x (more.from k x t)
        ];
      }
