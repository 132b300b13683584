-- What the calls at each form of statement leave.
use Rattle.std.proofs.Common.{◌≡◌, ℕ, List, ◌++◌, Bool, Option, refl, sym, ap, ◌∙◌, ap₂}
use Rattle.c_tree.specs.declared.expr.Expr.{Expr}
use Rattle.c_tree.specs.declared.statement.Arm.{Arm}
use Rattle.c_tree.specs.declared.statement.Statement.{Statement}
use Rattle.c_tree.specs.declared.statement.Statement.TheVariants as s
use Rattle.dep_model.specs.Follows.{enters}
use Rattle.dep_model.specs.SwitchArms.{taken}
use Rattle.dep_model.specs.declared.skeleton.Pair.{Pair}
use Rattle.flow_graph.specs.Walk.{Flow, linked, led_to, past, flow, flows, flow_part, arm_flows, some_default}
use Rattle.flow_graph.proofs.FlowLemmas.{flow-If, flow-While, flow-Do, flow-For, flow-Block, switch-pairs}
use Rattle.dep_model.proofs.Grown.{grown_two, grown_three}

module _ (own : ℕ → List ℕ) (next : Option ℕ) (one : Statement) where
  pub block_form : (l : ℕ) (b b_ : List Statement) (o p : List Pair) → one ≡ s.Block l b → b_ ≡ b → p ≡ o ++ (flows own b_).pairs next → p ≡ o ++ (flow own one).pairs next
  block_form l b b_ o p is e h =
      h ∙ ap (λ y. o ++ (flows own y).pairs next) e ∙ ap (λ (f : Flow). o ++ f.pairs next) (sym (flow-Block own l b)) ∙ ap (λ y. o ++ (flow own y).pairs next) (sym is)

  pub block_start : (l : ℕ) (b b_ : List Statement) (at : Option ℕ) → one ≡ s.Block l b → b_ ≡ b → at ≡ (flows own b_).start next → at ≡ (flow own one).start next
  block_start l b b_ at is e h =
      h ∙ ap (λ y. (flows own y).start next) e ∙ ap (λ (f : Flow). f.start next) (sym (flow-Block own l b)) ∙ ap (λ y. (flow own y).start next) (sym is)

  abbrev led : List ℕ → List Statement → Option ℕ → List Pair
  led t b k = led_to t (flows own b) k

  pub if_form : (id l : ℕ) (e : Expr) (a b a_ b_ : List Statement) (t : List ℕ) (o p q : List Pair) → one ≡ s.If id l e a b → t ≡ own id → a_ ≡ a → b_ ≡ b → p ≡ o ++ led t a_ next → q ≡ p ++ led t b_ next → q ≡ o ++ (flow own one).pairs next
  if_form id l e a b a_ b_ t o p q is ti ea eb h g =
      grown_two o p q (led (own id) a next) (led (own id) b next) ((flow own one).pairs next)
      (h ∙ ap₂ (λ x y. o ++ led x y next) ti ea) (g ∙ ap₂ (λ x y. p ++ led x y next) ti eb)
      (ap (λ y. (flow own y).pairs next) is ∙ ap (λ (f : Flow). f.pairs next) (flow-If own id l e a b))

  pub while_form : (id l : ℕ) (e : Expr) (b b_ : List Statement) (t : List ℕ) (again : Option ℕ) (o p q : List Pair) → one ≡ s.While id l e b → t ≡ own id → b_ ≡ b → again ≡ enters t next → p ≡ o ++ led t b_ again → q ≡ p ++ linked t next → q ≡ o ++ (flow own one).pairs next
  while_form id l e b b_ t again o p q is ti eb en h g =
      let a : again ≡ enters (own id) next = en ∙ ap (λ x. enters x next) ti in
      grown_two o p q (led (own id) b (enters (own id) next)) (linked (own id) next) ((flow own one).pairs next)
      (h ∙ ap₂ (λ x y. o ++ led x y again) ti eb ∙ ap (λ y. o ++ led (own id) b y) a) (g ∙ ap (λ x. p ++ linked x next) ti)
      (ap (λ y. (flow own y).pairs next) is ∙ ap (λ (f : Flow). f.pairs next) (flow-While own id l e b))

  pub do_form : (id l : ℕ) (e : Expr) (b b_ : List Statement) (t : List ℕ) (again : Option ℕ) (o p q : List Pair) → one ≡ s.Do id l e b → t ≡ own id → b_ ≡ b → again ≡ enters t next → p ≡ o ++ led t b_ again → q ≡ p ++ linked t next → q ≡ o ++ (flow own one).pairs next
  do_form id l e b b_ t again o p q is ti eb en h g =
      let a : again ≡ enters (own id) next = en ∙ ap (λ x. enters x next) ti in
      grown_two o p q (led (own id) b (enters (own id) next)) (linked (own id) next) ((flow own one).pairs next)
      (h ∙ ap₂ (λ x y. o ++ led x y again) ti eb ∙ ap (λ y. o ++ led (own id) b y) a) (g ∙ ap (λ x. p ++ linked x next) ti)
      (ap (λ y. (flow own y).pairs next) is ∙ ap (λ (f : Flow). f.pairs next) (flow-Do own id l e b))

  pub do_start : (id l : ℕ) (e : Expr) (b b_ : List Statement) (t : List ℕ) (again at : Option ℕ) → one ≡ s.Do id l e b → t ≡ own id → b_ ≡ b → again ≡ enters t next → at ≡ (flows own b_).start again → at ≡ (flow own one).start next
  do_start id l e b b_ t again at is ti eb en h =
      let a : again ≡ enters (own id) next = en ∙ ap (λ x. enters x next) ti in
      h ∙ ap (λ y. (flows own y).start again) eb ∙ ap (flows own b).start a ∙ sym (ap (λ y. (flow own y).start next) is ∙ ap (λ (f : Flow). f.start next) (flow-Do own id l e b))

  pub for_form : (id l : ℕ) (i : Option Statement) (e : Expr) (step : Option Statement) (b b_ : List Statement) (t : List ℕ) (again after : Option ℕ) (o p q r all : List Pair) → one ≡ s.For id l i e step b → t ≡ own id → b_ ≡ b → again ≡ enters t next → after ≡ (flow_part own step).start again
      → p ≡ o ++ (flow_part own step).pairs again → q ≡ p ++ led t b_ after → r ≡ q ++ linked t next → all ≡ r ++ (flow_part own i).pairs again → all ≡ o ++ (flow own one).pairs next
  for_form id l i e step b b_ t again after o p q r all is ti eb en ea h g k m =
      let a : again ≡ enters (own id) next = en ∙ ap (λ x. enters x next) ti in
      let f : after ≡ (flow_part own step).start (enters (own id) next) = ea ∙ ap (flow_part own step).start a in
      let first = (flow_part own step).pairs (enters (own id) next) in
      let body = led (own id) b ((flow_part own step).start (enters (own id) next)) in
      let last = linked (own id) next in
      let init = (flow_part own i).pairs (enters (own id) next) in
      grown_two o r all (first ++ (body ++ last)) init ((flow own one).pairs next)
      (grown_three o p q r first body last (first ++ (body ++ last)) (h ∙ ap (λ y. o ++ (flow_part own step).pairs y) a) (g ∙ ap₂ (λ x y. p ++ led x y after) ti eb ∙ ap (λ y. p ++ led (own id) b y) f) (k ∙ ap (λ x. q ++ linked x next) ti) refl)
      (m ∙ ap (λ y. r ++ (flow_part own i).pairs y) a)
      (ap (λ y. (flow own y).pairs next) is ∙ ap (λ (f : Flow). f.pairs next) (flow-For own id l i e step b))

  pub switch_form : (id l : ℕ) (e : Expr) (list l1 l2 l3 : List Arm) (t : List ℕ) (flags : List Bool) (has : Bool) (o p q : List Pair) → one ≡ s.Switch id l e list → t ≡ own id → flags ≡ taken l1 → l1 ≡ list → l2 ≡ list → l3 ≡ list → has ≡ some_default l3 → p ≡ o ++ arm_flows own t flags l2 next → q ≡ p ++ past t has next → q ≡ o ++ (flow own one).pairs next
  switch_form id l e list l1 l2 l3 t flags has o p q is ti fl e1 e2 e3 eh h g =
      grown_two o p q (arm_flows own (own id) (taken list) list next) (past (own id) (some_default list) next) ((flow own one).pairs next)
      (h ∙ ap₂ (λ x y. o ++ arm_flows own x flags y next) ti e2 ∙ ap (λ y. o ++ arm_flows own (own id) y list next) (fl ∙ ap taken e1))
      (g ∙ ap₂ (λ x y. p ++ past x y next) ti (eh ∙ ap some_default e3))
      (ap (λ y. (flow own y).pairs next) is ∙ switch-pairs own id l e list next)
