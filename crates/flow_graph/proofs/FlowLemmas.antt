-- What the walk is at each form of statement.
use Rattle.std.proofs.Common.{◌≡◌, ℕ, List, [], ◌∷◌, ◌++◌, map, Option, Some, None, Bool, refl, sym, ap, ◌∙◌}
use Rattle.std.specs.Prelude.{if◌then◌else◌, ◌||◌}
use Rattle.c_arith.specs.declared.operators.BinaryOp.{BinaryOp}
use Rattle.c_tree.specs.declared.types.CType.{CType}
use Rattle.c_tree.specs.declared.expr.Expr.{Expr}
use Rattle.c_tree.specs.declared.program.Init.{Init}
use Rattle.c_tree.specs.declared.statement.Amount.{Amount}
use Rattle.c_tree.specs.declared.statement.Label.{Label}
use Rattle.c_tree.specs.declared.statement.Target.{Target}
use Rattle.c_tree.specs.declared.statement.Statement.{Statement, fold-roll-Statement}
use Rattle.c_tree.specs.declared.statement.Statement.TheOpen.{Statement-F}
use Rattle.c_tree.specs.declared.statement.Statement.TheVariants as s
use Rattle.c_tree.specs.declared.statement.Arm.{Arm, fold-roll-Arm}
use Rattle.c_language.specs.Code.{has_default}
use Rattle.dep_model.specs.Follows.{enters}
use Rattle.dep_model.specs.SwitchArms.{has_first, with_labels, taken, taken_from}
use Rattle.flow_graph.specs.Walk.{Flow, ArmFlow, nothing, simple, in_order, led_to, all_taken, any_default, past, forked, looped, declared, flow_step, arm_step, flow, arm_flow, flows, flow_part, if_taken, arm_flows, some_default}

module _ (own : ℕ → List ℕ) where
  pub all-flows : (b : List Statement) → in_order (map (flow own) b) ≡ flows own b
  all-flows [] = refl
  all-flows (x ∷ b) = ap (λ (f : Flow). record { start = λ (k : Option ℕ). (flow own x).start (f.start k); pairs = λ (k : Option ℕ). f.pairs k ++ (flow own x).pairs (f.start k) }) (all-flows b)

  pub arm_is : (a : Arm) → arm_flow own a ≡ record { labels = a.labels; flow = flows own a.body }
  arm_is a = fold-roll-Arm Flow ArmFlow (flow_step own) (arm_step own) (record { labels = a.labels; body = a.body }) ∙ ap (λ (f : Flow). record { labels = a.labels; flow = f }) (all-flows a.body)

  pub all-arms : (test : List ℕ) (before : List Label) (as_ : List Arm) (k : Option ℕ) → all_taken test before (map (arm_flow own) as_) k ≡ arm_flows own test (taken_from before as_) as_ k
  all-arms test before [] k = refl
  all-arms test before (a ∷ as_) k =
      ap (λ (w : ArmFlow). (if has_first before w.labels then led_to test w.flow k else []) ++ all_taken test (with_labels before w.labels) (map (arm_flow own) as_) k) (arm_is a) ∙ ap (λ es. if_taken own test (has_first before a.labels) a.body k ++ es) (all-arms test (with_labels before a.labels) as_ k)

  pub all-defaults : (as_ : List Arm) → any_default (map (arm_flow own) as_) ≡ some_default as_
  all-defaults [] = refl
  all-defaults (a ∷ as_) = ap (λ (w : ArmFlow). has_default w.labels || any_default (map (arm_flow own) as_)) (arm_is a) ∙ ap (λ b. has_default a.labels || b) (all-defaults as_)

  pub flow-Declare : (id : Option ℕ) (l x : ℕ) (i : Init) → flow own (s.Declare id l x i) ≡ declared own id
  flow-Declare id l x i =
      ap (flow own) (sym (s.rolls-Declare id l x i)) ∙ fold-roll-Statement Flow ArmFlow (flow_step own) (arm_step own) (Statement-F.Declare id l x i)

  pub flow-Assign : (id l : ℕ) (left : Expr) (op : Option BinaryOp) (right : Expr) → flow own (s.Assign id l left op right) ≡ simple (own id)
  flow-Assign id l left op right =
      ap (flow own) (sym (s.rolls-Assign id l left op right)) ∙ fold-roll-Statement Flow ArmFlow (flow_step own) (arm_step own) (Statement-F.Assign id l left op right)

  pub flow-Bump : (id l : ℕ) (a : Expr) (up before : Bool) → flow own (s.Bump id l a up before) ≡ simple (own id)
  flow-Bump id l a up before =
      ap (flow own) (sym (s.rolls-Bump id l a up before)) ∙ fold-roll-Statement Flow ArmFlow (flow_step own) (arm_step own) (Statement-F.Bump id l a up before)

  pub flow-Invoke : (id l : ℕ) (to : Target) (f : ℕ) (args : List Expr) → flow own (s.Invoke id l to f args) ≡ simple (own id)
  flow-Invoke id l to f args =
      ap (flow own) (sym (s.rolls-Invoke id l to f args)) ∙ fold-roll-Statement Flow ArmFlow (flow_step own) (arm_step own) (Statement-F.Invoke id l to f args)

  pub flow-Fetch : (id l : ℕ) (to : Target) → flow own (s.Fetch id l to) ≡ simple (own id)
  flow-Fetch id l to =
      ap (flow own) (sym (s.rolls-Fetch id l to)) ∙ fold-roll-Statement Flow ArmFlow (flow_step own) (arm_step own) (Statement-F.Fetch id l to)

  pub flow-Write : (id l : ℕ) (e : Expr) → flow own (s.Write id l e) ≡ simple (own id)
  flow-Write id l e =
      ap (flow own) (sym (s.rolls-Write id l e)) ∙ fold-roll-Statement Flow ArmFlow (flow_step own) (arm_step own) (Statement-F.Write id l e)

  pub flow-Print : (id l : ℕ) (format : List ℕ) (args : List Expr) → flow own (s.Print id l format args) ≡ simple (own id)
  flow-Print id l format args =
      ap (flow own) (sym (s.rolls-Print id l format args)) ∙ fold-roll-Statement Flow ArmFlow (flow_step own) (arm_step own) (Statement-F.Print id l format args)

  pub flow-Heap : (id l : ℕ) (to : Target) (cast : Option CType) (n : Amount) → flow own (s.Heap id l to cast n) ≡ simple (own id)
  flow-Heap id l to cast n =
      ap (flow own) (sym (s.rolls-Heap id l to cast n)) ∙ fold-roll-Statement Flow ArmFlow (flow_step own) (arm_step own) (Statement-F.Heap id l to cast n)

  pub flow-Release : (id l : ℕ) (e : Expr) → flow own (s.Release id l e) ≡ simple (own id)
  flow-Release id l e =
      ap (flow own) (sym (s.rolls-Release id l e)) ∙ fold-roll-Statement Flow ArmFlow (flow_step own) (arm_step own) (Statement-F.Release id l e)

  pub flow-Return : (id l : ℕ) (e : Option Expr) → flow own (s.Return id l e) ≡ simple (own id)
  flow-Return id l e =
      ap (flow own) (sym (s.rolls-Return id l e)) ∙ fold-roll-Statement Flow ArmFlow (flow_step own) (arm_step own) (Statement-F.Return id l e)

  pub flow-Block : (l : ℕ) (b : List Statement) → flow own (s.Block l b) ≡ flows own b
  flow-Block l b =
      ap (flow own) (sym (s.rolls-Block l b)) ∙ fold-roll-Statement Flow ArmFlow (flow_step own) (arm_step own) (Statement-F.Block l b) ∙ all-flows b

  pub flow-If : (id l : ℕ) (e : Expr) (a b : List Statement) → flow own (s.If id l e a b) ≡ forked (own id) (flows own a) (flows own b)
  flow-If id l e a b =
      ap (flow own) (sym (s.rolls-If id l e a b)) ∙ fold-roll-Statement Flow ArmFlow (flow_step own) (arm_step own) (Statement-F.If id l e a b) ∙ (ap (λ f. forked (own id) f (in_order (map (flow own) b))) (all-flows a) ∙ ap (forked (own id) (flows own a)) (all-flows b))

  abbrev pub while_flow : List ℕ → Flow → Flow
  while_flow test b = record { start = enters test; pairs = looped test b nothing }

  abbrev pub do_flow : List ℕ → Flow → Flow
  do_flow test b = record { start = λ (k : Option ℕ). b.start (enters test k); pairs = looped test b nothing }

  abbrev pub for_flow : List ℕ → Flow → Flow → Flow → Flow
  for_flow test i s b = record { start = λ (k : Option ℕ). i.start (enters test k); pairs = λ (k : Option ℕ). looped test b s k ++ i.pairs (enters test k) }

  abbrev pub switch_flow : List ℕ → List Arm → Flow
  switch_flow test list = record { start = enters test; pairs = λ (k : Option ℕ). arm_flows own test (taken list) list k ++ past test (some_default list) k }

  pub flow-While : (id l : ℕ) (e : Expr) (b : List Statement) → flow own (s.While id l e b) ≡ while_flow (own id) (flows own b)
  flow-While id l e b =
      ap (flow own) (sym (s.rolls-While id l e b)) ∙ fold-roll-Statement Flow ArmFlow (flow_step own) (arm_step own) (Statement-F.While id l e b) ∙ ap (while_flow (own id)) (all-flows b)

  pub flow-Do : (id l : ℕ) (e : Expr) (b : List Statement) → flow own (s.Do id l e b) ≡ do_flow (own id) (flows own b)
  flow-Do id l e b =
      ap (flow own) (sym (s.rolls-Do id l e b)) ∙ fold-roll-Statement Flow ArmFlow (flow_step own) (arm_step own) (Statement-F.Do id l e b) ∙ ap (do_flow (own id)) (all-flows b)

  pub switch-pairs : (id l : ℕ) (e : Expr) (list : List Arm) (k : Option ℕ) → (flow own (s.Switch id l e list)).pairs k ≡ arm_flows own (own id) (taken list) list k ++ past (own id) (some_default list) k
  switch-pairs id l e list k =
      ap (λ (f : Flow). f.pairs k) (ap (flow own) (sym (s.rolls-Switch id l e list)) ∙ fold-roll-Statement Flow ArmFlow (flow_step own) (arm_step own) (Statement-F.Switch id l e list))
      ∙ (ap (λ es. es ++ past (own id) (any_default (map (arm_flow own) list)) k) (all-arms (own id) [] list k) ∙ ap (λ d. arm_flows own (own id) (taken list) list k ++ past (own id) d k) (all-defaults list))

  pub switch-start : (id l : ℕ) (e : Expr) (list : List Arm) (k : Option ℕ) → (flow own (s.Switch id l e list)).start k ≡ enters (own id) k
  switch-start id l e list k =
      ap (λ (f : Flow). f.start k) (ap (flow own) (sym (s.rolls-Switch id l e list)) ∙ fold-roll-Statement Flow ArmFlow (flow_step own) (arm_step own) (Statement-F.Switch id l e list))

  pub flow-For : (id l : ℕ) (i : Option Statement) (e : Expr) (step : Option Statement) (b : List Statement) → flow own (s.For id l i e step b) ≡ for_flow (own id) (flow_part own i) (flow_part own step) (flows own b)
  flow-For id l None e None b =
      ap (flow own) (sym (s.rolls-For id l None e None b)) ∙ fold-roll-Statement Flow ArmFlow (flow_step own) (arm_step own) (Statement-F.For id l None e None b) ∙ ap (for_flow (own id) nothing nothing) (all-flows b)
  flow-For id l None e (Some x) b =
      ap (flow own) (sym (s.rolls-For id l None e (Some x) b)) ∙ fold-roll-Statement Flow ArmFlow (flow_step own) (arm_step own) (Statement-F.For id l None e (Some x) b) ∙ ap (for_flow (own id) nothing (flow own x)) (all-flows b)
  flow-For id l (Some y) e None b =
      ap (flow own) (sym (s.rolls-For id l (Some y) e None b)) ∙ fold-roll-Statement Flow ArmFlow (flow_step own) (arm_step own) (Statement-F.For id l (Some y) e None b) ∙ ap (for_flow (own id) (flow own y) nothing) (all-flows b)
  flow-For id l (Some y) e (Some x) b =
      ap (flow own) (sym (s.rolls-For id l (Some y) e (Some x) b)) ∙ fold-roll-Statement Flow ArmFlow (flow_step own) (arm_step own) (Statement-F.For id l (Some y) e (Some x) b) ∙ ap (for_flow (own id) (flow own y) (flow own x)) (all-flows b)
