-- What the layout makes of each form of statement of a text, and what it keeps of it, as equations.
use Rattle.std.proofs.Common.{◌≡◌, ℕ, Bool, List, map, Option, Some, None, sym, ap, ◌∙◌}
use Rattle.std.specs.Option.{option_map}
use Rattle.c_arith.specs.declared.operators.BinaryOp.{BinaryOp}
use Rattle.c_tree.specs.declared.raw.expr.RawExpr.{RawExpr}
use Rattle.c_tree.specs.declared.raw.statement.RawTypeName.{RawTypeName}
use Rattle.c_tree.specs.declared.raw.expr.RawVar.{RawVar}
use Rattle.c_tree.specs.declared.raw.program.RawInit.{RawInit}
use Rattle.c_tree.specs.declared.raw.statement.RawTarget.{RawTarget}
use Rattle.c_tree.specs.declared.raw.statement.RawArg.{RawArg}
use Rattle.c_tree.specs.declared.raw.statement.RawAmount.{RawAmount}
use Rattle.c_tree.specs.declared.raw.statement.RawLabel.{RawLabel}
use Rattle.c_tree.specs.declared.raw.statement.RawStatement.{RawStatement, fold-roll-RawStatement}
use Rattle.c_tree.specs.declared.raw.statement.RawStatement.TheOpen.{RawStatement-F}
use Rattle.c_tree.specs.declared.raw.statement.RawStatement.TheVariants as s
use Rattle.c_tree.specs.declared.raw.statement.RawArm.{RawArm, roll-RawArm, fold-RawArm, fold-roll-RawArm}
use Rattle.c_language.specs.Words.{Bytes}
use Rattle.c_language.specs.Layout.{Laid}
use Rattle.c_language.specs.DeclaredTypes.{item_count}
use Rattle.c_text_layout.specs.RawLayout.{raw_statement_step, raw_arm_step, raw_laid}
use Rattle.c_text_layout.specs.Settled.{settled_var, settled_step, settled_arm_step, settled}

-- an arm: its lines at each level
abbrev pub raw_arm_laid : RawArm → ℕ → Bytes
raw_arm_laid = fold-RawArm Laid (ℕ → Bytes) raw_statement_step raw_arm_step

-- what the layout keeps of an arm
abbrev pub settled_arm : RawArm → RawArm
settled_arm = fold-RawArm RawStatement RawArm settled_step settled_arm_step

pub raw_laid-Declare : (l : ℕ) (v : RawVar) (i : RawInit) → raw_laid (s.Declare l v i) ≡ raw_statement_step (RawStatement-F.Declare l v i)
raw_laid-Declare l v i = ap raw_laid (sym (s.rolls-Declare l v i)) ∙ fold-roll-RawStatement Laid (ℕ → Bytes) raw_statement_step raw_arm_step (RawStatement-F.Declare l v i)

pub raw_laid-Assign : (l : ℕ) (a : RawExpr) (op : Option BinaryOp) (b : RawExpr) → raw_laid (s.Assign l a op b) ≡ raw_statement_step (RawStatement-F.Assign l a op b)
raw_laid-Assign l a op b = ap raw_laid (sym (s.rolls-Assign l a op b)) ∙ fold-roll-RawStatement Laid (ℕ → Bytes) raw_statement_step raw_arm_step (RawStatement-F.Assign l a op b)

pub raw_laid-Bump : (l : ℕ) (a : RawExpr) (up before : Bool) → raw_laid (s.Bump l a up before) ≡ raw_statement_step (RawStatement-F.Bump l a up before)
raw_laid-Bump l a up before = ap raw_laid (sym (s.rolls-Bump l a up before)) ∙ fold-roll-RawStatement Laid (ℕ → Bytes) raw_statement_step raw_arm_step (RawStatement-F.Bump l a up before)

pub raw_laid-Call : (l : ℕ) (to : RawTarget) (f : Bytes) (args : List RawArg) → raw_laid (s.Call l to f args) ≡ raw_statement_step (RawStatement-F.Call l to f args)
raw_laid-Call l to f args = ap raw_laid (sym (s.rolls-Call l to f args)) ∙ fold-roll-RawStatement Laid (ℕ → Bytes) raw_statement_step raw_arm_step (RawStatement-F.Call l to f args)

pub raw_laid-Heap : (l : ℕ) (to : RawTarget) (t : Option RawTypeName) (n : RawAmount) → raw_laid (s.Heap l to t n) ≡ raw_statement_step (RawStatement-F.Heap l to t n)
raw_laid-Heap l to t n = ap raw_laid (sym (s.rolls-Heap l to t n)) ∙ fold-roll-RawStatement Laid (ℕ → Bytes) raw_statement_step raw_arm_step (RawStatement-F.Heap l to t n)

pub raw_laid-If : (l : ℕ) (a : RawExpr) (body other : List RawStatement) → raw_laid (s.If l a body other) ≡ raw_statement_step (RawStatement-F.If l a (map raw_laid body) (map raw_laid other))
raw_laid-If l a body other = ap raw_laid (sym (s.rolls-If l a body other)) ∙ fold-roll-RawStatement Laid (ℕ → Bytes) raw_statement_step raw_arm_step (RawStatement-F.If l a body other)

pub raw_laid-While : (l : ℕ) (a : RawExpr) (b : List RawStatement) → raw_laid (s.While l a b) ≡ raw_statement_step (RawStatement-F.While l a (map raw_laid b))
raw_laid-While l a b = ap raw_laid (sym (s.rolls-While l a b)) ∙ fold-roll-RawStatement Laid (ℕ → Bytes) raw_statement_step raw_arm_step (RawStatement-F.While l a b)

pub raw_laid-Do : (l : ℕ) (a : RawExpr) (b : List RawStatement) → raw_laid (s.Do l a b) ≡ raw_statement_step (RawStatement-F.Do l a (map raw_laid b))
raw_laid-Do l a b = ap raw_laid (sym (s.rolls-Do l a b)) ∙ fold-roll-RawStatement Laid (ℕ → Bytes) raw_statement_step raw_arm_step (RawStatement-F.Do l a b)

pub raw_laid-For : (l : ℕ) (i : Option RawStatement) (a : RawExpr) (step : Option RawStatement) (b : List RawStatement) → raw_laid (s.For l i a step b) ≡ raw_statement_step (RawStatement-F.For l (option_map raw_laid i) a (option_map raw_laid step) (map raw_laid b))
raw_laid-For l None a None b = ap raw_laid (sym (s.rolls-For l None a None b)) ∙ fold-roll-RawStatement Laid (ℕ → Bytes) raw_statement_step raw_arm_step (RawStatement-F.For l None a None b)
raw_laid-For l None a (Some step) b = ap raw_laid (sym (s.rolls-For l None a (Some step) b)) ∙ fold-roll-RawStatement Laid (ℕ → Bytes) raw_statement_step raw_arm_step (RawStatement-F.For l None a (Some step) b)
raw_laid-For l (Some i) a None b = ap raw_laid (sym (s.rolls-For l (Some i) a None b)) ∙ fold-roll-RawStatement Laid (ℕ → Bytes) raw_statement_step raw_arm_step (RawStatement-F.For l (Some i) a None b)
raw_laid-For l (Some i) a (Some step) b = ap raw_laid (sym (s.rolls-For l (Some i) a (Some step) b)) ∙ fold-roll-RawStatement Laid (ℕ → Bytes) raw_statement_step raw_arm_step (RawStatement-F.For l (Some i) a (Some step) b)

pub raw_laid-Switch : (l : ℕ) (a : RawExpr) (arms : List RawArm) → raw_laid (s.Switch l a arms) ≡ raw_statement_step (RawStatement-F.Switch l a (map raw_arm_laid arms))
raw_laid-Switch l a arms = ap raw_laid (sym (s.rolls-Switch l a arms)) ∙ fold-roll-RawStatement Laid (ℕ → Bytes) raw_statement_step raw_arm_step (RawStatement-F.Switch l a arms)

pub raw_laid-Block : (l : ℕ) (b : List RawStatement) → raw_laid (s.Block l b) ≡ raw_statement_step (RawStatement-F.Block l (map raw_laid b))
raw_laid-Block l b = ap raw_laid (sym (s.rolls-Block l b)) ∙ fold-roll-RawStatement Laid (ℕ → Bytes) raw_statement_step raw_arm_step (RawStatement-F.Block l b)

pub raw_laid-Return : (l : ℕ) (a : Option RawExpr) → raw_laid (s.Return l a) ≡ raw_statement_step (RawStatement-F.Return l a)
raw_laid-Return l a = ap raw_laid (sym (s.rolls-Return l a)) ∙ fold-roll-RawStatement Laid (ℕ → Bytes) raw_statement_step raw_arm_step (RawStatement-F.Return l a)

pub settled-Declare : (l : ℕ) (v : RawVar) (i : RawInit) → settled (s.Declare l v i) ≡ s.Declare 0 (settled_var (item_count i) v) i
settled-Declare l v i = ap settled (sym (s.rolls-Declare l v i)) ∙ fold-roll-RawStatement RawStatement RawArm settled_step settled_arm_step (RawStatement-F.Declare l v i)

pub settled-Assign : (l : ℕ) (a : RawExpr) (op : Option BinaryOp) (b : RawExpr) → settled (s.Assign l a op b) ≡ s.Assign 0 a op b
settled-Assign l a op b = ap settled (sym (s.rolls-Assign l a op b)) ∙ fold-roll-RawStatement RawStatement RawArm settled_step settled_arm_step (RawStatement-F.Assign l a op b)

pub settled-Bump : (l : ℕ) (a : RawExpr) (up before : Bool) → settled (s.Bump l a up before) ≡ s.Bump 0 a up before
settled-Bump l a up before = ap settled (sym (s.rolls-Bump l a up before)) ∙ fold-roll-RawStatement RawStatement RawArm settled_step settled_arm_step (RawStatement-F.Bump l a up before)

pub settled-Call : (l : ℕ) (to : RawTarget) (f : Bytes) (args : List RawArg) → settled (s.Call l to f args) ≡ s.Call 0 to f args
settled-Call l to f args = ap settled (sym (s.rolls-Call l to f args)) ∙ fold-roll-RawStatement RawStatement RawArm settled_step settled_arm_step (RawStatement-F.Call l to f args)

pub settled-Heap : (l : ℕ) (to : RawTarget) (t : Option RawTypeName) (n : RawAmount) → settled (s.Heap l to t n) ≡ s.Heap 0 to t n
settled-Heap l to t n = ap settled (sym (s.rolls-Heap l to t n)) ∙ fold-roll-RawStatement RawStatement RawArm settled_step settled_arm_step (RawStatement-F.Heap l to t n)

pub settled-If : (l : ℕ) (a : RawExpr) (body other : List RawStatement) → settled (s.If l a body other) ≡ s.If 0 a (map settled body) (map settled other)
settled-If l a body other = ap settled (sym (s.rolls-If l a body other)) ∙ fold-roll-RawStatement RawStatement RawArm settled_step settled_arm_step (RawStatement-F.If l a body other)

pub settled-While : (l : ℕ) (a : RawExpr) (b : List RawStatement) → settled (s.While l a b) ≡ s.While 0 a (map settled b)
settled-While l a b = ap settled (sym (s.rolls-While l a b)) ∙ fold-roll-RawStatement RawStatement RawArm settled_step settled_arm_step (RawStatement-F.While l a b)

pub settled-Do : (l : ℕ) (a : RawExpr) (b : List RawStatement) → settled (s.Do l a b) ≡ s.Do 0 a (map settled b)
settled-Do l a b = ap settled (sym (s.rolls-Do l a b)) ∙ fold-roll-RawStatement RawStatement RawArm settled_step settled_arm_step (RawStatement-F.Do l a b)

pub settled-For : (l : ℕ) (i : Option RawStatement) (a : RawExpr) (step : Option RawStatement) (b : List RawStatement) → settled (s.For l i a step b) ≡ s.For 0 (option_map settled i) a (option_map settled step) (map settled b)
settled-For l None a None b = ap settled (sym (s.rolls-For l None a None b)) ∙ fold-roll-RawStatement RawStatement RawArm settled_step settled_arm_step (RawStatement-F.For l None a None b)
settled-For l None a (Some step) b = ap settled (sym (s.rolls-For l None a (Some step) b)) ∙ fold-roll-RawStatement RawStatement RawArm settled_step settled_arm_step (RawStatement-F.For l None a (Some step) b)
settled-For l (Some i) a None b = ap settled (sym (s.rolls-For l (Some i) a None b)) ∙ fold-roll-RawStatement RawStatement RawArm settled_step settled_arm_step (RawStatement-F.For l (Some i) a None b)
settled-For l (Some i) a (Some step) b = ap settled (sym (s.rolls-For l (Some i) a (Some step) b)) ∙ fold-roll-RawStatement RawStatement RawArm settled_step settled_arm_step (RawStatement-F.For l (Some i) a (Some step) b)

pub settled-Switch : (l : ℕ) (a : RawExpr) (arms : List RawArm) → settled (s.Switch l a arms) ≡ s.Switch 0 a (map settled_arm arms)
settled-Switch l a arms = ap settled (sym (s.rolls-Switch l a arms)) ∙ fold-roll-RawStatement RawStatement RawArm settled_step settled_arm_step (RawStatement-F.Switch l a arms)

pub settled-Block : (l : ℕ) (b : List RawStatement) → settled (s.Block l b) ≡ s.Block 0 (map settled b)
settled-Block l b = ap settled (sym (s.rolls-Block l b)) ∙ fold-roll-RawStatement RawStatement RawArm settled_step settled_arm_step (RawStatement-F.Block l b)

pub settled-Return : (l : ℕ) (a : Option RawExpr) → settled (s.Return l a) ≡ s.Return 0 a
settled-Return l a = ap settled (sym (s.rolls-Return l a)) ∙ fold-roll-RawStatement RawStatement RawArm settled_step settled_arm_step (RawStatement-F.Return l a)

pub raw_arm_laid-roll : (labels : List RawLabel) (b : List RawStatement) → raw_arm_laid (roll-RawArm (record { labels = labels; body = b })) ≡ raw_arm_step (record { labels = labels; body = map raw_laid b })
raw_arm_laid-roll labels b = fold-roll-RawArm Laid (ℕ → Bytes) raw_statement_step raw_arm_step (record { labels = labels; body = b })

pub settled_arm-roll : (labels : List RawLabel) (b : List RawStatement) → settled_arm (roll-RawArm (record { labels = labels; body = b })) ≡ roll-RawArm (record { labels = labels; body = map settled b })
settled_arm-roll labels b = fold-roll-RawArm RawStatement RawArm settled_step settled_arm_step (record { labels = labels; body = b })
