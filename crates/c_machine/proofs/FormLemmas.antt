-- The act of each form of statement, by its number.
use Rattle.std.proofs.Common.{◌≡◌, ℕ, List, [], map, Bool, Option, Some, None, option_map, refl, sym, ap, ◌∙◌}
use Rattle.std.specs.Option.{option_to_list}
use Rattle.c_arith.specs.declared.operators.BinaryOp.{BinaryOp}
use Rattle.c_tree.specs.declared.types.CType.{CType}
use Rattle.c_tree.specs.declared.expr.Expr.{Expr}
use Rattle.c_tree.specs.declared.program.Init.{Init}
use Rattle.c_tree.specs.declared.statement.Amount.{Amount}
use Rattle.c_tree.specs.declared.statement.Arm.{Arm}
use Rattle.c_tree.specs.declared.statement.Target.{Target}
use Rattle.c_tree.specs.declared.statement.Statement.{Statement, out-Statement}
use Rattle.c_tree.specs.declared.statement.Statement.TheOpen.{Statement-F}
use Rattle.c_tree.specs.declared.statement.Statement.TheVariants as s
use Rattle.c_tree.specs.declared.numbered.Start.{Start}
use Rattle.c_tree.specs.Numbered.{layer_start, own_id}
use Rattle.c_tree.proofs.LayerLemmas.{out-Declare, out-Assign, out-Bump, out-Invoke, out-Fetch, out-Write, out-Print, out-Heap, out-Release, out-If, out-While, out-Do, out-For, out-Switch, out-Return}
use Rattle.c_language.specs.Code.{Act, Begins, Sets, Bumps, Fetches, Writes, Prints, Allocates, Frees, Returns, Code, Plain, Fork, Loop, Call, ◌⨟◌, is_true, either, taken_arm}
use Rattle.c_acts.specs.Makings.{own_act}
use Rattle.c_machine.specs.Rests.{list_before, block_before, block_in, arm_part, turn_of, act_of, act_code}
use Rattle.c_machine.proofs.RestLemmas.{block_then, turn_then}

numbered : (x : Statement) (z : Statement-F Statement Arm) (i : ℕ) → out-Statement x ≡ z → own_id x ≡ Some i → option_map (λ (t : Start). t.id) (layer_start z) ≡ Some i
numbered x z i e h = sym (ap (λ (w : Statement-F Statement Arm). option_map (λ (t : Start). t.id) (layer_start w)) e) ∙ h

coded : (x : Statement) (z : Statement-F Statement Arm) (k : Code) → out-Statement x ≡ z → act_code x k ≡ act_of z k
coded x z k e = ap (λ (w : Statement-F Statement Arm). act_of w k) e

-- ---- tests

pub if_code : (x : Statement) (i id l : ℕ) (e : Expr) (a b : List Statement) (k : Code) → x ≡ s.If id l e a b → own_id x ≡ Some i → act_code x k ≡ Fork i e (λ v. either (is_true v) (block_in a) (block_in b)) k
if_code x i id l e a b k is h =
    let z : Statement-F Statement Arm = Statement-F.If id l e a b in
    let o : out-Statement x ≡ z = ap out-Statement is ∙ out-If id l e a b in
    let f : ◌≡◌ {A = Option ℕ} (Some id) (Some i) = numbered x z i o h in
    let same : id ≡ i = cc in
    coded x z k o ∙ ap (λ (j : ℕ). Fork j e (λ v. either (is_true v) (block_in a) (block_in b)) k) same

pub switch_code : (x : Statement) (i id l : ℕ) (e : Expr) (arms : List Arm) (k : Code) → x ≡ s.Switch id l e arms → own_id x ≡ Some i → act_code x k ≡ Fork i e (taken_arm (map arm_part arms)) k
switch_code x i id l e arms k is h =
    let z : Statement-F Statement Arm = Statement-F.Switch id l e arms in
    let o : out-Statement x ≡ z = ap out-Statement is ∙ out-Switch id l e arms in
    let f : ◌≡◌ {A = Option ℕ} (Some id) (Some i) = numbered x z i o h in
    let same : id ≡ i = cc in
    coded x z k o ∙ ap (λ (j : ℕ). Fork j e (taken_arm (map arm_part arms)) k) same

pub while_code : (x : Statement) (i id l : ℕ) (e : Expr) (b : List Statement) (k : Code) → x ≡ s.While id l e b → own_id x ≡ Some i → act_code x k ≡ Loop i e (block_in b) k
while_code x i id l e b k is h =
    let z : Statement-F Statement Arm = Statement-F.While id l e b in
    let o : out-Statement x ≡ z = ap out-Statement is ∙ out-While id l e b in
    let f : ◌≡◌ {A = Option ℕ} (Some id) (Some i) = numbered x z i o h in
    let same : id ≡ i = cc in
    coded x z k o ∙ ap (λ (j : ℕ). Loop j e (block_in b) k) same

pub do_code : (x : Statement) (i id l : ℕ) (e : Expr) (b : List Statement) (k : Code) → x ≡ s.Do id l e b → own_id x ≡ Some i → act_code x k ≡ Loop i e (block_in b) k
do_code x i id l e b k is h =
    let z : Statement-F Statement Arm = Statement-F.Do id l e b in
    let o : out-Statement x ≡ z = ap out-Statement is ∙ out-Do id l e b in
    let f : ◌≡◌ {A = Option ℕ} (Some id) (Some i) = numbered x z i o h in
    let same : id ≡ i = cc in
    coded x z k o ∙ ap (λ (j : ℕ). Loop j e (block_in b) k) same

pub for_code : (x : Statement) (i id l : ℕ) (e : Expr) (begun step : Option Statement) (b : List Statement) (k : Code) → x ≡ s.For id l begun e step b → own_id x ≡ Some i → act_code x k ≡ Loop i e (turn_of b step) k
for_code x i id l e begun step b k is h =
    let z : Statement-F Statement Arm = Statement-F.For id l begun e step b in
    let o : out-Statement x ≡ z = ap out-Statement is ∙ out-For id l begun e step b in
    let f : ◌≡◌ {A = Option ℕ} (Some id) (Some i) = numbered x z i o h in
    let same : id ≡ i = cc in
    coded x z k o ∙ ap (λ (j : ℕ). Loop j e (turn_of b step) k) same

-- a turn of a loop without a step
pub turn_alone : (b ss : List Statement) (k : Code) → ss ≡ [] → block_in b ⨟ k ≡ block_before b (list_before ss k)
turn_alone b ss k e = block_then b k ∙ ap (λ (ts : List Statement). block_before b (list_before ts k)) (sym e)

pub turn_stepped : (b ss : List Statement) (step : Option Statement) (k : Code) → ss ≡ option_to_list step → turn_of b step ⨟ k ≡ block_before b (list_before ss k)
turn_stepped b ss step k e = turn_then b (option_to_list step) k ∙ ap (λ (ts : List Statement). block_before b (list_before ts k)) (sym e)

pub call_code : (x : Statement) (i id l : ℕ) (to : Target) (g : ℕ) (args : List Expr) (k : Code) → x ≡ s.Invoke id l to g args → own_id x ≡ Some i → act_code x k ≡ Call i to g args k
call_code x i id l to g args k is h =
    let z : Statement-F Statement Arm = Statement-F.Invoke id l to g args in
    let o : out-Statement x ≡ z = ap out-Statement is ∙ out-Invoke id l to g args in
    let f : ◌≡◌ {A = Option ℕ} (Some id) (Some i) = numbered x z i o h in
    let same : id ≡ i = cc in
    coded x z k o ∙ ap (λ (j : ℕ). Call j to g args k) same

-- ---- acts that go on with what comes after them

-- a statement has this act, and goes on with what comes after it
pub record IsPlain (x : Statement) (i : ℕ) (a : Act) : Type 0 where
  pub act : own_act (out-Statement x) ≡ Some a
  pub code : (k : Code) → act_code x k ≡ Plain i a k

plain_at : (x : Statement) (z : Statement-F Statement Arm) (i id : ℕ) (a : Act) → out-Statement x ≡ z → own_act z ≡ Some a → id ≡ i → ((k : Code) → act_of z k ≡ Plain id a k) → IsPlain x i a
plain_at x z i id a o act same is =
    record { act = ap own_act o ∙ act; code = λ k. coded x z k o ∙ is k ∙ ap (λ (j : ℕ). Plain j a k) same }

pub declare_plain : (x : Statement) (i : ℕ) (id : Option ℕ) (l y : ℕ) (init : Init) → x ≡ s.Declare id l y init → own_id x ≡ Some i → IsPlain x i (Begins y init)
declare_plain x i None l y init is h =
    let f : ◌≡◌ {A = Option ℕ} None (Some i) = numbered x (Statement-F.Declare None l y init) i (ap out-Statement is ∙ out-Declare None l y init) h in
    absurd (no_number f)
  where
    no_number : {j : ℕ} → ◌≡◌ {A = Option ℕ} None (Some j) → ⊥
    no_number e = cc
declare_plain x i (Some id) l y init is h =
    let z : Statement-F Statement Arm = Statement-F.Declare (Some id) l y init in
    let o : out-Statement x ≡ z = ap out-Statement is ∙ out-Declare (Some id) l y init in
    let f : ◌≡◌ {A = Option ℕ} (Some id) (Some i) = numbered x z i o h in
    let same : id ≡ i = cc in
    plain_at x z i id (Begins y init) o refl same (λ k. refl)

pub assign_plain : (x : Statement) (i id l : ℕ) (a : Expr) (op : Option BinaryOp) (b : Expr) → x ≡ s.Assign id l a op b → own_id x ≡ Some i → IsPlain x i (Sets a op b)
assign_plain x i id l a op b is h =
    let z : Statement-F Statement Arm = Statement-F.Assign id l a op b in
    let o : out-Statement x ≡ z = ap out-Statement is ∙ out-Assign id l a op b in
    let f : ◌≡◌ {A = Option ℕ} (Some id) (Some i) = numbered x z i o h in
    let same : id ≡ i = cc in
    plain_at x z i id (Sets a op b) o refl same (λ k. refl)

pub bump_plain : (x : Statement) (i id l : ℕ) (a : Expr) (up before : Bool) → x ≡ s.Bump id l a up before → own_id x ≡ Some i → IsPlain x i (Bumps a up)
bump_plain x i id l a up before is h =
    let z : Statement-F Statement Arm = Statement-F.Bump id l a up before in
    let o : out-Statement x ≡ z = ap out-Statement is ∙ out-Bump id l a up before in
    let f : ◌≡◌ {A = Option ℕ} (Some id) (Some i) = numbered x z i o h in
    let same : id ≡ i = cc in
    plain_at x z i id (Bumps a up) o refl same (λ k. refl)

pub fetch_plain : (x : Statement) (i id l : ℕ) (to : Target) → x ≡ s.Fetch id l to → own_id x ≡ Some i → IsPlain x i (Fetches to)
fetch_plain x i id l to is h =
    let z : Statement-F Statement Arm = Statement-F.Fetch id l to in
    let o : out-Statement x ≡ z = ap out-Statement is ∙ out-Fetch id l to in
    let f : ◌≡◌ {A = Option ℕ} (Some id) (Some i) = numbered x z i o h in
    let same : id ≡ i = cc in
    plain_at x z i id (Fetches to) o refl same (λ k. refl)

pub write_plain : (x : Statement) (i id l : ℕ) (e : Expr) → x ≡ s.Write id l e → own_id x ≡ Some i → IsPlain x i (Writes e)
write_plain x i id l e is h =
    let z : Statement-F Statement Arm = Statement-F.Write id l e in
    let o : out-Statement x ≡ z = ap out-Statement is ∙ out-Write id l e in
    let f : ◌≡◌ {A = Option ℕ} (Some id) (Some i) = numbered x z i o h in
    let same : id ≡ i = cc in
    plain_at x z i id (Writes e) o refl same (λ k. refl)

pub print_plain : (x : Statement) (i id l : ℕ) (format : List ℕ) (args : List Expr) → x ≡ s.Print id l format args → own_id x ≡ Some i → IsPlain x i (Prints format args)
print_plain x i id l format args is h =
    let z : Statement-F Statement Arm = Statement-F.Print id l format args in
    let o : out-Statement x ≡ z = ap out-Statement is ∙ out-Print id l format args in
    let f : ◌≡◌ {A = Option ℕ} (Some id) (Some i) = numbered x z i o h in
    let same : id ≡ i = cc in
    plain_at x z i id (Prints format args) o refl same (λ k. refl)

pub heap_plain : (x : Statement) (i id l : ℕ) (to : Target) (cast : Option CType) (n : Amount) → x ≡ s.Heap id l to cast n → own_id x ≡ Some i → IsPlain x i (Allocates to n)
heap_plain x i id l to cast n is h =
    let z : Statement-F Statement Arm = Statement-F.Heap id l to cast n in
    let o : out-Statement x ≡ z = ap out-Statement is ∙ out-Heap id l to cast n in
    let f : ◌≡◌ {A = Option ℕ} (Some id) (Some i) = numbered x z i o h in
    let same : id ≡ i = cc in
    plain_at x z i id (Allocates to n) o refl same (λ k. refl)

pub release_plain : (x : Statement) (i id l : ℕ) (e : Expr) → x ≡ s.Release id l e → own_id x ≡ Some i → IsPlain x i (Frees e)
release_plain x i id l e is h =
    let z : Statement-F Statement Arm = Statement-F.Release id l e in
    let o : out-Statement x ≡ z = ap out-Statement is ∙ out-Release id l e in
    let f : ◌≡◌ {A = Option ℕ} (Some id) (Some i) = numbered x z i o h in
    let same : id ≡ i = cc in
    plain_at x z i id (Frees e) o refl same (λ k. refl)

pub return_plain : (x : Statement) (i id l : ℕ) (e : Option Expr) → x ≡ s.Return id l e → own_id x ≡ Some i → IsPlain x i (Returns e)
return_plain x i id l e is h =
    let z : Statement-F Statement Arm = Statement-F.Return id l e in
    let o : out-Statement x ≡ z = ap out-Statement is ∙ out-Return id l e in
    let f : ◌≡◌ {A = Option ℕ} (Some id) (Some i) = numbered x z i o h in
    let same : id ≡ i = cc in
    plain_at x z i id (Returns e) o refl same (λ k. refl)
