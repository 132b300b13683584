-- The judgement of an expression: what it is as an operand, or the number of a rule that is broken in it.
use Rattle.std.specs.Prelude.{◌≡◌, ◌<◌, nat_lt, is_some, ℕ, Bool, true, false, if◌then◌else◌, Option, Some, None, Result, Ok, Err}
use Rattle.c_tree.specs.declared.raw.expr.RawExpr.{RawExpr, fold-RawExpr}
use Rattle.c_tree.specs.declared.raw.expr.RawExpr.TheOpen.{RawExpr-F}
use Rattle.c_tree.specs.declared.raw.program.RawProgram.{RawProgram}
use Rattle.c_language.specs.Scopes.{Scope}
use Rattle.c_language.specs.Words.{Bytes}
use Rattle.c_language.specs.ExprTypes.{operand_step, a_place, struct_of, member_of, member_type}
use Rattle.c_language.specs.declared.expr_type.ExprType.{ExprType}
use Rattle.c_language.specs.ExprRules.{Seen, is_undeclared, lacks_header, needs_struct, selects_missing, has_bad_operand, has_no_address}
use Rattle.c_language.specs.declared.expr_type.Operand.{Operand}
use Rattle.c_types_base.specs.declared.fault.Fault.{Fault}
use Rattle.c_types_base.specs.declared.fault.Fault.TheVariants.{Rule, NoMemory}

-- the number of the first rule that the outermost form breaks
abbrev pub first_fault : RawProgram → Scope → Seen → Option ℕ
first_fault raw scope s =
    if is_undeclared scope s then Some 1
    else (if lacks_header raw s then Some 24
    else (if has_bad_operand scope s then Some 12
    else (if has_no_address s then Some 15
    else (if needs_struct scope s then Some 7
    else (if selects_missing raw s then Some 8
    else None)))))

-- a fault, or else what there is; 0 stands for what a declaration elsewhere breaks
abbrev pub fault_or : Option ℕ → Option Operand → Result Operand ℕ
fault_or (Some n) x = Err n
fault_or None None = Err 0
fault_or None (Some x) = Ok x

abbrev pub judge_seen : RawProgram → Scope → Seen → Result Operand ℕ
judge_seen raw scope s = fault_or (first_fault raw scope s) (operand_step raw scope s)

abbrev pub then_judge : {A B : Type 0} → (A → Result B ℕ) → Result A ℕ → Result B ℕ
then_judge f (Ok x) = f x
then_judge f (Err n) = Err n

-- a form of one, two or three operands, once they are judged
abbrev pub with_one : (Option Operand → Seen) → Result Operand ℕ → Result Seen ℕ
with_one form a = then_judge (λ (x : Operand). Ok (form (Some x))) a

abbrev pub with_two : (Option Operand → Option Operand → Seen) → Result Operand ℕ → Result Operand ℕ → Result Seen ℕ
with_two form a b = then_judge (λ (x : Operand). with_one (form (Some x)) b) a

abbrev pub with_three : (Option Operand → Option Operand → Option Operand → Seen) → Result Operand ℕ → Result Operand ℕ → Result Operand ℕ → Result Seen ℕ
with_three form c a b = then_judge (λ (x : Operand). with_two (form (Some x)) a b) c

-- the outermost form with its operands, or the first fault of one of them, from the left
abbrev pub judged_operands : RawExpr-F (Result Operand ℕ) → Result Seen ℕ
judged_operands (RawExpr-F.Constant text) = Ok (RawExpr-F.Constant text)
judged_operands RawExpr-F.Null = Ok RawExpr-F.Null
judged_operands RawExpr-F.Eof = Ok RawExpr-F.Eof
judged_operands (RawExpr-F.Variable name) = Ok (RawExpr-F.Variable name)
judged_operands (RawExpr-F.Unary op a) = with_one (RawExpr-F.Unary op) a
judged_operands (RawExpr-F.Deref a) = with_one RawExpr-F.Deref a
judged_operands (RawExpr-F.AddressOf a) = with_one RawExpr-F.AddressOf a
judged_operands (RawExpr-F.Binary op a b) = with_two (RawExpr-F.Binary op) a b
judged_operands (RawExpr-F.AndAlso a b) = with_two RawExpr-F.AndAlso a b
judged_operands (RawExpr-F.OrElse a b) = with_two RawExpr-F.OrElse a b
judged_operands (RawExpr-F.Choose c a b) = with_three RawExpr-F.Choose c a b
judged_operands (RawExpr-F.Cast t a) = with_one (RawExpr-F.Cast t) a
judged_operands (RawExpr-F.Index a i) = with_two RawExpr-F.Index a i
judged_operands (RawExpr-F.Member a m) = with_one (λ x. RawExpr-F.Member x m) a
judged_operands (RawExpr-F.Arrow a m) = with_one (λ x. RawExpr-F.Arrow x m) a
judged_operands (RawExpr-F.Paren a) = with_one RawExpr-F.Paren a

abbrev pub judge_step : RawProgram → Scope → RawExpr-F (Result Operand ℕ) → Result Operand ℕ
judge_step raw scope layer = then_judge (judge_seen raw scope) (judged_operands layer)

-- the judgement of an expression where its scope is in force
abbrev pub judged : RawProgram → Scope → RawExpr → Result Operand ℕ
judged raw scope = fold-RawExpr (Result Operand ℕ) (judge_step raw scope)

-- a member, as a place, or the rule that its selection breaks
abbrev pub member_or : Bool → Option ExprType → Result Operand ℕ
member_or true (Some t) = Ok (a_place t)
member_or true None = Err 0
member_or false t = Err 8

abbrev pub selected_in : RawProgram → Scope → Bytes → ℕ → Result Operand ℕ
selected_in raw scope name s =
    if nat_lt s scope.structs then member_or (is_some (member_of raw s name)) (member_type raw scope name s) else Err 7

abbrev pub selected_of : RawProgram → Scope → Bytes → Option ℕ → Result Operand ℕ
selected_of raw scope name None = Err 12
selected_of raw scope name (Some s) = selected_in raw scope name s

-- a member selected from an object of the type
abbrev pub judge_selected : RawProgram → Scope → Bytes → ExprType → Result Operand ℕ
judge_selected raw scope name t = selected_of raw scope name (struct_of t)

-- what code answers is the judgement, but for want of memory
abbrev pub Judges : Result Operand ℕ → Result Operand Fault → Type 0
Judges outcome (Ok x) = outcome ≡ Ok x
Judges outcome (Err (Rule n)) = (outcome ≡ Err n) × (0 < n)
Judges outcome (Err NoMemory) = Unit {0}
