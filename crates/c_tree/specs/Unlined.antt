-- Programs that are the same but for line numbers.
use Rattle.std.specs.Prelude.{◌≡◌, map}
use Rattle.c_tree.specs.declared.program.Program.{Program}
use Rattle.c_tree.specs.declared.program.Function.{Function}
use Rattle.c_tree.specs.declared.program.Var.{Var}
use Rattle.c_tree.specs.declared.statement.Statement.{Statement, fold-Statement}
use Rattle.c_tree.specs.declared.statement.Statement.TheOpen.{Statement-F, Arm-F}
use Rattle.c_tree.specs.declared.statement.Statement.TheVariants as s
use Rattle.c_tree.specs.declared.statement.Arm.{Arm, roll-Arm}

abbrev pub unlined_step : Statement-F Statement Arm → Statement
unlined_step (Statement-F.Declare id l x init) = s.Declare id 0 x init
unlined_step (Statement-F.Assign id l left op right) = s.Assign id 0 left op right
unlined_step (Statement-F.Bump id l a up before) = s.Bump id 0 a up before
unlined_step (Statement-F.Invoke id l to f args) = s.Invoke id 0 to f args
unlined_step (Statement-F.Fetch id l to) = s.Fetch id 0 to
unlined_step (Statement-F.Write id l e) = s.Write id 0 e
unlined_step (Statement-F.Print id l format args) = s.Print id 0 format args
unlined_step (Statement-F.Heap id l to cast n) = s.Heap id 0 to cast n
unlined_step (Statement-F.Release id l e) = s.Release id 0 e
unlined_step (Statement-F.If id l e a b) = s.If id 0 e a b
unlined_step (Statement-F.While id l e b) = s.While id 0 e b
unlined_step (Statement-F.Do id l e b) = s.Do id 0 e b
unlined_step (Statement-F.For id l i e step b) = s.For id 0 i e step b
unlined_step (Statement-F.Switch id l e arms) = s.Switch id 0 e arms
unlined_step (Statement-F.Block l b) = s.Block 0 b
unlined_step (Statement-F.Return id l e) = s.Return id 0 e

abbrev pub unlined_arm : Arm-F Statement Arm → Arm
unlined_arm a = roll-Arm a

-- a statement with line 0 in the place of each line
abbrev pub unlined : Statement → Statement
unlined = fold-Statement Statement Arm unlined_step unlined_arm

abbrev pub unlined_var : Var → Var
unlined_var v = record v { line = 0 }

abbrev pub unlined_function : Function → Function
unlined_function f = record f { line = 0; body = map unlined f.body }

-- a program with line 0 in the place of each line
abbrev pub unlined_program : Program → Program
unlined_program p = record p { vars = map unlined_var p.vars; functions = map unlined_function p.functions }

-- two programs are the same but for line numbers
abbrev pub SameButLines : Program → Program → Type 0
SameButLines p q = unlined_program p ≡ unlined_program q
