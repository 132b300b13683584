-- The variables that kept text refers to.
use Rattle.std.specs.Prelude.{ℕ, ◌==◌, List, [], ◌∷◌, Bool, false, ◌&&◌, ◌||◌, Option, Some, None}
use Rattle.std.specs.List.{list_any}
use Rattle.c_tree.specs.declared.program.Function.{Function}
use Rattle.c_tree.specs.declared.program.Init.{Init}
use Rattle.c_tree.specs.declared.program.Program.{Program}
use Rattle.c_tree.specs.declared.statement.Arm.{Arm, fold-Arm}
use Rattle.c_tree.specs.declared.statement.Statement.{Statement, fold-Statement}
use Rattle.c_tree.specs.declared.statement.Statement.TheOpen.{Statement-F, Arm-F}
use Rattle.c_tree.specs.declared.expr.Expr.{Expr}
use Rattle.c_tree.specs.declared.statement.Target.{Target}
use Rattle.c_language.specs.Names.{names, any_names, init_names, target_names, amount_names, value_names}
use Rattle.projection.specs.Kept.{KeptWords, chosen}

-- one of these names it
abbrev pub any_of : List (ℕ → Bool) → ℕ → Bool
any_of [] x = false
any_of (a ∷ as_) x = a x || any_of as_ x

abbrev pub if_any : Option (ℕ → Bool) → ℕ → Bool
if_any None x = false
if_any (Some a) x = a x

module _ (k : KeptWords) where
  -- a declaration without an initialiser is no statement: it refers to nothing
  abbrev pub begun_names : Option ℕ → ℕ → Init → ℕ → Bool
  begun_names None y i x = false
  begun_names (Some id) y i x = k.statement id && ((y == x) || init_names i x)

  -- a call refers to what the arguments and the left side that it keeps do
  abbrev pub call_names : ℕ → Target → List Expr → ℕ → Bool
  call_names id to args x = (k.result id && target_names to x) || any_names (chosen (k.argument id) 0 args) x

  -- the words of the statement, where it is kept, and the kept statements in it; labels name no variable (ISO C99 6.8.4.2, paragraph 3)
  abbrev pub refers_step : Statement-F (ℕ → Bool) (ℕ → Bool) → ℕ → Bool
  refers_step (Statement-F.Declare id l y i) x = begun_names id y i x
  refers_step (Statement-F.Assign id l left op right) x = k.statement id && (names left x || names right x)
  refers_step (Statement-F.Bump id l a up before) x = k.statement id && names a x
  refers_step (Statement-F.Invoke id l to f args) x = k.statement id && call_names id to args x
  refers_step (Statement-F.Fetch id l to) x = k.statement id && target_names to x
  refers_step (Statement-F.Write id l e) x = k.statement id && names e x
  refers_step (Statement-F.Print id l format args) x = k.statement id && any_names args x
  refers_step (Statement-F.Heap id l to cast n) x = k.statement id && (target_names to x || amount_names n x)
  refers_step (Statement-F.Release id l e) x = k.statement id && names e x
  refers_step (Statement-F.If id l e a b) x = (k.statement id && names e x) || (any_of a x || any_of b x)
  refers_step (Statement-F.While id l e b) x = (k.statement id && names e x) || any_of b x
  refers_step (Statement-F.Do id l e b) x = (k.statement id && names e x) || any_of b x
  refers_step (Statement-F.For id l i e s b) x = (k.statement id && names e x) || (if_any i x || (if_any s x || any_of b x))
  refers_step (Statement-F.Switch id l e arms) x = (k.statement id && names e x) || any_of arms x
  refers_step (Statement-F.Block l b) x = any_of b x
  refers_step (Statement-F.Return id l e) x = k.statement id && value_names e x

  abbrev pub refers_arm : Arm-F (ℕ → Bool) (ℕ → Bool) → ℕ → Bool
  refers_arm a x = any_of a.body x

  -- whether the kept statements of a statement refer to a variable
  abbrev pub refers : Statement → ℕ → Bool
  refers = fold-Statement (ℕ → Bool) (ℕ → Bool) refers_step refers_arm

  abbrev pub arm_refers : Arm → ℕ → Bool
  arm_refers = fold-Arm (ℕ → Bool) (ℕ → Bool) refers_step refers_arm

  abbrev pub body_refers : List Statement → ℕ → Bool
  body_refers [] x = false
  body_refers (s ∷ ss) x = refers s x || body_refers ss x

  -- whether kept text refers to a variable
  abbrev pub stays : Program → ℕ → Bool
  stays p x = list_any (λ (f : Function). body_refers f.body x) p.functions
