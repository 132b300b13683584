-- The cells that an expression and an act read.
use Rattle.std.specs.Prelude.{List, [], ◌∷◌, ◌++◌, Bool, true, false, if◌then◌else◌, Option, Some, None}
use Rattle.c_arith.specs.declared.operators.BinaryOp.{BinaryOp}
use Rattle.c_tree.specs.declared.expr.Expr.{Expr, fold-Expr, map-Expr}
use Rattle.c_tree.specs.declared.expr.Expr.TheOpen.{Expr-F}
use Rattle.c_tree.specs.declared.program.Init.{Init}
use Rattle.c_tree.specs.declared.program.Init.TheVariants as init
use Rattle.c_tree.specs.declared.statement.Amount.{Amount}
use Rattle.c_tree.specs.declared.statement.Amount.TheVariants as amount
use Rattle.c_tree.specs.declared.statement.Target.{Target}
use Rattle.c_tree.specs.declared.statement.Target.TheVariants as target
use Rattle.c_language.specs.declared.expr_type.ExprType.{ExprType}
use Rattle.c_language.specs.Code.{Act, Begins, Sets, Bumps, Fetches, Writes, Prints, Allocates, Frees, Returns, Tests}
use Rattle.c_language.specs.ConstantEvaluation.{is_zero}
use Rattle.c_language.specs.ExprTypes.{is_array}
use Rattle.c_meaning.specs.declared.value.Place.{Place}
use Rattle.c_meaning.specs.declared.value.Value.{Value}
use Rattle.c_meaning.specs.Values.{Types, State, Meant, tested, meant_step}

abbrev pub Reads : Type 0
Reads = State → List Place

-- an expression, with the cells that are read to find the object that it designates, which `&` asks for too, and those that are read for
-- its value; a cell may stand in a list more than once
pub record Watched : Type 0 where
  pub meant : Meant
  pub found : Reads
  pub read : Reads

abbrev pub nothing_read : Reads
nothing_read s = []

abbrev pub both_read : Reads → Reads → Reads
both_read a b s = a s ++ b s

-- what is read for the value of an object: an array turns into a pointer and isn't read, and what is no array is one cell
abbrev pub object_read : ExprType → Option Place → List Place
object_read t None = []
object_read t (Some q) = if is_array t then [] else q ∷ []

-- what is read where a test has this value: these where it isn't 0, and those where it is
abbrev pub chosen_read : Option Value → List Place → List Place → List Place
chosen_read None these those = []
chosen_read (Some v) these those = if is_zero (tested v) then those else these

abbrev pub a_value : Meant → Reads → Watched
a_value m read = record { meant = m; found = nothing_read; read = read }

-- what designates an object that is found by reading these
abbrev pub an_object : Meant → Reads → Watched
an_object m found = record { meant = m; found = found; read = λ s. found s ++ object_read m.type (m.place s) }

-- what the form of an expression reads, where it means this; of `&&`, `||` and `?:` only what is evaluated
abbrev pub watched_as : Meant → Expr-F Watched → Watched
watched_as m (Expr-F.Constant text k v) = a_value m nothing_read
watched_as m Expr-F.Null = a_value m nothing_read
watched_as m Expr-F.Eof = a_value m nothing_read
watched_as m (Expr-F.Variable x) = an_object m nothing_read
watched_as m (Expr-F.Unary op a) = a_value m a.read
watched_as m (Expr-F.Deref a) = an_object m a.read
watched_as m (Expr-F.AddressOf a) = a_value m a.found
watched_as m (Expr-F.Binary op a b) = a_value m (both_read a.read b.read)
watched_as m (Expr-F.AndAlso a b) = a_value m (λ s. a.read s ++ chosen_read (a.meant.value s) (b.read s) [])
watched_as m (Expr-F.OrElse a b) = a_value m (λ s. a.read s ++ chosen_read (a.meant.value s) [] (b.read s))
watched_as m (Expr-F.Choose c a b) = a_value m (λ s. c.read s ++ chosen_read (c.meant.value s) (a.read s) (b.read s))
watched_as m (Expr-F.Cast k a) = a_value m a.read
watched_as m (Expr-F.Index a i) = an_object m (both_read a.read i.read)
watched_as m (Expr-F.Member a k) = an_object m a.found
watched_as m (Expr-F.Arrow a k) = an_object m a.read
watched_as m (Expr-F.Paren a) = record { meant = m; found = a.found; read = a.read }

abbrev pub watched_step : Types → Expr-F Watched → Watched
watched_step types z = watched_as (meant_step types (map-Expr Watched Meant (λ (w : Watched). w.meant) z)) z

abbrev pub watched : Types → Expr → Watched
watched types = fold-Expr Watched (watched_step types)

-- ---- the cells that an act reads

module _ (types : Types) where
  abbrev pub value_read : Expr → Reads
  value_read e = (watched types e).read

  abbrev pub left_read : Expr → Reads
  left_read e = (watched types e).found

  abbrev pub all_read : List Expr → Reads
  all_read [] s = []
  all_read (e ∷ es) s = value_read e s ++ all_read es s

  abbrev pub maybe_read : Option Expr → Reads
  maybe_read None s = []
  maybe_read (Some e) s = value_read e s

  abbrev pub init_read : Init → Reads
  init_read init.None s = []
  init_read (init.One e) s = value_read e s
  init_read (init.Items es) s = all_read es s

  abbrev pub target_read : Target → Reads
  target_read target.None s = []
  target_read (target.Place e) s = left_read e s
  target_read (target.Declared x) s = []

  abbrev pub amount_read : Amount → Reads
  amount_read (amount.Size t) s = []
  amount_read (amount.CountSize e t) s = value_read e s
  amount_read (amount.SizeCount t e) s = value_read e s
  amount_read (amount.Count e) s = value_read e s

  -- a compound assignment reads its left side too
  abbrev pub compound_read : Option BinaryOp → Expr → Reads
  compound_read None left s = []
  compound_read (Some op) left s = value_read left s

  abbrev pub act_read : Act → Reads
  act_read (Begins x i) s = init_read i s
  act_read (Sets left op right) s = left_read left s ++ (compound_read op left s ++ value_read right s)
  act_read (Bumps left up) s = left_read left s ++ value_read left s
  act_read (Fetches to) s = target_read to s
  act_read (Writes e) s = value_read e s
  act_read (Prints format args) s = all_read args s
  act_read (Allocates to n) s = target_read to s ++ amount_read n s
  act_read (Frees e) s = value_read e s
  act_read (Returns e) s = maybe_read e s
  act_read (Tests e) s = value_read e s

-- whether an act reads the input, and takes from it what it read
abbrev pub reads_input : Act → Bool
reads_input (Begins x i) = false
reads_input (Sets left op right) = false
reads_input (Bumps left up) = false
reads_input (Fetches to) = true
reads_input (Writes e) = false
reads_input (Prints format args) = false
reads_input (Allocates to n) = false
reads_input (Frees e) = false
reads_input (Returns e) = false
reads_input (Tests e) = false
