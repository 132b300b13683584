-- What an act makes, as the code has it.
use Rattle.std.specs.Prelude.{◌≡◌, ℕ, List, [], ◌∷◌, map, Option, Some, None, option_map, option_and_then, if◌then◌else◌}
use Rattle.c_tree.specs.declared.program.Program.{Program}
use Rattle.c_tree.specs.declared.statement.Arm.{Arm}
use Rattle.c_tree.specs.declared.statement.Statement.{Statement}
use Rattle.c_tree.specs.declared.statement.Statement.TheOpen.{Statement-F}
use Rattle.c_tree.specs.declared.types.CType.{CType}
use Rattle.c_language.specs.Code.{Act, Begins, Sets, Bumps, Fetches, Writes, Prints, Allocates, Frees, Returns, Tests}
use Rattle.c_language.specs.TreeTypes.{typing_of, shape_of}
use Rattle.c_language.specs.Words.{Bytes}
use Rattle.c_meaning.specs.declared.event.Shown.{Shown}
use Rattle.c_meaning.specs.declared.value.Value.{Value}
use Rattle.c_meaning.specs.declared.value.Value.TheVariants.{Number}
use Rattle.c_meaning.specs.Values.{Types, State, whole, shown_of}
use Rattle.c_language.specs.declared.expr_type.ExprType.{ExprType}
use Rattle.c_meaning.specs.Memory.{Memory}
use Rattle.c_meaning.specs.Acts.{Store, Made, Request, store, shows, list_stores, storing_all, all_as, made, taking, given, next_byte}
use Rattle.c_acts.specs.declared.makings.Stores.{Stores}
use Rattle.c_acts.specs.declared.makings.Stores.TheVariants as stores
use Rattle.c_acts.specs.declared.makings.Change.{Change}
use Rattle.c_acts.specs.declared.makings.Request.{Request as Asked}
use Rattle.c_acts.specs.declared.makings.Made.{Made as Making}

-- what an act makes, its values as the event shows them
pub record Seen : Type 0 where
  pub values : List Shown
  pub stores : List Store
  pub output : Bytes
  pub taken : ℕ
  pub begun : Option Request
  pub freed : Option ℕ
  pub returned : Option Value

abbrev pub seen : Made → Seen
seen x = record {
  values = map shown_of x.values;
  stores = x.stores;
  output = x.output;
  taken = x.taken;
  begun = x.begun;
  freed = x.freed;
  returned = x.returned;
}

abbrev pub stores_in : Stores → List Store
stores_in stores.None = []
stores_in (stores.One p v) = store p v ∷ []
stores_in (stores.List block length element items) = list_stores (whole block) element 0 length items.items

abbrev pub request_in : Asked → Request
request_in r = record { shape = r.shape; count = r.count }

abbrev pub begun_in : Option Asked → Option Request
begun_in o = option_map request_in o

abbrev pub made_in : Making → Seen
made_in m = record {
  values = m.values;
  stores = stores_in m.change.stores;
  output = m.output.items;
  taken = if m.change.takes then 1 else 0;
  begun = begun_in m.change.begun;
  freed = m.change.freed;
  returned = m.change.returned;
}

-- the types in a function that returns this type
abbrev pub types_for : Program → Option CType → Types
types_for p t = record { typing = typing_of p; result = option_map shape_of t }

-- what the act of a statement is, where it is neither a test nor a call of a function
abbrev pub own_act : Statement-F Statement Arm → Option Act
own_act (Statement-F.Declare id l x init) = Some (Begins x init)
own_act (Statement-F.Assign id l left op right) = Some (Sets left op right)
own_act (Statement-F.Bump id l a up before) = Some (Bumps a up)
own_act (Statement-F.Fetch id l to) = Some (Fetches to)
own_act (Statement-F.Write id l e) = Some (Writes e)
own_act (Statement-F.Print id l format args) = Some (Prints format args)
own_act (Statement-F.Heap id l to cast n) = Some (Allocates to n)
own_act (Statement-F.Release id l e) = Some (Frees e)
own_act (Statement-F.Return id l e) = Some (Returns e)
own_act (Statement-F.Invoke id l to f args) = None
own_act (Statement-F.If id l e a b) = None
own_act (Statement-F.While id l e b) = None
own_act (Statement-F.Do id l e b) = None
own_act (Statement-F.For id l i e s b) = None
own_act (Statement-F.Switch id l e arms) = None
own_act (Statement-F.Block l b) = None

-- what an act makes of a state with this input left; nothing else of the input is looked at
abbrev pub made_from : Types → List ℕ → Act → State → Option Made
made_from types unread (Begins x i) s = made types (Begins x i) s
made_from types unread (Sets left op right) s = made types (Sets left op right) s
made_from types unread (Bumps left up) s = made types (Bumps left up) s
made_from types unread (Fetches to) s = option_map taking (given types to (Number (next_byte unread)) s)
made_from types unread (Writes e) s = made types (Writes e) s
made_from types unread (Prints format args) s = made types (Prints format args) s
made_from types unread (Allocates to n) s = made types (Allocates to n) s
made_from types unread (Frees e) s = made types (Frees e) s
made_from types unread (Returns e) s = made types (Returns e) s
made_from types unread (Tests e) s = made types (Tests e) s

abbrev pub made_by : Types → List ℕ → State → Option Act → Option Made
made_by types unread s o = option_and_then (λ (a : Act). made_from types unread a s) o

-- a change is that of what an act makes
pub record IsChange (c : Change) (x : Made) : Type 0 where
  pub stores : stores_in c.stores ≡ x.stores
  pub taken : (if c.takes then 1 else 0) ≡ x.taken
  pub begun : begun_in c.begun ≡ x.begun
  pub freed : c.freed ≡ x.freed
  pub returned : c.returned ≡ x.returned

-- what a list makes that is stored in an array of so many elements, which is a whole block
abbrev pub list_shown : (block count : ℕ) → ExprType → List Value → Made
list_shown block n t vs = record (shows vs []) { stores = list_stores (whole block) t 0 n vs }

-- the same, where the values can be converted, and the array has room for them
abbrev pub list_made : Memory → (block count : ℕ) → ExprType → List Value → Option Made
list_made m block n t vs =
    option_and_then (λ (ws : List Value). storing_all m n ws (list_stores (whole block) t 0 n ws)) (all_as t vs)
