-- States that differ at most in what cells hold, and what comes out the same in them.
use Rattle.std.specs.Prelude.{◌≡◌, ℕ, List, length, map, Bool, true, Option, All}
use Rattle.c_tree.specs.declared.expr.Expr.{Expr}
use Rattle.c_tree.specs.declared.statement.Target.{Target}
use Rattle.c_language.specs.declared.expr_type.ExprType.{ExprType}
use Rattle.c_language.specs.Code.{Act}
use Rattle.c_meaning.specs.declared.value.Place.{Place}
use Rattle.c_meaning.specs.declared.value.Value.{Value}
use Rattle.c_meaning.specs.Memory.{Kind, Block, read}
use Rattle.c_meaning.specs.Values.{Types, State, eval_all}
use Rattle.c_meaning.specs.Acts.{made}
use Rattle.c_meaning.specs.Activations.{received}
use Rattle.run_facts.specs.ReadCells.{all_read, target_read, act_read, reads_input}

-- a block without what its cells hold
pub record Outline : Type 0 where
  pub shape : ExprType
  pub kind : Kind
  pub is_live : Bool
  pub cell_count : ℕ

abbrev pub outline : Block → Outline
outline b = record { shape = b.shape; kind = b.kind; is_live = b.is_live; cell_count = length b.cells }

-- two states with the same variables and blocks, whose cells may hold different values
pub record SameButCells (s t : State) : Type 0 where
  pub frames_are : (x : ℕ) → s.frame x ≡ t.frame x
  pub structs_are : s.memory.structs ≡ t.memory.structs
  pub blocks_are : map outline s.memory.blocks ≡ map outline t.memory.blocks

-- these cells hold the same, a value or nothing
abbrev pub HoldSame : State → State → List Place → Type 0
HoldSame s t = All (λ (q : Place). read s.memory q ≡ read t.memory q)

-- an act comes to the same in both, and so do the arguments of a call and the store of a result, where what is read holds the same
pub record SameOutcomes (types : Types) (s t : State) : Type 0 where
  pub acts : (a : Act) → HoldSame s t (act_read types a s) → (reads_input a ≡ true → s.unread ≡ t.unread) → made types a s ≡ made types a t
  pub arguments : (es : List Expr) → HoldSame s t (all_read types es s) → eval_all types es s ≡ eval_all types es t
  pub stores : (to : Target) (v : Option Value) → HoldSame s t (target_read types to s) → received types to v s ≡ received types to v t
