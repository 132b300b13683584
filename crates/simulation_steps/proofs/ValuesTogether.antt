-- What expressions and acts come to in a slice, by what the cells hold that they read in the original.
use Rattle.std.specs.Prelude.{◌≡◌, List, length, map, true, Option, All}
use Rattle.c_tree.specs.declared.expr.Expr.{Expr}
use Rattle.c_tree.specs.declared.statement.Target.{Target}
use Rattle.c_language.specs.Code.{Act}
use Rattle.c_language.specs.Names.{target_names, act_names}
use Rattle.c_meaning.specs.declared.value.Value.{Value}
use Rattle.c_meaning.specs.Values.{Types, State, eval, place, eval_all}
use Rattle.c_meaning.specs.Acts.{made}
use Rattle.c_meaning.specs.Activations.{received}
use Rattle.projection.specs.Renumbering.{renamed, renamed_target}
use Rattle.simulation_places.specs.ProjectedCode.{renamed_act}
use Rattle.run_facts.specs.ReadCells.{value_read, left_read, all_read, target_read, act_read, reads_input}
use Rattle.simulation.specs.Renaming.{World, AlikeValue, AlikeCell, Names}
use Rattle.simulation_steps.proofs.Outcomes.{ComesToo, AlikeList, AlikePlace, AlikeMade, world_with, HoldAlike, CellsStand, NamesStay, Staying, SameResult, StatesStand}

-- an expression, a left side and arguments come to alike values and places, where alike values are held by the cells that are read
pub record ValuesTogether (names : Names) (w : World) (types there : Types) (s t : State) : Type 0 where
  pub values :
      (e : Expr) → Staying names e → HoldAlike w s t (value_read types e s)
      → ComesToo (AlikeValue w) (eval types e s) (eval there (renamed names.variable e) t)
  pub places :
      (e : Expr) → Staying names e → HoldAlike w s t (left_read types e s)
      → ComesToo (AlikePlace w) (place types e s) (place there (renamed names.variable e) t)
  pub arguments :
      (es : List Expr) → All (Staying names) es → HoldAlike w s t (all_read types es s)
      → ComesToo (AlikeList (AlikeValue w)) (eval_all types es s) (eval_all there (map (renamed names.variable) es) t)

abbrev pub ValuesComeTogether : Type 0
ValuesComeTogether =
    (names : Names) (w : World) (types there : Types) (s t : State) → StatesStand names w types there s t
    → ValuesTogether names w types there s t

-- so does an act, where moreover cells stand for cells, and the input too where it reads that; and the store after a call
pub record ActsTogether (names : Names) (w : World) (types there : Types) (s t : State) : Type 0 where
  pub acts :
      (a : Act) → NamesStay names (act_names a) → SameResult types there a → HoldAlike w s t (act_read types a s)
      → (reads_input a ≡ true → s.unread ≡ t.unread)
      → ComesToo (λ x y. AlikeMade (world_with w (length s.memory.blocks) x.begun) x y) (made types a s) (made there (renamed_act names.variable a) t)
  pub stores :
      (to : Target) (v u : Option Value) → NamesStay names (target_names to) → AlikeCell w v u → HoldAlike w s t (target_read types to s)
      → ComesToo (AlikeMade w) (received types to v s) (received there (renamed_target names.variable to) u t)

abbrev pub ActsComeTogether : Type 0
ActsComeTogether =
    (names : Names) (w : World) (types there : Types) (s t : State) → StatesStand names w types there s t → CellsStand w s t
    → ActsTogether names w types there s t
