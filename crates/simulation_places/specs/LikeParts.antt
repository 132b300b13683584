-- What runs need of a program and of its projection: types, globals and functions.
use Rattle.std.specs.Prelude.{◌≡◌, ℕ, List, [], ◌∷◌, map, true, if◌then◌else◌, None, option_map, slice_get}
use Rattle.c_tree.specs.declared.program.Program.{Program}
use Rattle.c_meaning.specs.Activations.{Routine, Global, executable}
use Rattle.projection.specs.Kept.{Kept, chosen}
use Rattle.projection.specs.Projection.{if_so}
use Rattle.projection.specs.Renumbering.{renamed_init}
use Rattle.simulation_places.specs.ProjectedCode.{Numbering, renamed_all, project_code}

module _ (k : Kept ℕ) (new : Numbering) where
  -- what is left of a function that stays
  abbrev pub projected_routine : ℕ → Routine → Routine
  projected_routine f r = record {
    params = map new.variable (chosen (k.parameter f) 0 r.params);
    locals = renamed_all k new r.locals;
    result = if k.gives f then r.result else None;
    code = project_code k new r.code;
  }

  -- the globals that stay
  abbrev pub projected_globals : List Global → List Global
  projected_globals [] = []
  projected_globals (g ∷ gs) =
      if_so (k.variable g.variable) (record { variable = new.variable g.variable; init = renamed_init new.variable g.init } ∷ projected_globals gs) (projected_globals gs)

-- q has what is kept of p: its structs and members, variables that stay with their types, globals and functions under their new numbers
pub record HasLikeParts (p q : Program) (k : Kept ℕ) (new : Numbering) : Type 0 where
  pub structs_are : (executable q).structs ≡ (executable p).structs
  pub members_are : (executable q).typing.member ≡ (executable p).typing.member
  pub types_are : (x : ℕ) → k.variable x ≡ true → (executable q).typing.variable (new.variable x) ≡ (executable p).typing.variable x
  pub globals_are : (executable q).globals ≡ projected_globals k new (executable p).globals
  pub routines_are :
      (f : ℕ) → k.function f ≡ true
      → slice_get (executable q).functions (new.function f) ≡ option_map (projected_routine k new f) (slice_get (executable p).functions f)
