-- Whether the kept statements of parts of a text refer to a variable.
use Rattle.std.specs.Prelude.{ℕ, List, [], ◌∷◌, Bool, false, ◌||◌, Option, Some, None}
use Rattle.std.specs.List.{list_any}
use Rattle.c_tree.specs.declared.program.Function.{Function}
use Rattle.c_tree.specs.declared.statement.Arm.{Arm}
use Rattle.c_tree.specs.declared.statement.Statement.{Statement}
use Rattle.projection.specs.Kept.{KeptWords}
use Rattle.projection.specs.Names.{refers, body_refers}

-- whether the kept statements of a part of a for refer to a variable, where it has one
abbrev pub part_refers : KeptWords → Option Statement → ℕ → Bool
part_refers k None x = false
part_refers k (Some s) x = refers k s x

-- whether those of the arms of a switch do
abbrev pub arms_refer : KeptWords → List Arm → ℕ → Bool
arms_refer k [] x = false
arms_refer k (a ∷ as_) x = body_refers k a.body x || arms_refer k as_ x

-- whether those of functions do
abbrev pub functions_refer : KeptWords → List Function → ℕ → Bool
functions_refer k fs x = list_any (λ (f : Function). body_refers k f.body x) fs
