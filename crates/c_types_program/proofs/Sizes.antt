-- How large a statement is: a measure by which the walk along it ends.
use Rattle.std.proofs.Common.{◌≡◌, ℕ, ◌+◌, ◌<◌, ◌≤◌, List, [], ◌∷◌, map, length, get_or, Option, ap, arith, zero, suc}
use Rattle.c_tree.specs.declared.raw.statement.RawArm.{RawArm, fold-RawArm}
use Rattle.c_tree.specs.declared.raw.statement.RawStatement.{RawStatement, fold-RawStatement}
use Rattle.c_tree.specs.declared.raw.statement.RawStatement.TheOpen.{RawStatement-F, RawArm-F}
use Rattle.c_types_program.proofs.StatementFolds.{folded_part}
use Rattle.c_language.specs.StatementNesting.{of_option}

abbrev pub total : List ℕ → ℕ
total [] = 0
total (n ∷ ns) = n + total ns

abbrev pub size_step : RawStatement-F ℕ ℕ → ℕ
size_step (RawStatement-F.Declare l var i) = 1
size_step (RawStatement-F.Assign l a op b) = 1
size_step (RawStatement-F.Bump l a up before) = 1
size_step (RawStatement-F.Call l to f args) = 1
size_step (RawStatement-F.Heap l to cast n) = 1
size_step (RawStatement-F.If l a all other) = 1 + (total all + total other)
size_step (RawStatement-F.While l a all) = 1 + total all
size_step (RawStatement-F.Do l a all) = 1 + total all
size_step (RawStatement-F.For l first a next all) = 1 + (of_option first + (of_option next + total all))
size_step (RawStatement-F.Switch l a arms) = 1 + total arms
size_step (RawStatement-F.Block l all) = 1 + total all
size_step (RawStatement-F.Return l a) = 1

abbrev pub arm_size_step : RawArm-F ℕ ℕ → ℕ
arm_size_step a = total a.body

abbrev pub size : RawStatement → ℕ
size = fold-RawStatement ℕ ℕ size_step arm_size_step

abbrev pub arm_size : RawArm → ℕ
arm_size = fold-RawArm ℕ ℕ size_step arm_size_step

abbrev pub body_size : List RawStatement → ℕ
body_size body = total (map size body)

abbrev pub arms_size : List RawArm → ℕ
arms_size arms = total (map arm_size arms)

abbrev pub part_size : Option RawStatement → ℕ
part_size = λ part. of_option (folded_part ℕ ℕ size_step arm_size_step part)

-- one of a list is no larger than all
pub one_within : {A : Type 0} (f : A → ℕ) (xs : List A) (i : ℕ) (x : A) → i < length xs → x ≡ get_or xs i x → f x ≤ total (map f xs)
one_within f [] i x low is = absurd (omega (arith, low))
one_within f (y ∷ xs) zero x low is = let same = ap f is in omega (arith, same)
one_within f (y ∷ xs) (suc i) x low is = let rest = one_within f xs i x (omega (arith, low)) is in omega (arith, rest)
