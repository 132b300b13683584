use Rattle.std.proofs.Common.{◌≡◌, drop, map}
use Rattle.c_tree.specs.declared.raw.program.RawParam.{RawParam}
use Rattle.c_language.specs.DeclaredTypes.{written_type}
use Rattle.c_language.specs.NameRules.{all_agree}
use Rattle.c_types_checks.proofs.head_checks.same_parameters.Given as goal

abbrev pub invariant-loop-i : goal.invariant-loop-i
invariant-loop-i l =
    all_agree (map (λ (p : RawParam). written_type l.tables.raw.now p.shape) l.left) (map (λ (p : RawParam). written_type l.tables.raw.now p.shape) l.right)
    ≡ all_agree (map (λ (p : RawParam). written_type l.tables.raw.now p.shape) (drop l.i l.left)) (map (λ (p : RawParam). written_type l.tables.raw.now p.shape) (drop l.i l.right))
