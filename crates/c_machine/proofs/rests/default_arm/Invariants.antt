use Rattle.std.proofs.Common.{◌≡◌, map, drop}
use Rattle.c_language.specs.Code as codes
use Rattle.c_machine.specs.Rests.{arm_part}
use Rattle.c_machine.proofs.rests.default_arm.Given as goal

abbrev pub invariant-loop-arm : goal.invariant-loop-arm
invariant-loop-arm l = codes.default_arm (map arm_part (drop l.arm-index l.arms)) ≡ codes.default_arm (map arm_part l.arms)
