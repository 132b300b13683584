use Rattle.std.proofs.Common.{rules}
use Rattle.c_memory.specs.Scenes.{state_in}
use Rattle.c_memory.proofs.EvaluationLemmas.{given_as, unary_turn, binary_turn, address_turn, place_turn, value_turn, met_turn, unmet_turn}
use Rattle.c_memory.proofs.expressions.+evaluation.Goals as goal

pub value-returns-in-Unary : goal.value-returns-in-Unary
value-returns-in-Unary t c =
    given_as c.unary_of.result _ _
    (unary_turn c.args.s.program.now (state_in c.args.s) c.args.e.now c.in-Unary.op _ c.get-in-Unary.result.now c.get.result.now c.in_ok-value-in-Unary.field-0
    c.in-Unary.is (search rules) (search rules) c.in_ok-value-in-Unary.ensures)
    c.unary_of.ensures

pub value-returns-in-Binary : goal.value-returns-in-Binary
value-returns-in-Binary t c =
    given_as c.binary_of.result _ _
    (binary_turn c.args.s.program.now (state_in c.args.s) c.args.e.now c.in-Binary.op _ _ c.get-in-Binary.result.now c.get-in-Binary-2.result.now c.get-in-Binary-3.result.now
    c.get-in-Binary-4.result.now c.in_ok-left-in-Binary.left c.in_ok-value-in-Binary.field-0 c.in-Binary.is (search rules) (search rules) (search rules) (search rules)
    c.in_ok-left-in-Binary.ensures c.in_ok-value-in-Binary.ensures)
    c.binary_of.ensures

pub address-returns-in_ok-value-in-Index : goal.address-returns-in_ok-value-in-Index
address-returns-in_ok-value-in-Index t c =
    given_as c.binary_of.result _ _
    (address_turn c.args.s.program.now (state_in c.args.s) c.args.e.now _ _ c.get-in-Index.result.now c.get-in-Index-2.result.now c.get-in-Index-3.result.now
    c.get-in-Index-4.result.now c.in_ok-base-in-Index.base c.in_ok-value-in-Index.field-0 c.in-Index.is (search rules) (search rules) (search rules) (search rules)
    c.in_ok-base-in-Index.ensures c.in_ok-value-in-Index.ensures)
    c.binary_of.ensures

pub place-returns-in_ok-pointer-in-Index : goal.place-returns-in_ok-pointer-in-Index
place-returns-in_ok-pointer-in-Index t c =
    given_as c.item_place-in-Index.result _ _
    (place_turn c.args.s.program.now (state_in c.args.s) c.args.e.now _ _ c.get-in-Index.result.now c.get-in-Index-2.result.now c.get-in-Index-3.result.now
    c.get-in-Index-4.result.now c.in_ok-base-in-Index.base c.in_ok-value-in-Index.field-0 c.in_ok-pointer-in-Index.pointer c.in-Index.is (search rules) (search rules)
    (search rules) (search rules) c.in_ok-base-in-Index.ensures c.in_ok-value-in-Index.ensures c.in_ok-pointer-in-Index.ensures)
    c.item_place-in-Index.ensures

pub value-returns-in-Index : goal.value-returns-in-Index
value-returns-in-Index t c =
    given_as c.value_at-in-Index.result _ _
    (value_turn c.args.s.program.now (state_in c.args.s) c.args.e.now _ _ c.get-in-Index.result.now c.get-in-Index-2.result.now c.get-in-Index-3.result.now
    c.get-in-Index-4.result.now c.in_ok-base-in-Index.base c.in_ok-value-in-Index.field-0 c.in_ok-pointer-in-Index.pointer _ c.in-Index.is (search rules) (search rules)
    (search rules) (search rules) c.in_ok-base-in-Index.ensures c.in_ok-value-in-Index.ensures c.in_ok-pointer-in-Index.ensures c.in_ok-item_place-in-Index.ensures)
    c.value_at-in-Index.ensures

pub value-returns-then-is_met-2 : goal.value-returns-then-is_met-2
value-returns-then-is_met-2 t c =
    given_as c.as_type_of.result _ _
    (met_turn c.args.s.program.now (state_in c.args.s) c.args.e.now _ _ _ c.get-in-Choose.result.now c.get-then-is_met-2.result.now c.in_ok-test-in-Choose.test
    c.in_ok-value-in-Choose.field-0 c.is_met-in-Choose.result c.in-Choose.is (search rules) (search rules) c.in_ok-test-in-Choose.ensures c.is_met-in-Choose.ensures
    c.if-is_met-2.true c.in_ok-value-in-Choose.ensures)
    c.as_type_of.ensures

pub value-returns-then-is_unmet-2 : goal.value-returns-then-is_unmet-2
value-returns-then-is_unmet-2 t c =
    given_as c.as_type_of-then-is_unmet-2.result _ _
    (unmet_turn c.args.s.program.now (state_in c.args.s) c.args.e.now _ _ _ c.get-in-Choose.result.now c.get-then-is_unmet-2.result.now c.in_ok-test-in-Choose.test
    c.in_ok-value-in-Choose-2.field-0 c.is_unmet-else-is_met-2.result c.in-Choose.is (search rules) (search rules) c.in_ok-test-in-Choose.ensures c.is_unmet-else-is_met-2.ensures
    c.if-is_unmet-2.true c.in_ok-value-in-Choose-2.ensures)
    c.as_type_of-then-is_unmet-2.ensures
