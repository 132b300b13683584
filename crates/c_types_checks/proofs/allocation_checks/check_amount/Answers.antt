use Rattle.c_types_base.specs.Tables.{scope_of}
use Rattle.c_types_checks.proofs.AmountLemmas.{count_size, size_count, count_alone}
use Rattle.c_types_checks.proofs.allocation_checks.check_amount.Goals as goal

pub returns-in-CountSize : goal.returns-in-CountSize
returns-in-CountSize c =
    count_size c.args.tables.now.raw.now (scope_of c.args.tables.now) _ _ c.args.object.now c.check_product.result c.args.amount.now c.check_product.ensures c.in-CountSize.is

pub returns-in-SizeCount : goal.returns-in-SizeCount
returns-in-SizeCount c =
    size_count c.args.tables.now.raw.now (scope_of c.args.tables.now) _ _ c.args.object.now c.check_product-in-SizeCount.result c.args.amount.now c.check_product-in-SizeCount.ensures c.in-SizeCount.is

pub returns-in_ok-check_factor-in-Count : goal.returns-in_ok-check_factor-in-Count
returns-in_ok-check_factor-in-Count c =
    count_alone c.args.tables.now.raw.now (scope_of c.args.tables.now) _ c.args.object.now c.check_bytes.result c.args.amount.now c.in-Count.is c.in_ok-check_factor-in-Count.ensures
    c.check_bytes.ensures
