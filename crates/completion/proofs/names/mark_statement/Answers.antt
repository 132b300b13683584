use Rattle.c_language.specs.Names.{target_names, amount_names}
use Rattle.dep_model.specs.NamedParameters.{statement_names}
use Rattle.named_variables.proofs.MarkLemmas.{adds_both}
use Rattle.completion.specs.Numbered.{own_doing}
use Rattle.completion.proofs.StatementLaws.{heap_names}
use Rattle.completion.proofs.names.mark_statement.Goals as goal

pub returns-in_ok-mark_amount-in-Heap : goal.returns-in_ok-mark_amount-in-Heap
returns-in_ok-mark_amount-in-Heap c =
    adds_both c.args.used.now.items c.mark_target-in-Heap.new.used.items c.mark_amount.new.used.items
    (target_names c.in-Heap.target) (amount_names c.in-Heap.amount) (statement_names (own_doing c.args.statement.now))
    c.in_ok-mark_target-in-Heap.ensures c.in_ok-mark_amount-in-Heap.ensures (λ x. rw (c.in-Heap.is) (heap_names _ _ _ _ _ x))
