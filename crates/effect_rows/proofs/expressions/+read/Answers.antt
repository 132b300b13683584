-- What is read is added form by form.
use Rattle.std.proofs.Common.{◌≡◌, ◌&&◌, sym, ap, ◌∙◌, subst}
use Rattle.dep_model.specs.Denoted.{Denoted, denoted, expr_reads, left_reads}
use Rattle.effect_rows.specs.declared.steps.Steps.TheVariants as steps
use Rattle.effect_rows.specs.Gains.{with_places}
use Rattle.effect_rows.specs.Named.{named}
use Rattle.effect_rows.specs.Pointed.{points_in}
use Rattle.effect_rows.specs.Steps.{taken}
use Rattle.effect_rows.proofs.DenotedForms.{denotes-Constant, denotes-Null, denotes-Eof, denotes-Variable, denotes-Binary, denotes-AndAlso, denotes-OrElse, denotes-Choose}
use Rattle.effect_rows.proofs.ReadLemmas.{none_read, two_read, three_read, reads_found, reads_both, reads_in_array, reads_behind}
use Rattle.c_language.specs.ExprTypes.{is_array}
use Rattle.c_language.specs.TreeTypes.{tree_type}
use Rattle.effect_rows.proofs.expressions.+read.Goals.{add_found-then-is_array_place, add_found-else-is_array_place}
use Rattle.effect_rows.proofs.expressions.+read.Goals as goal

pub add_found-returns-in-Constant-clause-gained : goal.add_found-returns-in-Constant-clause-gained
add_found-returns-in-Constant-clause-gained t c =
    let p = c.args.g.now.program in
    let to = points_in c.args.g.now in
    let row = c.args.row in
    let e = c.args.e.now in
    let start = c.args.rows.now in
    none_read p row start (left_reads p to e) (ap (left_reads p to) c.in-Constant.is ∙ ap (λ (d : Denoted). d.reads) (denotes-Constant p to _ _ _))

pub add_found-returns-in-Null-clause-gained : goal.add_found-returns-in-Null-clause-gained
add_found-returns-in-Null-clause-gained t c =
    let p = c.args.g.now.program in
    let to = points_in c.args.g.now in
    let row = c.args.row in
    let e = c.args.e.now in
    let start = c.args.rows.now in
    none_read p row start (left_reads p to e) (ap (left_reads p to) c.in-Null.is ∙ ap (λ (d : Denoted). d.reads) (denotes-Null p to))

pub add_found-returns-in-Eof-clause-gained : goal.add_found-returns-in-Eof-clause-gained
add_found-returns-in-Eof-clause-gained t c =
    let p = c.args.g.now.program in
    let to = points_in c.args.g.now in
    let row = c.args.row in
    let e = c.args.e.now in
    let start = c.args.rows.now in
    none_read p row start (left_reads p to e) (ap (left_reads p to) c.in-Eof.is ∙ ap (λ (d : Denoted). d.reads) (denotes-Eof p to))

pub add_found-returns-in-Variable-clause-gained : goal.add_found-returns-in-Variable-clause-gained
add_found-returns-in-Variable-clause-gained t c =
    let p = c.args.g.now.program in
    let to = points_in c.args.g.now in
    let row = c.args.row in
    let e = c.args.e.now in
    let start = c.args.rows.now in
    none_read p row start (left_reads p to e) (ap (left_reads p to) c.in-Variable.is ∙ ap (λ (d : Denoted). d.reads) (denotes-Variable p to _))

pub add_found-returns-in-Binary-clause-gained : goal.add_found-returns-in-Binary-clause-gained
add_found-returns-in-Binary-clause-gained t c =
    let p = c.args.g.now.program in
    let to = points_in c.args.g.now in
    let row = c.args.row in
    let e = c.args.e.now in
    let start = c.args.rows.now in
    let first : c.add_read-in-Binary.new.rows ≡ with_places p row (expr_reads p to c.in-Binary.a) start = subst (λ x. c.add_read-in-Binary.new.rows ≡ with_places p row (expr_reads p to x) start) c.get-in-Binary.ensures c.add_read-in-Binary.ensures.gained in
    let second : c.add_read-in-Binary-2.new.rows ≡ with_places p row (expr_reads p to c.in-Binary.b) c.add_read-in-Binary.new.rows = subst (λ x. c.add_read-in-Binary-2.new.rows ≡ with_places p row (expr_reads p to x) c.add_read-in-Binary.new.rows) c.get-in-Binary-2.ensures c.add_read-in-Binary-2.ensures.gained in
    two_read p row start c.add_read-in-Binary.new.rows c.add_read-in-Binary-2.new.rows (expr_reads p to c.in-Binary.a) (expr_reads p to c.in-Binary.b) (left_reads p to e) (record { sized = c.requires.sized; row_in = c.requires.row_in }) first second (ap (left_reads p to) c.in-Binary.is ∙ ap (λ (d : Denoted). d.reads) (denotes-Binary p to _ c.in-Binary.a c.in-Binary.b))

pub add_found-returns-in-AndAlso-clause-gained : goal.add_found-returns-in-AndAlso-clause-gained
add_found-returns-in-AndAlso-clause-gained t c =
    let p = c.args.g.now.program in
    let to = points_in c.args.g.now in
    let row = c.args.row in
    let e = c.args.e.now in
    let start = c.args.rows.now in
    let first : c.add_read-in-AndAlso.new.rows ≡ with_places p row (expr_reads p to c.in-AndAlso.a) start = subst (λ x. c.add_read-in-AndAlso.new.rows ≡ with_places p row (expr_reads p to x) start) c.get-in-AndAlso.ensures c.add_read-in-AndAlso.ensures.gained in
    let second : c.add_read-in-AndAlso-2.new.rows ≡ with_places p row (expr_reads p to c.in-AndAlso.b) c.add_read-in-AndAlso.new.rows = subst (λ x. c.add_read-in-AndAlso-2.new.rows ≡ with_places p row (expr_reads p to x) c.add_read-in-AndAlso.new.rows) c.get-in-AndAlso-2.ensures c.add_read-in-AndAlso-2.ensures.gained in
    two_read p row start c.add_read-in-AndAlso.new.rows c.add_read-in-AndAlso-2.new.rows (expr_reads p to c.in-AndAlso.a) (expr_reads p to c.in-AndAlso.b) (left_reads p to e) (record { sized = c.requires.sized; row_in = c.requires.row_in }) first second (ap (left_reads p to) c.in-AndAlso.is ∙ ap (λ (d : Denoted). d.reads) (denotes-AndAlso p to c.in-AndAlso.a c.in-AndAlso.b))

pub add_found-returns-in-OrElse-clause-gained : goal.add_found-returns-in-OrElse-clause-gained
add_found-returns-in-OrElse-clause-gained t c =
    let p = c.args.g.now.program in
    let to = points_in c.args.g.now in
    let row = c.args.row in
    let e = c.args.e.now in
    let start = c.args.rows.now in
    let first : c.add_read-in-OrElse.new.rows ≡ with_places p row (expr_reads p to c.in-OrElse.a) start = subst (λ x. c.add_read-in-OrElse.new.rows ≡ with_places p row (expr_reads p to x) start) c.get-in-OrElse.ensures c.add_read-in-OrElse.ensures.gained in
    let second : c.add_read-in-OrElse-2.new.rows ≡ with_places p row (expr_reads p to c.in-OrElse.b) c.add_read-in-OrElse.new.rows = subst (λ x. c.add_read-in-OrElse-2.new.rows ≡ with_places p row (expr_reads p to x) c.add_read-in-OrElse.new.rows) c.get-in-OrElse-2.ensures c.add_read-in-OrElse-2.ensures.gained in
    two_read p row start c.add_read-in-OrElse.new.rows c.add_read-in-OrElse-2.new.rows (expr_reads p to c.in-OrElse.a) (expr_reads p to c.in-OrElse.b) (left_reads p to e) (record { sized = c.requires.sized; row_in = c.requires.row_in }) first second (ap (left_reads p to) c.in-OrElse.is ∙ ap (λ (d : Denoted). d.reads) (denotes-OrElse p to c.in-OrElse.a c.in-OrElse.b))

pub add_found-returns-in-Choose-clause-gained : goal.add_found-returns-in-Choose-clause-gained
add_found-returns-in-Choose-clause-gained t c =
    let p = c.args.g.now.program in
    let to = points_in c.args.g.now in
    let row = c.args.row in
    let e = c.args.e.now in
    let start = c.args.rows.now in
    let first : c.add_read-in-Choose.new.rows ≡ with_places p row (expr_reads p to c.in-Choose.c) start = subst (λ x. c.add_read-in-Choose.new.rows ≡ with_places p row (expr_reads p to x) start) c.get-in-Choose.ensures c.add_read-in-Choose.ensures.gained in
    let second : c.add_read-in-Choose-2.new.rows ≡ with_places p row (expr_reads p to c.in-Choose.a) c.add_read-in-Choose.new.rows = subst (λ x. c.add_read-in-Choose-2.new.rows ≡ with_places p row (expr_reads p to x) c.add_read-in-Choose.new.rows) c.get-in-Choose-2.ensures c.add_read-in-Choose-2.ensures.gained in
    let third : c.add_read-in-Choose-3.new.rows ≡ with_places p row (expr_reads p to c.in-Choose.b) c.add_read-in-Choose-2.new.rows = subst (λ x. c.add_read-in-Choose-3.new.rows ≡ with_places p row (expr_reads p to x) c.add_read-in-Choose-2.new.rows) c.get-in-Choose-3.ensures c.add_read-in-Choose-3.ensures.gained in
    three_read p row start c.add_read-in-Choose.new.rows c.add_read-in-Choose-2.new.rows c.add_read-in-Choose-3.new.rows (expr_reads p to c.in-Choose.c) (expr_reads p to c.in-Choose.a) (expr_reads p to c.in-Choose.b) (left_reads p to e) (record { sized = c.requires.sized; row_in = c.requires.row_in }) c.add_read-in-Choose.ensures.size first second third (ap (left_reads p to) c.in-Choose.is ∙ ap (λ (d : Denoted). d.reads) (denotes-Choose p to c.in-Choose.c c.in-Choose.a c.in-Choose.b))

pub add_read-returns-then-reads_object-clause-gained : goal.add_read-returns-then-reads_object-clause-gained
add_read-returns-then-reads_object-clause-gained t c =
    let p = c.args.g.now.program in
    let to = points_in c.args.g.now in
    let row = c.args.row in
    let e = c.args.e.now in
    let start = c.args.rows.now in
    two_read p row start c.add_found.new.rows c.add_named.new.rows (left_reads p to e) (taken p to steps.Done (named p to e)) (expr_reads p to e) (record { sized = c.requires.sized; row_in = c.requires.row_in }) c.add_found.ensures.gained c.add_named.ensures.gained (reads_both p to e (sym (c.reads_object.ensures to) ∙ c.if-reads_object.true))

pub add_read-returns-else-reads_object-clause-gained : goal.add_read-returns-else-reads_object-clause-gained
add_read-returns-else-reads_object-clause-gained t c =
    let p = c.args.g.now.program in
    let to = points_in c.args.g.now in
    let row = c.args.row in
    let e = c.args.e.now in
    let start = c.args.rows.now in
    c.add_found.ensures.gained ∙ ap (λ a. with_places p row a start) (sym (reads_found p to e (sym (c.reads_object.ensures to) ∙ c.if-reads_object.false)))

pub add_found-returns-after-is_array_place-clause-gained : goal.add_found-returns-after-is_array_place-clause-gained
add_found-returns-after-is_array_place-clause-gained t c =
    let p = c.args.g.now.program in
    let to = points_in c.args.g.now in
    let row = c.args.row in
    let e = c.args.e.now in
    let start = c.args.rows.now in
    let a = c.in-Index.a in
    let i = c.in-Index.i in
    let middle = c.if-is_array_place.rows in
    let second : c.add_read-in-Index.new.rows ≡ with_places p row (expr_reads p to i) middle = subst (λ x. c.add_read-in-Index.new.rows ≡ with_places p row (expr_reads p to x) middle) c.get-in-Index-2.ensures c.add_read-in-Index.ensures.gained in
    let test : c.is_array_place.result ≡ ((denoted p to a).form.is_place && is_array (tree_type p a)) = subst (λ x. c.is_array_place.result ≡ ((denoted p to x).form.is_place && is_array (tree_type p x))) c.get-in-Index.ensures (c.is_array_place.ensures to) in
    elim c.if-is_array_place.branch [
      | add_found-then-is_array_place w ↦
          let first : w.add_found-then-is_array_place.new.rows ≡ with_places p row (left_reads p to a) start = subst (λ x. w.add_found-then-is_array_place.new.rows ≡ with_places p row (left_reads p to x) start) w.get-then-is_array_place.ensures w.add_found-then-is_array_place.ensures.gained in
          two_read p row start middle c.add_read-in-Index.new.rows (left_reads p to a) (expr_reads p to i) (left_reads p to e) (record { sized = c.requires.sized; row_in = c.requires.row_in }) (w.rows-is ∙ first) second (reads_in_array p to e a i c.in-Index.is (sym test ∙ w.if-is_array_place.true))
      | add_found-else-is_array_place w ↦
          let first : w.add_read-else-is_array_place.new.rows ≡ with_places p row (expr_reads p to a) start = subst (λ x. w.add_read-else-is_array_place.new.rows ≡ with_places p row (expr_reads p to x) start) w.get-else-is_array_place.ensures w.add_read-else-is_array_place.ensures.gained in
          two_read p row start middle c.add_read-in-Index.new.rows (expr_reads p to a) (expr_reads p to i) (left_reads p to e) (record { sized = c.requires.sized; row_in = c.requires.row_in }) (w.rows-is ∙ first) second (reads_behind p to e a i c.in-Index.is (sym test ∙ w.if-is_array_place.false))
    ]
