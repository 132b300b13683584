-- What an expression names is added form by form.
use Rattle.std.proofs.Common.{◌≡◌, false, refl, sym, ap, ◌∙◌, subst}
use Rattle.dep_model.specs.Denoted.{denoted, value_points}
use Rattle.effect_rows.specs.Gains.{with_places}
use Rattle.effect_rows.specs.Named.{named_by, named}
use Rattle.effect_rows.specs.Pointed.{points_in}
use Rattle.effect_rows.specs.Steps.{taken}
use Rattle.effect_rows.proofs.DenotedForms.{denotes-Constant, denotes-Null, denotes-Eof, denotes-Unary, denotes-AndAlso, denotes-OrElse, denotes-Cast}
use Rattle.effect_rows.proofs.NamedForms.{nothing_gained, both_gained, no_member, named-Index, binary_points, choice_points}
use Rattle.effect_rows.proofs.NamedLemmas.{named-AddressOf, no_object}
use Rattle.effect_rows.proofs.expressions.+named.Goals as goal

pub add_named-returns-in-Constant-clause-gained : goal.add_named-returns-in-Constant-clause-gained
add_named-returns-in-Constant-clause-gained t c =
    let p = c.args.g.now.program in
    let to = points_in c.args.g.now in
    nothing_gained p to c.args.row c.args.steps.now c.args.rows.now (named p to c.args.e.now) (ap (named p to) c.in-Constant.is ∙ ap named_by (denotes-Constant p to _ _ _))

pub add_named-returns-in-Null-clause-gained : goal.add_named-returns-in-Null-clause-gained
add_named-returns-in-Null-clause-gained t c =
    let p = c.args.g.now.program in
    let to = points_in c.args.g.now in
    nothing_gained p to c.args.row c.args.steps.now c.args.rows.now (named p to c.args.e.now) (ap (named p to) c.in-Null.is ∙ ap named_by (denotes-Null p to))

pub add_named-returns-in-Eof-clause-gained : goal.add_named-returns-in-Eof-clause-gained
add_named-returns-in-Eof-clause-gained t c =
    let p = c.args.g.now.program in
    let to = points_in c.args.g.now in
    nothing_gained p to c.args.row c.args.steps.now c.args.rows.now (named p to c.args.e.now) (ap (named p to) c.in-Eof.is ∙ ap named_by (denotes-Eof p to))

pub add_named-returns-in-Unary-clause-gained : goal.add_named-returns-in-Unary-clause-gained
add_named-returns-in-Unary-clause-gained t c =
    let p = c.args.g.now.program in
    let to = points_in c.args.g.now in
    nothing_gained p to c.args.row c.args.steps.now c.args.rows.now (named p to c.args.e.now) (ap (named p to) c.in-Unary.is ∙ ap named_by (denotes-Unary p to _ _))

pub add_named-returns-in-AndAlso-clause-gained : goal.add_named-returns-in-AndAlso-clause-gained
add_named-returns-in-AndAlso-clause-gained t c =
    let p = c.args.g.now.program in
    let to = points_in c.args.g.now in
    nothing_gained p to c.args.row c.args.steps.now c.args.rows.now (named p to c.args.e.now) (ap (named p to) c.in-AndAlso.is ∙ ap named_by (denotes-AndAlso p to _ _))

pub add_named-returns-in-OrElse-clause-gained : goal.add_named-returns-in-OrElse-clause-gained
add_named-returns-in-OrElse-clause-gained t c =
    let p = c.args.g.now.program in
    let to = points_in c.args.g.now in
    nothing_gained p to c.args.row c.args.steps.now c.args.rows.now (named p to c.args.e.now) (ap (named p to) c.in-OrElse.is ∙ ap named_by (denotes-OrElse p to _ _))

pub add_named-returns-in-Cast-clause-gained : goal.add_named-returns-in-Cast-clause-gained
add_named-returns-in-Cast-clause-gained t c =
    let p = c.args.g.now.program in
    let to = points_in c.args.g.now in
    nothing_gained p to c.args.row c.args.steps.now c.args.rows.now (named p to c.args.e.now) (ap (named p to) c.in-Cast.is ∙ ap named_by (denotes-Cast p to _ _))

pub add_named-returns-else-is_place-clause-gained : goal.add_named-returns-else-is_place-clause-gained
add_named-returns-else-is_place-clause-gained t c =
    let p = c.args.g.now.program in
    let to = points_in c.args.g.now in
    nothing_gained p to c.args.row c.args.steps.now c.args.rows.now (named p to c.args.e.now) (ap (named p to) c.in-AddressOf.is ∙ named-AddressOf p to c.in-AddressOf.a ∙ no_object p to c.in-AddressOf.a (subst (λ x. (denoted p to x).form.is_place ≡ false) c.get-in-AddressOf.ensures (sym (c.is_place.ensures p to) ∙ c.if-is_place.false)))

pub add_named-returns-else-is_place-2-clause-gained : goal.add_named-returns-else-is_place-2-clause-gained
add_named-returns-else-is_place-2-clause-gained t c =
    let p = c.args.g.now.program in
    let to = points_in c.args.g.now in
    nothing_gained p to c.args.row c.args.steps.now c.args.rows.now (named p to c.args.e.now) (ap (named p to) c.in-Member.is ∙ no_member p to c.in-Member.a c.in-Member.m (subst (λ x. (denoted p to x).form.is_place ≡ false) c.get-in-Member.ensures (sym (c.is_place-in-Member.ensures p to) ∙ c.if-is_place-2.false)))

pub add_named-returns-else-points-clause-gained : goal.add_named-returns-else-points-clause-gained
add_named-returns-else-points-clause-gained t c =
    let p = c.args.g.now.program in
    let to = points_in c.args.g.now in
    nothing_gained p to c.args.row c.args.steps.now c.args.rows.now (named p to c.args.e.now) (binary_points p to c.args.e.now _ _ _ _ c.in-Binary.is (sym c.points.ensures ∙ c.if-points.false))

pub add_named-returns-else-points-2-clause-gained : goal.add_named-returns-else-points-2-clause-gained
add_named-returns-else-points-2-clause-gained t c =
    let p = c.args.g.now.program in
    let to = points_in c.args.g.now in
    nothing_gained p to c.args.row c.args.steps.now c.args.rows.now (named p to c.args.e.now) (choice_points p to c.args.e.now _ _ _ _ c.in-Choose.is (sym c.points-in-Choose.ensures ∙ c.if-points-2.false))

pub add_named-returns-then-points-clause-gained : goal.add_named-returns-then-points-clause-gained
add_named-returns-then-points-clause-gained t c =
    let p = c.args.g.now.program in
    let to = points_in c.args.g.now in
    let row = c.args.row in
    let steps = c.args.steps.now in
    let left = taken p to steps (value_points p to (denoted p to c.in-Binary.a)) in
    let right = taken p to steps (value_points p to (denoted p to c.in-Binary.b)) in
    let first : c.add_value-then-points.new.rows ≡ with_places p row left c.args.rows.now =
    subst (λ x. c.add_value-then-points.new.rows ≡ with_places p row (taken p to steps (value_points p to (denoted p to x))) c.args.rows.now) c.get-then-points.ensures c.add_value-then-points.ensures.gained in
    let second : c.add_value-then-points-2.new.rows ≡ with_places p row right c.add_value-then-points.new.rows =
    subst (λ x. c.add_value-then-points-2.new.rows ≡ with_places p row (taken p to steps (value_points p to (denoted p to x))) c.add_value-then-points.new.rows) c.get-then-points-2.ensures c.add_value-then-points-2.ensures.gained in
    both_gained p to row steps c.args.rows.now c.add_value-then-points.new.rows c.add_value-then-points-2.new.rows left right (value_points p to (denoted p to c.in-Binary.a)) (value_points p to (denoted p to c.in-Binary.b)) (named p to c.args.e.now)
    (record { sized = c.requires.sized; row_in = c.requires.row_in }) first refl second refl (binary_points p to c.args.e.now _ _ _ _ c.in-Binary.is (sym c.points.ensures ∙ c.if-points.true))

pub add_named-returns-then-points-2-clause-gained : goal.add_named-returns-then-points-2-clause-gained
add_named-returns-then-points-2-clause-gained t c =
    let p = c.args.g.now.program in
    let to = points_in c.args.g.now in
    let row = c.args.row in
    let steps = c.args.steps.now in
    let left = taken p to steps (value_points p to (denoted p to c.in-Choose.a)) in
    let right = taken p to steps (value_points p to (denoted p to c.in-Choose.b)) in
    let first : c.add_value-then-points-2-2.new.rows ≡ with_places p row left c.args.rows.now =
    subst (λ x. c.add_value-then-points-2-2.new.rows ≡ with_places p row (taken p to steps (value_points p to (denoted p to x))) c.args.rows.now) c.get-then-points-2-2.ensures c.add_value-then-points-2-2.ensures.gained in
    let second : c.add_value-then-points-2-3.new.rows ≡ with_places p row right c.add_value-then-points-2-2.new.rows =
    subst (λ x. c.add_value-then-points-2-3.new.rows ≡ with_places p row (taken p to steps (value_points p to (denoted p to x))) c.add_value-then-points-2-2.new.rows) c.get-then-points-2-3.ensures c.add_value-then-points-2-3.ensures.gained in
    both_gained p to row steps c.args.rows.now c.add_value-then-points-2-2.new.rows c.add_value-then-points-2-3.new.rows left right (value_points p to (denoted p to c.in-Choose.a)) (value_points p to (denoted p to c.in-Choose.b)) (named p to c.args.e.now)
    (record { sized = c.requires.sized; row_in = c.requires.row_in }) first refl second refl (choice_points p to c.args.e.now _ _ _ _ c.in-Choose.is (sym c.points-in-Choose.ensures ∙ c.if-points-2.true))

pub add_named-returns-in-Index-clause-gained : goal.add_named-returns-in-Index-clause-gained
add_named-returns-in-Index-clause-gained t c =
    let p = c.args.g.now.program in
    let to = points_in c.args.g.now in
    let row = c.args.row in
    let steps = c.args.steps.now in
    let gained : c.add_value-in-Index.new.rows ≡ with_places p row (taken p to steps (value_points p to (denoted p to c.in-Index.a))) c.args.rows.now =
    subst (λ x. c.add_value-in-Index.new.rows ≡ with_places p row (taken p to steps (value_points p to (denoted p to x))) c.args.rows.now) c.get-in-Index.ensures c.add_value-in-Index.ensures.gained in
    gained ∙ ap (λ a. with_places p row (taken p to steps a) c.args.rows.now) (sym (ap (named p to) c.in-Index.is ∙ named-Index p to c.in-Index.a _))
