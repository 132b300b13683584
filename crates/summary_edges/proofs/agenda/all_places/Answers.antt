use Rattle.std.proofs.Common.{◌+◌, ◌<◌, ◌++◌, [], ◌∷◌, ℕ, List, All, Contains, inl, inr, sym, subst, arith}
use Rattle.std.proofs.lemmas.Bool.{cases_eq}
use Rattle.std.proofs.lemmas.List.Elements.{All-push, Contains-append_left, Contains-append_right}
use Rattle.rule_closure.proofs.ListLemmas.{contains_head}
use Rattle.summary_edges.proofs.agenda.all_places.Goals as goal

pub overflow_cast-place : goal.overflow_cast-place
overflow_cast-place c =
    let low = c.loop-place-test.true in
    let few = c.requires.few in
    omega (arith, low, few)

pub loop-place-preserved : goal.loop-place-preserved
loop-place-preserved c =
    let n = c.args.functions in
    let places = c.loop-place.places.items in
    let place = c.loop-place.place in
    let h = c.loop-place.invariant in
    let low = c.loop-place-test.true in
    subst (λ (ps : List ℕ). All (λ p. p < n) ps × ((p : ℕ) → p < place + 1 → Contains ps p)) (sym c.in_ok-push.ensures.items) (
      All-push (λ p. p < n) places place h.0 low,
      λ p below. elim (cases_eq p place) [
        | inl same ↦ subst (Contains (places ++ place ∷ [])) (sym same) (Contains-append_right places (place ∷ []) place (contains_head place []))
        | inr other ↦ Contains-append_left places (place ∷ []) p (h.1 p (omega (arith, below, other)))
      ],
    )

pub returns-clause-all : goal.returns-clause-all
returns-clause-all c = λ p low. let ended = c.loop-place-test.false in c.loop-place.invariant.1 p (omega (arith, ended, low))
