use Rattle.std.proofs.Common.{◌≡◌, ◌-◌, ◌<◌, ℕ, true, false, Bool, List, length, set, replicate, sym, ap, ◌∙◌, subst, arith}
use Rattle.std.specs.Prelude.{IsTrue}
use Rattle.bit_rows.specs.Sets.{has}
use Rattle.matched_paths.proofs.ChainLaws.{back_of_derived, derived_of_back}
use Rattle.forward_chop.proofs.BackLaws.{only_has, only_is}
use Rattle.forward_chop.proofs.field.Field.look_ahead.Goals as goal

pub returns-clause-exact : goal.returns-clause-exact
returns-clause-exact c = λ k.
    let f = c.args.self.now in
    let j = c.args.vertex - f.range.first in
    let n = length f.reached in
    let seeds : c.add.new.self ≡ set (replicate n false) j true = c.add.ensures ∙ ap (λ (s : List Bool). set s j true) c.clear.ensures in
    let from = c.requires.inside.0 in
    let below = c.requires.inside.1 in
    let long = c.requires.fitted.reached_long in
    let low : j < n = omega (arith, from, below, long) in
    let here : IsTrue (has c.add.new.self j) = subst (λ (s : List Bool). IsTrue (has s j)) (sym seeds) (only_has n j low) in
    let one : (u : ℕ) → IsTrue (has c.add.new.self u) → u ≡ j = λ u h. only_is n j u (subst (λ (s : List Bool). IsTrue (has s u)) seeds h) in
    let e = c.close.ensures.exact k in
    (λ h. back_of_derived one (e.0 h), λ b. e.1 (derived_of_back here b))
