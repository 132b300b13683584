use Rattle.std.proofs.Common.{ℕ, List, Contains, ap, subst, arith}
use Rattle.rule_closure.proofs.ListLemmas.{contains_none}
use Rattle.reaching_defs.specs.Listings.{Listing}
use Rattle.reaching_defs.proofs.MetLemmas.{met_are}
use Rattle.reaching_defs.proofs.from_vertex.find_by_rows.Goals as goal

pub spread-requires-clause-held : goal.spread-requires-clause-held
spread-requires-clause-held c = λ j low. let e = c.requires.row.inside j low in omega (arith, e, c.requires.rows.killed_wide)

pub collect_met-requires-clause-held : goal.collect_met-requires-clause-held
collect_met-requires-clause-held c = λ j low. let e = c.requires.row.inside j low in omega (arith, e, c.requires.rows.used_wide)

pub returns-clause-exact : goal.returns-clause-exact
returns-clause-exact c =
    let next = c.args.next.now in
    let s = c.args.s.now in
    let d = c.args.d.now in
    let none = ap (λ (x : Listing). x.members) c.clear.ensures in
    met_are next s d c.requires.row c.requires.next.inside c.spread.new.arrivals c.spread.ensures.searching c.spread.ensures.done c.clear.new.self.members c.collect_met.new.targets.members
    (λ w m. contains_none w (subst (λ (x : List ℕ). Contains x w) none m)) c.collect_met.ensures.exact
