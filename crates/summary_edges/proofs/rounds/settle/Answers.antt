use Rattle.std.proofs.Common.{◌≡◌, ◌≢◌, ◌≤◌, ℕ, List, All, Contains, length, sym, ap, subst, arith, rules}
use Rattle.std.specs.Prelude.{vec_len}
use Rattle.std.specs.List.{AllPairs}
use Rattle.std.proofs.lemmas.Bool.Decides.{nat_tests}
use Rattle.crew.specs.SharedWords.{AreWithin}
use Rattle.dep_model.specs.declared.graph.Graph.{Graph}
use Rattle.dep_model.specs.Facts.{AreFactWords}
use Rattle.summary_edges.specs.Agendas.{HasGainedBit}
use Rattle.summary_edges.specs.FactMachine.{IsFunction, IsLaterAgenda}
use Rattle.summary_edges.specs.Rounds.{AreSound, IsRoundTaken}
use Rattle.summary_edges.proofs.FunctionLaws.{few_functions}
use Rattle.summary_edges.proofs.RoundLaws.{once_each, settling_goes, settling_smaller, settling_ends, sound_words, one_at_least, none_left}
use Rattle.summary_edges.proofs.rounds.settle.Goals as goal
use Rattle.summary_edges.proofs.rounds.settle.Goals.{In_ok-after, In_ok-agenda}

pub loop-alloc-init : goal.loop-alloc-init
loop-alloc-init g c = record {
  functions = c.requires.functions;
  ascending = c.requires.ascending;
  sound = c.requires.sound;
  others = c.requires.others;
}

-- the agenda that is shared out has a function
pub round-requires-clause-some : goal.round-requires-clause-some
round-requires-clause-some g c κs within =
    let agenda = c.loop-alloc.agenda.items in
    let test = c.loop-alloc-test.true in
    let empty = c.is_empty.ensures in
    let size : vec_len c.loop-alloc.agenda ≡ length agenda = search rules in
    let same = ap (λ (xs : List ℕ). length xs) c.as_slice.ensures.value in
    let one : 1 ≤ length agenda = grind (arith, nat_tests, test, empty, size) in
    omega (arith, same, one)

pub round-requires-clause-few : goal.round-requires-clause-few
round-requires-clause-few g c κs within =
    let inv = c.loop-alloc.invariant in
    let agenda = c.loop-alloc.agenda.items in
    let few = few_functions c.args.g.now agenda inv.functions (once_each agenda inv.ascending) in
    let most = c.requires.index.shaped.few_vertices in
    let same = ap (λ (xs : List ℕ). length xs) c.as_slice.ensures.value in
    omega (arith, few, most, same)

pub round-requires-clause-functions : goal.round-requires-clause-functions
round-requires-clause-functions g c κs within = subst (All (IsFunction c.args.g.now)) (sym c.as_slice.ensures.value) c.loop-alloc.invariant.functions

pub round-requires-clause-once : goal.round-requires-clause-once
round-requires-clause-once g c κs within = subst (AllPairs (λ f h. f ≢ h)) (sym c.as_slice.ensures.value) (once_each c.loop-alloc.agenda.items c.loop-alloc.invariant.ascending)

pub round-requires-clause-sound : goal.round-requires-clause-sound
round-requires-clause-sound g c κs within = subst (AreSound c.args.g.now) (sym c.as_slice-in-loop-alloc.ensures.value) c.loop-alloc.invariant.sound

-- what the round gives
taken : (g : _) (c : In_ok-after g) → IsRoundTaken c.args.g.now c.loop-alloc.agenda.items c.loop-alloc.words.items c.in_ok-after.after.items
taken g c =
    let after = c.in_ok-after.after.items in
    subst (λ ws. IsRoundTaken c.args.g.now c.loop-alloc.agenda.items ws after) c.as_slice-in-loop-alloc.ensures.value
    (subst (λ fs. IsRoundTaken c.args.g.now fs c.as_slice-in-loop-alloc.result.now after) c.as_slice.ensures.value c.in_ok-after.ensures)

pub later_agenda-requires-clause-before : goal.later_agenda-requires-clause-before
later_agenda-requires-clause-before g c =
    subst (AreFactWords c.args.g.now) (sym c.as_slice-in-loop-alloc-2.ensures.value) (sound_words c.args.g.now c.requires.index.shaped c.loop-alloc.words.items c.loop-alloc.invariant.sound)

pub later_agenda-requires-clause-after : goal.later_agenda-requires-clause-after
later_agenda-requires-clause-after g c =
    let r = taken g (goal.at.later_agenda-requires-clause-after g c).In_ok-after in
    subst (AreFactWords c.args.g.now) (sym c.as_slice-in-loop-alloc-3.ensures.value) (sound_words c.args.g.now c.requires.index.shaped c.in_ok-after.after.items r.sound)

-- the next agenda, and that there is something new where it has a function
abbrev IsNext : Graph → List ℕ → List ℕ → List ℕ → Type 0
IsNext g next before after = IsLaterAgenda g before after next × ((f : ℕ) → Contains next f → AreWithin before after → HasGainedBit before after)

next_is : (g : _) (c : In_ok-agenda g) → IsNext c.args.g.now c.in_ok-agenda.agenda.items c.loop-alloc.words.items c.in_ok-after.after.items
next_is g c =
    let e = c.in_ok-agenda.ensures in
    let next = c.in_ok-agenda.agenda.items in
    subst (λ ws. IsNext c.args.g.now next ws c.in_ok-after.after.items) c.as_slice-in-loop-alloc-2.ensures.value
    (subst (λ us. IsNext c.args.g.now next c.as_slice-in-loop-alloc-2.result.now us) c.as_slice-in-loop-alloc-3.ensures.value (e.agenda, e.gained))

pub loop-alloc-smaller : goal.loop-alloc-smaller
loop-alloc-smaller g c =
    let at = goal.at.loop-alloc-smaller g c in
    let agenda = c.loop-alloc.agenda.items in
    let test = c.loop-alloc-test.true in
    let empty = c.is_empty.ensures in
    let size : vec_len c.loop-alloc.agenda ≡ length agenda = search rules in
    let one : 1 ≤ length agenda = grind (arith, nat_tests, test, empty, size) in
    let next = next_is g at.In_ok-agenda in
    settling_smaller c.args.g.now c.requires.index.shaped agenda c.loop-alloc.words.items c.in_ok-after.after.items c.in_ok-agenda.agenda.items c.loop-alloc.invariant (taken g at.In_ok-after) next.0 (one_at_least agenda one) next.1

pub loop-alloc-preserved : goal.loop-alloc-preserved
loop-alloc-preserved g c =
    let at = goal.at.loop-alloc-preserved g c in
    settling_goes c.args.g.now c.requires.index.shaped c.loop-alloc.agenda.items c.loop-alloc.words.items c.in_ok-after.after.items c.in_ok-agenda.agenda.items c.loop-alloc.invariant (taken g at.In_ok-after) (next_is g at.In_ok-agenda).0

pub returns : goal.returns
returns g c =
    let agenda = c.loop-alloc.agenda.items in
    let test = c.loop-alloc-test.false in
    let empty = c.is_empty.ensures in
    let size : vec_len c.loop-alloc.agenda ≡ length agenda = search rules in
    let none : length agenda ≡ 0 = grind (arith, nat_tests, test, empty, size) in
    record { exact = settling_ends c.args.g.now c.requires.index.shaped agenda c.loop-alloc.words.items (none_left agenda none) c.loop-alloc.invariant }
