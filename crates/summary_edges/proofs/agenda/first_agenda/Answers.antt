use Rattle.std.proofs.Common.{◌≡◌, ◌<◌, ℕ, All, List, Contains, length, map, sym, ap, ◌∙◌, subst, arith, rules}
use Rattle.std.specs.Prelude.{vec_len}
use Rattle.summary_edges.specs.Agendas.{number_at}
use Rattle.summary_edges.proofs.FunctionLaws.{numbers_all}
use Rattle.summary_edges.proofs.agenda.first_agenda.Goals as goal
use Rattle.summary_edges.proofs.agenda.first_agenda.Goals.{In_ok-places}

pub all_places-requires : goal.all_places-requires
all_places-requires c =
    let few = c.requires.parts.few in
    let most = c.requires.shaped.few_vertices in
    let size : vec_len c.args.parts.now.list ≡ length c.args.parts.now.list.items = search rules in
    let long = c.len.ensures in
    record { few = omega (arith, few, most, size, long) }

count_is : (c : In_ok-places) → c.len.result ≡ length c.args.parts.now.list.items
count_is c = let size : vec_len c.args.parts.now.list ≡ length c.args.parts.now.list.items = search rules in c.len.ensures ∙ size

pub numbers_of-requires-clause-places : goal.numbers_of-requires-clause-places
numbers_of-requires-clause-places c =
    let inside = subst (λ (n : ℕ). All (λ p. p < n) c.in_ok-places.places.items) (count_is (goal.at.numbers_of-requires-clause-places c).In_ok-places) c.in_ok-places.ensures.inside in
    subst (λ (ps : List ℕ). All (λ p. p < length c.args.parts.now.list.items) ps) (sym c.as_slice.ensures.value) inside

pub returns : goal.returns
returns c =
    let g = c.args.g.now in
    let parts = c.args.parts.now in
    let places = c.in_ok-places.places.items in
    let n = count_is (goal.at.returns c).In_ok-places in
    let inside : All (λ p. p < length parts.list.items) places = subst (λ (k : ℕ). All (λ p. p < k) places) n c.in_ok-places.ensures.inside in
    let all : (p : ℕ) → p < length parts.list.items → Contains places p = subst (λ (k : ℕ). (p : ℕ) → p < k → Contains places p) n c.in_ok-places.ensures.all in
    let is = c.in_ok-numbers.ensures ∙ ap (map (number_at g parts)) c.as_slice.ensures.value in
    record {
      ascending = c.ascend.ensures.ascending;
      all = λ (f : ℕ).
          let exact = numbers_all g c.requires.shaped parts c.requires.parts places inside all f in
          let same = c.ascend.ensures.same f in (
            λ m. exact.0 (subst (λ (ns : List ℕ). Contains ns f) is (same.0 m)),
            λ has. same.1 (subst (λ (ns : List ℕ). Contains ns f) (sym is) (exact.1 has)),
          );
    }
