use Rattle.std.proofs.Common.{◌≡◌, ◌<◌, ◌∙◌, ℕ, All, List, length, get_or, flat_map, Some, slice_get, sym, ap, subst}
use Rattle.std.proofs.lemmas.Option.{slice_get-get_or}
use Rattle.dep_model.specs.declared.edge.Edge.{Edge}
use Rattle.dep_model.specs.declared.vertex.Vertex.{Vertex}
use Rattle.dep_model.specs.declared.vertex.VertexKind.TheVariants.{Entry}
use Rattle.matched_paths.specs.StepRules.{step_rules}
use Rattle.forward_chop.proofs.PartLaws.{exits_in, rules_of_range, starts_in}
use Rattle.forward_chop.proofs.parts.rules_at.Goals as goal

abbrev none : Vertex
none = record { function = 0; kind = Entry }

pub function_rules-requires-clause-enters : goal.function_rules-requires-clause-enters
function_rules-requires-clause-enters c =
    let n = length c.args.places.now.numbers in
    subst (All (λ (e : Edge). e.to < n)) (sym c.of.ensures)
    (starts_in c.args.g.now c.args.index.now.starts c.args.index.now.exits c.requires.index (get_or c.as_slice.result.now c.args.range.first none).function n c.requires.places.numbers_long)

pub function_rules-requires-clause-leaves : goal.function_rules-requires-clause-leaves
function_rules-requires-clause-leaves c = λ k.
    exits_in c.args.g.now c.args.index.now.starts c.args.index.now.exits c.requires.index k (length c.args.places.now.rows) c.requires.places.rows_long

pub returns : goal.returns
returns c =
    let g = c.args.g.now in
    let s = c.args.range in
    let t = c.args.places.now in
    let starts = c.args.index.now.starts in
    let exits = c.args.index.now.exits in
    let ws = c.args.f.now.words in
    let x = get_or c.as_slice.result.now s.first none in
    let at : slice_get g.vertices s.first ≡ Some x = slice_get-get_or g.vertices s.first none c.requires.inside ∙ ap (λ (vs : List Vertex). Some (get_or vs s.first none)) (sym c.as_slice.ensures) in
    let made = c.in_ok-rules.ensures ∙ ap (λ (k : List ℕ). flat_map (step_rules s exits k t) c.of.result.now) c.as_slice-2.ensures ∙ ap (flat_map (step_rules s exits ws t)) c.of.ensures in
    rules_of_range g ws t s starts exits x c.in_ok-rules.rules.items c.requires.index c.requires.places at made
