-- The location at a place is a whole object, a part of one that is listed, or a part of one that isn't.
use Rattle.std.specs.Prelude.{MatchOption}
use Rattle.std.specs.List.{IsLastAndRest}
use Rattle.std.proofs.Common.{◌≡◌, subst, List, [], ◌∷◌, ◌++◌, length, refl, sym, ap, ◌∙◌, arith}
use Rattle.dep_model.specs.declared.location.Location.{Location}
use Rattle.dep_model.specs.declared.location.Part.{Part}
use Rattle.effect_rows.proofs.NotedLemmas.{no_steps, whole_noted, alone_noted, part_noted}
use Rattle.effect_rows.proofs.PlaceRows.{in_list}
use Rattle.effect_rows.proofs.tables.Tables.note.Goals as goal

pub returns-in-None : goal.returns-in-None
returns-in-None c =
    let m = c.at-location.result.now in
    let empty : length c.as_slice.result.now ≡ 0 = subst (λ o. MatchOption o (length c.as_slice.result.now ≡ 0) (λ q. IsLastAndRest c.as_slice.result.now q.0.now q.1.now)) c.in-None.is c.split_last.ensures.cases in
    let short : m.path ≡ [] = sym c.as_slice.ensures ∙ no_steps c.as_slice.result.now empty in
    whole_noted c.args.list.now c.args.place m c.at-location.ensures c.args.self.now c.note_whole.new.self c.requires.noted short c.in_ok-note_whole-in-None.ensures

pub note_part-requires : goal.note_part-requires
note_part-requires c =
    let low = in_list c.args.list.now c.in-Some-id.k _ c.in-Some-id.ensures.place in
    let rows = c.requires.noted.rows in
    omega (arith, low, rows)

pub returns-in-None-id : goal.returns-in-None-id
returns-in-None-id c =
    let m = c.at-location.result.now in
    let split : IsLastAndRest c.as_slice.result.now c.in-Some.last.now c.in-Some.outer.now = subst (λ o. MatchOption o (length c.as_slice.result.now ≡ 0) (λ q. IsLastAndRest c.as_slice.result.now q.0.now q.1.now)) c.in-Some.is c.split_last.ensures.cases in
    let is : m.path ≡ c.in-Some.outer.now ++ c.in-Some.last.now ∷ [] = sym c.as_slice.ensures ∙ split.0 in
    alone_noted c.args.list.now c.args.place m c.at-location.ensures c.args.self.now c.args.self.now c.requires.noted c.in-Some.outer.now c.in-Some.last.now _ is
    (ap (λ (hs : List Part). let l : Location = record { root = m.root; path = hs } in l) c.in_ok-from_slice-in-Some.ensures) (c.id.ensures.missing c.in-None-id.is) refl

pub returns : goal.returns
returns c =
    let m = c.at-location.result.now in
    let split : IsLastAndRest c.as_slice.result.now c.in-Some.last.now c.in-Some.outer.now = subst (λ o. MatchOption o (length c.as_slice.result.now ≡ 0) (λ q. IsLastAndRest c.as_slice.result.now q.0.now q.1.now)) c.in-Some.is c.split_last.ensures.cases in
    let is : m.path ≡ c.in-Some.outer.now ++ c.in-Some.last.now ∷ [] = sym c.as_slice.ensures ∙ split.0 in
    part_noted c.args.list.now c.args.place m c.at-location.ensures c.args.self.now c.note_part.new.self c.requires.noted c.requires.once c.in-Some.outer.now c.in-Some.last.now _ c.in-Some-id.k is
    (ap (λ (hs : List Part). let l : Location = record { root = m.root; path = hs } in l) c.in_ok-from_slice-in-Some.ensures) c.in-Some-id.ensures.place c.in_ok-note_part-in-Some-id.ensures
