use Rattle.std.proofs.Common.{◌≡◌, ◌↔◌, true, ◌<◌, ◌≤◌, List, ℕ, length, get_or, slice_get, Some, sym, ap, ◌∙◌, subst, arith}
use Rattle.std.specs.declared.alloc.Global.{Global}
use Rattle.std.specs.declared.vec.Vec.{Vec}
use Rattle.std.proofs.lemmas.Bool.{iff_false}
use Rattle.std.proofs.lemmas.Option.{same_Some, slice_get-get_or}
use Rattle.dep_model.specs.declared.edge.Edge.{Edge}
use Rattle.dep_model.specs.declared.vertex.Vertex.{Vertex}
use Rattle.dep_model.specs.declared.vertex.VertexKind.TheVariants.{Entry, Call}
use Rattle.dep_model.specs.VertexOrder.{in_function}
use Rattle.sdg.specs.declared.vertex_lists.Grouping.TheVariants.{Calls}
use Rattle.sdg.specs.SiteEdges.{Adds, IsEdgeAt}
use Rattle.sdg.specs.VertexLists.{list_at}
use Rattle.sdg.proofs.AddLemmas.{turns_more, turns_end}
use Rattle.sdg.proofs.PlaceLaws.{listed_within}
use Rattle.sdg.proofs.SiteTurns.{IsCallAt, call_at, no_call_at, site_all}
use Rattle.sdg.proofs.call_edges.join_site.Goals as goal
use Rattle.sdg.proofs.call_edges.join_site.Goals.{then-is_call_of+in_ok-join_call, else-is_call_of}

abbrev none : Vertex
none = record { function = 0; kind = Entry }

pub bounds-vertices-vertex : goal.bounds-vertices-vertex
bounds-vertices-vertex c =
    let i = c.loop-vertex.vertex-index in
    let within = listed_within Calls c.args.vertices.now c.args.places.now.calls c.args.site.statement c.requires.places.calls_are i 0 in
    subst (λ (r : List ℕ). i < length r → get_or r i 0 < length c.args.vertices.now) (sym c.at-vertex-items.ensures) within c.loop-vertex-test.true

pub loop-vertex-preserved : goal.loop-vertex-preserved
loop-vertex-preserved c =
    let l = c.loop-vertex in
    let vs = c.args.vertices.now in
    let t = c.args.places.now in
    let site = c.args.site in
    let are = c.requires.places in
    let i = l.vertex-index in
    let xs = list_at t.calls site.statement in
    let low = subst (λ (r : List ℕ). i < length r) c.at-vertex-items.ensures c.loop-vertex-test.true in
    let n = get_or xs i 0 in
    let x = get_or vs n none in
    let at : slice_get vs n ≡ Some x = slice_get-get_or vs n none (listed_within Calls vs t.calls site.statement are.calls_are i 0 low) in
    let told : (c.is_call_of.result ≡ true) ↔ (x ≡ in_function site.function (Call site.statement)) =
    subst (λ (r : List ℕ). (c.is_call_of.result ≡ true) ↔ (get_or vs (get_or r i 0) none ≡ in_function site.function (Call site.statement))) c.at-vertex-items.ensures c.is_call_of.ensures in
    let turn : Adds l.edges.items c.if-is_call_of.edges.items (IsCallAt vs site n) = elim c.if-is_call_of.branch [
      | then-is_call_of+in_ok-join_call w ↦
          let here = at ∙ ap (λ (y : Vertex). Some y) (told.0 w.if-is_call_of.true) in
          let adds : Adds l.edges.items w.join_call.new.edges.items (IsEdgeAt vs site n) =
          subst (λ (r : List ℕ). Adds l.edges.items w.join_call.new.edges.items (IsEdgeAt vs site (get_or r i 0))) c.at-vertex-items.ensures w.in_ok-join_call.ensures in
          subst (λ (v : Vec Edge Global). Adds l.edges.items v.items (IsCallAt vs site n)) (sym w.edges-is) (call_at vs t site are n l.edges.items w.join_call.new.edges.items here adds)
      | else-is_call_of w ↦
          no_call_at vs t site are n l.edges.items c.if-is_call_of.edges.items (λ h. iff_false told w.if-is_call_of.false (same_Some _ _ (sym at ∙ h))) (ap (λ (v : Vec Edge Global). v.items) w.edges-is)
    ] in
    turns_more (IsCallAt vs site) xs c.args.edges.now.items i 0 l.edges.items c.if-is_call_of.edges.items low l.invariant turn

pub returns : goal.returns
returns c =
    let l = c.loop-vertex in
    let i = l.vertex-index in
    let xs = list_at c.args.places.now.calls c.args.site.statement in
    let high = subst (λ (r : List ℕ). length r ≤ i) c.at-vertex-items.ensures (omega (arith, c.loop-vertex-test.false)) in
    site_all c.args.vertices.now c.args.places.now c.args.site c.requires.places c.args.edges.now.items l.edges.items
    (turns_end (IsCallAt c.args.vertices.now c.args.site) xs c.args.edges.now.items i l.edges.items high l.invariant)
