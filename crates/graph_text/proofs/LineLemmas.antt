-- Loops that append the lines of those vertices that a set has.
use Rattle.std.proofs.Common.{◌≡◌, ℕ, suc, ◌+◌, ◌<◌, Bool, true, false, List, ◌++◌, length, drop, get_or, append_assoc, append-nil, arith, sym, ap, ap₂, ◌∙◌}
use Rattle.std.proofs.lemmas.List.{drop_more}
use Rattle.c_tree.specs.declared.program.Program.{Program}
use Rattle.c_language.specs.Words.{Bytes}
use Rattle.dep_model.specs.declared.location.Location.{Location}
use Rattle.dep_model.specs.declared.vertex.Vertex.{Vertex}
use Rattle.dep_model.specs.declared.vertex.VertexKind.TheVariants.{Entry}
use Rattle.graph_text.specs.declared.rows.Row.{Row}
use Rattle.graph_text.specs.Lines.{vertex_line, member_line, member_lines}

module _ (p : Program) (rows : List Row) (ls : List Location) (set : List Bool) (vs : List Vertex) (n : ℕ) where
  -- one vertex more
  members_turn : (d : Vertex) (text new all : Bytes) → n < length set → n < length vs → new ≡ text ++ member_line p rows ls (get_or set n false) n (get_or vs n d)
      → text ++ member_lines p rows ls n (drop n set) (drop n vs) ≡ all → new ++ member_lines p rows ls (n + 1) (drop (n + 1) set) (drop (n + 1) vs) ≡ all
  members_turn d text new all h k grown before =
      let b = get_or set n false in
      let v = get_or vs n d in
      let bs = drop (n + 1) set in
      let ws = drop (n + 1) vs in
      let next : n + 1 ≡ suc n = omega arith in
      ap (λ found. found ++ member_lines p rows ls (n + 1) bs ws) grown
      ∙ append_assoc text (member_line p rows ls b n v) (member_lines p rows ls (n + 1) bs ws)
      ∙ ap (λ k. text ++ (member_line p rows ls b n v ++ member_lines p rows ls k bs ws)) next
      ∙ sym (ap₂ (λ x y. text ++ member_lines p rows ls n x y) (drop_more set n false h) (drop_more vs n d k)) ∙ before

  -- one that the set has
  pub member_turn : (d : Vertex) (text new all : Bytes) → n < length set → n < length vs → get_or set n false ≡ true → new ≡ text ++ vertex_line p rows ls n (get_or vs n d)
      → text ++ member_lines p rows ls n (drop n set) (drop n vs) ≡ all → new ++ member_lines p rows ls (n + 1) (drop (n + 1) set) (drop (n + 1) vs) ≡ all
  member_turn d text new all h k is grown before =
      members_turn d text new all h k (grown ∙ ap (λ b. text ++ member_line p rows ls b n (get_or vs n d)) (sym is)) before

  -- one that it hasn't
  pub other_turn : (text new all : Bytes) → n < length set → n < length vs → get_or set n false ≡ false → new ≡ text
      → text ++ member_lines p rows ls n (drop n set) (drop n vs) ≡ all → new ++ member_lines p rows ls (n + 1) (drop (n + 1) set) (drop (n + 1) vs) ≡ all
  other_turn text new all h k is same before =
      let d : Vertex = record { function = 0; kind = Entry } in
      members_turn d text new all h k (same ∙ sym (append-nil text) ∙ ap (λ b. text ++ member_line p rows ls b n (get_or vs n d)) (sym is)) before
