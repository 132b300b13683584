-- The projection of a well-formed program of any form to a set that can be projected is well formed.
use Rattle.std.proofs.Common.{ℕ, Bool, List, refl, sym, ap, subst, ◌∙◌}
use Rattle.c_tree.specs.Unlined.{unlined_program, SameButLines}
use Rattle.c_tree.specs.declared.program.Program.{Program}
use Rattle.c_tree.specs.declared.raw.program.RawProgram.{RawProgram}
use Rattle.c_language.specs.Programs.{IsTree, HasProgram, IsWithinLimits, IsWellFormed}
use Rattle.c_language.specs.Scopes.{outset}
use Rattle.c_language.proofs.PhraseLists.{phrases_kept}
use Rattle.c_language.proofs.ProgramParts.{made_of}
use Rattle.text_syntax.proofs.Items.{text_is_syntax}
use Rattle.control_nesting.proofs.WellFormedSets.{closed_has_controllers, closed_is_nested, closed_has_entry}
use Rattle.dep_model.specs.declared.edge.Edge.{Edge}
use Rattle.dep_model.specs.ClosedSets.{IsProjectable}
use Rattle.dep_model.specs.SystemGraph.{Analysis, vertices_of, AreSystemEdges}
use Rattle.dep_model.specs.VertexOrder.{in_function}
use Rattle.projection.specs.Kept.{Kept}
use Rattle.projection.specs.KeptVertices.{kept_words, kept_of, projection}
use Rattle.projection.specs.Projection.{projected_program}
use Rattle.c_scope_laws.specs.ThinnedTexts.{KeepsText}
use Rattle.thinned_syntax.proofs.WellFormed.{thinned_well_formed}
use Rattle.projection_laws.specs.Staying.{IsClear}
use Rattle.projection_laws.proofs.SamePrograms.{program_unlined}
use Rattle.own_words.specs.OwnWords.{KeepsWords}
use Rattle.hanging_sets.specs.Hanging.{HangsTogether}
use Rattle.hanging_sets.specs.Laws.{CanProject}
use Rattle.hanging_sets.specs.OwnParts.{HasOwnParts}
use Rattle.hanging_sets.proofs.WellFormedSets.{well_formed_hang}
use Rattle.kept_texts.specs.KeptNames.{by_names}
use Rattle.kept_texts.proofs.ButLines.{hangs_too, own_too}
use Rattle.kept_texts.proofs.ClearPrograms.{program_clear}
use Rattle.kept_texts.proofs.ClosedTexts.{keeps_text, numbers_same}
use Rattle.kept_texts.proofs.HangingWords.{hanging_words}
use Rattle.kept_texts.proofs.LastReturns.{returns_there, returns_last}
use Rattle.kept_texts.proofs.WellFormedClear.{hanging_clear, parameters_own, parameters_once}

-- the program of the tree of a well-formed one
of_tree : (p : Program) (ok : IsWellFormed p) → IsWellFormed ok.same
of_tree p ok = record { raw = ok.raw; same = ok.same; tree = ok.tree; has = ok.has; within = ok.within; but_lines = refl }

-- a well-formed program's parameters and returns belong to one function each
pub own_parts : (p : Program) → IsWellFormed p → HasOwnParts p
own_parts p ok =
    own_too ok.same p (sym ok.but_lines) (record {
      parameters_own = parameters_own ok.same (of_tree p ok);
      parameters_once = parameters_once ok.same (of_tree p ok);
      returns_there = returns_there ok.raw ok.same ok.tree ok.has ok.within;
      returns_last = returns_last ok.raw ok.same ok.tree ok.has ok.within;
    })

-- what hangs together of the program of a text within the limits is a text
pub hanging_text : (raw : RawProgram) (p : Program) (k : Kept ℕ) → IsTree raw → HasProgram raw p → IsWithinLimits raw p → HangsTogether p k → KeepsText (by_names k raw) raw
hanging_text raw p k tree has within h =
    keeps_text raw p k tree has within h (program_clear raw p k h raw.items outset (tt, λ id r. tt) (phrases_kept raw has.rules) (made_of raw p has.program).functions)

text_projects : (raw : RawProgram) (p : Program) (k : Kept ℕ) → IsTree raw → HasProgram raw p → IsWithinLimits raw p → HangsTogether p k → IsWellFormed (projected_program k p)
text_projects raw p k tree has within h =
    let clear = program_clear raw p k h raw.items outset (tt, λ id r. tt) (phrases_kept raw has.rules) (made_of raw p has.program).functions in
    subst (λ (n : Kept ℕ). IsWellFormed (projected_program n p)) (numbers_same raw p k tree has within h clear)
    (thinned_well_formed (by_names k raw) raw p (text_is_syntax raw tree) has within (keeps_text raw p k tree has within h clear))

-- projections to what is kept of programs that are the same but for lines are the same but for lines
projected_same : (p q : Program) (k : Kept ℕ) → SameButLines p q → SameButLines (projected_program k p) (projected_program k q)
projected_same p q k same = sym (program_unlined k p) ∙ ap (λ (r : Program). unlined_program (projected_program k r)) same ∙ program_unlined k q

-- the projection to what hangs together is well formed
pub hanging_well_formed : (p : Program) (k : Kept ℕ) → IsWellFormed p → HangsTogether p k → IsWellFormed (projected_program k p)
hanging_well_formed p k ok h =
    let w = text_projects ok.raw ok.same k ok.tree ok.has ok.within (hangs_too p ok.same ok.but_lines k h) in
    record { raw = w.raw; same = w.same; tree = w.tree; has = w.has; within = w.within; but_lines = projected_same p ok.same k ok.but_lines ∙ w.but_lines }

-- ---- sets of vertices of the system graph

module _ (p : Program) (a : Analysis) (edges : List Edge) (set : List Bool) (ok : IsWellFormed p) (are : AreSystemEdges p a edges) (able : IsProjectable p (vertices_of p a) edges set) where
  -- a set that can be projected is nested, and has the entries of its functions
  pub can_project : CanProject p a set
  can_project =
      let controlled = closed_has_controllers p a edges set are able.closed in
      record {
        edges = edges;
        are_edges = are;
        projectable = able;
        nests = record {
          nested = closed_is_nested p a set ok controlled;
          entries = λ f v u kind at member there. (closed_has_entry p a set f v ok controlled (record { vertex = in_function f kind; at = at; in_function = refl }) member).entry u there;
        };
      }

  -- what it keeps hangs together
  pub projectable_hangs : HangsTogether p (kept_of set (vertices_of p a) p)
  projectable_hangs = well_formed_hang p a set ok (own_parts p ok) can_project

  -- and the projection to it is well formed
  pub projection_well_formed : IsWellFormed (projection p (vertices_of p a) set)
  projection_well_formed = hanging_well_formed p (kept_of set (vertices_of p a) p) ok projectable_hangs

  pub projection_clear : IsClear (kept_words set (vertices_of p a)).statement (kept_of set (vertices_of p a) p).variable p
  projection_clear = hanging_clear p (kept_of set (vertices_of p a) p) ok projectable_hangs

  -- each statement that it keeps has its own words
  pub projection_words : KeepsWords p (kept_of set (vertices_of p a) p)
  projection_words = hanging_words p (kept_of set (vertices_of p a) p) projectable_hangs ok
