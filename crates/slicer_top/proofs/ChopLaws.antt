-- The texts of forward slices and of chops, from what the engine and the sets say.
use Rattle.std.proofs.Common.{◌≡◌, ◌↔◌, ℕ, ◌<◌, List, [], ◌∷◌, length, Bool, IsTrue, sym, ap, ◌∙◌, subst}
use Rattle.std.specs.Prelude.{All}
use Rattle.bit_rows.specs.Sets.{has}
use Rattle.c_tree.specs.declared.program.Program.{Program}
use Rattle.c_language.specs.Words.{Bytes}
use Rattle.dep_model.specs.declared.graph.Graph.{Graph}
use Rattle.dep_model.specs.declared.location.Location.{Location}
use Rattle.dep_model.specs.Graphs.{IsGraphOf}
use Rattle.dep_model.specs.LocationLists.{location_list}
use Rattle.forward_chop.specs.Chops.{IsForward, IsInChop}
use Rattle.graph_text.specs.Lines.{members_words}
use Rattle.slice_engine.specs.Engine.{AreVerticesIn, AreVerticesOf}
use Rattle.slice_engine.specs.Slice.{HasStart}
use Rattle.slice_engine.proofs.ProgramGraphs.{vertices_inside}
use Rattle.slicer_top.specs.Chops.{IsForwardIn, IsForwardText, IsChopIn, IsChopText, IsSetText}
use Rattle.slicer_top.specs.Criteria.{StartAt}
use Rattle.slicer_top.specs.Slices.{IsOneText}
use Rattle.slicer_top.proofs.CriteriaLaws.{two_start}

-- the numbers of a line's vertices, as a slice of them is seen, are inside of the graph
pub numbers_inside : (p : Program) (g : Graph) (line : ℕ) (numbers seen : List ℕ) → IsGraphOf p g → AreVerticesOf p line numbers → seen ≡ numbers → All (λ v. v < length g.vertices) seen
numbers_inside p g line numbers seen of_program are is = vertices_inside p g line seen (subst (AreVerticesIn p g line) (sym is) (are g of_program))

module _ (p q : Program) (list : List Location) (g : Graph) (set : List Bool) (written : Bytes) (same : q ≡ p) (list_is : list ≡ location_list p) (of_program : IsGraphOf p g)
    (is : written ≡ members_words q list g set) (size : length set ≡ length g.vertices) where
  set_text : (IsSet : Graph → List Bool → Type 0) → IsSet g set → IsSetText p IsSet written
  set_text IsSet holds = record {
    graph = g;
    is_graph = of_program;
    set = set;
    is_set = holds;
    is = is ∙ ap (λ r. members_words r list g set) same ∙ ap (λ (ls : List Location). members_words p ls g set) list_is;
  }

  pub forward_text : (line : ℕ) (numbers seen : List ℕ) → AreVerticesOf p line numbers → seen ≡ numbers → ((v : ℕ) → IsTrue (has set v) ↔ IsForward g.edges seen v) → IsForwardText p line written
  forward_text line numbers seen are is_seen exact =
      set_text (λ h s. IsForwardIn p h line s)
      (record { size = size; from = numbers; from_are = are g of_program; exact = subst (λ ns. (v : ℕ) → IsTrue (has set v) ↔ IsForward g.edges ns v) is_seen exact })

  pub chop_text : (first second : ℕ) (from seen to other : List ℕ) → AreVerticesOf p first from → seen ≡ from → AreVerticesOf p second to → other ≡ to
      → ((v : ℕ) → IsTrue (has set v) ↔ IsInChop g.edges seen other v) → IsChopText p first second written
  chop_text first second from seen to other from_are is_from to_are is_to exact =
      set_text (λ h s. IsChopIn p h first second s)
      (record {
        size = size;
        from = from;
        from_are = from_are g of_program;
        to = to;
        to_are = to_are g of_program;
        exact = subst (λ ns. (v : ℕ) → IsTrue (has set v) ↔ IsInChop g.edges from ns v) is_to (subst (λ ns. (v : ℕ) → IsTrue (has set v) ↔ IsInChop g.edges ns other v) is_from exact);
      })

-- the text of the criteria of two lines
pub two_written : (p : Program) (from to first second : ℕ) (texts : List Bytes) → first ≡ from → second ≡ to → HasStart p from → HasStart p to → IsOneText (IsChopText p first second) texts
    → StartAt p (from ∷ to ∷ []) × IsOneText (IsChopText p from to) texts
two_written p from to first second texts is_first is_second here there one = (
  two_start p from to here there,
  subst (λ l. IsOneText (IsChopText p from l) texts) is_second (subst (λ l. IsOneText (IsChopText p l second) texts) is_first one),
)
