-- What lists of edges ask for, edge by edge.
use Rattle.std.proofs.Common.{◌≡◌, ℕ, ◌⊎◌, ◌↔◌, inl, inr, List, [], ◌∷◌, ◌++◌, Contains}
use Rattle.std.proofs.lemmas.List.Elements.{Contains-append_left, Contains-append_right, Contains-append_cases}
use Rattle.rule_closure.proofs.ListLemmas.{contains_none, contains_cases}
use Rattle.dep_model.specs.declared.edge.Edge.{Edge}
use Rattle.dep_model.specs.declared.edge.Label.TheVariants.{Control}
use Rattle.forward_chop.specs.declared.field.Field.{Field}
use Rattle.forward_chop.specs.Fields.{LeavesFrom, AsksFrom}

abbrev pub no_edge : Edge
no_edge = record { from = 0; to = 0; label = Control }

module _ (f : Field) (base : ℕ) where
  pub leaves_none : (enter x o : ℕ) → LeavesFrom f base enter [] x o → ⊥
  leaves_none enter x o h = contains_none h.leave h.listed

  pub leaves_more : (enter : ℕ) (es more : List Edge) (x o : ℕ) → (LeavesFrom f base enter es x o ⊎ LeavesFrom f base enter more x o) ↔ LeavesFrom f base enter (es ++ more) x o
  leaves_more enter es more x o = (
    λ s. elim s [
      | inl h ↦ record { leave = h.leave; listed = Contains-append_left es more h.leave h.listed; behind = h.behind; x_is = h.x_is; o_is = h.o_is }
      | inr h ↦ record { leave = h.leave; listed = Contains-append_right es more h.leave h.listed; behind = h.behind; x_is = h.x_is; o_is = h.o_is }
    ],
    λ h. elim (Contains-append_cases es more h.leave h.listed) [
      | inl m ↦ inl (record { leave = h.leave; listed = m; behind = h.behind; x_is = h.x_is; o_is = h.o_is })
      | inr m ↦ inr (record { leave = h.leave; listed = m; behind = h.behind; x_is = h.x_is; o_is = h.o_is })
    ],
  )

  pub asks_nothing : (exits : List (List Edge)) (x o : ℕ) → AsksFrom f base [] exits x o → ⊥
  asks_nothing exits x o h = contains_none h.edge h.listed

  pub asks_more : (es more : List Edge) (exits : List (List Edge)) (x o : ℕ) → (AsksFrom f base es exits x o ⊎ AsksFrom f base more exits x o) ↔ AsksFrom f base (es ++ more) exits x o
  asks_more es more exits x o = (
    λ s. elim s [
      | inl h ↦ record { edge = h.edge; listed = Contains-append_left es more h.edge h.listed; asks = h.asks }
      | inr h ↦ record { edge = h.edge; listed = Contains-append_right es more h.edge h.listed; asks = h.asks }
    ],
    λ h. elim (Contains-append_cases es more h.edge h.listed) [
      | inl m ↦ inl (record { edge = h.edge; listed = m; asks = h.asks })
      | inr m ↦ inr (record { edge = h.edge; listed = m; asks = h.asks })
    ],
  )

  -- what a list of one edge has
  the_one : (e x : Edge) → Contains (e ∷ []) x → e ≡ x
  the_one e x h = elim (contains_cases e [] x h) [ inl s ↦ s | inr n ↦ absurd (contains_none x n) ]
