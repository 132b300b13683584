-- What is wanted at acts and at moves without an act, and what keeps an act.
use Rattle.std.proofs.Common.{◌≡◌, ℕ, List, [], ◌∷◌, map, Bool, true, false, ◌||◌, Option, Some, inl, inr, refl, sym, ◌∙◌, subst, eq-eqb}
use Rattle.std.specs.Prelude.{IsTrue}
use Rattle.std.specs.List.{range_with_len}
use Rattle.bit_rows.specs.Sets.{has}
use Rattle.std.proofs.lemmas.Bool.{false≢true}
use Rattle.c_language.proofs.Tests.{or_none}
use Rattle.c_tree.specs.declared.program.Program.{Program}
use Rattle.c_language.specs.Code.{Act, Code}
use Rattle.c_meaning.specs.Values.{Types, State}
use Rattle.c_meaning.specs.Acts.{Made}
use Rattle.dep_model.specs.declared.location.Location.{Location}
use Rattle.dep_model.specs.declared.vertex.VertexKind.{VertexKind}
use Rattle.dep_model.specs.declared.vertex.VertexKind.TheVariants as kind
use Rattle.dep_model.specs.Doings as doing
use Rattle.dep_model.specs.Doings.{doing_number, program_doings, doings_of}
use Rattle.dep_model.specs.Follows.{InTurn}
use Rattle.dep_model.specs.FunctionVertices.{is_own, is_actual, numbers, vertices_at}
use Rattle.dep_model.specs.SystemGraph.{Analysis, vertices_of}
use Rattle.dep_model.proofs.Membership.{IsIn}
use Rattle.run_facts.specs.NextSteps.{Passes, Does, next_of}
use Rattle.simulation.specs.Settings.{Statement}
use Rattle.simulation_locations.specs.Wanted as wanted
use Rattle.simulation_locations.specs.Wanted.{WantedAt, used, before, IsFlowClosed, IsPlaceOf, last_of, entered_at}
use Rattle.simulation_locations.specs.KeptVertices.{is_statement, keeps_vertex, vertex_uses, vertex_defines, vertex_kills}
use Rattle.simulation_locations.proofs.CallVertices.{kind_there, number_there, uses_is, defines_is, kills_is, ActVertex, act_vertex}
use Rattle.simulation_locations.proofs.Chains.{definer_kept}
use Rattle.simulation_locations.proofs.KeptNumbers.{passing, passes_any}
use Rattle.simulation_locations.proofs.NextPlaces.{next_there}

module _ (p : Program) (a : Analysis) (statements_are : map doing_number (program_doings p) ≡ range_with_len 0 p.statements) (kept : List Bool) where
  module _ (f : ℕ) (c : Code) (l : Location) (place : IsPlaceOf p a f c) where
    -- before a move without an act
    pub wanted_before_move : (change : Types → State → State) (r : Code) → next_of c ≡ Passes change r → WantedAt p a kept f l (entered_at p a f r) → WantedAt p a kept f l (entered_at p a f c)
    wanted_before_move change r e h =
        let there = next_there (vertices_at (vertices_of p a) f) (last_of p a f) c (Passes change r) e in
        subst (λ (o : Option ℕ). WantedAt p a kept f l o) (sym there.starts) h

    module _ (i : ℕ) (act : Act) (go : Made → Code) (e : next_of c ≡ Does i act go) (member : IsIn (doings_of p f) (doing.Does i act)) where
      own : ActVertex p a statements_are f i
      own = act_vertex p a statements_are f i act member

      enters_own : entered_at p a f c ≡ Some own.vertex
      enters_own =
          (next_there (vertices_at (vertices_of p a) f) (last_of p a f) c (Does i act go) e).starts own.vertex (own.all_are (Some act))

      next_own : (m : Made) → wanted.Next p a f own.vertex (entered_at p a f (go m))
      next_own m =
          let there = next_there (vertices_at (vertices_of p a) f) (last_of p a f) c (Does i act go) e in
          place own.vertex (entered_at p a f (go m)) (there.turns m own.vertex (entered_at p a f (go m)) (in_own (vertices_at (vertices_of p a) f i (Some act)) (own.all_are (Some act))))
        where
          in_own : (ns : List ℕ) → ns ≡ own.vertex ∷ [] → InTurn ns (entered_at p a f (go m)) own.vertex (entered_at p a f (go m))
          in_own ns q = subst (λ (ms : List ℕ). InTurn ms (entered_at p a f (go m)) own.vertex (entered_at p a f (go m))) (sym q) (inl (refl, refl))

      -- the statement's one vertex is the one that is kept
      own_kept : keeps_vertex p a kept (Statement f i) ≡ true → IsTrue (has kept own.vertex)
      own_kept k =
          let w = passing (λ (n : ℕ). has kept n) (numbers (is_statement i) f (vertices_of p a)) k in
          let there = kind_there p a (is_statement i) f w.number w.member in
          let inside : IsIn (vertices_at (vertices_of p a) f i (Some act)) w.number = number_there p a (λ k. is_own i k || is_actual i k) f w.number there.kind there.is (of_statement there.kind there.passing) in
          subst (λ (n : ℕ). IsTrue (has kept n)) (sym (only own.vertex w.number (subst (λ (ns : List ℕ). IsIn ns w.number) (own.all_are (Some act)) inside))) w.passes
        where
          of_statement : (k : VertexKind) → is_statement i k ≡ true → (is_own i k || is_actual i k) ≡ true
          of_statement (kind.Statement j) q = or_none _ ∙ q
          of_statement kind.Entry q = absurd (false≢true q)
          of_statement (kind.FormalIn s) q = absurd (false≢true q)
          of_statement (kind.FormalOut s) q = absurd (false≢true q)
          of_statement (kind.Call j) q = absurd (false≢true q)
          of_statement (kind.ActualIn j s) q = absurd (false≢true q)
          of_statement (kind.ActualOut j s) q = absurd (false≢true q)

          only : (n m : ℕ) → IsIn (n ∷ []) m → n ≡ m
          only n m (inl q) = q
          only n m (inr q) = absurd q

      -- a kept statement's vertex uses it
      pub wanted_used : keeps_vertex p a kept (Statement f i) ≡ true → vertex_uses p a (Statement f i) l ≡ true → WantedAt p a kept f l (entered_at p a f c)
      wanted_used k u =
          subst (λ (o : Option ℕ). WantedAt p a kept f l o) (sym enters_own) (used (own_kept k) (uses_is p a f own.vertex (kind.Statement i) l own.is ∙ u))

      -- it is wanted behind it, and it doesn't kill it
      pub wanted_before_act : (m : Made) → vertex_kills p a (Statement f i) l ≡ false → WantedAt p a kept f l (entered_at p a f (go m)) → WantedAt p a kept f l (entered_at p a f c)
      wanted_before_act m k h =
          subst (λ (o : Option ℕ). WantedAt p a kept f l o) (sym enters_own) (before (next_own m) (kills_is p a f own.vertex (kind.Statement i) l own.is ∙ k) h)

      -- a statement that may define what is wanted directly after it is kept
      pub definer_act_kept : IsFlowClosed p a kept → (m : Made) → vertex_defines p a (Statement f i) l ≡ true → WantedAt p a kept f l (entered_at p a f (go m)) → keeps_vertex p a kept (Statement f i) ≡ true
      definer_act_kept closed m d h =
          let is_kept = definer_kept p a kept f l closed own.vertex (entered_at p a f (go m)) (next_own m) (defines_is p a f own.vertex (kind.Statement i) l own.is ∙ d) h in
          passes_any (λ (n : ℕ). has kept n) (numbers (is_statement i) f (vertices_of p a)) own.vertex (number_there p a (is_statement i) f own.vertex (kind.Statement i) own.is (eq-eqb i i refl)) is_kept
