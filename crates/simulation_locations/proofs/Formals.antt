-- What is wanted where a function begins and where it ends, and its formal-ins and formal-outs.
use Rattle.std.proofs.Common.{◌≡◌, ℕ, List, Bool, true, false, ◌&&◌, Option, None, inl, inr, refl, sym, ◌∙◌, subst}
use Rattle.std.proofs.lemmas.Bool.{false≢true, and_parts}
use Rattle.bit_rows.specs.Sets.{has}
use Rattle.c_tree.specs.declared.program.Program.{Program}
use Rattle.c_language.specs.Code.{Code}
use Rattle.dep_model.specs.declared.location.Location.{Location}
use Rattle.dep_model.specs.declared.vertex.VertexKind.{VertexKind}
use Rattle.dep_model.specs.declared.vertex.VertexKind.TheVariants as kind
use Rattle.dep_model.specs.FunctionVertices.{is_entry, is_formal_in, is_formal_out, numbers, heads, tails, code_in, vertices_at}
use Rattle.dep_model.specs.ModRef.{is_outside}
use Rattle.dep_model.specs.SystemGraph.{Analysis, vertices_of}
use Rattle.dep_model.specs.VertexOrder.{kind_uses, kind_defines, kind_kills}
use Rattle.dep_model.proofs.Membership.{IsIn, in_second, in_either}
use Rattle.run_facts.specs.NextSteps.{Ends, next_of}
use Rattle.simulation.specs.Settings.{FormalIn, FormalOut}
use Rattle.simulation_locations.specs.Wanted.{WantedAt, IsFlowClosed, last_of, entered_at}
use Rattle.simulation_locations.specs.KeptVertices.{takes_location, takes_argument, takes_in, keeps_vertex, takes}
use Rattle.simulation_locations.proofs.CallVertices.{kind_there, number_there, uses_is, defines_is, kills_is}
use Rattle.simulation_locations.proofs.Chains.{Free, used_in, behind, definer_kept}
use Rattle.simulation_locations.proofs.KeptNumbers.{passing, passes_any}
use Rattle.simulation_locations.proofs.NextPlaces.{next_there}

module _ (p : Program) (a : Analysis) (kept : List Bool) (f : ℕ) (l : Location) where
  -- ---- the end

  tails_free : Free p a kept f l (tails (vertices_of p a) f)
  tails_free n m =
      let k = kind_there p a is_formal_out f n m in
      kills_is p a f n k.kind l k.is ∙ no_kill k.kind k.passing
    where
      no_kill : (k : VertexKind) → is_formal_out k ≡ true → kind_kills p a.points f k l ≡ false
      no_kill kind.Entry e = refl
      no_kill (kind.FormalIn s) e = refl
      no_kill (kind.FormalOut s) e = refl
      no_kill (kind.Statement j) e = absurd (false≢true e)
      no_kill (kind.Call j) e = refl
      no_kill (kind.ActualIn j s) e = refl
      no_kill (kind.ActualOut j s) e = absurd (false≢true e)

  -- a kept formal-out uses its location
  pub wanted_passed_out : (c : Code) → next_of c ≡ Ends → keeps_vertex p a kept (FormalOut f l) ≡ true → WantedAt p a kept f l (entered_at p a f c)
  wanted_passed_out c e k =
      let test : VertexKind → Bool = (λ q. is_formal_out q && kind_uses p a.points f q l) in
      let w = passing (λ (n : ℕ). has kept n) (numbers test f (vertices_of p a)) k in
      let there = kind_there p a test f w.number w.member in
      let both = and_parts (is_formal_out there.kind) (kind_uses p a.points f there.kind l) there.passing in
      let outs = tails (vertices_of p a) f in
      let at_end : entered_at p a f c ≡ last_of p a f = next_there (vertices_at (vertices_of p a) f) (last_of p a f) c Ends e in
      subst (λ (o : Option ℕ). WantedAt p a kept f l o) (sym at_end) (used_in p a kept f l outs None (λ v w t. inr (inr t)) tails_free w.number (number_there p a is_formal_out f w.number there.kind there.is both.0) w.passes (uses_is p a f w.number there.kind l there.is ∙ both.1))

  -- ---- the beginning

  abbrev begins : List ℕ
  begins = heads (vertices_of p a) f

  heads_free : Free p a kept f l begins
  heads_free n m = elim (in_either (numbers is_entry f (vertices_of p a)) (numbers is_formal_in f (vertices_of p a)) n m) [
    | inl x ↦ (let k = kind_there p a is_entry f n x in kills_is p a f n k.kind l k.is ∙ of_entry k.kind k.passing)
    | inr y ↦ (let k = kind_there p a is_formal_in f n y in kills_is p a f n k.kind l k.is ∙ of_formal k.kind k.passing)
  ]
    where
      of_entry : (k : VertexKind) → is_entry k ≡ true → kind_kills p a.points f k l ≡ false
      of_entry kind.Entry e = refl
      of_entry (kind.FormalIn s) e = refl
      of_entry (kind.FormalOut s) e = refl
      of_entry (kind.Statement j) e = absurd (false≢true e)
      of_entry (kind.Call j) e = refl
      of_entry (kind.ActualIn j s) e = refl
      of_entry (kind.ActualOut j s) e = absurd (false≢true e)

      of_formal : (k : VertexKind) → is_formal_in k ≡ true → kind_kills p a.points f k l ≡ false
      of_formal kind.Entry e = refl
      of_formal (kind.FormalIn s) e = refl
      of_formal (kind.FormalOut s) e = refl
      of_formal (kind.Statement j) e = absurd (false≢true e)
      of_formal (kind.Call j) e = refl
      of_formal (kind.ActualIn j s) e = refl
      of_formal (kind.ActualOut j s) e = absurd (false≢true e)

  location_formal : (k : VertexKind) → takes_location k ≡ true → is_formal_in k ≡ true
  location_formal kind.Entry e = absurd (false≢true e)
  location_formal (kind.FormalIn s) e = refl
  location_formal (kind.FormalOut s) e = absurd (false≢true e)
  location_formal (kind.Statement j) e = absurd (false≢true e)
  location_formal (kind.Call j) e = absurd (false≢true e)
  location_formal (kind.ActualIn j s) e = absurd (false≢true e)
  location_formal (kind.ActualOut j s) e = absurd (false≢true e)

  argument_formal : (k : VertexKind) → takes_argument k ≡ true → is_formal_in k ≡ true
  argument_formal kind.Entry e = absurd (false≢true e)
  argument_formal (kind.FormalIn s) e = refl
  argument_formal (kind.FormalOut s) e = absurd (false≢true e)
  argument_formal (kind.Statement j) e = absurd (false≢true e)
  argument_formal (kind.Call j) e = absurd (false≢true e)
  argument_formal (kind.ActualIn j s) e = absurd (false≢true e)
  argument_formal (kind.ActualOut j s) e = absurd (false≢true e)

  takes_formal : (b : Bool) (k : VertexKind) → takes_in b k ≡ true → is_formal_in k ≡ true
  takes_formal true k e = location_formal k e
  takes_formal false k e = argument_formal k e

  -- the formal-in of what is wanted where a function begins is kept
  pub formal_in_kept : IsFlowClosed p a kept → WantedAt p a kept f l (entered_at p a f (code_in p f)) → takes p a f l ≡ true → keeps_vertex p a kept (FormalIn f l) ≡ true
  formal_in_kept closed h t =
      let test : VertexKind → Bool = (λ q. takes_in (is_outside p l) q && kind_defines p a.points f q l) in
      let w = passing (λ (n : ℕ). true) (numbers test f (vertices_of p a)) t in
      let there = kind_there p a test f w.number w.member in
      let both = and_parts (takes_in (is_outside p l) there.kind) (kind_defines p a.points f there.kind l) there.passing in
      let entry = numbers is_entry f (vertices_of p a) in
      let formals = numbers is_formal_in f (vertices_of p a) in
      let inside : IsIn begins w.number = in_second entry formals w.number (number_there p a is_formal_in f w.number there.kind there.is (takes_formal (is_outside p l) there.kind both.0)) in
      let before = behind p a kept f l begins (entered_at p a f (code_in p f)) (λ v x q. inl q) heads_free w.number inside h in
      passes_any (λ (n : ℕ). has kept n) (numbers test f (vertices_of p a)) w.number w.member (definer_kept p a kept f l closed w.number before.next before.pair (defines_is p a f w.number there.kind l there.is ∙ both.1) before.wanted)
