-- The calls of well-formed programs are sound.
use Rattle.std.proofs.Common.{◌≡◌, ℕ, [], ◌∷◌, Bool, true, false, Contains, inl, inr, refl}
use Rattle.std.specs.Prelude.{◌≢◌, if◌then◌else◌, ◌&&◌, not}
use Rattle.std.proofs.lemmas.Bool.{false≢true}
use Rattle.c_tree.specs.declared.program.Program.{Program}
use Rattle.c_tree.specs.declared.statement.Target.{Target}
use Rattle.c_tree.specs.declared.statement.Target.TheVariants as target
use Rattle.c_language.specs.Mains.{is_main_of}
use Rattle.c_language.specs.Programs.{IsWellFormed}
use Rattle.dep_model.specs.declared.vertex.Slot.TheVariants.{Result}
use Rattle.dep_model.specs.Doings.{doings_of}
use Rattle.dep_model.specs.SystemGraph.{Analysis, IsAnalysis}
use Rattle.dep_model.specs.VertexOrder.{has_result, result_slots}
use Rattle.dep_model.proofs.Membership.{IsIn, contains_of_in, in_of_contains}
use Rattle.numbered_texts.proofs.ListedEffects.{effects_listed}
use Rattle.numbered_texts.proofs.NumbersButLines.{statements_numbered, named_exist}
use Rattle.shaped_graphs.proofs.ShapedGraphs.{fit_of}
use Rattle.run_facts.specs.NextSteps.{stores}
use Rattle.simulation_locations.specs.Chained.{HasSoundCalls}

stored_somewhere : (to : Target) → stores to ≡ true → to ≢ target.None
stored_somewhere target.None st e = false≢true st
stored_somewhere (target.Place x) st e = cc
stored_somewhere (target.Declared x) st e = cc

in_chosen : (b : Bool) → b ≡ true → IsIn (if b then Result ∷ [] else []) Result
in_chosen true e = inl refl
in_chosen false e = absurd (false≢true e)

result_there : (p : Program) (a : Analysis) (g : ℕ) → (has_result p g && not (is_main_of p g)) ≡ true → Contains (result_slots p a.effects g) Result
result_there p a g gives = contains_of_in (result_slots p a.effects g) Result (in_chosen (has_result p g && not (is_main_of p g)) gives)

pub sound_calls : (p : Program) (a : Analysis) → IsWellFormed p → IsAnalysis p a → HasSoundCalls p a
sound_calls p a ok is_analysis =
    let fit = fit_of p ok in
    record {
      numbered = statements_numbered p ok;
      modified_listed = λ f l e. effects_listed p a.points (named_exist p ok) f l (inl ((is_analysis.effects_are.modified_are f l).0 e));
      used_listed = λ f l e. effects_listed p a.points (named_exist p ok) f l (inr ((is_analysis.effects_are.used_are f l).0 e));
      callees = λ f i g to args m. fit.there f i to g args (in_of_contains (doings_of p f) _ m);
      results = λ f i g to args m st. result_there p a g (fit.gives f i to g args (in_of_contains (doings_of p f) _ m) (stored_somewhere to st));
    }
