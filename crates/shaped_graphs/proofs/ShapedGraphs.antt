-- The graph of a well-formed program is shaped, since its statements are numbered, and its calls fit.
use Rattle.std.proofs.Common.{◌≡◌, ◌≢◌, ℕ, length, true, ◌&&◌, ◌||◌, not, refl}
use Rattle.c_tree.specs.declared.program.Program.{Program}
use Rattle.c_tree.specs.declared.statement.Target.{Target}
use Rattle.c_tree.specs.declared.statement.Target.TheVariants as target
use Rattle.c_language.specs.Mains.{is_main_of}
use Rattle.c_language.specs.Programs.{IsWellFormed}
use Rattle.dep_model.specs.Doings.{Calls, program_doings}
use Rattle.dep_model.specs.VertexOrder.{has_result}
use Rattle.numbered_texts.specs.FittingCalls.{fits, stores, takes_result, parameter_counts}
use Rattle.numbered_texts.proofs.NumbersButLines.{statements_numbered, calls_fit_well, results_stored}
use Rattle.shaped_graphs.specs.Laws.{GraphsAreShaped}
use Rattle.shaped_graphs.proofs.FitLaws.{each_passes, parameters_counted, calls_fit}
use Rattle.shaped_graphs.proofs.ShapeLaws.{CallsFit, graph_is_shaped}

given : (p : Program) (to : Target) (g : ℕ) → (not (stores to) || (has_result p g && not (is_main_of p g))) ≡ true → to ≢ target.None → (has_result p g && not (is_main_of p g)) ≡ true
given p target.None g h some = absurd (some refl)
given p (target.Place e) g h some = h
given p (target.Declared x) g h some = h

pub fit_of : (p : Program) → IsWellFormed p → CallsFit p
fit_of p well =
    calls_fit p p.statements (statements_numbered p well)
    (λ i to g args m. parameters_counted p g (length args) (each_passes (fits (parameter_counts p)) (program_doings p) (Calls i to g args) (calls_fit_well p well) m))
    (λ i to g args m some. given p to g (each_passes (takes_result p) (program_doings p) (Calls i to g args) (results_stored p well) m) some)

pub graphs_are_shaped : GraphsAreShaped
graphs_are_shaped p g well of_program few few_words = graph_is_shaped p of_program.analysis g (fit_of p well) of_program.is_graph few few_words
