-- What a set of vertices that can be projected keeps hangs together.
use Rattle.std.proofs.Common.{◌≡◌, ℕ, ◌<◌, ◌≤◌, List, length, map, Contains, Bool, true, false, ◌&&◌, ◌||◌, not, Option, Some, None, refl, sym, ap, ◌∙◌, subst, arith}
use Rattle.std.specs.Prelude.{slice_get}
use Rattle.std.specs.List.{list_any, range_with_len}
use Rattle.std.specs.Option.{option_map_or}
use Rattle.std.proofs.lemmas.Bool.{and_from, or_left}
use Rattle.std.proofs.lemmas.Option.{slice_get_within}
use Rattle.c_language.proofs.Options.{some_same}
use Rattle.c_language.proofs.Tests.{false_true}
use Rattle.c_tree.specs.declared.expr.Expr.{Expr}
use Rattle.c_tree.specs.declared.program.Function.{Function}
use Rattle.c_tree.specs.declared.program.Program.{Program}
use Rattle.c_tree.specs.declared.statement.Statement.{Statement}
use Rattle.c_tree.specs.declared.statement.Target.{Target}
use Rattle.c_language.specs.Code.{Act, Returns}
use Rattle.c_language.specs.Mains.{main_of}
use Rattle.c_language.specs.NameRules.{is_main}
use Rattle.c_language.specs.Names.{act_names}
use Rattle.dep_model.specs.declared.vertex.Vertex.{Vertex}
use Rattle.dep_model.specs.declared.vertex.VertexKind.{VertexKind}
use Rattle.dep_model.specs.Doings.{Doing, Does, Calls, doing_number, doings_of, program_doings}
use Rattle.dep_model.specs.SystemGraph.{Analysis, vertices_of}
use Rattle.dep_model.proofs.Membership.{in_of_contains}
use Rattle.numbered_texts.proofs.CallsFit.{position_found}
use Rattle.projection.specs.KeptVertices.{returns, keeps_function, keeps_parameter, keeps_result, kept_words, kept_of}
use Rattle.projection.specs.Names.{call_names}
use Rattle.sdg.proofs.InFunction.{in_a_function}
use Rattle.shaped_graphs.proofs.KindLaws.{AreApart}
use Rattle.shaped_graphs.proofs.ShapeLaws.{CallsFit}
use Rattle.hanging_sets.specs.Hanging.{HangsTogether}
use Rattle.hanging_sets.specs.OwnParts.{HasOwnParts}
use Rattle.hanging_sets.specs.Laws.{CanProject}
use Rattle.hanging_sets.proofs.HeldVertices.{IsKept, of_entry, entry_kept, of_parameter}
use Rattle.hanging_sets.proofs.KeptCalls.{callee_kept, arguments_fit}
use Rattle.hanging_sets.proofs.KeptReturns.{returns_kept, ends_kept, results_kept}
use Rattle.hanging_sets.proofs.KeptVariables.{owners_kept, named_kept, parameters_stay, variables_stay}

not_so : (b : Bool) → (b ≡ true → ⊥) → b ≡ false
not_so true h = absurd (h refl)
not_so false h = refl

module _ (p : Program) (a : Analysis) (set : List Bool) (apart : AreApart (program_doings p)) (fit : CallsFit p) (own : HasOwnParts p) (can : CanProject p a set) where
  abbrev vs : List Vertex
  vs = vertices_of p a

  -- a kept vertex is of a function of the program
  low : (f : ℕ) (k : VertexKind) → IsKept set vs f k → f < length p.functions
  low f k w = in_a_function p a f w.number (record { kind = k; at = w.at })

  main_kept : (f : ℕ) → main_of p ≡ Some f → keeps_function set vs f ≡ true
  main_kept f is =
      let entry = can.projectable.closed.is_entry in
      let same : entry.function ≡ f = some_same (sym entry.is_main ∙ is) in
      subst (λ (g : ℕ). keeps_function set vs g ≡ true) same (entry_kept set vs entry.function (record { number = can.projectable.closed.main; at = entry.entry; member = can.projectable.closed.closed.entry }))

  main_gives : (f : ℕ) → main_of p ≡ Some f → keeps_result set vs p f ≡ true
  main_gives f is =
      let found = position_found (λ (c : Function). is_main c.name) p.functions f is in
      ap (λ (o : Option Function). option_map_or (λ (c : Function). is_main c.name || list_any (λ (s : Statement). returns (kept_words set vs).statement s) c.body) o false) found.at
      ∙ or_left (is_main found.value.name) _ found.passes

  past : {A : Type 0} (f : ℕ) → length p.functions ≤ f → f < length p.functions → A
  past f le lt = absurd (omega (arith, le, lt))

  gives_only : (f : ℕ) → length p.functions ≤ f → keeps_result set vs p f ≡ false
  gives_only f le = by_function (slice_get p.functions f) refl
    where
      by_function : (o : Option Function) → slice_get p.functions f ≡ o → keeps_result set vs p f ≡ false
      by_function None at = ap (λ (o : Option Function). option_map_or (λ (c : Function). is_main c.name || list_any (λ (s : Statement). returns (kept_words set vs).statement s) c.body) o false) at
      by_function (Some c) at = past f le (slice_get_within p.functions f c at)

  pub hangs : HangsTogether p (kept_of set vs p)
  hangs = record {
    nested = can.nests.nested;
    owners = λ f d m h. owners_kept p a set apart fit own can.edges can.projectable can.nests f d (in_of_contains (doings_of p f) d m) h;
    acts = λ f i x b m h n. named_kept p a set apart fit own can.edges can.projectable can.nests f (Does i b) x (in_of_contains (doings_of p f) (Does i b) m) (and_from ((kept_words set vs).statement i) (act_names b x) h n);
    calls = λ f i g x to args m h n. named_kept p a set apart fit own can.edges can.projectable can.nests f (Calls i to g args) x (in_of_contains (doings_of p f) (Calls i to g args) m) (and_from ((kept_words set vs).statement i) (call_names (kept_words set vs) i to args x) h n);
    variables = variables_stay p a set apart fit own can.edges can.projectable can.nests;
    parameters_too = parameters_stay p a set apart fit own can.edges can.projectable can.nests;
    callees = λ f i g to args m h. callee_kept p a set apart fit can.edges can.are_edges can.projectable f i g to args (in_of_contains (doings_of p f) (Calls i to g args) m) h;
    arguments = λ f i g to args m h n within. arguments_fit p a set apart fit can.edges can.are_edges can.projectable f i g to args (in_of_contains (doings_of p f) (Calls i to g args) m) n within h;
    results = λ f i g to args m h stored r. results_kept p a set apart fit own can.edges can.are_edges can.projectable f i g to args (in_of_contains (doings_of p f) (Calls i to g args) m) h stored r;
    returns = λ f i e m h. returns_kept p a set apart fit own can.edges can.are_edges can.projectable f i (Some e) (in_of_contains (doings_of p f) (Does i (Returns (Some e))) m) h;
    ends = λ f i e c at other gives h. ends_kept p a set apart fit own can.edges can.are_edges can.projectable f i (Some e) c at other gives h;
    main = main_kept;
    main_gives = main_gives;
    functions_only = λ f le. not_so (keeps_function set vs f) (λ h. past f le (low f _ (of_entry set vs f h)));
    parameters_only = λ f n le. not_so (keeps_parameter set vs f n) (λ h. past f le (low f _ (of_parameter set vs f n h)));
    gives_only = gives_only;
  }
